-- Functions that differ only in the alias regions that their loads and stores name. A region promises that accesses of other regions
-- don't overlap; it is no part of what an instruction does. After the documentation of Cranelift's `MemFlags`.
use Rattle.std.specs.Prelude.{◌≡◌, List, [], map, None}
use Rattle.clif_types.specs.MemFlags.{MemFlagsShape}
use Rattle.clif_instructions.specs.declared.instructions.InstructionData.{InstructionData}
use Rattle.clif_instructions.specs.declared.instructions.InstructionData.TheVariants as shape
use Rattle.clif_nodes.specs.declared.nodes.InstNode.{InstNode}
use Rattle.clif_ir.specs.Body.{Body}
use Rattle.clif_meaning.specs.FunctionView.{BlockView, FunctionView, Placed}
use Rattle.clif_meaning.specs.Instruction.{Load, Operation, Store}

-- the flags of an access that names no region
abbrev pub without_region : MemFlagsShape → MemFlagsShape
without_region flags = record flags { alias_region = None }

-- AS MACHINES SEE IT ------------------------------------------------------------------------------------------------------

abbrev pub plain_operation : Operation → Operation
plain_operation (Load flags offset) = Load (without_region flags) offset
plain_operation (Store flags offset) = Store (without_region flags) offset
plain_operation operation = operation

abbrev pub plain_placed : Placed → Placed
plain_placed placed = record placed { instruction = record placed.instruction { operation = plain_operation placed.instruction.operation } }

abbrev pub plain_items : List Placed → List Placed
plain_items items = map plain_placed items

abbrev pub plain_block : BlockView → BlockView
plain_block block = record block { items = plain_items block.items }

-- the function, in which no load and no store names a region
abbrev pub without_regions : FunctionView → FunctionView
without_regions function = record function { blocks = λ block. plain_block (function.blocks block) }

-- AS IT IS BUILT ----------------------------------------------------------------------------------------------------------

abbrev pub plain_shape : InstructionData → InstructionData
plain_shape (shape.Load flags arg offset) = shape.Load (without_region flags) arg offset
plain_shape (shape.Store flags args offset) = shape.Store (without_region flags) args offset
plain_shape one = one

abbrev pub plain_node : InstNode → InstNode
plain_node node = record node { shape = plain_shape node.shape }

-- The same of a function that was built, which has no region then, either.
abbrev pub plain_body : Body → Body
plain_body body = record body {
  insts = map plain_node body.insts;
  tables = record body.tables { alias_regions = record { regions = []; refusal = None } };
}

-- Two functions are alike but for regions: those that they have, and those that their loads and stores name.
abbrev pub AreAlikeButForRegions : Body → Body → Type 0
AreAlikeButForRegions f g = plain_body f ≡ plain_body g
