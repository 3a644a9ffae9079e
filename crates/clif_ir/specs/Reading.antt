-- What the calls that read a function answer. Source: own, after the crate's documentation.
use Rattle.std.specs.Prelude.{ℕ, ◌<◌, List, [], length, Option, Some, None, slice_get, ◌-◌}
use Rattle.clif_ir.specs.declared.function.ValueDef.{ValueDef}
use Rattle.clif_ir.specs.declared.function.ValueDef.TheVariants as def
use Rattle.clif_nodes.specs.declared.nodes.ValueOrigin.{ValueOrigin}
use Rattle.clif_nodes.specs.declared.nodes.ValueOrigin.TheVariants.{Result, Param, Alias}
use Rattle.clif_nodes.specs.declared.nodes.ValueNode.{ValueNode}
use Rattle.clif_instructions.specs.declared.block_call.BlockCall.{BlockCall}
use Rattle.clif_instructions.specs.Edges.{targets}
use Rattle.clif_instructions.specs.Instruction.{destinations}
use Rattle.clif_instructions.specs.Members.{place_of}
use Rattle.clif_ir.specs.Body.{Body, block_at, inst_at}

-- what defines a value that is no alias
abbrev pub def_of : Body → ℕ → ValueOrigin → ValueDef
def_of f v (Result i k) = def.Result i k
def_of f v (Param b) = def.Param b (place_of v (block_at f b).params)
def_of f v (Alias original) = def.Param 0 0

-- what defines a value exists
abbrev pub DefExists : Body → ValueDef → Type 0
DefExists f (def.Result i k) = i < length f.insts
DefExists f (def.Param b k) = b < length f.blocks

-- the block of which a value is a parameter, if it is one
abbrev pub home_of_param : ValueOrigin → Option ℕ
home_of_param (Result i k) = None
home_of_param (Param b) = Some b
home_of_param (Alias original) = None

abbrev pub home_of_node : Option ValueNode → Option ℕ
home_of_node None = None
home_of_node (Some node) = home_of_param node.origin

abbrev pub param_home : Body → ℕ → Option ℕ
param_home f v = home_of_node (slice_get f.values v)

-- the place of an instruction among those of its block
abbrev pub place_in_block : Body → ℕ → ℕ
place_in_block f i = place_of i (block_at f (inst_at f i).block).insts

-- the edges of an instruction, if there is one
abbrev pub edges_of : Body → Option ℕ → List BlockCall
edges_of f None = []
edges_of f (Some i) = destinations (inst_at f i).shape

-- the targets of the last instruction of a block
abbrev pub successors : Body → ℕ → List ℕ
successors f b = targets (edges_of f (slice_get (block_at f b).insts (length (block_at f b).insts - 1)))
