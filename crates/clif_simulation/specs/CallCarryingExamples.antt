-- A worked example of a function that carries a list with an outside call: a block that calls a function by its name; where the
-- call's result has another type, the function doesn't carry the list. Own.
use Rattle.std.specs.Prelude.{false, List, [], ◌∷◌}
use Rattle.clif_types.specs.Signature.{SignatureShape}
use Rattle.clif_types.specs.declared.call_conv.CallConv.TheVariants.{SystemV}
use Rattle.clif_types.specs.declared.extname.ExternalName.{ExternalName}
use Rattle.clif_types.specs.declared.extname.ExternalName.TheVariants.{User}
use Rattle.clif_types.specs.declared.extname.UserFuncName.TheVariants.{Testcase}
use Rattle.clif_types.specs.declared.types.«Type».{«Type»}
use Rattle.clif_types.specs.declared.types.«Type».TheVariants as type
use Rattle.clif_instructions.specs.declared.insert_at.InsertAt.TheVariants.{Back}
use Rattle.clif_instructions.specs.declared.instructions.InstructionData.TheVariants as shape
use Rattle.clif_tables.specs.Lists.{TableLists, no_entries}
use Rattle.clif_ir.specs.Body.{Body, empty_body}
use Rattle.clif_ir.specs.Changes.{inserted_in, with_block, with_inst}
use Rattle.clif_ssa.specs.Ssa.{no_state}
use Rattle.clif_meaning.specs.Instruction.{Call, Instruction}
use Rattle.clif_meaning.specs.Name.{Name}
use Rattle.clif_meaning.specs.Request.{CreateBlock, SwitchToBlock, Build, AnsweredCall}
use Rattle.clif_meaning.specs.Examples.{i8, i32, first_signature}
use Rattle.clif_meaning.specs.BranchExamples.{block}
use Rattle.clif_simulation.specs.Carries.{Carries}

-- it takes nothing and gives an `i32`
abbrev pub callee_signature : SignatureShape
callee_signature = record { params = []; returns = record { value_type = i32 } ∷ []; call_conv = SystemV }

abbrev pub callee_name : ExternalName
callee_name = User (record { namespace = 0; index = 0 })

abbrev pub with_callee : TableLists
with_callee = record no_entries {
  signatures = callee_signature ∷ [];
  functions = record { name = callee_name; signature = 0; colocated = false; patchable = false } ∷ [];
}

abbrev pub call_instruction : Instruction Name Name
call_instruction = record { operation = Call callee_name callee_signature; controlling = type.Invalid; operands = []; contexts = []; edges = [] }

-- a block, and a call in it
abbrev pub before_call : List AnsweredCall
before_call = record { request = CreateBlock; numbers = 0 ∷ [] } ∷ record { request = SwitchToBlock (block 0); numbers = [] } ∷ []

abbrev pub call_calls : List AnsweredCall
call_calls =
    record { request = CreateBlock; numbers = 0 ∷ [] } ∷ record { request = SwitchToBlock (block 0); numbers = [] }
    ∷ record { request = Build [] call_instruction; numbers = 0 ∷ 0 ∷ [] } ∷ []

-- a function of this signature that knows the callee
abbrev pub empty_calling : SignatureShape → Body
empty_calling signature = record (empty_body (Testcase (99 ∷ [])) signature) { tables = with_callee }

abbrev pub empty_with_callee : Body
empty_with_callee = empty_calling first_signature

abbrev pub block_with_callee : Body
block_with_callee = with_block empty_with_callee

-- with a result of this type:
--     block0:
--         v0 = call fn0()
abbrev pub call_body : «Type» → Body
call_body ty = with_inst (inserted_in block_with_callee 0) 0 Back (shape.Call 0 []) (ty ∷ []) 0

pub record CallCarryingExamples : Type 0 where
  pub carried : Carries call_calls (call_body i32) no_state
  pub other_type : Carries call_calls (call_body i8) no_state → ⊥
