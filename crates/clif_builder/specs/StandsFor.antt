-- When a builder stands for a list of calls with their answers. From it follows that the unfinished function reads right
-- on runs and bits (`Laws`), and that the finished function means what the list's program means. Own.
use Rattle.std.specs.Prelude.{◌≡◌, ◌≢◌, ◌⊎◌, ℕ, List, Option, Some, slice_get}
use Rattle.clif_types.specs.Signature.{SignatureShape}
use Rattle.clif_ir.specs.Body.{Body}
use Rattle.clif_meaning.specs.Request.{AnsweredCall}
use Rattle.clif_simulation.specs.Carries.{Carries, LeadsBuilt}
pub use Rattle.clif_simulation.specs.Carries.{NothingLeads}
pub use Rattle.clif_simulation.specs.Structure.{LeavesNoParameter}
use Rattle.clif_simulation.specs.Structure.{HasCallersAlone}
use Rattle.clif_builder.specs.declared.context.BlockStatus.TheVariants.{Empty}
use Rattle.clif_builder.specs.declared.builder.FunctionBuilder.{FunctionBuilder}
use Rattle.clif_builder.specs.Context.{ContextState, status_of}
use Rattle.clif_builder.specs.Ledger.{IsBegun, LedgerAgrees, ledger_of}

-- the parts of a builder stand for a list of calls on a function of the caller's signature
pub record StandsIn (declared : SignatureShape) (calls : List AnsweredCall) (f : Body) (c : ContextState) (position : Option ℕ) : Type 0 where
  -- the function has the signature that the caller gave it
  pub signature : f.signature ≡ declared
  -- the ledger of the calls agrees with what the queries answer
  pub ledger : LedgerAgrees calls (ledger_of calls) f c position
  -- each block's instructions are the program's, in order, operands being the answers of the names, with only zeros
  -- before them; and where the entry is free the state on paths is sound
  pub carries : Carries calls f c.ssa
  -- each predecessor that the ledger has is an instruction
  pub leads_built : LeadsBuilt calls
  -- in the entry, the first block of the layout, something was made
  pub begun : (entry : ℕ) → slice_get f.layout 0 ≡ Some entry → status_of c entry ≢ Empty
  -- a block has the parameters that the calls made alone, unless something was made in it
  pub callers_alone : (block : ℕ) → HasCallersAlone calls f block ⊎ IsBegun f c block

-- the builder stands for the list of calls
abbrev pub StandsFor : {R : Type 0} → SignatureShape → List AnsweredCall → FunctionBuilder R → Type 0
StandsFor declared calls b = StandsIn declared calls b.func.now b.ctx.now.parts b.position
