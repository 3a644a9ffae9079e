-- How a builder comes to stand for the calls of a script, as a law function of this crate states it. Own.
use Rattle.std.specs.Prelude.{◌≡◌, ℕ, IsTrue, List, [], ◌∷◌, ◌++◌}
use Rattle.clif_types.specs.declared.target.PointerWidth.{PointerWidth}
use Rattle.clif_types.specs.Signature.{SignatureShape}
use Rattle.clif_meaning.specs.Acceptance.{allows}
use Rattle.clif_meaning.specs.Request.{Request}
use Rattle.clif_expansion.specs.Joining.{IsReadRequest}
use Rattle.clif_expansion.specs.ScriptCall.{Ask, ScriptCall, call_allowed, ledger_of}
use Rattle.clif_builder.specs.declared.builder.FunctionBuilder.{FunctionBuilder}
use Rattle.clif_builder.specs.Calls.{answered}
use Rattle.clif_builder.specs.Ledger.{ledger_of as plain_ledger_of}
use Rattle.clif_builder.specs.StandsFor.{StandsFor}
use Rattle.clif_builder.specs.StandsForCalls.{NamesAnswers, StandsForCalls, StandsOnFor}

pub record BuildersStandForCalls (R : Type 0) : Type 0 where
  -- a builder that was asked nothing stands for no calls
  pub begins : (width : PointerWidth) (declared : SignatureShape) (b : FunctionBuilder R) → StandsFor declared [] b → StandsForCalls width declared [] b
  -- A call of the script is allowed exactly where the builder's call is that asks the same, with its names read.
  pub allowed : (width : PointerWidth) (declared : SignatureShape) (calls : List ScriptCall) (b : FunctionBuilder R) (so_far : StandsForCalls width declared calls b) (asked request : Request)
      → IsReadRequest so_far.reading asked request → call_allowed (ledger_of calls) (Ask request) ≡ allows (plain_ledger_of so_far.made) asked
  -- Behind such a call the builder stands for the script with that call at its end, if it was allowed: whatever the call was.
  pub asks : (width : PointerWidth) (declared : SignatureShape) (calls : List ScriptCall) (old new : FunctionBuilder R) (before : StandsForCalls width declared calls old) (asked request : Request) (numbers : List ℕ)
      → IsReadRequest before.reading asked request → IsTrue (call_allowed (ledger_of calls) (Ask request))
      → StandsFor declared (before.made ++ answered asked numbers ∷ []) new
      → (on : StandsOnFor before (calls ++ Ask request ∷ []) new) × NamesAnswers before on.0
