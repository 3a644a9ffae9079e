-- What a replay answers, of the calls, the name, the signature and the target. Own.
use Rattle.std.specs.Prelude.{◌≡◌, ◌≢◌, ◌<◌, ◌⊎◌, ℕ, List, length, Option, Result, Err}
use Rattle.clif_types.specs.Signature.{SignatureShape}
use Rattle.clif_types.specs.declared.extname.UserFuncName.{UserFuncName}
use Rattle.clif_types.specs.declared.target.TargetFrontendConfig.{TargetFrontendConfig}
use Rattle.clif_ir.specs.Body.{Body}
use Rattle.clif_meaning.specs.View.{view_of}
use Rattle.clif_meaning.specs.Typing.{EdgesMatch}
use Rattle.clif_meaning.specs.Acceptance.{Accepted}
use Rattle.clif_calls.specs.declared.call.Call.{Call}
use Rattle.clif_expansion.specs.CallsHeadline.{CallersEdgesMatchInCalls, CallsMeanTheSame}
use Rattle.clif_expansion.specs.CallsVerdict.{verdict_on_call_attempts}
use Rattle.clif_regions.specs.Asking.{Asks}
use Rattle.clif_replay.specs.declared.script.ReplayError.{ReplayError}
use Rattle.clif_replay.specs.declared.script.ReplayError.TheVariants as replay
use Rattle.clif_replay.specs.Requests.{attempts_of, calls_of}
use Rattle.clif_replay.specs.Replayed.{IsBuiltAsking, IsStoppedByTable, IsStoppedInSpilling, MayBeRefused, TellsVerdict}

-- the function that the calls make
pub record ReplayMakes {C : Type 0} (calls : List Call) (name : UserFuncName) (declared : SignatureShape) (config : TargetFrontendConfig) (callback : Option C) (asks_of : C → Asks) (f : Body) : Type 0 where
  pub same_meaning : CallsMeanTheSame (calls_of config declared calls) declared config.pointer_width (view_of f)
  pub built : IsBuiltAsking config calls declared callback asks_of f
  pub edges_match : CallersEdgesMatchInCalls (calls_of config declared calls) → EdgesMatch (view_of f)
  pub named : f.name ≡ name
  pub accepted : verdict_on_call_attempts (attempts_of config declared calls) ≡ Accepted

-- what an error tells of the calls
pub record ReplayTells (calls : List Call) (name : UserFuncName) (declared : SignatureShape) (config : TargetFrontendConfig) (answer : Result Body ReplayError) : Type 0 where
  pub misuse : (i : ℕ) → answer ≡ Err (replay.Misuse i) → i < length calls
  pub refused : (i : ℕ) → answer ≡ Err (replay.Refused i) → MayBeRefused calls i
  pub table_full : answer ≡ Err replay.Full → IsStoppedByTable config calls name declared ⊎ IsStoppedInSpilling config calls declared
  pub verdict : answer ≢ Err replay.Memory → answer ≢ Err replay.Full → TellsVerdict config calls declared answer
