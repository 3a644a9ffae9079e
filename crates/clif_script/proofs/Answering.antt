-- An answer is no error.
use Rattle.std.proofs.Common.{◌≡◌, ◌≢◌, List, inl, inr, subst}
use Rattle.std.specs.Prelude.{◌⊎◌, Option, Result, Ok, Err, IfOk}
use Rattle.clif_types.specs.Signature.{SignatureShape}
use Rattle.clif_types.specs.declared.extname.UserFuncName.{UserFuncName}
use Rattle.clif_types.specs.declared.target.TargetFrontendConfig.{TargetFrontendConfig}
use Rattle.clif_ir.specs.Body.{Body}
use Rattle.clif_regions.specs.Asking.{Asks}
use Rattle.clif_calls.specs.declared.call.Call.{Call}
use Rattle.clif_replay.specs.Replay.{ReplayMakes}

pub answer_no_error : {A E : Type 0} (value : A) (error : E) → ◌≢◌ {A = Result A E} (Ok value) (Err error)
answer_no_error value error same = let no_way : ⊥ = cc in no_way

-- what an answer tells, if it is no error, holds of one that is a value
pub of_value : {A E P Q : Type 0} (value : A) (error : E) → P ⊎ ((◌≡◌ {A = Result A E} (Ok value) (Err error)) × Q) → P
of_value value error (inl holds) = holds
of_value value error (inr (same, other)) = absurd (answer_no_error value error same)

-- what follows for a value holds of an answer that is one
pub if_ok_then : {A E : Type 0} {P Q : A → Type 0} (answer : Result A E) → ((value : A) → P value → Q value) → IfOk answer P → IfOk answer Q
if_ok_then (Ok value) follows holds = follows value holds
if_ok_then (Err error) follows holds = tt

-- a replay makes the function of these calls, which are the script's
pub made_by_calls : {C : Type 0} (callback : Option C) (asks_of : C → Asks) (given calls : List Call) (name : UserFuncName) (declared : SignatureShape) (config : TargetFrontendConfig) (f : Body) → given ≡ calls
    → ReplayMakes given name declared config callback asks_of f → ReplayMakes calls name declared config callback asks_of f
made_by_calls callback asks_of given calls name declared config f same makes = subst (λ (list : List Call). ReplayMakes list name declared config callback asks_of f) same makes
