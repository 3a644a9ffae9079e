-- What the answers of the builder's calls share.
use Rattle.std.proofs.Common.{◌≡◌, ◌≢◌, ◌∷◌, ◌++◌, [], List, refl, sym, subst, ap, ◌∙◌}
use Rattle.std.specs.Prelude.{true, false, is_err, Result, Ok, Err, IfOk, OnOk, OnErr}
use Rattle.clif_types.specs.declared.error.BuildError.{BuildError}
use Rattle.clif_types.specs.declared.error.BuildError.TheVariants.{Failed, Memory}
use Rattle.clif_types.specs.Signature.{SignatureShape}
use Rattle.clif_meaning.specs.Request.{AnsweredCall}
use Rattle.clif_ssa.specs.Ssa.{SsaState}
use Rattle.clif_ssa.specs.Structure.{LooksOnce}
use Rattle.clif_builder.specs.declared.builder.FunctionBuilder.{FunctionBuilder}
use Rattle.clif_builder.specs.Builder.{IsLeft, SameLoans}
use Rattle.clif_builder.specs.Growth.{TypesStay}
use Rattle.clif_builder.proofs.Framed.{SameFilled, left-free, still-left}
use Rattle.clif_builder.proofs.Growing.{on_ok_step}
use Rattle.clif_builder.specs.Calls.{IsCall, IsTold}
use Rattle.clif_builder.specs.Ledger.{AgreesWithLedger}
use Rattle.clif_builder.specs.StandsFor.{StandsFor}

pub if_ok : {A E : Type 0} (answer : Result A E) (P : Type 0) → OnOk answer P → IfOk answer (λ _. P)
if_ok (Ok a) P here = here
if_ok (Err e) P here = here

-- a call with one way to be told, whatever it answers
pub told : {A : Type 0} {R : Type 0} (old new : FunctionBuilder R) (answer : Result A BuildError) (names : List AnsweredCall → Type 0) (call : AnsweredCall)
    → ((calls : List AnsweredCall) → AgreesWithLedger calls old → names calls → OnOk answer (AgreesWithLedger (calls ++ call ∷ []) new))
    → ((signature : SignatureShape) (calls : List AnsweredCall) → StandsFor signature calls old → names calls
    → OnOk answer (AgreesWithLedger (calls ++ call ∷ []) new) → OnOk answer (StandsFor signature (calls ++ call ∷ []) new))
    → IsTold old new answer names (λ _. call)
told old new answer names call ledger stands =
    record {
      ledger = λ calls agrees named. if_ok answer _ (ledger calls agrees named);
      stands = λ signature calls standing named. if_ok answer _ (stands signature calls standing named (ledger calls standing.ledger named));
    }

-- a call that is told by what it answers
pub told_by : {A : Type 0} {R : Type 0} (old new : FunctionBuilder R) (answer : Result A BuildError) (names : List AnsweredCall → Type 0) (call : A → AnsweredCall)
    → ((calls : List AnsweredCall) → AgreesWithLedger calls old → names calls → IfOk answer (λ a. AgreesWithLedger (calls ++ call a ∷ []) new))
    → ((signature : SignatureShape) (calls : List AnsweredCall) → StandsFor signature calls old → names calls
    → IfOk answer (λ a. AgreesWithLedger (calls ++ call a ∷ []) new) → IfOk answer (λ a. StandsFor signature (calls ++ call a ∷ []) new))
    → IsTold old new answer names call
told_by old new answer names call ledger stands =
    record {
      ledger = ledger;
      stands = λ signature calls standing named. stands signature calls standing named (ledger calls standing.ledger named);
    }

-- a call of a builder that hasn't failed
pub made : {A : Type 0} {R : Type 0} (old new : FunctionBuilder R) (answer : Result A BuildError)
    → SameLoans old new → new.position ≡ old.position → new.srcloc ≡ old.srcloc → old.failed ≡ false → answer ≢ Err Failed → new.failed ≡ is_err answer
    → (LooksOnce old.ctx.now.parts.ssa → LooksOnce new.ctx.now.parts.ssa) → OnOk answer (TypesStay old.func.now new.func.now) → OnOk answer (SameFilled old.ctx.now.parts new.ctx.now.parts)
    → IsCall old new answer
made {A} old new answer loans position srcloc fine never_failed fails looks_once types filled =
    record {
      loans = loans;
      position = position;
      srcloc = srcloc;
      failed = (λ failed. absurd (never_failed failed), λ failed. let no_way : ⊥ = cc in absurd no_way);
      unchanged = λ failed. let no_way : ⊥ = cc in absurd no_way;
      fails = fails;
      looks_once = looks_once;
      types = types;
      fills = on_ok_step answer _ _ (λ same b. (same b).0) filled;
      left = λ left. on_ok_step answer _ _ (still left) filled;
      free = λ left. on_ok_step answer _ _ (λ same. left-free new.position new.func.now new.ctx.now.parts (still left same).filled) filled;
    }
  where
    still : IsLeft old → SameFilled old.ctx.now.parts new.ctx.now.parts → IsLeft new
    still left same = record { filled = still-left old.position new.position old.ctx.now.parts new.ctx.now.parts position same left.filled }

-- what fails by memory alone doesn't fail because the builder failed before
pub by_memory : {A : Type 0} (answer : Result A BuildError) → OnErr answer (answer ≡ Err Memory) → answer ≢ Err Failed
by_memory (Ok a) only is = let no_way : ⊥ = cc in absurd no_way
by_memory (Err e) only is = let no_way : ⊥ = cc in absurd no_way

-- what succeeds doesn't fail
pub by_success : {A : Type 0} (a : A) → ◌≢◌ {A = Result A BuildError} (Ok a) (Err Failed)
by_success a is = let no_way : ⊥ = cc in absurd no_way

-- where the construction knows what it knew
pub same_looks : (s t : SsaState) → t ≡ s → LooksOnce s → LooksOnce t
same_looks s t is once = subst LooksOnce (sym is) once

-- a builder that failed answers that it did, and stays as it is
pub refused : {A : Type 0} {R : Type 0} (old : FunctionBuilder R) → old.failed ≡ true → IsCall {A = A} old old (Err Failed)
refused old failed =
    record {
      loans = record { func = refl; ctx = refl; region = refl };
      position = refl;
      srcloc = refl;
      failed = (λ is. failed, λ is. refl);
      unchanged = λ is. refl;
      fails = failed;
      looks_once = λ once. once;
      types = tt;
      fills = tt;
      left = λ left. tt;
      free = λ left. tt;
    }

-- a call that failed as another one did, which answers otherwise
same_error : {A B : Type 0} (e x : BuildError) → ◌≡◌ {A = Result A BuildError} (Err e) (Err x) → ◌≡◌ {A = Result B BuildError} (Err e) (Err x)
same_error e x same = let is : e ≡ x = cc in cc

failed : {A B : Type 0} {R : Type 0} (old new : FunctionBuilder R) (e : BuildError) → IsCall {A = A} old new (Err e) → IsCall {A = B} old new (Err e)
failed old new e call =
    record {
      loans = call.loans;
      position = call.position;
      srcloc = call.srcloc;
      failed = (λ same. call.failed.0 (same_error e Failed same), λ failed. same_error e Failed (call.failed.1 failed));
      unchanged = call.unchanged;
      fails = call.fails;
      looks_once = call.looks_once;
      types = tt;
      fills = tt;
      left = λ left. tt;
      free = λ left. tt;
    }

pub failed_as : {A B : Type 0} {R : Type 0} (old new : FunctionBuilder R) (other : Result A BuildError) (answer : Result B BuildError) (e x : BuildError)
    → other ≡ Err e → answer ≡ Err x → x ≡ e → IsCall old new other → IsCall old new answer
failed_as old new other answer e x was is same call =
    subst (IsCall old new) (sym (is ∙ ap Err same)) (failed old new e (subst (IsCall old new) was call))

-- an error that is told further is the one that was told
pub error_as : {A B : Type 0} (other : Result A BuildError) (answer : Result B BuildError) (e x y : BuildError)
    → other ≡ Err e → answer ≡ Err x → x ≡ e → answer ≡ Err y → other ≡ Err y
error_as other answer e x y was is same told =
    let first : x ≡ y = cc in was ∙ ap Err (sym same ∙ first)
