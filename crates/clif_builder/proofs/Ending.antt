-- What `finalize` answers, from what its parts answer; and where nothing is recorded, it is what the blocks lack.
use Rattle.std.proofs.Common.{◌≡◌, ◌≢◌, ℕ, Bool, true, false, List, [], ◌∷◌, length, refl, sym, subst}
use Rattle.std.specs.Prelude.{Result, Ok, Err, Option, None, OnOk, Some, is_err}
use Rattle.clif_ir.specs.Body.{Body, resolved}
use Rattle.clif_meaning.specs.Acceptance as refused
use Rattle.clif_meaning.specs.Acceptance.{Refusal}
use Rattle.clif_meaning.specs.Request.{AnsweredCall}
use Rattle.clif_safepoints.specs.Contexts.{HasTrackedContext, IsFirstTracked}
use Rattle.clif_records.specs.Tracking.{recorded_of}
use Rattle.clif_ssa.proofs.Ordering.{none_contained}
use Rattle.clif_builder.specs.declared.builder.FunctionBuilder.{FunctionBuilder}
use Rattle.clif_builder.specs.declared.error.FinalizeError.{FinalizeError}
use Rattle.clif_builder.specs.declared.error.FinalizeError.TheVariants.{Failed, Full, Memory, TrackedContext, Unfilled, Unsealed}
use Rattle.clif_builder.specs.Builder.{answer_of, first_fault, verdict_of}
use Rattle.clif_builder.specs.Ending.{AnswersAfter, Ends, EndsByLedger, EndsWith, TellsContext, TellsSpill, TellsSpilling, recorded_in}
use Rattle.clif_builder.specs.Ledger.{RefusalAgrees}

-- THE CONTEXTS ----------------------------------------------------------------------------------------------------------

none_tracked : (f : Body) (inst : ℕ) → HasTrackedContext f [] inst → ⊥
none_tracked f inst tracked = none_contained (resolved f tracked.context.0) tracked.context.2

pub tells_none : (f : Body) (recorded : List ℕ) → recorded ≡ [] → TellsContext f recorded (Ok tt)
tells_none f recorded none inst tracked = none_tracked f inst (subst (λ (values : List ℕ). HasTrackedContext f values inst) none tracked)

pub tells_memory : (f : Body) (recorded : List ℕ) (error : FinalizeError) → error ≡ Memory → recorded ≢ [] → TellsContext f recorded (Err error)
tells_memory f recorded error is some = subst (λ (e : FinalizeError). TellsContext f recorded (Err e)) (sym is) some

-- THE BUILDER -----------------------------------------------------------------------------------------------------------

pub ends_failed : {R : Type 0} (b : FunctionBuilder R) → b.failed ≡ true → Ends b (Err Failed)
ends_failed b failed =
    subst (λ (test : Bool). EndsWith (verdict_of test b.ctx.now.parts (length b.func.now.blocks)) b.func.now (recorded_of b.ctx.now.parts.ssa.tracking) (Err Failed)) (sym failed) refl

-- the blocks were looked at
sound : {R : Type 0} (b : FunctionBuilder R) (verdict answer : Result (Unit {0}) FinalizeError) → b.failed ≡ false → verdict ≡ answer_of (first_fault b.ctx.now.parts 0 (length b.func.now.blocks))
    → EndsWith verdict b.func.now (recorded_of b.ctx.now.parts.ssa.tracking) answer → Ends b answer
sound b verdict answer fine is ends =
    subst (λ (test : Bool). EndsWith (verdict_of test b.ctx.now.parts (length b.func.now.blocks)) b.func.now (recorded_of b.ctx.now.parts.ssa.tracking) answer) (sym fine)
    (subst (λ (v : Result (Unit {0}) FinalizeError). EndsWith v b.func.now (recorded_of b.ctx.now.parts.ssa.tracking) answer) is ends)

pub ends_lacking : {R : Type 0} (b : FunctionBuilder R) (lack : FinalizeError) → b.failed ≡ false → Err lack ≡ answer_of (first_fault b.ctx.now.parts 0 (length b.func.now.blocks)) → Ends b (Err lack)
ends_lacking b lack fine is = sound b (Err lack) (Err lack) fine is refl

pub ends_finished : {R : Type 0} (b : FunctionBuilder R) (answer : Result (Unit {0}) FinalizeError) → b.failed ≡ false → Ok tt ≡ answer_of (first_fault b.ctx.now.parts 0 (length b.func.now.blocks))
    → TellsContext b.func.now (recorded_of b.ctx.now.parts.ssa.tracking) answer → Ends b answer
ends_finished b answer fine is tells = sound b (Ok tt) answer fine is tells

-- where the parts are refused for nothing, no call failed
pub sound_where_ok : {R : Type 0} (b : FunctionBuilder R) (verdict : Result (Unit {0}) FinalizeError) → Ends b verdict → OnOk verdict (b.failed ≡ false)
sound_where_ok b verdict ends = by b.failed verdict ends
  where
    by : (failed : Bool) (verdict : Result (Unit {0}) FinalizeError)
        → EndsWith (verdict_of failed b.ctx.now.parts (length b.func.now.blocks)) b.func.now (recorded_of b.ctx.now.parts.ssa.tracking) verdict → OnOk verdict (failed ≡ false)
    by true verdict is = subst (λ (r : Result (Unit {0}) FinalizeError). OnOk r (true ≡ false)) (sym is) tt
    by false (Ok u) is = refl
    by false (Err e) is = tt

-- what is answered after a verdict
pub ends_after : {R : Type 0} (b : FunctionBuilder R) (verdict answer : Result (Unit {0}) FinalizeError) → Ends b verdict → AnswersAfter verdict (recorded_in b) answer → Ends b answer
ends_after b (Err lack) answer ends is = subst (Ends b) (sym is) ends
ends_after b (Ok u) answer ends tells = by (verdict_of b.failed b.ctx.now.parts (length b.func.now.blocks)) answer ends tells
  where
    of_spill : (v : ℕ) (recorded : List ℕ) (answer : Result (Unit {0}) FinalizeError) → IsFirstTracked b.func.now (v ∷ recorded) None → TellsSpill answer
        → TellsContext b.func.now (v ∷ recorded) answer
    of_spill v recorded (Ok u) first tells = first
    of_spill v recorded (Err Memory) first tells = λ none. let no_way : ⊥ = cc in absurd no_way
    of_spill v recorded (Err Full) first tells = λ none. let no_way : ⊥ = cc in absurd no_way
    of_spill v recorded (Err (TrackedContext inst)) first never = absurd never
    of_spill v recorded (Err (Unsealed block)) first never = absurd never
    of_spill v recorded (Err (Unfilled block)) first never = absurd never
    of_spill v recorded (Err Failed) first never = absurd never

    of_spiller : (recorded : List ℕ) (answer : Result (Unit {0}) FinalizeError) → IsFirstTracked b.func.now recorded None → TellsSpilling recorded answer → TellsContext b.func.now recorded answer
    of_spiller [] answer first is = subst (TellsContext b.func.now []) (sym is) first
    of_spiller (v ∷ recorded) answer first tells = of_spill v recorded answer first tells

    by : (parts answer : Result (Unit {0}) FinalizeError) → EndsWith parts b.func.now (recorded_in b) (Ok u) → TellsSpilling (recorded_in b) answer
        → EndsWith parts b.func.now (recorded_in b) answer
    by (Err lack) answer is tells = let no_way : ⊥ = cc in absurd no_way
    by (Ok v) answer first tells = of_spiller (recorded_in b) answer first tells

-- what holds where a result has no error
pub where_ok : {E P : Type 0} (r : Result (Unit {0}) E) → is_err r ≡ false → OnOk r P → P
where_ok (Ok u) fine holds = holds
where_ok (Err e) fine holds = let no_way : ⊥ = cc in absurd no_way

-- WHERE NOTHING IS RECORDED ---------------------------------------------------------------------------------------------

as_lacking : (verdict : Result (Unit {0}) FinalizeError) (f : Body) (answer : Result (Unit {0}) FinalizeError) → EndsWith verdict f [] answer → answer ≡ verdict
as_lacking (Err lack) f answer is = is
as_lacking (Ok u) f (Ok v) none = refl
as_lacking (Ok u) f (Err (TrackedContext inst)) first = absurd (none_tracked f inst first.0)
as_lacking (Ok u) f (Err Memory) some = absurd (some refl)
as_lacking (Ok u) f (Err (Unsealed block)) never = absurd never
as_lacking (Ok u) f (Err (Unfilled block)) never = absurd never
as_lacking (Ok u) f (Err Full) some = absurd (some refl)
as_lacking (Ok u) f (Err Failed) never = absurd never

-- WHATEVER IS RECORDED --------------------------------------------------------------------------------------------------

-- what holds where the blocks lack nothing holds of an answer without error
pub on_ok_ends : {R : Type 0} (b : FunctionBuilder R) (answer : Result (Unit {0}) FinalizeError) (P : Type 0) → Ends b answer → OnOk (verdict_of b.failed b.ctx.now.parts (length b.func.now.blocks)) P → OnOk answer P
on_ok_ends b answer P ends holds = by (verdict_of b.failed b.ctx.now.parts (length b.func.now.blocks)) answer ends holds
  where
    by : (verdict answer : Result (Unit {0}) FinalizeError) → EndsWith verdict b.func.now (recorded_of b.ctx.now.parts.ssa.tracking) answer → OnOk verdict P → OnOk answer P
    by (Err lack) answer is p = subst (λ (r : Result (Unit {0}) FinalizeError). OnOk r P) (sym is) tt
    by (Ok u) (Ok v) tells p = p
    by (Ok u) (Err e) tells p = tt

pub on_ok_map : {E A B : Type 0} (r : Result (Unit {0}) E) → (A → B) → OnOk r A → OnOk r B
on_ok_map (Ok u) f a = f a
on_ok_map (Err e) f a = tt

pub on_ok_both : {E A B C : Type 0} (r : Result (Unit {0}) E) → (A → B → C) → OnOk r A → OnOk r B → OnOk r C
on_ok_both (Ok u) both a b = both a b
on_ok_both (Err e) both a b = tt

pub on_ok_three : {E A B C D : Type 0} (r : Result (Unit {0}) E) → (A → B → C → D) → OnOk r A → OnOk r B → OnOk r C → OnOk r D
on_ok_three (Ok u) all a b c = all a b c
on_ok_three (Err e) all a b c = tt

pub on_ok_given : {E : Type 0} (A B : Type 0) (r : Result (Unit {0}) E) → (A → OnOk r B) → OnOk r (A → B)
on_ok_given A B (Ok u) f = f
on_ok_given A B (Err e) f = tt

-- what the blocks lack is answered
lack_is_told : {R : Type 0} (b : FunctionBuilder R) (answer : Result (Unit {0}) FinalizeError) (lack : FinalizeError) → Ends b answer
    → verdict_of b.failed b.ctx.now.parts (length b.func.now.blocks) ≡ Err lack → answer ≡ Err lack
lack_is_told b answer lack ends is =
    subst (λ (verdict : Result (Unit {0}) FinalizeError). EndsWith verdict b.func.now (recorded_of b.ctx.now.parts.ssa.tracking) answer) is ends

refusal_is_told : {R : Type 0} (b : FunctionBuilder R) (calls : List AnsweredCall) (answer : Result (Unit {0}) FinalizeError) (refusal : Refusal) → Ends b answer
    → RefusalAgrees calls (Some refusal) (verdict_of b.failed b.ctx.now.parts (length b.func.now.blocks)) → RefusalAgrees calls (Some refusal) answer
refusal_is_told b calls answer (refused.Unsealed name) ends told = (told.0, told.1, lack_is_told b answer (Unsealed told.0) ends told.2)
refusal_is_told b calls answer (refused.Unfilled name) ends told = (told.0, told.1, lack_is_told b answer (Unfilled told.0) ends told.2)

-- and by what the ledger refuses
pub ends_by_ledger : {R : Type 0} (b : FunctionBuilder R) (calls : List AnsweredCall) (told : Option Refusal) (answer : Result (Unit {0}) FinalizeError) → Ends b answer
    → RefusalAgrees calls told (verdict_of b.failed b.ctx.now.parts (length b.func.now.blocks)) → EndsByLedger calls told b.func.now (recorded_in b) answer
ends_by_ledger b calls None answer ends fine =
    subst (λ (verdict : Result (Unit {0}) FinalizeError). EndsWith verdict b.func.now (recorded_in b) answer) fine ends
ends_by_ledger b calls (Some refusal) answer ends told = refusal_is_told b calls answer refusal ends told

-- where nothing is recorded, the ledger's refusal is the answer
pub refused_untracked : (calls : List AnsweredCall) (told : Option Refusal) (f : Body) (recorded : List ℕ) (answer : Result (Unit {0}) FinalizeError) → recorded ≡ []
    → EndsByLedger calls told f recorded answer → RefusalAgrees calls told answer
refused_untracked calls None f recorded answer none ends =
    as_lacking (Ok tt) f answer (subst (λ (values : List ℕ). TellsContext f values answer) none ends)
refused_untracked calls (Some refusal) f recorded answer none ends = ends
