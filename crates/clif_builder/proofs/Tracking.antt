-- Stack maps are asked for: what is tracked changes, and nothing else does.
use Rattle.std.proofs.Common.{◌≡◌, ◌≢◌, ℕ, ◌<◌, Bool, true, false, [], length, refl, sym, ◌∙◌, ap, subst}
use Rattle.std.specs.Prelude.{Result, Ok, Err, OnOk, OnErr, is_err}
use Rattle.clif_types.specs.declared.error.BuildError.{BuildError}
use Rattle.clif_types.specs.declared.error.BuildError.TheVariants.{Memory, Full, Failed}
use Rattle.clif_ir.specs.Body.{Body}
use Rattle.clif_records.specs.Tracking.{Tracked}
use Rattle.clif_ssa.specs.Ssa.{SsaState, NamesExist}
use Rattle.clif_ssa.specs.Structure.{LooksOnce, Remembers}
use Rattle.clif_ssa.proofs.Structuring.{same_structured}
use Rattle.clif_builder.specs.declared.builder.FunctionBuilder.{FunctionBuilder}
use Rattle.clif_builder.specs.Builder.{HasCurrent, SameLoans}
use Rattle.clif_builder.specs.Context.{ContextState, status_of}
use Rattle.clif_builder.specs.Growth.{TypesStay}
use Rattle.clif_builder.specs.Marks.{TracksFrom}
use Rattle.clif_builder.specs.Tracking.{with_tracking}
use Rattle.clif_builder.specs.Order.{IsInOrder, IsKept}
use Rattle.clif_builder.proofs.Calls.{by_memory, made, refused}
use Rattle.clif_builder.proofs.Framed.{filled-same, same-types}
use Rattle.clif_builder.proofs.Growing.{Grows-same}
use Rattle.clif_builder.proofs.Named.{kept_by}
use Rattle.clif_builder.proofs.Ordered.{order-kept}
use Rattle.clif_builder.proofs.Fitting.{on_ok_all}
use Rattle.clif_builder.specs.Tracking.{FitsMaps}

-- THE CONSTRUCTION ------------------------------------------------------------------------------------------------------

abbrev tracking_in : SsaState → Tracked → SsaState
tracking_in s tracked = record s { tracking = tracked }

names_tracked : (f : Body) (s : SsaState) (tracked : Tracked) → NamesExist f s → NamesExist f (tracking_in s tracked)
names_tracked f s tracked named = record { recorded = named.recorded; leading = named.leading; waiting = named.waiting }

looks_tracked : (s : SsaState) (tracked : Tracked) → LooksOnce s → LooksOnce (tracking_in s tracked)
looks_tracked s tracked looks = record {
  once = looks.once;
  unrecorded = looks.unrecorded;
  unsealed = looks.unsealed;
  waiting_recorded = looks.waiting_recorded;
  apart = looks.apart;
}

remembers_tracked : (x b : ℕ) (f : Body) (s : SsaState) (tracked : Tracked) → Remembers x b f s f (tracking_in s tracked)
remembers_tracked x b f s tracked = record { recorded = λ v is. is; alike = λ u v same. same }

order_tracked : (f : Body) (c : ContextState) (tracked : Tracked) → IsInOrder f c → IsInOrder f (with_tracking c tracked)
order_tracked f c tracked order =
    order-kept f c (with_tracking c tracked) order (λ b. refl) (λ b. refl) (λ b. refl)
    (λ types are. same_structured types order.own f c.ssa (tracking_in c.ssa tracked) [] (λ x b. refl) (λ b. refl) (λ b. refl) (order.structured types are))

-- the context after a call
by_context : {E : Type 0} (P : ContextState → Type 0) (answer : Result (Unit {0}) E) (c d : ContextState) (tracked : Tracked)
    → OnOk answer (d ≡ with_tracking c tracked) → OnErr answer (d ≡ c) → P c → P (with_tracking c tracked) → P d
by_context P (Ok u) c d tracked is same before after = subst P (sym is) after
by_context P (Err e) c d tracked is same before after = subst P (sym same) before

-- THE BUILDER -----------------------------------------------------------------------------------------------------------

never_full : (answer : Result (Unit {0}) BuildError) → OnErr answer (answer ≡ Err Memory) → answer ≢ Err Full
never_full (Ok u) only is = let no_way : ⊥ = cc in absurd no_way
never_full (Err e) only is = let no_way : ⊥ = cc in absurd no_way

current_from : {E : Type 0} {R : Type 0} (answer : Result (Unit {0}) E) (old new : FunctionBuilder R) (tracked : Tracked) → new.func.now ≡ old.func.now → new.position ≡ old.position
    → OnOk answer (new.ctx.now.parts ≡ with_tracking old.ctx.now.parts tracked) → HasCurrent old → OnOk answer (HasCurrent new)
current_from (Err e) old new tracked function position context current = tt
current_from (Ok u) old new tracked function position context (block, at, exists, unfilled) = (
  block,
  position ∙ at,
  subst (λ (f : Body). block < length f.blocks) (sym function) exists,
  λ filled. unfilled (sym (ap (λ (c : ContextState). status_of c block) context) ∙ filled),
)

pub tracks_refused : {R : Type 0} (old : FunctionBuilder R) (tracked : Tracked) → old.failed ≡ true → TracksFrom old old (Err Failed) tracked
tracks_refused old tracked failed = record {
  call = refused old failed;
  function = refl;
  context = tt;
  kept = refl;
  never_full = λ is. let no_way : ⊥ = cc in absurd no_way;
  grows = tt;
  remembers = λ x b. tt;
  current = λ current. tt;
}

pub tracks_made : {R : Type 0} (old new : FunctionBuilder R) (answer : Result (Unit {0}) BuildError) (tracked : Tracked) → old.failed ≡ false → SameLoans old new → new.func.now ≡ old.func.now
    → new.position ≡ old.position → new.srcloc ≡ old.srcloc → new.failed ≡ is_err answer
    → OnOk answer (new.ctx.now.parts ≡ with_tracking old.ctx.now.parts tracked) → OnErr answer (new.ctx.now.parts ≡ old.ctx.now.parts) → OnErr answer (answer ≡ Err Memory)
    → TracksFrom old new answer tracked
tracks_made old new answer tracked fine loans function position srcloc fails context kept only = record {
  call =
      made old new answer loans position srcloc fine (by_memory answer only) fails
      (by_context (λ (c : ContextState). LooksOnce old.ctx.now.parts.ssa → LooksOnce c.ssa) answer old.ctx.now.parts new.ctx.now.parts tracked context kept
      (λ looks. looks) (looks_tracked old.ctx.now.parts.ssa tracked))
      (subst (λ (g : Body). OnOk answer (TypesStay old.func.now g)) (sym function) (same-types answer old.func.now))
      (filled-same answer old.ctx.now.parts new.ctx.now.parts
      (by_context (λ (c : ContextState). c.status ≡ old.ctx.now.parts.status) answer old.ctx.now.parts new.ctx.now.parts tracked context kept refl refl));
  function = function;
  context = context;
  kept = kept;
  never_full = never_full answer only;
  grows = on_ok_all answer (Grows-same old.func.now new.func.now function);
  remembers = λ x b.
      on_ok_all answer
      (by_context (λ (c : ContextState). Remembers x b old.func.now old.ctx.now.parts.ssa new.func.now c.ssa) answer old.ctx.now.parts new.ctx.now.parts tracked context kept
      (subst (λ (g : Body). Remembers x b old.func.now old.ctx.now.parts.ssa g old.ctx.now.parts.ssa) (sym function) (remembers_tracked x b old.func.now old.ctx.now.parts.ssa old.ctx.now.parts.ssa.tracking))
      (subst (λ (g : Body). Remembers x b old.func.now old.ctx.now.parts.ssa g (tracking_in old.ctx.now.parts.ssa tracked)) (sym function) (remembers_tracked x b old.func.now old.ctx.now.parts.ssa tracked)));
  current = current_from answer old new tracked function position context;
}

-- what the builder keeps
pub kept_tracked : (answer : Result (Unit {0}) BuildError) (f : Body) (c d : ContextState) (was now : Bool) (tracked : Tracked) → was ≡ false → now ≡ is_err answer
    → OnOk answer (d ≡ with_tracking c tracked) → OnErr answer (d ≡ c) → (FitsMaps f c → FitsMaps f (with_tracking c tracked)) → ∥ IsKept f c was ∥₁ → ∥ IsKept f d now ∥₁
kept_tracked answer f c d was now tracked fine fails context kept fits before =
    kept_by answer f f c d was now fine fails
    (by_context (λ (e : ContextState). NamesExist f c.ssa → NamesExist f e.ssa) answer c d tracked context kept (λ names. names) (names_tracked f c.ssa tracked))
    (λ order. on_ok_all answer (by_context (IsInOrder f) answer c d tracked context kept order (order_tracked f c tracked order)))
    (λ order there. on_ok_all answer (by_context (FitsMaps f) answer c d tracked context kept there (fits there)))
    before
