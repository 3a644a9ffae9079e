-- What the builder names still exists once the function has more.
use Rattle.std.proofs.Common.{◌≡◌, ◌≤◌, ◌∙◌, ℕ, length, arith, subst, sym}
use Rattle.std.specs.Prelude.{Option, None, Some, Contains, Result, Ok, Err, OnOk, OnErr}
use Rattle.clif_ir.specs.Body.{Body}
use Rattle.clif_records.specs.Tables.{record_at, pending_of}
use Rattle.clif_records.specs.Tracking.{Tracked}
use Rattle.clif_ssa.specs.Ssa.{SsaState, SamePredecessors, SameBlocks, NamesExist, no_state}
use Rattle.clif_ssa.proofs.Ordering.{none_contained}
use Rattle.clif_records.proofs.RecordMaps.{record_at-empty}

-- values and instructions stay, and maybe more are made
pub record Grows (f g : Body) : Type 0 where
  pub values : length f.values ≤ length g.values
  pub insts : length f.insts ≤ length g.insts

-- more exists, and the same is named
pub same-named : (f g : Body) (s t : SsaState) → Grows f g → t.records ≡ s.records → SamePredecessors s t → SameBlocks s t
    → NamesExist f s → NamesExist g t
same-named f g s t grows records leading blocks named = record {
  recorded = λ x b v is. omega (arith, named.recorded x b v (subst (λ rows. record_at rows x b ≡ Some v) records is), grows.values);
  leading = λ b i here. omega (arith, named.leading b i (subst (λ branches. Contains branches i) (leading b) here), grows.insts);
  waiting = λ b p here. omega (arith, named.waiting b p (subst (λ entry. Contains (pending_of entry) p) (blocks b) here), grows.values);
}

-- what is tracked names nothing that has to exist
pub tracked-named : (f : Body) (s : SsaState) (tracked : Tracked) → NamesExist f s → NamesExist f (record s { tracking = tracked })
tracked-named f s tracked named = record { recorded = named.recorded; leading = named.leading; waiting = named.waiting }

-- after a call that changes what is tracked, or fails
pub marked-named : {A E : Type 0} (answer : Result A E) (f : Body) (s t : SsaState) (tracked : Tracked) → OnOk answer (t ≡ record s { tracking = tracked }) → OnErr answer (t ≡ s)
    → NamesExist f s → NamesExist f t
marked-named (Ok a) f s t tracked is kept named = subst (NamesExist f) (sym is) (tracked-named f s tracked named)
marked-named (Err e) f s t tracked is kept named = subst (NamesExist f) (sym kept) named

-- nothing is named where nothing is known
pub nothing-named : (f : Body) → NamesExist f no_state
nothing-named f = record {
  recorded = λ x b v is. nothing (sym (record_at-empty x b) ∙ is);
  leading = λ b i here. absurd (none_contained i here);
  waiting = λ b p here. absurd (none_contained p here);
}
  where
    nothing : {A : Type 0} {v : ℕ} → ◌≡◌ {A = Option ℕ} None (Some v) → A
    nothing is = cc
