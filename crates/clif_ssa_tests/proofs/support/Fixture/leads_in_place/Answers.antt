-- A branch that leads to a block is taken away.
use Rattle.std.proofs.Common.{◌≡◌, ◌==◌, ℕ, zero, suc, Bool, true, false, List, [], ◌∷◌, arith, subst}
use Rattle.std.specs.Prelude.{Some, Contains, if◌then◌else◌}
use Rattle.clif_ir.specs.Body.{Body}
use Rattle.clif_instructions.specs.Members.{without}
use Rattle.clif_records.specs.Tables.{record_at, pending_of}
use Rattle.clif_ssa.specs.Ssa.{SsaState, predecessors_of, Removes, SameBlocks, NamesExist}
use Rattle.clif_ssa_tests.proofs.support.Fixture.leads_in_place.Goals as goal

-- what stands in a list without one entry stands in the list
later : (x : ℕ) (y : ℕ) (ys : List ℕ) → Contains ys x → Contains (y ∷ ys) x
later x y ys (k, inside, at) = (suc k, omega (arith, inside), at)

contains_without : (removed x : ℕ) (xs : List ℕ) → Contains (without removed xs) x → Contains xs x
contains_without removed x [] here = here
contains_without removed x (y ∷ ys) here = by (contains_without removed x ys) (y == removed) here
  where
    by : (Contains (without removed ys) x → Contains ys x) → (test : Bool) → Contains (if test then ys else y ∷ without removed ys) x → Contains (y ∷ ys) x
    by less true here = later x y ys here
    by less false (zero, inside, at) = (0, omega arith, at)
    by less false (suc k, inside, at) = later x y ys (less (k, omega (arith, inside), at))

taken : (test : Bool) (removed x : ℕ) (xs : List ℕ) → Contains (if test then without removed xs else xs) x → Contains xs x
taken true removed x xs here = contains_without removed x xs here
taken false removed x xs here = here

removed-named : (f : Body) (s t : SsaState) (b i : ℕ) → Removes s t b i → t.records ≡ s.records → SameBlocks s t → NamesExist f s → NamesExist f t
removed-named f s t b i removes records blocks named = record {
  recorded = λ x c v is. named.recorded x c v (subst (λ rows. record_at rows x c ≡ Some v) records is);
  leading = λ c j here.
      named.leading c j (taken (c == b) i j (predecessors_of s c) (subst (λ (branches : List ℕ). Contains branches j) (removes c) here));
  waiting = λ c p here. named.waiting c p (subst (λ entry. Contains (pending_of entry) p) (blocks c) here);
}

pub invariant_of-self : goal.invariant_of-self
invariant_of-self g c =
    let done = c.remove_block_predecessor.ensures in
    record { named = removed-named _ _ _ _ _ done.removed done.records done.blocks c.leads-2.new.self.named }
