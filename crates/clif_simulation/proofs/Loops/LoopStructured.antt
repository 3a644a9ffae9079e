-- The row `both_arms` has the structure, and its branches are the caller's.
use Rattle.std.proofs.Common.{◌≡◌, ℕ, zero, suc, ◌<◌, List, [], ◌∷◌, inl, inr, Some, None, refl, sym, ◌∙◌, ap, subst, arith, Contains, slice_get}
use Rattle.clif_ir.specs.Body.{resolved, value_at}
use Rattle.clif_instructions.specs.Members.{Once}
use Rattle.clif_records.specs.declared.tables.Pending.{Pending}
use Rattle.clif_records.specs.Tables.{pending_of}
use Rattle.clif_ssa.specs.Ssa.{record_of, sealed_of, predecessors_of}
use Rattle.clif_ssa.specs.Sound.{args_of, edge_target, edges_at}
use Rattle.clif_ssa.specs.Structure.{HasNeededZeros}
use Rattle.clif_ssa.specs.Structured.{EdgePasses, HasParameters, HasType, Structured, VariableTypes, waiting_in}
use Rattle.clif_records.proofs.RecordMaps.{value_among}
use Rattle.clif_ssa.proofs.Ordering.{contains_cons}
use Rattle.clif_meaning.specs.Examples.{i32}
use Rattle.clif_meaning.specs.BranchExamples.{block}
use Rattle.clif_meaning.proofs.FirstRow.{one_of, first_of_one}
use Rattle.clif_meaning.proofs.StraightLine.{none_of, nothing_contained}
use Rattle.clif_simulation.specs.Carries.{AreTypes, HaveEdges, LeadsOwn}
use Rattle.clif_simulation.specs.CarryingExamples.{loop_calls, loop_body, loop_state}
use Rattle.clif_simulation.proofs.Rows.RecordsListed.{loop_entries, loop_record}
use Rattle.clif_simulation.proofs.Loops.LoopDescribed.{row_own, each_edge_of_row, none_waits}
use Rattle.clif_simulation.proofs.Whole.{waiting_pending}

-- Branches ------------------------------------------------------------------------------------------------------------------

pub leads_own : LeadsOwn loop_calls row_own loop_state
leads_own zero i here = absurd (nothing_contained i here)
leads_own (suc zero) i here =
    elim (contains_cons 1 (5 ∷ []) i here) [
      | inl same ↦ (0, block 0, subst (λ (j : ℕ). Contains (row_own.insts 0) j) same (1, omega arith, refl), refl, refl)
      | inr later ↦ (2, block 2, subst (λ (j : ℕ). Contains (row_own.insts 2) j) (one_of 5 i later) (2, omega arith, refl), refl, refl)
    ]
leads_own (suc (suc zero)) i here = (1, block 1, first_of_one 2 i (one_of 2 i here), refl, refl)
leads_own (suc (suc (suc zero))) i here = (1, block 1, first_of_one 2 i (one_of 2 i here), refl, refl)
leads_own (suc (suc (suc (suc b)))) i here = absurd (nothing_contained i here)

pub have_edges : HaveEdges loop_body loop_state
have_edges zero i here = absurd (nothing_contained i here)
have_edges (suc zero) i here =
    elim (contains_cons 1 (5 ∷ []) i here) [
      | inl same ↦ (0, ap (λ (j : ℕ). edge_target loop_body j 0) (sym same))
      | inr later ↦ (0, ap (λ (j : ℕ). edge_target loop_body j 0) (sym (one_of 5 i later)))
    ]
have_edges (suc (suc zero)) i here = (0, ap (λ (j : ℕ). edge_target loop_body j 0) (sym (one_of 2 i here)))
have_edges (suc (suc (suc zero))) i here = (1, ap (λ (j : ℕ). edge_target loop_body j 1) (sym (one_of 2 i here)))
have_edges (suc (suc (suc (suc b)))) i here = absurd (nothing_contained i here)

leading : (b i : ℕ) → Contains (predecessors_of loop_state b) i → i < 7
leading zero i here = absurd (nothing_contained i here)
leading (suc zero) i here =
    elim (contains_cons 1 (5 ∷ []) i here) [
      | inl same ↦ omega (arith, same)
      | inr later ↦ omega (arith, one_of 5 i later)
    ]
leading (suc (suc zero)) i here = omega (arith, one_of 2 i here)
leading (suc (suc (suc zero))) i here = omega (arith, one_of 2 i here)
leading (suc (suc (suc (suc b)))) i here = absurd (nothing_contained i here)

leading_once : (b : ℕ) → Once (predecessors_of loop_state b)
leading_once zero = λ j k before within. absurd (omega (arith, within))
leading_once (suc zero) = two
  where
    two : Once (1 ∷ 5 ∷ [])
    two zero (suc zero) before within same = let h : 1 ≡ 5 = same in omega (arith, h)
    two zero zero before within same = omega (arith, before)
    two zero (suc (suc k)) before within same = omega (arith, within)
    two (suc j) k before within same = omega (arith, before, within)
leading_once (suc (suc zero)) = λ j k before within. absurd (omega (arith, before, within))
leading_once (suc (suc (suc zero))) = λ j k before within. absurd (omega (arith, before, within))
leading_once (suc (suc (suc (suc b)))) = λ j k before within. absurd (omega (arith, within))

-- Parameters ----------------------------------------------------------------------------------------------------------------

apart : {A : Type 0} (a b : ℕ) → a < b → a ≡ b → A
apart a b below same = absurd (omega (arith, below, same))

apart_back : {A : Type 0} (a b : ℕ) → b < a → a ≡ b → A
apart_back a b below same = absurd (omega (arith, below, same))

-- what the edges to a block pass
to_first : (i k : ℕ) → edge_target loop_body i k ≡ Some 1 → EdgePasses loop_body [] (1 ∷ []) (args_of (slice_get (edges_at loop_body i) k))
to_first i k to =
    each_edge_of_row (λ i k t. t ≡ 1 → EdgePasses loop_body [] (1 ∷ []) (args_of (slice_get (edges_at loop_body i) k)))
    (λ e. record { values = 0 ∷ []; in_order = refl; are_for = ((omega arith, refl), tt) })
    (apart_back 2 1 (omega arith)) (apart_back 3 1 (omega arith))
    (λ e. record { values = 3 ∷ []; in_order = refl; are_for = ((omega arith, refl), tt) })
    (λ e. record { values = 3 ∷ []; in_order = refl; are_for = ((omega arith, refl), tt) })
    i k 1 to refl

to_second : (i k : ℕ) → edge_target loop_body i k ≡ Some 2 → EdgePasses loop_body [] [] (args_of (slice_get (edges_at loop_body i) k))
to_second i k to =
    each_edge_of_row (λ i k t. t ≡ 2 → EdgePasses loop_body [] [] (args_of (slice_get (edges_at loop_body i) k)))
    (apart 1 2 (omega arith))
    (λ e. record { values = []; in_order = refl; are_for = tt })
    (apart_back 3 2 (omega arith)) (apart 1 2 (omega arith)) (apart 1 2 (omega arith))
    i k 2 to refl

to_last : (i k : ℕ) → edge_target loop_body i k ≡ Some 3 → EdgePasses loop_body [] [] (args_of (slice_get (edges_at loop_body i) k))
to_last i k to =
    each_edge_of_row (λ i k t. t ≡ 3 → EdgePasses loop_body [] [] (args_of (slice_get (edges_at loop_body i) k)))
    (apart 1 3 (omega arith)) (apart 2 3 (omega arith))
    (λ e. record { values = []; in_order = refl; are_for = tt })
    (apart 1 3 (omega arith)) (apart 1 3 (omega arith))
    i k 3 to refl

parameters : (b : ℕ) → HasParameters row_own loop_body loop_state [] b
parameters zero = record { complete = []; in_order = refl; several = λ some. absurd (some refl); edges = λ i k here to. absurd (nothing_contained i here) }
parameters (suc zero) = record { complete = 1 ∷ []; in_order = refl; several = λ some. (refl, omega arith); edges = λ i k here to. to_first i k to }
parameters (suc (suc zero)) = record { complete = []; in_order = refl; several = λ some. absurd (some refl); edges = λ i k here to. to_second i k to }
parameters (suc (suc (suc zero))) = record { complete = []; in_order = refl; several = λ some. absurd (some refl); edges = λ i k here to. to_last i k to }
parameters (suc (suc (suc (suc b)))) = record { complete = []; in_order = refl; several = λ some. absurd (some refl); edges = λ i k here to. absurd (nothing_contained i here) }

-- Zeros ---------------------------------------------------------------------------------------------------------------------

zeros : (b : ℕ) → HasNeededZeros loop_body b (row_own.insts b)
zeros zero = record { zeros = []; in_order = refl; needed = tt }
zeros (suc zero) = record { zeros = []; in_order = refl; needed = tt }
zeros (suc (suc zero)) = record { zeros = []; in_order = refl; needed = tt }
zeros (suc (suc (suc zero))) = record { zeros = []; in_order = refl; needed = tt }
zeros (suc (suc (suc (suc b)))) = record { zeros = []; in_order = refl; needed = tt }

-- Records -------------------------------------------------------------------------------------------------------------------

module _ (types : VariableTypes) (is : types 0 ≡ i32) where
  recorded_one : (n v : ℕ) → n < 4 → (value_at loop_body n).ty ≡ i32 → Some n ≡ Some v → HasType loop_body v (types 0)
  recorded_one n v below typed e =
      subst (λ (u : ℕ). HasType loop_body u (types 0)) (one e) (subst (HasType loop_body n) (sym is) (below, typed))
    where
      one : Some n ≡ Some v → n ≡ v
      one h = cc

  no_record : (x v : ℕ) → None ≡ Some v → HasType loop_body v (types x)
  no_record x v e = absurd cc

  listed : (x b v : ℕ) → value_among (loop_entries 3) x b ≡ Some v → HasType loop_body v (types x)
  listed zero zero v e = recorded_one 0 v (omega arith) refl e
  listed zero (suc zero) v e = recorded_one 1 v (omega arith) refl e
  listed zero (suc (suc zero)) v e = recorded_one 3 v (omega arith) refl e
  listed zero (suc (suc (suc zero))) v e = recorded_one 1 v (omega arith) refl e
  listed zero (suc (suc (suc (suc b)))) v e = no_record zero v e
  listed (suc x) b v e = no_record (suc x) v e

  recorded : (x b v : ℕ) → record_of loop_state x b ≡ Some v → HasType loop_body v (types x)
  recorded x b v e = listed x b v (sym (loop_record x b) ∙ e)

none_waiting : (b : ℕ) (p : Pending) → Contains (waiting_in loop_body loop_state [] b) p → ⊥
none_waiting b p here =
    none_of (pending_of (sealed_of loop_state b)) p (none_waits b)
    (subst (λ (ps : List Pending). Contains ps p) (waiting_pending loop_body (sealed_of loop_state b) b) here)

pub row_structured : ((v : ℕ) → resolved loop_body v ≡ v) → (types : VariableTypes) → AreTypes loop_calls types → Structured types row_own loop_body loop_state []
row_structured resolves types are = record {
  parameters = parameters;
  alias_types = λ v. ap (λ (w : ℕ). (value_at loop_body w).ty) (resolves v);
  zeros = zeros;
  recorded = recorded types (are 0 i32 refl);
  waiting = λ b p here. absurd (none_waiting b p here);
  leading = leading;
  leading_once = leading_once;
}
