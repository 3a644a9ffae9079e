-- A walk over a consistent function.
use Rattle.std.proofs.Common.{◌≡◌, ◌∙◌, ℕ, true, Bool, List, length, Option, None, Some, refl, sym, ap, subst, arith}
use Rattle.std.specs.Prelude.{slice_get}
use Rattle.clif_instructions.specs.Members.{Once}
use Rattle.clif_nodes.specs.declared.nodes.ValueOrigin.{ValueOrigin}
use Rattle.clif_nodes.specs.declared.nodes.ValueOrigin.TheVariants.{Result}
use Rattle.clif_ir.specs.Body.{Body, inst_at, value_at}
use Rattle.clif_ir.specs.Consistent.{IsConsistent}
use Rattle.clif_meaning.specs.Path.{Place}
use Rattle.clif_meaning.specs.View.{view_of}
use Rattle.clif_meaning.specs.WellPlaced.{placed_at, placed_gives}
use Rattle.clif_safepoints.specs.Analysis.{IsBlockOrder}
use Rattle.clif_safepoints.specs.Transfer.{insts_of}
use Rattle.clif_safepoints.proofs.Paths.{placed_is, placed_none}
use Rattle.clif_stack_slots.specs.Sizes.{FitsStackMap}
use Rattle.clif_spilling_laws.proofs.Functions.GivenOnce.{gives_once}
use Rattle.clif_spiller.specs.Allocating.{IsWalk}

same_result : (i j k : ℕ) → ◌≡◌ {A = ValueOrigin} (Result i j) (Result i k) → j ≡ k
same_result i j k e = cc

module _ (f : Body) (kept : IsConsistent f) where
  -- the results of an instruction are different values: each knows its place
  results_once : (i : ℕ) → Once (inst_at f i).results
  results_once i j k below inside same =
      let first = kept.results_known i j (omega (arith, below, inside)) in
      let second = kept.results_known i k inside in
      let one : j ≡ k = same_result i j k (sym first.1 ∙ ap (λ (v : ℕ). (value_at f v).origin) same ∙ second.1) in
      omega (arith, below, one)

  gives_apart : (p : Place ℕ) → Once (placed_gives (placed_at (view_of f) p))
  gives_apart p = by (slice_get (insts_of f p.block) p.index) refl
    where
      by : (found : Option ℕ) → slice_get (insts_of f p.block) p.index ≡ found → Once (placed_gives (placed_at (view_of f) p))
      by None is = subst (λ found. Once (placed_gives found)) (sym (placed_none f p.block p.index is)) (λ j k below inside. absurd (omega (arith, inside)))
      by (Some i) is = subst (λ found. Once (placed_gives found)) (sym (placed_is f p.block p.index i is)) (results_once i)

  pub is_walk : (is_spilled : ℕ → Bool) (order : List ℕ) → IsBlockOrder (view_of f) order
      → ((v : ℕ) → is_spilled v ≡ true → FitsStackMap ((view_of f).value_type v)) → IsWalk (view_of f) (length f.values) is_spilled order
  is_walk is_spilled order ordered fits = record {
    gives_once = gives_once f kept;
    results_once = gives_apart;
    parameters_once = kept.params_once;
    ordered = ordered;
    fits = fits;
  }
