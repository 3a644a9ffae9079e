-- A function that passes the check, and whose results, aliases and entry have their types, is typed.
use Rattle.std.proofs.Common.{◌≡◌, ℕ, List, [], ◌∷◌, ◌++◌, map, Bool, true, false, subst, ◌==◌, refl}
use Rattle.std.specs.Prelude.{if◌then◌else◌, ◌||◌}
use Rattle.std.specs.List.{AllByRecursion, flat_map, list_any}
use Rattle.std.proofs.lemmas.Bool.{eqb-true}
use Rattle.std.proofs.lemmas.List.Elements.{recursion_from_All}
use Rattle.clif_ir.specs.Body.{Body, block_at}
use Rattle.clif_check.specs.WellTyped.{IsWellTyped, insts_in_order, insts_of}
use Rattle.clif_check.proofs.Law.{agrees}
use Rattle.clif_meaning.specs.View.{items_of, placed_of, view_of}
use Rattle.clif_simulation.proofs.Carrying.{all_first}
use Rattle.clif_value_laws.specs.Functions.{CheckedFunctionsFit, HasResults, IsChecked, run_of}
use Rattle.clif_typed_runs.specs.ValuesFit.{IsPlacedTyped}
use Rattle.clif_typed_runs.proofs.FunctionSteps.{runs_fit}

all_second : (P : ℕ → Type 0) (xs ys : List ℕ) → AllByRecursion P (xs ++ ys) → AllByRecursion P ys
all_second P [] ys all = all
all_second P (x ∷ xs) ys all = all_second P xs ys all.1

-- what holds of the instructions in layout order holds of those of a block of the layout
in_layout : (P : ℕ → Type 0) (f : Body) (layout : List ℕ) (block : ℕ) → list_any (λ other. other == block) layout ≡ true
    → AllByRecursion P (flat_map (insts_of f) layout) → AllByRecursion P (insts_of f block)
in_layout P f [] block is all = let none : ⊥ = cc in absurd none
in_layout P f (other ∷ layout) block is all = by (other == block) refl is (λ later. in_layout P f layout block later (all_second P (insts_of f other) (flat_map (insts_of f) layout) all))
  where
    by : (here : Bool) → (other == block) ≡ here → (here || list_any (λ b. b == block) layout) ≡ true
        → (list_any (λ b. b == block) layout ≡ true → AllByRecursion P (insts_of f block)) → AllByRecursion P (insts_of f block)
    by true same found rest =
        subst (λ (b : ℕ). AllByRecursion P (insts_of f b)) (eqb-true other block same) (all_first P (insts_of f other) (flat_map (insts_of f) layout) all)
    by false same found rest = rest found

module _ (f : Body) where
  placed_typed : (inst : ℕ) → IsWellTyped f inst → HasResults f inst → IsPlacedTyped (view_of f) (placed_of f inst)
  placed_typed inst well_typed results = let both = agrees f inst in record { takes = both.0 well_typed; gives = results }

  all_typed : (insts : List ℕ) → AllByRecursion (IsWellTyped f) insts → AllByRecursion (HasResults f) insts
      → AllByRecursion (IsPlacedTyped (view_of f)) (map (placed_of f) insts)
  all_typed [] well_typed results = tt
  all_typed (inst ∷ insts) well_typed results = (placed_typed inst well_typed.0 results.0, all_typed insts well_typed.1 results.1)

  items_typed : IsChecked f → (block : ℕ) → AllByRecursion (IsPlacedTyped (view_of f)) (items_of f block)
  items_typed checked block = by (list_any (λ other. other == block) f.layout) refl
    where
      by : (placed : Bool) → list_any (λ other. other == block) f.layout ≡ placed
          → AllByRecursion (IsPlacedTyped (view_of f)) (if placed then map (placed_of f) (block_at f block).insts else [])
      by true is =
          all_typed (block_at f block).insts
          (in_layout (IsWellTyped f) f f.layout block is (recursion_from_All (IsWellTyped f) (insts_in_order f) checked.well_typed))
          (in_layout (HasResults f) f f.layout block is (recursion_from_All (HasResults f) (insts_in_order f) checked.results))
      by false is = tt

pub checked_fit : CheckedFunctionsFit
checked_fit f checked collector hidden world arguments =
    runs_fit (run_of f collector hidden world) (record { aliases = checked.aliases; items = items_typed f checked; entry = checked.entry; arguments = arguments })
