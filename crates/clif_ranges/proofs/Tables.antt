-- Ranges that a jump table has room for, one more.
use Rattle.std.proofs.Common.{◌≡◌, ℕ, ◌+◌, ◌<◌, List, length, get_or, inl, inr, sym, subst, ◌∙◌, arith}
use Rattle.std.proofs.lemmas.Bool.{cases_eq}
use Rattle.std.proofs.lemmas.List.{get_or_default}
use Rattle.clif_ranges.specs.Cases.{FitsTable}
use Rattle.clif_ranges.specs.declared.ranges.CaseRange.{CaseRange}

pub one_more : (ranges : List CaseRange) (i : ℕ) (range : CaseRange) → i < length ranges → range ≡ get_or ranges i range → FitsTable range
    → ((k : ℕ) (d : CaseRange) → k < i → FitsTable (get_or ranges k d)) → (k : ℕ) (d : CaseRange) → k < i + 1 → FitsTable (get_or ranges k d)
one_more ranges i range inside is fits before k d below =
    elim (cases_eq k i) [
      | inl same ↦ subst (λ j. FitsTable (get_or ranges j d)) (sym same) (subst FitsTable (is ∙ get_or_default ranges i range d inside) fits)
      | inr other ↦ before k d (omega (arith, below, other))
    ]
