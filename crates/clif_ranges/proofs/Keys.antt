-- The ranges of some cases have the blocks of their keys.
use Rattle.std.proofs.Common.{◌≡◌, ℕ, ◌+◌, ◌-◌, ◌<◌, ◌≤◌, suc, List, [], ◌∷◌, ◌++◌, Some, None, Option, true, false, cond, refl, ap, sym, ◌∙◌, arith, inl, inr}
use Rattle.std.specs.Prelude.{◌==◌, nat_lt, if◌then◌else◌, slice_get}
use Rattle.std.specs.List.{enumerate_from, flat_map}
use Rattle.std.specs.Map.{lookup}
use Rattle.std.specs.FinMap as map
use Rattle.std.specs.FinMap.{get-entries}
use Rattle.std.proofs.lemmas.Bool.{cases_eq, cases_lt, ne_eqb}
use Rattle.std.proofs.lemmas.Bool.Decides.{nat_tests}
use Rattle.clif_ranges.specs.declared.ranges.CaseRange.{CaseRange}
use Rattle.clif_ranges.specs.Cases.{CaseMap}
use Rattle.clif_ranges.specs.Ranges.{AreRangesOf, cases_of}
use Rattle.clif_ranges.specs.Search.{block_in, block_of_key, first_of}
use Rattle.clif_ranges.proofs.CaseMaps.{lookup_found}

-- the value of a key among entries
abbrev pub of_key : ℕ → List (ℕ × ℕ) → Option ℕ
of_key key entries = lookup (λ k. key == k) entries

of_append : (key : ℕ) (xs ys : List (ℕ × ℕ)) → of_key key (xs ++ ys) ≡ first_of (of_key key xs) (of_key key ys)
of_append key [] ys = refl
of_append key (x ∷ xs) ys =
    elim (cases_eq key x.0) [
      | inl same ↦
          let yes : (key == x.0) ≡ true = grind (arith, nat_tests) in
          ap (λ t. cond t (Some x.1) (of_key key (xs ++ ys))) yes ∙ sym (ap (λ t. first_of (cond t (Some x.1) (of_key key xs)) (of_key key ys)) yes)
      | inr other ↦
          let no : (key == x.0) ≡ false = ne_eqb key x.0 other in
          ap (λ t. cond t (Some x.1) (of_key key (xs ++ ys))) no ∙ of_append key xs ys ∙ sym (ap (λ t. first_of (cond t (Some x.1) (of_key key xs)) (of_key key ys)) no)
    ]

-- none is below the first one
of_under : (key n : ℕ) (blocks : List ℕ) → key < n → of_key key (enumerate_from n blocks) ≡ None
of_under key n [] under = refl
of_under key n (block ∷ blocks) under =
    ap (λ t. cond t (Some block) (of_key key (enumerate_from (n + 1) blocks))) (ne_eqb key n (λ same. omega (arith, same, under)))
    ∙ of_under key (n + 1) blocks (omega (arith, under))

of_from : (key n : ℕ) (blocks : List ℕ) → n ≤ key → of_key key (enumerate_from n blocks) ≡ slice_get blocks (key - n)
of_from key n [] over = refl
of_from key n (block ∷ blocks) over =
    elim (cases_eq key n) [
      | inl same ↦
          let yes : (key == n) ≡ true = grind (arith, nat_tests) in
          let none : key - n ≡ 0 = omega (arith, same) in
          ap (λ t. cond t (Some block) (of_key key (enumerate_from (n + 1) blocks))) yes ∙ sym (ap (slice_get (block ∷ blocks)) none)
      | inr other ↦
          let some : key - n ≡ suc (key - (n + 1)) = omega (arith, other, over) in
          ap (λ t. cond t (Some block) (of_key key (enumerate_from (n + 1) blocks))) (ne_eqb key n other)
          ∙ of_from key (n + 1) blocks (omega (arith, other, over)) ∙ sym (ap (slice_get (block ∷ blocks)) some)
    ]

of_range : (key : ℕ) (range : CaseRange) → of_key key (cases_of range) ≡ block_in range key
of_range key range =
    elim (cases_lt key range.first) [
      | inl under ↦
          let yes : nat_lt key range.first ≡ true = grind (arith, nat_tests) in
          of_under key range.first range.blocks.items under ∙ sym (ap (λ t. if t then None else slice_get range.blocks.items (key - range.first)) yes)
      | inr over ↦
          let no : nat_lt key range.first ≡ false = grind (arith, nat_tests) in
          of_from key range.first range.blocks.items over ∙ sym (ap (λ t. if t then None else slice_get range.blocks.items (key - range.first)) no)
    ]

pub of_ranges : (key : ℕ) (ranges : List CaseRange) → of_key key (flat_map cases_of ranges) ≡ block_of_key ranges key
of_ranges key [] = refl
of_ranges key (range ∷ ranges) =
    of_append key (cases_of range) (flat_map cases_of ranges)
    ∙ ap (λ o. first_of o (of_key key (flat_map cases_of ranges))) (of_range key range)
    ∙ ap (first_of (block_in range key)) (of_ranges key ranges)

-- the block of a key in the ranges is that of its case
pub has_block : (cases : CaseMap) (ranges : List CaseRange) → AreRangesOf (map.entries cases) ranges → (key : ℕ) → block_of_key ranges key ≡ map.get cases key
has_block cases ranges are key =
    sym (of_ranges key ranges) ∙ ap (of_key key) are.cases ∙ lookup_found (map.entries cases) key ∙ sym (get-entries cases key)
