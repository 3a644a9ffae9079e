-- Parts of separate ranges.
use Rattle.std.proofs.Common.{◌≡◌, ℕ, zero, suc, ◌+◌, ◌<◌, ◌≤◌, List, [], ◌∷◌, ◌++◌, length, get_or, refl, sym, ap, subst, subst₂, ◌∙◌, arith, length-append}
use Rattle.std.proofs.Math.ListN.{get_or-append}
use Rattle.std.proofs.lemmas.List.{get_or-append-add}
use Rattle.std.specs.Prelude.{All}
use Rattle.clif_ranges.specs.declared.ranges.CaseRange.{CaseRange}
use Rattle.clif_ranges.specs.Ranges.{end_of, HasGap}
use Rattle.clif_ranges.specs.Search.{AreSeparate}

pub lower_part : (low high : List CaseRange) → AreSeparate (low ++ high) → AreSeparate low
lower_part low high are = record {
  filled = λ i d inside.
      subst (λ (r : CaseRange). 0 < length r.blocks.items) (get_or-append low high d i inside) (are.filled i d (omega (arith, inside, length-append low high)));
  gaps = λ i j d before inside.
      subst₂ HasGap (get_or-append low high d i (omega (arith, before, inside))) (get_or-append low high d j inside)
      (are.gaps i j d before (omega (arith, inside, length-append low high)));
}

pub higher_part : (low high : List CaseRange) → AreSeparate (low ++ high) → AreSeparate high
higher_part low high are = record {
  filled = λ i d inside.
      subst (λ (r : CaseRange). 0 < length r.blocks.items) (get_or-append-add low high i d) (are.filled (length low + i) d (omega (arith, inside, length-append low high)));
  gaps = λ i j d before inside.
      subst₂ HasGap (get_or-append-add low high i d) (get_or-append-add low high j d)
      (are.gaps (length low + i) (length low + j) d (omega (arith, before)) (omega (arith, inside, length-append low high)));
}

-- the lower part ends before the higher one begins
pub low_ends : (low high : List CaseRange) (range : CaseRange) → 0 < length high → range ≡ get_or high 0 range → AreSeparate (low ++ high) → All (λ other. end_of other ≤ range.first) low
low_ends low high range some is are = λ i d inside.
    let gap = are.gaps i (length low + 0) d (omega (arith, inside)) (omega (arith, some, length-append low high)) in
    let left : get_or (low ++ high) i d ≡ get_or low i d = get_or-append low high d i inside in
    let right : get_or (low ++ high) (length low + 0) d ≡ get_or high 0 d = get_or-append-add low high 0 d in
    let first : (get_or high 0 d).first ≡ range.first = ap (λ (r : CaseRange). r.first) (at_0 high some d range ∙ sym is) in
    omega (arith, gap, ap end_of left, ap (λ (r : CaseRange). r.first) right, first)
  where
    at_0 : (xs : List CaseRange) → 0 < length xs → (a b : CaseRange) → get_or xs 0 a ≡ get_or xs 0 b
    at_0 [] none a b = absurd (omega (arith, none))
    at_0 (x ∷ xs) some a b = refl

-- the first range is the lowest
pub high_begins : (high : List CaseRange) (range : CaseRange) → 0 < length high → range ≡ get_or high 0 range → AreSeparate high → All (λ other. range.first ≤ other.first) high
high_begins [] range none is are = absurd (omega (arith, none))
high_begins (x ∷ xs) range some is are = λ i d inside. by i d inside
  where
    by : (i : ℕ) (d : CaseRange) → i < length (x ∷ xs) → range.first ≤ (get_or (x ∷ xs) i d).first
    by zero d inside = omega (arith, ap (λ (r : CaseRange). r.first) is)
    by (suc i) d inside = omega (arith, ap (λ (r : CaseRange). r.first) is, are.gaps 0 (suc i) d (omega arith) inside)
