-- Ranges with gaps between them are the fewest with their cases.
use Rattle.std.proofs.Common.{◌≡◌, ◌≢◌, ℕ, ◌+◌, ◌<◌, ◌≤◌, ◌==◌, suc, List, [], ◌∷◌, ◌++◌, length, get_or, refl, ap, arith}
use Rattle.std.specs.Prelude.{AllPairs, All, if◌then◌else◌}
use Rattle.std.specs.List.{enumerate_from, flat_map}
use Rattle.std.proofs.lemmas.Bool.Decides.{nat_tests}
use Rattle.std.proofs.lemmas.List.Elements.{All-head, All-tail}
use Rattle.clif_ranges.specs.declared.ranges.CaseRange.{CaseRange}
use Rattle.clif_ranges.specs.Ranges.{cases_of, end_of, HasGap, AreRangesOf, AreFewest}

-- 1 where the key isn't the one that was expected
abbrev skips : ℕ → ℕ → ℕ
skips expected key = if key == expected then 0 else 1

-- how many keys don't follow the key before them, where a key is expected first
abbrev breaks : ℕ → List (ℕ × ℕ) → ℕ
breaks expected [] = 0
breaks expected (entry ∷ entries) = skips expected entry.0 + breaks (entry.0 + 1) entries

skips_none : (key : ℕ) → skips key key ≡ 0
skips_none key = grind (arith, nat_tests)

skips_one : (expected key : ℕ) → expected ≢ key → skips expected key ≡ 1
skips_one expected key apart = grind (arith, nat_tests)

skips_most : (expected key : ℕ) → skips expected key ≤ 1
skips_most expected key = grind (arith, nat_tests)

-- only the first key depends on what was expected
breaks_most : (expected other : ℕ) (entries : List (ℕ × ℕ)) → breaks expected entries ≤ 1 + breaks other entries
breaks_most expected other [] = omega arith
breaks_most expected other (entry ∷ entries) = omega (arith, skips_most expected entry.0)

-- consecutive keys have no break
breaks_along : (first : ℕ) (blocks : List ℕ) (rest : List (ℕ × ℕ)) → breaks first (enumerate_from first blocks ++ rest) ≡ breaks (first + length blocks) rest
breaks_along first [] rest = let same : first ≡ first + 0 = omega arith in ap (λ k. breaks k rest) same
breaks_along first (block ∷ blocks) rest =
    let same : first + 1 + length blocks ≡ first + suc (length blocks) = omega arith in
    omega (arith, skips_none first, breaks_along (first + 1) blocks rest, ap (λ k. breaks k rest) same)

breaks_once : (expected first : ℕ) (blocks : List ℕ) (rest : List (ℕ × ℕ)) → 0 < length blocks → expected ≢ first → breaks expected (enumerate_from first blocks ++ rest) ≡ 1 + breaks (first + length blocks) rest
breaks_once expected first [] rest some apart = absurd (omega arith)
breaks_once expected first (block ∷ blocks) rest some apart =
    let same : first + 1 + length blocks ≡ first + suc (length blocks) = omega arith in
    omega (arith, skips_one expected first apart, breaks_along (first + 1) blocks rest, ap (λ k. breaks k rest) same)

-- each range has a break at most
at_most : (expected : ℕ) (ranges : List CaseRange) → breaks expected (flat_map cases_of ranges) ≤ length ranges
at_most expected [] = omega arith
at_most expected (range ∷ ranges) =
    let rest = flat_map cases_of ranges in
    let along = breaks_along range.first range.blocks.items rest in
    omega (arith, breaks_most expected range.first (cases_of range ++ rest), along, at_most (end_of range) ranges)

-- and with gaps between them each has one
at_least : (expected : ℕ) (ranges : List CaseRange) → All (λ range. 0 < length range.blocks.items) ranges → AllPairs HasGap ranges → ((d : CaseRange) → 0 < length ranges → expected ≢ (get_or ranges 0 d).first) → breaks expected (flat_map cases_of ranges) ≡ length ranges
at_least expected [] filled gaps apart = refl
at_least expected (range ∷ ranges) filled gaps apart =
    let some : 0 < length range.blocks.items = All-head (λ range. 0 < length range.blocks.items) range ranges filled in
    let others : All (λ range. 0 < length range.blocks.items) ranges = All-tail (λ range. 0 < length range.blocks.items) range ranges filled in
    let between : AllPairs HasGap ranges = λ i j d before inside. gaps (suc i) (suc j) d (omega arith) (omega arith) in
    let next : (d : CaseRange) → 0 < length ranges → end_of range ≢ (get_or ranges 0 d).first = λ d inside same. let gap : HasGap range (get_or ranges 0 d) = gaps 0 1 d (omega arith) (omega arith) in absurd (omega arith) in
    let once = breaks_once expected range.first range.blocks.items (flat_map cases_of ranges) some (apart range (omega arith)) in
    omega (arith, once, at_least (end_of range) ranges others between next)

pub fewest : (entries : List (ℕ × ℕ)) (ranges : List CaseRange) → AreRangesOf entries ranges → AreFewest ranges
fewest entries [] are others same = omega arith
fewest entries (range ∷ ranges) are others same =
    let other = range.first + 1 in
    let exactly : breaks other (flat_map cases_of (range ∷ ranges)) ≡ length (range ∷ ranges) = at_least other (range ∷ ranges) are.filled are.gaps (λ d inside alike. absurd (omega arith)) in
    omega (arith, exactly, at_most other others, ap (breaks other) same)
