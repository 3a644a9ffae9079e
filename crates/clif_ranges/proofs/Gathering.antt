-- Ranges, one case more.
use Rattle.std.proofs.Common.{◌≡◌, ◌≢◌, ℕ, ◌+◌, ◌<◌, ◌≤◌, zero, suc, List, [], ◌∷◌, ◌++◌, length, get_or, set, sym, ap, subst, ◌∙◌, arith, append_assoc, append-nil, ◌⊎◌, inl, inr}
use Rattle.std.proofs.Math.ListN.{length-set}
use Rattle.std.proofs.Math.Nat.{eq-or-lt_of_le}
use Rattle.std.specs.Prelude.{All}
use Rattle.std.specs.List.{enumerate_from, flat_map}
use Rattle.std.specs.List.Sorted.{IsStrictlySortedBy}
use Rattle.std.specs.Map.{keys_of}
use Rattle.std.specs.Ordering.{nat_cmp}
use Rattle.std.specs.declared.cmp.Ordering.TheVariants.{Less}
use Rattle.std.proofs.lemmas.Bool.Decides.{nat_tests}
use Rattle.std.proofs.lemmas.List.{set-get_or, get_or-set_same, get_or-set_other, get_or_default, flat_map_more, length_push}
use Rattle.std.proofs.lemmas.List.Elements.{All-set, All-push, All-weaker, All-head}
use Rattle.std.proofs.lemmas.Map.Keys.{sorted_tail}
use Rattle.std.proofs.lemmas.Map.Views.{All-after_first}
use Rattle.std.proofs.lemmas.List.Quantifiers.{all_pairs_push}
use Rattle.clif_ranges.specs.declared.ranges.CaseRange.{CaseRange}
use Rattle.clif_ranges.specs.Ranges.{cases_of, end_of, HasGap, AreRangesOf, AddsCase}

-- one more block, one more case
enumerate_push : {X : Type 0} (n : ℕ) (xs : List X) (x : X) → enumerate_from n (xs ++ x ∷ []) ≡ enumerate_from n xs ++ (n + length xs, x) ∷ []
enumerate_push n [] x = let same : n ≡ n + 0 = omega arith in ap (λ k. (k, x) ∷ []) same
enumerate_push n (y ∷ ys) x =
    let same : n + 1 + length ys ≡ n + suc (length ys) = omega arith in
    ap (λ rest. (n, y) ∷ rest) (enumerate_push (n + 1) ys x ∙ ap (λ k. enumerate_from (n + 1) ys ++ (k, x) ∷ []) same)

-- the last element gives more
flat_map_set_last : {X A : Type 0} (f : X → List A) (more : List A) (xs : List X) (i : ℕ) (y d : X) → i + 1 ≡ length xs → f y ≡ f (get_or xs i d) ++ more → flat_map f (set xs i y) ≡ flat_map f xs ++ more
flat_map_set_last f more [] i y d last gives = absurd (omega arith)
flat_map_set_last f more (x ∷ []) zero y d last gives = simp append-nil gives
flat_map_set_last f more (x ∷ (z ∷ zs)) zero y d last gives = absurd (omega arith)
flat_map_set_last f more (x ∷ xs) (suc i) y d last gives =
    ap (λ rest. f x ++ rest) (flat_map_set_last f more xs i y d (omega arith) gives) ∙ sym (append_assoc (f x) (flat_map f xs) more)

-- a range with the same first key
same_first : (ranges : List CaseRange) (i j : ℕ) (y d : CaseRange) → j < length ranges → y.first ≡ (get_or ranges i d).first → (get_or (set ranges i y) j d).first ≡ (get_or ranges j d).first
same_first ranges i j y d inside same = grind (arith, get_or-set_same, get_or-set_other)

-- the last range takes one more block
pub longer : (ranges : List CaseRange) (i key block : ℕ) (last grown : CaseRange) → i + 1 ≡ length ranges → last ≡ get_or ranges i last → grown.first ≡ last.first → grown.blocks.items ≡ last.blocks.items ++ block ∷ [] → end_of last ≡ key → All (λ range. end_of range ≤ key) ranges → AddsCase key block ranges (set ranges i grown)
longer ranges i key block last grown at is first blocks end behind =
    let more : length grown.blocks.items ≡ length last.blocks.items + 1 = ap length blocks ∙ length_push last.blocks.items block in
    let case : cases_of grown ≡ cases_of last ++ (key, block) ∷ [] =
    ap (λ n. enumerate_from n grown.blocks.items) first ∙ (ap (enumerate_from last.first) blocks ∙ (enumerate_push last.first last.blocks.items block ∙ ap (λ k. cases_of last ++ (k, block) ∷ []) end)) in
    let here : cases_of grown ≡ cases_of (get_or ranges i last) ++ (key, block) ∷ [] = case ∙ ap (λ range. cases_of range ++ (key, block) ∷ []) is in
    record {
      ranges = λ entries are. record {
        cases = flat_map_set_last cases_of ((key, block) ∷ []) ranges i grown last at here ∙ ap (λ es. es ++ (key, block) ∷ []) are.cases;
        filled = All-set (λ range. 0 < length range.blocks.items) ranges i grown (omega arith) are.filled;
        gaps = λ p q d before inside.
            let within : q < length ranges = omega (arith, length-set {A = CaseRange}) in
            let earlier : get_or (set ranges i grown) p d ≡ get_or ranges p d = get_or-set_other ranges i p grown d (omega arith) in
            let d_first : grown.first ≡ (get_or ranges i d).first = first ∙ ap (λ (range : CaseRange). range.first) (is ∙ get_or_default ranges i last d (omega arith)) in
            let later = same_first ranges i q grown d within d_first in
            omega (arith, are.gaps p q d before within, ap end_of earlier, later);
      };
      behind = All-set (λ range. end_of range ≤ key + 1) ranges i grown (omega arith) (All-weaker (λ range. end_of range ≤ key) (λ range. end_of range ≤ key + 1) (λ range below. omega arith) ranges behind);
    }

-- what holds of the last range, at whatever place it is asked
pub not_last : (ranges : List CaseRange) (n key : ℕ) (last : CaseRange) → n + 1 ≡ length ranges → last ≡ get_or ranges n last → end_of last ≢ key → (i : ℕ) (d : CaseRange) → i + 1 ≡ length ranges → end_of (get_or ranges i d) ≢ key
not_last ranges n key last some is apart i d at same =
    let place : i ≡ n = omega arith in
    let here : get_or ranges i d ≡ last = get_or_default ranges i d last (omega arith) ∙ (ap (λ k. get_or ranges k last) place ∙ sym is) in
    apart (sym (ap end_of here) ∙ same)

-- a last range that was lent and not changed
pub put_back : (ranges : List CaseRange) (n : ℕ) (last : CaseRange) → last ≡ get_or ranges n last → set ranges n last ≡ ranges
put_back ranges n last is = ap (set ranges n) is ∙ set-get_or ranges n last

below_from_less : (a b : ℕ) → nat_cmp a b ≡ Less → a < b
below_from_less a b less = grind (arith, nat_tests)

-- each range ends before the key, where the last one does
gap_behind : (ranges : List CaseRange) (key : ℕ) (range : CaseRange) (entries : List (ℕ × ℕ)) → AreRangesOf entries ranges → range.first ≡ key → ((i : ℕ) (d : CaseRange) → i + 1 ≡ length ranges → end_of (get_or ranges i d) ≢ key) → All (λ range. end_of range ≤ key) ranges → (k : ℕ) (d : CaseRange) → k < length ranges → HasGap (get_or ranges k d) range
gap_behind ranges key range entries are first apart behind k d inside = by (eq-or-lt_of_le {n = k + 1} {m = length ranges} (omega arith))
  where
    by : (k + 1 ≡ length ranges) ⊎ (k + 1 < length ranges) → HasGap (get_or ranges k d) range
    by (inl last) = omega (arith, behind k d inside, apart k d last)
    by (inr more) = omega (arith, are.gaps k (k + 1) d (omega arith) more, behind (k + 1) d more)

-- a range begins behind the others
pub begun : (ranges same new : List CaseRange) (key block : ℕ) (range : CaseRange) → same ≡ ranges → new ≡ same ++ range ∷ [] → range.first ≡ key → range.blocks.items ≡ block ∷ [] → ((i : ℕ) (d : CaseRange) → i + 1 ≡ length ranges → end_of (get_or ranges i d) ≢ key) → All (λ range. end_of range ≤ key) ranges → AddsCase key block ranges new
begun ranges same new key block range kept is first blocks apart behind =
    let one : length range.blocks.items ≡ 1 = ap length blocks in
    let case : cases_of range ≡ (key, block) ∷ [] = ap (λ n. enumerate_from n range.blocks.items) first ∙ ap (enumerate_from key) blocks in
    subst (AddsCase key block ranges) (sym (is ∙ ap (λ rs. rs ++ range ∷ []) kept)) (record {
      ranges = λ entries are. record {
        cases = sym (flat_map_more cases_of [] ranges range) ∙ (ap (λ es. es ++ cases_of range) are.cases ∙ ap (λ es. entries ++ es) case);
        filled = All-push (λ range. 0 < length range.blocks.items) ranges range are.filled (omega arith);
        gaps = all_pairs_push HasGap ranges range are.gaps (λ k d inside. gap_behind ranges key range entries are first apart behind k d inside);
      };
      behind = All-push (λ range. end_of range ≤ key + 1) ranges range (All-weaker (λ range. end_of range ≤ key) (λ range. end_of range ≤ key + 1) (λ range below. omega arith) ranges behind) (omega arith);
    })

-- the cases so far were gathered, and the keys that are left rise from behind the ranges
pub record Gathers (entries rest : List (ℕ × ℕ)) (ranges : List CaseRange) : Type 0 where
  pub seen : List (ℕ × ℕ)
  pub gathered : AreRangesOf seen ranges
  pub whole : seen ++ rest ≡ entries
  pub rising : IsStrictlySortedBy nat_cmp (keys_of rest)
  pub behind : All (λ k. All (λ range. end_of range ≤ k) ranges) (keys_of rest)

-- keys above a key are at or behind what ends right behind it
all_below : (ranges : List CaseRange) (k : ℕ) (keys : List ℕ) → All (λ range. end_of range ≤ k + 1) ranges → All (λ q. nat_cmp k q ≡ Less) keys → All (λ q. All (λ range. end_of range ≤ q) ranges) keys
all_below ranges k keys behind rising =
    All-weaker (λ q. nat_cmp k q ≡ Less) (λ q. All (λ range. end_of range ≤ q) ranges) (λ q above. let less : k < q = below_from_less k q above in All-weaker (λ range. end_of range ≤ k + 1) (λ range. end_of range ≤ q) (λ range below. omega arith) ranges behind) keys rising

-- the next case was added
pub gathers_more : (entries rest left : List (ℕ × ℕ)) (ranges new : List CaseRange) (key block : ℕ) → rest ≡ (key, block) ∷ left → AddsCase key block ranges new → Gathers entries rest ranges → Gathers entries left new
gathers_more entries rest left ranges new key block is adds gathers =
    let keys : keys_of rest ≡ key ∷ keys_of left = ap keys_of is in
    let rising : IsStrictlySortedBy nat_cmp (key ∷ keys_of left) = subst (IsStrictlySortedBy nat_cmp) keys gathers.rising in
    record {
      seen = gathers.seen ++ (key, block) ∷ [];
      gathered = adds.ranges gathers.seen gathers.gathered;
      whole = append_assoc gathers.seen ((key, block) ∷ []) left ∙ (ap (λ es. gathers.seen ++ es) (sym is) ∙ gathers.whole);
      rising = sorted_tail nat_cmp key (keys_of left) rising;
      behind = all_below new key (keys_of left) adds.behind (All-after_first nat_cmp key (keys_of left) rising);
    }

-- the ranges end before the next key
pub ends_before_next : (entries rest left : List (ℕ × ℕ)) (ranges : List CaseRange) (key block : ℕ) → rest ≡ (key, block) ∷ left → Gathers entries rest ranges → All (λ range. end_of range ≤ key) ranges
ends_before_next entries rest left ranges key block is gathers =
    All-head (λ q. All (λ range. end_of range ≤ q) ranges) key (keys_of left) (subst (All (λ q. All (λ range. end_of range ≤ q) ranges)) (ap keys_of is) gathers.behind)
