-- The sparse set of the blocks that a walk passes.
use Rattle.std.proofs.Common.{◌≡◌, ◌≢◌, ℕ, ◌<◌, ◌≤◌, ◌+◌, List, [], ◌∷◌, ◌++◌, length, set, refl, ap, arith, sym, ◌∙◌, inl, inr, get_or-set_same, get_or-set_other}
use Rattle.std.specs.Prelude.{Option, Some, None, slice_get, slice_index}
use Rattle.std.proofs.Math.ListN.{get_or-append}
use Rattle.std.proofs.lemmas.Grind.{common_steps}
use Rattle.std.proofs.lemmas.Option.{slice_get-get_or, slice_get_past}
use Rattle.clif_instructions.specs.Members.{Stands}
use Rattle.clif_instructions.proofs.Lists.{below_or_not}
use Rattle.clif_records.specs.Passed.{KnowsPlaces}

none_some : {x : ℕ} → ◌≡◌ {A = Option ℕ} None (Some x) → ⊥
none_some same = cc

same_some : {x y : ℕ} → ◌≡◌ {A = Option ℕ} (Some x) (Some y) → x ≡ y
same_some same = cc

pub stands-from_get : (xs : List ℕ) (k x : ℕ) → slice_get xs k ≡ Some x → Stands x xs
stands-from_get xs k x is =
    elim (below_or_not k (length xs)) [
      | inl here ↦ (k, here, same_some (sym (slice_get-get_or xs k 0 here) ∙ is))
      | inr past ↦ absurd (none_some (sym (slice_get_past xs k past) ∙ is))
    ]

pub place-known : (places blocks : List ℕ) (b place : ℕ) → KnowsPlaces places blocks → place ≡ slice_index places b → Stands b blocks → slice_get blocks place ≡ Some b
place-known places blocks b place known is (k, inside, at) =
    let same : place ≡ k = is ∙ ap (λ c. slice_index places c) (sym at) ∙ known.at k inside in
    ap (λ j. slice_get blocks j) same ∙ slice_get-get_or blocks k 0 inside ∙ ap Some at

pub place-unknown : (places blocks : List ℕ) (b : ℕ) → KnowsPlaces places blocks → length places ≤ b → Stands b blocks → ⊥
place-unknown places blocks b known past (k, inside, at) = absurd (omega (arith, known.inside k inside, at, past))

pub places-grown : (places blocks : List ℕ) (more : List ℕ) → KnowsPlaces places blocks → KnowsPlaces (places ++ more) blocks
places-grown places blocks more known = record {
  inside = λ k here. let long : length places ≤ length (places ++ more) = grind (arith, common_steps) in omega (arith, known.inside k here, long);
  at = λ k here. get_or-append places more 0 (slice_index blocks k) (known.inside k here) ∙ known.at k here;
}

pub at_end : (blocks : List ℕ) (b k : ℕ) → k < length (blocks ++ b ∷ []) → ((k < length blocks → ⊥) → k ≡ length blocks)
at_end blocks b k here past = elim (below_or_not k (length blocks)) [
  | inl inside ↦ absurd (past inside)
  | inr over ↦ let count : length (blocks ++ b ∷ []) ≡ length blocks + 1 = grind (arith, common_steps) in omega (arith, here, over, count)
]

pub at_last : (blocks : List ℕ) (b : ℕ) → slice_index (blocks ++ b ∷ []) (length blocks) ≡ b
at_last [] b = refl
at_last (c ∷ blocks) b = at_last blocks b

pub places-pushed : (places blocks : List ℕ) (b : ℕ) → KnowsPlaces places blocks → b < length places → (Stands b blocks → ⊥)
    → KnowsPlaces (set places b (length blocks)) (blocks ++ b ∷ [])
places-pushed places blocks b known there new =
    let count : length (set places b (length blocks)) ≡ length places = grind (arith, common_steps) in
    record {
      inside = λ k here.
          elim (below_or_not k (length blocks)) [
            | inl inside ↦ let same : slice_index (blocks ++ b ∷ []) k ≡ slice_index blocks k = get_or-append blocks (b ∷ []) 0 k inside in omega (arith, known.inside k inside, same, count)
            | inr past ↦
                let last : k ≡ length blocks = at_end blocks b k here (λ inside. absurd (omega (arith, inside, past))) in
                let is : slice_index (blocks ++ b ∷ []) k ≡ b = ap (λ j. slice_index (blocks ++ b ∷ []) j) last ∙ at_last blocks b in
                omega (arith, is, there, count)
          ];
      at = λ k here.
          elim (below_or_not k (length blocks)) [
            | inl inside ↦
                let same : slice_index (blocks ++ b ∷ []) k ≡ slice_index blocks k = get_or-append blocks (b ∷ []) 0 k inside in
                let other : slice_index blocks k ≢ b = λ is. new (k, inside, is) in
                ap (λ c. slice_index (set places b (length blocks)) c) same ∙ get_or-set_other places b (slice_index blocks k) (length blocks) 0 other ∙ known.at k inside
            | inr past ↦
                let last : k ≡ length blocks = at_end blocks b k here (λ inside. absurd (omega (arith, inside, past))) in
                let is : slice_index (blocks ++ b ∷ []) k ≡ b = ap (λ j. slice_index (blocks ++ b ∷ []) j) last ∙ at_last blocks b in
                ap (λ c. slice_index (set places b (length blocks)) c) is ∙ get_or-set_same places b (length blocks) 0 there ∙ sym last
          ];
    }

pub ruleset passed_rules = (stands-from_get, place-known, place-unknown, places-grown, places-pushed)
