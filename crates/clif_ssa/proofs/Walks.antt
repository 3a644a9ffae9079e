-- Walks along single predecessors.
use Rattle.std.proofs.Common.{◌≡◌, ℕ, ◌<◌, ◌+◌, List, [], ◌∷◌, ◌++◌, length, refl, ap, arith, sym, ◌∙◌, inl, inr}
use Rattle.std.specs.Prelude.{Some, None, slice_index}
use Rattle.std.proofs.Math.ListN.{get_or-append}
use Rattle.std.proofs.lemmas.Grind.{common_steps}
use Rattle.clif_ir.specs.Body.{Body}
use Rattle.clif_instructions.specs.Members.{Stands, Once}
use Rattle.clif_instructions.proofs.Lists.{below_or_not}
use Rattle.clif_ir.proofs.Orders.{Once-length}
use Rattle.clif_ssa.specs.Ssa.{SsaState, record_of}
use Rattle.clif_ssa.specs.LookUp.{single_predecessor, IsWalk}
use Rattle.clif_records.proofs.SparseSet.{at_end, at_last}

-- one step more
pub walk-further : (f : Body) (s : SsaState) (x block : ℕ) (passed : List ℕ) (reached next : ℕ) → IsWalk f s x block passed reached
    → record_of s x reached ≡ None → single_predecessor f s reached ≡ Some next → IsWalk f s x block (passed ++ reached ∷ []) next
walk-further f s x block [] reached next walk none single = (sym walk, ap (record_of s x) walk ∙ none, (next, ap (single_predecessor f s) walk ∙ single, refl))
walk-further f s x block (b ∷ passed) reached next walk none single =
    (walk.0, walk.1, ((walk.2).0, (walk.2).1, walk-further f s x (walk.2).0 passed reached next (walk.2).2 none single))

pub once-further : (xs : List ℕ) (x : ℕ) → Once xs → (Stands x xs → ⊥) → Once (xs ++ x ∷ [])
once-further xs x once new j k before inside same =
    elim (below_or_not k (length xs)) [
      | inl here ↦
          let first : slice_index (xs ++ x ∷ []) j ≡ slice_index xs j = get_or-append xs (x ∷ []) 0 j (omega (arith, before, here)) in
          let second : slice_index (xs ++ x ∷ []) k ≡ slice_index xs k = get_or-append xs (x ∷ []) 0 k here in
          once j k before here (sym first ∙ same ∙ second)
      | inr past ↦
          let last : k ≡ length xs = at_end xs x k inside (λ here. absurd (omega (arith, here, past))) in
          let early : j < length xs = omega (arith, before, last) in
          let first : slice_index (xs ++ x ∷ []) j ≡ slice_index xs j = get_or-append xs (x ∷ []) 0 j early in
          new (j, early, sym first ∙ same ∙ ap (slice_index (xs ++ x ∷ [])) last ∙ at_last xs x)
    ]

-- each entry is below the bound
abbrev pub AllBelow : ℕ → List ℕ → Type 0
AllBelow n xs = (k : ℕ) → k < length xs → slice_index xs k < n

pub below-further : (n : ℕ) (xs : List ℕ) (x : ℕ) → AllBelow n xs → x < n → AllBelow n (xs ++ x ∷ [])
below-further n xs x below here k inside =
    elim (below_or_not k (length xs)) [
      | inl before ↦ let same : slice_index (xs ++ x ∷ []) k ≡ slice_index xs k = get_or-append xs (x ∷ []) 0 k before in omega (arith, below k before, same)
      | inr past ↦
          let last : k ≡ length xs = at_end xs x k inside (λ before. absurd (omega (arith, before, past))) in
          let same : slice_index (xs ++ x ∷ []) k ≡ x = ap (slice_index (xs ++ x ∷ [])) last ∙ at_last xs x in
          omega (arith, here, same)
    ]

-- blocks that are passed once each are fewer than there are
pub fewer-passed : (n : ℕ) (xs : List ℕ) (x : ℕ) → Once (xs ++ x ∷ []) → AllBelow n (xs ++ x ∷ []) → length xs < n
fewer-passed n xs x once below =
    let count : length (xs ++ x ∷ []) ≡ length xs + 1 = grind (arith, common_steps) in
    omega (arith, Once-length n (xs ++ x ∷ []) once below, count)

pub ruleset walk_rules = (walk-further, once-further, below-further, fewer-passed)
