-- Where the instructions of a block are.
use Rattle.std.proofs.Common.{◌≡◌, ◌∙◌, ◌<◌, ◌⊎◌, ℕ, zero, suc, Bool, true, false, if◌then◌else◌, List, [], ◌∷◌, length, get_or, drop, sym, ap, subst, arith, inl, inr}
use Rattle.std.specs.Prelude.{Contains, Some, slice_get, slice_index}
use Rattle.std.proofs.lemmas.Bool.{cases_order}
use Rattle.clif_instructions.specs.Members.{Once, place_of, stands_in}
use Rattle.clif_ir.specs.Body.{Body, block_at, inst_at}
use Rattle.clif_ir.specs.Consistent.{IsConsistent}
use Rattle.clif_ir.proofs.Threads.{place_of-at}
use Rattle.clif_safepoints.specs.Analysis.{place_of_inst}
use Rattle.clif_spilling_laws.specs.Live.{place_at}
use Rattle.clif_spiller.specs.Plans.{insts_inside}
use Rattle.clif_spiller.specs.Progress.{IsHandledInst}
use Rattle.clif_spiller.proofs.Progressing.Members.{drop_one_less, within_dropped}
use Rattle.clif_spiller.proofs.Shapes.{get_or_inside}

pub get_contains : {X : Type 0} (xs : List X) (k : ℕ) (x : X) → slice_get xs k ≡ Some x → Contains xs x
get_contains [] k x is = cc
get_contains (y ∷ xs) zero x is = (0, omega arith, (let same : y ≡ x = cc in same))
get_contains (y ∷ xs) (suc k) x is = let found = get_contains xs k x is in (suc found.0, (let inside = found.1 in omega (arith, inside)), found.2)

-- what is so of the lists of blocks is so of what a block of the layout has
within : (P : List ℕ → Type 0) (test : Bool) (xs : List ℕ) → P xs → P [] → P (if test then xs else [])
within P true xs some none = some
within P false xs some none = none

module _ (f : Body) (known : IsConsistent f) (b : ℕ) where
  pub inst_inside : (i : ℕ) → Contains (insts_inside f b) i → (i < length f.insts) × ((inst_at f i).block ≡ b)
  inst_inside i here =
      within (λ xs. Contains xs i → (i < length f.insts) × ((inst_at f i).block ≡ b)) (stands_in b f.layout) (block_at f b).insts
      (λ there.
      let entry : slice_index (block_at f b).insts there.0 ≡ i = get_or_inside (block_at f b).insts there.0 0 i there.1 ∙ there.2 in (
        subst (λ (j : ℕ). j < length f.insts) entry (known.insts_known b there.0 there.1).0,
        subst (λ (j : ℕ). (inst_at f j).block ≡ b) entry (known.insts_known b there.0 there.1).1,
      ))
      (λ there. absurd (let inside = there.1 in omega (arith, inside))) here

  once_inside : Once (insts_inside f b)
  once_inside = within Once (stands_in b f.layout) (block_at f b).insts (known.insts_once b) (λ j k before inside same. absurd (omega (arith, inside)))

  pub one_place : (j k i : ℕ) → j < length (insts_inside f b) → k < length (insts_inside f b) → get_or (insts_inside f b) j i ≡ i → get_or (insts_inside f b) k i ≡ i → j ≡ k
  one_place j k i j_in k_in j_is k_is =
      let same : slice_index (insts_inside f b) j ≡ slice_index (insts_inside f b) k =
      get_or_inside (insts_inside f b) j 0 i j_in ∙ j_is ∙ sym k_is ∙ get_or_inside (insts_inside f b) k i 0 k_in in
      elim (cases_order j k) [
        | inl equal ↦ equal
        | inr other ↦ elim other [
          | inl before ↦ absurd (once_inside j k before k_in same)
          | inr after ↦ absurd (once_inside k j after j_in (sym same))
        ]
      ]

  -- the place of an instruction among those of its block
  pub placed_there : (k i : ℕ) → k < length (insts_inside f b) → get_or (insts_inside f b) k i ≡ i → place_of_inst f i ≡ place_at b k
  placed_there k i inside is =
      let home = (inst_inside i (k, inside, is)).1 in
      let all : place_of i (block_at f b).insts ≡ k =
      within_place (stands_in b f.layout) inside is in
      (λ j. record { block = home j; index = ((ap (λ (c : ℕ). place_of i (block_at f c).insts) home ∙ all) j) })
    where
      within_place : (test : Bool) → k < length (if test then (block_at f b).insts else []) → get_or (if test then (block_at f b).insts else []) k i ≡ i
          → place_of i (block_at f b).insts ≡ k
      within_place true there entry = place_of-at (block_at f b).insts k i (known.insts_once b) there (get_or_inside (block_at f b).insts k 0 i there ∙ entry)
      within_place false there entry = absurd (omega (arith, there))

-- THE INSTRUCTION AT HAND -----------------------------------------------------------------------------------------------

module _ (f : Body) (known : IsConsistent f) (done : List ℕ) (block : ℕ) (new : Contains done block → ⊥) (k inst : ℕ) (inside : k < length (insts_inside f block))
    (is : get_or (insts_inside f block) k inst ≡ inst) where
  -- it wasn't handled before
  pub not_yet : IsHandledInst f done block (suc k) inst → ⊥
  not_yet (inl earlier) =
      let home = (inst_inside f known earlier.0 inst earlier.2).1 in
      let here = (inst_inside f known block inst (k, inside, is)).1 in
      new (subst (Contains done) (sym home ∙ here) earlier.1)
  not_yet (inr later) =
      let found = within_dropped (insts_inside f block) (suc k) inst later in
      let same = one_place f known block found.0 k inst found.2 inside found.3 is in
      absurd (let low = found.1 in omega (arith, low, same))

  -- it is handled then, and what was handled is
  pub now_handled : IsHandledInst f done block k inst
  now_handled = inr (subst (λ xs. Contains xs inst) (sym (drop_one_less (insts_inside f block) k inst inside)) (0, omega arith, is))

  pub still_handled : (i : ℕ) → IsHandledInst f done block (suc k) i → IsHandledInst f done block k i
  still_handled i (inl earlier) = inl earlier
  still_handled i (inr later) =
      inr (subst (λ xs. Contains xs i) (sym (drop_one_less (insts_inside f block) k inst inside)) (suc later.0, (let there = later.1 in omega (arith, there)), later.2))

  -- and nothing else
  pub handled_before : (i : ℕ) → IsHandledInst f done block k i → (i ≡ inst) ⊎ IsHandledInst f done block (suc k) i
  handled_before i (inl earlier) = inr (inl earlier)
  handled_before i (inr later) = by (subst (λ xs. Contains xs i) (drop_one_less (insts_inside f block) k inst inside) later)
    where
      by : Contains (get_or (insts_inside f block) k inst ∷ drop (suc k) (insts_inside f block)) i → (i ≡ inst) ⊎ IsHandledInst f done block (suc k) i
      by (zero, there, entry) = inl (sym entry ∙ is)
      by (suc j, there, entry) = inr (inr (j, omega (arith, there), entry))
