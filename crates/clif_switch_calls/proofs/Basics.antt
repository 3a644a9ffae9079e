-- Lists, names and places.
use Rattle.std.proofs.Common.{◌≡◌, ◌≢◌, ◌+◌, ◌-◌, ℕ, Bool, true, false, List, [], ◌∷◌, ◌++◌, length, refl, ◌∙◌, ap, arith, append_assoc, length-append}
use Rattle.std.specs.Prelude.{fold}
use Rattle.std.specs.List.{AllByRecursion}
use Rattle.clif_meaning.specs.Instruction.{Instruction}
use Rattle.clif_meaning.specs.Name.{Name, answer_of, same_name}
use Rattle.clif_expansion.proofs.Names.{names_equal}

-- LISTS -----------------------------------------------------------------------------------------------------------------

pub all_both : {X : Type 0} (P : X → Type 0) (xs ys : List X) → AllByRecursion P xs → AllByRecursion P ys → AllByRecursion P (xs ++ ys)
all_both P [] ys all others = others
all_both P (x ∷ xs) ys all others = (all.0, all_both P xs ys all.1 others)

pub fold_both : {X S : Type 0} (step : S → X → S) (xs ys : List X) (state : S) → fold step state (xs ++ ys) ≡ fold step (fold step state xs) ys
fold_both step [] ys state = refl
fold_both step (x ∷ xs) ys state = fold_both step xs ys (step state x)

-- three parts, with one element behind the first and one behind the last
pub regrouped : {X : Type 0} (a b c : List X) (middle last : X) (more : List X)
    → (a ++ middle ∷ b ++ c ++ last ∷ []) ++ more ≡ a ++ (middle ∷ (b ++ (c ++ (last ∷ more))))
regrouped a b c middle last more =
    append_assoc ((a ++ middle ∷ b) ++ c) (last ∷ []) more ∙ append_assoc (a ++ middle ∷ b) c (last ∷ more) ∙ append_assoc a (middle ∷ b) (c ++ last ∷ more)

-- NAMES -----------------------------------------------------------------------------------------------------------------

-- names of calls at other places
pub other_name : (x y : Name) → x.place ≢ y.place → same_name x y ≡ false
other_name x y other = by (same_name x y) refl
  where
    by : (c : Bool) → same_name x y ≡ c → same_name x y ≡ false
    by true is = absurd (other (ap (λ (n : Name). n.place) (names_equal x y is)))
    by false is = is

-- the result of the last of some instructions
pub last_name : (place : ℕ) (code : List (Instruction Name Name)) (last : Instruction Name Name)
    → answer_of (place + length code) 1 ≡ answer_of (place + (length (code ++ last ∷ []) - 1)) 1
last_name place code last =
    let longer : length (code ++ last ∷ []) ≡ length code + 1 = length-append code (last ∷ []) in
    ap (λ (n : ℕ). answer_of n 1) (omega (arith, longer))
