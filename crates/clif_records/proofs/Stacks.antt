-- The stacks of a look-up, which contracts see turned round.
use Rattle.std.proofs.Common.{◌≡◌, ℕ, zero, suc, ◌-◌, ◌≤◌, List, [], ◌∷◌, ◌++◌, length, take, drop, refl, ap, arith, sym, ◌∙◌}
use Rattle.std.specs.Prelude.{reverse, map}
use Rattle.std.proofs.lemmas.List.{reverse-append, reverse-reverse, append-nil}
use Rattle.std.proofs.lemmas.Grind.{common_steps}
use Rattle.clif_records.specs.declared.look_up.Call.{Call}
use Rattle.clif_records.specs.declared.look_up.Call.TheVariants.{UseVar, FinishPredecessorsLookup}
use Rattle.clif_records.specs.Stacks.{calls_for}

pub take-exact : {A : Type 0} (xs ys : List A) (n : ℕ) → length xs ≡ n → take n (xs ++ ys) ≡ xs
take-exact [] ys zero count = grind (arith, common_steps)
take-exact [] ys (suc n) count = absurd (omega (arith, count))
take-exact (x ∷ xs) ys zero count = absurd (omega (arith, count))
take-exact (x ∷ xs) ys (suc n) count = ap (λ zs. x ∷ zs) (take-exact xs ys n (omega (arith, count)))

pub drop-exact : {A : Type 0} (xs ys : List A) (n : ℕ) → length xs ≡ n → drop n (xs ++ ys) ≡ ys
drop-exact [] ys zero count = refl
drop-exact [] ys (suc n) count = absurd (omega (arith, count))
drop-exact (x ∷ xs) ys zero count = absurd (omega (arith, count))
drop-exact (x ∷ xs) ys (suc n) count = drop-exact xs ys n (omega (arith, count))

pub take_then_drop : {A : Type 0} (k : ℕ) (xs : List A) → take k xs ++ drop k xs ≡ xs
take_then_drop zero [] = refl
take_then_drop zero (x ∷ xs) = refl
take_then_drop (suc k) [] = refl
take_then_drop (suc k) (x ∷ xs) = ap (λ zs. x ∷ zs) (take_then_drop k xs)

pub length-reverse : {A : Type 0} (xs : List A) → length (reverse xs) ≡ length xs
length-reverse xs = grind (arith, common_steps)

turned : {A : Type 0} (xs : List A) (k : ℕ) → reverse xs ≡ reverse (drop k xs) ++ reverse (take k xs)
turned xs k = ap reverse (sym (take_then_drop k xs)) ∙ reverse-append (take k xs) (drop k xs)

dropped_count : {A : Type 0} (xs : List A) (n : ℕ) → n ≤ length xs → length (reverse (drop (length xs - n) xs)) ≡ n
dropped_count xs n fits = length-reverse (drop (length xs - n) xs) ∙ grind (arith, common_steps)

-- the last `n` entries come first in the list turned round
pub drop-turned : {A : Type 0} (xs : List A) (n : ℕ) → n ≤ length xs → drop n (reverse xs) ≡ reverse (take (length xs - n) xs)
drop-turned xs n fits =
    ap (drop n) (turned xs (length xs - n))
    ∙ drop-exact (reverse (drop (length xs - n) xs)) (reverse (take (length xs - n) xs)) n (dropped_count xs n fits)

pub take-turned : {A : Type 0} (xs : List A) (n : ℕ) → n ≤ length xs → reverse (take n (reverse xs)) ≡ drop (length xs - n) xs
take-turned xs n fits =
    ap (λ zs. reverse (take n zs)) (turned xs (length xs - n))
    ∙ ap reverse (take-exact (reverse (drop (length xs - n) xs)) (reverse (take (length xs - n) xs)) n (dropped_count xs n fits))
    ∙ reverse-reverse (drop (length xs - n) xs)

-- all entries behind the first ones
pub take-all : {A : Type 0} (xs : List A) (n : ℕ) → n ≤ length xs → take (length xs - (length xs - n)) (drop (length xs - n) xs) ≡ drop (length xs - n) xs
take-all xs n fits =
    let count : length (drop (length xs - n) xs) ≡ length xs - (length xs - n) = grind (arith, common_steps) in
    ap (λ zs. take (length xs - (length xs - n)) zs) (sym (append-nil (drop (length xs - n) xs))) ∙ take-exact (drop (length xs - n) xs) [] (length xs - (length xs - n)) count

pub map-append : {A B : Type 0} (f : A → B) (xs ys : List A) → map f (xs ++ ys) ≡ map f xs ++ map f ys
map-append f [] ys = refl
map-append f (x ∷ xs) ys = ap (λ zs. f x ∷ zs) (map-append f xs ys)

pub map-reverse : {A B : Type 0} (f : A → B) (xs : List A) → reverse (map f xs) ≡ map f (reverse xs)
map-reverse f [] = refl
map-reverse f (x ∷ xs) =
    reverse-append (f x ∷ []) (map f xs) ∙ ap (λ zs. zs ++ f x ∷ []) (map-reverse f xs)
    ∙ sym (ap (map f) (reverse-append (x ∷ []) xs) ∙ map-append f (reverse xs) (x ∷ []))

append_assoc' : {A : Type 0} (xs ys zs : List A) → (xs ++ ys) ++ zs ≡ xs ++ (ys ++ zs)
append_assoc' [] ys zs = refl
append_assoc' (x ∷ xs) ys zs = ap (λ ws. x ∷ ws) (append_assoc' xs ys zs)

-- the calls that were pushed in turn
pub calls-turned : (calls : List Call) (predecessors : List ℕ) (param block : ℕ)
    → reverse ((calls ++ FinishPredecessorsLookup param block ∷ []) ++ map UseVar (reverse predecessors))
    ≡ calls_for predecessors param block ++ reverse calls
calls-turned calls predecessors param block =
    reverse-append (calls ++ FinishPredecessorsLookup param block ∷ []) (map UseVar (reverse predecessors))
    ∙ ap (λ zs. zs ++ reverse (calls ++ FinishPredecessorsLookup param block ∷ [])) (map-reverse UseVar (reverse predecessors) ∙ ap (map UseVar) (reverse-reverse predecessors))
    ∙ ap (λ zs. map UseVar predecessors ++ zs) (reverse-append calls (FinishPredecessorsLookup param block ∷ []))
    ∙ sym (append_assoc' (map UseVar predecessors) (FinishPredecessorsLookup param block ∷ []) (reverse calls))

pub ruleset stack_rules = (drop-turned, take-turned, calls-turned)
