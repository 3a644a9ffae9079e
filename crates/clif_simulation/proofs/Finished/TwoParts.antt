-- Lists in two parts: places in them, and the bits that they get.
use Rattle.std.proofs.Common.{◌≡◌, ◌≢◌, ℕ, zero, suc, ◌+◌, ◌<◌, ◌≤◌, Bool, true, false, List, [], ◌∷◌, ◌++◌, length, map, slice_get, Option, Some, inl, inr, refl, sym, ◌∙◌, ap, arith, if◌then◌else◌}
use Rattle.std.proofs.Math.Decide.{ℕ_discrete}
use Rattle.std.proofs.lemmas.Bool.Decides.{nat_tests}
use Rattle.clif_instructions.specs.Members.{Stands, place_of}
use Rattle.clif_ssa.proofs.Ordering.{place_here, place_later}
use Rattle.clif_meaning.specs.Store.{assigned}
use Rattle.clif_meaning.specs.FunctionMachine.{same_value}
use Rattle.clif_simulation.proofs.Finished.Giving.{In}

add_one : (n : ℕ) → n + 1 ≡ suc n
add_one n = omega arith

some_is : (x y : ℕ) → Some x ≡ Some y → x ≡ y
some_is x y e = cc

-- what is among mapped elements stands for one
pub in_map : {X : Type 0} (g : X → ℕ) (xs : List X) (v : ℕ) → In v (map g xs) → (x : X) × In x xs × (v ≡ g x)
in_map g [] v there = absurd there
in_map g (x ∷ xs) v (inl here) = (x, inl refl, here)
in_map g (x ∷ xs) v (inr there) = let found = in_map g xs v there in (found.0, inr found.1, found.2)

-- a number whose place is in the first part is there
pub among_first : (xs ys : List ℕ) (v : ℕ) → place_of v (xs ++ ys) < length xs → In v xs
among_first [] ys v below = absurd (omega (arith, below))
among_first (x ∷ xs) ys v below = by (ℕ_discrete x v) (among_first xs ys v)
  where
    by : Dec (x ≡ v) → (place_of v (xs ++ ys) < length xs → In v xs) → In v (x ∷ xs)
    by (yes same) later = inl (sym same)
    by (no other) later = let place = place_later v x (xs ++ ys) other in inr (later (omega (arith, below, place)))

-- a number whose place isn't there has its place in the second part
pub place_behind : (xs ys : List ℕ) (v : ℕ) → length xs ≤ place_of v (xs ++ ys) → place_of v (xs ++ ys) ≡ length xs + place_of v ys
place_behind [] ys v behind = omega arith
place_behind (x ∷ xs) ys v behind = by (ℕ_discrete x v) (place_behind xs ys v)
  where
    by : Dec (x ≡ v) → (length xs ≤ place_of v (xs ++ ys) → place_of v (xs ++ ys) ≡ length xs + place_of v ys) → place_of v (x ∷ (xs ++ ys)) ≡ suc (length xs) + place_of v ys
    by (yes same) later = let place = place_here v x (xs ++ ys) same in absurd (omega (arith, behind, place))
    by (no other) later =
        let place = place_later v x (xs ++ ys) other in
        let rest = later (omega (arith, behind, place)) in
        omega (arith, place, rest)

-- a number that stands in the second part stands in both
pub stands_second : (xs ys : List ℕ) (v : ℕ) → Stands v ys → Stands v (xs ++ ys)
stands_second [] ys v there = there
stands_second (x ∷ xs) ys v there = let rest = stands_second xs ys v there in (suc rest.0, omega (arith, rest.1), rest.2)

-- bits in two parts go to places in two parts
pub assigned_two : (xs ys ms bs : List ℕ) (old : ℕ → ℕ) (v : ℕ) → length ms ≡ length xs
    → assigned same_value (xs ++ ys) (ms ++ bs) old v ≡ assigned same_value xs ms (assigned same_value ys bs old) v
assigned_two [] ys [] bs old v as_many = refl
assigned_two [] ys (m ∷ ms) bs old v as_many = absurd (omega (arith, as_many))
assigned_two (x ∷ xs) ys [] bs old v as_many = absurd (omega (arith, as_many))
assigned_two (x ∷ xs) ys (m ∷ ms) bs old v as_many =
    ap (λ (rest : ℕ). if same_value v x then m else rest) (assigned_two xs ys ms bs old v (omega (arith, as_many)))

-- a number whose place is in the list gets the bits at its place
pub assigned_at : (places bits : List ℕ) (old : ℕ → ℕ) (v x : ℕ) → place_of v places < length places → slice_get bits (place_of v places) ≡ Some x
    → assigned same_value places bits old v ≡ x
assigned_at [] bits old v x there is = absurd (omega (arith, there))
assigned_at (p ∷ places) [] old v x there is = no_bits (place_of v (p ∷ places)) is
  where
    no_bits : (k : ℕ) → slice_get [] k ≡ Some x → old v ≡ x
    no_bits zero h = cc
    no_bits (suc k) h = cc
assigned_at (p ∷ places) (b ∷ bits) old v x there is = by (ℕ_discrete p v) (assigned_at places bits old v x)
  where
    by : Dec (p ≡ v) → (place_of v places < length places → slice_get bits (place_of v places) ≡ Some x → assigned same_value places bits old v ≡ x)
        → assigned same_value (p ∷ places) (b ∷ bits) old v ≡ x
    by (yes same) later =
        let test : same_value v p ≡ true = grind (arith, nat_tests) in
        let first : ◌≡◌ {A = Option ℕ} (Some b) (Some x) = ap (slice_get (b ∷ bits)) (sym (place_here v p places same)) ∙ is in
        rw test (some_is b x first)
    by (no apart) later =
        let test : same_value v p ≡ false = grind (arith, nat_tests) in
        let place : place_of v (p ∷ places) ≡ suc (place_of v places) = place_later v p places apart ∙ add_one (place_of v places) in
        rw test (later (omega (arith, there, place)) (ap (slice_get (b ∷ bits)) (sym place) ∙ is))

-- no bits, and nothing changes
pub nothing_assigned : {Place : Type 0} (same : Place → Place → Bool) (places : List Place) (old : Place → ℕ) → assigned same places [] old ≡ old
nothing_assigned same [] old = refl
nothing_assigned same (place ∷ places) old = refl

-- a number that doesn't stand there keeps its bits
pub assigned_elsewhere : (places bits : List ℕ) (old : ℕ → ℕ) (v : ℕ) → (Stands v places → ⊥) → assigned same_value places bits old v ≡ old v
assigned_elsewhere [] bits old v other = refl
assigned_elsewhere (p ∷ places) [] old v other = refl
assigned_elsewhere (p ∷ places) (b ∷ bits) old v other =
    let apart : v ≢ p = λ same. other (0, omega arith, sym same) in
    let no : same_value v p ≡ false = grind (arith, nat_tests) in
    rw no (assigned_elsewhere places bits old v (λ there. other (suc there.0, omega (arith, there.1), there.2)))
