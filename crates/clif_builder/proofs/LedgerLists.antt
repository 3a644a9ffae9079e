-- Plain lists and options, as the ledger's laws need them.
use Rattle.std.proofs.Common.{◌≡◌, ◌<◌, ℕ, zero, suc, List, [], ◌∷◌, ◌++◌, length, refl, sym, ap, arith, ◌⊎◌, inl, inr}
use Rattle.std.specs.Prelude.{fold, map, slice_get, Option, Some, None, option_map, option_and_then, Bool, true, false, if◌then◌else◌, is_some}
use Rattle.std.proofs.lemmas.Option.{same_Some, none-some}

pub fold-push : {A B : Type 0} (f : B → A → B) (b : B) (xs : List A) (x : A) → fold f b (xs ++ x ∷ []) ≡ f (fold f b xs) x
fold-push f b [] x = refl
fold-push f b (y ∷ xs) x = fold-push f (f b y) xs x

-- an entry stays where it is, if more follow
pub get-front : {X : Type 0} (xs ys : List X) (k : ℕ) (x : X) → slice_get xs k ≡ Some x → slice_get (xs ++ ys) k ≡ Some x
get-front [] ys k x found = absurd (none-some x found)
get-front (y ∷ xs) ys zero x found = found
get-front (y ∷ xs) ys (suc k) x found = get-front xs ys k x found

-- the entry at the end
pub get-last : {X : Type 0} (xs : List X) (x : X) → slice_get (xs ++ x ∷ []) (length xs) ≡ Some x
get-last [] x = refl
get-last (y ∷ xs) x = get-last xs x

-- an entry of a list with one more is an old one, or the one at the end
pub get-push : {X : Type 0} (xs : List X) (y : X) (k : ℕ) (x : X) → slice_get (xs ++ y ∷ []) k ≡ Some x
    → (slice_get xs k ≡ Some x) ⊎ ((k ≡ length xs) × (y ≡ x))
get-push [] y zero x found = inr (refl, same_Some y x found)
get-push [] y (suc k) x found = absurd (none-some x found)
get-push (z ∷ xs) y zero x found = inl found
get-push (z ∷ xs) y (suc k) x found = elim (get-push xs y k x found) [ inl old ↦ inl old | inr last ↦ inr (omega (arith, last.0), last.1) ]

-- there is an entry below the length
pub get-below : {X : Type 0} (xs : List X) (k : ℕ) → k < length xs → (x : X) × (slice_get xs k ≡ Some x)
get-below [] k inside = absurd (omega (arith, inside))
get-below (x ∷ xs) zero inside = (x, refl)
get-below (x ∷ xs) (suc k) inside = get-below xs k (omega (arith, inside))

-- what an option was made of
pub map-some : {X Y : Type 0} (f : X → Y) (o : Option X) (y : Y) → option_map f o ≡ Some y → (x : X) × (o ≡ Some x) × (f x ≡ y)
map-some f None y found = absurd (none-some y found)
map-some f (Some x) y found = (x, refl, same_Some (f x) y found)

pub some-is : {X : Type 0} (o : Option X) → is_some o ≡ true → (x : X) × (o ≡ Some x)
some-is None there = let no_way : ⊥ = cc in absurd no_way
some-is (Some x) there = (x, refl)

-- the length, where entries are the same by names
pub map-length : {X Y Z : Type 0} (f : X → Z) (g : Y → Z) (xs : List X) (ys : List Y) → map f xs ≡ map g ys → length xs ≡ length ys
map-length f g [] [] same = refl
map-length f g [] (y ∷ ys) same = let no_way : ⊥ = cc in absurd no_way
map-length f g (x ∷ xs) [] same = let no_way : ⊥ = cc in absurd no_way
map-length f g (x ∷ xs) (y ∷ ys) same = let rest : map f xs ≡ map g ys = cc in omega (arith, map-length f g xs ys rest)

-- names of numbers stay, if the names of all numbers stay
pub named-more : {X : Type 0} (old new : ℕ → Option X) (names : List X) (numbers : List ℕ)
    → ((k : ℕ) (x : X) → old k ≡ Some x → new k ≡ Some x) → map Some names ≡ map old numbers → map Some names ≡ map new numbers
named-more old new [] [] more same = refl
named-more old new [] (k ∷ numbers) more same = let no_way : ⊥ = cc in absurd no_way
named-more old new (x ∷ names) [] more same = let no_way : ⊥ = cc in absurd no_way
named-more old new (x ∷ names) (k ∷ numbers) more same =
    let here : old k ≡ Some x = cc in
    let rest : map Some names ≡ map old numbers = cc in
    let first : new k ≡ Some x = more k x here in
    let others : map Some names ≡ map new numbers = named-more old new names numbers more rest in
    cc

-- numbers of names stay, if the number of each name stays; and so with types of values
pub numbered-more : {X Y : Type 0} (old new : X → Option Y) (names : List X) (numbers : List Y)
    → ((x : X) (k : Y) → old x ≡ Some k → new x ≡ Some k) → map old names ≡ map Some numbers → map new names ≡ map Some numbers
numbered-more old new [] [] more same = refl
numbered-more old new [] (k ∷ numbers) more same = let no_way : ⊥ = cc in absurd no_way
numbered-more old new (x ∷ names) [] more same = let no_way : ⊥ = cc in absurd no_way
numbered-more old new (x ∷ names) (k ∷ numbers) more same =
    let here : old x ≡ Some k = cc in
    let rest : map old names ≡ map Some numbers = cc in
    let first : new x ≡ Some k = more x k here in
    let others : map new names ≡ map Some numbers = numbered-more old new names numbers more rest in
    cc

-- the same for the name of at most one number
pub one-named-more : {X : Type 0} (old new : ℕ → Option X) (name : Option X) (number : Option ℕ)
    → ((k : ℕ) (x : X) → old k ≡ Some x → new k ≡ Some x) → option_map Some name ≡ option_map old number → option_map Some name ≡ option_map new number
one-named-more old new None None more same = refl
one-named-more old new None (Some k) more same = let no_way : ⊥ = cc in absurd no_way
one-named-more old new (Some x) None more same = let no_way : ⊥ = cc in absurd no_way
one-named-more old new (Some x) (Some k) more same =
    let here : old k ≡ Some x = cc in
    ap Some (sym (more k x here))

-- the name of a number that is there
pub name-of-some : {X : Type 0} (names : ℕ → Option X) (name : Option X) (number : ℕ) → option_map Some name ≡ option_map names (Some number)
    → (x : X) × (name ≡ Some x) × (names number ≡ Some x)
name-of-some names None number same = let no_way : ⊥ = cc in absurd no_way
name-of-some names (Some x) number same = (x, refl, cc)

pub name-of-none : {X : Type 0} (names : ℕ → Option X) (name : Option X) → option_map Some name ≡ option_map names None → name ≡ None
name-of-none names None same = refl
name-of-none names (Some x) same = let no_way : ⊥ = cc in absurd no_way

pub if-yes : {X : Type 0} (b : Bool) (x y : X) → b ≡ true → (if b then x else y) ≡ x
if-yes b x y holds = ap (λ c. if c then x else y) holds

pub if-no : {X : Type 0} (b : Bool) (x y : X) → b ≡ false → (if b then x else y) ≡ y
if-no b x y fails = ap (λ c. if c then x else y) fails

pub and-then-some : {X Y : Type 0} (f : X → Option Y) (o : Option X) (y : Y) → option_and_then f o ≡ Some y → (x : X) × (o ≡ Some x) × (f x ≡ Some y)
and-then-some f None y found = absurd (none-some y found)
and-then-some f (Some x) y found = (x, refl, found)
