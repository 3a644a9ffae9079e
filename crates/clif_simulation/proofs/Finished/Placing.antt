-- Places of lists, and where the instructions of a block's items stand among its own.
use Rattle.std.proofs.Common.{◌≡◌, ℕ, zero, suc, ◌+◌, ◌<◌, List, [], ◌∷◌, ◌++◌, length, map, flat_map, take, drop, slice_get, Some, Contains, ◌⊎◌, inl, inr, refl, sym, ◌∙◌, ap, subst, arith}
use Rattle.std.specs.Prelude.{slice_index, slice_index_or}
use Rattle.std.specs.List.{AllByRecursion}
use Rattle.std.proofs.lemmas.List.{append-nil}
use Rattle.clif_meaning.specs.Name.{Name}
use Rattle.clif_meaning.specs.Request.{AnsweredCall}
use Rattle.clif_meaning.specs.Instruction.{Instruction}
use Rattle.clif_meaning.specs.Program.{Item, Instruct, Use, Assign}
use Rattle.clif_meaning.specs.FunctionView.{Placed}
use Rattle.clif_simulation.specs.Tables.{answered}
use Rattle.clif_simulation.specs.Carries.{carried, answered_instruction}

-- PLACES OF LISTS -------------------------------------------------------------------------------------------------

-- what stands in two lists in a row stands in the first or the second
pub in_two : {X : Type 0} (xs ys : List X) (k : ℕ) (x : X) → slice_get (xs ++ ys) k ≡ Some x
    → ((k < length xs) × (slice_get xs k ≡ Some x)) ⊎ ((m : ℕ) × (k ≡ length xs + m) × (slice_get ys m ≡ Some x))
in_two [] ys k x is = inr (k, omega arith, is)
in_two (z ∷ xs) ys zero x is = inl (omega arith, is)
in_two {X} (z ∷ xs) ys (suc k) x is = by (in_two xs ys k x is)
  where
    by : ((k < length xs) × (slice_get xs k ≡ Some x)) ⊎ ((m : ℕ) × (k ≡ length xs + m) × (slice_get ys m ≡ Some x))
        → ((suc k < length (z ∷ xs)) × (slice_get (z ∷ xs) (suc k) ≡ Some x)) ⊎ ((m : ℕ) × (suc k ≡ length (z ∷ xs) + m) × (slice_get ys m ≡ Some x))
    by (inl first) = inl (omega (arith, first.0), first.1)
    by (inr second) = inr (second.0, omega (arith, second.1), second.2)

pub at_second : {X : Type 0} (xs ys : List X) (k m : ℕ) → k ≡ length xs + m → slice_get (xs ++ ys) k ≡ slice_get ys m
at_second [] ys k m is = let same : k ≡ m = omega (arith, is) in ap (slice_get ys) same
at_second (x ∷ xs) ys zero m is = absurd (omega (arith, is))
at_second (x ∷ xs) ys (suc k) m is = at_second xs ys k m (omega (arith, is))

pub at_first : {X : Type 0} (xs ys : List X) (m : ℕ) → m < length xs → slice_get (xs ++ ys) m ≡ slice_get xs m
at_first [] ys m below = absurd (omega (arith, below))
at_first (x ∷ xs) ys zero below = refl
at_first (x ∷ xs) ys (suc m) below = at_first xs ys m (omega (arith, below))

pub map_at : {X Y : Type 0} (g : X → Y) (xs : List X) (k : ℕ) (x : X) → slice_get xs k ≡ Some x → slice_get (map g xs) k ≡ Some (g x)
map_at g [] zero x is = cc
map_at g [] (suc k) x is = cc
map_at g (y ∷ xs) zero x is = cc
map_at g (y ∷ xs) (suc k) x is = map_at g xs k x is

pub map_from : {X Y : Type 0} (g : X → Y) (xs : List X) (k : ℕ) (y : Y) → slice_get (map g xs) k ≡ Some y → (x : X) × (slice_get xs k ≡ Some x) × (g x ≡ y)
map_from g [] zero y is = cc
map_from g [] (suc k) y is = cc
map_from g (x ∷ xs) zero y is = (x, refl, cc)
map_from g (x ∷ xs) (suc k) y is = map_from g xs k y is

pub map_length : {X Y : Type 0} (g : X → Y) (xs : List X) → length (map g xs) ≡ length xs
map_length g [] = refl
map_length g (x ∷ xs) = ap suc (map_length g xs)

-- a number that stands in a list
pub stands_at : (xs : List ℕ) (k : ℕ) → k < length xs → slice_get xs k ≡ Some (slice_index xs k)
stands_at [] k below = absurd (omega (arith, below))
stands_at (x ∷ xs) zero below = refl
stands_at (x ∷ xs) (suc k) below = stands_at xs k (omega (arith, below))

pub contained : {X : Type 0} (xs : List X) (k : ℕ) (x : X) → slice_get xs k ≡ Some x → Contains xs x
contained [] zero x is = cc
contained [] (suc k) x is = cc
contained {X} (y ∷ xs) zero x is = (0, omega arith, some_is y x is)
  where
    some_is : (y x : X) → Some y ≡ Some x → y ≡ x
    some_is y x e = cc
contained (y ∷ xs) (suc k) x is = let there = contained xs k x is in (suc there.0, omega (arith, there.1), there.2)

pub contained_at : {X : Type 0} (xs : List X) (x : X) → Contains xs x → (k : ℕ) × (slice_get xs k ≡ Some x)
contained_at [] x here = absurd (omega (arith, here.1))
contained_at {X} (y ∷ xs) x here = by here.0 here.1 here.2 (contained_at xs x)
  where
    by : (k : ℕ) → k < length (y ∷ xs) → slice_index_or (y ∷ xs) k x ≡ x → (Contains xs x → (k : ℕ) × (slice_get xs k ≡ Some x)) → (k : ℕ) × (slice_get (y ∷ xs) k ≡ Some x)
    by zero below is later = (0, ap (λ (z : X). Some z) is)
    by (suc k) below is later = let there = later (k, omega (arith, below), is) in (suc there.0, there.1)

pub all_at : (P : ℕ → Type 0) (xs : List ℕ) → AllByRecursion P xs → (k x : ℕ) → slice_get xs k ≡ Some x → P x
all_at P [] all zero x is = cc
all_at P [] all (suc k) x is = cc
all_at P (y ∷ xs) all zero x is = subst P (some_is y x is) all.0
  where
    some_is : (y x : ℕ) → Some y ≡ Some x → y ≡ x
    some_is y x e = cc
all_at P (y ∷ xs) all (suc k) x is = all_at P xs all.1 k x is

-- INSTRUCTIONS OF ITEMS -------------------------------------------------------------------------------------------

module _ (calls : List AnsweredCall) where
  -- how many instructions the first items are
  abbrev pub so_many : ℕ → List Item → ℕ
  so_many k items = length (flat_map (carried calls) (take k items))

  abbrev pub placed_item : Instruction Name Name → List Name → Placed
  placed_item instruction results =
      record { instruction = answered_instruction calls instruction; results = map (answered calls) results; stack_map = [] }

  -- the item of an instruction
  pub record OfItem (items : List Item) (t : ℕ) (p : Placed) : Type 0 where
    pub j : ℕ
    pub place : ℕ
    pub instruction : Instruction Name Name
    pub results : List Name
    pub stands : slice_get items j ≡ Some (Instruct place instruction results)
    pub is : p ≡ placed_item instruction results
    pub counted : t ≡ so_many j items

  pub of_item : (items : List Item) (t : ℕ) (p : Placed) → slice_get (flat_map (carried calls) items) t ≡ Some p → OfItem items t p
  of_item [] zero p is = cc
  of_item [] (suc t) p is = cc
  of_item (Instruct place instruction results ∷ items) zero p is =
      record { j = 0; place = place; instruction = instruction; results = results; stands = refl; is = some_is p is; counted = refl }
    where
      some_is : (p : Placed) → Some (placed_item instruction results) ≡ Some p → p ≡ placed_item instruction results
      some_is p e = cc
  of_item (Instruct place instruction results ∷ items) (suc t) p is =
      let later : OfItem items t p = of_item items t p is in
      record { j = suc later.j; place = later.place; instruction = later.instruction; results = later.results; stands = later.stands; is = later.is; counted = ap suc later.counted }
  of_item (Use variable name ∷ items) t p is =
      let later : OfItem items t p = of_item items t p is in
      record { j = suc later.j; place = later.place; instruction = later.instruction; results = later.results; stands = later.stands; is = later.is; counted = later.counted }
  of_item (Assign variable name ∷ items) t p is =
      let later : OfItem items t p = of_item items t p is in
      record { j = suc later.j; place = later.place; instruction = later.instruction; results = later.results; stands = later.stands; is = later.is; counted = later.counted }

  -- an instruction is before what later items are
  pub fewer : (items : List Item) (j k place : ℕ) (instruction : Instruction Name Name) (results : List Name)
      → slice_get items j ≡ Some (Instruct place instruction results) → j < k → so_many j items < so_many k items
  fewer [] zero k place instruction results stands below = cc
  fewer [] (suc j) k place instruction results stands below = cc
  fewer (item ∷ items) j zero place instruction results stands below = absurd (omega (arith, below))
  fewer (item ∷ items) zero (suc k) place instruction results stands below =
      let same : item ≡ Instruct place instruction results = some_is item stands in
      subst (λ (i : Item). 0 < length (carried calls i ++ flat_map (carried calls) (take k items))) (sym same) (positive (flat_map (carried calls) (take k items)))
    where
      some_is : (item : Item) → Some item ≡ Some (Instruct place instruction results) → item ≡ Instruct place instruction results
      some_is item e = cc

      positive : (rest : List Placed) → 0 < length (placed_item instruction results ∷ rest)
      positive rest = omega arith
  fewer (Instruct p i r ∷ items) (suc j) (suc k) place instruction results stands below =
      let rest : so_many j items < so_many k items = fewer items j k place instruction results stands (omega (arith, below)) in
      omega (arith, rest)
  fewer (Use variable name ∷ items) (suc j) (suc k) place instruction results stands below = fewer items j k place instruction results stands (omega (arith, below))
  fewer (Assign variable name ∷ items) (suc j) (suc k) place instruction results stands below = fewer items j k place instruction results stands (omega (arith, below))

  -- the instruction of an item stands behind so many
  pub item_placed : (items : List Item) (j place : ℕ) (instruction : Instruction Name Name) (results : List Name)
      → slice_get items j ≡ Some (Instruct place instruction results) → slice_get (flat_map (carried calls) items) (so_many j items) ≡ Some (placed_item instruction results)
  item_placed [] zero place instruction results stands = cc
  item_placed [] (suc j) place instruction results stands = cc
  item_placed (item ∷ items) zero place instruction results stands =
      let same : item ≡ Instruct place instruction results = some_is item stands in
      ap (λ (i : Item). slice_get (carried calls i ++ flat_map (carried calls) items) 0) same
    where
      some_is : (item : Item) → Some item ≡ Some (Instruct place instruction results) → item ≡ Instruct place instruction results
      some_is item e = cc
  item_placed (Instruct p i r ∷ items) (suc j) place instruction results stands = item_placed items j place instruction results stands
  item_placed (Use variable name ∷ items) (suc j) place instruction results stands = item_placed items j place instruction results stands
  item_placed (Assign variable name ∷ items) (suc j) place instruction results stands = item_placed items j place instruction results stands

  -- the instructions of the first items and of the others
  pub counted_twice : (items : List Item) (k : ℕ) → length (flat_map (carried calls) items) ≡ so_many k items + length (flat_map (carried calls) (drop k items))
  counted_twice items zero = omega arith
  counted_twice [] (suc k) = refl
  counted_twice (Instruct place instruction results ∷ items) (suc k) =
      let rest : length (flat_map (carried calls) items) ≡ so_many k items + length (flat_map (carried calls) (drop k items)) = counted_twice items k in
      omega (arith, rest)
  counted_twice (Use x n ∷ items) (suc k) = counted_twice items k
  counted_twice (Assign x n ∷ items) (suc k) = counted_twice items k

  -- an item is so many instructions
  pub counted_item : (items : List Item) (k : ℕ) (item : Item) → slice_get items k ≡ Some item → so_many (suc k) items ≡ so_many k items + length (carried calls item)
  counted_item [] zero item is = cc
  counted_item [] (suc k) item is = cc
  counted_item (x ∷ items) zero item is =
      let same : x ≡ item = some_is x item is in
      let counted : length (carried calls x ++ []) ≡ length (carried calls item) =
      ap (λ (i : Item). length (carried calls i ++ [])) same ∙ ap length (append-nil (carried calls item)) in
      omega (arith, counted)
    where
      some_is : (x item : Item) → Some x ≡ Some item → x ≡ item
      some_is x item e = cc
  counted_item (Instruct p i r ∷ items) (suc k) item is =
      let rest : so_many (suc k) items ≡ so_many k items + length (carried calls item) = counted_item items k item is in
      omega (arith, rest)
  counted_item (Use x n ∷ items) (suc k) item is = counted_item items k item is
  counted_item (Assign x n ∷ items) (suc k) item is = counted_item items k item is
