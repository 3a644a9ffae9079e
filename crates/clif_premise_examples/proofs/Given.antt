-- A test by which what items name is given before: by a parameter of their block, or by an earlier item of it.
use Rattle.std.proofs.Common.{◌≡◌, ◌⊎◌, inl, inr, ◌&&◌, ◌||◌, ◌++◌, ℕ, zero, suc, Bool, true, false, List, [], ◌∷◌, refl, sym, subst, arith, Some, Contains, slice_get}
use Rattle.std.proofs.lemmas.Bool.{and_parts}
use Rattle.std.specs.List.{AllByRecursion, list_all, list_any}
use Rattle.clif_meaning.specs.Name.{Name, same_name}
use Rattle.clif_meaning.specs.Path.{IsPath, Leads, Place}
use Rattle.clif_meaning.specs.Program.{Item, Program}
use Rattle.clif_meaning.specs.WellPlaced.{Code, IsGivenAlong, IsWellPlaced, given_on_entry, item_gives, item_names, item_passes, program_code}
use Rattle.clif_expansion.specs.ScriptCall.{ScriptCall, program_of_calls}
use Rattle.clif_premise_examples.proofs.Blocks.{blocks_of, each_block, name_is}

-- one of these is the name
abbrev Among : Name → List Name → Type 0
Among x [] = ⊥
Among x (y ∷ names) = (x ≡ y) ⊎ Among x names

contained : (x : Name) (names : List Name) → Among x names → Contains names x
contained x [] there = absurd there
contained x (y ∷ names) (inl same) = (0, omega arith, sym same)
contained x (y ∷ names) (inr later) = let rest = contained x names later in (suc rest.0, omega (arith, rest.1), rest.2)

among : (x : Name) (names : List Name) → Contains names x → Among x names
among x [] there = absurd (omega (arith, there.1))
among x (y ∷ names) (zero, below, here) = inl (sym here)
among x (y ∷ names) (suc k, below, there) = inr (among x names (k, omega (arith, below), there))

either : (x : Name) (left right : List Name) → Among x (left ++ right) → Among x left ⊎ Among x right
either x [] right there = inr there
either x (y ∷ left) right (inl same) = inl (inl same)
either x (y ∷ left) right (inr later) = by (either x left right later)
  where
    by : Among x left ⊎ Among x right → Among x (y ∷ left) ⊎ Among x right
    by (inl a) = inl (inr a)
    by (inr b) = inr b

-- THE TEST ----------------------------------------------------------------------------------------------------------------

abbrev is_among : List Name → Name → Bool
is_among given x = list_any (same_name x) given

abbrev pub given_first : List Name → List Item → Bool
given_first given [] = true
given_first given (item ∷ rest) =
    list_all (is_among given) (item_names (Some item)) && list_all (is_among (item_gives (Some item) ++ given)) (item_passes (Some item))
    && given_first (item_gives (Some item) ++ given) rest

-- what is given before the item at this place
abbrev given_at : List Name → List Item → ℕ → List Name
given_at given items zero = given
given_at given [] (suc k) = given
given_at given (item ∷ rest) (suc k) = given_at (item_gives (Some item) ++ given) rest k

found : (given : List Name) (x : Name) → is_among given x ≡ true → Among x given
found [] x test = let no_way : ⊥ = cc in absurd no_way
found (y ∷ given) x test = by (same_name x y) refl test (found given x)
  where
    by : (c : Bool) → same_name x y ≡ c → (c || is_among given x) ≡ true → (is_among given x ≡ true → Among x given) → Among x (y ∷ given)
    by true same test later = inl (name_is x y same)
    by false other test later = inr (later test)

all_found : (given names : List Name) (x : Name) → list_all (is_among given) names ≡ true → Among x names → Among x given
all_found given [] x test there = absurd there
all_found given (y ∷ names) x test (inl same) =
    subst (λ (z : Name). Among z given) (sym same) (found given y (and_parts (is_among given y) (list_all (is_among given) names) test).0)
all_found given (y ∷ names) x test (inr later) = all_found given names x (and_parts (is_among given y) (list_all (is_among given) names) test).1 later

record Parts (given : List Name) (item : Item) (rest : List Item) : Type 0 where
  names : list_all (is_among given) (item_names (Some item)) ≡ true
  passes : list_all (is_among (item_gives (Some item) ++ given)) (item_passes (Some item)) ≡ true
  later : given_first (item_gives (Some item) ++ given) rest ≡ true

parts_of : (given : List Name) (item : Item) (rest : List Item) → given_first given (item ∷ rest) ≡ true → Parts given item rest
parts_of given item rest test =
    let first = and_parts _ _ test in
    let second = and_parts _ _ first.0 in
    record { names = second.0; passes = second.1; later = first.1 }

named_at : (items : List Item) (given : List Name) → given_first given items ≡ true → (k : ℕ) (x : Name) → Among x (item_names (slice_get items k))
    → Among x (given_at given items k)
named_at [] given test zero x there = absurd there
named_at [] given test (suc k) x there = absurd there
named_at (item ∷ rest) given test zero x there = all_found given _ x (parts_of given item rest test).names there
named_at (item ∷ rest) given test (suc k) x there = named_at rest (item_gives (Some item) ++ given) (parts_of given item rest test).later k x there

passed_at : (items : List Item) (given : List Name) → given_first given items ≡ true → (k : ℕ) (x : Name) → Among x (item_passes (slice_get items k))
    → Among x (item_gives (slice_get items k) ++ given_at given items k)
passed_at [] given test zero x there = absurd there
passed_at [] given test (suc k) x there = absurd there
passed_at (item ∷ rest) given test zero x there = all_found _ _ x (parts_of given item rest test).passes there
passed_at (item ∷ rest) given test (suc k) x there = passed_at rest (item_gives (Some item) ++ given) (parts_of given item rest test).later k x there

-- what is given one place later is given there, or before
one_back : (items : List Item) (given : List Name) (k : ℕ) (x : Name) → Among x (given_at given items (suc k))
    → Among x (item_gives (slice_get items k)) ⊎ Among x (given_at given items k)
one_back [] given zero x there = inr there
one_back [] given (suc k) x there = inr there
one_back (item ∷ rest) given zero x there = either x (item_gives (Some item)) given there
one_back (item ∷ rest) given (suc k) x there = one_back rest (item_gives (Some item) ++ given) k x there

-- PATHS -------------------------------------------------------------------------------------------------------------------

module _ (program : Program) where
  abbrev code : Code Name Name
  code = program_code program

  abbrev given_there : Name → ℕ → List Name
  given_there block k = given_at (program.parameters block) (program.items block) k

  at_front : (block : Name) (k : ℕ) (x : Name) → k ≡ 0 → Among x (given_there block k) → Contains (given_on_entry code block k) x
  at_front block zero x first there = contained x _ there
  at_front block (suc k) x first there = absurd (omega (arith, first))

  along : (path : List (Place Name)) (q : Place Name) (x : Name) → IsPath code.flow (q ∷ path) → Among x (given_there q.block q.index)
      → Contains (given_on_entry code q.block q.index) x ⊎ IsGivenAlong code x path
  along [] q x start there = inl (at_front q.block q.index x start.1.0 there)
  along (p ∷ path) q x walk there = by walk.0 (along path p x walk.1)
    where
      here : Among x (item_gives (slice_get (program.items p.block) p.index)) ⊎ Among x (given_there p.block p.index)
          → (Among x (given_there p.block p.index) → Contains (given_on_entry code p.block p.index) x ⊎ IsGivenAlong code x path)
          → IsGivenAlong code x (p ∷ path)
      here (inl gives) earlier = inl (contained x _ gives)
      here (inr before) earlier = inr (earlier before)

      by : Leads code.flow p q → (Among x (given_there p.block p.index) → Contains (given_on_entry code p.block p.index) x ⊎ IsGivenAlong code x path)
          → Contains (given_on_entry code q.block q.index) x ⊎ IsGivenAlong code x (p ∷ path)
      by (inr enters) earlier = inl (at_front q.block q.index x enters.1.0 there)
      by (inl next) earlier =
          let index : q.index ≡ suc p.index = omega (arith, next.1) in
          let back : Among x (given_there p.block (suc p.index)) =
          subst (λ (b : Name). Among x (given_there b (suc p.index))) next.0 (subst (λ (k : ℕ). Among x (given_there q.block k)) index there) in
          inr (here (one_back (program.items p.block) (program.parameters p.block) p.index x back) earlier)

  placed : ((block : Name) → given_first (program.parameters block) (program.items block) ≡ true) → IsWellPlaced code
  placed test = record {
    named = λ q x names path walk. along path q x walk (named_at (program.items q.block) (program.parameters q.block) (test q.block) q.index x (among x _ names));
    passed = λ q x passes. by q x (either x _ _ (passed_at (program.items q.block) (program.parameters q.block) (test q.block) q.index x (among x _ passes)));
  }
    where
      by : (q : Place Name) (x : Name) → Among x (item_gives (slice_get (program.items q.block) q.index)) ⊎ Among x (given_there q.block q.index)
          → Contains (code.gives q) x ⊎ ((path : List (Place Name)) → IsPath code.flow (q ∷ path) → Contains (given_on_entry code q.block q.index) x ⊎ IsGivenAlong code x path)
      by q x (inl gives) = inl (contained x _ gives)
      by q x (inr before) = inr (λ path walk. along path q x walk before)

pub well_placed : (calls : List ScriptCall)
    → AllByRecursion (λ block. given_first ((program_of_calls calls).parameters block) ((program_of_calls calls).items block) ≡ true) (blocks_of calls)
    → IsWellPlaced (program_code (program_of_calls calls))
well_placed calls all =
    placed (program_of_calls calls)
    (each_block calls _ (λ name none. subst (λ (items : List Item). given_first ((program_of_calls calls).parameters name) items ≡ true) (sym none) refl) all)
