-- What a script's program has, and places of lists.
use Rattle.std.proofs.Common.{◌≡◌, ℕ, zero, suc, ◌<◌, List, [], ◌∷◌, ◌++◌, length, map, slice_get, Option, Some, None, Contains, ◌⊎◌, inl, inr, refl, ◌∙◌, ap, subst, arith}
use Rattle.std.specs.List.{AllByRecursion}
use Rattle.clif_meaning.specs.Name.{Name}
use Rattle.clif_meaning.specs.Request.{Request, AnsweredCall}
use Rattle.clif_meaning.specs.Program.{Program, Item, with_item_at, with_inserted, extended}
use Rattle.clif_meaning.specs.Path.{Place, IsPath}
use Rattle.clif_meaning.specs.WellPlaced.{item_gives, program_flow, program_code, IsGivenAlong, given_on_entry}
use Rattle.clif_simulation.specs.Tables.{program_so_far}
pub use Rattle.clif_meaning.proofs.Effects.{MakesNoParameter}
use Rattle.clif_meaning.proofs.Effects.{ProgramEffect, program_effect, Leaves, Inserts, Takes, Switches, Assigns, Uses, Builds, Redirects}
use Rattle.clif_simulation.proofs.Numbers.{program_longer}
use Rattle.clif_meaning.proofs.StraightLine.{nothing_contained}

-- Parameters of the caller's -------------------------------------------------------------------------------------

item_leaves : (program : Program) (current : Option Name) (item : Item) → (with_item_at program current item).parameters ≡ program.parameters
item_leaves program None item = refl
item_leaves program (Some block) item = refl

call_leaves : (program : Program) (request : Request) → MakesNoParameter request → (extended program request).parameters ≡ program.parameters
call_leaves program request none = by (program_effect request)
  where
    of_request : (other : Request) → request ≡ other → (extended program other).parameters ≡ program.parameters → (extended program request).parameters ≡ program.parameters
    of_request other is same = ap (λ (r : Request). (extended program r).parameters) is ∙ same

    by : ProgramEffect request → (extended program request).parameters ≡ program.parameters
    by (Leaves stays is) = ap (λ (p : Program). p.parameters) (is program)
    by (Inserts stays is) = ap (λ (p : Program). p.parameters) (is program)
    by (Takes block types stays makes is) = absurd (makes none)
    by (Switches block is) = of_request _ is refl
    by (Assigns variable value is) = of_request _ is (item_leaves program program.current _)
    by (Uses variable is) = of_request _ is (item_leaves (with_inserted program) program.current _)
    by (Builds entries instruction is) = of_request _ is (item_leaves (with_inserted program) program.current _)
    by (Redirects branch from to stays is) = ap (λ (p : Program). p.parameters) (is program)

-- such a call leaves each block's
pub parameters_stay : (calls : List AnsweredCall) (call : AnsweredCall) → MakesNoParameter call.request → (block : Name)
    → (program_so_far (calls ++ call ∷ [])).parameters block ≡ (program_so_far calls).parameters block
parameters_stay calls call none block =
    ap (λ (program : Program). program.parameters block) (program_longer calls call)
    ∙ ap (λ (parameters : Name → List Name). parameters block) (call_leaves (program_so_far calls) call.request none)

-- Places of lists ---------------------------------------------------------------------------------------------------

pub place_within : {X : Type 0} (xs : List X) (k : ℕ) (x : X) → slice_get xs k ≡ Some x → k < length xs
place_within [] k x found = cc
place_within (y ∷ xs) zero x found = omega arith
place_within (y ∷ xs) (suc k) x found = omega (arith, place_within xs k x found)

-- what holds of each entry of a list holds of the one at this place
pub all_at : {X : Type 0} (P : X → Type 0) (xs : List X) (k : ℕ) (x : X) → AllByRecursion P xs → slice_get xs k ≡ Some x → P x
all_at P [] k x all found = cc
all_at P (y ∷ xs) zero x all found = let same : y ≡ x = cc in subst P same all.0
all_at P (y ∷ xs) (suc k) x all found = all_at P xs k x all.1 found

-- a list of which nothing is mapped has nothing
pub none_mapped : {X Y : Type 0} (g : X → Y) (xs : List X) → map g xs ≡ [] → xs ≡ []
none_mapped g [] none = refl
none_mapped {X} {Y} g (x ∷ xs) none = absurd (some (g x) (map g xs) none)
  where
    some : (y : Y) (ys : List Y) → (y ∷ ys) ≡ [] → ⊥
    some y ys h = cc

-- The straight path through a block ---------------------------------------------------------------------------------

abbrev pub through_block : Name → ℕ → List (Place Name)
through_block block zero = []
through_block block (suc k) = record { block = block; index = k } ∷ through_block block k

module _ (program : Program) (entry : Name) (is_entry : program.entry ≡ Some entry) where
  pub is_path : (k : ℕ) → k < length (program.items entry) → IsPath (program_flow program) (record { block = entry; index = k } ∷ through_block entry k)
  is_path zero within = (is_entry, (refl, within))
  is_path (suc k) within = (inl (refl, omega arith, within), is_path k (omega arith))

  -- what is given as a place of it is come to is a parameter of the block
  pub given_entering : (x : Name) (k : ℕ) → Contains (given_on_entry (program_code program) entry k) x → Contains (program.parameters entry) x
  given_entering x zero there = there
  given_entering x (suc k) there = absurd (nothing_contained x there)

  -- what is given along it is one, or an item before gives it
  pub given_earlier : (x : Name) (k : ℕ) → IsGivenAlong (program_code program) x (through_block entry k)
      → Contains (program.parameters entry) x ⊎ ((j : ℕ) × (j < k) × Contains (item_gives (slice_get (program.items entry) j)) x)
  given_earlier x zero along = absurd along
  given_earlier x (suc k) along = by along (given_earlier x k)
    where
      later : Contains (program.parameters entry) x ⊎ ((j : ℕ) × (j < k) × Contains (item_gives (slice_get (program.items entry) j)) x)
          → Contains (program.parameters entry) x ⊎ ((j : ℕ) × (j < suc k) × Contains (item_gives (slice_get (program.items entry) j)) x)
      later (inl entering) = inl entering
      later (inr found) = inr (found.0, omega (arith, found.1), found.2)

      by : Contains (item_gives (slice_get (program.items entry) k)) x
          ⊎ Contains (given_on_entry (program_code program) entry k) x ⊎ IsGivenAlong (program_code program) x (through_block entry k)
          → (IsGivenAlong (program_code program) x (through_block entry k)
          → Contains (program.parameters entry) x ⊎ ((j : ℕ) × (j < k) × Contains (item_gives (slice_get (program.items entry) j)) x))
          → Contains (program.parameters entry) x ⊎ ((j : ℕ) × (j < suc k) × Contains (item_gives (slice_get (program.items entry) j)) x)
      by (inl here) earlier = inr (k, omega arith, here)
      by (inr (inl entering)) earlier = inl (given_entering x k entering)
      by (inr (inr before)) earlier = later (earlier before)
