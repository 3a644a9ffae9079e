-- What stands at the place of each item of a block, for the lemmas on when both machines agree.
use Rattle.std.proofs.Common.{◌≡◌, ◌≢◌, ℕ, suc, ◌==◌, if◌then◌else◌, Bool, true, false, List, [], ◌∷◌, slice_get, Option, Some, None, Contains, ◌⊎◌, inl, inr, refl, sym, ◌∙◌, ap, subst, arith}
use Rattle.std.proofs.lemmas.Bool.Decides.{nat_tests}
use Rattle.clif_ir.specs.Body.{Body, resolved}
use Rattle.clif_paths.specs.Places.{Place, start, inside, Path}
use Rattle.clif_paths.specs.State.{fresh, reads, Naming, Program, Kind, unborn, born, pending, complete, zero_of, Function}
use Rattle.clif_paths.specs.Blocks.{Blocks, state_of}
use Rattle.clif_paths.specs.Laws.{all_sealed}
use Rattle.clif_ssa.specs.Own.{Own}
use Rattle.clif_ssa.specs.Ssa.{SsaState}
use Rattle.clif_ssa.specs.Sound.{Describes, HomeFits}
use Rattle.clif_meaning.specs.Name.{Name}
use Rattle.clif_meaning.specs.Request.{AnsweredCall}
use Rattle.clif_meaning.specs.Instruction.{Instruction}
use Rattle.clif_meaning.specs.Program.{Item, Instruct, Use, Assign}
use Rattle.clif_meaning.specs.WellPlaced.{item_gives}
use Rattle.clif_meaning.proofs.StraightLine.{nothing_contained}
use Rattle.clif_simulation.specs.Tables.{code, answered, program_so_far, block_name, item_at, assigned_by, origin_of, IsProgramOf, IsGiven}
use Rattle.clif_simulation.proofs.Codes
use Rattle.clif_simulation.proofs.Finished.Giving.{In, contained_in, in_contained}
use Rattle.clif_simulation.proofs.GivenNames.{given_by_item}
use Rattle.clif_simulation.proofs.Finished.Agreement.{GivesThere, UsesThere, AssignsThere}
use Rattle.clif_simulation.proofs.Labelling.Labels.{same_instance}
use Rattle.clif_simulation.proofs.Finished.Straight.{next_arm, same_step, same_block}

pub not_start : (p : Place) (b k : ℕ) → p ≡ inside b k → p ≢ start
not_start p b k at none = no_start (sym none ∙ at)
  where
    no_start : start ≡ inside b k → ⊥
    no_start h = cc

some_is : {X : Type 0} (x y : X) → Some x ≡ Some y → x ≡ y
some_is x y e = cc

-- a value that stands for itself
abbrev pub stands_for_itself : Blocks → ℕ → Type 0
stands_for_itself tables w = tables.function.resolve w ≡ w

module _ (calls : List AnsweredCall) (own : Own) (f : Body) (s : SsaState) (tables : Blocks) (program_is : IsProgramOf calls tables) (describes : Describes own f s [] tables)
  where
    -- the program of the tables, as if every place were sealed, and their function
    abbrev pub program : Program
    program = all_sealed (state_of tables).program

    abbrev pub function : Function
    function = tables.function

    -- Values that are born at items -----------------------------------------------------------------------------------

    pub record IsBorn (w b k : ℕ) : Type 0 where
      pub n : ℕ
      pub named : tables.naming n ≡ record { home = inside b (suc k); origin = fresh }
      pub answers : tables.answer n ≡ w

    born_by : (w b k : ℕ) (kind : Kind) → HomeFits tables w kind → (tables.function.definition w).home ≡ inside b (suc k) → IsBorn w b k
    born_by w b k unborn fits at = absurd (not_start (inside b (suc k)) b (suc k) refl (sym at ∙ fits))
    born_by w b k (born n) fits at = record {
      n = n;
      named = fits.0 ∙ ap (λ (p : Place). record { home = p; origin = fresh }) at;
      answers = fits.1;
    }
    born_by w b k (pending x) fits at = absurd (omega (arith, same_step (sym fits.1 ∙ at)))
    born_by w b k (complete x) fits at = absurd (omega (arith, same_step (sym fits.1 ∙ at)))
    born_by w b k (zero_of x) fits at = absurd (omega (arith, same_step (sym fits.1 ∙ at)))

    pub is_born : (w b k : ℕ) → (tables.function.definition w).home ≡ inside b (suc k) → IsBorn w b k
    is_born w b k at = born_by w b k (tables.function.definition w).kind (describes.homes w) at

    module _ (b : ℕ) (B : Name) (named : block_name calls b ≡ Some B) where
      abbrev pub items : List Item
      items = (program_so_far calls).items B

      -- What items give -------------------------------------------------------------------------------------------------

      pub given_at : (k : ℕ) (item : Item) → slice_get items k ≡ Some item → (x : Name) → Contains (item_gives (Some item)) x
          → (tables.naming (code x) ≡ record { home = inside b (suc k); origin = origin_of item }) × (tables.answer (code x) ≡ answered calls x)
      given_at k item stands x there = program_is.given b k B item named stands x there

      -- what is given at the place of an item is given by the item
      pub record IsOfItem (n : ℕ) (item : Item) : Type 0 where
        pub x : Name
        pub coded : code x ≡ n
        pub gives : Contains (item_gives (Some item)) x

      pub given_only : (n k : ℕ) (item : Item) → slice_get items k ≡ Some item → (tables.naming n).home ≡ inside b (suc k) → IsOfItem n item
      given_only n k item stands at = by (given_by_item calls tables program_is n b k at)
        where
          by : IsGiven calls tables n → IsOfItem n item
          by g =
              let home : inside g.block (suc g.index) ≡ inside b (suc k) = sym (ap (λ (m : Naming). m.home) g.naming) ∙ at in
              let block : g.block ≡ b = same_block home in
              let index : g.index ≡ k = omega (arith, same_step home) in
              let name : g.block_is ≡ B = some_is g.block_is B (sym g.named ∙ ap (block_name calls) block ∙ named) in
              let one : Some g.item ≡ Some item =
              sym g.stands ∙ ap (λ (m : Name). item_at calls m g.index) name ∙ ap (λ (i : ℕ). item_at calls B i) index ∙ stands in
              record {
                x = g.name;
                coded = g.coded;
                gives = subst (λ (i : Item). Contains (item_gives (Some i)) g.name) (some_is g.item item one) g.gives;
              }

      -- What is given as the block is entered ---------------------------------------------------------------------------

      module _ (x : Name) (stands : Contains ((program_so_far calls).parameters B) x) where
        pub parameter_named : tables.naming (code x) ≡ record { home = inside b 0; origin = fresh }
        parameter_named = (program_is.parameter b B named x stands).0

        parameter_answers : tables.answer (code x) ≡ answered calls x
        parameter_answers = (program_is.parameter b B named x stands).1

        parameter_born : (function.definition (tables.answer (code x)) ≡ record { home = (tables.naming (code x)).home; kind = born (code x) })
            × (resolved f (tables.answer (code x)) ≡ tables.answer (code x))
        parameter_born =
            describes.born_there (code x) (not_start (tables.naming (code x)).home b 0 (ap (λ (m : Naming). m.home) parameter_named))
            (ap (λ (m : Naming). m.origin) parameter_named)

        pub parameter_defined : function.definition (answered calls x) ≡ record { home = inside b 0; kind = born (code x) }
        parameter_defined =
            ap function.definition (sym parameter_answers) ∙ parameter_born.0 ∙ ap (λ (m : Naming). record { home = m.home; kind = born (code x) }) parameter_named

      unassigned : (k : ℕ) (item : Item) → slice_get items k ≡ Some item → ((x : ℕ) → assigned_by (Some item) x ≡ None)
          → (x : ℕ) → tables.assigned (inside b (suc k)) x ≡ None
      unassigned k item stands none x = program_is.assigned b k B named x ∙ ap (λ (o : Option Item). assigned_by o x) stands ∙ none x

      -- an instruction
      module _ (k place : ℕ) (instruction : Instruction Name Name) (results : List Name) (stands : slice_get items k ≡ Some (Instruct place instruction results))
        where
          result_named : (n : Name) → In n results → tables.naming (code n) ≡ record { home = inside b (suc k); origin = fresh }
          result_named n there = (given_at k (Instruct place instruction results) stands n (in_contained results n there)).0

          result_answers : (n : Name) → In n results → tables.answer (code n) ≡ answered calls n
          result_answers n there = (given_at k (Instruct place instruction results) stands n (in_contained results n there)).1

          result_born : (n : Name) → In n results
              → (function.definition (tables.answer (code n)) ≡ record { home = (tables.naming (code n)).home; kind = born (code n) })
              × (resolved f (tables.answer (code n)) ≡ tables.answer (code n))
          result_born n there =
              describes.born_there (code n) (not_start (tables.naming (code n)).home b (suc k) (ap (λ (m : Naming). m.home) (result_named n there)))
              (ap (λ (m : Naming). m.origin) (result_named n there))

          result_defined : (n : Name) → In n results → function.definition (answered calls n) ≡ record { home = inside b (suc k); kind = born (code n) }
          result_defined n there =
              ap function.definition (sym (result_answers n there)) ∙ (result_born n there).0
              ∙ ap (λ (m : Naming). record { home = m.home; kind = born (code n) }) (result_named n there)

          pub gives_there : (path : Path) → GivesThere (stands_for_itself tables) program function (next_arm b k) path results (answered calls)
          gives_there path = record {
            known = refl;
            unassigned = unassigned k (Instruct place instruction results) stands (λ x. refl);
            named = result_named;
            defined = result_defined;
            only_names = λ n at.
                let given = given_only (code n) k (Instruct place instruction results) stands at in
                subst (λ (m : Name). In m results) (Codes.differ given.x n given.coded) (contained_in results given.x given.gives);
            only_values = λ w at.
                let one = is_born w b k at in
                let given = given_only one.n k (Instruct place instruction results) stands (ap (λ (m : Naming). m.home) one.named) in
                let there : In given.x results = contained_in results given.x given.gives in
                (given.x, there, sym one.answers ∙ ap tables.answer (sym given.coded) ∙ result_answers given.x there);
            are_live = λ n there.
                describes.resolves (answered calls n) ∙ ap (resolved f) (sym (result_answers n there)) ∙ (result_born n there).1 ∙ result_answers n there;
            before = λ n there.
                same_instance program function (code n) (answered calls n) (inside b (suc k)) (result_named n there) (result_defined n there) path;
          }

      alone : (x y : Name) → Contains (x ∷ []) y → y ≡ x
      alone x y there = by (contained_in (x ∷ []) y there)
        where
          by : (y ≡ x) ⊎ ⊥ → y ≡ x
          by (inl same) = same
          by (inr none) = absurd none

      fresh_no_read : (x : ℕ) → fresh ≡ reads x → ⊥
      fresh_no_read x h = cc

      -- a use
      pub uses_there : (k x : ℕ) (used : Name) → slice_get items k ≡ Some (Use x used) → UsesThere program function (next_arm b k) x used
      uses_there k x used stands =
          let used_named : tables.naming (code used) ≡ record { home = inside b (suc k); origin = reads x } =
          (given_at k (Use x used) stands used (0, omega arith, refl)).0 in
          record {
            begun = not_start (inside b (suc k)) b (suc k) refl;
            known = refl;
            unassigned = unassigned k (Use x used) stands (λ y. refl);
            named = used_named;
            only_names = λ n at.
                let given = given_only (code n) k (Use x used) stands at in
                sym (Codes.differ given.x n given.coded) ∙ alone used given.x given.gives;
            no_values = λ w at.
                let one = is_born w b k at in
                let given = given_only one.n k (Use x used) stands (ap (λ (m : Naming). m.home) one.named) in
                let number : code used ≡ one.n = ap code (sym (alone used given.x given.gives)) ∙ given.coded in
                let both : record { home = inside b (suc k); origin = fresh } ≡ record { home = inside b (suc k); origin = reads x } =
                sym one.named ∙ ap tables.naming (sym number) ∙ used_named in
                fresh_no_read x (ap (λ (m : Naming). m.origin) both);
          }

      nothing_given : (k x : ℕ) (from : Name) → slice_get items k ≡ Some (Assign x from) → (n : ℕ) → (tables.naming n).home ≢ inside b (suc k)
      nothing_given k x from stands n at =
          let given = given_only n k (Assign x from) stands at in
          nothing_contained given.x given.gives

      -- an assignment
      pub assigns_there : (k x : ℕ) (from : Name) → slice_get items k ≡ Some (Assign x from) → AssignsThere program function (next_arm b k) x from
      assigns_there k x from stands =
          let here : (y : ℕ) → tables.assigned (inside b (suc k)) y ≡ (if y == x then Some (code from) else None) = λ y.
          program_is.assigned b k B named y ∙ ap (λ (o : Option Item). assigned_by o y) stands in
          record {
            known = refl;
            written = let same : (x == x) ≡ true = grind (arith, nat_tests) in here x ∙ ap (λ (t : Bool). if t then Some (code from) else None) same;
            unwritten = λ y apart. let other : (y == x) ≡ false = grind (arith, nat_tests) in here y ∙ ap (λ (t : Bool). if t then Some (code from) else None) other;
            no_names = λ n at. nothing_given k x from stands (code n) at;
            no_values = λ w at.
                let one = is_born w b k at in
                nothing_given k x from stands one.n (ap (λ (m : Naming). m.home) one.named);
          }
