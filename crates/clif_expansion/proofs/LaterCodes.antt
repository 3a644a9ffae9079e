-- What code does, and that it is laid, stays true in a later reading.
use Rattle.std.proofs.Common.{◌≡◌, inl, inr, ℕ, List, [], ◌∷◌, ◌++◌, refl, sym, ◌∙◌, ap, subst, Some}
use Rattle.std.specs.List.{AllByRecursion}
use Rattle.clif_meaning.specs.Instruction.{Instruction}
use Rattle.clif_meaning.specs.Name.{Name}
use Rattle.clif_meaning.specs.Program.{Program, Item, Instruct, Use, Assign}
use Rattle.clif_meaning.specs.WellPlaced.{item_gives, item_names, item_passes, item_targets}
use Rattle.clif_meaning.specs.World.{World}
use Rattle.clif_types.specs.declared.types.«Type».{«Type»}
use Rattle.clif_expansion.specs.Code.{Decides, DecidesItem, NameTypes, Performs, PerformsItem}
use Rattle.clif_expansion.specs.Laying.{Ending, Entering, HasGiven, IsAmong, IsLaid, IsToHand, IsToPass, Laying, Lays, Leaving}
use Rattle.clif_expansion.specs.Reading.{Reading}
use Rattle.clif_expansion.specs.Walk.{Surroundings, Walk}
use Rattle.clif_expansion.specs.WalkLaws.{Extends}
use Rattle.clif_expansion.proofs.Walking.{walks_go_on}
use Rattle.clif_expansion.proofs.JoinedPrograms.{KeepsOwn}
use Rattle.clif_expansion.proofs.Joins.{KeepsGenerated, KeepsReading, names_later}

module _ (reading later : Reading) (keeps : KeepsReading reading later) (generated : KeepsGenerated reading later) where
  -- PERFORMED -------------------------------------------------------------------------------------------------------------

  performs_later : (pointer_width : ℕ) (types : NameTypes) (code : List Item) (instruction : Instruction Name Name) (results : List Name)
      → Performs pointer_width reading types code instruction results → Performs pointer_width later types code instruction results
  performs_later pointer_width types code instruction results is = record {
    begins = is.begins;
    given = is.given;
    named = names_later reading later keeps is.given results is.named;
    performs = λ world plain names memory width bytes agree sound.
        let did = is.performs world plain names memory width bytes (λ x name read. agree x name (keeps x name read)) sound in
        record {
          values = did.values;
          after = did.after;
          outcome = did.outcome;
          runs = did.runs;
          kept = λ x other. did.kept x (λ was. other (generated x was));
        };
  }

  pub item_performed_later : (pointer_width : ℕ) (types : NameTypes) (code : List Item) (item : Item)
      → PerformsItem pointer_width reading types code item → PerformsItem pointer_width later types code item
  item_performed_later pointer_width types code (Instruct place instruction results) is = performs_later pointer_width types code instruction results is
  item_performed_later pointer_width types code (Use variable name) is = absurd is
  item_performed_later pointer_width types code (Assign variable name) is = absurd is

  -- LAID ------------------------------------------------------------------------------------------------------------------

  all_later : (P Q : Name → Type 0) → ((x : Name) → P x → Q x) → (names : List Name) → AllByRecursion P names → AllByRecursion Q names
  all_later P Q each [] all = tt
  all_later P Q each (x ∷ names) all = (each x all.0, all_later P Q each names all.1)

  among_later : (given : List Name) (name : Name) → IsAmong reading given name → IsAmong later given name
  among_later given name (x, read, there) = (x, keeps x name read, there)

  module _ (program after : Program) (own : KeepsOwn reading program after) (item : Item) where
    has_later : (given : List Name) → HasGiven reading item given → HasGiven later item given
    has_later given has = all_later (IsAmong reading given) (IsAmong later given) (among_later given) (item_gives (Some item)) has

    hand_later : (given : List Name) (x : Name) → IsToHand reading item given x → IsToHand later item given x
    hand_later given x (inl there) = inl there
    hand_later given x (inr (name, read, there)) = inr (name, keeps x name read, there)

    pass_later : (given : List Name) (x : Name) → IsToPass reading item given x → IsToPass later item given x
    pass_later given x (inl hand) = inl (hand_later given x hand)
    pass_later given x (inr (has, name, read, there)) = inr (has_later given has, name, keeps x name read, there)

    lays_later : (given blocks : List Name) (code : List Item) → Lays reading program item given blocks code → Lays later after item given blocks code
    lays_later given [] [] (Ending g has) = Ending given (has_later given has)
    lays_later given [] (start ∷ code) (Laying g first rest names passes lays) =
        Laying given first rest
        (all_later (IsToHand reading item given) (IsToHand later item given) (hand_later given) (item_names (Some first)) names)
        (all_later (IsToPass reading item (item_gives (Some first) ++ given)) (IsToPass later item (item_gives (Some first) ++ given)) (pass_later (item_gives (Some first) ++ given)) (item_passes (Some first)) passes)
        (lays_later (item_gives (Some first) ++ given) (item_targets (Some first)) rest lays)
    lays_later given (b ∷ blocks) code (Entering g block others c is within lays) =
        Entering given block others code (generated block is)
        (subst (λ (code : List Item). Lays later after item (after.parameters block ++ given) [] code) (sym (own block is).0)
        (subst (λ (names : List Name). Lays later after item (names ++ given) [] (program.items block)) (sym (own block is).1)
        (lays_later (program.parameters block ++ given) [] (program.items block) within)))
        (lays_later given others code lays)
    lays_later given (b ∷ blocks) code (Leaving g block target others c read there has lays) =
        Leaving given block target others code (keeps block target read) there (has_later given has) (lays_later given others code lays)

  pub laid_later : (program after : Program) → KeepsOwn reading program after → (code : List Item) (item : Item) → IsLaid reading program code item → IsLaid later after code item
  laid_later program after own code item is = record { begins = is.begins; lays = lays_later program after own item [] [] code is.lays }

  -- DECIDED ---------------------------------------------------------------------------------------------------------------

  module _ (before after : Program) (own : KeepsOwn reading before after) where
    abbrev around : World → (Name → «Type») → Surroundings
    around world types = record { world = world; reading = reading; types = types; program = before }

    abbrev around_later : World → (Name → «Type») → Surroundings
    around_later world types = record { world = world; reading = later; types = types; program = after }

    no_more : (items : List Item) → items ≡ items ++ []
    no_more [] = refl
    no_more (item ∷ items) = ap (λ (rest : List Item). item ∷ rest) (no_more items)

    extends : (world : World) (types : Name → «Type») → Extends (around world types) (around_later world types)
    extends world types = record {
      world = refl;
      generated = generated;
      types = λ x. refl;
      items = λ block is. ([], (own block is).0 ∙ no_more (before.items block));
    }

    decides_later : (pointer_width : ℕ) (types : NameTypes) (code : List Item) (instruction : Instruction Name Name) (branches tables : ℕ)
        → Decides pointer_width reading types before code instruction branches tables → Decides pointer_width later types after code instruction branches tables
    decides_later pointer_width types code instruction branches tables is = record {
      decides = λ world plain names memory width agree sound.
          let did = is.decides world plain names memory width (λ x name read. agree x name (keeps x name read)) sound in
          record {
            index = did.index;
            edge = did.edge;
            outcome = did.outcome;
            there = did.there;
            nothing = did.nothing;
            block = did.block;
            target = keeps did.block did.edge.target did.target;
            after = did.after;
            walked_branches = did.walked_branches;
            walked_tables = did.walked_tables;
            walk = subst (λ (items : List Item). Walk (around_later world types.plain) did.block items plain did.after did.walked_branches did.walked_tables) (sym (no_more code))
                (walks_go_on.kept (around world types.plain) (around_later world types.plain) did.block code [] plain did.after did.walked_branches did.walked_tables (extends world types.plain) did.walk);
            few_branches = did.few_branches;
            few_tables = did.few_tables;
          };
    }

    pub item_decides_later : (pointer_width : ℕ) (types : NameTypes) (code : List Item) (item : Item)
        → DecidesItem pointer_width reading types before code item → DecidesItem pointer_width later types after code item
    item_decides_later pointer_width types code (Instruct place instruction results) (branches, tables, is) = (branches, tables, decides_later pointer_width types code instruction branches tables is)
    item_decides_later pointer_width types code (Use variable name) is = absurd is
    item_decides_later pointer_width types code (Assign variable name) is = absurd is
