-- Joined calls have joined programs: calls of the builder, and code in a line.
use Rattle.std.proofs.Common.{◌≡◌, ◌<◌, ◌≤◌, ◌+◌, ◌⊎◌, inl, inr, ℕ, suc, Bool, true, false, List, [], ◌∷◌, ◌++◌, length, map, refl, sym, ◌∙◌, ap, ap₂, subst, arith, Option, Some, None}
use Rattle.std.specs.Prelude.{Contains, fold, if◌then◌else◌, is_some}
use Rattle.std.specs.List.{AllByRecursion, AllZip}
use Rattle.std.proofs.lemmas.Bool.{cases_lt}
use Rattle.clif_types.specs.declared.types.«Type».{«Type»}
use Rattle.clif_meaning.specs.Instruction.{Edge, Instruction, Operation, Switch}
use Rattle.clif_meaning.specs.Ledger.{Ledger, answers_to, changed_by, is_terminator, ledger_with, with_begun, with_filled_at, with_instruction, with_predecessor, with_terminator}
use Rattle.clif_meaning.specs.Name.{Name, answer_of, same_name}
use Rattle.clif_meaning.specs.Program.{Program, Item, Instruct, Use, Assign, answers_from, extended, redirected_item, result_names, result_types, with_call, with_inserted, with_item_at, with_parameters, with_redirected}
use Rattle.clif_meaning.specs.Request.{Request, SwitchToBlock}
use Rattle.clif_meaning.proofs.Effects.{switch_of, ProgramEffect, program_effect, Leaves, Inserts, Takes, Switches, Assigns, Uses, Builds, Redirects, LedgerEffect, ledger_effect, Keeps, Lays, Changes, Begins, Creates, Enters, ChangesEach, Declares, Touches, Reads, Marks, Appends}
use Rattle.clif_expansion.specs.Emission.{AreAnswered, AreGenerated, AreGiven, LastResults, StaysInLine, reading_behind}
use Rattle.clif_expansion.specs.Expansion.{AreCut, IsCutProgram, IsReadBlock}
use Rattle.clif_expansion.specs.JoinedCalls.{HaveCurrent, uses_current}
use Rattle.clif_expansion.specs.JoinedPrograms.{AreLastRead, IsDecidingItem, IsEmission, built_items}
use Rattle.clif_expansion.specs.Joining.{IsJoined, IsReadCurrent, IsReadRequest, IsUnread, answers_at, reading_after}
use Rattle.clif_expansion.specs.Reading.{Generated, IsOneToOne, IsReadAs, IsReadInstruction, NotMade, Reading, ScriptName, StandsFor}
use Rattle.clif_expansion.specs.ScriptCall.{Emit, emitted_item, emitted_types, program_behind, program_with_call}
use Rattle.clif_expansion.specs.Walk.{IsGenerated}
use Rattle.clif_expansion.proofs.Among.{other_generated}
use Rattle.clif_expansion.proofs.Emissions.{begun_current}
use Rattle.clif_expansion.proofs.EmittedPrograms.{built_program, emitted_before, emitted_either, emitted_none, emitted_result, one_longer, results_generated, results_read}
use Rattle.clif_expansion.proofs.JoinedPrograms.{IsBareFrom, IsBefore, IsCalledSo, KeepsOwn, LastsIn, LastsLater, bare_items, called_later, called_redirected, cut_each, cut_inserted, cut_items, cut_mapped, deciders_later, elsewhere, one_item, own_unchanged, switch_unchanged, with_items_at}
use Rattle.clif_expansion.proofs.JoinedStates.{chosen, zip_joined}
use Rattle.clif_expansion.proofs.Joins
use Rattle.clif_expansion.proofs.Joins.{GoesOn, KeepsGenerated, block_later, edges_later, names_later, read_either, read_there}
use Rattle.clif_expansion.proofs.Names.{same_read, same_script}
use Rattle.clif_expansion.proofs.ReadEffects.{ReadProgramEffect, BothLeave, BothInsert, BothTake, BothSwitch, BothAssign, BothUse, BothBuild, BothRedirect, read_effects}
use Rattle.clif_expansion.proofs.Placing.{contained_first, contained_in, contained_later, contained_left, none_contained}

-- so a program, which a call of the builder changes, and a ledger have the same current block
abbrev pub current_behind : Request → Option Name → Option Name
current_behind (SwitchToBlock block) current = Some block
current_behind _ current = current

added_current : (p : Program) (c : Option Name) (item : Item) → (with_item_at p c item).current ≡ p.current
added_current p None item = refl
added_current p (Some block) item = refl

-- a call that doesn't switch leaves it
current_stays : (request : Request) → switch_of request ≡ None → (current : Option Name) → current_behind request current ≡ current
current_stays (SwitchToBlock block) stays current = let no_way : Some block ≡ None = stays in cc
current_stays _ stays current = refl

pub extended_current : (program : Program) (request : Request) → (extended program request).current ≡ current_behind request program.current
extended_current program request = by (program_effect request)
  where
    of_program : (other : Program) → switch_of request ≡ None → extended program request ≡ other → other.current ≡ program.current
        → (extended program request).current ≡ current_behind request program.current
    of_program other stays is same = ap (λ (p : Program). p.current) is ∙ same ∙ sym (current_stays request stays program.current)

    of_request : (other : Request) → request ≡ other → (extended program other).current ≡ current_behind other program.current
        → (extended program request).current ≡ current_behind request program.current
    of_request other is same = subst (λ (r : Request). (extended program r).current ≡ current_behind r program.current) (sym is) same

    by : ProgramEffect request → (extended program request).current ≡ current_behind request program.current
    by (Leaves stays is) = of_program _ stays (is program) refl
    by (Inserts stays is) = of_program _ stays (is program) refl
    by (Takes block types stays none is) = of_program _ stays (is program) refl
    by (Switches block is) = of_request _ is refl
    by (Assigns variable value is) = of_request _ is (added_current program program.current (Assign variable value))
    by (Uses variable is) = of_request _ is (added_current (with_inserted program) program.current (Use variable (answer_of program.place 0)))
    by (Builds entries instruction is) =
        of_request _ is (added_current (with_inserted program) program.current (Instruct program.place instruction (result_names program.place instruction)))
    by (Redirects branch from to stays is) = of_program _ stays (is program) refl

ended_current : (ledger : Ledger) (operation : Operation) → (with_terminator ledger operation).current ≡ ledger.current
ended_current ledger operation = by (is_terminator operation) ledger.current refl
  where
    by : (c : Bool) (current : Option Name) → current ≡ ledger.current → (if c then with_filled_at ledger current else ledger).current ≡ ledger.current
    by true None same = refl
    by true (Some block) same = refl
    by false current same = refl

led_current : (branch : Name) (ledger : Ledger) (edges : List (Edge Name Name)) → (fold (with_predecessor branch) ledger edges).current ≡ ledger.current
led_current branch ledger [] = refl
led_current branch ledger (edge ∷ edges) = led_current branch (with_predecessor branch ledger edge) edges

pub instruction_current : (ledger : Ledger) (instruction : Instruction Name Name) → (with_instruction ledger instruction).current ≡ ledger.current
instruction_current ledger instruction =
    led_current (answer_of (length ledger.answers) 0) (with_terminator (with_begun ledger) instruction.operation) instruction.edges
    ∙ ended_current (with_begun ledger) instruction.operation ∙ begun_current ledger ledger.current

pub asked_current : (ledger : Ledger) (request : Request) → (changed_by ledger request).current ≡ current_behind request ledger.current
asked_current ledger request = by (ledger_effect request)
  where
    of_ledger : (other : Ledger) → switch_of request ≡ None → changed_by ledger request ≡ other → other.current ≡ ledger.current
        → (changed_by ledger request).current ≡ current_behind request ledger.current
    of_ledger other stays is same = ap (λ (l : Ledger). l.current) is ∙ same ∙ sym (current_stays request stays ledger.current)

    of_request : (other : Request) → request ≡ other → (changed_by ledger other).current ≡ current_behind other ledger.current
        → (changed_by ledger request).current ≡ current_behind request ledger.current
    of_request other is same = subst (λ (r : Request). (changed_by ledger r).current ≡ current_behind r ledger.current) (sym is) same

    by : LedgerEffect request → (changed_by ledger request).current ≡ current_behind request ledger.current
    by (Keeps stays is) = of_ledger _ stays (is ledger) refl
    by (Lays layout tables jump_tables exception_tables stays is) = of_ledger _ stays (is ledger) refl
    by (Changes block change keeps stays is) = of_ledger _ stays (is ledger) refl
    by (Begins stays is) = of_ledger _ stays (is ledger) (begun_current ledger ledger.current)
    by (Creates is) = of_request _ is refl
    by (Enters block is) = of_request _ is refl
    by (ChangesEach change keeps stays is) = of_ledger _ stays (is ledger) refl
    by (Declares ty is) = of_request _ is refl
    by (Touches variable value is) = of_request _ is refl
    by (Reads variable is) = of_request _ is (begun_current ledger ledger.current)
    by (Marks need is) = of_request _ is refl
    by (Appends entries instruction is) = of_request _ is (instruction_current ledger instruction)

-- where both have a current block or neither has, it is read
pub both_read : (reading : Reading) (plain : Ledger) (current' current : Option Name) → IsReadCurrent reading plain current' current → is_some current' ≡ is_some current → IsReadBlock reading current' current
both_read reading plain None None is both = tt
both_read reading plain (Some x) (Some block) is both = is
both_read reading plain (Some x) None is both = let no_way : true ≡ false = both in cc
both_read reading plain None (Some block) is both = absurd is

pub contained_mapped : {X : Type 0} (f : X → X) (xs : List X) (x : X) → Contains xs x → f x ≡ x → Contains (map f xs) x
contained_mapped f [] x there same = absurd (none_contained x there)
contained_mapped f (y ∷ xs) x there same = by (contained_in y xs x there) (contained_mapped f xs x)
  where
    by : (y ≡ x) ⊎ Contains xs x → (Contains xs x → f x ≡ x → Contains (map f xs) x) → Contains (f y ∷ map f xs) x
    by (inl first) rest = subst (λ z. Contains (f y ∷ map f xs) z) (ap f first ∙ same) (contained_first (f y) (map f xs))
    by (inr further) rest = contained_later (f y) (map f xs) x (rest further same)

-- behind an instruction that ends no block the current one stays
program_line : (operation : Operation) (program : Program) → is_terminator operation ≡ false → program_behind operation program ≡ program
program_line (Switch keys) program goes_on = let no_way : true ≡ false = goes_on in cc
program_line _ program goes_on = refl

-- Of each emission's code this is known, and stays true in a later reading; of each switch's code that, and in a later program; and of
-- each item that was generated this.
module _ (Known : Reading → List Item → Item → Type 0) (lasts : LastsLater Known)
    (Decided : Reading → Program → List Item → Item → Type 0) (lasts_in : LastsIn Decided) (KnownItem : Item → Type 0) where
  -- The items of a generated block decide for a switch that was emitted.
  pub record OwnItems (reading : Reading) (made : ℕ) (plain program : Program) (x : Name) : Type 0 where
    pub block : Name
    pub item : Item
    pub there : Contains (program.items block) item
    pub other : ℕ
    pub keys : List ℕ
    pub switch : Instruction Name Name
    pub is_switch : switch.operation ≡ Switch keys
    pub nothing : AllByRecursion (λ edge. edge.arguments ≡ []) switch.edges
    pub emitted : item ≡ emitted_item other switch
    pub unread : IsUnread reading made (answer_of other 0)
    pub decides : AllByRecursion (IsDecidingItem reading item) (plain.items x)
    pub known : AllByRecursion KnownItem (plain.items x)

  abbrev pub IsOwnBlock : Reading → ℕ → (plain program : Program) → Name → Type 0
  IsOwnBlock reading made plain program x = (plain.parameters x ≡ []) × ((plain.items x ≡ []) ⊎ OwnItems reading made plain program x)

  -- Programs that go with joined ledgers: their places are those of the calls, and nothing is in blocks that aren't made.
  pub record GoesWith (reading : Reading) (ledger' ledger : Ledger) (plain program : Program) : Type 0 where
    pub place' : plain.place ≡ length ledger'.answers
    pub place : program.place ≡ length ledger.answers
    pub same' : plain.current ≡ ledger'.current
    pub same : program.current ≡ ledger.current
    pub cut : IsCutProgram reading (IsCalledSo Known Decided reading (length ledger.answers) plain) plain program
    pub own : (x : Name) → IsGenerated reading x → IsOwnBlock reading (length ledger.answers) plain program x
    pub bare' : IsBareFrom (length ledger'.answers) plain
    pub bare : IsBareFrom (length ledger.answers) program

  -- the code stays known where generated blocks stay as they are
  cut_on : (reading : Reading) (made : ℕ) (plain after plain_cut program : Program) → KeepsOwn reading plain after
      → IsCutProgram reading (IsCalledSo Known Decided reading made plain) plain_cut program → IsCutProgram reading (IsCalledSo Known Decided reading made after) plain_cut program
  cut_on reading made plain after plain_cut program own cut = record {
    entry = cut.entry;
    parameters = cut.parameters;
    items = λ x block is.
        cut_each (IsCalledSo Known Decided reading made plain) (IsCalledSo Known Decided reading made after)
        (called_later reading reading (λ y name read. read) Known Decided lasts lasts_in (λ y generated. generated) made made (λ name unread. unread) plain after own)
        (plain_cut.items x) (program.items block) (cut.items x block is);
  }

  -- A later reading, in which a name is read that was read before, or one in whose block nothing is.
  module _ (reading later : Reading) (made further : ℕ) (on : GoesOn reading later made further) (plain program : Program)
      (cut : IsCutProgram reading (IsCalledSo Known Decided reading made plain) plain program) where
    abbrev IsOldOrBare : Name → Name → Type 0
    IsOldOrBare x block = ((plain.items x ≡ []) × (plain.parameters x ≡ []) × (program.items block ≡ []) × (program.parameters block ≡ [])) ⊎ IsReadAs reading x block

    abbrev Later : List Item → Item → Type 0
    Later = IsCalledSo Known Decided later further plain

    cut_later : ((x block : Name) → IsReadAs later x block → IsOldOrBare x block) → IsCutProgram later Later plain program
    cut_later either = record {
      entry = block_later reading later on.keeps plain.entry program.entry cut.entry;
      parameters = λ x block is. parameters x block (either x block is);
      items = λ x block is. items x block (either x block is);
    }
      where
        parameters : (x block : Name) → IsOldOrBare x block → AllZip (IsReadAs later) (plain.parameters x) (program.parameters block)
        parameters x block (inl bare) =
            subst (λ (names : List Name). AllZip (IsReadAs later) names (program.parameters block)) (sym bare.1)
            (subst (λ (names : List Name). AllZip (IsReadAs later) [] names) (sym bare.3) tt)
        parameters x block (inr before) = names_later reading later on.keeps (plain.parameters x) (program.parameters block) (cut.parameters x block before)

        items : (x block : Name) → IsOldOrBare x block → AreCut Later (plain.items x) (program.items block)
        items x block (inl bare) = subst (λ (list : List Item). AreCut Later (plain.items x) list) (sym bare.2) bare.0
        items x block (inr before) =
            cut_each (IsCalledSo Known Decided reading made plain) Later
            (called_later reading later on.keeps Known Decided lasts lasts_in on.generated made further on.unread plain plain (λ y generated. (refl, refl))) (plain.items x) (program.items block) (cut.items x block before)

    -- and in a program in which generated blocks stay as they are
    pub cut_in : (after : Program) → KeepsOwn reading plain after → ((x block : Name) → IsReadAs later x block → IsReadAs reading x block)
        → IsCutProgram later (IsCalledSo Known Decided later further after) plain program
    cut_in after own before = record {
      entry = block_later reading later on.keeps plain.entry program.entry cut.entry;
      parameters = λ x block is. names_later reading later on.keeps (plain.parameters x) (program.parameters block) (cut.parameters x block (before x block is));
      items = λ x block is.
          cut_each (IsCalledSo Known Decided reading made plain) (IsCalledSo Known Decided later further after)
          (called_later reading later on.keeps Known Decided lasts lasts_in on.generated made further on.unread plain after own) (plain.items x) (program.items block) (cut.items x block (before x block is));
    }

    -- generated blocks stay so where they stay as they are, and the script's switches stay
    pub own_later : (after script : Program) (x : Name) → (after.items x ≡ plain.items x) × (after.parameters x ≡ plain.parameters x)
        → ((block : Name) (item : Item) (other : ℕ) (switch : Instruction Name Name) → item ≡ emitted_item other switch → IsUnread reading made (answer_of other 0)
        → Contains (program.items block) item → Contains (script.items block) item)
        → IsOwnBlock reading made plain program x → IsOwnBlock later further after script x
    own_later after script x same kept (parameters, side) = (same.1 ∙ parameters, by side)
      where
        by : (plain.items x ≡ []) ⊎ OwnItems reading made plain program x → (after.items x ≡ []) ⊎ OwnItems later further after script x
        by (inl none) = inl (same.0 ∙ none)
        by (inr own) = inr (record {
          block = own.block;
          item = own.item;
          there = kept own.block own.item own.other own.switch own.emitted own.unread own.there;
          other = own.other;
          keys = own.keys;
          switch = own.switch;
          is_switch = own.is_switch;
          nothing = own.nothing;
          emitted = own.emitted;
          unread = on.unread (answer_of own.other 0) own.unread;
          decides = subst (AllByRecursion (IsDecidingItem later own.item)) (sym same.0) (deciders_later reading later on.keeps on.generated own.item (plain.items x) own.decides);
          known = subst (AllByRecursion KnownItem) (sym same.0) own.known;
        })

  module _ (reading : Reading) (ledger' ledger : Ledger) (joined : IsJoined reading ledger' ledger) (plain program : Program) (goes : GoesWith reading ledger' ledger plain program) where
    abbrev later : Reading
    later = reading_after reading ledger' ledger

    abbrev made : ℕ
    made = length ledger.answers

    on : GoesOn reading later made (suc made)
    on = Joins.goes_on reading ledger' ledger joined

    keeps : (x name : Name) → IsReadAs reading x name → IsReadAs later x name
    keeps = Joins.keeps reading ledger' ledger joined

    one_to_one : IsOneToOne later
    one_to_one = Joins.one_to_one reading ledger' ledger joined

    -- the current block, where there is one on both sides or on neither
    read_before_call : HaveCurrent ledger' ledger → IsReadBlock reading plain.current program.current
    read_before_call both =
        subst (λ (c : Option Name). IsReadBlock reading c program.current) (sym goes.same')
        (subst (λ (c : Option Name). IsReadBlock reading ledger'.current c) (sym goes.same) (both_read reading ledger' ledger'.current ledger.current joined.ledgers.states.current both))

    current : HaveCurrent ledger' ledger → IsReadBlock later plain.current program.current
    current both = block_later reading later keeps plain.current program.current (read_before_call both)

    -- a name that is read was read before, or is made now, and then nothing is in its block
    abbrev Either : Name → Name → Type 0
    Either x block = IsOldOrBare reading later made (suc made) on plain program goes.cut x block

    either : (x block : Name) → IsReadAs later x block → Either x block
    either x block is = by (read_either reading (length ledger'.answers) (answers_at (length ledger.answers)) x (ScriptName block) is)
      where
        by : ((x.place ≡ length ledger'.answers) × (ScriptName (answer_of (length ledger.answers) x.index) ≡ ScriptName block)) ⊎ IsReadAs reading x block → Either x block
        by (inl new) =
            let place' : x.place ≡ length ledger'.answers = new.0 in
            let place : length ledger.answers ≡ block.place = ap (λ (n : Name). n.place) (same_script (answer_of (length ledger.answers) x.index) block new.1) in
            let plain_bare = goes.bare' x (omega (arith, place')) in
            let script_bare = goes.bare block (omega (arith, place)) in
            inl (plain_bare.0, plain_bare.1, script_bare.0, script_bare.1)
        by (inr before) = inr before

    abbrev Stands : List Item → Item → Type 0
    Stands = IsCalledSo Known Decided later (suc made) plain

    cut : IsCutProgram later Stands plain program
    cut = cut_later reading later made (suc made) on plain program goes.cut either

    -- an answer to the call
    answer_read : (index : ℕ) → IsReadAs later (answer_of plain.place index) (answer_of program.place index)
    answer_read index =
        let there = read_there reading (length ledger'.answers) index (answers_at (length ledger.answers)) in
        ap (λ (n : ℕ). later (answer_of n index)) goes.place' ∙ there ∙ ap (λ (n : ℕ). ScriptName (answer_of n index)) (sym goes.place)

    answers_read : (index : ℕ) (types : List «Type») → AllZip (IsReadAs later) (answers_from plain.place index types) (answers_from program.place index types)
    answers_read index [] = tt
    answers_read index (ty ∷ types) = (answer_read index, answers_read (suc index) types)

    abbrev Both : Program → Program → Type 0
    Both a b = IsCutProgram later Stands a b

    inserted : HaveCurrent ledger' ledger → Both (with_inserted plain) (with_inserted program)
    inserted both = cut_inserted Stands later one_to_one plain program cut (current both)

    added : (a b : Program) (current' current : Option Name) (item' item : Item) → IsReadBlock later current' current → Both a b → Stands (item' ∷ []) item → Both (with_item_at a current' item') (with_item_at b current item)
    added a b current' current item' item read both called =
        subst (λ (p : Program). IsCutProgram later Stands p (with_item_at b current item)) (sym (one_item a current' item'))
        (subst (λ (p : Program). IsCutProgram later Stands (with_items_at a current' (item' ∷ [])) p) (sym (one_item b current item))
        (cut_items Stands later one_to_one a b current' current (item' ∷ []) item both read called))

    taking : (x block : Name) (types' types : List «Type») → IsReadAs reading x block → types' ≡ types
        → Both (with_parameters plain x (answers_from plain.place 0 types')) (with_parameters program block (answers_from program.place 0 types))
    taking x block types' types is are = record {
      entry = cut.entry;
      parameters = λ y other read.
          chosen (AllZip (IsReadAs later)) (same_name y x) (same_name other block) (plain.parameters y ++ answers_from plain.place 0 types') (plain.parameters y)
          (program.parameters other ++ answers_from program.place 0 types) (program.parameters other)
          (same_read later one_to_one y x other block read (keeps x block is))
          (zip_joined (IsReadAs later) (plain.parameters y) (answers_from plain.place 0 types') (program.parameters other) (answers_from program.place 0 types) (cut.parameters y other read)
          (subst (λ (ts : List «Type»). AllZip (IsReadAs later) (answers_from plain.place 0 ts) (answers_from program.place 0 types)) (sym are) (answers_read 0 types)))
          (cut.parameters y other read);
      items = cut.items;
    }

    instruction_called : (instruction' instruction : Instruction Name Name) → IsReadInstruction reading instruction' instruction
        → Stands (Instruct plain.place instruction' (result_names plain.place instruction') ∷ []) (Instruct program.place instruction (result_names program.place instruction))
    instruction_called instruction' instruction is =
        inl (
          (
            record {
              operation = is.operation;
              controlling = is.controlling;
              operands = names_later reading later keeps instruction'.operands instruction.operands is.operands;
              contexts = names_later reading later keeps instruction'.contexts instruction.contexts is.contexts;
              edges = edges_later reading later keeps instruction'.edges instruction.edges is.edges;
            },
            subst (λ (ts : List «Type»). AllZip (IsReadAs later) (answers_from plain.place 1 ts) (result_names program.place instruction)) (sym (ap₂ result_types is.operation is.controlling))
                (answers_read 1 (result_types instruction.operation instruction.controlling)),
          ),
          answer_read 0,
        )

    of_programs : (a b a' b' : Program) → a' ≡ a → b' ≡ b → Both a b → Both a' b'
    of_programs a b a' b' same' same both = subst (λ (p : Program). Both p b') (sym same') (subst (λ (p : Program). Both a p) (sym same) both)

    asked : (ask request : Request) → ReadProgramEffect reading ask request → (uses_current request ≡ true → HaveCurrent ledger' ledger) → Both (extended plain ask) (extended program request)
    asked ask request (BothLeave a r is' is) placed = of_programs _ _ _ _ (is' plain) (is program) cut
    asked ask request (BothInsert a r uses is' is) placed = of_programs _ _ _ _ (is' plain) (is program) (inserted (placed uses))
    asked ask request (BothTake a r x block types' types read same is' is) placed = of_programs _ _ _ _ (is' plain) (is program) (taking x block types' types read same)
    asked ask request (BothSwitch x block is) placed = record { entry = cut.entry; parameters = cut.parameters; items = cut.items }
    asked ask request (BothAssign number variable x value same is) placed =
        added plain program plain.current program.current (Assign number x) (Assign variable value) (current (placed refl)) cut (inl ((same, keeps x value is), tt))
    asked ask request (BothUse number variable same) placed =
        added (with_inserted plain) (with_inserted program) plain.current program.current (Use number (answer_of plain.place 0)) (Use variable (answer_of program.place 0))
        (current (placed refl)) (inserted (placed refl)) (inl ((same, answer_read 0), tt))
    asked ask request (BothBuild entries' entries instruction' instruction is) placed =
        added (with_inserted plain) (with_inserted program) plain.current program.current (Instruct plain.place instruction' (result_names plain.place instruction'))
        (Instruct program.place instruction (result_names program.place instruction)) (current (placed refl)) (inserted (placed refl)) (instruction_called instruction' instruction is)
    asked ask request (BothRedirect jump branch at from there to is leaves enters) placed = record {
      entry = cut.entry;
      parameters = cut.parameters;
      items = λ x block read.
          cut_mapped Stands _ _ (called_redirected later one_to_one jump branch at from there to (keeps jump branch is) (keeps at from leaves) (keeps there to enters) Known Decided (suc made) plain)
          (plain.items x) (program.items block) (cut.items x block read);
    }

    -- GENERATED BLOCKS ----------------------------------------------------------------------------------------------------

    abbrev SameAt : Program → Name → Type 0
    SameAt after x = (after.items x ≡ plain.items x) × (after.parameters x ≡ plain.parameters x)

    own_added : (p : Program) (current' current : Option Name) (item : Item) → IsReadBlock reading current' current → (x : Name) → IsGenerated reading x → SameAt p x → SameAt (with_item_at p current' item) x
    own_added p None None item read x own same = same
    own_added p (Some y) (Some block) item read x own same =
        (ap (λ (c : Bool). if c then p.items x ++ item ∷ [] else p.items x) (other_generated reading y x block read own) ∙ same.0, same.1)
    own_added p None (Some block) item read x own same = absurd read
    own_added p (Some y) None item read x own same = absurd read

    own_taking : (y block : Name) (names : List Name) → IsReadAs reading y block → (x : Name) → IsGenerated reading x → SameAt (with_parameters plain y names) x
    own_taking y block names read x own =
        (refl, ap (λ (c : Bool). if c then plain.parameters x ++ names else plain.parameters x) (other_generated reading y x block read own))

    own_redirected : (jump branch at there : Name) → IsReadAs reading jump branch → (x : Name) → (plain.items x ≡ []) ⊎ OwnItems reading made plain program x
        → map (redirected_item jump at there) (plain.items x) ≡ plain.items x
    own_redirected jump branch at there is x (inl none) = ap (map (redirected_item jump at there)) none ∙ sym none
    own_redirected jump branch at there is x (inr items) = own_unchanged reading jump branch at there is items.item (plain.items x) items.decides

    own_of : (after other : Program) → after ≡ other → (x : Name) → SameAt other x → SameAt after x
    own_of after other is x same = subst (λ (p : Program). SameAt p x) (sym is) same

    own_asked : (ask request : Request) → ReadProgramEffect reading ask request → (uses_current request ≡ true → HaveCurrent ledger' ledger) → (x : Name) → IsGenerated reading x → SameAt (extended plain ask) x
    own_asked ask request (BothLeave a r is' is) placed x own = own_of _ _ (is' plain) x (refl, refl)
    own_asked ask request (BothInsert a r uses is' is) placed x own = own_of _ _ (is' plain) x (refl, refl)
    own_asked ask request (BothTake a r y block types' types read same is' is) placed x own = own_of _ _ (is' plain) x (own_taking y block (answers_from plain.place 0 types') read x own)
    own_asked ask request (BothSwitch y block is) placed x own = (refl, refl)
    own_asked ask request (BothAssign number variable y value same is) placed x own =
        own_added plain plain.current program.current (Assign number y) (read_before_call (placed refl)) x own (refl, refl)
    own_asked ask request (BothUse number variable same) placed x own =
        own_added (with_inserted plain) plain.current program.current (Use number (answer_of plain.place 0)) (read_before_call (placed refl)) x own (refl, refl)
    own_asked ask request (BothBuild entries' entries instruction' instruction is) placed x own =
        own_added (with_inserted plain) plain.current program.current (Instruct plain.place instruction' (result_names plain.place instruction')) (read_before_call (placed refl)) x own (refl, refl)
    own_asked ask request (BothRedirect jump branch at from there to is leaves enters) placed x own = (own_redirected jump branch at there is x (goes.own x own).1, refl)

    -- a switch that was emitted stays in its block
    stays_added : (p : Program) (current : Option Name) (item other : Item) (block : Name) → Contains (p.items block) item → Contains ((with_item_at p current other).items block) item
    stays_added p None item other block there = there
    stays_added p (Some c) item other block there = by (same_name block c)
      where
        by : (c' : Bool) → Contains (if c' then p.items block ++ other ∷ [] else p.items block) item
        by true = contained_left (p.items block) (other ∷ []) item there
        by false = there

    stays_asked : (ask request : Request) → ReadProgramEffect reading ask request → (block : Name) (item : Item) (other : ℕ) (switch : Instruction Name Name) → item ≡ emitted_item other switch
        → IsUnread reading made (answer_of other 0) → Contains (program.items block) item → Contains ((extended program request).items block) item
    stays_asked ask request (BothLeave a r is' is) block item other switch emitted unread there = subst (λ (p : Program). Contains (p.items block) item) (sym (is program)) there
    stays_asked ask request (BothInsert a r uses is' is) block item other switch emitted unread there = subst (λ (p : Program). Contains (p.items block) item) (sym (is program)) there
    stays_asked ask request (BothTake a r x b types' types read same is' is) block item other switch emitted unread there =
        subst (λ (p : Program). Contains (p.items block) item) (sym (is program)) there
    stays_asked ask request (BothSwitch x b is) block item other switch emitted unread there = there
    stays_asked ask request (BothAssign number variable x value same is) block item other switch emitted unread there =
        stays_added program program.current item (Assign variable value) block there
    stays_asked ask request (BothUse number variable same) block item other switch emitted unread there =
        stays_added (with_inserted program) program.current item (Use variable (answer_of program.place 0)) block there
    stays_asked ask request (BothBuild entries' entries instruction' instruction is) block item other switch emitted unread there =
        stays_added (with_inserted program) program.current item (Instruct program.place instruction (result_names program.place instruction)) block there
    stays_asked ask request (BothRedirect jump branch at from where_to to is leaves enters) block item other switch emitted unread there =
        contained_mapped (redirected_item branch from to) (program.items block) item there
        (ap (redirected_item branch from to) emitted ∙ switch_unchanged reading jump branch from to is other switch unread.unread ∙ sym emitted)

  -- BARE --------------------------------------------------------------------------------------------------------------------

  bare_item : (place : ℕ) (program : Program) (current : Option Name) (item : Item) → IsBefore place current → IsBareFrom place program → IsBareFrom place (with_item_at program current item)
  bare_item place program current item before bare =
      subst (λ (p : Program). IsBareFrom place p) (sym (one_item program current item)) (bare_items place program current (item ∷ []) before bare)

  bare_taking : (place : ℕ) (program : Program) (block : Name) (names : List Name) → block.place < place → IsBareFrom place program → IsBareFrom place (with_parameters program block names)
  bare_taking place program block names before bare = λ x behind. (
    (bare x behind).0,
    ap (λ (c : Bool). if c then program.parameters x ++ names else program.parameters x) (elsewhere x block place before behind) ∙ (bare x behind).1,
  )

  bare_redirected : (place : ℕ) (program : Program) (branch from to : Name) → IsBareFrom place program → IsBareFrom place (with_redirected program branch from to)
  bare_redirected place program branch from to bare = λ x behind. (ap (map (redirected_item branch from to)) (bare x behind).0, (bare x behind).1)

  bare_of : (place : ℕ) (after other : Program) → after ≡ other → IsBareFrom place other → IsBareFrom place after
  bare_of place after other is bare = subst (IsBareFrom place) (sym is) bare

  -- both programs stay bare from the places on from which they were: the blocks that get something come before
  module _ (reading : Reading) (ledger' ledger : Ledger) (joined : IsJoined reading ledger' ledger) (plain program : Program)
      (before' : IsBefore (length ledger'.answers) plain.current) (before : IsBefore (length ledger.answers) program.current)
      (bare' : IsBareFrom (length ledger'.answers) plain) (bare : IsBareFrom (length ledger.answers) program) where
    abbrev here' : ℕ
    here' = length ledger'.answers

    abbrev here : ℕ
    here = length ledger.answers

    bare_asked : (ask request : Request) → ReadProgramEffect reading ask request → IsBareFrom here' (extended plain ask) × IsBareFrom here (extended program request)
    bare_asked ask request (BothLeave a r is' is) = (bare_of here' _ _ (is' plain) bare', bare_of here _ _ (is program) bare)
    bare_asked ask request (BothInsert a r uses is' is) = (bare_of here' _ (with_inserted plain) (is' plain) bare', bare_of here _ (with_inserted program) (is program) bare)
    bare_asked ask request (BothTake a r x block types' types read same is' is) = (
      bare_of here' _ _ (is' plain) (bare_taking here' plain x (answers_from plain.place 0 types') (joined.made x block read).0 bare'),
      bare_of here _ _ (is program) (bare_taking here program block (answers_from program.place 0 types) (joined.made x block read).1 bare),
    )
    bare_asked ask request (BothSwitch x block is) = (bare', bare)
    bare_asked ask request (BothAssign number variable x value same is) =
        (bare_item here' plain plain.current (Assign number x) before' bare', bare_item here program program.current (Assign variable value) before bare)
    bare_asked ask request (BothUse number variable same) = (
      bare_item here' (with_inserted plain) plain.current (Use number (answer_of plain.place 0)) before' bare',
      bare_item here (with_inserted program) program.current (Use variable (answer_of program.place 0)) before bare,
    )
    bare_asked ask request (BothBuild entries' entries instruction' instruction is) = (
      bare_item here' (with_inserted plain) plain.current (Instruct plain.place instruction' (result_names plain.place instruction')) before' bare',
      bare_item here (with_inserted program) program.current (Instruct program.place instruction (result_names program.place instruction)) before bare,
    )
    bare_asked ask request (BothRedirect jump branch at from there to is leaves enters) =
        (bare_redirected here' plain jump at there bare', bare_redirected here program branch from to bare)

  module _ (reading : Reading) (ledger' ledger : Ledger) (joined : IsJoined reading ledger' ledger) where
    pub before' : (current' current : Option Name) → IsReadCurrent reading ledger' current' current → IsBefore (length ledger'.answers) current'
    before' None None is = tt
    before' (Some x) (Some block) is = (joined.made x block is).0
    before' None (Some block) is = absurd is
    before' (Some x) None is = by (reading x) refl
      where
        by : (stands : StandsFor) → reading x ≡ stands → x.place < length ledger'.answers
        by NotMade was = absurd (is.0 was)
        by Generated was = joined.generated x was
        by (ScriptName name) was = (joined.made x name was).0

    pub before : (current' current : Option Name) → IsReadCurrent reading ledger' current' current → IsBefore (length ledger.answers) current
    before None None is = tt
    before (Some x) (Some block) is = (joined.made x block is).1
    before None (Some block) is = absurd is
    before (Some x) None is = tt

  pub bare_later : (place further : ℕ) (program : Program) → place ≤ further → IsBareFrom place program → IsBareFrom further program
  bare_later place further program below bare x behind = bare x (omega (arith, below, behind))

  module _ (reading : Reading) (ledger' ledger : Ledger) (joined : IsJoined reading ledger' ledger) (plain program : Program) (goes : GoesWith reading ledger' ledger plain program) where
    pub plain_before : IsBefore (length ledger'.answers) plain.current
    plain_before = subst (IsBefore (length ledger'.answers)) (sym goes.same') (before' reading ledger' ledger joined ledger'.current ledger.current joined.ledgers.states.current)

    pub script_before : IsBefore (length ledger.answers) program.current
    script_before = subst (IsBefore (length ledger.answers)) (sym goes.same) (before reading ledger' ledger joined ledger'.current ledger.current joined.ledgers.states.current)

  -- a call of the builder on both sides
  pub asked_goes : (reading : Reading) (ledger' ledger : Ledger) (joined : IsJoined reading ledger' ledger) (plain program : Program) → GoesWith reading ledger' ledger plain program
      → (ask request : Request) → IsReadRequest reading ask request → (uses_current request ≡ true → HaveCurrent ledger' ledger)
      → GoesWith (reading_after reading ledger' ledger) (ledger_with ledger' ask) (ledger_with ledger request) (with_call plain ask) (with_call program request)
  asked_goes reading ledger' ledger joined plain program goes ask request is placed =
      let made : ℕ = length ledger.answers in
      let later : Reading = reading_after reading ledger' ledger in
      let longer' : length (ledger_with ledger' ask).answers ≡ suc (length ledger'.answers) = one_longer ledger'.answers (answers_to ledger' ask) in
      let longer : length (ledger_with ledger request).answers ≡ suc (length ledger.answers) = one_longer ledger.answers (answers_to ledger request) in
      let effect : ReadProgramEffect reading ask request = (read_effects reading ask request is).program in
      let bare =
      bare_asked reading ledger' ledger joined plain program (plain_before reading ledger' ledger joined plain program goes) (script_before reading ledger' ledger joined plain program goes)
      goes.bare' goes.bare ask request effect in
      let both = asked reading ledger' ledger joined plain program goes ask request effect placed in
      let kept : KeepsOwn later plain (extended plain ask) =
      λ x own. own_asked reading ledger' ledger joined plain program goes ask request effect placed x (Joins.generated_before reading ledger' ledger joined x own) in
      let cut = cut_on later (suc made) plain (extended plain ask) (extended plain ask) (extended program request) kept both in
      let cut_end = cut_on later (suc made) (extended plain ask) (with_call plain ask) (extended plain ask) (extended program request) (λ x own. (refl, refl)) cut in
      record {
        place' = ap suc goes.place' ∙ sym longer';
        place = ap suc goes.place ∙ sym longer;
        same' = extended_current plain ask ∙ ap (current_behind ask) goes.same' ∙ sym (asked_current ledger' ask);
        same = extended_current program request ∙ ap (current_behind request) goes.same ∙ sym (asked_current ledger request);
        cut = subst (λ (n : ℕ). IsCutProgram later (IsCalledSo Known Decided later n (with_call plain ask)) (with_call plain ask) (with_call program request)) (sym longer)
            (record { entry = cut_end.entry; parameters = cut_end.parameters; items = cut_end.items });
        own = λ x own.
            let before_own = Joins.generated_before reading ledger' ledger joined x own in
            let same_at = own_asked reading ledger' ledger joined plain program goes ask request effect placed x before_own in
            subst (λ (n : ℕ). IsOwnBlock later n (with_call plain ask) (with_call program request) x) (sym longer)
            (own_later reading later made (suc made) (Joins.goes_on reading ledger' ledger joined) plain program goes.cut (with_call plain ask) (with_call program request) x same_at
            (λ block item other switch emitted unread there. stays_asked reading ledger' ledger joined plain program goes ask request effect block item other switch emitted unread there)
            (goes.own x before_own));
        bare' = bare_later (length ledger'.answers) (length (ledger_with ledger' ask).answers) (with_call plain ask) (omega (arith, longer')) bare.0;
        bare = bare_later (length ledger.answers) (length (ledger_with ledger request).answers) (with_call program request) (omega (arith, longer)) bare.1;
      }

  -- an emission and its code
  module _ (reading : Reading) (ledger' ledger : Ledger) (joined : IsJoined reading ledger' ledger) (plain program : Program) (goes : GoesWith reading ledger' ledger plain program)
      (how : LastResults) (code : List (Instruction Name Name)) (last whole : Instruction Name Name) (line : AllByRecursion StaysInLine code) (stays : StaysInLine last) (whole_stays : StaysInLine whole)
      (types : AreAnswered how last whole) (both : HaveCurrent ledger' ledger)
      (known : Known (reading_behind how reading ledger' ledger code) (built_items plain.place (code ++ last ∷ [])) (emitted_item program.place whole)) where
    abbrev emitted : Reading
    emitted = reading_behind how reading ledger' ledger code

    emission_keeps : (x name : Name) → IsReadAs reading x name → IsReadAs emitted x name
    emission_keeps x name is = emitted_before how reading ledger' ledger code x (joined.made x name is).0 ∙ is

    emission_generates : KeepsGenerated reading emitted
    emission_generates x is = emitted_before how reading ledger' ledger code x (joined.generated x is) ∙ is

    abbrev made_before : ℕ
    made_before = length ledger.answers

    emission_on : GoesOn reading emitted made_before (suc made_before)
    emission_on = record {
      keeps = emission_keeps;
      generated = emission_generates;
      unread = λ name unread. record {
        unread = λ x read. by name unread x (emitted_either how reading ledger' ledger code x name read);
        before = let below = unread.before in omega (arith, below);
      };
    }
      where
        by : (name : Name) → IsUnread reading made_before name → (x : Name) → ((length ledger'.answers ≤ x.place) × (name.place ≡ length ledger.answers)) ⊎ IsReadAs reading x name → ⊥
        by name unread x (inl new) = let place = new.1 in let below = unread.before in absurd (omega (arith, place, below))
        by name unread x (inr old) = unread.unread x old

    abbrev EitherThen : Name → Name → Type 0
    EitherThen x block = IsOldOrBare reading emitted made_before (suc made_before) emission_on plain program goes.cut x block

    either_then : (x block : Name) → IsReadAs emitted x block → EitherThen x block
    either_then x block is = by (emitted_either how reading ledger' ledger code x block is)
      where
        by : ((length ledger'.answers ≤ x.place) × (block.place ≡ length ledger.answers)) ⊎ IsReadAs reading x block → EitherThen x block
        by (inl new) =
            let place = new.1 in
            let plain_bare = goes.bare' x new.0 in
            let script_bare = goes.bare block (omega (arith, place)) in
            inl (plain_bare.0, plain_bare.1, script_bare.0, script_bare.1)
        by (inr old) = inr old

    abbrev StandsThen : List Item → Item → Type 0
    StandsThen = IsCalledSo Known Decided emitted (suc made_before) plain

    cut_then : IsCutProgram emitted StandsThen plain program
    cut_then = cut_later reading emitted made_before (suc made_before) emission_on plain program goes.cut either_then

    line_on : (instructions : List (Instruction Name Name)) → AllByRecursion StaysInLine instructions → AllByRecursion StaysInLine (instructions ++ last ∷ [])
    line_on [] all = (stays, tt)
    line_on (first ∷ instructions) all = (all.0, line_on instructions all.1)

    -- the results are those of the emitted instruction, or were generated
    results_answered : (so : LastResults) → how ≡ so → AreAnswered so last whole
        → AreLastRead so emitted (result_names (plain.place + length code) last) (answers_from program.place 0 (emitted_types whole))
    results_answered AreGenerated is none = (
      results_generated emitted (plain.place + length code) (emitted_types last) 1
          (λ k. ap (λ (so : LastResults). reading_behind so reading ledger' ledger code (answer_of (plain.place + length code) k)) is
          ∙ emitted_none reading ledger' ledger code (plain.place + length code) k (ap (λ (n : ℕ). n + length code) goes.place')),
      ap (answers_from program.place 0) none,
    )
    results_answered AreGiven is same =
        subst (λ (ts : List «Type»). AllZip (IsReadAs emitted) (answers_from (plain.place + length code) 1 ts) (answers_from program.place 0 (emitted_types whole))) (sym same)
        (results_read emitted (plain.place + length code) program.place (emitted_types whole) 0
        (λ k. ap (λ (so : LastResults). reading_behind so reading ledger' ledger code (answer_of (plain.place + length code) (suc k))) is
        ∙ emitted_result reading ledger' ledger code (plain.place + length code) k (ap (λ (n : ℕ). n + length code) goes.place') ∙ ap (λ (n : ℕ). ScriptName (answer_of n k)) (sym goes.place)))

    emission : IsEmission emitted (built_items plain.place (code ++ last ∷ [])) (emitted_item program.place whole)
    emission = record {
      place = plain.place;
      instructions = code;
      last = last;
      built = refl;
      line = line_on code line;
      other = program.place;
      whole = whole;
      emitted = refl;
      stays = whole_stays;
      how = how;
      results = results_answered how refl types;
    }

    whole_called : StandsThen (built_items plain.place (code ++ last ∷ [])) (emitted_item program.place whole)
    whole_called = inr (inl (emission, known))

    current_then : IsReadBlock emitted plain.current program.current
    current_then = block_later reading emitted emission_keeps plain.current program.current (read_before_call reading ledger' ledger joined plain program goes both)

    module _ (apart : IsOneToOne emitted) where
      abbrev script_program : Program
      script_program = record (with_items_at (with_inserted program) program.current (emitted_item program.place whole ∷ [])) { place = suc program.place }

      pub script_is : program_with_call program (Emit [] whole) ≡ script_program
      script_is =
          ap (λ (p : Program). record p { place = suc program.place })
          (program_line whole.operation (with_item_at (with_inserted program) program.current (emitted_item program.place whole)) whole_stays.goes_on
          ∙ one_item (with_inserted program) program.current (emitted_item program.place whole))

      cut_end : IsCutProgram emitted StandsThen (with_items_at (with_inserted plain) plain.current (built_items plain.place (code ++ last ∷ []))) (with_items_at (with_inserted program) program.current (emitted_item program.place whole ∷ []))
      cut_end =
          cut_items StandsThen emitted apart (with_inserted plain) (with_inserted program) plain.current program.current (built_items plain.place (code ++ last ∷ [])) (emitted_item program.place whole)
          (cut_inserted StandsThen emitted apart plain program cut_then current_then) current_then whole_called

      kept_current : (p : Program) (c : Option Name) (items : List Item) → (with_items_at p c items).current ≡ p.current
      kept_current p None items = refl
      kept_current p (Some block) items = refl

      -- generated blocks stay as they are
      own_at : (current' current : Option Name) (items : List Item) → IsReadBlock reading current' current → (x : Name) → IsGenerated reading x
          → ((with_items_at (with_inserted plain) current' items).items x ≡ plain.items x) × ((with_items_at (with_inserted plain) current' items).parameters x ≡ plain.parameters x)
      own_at None None items read x own = (refl, refl)
      own_at (Some y) (Some block) items read x own = (ap (λ (c : Bool). if c then plain.items x ++ items else plain.items x) (other_generated reading y x block read own), refl)
      own_at None (Some block) items read x own = absurd read
      own_at (Some y) None items read x own = absurd read

      stays_at : (current : Option Name) (items : List Item) (block : Name) (item : Item) → Contains (program.items block) item → Contains ((with_items_at (with_inserted program) current items).items block) item
      stays_at None items block item there = there
      stays_at (Some c) items block item there = by (same_name block c)
        where
          by : (d : Bool) → Contains (if d then program.items block ++ items else program.items block) item
          by true = contained_left (program.items block) items item there
          by false = there

      -- what is generated was so before, or is an answer to this code's calls, in whose blocks nothing is
      generated_either : (x : Name) → IsGenerated emitted x → IsGenerated reading x ⊎ (length ledger'.answers ≤ x.place)
      generated_either x own = by (cases_lt x.place (length ledger'.answers))
        where
          by : (x.place < length ledger'.answers) ⊎ (length ledger'.answers ≤ x.place) → IsGenerated reading x ⊎ (length ledger'.answers ≤ x.place)
          by (inl below) = inl (sym (emitted_before how reading ledger' ledger code x below) ∙ own)
          by (inr behind) = inr behind

      abbrev plain_end : Program
      plain_end = built_program plain code last

      bare_end : IsBareFrom (length ledger'.answers) plain_end
      bare_end =
          bare_items (length ledger'.answers) (with_inserted plain) plain.current (built_items plain.place (code ++ last ∷ []))
          (plain_before reading ledger' ledger joined plain program goes) goes.bare'

      own_end : (x : Name) → IsGenerated emitted x → IsOwnBlock emitted (suc made_before) plain_end script_program x
      own_end x own = by (generated_either x own)
        where
          by : IsGenerated reading x ⊎ (length ledger'.answers ≤ x.place) → IsOwnBlock emitted (suc made_before) plain_end script_program x
          by (inl old) =
              own_later reading emitted made_before (suc made_before) emission_on plain program goes.cut plain_end script_program x
              (own_at plain.current program.current (built_items plain.place (code ++ last ∷ [])) (read_before_call reading ledger' ledger joined plain program goes both) x old)
              (λ block item other switch is unread there. stays_at program.current (emitted_item program.place whole ∷ []) block item there) (goes.own x old)
          by (inr behind) = ((bare_end x behind).1, inl (bare_end x behind).0)

      kept_end : KeepsOwn emitted plain plain_end
      kept_end x own = by (generated_either x own)
        where
          by : IsGenerated reading x ⊎ (length ledger'.answers ≤ x.place) → (plain_end.items x ≡ plain.items x) × (plain_end.parameters x ≡ plain.parameters x)
          by (inl old) = own_at plain.current program.current (built_items plain.place (code ++ last ∷ [])) (read_before_call reading ledger' ledger joined plain program goes both) x old
          by (inr behind) = ((bare_end x behind).0 ∙ sym (goes.bare' x behind).0, (bare_end x behind).1 ∙ sym (goes.bare' x behind).1)

      pub emitted_goes : (end' end : Ledger) → length end'.answers ≡ length code + suc (length ledger'.answers) → length end.answers ≡ suc (length ledger.answers)
          → end'.current ≡ ledger'.current → end.current ≡ ledger.current
          → GoesWith emitted end' end (built_program plain code last) script_program
      emitted_goes end' end many' many at' at =
          let cut = cut_on emitted (suc made_before) plain plain_end plain_end script_program kept_end (record { entry = cut_end.entry; parameters = cut_end.parameters; items = cut_end.items }) in
          record {
            place' = ap (λ (n : ℕ). length code + suc n) goes.place' ∙ sym many';
            place = ap suc goes.place ∙ sym many;
            same' = kept_current (with_inserted plain) plain.current (built_items plain.place (code ++ last ∷ [])) ∙ goes.same' ∙ sym at';
            same = kept_current (with_inserted program) program.current (emitted_item program.place whole ∷ []) ∙ goes.same ∙ sym at;
            cut = subst (λ (n : ℕ). IsCutProgram emitted (IsCalledSo Known Decided emitted n plain_end) plain_end script_program) (sym many) cut;
            own = λ x own. subst (λ (n : ℕ). IsOwnBlock emitted n plain_end script_program x) (sym many) (own_end x own);
            bare' = bare_later (length ledger'.answers) (length end'.answers) (built_program plain code last) (omega (arith, many')) bare_end;
            bare = bare_later (length ledger.answers) (length end.answers) script_program (omega (arith, many))
                (bare_items (length ledger.answers) (with_inserted program) program.current (emitted_item program.place whole ∷ [])
                (script_before reading ledger' ledger joined plain program goes) goes.bare);
          }
