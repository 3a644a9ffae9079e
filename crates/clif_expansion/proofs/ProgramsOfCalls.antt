-- Joined calls have joined programs.
use Rattle.std.proofs.Common.{◌≡◌, ◌<◌, ◌≤◌, ◌+◌, ◌⊎◌, inl, inr, ℕ, zero, suc, List, [], ◌∷◌, ◌++◌, length, map, refl, sym, ◌∙◌, ap, subst, arith, Option, Some, None}
use Rattle.std.specs.Prelude.{fold, is_some}
use Rattle.std.proofs.lemmas.Bool.{cases_lt}
use Rattle.clif_tables.specs.Entries.{TableEntry}
use Rattle.clif_meaning.specs.Instruction.{Instruction, Operation}
use Rattle.clif_meaning.specs.Ledger.{AValue, Ledger, answers_to, empty_ledger, ledger_after, ledger_with, with_instruction}
use Rattle.clif_meaning.specs.Name.{Name, answer_of}
use Rattle.clif_meaning.specs.Program.{Program, Item, empty_program, program_of, with_call, with_inserted, with_item_at}
use Rattle.clif_meaning.specs.Request.{Build, MakeEntry, Script}
use Rattle.clif_expansion.specs.Emission.{AreGenerated, AreGiven, LastResults, building, importing, ledger_importing, line_calls, reading_across, reading_behind, reading_generated, reading_importing, reading_line, results_as}
use Rattle.clif_expansion.specs.JoinedCalls.{AreJoinedCalls, Asking, Emitting, Giving, HaveCurrent, Starting, Switching}
use Rattle.clif_expansion.specs.JoinedPrograms.{IsCalled, JoinedCallsHaveJoinedPrograms, built_items}
use Rattle.clif_expansion.specs.Joining.{answers_at, reading_after, reading_with}
use Rattle.clif_expansion.specs.Reading.{Generated, NotMade, Reading, StandsFor}
use Rattle.clif_expansion.specs.ScriptCall.{Ask, Emit, ScriptCall, emitted_item, emitted_types, ledger_behind, ledger_of, ledger_with_call, program_behind, program_of_calls, program_with_call, with_imports}
use Rattle.clif_expansion.proofs.Across.{across_apart, across_before, across_inside}
use Rattle.clif_expansion.proofs.CalledPrograms.{GoesWith, asked_current, asked_goes, current_behind, emitted_goes, extended_current, instruction_current, script_is}
use Rattle.clif_expansion.proofs.DecidingPrograms.{AllBuilt}
use Rattle.clif_expansion.proofs.Emissions.{behind_joined, behind_line}
use Rattle.clif_expansion.proofs.GivenCalls.{given_ledger, given_program}
use Rattle.clif_expansion.proofs.ImportedPrograms.{imports_go}
use Rattle.clif_expansion.proofs.Imports.{import_longer, imports_joined}
use Rattle.clif_expansion.proofs.EmittedPrograms.{built, built_program, none_on, one_longer}
use Rattle.clif_expansion.proofs.JoinedCalls.{calls_made, current_read, fold_on, joined_calls}
use Rattle.clif_expansion.proofs.JoinedPrograms.{IsBareFrom, IsCalledSo, LastsIn, LastsLater, cut_each}
use Rattle.clif_expansion.proofs.Joins.{read_before, read_there}
use Rattle.clif_expansion.proofs.SwitchedLedgers.{fold_longer}
use Rattle.clif_expansion.proofs.SwitchedPrograms.{switched_goes}

-- CURRENT BLOCKS ----------------------------------------------------------------------------------------------------------

currents_on : (more : Script) (program : Program) (ledger : Ledger) → program.current ≡ ledger.current → (fold with_call program more).current ≡ (fold ledger_with ledger more).current
currents_on [] program ledger same = same
currents_on (request ∷ more) program ledger same =
    currents_on more (with_call program request) (ledger_with ledger request)
    (extended_current program request ∙ ap (current_behind request) same ∙ sym (asked_current ledger request))

pub currents_same : (script : Script) → (program_of script).current ≡ (ledger_after script).current
currents_same script = currents_on script empty_program empty_ledger refl

built_current : (ledger : Ledger) (code : List (Instruction Name Name)) (last : Instruction Name Name) → (fold ledger_with ledger (map building code ++ building last ∷ [])).current ≡ ledger.current
built_current ledger [] last = instruction_current ledger last
built_current ledger (first ∷ code) last = built_current (ledger_with ledger (building first)) code last ∙ instruction_current ledger first

places_on : (more : Script) (program : Program) → (fold with_call program more).place ≡ program.place + length more
places_on [] program = omega arith
places_on (request ∷ more) program = let rest = places_on more (with_call program request) in omega (arith, rest)

pub script_place : (script : Script) → (program_of script).place ≡ length script
script_place script = let all = places_on script empty_program in omega (arith, all)

-- imports keep the current block
pub importing_current : (ledger : Ledger) (imports : List TableEntry) → (ledger_importing ledger imports).current ≡ ledger.current
importing_current ledger [] = refl
importing_current ledger (entry ∷ imports) = importing_current (ledger_with ledger (MakeEntry entry)) imports

-- how many calls there are behind a list of them
how_many : (ledger : Ledger) (code : List (Instruction Name Name)) (last : Instruction Name Name)
    → length (fold ledger_with ledger (map building code ++ building last ∷ [])).answers ≡ length code + suc (length ledger.answers)
how_many ledger [] last = one_longer ledger.answers (answers_to ledger (building last)) ∙ none_on (suc (length ledger.answers))
how_many ledger (first ∷ code) last =
    let more : length (ledger_with ledger (building first)).answers ≡ suc (length ledger.answers) = one_longer ledger.answers (answers_to ledger (building first)) in
    let rest = how_many (ledger_with ledger (building first)) code last in
    omega (arith, more, rest)

module _ (Known : Reading → List Item → Item → Type 0) (lasts : LastsLater Known)
    (Decided : Reading → Program → List Item → Item → Type 0) (lasts_in : LastsIn Decided) (KnownItem : Item → Type 0) where
  abbrev pub GoesSo : Reading → Script → List ScriptCall → Type 0
  GoesSo reading plain calls = GoesWith Known lasts Decided lasts_in KnownItem reading (ledger_after plain) (ledger_of calls) (program_of plain) (program_of_calls calls)

  abbrev Goes : Reading → Ledger → Ledger → Program → Program → Type 0
  Goes reading ledger' ledger plain program = GoesWith Known lasts Decided lasts_in KnownItem reading ledger' ledger plain program

  on_from : (reading : Reading) (plain more : Script) (calls further : List ScriptCall)
      → Goes reading (fold ledger_with (ledger_after plain) more) (fold ledger_with_call (ledger_of calls) further) (fold with_call (program_of plain) more) (fold program_with_call (program_of_calls calls) further)
      → GoesSo reading (plain ++ more) (calls ++ further)
  on_from reading plain more calls further goes =
      subst (λ (l : Ledger). Goes reading l (ledger_of (calls ++ further)) (program_of (plain ++ more)) (program_of_calls (calls ++ further))) (sym (fold_on ledger_with empty_ledger plain more))
      (subst (λ (l : Ledger). Goes reading (fold ledger_with (ledger_after plain) more) l (program_of (plain ++ more)) (program_of_calls (calls ++ further))) (sym (fold_on ledger_with_call empty_ledger calls further))
      (subst (λ (p : Program). Goes reading (fold ledger_with (ledger_after plain) more) (fold ledger_with_call (ledger_of calls) further) p (program_of_calls (calls ++ further))) (sym (fold_on with_call empty_program plain more))
      (subst (λ (p : Program). Goes reading (fold ledger_with (ledger_after plain) more) (fold ledger_with_call (ledger_of calls) further) (fold with_call (program_of plain) more) p) (sym (fold_on program_with_call empty_program calls further)) goes)))

  -- it is known of each emission
  abbrev pub EachKnown : (reading : Reading) (plain : Script) (calls : List ScriptCall) → AreJoinedCalls reading plain calls → Type 0
  EachKnown reading plain calls Starting = Unit {0}
  EachKnown reading plain calls (Asking old script earlier ask request are is placed) = EachKnown old script earlier are
  EachKnown reading plain calls (Emitting how old script earlier imports code last whole are placed line stays whole_stays types) =
      EachKnown old script earlier are
      × Known (reading_line how old (ledger_after script) (ledger_of earlier) imports code) (built_items (length (ledger_importing (ledger_after script) imports).answers) (code ++ last ∷ []))
      (emitted_item (length (ledger_of earlier).answers) whole)
  EachKnown reading plain calls (Switching old script more earlier block value ty keys edges switch branches tables are at placed is code) =
      EachKnown old script earlier are
      × Decided (reading_across old (length script) (length more)) (program_of (script ++ more)) code.code (emitted_item (length (ledger_of earlier).answers) switch)
      × AllBuilt KnownItem (length script) more
  EachKnown reading plain calls (Giving old script given earlier are is) = EachKnown old script earlier are

  pub go : (reading : Reading) (plain : Script) (calls : List ScriptCall) (are : AreJoinedCalls reading plain calls) → EachKnown reading plain calls are → GoesSo reading plain calls
  go reading plain calls Starting known = record {
    place' = refl;
    place = refl;
    same' = refl;
    same = refl;
    cut = record { entry = tt; parameters = λ x block is. cc; items = λ x block is. cc };
    own = λ x is. let apart : NotMade ≡ Generated = is in cc;
    bare' = λ x behind. (refl, refl);
    bare = λ x behind. (refl, refl);
  }
  go reading plain calls (Asking old script earlier ask request are is placed) known =
      on_from (reading_after old (ledger_after script) (ledger_of earlier)) script (ask ∷ []) earlier (Ask request ∷ [])
      (asked_goes Known lasts Decided lasts_in KnownItem old (ledger_after script) (ledger_of earlier) (joined_calls old script earlier are) (program_of script) (program_of_calls earlier)
      (go old script earlier are known) ask request is placed)
  go reading plain calls (Emitting how old script earlier imports code last whole are placed line stays whole_stays types) known =
      let importing' : Ledger = ledger_importing (ledger_after script) imports in
      let importing_script : Ledger = with_imports imports (ledger_of earlier) in
      let start : Reading = reading_importing old (ledger_after script) imports in
      let before = joined_calls old script earlier are in
      let joined = imports_joined old (ledger_after script) (ledger_of earlier) imports before in
      let program : Program = fold with_call (program_of script) (importing imports) in
      let goes = imports_go Known lasts Decided lasts_in KnownItem old (ledger_after script) (ledger_of earlier) before (program_of script) (program_of_calls earlier) imports (go old script earlier are known.0) in
      let emitted : Reading = reading_behind how start importing' importing_script code in
      let here : Known emitted (built_items program.place (code ++ last ∷ [])) (emitted_item (program_of_calls earlier).place whole) =
      subst (λ (n : ℕ). Known emitted (built_items n (code ++ last ∷ [])) (emitted_item (program_of_calls earlier).place whole)) (sym goes.place')
      (subst (λ (n : ℕ). Known emitted (built_items (length importing'.answers) (code ++ last ∷ [])) (emitted_item n whole)) (sym goes.place) known.1) in
      let after = behind_joined how start importing' importing_script code last whole joined line stays whole_stays types in
      let end' : Ledger = fold ledger_with importing' (map building code ++ building last ∷ []) in
      let end : Ledger = ledger_with_call (ledger_of earlier) (Emit imports whole) in
      let end_current : end.current ≡ (ledger_of earlier).current =
      ap (λ (l : Ledger). l.current) (behind_line whole.operation (with_instruction importing_script whole) whole_stays.goes_on) ∙ instruction_current importing_script whole in
      let both : HaveCurrent importing' importing_script = subst (λ (c : Option Name). is_some c ≡ is_some (ledger_of earlier).current) (sym (importing_current (ledger_after script) imports)) placed in
      on_from emitted script (line_calls imports code last) earlier (Emit imports whole ∷ [])
      (subst (λ (l : Ledger). Goes emitted l end (fold with_call (program_of script) (line_calls imports code last)) (program_with_call (program_of_calls earlier) (Emit imports whole)))
      (sym (fold_on ledger_with (ledger_after script) (importing imports) (map building code ++ building last ∷ [])))
      (subst (λ (p : Program). Goes emitted end' end p (program_with_call (program_of_calls earlier) (Emit imports whole)))
      (sym (fold_on with_call (program_of script) (importing imports) (map building code ++ building last ∷ []) ∙ built program code last))
      (subst (λ (p : Program). Goes emitted end' end (built_program program code last) p)
      (sym (script_is Known lasts Decided lasts_in KnownItem start importing' importing_script joined program (program_of_calls earlier) goes how code last whole line stays whole_stays types both here after.one_to_one))
      (emitted_goes Known lasts Decided lasts_in KnownItem start importing' importing_script joined program (program_of_calls earlier) goes how code last whole line stays whole_stays types both here after.one_to_one
      end' end (how_many importing' code last) (one_longer (ledger_of earlier).answers (map AValue (emitted_types whole))) (built_current importing' code last) end_current))))
  go reading plain calls (Switching old script more earlier block value ty keys edges switch branches tables are at placed is code) known =
      let joined = joined_calls old script earlier are in
      let goes = go old script earlier are known.0 in
      let ledger : Ledger = ledger_of earlier in
      let here = current_read old (ledger_after script) ledger (ledger_after script).current ledger.current block joined.ledgers.states.current at placed in
      let across : Reading = reading_across old (length script) (length more) in
      let item : Item = emitted_item (length ledger.answers) switch in
      let end : Ledger = ledger_with_call ledger (Emit [] switch) in
      let program : Program = program_of_calls earlier in
      let script_end : program_with_call program (Emit [] switch) ≡ record (with_item_at (with_inserted program) (Some here.0) item) { current = None; place = suc program.place } =
      ap (λ (operation : Operation). record (program_behind operation (with_item_at (with_inserted program) program.current (emitted_item program.place switch))) { place = suc program.place }) (sym is.operation)
      ∙ ap (λ (n : ℕ). record (with_item_at (with_inserted program) program.current (emitted_item n switch)) { current = None; place = suc program.place }) goes.place
      ∙ ap (λ (c : Option Name). record (with_item_at (with_inserted program) c item) { current = None; place = suc program.place }) (goes.same ∙ here.1) in
      subst (λ (l : Ledger). Goes across (ledger_after (script ++ more)) l (program_of (script ++ more)) (program_of_calls (earlier ++ Emit [] switch ∷ []))) (sym (fold_on ledger_with_call empty_ledger earlier (Emit [] switch ∷ [])))
      (subst (λ (p : Program). Goes across (ledger_after (script ++ more)) end (program_of (script ++ more)) p) (sym (fold_on program_with_call empty_program earlier (Emit [] switch ∷ [])))
      (switched_goes old script more ledger joined block here.0 value ty keys edges switch branches tables at here.1 here.2 is code (calls_made script) (fold_on ledger_with empty_ledger script more)
      KnownItem known.2 goes.same' goes.place' (fold_on with_call empty_program script more) Known lasts Decided lasts_in program goes known.1
      (across_apart old (length script) (length more) joined.one_to_one)
      end (one_longer ledger.answers (map AValue (emitted_types switch)))
      (ap (λ (operation : Operation). (ledger_behind operation (with_instruction ledger switch)).current) (sym is.operation))
      (program_with_call program (Emit [] switch)) script_end
      (ap (λ (p : Program). p.place) (fold_on with_call empty_program script more) ∙ places_on more (program_of script) ∙ ap (λ (n : ℕ). n + length more) (script_place script))
      (currents_same (script ++ more))))
  go reading plain calls (Giving old script given earlier are is) known =
      subst (λ (l : Ledger). Goes old l (ledger_of earlier) (program_of given) (program_of_calls earlier)) (given_ledger script given is)
      (subst (λ (p : Program). Goes old (ledger_after script) (ledger_of earlier) p (program_of_calls earlier)) (given_program script given is) (go old script earlier are known))

-- nothing is known
abbrev pub nothing : Reading → List Item → Item → Type 0
nothing reading code item = Unit {0}

abbrev pub undecided : Reading → Program → List Item → Item → Type 0
undecided reading program code item = Unit {0}

abbrev pub anything : Item → Type 0
anything item = Unit {0}

pub all_anything : (place : ℕ) (more : Script) → AllBuilt anything place more
all_anything place [] = tt
all_anything place (Build entries instruction ∷ more) = (tt, all_anything (suc place) more)
all_anything place (_ ∷ more) = all_anything (suc place) more

pub none_known : (reading : Reading) (plain : Script) (calls : List ScriptCall) (are : AreJoinedCalls reading plain calls)
    → EachKnown nothing (λ a b c d e f g. tt) undecided (λ a b c d e f g h i j. tt) anything reading plain calls are
none_known reading plain calls Starting = tt
none_known reading plain calls (Asking old script earlier ask request are is placed) = none_known old script earlier are
none_known reading plain calls (Emitting how old script earlier imports code last whole are placed line stays whole_stays types) = (none_known old script earlier are, tt)
none_known reading plain calls (Switching old script more earlier block value ty keys edges switch branches tables are at placed is code) =
    (none_known old script earlier are, tt, all_anything (length script) more)
none_known reading plain calls (Giving old script given earlier are is) = none_known old script earlier are

called : (reading : Reading) (made : ℕ) (program : Program) (code : List Item) (item : Item) → IsCalledSo nothing undecided reading made program code item → IsCalled reading code item
called reading made program code item (inl asked) = inl asked
called reading made program code item (inr (inl (is, known))) = inr (inl is)
called reading made program code item (inr (inr is)) = inr (inr is.switched)

pub joined_programs : JoinedCallsHaveJoinedPrograms
joined_programs reading plain calls are =
    let cut = (go nothing (λ a b c d e f g. tt) undecided (λ a b c d e f g h i j. tt) anything reading plain calls are (none_known reading plain calls are)).cut in
    record {
      entry = cut.entry;
      parameters = cut.parameters;
      items = λ x block is.
          cut_each (IsCalledSo nothing undecided reading (length (ledger_of calls).answers) (program_of plain)) (IsCalled reading) (called reading (length (ledger_of calls).answers) (program_of plain))
          ((program_of plain).items x) ((program_of_calls calls).items block) (cut.items x block is);
    }

-- WHAT WAS MADE -----------------------------------------------------------------------------------------------------------

with_unmade : (reading : Reading) (place : ℕ) (answers : ℕ → StandsFor) → ((k : ℕ) → answers k ≡ NotMade → ⊥) → ((x : Name) → reading x ≡ NotMade → place ≤ x.place)
    → (x : Name) → reading_with reading place answers x ≡ NotMade → suc place ≤ x.place
with_unmade reading place answers some before x is = by (cases_lt x.place place)
  where
    at_place : x.place ≡ place → ⊥
    at_place same =
        some x.index (sym (read_there reading place x.index answers) ∙ ap (λ (n : ℕ). reading_with reading place answers (answer_of n x.index)) (sym same) ∙ is)

    by : (x.place < place) ⊎ (place ≤ x.place) → suc place ≤ x.place
    by (inl below) = let behind = before x (sym (read_before reading place answers x below) ∙ is) in absurd (omega (arith, below, behind))
    by (inr behind) = further (cases_lt place x.place)
      where
        further : (place < x.place) ⊎ (x.place ≤ place) → suc place ≤ x.place
        further (inl past) = omega (arith, past)
        further (inr low) = absurd (at_place (omega (arith, low, behind)))

some_result : (how : LastResults) (place k : ℕ) → results_as how place k ≡ NotMade → ⊥
some_result AreGiven place zero is = let no_way : ⊥ = cc in no_way
some_result AreGiven place (suc k) is = let no_way : ⊥ = cc in no_way
some_result AreGenerated place k is = let no_way : ⊥ = cc in no_way

emitted_unmade : (how : LastResults) (reading : Reading) (plain ledger : Ledger) (code : List (Instruction Name Name)) → ((x : Name) → reading x ≡ NotMade → length plain.answers ≤ x.place)
    → (x : Name) → reading_behind how reading plain ledger code x ≡ NotMade → length code + suc (length plain.answers) ≤ x.place
emitted_unmade how reading plain ledger [] before x is =
    let behind = with_unmade reading (length plain.answers) (results_as how (length ledger.answers)) (some_result how (length ledger.answers)) before x is in omega (arith, behind)
emitted_unmade how reading plain ledger (first ∷ code) before x is =
    let one : length (ledger_with plain (building first)).answers ≡ suc (length plain.answers) = one_longer plain.answers (answers_to plain (building first)) in
    let rest = emitted_unmade how (reading_generated reading plain) (ledger_with plain (building first)) ledger code next x is in
    omega (arith, rest, one)
  where
    next : (y : Name) → reading_generated reading plain y ≡ NotMade → length (ledger_with plain (building first)).answers ≤ y.place
    next y unread =
        let one : length (ledger_with plain (building first)).answers ≡ suc (length plain.answers) = one_longer plain.answers (answers_to plain (building first)) in
        let behind = with_unmade reading (length plain.answers) (λ index. Generated) (λ k same. let no_way : ⊥ = cc in no_way) before y unread in
        omega (arith, behind, one)

generated_unmade : (reading : Reading) (plain : Ledger) (entry : TableEntry) → ((x : Name) → reading x ≡ NotMade → length plain.answers ≤ x.place)
    → (x : Name) → reading_generated reading plain x ≡ NotMade → length (ledger_with plain (MakeEntry entry)).answers ≤ x.place
generated_unmade reading plain entry before x is =
    let more = import_longer plain entry in
    let behind = with_unmade reading (length plain.answers) (λ index. Generated) (λ k same. let no_way : ⊥ = cc in no_way) before x is in
    omega (arith, more, behind)

importing_unmade : (reading : Reading) (plain : Ledger) (imports : List TableEntry) → ((x : Name) → reading x ≡ NotMade → length plain.answers ≤ x.place)
    → (x : Name) → reading_importing reading plain imports x ≡ NotMade → length (ledger_importing plain imports).answers ≤ x.place
importing_unmade reading plain [] before x is = before x is
importing_unmade reading plain (entry ∷ imports) before x is =
    importing_unmade (reading_generated reading plain) (ledger_with plain (MakeEntry entry)) imports (generated_unmade reading plain entry before) x is

-- each answer is read, or was generated
pub unmade : (reading : Reading) (plain : Script) (calls : List ScriptCall) → AreJoinedCalls reading plain calls → (x : Name) → reading x ≡ NotMade → length (ledger_after plain).answers ≤ x.place
unmade reading plain calls Starting x is = omega arith
unmade reading plain calls (Asking old script earlier ask request are read placed) x is =
    let longer : length (ledger_after (script ++ ask ∷ [])).answers ≡ suc (length (ledger_after script).answers) =
    ap (λ (l : Ledger). length l.answers) (fold_on ledger_with empty_ledger script (ask ∷ [])) ∙ one_longer (ledger_after script).answers (answers_to (ledger_after script) ask) in
    let behind = with_unmade old (length (ledger_after script).answers) (answers_at (length (ledger_of earlier).answers)) (λ k same. let no_way : ⊥ = cc in no_way) (unmade old script earlier are) x is in
    omega (arith, longer, behind)
unmade reading plain calls (Emitting how old script earlier imports code last whole are placed line stays whole_stays types) x is =
    let importing' : Ledger = ledger_importing (ledger_after script) imports in
    let longer : length (ledger_after (script ++ line_calls imports code last)).answers ≡ length code + suc (length importing'.answers) =
    ap (λ (l : Ledger). length l.answers)
    (fold_on ledger_with empty_ledger script (line_calls imports code last) ∙ fold_on ledger_with (ledger_after script) (importing imports) (map building code ++ building last ∷ []))
    ∙ how_many importing' code last in
    let behind =
    emitted_unmade how (reading_importing old (ledger_after script) imports) importing' (with_imports imports (ledger_of earlier)) code (importing_unmade old (ledger_after script) imports (unmade old script earlier are)) x is in
    omega (arith, longer, behind)
unmade reading plain calls (Switching old script more earlier block value ty keys edges switch branches tables are at placed read code) x is =
    by (cases_lt x.place (length script)) (cases_lt x.place (length script + length more)) (unmade old script earlier are x)
  where
    longer : length (ledger_after (script ++ more)).answers ≡ length script + length more
    longer =
        ap (λ (l : Ledger). length l.answers) (fold_on ledger_with empty_ledger script more) ∙ fold_longer more (ledger_after script)
        ∙ ap (λ (n : ℕ). n + length more) (sym (calls_made script))

    by : (x.place < length script) ⊎ (length script ≤ x.place) → (x.place < length script + length more) ⊎ (length script + length more ≤ x.place)
        → (old x ≡ NotMade → length (ledger_after script).answers ≤ x.place) → length (ledger_after (script ++ more)).answers ≤ x.place
    by (inl below) side before =
        let behind = before (sym (across_before old (length script) (length more) x below) ∙ is) in
        let made = calls_made script in
        absurd (omega (arith, below, behind, made))
    by (inr from) (inl inside) before = let apart : Generated ≡ NotMade = sym (across_inside old (length script) (length more) x from inside) ∙ is in let no_way : ⊥ = cc in absurd no_way
    by (inr from) (inr behind) before = omega (arith, behind, longer)
unmade reading plain calls (Giving old script given earlier are is) x none =
    subst (λ (l : Ledger). length l.answers ≤ x.place) (given_ledger script given is) (unmade old script earlier are x none)

-- nothing is in a block that isn't made
pub joined_bare : (reading : Reading) (plain : Script) (calls : List ScriptCall) → AreJoinedCalls reading plain calls → IsBareFrom (length (ledger_after plain).answers) (program_of plain)
joined_bare reading plain calls are =
    (go nothing (λ a b c d e f g. tt) undecided (λ a b c d e f g h i j. tt) anything reading plain calls are (none_known reading plain calls are)).bare'
