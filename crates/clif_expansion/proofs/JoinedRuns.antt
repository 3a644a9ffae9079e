-- Joined calls whose emissions are performed have a run that the plain calls' run expands.
use Rattle.std.proofs.Common.{◌≡◌, ◌<◌, ◌+◌, inl, inr, ℕ, suc, Bool, List, [], ◌∷◌, ◌++◌, length, map, refl, sym, ◌∙◌, ap, ap₂, subst, arith, append_assoc}
use Rattle.std.specs.Prelude.{fold, slice_get}
use Rattle.std.specs.List.{AllByRecursion, AllZip}
use Rattle.clif_tables.specs.Entries.{TableEntry}
use Rattle.clif_meaning.specs.FunctionView.{FunctionView}
use Rattle.clif_meaning.specs.Headline.{in_spill_slot, script_run}
use Rattle.clif_meaning.specs.Instruction.{Instruction}
use Rattle.clif_meaning.specs.Ledger.{Ledger, VariableState, answers_to, empty_ledger, is_marked, ledger_after, ledger_with, marked, or_invalid, type_of}
use Rattle.clif_meaning.specs.Name.{Name}
use Rattle.clif_meaning.specs.Program.{Program, Item, empty_program, program_of, with_call}
use Rattle.clif_meaning.specs.Request.{Request, CreateBlock, SwitchToBlock, SealBlock, MakeEdge, MakeJumpTable, Build, Script}
use Rattle.clif_meaning.specs.Tracked.{tracked_by, tracked_from}
use Rattle.clif_meaning.specs.World.{World}
use Rattle.clif_expansion.specs.Code.{DecidesItem, Does, NameTypes, PerformsItem}
use Rattle.clif_expansion.specs.Emission.{building, importing, ledger_importing, line_calls, reading_across, reading_importing, reading_line}
use Rattle.clif_expansion.specs.Expansion.{IsCutProgram, IsExpandedRun, types_in}
use Rattle.clif_expansion.specs.JoinedCalls.{AreJoinedCalls, Asking, Emitting, Giving, IsBuiltWith, IsGiven, IsSame, Starting, Switching}
use Rattle.clif_expansion.specs.CallsRun.{calls_run, tracked_by_call, tracked_by_calls}
use Rattle.clif_expansion.specs.JoinedRuns.{JoinedCallsMeanTheSame}
use Rattle.clif_expansion.specs.Joining.{IsJoined, IsReadRequest, answers_at, reading_after}
use Rattle.clif_expansion.specs.Laying.{IsLaid, IsLaidProgram}
use Rattle.clif_expansion.specs.PerformedCalls.{ArePerformed, HaveTypes}
use Rattle.clif_expansion.specs.Reading.{IsReadAs, Reading}
use Rattle.clif_expansion.specs.ScriptCall.{Ask, Emit, ScriptCall, call_answers, ledger_of, ledger_with_call, program_of_calls, with_imports}
use Rattle.clif_expansion.specs.Switching.{IsDecidingCall, targets_of}
use Rattle.clif_expansion.proofs.Across.{across_before}
use Rattle.clif_expansion.proofs.DecidingPrograms.{AllBuilt}
use Rattle.clif_expansion.proofs.EmittedPrograms.{emitted_before, one_longer}
use Rattle.clif_expansion.proofs.GivenCalls.{given_ledger}
use Rattle.clif_expansion.proofs.Imports.{importing_before, importing_longer}
use Rattle.clif_expansion.proofs.JoinedCalls.{calls_made, current_read, fold_on, joined_calls}
use Rattle.clif_expansion.proofs.JoinedPrograms.{IsCalledSo, LastsIn, LastsLater, cut_each}
use Rattle.clif_expansion.proofs.JoinedStates.{any_read, zip_joined}
use Rattle.clif_expansion.proofs.Joins
use Rattle.clif_expansion.proofs.Joins.{KeepsReading, names_later, read_there}
use Rattle.clif_expansion.proofs.LaidCodes
use Rattle.clif_expansion.proofs.LaidPaths
use Rattle.clif_expansion.proofs.LaterCodes.{item_decides_later, item_performed_later, laid_later}
use Rattle.clif_expansion.proofs.LedgerTypes.{call_types_before, types_before}
use Rattle.clif_expansion.proofs.ProgramsOfCalls.{EachKnown, currents_same, go, joined_bare, script_place}
use Rattle.clif_expansion.proofs.ReadConditions
use Rattle.clif_expansion.proofs.ReadEffects.{read_effects}
use Rattle.clif_expansion.proofs.Same
use Rattle.clif_expansion.proofs.SwitchCodes

-- PERFORMED ---------------------------------------------------------------------------------------------------------------

module _ (pointer_width : ℕ) (types : NameTypes) where
  -- what is known of each emission's code
  abbrev IsDone : Reading → List Item → Item → Type 0
  IsDone reading code item = PerformsItem pointer_width reading types code item × ((program : Program) → IsLaid reading program code item)

  lasts : LastsLater IsDone
  lasts reading later keeps generated code item is = (
    item_performed_later reading later keeps generated pointer_width types code item is.0,
    λ program. laid_later reading later keeps generated program program (λ x own. (refl, refl)) code item (is.1 program),
  )

  -- and of each switch's
  abbrev IsDecided : Reading → Program → List Item → Item → Type 0
  IsDecided reading program code item = DecidesItem pointer_width reading types program code item × IsLaid reading program code item

  lasts_in : LastsIn IsDecided
  lasts_in reading later before after keeps generated own code item is = (
    item_decides_later reading later keeps generated before after own pointer_width types code item is.0,
    laid_later reading later keeps generated before after own code item is.1,
  )

  abbrev anything : Item → Type 0
  anything item = Unit {0}

  all_anything : (place : ℕ) (more : Script) → AllBuilt anything place more
  all_anything place [] = tt
  all_anything place (Build entries instruction ∷ more) = (tt, all_anything (suc place) more)
  all_anything place (_ ∷ more) = all_anything (suc place) more

  abbrev IsCalledHere : Reading → ℕ → Program → List Item → Item → Type 0
  IsCalledHere reading made program code item = IsCalledSo IsDone IsDecided reading made program code item

  each_done : (reading : Reading) (plain : Script) (calls : List ScriptCall) (are : AreJoinedCalls reading plain calls)
      → HaveTypes (ledger_after plain) types.plain → HaveTypes (ledger_of calls) types.script → ArePerformed pointer_width reading plain calls are
      → EachKnown IsDone lasts IsDecided lasts_in anything reading plain calls are
  each_done reading plain calls Starting have' have are = tt
  each_done reading plain calls (Asking old script earlier ask request are is placed) have' have done =
      each_done old script earlier are
      (types_before (ledger_after script) (ask ∷ []) types.plain (subst (λ (l : Ledger). HaveTypes l types.plain) (fold_on ledger_with empty_ledger script (ask ∷ [])) have'))
      (call_types_before (ledger_of earlier) (Ask request) types.script (subst (λ (l : Ledger). HaveTypes l types.script) (fold_on ledger_with_call empty_ledger earlier (Ask request ∷ [])) have))
      done
  each_done reading plain calls (Emitting how old script earlier imports code last whole are placed line stays whole_stays same) have' have done =
      let all' : HaveTypes (fold ledger_with (ledger_after script) (line_calls imports code last)) types.plain =
      subst (λ (l : Ledger). HaveTypes l types.plain) (fold_on ledger_with empty_ledger script (line_calls imports code last)) have' in
      let behind' : HaveTypes (fold ledger_with (ledger_importing (ledger_after script) imports) (map building code ++ building last ∷ [])) types.plain =
      subst (λ (l : Ledger). HaveTypes l types.plain) (fold_on ledger_with (ledger_after script) (importing imports) (map building code ++ building last ∷ [])) all' in
      let after : HaveTypes (ledger_with_call (ledger_of earlier) (Emit imports whole)) types.script =
      subst (λ (l : Ledger). HaveTypes l types.script) (fold_on ledger_with_call empty_ledger earlier (Emit imports whole ∷ [])) have in (
        each_done old script earlier are
            (types_before (ledger_after script) (line_calls imports code last) types.plain all')
            (call_types_before (ledger_of earlier) (Emit imports whole) types.script after) done.0,
        (done.1.performs types behind' after, done.1.laid),
      )
  each_done reading plain calls (Switching old script more earlier block value ty keys edges switch branches tables are at placed is code) have' have done =
      let joined = joined_calls old script earlier are in
      let here = current_read old (ledger_after script) (ledger_of earlier) (ledger_after script).current (ledger_of earlier).current block joined.ledgers.states.current at placed in
      let after : HaveTypes (ledger_with_call (ledger_of earlier) (Emit [] switch)) types.script =
      subst (λ (l : Ledger). HaveTypes l types.script) (fold_on ledger_with_call empty_ledger earlier (Emit [] switch ∷ [])) have in
      let before : HaveTypes (ledger_of earlier) types.script = call_types_before (ledger_of earlier) (Emit [] switch) types.script after in
      let before' : HaveTypes (ledger_after script) types.plain =
      types_before (ledger_after script) more types.plain (subst (λ (l : Ledger). HaveTypes l types.plain) (fold_on ledger_with empty_ledger script more) have') in (
        each_done old script earlier are before' before done,
        (
          SwitchCodes.item_decides old script more (ledger_of earlier) joined block here.0 value ty keys edges switch branches tables at here.1 here.2 is code (calls_made script)
              (fold_on ledger_with empty_ledger script more) (currents_same script) (script_place script ∙ calls_made script) (fold_on with_call empty_program script more) (joined_bare old script earlier are)
              pointer_width types have' before,
          SwitchCodes.laid old script more (ledger_of earlier) joined block here.0 value ty keys edges switch branches tables at here.1 here.2 is code (calls_made script)
              (fold_on ledger_with empty_ledger script more) (currents_same script) (script_place script ∙ calls_made script) (fold_on with_call empty_program script more) (joined_bare old script earlier are),
        ),
        all_anything (length script) more,
      )
  each_done reading plain calls (Giving old script given earlier are is) have' have done =
      each_done old script earlier are (subst (λ (l : Ledger). HaveTypes l types.plain) (sym (given_ledger script given is)) have') have done

  does : (reading : Reading) (made : ℕ) (program : Program) (code : List Item) (item : Item) → IsCalledHere reading made program code item → Does pointer_width reading types program code item
  does reading made program (plain ∷ []) item (inl asked) = inl asked.0
  does reading made program [] item (inl asked) = absurd asked
  does reading made program (plain ∷ second ∷ code) item (inl asked) = absurd asked
  does reading made program code item (inr (inl (is, known))) = inr (inl known.0)
  does reading made program code item (inr (inr is)) = inr (inr is.decided.0)

  laid : (reading : Reading) (made : ℕ) (program : Program) (code : List Item) (item : Item) → IsCalledHere reading made program code item → IsLaid reading program code item
  laid reading made program (plain ∷ []) item (inl asked) = LaidCodes.itself reading program (plain ∷ []) item asked.0
  laid reading made program [] item (inl asked) = absurd asked
  laid reading made program (plain ∷ second ∷ code) item (inl asked) = absurd asked
  laid reading made program code item (inr (inl (is, known))) = known.1 program
  laid reading made program code item (inr (inr is)) = is.decided.1

  recut : (reading : Reading) (made : ℕ) (plain program : Program) (Stands : List Item → Item → Type 0)
      → ((code : List Item) (item : Item) → IsCalledHere reading made plain code item → Stands code item)
      → IsCutProgram reading (IsCalledHere reading made plain) plain program → IsCutProgram reading Stands plain program
  recut reading made plain program Stands each cut = record {
    entry = cut.entry;
    parameters = cut.parameters;
    items = λ x block is. cut_each (IsCalledHere reading made plain) Stands each (plain.items x) (program.items block) (cut.items x block is);
  }

-- TRACKED NAMES -----------------------------------------------------------------------------------------------------------

calls_behind : (script : Script) (ledger : Ledger) → length (fold ledger_with ledger script).answers ≡ length ledger.answers + length script
calls_behind [] ledger = omega arith
calls_behind (request ∷ script) ledger =
    let more = one_longer ledger.answers (answers_to ledger request) in
    let rest = calls_behind script (ledger_with ledger request) in
    omega (arith, more, rest)

from_zero : (n : ℕ) → 0 + n ≡ n
from_zero n = omega arith

calls_behind_calls : (calls : List ScriptCall) (ledger : Ledger) → length (fold ledger_with_call ledger calls).answers ≡ length ledger.answers + length calls
calls_behind_calls [] ledger = omega arith
calls_behind_calls (call ∷ calls) ledger =
    let more = one_longer ledger.answers (call_answers ledger call) in
    let rest = calls_behind_calls calls (ledger_with_call ledger call) in
    omega (arith, more, rest)

module _ (marks : Ledger) where
  further : (place n : ℕ) → suc place + n ≡ place + suc n
  further place n = omega arith

  none_more : (n : ℕ) → n ≡ n + 0
  none_more n = omega arith

  tracked_behind : (place : ℕ) (script more : Script) → tracked_from marks place (script ++ more) ≡ tracked_from marks place script ++ tracked_from marks (place + length script) more
  tracked_behind place [] more = ap (λ (n : ℕ). tracked_from marks n more) (none_more place)
  tracked_behind place (request ∷ script) more =
      ap (λ (xs : List Name). tracked_by marks place request ++ xs)
      (tracked_behind (suc place) script more ∙ ap (λ (n : ℕ). tracked_from marks (suc place) script ++ tracked_from marks n more) (further place (length script)))
      ∙ sym (append_assoc (tracked_by marks place request) (tracked_from marks (suc place) script) (tracked_from marks (place + suc (length script)) more))

  calls_tracked_behind : (place : ℕ) (calls more : List ScriptCall) → tracked_by_calls marks place (calls ++ more) ≡ tracked_by_calls marks place calls ++ tracked_by_calls marks (place + length calls) more
  calls_tracked_behind place [] more = ap (λ (n : ℕ). tracked_by_calls marks n more) (none_more place)
  calls_tracked_behind place (call ∷ calls) more =
      ap (λ (xs : List Name). tracked_by_call marks place call ++ xs)
      (calls_tracked_behind (suc place) calls more ∙ ap (λ (n : ℕ). tracked_by_calls marks (suc place) calls ++ tracked_by_calls marks n more) (further place (length calls)))
      ∙ sym (append_assoc (tracked_by_call marks place call) (tracked_by_calls marks (suc place) calls) (tracked_by_calls marks (place + suc (length calls)) more))

  -- behind a whole list
  tracked_last : (script more : Script) → tracked_from marks 0 (script ++ more) ≡ tracked_from marks 0 script ++ tracked_from marks (length script) more
  tracked_last script more = tracked_behind 0 script more ∙ ap (λ (n : ℕ). tracked_from marks 0 script ++ tracked_from marks n more) (from_zero (length script))

  calls_tracked_last : (calls more : List ScriptCall) → tracked_by_calls marks 0 (calls ++ more) ≡ tracked_by_calls marks 0 calls ++ tracked_by_calls marks (length calls) more
  calls_tracked_last calls more = calls_tracked_behind 0 calls more ∙ ap (λ (n : ℕ). tracked_by_calls marks 0 calls ++ tracked_by_calls marks n more) (from_zero (length calls))

  -- what is built tracks nothing
  built_track : (place : ℕ) (code : List (Instruction Name Name)) (last : Instruction Name Name) → tracked_from marks place (map building code ++ building last ∷ []) ≡ []
  built_track place [] last = refl
  built_track place (first ∷ code) last = built_track (suc place) code last

  -- and so do imports
  line_track : (place : ℕ) (imports : List TableEntry) (code : List (Instruction Name Name)) (last : Instruction Name Name) → tracked_from marks place (line_calls imports code last) ≡ []
  line_track place [] code last = built_track place code last
  line_track place (entry ∷ imports) code last = line_track (suc place) imports code last

  -- what is given to an instruction tracks nothing
  one_given : (place : ℕ) (plain given : Request) → IsGiven plain given → tracked_by marks place plain ≡ tracked_by marks place given
  one_given place plain given (IsSame request) = refl
  one_given place plain given (IsBuiltWith entries instruction are) = refl

  given_track : (place : ℕ) (plain given : Script) → AllZip IsGiven plain given → tracked_from marks place plain ≡ tracked_from marks place given
  given_track place [] [] are = refl
  given_track place (request ∷ plain) (other ∷ given) are = ap₂ (λ (xs ys : List Name). xs ++ ys) (one_given place request other are.0) (given_track (suc place) plain given are.1)
  given_track place [] (other ∷ given) are = absurd are
  given_track place (request ∷ plain) [] are = absurd are

module _ (marks' marks : Ledger) (same : (v : ℕ) → is_marked marks' v ≡ is_marked marks v) where
  -- what a call tracks is read as what the script's call tracks
  call_tracks : (reading : Reading) (ledger' ledger : Ledger) (joined : IsJoined reading ledger' ledger) (ask request : Request) → IsReadRequest reading ask request
      → AllZip (IsReadAs (reading_after reading ledger' ledger)) (tracked_by marks' (length ledger'.answers) ask) (tracked_by marks (length ledger.answers) request)
  call_tracks reading ledger' ledger joined ask request is =
      (read_effects reading ask request is).tracks (reading_after reading ledger' ledger) marks' marks (length ledger'.answers) (length ledger.answers)
      (Joins.keeps reading ledger' ledger joined) same (read_there reading (length ledger'.answers) 0 (answers_at (length ledger.answers)))

  behind : (reading : Reading) (script more : Script) (earlier further : List ScriptCall)
      → AllZip (IsReadAs reading) (tracked_from marks' 0 script) (tracked_by_calls marks 0 earlier)
      → AllZip (IsReadAs reading) (tracked_from marks' (length script) more) (tracked_by_calls marks (length earlier) further)
      → AllZip (IsReadAs reading) (tracked_from marks' 0 (script ++ more)) (tracked_by_calls marks 0 (earlier ++ further))
  behind reading script more earlier further before last =
      subst (λ (xs : List Name). AllZip (IsReadAs reading) xs (tracked_by_calls marks 0 (earlier ++ further))) (sym (tracked_last marks' script more))
      (subst (λ (xs : List Name). AllZip (IsReadAs reading) (tracked_from marks' 0 script ++ tracked_from marks' (length script) more) xs) (sym (calls_tracked_last marks earlier further))
      (zip_joined (IsReadAs reading) (tracked_from marks' 0 script) (tracked_from marks' (length script) more) (tracked_by_calls marks 0 earlier) (tracked_by_calls marks (length earlier) further) before last))

  -- what decides tracks nothing
  none_tracked : (base tables : ℕ) (targets : List Name) (place : ℕ) (more : Script) → AllByRecursion (IsDecidingCall base tables targets) more → tracked_from marks' place more ≡ []
  none_tracked base tables targets place [] deciding = refl
  none_tracked base tables targets place (CreateBlock ∷ more) deciding = none_tracked base tables targets (suc place) more deciding.1
  none_tracked base tables targets place (SwitchToBlock x ∷ more) deciding = none_tracked base tables targets (suc place) more deciding.1
  none_tracked base tables targets place (SealBlock x ∷ more) deciding = none_tracked base tables targets (suc place) more deciding.1
  none_tracked base tables targets place (MakeEdge edge ∷ more) deciding = none_tracked base tables targets (suc place) more deciding.1
  none_tracked base tables targets place (MakeJumpTable default entries ∷ more) deciding = none_tracked base tables targets (suc place) more deciding.1
  none_tracked base tables targets place (Build entries instruction ∷ more) deciding = none_tracked base tables targets (suc place) more deciding.1
  none_tracked base tables targets place (_ ∷ more) deciding = absurd deciding.0

  pub tracked : (reading : Reading) (plain : Script) (calls : List ScriptCall) → AreJoinedCalls reading plain calls
      → AllZip (IsReadAs reading) (tracked_from marks' 0 plain) (tracked_by_calls marks 0 calls)
  tracked reading plain calls Starting = tt
  tracked reading plain calls (Asking old script earlier ask request are is placed) =
      let joined = joined_calls old script earlier are in
      let places' : length (ledger_after script).answers ≡ length script = calls_behind script empty_ledger ∙ from_zero (length script) in
      let places : length (ledger_of earlier).answers ≡ length earlier = calls_behind_calls earlier empty_ledger ∙ from_zero (length earlier) in
      behind (reading_after old (ledger_after script) (ledger_of earlier)) script (ask ∷ []) earlier (Ask request ∷ [])
      (names_later old (reading_after old (ledger_after script) (ledger_of earlier)) (Joins.keeps old (ledger_after script) (ledger_of earlier) joined) _ _ (tracked old script earlier are))
      (zip_joined (IsReadAs (reading_after old (ledger_after script) (ledger_of earlier))) (tracked_by marks' (length script) ask) [] (tracked_by marks (length earlier) request) []
      (subst (λ (n : ℕ). AllZip (IsReadAs (reading_after old (ledger_after script) (ledger_of earlier))) (tracked_by marks' n ask) (tracked_by marks (length earlier) request)) places'
      (subst (λ (n : ℕ). AllZip (IsReadAs (reading_after old (ledger_after script) (ledger_of earlier))) (tracked_by marks' (length (ledger_after script).answers) ask) (tracked_by marks n request)) places
      (call_tracks old (ledger_after script) (ledger_of earlier) joined ask request is))) tt)
  tracked reading plain calls (Emitting how old script earlier imports code last whole are placed line stays whole_stays types) =
      let joined = joined_calls old script earlier are in
      let line : Reading = reading_line how old (ledger_after script) (ledger_of earlier) imports code in
      let keeps : KeepsReading old line =
      λ x name is.
      let below : x.place < length (ledger_after script).answers = (joined.made x name is).0 in
      let more = importing_longer (ledger_after script) imports in
      emitted_before how (reading_importing old (ledger_after script) imports) (ledger_importing (ledger_after script) imports) (with_imports imports (ledger_of earlier)) code x (omega (arith, below, more))
      ∙ importing_before old (ledger_after script) imports x below ∙ is in
      behind line script (line_calls imports code last) earlier (Emit imports whole ∷ [])
      (names_later old line keeps _ _ (tracked old script earlier are))
      (subst (λ (xs : List Name). AllZip (IsReadAs line) xs []) (sym (line_track marks' (length script) imports code last)) tt)
  tracked reading plain calls (Switching old script more earlier block value ty keys edges switch branches tables are at placed is code) =
      let joined = joined_calls old script earlier are in
      let across : Reading = reading_across old (length script) (length more) in
      let made = calls_made script in
      let keeps : KeepsReading old across =
      λ x name is. let below : x.place < length (ledger_after script).answers = (joined.made x name is).0 in
      across_before old (length script) (length more) x (omega (arith, below, made)) ∙ is in
      behind across script more earlier (Emit [] switch ∷ [])
      (names_later old across keeps _ _ (tracked old script earlier are))
      (subst (λ (xs : List Name). AllZip (IsReadAs across) xs []) (sym (none_tracked (length script) (length (ledger_after script).jump_tables) (targets_of edges) (length script) more code.calls)) tt)
  tracked reading plain calls (Giving old script given earlier are is) =
      subst (λ (xs : List Name). AllZip (IsReadAs old) xs (tracked_by_calls marks 0 earlier)) (given_track marks' 0 script given is) (tracked old script earlier are)

-- RUNS --------------------------------------------------------------------------------------------------------------------

module _ (reading : Reading) (plain : Script) (calls : List ScriptCall) (are : AreJoinedCalls reading plain calls) (function : FunctionView) (world : World)
    (done : ArePerformed world.pointer_width reading plain calls are) where
  abbrev hidden : ℕ → Bool
  hidden = in_spill_slot plain function world

  abbrev types : NameTypes
  types = types_in (script_run plain function world) (calls_run calls hidden world)

  joined : IsJoined reading (ledger_after plain) (ledger_of calls)
  joined = joined_calls reading plain calls are

  marks : (v : ℕ) → is_marked (ledger_after plain) v ≡ is_marked (ledger_of calls) v
  marks v = ap (λ (variables : List VariableState). marked (slice_get variables v)) joined.ledgers.states.variables

  run : IsExpandedRun reading (script_run plain function world) (calls_run calls hidden world)
  run = record {
    one_to_one = joined.one_to_one;
    program = recut world.pointer_width types reading (length (ledger_of calls).answers) (program_of plain) (program_of_calls calls) (Does world.pointer_width reading types (program_of plain))
        (does world.pointer_width types reading (length (ledger_of calls).answers) (program_of plain))
        (go (IsDone world.pointer_width types) (lasts world.pointer_width types) (IsDecided world.pointer_width types) (lasts_in world.pointer_width types) (anything world.pointer_width types) reading plain calls are
        (each_done world.pointer_width types reading plain calls are (λ x ty is. ap or_invalid is) (λ x ty is. ap or_invalid is) done)).cut;
    variable_type = λ v. ap or_invalid (ReadConditions.variable_same reading (ledger_after plain) (ledger_of calls) joined.ledgers joined.one_to_one v v refl);
    name_type = λ x name is. ap or_invalid (ReadConditions.type_same reading (ledger_after plain) (ledger_of calls) joined.ledgers joined.one_to_one x name is);
    is_marked = marks;
    is_tracked = λ x name is.
        any_read reading joined.one_to_one x name (tracked_from (ledger_after plain) 0 plain) (tracked_by_calls (ledger_of calls) 0 calls) is
        (tracked (ledger_after plain) (ledger_of calls) marks reading plain calls are);
    hidden = λ address. refl;
    world = refl;
  }

module _ (pointer_width : ℕ) (reading : Reading) (plain : Script) (calls : List ScriptCall) (are : AreJoinedCalls reading plain calls) (done : ArePerformed pointer_width reading plain calls are) where
  abbrev ledger_types : NameTypes
  ledger_types = record { plain = λ x. or_invalid (type_of (ledger_after plain) x); script = λ x. or_invalid (type_of (ledger_of calls) x) }

  laid_program : IsLaidProgram reading (program_of plain) (program_of_calls calls)
  laid_program =
      recut pointer_width ledger_types reading (length (ledger_of calls).answers) (program_of plain) (program_of_calls calls) (IsLaid reading (program_of plain))
      (laid pointer_width ledger_types reading (length (ledger_of calls).answers) (program_of plain))
      (go (IsDone pointer_width ledger_types) (lasts pointer_width ledger_types) (IsDecided pointer_width ledger_types) (lasts_in pointer_width ledger_types) (anything pointer_width ledger_types) reading plain calls are
      (each_done pointer_width ledger_types reading plain calls are (λ x ty is. ap or_invalid is) (λ x ty is. ap or_invalid is) done)).cut

pub joined_mean : JoinedCallsMeanTheSame
joined_mean = record {
  same_meaning = λ reading plain calls are function world done sound.
      Same.expanding_means_the_same reading (script_run plain function world) (calls_run calls (in_spill_slot plain function world) world) (run reading plain calls are function world done) sound;
  claims_true = λ reading plain calls are function world done sound.
      Same.expanding_keeps_premises.claims_true reading (script_run plain function world) (calls_run calls (in_spill_slot plain function world) world) (run reading plain calls are function world done) sound;
  spares_spill_slots = λ reading plain calls are function world done sound spares.
      Same.expanding_keeps_premises.spares_spill_slots reading (script_run plain function world) (calls_run calls (in_spill_slot plain function world) world) (run reading plain calls are function world done) sound spares;
  well_placed = λ pointer_width reading plain calls are done placed.
      LaidPaths.laying_keeps_places reading (program_of plain) (program_of_calls calls) (joined_calls reading plain calls are).one_to_one (laid_program pointer_width reading plain calls are done) placed;
}
