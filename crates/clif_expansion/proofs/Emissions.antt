-- Code in a line keeps ledgers joined with an instruction that is emitted.
use Rattle.std.proofs.Common.{◌≡◌, ◌<◌, ◌+◌, ◌⊎◌, inl, inr, ℕ, zero, suc, Bool, true, false, List, [], ◌∷◌, ◌++◌, length, map, refl, sym, ◌∙◌, ap, ap₂, subst, arith, Option, Some, None}
use Rattle.std.specs.Prelude.{◌||◌, fold, if◌then◌else◌, slice_get}
use Rattle.std.specs.List.{AllByRecursion, list_any}
use Rattle.std.proofs.lemmas.List.{length-append}
use Rattle.clif_types.specs.declared.types.«Type».{«Type»}
use Rattle.clif_meaning.specs.Instruction.{Edge, Instruction, Operation, Switch}
use Rattle.clif_meaning.specs.Ledger.{AValue, AnInstruction, Answered, BlockState, ExceptionTable, Ledger, answer_at, changed_by, is_inserted, is_terminator, ledger_with, with_begun, with_begun_at, with_filled_at, with_instruction, with_layout, with_predecessor, with_state, with_terminator}
use Rattle.clif_meaning.specs.Name.{Name, answer_of, same_name}
use Rattle.clif_expansion.specs.Emission.{AreAnswered, AreGenerated, AreGiven, EmittingKeepsJoins, LastResults, StaysInLine, building, importing, ledger_importing, reading_behind, reading_generated, reading_importing, reading_line}
use Rattle.clif_expansion.specs.Joining.{AreJoinedStates, IsJoined, IsReadAnswer, IsUnread, reading_with, results_at}
use Rattle.clif_expansion.specs.Reading.{Generated, IsOneToOne, IsReadAs, Reading, ScriptName, StandsFor}
use Rattle.clif_expansion.specs.ScriptCall.{Emit, emitted_types, ledger_behind, ledger_with_call, with_imports}
use Rattle.clif_expansion.proofs.Imports.{imports_joined}
use Rattle.clif_expansion.proofs.JoinedStates.{begun_read}
use Rattle.clif_expansion.proofs.Joins.{GoesOn, KeepsGenerated, KeepsReading, answer_later, answers_before, answers_last, at_read, read_before, read_either, states_later, values_read}
use Rattle.clif_expansion.proofs.Names.{equal_names, same_script}

-- BEGUN TWICE -------------------------------------------------------------------------------------------------------------

abbrev pub begun_state : Name → BlockState → BlockState
begun_state block state = if same_name state.block block then record state { is_pristine = false } else state

state_twice : (block : Name) (state : BlockState) → begun_state block (begun_state block state) ≡ begun_state block state
state_twice block state = by (same_name state.block block) refl
  where
    by : (c : Bool) → same_name state.block block ≡ c
        → begun_state block (if c then record state { is_pristine = false } else state) ≡ (if c then record state { is_pristine = false } else state)
    by true is = ap (λ (c : Bool). if c then record state { is_pristine = false } else record state { is_pristine = false }) is
    by false is = ap (λ (c : Bool). if c then record state { is_pristine = false } else state) is

states_twice : (block : Name) (states : List BlockState) → map (begun_state block) (map (begun_state block) states) ≡ map (begun_state block) states
states_twice block [] = refl
states_twice block (state ∷ states) = ap₂ (λ (first : BlockState) (rest : List BlockState). first ∷ rest) (state_twice block state) (states_twice block states)

there_last : (block : Name) (layout : List Name) → list_any (same_name block) (layout ++ block ∷ []) ≡ true
there_last block [] = ap (λ (c : Bool). c || false) (equal_names block block refl)
there_last block (other ∷ layout) = by (same_name block other) (there_last block layout)
  where
    by : (c : Bool) → list_any (same_name block) (layout ++ block ∷ []) ≡ true → (c || list_any (same_name block) (layout ++ block ∷ [])) ≡ true
    by true later = refl
    by false later = later

laid_there : (ledger : Ledger) (block : Name) → is_inserted (with_layout ledger block) block ≡ true
laid_there ledger block = by (is_inserted ledger block) refl
  where
    by : (c : Bool) → is_inserted ledger block ≡ c → is_inserted (if c then ledger else record ledger { layout = ledger.layout ++ block ∷ [] }) block ≡ true
    by true is = is
    by false is = there_last block ledger.layout

laid_current : (ledger : Ledger) (block : Name) → (with_layout ledger block).current ≡ ledger.current
laid_current ledger block = by (is_inserted ledger block)
  where
    by : (c : Bool) → (if c then ledger else record ledger { layout = ledger.layout ++ block ∷ [] }).current ≡ ledger.current
    by true = refl
    by false = refl

pub begun_current : (ledger : Ledger) (block : Option Name) → (with_begun_at ledger block).current ≡ ledger.current
begun_current ledger None = refl
begun_current ledger (Some block) = laid_current ledger block

at_twice : (ledger : Ledger) (block : Option Name) → with_begun_at (with_begun_at ledger block) block ≡ with_begun_at ledger block
at_twice ledger None = refl
at_twice ledger (Some block) =
    let laid : Ledger = with_layout ledger block in
    let begun : Ledger = with_begun_at ledger (Some block) in
    ap (λ (c : Bool). with_state (if c then begun else record begun { layout = begun.layout ++ block ∷ [] }) block (λ state. record state { is_pristine = false })) (laid_there ledger block)
    ∙ ap (λ (states : List BlockState). record laid { blocks = states }) (states_twice block laid.blocks)

pub begun_twice : (ledger : Ledger) → with_begun (with_begun ledger) ≡ with_begun ledger
begun_twice ledger =
    ap (λ (block : Option Name). with_begun_at (with_begun ledger) block) (begun_current ledger ledger.current) ∙ at_twice ledger ledger.current

-- IN A LINE ---------------------------------------------------------------------------------------------------------------

-- an instruction in a line begins its block, and changes nothing else
in_line : (ledger : Ledger) (instruction : Instruction Name Name) → StaysInLine instruction → with_instruction ledger instruction ≡ with_begun ledger
in_line ledger instruction stays =
    ap (λ (edges : List (Edge Name Name)). fold (with_predecessor (answer_of (length ledger.answers) 0)) (with_terminator (with_begun ledger) instruction.operation) edges) stays.no_edges
    ∙ ap (λ (c : Bool). if c then with_filled_at (with_begun ledger) (with_begun ledger).current else with_begun ledger) stays.goes_on

-- jump tables are kept where a block is begun
begun_tables : (ledger : Ledger) (block : Option Name) → (with_begun_at ledger block).jump_tables ≡ ledger.jump_tables
begun_tables ledger None = refl
begun_tables ledger (Some block) = by (is_inserted ledger block)
  where
    by : (c : Bool) → (if c then ledger else record ledger { layout = ledger.layout ++ block ∷ [] }).jump_tables ≡ ledger.jump_tables
    by true = refl
    by false = refl

-- and so are exception tables
begun_exceptions : (ledger : Ledger) (block : Option Name) → (with_begun_at ledger block).exception_tables ≡ ledger.exception_tables
begun_exceptions ledger None = refl
begun_exceptions ledger (Some block) = by (is_inserted ledger block)
  where
    by : (c : Bool) → (if c then ledger else record ledger { layout = ledger.layout ++ block ∷ [] }).exception_tables ≡ ledger.exception_tables
    by true = refl
    by false = refl

-- the states behind an instruction in a line are those of a block that is begun
abbrev Begins : Reading → Ledger → Ledger → Type 0
Begins reading plain ledger = AreJoinedStates reading (length ledger.answers) (with_begun plain) (with_begun ledger)

-- behind an instruction that ends no block the current one stays
pub behind_line : (operation : Operation) (ledger : Ledger) → is_terminator operation ≡ false → ledger_behind operation ledger ≡ ledger
behind_line (Switch keys) ledger goes_on = let no_way : true ≡ false = goes_on in cc
behind_line _ ledger goes_on = refl

pub built_changes : (plain : Ledger) (instruction : Instruction Name Name) → StaysInLine instruction → changed_by plain (building instruction) ≡ with_begun plain
built_changes plain instruction stays =
    ap (λ (l : Ledger). record l { jump_tables = plain.jump_tables; exception_tables = plain.exception_tables }) (in_line plain instruction stays)
    ∙ ap₂ (λ (tables : List (Option (List (Edge Name Name)))) (exceptions : List (Option ExceptionTable)). record (with_begun plain) { jump_tables = tables; exception_tables = exceptions })
    (sym (begun_tables plain plain.current)) (sym (begun_exceptions plain plain.current))

-- answers aside, states are joined
other_answers : (reading : Reading) (made : ℕ) (plain ledger : Ledger) (answers' answers : List (List Answered)) → AreJoinedStates reading made plain ledger
    → AreJoinedStates reading made (record plain { answers = answers' }) (record ledger { answers = answers })
other_answers reading made plain ledger answers' answers are = record {
  blocks = are.blocks;
  current = are.current;
  layout = are.layout;
  variables = are.variables;
  jump_tables = are.jump_tables;
  exception_tables = are.exception_tables;
  tables = are.tables;
}

-- What holds in the midst of code: a block that is begun is joined, and so are the answers.
record InMidst (reading : Reading) (plain ledger : Ledger) : Type 0 where
  begins : Begins reading plain ledger
  answers : (x name : Name) → IsReadAs reading x name → IsReadAnswer reading (answer_at plain x) (answer_at ledger name)
  one_to_one : IsOneToOne reading
  made : (x name : Name) → IsReadAs reading x name → (x.place < length plain.answers) × (name.place < length ledger.answers)
  own : (x : Name) → reading x ≡ Generated → x.place < length plain.answers

pub fold_on : {X Y : Type 0} (f : Y → X → Y) (start : Y) (xs more : List X) → fold f start (xs ++ more) ≡ fold f (fold f start xs) more
fold_on f start [] more = refl
fold_on f start (x ∷ xs) more = fold_on f (f start x) xs more

one_longer : (answers : List (List Answered)) (more : List Answered) → length (answers ++ more ∷ []) ≡ length answers + 1
one_longer answers more = length-append answers (more ∷ [])

module _ (reading : Reading) (plain ledger : Ledger) (midst : InMidst reading plain ledger) where
  abbrev here' : ℕ
  here' = length plain.answers

  keeps : (answers : ℕ → StandsFor) → KeepsReading reading (reading_with reading here' answers)
  keeps answers x name is = read_before reading here' answers x (midst.made x name is).0 ∙ is

  keeps_generated : (answers : ℕ → StandsFor) → KeepsGenerated reading (reading_with reading here' answers)
  keeps_generated answers x is = read_before reading here' answers x (midst.own x is) ∙ is

  -- what is generated is an answer that is, or was generated before
  generated_either : (answers : ℕ → StandsFor) (further : ℕ) → further ≡ here' + 1 → (x : Name) → reading_with reading here' answers x ≡ Generated → x.place < further
  generated_either answers further more x is = by (read_either reading here' answers x Generated is)
    where
      by : ((x.place ≡ here') × (answers x.index ≡ Generated)) ⊎ (reading x ≡ Generated) → x.place < further
      by (inl new) = let place = new.0 in omega (arith, place, more)
      by (inr old) = let below = midst.own x old in omega (arith, below, more)

  -- an instruction more
  module _ (instruction : Instruction Name Name) (stays : StaysInLine instruction) where
    abbrev after : Ledger
    after = ledger_with plain (building instruction)

    longer : length after.answers ≡ here' + 1
    longer = one_longer plain.answers (AnInstruction ∷ map AValue (emitted_types instruction))

    -- a block that is begun again
    begins_on : (answers : ℕ → StandsFor) (further : ℕ) → GoesOn reading (reading_with reading here' answers) (length ledger.answers) further
        → AreJoinedStates (reading_with reading here' answers) further (record (with_begun plain) { answers = after.answers }) (with_begun ledger)
    begins_on answers further on =
        other_answers (reading_with reading here' answers) further (with_begun plain) (with_begun ledger) after.answers (with_begun ledger).answers
        (states_later reading (reading_with reading here' answers) (length ledger.answers) further on (with_begun plain) (with_begun ledger) midst.begins)

    after_is : after ≡ record (with_begun plain) { answers = after.answers }
    after_is = ap (λ (l : Ledger). record l { answers = after.answers }) (built_changes plain instruction stays)

    states_on : (answers : ℕ → StandsFor) (further : ℕ) → GoesOn reading (reading_with reading here' answers) (length ledger.answers) further
        → AreJoinedStates (reading_with reading here' answers) further after (with_begun ledger)
    states_on answers further on = subst (λ (l : Ledger). AreJoinedStates (reading_with reading here' answers) further l (with_begun ledger)) (sym after_is) (begins_on answers further on)

    -- what was answered before
    answer_before : (answers : ℕ → StandsFor) (x name : Name) → IsReadAs reading x name → IsReadAnswer (reading_with reading here' answers) (answer_at after x) (answer_at ledger name)
    answer_before answers x name is =
        subst (λ (answer : Option Answered). IsReadAnswer (reading_with reading here' answers) answer (answer_at ledger name))
        (sym (answers_before plain.answers (AnInstruction ∷ map AValue (emitted_types instruction)) x.place x.index (midst.made x name is).0))
        (answer_later reading (reading_with reading here' answers) (keeps answers) (answer_at plain x) (answer_at ledger name) (midst.answers x name is))

    -- GENERATED -----------------------------------------------------------------------------------------------------------

    abbrev generated : Reading
    generated = reading_generated reading plain

    -- what is read was read before
    old : (x name : Name) → IsReadAs generated x name → IsReadAs reading x name
    old x name is = by (read_either reading here' (λ index. Generated) x (ScriptName name) is)
      where
        by : ((x.place ≡ here') × (Generated ≡ ScriptName name)) ⊎ IsReadAs reading x name → IsReadAs reading x name
        by (inl new) = let apart = new.1 in cc
        by (inr before) = before

    on : GoesOn reading generated (length ledger.answers) (length ledger.answers)
    on = record {
      keeps = keeps (λ index. Generated);
      generated = keeps_generated (λ index. Generated);
      unread = λ name is. record { unread = λ x read. is.unread x (old x name read); before = is.before };
    }

    goes_on : (one_to_one : IsOneToOne generated) → InMidst generated after ledger
    goes_on one_to_one = record {
      begins = subst (λ (l : Ledger). AreJoinedStates generated (length ledger.answers) (with_begun after) l) (begun_twice ledger)
          (begun_read generated (length ledger.answers) one_to_one after (with_begun ledger) (states_on (λ index. Generated) (length ledger.answers) on));
      own = generated_either (λ index. Generated) (length after.answers) longer;
      answers = λ x name is. answer_before (λ index. Generated) x name (old x name is);
      one_to_one = one_to_one;
      made = λ x name is.
          let both = midst.made x name (old x name is) in
          let below' = both.0 in
          (omega (arith, below', longer), both.1);
    }

    one_to_one_on : IsOneToOne generated
    one_to_one_on x y name first second = midst.one_to_one x y name (old x name first) (old y name second)

    -- THE LAST ONE, IF IT IS GENERATED, TOO --------------------------------------------------------------------------------

    module _ (whole : Instruction Name Name) (whole_stays : StaysInLine whole) where
      abbrev acted : Ledger
      acted = ledger_with_call ledger (Emit [] whole)

      longer_acted : length acted.answers ≡ length ledger.answers + 1
      longer_acted = one_longer ledger.answers (map AValue (emitted_types whole))

      on_acted : GoesOn reading generated (length ledger.answers) (length acted.answers)
      on_acted = record {
        keeps = keeps (λ index. Generated);
        generated = keeps_generated (λ index. Generated);
        unread = λ name is. record { unread = λ x read. is.unread x (old x name read); before = let below = is.before in omega (arith, below, longer_acted) };
      }

      states_acted : AreJoinedStates generated (length acted.answers) after acted
      states_acted =
          subst (λ (l : Ledger). AreJoinedStates generated (length acted.answers) after (record l { answers = acted.answers }))
          (sym (behind_line whole.operation (with_instruction ledger whole) whole_stays.goes_on ∙ in_line ledger whole whole_stays))
          (other_answers generated (length acted.answers) after (with_begun ledger) after.answers acted.answers (states_on (λ index. Generated) (length acted.answers) on_acted))

      answers_acted : (x name : Name) → IsReadAs generated x name → IsReadAnswer generated (answer_at after x) (answer_at acted name)
      answers_acted x name is =
          subst (λ (answer : Option Answered). IsReadAnswer generated (answer_at after x) answer)
          (sym (answers_before ledger.answers (map AValue (emitted_types whole)) name.place name.index (midst.made x name (old x name is)).1))
          (answer_before (λ index. Generated) x name (old x name is))

      made_acted : (x name : Name) → IsReadAs generated x name → (x.place < length after.answers) × (name.place < length acted.answers)
      made_acted x name is =
          let below' : x.place < here' = (midst.made x name (old x name is)).0 in
          let below : name.place < length ledger.answers = (midst.made x name (old x name is)).1 in
          (omega (arith, below', longer), omega (arith, below, longer_acted))

      acts : IsJoined generated after acted
      acts = record {
        ledgers = record { states = states_acted; answers = answers_acted };
        one_to_one = one_to_one_on;
        made = made_acted;
        generated = generated_either (λ index. Generated) (length after.answers) longer;
      }

    -- THE LAST ONE --------------------------------------------------------------------------------------------------------

    module _ (whole : Instruction Name Name) (whole_stays : StaysInLine whole) (types : emitted_types instruction ≡ emitted_types whole) where
      abbrev here : ℕ
      here = length ledger.answers

      abbrev emitted : Reading
      emitted = reading_with reading here' (results_at here)

      abbrev end : Ledger
      end = ledger_with_call ledger (Emit [] whole)

      longer_end : length end.answers ≡ here + 1
      longer_end = one_longer ledger.answers (map AValue (emitted_types whole))

      -- what is read is a result, or was read before
      abbrev Either : Name → Name → Type 0
      Either x name = ((x.place ≡ here') × (results_at here x.index ≡ ScriptName name)) ⊎ IsReadAs reading x name

      either : (x name : Name) → IsReadAs emitted x name → Either x name
      either x name is = read_either reading here' (results_at here) x (ScriptName name) is

      -- a result with this number
      result_of : (k : ℕ) (name : Name) → results_at here k ≡ ScriptName name → (j : ℕ) × (k ≡ suc j) × (answer_of here j ≡ name)
      result_of zero name is = cc
      result_of (suc j) name is = (j, refl, same_script (answer_of here j) name is)

      result_place : (k : ℕ) (name : Name) → results_at here k ≡ ScriptName name → name.place ≡ here
      result_place k name is = ap (λ (n : Name). n.place) (sym (result_of k name is).2)

      result_index : (k j : ℕ) (name : Name) → results_at here k ≡ ScriptName name → results_at here j ≡ ScriptName name → k ≡ j
      result_index k j name first second =
          let one = result_of k name first in
          let other = result_of j name second in
          one.1 ∙ ap (λ (n : Name). suc n.index) (one.2 ∙ sym other.2) ∙ sym other.1

      apart : (x y name : Name) → results_at here x.index ≡ ScriptName name → IsReadAs reading y name → ⊥
      apart x y name new before =
          let place = result_place x.index name new in
          let below = (midst.made y name before).1 in
          absurd (omega (arith, place, below))

      emitted_apart : IsOneToOne emitted
      emitted_apart x y name first second = by (either x name first) (either y name second)
        where
          by : Either x name → Either y name → x ≡ y
          by (inl new) (inl other) =
              let place : x.place ≡ y.place = new.0 ∙ sym other.0 in
              let index : x.index ≡ y.index = result_index x.index y.index name new.1 other.1 in
              λ i. answer_of (place i) (index i)
          by (inl new) (inr before) = absurd (apart x y name new.1 before)
          by (inr before) (inl new) = absurd (apart y x name new.1 before)
          by (inr before) (inr other) = midst.one_to_one x y name before other

      result_read : (k : ℕ) (name : Name) → results_at here k ≡ ScriptName name
          → IsReadAnswer emitted (slice_get (AnInstruction ∷ map AValue (emitted_types instruction)) k) (answer_at end name)
      result_read k name is =
          let found = result_of k name is in
          let j : ℕ = found.0 in
          subst (λ (n : ℕ). IsReadAnswer emitted (slice_get (AnInstruction ∷ map AValue (emitted_types instruction)) n) (answer_at end name)) (sym found.1)
          (subst (λ (n : Name). IsReadAnswer emitted (slice_get (map AValue (emitted_types instruction)) j) (answer_at end n)) found.2
          (subst (λ (answer : Option Answered). IsReadAnswer emitted (slice_get (map AValue (emitted_types instruction)) j) answer) (sym (answers_last ledger.answers (map AValue (emitted_types whole)) j))
          (subst (λ (ts : List «Type»). IsReadAnswer emitted (slice_get (map AValue ts) j) (slice_get (map AValue (emitted_types whole)) j)) (sym types)
          (at_read emitted (map AValue (emitted_types whole)) (map AValue (emitted_types whole)) j (values_read emitted (emitted_types whole))))))

      answers_end : (x name : Name) → IsReadAs emitted x name → IsReadAnswer emitted (answer_at after x) (answer_at end name)
      answers_end x name is = by (either x name is)
        where
          by : Either x name → IsReadAnswer emitted (answer_at after x) (answer_at end name)
          by (inl new) =
              let x_is : answer_of here' x.index ≡ x = λ i. answer_of (sym new.0 i) x.index in
              subst (λ (z : Name). IsReadAnswer emitted (answer_at after z) (answer_at end name)) x_is
              (subst (λ (answer : Option Answered). IsReadAnswer emitted answer (answer_at end name))
              (sym (answers_last plain.answers (AnInstruction ∷ map AValue (emitted_types instruction)) x.index)) (result_read x.index name new.1))
          by (inr before) =
              subst (λ (answer : Option Answered). IsReadAnswer emitted (answer_at after x) answer)
              (sym (answers_before ledger.answers (map AValue (emitted_types whole)) name.place name.index (midst.made x name before).1))
              (answer_before (results_at here) x name before)

      made_end : (x name : Name) → IsReadAs emitted x name → (x.place < length after.answers) × (name.place < length end.answers)
      made_end x name is = by (either x name is)
        where
          by : Either x name → (x.place < length after.answers) × (name.place < length end.answers)
          by (inl new) =
              let place' : x.place ≡ here' = new.0 in
              let place : name.place ≡ here = result_place x.index name new.1 in
              (omega (arith, place', longer), omega (arith, place, longer_end))
          by (inr before) =
              let below' : x.place < here' = (midst.made x name before).0 in
              let below : name.place < here = (midst.made x name before).1 in
              (omega (arith, below', longer), omega (arith, below, longer_end))

      on_end : GoesOn reading emitted here (length end.answers)
      on_end = record {
        keeps = keeps (results_at here);
        generated = keeps_generated (results_at here);
        unread = λ name is. record { unread = λ x read. unread_end x name is (either x name read); before = let below = is.before in omega (arith, below, longer_end) };
      }
        where
          unread_end : (x name : Name) → IsUnread reading here name → Either x name → ⊥
          unread_end x name is (inl new) =
              let place = result_place x.index name new.1 in
              let below = is.before in
              absurd (omega (arith, place, below))
          unread_end x name is (inr before) = is.unread x before

      states_end : AreJoinedStates emitted (length end.answers) after end
      states_end =
          subst (λ (l : Ledger). AreJoinedStates emitted (length end.answers) after (record l { answers = end.answers }))
          (sym (behind_line whole.operation (with_instruction ledger whole) whole_stays.goes_on ∙ in_line ledger whole whole_stays))
          (other_answers emitted (length end.answers) after (with_begun ledger) after.answers end.answers (states_on (results_at here) (length end.answers) on_end))

      ends : IsJoined emitted after end
      ends = record {
        ledgers = record { states = states_end; answers = answers_end };
        one_to_one = emitted_apart;
        made = made_end;
        generated = generated_either (results_at here) (length after.answers) longer;
      }

emitting : (how : LastResults) (reading : Reading) (plain ledger : Ledger) (code : List (Instruction Name Name)) (last whole : Instruction Name Name)
    → InMidst reading plain ledger → AllByRecursion StaysInLine code → StaysInLine last → StaysInLine whole → AreAnswered how last whole
    → IsJoined (reading_behind how reading plain ledger code) (fold ledger_with plain (map building code ++ building last ∷ [])) (ledger_with_call ledger (Emit [] whole))
emitting AreGiven reading plain ledger [] last whole midst line stays whole_stays types = ends reading plain ledger midst last stays whole whole_stays types
emitting AreGenerated reading plain ledger [] last whole midst line stays whole_stays types = acts reading plain ledger midst last stays whole whole_stays
emitting how reading plain ledger (first ∷ code) last whole midst line stays whole_stays types =
    emitting how (reading_generated reading plain) (ledger_with plain (building first)) ledger code last whole
    (goes_on reading plain ledger midst first line.0 (one_to_one_on reading plain ledger midst first line.0)) line.1 stays whole_stays types

-- from joined ledgers on
pub behind_joined : (how : LastResults) (reading : Reading) (plain ledger : Ledger) (code : List (Instruction Name Name)) (last whole : Instruction Name Name)
    → IsJoined reading plain ledger → AllByRecursion StaysInLine code → StaysInLine last → StaysInLine whole → AreAnswered how last whole
    → IsJoined (reading_behind how reading plain ledger code) (fold ledger_with plain (map building code ++ building last ∷ [])) (ledger_with_call ledger (Emit [] whole))
behind_joined how reading plain ledger code last whole joined line stays whole_stays types =
    emitting how reading plain ledger code last whole
    (record {
      begins = begun_read reading (length ledger.answers) joined.one_to_one plain ledger joined.ledgers.states;
      answers = joined.ledgers.answers;
      one_to_one = joined.one_to_one;
      made = joined.made;
      own = joined.generated;
    })
    line stays whole_stays types

pub emitting_keeps_joins : EmittingKeepsJoins
emitting_keeps_joins how reading plain ledger imports code last whole joined line stays whole_stays types =
    subst (λ (l : Ledger). IsJoined (reading_line how reading plain ledger imports code) l (ledger_with_call ledger (Emit imports whole)))
    (sym (fold_on ledger_with plain (importing imports) (map building code ++ building last ∷ [])))
    (behind_joined how (reading_importing reading plain imports) (ledger_importing plain imports) (with_imports imports ledger) code last whole
    (imports_joined reading plain ledger imports joined) line stays whole_stays types)
