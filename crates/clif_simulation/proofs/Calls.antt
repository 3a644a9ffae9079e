-- Each kind of call that succeeds, an instruction aside, leaves a function that carries it.
use Rattle.clif_ssa.specs.Zeros.{insts_of_zeros}
use Rattle.std.proofs.Common.{◌≡◌, ℕ, zero, suc, ◌<◌, ◌≤◌, List, [], ◌∷◌, ◌++◌, length, refl, sym, ◌∙◌, ap, subst, arith, Some, None, ◌⊎◌, inl, inr, true, false, Bool, length-append}
use Rattle.std.specs.Prelude.{Contains, IsTrue, Option, option_and_then, slice_get, if◌then◌else◌}
use Rattle.std.proofs.lemmas.Option.{slice_get_within}
use Rattle.std.specs.List.{AllByRecursion}
use Rattle.std.proofs.lemmas.Grind.{common_steps}
use Rattle.std.proofs.lemmas.List.{append-nil}
use Rattle.clif_types.specs.declared.types.«Type».{«Type»}
use Rattle.clif_ir.specs.Body.{Body, block_at}
use Rattle.clif_nodes.specs.Nodes.{BlockNode, empty_block}
use Rattle.clif_ir.specs.Consistent.{IsConsistent}
use Rattle.clif_ir.specs.Changes.{with_block, inserted_in}
use Rattle.clif_instructions.specs.Members.{stands_in}
use Rattle.clif_paths.specs.Places.{inside}
use Rattle.clif_paths.specs.State.{Naming}
use Rattle.clif_paths.specs.Blocks.{Blocks, with_item, with_read, with_write}
use Rattle.clif_ssa.specs.Constructs.{OnlyConstructs}
use Rattle.clif_ssa.specs.Own.{Own}
use Rattle.clif_records.specs.Tables.{is_yes}
use Rattle.clif_records.specs.Tracking.{with_binding}
use Rattle.clif_ssa.specs.Ssa.{SsaState, predecessors_of, sealed_of, Records, RecordsStay, SamePredecessors, SameRecords, SameBlocks, SealedStays}
use Rattle.clif_ssa.specs.Sound.{EntryIsFree, Keeps, KeepsAndKnows, SameProgram, SparesIfEntry, entry_of}
use Rattle.clif_ssa.specs.SoundLaws.{with_entry, DescribesSoundly, IsOpen}
use Rattle.clif_ssa.specs.Structured.{HasType, Structured, VariableTypes}
use Rattle.clif_ssa.specs.Tracked.{TracksMade}
use Rattle.clif_ssa.proofs.Completing.{entry_same, same_program, same_program_then}
use Rattle.clif_ssa.proofs.KeptParameters.{itself_parameters}
use Rattle.clif_ssa.proofs.Public.{keeps_itself}
use Rattle.clif_ssa.proofs.Constructed.{inserted_constructs}
use Rattle.clif_ssa.proofs.Constructing.{constructs_then}
use Rattle.clif_ssa.proofs.Counting.{block_counted, inserted_counted}
use Rattle.clif_ssa.proofs.Counts.{counts_kept}
use Rattle.clif_ssa.proofs.Entering.{inserted}
use Rattle.clif_ssa.proofs.Structuring.{same_structured}
use Rattle.clif_ssa.proofs.StructuredLaws.{assigned_structured, block_structured, inserted_structured}
use Rattle.clif_ssa.proofs.Writing.{same_state, block_described, write_item_described, read_item_described}
use Rattle.clif_meaning.specs.Name.{Name, answer_of}
use Rattle.clif_meaning.specs.Request.{Request, CreateBlock, SwitchToBlock, SealBlock, DeclareVar, DefVar, UseVar, AnsweredCall, script_of, number_of, StackMapNeed, NeedStackMap}
use Rattle.clif_meaning.specs.Ledger.{BlockState, ABlock, AVariable, AValue, answers_to, ledger_after, has_value, is_filled, or_invalid, value_answer_type, variable_type}
use Rattle.clif_meaning.specs.Program.{Use, Assign}
use Rattle.clif_simulation.specs.Tables.{answered, code, number_or_none, program_so_far, block_name}
use Rattle.clif_simulation.specs.Carries.{AreTypes, Carries, IsCurrent, NamesBlocks, SoundOnPaths, ValuesGiven, HasEntry}
use Rattle.clif_simulation.specs.Tracks.{TracksNeed, TracksOnPaths}
use Rattle.clif_simulation.proofs.Carrying.{declared_kept, edges_there, holds_item, holds_on, leads_kept, only_parameters, parameters_on, parameters_values_on}
use Rattle.clif_simulation.proofs.FreeEntry.{entry_inserted, free_before, spared_sealed, still_sealed}
use Rattle.clif_simulation.proofs.Growing.{KeepsInsts, goes_on-constructs, insts_kept, insts_same}
use Rattle.clif_simulation.proofs.ItemCalls.{adds_use, adds_assignment, number_of_answer}
use Rattle.clif_simulation.proofs.Layouts.{out_before}
use Rattle.clif_simulation.proofs.LedgerValues.{none_new, typed_on}
use Rattle.clif_simulation.proofs.Listed.{MakesNoParameter, parameters_stay}
use Rattle.clif_simulation.proofs.Ledgers.{types_before}
use Rattle.clif_simulation.proofs.Numbering.{MakesNoInstruction, apart_on, none_made}
use Rattle.clif_simulation.proofs.NameLists.{the_one, MakesNoBlock, names_stay, names_of}
use Rattle.clif_simulation.proofs.Requests
use Rattle.clif_simulation.proofs.Requests.{entry_stays, entry_begun}
use Rattle.clif_simulation.proofs.Staying.{unchanged, created, restated, old_or_new, kept}
use Rattle.clif_simulation.proofs.Unfilled.{HasNoEdges, is_open, no_edges}
use Rattle.clif_simulation.proofs.Values.{is_value_at, false_is, values_kept, values_added, next_is_new, value_answered}
use Rattle.clif_simulation.proofs.Whole.{are_declared, declared_types}
use Rattle.clif_simulation.proofs.Extending.{extended}
use Rattle.clif_simulation.proofs.Tracking.Steps.{NamesNothing, same_function, tracks_assigned, tracks_needing, tracks_quiet}
use Rattle.clif_simulation.proofs.Tracking.Making.{tracks_constructed}
use Rattle.clif_simulation.proofs.Tracking.Giving.{entry_same_function, tracks_same}

-- a block that doesn't exist has no instructions
own_empty : (own : List ℕ) (zeros insts : List ℕ) → insts ≡ zeros ++ own → insts ≡ [] → own ≡ []
own_empty [] zeros insts is none = refl
own_empty (i ∷ own) [] insts is none = absurd (differ (sym is ∙ none))
  where
    differ : (i ∷ own) ≡ [] → ⊥
    differ h = cc
own_empty (i ∷ own) (z ∷ zeros) insts is none = absurd (differ (sym is ∙ none))
  where
    differ : (z ∷ (zeros ++ i ∷ own)) ≡ [] → ⊥
    differ h = cc

past_block : (f : Body) (b : ℕ) → length f.blocks ≤ b → block_at f b ≡ empty_block
past_block f b past = grind (arith, common_steps)

one_answer_none : (index : ℕ) → is_value_at (ABlock ∷ []) index ≡ false
one_answer_none zero = refl
one_answer_none (suc index) = refl

one_variable_none : (v index : ℕ) → is_value_at (AVariable v ∷ []) index ≡ false
one_variable_none v zero = refl
one_variable_none v (suc index) = refl

-- a value that one answer holds is the first
first_value : (place : ℕ) (ty : «Type») (index : ℕ) → IsTrue (is_value_at (AValue ty ∷ []) index) → Contains (answer_of place 0 ∷ []) (answer_of place index)
first_value place ty zero is = the_one (answer_of place 0)
first_value place ty (suc index) is = absurd (false_is is)

names_count : (states : List BlockState) → length (names_of states) ≡ length states
names_count [] = refl
names_count (state ∷ states) = ap suc (names_count states)

pub values_same : (calls : List AnsweredCall) (T T' : Blocks) → SameProgram T T' → ValuesGiven calls T → ValuesGiven calls T'
values_same calls T T' same given name is at_start = given name is (sym (ap (λ (n : Naming). n.home) (same.naming (code name))) ∙ at_start)

pub longer_calls : (calls : List AnsweredCall) (call : AnsweredCall) → length (calls ++ call ∷ []) ≡ suc (length calls)
longer_calls calls call = omega (arith, length-append calls)

-- a name that has a number was answered before
pub numbered_earlier : (calls : List AnsweredCall) (name : Name) (number : ℕ) → number_of calls name ≡ Some number → name.place < length calls
numbered_earlier calls name number is = by (slice_get calls name.place) refl is
  where
    none_is : None ≡ Some number → ⊥
    none_is h = cc

    by : (o : Option AnsweredCall) → slice_get calls name.place ≡ o → option_and_then (λ (c : AnsweredCall). slice_get c.numbers name.index) o ≡ Some number → name.place < length calls
    by None found h = absurd (none_is h)
    by (Some call) found h = slice_get_within calls name.place call found

-- the names of blocks stay
pub name_stays : (calls : List AnsweredCall) (call : AnsweredCall) → MakesNoBlock call.request → (b : ℕ) (N : Name) → block_name calls b ≡ Some N → block_name (calls ++ call ∷ []) b ≡ Some N
name_stays calls call no_block b N is = names_stay calls call no_block b ∙ is

-- the tables after a block is brought into the layout, and its structure
pub inserted_soundly : (own : Own) (f : Body) (s : SsaState) (tables : Blocks) (b : ℕ) → DescribesSoundly own f s tables → DescribesSoundly own (inserted_in f b) s (with_entry f.layout s b tables)
inserted_soundly own f s tables b before =
    let entered = inserted own f s [] tables b before.0 before.1 in
    (entered.0, entered.1, inserted_counted own f s tables (with_entry f.layout s b tables) b (entry_same f.layout s b tables).definition before.2)

-- a block to which control is open stays so where instructions and branches stay
pub open_kept : (f g : Body) (s t : SsaState) (b : ℕ) → KeepsInsts f g → SamePredecessors s t → ((c i : ℕ) → Contains (predecessors_of s c) i → i < length f.insts) → IsOpen f s b → IsOpen g t b
open_kept f g s t b keeps leads exist was c i here same =
    let old : Contains (predecessors_of s c) i = subst (λ (is : List ℕ). Contains is i) (leads c) here in
    was c i old (sym (keeps.block i (exist c i old)) ∙ same)

module _ (calls : List AnsweredCall) (f : Body) (s : SsaState) (c : Carries calls f s) where
  abbrev with_answers : Request → List ℕ → List AnsweredCall
  with_answers request numbers = calls ++ record { request = request; numbers = numbers } ∷ []

  abbrev the_call : Request → List ℕ → AnsweredCall
  the_call request numbers = record { request = request; numbers = numbers }

  -- the structure, with the types that the calls declare
  pub structured_so_far : Structured (declared_types calls) c.own f s []
  structured_so_far = c.holds.structured (declared_types calls) (are_declared calls)

  -- A BLOCK IS MADE -----------------------------------------------------------------------------------------------------

  pub carries_created : (t : SsaState) (numbers : List ℕ) → length (ledger_after (script_of calls)).blocks ≡ length f.blocks → SameRecords s t → SameBlocks s t → SamePredecessors s t
      → t.tracking ≡ s.tracking → Carries (with_answers CreateBlock numbers) (with_block f) t
  carries_created t numbers as_many records same leads tracking =
      let call : AnsweredCall = the_call CreateBlock numbers in
      let items = Requests.items_left calls call (λ program. refl) in
      record {
        own = c.own;
        holds = holds_on calls call (kept calls call refl) c.own c.own f (with_block f) s t c.holds (λ i below. refl) (omega arith) (λ b out. out)
            c.holds.no_maps (none_made (ledger_after (script_of calls)) CreateBlock tt) (λ b. refl)
            (parameters_on calls call (kept calls call refl) c.own c.own f (with_block f) s t c.holds (λ i below. refl) (omega arith) (λ b out. out) tt (λ b. refl) bare)
            (parameters_values_on calls call (kept calls call refl) c.own c.own f (with_block f) s t c.holds (λ i below. refl) (omega arith) (λ b out. out) tt)
            (typed_on calls call f (with_block f) c.holds.values_typed (λ v ty typed. typed) (λ index ty is. absurd (none_new calls call one_answer_none index ty is))) blocks named items
            (declared_kept c.own f (with_block f) s t (insts_same f (with_block f) refl refl refl) leads c.holds.own_exist c.holds.declared)
            (leads_kept calls call c.own c.own s t (kept calls call refl) (λ b i h. h) leads c.holds.leads_own)
            (edges_there f (with_block f) s t (insts_same f (with_block f) refl refl refl) leads structured_so_far.leading c.holds.have_edges)
            (entry_stays calls (calls ++ call ∷ []) f (with_block f) (Requests.entry_left calls call (λ program. refl)) refl (kept calls call refl) c.holds.entry)
            (λ types are.
            same_structured types c.own (with_block f) s t [] records same leads (block_structured types c.own f s (c.holds.structured types (types_before calls call types are))));
        on_paths = λ free.
            let p : SoundOnPaths calls c.own f s = c.on_paths (free_before f (with_block f) s t (λ e is. is) (λ b sealed. (ap is_yes (same b) ∙ sealed, leads b)) free) in
            record {
              tables = p.tables;
              program = created calls call refl p.tables p.tables (same_program p.tables) items p.program;
              values_given = values_kept calls call p.tables p.tables (same_program p.tables) one_answer_none p.values_given;
              describes = same_state c.own (with_block f) s t p.tables records same leads (block_described c.own f s p.tables p.describes);
              sound = p.sound;
              counts = counts_kept c.own (with_block f) s t p.tables p.tables (block_counted c.own f s p.tables p.counts) leads (λ v. refl);
              tracked = tracks_quiet calls call s t p.tables p.tracked tt tracking records p.tables (same_function p.tables p.tables refl);
            };
      }
    where
      empty : (b : ℕ) → b ≡ length (names_of (ledger_after (script_of calls)).blocks) → c.own.insts b ≡ []
      empty b last =
          let has = structured_so_far.zeros b in
          let past : length f.blocks ≤ b = omega (arith, last, as_many, names_count (ledger_after (script_of calls)).blocks) in
          own_empty (c.own.insts b) (insts_of_zeros has.zeros) (block_at f b).insts has.in_order (ap (λ (node : BlockNode). node.insts) (past_block f b past))

      no_items : (N : Name) → answer_of (length calls) 0 ≡ N → ((program_so_far calls).items N ≡ []) ⊎ ((b : ℕ) × (block_name calls b ≡ Some N)) → (program_so_far calls).items N ≡ []
      no_items N new (inl none) = none
      no_items N new (inr block) =
          let earlier : N.place < length calls = c.holds.blocks.earlier block.0 N block.1 in
          let late : length calls ≡ N.place = ap (λ (M : Name). M.place) new in
          absurd (omega (arith, earlier, late))

      named : (b : ℕ) (N : Name) → block_name (with_answers CreateBlock numbers) b ≡ Some N → (block_name calls b ≡ Some N) ⊎ ((c.own.insts b ≡ []) × ((program_so_far calls).items N ≡ []))
      named b N is = by (old_or_new calls (the_call CreateBlock numbers) refl b N is)
        where
          by : (block_name calls b ≡ Some N) ⊎ ((b ≡ length (names_of (ledger_after (script_of calls)).blocks)) × (answer_of (length calls) 0 ≡ N))
              → (block_name calls b ≡ Some N) ⊎ ((c.own.insts b ≡ []) × ((program_so_far calls).items N ≡ []))
          by (inl old) = inl old
          by (inr new) = inr (empty b new.0, no_items N new.1 (c.holds.blocks.only N))

      no_parameters : (N : Name) → answer_of (length calls) 0 ≡ N → ((program_so_far calls).parameters N ≡ []) ⊎ ((b : ℕ) × (block_name calls b ≡ Some N)) → (program_so_far calls).parameters N ≡ []
      no_parameters N new (inl none) = none
      no_parameters N new (inr block) =
          let earlier : N.place < length calls = c.holds.blocks.earlier block.0 N block.1 in
          let late : length calls ≡ N.place = ap (λ (M : Name). M.place) new in
          absurd (omega (arith, earlier, late))

      past_names : (names : List Name) → slice_get names (length names) ≡ None
      past_names [] = refl
      past_names (N ∷ names) = past_names names

      bare : (b : ℕ) (N : Name) → block_name (with_answers CreateBlock numbers) b ≡ Some N → (block_name calls b ≡ Some N) ⊎ ((block_name calls b ≡ None) × ((program_so_far calls).parameters N ≡ []))
      bare b N is = by (old_or_new calls (the_call CreateBlock numbers) refl b N is)
        where
          by : (block_name calls b ≡ Some N) ⊎ ((b ≡ length (names_of (ledger_after (script_of calls)).blocks)) × (answer_of (length calls) 0 ≡ N))
              → (block_name calls b ≡ Some N) ⊎ ((block_name calls b ≡ None) × ((program_so_far calls).parameters N ≡ []))
          by (inl old) = inl old
          by (inr new) = inr (
            ap (slice_get (names_of (ledger_after (script_of calls)).blocks)) new.0 ∙ past_names (names_of (ledger_after (script_of calls)).blocks),
            no_parameters N new.1 (c.holds.blocks.only_parameters N),
          )

      blocks : NamesBlocks (with_answers CreateBlock numbers)
      blocks = record {
        distinct = λ b d N first second. one b d N (old_or_new calls (the_call CreateBlock numbers) refl b N first) (old_or_new calls (the_call CreateBlock numbers) refl d N second);
        earlier = λ b N is. early b N (old_or_new calls (the_call CreateBlock numbers) refl b N is);
        only = λ N. stay N (c.holds.blocks.only N);
        only_parameters = λ N. still N (c.holds.blocks.only_parameters N);
      }
        where
          more : length (with_answers CreateBlock numbers) ≡ suc (length calls)
          more = longer_calls calls (the_call CreateBlock numbers)

          late : (b : ℕ) (N : Name) → block_name calls b ≡ Some N → answer_of (length calls) 0 ≡ N → ⊥
          late b N old new =
              let earlier : N.place < length calls = c.holds.blocks.earlier b N old in
              let place : length calls ≡ N.place = ap (λ (M : Name). M.place) new in
              omega (arith, earlier, place)

          one : (b d : ℕ) (N : Name) → (block_name calls b ≡ Some N) ⊎ ((b ≡ length (names_of (ledger_after (script_of calls)).blocks)) × (answer_of (length calls) 0 ≡ N))
              → (block_name calls d ≡ Some N) ⊎ ((d ≡ length (names_of (ledger_after (script_of calls)).blocks)) × (answer_of (length calls) 0 ≡ N)) → b ≡ d
          one b d N (inl first) (inl second) = c.holds.blocks.distinct b d N first second
          one b d N (inl first) (inr second) = absurd (late b N first second.1)
          one b d N (inr first) (inl second) = absurd (late d N second first.1)
          one b d N (inr first) (inr second) = first.0 ∙ sym second.0

          early : (b : ℕ) (N : Name) → (block_name calls b ≡ Some N) ⊎ ((b ≡ length (names_of (ledger_after (script_of calls)).blocks)) × (answer_of (length calls) 0 ≡ N))
              → N.place < length (with_answers CreateBlock numbers)
          early b N (inl old) = let e = c.holds.blocks.earlier b N old in omega (arith, e, more)
          early b N (inr new) = let place : length calls ≡ N.place = ap (λ (M : Name). M.place) new.1 in omega (arith, place, more)

          stay : (N : Name) → ((program_so_far calls).items N ≡ []) ⊎ ((b : ℕ) × (block_name calls b ≡ Some N))
              → ((program_so_far (with_answers CreateBlock numbers)).items N ≡ []) ⊎ ((b : ℕ) × (block_name (with_answers CreateBlock numbers) b ≡ Some N))
          stay N (inl none) = inl (Requests.items_left calls (the_call CreateBlock numbers) (λ program. refl) N ∙ none)
          stay N (inr block) = inr (block.0, kept calls (the_call CreateBlock numbers) refl block.0 N block.1)

          still : (N : Name) → ((program_so_far calls).parameters N ≡ []) ⊎ ((b : ℕ) × (block_name calls b ≡ Some N))
              → ((program_so_far (with_answers CreateBlock numbers)).parameters N ≡ []) ⊎ ((b : ℕ) × (block_name (with_answers CreateBlock numbers) b ≡ Some N))
          still N (inl none) = inl (parameters_stay calls (the_call CreateBlock numbers) tt N ∙ none)
          still N (inr block) = inr (block.0, kept calls (the_call CreateBlock numbers) refl block.0 N block.1)

  -- A CALL WITHOUT AN ITEM ----------------------------------------------------------------------------------------------

  -- A call that makes no block and no item, and answers no value: the construction may go on, and blocks may enter the
  -- layout behind the entry.
  pub carries_on : (call : AnsweredCall) (g : Body) (t : SsaState) → MakesNoBlock call.request → MakesNoParameter call.request → MakesNoInstruction call.request
      → ((N : Name) → (program_so_far (calls ++ call ∷ [])).items N ≡ (program_so_far calls).items N)
      → HasEntry (calls ++ call ∷ []) g
      → ((index : ℕ) → is_value_at (answers_to (ledger_after (script_of calls)) call.request) index ≡ false)
      → KeepsInsts f g → ((b : ℕ) → stands_in b g.layout ≡ false → stands_in b f.layout ≡ false) → SamePredecessors s t
      → ((types : VariableTypes) (own : Own) → Structured types own f s [] → Structured types own g t [])
      → ((entry : ℕ) → entry_of f ≡ Some entry → entry_of g ≡ Some entry) → ((b : ℕ) → is_yes (sealed_of s b) ≡ true → is_yes (sealed_of t b) ≡ true)
      → (sound : EntryIsFree g t → (own : Own) (tables : Blocks) → DescribesSoundly own f s tables → Keeps own tables g t)
      → ((free : EntryIsFree g t) (own : Own) (tables : Blocks) (before : DescribesSoundly own f s tables) → TracksOnPaths calls s tables
      → TracksOnPaths (calls ++ call ∷ []) t (sound free own tables before).tables)
      → Carries (calls ++ call ∷ []) g t
  carries_on call g t no_block no_parameter no_instruction items enters no_value keeps layout leads structured first sealed sound tracks = record {
    own = c.own;
    holds = holds_on calls call (name_stays calls call no_block) c.own c.own f g s t c.holds (λ i below. keeps.placed c.own i below) keeps.more
        layout (λ i. keeps.maps i ∙ c.holds.no_maps i) (none_made (ledger_after (script_of calls)) call.request no_instruction) (λ b. refl)
        (parameters_on calls call (name_stays calls call no_block) c.own c.own f g s t c.holds (λ i below. keeps.placed c.own i below) keeps.more layout no_parameter (λ b. refl)
        (λ b N is. inl (was b N is)))
        (parameters_values_on calls call (name_stays calls call no_block) c.own c.own f g s t c.holds (λ i below. keeps.placed c.own i below) keeps.more layout no_parameter)
        (typed_on calls call f g c.holds.values_typed keeps.types (λ index ty is. absurd (none_new calls call no_value index ty is)))
        (record {
          distinct = λ b d N first second. c.holds.blocks.distinct b d N (was b N first) (was d N second);
          earlier = λ b N is. let e = c.holds.blocks.earlier b N (was b N is) in let l = longer_calls calls call in omega (arith, e, l);
          only = λ N. only N (c.holds.blocks.only N);
          only_parameters = only_parameters calls call (name_stays calls call no_block) c.own c.own f g s t c.holds (λ i below. keeps.placed c.own i below) keeps.more layout no_parameter
              (names_stay calls call no_block);
        })
        (λ b N is. inl (was b N is)) items
        (declared_kept c.own f g s t keeps leads c.holds.own_exist c.holds.declared)
        (leads_kept calls call c.own c.own s t (name_stays calls call no_block) (λ b i h. h) leads c.holds.leads_own)
        (edges_there f g s t keeps leads structured_so_far.leading c.holds.have_edges)
        enters
        (λ types are. structured types c.own (c.holds.structured types (types_before calls call types are)));
    on_paths = λ free.
        let p : SoundOnPaths calls c.own f s = c.on_paths (free_before f g s t first (λ b was. (sealed b was, leads b)) free) in
        let after : Keeps c.own p.tables g t = sound free c.own p.tables (p.describes, p.sound, p.counts) in
        record {
          tables = after.tables;
          program = unchanged calls call p.tables after.tables after.same no_block no_parameter items p.program;
          values_given = values_kept calls call p.tables after.tables after.same no_value p.values_given;
          describes = after.describes;
          sound = after.sound;
          counts = after.counts;
          tracked = tracks free c.own p.tables (p.describes, p.sound, p.counts) p.tracked;
        };
  }
    where
      was : (b : ℕ) (N : Name) → block_name (calls ++ call ∷ []) b ≡ Some N → block_name calls b ≡ Some N
      was b N is = sym (names_stay calls call no_block b) ∙ is

      only : (N : Name) → ((program_so_far calls).items N ≡ []) ⊎ ((b : ℕ) × (block_name calls b ≡ Some N))
          → ((program_so_far (calls ++ call ∷ [])).items N ≡ []) ⊎ ((b : ℕ) × (block_name (calls ++ call ∷ []) b ≡ Some N))
      only N (inl none) = inl (items N ∙ none)
      only N (inr block) = inr (block.0, name_stays calls call no_block block.0 N block.1)

  -- The same where the layout and the entry stay.
  pub carries_kept : (call : AnsweredCall) (g : Body) (t : SsaState) → MakesNoBlock call.request → MakesNoParameter call.request → MakesNoInstruction call.request
      → ((N : Name) → (program_so_far (calls ++ call ∷ [])).items N ≡ (program_so_far calls).items N)
      → (program_so_far (calls ++ call ∷ [])).entry ≡ (program_so_far calls).entry
      → ((index : ℕ) → is_value_at (answers_to (ledger_after (script_of calls)) call.request) index ≡ false)
      → KeepsInsts f g → g.layout ≡ f.layout → SamePredecessors s t
      → ((types : VariableTypes) (own : Own) → Structured types own f s [] → Structured types own g t [])
      → ((b : ℕ) → is_yes (sealed_of s b) ≡ true → is_yes (sealed_of t b) ≡ true)
      → (sound : EntryIsFree g t → (own : Own) (tables : Blocks) → DescribesSoundly own f s tables → Keeps own tables g t)
      → ((free : EntryIsFree g t) (own : Own) (tables : Blocks) (before : DescribesSoundly own f s tables) → TracksOnPaths calls s tables
      → TracksOnPaths (calls ++ call ∷ []) t (sound free own tables before).tables)
      → Carries (calls ++ call ∷ []) g t
  carries_kept call g t no_block no_parameter no_instruction items entry no_value keeps layout leads structured sealed sound tracks =
      carries_on call g t no_block no_parameter no_instruction items
      (entry_stays calls (calls ++ call ∷ []) f g entry (ap (λ (l : List ℕ). slice_get l 0) layout) (name_stays calls call no_block) c.holds.entry)
      no_value keeps (λ b out. ap (stands_in b) (sym layout) ∙ out) leads structured (λ e is. ap (λ (l : List ℕ). slice_get l 0) layout ∙ is) sealed sound tracks

  -- nothing is constructed
  pub still : (own : Own) (tables : Blocks) → DescribesSoundly own f s tables → Keeps own tables f s
  still own tables before = keeps_itself own tables f s before

  -- so a call that names no value and tracks nothing keeps what is tracked
  pub still_tracks : (call : AnsweredCall) → NamesNothing call.request → (own : Own) (tables : Blocks) (before : DescribesSoundly own f s tables)
      → TracksOnPaths calls s tables → TracksOnPaths (calls ++ call ∷ []) s (still own tables before).tables
  unfolding still keeps_itself
  still_tracks call quiet own tables before was = tracks_quiet calls call s s tables was quiet refl (λ v b. refl) tables (same_function tables tables refl)

  -- another block is made current
  pub carries_switched : (block : Name) (numbers : List ℕ) → Carries (with_answers (SwitchToBlock block) numbers) f s
  carries_switched block numbers =
      let call : AnsweredCall = the_call (SwitchToBlock block) numbers in
      carries_kept call f s tt tt tt (Requests.items_switched calls call block refl) (Requests.entry_switched calls call block refl) (λ index. refl)
      (insts_same f f refl refl refl) refl (λ b. refl) (λ types own h. h) (λ b is. is) (λ free. still) (λ free. still_tracks call tt)

  -- a variable is declared
  pub carries_declared : (ty : «Type») (numbers : List ℕ) → Carries (with_answers (DeclareVar ty) numbers) f s
  carries_declared ty numbers =
      let call : AnsweredCall = the_call (DeclareVar ty) numbers in
      carries_kept call f s tt tt tt (Requests.items_left calls call (λ program. refl)) (Requests.entry_left calls call (λ program. refl))
      (one_variable_none (length (ledger_after (script_of calls)).variables))
      (insts_same f f refl refl refl) refl (λ b. refl) (λ types own h. h) (λ b is. is) (λ free. still) (λ free. still_tracks call tt)

  -- stack maps are asked for: only what is tracked changes
  pub carries_needing : (t : SsaState) (need : StackMapNeed) → SameRecords s t → SameBlocks s t → SamePredecessors s t → TracksNeed calls s t need
      → Carries (with_answers (NeedStackMap need) []) f t
  carries_needing t need records same leads asks =
      let call : AnsweredCall = the_call (NeedStackMap need) [] in
      carries_kept call f t tt tt tt (Requests.items_left calls call (λ program. refl)) (Requests.entry_left calls call (λ program. refl)) (λ index. refl)
      (insts_same f f refl refl refl) refl leads (λ types own h. same_structured types own f s t [] records same leads h) (λ b is. ap is_yes (same b) ∙ is)
      (λ free own tables before. record {
        tables = tables;
        describes = same_state own f s t tables records same leads before.0;
        sound = before.1;
        same = same_program tables;
        counts = counts_kept own f s t tables tables before.2 leads (λ v. refl);
        parameters = itself_parameters tables s t before.0.recorded records;
      })
      (λ free own tables before was. tracks_needing calls call s t tables was need refl asks records)

  -- a block is sealed
  pub carries_sealed : (g : Body) (t : SsaState) (block : Name) (numbers : List ℕ) (seals : ℕ → Bool) → IsConsistent f
      → ((b : ℕ) → is_yes (sealed_of t b) ≡ (if seals b then true else is_yes (sealed_of s b)))
      → ((own : Own) (tables : Blocks) → ((b : ℕ) → seals b ≡ true → SparesIfEntry f s b) → DescribesSoundly own f s tables → Keeps own tables g t)
      → ((types : VariableTypes) (own : Own) → Structured types own f s [] → Structured types own g t [])
      → OnlyConstructs f g → g.layout ≡ f.layout → SamePredecessors s t → IsConsistent g → TracksMade (length f.values) s t → RecordsStay s t
      → Carries (with_answers (SealBlock block) numbers) g t
  carries_sealed g t block numbers seals consistent sealed keeps structured constructs layout leads consistent_now made stay =
      let call : AnsweredCall = the_call (SealBlock block) numbers in
      carries_kept call g t tt tt tt (Requests.items_left calls call (λ program. refl)) (Requests.entry_left calls call (λ program. refl)) (λ index. refl)
      (insts_kept f g consistent (goes_on-constructs f g constructs)) layout leads structured (still_sealed s t seals sealed)
      (λ free own tables. keeps own tables (spared_sealed f g s t seals layout leads sealed free))
      (λ free own tables before was.
      let kept : Keeps own tables g t = keeps own tables (spared_sealed f g s t seals layout leads sealed free) before in
      tracks_constructed f g constructs own s t tables before kept calls call consistent_now made stay tt was)

  -- IN THE CURRENT BLOCK, WHICH HAS NO TERMINATOR -----------------------------------------------------------------------

  module _ (consistent : IsConsistent f) (b : ℕ) (B : Name) (current : IsCurrent calls b B) (unfilled : is_filled (ledger_after (script_of calls)) B ≡ false) where
    exist : (d i : ℕ) → Contains (predecessors_of s d) i → i < length f.insts
    exist = structured_so_far.leading

    pub opened : IsOpen f s b
    opened = is_open calls c.own f s c.holds consistent b B current.named unfilled

    pub plain : AllByRecursion HasNoEdges ((program_so_far calls).items B)
    plain = no_edges calls c.own f s c.holds consistent b B current.named unfilled

    -- a value is assigned to a variable
    pub carries_assigned : (t : SsaState) (x : ℕ) (n : Name) (value : ℕ) (ty : «Type») (numbers : List ℕ)
        → number_of calls n ≡ Some value → IsTrue (has_value (ledger_after (script_of calls)) n) → variable_type (ledger_after (script_of calls)) x ≡ Some ty → HasType f value ty
        → Records s t x b value → SameBlocks s t → SamePredecessors s t → t.tracking ≡ with_binding s.tracking x value
        → Carries (with_answers (DefVar x n) numbers) f t
    carries_assigned t x n value ty numbers number is_value of_type typed records same leads tracking =
        let earlier : n.place < length calls = numbered_earlier calls n value number in
        let call : AnsweredCall = the_call (DefVar x n) numbers in
        let puts = Requests.puts_assignment calls call B current.current x n refl in
        let entry = Requests.entry_assigned calls call B current.current x n refl in
        record {
          own = c.own;
          holds = holds_item calls call (name_stays calls call tt) c.own c.own f f s t c.holds (λ i below. refl) (omega arith) (λ d out. out) b B (Assign x n) current.named puts []
              (sym (append-nil (c.own.insts b))) (λ d other. refl) (λ d. refl) (typed_on calls call f f c.holds.values_typed (λ v ty typed. typed) (λ index a is. absurd (none_new calls call (λ k. refl) index a is)))
              (λ out. refl) refl tt (let l = longer_calls calls call in omega (arith, earlier, l))
              refl tt (apart_on calls call (length f.insts) (length f.insts) (none_made (ledger_after (script_of calls)) (DefVar x n) tt) (omega arith) c.holds.instructions) plain c.holds.no_maps
              (declared_kept c.own f f s t (insts_same f f refl refl refl) leads c.holds.own_exist c.holds.declared)
              (leads_kept calls call c.own c.own s t (name_stays calls call tt) (λ d i h. h) leads c.holds.leads_own)
              (edges_there f f s t (insts_same f f refl refl refl) leads exist c.holds.have_edges)
              (entry_stays calls (calls ++ call ∷ []) f f entry refl (name_stays calls call tt) c.holds.entry)
              (λ types are.
              let before : AreTypes calls types = types_before calls call types are in
              assigned_structured types c.own f s t x b value (subst (HasType f value) (sym (before x ty of_type)) typed) records same leads (c.holds.structured types before));
          on_paths = λ free.
              let p : SoundOnPaths calls c.own f s = c.on_paths (free_before f f s t (λ e is. is) (λ d sealed. (ap is_yes (same d) ∙ sealed, leads d)) free) in
              let known = value_answered calls p.tables n p.program p.values_given is_value in
              let written : Records s t x b (p.tables.answer (code n)) = subst (Records s t x b) (sym (known.0 ∙ ap number_or_none number)) records in
              let T : Blocks = with_write (with_item p.tables b) b x (code n) in
              let after : DescribesSoundly c.own f t T = write_item_described c.own f s t p.tables b x (code n) (p.describes, p.sound, p.counts) opened known.2 written same leads in
              let unwritten : (y : ℕ) → p.tables.assigned (inside b (suc (p.tables.count b))) y ≡ None = λ y. p.describes.unwritten b (suc (p.tables.count b)) y (omega arith) in
              let adds = adds_assignment calls call p.tables b B current.named unwritten x n puts known.1 in
              record {
                tables = T;
                program = extended calls (calls ++ call ∷ []) p.tables T b B (Assign x n) adds p.program;
                values_given = values_added calls call p.tables T b B (Assign x n) adds (λ index is. absurd (false_is is)) p.values_given;
                describes = after.0;
                sound = after.1;
                counts = after.2;
                tracked = tracks_assigned calls call s t p.tables p.tracked x b n value refl is_value (ap number_or_none number) tracking records T (same_function p.tables T refl);
              };
        }

    -- a variable is used
    pub carries_used : (g : Body) (t : SsaState) (x v : ℕ) (ty : «Type») → variable_type (ledger_after (script_of calls)) x ≡ Some ty
        → ((own : Own) (tables : Blocks) → DescribesSoundly own (inserted_in f b) s tables → KeepsAndKnows own tables g t b x v)
        → ((types : VariableTypes) (own : Own) → types x ≡ ty → Structured types own (inserted_in f b) s [] → Structured types own g t [])
        → OnlyConstructs (inserted_in f b) g → g.layout ≡ (inserted_in f b).layout → SamePredecessors s t → SealedStays s t → HasType g v ty
        → IsConsistent g → TracksMade (length (inserted_in f b).values) s t → RecordsStay s t
        → Carries (with_answers (UseVar x) (v ∷ [])) g t
    carries_used g t x v ty of_type sound structured constructs layout leads flags has_type consistent_now made stay =
        let call : AnsweredCall = the_call (UseVar x) (v ∷ []) in
        let name : Name = answer_of (length calls) 0 in
        let h : Body = inserted_in f b in
        let puts = Requests.puts_use calls call B current.current x refl in
        let entry = Requests.entry_used calls call B current.current x refl in
        let keeps : KeepsInsts f g = insts_kept f g consistent (goes_on-constructs f g (constructs_then f h g (inserted_constructs f b) constructs)) in
        record {
          own = c.own;
          holds = holds_item calls call (name_stays calls call tt) c.own c.own f g s t c.holds (λ i below. keeps.placed c.own i below) keeps.more
              (λ d out. out_before f b d (ap (stands_in d) (sym layout) ∙ out)) b B (Use x name) current.named puts []
              (sym (append-nil (c.own.insts b))) (λ d other. refl) (λ d. refl) (typed_on calls call f g c.holds.values_typed keeps.types used_typed)
              (λ out. refl) refl tt (let l = longer_calls calls call in omega (arith, l))
              refl tt (apart_on calls call (length f.insts) (length g.insts) (none_made (ledger_after (script_of calls)) (UseVar x) tt) keeps.more c.holds.instructions) plain (λ i. keeps.maps i ∙ c.holds.no_maps i)
              (declared_kept c.own f g s t keeps leads c.holds.own_exist c.holds.declared)
              (leads_kept calls call c.own c.own s t (name_stays calls call tt) (λ d i here. here) leads c.holds.leads_own)
              (edges_there f g s t keeps leads exist c.holds.have_edges)
              (entry_begun calls (calls ++ call ∷ []) f g b B entry layout current.named (name_stays calls call tt) c.holds.entry)
              (λ types are.
              let before : AreTypes calls types = types_before calls call types are in
              structured types c.own (before x ty of_type) (inserted_structured types c.own f s b (c.holds.structured types before)));
          on_paths = λ free.
              let first : (e : ℕ) → entry_of f ≡ Some e → entry_of g ≡ Some e = λ e is. ap (λ (l : List ℕ). slice_get l 0) layout ∙ entry_inserted f b e is in
              let p : SoundOnPaths calls c.own f s = c.on_paths (free_before f g s t first (λ d sealed. (flags d ∙ sealed, leads d)) free) in
              let E : Blocks = with_entry f.layout s b p.tables in
              let after : KeepsAndKnows c.own E g t b x v = sound c.own E (inserted_soundly c.own f s p.tables b (p.describes, p.sound, p.counts)) in
              let T : Blocks = after.kept.tables in
              let same : SameProgram p.tables T = same_program_then p.tables E T (entry_same f.layout s b p.tables).program after.kept.same in
              let was = restated calls p.tables T same p.program in
              let T' : Blocks = with_read (with_item T b) b (code name) x v in
              let read : DescribesSoundly c.own g t T' =
              read_item_described c.own g t T b (code name) x v (after.kept.describes, after.kept.sound, after.kept.counts) (open_kept f g s t b keeps leads exist opened) (next_is_new calls T 0 was) after.known has_type.0 in
              let unwritten : (y : ℕ) → T.assigned (inside b (suc (T.count b))) y ≡ None = λ y. after.kept.describes.unwritten b (suc (T.count b)) y (omega arith) in
              let adds = adds_use calls call T b B current.named unwritten x v puts refl in
              record {
                tables = T';
                program = extended calls (calls ++ call ∷ []) T T' b B (Use x name) adds was;
                values_given = values_added calls call T T' b B (Use x name) adds
                    (λ index is. first_value (length calls) (or_invalid (variable_type (ledger_after (script_of calls)) x)) index is)
                    (values_same calls p.tables T same p.values_given);
                describes = read.0;
                sound = read.1;
                counts = read.2;
                tracked = tracks_same (calls ++ call ∷ []) t T T' (same_function T T' refl)
                    (tracks_constructed h g constructs c.own s t E (inserted_soundly c.own f s p.tables b (p.describes, p.sound, p.counts)) after.kept calls call consistent_now made stay tt
                    (tracks_same calls s p.tables E (entry_same_function f.layout s b p.tables) p.tracked));
              };
        }
      where
        used : AnsweredCall
        used = the_call (UseVar x) (v ∷ [])

        number : answered (calls ++ used ∷ []) (answer_of (length calls) 0) ≡ v
        number = sym (number_of_answer calls used 0 v refl)

        some_is : (a e : «Type») → Some a ≡ Some e → a ≡ e
        some_is a e same = cc

        used_typed : (index : ℕ) (a : «Type») → value_answer_type (slice_get (answers_to (ledger_after (script_of calls)) (UseVar x)) index) ≡ Some a
            → HasType g (answered (calls ++ used ∷ []) (answer_of (length calls) index)) a
        used_typed zero a is =
            let same : ty ≡ a = sym (ap or_invalid of_type) ∙ some_is (or_invalid (variable_type (ledger_after (script_of calls)) x)) a is in
            subst (λ (w : ℕ). HasType g w a) (sym number) (subst (HasType g v) same has_type)
        used_typed (suc index) a is = cc
