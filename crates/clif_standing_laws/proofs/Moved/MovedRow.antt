-- The function of the worked example is consistent, carries its calls, and is finished; where the parameter isn't recorded it carries
-- others.
use Rattle.std.proofs.Common.{rules, ◌≡◌, ◌⊎◌, inl, inr, sym, ◌∙◌, ap, ℕ, zero, suc, ◌+◌, ◌<◌, ◌==◌, true, false, List, [], ◌∷◌, ◌++◌, slice_get, Some, None, refl, arith}
use Rattle.std.specs.Prelude.{All, if◌then◌else◌, slice_index}
use Rattle.std.specs.FinMap as map
use Rattle.std.proofs.lemmas.Bool.Decides.{nat_tests}
use Rattle.std.proofs.lemmas.Grind.{common_steps}
use Rattle.clif_types.specs.EntitySet.{has}
use Rattle.clif_types.specs.declared.extname.UserFuncName.TheVariants.{Testcase}
use Rattle.clif_instructions.specs.Instruction.{AFunctionRef}
use Rattle.clif_instructions.specs.declared.insert_at.InsertAt.TheVariants.{Back}
use Rattle.clif_instructions.specs.declared.instructions.InstructionData.TheVariants as shape
use Rattle.clif_tables.specs.Entries.{AFunction, ASignature}
use Rattle.clif_tables.specs.Lists.{TableLists, no_entries}
use Rattle.clif_nodes.specs.Nodes.{result_nodes}
use Rattle.clif_ir.specs.Body.{Body, empty_body}
use Rattle.clif_ir.specs.Changes.{inserted_in, with_block}
use Rattle.clif_ir.specs.Consistent.{EntryExists, IsConsistent}
use Rattle.clif_ir.proofs.KeepsBlock.{with_block_consistent}
use Rattle.clif_ir.proofs.KeepsInst.{with_inst_consistent}
use Rattle.clif_ir.proofs.KeepsParam.{with_param_consistent}
use Rattle.clif_ir.proofs.KeepsPlaces.{with_order_consistent}
use Rattle.clif_ir.proofs.Linking.{empty_consistent}
use Rattle.clif_records.specs.Tables.{Yes, is_yes, pending_of}
use Rattle.clif_records.specs.Tracking.{marked_of, sets}
use Rattle.clif_records.proofs.RecordMaps.{record_at-empty, record_at-insert}
use Rattle.clif_ssa.specs.Sound.{EntryIsFree, entry_of}
use Rattle.clif_ssa.specs.Ssa.{Records, SamePredecessors, Seals, SsaState, no_state, predecessors_of, sealed_of}
use Rattle.clif_ssa.specs.Tracked.{TracksMade}
use Rattle.clif_ssa.proofs.Constructing.{constructs_none}
use Rattle.clif_ssa.proofs.Housing.{housed_from}
use Rattle.clif_ssa.proofs.Locally.{seals_locally}
use Rattle.clif_ssa.proofs.Public.{known_use}
use Rattle.clif_ssa.proofs.StructuredUses.{sealed_structured}
use Rattle.clif_ssa.proofs.Tracks.{tracks_none, tracks_same}
use Rattle.clif_meaning.specs.BranchExamples.{block}
use Rattle.clif_meaning.specs.CallExamples.{i64}
use Rattle.clif_meaning.specs.Examples.{i32, invalid}
use Rattle.clif_meaning.specs.Instruction.{Instruction, Return}
use Rattle.clif_meaning.specs.Ledger.{is_marked, ledger_after}
use Rattle.clif_meaning.specs.Name.{Name}
use Rattle.clif_meaning.specs.Request.{AnsweredCall, AppendFunctionParams, Build, CreateBlock, DeclareVar, DefVar, GivenEntry, Imported, MakeEntry, NeedStackMap, OfValue, OfVariable, Request, SealBlock, SwitchToBlock, UseVar, script_of}
use Rattle.clif_simulation.specs.CallCarryingExamples.{call_instruction, callee_signature, with_callee}
use Rattle.clif_simulation.specs.Carries.{Carries, IsCurrent, SoundOnPaths, with_params}
use Rattle.clif_simulation.specs.Laws.{IsFinished}
use Rattle.clif_simulation.specs.Tables.{answered, block_name}
use Rattle.clif_simulation.proofs.Beginning.{carries_nothing}
use Rattle.clif_simulation.proofs.Building.{carries_plain}
use Rattle.clif_simulation.proofs.Calls.{carries_assigned, carries_created, carries_declared, carries_needing, carries_sealed, carries_switched, carries_used, structured_so_far}
use Rattle.clif_simulation.proofs.FreeEntry.{free_first}
use Rattle.clif_simulation.proofs.Further.{carries_tables}
use Rattle.clif_simulation.proofs.ParameterCalls.{carries_params}
use Rattle.clif_simulation.proofs.Values.{false_is}
use Rattle.clif_builder.specs.Recorded.{RecordsExactly, WasMadeForMarked}
use Rattle.clif_builder.proofs.BlockValues.{parameters_front}
use Rattle.clif_builder.proofs.Exactly.{exactly_assigned, exactly_needing, exactly_quiet, nothing_recorded}
use Rattle.clif_simulation.proofs.Listed.{all_at}
use Rattle.clif_simulation.specs.Tracks.{IsAskedFor}
use Rattle.clif_meaning.specs.Acceptance.{return_}
use Rattle.std.specs.List.{AllByRecursion}
use Rattle.clif_standing_laws.specs.MovingExamples.{moved_block, moved_body, moved_called, moved_calls, moved_signature, moved_state, moved_state_with, the_callee, the_parameter, the_use}

-- Consistent --------------------------------------------------------------------------------------------------------------

-- the function with these tables, without blocks, and with the block and its parameter
abbrev empty_with : TableLists → Body
empty_with tables = record (empty_body (Testcase (99 ∷ [])) moved_signature) { tables = tables }

abbrev block_with : TableLists → Body
block_with tables = with_params (with_block (empty_with tables)) 0 (i64 ∷ [])

created_is_consistent : (tables : TableLists) → IsConsistent (empty_with tables) → IsConsistent (with_block (empty_with tables))
created_is_consistent tables empty = with_block_consistent (empty_with tables) empty (omega arith)

with_parameter_is_consistent : (tables : TableLists) → IsConsistent (empty_with tables) → IsConsistent (block_with tables)
with_parameter_is_consistent tables empty =
    with_param_consistent (with_block (empty_with tables)) 0 i64 (created_is_consistent tables empty) (omega arith) (omega arith)

-- with the callee's signature, and then with the callee too
abbrev with_callee_signature : TableLists
with_callee_signature = record no_entries { signatures = callee_signature ∷ [] }

unimported_is_consistent : IsConsistent (empty_with no_entries)
unimported_is_consistent = empty_consistent (Testcase (99 ∷ [])) moved_signature

half_imported_is_consistent : IsConsistent (empty_with with_callee_signature)
half_imported_is_consistent = first_of (search rules, grind (arith, common_steps))

imported_is_consistent : IsConsistent (empty_with with_callee)
imported_is_consistent = first_of (search rules, grind (arith, common_steps))

block_is_consistent : IsConsistent moved_block
block_is_consistent = with_parameter_is_consistent with_callee imported_is_consistent

inserted_is_consistent : IsConsistent (inserted_in moved_block 0)
inserted_is_consistent =
    with_order_consistent moved_block (0 ∷ []) block_is_consistent within (λ j k earlier below. absurd (omega (arith, earlier, below)))
  where
    within : (k : ℕ) → k < 1 → slice_index (0 ∷ []) k < 1
    within zero below = omega arith
    within (suc k) below = absurd (omega (arith, below))

pub called_is_consistent : IsConsistent moved_called
called_is_consistent =
    with_inst_consistent (inserted_in moved_block 0) 0 Back (shape.Call 0 []) (i32 ∷ []) 0 inserted_is_consistent (omega arith) tt
    (λ k below. absurd (omega (arith, below))) (λ k d within. absurd (omega (arith, within))) (λ k d within. absurd (omega (arith, within)))
    entries (λ leads. absurd (leads refl)) (omega arith) (omega arith)
  where
    entries : All (EntryExists moved_block.tables) (AFunctionRef 0 ∷ [])
    entries zero d within = omega arith
    entries (suc k) d within = absurd (omega (arith, within))

pub consistent : IsConsistent moved_body
consistent =
    with_inst_consistent moved_called 0 Back (shape.MultiAry (0 ∷ [])) [] 0 called_is_consistent (omega arith) tt
    operand_exists (λ k d within. absurd (omega (arith, within))) (λ k d within. absurd (omega (arith, within)))
    (λ k d within. absurd (omega (arith, within))) (λ leads. absurd (leads refl)) (omega arith) (omega arith)
  where
    operand_exists : (k : ℕ) → k < 1 → slice_index (0 ∷ []) k < 2
    operand_exists zero below = omega arith
    operand_exists (suc k) below = absurd (omega (arith, below))

-- Carried: the block ------------------------------------------------------------------------------------------------------

abbrev one_call : List AnsweredCall
one_call = record { request = CreateBlock; numbers = 0 ∷ [] } ∷ []

abbrev parameter_call : AnsweredCall
parameter_call = record { request = AppendFunctionParams (block 0) (i64 ∷ []); numbers = 0 ∷ [] }

abbrev two_calls : List AnsweredCall
two_calls = one_call ++ parameter_call ∷ []

abbrev three_calls : List AnsweredCall
three_calls = two_calls ++ record { request = DeclareVar i64; numbers = 0 ∷ [] } ∷ []

abbrev four_calls : List AnsweredCall
four_calls = three_calls ++ record { request = NeedStackMap (OfVariable 0); numbers = [] } ∷ []

abbrev five_calls : List AnsweredCall
five_calls = four_calls ++ record { request = MakeEntry (ASignature callee_signature); numbers = 0 ∷ [] } ∷ []

abbrev six_calls : List AnsweredCall
six_calls = five_calls ++ record { request = MakeEntry (AFunction the_callee); numbers = 0 ∷ [] } ∷ []

abbrev seven_calls : List AnsweredCall
seven_calls = six_calls ++ record { request = SwitchToBlock (block 0); numbers = [] } ∷ []

abbrev eight_calls : List AnsweredCall
eight_calls = seven_calls ++ record { request = SealBlock (block 0); numbers = [] } ∷ []

abbrev nine_calls : List AnsweredCall
nine_calls = eight_calls ++ record { request = DefVar 0 the_parameter; numbers = [] } ∷ []

abbrev import : List GivenEntry
import = Imported (AFunctionRef 0) ∷ []

abbrev ten_calls : List AnsweredCall
ten_calls = nine_calls ++ record { request = Build import call_instruction; numbers = 0 ∷ 1 ∷ [] } ∷ []

abbrev eleven_calls : List AnsweredCall
eleven_calls = ten_calls ++ record { request = UseVar 0; numbers = 0 ∷ [] } ∷ []

created : Carries one_call (with_block (empty_with no_entries)) no_state
created =
    carries_created [] (empty_with no_entries) no_state (carries_nothing (Testcase (99 ∷ [])) moved_signature) no_state (0 ∷ []) refl
    (λ x b. refl) (λ b. refl) (λ b. refl) refl

with_parameter : Carries two_calls (block_with no_entries) no_state
with_parameter =
    carries_params one_call (with_block (empty_with no_entries)) no_state created (created_is_consistent no_entries unimported_is_consistent)
    0 (block 0) refl (omega arith) refl (i64 ∷ []) parameter_call (inr refl) refl

declared : Carries three_calls (block_with no_entries) no_state
declared = carries_declared two_calls (block_with no_entries) no_state with_parameter i64 (0 ∷ [])

-- the variable is marked
abbrev marked_state : SsaState
marked_state = record no_state { tracking = sets (0 ∷ []) [] }

marked : Carries four_calls (block_with no_entries) marked_state
marked =
    carries_needing three_calls (block_with no_entries) no_state declared marked_state (OfVariable 0) (λ x b. refl) (λ b. refl) (λ b. refl)
    (record_at-empty 0, refl)

-- an empty table has no entry
none : {X : Type 0} (k : ℕ) (x : X) → slice_get [] k ≡ Some x → ⊥
none zero x here = cc
none (suc k) x here = cc

signature_imported : Carries five_calls (block_with with_callee_signature) marked_state
signature_imported =
    carries_tables four_calls (block_with no_entries) marked_state marked (ASignature callee_signature) 0 with_callee_signature
    (with_parameter_is_consistent no_entries unimported_is_consistent)
    (record {
      constants = λ k bytes here. here;
      signatures = λ k signature here. absurd (none k signature here);
      functions = λ k function here. absurd (none k function here);
      maps = λ inst. refl;
    })

imported : Carries six_calls moved_block marked_state
imported =
    carries_tables five_calls (block_with with_callee_signature) marked_state signature_imported (AFunction the_callee) 0 with_callee
    (with_parameter_is_consistent with_callee_signature half_imported_is_consistent)
    (record {
      constants = λ k bytes here. here;
      signatures = λ k signature here. here;
      functions = λ k function here. absurd (none k function here);
      maps = λ inst. refl;
    })

switched : Carries seven_calls moved_block marked_state
switched = carries_switched six_calls moved_block marked_state imported (block 0) []

-- The block is sealed -----------------------------------------------------------------------------------------------------

abbrev sealed_state : SsaState
sealed_state = record marked_state { blocks = record { predecessors = []; sealed = Yes } ∷ [] }

later : (b : ℕ) → (suc b == 0) ≡ false
later b = grind (arith, nat_tests)

seals : Seals marked_state sealed_state 0
seals zero = refl
seals (suc b) = rw (later b) refl

sealed_now : (b : ℕ) → is_yes (sealed_of sealed_state b) ≡ (if b == 0 then true else is_yes (sealed_of marked_state b))
sealed_now zero = refl
sealed_now (suc b) = rw (later b) refl

same_leads : SamePredecessors marked_state sealed_state
same_leads zero = refl
same_leads (suc b) = refl

sealed : Carries eight_calls moved_block sealed_state
sealed =
    carries_sealed seven_calls moved_block marked_state switched moved_block sealed_state (block 0) [] (λ b. b == 0) block_is_consistent sealed_now
    (λ own tables spares before.
    seals_locally own moved_block marked_state sealed_state tables 0 block_is_consistent before refl (λ x b. refl) seals same_leads)
    (λ types own before.
    (sealed_structured types own moved_block marked_state sealed_state 0 (housed_from moved_block block_is_consistent) (λ x b. refl) seals
    same_leads before).0)
    (constructs_none moved_block) refl same_leads block_is_consistent tracks (λ x b value is. is)
  where
    tracks : TracksMade 1 marked_state sealed_state
    tracks =
        tracks_same 1 marked_state marked_state sealed_state (λ x b. refl) refl
        (tracks_none 1 marked_state (λ x b v is. ((structured_so_far seven_calls moved_block marked_state switched).recorded x b v is).0))

-- The variable is assigned and used ---------------------------------------------------------------------------------------

pub records : Records sealed_state moved_state 0 0 0
records = record_at-insert map.empty 0 0 (record { value = Some 0; lookups = 0 })

current : IsCurrent eight_calls 0 (block 0)
current = record { current = refl; named = refl }

assigned : Carries nine_calls moved_block moved_state
assigned =
    carries_assigned eight_calls moved_block sealed_state sealed block_is_consistent 0 (block 0) current refl
    moved_state 0 the_parameter 0 i64 [] refl refl refl (omega arith, refl) records (λ b. refl) (λ b. refl) refl

called : Carries ten_calls moved_called moved_state
called =
    carries_plain nine_calls moved_block moved_state assigned block_is_consistent
    0 (block 0) (record { current = refl; named = refl }) refl (omega arith)
    (shape.Call 0 []) import call_instruction 0 (0 ∷ 1 ∷ [])
    (record { operation = refl; arguments = refl; no_edges = refl; edges = refl; contexts_same = refl; values = tt; contexts_earlier = tt })
    (i32 ∷ []) refl refl numbered refl
  where
    numbered : (k : ℕ) → k < 1 → slice_get (0 ∷ 1 ∷ []) (suc k) ≡ Some (1 + k)
    numbered zero below = refl
    numbered (suc k) below = absurd (omega (arith, below))

-- it is on record in the block, and nothing is constructed
pub used : Carries eleven_calls moved_called moved_state
used =
    carries_used ten_calls moved_called moved_state called called_is_consistent 0 (block 0) (record { current = refl; named = refl }) refl
    moved_called moved_state 0 0 i64 refl
    (λ own tables before. known_use own moved_called moved_state tables 0 0 0 before (records 0 0))
    (λ types own same before. before)
    (constructs_none moved_called) refl (λ b. refl) (λ b. refl) (omega arith, refl) called_is_consistent
    (tracks_none 2 moved_state (λ x b v is. ((structured_so_far ten_calls moved_called moved_state called).recorded x b v is).0)) (λ x b value is. is)

abbrev the_return : Instruction Name Name
the_return = record { operation = Return; controlling = invalid; operands = the_use ∷ []; contexts = []; edges = [] }

pub carried : Carries moved_calls moved_body moved_state
carried =
    carries_plain eleven_calls moved_called moved_state used called_is_consistent
    0 (block 0) (record { current = refl; named = refl }) refl (omega arith)
    (shape.MultiAry (0 ∷ [])) [] the_return 0 (1 ∷ [])
    (record { operation = refl; arguments = refl; no_edges = refl; edges = refl; contexts_same = refl; values = (refl, tt); contexts_earlier = tt })
    [] refl refl (λ k below. absurd (omega (arith, below))) refl

-- Finished ----------------------------------------------------------------------------------------------------------------

pub finished : IsFinished moved_calls moved_body moved_state
finished = record { none_waits = none_waits; entry_sealed = entry_sealed; filled_sealed = λ b name named filled. named_sealed b name named }
  where
    none_waits : (b : ℕ) → pending_of (sealed_of moved_state b) ≡ []
    none_waits zero = refl
    none_waits (suc b) = refl

    entry_sealed : (entry : ℕ) → entry_of moved_body ≡ Some entry → is_yes (sealed_of moved_state entry) ≡ true
    entry_sealed zero is = refl
    entry_sealed (suc entry) is = cc

    none_is : (name : Name) → None ≡ Some name → ⊥
    none_is name is = cc

    named_sealed : (b : ℕ) (name : Name) → block_name moved_calls b ≡ Some name → is_yes (sealed_of moved_state b) ≡ true
    named_sealed zero name named = refl
    named_sealed (suc b) name named = absurd (none_is name named)

-- Marks -------------------------------------------------------------------------------------------------------------------

pub marks : (x : ℕ) → is_marked (ledger_after (script_of moved_calls)) x ≡ has (marked_of moved_state.tracking) x
marks zero = refl
marks (suc x) = rw (other x) refl
  where
    other : (x : ℕ) → (0 == suc x) ≡ false
    other x = grind (arith, nat_tests)

-- Where the parameter isn't recorded --------------------------------------------------------------------------------------

-- no branch leads to the entry
free : (s : SsaState) → predecessors_of s 0 ≡ [] → EntryIsFree moved_body s
free s none = free_first moved_body s refl none

pub unrecorded : Carries moved_calls moved_body (moved_state_with (sets (0 ∷ []) [])) → ⊥
unrecorded carries =
    let s : SsaState = moved_state_with (sets (0 ∷ []) []) in
    let p : SoundOnPaths moved_calls carries.own moved_body s = carries.on_paths (free s refl) in
    false_is (p.tracked.asked 0 (record { name = the_parameter; answers = refl; how = inr (0, (8, refl), refl) }))

-- Exactly what is recorded --------------------------------------------------------------------------------------------------

one_exactly : RecordsExactly one_call [] no_state
one_exactly = exactly_quiet [] (record { request = CreateBlock; numbers = 0 ∷ [] }) [] no_state nothing_recorded [] no_state tt (λ v is. is) (λ x b. refl) refl

two_exactly : RecordsExactly two_calls moved_block.values no_state
two_exactly = exactly_quiet one_call parameter_call [] no_state one_exactly moved_block.values no_state tt (parameters_front [] moved_block.values) (λ x b. refl) refl

three_exactly : RecordsExactly three_calls moved_block.values no_state
three_exactly =
    exactly_quiet two_calls (record { request = DeclareVar i64; numbers = 0 ∷ [] }) moved_block.values no_state two_exactly moved_block.values no_state tt (λ v is. is)
    (λ x b. refl) refl

four_exactly : RecordsExactly four_calls moved_block.values marked_state
four_exactly =
    exactly_needing three_calls (record { request = NeedStackMap (OfVariable 0); numbers = [] }) moved_block.values no_state three_exactly marked_state (OfVariable 0) refl
    (record_at-empty 0, refl) (λ x b. refl)

five_exactly : RecordsExactly five_calls moved_block.values marked_state
five_exactly =
    exactly_quiet four_calls (record { request = MakeEntry (ASignature callee_signature); numbers = 0 ∷ [] }) moved_block.values marked_state four_exactly
    moved_block.values marked_state tt (λ v is. is) (λ x b. refl) refl

six_exactly : RecordsExactly six_calls moved_block.values marked_state
six_exactly =
    exactly_quiet five_calls (record { request = MakeEntry (AFunction the_callee); numbers = 0 ∷ [] }) moved_block.values marked_state five_exactly
    moved_block.values marked_state tt (λ v is. is) (λ x b. refl) refl

seven_exactly : RecordsExactly seven_calls moved_block.values marked_state
seven_exactly =
    exactly_quiet six_calls (record { request = SwitchToBlock (block 0); numbers = [] }) moved_block.values marked_state six_exactly
    moved_block.values marked_state tt (λ v is. is) (λ x b. refl) refl

eight_exactly : RecordsExactly eight_calls moved_block.values sealed_state
eight_exactly =
    exactly_quiet seven_calls (record { request = SealBlock (block 0); numbers = [] }) moved_block.values marked_state seven_exactly
    moved_block.values sealed_state tt (λ v is. is) (λ x b. refl) refl

nine_exactly : RecordsExactly nine_calls moved_block.values moved_state
nine_exactly =
    exactly_assigned eight_calls (record { request = DefVar 0 the_parameter; numbers = [] }) moved_block.values sealed_state eight_exactly
    moved_state 0 0 the_parameter 0 refl refl refl refl records

ten_exactly : RecordsExactly ten_calls moved_called.values moved_state
ten_exactly =
    exactly_quiet nine_calls (record { request = Build import call_instruction; numbers = 0 ∷ 1 ∷ [] }) moved_block.values moved_state nine_exactly
    moved_called.values moved_state tt (parameters_front moved_block.values (result_nodes 0 0 (i32 ∷ []))) (λ x b. refl) refl

eleven_exactly : RecordsExactly eleven_calls moved_called.values moved_state
eleven_exactly =
    exactly_quiet ten_calls (record { request = UseVar 0; numbers = 0 ∷ [] }) moved_called.values moved_state ten_exactly
    moved_called.values moved_state tt (λ v is. is) (λ x b. refl) refl

pub exactly : RecordsExactly moved_calls moved_body.values moved_state
exactly =
    exactly_quiet eleven_calls (record { request = return_ (the_use ∷ []); numbers = 1 ∷ [] }) moved_called.values moved_state eleven_exactly
    moved_body.values moved_state tt (parameters_front moved_called.values []) (λ x b. refl) refl

-- a set without the parameter
pub no_less : RecordsExactly moved_calls moved_body.values (moved_state_with (sets (0 ∷ []) [])) → ⊥
no_less wrong = false_is ((wrong.recorded 0).1 (inl (record { name = the_parameter; answers = refl; how = inr (0, (8, refl), refl) })))

-- no request asks for stack maps for a value, and the parameter alone is assigned
abbrev NamesParameter : Request → Type 0
NamesParameter (DefVar variable name) = name ≡ the_parameter
NamesParameter (NeedStackMap (OfValue name)) = ⊥
NamesParameter _ = Unit {0}

names_parameter : AllByRecursion NamesParameter (script_of moved_calls)
names_parameter = (tt, (tt, (tt, (tt, (tt, (tt, (tt, (tt, (refl, (tt, (tt, (tt, tt))))))))))))

-- and one with what the call returned, which is no parameter
pub no_more : RecordsExactly moved_calls moved_body.values (moved_state_with (sets (0 ∷ []) (0 ∷ 1 ∷ []))) → ⊥
no_more wrong = by ((wrong.recorded 1).0 refl)
  where
    other : (name : Name) → name ≡ the_parameter → answered moved_calls name ≡ 1 → ⊥
    other name same is = let one : 0 ≡ 1 = sym (ap (answered moved_calls) same) ∙ is in omega (arith, one)

    by : IsAskedFor moved_calls (moved_state_with (sets (0 ∷ []) (0 ∷ 1 ∷ []))) 1
        ⊎ WasMadeForMarked wrong.made_for (moved_state_with (sets (0 ∷ []) (0 ∷ 1 ∷ []))) 1 → ⊥
    by (inr made) = (wrong.stands 1 made.0 made.1).is_parameter
    by (inl asked) =
        elim asked.how [
          | inl need ↦ all_at NamesParameter (script_of moved_calls) need.0 (NeedStackMap (OfValue asked.name)) names_parameter need.1
          | inr assigned ↦
              other asked.name (all_at NamesParameter (script_of moved_calls) assigned.1.0 (DefVar assigned.0 asked.name) names_parameter assigned.1.1) asked.answers
        ]
