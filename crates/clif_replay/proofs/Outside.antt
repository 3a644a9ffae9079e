-- An outside call, by numbers: when it may be made, and what it is.
use Rattle.std.proofs.Common.{◌≡◌, ℕ, ◌<◌, List, [], ◌∷◌, ◌++◌, length, refl, ap, sym, ◌∙◌, subst, arith}
use Rattle.std.specs.Prelude.{◌↔◌, IsTrue, map, Some, Bool, true, false, ◌&&◌, Ok, slice_index}
use Rattle.std.specs.List.{All, list_all}
use Rattle.std.proofs.lemmas.Bool.{and_parts}
use Rattle.clif_types.specs.declared.types.«Type».TheVariants.{Invalid}
use Rattle.clif_types.specs.Signature.{SignatureShape}
use Rattle.clif_instructions.specs.declared.instructions.InstructionData.{InstructionData}
use Rattle.clif_instructions.specs.Instruction.{AFunctionRef, ASignatureRef, contexts, destinations, entries_of, operands}
use Rattle.clif_ir.specs.Body.{Body, inst_at}
use Rattle.clif_ir.specs.Changes.{HasNoRoom}
use Rattle.clif_ir.specs.Consistent.{EntryExists, ValueExists}
use Rattle.clif_tables.specs.Callees.{count_of_results}
use Rattle.clif_tables.specs.Lists.{TableLists}
use Rattle.clif_meaning.specs.Acceptance.{allows, has_entry}
use Rattle.clif_meaning.specs.Ledger.{Ledger, answers_to}
use Rattle.clif_meaning.specs.Request.{AnsweredCall, Request}
use Rattle.clif_builder.specs.declared.builder.FunctionBuilder.{FunctionBuilder}
use Rattle.clif_builder.specs.Builder.{CanLead}
use Rattle.clif_builder.specs.Built.{Builds, numbers_of}
use Rattle.clif_builder.specs.Ledger.{HasShape, ledger_of}
use Rattle.clif_builder.specs.StandsFor.{StandsFor}
use Rattle.clif_builder.specs.LedgerLaws.{AsksForShape, RequestsAskForTheirShapes}
use Rattle.clif_calls.specs.Outside.{operands_of}
use Rattle.clif_calls.specs.declared.outside.OutsideCall.{OutsideCall}
use Rattle.clif_calls.specs.declared.outside.OutsideCall.TheVariants as outside
use Rattle.clif_resolution.specs.declared.answers.Answer.{Answer}
use Rattle.clif_resolution.specs.declared.answers.Answer.TheVariants as answer
use Rattle.clif_replay.specs.Limits.{returns_in}
use Rattle.clif_resolution.specs.Callings.{IsOutsideShape, can_call, is_imported, outside_shape}
use Rattle.clif_replay.specs.Ready.{AnswerIs, IsReady, IsReadyAfter}
use Rattle.clif_resolution.specs.Answers.{all_values, value_of}
use Rattle.clif_resolution.specs.Conditions.{is_open}
use Rattle.clif_resolution.specs.Entries.{Functions, Numbers, Signatures, numbers_at}
use Rattle.clif_replay.specs.Requests.{Naming, outside_request}
use Rattle.clif_replay.proofs.Conditions.{all-exist, all-named, open-same, values-same}
use Rattle.clif_replay.proofs.Lasting.{LeavesTables}
use Rattle.clif_resolution.proofs.Planning.{all-entries-exist, entries-tested}
use Rattle.clif_replay.proofs.ReadyLaws.{ready-more, value-found}

-- the parts of its condition, in the order in which they are tested
in-order : (there opens values : Bool) → ((((((there && true) && opens) && values) && true) && true) && true) ≡ ((opens && values) && (there && true))
in-order true true true = refl
in-order true true false = refl
in-order true false values = refl
in-order false true true = refl
in-order false true false = refl
in-order false false values = refl

-- it is allowed where it may be made
pub outside-same : {R : Type 0} {naming : Naming} {declared : SignatureShape} (calls : List AnsweredCall) (b : FunctionBuilder R) (answers : List Answer) → IsReady naming declared calls b answers
    → (called : OutsideCall) → allows (ledger_of calls) (outside_request (numbers_at b.func.now answers) naming (ledger_of calls) called)
    ≡ can_call b answers called
outside-same calls b answers ready (outside.Call function args) =
    let values = values-same calls b answers ready args.items in
    let opens = open-same calls b answers ready in
    let tables = ready.stands.ledger.tables in
    rw (values, opens, tables) (in-order (has_entry b.func.now.tables (AFunctionRef (numbers_at b.func.now answers Functions function))) (is_open b) (all_values b.func.now answers args.items))
outside-same calls b answers ready (outside.CallIndirect signature callee args) =
    let values = values-same calls b answers ready (callee ∷ args.items) in
    let opens = open-same calls b answers ready in
    let tables = ready.stands.ledger.tables in
    rw (values, opens, tables) (in-order (has_entry b.func.now.tables (ASignatureRef (numbers_at b.func.now answers Signatures signature))) (is_open b) (all_values b.func.now answers (callee ∷ args.items)))

-- it asks for its shape
pub outside-asked : {R : Type 0} → RequestsAskForTheirShapes → {naming : Naming} {declared : SignatureShape} (calls : List AnsweredCall) (b : FunctionBuilder R) (answers : List Answer) → IsReady naming declared calls b answers
    → (numbers : Numbers) (called : OutsideCall) (values : List ℕ) → map (value_of b.func.now answers) (operands_of called) ≡ map Some values
    → AsksForShape calls b.func.now (outside_request numbers naming (ledger_of calls) called) (outside_shape numbers called values) Invalid
outside-asked shapes {naming} calls b answers ready numbers (outside.Call function args) values found =
    (shapes calls b.func.now b.ctx.now.parts b.position ready.stands.ledger).call_function (numbers Functions function) (map naming args.items) values
    (all-named calls b answers ready args.items values found)
outside-asked shapes {naming} calls b answers ready numbers (outside.CallIndirect signature callee args) [] found = let no_way : ⊥ = cc in absurd no_way
outside-asked shapes {naming} calls b answers ready numbers (outside.CallIndirect signature callee args) (address ∷ values) found =
    let here : value_of b.func.now answers callee ≡ Some address = cc in
    let rest : map (value_of b.func.now answers) args.items ≡ map Some values = cc in
    (shapes calls b.func.now b.ctx.now.parts b.position ready.stands.ledger).call_indirect (numbers Signatures signature) (naming callee) address (map naming args.items) values
    (value-found calls b answers ready callee address here) (all-named calls b answers ready args.items values rest)

-- its shape has these values alone, goes nowhere, and names what it calls
pub outside-operands : (numbers : Numbers) (called : OutsideCall) (values : List ℕ) → operands (outside_shape numbers called values) ≡ values
outside-operands numbers (outside.Call function args) values = refl
outside-operands numbers (outside.CallIndirect signature callee args) values = refl

pub outside-contexts : (f : Body) (numbers : Numbers) (called : OutsideCall) (values : List ℕ) → All (ValueExists f) (contexts (outside_shape numbers called values))
outside-contexts f numbers (outside.Call function args) values k d inside = absurd (omega (arith, inside))
outside-contexts f numbers (outside.CallIndirect signature callee args) values k d inside = absurd (omega (arith, inside))

pub outside-edges : {R : Type 0} (b : FunctionBuilder R) (numbers : Numbers) (called : OutsideCall) (values : List ℕ) → All (CanLead b) (destinations (outside_shape numbers called values))
outside-edges b numbers (outside.Call function args) values k d inside = absurd (omega (arith, inside))
outside-edges b numbers (outside.CallIndirect signature callee args) values k d inside = absurd (omega (arith, inside))

pub outside-entries : (numbers : Numbers) (called : OutsideCall) (values : List ℕ) → entries_of (outside_shape numbers called values) ≡ entries_of (outside_shape numbers called [])
outside-entries numbers (outside.Call function args) values = refl
outside-entries numbers (outside.CallIndirect signature callee args) values = refl

-- as many results as what it calls gives
pub outside-count : (tables : TableLists) (numbers : Numbers) (called : OutsideCall) (values : List ℕ) → count_of_results tables (outside_shape numbers called values) ≡ length (returns_in numbers tables called)
outside-count tables numbers (outside.Call function args) values = omega arith
outside-count tables numbers (outside.CallIndirect signature callee args) values = omega arith

-- MAKING ----------------------------------------------------------------------------------------------------------------

-- a test of the entries that its shape names is one of whether it was imported
pub imported-tested : (f : Body) (answers : List Answer) (called : OutsideCall) (shape : InstructionData) (test : Bool) → IsOutsideShape f answers called shape
    → IsTrue test ↔ All (EntryExists f.tables) (entries_of shape) → is_imported f answers called ≡ test
imported-tested f answers called shape test found tells =
    ap (list_all (has_entry f.tables)) (sym (outside-entries (numbers_at f answers) called found.0) ∙ ap entries_of (sym found.2)) ∙ entries-tested f.tables (entries_of shape) test tells

-- one that may be made stands in an open block, and what it calls was imported
pub outside-open : {R : Type 0} (b : FunctionBuilder R) (answers : List Answer) (called : OutsideCall) → can_call b answers called ≡ true → is_open b ≡ true
outside-open b answers called may = (and_parts (is_open b) _ (and_parts _ (is_imported b.func.now answers called) may).0).0

pub outside-imported : {R : Type 0} (b : FunctionBuilder R) (answers : List Answer) (called : OutsideCall) (shape : InstructionData) → can_call b answers called ≡ true
    → IsOutsideShape b.func.now answers called shape → All (EntryExists b.func.now.tables) (entries_of shape)
outside-imported b answers called shape may found =
    subst (All (EntryExists b.func.now.tables)) (sym (ap entries_of found.2 ∙ outside-entries (numbers_at b.func.now answers) called found.0))
    (all-entries-exist b.func.now.tables (entries_of (outside_shape (numbers_at b.func.now answers) called [])) (and_parts _ (is_imported b.func.now answers called) may).1)

-- what its shape names exists
pub outside-exist : {R : Type 0} {naming : Naming} {declared : SignatureShape} (calls : List AnsweredCall) (b : FunctionBuilder R) (answers : List Answer) → IsReady naming declared calls b answers
    → (called : OutsideCall) (shape : InstructionData) → IsOutsideShape b.func.now answers called shape
    → (k : ℕ) → k < length (operands shape) → slice_index (operands shape) k < length b.func.now.values
outside-exist calls b answers ready called shape found =
    subst (λ (xs : List ℕ). (k : ℕ) → k < length xs → slice_index xs k < length b.func.now.values) (sym (ap operands found.2 ∙ outside-operands (numbers_at b.func.now answers) called found.0))
    (all-exist calls b answers ready (operands_of called) found.0 found.1)

-- where there is no room for its results a table is full
pub outside-full : (f : Body) (answers : List Answer) (called : OutsideCall) (shape : InstructionData) → IsOutsideShape f answers called shape
    → HasNoRoom f (count_of_results f.tables shape) → HasNoRoom f (length (returns_in (numbers_at f answers) f.tables called))
outside-full f answers called shape found none =
    subst (HasNoRoom f) (ap (count_of_results f.tables) found.2 ∙ outside-count f.tables (numbers_at f answers) called found.0) none

leaves-tables : (numbers : Numbers) (naming : Naming) (ledger : Ledger) (called : OutsideCall) → LeavesTables (outside_request numbers naming ledger called)
leaves-tables numbers naming ledger (outside.Call function args) = tt
leaves-tables numbers naming ledger (outside.CallIndirect signature callee args) = tt

is-answered : (numbers : Numbers) (naming : Naming) (ledger : Ledger) (called : OutsideCall) (inst : ℕ) (results : List ℕ) → AnswerIs (answer.Inst inst) (answers_to ledger (outside_request numbers naming ledger called)) (inst ∷ results)
is-answered numbers naming ledger (outside.Call function args) inst results = (_, _, refl, refl)
is-answered numbers naming ledger (outside.CallIndirect signature callee args) inst results = (_, _, refl, refl)

-- it was made
pub outside-ready : {R : Type 0} → RequestsAskForTheirShapes → {naming : Naming} {declared : SignatureShape} (calls : List AnsweredCall) (old new : FunctionBuilder R) (answers : List Answer) (called : OutsideCall)
    (shape : InstructionData) (inst : ℕ) → IsReady naming declared calls old answers → IsOutsideShape old.func.now answers called shape → Builds old new shape Invalid (Ok inst)
    → IsReadyAfter naming declared calls (outside_request (numbers_at old.func.now answers) naming (ledger_of calls) called) new answers (answer.Inst inst)
outside-ready shapes {naming} {declared} calls old new answers called shape inst ready found done = (
  numbers_of new inst,
  ready-more calls call old new answers (answer.Inst inst) ready (leaves-tables (numbers_at old.func.now answers) naming (ledger_of calls) called) (done.grows.6, done.grows.8) stands
      (is-answered (numbers_at old.func.now answers) naming (ledger_of calls) called inst (inst_at new.func.now inst).results),
)
  where
    call : AnsweredCall
    call = record { request = outside_request (numbers_at old.func.now answers) naming (ledger_of calls) called; numbers = numbers_of new inst }

    stands : StandsFor declared (calls ++ call ∷ []) new
    stands =
        let asked = outside-asked shapes calls old answers ready (numbers_at old.func.now answers) called found.0 found.1 in
        let has = subst (λ (s : InstructionData). HasShape calls old.func.now asked.1 s Invalid) (sym found.2) asked.3 in
        subst (λ (r : Request). StandsFor declared (calls ++ record { request = r; numbers = numbers_of new inst } ∷ []) new) (sym asked.2)
        (done.stands declared calls asked.0 asked.1 ready.stands has)
