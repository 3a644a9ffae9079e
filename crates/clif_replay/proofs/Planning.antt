-- What an instruction of a plan is, by numbers, and when it may be made.
use Rattle.std.proofs.Common.{◌≡◌, ℕ, zero, suc, ◌<◌, ◌≤◌, List, [], ◌∷◌, length, refl, ap, arith, sym, ◌∙◌, subst}
use Rattle.std.specs.Prelude.{drop, map, Option, Some, None, is_some, Bool, true, false, ◌&&◌, slice_index}
use Rattle.std.specs.List.{All, list_all}
use Rattle.std.proofs.lemmas.Bool.{and_parts}
use Rattle.clif_types.specs.declared.types.«Type».{«Type»}
use Rattle.clif_types.specs.declared.types.«Type».TheVariants.{Invalid}
use Rattle.clif_types.specs.Signature.{SignatureShape}
use Rattle.clif_ir.specs.Body.{Body}
use Rattle.clif_instructions.specs.Instruction.{contexts, destinations, entries_of, is_call, operands}
use Rattle.clif_tables.specs.Lists.{TableLists}
use Rattle.clif_ir.specs.Consistent.{EntryExists, ValueExists}
use Rattle.clif_instructions.specs.declared.block_call.BlockCall.{BlockCall}
use Rattle.clif_opcodes.specs.declared.opcodes.FloatConstOpcode.TheVariants.{F16const, F32const, F64const}
use Rattle.clif_opcodes.specs.declared.opcodes.StackOpcode.TheVariants as stack
use Rattle.clif_instructions.specs.declared.instructions.InstructionData.{InstructionData}
use Rattle.clif_instructions.specs.declared.instructions.InstructionData.TheVariants as shape
use Rattle.clif_meaning.specs.Acceptance.{allows, can_lead, has_entry}
use Rattle.clif_meaning.specs.Ledger.{or_invalid, type_of}
use Rattle.clif_meaning.specs.Request.{AnsweredCall}
use Rattle.clif_builder.specs.declared.builder.FunctionBuilder.{FunctionBuilder}
use Rattle.clif_builder.specs.Builder.{CanLead}
use Rattle.clif_builder.specs.Ledger.{HasShape, NamesEdges, ledger_of, tables_of_calls}
use Rattle.clif_calls.specs.Plan.{edges_in, operands_in}
use Rattle.clif_calls.specs.declared.call.Edge.{Edge}
use Rattle.clif_calls.specs.declared.call.Name.{Name}
use Rattle.clif_calls.specs.declared.plan.Plan.{Plan}
use Rattle.clif_calls.specs.declared.plan.Plan.TheVariants as plan
use Rattle.clif_resolution.specs.declared.answers.Answer.{Answer}
use Rattle.clif_ir.specs.Changes.{HasNoRoom}
use Rattle.clif_inst_builder.proofs.NoCalls.{no_contexts, plain_count}
use Rattle.clif_tables.specs.Callees.{count_of_results}
use Rattle.clif_meaning.specs.Typing.{call_shape}
use Rattle.clif_opcodes.specs.Typing.{Row}
use Rattle.clif_meaning.specs.Instruction.{Operation, operation_entries, operation_typing}
use Rattle.clif_meaning.specs.View.{operation_of}
use Rattle.clif_ssa.specs.Limits.{IsFull}
use Rattle.clif_builder.specs.Built.{HasFullTable}
use Rattle.clif_meaning.proofs.OperationTypes.{operation_typed}
use Rattle.clif_resolution.specs.Entries.{Numbers, numbers_at}
use Rattle.clif_replay.specs.Limits.{PlanMeetsFullTable}
use Rattle.clif_resolution.specs.Plans.{AreFound, IsPlanned, can_make, has_entries, has_names, type_in, controlling_in, first_type, operation_in}
use Rattle.clif_resolution.specs.Answers.{all_values, value_of}
use Rattle.clif_replay.specs.Ready.{IsReady}
use Rattle.clif_resolution.specs.Conditions.{is_open, may_lead}
use Rattle.clif_replay.specs.Requests.{Naming, edge_of, request_in}
use Rattle.clif_replay.proofs.Conditions.{all-exist, all-named, found-exists, found-names, lead-same, open-same, value-type-same, values-same}
use Rattle.clif_replay.proofs.Making.{full-either}
use Rattle.clif_replay.proofs.ReadyLaws.{value-missing}
use Rattle.clif_resolution.proofs.Planning.{never-calls, entries-alike, all-entries-exist}

-- THE CONDITION -----------------------------------------------------------------------------------------------------

edges-same : {R : Type 0} {naming : Naming} {declared : SignatureShape} (calls : List AnsweredCall) (b : FunctionBuilder R) (answers : List Answer) → IsReady naming declared calls b answers
    → (edges : List Edge) → list_all (can_lead (ledger_of calls)) (map (edge_of naming) edges) ≡ list_all (may_lead b answers) edges
edges-same {naming} calls b answers ready [] = refl
edges-same {naming} calls b answers ready (edge ∷ edges) =
    ap (λ (test : Bool). test && list_all (can_lead (ledger_of calls)) (map (edge_of naming) edges)) (lead-same calls b answers ready edge)
    ∙ ap (λ (rest : Bool). may_lead b answers edge && rest) (edges-same calls b answers ready edges)

-- the ledger's type of a name is that of its value
type-same : {R : Type 0} {naming : Naming} {declared : SignatureShape} (calls : List AnsweredCall) (b : FunctionBuilder R) (answers : List Answer) → IsReady naming declared calls b answers
    → (name : Name) → or_invalid (type_of (ledger_of calls) (naming name)) ≡ type_in b.func.now (value_of b.func.now answers name)
type-same {naming} calls b answers ready name = by (value_of b.func.now answers name) refl
  where
    no-type : (o : Option «Type») → is_some o ≡ false → or_invalid o ≡ Invalid
    no-type None is = refl
    no-type (Some ty) is = let no_way : ⊥ = cc in absurd no_way

    by : (o : Option ℕ) → value_of b.func.now answers name ≡ o → or_invalid (type_of (ledger_of calls) (naming name)) ≡ type_in b.func.now (value_of b.func.now answers name)
    by None at = no-type (type_of (ledger_of calls) (naming name)) (value-missing calls b answers ready name at) ∙ ap (type_in b.func.now) (sym at)
    by (Some value) at = ap or_invalid (value-type-same calls b answers ready name value at) ∙ ap (type_in b.func.now) (sym at)

first-same : (first second : Name → «Type») → ((name : Name) → first name ≡ second name) → (names : List Name) → first_type first names ≡ first_type second names
first-same first second same [] = refl
first-same first second same (name ∷ names) = same name

pub controlling-same : (first second : Name → «Type») → ((name : Name) → first name ≡ second name) → (p : Plan) → controlling_in first p ≡ controlling_in second p
controlling-same first second same (plan.Unary opcode arg) = same arg
controlling-same first second same (plan.Binary opcode args) = first-same first second same args
controlling-same first second same (plan.Concat args) = first-same first second same args
controlling-same first second same (plan.Split arg) = same arg
controlling-same first second same (plan.IntCompare cond args) = first-same first second same args
controlling-same first second same (plan.Ternary args) = first-same first second same (drop 1 args)
controlling-same first second same (plan.Store flags args offset) = first-same first second same args
controlling-same first second same (plan.StackStore arg slot offset) = same arg
controlling-same first second same (plan.CondTrap opcode arg code) = same arg
controlling-same first second same (plan.Brif condition block_then block_else) = same condition
controlling-same first second same _ = refl

-- what a plan names is no constant
entries-kept : (tables : TableLists) (numbers : Numbers) (p : Plan)
    → list_all (has_entry (tables_of_calls tables)) (operation_entries (operation_in numbers p)) ≡ list_all (has_entry tables) (operation_entries (operation_in numbers p))
entries-kept tables numbers (plan.Jump destination) = refl
entries-kept tables numbers _ = refl

-- an instruction is allowed where it may be made
pub plan-same : {R : Type 0} {naming : Naming} {declared : SignatureShape} (calls : List AnsweredCall) (b : FunctionBuilder R) (answers : List Answer) → IsReady naming declared calls b answers
    → (p : Plan) → allows (ledger_of calls) (request_in (numbers_at b.func.now answers) naming (ledger_of calls) p) ≡ can_make b answers p
plan-same {naming} calls b answers ready p =
    let values = values-same calls b answers ready (operands_in p) in
    let edges = edges-same calls b answers ready (edges_in p) in
    let opens = open-same calls b answers ready in
    let typed = controlling-same (λ name. or_invalid (type_of (ledger_of calls) (naming name))) (λ name. type_in b.func.now (value_of b.func.now answers name)) (type-same calls b answers ready) p in
    let tables = ready.stands.ledger.tables in
    let named = entries-kept b.func.now.tables (numbers_at b.func.now answers) p in
    rw (values, edges, opens, typed, tables, named) (by (is_open b) (all_values b.func.now answers (operands_in p)) (list_all (may_lead b answers) (edges_in p)) _ _)
  where
    by : (first second third fourth last : Bool) → ((((first && second) && third) && fourth) && last) ≡ (((first && (second && third)) && fourth) && last)
    by true second third fourth last = refl
    by false second third fourth last = refl

-- one that may be made stands in an open block
pub opens-planned : {R : Type 0} (b : FunctionBuilder R) (answers : List Answer) (p : Plan) → can_make b answers p ≡ true → is_open b ≡ true
opens-planned b answers p may = (and_parts (is_open b) (has_names b answers p) (and_parts (is_open b && has_names b answers p) _ (and_parts _ (has_entries b.func.now answers p) may).0).0).0

-- THE SHAPE -----------------------------------------------------------------------------------------------------------

edges-named : {R : Type 0} {naming : Naming} {declared : SignatureShape} (calls : List AnsweredCall) (b : FunctionBuilder R) (answers : List Answer) → IsReady naming declared calls b answers
    → (edges : List Edge) (made : List BlockCall) → AreFound b answers edges made → NamesEdges calls (map (edge_of naming) edges) made
edges-named calls b answers ready [] [] found = tt
edges-named calls b answers ready [] (m ∷ made) found = absurd found
edges-named calls b answers ready (edge ∷ edges) [] found = absurd found
edges-named calls b answers ready (edge ∷ edges) (m ∷ made) found =
    (found-names calls b answers ready edge m found.0, edges-named calls b answers ready edges made found.1)

-- what it names exists
pub operands-exist : {R : Type 0} {naming : Naming} {declared : SignatureShape} (calls : List AnsweredCall) (b : FunctionBuilder R) (answers : List Answer) → IsReady naming declared calls b answers
    → (p : Plan) (s : InstructionData) (ty : «Type») → IsPlanned b answers p s ty → (k : ℕ) → k < length (operands s) → slice_index (operands s) k < length b.func.now.values
operands-exist calls b answers ready p s ty planned = all-exist calls b answers ready (operands_in p) (operands s) planned.operands

edges-lead : {R : Type 0} {naming : Naming} {declared : SignatureShape} (calls : List AnsweredCall) (b : FunctionBuilder R) (answers : List Answer) → IsReady naming declared calls b answers
    → (edges : List Edge) (made : List BlockCall) → AreFound b answers edges made → All (CanLead b) made
edges-lead calls b answers ready [] [] found k d inside = absurd (omega (arith, inside))
edges-lead calls b answers ready [] (m ∷ made) found k d inside = absurd found
edges-lead calls b answers ready (edge ∷ edges) [] found k d inside = absurd found
edges-lead calls b answers ready (edge ∷ edges) (m ∷ made) found zero d inside = found-exists calls b answers ready edge m found.0
edges-lead calls b answers ready (edge ∷ edges) (m ∷ made) found (suc k) d inside = edges-lead calls b answers ready edges made found.1 k d (omega (arith, inside))

pub destinations-lead : {R : Type 0} {naming : Naming} {declared : SignatureShape} (calls : List AnsweredCall) (b : FunctionBuilder R) (answers : List Answer) → IsReady naming declared calls b answers
    → (p : Plan) (s : InstructionData) (ty : «Type») → IsPlanned b answers p s ty → All (CanLead b) (destinations s)
destinations-lead calls b answers ready p s ty planned = edges-lead calls b answers ready (edges_in p) (destinations s) planned.edges

planned-no-call : (tables : TableLists) (numbers : Numbers) (p : Plan) (s : InstructionData) → operation_in numbers p ≡ operation_of tables s → is_call s ≡ false
planned-no-call tables numbers p (shape.Call function args) same = absurd (never-calls numbers p (ap call_shape same))
planned-no-call tables numbers p (shape.CallIndirect sig args) same = absurd (never-calls numbers p (ap call_shape same))
planned-no-call tables numbers p (shape.TryCall function args table) same = absurd (never-calls numbers p (ap call_shape same))
planned-no-call tables numbers p (shape.TryCallIndirect args table) same = absurd (never-calls numbers p (ap call_shape same))
planned-no-call tables numbers p _ same = refl

-- the instruction that a plan asks for
pub instruction-named : {R : Type 0} {naming : Naming} {declared : SignatureShape} (calls : List AnsweredCall) (b : FunctionBuilder R) (answers : List Answer) → IsReady naming declared calls b answers
    → (p : Plan) (s : InstructionData) (ty : «Type») → IsPlanned b answers p s ty
    → HasShape calls b.func.now (record { operation = operation_in (numbers_at b.func.now answers) p; controlling = controlling_in (λ name. or_invalid (type_of (ledger_of calls) (naming name))) p; operands = map naming (operands_in p); contexts = []; edges = map (edge_of naming) (edges_in p) }) s ty
instruction-named {naming} calls b answers ready p s ty planned = record {
  operation = planned.operation;
  controlling = controlling-same (λ name. or_invalid (type_of (ledger_of calls) (naming name))) (λ name. type_in b.func.now (value_of b.func.now answers name)) (type-same calls b answers ready) p
      ∙ planned.controlling;
  typed = planned.typed;
  operands_named = all-named calls b answers ready (operands_in p) (operands s) planned.operands;
  contexts_numbered = ap (map Some) (sym (no_contexts s (planned-no-call b.func.now.tables (numbers_at b.func.now answers) p s planned.operation)));
  edges = edges-named calls b answers ready (edges_in p) (destinations s) planned.edges;
}

pub contexts-exist : {R : Type 0} (b : FunctionBuilder R) (answers : List Answer) (p : Plan) (s : InstructionData) (ty : «Type») → IsPlanned b answers p s ty
    → All (ValueExists b.func.now) (contexts s)
contexts-exist b answers p s ty planned =
    subst (All (ValueExists b.func.now)) (sym (no_contexts s (planned-no-call b.func.now.tables (numbers_at b.func.now answers) p s planned.operation))) (λ k d inside. absurd (omega (arith, inside)))

pub entries-exist : {R : Type 0} (b : FunctionBuilder R) (answers : List Answer) (p : Plan) (s : InstructionData) (ty : «Type») → IsPlanned b answers p s ty → can_make b answers p ≡ true
    → All (EntryExists b.func.now.tables) (entries_of s)
entries-exist b answers p s ty planned may =
    all-entries-exist b.func.now.tables (entries_of s)
    (ap (list_all (has_entry b.func.now.tables)) (sym (entries-alike b.func.now.tables (numbers_at b.func.now answers) p s planned.operation)) ∙ (and_parts _ (has_entries b.func.now answers p) may).1)

-- FORMATS -------------------------------------------------------------------------------------------------------------

-- FULL TABLES ---------------------------------------------------------------------------------------------------------

-- how many results an instruction of a plan has
abbrev pub plan_count : Numbers → Plan → ℕ
plan_count numbers p = length (operation_typing (operation_in numbers p)).results

-- where there is no room for it, a table is full; or one result too many is wanted
plan-met : (f : Body) (numbers : Numbers) (p : Plan) → HasNoRoom f (plan_count numbers p) → (plan_count numbers p ≤ 1 → IsFull f) → PlanMeetsFullTable p f
plan-met f numbers (plan.Split arg) none few = none
plan-met f numbers (plan.UnaryIeee F16const bits) none few = few (omega arith)
plan-met f numbers (plan.UnaryIeee F32const bits) none few = few (omega arith)
plan-met f numbers (plan.UnaryIeee F64const bits) none few = few (omega arith)
plan-met f numbers (plan.StackLoad stack.StackAddr ty slot offset) none few = few (omega arith)
plan-met f numbers (plan.StackLoad stack.StackLoad ty slot offset) none few = few (omega arith)
plan-met f numbers _ none few = few (omega arith)

pub planned-full : {R : Type 0} (b : FunctionBuilder R) (answers : List Answer) (p : Plan) (s : InstructionData) (ty : «Type») → IsPlanned b answers p s ty
    → HasNoRoom b.func.now (count_of_results b.func.now.tables s) → (count_of_results b.func.now.tables s ≤ 1 → HasFullTable b) → PlanMeetsFullTable p b.func.now
planned-full b answers p s ty planned none few =
    let same : plan_count (numbers_at b.func.now answers) p ≡ count_of_results b.func.now.tables s =
    ap (λ (o : Operation). length (operation_typing o).results) planned.operation ∙ ap (λ (row : Row). length row.results) (operation_typed b.func.now.tables s)
    ∙ sym (plain_count b.func.now.tables s (planned-no-call b.func.now.tables (numbers_at b.func.now answers) p s planned.operation)) in
    plan-met b.func.now (numbers_at b.func.now answers) p (subst (HasNoRoom b.func.now) (sym same) none) (λ small. full-either b.func.now (few (subst (λ (n : ℕ). n ≤ 1) same small)))
