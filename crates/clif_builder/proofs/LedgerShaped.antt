-- An instruction of any shape is built: the agreement with the ledger is kept.
use Rattle.std.proofs.Common.{◌≡◌, ◌≢◌, ◌<◌, ℕ, suc, ◌-◌, List, [], ◌∷◌, ◌++◌, length, refl, sym, ◌∙◌, ap, ap₂, subst, ◌⊎◌, inl, inr}
use Rattle.std.specs.Prelude.{All, Bool, map, slice_get, true, false, if◌then◌else◌, Option, Some, IfOk, Result, Ok, Err, ℤ}
use Rattle.std.specs.List.{range_with_len}
use Rattle.std.proofs.lemmas.Option.{get_or_from_slice_get, same_Some}
use Rattle.clif_types.specs.declared.types.«Type».{«Type»}
use Rattle.clif_types.specs.declared.types.«Type».TheVariants as type
use Rattle.clif_instructions.specs.declared.block_call.BlockArg.TheVariants as arg
use Rattle.clif_instructions.specs.declared.block_call.BlockCall.{BlockCall}
use Rattle.clif_nodes.specs.declared.nodes.InstNode.{InstNode}
use Rattle.clif_nodes.specs.declared.nodes.ValueNode.{ValueNode}
use Rattle.clif_instructions.specs.declared.insert_at.InsertAt.TheVariants.{Back}
use Rattle.clif_types.specs.declared.condcodes.IntCC.{IntCC}
use Rattle.clif_types.specs.declared.trapcode.TrapCode.{TrapCode}
use Rattle.clif_types.specs.MemFlags.{MemFlagsShape}
use Rattle.clif_opcodes.specs.Typing.{Row}
use Rattle.clif_opcodes.specs.declared.opcodes.BinaryOpcode.{BinaryOpcode}
use Rattle.clif_opcodes.specs.declared.opcodes.CondTrapOpcode.{CondTrapOpcode}
use Rattle.clif_opcodes.specs.declared.opcodes.FloatConstOpcode.{FloatConstOpcode}
use Rattle.clif_opcodes.specs.declared.opcodes.FloatConstOpcode.TheVariants.{F16const, F32const, F64const}
use Rattle.clif_opcodes.specs.declared.opcodes.ConvertOpcode.{ConvertOpcode}
use Rattle.clif_opcodes.specs.declared.opcodes.PooledConstOpcode.{PooledConstOpcode}
use Rattle.clif_opcodes.specs.declared.opcodes.PooledConstOpcode.TheVariants.{F128const, Vconst}
use Rattle.clif_opcodes.specs.declared.opcodes.StackOpcode.{StackOpcode}
use Rattle.clif_opcodes.specs.declared.opcodes.StackOpcode.TheVariants as stack
use Rattle.clif_opcodes.specs.declared.opcodes.UnaryOpcode.{UnaryOpcode}
use Rattle.clif_instructions.specs.declared.instructions.InstructionData.{InstructionData}
use Rattle.clif_instructions.specs.declared.instructions.InstructionData.TheVariants.{UnaryImm, UnaryIeee, UnaryConst, Unary, Binary, IntCompare, Concat, Split, Convert, Ternary, Load, Store, StackLoad, StackStore, Jump, Brif, BranchTable, MultiAry, Trap, CondTrap, Call, CallIndirect, TryCall, TryCallIndirect}
use Rattle.clif_instructions.specs.ExceptionTables.{ExceptionShape, contexts_of}
use Rattle.clif_ir.specs.Body.{Body, inst_at, value_at}
use Rattle.clif_nodes.specs.Nodes.{no_inst, no_value}
use Rattle.clif_ir.specs.Changes.{inserted_in, with_inst, inst_node}
use Rattle.clif_ir.specs.Consistent.{IsConsistent}
use Rattle.clif_instructions.specs.Instruction.{destinations, is_branch, is_terminator, result_types}
use Rattle.clif_tables.specs.Callees.{function_at, given_by_call, types_of, types_of_results}
use Rattle.clif_tables.specs.Lists.{TableLists}
use Rattle.clif_instructions.specs.Edges.{targets}
use Rattle.clif_meaning.specs.Name.{Name}
use Rattle.clif_meaning.specs.Instruction.{Edge, Instruction, Known, Operation, Iconst, Compute}
use Rattle.clif_meaning.specs.Instruction as operation
use Rattle.clif_meaning.specs.Acceptance.{table_branch, tried_shape}
use Rattle.clif_meaning.specs.Event.{CallItem, CallShape}
use Rattle.clif_meaning.specs.Program as program
use Rattle.clif_meaning.specs.Request.{AnsweredCall, Build, GivenEntry, number_of}
use Rattle.clif_meaning.specs.Ledger.{ExceptionTable, or_invalid, type_of}
use Rattle.clif_meaning.specs.Ledger as meaning
use Rattle.clif_meaning.specs.View.{operation_of, try_call_of}
use Rattle.clif_builder.specs.declared.context.BlockStatus.TheVariants.{Filled}
use Rattle.clif_builder.specs.declared.builder.FunctionBuilder.{FunctionBuilder}
use Rattle.clif_builder.specs.Context.{ContextState, SameVariables, SetsStatus, begun, status_of}
use Rattle.clif_builder.specs.Builder.{AppendsIn, CanLeadIn, HasCurrent}
use Rattle.clif_builder.specs.Construction.{IsDeclared}
use Rattle.clif_builder.specs.Ledger.{HasShape, LedgerAgrees, NamesArguments, NamesEdge, NamesEdges, NamesExceptions, NamesValue, NamesValues, ledger_of}
use Rattle.clif_builder.proofs.LedgerLists.{map-some}
use Rattle.clif_builder.proofs.LedgerKept.{concluded, named-value}
use Rattle.clif_builder.proofs.LedgerBuilt.{agrees-built, agrees-ended, node-there}
use Rattle.clif_builder.proofs.Sorts.{EndsBlock, StaysInBlock, sort_of}
use Rattle.clif_meaning.proofs.OperationTypes.{operation_results, operation_typed}

-- SHAPES ----------------------------------------------------------------------------------------------------------

-- the call that builds an instruction
abbrev pub built : List GivenEntry → Instruction Name Name → List ℕ → AnsweredCall
built entries instruction numbers = record { request = Build entries instruction; numbers = numbers }

-- an instruction without edges, by its other parts
abbrev pub plain : Operation → «Type» → List Name → Instruction Name Name
plain operation ty names = record { operation = operation; controlling = ty; operands = names; contexts = []; edges = [] }

-- the same with contexts
abbrev pub unedged : Operation → «Type» → (operands contexts : List Name) → Instruction Name Name
unedged operation ty operands contexts = record { operation = operation; controlling = ty; operands = operands; contexts = contexts; edges = [] }

pub is-unedged : (i : Instruction Name Name) (operation : Operation) (ty : «Type») → i.operation ≡ operation → i.controlling ≡ ty → i.edges ≡ [] → i ≡ unedged operation ty i.operands i.contexts
is-unedged i operation ty same_operation same_ty none =
    ap (λ (o : Operation). record { operation = o; controlling = i.controlling; operands = i.operands; contexts = i.contexts; edges = i.edges }) same_operation
    ∙ ap (λ (t : «Type»). record { operation = operation; controlling = t; operands = i.operands; contexts = i.contexts; edges = i.edges }) same_ty
    ∙ ap (λ (es : List (Edge Name Name)). record { operation = operation; controlling = ty; operands = i.operands; contexts = i.contexts; edges = es }) none

-- names of no edges
pub names-none : (calls : List AnsweredCall) (edges : List (Edge Name Name)) (made : List BlockCall) → made ≡ [] → NamesEdges calls edges made → edges ≡ []
names-none calls [] made none names = refl
names-none calls (edge ∷ edges) [] none names = absurd names
names-none calls (edge ∷ edges) (call ∷ made) none names = let no_way : ⊥ = cc in absurd no_way

-- the program's instruction has results of the same types, and ends its block where the shape does
pub same_types : (calls : List AnsweredCall) (f : Body) (instruction : Instruction Name Name) (shape : InstructionData) (ty : «Type») → HasShape calls f instruction shape ty
    → program.result_types instruction.operation instruction.controlling ≡ types_of_results f.tables shape ty
same_types calls f instruction shape ty has =
    ap (λ (o : Operation). program.result_types o instruction.controlling) has.operation
    ∙ operation_results f.tables shape instruction.controlling
    ∙ ap (λ (types : List «Type»). types ++ types_of (given_by_call f.tables shape)) (ap (result_types shape) has.controlling ∙ sym has.typed)

pub same_end : (calls : List AnsweredCall) (f : Body) (instruction : Instruction Name Name) (shape : InstructionData) (ty : «Type») → HasShape calls f instruction shape ty
    → meaning.is_terminator instruction.operation ≡ is_terminator shape
same_end calls f instruction shape ty has =
    ap meaning.is_terminator has.operation ∙ ap (λ (row : Row). row.ends) (operation_typed f.tables shape)

-- THE PARTS OF A BUILDER ------------------------------------------------------------------------------------------

module _ (place : ℕ) (calls : List AnsweredCall) (f g : Body) (c d : ContextState) (p : Option ℕ) (block : ℕ) (entries : List GivenEntry) (instruction : Instruction Name Name) (shape : InstructionData) (ty : «Type») (inst : ℕ)
    (agrees : LedgerAgrees calls (ledger_of calls) f c p) (at : p ≡ Some block) (exists : block < length f.blocks) (consistent : IsConsistent f)
    (has : HasShape calls f instruction shape ty) (appends : AppendsIn place f c g d block shape ty inst) (variables : SameVariables c d) where
  function_of : (types : List «Type») → types_of_results f.tables shape ty ≡ types → g ≡ with_inst (inserted_in f block) block Back shape types place
  function_of types is = appends.function ∙ ap (λ (ts : List «Type»). with_inst (inserted_in f block) block Back shape ts place) is

  results-of : (types : List «Type») → types_of_results f.tables shape ty ≡ types → (inst_at g inst).results ≡ range_with_len (length (inserted_in f block).values) (length types)
  results-of types is =
      ap (λ (n : InstNode). n.results)
      (get_or_from_slice_get g.insts inst (inst_node (inserted_in f block) block shape types place) no_inst
      (ap (slice_get g.insts) appends.number ∙ node-there _ f g block shape types (function_of types is)))

  sets_status : (ends : Bool) → is_terminator shape ≡ ends → SetsStatus c d block (if ends then Filled else begun (status_of c block))
  sets_status ends is = subst (λ t. SetsStatus c d block (if t then Filled else begun (status_of c block))) is appends.status

  -- the agreement, where the instruction has these results
  abbrev Agrees : Instruction Name Name → List ℕ → Type 0
  Agrees i results = LedgerAgrees (calls ++ built entries i (inst ∷ results) ∷ []) (ledger_of (calls ++ built entries i (inst ∷ results) ∷ [])) g d p

  -- the instruction, where it has no edges
  same-unedged : destinations shape ≡ [] → instruction ≡ unedged instruction.operation instruction.controlling instruction.operands instruction.contexts
  same-unedged none = is-unedged instruction instruction.operation instruction.controlling refl refl (names-none calls instruction.edges (destinations shape) none has.edges)

  staying : StaysInBlock shape → d.ssa ≡ c.ssa → Agrees instruction (inst_at g inst).results
  staying known ssa =
      let names : List Name = instruction.operands in
      let types : List «Type» = types_of_results f.tables shape ty in
      let results : List ℕ = range_with_len (length (inserted_in f block).values) (length types) in
      subst (Agrees instruction) (sym (results-of types refl))
      (subst (λ (i : Instruction Name Name). Agrees i results) (sym (same-unedged known.no_edges))
      (concluded calls (built entries (unedged instruction.operation instruction.controlling names instruction.contexts) (inst ∷ results)) g d p
      (agrees-built _ calls (ledger_of calls) f g c d p block shape entries instruction.operation instruction.controlling types names instruction.contexts inst
      agrees at consistent exists (function_of types refl) (sets_status false known.goes_on) ssa variables appends.number
      (same_end calls f instruction shape ty has ∙ known.goes_on) (same_types calls f instruction shape ty has))))

  -- a terminator, with its edges
  ending : EndsBlock f.tables shape ty → status_of c block ≢ Filled → All (CanLeadIn f c) (destinations shape) → IsDeclared c.ssa inst (targets (destinations shape)) d.ssa
      → Agrees instruction (inst_at g inst).results
  ending known open_in may declared =
      subst (Agrees instruction) (sym (results-of [] known.none))
      (concluded calls (built entries instruction (inst ∷ [])) g d p
      (agrees-ended place calls f g c d p block shape entries instruction inst agrees at consistent exists open_in (function_of [] known.none) (sets_status true known.ends) variables appends.number has.edges may declared
      (same_end calls f instruction shape ty has ∙ known.ends) (same_types calls f instruction shape ty has ∙ known.none)))

pub shaped-ledger : (place : ℕ) (calls : List AnsweredCall) (f g : Body) (c d : ContextState) (p : Option ℕ) (block : ℕ) (entries : List GivenEntry) (instruction : Instruction Name Name) (shape : InstructionData) (ty : «Type») (inst : ℕ)
    → LedgerAgrees calls (ledger_of calls) f c p → p ≡ Some block → block < length f.blocks → status_of c block ≢ Filled → IsConsistent f
    → HasShape calls f instruction shape ty → All (CanLeadIn f c) (destinations shape) → AppendsIn place f c g d block shape ty inst
    → IsDeclared c.ssa inst (targets (destinations shape)) d.ssa → (is_branch shape ≡ false → d.ssa ≡ c.ssa) → SameVariables c d
    → LedgerAgrees (calls ++ built entries instruction (inst ∷ (inst_at g inst).results) ∷ []) (ledger_of (calls ++ built entries instruction (inst ∷ (inst_at g inst).results) ∷ [])) g d p
shaped-ledger place calls f g c d p block entries instruction shape ty inst agrees at exists open_in consistent has may appends declared ssa variables = by (sort_of f.tables shape ty)
  where
    by : StaysInBlock shape ⊎ EndsBlock f.tables shape ty
        → LedgerAgrees (calls ++ built entries instruction (inst ∷ (inst_at g inst).results) ∷ []) (ledger_of (calls ++ built entries instruction (inst ∷ (inst_at g inst).results) ∷ [])) g d p
    by (inl known) = staying _ calls f g c d p block entries instruction shape ty inst agrees at exists consistent has appends variables known (ssa known.no_branch)
    by (inr known) = ending _ calls f g c d p block entries instruction shape ty inst agrees at exists consistent has appends variables known open_in may declared

-- where no error is answered
pub ledger-shaped : (place : ℕ) {E : Type 0} (calls : List AnsweredCall) (f g : Body) (c d : ContextState) (p : Option ℕ) (block : ℕ) (entries : List GivenEntry) (instruction : Instruction Name Name) (shape : InstructionData) (ty : «Type») (r : Result ℕ E)
    → LedgerAgrees calls (ledger_of calls) f c p → p ≡ Some block → (block < length f.blocks) × (status_of c block ≢ Filled) → IsConsistent f
    → HasShape calls f instruction shape ty → All (CanLeadIn f c) (destinations shape) → IfOk r (λ inst. AppendsIn place f c g d block shape ty inst)
    → IfOk r (λ inst. IsDeclared c.ssa inst (targets (destinations shape)) d.ssa) → (is_branch shape ≡ false → d.ssa ≡ c.ssa) → SameVariables c d
    → IfOk r (λ inst. LedgerAgrees (calls ++ built entries instruction (inst ∷ (inst_at g inst).results) ∷ []) (ledger_of (calls ++ built entries instruction (inst ∷ (inst_at g inst).results) ∷ [])) g d p)
ledger-shaped place calls f g c d p block entries instruction shape ty (Err e) agrees at current consistent has may appends declared ssa variables = tt
ledger-shaped place calls f g c d p block entries instruction shape ty (Ok inst) agrees at current consistent has may appends declared ssa variables =
    shaped-ledger _ calls f g c d p block entries instruction shape ty inst agrees at current.0 current.1 consistent has may appends declared ssa variables

-- BUILDERS --------------------------------------------------------------------------------------------------------

-- the current block
pub current-is : {R : Type 0} (b : FunctionBuilder R) → HasCurrent b → (block : ℕ) → b.position ≡ Some block → (block < length b.func.now.blocks) × (status_of b.ctx.now.parts block ≢ Filled)
current-is b current block at =
    let same : current.0 ≡ block = same_Some current.0 block (sym current.1 ∙ at) in
    subst (λ (n : ℕ). (n < length b.func.now.blocks) × (status_of b.ctx.now.parts n ≢ Filled)) same (current.2, current.3)

-- THE CALLS -------------------------------------------------------------------------------------------------------

-- the type of a value with a name
pub named-type : (calls : List AnsweredCall) (f : Body) (c : ContextState) (p : Option ℕ) → LedgerAgrees calls (ledger_of calls) f c p
    → (name : Name) (value : ℕ) → NamesValue calls name value → or_invalid (type_of (ledger_of calls) name) ≡ (value_at f value).ty
named-type calls f c p agrees name value names =
    let named = named-value calls (ledger_of calls) f c p agrees name value names.number names.is_value in
    let node = map-some (λ (n : ValueNode). n.ty) (slice_get f.values value) named.0 named.2 in
    ap or_invalid named.1 ∙ sym (ap (λ (n : ValueNode). n.ty) (get_or_from_slice_get f.values value node.0 no_value node.1) ∙ node.2)

-- no value, and one more
names_none : (calls : List AnsweredCall) → NamesValues calls [] []
names_none calls = record { numbers = refl; are_values = tt }

names_more : (calls : List AnsweredCall) {a : Name} {x : ℕ} {names : List Name} {values : List ℕ} → NamesValue calls a x → NamesValues calls names values
    → NamesValues calls (a ∷ names) (x ∷ values)
names_more calls first rest = record {
  numbers = ap₂ (λ (o : Option ℕ) (os : List (Option ℕ)). o ∷ os) first.number rest.numbers;
  are_values = (first.is_value, rest.are_values);
}

pub iconst-shape : (calls : List AnsweredCall) (f : Body) (ty : «Type») (imm : ℤ) → HasShape calls f (plain (Compute (Iconst imm)) ty []) (UnaryImm imm) ty
iconst-shape calls f ty imm = record { operation = refl; controlling = refl; typed = refl; operands_named = names_none calls; contexts_numbered = refl; edges = tt }

pub unary-shape : (calls : List AnsweredCall) (f : Body) (c : ContextState) (p : Option ℕ) → LedgerAgrees calls (ledger_of calls) f c p
    → (opcode : UnaryOpcode) (a : Name) (x : ℕ) → NamesValue calls a x
    → HasShape calls f (plain (Compute (operation.Unary opcode)) (or_invalid (type_of (ledger_of calls) a)) (a ∷ [])) (Unary opcode x) (value_at f x).ty
unary-shape calls f c p agrees opcode a x first =
    record {
      operation = refl;
      typed = refl;
      controlling = named-type calls f c p agrees a x first;
      operands_named = names_more calls first (names_none calls);
      contexts_numbered = refl;
      edges = tt;
    }

pub binary-shape : (calls : List AnsweredCall) (f : Body) (c : ContextState) (p : Option ℕ) → LedgerAgrees calls (ledger_of calls) f c p
    → (opcode : BinaryOpcode) (a b : Name) (x y : ℕ) → NamesValue calls a x → NamesValue calls b y
    → HasShape calls f (plain (Compute (operation.Binary opcode)) (or_invalid (type_of (ledger_of calls) a)) (a ∷ b ∷ [])) (Binary opcode (x ∷ y ∷ [])) (value_at f x).ty
binary-shape calls f c p agrees opcode a b x y first second =
    record {
      operation = refl;
      typed = refl;
      controlling = named-type calls f c p agrees a x first;
      operands_named = names_more calls first (names_more calls second (names_none calls));
      contexts_numbered = refl;
      edges = tt;
    }

pub convert-shape : (calls : List AnsweredCall) (f : Body) (opcode : ConvertOpcode) (ty : «Type») (a : Name) (x : ℕ) → NamesValue calls a x
    → HasShape calls f (plain (Compute (operation.Convert opcode)) ty (a ∷ [])) (Convert opcode x) ty
convert-shape calls f opcode ty a x names =
    record { operation = refl; controlling = refl; typed = refl; operands_named = names_more calls names (names_none calls); contexts_numbered = refl; edges = tt }

pub select-shape : (calls : List AnsweredCall) (f : Body) (c : ContextState) (p : Option ℕ) → LedgerAgrees calls (ledger_of calls) f c p
    → (condition a b : Name) (n x y : ℕ) → NamesValue calls condition n → NamesValue calls a x → NamesValue calls b y
    → HasShape calls f (plain (Compute operation.Select) (or_invalid (type_of (ledger_of calls) a)) (condition ∷ a ∷ b ∷ [])) (Ternary (n ∷ x ∷ y ∷ [])) (value_at f x).ty
select-shape calls f c p agrees condition a b n x y tested first second =
    record {
      operation = refl;
      typed = refl;
      controlling = named-type calls f c p agrees a x first;
      operands_named = names_more calls tested (names_more calls first (names_more calls second (names_none calls)));
      contexts_numbered = refl;
      edges = tt;
    }

pub float-shape : (calls : List AnsweredCall) (f : Body) (opcode : FloatConstOpcode) (bits : ℕ)
    → HasShape calls f (plain (Compute (operation.FloatConst opcode bits)) type.Invalid []) (UnaryIeee opcode bits) type.Invalid
float-shape calls f F16const bits = record { operation = refl; controlling = refl; typed = refl; operands_named = names_none calls; contexts_numbered = refl; edges = tt }
float-shape calls f F32const bits = record { operation = refl; controlling = refl; typed = refl; operands_named = names_none calls; contexts_numbered = refl; edges = tt }
float-shape calls f F64const bits = record { operation = refl; controlling = refl; typed = refl; operands_named = names_none calls; contexts_numbered = refl; edges = tt }

pub compare-shape : (calls : List AnsweredCall) (f : Body) (c : ContextState) (p : Option ℕ) → LedgerAgrees calls (ledger_of calls) f c p
    → (condition : IntCC) (a b : Name) (x y : ℕ) → NamesValue calls a x → NamesValue calls b y
    → HasShape calls f (plain (Compute (operation.Compare condition)) (or_invalid (type_of (ledger_of calls) a)) (a ∷ b ∷ [])) (IntCompare condition (x ∷ y ∷ [])) (value_at f x).ty
compare-shape calls f c p agrees condition a b x y first second =
    record { operation = refl; controlling = named-type calls f c p agrees a x first; typed = refl; operands_named = names_more calls first (names_more calls second (names_none calls)); contexts_numbered = refl; edges = tt }

pub concat-shape : (calls : List AnsweredCall) (f : Body) (c : ContextState) (p : Option ℕ) → LedgerAgrees calls (ledger_of calls) f c p
    → (a b : Name) (x y : ℕ) → NamesValue calls a x → NamesValue calls b y
    → HasShape calls f (plain (Compute operation.Concat) (or_invalid (type_of (ledger_of calls) a)) (a ∷ b ∷ [])) (Concat (x ∷ y ∷ [])) (value_at f x).ty
concat-shape calls f c p agrees a b x y first second =
    record { operation = refl; controlling = named-type calls f c p agrees a x first; typed = refl; operands_named = names_more calls first (names_more calls second (names_none calls)); contexts_numbered = refl; edges = tt }

pub split-shape : (calls : List AnsweredCall) (f : Body) (c : ContextState) (p : Option ℕ) → LedgerAgrees calls (ledger_of calls) f c p
    → (a : Name) (x : ℕ) → NamesValue calls a x
    → HasShape calls f (plain (Compute operation.Split) (or_invalid (type_of (ledger_of calls) a)) (a ∷ [])) (Split x) (value_at f x).ty
split-shape calls f c p agrees a x names =
    record { operation = refl; controlling = named-type calls f c p agrees a x names; typed = refl; operands_named = names_more calls names (names_none calls); contexts_numbered = refl; edges = tt }

-- a constant that is there has its bytes in the instruction's operation
pooled-operation : (f : Body) (opcode : PooledConstOpcode) (bytes : List ℕ) (constant : ℕ) → slice_get f.tables.constants constant ≡ Some bytes
    → Compute (operation.PooledConst opcode bytes) ≡ operation_of f.tables (UnaryConst opcode constant)
pooled-operation f opcode bytes constant found =
    ap (λ (b : List ℕ). Compute (operation.PooledConst opcode b)) (sym (get_or_from_slice_get f.tables.constants constant bytes [] found))

pub f128const-shape : (calls : List AnsweredCall) (f : Body) (bytes : List ℕ) (constant : ℕ) → slice_get f.tables.constants constant ≡ Some bytes
    → HasShape calls f (plain (Compute (operation.PooledConst F128const bytes)) type.Invalid []) (UnaryConst F128const constant) type.Invalid
f128const-shape calls f bytes constant found =
    record { operation = pooled-operation f F128const bytes constant found; controlling = refl; typed = refl; operands_named = names_none calls; contexts_numbered = refl; edges = tt }

pub vconst-shape : (calls : List AnsweredCall) (f : Body) (ty : «Type») (bytes : List ℕ) (constant : ℕ) → slice_get f.tables.constants constant ≡ Some bytes
    → HasShape calls f (plain (Compute (operation.PooledConst Vconst bytes)) ty []) (UnaryConst Vconst constant) ty
vconst-shape calls f ty bytes constant found =
    record { operation = pooled-operation f Vconst bytes constant found; controlling = refl; typed = refl; operands_named = names_none calls; contexts_numbered = refl; edges = tt }

pub load-shape : (calls : List AnsweredCall) (f : Body) (flags : MemFlagsShape) (ty : «Type») (a : Name) (x : ℕ) (offset : ℤ) → NamesValue calls a x
    → HasShape calls f (plain (operation.Load flags offset) ty (a ∷ [])) (Load flags x offset) ty
load-shape calls f flags ty a x offset names =
    record { operation = refl; controlling = refl; typed = refl; operands_named = names_more calls names (names_none calls); contexts_numbered = refl; edges = tt }

pub store-shape : (calls : List AnsweredCall) (f : Body) (c : ContextState) (p : Option ℕ) → LedgerAgrees calls (ledger_of calls) f c p
    → (flags : MemFlagsShape) (a b : Name) (x y : ℕ) (offset : ℤ) → NamesValue calls a x → NamesValue calls b y
    → HasShape calls f (plain (operation.Store flags offset) (or_invalid (type_of (ledger_of calls) a)) (a ∷ b ∷ [])) (Store flags (x ∷ y ∷ []) offset) type.Invalid
store-shape calls f c p agrees flags a b x y offset first second =
    record { operation = refl; controlling = named-type calls f c p agrees a x first; typed = refl; operands_named = names_more calls first (names_more calls second (names_none calls)); contexts_numbered = refl; edges = tt }

pub stack-shape : (calls : List AnsweredCall) (f : Body) (opcode : StackOpcode) (ty : «Type») (slot : ℕ) (offset : ℤ)
    → HasShape calls f (plain (operation.Stack opcode slot offset) ty []) (StackLoad opcode slot offset) ty
stack-shape calls f stack.StackAddr ty slot offset = record { operation = refl; controlling = refl; typed = refl; operands_named = names_none calls; contexts_numbered = refl; edges = tt }
stack-shape calls f stack.StackLoad ty slot offset = record { operation = refl; controlling = refl; typed = refl; operands_named = names_none calls; contexts_numbered = refl; edges = tt }

pub stack_store-shape : (calls : List AnsweredCall) (f : Body) (c : ContextState) (p : Option ℕ) → LedgerAgrees calls (ledger_of calls) f c p
    → (a : Name) (x slot : ℕ) (offset : ℤ) → NamesValue calls a x
    → HasShape calls f (plain (operation.StackStore slot offset) (or_invalid (type_of (ledger_of calls) a)) (a ∷ [])) (StackStore x slot offset) type.Invalid
stack_store-shape calls f c p agrees a x slot offset names = record {
  operation = refl;
  controlling = named-type calls f c p agrees a x names;
  typed = refl;
  operands_named = names_more calls names (names_none calls);
  contexts_numbered = refl;
  edges = tt;
}

pub trap-shape : (calls : List AnsweredCall) (f : Body) (code : TrapCode) → HasShape calls f (plain (operation.Trap code) type.Invalid []) (Trap code) type.Invalid
trap-shape calls f code = record { operation = refl; controlling = refl; typed = refl; operands_named = names_none calls; contexts_numbered = refl; edges = tt }

pub cond_trap-shape : (calls : List AnsweredCall) (f : Body) (c : ContextState) (p : Option ℕ) → LedgerAgrees calls (ledger_of calls) f c p
    → (opcode : CondTrapOpcode) (a : Name) (x : ℕ) (code : TrapCode) → NamesValue calls a x
    → HasShape calls f (plain (operation.CondTrap opcode code) (or_invalid (type_of (ledger_of calls) a)) (a ∷ [])) (CondTrap opcode x code) type.Invalid
cond_trap-shape calls f c p agrees opcode a x code names = record {
  operation = refl;
  controlling = named-type calls f c p agrees a x names;
  typed = refl;
  operands_named = names_more calls names (names_none calls);
  contexts_numbered = refl;
  edges = tt;
}

pub jump-shape : (calls : List AnsweredCall) (f : Body) (edge : Edge Name Name) (made : BlockCall) → NamesEdge calls edge made
    → HasShape calls f (record { operation = operation.Jump; controlling = type.Invalid; operands = []; contexts = []; edges = edge ∷ [] }) (Jump made) type.Invalid
jump-shape calls f edge made names = record { operation = refl; controlling = refl; typed = refl; operands_named = names_none calls; contexts_numbered = refl; edges = (names, tt) }

pub brif-shape : (calls : List AnsweredCall) (f : Body) (c : ContextState) (p : Option ℕ) → LedgerAgrees calls (ledger_of calls) f c p
    → (condition : Name) (value : ℕ) (taken other : Edge Name Name) (block_then block_else : BlockCall) (blocks : List BlockCall) → blocks ≡ block_then ∷ block_else ∷ []
    → NamesValue calls condition value → NamesEdge calls taken block_then → NamesEdge calls other block_else
    → HasShape calls f (record { operation = operation.Brif; controlling = or_invalid (type_of (ledger_of calls) condition); operands = condition ∷ []; contexts = []; edges = taken ∷ other ∷ [] })
    (Brif value blocks) type.Invalid
brif-shape calls f c p agrees condition value taken other block_then block_else blocks same names first second =
    record {
      operation = refl;
      typed = refl;
      controlling = named-type calls f c p agrees condition value names;
      operands_named = names_more calls names (names_none calls);
      contexts_numbered = refl;
      edges = subst (NamesEdges calls (taken ∷ other ∷ [])) (sym same) (first, (second, tt));
    }

-- as many edges are named as there are
edges-count : (calls : List AnsweredCall) (edges : List (Edge Name Name)) (made : List BlockCall) → NamesEdges calls edges made → length edges ≡ length made
edges-count calls [] [] names = refl
edges-count calls (edge ∷ edges) (call ∷ others) names = ap suc (edges-count calls edges others names.1)
edges-count calls [] (call ∷ others) names = absurd names
edges-count calls (edge ∷ edges) [] names = absurd names

pub table-shape : (calls : List AnsweredCall) (f : Body) (index : Name) (value : ℕ) (edges : List (Edge Name Name)) (table : List BlockCall)
    → NamesValue calls index value → NamesEdges calls edges table → HasShape calls f (table_branch index edges) (BranchTable value table) type.Invalid
table-shape calls f index value edges table names named = record {
  operation = ap (λ (count : ℕ). operation.BrTable (count - 1)) (edges-count calls edges table named);
  typed = refl;
  controlling = refl;
  operands_named = names_more calls names (names_none calls);
  contexts_numbered = refl;
  edges = named;
}

pub return-shape : (calls : List AnsweredCall) (f : Body) (names : List Name) (values : List ℕ) → NamesValues calls names values
    → HasShape calls f (plain operation.Return type.Invalid names) (MultiAry values) type.Invalid
return-shape calls f names values numbered = record { operation = refl; controlling = refl; typed = refl; operands_named = numbered; contexts_numbered = refl; edges = tt }

-- what is called is in tables that calls of a list make
pub call-shape : (calls : List AnsweredCall) (f : Body) (c : ContextState) (p : Option ℕ) → LedgerAgrees calls (ledger_of calls) f c p
    → (function : ℕ) (names : List Name) (values : List ℕ) → NamesValues calls names values
    → HasShape calls f (plain (operation_of (ledger_of calls).tables (Call function values)) type.Invalid names) (Call function values) type.Invalid
call-shape calls f c p agrees function names values numbered = record {
  operation = ap (λ (tables : TableLists). operation_of tables (Call function values)) agrees.tables;
  controlling = refl;
  typed = refl;
  operands_named = numbered;
  contexts_numbered = refl;
  edges = tt;
}

pub call_indirect-shape : (calls : List AnsweredCall) (f : Body) (c : ContextState) (p : Option ℕ) → LedgerAgrees calls (ledger_of calls) f c p
    → (signature : ℕ) (callee : Name) (address : ℕ) (names : List Name) (values : List ℕ) → NamesValue calls callee address
    → NamesValues calls names values
    → HasShape calls f (plain (operation_of (ledger_of calls).tables (CallIndirect signature (address ∷ values))) type.Invalid (callee ∷ names))
    (CallIndirect signature (address ∷ values)) type.Invalid
call_indirect-shape calls f c p agrees signature callee address names values called numbered = record {
  operation = ap (λ (tables : TableLists). operation_of tables (CallIndirect signature (address ∷ values))) agrees.tables;
  controlling = refl;
  typed = refl;
  operands_named = names_more calls called numbered;
  contexts_numbered = refl;
  edges = tt;
}

-- the names of contexts, as numbers
contexts-numbered : (calls : List AnsweredCall) (names : List Name) (values : List ℕ) → NamesArguments calls (map Known names) (map arg.Value values)
    → map (number_of calls) names ≡ map Some values
contexts-numbered calls [] [] named = refl
contexts-numbered calls [] (value ∷ values) named = absurd named
contexts-numbered calls (name ∷ names) [] named = absurd named
contexts-numbered calls (name ∷ names) (value ∷ values) named =
    ap₂ (λ (o : Option ℕ) (os : List (Option ℕ)). o ∷ os) named.0.number (contexts-numbered calls names values named.1)

-- the table's signature and items are those of the ledger's table
same-tried : (calls : List AnsweredCall) (f : Body) (c : ContextState) (p : Option ℕ) → LedgerAgrees calls (ledger_of calls) f c p
    → (held : ExceptionTable) (table : ExceptionShape) → NamesExceptions calls held table → tried_shape (ledger_of calls) held ≡ try_call_of f.tables table
same-tried calls f c p agrees held table named =
    ap₂ (λ (number : ℕ) (items : List CallItem). tried_shape (ledger_of calls) (record held { signature = number; items = items })) named.signature named.items
    ∙ ap (λ (tables : TableLists). try_call_of tables table) agrees.tables

pub try_call-shape : (calls : List AnsweredCall) (f : Body) (c : ContextState) (p : Option ℕ) → LedgerAgrees calls (ledger_of calls) f c p
    → (function : ℕ) (names : List Name) (values : List ℕ) (held : ExceptionTable) (table : ExceptionShape) → NamesValues calls names values
    → NamesExceptions calls held table
    → HasShape calls f (record { operation = operation.TryCall (function_at (ledger_of calls).tables function).name (tried_shape (ledger_of calls) held); controlling = type.Invalid; operands = names; contexts = held.contexts; edges = held.edges })
    (TryCall function values table) type.Invalid
try_call-shape calls f c p agrees function names values held table numbered named = record {
  operation = ap₂ (λ (tables : TableLists) (call : CallShape). operation.TryCall (function_at tables function).name call) agrees.tables (same-tried calls f c p agrees held table named);
  controlling = refl;
  typed = refl;
  operands_named = numbered;
  contexts_numbered = contexts-numbered calls held.contexts (contexts_of table) named.contexts;
  edges = named.edges;
}

pub try_call_indirect-shape : (calls : List AnsweredCall) (f : Body) (c : ContextState) (p : Option ℕ) → LedgerAgrees calls (ledger_of calls) f c p
    → (callee : Name) (address : ℕ) (names : List Name) (values : List ℕ) (held : ExceptionTable) (table : ExceptionShape) → NamesValue calls callee address
    → NamesValues calls names values → NamesExceptions calls held table
    → HasShape calls f (record { operation = operation.TryCallIndirect (tried_shape (ledger_of calls) held); controlling = type.Invalid; operands = callee ∷ names; contexts = held.contexts; edges = held.edges })
    (TryCallIndirect (address ∷ values) table) type.Invalid
try_call_indirect-shape calls f c p agrees callee address names values held table called numbered named = record {
  operation = ap operation.TryCallIndirect (same-tried calls f c p agrees held table named);
  controlling = refl;
  typed = refl;
  operands_named = names_more calls called numbered;
  contexts_numbered = contexts-numbered calls held.contexts (contexts_of table) named.contexts;
  edges = named.edges;
}
