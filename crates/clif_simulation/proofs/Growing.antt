-- A function that goes on keeps the caller's instructions, as the machine sees them, though their edges may pass more.
use Rattle.std.proofs.Common.{◌≡◌, ℕ, zero, suc, ◌<◌, ◌≤◌, ◌==◌, List, [], ◌∷◌, ◌++◌, length, map, refl, sym, ◌∙◌, ap, ap₂, subst, arith, Bool, true, false, inl, inr}
use Rattle.std.specs.Prelude.{◌-◌, Some, All, drop, slice_get, slice_index, if◌then◌else◌}
use Rattle.std.proofs.lemmas.List.{length-map}
use Rattle.std.proofs.lemmas.Option.{get_or_from_slice_get, slice_get-get_or}
use Rattle.std.proofs.Math.ListN.{get_or-append}
use Rattle.std.proofs.lemmas.Grind.{common_steps}
use Rattle.clif_types.specs.declared.types.«Type».{«Type»}
use Rattle.clif_instructions.specs.declared.block_call.BlockArg.{BlockArg}
use Rattle.clif_instructions.specs.declared.block_call.BlockArg.TheVariants.{Value}
use Rattle.clif_instructions.specs.declared.block_call.BlockCall.{BlockCall}
use Rattle.clif_nodes.specs.declared.nodes.InstNode.{InstNode}
use Rattle.clif_nodes.specs.declared.nodes.ValueNode.{ValueNode}
use Rattle.clif_instructions.specs.declared.insert_at.InsertAt.{InsertAt}
use Rattle.clif_instructions.specs.declared.instructions.InstructionData.{InstructionData}
use Rattle.clif_instructions.specs.declared.instructions.InstructionData.TheVariants.{UnaryConst, Jump, Brif, BranchTable, Call, CallIndirect, TryCall, TryCallIndirect}
use Rattle.clif_instructions.specs.Edges.{appended_to, with_argument_to, targets}
use Rattle.clif_instructions.specs.Instruction.{contexts, AConstant, ASignatureRef, AFunctionRef, entries_of, operands, destinations, typing_of, with_argument}
use Rattle.clif_opcodes.specs.Kinds.{result_type}
use Rattle.clif_opcodes.specs.declared.kinds.Control.{Control}
use Rattle.clif_opcodes.specs.declared.kinds.Control.TheVariants as control
use Rattle.clif_opcodes.specs.declared.kinds.ResultKind.{ResultKind}
use Rattle.clif_opcodes.specs.declared.kinds.ResultKind.TheVariants as kind
use Rattle.clif_ir.specs.Body.{Body, inst_at, value_at}
use Rattle.clif_nodes.specs.Nodes.{no_value}
use Rattle.clif_types.specs.Signature.{SignatureShape}
use Rattle.clif_types.specs.declared.extfunc.ExtFuncData.{ExtFuncData}
use Rattle.clif_tables.specs.Callees.{function_at, no_function, no_signature, signature_at}
use Rattle.clif_tables.specs.Entries.{TableEntry, AStackSlot, ADynamicStackSlot, AGlobalValue, ASignature, AFunction, SignaturesExist, with_entry}
use Rattle.clif_tables.specs.Lists.{TableLists, stack_map_at}
use Rattle.clif_types.specs.declared.stackmap.UserStackMapEntry.{UserStackMapEntry}
use Rattle.clif_ir.specs.Consistent.{EntryExists, IsConsistent}
use Rattle.clif_ir.specs.Changes.{inserted_in, with_inst}
use Rattle.clif_ssa.specs.Own.{Own}
use Rattle.clif_ssa.specs.Constructs.{MayPassMore, OnlyConstructs, StaysOrNames, with_passed}
use Rattle.clif_ssa.specs.LookUp.{branch_block}
use Rattle.clif_ssa.specs.Sound.{edge_target}
use Rattle.clif_ssa.specs.Structured.{HasType}
use Rattle.clif_ssa.proofs.Completing.{inserted_same}
use Rattle.clif_ssa.proofs.Constructing.{more_none, more_then}
use Rattle.clif_ssa.proofs.Pooled.{pools_keep}
use Rattle.clif_meaning.specs.Instruction.{Operation, Compute, PooledConst, BrTable, Edge}
use Rattle.clif_meaning.specs.Instruction as operation
use Rattle.clif_meaning.specs.FunctionView.{Placed}
use Rattle.clif_meaning.specs.View.{argument_of, call_item_of, edge_of, edges_of, first_type, constant_at, controlling_of, operation_of, controlled, made_with}
use Rattle.clif_simulation.specs.Carries.{as_passed, own_placed}

-- The entries of tables from which it comes what instructions do keep their numbers, and each instruction its stack map.
pub record KeepsEntries (t u : TableLists) : Type 0 where
  pub constants : (k : ℕ) (bytes : List ℕ) → slice_get t.constants k ≡ Some bytes → slice_get u.constants k ≡ Some bytes
  pub signatures : (k : ℕ) (signature : SignatureShape) → slice_get t.signatures k ≡ Some signature → slice_get u.signatures k ≡ Some signature
  pub functions : (k : ℕ) (function : ExtFuncData) → slice_get t.functions k ≡ Some function → slice_get u.functions k ≡ Some function
  pub maps : (inst : ℕ) → stack_map_at u inst ≡ stack_map_at t inst

pub entries_same : (t u : TableLists) → u ≡ t → KeepsEntries t u
entries_same t u same = record {
  constants = λ k bytes here. ap (λ (v : TableLists). slice_get v.constants k) same ∙ here;
  signatures = λ k signature here. ap (λ (v : TableLists). slice_get v.signatures k) same ∙ here;
  functions = λ k function here. ap (λ (v : TableLists). slice_get v.functions k) same ∙ here;
  maps = λ inst. ap (λ (v : TableLists). stack_map_at v inst) same;
}

-- where constants keep their numbers, and nothing else is another
pub entries_pooled : (t u : TableLists) → ((k : ℕ) (bytes : List ℕ) → slice_get t.constants k ≡ Some bytes → slice_get u.constants k ≡ Some bytes)
    → u.signatures ≡ t.signatures → u.functions ≡ t.functions → u.stack_maps ≡ t.stack_maps → KeepsEntries t u
entries_pooled t u constants signatures functions maps = record {
  constants = constants;
  signatures = λ k signature here. ap (λ (all : List SignatureShape). slice_get all k) signatures ∙ here;
  functions = λ k function here. ap (λ (all : List ExtFuncData). slice_get all k) functions ∙ here;
  maps = λ inst. ap (λ (all : List (ℕ × List UserStackMapEntry)). stack_map_at (record t { stack_maps = all }) inst) maps;
}

pub entries_then : (t u v : TableLists) → KeepsEntries t u → KeepsEntries u v → KeepsEntries t v
entries_then t u v first second = record {
  constants = λ k bytes here. second.constants k bytes (first.constants k bytes here);
  signatures = λ k signature here. second.signatures k signature (first.signatures k signature here);
  functions = λ k function here. second.functions k function (first.functions k function here);
  maps = λ inst. second.maps inst ∙ first.maps inst;
}

get_front : {X : Type 0} (xs ys : List X) (k : ℕ) (x : X) → slice_get xs k ≡ Some x → slice_get (xs ++ ys) k ≡ Some x
get_front [] ys k x is = cc
get_front (y ∷ xs) ys zero x is = is
get_front (y ∷ xs) ys (suc k) x is = get_front xs ys k x is

-- with an entry more at the end of its table
pub entries_kept : (t : TableLists) (entry : TableEntry) → KeepsEntries t (with_entry t entry)
entries_kept t (ASignature signature) = record {
  constants = λ k bytes here. here;
  signatures = λ k was here. get_front t.signatures (signature ∷ []) k was here;
  functions = λ k function here. here;
  maps = λ inst. refl;
}
entries_kept t (AFunction function) = record {
  constants = λ k bytes here. here;
  signatures = λ k signature here. here;
  functions = λ k was here. get_front t.functions (function ∷ []) k was here;
  maps = λ inst. refl;
}
entries_kept t (AStackSlot slot) = record { constants = λ k bytes here. here; signatures = λ k signature here. here; functions = λ k function here. here; maps = λ inst. refl }
entries_kept t (ADynamicStackSlot slot) = record { constants = λ k bytes here. here; signatures = λ k signature here. here; functions = λ k function here. here; maps = λ inst. refl }
entries_kept t (AGlobalValue value) = record { constants = λ k bytes here. here; signatures = λ k signature here. here; functions = λ k function here. here; maps = λ inst. refl }

-- A function that goes on: its instructions stay, but that their edges may pass more, its values keep their types, and what is in
-- its tables its numbers.
pub record GoesOn (f g : Body) : Type 0 where
  pub insts : (i : ℕ) → i < length f.insts → MayPassMore (inst_at f i) (inst_at g i)
  pub types : (v : ℕ) → v < length f.values → (value_at g v).ty ≡ (value_at f v).ty
  pub more_insts : length f.insts ≤ length g.insts
  pub more_values : length f.values ≤ length g.values
  pub entries : KeepsEntries f.tables g.tables

pub goes_on-constructs : (f g : Body) → OnlyConstructs f g → GoesOn f g
goes_on-constructs f g constructs = record {
  insts = constructs.same_insts;
  types = λ v below. of (value_at f v) (value_at g v) (constructs.same_values v below);
  more_insts = constructs.insts;
  more_values = constructs.values;
  entries = entries_pooled f.tables g.tables (pools_keep f g constructs.tables) (ap (λ (t : TableLists). t.signatures) constructs.tables.same)
      (ap (λ (t : TableLists). t.functions) constructs.tables.same) (ap (λ (t : TableLists). t.stack_maps) constructs.tables.same);
}
  where
    of : (old new : ValueNode) → StaysOrNames old new → new.ty ≡ old.ty
    of old new (inl same) = ap (λ (n : ValueNode). n.ty) same
    of old new (inr names) = ap (λ (n : ValueNode). n.ty) names.3

pub goes_on-with_inst : (f : Body) (b : ℕ) (at : InsertAt) (shape : InstructionData) (types : List «Type») (loc : ℕ) → GoesOn f (with_inst f b at shape types loc)
goes_on-with_inst f b at shape types loc = record {
  insts = λ i below.
      subst (λ (node : InstNode). MayPassMore (inst_at f i) node) (sym (get_or-append f.insts _ _ i below)) (more_none (inst_at f i));
  types = λ v below. ap (λ (n : ValueNode). n.ty) (get_or-append f.values _ no_value v below);
  more_insts = grind (arith, common_steps);
  more_values = grind (arith, common_steps);
  entries = entries_same f.tables f.tables refl;
}

-- the same from a function with the same instructions and values
pub goes_on-from : (f h g : Body) → h.insts ≡ f.insts → h.values ≡ f.values → KeepsEntries f.tables h.tables → GoesOn h g → GoesOn f g
goes_on-from f h g insts values entries on = record {
  insts = λ i below.
      subst (λ (is : List InstNode). MayPassMore (inst_at (record f { insts = is }) i) (inst_at g i)) insts (on.insts i (subst (λ (is : List InstNode). i < length is) (sym insts) below));
  types = λ v below.
      subst (λ (vs : List ValueNode). (value_at g v).ty ≡ (value_at (record f { values = vs }) v).ty) values (on.types v (subst (λ (vs : List ValueNode). v < length vs) (sym values) below));
  more_insts = subst (λ (is : List InstNode). length is ≤ length g.insts) insts on.more_insts;
  more_values = subst (λ (vs : List ValueNode). length vs ≤ length g.values) values on.more_values;
  entries = entries_then f.tables h.tables g.tables entries on.entries;
}

pub goes_on-then : (f g h : Body) → GoesOn f g → GoesOn g h → GoesOn f h
goes_on-then f g h first second = record {
  insts = λ i below. more_then (inst_at f i) (inst_at g i) (inst_at h i) (first.insts i below) (second.insts i (omega (arith, below, first.more_insts)));
  types = λ v below. second.types v (omega (arith, below, first.more_values)) ∙ first.types v below;
  more_insts = omega (arith, first.more_insts, second.more_insts);
  more_values = omega (arith, first.more_values, second.more_values);
  entries = entries_then f.tables g.tables h.tables first.entries second.entries;
}

-- a block in the layout
pub inserted_entries : (f : Body) (b : ℕ) → KeepsEntries f.tables (inserted_in f b).tables
inserted_entries f b = entries_same f.tables (inserted_in f b).tables (inserted_same f b).tables

-- WHAT AN INSTRUCTION DOES ----------------------------------------------------------------------------------------------

-- an entry that is there and keeps its number is the same
signature_kept : (t u : TableLists) → KeepsEntries t u → (sig : ℕ) → sig < length t.signatures → signature_at u sig ≡ signature_at t sig
signature_kept t u keeps sig below =
    get_or_from_slice_get u.signatures sig (signature_at t sig) no_signature
    (keeps.signatures sig (signature_at t sig) (slice_get-get_or t.signatures sig no_signature below))

function_kept : (t u : TableLists) → KeepsEntries t u → (function : ℕ) → function < length t.functions → function_at u function ≡ function_at t function
function_kept t u keeps function below =
    get_or_from_slice_get u.functions function (function_at t function) no_function
    (keeps.functions function (function_at t function) (slice_get-get_or t.functions function no_function below))

-- a shape does what it does where the entries that it names keep their numbers
pub operation_kept : (t u : TableLists) → KeepsEntries t u → SignaturesExist t → (shape : InstructionData) → All (EntryExists t) (entries_of shape)
    → operation_of u shape ≡ operation_of t shape
operation_kept t u keeps have (UnaryConst opcode constant) exists =
    let below : constant < length t.constants = exists 0 (AConstant 0) (omega arith) in
    let bytes : List ℕ = constant_at t constant in
    ap (λ (found : List ℕ). Compute (PooledConst opcode found))
    (get_or_from_slice_get u.constants constant bytes [] (keeps.constants constant bytes (slice_get-get_or t.constants constant [] below)))
operation_kept t u keeps have (Call function args) exists =
    let there : function < length t.functions = exists 0 (AFunctionRef 0) (omega arith) in
    let same : function_at u function ≡ function_at t function = function_kept t u keeps function there in
    let signature : signature_at u (function_at t function).signature ≡ signature_at t (function_at t function).signature =
    signature_kept t u keeps (function_at t function).signature (have function no_function there) in
    ap (λ (found : ExtFuncData). operation.Call found.name (signature_at u found.signature)) same
    ∙ ap (operation.Call (function_at t function).name) signature
operation_kept t u keeps have (CallIndirect sig args) exists =
    ap operation.CallIndirect (signature_kept t u keeps sig (exists 0 (ASignatureRef 0) (omega arith)))
operation_kept t u keeps have (TryCall function args table) exists =
    let there : function < length t.functions = exists 0 (AFunctionRef 0) (omega arith) in
    ap₂ (λ (found : ExtFuncData) (signature : SignatureShape). operation.TryCall found.name (record { signature = signature; items = map call_item_of table.items }))
    (function_kept t u keeps function there)
    (signature_kept t u keeps table.sig (exists 1 (ASignatureRef 0) (omega arith)))
operation_kept t u keeps have (TryCallIndirect args table) exists =
    ap (λ (signature : SignatureShape). operation.TryCallIndirect (record { signature = signature; items = map call_item_of table.items }))
    (signature_kept t u keeps table.sig (exists 0 (ASignatureRef 0) (omega arith)))
operation_kept t u keeps have _ exists = refl

-- THE CALLER'S INSTRUCTIONS ----------------------------------------------------------------------------------------------

-- an instruction by its parts
abbrev parts : Operation → «Type» → List ℕ → List ℕ → List (Edge ℕ ℕ) → List ℕ → List UserStackMapEntry → Placed
parts operation controlling arguments contexts edges results stack_map =
    record { instruction = record { operation = operation; controlling = controlling; operands = arguments; contexts = contexts; edges = edges }; results = results; stack_map = stack_map }

-- The second function has the instructions of the first, and maybe more; as the machine sees them they are the caller's.
pub record KeepsInsts (f g : Body) : Type 0 where
  pub placed : (own : Own) (i : ℕ) → i < length f.insts → own_placed own g i ≡ own_placed own f i
  pub targets : (i k : ℕ) → i < length f.insts → edge_target g i k ≡ edge_target f i k
  pub block : (i : ℕ) → i < length f.insts → branch_block g i ≡ branch_block f i
  pub more : length f.insts ≤ length g.insts
  pub types : (v : ℕ) (ty : «Type») → HasType f v ty → HasType g v ty
  pub maps : (i : ℕ) → stack_map_at g.tables i ≡ stack_map_at f.tables i

-- instructions, values and tables stay
pub insts_same : (f g : Body) → g.insts ≡ f.insts → g.values ≡ f.values → g.tables ≡ f.tables → KeepsInsts f g
insts_same f g insts values tables = record {
  placed = λ own i below.
      ap (λ (is : List InstNode). own_placed own (record g { insts = is }) i) insts
      ∙ ap (λ (vs : List ValueNode). own_placed own (record g { insts = f.insts; values = vs }) i) values
      ∙ ap (λ (t : TableLists). parts (operation_of t (inst_at f i).shape) (controlling_of f (inst_at f i).shape (inst_at f i).results) (operands (inst_at f i).shape) (contexts (inst_at f i).shape)
      (as_passed (own.passed i) 0 (edges_of (inst_at f i).shape)) (inst_at f i).results (stack_map_at t i)) tables;
  targets = λ i k below. ap (λ (is : List InstNode). edge_target (record f { insts = is }) i k) insts;
  block = λ i below. ap (λ (is : List InstNode). branch_block (record f { insts = is }) i) insts;
  more = omega (arith, ap (λ (is : List InstNode). length is) insts);
  types = λ v ty typed. subst (λ (vs : List ValueNode). HasType (record g { values = vs }) v ty) (sym values) typed;
  maps = λ i. ap (λ (t : TableLists). stack_map_at t i) tables;
}

pub insts_then : (f g h : Body) → KeepsInsts f g → KeepsInsts g h → KeepsInsts f h
insts_then f g h first next = record {
  placed = λ own i below. next.placed own i (let m = first.more in omega (arith, m, below)) ∙ first.placed own i below;
  targets = λ i k below. next.targets i k (let m = first.more in omega (arith, m, below)) ∙ first.targets i k below;
  block = λ i below. next.block i (let m = first.more in omega (arith, m, below)) ∙ first.block i below;
  more = let a = first.more in let b = next.more in omega (arith, a, b);
  types = λ v ty typed. next.types v ty (first.types v ty typed);
  maps = λ i. next.maps i ∙ first.maps i;
}

pub insts_inserted : (f : Body) (b : ℕ) → KeepsInsts f (inserted_in f b)
insts_inserted f b =
    insts_same f (inserted_in f b) (inserted_same f b).insts (inserted_same f b).values (inserted_same f b).tables

-- what an argument more leaves of an instruction
targets_appended : (b v : ℕ) (edges : List BlockCall) → targets (with_argument_to b v edges) ≡ targets edges
targets_appended b v [] = refl
targets_appended b v (edge ∷ edges) = ap₂ (λ (t : ℕ) (ts : List ℕ). t ∷ ts) (by (edge.block == b)) (targets_appended b v edges)
  where
    by : (test : Bool) → (if test then record edge { args = edge.args ++ Value v ∷ [] } else edge).block ≡ edge.block
    by true = refl
    by false = refl

targets_with : (b v : ℕ) (shape : InstructionData) → targets (destinations (with_argument b v shape)) ≡ targets (destinations shape)
targets_with b v (Jump destination) = targets_appended b v (destination ∷ [])
targets_with b v (Brif arg blocks) = targets_appended b v blocks
targets_with b v (BranchTable arg table) = targets_appended b v table
targets_with b v (TryCall function args table) = targets_appended b v table.edges
targets_with b v (TryCallIndirect args table) = targets_appended b v table.edges
targets_with b v _ = refl

operation_with : (t : TableLists) (b v : ℕ) (shape : InstructionData) → operation_of t (with_argument b v shape) ≡ operation_of t shape
operation_with t b v (Jump destination) = refl
operation_with t b v (Brif arg blocks) = refl
operation_with t b v (BranchTable arg table) = ap (λ (n : ℕ). BrTable (n - 1)) (length-map table (appended_to b v))
operation_with t b v (TryCall function args table) = refl
operation_with t b v (TryCallIndirect args table) = refl
operation_with t b v _ = refl

operands_with : (b v : ℕ) (shape : InstructionData) → operands (with_argument b v shape) ≡ operands shape
operands_with b v (Jump destination) = refl
operands_with b v (Brif arg blocks) = refl
operands_with b v (BranchTable arg table) = refl
operands_with b v (TryCall function args table) = refl
operands_with b v (TryCallIndirect args table) = refl
operands_with b v _ = refl

contexts_with : (b v : ℕ) (shape : InstructionData) → contexts (with_argument b v shape) ≡ contexts shape
contexts_with b v (Jump destination) = refl
contexts_with b v (Brif arg blocks) = refl
contexts_with b v (BranchTable arg table) = refl
contexts_with b v (TryCall function args table) = refl
contexts_with b v (TryCallIndirect args table) = refl
contexts_with b v _ = refl

controlling_with : (g : Body) (b v : ℕ) (shape : InstructionData) (values : List ℕ) → controlling_of g (with_argument b v shape) values ≡ controlling_of g shape values
controlling_with g b v (Jump destination) values = refl
controlling_with g b v (Brif arg blocks) values = refl
controlling_with g b v (BranchTable arg table) values = refl
controlling_with g b v (TryCall function args table) values = refl
controlling_with g b v (TryCallIndirect args table) values = refl
controlling_with g b v _ values = refl

-- the same for more arguments
record SameButArguments (g : Body) (old new : InstructionData) : Type 0 where
  pub targets_same : targets (destinations new) ≡ targets (destinations old)
  pub operation : (t : TableLists) → operation_of t new ≡ operation_of t old
  pub operands_same : operands new ≡ operands old
  pub contexts_same : contexts new ≡ contexts old
  pub controlling : (values : List ℕ) → controlling_of g new values ≡ controlling_of g old values

same_with : (g : Body) (more : List (ℕ × ℕ)) (shape : InstructionData) → SameButArguments g shape (with_passed more shape)
same_with g [] shape = record { targets_same = refl; operation = λ t. refl; operands_same = refl; contexts_same = refl; controlling = λ values. refl }
same_with g (more ∷ others) shape =
    let rest = same_with g others (with_argument more.0 more.1 shape) in
    record {
      targets_same = rest.targets_same ∙ targets_with more.0 more.1 shape;
      operation = λ t. rest.operation t ∙ operation_with t more.0 more.1 shape;
      operands_same = rest.operands_same ∙ operands_with more.0 more.1 shape;
      contexts_same = rest.contexts_same ∙ contexts_with more.0 more.1 shape;
      controlling = λ values. rest.controlling values ∙ controlling_with g more.0 more.1 shape values;
    }

-- edges to the same targets are the same, but for what they pass
edges_passed : (passed : ℕ → List BlockArg) (k : ℕ) (first second : List BlockCall) → targets first ≡ targets second
    → as_passed passed k (map edge_of first) ≡ as_passed passed k (map edge_of second)
edges_passed passed k [] [] same = refl
edges_passed passed k [] (e ∷ second) same = absurd cc
edges_passed passed k (e ∷ first) [] same = absurd cc
edges_passed passed k (d ∷ first) (e ∷ second) same =
    ap₂ (λ (t : ℕ) (es : List (Edge ℕ ℕ)). record { target = t; arguments = map argument_of (passed k) } ∷ es)
    (head d.block e.block (targets first) (targets second) same)
    (edges_passed passed (suc k) first second (tail d.block e.block (targets first) (targets second) same))
  where
    head : (x y : ℕ) (xs ys : List ℕ) → x ∷ xs ≡ y ∷ ys → x ≡ y
    head x y xs ys h = cc

    tail : (x y : ℕ) (xs ys : List ℕ) → x ∷ xs ≡ y ∷ ys → xs ≡ ys
    tail x y xs ys h = cc

-- the types of what is named stay
first_kept : (f g : Body) → GoesOn f g → (values : List ℕ) → ((k : ℕ) → k < length values → slice_index values k < length f.values) → first_type g values ≡ first_type f values
first_kept f g on [] exist = refl
first_kept f g on (v ∷ values) exist = on.types v (exist 0 (omega arith))

-- what stands behind so many things of a list exists as those do
behind_exist : (n place : ℕ) (values : List ℕ) → ((k : ℕ) → k < length values → slice_index values k < n)
    → (k : ℕ) → k < length (drop place values) → slice_index (drop place values) k < n
behind_exist n zero values exist = exist
behind_exist n (suc place) [] exist = λ k below. absurd (omega (arith, below))
behind_exist n (suc place) (v ∷ values) exist = behind_exist n place values (λ k below. exist (suc k) (omega (arith, below)))

controlled_kept : (f g : Body) → GoesOn f g → (kinds : List ResultKind) (how : Control) (values results : List ℕ)
    → ((k : ℕ) → k < length values → slice_index values k < length f.values) → ((k : ℕ) → k < length results → slice_index results k < length f.values)
    → controlled g kinds how values results ≡ controlled f kinds how values results
controlled_kept f g on (kind.Controlling ∷ kinds) how values results exist results_exist = first_kept f g on results results_exist
controlled_kept f g on _ (control.Operand place) values results exist results_exist =
    first_kept f g on (drop place values) (behind_exist (length f.values) place values exist)
controlled_kept f g on _ _ values results exist results_exist = refl

controlling_kept : (f g : Body) → GoesOn f g → (shape : InstructionData) (values : List ℕ) → ((k : ℕ) → k < length values → slice_index values k < length f.values)
    → ((k : ℕ) → k < length (operands shape) → slice_index (operands shape) k < length f.values)
    → controlling_of g shape values ≡ controlling_of f shape values
controlling_kept f g on shape values exist operands_exist =
    controlled_kept f g on (typing_of shape).results (typing_of shape).control (operands shape) values operands_exist exist

-- An instruction that was made at a type is made at it in the function that has it: its first result has its type, and its
-- operands keep theirs.
pub made_controlled : (f g : Body) → GoesOn f g → (kinds : List ResultKind) (how : Control) (values results : List ℕ) (ty : «Type»)
    → ((k : ℕ) → k < length values → slice_index values k < length f.values)
    → ((first : ResultKind) (others : List ResultKind) → kinds ≡ first ∷ others → first_type g results ≡ result_type ty first)
    → controlled g kinds how values results ≡ made_with f kinds how values ty
made_controlled f g on (kind.Controlling ∷ kinds) how values results ty exist first = first kind.Controlling kinds refl
made_controlled f g on _ (control.Operand place) values results ty exist first = first_kept f g on (drop place values) (behind_exist (length f.values) place values exist)
made_controlled f g on _ _ values results ty exist first = refl

pub insts_kept : (f g : Body) → IsConsistent f → GoesOn f g → KeepsInsts f g
insts_kept f g consistent on = record {
  placed = λ own i below.
      let more = on.insts i below in
      let same = same_with g more.0 (inst_at f i).shape in
      ap (λ (stack_map : List UserStackMapEntry). record (own_placed own g i) { stack_map = stack_map }) (on.entries.maps i)
      ∙ ap (λ (node : InstNode). parts (operation_of g.tables node.shape) (controlling_of g node.shape node.results) (operands node.shape) (contexts node.shape) (as_passed (own.passed i) 0 (edges_of node.shape)) node.results (stack_map_at f.tables i)) more.1
      ∙ parts_same (inst_at f i).results (stack_map_at f.tables i) (same.operation g.tables ∙ operation_kept f.tables g.tables on.entries consistent.named_exist.signatures (inst_at f i).shape (consistent.entries_exist i))
      (same.controlling (inst_at f i).results
      ∙ controlling_kept f g on (inst_at f i).shape (inst_at f i).results (λ k h. (consistent.results_known i k h).0) (consistent.operands_exist i))
      same.operands_same same.contexts_same
      (edges_passed (own.passed i) 0 (destinations (with_passed more.0 (inst_at f i).shape)) (destinations (inst_at f i).shape) same.targets_same);
  targets = λ i k below.
      let more = on.insts i below in
      ap (λ (node : InstNode). slice_get (targets (destinations node.shape)) k) more.1
      ∙ ap (λ (ts : List ℕ). slice_get ts k) (same_with g more.0 (inst_at f i).shape).targets_same;
  block = λ i below. ap (λ (node : InstNode). node.block) (on.insts i below).1;
  more = on.more_insts;
  types = λ v ty typed. (let m = on.more_values in omega (arith, typed.0, m), on.types v typed.0 ∙ typed.1);
  maps = on.entries.maps;
}
  where
    parts_same : {o p : Operation} {c d : «Type»} {xs ys us vs : List ℕ} {es fs : List (Edge ℕ ℕ)} (rs : List ℕ) (stack_map : List UserStackMapEntry)
        → o ≡ p → c ≡ d → xs ≡ ys → us ≡ vs → es ≡ fs → parts o c xs us es rs stack_map ≡ parts p d ys vs fs rs stack_map
    parts_same {o} {p} {c} {d} {xs} {ys} {us} {vs} {es} {fs} rs stack_map a b e w g =
        ap (λ (q : Operation). parts q c xs us es rs stack_map) a ∙ ap (λ (t : «Type»). parts p t xs us es rs stack_map) b
        ∙ ap (λ (zs : List ℕ). parts p d zs us es rs stack_map) e ∙ ap (λ (zs : List ℕ). parts p d ys zs es rs stack_map) w
        ∙ ap (λ (gs : List (Edge ℕ ℕ)). parts p d ys vs gs rs stack_map) g
