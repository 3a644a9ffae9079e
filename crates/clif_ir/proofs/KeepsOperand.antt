-- An operand that is replaced, and an argument of an edge that is, keep a function consistent.
use Rattle.std.proofs.Common.{◌≡◌, ◌≢◌, ℕ, zero, suc, ◌<◌, List, [], ◌∷◌, length, refl, ap, arith, sym, subst}
use Rattle.std.specs.Prelude.{slice_index, slice_set, All}
use Rattle.std.proofs.lemmas.Grind.{common_steps}
use Rattle.clif_instructions.specs.declared.block_call.BlockArg.TheVariants.{Value}
use Rattle.clif_instructions.specs.declared.block_call.BlockCall.{BlockCall}
use Rattle.clif_instructions.specs.declared.instructions.InstructionData.{InstructionData}
use Rattle.clif_instructions.specs.declared.instructions.InstructionData.TheVariants.{Unary, Binary, IntCompare, Concat, Split, Convert, Ternary, Load, Store, StackStore, Jump, Brif, BranchTable, MultiAry, CondTrap, UnaryImm, UnaryIeee, UnaryConst, StackLoad, Trap, Call, CallIndirect, TryCall, TryCallIndirect}
use Rattle.clif_instructions.specs.Edges.{edge_at, no_edge, with_passed, with_passed_at}
use Rattle.clif_instructions.specs.Instruction.{contexts, entries_of, operands, destinations, with_operand, with_edge_argument}
use Rattle.clif_ir.specs.Body.{Body, inst_at}
use Rattle.clif_ir.specs.Changes.{with_operand_at, with_passed_argument}
use Rattle.clif_ir.specs.Consistent.{IsConsistent, PassedExists, EdgeExists, EntryExists, ValueExists}
use Rattle.clif_instructions.proofs.Lists.{at_set}
use Rattle.clif_ir.proofs.KeepsShape.{Fits, fits_now, with_shape_consistent}

-- what holds of all entries holds of all where one is replaced by one of which it holds
pub all_set : {X : Type 0} (P : X → Type 0) (xs : List X) (i : ℕ) (y : X) → i < length xs → P y → All P xs → All P (slice_set xs i y)
all_set P xs i y inside new old k d below =
    let count : length (slice_set xs i y) ≡ length xs = grind (arith, common_steps) in
    at_set P xs i y k d inside (λ _. new) (λ _. old k d (omega (arith, count, below)))

-- the same of numbers that exist
numbers_set : (n : ℕ) (xs : List ℕ) (place v : ℕ) → v < n → place < length xs → ((k : ℕ) → k < length xs → slice_index xs k < n)
    → (k : ℕ) → k < length (slice_set xs place v) → slice_index (slice_set xs place v) k < n
numbers_set n xs place v inside here known k below =
    let count : length (slice_set xs place v) ≡ length xs = grind (arith, common_steps) in
    at_set (λ x. x < n) xs place v k 0 here (λ _. inside) (λ _. known k (omega (arith, count, below)))

-- a list of one, whose only entry is replaced
pub only_set : {X : Type 0} (x y : X) (place : ℕ) → place < 1 → ◌≡◌ {A = List X} (y ∷ []) (slice_set (x ∷ []) place y)
only_set x y zero inside = refl
only_set x y (suc place) inside = absurd (omega (arith, inside))

operands-with_operand : (place v : ℕ) (shape : InstructionData) → place < length (operands shape)
    → operands (with_operand place v shape) ≡ slice_set (operands shape) place v
operands-with_operand place v (UnaryImm imm) inside = absurd (omega (arith, inside))
operands-with_operand place v (UnaryIeee opcode bits) inside = absurd (omega (arith, inside))
operands-with_operand place v (UnaryConst opcode constant) inside = absurd (omega (arith, inside))
operands-with_operand place v (StackLoad opcode slot offset) inside = absurd (omega (arith, inside))
operands-with_operand place v (Jump destination) inside = absurd (omega (arith, inside))
operands-with_operand place v (Trap code) inside = absurd (omega (arith, inside))
operands-with_operand place v (Unary opcode arg) inside = only_set arg v place inside
operands-with_operand place v (Binary opcode args) inside = refl
operands-with_operand place v (IntCompare cond args) inside = refl
operands-with_operand place v (Concat args) inside = refl
operands-with_operand place v (Split arg) inside = only_set arg v place inside
operands-with_operand place v (Convert opcode arg) inside = only_set arg v place inside
operands-with_operand place v (Ternary args) inside = refl
operands-with_operand place v (Load flags arg offset) inside = only_set arg v place inside
operands-with_operand place v (Store flags args offset) inside = refl
operands-with_operand place v (StackStore arg slot offset) inside = only_set arg v place inside
operands-with_operand place v (Brif arg blocks) inside = only_set arg v place inside
operands-with_operand place v (BranchTable arg table) inside = only_set arg v place inside
operands-with_operand place v (MultiAry args) inside = refl
operands-with_operand place v (CondTrap opcode arg code) inside = only_set arg v place inside
operands-with_operand place v (Call function args) inside = refl
operands-with_operand place v (CallIndirect sig args) inside = refl
operands-with_operand place v (TryCall function args table) inside = refl
operands-with_operand place v (TryCallIndirect args table) inside = refl

destinations-with_operand : (place v : ℕ) (shape : InstructionData) → destinations (with_operand place v shape) ≡ destinations shape
destinations-with_operand place v (Unary opcode arg) = refl
destinations-with_operand place v (Binary opcode args) = refl
destinations-with_operand place v (IntCompare cond args) = refl
destinations-with_operand place v (Concat args) = refl
destinations-with_operand place v (Split arg) = refl
destinations-with_operand place v (Convert opcode arg) = refl
destinations-with_operand place v (Ternary args) = refl
destinations-with_operand place v (Load flags arg offset) = refl
destinations-with_operand place v (Store flags args offset) = refl
destinations-with_operand place v (StackStore arg slot offset) = refl
destinations-with_operand place v (Brif arg blocks) = refl
destinations-with_operand place v (BranchTable arg table) = refl
destinations-with_operand place v (MultiAry args) = refl
destinations-with_operand place v (CondTrap opcode arg code) = refl
destinations-with_operand place v (Call function args) = refl
destinations-with_operand place v (CallIndirect sig args) = refl
destinations-with_operand place v (TryCall function args table) = refl
destinations-with_operand place v (TryCallIndirect args table) = refl
destinations-with_operand place v _ = refl

entries-with_operand : (place v : ℕ) (shape : InstructionData) → entries_of (with_operand place v shape) ≡ entries_of shape
entries-with_operand place v (Unary opcode arg) = refl
entries-with_operand place v (Binary opcode args) = refl
entries-with_operand place v (IntCompare cond args) = refl
entries-with_operand place v (Concat args) = refl
entries-with_operand place v (Split arg) = refl
entries-with_operand place v (Convert opcode arg) = refl
entries-with_operand place v (Ternary args) = refl
entries-with_operand place v (Load flags arg offset) = refl
entries-with_operand place v (Store flags args offset) = refl
entries-with_operand place v (StackStore arg slot offset) = refl
entries-with_operand place v (Brif arg blocks) = refl
entries-with_operand place v (BranchTable arg table) = refl
entries-with_operand place v (MultiAry args) = refl
entries-with_operand place v (CondTrap opcode arg code) = refl
entries-with_operand place v (Call function args) = refl
entries-with_operand place v (CallIndirect sig args) = refl
entries-with_operand place v (TryCall function args table) = refl
entries-with_operand place v (TryCallIndirect args table) = refl
entries-with_operand place v _ = refl

contexts-with_operand : (place v : ℕ) (shape : InstructionData) → contexts (with_operand place v shape) ≡ contexts shape
contexts-with_operand place v (Unary opcode arg) = refl
contexts-with_operand place v (Binary opcode args) = refl
contexts-with_operand place v (IntCompare cond args) = refl
contexts-with_operand place v (Concat args) = refl
contexts-with_operand place v (Split arg) = refl
contexts-with_operand place v (Convert opcode arg) = refl
contexts-with_operand place v (Ternary args) = refl
contexts-with_operand place v (Load flags arg offset) = refl
contexts-with_operand place v (Store flags args offset) = refl
contexts-with_operand place v (StackStore arg slot offset) = refl
contexts-with_operand place v (Brif arg blocks) = refl
contexts-with_operand place v (BranchTable arg table) = refl
contexts-with_operand place v (MultiAry args) = refl
contexts-with_operand place v (CondTrap opcode arg code) = refl
contexts-with_operand place v (Call function args) = refl
contexts-with_operand place v (CallIndirect sig args) = refl
contexts-with_operand place v (TryCall function args table) = refl
contexts-with_operand place v (TryCallIndirect args table) = refl
contexts-with_operand place v _ = refl

fits_with_operand : (f : Body) (results : List ℕ) (place v : ℕ) (shape : InstructionData) → v < length f.values → place < length (operands shape)
    → Fits f results shape → Fits f results (with_operand place v shape)
fits_with_operand f results place v shape inside here fits = record {
  operands_exist =
      subst (λ xs. (k : ℕ) → k < length xs → slice_index xs k < length f.values) (sym (operands-with_operand place v shape here))
      (numbers_set (length f.values) (operands shape) place v inside here fits.operands_exist);
  contexts_exist = subst (All (ValueExists f)) (sym (contexts-with_operand place v shape)) fits.contexts_exist;
  edges_exist = subst (All (EdgeExists f)) (sym (destinations-with_operand place v shape)) fits.edges_exist;
  entries_exist = subst (All (EntryExists f.tables)) (sym (entries-with_operand place v shape)) fits.entries_exist;
  edges_without_results = subst (λ edges. edges ≢ [] → results ≡ []) (sym (destinations-with_operand place v shape)) fits.edges_without_results;
}

pub with_operand_at_consistent : (f : Body) (i place v : ℕ) → IsConsistent f → i < length f.insts → place < length (operands (inst_at f i).shape)
    → v < length f.values → IsConsistent (with_operand_at f i place v)
with_operand_at_consistent f i place v known exists here inside =
    with_shape_consistent f i _ known exists (fits_with_operand f _ place v _ inside here (fits_now f i known))

operands-with_edge_argument : (edge place v : ℕ) (shape : InstructionData) → operands (with_edge_argument edge place v shape) ≡ operands shape
operands-with_edge_argument edge place v (Jump destination) = refl
operands-with_edge_argument edge place v (Brif arg blocks) = refl
operands-with_edge_argument edge place v (BranchTable arg table) = refl
operands-with_edge_argument edge place v (TryCall function args table) = refl
operands-with_edge_argument edge place v (TryCallIndirect args table) = refl
operands-with_edge_argument edge place v _ = refl

entries-with_edge_argument : (edge place v : ℕ) (shape : InstructionData) → entries_of (with_edge_argument edge place v shape) ≡ entries_of shape
entries-with_edge_argument edge place v (Jump destination) = refl
entries-with_edge_argument edge place v (Brif arg blocks) = refl
entries-with_edge_argument edge place v (BranchTable arg table) = refl
entries-with_edge_argument edge place v (TryCall function args table) = refl
entries-with_edge_argument edge place v (TryCallIndirect args table) = refl
entries-with_edge_argument edge place v _ = refl

contexts-with_edge_argument : (edge place v : ℕ) (shape : InstructionData) → contexts (with_edge_argument edge place v shape) ≡ contexts shape
contexts-with_edge_argument edge place v (Jump destination) = refl
contexts-with_edge_argument edge place v (Brif arg blocks) = refl
contexts-with_edge_argument edge place v (BranchTable arg table) = refl
contexts-with_edge_argument edge place v (TryCall function args table) = refl
contexts-with_edge_argument edge place v (TryCallIndirect args table) = refl
contexts-with_edge_argument edge place v _ = refl

-- the only edge of a jump
only_passed : (edge place v : ℕ) (destination : BlockCall) → edge < 1 → with_passed place v destination ∷ [] ≡ with_passed_at edge place v (destination ∷ [])
only_passed zero place v destination inside = refl
only_passed (suc edge) place v destination inside = absurd (omega (arith, inside))

destinations-with_edge_argument : (edge place v : ℕ) (shape : InstructionData) → edge < length (destinations shape)
    → destinations (with_edge_argument edge place v shape) ≡ with_passed_at edge place v (destinations shape)
destinations-with_edge_argument edge place v (Jump destination) inside = only_passed edge place v destination inside
destinations-with_edge_argument edge place v (Brif arg blocks) inside = refl
destinations-with_edge_argument edge place v (BranchTable arg table) inside = refl
destinations-with_edge_argument edge place v (TryCall function args table) inside = refl
destinations-with_edge_argument edge place v (TryCallIndirect args table) inside = refl
destinations-with_edge_argument edge place v _ inside = absurd (omega (arith, inside))

fits_with_edge_argument : (f : Body) (results : List ℕ) (edge place v : ℕ) (shape : InstructionData) → v < length f.values → edge < length (destinations shape)
    → place < length (edge_at (destinations shape) edge).args → Fits f results shape → Fits f results (with_edge_argument edge place v shape)
fits_with_edge_argument f results edge place v shape inside here there fits =
    let was : EdgeExists f (edge_at (destinations shape) edge) = fits.edges_exist edge no_edge here in
    let some : destinations shape ≢ [] = λ none. let count : length (destinations shape) ≡ 0 = ap (λ (xs : List BlockCall). length xs) none in omega (arith, here, count) in
    record {
      operands_exist = subst (λ xs. (k : ℕ) → k < length xs → slice_index xs k < length f.values) (sym (operands-with_edge_argument edge place v shape)) fits.operands_exist;
      contexts_exist = subst (All (ValueExists f)) (sym (contexts-with_edge_argument edge place v shape)) fits.contexts_exist;
      edges_exist =
          subst (All (EdgeExists f)) (sym (destinations-with_edge_argument edge place v shape here))
          (all_set (EdgeExists f) (destinations shape) edge (with_passed place v (edge_at (destinations shape) edge)) here
          (was.0, all_set (PassedExists f) (edge_at (destinations shape) edge).args place (Value v) there inside was.1) fits.edges_exist);
      entries_exist = subst (All (EntryExists f.tables)) (sym (entries-with_edge_argument edge place v shape)) fits.entries_exist;
      edges_without_results = λ _. fits.edges_without_results some;
    }

pub with_passed_argument_consistent : (f : Body) (i edge place v : ℕ) → IsConsistent f → i < length f.insts → edge < length (destinations (inst_at f i).shape)
    → place < length (edge_at (destinations (inst_at f i).shape) edge).args → v < length f.values → IsConsistent (with_passed_argument f i edge place v)
with_passed_argument_consistent f i edge place v known exists here there inside =
    with_shape_consistent f i _ known exists (fits_with_edge_argument f _ edge place v _ inside here there (fits_now f i known))
