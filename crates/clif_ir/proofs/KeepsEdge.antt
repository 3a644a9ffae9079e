-- An edge that is replaced, and a context that is, keep a function consistent.
use Rattle.std.proofs.Common.{◌≡◌, ◌≢◌, ℕ, ◌<◌, List, [], length, refl, ap, arith, sym, subst}
use Rattle.std.specs.Prelude.{slice_index, slice_set, All, flat_map}
use Rattle.clif_instructions.specs.declared.block_call.BlockCall.{BlockCall}
use Rattle.clif_instructions.specs.declared.exception_table.ExceptionItem.{ExceptionItem}
use Rattle.clif_instructions.specs.declared.exception_table.ExceptionItem.TheVariants as kept
use Rattle.clif_instructions.specs.declared.instructions.InstructionData.{InstructionData}
use Rattle.clif_instructions.specs.declared.instructions.InstructionData.TheVariants.{Jump, Brif, BranchTable, TryCall, TryCallIndirect}
use Rattle.clif_instructions.specs.ExceptionTables.{item_context}
use Rattle.clif_instructions.specs.Instruction.{contexts, entries_of, operands, destinations, with_context, with_edge}
use Rattle.clif_ir.specs.Body.{Body, inst_at}
use Rattle.clif_ir.specs.Changes.{with_context_of, with_edge_at}
use Rattle.clif_ir.specs.Consistent.{IsConsistent, EdgeExists, EntryExists, ValueExists}
use Rattle.std.proofs.lemmas.List.Elements.{All-cons, All-nil, All-set}
use Rattle.clif_ir.proofs.FlatLists.{all_flat, flat_all}
use Rattle.clif_ir.proofs.KeepsOperand.{all_set, only_set}
use Rattle.clif_ir.proofs.KeepsShape.{Fits, fits_now, with_shape_consistent}

operands-with_edge : (edge : ℕ) (call : BlockCall) (shape : InstructionData) → operands (with_edge edge call shape) ≡ operands shape
operands-with_edge edge call (Jump destination) = refl
operands-with_edge edge call (Brif arg blocks) = refl
operands-with_edge edge call (BranchTable arg table) = refl
operands-with_edge edge call (TryCall function args table) = refl
operands-with_edge edge call (TryCallIndirect args table) = refl
operands-with_edge edge call _ = refl

entries-with_edge : (edge : ℕ) (call : BlockCall) (shape : InstructionData) → entries_of (with_edge edge call shape) ≡ entries_of shape
entries-with_edge edge call (Jump destination) = refl
entries-with_edge edge call (Brif arg blocks) = refl
entries-with_edge edge call (BranchTable arg table) = refl
entries-with_edge edge call (TryCall function args table) = refl
entries-with_edge edge call (TryCallIndirect args table) = refl
entries-with_edge edge call _ = refl

contexts-with_edge : (edge : ℕ) (call : BlockCall) (shape : InstructionData) → contexts (with_edge edge call shape) ≡ contexts shape
contexts-with_edge edge call (Jump destination) = refl
contexts-with_edge edge call (Brif arg blocks) = refl
contexts-with_edge edge call (BranchTable arg table) = refl
contexts-with_edge edge call (TryCall function args table) = refl
contexts-with_edge edge call (TryCallIndirect args table) = refl
contexts-with_edge edge call _ = refl

destinations-with_edge : (edge : ℕ) (call : BlockCall) (shape : InstructionData) → edge < length (destinations shape)
    → destinations (with_edge edge call shape) ≡ slice_set (destinations shape) edge call
destinations-with_edge edge call (Jump destination) inside = only_set destination call edge inside
destinations-with_edge edge call (Brif arg blocks) inside = refl
destinations-with_edge edge call (BranchTable arg table) inside = refl
destinations-with_edge edge call (TryCall function args table) inside = refl
destinations-with_edge edge call (TryCallIndirect args table) inside = refl
destinations-with_edge edge call _ inside = absurd (omega (arith, inside))

fits_with_edge : (f : Body) (results : List ℕ) (edge : ℕ) (call : BlockCall) (shape : InstructionData) → EdgeExists f call → edge < length (destinations shape)
    → Fits f results shape → Fits f results (with_edge edge call shape)
fits_with_edge f results edge call shape exists here fits =
    let some : destinations shape ≢ [] = λ none. let count : length (destinations shape) ≡ 0 = ap (λ (xs : List BlockCall). length xs) none in omega (arith, here, count) in
    record {
      operands_exist = subst (λ xs. (k : ℕ) → k < length xs → slice_index xs k < length f.values) (sym (operands-with_edge edge call shape)) fits.operands_exist;
      contexts_exist = subst (All (ValueExists f)) (sym (contexts-with_edge edge call shape)) fits.contexts_exist;
      edges_exist =
          subst (All (EdgeExists f)) (sym (destinations-with_edge edge call shape here)) (all_set (EdgeExists f) (destinations shape) edge call here exists fits.edges_exist);
      entries_exist = subst (All (EntryExists f.tables)) (sym (entries-with_edge edge call shape)) fits.entries_exist;
      edges_without_results = λ _. fits.edges_without_results some;
    }

pub with_edge_at_consistent : (f : Body) (i edge : ℕ) (call : BlockCall) → IsConsistent f → i < length f.insts → edge < length (destinations (inst_at f i).shape)
    → EdgeExists f call → IsConsistent (with_edge_at f i edge call)
with_edge_at_consistent f i edge call known exists here there =
    with_shape_consistent f i _ known exists (fits_with_edge f _ edge call _ there here (fits_now f i known))

operands-with_context : (item v : ℕ) (shape : InstructionData) → operands (with_context item v shape) ≡ operands shape
operands-with_context item v (TryCall function args table) = refl
operands-with_context item v (TryCallIndirect args table) = refl
operands-with_context item v _ = refl

entries-with_context : (item v : ℕ) (shape : InstructionData) → entries_of (with_context item v shape) ≡ entries_of shape
entries-with_context item v (TryCall function args table) = refl
entries-with_context item v (TryCallIndirect args table) = refl
entries-with_context item v _ = refl

destinations-with_context : (item v : ℕ) (shape : InstructionData) → destinations (with_context item v shape) ≡ destinations shape
destinations-with_context item v (TryCall function args table) = refl
destinations-with_context item v (TryCallIndirect args table) = refl
destinations-with_context item v _ = refl

context_set : (f : Body) (items : List ExceptionItem) (item v : ℕ) → v < length f.values → All (ValueExists f) (flat_map item_context items)
    → All (ValueExists f) (flat_map item_context (slice_set items item (kept.Context v)))
context_set f items item v exists known =
    all_flat (ValueExists f) item_context (slice_set items item (kept.Context v))
    (All-set (λ i. All (ValueExists f) (item_context i)) items item (kept.Context v) (All-cons (ValueExists f) v [] exists (All-nil (ValueExists f))) (flat_all (ValueExists f) item_context items known))

contexts-with_context : (f : Body) (item v : ℕ) (shape : InstructionData) → v < length f.values → All (ValueExists f) (contexts shape)
    → All (ValueExists f) (contexts (with_context item v shape))
contexts-with_context f item v (TryCall function args table) exists known = context_set f table.items item v exists known
contexts-with_context f item v (TryCallIndirect args table) exists known = context_set f table.items item v exists known
contexts-with_context f item v _ exists known = known

fits_with_context : (f : Body) (results : List ℕ) (item v : ℕ) (shape : InstructionData) → v < length f.values → Fits f results shape
    → Fits f results (with_context item v shape)
fits_with_context f results item v shape exists fits = record {
  operands_exist = subst (λ xs. (k : ℕ) → k < length xs → slice_index xs k < length f.values) (sym (operands-with_context item v shape)) fits.operands_exist;
  contexts_exist = contexts-with_context f item v shape exists fits.contexts_exist;
  edges_exist = subst (All (EdgeExists f)) (sym (destinations-with_context item v shape)) fits.edges_exist;
  entries_exist = subst (All (EntryExists f.tables)) (sym (entries-with_context item v shape)) fits.entries_exist;
  edges_without_results = λ some. fits.edges_without_results (subst (λ (edges : List BlockCall). edges ≢ []) (destinations-with_context item v shape) some);
}

pub with_context_of_consistent : (f : Body) (i item v : ℕ) → IsConsistent f → i < length f.insts → v < length f.values → IsConsistent (with_context_of f i item v)
with_context_of_consistent f i item v known exists inside =
    with_shape_consistent f i _ known exists (fits_with_context f _ item v _ inside (fits_now f i known))
