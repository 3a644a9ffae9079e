-- An instruction that is rewritten in its place keeps a function consistent.
use Rattle.std.proofs.Common.{◌≡◌, ◌≢◌, ℕ, ◌<◌, List, [], length, refl, ap, arith, sym, ◌∙◌, subst, Bool, true, false}
use Rattle.std.specs.Prelude.{slice_index, All, ◌==◌, if◌then◌else◌}
use Rattle.std.proofs.lemmas.Grind.{common_steps}
use Rattle.std.proofs.lemmas.List.Elements.{All-map, All-weaker}
use Rattle.clif_instructions.specs.declared.block_call.BlockCall.{BlockCall}
use Rattle.clif_nodes.specs.declared.nodes.InstNode.{InstNode}
use Rattle.clif_nodes.specs.declared.nodes.ValueOrigin.TheVariants.{Result}
use Rattle.clif_instructions.specs.declared.instructions.InstructionData.{InstructionData}
use Rattle.clif_instructions.specs.declared.instructions.InstructionData.TheVariants.{Jump, Brif, BranchTable, TryCall, TryCallIndirect}
use Rattle.clif_instructions.specs.Edges.{redirected, with_target_changed}
use Rattle.clif_instructions.specs.Instruction.{contexts, entries_of, operands, destinations, with_targets_changed}
use Rattle.clif_ir.specs.Body.{Body, inst_at, value_at, block_at}
use Rattle.clif_nodes.specs.Nodes.{no_inst}
use Rattle.clif_ir.specs.Changes.{with_shape, with_branch_target}
use Rattle.clif_ir.specs.Consistent.{IsConsistent, EdgeExists, EntryExists, ValueExists}
use Rattle.clif_instructions.specs.Members.{Stands}
use Rattle.clif_instructions.proofs.Lists.{at_set}
use Rattle.clif_ir.proofs.Keeps.{larger_origin}

-- what a shape names exists, and it fits results that are there
pub record Fits (f : Body) (results : List ℕ) (shape : InstructionData) : Type 0 where
  pub operands_exist : (k : ℕ) → k < length (operands shape) → slice_index (operands shape) k < length f.values
  pub contexts_exist : All (ValueExists f) (contexts shape)
  pub edges_exist : All (EdgeExists f) (destinations shape)
  pub entries_exist : All (EntryExists f.tables) (entries_of shape)
  pub edges_without_results : destinations shape ≢ [] → results ≡ []

-- the shape of each instruction fits
pub fits_now : (f : Body) (i : ℕ) → IsConsistent f → Fits f (inst_at f i).results (inst_at f i).shape
fits_now f i known = record {
  operands_exist = known.operands_exist i;
  contexts_exist = known.contexts_exist i;
  edges_exist = known.edges_exist i;
  entries_exist = known.entries_exist i;
  edges_without_results = known.edges_without_results i;
}

pub with_shape_consistent : (f : Body) (i : ℕ) (shape : InstructionData) → IsConsistent f → i < length f.insts → Fits f (inst_at f i).results shape
    → IsConsistent (with_shape f i shape)
with_shape_consistent f i shape known exists fits =
    let g : Body = with_shape f i shape in
    let node : InstNode = record (inst_at f i) { shape = shape } in
    let count : length g.insts ≡ length f.insts = grind (arith, common_steps) in
    let same_results : (j : ℕ) → (inst_at g j).results ≡ (inst_at f j).results =
    λ j. at_set (λ (m : InstNode). m.results ≡ (inst_at f j).results) f.insts i node j no_inst exists (λ same. ap (λ k. (inst_at f k).results) (sym same)) (λ _. refl) in
    let same_block : (j : ℕ) → (inst_at g j).block ≡ (inst_at f j).block =
    λ j. at_set (λ (m : InstNode). m.block ≡ (inst_at f j).block) f.insts i node j no_inst exists (λ same. ap (λ k. (inst_at f k).block) (sym same)) (λ _. refl) in
    record {
      values_fit = known.values_fit;
      insts_fit = omega (arith, count, known.insts_fit);
      blocks_fit = known.blocks_fit;
      origins = λ u here. larger_origin f g u _ (λ j there. (omega (arith, there, count), same_results j)) (λ c there. (there, λ stands. stands)) (omega arith) (known.origins u here);
      operands_exist = λ j.
          at_set (λ (m : InstNode). (k : ℕ) → k < length (operands m.shape) → slice_index (operands m.shape) k < length f.values) f.insts i node j no_inst exists
          (λ _. fits.operands_exist) (λ _. known.operands_exist j);
      contexts_exist = λ j.
          at_set (λ (m : InstNode). All (ValueExists f) (contexts m.shape)) f.insts i node j no_inst exists
          (λ _. fits.contexts_exist) (λ _. known.contexts_exist j);
      edges_exist = λ j.
          at_set (λ (m : InstNode). All (EdgeExists f) (destinations m.shape)) f.insts i node j no_inst exists
          (λ _. fits.edges_exist) (λ _. known.edges_exist j);
      results_known = λ j. subst (λ xs. (k : ℕ) → k < length xs → (slice_index xs k < length f.values) × ((value_at f (slice_index xs k)).origin ≡ Result j k)) (sym (same_results j)) (known.results_known j);
      params_known = known.params_known;
      params_once = known.params_once;
      insts_stand = λ j here.
          subst (λ c. (c < length f.blocks) × Stands j (block_at f c).insts) (sym (same_block j)) (known.insts_stand j (omega (arith, here, count)));
      insts_known = λ c k here.
          let there : (slice_index (block_at f c).insts k < length f.insts) × ((inst_at f (slice_index (block_at f c).insts k)).block ≡ c) = known.insts_known c k here in
          (omega (arith, count, there.0), same_block _ ∙ there.1);
      insts_once = known.insts_once;
      layout_exists = known.layout_exists;
      layout_once = known.layout_once;
      aliases_end = known.aliases_end;
      named_exist = known.named_exist;
      maps_known = λ j past. known.maps_known j (omega (arith, count, past));
      entries_exist = λ j.
          at_set (λ (m : InstNode). All (EntryExists f.tables) (entries_of m.shape)) f.insts i node j no_inst exists
          (λ _. fits.entries_exist) (λ _. known.entries_exist j);
      edges_without_results = λ j.
          at_set (λ (m : InstNode). destinations m.shape ≢ [] → m.results ≡ []) f.insts i node j no_inst exists
          (λ _. fits.edges_without_results) (λ _. known.edges_without_results j);
    }

-- the shape with other targets, by format
operands-with_targets_changed : (from to : ℕ) (shape : InstructionData) → operands (with_targets_changed from to shape) ≡ operands shape
operands-with_targets_changed from to (Jump destination) = refl
operands-with_targets_changed from to (Brif arg blocks) = refl
operands-with_targets_changed from to (BranchTable arg table) = refl
operands-with_targets_changed from to (TryCall function args table) = refl
operands-with_targets_changed from to (TryCallIndirect args table) = refl
operands-with_targets_changed from to _ = refl

destinations-with_targets_changed : (from to : ℕ) (shape : InstructionData)
    → destinations (with_targets_changed from to shape) ≡ with_target_changed from to (destinations shape)
destinations-with_targets_changed from to (Jump destination) = refl
destinations-with_targets_changed from to (Brif arg blocks) = refl
destinations-with_targets_changed from to (BranchTable arg table) = refl
destinations-with_targets_changed from to (TryCall function args table) = refl
destinations-with_targets_changed from to (TryCallIndirect args table) = refl
destinations-with_targets_changed from to _ = refl

entries-with_targets_changed : (from to : ℕ) (shape : InstructionData) → entries_of (with_targets_changed from to shape) ≡ entries_of shape
entries-with_targets_changed from to (Jump destination) = refl
entries-with_targets_changed from to (Brif arg blocks) = refl
entries-with_targets_changed from to (BranchTable arg table) = refl
entries-with_targets_changed from to (TryCall function args table) = refl
entries-with_targets_changed from to (TryCallIndirect args table) = refl
entries-with_targets_changed from to _ = refl

contexts-with_targets_changed : (from to : ℕ) (shape : InstructionData) → contexts (with_targets_changed from to shape) ≡ contexts shape
contexts-with_targets_changed from to (Jump destination) = refl
contexts-with_targets_changed from to (Brif arg blocks) = refl
contexts-with_targets_changed from to (BranchTable arg table) = refl
contexts-with_targets_changed from to (TryCall function args table) = refl
contexts-with_targets_changed from to (TryCallIndirect args table) = refl
contexts-with_targets_changed from to _ = refl

-- an edge that goes to an existing block instead names what exists, by whether it went to the first block
redirected-exists-by : (f : Body) (from to : ℕ) (edge : BlockCall) → to < length f.blocks → EdgeExists f edge → (test : Bool) → (edge.block == from) ≡ test
    → EdgeExists f (redirected from to edge)
redirected-exists-by f from to edge inside here true same =
    let moved : BlockCall = record edge { block = to } in
    subst (EdgeExists f) (sym (ap (λ test. if test then moved else edge) same)) (inside, here.1)
redirected-exists-by f from to edge inside here false other =
    let moved : BlockCall = record edge { block = to } in
    subst (EdgeExists f) (sym (ap (λ test. if test then moved else edge) other)) here

redirected-exists : (f : Body) (from to : ℕ) → to < length f.blocks → (edge : BlockCall) → EdgeExists f edge → EdgeExists f (redirected from to edge)
redirected-exists f from to inside edge here = redirected-exists-by f from to edge inside here (edge.block == from) refl

pub fits_with_targets : (f : Body) (results : List ℕ) (from to : ℕ) (shape : InstructionData) → to < length f.blocks → Fits f results shape
    → Fits f results (with_targets_changed from to shape)
fits_with_targets f results from to shape inside fits = record {
  operands_exist = subst (λ xs. (k : ℕ) → k < length xs → slice_index xs k < length f.values) (sym (operands-with_targets_changed from to shape)) fits.operands_exist;
  contexts_exist = subst (All (ValueExists f)) (sym (contexts-with_targets_changed from to shape)) fits.contexts_exist;
  edges_exist =
      subst (All (EdgeExists f)) (sym (destinations-with_targets_changed from to shape))
      (All-map (EdgeExists f) (redirected from to) (destinations shape)
      (All-weaker (EdgeExists f) (λ edge. EdgeExists f (redirected from to edge)) (redirected-exists f from to inside) (destinations shape) fits.edges_exist));
  entries_exist = subst (All (EntryExists f.tables)) (sym (entries-with_targets_changed from to shape)) fits.entries_exist;
  edges_without_results = λ branch.
      fits.edges_without_results (λ none. branch (destinations-with_targets_changed from to shape ∙ ap (with_target_changed from to) none));
}

pub with_branch_target_consistent : (f : Body) (i from to : ℕ) → IsConsistent f → i < length f.insts → to < length f.blocks
    → IsConsistent (with_branch_target f i from to)
with_branch_target_consistent f i from to known exists inside =
    with_shape_consistent f i _ known exists (fits_with_targets f _ from to _ inside (fits_now f i known))
