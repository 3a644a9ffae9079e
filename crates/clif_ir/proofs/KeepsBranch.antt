-- An instruction whose edges pass one value more keeps a function consistent.
use Rattle.std.proofs.Common.{◌≡◌, ◌≢◌, ℕ, ◌<◌, [], ◌∷◌, ◌++◌, length, refl, ap, arith, sym, ◌∙◌, subst, Bool, true, false}
use Rattle.std.specs.Prelude.{slice_index, All, ◌==◌, if◌then◌else◌}
use Rattle.std.proofs.lemmas.Grind.{common_steps}
use Rattle.std.proofs.lemmas.List.Elements.{All-map, All-weaker, All-push}
use Rattle.clif_instructions.specs.declared.block_call.BlockArg.TheVariants.{Value}
use Rattle.clif_instructions.specs.declared.block_call.BlockCall.{BlockCall}
use Rattle.clif_nodes.specs.declared.nodes.InstNode.{InstNode}
use Rattle.clif_nodes.specs.declared.nodes.ValueOrigin.TheVariants.{Result}
use Rattle.clif_instructions.specs.declared.instructions.InstructionData.{InstructionData}
use Rattle.clif_instructions.specs.declared.instructions.InstructionData.TheVariants.{Jump, Brif, BranchTable, TryCall, TryCallIndirect}
use Rattle.clif_instructions.specs.Edges.{appended_to, with_argument_to}
use Rattle.clif_instructions.specs.Instruction.{contexts, entries_of, operands, destinations, with_argument}
use Rattle.clif_ir.specs.Body.{Body, inst_at, value_at, block_at}
use Rattle.clif_nodes.specs.Nodes.{no_inst}
use Rattle.clif_ir.specs.Changes.{with_branch_argument}
use Rattle.clif_ir.specs.Consistent.{IsConsistent, PassedExists, EdgeExists, EntryExists, ValueExists}
use Rattle.clif_instructions.specs.Members.{Stands}
use Rattle.clif_instructions.proofs.Lists.{at_set}
use Rattle.clif_ir.proofs.Keeps.{larger_origin}

pub operands-with_argument : (b v : ℕ) (shape : InstructionData) → operands (with_argument b v shape) ≡ operands shape
operands-with_argument b v (Jump destination) = refl
operands-with_argument b v (Brif arg blocks) = refl
operands-with_argument b v (BranchTable arg table) = refl
operands-with_argument b v (TryCall function args table) = refl
operands-with_argument b v (TryCallIndirect args table) = refl
operands-with_argument b v _ = refl

pub destinations-with_argument : (b v : ℕ) (shape : InstructionData) → destinations (with_argument b v shape) ≡ with_argument_to b v (destinations shape)
destinations-with_argument b v (Jump destination) = refl
destinations-with_argument b v (Brif arg blocks) = refl
destinations-with_argument b v (BranchTable arg table) = refl
destinations-with_argument b v (TryCall function args table) = refl
destinations-with_argument b v (TryCallIndirect args table) = refl
destinations-with_argument b v _ = refl

entries-with_argument : (b v : ℕ) (shape : InstructionData) → entries_of (with_argument b v shape) ≡ entries_of shape
entries-with_argument b v (Jump destination) = refl
entries-with_argument b v (Brif arg blocks) = refl
entries-with_argument b v (BranchTable arg table) = refl
entries-with_argument b v (TryCall function args table) = refl
entries-with_argument b v (TryCallIndirect args table) = refl
entries-with_argument b v _ = refl

contexts-with_argument : (b v : ℕ) (shape : InstructionData) → contexts (with_argument b v shape) ≡ contexts shape
contexts-with_argument b v (Jump destination) = refl
contexts-with_argument b v (Brif arg blocks) = refl
contexts-with_argument b v (BranchTable arg table) = refl
contexts-with_argument b v (TryCall function args table) = refl
contexts-with_argument b v (TryCallIndirect args table) = refl
contexts-with_argument b v _ = refl

-- an edge that passes an existing value more names what exists, by whether it goes to the block
appended-exists-by : (f : Body) (b v : ℕ) (edge : BlockCall) → v < length f.values → EdgeExists f edge → (test : Bool) → (edge.block == b) ≡ test
    → EdgeExists f (appended_to b v edge)
appended-exists-by f b v edge inside here true same =
    let more : BlockCall = record edge { args = edge.args ++ Value v ∷ [] } in
    subst (EdgeExists f) (sym (ap (λ test. if test then more else edge) same)) (here.0, All-push (PassedExists f) edge.args (Value v) here.1 inside)
appended-exists-by f b v edge inside here false other =
    let more : BlockCall = record edge { args = edge.args ++ Value v ∷ [] } in
    subst (EdgeExists f) (sym (ap (λ test. if test then more else edge) other)) here

appended-exists : (f : Body) (b v : ℕ) → v < length f.values → (edge : BlockCall) → EdgeExists f edge → EdgeExists f (appended_to b v edge)
appended-exists f b v inside edge here = appended-exists-by f b v edge inside here (edge.block == b) refl

with_argument-exists : (f : Body) (b v : ℕ) (shape : InstructionData) → v < length f.values → All (EdgeExists f) (destinations shape)
    → All (EdgeExists f) (destinations (with_argument b v shape))
with_argument-exists f b v shape inside here =
    subst (All (EdgeExists f)) (sym (destinations-with_argument b v shape))
    (All-map (EdgeExists f) (appended_to b v) (destinations shape)
    (All-weaker (EdgeExists f) (λ edge. EdgeExists f (appended_to b v edge)) (appended-exists f b v inside) (destinations shape) here))

pub with_branch_argument_consistent : (f : Body) (i b v : ℕ) → IsConsistent f → i < length f.insts → v < length f.values
    → IsConsistent (with_branch_argument f i b v)
with_branch_argument_consistent f i b v known exists inside =
    let g : Body = with_branch_argument f i b v in
    let shape : InstructionData = (inst_at f i).shape in
    let node : InstNode = record (inst_at f i) { shape = with_argument b v shape } in
    let count : length g.insts ≡ length f.insts = grind (arith, common_steps) in
    let same_results : (j : ℕ) → (inst_at g j).results ≡ (inst_at f j).results =
    λ j. at_set (λ (m : InstNode). m.results ≡ (inst_at f j).results) f.insts i node j no_inst exists (λ same. ap (λ k. (inst_at f k).results) (sym same)) (λ _. refl) in
    let same_block : (j : ℕ) → (inst_at g j).block ≡ (inst_at f j).block =
    λ j. at_set (λ (m : InstNode). m.block ≡ (inst_at f j).block) f.insts i node j no_inst exists (λ same. ap (λ k. (inst_at f k).block) (sym same)) (λ _. refl) in
    record {
      values_fit = known.values_fit;
      insts_fit = omega (arith, count, known.insts_fit);
      blocks_fit = known.blocks_fit;
      origins = λ u here. larger_origin f g u _ (λ j there. (omega (arith, there, count), same_results j)) (λ c there. (there, λ stands. stands)) (omega arith) (known.origins u here);
      operands_exist = λ j.
          at_set (λ (m : InstNode). (k : ℕ) → k < length (operands m.shape) → slice_index (operands m.shape) k < length f.values) f.insts i node j no_inst exists
          (λ _. subst (λ xs. (k : ℕ) → k < length xs → slice_index xs k < length f.values) (sym (operands-with_argument b v shape)) (known.operands_exist i))
          (λ _. known.operands_exist j);
      contexts_exist = λ j.
          at_set (λ (m : InstNode). All (ValueExists f) (contexts m.shape)) f.insts i node j no_inst exists
          (λ _. subst (All (ValueExists f)) (sym (contexts-with_argument b v shape)) (known.contexts_exist i))
          (λ _. known.contexts_exist j);
      edges_exist = λ j.
          at_set (λ (m : InstNode). All (EdgeExists f) (destinations m.shape)) f.insts i node j no_inst exists
          (λ _. with_argument-exists f b v shape inside (known.edges_exist i))
          (λ _. known.edges_exist j);
      results_known = λ j. subst (λ xs. (k : ℕ) → k < length xs → (slice_index xs k < length f.values) × ((value_at f (slice_index xs k)).origin ≡ Result j k)) (sym (same_results j)) (known.results_known j);
      params_known = known.params_known;
      params_once = known.params_once;
      insts_stand = λ j here.
          subst (λ c. (c < length f.blocks) × Stands j (block_at f c).insts) (sym (same_block j)) (known.insts_stand j (omega (arith, here, count)));
      insts_known = λ c k here.
          let there : (slice_index (block_at f c).insts k < length f.insts) × ((inst_at f (slice_index (block_at f c).insts k)).block ≡ c) = known.insts_known c k here in
          (omega (arith, count, there.0), same_block _ ∙ there.1);
      insts_once = known.insts_once;
      layout_exists = known.layout_exists;
      layout_once = known.layout_once;
      aliases_end = known.aliases_end;
      named_exist = known.named_exist;
      maps_known = λ j past. known.maps_known j (omega (arith, count, past));
      entries_exist = λ j.
          at_set (λ (m : InstNode). All (EntryExists f.tables) (entries_of m.shape)) f.insts i node j no_inst exists
          (λ _. subst (All (EntryExists f.tables)) (sym (entries-with_argument b v shape)) (known.entries_exist i))
          (λ _. known.entries_exist j);
      edges_without_results = λ j.
          at_set (λ (m : InstNode). destinations m.shape ≢ [] → m.results ≡ []) f.insts i node j no_inst exists
          (λ _ branch. known.edges_without_results i (λ none. branch (destinations-with_argument b v shape ∙ ap (with_argument_to b v) none)))
          (λ _. known.edges_without_results j);
    }
