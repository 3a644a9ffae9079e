-- A new instruction keeps a function consistent.
use Rattle.std.proofs.Common.{◌≡◌, ℕ, zero, suc, ◌+◌, ◌-◌, ◌^◌, ◌<◌, List, [], ◌∷◌, ◌++◌, length, get_or, refl, ap, arith, sym, ◌∙◌, subst}
use Rattle.std.specs.Prelude.{slice_index, EachIndex, None, All, ◌≢◌}
use Rattle.std.specs.List.{range_with_len}
use Rattle.std.proofs.Math.ListN.{get_or-append}
use Rattle.std.proofs.Math.Seq.{get_or-append_right}
use Rattle.std.proofs.lemmas.Grind.{common_steps}
use Rattle.std.proofs.lemmas.List.FromFn.{length-range_with_len, get_or-range_with_len}
use Rattle.clif_types.specs.declared.types.«Type».{«Type»}
use Rattle.clif_nodes.specs.declared.nodes.InstNode.{InstNode}
use Rattle.clif_nodes.specs.declared.nodes.ValueNode.{ValueNode}
use Rattle.clif_nodes.specs.declared.nodes.ValueOrigin.TheVariants.{Result, Param}
use Rattle.clif_instructions.specs.declared.insert_at.InsertAt.{InsertAt}
use Rattle.clif_instructions.specs.declared.instructions.InstructionData.{InstructionData}
use Rattle.clif_instructions.specs.declared.instructions.InstructionData.TheVariants.{Jump, Brif, BranchTable, TryCall, TryCallIndirect}
use Rattle.clif_instructions.specs.Instruction.{contexts, entries_of, operands, destinations}
use Rattle.clif_tables.specs.Callees.{count_of_results, types_of_results}
use Rattle.clif_tables.specs.Lists.{TableLists}
use Rattle.clif_ir.specs.Body.{Body, value_at, inst_at, block_at, alias_of_origin, resolved}
use Rattle.clif_nodes.specs.Nodes.{BlockNode, empty_block, no_value, no_inst, result_nodes}
use Rattle.clif_instructions.specs.Members.{IsPlaceOf, put_at, Stands, Once}
use Rattle.clif_ir.specs.Changes.{with_inst, inst_node}
use Rattle.clif_ir.specs.Consistent.{IsConsistent, IsOrigin, EdgeExists, EntryExists, ValueExists, alias_count}
use Rattle.clif_instructions.proofs.Lists.{at_push, at_set, at_append}
use Rattle.clif_ir.proofs.Keeps.{larger_edges, larger_values, leads_inside, larger_origin}
use Rattle.clif_ir.proofs.Inserting.{put_at-each, put_at-Stands, put_at-stands, put_at-Once}
use Rattle.clif_ir.proofs.Aliases.{ways_end-append, follow_end}

-- an instruction has as many results as its row of the typing table and its signature say
pub length-types_of_results : (t : TableLists) (shape : InstructionData) (ty : «Type») → length (types_of_results t shape ty) ≡ count_of_results t shape
length-types_of_results t shape ty = grind (arith, common_steps)

-- an instruction with edges has no results
pub branch-types_of_results : (t : TableLists) (shape : InstructionData) (ty : «Type») → destinations shape ≢ [] → types_of_results t shape ty ≡ []
branch-types_of_results t (Jump destination) ty branch = refl
branch-types_of_results t (Brif arg blocks) ty branch = refl
branch-types_of_results t (BranchTable arg table) ty branch = refl
branch-types_of_results t (TryCall function args table) ty branch = refl
branch-types_of_results t (TryCallIndirect args table) ty branch = refl
branch-types_of_results t _ ty branch = absurd (branch refl)

length-result_nodes : (i k : ℕ) (types : List «Type») → length (result_nodes i k types) ≡ length types
length-result_nodes i k [] = refl
length-result_nodes i k (ty ∷ types) = ap suc (length-result_nodes i (k + 1) types)

-- the results of a new instruction come from it
get_or-result_nodes : (i k : ℕ) (types : List «Type») (j : ℕ) → j < length types
    → (get_or (result_nodes i k types) j no_value).origin ≡ Result i (k + j)
get_or-result_nodes i k [] j inside = absurd (omega (arith, inside))
get_or-result_nodes i k (ty ∷ types) zero inside = let same : k ≡ k + 0 = omega arith in ap (Result i) same
get_or-result_nodes i k (ty ∷ types) (suc j) inside =
    let same : (k + 1) + j ≡ k + suc j = omega arith in
    get_or-result_nodes i (k + 1) types j (omega (arith, inside)) ∙ ap (Result i) same

-- none of them is an alias
alias_count-result_nodes : (i k : ℕ) (types : List «Type») → alias_count (result_nodes i k types) ≡ 0
alias_count-result_nodes i k [] = refl
alias_count-result_nodes i k (ty ∷ types) = let rest : alias_count (result_nodes i (k + 1) types) ≡ 0 = alias_count-result_nodes i (k + 1) types in omega (arith, rest)

pub alias_of-result_nodes : (i k : ℕ) (types : List «Type») (j : ℕ) → alias_of_origin (get_or (result_nodes i k types) j no_value).origin ≡ None
alias_of-result_nodes i k [] j = refl
alias_of-result_nodes i k (ty ∷ types) zero = refl
alias_of-result_nodes i k (ty ∷ types) (suc j) = alias_of-result_nodes i (k + 1) types j

pub with_inst_consistent : (f : Body) (b : ℕ) (at : InsertAt) (shape : InstructionData) (types : List «Type») (loc : ℕ)
    → IsConsistent f → b < length f.blocks → IsPlaceOf at (length (block_at f b).insts) → EachIndex (operands shape) (λ k. slice_index (operands shape) k < length f.values)
    → All (EdgeExists f) (destinations shape) → All (ValueExists f) (contexts shape) → All (EntryExists f.tables) (entries_of shape) → (destinations shape ≢ [] → types ≡ []) → length f.insts < 2 ^ 32 - 1 → length f.values + length types < 2 ^ 32
    → IsConsistent (with_inst f b at shape types loc)
with_inst_consistent f b at shape types loc known exists fits operands_exist edges_exist contexts_exist entries_exist without_results inst_room value_room =
    let g : Body = with_inst f b at shape types loc in
    let n : ℕ = length f.values in
    let i0 : ℕ = length f.insts in
    let node : InstNode = inst_node f b shape types loc in
    let nodes : List ValueNode = result_nodes i0 0 types in
    let changed : BlockNode = record (block_at f b) { insts = put_at at i0 (block_at f b).insts } in
    let count : length g.values ≡ n + length types = grind (arith, common_steps, length-result_nodes i0 0 types) in
    let inst_count : length g.insts ≡ i0 + 1 = grind (arith, common_steps) in
    let block_count : length g.blocks ≡ length f.blocks = grind (arith, common_steps) in
    let old_value : (v : ℕ) → v < n → value_at g v ≡ value_at f v = λ v inside. get_or-append f.values nodes no_value v inside in
    let old_inst : (i : ℕ) → i < i0 → inst_at g i ≡ inst_at f i = λ i inside. get_or-append f.insts (node ∷ []) no_inst i inside in
    let new_inst : inst_at g i0 ≡ node = grind (arith, common_steps) in
    let new_value : (k : ℕ) → k < length types → (value_at g (n + k)).origin ≡ Result i0 k = λ k inside.
    let there : (n + k) - n ≡ k = omega arith in
    ap (λ (m : ValueNode). m.origin) (get_or-append_right f.values nodes (n + k) no_value (omega arith) ∙ ap (λ j. get_or nodes j no_value) there)
    ∙ get_or-result_nodes i0 0 types k inside ∙ ap (Result i0) (omega arith) in
    let same_params : (c : ℕ) → (block_at g c).params ≡ (block_at f c).params = λ c.
    at_set (λ (m : BlockNode). m.params ≡ (block_at f c).params) f.blocks b changed c empty_block exists (λ same. ap (λ d. (block_at f d).params) (sym same)) (λ _. refl) in
    let still_stands : (i c : ℕ) → Stands i (block_at f c).insts → Stands i (block_at g c).insts = λ i c stands.
    at_set (λ (m : BlockNode). Stands i m.insts) f.blocks b changed c empty_block exists
    (λ same. put_at-Stands i at i0 _ fits (subst (λ d. Stands i (block_at f d).insts) same stands)) (λ _. stands) in
    record {
      values_fit = omega (arith, count, value_room);
      insts_fit = omega (arith, inst_count, inst_room);
      blocks_fit = omega (arith, block_count, known.blocks_fit);
      origins = λ v inside.
          at_append (λ m. IsOrigin g v m.origin) f.values nodes v no_value
          (λ here.
          larger_origin f g v _ (λ i there. (omega (arith, there, inst_count), ap (λ (m : InstNode). m.results) (old_inst i there)))
          (λ c there. (omega (arith, there, block_count), λ stands. subst (λ xs. Stands v xs) (sym (same_params c)) stands))
          (omega (arith, count)) (known.origins v here))
          (λ behind.
          let k : ℕ = v - n in
          let few : k < length types = omega (arith, count, inside, behind) in
          let own : IsOrigin g v (Result i0 k) = (
            omega (arith, inst_count),
            subst (λ (m : InstNode). k < length m.results) (sym new_inst) (omega (arith, few, length-range_with_len n (length types))),
            ap (λ (m : InstNode). slice_index m.results k) new_inst ∙ get_or-range_with_len n (length types) k 0 few ∙ (let back : n + k ≡ v = omega (arith, behind) in back),
          ) in
          let zero_more : k ≡ 0 + k = omega arith in
          subst (IsOrigin g v) (sym (get_or-result_nodes i0 0 types k few)) (subst (λ j. IsOrigin g v (Result i0 j)) zero_more own));
      operands_exist = λ i.
          at_push (λ m. (k : ℕ) → k < length (operands m.shape) → slice_index (operands m.shape) k < length g.values) f.insts node i no_inst
          (λ _ k inside. omega (arith, count, known.operands_exist i k inside))
          (λ _ k inside. omega (arith, count, operands_exist k inside))
          (λ _ k inside. absurd (omega (arith, inside)));
      contexts_exist = λ i.
          at_push (λ m. All (ValueExists g) (contexts m.shape)) f.insts node i no_inst
          (λ _. larger_values f g (omega (arith, count)) _ (known.contexts_exist i))
          (λ _. larger_values f g (omega (arith, count)) _ contexts_exist)
          (λ _ k d inside. absurd (omega (arith, inside)));
      edges_exist = λ i.
          at_push (λ m. All (EdgeExists g) (destinations m.shape)) f.insts node i no_inst
          (λ _. larger_edges f g (omega (arith, block_count)) (omega (arith, count)) _ (known.edges_exist i))
          (λ _. larger_edges f g (omega (arith, block_count)) (omega (arith, count)) _ edges_exist)
          (λ _ k d inside. absurd (omega (arith, inside)));
      results_known = λ i.
          at_push (λ m. (k : ℕ) → k < length m.results → (slice_index m.results k < length g.values) × ((value_at g (slice_index m.results k)).origin ≡ Result i k)) f.insts node i no_inst
          (λ _ k inside. (omega (arith, count, (known.results_known i k inside).0), ap (λ (m : ValueNode). m.origin) (old_value _ (known.results_known i k inside).0) ∙ (known.results_known i k inside).1))
          (λ same k inside.
          let few : k < length types = omega (arith, inside, length-range_with_len n (length types)) in
          let there : slice_index (range_with_len n (length types)) k ≡ n + k = get_or-range_with_len n (length types) k 0 few in
          (omega (arith, count, few, there), ap (λ x. (value_at g x).origin) there ∙ new_value k few ∙ ap (λ j. Result j k) (sym same)))
          (λ _ k inside. absurd (omega (arith, inside)));
      params_known = λ c. subst (λ xs. (k : ℕ) → k < length xs → (slice_index xs k < length g.values) × ((value_at g (slice_index xs k)).origin ≡ Param c)) (sym (same_params c))
          (λ k inside. (omega (arith, count, (known.params_known c k inside).0), ap (λ (m : ValueNode). m.origin) (old_value _ (known.params_known c k inside).0) ∙ (known.params_known c k inside).1));
      params_once = λ c. subst (λ xs. Once xs) (sym (same_params c)) (known.params_once c);
      insts_stand = λ i inside.
          at_push (λ m. (m.block < length g.blocks) × Stands i (block_at g m.block).insts) f.insts node i no_inst
          (λ here. (omega (arith, block_count, (known.insts_stand i here).0), still_stands i _ (known.insts_stand i here).1))
          (λ same. (
            omega (arith, block_count, exists),
            at_set (λ (m : BlockNode). Stands i m.insts) f.blocks b changed b empty_block exists
                (λ _. subst (λ x. Stands x (put_at at i0 (block_at f b).insts)) (sym same) (put_at-stands at i0 (block_at f b).insts fits)) (λ other. absurd (other refl)),
          ))
          (λ past. absurd (omega (arith, past, inside, inst_count)));
      insts_known = λ c.
          let old : (k : ℕ) → k < length (block_at f c).insts → (slice_index (block_at f c).insts k < length g.insts) × ((inst_at g (slice_index (block_at f c).insts k)).block ≡ c) =
          λ k inside. (omega (arith, inst_count, (known.insts_known c k inside).0), ap (λ (m : InstNode). m.block) (old_inst _ (known.insts_known c k inside).0) ∙ (known.insts_known c k inside).1) in
          at_set (λ (m : BlockNode). (k : ℕ) → k < length m.insts → (slice_index m.insts k < length g.insts) × ((inst_at g (slice_index m.insts k)).block ≡ c)) f.blocks b changed c empty_block exists
          (λ same. put_at-each (λ x. (x < length g.insts) × ((inst_at g x).block ≡ c)) at i0 (block_at f b).insts fits
          (subst (λ d. (k : ℕ) → k < length (block_at f d).insts → (slice_index (block_at f d).insts k < length g.insts) × ((inst_at g (slice_index (block_at f d).insts k)).block ≡ c)) same old)
          (omega (arith, inst_count), ap (λ (m : InstNode). m.block) new_inst ∙ sym same))
          (λ _. old);
      insts_once = λ c.
          at_set (λ (m : BlockNode). Once m.insts) f.blocks b changed c empty_block exists
          (λ _. put_at-Once at i0 (block_at f b).insts fits (known.insts_once b) (λ k inside. (known.insts_known b k inside).0))
          (λ _. known.insts_once c);
      layout_exists = λ k inside. omega (arith, block_count, known.layout_exists k inside);
      layout_once = known.layout_once;
      aliases_end = ways_end-append f.values nodes (leads_inside f known) (alias_count-result_nodes i0 0 types)
          (λ v behind. ap (λ (m : ValueNode). alias_of_origin m.origin) (get_or-append_right f.values nodes v no_value behind) ∙ alias_of-result_nodes i0 0 types (v - n)) known.aliases_end;
      named_exist = known.named_exist;
      maps_known = λ j past. known.maps_known j (omega (arith, inst_count, past));
      entries_exist = λ i.
          at_push (λ m. All (EntryExists f.tables) (entries_of m.shape)) f.insts node i no_inst
          (λ _. known.entries_exist i)
          (λ _. entries_exist)
          (λ _ k d inside. absurd (omega (arith, inside)));
      edges_without_results = λ i.
          at_push (λ m. destinations m.shape ≢ [] → m.results ≡ []) f.insts node i no_inst
          (λ _. known.edges_without_results i)
          (λ _ branch. ap (λ (none : List «Type»). range_with_len n (length none)) (without_results branch))
          (λ _ _. refl);
    }

-- the first result of a new instruction stands for itself
pub with_inst-unaliased : (f : Body) (b : ℕ) (at : InsertAt) (shape : InstructionData) (types : List «Type») (loc : ℕ)
    → resolved (with_inst f b at shape types loc) (length f.values) ≡ length f.values
with_inst-unaliased f b at shape types loc =
    let nodes : List ValueNode = result_nodes (length f.insts) 0 types in
    follow_end (f.values ++ nodes) (length (f.values ++ nodes)) (length f.values)
    (ap (λ (m : ValueNode). alias_of_origin m.origin) (get_or-append_right f.values nodes (length f.values) no_value (omega arith))
    ∙ alias_of-result_nodes (length f.insts) 0 types (length f.values - length f.values))
