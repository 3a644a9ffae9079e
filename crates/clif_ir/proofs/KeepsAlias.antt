-- A parameter that becomes another name of a value keeps a function consistent.
use Rattle.std.proofs.Common.{◌≡◌, ◌≢◌, ℕ, ◌<◌, length, refl, ap, arith, sym, ◌∙◌, subst}
use Rattle.std.specs.Prelude.{slice_index}
use Rattle.std.proofs.lemmas.Grind.{common_steps}
use Rattle.clif_nodes.specs.declared.nodes.ValueNode.{ValueNode}
use Rattle.clif_nodes.specs.declared.nodes.ValueOrigin.TheVariants.{Result, Param, Alias}
use Rattle.clif_ir.specs.Body.{Body, value_at, inst_at, block_at, alias_of_origin, resolved}
use Rattle.clif_nodes.specs.Nodes.{BlockNode, empty_block, no_value}
use Rattle.clif_ir.specs.Changes.{with_alias, home_of}
use Rattle.clif_instructions.specs.Members.{without, Stands, Once}
use Rattle.clif_ir.specs.Consistent.{IsConsistent, IsOrigin}
use Rattle.clif_instructions.proofs.Lists.{at_set}
use Rattle.clif_ir.proofs.Keeps.{larger_edges, larger_values, larger_origin, leads_inside}
use Rattle.clif_instructions.proofs.Members.{Stands-without, without-stood, Once-without}
use Rattle.clif_ir.proofs.Aliases.{ways_end-set, follow-inside, resolved-no_alias}

-- results and parameters are told apart by where they come from
result_or_param : {i k b : ℕ} → Result i k ≡ Param b → ⊥
result_or_param same = cc

one_home : {b c : ℕ} → Param b ≡ Param c → b ≡ c
one_home same = ap home_of same

pub with_alias_consistent : (f : Body) (v original b : ℕ) → IsConsistent f → v < length f.values → (value_at f v).origin ≡ Param b → original < length f.values
    → resolved f original ≢ v → IsConsistent (with_alias f v original)
with_alias_consistent f v original b known exists is_param there apart =
    let g : Body = with_alias f v original in
    let target : ℕ = resolved f original in
    let home : ℕ = home_of (value_at f v).origin in
    let at_home : home ≡ b = ap home_of is_param in
    let b_exists : b < length f.blocks = (subst (IsOrigin f v) is_param (known.origins v exists)).0 in
    let home_exists : home < length f.blocks = omega (arith, at_home, b_exists) in
    let node : ValueNode = record (value_at f v) { origin = Alias target } in
    let changed : BlockNode = record (block_at f home) { params = without v (block_at f home).params } in
    let count : length g.values ≡ length f.values = grind (arith, common_steps) in
    let block_count : length g.blocks ≡ length f.blocks = grind (arith, common_steps) in
    let target_inside : target < length f.values = follow-inside f.values (length f.values) original (leads_inside f known) there in
    let other_value : (x : ℕ) → x ≢ v → value_at g x ≡ value_at f x =
    λ x other. at_set (λ m. m ≡ value_at f x) f.values v node x no_value exists (λ same. absurd (other same)) (λ _. refl) in
    let same_insts : (c : ℕ) → (block_at g c).insts ≡ (block_at f c).insts =
    λ c. at_set (λ (m : BlockNode). m.insts ≡ (block_at f c).insts) f.blocks home changed c empty_block home_exists (λ same. ap (λ d. (block_at f d).insts) (sym same)) (λ _. refl) in
    let still_param : (x c : ℕ) → x ≢ v → Stands x (block_at f c).params → Stands x (block_at g c).params =
    λ x c other stands. at_set (λ (m : BlockNode). Stands x m.params) f.blocks home changed c empty_block home_exists
    (λ same. Stands-without x v _ other (subst (λ d. Stands x (block_at f d).params) same stands)) (λ _. stands) in
    let was_param : (x c : ℕ) → Stands x (block_at f c).params → (x < length f.values) × ((value_at f x).origin ≡ Param c) =
    λ x c stands. subst (λ y. (y < length f.values) × ((value_at f y).origin ≡ Param c)) stands.2 (known.params_known c stands.0 stands.1) in
    record {
      values_fit = omega (arith, count, known.values_fit);
      insts_fit = known.insts_fit;
      blocks_fit = omega (arith, block_count, known.blocks_fit);
      origins = λ x inside.
          at_set (λ m. IsOrigin g x m.origin) f.values v node x no_value exists
          (λ same. omega (arith, count, target_inside))
          (λ other.
          larger_origin f g x _ (λ i here. (here, refl)) (λ c here. (omega (arith, here, block_count), still_param x c other))
          (omega (arith, count)) (known.origins x (omega (arith, inside, count))));
      operands_exist = λ i k inside. omega (arith, count, known.operands_exist i k inside);
      contexts_exist = λ i. larger_values f g (omega (arith, count)) _ (known.contexts_exist i);
      edges_exist = λ i. larger_edges f g (omega (arith, block_count)) (omega (arith, count)) _ (known.edges_exist i);
      results_known = λ i k inside.
          let here : (slice_index (inst_at f i).results k < length f.values) × ((value_at f (slice_index (inst_at f i).results k)).origin ≡ Result i k) = known.results_known i k inside in
          let other : slice_index (inst_at f i).results k ≢ v = λ same. result_or_param (sym here.1 ∙ ap (λ x. (value_at f x).origin) same ∙ is_param) in
          (omega (arith, count, here.0), ap (λ (m : ValueNode). m.origin) (other_value _ other) ∙ here.1);
      params_known = λ c.
          at_set (λ (m : BlockNode). (k : ℕ) → k < length m.params → (slice_index m.params k < length g.values) × ((value_at g (slice_index m.params k)).origin ≡ Param c)) f.blocks home changed c empty_block home_exists
          (λ same k inside.
          let stood : Stands (slice_index (without v (block_at f home).params) k) (block_at f home).params × (slice_index (without v (block_at f home).params) k ≢ v) = without-stood v (block_at f home).params k (known.params_once home) inside in
          let was : (slice_index (without v (block_at f home).params) k < length f.values) × ((value_at f (slice_index (without v (block_at f home).params) k)).origin ≡ Param home) = was_param _ home stood.0 in
          (omega (arith, count, was.0), ap (λ (m : ValueNode). m.origin) (other_value _ stood.1) ∙ was.1 ∙ ap Param (sym same)))
          (λ differs k inside.
          let here : (slice_index (block_at f c).params k < length f.values) × ((value_at f (slice_index (block_at f c).params k)).origin ≡ Param c) = known.params_known c k inside in
          let other : slice_index (block_at f c).params k ≢ v = λ same. differs (one_home (sym here.1 ∙ ap (λ x. (value_at f x).origin) same ∙ is_param) ∙ sym at_home) in
          (omega (arith, count, here.0), ap (λ (m : ValueNode). m.origin) (other_value _ other) ∙ here.1));
      params_once = λ c.
          at_set (λ (m : BlockNode). Once m.params) f.blocks home changed c empty_block home_exists (λ _. Once-without v _ (known.params_once home)) (λ _. known.params_once c);
      insts_stand = λ i inside.
          let here : ((inst_at f i).block < length f.blocks) × Stands i (block_at f (inst_at f i).block).insts = known.insts_stand i inside in
          (omega (arith, block_count, here.0), subst (λ xs. Stands i xs) (sym (same_insts _)) here.1);
      insts_known = λ c. subst (λ xs. (k : ℕ) → k < length xs → (slice_index xs k < length f.insts) × ((inst_at f (slice_index xs k)).block ≡ c)) (sym (same_insts c)) (known.insts_known c);
      insts_once = λ c. subst (λ xs. Once xs) (sym (same_insts c)) (known.insts_once c);
      layout_exists = λ k inside. omega (arith, block_count, known.layout_exists k inside);
      layout_once = known.layout_once;
      aliases_end = ways_end-set f.values v target node (leads_inside f known) exists (ap alias_of_origin is_param)
          (resolved-no_alias f.values original known.aliases_end there) apart refl known.aliases_end;
      edges_without_results = known.edges_without_results;
      named_exist = known.named_exist;
      maps_known = known.maps_known;
      entries_exist = known.entries_exist;
    }
