-- All blocks are rewritten: the text of the function is a spilling's.
use Rattle.std.proofs.Common.{◌≡◌, ◌∙◌, ◌<◌, ◌≤◌, ℕ, List, [], ◌∷◌, length, map as each, refl, sym, ap, ap₂, subst, inl, inr}
use Rattle.std.specs.Prelude.{Contains}
use Rattle.clif_types.specs.EntitySet.{has}
use Rattle.clif_types.specs.declared.stackmap.UserStackMapEntry.{UserStackMapEntry}
use Rattle.clif_tables.specs.Lists.{TableLists, stack_map_at}
use Rattle.clif_instructions.specs.Instruction.{contexts, operands}
use Rattle.clif_instructions.proofs.Lists.{at_past, below_or_not}
use Rattle.clif_nodes.specs.declared.nodes.InstNode.{InstNode}
use Rattle.clif_nodes.specs.declared.nodes.ValueNode.{ValueNode}
use Rattle.clif_nodes.specs.Nodes.{BlockNode, empty_block}
use Rattle.clif_ir.specs.Body.{Body, block_at, inst_at, value_at}
use Rattle.clif_meaning.specs.FunctionView.{BlockView, Placed}
use Rattle.clif_meaning.specs.View.{block_of, controlling_of, edges_of, instruction_of, items_of, operation_of, placed_of}
use Rattle.clif_safepoints.proofs.Paths.{items_are}
use Rattle.clif_spilling_laws.specs.Rewriting.{AreItemsOf, IsLandingBlock, IsRewritten}
use Rattle.clif_spilling_laws.specs.Spilling.{Reload, reload_items}
use Rattle.clif_spilling_laws.proofs.Basics.Lists.{member_or_not}
use Rattle.clif_stack_slots.specs.declared.slots.StackSlots.{StackSlots}
use Rattle.clif_spiller.specs.Allocating.{every}
use Rattle.clif_spiller.specs.Keeping.{Keeps}
use Rattle.clif_spiller.specs.Plans.{insts_inside}
use Rattle.clif_spiller.specs.Progress.{AreRewritten, IsEnd, IsInDone, IsPlannedFor, LeadsTo}
use Rattle.clif_spiller.specs.Spills.{beside}
use Rattle.clif_spiller.specs.declared.plan.Plan.{Plan}
use Rattle.clif_spiller.proofs.Advancing.{map_alike}
use Rattle.clif_spiller.proofs.Keeping.{keeps_refl, same_value}
use Rattle.clif_spiller.proofs.Progressing.Blocks.{insts_same}
use Rattle.clif_spiller.proofs.Progressing.Homes.{inst_inside}
use Rattle.clif_spiller.proofs.Progressing.Writing.{no_items_beyond}
use Rattle.clif_spiller.proofs.Shapes.{get_or_inside}
use Rattle.clif_spiller.proofs.Text.Alike.{operation_stays}
use Rattle.clif_spiller.proofs.Text.Kept.{controlling_so}
use Rattle.clif_spiller.proofs.Text.Lists.{zip_same}

-- an instruction that stays, as the machines see it
placed_stays : (f g : Body) (n : ℕ) → Keeps n f g → (i : ℕ) → ((v : ℕ) → Contains (inst_at f i).results v → v < length f.values)
    → ((v : ℕ) → Contains (operands (inst_at f i).shape) v → v < length f.values) → inst_at g i ≡ inst_at f i → stack_map_at g.tables i ≡ stack_map_at f.tables i
    → placed_of g i ≡ placed_of f i
placed_stays f g n keeps i results_there operands_there node map =
    ap₂ (λ (m : InstNode) (entries : List UserStackMapEntry). with_node g m entries) node map ∙ by
  where
    with_node : Body → InstNode → List UserStackMapEntry → Placed
    with_node h m entries = record { instruction = instruction_of h m; results = m.results; stack_map = entries }

    ty : (v : ℕ) → v < length f.values → (value_at g v).ty ≡ (value_at f v).ty
    ty v inside = ap (λ (node : ValueNode). node.ty) (same_value n f g keeps v inside)

    controlling : controlling_of g (inst_at f i).shape (inst_at f i).results ≡ controlling_of f (inst_at f i).shape (inst_at f i).results
    controlling =
        controlling_so f g (inst_at f i).shape (inst_at f i).shape (inst_at f i).results refl (λ v here. ty v (results_there v here))
        (zip_same (λ (u w : ℕ). (value_at g w).ty ≡ (value_at f u).ty) (operands (inst_at f i).shape) (λ v here. ty v (operands_there v here)))

    operation : operation_of g.tables (inst_at f i).shape ≡ operation_of f.tables (inst_at f i).shape
    operation = ap (λ (t : TableLists). operation_of t (inst_at f i).shape) keeps.tables ∙ operation_stays f.tables g.tables (inst_at f i).shape

    by : with_node g (inst_at f i) (stack_map_at f.tables i) ≡ placed_of f i
    by = λ j. record {
      instruction = record {
        operation = operation j;
        controlling = controlling j;
        operands = operands (inst_at f i).shape;
        contexts = contexts (inst_at f i).shape;
        edges = edges_of (inst_at f i).shape;
      };
      results = (inst_at f i).results;
      stack_map = stack_map_at f.tables i;
    }

module _ (first : Body) (recorded : List ℕ) (plan : Plan) (planned : IsPlannedFor first recorded plan) (g : Body) (b : StackSlots)
    (are : AreRewritten first recorded plan plan.liveness.now.order g b) (slot_of : ℕ → ℕ) (end : IsEnd first recorded plan g b slot_of) where
  -- the function leads to itself
  leads : LeadsTo first (IsInDone first plan.liveness.now.order) (Contains plan.liveness.now.order) g b g b
  leads = record {
    keeps = keeps_refl (length g.blocks) g;
    nodes = λ i inside how. refl;
    maps = λ i inside how. refl;
    lists = λ c inside how. refl;
    layout = λ c inside stands. stands;
    still = λ v slot has_slot. has_slot;
  }

  keeps : Keeps (length first.blocks) first g
  keeps = are.text.keeps

  -- a block that isn't reached stays
  module _ (c : ℕ) (out : Contains plan.liveness.now.order c → ⊥) where
    not_done : (i : ℕ) → Contains (insts_inside first c) i → IsInDone first plan.liveness.now.order i → ⊥
    not_done i here (d, member, there) =
        let home = (inst_inside first planned.known c i here).1 in let other = (inst_inside first planned.known d i there).1 in
        out (subst (Contains plan.liveness.now.order) (sym other ∙ home) member)

    inst_stays : (i : ℕ) → Contains (insts_inside first c) i → placed_of g i ≡ placed_of first i
    inst_stays i here =
        let low = (inst_inside first planned.known c i here).0 in
        placed_stays first g (length first.blocks) keeps i
        (λ v there. subst (λ w. w < length first.values) (get_or_inside (inst_at first i).results there.0 0 v there.1 ∙ there.2) (planned.known.results_known i there.0 there.1).0)
        (λ v there. subst (λ w. w < length first.values) (get_or_inside (operands (inst_at first i).shape) there.0 0 v there.1 ∙ there.2) (planned.known.operands_exist i there.0 there.1))
        (are.text.waiting i low (not_done i here)) (are.text.unmapped i low (λ done call. not_done i here done))

    block_stays : c < length first.blocks → block_of g c ≡ block_of first c
    block_stays exists =
        let items : items_of g c ≡ items_of first c =
        items_are g c
        ∙ ap (each (placed_of g)) (insts_same first plan (IsInDone first plan.liveness.now.order) (λ d. Contains plan.liveness.now.order d → ⊥) g b are.st are.text c exists out)
        ∙ map_alike (placed_of g) (placed_of first) (insts_inside first c) inst_stays ∙ sym (items_are first c) in
        λ j. record { parameters = keeps.params c exists j; items = items j }

  -- and so does one that isn't there
  nothing_there : (c : ℕ) → length first.blocks ≤ c → length g.blocks ≤ c → block_of g c ≡ block_of first c
  nothing_there c beyond past =
      let empty_g : block_at g c ≡ empty_block = at_past g.blocks c empty_block past in
      let empty : block_at first c ≡ empty_block = at_past first.blocks c empty_block beyond in
      let items : items_of g c ≡ items_of first c =
      no_items_beyond g c (ap (λ (m : BlockNode). m.insts) empty_g) ∙ sym (no_items_beyond first c (ap (λ (m : BlockNode). m.insts) empty)) in
      let params : (block_at g c).params ≡ (block_at first c).params = ap (λ (m : BlockNode). m.params) empty_g ∙ sym (ap (λ (m : BlockNode). m.params) empty) in
      λ j. record { parameters = params j; items = items j }

  pub text_is : IsRewritten every (beside first plan.pointer g (has plan.spilled) slot_of) (has recorded)
  text_is = record {
    entry = keeps.entry;
    signature = keeps.signature;
    reached = λ block reached. are.written.blocks g b slot_of leads end block ((planned.analysis.order.reached block).1 reached);
    others = λ block out.
        let not_in : Contains plan.liveness.now.order block → ⊥ = λ member. out ((planned.analysis.order.reached block).0 member) in
        elim (below_or_not block (length first.blocks)) [
          | inl old ↦ inl (block_stays block not_in old)
          | inr beyond ↦ elim (below_or_not block (length g.blocks)) [
            | inl there ↦ inr (are.written.landings g b slot_of leads end block beyond there)
            | inr past ↦ inl (nothing_there block beyond past)
          ]
        ];
  }

  -- LANDING BLOCKS ARE NEW ----------------------------------------------------------------------------------------------

  some_items : (rs : List Reload) (x : Placed) → reload_items (beside first plan.pointer g (has plan.spilled) slot_of) rs (x ∷ []) ≡ [] → ⊥
  some_items [] x is = cc
  some_items (r ∷ rs) x is = cc

  pub landing_beyond : (c : ℕ) → IsLandingBlock every (beside first plan.pointer g (has plan.spilled) slot_of) c → length first.blocks ≤ c
  landing_beyond c landing =
      elim (below_or_not c (length first.blocks)) [
        | inl old ↦ absurd (some_items landing.lands.reloads _ (sym landing.lands.items ∙ ap (items_of g) landing.target ∙ none old))
        | inr beyond ↦ beyond
      ]
    where
      none : c < length first.blocks → items_of g c ≡ []
      none old =
          elim (member_or_not c plan.liveness.now.order) [
            | inl member ↦
                subst (λ (items : List Placed). AreItemsOf every (beside first plan.pointer g (has plan.spilled) slot_of) (has recorded) c items (items_of g c)) landing.no_items
                (are.written.blocks g b slot_of leads end c member).items
            | inr out ↦ ap (λ (v : BlockView). v.items) (block_stays c out old) ∙ landing.no_items
          ]
