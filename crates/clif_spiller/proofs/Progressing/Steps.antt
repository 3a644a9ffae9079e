-- An instruction more is rewritten, and a block more.
use Rattle.std.proofs.Common.{◌≡◌, ◌≢◌, ◌∙◌, ◌<◌, ◌⊎◌, ℕ, suc, true, List, [], ◌∷◌, ◌++◌, length, get_or, map as each, refl, sym, ap, subst, arith, inl, inr}
use Rattle.std.specs.Prelude.{Contains, Some, slice_index_or}
use Rattle.std.specs.FinMap as fin
use Rattle.std.specs.List.{AllZip}
use Rattle.std.proofs.lemmas.Bool.{cases_Bool, cases_eq}
use Rattle.std.proofs.lemmas.List.Elements.{Contains-append_right}
use Rattle.std.proofs.lemmas.Option.{slice_get-get_or}
use Rattle.clif_types.specs.EntitySet.{has}
use Rattle.clif_tables.specs.Lists.{stack_map_at}
use Rattle.clif_instructions.specs.Instruction.{destinations, is_call}
use Rattle.clif_instructions.specs.declared.block_call.BlockCall.{BlockCall}
use Rattle.clif_nodes.specs.declared.nodes.InstNode.{InstNode}
use Rattle.clif_nodes.specs.Nodes.{no_inst}
use Rattle.clif_ir.specs.Body.{Body, inst_at}
use Rattle.clif_meaning.specs.Instruction.{Edge}
use Rattle.clif_meaning.specs.Path.{IsReachable, Place}
use Rattle.clif_meaning.specs.View.{edge_of, placed_of, view_of}
use Rattle.clif_meaning.specs.WellPlaced.{function_flow, placed_at, placed_gives, placed_targets}
use Rattle.clif_safepoints.specs.Analysis.{IsReached, found_across, found_in}
use Rattle.clif_safepoints.proofs.Paths.{placed_is, size_is, stands_from, stands_to}
use Rattle.clif_spilling_laws.specs.Live.{place_at}
use Rattle.clif_stack_slots.specs.declared.slots.StackSlots.{StackSlots}
use Rattle.clif_spiller.specs.Acting.{ActsAtInst, IsEntryOf, IsOnTheWay, types_in}
use Rattle.clif_spiller.specs.Allocating.{ActsAt, Gives, IsSlotState, IsWalk, Needs, SlotAct, SlotState, after_acts}
use Rattle.clif_spiller.specs.Plans.{insts_inside}
use Rattle.clif_spiller.specs.Progress.{IsApart, IsHandledInst, IsPlannedFor, IsRewrittenTo}
use Rattle.clif_spiller.specs.declared.plan.Plan.{Plan}
use Rattle.clif_spiller.proofs.Advancing.{on_the_way}
use Rattle.clif_spiller.proofs.Allocating.Acting.{across_counted, before_counted, before_every, out_is_live, used_is_live}
use Rattle.clif_safepoints.specs.Liveness.{IsLiveAcross, every_argument}
use Rattle.clif_spiller.proofs.Allocating.Consistent.{is_walk}
use Rattle.clif_spiller.proofs.Allocating.Orders.{not_done}
use Rattle.clif_spiller.proofs.Allocating.States.{acts_append, acts_keep}
use Rattle.clif_spiller.proofs.Keeping.{keeps_fewer, keeps_trans}
use Rattle.clif_spiller.proofs.Progressing.Changes.{LeavesOthers, at_inst}
use Rattle.clif_spiller.proofs.Progressing.Homes.{handled_before, inst_inside, not_yet, now_handled, placed_there, still_handled}
use Rattle.clif_spiller.proofs.Progressing.Members.{from_map, into_map, reachable_in}
use Rattle.clif_spiller.proofs.Progressing.States.{Uses, all_uses_of}
use Rattle.clif_spiller.proofs.Progressing.Using.{used_from, used_to}
use Rattle.clif_spiller.proofs.Shapes.{get_or_inside}
use Rattle.clif_spiller.proofs.StackMaps.{zip_weaker}

-- what a plan by the analysis of a function gives the walk
pub walk_of : (first : Body) (recorded : List ℕ) (plan : Plan) → IsPlannedFor first recorded plan
    → IsWalk (view_of first) (length first.values) (has plan.spilled) plan.liveness.now.order
walk_of first recorded plan for =
    is_walk first for.known (has plan.spilled) plan.liveness.now.order for.analysis.order (λ v spilled. (for.planned.spillable v (stands_to v plan.spilled spilled)).fits)

module _ (first : Body) (recorded : List ℕ) (plan : Plan) (planned : IsPlannedFor first recorded plan) (done : List ℕ) (block : ℕ) (rest : List ℕ)
    (split : plan.liveness.now.order ≡ done ++ block ∷ rest) where
  pub walk : IsWalk (view_of first) (length first.values) (has plan.spilled) plan.liveness.now.order
  walk = walk_of first recorded plan planned

  pub fresh : Contains done block → ⊥
  fresh = not_done plan.liveness.now.order done block rest split walk.ordered.once

  pub reached : IsReached (view_of first) block
  reached = (planned.analysis.order.reached block).0 (subst (λ (xs : List ℕ). Contains xs block) (sym split) (Contains-append_right done (block ∷ rest) block (0, omega arith, refl)))

  module _ (k inst : ℕ) (inside : k < length (insts_inside first block)) (is : get_or (insts_inside first block) k inst ≡ inst)
      (f : Body) (a : StackSlots) (st : SlotState) (so_far : IsRewrittenTo first plan (IsHandledInst first done block (suc k)) (IsApart done block) f a st)
      (g : Body) (b : StackSlots) (act : ActsAtInst plan inst f a g b) where
    pub exists : inst < length first.insts
    exists = (inst_inside first planned.known block inst (k, inside, is)).0

    pub home : (inst_at first inst).block ≡ block
    home = (inst_inside first planned.known block inst (k, inside, is)).1

    pub same : inst_at f inst ≡ inst_at first inst
    same = so_far.waiting inst exists (not_yet first planned.known done block fresh k inst inside is)

    pub placed : placed_at (view_of first) (place_at block k) ≡ Some (placed_of first inst)
    placed = placed_is first block k inst (slice_get-get_or (insts_inside first block) k inst inside ∙ ap (λ i. Some i) is)

    pub items_inside : k < length ((view_of first).blocks block).items
    items_inside = subst (λ n. k < n) (sym (size_is first block)) inside

    pub reachable : IsReachable (function_flow (view_of first)) (place_at block k)
    reachable = reachable_in (view_of first) block reached k items_inside

    -- WAYS AND STATES ---------------------------------------------------------------------------------------------------

    pub way : IsOnTheWay first plan f
    way = record { known = planned.known; planned = planned.planned; keeps = keeps_fewer 0 (length first.blocks) first f (omega arith) so_far.keeps }

    pub way_ahead : IsOnTheWay first plan act.ahead
    way_ahead = on_the_way first plan f act.ahead way act.goes_ahead.keeps

    way_given : IsOnTheWay first plan act.given
    way_given = on_the_way first plan act.ahead act.given way_ahead act.goes_given.keeps

    pub same_ahead : inst_at act.ahead inst ≡ inst_at first inst
    same_ahead = ap (λ (xs : List InstNode). slice_index_or xs inst no_inst) act.acts_ahead.insts ∙ same

    pub same_given : inst_at act.given inst ≡ inst_at first inst
    same_given = act.acts_given.nodes inst (omega (arith, exists, so_far.keeps.insts, act.goes_ahead.keeps.insts)) ∙ same_ahead

    abbrev pub outs_state : SlotState
    outs_state = after_acts (types_in first) (each Needs act.acts_ahead.outs) st

    abbrev pub given_state : SlotState
    given_state = after_acts (types_in first) (each Gives (inst_at act.ahead inst).results) (after_acts (types_in first) (each Needs act.acts_ahead.outs) st)

    results_below : (v : ℕ) → Contains (inst_at act.ahead inst).results v → v < length first.values
    results_below v here =
        let there : Contains (inst_at first inst).results v = subst (λ (m : InstNode). Contains m.results v) same_ahead here in
        subst (λ w. w < length first.values) (get_or_inside (inst_at first inst).results there.0 0 v there.1 ∙ there.2) (planned.known.results_known inst there.0 there.1).0

    pub is_given : IsSlotState act.given act.given_slots (after_acts (types_in first) (each Gives (inst_at act.ahead inst).results) (after_acts (types_in first) (each Needs act.acts_ahead.outs) st))
    is_given = act.acts_given.goes_by first way_ahead.keeps results_below outs_state (act.acts_ahead.goes_by first way st so_far.state)

    map_same : stack_map_at act.given.tables inst ≡ stack_map_at first.tables inst
    map_same =
        act.acts_given.maps inst ∙ act.acts_ahead.maps inst
        ∙ so_far.unmapped inst exists (λ handled. absurd (not_yet first planned.known done block fresh k inst inside is handled))

    pub uses : Uses first plan inst (after_acts (types_in first) (each Gives (inst_at act.ahead inst).results) (after_acts (types_in first) (each Needs act.acts_ahead.outs) st)) g b
    uses =
        all_uses_of first plan inst act.given act.given_slots way_given given_state is_given same_given map_same g b
        (is_call (inst_at act.given inst).shape) (ap (λ (m : InstNode). is_call m.shape) (sym same_given)) act.called act.called_slots act.acts_called act.acts_used

    -- THE ACTS ----------------------------------------------------------------------------------------------------------

    -- a target by the edge that leads there
    target_to : (edge : BlockCall) → Contains (destinations (inst_at first inst).shape) edge → Contains (placed_targets (placed_at (view_of first) (place_at block k))) edge.block
    target_to edge there =
        subst (λ o. Contains (placed_targets o) edge.block) (sym placed)
        (into_map (λ (e : Edge ℕ ℕ). e.target) (each edge_of (destinations (inst_at first inst).shape)) (edge_of edge)
        (into_map edge_of (destinations (inst_at first inst).shape) edge there))

    target_from : (target : ℕ) → Contains (placed_targets (placed_at (view_of first) (place_at block k))) target
        → (edge : BlockCall) × Contains (destinations (inst_at first inst).shape) edge × (edge.block ≡ target)
    target_from target there =
        let edge = from_map (λ (e : Edge ℕ ℕ). e.target) (each edge_of (destinations (inst_at first inst).shape)) target (subst (λ o. Contains (placed_targets o) target) placed there) in
        let call = from_map edge_of (destinations (inst_at first inst).shape) edge.0 edge.1 in
        (call.0, call.1, ap (λ (e : Edge ℕ ℕ). e.target) call.2 ∙ edge.2)

    edges_same : destinations (inst_at f inst).shape ≡ destinations (inst_at first inst).shape
    edges_same = ap (λ (m : InstNode). destinations m.shape) same

    abbrev acts_here : List SlotAct
    acts_here = each Needs act.acts_ahead.outs ++ each Gives (placed_gives (placed_at (view_of first) (place_at block k))) ++ each Needs uses.uses

    none_out : placed_targets (placed_at (view_of first) (place_at block k)) ≡ [] → act.acts_ahead.outs ≡ []
    none_out none = by act.acts_ahead.outs refl
      where
        by : (xs : List ℕ) → act.acts_ahead.outs ≡ xs → act.acts_ahead.outs ≡ []
        by [] same_outs = same_outs
        by (x ∷ xs) same_outs =
            let ahead = (act.acts_ahead.live x (subst (λ (ys : List ℕ). Contains ys x) (sym same_outs) (0, omega arith, refl))).1 in
            let there = target_to ahead.0 (subst (λ (ys : List BlockCall). Contains ys ahead.0) edges_same ahead.1) in
            absurd (let inside_none = (subst (λ (ys : List ℕ). Contains ys ahead.0.block) none there).1 in omega (arith, inside_none))

    pub acts_at : ActsAt (view_of first) (has plan.spilled) st (place_at block k)
        (each Needs act.acts_ahead.outs ++ each Gives (placed_gives (placed_at (view_of first) (place_at block k))) ++ each Needs uses.uses)
    acts_at = record {
      outs = act.acts_ahead.outs;
      outs_live = λ v here.
          let both = act.acts_ahead.live v here in
          let edge = both.1.0 in
          let traced = ((planned.analysis.live_in edge.block).members v).0 both.1.2 in (
            stands_from v plan.spilled both.0,
            out_is_live (view_of first) (place_at block k) edge.block v (target_to edge (subst (λ (ys : List BlockCall). Contains ys edge) edges_same both.1.1))
                (before_counted (view_of first) v (place_at edge.block 0) traced.0.live) traced.1,
          );
      outs_all = λ v target spilled there live none.
          let member = stands_to v plan.spilled spilled in
          let across = (planned.planned.named v).0 member in
          let traced = ((planned.analysis.exact across.0).members v).0 across.1 in
          let edge = target_from target there in
          let found : Contains (found_in plan.liveness.now target) v =
          ((planned.analysis.live_in target).members v).1 (
            record {
              reached = inr (place_at block k, reachable, there);
              member = traced.member;
              unaliased = traced.unaliased;
              live = before_every (view_of first) v (place_at target 0) live;
            },
            none,
          ) in
          elim (act.acts_ahead.all v member (
            edge.0,
            subst (λ (ys : List BlockCall). Contains ys edge.0) (sym edges_same) edge.1,
            subst (λ (t : ℕ). Contains (found_in plan.liveness.now t) v) (sym edge.2) found,
          )) [
            | inl out ↦ inl out
            | inr slot ↦ inr (slot.0, ap (λ slots. fin.get slots v) (sym so_far.state.assigned) ∙ slot.1)
          ];
      outs_none = none_out;
      uses = uses.uses;
      uses_live = λ v here.
          elim (uses.from v here) [
            | inl over ↦ (
              stands_from v plan.spilled ((planned.planned.named v).1 (inst, over.1)),
              (let traced = ((planned.analysis.exact inst).members v).0 over.1 in
                  inr (across_counted (view_of first) v (place_at block k) (subst (λ (q : Place ℕ). IsLiveAcross every_argument (view_of first) q v) (placed_there first planned.known block k inst inside is) traced.live))),
            )
            | inr used ↦ (
              stands_from v plan.spilled used.0,
              used_is_live (view_of first) (length first.values) walk.gives_once (place_at block k) v (used_to first inst v (place_at block k) placed used.1),
            )
          ];
      uses_all = λ v spilled used. inl (uses.all v (stands_to v plan.spilled spilled) (used_from first inst v (place_at block k) placed used));
      acts_are = refl;
    }

    pub outs_are : acts_at.outs ≡ act.acts_ahead.outs
    unfolding acts_at
    outs_are = refl

    -- THE STEP ----------------------------------------------------------------------------------------------------------

    results_same : placed_gives (placed_at (view_of first) (place_at block k)) ≡ (inst_at act.ahead inst).results
    results_same = ap placed_gives placed ∙ ap (λ (m : InstNode). m.results) (sym same_ahead)

    abbrev pub list : List SlotAct
    list = each Needs act.acts_ahead.outs ++ each Gives (placed_gives (placed_at (view_of first) (place_at block k))) ++ each Needs uses.uses

    pub state_is : after_acts (types_in first) list st ≡ after_acts (types_in first) (each Needs uses.uses) given_state
    state_is =
        ap (λ (vs : List ℕ). after_acts (types_in first) (each Needs act.acts_ahead.outs ++ each Gives vs ++ each Needs uses.uses) st) results_same
        ∙ acts_append (types_in first) (each Needs act.acts_ahead.outs ++ each Gives (inst_at act.ahead inst).results) (each Needs uses.uses) st
        ∙ ap (after_acts (types_in first) (each Needs uses.uses)) (acts_append (types_in first) (each Needs act.acts_ahead.outs) (each Gives (inst_at act.ahead inst).results) st)

    leaves : LeavesOthers inst f g
    leaves = at_inst plan inst f a g b (omega (arith, exists, so_far.keeps.insts)) act

    home_in : (inst_at f inst).block ≡ block
    home_in = ap (λ (m : InstNode). m.block) same ∙ home

    still : (i : ℕ) → IsHandledInst first done block (suc k) i → IsHandledInst first done block k i
    still = still_handled first planned.known done block fresh k inst inside is

    before : (i : ℕ) → IsHandledInst first done block k i → (i ≡ inst) ⊎ IsHandledInst first done block (suc k) i
    before = handled_before first planned.known done block fresh k inst inside is

    handled : IsHandledInst first done block k inst
    handled = now_handled first planned.known done block fresh k inst inside is

    entries_stay : (i : ℕ) → i ≢ inst → AllZip (IsEntryOf first st) (found_across plan.liveness.now i) (stack_map_at f.tables i)
        → AllZip (IsEntryOf first (after_acts (types_in first) list st)) (found_across plan.liveness.now i) (stack_map_at g.tables i)
    entries_stay i apart entries =
        subst (AllZip (IsEntryOf first (after_acts (types_in first) list st)) (found_across plan.liveness.now i)) (sym (leaves.maps i apart))
        (zip_weaker (IsEntryOf first st) (IsEntryOf first (after_acts (types_in first) list st)) (found_across plan.liveness.now i) (stack_map_at f.tables i)
        (λ v e entry. record { ty = entry.ty; slot = acts_keep (types_in first) list st v e.slot entry.slot; offset = entry.offset }) entries)

    pub text_then : IsRewrittenTo first plan (IsHandledInst first done block k) (IsApart done block) g b (after_acts (types_in first) list st)
    text_then = record {
      keeps = keeps_trans (length first.blocks) first f g so_far.keeps (keeps_fewer (length first.blocks) (length f.blocks) f g so_far.keeps.blocks leaves.keeps);
      slots = act.goes_used.slots;
      state = subst (IsSlotState g b) (sym state_is) uses.state;
      waiting = λ i inside_first waits.
          leaves.nodes i (omega (arith, inside_first, so_far.keeps.insts)) (λ at_hand. waits (subst (IsHandledInst first done block k) (sym at_hand) handled))
          ∙ so_far.waiting i inside_first (λ earlier. waits (still i earlier));
      lists = λ c inside_first other.
          leaves.lists c (omega (arith, inside_first, so_far.keeps.blocks)) (λ at_home. other.1 (at_home ∙ home_in)) ∙ so_far.lists c inside_first other;
      layout = λ c inside_first stands. so_far.layout c inside_first (leaves.layout c (omega (arith, inside_first, so_far.keeps.blocks)) stands);
      mapped = λ i inside_first was_handled call.
          elim (cases_eq i inst) [
            | inl at_hand ↦
                subst (λ (j : ℕ). AllZip (IsEntryOf first (after_acts (types_in first) list st)) (found_across plan.liveness.now j) (stack_map_at g.tables j)) (sym at_hand)
                (subst (λ (new : SlotState). AllZip (IsEntryOf first new) (found_across plan.liveness.now inst) (stack_map_at g.tables inst)) (sym state_is)
                (uses.mapped (subst (λ (j : ℕ). is_call (inst_at first j).shape ≡ true) at_hand call)))
            | inr apart ↦
                entries_stay i apart
                (so_far.mapped i inside_first (elim (before i was_handled) [ inl at_hand ↦ absurd (apart at_hand) | inr earlier ↦ earlier ]) call)
          ];
      unmapped = λ i inside_first no_map.
          elim (cases_eq i inst) [
            | inl at_hand ↦
                subst (λ (j : ℕ). stack_map_at g.tables j ≡ stack_map_at first.tables j) (sym at_hand)
                (uses.unmapped (elim (cases_Bool (is_call (inst_at first inst).shape)) [
                  | inl call ↦ absurd (no_map (subst (IsHandledInst first done block k) (sym at_hand) handled) (subst (λ (j : ℕ). is_call (inst_at first j).shape ≡ true) (sym at_hand) call))
                  | inr no_call ↦ no_call
                ]))
            | inr apart ↦ leaves.maps i apart ∙ so_far.unmapped i inside_first (λ earlier call. no_map (still i earlier) call)
          ];
    }
