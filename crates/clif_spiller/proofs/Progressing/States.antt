-- The slots after an instruction is rewritten: what it uses, and its stack map.
use Rattle.std.proofs.Common.{◌≡◌, ◌∙◌, ◌<◌, ◌⊎◌, ℕ, Bool, true, false, List, ◌++◌, length, map as each, take, drop, sym, ap, ap₂, subst, inl, inr}
use Rattle.std.specs.Prelude.{Contains, filter, slice_index_or}
use Rattle.clif_nodes.specs.Nodes.{no_inst}
use Rattle.std.specs.List.{AllZip}
use Rattle.std.proofs.lemmas.List.{append-nil}
use Rattle.std.proofs.lemmas.List.Elements.{Contains-append_cases, Contains-append_left, Contains-append_right}
use Rattle.clif_types.specs.EntitySet.{has}
use Rattle.clif_tables.specs.Lists.{stack_map_at}
use Rattle.clif_instructions.specs.Instruction.{destinations, is_call, operands}
use Rattle.clif_nodes.specs.declared.nodes.InstNode.{InstNode}
use Rattle.clif_ir.specs.Body.{Body, inst_at, resolved}
use Rattle.clif_ir.specs.Consistent.{IsConsistent}
use Rattle.clif_safepoints.specs.Analysis.{found_across}
use Rattle.clif_safepoints.proofs.Numbered.{filter_from, filter_to}
use Rattle.clif_safepoints.proofs.Paths.{stands_from, stands_to}
use Rattle.clif_stack_slots.specs.declared.slots.StackSlots.{StackSlots}
use Rattle.clif_spiller.specs.Acting.{Acts, ActsAtCall, ActsAtSafepoint, IsEntryOf, IsOnTheWay, edge_values, needs, operand_values, types_in, used_values}
use Rattle.clif_spiller.specs.Allocating.{IsSlotState, Needs, SlotState, after_acts}
use Rattle.clif_spiller.specs.Keeping.{Keeps}
use Rattle.clif_spiller.specs.declared.plan.Plan.{Plan}
use Rattle.clif_spiller.proofs.Acting.{map_append, needs_append}
use Rattle.clif_spiller.proofs.Advancing.{map_alike, names_stay, on_the_way}
use Rattle.clif_spiller.proofs.Allocating.States.{acts_append, acts_keep}
use Rattle.clif_spiller.proofs.Edges.{all_edges_stay}
use Rattle.clif_spiller.proofs.Progressing.Using.{landed_from, landed_to}
use Rattle.clif_spiller.proofs.Shapes.{get_or_inside}
use Rattle.clif_spiller.proofs.StackMaps.{zip_weaker}

-- WHAT IS USED STAYS ----------------------------------------------------------------------------------------------------

module _ (first : Body) (known : IsConsistent first) (n : ℕ) (f : Body) (keeps : Keeps n first f) (inst : ℕ) where
  pub operands_stay : operands (inst_at f inst).shape ≡ operands (inst_at first inst).shape → operand_values f inst ≡ operand_values first inst
  operands_stay same =
      ap (each (resolved f)) same
      ∙ map_alike (resolved f) (resolved first) (operands (inst_at first inst).shape) (λ v here.
      names_stay n first f keeps known v
      (subst (λ w. w < length first.values) (get_or_inside (operands (inst_at first inst).shape) here.0 0 v here.1 ∙ here.2) (known.operands_exist inst here.0 here.1)))

  pub edges_stay : destinations (inst_at f inst).shape ≡ destinations (inst_at first inst).shape
      → edge_values f (destinations (inst_at f inst).shape) ≡ edge_values first (destinations (inst_at first inst).shape)
  edges_stay same = ap (edge_values f) same ∙ all_edges_stay n first f keeps known (destinations (inst_at first inst).shape) (known.edges_exist inst)

-- members of what needs slots
spilled_to : (plan : Plan) (xs : List ℕ) (v : ℕ) → Contains (filter (has plan.spilled) xs) v → Contains plan.spilled v × Contains xs v
spilled_to plan xs v here = let both = filter_to (has plan.spilled) xs v here in (stands_to v plan.spilled both.1, both.0)

spilled_from : (plan : Plan) (xs : List ℕ) (v : ℕ) → Contains plan.spilled v → Contains xs v → Contains (filter (has plan.spilled) xs) v
spilled_from plan xs v spilled here = filter_from (has plan.spilled) xs v here (stands_from v plan.spilled spilled)

-- USES ------------------------------------------------------------------------------------------------------------------

-- what is needed from the state after the results on, and the stack map then
pub record Uses (first : Body) (plan : Plan) (inst : ℕ) (s : SlotState) (g : Body) (b : StackSlots) : Type 0 where
  pub uses : List ℕ
  pub state : IsSlotState g b (after_acts (types_in first) (each Needs uses) s)
  pub from : (v : ℕ) → Contains uses v
      → ((is_call (inst_at first inst).shape ≡ true) × Contains (found_across plan.liveness.now inst) v) ⊎ (Contains plan.spilled v × Contains (used_values first inst) v)
  pub all : (v : ℕ) → Contains plan.spilled v → Contains (used_values first inst) v → Contains uses v
  pub mapped : is_call (inst_at first inst).shape ≡ true
      → AllZip (IsEntryOf first (after_acts (types_in first) (each Needs uses) s)) (found_across plan.liveness.now inst) (stack_map_at g.tables inst)
  pub unmapped : is_call (inst_at first inst).shape ≡ false → stack_map_at g.tables inst ≡ stack_map_at first.tables inst

module _ (first : Body) (plan : Plan) (inst : ℕ) (f : Body) (a : StackSlots) (way : IsOnTheWay first plan f) (s : SlotState) (state : IsSlotState f a s)
    (same : inst_at f inst ≡ inst_at first inst) (map_same : stack_map_at f.tables inst ≡ stack_map_at first.tables inst) (g : Body) (b : StackSlots) where
  -- no call: what it uses
  plain_uses : is_call (inst_at first inst).shape ≡ false → Acts plan inst f a g b (needs plan (used_values f inst)) → Uses first plan inst s g b
  plain_uses no_call acts =
      let stay : used_values f inst ≡ used_values first inst =
      ap₂ (λ xs ys. xs ++ ys) (operands_stay first way.known 0 f way.keeps inst (ap (λ (m : InstNode). operands m.shape) same))
      (edges_stay first way.known 0 f way.keeps inst (ap (λ (m : InstNode). destinations m.shape) same)) in
      record {
        uses = filter (has plan.spilled) (used_values first inst);
        state = subst (λ (xs : List ℕ). IsSlotState g b (after_acts (types_in first) (needs plan xs) s)) stay (acts.goes_by first way s state);
        from = λ v here. inr (spilled_to plan (used_values first inst) v here);
        all = λ v spilled used. spilled_from plan (used_values first inst) v spilled used;
        mapped = λ call. absurd (let both = sym no_call ∙ call in cc);
        unmapped = λ _. acts.maps inst ∙ map_same;
      }

  -- a call: its map, its landing blocks and what it uses
  module _ (call : is_call (inst_at first inst).shape ≡ true) (h : Body) (c : StackSlots) (at : ActsAtCall plan inst f a h c)
      (used : Acts plan inst h c g b (needs plan (used_values h inst))) where
    abbrev across : List ℕ
    across = found_across plan.liveness.now inst

    abbrev mapped_body : Body
    mapped_body = at.mapped

    abbrev landed : List ℕ
    landed =
        edge_values mapped_body (drop 1 (destinations (inst_at mapped_body inst).shape)) ++ edge_values mapped_body (take 1 (destinations (inst_at mapped_body inst).shape))

    way_mapped : IsOnTheWay first plan mapped_body
    way_mapped = on_the_way first plan f mapped_body way at.goes.keeps

    way_landed : IsOnTheWay first plan h
    way_landed = on_the_way first plan mapped_body h way_mapped at.goes_on.keeps

    same_mapped : inst_at mapped_body inst ≡ inst_at first inst
    same_mapped = ap (λ (xs : List InstNode). slice_index_or xs inst no_inst) at.maps.insts ∙ same

    landed_state : IsSlotState h c (after_acts (types_in first) (needs plan landed) (after_acts (types_in first) (each Needs across) s))
    landed_state =
        at.lands.acts.goes_by first way_mapped (after_acts (types_in first) (each Needs across) s) (at.maps.goes_by first way s state)

    -- the edges need nothing any more
    operands_alone : needs plan (used_values h inst) ≡ needs plan (operand_values first inst)
    operands_alone =
        needs_append plan (operand_values h inst) (edge_values h (destinations (inst_at h inst).shape))
        ∙ ap₂ (λ xs ys. xs ++ ys)
        (ap (needs plan) (operands_stay first way.known 0 h way_landed.keeps inst (at.lands.operands ∙ ap (λ (m : InstNode). operands m.shape) same_mapped)))
        at.lands.pass_none
        ∙ append-nil (needs plan (operand_values first inst))

    abbrev all_uses : List ℕ
    all_uses = (across ++ filter (has plan.spilled) landed) ++ filter (has plan.spilled) (operand_values first inst)

    acts_are : each Needs all_uses ≡ (each Needs across ++ needs plan landed) ++ needs plan (operand_values first inst)
    acts_are =
        map_append Needs (across ++ filter (has plan.spilled) landed) (filter (has plan.spilled) (operand_values first inst))
        ∙ ap (λ xs. xs ++ needs plan (operand_values first inst)) (map_append Needs across (filter (has plan.spilled) landed))

    state_is : after_acts (types_in first) (each Needs all_uses) s
        ≡ after_acts (types_in first) (needs plan (operand_values first inst)) (after_acts (types_in first) (needs plan landed) (after_acts (types_in first) (each Needs across) s))
    state_is =
        ap (λ acts. after_acts (types_in first) acts s) acts_are
        ∙ acts_append (types_in first) (each Needs across ++ needs plan landed) (needs plan (operand_values first inst)) s
        ∙ ap (after_acts (types_in first) (needs plan (operand_values first inst))) (acts_append (types_in first) (each Needs across) (needs plan landed) s)

    edges_were : edge_values mapped_body (destinations (inst_at mapped_body inst).shape) ≡ edge_values first (destinations (inst_at first inst).shape)
    edges_were = edges_stay first way.known 0 mapped_body way_mapped.keeps inst (ap (λ (m : InstNode). destinations m.shape) same_mapped)

    call_uses : Uses first plan inst s g b
    call_uses = record {
      uses = all_uses;
      state = subst (IsSlotState g b) (sym state_is)
          (subst (λ acts. IsSlotState g b (after_acts (types_in first) acts (after_acts (types_in first) (needs plan landed) (after_acts (types_in first) (each Needs across) s))))
          operands_alone (used.goes_by first way_landed (after_acts (types_in first) (needs plan landed) (after_acts (types_in first) (each Needs across) s)) landed_state));
      from = λ v here.
          elim (Contains-append_cases (across ++ filter (has plan.spilled) landed) (filter (has plan.spilled) (operand_values first inst)) v here) [
            | inl before ↦
                elim (Contains-append_cases across (filter (has plan.spilled) landed) v before) [
                  | inl over ↦ inl (call, over)
                  | inr passed ↦
                      let both = spilled_to plan landed v passed in
                      inr (
                        both.0,
                        Contains-append_right (operand_values first inst) (edge_values first (destinations (inst_at first inst).shape)) v
                            (subst (λ (xs : List ℕ). Contains xs v) edges_were (landed_from mapped_body (destinations (inst_at mapped_body inst).shape) v both.1)),
                      )
                ]
            | inr operand ↦
                let both = spilled_to plan (operand_values first inst) v operand in
                inr (both.0, Contains-append_left (operand_values first inst) (edge_values first (destinations (inst_at first inst).shape)) v both.1)
          ];
      all = λ v spilled used.
          elim (Contains-append_cases (operand_values first inst) (edge_values first (destinations (inst_at first inst).shape)) v used) [
            | inl operand ↦
                Contains-append_right (across ++ filter (has plan.spilled) landed) (filter (has plan.spilled) (operand_values first inst)) v
                (spilled_from plan (operand_values first inst) v spilled operand)
            | inr passed ↦
                Contains-append_left (across ++ filter (has plan.spilled) landed) (filter (has plan.spilled) (operand_values first inst)) v
                (Contains-append_right across (filter (has plan.spilled) landed) v
                (spilled_from plan landed v spilled
                (landed_to mapped_body (destinations (inst_at mapped_body inst).shape) v (subst (λ (xs : List ℕ). Contains xs v) (sym edges_were) passed))))
          ];
      mapped = λ _.
          let st = after_acts (types_in first) (each Needs across) s in
          let more = needs plan landed ++ needs plan (operand_values first inst) in
          let later : after_acts (types_in first) (each Needs all_uses) s ≡ after_acts (types_in first) more st =
          state_is ∙ sym (acts_append (types_in first) (needs plan landed) (needs plan (operand_values first inst)) st) in
          subst (λ (new : SlotState). AllZip (IsEntryOf first new) across (stack_map_at g.tables inst)) (sym later)
          (subst (AllZip (IsEntryOf first (after_acts (types_in first) more st)) across) (sym (used.maps inst ∙ at.lands.acts.maps inst))
          (zip_weaker (IsEntryOf first st) (IsEntryOf first (after_acts (types_in first) more st)) across (stack_map_at mapped_body.tables inst)
          (λ v e is. record { ty = is.ty; slot = acts_keep (types_in first) more st v e.slot is.slot; offset = is.offset })
          (at.maps.entries first way s state)));
      unmapped = λ no_call. absurd (let both = sym no_call ∙ call in cc);
    }

  -- by whether it is a call
  pub all_uses_of : (test : Bool) → is_call (inst_at first inst).shape ≡ test → (h : Body) (c : StackSlots) → ActsAtSafepoint test plan inst f a h c
      → Acts plan inst h c g b (needs plan (used_values h inst)) → Uses first plan inst s g b
  all_uses_of true is h c at used = call_uses is h c at used
  all_uses_of false is h c at used =
      plain_uses is (subst (λ (y : StackSlots). Acts plan inst f y g b (needs plan (used_values f inst))) at.1
      (subst (λ (x : Body). Acts plan inst x c g b (needs plan (used_values x inst))) at.0 used))
