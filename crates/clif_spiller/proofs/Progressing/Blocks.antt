-- A block is come to, and left.
use Rattle.std.proofs.Common.{◌≡◌, ◌∙◌, ◌<◌, ◌⊎◌, ℕ, Bool, if◌then◌else◌, List, [], ◌∷◌, ◌++◌, length, map as each, take, refl, sym, ap₂, subst, arith, inl, inr}
use Rattle.std.specs.Prelude.{Contains}
use Rattle.std.specs.List.{AllZip}
use Rattle.std.proofs.lemmas.List.{append-nil, take_all}
use Rattle.std.proofs.lemmas.List.Elements.{Contains-append_left, Contains-append_right, Contains-push_cases}
use Rattle.clif_types.specs.EntitySet.{has}
use Rattle.clif_tables.specs.Lists.{stack_map_at}
use Rattle.clif_instructions.specs.Members.{Stands}
use Rattle.clif_ir.specs.Body.{Body, block_at}
use Rattle.clif_ir.specs.Consistent.{IsConsistent}
use Rattle.clif_meaning.specs.View.{placed_of, view_of}
use Rattle.clif_safepoints.specs.Analysis.{found_across}
use Rattle.clif_safepoints.proofs.Paths.{size_is}
use Rattle.clif_spilling_laws.specs.Rewriting.{AreRewritten as WrittenAs}
use Rattle.clif_stack_slots.specs.declared.slots.StackSlots.{StackSlots}
use Rattle.clif_spiller.specs.Acting.{ActsGiving, IsEntryOf, types_in}
use Rattle.clif_spiller.specs.Allocating.{Gives, IsAllocated, IsSlotState, SlotState, after_acts, every}
use Rattle.clif_spiller.specs.Plans.{GoesOn, insts_inside}
use Rattle.clif_spiller.specs.Progress.{AreRewritten, IsHandledInst, IsInDone, IsPlannedFor, IsRewrittenIn, IsRewrittenTo, LeadsTo, slots_before}
use Rattle.clif_spiller.specs.Spills.{beside}
use Rattle.clif_spiller.specs.declared.plan.Plan.{Plan}
use Rattle.clif_spiller.proofs.Allocating.Blocks.{leaves}
use Rattle.clif_spiller.proofs.Allocating.States.{acts_keep}
use Rattle.clif_spiller.proofs.Keeping.{keeps_fewer, keeps_trans}
use Rattle.clif_spiller.proofs.Progressing.Homes.{inst_inside}
use Rattle.clif_spiller.proofs.Progressing.Leading.{leads_fewer, slots_by_states}
use Rattle.clif_spiller.proofs.Progressing.Members.{drop_all}
use Rattle.clif_spiller.proofs.Progressing.Parameters.{IsEmptied, IsFronted, left_written, stands_alike}
use Rattle.clif_spiller.proofs.Progressing.Steps.{walk_of}
use Rattle.clif_spiller.proofs.Shapes.{get_or_inside}
use Rattle.clif_spiller.proofs.StackMaps.{zip_weaker}

-- LISTS -----------------------------------------------------------------------------------------------------------------

-- a block that wasn't come to has the instructions that it had
pub insts_same : (first : Body) (plan : Plan) (Handled Apart : ℕ → Type 0) (f : Body) (a : StackSlots) (st : SlotState) → IsRewrittenTo first plan Handled Apart f a st
    → (c : ℕ) → c < length first.blocks → Apart c → insts_inside f c ≡ insts_inside first c
insts_same first plan Handled Apart f a st text c exists apart =
    ap₂ (λ (test : Bool) (xs : List ℕ). if test then xs else []) (stands_alike c f.layout first.layout (text.layout c exists) (text.keeps.layout c)) (text.lists c exists apart)

-- ENTERING --------------------------------------------------------------------------------------------------------------

pub entered : (first : Body) (recorded : List ℕ) (plan : Plan) (done : List ℕ) (block : ℕ) (f : Body) (a : StackSlots) → IsConsistent first → block < length first.blocks
    → (Contains done block → ⊥) → AreRewritten first recorded plan done f a → IsRewrittenIn first recorded plan done block (length (insts_inside first block)) f a
entered first recorded plan done block f a known exists new are = record {
  written = record {
    written = record {
      blocks = λ last final slot_of leads end. are.written.blocks last final slot_of (fewer last final leads) end;
      landings = λ last final slot_of leads end. are.written.landings last final slot_of (fewer last final leads) end;
    };
    code = [];
    list = all_there ∙ sym (append-nil (take (length (insts_inside first block)) (insts_inside first block)) ∙ take_all (length (insts_inside first block)) (insts_inside first block) (omega arith));
    below = λ i here.
        let low = (inst_inside first known block i (subst (λ xs. Contains xs i) all_there here)).0 in let more = are.text.keeps.insts in omega (arith, low, more);
    text = λ last final slot_of leads end.
        subst (λ (insts : List ℕ). WrittenAs every (beside first plan.pointer last (has plan.spilled) slot_of) (has recorded) block (length (insts_inside first block)) (each (placed_of first) insts) [])
        (sym (drop_all (insts_inside first block) (length (insts_inside first block)) (omega arith))) refl;
  };
  st = are.st;
  text = record {
    keeps = are.text.keeps;
    slots = are.text.slots;
    state = are.text.state;
    waiting = λ i inside waits. are.text.waiting i inside (λ in_done. waits (inl in_done));
    lists = λ c inside apart. are.text.lists c inside apart.0;
    layout = are.text.layout;
    mapped = λ i inside handled call. are.text.mapped i inside (handled_so i handled) call;
    unmapped = λ i inside none. are.text.unmapped i inside (λ in_done call. none (inl in_done) call);
  };
  allocated = subst (λ n. IsAllocated (view_of first) (has plan.spilled) plan.liveness.now.order (slots_before first) done block n are.st) (size_is first block) (are.allocated block);
}
  where
    all_there : insts_inside f block ≡ insts_inside first block
    all_there = insts_same first plan (IsInDone first done) (λ c. Contains done c → ⊥) f a are.st are.text block exists new

    fewer : (last : Body) (final : StackSlots) → LeadsTo first (IsHandledInst first done block (length (insts_inside first block))) (Contains done) f a last final
        → LeadsTo first (IsInDone first done) (Contains done) f a last final
    fewer last final leads =
        leads_fewer first (IsInDone first done) (Contains done) (IsHandledInst first done block (length (insts_inside first block))) (Contains done) f a last final
        (λ i in_done. inl in_done) (λ c member. member) leads

    handled_so : (i : ℕ) → IsHandledInst first done block (length (insts_inside first block)) i → IsInDone first done i
    handled_so i (inl in_done) = in_done
    handled_so i (inr later) =
        absurd (let inside = (subst (λ xs. Contains xs i) (drop_all (insts_inside first block) (length (insts_inside first block)) (omega arith)) later).1 in omega (arith, inside))

-- LEAVING ---------------------------------------------------------------------------------------------------------------

module _ (first : Body) (recorded : List ℕ) (plan : Plan) (planned : IsPlannedFor first recorded plan) (done : List ℕ) (block : ℕ) (rest : List ℕ)
    (split : plan.liveness.now.order ≡ done ++ block ∷ rest) (exists : block < length first.blocks)
    (f : Body) (a : StackSlots) (was : IsRewrittenIn first recorded plan done block 0 f a) (g : Body) (b : StackSlots) (goes : GoesOn (length f.blocks) f a g b)
    (home : ℕ) (home_is : home ≡ block) (acts : ActsGiving home f a g b (block_at f block).params) (new : Contains done block → ⊥)
    (how : IsEmptied first block f g ⊎ IsFronted first plan block f a g b) where
  in_done_to : (i : ℕ) → IsHandledInst first done block 0 i → IsInDone first (done ++ block ∷ []) i
  in_done_to i (inl earlier) = (earlier.0, Contains-append_left done (block ∷ []) earlier.0 earlier.1, earlier.2)
  in_done_to i (inr here) = (block, Contains-append_right done (block ∷ []) block (0, omega arith, refl), here)

  in_done_from : (i : ℕ) → IsInDone first (done ++ block ∷ []) i → IsHandledInst first done block 0 i
  in_done_from i in_done =
      elim (Contains-push_cases done block in_done.0 in_done.1) [
        | inl earlier ↦ inl (in_done.0, earlier, in_done.2)
        | inr this ↦ inr (subst (λ (c : ℕ). Contains (insts_inside first c) i) (sym this) in_done.2)
      ]

  params_same : (block_at f block).params ≡ (block_at first block).params
  params_same = was.text.keeps.params block exists

  abbrev then_state : SlotState
  then_state = after_acts (types_in first) (each Gives (block_at first block).params) was.st

  params_below : (v : ℕ) → Contains (block_at f block).params v → v < length first.values
  params_below v here =
      let there : Contains (block_at first block).params v = subst (λ xs. Contains xs v) params_same here in
      subst (λ w. w < length first.values) (get_or_inside (block_at first block).params there.0 0 v there.1 ∙ there.2) (planned.known.params_known block there.0 there.1).0

  state_then : IsSlotState g b (after_acts (types_in first) (each Gives (block_at f block).params) was.st)
  state_then = acts.goes_by first (keeps_fewer 0 (length first.blocks) first f (omega arith) was.text.keeps) params_below was.st was.text.state

  pub left : AreRewritten first recorded plan (done ++ block ∷ []) g b
  left = record {
    written = left_written first recorded plan planned done block new exists f a was.st was.text.keeps was.text.state was.written was.allocated g b goes home home_is acts
        (slots_by_states (types_in first) (each Gives (block_at f block).params) f a was.st g b was.text.state state_then) how;
    st = after_acts (types_in first) (each Gives (block_at first block).params) was.st;
    text = record {
      keeps = keeps_trans (length first.blocks) first f g was.text.keeps (keeps_fewer (length first.blocks) (length f.blocks) f g was.text.keeps.blocks goes.keeps);
      slots = goes.slots;
      state = subst (λ xs. IsSlotState g b (after_acts (types_in first) (each Gives xs) was.st)) params_same
          state_then;
      waiting = λ i inside waits.
          acts.nodes i (omega (arith, inside, was.text.keeps.insts)) ∙ was.text.waiting i inside (λ handled. waits (in_done_to i handled));
      lists = λ c inside apart.
          acts.lists c (λ same. apart (subst (Contains (done ++ block ∷ [])) (sym (same ∙ home_is)) (Contains-append_right done (block ∷ []) block (0, omega arith, refl))))
          ∙ was.text.lists c inside (
            (λ earlier. apart (Contains-append_left done (block ∷ []) c earlier)),
            (λ same. apart (subst (Contains (done ++ block ∷ [])) (sym same) (Contains-append_right done (block ∷ []) block (0, omega arith, refl)))),
          );
      layout = λ c inside stands. was.text.layout c inside (subst (Stands c) acts.layout stands);
      mapped = λ i inside handled call.
          subst (AllZip (IsEntryOf first then_state) (found_across plan.liveness.now i)) (sym (acts.maps i))
          (zip_weaker (IsEntryOf first was.st) (IsEntryOf first then_state) (found_across plan.liveness.now i) (stack_map_at f.tables i)
          (λ v e entry. record {
            ty = entry.ty;
            slot = acts_keep (types_in first) (each Gives (block_at first block).params) was.st v e.slot entry.slot;
            offset = entry.offset;
          }) (was.text.mapped i inside (in_done_from i handled) call));
      unmapped = λ i inside none. acts.maps i ∙ was.text.unmapped i inside (λ handled call. none (in_done_to i handled) call);
    };
    allocated =
        leaves (view_of first) (length first.values) (has plan.spilled) plan.liveness.now.order done block rest (walk_of first recorded plan planned) split (slots_before first)
        was.st was.allocated;
  }
