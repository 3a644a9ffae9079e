-- All blocks are rewritten: what is spilled and where, and the stack maps.
use Rattle.std.proofs.Common.{◌≡◌, ◌∙◌, ◌<◌, ℕ, zero, suc, Bool, true, false, if◌then◌else◌, List, [], ◌∷◌, length, get_or, map as each, refl, sym, ap, ap₂, subst, arith}
use Rattle.std.specs.Prelude.{Contains, None, Option, Some, option_map, slice_get, unwrap_or}
use Rattle.std.specs.FinMap as fin
use Rattle.std.specs.List.{AllZip}
use Rattle.std.proofs.lemmas.Bool.{false≢true}
use Rattle.std.proofs.lemmas.Option.{slice_get-get_or, slice_get-map, slice_get_within}
use Rattle.clif_types.specs.EntitySet.{has}
use Rattle.clif_types.specs.declared.stackmap.UserStackMapEntry.{UserStackMapEntry}
use Rattle.clif_types.specs.declared.types.«Type».{«Type»}
use Rattle.clif_tables.specs.Lists.{stack_map_at}
use Rattle.clif_instructions.specs.Instruction.{is_call}
use Rattle.clif_instructions.specs.Members.{stands_in}
use Rattle.clif_nodes.specs.declared.nodes.ValueNode.{ValueNode}
use Rattle.clif_ir.specs.Body.{Body, block_at, inst_at}
use Rattle.clif_meaning.specs.Event.{CallShape}
use Rattle.clif_meaning.specs.FunctionView.{Placed}
use Rattle.clif_meaning.specs.Path.{IsReachable, Place}
use Rattle.clif_meaning.specs.Typing.{call_shape}
use Rattle.clif_meaning.specs.View.{operation_of, placed_of, view_of}
use Rattle.clif_meaning.specs.WellPlaced.{WellPlaced, function_flow, placed_at}
use Rattle.clif_safepoints.specs.Analysis.{IsTracedAcross, found_across, place_of_inst}
use Rattle.clif_safepoints.specs.Liveness.{IsLiveAcross, every_argument}
use Rattle.clif_safepoints.proofs.Paths.{items_are, placed_is, size_is, stands_from, stands_to}
use Rattle.clif_spilling_laws.specs.Live.{IsLiveAcrossCall, SharesNoSlot, SpillsLive}
use Rattle.clif_spilling_laws.specs.Rewriting.{HasMap, IsExactMap, IsSpilling, entry_of}
use Rattle.clif_spilling_laws.specs.EdgeLaws.{ConsistentLeadsInside, EdgesStayMatched}
use Rattle.clif_spilling_laws.specs.GivesOnce.{ConsistentGivesOnce}
use Rattle.clif_spilling_laws.specs.Laws.{MaySpill, SpillingMeansTheSame}
use Rattle.clif_spilling_laws.specs.Runs.{CountsEnough}
use Rattle.clif_spilling_laws.specs.SlotContents.{SlotContents}
use Rattle.clif_spilling_laws.specs.Spilling.{Spilling}
use Rattle.clif_stack_slots.specs.Slots.{HasNone, SlotMap}
use Rattle.clif_stack_slots.specs.declared.slots.StackSlots.{StackSlots}
use Rattle.clif_spiller.specs.Acting.{IsEntryOf}
use Rattle.clif_spiller.specs.Allocating.{IsWalk, SlotState, every, no_slots}
use Rattle.clif_spiller.specs.Plans.{insts_inside}
use Rattle.clif_spiller.specs.Progress.{AreRewritten, IsEnd, IsInDone, IsPlannedFor}
use Rattle.clif_spiller.specs.Spills.{IsReachedCall, MayBeRun, Spills, beside}
use Rattle.clif_spiller.specs.declared.plan.Plan.{Plan}
use Rattle.clif_spiller.proofs.Allocating.Acting.{across_counted, across_every}
use Rattle.clif_spiller.proofs.Allocating.Blocks.{starts}
use Rattle.clif_spiller.proofs.Allocating.Bridging.{starts_state}
use Rattle.clif_spiller.proofs.Allocating.Ending.{all_assigned, few_slots, shares_none, slot_of_size}
use Rattle.clif_spiller.proofs.Allocating.Places.{block_of_path, inside_of_path}
use Rattle.clif_spiller.proofs.Advancing.{names_stay}
use Rattle.clif_spiller.proofs.Keeping.{keeps_refl, same_value}
use Rattle.clif_spiller.proofs.Progressing.Finishing.{landing_beyond, text_is}
use Rattle.clif_spiller.proofs.Progressing.Homes.{inst_inside, placed_there}
use Rattle.clif_spiller.proofs.Progressing.Members.{reachable_in}
use Rattle.clif_spiller.proofs.Progressing.Steps.{walk_of}
use Rattle.clif_spiller.proofs.Shapes.{get_or_inside}
use Rattle.clif_spiller.proofs.Starting.{knows_none}
use Rattle.clif_spiller.proofs.Text.Calls.{calls_so, is_a_call, no_call}

-- AT FIRST --------------------------------------------------------------------------------------------------------------

-- no block is rewritten, and no value has a slot
pub none_rewritten : (first : Body) (recorded : List ℕ) (plan : Plan) (a : StackSlots) → HasNone a → AreRewritten first recorded plan [] first a
none_rewritten first recorded plan a none = record {
  written = record {
    blocks = λ last final slot_of leads end c member. absurd (let there = member.1 in omega (arith, there));
    landings = λ last final slot_of leads end c beyond below. absurd (omega (arith, beyond, below));
  };
  st = no_slots first.tables.stack_slots;
  text = record {
    keeps = keeps_refl (length first.blocks) first;
    slots = knows_none first a none;
    state = starts_state first a none;
    waiting = λ i inside waits. refl;
    lists = λ c inside apart. refl;
    layout = λ c inside stands. stands;
    mapped = λ i inside handled call. absurd (let there = handled.1.1 in omega (arith, there));
    unmapped = λ i inside no_map. refl;
  };
  allocated = starts (view_of first) (has plan.spilled) plan.liveness.now.order first.tables.stack_slots;
}

-- PLACES OF INSTRUCTIONS ------------------------------------------------------------------------------------------------

-- the instruction at a place
pub inst_there : (f : Body) (p : Place ℕ) (placed : Placed) → placed_at (view_of f) p ≡ Some placed
    → (inst : ℕ) × (slice_get (insts_inside f p.block) p.index ≡ Some inst) × (placed_of f inst ≡ placed)
inst_there f p placed is = by (slice_get (insts_inside f p.block) p.index) refl
  where
    mapped : option_map (placed_of f) (slice_get (insts_inside f p.block) p.index) ≡ Some placed
    mapped = sym (ap (λ (items : List Placed). slice_get items p.index) (items_are f p.block) ∙ slice_get-map (placed_of f) (insts_inside f p.block) p.index) ∙ is

    by : (found : Option ℕ) → slice_get (insts_inside f p.block) p.index ≡ found
        → (inst : ℕ) × (slice_get (insts_inside f p.block) p.index ≡ Some inst) × (placed_of f inst ≡ placed)
    by None none = absurd (let both = sym (ap (option_map (placed_of f)) none) ∙ mapped in cc)
    by (Some inst) some = (inst, some, (let both = sym (ap (option_map (placed_of f)) some) ∙ mapped in cc))

got : (xs : List ℕ) (k x : ℕ) → slice_get xs k ≡ Some x → get_or xs k x ≡ x
got [] k x is = cc
got (y ∷ xs) zero x is = cc
got (y ∷ xs) (suc k) x is = got xs k x is

-- the laws of spilling
pub record SpillingLaws : Type 0 where
  pub means : SpillingMeansTheSame
  pub contents : SlotContents
  pub edges : EdgesStayMatched
  pub inside : ConsistentLeadsInside
  pub once : ConsistentGivesOnce

module _ (first : Body) (recorded : List ℕ) (plan : Plan) (planned : IsPlannedFor first recorded plan) where
  -- a place that is reached holds an instruction of its block
  inside_of : (p : Place ℕ) → IsReachable (function_flow (view_of first)) p → p.index < length (insts_inside first p.block)
  inside_of p reached = subst (λ n. p.index < n) (size_is first p.block) (inside_of_path (view_of first) reached.0 p reached.1)

  -- an instruction that is reached is in a block of the order
  in_order : (inst : ℕ) → inst < length first.insts → IsReachable (function_flow (view_of first)) (place_of_inst first inst) → IsInDone first plan.liveness.now.order inst
  in_order inst exists reachable =
      let block : ℕ = (inst_at first inst).block in (
        block,
        (planned.analysis.order.reached block).1 (block_of_path (view_of first) reachable.0 (place_of_inst first inst) reachable.1),
        there block (inside_of (place_of_inst first inst) reachable),
      )
    where
      there : (block : ℕ) → (place_of_inst first inst).index < length (insts_inside first (inst_at first inst).block) → Contains (insts_inside first (inst_at first inst).block) inst
      there block inside = by (stands_in (inst_at first inst).block first.layout) inside
        where
          by : (test : Bool) → (place_of_inst first inst).index < length (if test then (block_at first (inst_at first inst).block).insts else [])
              → Contains (if test then (block_at first (inst_at first inst).block).insts else []) inst
          by true within =
              let stands = (planned.known.insts_stand inst exists).1 in
              (stands.0, stands.1, get_or_inside (block_at first (inst_at first inst).block).insts stands.0 inst 0 stands.1 ∙ stands.2)
          by false within = absurd (omega (arith, within))

  -- and one of a block of the order is reached
  reached_so : (inst : ℕ) → IsInDone first plan.liveness.now.order inst → IsReachable (function_flow (view_of first)) (place_of_inst first inst)
  reached_so inst done =
      let k = done.2 in
      subst (IsReachable (function_flow (view_of first))) (sym (placed_there first planned.known done.0 k.0 inst k.1 k.2))
      (reachable_in (view_of first) done.0 ((planned.analysis.order.reached done.0).0 done.1) k.0 (subst (λ n. k.0 < n) (sym (size_is first done.0)) k.1))

  placed_so : (inst : ℕ) → IsInDone first plan.liveness.now.order inst → placed_at (view_of first) (place_of_inst first inst) ≡ Some (placed_of first inst)
  placed_so inst done =
      let k = done.2 in
      subst (λ (p : Place ℕ). placed_at (view_of first) p ≡ Some (placed_of first inst)) (sym (placed_there first planned.known done.0 k.0 inst k.1 k.2))
      (placed_is first done.0 k.0 inst (slice_get-get_or (insts_inside first done.0) k.0 inst k.1 ∙ ap (λ i. Some i) k.2))

  -- WHAT IS SPILLED -----------------------------------------------------------------------------------------------------

  spilled_is : (pointer : «Type») (g : Body) (slot_of : ℕ → ℕ) → SpillsLive every (has recorded) (beside first pointer g (has plan.spilled) slot_of)
  spilled_is pointer g slot_of v = (to, from)
    where
      to : has plan.spilled v ≡ true → IsLiveAcrossCall every (has recorded) (view_of first) v
      to spilled =
          let across = (planned.planned.named v).0 (stands_to v plan.spilled spilled) in
          let inst : ℕ = across.0 in
          let traced = ((planned.analysis.exact inst).members v).0 across.1 in
          let call = is_a_call first.tables (inst_at first inst).shape traced.call in
          record {
            place = place_of_inst first inst;
            reachable = traced.reachable;
            placed = placed_of first inst;
            there = placed_so inst (in_order inst traced.exists traced.reachable);
            shape = call.0;
            call = call.1;
            member = stands_from v recorded traced.member;
            unaliased = traced.unaliased;
            live = across_counted (view_of first) v (place_of_inst first inst) traced.live;
          }

      from : IsLiveAcrossCall every (has recorded) (view_of first) v → has plan.spilled v ≡ true
      from live =
          let found = inst_there first live.place live.placed live.there in
          let inst : ℕ = found.0 in
          let inside = slice_get_within (insts_inside first live.place.block) live.place.index inst found.1 in
          let is = got (insts_inside first live.place.block) live.place.index inst found.1 in
          let same : place_of_inst first inst ≡ live.place = placed_there first planned.known live.place.block live.place.index inst inside is in
          let call : call_shape (operation_of first.tables (inst_at first inst).shape) ≡ Some live.shape =
          ap (λ (placed : Placed). call_shape placed.instruction.operation) found.2 ∙ live.call in
          let traced : IsTracedAcross first recorded inst v = record {
            exists = (inst_inside first planned.known live.place.block inst (live.place.index, inside, is)).0;
            call = calls_so first.tables (inst_at first inst).shape live.shape call;
            reachable = subst (IsReachable (function_flow (view_of first))) (sym same) live.reachable;
            member = stands_to v recorded live.member;
            unaliased = live.unaliased;
            live = subst (λ (p : Place ℕ). IsLiveAcross every_argument (view_of first) p v) (sym same) (across_every (view_of first) v live.place live.live);
          } in
          stands_from v plan.spilled ((planned.planned.named v).1 (inst, ((planned.analysis.exact inst).members v).1 traced))

  -- ENTRIES -------------------------------------------------------------------------------------------------------------

  abbrev slot_in : SlotState → ℕ → ℕ
  slot_in st v = unwrap_or (fin.get st.assigned v) 0

  entries_are : (pointer : «Type») (g : Body) (st : SlotState) (values : List ℕ) (entries : List UserStackMapEntry) → AllZip (IsEntryOf first st) values entries
      → entries ≡ each (entry_of (beside first pointer g (has plan.spilled) (slot_in st))) values
  entries_are pointer g st [] [] zip = refl
  entries_are pointer g st [] (e ∷ entries) zip = absurd zip
  entries_are pointer g st (v ∷ values) [] zip = absurd zip
  entries_are pointer g st (v ∷ values) (e ∷ entries) zip =
      let slot : slot_in st v ≡ e.slot = ap (λ found. unwrap_or found 0) zip.0.slot in
      ap₂ (λ (x : UserStackMapEntry) (xs : List UserStackMapEntry). x ∷ xs)
      (λ i. record { ty = zip.0.ty i; slot = sym slot i; offset = zip.0.offset i }) (entries_are pointer g st values entries zip.1)

  -- THE END -------------------------------------------------------------------------------------------------------------

  module _ (g : Body) (b : StackSlots) (are : AreRewritten first recorded plan plan.liveness.now.order g b) where
    abbrev s : Spilling
    s = beside first plan.pointer g (has plan.spilled) (slot_in are.st)

    walk : IsWalk (view_of first) (length first.values) (has plan.spilled) plan.liveness.now.order
    walk = walk_of first recorded plan planned

    assigned : (v slot : ℕ) → fin.get are.st.assigned v ≡ Some slot → slot_in are.st v ≡ slot
    assigned v slot is = ap (λ found. unwrap_or found 0) is

    mapped_is : (inst : ℕ) → IsReachedCall first inst → IsExactMap every (has recorded) s (place_of_inst first inst) (stack_map_at g.tables inst)
    mapped_is inst call =
        let handled = in_order inst call.exists call.reachable in
        record {
          values = found_across plan.liveness.now inst;
          rising = (planned.analysis.exact inst).rising;
          all = λ v. (
            (λ here.
                let traced = ((planned.analysis.exact inst).members v).0 here in
                (stands_from v recorded traced.member, traced.unaliased, across_counted (view_of first) v (place_of_inst first inst) traced.live)),
            (λ three. ((planned.analysis.exact inst).members v).1 (record {
              exists = call.exists;
              call = call.call;
              reachable = call.reachable;
              member = stands_to v recorded three.0;
              unaliased = three.1;
              live = across_every (view_of first) v (place_of_inst first inst) three.2;
            })),
          );
          entries_are = entries_are plan.pointer g are.st (found_across plan.liveness.now inst) (stack_map_at g.tables inst) (are.text.mapped inst call.exists handled call.call);
        }

    unmapped_is : (inst : ℕ) → inst < length first.insts → (¬ IsReachedCall first inst) → stack_map_at g.tables inst ≡ stack_map_at first.tables inst
    unmapped_is inst exists none =
        are.text.unmapped inst exists (λ done call. none (record { exists = exists; call = call; reachable = reached_so inst done }))

    -- each instruction has its map
    has_map : (inst : ℕ) → IsInDone first plan.liveness.now.order inst
        → HasMap every s (has recorded) (place_of_inst first inst) (call_shape (operation_of first.tables (inst_at first inst).shape)) (stack_map_at first.tables inst) (stack_map_at g.tables inst)
    has_map inst done = by (is_call (inst_at first inst).shape) refl
      where
        exists : inst < length first.insts
        exists = (inst_inside first planned.known done.0 inst done.2).0

        by : (test : Bool) → is_call (inst_at first inst).shape ≡ test
            → HasMap every s (has recorded) (place_of_inst first inst) (call_shape (operation_of first.tables (inst_at first inst).shape)) (stack_map_at first.tables inst) (stack_map_at g.tables inst)
        by true is =
            let call = is_a_call first.tables (inst_at first inst).shape is in
            subst (λ (found : Option CallShape). HasMap every s (has recorded) (place_of_inst first inst) found (stack_map_at first.tables inst) (stack_map_at g.tables inst)) (sym call.1)
            (mapped_is inst (record { exists = exists; call = is; reachable = reached_so inst done }))
        by false is =
            subst (λ (found : Option CallShape). HasMap every s (has recorded) (place_of_inst first inst) found (stack_map_at first.tables inst) (stack_map_at g.tables inst))
            (sym (no_call first.tables (inst_at first inst).shape is))
            (are.text.unmapped inst exists (λ other call. false≢true (sym is ∙ call)))

    ends : IsEnd first recorded plan g b (slot_in are.st)
    ends = record {
      slots = λ v slot has_slot. assigned v slot (ap (λ (m : SlotMap). fin.get m v) (sym are.text.state.assigned) ∙ has_slot);
      spilled = λ v slot has_slot. (are.allocated 0).slots.spilled v slot (ap (λ (m : SlotMap). fin.get m v) (sym are.text.state.assigned) ∙ has_slot);
      mapped = has_map;
    }

    spilling_is : IsSpilling every s (has recorded)
    spilling_is = record {
      text = text_is first recorded plan planned g b are (slot_in are.st) ends;
      spilled = spilled_is plan.pointer g (slot_in are.st);
      slots = λ v spilled.
          slot_of_size s (length first.values) plan.liveness.now.order walk are.st are.allocated are.text.state.slots assigned v
          (all_assigned s (length first.values) plan.liveness.now.order walk are.st are.allocated (has recorded) (spilled_is plan.pointer g (slot_in are.st)) v spilled);
      old_slots = (are.text.keeps.slots, are.text.keeps.slots_are);
      types = λ v inside. ap (λ (node : ValueNode). node.ty) (same_value (length first.blocks) first g are.text.keeps v inside);
      aliases = λ v inside. names_stay (length first.blocks) first g are.text.keeps planned.known v inside;
    }

    shares_so : WellPlaced (view_of first) → SharesNoSlot every s
    shares_so = shares_none s (length first.values) plan.liveness.now.order walk are.st are.allocated are.text.state.slots assigned

    -- every argument counts
    counts_so : CountsEnough every (has recorded) s
    counts_so target place param reached uncounted is = cc

    may_spill : SpillingLaws → MayBeRun first → MaySpill every (has recorded) s
    may_spill laws may = record {
      gives_once = laws.once first planned.known;
      edges_match = may.edges_match;
      aliases_typed = may.aliases_typed;
      well_placed = may.well_placed;
      counts_enough = counts_so;
      shares_no_slot = shares_so may.well_placed;
    }

    pub all_spilled : SpillingLaws → Spills first recorded plan.pointer g
    all_spilled laws = record {
      is_spilled = has plan.spilled;
      slot_of = slot_in are.st;
      spilling = spilling_is;
      shares_no_slot = shares_so;
      order = plan.liveness.now.order;
      ordered = planned.analysis.order;
      few_slots = few_slots s (length first.values) plan.liveness.now.order walk are.st are.allocated are.text.state.slots assigned;
      mapped = mapped_is;
      unmapped = unmapped_is;
      edges_match = λ typed matched.
          laws.edges every (has recorded) s spilling_is (laws.once first planned.known) typed
          (laws.inside first every s planned.known refl refl (landing_beyond first recorded plan planned g b are (slot_in are.st) ends)) matched;
      same_meaning = λ may world met. laws.means every (has recorded) s world spilling_is (may_spill laws may) met;
      slot_contents = λ may world met. laws.contents every (has recorded) s world spilling_is (may_spill laws may) met;
    }
