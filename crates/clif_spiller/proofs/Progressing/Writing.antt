-- What is written at an instruction, as the law of spilling has it in the last function.
use Rattle.std.proofs.Common.{◌≡◌, ◌≢◌, ◌∙◌, ◌<◌, ◌≤◌, ◌⊎◌, ◌+◌, ℕ, zero, suc, Bool, true, false, List, [], ◌∷◌, ◌++◌, length, get_or, map as each, take, drop, flat_map, refl, sym, ap, ap₂, subst, arith, inl, inr, append_assoc, length-append}
use Rattle.std.specs.Prelude.{Contains, None, Option, Some, filter, if◌then◌else◌, is_some, slice_index_or}
use Rattle.std.specs.FinMap as fin
use Rattle.std.specs.List.{AllZip}
use Rattle.std.proofs.lemmas.List.Elements.{All-contains, Contains-append_right}
use Rattle.clif_types.specs.EntitySet.{has}
use Rattle.clif_tables.specs.Lists.{TableLists, stack_map_at}
use Rattle.clif_instructions.specs.Edges.{edge_at, no_edge}
use Rattle.clif_instructions.specs.Instruction.{contexts, destinations, is_call, operands}
use Rattle.clif_instructions.specs.Members.{Stands, place_of, stands_in}
use Rattle.clif_instructions.specs.declared.block_call.BlockArg.{BlockArg}
use Rattle.clif_instructions.specs.declared.block_call.BlockArg.TheVariants as arg
use Rattle.clif_instructions.specs.declared.block_call.BlockCall.{BlockCall}
use Rattle.clif_instructions.specs.declared.instructions.InstructionData.{InstructionData}
use Rattle.clif_instructions.proofs.Lists.{at_past, below_or_not}
use Rattle.clif_nodes.specs.declared.nodes.InstNode.{InstNode}
use Rattle.clif_nodes.specs.Nodes.{BlockNode, empty_block, no_inst}
use Rattle.clif_ir.specs.Body.{Body, block_at, inst_at, resolved, value_at}
use Rattle.clif_ir.specs.Consistent.{EdgeExists, PassedExists, ValueExists}
use Rattle.clif_meaning.specs.Event.{CallShape}
use Rattle.clif_meaning.specs.FunctionView.{Placed}
use Rattle.clif_meaning.specs.Instruction.{Edge}
use Rattle.clif_meaning.specs.Path.{Place}
use Rattle.clif_meaning.specs.Typing.{call_shape}
use Rattle.clif_meaning.specs.View.{controlling_of, edge_of, edges_of, items_of, operation_of, placed_of, view_of}
use Rattle.clif_meaning.specs.WellPlaced.{placed_at, placed_gives, placed_targets}
use Rattle.clif_safepoints.specs.Analysis.{place_of_inst}
use Rattle.clif_safepoints.specs.Liveness.{IsPassed}
use Rattle.clif_safepoints.proofs.Paths.{stands_from}
use Rattle.clif_spilling_laws.specs.Live.{IsLiveAfter, counted, place_at}
use Rattle.clif_spilling_laws.specs.Rewriting.{AreRewritten as WrittenAs, HasMap, IsKept, IsLandingBlock, IsLedOn, IsRead, IsRewrittenItem, LeadsStraight}
use Rattle.clif_spilling_laws.specs.Spilling.{AreStores, Reload, SlotAccess, Spilling, reload_items}
use Rattle.clif_stack_slots.specs.Slots.{SlotMap, assigned_in}
use Rattle.clif_stack_slots.specs.declared.slots.StackSlots.{StackSlots}
use Rattle.clif_typed_runs.specs.ValuesFit.{AliasesTyped}
use Rattle.clif_spiller.specs.Acting.{ActsAtCall, ActsAtInst, ActsAtSafepoint, types_in}
use Rattle.clif_spiller.specs.Allocating.{IsAllocated, IsSlotState, Needs, SlotState, after_acts, every}
use Rattle.clif_spiller.specs.Inserting.{inst_beside}
use Rattle.clif_spiller.specs.Keeping.{Keeps}
use Rattle.clif_spiller.specs.Plans.{insts_inside}
use Rattle.clif_spiller.specs.Progress.{IsApart, IsEnd, IsHandledInst, IsInDone, IsPlannedFor, IsRewrittenTo, IsWrittenFrom, LeadsTo, slots_before}
use Rattle.clif_spiller.specs.Spills.{beside}
use Rattle.clif_spiller.specs.Text.{Access, AreAccesses, HaveSlots, IsAlike, IsArgumentBy, IsCut, IsEdgeBy, IsLedBy, IsNamedBy, IsReadBy, IsReadWhere, KeepsSlots, LandsBy, Reloaded, Stored, Stores, insts_of, is_assigned, own_arg}
use Rattle.clif_spiller.specs.declared.accesses.Spot.{Spot}
use Rattle.clif_spiller.specs.declared.accesses.Spot.TheVariants as spot
use Rattle.clif_spiller.specs.declared.plan.Plan.{Plan}
use Rattle.clif_spiller.proofs.Advancing.{names_stay}
use Rattle.clif_spiller.proofs.Allocating.Covering.{covers_out}
use Rattle.clif_spiller.proofs.Edges.{alike_there, edge_there}
use Rattle.clif_spiller.proofs.Inside.{block_inside}
use Rattle.clif_spiller.proofs.Keeping.{keeps_fewer, keeps_trans, more_values}
use Rattle.clif_spiller.proofs.Needing.{take_one_more}
use Rattle.clif_spiller.proofs.Progressing.Changes.{LeavesOthers, after_given, after_safepoint, at_inst}
use Rattle.clif_spiller.proofs.Progressing.Homes.{not_yet, now_handled, one_place, placed_there, still_handled}
use Rattle.clif_spiller.proofs.Progressing.Leading.{LeavesSettled, leads_back, new_stay, slots_by_states}
use Rattle.clif_spiller.proofs.Progressing.Members.{drop_one_less, into_map}
use Rattle.clif_spiller.proofs.Progressing.Steps.{acts_at, exists, fresh, given_state, home, is_given, list, outs_are, outs_state, placed, reachable, same, same_ahead, same_given, uses, walk, way, items_inside}
use Rattle.clif_spiller.proofs.Shapes.{get_or_inside}
use Rattle.clif_spiller.proofs.Text.Adding.{are_lower, are_stay, are_upper}
use Rattle.clif_spiller.proofs.Text.Alike.{alike_by, alike_then, operation_stays}
use Rattle.clif_spiller.proofs.Text.Closing.{access_of, good_reloads, good_stores, named_so, reload_of, reloads_are, stores_are, type_kept}
use Rattle.clif_spiller.proofs.Text.Cutting.{cut_stays}
use Rattle.clif_spiller.proofs.Text.Kept.{controlling_so, lands_so, leads_straight, led_so, operands_read}
use Rattle.clif_spiller.proofs.Text.Landing.{lands_from, lands_stay}
use Rattle.clif_spiller.proofs.Text.Lists.{place_new, within_taken, zip_at, zip_by_place, zip_each, zip_made, zip_turned}
use Rattle.clif_spiller.proofs.Text.Rereading.{IsNamedAlike, read_turned, read_without}
use Rattle.clif_spiller.proofs.Text.Calls.{is_a_call, no_call}

-- LISTS -----------------------------------------------------------------------------------------------------------------

-- the instructions of a block of the layout
pub listed : (f : Body) (block : ℕ) → Stands block f.layout → insts_inside f block ≡ (block_at f block).insts
listed f block stands =
    ap (λ (c : Bool). if c then (block_at f block).insts else [])
    (stands_from block f.layout (stands.0, stands.1, get_or_inside f.layout stands.0 block 0 stands.1 ∙ stands.2))

entry_in : {X : Type 0} (xs : List X) (k : ℕ) (d : X) → k < length xs → Contains xs (get_or xs k d)
entry_in [] k d inside = absurd (omega (arith, inside))
entry_in (x ∷ xs) zero d inside = (0, omega arith, refl)
entry_in (x ∷ xs) (suc k) d inside = let more = entry_in xs k d (omega (arith, inside)) in (suc more.0, (let low = more.1 in omega (arith, low)), more.2)

zip_long : {A B : Type 0} (R : A → B → Type 0) (xs : List A) (ys : List B) → AllZip R xs ys → length ys ≡ length xs
zip_long R [] [] zip = refl
zip_long R [] (y ∷ ys) zip = absurd zip
zip_long R (x ∷ xs) [] zip = absurd zip
zip_long R (x ∷ xs) (y ∷ ys) zip = ap suc (zip_long R xs ys zip.1)

-- a block without instructions has no items
pub no_items_beyond : (f : Body) (c : ℕ) → (block_at f c).insts ≡ [] → items_of f c ≡ []
no_items_beyond f c none = by (stands_in c f.layout) (ap (each (placed_of f)) none)
  where
    by : (test : Bool) → each (placed_of f) (block_at f c).insts ≡ [] → (if test then each (placed_of f) (block_at f c).insts else []) ≡ []
    by true nothing = nothing
    by false nothing = refl

pub some_or_none : (found : Option ℕ) → is_some found ≡ true → (x : ℕ) × (found ≡ Some x)
some_or_none None is = cc
some_or_none (Some x) is = (x, refl)

-- EDGES -----------------------------------------------------------------------------------------------------------------

-- where an argument is read without reloads, it is read so whatever there are
argument_plain : (plan : Plan) (f : Body) (xs : List Access) (old new : BlockArg) → IsArgumentBy plan f [] old old → IsArgumentBy plan f xs old new → IsArgumentBy plan f [] old new
argument_plain plan f xs (arg.Value old) (arg.Value new) plain is =
    read_without plan f xs [] old new (not_spilled_by (has plan.spilled (resolved f old)) refl plain) is
  where
    not_spilled_by : (c : Bool) → has plan.spilled (resolved f old) ≡ c → IsReadBy plan f [] old old → has plan.spilled (resolved f old) ≡ false
    not_spilled_by true spilled read =
        let copied = subst (λ (b : Bool). IsReadWhere b f [] old old) spilled read in
        absurd (let there = copied.1.1 in omega (arith, there))
    not_spilled_by false spilled read = spilled
argument_plain plan f xs (arg.Value old) (arg.TryCallRet index) plain is = absurd is
argument_plain plan f xs (arg.Value old) (arg.TryCallExn part) plain is = absurd is
argument_plain plan f xs (arg.TryCallRet index) (arg.TryCallRet other) plain is = is
argument_plain plan f xs (arg.TryCallRet index) (arg.Value new) plain is = absurd is
argument_plain plan f xs (arg.TryCallRet index) (arg.TryCallExn part) plain is = absurd is
argument_plain plan f xs (arg.TryCallExn part) (arg.TryCallExn other) plain is = is
argument_plain plan f xs (arg.TryCallExn part) (arg.Value new) plain is = absurd is
argument_plain plan f xs (arg.TryCallExn part) (arg.TryCallRet index) plain is = absurd is

arguments_plain : (plan : Plan) (f : Body) (xs : List Access) (olds news : List BlockArg) → AllZip (IsArgumentBy plan f []) olds olds → AllZip (IsArgumentBy plan f xs) olds news
    → AllZip (IsArgumentBy plan f []) olds news
arguments_plain plan f xs [] [] plain zip = tt
arguments_plain plan f xs [] (y ∷ news) plain zip = absurd zip
arguments_plain plan f xs (x ∷ olds) [] plain zip = absurd zip
arguments_plain plan f xs (x ∷ olds) (y ∷ news) plain zip = (argument_plain plan f xs x y plain.0 zip.0, arguments_plain plan f xs olds news plain.1 zip.1)

edge_plain : (plan : Plan) (f : Body) (xs : List Access) (old new : BlockCall) → IsEdgeBy plan f [] old old → IsEdgeBy plan f xs old new → IsEdgeBy plan f [] old new
edge_plain plan f xs old new plain is = record { block = is.block; args = arguments_plain plan f xs old.args new.args plain.args is.args }

-- what a call gives itself is read as it is
own_read : (plan : Plan) (f : Body) (xs : List Access) (args news : List BlockArg) → AllZip (IsArgumentBy plan f xs) (flat_map own_arg args) news → news ≡ flat_map own_arg args
own_read plan f xs [] [] zip = refl
own_read plan f xs [] (y ∷ news) zip = absurd zip
own_read plan f xs (arg.Value v ∷ args) news zip = own_read plan f xs args news zip
own_read plan f xs (arg.TryCallRet index ∷ args) [] zip = absurd zip
own_read plan f xs (arg.TryCallRet index ∷ args) (arg.TryCallRet other ∷ news) zip =
    ap₂ (λ (k : ℕ) (ys : List BlockArg). arg.TryCallRet k ∷ ys) (sym zip.0) (own_read plan f xs args news zip.1)
own_read plan f xs (arg.TryCallRet index ∷ args) (arg.Value v ∷ news) zip = absurd zip.0
own_read plan f xs (arg.TryCallRet index ∷ args) (arg.TryCallExn part ∷ news) zip = absurd zip.0
own_read plan f xs (arg.TryCallExn part ∷ args) [] zip = absurd zip
own_read plan f xs (arg.TryCallExn part ∷ args) (arg.TryCallExn other ∷ news) zip =
    ap₂ (λ (k : ℕ) (ys : List BlockArg). arg.TryCallExn k ∷ ys) (sym zip.0) (own_read plan f xs args news zip.1)
own_read plan f xs (arg.TryCallExn part ∷ args) (arg.Value v ∷ news) zip = absurd zip.0
own_read plan f xs (arg.TryCallExn part ∷ args) (arg.TryCallRet index ∷ news) zip = absurd zip.0

edge_same : (plan : Plan) (f : Body) (xs : List Access) (args : List BlockArg) (middle new : BlockCall) → middle.args ≡ flat_map own_arg args → IsEdgeBy plan f xs middle new → new ≡ middle
edge_same plan f xs args middle new own is =
    let same : new.args ≡ middle.args = own_read plan f xs args new.args (subst (λ (olds : List BlockArg). AllZip (IsArgumentBy plan f xs) olds new.args) own is.args) ∙ sym own in
    λ j. record { block = is.block j; args = same j }

-- AT A CALL -------------------------------------------------------------------------------------------------------------

-- where a collector may run, places stay, and the instruction does the same with the same operands and contexts
record IsCalled (inst : ℕ) (f g : Body) : Type 0 where
  cut : (block : ℕ) (at : Spot) (front back : List ℕ) → IsCut f block at front back → IsCut g block at front back
  alike : IsAlike (inst_at f inst).shape (inst_at g inst).shape
  named : contexts (inst_at g inst).shape ≡ contexts (inst_at f inst).shape
  used : operands (inst_at g inst).shape ≡ operands (inst_at f inst).shape

cut_by_tables : (f g : Body) → g.insts ≡ f.insts → g.blocks ≡ f.blocks → (block : ℕ) (at : Spot) (front back : List ℕ) → IsCut f block at front back → IsCut g block at front back
cut_by_tables f g insts blocks block at front back cut =
    cut_stays f g block at front back (let same = ap (λ (xs : List InstNode). length xs) insts in omega (arith, same)) (let same = ap (λ (xs : List BlockNode). length xs) blocks in omega (arith, same))
    (ap (λ (xs : List BlockNode). (slice_index_or xs block empty_block).insts) blocks) (ap (λ (xs : List InstNode). (slice_index_or xs (inst_beside at) no_inst).block) insts) cut

is_called : (test : Bool) (plan : Plan) (inst : ℕ) (f : Body) (a : StackSlots) (g : Body) (b : StackSlots) → ActsAtSafepoint test plan inst f a g b → IsCalled inst f g
is_called true plan inst f a g b at =
    let same : inst_at at.mapped inst ≡ inst_at f inst = ap (λ (xs : List InstNode). slice_index_or xs inst no_inst) at.maps.insts in
    record {
      cut = λ block spot_at front back cut. at.leads.so.cut block spot_at front back (cut_by_tables f at.mapped at.maps.insts at.maps.blocks block spot_at front back cut);
      alike = subst (λ (m : InstNode). IsAlike m.shape (inst_at g inst).shape) same at.leads.so.alike;
      named = at.leads.so.named ∙ ap (λ (m : InstNode). contexts m.shape) same;
      used = at.lands.operands ∙ ap (λ (m : InstNode). operands m.shape) same;
    }
is_called false plan inst f a g b at = subst (λ (x : Body). IsCalled inst f x) (sym at.0) (record {
  cut = λ block spot_at front back cut. cut;
  alike = alike_by (inst_at f inst).shape (inst_at f inst).shape refl;
  named = refl;
  used = refl;
})

-- AN INSTRUCTION MORE ---------------------------------------------------------------------------------------------------

module _ (first : Body) (recorded : List ℕ) (plan : Plan) (planned : IsPlannedFor first recorded plan) (done : List ℕ) (block : ℕ) (rest : List ℕ)
    (split : plan.liveness.now.order ≡ done ++ block ∷ rest) (k inst : ℕ) (inside : k < length (insts_inside first block)) (is : get_or (insts_inside first block) k inst ≡ inst)
    (f : Body) (a : StackSlots) (st : SlotState) (so_far : IsRewrittenTo first plan (IsHandledInst first done block (suc k)) (IsApart done block) f a st)
    (g : Body) (b : StackSlots) (act : ActsAtInst plan inst f a g b) (written : IsWrittenFrom first recorded plan done block (suc k) f a)
    (allocated : IsAllocated (view_of first) (has plan.spilled) plan.liveness.now.order (slots_before first) done block (suc k) st) where
  abbrev olds : List ℕ
  olds = insts_inside first block

  abbrev Before : ℕ → Type 0
  Before = IsHandledInst first done block (suc k)

  abbrev Now : ℕ → Type 0
  Now = IsHandledInst first done block k

  abbrev next : Spot
  next = act.stored.0

  stores : Stores plan act.ahead act.ahead_slots (spot.After inst) act.given act.given_slots act.stored.0 (inst_at act.ahead inst).results
  stores = act.stored.1

  abbrev puts : List Access
  puts = stores.accesses

  abbrev reads : List Access
  reads = act.read.accesses

  new : Contains done block → ⊥
  new = fresh first recorded plan planned done block rest split

  there : inst < length first.insts
  there = exists first recorded plan planned done block rest split k inst inside is f a st so_far g b act

  in_block : (inst_at first inst).block ≡ block
  in_block = home first recorded plan planned done block rest split k inst inside is f a st so_far g b act

  same_f : inst_at f inst ≡ inst_at first inst
  same_f = same first recorded plan planned done block rest split k inst inside is f a st so_far g b act

  same_g : inst_at act.given inst ≡ inst_at first inst
  same_g = same_given first recorded plan planned done block rest split k inst inside is f a st so_far g b act

  in_f : inst < length f.insts
  in_f = (let more = so_far.keeps.insts in omega (arith, there, more))

  in_given : inst < length act.given.insts
  in_given = (let more = act.goes_ahead.keeps.insts in let most = act.goes_given.keeps.insts in omega (arith, in_f, more, most))

  block_there : block < length first.blocks
  block_there = subst (λ (d : ℕ). d < length first.blocks) in_block (planned.known.insts_stand inst there).0

  stands : Stands block first.layout
  stands = block_inside first block k inside

  stands_f : Stands block f.layout
  stands_f = so_far.keeps.layout block stands

  all : LeavesOthers inst f g
  all = at_inst plan inst f a g b in_f act

  late : LeavesOthers inst act.given g
  late = after_given plan inst f a g b act in_given

  last_part : LeavesOthers inst act.called g
  last_part = after_safepoint plan inst f a g b act

  -- PLACES --------------------------------------------------------------------------------------------------------------

  whole : (block_at f block).insts ≡ take k olds ++ inst ∷ written.code
  whole =
      sym (listed f block stands_f) ∙ written.list
      ∙ ap (λ xs. xs ++ written.code)
      ((let more : suc k ≡ k + 1 = omega arith in ap (λ (n : ℕ). take n olds) more) ∙ take_one_more olds k inst inside ∙ ap (λ (i : ℕ). take k olds ++ i ∷ []) is)
      ∙ append_assoc (take k olds) (inst ∷ []) written.code

  apart : (i : ℕ) → Contains (take k olds) i → i ≡ inst → ⊥
  apart i here same_inst =
      let found = within_taken olds k i here in
      let at_found : get_or olds found.0 inst ≡ inst = subst (λ (x : ℕ). get_or olds found.0 x ≡ x) same_inst found.3 in
      let equal = one_place first planned.known block found.0 k inst found.2 inside at_found is in
      let low = found.1 in omega (arith, low, equal)

  cut_f : IsCut f block (spot.After inst) (take k olds ++ inst ∷ []) written.code
  cut_f =
      let home_f : (inst_at f inst).block ≡ block = ap (λ (m : InstNode). m.block) same_f ∙ in_block in
      record {
        list = whole ∙ sym (append_assoc (take k olds) (inst ∷ []) written.code);
        home = home_f;
        place = ap (λ (n : ℕ). n + 1)
            (ap (λ (c : ℕ). place_of inst (block_at f c).insts) home_f ∙ ap (place_of inst) whole ∙ place_new inst (take k olds) written.code apart)
            ∙ sym (length-append (take k olds) (inst ∷ []));
        exists = in_f;
        block_exists = (let more = so_far.keeps.blocks in omega (arith, block_there, more));
        below = λ i here.
            written.below i (subst (λ (xs : List ℕ). Contains xs i)
            (append_assoc (take k olds) (inst ∷ []) written.code ∙ sym whole ∙ sym (listed f block stands_f)) here);
      }

  cut_given : IsCut act.given block next ((take k olds ++ inst ∷ []) ++ insts_of puts) written.code
  cut_given =
      stores.adds.cut block (take k olds ++ inst ∷ []) written.code
      (cut_by_tables f act.ahead act.acts_ahead.insts act.acts_ahead.blocks block (spot.After inst) (take k olds ++ inst ∷ []) written.code cut_f)

  arranged : ((take k olds ++ inst ∷ []) ++ insts_of puts) ++ written.code ≡ take k olds ++ inst ∷ (insts_of puts ++ written.code)
  arranged = append_assoc (take k olds ++ inst ∷ []) (insts_of puts) written.code ∙ append_assoc (take k olds) (inst ∷ []) (insts_of puts ++ written.code)

  cut_before : IsCut act.given block (spot.Before inst) (take k olds) (inst ∷ (insts_of puts ++ written.code))
  cut_before =
      let home_given : (inst_at act.given inst).block ≡ block = ap (λ (m : InstNode). m.block) same_g ∙ in_block in
      let list_given = cut_given.list ∙ arranged in
      record {
        list = list_given;
        home = home_given;
        place = ap (λ (c : ℕ). place_of inst (block_at act.given c).insts) home_given ∙ ap (place_of inst) list_given ∙ place_new inst (take k olds) (insts_of puts ++ written.code) apart;
        exists = in_given;
        block_exists = cut_given.block_exists;
        below = λ i here. cut_given.below i (subst (λ (xs : List ℕ). Contains xs i) (sym arranged) here);
      }

  called : IsCalled inst act.given act.called
  called = is_called (is_call (inst_at act.given inst).shape) plan inst act.given act.given_slots act.called act.called_slots act.acts_called

  cut_g : IsCut g block (spot.Before inst) (take k olds ++ insts_of reads) (inst ∷ (insts_of puts ++ written.code))
  cut_g =
      act.read.adds.cut block (take k olds) (inst ∷ (insts_of puts ++ written.code))
      (called.cut block (spot.Before inst) (take k olds) (inst ∷ (insts_of puts ++ written.code)) cut_before)

  stands_g : Stands block g.layout
  stands_g = all.keeps.layout block stands_f

  abbrev code_now : List ℕ
  code_now = insts_of reads ++ inst ∷ (insts_of puts ++ written.code)

  list_now : insts_inside g block ≡ take k olds ++ (insts_of reads ++ inst ∷ (insts_of puts ++ written.code))
  list_now = listed g block stands_g ∙ cut_g.list ∙ append_assoc (take k olds) (insts_of reads) (inst ∷ (insts_of puts ++ written.code))

  below_now : (i : ℕ) → Contains (insts_inside g block) i → i < length g.insts
  below_now i here = cut_g.below i (subst (λ (xs : List ℕ). Contains xs i) (listed g block stands_g ∙ cut_g.list) here)

  -- WHAT IS SETTLED -----------------------------------------------------------------------------------------------------

  abbrev needed : List ℕ
  needed = (uses first recorded plan planned done block rest split k inst inside is f a st so_far g b act).uses

  state_given : IsSlotState act.given act.given_slots (given_state first recorded plan planned done block rest split k inst inside is f a st so_far g b act)
  state_given = is_given first recorded plan planned done block rest split k inst inside is f a st so_far g b act

  given_still : KeepsSlots act.given_slots b
  given_still =
      slots_by_states (types_in first) (each Needs needed) act.given act.given_slots (given_state first recorded plan planned done block rest split k inst inside is f a st so_far g b act) g b
      state_given (uses first recorded plan planned done block rest split k inst inside is f a st so_far g b act).state

  state_ahead : IsSlotState act.ahead act.ahead_slots (outs_state first recorded plan planned done block rest split k inst inside is f a st so_far g b act)
  state_ahead =
      act.acts_ahead.goes_by first (way first recorded plan planned done block rest split k inst inside is f a st so_far g b act) st so_far.state

  ahead_still : KeepsSlots a act.ahead_slots
  ahead_still = slots_by_states (types_in first) (each Needs act.acts_ahead.outs) f a st act.ahead act.ahead_slots so_far.state state_ahead

  apart_from : (i : ℕ) → (length first.insts ≤ i) ⊎ Before i → i ≢ inst
  apart_from i (inl beyond) same_inst = omega (arith, beyond, same_inst, there)
  apart_from i (inr handled) same_inst = not_yet first planned.known done block new k inst inside is (subst Before same_inst handled)

  home_apart : (c : ℕ) → (length first.blocks ≤ c) ⊎ Contains done c → c ≢ (inst_at f inst).block
  home_apart c how same_block =
      let at_block : c ≡ block = same_block ∙ ap (λ (m : InstNode). m.block) same_f ∙ in_block in
      elim how [ inl beyond ↦ omega (arith, beyond, at_block, block_there) | inr member ↦ new (subst (Contains done) at_block member) ]

  settled : LeavesSettled first Before (Contains done) f a g b
  settled = record {
    keeps = all.keeps;
    nodes = λ i low how. all.nodes i low (apart_from i how);
    maps = λ i low how. all.maps i (apart_from i how);
    lists = λ c low how. all.lists c low (home_apart c how);
    layout = all.layout;
    still = λ v slot has_slot. given_still v slot (stores.adds.still v slot (ahead_still v slot has_slot));
  }

  back : (last : Body) (final : StackSlots) → LeadsTo first Now (Contains done) g b last final → LeadsTo first Before (Contains done) f a last final
  back last final leads =
      leads_back first Before (Contains done) Now (Contains done) f a g b last final (still_handled first planned.known done block new k inst inside is) (λ c member. member) settled leads

  -- AT THE END ----------------------------------------------------------------------------------------------------------

  module _ (last : Body) (final : StackSlots) (slot_of : ℕ → ℕ) (leads : LeadsTo first Now (Contains done) g b last final) (end : IsEnd first recorded plan last final slot_of) where
    abbrev s : Spilling
    s = beside first plan.pointer last (has plan.spilled) slot_of

    keeps_g : Keeps 0 first g
    keeps_g = keeps_fewer 0 (length first.blocks) first g (omega arith)
        (keeps_trans (length first.blocks) first f g so_far.keeps (keeps_fewer (length first.blocks) (length f.blocks) f g so_far.keeps.blocks all.keeps))

    keeps_last : Keeps 0 first last
    keeps_last = keeps_trans 0 first g last keeps_g (keeps_fewer 0 (length g.blocks) g last (omega arith) leads.keeps)

    keeps_given : Keeps 0 first act.given
    keeps_given =
        keeps_trans 0 first act.ahead act.given
        (keeps_trans 0 first f act.ahead (keeps_fewer 0 (length first.blocks) first f (omega arith) so_far.keeps) (keeps_fewer 0 (length f.blocks) f act.ahead (omega arith) act.goes_ahead.keeps))
        (keeps_fewer 0 (length act.ahead.blocks) act.ahead act.given (omega arith) act.goes_given.keeps)

    keeps_called : Keeps 0 first act.called
    keeps_called = keeps_trans 0 first act.given act.called keeps_given (keeps_fewer 0 (length act.given.blocks) act.given act.called (omega arith) act.goes_called.keeps)

    -- the accesses
    reads_last : AreAccesses Reloaded plan.pointer last (length first.insts) (length first.values) reads (length last.insts) (length last.values)
    reads_last =
        are_lower Reloaded plan.pointer last (length first.insts) (length first.values) (length act.called.insts) (length act.called.values) reads (length last.insts) (length last.values)
        keeps_called.insts (more_values 0 first act.called keeps_called)
        (are_upper Reloaded plan.pointer last (length act.called.insts) (length act.called.values) reads (length g.insts) (length g.values) (length last.insts) (length last.values)
        leads.keeps.insts (more_values (length g.blocks) g last leads.keeps)
        (are_stay Reloaded plan.pointer (length g.blocks) g last leads.keeps (length first.insts) (length g.insts) (new_stay first Now (Contains done) g b last final leads)
        (length act.called.insts) (length act.called.values) reads (length g.insts) (length g.values) keeps_called.insts (omega arith) (omega arith) act.read.adds.are))

    reads_slots : HaveSlots final reads
    reads_slots x here = leads.still x.value x.slot (act.read.adds.slots x here)

    given_last : Keeps 0 act.given last
    given_last = keeps_trans 0 act.given g last (keeps_fewer 0 (length act.given.blocks) act.given g (omega arith) late.keeps) (keeps_fewer 0 (length g.blocks) g last (omega arith) leads.keeps)

    puts_last : AreAccesses Stored plan.pointer last (length first.insts) (length first.values) puts (length last.insts) (length last.values)
    puts_last =
        let ahead_keeps = keeps_trans 0 first f act.ahead (keeps_fewer 0 (length first.blocks) first f (omega arith) so_far.keeps) (keeps_fewer 0 (length f.blocks) f act.ahead (omega arith) act.goes_ahead.keeps) in
        are_lower Stored plan.pointer last (length first.insts) (length first.values) (length act.ahead.insts) (length act.ahead.values) puts (length last.insts) (length last.values)
        ahead_keeps.insts (more_values 0 first act.ahead ahead_keeps)
        (are_upper Stored plan.pointer last (length act.ahead.insts) (length act.ahead.values) puts (length act.given.insts) (length act.given.values) (length last.insts) (length last.values)
        given_last.insts (more_values 0 act.given last given_last)
        (are_stay Stored plan.pointer 0 act.given last given_last (length first.insts) (length act.given.insts)
        (λ i from to.
        let far = late.keeps.insts in let other : i ≢ inst = apart_from i (inl from) in (
          leads.nodes i (omega (arith, to, far)) (inl from) ∙ late.nodes i to other,
          leads.maps i (omega (arith, to, far)) (inl from) ∙ late.maps i other,
        ))
        (length act.ahead.insts) (length act.ahead.values) puts (length act.given.insts) (length act.given.values) ahead_keeps.insts (omega arith) (omega arith) stores.adds.are))

    puts_slots : HaveSlots final puts
    puts_slots x here = leads.still x.value x.slot (given_still x.value x.slot (stores.adds.slots x here))

    -- the instruction
    abbrev old_shape : InstructionData
    old_shape = (inst_at first inst).shape

    abbrev new_shape : InstructionData
    new_shape = (inst_at last inst).shape

    in_g : inst < length g.insts
    in_g = (let more = all.keeps.insts in omega (arith, in_f, more))

    node : inst_at last inst ≡ inst_at g inst
    node = leads.nodes inst in_g (inr (now_handled first planned.known done block new k inst inside is))

    names_called : (v : ℕ) → v < length first.values → resolved first v ≡ resolved act.called v
    names_called v low = sym (names_stay 0 first act.called keeps_called planned.known v low)

    alike : IsAlike old_shape new_shape
    alike =
        subst (λ (m : InstNode). IsAlike (inst_at first inst).shape m.shape) (sym node)
        (alike_then (inst_at first inst).shape (inst_at act.called inst).shape (inst_at g inst).shape
        (subst (λ (m : InstNode). IsAlike m.shape (inst_at act.called inst).shape) same_g called.alike) act.read.alike)

    operand_there : (v : ℕ) → Contains (operands (inst_at first inst).shape) v → v < length first.values
    operand_there v here =
        subst (λ w. w < length first.values) (get_or_inside (operands (inst_at first inst).shape) here.0 0 v here.1 ∙ here.2) (planned.known.operands_exist inst here.0 here.1)

    operands_last : AllZip (IsReadBy plan first reads) (operands (inst_at first inst).shape) (operands (inst_at last inst).shape)
    operands_last =
        zip_turned (IsReadBy plan act.called reads) (IsReadBy plan first reads) (operands (inst_at first inst).shape) (operands (inst_at last inst).shape)
        (λ old now here. read_turned plan act.called first reads reads old now (names_called old (operand_there old here)) (λ x at. at))
        (subst (λ (olds_are : List ℕ). AllZip (IsReadBy plan act.called reads) olds_are (operands (inst_at last inst).shape)) (called.used ∙ ap (λ (m : InstNode). operands m.shape) same_g)
        (subst (λ (m : InstNode). AllZip (IsReadBy plan act.called reads) (operands (inst_at act.called inst).shape) (operands m.shape)) (sym node) act.read.reads))

    contexts_last : AllZip (IsNamedBy act.called) (contexts (inst_at first inst).shape) (contexts (inst_at last inst).shape)
    contexts_last =
        subst (λ (olds_are : List ℕ). AllZip (IsNamedBy act.called) olds_are (contexts (inst_at last inst).shape)) (called.named ∙ ap (λ (m : InstNode). contexts m.shape) same_g)
        (subst (λ (m : InstNode). AllZip (IsNamedBy act.called) (contexts (inst_at act.called inst).shape) (contexts m.shape)) (sym node) act.read.named)

    context_so : (old now : ℕ) → Contains (contexts (inst_at first inst).shape) old → IsNamedBy act.called old now → resolved last now ≡ resolved first old
    context_so old now here how =
        named_so first plan last final slot_of planned.known 0 keeps_last end.slots end.spilled planned.planned old now low
        (elim how [ inl itself ↦ inl itself | inr name ↦ inr (name ∙ sym (names_called old low)) ])
      where
        low : old < length first.values
        low = All-contains (ValueExists first) (contexts (inst_at first inst).shape) old (planned.known.contexts_exist inst) here

    results_last : (inst_at last inst).results ≡ (inst_at first inst).results
    results_last = keeps_last.results inst there

    result_there : (v : ℕ) → Contains (inst_at first inst).results v → v < length first.values
    result_there v here =
        subst (λ w. w < length first.values) (get_or_inside (inst_at first inst).results here.0 0 v here.1 ∙ here.2) (planned.known.results_known inst here.0 here.1).0

    abbrev reloads : List Reload
    reloads = each (reload_of first plan last final slot_of planned.known 0 keeps_last end.slots end.spilled planned.planned) reads

    read_so : AllZip (IsRead s reloads) (operands (inst_at first inst).shape) (operands (inst_at last inst).shape)
    read_so =
        operands_read first plan last final slot_of planned.known 0 keeps_last end.slots end.spilled planned.planned (length first.insts) (length first.values) reads (length last.insts)
        (length last.values) reads_last (operands (inst_at first inst).shape) (operands (inst_at last inst).shape) operand_there operands_last

    controlling : AliasesTyped (view_of first) → (placed_of last inst).instruction.controlling ≡ (placed_of first inst).instruction.controlling
    controlling typed =
        controlling_so first last (inst_at first inst).shape (inst_at last inst).shape (inst_at last inst).results alike.opcode
        (λ v here. type_kept first plan last final slot_of planned.known 0 keeps_last end.slots end.spilled planned.planned v
        (result_there v (subst (λ (xs : List ℕ). Contains xs v) results_last here)))
        (zip_turned (IsRead s reloads) (λ (u w : ℕ). (value_at last w).ty ≡ (value_at first u).ty) (operands (inst_at first inst).shape) (operands (inst_at last inst).shape)
        (λ u w here read. read.typed typed) read_so)
        ∙ ap (controlling_of first (inst_at first inst).shape) results_last

    operation_so : operation_of last.tables (inst_at last inst).shape ≡ operation_of first.tables (inst_at first inst).shape
    operation_so =
        alike.operation last.tables ∙ ap (λ (t : TableLists). operation_of t (inst_at first inst).shape) keeps_last.tables
        ∙ operation_stays first.tables last.tables (inst_at first inst).shape

    -- its edges
    edge_exists : (call : BlockCall) → Contains (destinations (inst_at first inst).shape) call → EdgeExists first call
    edge_exists call here = All-contains (EdgeExists first) (destinations (inst_at first inst).shape) call (planned.known.edges_exist inst) here

    edges_read : AllZip (IsEdgeBy plan act.called reads) (destinations (inst_at act.called inst).shape) (destinations (inst_at last inst).shape)
    edges_read = subst (λ (m : InstNode). AllZip (IsEdgeBy plan act.called reads) (destinations (inst_at act.called inst).shape) (destinations m.shape)) (sym node) act.read.edges

    -- of a call
    module _ (at : ActsAtCall plan inst act.given act.given_slots act.called act.called_slots) where
      same_mapped : inst_at at.mapped inst ≡ inst_at first inst
      same_mapped = ap (λ (xs : List InstNode). slice_index_or xs inst no_inst) at.maps.insts ∙ same_g

      keeps_mapped : Keeps 0 first at.mapped
      keeps_mapped = keeps_trans 0 first act.given at.mapped keeps_given (keeps_fewer 0 (length act.given.blocks) act.given at.mapped (omega arith) at.goes.keeps)

      called_last : Keeps (length act.called.blocks) act.called last
      called_last = keeps_trans (length act.called.blocks) act.called g last last_part.keeps (keeps_fewer (length act.called.blocks) (length g.blocks) g last last_part.keeps.blocks leads.keeps)

      home_called : (inst_at act.called inst).block ≡ block
      home_called = act.goes_called.keeps.homes inst in_given ∙ ap (λ (m : InstNode). m.block) same_g ∙ in_block

      lands_last : (old middle : BlockCall) → EdgeExists first old → LandsBy plan (inst_at at.mapped inst).shape at.mapped act.called act.called_slots old middle
          → LandsBy plan (inst_at first inst).shape first last final old middle
      lands_last old middle there_edge lands =
          lands_from plan (inst_at first inst).shape 0 first at.mapped last final old middle keeps_mapped
          (λ x here. turned x (alike_there 0 first at.mapped keeps_mapped planned.known x (All-contains (PassedExists first) old.args x there_edge.1 here)))
          (subst (λ (m : InstNode). LandsBy plan m.shape at.mapped last final old middle) same_mapped
          (lands_stay plan (inst_at at.mapped inst).shape (length act.called.blocks) at.mapped act.called act.called_slots last final old middle called_last
          (λ i from to.
          let far = last_part.keeps.insts in let early = keeps_mapped.insts in let other : i ≢ inst = apart_from i (inl (omega (arith, from, early))) in (
            leads.nodes i (omega (arith, to, far)) (inl (omega (arith, from, early))) ∙ last_part.nodes i to other,
            leads.maps i (omega (arith, to, far)) (inl (omega (arith, from, early))) ∙ last_part.maps i other,
          ))
          (λ d from to.
          let far = last_part.keeps.blocks in let early = keeps_mapped.blocks in (
            called_last.params d to,
            leads.lists d (omega (arith, to, far)) (inl (omega (arith, from, early))) ∙ last_part.lists d to (λ is_home. omega (arith, is_home ∙ home_called, from, early, block_there)),
            called_last.layout d,
          ))
          (λ v slot has_slot. leads.still v slot (act.read.adds.still v slot has_slot)) lands))
        where
          turned : (x : BlockArg) → IsNamedAlike first at.mapped x → IsNamedAlike at.mapped first x
          turned (arg.Value v) same_name = sym same_name
          turned (arg.TryCallRet index) same_name = tt
          turned (arg.TryCallExn part) same_name = tt

      edge_led : (old middle now : BlockCall) → EdgeExists first old → IsLedBy plan (inst_at at.mapped inst).shape at.mapped act.called act.called_slots old middle
          → IsEdgeBy plan act.called reads middle now → IsEdgeBy plan first [] old now ⊎ LandsBy plan (inst_at first inst).shape first last final old now
      edge_led old middle now there_edge (inl straight) read =
          inl (edge_plain plan first reads old now
          (edge_there plan 0 first at.mapped [] [] old old keeps_mapped planned.known there_edge (λ x here. here) straight.1)
          (edge_there plan 0 first act.called reads reads old now keeps_called planned.known there_edge (λ x here. here)
          (subst (λ (call : BlockCall). IsEdgeBy plan act.called reads call now) straight.0 read)))
      edge_led old middle now there_edge (inr lands) read =
          inr (subst (LandsBy plan (inst_at first inst).shape first last final old) (sym (edge_same plan act.called reads old.args middle now lands.own_are read)) (lands_last old middle there_edge lands))

      edges_led : (call : CallShape) → call_shape (operation_of first.tables (inst_at first inst).shape) ≡ Some call
          → AllZip (λ (old now : BlockCall). IsLedOn every s (Some call) reloads (edge_of old) (edge_of now)) (destinations (inst_at first inst).shape) (destinations (inst_at last inst).shape)
      edges_led call is_call_so =
          let count : length (destinations (inst_at act.called inst).shape) ≡ length (destinations (inst_at first inst).shape) =
          at.leads.count ∙ ap (λ (m : InstNode). length (destinations m.shape)) same_mapped in
          let long : length (destinations (inst_at last inst).shape) ≡ length (destinations (inst_at act.called inst).shape) =
          zip_long (IsEdgeBy plan act.called reads) (destinations (inst_at act.called inst).shape) (destinations (inst_at last inst).shape) edges_read in
          zip_by_place (λ (old now : BlockCall). IsLedOn every s (Some call) reloads (edge_of old) (edge_of now)) (destinations (inst_at first inst).shape) (destinations (inst_at last inst).shape)
          no_edge no_edge (long ∙ count)
          (λ j low.
          let old : BlockCall = edge_at (destinations (inst_at first inst).shape) j in
          led_so first plan last final slot_of planned.known 0 keeps_last end.slots end.spilled planned.planned (inst_at first inst).shape call reads old
          (edge_at (destinations (inst_at last inst).shape) j) is_call_so (edge_exists old (entry_in (destinations (inst_at first inst).shape) j no_edge low))
          (edge_led old (edge_at (destinations (inst_at act.called inst).shape) j) (edge_at (destinations (inst_at last inst).shape) j)
          (edge_exists old (entry_in (destinations (inst_at first inst).shape) j no_edge low))
          (subst (λ (m : InstNode). IsLedBy plan (inst_at at.mapped inst).shape at.mapped act.called act.called_slots (edge_at (destinations m.shape) j)
          (edge_at (destinations (inst_at act.called inst).shape) j)) same_mapped
          (at.leads.led j (omega (arith, low, ap (λ (m : InstNode). length (destinations m.shape)) same_mapped))))
          (zip_at (IsEdgeBy plan act.called reads) (destinations (inst_at act.called inst).shape) (destinations (inst_at last inst).shape) no_edge no_edge edges_read j
          (omega (arith, low, count)))))

    abbrev EdgesSo : Option CallShape → Type 0
    EdgesSo call = AllZip (IsLedOn every s call reloads) (edges_of (inst_at first inst).shape) (edges_of (inst_at last inst).shape)

    edges_so : (test : Bool) → is_call (inst_at first inst).shape ≡ test → ActsAtSafepoint test plan inst act.given act.given_slots act.called act.called_slots
        → EdgesSo (call_shape (operation_of first.tables (inst_at first inst).shape))
    edges_so true is_one at =
        let call = is_a_call first.tables (inst_at first inst).shape is_one in
        subst EdgesSo (sym call.1)
        (zip_each (IsLedOn every s (Some call.0) reloads) edge_of edge_of (destinations (inst_at first inst).shape) (destinations (inst_at last inst).shape) (edges_led at call.0 call.1))
    edges_so false is_none at =
        subst EdgesSo (sym (no_call first.tables (inst_at first inst).shape is_none))
        (zip_each (LeadsStraight every s reloads) edge_of edge_of (destinations (inst_at first inst).shape) (destinations (inst_at last inst).shape)
        (zip_turned (IsEdgeBy plan act.called reads) (λ (old now : BlockCall). LeadsStraight every s reloads (edge_of old) (edge_of now)) (destinations (inst_at first inst).shape)
        (destinations (inst_at last inst).shape)
        (λ old now here read.
        leads_straight first plan last final slot_of planned.known 0 keeps_last end.slots end.spilled planned.planned (length first.insts) (length first.values) reads (length last.insts)
        (length last.values) reads_last old now (edge_exists old here)
        (edge_there plan 0 first act.called reads reads old now keeps_called planned.known (edge_exists old here) (λ x at_x. at_x) read))
        (subst (λ (calls : List BlockCall). AllZip (IsEdgeBy plan act.called reads) calls (destinations (inst_at last inst).shape))
        (ap (λ (x : Body). destinations (inst_at x inst).shape) at.0 ∙ ap (λ (m : InstNode). destinations m.shape) same_g) edges_read)))

    place_is : place_of_inst first inst ≡ place_at block k
    place_is = placed_there first planned.known block k inst inside is

    in_order : IsInDone first plan.liveness.now.order inst
    in_order = (
      block,
      subst (λ (xs : List ℕ). Contains xs block) (sym split) (Contains-append_right done (block ∷ rest) block (0, omega arith, refl)),
      (k, inside, is),
    )

    kept : IsKept every s (has recorded) (place_at block k) reloads (placed_of first inst) (placed_of last inst)
    kept = record {
      operation = operation_so;
      controlling = controlling;
      operands = read_so;
      contexts = zip_made (IsNamedBy act.called) (resolved first) (resolved last) (contexts (inst_at first inst).shape) (contexts (inst_at last inst).shape) context_so contexts_last;
      edges = edges_so (is_call (inst_at first inst).shape) refl
          (subst (λ (m : InstNode). ActsAtSafepoint (is_call m.shape) plan inst act.given act.given_slots act.called act.called_slots) same_g act.acts_called);
      results = results_last;
      stack_map = subst (λ (p : Place ℕ). HasMap every s (has recorded) p (call_shape (operation_of first.tables (inst_at first inst).shape)) (stack_map_at first.tables inst)
          (stack_map_at last.tables inst)) place_is (end.mapped inst in_order);
    }

    -- its results
    picked_spilled : (v : ℕ) → is_assigned act.ahead_slots v ≡ true → has plan.spilled v ≡ true
    picked_spilled v picked =
        let found = some_or_none (fin.get (assigned_in act.ahead_slots) v) picked in
        end.spilled v found.0 (leads.still v found.0 (given_still v found.0 (stores.adds.still v found.0 found.1)))

    unneeded : (v : ℕ) → Contains (inst_at first inst).results v → has plan.spilled v ≡ true → is_assigned act.ahead_slots v ≡ false → IsLiveAfter every (view_of first) (place_at block k) v → ⊥
    unneeded v here is_spilled not_picked live =
        let walk_here = walk first recorded plan planned done block rest split in
        let at_place = placed first recorded plan planned done block rest split k inst inside is f a st so_far g b act in
        let gives : Contains (placed_gives (placed_at (view_of first) (place_at block k))) v = subst (λ (found : Option Placed). Contains (placed_gives found) v) (sym at_place) here in
        let none_passed : IsPassed (counted every) (resolved first) v (placed_at (view_of first) (place_at block k)) → ⊥ =
        λ passed.
        let now = subst (IsPassed (counted every) (resolved first) v) at_place passed in
        let target = into_map (λ (e : Edge ℕ ℕ). e.target) (edges_of (inst_at first inst).shape) now.0 now.3 in
        let targets : placed_targets (placed_at (view_of first) (place_at block k)) ≢ [] =
        λ none. let there_none = subst (λ (found : Option Placed). placed_targets found ≡ []) at_place none in
        (let gone = (subst (λ (xs : List ℕ). Contains xs now.0.target) there_none target).1 in omega (arith, gone)) in
        let nothing = walk_here.gives_once.edges_give_nothing (place_at block k) targets in
        (let gone = (subst (λ (xs : List ℕ). Contains xs v) nothing gives).1 in omega (arith, gone)) in
        let assigned =
        covers_out (view_of first) (length first.values) (has plan.spilled) plan.liveness.now.order walk_here done block k
        (items_inside first recorded plan planned done block rest split k inst inside is f a st so_far g b act) st allocated.covers
        (list first recorded plan planned done block rest split k inst inside is f a st so_far g b act)
        (acts_at first recorded plan planned done block rest split k inst inside is f a st so_far g b act) v is_spilled live none_passed in
        let found : fin.get (assigned_in act.ahead_slots) v ≡ Some assigned.0 = ap (λ (m : SlotMap). fin.get m v) state_ahead.assigned
        ∙ ap (λ (values : List ℕ). fin.get (after_acts (types_in first) (each Needs values) st).assigned v)
        (sym (outs_are first recorded plan planned done block rest split k inst inside is f a st so_far g b act)) ∙ assigned.1 in
        (let both = sym not_picked ∙ ap (λ (o : Option ℕ). is_some o) found in cc)

    abbrev stored : List SlotAccess
    stored = each (access_of first plan last final slot_of planned.known 0 keeps_last end.slots end.spilled planned.planned) puts

    stored_so : AreStores s (IsLiveAfter every (view_of first) (place_at block k)) (inst_at first inst).results stored
    stored_so =
        good_stores first plan last final slot_of planned.known 0 keeps_last end.slots end.spilled planned.planned (IsLiveAfter every (view_of first) (place_at block k))
        (is_assigned act.ahead_slots) picked_spilled (inst_at first inst).results (length first.insts) (length first.values) puts (length last.insts) (length last.values)
        (omega arith) (omega arith) puts_last
        (stores.those ∙ ap (λ (m : InstNode). filter (is_assigned act.ahead_slots) m.results) (same_ahead first recorded plan planned done block rest split k inst inside is f a st so_far g b act))
        unneeded

    -- what it becomes
    item : IsRewrittenItem every s (has recorded) (place_at block k) (WrittenAs every s (has recorded) block (suc k) (each (placed_of first) (drop (suc k) olds))) (placed_of first inst)
        (each (placed_of last) (insts_of reads ++ inst ∷ (insts_of puts ++ written.code)))
    item = record {
      reloads = reloads;
      are_reloads = good_reloads first plan last final slot_of planned.known 0 keeps_last end.slots end.spilled planned.planned (length first.insts) (length first.values) reads
          (length last.insts) (length last.values) (omega arith) (omega arith) reads_last reads_slots;
      new = placed_of last inst;
      is_kept = kept;
      stores = stored;
      are_stores = stored_so;
      rest = each (placed_of last) written.code;
      code_is = reloads_are first plan last final slot_of planned.known 0 keeps_last end.slots end.spilled planned.planned (length first.insts) (length first.values) reads
          (length last.insts) (length last.values) reads_last reads_slots (inst ∷ (insts_of puts ++ written.code))
          ∙ ap (λ (ps : List Placed). reload_items s reloads (placed_of last inst ∷ ps))
          (stores_are first plan last final slot_of planned.known 0 keeps_last end.slots end.spilled planned.planned (length first.insts) (length first.values) puts
          (length last.insts) (length last.values) puts_last puts_slots written.code);
      goes_on = written.text last final slot_of (back last final leads) end;
    }

    text_now : WrittenAs every s (has recorded) block k (each (placed_of first) (drop k olds)) (each (placed_of last) (insts_of reads ++ inst ∷ (insts_of puts ++ written.code)))
    text_now =
        subst (λ (insts : List ℕ). WrittenAs every s (has recorded) block k (each (placed_of first) insts) (each (placed_of last) (insts_of reads ++ inst ∷ (insts_of puts ++ written.code))))
        (sym (drop_one_less olds k inst inside ∙ ap (λ (i : ℕ). i ∷ drop (suc k) olds) is)) item

    -- new blocks
    landing : (test : Bool) → is_call (inst_at first inst).shape ≡ test → ActsAtSafepoint test plan inst act.given act.given_slots act.called act.called_slots
        → (c : ℕ) → length f.blocks ≤ c → c < length g.blocks → IsLandingBlock every s c
    landing false is_none at c from to =
        absurd (
        let count : length act.called.blocks ≡ length act.given.blocks = ap (λ (x : Body). length x.blocks) at.0 in
        let stay = act.read.adds.blocks in let put = stores.adds.blocks in let ahead = ap (λ (xs : List BlockNode). length xs) act.acts_ahead.blocks in
        omega (arith, from, to, count, stay, put, ahead)
        )
    landing true is_one at c from to =
        let call = is_a_call first.tables (inst_at first inst).shape is_one in
        let stay = act.read.adds.blocks in let put = stores.adds.blocks in let ahead = ap (λ (xs : List BlockNode). length xs) act.acts_ahead.blocks in
        let mapped = ap (λ (xs : List BlockNode). length xs) at.maps.blocks in
        let found = at.leads.blocks c (omega (arith, from, put, ahead, mapped)) (omega (arith, to, stay)) in
        let beyond : length first.blocks ≤ c = (let more = so_far.keeps.blocks in omega (arith, from, more)) in
        let j : ℕ = found.0 in
        let low : j < length (destinations (inst_at first inst).shape) = (let high = found.1 in omega (arith, high, ap (λ (m : InstNode). length (destinations m.shape)) (same_mapped at))) in
        let old : BlockCall = edge_at (destinations (inst_at first inst).shape) j in
        let middle : BlockCall = edge_at (destinations (inst_at act.called inst).shape) j in
        let there_edge = edge_exists old (entry_in (destinations (inst_at first inst).shape) j no_edge low) in
        let lands : LandsBy plan (inst_at at.mapped inst).shape at.mapped act.called act.called_slots old middle =
        subst (λ (m : InstNode). LandsBy plan (inst_at at.mapped inst).shape at.mapped act.called act.called_slots (edge_at (destinations m.shape) j) middle) (same_mapped at) found.2.1 in
        let empty : block_at first c ≡ empty_block = at_past first.blocks c empty_block beyond in
        record {
          no_parameters = ap (λ (m : BlockNode). m.params) empty;
          no_items = no_items_beyond first c (ap (λ (m : BlockNode). m.insts) empty);
          place = place_at block k;
          reachable = reachable first recorded plan planned done block rest split k inst inside is f a st so_far g b act;
          placed = placed_of first inst;
          there = placed first recorded plan planned done block rest split k inst inside is f a st so_far g b act;
          call = call.0;
          is_call = call.1;
          old = edge_of old;
          is_edge = into_map edge_of (destinations (inst_at first inst).shape) old (entry_in (destinations (inst_at first inst).shape) j no_edge low);
          new = edge_of middle;
          target = found.2.0;
          lands = lands_so first plan last final slot_of planned.known 0 keeps_last end.slots end.spilled planned.planned (inst_at first inst).shape call.0 old middle call.1 there_edge
              (lands_last at old middle there_edge lands);
        }

    landings_now : (c : ℕ) → length first.blocks ≤ c → c < length g.blocks → IsLandingBlock every s c
    landings_now c beyond to =
        elim (below_or_not c (length f.blocks)) [
          | inl early ↦ written.written.landings last final slot_of (back last final leads) end c beyond early
          | inr recent ↦
              landing (is_call (inst_at first inst).shape) refl
              (subst (λ (m : InstNode). ActsAtSafepoint (is_call m.shape) plan inst act.given act.given_slots act.called act.called_slots) same_g act.acts_called) c recent to
        ]

  -- an instruction more is written
  pub next_written : IsWrittenFrom first recorded plan done block k g b
  next_written = record {
    written = record {
      blocks = λ last final slot_of leads end. written.written.blocks last final slot_of (back last final leads) end;
      landings = landings_now;
    };
    code = insts_of reads ++ inst ∷ (insts_of puts ++ written.code);
    list = list_now;
    below = below_now;
    text = text_now;
  }
