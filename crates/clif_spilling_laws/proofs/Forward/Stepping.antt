-- A step of the run before at an instruction, and the steps of the run after that match it.
use Rattle.std.proofs.Common.{◌≡◌, ◌⊎◌, ◌<◌, ◌≤◌, ◌||◌, inl, inr, ℕ, zero, suc, Bool, true, false, List, [], ◌∷◌, length, map, refl, sym, ap, subst, ◌∙◌, Option, Some, None}
use Rattle.std.specs.Prelude.{Contains, slice_get}
use Rattle.std.specs.List.{AllByRecursion, AllZip}
use Rattle.clif_types.specs.declared.stackmap.UserStackMapEntry.{UserStackMapEntry}
use Rattle.clif_meaning.specs.Access.{touched_ranges}
use Rattle.clif_meaning.specs.Bits.{Bits, IsValue, value_of_bytes}
use Rattle.clif_meaning.specs.Event.{Answer, CallShape, Callee, Event, Exception, Results}
use Rattle.clif_meaning.specs.FunctionMachine.{FunctionRun, FunctionState, call_outside, carry_out, follow_edge, function_step, run_placed, same_value, take_answer, value_bits}
use Rattle.clif_meaning.specs.FunctionView.{Placed}
use Rattle.clif_meaning.specs.Instruction.{Edge}
use Rattle.clif_meaning.specs.Machine.{Control, At, HasReturned, HasTrapped, IsStuck}
use Rattle.clif_meaning.specs.Memory.{Memory, Range, bytes_in, lies_in}
use Rattle.clif_meaning.specs.Outcome.{Outcome, Gives, Goes, Returns, Traps, Calls, NoStep, outcome_of}
use Rattle.clif_meaning.specs.Path.{IsReachable}
use Rattle.clif_meaning.specs.Premises.{SparesRange}
use Rattle.clif_meaning.specs.Store.{assigned}
use Rattle.clif_meaning.specs.Typing.{EachEdgeMatches, call_shape, value_types_at}
use Rattle.clif_meaning.specs.WellPlaced.{function_flow, placed_at}
use Rattle.clif_meaning.specs.World.{World}
use Rattle.clif_outcome_laws.specs.Locality.{Agree, ChangeAlike, lies_in_one}
use Rattle.clif_outcome_laws.proofs.Local.{outcomes_are_local}
use Rattle.clif_safepoints.specs.Liveness.{IsLiveAcross, used_operands}
use Rattle.clif_safepoints.proofs.Paths.{contained_in_map, contains_at, contains_map}
use Rattle.clif_spilling_laws.specs.Accesses.{state_of}
use Rattle.clif_spilling_laws.specs.Live.{IsLiveBefore, counted, place_at}
use Rattle.clif_spilling_laws.specs.Rewriting.{AreRewritten, HasMap, IsCopied, IsExactMap, IsLedOn, IsNamed, IsRead, IsRewrittenItem, entry_of}
use Rattle.clif_spilling_laws.specs.Runs.{AnswersEach, GivesEach, IsInOrder, in_spill_slots, outcome_in}
use Rattle.clif_spilling_laws.specs.SlotContents.{HoldsValue}
use Rattle.clif_spilling_laws.specs.Spilling.{AreReloads, IsReload, Reload, Spilling, reload_items, store_items}
use Rattle.clif_spilling_laws.proofs.Forward.CallShapes.{Makes, outcome_makes}
use Rattle.clif_spilling_laws.proofs.Forward.Calling.{events_are, fits_after, held_after, seen_after}
use Rattle.clif_spilling_laws.proofs.Forward.Edges.{member_holds}
use Rattle.clif_spilling_laws.proofs.Forward.Entering.{Arrives, gave, new_run, old_run, slots}
use Rattle.clif_spilling_laws.proofs.Forward.Following.{followed_landing, followed_straight}
use Rattle.clif_spilling_laws.proofs.Basics.Lists.{contains_first, contains_more, contains_none, dropped, true_false, true_or_false, zip_map}
use Rattle.clif_spilling_laws.proofs.Liveness.LivePaths.{live_below}
use Rattle.clif_spilling_laws.proofs.Memory.Maps.{range_is}
use Rattle.clif_spilling_laws.proofs.Basics.Passing.{BeginsQuietly, Passes, PassesOn, passes_nothing, passes_step, passes_then_on}
use Rattle.clif_spilling_laws.proofs.Forward.Relation.{Alike, AtPlace, Between, Held, HoldsNext, IsAt, SeenAlike, Setting, quietly_holds}
use Rattle.clif_spilling_laws.proofs.Memory.Reloading.{AreReloaded, each_reload, old_is_kept, reloads_run}
use Rattle.clif_spilling_laws.proofs.Memory.Slots.{same_in_slot, spelled_back, there_is_loaded}

-- two lists side by side, at a place
abbrev ZipAt : {X Y : Type 0} → (X → Y → Type 0) → List X → List Y → ℕ → Type 0
ZipAt {X} {Y} R xs ys k =
    ((slice_get xs k ≡ None) × (slice_get ys k ≡ None))
    ⊎ ((x : X) × (y : Y) × (slice_get xs k ≡ Some x) × (slice_get ys k ≡ Some y) × Contains xs x × R x y)

zip_at : {X Y : Type 0} (R : X → Y → Type 0) (xs : List X) (ys : List Y) → AllZip R xs ys → (k : ℕ) → ZipAt R xs ys k
zip_at R [] [] zipped k = inl (refl, refl)
zip_at R [] (y ∷ ys) zipped k = absurd zipped
zip_at R (x ∷ xs) [] zipped k = absurd zipped
zip_at R (x ∷ xs) (y ∷ ys) zipped zero = inr (x, y, refl, refl, contains_first x xs, zipped.0)
zip_at R (x ∷ xs) (y ∷ ys) zipped (suc k) = by (zip_at R xs ys zipped.1 k)
  where
    by : ZipAt R xs ys k → ZipAt R (x ∷ xs) (y ∷ ys) (suc k)
    by (inl none) = inl none
    by (inr some) = inr (some.0, some.1, some.2, some.3, contains_more x some.0 xs some.4, some.5)

or_false : (a b : Bool) → a ≡ false → b ≡ false → (a || b) ≡ false
or_false true b g h = cc
or_false false b g h = h

-- a hidden address lies in no range that is spared
none_lies : (hidden : ℕ → Bool) (ranges : List Range) → AllByRecursion (SparesRange hidden) ranges → (a : ℕ) → hidden a ≡ true → lies_in_one ranges a ≡ false
none_lies hidden [] spares a is = refl
none_lies hidden (range ∷ ranges) spares a is =
    or_false (lies_in range a) (lies_in_one ranges a) (by (true_or_false (lies_in range a))) (none_lies hidden ranges spares.1 a is)
  where
    by : (lies_in range a ≡ true) ⊎ (lies_in range a ≡ false) → lies_in range a ≡ false
    by (inl lies) = true_false (hidden a) is (spares.0 a lies)
    by (inr no_lie) = no_lie

-- following an edge shows nothing
follow_events : (run : FunctionRun) (state : FunctionState) (given : List Bits) (edge : Option (Edge ℕ ℕ)) → (follow_edge run state given edge).events ≡ state.events
follow_events run state given None = refl
follow_events run state given (Some edge) = refl

follow_at : (run : FunctionRun) (state : FunctionState) (given : List Bits) (edge : Option (Edge ℕ ℕ)) (some : Edge ℕ ℕ) → edge ≡ Some some
    → IsAt (follow_edge run state given edge).control
follow_at run state given edge some is = subst (λ (o : Option (Edge ℕ ℕ)). IsAt (follow_edge run state given o).control) (sym is) tt

module _ (counts : ℕ → ℕ → Bool) (members : ℕ → Bool) (s : Spilling) (world : World) (c : Setting counts members s world) where
  abbrev left : FunctionRun
  left = old_run counts members s world c

  abbrev right : FunctionRun
  right = new_run counts members s world c

  abbrev To : (FunctionState → Type 0) → FunctionState → FunctionState → Type 0
  To P p q = Arrives counts members s world c P p q

  -- ALONG AN EDGE -------------------------------------------------------------------------------------------------------

  module _ (P : FunctionState → Type 0) (block index : ℕ) (old new : Placed) (there : placed_at s.before (place_at block index) ≡ Some old)
      (reachable : IsReachable (function_flow s.before) (place_at block index))
      (match : EachEdgeMatches s.before.value_type (value_types_at s.before) (call_shape old.instruction.operation) old.instruction.edges)
      (reloads : List Reload) (are_reloads : AreReloads s reloads)
      (edges : AllZip (IsLedOn counts s (call_shape old.instruction.operation) reloads) old.instruction.edges new.instruction.edges)
      (p q : FunctionState) (seen : SeenAlike s world p q) (given : List Bits)
      (across : (v : ℕ) → v < s.count → IsLiveAcross (counted counts) s.before (place_at block index) v → Held s world v p.values q.values q.memory)
      (fits : (v : ℕ) → s.is_spilled v ≡ true → IsValue (s.before.value_type v) (p.values v))
      (copies : call_shape old.instruction.operation ≡ None → (x : Reload) → Contains reloads x → x.access.value < s.count
      → IsLiveAcross (counted counts) s.before (place_at block index) x.access.value → q.values x.copy ≡ p.values x.access.value)
      (k : ℕ)
      (through : (edge : Edge ℕ ℕ) → slice_get old.instruction.edges k ≡ Some edge → (values : ℕ → Bits) (memory : Memory) (code : List Placed)
      → BeginsQuietly code → P (state_of values memory q.events (At code))) where
    led : (made : Option CallShape) → call_shape old.instruction.operation ≡ made → (edge edge' : Edge ℕ ℕ) → slice_get old.instruction.edges k ≡ Some edge
        → Contains old.instruction.edges edge → IsLedOn counts s made reloads edge edge' → To P (follow_edge left p given (Some edge)) (follow_edge right q given (Some edge'))
    led None made edge edge' is h straight =
        followed_straight counts members s world c P block index old there reachable match edge h p q seen given (through edge is) across fits
        reloads edge' are_reloads straight (copies made)
    led (Some call) made edge edge' is h (inl straight) =
        followed_straight counts members s world c P block index old there reachable match edge h p q seen given (through edge is) across fits
        [] edge' tt straight (λ x none low live. absurd (contains_none x none))
    led (Some call) made edge edge' is h (inr lands) =
        followed_landing counts members s world c P block index old there reachable match edge h p q seen given (through edge is) across fits call edge' lands

    stuck : To P (follow_edge left p given None) (follow_edge right q given None)
    stuck = (
      follow_edge right q given None,
      passes_nothing right P (follow_edge right q given None),
      record { seen = record { events = seen.events; memory = seen.memory }; control = tt },
    )

    along : To P (follow_edge left p given (slice_get old.instruction.edges k)) (follow_edge right q given (slice_get new.instruction.edges k))
    along = by (zip_at (IsLedOn counts s (call_shape old.instruction.operation) reloads) old.instruction.edges new.instruction.edges edges k)
      where
        by : ZipAt (IsLedOn counts s (call_shape old.instruction.operation) reloads) old.instruction.edges new.instruction.edges k
            → To P (follow_edge left p given (slice_get old.instruction.edges k)) (follow_edge right q given (slice_get new.instruction.edges k))
        by (inl none) =
            subst (λ (o : Option (Edge ℕ ℕ)). To P (follow_edge left p given o) (follow_edge right q given (slice_get new.instruction.edges k))) (sym none.0)
            (subst (λ (o : Option (Edge ℕ ℕ)). To P (follow_edge left p given None) (follow_edge right q given o)) (sym none.1) stuck)
        by (inr some) =
            subst (λ (o : Option (Edge ℕ ℕ)). To P (follow_edge left p given o) (follow_edge right q given (slice_get new.instruction.edges k))) (sym some.2)
            (subst (λ (o : Option (Edge ℕ ℕ)). To P (follow_edge left p given (Some some.0)) (follow_edge right q given o)) (sym some.3)
            (led (call_shape old.instruction.operation) refl some.0 some.1 some.2 some.4 some.5))

  -- AN INSTRUCTION ------------------------------------------------------------------------------------------------------

  module _ (block index : ℕ) (old : Placed) (olds code : List Placed) (p q : FunctionState) (seen : SeenAlike s world p q)
      (comes_to : p.control ≡ At (old ∷ olds)) (at : AtPlace counts members s world block index old olds code p q) (in_order : IsInOrder left p old)
      (fits : (v : ℕ) → members v ≡ true → IsValue (s.before.value_type v) (p.values v)) where
    item : IsRewrittenItem counts s members (place_at block index) (AreRewritten counts s members block (suc index) olds) old code
    item = at.rewritten

    abbrev new : Placed
    new = item.new

    there : placed_at s.before (place_at block index) ≡ Some old
    there = let here = dropped (s.before.blocks block).items index old olds at.rest in here.1

    match : EachEdgeMatches s.before.value_type (value_types_at s.before) (call_shape old.instruction.operation) old.instruction.edges
    match =
        member_holds (λ (placed : Placed). EachEdgeMatches s.before.value_type (value_types_at s.before) (call_shape placed.instruction.operation) placed.instruction.edges)
        (s.before.blocks block).items old (c.may.edges_match block) (contains_at (s.before.blocks block).items index old there)

    abbrev outcome : Outcome
    outcome = outcome_in left p old

    abbrev tail : List Placed
    tail = store_items s item.stores item.rest

    -- on the way to a state
    abbrev OnTheWay : FunctionState → FunctionState → Type 0
    OnTheWay after = Between (HoldsNext counts members s world p) q.events after

    abbrev Passed : FunctionState → Type 0
    Passed = OnTheWay (run_placed left p old olds)

    abbrev Quiet : List Event → (ℕ → Bits) → Memory → (code : List Placed) → BeginsQuietly code → Type 0
    Quiet events values memory code quiet = HoldsNext counts members s world p (state_of values memory events (At code))

    quietly : (events : List Event) (values : ℕ → Bits) (memory : Memory) (code : List Placed) (quiet : BeginsQuietly code) → Quiet events values memory code quiet
    quietly events values memory code quiet = quietly_holds counts members s world p values memory events code quiet

    spilled_fits : (v : ℕ) → s.is_spilled v ≡ true → IsValue (s.before.value_type v) (p.values v)
    spilled_fits v spilled = let across = (c.spills.spilled v).0 spilled in fits v across.member

    ran : (f : ℕ → Bits) × AreReloaded s world item.reloads q.values q.memory f
        × Passes right Passed (state_of q.values q.memory q.events (At (reload_items s item.reloads (new ∷ tail)))) (state_of f q.memory q.events (At (new ∷ tail)))
    ran =
        reloads_run s world c.pointers c.places (slots counts members s world c) Passed q.memory q.events (λ values rest quiet. record { at = tt; shows = inl refl; holds = quietly q.events values q.memory rest quiet })
        item.reloads (new ∷ tail) q.values item.are_reloads

    abbrev f : ℕ → Bits
    f = ran.0

    abbrev q1 : FunctionState
    q1 = state_of f q.memory q.events (At (new ∷ tail))

    old_stays : (v : ℕ) → v < s.count → f v ≡ q.values v
    old_stays v low = ran.1.others v (old_is_kept s item.reloads v item.are_reloads low)

    low_if : (v : ℕ) → IsLiveBefore counts s.before (place_at block index) v → v < s.count
    low_if v live = live_below counts s.before c.may.well_placed s.count c.may.gives_once v (place_at block index) at.reachable live

    held_now : (v : ℕ) → v < s.count → IsLiveBefore counts s.before (place_at block index) v → Held s world v p.values f q.memory
    held_now v low live = let held = at.held v low live in record {
      in_slot = held.in_slot;
      as_it_is = λ unspilled. old_stays v low ∙ held.as_it_is unspilled;
    }

    copy_is : (x : Reload) → Contains item.reloads x → IsLiveBefore counts s.before (place_at block index) x.access.value → f x.copy ≡ p.values x.access.value
    copy_is x h live =
        let is : IsReload s x = each_reload s item.reloads x item.are_reloads h in
        let held = at.held x.access.value (low_if x.access.value live) live in
        ran.1.copies x h
        ∙ there_is_loaded s world c.places x.access.value (slots counts members s world c x.access.value is.spilled) q.memory (p.values x.access.value)
        (spilled_fits x.access.value is.spilled) (held.in_slot is.spilled)

    used : (operand : ℕ) → Contains old.instruction.operands operand → IsLiveBefore counts s.before (place_at block index) (s.before.resolved operand)
    used operand h =
        inl (subst (λ o. Contains (used_operands s.before.resolved o) (s.before.resolved operand)) (sym there)
        (contains_map s.before.resolved old.instruction.operands operand h))

    read_bits : (o n : ℕ) → Contains old.instruction.operands o → IsRead s item.reloads o n → f (s.after.resolved n) ≡ p.values (s.before.resolved o)
    read_bits o n h read = by read.how
      where
        live : IsLiveBefore counts s.before (place_at block index) (s.before.resolved o)
        live = used o h

        by : IsCopied s item.reloads o n ⊎ IsNamed s o n → f (s.after.resolved n) ≡ p.values (s.before.resolved o)
        by (inl copied) =
            let is : IsReload s copied.1 = each_reload s item.reloads copied.1 item.are_reloads copied.2 in
            ap (λ (m : ℕ). f (s.after.resolved m)) (sym copied.4)
            ∙ ap f is.copy.itself
            ∙ copy_is copied.1 copied.2 (subst (λ (v : ℕ). IsLiveBefore counts s.before (place_at block index) v) (sym copied.3) live)
            ∙ ap p.values copied.3
        by (inr named) =
            let held : Held s world (s.before.resolved o) p.values f q.memory = held_now (s.before.resolved o) (low_if (s.before.resolved o) live) live in
            ap f named.1 ∙ held.as_it_is named.0

    same_bits : map (value_bits right q1) new.instruction.operands ≡ map (value_bits left p) old.instruction.operands
    same_bits =
        zip_map (IsRead s item.reloads) (value_bits left p) (value_bits right q1) old.instruction.operands new.instruction.operands item.is_kept.operands read_bits

    same_types : map s.after.value_type new.instruction.operands ≡ map s.before.value_type old.instruction.operands
    same_types =
        zip_map (IsRead s item.reloads) s.before.value_type s.after.value_type old.instruction.operands new.instruction.operands item.is_kept.operands
        (λ o n h read. read.typed c.may.aliases_typed)

    abbrev ranges : List Range
    ranges =
        touched_ranges world old.instruction.operation old.instruction.controlling (map s.before.value_type old.instruction.operands)
        (map (value_bits left p) old.instruction.operands)

    same_outcome : outcome_in right q1 new
        ≡ outcome_of world old.instruction.operation old.instruction.controlling (map s.before.value_type old.instruction.operands)
        (map (value_bits left p) old.instruction.operands) q.memory
    same_outcome = λ i. outcome_of world (item.is_kept.operation i) (item.is_kept.controlling c.may.aliases_typed i) (same_types i) (same_bits i) q.memory

    inside : (a : ℕ) → lies_in_one ranges a ≡ true → p.memory a ≡ q.memory a
    inside a lies = by (true_or_false (in_spill_slots s world a))
      where
        by : (in_spill_slots s world a ≡ true) ⊎ (in_spill_slots s world a ≡ false) → p.memory a ≡ q.memory a
        by (inl hidden) = true_false (lies_in_one ranges a) lies (none_lies (in_spill_slots s world) ranges in_order.spares a hidden)
        by (inr shown) = sym (seen.memory a shown)

    agree : Agree ranges p.memory q.memory outcome (outcome_in right q1 new)
    agree =
        subst (λ (o : Outcome). Agree ranges p.memory q.memory outcome o) (sym same_outcome)
        (outcomes_are_local world old.instruction.operation old.instruction.controlling (map s.before.value_type old.instruction.operands)
        (map (value_bits left p) old.instruction.operands) p.memory q.memory inside)

    -- MEMORY AFTER IT ---------------------------------------------------------------------------------------------------

    module _ (m m' : Memory) (change : ChangeAlike ranges p.memory q.memory m m') where
      seen_with : (control control' : Control Placed) → SeenAlike s world (state_of p.values m p.events control) (state_of f m' q.events control')
      seen_with control control' = record { events = seen.events; memory = λ a shown. by a shown (true_or_false (lies_in_one ranges a)) }
        where
          by : (a : ℕ) → in_spill_slots s world a ≡ false → (lies_in_one ranges a ≡ true) ⊎ (lies_in_one ranges a ≡ false) → m' a ≡ m a
          by a shown (inl lies) = sym (change.inside a lies)
          by a shown (inr outside) = change.right_outside a outside ∙ seen.memory a shown ∙ sym (change.left_outside a outside)

      hidden_stays : (a : ℕ) → in_spill_slots s world a ≡ true → m' a ≡ q.memory a
      hidden_stays a hidden = change.right_outside a (none_lies (in_spill_slots s world) ranges in_order.spares a hidden)

      held_with : (v : ℕ) → v < s.count → IsLiveAcross (counted counts) s.before (place_at block index) v → Held s world v p.values f m'
      held_with v low live = let held : Held s world v p.values f q.memory = held_now v low (inr live) in record {
        in_slot = λ spilled. same_in_slot s world c.places v (slots counts members s world c v spilled) m' q.memory hidden_stays ∙ held.in_slot spilled;
        as_it_is = held.as_it_is;
      }

    -- BY OUTCOME --------------------------------------------------------------------------------------------------------

    abbrev After : Outcome → Outcome → Type 0
    After o o' = To (OnTheWay (carry_out left p old olds o)) (carry_out left p old olds o) (carry_out right q1 new tail o')

    gives : (values : List Bits) (m m' : Memory) → ChangeAlike ranges p.memory q.memory m m' → length old.results ≤ length values
        → After (Gives values m) (Gives values m')
    gives values m m' change each =
        subst (λ (results : List ℕ). To (OnTheWay (carry_out left p old olds (Gives values m))) (carry_out left p old olds (Gives values m))
        (state_of (assigned same_value results values f) m' q.events (At tail))) (sym item.is_kept.results)
        (gave counts members s world c (OnTheWay (carry_out left p old olds (Gives values m))) q.events
        (λ values' memory rest quiet. record { at = tt; shows = inl refl; holds = quietly q.events values' memory rest quiet })
        block index old olds at.rest at.reachable (state_of p.values m p.events (At olds)) (state_of f m' q.events (At tail))
        (seen_with m m' change (At olds) (At tail)) refl (held_with m m' change) values each item.stores item.rest item.are_stores item.goes_on)

    goes : (k : ℕ) (given : List Bits) (m m' : Memory) → ChangeAlike ranges p.memory q.memory m m' → After (Goes k given m) (Goes k given m')
    goes k given m m' change =
        along (OnTheWay (carry_out left p old olds (Goes k given m))) block index old new there at.reachable match
        item.reloads item.are_reloads item.is_kept.edges (record p { memory = m }) (record q1 { memory = m' })
        (seen_with m m' change p.control (At (new ∷ tail))) given (held_with m m' change) spilled_fits
        (λ none x h low live. copy_is x h (inr live)) k
        (λ edge is values memory rest quiet. record { at = tt; shows = inl refl; holds = quietly q.events values memory rest quiet })

    -- it ends
    ended : (o : Outcome) (d d' : Control Placed) → Alike counts members s world (record p { control = d }) (record q1 { control = d' })
        → To (OnTheWay (record p { control = d })) (record p { control = d }) (record q1 { control = d' })
    ended o d d' alike = (record q1 { control = d' }, passes_nothing right (OnTheWay (record p { control = d })) (record q1 { control = d' }), alike)

    still_seen : (d d' : Control Placed) → SeenAlike s world (record p { control = d }) (record q1 { control = d' })
    still_seen d d' = record { events = seen.events; memory = seen.memory }

    -- OUTSIDE CALLS -----------------------------------------------------------------------------------------------------

    module _ (callee : Callee) (call : CallShape) (arguments : List Bits) (made : call_shape old.instruction.operation ≡ Some call) where
      exact : IsExactMap counts members s (place_at block index) new.stack_map
      exact = subst (λ (o : Option CallShape). HasMap counts s members (place_at block index) o old.stack_map new.stack_map) made item.is_kept.stack_map

      abbrev pc : FunctionState
      pc = call_outside left p old.stack_map callee call arguments

      abbrev qc : FunctionState
      qc = call_outside right q1 new.stack_map callee call arguments

      seen_now : SeenAlike s world p q1
      seen_now = record { events = seen.events; memory = seen.memory }

      across_now : (v : ℕ) → v < s.count → IsLiveAcross (counted counts) s.before (place_at block index) v → Held s world v p.values f q.memory
      across_now v low live = held_now v low (inr live)

      events_same : qc.events ≡ pc.events
      events_same =
          events_are counts members s world c block index old there at.reachable call made new.stack_map exact p q1 seen_now callee arguments fits across_now

      seen_then : SeenAlike s world pc qc
      seen_then =
          seen_after counts members s world c block index old there at.reachable call made new.stack_map exact p q1 seen_now callee arguments fits across_now

      held_then : (v : ℕ) → v < s.count → IsLiveAcross (counted counts) s.before (place_at block index) v → Held s world v pc.values qc.values qc.memory
      held_then =
          held_after counts members s world c block index old there at.reachable call made new.stack_map exact p q1 seen_now callee arguments fits across_now

      fits_then : (v : ℕ) → s.is_spilled v ≡ true → IsValue (s.before.value_type v) (pc.values v)
      fits_then v spilled =
          let member = (c.spills.spilled v).0 spilled in
          fits_after counts members s world c block index old there at.reachable call made new.stack_map exact p q1 seen_now callee arguments fits across_now v member.member

      no_copies : call_shape old.instruction.operation ≡ None → (x : Reload) → Contains item.reloads x → x.access.value < s.count
          → IsLiveAcross (counted counts) s.before (place_at block index) x.access.value → qc.values x.copy ≡ pc.values x.access.value
      no_copies none x h low live = differ (sym made ∙ none)
        where
          differ : {P : Type 0} → ◌≡◌ {A = Option CallShape} (Some call) None → P
          differ e = cc

      by_edge : (k : ℕ) (given : List Bits)
          → To (OnTheWay (follow_edge left pc given (slice_get old.instruction.edges k))) (follow_edge left pc given (slice_get old.instruction.edges k))
          (follow_edge right qc given (slice_get new.instruction.edges k))
      by_edge k given =
          along (OnTheWay (follow_edge left pc given (slice_get old.instruction.edges k))) block index old new there at.reachable match
          item.reloads item.are_reloads item.is_kept.edges pc qc seen_then given held_then fits_then no_copies k
          (λ edge is values memory rest quiet. record {
            at = tt;
            holds = quietly qc.events values memory rest quiet;
            shows = inr (
              events_same ∙ sym (follow_events left pc given (slice_get old.instruction.edges k)),
              follow_at left pc given (slice_get old.instruction.edges k) edge is,
            );
          })

      abbrev Answered : Answer → List (Edge ℕ ℕ) → List (Edge ℕ ℕ) → Type 0
      Answered answer es es' =
          To (OnTheWay (take_answer left pc es old.results olds answer)) (take_answer left pc es old.results olds answer) (take_answer right qc es' new.results tail answer)

      zipped : (es es' : List (Edge ℕ ℕ)) → old.instruction.edges ≡ es → new.instruction.edges ≡ es'
          → AllZip (IsLedOn counts s (call_shape old.instruction.operation) item.reloads) es es'
      zipped es es' is is' =
          subst (λ (xs : List (Edge ℕ ℕ)). AllZip (IsLedOn counts s (call_shape old.instruction.operation) item.reloads) xs es') is
          (subst (λ (xs : List (Edge ℕ ℕ)). AllZip (IsLedOn counts s (call_shape old.instruction.operation) item.reloads) old.instruction.edges xs) is' item.is_kept.edges)

      answered : (answer : Answer) (es es' : List (Edge ℕ ℕ)) → old.instruction.edges ≡ es → new.instruction.edges ≡ es' → AnswersEach old.results answer → Answered answer es es'
      answered answer [] (e' ∷ es') is is' each = absurd (zipped [] (e' ∷ es') is is')
      answered answer (e ∷ es) [] is is' each = absurd (zipped (e ∷ es) [] is is')
      answered (Results values) [] [] is is' each =
          subst (λ (results : List ℕ). To (OnTheWay (take_answer left pc [] old.results olds (Results values))) (take_answer left pc [] old.results olds (Results values))
          (state_of (assigned same_value results values qc.values) qc.memory qc.events (At tail))) (sym item.is_kept.results)
          (gave counts members s world c (OnTheWay (take_answer left pc [] old.results olds (Results values))) qc.events
          (λ values' memory rest quiet. record { at = tt; shows = inr (events_same, tt); holds = quietly qc.events values' memory rest quiet })
          block index old olds at.rest at.reachable pc qc seen_then refl held_then values each item.stores item.rest item.are_stores item.goes_on)
      answered (Exception k payload) [] [] is is' each = (
        record qc { control = IsStuck },
        passes_nothing right (OnTheWay (record pc { control = IsStuck })) (record qc { control = IsStuck }),
        record { seen = record { events = seen_then.events; memory = seen_then.memory }; control = tt },
      )
      answered (Results values) (e ∷ es) (e' ∷ es') is is' each =
          subst (λ (xs : List (Edge ℕ ℕ)). To (OnTheWay (follow_edge left pc values (slice_get xs 0))) (follow_edge left pc values (slice_get xs 0)) (follow_edge right qc values (Some e'))) is
          (subst (λ (xs : List (Edge ℕ ℕ)). To (OnTheWay (follow_edge left pc values (slice_get old.instruction.edges 0))) (follow_edge left pc values (slice_get old.instruction.edges 0))
          (follow_edge right qc values (slice_get xs 0))) is' (by_edge 0 values))
      answered (Exception k payload) (e ∷ es) (e' ∷ es') is is' each =
          subst (λ (xs : List (Edge ℕ ℕ)). To (OnTheWay (follow_edge left pc payload (slice_get xs (suc k)))) (follow_edge left pc payload (slice_get xs (suc k)))
          (follow_edge right qc payload (slice_get es' k))) is
          (subst (λ (xs : List (Edge ℕ ℕ)). To (OnTheWay (follow_edge left pc payload (slice_get old.instruction.edges (suc k))))
          (follow_edge left pc payload (slice_get old.instruction.edges (suc k))) (follow_edge right qc payload (slice_get xs (suc k)))) is' (by_edge (suc k) payload))

      calls : AnswersEach old.results (world.answer pc.events call) → After (Calls callee call arguments) (Calls callee call arguments)
      calls each =
          subst (λ (answer : Answer). To (OnTheWay (carry_out left p old olds (Calls callee call arguments))) (carry_out left p old olds (Calls callee call arguments))
          (take_answer right qc new.instruction.edges new.results tail answer)) (ap (λ (events : List Event). world.answer events call) (sym events_same))
          (answered (world.answer pc.events call) old.instruction.edges new.instruction.edges refl refl each)

    carried : (o o' : Outcome) → Agree ranges p.memory q.memory o o' → GivesEach left p old o → Makes (call_shape old.instruction.operation) o → After o o'
    carried (Gives values m) (Gives values' m') agreed each made =
        subst (λ (xs : List Bits). After (Gives values m) (Gives xs m')) agreed.0 (gives values m m' agreed.1 each)
    carried (Goes k given m) (Goes k' given' m') agreed each made =
        subst (λ (j : ℕ). After (Goes k given m) (Goes j given' m')) agreed.0
        (subst (λ (xs : List Bits). After (Goes k given m) (Goes k xs m')) agreed.1 (goes k given m m' agreed.2))
    carried (Returns values) (Returns values') agreed each made =
        ended (Returns values) (HasReturned values) (HasReturned values') (record { seen = still_seen (HasReturned values) (HasReturned values'); control = sym agreed })
    carried (Traps reason) (Traps reason') agreed each made =
        ended (Traps reason) (HasTrapped reason) (HasTrapped reason') (record { seen = still_seen (HasTrapped reason) (HasTrapped reason'); control = sym agreed })
    carried (Calls callee call arguments) (Calls callee' call' arguments') agreed each made =
        subst (λ (x : Callee). After (Calls callee call arguments) (Calls x call' arguments')) agreed.0
        (subst (λ (x : CallShape). After (Calls callee call arguments) (Calls callee x arguments')) agreed.1
        (subst (λ (x : List Bits). After (Calls callee call arguments) (Calls callee call x)) agreed.2 (calls callee call arguments made each)))
    carried NoStep NoStep agreed each made = ended NoStep IsStuck IsStuck (record { seen = still_seen IsStuck IsStuck; control = tt })
    carried (Gives values m) (Goes k' given' m') agreed each made = absurd agreed
    carried (Gives values m) (Returns values') agreed each made = absurd agreed
    carried (Gives values m) (Traps reason') agreed each made = absurd agreed
    carried (Gives values m) (Calls callee' call' arguments') agreed each made = absurd agreed
    carried (Gives values m) NoStep agreed each made = absurd agreed
    carried (Goes k given m) (Gives values' m') agreed each made = absurd agreed
    carried (Goes k given m) (Returns values') agreed each made = absurd agreed
    carried (Goes k given m) (Traps reason') agreed each made = absurd agreed
    carried (Goes k given m) (Calls callee' call' arguments') agreed each made = absurd agreed
    carried (Goes k given m) NoStep agreed each made = absurd agreed
    carried (Returns values) (Gives values' m') agreed each made = absurd agreed
    carried (Returns values) (Goes k' given' m') agreed each made = absurd agreed
    carried (Returns values) (Traps reason') agreed each made = absurd agreed
    carried (Returns values) (Calls callee' call' arguments') agreed each made = absurd agreed
    carried (Returns values) NoStep agreed each made = absurd agreed
    carried (Traps reason) (Gives values' m') agreed each made = absurd agreed
    carried (Traps reason) (Goes k' given' m') agreed each made = absurd agreed
    carried (Traps reason) (Returns values') agreed each made = absurd agreed
    carried (Traps reason) (Calls callee' call' arguments') agreed each made = absurd agreed
    carried (Traps reason) NoStep agreed each made = absurd agreed
    carried (Calls callee call arguments) (Gives values' m') agreed each made = absurd agreed
    carried (Calls callee call arguments) (Goes k' given' m') agreed each made = absurd agreed
    carried (Calls callee call arguments) (Returns values') agreed each made = absurd agreed
    carried (Calls callee call arguments) (Traps reason') agreed each made = absurd agreed
    carried (Calls callee call arguments) NoStep agreed each made = absurd agreed
    carried NoStep (Gives values' m') agreed each made = absurd agreed
    carried NoStep (Goes k' given' m') agreed each made = absurd agreed
    carried NoStep (Returns values') agreed each made = absurd agreed
    carried NoStep (Traps reason') agreed each made = absurd agreed
    carried NoStep (Calls callee' call' arguments') agreed each made = absurd agreed

    -- the slots that the map of a call names hold their values, before the call
    holds_now : HoldsNext counts members s world p q1
    holds_now call is = record {
      place = place_at block index;
      old = old;
      olds = olds;
      there = there;
      before = comes_to;
      reachable = at.reachable;
      exact = exact;
      operation = item.is_kept.operation;
      events = seen.events;
      slots = λ entry h. named entry (subst (λ (entries : List UserStackMapEntry). Contains entries entry) exact.entries_are h);
    }
      where
        exact : IsExactMap counts members s (place_at block index) new.stack_map
        exact =
            subst (λ (o : Option CallShape). HasMap counts s members (place_at block index) o old.stack_map new.stack_map)
            (ap call_shape (sym item.is_kept.operation) ∙ is) item.is_kept.stack_map

        holds_value : (v : ℕ) → Contains exact.values v → HoldsValue counts members s world (place_at block index) p q1 (entry_of s v)
        holds_value v h = record {
          value = v;
          entry_is = refl;
          member = so.0;
          spilled = spilled;
          live = so.2;
          bits = ap (λ (range : Range). value_of_bytes (bytes_in q.memory range)) (range_is s world c.places (λ ty bits. bits) v)
              ∙ ap value_of_bytes (held.in_slot spilled)
              ∙ spelled_back s world c.places v (slots counts members s world c v spilled) (p.values v) (fits v so.0);
        }
          where
            so : (members v ≡ true) × (s.before.resolved v ≡ v) × IsLiveAcross (counted counts) s.before (place_at block index) v
            so = (exact.all v).0 h

            spilled : s.is_spilled v ≡ true
            spilled =
                (c.spills.spilled v).1 (record {
                  place = place_at block index;
                  reachable = at.reachable;
                  placed = old;
                  there = there;
                  shape = call;
                  call = ap call_shape (sym item.is_kept.operation) ∙ is;
                  member = so.0;
                  unaliased = so.1;
                  live = so.2;
                })

            held : Held s world v p.values f q.memory
            held = held_now v (low_if v (inr so.2)) (inr so.2)

        named : (entry : UserStackMapEntry) → Contains (map (entry_of s) exact.values) entry → HoldsValue counts members s world (place_at block index) p q1 entry
        named entry h =
            let from = contained_in_map (entry_of s) exact.values entry h in
            subst (λ (e : UserStackMapEntry). HoldsValue counts members s world (place_at block index) p q1 e) from.2 (holds_value from.0 from.1)

    -- The step is matched: reloads, the instruction, a landing block's code perhaps, and stores.
    pub matched : (q' : FunctionState) × PassesOn right Passed (state_of q.values q.memory q.events (At code)) q'
        × Alike counts members s world (run_placed left p old olds) q'
    matched =
        let rest = carried outcome (outcome_in right q1 new) agree in_order.gives_each
        (outcome_makes world old.instruction.operation old.instruction.controlling (map s.before.value_type old.instruction.operands)
        (map (value_bits left p) old.instruction.operands) p.memory) in (
          rest.0,
          subst (λ (xs : List Placed). PassesOn right Passed (state_of q.values q.memory q.events (At xs)) rest.0) (sym item.code_is)
              (passes_then_on right Passed (state_of q.values q.memory q.events (At (reload_items s item.reloads (new ∷ tail)))) q1 rest.0 ran.2
              (passes_step right Passed q1 (function_step right q1) rest.0 (record { at = tt; shows = inl refl; holds = holds_now }) refl rest.1)),
          rest.2,
        )
