-- The runs go on at the next instruction of a block, or enter a block: stores of what was just given run, and the states agree.
use Rattle.std.proofs.Common.{◌≡◌, ◌⊎◌, ◌<◌, ◌≤◌, ◌+◌, inl, inr, ℕ, suc, Bool, true, List, [], ◌∷◌, length, drop, refl, sym, ap, subst, ◌∙◌, arith, Some}
use Rattle.std.specs.Prelude.{Contains, slice_get}
use Rattle.clif_types.specs.Types.{bytes_of}
use Rattle.clif_meaning.specs.Bits.{Bits, value_bytes}
use Rattle.clif_meaning.specs.Event.{Event}
use Rattle.clif_meaning.specs.FunctionMachine.{FunctionRun, FunctionState, same_value}
use Rattle.clif_meaning.specs.FunctionView.{Placed}
use Rattle.clif_meaning.specs.Machine.{At}
use Rattle.clif_meaning.specs.Memory.{Memory}
use Rattle.clif_meaning.specs.Path.{IsReachable, Leads}
use Rattle.clif_meaning.specs.Store.{assigned}
use Rattle.clif_meaning.specs.WellPlaced.{function_flow, placed_at, placed_gives}
use Rattle.clif_meaning.specs.World.{World}
use Rattle.clif_safepoints.specs.Analysis.{IsReached}
use Rattle.clif_safepoints.specs.Liveness.{IsLiveAcross}
use Rattle.clif_spilling_laws.specs.Accesses.{state_of}
use Rattle.clif_spilling_laws.specs.Live.{IsLiveAfter, IsLiveBefore, IsSlotOf, counted, place_at}
use Rattle.clif_spilling_laws.specs.Rewriting.{AreItemsOf, AreRewritten, IsRewrittenBlock}
use Rattle.clif_spilling_laws.specs.Runs.{after_run, before_run}
use Rattle.clif_spilling_laws.specs.Spilling.{AreStores, SlotAccess, Spilling, store_items}
use Rattle.clif_spilling_laws.proofs.Liveness.Reached.{in_reached}
use Rattle.clif_spilling_laws.proofs.Basics.Lists.{assigned_alike, assigned_other, contains_none, drop_none, dropped, member_or_not}
use Rattle.clif_spilling_laws.proofs.Basics.Passing.{BeginsQuietly, Passes, passes_nothing}
use Rattle.clif_spilling_laws.proofs.Forward.Relation.{Alike, ControlAlike, Held, SeenAlike, Setting}
use Rattle.clif_spilling_laws.proofs.Liveness.SpilledLive.{parameter_is_live, result_is_live}
use Rattle.clif_spilling_laws.proofs.Memory.Storing.{AreStored, stores_run}

-- a value is held, too, where the new one stays
pub still_held : (s : Spilling) (world : World) (v : ℕ) (old new new' : ℕ → Bits) (memory : Memory) → new' v ≡ new v
    → Held s world v old new memory → Held s world v old new' memory
still_held s world v old new new' memory same held = record {
  in_slot = held.in_slot;
  as_it_is = λ unspilled. same ∙ held.as_it_is unspilled;
}

module _ (counts : ℕ → ℕ → Bool) (members : ℕ → Bool) (s : Spilling) (world : World) (c : Setting counts members s world) where
  abbrev pub old_run : FunctionRun
  old_run = before_run s members world

  abbrev pub new_run : FunctionRun
  new_run = after_run s world

  pub slots : (v : ℕ) → s.is_spilled v ≡ true → IsSlotOf s v
  slots v spilled = c.spills.slots v spilled

  itself : (v : ℕ) → s.is_spilled v ≡ true → v < s.count → s.after.resolved v ≡ v
  itself v spilled low = let across = (c.spills.spilled v).0 spilled in c.spills.aliases v low ∙ across.unaliased

  -- from states before the stores to agreeing states
  abbrev pub Arrives : (FunctionState → Type 0) → FunctionState → FunctionState → Type 0
  Arrives P p q = (q' : FunctionState) × Passes new_run P q q' × Alike counts members s world p q'

  module _ (P : FunctionState → Type 0) (events : List Event)
      (through : (values : ℕ → Bits) (memory : Memory) (code : List Placed) → BeginsQuietly code → P (state_of values memory events (At code))) where
    -- What is live where the runs go on is held, after the stores, if what was just given has the same bits, and the rest was held.
    module _ (Needed : ℕ → Type 0) (given : List ℕ) (old old' new : ℕ → Bits) (memory : Memory)
        (others : (v : ℕ) → (Contains given v → ⊥) → old' v ≡ old v)
        (same : (v : ℕ) → v < s.count → Needed v → Contains given v → new v ≡ old' v)
        (kept : (v : ℕ) → v < s.count → Needed v → (Contains given v → ⊥) → Held s world v old new memory) where
      held_after : (values : ℕ → Bits) (after : Memory) → AreStored s world Needed given new memory values after
          → (v : ℕ) → v < s.count → Needed v → Held s world v old' values after
      held_after values after are v low needed = by (member_or_not v given)
        where
          bytes : Bits → List ℕ
          bytes x = value_bytes (bytes_of (s.before.value_type v)) x

          by : Contains given v ⊎ (Contains given v → ⊥) → Held s world v old' values after
          by (inl here) = record {
            in_slot = λ spilled. are.puts v spilled here low ∙ ap bytes (same v low needed here);
            as_it_is = λ unspilled. are.old v low ∙ same v low needed here;
          }
          by (inr none) = let before = kept v low needed none in record {
            in_slot = λ spilled. are.stays v (old v) spilled needed none (before.in_slot spilled) ∙ ap bytes (sym (others v none));
            as_it_is = λ unspilled. are.old v low ∙ before.as_it_is unspilled ∙ sym (others v none);
          }

    -- RESULTS -----------------------------------------------------------------------------------------------------------

    module _ (block index : ℕ) (old : Placed) (olds : List Placed) (rest : drop index (s.before.blocks block).items ≡ old ∷ olds)
        (reachable : IsReachable (function_flow s.before) (place_at block index)) (p q : FunctionState) (seen : SeenAlike s world p q)
        (q_events : q.events ≡ events)
        (across : (v : ℕ) → v < s.count → IsLiveAcross (counted counts) s.before (place_at block index) v → Held s world v p.values q.values q.memory) where
      at_old : slice_get (s.before.blocks block).items index ≡ Some old
      at_old = let here = dropped (s.before.blocks block).items index old olds rest in here.1

      further : drop (suc index) (s.before.blocks block).items ≡ olds
      further = let here = dropped (s.before.blocks block).items index old olds rest in here.2

      is_result : (v : ℕ) → Contains old.results v → Contains (placed_gives (placed_at s.before (place_at block index))) v
      is_result v h = subst (λ o. Contains (placed_gives o) v) (sym at_old) h

      no_result : (v : ℕ) → (Contains old.results v → ⊥) → Contains (placed_gives (placed_at s.before (place_at block index))) v → ⊥
      no_result v none h = none (subst (λ o. Contains (placed_gives o) v) at_old h)

      leads_on : (next : Placed) (more : List Placed) → olds ≡ next ∷ more → Leads (function_flow s.before) (place_at block index) (place_at block (suc index))
      leads_on next more is =
          let there = dropped (s.before.blocks block).items (suc index) next more (further ∙ is) in
          inl (refl, one_on index, there.0)
        where
          one_on : (k : ℕ) → suc k ≡ k + 1
          one_on k = omega arith

      -- what is live before the next instruction is live after this one
      live_after : (next : Placed) (more : List Placed) → olds ≡ next ∷ more → (v : ℕ) → IsLiveBefore counts s.before (place_at block (suc index)) v
          → IsLiveAfter counts s.before (place_at block index) v
      live_after next more is v (inl used) =
          (place_at block (suc index) ∷ [], (leads_on next more is, contains_none v, inl used))
      live_after next more is v (inr later) =
          (place_at block (suc index) ∷ later.1, (leads_on next more is, contains_none v, inr (later.0, later.2)))

      module _ (values : List Bits) (each : length old.results ≤ length values) (stores : List SlotAccess) (tail : List Placed)
          (are : AreStores s (IsLiveAfter counts s.before (place_at block index)) old.results stores)
          (goes_on : AreRewritten counts s members block (suc index) olds tail) where
        abbrev old_values : ℕ → Bits
        old_values = assigned same_value old.results values p.values

        abbrev new_values : ℕ → Bits
        new_values = assigned same_value old.results values q.values

        stored : (new : ℕ → Bits) × (after : Memory)
            × AreStored s world (IsLiveAfter counts s.before (place_at block index)) old.results new_values q.memory new after
            × Passes new_run P (state_of new_values q.memory events (At (store_items s stores tail))) (state_of new after events (At tail))
        stored =
            stores_run s world c.pointers c.places slots (IsLiveAfter counts s.before (place_at block index))
            (c.may.shares_no_slot.after (place_at block index) reachable) itself P events through
            old.results stores tail new_values q.memory are
            (λ v h. c.may.gives_once.results_below (place_at block index) v (is_result v h))
            (λ v h spilled. result_is_live counts s.before c.may.well_placed s.count c.may.gives_once v (place_at block index) (is_result v h)
            members ((c.spills.spilled v).0 spilled))

        held : (v : ℕ) → v < s.count → IsLiveAfter counts s.before (place_at block index) v → Held s world v old_values stored.0 stored.1
        held =
            held_after (IsLiveAfter counts s.before (place_at block index)) old.results p.values old_values new_values q.memory
            (λ v none. assigned_other old.results values p.values v none)
            (λ v low needed h. assigned_alike old.results values values q.values p.values v each each (λ k is. refl) h)
            (λ v low needed none.
            still_held s world v p.values q.values new_values q.memory (assigned_other old.results values q.values v none)
            (across v low (no_result v none, needed.0, needed.1)))
            stored.0 stored.1 stored.2

        control : (left : List Placed) → olds ≡ left → AreRewritten counts s members block (suc index) left tail
            → ControlAlike counts members s world (state_of old_values p.memory p.events (At left)) (state_of stored.0 stored.1 events (At tail)) (At left) (At tail)
        control [] is goes = goes
        control (next ∷ more) is goes = (
          block,
          suc index,
          record {
            rest = further ∙ is;
            reachable = (place_at block index ∷ reachable.0, (leads_on next more is, reachable.1));
            rewritten = goes;
            held = λ v low live. held v low (live_after next more is v live);
          },
        )

        pub gave : Arrives P (state_of old_values p.memory p.events (At olds)) (state_of new_values q.memory events (At (store_items s stores tail)))
        gave = (
          state_of stored.0 stored.1 events (At tail),
          stored.3,
          record {
            seen = record {
              events = sym q_events ∙ seen.events;
              memory = λ a h. stored.2.seen a h ∙ seen.memory a h;
            };
            control = control olds refl goes_on;
          },
        )

    -- BLOCKS ------------------------------------------------------------------------------------------------------------

    module _ (block : ℕ) (reached : IsReached s.before block) (p q : FunctionState) (seen : SeenAlike s world p q)
        (q_events : q.events ≡ events) (left right : List Bits)
        (same : (v : ℕ) → v < s.count → IsLiveBefore counts s.before (place_at block 0) v → Contains (s.before.blocks block).parameters v
        → assigned same_value (s.before.blocks block).parameters right q.values v ≡ assigned same_value (s.before.blocks block).parameters left p.values v)
        (kept : (v : ℕ) → v < s.count → IsLiveBefore counts s.before (place_at block 0) v → (Contains (s.before.blocks block).parameters v → ⊥)
        → Held s world v p.values q.values q.memory) where
      abbrev params : List ℕ
      params = (s.before.blocks block).parameters

      abbrev entered_old : ℕ → Bits
      entered_old = assigned same_value params left p.values

      abbrev entered_new : ℕ → Bits
      entered_new = assigned same_value params right q.values

      reachable : (first : Placed) (more : List Placed) → (s.before.blocks block).items ≡ first ∷ more → IsReachable (function_flow s.before) (place_at block 0)
      reachable first more is =
          in_reached s.before block reached 0 (subst (λ (xs : List Placed). 0 < length xs) (sym is) (omega arith))

      arrive : (items code : List Placed) → (s.before.blocks block).items ≡ items → AreItemsOf counts s members block items code
          → Arrives P (state_of entered_old p.memory p.events (At items)) (state_of entered_new q.memory events (At code))
      arrive [] code is none = (
        state_of entered_new q.memory events (At code),
        passes_nothing new_run P (state_of entered_new q.memory events (At code)),
        record { seen = record { events = sym q_events ∙ seen.events; memory = seen.memory }; control = none },
      )
      arrive (first ∷ more) code is written =
          subst (λ (xs : List Placed). Arrives P (state_of entered_old p.memory p.events (At (first ∷ more))) (state_of entered_new q.memory events (At xs)))
          (sym written.code_is) (
            state_of stored.0 stored.1 events (At written.rest),
            stored.3,
            record {
              seen = record { events = sym q_events ∙ seen.events; memory = λ a h. stored.2.seen a h ∙ seen.memory a h };
              control = (
                block,
                0,
                record {
                  rest = drop_none (s.before.blocks block).items ∙ is;
                  reachable = there;
                  rewritten = written.rewritten;
                  held = λ v low live. held v low live;
                },
              );
            },
          )
        where
          there : IsReachable (function_flow s.before) (place_at block 0)
          there = reachable first more is

          stored : (new : ℕ → Bits) × (after : Memory)
              × AreStored s world (IsLiveBefore counts s.before (place_at block 0)) params entered_new q.memory new after
              × Passes new_run P (state_of entered_new q.memory events (At (store_items s written.stores written.rest))) (state_of new after events (At written.rest))
          stored =
              stores_run s world c.pointers c.places slots (IsLiveBefore counts s.before (place_at block 0))
              (c.may.shares_no_slot.before (place_at block 0) there) itself P events through
              params written.stores written.rest entered_new q.memory written.are_stores
              (λ v h. c.may.gives_once.parameters_below block v h)
              (λ v h spilled. parameter_is_live counts s.before c.may.well_placed s.count c.may.gives_once v block h members ((c.spills.spilled v).0 spilled))

          held : (v : ℕ) → v < s.count → IsLiveBefore counts s.before (place_at block 0) v → Held s world v entered_old stored.0 stored.1
          held =
              held_after (IsLiveBefore counts s.before (place_at block 0)) params p.values entered_old entered_new q.memory
              (λ v none. assigned_other params left p.values v none) same
              (λ v low needed none.
              still_held s world v p.values q.values entered_new q.memory (assigned_other params right q.values v none) (kept v low needed none))
              stored.0 stored.1 stored.2

      -- the machine with stores and reloads enters the block
      pub entered : Arrives P (state_of entered_old p.memory p.events (At (s.before.blocks block).items))
          (state_of (assigned same_value (s.after.blocks block).parameters right q.values) q.memory events (At (s.after.blocks block).items))
      entered =
          let is : IsRewrittenBlock counts s members block = c.spills.text.reached block reached in
          subst (λ (xs : List ℕ). Arrives P (state_of entered_old p.memory p.events (At (s.before.blocks block).items))
          (state_of (assigned same_value xs right q.values) q.memory events (At (s.after.blocks block).items)))
          (sym is.parameters)
          (arrive (s.before.blocks block).items (s.after.blocks block).items refl is.items)
