-- The worked world: a parameter that an outside call moves.
use Rattle.std.proofs.Common.{◌≡◌, ◌⊎◌, ◌<◌, inl, inr, ℕ, zero, suc, List, [], ◌∷◌, drop, refl, sym, ap, subst, ◌∙◌, arith, None}
use Rattle.std.specs.Prelude.{Contains, pos, slice_get}
use Rattle.std.specs.List.{AllByRecursion}
use Rattle.clif_opcodes.specs.declared.opcodes.StackOpcode.TheVariants.{StackAddr}
use Rattle.clif_meaning.specs.Bits.{Bits}
use Rattle.clif_meaning.specs.FunctionMachine.{FunctionRun, FunctionState}
use Rattle.clif_meaning.specs.FunctionView.{Placed}
use Rattle.clif_meaning.specs.Instruction.{Call, Stack}
use Rattle.clif_meaning.specs.Machine.{Observation}
use Rattle.clif_meaning.specs.Path.{IsReachable, Place}
use Rattle.clif_meaning.specs.SameMeaning.{SameMeaning}
use Rattle.clif_meaning.specs.Typing.{EdgesMatch}
use Rattle.clif_meaning.specs.WellPlaced.{WellPlaced, function_flow, placed_at, placed_gives, placed_names, placed_passes, placed_targets}
use Rattle.clif_meaning.specs.World.{World}
use Rattle.clif_meaning.proofs.Endings
use Rattle.clif_meaning.proofs.WorkedExamples.{other_ends}
use Rattle.clif_safepoints.specs.Analysis.{IsReached}
use Rattle.clif_safepoints.specs.Liveness.{IsLiveAcross}
use Rattle.clif_typed_runs.specs.ValuesFit.{IsFunctionTyped, IsPlacedTyped}
use Rattle.clif_spilling_laws.specs.ExampleParts.{address_of_slot, callee, every, load_from, no_signature, only_first, reload_of, returned_bits, returns_value, the_entry}
use Rattle.clif_spilling_laws.specs.Laws.{MaySpill}
use Rattle.clif_spilling_laws.specs.Live.{IsLiveAcrossCall, IsLiveBefore, counted, place_at}
use Rattle.clif_spilling_laws.specs.MovedExample.{MovedExample, MovesInSlot, calls_with, moved_blocks, moved_spilling, moved_with, shown_after, shown_before}
use Rattle.clif_spilling_laws.specs.Rewriting.{AreRewritten, IsExactMap, IsLandingBlock, IsRewrittenBlock, IsRewrittenItem, IsSpilling}
use Rattle.clif_spilling_laws.specs.Runs.{IsMetBy, SparesHidden, before_run}
use Rattle.clif_spilling_laws.specs.Spilling.{AreStores, Reload, address_item, SlotAccess, Spilling, reload_items, store_items}
use Rattle.clif_spilling_laws.proofs.Examples.Parts.{alone, exact_first, no_way, not_exact, one_reload, reads_copy, shares_nothing, slot_of_first, spills_first}
use Rattle.clif_spilling_laws.proofs.Examples.Straight.{parameter_along}
use Rattle.clif_spilling_laws.proofs.Examples.Worlds.{met_by, passing, places_one}
use Rattle.clif_spilling_laws.proofs.Basics.Lists.{contains_first, contains_none, first_is}
use Rattle.clif_spilling_laws.proofs.Forward.Simulating.{means_the_same}

abbrev s : Spilling
s = moved_spilling

-- IT IS A SPILLING ------------------------------------------------------------------------------------------------------

reached_call : IsReachable (function_flow s.before) (place_at 0 0)
reached_call = ([], (refl, (refl, omega arith)))

-- the parameter is returned after the call
live_on : IsLiveAcross (counted every) s.before (place_at 0 0) 0
live_on = (contains_none 0, place_at 0 1 ∷ [], (inl (refl, refl, omega arith), contains_none 0, inl (contains_first 0 [])))

across_call : IsLiveAcrossCall every only_first s.before 0
across_call = record {
  place = place_at 0 0;
  reachable = reached_call;
  placed = calls_with [];
  there = refl;
  shape = _;
  call = refl;
  member = refl;
  unaliased = refl;
  live = live_on;
}

call_block : IsRewrittenBlock every s only_first 0
call_block = record {
  parameters = refl;
  items = record {
    stores = record { value = 0; address = 1; region = None } ∷ [];
    are_stores = inl (record { value = refl; address = record { beyond = omega arith; typed = refl; itself = refl } }, refl);
    rest = _;
    code_is = refl;
    rewritten = record {
      reloads = [];
      are_reloads = tt;
      new = calls_with (the_entry ∷ []);
      is_kept = record {
        operation = refl;
        controlling = λ aliases. refl;
        operands = tt;
        contexts = refl;
        edges = tt;
        results = refl;
        stack_map = exact_first s (place_at 0 0) refl live_on;
      };
      stores = [];
      are_stores = refl;
      rest = _;
      code_is = refl;
      goes_on = record {
        reloads = reload_of 0 2 3 ∷ [];
        are_reloads = one_reload s 0 2 3 refl (record { beyond = omega arith; typed = refl; itself = refl })
            (record { beyond = omega arith; typed = refl; itself = refl });
        new = returns_value 3;
        is_kept = record {
          operation = refl;
          controlling = λ aliases. refl;
          operands = (reads_copy s 0 2 3 refl refl refl, tt);
          contexts = refl;
          edges = tt;
          results = refl;
          stack_map = refl;
        };
        stores = [];
        are_stores = refl;
        rest = [];
        code_is = refl;
        goes_on = refl;
      };
    };
  };
}

rewritten_block : (block : ℕ) → IsReached s.before block → IsRewrittenBlock every s only_first block
rewritten_block zero is = call_block
rewritten_block (suc n) is = record { parameters = refl; items = refl }

other_block : (block : ℕ) → (IsReached s.before block → ⊥) → (s.after.blocks block ≡ s.before.blocks block) ⊎ IsLandingBlock every s block
other_block zero none = absurd (none (inl refl))
other_block (suc n) none = inl refl

is_spilling : IsSpilling every s only_first
is_spilling = record {
  text = record { entry = refl; signature = refl; reached = rewritten_block; others = other_block };
  spilled = spills_first s (λ v. refl) across_call;
  slots = slot_of_first s (λ v. refl) (record { slot = _; there = refl; beyond = omega arith; size = refl; align = refl });
  old_slots = (_, refl);
  types = λ v low. refl;
  aliases = λ v low. refl;
}

-- WHAT THE LAW ASKS OF THE FUNCTION -------------------------------------------------------------------------------------

gives_none : (b k : ℕ) → placed_gives (slice_get (moved_blocks b).items k) ≡ []
gives_none zero zero = refl
gives_none zero (suc zero) = refl
gives_none zero (suc (suc k)) = refl
gives_none (suc n) k = refl

leads_nowhere : (p : Place ℕ) → placed_targets (placed_at s.before p) ≡ []
leads_nowhere p = by p.block p.index
  where
    by : (b k : ℕ) → placed_targets (slice_get (moved_blocks b).items k) ≡ []
    by zero zero = refl
    by zero (suc zero) = refl
    by zero (suc (suc k)) = refl
    by (suc n) k = refl

no_result : (p : Place ℕ) (v : ℕ) → Contains (placed_gives (placed_at s.before p)) v → ⊥
no_result p v h = contains_none v (subst (λ (xs : List ℕ). Contains xs v) (gives_none p.block p.index) h)

is_parameter : (b v : ℕ) → Contains (moved_blocks b).parameters v → (b ≡ 0) × (0 ≡ v)
is_parameter zero v h = (refl, alone 0 v h)
is_parameter (suc n) v h = absurd (contains_none v h)

-- the return alone names something, the parameter
names_first : (b k x : ℕ) → Contains (placed_names (λ v. v) (slice_get (moved_blocks b).items k)) x → (0 < k) × (0 ≡ x)
names_first zero zero x h = absurd (contains_none x h)
names_first zero (suc zero) x h = (omega arith, alone 0 x h)
names_first zero (suc (suc k)) x h = absurd (contains_none x h)
names_first (suc n) k x h = absurd (contains_none x h)

passes_none : (b k x : ℕ) → Contains (placed_passes (λ v. v) (slice_get (moved_blocks b).items k)) x → ⊥
passes_none zero zero x h = contains_none x h
passes_none zero (suc zero) x h = contains_none x h
passes_none zero (suc (suc k)) x h = contains_none x h
passes_none (suc n) k x h = contains_none x h

well_placed : WellPlaced s.before
well_placed = record {
  named = λ q x h path walk.
      let is = names_first q.block q.index x h in
      inr (parameter_along s.before leads_nowhere refl x (subst (λ (w : ℕ). Contains (0 ∷ []) w) is.1 (contains_first 0 [])) q path walk is.0);
  passed = λ q x h. absurd (passes_none q.block q.index x h);
}

may_spill : MaySpill every only_first s
may_spill = record {
  gives_once = record {
    parameters_below = λ b v h. let is = is_parameter b v h in subst (λ (w : ℕ). w < 1) is.1 (omega arith);
    results_below = λ p v h. absurd (no_result p v h);
    one_block = λ b d v h g. let first = is_parameter b v h in let second = is_parameter d v g in first.0 ∙ sym second.0;
    one_place = λ p q v h g. absurd (no_result p v h);
    apart = λ b p v h g. no_result p v g;
    edges_give_nothing = λ p some. gives_none p.block p.index;
  };
  edges_match = edges_match;
  aliases_typed = λ v. refl;
  well_placed = well_placed;
  counts_enough = λ target place param reached uncounted is. absurd (no_way uncounted);
  shares_no_slot = shares_nothing s (λ v. refl);
}
  where
    edges_match : EdgesMatch s.before
    edges_match zero = (tt, (tt, tt))
    edges_match (suc n) = tt

-- THE WORLD -------------------------------------------------------------------------------------------------------------

-- it passes 64, places the slot at 1000, and adds 16 to what moves
abbrev world : World
world = passing (64 ∷ [])

abbrev run : FunctionRun
run = before_run s only_first world

typed : IsFunctionTyped run
typed = record { aliases = λ v. refl; items = items; entry = ([], refl); arguments = (omega arith, tt) }
  where
    items : (block : ℕ) → AllByRecursion (IsPlacedTyped s.before) (moved_blocks block).items
    items zero = (
      record { takes = record { made_at = refl; operands = (tt, refl); edges = tt }; gives = refl },
      (record { takes = record { made_at = refl; operands = refl; edges = tt }; gives = refl }, tt),
    )
    items (suc n) = tt

spares : (block : ℕ) → AllByRecursion (λ (placed : Placed). (state : FunctionState) → SparesHidden run state placed) (moved_blocks block).items
spares zero = (λ state. tt, (λ state. tt, tt))
spares (suc n) = tt

met : IsMetBy only_first s world
met = met_by only_first s world refl (places_one world _ (λ n. refl) (λ a. refl) refl refl (omega arith)) typed spares

-- both runs end, with different bits
differs : SameMeaning (shown_before world) (shown_after [] world) → ⊥
differs same =
    let shown : shown_before world 2 ≡ shown_after [] world 6 =
    other_ends (shown_before world) (shown_after [] world) (Endings.function_stays run) 2 6 tt tt same in
    apart (ap (λ (seen : Observation). returned_bits seen.ending) shown)
  where
    apart : ◌≡◌ {A = List Bits} (80 ∷ []) (64 ∷ []) → ⊥
    apart e = cc

moves : MovesInSlot world
moves = record {
  met = met;
  before = refl;
  after = refl;
  one_call = refl;
  same = means_the_same every only_first s world is_spilling may_spill met;
  held_before = refl;
  held_after = refl;
  unmoved = refl;
  differs = differs;
}

-- WITHOUT THE ENTRY -----------------------------------------------------------------------------------------------------

abbrev bare : Spilling
bare = moved_with []

lacks_entry : IsSpilling every bare only_first → ⊥
lacks_entry is = by block.items.stores block.items.are_stores block.items.rest block.items.code_is block.items.rewritten
  where
    block : IsRewrittenBlock every bare only_first 0
    block = is.text.reached 0 (inl refl)

    other_operation : {slot : ℕ} → Call callee no_signature ≡ Stack StackAddr slot (pos 0) → ⊥
    other_operation e = cc

    by_item : (olds code rest : List Placed) → calls_with [] ∷ code ≡ rest
        → IsRewrittenItem every bare only_first (place_at 0 0) (AreRewritten every bare only_first 0 1 olds) (calls_with []) rest → ⊥
    by_item olds code rest same item = here item.reloads (same ∙ item.code_is)
      where
        here : (reloads : List Reload) → calls_with [] ∷ code ≡ reload_items bare reloads (item.new ∷ store_items bare item.stores item.rest) → ⊥
        here [] e =
            let new : calls_with [] ≡ item.new = first_is (calls_with []) item.new code (store_items bare item.stores item.rest) e in
            not_exact bare only_first (place_at 0 0) 0 refl refl live_on
            (subst (λ (placed : Placed). IsExactMap every only_first bare (place_at 0 0) placed.stack_map) (sym new) item.is_kept.stack_map)
        here (x ∷ more) e = other_operation (ap (λ (placed : Placed). placed.instruction.operation) (first_is (calls_with []) (address_item bare x.access) code _ e))

    by : (stores : List SlotAccess) → AreStores bare (IsLiveBefore every bare.before (place_at 0 0)) (0 ∷ []) stores → (rest : List Placed)
        → (bare.after.blocks 0).items ≡ store_items bare stores rest → AreRewritten every bare only_first 0 0 (moved_blocks 0).items rest → ⊥
    by [] (inl none) rest e item = none
    by (a ∷ more) (inl is) rest e item =
        by_item (returns_value 0 ∷ []) (address_of_slot 2 ∷ load_from 2 3 ∷ returns_value 3 ∷ []) rest (ap (λ (xs : List Placed). drop 2 xs) (subst (λ (xs : List SlotAccess). (bare.after.blocks 0).items ≡ store_items bare (a ∷ xs) rest) is.1 e)) item
    by stores (inr unneeded) rest e item = unneeded.0 (inr live_on)

pub moved_example : MovedExample
moved_example = record { spilling = is_spilling; may_spill = may_spill; a_world = (world, moves); lacks_entry = lacks_entry }
