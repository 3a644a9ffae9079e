-- The try call with two items whose edges lead to one block.
use Rattle.std.proofs.Common.{◌≡◌, ◌⊎◌, ◌<◌, ◌≤◌, inl, inr, ℕ, zero, suc, List, [], ◌∷◌, refl, sym, subst, ◌∙◌, arith, Option, None}
use Rattle.std.specs.Prelude.{Contains, slice_get}
use Rattle.std.specs.List.{AllByRecursion}
use Rattle.clif_meaning.specs.FunctionMachine.{FunctionState}
use Rattle.clif_meaning.specs.FunctionView.{Placed}
use Rattle.clif_meaning.specs.Instruction.{Edge}
use Rattle.clif_meaning.specs.Path.{IsReachable, Place}
use Rattle.clif_meaning.specs.Typing.{EdgesMatch}
use Rattle.clif_meaning.specs.WellPlaced.{WellPlaced, function_code, function_flow, given_on_entry, placed_at, placed_gives, placed_names, placed_passes, placed_targets}
use Rattle.clif_meaning.specs.World.{World}
use Rattle.clif_safepoints.specs.Analysis.{IsReached}
use Rattle.clif_safepoints.specs.Liveness.{IsLiveAcross}
use Rattle.clif_typed_runs.specs.ValuesFit.{IsFunctionTyped, IsPlacedTyped}
use Rattle.clif_spilling_laws.specs.EdgeLaws.{LeadsInside}
use Rattle.clif_spilling_laws.specs.ExampleParts.{every, only_first, reload_of, returns_value, the_entry}
use Rattle.clif_spilling_laws.specs.Laws.{MaySpill}
use Rattle.clif_spilling_laws.specs.Live.{IsLiveAcrossCall, counted, place_at}
use Rattle.clif_spilling_laws.specs.Rewriting.{IsLandingBlock, IsRewrittenBlock, IsSpilling, Lands}
use Rattle.clif_spilling_laws.specs.Runs.{IsMetBy, SparesHidden, before_run}
use Rattle.clif_spilling_laws.specs.Spilling.{IsNew, Spilling}
use Rattle.clif_spilling_laws.specs.TableItemsExample.{ItemIsThrown, TableItemsExample, item_edge, joined_blocks, landing_at, parted, plain_edge, tries_both, two_items}
use Rattle.clif_spilling_laws.proofs.Basics.Lists.{contains_cases, contains_first, contains_more, contains_none, some_same}
use Rattle.clif_spilling_laws.proofs.Examples.Parts.{alone, exact_first, kept_return, lands_with, no_way, one_of_two, one_reload, reads_copy, shares_nothing, slot_of_first, spills_first}
use Rattle.clif_spilling_laws.proofs.Examples.Worlds.{met_by, places_one, throwing}
use Rattle.clif_spilling_laws.proofs.Forward.Simulating.{means_the_same}
use Rattle.clif_spilling_laws.proofs.Functions.Matching.{edges_stay_matched}

abbrev s : Spilling
s = parted

abbrev the_call : Placed
the_call = tries_both 0 (plain_edge ∷ item_edge ∷ item_edge ∷ []) []

abbrev item_at : ℕ → ℕ → Option Placed
item_at b k = slice_get (joined_blocks b).items k

reached_entry : IsReachable (function_flow s.before) (place_at 0 0)
reached_entry = ([], (refl, (refl, omega arith)))

is_item : Contains (plain_edge ∷ item_edge ∷ item_edge ∷ []) item_edge
is_item = contains_more plain_edge item_edge (item_edge ∷ item_edge ∷ []) (contains_first item_edge (item_edge ∷ []))

live_first : IsLiveAcross (counted every) s.before (place_at 0 0) 0
live_first = (contains_none 0, [], (item_edge, 0, 0, is_item, refl, refl, refl))

across_first : IsLiveAcrossCall every only_first s.before 0
across_first = record {
  place = place_at 0 0;
  reachable = reached_entry;
  placed = the_call;
  there = refl;
  shape = two_items;
  call = refl;
  member = refl;
  unaliased = refl;
  live = live_first;
}

new_value : (v : ℕ) → 2 ≤ v → IsNew s (s.after.value_type v) v
new_value v beyond = record { beyond = beyond; typed = refl; itself = refl }

-- BLOCKS ----------------------------------------------------------------------------------------------------------------

lands_first : Lands every s two_items item_edge (landing_at 3)
lands_first = lands_with s (λ v. refl) two_items 2 3 4 5 refl refl (new_value 4 (omega arith)) (new_value 5 (omega arith)) refl refl

lands_second : Lands every s two_items item_edge (landing_at 4)
lands_second = lands_with s (λ v. refl) two_items 2 4 2 3 refl refl (new_value 2 (omega arith)) (new_value 3 (omega arith)) refl refl

landing : (block : ℕ) → (s.before.blocks block).parameters ≡ [] → (s.before.blocks block).items ≡ []
    → Lands every s two_items item_edge (landing_at block) → IsLandingBlock every s block
landing block no_parameters no_items lands = record {
  no_parameters = no_parameters;
  no_items = no_items;
  place = place_at 0 0;
  reachable = reached_entry;
  placed = the_call;
  there = refl;
  call = two_items;
  is_call = refl;
  old = item_edge;
  is_edge = is_item;
  new = landing_at block;
  target = refl;
  lands = lands;
}

call_block : IsRewrittenBlock every s only_first 0
call_block = record {
  parameters = refl;
  items = record {
    stores = record { value = 0; address = 8; region = None } ∷ [];
    are_stores = inl (record { value = refl; address = new_value 8 (omega arith) }, refl);
    rest = _;
    code_is = refl;
    rewritten = record {
      reloads = reload_of 0 6 7 ∷ [];
      are_reloads = one_reload s 0 6 7 refl (new_value 6 (omega arith)) (new_value 7 (omega arith));
      new = tries_both 7 (plain_edge ∷ landing_at 3 ∷ landing_at 4 ∷ []) (the_entry ∷ []);
      is_kept = record {
        operation = refl;
        controlling = λ aliases. refl;
        operands = (reads_copy s 0 6 7 refl refl refl, tt);
        contexts = refl;
        edges = (inl (record { target = refl; arguments = tt }), (inr lands_first, (inr lands_second, tt)));
        results = refl;
        stack_map = exact_first s (place_at 0 0) refl live_first;
      };
      stores = [];
      are_stores = refl;
      rest = [];
      code_is = refl;
      goes_on = refl;
    };
  };
}

trap_block : IsRewrittenBlock every s only_first 1
trap_block = record {
  parameters = refl;
  items = record {
    stores = [];
    are_stores = refl;
    rest = _;
    code_is = refl;
    rewritten = record {
      reloads = [];
      are_reloads = tt;
      new = _;
      is_kept = record { operation = refl; controlling = λ aliases. refl; operands = tt; contexts = refl; edges = tt; results = refl; stack_map = refl };
      stores = [];
      are_stores = refl;
      rest = [];
      code_is = refl;
      goes_on = refl;
    };
  };
}

return_block : IsRewrittenBlock every s only_first 2
return_block = record {
  parameters = refl;
  items = record { stores = []; are_stores = refl; rest = _; code_is = refl; rewritten = kept_return s only_first (place_at 2 0) 1 refl refl refl };
}

-- edges lead to the blocks 1 and 2 alone
leads_low : (b k t : ℕ) → Contains (placed_targets (item_at b k)) t → t < 3
leads_low zero zero t h = by (contains_cases 1 t (2 ∷ 2 ∷ []) h)
  where
    low : (n : ℕ) → n < 3 → n ≡ t → t < 3
    low n less same = subst (λ (m : ℕ). m < 3) same less

    of_item : (2 ≡ t) ⊎ (2 ≡ t) → t < 3
    of_item (inl same) = low 2 (omega arith) same
    of_item (inr same) = low 2 (omega arith) same

    by : (1 ≡ t) ⊎ Contains (2 ∷ 2 ∷ []) t → t < 3
    by (inl same) = low 1 (omega arith) same
    by (inr more) = of_item (one_of_two 2 2 t more)
leads_low zero (suc k) t h = absurd (contains_none t h)
leads_low (suc zero) zero t h = absurd (contains_none t h)
leads_low (suc zero) (suc k) t h = absurd (contains_none t h)
leads_low (suc (suc zero)) zero t h = absurd (contains_none t h)
leads_low (suc (suc zero)) (suc k) t h = absurd (contains_none t h)
leads_low (suc (suc (suc n))) k t h = absurd (contains_none t h)

not_reached : (block : ℕ) → 3 ≤ block → IsReached s.before block → ⊥
not_reached block high (inl entry) = let e : 0 ≡ block = some_same 0 block entry in omega (arith, high, e)
not_reached block high (inr from) = let low = leads_low from.0.block from.0.index block from.2 in omega (arith, high, low)

rewritten_block : (block : ℕ) → IsReached s.before block → IsRewrittenBlock every s only_first block
rewritten_block zero is = call_block
rewritten_block (suc zero) is = trap_block
rewritten_block (suc (suc zero)) is = return_block
rewritten_block (suc (suc (suc n))) is = absurd (not_reached (suc (suc (suc n))) (omega arith) is)

other_block : (block : ℕ) → (IsReached s.before block → ⊥) → (s.after.blocks block ≡ s.before.blocks block) ⊎ IsLandingBlock every s block
other_block zero none = absurd (none (inl refl))
other_block (suc zero) none = inl refl
other_block (suc (suc zero)) none = inl refl
other_block (suc (suc (suc zero))) none = inr (landing 3 refl refl lands_first)
other_block (suc (suc (suc (suc zero)))) none = inr (landing 4 refl refl lands_second)
other_block (suc (suc (suc (suc (suc n))))) none = inl refl

is_spilling : IsSpilling every s only_first
is_spilling = record {
  text = record { entry = refl; signature = refl; reached = rewritten_block; others = other_block };
  spilled = spills_first s (λ v. refl) across_first;
  slots = slot_of_first s (λ v. refl) (record { slot = _; there = refl; beyond = omega arith; size = refl; align = refl });
  old_slots = (_, refl);
  types = λ v low. refl;
  aliases = λ v low. refl;
}

-- WHAT THE LAW ASKS OF THE FUNCTION -------------------------------------------------------------------------------------

-- the block whose parameter a value is
abbrev owner : ℕ → ℕ
owner zero = 0
owner (suc n) = 2

owned : (b v w : ℕ) → b ≡ owner v → v < 2 → v ≡ w → (b ≡ owner w) × (w < 2)
owned b v w is low same = (subst (λ (u : ℕ). b ≡ owner u) same is, subst (λ (u : ℕ). u < 2) same low)

parameter_owner : (b v : ℕ) → Contains (joined_blocks b).parameters v → (b ≡ owner v) × (v < 2)
parameter_owner zero v h = owned 0 0 v refl (omega arith) (alone 0 v h)
parameter_owner (suc zero) v h = absurd (contains_none v h)
parameter_owner (suc (suc zero)) v h = owned 2 1 v refl (omega arith) (alone 1 v h)
parameter_owner (suc (suc (suc n))) v h = absurd (contains_none v h)

no_results : (b k : ℕ) → placed_gives (item_at b k) ≡ []
no_results zero zero = refl
no_results zero (suc k) = refl
no_results (suc zero) zero = refl
no_results (suc zero) (suc k) = refl
no_results (suc (suc zero)) zero = refl
no_results (suc (suc zero)) (suc k) = refl
no_results (suc (suc (suc n))) k = refl

no_result : (p : Place ℕ) (v : ℕ) → Contains (placed_gives (placed_at s.before p)) v → ⊥
no_result p v h = contains_none v (subst (λ (xs : List ℕ). Contains xs v) (no_results p.block p.index) h)

old_edges_match : EdgesMatch s.before
old_edges_match zero = ((refl, (refl, (refl, tt))), tt)
old_edges_match (suc zero) = (tt, tt)
old_edges_match (suc (suc zero)) = (tt, tt)
old_edges_match (suc (suc (suc n))) = tt

named_at : (b k x : ℕ) → Contains (placed_names (λ v. v) (item_at b k)) x → Contains (given_on_entry (function_code s.before) b k) x
named_at zero zero x h = h
named_at zero (suc k) x h = absurd (contains_none x h)
named_at (suc zero) zero x h = absurd (contains_none x h)
named_at (suc zero) (suc k) x h = absurd (contains_none x h)
named_at (suc (suc zero)) zero x h = h
named_at (suc (suc zero)) (suc k) x h = absurd (contains_none x h)
named_at (suc (suc (suc n))) k x h = absurd (contains_none x h)

passed_at : (b k x : ℕ) → Contains (placed_passes (λ v. v) (item_at b k)) x → Contains (given_on_entry (function_code s.before) b k) x
passed_at zero zero x h = by (one_of_two 0 0 x h)
  where
    by : (0 ≡ x) ⊎ (0 ≡ x) → Contains (0 ∷ []) x
    by (inl same) = subst (λ (w : ℕ). Contains (0 ∷ []) w) same (contains_first 0 [])
    by (inr same) = subst (λ (w : ℕ). Contains (0 ∷ []) w) same (contains_first 0 [])
passed_at zero (suc k) x h = absurd (contains_none x h)
passed_at (suc zero) zero x h = absurd (contains_none x h)
passed_at (suc zero) (suc k) x h = absurd (contains_none x h)
passed_at (suc (suc zero)) zero x h = absurd (contains_none x h)
passed_at (suc (suc zero)) (suc k) x h = absurd (contains_none x h)
passed_at (suc (suc (suc n))) k x h = absurd (contains_none x h)

well_placed : WellPlaced s.before
well_placed = record {
  named = λ q x h path walk. inl (named_at q.block q.index x h);
  passed = λ q x h. inr (λ path walk. inl (passed_at q.block q.index x h));
}

may_spill : MaySpill every only_first s
may_spill = record {
  gives_once = record {
    parameters_below = λ b v h. let is = parameter_owner b v h in is.1;
    results_below = λ p v h. absurd (no_result p v h);
    one_block = λ b d v h g. let first = parameter_owner b v h in let second = parameter_owner d v g in first.0 ∙ sym second.0;
    one_place = λ p q v h g. absurd (no_result p v h);
    apart = λ b p v h g. no_result p v g;
    edges_give_nothing = λ p some. no_results p.block p.index;
  };
  edges_match = old_edges_match;
  aliases_typed = λ v. refl;
  well_placed = well_placed;
  counts_enough = λ target place param reached uncounted is. absurd (no_way uncounted);
  shares_no_slot = shares_nothing s (λ v. refl);
}

-- EDGES -----------------------------------------------------------------------------------------------------------------

-- a block that isn't reached has no edges
no_edge : (block : ℕ) (placed : Placed) (edge : Edge ℕ ℕ) → (IsReached s.before block → ⊥) → Contains (joined_blocks block).items placed
    → Contains placed.instruction.edges edge → ⊥
no_edge zero placed edge unreached h is_edge = unreached (inl refl)
no_edge (suc zero) placed edge unreached h is_edge =
    unreached (inr (place_at 0 0, reached_entry, contains_first 1 (2 ∷ 2 ∷ [])))
no_edge (suc (suc zero)) placed edge unreached h is_edge =
    contains_none edge (subst (λ (item : Placed). Contains item.instruction.edges edge) (sym (alone (returns_value 1) placed h)) is_edge)
no_edge (suc (suc (suc n))) placed edge unreached h is_edge = contains_none placed h

leads_inside : LeadsInside every s
leads_inside = record {
  passes = λ block placed edge v unreached h is_edge g. absurd (no_edge block placed edge unreached h is_edge);
  leads = λ block placed edge unreached h is_edge landing. no_edge block placed edge unreached h is_edge;
}

edges_match : EdgesMatch s.after
edges_match = edges_stay_matched every only_first s is_spilling may_spill.gives_once may_spill.aliases_typed leads_inside old_edges_match

-- THE WORLDS ------------------------------------------------------------------------------------------------------------

module _ (item : ℕ) where
  abbrev world : World
  world = throwing item (64 ∷ [])

  typed : IsFunctionTyped (before_run s only_first world)
  typed = record { aliases = λ v. refl; items = items; entry = ([], refl); arguments = (omega arith, tt) }
    where
      items : (block : ℕ) → AllByRecursion (IsPlacedTyped s.before) (joined_blocks block).items
      items zero = (record { takes = record { made_at = refl; operands = (tt, refl); edges = (refl, (refl, (refl, tt))) }; gives = refl }, tt)
      items (suc zero) = (record { takes = record { made_at = refl; operands = tt; edges = tt }; gives = refl }, tt)
      items (suc (suc zero)) = (record { takes = record { made_at = refl; operands = refl; edges = tt }; gives = refl }, tt)
      items (suc (suc (suc n))) = tt

  spares : (block : ℕ) → AllByRecursion (λ (placed : Placed). (state : FunctionState) → SparesHidden (before_run s only_first world) state placed)
      (joined_blocks block).items
  spares zero = (λ state. tt, tt)
  spares (suc zero) = (λ state. tt, tt)
  spares (suc (suc zero)) = (λ state. tt, tt)
  spares (suc (suc (suc n))) = tt

  met : IsMetBy only_first s world
  met = met_by only_first s world refl (places_one world _ (λ n. refl) (λ a. refl) refl refl (omega arith)) typed spares

first_thrown : ItemIsThrown (throwing 0 (64 ∷ []))
first_thrown = record {
  met = met 0;
  before = refl;
  after = refl;
  same = means_the_same every only_first s (throwing 0 (64 ∷ [])) is_spilling may_spill (met 0);
}

second_thrown : ItemIsThrown (throwing 1 (64 ∷ []))
second_thrown = record {
  met = met 1;
  before = refl;
  after = refl;
  same = means_the_same every only_first s (throwing 1 (64 ∷ [])) is_spilling may_spill (met 1);
}

pub table_items_example : TableItemsExample
table_items_example = record {
  spilling = is_spilling;
  may_spill = may_spill;
  leads_inside = leads_inside;
  edges_match = edges_match;
  first = (throwing 0 (64 ∷ []), first_thrown);
  second = (throwing 1 (64 ∷ []), second_thrown);
}
