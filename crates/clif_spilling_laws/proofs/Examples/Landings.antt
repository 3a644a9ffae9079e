-- The try call with two landing blocks.
use Rattle.std.proofs.Common.{◌≡◌, ◌⊎◌, ◌<◌, ◌≤◌, inl, inr, ℕ, zero, suc, true, List, [], ◌∷◌, refl, sym, ap, subst, ◌∙◌, arith, Option, None}
use Rattle.std.specs.Prelude.{Contains, slice_get}
use Rattle.std.specs.List.{AllByRecursion}
use Rattle.clif_meaning.specs.Bits.{AreValues, Bits}
use Rattle.clif_meaning.specs.CallExamples.{i64}
use Rattle.clif_meaning.specs.FunctionMachine.{FunctionState}
use Rattle.clif_meaning.specs.FunctionView.{Placed}
use Rattle.clif_meaning.specs.Instruction.{Known, Edge}
use Rattle.clif_meaning.specs.Path.{IsReachable, Place}
use Rattle.clif_meaning.specs.Typing.{EdgesMatch}
use Rattle.clif_meaning.specs.WellPlaced.{WellPlaced, function_code, function_flow, given_on_entry, placed_at, placed_gives, placed_names, placed_passes, placed_targets}
use Rattle.clif_meaning.specs.World.{World}
use Rattle.clif_safepoints.specs.Analysis.{IsReached}
use Rattle.clif_safepoints.specs.Liveness.{IsLiveAcross}
use Rattle.clif_typed_runs.specs.ValuesFit.{IsFunctionTyped, IsPlacedTyped}
use Rattle.clif_spilling_laws.specs.ExampleParts.{every, only_first, reload_of, returns_value, the_entry}
use Rattle.clif_spilling_laws.specs.EdgeLaws.{LeadsInside}
use Rattle.clif_spilling_laws.specs.Examples.{narrows, normal_edge, tries_along}
use Rattle.clif_spilling_laws.specs.LandingsExample.{LandingsExample, LandsInBoth, default_edge, default_landing, forked, forked_blocks, normal_landing}
use Rattle.clif_spilling_laws.specs.Laws.{MaySpill}
use Rattle.clif_spilling_laws.specs.Live.{IsLiveAcrossCall, counted, place_at}
use Rattle.clif_spilling_laws.specs.Rewriting.{IsLandingBlock, IsRewrittenBlock, IsSpilling, Lands}
use Rattle.clif_spilling_laws.specs.Runs.{IsMetBy, SparesHidden, before_run}
use Rattle.clif_spilling_laws.specs.Spilling.{IsNew, Reload, Spilling}
use Rattle.clif_spilling_laws.proofs.Examples.Parts.{alone, exact_first, kept_return, lands_with, no_way, one_of_two, one_reload, reads_copy, shares_nothing, slot_of_first, spills_first}
use Rattle.clif_spilling_laws.proofs.Examples.Worlds.{met_by, passing, places_one, throwing}
use Rattle.clif_spilling_laws.proofs.Basics.Lists.{contains_first, contains_more, contains_none, some_same}
use Rattle.clif_spilling_laws.proofs.Functions.Matching.{edges_stay_matched}
use Rattle.clif_spilling_laws.proofs.Forward.Simulating.{means_the_same}

abbrev s : Spilling
s = forked

abbrev the_call : Placed
the_call = tries_along (0 ∷ []) (normal_edge ∷ default_edge ∷ []) []

abbrev item_at : ℕ → ℕ → Option Placed
item_at b k = slice_get (forked_blocks b).items k

reached_entry : IsReachable (function_flow s.before) (place_at 0 0)
reached_entry = ([], (refl, (refl, omega arith)))

live_first : IsLiveAcross (counted every) s.before (place_at 0 0) 0
live_first = (contains_none 0, [], (normal_edge, 0, 0, contains_first normal_edge (default_edge ∷ []), refl, refl, refl))

across_first : IsLiveAcrossCall every only_first s.before 0
across_first = record {
  place = place_at 0 0;
  reachable = reached_entry;
  placed = the_call;
  there = refl;
  shape = narrows;
  call = refl;
  member = refl;
  unaliased = refl;
  live = live_first;
}

new_value : (v : ℕ) → 4 ≤ v → IsNew s (s.after.value_type v) v
new_value v beyond = record { beyond = beyond; typed = refl; itself = refl }

-- LANDING BLOCKS --------------------------------------------------------------------------------------------------------

-- the parameter of the one is neither the copy nor the address of its reload
parameter_apart : (x : Reload) → Contains (reload_of 0 6 7 ∷ []) x → (8 ≡ x.copy → ⊥) × (8 ≡ x.access.address → ⊥)
parameter_apart x h =
    let same = alone (reload_of 0 6 7) x h in (
      λ e. let g : 8 ≡ 7 = e ∙ sym (ap (λ (z : Reload). z.copy) same) in absurd (omega (arith, g)),
      λ e. let g : 8 ≡ 6 = e ∙ sym (ap (λ (z : Reload). z.access.address) same) in absurd (omega (arith, g)),
    )

lands_normally : Lands every s narrows normal_edge normal_landing
lands_normally = record {
  reloads = reload_of 0 6 7 ∷ [];
  are_reloads = one_reload s 0 6 7 refl (new_value 6 (omega arith)) (new_value 7 (omega arith));
  passed = Known 7 ∷ Known 8 ∷ [];
  arguments = refl;
  fresh = ((omega arith, refl, contains_none 8, parameter_apart), tt);
  types = refl;
  landed = (inl (reads_copy s 0 6 7 refl refl refl), (refl, refl));
  items = refl;
}

lands_by_default : Lands every s narrows default_edge default_landing
lands_by_default =
    lands_with s (λ v. refl) narrows 2 3 4 5 refl refl (new_value 4 (omega arith)) (new_value 5 (omega arith)) refl refl

abbrev landing : (block : ℕ) (old new : Edge ℕ ℕ) → (s.before.blocks block).parameters ≡ [] → (s.before.blocks block).items ≡ []
    → Contains (normal_edge ∷ default_edge ∷ []) old → new.target ≡ block → Lands every s narrows old new → IsLandingBlock every s block
landing block old new no_parameters no_items is_edge target lands = record {
  no_parameters = no_parameters;
  no_items = no_items;
  place = place_at 0 0;
  reachable = reached_entry;
  placed = the_call;
  there = refl;
  call = narrows;
  is_call = refl;
  old = old;
  is_edge = is_edge;
  new = new;
  target = target;
  lands = lands;
}

-- BLOCKS ----------------------------------------------------------------------------------------------------------------

call_block : IsRewrittenBlock every s only_first 0
call_block = record {
  parameters = refl;
  items = record {
    stores = record { value = 0; address = 11; region = None } ∷ [];
    are_stores = inl (record { value = refl; address = new_value 11 (omega arith) }, refl);
    rest = _;
    code_is = refl;
    rewritten = record {
      reloads = reload_of 0 9 10 ∷ [];
      are_reloads = one_reload s 0 9 10 refl (new_value 9 (omega arith)) (new_value 10 (omega arith));
      new = tries_along (10 ∷ []) (normal_landing ∷ default_landing ∷ []) (the_entry ∷ []);
      is_kept = record {
        operation = refl;
        controlling = λ aliases. refl;
        operands = (reads_copy s 0 9 10 refl refl refl, tt);
        contexts = refl;
        edges = (inr lands_normally, (inr lands_by_default, tt));
        results = refl;
        stack_map = exact_first s (place_at 0 0) refl live_first;
      };
      stores = [];
      are_stores = refl;
      rest = [];
      code_is = refl;
      goes_on = refl;
    };
  };
}

return_block : IsRewrittenBlock every s only_first 1
return_block = record {
  parameters = refl;
  items = record { stores = []; are_stores = refl; rest = _; code_is = refl; rewritten = kept_return s only_first (place_at 1 0) 1 refl refl refl };
}

third_block : IsRewrittenBlock every s only_first 2
third_block = record {
  parameters = refl;
  items = record { stores = []; are_stores = refl; rest = _; code_is = refl; rewritten = kept_return s only_first (place_at 2 0) 3 refl refl refl };
}

-- edges lead to the blocks 1 and 2 alone
leads_low : (b k t : ℕ) → Contains (placed_targets (item_at b k)) t → (b ≡ 0) × (t < 3)
leads_low zero zero t h = (refl, by (one_of_two 1 2 t h))
  where
    by : (1 ≡ t) ⊎ (2 ≡ t) → t < 3
    by (inl same) = subst (λ (n : ℕ). n < 3) same (omega arith)
    by (inr same) = subst (λ (n : ℕ). n < 3) same (omega arith)
leads_low zero (suc k) t h = absurd (contains_none t h)
leads_low (suc zero) zero t h = absurd (contains_none t h)
leads_low (suc zero) (suc k) t h = absurd (contains_none t h)
leads_low (suc (suc zero)) zero t h = absurd (contains_none t h)
leads_low (suc (suc zero)) (suc k) t h = absurd (contains_none t h)
leads_low (suc (suc (suc n))) k t h = absurd (contains_none t h)

not_reached : (block : ℕ) → 3 ≤ block → IsReached s.before block → ⊥
not_reached block high (inl entry) = let e : 0 ≡ block = some_same 0 block entry in omega (arith, high, e)
not_reached block high (inr from) = let low = (leads_low from.0.block from.0.index block from.2).1 in omega (arith, high, low)

rewritten_block : (block : ℕ) → IsReached s.before block → IsRewrittenBlock every s only_first block
rewritten_block zero is = call_block
rewritten_block (suc zero) is = return_block
rewritten_block (suc (suc zero)) is = third_block
rewritten_block (suc (suc (suc n))) is = absurd (not_reached (suc (suc (suc n))) (omega arith) is)

other_block : (block : ℕ) → (IsReached s.before block → ⊥) → (s.after.blocks block ≡ s.before.blocks block) ⊎ IsLandingBlock every s block
other_block zero none = absurd (none (inl refl))
other_block (suc zero) none = inl refl
other_block (suc (suc zero)) none = inl refl
other_block (suc (suc (suc zero))) none =
    inr (landing 3 default_edge default_landing refl refl (contains_more normal_edge default_edge (default_edge ∷ []) (contains_first default_edge [])) refl lands_by_default)
other_block (suc (suc (suc (suc zero)))) none =
    inr (landing 4 normal_edge normal_landing refl refl (contains_first normal_edge (default_edge ∷ [])) refl lands_normally)
other_block (suc (suc (suc (suc (suc n))))) none = inl refl

is_spilling : IsSpilling every s only_first
is_spilling = record {
  text = record { entry = refl; signature = refl; reached = rewritten_block; others = other_block };
  spilled = spills_first s (λ v. refl) across_first;
  slots = slot_of_first s (λ v. refl) (record { slot = _; there = refl; beyond = omega arith; size = refl; align = refl });
  old_slots = (_, refl);
  types = λ v low. refl;
  aliases = λ v low. refl;
}

-- WHAT THE LAW ASKS OF THE FUNCTION -------------------------------------------------------------------------------------

-- the block whose parameter a value is
abbrev owner : ℕ → ℕ
owner zero = 0
owner (suc zero) = 1
owner (suc (suc zero)) = 1
owner (suc (suc (suc n))) = 2

owned : (b v w : ℕ) → b ≡ owner v → v < 4 → v ≡ w → (b ≡ owner w) × (w < 4)
owned b v w is low same = (subst (λ (u : ℕ). b ≡ owner u) same is, subst (λ (u : ℕ). u < 4) same low)

parameter_owner : (b v : ℕ) → Contains (forked_blocks b).parameters v → (b ≡ owner v) × (v < 4)
parameter_owner zero v h = owned 0 0 v refl (omega arith) (alone 0 v h)
parameter_owner (suc zero) v h = by (one_of_two 1 2 v h)
  where
    by : (1 ≡ v) ⊎ (2 ≡ v) → (1 ≡ owner v) × (v < 4)
    by (inl same) = owned 1 1 v refl (omega arith) same
    by (inr same) = owned 1 2 v refl (omega arith) same
parameter_owner (suc (suc zero)) v h = owned 2 3 v refl (omega arith) (alone 3 v h)
parameter_owner (suc (suc (suc n))) v h = absurd (contains_none v h)

no_results : (b k : ℕ) → placed_gives (item_at b k) ≡ []
no_results zero zero = refl
no_results zero (suc k) = refl
no_results (suc zero) zero = refl
no_results (suc zero) (suc k) = refl
no_results (suc (suc zero)) zero = refl
no_results (suc (suc zero)) (suc k) = refl
no_results (suc (suc (suc n))) k = refl

no_result : (p : Place ℕ) (v : ℕ) → Contains (placed_gives (placed_at s.before p)) v → ⊥
no_result p v h = contains_none v (subst (λ (xs : List ℕ). Contains xs v) (no_results p.block p.index) h)

old_edges_match : EdgesMatch s.before
old_edges_match zero = ((refl, (refl, tt)), tt)
old_edges_match (suc zero) = (tt, tt)
old_edges_match (suc (suc zero)) = (tt, tt)
old_edges_match (suc (suc (suc n))) = tt

-- what is named is a parameter of the block, and so is what is passed
named_at : (b k x : ℕ) → Contains (placed_names (λ v. v) (item_at b k)) x → Contains (given_on_entry (function_code s.before) b k) x
named_at zero zero x h = h
named_at zero (suc k) x h = absurd (contains_none x h)
named_at (suc zero) zero x h = subst (λ (w : ℕ). Contains (1 ∷ 2 ∷ []) w) (alone 1 x h) (contains_first 1 (2 ∷ []))
named_at (suc zero) (suc k) x h = absurd (contains_none x h)
named_at (suc (suc zero)) zero x h = h
named_at (suc (suc zero)) (suc k) x h = absurd (contains_none x h)
named_at (suc (suc (suc n))) k x h = absurd (contains_none x h)

passed_at : (b k x : ℕ) → Contains (placed_passes (λ v. v) (item_at b k)) x → Contains (given_on_entry (function_code s.before) b k) x
passed_at zero zero x h = by (one_of_two 0 0 x h)
  where
    by : (0 ≡ x) ⊎ (0 ≡ x) → Contains (0 ∷ []) x
    by (inl same) = subst (λ (w : ℕ). Contains (0 ∷ []) w) same (contains_first 0 [])
    by (inr same) = subst (λ (w : ℕ). Contains (0 ∷ []) w) same (contains_first 0 [])
passed_at zero (suc k) x h = absurd (contains_none x h)
passed_at (suc zero) zero x h = absurd (contains_none x h)
passed_at (suc zero) (suc k) x h = absurd (contains_none x h)
passed_at (suc (suc zero)) zero x h = absurd (contains_none x h)
passed_at (suc (suc zero)) (suc k) x h = absurd (contains_none x h)
passed_at (suc (suc (suc n))) k x h = absurd (contains_none x h)

well_placed : WellPlaced s.before
well_placed = record {
  named = λ q x h path walk. inl (named_at q.block q.index x h);
  passed = λ q x h. inr (λ path walk. inl (passed_at q.block q.index x h));
}

may_spill : MaySpill every only_first s
may_spill = record {
  gives_once = record {
    parameters_below = λ b v h. let is = parameter_owner b v h in is.1;
    results_below = λ p v h. absurd (no_result p v h);
    one_block = λ b d v h g. let first = parameter_owner b v h in let second = parameter_owner d v g in first.0 ∙ sym second.0;
    one_place = λ p q v h g. absurd (no_result p v h);
    apart = λ b p v h g. no_result p v g;
    edges_give_nothing = λ p some. no_results p.block p.index;
  };
  edges_match = old_edges_match;
  aliases_typed = λ v. refl;
  well_placed = well_placed;
  counts_enough = λ target place param reached uncounted is. absurd (no_way uncounted);
  shares_no_slot = shares_nothing s (λ v. refl);
}

-- EDGES -----------------------------------------------------------------------------------------------------------------

-- a block that isn't reached has no edges
no_edge : (block : ℕ) (placed : Placed) (edge : Edge ℕ ℕ) → (IsReached s.before block → ⊥) → Contains (forked_blocks block).items placed
    → Contains placed.instruction.edges edge → ⊥
no_edge zero placed edge unreached h is_edge = unreached (inl refl)
no_edge (suc zero) placed edge unreached h is_edge =
    contains_none edge (subst (λ (item : Placed). Contains item.instruction.edges edge) (sym (alone (returns_value 1) placed h)) is_edge)
no_edge (suc (suc zero)) placed edge unreached h is_edge =
    contains_none edge (subst (λ (item : Placed). Contains item.instruction.edges edge) (sym (alone (returns_value 3) placed h)) is_edge)
no_edge (suc (suc (suc n))) placed edge unreached h is_edge = contains_none placed h

leads_inside : LeadsInside every s
leads_inside = record {
  passes = λ block placed edge v unreached h is_edge g. absurd (no_edge block placed edge unreached h is_edge);
  leads = λ block placed edge unreached h is_edge landing. no_edge block placed edge unreached h is_edge;
}

edges_match : EdgesMatch s.after
edges_match = edges_stay_matched every only_first s is_spilling may_spill.gives_once may_spill.aliases_typed leads_inside old_edges_match

-- THE WORLDS ------------------------------------------------------------------------------------------------------------

module _ (world : World) (passes : world.arguments ≡ 64 ∷ []) where
  typed : IsFunctionTyped (before_run s only_first world)
  typed = record {
    aliases = λ v. refl;
    items = items;
    entry = ([], refl);
    arguments = subst (λ (bits : List Bits). AreValues (i64 ∷ []) bits) (sym passes) (omega arith, tt);
  }
    where
      items : (block : ℕ) → AllByRecursion (IsPlacedTyped s.before) (forked_blocks block).items
      items zero = (record { takes = record { made_at = refl; operands = (tt, refl); edges = (refl, (refl, tt)) }; gives = refl }, tt)
      items (suc zero) = (record { takes = record { made_at = refl; operands = refl; edges = tt }; gives = refl }, tt)
      items (suc (suc zero)) = (record { takes = record { made_at = refl; operands = refl; edges = tt }; gives = refl }, tt)
      items (suc (suc (suc n))) = tt

  spares : (block : ℕ) → AllByRecursion (λ (placed : Placed). (state : FunctionState) → SparesHidden (before_run s only_first world) state placed)
      (forked_blocks block).items
  spares zero = (λ state. tt, tt)
  spares (suc zero) = (λ state. tt, tt)
  spares (suc (suc zero)) = (λ state. tt, tt)
  spares (suc (suc (suc n))) = tt

  met : ((n : ℕ) → world.slot_place n ≡ 1000) → ((a : ℕ) → world.is_accessible a ≡ true) → world.pointer_width ≡ 64 → IsMetBy only_first s world
  met place accessible wide = met_by only_first s world wide (places_one world _ place accessible wide refl (omega arith)) typed spares

returned : IsMetBy only_first s (passing (64 ∷ []))
returned = met (passing (64 ∷ [])) refl (λ n. refl) (λ a. refl) refl

thrown_there : IsMetBy only_first s (throwing 0 (64 ∷ []))
thrown_there = met (throwing 0 (64 ∷ [])) refl (λ n. refl) (λ a. refl) refl

normally : LandsInBoth (passing (64 ∷ []))
normally = record { met = returned; before = refl; after = refl; same = means_the_same every only_first s (passing (64 ∷ [])) is_spilling may_spill returned }

by_default : LandsInBoth (throwing 0 (64 ∷ []))
by_default = record { met = thrown_there; before = refl; after = refl; same = means_the_same every only_first s (throwing 0 (64 ∷ [])) is_spilling may_spill thrown_there }

pub landings_example : LandingsExample
landings_example = record {
  spilling = is_spilling;
  may_spill = may_spill;
  leads_inside = leads_inside;
  edges_match = edges_match;
  returns = (passing (64 ∷ []), normally);
  throws = (throwing 0 (64 ∷ []), by_default);
}
