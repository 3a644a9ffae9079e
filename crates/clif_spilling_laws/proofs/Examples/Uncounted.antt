-- The worked function whose argument counts, or doesn't.
use Rattle.std.proofs.Common.{◌≡◌, ◌⊎◌, ◌<◌, ◌≤◌, ◌+◌, inl, inr, ℕ, zero, suc, Bool, true, List, [], ◌∷◌, refl, sym, subst, ◌∙◌, arith, Option, Some, None}
use Rattle.std.specs.Prelude.{Contains, slice_get}
use Rattle.std.specs.List.{AllByRecursion}
use Rattle.clif_meaning.specs.FunctionMachine.{FunctionState}
use Rattle.clif_meaning.specs.FunctionView.{FunctionView, Placed}
use Rattle.clif_meaning.specs.Instruction.{Argument, Known}
use Rattle.clif_meaning.specs.Path.{IsPath, IsReachable, Leads, Place}
use Rattle.clif_meaning.specs.Typing.{EdgesMatch}
use Rattle.clif_meaning.specs.WellPlaced.{IsGivenAlong, WellPlaced, function_code, function_flow, given_on_entry, placed_at, placed_gives, placed_names, placed_passes, placed_targets}
use Rattle.clif_meaning.specs.World.{World, PlacesSlots}
use Rattle.clif_safepoints.specs.Analysis.{IsReached}
use Rattle.clif_safepoints.specs.Liveness.{IsLiveAcross, IsPassed, IsUsedAhead, used_operands}
use Rattle.clif_typed_runs.specs.ValuesFit.{IsPlacedTyped}
use Rattle.clif_spilling_laws.specs.ExampleParts.{every, only_first, reload_of, the_entry}
use Rattle.clif_spilling_laws.specs.GivesOnce.{GivesOnce}
use Rattle.clif_spilling_laws.specs.Laws.{MaySpill}
use Rattle.clif_spilling_laws.specs.Live.{IsLiveAcrossCall, IsLiveBefore, counted, place_at}
use Rattle.clif_spilling_laws.specs.MovedExample.{calls_with}
use Rattle.clif_spilling_laws.specs.Rewriting.{AreRewritten, IsExactMap, IsLandingBlock, IsRewrittenBlock, IsSpilling, jump_item}
use Rattle.clif_spilling_laws.specs.Runs.{CountsEnough, IsMetBy, SparesHidden, before_run}
use Rattle.clif_spilling_laws.specs.SlotReuseExample.{first_two, returns_nothing}
use Rattle.clif_spilling_laws.specs.Spilling.{IsNew, Spilling}
use Rattle.clif_spilling_laws.specs.UncountedExample.{DiesMoved, DiesUnmoved, UncountedExample, all_counted, dead_blocks, none_counted, none_counts}
use Rattle.clif_spilling_laws.proofs.Basics.Lists.{contains_first, contains_none, none_some, some_same}
use Rattle.clif_spilling_laws.proofs.Examples.Parts.{alone, exact_none, exact_one, first_alone, no_way, one_reload, reads_copy, shares_nothing, slot_of_first}
use Rattle.clif_spilling_laws.proofs.Examples.Worlds.{met_by, passing, places_one}
use Rattle.clif_spilling_laws.proofs.Forward.Simulating.{means_the_same}

abbrev old : FunctionView
old = none_counted.before

abbrev item_at : ℕ → ℕ → Option Placed
item_at b k = slice_get (dead_blocks b).items k

-- THE FUNCTION, INSTRUCTION BY INSTRUCTION ------------------------------------------------------------------------------

-- no instruction has operands or results
uses_none : (b k v : ℕ) → Contains (used_operands (λ x. x) (item_at b k)) v → ⊥
uses_none zero zero v h = contains_none v h
uses_none zero (suc zero) v h = contains_none v h
uses_none zero (suc (suc k)) v h = contains_none v h
uses_none (suc zero) zero v h = contains_none v h
uses_none (suc zero) (suc zero) v h = contains_none v h
uses_none (suc zero) (suc (suc k)) v h = contains_none v h
uses_none (suc (suc n)) k v h = contains_none v h

names_none : (b k v : ℕ) → Contains (placed_names (λ x. x) (item_at b k)) v → ⊥
names_none zero zero v h = contains_none v h
names_none zero (suc zero) v h = contains_none v h
names_none zero (suc (suc k)) v h = contains_none v h
names_none (suc zero) zero v h = contains_none v h
names_none (suc zero) (suc zero) v h = contains_none v h
names_none (suc zero) (suc (suc k)) v h = contains_none v h
names_none (suc (suc n)) k v h = contains_none v h

gives_none : (b k : ℕ) → placed_gives (item_at b k) ≡ []
gives_none zero zero = refl
gives_none zero (suc zero) = refl
gives_none zero (suc (suc k)) = refl
gives_none (suc zero) zero = refl
gives_none (suc zero) (suc zero) = refl
gives_none (suc zero) (suc (suc k)) = refl
gives_none (suc (suc n)) k = refl

no_result : (p : Place ℕ) (v : ℕ) → Contains (placed_gives (placed_at old p)) v → ⊥
no_result p v h = contains_none v (subst (λ (xs : List ℕ). Contains xs v) (gives_none p.block p.index) h)

-- the jump alone passes something, value 0, and leads somewhere, to block 1
passed_at : (b k v : ℕ) → Contains (placed_passes (λ x. x) (item_at b k)) v → (b ≡ 0) × (k ≡ 1) × (0 ≡ v)
passed_at zero zero v h = absurd (contains_none v h)
passed_at zero (suc zero) v h = (refl, refl, alone 0 v h)
passed_at zero (suc (suc k)) v h = absurd (contains_none v h)
passed_at (suc zero) zero v h = absurd (contains_none v h)
passed_at (suc zero) (suc zero) v h = absurd (contains_none v h)
passed_at (suc zero) (suc (suc k)) v h = absurd (contains_none v h)
passed_at (suc (suc n)) k v h = absurd (contains_none v h)

leads_to : (b k t : ℕ) → Contains (placed_targets (item_at b k)) t → 1 ≡ t
leads_to zero zero t h = absurd (contains_none t h)
leads_to zero (suc zero) t h = alone 1 t h
leads_to zero (suc (suc k)) t h = absurd (contains_none t h)
leads_to (suc zero) zero t h = absurd (contains_none t h)
leads_to (suc zero) (suc zero) t h = absurd (contains_none t h)
leads_to (suc zero) (suc (suc k)) t h = absurd (contains_none t h)
leads_to (suc (suc n)) k t h = absurd (contains_none t h)

is_parameter : (b v : ℕ) → Contains (dead_blocks b).parameters v → (b ≡ v) × (v < 2)
is_parameter zero v h = let same = alone 0 v h in (same, subst (λ (w : ℕ). w < 2) same (omega arith))
is_parameter (suc zero) v h = let same = alone 1 v h in (same, subst (λ (w : ℕ). w < 2) same (omega arith))
is_parameter (suc (suc n)) v h = absurd (contains_none v h)

-- WHAT IT GIVES AND NAMES -----------------------------------------------------------------------------------------------

gives_once : GivesOnce old 2
gives_once = record {
  parameters_below = λ b v h. let is = is_parameter b v h in is.1;
  results_below = λ p v h. absurd (no_result p v h);
  one_block = λ b d v h g. let first = is_parameter b v h in let second = is_parameter d v g in first.0 ∙ sym second.0;
  one_place = λ p q v h g. absurd (no_result p v h);
  apart = λ b p v h g. no_result p v g;
  edges_give_nothing = λ p some. gives_none p.block p.index;
}

edges_match : EdgesMatch old
edges_match zero = (tt, ((refl, tt), tt))
edges_match (suc zero) = (tt, (tt, tt))
edges_match (suc (suc n)) = tt

-- each path to the jump comes in by the parameter
given_first : (q : Place ℕ) (x : ℕ) (path : List (Place ℕ)) → IsPath (function_flow old) (q ∷ path) → q.block ≡ 0 → q.index ≡ 1 → 0 ≡ x
    → IsGivenAlong (function_code old) x path
given_first q x [] start block index same = absurd (let first = start.1.0 in omega (arith, first, index))
given_first q x (p ∷ path) walk block index same = by walk.0
  where
    by : Leads (function_flow old) p q → IsGivenAlong (function_code old) x (p ∷ path)
    by (inr other) = absurd (let first = other.1.0 in omega (arith, first, index))
    by (inl next) =
        inr (inl (subst (λ (b : ℕ). Contains (given_on_entry (function_code old) b p.index) x) (sym block ∙ next.0)
        (subst (λ (k : ℕ). Contains (given_on_entry (function_code old) 0 k) x) (zero_is p.index (sym index ∙ next.1))
        (subst (λ (w : ℕ). Contains (0 ∷ []) w) same (contains_first 0 [])))))
      where
        zero_is : (k : ℕ) → 1 ≡ k + 1 → 0 ≡ k
        zero_is k e = omega (arith, e)

well_placed : WellPlaced old
well_placed = record {
  named = λ q x h. absurd (names_none q.block q.index x h);
  passed = λ q x h. inr (λ path walk. let is = passed_at q.block q.index x h in inr (given_first q x path walk is.0 is.1 is.2));
}

-- WHERE THE ARGUMENT COUNTS ---------------------------------------------------------------------------------------------

-- value 0 alone is used ahead, in block 0
passes_first : (b k v : ℕ) → IsPassed (counted every) (λ x. x) v (item_at b k) → (v ≡ 0) × (b ≡ 0)
passes_first zero zero v h = absurd (contains_none h.0 h.3)
passes_first zero (suc zero) v h = (sym h.5 ∙ sym (is_known h.1 h.2 (subst (λ edge. slice_get edge.arguments h.1 ≡ Some (Known h.2)) (sym (alone _ h.0 h.3)) h.4)), refl)
  where
    same_known : (x y : ℕ) → ◌≡◌ {A = Option (Argument ℕ)} (Some (Known x)) (Some (Known y)) → x ≡ y
    same_known x y e = cc

    is_known : (place operand : ℕ) → slice_get (Known 0 ∷ []) place ≡ Some (Known operand) → 0 ≡ operand
    is_known zero operand e = same_known 0 operand e
    is_known (suc place) operand e = absurd (none_some (Known operand) e)
passes_first zero (suc (suc k)) v h = absurd h
passes_first (suc zero) zero v h = absurd (contains_none h.0 h.3)
passes_first (suc zero) (suc zero) v h = absurd (contains_none h.0 h.3)
passes_first (suc zero) (suc (suc k)) v h = absurd h
passes_first (suc (suc n)) k v h = absurd h

ahead : (v : ℕ) (path : List (Place ℕ)) (p : Place ℕ) → IsUsedAhead (counted every) old v p path → (v ≡ 0) × (p.block ≡ 0)
ahead v [] p passed = passes_first p.block p.index v passed
ahead v (q ∷ path) p used = by used.2 (ahead v path q)
  where
    from : (q.block ≡ 0) → Leads (function_flow old) p q → p.block ≡ 0
    from first (inl next) = sym next.0 ∙ first
    from first (inr other) = absurd (let e = leads_to p.block p.index q.block other.0 in omega (arith, e, first))

    by : Contains (used_operands (λ x. x) (placed_at old q)) v
        ⊎ ((Contains (placed_gives (placed_at old q)) v → ⊥) × IsUsedAhead (counted every) old v q path)
        → (IsUsedAhead (counted every) old v q path → (v ≡ 0) × (q.block ≡ 0)) → (v ≡ 0) × (p.block ≡ 0)
    by (inl here) later = absurd (uses_none q.block q.index v here)
    by (inr more) later = let is = later more.1 in (is.0, from is.1 used.0)

live_first : IsLiveAcross (counted every) old (place_at 0 0) 0
live_first = (
  contains_none 0,
  place_at 0 1 ∷ [],
  (inl (refl, refl, omega arith), contains_none 0, inr (contains_none 0, (_, 0, 0, contains_first _ [], refl, refl, refl))),
)

across_first : IsLiveAcrossCall every first_two old 0
across_first = record {
  place = place_at 0 0;
  reachable = ([], (refl, (refl, omega arith)));
  placed = calls_with [];
  there = refl;
  shape = _;
  call = refl;
  member = refl;
  unaliased = refl;
  live = live_first;
}

new_value : (v : ℕ) → 2 ≤ v → IsNew all_counted (all_counted.after.value_type v) v
new_value v beyond = record { beyond = beyond; typed = refl; itself = refl }

first_map : IsExactMap every first_two all_counted (place_at 0 0) (the_entry ∷ [])
first_map = exact_one every all_counted first_two (place_at 0 0) 0 (refl, refl, live_first) (λ w lives. sym (ahead w lives.2.1 (place_at 0 0) lives.2.2).0)

counted_block : IsRewrittenBlock every all_counted first_two 0
counted_block = record {
  parameters = refl;
  items = record {
    stores = record { value = 0; address = 4; region = None } ∷ [];
    are_stores = inl (record { value = refl; address = new_value 4 (omega arith) }, refl);
    rest = _;
    code_is = refl;
    rewritten = record {
      reloads = [];
      are_reloads = tt;
      new = calls_with (the_entry ∷ []);
      is_kept = record { operation = refl; controlling = λ aliases. refl; operands = tt; contexts = refl; edges = tt; results = refl; stack_map = first_map };
      stores = [];
      are_stores = refl;
      rest = _;
      code_is = refl;
      goes_on = record {
        reloads = reload_of 0 2 3 ∷ [];
        are_reloads = one_reload all_counted 0 2 3 refl (new_value 2 (omega arith)) (new_value 3 (omega arith));
        new = jump_item 1 (Known 3 ∷ []);
        is_kept = record {
          operation = refl;
          controlling = λ aliases. refl;
          operands = tt;
          contexts = refl;
          edges = (record { target = refl; arguments = (inl (reads_copy all_counted 0 2 3 refl refl refl), tt) }, tt);
          results = refl;
          stack_map = refl;
        };
        stores = [];
        are_stores = refl;
        rest = [];
        code_is = refl;
        goes_on = refl;
      };
    };
  };
}

-- a call and a return, across which nothing lives, stay as they are
second_block : (counts : ℕ → ℕ → Bool) (s : Spilling) → IsExactMap counts first_two s (place_at 1 0) []
    → AreRewritten counts s first_two 1 0 (calls_with [] ∷ returns_nothing ∷ []) (calls_with [] ∷ returns_nothing ∷ [])
second_block counts s exact = record {
  reloads = [];
  are_reloads = tt;
  new = calls_with [];
  is_kept = record { operation = refl; controlling = λ aliases. refl; operands = tt; contexts = refl; edges = tt; results = refl; stack_map = exact };
  stores = [];
  are_stores = refl;
  rest = returns_nothing ∷ [];
  code_is = refl;
  goes_on = record {
    reloads = [];
    are_reloads = tt;
    new = returns_nothing;
    is_kept = record { operation = refl; controlling = λ aliases. refl; operands = tt; contexts = refl; edges = tt; results = refl; stack_map = refl };
    stores = [];
    are_stores = refl;
    rest = [];
    code_is = refl;
    goes_on = refl;
  };
}

counted_rewritten : (block : ℕ) → IsReached old block → IsRewrittenBlock every all_counted first_two block
counted_rewritten zero is = counted_block
counted_rewritten (suc zero) is = record {
  parameters = refl;
  items = record {
    stores = [];
    are_stores = refl;
    rest = _;
    code_is = refl;
    rewritten = second_block every all_counted (exact_none every all_counted first_two (place_at 1 0) (λ w lives. elsewhere (ahead w lives.2.1 (place_at 1 0) lives.2.2).1));
  };
}
  where
    elsewhere : ◌≡◌ {A = ℕ} 1 0 → ⊥
    elsewhere e = omega (arith, e)
counted_rewritten (suc (suc n)) is = record { parameters = refl; items = refl }

counted_other : (block : ℕ) → (IsReached old block → ⊥) → (all_counted.after.blocks block ≡ old.blocks block) ⊎ IsLandingBlock every all_counted block
counted_other zero none = absurd (none (inl refl))
counted_other (suc zero) none = inl refl
counted_other (suc (suc n)) none = inl refl

counted_spilling : IsSpilling every all_counted first_two
counted_spilling = record {
  text = record { entry = refl; signature = refl; reached = counted_rewritten; others = counted_other };
  spilled = λ v. (
    λ is. subst (λ (w : ℕ). IsLiveAcrossCall every first_two old w) (sym (first_alone v is)) across_first,
    λ lives. subst (λ (w : ℕ). only_first w ≡ true) (sym (ahead v lives.live.1 lives.place lives.live.2).0) refl,
  );
  slots = slot_of_first all_counted (λ v. refl) (record { slot = _; there = refl; beyond = omega arith; size = refl; align = refl });
  old_slots = (_, refl);
  types = λ v low. refl;
  aliases = λ v low. refl;
}

counted_may : MaySpill every first_two all_counted
counted_may = record {
  gives_once = gives_once;
  edges_match = edges_match;
  aliases_typed = λ v. refl;
  well_placed = well_placed;
  counts_enough = λ target place param reached unread is. absurd (no_way unread);
  shares_no_slot = shares_nothing all_counted (λ v. refl);
}

-- WHERE IT DOESN'T ------------------------------------------------------------------------------------------------------

nothing_ahead : (v : ℕ) (path : List (Place ℕ)) (p : Place ℕ) → IsUsedAhead (counted none_counts) old v p path → ⊥
nothing_ahead v [] p passed = by (placed_at old p) passed
  where
    by : (o : Option Placed) → IsPassed (counted none_counts) (λ x. x) v o → ⊥
    by None h = h
    by (Some placed) h = no_way (sym h.6)
nothing_ahead v (q ∷ path) p used = by used.2 (nothing_ahead v path q)
  where
    by : Contains (used_operands (λ x. x) (placed_at old q)) v
        ⊎ ((Contains (placed_gives (placed_at old q)) v → ⊥) × IsUsedAhead (counted none_counts) old v q path)
        → (IsUsedAhead (counted none_counts) old v q path → ⊥) → ⊥
    by (inl here) later = uses_none q.block q.index v here
    by (inr more) later = later more.1

nothing_live : (p : Place ℕ) (v : ℕ) → IsLiveBefore none_counts old p v → ⊥
nothing_live p v (inl used) = uses_none p.block p.index v used
nothing_live p v (inr across) = nothing_ahead v across.1 p across.2

no_map : (p : Place ℕ) → IsExactMap none_counts first_two none_counted p []
no_map p = exact_none none_counts none_counted first_two p (λ w lives. nothing_ahead w lives.2.1 p lives.2.2)

uncounted_block : IsRewrittenBlock none_counts none_counted first_two 0
uncounted_block = record {
  parameters = refl;
  items = record {
    stores = [];
    are_stores = refl;
    rest = _;
    code_is = refl;
    rewritten = record {
      reloads = [];
      are_reloads = tt;
      new = calls_with [];
      is_kept = record { operation = refl; controlling = λ aliases. refl; operands = tt; contexts = refl; edges = tt; results = refl; stack_map = no_map (place_at 0 0) };
      stores = [];
      are_stores = refl;
      rest = _;
      code_is = refl;
      goes_on = record {
        reloads = [];
        are_reloads = tt;
        new = jump_item 1 (Known 0 ∷ []);
        is_kept = record {
          operation = refl;
          controlling = λ aliases. refl;
          operands = tt;
          contexts = refl;
          edges = (record { target = refl; arguments = (inr (refl, record { typed = λ aliases. refl; same = refl }), tt) }, tt);
          results = refl;
          stack_map = refl;
        };
        stores = [];
        are_stores = refl;
        rest = [];
        code_is = refl;
        goes_on = refl;
      };
    };
  };
}

uncounted_rewritten : (block : ℕ) → IsReached old block → IsRewrittenBlock none_counts none_counted first_two block
uncounted_rewritten zero is = uncounted_block
uncounted_rewritten (suc zero) is = record {
  parameters = refl;
  items = record {
    stores = [];
    are_stores = refl;
    rest = _;
    code_is = refl;
    rewritten = second_block none_counts none_counted (no_map (place_at 1 0));
  };
}
uncounted_rewritten (suc (suc n)) is = record { parameters = refl; items = refl }

uncounted_spilling : IsSpilling none_counts none_counted first_two
uncounted_spilling = record {
  text = record { entry = refl; signature = refl; reached = uncounted_rewritten; others = λ block none. inl refl };
  spilled = λ v. (λ is. absurd (no_way (sym is)), λ lives. absurd (nothing_ahead v lives.live.1 lives.place lives.live.2));
  slots = λ v is. absurd (no_way (sym is));
  old_slots = ([], refl);
  types = λ v low. refl;
  aliases = λ v low. refl;
}

-- each parameter is recorded, and nothing is live
enough : CountsEnough none_counts first_two none_counted
enough target place param reached unread is =
    (recorded target place is, refl, λ live. nothing_live (place_at target 0) param live)
  where
    recorded : (b k : ℕ) → slice_get (dead_blocks b).parameters k ≡ Some param → first_two param ≡ true
    recorded zero zero e = subst (λ (w : ℕ). first_two w ≡ true) (some_same 0 param e) refl
    recorded zero (suc k) e = absurd (none_some param e)
    recorded (suc zero) zero e = subst (λ (w : ℕ). first_two w ≡ true) (some_same 1 param e) refl
    recorded (suc zero) (suc k) e = absurd (none_some param e)
    recorded (suc (suc n)) zero e = absurd (none_some param e)
    recorded (suc (suc n)) (suc k) e = absurd (none_some param e)

uncounted_may : MaySpill none_counts first_two none_counted
uncounted_may = record {
  gives_once = gives_once;
  edges_match = edges_match;
  aliases_typed = λ v. refl;
  well_placed = well_placed;
  counts_enough = enough;
  shares_no_slot = record {
    before = λ p reachable v w first second live_v live_w one. absurd (no_way (sym first));
    after = λ p reachable v w first second live_v live_w one. absurd (no_way (sym first));
  };
}

unrecorded : CountsEnough none_counts only_first none_counted → ⊥
unrecorded holds = no_way (sym (holds 1 0 1 (inr (place_at 0 1, reached_jump, contains_first 1 [])) refl refl).0)
  where
    reached_jump : IsReachable (function_flow old) (place_at 0 1)
    reached_jump = (place_at 0 0 ∷ [], (inl (refl, refl, omega arith), (refl, (refl, omega arith))))

-- THE WORLD -------------------------------------------------------------------------------------------------------------

abbrev world : World
world = passing (64 ∷ [])

items_typed : (block : ℕ) → AllByRecursion (IsPlacedTyped old) (dead_blocks block).items
items_typed zero = (
  record { takes = record { made_at = refl; operands = (tt, refl); edges = tt }; gives = refl },
  (record { takes = record { made_at = refl; operands = tt; edges = (refl, tt) }; gives = refl }, tt),
)
items_typed (suc zero) = (
  record { takes = record { made_at = refl; operands = (tt, refl); edges = tt }; gives = refl },
  (record { takes = record { made_at = refl; operands = refl; edges = tt }; gives = refl }, tt),
)
items_typed (suc (suc n)) = tt

counted_spares : (block : ℕ) → AllByRecursion (λ (placed : Placed). (state : FunctionState) → SparesHidden (before_run all_counted first_two world) state placed)
    (dead_blocks block).items
counted_spares zero = (λ state. tt, (λ state. tt, tt))
counted_spares (suc zero) = (λ state. tt, (λ state. tt, tt))
counted_spares (suc (suc n)) = tt

uncounted_spares : (block : ℕ) → AllByRecursion (λ (placed : Placed). (state : FunctionState) → SparesHidden (before_run none_counted first_two world) state placed)
    (dead_blocks block).items
uncounted_spares zero = (λ state. tt, (λ state. tt, tt))
uncounted_spares (suc zero) = (λ state. tt, (λ state. tt, tt))
uncounted_spares (suc (suc n)) = tt

counted_met : IsMetBy first_two all_counted world
counted_met =
    met_by first_two all_counted world refl (places_one world _ (λ n. refl) (λ a. refl) refl refl (omega arith))
    (record { aliases = λ v. refl; items = items_typed; entry = ([], refl); arguments = (omega arith, tt) }) counted_spares

no_slots : PlacesSlots world []
no_slots = record {
  aligned = λ n slot is. absurd (nowhere n slot is);
  accessible = λ n slot k is few. refl;
  within = λ n slot is. absurd (nowhere n slot is);
  apart = λ n m slot other k l is is_other differ few fewer same. nowhere n slot is;
}
  where
    nowhere : {X : Type 0} (n : ℕ) (x : X) → slice_get [] n ≡ Some x → ⊥
    nowhere zero x e = none_some x e
    nowhere (suc n) x e = none_some x e

uncounted_met : IsMetBy first_two none_counted world
uncounted_met =
    met_by first_two none_counted world refl no_slots
    (record { aliases = λ v. refl; items = items_typed; entry = ([], refl); arguments = (omega arith, tt) }) uncounted_spares

dies_moved : DiesMoved world
dies_moved = record { met = counted_met; moved = refl; moved_too = refl; same = means_the_same every first_two all_counted world counted_spilling counted_may counted_met }

dies_unmoved : DiesUnmoved world
dies_unmoved = record {
  met = uncounted_met;
  moved = refl;
  unmoved = refl;
  calls = refl;
  ends = tt;
  same = means_the_same none_counts first_two none_counted world uncounted_spilling uncounted_may uncounted_met;
}

pub uncounted_example : UncountedExample
uncounted_example = record {
  counted = counted_spilling;
  counted_may = counted_may;
  counted_world = (world, dies_moved);
  uncounted = uncounted_spilling;
  uncounted_may = uncounted_may;
  uncounted_world = (world, dies_unmoved);
  unrecorded = unrecorded;
}
