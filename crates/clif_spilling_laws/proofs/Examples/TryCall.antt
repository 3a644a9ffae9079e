-- The worked examples of spilling, and the wrong ones that are refused.
use Rattle.std.proofs.Common.{◌≡◌, ◌⊎◌, ◌<◌, ◌≤◌, inl, inr, ℕ, zero, suc, false, List, [], ◌∷◌, refl, sym, ap, subst, ◌∙◌, arith, None, Some}
use Rattle.std.specs.Prelude.{Contains, slice_get}
use Rattle.clif_meaning.specs.Instruction.{Argument, Known, CallResult}
use Rattle.clif_meaning.specs.Path.{IsReachable, Place}
use Rattle.clif_meaning.specs.Typing.{EdgesMatch}
use Rattle.clif_meaning.specs.WellPlaced.{WellPlaced, function_code, function_flow, given_on_entry, placed_gives, placed_names, placed_passes, placed_targets}
use Rattle.clif_safepoints.specs.Analysis.{IsReached}
use Rattle.clif_safepoints.specs.Liveness.{IsLiveAcross}
use Rattle.clif_spilling_laws.specs.ExampleParts.{every, only_first, reload_of, the_entry}
use Rattle.clif_spilling_laws.specs.Examples.{SpillingExamples, given_twice, landing_edge, narrows, normal_edge, one_slot, tries, try_blocks, try_spilling, view_with}
use Rattle.clif_spilling_laws.specs.GivesOnce.{GivesOnce}
use Rattle.clif_spilling_laws.specs.Laws.{MaySpill}
use Rattle.clif_spilling_laws.specs.Live.{IsLiveAcrossCall, IsLiveAfter, IsLiveBefore, SharesNoSlot, counted, place_at}
use Rattle.clif_spilling_laws.specs.Rewriting.{IsCopied, IsExactMap, IsKept, IsLandingBlock, IsLedOn, IsLeft, IsNamed, IsRead, IsRewrittenBlock, IsSpilling, Lands}
use Rattle.clif_spilling_laws.specs.Spilling.{IsNew, Reload, SlotAccess, Spilling}
use Rattle.clif_spilling_laws.proofs.Examples.Parts.{alone, exact_first, kept_return, no_way, not_exact, one_of_two, one_reload, reads_copy, shares_nothing, slot_of_first, spills_first}
use Rattle.clif_spilling_laws.proofs.Basics.Lists.{contains_first, contains_more, contains_none, some_same}

abbrev s : Spilling
s = try_spilling

reached_entry : IsReachable (function_flow s.before) (place_at 0 0)
reached_entry = ([], (refl, (refl, omega arith)))

-- the recorded value is passed by the normal edge
live_first : IsLiveAcross (counted every) s.before (place_at 0 0) 0
live_first = (contains_none 0, [], (normal_edge, 0, 0, contains_first normal_edge (record { target = 2; arguments = [] } ∷ []), refl, refl, refl))

across_first : IsLiveAcrossCall every only_first s.before 0
across_first = record {
  place = place_at 0 0;
  reachable = reached_entry;
  placed = tries (0 ∷ []) normal_edge [];
  there = refl;
  shape = narrows;
  call = refl;
  member = refl;
  unaliased = refl;
  live = live_first;
}

-- RELOADS ------------------------------------------------------------------------------------------------------------

new_value : (v : ℕ) → 3 ≤ v → IsNew s (s.after.value_type v) v
new_value v beyond = record { beyond = beyond; typed = refl; itself = refl }

-- the landing block's parameter is neither the copy nor the address of its reload
parameter_apart : (x : Reload) → Contains (reload_of 0 3 4 ∷ []) x → (5 ≡ x.copy → ⊥) × (5 ≡ x.access.address → ⊥)
parameter_apart x h =
    let same = alone (reload_of 0 3 4) x h in (
      λ e. let g : 5 ≡ 4 = e ∙ sym (ap (λ (z : Reload). z.copy) same) in absurd (omega (arith, g)),
      λ e. let g : 5 ≡ 3 = e ∙ sym (ap (λ (z : Reload). z.access.address) same) in absurd (omega (arith, g)),
    )

lands : Lands every s narrows normal_edge landing_edge
lands = record {
  reloads = reload_of 0 3 4 ∷ [];
  are_reloads = one_reload s 0 3 4 refl (new_value 3 (omega arith)) (new_value 4 (omega arith));
  passed = Known 4 ∷ Known 5 ∷ [];
  arguments = refl;
  fresh = ((omega arith, refl, contains_none 5, parameter_apart), tt);
  types = refl;
  landed = (inl (reads_copy s 0 3 4 refl refl refl), (refl, refl));
  items = refl;
}

call_kept : IsKept every s only_first (place_at 0 0) (reload_of 0 6 7 ∷ []) (tries (0 ∷ []) normal_edge []) (tries (7 ∷ []) landing_edge (the_entry ∷ []))
call_kept = record {
  operation = refl;
  controlling = λ aliases. refl;
  operands = (reads_copy s 0 6 7 refl refl refl, tt);
  contexts = refl;
  edges = (inr lands, (inl (record { target = refl; arguments = tt }), tt));
  results = refl;
  stack_map = exact_first s (place_at 0 0) refl live_first;
}

-- BLOCKS ----------------------------------------------------------------------------------------------------------------

call_block : IsRewrittenBlock every s only_first 0
call_block = record {
  parameters = refl;
  items = record {
    stores = record { value = 0; address = 8; region = None } ∷ [];
    are_stores = inl (record { value = refl; address = new_value 8 (omega arith) }, refl);
    rest = _;
    code_is = refl;
    rewritten = record {
      reloads = reload_of 0 6 7 ∷ [];
      are_reloads = one_reload s 0 6 7 refl (new_value 6 (omega arith)) (new_value 7 (omega arith));
      new = tries (7 ∷ []) landing_edge (the_entry ∷ []);
      is_kept = call_kept;
      stores = [];
      are_stores = refl;
      rest = [];
      code_is = refl;
      goes_on = refl;
    };
  };
}

return_block : IsRewrittenBlock every s only_first 1
return_block = record {
  parameters = refl;
  items = record { stores = []; are_stores = refl; rest = _; code_is = refl; rewritten = kept_return s only_first (place_at 1 0) 1 refl refl refl };
}

trap_block : IsRewrittenBlock every s only_first 2
trap_block = record {
  parameters = refl;
  items = record {
    stores = [];
    are_stores = refl;
    rest = _;
    code_is = refl;
    rewritten = record {
      reloads = [];
      are_reloads = tt;
      new = _;
      is_kept = record { operation = refl; controlling = λ aliases. refl; operands = tt; contexts = refl; edges = tt; results = refl; stack_map = refl };
      stores = [];
      are_stores = refl;
      rest = [];
      code_is = refl;
      goes_on = refl;
    };
  };
}

-- no edge leads to block 3
no_target : (b k : ℕ) → Contains (placed_targets (slice_get (try_blocks normal_edge b).items k)) 3 → ⊥
no_target zero zero h = by (one_of_two 1 2 3 h)
  where
    by : (◌≡◌ {A = ℕ} 1 3) ⊎ (◌≡◌ {A = ℕ} 2 3) → ⊥
    by (inl e) = absurd (omega (arith, e))
    by (inr e) = absurd (omega (arith, e))
no_target zero (suc k) h = contains_none 3 h
no_target (suc zero) zero h = contains_none 3 h
no_target (suc zero) (suc k) h = contains_none 3 h
no_target (suc (suc zero)) zero h = contains_none 3 h
no_target (suc (suc zero)) (suc k) h = contains_none 3 h
no_target (suc (suc (suc n))) k h = contains_none 3 h

not_reached : IsReached s.before 3 → ⊥
not_reached (inl entry) = let e : 0 ≡ 3 = some_same 0 3 entry in absurd (omega (arith, e))
not_reached (inr from) = no_target from.0.block from.0.index from.2

rewritten_block : (block : ℕ) → IsReached s.before block → IsRewrittenBlock every s only_first block
rewritten_block zero is = call_block
rewritten_block (suc zero) is = return_block
rewritten_block (suc (suc zero)) is = trap_block
rewritten_block (suc (suc (suc zero))) is = absurd (not_reached is)
rewritten_block (suc (suc (suc (suc n)))) is = record { parameters = refl; items = refl }

landing_block : IsLandingBlock every s 3
landing_block = record {
  no_parameters = refl;
  no_items = refl;
  place = place_at 0 0;
  reachable = reached_entry;
  placed = tries (0 ∷ []) normal_edge [];
  there = refl;
  call = narrows;
  is_call = refl;
  old = normal_edge;
  is_edge = contains_first normal_edge (record { target = 2; arguments = [] } ∷ []);
  new = landing_edge;
  target = refl;
  lands = lands;
}

other_block : (block : ℕ) → (IsReached s.before block → ⊥) → (s.after.blocks block ≡ s.before.blocks block) ⊎ IsLandingBlock every s block
other_block zero none = absurd (none (inl refl))
other_block (suc zero) none = inl refl
other_block (suc (suc zero)) none = inl refl
other_block (suc (suc (suc zero))) none = inr landing_block
other_block (suc (suc (suc (suc n)))) none = inl refl

is_spilling : IsSpilling every s only_first
is_spilling = record {
  text = record { entry = refl; signature = refl; reached = rewritten_block; others = other_block };
  spilled = spills_first s (λ v. refl) across_first;
  slots = slot_of_first s (λ v. refl) (record { slot = _; there = refl; beyond = omega arith; size = refl; align = refl });
  old_slots = (_, refl);
  types = λ v low. refl;
  aliases = λ v low. refl;
}

-- WHAT THE LAW ASKS -----------------------------------------------------------------------------------------------------

-- the block whose parameter a value is
abbrev owner : ℕ → ℕ
owner zero = 0
owner (suc n) = 1

owned : (b v w : ℕ) → b ≡ owner v → v < 3 → v ≡ w → (b ≡ owner w) × (w < 3)
owned b v w is low same = (subst (λ (u : ℕ). b ≡ owner u) same is, subst (λ (u : ℕ). u < 3) same low)

parameter_owner : (b v : ℕ) → Contains (try_blocks normal_edge b).parameters v → (b ≡ owner v) × (v < 3)
parameter_owner zero v h = owned 0 0 v refl (omega arith) (alone 0 v h)
parameter_owner (suc zero) v h = by (one_of_two 1 2 v h)
  where
    by : (1 ≡ v) ⊎ (2 ≡ v) → (1 ≡ owner v) × (v < 3)
    by (inl same) = owned 1 1 v refl (omega arith) same
    by (inr same) = owned 1 2 v refl (omega arith) same
parameter_owner (suc (suc zero)) v h = absurd (contains_none v h)
parameter_owner (suc (suc (suc n))) v h = absurd (contains_none v h)

no_result : (b k v : ℕ) → Contains (placed_gives (slice_get (try_blocks normal_edge b).items k)) v → ⊥
no_result zero zero v h = contains_none v h
no_result zero (suc k) v h = contains_none v h
no_result (suc zero) zero v h = contains_none v h
no_result (suc zero) (suc k) v h = contains_none v h
no_result (suc (suc zero)) zero v h = contains_none v h
no_result (suc (suc zero)) (suc k) v h = contains_none v h
no_result (suc (suc (suc n))) k v h = contains_none v h

no_results : (b k : ℕ) → placed_gives (slice_get (try_blocks normal_edge b).items k) ≡ []
no_results zero zero = refl
no_results zero (suc k) = refl
no_results (suc zero) zero = refl
no_results (suc zero) (suc k) = refl
no_results (suc (suc zero)) zero = refl
no_results (suc (suc zero)) (suc k) = refl
no_results (suc (suc (suc n))) k = refl

gives_once : GivesOnce s.before 3
gives_once = record {
  parameters_below = λ b v h. let is = parameter_owner b v h in is.1;
  results_below = λ p v h. absurd (no_result p.block p.index v h);
  one_block = λ b d v h g. let first = parameter_owner b v h in let second = parameter_owner d v g in first.0 ∙ sym second.0;
  one_place = λ p q v h g. absurd (no_result p.block p.index v h);
  apart = λ b p v h g. no_result p.block p.index v g;
  edges_give_nothing = λ p some. no_results p.block p.index;
}

edges_match : EdgesMatch s.before
edges_match zero = ((refl, (refl, tt)), tt)
edges_match (suc zero) = (tt, tt)
edges_match (suc (suc zero)) = (tt, tt)
edges_match (suc (suc (suc n))) = tt

named_at : (b k x : ℕ) → Contains (placed_names (λ v. v) (slice_get (try_blocks normal_edge b).items k)) x → Contains (given_on_entry (function_code s.before) b k) x
named_at zero zero x h = h
named_at zero (suc k) x h = absurd (contains_none x h)
named_at (suc zero) zero x h = subst (λ (w : ℕ). Contains (1 ∷ 2 ∷ []) w) (alone 1 x h) (contains_first 1 (2 ∷ []))
named_at (suc zero) (suc k) x h = absurd (contains_none x h)
named_at (suc (suc zero)) zero x h = absurd (contains_none x h)
named_at (suc (suc zero)) (suc k) x h = absurd (contains_none x h)
named_at (suc (suc (suc n))) k x h = absurd (contains_none x h)

passed_at : (b k x : ℕ) → Contains (placed_passes (λ v. v) (slice_get (try_blocks normal_edge b).items k)) x → Contains (given_on_entry (function_code s.before) b k) x
passed_at zero zero x h = h
passed_at zero (suc k) x h = absurd (contains_none x h)
passed_at (suc zero) zero x h = absurd (contains_none x h)
passed_at (suc zero) (suc k) x h = absurd (contains_none x h)
passed_at (suc (suc zero)) zero x h = absurd (contains_none x h)
passed_at (suc (suc zero)) (suc k) x h = absurd (contains_none x h)
passed_at (suc (suc (suc n))) k x h = absurd (contains_none x h)

well_placed : WellPlaced s.before
well_placed = record {
  named = λ q x h path walk. inl (named_at q.block q.index x h);
  passed = λ q x h. inr (λ path walk. inl (passed_at q.block q.index x h));
}

may_spill : MaySpill every only_first s
may_spill = record {
  gives_once = gives_once;
  edges_match = edges_match;
  aliases_typed = λ v. refl;
  well_placed = well_placed;
  counts_enough = λ target place param reached uncounted is. absurd (no_way uncounted);
  shares_no_slot = shares_nothing s (λ v. refl);
}

-- WRONG ONES ------------------------------------------------------------------------------------------------------------

two_after : (v : ℕ) → Contains (0 ∷ 1 ∷ []) v → IsLiveAfter every one_slot.before (place_at 0 0) v
two_after v h = (place_at 0 1 ∷ [], (inl (refl, refl, omega arith), contains_none v, inl h))

shared : SharesNoSlot every one_slot → ⊥
shared none =
    let e : 0 ≡ 1 = none.after (place_at 0 0) ([], (refl, (refl, omega arith))) 0 1 refl refl
    (two_after 0 (contains_first 0 (1 ∷ []))) (two_after 1 (contains_more 0 1 (1 ∷ []) (contains_first 1 []))) refl in
    absurd (omega (arith, e))

other_arguments : ◌≡◌ {A = List (Argument ℕ)} (Known 7 ∷ CallResult 0 ∷ []) (CallResult 0 ∷ []) → ⊥
other_arguments e = cc

reload_first : IsLedOn every s (Some narrows) (reload_of 0 6 7 ∷ []) normal_edge (record { target = 1; arguments = Known 7 ∷ CallResult 0 ∷ [] }) → ⊥
reload_first (inr landing) = other_arguments landing.arguments
reload_first (inl straight) = by straight.arguments.0
  where
    how : IsCopied s [] 0 7 ⊎ IsNamed s 0 7 → ⊥
    how (inl copied) = contains_none copied.1 copied.2
    how (inr named) = no_way named.0

    by : IsRead s [] 0 7 ⊎ ((every 1 0 ≡ false) × IsLeft s 0 7) → ⊥
    by (inl read) = how read.how
    by (inr left) = no_way left.0

lacks_entry : IsExactMap every only_first s (place_at 0 0) [] → ⊥
lacks_entry is = not_exact s only_first (place_at 0 0) 0 refl refl live_first is

other_slot : IsRead s (reload_of 1 6 7 ∷ []) 0 7 → ⊥
other_slot read = by read.how
  where
    by : IsCopied s (reload_of 1 6 7 ∷ []) 0 7 ⊎ IsNamed s 0 7 → ⊥
    by (inl copied) =
        let e : 1 ≡ 0 = ap (λ (z : Reload). z.access.value) (alone (reload_of 1 6 7) copied.1 copied.2) ∙ copied.3 in
        absurd (omega (arith, e))
    by (inr named) = no_way named.0

one_or_two : {A : Type 0} (a b c : A) → (a ∷ []) ≡ (b ∷ c ∷ []) → ⊥
one_or_two a b c e = cc

too_few : EdgesMatch (view_with (try_blocks (record { target = 1; arguments = Known 0 ∷ [] })) []) → ⊥
too_few match = let first = match 0 in one_or_two _ _ _ first.0.0

twice : GivesOnce (view_with given_twice []) 1 → ⊥
twice once =
    let same : place_at 0 0 ≡ place_at 0 1 = once.one_place (place_at 0 0) (place_at 0 1) 0 (contains_first 0 []) (contains_first 0 []) in
    let e : 0 ≡ 1 = ap (λ (p : Place ℕ). p.index) same in
    absurd (omega (arith, e))

pub examples : SpillingExamples
examples = record {
  try_call = is_spilling;
  may_spill = may_spill;
  shared = shared;
  before_call = reload_first;
  lacks_entry = lacks_entry;
  no_store = no_store_here;
  other_slot = other_slot;
  too_few = too_few;
  twice = twice;
}
  where
    no_store_here : (⊥ ⊎ ((IsLiveBefore every s.before (place_at 0 0) 0 → ⊥) × (◌≡◌ {A = List SlotAccess} [] []))) → ⊥
    no_store_here (inl none) = none
    no_store_here (inr unneeded) = unneeded.0 (inr live_first)
