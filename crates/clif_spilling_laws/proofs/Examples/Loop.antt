-- The row `loop`: an alias, a loop, and two values that are live at once.
use Rattle.std.proofs.Common.{◌≡◌, ◌⊎◌, ◌<◌, ◌≤◌, ◌+◌, ◌*◌, ◌%◌, ◌^◌, inl, inr, ℕ, zero, suc, true, List, [], ◌∷◌, length, refl, sym, subst, ◌∙◌, arith, Option, Some, None}
use Rattle.std.specs.Prelude.{Contains, slice_get}
use Rattle.std.specs.List.{AllByRecursion}
use Rattle.clif_types.specs.StackSlot.{StackSlotShape}
use Rattle.clif_types.specs.declared.stackmap.UserStackMapEntry.{UserStackMapEntry}
use Rattle.clif_meaning.specs.FunctionMachine.{FunctionState}
use Rattle.clif_meaning.specs.FunctionView.{FunctionView, Placed}
use Rattle.clif_meaning.specs.Instruction.{Edge, Known}
use Rattle.clif_meaning.specs.Path.{IsPath, IsReachable, Leads, Place}
use Rattle.clif_meaning.specs.Typing.{EdgesMatch}
use Rattle.clif_meaning.specs.WellPlaced.{IsGivenAlong, WellPlaced, function_code, function_flow, given_on_entry, placed_at, placed_gives, placed_names, placed_passes, placed_targets}
use Rattle.clif_meaning.specs.World.{World, PlacesSlots}
use Rattle.clif_safepoints.specs.Analysis.{IsReached}
use Rattle.clif_safepoints.specs.Liveness.{IsLiveAcross, IsPassed, IsUsedAhead, used_operands}
use Rattle.clif_typed_runs.specs.ValuesFit.{IsFunctionTyped, IsPlacedTyped}
use Rattle.clif_spilling_laws.specs.ExampleParts.{every, reload_of}
use Rattle.clif_spilling_laws.specs.Laws.{MaySpill}
use Rattle.clif_spilling_laws.specs.Live.{IsLiveAcrossCall, IsSlotOf, SharesNoSlot, counted, place_at}
use Rattle.clif_spilling_laws.specs.LoopExample.{LoopExample, LoopMoves, address_of, branches_on, first_three, loop_blocks, loop_resolved, looping, makes, slot_entry}
use Rattle.clif_spilling_laws.specs.Rewriting.{AreRewritten, IsExactMap, IsLandingBlock, IsRewrittenBlock, IsRewrittenItem, IsSpilling, jump_item}
use Rattle.clif_spilling_laws.specs.Runs.{IsMetBy, SparesHidden, before_run}
use Rattle.clif_spilling_laws.specs.SlotReuseExample.{calls_on, first_two, load_number, returns_nothing}
use Rattle.clif_spilling_laws.specs.Spilling.{IsNew, Spilling, reload_items}
use Rattle.clif_spilling_laws.proofs.Basics.Lists.{contains_first, contains_none, none_some, some_same}
use Rattle.clif_spilling_laws.proofs.Examples.Parts.{alone, exact_one, exact_two, no_way, one_of_two, one_reload, reads_alias}
use Rattle.clif_spilling_laws.proofs.Examples.Straight.{given_in_block}
use Rattle.clif_spilling_laws.proofs.Examples.Worlds.{answering, met_by}
use Rattle.clif_spilling_laws.proofs.Forward.Simulating.{means_the_same}
use Rattle.clif_spilling_laws.proofs.Liveness.Reached.{in_reached}

abbrev s : Spilling
s = looping

abbrev old : FunctionView
old = looping.before

abbrev item_at : ℕ → ℕ → Option Placed
item_at b k = slice_get (loop_blocks b).items k

-- THE FUNCTION, INSTRUCTION BY INSTRUCTION ------------------------------------------------------------------------------

-- in block 1, value 1 is used by the instructions 1 and 2, value 0 by 3 and 4
abbrev IsUse : ℕ → ℕ → ℕ → Type 0
IsUse b k v = (1 ≡ b) × (((1 ≡ v) × (1 ≤ k) × (k ≤ 2)) ⊎ ((0 ≡ v) × (3 ≤ k)))

named_at : (b k v : ℕ) → Contains (placed_names loop_resolved (item_at b k)) v → IsUse b k v
named_at zero zero v h = absurd (contains_none v h)
named_at zero (suc k) v h = absurd (contains_none v h)
named_at (suc zero) zero v h = absurd (contains_none v h)
named_at (suc zero) (suc zero) v h = (refl, inl (alone 1 v h, omega arith, omega arith))
named_at (suc zero) (suc (suc zero)) v h = (refl, inl (alone 1 v h, omega arith, omega arith))
named_at (suc zero) (suc (suc (suc zero))) v h = (refl, inr (alone 0 v h, omega arith))
named_at (suc zero) (suc (suc (suc (suc zero)))) v h = (refl, inr (alone 0 v h, omega arith))
named_at (suc zero) (suc (suc (suc (suc (suc k))))) v h = absurd (contains_none v h)
named_at (suc (suc zero)) zero v h = absurd (contains_none v h)
named_at (suc (suc zero)) (suc k) v h = absurd (contains_none v h)
named_at (suc (suc (suc n))) k v h = absurd (contains_none v h)

-- no instruction has contexts
used_named : (b k : ℕ) → used_operands loop_resolved (item_at b k) ≡ placed_names loop_resolved (item_at b k)
used_named zero zero = refl
used_named zero (suc k) = refl
used_named (suc zero) zero = refl
used_named (suc zero) (suc zero) = refl
used_named (suc zero) (suc (suc zero)) = refl
used_named (suc zero) (suc (suc (suc zero))) = refl
used_named (suc zero) (suc (suc (suc (suc zero)))) = refl
used_named (suc zero) (suc (suc (suc (suc (suc k))))) = refl
used_named (suc (suc zero)) zero = refl
used_named (suc (suc zero)) (suc k) = refl
used_named (suc (suc (suc n))) k = refl

used_at : (b k v : ℕ) → Contains (used_operands loop_resolved (item_at b k)) v → IsUse b k v
used_at b k v h = named_at b k v (subst (λ (xs : List ℕ). Contains xs v) (used_named b k) h)

-- the first call alone gives something, value 1
gives_at : (b k v : ℕ) → Contains (placed_gives (item_at b k)) v → (b ≡ 1) × (k ≡ 0) × (1 ≡ v)
gives_at zero zero v h = absurd (contains_none v h)
gives_at zero (suc k) v h = absurd (contains_none v h)
gives_at (suc zero) zero v h = (refl, refl, alone 1 v h)
gives_at (suc zero) (suc zero) v h = absurd (contains_none v h)
gives_at (suc zero) (suc (suc zero)) v h = absurd (contains_none v h)
gives_at (suc zero) (suc (suc (suc zero))) v h = absurd (contains_none v h)
gives_at (suc zero) (suc (suc (suc (suc zero)))) v h = absurd (contains_none v h)
gives_at (suc zero) (suc (suc (suc (suc (suc k))))) v h = absurd (contains_none v h)
gives_at (suc (suc zero)) zero v h = absurd (contains_none v h)
gives_at (suc (suc zero)) (suc k) v h = absurd (contains_none v h)
gives_at (suc (suc (suc n))) k v h = absurd (contains_none v h)

edges_give_nothing : (b k : ℕ) → (placed_targets (item_at b k) ≡ [] → ⊥) → placed_gives (item_at b k) ≡ []
edges_give_nothing zero zero some = refl
edges_give_nothing zero (suc k) some = refl
edges_give_nothing (suc zero) zero some = absurd (some refl)
edges_give_nothing (suc zero) (suc zero) some = refl
edges_give_nothing (suc zero) (suc (suc zero)) some = refl
edges_give_nothing (suc zero) (suc (suc (suc zero))) some = refl
edges_give_nothing (suc zero) (suc (suc (suc (suc zero)))) some = refl
edges_give_nothing (suc zero) (suc (suc (suc (suc (suc k))))) some = refl
edges_give_nothing (suc (suc zero)) zero some = refl
edges_give_nothing (suc (suc zero)) (suc k) some = refl
edges_give_nothing (suc (suc (suc n))) k some = refl

-- nothing is passed
passes_none : (b k v : ℕ) → Contains (placed_passes loop_resolved (item_at b k)) v → ⊥
passes_none zero zero v h = contains_none v h
passes_none zero (suc k) v h = contains_none v h
passes_none (suc zero) zero v h = contains_none v h
passes_none (suc zero) (suc zero) v h = contains_none v h
passes_none (suc zero) (suc (suc zero)) v h = contains_none v h
passes_none (suc zero) (suc (suc (suc zero))) v h = contains_none v h
passes_none (suc zero) (suc (suc (suc (suc zero)))) v h = contains_none v h
passes_none (suc zero) (suc (suc (suc (suc (suc k))))) v h = contains_none v h
passes_none (suc (suc zero)) zero v h = contains_none v h
passes_none (suc (suc zero)) (suc k) v h = contains_none v h
passes_none (suc (suc (suc n))) k v h = contains_none v h

no_argument : {X : Type 0} (place : ℕ) (x : X) → slice_get [] place ≡ Some x → ⊥
no_argument zero x e = none_some x e
no_argument (suc place) x e = none_some x e

is_passed_nowhere : (b k v : ℕ) → IsPassed (counted every) loop_resolved v (item_at b k) → ⊥
is_passed_nowhere zero zero v h =
    no_argument h.1 (Known h.2) (subst (λ (edge : Edge ℕ ℕ). slice_get edge.arguments h.1 ≡ Some (Known h.2)) (sym (alone (record { target = 1; arguments = [] }) h.0 h.3)) h.4)
is_passed_nowhere zero (suc k) v h = h
is_passed_nowhere (suc zero) zero v h = contains_none h.0 h.3
is_passed_nowhere (suc zero) (suc zero) v h = contains_none h.0 h.3
is_passed_nowhere (suc zero) (suc (suc zero)) v h = contains_none h.0 h.3
is_passed_nowhere (suc zero) (suc (suc (suc zero))) v h = contains_none h.0 h.3
is_passed_nowhere (suc zero) (suc (suc (suc (suc zero)))) v h = by (one_of_two (record { target = 1; arguments = [] }) (record { target = 2; arguments = [] }) h.0 h.3)
  where
    by : (record { target = 1; arguments = [] } ≡ h.0) ⊎ (record { target = 2; arguments = [] } ≡ h.0) → ⊥
    by (inl same) = no_argument h.1 (Known h.2) (subst (λ (edge : Edge ℕ ℕ). slice_get edge.arguments h.1 ≡ Some (Known h.2)) (sym same) h.4)
    by (inr same) = no_argument h.1 (Known h.2) (subst (λ (edge : Edge ℕ ℕ). slice_get edge.arguments h.1 ≡ Some (Known h.2)) (sym same) h.4)
is_passed_nowhere (suc zero) (suc (suc (suc (suc (suc k))))) v h = h
is_passed_nowhere (suc (suc zero)) zero v h = contains_none h.0 h.3
is_passed_nowhere (suc (suc zero)) (suc k) v h = h
is_passed_nowhere (suc (suc (suc n))) k v h = h

is_parameter : (b v : ℕ) → Contains (loop_blocks b).parameters v → (b ≡ 0) × (0 ≡ v)
is_parameter zero v h = (refl, alone 0 v h)
is_parameter (suc zero) v h = absurd (contains_none v h)
is_parameter (suc (suc zero)) v h = absurd (contains_none v h)
is_parameter (suc (suc (suc n))) v h = absurd (contains_none v h)

-- WHAT IS LIVE ----------------------------------------------------------------------------------------------------------

-- value 1 is live in block 1 alone, after the instructions 0 and 1
second_ahead : (path : List (Place ℕ)) (p : Place ℕ) → IsUsedAhead (counted every) old 1 p path → (p.block ≡ 1) × (p.index < 2)
second_ahead [] p passed = absurd (is_passed_nowhere p.block p.index 1 passed)
second_ahead (q ∷ path) p used = by used.2 (second_ahead path q)
  where
    -- it goes on in the block, unless at its first instruction
    from : Leads (function_flow old) p q → q.block ≡ 1 → 1 ≤ q.index → q.index ≤ 2 → (p.block ≡ 1) × (p.index < 2)
    from (inl next) block low high = (sym next.0 ∙ block, (let e = next.1 in omega (arith, e, low, high)))
    from (inr other) block low high = absurd (let e = other.1.0 in omega (arith, e, low))

    here : IsUse q.block q.index 1 → (p.block ≡ 1) × (p.index < 2)
    here (block, inl used_there) = from used.0 (sym block) used_there.1 used_there.2
    here (block, inr first) = absurd (let e = first.0 in omega (arith, e))

    order : (k : ℕ) → (k ≡ 0) ⊎ (1 ≤ k)
    order k = grind arith

    later_in : (Contains (placed_gives (placed_at old q)) 1 → ⊥) → (q.block ≡ 1) × (q.index < 2) → (p.block ≡ 1) × (p.index < 2)
    later_in none is = which (order q.index)
      where
        which : (q.index ≡ 0) ⊎ (1 ≤ q.index) → (p.block ≡ 1) × (p.index < 2)
        which (inl first) =
            absurd (none (subst (λ (b : ℕ). Contains (placed_gives (item_at b q.index)) 1) (sym is.0)
            (subst (λ (k : ℕ). Contains (placed_gives (item_at 1 k)) 1) (sym first) (contains_first 1 []))))
        which (inr low) = from used.0 is.0 low (let high = is.1 in omega (arith, high))

    by : Contains (used_operands loop_resolved (placed_at old q)) 1
        ⊎ ((Contains (placed_gives (placed_at old q)) 1 → ⊥) × IsUsedAhead (counted every) old 1 q path)
        → (IsUsedAhead (counted every) old 1 q path → (q.block ≡ 1) × (q.index < 2)) → (p.block ≡ 1) × (p.index < 2)
    by (inl there) later = here (used_at q.block q.index 1 there)
    by (inr more) later = later_in more.0 (later more.1)

on : (k : ℕ) → suc k < length (loop_blocks 1).items → Leads (function_flow old) (place_at 1 k) (place_at 1 (suc k))
on k inside = inl (refl, one_on k, inside)
  where
    one_on : (k : ℕ) → suc k ≡ k + 1
    one_on k = omega arith

-- from each call on, value 0 is used ahead
abbrev Ahead : ℕ → Type 0
Ahead k = (path : List (Place ℕ)) × IsUsedAhead (counted every) old 0 (place_at 1 k) path

further : (k : ℕ) → suc k < length (loop_blocks 1).items → (Contains (placed_gives (item_at 1 (suc k))) 0 → ⊥) → Ahead (suc k) → Ahead k
further k inside none more = (place_at 1 (suc k) ∷ more.0, (on k inside, contains_none 0, inr (none, more.1)))

before_third : Ahead 2
before_third = (place_at 1 3 ∷ [], (on 2 (omega arith), contains_none 0, inl (contains_first 0 [])))

first_ahead : (k : ℕ) → k < 4 → Ahead k
first_ahead zero few = further 0 (omega arith) (contains_none 0) (further 1 (omega arith) (contains_none 0) before_third)
first_ahead (suc zero) few = further 1 (omega arith) (contains_none 0) before_third
first_ahead (suc (suc zero)) few = before_third
first_ahead (suc (suc (suc zero))) few = (place_at 1 4 ∷ [], (on 3 (omega arith), contains_none 0, inl (contains_first 0 [])))
first_ahead (suc (suc (suc (suc k)))) few = absurd (omega (arith, few))

first_lives : (k : ℕ) → k < 4 → (Contains (placed_gives (item_at 1 k)) 0 → ⊥) → IsLiveAcross (counted every) old (place_at 1 k) 0
first_lives k few none = let more = first_ahead k few in (none, more.0, more.1)

not_given : (k : ℕ) → Contains (placed_gives (item_at 1 k)) 0 → ⊥
not_given k h = let is = gives_at 1 k 0 h in let e = is.2 in omega (arith, e)

second_lives : IsLiveAcross (counted every) old (place_at 1 1) 1
second_lives = (contains_none 1, place_at 1 2 ∷ [], (on 1 (omega arith), contains_none 1, inl (contains_first 1 [])))

-- STACK MAPS ------------------------------------------------------------------------------------------------------------

abbrev LivesOn : ℕ → ℕ → Type 0
LivesOn k w = (first_three w ≡ true) × (loop_resolved w ≡ w) × IsLiveAcross (counted every) old (place_at 1 k) w

-- the alias is in no map
no_alias : {P : Type 0} → ◌≡◌ {A = ℕ} 0 2 → P
no_alias e = absurd (omega (arith, e))

first_alone_lives : (k : ℕ) → (IsLiveAcross (counted every) old (place_at 1 k) 1 → ⊥) → (w : ℕ) → LivesOn k w → 0 ≡ w
first_alone_lives k none zero lives = refl
first_alone_lives k none (suc zero) lives = absurd (none lives.2)
first_alone_lives k none (suc (suc zero)) lives = no_alias lives.1
first_alone_lives k none (suc (suc (suc n))) lives = absurd (no_way (sym lives.0))

one_entry : (k : ℕ) → k < 4 → (IsLiveAcross (counted every) old (place_at 1 k) 1 → ⊥) → IsExactMap every first_three s (place_at 1 k) (slot_entry 0 ∷ [])
one_entry k few none = exact_one every s first_three (place_at 1 k) 0 (refl, refl, first_lives k few (not_given k)) (first_alone_lives k none)

two_entries : IsExactMap every first_three s (place_at 1 1) (slot_entry 0 ∷ slot_entry 1 ∷ [])
two_entries = exact_two every s first_three (place_at 1 1) 0 1 (omega arith) (refl, refl, first_lives 1 (omega arith) (not_given 1)) (refl, refl, second_lives) both
  where
    both : (w : ℕ) → LivesOn 1 w → (0 ≡ w) ⊎ (1 ≡ w)
    both zero lives = inl refl
    both (suc zero) lives = inr refl
    both (suc (suc zero)) lives = no_alias lives.1
    both (suc (suc (suc n))) lives = absurd (no_way (sym lives.0))

gone : (k : ℕ) → 2 ≤ k → IsLiveAcross (counted every) old (place_at 1 k) 1 → ⊥
gone k past live = let is = second_ahead live.1 (place_at 1 k) live.2 in let low = is.1 in omega (arith, low, past)

-- WHAT THE INSTRUCTIONS BECOME ------------------------------------------------------------------------------------------

new_value : (v : ℕ) → 3 ≤ v → loop_resolved v ≡ v → IsNew s (s.after.value_type v) v
new_value v beyond itself = record { beyond = beyond; typed = refl; itself = itself }

called : (k operand value address copy : ℕ) (entries : List UserStackMapEntry) (Rest : List Placed → Type 0) (rest : List Placed)
    → s.is_spilled value ≡ true → loop_resolved operand ≡ value → IsNew s s.pointer address → IsNew s (s.before.value_type value) copy
    → s.after.value_type copy ≡ s.before.value_type operand → IsExactMap every first_three s (place_at 1 k) entries → Rest rest
    → IsRewrittenItem every s first_three (place_at 1 k) Rest (calls_on operand [])
    (reload_items s (reload_of value address copy ∷ []) (calls_on copy entries ∷ rest))
called k operand value address copy entries Rest rest spilled named new_address new_copy typed exact goes_on = record {
  reloads = reload_of value address copy ∷ [];
  are_reloads = one_reload s value address copy spilled new_address new_copy;
  new = calls_on copy entries;
  is_kept = record {
    operation = refl;
    controlling = λ aliases. refl;
    operands = (reads_alias s operand value address copy spilled named typed, tt);
    contexts = refl;
    edges = tt;
    results = refl;
    stack_map = exact;
  };
  stores = [];
  are_stores = refl;
  rest = rest;
  code_is = refl;
  goes_on = goes_on;
}

branched : AreRewritten every s first_three 1 4 (branches_on 2 ∷ []) (address_of 0 3 ∷ load_number 3 4 ∷ branches_on 4 ∷ [])
branched = record {
  reloads = reload_of 0 3 4 ∷ [];
  are_reloads = one_reload s 0 3 4 refl (new_value 3 (omega arith) refl) (new_value 4 (omega arith) refl);
  new = branches_on 4;
  is_kept = record {
    operation = refl;
    controlling = λ aliases. refl;
    operands = (reads_alias s 2 0 3 4 refl refl refl, tt);
    contexts = refl;
    edges = (record { target = refl; arguments = tt }, (record { target = refl; arguments = tt }, tt));
    results = refl;
    stack_map = refl;
  };
  stores = [];
  are_stores = refl;
  rest = [];
  code_is = refl;
  goes_on = refl;
}

body : IsRewrittenBlock every s first_three 1
body = record {
  parameters = refl;
  items = record {
    stores = [];
    are_stores = refl;
    rest = _;
    code_is = refl;
    rewritten = record {
      reloads = [];
      are_reloads = tt;
      new = makes 1 (slot_entry 0 ∷ []);
      is_kept = record {
        operation = refl;
        controlling = λ aliases. refl;
        operands = tt;
        contexts = refl;
        edges = tt;
        results = refl;
        stack_map = one_entry 0 (omega arith) (λ live. live.0 (contains_first 1 []));
      };
      stores = record { value = 1; address = 11; region = None } ∷ [];
      are_stores = inl (record { value = refl; address = new_value 11 (omega arith) refl }, refl);
      rest = _;
      code_is = refl;
      goes_on =
          called 1 1 1 9 10 (slot_entry 0 ∷ slot_entry 1 ∷ []) _ _ refl refl (new_value 9 (omega arith) refl) (new_value 10 (omega arith) refl) refl two_entries
          (called 2 1 1 7 8 (slot_entry 0 ∷ []) _ _ refl refl (new_value 7 (omega arith) refl) (new_value 8 (omega arith) refl) refl
          (one_entry 2 (omega arith) (gone 2 (omega arith)))
          (called 3 2 0 5 6 (slot_entry 0 ∷ []) _ _ refl refl (new_value 5 (omega arith) refl) (new_value 6 (omega arith) refl) refl
          (one_entry 3 (omega arith) (gone 3 (omega arith))) branched));
    };
  };
}

start : IsRewrittenBlock every s first_three 0
start = record {
  parameters = refl;
  items = record {
    stores = record { value = 0; address = 12; region = None } ∷ [];
    are_stores = inl (record { value = refl; address = new_value 12 (omega arith) refl }, refl);
    rest = _;
    code_is = refl;
    rewritten = record {
      reloads = [];
      are_reloads = tt;
      new = jump_item 1 [];
      is_kept = record {
        operation = refl;
        controlling = λ aliases. refl;
        operands = tt;
        contexts = refl;
        edges = (record { target = refl; arguments = tt }, tt);
        results = refl;
        stack_map = refl;
      };
      stores = [];
      are_stores = refl;
      rest = [];
      code_is = refl;
      goes_on = refl;
    };
  };
}

last : IsRewrittenBlock every s first_three 2
last = record {
  parameters = refl;
  items = record {
    stores = [];
    are_stores = refl;
    rest = _;
    code_is = refl;
    rewritten = record {
      reloads = [];
      are_reloads = tt;
      new = returns_nothing;
      is_kept = record { operation = refl; controlling = λ aliases. refl; operands = tt; contexts = refl; edges = tt; results = refl; stack_map = refl };
      stores = [];
      are_stores = refl;
      rest = [];
      code_is = refl;
      goes_on = refl;
    };
  };
}

rewritten_block : (block : ℕ) → IsReached old block → IsRewrittenBlock every s first_three block
rewritten_block zero is = start
rewritten_block (suc zero) is = body
rewritten_block (suc (suc zero)) is = last
rewritten_block (suc (suc (suc n))) is = record { parameters = refl; items = refl }

-- block 1 is reached, by the jump
reached_body : IsReached old 1
reached_body = inr (place_at 0 0, ([], (refl, (refl, omega arith))), contains_first 1 [])

reach : (k : ℕ) → k < length (loop_blocks 1).items → IsReachable (function_flow old) (place_at 1 k)
reach k inside = in_reached old 1 reached_body k inside

other_block : (block : ℕ) → (IsReached old block → ⊥) → (s.after.blocks block ≡ old.blocks block) ⊎ IsLandingBlock every s block
other_block zero none = absurd (none (inl refl))
other_block (suc zero) none = absurd (none reached_body)
other_block (suc (suc zero)) none = inl refl
other_block (suc (suc (suc n))) none = inl refl

spilled_across : (v : ℕ) → first_two v ≡ true → IsLiveAcrossCall every first_three old v
spilled_across zero is = record {
  place = place_at 1 3;
  reachable = reach 3 (omega arith);
  placed = calls_on 2 [];
  there = refl;
  shape = _;
  call = refl;
  member = refl;
  unaliased = refl;
  live = first_lives 3 (omega arith) (not_given 3);
}
spilled_across (suc zero) is = record {
  place = place_at 1 1;
  reachable = reach 1 (omega arith);
  placed = calls_on 1 [];
  there = refl;
  shape = _;
  call = refl;
  member = refl;
  unaliased = refl;
  live = second_lives;
}
spilled_across (suc (suc v)) is = absurd (no_way (sym is))

is_spilled : (v : ℕ) → first_three v ≡ true → loop_resolved v ≡ v → first_two v ≡ true
is_spilled zero member itself = refl
is_spilled (suc zero) member itself = refl
is_spilled (suc (suc zero)) member itself = no_alias itself
is_spilled (suc (suc (suc n))) member itself = absurd (no_way (sym member))

has_slot : (v : ℕ) → first_two v ≡ true → IsSlotOf s v
has_slot zero is = record { slot = _; there = refl; beyond = omega arith; size = refl; align = refl }
has_slot (suc zero) is = record { slot = _; there = refl; beyond = omega arith; size = refl; align = refl }
has_slot (suc (suc v)) is = absurd (no_way (sym is))

is_spilling : IsSpilling every s first_three
is_spilling = record {
  text = record { entry = refl; signature = refl; reached = rewritten_block; others = other_block };
  spilled = λ v. (spilled_across v, λ lives. is_spilled v lives.member lives.unaliased);
  slots = has_slot;
  old_slots = (_, refl);
  types = λ v low. refl;
  aliases = λ v low. refl;
}

-- WHAT THE LAW ASKS OF THE FUNCTION -------------------------------------------------------------------------------------

-- each path from the entry comes in by the parameter
parameter_along : (path : List (Place ℕ)) (p : Place ℕ) → IsPath (function_flow old) (p ∷ path) → IsGivenAlong (function_code old) 0 (p ∷ path)
parameter_along [] p walk =
    inr (inl (subst (λ (b : ℕ). Contains (given_on_entry (function_code old) b p.index) 0) (some_same 0 p.block walk.0)
    (subst (λ (k : ℕ). Contains (given_on_entry (function_code old) 0 k) 0) (sym walk.1.0) (contains_first 0 []))))
parameter_along (q ∷ path) p walk = inr (inr (parameter_along path q walk.1))

given_first : (q : Place ℕ) (path : List (Place ℕ)) → IsPath (function_flow old) (q ∷ path) → 1 ≡ q.block → IsGivenAlong (function_code old) 0 path
given_first q [] walk block = absurd (let e : 0 ≡ q.block = some_same 0 q.block walk.0 in omega (arith, e, block))
given_first q (p ∷ path) walk block = parameter_along path p walk.1

well_placed : WellPlaced old
well_placed = record {
  named = λ q x h path walk. inr (by q x path walk (named_at q.block q.index x h));
  passed = λ q x h. absurd (passes_none q.block q.index x h);
}
  where
    by : (q : Place ℕ) (x : ℕ) (path : List (Place ℕ)) → IsPath (function_flow old) (q ∷ path) → IsUse q.block q.index x → IsGivenAlong (function_code old) x path
    by q x path walk (block, inl second) =
        given_in_block old x 1 0 (subst (λ (w : ℕ). Contains (1 ∷ []) w) second.0 (contains_first 1 [])) q path walk (sym block) (let low = second.1 in omega (arith, low))
    by q x path walk (block, inr first) = subst (λ (w : ℕ). IsGivenAlong (function_code old) w path) first.0 (given_first q path walk block)

edges_match : EdgesMatch old
edges_match zero = ((refl, tt), tt)
edges_match (suc zero) = (tt, (tt, (tt, (tt, ((refl, (refl, tt)), tt)))))
edges_match (suc (suc zero)) = (tt, tt)
edges_match (suc (suc (suc n))) = tt

aliases_typed : (v : ℕ) → old.value_type (loop_resolved v) ≡ old.value_type v
aliases_typed zero = refl
aliases_typed (suc zero) = refl
aliases_typed (suc (suc zero)) = refl
aliases_typed (suc (suc (suc n))) = refl

one_place : (p q : Place ℕ) (v : ℕ) → Contains (placed_gives (placed_at old p)) v → Contains (placed_gives (placed_at old q)) v → p ≡ q
one_place p q v h g =
    let first = gives_at p.block p.index v h in
    let second = gives_at q.block q.index v g in
    λ i. record { block = (first.0 ∙ sym second.0) i; index = (first.1 ∙ sym second.1) i }

may_spill : MaySpill every first_three s
may_spill = record {
  gives_once = record {
    parameters_below = λ b v h. let is = is_parameter b v h in subst (λ (w : ℕ). w < 3) is.1 (omega arith);
    results_below = λ p v h. let is = gives_at p.block p.index v h in subst (λ (w : ℕ). w < 3) is.2 (omega arith);
    one_block = λ b d v h g. let first = is_parameter b v h in let second = is_parameter d v g in first.0 ∙ sym second.0;
    one_place = one_place;
    apart = λ b p v h g. let first = is_parameter b v h in let second = gives_at p.block p.index v g in let e : 0 ≡ 1 = first.1 ∙ sym second.2 in omega (arith, e);
    edges_give_nothing = λ p some. edges_give_nothing p.block p.index some;
  };
  edges_match = edges_match;
  aliases_typed = aliases_typed;
  well_placed = well_placed;
  counts_enough = λ target place param reached unread is. absurd (no_way unread);
  shares_no_slot = record {
    before = λ p reachable v w first second live_v live_w same. same;
    after = λ p reachable v w first second live_v live_w same. same;
  };
}

-- with one slot, two values that are live after the second call share it
one_slot : SharesNoSlot every (record looping { slot_of = λ v. 0 }) → ⊥
one_slot none =
    let e : 0 ≡ 1 = none.after (place_at 1 1) (reach 1 (omega arith)) 0 1 refl refl (first_ahead 1 (omega arith)) (second_lives.1, second_lives.2) refl in
    omega (arith, e)

-- THE WORLD -------------------------------------------------------------------------------------------------------------

abbrev world : World
world = answering 5 (64 ∷ [])

abbrev the_slot : StackSlotShape
the_slot = record { size = 4; align_shift = 2 }

two_slots : (n : ℕ) (slot : StackSlotShape) → slice_get (the_slot ∷ the_slot ∷ []) n ≡ Some slot → (n < 2) × (the_slot ≡ slot)
two_slots zero slot is = (omega arith, some_same the_slot slot is)
two_slots (suc zero) slot is = (omega arith, some_same the_slot slot is)
two_slots (suc (suc zero)) slot is = absurd (none_some slot is)
two_slots (suc (suc (suc n))) slot is = absurd (none_some slot is)

places : PlacesSlots world (the_slot ∷ the_slot ∷ [])
places = record {
  aligned = λ n slot is.
      let only = two_slots n slot is in subst (λ (x : StackSlotShape). (1000 + 4 * n) % 2 ^ x.align_shift ≡ 0) only.1 (aligned n only.0);
  accessible = λ n slot k is few. refl;
  within = λ n slot is.
      let only = two_slots n slot is in
      subst (λ (x : StackSlotShape). 1000 + 4 * n + x.size ≤ 2 ^ 64) only.1 (let low = only.0 in omega (arith, low));
  apart = λ n m slot other k l is is_other differ few fewer same.
      let first = two_slots n slot is in
      let second = two_slots m other is_other in
      differ (same_number n m k l (subst (λ (x : StackSlotShape). k < x.size) (sym first.1) few) (subst (λ (x : StackSlotShape). l < x.size) (sym second.1) fewer) same);
}
  where
    aligned : (n : ℕ) → n < 2 → (1000 + 4 * n) % 4 ≡ 0
    aligned zero low = refl
    aligned (suc zero) low = refl
    aligned (suc (suc n)) low = absurd (omega (arith, low))

    same_number : (n m k l : ℕ) → k < 4 → l < 4 → 1000 + 4 * n + k ≡ 1000 + 4 * m + l → n ≡ m
    same_number n m k l few fewer same = omega (arith, few, fewer, same)

typed : IsFunctionTyped (before_run s first_three world)
typed = record { aliases = aliases_typed; items = items; entry = ([], refl); arguments = (omega arith, tt) }
  where
    items : (block : ℕ) → AllByRecursion (IsPlacedTyped old) (loop_blocks block).items
    items zero = (record { takes = record { made_at = refl; operands = tt; edges = (refl, tt) }; gives = refl }, tt)
    items (suc zero) = (
      record { takes = record { made_at = refl; operands = (tt, refl); edges = tt }; gives = refl },
      (
        record { takes = record { made_at = refl; operands = (tt, refl); edges = tt }; gives = refl },
        (
          record { takes = record { made_at = refl; operands = (tt, refl); edges = tt }; gives = refl },
          (
            record { takes = record { made_at = refl; operands = (tt, refl); edges = tt }; gives = refl },
            (record { takes = record { made_at = refl; operands = (refl, tt); edges = (refl, (refl, tt)) }; gives = refl }, tt),
          ),
        ),
      ),
    )
    items (suc (suc zero)) = (record { takes = record { made_at = refl; operands = refl; edges = tt }; gives = refl }, tt)
    items (suc (suc (suc n))) = tt

spares : (block : ℕ) → AllByRecursion (λ (placed : Placed). (state : FunctionState) → SparesHidden (before_run s first_three world) state placed)
    (loop_blocks block).items
spares zero = (λ state. tt, tt)
spares (suc zero) = (λ state. tt, (λ state. tt, (λ state. tt, (λ state. tt, (λ state. tt, tt)))))
spares (suc (suc zero)) = (λ state. tt, tt)
spares (suc (suc (suc n))) = tt

met : IsMetBy first_three s world
met = met_by first_three s world refl places typed spares

moves : LoopMoves world
moves = record { met = met; before = refl; after = refl; same = means_the_same every first_three s world is_spilling may_spill met }

pub loop_example : LoopExample
loop_example = record { spilling = is_spilling; may_spill = may_spill; a_world = (world, moves); one_slot = one_slot }
