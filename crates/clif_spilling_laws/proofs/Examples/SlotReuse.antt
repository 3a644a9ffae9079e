-- The row `slot_reuse`: it is a spilling, its two values live one after the other, and there is a world.
use Rattle.std.proofs.Common.{◌≡◌, ◌⊎◌, ◌<◌, ◌≤◌, ◌+◌, inl, inr, ℕ, zero, suc, Bool, true, false, List, [], ◌∷◌, length, refl, sym, subst, ◌∙◌, arith, Option, None}
use Rattle.std.specs.Prelude.{Contains, slice_get}
use Rattle.std.specs.List.{AllByRecursion}
use Rattle.clif_types.specs.declared.stackmap.UserStackMapEntry.{UserStackMapEntry}
use Rattle.clif_meaning.specs.FunctionMachine.{FunctionState}
use Rattle.clif_meaning.specs.FunctionView.{Placed}
use Rattle.clif_meaning.specs.Path.{IsPath, Leads, Place}
use Rattle.clif_meaning.specs.Typing.{EdgesMatch}
use Rattle.clif_meaning.specs.WellPlaced.{IsGivenAlong, WellPlaced, function_code, function_flow, placed_at, placed_gives, placed_names, placed_passes, placed_targets}
use Rattle.clif_meaning.specs.World.{World}
use Rattle.clif_safepoints.specs.Analysis.{IsReached}
use Rattle.clif_safepoints.specs.Liveness.{IsLiveAcross, IsPassed, IsUsedAhead, used_operands}
use Rattle.clif_typed_runs.specs.ValuesFit.{IsFunctionTyped, IsPlacedTyped}
use Rattle.clif_spilling_laws.specs.ExampleParts.{every, reload_of}
use Rattle.clif_spilling_laws.specs.Laws.{MaySpill}
use Rattle.clif_spilling_laws.specs.Live.{IsLiveAcrossCall, IsLiveAfter, IsLiveBefore, IsSlotOf, counted, place_at}
use Rattle.clif_spilling_laws.specs.Rewriting.{AreRewritten, IsExactMap, IsLandingBlock, IsRewrittenBlock, IsRewrittenItem, IsSpilling}
use Rattle.clif_spilling_laws.specs.Runs.{IsMetBy, SparesHidden, before_run}
use Rattle.clif_spilling_laws.specs.SlotReuseExample.{SlotIsReused, SlotReuseExample, calls_on, first_two, gives_number, number_entry, pairs_of_calls, returns_nothing, reuse}
use Rattle.clif_spilling_laws.specs.Spilling.{IsNew, IsStore, IsStoredIf, Spilling, reload_items, store_items}
use Rattle.clif_spilling_laws.proofs.Examples.Parts.{alone, exact_none, exact_one, no_way, one_reload, reads_copy}
use Rattle.clif_spilling_laws.proofs.Examples.Straight.{given_along, goes_next, in_entry, reach}
use Rattle.clif_spilling_laws.proofs.Examples.Worlds.{met_by, passing, places_one}
use Rattle.clif_spilling_laws.proofs.Basics.Lists.{contains_first, contains_none}
use Rattle.clif_spilling_laws.proofs.Forward.Simulating.{means_the_same}

abbrev s : Spilling
s = reuse

abbrev item_at : ℕ → ℕ → Option Placed
item_at b k = slice_get (pairs_of_calls b).items k

-- THE BLOCK, INSTRUCTION BY INSTRUCTION ---------------------------------------------------------------------------------

leads_nowhere : (p : Place ℕ) → placed_targets (placed_at s.before p) ≡ []
leads_nowhere p = by p.block p.index
  where
    by : (b k : ℕ) → placed_targets (item_at b k) ≡ []
    by zero zero = refl
    by zero (suc zero) = refl
    by zero (suc (suc zero)) = refl
    by zero (suc (suc (suc zero))) = refl
    by zero (suc (suc (suc (suc zero)))) = refl
    by zero (suc (suc (suc (suc (suc zero))))) = refl
    by zero (suc (suc (suc (suc (suc (suc zero)))))) = refl
    by zero (suc (suc (suc (suc (suc (suc (suc k))))))) = refl
    by (suc n) k = refl

-- value 0 is used by the instructions 1 and 2, value 1 by 4 and 5
abbrev IsUse : ℕ → ℕ → Type 0
IsUse k v = ((0 ≡ v) × (1 ≤ k) × (k ≤ 2)) ⊎ ((1 ≡ v) × (4 ≤ k) × (k ≤ 5))

named_at : (b k v : ℕ) → Contains (placed_names (λ x. x) (item_at b k)) v → IsUse k v
named_at zero zero v h = absurd (contains_none v h)
named_at zero (suc zero) v h = inl (alone 0 v h, omega arith, omega arith)
named_at zero (suc (suc zero)) v h = inl (alone 0 v h, omega arith, omega arith)
named_at zero (suc (suc (suc zero))) v h = absurd (contains_none v h)
named_at zero (suc (suc (suc (suc zero)))) v h = inr (alone 1 v h, omega arith, omega arith)
named_at zero (suc (suc (suc (suc (suc zero))))) v h = inr (alone 1 v h, omega arith, omega arith)
named_at zero (suc (suc (suc (suc (suc (suc zero)))))) v h = absurd (contains_none v h)
named_at zero (suc (suc (suc (suc (suc (suc (suc k))))))) v h = absurd (contains_none v h)
named_at (suc n) k v h = absurd (contains_none v h)

-- no instruction has contexts
used_named : (b k : ℕ) → used_operands (λ x. x) (item_at b k) ≡ placed_names (λ x. x) (item_at b k)
used_named zero zero = refl
used_named zero (suc zero) = refl
used_named zero (suc (suc zero)) = refl
used_named zero (suc (suc (suc zero))) = refl
used_named zero (suc (suc (suc (suc zero)))) = refl
used_named zero (suc (suc (suc (suc (suc zero))))) = refl
used_named zero (suc (suc (suc (suc (suc (suc zero)))))) = refl
used_named zero (suc (suc (suc (suc (suc (suc (suc k))))))) = refl
used_named (suc n) k = refl

used_at : (b k v : ℕ) → Contains (used_operands (λ x. x) (item_at b k)) v → IsUse k v
used_at b k v h = named_at b k v (subst (λ (xs : List ℕ). Contains xs v) (used_named b k) h)

-- value 0 is given by instruction 0, value 1 by 3
abbrev giver : ℕ → ℕ
giver zero = 0
giver (suc v) = 3

gives_at : (b k v : ℕ) → Contains (placed_gives (item_at b k)) v → (b ≡ 0) × (k ≡ giver v) × (v < 2)
gives_at zero zero v h = let is = alone 0 v h in (refl, subst (λ (w : ℕ). 0 ≡ giver w) is refl, subst (λ (w : ℕ). w < 2) is (omega arith))
gives_at zero (suc zero) v h = absurd (contains_none v h)
gives_at zero (suc (suc zero)) v h = absurd (contains_none v h)
gives_at zero (suc (suc (suc zero))) v h = let is = alone 1 v h in (refl, subst (λ (w : ℕ). 3 ≡ giver w) is refl, subst (λ (w : ℕ). w < 2) is (omega arith))
gives_at zero (suc (suc (suc (suc zero)))) v h = absurd (contains_none v h)
gives_at zero (suc (suc (suc (suc (suc zero))))) v h = absurd (contains_none v h)
gives_at zero (suc (suc (suc (suc (suc (suc zero)))))) v h = absurd (contains_none v h)
gives_at zero (suc (suc (suc (suc (suc (suc (suc k))))))) v h = absurd (contains_none v h)
gives_at (suc n) k v h = absurd (contains_none v h)

-- nothing is passed
passes_none : (b k v : ℕ) → IsPassed (counted every) (λ x. x) v (item_at b k) → ⊥
passes_none zero zero v h = contains_none h.0 h.3
passes_none zero (suc zero) v h = contains_none h.0 h.3
passes_none zero (suc (suc zero)) v h = contains_none h.0 h.3
passes_none zero (suc (suc (suc zero))) v h = contains_none h.0 h.3
passes_none zero (suc (suc (suc (suc zero)))) v h = contains_none h.0 h.3
passes_none zero (suc (suc (suc (suc (suc zero))))) v h = contains_none h.0 h.3
passes_none zero (suc (suc (suc (suc (suc (suc zero)))))) v h = contains_none h.0 h.3
passes_none zero (suc (suc (suc (suc (suc (suc (suc k))))))) v h = h
passes_none (suc n) k v h = h

passed_none : (b k v : ℕ) → Contains (placed_passes (λ x. x) (item_at b k)) v → ⊥
passed_none zero zero v h = contains_none v h
passed_none zero (suc zero) v h = contains_none v h
passed_none zero (suc (suc zero)) v h = contains_none v h
passed_none zero (suc (suc (suc zero))) v h = contains_none v h
passed_none zero (suc (suc (suc (suc zero)))) v h = contains_none v h
passed_none zero (suc (suc (suc (suc (suc zero))))) v h = contains_none v h
passed_none zero (suc (suc (suc (suc (suc (suc zero)))))) v h = contains_none v h
passed_none zero (suc (suc (suc (suc (suc (suc (suc k))))))) v h = contains_none v h
passed_none (suc n) k v h = contains_none v h

in_block : (b k : ℕ) → k < length (pairs_of_calls b).items → b ≡ 0
in_block zero k inside = refl
in_block (suc n) k inside = absurd (omega (arith, inside))

-- WHAT IS LIVE ----------------------------------------------------------------------------------------------------------

-- value 0 is live after the instructions 0 and 1, value 1 after 3 and 4
abbrev LivesAfter : ℕ → ℕ → Type 0
LivesAfter k v = ((0 ≡ v) × (k < 2)) ⊎ ((1 ≡ v) × (3 ≤ k) × (k < 5))

further : (p q : Place ℕ) → Leads (function_flow s.before) p q → q.index ≡ p.index + 1
further p q leads = (goes_next s.before leads_nowhere refl p q leads).1

entered : (p q : Place ℕ) → Leads (function_flow s.before) p q → q.block ≡ 0
entered p q (inl next) = in_block q.block q.index next.2
entered p q (inr other) = absurd (contains_none q.block (subst (λ (xs : List ℕ). Contains xs q.block) (leads_nowhere p) other.0))

used_after : (k n v : ℕ) → n ≡ k + 1 → IsUse n v → LivesAfter k v
used_after k n v next (inl first) = inl (first.0, let a = first.2 in omega (arith, next, a))
used_after k n v next (inr second) = inr (second.0, (let a = second.1 in omega (arith, next, a)), (let b = second.2 in omega (arith, next, b)))

-- what lives on after an instruction that doesn't give it was live before it
lives_through : (k n v : ℕ) → n ≡ k + 1 → (n ≡ giver v → ⊥) → LivesAfter n v → LivesAfter k v
lives_through k n v next other (inl first) = inl (first.0, let a = first.1 in omega (arith, next, a))
lives_through k n v next other (inr second) =
    inr (second.0, from (order n) (subst (λ (w : ℕ). n ≡ giver w → ⊥) (sym second.0) other) second.1, (let b = second.2 in omega (arith, next, b)))
  where
    order : (n : ℕ) → (n ≡ 3) ⊎ (n < 3) ⊎ (4 ≤ n)
    order n = grind arith

    from : (n ≡ 3) ⊎ (n < 3) ⊎ (4 ≤ n) → (n ≡ 3 → ⊥) → 3 ≤ n → 3 ≤ k
    from (inl same) not_three low = absurd (not_three same)
    from (inr (inl less)) not_three low = absurd (omega (arith, less, low))
    from (inr (inr more)) not_three low = omega (arith, more, next)

given_here : (v : ℕ) → v < 2 → Contains (placed_gives (item_at 0 (giver v))) v
given_here zero few = contains_first 0 []
given_here (suc zero) few = contains_first 1 []
given_here (suc (suc v)) few = absurd (omega (arith, few))

low_value : (k v : ℕ) → LivesAfter k v → v < 2
low_value k v (inl first) = subst (λ (w : ℕ). w < 2) first.0 (omega arith)
low_value k v (inr second) = subst (λ (w : ℕ). w < 2) second.0 (omega arith)

not_giver : (q : Place ℕ) (v : ℕ) → q.block ≡ 0 → v < 2 → (Contains (placed_gives (placed_at s.before q)) v → ⊥) → q.index ≡ giver v → ⊥
not_giver q v at few none same =
    none (subst (λ (b : ℕ). Contains (placed_gives (item_at b q.index)) v) (sym at)
    (subst (λ (k : ℕ). Contains (placed_gives (item_at 0 k)) v) (sym same) (given_here v few)))

ahead : (v : ℕ) (path : List (Place ℕ)) (p : Place ℕ) → IsUsedAhead (counted every) s.before v p path → LivesAfter p.index v
ahead v [] p passed = absurd (passes_none p.block p.index v passed)
ahead v (q ∷ path) p used = by used.2 (ahead v path q)
  where
    next : q.index ≡ p.index + 1
    next = further p q used.0

    by : Contains (used_operands (λ x. x) (placed_at s.before q)) v
        ⊎ ((Contains (placed_gives (placed_at s.before q)) v → ⊥) × IsUsedAhead (counted every) s.before v q path)
        → (IsUsedAhead (counted every) s.before v q path → LivesAfter q.index v) → LivesAfter p.index v
    by (inl here) later = used_after p.index q.index v next (used_at q.block q.index v here)
    by (inr more) later =
        let lives = later more.1 in
        lives_through p.index q.index v next (not_giver q v (entered p q used.0) (low_value q.index v lives) more.0) lives

live_after : (p : Place ℕ) (v : ℕ) → IsLiveAfter every s.before p v → LivesAfter p.index v
live_after p v live = ahead v live.0 p live.1

-- value 0 is live before the instructions 1 and 2, value 1 before 4 and 5
live_before : (p : Place ℕ) (v : ℕ) → p.block ≡ 0 → IsLiveBefore every s.before p v → ((0 ≡ v) × (p.index ≤ 2)) ⊎ ((1 ≡ v) × (4 ≤ p.index))
live_before p v at (inl used) = by (used_at p.block p.index v used)
  where
    by : IsUse p.index v → ((0 ≡ v) × (p.index ≤ 2)) ⊎ ((1 ≡ v) × (4 ≤ p.index))
    by (inl first) = inl (first.0, first.2)
    by (inr second) = inr (second.0, second.1)
live_before p v at (inr across) = by lives (not_giver p v at (low_value p.index v lives) across.0)
  where
    lives : LivesAfter p.index v
    lives = ahead v across.1 p across.2

    order : (n : ℕ) → 3 ≤ n → (n ≡ 3) ⊎ (4 ≤ n)
    order n low = grind arith

    by : LivesAfter p.index v → (p.index ≡ giver v → ⊥) → ((0 ≡ v) × (p.index ≤ 2)) ⊎ ((1 ≡ v) × (4 ≤ p.index))
    by (inl first) other = inl (first.0, let a = first.1 in omega (arith, a))
    by (inr second) other = inr (second.0, past (order p.index second.1) (subst (λ (w : ℕ). p.index ≡ giver w → ⊥) (sym second.0) other))
      where
        past : (p.index ≡ 3) ⊎ (4 ≤ p.index) → (p.index ≡ 3 → ⊥) → 4 ≤ p.index
        past (inl same) not_three = absurd (not_three same)
        past (inr more) not_three = more

first_lives : IsLiveAcross (counted every) s.before (place_at 0 1) 0
first_lives = (contains_none 0, place_at 0 2 ∷ [], (inl (refl, refl, omega arith), contains_none 0, inl (contains_first 0 [])))

second_lives : IsLiveAcross (counted every) s.before (place_at 0 4) 1
second_lives = (contains_none 1, place_at 0 5 ∷ [], (inl (refl, refl, omega arith), contains_none 1, inl (contains_first 1 [])))

-- what lives across an instruction
across : (k v : ℕ) → IsLiveAcross (counted every) s.before (place_at 0 k) v → LivesAfter k v
across k v live = ahead v live.1 (place_at 0 k) live.2

-- STACK MAPS ------------------------------------------------------------------------------------------------------------

first_map : IsExactMap every first_two s (place_at 0 1) (number_entry ∷ [])
first_map = exact_one every s first_two (place_at 0 1) 0 (refl, refl, first_lives) (λ w lives. by w (across 1 w lives.2))
  where
    by : (w : ℕ) → LivesAfter 1 w → 0 ≡ w
    by w (inl first) = first.0
    by w (inr second) = absurd (let a = second.1 in omega (arith, a))

second_map : IsExactMap every first_two s (place_at 0 2) []
second_map = exact_none every s first_two (place_at 0 2) (λ w lives. by w (across 2 w lives.2))
  where
    by : (w : ℕ) → LivesAfter 2 w → ⊥
    by w (inl first) = let a = first.1 in omega (arith, a)
    by w (inr second) = let a = second.1 in omega (arith, a)

third_map : IsExactMap every first_two s (place_at 0 4) (number_entry ∷ [])
third_map = exact_one every s first_two (place_at 0 4) 1 (refl, refl, second_lives) (λ w lives. by w (across 4 w lives.2))
  where
    by : (w : ℕ) → LivesAfter 4 w → 1 ≡ w
    by w (inl first) = absurd (let a = first.1 in omega (arith, a))
    by w (inr second) = second.0

fourth_map : IsExactMap every first_two s (place_at 0 5) []
fourth_map = exact_none every s first_two (place_at 0 5) (λ w lives. by w (across 5 w lives.2))
  where
    by : (w : ℕ) → LivesAfter 5 w → ⊥
    by w (inl first) = let a = first.1 in omega (arith, a)
    by w (inr second) = let a = second.2 in omega (arith, a)

-- WHAT THE INSTRUCTIONS BECOME ------------------------------------------------------------------------------------------

-- a constant, and the store of it
constant : (k number value address : ℕ) (Rest : List Placed → Type 0) (rest : List Placed) → s.is_spilled value ≡ true → IsNew s s.pointer address
    → Rest rest
    → IsRewrittenItem every s first_two (place_at 0 k) Rest (gives_number number value)
    (gives_number number value ∷ store_items s (record { value = value; address = address; region = None } ∷ []) rest)
constant k number value address Rest rest spilled new goes_on = record {
  reloads = [];
  are_reloads = tt;
  new = gives_number number value;
  is_kept = record { operation = refl; controlling = λ aliases. refl; operands = tt; contexts = refl; edges = tt; results = refl; stack_map = refl };
  stores = record { value = value; address = address; region = None } ∷ [];
  are_stores = by (s.is_spilled value) spilled;
  rest = rest;
  code_is = refl;
  goes_on = goes_on;
}
  where
    by : (c : Bool) → c ≡ true → IsStoredIf c (IsLiveAfter every s.before (place_at 0 k) value → ⊥) (IsStore s value) (λ stores. stores ≡ [])
        (record { value = value; address = address; region = None } ∷ [])
    by true is = inl (record { value = refl; address = new }, refl)
    by false is = absurd (no_way (sym is))

-- a call, and the reload of its operand
called : (k value address copy : ℕ) (entries : List UserStackMapEntry) (Rest : List Placed → Type 0) (rest : List Placed) → s.is_spilled value ≡ true
    → IsNew s s.pointer address → IsNew s (s.before.value_type value) copy → s.after.value_type copy ≡ s.before.value_type value
    → IsExactMap every first_two s (place_at 0 k) entries → Rest rest
    → IsRewrittenItem every s first_two (place_at 0 k) Rest (calls_on value [])
    (reload_items s (reload_of value address copy ∷ []) (calls_on copy entries ∷ rest))
called k value address copy entries Rest rest spilled new_address new_copy typed exact goes_on = record {
  reloads = reload_of value address copy ∷ [];
  are_reloads = one_reload s value address copy spilled new_address new_copy;
  new = calls_on copy entries;
  is_kept = record {
    operation = refl;
    controlling = λ aliases. refl;
    operands = (reads_copy s value address copy spilled refl typed, tt);
    contexts = refl;
    edges = tt;
    results = refl;
    stack_map = exact;
  };
  stores = [];
  are_stores = refl;
  rest = rest;
  code_is = refl;
  goes_on = goes_on;
}

new_value : (v : ℕ) → 2 ≤ v → IsNew s (s.after.value_type v) v
new_value v beyond = record { beyond = beyond; typed = refl; itself = refl }

pairs_block : IsRewrittenBlock every s first_two 0
pairs_block = record {
  parameters = refl;
  items = record {
    stores = [];
    are_stores = refl;
    rest = _;
    code_is = refl;
    rewritten =
        constant 0 0 0 11 _ _ refl (new_value 11 (omega arith))
        (called 1 0 9 10 (number_entry ∷ []) _ _ refl (new_value 9 (omega arith)) (new_value 10 (omega arith)) refl first_map
        (called 2 0 7 8 [] _ _ refl (new_value 7 (omega arith)) (new_value 8 (omega arith)) refl second_map
        (constant 3 1 1 6 _ _ refl (new_value 6 (omega arith))
        (called 4 1 4 5 (number_entry ∷ []) _ _ refl (new_value 4 (omega arith)) (new_value 5 (omega arith)) refl third_map
        (called 5 1 2 3 [] _ _ refl (new_value 2 (omega arith)) (new_value 3 (omega arith)) refl fourth_map last)))));
  };
}
  where
    last : AreRewritten every s first_two 0 6 (returns_nothing ∷ []) (returns_nothing ∷ [])
    last = record {
      reloads = [];
      are_reloads = tt;
      new = returns_nothing;
      is_kept = record { operation = refl; controlling = λ aliases. refl; operands = tt; contexts = refl; edges = tt; results = refl; stack_map = refl };
      stores = [];
      are_stores = refl;
      rest = [];
      code_is = refl;
      goes_on = refl;
    }

-- IT IS A SPILLING ------------------------------------------------------------------------------------------------------

rewritten_block : (block : ℕ) → IsReached s.before block → IsRewrittenBlock every s first_two block
rewritten_block zero is = pairs_block
rewritten_block (suc n) is = record { parameters = refl; items = refl }

other_block : (block : ℕ) → (IsReached s.before block → ⊥) → (s.after.blocks block ≡ s.before.blocks block) ⊎ IsLandingBlock every s block
other_block zero none = absurd (none (inl refl))
other_block (suc n) none = inl refl

spilled_across : (v : ℕ) → first_two v ≡ true → IsLiveAcrossCall every first_two s.before v
spilled_across zero is = record {
  place = place_at 0 1;
  reachable = reach s.before leads_nowhere refl 1 (omega arith);
  placed = calls_on 0 [];
  there = refl;
  shape = _;
  call = refl;
  member = refl;
  unaliased = refl;
  live = first_lives;
}
spilled_across (suc zero) is = record {
  place = place_at 0 4;
  reachable = reach s.before leads_nowhere refl 4 (omega arith);
  placed = calls_on 1 [];
  there = refl;
  shape = _;
  call = refl;
  member = refl;
  unaliased = refl;
  live = second_lives;
}
spilled_across (suc (suc v)) is = absurd (no_way (sym is))

has_slot : (v : ℕ) → first_two v ≡ true → IsSlotOf s v
has_slot zero is = record { slot = _; there = refl; beyond = omega arith; size = refl; align = refl }
has_slot (suc zero) is = record { slot = _; there = refl; beyond = omega arith; size = refl; align = refl }
has_slot (suc (suc v)) is = absurd (no_way (sym is))

is_spilling : IsSpilling every s first_two
is_spilling = record {
  text = record { entry = refl; signature = refl; reached = rewritten_block; others = other_block };
  spilled = λ v. (spilled_across v, λ live. live.member);
  slots = has_slot;
  old_slots = (_, refl);
  types = λ v low. refl;
  aliases = λ v low. refl;
}

-- WHAT THE LAW ASKS OF THE FUNCTION -------------------------------------------------------------------------------------

no_parameter : (b v : ℕ) → Contains (pairs_of_calls b).parameters v → ⊥
no_parameter zero v h = contains_none v h
no_parameter (suc n) v h = contains_none v h

well_placed : WellPlaced s.before
well_placed = record {
  named = λ q x h path walk. inr (by q x path walk (named_at q.block q.index x h));
  passed = λ q x h. absurd (passed_none q.block q.index x h);
}
  where
    by : (q : Place ℕ) (x : ℕ) (path : List (Place ℕ)) → IsPath (function_flow s.before) (q ∷ path) → IsUse q.index x
        → IsGivenAlong (function_code s.before) x path
    by q x path walk (inl first) =
        given_along s.before leads_nowhere refl x 0 (subst (λ (w : ℕ). Contains (0 ∷ []) w) first.0 (contains_first 0 [])) q path walk
        (let a = first.1 in omega (arith, a))
    by q x path walk (inr second) =
        given_along s.before leads_nowhere refl x 3 (subst (λ (w : ℕ). Contains (1 ∷ []) w) second.0 (contains_first 1 [])) q path walk
        (let a = second.1 in omega (arith, a))

-- no two values are live at one point
one_at_once : (P Q : Type 0) (v w : ℕ) → (P → Q → ⊥) → ((0 ≡ v) × P) ⊎ ((1 ≡ v) × Q) → ((0 ≡ w) × P) ⊎ ((1 ≡ w) × Q) → v ≡ w
one_at_once P Q v w apart (inl first) (inl other) = sym first.0 ∙ other.0
one_at_once P Q v w apart (inl first) (inr other) = absurd (apart first.1 other.1)
one_at_once P Q v w apart (inr first) (inl other) = absurd (apart other.1 first.1)
one_at_once P Q v w apart (inr first) (inr other) = sym first.0 ∙ other.0

from_where : (k v : ℕ) → LivesAfter k v → ((0 ≡ v) × (k < 2)) ⊎ ((1 ≡ v) × (3 ≤ k))
from_where k v (inl first) = inl (first.0, first.1)
from_where k v (inr second) = inr (second.0, second.1)

edges_match : EdgesMatch s.before
edges_match zero = (tt, (tt, (tt, (tt, (tt, (tt, (tt, tt)))))))
edges_match (suc n) = tt

gives_none : (p : Place ℕ) → (placed_targets (placed_at s.before p) ≡ [] → ⊥) → placed_gives (placed_at s.before p) ≡ []
gives_none p some = absurd (some (leads_nowhere p))

one_place : (p q : Place ℕ) (v : ℕ) → Contains (placed_gives (placed_at s.before p)) v → Contains (placed_gives (placed_at s.before q)) v → p ≡ q
one_place p q v h g =
    let first = gives_at p.block p.index v h in
    let second = gives_at q.block q.index v g in
    λ i. record { block = (first.0 ∙ sym second.0) i; index = (first.1 ∙ sym second.1) i }

may_spill : MaySpill every first_two s
may_spill = record {
  gives_once = record {
    parameters_below = λ b v h. absurd (no_parameter b v h);
    results_below = λ p v h. let is = gives_at p.block p.index v h in is.2;
    one_block = λ b d v h g. absurd (no_parameter b v h);
    one_place = one_place;
    apart = λ b p v h g. no_parameter b v h;
    edges_give_nothing = gives_none;
  };
  edges_match = edges_match;
  aliases_typed = λ v. refl;
  well_placed = well_placed;
  counts_enough = λ target place param reached uncounted is. absurd (no_way uncounted);
  shares_no_slot = record {
    before = λ p reachable v w first second live_v live_w same.
        let at = in_entry s.before leads_nowhere refl p reachable.0 reachable.1 in
        one_at_once (p.index ≤ 2) (4 ≤ p.index) v w (λ a b. omega (arith, a, b)) (live_before p v at live_v) (live_before p w at live_w);
    after = λ p reachable v w first second live_v live_w same.
        one_at_once (p.index < 2) (3 ≤ p.index) v w (λ a b. omega (arith, a, b)) (from_where p.index v (live_after p v live_v))
        (from_where p.index w (live_after p w live_w));
  };
}

-- THE WORLD -------------------------------------------------------------------------------------------------------------

abbrev world : World
world = passing []

typed : IsFunctionTyped (before_run s first_two world)
typed = record { aliases = λ v. refl; items = items; entry = ([], refl); arguments = tt }
  where
    constant_typed : (number value : ℕ) → s.before.value_type value ≡ s.before.value_type 0 → IsPlacedTyped s.before (gives_number number value)
    constant_typed number value same = record { takes = record { made_at = refl; operands = tt; edges = tt }; gives = λ i. same i ∷ [] }

    call_typed : (value : ℕ) → s.before.value_type value ≡ s.before.value_type 0 → IsPlacedTyped s.before (calls_on value [])
    call_typed value same = record { takes = record { made_at = refl; operands = (tt, λ i. same i ∷ []); edges = tt }; gives = refl }

    items : (block : ℕ) → AllByRecursion (IsPlacedTyped s.before) (pairs_of_calls block).items
    items zero = (
      constant_typed 0 0 refl,
      (
        call_typed 0 refl,
        (
          call_typed 0 refl,
          (
            constant_typed 1 1 refl,
            (
              call_typed 1 refl,
              (
                call_typed 1 refl,
                (record { takes = record { made_at = refl; operands = refl; edges = tt }; gives = refl }, tt),
              ),
            ),
          ),
        ),
      ),
    )
    items (suc n) = tt

spares : (block : ℕ) → AllByRecursion (λ (placed : Placed). (state : FunctionState) → SparesHidden (before_run s first_two world) state placed)
    (pairs_of_calls block).items
spares zero = (λ state. tt, (λ state. tt, (λ state. tt, (λ state. tt, (λ state. tt, (λ state. tt, (λ state. tt, tt)))))))
spares (suc n) = tt

met : IsMetBy first_two s world
met = met_by first_two s world refl (places_one world _ (λ n. refl) (λ a. refl) refl refl (omega arith)) typed spares

reused : SlotIsReused world
reused = record { met = met; before = refl; after = refl; same = means_the_same every first_two s world is_spilling may_spill met }

pub slot_reuse_example : SlotReuseExample
slot_reuse_example = record { spilling = is_spilling; may_spill = may_spill; a_world = (world, reused) }
