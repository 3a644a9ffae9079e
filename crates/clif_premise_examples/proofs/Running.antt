-- Tests of what is asked along a run that ends: that spill slots are spared, and that claims are true.
use Rattle.std.proofs.Common.{◌≡◌, ◌⊎◌, inl, inr, ◌<◌, ◌≤◌, ◌+◌, ◌-◌, ◌%◌, ◌^◌, ◌==◌, ◌&&◌, if◌then◌else◌, ℕ, zero, suc, Bool, true, false, not, List, [], ◌∷◌, refl, ◌∙◌, ap, subst, arith, map}
use Rattle.std.proofs.Math.Nat.{mod-eq_of_lt, add-mod_right}
use Rattle.std.proofs.lemmas.Bool.{and_parts, cases_lt, eqb-true, ltb-true}
use Rattle.std.specs.Prelude.{nat_lt}
use Rattle.std.specs.List.{AllByRecursion, list_all}
use Rattle.clif_meaning.specs.Access.{Accessible, Aligned, Apart, Claim, Holds, claims_of, touched_ranges}
use Rattle.clif_meaning.specs.Machine.{At, Control, HasReturned, HasTrapped, IsStuck, state_after}
use Rattle.clif_meaning.specs.Memory.{Range, address_in, index_in, lies_in}
use Rattle.clif_meaning.specs.Premises.{ClaimsAreTrue, InEachStep, OfNextItem, SparesRange, SparesSpillSlots}
use Rattle.clif_meaning.specs.Program.{Assign, Instruct, Item, Use}
use Rattle.clif_meaning.specs.ScriptMachine.{ScriptRun, ScriptState, script_machine, step_at}
use Rattle.clif_meaning.specs.World.{World}

-- RANGES ------------------------------------------------------------------------------------------------------------------

-- an address in a range is that of one of its bytes
byte_at : (range : Range) (address : ℕ) → range.start < 2 ^ range.width → lies_in range address ≡ true
    → (k : ℕ) × (k < range.size) × (address_in range k ≡ address)
byte_at range address starts lies = (index_in range address, ltb-true (index_in range address) range.size parts.1, by (cases_lt address range.start))
  where
    parts : (nat_lt address (2 ^ range.width) ≡ true) × (nat_lt (index_in range address) range.size ≡ true)
    parts = and_parts (nat_lt address (2 ^ range.width)) (nat_lt (index_in range address) range.size) lies

    below : address < 2 ^ range.width
    below = ltb-true address (2 ^ range.width) parts.0

    by : (address < range.start) ⊎ (range.start ≤ address) → address_in range (index_in range address) ≡ address
    by (inl early) =
        let wraps : index_in range address ≡ address + 2 ^ range.width - range.start = mod-eq_of_lt (omega (arith, early, below)) in
        let round : range.start + (address + 2 ^ range.width - range.start) ≡ address + 2 ^ range.width = omega (arith, starts) in
        ap (λ (n : ℕ). (range.start + n) % 2 ^ range.width) wraps ∙ ap (λ (n : ℕ). n % 2 ^ range.width) round
        ∙ add-mod_right address (2 ^ range.width) ∙ mod-eq_of_lt below
    by (inr late) =
        let round : address + 2 ^ range.width - range.start ≡ (address - range.start) + 2 ^ range.width = omega (arith, late) in
        let index : index_in range address ≡ address - range.start =
        ap (λ (n : ℕ). n % 2 ^ range.width) round ∙ add-mod_right (address - range.start) (2 ^ range.width) ∙ mod-eq_of_lt (omega (arith, below)) in
        let back : range.start + (address - range.start) ≡ address = omega (arith, late) in
        ap (λ (n : ℕ). (range.start + n) % 2 ^ range.width) index ∙ ap (λ (n : ℕ). n % 2 ^ range.width) back ∙ mod-eq_of_lt below

-- a test of each of the first bytes of a range
abbrev each_byte : (ℕ → Bool) → Range → ℕ → Bool
each_byte test range zero = true
each_byte test range (suc count) = test (address_in range count) && each_byte test range count

byte_tested : (test : ℕ → Bool) (range : Range) (count k : ℕ) → each_byte test range count ≡ true → k < count → test (address_in range k) ≡ true
byte_tested test range zero k met below = absurd (omega (arith, below))
byte_tested test range (suc count) k met below = by (order k count below) (byte_tested test range count k parts.1)
  where
    parts : (test (address_in range count) ≡ true) × (each_byte test range count ≡ true)
    parts = and_parts _ _ met

    order : (k count : ℕ) → k < suc count → (k < count) ⊎ (count ≡ k)
    order k count below = grind arith

    by : (k < count) ⊎ (count ≡ k) → (k < count → test (address_in range k) ≡ true) → test (address_in range k) ≡ true
    by (inl earlier) rest = rest earlier
    by (inr here) rest = subst (λ (n : ℕ). test (address_in range n) ≡ true) here parts.0

-- of each byte of a range that begins at an address
abbrev each_of_range : (ℕ → Bool) → Range → Bool
each_of_range test range = nat_lt range.start (2 ^ range.width) && each_byte test range range.size

in_range : (test : ℕ → Bool) (range : Range) → each_of_range test range ≡ true → (address : ℕ) → lies_in range address ≡ true → test address ≡ true
in_range test range met address lies =
    let parts = and_parts (nat_lt range.start (2 ^ range.width)) (each_byte test range range.size) met in
    let byte = byte_at range address (ltb-true range.start (2 ^ range.width) parts.0) lies in
    subst (λ (n : ℕ). test n ≡ true) byte.2 (byte_tested test range range.size byte.0 parts.1 byte.1)

not_true : (b : Bool) → not b ≡ true → b ≡ false
not_true true met = let no_way : ⊥ = cc in absurd no_way
not_true false met = refl

-- CLAIMS ------------------------------------------------------------------------------------------------------------------

-- the power of two that an alignment of at most 8 is
abbrev power_of : ℕ → ℕ
power_of alignment = if alignment == 1 then 0 else (if alignment == 2 then 1 else (if alignment == 4 then 2 else 3))

abbrev claim_met : World → Claim → Bool
claim_met world (Accessible range) = each_byte world.is_accessible range range.size
claim_met world (Aligned address alignment) =
    (alignment == 2 ^ power_of alignment) && (address % 2 ^ power_of alignment == 0)
claim_met world (Apart left right) = each_of_range (λ address. not (lies_in right address)) left

claim_holds : (world : World) (claim : Claim) → claim_met world claim ≡ true → Holds world claim
claim_holds world (Accessible range) met = λ k below. byte_tested world.is_accessible range range.size k met below
claim_holds world (Aligned address alignment) met =
    let parts = and_parts (alignment == 2 ^ power_of alignment) (address % 2 ^ power_of alignment == 0) met in
    (power_of alignment, eqb-true _ _ parts.0, eqb-true _ _ parts.1)
claim_holds world (Apart left right) met = λ address. by address (lies_in left address) refl
  where
    by : (address : ℕ) (b : Bool) → lies_in left address ≡ b → (b && lies_in right address) ≡ false
    by address true lies = not_true (lies_in right address) (in_range (λ address. not (lies_in right address)) left met address lies)
    by address false outside = refl

-- ITEMS -------------------------------------------------------------------------------------------------------------------

each_of : {X : Type 0} (P : X → Type 0) (test : X → Bool) → ((x : X) → test x ≡ true → P x) → (xs : List X) → list_all test xs ≡ true → AllByRecursion P xs
each_of P test says [] met = tt
each_of P test says (x ∷ xs) met = let parts = and_parts (test x) (list_all test xs) met in (says x parts.0, each_of P test says xs parts.1)

module _ (run : ScriptRun) where
  abbrev pub spares : ScriptState → Item → Bool
  spares state (Instruct place instruction results) =
      list_all (each_of_range (λ address. not (run.hidden address)))
      (touched_ranges run.world instruction.operation instruction.controlling (map run.name_type instruction.operands) (map state.names instruction.operands))
  spares state _ = true

  abbrev pub claims : ScriptState → Item → Bool
  claims state (Instruct place instruction results) =
      list_all (claim_met run.world)
      (claims_of run.world instruction.operation instruction.controlling (map run.name_type instruction.operands) (map state.names instruction.operands))
  claims state _ = true

  item_spares : (state : ScriptState) (item : Item) → spares state item ≡ true → SparesSpillSlots run state item
  item_spares state (Instruct place instruction results) met =
      each_of (SparesRange run.hidden) (each_of_range (λ address. not (run.hidden address)))
      (λ range spared address lies. not_true (run.hidden address) (in_range (λ address. not (run.hidden address)) range spared address lies)) _ met
  item_spares state (Use variable name) met = tt
  item_spares state (Assign variable name) met = tt

  item_claims : (state : ScriptState) (item : Item) → claims state item ≡ true → ClaimsAreTrue run state item
  item_claims state (Instruct place instruction results) met = each_of (Holds run.world) (claim_met run.world) (claim_holds run.world) _ met
  item_claims state (Use variable name) met = tt
  item_claims state (Assign variable name) met = tt

  -- STEPS -----------------------------------------------------------------------------------------------------------------

  abbrev has_ended : Control Item → Bool
  has_ended (At rest) = false
  has_ended _ = true

  abbrev control_after : ℕ → Control Item
  control_after n = (state_after (script_machine run) n).control

  abbrev next_met : (ScriptState → Item → Bool) → ScriptState → Control Item → Bool
  next_met test state (At (item ∷ rest)) = test state item
  next_met test state _ = true

  -- each of the first items is tested, and then the run has ended
  abbrev each_met : (ScriptState → Item → Bool) → ℕ → Bool
  each_met test zero = true
  each_met test (suc n) = next_met test (state_after (script_machine run) n) (control_after n) && each_met test n

  abbrev pub met_until : (ScriptState → Item → Bool) → ℕ → Bool
  met_until test n = has_ended (control_after n) && each_met test n

  stays : (state : ScriptState) (control : Control Item) → state.control ≡ control → has_ended control ≡ true → has_ended (step_at run state control).control ≡ true
  stays state (At rest) is ended = let no_way : ⊥ = cc in absurd no_way
  stays state (HasReturned results) is ended = rw is refl
  stays state (HasTrapped reason) is ended = rw is refl
  stays state IsStuck is ended = rw is refl

  ended_later : (n m : ℕ) → n ≤ m → has_ended (control_after n) ≡ true → has_ended (control_after m) ≡ true
  ended_later n zero early ended = subst (λ (k : ℕ). has_ended (control_after k) ≡ true) (none n early) ended
    where
      none : (n : ℕ) → n ≤ 0 → n ≡ 0
      none n early = omega (arith, early)
  ended_later n (suc m) early ended = by (order n m early) (λ before. ended_later n m before ended)
    where
      order : (n m : ℕ) → n ≤ suc m → (n ≡ suc m) ⊎ (n ≤ m)
      order n m early = grind arith

      by : (n ≡ suc m) ⊎ (n ≤ m) → (n ≤ m → has_ended (control_after m) ≡ true) → has_ended (control_after (suc m)) ≡ true
      by (inl here) earlier = subst (λ (k : ℕ). has_ended (control_after k) ≡ true) here ended
      by (inr before) earlier = stays (state_after (script_machine run) m) (control_after m) refl (earlier before)

  module _ (P : ScriptState → Item → Type 0) (test : ScriptState → Item → Bool) (says : (state : ScriptState) (item : Item) → test state item ≡ true → P state item) where
    of_next : (state : ScriptState) (control : Control Item) → next_met test state control ≡ true → OfNextItem (P state) control
    of_next state (At []) met = tt
    of_next state (At (item ∷ rest)) met = says state item met
    of_next state (HasReturned results) met = tt
    of_next state (HasTrapped reason) met = tt
    of_next state IsStuck met = tt

    of_ended : (state : ScriptState) (control : Control Item) → has_ended control ≡ true → OfNextItem (P state) control
    of_ended state (At rest) ended = let no_way : ⊥ = cc in absurd no_way
    of_ended state (HasReturned results) ended = tt
    of_ended state (HasTrapped reason) ended = tt
    of_ended state IsStuck ended = tt

    early : (n m : ℕ) → each_met test n ≡ true → m < n → next_met test (state_after (script_machine run) m) (control_after m) ≡ true
    early zero m met below = absurd (omega (arith, below))
    early (suc n) m met below = by (order m n below) (early n m parts.1)
      where
        parts : (next_met test (state_after (script_machine run) n) (control_after n) ≡ true) × (each_met test n ≡ true)
        parts = and_parts _ _ met

        order : (m n : ℕ) → m < suc n → (m < n) ⊎ (n ≡ m)
        order m n below = grind arith

        by : (m < n) ⊎ (n ≡ m) → (m < n → next_met test (state_after (script_machine run) m) (control_after m) ≡ true)
            → next_met test (state_after (script_machine run) m) (control_after m) ≡ true
        by (inl earlier) rest = rest earlier
        by (inr here) rest = subst (λ (k : ℕ). next_met test (state_after (script_machine run) k) (control_after k) ≡ true) here parts.0

    pub in_each_step : (n : ℕ) → met_until test n ≡ true → InEachStep P run
    in_each_step n met m = by (cases_lt m n)
      where
        parts : (has_ended (control_after n) ≡ true) × (each_met test n ≡ true)
        parts = and_parts _ _ met

        by : (m < n) ⊎ (n ≤ m) → OfNextItem (P (state_after (script_machine run) m)) (control_after m)
        by (inl before) = of_next (state_after (script_machine run) m) (control_after m) (early n m parts.1 before)
        by (inr behind) = of_ended (state_after (script_machine run) m) (control_after m) (ended_later n m behind parts.0)

  pub all_spared : (n : ℕ) → met_until spares n ≡ true → InEachStep (SparesSpillSlots run) run
  all_spared = in_each_step (SparesSpillSlots run) spares item_spares

  pub all_true : (n : ℕ) → met_until claims n ≡ true → InEachStep (ClaimsAreTrue run) run
  all_true = in_each_step (ClaimsAreTrue run) claims item_claims
