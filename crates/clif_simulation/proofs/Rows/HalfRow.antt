-- The row `first` up to its constant, read on bits.
use Rattle.std.proofs.Common.{◌≡◌, ℕ, zero, suc, ◌<◌, Bool, true, false, pos, List, [], ◌∷◌, slice_get, Option, Some, None, Contains, ◌⊎◌, inl, inr, refl, sym, ◌∙◌, ap, subst, arith}
use Rattle.std.specs.List.{AllByRecursion}
use Rattle.clif_types.specs.declared.target.PointerWidth.{PointerWidth}
use Rattle.clif_types.specs.declared.target.PointerWidth.TheVariants.{U64}
use Rattle.clif_ir.specs.Body.{Body, follow, resolved}
use Rattle.clif_records.specs.declared.tables.Pending.{Pending}
use Rattle.clif_ssa.specs.Ssa.{SsaState, record_of, sealed_of}
use Rattle.clif_records.specs.Tables.{is_yes, pending_of}
use Rattle.clif_meaning.specs.Bits.{Bits}
use Rattle.clif_meaning.specs.Event.{Event}
use Rattle.clif_tables.specs.Callees.{types_of}
use Rattle.clif_meaning.specs.Memory.{Memory}
use Rattle.clif_meaning.specs.Name.{Name, answer_of, same_name}
use Rattle.clif_meaning.specs.Instruction.{Operation, Compute, Iconst}
use Rattle.clif_meaning.specs.Request.{script_of}
use Rattle.clif_meaning.specs.Ledger.{ledger_after}
use Rattle.clif_meaning.specs.Program.{Item}
use Rattle.clif_meaning.specs.World.{World}
use Rattle.clif_meaning.specs.Machine.{Machine, Control, At, IsStuck, Observation, state_after}
use Rattle.clif_meaning.specs.ScriptMachine as script
use Rattle.clif_meaning.specs.ScriptMachine.{ScriptState, script_machine}
use Rattle.clif_meaning.specs.FunctionMachine as function_machine_of
use Rattle.clif_meaning.specs.FunctionMachine.{same_value, Collector, ByMaps, FunctionState, function_machine}
use Rattle.clif_meaning.specs.FunctionView.{Placed}
use Rattle.clif_meaning.specs.View.{view_of, block_of}
use Rattle.clif_meaning.specs.Path.{Place}
use Rattle.clif_meaning.specs.WellPlaced.{item_gives, item_names, item_passes, IsGivenBefore}
use Rattle.clif_meaning.specs.Premises.{EachItem}
use Rattle.clif_meaning.specs.Headline.{IsWorldOf}
use Rattle.clif_meaning.specs.Examples.{block0, first_signature}
use Rattle.clif_meaning.specs.ScriptExamples.{answered_calls}
use Rattle.clif_meaning.proofs.StraightLine.{nothing_contained, none_of, given_along}
use Rattle.clif_meaning.proofs.FirstRow.{one_of, first_of_one}
use Rattle.clif_meaning.proofs.SampleWorld
use Rattle.clif_simulation.specs.Tables.{answered, program_so_far, block_name}
use Rattle.clif_simulation.proofs.Unfinished.SoFar.{typed_so_far}
use Rattle.clif_simulation.specs.Reading.{code_so_far, behind, may_grow, PremisesSoFar, script_run_so_far, function_run_so_far, starting_at, StandAlike, StartAlike, SideBySide, ReadsRightFromAnywhere}
use Rattle.clif_simulation.specs.ReadingExamples.{half_body_with, half_body, half_state_with, half_state, waiting_parameter, with_nine, first_value, with_bits}
use Rattle.clif_simulation.proofs.Rows.RecordsListed.{nothing_there, half_record}
use Rattle.clif_simulation.proofs.Finished.Starting.{no_arguments, none_assigned}
use Rattle.clif_simulation.proofs.Values.{false_is}
use Rattle.clif_simulation.proofs.Unfinished.Reaching.{given_behind, leads_nowhere}
use Rattle.clif_simulation.proofs.Unbranched.{PlainlyEarlier}
use Rattle.clif_simulation.proofs.Rows.NothingCalled.{nothing_called}

-- the program: a use, and a constant
abbrev pub items : List Item
items = (program_so_far answered_calls).items block0

-- what was given behind so many items
given_names : (x : Name) (k : ℕ) → k < 3 → IsGivenBefore (code_so_far answered_calls) x (behind block0 k) → (j : ℕ) × (j < k) × Contains (item_gives (slice_get items j)) x
given_names x k within given = by (given_behind answered_calls block0 refl x k (omega (arith, within)) given)
  where
    by : Contains [] x ⊎ ((j : ℕ) × (j < k) × Contains (item_gives (slice_get items j)) x) → (j : ℕ) × (j < k) × Contains (item_gives (slice_get items j)) x
    by (inl none) = absurd (nothing_contained x none)
    by (inr found) = found

pub none_given : (x : Name) → IsGivenBefore (code_so_far answered_calls) x (behind block0 0) → ⊥
none_given x given = by (given_names x 0 (omega arith) given)
  where
    by : (j : ℕ) × (j < 0) × Contains (item_gives (slice_get items j)) x → ⊥
    by found = absurd (omega (arith, found.1))

pub use_given : (x : Name) → IsGivenBefore (code_so_far answered_calls) x (behind block0 1) → answer_of 3 0 ≡ x
use_given x given = by (given_names x 1 (omega arith) given)
  where
    at : (j : ℕ) → j < 1 → Contains (item_gives (slice_get items j)) x → answer_of 3 0 ≡ x
    at zero below there = one_of (answer_of 3 0) x there
    at (suc j) below there = absurd (omega (arith, below))

    by : (j : ℕ) × (j < 1) × Contains (item_gives (slice_get items j)) x → answer_of 3 0 ≡ x
    by found = at found.0 found.1 found.2

pub both_given : (x : Name) → IsGivenBefore (code_so_far answered_calls) x (behind block0 2) → (answer_of 3 0 ≡ x) ⊎ (answer_of 4 1 ≡ x)
both_given x given = by (given_names x 2 (omega arith) given)
  where
    at : (j : ℕ) → j < 2 → Contains (item_gives (slice_get items j)) x → (answer_of 3 0 ≡ x) ⊎ (answer_of 4 1 ≡ x)
    at zero below there = inl (one_of (answer_of 3 0) x there)
    at (suc zero) below there = inr (one_of (answer_of 4 1) x there)
    at (suc (suc j)) below there = absurd (omega (arith, below))

    by : (j : ℕ) × (j < 2) × Contains (item_gives (slice_get items j)) x → (answer_of 3 0 ≡ x) ⊎ (answer_of 4 1 ≡ x)
    by found = at found.0 found.1 found.2

-- From every start ----------------------------------------------------------------------------------------------------------

module _ (width : PointerWidth) (world : World) (tracked : Name → Bool) (collector : Collector)
    (variables : ℕ → Bits) (names : Name → Bits) (values : ℕ → Bits) (memory other_memory : Memory) (events other_events : List Event)
    (waiting : variables 0 ≡ values 0) (same_memory : memory ≡ other_memory) (same_events : events ≡ other_events)
  where
    abbrev left : Machine ScriptState Observation
    left =
        starting_at (script_machine (script_run_so_far answered_calls half_body world tracked))
        (record { variables = variables; names = names; memory = memory; events = events; control = At items })

    abbrev right : Machine FunctionState Observation
    right =
        starting_at (function_machine (function_run_so_far answered_calls half_body world collector))
        (record { values = values; memory = other_memory; events = other_events; control = At (block_of half_body 0).items })

    abbrev Alike : ℕ → ℕ → Type 0
    Alike count steps = StandAlike answered_calls half_body half_state 0 block0 count (state_after left count) (state_after right steps)

    at_front : Alike 0 0
    at_front = record {
      script_at = refl;
      function_at = refl;
      same_memory = same_memory;
      same_events = same_events;
      names = λ x given. absurd (none_given x given);
      records = λ at_end. absurd at_end;
    }

    used : Alike 1 0
    unfolding follow
    used = record {
      script_at = refl;
      function_at = refl;
      same_memory = same_memory;
      same_events = same_events;
      names = λ x given. subst (λ (n : Name). (state_after left 1).names n ≡ values (resolved half_body (answered answered_calls n))) (use_given x given) waiting;
      records = λ at_end. absurd (false_is at_end.0);
    }

    recorded : (x v : ℕ) → record_of half_state x 0 ≡ Some v → variables x ≡ (state_after right 1).values (resolved half_body v)
    unfolding follow
    recorded zero v is = subst (λ (w : ℕ). variables 0 ≡ (state_after right 1).values (resolved half_body w)) (the_record v (sym (half_record 0 (waiting_parameter ∷ []) 0 0) ∙ is)) waiting
      where
        the_record : (v : ℕ) → Some 0 ≡ Some v → 0 ≡ v
        the_record v e = cc
    recorded (suc x) v is = nothing_there (sym (half_record 0 (waiting_parameter ∷ []) (suc x) 0) ∙ is)

    at_end : Alike 2 1
    unfolding follow
    at_end = record {
      script_at = refl;
      function_at = refl;
      same_memory = same_memory;
      same_events = same_events;
      names = λ x given. by x (both_given x given);
      records = λ end x v is. recorded x v is;
    }
      where
        by : (x : Name) → (answer_of 3 0 ≡ x) ⊎ (answer_of 4 1 ≡ x) → (state_after left 2).names x ≡ (state_after right 1).values (resolved half_body (answered answered_calls x))
        by x (inl first) = subst (λ (n : Name). (state_after left 2).names n ≡ (state_after right 1).values (resolved half_body (answered answered_calls n))) first waiting
        by x (inr second) = subst (λ (n : Name). (state_after left 2).names n ≡ (state_after right 1).values (resolved half_body (answered answered_calls n))) second refl

    -- behind the last item the run doesn't go on
    stuck : (n : ℕ) → (state_after left (suc (suc (suc n)))).control ≡ IsStuck
    stuck zero = refl
    stuck (suc n) = ap (λ (c : Control Item). (script.step_at (script_run_so_far answered_calls half_body world tracked) (state_after left (suc (suc (suc n)))) c).control) (stuck n) ∙ stuck n

    side_by_side : SideBySide answered_calls half_body half_state 0 block0 left right
    side_by_side zero rest on = (0, at_front)
    side_by_side (suc zero) rest on = (0, used)
    side_by_side (suc (suc zero)) rest on = (1, at_end)
    side_by_side (suc (suc (suc n))) rest on = absurd (other (sym (stuck n) ∙ on))
      where
        other : {X : Type 0} {rest : List X} → IsStuck ≡ At rest → ⊥
        other e = cc

pub no_block : (block : ℕ) (name : Name) → block_name answered_calls (suc block) ≡ Some name → ⊥
no_block block name named = cc

pub the_name : (name : Name) → block_name answered_calls 0 ≡ Some name → block0 ≡ name
the_name name named = cc

module _ (width : PointerWidth) (world : World) (tracked : Name → Bool) (collector : Collector)
  where
    abbrev left_machine : Machine ScriptState Observation
    left_machine = script_machine (script_run_so_far answered_calls half_body world tracked)

    abbrev right_machine : Machine FunctionState Observation
    right_machine = function_machine (function_run_so_far answered_calls half_body world collector)

    abbrev Sides : ℕ → Name → ScriptState → FunctionState → Type 0
    Sides block name p q = SideBySide answered_calls half_body half_state block name (starting_at left_machine p) (starting_at right_machine q)

    sides : (p : ScriptState) (q : FunctionState) → StartAlike answered_calls half_body half_state 0 block0 p q → Sides 0 block0 p q
    sides p q start =
        let p_is : p ≡ record p { control = At items } = ap (λ (c : Control Item). record p { control = c }) start.script_at in
        let q_is : q ≡ record q { control = At (block_of half_body 0).items } = ap (λ (c : Control Placed). record q { control = c }) start.function_at in
        subst (λ (s : ScriptState). Sides 0 block0 s q) (sym p_is)
        (subst (λ (t : FunctionState). Sides 0 block0 (record p { control = At items }) t) (sym q_is)
        (side_by_side width world tracked collector p.variables p.names q.values p.memory q.memory p.events q.events
        (start.waiting waiting_parameter (first_of_one waiting_parameter waiting_parameter refl)) start.same_memory start.same_events))

    from : (block : ℕ) (name : Name) → block_name answered_calls block ≡ Some name → (p : ScriptState) (q : FunctionState)
        → StartAlike answered_calls half_body half_state block name p q → Sides block name p q
    from zero name named p q start =
        subst (λ (n : Name). StartAlike answered_calls half_body half_state 0 n p q → Sides 0 n p q)
        (the_name name named) (λ alike. sides p q alike) start
    from (suc block) name named p q start = absurd (no_block block name named)

    -- the machines' own start, where nothing is passed
    from_entry : world.arguments ≡ [] → (block : ℕ) (name : Name) → block_name answered_calls block ≡ Some name → Sides block name left_machine.start right_machine.start
    from_entry empty zero name named =
        subst (λ (n : Name). Sides 0 n left_machine.start right_machine.start) (the_name name named)
        (sides left_machine.start right_machine.start (record {
          script_at = refl;
          function_at = refl;
          same_memory = refl;
          same_events = refl;
          waiting = λ parameter there. sym (ap (λ (values : ℕ → Bits). values parameter.param) (none_assigned same_value (0 ∷ []) world.arguments (λ v. 0) empty));
          names = λ x given. absurd (none_given x given);
        }))
    from_entry empty (suc block) name named = absurd (no_block block name named)

pub reads_right : ReadsRightFromAnywhere answered_calls first_signature half_body half_state
reads_right width world tracked collector fits premises moves = record {
  from_entry = λ block name named is_entry.
      from_entry width world tracked collector
      (no_arguments answered_calls block0 (types_of first_signature.params) world refl refl premises.well_typed.entry fits.arguments) block name named;
  from_unsealed = λ block name named reached unsealed p q start. from width world tracked collector block name named p q start;
}

-- Starts --------------------------------------------------------------------------------------------------------------------

nine : (f : Body) (s : SsaState) (bits : ℕ) (world : World)
    → ((parameter : Pending) → Contains (pending_of (sealed_of s 0)) parameter → 9 ≡ first_value bits parameter.param)
    → StartAlike answered_calls f s 0 block0 (with_nine world) (with_bits bits world f)
nine f s bits world waiting =
    record { script_at = refl; function_at = refl; same_memory = refl; same_events = refl; waiting = waiting; names = λ x given. absurd (none_given x given) }

waits_alone : (bits : ℕ) → 9 ≡ bits → (parameter : Pending) → Contains (waiting_parameter ∷ []) parameter → 9 ≡ first_value bits parameter.param
waits_alone bits is parameter there = subst (λ (p : Pending). 9 ≡ first_value bits p.param) (one_of waiting_parameter parameter there) is

pub starts : (world : World) → StartAlike answered_calls half_body half_state 0 block0 (with_nine world) (with_bits 9 world half_body)
starts world = nine half_body half_state 9 world (waits_alone 9 refl)

-- The premises --------------------------------------------------------------------------------------------------------------

pub each_item : (P : Item → Type 0) → AllByRecursion P items → EachItem P (program_so_far answered_calls)
each_item P each block = by (same_name block block0) refl
  where
    by : (c : Bool) → same_name block block0 ≡ c → AllByRecursion P ((program_so_far answered_calls).items block)
    by true same = rw same each
    by false other = rw other tt

-- no item names or passes anything
nothing_at : (of : Option Item → List Name) → of None ≡ [] → (list : List Item) (k : ℕ) → AllByRecursion (λ item. of (Some item) ≡ []) list → of (slice_get list k) ≡ []
nothing_at of none [] k all = none
nothing_at of none (item ∷ list) zero all = all.0
nothing_at of none (item ∷ list) (suc k) all = nothing_at of none list k all.1

nothing_of : (of : Option Item → List Name) → of None ≡ [] → AllByRecursion (λ item. of (Some item) ≡ []) items → (p : Place Name) (x : Name)
    → Contains (of (slice_get ((program_so_far answered_calls).items p.block) p.index)) x → ⊥
nothing_of of none all p x there =
    none_of (of (slice_get ((program_so_far answered_calls).items p.block) p.index)) x
    (nothing_at of none ((program_so_far answered_calls).items p.block) p.index (each_item (λ item. of (Some item) ≡ []) all p.block)) there

pub premises : PremisesSoFar (may_grow answered_calls) answered_calls first_signature
premises = record {
  well_typed = typed_so_far (may_grow answered_calls) (ledger_after (script_of answered_calls)) (program_so_far answered_calls) first_signature
      (record { items = each_item _ (tt, (record { made_at = refl; operands = tt; edges = tt }, tt)); entry = refl });
  given_before = record {
    named = λ q x there. absurd (nothing_of item_names refl (refl, (refl, tt)) q x there);
    passed = λ q x there. absurd (nothing_of item_passes refl (refl, (refl, tt)) q x there);
  };
}

pub fits : (number : ℕ) → IsWorldOf first_signature (view_of (half_body_with number)) U64 SampleWorld.sample_world
fits number = record { arguments = tt; pointers = refl; slots = record { aligned = λ s slot h. cc; accessible = λ s slot k h below. cc; within = λ s slot h. cc; apart = λ s t slot other k l h. cc } }

-- the use's name is given behind the use
pub leads_nowhere_here : (p : Place Name) → (code_so_far answered_calls).flow.targets p ≡ []
leads_nowhere_here p =
    leads_nowhere answered_calls ((program_so_far answered_calls).items p.block) p.index
    (each_item (PlainlyEarlier answered_calls) (omega arith, ((tt, (omega arith, tt), refl), tt)) p.block)

pub use_is_given : IsGivenBefore (code_so_far answered_calls) (answer_of 3 0) (behind block0 1)
use_is_given path walk =
    inr (given_along (code_so_far answered_calls) leads_nowhere_here path (behind block0 1) 0 (answer_of 3 0) walk (omega arith) (first_of_one (answer_of 3 0) (answer_of 3 0) refl))

-- What is refused -----------------------------------------------------------------------------------------------------------

module _ (number bits : ℕ) where
  abbrev here : Body
  here = half_body_with number

  abbrev right_here : Machine FunctionState Observation
  right_here = starting_at (function_machine (function_run_so_far answered_calls here SampleWorld.sample_world ByMaps)) (with_bits bits SampleWorld.sample_world here)

  abbrev left_here : Machine ScriptState Observation
  left_here = starting_at (script_machine (script_run_so_far answered_calls here SampleWorld.sample_world (λ x. false))) (with_nine SampleWorld.sample_world)

  ended : (n : ℕ) → (state_after right_here (suc (suc n))).control ≡ IsStuck
  ended zero = refl
  ended (suc n) =
      ap (λ (c : Control Placed). (function_machine_of.step_at (function_run_so_far answered_calls here SampleWorld.sample_world ByMaps) (state_after right_here (suc (suc n))) c).control) (ended n)
      ∙ ended n

  stuck_there : {X : Type 0} {rest : List X} → IsStuck ≡ At rest → ⊥
  stuck_there e = cc

  -- the function's machine stands before its constant at first alone, and behind it after one step alone
  first_step : (placed : Placed) (steps : ℕ) → (state_after right_here steps).control ≡ At (placed ∷ []) → steps ≡ 0
  first_step placed zero at = refl
  first_step placed (suc zero) at = absurd (other at)
    where
      other : {X : Type 0} {x : X} → At [] ≡ At (x ∷ []) → ⊥
      other e = cc
  first_step placed (suc (suc n)) at = absurd (stuck_there (sym (ended n) ∙ at))

  last_step : (steps : ℕ) → (state_after right_here steps).control ≡ At [] → steps ≡ 1
  last_step zero at = absurd (other at)
    where
      other : {X : Type 0} {x : X} → At (x ∷ []) ≡ At [] → ⊥
      other e = cc
  last_step (suc zero) at = refl
  last_step (suc (suc n)) at = absurd (stuck_there (sym (ended n) ∙ at))

  -- what a right reading says of the start with 9
  module _ (s : SsaState) (unsealed : is_yes (sealed_of s 0) ≡ false)
      (waiting : (parameter : Pending) → Contains (pending_of (sealed_of s 0)) parameter → 9 ≡ first_value bits parameter.param)
      (right : ReadsRightFromAnywhere answered_calls first_signature here s)
    where
      alike : SideBySide answered_calls here s 0 block0 left_here right_here
      alike =
          (right U64 SampleWorld.sample_world (λ x. false) ByMaps (fits number) premises (inl (nothing_called (script_of answered_calls) refl))).from_unsealed 0 block0 refl ([], (refl, (refl, omega arith))) unsealed
          (with_nine SampleWorld.sample_world) (with_bits bits SampleWorld.sample_world here) (nine here s bits SampleWorld.sample_world waiting)

abbrev pub of_operation : Operation → ℕ
of_operation (Compute (Iconst (pos number))) = number
of_operation _ = 0

-- the number of the constant before which a machine stands
abbrev constant_of : Control Placed → ℕ
constant_of (At (placed ∷ rest)) = of_operation placed.instruction.operation
constant_of _ = 0

pub other_constant : ReadsRightFromAnywhere answered_calls first_signature (half_body_with 8) half_state → ⊥
other_constant right = by (alike 8 9 half_state refl (waits_alone 9 refl) right 0 items refl)
  where
    by : (steps : ℕ) × StandAlike answered_calls (half_body_with 8) half_state 0 block0 0 (state_after (left_here 8 9) 0) (state_after (right_here 8 9) steps) → ⊥
    by found =
        let first : found.0 ≡ 0 = first_step 8 9 _ found.0 found.1.function_at in
        let same : 8 ≡ 7 = ap (λ (steps : ℕ). constant_of (state_after (right_here 8 9) steps).control) (sym first) ∙ ap constant_of found.1.function_at in
        absurd (omega (arith, same))

pub other_record : ReadsRightFromAnywhere answered_calls first_signature half_body (half_state_with 1 (waiting_parameter ∷ [])) → ⊥
unfolding follow
other_record right = by (alike 7 9 (half_state_with 1 (waiting_parameter ∷ [])) refl (waits_alone 9 refl) right 2 [] refl)
  where
    by : (steps : ℕ) × StandAlike answered_calls half_body (half_state_with 1 (waiting_parameter ∷ [])) 0 block0 2 (state_after (left_here 7 9) 2) (state_after (right_here 7 9) steps) → ⊥
    by found =
        let last : found.0 ≡ 1 = last_step 7 9 found.0 found.1.function_at in
        let same : 9 ≡ 7 = found.1.records tt 0 1 (half_record 1 (waiting_parameter ∷ []) 0 0) ∙ ap (λ (steps : ℕ). (state_after (right_here 7 9) steps).values (resolved half_body 1)) last in
        absurd (omega (arith, same))

pub none_waiting : ReadsRightFromAnywhere answered_calls first_signature half_body (half_state_with 0 []) → ⊥
unfolding follow
none_waiting right = by (alike 7 5 (half_state_with 0 []) refl (λ parameter there. absurd (nothing_contained parameter there)) right 1 _ refl)
  where
    by : (steps : ℕ) × StandAlike answered_calls half_body (half_state_with 0 []) 0 block0 1 (state_after (left_here 7 5) 1) (state_after (right_here 7 5) steps) → ⊥
    by found =
        let first : found.0 ≡ 0 = first_step 7 5 _ found.0 found.1.function_at in
        let same : 9 ≡ 5 = found.1.names (answer_of 3 0) use_is_given ∙ ap (λ (steps : ℕ). (state_after (right_here 7 5) steps).values (resolved half_body (answered answered_calls (answer_of 3 0)))) first in
        absurd (omega (arith, same))
