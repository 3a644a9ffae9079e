-- A loop before its block is sealed, read beside interrupted runs.
use Rattle.std.proofs.Common.{◌≡◌, ◌≢◌, ℕ, zero, suc, Bool, true, false, List, [], ◌∷◌, drop, slice_get, Option, Some, None, Contains, ◌⊎◌, inl, inr, refl, sym, ◌∙◌, ap, subst, arith}
use Rattle.std.specs.List.{AllByRecursion}
use Rattle.clif_types.specs.declared.target.PointerWidth.{PointerWidth}
use Rattle.clif_types.specs.declared.target.PointerWidth.TheVariants.{U64}
use Rattle.clif_ir.specs.Body.{follow, resolved}
use Rattle.clif_ssa.specs.Ssa.{SsaState, record_of}
use Rattle.clif_meaning.specs.Name.{Name, answer_of, same_name}
use Rattle.clif_tables.specs.Callees.{types_of}
use Rattle.clif_meaning.specs.Request.{script_of}
use Rattle.clif_meaning.specs.Ledger.{ledger_after}
use Rattle.clif_meaning.specs.Program.{Item}
use Rattle.clif_meaning.specs.World.{World}
use Rattle.clif_meaning.specs.Machine.{Machine, Control, At, Observation, state_after}
use Rattle.clif_meaning.specs.ScriptMachine as script
use Rattle.clif_meaning.specs.ScriptMachine.{ScriptRun}
use Rattle.clif_meaning.specs.FunctionMachine as function_machine_of
use Rattle.clif_meaning.specs.FunctionMachine.{Collector, ByMaps, FunctionRun}
use Rattle.clif_meaning.specs.FunctionView.{Placed}
use Rattle.clif_meaning.specs.View.{view_of, block_of}
use Rattle.clif_meaning.specs.Path.{Place}
use Rattle.clif_meaning.specs.WellPlaced.{item_names, item_passes, IsGivenBefore}
use Rattle.clif_meaning.specs.Premises.{IsItemWellTyped}
use Rattle.clif_meaning.specs.Headline.{IsWorldOf}
use Rattle.clif_meaning.specs.BranchExamples.{block, both_arms_signature}
use Rattle.clif_meaning.proofs.StraightLine.{nothing_contained, none_of}
use Rattle.clif_meaning.proofs.FirstRow.{one_of, first_of_one}
use Rattle.clif_meaning.proofs.SampleWorld
use Rattle.clif_simulation.proofs.FreeEntry.{free_first}
use Rattle.clif_simulation.specs.Tables.{answered, block_name, program_so_far}
use Rattle.clif_simulation.proofs.Unfinished.SoFar.{typed_so_far}
use Rattle.clif_simulation.specs.Reading.{code_so_far, behind, may_grow, PremisesSoFar, script_run_so_far, function_run_so_far}
use Rattle.clif_simulation.specs.Interrupted.{Unknowns, ScriptStanding, FunctionStanding, interrupted_script, interrupted_function, script_edge, script_goes, function_edge, function_goes, StandsBeside, HasBeside, RunsBeside, ReadsRight}
use Rattle.clif_simulation.specs.InterruptedExamples.{waiting_loop_calls, waiting_loop_body, waiting_loop_state}
use Rattle.clif_simulation.proofs.Rows.RecordsListed.{nothing_there, waiting_record}
use Rattle.clif_simulation.specs.ReadingExamples.{waiting_parameter}
use Rattle.clif_simulation.proofs.Finished.Giving.{same_or_other}
use Rattle.clif_simulation.proofs.NameLists.{same_name_cases}
use Rattle.clif_simulation.proofs.Loops.LoopAlong.{given_in_block}
use Rattle.clif_simulation.proofs.Rows.NothingCalled.{nothing_called}

abbrev items : Name → List Item
items name = (program_so_far waiting_loop_calls).items name

-- What is given before a place ------------------------------------------------------------------------------------------

none_at_entry : (x : Name) → IsGivenBefore (code_so_far waiting_loop_calls) x (behind (block 0) 0) → ⊥
none_at_entry x given = by (given [] (refl, (refl, omega arith)))
  where
    by : Contains [] x ⊎ ⊥ → ⊥
    by (inl there) = nothing_contained x there
    by (inr none) = none

none_at_front : (x : Name) → IsGivenBefore (code_so_far waiting_loop_calls) x (behind (block 1) 0) → ⊥
none_at_front x given = by (given (behind (block 0) 0 ∷ []) (inr (first_of_one (block 1) (block 1) refl, (refl, omega arith)), (refl, (refl, omega arith))))
  where
    by : Contains [] x ⊎ (Contains [] x ⊎ Contains [] x ⊎ ⊥) → ⊥
    by (inl there) = nothing_contained x there
    by (inr (inl there)) = nothing_contained x there
    by (inr (inr (inl there))) = nothing_contained x there
    by (inr (inr (inr none))) = none

use_given : (x : Name) → IsGivenBefore (code_so_far waiting_loop_calls) x (behind (block 1) 1) → answer_of 7 0 ≡ x
use_given x given =
    by (given (behind (block 1) 0 ∷ behind (block 0) 0 ∷ [])
    (inl (refl, refl, omega arith), (inr (first_of_one (block 1) (block 1) refl, (refl, omega arith)), (refl, (refl, omega arith)))))
  where
    by : Contains [] x ⊎ (Contains (answer_of 7 0 ∷ []) x ⊎ Contains [] x ⊎ (Contains [] x ⊎ Contains [] x ⊎ ⊥)) → answer_of 7 0 ≡ x
    by (inl there) = absurd (nothing_contained x there)
    by (inr (inl there)) = one_of (answer_of 7 0) x there
    by (inr (inr (inl there))) = absurd (nothing_contained x there)
    by (inr (inr (inr (inl there)))) = absurd (nothing_contained x there)
    by (inr (inr (inr (inr (inl there))))) = absurd (nothing_contained x there)
    by (inr (inr (inr (inr (inr none))))) = absurd none

-- Round the loop --------------------------------------------------------------------------------------------------------

abbrev state : SsaState
state = waiting_loop_state (waiting_parameter ∷ [])

module _ (width : PointerWidth) (world : World) (tracked : Name → Bool) (collector : Collector) (unknowns : Unknowns) where
  abbrev left_run : ScriptRun
  left_run = script_run_so_far waiting_loop_calls waiting_loop_body world tracked

  abbrev right_run : FunctionRun
  right_run = function_run_so_far waiting_loop_calls waiting_loop_body world collector

  abbrev left : Machine ScriptStanding Observation
  left = interrupted_script waiting_loop_calls state unknowns 0 (block 0) left_run

  abbrev right : Machine FunctionStanding Observation
  right = interrupted_function state unknowns 0 right_run

  abbrev Beside : ℕ → ScriptStanding → FunctionStanding → Type 0
  Beside count a c = StandsBeside waiting_loop_calls waiting_loop_body state 1 (block 1) count a.state c.state

  -- both in block1, behind so many items: the variable has the parameter's bits, and behind the use its name has them too
  record InLoop (count : ℕ) (a : ScriptStanding) (c : FunctionStanding) : Type 0 where
    place : a.place ≡ behind (block 1) count
    entries : a.entries ≡ c.entries
    variable : a.state.variables 0 ≡ c.state.values 0
    control : c.state.control ≡ At (block_of waiting_loop_body 1).items
    beside : Beside count a c

  data Turn (a : ScriptStanding) (c : FunctionStanding) : Type 0 where
    at_front : InLoop 0 a c → Turn a c
    at_use : InLoop 1 a c → Turn a c

  into_loop : (a : ScriptStanding) (c : FunctionStanding) → a.place ≡ behind (block 1) 0 → a.entries ≡ c.entries → a.state.variables 0 ≡ c.state.values 0
      → a.state.control ≡ At (items (block 1)) → c.state.control ≡ At (block_of waiting_loop_body 1).items → a.state.memory ≡ c.state.memory
      → a.state.events ≡ c.state.events → InLoop 0 a c
  into_loop a c place entries variable left_at right_at memory events = record {
    place = place;
    entries = entries;
    variable = variable;
    control = right_at;
    beside = record {
      script_at = left_at;
      function_at = record { index = 0; at = right_at; instructions = refl };
      same_memory = memory;
      same_events = events;
      names = λ x given. absurd (none_at_front x given);
      records = λ at_end. absurd at_end;
    };
  }

  recorded : (variables values : ℕ → ℕ) → variables 0 ≡ values 0 → (x v : ℕ) → record_of state x 1 ≡ Some v → variables x ≡ values (resolved waiting_loop_body v)
  unfolding follow
  recorded variables values same zero v is = subst (λ (w : ℕ). variables 0 ≡ values (resolved waiting_loop_body w)) (the_record v (sym (waiting_record (waiting_parameter ∷ []) 0 1) ∙ is)) same
    where
      the_record : (v : ℕ) → Some 0 ≡ Some v → 0 ≡ v
      the_record v e = cc
  recorded variables values same (suc x) v is = nothing_there (sym (waiting_record (waiting_parameter ∷ []) (suc x) 1) ∙ is)

  -- over the use
  to_use : (a : ScriptStanding) (c : FunctionStanding) → InLoop 0 a c → Turn (left.next a) c
  unfolding follow
  to_use a c t =
      subst (λ (after : ScriptStanding). Turn after c) (sym (ap (λ (at : Control Item). next_at at) t.beside.script_at)) (at_use (record {
        place = ap (λ (p : Place Name). behind p.block (suc p.index)) t.place;
        entries = t.entries;
        variable = t.variable;
        control = t.control;
        beside = record {
          script_at = refl;
          function_at = record { index = 0; at = t.control; instructions = refl };
          same_memory = t.beside.same_memory;
          same_events = t.beside.same_events;
          names = λ x given. subst (λ (n : Name). (next_at (At (items (block 1)))).state.names n ≡ c.state.values (resolved waiting_loop_body (answered waiting_loop_calls n))) (use_given x given) t.variable;
          records = λ at_end. recorded a.state.variables c.state.values t.variable;
        };
      }))
    where
      next_at : Control Item → ScriptStanding
      next_at at = script_goes waiting_loop_calls state unknowns a (script_edge left_run a.state at) (script.step_at left_run a.state at)

  -- along the edge back to the front
  to_front : (a : ScriptStanding) (c : FunctionStanding) → InLoop 1 a c → Turn (left.next a) (right.next c)
  to_front a c t =
      subst (λ (after : ScriptStanding). Turn after (right.next c)) (sym (ap (λ (at : Control Item). next_at at) t.beside.script_at))
      (subst (λ (after : FunctionStanding). Turn (next_at (At (items_left))) after) (sym (ap (λ (at : Control Placed). function_next_at at) t.control))
      (at_front (into_loop (next_at (At items_left)) (function_next_at (At (block_of waiting_loop_body 1).items)) refl (ap suc t.entries)
      (ap (λ (k : ℕ). unknowns k 0) t.entries) refl refl t.beside.same_memory t.beside.same_events)))
    where
      items_left : List Item
      items_left = drop 1 (items (block 1))

      next_at : Control Item → ScriptStanding
      next_at at = script_goes waiting_loop_calls state unknowns a (script_edge left_run a.state at) (script.step_at left_run a.state at)

      function_next_at : Control Placed → FunctionStanding
      function_next_at at = function_goes state unknowns c (function_edge right_run c.state at) (function_machine_of.step_at right_run c.state at)

  met : (n : ℕ) → (steps : ℕ) × Turn (state_after left (suc n)) (state_after right steps)
  met zero = (1, at_front (into_loop (state_after left 1) (state_after right 1) refl refl refl refl refl refl refl))
  met (suc n) = by (met n)
    where
      turn : (steps : ℕ) → Turn (state_after left (suc n)) (state_after right steps) → (steps : ℕ) × Turn (state_after left (suc (suc n))) (state_after right steps)
      turn steps (at_front t) = (steps, to_use (state_after left (suc n)) (state_after right steps) t)
      turn steps (at_use t) = (suc steps, to_front (state_after left (suc n)) (state_after right steps) t)

      by : (steps : ℕ) × Turn (state_after left (suc n)) (state_after right steps) → (steps : ℕ) × Turn (state_after left (suc (suc n))) (state_after right steps)
      by now = turn now.0 now.1

  has : (a : ScriptStanding) (steps count : ℕ) → InLoop count a (state_after right steps) → HasBeside waiting_loop_calls waiting_loop_body state a right
  has a steps count t = record {
    block = 1;
    named = ap (λ (p : Place Name). Some p.block) (sym t.place);
    steps = steps;
    entries = t.entries;
    beside = subst (λ (p : Place Name). StandsBeside waiting_loop_calls waiting_loop_body state 1 p.block p.index a.state (state_after right steps).state) (sym t.place) t.beside;
  }

  runs : (n : ℕ) (rest : List Item) → (state_after left n).state.control ≡ At rest → HasBeside waiting_loop_calls waiting_loop_body state (state_after left n) right
  runs zero rest on = record {
    block = 0;
    named = refl;
    steps = 0;
    entries = refl;
    beside = record {
      script_at = refl;
      function_at = record { index = 0; at = refl; instructions = refl };
      same_memory = refl;
      same_events = refl;
      names = λ x given. absurd (none_at_entry x given);
      records = λ at_end x v is. none_recorded x v is;
    };
  }
    where
      none_recorded : (x v : ℕ) → record_of state x 0 ≡ Some v → (state_after left 0).state.variables x ≡ (state_after right 0).state.values (resolved waiting_loop_body v)
      none_recorded zero v is = nothing_there (sym (waiting_record (waiting_parameter ∷ []) 0 0) ∙ is)
      none_recorded (suc x) v is = nothing_there (sym (waiting_record (waiting_parameter ∷ []) (suc x) 0) ∙ is)
  runs (suc n) rest on = by (met n)
    where
      turn : (steps : ℕ) → Turn (state_after left (suc n)) (state_after right steps) → HasBeside waiting_loop_calls waiting_loop_body state (state_after left (suc n)) right
      turn steps (at_front t) = has (state_after left (suc n)) steps 0 t
      turn steps (at_use t) = has (state_after left (suc n)) steps 1 t

      by : (steps : ℕ) × Turn (state_after left (suc n)) (state_after right steps) → HasBeside waiting_loop_calls waiting_loop_body state (state_after left (suc n)) right
      by now = turn now.0 now.1

the_entry : (number : ℕ) (name : Name) → block_name waiting_loop_calls number ≡ Some name → Some (block 0) ≡ Some name → (number ≡ 0) × (block 0 ≡ name)
the_entry zero name named is = (refl, cc)
the_entry (suc zero) name named is = absurd (other (is_block (block 0) name is) (is_block (block 1) name named))
  where
    is_block : (a b : Name) → Some a ≡ Some b → a ≡ b
    is_block a b h = cc

    other : block 0 ≡ name → block 1 ≡ name → ⊥
    other one two = let h : 0 ≡ 1 = ap (λ (n : Name). n.place) (one ∙ sym two) in omega (arith, h)
the_entry (suc (suc number)) name named is = cc

pub reads_right : ReadsRight waiting_loop_calls both_arms_signature waiting_loop_body state
reads_right width world tracked collector fits premises free moves number name named is_entry = by (the_entry number name named is_entry)
  where
    by : (number ≡ 0) × (block 0 ≡ name)
        → RunsBeside waiting_loop_calls waiting_loop_body state (script_run_so_far waiting_loop_calls waiting_loop_body world tracked)
        (function_run_so_far waiting_loop_calls waiting_loop_body world collector) number name
    by is =
        subst (λ (b : ℕ). RunsBeside waiting_loop_calls waiting_loop_body state (script_run_so_far waiting_loop_calls waiting_loop_body world tracked)
        (function_run_so_far waiting_loop_calls waiting_loop_body world collector) b name) (sym is.0)
        (subst (RunsBeside waiting_loop_calls waiting_loop_body state (script_run_so_far waiting_loop_calls waiting_loop_body world tracked)
        (function_run_so_far waiting_loop_calls waiting_loop_body world collector) 0) is.1 (runs width world tracked collector))

-- What is refused -------------------------------------------------------------------------------------------------------

each_items : (P : List Item → Type 0) → P [] → P (items (block 0)) → P (items (block 1)) → (name : Name) → P (items name)
each_items P none first second name = by (same_or_other name (block 0)) (same_or_other name (block 1))
  where
    by : ((same_name name (block 0) ≡ true) × (name ≡ block 0)) ⊎ ((same_name name (block 0) ≡ false) × (name ≢ block 0))
        → ((same_name name (block 1) ≡ true) × (name ≡ block 1)) ⊎ ((same_name name (block 1) ≡ false) × (name ≢ block 1)) → P (items name)
    by (inl one) two = subst (λ (n : Name). P (items n)) (sym one.1) first
    by (inr other) (inl two) = subst (λ (n : Name). P (items n)) (sym two.1) second
    by (inr other) (inr another) = rw (other.0, another.0) none

pub nothing_at : (of : Option Item → List Name) → of None ≡ [] → (list : List Item) (k : ℕ) → AllByRecursion (λ item. of (Some item) ≡ []) list → of (slice_get list k) ≡ []
nothing_at of none [] zero all = none
nothing_at of none [] (suc k) all = none
nothing_at of none (item ∷ list) zero all = all.0
nothing_at of none (item ∷ list) (suc k) all = nothing_at of none list k all.1

-- what holds of no items and of those of one block holds of each block's, where no other has any
pub of_one_block : (items : Name → List Item) (B : Name) → ((name : Name) → same_name name B ≡ false → items name ≡ []) → (P : Name → List Item → Type 0)
    → ((name : Name) → P name []) → P B (items B) → (name : Name) → P name (items name)
of_one_block items B elsewhere P none of_block name = by (same_name_cases name B)
  where
    by : (name ≡ B) ⊎ ((name ≢ B) × (same_name name B ≡ false)) → P name (items name)
    by (inl same) = subst (λ (n : Name). P n (items n)) (sym same) of_block
    by (inr other) = subst (P name) (sym (elsewhere name other.1)) (none name)

premises : PremisesSoFar (may_grow waiting_loop_calls) waiting_loop_calls both_arms_signature
premises = record {
  well_typed = typed_so_far (may_grow waiting_loop_calls) (ledger_after (script_of waiting_loop_calls)) (program_so_far waiting_loop_calls) both_arms_signature (record {
    items = each_items (AllByRecursion (IsItemWellTyped (ledger_after (script_of waiting_loop_calls)) (program_so_far waiting_loop_calls) (types_of both_arms_signature.returns))) tt
        (record { made_at = refl; operands = tt; edges = (refl, tt) }, tt)
        (tt, (record { made_at = refl; operands = tt; edges = (refl, tt) }, tt));
    entry = refl;
  });
  given_before = record {
    named = λ q x there.
        absurd (none_of (item_names (slice_get (items q.block) q.index)) x
        (nothing_at item_names refl (items q.block) q.index (each_items (AllByRecursion (λ item. item_names (Some item) ≡ [])) tt (refl, tt) (refl, (refl, tt)) q.block)) there);
    passed = λ q x there.
        absurd (none_of (item_passes (slice_get (items q.block) q.index)) x
        (nothing_at item_passes refl (items q.block) q.index (each_items (AllByRecursion (λ item. item_passes (Some item) ≡ [])) tt (refl, tt) (refl, (refl, tt)) q.block)) there);
  };
}

fits : IsWorldOf both_arms_signature (view_of waiting_loop_body) U64 SampleWorld.sample_world
fits = record { arguments = tt; pointers = refl; slots = record { aligned = λ s slot h. cc; accessible = λ s slot k h below. cc; within = λ s slot h. cc; apart = λ s t slot other k l h. cc } }

-- variables hold 9
abbrev nine : Unknowns
nine n x = 9

abbrev left_nine : Machine ScriptStanding Observation
left_nine = interrupted_script waiting_loop_calls (waiting_loop_state []) nine 0 (block 0) (script_run_so_far waiting_loop_calls waiting_loop_body SampleWorld.sample_world (λ x. false))

abbrev right_nine : Machine FunctionStanding Observation
right_nine = interrupted_function (waiting_loop_state []) nine 0 (function_run_so_far waiting_loop_calls waiting_loop_body SampleWorld.sample_world ByMaps)

-- the parameter that doesn't wait has no bits set, however often the loop is gone round
none_set : (steps : ℕ) → ((state_after right_nine steps).state.control ≡ At (block_of waiting_loop_body 1).items) × ((state_after right_nine steps).state.values 0 ≡ 0)
none_set zero = (refl, refl)
none_set (suc n) = by (state_after right_nine n) (none_set n)
  where
    by : (c : FunctionStanding) → (c.state.control ≡ At (block_of waiting_loop_body 1).items) × (c.state.values 0 ≡ 0)
        → ((right_nine.next c).state.control ≡ At (block_of waiting_loop_body 1).items) × ((right_nine.next c).state.values 0 ≡ 0)
    by c before =
        subst (λ (after : FunctionStanding). (after.state.control ≡ At (block_of waiting_loop_body 1).items) × (after.state.values 0 ≡ 0))
        (sym (ap (λ (at : Control Placed).
        function_goes (waiting_loop_state []) nine c
        (function_edge (function_run_so_far waiting_loop_calls waiting_loop_body SampleWorld.sample_world ByMaps) c.state at)
        (function_machine_of.step_at (function_run_so_far waiting_loop_calls waiting_loop_body SampleWorld.sample_world ByMaps) c.state at)) before.0))
        (refl, before.1)

use_is_given : IsGivenBefore (code_so_far waiting_loop_calls) (answer_of 7 0) (behind (block 1) 1)
use_is_given path walk =
    inr (given_in_block (code_so_far waiting_loop_calls) path (behind (block 1) 1) 0 (answer_of 7 0) walk (omega arith) (first_of_one (answer_of 7 0) (answer_of 7 0) refl))

pub none_waiting : ReadsRight waiting_loop_calls both_arms_signature waiting_loop_body (waiting_loop_state []) → ⊥
unfolding follow
none_waiting reads = by (reads U64 SampleWorld.sample_world (λ x. false) ByMaps fits premises (free_first waiting_loop_body (waiting_loop_state []) refl refl) (inl (nothing_called (script_of waiting_loop_calls) refl)) 0 (block 0) refl refl nine 2 _ refl)
  where
    only_block : (number : ℕ) → block_name waiting_loop_calls number ≡ Some (block 1) → number ≡ 1
    only_block zero named = let h : 0 ≡ 1 = ap (λ (n : Name). n.place) (same (block 0) (block 1) named) in absurd (omega (arith, h))
      where
        same : (a b : Name) → Some a ≡ Some b → a ≡ b
        same a b h = cc
    only_block (suc zero) named = refl
    only_block (suc (suc number)) named = cc

    by : HasBeside waiting_loop_calls waiting_loop_body (waiting_loop_state []) (state_after left_nine 2) right_nine → ⊥
    by found =
        let alike : StandsBeside waiting_loop_calls waiting_loop_body (waiting_loop_state []) 1 (block 1) 1 (state_after left_nine 2).state (state_after right_nine found.steps).state =
        subst (λ (b : ℕ). StandsBeside waiting_loop_calls waiting_loop_body (waiting_loop_state []) b (block 1) 1 (state_after left_nine 2).state (state_after right_nine found.steps).state)
        (only_block found.block found.named) found.beside in
        let same : 9 ≡ 0 = alike.names (answer_of 7 0) use_is_given ∙ (none_set found.steps).1 in
        absurd (omega (arith, same))
