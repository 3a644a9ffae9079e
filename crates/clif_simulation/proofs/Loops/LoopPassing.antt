-- A loop whose block has a parameter of the caller's, before it is sealed, read beside interrupted runs.
use Rattle.std.proofs.Common.{◌≡◌, ◌≢◌, ℕ, zero, suc, Bool, true, false, List, [], ◌∷◌, drop, slice_get, Some, Contains, ◌⊎◌, inl, inr, refl, sym, ◌∙◌, ap, subst, arith}
use Rattle.std.specs.List.{AllByRecursion}
use Rattle.clif_types.specs.declared.target.PointerWidth.{PointerWidth}
use Rattle.clif_types.specs.declared.target.PointerWidth.TheVariants.{U64}
use Rattle.clif_ir.specs.Body.{Body, follow, resolved}
use Rattle.clif_ssa.specs.Ssa.{record_of}
use Rattle.clif_meaning.specs.Bits.{Bits}
use Rattle.clif_meaning.specs.Name.{Name, answer_of, same_name}
use Rattle.clif_tables.specs.Callees.{types_of}
use Rattle.clif_meaning.specs.Request.{script_of}
use Rattle.clif_meaning.specs.Ledger.{ledger_after}
use Rattle.clif_meaning.specs.Program.{Item}
use Rattle.clif_meaning.specs.World.{World}
use Rattle.clif_meaning.specs.Store.{assigned}
use Rattle.clif_meaning.specs.Machine.{Machine, Control, At, Observation, state_after}
use Rattle.clif_meaning.specs.ScriptMachine as script
use Rattle.clif_meaning.specs.ScriptMachine.{ScriptRun}
use Rattle.clif_meaning.specs.FunctionMachine as function_machine_of
use Rattle.clif_meaning.specs.FunctionMachine.{Collector, ByMaps, FunctionRun, same_value}
use Rattle.clif_meaning.specs.FunctionView.{Placed}
use Rattle.clif_meaning.specs.View.{view_of, block_of}
use Rattle.clif_meaning.specs.Path.{Place}
use Rattle.clif_meaning.specs.WellPlaced.{item_gives, item_names, item_passes, program_code, IsGivenBefore, given_on_entry}
use Rattle.clif_meaning.specs.Premises.{IsItemWellTyped}
use Rattle.clif_meaning.specs.Headline.{IsWorldOf}
use Rattle.clif_meaning.specs.BranchExamples.{block}
use Rattle.clif_meaning.specs.SampleExamples.{sample_signature}
use Rattle.clif_meaning.proofs.StraightLine.{nothing_contained, none_of}
use Rattle.clif_meaning.proofs.FirstRow.{one_of, first_of_one}
use Rattle.clif_meaning.proofs.SampleWorld
use Rattle.clif_simulation.proofs.FreeEntry.{free_first}
use Rattle.clif_simulation.specs.Tables.{answered, block_name, program_so_far}
use Rattle.clif_simulation.proofs.Unfinished.SoFar.{typed_so_far}
use Rattle.clif_simulation.specs.Reading.{code_so_far, behind, may_grow, PremisesSoFar, script_run_so_far, function_run_so_far}
use Rattle.clif_simulation.specs.Interrupted.{Unknowns, ScriptStanding, FunctionStanding, interrupted_script, interrupted_function, script_edge, script_goes, function_edge, function_goes, StandsBeside, HasBeside, RunsBeside, ReadsRight}
use Rattle.clif_simulation.specs.InterruptedExamples.{passing_loop_calls, passing_loop_body, passing_loop_body_with, passing_loop_state}
use Rattle.clif_simulation.proofs.Rows.RecordsListed.{nothing_there, passing_record}
use Rattle.clif_simulation.proofs.Finished.Giving.{same_or_other}
use Rattle.clif_simulation.proofs.Loops.LoopAlong.{given_in_block}
use Rattle.clif_simulation.proofs.Loops.LoopWaiting.{nothing_at}
use Rattle.clif_simulation.proofs.Rows.NothingCalled.{nothing_called}

abbrev items : Name → List Item
items name = (program_so_far passing_loop_calls).items name

-- the entry's parameter, the one of the loop's block, and the use
abbrev first : Name
first = answer_of 2 0

abbrev second : Name
second = answer_of 3 0

abbrev used : Name
used = answer_of 9 0

-- What is given before a place ------------------------------------------------------------------------------------------

at_entry : (x : Name) → IsGivenBefore (code_so_far passing_loop_calls) x (behind (block 0) 0) → first ≡ x
at_entry x given = by (given [] (refl, (refl, omega arith)))
  where
    by : Contains (first ∷ []) x ⊎ ⊥ → first ≡ x
    by (inl there) = one_of first x there
    by (inr none) = absurd none

at_front : (x : Name) → IsGivenBefore (code_so_far passing_loop_calls) x (behind (block 1) 0) → (first ≡ x) ⊎ (second ≡ x)
at_front x given = by (given (behind (block 0) 0 ∷ []) (inr (first_of_one (block 1) (block 1) refl, (refl, omega arith)), (refl, (refl, omega arith))))
  where
    by : Contains (second ∷ []) x ⊎ (Contains [] x ⊎ Contains (first ∷ []) x ⊎ ⊥) → (first ≡ x) ⊎ (second ≡ x)
    by (inl there) = inr (one_of second x there)
    by (inr (inl there)) = absurd (nothing_contained x there)
    by (inr (inr (inl there))) = inl (one_of first x there)
    by (inr (inr (inr none))) = absurd none

at_use : (x : Name) → IsGivenBefore (code_so_far passing_loop_calls) x (behind (block 1) 1) → (used ≡ x) ⊎ ((first ≡ x) ⊎ (second ≡ x))
at_use x given =
    by (given (behind (block 1) 0 ∷ behind (block 0) 0 ∷ [])
    (inl (refl, refl, omega arith), (inr (first_of_one (block 1) (block 1) refl, (refl, omega arith)), (refl, (refl, omega arith)))))
  where
    by : Contains [] x ⊎ (Contains (used ∷ []) x ⊎ Contains (second ∷ []) x ⊎ (Contains [] x ⊎ Contains (first ∷ []) x ⊎ ⊥)) → (used ≡ x) ⊎ ((first ≡ x) ⊎ (second ≡ x))
    by (inl there) = absurd (nothing_contained x there)
    by (inr (inl there)) = inl (one_of used x there)
    by (inr (inr (inl there))) = inr (inr (one_of second x there))
    by (inr (inr (inr (inl there)))) = absurd (nothing_contained x there)
    by (inr (inr (inr (inr (inl there))))) = inr (inl (one_of first x there))
    by (inr (inr (inr (inr (inr none))))) = absurd none

-- both sides get one argument alike
same_argument : (arguments : List Bits) → assigned same_name (first ∷ []) arguments (λ n. 0) first ≡ assigned same_value (0 ∷ []) arguments (λ v. 0) 0
same_argument [] = refl
same_argument (bits ∷ arguments) = refl

-- Round the loop --------------------------------------------------------------------------------------------------------

module _ (width : PointerWidth) (world : World) (tracked : Name → Bool) (collector : Collector) (unknowns : Unknowns) where
  abbrev left_run : ScriptRun
  left_run = script_run_so_far passing_loop_calls passing_loop_body world tracked

  abbrev right_run : FunctionRun
  right_run = function_run_so_far passing_loop_calls passing_loop_body world collector

  abbrev left : Machine ScriptStanding Observation
  left = interrupted_script passing_loop_calls passing_loop_state unknowns 0 (block 0) left_run

  abbrev right : Machine FunctionStanding Observation
  right = interrupted_function passing_loop_state unknowns 0 right_run

  abbrev SameBits : ScriptStanding → FunctionStanding → Name → Type 0
  SameBits a c x = a.state.names x ≡ c.state.values (resolved passing_loop_body (answered passing_loop_calls x))

  -- both in block1, behind so many items: the variable has the bits of its parameter, and the caller's have their values'
  record InLoop (count : ℕ) (a : ScriptStanding) (c : FunctionStanding) : Type 0 where
    place : a.place ≡ behind (block 1) count
    entries : a.entries ≡ c.entries
    variable : a.state.variables 0 ≡ c.state.values 2
    of_first : a.state.names first ≡ c.state.values 0
    of_second : a.state.names second ≡ c.state.values 1
    control : c.state.control ≡ At (block_of passing_loop_body 1).items
    script_at : a.state.control ≡ At (drop count (items (block 1)))
    memory : a.state.memory ≡ c.state.memory
    events : a.state.events ≡ c.state.events

  -- at the front, or behind the use, whose name has the bits of the variable's parameter
  data Turn (a : ScriptStanding) (c : FunctionStanding) : Type 0 where
    before_use : InLoop 0 a c → Turn a c
    behind_use : InLoop 1 a c → a.state.names used ≡ c.state.values 2 → Turn a c

  to_use : (a : ScriptStanding) (c : FunctionStanding) → InLoop 0 a c → Turn (left.next a) c
  to_use a c t =
      subst (λ (after : ScriptStanding). Turn after c) (sym (ap (λ (at : Control Item). next_at at) t.script_at)) (behind_use (record {
        place = ap (λ (p : Place Name). behind p.block (suc p.index)) t.place;
        entries = t.entries;
        variable = t.variable;
        of_first = t.of_first;
        of_second = t.of_second;
        control = t.control;
        script_at = refl;
        memory = t.memory;
        events = t.events;
      }) t.variable)
    where
      next_at : Control Item → ScriptStanding
      next_at at = script_goes passing_loop_calls passing_loop_state unknowns a (script_edge left_run a.state at) (script.step_at left_run a.state at)

  -- along the edge back to the front
  to_front : (a : ScriptStanding) (c : FunctionStanding) → InLoop 1 a c → a.state.names used ≡ c.state.values 2 → Turn (left.next a) (right.next c)
  unfolding follow
  to_front a c t of_use =
      subst (λ (after : ScriptStanding). Turn after (right.next c)) (sym (ap (λ (at : Control Item). next_at at) t.script_at))
      (subst (λ (after : FunctionStanding). Turn (next_at (At items_left)) after) (sym (ap (λ (at : Control Placed). function_next_at at) t.control))
      (before_use (record {
        place = refl;
        entries = ap suc t.entries;
        variable = ap (λ (k : ℕ). unknowns k 0) t.entries;
        of_first = t.of_first;
        of_second = of_use;
        control = refl;
        script_at = refl;
        memory = t.memory;
        events = t.events;
      })))
    where
      items_left : List Item
      items_left = drop 1 (items (block 1))

      next_at : Control Item → ScriptStanding
      next_at at = script_goes passing_loop_calls passing_loop_state unknowns a (script_edge left_run a.state at) (script.step_at left_run a.state at)

      function_next_at : Control Placed → FunctionStanding
      function_next_at at = function_goes passing_loop_state unknowns c (function_edge right_run c.state at) (function_machine_of.step_at right_run c.state at)

  met : (n : ℕ) → (steps : ℕ) × Turn (state_after left (suc n)) (state_after right steps)
  unfolding follow
  met zero = (
    1,
    before_use (record {
      place = refl;
      entries = refl;
      variable = refl;
      of_first = same_argument world.arguments;
      of_second = same_argument world.arguments;
      control = refl;
      script_at = refl;
      memory = refl;
      events = refl;
    }),
  )
  met (suc n) = by (met n)
    where
      turn : (steps : ℕ) → Turn (state_after left (suc n)) (state_after right steps) → (steps : ℕ) × Turn (state_after left (suc (suc n))) (state_after right steps)
      turn steps (before_use t) = (steps, to_use (state_after left (suc n)) (state_after right steps) t)
      turn steps (behind_use t of_use) = (suc steps, to_front (state_after left (suc n)) (state_after right steps) t of_use)

      by : (steps : ℕ) × Turn (state_after left (suc n)) (state_after right steps) → (steps : ℕ) × Turn (state_after left (suc (suc n))) (state_after right steps)
      by now = turn now.0 now.1

  -- Both stand alike ----------------------------------------------------------------------------------------------------

  abbrev Beside : ℕ → ScriptStanding → FunctionStanding → Type 0
  Beside count a c = StandsBeside passing_loop_calls passing_loop_body passing_loop_state 1 (block 1) count a.state c.state

  same_parameter : (count : ℕ) (a : ScriptStanding) (c : FunctionStanding) → InLoop count a c → (x : Name) → (first ≡ x) ⊎ (second ≡ x) → SameBits a c x
  unfolding follow
  same_parameter count a c t x (inl is) = subst (SameBits a c) is t.of_first
  same_parameter count a c t x (inr is) = subst (SameBits a c) is t.of_second

  front_beside : (a : ScriptStanding) (c : FunctionStanding) → InLoop 0 a c → Beside 0 a c
  front_beside a c t = record {
    script_at = t.script_at;
    function_at = record { index = 0; at = t.control; instructions = refl };
    same_memory = t.memory;
    same_events = t.events;
    names = λ x given. same_parameter 0 a c t x (at_front x given);
    records = λ at_end. absurd at_end;
  }

  use_beside : (a : ScriptStanding) (c : FunctionStanding) → InLoop 1 a c → a.state.names used ≡ c.state.values 2 → Beside 1 a c
  unfolding follow
  use_beside a c t of_use = record {
    script_at = t.script_at;
    function_at = record { index = 0; at = t.control; instructions = refl };
    same_memory = t.memory;
    same_events = t.events;
    names = λ x given. names x (at_use x given);
    records = λ at_end x v is. recorded x v is;
  }
    where
      names : (x : Name) → (used ≡ x) ⊎ ((first ≡ x) ⊎ (second ≡ x)) → SameBits a c x
      names x (inl is) = subst (SameBits a c) is of_use
      names x (inr before) = same_parameter 1 a c t x before

      recorded : (x v : ℕ) → record_of passing_loop_state x 1 ≡ Some v → a.state.variables x ≡ c.state.values (resolved passing_loop_body v)
      recorded zero v is = subst (λ (w : ℕ). a.state.variables 0 ≡ c.state.values (resolved passing_loop_body w)) (the_record v (sym (passing_record 0 1) ∙ is)) t.variable
        where
          the_record : (v : ℕ) → Some 2 ≡ Some v → 2 ≡ v
          the_record v e = cc
      recorded (suc x) v is = nothing_there (sym (passing_record (suc x) 1) ∙ is)

  has : (a : ScriptStanding) (steps count : ℕ) → a.place ≡ behind (block 1) count → a.entries ≡ (state_after right steps).entries → Beside count a (state_after right steps)
      → HasBeside passing_loop_calls passing_loop_body passing_loop_state a right
  has a steps count place entries beside = record {
    block = 1;
    named = ap (λ (p : Place Name). Some p.block) (sym place);
    steps = steps;
    entries = entries;
    beside = subst (λ (p : Place Name). StandsBeside passing_loop_calls passing_loop_body passing_loop_state 1 p.block p.index a.state (state_after right steps).state) (sym place) beside;
  }

  runs : (n : ℕ) (rest : List Item) → (state_after left n).state.control ≡ At rest → HasBeside passing_loop_calls passing_loop_body passing_loop_state (state_after left n) right
  unfolding follow
  runs zero rest on = record {
    block = 0;
    named = refl;
    steps = 0;
    entries = refl;
    beside = record {
      script_at = refl;
      function_at = record { index = 0; at = refl; instructions = refl };
      same_memory = refl;
      same_events = refl;
      names = λ x given. argument x (at_entry x given);
      records = λ at_end x v is. none_recorded x v is;
    };
  }
    where
      argument : (x : Name) → first ≡ x → SameBits (state_after left 0) (state_after right 0) x
      argument x is = subst (SameBits (state_after left 0) (state_after right 0)) is (same_argument world.arguments)

      none_recorded : (x v : ℕ) → record_of passing_loop_state x 0 ≡ Some v → (state_after left 0).state.variables x ≡ (state_after right 0).state.values (resolved passing_loop_body v)
      none_recorded zero v is = nothing_there (sym (passing_record 0 0) ∙ is)
      none_recorded (suc x) v is = nothing_there (sym (passing_record (suc x) 0) ∙ is)
  runs (suc n) rest on = by (met n)
    where
      turn : (steps : ℕ) → Turn (state_after left (suc n)) (state_after right steps) → HasBeside passing_loop_calls passing_loop_body passing_loop_state (state_after left (suc n)) right
      turn steps (before_use t) =
          has (state_after left (suc n)) steps 0 t.place t.entries (front_beside (state_after left (suc n)) (state_after right steps) t)
      turn steps (behind_use t of_use) =
          has (state_after left (suc n)) steps 1 t.place t.entries (use_beside (state_after left (suc n)) (state_after right steps) t of_use)

      by : (steps : ℕ) × Turn (state_after left (suc n)) (state_after right steps) → HasBeside passing_loop_calls passing_loop_body passing_loop_state (state_after left (suc n)) right
      by now = turn now.0 now.1

is_block : (a b : Name) → Some a ≡ Some b → a ≡ b
is_block a b h = cc

apart : (name : Name) → block 0 ≡ name → block 1 ≡ name → ⊥
apart name one two = let h : 0 ≡ 1 = ap (λ (n : Name). n.place) (one ∙ sym two) in omega (arith, h)

the_entry : (number : ℕ) (name : Name) → block_name passing_loop_calls number ≡ Some name → Some (block 0) ≡ Some name → (number ≡ 0) × (block 0 ≡ name)
the_entry zero name named is = (refl, is_block (block 0) name is)
the_entry (suc zero) name named is = absurd (apart name (is_block (block 0) name is) (is_block (block 1) name named))
the_entry (suc (suc number)) name named is = cc

-- both runs, from the entry
abbrev Runs : PointerWidth → World → (Name → Bool) → Collector → ℕ → Name → Type 0
Runs width world tracked collector =
    RunsBeside passing_loop_calls passing_loop_body passing_loop_state (script_run_so_far passing_loop_calls passing_loop_body world tracked)
    (function_run_so_far passing_loop_calls passing_loop_body world collector)

pub reads_right : ReadsRight passing_loop_calls sample_signature passing_loop_body passing_loop_state
reads_right width world tracked collector fits premises free moves number name named is_entry = by (the_entry number name named is_entry)
  where
    by : (number ≡ 0) × (block 0 ≡ name) → Runs width world tracked collector number name
    by is =
        subst (λ (b : ℕ). Runs width world tracked collector b name) (sym is.0)
        (subst (Runs width world tracked collector 0) is.1 (runs width world tracked collector))

-- What is refused -------------------------------------------------------------------------------------------------------

each_items : (P : List Item → Type 0) → P [] → P (items (block 0)) → P (items (block 1)) → (name : Name) → P (items name)
each_items P none of_entry of_loop name = by (same_or_other name (block 0)) (same_or_other name (block 1))
  where
    by : ((same_name name (block 0) ≡ true) × (name ≡ block 0)) ⊎ ((same_name name (block 0) ≡ false) × (name ≢ block 0))
        → ((same_name name (block 1) ≡ true) × (name ≡ block 1)) ⊎ ((same_name name (block 1) ≡ false) × (name ≢ block 1)) → P (items name)
    by (inl one) two = subst (λ (n : Name). P (items n)) (sym one.1) of_entry
    by (inr other) (inl two) = subst (λ (n : Name). P (items n)) (sym two.1) of_loop
    by (inr other) (inr another) = rw (other.0, another.0) none

-- what an edge passes: the entry's parameter, and what was used
data IsPassed (q : Place Name) (x : Name) : Type 0 where
  at_the_entry : q.block ≡ block 0 → q.index ≡ 0 → first ≡ x → IsPassed q x
  in_the_loop : q.block ≡ block 1 → q.index ≡ 1 → used ≡ x → IsPassed q x

is_passed : (q : Place Name) (x : Name) → Contains (item_passes (slice_get (items q.block) q.index)) x → IsPassed q x
is_passed q x there = by (same_or_other q.block (block 0)) (same_or_other q.block (block 1))
  where
    of_entry : (k : ℕ) → q.index ≡ k → Contains (item_passes (slice_get (items (block 0)) k)) x → q.block ≡ block 0 → IsPassed q x
    of_entry zero index here here_block = at_the_entry here_block index (one_of first x here)
    of_entry (suc zero) index here here_block = absurd (nothing_contained x here)
    of_entry (suc (suc k)) index here here_block = absurd (nothing_contained x here)

    of_loop : (k : ℕ) → q.index ≡ k → Contains (item_passes (slice_get (items (block 1)) k)) x → q.block ≡ block 1 → IsPassed q x
    of_loop zero index here here_block = absurd (nothing_contained x here)
    of_loop (suc zero) index here here_block = in_the_loop here_block index (one_of used x here)
    of_loop (suc (suc zero)) index here here_block = absurd (nothing_contained x here)
    of_loop (suc (suc (suc k))) index here here_block = absurd (nothing_contained x here)

    nowhere : (k : ℕ) → Contains (item_passes (slice_get [] k)) x → ⊥
    nowhere zero here = nothing_contained x here
    nowhere (suc k) here = nothing_contained x here

    elsewhere : same_name q.block (block 0) ≡ false → same_name q.block (block 1) ≡ false → items q.block ≡ []
    elsewhere other another = rw (other, another) refl

    by : ((same_name q.block (block 0) ≡ true) × (q.block ≡ block 0)) ⊎ ((same_name q.block (block 0) ≡ false) × (q.block ≢ block 0))
        → ((same_name q.block (block 1) ≡ true) × (q.block ≡ block 1)) ⊎ ((same_name q.block (block 1) ≡ false) × (q.block ≢ block 1)) → IsPassed q x
    by (inl one) two = of_entry q.index refl (subst (λ (n : Name). Contains (item_passes (slice_get (items n) q.index)) x) one.1 there) one.1
    by (inr other) (inl two) = of_loop q.index refl (subst (λ (n : Name). Contains (item_passes (slice_get (items n) q.index)) x) two.1 there) two.1
    by (inr other) (inr another) =
        absurd (nowhere q.index (subst (λ (list : List Item). Contains (item_passes (slice_get list q.index)) x) (elsewhere other.0 another.0) there))

passed_before : (q : Place Name) (x : Name) → IsPassed q x → IsGivenBefore (program_code (program_so_far passing_loop_calls)) x q
passed_before q x (at_the_entry here index is) path walk =
    inl (subst (λ (b : Name). Contains (given_on_entry (program_code (program_so_far passing_loop_calls)) b q.index) x) (sym here)
    (subst (λ (k : ℕ). Contains (given_on_entry (program_code (program_so_far passing_loop_calls)) (block 0) k) x) (sym index) (first_of_one first x is)))
passed_before q x (in_the_loop here index is) path walk =
    inr (given_in_block (program_code (program_so_far passing_loop_calls)) path q 0 x walk (omega (arith, index))
    (subst (λ (b : Name). Contains (item_gives (slice_get (items b) 0)) x) (sym here) (first_of_one used x is)))

premises : PremisesSoFar (may_grow passing_loop_calls) passing_loop_calls sample_signature
premises = record {
  well_typed = typed_so_far (may_grow passing_loop_calls) (ledger_after (script_of passing_loop_calls)) (program_so_far passing_loop_calls) sample_signature (record {
    items = each_items (AllByRecursion (IsItemWellTyped (ledger_after (script_of passing_loop_calls)) (program_so_far passing_loop_calls) (types_of sample_signature.returns))) tt
        (record { made_at = refl; operands = tt; edges = (refl, tt) }, tt)
        (tt, (record { made_at = refl; operands = tt; edges = (refl, tt) }, tt));
    entry = refl;
  });
  given_before = record {
    named = λ q x there.
        absurd (none_of (item_names (slice_get (items q.block) q.index)) x
        (nothing_at item_names refl (items q.block) q.index (each_items (AllByRecursion (λ item. item_names (Some item) ≡ [])) tt (refl, tt) (refl, (refl, tt)) q.block)) there);
    passed = λ q x there. inr (passed_before q x (is_passed q x there));
  };
}

-- a world that passes zero
abbrev passing_zero : World
passing_zero = record SampleWorld.sample_world { arguments = 0 ∷ [] }

abbrev turned_body : Body
turned_body = passing_loop_body_with 1

fits : IsWorldOf sample_signature (view_of turned_body) U64 passing_zero
fits = record {
  arguments = SampleWorld.zeros_fit (types_of sample_signature.params);
  pointers = refl;
  slots = record { aligned = λ s slot h. cc; accessible = λ s slot k h below. cc; within = λ s slot h. cc; apart = λ s t slot other k l h. cc };
}

-- variables hold 9
abbrev nine : Unknowns
nine n x = 9

abbrev left_nine : Machine ScriptStanding Observation
left_nine = interrupted_script passing_loop_calls passing_loop_state nine 0 (block 0) (script_run_so_far passing_loop_calls turned_body passing_zero (λ x. false))

abbrev turned_run : FunctionRun
turned_run = function_run_so_far passing_loop_calls turned_body passing_zero ByMaps

abbrev right_nine : Machine FunctionStanding Observation
right_nine = interrupted_function passing_loop_state nine 0 turned_run

-- the parameter keeps what it got at first, however often the loop is gone round
abbrev KeepsZero : FunctionStanding → Type 0
KeepsZero c = (c.state.control ≡ At (block_of turned_body 1).items) × (c.state.values 1 ≡ 0)

stays_zero : (n : ℕ) → KeepsZero (state_after right_nine (suc n))
unfolding follow
stays_zero zero = (refl, refl)
stays_zero (suc n) = by (state_after right_nine (suc n)) (stays_zero n)
  where
    by : (c : FunctionStanding) → KeepsZero c → KeepsZero (right_nine.next c)
    by c before =
        subst KeepsZero (sym (ap (λ (at : Control Placed).
        function_goes passing_loop_state nine c (function_edge turned_run c.state at) (function_machine_of.step_at turned_run c.state at)) before.0))
        (refl, before.1)

none_set : (steps : ℕ) → (state_after right_nine steps).state.values 1 ≡ 0
none_set zero = refl
none_set (suc n) = (stays_zero n).1

second_is_given : IsGivenBefore (code_so_far passing_loop_calls) second (behind (block 1) 0)
second_is_given path walk = inl (first_of_one second second refl)

pub other_argument : ReadsRight passing_loop_calls sample_signature turned_body passing_loop_state → ⊥
unfolding follow
other_argument reads = by (reads U64 passing_zero (λ x. false) ByMaps fits premises (free_first turned_body passing_loop_state refl refl) (inl (nothing_called (script_of passing_loop_calls) refl)) 0 (block 0) refl refl nine 3 _ refl)
  where
    only_block : (number : ℕ) → block_name passing_loop_calls number ≡ Some (block 1) → number ≡ 1
    only_block zero named = absurd (apart (block 1) (is_block (block 0) (block 1) named) refl)
    only_block (suc zero) named = refl
    only_block (suc (suc number)) named = cc

    by : HasBeside passing_loop_calls turned_body passing_loop_state (state_after left_nine 3) right_nine → ⊥
    by found =
        let alike : StandsBeside passing_loop_calls turned_body passing_loop_state 1 (block 1) 0 (state_after left_nine 3).state (state_after right_nine found.steps).state =
        subst (λ (b : ℕ). StandsBeside passing_loop_calls turned_body passing_loop_state b (block 1) 0 (state_after left_nine 3).state (state_after right_nine found.steps).state)
        (only_block found.block found.named) found.beside in
        let same : 9 ≡ 0 = alike.names second second_is_given ∙ none_set found.steps in
        absurd (omega (arith, same))
