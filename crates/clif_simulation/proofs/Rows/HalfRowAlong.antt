-- The row `first` up to its constant, read beside interrupted runs.
use Rattle.std.proofs.Common.{◌≡◌, ℕ, zero, suc, Bool, false, List, [], ◌∷◌, map, flat_map, drop, Some, ◌⊎◌, inl, inr, refl, sym, ◌∙◌, ap, subst, arith}
use Rattle.clif_types.specs.declared.target.PointerWidth.{PointerWidth}
use Rattle.clif_types.specs.declared.target.PointerWidth.TheVariants.{U64}
use Rattle.clif_ir.specs.Body.{Body, follow, resolved}
use Rattle.clif_ssa.specs.Ssa.{SsaState, record_of}
use Rattle.clif_meaning.specs.Name.{Name, answer_of}
use Rattle.clif_meaning.specs.Program.{Item}
use Rattle.clif_meaning.specs.World.{World}
use Rattle.clif_meaning.specs.Machine.{Machine, Control, At, IsStuck, Observation, state_after}
use Rattle.clif_meaning.specs.ScriptMachine as script
use Rattle.clif_meaning.specs.FunctionMachine as function_machine_of
use Rattle.clif_meaning.specs.FunctionMachine.{Collector, ByMaps}
use Rattle.clif_meaning.specs.FunctionView.{Placed}
use Rattle.clif_meaning.specs.View.{block_of}
use Rattle.clif_meaning.specs.WellPlaced.{IsGivenBefore}
use Rattle.clif_meaning.specs.Examples.{block0, first_signature}
use Rattle.clif_meaning.specs.ScriptExamples.{answered_calls}
use Rattle.clif_meaning.proofs.StraightLine.{given_along}
use Rattle.clif_meaning.proofs.FirstRow.{first_of_one}
use Rattle.clif_meaning.proofs.SampleWorld
use Rattle.clif_simulation.specs.Tables.{answered, block_name}
use Rattle.clif_simulation.specs.Carries.{carried}
use Rattle.clif_simulation.proofs.FreeEntry.{free_first}
use Rattle.clif_simulation.specs.Reading.{code_so_far, behind, script_run_so_far, function_run_so_far}
use Rattle.clif_simulation.specs.Interrupted.{Unknowns, ScriptStanding, FunctionStanding, interrupted_script, interrupted_function, script_edge, script_goes, function_edge, function_goes, without_arguments, StandsBeside, HasBeside, RunsBeside, ReadsRight}
use Rattle.clif_simulation.specs.ReadingExamples.{half_body_with, half_body, half_state_with, half_state, waiting_parameter}
use Rattle.clif_simulation.proofs.Rows.RecordsListed.{nothing_there, half_record}
use Rattle.clif_simulation.proofs.Rows.HalfRow.{items, none_given, use_given, both_given, no_block, the_name, premises, fits, use_is_given, leads_nowhere_here, of_operation}
use Rattle.clif_meaning.specs.Request.{script_of}
use Rattle.clif_simulation.proofs.Rows.NothingCalled.{nothing_called}

stuck_there : {X : Type 0} {rest : List X} → IsStuck ≡ At rest → ⊥
stuck_there e = cc

module _ (width : PointerWidth) (world : World) (tracked : Name → Bool) (collector : Collector) (unknowns : Unknowns) where
  abbrev left : Machine ScriptStanding Observation
  left = interrupted_script answered_calls half_state unknowns 0 block0 (script_run_so_far answered_calls half_body world tracked)

  abbrev right : Machine FunctionStanding Observation
  right = interrupted_function half_state unknowns 0 (function_run_so_far answered_calls half_body world collector)

  abbrev Beside : ℕ → ℕ → Type 0
  Beside count steps = StandsBeside answered_calls half_body half_state 0 block0 count (state_after left count).state (state_after right steps).state

  at_front : Beside 0 0
  at_front = record {
    script_at = refl;
    function_at = record { index = 0; at = refl; instructions = refl };
    same_memory = refl;
    same_events = refl;
    names = λ x given. absurd (none_given x given);
    records = λ at_end. absurd at_end;
  }

  used : Beside 1 0
  unfolding follow
  used = record {
    script_at = refl;
    function_at = record { index = 0; at = refl; instructions = refl };
    same_memory = refl;
    same_events = refl;
    names = λ x given. subst (λ (n : Name). (state_after left 1).state.names n ≡ (state_after right 0).state.values (resolved half_body (answered answered_calls n))) (use_given x given) refl;
    records = λ at_end. cc;
  }

  recorded : (x v : ℕ) → record_of half_state x 0 ≡ Some v → (state_after left 2).state.variables x ≡ (state_after right 1).state.values (resolved half_body v)
  unfolding follow
  recorded zero v is = subst (λ (w : ℕ). (state_after left 2).state.variables 0 ≡ (state_after right 1).state.values (resolved half_body w)) (the_record v (sym (half_record 0 (waiting_parameter ∷ []) 0 0) ∙ is)) refl
    where
      the_record : (v : ℕ) → Some 0 ≡ Some v → 0 ≡ v
      the_record v e = cc
  recorded (suc x) v is = nothing_there (sym (half_record 0 (waiting_parameter ∷ []) (suc x) 0) ∙ is)

  at_end : Beside 2 1
  unfolding follow
  at_end = record {
    script_at = refl;
    function_at = record { index = 1; at = refl; instructions = refl };
    same_memory = refl;
    same_events = refl;
    names = λ x given. by x (both_given x given);
    records = λ end x v is. recorded x v is;
  }
    where
      by : (x : Name) → (answer_of 3 0 ≡ x) ⊎ (answer_of 4 1 ≡ x)
          → (state_after left 2).state.names x ≡ (state_after right 1).state.values (resolved half_body (answered answered_calls x))
      by x (inl first) = subst (λ (n : Name). (state_after left 2).state.names n ≡ (state_after right 1).state.values (resolved half_body (answered answered_calls n))) first refl
      by x (inr second) = subst (λ (n : Name). (state_after left 2).state.names n ≡ (state_after right 1).state.values (resolved half_body (answered answered_calls n))) second refl

  -- behind the last item the run doesn't go on
  stuck : (n : ℕ) → (state_after left (suc (suc (suc n)))).state.control ≡ IsStuck
  stuck zero = refl
  stuck (suc n) =
      ap (λ (c : Control Item).
      (script_goes answered_calls half_state unknowns (state_after left (suc (suc (suc n))))
      (script_edge (script_run_so_far answered_calls half_body world tracked) (state_after left (suc (suc (suc n)))).state c)
      (script.step_at (script_run_so_far answered_calls half_body world tracked) (state_after left (suc (suc (suc n)))).state c)).state.control) (stuck n)
      ∙ stuck n

  runs : (n : ℕ) (rest : List Item) → (state_after left n).state.control ≡ At rest → HasBeside answered_calls half_body half_state (state_after left n) right
  runs zero rest on = record { block = 0; named = refl; steps = 0; entries = refl; beside = at_front }
  runs (suc zero) rest on = record { block = 0; named = refl; steps = 0; entries = refl; beside = used }
  runs (suc (suc zero)) rest on = record { block = 0; named = refl; steps = 1; entries = refl; beside = at_end }
  runs (suc (suc (suc n))) rest on = absurd (stuck_there (sym (stuck n) ∙ on))

pub reads_right : ReadsRight answered_calls first_signature half_body half_state
reads_right width world tracked collector is_world so_far free moves zero name named is_entry =
    subst (RunsBeside answered_calls half_body half_state (script_run_so_far answered_calls half_body world tracked) (function_run_so_far answered_calls half_body world collector) 0)
    (the_name name named) (runs width world tracked collector)
reads_right width world tracked collector is_world so_far free moves (suc block) name named is_entry = absurd (no_block block name named)

-- What is refused -------------------------------------------------------------------------------------------------------

-- variables hold 9
abbrev nine : Unknowns
nine n x = 9

constant_is_given : IsGivenBefore (code_so_far answered_calls) (answer_of 4 1) (behind block0 2)
constant_is_given path walk =
    inr (given_along (code_so_far answered_calls) leads_nowhere_here path (behind block0 2) 1 (answer_of 4 1) walk (omega arith) (first_of_one (answer_of 4 1) (answer_of 4 1) refl))

only_block : (block : ℕ) → block_name answered_calls block ≡ Some block0 → block ≡ 0
only_block zero named = refl
only_block (suc block) named = absurd (no_block block block0 named)

module _ (f : Body) (s : SsaState) where
  abbrev left_here : Machine ScriptStanding Observation
  left_here = interrupted_script answered_calls s nine 0 block0 (script_run_so_far answered_calls f SampleWorld.sample_world (λ x. false))

  abbrev right_here : Machine FunctionStanding Observation
  right_here = interrupted_function s nine 0 (function_run_so_far answered_calls f SampleWorld.sample_world ByMaps)

  abbrev Alike : ℕ → ℕ → Type 0
  Alike count steps = StandsBeside answered_calls f s 0 block0 count (state_after left_here count).state (state_after right_here steps).state

abbrev constant_of : List Placed → ℕ
constant_of (placed ∷ rest) = of_operation placed.instruction.operation
constant_of [] = 0

pub other_constant : ReadsRight answered_calls first_signature (half_body_with 8) half_state → ⊥
other_constant reads = by (reads U64 SampleWorld.sample_world (λ x. false) ByMaps (fits 8) premises (free_first (half_body_with 8) half_state refl refl) (inl (nothing_called (script_of answered_calls) refl)) 0 block0 refl refl nine 0 items refl)
  where
    refute : (index : ℕ) → map without_arguments (drop index (block_of (half_body_with 8) 0).items) ≡ map without_arguments (flat_map (carried answered_calls) items) → ⊥
    refute zero same = let h : 8 ≡ 7 = ap constant_of same in omega (arith, h)
    refute (suc zero) same = let h : 0 ≡ 7 = ap constant_of same in omega (arith, h)
    refute (suc (suc index)) same = let h : 0 ≡ 7 = ap constant_of same in omega (arith, h)

    by : HasBeside answered_calls (half_body_with 8) half_state (state_after (left_here (half_body_with 8) half_state) 0) (right_here (half_body_with 8) half_state) → ⊥
    by found =
        let alike : Alike (half_body_with 8) half_state 0 found.steps =
        subst (λ (b : ℕ). StandsBeside answered_calls (half_body_with 8) half_state b block0 0 (state_after (left_here (half_body_with 8) half_state) 0).state
        (state_after (right_here (half_body_with 8) half_state) found.steps).state) (only_block found.block found.named) found.beside in
        refute alike.function_at.index alike.function_at.instructions

pub other_record : ReadsRight answered_calls first_signature half_body (half_state_with 1 (waiting_parameter ∷ [])) → ⊥
unfolding follow
other_record reads = by (reads U64 SampleWorld.sample_world (λ x. false) ByMaps (fits 7) premises (free_first half_body (half_state_with 1 (waiting_parameter ∷ [])) refl refl) (inl (nothing_called (script_of answered_calls) refl)) 0 block0 refl refl nine 2 [] refl)
  where
    by : HasBeside answered_calls half_body (half_state_with 1 (waiting_parameter ∷ [])) (state_after (left_here half_body (half_state_with 1 (waiting_parameter ∷ []))) 2)
        (right_here half_body (half_state_with 1 (waiting_parameter ∷ []))) → ⊥
    by found =
        let alike : Alike half_body (half_state_with 1 (waiting_parameter ∷ [])) 2 found.steps =
        subst (λ (b : ℕ). StandsBeside answered_calls half_body (half_state_with 1 (waiting_parameter ∷ [])) b block0 2
        (state_after (left_here half_body (half_state_with 1 (waiting_parameter ∷ []))) 2).state
        (state_after (right_here half_body (half_state_with 1 (waiting_parameter ∷ []))) found.steps).state) (only_block found.block found.named) found.beside in
        let same : 9 ≡ 7 = alike.records tt 0 1 (half_record 1 (waiting_parameter ∷ []) 0 0) ∙ sym (alike.names (answer_of 4 1) constant_is_given) in
        absurd (omega (arith, same))

abbrev none_state : SsaState
none_state = half_state_with 0 []

ended : (n : ℕ) → (state_after (right_here half_body none_state) (suc (suc n))).state.control ≡ IsStuck
ended zero = refl
ended (suc n) =
    ap (λ (c : Control Placed).
    (function_goes none_state nine (state_after (right_here half_body none_state) (suc (suc n)))
    (function_edge (function_run_so_far answered_calls half_body SampleWorld.sample_world ByMaps) (state_after (right_here half_body none_state) (suc (suc n))).state c)
    (function_machine_of.step_at (function_run_so_far answered_calls half_body SampleWorld.sample_world ByMaps)
    (state_after (right_here half_body none_state) (suc (suc n))).state c)).state.control) (ended n)
    ∙ ended n

pub none_waiting : ReadsRight answered_calls first_signature half_body (half_state_with 0 []) → ⊥
unfolding follow
none_waiting reads = by (reads U64 SampleWorld.sample_world (λ x. false) ByMaps (fits 7) premises (free_first half_body (half_state_with 0 []) refl refl) (inl (nothing_called (script_of answered_calls) refl)) 0 block0 refl refl nine 1 _ refl)
  where
    none_set : (steps : ℕ) (rest : List Placed) → (state_after (right_here half_body (half_state_with 0 [])) steps).state.control ≡ At rest
        → (state_after (right_here half_body (half_state_with 0 [])) steps).state.values 0 ≡ 0
    none_set zero rest at = refl
    none_set (suc zero) rest at = refl
    none_set (suc (suc n)) rest at = absurd (stuck_there (sym (ended n) ∙ at))

    by : HasBeside answered_calls half_body (half_state_with 0 []) (state_after (left_here half_body (half_state_with 0 [])) 1) (right_here half_body (half_state_with 0 [])) → ⊥
    by found =
        let alike : Alike half_body (half_state_with 0 []) 1 found.steps =
        subst (λ (b : ℕ). StandsBeside answered_calls half_body (half_state_with 0 []) b block0 1 (state_after (left_here half_body (half_state_with 0 [])) 1).state
        (state_after (right_here half_body (half_state_with 0 [])) found.steps).state) (only_block found.block found.named) found.beside in
        let same : 9 ≡ 0 = alike.names (answer_of 3 0) use_is_given ∙ none_set found.steps _ alike.function_at.at in
        absurd (omega (arith, same))
