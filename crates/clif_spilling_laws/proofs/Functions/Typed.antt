-- In the run of a typed function each instruction gives bits to each of its results, and values fit their types.
use Rattle.std.specs.List.{AllByRecursion}
use Rattle.std.proofs.Common.{◌≡◌, ◌⊎◌, ◌≤◌, Bool, inl, inr, ℕ, suc, List, [], ◌∷◌, length, map, refl, ap, subst, arith}
use Rattle.std.proofs.lemmas.List.{length-map}
use Rattle.clif_types.specs.Types.{bits_of}
use Rattle.clif_types.specs.declared.types.«Type».{«Type»}
use Rattle.clif_tables.specs.Callees.{types_of}
use Rattle.clif_meaning.specs.Bits.{AreValues, Bits, IsValue}
use Rattle.clif_meaning.specs.Event.{Answer, Event, Exception, IsAnswerTo, Results}
use Rattle.clif_meaning.specs.FunctionMachine.{FunctionRun, FunctionState, call_outside, function_machine, value_bits}
use Rattle.clif_meaning.specs.FunctionView.{Placed}
use Rattle.clif_meaning.specs.Machine.{state_after}
use Rattle.clif_meaning.specs.Outcome.{Outcome, Gives, Goes, Returns, Traps, Calls, NoStep}
use Rattle.clif_meaning.specs.Typing.{call_shape}
use Rattle.clif_meaning.specs.World.{PlacesSlots, World}
use Rattle.clif_typed_runs.specs.Laws.{OfNextPlaced}
use Rattle.clif_typed_runs.specs.ValuesFit.{AliasesTyped, FunctionFits, HoldValues, IsFunctionTyped}
use Rattle.clif_typed_runs.proofs.FunctionSteps.{WorksFitting, each_works, runs_fit}
use Rattle.clif_typed_runs.proofs.Outcomes.{GivesValues}
use Rattle.clif_spilling_laws.specs.PartLaws.{RunFits, SparesThroughout, TypedRunsFit, TypedRunsMeet}
use Rattle.clif_spilling_laws.specs.Runs.{AnswersEach, GivesEach, IsInOrder, IsInOrderThroughout, IsMetBy, SparesHidden, before_run, outcome_in}
use Rattle.clif_spilling_laws.specs.Spilling.{Spilling}
use Rattle.clif_spilling_laws.proofs.Basics.Left.{next_both, next_follows, next_is}

-- as many values as types
are_long : (types : List «Type») (values : List Bits) → AreValues types values → length types ≡ length values
are_long [] [] are = refl
are_long [] (x ∷ values) are = absurd are
are_long (ty ∷ types) [] are = absurd are
are_long (ty ∷ types) (x ∷ values) are = ap suc (are_long types values are.1)

module _ (run : FunctionRun) (aliases : AliasesTyped run.function) (works : (block : ℕ) → AllByRecursion (WorksFitting run.function) (run.function.blocks block).items)
    (fit : (n : ℕ) → FunctionFits run (state_after (function_machine run) n))
  where
    operands_hold : (state : FunctionState) → FunctionFits run state → HoldValues run.function.value_type (value_bits run state)
    operands_hold state fits v = subst (λ (ty : «Type»). IsValue ty (value_bits run state v)) (aliases v) (fits.values (run.function.resolved v))

    -- what fits the results' types is as many
    each_of : (state : FunctionState) (placed : Placed) (outcome : Outcome)
        → GivesValues (map run.function.value_type placed.results) (types_of run.function.signature.returns) (call_shape placed.instruction.operation) outcome
        → GivesEach run state placed outcome
    each_of state placed (Gives values memory) gives =
        let e = length-map placed.results run.function.value_type in
        let d = are_long (map run.function.value_type placed.results) values gives in
        omega (arith, e, d)
    each_of state placed (Goes edge given memory) gives = tt
    each_of state placed (Returns values) gives = tt
    each_of state placed (Traps reason) gives = tt
    each_of state placed NoStep gives = tt
    each_of state placed (Calls callee call arguments) gives =
        by (run.world.answer events call) (run.world.answers_fit events call)
      where
        events : List Event
        events = (call_outside run state placed.stack_map callee call arguments).events

        long : length (map run.function.value_type placed.results) ≡ length placed.results
        long = length-map placed.results run.function.value_type

        few : (values : List Bits) → AreValues (types_of call.signature.returns) values
            → (map run.function.value_type placed.results ≡ types_of call.signature.returns) ⊎ (map run.function.value_type placed.results ≡ [])
            → length placed.results ≤ length values
        few values are (inl all) =
            let d = are_long (types_of call.signature.returns) values are in
            let g = ap (λ (types : List «Type»). length types) all in
            omega (arith, long, d, g)
        few values are (inr none) = let g = ap (λ (types : List «Type»). length types) none in omega (arith, long, g)

        by : (answer : Answer) → IsAnswerTo call answer → AnswersEach placed.results answer
        by (Results values) are = few values are gives.1
        by (Exception edge payload) are = tt

    given_next : (n : ℕ) → OfNextPlaced (λ placed. GivesEach run (state_after (function_machine run) n) placed (outcome_in run (state_after (function_machine run) n) placed))
        (state_after (function_machine run) n).control
    given_next n =
        let state : FunctionState = state_after (function_machine run) n in
        next_follows (WorksFitting run.function) (λ (placed : Placed). GivesEach run state placed (outcome_in run state placed)) state.control
        (λ placed is. each_of state placed (outcome_in run state placed) (is.gives run.world (value_bits run state) state.memory (operands_hold state (fit n))))
        (next_is run (WorksFitting run.function) works n)

    -- where each instruction gives what fits, and all values fit, results get bits and members fit
    pub working_run_fits : (members : ℕ → Bool) → RunFits members run
    working_run_fits members = record { gives_each = given_next; fits = λ n v member. let state_fits = fit n in state_fits.values v }

pub typed_runs_fit : TypedRunsFit
typed_runs_fit members run typed =
    working_run_fits run typed.aliases (λ block. each_works run.function (run.function.blocks block).items (typed.items block)) (λ n. runs_fit run typed n) members

-- a run that fits and spares hidden addresses is one that the law of spilling is about, where pointers and slots are the world's
pub fitting_runs_meet : (members : ℕ → Bool) (s : Spilling) (world : World) → world.pointer_width ≡ bits_of s.pointer → PlacesSlots world s.after.slots
    → RunFits members (before_run s members world) → SparesThroughout (before_run s members world) → IsMetBy members s world
fitting_runs_meet members s world pointers places fit spares = record { pointers = pointers; places = places; in_order = in_order; fits = fit.fits }
  where
    in_order : IsInOrderThroughout (before_run s members world)
    in_order n =
        let run : FunctionRun = before_run s members world in
        let state : FunctionState = state_after (function_machine run) n in
        let Gives : Placed → Type 0 = λ placed. GivesEach run state placed (outcome_in run state placed) in
        next_follows (λ (placed : Placed). SparesHidden run state placed × Gives placed) (IsInOrder run state) state.control
        (λ placed is. record { spares = is.0; gives_each = is.1 })
        (next_both (SparesHidden run state) Gives state.control (spares n) (fit.gives_each n))

pub typed_runs_meet : TypedRunsMeet
typed_runs_meet members s world pointers places typed spares =
    fitting_runs_meet members s world pointers places (typed_runs_fit members (before_run s members world) typed) spares
