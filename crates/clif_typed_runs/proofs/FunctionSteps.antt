-- The function's machine keeps values of their types in its values.
use Rattle.std.proofs.Common.{◌≡◌, ℕ, zero, suc, List, [], ◌∷◌, ◌++◌, map, slice_get, refl, sym, subst, true, false, Bool, Some, None, Option, inl, inr, arith}
use Rattle.std.specs.Prelude.{◌⊎◌, ◌==◌, ◌&&◌, if◌then◌else◌}
use Rattle.std.proofs.lemmas.Bool.{eqb-true}
use Rattle.std.proofs.lemmas.List.{append-nil}
use Rattle.std.specs.List.{AllByRecursion}
use Rattle.clif_types.specs.declared.types.«Type».{«Type»}
use Rattle.clif_meaning.specs.Bits.{Bits, IsValue, AreValues}
use Rattle.clif_tables.specs.Callees.{types_of}
use Rattle.clif_meaning.specs.Event.{Answer, CallShape, Event, Exception, IsAnswerTo, Results, payload_types}
use Rattle.clif_meaning.specs.Instruction.{Edge}
use Rattle.clif_meaning.specs.Machine.{Control, At, HasReturned, HasTrapped, IsStuck, state_after}
use Rattle.clif_meaning.specs.Memory.{Memory}
use Rattle.clif_meaning.specs.Outcome.{Outcome, Gives, Goes, Returns, Traps, Calls, NoStep, outcome_of}
use Rattle.clif_meaning.specs.FunctionView.{FunctionView, Placed}
use Rattle.clif_meaning.specs.FunctionMachine.{ByMaps, Collector, FunctionRun, FunctionState, OverSet, blank_state, call_outside, carry_out, enter_block, follow_edge, function_machine, give_results, same_value, start_at, step_at, take_answer, value_bits, values_after}
use Rattle.clif_meaning.specs.Store.{assigned}
use Rattle.clif_meaning.specs.Typing.{EachEdgeMatches, EdgeMatches, call_shape, value_types_at}
use Rattle.clif_meaning.specs.World.{World}
use Rattle.clif_typed_runs.specs.ValuesFit.{AliasesTyped, EntryHas, FunctionFits, HoldValues, IsPlacedTyped}
use Rattle.clif_typed_runs.specs.Laws.{FunctionRunsFit, FunctionStepsFit, OfNextPlaced}
use Rattle.clif_typed_runs.proofs.Outcomes.{GivesValues, PassesValues, typed_gives}
use Rattle.clif_typed_runs.proofs.Holding.{FitAt, all_fit, none_fit, zeros_hold, assigned_front, assigned_hold, edge_fits}

values_equal : (a b : ℕ) → same_value a b ≡ true → a ≡ b
values_equal a b same = eqb-true a b same

-- what an instruction gives fits, wherever all values fit
abbrev pub GivesFitting : FunctionView → Placed → Type 0
GivesFitting function placed =
    (world : World) (bits : ℕ → Bits) (memory : Memory) → HoldValues function.value_type bits
    → GivesValues (map function.value_type placed.results) (types_of function.signature.returns) (call_shape placed.instruction.operation)
    (outcome_of world placed.instruction.operation placed.instruction.controlling
    (map function.value_type placed.instruction.operands) (map bits placed.instruction.operands) memory)

-- and what its edges pass does
pub record WorksFitting (function : FunctionView) (placed : Placed) : Type 0 where
  pub gives : GivesFitting function placed
  pub edges : EachEdgeMatches function.value_type (value_types_at function) (call_shape placed.instruction.operation) placed.instruction.edges

pub typed_works : (function : FunctionView) (placed : Placed) → IsPlacedTyped function placed → WorksFitting function placed
typed_works function placed typed = record {
  gives = λ world bits memory holds.
      typed_gives function.value_type (value_types_at function) (types_of function.signature.returns) placed.instruction placed.results world bits memory typed holds;
  edges = typed.takes.edges;
}

module _ (run : FunctionRun) where
  abbrev returns : List «Type»
  returns = types_of run.function.signature.returns

  stuck : (state : FunctionState) → FunctionFits run state → FunctionFits run (record state { control = IsStuck })
  stuck state fits = record { values = fits.values; returned = tt }

  with_memory : (state : FunctionState) (memory : Memory) → FunctionFits run state → FunctionFits run (record state { memory = memory })
  with_memory state memory fits = record { values = fits.values; returned = fits.returned }

  -- a block is entered whose first parameters have these types
  entered : (state : FunctionState) (block : ℕ) (arguments : List Bits) (types more : List «Type») → FunctionFits run state
      → value_types_at run.function block ≡ types ++ more → AreValues types arguments → FunctionFits run (enter_block run state block arguments)
  entered state block arguments types more fits begins values = record {
    values = assigned_front same_value values_equal run.function.value_type (run.function.blocks block).parameters arguments state.values types more begins values fits.values;
    returned = tt;
  }

  blank : FunctionFits run (blank_state run)
  blank = record { values = zeros_hold run.function.value_type; returned = tt }

  started : (types : List «Type») (entry : Option ℕ) → EntryHas (value_types_at run.function) types entry → AreValues types run.world.arguments
      → FunctionFits run (start_at run entry)
  started types None has values = blank
  started types (Some entry) has values = entered (blank_state run) entry run.world.arguments types has.0 blank has.1 values

  module _ (aliases : AliasesTyped run.function) where
    -- what operands read, after their aliases
    operands_hold : (state : FunctionState) → FunctionFits run state → HoldValues run.function.value_type (value_bits run state)
    operands_hold state fits value =
        subst (λ (ty : «Type»). IsValue ty (value_bits run state value)) (aliases value) (fits.values (run.function.resolved value))

    followed : (state : FunctionState) (results payload : List «Type») (given : List Bits) (edges : List (Edge ℕ ℕ)) (k : ℕ)
        → FitAt results given → FitAt payload given
        → AllByRecursion (EdgeMatches run.function.value_type (value_types_at run.function) results payload) edges → FunctionFits run state
        → FunctionFits run (follow_edge run state given (slice_get edges k))
    followed state results payload given [] k results_fit payload_fits match fits = stuck state fits
    followed state results payload given (edge ∷ edges) zero results_fit payload_fits match fits =
        entered state edge.target _ (value_types_at run.function edge.target) [] fits (sym (append-nil (value_types_at run.function edge.target)))
        (edge_fits run.function.value_type (value_bits run state) (operands_hold state fits) results payload given results_fit payload_fits
        (value_types_at run.function) edge match.0)
    followed state results payload given (edge ∷ edges) (suc k) results_fit payload_fits match fits =
        followed state results payload given edges k results_fit payload_fits match.1 fits

    -- what the collector moves keeps its type
    moved : (events : List Event) (call : CallShape) (collector : Collector) (values : ℕ → Bits) → HoldValues run.function.value_type values
        → HoldValues run.function.value_type (values_after run (run.world.moved events call) collector values)
    moved events call ByMaps values holds value = holds value
    moved events call (OverSet members) values holds value = by (members value && (run.function.resolved value == value))
      where
        by : (is_moved : Bool)
            → IsValue (run.function.value_type value) (if is_moved then run.world.moved events call (run.function.value_type value) (values value) else values value)
        by true = run.world.moved_fits events call (run.function.value_type value) (values value) (holds value)
        by false = holds value

    -- the results of a call get what it returns
    given_back : (state : FunctionState) (results : List ℕ) (rest : List Placed) (types : List «Type») (bits : List Bits)
        → (map run.function.value_type results ≡ types) ⊎ (map run.function.value_type results ≡ []) → AreValues types bits
        → FunctionFits run state → FunctionFits run (give_results state results rest bits)
    given_back state results rest types bits are fit fits = record { values = by results are; returned = tt }
      where
        by : (values : List ℕ) → (map run.function.value_type values ≡ types) ⊎ (map run.function.value_type values ≡ [])
            → HoldValues run.function.value_type (assigned same_value values bits state.values)
        by values (inl same) =
            assigned_hold same_value values_equal run.function.value_type values bits state.values (subst (λ (ts : List «Type»). AreValues ts bits) (sym same) fit) fits.values
        by [] (inr none) = fits.values
        by (value ∷ values) (inr none) = let no_way : ⊥ = cc in absurd no_way

    -- an answer comes
    answered : (state : FunctionState) (call : CallShape) (edges : List (Edge ℕ ℕ)) (results : List ℕ) (rest : List Placed) (answer : Answer) → IsAnswerTo call answer
        → (map run.function.value_type results ≡ types_of call.signature.returns) ⊎ (map run.function.value_type results ≡ [])
        → EachEdgeMatches run.function.value_type (value_types_at run.function) (Some call) edges → FunctionFits run state
        → FunctionFits run (take_answer run state edges results rest answer)
    answered state call [] results rest (Results values) answers are match fits =
        given_back state results rest (types_of call.signature.returns) values are answers fits
    answered state call [] results rest (Exception edge payload) answers are match fits = stuck state fits
    answered state call (normal ∷ edges) results rest (Results values) answers are match fits =
        followed state (types_of call.signature.returns) [] values (normal ∷ []) 0 (all_fit (types_of call.signature.returns) values answers) (none_fit values) (match.0, tt) fits
    answered state call (normal ∷ edges) results rest (Exception edge payload) answers are match fits =
        followed state [] payload_types payload edges edge (none_fit payload) (all_fit payload_types payload answers.1) match.1 fits

    -- along an edge, where that passes values
    passed : (state : FunctionState) (edges : List (Edge ℕ ℕ)) (made : Option CallShape) (k : ℕ) (given : List Bits) → PassesValues made k given
        → EachEdgeMatches run.function.value_type (value_types_at run.function) made edges → FunctionFits run state
        → FunctionFits run (follow_edge run state given (slice_get edges k))
    passed state edges None k given passes match fits = followed state [] [] given edges k (none_fit given) (none_fit given) match fits
    passed state edges (Some call) (suc k) given passes match fits = let no_way : ⊥ = omega (arith, passes.0) in absurd no_way
    passed state [] (Some call) zero given passes match fits = stuck state fits
    passed state (normal ∷ items) (Some call) zero given passes match fits =
        followed state (types_of call.signature.returns) [] given (normal ∷ []) 0 (all_fit (types_of call.signature.returns) given passes.1) (none_fit given) (match.0, tt) fits

    carried : (state : FunctionState) (placed : Placed) (rest : List Placed) (outcome : Outcome) → WorksFitting run.function placed
        → GivesValues (map run.function.value_type placed.results) returns (call_shape placed.instruction.operation) outcome
        → FunctionFits run state → FunctionFits run (carry_out run state placed rest outcome)
    carried state placed rest (Gives values memory) works gives fits = record {
      values = assigned_hold same_value values_equal run.function.value_type placed.results values state.values gives fits.values;
      returned = tt;
    }
    carried state placed rest (Goes edge given memory) works gives fits =
        passed (record state { memory = memory }) placed.instruction.edges (call_shape placed.instruction.operation) edge given gives works.edges (with_memory state memory fits)
    carried state placed rest (Returns values) works gives fits = record { values = fits.values; returned = gives }
    carried state placed rest (Traps reason) works gives fits = record { values = fits.values; returned = tt }
    carried state placed rest (Calls callee call arguments) works gives fits =
        let after : FunctionState = call_outside run state placed.stack_map callee call arguments in
        answered after call placed.instruction.edges placed.results rest (run.world.answer after.events call) (run.world.answers_fit after.events call) gives.1
        (subst (λ (made : Option CallShape). EachEdgeMatches run.function.value_type (value_types_at run.function) made placed.instruction.edges) gives.0 works.edges)
        (record { values = moved after.events call run.collector state.values fits.values; returned = fits.returned })
    carried state placed rest NoStep works gives fits = stuck state fits

    stepped : (state : FunctionState) (control : Control Placed) → OfNextPlaced (WorksFitting run.function) control → FunctionFits run state
        → FunctionFits run (step_at run state control)
    stepped state (At []) next fits = stuck state fits
    stepped state (At (placed ∷ rest)) next fits =
        carried state placed rest _ next (next.gives run.world (value_bits run state) state.memory (operands_hold state fits)) fits
    stepped state (HasReturned results) next fits = fits
    stepped state (HasTrapped reason) next fits = fits
    stepped state IsStuck next fits = fits

next_works : (function : FunctionView) (control : Control Placed) → OfNextPlaced (IsPlacedTyped function) control → OfNextPlaced (WorksFitting function) control
next_works function (At []) next = tt
next_works function (At (placed ∷ rest)) next = typed_works function placed next
next_works function (HasReturned results) next = tt
next_works function (HasTrapped reason) next = tt
next_works function IsStuck next = tt

pub steps_fit : FunctionStepsFit
steps_fit run state aliases next fits = stepped run aliases state state.control (next_works run.function state.control next) fits

-- RUNS ------------------------------------------------------------------------------------------------------------------

-- each instruction that is left in the block works
abbrev AreLeft : FunctionRun → Control Placed → Type 0
AreLeft run (At rest) = AllByRecursion (WorksFitting run.function) rest
AreLeft run (HasReturned results) = Unit {0}
AreLeft run (HasTrapped reason) = Unit {0}
AreLeft run IsStuck = Unit {0}

module _ (run : FunctionRun) (aliases : AliasesTyped run.function) (items : (block : ℕ) → AllByRecursion (WorksFitting run.function) (run.function.blocks block).items) where
  along : (state : FunctionState) (given : List Bits) (edge : Option (Edge ℕ ℕ)) → AreLeft run (follow_edge run state given edge).control
  along state given None = tt
  along state given (Some edge) = items edge.target

  left_answered : (state : FunctionState) (edges : List (Edge ℕ ℕ)) (results : List ℕ) (rest : List Placed) (answer : Answer) → AllByRecursion (WorksFitting run.function) rest
      → AreLeft run (take_answer run state edges results rest answer).control
  left_answered state [] results rest (Results values) left = left
  left_answered state [] results rest (Exception edge payload) left = tt
  left_answered state (normal ∷ edges) results rest (Results values) left = items normal.target
  left_answered state (normal ∷ edges) results rest (Exception edge payload) left = along state payload (slice_get edges edge)

  left_carried : (state : FunctionState) (placed : Placed) (rest : List Placed) (outcome : Outcome) → AllByRecursion (WorksFitting run.function) rest
      → AreLeft run (carry_out run state placed rest outcome).control
  left_carried state placed rest (Gives values memory) left = left
  left_carried state placed rest (Goes edge given memory) left = along (record state { memory = memory }) given (slice_get placed.instruction.edges edge)
  left_carried state placed rest (Returns values) left = tt
  left_carried state placed rest (Traps reason) left = tt
  left_carried state placed rest (Calls callee call arguments) left =
      let after : FunctionState = call_outside run state placed.stack_map callee call arguments in
      left_answered after placed.instruction.edges placed.results rest (run.world.answer after.events call) left
  left_carried state placed rest NoStep left = tt

  left_stepped : (state : FunctionState) (control : Control Placed) → state.control ≡ control → AreLeft run control
      → AreLeft run (step_at run state control).control
  left_stepped state (At []) is left = tt
  left_stepped state (At (placed ∷ rest)) is left = left_carried state placed rest _ left.1
  left_stepped state (HasReturned results) is left = subst (AreLeft run) (sym is) tt
  left_stepped state (HasTrapped reason) is left = subst (AreLeft run) (sym is) tt
  left_stepped state IsStuck is left = subst (AreLeft run) (sym is) tt

  left_started : (entry : Option ℕ) → AreLeft run (start_at run entry).control
  left_started None = tt
  left_started (Some entry) = items entry

  next_of : (control : Control Placed) → AreLeft run control → OfNextPlaced (WorksFitting run.function) control
  next_of (At []) left = tt
  next_of (At (placed ∷ rest)) left = left.0
  next_of (HasReturned results) left = tt
  next_of (HasTrapped reason) left = tt
  next_of IsStuck left = tt

  -- in each state the values fit, and what is left works
  both_after : (types : List «Type») → EntryHas (value_types_at run.function) types run.function.entry → AreValues types run.world.arguments → (n : ℕ)
      → FunctionFits run (state_after (function_machine run) n) × AreLeft run (state_after (function_machine run) n).control
  both_after types has values zero = (started run types run.function.entry has values, left_started run.function.entry)
  both_after types has values (suc n) =
      let before = both_after types has values n in
      let state : FunctionState = state_after (function_machine run) n in (
        stepped run aliases state state.control (next_of state.control before.1) before.0,
        left_stepped state state.control refl before.1,
      )

  pub working_runs_fit : (types : List «Type») → EntryHas (value_types_at run.function) types run.function.entry → AreValues types run.world.arguments → (n : ℕ)
      → FunctionFits run (state_after (function_machine run) n)
  working_runs_fit types has values n = let both = both_after types has values n in both.0

pub each_works : (function : FunctionView) (items : List Placed) → AllByRecursion (IsPlacedTyped function) items → AllByRecursion (WorksFitting function) items
each_works function [] typed = tt
each_works function (placed ∷ items) typed = (typed_works function placed typed.0, each_works function items typed.1)

pub runs_fit : FunctionRunsFit
runs_fit run typed n =
    working_runs_fit run typed.aliases (λ block. each_works run.function (run.function.blocks block).items (typed.items block))
    (types_of run.function.signature.params) typed.entry typed.arguments n
