-- The script's machine keeps values of their types in its variables and names.
use Rattle.std.proofs.Common.{◌≡◌, ℕ, zero, suc, List, [], ◌∷◌, ◌++◌, map, slice_get, sym, subst, true, false, Bool, ap₂, Some, None, Option, inl, inr, arith}
use Rattle.std.specs.Prelude.{◌==◌, ◌⊎◌, if◌then◌else◌}
use Rattle.std.proofs.lemmas.Bool.{eqb-true, and_parts}
use Rattle.std.proofs.lemmas.List.{append-nil}
use Rattle.std.specs.List.{AllByRecursion}
use Rattle.clif_types.specs.declared.types.«Type».{«Type»}
use Rattle.clif_meaning.specs.Bits.{Bits, IsValue, AreValues}
use Rattle.clif_tables.specs.Callees.{types_of}
use Rattle.clif_meaning.specs.Event.{Answer, Callee, CallShape, Event, Exception, IsAnswerTo, Results, payload_types}
use Rattle.clif_meaning.specs.Instruction.{Edge}
use Rattle.clif_meaning.specs.Machine.{Control, At, HasReturned, HasTrapped, IsStuck, state_after}
use Rattle.clif_meaning.specs.Memory.{Memory}
use Rattle.clif_meaning.specs.Name.{Name, answer_of, same_name}
use Rattle.clif_meaning.specs.Outcome.{Outcome, Gives, Goes, Returns, Traps, Calls, NoStep}
use Rattle.clif_meaning.specs.Premises.{OfNextItem}
use Rattle.clif_meaning.specs.Program.{Item, Instruct, Use, Assign}
use Rattle.clif_meaning.specs.ScriptMachine.{ScriptRun, ScriptState, blank_state, call_outside, carry_out, enter_block, follow_edge, give_results, run_item, same_variable, script_machine, start_at, step_at, take_answer}
use Rattle.clif_meaning.specs.Store.{assigned, shown_memory}
use Rattle.clif_meaning.specs.Typing.{EachEdgeMatches, EdgeMatches, call_shape}
use Rattle.clif_meaning.proofs.EachStep.{each_step}
use Rattle.clif_typed_runs.specs.ValuesFit.{EntryHas, HoldValues, IsItemTyped, ScriptFits, name_types_at}
use Rattle.clif_typed_runs.specs.Laws.{ScriptRunsFit, ScriptStepsFit}
use Rattle.clif_typed_runs.proofs.Outcomes.{GivesValues, PassesValues, typed_gives}
use Rattle.clif_typed_runs.proofs.Holding.{FitAt, all_fit, none_fit, zeros_hold, assigned_front, assigned_hold, edge_fits}

-- the tests for equal names and for equal variables
names_equal : (a b : Name) → same_name a b ≡ true → a ≡ b
names_equal a b same =
    let both = and_parts (a.place == b.place) (a.index == b.index) same in
    ap₂ answer_of (eqb-true a.place b.place both.0) (eqb-true a.index b.index both.1)

variables_equal : (a b : ℕ) → same_variable a b ≡ true → a ≡ b
variables_equal a b same = eqb-true a b same

module _ (run : ScriptRun) (returns : List «Type») where
  stuck : (state : ScriptState) → ScriptFits run returns state → ScriptFits run returns (record state { control = IsStuck })
  stuck state fits = record { variables = fits.variables; names = fits.names; returned = tt }

  with_memory : (state : ScriptState) (memory : Memory) → ScriptFits run returns state → ScriptFits run returns (record state { memory = memory })
  with_memory state memory fits = record { variables = fits.variables; names = fits.names; returned = fits.returned }

  -- a block is entered whose first parameters have these types
  entered : (state : ScriptState) (block : Name) (arguments : List Bits) (types more : List «Type») → ScriptFits run returns state
      → name_types_at run block ≡ types ++ more → AreValues types arguments → ScriptFits run returns (enter_block run state block arguments)
  entered state block arguments types more fits begins values = record {
    variables = fits.variables;
    names = assigned_front same_name names_equal run.name_type (run.program.parameters block) arguments state.names types more begins values fits.names;
    returned = tt;
  }

  followed : (state : ScriptState) (results payload : List «Type») (given : List Bits) (edges : List (Edge Name Name)) (k : ℕ)
      → FitAt results given → FitAt payload given
      → AllByRecursion (EdgeMatches run.name_type (name_types_at run) results payload) edges → ScriptFits run returns state
      → ScriptFits run returns (follow_edge run state given (slice_get edges k))
  followed state results payload given [] k results_fit payload_fits match fits = stuck state fits
  followed state results payload given (edge ∷ edges) zero results_fit payload_fits match fits =
      entered state edge.target _ (name_types_at run edge.target) [] fits (sym (append-nil (name_types_at run edge.target)))
      (edge_fits run.name_type state.names fits.names results payload given results_fit payload_fits (name_types_at run) edge match.0)
  followed state results payload given (edge ∷ edges) (suc k) results_fit payload_fits match fits =
      followed state results payload given edges k results_fit payload_fits match.1 fits

  -- what the collector moves keeps its type
  called : (state : ScriptState) (callee : Callee) (call : CallShape) (arguments : List Bits) → ScriptFits run returns state
      → ScriptFits run returns (call_outside run state callee call arguments)
  called state callee call arguments fits = record {
    variables = λ variable. by (run.is_marked variable) (run.variable_type variable) (state.variables variable) (fits.variables variable);
    names = λ name. by (run.is_tracked name) (run.name_type name) (state.names name) (fits.names name);
    returned = fits.returned;
  }
    where
      events : List Event
      events = record { callee = callee; arguments = arguments; memory = shown_memory run.hidden state.memory } ∷ state.events

      by : (is_moved : Bool) (ty : «Type») (bits : Bits) → IsValue ty bits → IsValue ty (if is_moved then run.world.moved events call ty bits else bits)
      by true ty bits fit = run.world.moved_fits events call ty bits fit
      by false ty bits fit = fit

  -- the results of a call get what it returns
  given_back : (state : ScriptState) (results : List Name) (rest : List Item) (types : List «Type») (values : List Bits)
      → (map run.name_type results ≡ types) ⊎ (map run.name_type results ≡ []) → AreValues types values
      → ScriptFits run returns state → ScriptFits run returns (give_results state results rest values)
  given_back state results rest types values are fit fits = record { variables = fits.variables; names = by results are; returned = tt }
    where
      by : (names : List Name) → (map run.name_type names ≡ types) ⊎ (map run.name_type names ≡ []) → HoldValues run.name_type (assigned same_name names values state.names)
      by names (inl same) =
          assigned_hold same_name names_equal run.name_type names values state.names (subst (λ (ts : List «Type»). AreValues ts values) (sym same) fit) fits.names
      by [] (inr none) = fits.names
      by (name ∷ names) (inr none) = let no_way : ⊥ = cc in absurd no_way

  -- an answer comes
  answered : (state : ScriptState) (call : CallShape) (edges : List (Edge Name Name)) (results : List Name) (rest : List Item) (answer : Answer) → IsAnswerTo call answer
      → (map run.name_type results ≡ types_of call.signature.returns) ⊎ (map run.name_type results ≡ [])
      → EachEdgeMatches run.name_type (name_types_at run) (Some call) edges → ScriptFits run returns state
      → ScriptFits run returns (take_answer run state edges results rest answer)
  answered state call [] results rest (Results values) answers are match fits =
      given_back state results rest (types_of call.signature.returns) values are answers fits
  answered state call [] results rest (Exception edge payload) answers are match fits = stuck state fits
  answered state call (normal ∷ edges) results rest (Results values) answers are match fits =
      followed state (types_of call.signature.returns) [] values (normal ∷ []) 0 (all_fit (types_of call.signature.returns) values answers) (none_fit values) (match.0, tt) fits
  answered state call (normal ∷ edges) results rest (Exception edge payload) answers are match fits =
      followed state [] payload_types payload edges edge (none_fit payload) (all_fit payload_types payload answers.1) match.1 fits

  -- along an edge, where that passes values
  passed : (state : ScriptState) (edges : List (Edge Name Name)) (made : Option CallShape) (k : ℕ) (given : List Bits) → PassesValues made k given
      → EachEdgeMatches run.name_type (name_types_at run) made edges → ScriptFits run returns state → ScriptFits run returns (follow_edge run state given (slice_get edges k))
  passed state edges None k given passes match fits = followed state [] [] given edges k (none_fit given) (none_fit given) match fits
  passed state edges (Some call) (suc k) given passes match fits = let no_way : ⊥ = omega (arith, passes.0) in absurd no_way
  passed state [] (Some call) zero given passes match fits = stuck state fits
  passed state (normal ∷ items) (Some call) zero given passes match fits =
      followed state (types_of call.signature.returns) [] given (normal ∷ []) 0 (all_fit (types_of call.signature.returns) given passes.1) (none_fit given) (match.0, tt) fits

  carried : (state : ScriptState) (edges : List (Edge Name Name)) (results : List Name) (rest : List Item) (made : Option CallShape) (outcome : Outcome)
      → GivesValues (map run.name_type results) returns made outcome → EachEdgeMatches run.name_type (name_types_at run) made edges
      → ScriptFits run returns state → ScriptFits run returns (carry_out run state edges results rest outcome)
  carried state edges results rest made (Gives values memory) gives match fits = record {
    variables = fits.variables;
    names = assigned_hold same_name names_equal run.name_type results values state.names gives fits.names;
    returned = tt;
  }
  carried state edges results rest made (Goes edge given memory) gives match fits =
      passed (record state { memory = memory }) edges made edge given gives match (with_memory state memory fits)
  carried state edges results rest made (Returns values) gives match fits = record { variables = fits.variables; names = fits.names; returned = gives }
  carried state edges results rest made (Traps reason) gives match fits = record { variables = fits.variables; names = fits.names; returned = tt }
  carried state edges results rest made (Calls callee call arguments) gives match fits =
      let after : ScriptState = call_outside run state callee call arguments in
      answered after call edges results rest (run.world.answer after.events call) (run.world.answers_fit after.events call) gives.1
      (subst (λ (shape : Option CallShape). EachEdgeMatches run.name_type (name_types_at run) shape edges) gives.0 match)
      (called state callee call arguments fits)
  carried state edges results rest made NoStep gives match fits = stuck state fits

  item_fits : (state : ScriptState) (item : Item) (rest : List Item) → IsItemTyped run returns item → ScriptFits run returns state
      → ScriptFits run returns (run_item run state item rest)
  item_fits state (Instruct place instruction results) rest typed fits =
      carried state instruction.edges results rest (call_shape instruction.operation) _
      (typed_gives run.name_type (name_types_at run) returns instruction results run.world state.names state.memory typed fits.names)
      typed.takes.edges fits
  item_fits state (Use variable name) rest typed fits = record {
    variables = fits.variables;
    names = assigned_hold same_name names_equal run.name_type (name ∷ []) (state.variables variable ∷ []) state.names
        (subst (λ (ty : «Type»). IsValue ty (state.variables variable)) (sym typed) (fits.variables variable), tt) fits.names;
    returned = tt;
  }
  item_fits state (Assign variable name) rest typed fits = record {
    variables = assigned_hold same_variable variables_equal run.variable_type (variable ∷ []) (state.names name ∷ []) state.variables
        (subst (λ (ty : «Type»). IsValue ty (state.names name)) typed (fits.names name), tt) fits.variables;
    names = fits.names;
    returned = tt;
  }

  stepped : (state : ScriptState) (control : Control Item) → OfNextItem (IsItemTyped run returns) control → ScriptFits run returns state
      → ScriptFits run returns (step_at run state control)
  stepped state (At []) next fits = stuck state fits
  stepped state (At (item ∷ rest)) next fits = item_fits state item rest next fits
  stepped state (HasReturned results) next fits = fits
  stepped state (HasTrapped reason) next fits = fits
  stepped state IsStuck next fits = fits

  blank : ScriptFits run returns (blank_state run)
  blank = record { variables = zeros_hold run.variable_type; names = zeros_hold run.name_type; returned = tt }

  started : (types : List «Type») (entry : Option Name) → EntryHas (name_types_at run) types entry → AreValues types run.world.arguments
      → ScriptFits run returns (start_at run entry)
  started types None has values = blank
  started types (Some entry) has values =
      entered (blank_state run) entry run.world.arguments types has.0 blank has.1 values

pub steps_fit : ScriptStepsFit
steps_fit run returns state next fits = stepped run returns state state.control next fits

pub runs_fit : ScriptRunsFit
runs_fit run signature typed zero = started run (types_of signature.returns) (types_of signature.params) run.program.entry typed.entry typed.arguments
runs_fit run signature typed (suc n) =
    let next = each_step (IsItemTyped run (types_of signature.returns)) run typed.items (λ state. IsItemTyped run (types_of signature.returns)) (λ state item is. is) n in
    steps_fit run (types_of signature.returns) (state_after (script_machine run) n) next (runs_fit run signature typed n)
