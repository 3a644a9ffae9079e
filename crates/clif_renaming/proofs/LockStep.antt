-- A run and the same run with its names renamed go in lock step.
use Rattle.std.proofs.Common.{◌≡◌, ℕ, zero, suc, Bool, List, [], ◌∷◌, map, refl, sym, ◌∙◌, ap, ap₂, subst, Option, Some, None}
use Rattle.std.specs.Prelude.{if◌then◌else◌, slice_get, option_map}
use Rattle.std.proofs.Math.Path.{fun_ext}
use Rattle.clif_types.specs.declared.trapcode.TrapCode.{TrapCode}
use Rattle.clif_types.specs.declared.types.«Type».{«Type»}
use Rattle.clif_meaning.specs.Bits.{Bits}
use Rattle.clif_meaning.specs.Event.{Callee, CallShape, Event, Answer, Results, Exception}
use Rattle.clif_meaning.specs.Instruction.{Edge, Instruction}
use Rattle.clif_meaning.specs.Machine.{Control, At, HasReturned, HasTrapped, IsStuck, Ending, ending_of, state_after, observed}
use Rattle.clif_meaning.specs.Memory.{Memory}
use Rattle.clif_meaning.specs.Name.{Name, same_name}
use Rattle.clif_meaning.specs.Outcome.{Outcome, Gives, Goes, Returns, Traps, Calls, NoStep, outcome_of}
use Rattle.clif_meaning.specs.Program.{Program, Item, Instruct, Use, Assign}
use Rattle.clif_meaning.specs.SameMeaning.{Behaviour}
use Rattle.clif_meaning.specs.ScriptMachine.{ScriptRun, ScriptState, blank_state, call_outside, carry_out, enter_block, follow_edge, run_item, same_variable, script_machine, script_shown, start_at, step_at, take_answer}
use Rattle.clif_meaning.specs.Store.{assigned, memory_beside, shown_memory}
use Rattle.clif_meaning.specs.World.{World}
use Rattle.clif_renaming.specs.Laws.{NamesAreFree, ShowTheSame}
use Rattle.clif_renaming.specs.Renaming.{AreRenamedItems, IsRenamedItem, IsRenamedProgram, IsRenamedRun, KeepsApart, renamed_edge, renamed_instruction}
use Rattle.clif_renaming.proofs.RenamedNames.{arguments_renamed, assigned_renamed, each_renamed}

-- the same place of the two programs
abbrev pub IsRenamedControl : (Name → Name) → Control Item → Control Item → Type 0
IsRenamedControl rename (At rest) (At renamed) = AreRenamedItems rename rest renamed
IsRenamedControl rename (HasReturned results) (HasReturned renamed) = renamed ≡ results
IsRenamedControl rename (HasTrapped reason) (HasTrapped other) = other ≡ reason
IsRenamedControl rename IsStuck IsStuck = Unit {0}
IsRenamedControl rename _ _ = ⊥

-- the second state is the first one renamed
pub record IsRenamedState (rename : Name → Name) (state renamed : ScriptState) : Type 0 where
  pub variables : renamed.variables ≡ state.variables
  pub names : (x : Name) → renamed.names (rename x) ≡ state.names x
  pub memory : renamed.memory ≡ state.memory
  pub events : renamed.events ≡ state.events
  pub control : IsRenamedControl rename state.control renamed.control

-- Two runs in one world, with the same variables and spill slots.
module _ (rename : Name → Name) (apart : KeepsApart rename) (world : World) (hidden : ℕ → Bool) (variable_type : ℕ → «Type») (is_marked : ℕ → Bool)
    (program program' : Program) (name_type name_type' : Name → «Type») (is_tracked is_tracked' : Name → Bool)
    (renamed : IsRenamedProgram rename program program') (same_type : (x : Name) → name_type' (rename x) ≡ name_type x)
    (same_tracked : (x : Name) → is_tracked' (rename x) ≡ is_tracked x) where
  abbrev pub run : ScriptRun
  run = record { program = program; variable_type = variable_type; name_type = name_type; is_marked = is_marked; is_tracked = is_tracked; hidden = hidden; world = world }

  abbrev pub run' : ScriptRun
  run' = record { program = program'; variable_type = variable_type; name_type = name_type'; is_marked = is_marked; is_tracked = is_tracked'; hidden = hidden; world = world }

  abbrev pub Alike : ScriptState → ScriptState → Type 0
  Alike s t = IsRenamedState rename s t

  stuck : (s t : ScriptState) → Alike s t → Alike (record s { control = IsStuck }) (record t { control = IsStuck })
  stuck s t same = record { variables = same.variables; names = same.names; memory = same.memory; events = same.events; control = tt }

  entered : (s t : ScriptState) (block : Name) (arguments : List Bits) → Alike s t
      → Alike (enter_block run s block arguments) (enter_block run' t (rename block) arguments)
  entered s t block arguments same = record {
    variables = same.variables;
    names = λ x. ap (λ (places : List Name). assigned same_name places arguments t.names (rename x)) (renamed.parameters block)
        ∙ assigned_renamed rename apart (program.parameters block) arguments s.names t.names same.names x;
    memory = same.memory;
    events = same.events;
    control = renamed.items block;
  }

  followed : (s t : ScriptState) (given : List Bits) (edges : List (Edge Name Name)) (k : ℕ) → Alike s t
      → Alike (follow_edge run s given (slice_get edges k)) (follow_edge run' t given (slice_get (map (renamed_edge rename) edges) k))
  followed s t given [] k same = stuck s t same
  followed s t given (edge ∷ edges) zero same =
      subst (λ (arguments : List Bits). Alike (follow_edge run s given (Some edge)) (enter_block run' t (rename edge.target) arguments))
      (sym (arguments_renamed rename s.names t.names same.names given edge.arguments))
      (entered s t edge.target _ same)
  followed s t given (edge ∷ edges) (suc k) same = followed s t given edges k same

  given_results : (s t : ScriptState) (results : List Name) (rest rest' : List Item) (values : List Bits) → AreRenamedItems rename rest rest' → Alike s t
      → Alike (record s { names = assigned same_name results values s.names; control = At rest })
      (record t { names = assigned same_name (map rename results) values t.names; control = At rest' })
  given_results s t results rest rest' values left same = record {
    variables = same.variables;
    names = assigned_renamed rename apart results values s.names t.names same.names;
    memory = same.memory;
    events = same.events;
    control = left;
  }

  called : (s t : ScriptState) (callee : Callee) (call : CallShape) (arguments : List Bits) → Alike s t
      → Alike (call_outside run s callee call arguments) (call_outside run' t callee call arguments)
  called s t callee call arguments same = record {
    variables = λ i v. if is_marked v then world.moved (events i) call (variable_type v) (same.variables i v) else same.variables i v;
    names = λ x i. if same_tracked x i then world.moved (events i) call (same_type x i) (same.names x i) else same.names x i;
    memory = λ i. memory_beside hidden (same.memory i) (world.memory_after (events i) call);
    events = events;
    control = same.control;
  }
    where
      events : record { callee = callee; arguments = arguments; memory = shown_memory hidden t.memory } ∷ t.events
          ≡ record { callee = callee; arguments = arguments; memory = shown_memory hidden s.memory } ∷ s.events
      events = ap₂ (λ (memory : Memory) (earlier : List Event). record { callee = callee; arguments = arguments; memory = shown_memory hidden memory } ∷ earlier)
          same.memory same.events

  answered : (s t : ScriptState) (edges : List (Edge Name Name)) (results : List Name) (rest rest' : List Item) (answer : Answer)
      → AreRenamedItems rename rest rest' → Alike s t
      → Alike (take_answer run s edges results rest answer) (take_answer run' t (map (renamed_edge rename) edges) (map rename results) rest' answer)
  answered s t [] results rest rest' (Results values) left same = given_results s t results rest rest' values left same
  answered s t [] results rest rest' (Exception edge payload) left same = stuck s t same
  answered s t (normal ∷ edges) results rest rest' (Results values) left same = followed s t values (normal ∷ edges) 0 same
  answered s t (normal ∷ edges) results rest rest' (Exception edge payload) left same = followed s t payload edges edge same

  with_memory : (s t : ScriptState) (memory : Memory) → Alike s t → Alike (record s { memory = memory }) (record t { memory = memory })
  with_memory s t memory same = record { variables = same.variables; names = same.names; memory = refl; events = same.events; control = same.control }

  carried : (s t : ScriptState) (edges : List (Edge Name Name)) (results : List Name) (rest rest' : List Item) (outcome : Outcome)
      → AreRenamedItems rename rest rest' → Alike s t
      → Alike (carry_out run s edges results rest outcome) (carry_out run' t (map (renamed_edge rename) edges) (map rename results) rest' outcome)
  carried s t edges results rest rest' (Gives values memory) left same =
      given_results (record s { memory = memory }) (record t { memory = memory }) results rest rest' values left (with_memory s t memory same)
  carried s t edges results rest rest' (Goes edge given memory) left same =
      followed (record s { memory = memory }) (record t { memory = memory }) given edges edge (with_memory s t memory same)
  carried s t edges results rest rest' (Returns values) left same =
      record { variables = same.variables; names = same.names; memory = same.memory; events = same.events; control = refl }
  carried s t edges results rest rest' (Traps reason) left same =
      record { variables = same.variables; names = same.names; memory = same.memory; events = same.events; control = refl }
  carried s t edges results rest rest' (Calls callee call arguments) left same =
      let after = call_outside run s callee call arguments in
      let after' = call_outside run' t callee call arguments in
      let both = called s t callee call arguments same in
      subst (λ (answer : Answer). Alike (take_answer run after edges results rest (world.answer after.events call)) (take_answer run' after' (map (renamed_edge rename) edges) (map rename results) rest' answer))
      (ap (λ (events : List Event). world.answer events call) (sym both.events))
      (answered after after' edges results rest rest' (world.answer after.events call) left both)
  carried s t edges results rest rest' NoStep left same = stuck s t same

  -- the operands have the same types and bits, and so the outcome is the same
  instructed : (s t : ScriptState) (place other : ℕ) (instruction : Instruction Name Name) (results : List Name) (rest rest' : List Item)
      → AreRenamedItems rename rest rest' → Alike s t
      → Alike (run_item run s (Instruct place instruction results) rest) (run_item run' t (Instruct other (renamed_instruction rename instruction) (map rename results)) rest')
  instructed s t place other instruction results rest rest' left same =
      subst (λ (outcome : Outcome). Alike (run_item run s (Instruct place instruction results) rest) (carry_out run' t (map (renamed_edge rename) instruction.edges) (map rename results) rest' outcome))
      (sym outcomes)
      (carried s t instruction.edges results rest rest' _ left same)
    where
      outcomes : outcome_of world instruction.operation instruction.controlling (map name_type' (map rename instruction.operands)) (map t.names (map rename instruction.operands)) t.memory
          ≡ outcome_of world instruction.operation instruction.controlling (map name_type instruction.operands) (map s.names instruction.operands) s.memory
      outcomes = λ i.
          outcome_of world instruction.operation instruction.controlling
          (each_renamed rename name_type name_type' same_type instruction.operands i) (each_renamed rename s.names t.names same.names instruction.operands i) (same.memory i)

  used : (s t : ScriptState) (variable : ℕ) (name : Name) (rest rest' : List Item) → AreRenamedItems rename rest rest' → Alike s t
      → Alike (run_item run s (Use variable name) rest) (run_item run' t (Use variable (rename name)) rest')
  used s t variable name rest rest' left same =
      subst (λ (bits : Bits). Alike (run_item run s (Use variable name) rest) (record t { names = assigned same_name (rename name ∷ []) (bits ∷ []) t.names; control = At rest' }))
      (ap (λ (variables : ℕ → Bits). variables variable) (sym same.variables))
      (given_results s t (name ∷ []) rest rest' (s.variables variable ∷ []) left same)

  assigned_too : (s t : ScriptState) (variable : ℕ) (name : Name) (rest rest' : List Item) → AreRenamedItems rename rest rest' → Alike s t
      → Alike (run_item run s (Assign variable name) rest) (run_item run' t (Assign variable (rename name)) rest')
  assigned_too s t variable name rest rest' left same = record {
    variables = λ i. assigned same_variable (variable ∷ []) (same.names name i ∷ []) (same.variables i);
    names = same.names;
    memory = same.memory;
    events = same.events;
    control = left;
  }

  item_alike : (s t : ScriptState) (item item' : Item) (rest rest' : List Item) → IsRenamedItem rename item item' → AreRenamedItems rename rest rest' → Alike s t
      → Alike (run_item run s item rest) (run_item run' t item' rest')
  item_alike s t (Instruct place instruction results) (Instruct other changed names) rest rest' is left same =
      subst (λ (n : List Name). Alike (run_item run s (Instruct place instruction results) rest) (run_item run' t (Instruct other changed n) rest')) (sym is.1)
      (subst (λ (n : Instruction Name Name). Alike (run_item run s (Instruct place instruction results) rest) (run_item run' t (Instruct other n (map rename results)) rest')) (sym is.0)
      (instructed s t place other instruction results rest rest' left same))
  item_alike s t (Instruct place instruction results) (Use variable name) rest rest' is left same = absurd is
  item_alike s t (Instruct place instruction results) (Assign variable name) rest rest' is left same = absurd is
  item_alike s t (Use variable name) (Instruct place instruction results) rest rest' is left same = absurd is
  item_alike s t (Use variable name) (Use other name') rest rest' is left same =
      subst (λ (n : Name). Alike (run_item run s (Use variable name) rest) (run_item run' t (Use other n) rest')) (sym is.1)
      (subst (λ (v : ℕ). Alike (run_item run s (Use variable name) rest) (run_item run' t (Use v (rename name)) rest')) (sym is.0)
      (used s t variable name rest rest' left same))
  item_alike s t (Use variable name) (Assign other name') rest rest' is left same = absurd is
  item_alike s t (Assign variable name) (Instruct place instruction results) rest rest' is left same = absurd is
  item_alike s t (Assign variable name) (Use other name') rest rest' is left same = absurd is
  item_alike s t (Assign variable name) (Assign other name') rest rest' is left same =
      subst (λ (n : Name). Alike (run_item run s (Assign variable name) rest) (run_item run' t (Assign other n) rest')) (sym is.1)
      (subst (λ (v : ℕ). Alike (run_item run s (Assign variable name) rest) (run_item run' t (Assign v (rename name)) rest')) (sym is.0)
      (assigned_too s t variable name rest rest' left same))

  stepped : (s t : ScriptState) (control control' : Control Item) → IsRenamedControl rename control control' → Alike s t
      → Alike (step_at run s control) (step_at run' t control')
  stepped s t (At []) (At []) is same = stuck s t same
  stepped s t (At []) (At (item' ∷ rest')) is same = absurd is
  stepped s t (At (item ∷ rest)) (At []) is same = absurd is
  stepped s t (At (item ∷ rest)) (At (item' ∷ rest')) is same = item_alike s t item item' rest rest' is.0 is.1 same
  stepped s t (At rest) (HasReturned results) is same = absurd is
  stepped s t (At rest) (HasTrapped reason) is same = absurd is
  stepped s t (At rest) IsStuck is same = absurd is
  stepped s t (HasReturned results) (At rest) is same = absurd is
  stepped s t (HasReturned results) (HasReturned other) is same = same
  stepped s t (HasReturned results) (HasTrapped reason) is same = absurd is
  stepped s t (HasReturned results) IsStuck is same = absurd is
  stepped s t (HasTrapped reason) (At rest) is same = absurd is
  stepped s t (HasTrapped reason) (HasReturned results) is same = absurd is
  stepped s t (HasTrapped reason) (HasTrapped other) is same = same
  stepped s t (HasTrapped reason) IsStuck is same = absurd is
  stepped s t IsStuck (At rest) is same = absurd is
  stepped s t IsStuck (HasReturned results) is same = absurd is
  stepped s t IsStuck (HasTrapped reason) is same = absurd is
  stepped s t IsStuck IsStuck is same = same

  blank : Alike (blank_state run) (blank_state run')
  blank = record { variables = refl; names = λ x. refl; memory = refl; events = refl; control = tt }

  started : (entry : Option Name) → Alike (start_at run entry) (start_at run' (option_map rename entry))
  started None = blank
  started (Some entry) = entered (blank_state run) (blank_state run') entry world.arguments blank

  pub in_step : (n : ℕ) → Alike (state_after (script_machine run) n) (state_after (script_machine run') n)
  in_step zero = subst (λ (entry : Option Name). Alike (start_at run program.entry) (start_at run' entry)) (sym renamed.entry) (started program.entry)
  in_step (suc n) =
      let before = in_step n in
      stepped (state_after (script_machine run) n) (state_after (script_machine run') n)
      (state_after (script_machine run) n).control (state_after (script_machine run') n).control before.control before

  ends_alike : (control control' : Control Item) (memory : Memory) → IsRenamedControl rename control control' → ending_of control memory ≡ ending_of control' memory
  ends_alike (At rest) (At rest') memory is = refl
  ends_alike (At rest) (HasReturned results) memory is = absurd is
  ends_alike (At rest) (HasTrapped reason) memory is = absurd is
  ends_alike (At rest) IsStuck memory is = absurd is
  ends_alike (HasReturned results) (At rest) memory is = absurd is
  ends_alike (HasReturned results) (HasReturned other) memory is = ap (λ (values : List Bits). ending_of {Item = Item} (HasReturned values) memory) (sym is)
  ends_alike (HasReturned results) (HasTrapped reason) memory is = absurd is
  ends_alike (HasReturned results) IsStuck memory is = absurd is
  ends_alike (HasTrapped reason) (At rest) memory is = absurd is
  ends_alike (HasTrapped reason) (HasReturned results) memory is = absurd is
  ends_alike (HasTrapped reason) (HasTrapped other) memory is = ap (λ (trap : TrapCode). ending_of {Item = Item} (HasTrapped trap) memory) (sym is)
  ends_alike (HasTrapped reason) IsStuck memory is = absurd is
  ends_alike IsStuck (At rest) memory is = absurd is
  ends_alike IsStuck (HasReturned results) memory is = absurd is
  ends_alike IsStuck (HasTrapped reason) memory is = absurd is
  ends_alike IsStuck IsStuck memory is = refl

  shown_alike : (s t : ScriptState) → Alike s t → script_shown run s ≡ script_shown run' t
  shown_alike s t same =
      ap₂ (λ (events : List Event) (memory : Memory). record { events = events; ending = ending_of s.control (shown_memory hidden memory) }) (sym same.events) (sym same.memory)
      ∙ ap (λ (ending : Ending). record { events = t.events; ending = ending }) (ends_alike s.control t.control (shown_memory hidden t.memory) same.control)

  pub observed_alike : (n : ℕ) → observed (script_machine run) n ≡ observed (script_machine run') n
  observed_alike n = shown_alike (state_after (script_machine run) n) (state_after (script_machine run') n) (in_step n)

-- runs that show the same have the same meaning
pub show_the_same : (left right : Behaviour) → ((n : ℕ) → left n ≡ right n) → ShowTheSame left right
show_the_same left right same = record {
  each_step = same;
  same_meaning = record { there = λ n. (n, same n); back = λ n. (n, sym (same n)) };
}

-- the second run, with the variables, the spill slots and the world of the first one
abbrev pub with_world_of : ScriptRun → ScriptRun → ScriptRun
with_world_of run renamed = record {
  program = renamed.program;
  variable_type = run.variable_type;
  name_type = renamed.name_type;
  is_marked = run.is_marked;
  is_tracked = renamed.is_tracked;
  hidden = run.hidden;
  world = run.world;
}

-- The renamed run is one in the same world, with the same variables and spill slots.
pub same_world : (rename : Name → Name) (first renamed : ScriptRun) → IsRenamedRun rename first renamed → with_world_of first renamed ≡ renamed
same_world rename first renamed is = sym (λ i. record {
  program = renamed.program;
  variable_type = fun_ext is.variable_type i;
  name_type = renamed.name_type;
  is_marked = fun_ext is.is_marked i;
  is_tracked = renamed.is_tracked;
  hidden = fun_ext is.hidden i;
  world = is.world i;
})

pub states_alike : (rename : Name → Name) (first renamed : ScriptRun) → KeepsApart rename → IsRenamedRun rename first renamed → (n : ℕ)
    → IsRenamedState rename (state_after (script_machine first) n) (state_after (script_machine (with_world_of first renamed)) n)
states_alike rename first renamed apart is n =
    in_step rename apart first.world first.hidden first.variable_type first.is_marked first.program renamed.program
    first.name_type renamed.name_type first.is_tracked renamed.is_tracked is.program is.name_type is.is_tracked n

pub names_are_free : NamesAreFree
names_are_free rename run renamed apart is =
    show_the_same (observed (script_machine run)) (observed (script_machine renamed)) (λ n.
    observed_alike rename apart run.world run.hidden run.variable_type run.is_marked run.program renamed.program
    run.name_type renamed.name_type run.is_tracked renamed.is_tracked is.program is.name_type is.is_tracked n
    ∙ ap (λ (r : ScriptRun). observed (script_machine r) n) (same_world rename run renamed is))
