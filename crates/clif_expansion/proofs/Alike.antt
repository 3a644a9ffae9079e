-- The run of a script and the run of its plain program: states that are alike, and what a step of the script is matched by.
use Rattle.std.proofs.Common.{◌≡◌, ℕ, zero, suc, Bool, List, [], ◌∷◌, map, refl, sym, ap, ap₂, subst, Option, Some, None}
use Rattle.std.specs.Prelude.{if◌then◌else◌, slice_get}
use Rattle.std.specs.List.{AllZip}
use Rattle.clif_types.specs.declared.types.«Type».{«Type»}
use Rattle.clif_meaning.specs.Bits.{Bits}
use Rattle.clif_meaning.specs.Event.{Callee, CallShape, Event, Answer, Results, Exception}
use Rattle.clif_meaning.specs.Instruction.{Edge, Instruction, Operation}
use Rattle.clif_meaning.specs.Machine.{Control, At, HasReturned, HasTrapped, IsStuck}
use Rattle.clif_meaning.specs.Memory.{Memory}
use Rattle.clif_meaning.specs.Name.{Name, same_name}
use Rattle.clif_meaning.specs.Outcome.{Outcome, Gives, Goes, Returns, Traps, Calls, NoStep, outcome_of}
use Rattle.clif_meaning.specs.Program.{Program, Item, Instruct, Use, Assign}
use Rattle.clif_meaning.specs.ScriptMachine.{ScriptRun, ScriptState, blank_state, call_outside, carry_out, enter_block, follow_edge, run_item, same_variable, start_at, take_answer}
use Rattle.clif_meaning.specs.Store.{assigned, memory_beside, shown_memory}
use Rattle.clif_meaning.specs.World.{World}
use Rattle.clif_expansion.specs.Code.{NameTypes}
use Rattle.clif_expansion.specs.Expansion.{AreExpanded, IsExpandedProgram, IsReadBlock}
use Rattle.clif_expansion.specs.Reading.{Agree, IsOneToOne, IsReadAs, IsReadEdge, IsReadInstruction, IsReadItem, Reading}
use Rattle.clif_expansion.proofs.Names.{arguments_read, assigned_read, each_read}

-- the same place of the two programs
abbrev pub IsSamePlace : ℕ → Reading → NameTypes → Program → (plain control : Control Item) → Type 0
IsSamePlace width reading types program (At plain) (At items) = AreExpanded width reading types program plain items
IsSamePlace width reading types program (HasReturned plain) (HasReturned results) = plain ≡ results
IsSamePlace width reading types program (HasTrapped plain) (HasTrapped reason) = plain ≡ reason
IsSamePlace width reading types program IsStuck IsStuck = Unit {0}
IsSamePlace width reading types program _ _ = ⊥

-- beside where they stand, the states are alike
pub record Agrees (reading : Reading) (plain state : ScriptState) : Type 0 where
  pub variables : plain.variables ≡ state.variables
  pub names : Agree reading plain.names state.names
  pub memory : plain.memory ≡ state.memory
  pub events : plain.events ≡ state.events

pub record IsAlike (width : ℕ) (reading : Reading) (types : NameTypes) (program : Program) (plain state : ScriptState) : Type 0 where
  pub agrees : Agrees reading plain state
  pub place : IsSamePlace width reading types program plain.control state.control

-- Two runs in one world, with the same variables and spill slots.
module _ (reading : Reading) (one_to_one : IsOneToOne reading) (world : World) (hidden : ℕ → Bool) (variable_type : ℕ → «Type») (is_marked : ℕ → Bool)
    (program' program : Program) (type' type : Name → «Type») (tracked' tracked : Name → Bool)
    (expanded : IsExpandedProgram world.pointer_width reading (record { plain = type'; script = type }) program' program)
    (same_type : Agree reading type' type) (same_tracked : Agree reading tracked' tracked) where
  abbrev pub run : ScriptRun
  run = record { program = program; variable_type = variable_type; name_type = type; is_marked = is_marked; is_tracked = tracked; hidden = hidden; world = world }

  abbrev pub run' : ScriptRun
  run' = record { program = program'; variable_type = variable_type; name_type = type'; is_marked = is_marked; is_tracked = tracked'; hidden = hidden; world = world }

  abbrev pub Alike : ScriptState → ScriptState → Type 0
  Alike t s = IsAlike world.pointer_width reading (record { plain = type'; script = type }) program' t s

  abbrev pub Left : List Item → List Item → Type 0
  Left rest' rest = AreExpanded world.pointer_width reading (record { plain = type'; script = type }) program' rest' rest

  stuck : (t s : ScriptState) → Agrees reading t s → Alike (record t { control = IsStuck }) (record s { control = IsStuck })
  stuck t s same = record { agrees = record { variables = same.variables; names = same.names; memory = same.memory; events = same.events }; place = tt }

  entered : (t s : ScriptState) (x block : Name) (arguments : List Bits) → IsReadAs reading x block → Agrees reading t s
      → Alike (enter_block run' t x arguments) (enter_block run s block arguments)
  entered t s x block arguments is same = record {
    agrees = record {
      variables = same.variables;
      names = assigned_read reading one_to_one (program'.parameters x) (program.parameters block) arguments t.names s.names (expanded.parameters x block is) same.names;
      memory = same.memory;
      events = same.events;
    };
    place = expanded.items x block is;
  }

  along : (t s : ScriptState) (given : List Bits) (edge' edge : Edge Name Name) → IsReadEdge reading edge' edge → Agrees reading t s
      → Alike (follow_edge run' t given (Some edge')) (follow_edge run s given (Some edge))
  along t s given edge' edge is same =
      subst (λ (arguments : List Bits). Alike (follow_edge run' t given (Some edge')) (enter_block run s edge.target arguments))
      (arguments_read reading t.names s.names same.names given edge'.arguments edge.arguments is.arguments)
      (entered t s edge'.target edge.target _ is.target same)

  followed : (t s : ScriptState) (given : List Bits) (edges' edges : List (Edge Name Name)) (k : ℕ) → AllZip (IsReadEdge reading) edges' edges → Agrees reading t s
      → Alike (follow_edge run' t given (slice_get edges' k)) (follow_edge run s given (slice_get edges k))
  followed t s given [] [] k is same = stuck t s same
  followed t s given [] (edge ∷ edges) k is same = absurd is
  followed t s given (edge' ∷ edges') [] k is same = absurd is
  followed t s given (edge' ∷ edges') (edge ∷ edges) zero is same = along t s given edge' edge is.0 same
  followed t s given (edge' ∷ edges') (edge ∷ edges) (suc k) is same = followed t s given edges' edges k is.1 same

  given_results : (t s : ScriptState) (results' results : List Name) (rest' rest : List Item) (values : List Bits)
      → AllZip (IsReadAs reading) results' results → Left rest' rest → Agrees reading t s
      → Alike (record t { names = assigned same_name results' values t.names; control = At rest' })
      (record s { names = assigned same_name results values s.names; control = At rest })
  given_results t s results' results rest' rest values read left same = record {
    agrees = record {
      variables = same.variables;
      names = assigned_read reading one_to_one results' results values t.names s.names read same.names;
      memory = same.memory;
      events = same.events;
    };
    place = left;
  }

  called : (t s : ScriptState) (callee : Callee) (call : CallShape) (arguments : List Bits) → Agrees reading t s
      → Agrees reading (call_outside run' t callee call arguments) (call_outside run s callee call arguments)
  called t s callee call arguments same = record {
    variables = λ i v. if is_marked v then world.moved (events i) call (variable_type v) (same.variables i v) else same.variables i v;
    names = λ x name is i. if same_tracked x name is i then world.moved (events i) call (same_type x name is i) (same.names x name is i) else same.names x name is i;
    memory = λ i. memory_beside hidden (same.memory i) (world.memory_after (events i) call);
    events = events;
  }
    where
      events : record { callee = callee; arguments = arguments; memory = shown_memory hidden t.memory } ∷ t.events
          ≡ record { callee = callee; arguments = arguments; memory = shown_memory hidden s.memory } ∷ s.events
      events = ap₂ (λ (memory : Memory) (earlier : List Event). record { callee = callee; arguments = arguments; memory = shown_memory hidden memory } ∷ earlier)
          same.memory same.events

  answered : (t s : ScriptState) (edges' edges : List (Edge Name Name)) (results' results : List Name) (rest' rest : List Item) (answer : Answer)
      → AllZip (IsReadEdge reading) edges' edges → AllZip (IsReadAs reading) results' results → Left rest' rest → Agrees reading t s
      → Alike (take_answer run' t edges' results' rest' answer) (take_answer run s edges results rest answer)
  answered t s [] [] results' results rest' rest (Results values) edge read left same = given_results t s results' results rest' rest values read left same
  answered t s [] [] results' results rest' rest (Exception edge payload) is read left same = stuck t s same
  answered t s [] (normal ∷ edges) results' results rest' rest answer is read left same = absurd is
  answered t s (normal' ∷ edges') [] results' results rest' rest answer is read left same = absurd is
  answered t s (normal' ∷ edges') (normal ∷ edges) results' results rest' rest (Results values) is read left same = along t s values normal' normal is.0 same
  answered t s (normal' ∷ edges') (normal ∷ edges) results' results rest' rest (Exception edge payload) is read left same = followed t s payload edges' edges edge is.1 same

  with_memory : (t s : ScriptState) (memory : Memory) → Agrees reading t s → Agrees reading (record t { memory = memory }) (record s { memory = memory })
  with_memory t s memory same = record { variables = same.variables; names = same.names; memory = refl; events = same.events }

  carried : (t s : ScriptState) (edges' edges : List (Edge Name Name)) (results' results : List Name) (rest' rest : List Item) (outcome : Outcome)
      → AllZip (IsReadEdge reading) edges' edges → AllZip (IsReadAs reading) results' results → Left rest' rest → Agrees reading t s
      → Alike (carry_out run' t edges' results' rest' outcome) (carry_out run s edges results rest outcome)
  carried t s edges' edges results' results rest' rest (Gives values memory) is read left same =
      given_results (record t { memory = memory }) (record s { memory = memory }) results' results rest' rest values read left (with_memory t s memory same)
  carried t s edges' edges results' results rest' rest (Goes edge given memory) is read left same =
      followed (record t { memory = memory }) (record s { memory = memory }) given edges' edges edge is (with_memory t s memory same)
  carried t s edges' edges results' results rest' rest (Returns values) is read left same =
      record { agrees = record { variables = same.variables; names = same.names; memory = same.memory; events = same.events }; place = refl }
  carried t s edges' edges results' results rest' rest (Traps reason) is read left same =
      record { agrees = record { variables = same.variables; names = same.names; memory = same.memory; events = same.events }; place = refl }
  carried t s edges' edges results' results rest' rest (Calls callee call arguments) is read left same =
      let after = call_outside run s callee call arguments in
      let after' = call_outside run' t callee call arguments in
      let both = called t s callee call arguments same in
      subst (λ (answer : Answer). Alike (take_answer run' after' edges' results' rest' answer) (take_answer run after edges results rest (world.answer after.events call)))
      (ap (λ (events : List Event). world.answer events call) (sym both.events))
      (answered after' after edges' edges results' results rest' rest (world.answer after.events call) is read left both)
  carried t s edges' edges results' results rest' rest NoStep is read left same = stuck t s same

  -- operands have the same types and bits, and so an instruction with its names read has the same outcome
  pub same_operands : {X : Type 0} (made : Operation → «Type» → List «Type» → List Bits → X) (plain instruction : Instruction Name Name) (t s : ScriptState)
      → IsReadInstruction reading plain instruction → Agrees reading t s
      → made plain.operation plain.controlling (map type' plain.operands) (map t.names plain.operands)
      ≡ made instruction.operation instruction.controlling (map type instruction.operands) (map s.names instruction.operands)
  same_operands made plain instruction t s is same = λ i.
      made (is.operation i) (is.controlling i) (each_read reading type' type same_type plain.operands instruction.operands is.operands i)
      (each_read reading t.names s.names same.names plain.operands instruction.operands is.operands i)

  instructed : (t s : ScriptState) (place other : ℕ) (plain instruction : Instruction Name Name) (results' results : List Name) (rest' rest : List Item)
      → IsReadInstruction reading plain instruction → AllZip (IsReadAs reading) results' results → Left rest' rest → Agrees reading t s
      → Alike (run_item run' t (Instruct place plain results') rest') (run_item run s (Instruct other instruction results) rest)
  instructed t s place other plain instruction results' results rest' rest is read left same =
      subst (λ (outcome : Outcome). Alike (carry_out run' t plain.edges results' rest' outcome) (run_item run s (Instruct other instruction results) rest))
      (sym outcomes)
      (carried t s plain.edges instruction.edges results' results rest' rest _ is.edges read left same)
    where
      outcomes : outcome_of world plain.operation plain.controlling (map type' plain.operands) (map t.names plain.operands) t.memory
          ≡ outcome_of world instruction.operation instruction.controlling (map type instruction.operands) (map s.names instruction.operands) s.memory
      outcomes = λ i. same_operands (λ (operation : Operation) (ty : «Type») (types : List «Type») (bits : List Bits). outcome_of world operation ty types bits (same.memory i)) plain instruction t s is same i

  pub item_alike : (t s : ScriptState) (plain item : Item) (rest' rest : List Item) → IsReadItem reading plain item → Left rest' rest → Agrees reading t s
      → Alike (run_item run' t plain rest') (run_item run s item rest)
  item_alike t s (Instruct place plain results') (Instruct other instruction results) rest' rest is left same =
      instructed t s place other plain instruction results' results rest' rest is.0 is.1 left same
  item_alike t s (Instruct place plain results') (Use variable name) rest' rest is left same = absurd is
  item_alike t s (Instruct place plain results') (Assign variable name) rest' rest is left same = absurd is
  item_alike t s (Use variable' x) (Instruct other instruction results) rest' rest is left same = absurd is
  item_alike t s (Use variable' x) (Use variable name) rest' rest is left same =
      subst (λ (bits : Bits). Alike (record t { names = assigned same_name (x ∷ []) (bits ∷ []) t.names; control = At rest' }) (run_item run s (Use variable name) rest))
      (λ i. sym same.variables i (sym is.0 i))
      (given_results t s (x ∷ []) (name ∷ []) rest' rest (s.variables variable ∷ []) (is.1, tt) left same)
  item_alike t s (Use variable' x) (Assign variable name) rest' rest is left same = absurd is
  item_alike t s (Assign variable' x) (Instruct other instruction results) rest' rest is left same = absurd is
  item_alike t s (Assign variable' x) (Use variable name) rest' rest is left same = absurd is
  item_alike t s (Assign variable' x) (Assign variable name) rest' rest is left same = record {
    agrees = record {
      variables = λ i. assigned same_variable (is.0 i ∷ []) (same.names x name is.1 i ∷ []) (same.variables i);
      names = same.names;
      memory = same.memory;
      events = same.events;
    };
    place = left;
  }

  blank : Agrees reading (blank_state run') (blank_state run)
  blank = record { variables = refl; names = λ x name is. refl; memory = refl; events = refl }

  started : (entry' entry : Option Name) → IsReadBlock reading entry' entry → Alike (start_at run' entry') (start_at run entry)
  started None None is = record { agrees = blank; place = tt }
  started None (Some entry) is = absurd is
  started (Some entry') None is = absurd is
  started (Some entry') (Some entry) is = entered (blank_state run') (blank_state run) entry' entry world.arguments is blank

  pub starts : Alike (start_at run' program'.entry) (start_at run program.entry)
  starts = started program'.entry program.entry expanded.entry
