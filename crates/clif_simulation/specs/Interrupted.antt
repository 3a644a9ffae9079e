-- Interrupted runs of calls so far, with any branches: each time control enters an unsealed block, whose branches aren't
-- all known, variables have any bits, and a parameter that waits there has its variable's; names, other values, memory and
-- events stay. Whatever further calls make of a run at an unsealed block, it is such a run up to there. Own.
use Rattle.std.specs.Prelude.{◌≡◌, ◌⊎◌, ℕ, suc, Bool, true, false, List, [], ◌∷◌, map, flat_map, drop, Option, Some, None, slice_get, IsTrue}
use Rattle.clif_types.specs.Signature.{SignatureShape}
use Rattle.clif_types.specs.declared.target.PointerWidth.{PointerWidth}
use Rattle.clif_ir.specs.Body.{Body, block_at, resolved}
use Rattle.clif_records.specs.declared.tables.Pending.{Pending}
use Rattle.clif_ssa.specs.Sound.{EntryIsFree}
use Rattle.clif_ssa.specs.Ssa.{SsaState, record_of, sealed_of}
use Rattle.clif_records.specs.Tables.{is_yes, pending_of}
use Rattle.clif_meaning.specs.Bits.{Bits}
use Rattle.clif_meaning.specs.Name.{Name}
use Rattle.clif_meaning.specs.Request.{AnsweredCall}
use Rattle.clif_meaning.specs.Instruction.{Edge}
use Rattle.clif_meaning.specs.Program.{Item, Instruct, Use, Assign}
use Rattle.clif_meaning.specs.Event.{Answer, CallShape, Callee, Exception, Results}
use Rattle.clif_meaning.specs.World.{World}
use Rattle.clif_meaning.specs.Outcome.{Outcome, Gives, Goes, Returns, Traps, Calls, NoStep, outcome_of}
use Rattle.clif_meaning.specs.Store.{assigned}
use Rattle.clif_meaning.specs.Machine.{Machine, Control, At, HasReturned, HasTrapped, IsStuck, Observation, state_after}
use Rattle.clif_meaning.specs.ScriptMachine as script
use Rattle.clif_meaning.specs.ScriptMachine.{ScriptRun, ScriptState, script_machine}
use Rattle.clif_meaning.specs.FunctionMachine as machine
use Rattle.clif_meaning.specs.FunctionMachine.{Collector, FunctionRun, FunctionState, function_machine, value_bits, same_value}
use Rattle.clif_meaning.specs.FunctionView.{Placed}
use Rattle.clif_meaning.specs.View.{view_of, block_of}
use Rattle.clif_meaning.specs.Path.{Place}
use Rattle.clif_meaning.specs.WellPlaced.{Code, IsGivenBefore}
use Rattle.clif_meaning.specs.Headline.{IsWorldOf}
use Rattle.clif_simulation.specs.Tables.{answered, block_name, program_so_far}
use Rattle.clif_simulation.specs.Carries.{carried}
use Rattle.clif_simulation.specs.Reading.{code_so_far, behind, may_grow, MovesAlike, PremisesSoFar, script_run_so_far, function_run_so_far, IsAtEnd}

-- The edge that an answer takes: a return the normal one, the first, and an exception that of an item. A plain call has no edges.
abbrev pub taken_by : {Block Operand : Type 0} → List (Edge Block Operand) → Answer → Option (Edge Block Operand)
taken_by edges (Results results) = slice_get edges 0
taken_by edges (Exception item payload) = slice_get edges (suc item)

-- the edge that an instruction takes, where outside calls get these answers
abbrev pub taken_of : {Block Operand : Type 0} → (Callee → CallShape → List Bits → Answer) → List (Edge Block Operand) → Outcome → Option (Edge Block Operand)
taken_of answer edges (Gives results memory) = None
taken_of answer edges (Goes edge given memory) = slice_get edges edge
taken_of answer edges (Returns results) = None
taken_of answer edges (Traps reason) = None
taken_of answer edges (Calls callee call arguments) = taken_by edges (answer callee call arguments)
taken_of answer edges NoStep = None

-- what variables hold as a run enters a block after so many others, if that block isn't sealed
abbrev pub Unknowns : Type 0
Unknowns = ℕ → ℕ → Bits

-- The script's side --------------------------------------------------------------------------------------------------

-- a state of an interrupted run, the place where it stands, and how many blocks it has entered
pub record ScriptStanding : Type 0 where
  pub state : ScriptState
  pub place : Place Name
  pub entries : ℕ

-- what the world answers to an outside call, behind its event
abbrev pub script_answer : ScriptRun → ScriptState → Callee → CallShape → List Bits → Answer
script_answer run state callee call arguments = run.world.answer (script.call_outside run state callee call arguments).events call

-- the edge that the next step takes
abbrev pub item_edge : ScriptRun → ScriptState → Item → Option (Edge Name Name)
item_edge run state (Instruct place instruction results) =
    taken_of (script_answer run state) instruction.edges (outcome_of run.world instruction.operation instruction.controlling
    (map run.name_type instruction.operands) (map state.names instruction.operands) state.memory)
item_edge run state (Use variable name) = None
item_edge run state (Assign variable name) = None

abbrev pub script_edge : ScriptRun → ScriptState → Control Item → Option (Edge Name Name)
script_edge run state (At []) = None
script_edge run state (At (item ∷ rest)) = item_edge run state item
script_edge run state (HasReturned results) = None
script_edge run state (HasTrapped reason) = None
script_edge run state IsStuck = None

-- variables as control enters a block: any bits where it isn't sealed
abbrev pub variables_entering : Bool → (ℕ → Bits) → (ℕ → Bits) → ℕ → Bits
variables_entering true unknown variables = variables
variables_entering false unknown variables = unknown

-- at the front of the block with this number and name
abbrev pub script_enters : SsaState → Unknowns → ℕ → Name → ℕ → ScriptState → ScriptStanding
script_enters s unknowns block name entries state = record {
  state = record state { variables = variables_entering (is_yes (sealed_of s block)) (unknowns entries) state.variables };
  place = behind name 0;
  entries = suc entries;
}

-- to the front of the block that an edge leads to, or to the next place of the same block
abbrev pub script_goes : List AnsweredCall → SsaState → Unknowns → ScriptStanding → Option (Edge Name Name) → ScriptState → ScriptStanding
script_goes calls s unknowns before None state = record before { state = state; place = behind before.place.block (suc before.place.index) }
script_goes calls s unknowns before (Some edge) state = script_enters s unknowns (answered calls edge.target) edge.target before.entries state

-- the run from the entry, which has this number and name
abbrev pub interrupted_script : List AnsweredCall → SsaState → Unknowns → ℕ → Name → ScriptRun → Machine ScriptStanding Observation
interrupted_script calls s unknowns block name run = record {
  start = script_enters s unknowns block name 0 (script_machine run).start;
  next = λ standing. script_goes calls s unknowns standing (script_edge run standing.state standing.state.control) ((script_machine run).next standing.state);
  shown = λ standing. (script_machine run).shown standing.state;
}

-- The function's side ------------------------------------------------------------------------------------------------

-- a state of an interrupted run, and how many blocks it has entered
pub record FunctionStanding : Type 0 where
  pub state : FunctionState
  pub entries : ℕ

abbrev pub function_answer : FunctionRun → FunctionState → Placed → Callee → CallShape → List Bits → Answer
function_answer run state placed callee call arguments = run.world.answer (machine.call_outside run state placed.stack_map callee call arguments).events call

abbrev pub function_edge : FunctionRun → FunctionState → Control Placed → Option (Edge ℕ ℕ)
function_edge run state (At []) = None
function_edge run state (At (placed ∷ rest)) =
    taken_of (function_answer run state placed) placed.instruction.edges
    (outcome_of run.world placed.instruction.operation placed.instruction.controlling
    (map run.function.value_type placed.instruction.operands) (map (value_bits run state) placed.instruction.operands) state.memory)
function_edge run state (HasReturned results) = None
function_edge run state (HasTrapped reason) = None
function_edge run state IsStuck = None

-- values as control enters a block: parameters that wait have their variables' bits
abbrev pub values_entering : List Pending → (ℕ → Bits) → (ℕ → Bits) → ℕ → Bits
values_entering waiting unknown values = assigned same_value (map (λ (p : Pending). p.param) waiting) (map (λ (p : Pending). unknown p.variable) waiting) values

abbrev pub function_enters : SsaState → Unknowns → ℕ → ℕ → FunctionState → FunctionStanding
function_enters s unknowns block entries state = record {
  state = record state { values = values_entering (pending_of (sealed_of s block)) (unknowns entries) state.values };
  entries = suc entries;
}

abbrev pub function_goes : SsaState → Unknowns → FunctionStanding → Option (Edge ℕ ℕ) → FunctionState → FunctionStanding
function_goes s unknowns before None state = record before { state = state }
function_goes s unknowns before (Some edge) state = function_enters s unknowns edge.target before.entries state

abbrev pub interrupted_function : SsaState → Unknowns → ℕ → FunctionRun → Machine FunctionStanding Observation
interrupted_function s unknowns block run = record {
  start = function_enters s unknowns block 0 (function_machine run).start;
  next = λ standing. function_goes s unknowns standing (function_edge run standing.state standing.state.control) ((function_machine run).next standing.state);
  shown = λ standing. (function_machine run).shown standing.state;
}

-- Beside one another -------------------------------------------------------------------------------------------------

-- an instruction, but for what its edges pass
abbrev pub without_arguments : Placed → Placed
without_arguments placed =
    record placed { instruction = record placed.instruction { edges = map (λ (edge : Edge ℕ ℕ). record edge { arguments = [] }) placed.instruction.edges } }

-- The function stands at a place of the block behind which it has the instructions of these items.
pub record StandsBefore (calls : List AnsweredCall) (f : Body) (block : ℕ) (items : List Item) (control : Control Placed) : Type 0 where
  pub index : ℕ
  pub at : control ≡ At (drop index (block_of f block).items)
  pub instructions : map without_arguments (drop index (block_of f block).items) ≡ map without_arguments (flat_map (carried calls) items)

-- Both stand behind so many items of the block: a name that is given before that place of this code has its value's bits, and at
-- the block's end so far each variable has its record's.
pub record StandsBesideIn (code : Code Name Name) (calls : List AnsweredCall) (f : Body) (s : SsaState) (block : ℕ) (name : Name) (count : ℕ) (p : ScriptState) (q : FunctionState) : Type 0 where
  pub script_at : p.control ≡ At (drop count ((program_so_far calls).items name))
  pub function_at : StandsBefore calls f block (drop count ((program_so_far calls).items name)) q.control
  pub same_memory : p.memory ≡ q.memory
  pub same_events : p.events ≡ q.events
  pub names : (x : Name) → IsGivenBefore code x (behind name count) → p.names x ≡ q.values (resolved f (answered calls x))
  pub records : IsAtEnd (drop count ((program_so_far calls).items name))
      → (variable value : ℕ) → record_of s variable block ≡ Some value → p.variables variable ≡ q.values (resolved f value)

-- in the code so far
abbrev pub StandsBeside : List AnsweredCall → Body → SsaState → ℕ → Name → ℕ → ScriptState → FunctionState → Type 0
StandsBeside calls = StandsBesideIn (code_so_far calls) calls

-- Beside an interrupted run of the script that goes on, the function's with the same bits at unsealed blocks comes to a
-- state in which both stand alike, and entered as many blocks.
pub record HasBesideIn (code : Code Name Name) (calls : List AnsweredCall) (f : Body) (s : SsaState) (a : ScriptStanding) (right : Machine FunctionStanding Observation) : Type 0 where
  pub block : ℕ
  pub named : block_name calls block ≡ Some a.place.block
  pub steps : ℕ
  pub entries : a.entries ≡ (state_after right steps).entries
  pub beside : StandsBesideIn code calls f s block a.place.block a.place.index a.state (state_after right steps).state

abbrev pub HasBeside : List AnsweredCall → Body → SsaState → ScriptStanding → Machine FunctionStanding Observation → Type 0
HasBeside calls = HasBesideIn (code_so_far calls) calls

abbrev pub RunsBeside : List AnsweredCall → Body → SsaState → ScriptRun → FunctionRun → ℕ → Name → Type 0
RunsBeside calls f s left right block name =
    (unknowns : Unknowns) (n : ℕ) (rest : List Item) → (state_after (interrupted_script calls s unknowns block name left) n).state.control ≡ At rest
    → HasBeside calls f s (state_after (interrupted_script calls s unknowns block name left) n) (interrupted_function s unknowns block right)

-- Growing blocks are unsealed, or have the caller's parameters alone.
abbrev pub AreOpen : List AnsweredCall → Body → SsaState → (Name → Bool) → Type 0
AreOpen calls f s growing =
    (block : ℕ) (name : Name) → block_name calls block ≡ Some name → IsTrue (growing name)
    → (is_yes (sealed_of s block) ≡ false) ⊎ ((block_at f block).params ≡ map (answered calls) ((program_so_far calls).parameters name))

-- In every world, where both runs move the same things at outside calls, if there are any. Edges into growing blocks need not
-- match.
abbrev pub ReadsRightWhere : (Name → Bool) → List AnsweredCall → SignatureShape → Body → SsaState → Type 0
ReadsRightWhere growing calls signature f s =
    (width : PointerWidth) (world : World) (tracked : Name → Bool) (collector : Collector)
    → IsWorldOf signature (view_of f) width world → PremisesSoFar growing calls signature → EntryIsFree f s → MovesAlike calls tracked collector
    → (block : ℕ) (name : Name) → block_name calls block ≡ Some name → (program_so_far calls).entry ≡ Some name
    → RunsBeside calls f s (script_run_so_far calls f world tracked) (function_run_so_far calls f world collector) block name

-- those that may still grow are
abbrev pub ReadsRight : List AnsweredCall → SignatureShape → Body → SsaState → Type 0
ReadsRight calls signature f s = ReadsRightWhere (may_grow calls) calls signature f s
