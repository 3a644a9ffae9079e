-- An unfinished function, read on runs and bits: from each start both machines of the calls so far run side by side. A
-- name's value has the name's bits then, and at a block's end so far each record has its variable's bits. It is a law
-- of `Carries`, which speaks of paths, where no branch was made; with branches, `Interrupted` says it. Own.
use Rattle.std.specs.Prelude.{◌≡◌, ℕ, suc, not, ◌||◌, false, Bool, List, [], ◌∷◌, drop, flat_map, Option, Some, None, Contains, IsTrue, ◌⊎◌}
use Rattle.std.specs.List.{AllByRecursion}
use Rattle.clif_types.specs.declared.types.«Type».{«Type»}
use Rattle.clif_types.specs.Signature.{SignatureShape}
use Rattle.clif_types.specs.declared.target.PointerWidth.{PointerWidth}
use Rattle.clif_ir.specs.Body.{Body, resolved}
use Rattle.clif_records.specs.declared.tables.Pending.{Pending}
use Rattle.clif_ssa.specs.Ssa.{SsaState, record_of, sealed_of}
use Rattle.clif_records.specs.Tables.{is_yes, pending_of}
use Rattle.clif_meaning.specs.Name.{Name}
use Rattle.clif_meaning.specs.Request.{AnsweredCall, script_of}
use Rattle.clif_meaning.specs.Ledger.{Ledger, ledger_after, is_pristine, is_sealed, is_terminator, or_invalid, type_of, is_marked}
use Rattle.clif_meaning.specs.Instruction.{Edge, Instruction}
use Rattle.clif_meaning.specs.Event.{CallShape, payload_types}
use Rattle.clif_tables.specs.Callees.{types_of}
use Rattle.clif_meaning.specs.Typing.{call_shape, EdgeMatches}
use Rattle.clif_meaning.specs.Program.{Program, Item, Instruct, Use, Assign}
use Rattle.clif_meaning.specs.World.{World}
use Rattle.clif_meaning.specs.Machine.{Machine, At, Observation, state_after}
use Rattle.clif_meaning.specs.ScriptMachine.{ScriptRun, ScriptState, script_machine}
use Rattle.clif_meaning.specs.FunctionMachine.{Collector, ByMaps, OverSet, FunctionRun, FunctionState, function_machine}
use Rattle.clif_meaning.specs.View.{view_of, block_of}
use Rattle.clif_meaning.specs.Path.{Place, IsReachable}
use Rattle.clif_meaning.specs.WellPlaced.{Code, IsGivenBefore, IsWellPlaced, program_code}
use Rattle.clif_meaning.specs.Premises.{EachItem, EntryTakes, IsItemWellTyped, KeepsTrackedApart, parameter_types}
use Rattle.clif_meaning.specs.Headline.{script_run, function_run, IsWorldOf}
use Rattle.clif_simulation.specs.Tables.{answered, block_name, program_so_far}
use Rattle.clif_simulation.specs.Carries.{CallsNothing, carried}

-- Code so far: each block has one more place, its end so far, at which nothing stands yet.
abbrev pub with_ends : {Block Thing : Type 0} → Code Block Thing → Code Block Thing
with_ends code = record code { flow = record code.flow { size = λ block. suc (code.flow.size block) } }

abbrev pub code_so_far : List AnsweredCall → Code Name Name
code_so_far calls = with_ends (program_code (program_so_far calls))

-- the place of a block behind so many items
abbrev pub behind : Name → ℕ → Place Name
behind block count = record { block = block; index = count }

-- A block may still get parameters of the caller's: it isn't sealed, or nothing was made in it.
abbrev pub may_grow : List AnsweredCall → Name → Bool
may_grow calls block = not (is_sealed (ledger_after (script_of calls)) block) || is_pristine (ledger_after (script_of calls)) block

-- Edges match so far: `EachEdgeMatches`, where those into growing blocks are left out.
abbrev pub EdgeMatchesSoFar : (Name → Bool) → (Name → «Type») → (Name → List «Type») → List «Type» → List «Type» → Edge Name Name → Type 0
EdgeMatchesSoFar growing name_type parameter_types results payload edge =
    growing edge.target ≡ false → EdgeMatches name_type parameter_types results payload edge

abbrev pub EachEdgeMatchesSoFar : (Name → Bool) → (Name → «Type») → (Name → List «Type») → Option CallShape → List (Edge Name Name) → Type 0
EachEdgeMatchesSoFar growing name_type parameter_types None edges = AllByRecursion (EdgeMatchesSoFar growing name_type parameter_types [] []) edges
EachEdgeMatchesSoFar growing name_type parameter_types (Some call) [] = Unit {0}
EachEdgeMatchesSoFar growing name_type parameter_types (Some call) (normal ∷ items) =
    EdgeMatchesSoFar growing name_type parameter_types (types_of call.signature.returns) [] normal
    × AllByRecursion (EdgeMatchesSoFar growing name_type parameter_types [] payload_types) items

-- an item is well typed so far: without its edges it is well typed, and its edges match so far
abbrev pub IsItemTypedSoFar : (Name → Bool) → Ledger → Program → List «Type» → Item → Type 0
IsItemTypedSoFar growing ledger program returns (Instruct place instruction results) =
    IsItemWellTyped ledger program returns (Instruct place (record instruction { edges = [] }) results)
    × EachEdgeMatchesSoFar growing (λ name. or_invalid (type_of ledger name)) (parameter_types ledger program)
    (call_shape instruction.operation) instruction.edges
IsItemTypedSoFar growing ledger program returns (Use variable name) = Unit {0}
IsItemTypedSoFar growing ledger program returns (Assign variable name) = IsItemWellTyped ledger program returns (Assign variable name)

-- `WellTyped`, where edges into growing blocks are left out
pub record WellTypedSoFar (growing : Name → Bool) (ledger : Ledger) (program : Program) (signature : SignatureShape) : Type 0 where
  pub items : EachItem (IsItemTypedSoFar growing ledger program (types_of signature.returns)) program
  pub entry : EntryTakes ledger program (types_of signature.params) program.entry

-- the premises on the calls so far, on types and on the order of names, where these blocks are growing
pub record PremisesSoFar (growing : Name → Bool) (calls : List AnsweredCall) (signature : SignatureShape) : Type 0 where
  pub well_typed : WellTypedSoFar growing (ledger_after (script_of calls)) (program_so_far calls) signature
  pub given_before : IsWellPlaced (program_code (program_so_far calls))

-- A collector that leaves all values: it is by maps, or over no value.
abbrev pub LeavesValues : Collector → Type 0
LeavesValues ByMaps = Unit {0}
LeavesValues (OverSet members) = (value : ℕ) → members value ≡ false

-- no variable is marked
abbrev pub NoneMarked : List AnsweredCall → Type 0
NoneMarked calls = (variable : ℕ) → is_marked (ledger_after (script_of calls)) variable ≡ false

-- nothing is marked or tracked, and nothing moves
pub record MovesNothing (calls : List AnsweredCall) (tracked : Name → Bool) (collector : Collector) : Type 0 where
  pub unmarked : NoneMarked calls
  pub untracked : (x : Name) → tracked x ≡ false
  pub leaves : LeavesValues collector

-- the name is a result of an instruction
pub record IsResult (program : Program) (name : Name) : Type 0 where
  pub block : Name
  pub place : ℕ
  pub instruction : Instruction Name Name
  pub results : List Name
  pub stands : Contains (program.items block) (Instruct place instruction results)
  pub among : Contains results name

-- it is a parameter of the caller's of this block
abbrev pub IsParameterOf : Program → Name → Name → Type 0
IsParameterOf program block name = Contains (program.parameters block) name

-- An instruction gives the name, or a block's entry. What a use answers is no such name: it is a copy of what a variable holds.
abbrev pub IsGivenFresh : Program → Name → Type 0
IsGivenFresh program name = IsResult program name ⊎ ((block : Name) × IsParameterOf program block name)

-- the value answers a tracked name that an instruction gives, or a block's entry
pub record AnswersTracked (calls : List AnsweredCall) (tracked : Name → Bool) (value : ℕ) : Type 0 where
  pub name : Name
  pub is_tracked : IsTrue (tracked name)
  pub is_given : IsGivenFresh (program_so_far calls) name
  pub answers : answered calls name ≡ value

-- a collector over these values exactly
abbrev pub IsOver : (ℕ → Type 0) → Collector → Type 0
IsOver P ByMaps = ⊥
IsOver P (OverSet members) = (value : ℕ) → (IsTrue (members value) → P value) × (P value → IsTrue (members value))

-- The tracked names are moved, and the values that answered them: no variable is marked, so no tracked name is assigned to one or
-- answered by a use, and no copy of a tracked name's bits has to move.
pub record MovesTracked (calls : List AnsweredCall) (tracked : Name → Bool) (collector : Collector) : Type 0 where
  pub unmarked : NoneMarked calls
  pub apart : EachItem (KeepsTrackedApart (ledger_after (script_of calls)) tracked) (program_so_far calls)
  pub over : IsOver (AnswersTracked calls tracked) collector

-- Both runs move the same things at outside calls: the calls make none, whatever names are tracked and whatever the collector is;
-- or nothing moves; or tracked names move, which are apart from variables, and exactly the values that answered them.
abbrev pub MovesAlike : List AnsweredCall → (Name → Bool) → Collector → Type 0
MovesAlike calls tracked collector =
    EachItem CallsNothing (program_so_far calls) ⊎ (MovesNothing calls tracked collector ⊎ MovesTracked calls tracked collector)

-- what a run of the calls so far goes by, where these names are tracked
abbrev pub script_run_so_far : List AnsweredCall → Body → World → (Name → Bool) → ScriptRun
script_run_so_far calls f world tracked = record (script_run (script_of calls) (view_of f) world) { is_tracked = tracked }

-- what a run of the function so far goes by, under this collector
abbrev pub function_run_so_far : List AnsweredCall → Body → World → Collector → FunctionRun
function_run_so_far calls f world collector = function_run (script_of calls) (view_of f) world collector

-- the machine that starts in this state
abbrev pub starting_at : {State Seen : Type 0} → Machine State Seen → State → Machine State Seen
starting_at machine state = record machine { start = state }

-- what is left of a block at its end so far: nothing, or the one instruction that ends it
abbrev pub IsAtEnd : List Item → Type 0
IsAtEnd [] = Unit {0}
IsAtEnd (Instruct place instruction results ∷ rest) = IsTrue (is_terminator instruction.operation) × (rest ≡ [])
IsAtEnd (Use variable name ∷ rest) = ⊥
IsAtEnd (Assign variable name ∷ rest) = ⊥

-- Both stand behind so many items of the block: a name that is given before that place has its value's bits, and at the
-- block's end so far each variable has its record's.
pub record StandAlike (calls : List AnsweredCall) (f : Body) (s : SsaState) (block : ℕ) (name : Name) (count : ℕ) (p : ScriptState) (q : FunctionState) : Type 0 where
  pub script_at : p.control ≡ At (drop count ((program_so_far calls).items name))
  pub function_at : q.control ≡ At (flat_map (carried calls) (drop count ((program_so_far calls).items name)))
  pub same_memory : p.memory ≡ q.memory
  pub same_events : p.events ≡ q.events
  pub names : (x : Name) → IsGivenBefore (code_so_far calls) x (behind name count) → p.names x ≡ q.values (resolved f (answered calls x))
  pub records : IsAtEnd (drop count ((program_so_far calls).items name))
      → (variable value : ℕ) → record_of s variable block ≡ Some value → p.variables variable ≡ q.values (resolved f value)

-- Side by side, from a block's front, as far as the script's run goes on: after each item the function's machine comes
-- to a state in which both stand alike.
abbrev pub SideBySide : List AnsweredCall → Body → SsaState → ℕ → Name → Machine ScriptState Observation → Machine FunctionState Observation → Type 0
SideBySide calls f s block name left right =
    (count : ℕ) (rest : List Item) → (state_after left count).control ≡ At rest
    → (steps : ℕ) × StandAlike calls f s block name count (state_after left count) (state_after right steps)

-- States at the front of an unsealed block, however control came there: variables have any bits, a parameter that waits
-- has its variable's, and a name that is given before has its value's.
pub record StartAlike (calls : List AnsweredCall) (f : Body) (s : SsaState) (block : ℕ) (name : Name) (p : ScriptState) (q : FunctionState) : Type 0 where
  pub script_at : p.control ≡ At ((program_so_far calls).items name)
  pub function_at : q.control ≡ At (block_of f block).items
  pub same_memory : p.memory ≡ q.memory
  pub same_events : p.events ≡ q.events
  pub waiting : (parameter : Pending) → Contains (pending_of (sealed_of s block)) parameter → p.variables parameter.variable ≡ q.values parameter.param
  pub names : (x : Name) → IsGivenBefore (code_so_far calls) x (behind name 0) → p.names x ≡ q.values (resolved f (answered calls x))

-- The runs: from the entry as the machines start, and from each unsealed block that a path from the entry reaches, the
-- entry among them, with any bits.
pub record RunSideBySide (calls : List AnsweredCall) (f : Body) (s : SsaState) (left : ScriptRun) (right : FunctionRun) : Type 0 where
  pub from_entry : (block : ℕ) (name : Name) → block_name calls block ≡ Some name → (program_so_far calls).entry ≡ Some name
      → SideBySide calls f s block name (script_machine left) (function_machine right)
  pub from_unsealed : (block : ℕ) (name : Name) → block_name calls block ≡ Some name → IsReachable (code_so_far calls).flow (behind name 0)
      → is_yes (sealed_of s block) ≡ false → (p : ScriptState) (q : FunctionState) → StartAlike calls f s block name p q
      → SideBySide calls f s block name (starting_at (script_machine left) p) (starting_at (function_machine right) q)

-- In every world, where both runs move the same things at outside calls, if there are any. At an unsealed entry names, values,
-- memory and events are any ones too.
abbrev pub ReadsRightFromAnywhere : List AnsweredCall → SignatureShape → Body → SsaState → Type 0
ReadsRightFromAnywhere calls signature f s =
    (width : PointerWidth) (world : World) (tracked : Name → Bool) (collector : Collector)
    → IsWorldOf signature (view_of f) width world → PremisesSoFar (may_grow calls) calls signature → MovesAlike calls tracked collector
    → RunSideBySide calls f s (script_run_so_far calls f world tracked) (function_run_so_far calls f world collector)
