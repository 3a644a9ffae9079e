-- Interrupted runs that may also go, at a block's end so far, along edges that aren't made yet: into unsealed blocks, where the
-- names so far are given before their places whichever of these edges come. Along such an edge memory and events become any
-- ones, alike on both sides, and so do the bits of the target's parameters of the caller's. So a block that only a coming branch
-- will reach is read, too. A coming edge may be that of an outside call, and then the collector moves what it moves. Own.
use Rattle.std.specs.Prelude.{◌≡◌, ℕ, suc, false, Bool, List, [], map, Contains, Option, Some, None, if◌then◌else◌}
use Rattle.std.specs.List.{list_any}
use Rattle.clif_types.specs.Signature.{SignatureShape}
use Rattle.clif_types.specs.declared.target.PointerWidth.{PointerWidth}
use Rattle.clif_instructions.specs.Members.{stands_in}
use Rattle.clif_ir.specs.Body.{Body}
use Rattle.clif_ssa.specs.Sound.{EntryIsFree}
use Rattle.clif_ssa.specs.Ssa.{SsaState, sealed_of}
use Rattle.clif_records.specs.Tables.{is_yes}
use Rattle.clif_meaning.specs.Bits.{Bits}
use Rattle.clif_meaning.specs.Memory.{Memory}
use Rattle.clif_meaning.specs.Name.{Name, same_name}
use Rattle.clif_meaning.specs.Request.{AnsweredCall, script_of}
use Rattle.clif_meaning.specs.Ledger.{ledger_after}
use Rattle.clif_meaning.specs.Program.{Item}
use Rattle.clif_meaning.specs.Event.{CallShape, Event}
use Rattle.clif_meaning.specs.World.{World}
use Rattle.clif_meaning.specs.Store.{assigned}
use Rattle.clif_meaning.specs.Machine.{Machine, Control, At, Observation, state_after}
use Rattle.clif_meaning.specs.ScriptMachine.{ScriptRun, ScriptState, script_machine}
use Rattle.clif_meaning.specs.FunctionMachine.{Collector, FunctionRun, FunctionState, function_machine, same_value, values_after}
use Rattle.clif_meaning.specs.FunctionView.{Placed}
use Rattle.clif_meaning.specs.View.{view_of}
use Rattle.clif_meaning.specs.WellPlaced.{Code, IsWellPlaced, function_code, item_at, item_targets, placed_at, placed_targets, program_code}
use Rattle.clif_meaning.specs.Headline.{IsWorldOf}
use Rattle.clif_simulation.specs.Tables.{answered, block_name, program_so_far}
use Rattle.clif_simulation.specs.Reading.{with_ends, MovesAlike, WellTypedSoFar, script_run_so_far, function_run_so_far}
use Rattle.clif_simulation.specs.Interrupted.{Unknowns, ScriptStanding, script_edge, script_goes, script_enters, FunctionStanding, function_edge, function_goes, function_enters, HasBesideIn}

-- the blocks that edges may still come to from a block, by its name
abbrev pub Coming : Type 0
Coming = Name → List Name

-- the blocks that the item leads to, or at a block's end so far, where no item stands, those that one may still come to
abbrev pub targets_with : List Name → Option Item → List Name
targets_with coming None = coming
targets_with coming (Some item) = item_targets (Some item)

-- the code so far, with the edges that may still come
abbrev pub code_coming : Coming → List AnsweredCall → Code Name Name
code_coming coming calls =
    let code = with_ends (program_code (program_so_far calls)) in
    record code { flow = record code.flow { targets = λ p. targets_with (coming p.block) (item_at (program_so_far calls) p) } }

-- These edges may still come: they lead into unsealed blocks, and whichever of them come, names are given before.
pub record MayCome (coming : Coming) (calls : List AnsweredCall) (s : SsaState) : Type 0 where
  pub blocks : (from target : Name) → Contains (coming from) target → block_name calls (answered calls target) ≡ Some target
  pub unsealed : (from target : Name) → Contains (coming from) target → is_yes (sealed_of s (answered calls target)) ≡ false
  pub given_before : IsWellPlaced (code_coming coming calls)

-- Control comes along such an edge, whatever makes it: to this block, with any memory, any events, and any bits of the parameters
-- that the caller gave the block. Where an outside call of some shape makes it, the world says what moves behind these events.
pub record Arrival : Type 0 where
  pub block : Name
  pub memory : Memory
  pub events : List Event
  pub parameters : List Bits
  pub call : Option CallShape

-- where a run goes from a block's end so far after it entered so many blocks, if anywhere
abbrev pub Arrivals : Type 0
Arrivals = ℕ → Option Arrival

-- no outside call makes any of these edges
abbrev pub AreBranches : Arrivals → Type 0
AreBranches arrivals = (entries : ℕ) (arrival : Arrival) → arrivals entries ≡ Some arrival → arrival.call ≡ None

-- only at a block's end so far, where nothing stands
abbrev pub arrival_at : {Thing : Type 0} → Option Arrival → Control Thing → Option Arrival
arrival_at None control = None
arrival_at (Some arrival) (At []) = Some arrival
arrival_at (Some arrival) _ = None

-- The script's side --------------------------------------------------------------------------------------------------

-- what an outside call of this shape moves behind these events, as `call_outside` does; where none is made nothing moves
abbrev pub script_moved : ScriptRun → List Event → Option CallShape → ScriptState → ScriptState
script_moved run events None state = state
script_moved run events (Some call) state = record state {
  variables = λ v. if run.is_marked v then run.world.moved events call (run.variable_type v) (state.variables v) else state.variables v;
  names = λ x. if run.is_tracked x then run.world.moved events call (run.name_type x) (state.names x) else state.names x;
}

abbrev pub script_arrived : List AnsweredCall → ScriptRun → Arrival → ScriptState → ScriptState
script_arrived calls run arrival before =
    let state : ScriptState = script_moved run arrival.events arrival.call before in
    record state {
      names = assigned same_name ((program_so_far calls).parameters arrival.block) arrival.parameters state.names;
      memory = arrival.memory;
      events = arrival.events;
      control = At ((program_so_far calls).items arrival.block);
    }

-- along an edge that may come from the block, or else as the run goes on
abbrev pub script_comes : Coming → List AnsweredCall → ScriptRun → SsaState → Unknowns → ScriptStanding → Option Arrival → ScriptStanding → ScriptStanding
script_comes coming calls run s unknowns before None after = after
script_comes coming calls run s unknowns before (Some arrival) after =
    if list_any (same_name arrival.block) (coming before.place.block)
    then script_enters s unknowns (answered calls arrival.block) arrival.block before.entries (script_arrived calls run arrival before.state)
    else after

-- the run from the entry, which has this number and name
abbrev pub coming_script : Coming → Arrivals → List AnsweredCall → SsaState → Unknowns → ℕ → Name → ScriptRun → Machine ScriptStanding Observation
coming_script coming arrivals calls s unknowns block name run = record {
  start = script_enters s unknowns block name 0 (script_machine run).start;
  next = λ standing. script_comes coming calls run s unknowns standing (arrival_at (arrivals standing.entries) standing.state.control)
      (script_goes calls s unknowns standing (script_edge run standing.state standing.state.control) ((script_machine run).next standing.state));
  shown = λ standing. (script_machine run).shown standing.state;
}

-- The function's side ------------------------------------------------------------------------------------------------

-- what an outside call moves, as `call_outside` does
abbrev pub function_moved : FunctionRun → List Event → Option CallShape → FunctionState → FunctionState
function_moved run events None state = state
function_moved run events (Some call) state = record state { values = values_after run (run.world.moved events call) run.collector state.values }

-- a parameter of the caller's has the bits of its name
abbrev pub function_arrived : List AnsweredCall → FunctionRun → Arrival → FunctionState → FunctionState
function_arrived calls run arrival before =
    let state : FunctionState = function_moved run arrival.events arrival.call before in
    record state {
      values = assigned same_value (map (answered calls) ((program_so_far calls).parameters arrival.block)) arrival.parameters state.values;
      memory = arrival.memory;
      events = arrival.events;
      control = At (run.function.blocks (answered calls arrival.block)).items;
    }

abbrev pub function_comes : List AnsweredCall → FunctionRun → SsaState → Unknowns → FunctionStanding → Option Arrival → FunctionStanding → FunctionStanding
function_comes calls run s unknowns before None after = after
function_comes calls run s unknowns before (Some arrival) after =
    function_enters s unknowns (answered calls arrival.block) before.entries (function_arrived calls run arrival before.state)

abbrev pub coming_function : Arrivals → List AnsweredCall → SsaState → Unknowns → ℕ → FunctionRun → Machine FunctionStanding Observation
coming_function arrivals calls s unknowns block run = record {
  start = function_enters s unknowns block 0 (function_machine run).start;
  next = λ standing. function_comes calls run s unknowns standing (arrival_at (arrivals standing.entries) standing.state.control)
      (function_goes s unknowns standing (function_edge run standing.state standing.state.control) ((function_machine run).next standing.state));
  shown = λ standing. (function_machine run).shown standing.state;
}

-- Beside one another -------------------------------------------------------------------------------------------------

-- beside a run that goes along these edges
abbrev pub RunsBesideArriving : Coming → Arrivals → List AnsweredCall → Body → SsaState → ScriptRun → FunctionRun → ℕ → Name → Type 0
RunsBesideArriving coming arrivals calls f s left right block name =
    (unknowns : Unknowns) (n : ℕ) (rest : List Item)
    → (state_after (coming_script coming arrivals calls s unknowns block name left) n).state.control ≡ At rest
    → HasBesideIn (code_coming coming calls) calls f s (state_after (coming_script coming arrivals calls s unknowns block name left) n)
    (coming_function arrivals calls s unknowns block right)

-- whatever branches make the edges
abbrev pub RunsBesideComing : Coming → List AnsweredCall → Body → SsaState → ScriptRun → FunctionRun → ℕ → Name → Type 0
RunsBesideComing coming calls f s left right block name =
    (arrivals : Arrivals) → AreBranches arrivals → RunsBesideArriving coming arrivals calls f s left right block name

-- `ReadsRightWhere`, along each set of edges that may still come
abbrev pub ReadsRightComing : (Name → Bool) → List AnsweredCall → SignatureShape → Body → SsaState → Type 0
ReadsRightComing growing calls signature f s =
    (width : PointerWidth) (world : World) (tracked : Name → Bool) (collector : Collector) (coming : Coming)
    → IsWorldOf signature (view_of f) width world → WellTypedSoFar growing (ledger_after (script_of calls)) (program_so_far calls) signature
    → MayCome coming calls s → EntryIsFree f s → MovesAlike calls tracked collector
    → (block : ℕ) (name : Name) → block_name calls block ≡ Some name → (program_so_far calls).entry ≡ Some name
    → RunsBesideComing coming calls f s (script_run_so_far calls f world tracked) (function_run_so_far calls f world collector) block name

-- Placement ----------------------------------------------------------------------------------------------------------

-- the blocks, by their numbers, that edges may still come to from the block with this name
abbrev pub numbers_coming : Coming → List AnsweredCall → Option Name → List ℕ
numbers_coming coming calls None = []
numbers_coming coming calls (Some from) = map (answered calls) (coming from)

-- the blocks that an instruction leads to, or at a block's end so far, where none stands, these
abbrev pub placed_targets_with : List ℕ → Option Placed → List ℕ
placed_targets_with coming None = coming
placed_targets_with coming (Some placed) = placed_targets (Some placed)

-- The code of an unfinished function with the edges that may still come: each block of the layout has one more place, its end so
-- far, at which nothing stands yet, and from which these lead on.
abbrev pub function_coming : Coming → List AnsweredCall → Body → Code ℕ ℕ
function_coming coming calls f =
    let code = function_code (view_of f) in
    record code {
      flow = record code.flow {
        size = λ block. if stands_in block f.layout then suc (code.flow.size block) else 0;
        targets = λ p. placed_targets_with (numbers_coming coming calls (block_name calls p.block)) (placed_at (view_of f) p);
      };
    }
