-- What holds of a function that carries a list of calls, beside what it means: its values are defined before they are named,
-- and once no parameter waits the arguments of its edges match, and a block to which at most one branch leads has no parameter
-- of a variable. Source: own.
use Rattle.std.specs.Prelude.{◌≡◌, ℕ, ◌+◌, ◌≤◌, true, List, [], length, map, flat_map, drop, Some, Contains}
use Rattle.std.specs.List.{AllByRecursion}
use Rattle.clif_ir.specs.Body.{Body, block_at}
use Rattle.clif_ir.specs.Consistent.{IsConsistent}
use Rattle.clif_ssa.specs.Ssa.{SsaState, record_of, sealed_of, predecessors_of}
use Rattle.clif_ssa.specs.Own.{Own}
use Rattle.clif_ssa.specs.Sound.{EntryIsFree}
use Rattle.clif_ssa.specs.Structured.{VariableTypes, Structured}
use Rattle.clif_records.specs.Tables.{is_yes, pending_of}
use Rattle.clif_meaning.specs.Name.{Name}
use Rattle.clif_meaning.specs.Request.{AnsweredCall, script_of}
use Rattle.clif_meaning.specs.Program.{Item, Instruct, Use, Assign, program_of}
use Rattle.clif_meaning.specs.Path.{Place}
use Rattle.clif_meaning.specs.View.{view_of}
use Rattle.clif_meaning.specs.Typing.{EdgesMatch}
use Rattle.clif_meaning.specs.Premises.{CallersEdgesMatch}
use Rattle.clif_meaning.specs.WellPlaced.{program_code, IsWellPlaced, WellPlaced, Records, RecordsWellPlaced}
use Rattle.clif_simulation.specs.Tables.{answered, callers_parameters, program_so_far, block_name, item_at}
use Rattle.clif_simulation.specs.Carries.{AreDeclared, Carries, EdgeEarlier, HasItems, IsValue, NothingLeads, OwnNamed, OwnParameters, SparesEntry, ValuesTyped, carried}

-- this block's parameters are those that the caller made, in order: none is a variable's
abbrev pub HasCallersAlone : List AnsweredCall → Body → ℕ → Type 0
HasCallersAlone calls f block = (block_at f block).params ≡ map (answered calls) (callers_parameters calls (block_name calls block))

-- each block's are
abbrev pub HasCallersParameters : List AnsweredCall → Body → Type 0
HasCallersParameters calls f = (block : ℕ) → HasCallersAlone calls f block

-- those of each sealed block are to which at most one branch leads: a variable has the same value there as at the end of the
-- one block before it
abbrev pub KeepsNoParameter : List AnsweredCall → Body → SsaState → Type 0
KeepsNoParameter calls f s =
    (block : ℕ) → is_yes (sealed_of s block) ≡ true → length (predecessors_of s block) ≤ 1 → HasCallersAlone calls f block

-- where no parameter waits, those of each block are to which at most one branch leads
abbrev pub LeavesNoParameter : List AnsweredCall → Body → SsaState → Type 0
LeavesNoParameter calls f s = (block : ℕ) → length (predecessors_of s block) ≤ 1 → HasCallersAlone calls f block

-- no parameter waits
abbrev pub NoneWaits : SsaState → Type 0
NoneWaits s = (block : ℕ) → pending_of (sealed_of s block) ≡ []

-- In every program, branches to the entry and blocks that control never reaches included.
pub record LeavesFewParameters (calls : List AnsweredCall) (f : Body) (s : SsaState) : Type 0 where
  pub keeps : KeepsNoParameter calls f s
  pub leaves : NoneWaits s → LeavesNoParameter calls f s
  pub without_branches : NoneWaits s → NothingLeads s → HasCallersParameters calls f

abbrev pub ConstructionLeavesFewParameters : Type 0
ConstructionLeavesFewParameters =
    (calls : List AnsweredCall) (types : VariableTypes) (own : Own) (f : Body) (s : SsaState)
    → Structured types own f s [] → OwnParameters calls own
    → LeavesFewParameters calls f s

-- So does a function that carries a list of calls, once no parameter waits.
abbrev pub CarryingLeavesNoParameters : Type 0
CarryingLeavesNoParameters =
    (calls : List AnsweredCall) (f : Body) (s : SsaState)
    → Carries calls f s → NoneWaits s
    → LeavesNoParameter calls f s

-- each edge of an item leads to the block that its target names, and passes what was answered by values
abbrev pub EdgesEarlier : List AnsweredCall → Item → Type 0
EdgesEarlier calls (Instruct place instruction results) = AllByRecursion (EdgeEarlier calls) instruction.edges
EdgesEarlier calls (Use variable name) = Unit {0}
EdgesEarlier calls (Assign variable name) = Unit {0}

-- The same of the edges of every program: edges that control never takes, and edges to the entry, are no exception.
abbrev pub ConstructionMatchesEdges : Type 0
ConstructionMatchesEdges =
    (calls : List AnsweredCall) (types : VariableTypes) (own : Own) (f : Body) (s : SsaState)
    → Structured types own f s [] → OwnParameters calls own
    → ((name : Name) → AllByRecursion (IsValue calls) ((program_so_far calls).parameters name)) → ValuesTyped calls f
    → ((name : Name) → AllByRecursion (EdgesEarlier calls) ((program_so_far calls).items name))
    → HasItems calls f own → OwnNamed calls own.insts → AreDeclared f s own.insts → NoneWaits s
    → CallersEdgesMatch (script_of calls)
    → EdgesMatch (view_of f)

-- Where the caller's arguments match the caller's parameters, the edges match of a function that carries a list of calls,
-- once no parameter waits.
abbrev pub CarryingMatchesEdges : Type 0
CarryingMatchesEdges =
    (calls : List AnsweredCall) (f : Body) (s : SsaState)
    → Carries calls f s → NoneWaits s
    → CallersEdgesMatch (script_of calls)
    → EdgesMatch (view_of f)

-- Where no branch of the calls names the entry, it is free.
abbrev pub SparedEntryIsFree : Type 0
SparedEntryIsFree = (calls : List AnsweredCall) (f : Body) (s : SsaState) → Carries calls f s → SparesEntry calls → EntryIsFree f s

-- Where the names of the program are given before they are named, the function's values are defined before they are, finished
-- or not: on each path from the entry, with branches, joins and loops, and what the construction passes to parameters too.
abbrev pub CarryingIsWellPlaced : Type 0
CarryingIsWellPlaced =
    (calls : List AnsweredCall) (f : Body) (s : SsaState)
    → IsConsistent f → Carries calls f s → EntryIsFree f s
    → IsWellPlaced (program_code (program_of (script_of calls)))
    → WellPlaced (view_of f)

-- The value answered a use in this block, and this is the place of the first instruction behind the use: from there on
-- the block has as many instructions as the program from the use on.
pub record IsAnswerAt (calls : List AnsweredCall) (f : Body) (p : Place ℕ) (value : ℕ) : Type 0 where
  pub block : Name
  pub index : ℕ
  pub variable : ℕ
  pub name : Name
  pub block_is : block_name calls p.block ≡ Some block
  pub item : item_at calls block index ≡ Some (Use variable name)
  pub answers : answered calls name ≡ value
  pub place : length (block_at f p.block).insts ≡ p.index + length (flat_map (carried calls) (drop index ((program_so_far calls).items block)))

-- what a builder recorded at the ends of blocks, and the answers of uses, are such
pub record AreRecords (calls : List AnsweredCall) (f : Body) (s : SsaState) (records : Records) : Type 0 where
  pub recorded : (block value : ℕ) → Contains (records.recorded block) value → (variable : ℕ) × (record_of s variable block ≡ Some value)
  pub answers : (p : Place ℕ) (value : ℕ) → Contains (records.answered p) value → IsAnswerAt calls f p value

-- The same of what the builder recorded, at the ends of its blocks, and of the answers of uses.
abbrev pub RecordsAreWellPlaced : Type 0
RecordsAreWellPlaced =
    (calls : List AnsweredCall) (f : Body) (s : SsaState) (records : Records)
    → IsConsistent f → Carries calls f s → EntryIsFree f s
    → IsWellPlaced (program_code (program_of (script_of calls)))
    → AreRecords calls f s records
    → RecordsWellPlaced (view_of f) records
