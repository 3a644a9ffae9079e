-- Values of functions of the IR: of those that pass the check, and of those that carry a list of calls. Own.
use Rattle.std.specs.Prelude.{◌≡◌, ℕ, Bool, List, All}
use Rattle.std.specs.List.{AllByRecursion}
use Rattle.clif_ir.specs.Body.{Body}
use Rattle.clif_check.specs.WellTyped.{IsWellTyped, insts_in_order, types_at}
use Rattle.clif_meaning.specs.Acceptance.{Accepted, verdict_on}
use Rattle.clif_meaning.specs.Bits.{AreValues}
use Rattle.clif_tables.specs.Callees.{types_of}
use Rattle.clif_meaning.specs.FunctionMachine.{Collector, FunctionRun, function_machine}
use Rattle.clif_meaning.specs.FunctionView.{Placed}
use Rattle.clif_meaning.specs.Machine.{state_after}
use Rattle.clif_meaning.specs.Instruction.{named_operands}
use Rattle.clif_meaning.specs.Ledger.{ledger_after}
use Rattle.clif_meaning.specs.Premises.{EachItem, WellTyped}
use Rattle.clif_meaning.specs.Program.{Item, Instruct, Use, Assign, result_types}
use Rattle.clif_meaning.specs.Request.{AnsweredCall, script_of}
use Rattle.clif_meaning.specs.Typing.{value_types_at}
use Rattle.clif_meaning.specs.View.{placed_of, view_of}
use Rattle.clif_meaning.specs.World.{World}
use Rattle.clif_ssa.specs.Ssa.{SsaState}
use Rattle.clif_simulation.specs.Carries.{Carries, IsValue}
use Rattle.clif_simulation.specs.Structure.{NoneWaits}
use Rattle.clif_simulation.specs.Tables.{program_so_far}
use Rattle.clif_typed_runs.specs.ValuesFit.{AliasesTyped, EntryHas, FunctionFits}

-- an instruction's results have the types that the typing table gives at the type that it is made at
abbrev pub HasResults : Body → ℕ → Type 0
HasResults f inst =
    let placed : Placed = placed_of f inst in
    types_at f placed.results ≡ result_types placed.instruction.operation placed.instruction.controlling

-- A function passes the check, which asks of operands, returned values and edges; and results, aliases and the entry's first
-- parameters have their types, which the check doesn't ask.
pub record IsChecked (f : Body) : Type 0 where
  pub well_typed : All (IsWellTyped f) (insts_in_order f)
  pub results : All (HasResults f) (insts_in_order f)
  pub aliases : AliasesTyped (view_of f)
  pub entry : EntryHas (value_types_at (view_of f)) (types_of f.signature.params) (view_of f).entry

-- the run of a function, under a collector, with spill slots at these addresses
abbrev pub run_of : Body → Collector → (hidden : ℕ → Bool) → World → FunctionRun
run_of f collector hidden world = record { function = view_of f; collector = collector; hidden = hidden; world = world }

-- Where the arguments are the signature's, the values fit in each state of its run.
abbrev pub FitsInRuns : Body → Type 0
FitsInRuns f =
    (collector : Collector) (hidden : ℕ → Bool) (world : World) → AreValues (types_of f.signature.params) world.arguments
    → (n : ℕ) → FunctionFits (run_of f collector hidden world)
    (state_after (function_machine (run_of f collector hidden world)) n)

abbrev pub CheckedFunctionsFit : Type 0
CheckedFunctionsFit = (f : Body) → IsChecked f → FitsInRuns f

-- what an instruction names itself, its operands and its contexts, is a value in the ledger of the calls
abbrev pub NamesValues : List AnsweredCall → Item → Type 0
NamesValues calls (Instruct place instruction results) = AllByRecursion (IsValue calls) (named_operands instruction)
NamesValues calls (Use variable name) = Unit {0}
NamesValues calls (Assign variable name) = Unit {0}

-- Calls that may be made name values as operands and as contexts.
abbrev pub AcceptedScriptsNameValues : Type 0
AcceptedScriptsNameValues =
    (calls : List AnsweredCall) → verdict_on (script_of calls) ≡ Accepted → EachItem (NamesValues calls) (program_so_far calls)

-- A function that carries well-typed calls needs no check: once no parameter waits, its values fit in each state of its run. That
-- the results of its zeros have the types of the typing table isn't known, but zero is a value of every type.
abbrev pub CarriedFunctionsFit : Type 0
CarriedFunctionsFit =
    (calls : List AnsweredCall) (f : Body) (s : SsaState)
    → Carries calls f s → NoneWaits s
    → WellTyped (ledger_after (script_of calls)) (program_so_far calls) f.signature → FitsInRuns f
