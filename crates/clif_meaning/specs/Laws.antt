-- Laws of the definitions, as the contracts of this crate's functions state them.
use Rattle.std.specs.Prelude.{◌≡◌, ℕ, List, [], ◌∷◌, ◌++◌, length, slice_get, Some, IsTrue}
use Rattle.clif_types.specs.declared.types.«Type».{«Type»}
use Rattle.clif_opcodes.specs.Kinds.{is_met}
use Rattle.std.specs.List.{AllByRecursion}
use Rattle.clif_meaning.specs.Access.{Holds, claims_of, library_call}
use Rattle.clif_meaning.specs.Bits.{Bits, AreValues}
use Rattle.clif_meaning.specs.Instruction.{Operation, operation_typing}
use Rattle.clif_meaning.specs.Library.{pointer_of}
use Rattle.clif_meaning.specs.Memory.{Memory}
use Rattle.clif_meaning.specs.Outcome.{Outcome, Gives, Goes, Returns, Traps, Calls, NoStep, outcome_of}
use Rattle.clif_meaning.specs.Premises.{IfLibraryCall}
use Rattle.clif_meaning.specs.Typing.{TakesOperands}
use Rattle.clif_meaning.specs.World.{World}
use Rattle.clif_meaning.specs.Machine.{observed, EndStays}
use Rattle.clif_meaning.specs.Name.{Name, answer_of}
use Rattle.clif_meaning.specs.Request.{Request, Script, AnsweredCall, number_of}
use Rattle.clif_meaning.specs.Ledger.{ledger_after, ledger_with}
use Rattle.clif_meaning.specs.Program.{program_of, result_types, with_call}
use Rattle.clif_meaning.specs.ScriptMachine.{ScriptRun, script_machine}
use Rattle.clif_meaning.specs.FunctionMachine.{FunctionRun, function_machine}

-- A machine that ended stays as it is.
pub record EndedMachinesStay : Type 0 where
  pub script : (run : ScriptRun) → EndStays (observed (script_machine run))
  pub function : (run : FunctionRun) → EndStays (observed (function_machine run))

-- A call at the end of a script changes its program and its ledger by that call alone.
pub record OneMoreCall : Type 0 where
  pub program : (script : Script) (request : Request) → program_of (script ++ request ∷ []) ≡ with_call (program_of script) request
  pub ledger : (script : Script) (request : Request) → ledger_after (script ++ request ∷ []) ≡ ledger_with (ledger_after script) request

-- The place of the next call is how many calls there were.
pub record PlacesCount : Type 0 where
  pub program : (script : Script) → (program_of script).place ≡ length script
  pub ledger : (script : Script) → length (ledger_after script).answers ≡ length script

-- A call at the end leaves the numbers of the names before it, and its own answers have its numbers.
pub record NumbersStay : Type 0 where
  pub kept : (calls : List AnsweredCall) (call : AnsweredCall) (name : Name) (number : ℕ) → number_of calls name ≡ Some number → number_of (calls ++ call ∷ []) name ≡ Some number
  pub new : (calls : List AnsweredCall) (call : AnsweredCall) (index : ℕ) → number_of (calls ++ call ∷ []) (answer_of (length calls) index) ≡ slice_get call.numbers index

-- An outcome is that of an instruction whose results have these types, in a function that returns those: it is there,
-- and what it gives or returns are values of these types.
abbrev pub FitsTypes : List «Type» → List «Type» → Outcome → Type 0
FitsTypes results returns (Gives bits memory) = AreValues results bits
FitsTypes results returns (Goes edge given memory) = Unit {0}
FitsTypes results returns (Returns bits) = AreValues returns bits
FitsTypes results returns (Traps reason) = Unit {0}
FitsTypes results returns (Calls callee call arguments) = Unit {0}
FitsTypes results returns NoStep = ⊥

-- Outcomes fit the typing table: an instruction that is made at a type at which it is there, on values of the types that
-- the table asks for, and whose claims are true, has a meaning, and gives values of the types of its results. Only accesses
-- to memory and calls of functions of the C library claim anything; those calls are by their functions' signatures.
abbrev pub OutcomesFit : Type 0
OutcomesFit =
    (world : World) (operation : Operation) (ty : «Type») (returns types : List «Type») (operands : List Bits) (memory : Memory)
    → IfLibraryCall (pointer_of world.pointer_width) (library_call operation) → IsTrue (is_met (operation_typing operation).demand ty) → TakesOperands returns operation ty types
    → AreValues types operands → AllByRecursion (Holds world) (claims_of world operation ty types operands)
    → FitsTypes (result_types operation ty) returns (outcome_of world operation ty types operands memory)
