-- The plain calls of an emission that adds a constant or compares with one: they may be made where the emission may, and keep its
-- join. From the documentation of Cranelift's `InstBuilder`.
use Rattle.std.specs.Prelude.{ℕ, suc, ℤ, List, [], ◌∷◌, ◌++◌, IsTrue, fold, length, map}
use Rattle.clif_opcodes.specs.declared.opcodes.BinaryOpcode.TheVariants.{Iadd}
use Rattle.clif_opcodes.specs.declared.opcodes.ConvertOpcode.TheVariants.{Sextend}
use Rattle.clif_types.specs.declared.condcodes.IntCC.{IntCC}
use Rattle.clif_types.specs.declared.types.LaneType.TheVariants as lane
use Rattle.clif_types.specs.declared.types.«Type».{«Type»}
use Rattle.clif_types.specs.declared.types.«Type».TheVariants as type
use Rattle.clif_meaning.specs.Acceptance.{allows}
use Rattle.clif_meaning.specs.Instruction.{AddConstant, Arithmetic, Binary, Compare, CompareConstant, Convert, Iconst, Instruction}
use Rattle.clif_meaning.specs.Ledger.{Ledger, ledger_after, ledger_with}
use Rattle.clif_meaning.specs.Name.{Name, answer_of}
use Rattle.clif_meaning.specs.Request.{Script}
use Rattle.clif_expansion.specs.Constants.{computing, i64}
use Rattle.clif_expansion.specs.Emission.{building, reading_emitted}
use Rattle.clif_expansion.specs.JoinedCalls.{AreJoinedCalls}
use Rattle.clif_expansion.specs.Joining.{IsJoined}
use Rattle.clif_expansion.specs.PerformedCalls.{ArePerformed}
use Rattle.clif_expansion.specs.Reading.{IsReadAs, Reading}
use Rattle.clif_expansion.specs.ScriptCall.{Emit, ScriptCall, call_allowed, ledger_of, ledger_with_call}

-- the instructions that make a constant, from this place on: one of 64 bits whose sign is repeated, where there are 128
abbrev pub constant_instructions : «Type» → ℤ → (place : ℕ) → List (Instruction Name Name)
constant_instructions (type.Lane lane.I128) number place =
    computing (Iconst number) i64 [] ∷ computing (Convert Sextend) (type.Lane lane.I128) (answer_of place 1 ∷ []) ∷ []
constant_instructions ty number place = computing (Iconst number) ty [] ∷ []

-- the name of the constant
abbrev pub constant_name : «Type» → (place : ℕ) → Name
constant_name (type.Lane lane.I128) place = answer_of (suc place) 1
constant_name ty place = answer_of place 1

-- arithmetic on a name and the constant
abbrev pub constant_last : Arithmetic → «Type» → (place : ℕ) (x : Name) → Instruction Name Name
constant_last arithmetic ty place x = computing arithmetic ty (x ∷ constant_name ty place ∷ [])

-- the calls that build them
abbrev pub constant_calls : Arithmetic → «Type» → ℤ → (place : ℕ) (x : Name) → Script
constant_calls arithmetic ty number place x =
    map building (constant_instructions ty number place) ++ building (constant_last arithmetic ty place x) ∷ []

-- each call may be made, behind the earlier ones
abbrev pub AreAllowed : Ledger → Script → Type 0
AreAllowed ledger [] = Unit {0}
AreAllowed ledger (request ∷ script) = IsTrue (allows ledger request) × AreAllowed (ledger_with ledger request) script

-- The plain arithmetic on a name and the constant may be called where the script may emit the whole one, and keeps the join.
pub record StandsForEmission (arithmetic whole : Arithmetic) (number : ℤ) : Type 0 where
  pub allowed : (reading : Reading) (plain ledger : Ledger) (ty : «Type») (x name : Name) → IsJoined reading plain ledger → IsReadAs reading x name
      → IsTrue (call_allowed ledger (Emit [] (computing whole ty (name ∷ []))))
      → AreAllowed plain (constant_calls arithmetic ty number (length plain.answers) x)
  pub joined : (reading : Reading) (plain ledger : Ledger) (ty : «Type») (x name : Name) → IsJoined reading plain ledger
      → IsJoined (reading_emitted reading plain ledger (constant_instructions ty number (length plain.answers)))
      (fold ledger_with plain (constant_calls arithmetic ty number (length plain.answers) x))
      (ledger_with_call ledger (Emit [] (computing whole ty (name ∷ []))))

-- Joined calls stay joined with the emission at the script's end and these calls at the plain one's, and if each emission was
-- performed so far, each is: the name is a value, and the constant has 64 bits.
pub record IsPerformedByConstant (arithmetic whole : Arithmetic) (number : ℤ) : Type 0 where
  pub joined : (reading : Reading) (plain : Script) (calls : List ScriptCall) (ty : «Type») (x name : Name) → AreJoinedCalls reading plain calls
      → IsTrue (call_allowed (ledger_of calls) (Emit [] (computing whole ty (name ∷ []))))
      → AreJoinedCalls (reading_emitted reading (ledger_after plain) (ledger_of calls) (constant_instructions ty number (length (ledger_after plain).answers)))
      (plain ++ constant_calls arithmetic ty number (length (ledger_after plain).answers) x) (calls ++ Emit [] (computing whole ty (name ∷ [])) ∷ [])
  pub performed : (pointer_width : ℕ) (reading : Reading) (plain : Script) (calls : List ScriptCall) (ty : «Type») (x name : Name) (are : AreJoinedCalls reading plain calls)
      → ArePerformed pointer_width reading plain calls are → IsReadAs reading x name
      → (may : IsTrue (call_allowed (ledger_of calls) (Emit [] (computing whole ty (name ∷ [])))))
      → ArePerformed pointer_width (reading_emitted reading (ledger_after plain) (ledger_of calls) (constant_instructions ty number (length (ledger_after plain).answers)))
      (plain ++ constant_calls arithmetic ty number (length (ledger_after plain).answers) x) (calls ++ Emit [] (computing whole ty (name ∷ [])) ∷ [])
      (joined reading plain calls ty x name are may)

-- So it is with the plain sum and the plain comparison.
pub record ConstantCallsArePerformed : Type 0 where
  pub adds : (number : ℤ) → IsPerformedByConstant (Binary Iadd) (AddConstant number) number
  pub compares : (condition : IntCC) (number : ℤ) → IsPerformedByConstant (Compare condition) (CompareConstant condition number) number

pub record ConstantsAreEmitted : Type 0 where
  pub adds : (number : ℤ) → StandsForEmission (Binary Iadd) (AddConstant number) number
  pub compares : (condition : IntCC) (number : ℤ) → StandsForEmission (Compare condition) (CompareConstant condition number) number
