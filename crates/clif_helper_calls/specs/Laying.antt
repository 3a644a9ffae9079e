-- The code of memory helpers is laid: each instruction names what the code gave before or what the operation of the script names. Own.
use Rattle.std.specs.Prelude.{ℕ, ℤ, List, [], ◌∷◌, Bool}
use Rattle.clif_types.specs.MemFlags.{MemFlagsShape}
use Rattle.clif_types.specs.Signature.{SignatureShape}
use Rattle.clif_types.specs.declared.condcodes.IntCC.{IntCC}
use Rattle.clif_types.specs.declared.libcall.LibCall.{LibCall}
use Rattle.clif_types.specs.declared.types.«Type».{«Type»}
use Rattle.clif_meaning.specs.ByteOperation.{CompareShape}
use Rattle.clif_meaning.specs.Instruction.{Operation}
use Rattle.clif_meaning.specs.Name.{Name}
use Rattle.clif_meaning.specs.Program.{Instruct, Program}
use Rattle.clif_expansion.specs.Laying.{IsLaid}
use Rattle.clif_expansion.specs.Reading.{IsReadAs, Reading}
use Rattle.clif_helper_calls.specs.Codes.{compare_code, copy_code, doing, fill_code}
use Rattle.clif_helper_calls.specs.LibraryCodes.{call_code, compare_call_code, copy_call_code, fill_call_code, set_code}
use Rattle.clif_helper_calls.specs.PerformingCalls.{ReadsThree, ReadsTwo}

-- Each code is laid for any operation of the script with the operands that it reads, and with the result that it reads or with none.
pub record CodesAreLaid : Type 0 where
  pub copies : (reading : Reading) (program : Program) (flags : MemFlagsShape) (ty pointer : «Type») (bytes place other : ℕ) (operation : Operation)
      (first : Name) (names : List Name) (target source given_target given_source : Name)
      → ReadsTwo reading target source given_target given_source
      → IsLaid reading program (copy_code flags ty bytes target source place (first ∷ names)) (Instruct other (doing operation pointer (given_target ∷ given_source ∷ [])) [])
  pub fills : (reading : Reading) (program : Program) (flags : MemFlagsShape) (ty pointer : «Type») (bytes place other : ℕ) (operation : Operation)
      (number : ℤ) (count : ℕ) (target given_target constant : Name)
      → IsReadAs reading target given_target
      → IsLaid reading program (fill_code flags ty bytes target place number constant count) (Instruct other (doing operation pointer (given_target ∷ [])) [])
  pub compares : (reading : Reading) (program : Program) (compare : CompareShape) (ty pointer : «Type») (place other : ℕ) (operation : Operation)
      (left right given_left given_right one two result given_result : Name)
      → ReadsTwo reading left right given_left given_right → IsReadAs reading result given_result
      → IsLaid reading program (compare_code compare ty left right place one two result) (Instruct other (doing operation pointer (given_left ∷ given_right ∷ [])) (given_result ∷ []))
  pub calls : (reading : Reading) (program : Program) (callee : LibCall) (signature : SignatureShape) (pointer : «Type») (place other : ℕ) (operation : Operation)
      (first second size given_first given_second given_size answer : Name)
      → ReadsThree reading first second size given_first given_second given_size
      → IsLaid reading program (call_code callee signature place first second size answer) (Instruct other (doing operation pointer (given_first ∷ given_second ∷ given_size ∷ [])) [])
  pub answers : (reading : Reading) (program : Program) (callee : LibCall) (signature : SignatureShape) (pointer : «Type») (place other : ℕ) (operation : Operation)
      (first second size given_first given_second given_size answer given_answer : Name)
      → ReadsThree reading first second size given_first given_second given_size → IsReadAs reading answer given_answer
      → IsLaid reading program (call_code callee signature place first second size answer)
      (Instruct other (doing operation pointer (given_first ∷ given_second ∷ given_size ∷ [])) (given_answer ∷ []))
  pub sets : (reading : Reading) (program : Program) (signature : SignatureShape) (pointer : «Type») (place other : ℕ) (operation : Operation)
      (target byte size given_target given_byte given_size wide answer : Name)
      → ReadsThree reading target byte size given_target given_byte given_size
      → IsLaid reading program (set_code signature place target byte size wide answer) (Instruct other (doing operation pointer (given_target ∷ given_byte ∷ given_size ∷ [])) [])
  pub copy_calls : (reading : Reading) (program : Program) (no_overlap : Bool) (signature : SignatureShape) (pointer : «Type») (number : ℤ) (place other : ℕ) (operation : Operation)
      (target source given_target given_source size answer : Name)
      → ReadsTwo reading target source given_target given_source
      → IsLaid reading program (copy_call_code no_overlap signature pointer number place target source size answer)
      (Instruct other (doing operation pointer (given_target ∷ given_source ∷ [])) [])
  pub fill_calls : (reading : Reading) (program : Program) (signature : SignatureShape) (pointer : «Type») (filling number : ℤ) (place other : ℕ) (operation : Operation)
      (target given_target byte size wide answer : Name)
      → IsReadAs reading target given_target
      → IsLaid reading program (fill_call_code signature pointer filling number place target byte size wide answer) (Instruct other (doing operation pointer (given_target ∷ [])) [])
  pub compare_calls : (reading : Reading) (program : Program) (condition : IntCC) (signature : SignatureShape) (pointer : «Type») (number : ℤ) (place other : ℕ) (operation : Operation)
      (left right given_left given_right size answer zero result given_result : Name)
      → ReadsTwo reading left right given_left given_right → IsReadAs reading result given_result
      → IsLaid reading program (compare_call_code condition signature pointer number place left right size answer zero result)
      (Instruct other (doing operation pointer (given_left ∷ given_right ∷ [])) (given_result ∷ []))
