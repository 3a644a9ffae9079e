-- A call of a function of the C library with a size that is a value stands for its emission. Own.
use Rattle.std.specs.Prelude.{[], ◌∷◌}
use Rattle.clif_types.specs.Signature.{SignatureShape}
use Rattle.clif_types.specs.Types.{bits_of}
use Rattle.clif_types.specs.declared.libcall.LibCall.{LibCall}
use Rattle.clif_types.specs.declared.libcall.LibCall.TheVariants.{Memcpy, Memmove, Memcmp}
use Rattle.clif_types.specs.declared.types.«Type».{«Type»}
use Rattle.clif_meaning.specs.ByteOperation.{CallLibrary}
use Rattle.clif_meaning.specs.Instruction.{Bytes, Instruction}
use Rattle.clif_meaning.specs.Name.{Name}
use Rattle.clif_expansion.specs.Emission.{AreGenerated, AreGiven, LastResults}
use Rattle.clif_helper_calls.specs.Codes.{doing}
use Rattle.clif_helper_calls.specs.LibraryCodes.{calling}
use Rattle.clif_helper_calls.specs.Lines.{Line, LineStands}
use Rattle.clif_helper_calls.specs.PerformingCalls.{HasSignature, ReadsThree}

-- the operation of the script
abbrev pub library_emission : LibCall → «Type» → (first second size : Name) → Instruction Name Name
library_emission callee pointer first second size = doing (Bytes (CallLibrary callee)) pointer (first ∷ second ∷ size ∷ [])

-- the call alone
abbrev pub single_line : LastResults → LibCall → SignatureShape → «Type» → (first second size given_first given_second given_size : Name) → Line
single_line how callee signature pointer first second size given_first given_second given_size = record {
  how = how;
  code = λ place. [];
  last = λ place. calling callee signature first second size;
  emission = library_emission callee pointer given_first given_second given_size;
}

-- It stands so where pointers have this type, and the signature is the function's.
abbrev pub StandsForEmission : LastResults → LibCall → Type 0
StandsForEmission how callee =
    (pointer : «Type») (signature : SignatureShape) (first second size given_first given_second given_size : Name) → HasSignature (bits_of pointer) callee signature
    → LineStands pointer (single_line how callee signature pointer first second size given_first given_second given_size)
    (λ reading. ReadsThree reading first second size given_first given_second given_size)

-- What a copy answers is generated; what a comparison answers is the emission's result.
pub record SingleCallsStand : Type 0 where
  pub copies : StandsForEmission AreGenerated Memcpy
  pub moves : StandsForEmission AreGenerated Memmove
  pub compares : StandsForEmission AreGiven Memcmp
