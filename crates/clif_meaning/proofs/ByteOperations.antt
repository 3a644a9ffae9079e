-- Outcomes of operations on bytes: they give values of the types that they have, or have no step.
use Rattle.std.proofs.Common.{◌≡◌, ◌&&◌, ℕ, Bool, true, false, if◌then◌else◌, List, [], ◌∷◌, refl}
use Rattle.std.proofs.lemmas.Bool.{and_parts}
use Rattle.clif_types.specs.declared.libcall.LibCall.TheVariants.{Memcpy, Memmove, Memset, Memcmp}
use Rattle.clif_types.specs.declared.types.«Type».{«Type»}
use Rattle.clif_meaning.specs.Bits.{Bits, AreValues}
use Rattle.clif_meaning.specs.ByteOperation.{ByteOperation, Copy, Fill, CompareBytes, CallLibrary, order_meets}
use Rattle.clif_meaning.specs.Instruction.{Bytes}
use Rattle.clif_meaning.specs.Library.{bytes_at}
use Rattle.clif_meaning.specs.Memory.{Memory, byte_order, bytes_in}
use Rattle.clif_meaning.specs.Outcome.{Outcome, Gives, NoStep, byte_memory, byte_outcome, byte_ranges, byte_results, bytes_in_order, ranges_accessible}
use Rattle.clif_meaning.specs.Program.{result_types}
use Rattle.clif_meaning.specs.World.{World}
use Rattle.clif_meaning.proofs.Fitting.{bit_fits}
use Rattle.clif_meaning.proofs.LibraryCalls.{sign_fits}

-- What holds where there is no step, and of what is given with operands in order, holds of the outcome.
pub byte_cases : (P : Outcome → Type 0) (world : World) (operation : ByteOperation) (width : ℕ) (operands : List Bits) (memory : Memory)
    → P NoStep
    → (bytes_in_order operation width operands ≡ true → P (Gives (byte_results world operation width operands memory) (byte_memory operation width operands memory)))
    → P (byte_outcome world operation width operands memory)
byte_cases P world operation width operands memory none gives =
    by (bytes_in_order operation width operands && ranges_accessible world (byte_ranges operation width operands))
    (λ runs. gives (and_parts (bytes_in_order operation width operands) (ranges_accessible world (byte_ranges operation width operands)) runs).0)
  where
    by : (b : Bool) → (b ≡ true → P (Gives (byte_results world operation width operands memory) (byte_memory operation width operands memory)))
        → P (if b then Gives (byte_results world operation width operands memory) (byte_memory operation width operands memory) else NoStep)
    by true it = it refl
    by false it = none

pub byte_values : (world : World) (operation : ByteOperation) (ty : «Type») (width : ℕ) (operands : List Bits) (memory : Memory)
    → bytes_in_order operation width operands ≡ true → AreValues (result_types (Bytes operation) ty) (byte_results world operation width operands memory)
byte_values world (Copy copy) ty width operands memory in_order = tt
byte_values world (Fill fill) ty width operands memory in_order = tt
byte_values world (CompareBytes compare) ty width [] memory in_order = cc
byte_values world (CompareBytes compare) ty width (x ∷ []) memory in_order = cc
byte_values world (CompareBytes compare) ty width (x ∷ y ∷ []) memory in_order =
    let left : List ℕ = bytes_in memory (bytes_at width x compare.size) in
    let right : List ℕ = bytes_in memory (bytes_at width y compare.size) in
    (bit_fits (order_meets compare.condition (byte_order left right)), tt)
byte_values world (CompareBytes compare) ty width (x ∷ y ∷ z ∷ operands) memory in_order = cc
byte_values world (CallLibrary Memcpy) ty width operands memory in_order = tt
byte_values world (CallLibrary Memmove) ty width operands memory in_order = tt
byte_values world (CallLibrary Memset) ty width operands memory in_order = tt
byte_values world (CallLibrary Memcmp) ty width [] memory in_order = cc
byte_values world (CallLibrary Memcmp) ty width (x ∷ []) memory in_order = cc
byte_values world (CallLibrary Memcmp) ty width (x ∷ y ∷ []) memory in_order = cc
byte_values world (CallLibrary Memcmp) ty width (x ∷ y ∷ size ∷ []) memory in_order =
    let left : List ℕ = bytes_in memory (bytes_at width x size) in
    let right : List ℕ = bytes_in memory (bytes_at width y size) in
    (sign_fits (byte_order left right) (world.memcmp_number left right) (world.memcmp_sign left right), tt)
byte_values world (CallLibrary Memcmp) ty width (x ∷ y ∷ size ∷ z ∷ operands) memory in_order = cc
