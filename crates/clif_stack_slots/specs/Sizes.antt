-- Sizes of slots, and which types a stack map can name. Source: `SlotSize` of the module `safepoints` of cranelift-frontend;
-- `declare_value_needs_stack_map` has the bounds.
use Rattle.std.specs.Prelude.{◌≡◌, ◌≤◌, ◌^◌, ◌==◌, ℕ, Result, Ok, Err, Option, Some, None, if◌then◌else◌}
use Rattle.clif_types.specs.Types.{bytes_of}
use Rattle.clif_types.specs.declared.types.«Type».{«Type»}
use Rattle.clif_stack_slots.specs.declared.size.SlotSize.{SlotSize}
use Rattle.clif_stack_slots.specs.declared.size.UnsupportedType.{UnsupportedType}
use Rattle.clif_stack_slots.specs.declared.size.SlotSize.TheVariants as size

-- a stack map has room for a value of this type: it has 1 to 16 bytes
pub record FitsStackMap (ty : «Type») : Type 0 where
  pub some : 1 ≤ bytes_of ty
  pub fits : bytes_of ty ≤ 16

-- the binary logarithm of its bytes
abbrev pub shift_of : SlotSize → ℕ
shift_of size.Size8 = 0
shift_of size.Size16 = 1
shift_of size.Size32 = 2
shift_of size.Size64 = 3
shift_of size.Size128 = 4

abbrev pub bytes_in : SlotSize → ℕ
bytes_in s = 2 ^ shift_of s

-- the size of so many bytes
abbrev pub size_of_bytes : ℕ → Option SlotSize
size_of_bytes bytes =
    if bytes == 1 then Some size.Size8 else (if bytes == 2 then Some size.Size16 else (if bytes == 4 then Some size.Size32 else (if bytes == 8 then Some size.Size64 else (if bytes == 16 then Some size.Size128 else None))))

-- the size of a type, where it fits
abbrev pub size_of_type : «Type» → Option SlotSize
size_of_type ty = size_of_bytes (bytes_of ty)

-- what is answered for a type: its size, or that no stack map has room for it
abbrev pub IsSizeOf : «Type» → Result SlotSize UnsupportedType → Type 0
IsSizeOf ty (Ok s) = bytes_of ty ≡ bytes_in s
IsSizeOf ty (Err _) = FitsStackMap ty → ⊥
