-- How copies, fills and comparisons of a known size are made: by which loads and stores, or by a call of a function of the C
-- library. After the documentation of Cranelift's `emit_small_memory_copy`, `emit_small_memset` and
-- `emit_small_memory_compare`.
use Rattle.std.specs.Prelude.{◌≡◌, ℕ, pos, ◌*◌, ◌/◌, ◌%◌, ◌^◌, ◌<◌, ◌≤◌, ◌==◌, ◌&&◌, ◌||◌, nat_le, nat_lt, if◌then◌else◌, Bool, true, unwrap_or}
use Rattle.std.specs.declared.cmp.Ordering.TheVariants.{Equal as SameBytes}
use Rattle.clif_types.specs.Target.{pointer_type_of}
use Rattle.clif_types.specs.Types.{bits_of, int_of}
use Rattle.clif_types.specs.declared.condcodes.IntCC.{IntCC}
use Rattle.clif_types.specs.declared.target.PointerWidth.{PointerWidth}
use Rattle.clif_types.specs.declared.types.«Type».{«Type»}
use Rattle.clif_types.specs.declared.types.«Type».TheVariants as type
use Rattle.clif_meaning.specs.ByteOperation.{access_size, greatest_power, is_by_accesses, is_by_loads, order_meets, tells_equality}
use Rattle.clif_byte_laws.specs.Comparing.{sign_condition}
use Rattle.clif_access_plans.specs.declared.comparing.ComparePlan.{ComparePlan}
use Rattle.clif_access_plans.specs.declared.comparing.ComparePlan.TheVariants as compare
use Rattle.clif_access_plans.specs.declared.moving.MovePlan.{MovePlan}
use Rattle.clif_access_plans.specs.declared.moving.MovePlan.TheVariants as move

-- the integer type of so many bytes; the invalid type where there is none
abbrev pub type_of_bytes : ℕ → «Type»
type_of_bytes bytes = unwrap_or (int_of (8 * bytes)) type.Invalid

-- COPIES AND FILLS --------------------------------------------------------------------------------------------------------

-- no bytes, at most four accesses, or a call
abbrev pub move_plan : (size : ℕ) → MovePlan
move_plan size =
    if size == 0 then move.Nothing
    else (if is_by_accesses size
    then move.Inline (record { ty = type_of_bytes (access_size size); bytes = access_size size; count = size / access_size size })
    else move.LibraryCall)

-- the size is a number of a pointer's width
abbrev pub fits_pointer : PointerWidth → (size : ℕ) → Bool
fits_pointer width size = nat_lt size (2 ^ bits_of (pointer_type_of width))

-- A copy or a fill may be made where it has no bytes, or where its size fits a pointer and is a multiple of a power of two
-- that is no less than the alignment.
abbrev pub may_move : PointerWidth → (size alignment : ℕ) → Bool
may_move width size alignment = (size == 0) || (nat_le alignment (greatest_power size) && fits_pointer width size)

-- COMPARISONS -------------------------------------------------------------------------------------------------------------

-- a constant where there are no bytes, loads, or a call whose number is compared with zero
abbrev pub compare_plan : IntCC → (size : ℕ) → ComparePlan
compare_plan condition size =
    if size == 0 then compare.Constant (if order_meets condition SameBytes then pos 1 else pos 0)
    else (if is_by_loads condition size then compare.Inline (type_of_bytes size) else compare.LibraryCall (sign_condition condition))

-- such a load is said to be aligned: where the alignment is the size, and of the order of single bytes always
abbrev pub is_aligned_load : IntCC → (size alignment : ℕ) → Bool
is_aligned_load condition size alignment = if tells_equality condition then alignment == size else true

-- LAWS --------------------------------------------------------------------------------------------------------------------

-- The power divides the size, and none that divides it is greater.
pub record IsGreatestPower (size power : ℕ) : Type 0 where
  pub exponent : ℕ
  pub is : power ≡ 2 ^ exponent
  pub divides : size % power ≡ 0
  pub greatest : (other : ℕ) → size % 2 ^ other ≡ 0 → 2 ^ other ≤ power

-- an integer type of 1, 2, 4 or 8 bytes
pub record IsAccess (ty : «Type») (bytes : ℕ) : Type 0 where
  pub bits : bits_of ty ≡ 8 * bytes
  pub exponent : ℕ
  pub is_power : bytes ≡ 2 ^ exponent
  pub few : exponent ≤ 3

-- The plan's accesses are the whole size.
pub record AccessesAreTheSize (size : ℕ) : Type 0 where
  pub is_access : IsAccess (type_of_bytes (access_size size)) (access_size size)
  pub whole : size / access_size size * access_size size ≡ size

pub record PlansAreExact : Type 0 where
  pub greatest : (size : ℕ) → 0 < size → size < 2 ^ 64 → IsGreatestPower size (greatest_power size)
  pub accesses : (size : ℕ) → 0 < size → size < 2 ^ 64 → AccessesAreTheSize size
