-- What clauses see of a stack slot.
use Rattle.std.specs.Prelude.{ℕ, ◌^◌}

-- the size in bytes, and the number of low bits that are zero in the address
pub record StackSlotShape : Type 0 where
  pub size : ℕ
  pub align_shift : ℕ

-- the alignment in bytes
abbrev pub align_of : StackSlotShape → ℕ
align_of s = 2 ^ s.align_shift
