-- What clauses see of the flags of a load or a store.
use Rattle.std.specs.Prelude.{ℕ, Bool, Option}

-- no trap may happen; the address has the alignment of the accessed type; the region of memory, if one is named
pub record MemFlagsShape : Type 0 where
  pub notrap : Bool
  pub aligned : Bool
  pub alias_region : Option ℕ
