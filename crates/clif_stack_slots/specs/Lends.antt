-- What ends as what, where a `&mut` into a map over sizes is returned. Source: own.
use Rattle.std.specs.Prelude.{ℕ, List, slice_set}
use Rattle.std.specs.Borrow.{Lends, Fml, RattleType, MutBor}
use Rattle.clif_stack_slots.specs.contracts.size.SlotSizeMap as size_map

-- a map, in which the thing of a size is what was last written through the reference
abbrev pub lends_entry : (T : RattleType) → MutBor (List T.Denot) → ℕ → MutBor T.Denot → Fml
lends_entry T table place entry = Lends (size_map.the_row T) T table entry (slice_set table.now place)
