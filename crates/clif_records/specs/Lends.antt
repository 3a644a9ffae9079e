-- What ends as what, where a `&mut` to the recorded values is returned. Source: own.
use Rattle.std.specs.Prelude.{ℕ, List}
use Rattle.std.specs.Borrow.{Lends, Fml, MutBor}
use Rattle.clif_types.specs.contracts.entity_set.EntitySet as entity_set
use Rattle.clif_entities.specs.contracts.code.Value as value
use Rattle.clif_records.specs.contracts.tracking.Tracking as tracking
use Rattle.clif_records.specs.Tracking.{Tracked, sets, marked_of}

-- the recorded values are what was last written through the reference
abbrev pub lends_recorded : MutBor Tracked → MutBor (List ℕ) → Fml
lends_recorded tracked values = Lends tracking.the_row (entity_set.the_row value.the_row) tracked values (sets (marked_of tracked.now))
