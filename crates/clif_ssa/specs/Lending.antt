-- What ends as what, where a `&mut` to the values that stack maps need is returned. Source: own.
use Rattle.std.specs.Prelude.{ℕ, List}
use Rattle.std.specs.Borrow.{Lends, Fml, MutBor}
use Rattle.clif_types.specs.contracts.entity_set.EntitySet as entity_set
use Rattle.clif_entities.specs.contracts.code.Value as value
use Rattle.clif_ssa.specs.contracts.ssa.SSABuilder as builder
use Rattle.clif_records.specs.Tracking.{sets, marked_of}
use Rattle.clif_ssa.specs.Ssa.{SsaState}

-- with these values recorded
abbrev pub with_values : SsaState → List ℕ → SsaState
with_values s values = record s { tracking = sets (marked_of s.tracking) values }

-- the recorded values are what was last written through the reference
abbrev pub lends_builder_recorded : MutBor SsaState → MutBor (List ℕ) → Fml
lends_builder_recorded s values = Lends builder.the_row (entity_set.the_row value.the_row) s values (with_values s.now)
