use Rattle.clif_types.proofs.Marks.{IsStrictlyIncreasing-marked_from}
use Rattle.clif_types.proofs.entity_set.EntitySet.iter.Goals as goal

pub returns-clause-rising : goal.returns-clause-rising
returns-clause-rising g c = rw (← c.self.view_is) (IsStrictlyIncreasing-marked_from c.self.inside.marks.items 0)
