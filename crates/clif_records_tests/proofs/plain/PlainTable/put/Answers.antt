use Rattle.clif_records_tests.proofs.Sorted.{put}
use Rattle.clif_records_tests.proofs.plain.PlainTable.put.Goals as goal

pub returns-clause-entry : goal.returns-clause-entry
returns-clause-entry c =
    rw (← c.self.view_is) (put c.self.inside.sorted.entries c.insert.new.self.entries (c.args.variable, c.args.block) (record { value = c.args.value; lookups = c.args.lookups }) c.in_ok-insert.ensures.updates.0)
