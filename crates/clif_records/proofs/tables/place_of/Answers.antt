use Rattle.std.proofs.Common.{sym}
use Rattle.clif_records.proofs.Places.{place_found}
use Rattle.clif_records.proofs.tables.place_of.Goals as goal

pub returns-in-Some-get_full-clause-there : goal.returns-in-Some-get_full-clause-there
returns-in-Some-get_full-clause-there c =
    place_found c.args.pages.now c.args.variable c.args.number c.in-Some-get_full.place c.in-Some-get_full.field-0-1.now c.in-Some-get_full.field-0-2.now
    (sym c.in-Some-get_full.ensures.key) c.in-Some-get_full.ensures.entry (sym c.in-Some-get_full.ensures.value)
