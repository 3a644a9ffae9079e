use Rattle.std.proofs.Common.{rules, ◌≡◌, sym, arith}
use Rattle.std.proofs.lemmas.Grind.{common_steps}
use Rattle.clif_records.proofs.Places.{place_tested}
use Rattle.clif_records.proofs.tables.hinted_place.Goals as goal

pub returns-then-key-number : goal.returns-then-key-number
returns-then-key-number c =
    let variable : c.in-Some.key.now.0 ≡ c.args.variable = first_of (search rules, grind (arith, common_steps)) in
    let number : c.in-Some.key.now.1 ≡ c.args.number = first_of (search rules, grind (arith, common_steps)) in
    place_tested c.args.pages.now c.args.variable c.args.number c.args.hint c.in-Some.key.now c.in-Some.field-0-1.now variable number
    (sym c.in-Some.ensures.entry) c.in-Some.ensures.value
