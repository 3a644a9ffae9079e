-- Branches may lead to the blocks of both cases; the switch leaves the builder as it says.
use Rattle.std.proofs.Common.{rules, ◌≡◌}
use Rattle.std.specs.FinMap as map
use Rattle.uses.proofs.Cases.{both_lead}
use Rattle.uses.proofs.choose.go_by.Goals as goal

pub emit-requires : goal.emit-requires
emit-requires g c =
    let empty : c.new-switch.result ≡ map.empty = search rules in
    record {
      current = c.requires.current;
      exists = c.requires.exists;
      integer = c.requires.integer;
      otherwise_leads = c.requires.other_leads;
      cases_lead = both_lead c.args.builder.now c.new-switch.result c.set_entry.new.self c.set_entry-2.new.self 0 7 c.args.zero c.args.seven empty (search rules) (search rules) c.requires.zero_leads c.requires.seven_leads;
    }
