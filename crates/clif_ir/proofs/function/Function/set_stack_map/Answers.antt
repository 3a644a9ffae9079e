use Rattle.std.proofs.Common.{◌<◌, length, rules, subst, sym}
use Rattle.clif_tables.specs.Entries.{NamesSlots}
use Rattle.clif_tables.proofs.NamedEntries.{named_with_stack_map}
use Rattle.clif_ir.specs.Body.{Body}
use Rattle.clif_ir.proofs.KeepsMaps.{maps-with_stack_map}
use Rattle.clif_ir.proofs.function.Function.set_stack_map.Goals as goal

pub invariant_of-self : goal.invariant_of-self
invariant_of-self c =
    let slots = subst (λ (f : Body). NamesSlots f.tables c.args.map.items) (sym c.self.view_is) c.requires.slots_exist in
    let named = named_with_stack_map c.self.inside.tables c.args.inst c.args.map.items slots c.self.invariant.consistent.named_exist in
    let exists = subst (λ (f : Body). c.args.inst < length f.insts) (sym c.self.view_is) c.requires.inst_exists in
    let maps = maps-with_stack_map c.self.inside.tables c.args.inst (length c.self.inside.insts.items) c.args.map.items exists c.self.invariant.consistent.maps_known in
    search rules
