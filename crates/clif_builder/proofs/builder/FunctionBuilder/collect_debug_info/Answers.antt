use Rattle.std.proofs.Common.{refl}
use Rattle.clif_tables.specs.Lists.{with_labels_collected}
use Rattle.clif_builder.proofs.Entries.{tables_still}
use Rattle.clif_builder.proofs.Labelling.{collected}
use Rattle.clif_builder.proofs.Tabling.{collected_aside}
use Rattle.clif_builder.proofs.builder.FunctionBuilder.collect_debug_info.Goals as goal

pub returns : goal.returns
returns g c =
    collected c.args.self.now _ (record { func = refl; ctx = refl; region = refl }) refl refl refl refl c.law_consistent.ensures c.collect_debug_info.ensures

pub invariant_of-self : goal.invariant_of-self
invariant_of-self g c = record {
  named =
      tables_still (with_labels_collected c.args.self.now.func.now.tables) c.args.self.now.func.now _ c.args.self.now.ctx.now.parts _ (collected_aside c.args.self.now.func.now).constants
      c.collect_debug_info.ensures c.args.self.now.named;
}
