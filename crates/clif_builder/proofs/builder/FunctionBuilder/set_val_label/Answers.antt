use Rattle.std.proofs.Common.{refl}
use Rattle.clif_builder.proofs.Entries.{tables_kept}
use Rattle.clif_builder.proofs.Labelling.{label_refused, label_set}
use Rattle.clif_builder.proofs.Tabling.{labelled_aside}
use Rattle.clif_builder.proofs.builder.FunctionBuilder.set_val_label.Goals as goal

pub returns-then-self : goal.returns-then-self
returns-then-self g c = label_refused c.args.value c.args.label c.args.self.now c.if-self.true

pub returns : goal.returns
returns g c =
    label_set c.args.value c.args.label c.args.self.now _ c.set_val_label-set.result c.if-self.false (record { func = refl; ctx = refl; region = refl }) refl refl refl
    c.is_err-self.ensures.value c.law_consistent.ensures c.set_val_label-set.ensures.only_memory c.set_val_label-set.ensures.ok c.set_val_label-set.ensures.err

pub invariant_of-self : goal.invariant_of-self
invariant_of-self g c = record {
  named =
      let f = c.args.self.now.func.now in
      tables_kept _ c.set_val_label-set.result f _ c.args.self.now.ctx.now.parts _ _ (labelled_aside f c.args.value (record { from = c.args.self.now.srcloc; label = c.args.label })).constants c.if-self.false
      c.is_err-self.ensures.value c.set_val_label-set.ensures.ok c.set_val_label-set.ensures.err c.args.self.now.named;
}
