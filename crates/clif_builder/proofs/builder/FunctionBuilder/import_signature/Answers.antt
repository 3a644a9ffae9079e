use Rattle.std.proofs.Common.{refl}
use Rattle.clif_tables.specs.Entries.{ASignature}
use Rattle.clif_builder.proofs.Entries.{entry_kept, entry_made, entry_refused}
use Rattle.clif_builder.proofs.builder.FunctionBuilder.import_signature.Goals as goal

pub returns-then-self : goal.returns-then-self
returns-then-self g c = entry_refused (ASignature c.args.signature) c.args.self.now c.if-self.true

pub returns : goal.returns
returns g c =
    entry_made (ASignature c.args.signature) c.args.self.now _ c.import_signature-made.result c.if-self.false c.law_consistent.ensures (record { func = refl; ctx = refl; region = refl }) refl refl refl
    c.is_err-self.ensures.value c.import_signature-made.ensures

pub invariant_of-self : goal.invariant_of-self
invariant_of-self g c = record {
  named = entry_kept (ASignature c.args.signature) c.import_signature-made.result c.args.self.now.func.now _ c.args.self.now.ctx.now.parts _ _ c.if-self.false c.is_err-self.ensures.value
      c.import_signature-made.ensures c.args.self.now.named;
}
