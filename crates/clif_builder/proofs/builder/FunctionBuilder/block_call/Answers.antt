use Rattle.std.proofs.Common.{refl}
use Rattle.clif_builder.proofs.Entries.{tables_kept}
use Rattle.clif_builder.proofs.Tabling.{edge_made, edge_refused, err_any, on_any, same_aside}
use Rattle.clif_builder.proofs.builder.FunctionBuilder.block_call.Goals as goal

pub returns-then-self : goal.returns-then-self
returns-then-self g c = edge_refused c.args.block c.args.args.now c.args.self.now c.if-self.true

pub returns : goal.returns
returns g c =
    edge_made c.args.block c.args.args.now c.args.self.now _ c.new-edge.result c.if-self.false (record { func = refl; ctx = refl; region = refl }) refl refl refl
    c.is_err-self.ensures.value c.law_consistent.ensures refl c.new-edge.ensures.only_memory c.new-edge.ensures.ok

pub invariant_of-self : goal.invariant_of-self
invariant_of-self g c = record {
  named =
      tables_kept _ c.new-edge.result c.args.self.now.func.now _ c.args.self.now.ctx.now.parts _ _ (same_aside c.args.self.now.func.now).constants c.if-self.false
      c.is_err-self.ensures.value (on_any c.new-edge.result refl) (err_any c.new-edge.result refl) c.args.self.now.named;
}
