use Rattle.std.proofs.Common.{refl}
use Rattle.clif_builder.proofs.Entries.{tables_kept}
use Rattle.clif_builder.proofs.Tabling.{constant_pooled, constant_refused, pooled_aside}
use Rattle.clif_builder.proofs.instructions.FunctionBuilderInstBuilderBase.pool_constant.Goals as goal

pub returns-then-self : goal.returns-then-self
returns-then-self g c = record { pooled = constant_refused c.args.bytes.now c.args.self.now c.if-self.true }

pub returns : goal.returns
returns g c = record {
  pooled =
      constant_pooled c.args.bytes.now c.args.self.now _ c.pool_constant-pooled.result c.if-self.false (record { func = refl; ctx = refl; region = refl }) refl refl refl
      c.is_err-self.ensures.value c.law_consistent.ensures c.pool_constant-pooled.ensures;
}

pub invariant_of-self : goal.invariant_of-self
invariant_of-self g c = record {
  named =
      let pools = c.pool_constant-pooled.ensures in
      tables_kept _ c.pool_constant-pooled.result c.args.self.now.func.now _ c.args.self.now.ctx.now.parts _ _ (pooled_aside c.args.self.now.func.now c.args.bytes.now).constants c.if-self.false
      c.is_err-self.ensures.value pools.ok pools.err c.args.self.now.named;
}
