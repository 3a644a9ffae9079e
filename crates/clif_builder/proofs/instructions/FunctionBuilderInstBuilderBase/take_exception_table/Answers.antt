use Rattle.std.proofs.Common.{refl, sym, ◌∙◌}
use Rattle.std.specs.Prelude.{Ok}
use Rattle.clif_inst_builder.specs.Served.{exception_tables}
use Rattle.clif_builder.proofs.Entries.{tables_kept}
use Rattle.clif_builder.proofs.Tabling.{exception_served_aside, table_taken, take_refused}
use Rattle.clif_builder.proofs.instructions.FunctionBuilderInstBuilderBase.take_exception_table.Goals as goal

pub returns-then-self : goal.returns-then-self
returns-then-self g c = record { taken = take_refused exception_tables c.args.table c.args.self.now c.if-self.true }

pub returns : goal.returns
returns g c = record {
  taken =
      table_taken exception_tables c.args.table c.in-Some.exception c.args.self.now _ (exception_served_aside c.args.self.now.func.now c.args.table) (λ named. named) c.if-self.false (record { func = refl; ctx = refl; region = refl }) refl refl refl c.if-self.false
      c.law_consistent.ensures (sym c.take_exception_table.ensures.taken ∙ c.in-Some.is) c.take_exception_table.ensures.served;
}

pub invariant_of-self : goal.invariant_of-self
invariant_of-self g c = record {
  named =
      tables_kept {A = Unit {0}} _ (Ok tt) c.args.self.now.func.now _ c.args.self.now.ctx.now.parts _ _ (exception_served_aside c.args.self.now.func.now c.args.table).constants c.if-self.false
      c.if-self.false c.take_exception_table.ensures.served tt c.args.self.now.named;
}
