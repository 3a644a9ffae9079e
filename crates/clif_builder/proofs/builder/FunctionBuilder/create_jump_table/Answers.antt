use Rattle.std.proofs.Common.{refl}
use Rattle.clif_inst_builder.specs.Served.{jump_tables}
use Rattle.clif_builder.proofs.Entries.{tables_kept}
use Rattle.clif_builder.proofs.Tabling.{created_aside, table_created, table_refused}
use Rattle.clif_builder.proofs.builder.FunctionBuilder.create_jump_table.Goals as goal

pub returns-then-self : goal.returns-then-self
returns-then-self g c = table_refused jump_tables c.args.table c.args.self.now c.if-self.true

pub returns : goal.returns
returns g c =
    table_created jump_tables c.args.table c.args.self.now _ c.create_jump_table-made.result (created_aside c.args.self.now.func.now c.args.table) refl c.if-self.false (record { func = refl; ctx = refl; region = refl }) refl refl refl
    c.is_err-self.ensures.value c.law_consistent.ensures c.create_jump_table-made.ensures

pub invariant_of-self : goal.invariant_of-self
invariant_of-self g c = record {
  named =
      let makes = c.create_jump_table-made.ensures in
      tables_kept _ c.create_jump_table-made.result c.args.self.now.func.now _ c.args.self.now.ctx.now.parts _ _ (created_aside c.args.self.now.func.now c.args.table).constants c.if-self.false
      c.is_err-self.ensures.value makes.ok makes.err c.args.self.now.named;
}
