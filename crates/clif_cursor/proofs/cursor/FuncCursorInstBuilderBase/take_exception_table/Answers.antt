use Rattle.std.proofs.Common.{refl, sym, ◌∙◌}
use Rattle.clif_cursor.proofs.Taken.{exception_taken}
use Rattle.clif_cursor.proofs.cursor.FuncCursorInstBuilderBase.take_exception_table.Goals as goal

pub returns : goal.returns
returns c =
    let took = c.take_exception_table.ensures in
    record {
      taken =
          exception_taken c.args.self.now _ c.args.table c.in-Some.exception (record { func = refl; block = refl; srcloc = refl }) took.served
          (sym took.taken ∙ c.in-Some.is);
    }
