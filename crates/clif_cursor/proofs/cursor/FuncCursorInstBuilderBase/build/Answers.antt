use Rattle.std.proofs.Common.{refl}
use Rattle.clif_cursor.proofs.Appended.{builds_appended}
use Rattle.clif_cursor.proofs.cursor.FuncCursorInstBuilderBase.build.Goals as goal

pub returns : goal.returns
returns c =
    let done = c.insert_inst.ensures in
    record {
      built =
          builds_appended c.args.self.now _ c.args.shape c.args.ctrl_type c.insert_inst.result c.requires.current (record { func = refl; block = refl; srcloc = refl })
          done.ok done.number done.err done.full done.never_failed;
    }
