use Rattle.std.proofs.Common.{◌≡◌, subst}
use Rattle.std.specs.Prelude.{OnOk}
use Rattle.clif_tables.specs.Callees.{types_of_results}
use Rattle.clif_ir.specs.Body.{Body, block_at}
use Rattle.clif_ir.proofs.Rows.{before-stands_at, with_inst-behind}
use Rattle.clif_ir.proofs.function.Function.insert_inst.Goals as goal

pub insert_inst_behind-requires-clause-previous_stands : goal.insert_inst_behind-requires-clause-previous_stands
insert_inst_behind-requires-clause-previous_stands c =
    before-stands_at (block_at c.args.self.now c.args.block).insts c.args.at c.inst_before_place-previous.result c.requires.place_exists c.inst_before_place-previous.ensures

pub returns-clause-ok : goal.returns-clause-ok
returns-clause-ok c =
    subst (λ (f : Body). OnOk c.insert_inst_behind.result (c.insert_inst_behind.new.self ≡ f))
    (with_inst-behind c.args.self.now c.args.block c.args.at c.inst_before_place-previous.result c.args.shape (types_of_results c.args.self.now.tables c.args.shape c.args.ctrl_type) c.args.srcloc
    c.law_consistent.ensures c.requires.place_exists c.inst_before_place-previous.ensures)
    c.insert_inst_behind.ensures.ok
