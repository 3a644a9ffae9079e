use Rattle.std.proofs.Common.{◌∙◌, ℕ, List, length, ap, sym}
use Rattle.clif_ir.specs.Body.{block_at}
use Rattle.clif_ir.specs.Whole.{count_before, entry_before}
use Rattle.clif_ir.proofs.Rows.{before-back}
use Rattle.clif_ir.proofs.function.Function.inst_before_place.Goals as goal

pub returns-in-Back : goal.returns-in-Back
returns-in-Back c =
    let insts : List ℕ = (block_at c.args.self.now c.args.block).insts in
    c.last_inst.ensures.exact ∙ before-back insts ∙ ap (λ at. entry_before insts (count_before at (length insts))) (sym c.in-Back.is)
