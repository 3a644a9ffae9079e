use Rattle.std.proofs.lemmas.Result.{err_from_is_err_and}
use Rattle.clif_ssa.proofs.CountedSteps.{counts_memory}
use Rattle.clif_builder.proofs.Counted.{step_inserted}
use Rattle.clif_builder.proofs.Used.{is_use_in, used_in}
use Rattle.clif_builder.proofs.frontend.use_variable.Goals as goal

pub returns-clause-uses : goal.returns-clause-uses
returns-clause-uses c =
    let begun = c.in_ok-begin_block.ensures in
    let used = c.use_var.ensures in
    used_in c.args.func.now c.begin_block.new.func c.use_var.new.func c.args.ctx.now c.begin_block.new.ctx c.use_var.new.self
    c.args.variable c.args.ty c.args.block begun.function begun.ssa c.use_var.result used.known used.waits used.zero

pub returns-clause-is_use : goal.returns-clause-is_use
returns-clause-is_use c =
    let begun = c.in_ok-begin_block.ensures in
    is_use_in c.args.func.now c.begin_block.new.func c.use_var.new.func c.args.ctx.now c.begin_block.new.ctx c.use_var.new.self
    c.args.variable c.args.ty c.args.block begun.function begun.ssa c.use_var.result begun.status c.use_var.ensures.is_use

pub returns-clause-counts : goal.returns-clause-counts
returns-clause-counts c =
    let begun = c.in_ok-begin_block.ensures in
    step_inserted c.args.func.now c.begin_block.new.func c.args.block c.args.ctx.now.ssa c.begin_block.new.ctx.ssa c.use_var.new.self.ssa c.use_var.new.func c.use_var.result begun.function begun.ssa
    c.use_var.ensures.counts

pub returns-in_err-begin_block-clause-counts : goal.returns-in_err-begin_block-clause-counts
returns-in_err-begin_block-clause-counts c =
    let p = err_from_is_err_and c.from_residual.result c.from_residual.ensures.1 in
    rw (p.1, p.2) (counts_memory c.in_err-begin_block.field-0.0 c.in_err-begin_block.ensures.only_memory)
