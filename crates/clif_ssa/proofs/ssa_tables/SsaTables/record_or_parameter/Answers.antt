use Rattle.std.proofs.lemmas.Result.{err_from_is_err_and}
use Rattle.clif_ssa.proofs.Steps.{ends_memory, ends_ok, keeps_none}
use Rattle.clif_ssa.proofs.CountedSteps.{stops_memory}
use Rattle.clif_ssa.proofs.ssa_tables.SsaTables.record_or_parameter.Goals as goal

pub returns-in_err-push_result-clause-got : goal.returns-in_err-push_result-clause-got
returns-in_err-push_result-clause-got c =
    let p = err_from_is_err_and c.from_residual.result c.from_residual.ensures.1 in
    rw p.1 tt

pub returns-in_err-push_result-clause-tells : goal.returns-in_err-push_result-clause-tells
returns-in_err-push_result-clause-tells c =
    let p = err_from_is_err_and c.from_residual.result c.from_residual.ensures.1 in
    rw p.1 tt

pub returns-in_err-push_result-clause-keeps : goal.returns-in_err-push_result-clause-keeps
returns-in_err-push_result-clause-keeps c =
    keeps_none c.args.variable c.args.func.now c.args.self.now

pub returns-in_err-push_result-clause-ends : goal.returns-in_err-push_result-clause-ends
returns-in_err-push_result-clause-ends c =
    let p = err_from_is_err_and c.from_residual.result c.from_residual.ensures.1 in
    rw (p.1, p.2)
    (ends_memory c.args.func.now c.in_err-push_result.field-0.0 c.in_err-push_result.ensures.only_memory)

pub returns-in-Some-clause-keeps : goal.returns-in-Some-clause-keeps
returns-in-Some-clause-keeps c =
    keeps_none c.args.variable c.args.func.now c.args.self.now

pub returns-in-Some-clause-ends : goal.returns-in-Some-clause-ends
returns-in-Some-clause-ends c =
    ends_ok c.args.func.now _

pub returns-clause-got : goal.returns-clause-got
returns-clause-got c =
    c.add_parameter.ensures.got

pub returns-clause-keeps : goal.returns-clause-keeps
returns-clause-keeps c =
    c.add_parameter.ensures.keeps

pub returns-clause-tells : goal.returns-clause-tells
returns-clause-tells c =
    c.add_parameter.ensures.tells

pub returns-clause-ends : goal.returns-clause-ends
returns-clause-ends c =
    c.add_parameter.ensures.ends

-- WHERE IT STOPS --------------------------------------------------------------------------------------------------

pub returns-in_err-push_result-clause-stops : goal.returns-in_err-push_result-clause-stops
returns-in_err-push_result-clause-stops c =
    let p = err_from_is_err_and c.from_residual.result c.from_residual.ensures.1 in
    rw (p.1, p.2) (stops_memory c.in_err-push_result.field-0.0 c.in_err-push_result.ensures.only_memory)

pub returns-clause-stops : goal.returns-clause-stops
returns-clause-stops c = c.add_parameter.ensures.stops
