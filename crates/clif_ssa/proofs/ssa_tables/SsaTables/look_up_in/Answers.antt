use Rattle.std.proofs.lemmas.Result.{err_from_is_err_and}
use Rattle.clif_ssa.specs.Running.{stage}
use Rattle.clif_ssa.proofs.Making.{got-exists}
use Rattle.clif_ssa.proofs.LookSteps.{ends_copied, keeps_looked, looked_copied}
use Rattle.clif_ssa.proofs.Opened.{blocks_are, copied_none_lost, copied_others, copied_recorded, copies_to, lookups_same, state_of, tracking_is}
use Rattle.clif_ssa.proofs.Steps.{ends_as, ends_memory, keeps_none}
use Rattle.clif_ssa.proofs.Waited.{on_any}
use Rattle.clif_ssa.proofs.CountedSteps.{stops_as, stops_memory, stops_only_memory}
use Rattle.clif_ssa.proofs.ssa_tables.SsaTables.look_up_in.Goals as goal

pub returns-in_err-reached-clause-looks : goal.returns-in_err-reached-clause-looks
returns-in_err-reached-clause-looks c =
    let p = err_from_is_err_and c.from_residual.result c.from_residual.ensures.1 in
    rw p.1 tt

pub returns-in_err-reached-clause-tells : goal.returns-in_err-reached-clause-tells
returns-in_err-reached-clause-tells c =
    let p = err_from_is_err_and c.from_residual.result c.from_residual.ensures.1 in
    rw p.1 tt

pub returns-in_err-reached-clause-keeps : goal.returns-in_err-reached-clause-keeps
returns-in_err-reached-clause-keeps c =
    (keeps_none c.args.variable c.args.func.now c.args.self.now)

pub returns-in_err-reached-clause-ends : goal.returns-in_err-reached-clause-ends
returns-in_err-reached-clause-ends c =
    let p = err_from_is_err_and c.from_residual.result c.from_residual.ensures.1 in
    rw (p.1, p.2)
    ((ends_memory c.args.func.now c.in_err-reached.field-0.0 c.in_err-reached.ensures.only_memory))

pub returns-in_err-value-clause-looks : goal.returns-in_err-value-clause-looks
returns-in_err-value-clause-looks c =
    let p = err_from_is_err_and c.from_residual-in_err-value.result c.from_residual-in_err-value.ensures.1 in
    rw p.1 tt

pub returns-in_err-value-clause-tells : goal.returns-in_err-value-clause-tells
returns-in_err-value-clause-tells c =
    let p = err_from_is_err_and c.from_residual-in_err-value.result c.from_residual-in_err-value.ensures.1 in
    rw p.1 tt

pub returns-in_err-value-clause-keeps : goal.returns-in_err-value-clause-keeps
returns-in_err-value-clause-keeps c =
    c.record_or_parameter.ensures.keeps

pub returns-in_err-value-clause-ends : goal.returns-in_err-value-clause-ends
returns-in_err-value-clause-ends c =
    let p = err_from_is_err_and c.from_residual-in_err-value.result c.from_residual-in_err-value.ensures.1 in
    rw (p.1, p.2)
    ((ends_as c.record_or_parameter.new.func c.in_err-value.field-0.0 c.in_err-value.ensures.ends))

pub returns-clause-looks : goal.returns-clause-looks
returns-clause-looks c =
    (looked_copied c.args.variable c.args.ty c.args.block c.walk.new.passed c.in_ok-reached.reached.block c.in_ok-value.value (stage c.args.func.now c.args.self.now c.args.look_up.now) (stage c.record_or_parameter.new.func c.record_or_parameter.new.self c.record_or_parameter.new.look_up) (state_of c.set_each.new.self c.self.inside.blocks c.self.inside.tracking) c.set_each.result c.in_ok-reached.ensures.ok c.in_ok-reached.ensures.exists
    c.in_ok-value.ensures.got (copies_to _ _ _ _ c.self.view_is c.set_each.new.self c.args.variable c.in_ok-value.value c.in_ok-reached.reached.block c.walk.new.passed c.as_slice.result.now c.set_each.result c.as_slice.ensures c.set_each.ensures.ok) (blocks_are _ _ _ _ c.self.view_is) (lookups_same _ _ _ _ c.self.view_is c.set_each.new.self c.set_each.ensures.lookups) (tracking_is _ _ _ _ c.self.view_is))

pub returns-clause-keeps : goal.returns-clause-keeps
returns-clause-keeps c =
    (keeps_looked c.args.variable c.args.func.now c.args.self.now c.record_or_parameter.new.func c.record_or_parameter.new.self (state_of c.set_each.new.self c.self.inside.blocks c.self.inside.tracking) c.args.block c.in_ok-reached.reached.block c.in_ok-value.value c.walk.new.passed c.law_consistent.ensures c.requires.named c.requires.exists c.in_ok-reached.ensures.ok.walk
    (got-exists c.args.variable c.args.ty c.in_ok-reached.reached.block c.in_ok-value.value (stage c.args.func.now c.args.self.now c.args.look_up.now) (stage c.record_or_parameter.new.func c.record_or_parameter.new.self c.record_or_parameter.new.look_up) c.in_ok-value.ensures.got c.requires.named)
    c.record_or_parameter.ensures.keeps (blocks_are _ _ _ _ c.self.view_is) (lookups_same _ _ _ _ c.self.view_is c.set_each.new.self c.set_each.ensures.lookups) (copied_recorded _ _ _ _ c.self.view_is c.set_each.new.self c.args.variable c.in_ok-value.value c.as_slice.result.now c.set_each.ensures.part) (copied_others _ _ _ _ c.self.view_is c.set_each.new.self c.args.variable c.in_ok-value.value c.walk.new.passed c.as_slice.result.now c.as_slice.ensures c.set_each.ensures.part) (copied_none_lost _ _ _ _ c.self.view_is c.set_each.new.self c.args.variable c.in_ok-value.value c.as_slice.result.now c.set_each.ensures.part))

pub returns-clause-tells : goal.returns-clause-tells
returns-clause-tells c =
    on_any c.set_each.result c.in_ok-value.ensures.tells

pub returns-clause-ends : goal.returns-clause-ends
returns-clause-ends c =
    (ends_copied c.record_or_parameter.new.func c.set_each.result c.set_each.ensures.only_memory)

-- WHERE IT STOPS --------------------------------------------------------------------------------------------------

pub returns-in_err-reached-clause-stops : goal.returns-in_err-reached-clause-stops
returns-in_err-reached-clause-stops c =
    let p = err_from_is_err_and c.from_residual.result c.from_residual.ensures.1 in
    rw (p.1, p.2) (stops_memory c.in_err-reached.field-0.0 c.in_err-reached.ensures.only_memory)

pub returns-in_err-value-clause-stops : goal.returns-in_err-value-clause-stops
returns-in_err-value-clause-stops c =
    let p = err_from_is_err_and c.from_residual-in_err-value.result c.from_residual-in_err-value.ensures.1 in
    rw (p.1, p.2) (stops_as c.in_err-value.field-0.0 c.in_err-value.ensures.stops)

pub returns-clause-stops : goal.returns-clause-stops
returns-clause-stops c = stops_only_memory 0 _ _ _ _ c.set_each.result c.set_each.ensures.only_memory
