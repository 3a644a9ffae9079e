use Rattle.std.proofs.Common.{◌∙◌, ◌+◌, ap, sym}
use Rattle.std.proofs.lemmas.Result.{err_from_is_err_and}
use Rattle.clif_records.specs.Stacks.{LookUpState}
use Rattle.clif_records.specs.Tables.{is_yes, sealed_at}
use Rattle.clif_ssa.proofs.LocalSteps.{param_tells}
use Rattle.clif_ssa.proofs.Opened.{blocks_are, no_more_known, predecessors_same, records_are, sealed_same, tracking_is, waits_in}
use Rattle.clif_ssa.proofs.Steps.{ends_as, ends_memory, ends_ok, got_begun, got_waiting, keeps_begun, keeps_not_waiting, keeps_waits}
use Rattle.clif_ssa.proofs.CountedSteps.{stops_as, stops_memory}
use Rattle.clif_ssa.proofs.ssa_tables.SsaTables.add_parameter.Goals as goal

-- NO PARAMETER IS MADE --------------------------------------------------------------------------------------------

pub returns-in_err-param-clause-got : goal.returns-in_err-param-clause-got
returns-in_err-param-clause-got c =
    let p = err_from_is_err_and c.from_residual.result c.from_residual.ensures.1 in
    rw p.1 tt

pub returns-in_err-param-clause-tells : goal.returns-in_err-param-clause-tells
returns-in_err-param-clause-tells c =
    let p = err_from_is_err_and c.from_residual.result c.from_residual.ensures.1 in
    rw p.1 tt

pub returns-in_err-param-clause-keeps : goal.returns-in_err-param-clause-keeps
returns-in_err-param-clause-keeps c =
    c.new_parameter.ensures.keeps

pub returns-in_err-param-clause-ends : goal.returns-in_err-param-clause-ends
returns-in_err-param-clause-ends c =
    let p = err_from_is_err_and c.from_residual.result c.from_residual.ensures.1 in
    rw (p.1, p.2)
    (ends_as c.new_parameter.new.func c.in_err-param.field-0.0 c.in_err-param.ensures.ends)

-- THE BLOCK IS SEALED ---------------------------------------------------------------------------------------------

pub returns-in_err-begin_look_up-clause-got : goal.returns-in_err-begin_look_up-clause-got
returns-in_err-begin_look_up-clause-got c =
    let p = err_from_is_err_and c.from_residual-in_err-begin_look_up.result c.from_residual-in_err-begin_look_up.ensures.1 in
    rw p.1 tt

pub returns-in_err-begin_look_up-clause-tells : goal.returns-in_err-begin_look_up-clause-tells
returns-in_err-begin_look_up-clause-tells c =
    let p = err_from_is_err_and c.from_residual-in_err-begin_look_up.result c.from_residual-in_err-begin_look_up.ensures.1 in
    rw p.1 tt

pub returns-in_err-begin_look_up-clause-keeps : goal.returns-in_err-begin_look_up-clause-keeps
returns-in_err-begin_look_up-clause-keeps c =
    keeps_begun c.args.variable c.args.func.now c.new_parameter.new.func c.args.self.now c.new_parameter.new.self c.begin_look_up.new.self c.args.block c.args.ty c.requires.exists c.requires.unrecorded (ap (λ known. is_yes (sealed_at known c.args.block)) (sym (blocks_are _ _ _ _ c.self.view_is ∙ c.new_parameter.ensures.blocks)) ∙ sym c.if-is_sealed.ensures) c.in_ok-param.ensures.function c.in_ok-param.ensures.records c.new_parameter.ensures.blocks c.new_parameter.ensures.lookups c.begin_look_up.ensures.records c.begin_look_up.ensures.blocks c.begin_look_up.ensures.counts

pub returns-in_err-begin_look_up-clause-ends : goal.returns-in_err-begin_look_up-clause-ends
returns-in_err-begin_look_up-clause-ends c =
    let p = err_from_is_err_and c.from_residual-in_err-begin_look_up.result c.from_residual-in_err-begin_look_up.ensures.1 in
    rw (p.1, p.2)
    (ends_memory c.new_parameter.new.func c.in_err-begin_look_up.field-0.0 c.in_err-begin_look_up.ensures.only_memory)

pub returns-then-is_sealed-clause-got : goal.returns-then-is_sealed-clause-got
returns-then-is_sealed-clause-got c =
    got_begun c.args.variable c.args.ty c.args.block c.in_ok-param.param c.args.func.now c.new_parameter.new.func c.args.self.now c.new_parameter.new.self c.begin_look_up.new.self c.args.look_up.now c.begin_look_up.new.look_up c.requires.unrecorded (ap (λ known. is_yes (sealed_at known c.args.block)) (sym (blocks_are _ _ _ _ c.self.view_is ∙ c.new_parameter.ensures.blocks)) ∙ sym c.if-is_sealed.ensures) c.in_ok-param.ensures.number c.in_ok-param.ensures.function c.in_ok-param.ensures.records c.in_ok-param.ensures.tracking
    c.new_parameter.ensures.blocks c.new_parameter.ensures.lookups c.begin_look_up.ensures.records c.begin_look_up.ensures.blocks c.begin_look_up.ensures.tracking c.in_ok-begin_look_up.ensures.counted c.in_ok-begin_look_up.ensures.look_up

pub returns-then-is_sealed-clause-keeps : goal.returns-then-is_sealed-clause-keeps
returns-then-is_sealed-clause-keeps c =
    keeps_begun c.args.variable c.args.func.now c.new_parameter.new.func c.args.self.now c.new_parameter.new.self c.begin_look_up.new.self c.args.block c.args.ty c.requires.exists c.requires.unrecorded (ap (λ known. is_yes (sealed_at known c.args.block)) (sym (blocks_are _ _ _ _ c.self.view_is ∙ c.new_parameter.ensures.blocks)) ∙ sym c.if-is_sealed.ensures) c.in_ok-param.ensures.function c.in_ok-param.ensures.records c.new_parameter.ensures.blocks c.new_parameter.ensures.lookups c.begin_look_up.ensures.records c.begin_look_up.ensures.blocks c.begin_look_up.ensures.counts

pub returns-then-is_sealed-clause-tells : goal.returns-then-is_sealed-clause-tells
returns-then-is_sealed-clause-tells c =
    param_tells c.args.func.now c.new_parameter.new.func c.args.block c.args.ty c.args.look_up.now c.begin_look_up.new.look_up c.in_ok-param.ensures.function (ap (λ (l : LookUpState). l.zeros) c.in_ok-begin_look_up.ensures.look_up)

pub returns-then-is_sealed-clause-ends : goal.returns-then-is_sealed-clause-ends
returns-then-is_sealed-clause-ends c =
    ends_ok c.new_parameter.new.func _

-- THE BLOCK IS UNSEALED -------------------------------------------------------------------------------------------

pub returns-in_err-push_result-clause-got : goal.returns-in_err-push_result-clause-got
returns-in_err-push_result-clause-got c =
    let p = err_from_is_err_and c.from_residual-in_err-push_result.result c.from_residual-in_err-push_result.ensures.1 in
    rw p.1 tt

pub returns-in_err-push_result-clause-tells : goal.returns-in_err-push_result-clause-tells
returns-in_err-push_result-clause-tells c =
    let p = err_from_is_err_and c.from_residual-in_err-push_result.result c.from_residual-in_err-push_result.ensures.1 in
    rw p.1 tt

pub returns-in_err-push_result-clause-keeps : goal.returns-in_err-push_result-clause-keeps
returns-in_err-push_result-clause-keeps c =
    c.new_parameter.ensures.keeps

pub returns-in_err-push_result-clause-ends : goal.returns-in_err-push_result-clause-ends
returns-in_err-push_result-clause-ends c =
    let p = err_from_is_err_and c.from_residual-in_err-push_result.result c.from_residual-in_err-push_result.ensures.1 in
    rw (p.1, p.2)
    (ends_memory c.new_parameter.new.func c.in_err-push_result.field-0.0 c.in_err-push_result.ensures.only_memory)

pub returns-in_err-wait-clause-got : goal.returns-in_err-wait-clause-got
returns-in_err-wait-clause-got c =
    let p = err_from_is_err_and c.from_residual-in_err-wait.result c.from_residual-in_err-wait.ensures.1 in
    rw p.1 tt

pub returns-in_err-wait-clause-tells : goal.returns-in_err-wait-clause-tells
returns-in_err-wait-clause-tells c =
    let p = err_from_is_err_and c.from_residual-in_err-wait.result c.from_residual-in_err-wait.ensures.1 in
    rw p.1 tt

pub returns-in_err-wait-clause-keeps : goal.returns-in_err-wait-clause-keeps
returns-in_err-wait-clause-keeps c =
    keeps_not_waiting c.args.variable c.args.func.now c.new_parameter.new.func c.args.self.now c.new_parameter.new.self _ c.args.block c.requires.exists c.new_parameter.ensures.keeps (records_are _ _ _ _ c.self.view_is) (sealed_same _ _ _ _ c.self.view_is c.wait.new.self c.in_err-wait.ensures.err) (predecessors_same _ _ _ _ c.self.view_is c.wait.new.self c.wait.ensures.predecessors) (no_more_known _ _ _ _ c.self.view_is c.wait.new.self (c.args.block + 1) c.wait.ensures.no_more)

pub returns-in_err-wait-clause-ends : goal.returns-in_err-wait-clause-ends
returns-in_err-wait-clause-ends c =
    let p = err_from_is_err_and c.from_residual-in_err-wait.result c.from_residual-in_err-wait.ensures.1 in
    rw (p.1, p.2)
    (ends_memory c.new_parameter.new.func c.in_err-wait.field-0.0 c.in_err-wait.ensures.only_memory)

pub returns-clause-got : goal.returns-clause-got
returns-clause-got c =
    got_waiting c.args.variable c.args.ty c.args.block c.in_ok-param.param c.args.func.now c.new_parameter.new.func c.args.self.now c.new_parameter.new.self _ c.args.look_up.now c.push_result.new.self c.requires.unrecorded (ap (λ known. is_yes (sealed_at known c.args.block)) (sym (blocks_are _ _ _ _ c.self.view_is ∙ c.new_parameter.ensures.blocks)) ∙ sym c.if-is_sealed.ensures) c.in_ok-param.ensures.number c.in_ok-param.ensures.function c.in_ok-param.ensures.records c.in_ok-param.ensures.tracking
    c.new_parameter.ensures.blocks c.new_parameter.ensures.lookups (records_are _ _ _ _ c.self.view_is) (tracking_is _ _ _ _ c.self.view_is) (waits_in _ _ _ _ c.self.view_is c.wait.new.self c.args.variable c.args.block c.in_ok-param.param c.in_ok-wait.ensures.ok) (predecessors_same _ _ _ _ c.self.view_is c.wait.new.self c.wait.ensures.predecessors) c.in_ok-push_result.ensures.ok

pub returns-clause-keeps : goal.returns-clause-keeps
returns-clause-keeps c =
    keeps_waits c.args.variable c.args.func.now c.new_parameter.new.func c.args.self.now c.new_parameter.new.self _ c.args.block c.in_ok-param.param c.args.ty c.requires.exists c.requires.unrecorded (ap (λ known. is_yes (sealed_at known c.args.block)) (sym (blocks_are _ _ _ _ c.self.view_is ∙ c.new_parameter.ensures.blocks)) ∙ sym c.if-is_sealed.ensures) c.in_ok-param.ensures.number c.in_ok-param.ensures.function c.in_ok-param.ensures.records c.new_parameter.ensures.blocks c.new_parameter.ensures.lookups
    (records_are _ _ _ _ c.self.view_is) (waits_in _ _ _ _ c.self.view_is c.wait.new.self c.args.variable c.args.block c.in_ok-param.param c.in_ok-wait.ensures.ok) (predecessors_same _ _ _ _ c.self.view_is c.wait.new.self c.wait.ensures.predecessors) (no_more_known _ _ _ _ c.self.view_is c.wait.new.self (c.args.block + 1) c.wait.ensures.no_more)

pub returns-clause-tells : goal.returns-clause-tells
returns-clause-tells c =
    param_tells c.args.func.now c.new_parameter.new.func c.args.block c.args.ty c.args.look_up.now c.push_result.new.self c.in_ok-param.ensures.function (ap (λ (l : LookUpState). l.zeros) c.in_ok-push_result.ensures.ok)

pub returns-clause-ends : goal.returns-clause-ends
returns-clause-ends c =
    ends_ok c.new_parameter.new.func _

-- WHERE IT STOPS --------------------------------------------------------------------------------------------------

pub returns-in_err-param-clause-stops : goal.returns-in_err-param-clause-stops
returns-in_err-param-clause-stops c =
    let p = err_from_is_err_and c.from_residual.result c.from_residual.ensures.1 in
    rw (p.1, p.2) (stops_as c.in_err-param.field-0.0 c.in_err-param.ensures.stops)

pub returns-in_err-begin_look_up-clause-stops : goal.returns-in_err-begin_look_up-clause-stops
returns-in_err-begin_look_up-clause-stops c =
    let p = err_from_is_err_and c.from_residual-in_err-begin_look_up.result c.from_residual-in_err-begin_look_up.ensures.1 in
    rw (p.1, p.2) (stops_memory c.in_err-begin_look_up.field-0.0 c.in_err-begin_look_up.ensures.only_memory)

pub returns-in_err-push_result-clause-stops : goal.returns-in_err-push_result-clause-stops
returns-in_err-push_result-clause-stops c =
    let p = err_from_is_err_and c.from_residual-in_err-push_result.result c.from_residual-in_err-push_result.ensures.1 in
    rw (p.1, p.2) (stops_memory c.in_err-push_result.field-0.0 c.in_err-push_result.ensures.only_memory)

pub returns-in_err-wait-clause-stops : goal.returns-in_err-wait-clause-stops
returns-in_err-wait-clause-stops c =
    let p = err_from_is_err_and c.from_residual-in_err-wait.result c.from_residual-in_err-wait.ensures.1 in
    rw (p.1, p.2) (stops_memory c.in_err-wait.field-0.0 c.in_err-wait.ensures.only_memory)
