use Rattle.std.proofs.Common.{◌≡◌, ap, length, refl, subst}
use Rattle.std.proofs.lemmas.Result.{err_from_is_err_and}
use Rattle.clif_ssa.specs.Ssa.{Records}
use Rattle.clif_records.specs.Tables.{sealed_at, predecessors_at}
use Rattle.clif_records.specs.Tracking.{with_binding}
use Rattle.clif_ssa.proofs.CountedOnce.{once_recorded}
use Rattle.clif_ssa.proofs.Steps.{ends_memory, ends_ok, ends_unmade, keeps_same, keeps_recorded, keeps_unrecorded, known_same}
use Rattle.clif_ssa.proofs.CountedSteps.{stops_memory, stops_unmade}
use Rattle.clif_ssa.proofs.ssa_tables.SsaTables.new_parameter.Goals as goal

pub returns-in_err-param-clause-keeps : goal.returns-in_err-param-clause-keeps
returns-in_err-param-clause-keeps c = keeps_same c.args.variable c.args.func.now c.append_block_param.new.self c.args.self.now c.in_err-param.ensures.err

pub returns-in_err-param-clause-ends : goal.returns-in_err-param-clause-ends
returns-in_err-param-clause-ends c =
    let p = err_from_is_err_and c.from_residual.result c.from_residual.ensures.1 in
    rw (p.1, p.2)
    (ends_unmade c.args.ty c.args.func.now c.append_block_param.new.self c.in_err-param.field-0.0 c.in_err-param.ensures.err c.in_err-param.ensures.full c.in_err-param.ensures.never_failed)

pub returns-in_err-record-clause-keeps : goal.returns-in_err-record-clause-keeps
returns-in_err-record-clause-keeps c =
    keeps_unrecorded c.args.variable c.args.func.now c.append_block_param.new.self c.args.self.now c.record.new.self c.args.block c.args.ty c.in_ok-param.ensures.ok
    c.in_err-record.ensures.err (λ b. ap (λ blocks. sealed_at blocks b) c.record.ensures.blocks) c.record.ensures.lookups
    (λ b. ap (λ blocks. predecessors_at blocks b) c.record.ensures.blocks) (known_same c.args.self.now c.record.new.self (length c.args.func.now.blocks) c.record.ensures.blocks)

pub returns-in_err-record-clause-ends : goal.returns-in_err-record-clause-ends
returns-in_err-record-clause-ends c =
    let p = err_from_is_err_and c.from_residual-in_err-record.result c.from_residual-in_err-record.ensures.1 in
    rw (p.1, p.2)
    (ends_memory c.append_block_param.new.self c.in_err-record.field-0.0 c.in_err-record.ensures.only_memory)

pub returns-clause-keeps : goal.returns-clause-keeps
returns-clause-keeps c =
    let recorded : Records c.args.self.now c.record.new.self c.args.variable c.args.block (length c.args.func.now.values) =
    subst (λ v. Records c.args.self.now c.record.new.self c.args.variable c.args.block v) c.in_ok-param.ensures.number c.in_ok-record.ensures.ok in
    keeps_recorded c.args.variable c.args.func.now c.append_block_param.new.self c.args.self.now c.record.new.self c.args.block c.args.ty c.requires.exists c.requires.unrecorded
    c.in_ok-param.ensures.ok recorded (λ b. ap (λ blocks. sealed_at blocks b) c.record.ensures.blocks)
    (λ b. ap (λ blocks. predecessors_at blocks b) c.record.ensures.blocks) (known_same c.args.self.now c.record.new.self (length c.args.func.now.blocks) c.record.ensures.blocks)
    (once_recorded c.args.self.now c.record.new.self c.args.variable c.args.block (length c.args.func.now.values) recorded c.record.ensures.lookups
    (λ b. ap (λ blocks. sealed_at blocks b) c.record.ensures.blocks))

pub returns-clause-ends : goal.returns-clause-ends
returns-clause-ends c =
    ends_ok c.append_block_param.new.self c.in_ok-param.param

-- THE REST --------------------------------------------------------------------------------------------------------

pub returns-in_err-param-clause-blocks : goal.returns-in_err-param-clause-blocks
returns-in_err-param-clause-blocks c = refl

pub returns-in_err-param-clause-lookups : goal.returns-in_err-param-clause-lookups
returns-in_err-param-clause-lookups c = λ y b. refl

pub returns-in_err-record-clause-blocks : goal.returns-in_err-record-clause-blocks
returns-in_err-record-clause-blocks c = c.record.ensures.blocks

pub returns-in_err-record-clause-lookups : goal.returns-in_err-record-clause-lookups
returns-in_err-record-clause-lookups c = c.record.ensures.lookups

pub returns-clause-records : goal.returns-clause-records
returns-clause-records c =
    subst (λ v. Records c.args.self.now c.record.new.self c.args.variable c.args.block v) c.in_ok-param.ensures.number c.in_ok-record.ensures.ok

pub returns-clause-tracking : goal.returns-clause-tracking
returns-clause-tracking c =
    subst (λ v. c.record.new.self.tracking ≡ with_binding c.args.self.now.tracking c.args.variable v) c.in_ok-param.ensures.number c.in_ok-record.ensures.tracking

pub returns-clause-blocks : goal.returns-clause-blocks
returns-clause-blocks c = c.record.ensures.blocks

pub returns-clause-lookups : goal.returns-clause-lookups
returns-clause-lookups c = c.record.ensures.lookups

-- WHERE IT STOPS --------------------------------------------------------------------------------------------------

pub returns-in_err-param-clause-stops : goal.returns-in_err-param-clause-stops
returns-in_err-param-clause-stops c =
    let p = err_from_is_err_and c.from_residual.result c.from_residual.ensures.1 in
    rw (p.1, p.2) (stops_unmade c.args.func.now c.append_block_param.new.self c.args.self.now c.in_err-param.field-0.0 c.in_err-param.ensures.err)

pub returns-in_err-record-clause-stops : goal.returns-in_err-record-clause-stops
returns-in_err-record-clause-stops c =
    let p = err_from_is_err_and c.from_residual-in_err-record.result c.from_residual-in_err-record.ensures.1 in
    rw (p.1, p.2) (stops_memory c.in_err-record.field-0.0 c.in_err-record.ensures.only_memory)
