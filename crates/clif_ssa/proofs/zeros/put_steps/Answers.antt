use Rattle.std.proofs.Common.{arith, sym, subst, ◌^◌, ◌<◌, ◌≤◌, ◌+◌, ◌-◌, length}
use Rattle.std.proofs.lemmas.Result.{err_from_is_err_and}
use Rattle.clif_ssa.specs.Limits.{IsFull}
use Rattle.clif_ssa.specs.Zeros.{zero_steps}
use Rattle.clif_ssa.proofs.PuttingSteps.{row_some, row_none, all_put, place_small, place_stands, step_edges, step_entries, step_fits, full_before, step_contexts, step_full, step_more, step_operands}
use Rattle.clif_ssa.proofs.zeros.put_steps.Goals as goal

pub insert_inst-requires-clause-place_exists : goal.insert_inst-requires-clause-place_exists
insert_inst-requires-clause-place_exists c =
    place_stands c.args.func.now c.loop-shape.func c.args.block c.args.ty c.loop-shape.place c.loop-shape.invariant.1 c.requires.block_exists c.loop-shape.invariant.0

pub insert_inst-requires-clause-operands_exist : goal.insert_inst-requires-clause-operands_exist
insert_inst-requires-clause-operands_exist c =
    step_operands c.args.func.now c.loop-shape.func c.args.block c.args.ty c.loop-shape.place c.loop-shape.invariant.1 c.args.constant c.requires.pooled c.in-Some.shape c.in-Some.result
    (row_some _ _ _ _ _ _ _ _ c.zero_step.ensures c.in-Some.is c.latest_value.ensures)

pub insert_inst-requires-clause-edges_exist : goal.insert_inst-requires-clause-edges_exist
insert_inst-requires-clause-edges_exist c =
    step_edges c.args.func.now c.loop-shape.func c.args.block c.args.ty c.loop-shape.place c.loop-shape.invariant.1 c.args.constant c.requires.pooled c.in-Some.shape c.in-Some.result
    (row_some _ _ _ _ _ _ _ _ c.zero_step.ensures c.in-Some.is c.latest_value.ensures)

pub insert_inst-requires-clause-contexts_exist : goal.insert_inst-requires-clause-contexts_exist
insert_inst-requires-clause-contexts_exist c =
    step_contexts c.args.func.now c.loop-shape.func c.args.block c.args.ty c.loop-shape.place c.loop-shape.invariant.1 c.args.constant c.requires.pooled c.in-Some.shape c.in-Some.result
    (row_some _ _ _ _ _ _ _ _ c.zero_step.ensures c.in-Some.is c.latest_value.ensures)

pub insert_inst-requires-clause-entries_exist : goal.insert_inst-requires-clause-entries_exist
insert_inst-requires-clause-entries_exist c =
    step_entries c.args.func.now c.loop-shape.func c.args.block c.args.ty c.loop-shape.place c.loop-shape.invariant.1 c.args.constant c.requires.pooled c.in-Some.shape c.in-Some.result
    (row_some _ _ _ _ _ _ _ _ c.zero_step.ensures c.in-Some.is c.latest_value.ensures)

pub overflow_add-place : goal.overflow_add-place
overflow_add-place c =
    let small : c.loop-shape.place < 2 ^ 32 =
    place_small c.args.func.now c.loop-shape.func c.args.block c.args.ty c.loop-shape.place c.loop-shape.invariant.1 c.loop-shape.invariant.0 c.law_consistent.ensures.insts_fit in
    omega (arith, small)

pub loop-shape-smaller : goal.loop-shape-smaller
loop-shape-smaller c =
    let fits : c.loop-shape.place + 1 ≤ length (zero_steps c.args.ty) =
    step_fits c.args.func.now c.loop-shape.func c.args.block c.args.ty c.loop-shape.place c.loop-shape.invariant.1 c.args.constant c.requires.pooled c.in-Some.shape c.in-Some.result
    (row_some _ _ _ _ _ _ _ _ c.zero_step.ensures c.in-Some.is c.latest_value.ensures) in
    let less : length (zero_steps c.args.ty) - (c.loop-shape.place + 1) < length (zero_steps c.args.ty) - c.loop-shape.place = omega (arith, fits) in
    less

pub loop-shape-preserved : goal.loop-shape-preserved
loop-shape-preserved c =
    step_more c.args.func.now c.loop-shape.func c.args.block c.args.ty c.loop-shape.place c.loop-shape.invariant.1 c.args.constant c.requires.pooled c.in-Some.shape c.in-Some.result
    (row_some _ _ _ _ _ _ _ _ c.zero_step.ensures c.in-Some.is c.latest_value.ensures)
    c.new.result c.insert_inst.new.self c.requires.block_exists c.new.ensures c.in_ok-insert_inst.ensures.ok

pub returns-clause-ok : goal.returns-clause-ok
returns-clause-ok c =
    all_put c.args.func.now c.loop-shape.func c.args.block c.args.ty c.loop-shape.place c.loop-shape.invariant.1 c.loop-shape.invariant.0
    (row_none c.args.ty c.loop-shape.place c.args.constant c.latest_value.result c.zero_step.result c.zero_step.ensures (λ shape t is. c.in_default.not-Some (shape, t) is))

pub returns-in_err-insert_inst-clause-full : goal.returns-in_err-insert_inst-clause-full
returns-in_err-insert_inst-clause-full c = λ is.
    let p = err_from_is_err_and c.from_residual.result c.from_residual.ensures.1 in
    subst IsFull (sym c.in_err-insert_inst.ensures.err)
    (step_full c.args.func.now c.loop-shape.func c.args.block c.args.ty c.loop-shape.place c.loop-shape.invariant.1 c.args.constant c.requires.pooled c.in-Some.shape c.in-Some.result
    (row_some _ _ _ _ _ _ _ _ c.zero_step.ensures c.in-Some.is c.latest_value.ensures) c.law_consistent.ensures.values_fit
    (c.in_err-insert_inst.ensures.full (full_before c.from_residual.result c.in_err-insert_inst.field-0.0 p.0 is p.1 p.2)))
