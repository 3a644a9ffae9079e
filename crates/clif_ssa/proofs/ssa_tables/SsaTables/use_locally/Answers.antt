use Rattle.std.proofs.Common.{◌∙◌, ◌+◌, ap, arith, refl, sym, inl, inr, length}
use Rattle.std.proofs.lemmas.Result.{err_from_is_err_and}
use Rattle.clif_records.specs.Tables.{is_yes, sealed_at, record_at, lookups_at}
use Rattle.clif_ssa.proofs.CountedLooks.{waits_count, zero_counts}
use Rattle.clif_ssa.proofs.CountedSteps.{counts_any, counts_memory, counts_none, counts_stopped}
use Rattle.clif_ssa.proofs.LocalSteps.{counted_from, use_refused, use_waits, use_zeroes, waiting_from}
use Rattle.clif_ssa.proofs.Pooling.{zero_full, zero_pools}
use Rattle.clif_ssa.proofs.Opened.{blocks_are, counts_in, lookups_same, no_more_known, predecessors_same, records_are, records_same, sealed_same, state_of, tracking_is, waits_in}
use Rattle.clif_ssa.proofs.Steps.{ends_as, ends_grown, ends_memory, ends_ok, keeps_begun, keeps_grown, keeps_not_waiting, keeps_then, keeps_waits}
use Rattle.clif_ssa.proofs.ssa_tables.SsaTables.use_locally.Goals as goal

-- NO PARAMETER IS MADE --------------------------------------------------------------------------------------------

pub returns-in_err-param-clause-used : goal.returns-in_err-param-clause-used
returns-in_err-param-clause-used c =
    let p = err_from_is_err_and c.from_residual.result c.from_residual.ensures.1 in
    rw (p.1, p.2)
    (use_refused c.args.variable c.args.ty c.args.block c.args.func.now c.args.self.now c.new_parameter.new.func c.new_parameter.new.self c.in_err-param.field-0.0 (λ b. ap (λ known. sealed_at known b) c.new_parameter.ensures.blocks))

pub returns-in_err-param-clause-keeps : goal.returns-in_err-param-clause-keeps
returns-in_err-param-clause-keeps c =
    c.new_parameter.ensures.keeps

pub returns-in_err-param-clause-ends : goal.returns-in_err-param-clause-ends
returns-in_err-param-clause-ends c =
    let p = err_from_is_err_and c.from_residual.result c.from_residual.ensures.1 in
    rw (p.1, p.2)
    (ends_as c.new_parameter.new.func c.in_err-param.field-0.0 c.in_err-param.ensures.ends)

-- THE BLOCK IS SEALED ---------------------------------------------------------------------------------------------

pub returns-in_err-count_lookup-clause-used : goal.returns-in_err-count_lookup-clause-used
returns-in_err-count_lookup-clause-used c =
    let p = err_from_is_err_and c.from_residual-in_err-count_lookup.result c.from_residual-in_err-count_lookup.ensures.1 in
    rw (p.1, p.2)
    (use_refused c.args.variable c.args.ty c.args.block c.args.func.now c.args.self.now c.new_parameter.new.func (state_of c.count_lookup.new.self c.self.inside.blocks c.self.inside.tracking) c.in_err-count_lookup.field-0.0 (λ b. ap (λ known. sealed_at known b) ((blocks_are _ _ _ _ c.self.view_is) ∙ c.new_parameter.ensures.blocks)))

pub returns-in_err-count_lookup-clause-keeps : goal.returns-in_err-count_lookup-clause-keeps
returns-in_err-count_lookup-clause-keeps c =
    keeps_begun c.args.variable c.args.func.now c.new_parameter.new.func c.args.self.now c.new_parameter.new.self (state_of c.count_lookup.new.self c.self.inside.blocks c.self.inside.tracking) c.args.block c.args.ty c.requires.exists c.requires.unrecorded (ap (λ known. is_yes (sealed_at known c.args.block)) (sym (blocks_are _ _ _ _ c.self.view_is ∙ c.new_parameter.ensures.blocks)) ∙ sym c.if-is_sealed.ensures) c.in_ok-param.ensures.function c.in_ok-param.ensures.records c.new_parameter.ensures.blocks c.new_parameter.ensures.lookups (records_same _ _ _ _ c.self.view_is c.count_lookup.new.self c.count_lookup.ensures.records) (blocks_are _ _ _ _ c.self.view_is) (inl (lookups_same _ _ _ _ c.self.view_is c.count_lookup.new.self c.in_err-count_lookup.ensures.err))

pub returns-in_err-count_lookup-clause-ends : goal.returns-in_err-count_lookup-clause-ends
returns-in_err-count_lookup-clause-ends c =
    let p = err_from_is_err_and c.from_residual-in_err-count_lookup.result c.from_residual-in_err-count_lookup.ensures.1 in
    rw (p.1, p.2)
    (ends_memory c.new_parameter.new.func c.in_err-count_lookup.field-0.0 c.in_err-count_lookup.ensures.only_memory)

pub returns-in_err-zero-clause-used : goal.returns-in_err-zero-clause-used
returns-in_err-zero-clause-used c =
    let p = err_from_is_err_and c.from_residual-in_err-zero.result c.from_residual-in_err-zero.ensures.1 in
    rw (p.1, p.2)
    (use_refused c.args.variable c.args.ty c.args.block c.args.func.now c.args.self.now c.replace_by_zero.new.func (state_of c.count_lookup.new.self c.self.inside.blocks c.self.inside.tracking) c.in_err-zero.field-0.0 (λ b. ap (λ known. sealed_at known b) ((blocks_are _ _ _ _ c.self.view_is) ∙ c.new_parameter.ensures.blocks)))

pub returns-in_err-zero-clause-keeps : goal.returns-in_err-zero-clause-keeps
returns-in_err-zero-clause-keeps c =
    keeps_then c.args.variable c.args.func.now c.args.self.now c.new_parameter.new.func (state_of c.count_lookup.new.self c.self.inside.blocks c.self.inside.tracking) c.replace_by_zero.new.func (state_of c.count_lookup.new.self c.self.inside.blocks c.self.inside.tracking) (keeps_begun c.args.variable c.args.func.now c.new_parameter.new.func c.args.self.now c.new_parameter.new.self (state_of c.count_lookup.new.self c.self.inside.blocks c.self.inside.tracking) c.args.block c.args.ty c.requires.exists c.requires.unrecorded (ap (λ known. is_yes (sealed_at known c.args.block)) (sym (blocks_are _ _ _ _ c.self.view_is ∙ c.new_parameter.ensures.blocks)) ∙ sym c.if-is_sealed.ensures) c.in_ok-param.ensures.function c.in_ok-param.ensures.records c.new_parameter.ensures.blocks c.new_parameter.ensures.lookups (records_same _ _ _ _ c.self.view_is c.count_lookup.new.self c.count_lookup.ensures.records) (blocks_are _ _ _ _ c.self.view_is) (inr (counts_in _ _ _ _ c.self.view_is c.count_lookup.new.self c.args.variable c.args.block c.in_ok-count_lookup.ensures.ok)))
    (keeps_grown c.args.variable c.new_parameter.new.func c.replace_by_zero.new.func (state_of c.count_lookup.new.self c.self.inside.blocks c.self.inside.tracking) c.replace_by_zero.ensures.more c.replace_by_zero.ensures.constructs
    (zero_pools c.args.func.now c.new_parameter.new.func c.replace_by_zero.new.func c.args.block c.in_ok-param.param c.args.ty c.in_ok-param.ensures.function c.in_ok-param.ensures.number
    c.replace_by_zero.ensures.pools))

pub returns-in_err-zero-clause-ends : goal.returns-in_err-zero-clause-ends
returns-in_err-zero-clause-ends c =
    let p = err_from_is_err_and c.from_residual-in_err-zero.result c.from_residual-in_err-zero.ensures.1 in
    rw (p.1, p.2)
    (ends_grown c.replace_by_zero.new.func c.in_err-zero.field-0.0
    (λ is. zero_full c.args.func.now c.new_parameter.new.func c.replace_by_zero.new.func c.args.block c.in_ok-param.param c.args.ty c.in_ok-param.ensures.function c.in_ok-param.ensures.number
    (c.in_err-zero.ensures.full is))
    c.in_err-zero.ensures.never_failed)

pub returns-then-is_sealed-clause-used : goal.returns-then-is_sealed-clause-used
returns-then-is_sealed-clause-used c =
    use_zeroes c.args.variable c.args.ty c.args.block c.args.func.now c.args.self.now c.new_parameter.new.func c.replace_by_zero.new.func (state_of c.count_lookup.new.self c.self.inside.blocks c.self.inside.tracking) c.in_ok-param.param c.in_ok-zero.zero c.new-side_effects.result c.replace_by_zero.new.side_effects
    (ap (λ known. is_yes (sealed_at known c.args.block)) (sym (blocks_are _ _ _ _ c.self.view_is ∙ c.new_parameter.ensures.blocks)) ∙ sym c.if-is_sealed.ensures) c.in_ok-param.ensures.number c.in_ok-param.ensures.function (λ y b. (records_same _ _ _ _ c.self.view_is c.count_lookup.new.self c.count_lookup.ensures.records) y b ∙ c.in_ok-param.ensures.records y b) ((tracking_is _ _ _ _ c.self.view_is) ∙ c.in_ok-param.ensures.tracking) (λ b. ap (λ known. sealed_at known b) ((blocks_are _ _ _ _ c.self.view_is) ∙ c.new_parameter.ensures.blocks))
    (counted_from c.args.self.now c.new_parameter.new.self (state_of c.count_lookup.new.self c.self.inside.blocks c.self.inside.tracking) c.args.variable c.args.block c.new_parameter.ensures.lookups (counts_in _ _ _ _ c.self.view_is c.count_lookup.new.self c.args.variable c.args.block c.in_ok-count_lookup.ensures.ok)) c.in_ok-zero.ensures.zero c.in_ok-zero.ensures.answer c.new-side_effects.ensures c.in_ok-zero.ensures.told
    c.replace_by_zero.ensures.constructs c.in_ok-zero.ensures.tells

pub returns-then-is_sealed-clause-keeps : goal.returns-then-is_sealed-clause-keeps
returns-then-is_sealed-clause-keeps c =
    keeps_then c.args.variable c.args.func.now c.args.self.now c.new_parameter.new.func (state_of c.count_lookup.new.self c.self.inside.blocks c.self.inside.tracking) c.replace_by_zero.new.func (state_of c.count_lookup.new.self c.self.inside.blocks c.self.inside.tracking) (keeps_begun c.args.variable c.args.func.now c.new_parameter.new.func c.args.self.now c.new_parameter.new.self (state_of c.count_lookup.new.self c.self.inside.blocks c.self.inside.tracking) c.args.block c.args.ty c.requires.exists c.requires.unrecorded (ap (λ known. is_yes (sealed_at known c.args.block)) (sym (blocks_are _ _ _ _ c.self.view_is ∙ c.new_parameter.ensures.blocks)) ∙ sym c.if-is_sealed.ensures) c.in_ok-param.ensures.function c.in_ok-param.ensures.records c.new_parameter.ensures.blocks c.new_parameter.ensures.lookups (records_same _ _ _ _ c.self.view_is c.count_lookup.new.self c.count_lookup.ensures.records) (blocks_are _ _ _ _ c.self.view_is) (inr (counts_in _ _ _ _ c.self.view_is c.count_lookup.new.self c.args.variable c.args.block c.in_ok-count_lookup.ensures.ok)))
    (keeps_grown c.args.variable c.new_parameter.new.func c.replace_by_zero.new.func (state_of c.count_lookup.new.self c.self.inside.blocks c.self.inside.tracking) c.replace_by_zero.ensures.more c.replace_by_zero.ensures.constructs
    (zero_pools c.args.func.now c.new_parameter.new.func c.replace_by_zero.new.func c.args.block c.in_ok-param.param c.args.ty c.in_ok-param.ensures.function c.in_ok-param.ensures.number
    c.replace_by_zero.ensures.pools))

pub returns-then-is_sealed-clause-ends : goal.returns-then-is_sealed-clause-ends
returns-then-is_sealed-clause-ends c =
    ends_ok c.replace_by_zero.new.func _

-- THE BLOCK IS UNSEALED -------------------------------------------------------------------------------------------

pub returns-in_err-wait-clause-used : goal.returns-in_err-wait-clause-used
returns-in_err-wait-clause-used c =
    let p = err_from_is_err_and c.from_residual-in_err-wait.result c.from_residual-in_err-wait.ensures.1 in
    rw (p.1, p.2)
    (use_refused c.args.variable c.args.ty c.args.block c.args.func.now c.args.self.now c.new_parameter.new.func (state_of c.self.inside.variables c.wait.new.self c.self.inside.tracking) c.in_err-wait.field-0.0 (λ b. (sealed_same _ _ _ _ c.self.view_is c.wait.new.self c.in_err-wait.ensures.err) b ∙ ap (λ known. sealed_at known b) c.new_parameter.ensures.blocks))

pub returns-in_err-wait-clause-keeps : goal.returns-in_err-wait-clause-keeps
returns-in_err-wait-clause-keeps c =
    keeps_not_waiting c.args.variable c.args.func.now c.new_parameter.new.func c.args.self.now c.new_parameter.new.self _ c.args.block c.requires.exists c.new_parameter.ensures.keeps (records_are _ _ _ _ c.self.view_is) (sealed_same _ _ _ _ c.self.view_is c.wait.new.self c.in_err-wait.ensures.err) (predecessors_same _ _ _ _ c.self.view_is c.wait.new.self c.wait.ensures.predecessors) (no_more_known _ _ _ _ c.self.view_is c.wait.new.self (c.args.block + 1) c.wait.ensures.no_more)

pub returns-in_err-wait-clause-ends : goal.returns-in_err-wait-clause-ends
returns-in_err-wait-clause-ends c =
    let p = err_from_is_err_and c.from_residual-in_err-wait.result c.from_residual-in_err-wait.ensures.1 in
    rw (p.1, p.2)
    (ends_memory c.new_parameter.new.func c.in_err-wait.field-0.0 c.in_err-wait.ensures.only_memory)

pub returns-clause-used : goal.returns-clause-used
returns-clause-used c =
    use_waits c.args.variable c.args.ty c.args.block c.args.func.now c.args.self.now c.new_parameter.new.func (state_of c.self.inside.variables c.wait.new.self c.self.inside.tracking) c.in_ok-param.param c.new-side_effects.result (ap (λ known. is_yes (sealed_at known c.args.block)) (sym (blocks_are _ _ _ _ c.self.view_is ∙ c.new_parameter.ensures.blocks)) ∙ sym c.if-is_sealed.ensures) c.in_ok-param.ensures.number c.in_ok-param.ensures.function
    (λ y b. ap (λ rows. record_at rows y b) (records_are _ _ _ _ c.self.view_is) ∙ c.in_ok-param.ensures.records y b) ((tracking_is _ _ _ _ c.self.view_is) ∙ c.in_ok-param.ensures.tracking) (λ y b. ap (λ rows. lookups_at rows y b) (records_are _ _ _ _ c.self.view_is) ∙ c.new_parameter.ensures.lookups y b)
    (waiting_from c.args.self.now c.new_parameter.new.self (state_of c.self.inside.variables c.wait.new.self c.self.inside.tracking) c.args.variable c.args.block c.in_ok-param.param (length c.args.func.now.values) c.new_parameter.ensures.blocks c.in_ok-param.ensures.number (waits_in _ _ _ _ c.self.view_is c.wait.new.self c.args.variable c.args.block c.in_ok-param.param c.in_ok-wait.ensures.ok)) c.new-side_effects.ensures

pub returns-clause-keeps : goal.returns-clause-keeps
returns-clause-keeps c =
    keeps_waits c.args.variable c.args.func.now c.new_parameter.new.func c.args.self.now c.new_parameter.new.self _ c.args.block c.in_ok-param.param c.args.ty c.requires.exists c.requires.unrecorded (ap (λ known. is_yes (sealed_at known c.args.block)) (sym (blocks_are _ _ _ _ c.self.view_is ∙ c.new_parameter.ensures.blocks)) ∙ sym c.if-is_sealed.ensures) c.in_ok-param.ensures.number c.in_ok-param.ensures.function c.in_ok-param.ensures.records c.new_parameter.ensures.blocks c.new_parameter.ensures.lookups
    (records_are _ _ _ _ c.self.view_is) (waits_in _ _ _ _ c.self.view_is c.wait.new.self c.args.variable c.args.block c.in_ok-param.param c.in_ok-wait.ensures.ok) (predecessors_same _ _ _ _ c.self.view_is c.wait.new.self c.wait.ensures.predecessors) (no_more_known _ _ _ _ c.self.view_is c.wait.new.self (c.args.block + 1) c.wait.ensures.no_more)

pub returns-clause-ends : goal.returns-clause-ends
returns-clause-ends c =
    ends_ok c.new_parameter.new.func _

-- HOW MUCH IT MAKES -----------------------------------------------------------------------------------------------

pub returns-in_err-param-clause-counts : goal.returns-in_err-param-clause-counts
returns-in_err-param-clause-counts c =
    let p = err_from_is_err_and c.from_residual.result c.from_residual.ensures.1 in
    rw (p.1, p.2)
    (counts_stopped 0 c.new_parameter.new.func c.new_parameter.new.self c.in_err-param.field-0.0 (omega arith) refl (counts_none 0 c.args.func.now c.args.self.now)
    c.in_err-param.ensures.stops)

pub returns-in_err-count_lookup-clause-counts : goal.returns-in_err-count_lookup-clause-counts
returns-in_err-count_lookup-clause-counts c =
    let p = err_from_is_err_and c.from_residual-in_err-count_lookup.result c.from_residual-in_err-count_lookup.ensures.1 in
    rw (p.1, p.2) (counts_memory c.in_err-count_lookup.field-0.0 c.in_err-count_lookup.ensures.only_memory)

pub returns-in_err-zero-clause-counts : goal.returns-in_err-zero-clause-counts
returns-in_err-zero-clause-counts c =
    counts_any
    (zero_counts c.args.variable c.args.block (length c.args.func.now.values) c.args.ty c.args.func.now c.new_parameter.new.func c.replace_by_zero.new.func c.args.self.now
    (state_of c.count_lookup.new.self c.self.inside.blocks c.self.inside.tracking) c.requires.exists c.requires.unrecorded c.in_ok-param.ensures.function
    (λ y b. records_same _ _ _ _ c.self.view_is c.count_lookup.new.self c.count_lookup.ensures.records y b ∙ c.in_ok-param.ensures.records y b)
    (λ b. ap (λ known. sealed_at known b) (blocks_are _ _ _ _ c.self.view_is ∙ c.new_parameter.ensures.blocks)) c.replace_by_zero.ensures.at_most)

pub returns-then-is_sealed-clause-counts : goal.returns-then-is_sealed-clause-counts
returns-then-is_sealed-clause-counts c =
    counts_any
    (zero_counts c.args.variable c.args.block (length c.args.func.now.values) c.args.ty c.args.func.now c.new_parameter.new.func c.replace_by_zero.new.func c.args.self.now
    (state_of c.count_lookup.new.self c.self.inside.blocks c.self.inside.tracking) c.requires.exists c.requires.unrecorded c.in_ok-param.ensures.function
    (λ y b. records_same _ _ _ _ c.self.view_is c.count_lookup.new.self c.count_lookup.ensures.records y b ∙ c.in_ok-param.ensures.records y b)
    (λ b. ap (λ known. sealed_at known b) (blocks_are _ _ _ _ c.self.view_is ∙ c.new_parameter.ensures.blocks)) c.replace_by_zero.ensures.at_most)

pub returns-in_err-wait-clause-counts : goal.returns-in_err-wait-clause-counts
returns-in_err-wait-clause-counts c =
    let p = err_from_is_err_and c.from_residual-in_err-wait.result c.from_residual-in_err-wait.ensures.1 in
    rw (p.1, p.2) (counts_memory c.in_err-wait.field-0.0 c.in_err-wait.ensures.only_memory)

pub returns-clause-counts : goal.returns-clause-counts
returns-clause-counts c =
    counts_any
    (waits_count c.args.variable c.args.block (length c.args.func.now.values) c.args.ty c.args.func.now c.new_parameter.new.func c.args.self.now
    (state_of c.self.inside.variables c.wait.new.self c.self.inside.tracking) c.requires.exists c.requires.unrecorded c.in_ok-param.ensures.function
    (λ y b. ap (λ rows. record_at rows y b) (records_are _ _ _ _ c.self.view_is) ∙ c.in_ok-param.ensures.records y b)
    (waiting_from c.args.self.now c.new_parameter.new.self (state_of c.self.inside.variables c.wait.new.self c.self.inside.tracking) c.args.variable c.args.block c.in_ok-param.param
    (length c.args.func.now.values) c.new_parameter.ensures.blocks c.in_ok-param.ensures.number
    (waits_in _ _ _ _ c.self.view_is c.wait.new.self c.args.variable c.args.block c.in_ok-param.param c.in_ok-wait.ensures.ok)))
