use Rattle.std.proofs.Common.{ap, inl, refl, subst, sym, [], ◌∷◌}
use Rattle.std.specs.Prelude.{Err}
use Rattle.clif_ir.specs.Body.{value_at}
use Rattle.clif_ssa.specs.Running.{stage, MakesAll}
use Rattle.clif_ssa.specs.Steps.{StepPools}
use Rattle.clif_records.specs.Tables.{sealed_at, predecessors_at}
use Rattle.clif_ssa.proofs.Constructing.{constructs_none}
use Rattle.clif_ssa.proofs.CountedOnce.{once_completes, once_follows}
use Rattle.clif_ssa.proofs.CountedLooks.{completion_begins}
use Rattle.clif_ssa.proofs.CountedSteps.{counts_any, counts_as, counts_made, counts_memory, counts_next, counts_then}
use Rattle.clif_ssa.proofs.Naming.{has_more}
use Rattle.clif_ssa.proofs.Local.{named-same}
use Rattle.clif_ssa.proofs.Waited.{begun-fits, parameter-completed}
use Rattle.clif_ssa.proofs.LeavesSteps.{leaves_from, leaves_kept, leaves_then}
use Rattle.clif_ssa.proofs.Pooling.{pools_again, pools_kept}
use Rattle.clif_ssa.proofs.Steps.{ends_as, ends_memory, ends_ok, ends_typed}
use Rattle.std.proofs.lemmas.Result.{err_from_is_err_and}
use Rattle.clif_ssa.proofs.ssa_tables.SsaTables.complete_parameter.Goals as goal

pub make_calls-requires-clause-named : goal.make_calls-requires-clause-named
make_calls-requires-clause-named c =
    named-same c.args.func.now c.args.func.now c.args.self.now c.begin_look_up.new.self (has_more c.args.func.now)
    (λ b. ap (λ blocks. predecessors_at blocks b) c.begin_look_up.ensures.blocks) c.begin_look_up.ensures.records (λ b. ap (λ blocks. sealed_at blocks b) c.begin_look_up.ensures.blocks)
    c.requires.named

pub make_calls-requires-clause-calls_fit : goal.make_calls-requires-clause-calls_fit
make_calls-requires-clause-calls_fit c =
    begun-fits _ c.args.func.now c.args.self.now c.begin_look_up.new.self c.args.look_up.now c.begin_look_up.new.look_up c.args.waiting.param c.args.block
    c.requires.named (λ b. ap (λ blocks. predecessors_at blocks b) c.begin_look_up.ensures.blocks)
    (c.requires.param_exists, sym c.value_type-ty.ensures)
    c.requires.idle.0 c.requires.idle.1 c.in_ok-begin_look_up.ensures.look_up

-- ONCE ------------------------------------------------------------------------------------------------------------

pub returns-in_err-begin_look_up-clause-looks_once :
    goal.returns-in_err-begin_look_up-clause-looks_once
returns-in_err-begin_look_up-clause-looks_once c =
    (λ rest before.
    once_completes c.args.self.now c.begin_look_up.new.self c.args.block c.args.waiting rest c.begin_look_up.ensures.records (λ b. ap (λ blocks. sealed_at blocks b) c.begin_look_up.ensures.blocks)
    c.begin_look_up.ensures.counts before)

pub returns-in_err-_value-clause-looks_once : goal.returns-in_err-_value-clause-looks_once
returns-in_err-_value-clause-looks_once c =
    (λ rest before.
    once_follows c.begin_look_up.new.self c.make_calls.new.self c.args.block rest c.make_calls.ensures.keeps.once c.make_calls.ensures.keeps.flags
    (once_completes c.args.self.now c.begin_look_up.new.self c.args.block c.args.waiting rest c.begin_look_up.ensures.records (λ b. ap (λ blocks. sealed_at blocks b) c.begin_look_up.ensures.blocks)
    c.begin_look_up.ensures.counts before))

pub returns-clause-looks_once : goal.returns-clause-looks_once
returns-clause-looks_once c =
    (λ rest before.
    once_follows c.begin_look_up.new.self c.make_calls.new.self c.args.block rest c.make_calls.ensures.keeps.once c.make_calls.ensures.keeps.flags
    (once_completes c.args.self.now c.begin_look_up.new.self c.args.block c.args.waiting rest c.begin_look_up.ensures.records (λ b. ap (λ blocks. sealed_at blocks b) c.begin_look_up.ensures.blocks)
    c.begin_look_up.ensures.counts before))

-- WHERE RECORDS ARE -----------------------------------------------------------------------------------------------

-- WHAT IS LEFT, AND HOW IT ENDS -----------------------------------------------------------------------------------

pub returns-in_err-begin_look_up-clause-completes : goal.returns-in_err-begin_look_up-clause-completes
returns-in_err-begin_look_up-clause-completes c =
    let p = err_from_is_err_and c.from_residual.result c.from_residual.ensures.1 in
    rw p.1 tt

pub returns-in_err-_value-clause-completes : goal.returns-in_err-_value-clause-completes
returns-in_err-_value-clause-completes c =
    let p = err_from_is_err_and c.from_residual-in_err-_value.result c.from_residual-in_err-_value.ensures.1 in
    rw p.1 tt

pub returns-in_err-begin_look_up-clause-idle : goal.returns-in_err-begin_look_up-clause-idle
returns-in_err-begin_look_up-clause-idle c =
    let p = err_from_is_err_and c.from_residual.result c.from_residual.ensures.1 in
    rw p.1 tt

pub returns-in_err-_value-clause-idle : goal.returns-in_err-_value-clause-idle
returns-in_err-_value-clause-idle c =
    let p = err_from_is_err_and c.from_residual-in_err-_value.result c.from_residual-in_err-_value.ensures.1 in
    rw p.1 tt

pub returns-in_err-begin_look_up-clause-tells : goal.returns-in_err-begin_look_up-clause-tells
returns-in_err-begin_look_up-clause-tells c =
    let p = err_from_is_err_and c.from_residual.result c.from_residual.ensures.1 in
    rw p.1 tt

pub returns-in_err-_value-clause-tells : goal.returns-in_err-_value-clause-tells
returns-in_err-_value-clause-tells c =
    let p = err_from_is_err_and c.from_residual-in_err-_value.result c.from_residual-in_err-_value.ensures.1 in
    rw p.1 tt

pub returns-in_err-begin_look_up-clause-leaves : goal.returns-in_err-begin_look_up-clause-leaves
returns-in_err-begin_look_up-clause-leaves c =
    (leaves_kept c.args.func.now c.args.self.now c.begin_look_up.new.self c.begin_look_up.ensures.records c.begin_look_up.ensures.blocks)

pub returns-in_err-begin_look_up-clause-ends : goal.returns-in_err-begin_look_up-clause-ends
returns-in_err-begin_look_up-clause-ends c =
    let p = err_from_is_err_and c.from_residual.result c.from_residual.ensures.1 in
    rw (p.1, p.2)
    ((ends_memory c.args.func.now c.in_err-begin_look_up.field-0.0 c.in_err-begin_look_up.ensures.only_memory))

pub returns-in_err-_value-clause-leaves : goal.returns-in_err-_value-clause-leaves
returns-in_err-_value-clause-leaves c =
    (leaves_then c.args.func.now c.args.self.now c.args.func.now c.begin_look_up.new.self c.make_calls.new.func c.make_calls.new.self (leaves_kept c.args.func.now c.args.self.now c.begin_look_up.new.self c.begin_look_up.ensures.records c.begin_look_up.ensures.blocks)
    (leaves_from c.args.waiting.variable c.args.func.now c.begin_look_up.new.self c.make_calls.new.func c.make_calls.new.self c.make_calls.ensures.keeps))

pub returns-in_err-_value-clause-ends : goal.returns-in_err-_value-clause-ends
returns-in_err-_value-clause-ends c =
    let p = err_from_is_err_and c.from_residual-in_err-_value.result c.from_residual-in_err-_value.ensures.1 in
    rw (p.1, p.2)
    (ends_typed _ _ c.make_calls.new.func (Err c.in_err-_value.field-0.0) c.value_type-ty.ensures
    (ends_as c.make_calls.new.func c.in_err-_value.field-0.0 c.in_err-_value.ensures.ends))

pub returns-clause-leaves : goal.returns-clause-leaves
returns-clause-leaves c =
    (leaves_then c.args.func.now c.args.self.now c.args.func.now c.begin_look_up.new.self c.make_calls.new.func c.make_calls.new.self (leaves_kept c.args.func.now c.args.self.now c.begin_look_up.new.self c.begin_look_up.ensures.records c.begin_look_up.ensures.blocks)
    (leaves_from c.args.waiting.variable c.args.func.now c.begin_look_up.new.self c.make_calls.new.func c.make_calls.new.self c.make_calls.ensures.keeps))

pub returns-clause-ends : goal.returns-clause-ends
returns-clause-ends c =
    (ends_ok c.make_calls.new.func _)

pub returns-clause-completes : goal.returns-clause-completes
returns-clause-completes c =
    let typed = subst (λ ty. MakesAll c.args.waiting.variable ty (stage c.args.func.now c.begin_look_up.new.self c.begin_look_up.new.look_up) c.in_ok-_value._value
    (stage c.make_calls.new.func c.make_calls.new.self c.make_calls.new.look_up)) c.value_type-ty.ensures c.in_ok-_value.ensures.made in
    (parameter-completed c.args.waiting.variable (value_at c.args.func.now c.args.waiting.param).ty c.args.waiting.param c.args.block c.in_ok-_value._value
    c.args.func.now c.args.self.now c.begin_look_up.new.self c.args.look_up.now c.begin_look_up.new.look_up (stage c.make_calls.new.func c.make_calls.new.self c.make_calls.new.look_up)
    c.begin_look_up.ensures.records c.begin_look_up.ensures.blocks c.begin_look_up.ensures.tracking c.in_ok-begin_look_up.ensures.counted c.in_ok-begin_look_up.ensures.look_up
    typed)

-- WHICH CONSTANTS -------------------------------------------------------------------------------------------------

pub returns-in_err-begin_look_up-clause-pools : goal.returns-in_err-begin_look_up-clause-pools
returns-in_err-begin_look_up-clause-pools c =
    (pools_kept (value_at c.args.func.now c.args.waiting.param).ty c.args.func.now c.args.func.now c.args.self.now c.begin_look_up.new.self (inl refl)
    (constructs_none c.args.func.now) (λ b. ap (λ blocks. sealed_at blocks b) c.begin_look_up.ensures.blocks))

pub returns-in_err-_value-clause-pools : goal.returns-in_err-_value-clause-pools
returns-in_err-_value-clause-pools c =
    (pools_again (value_at c.args.func.now c.args.waiting.param).ty c.args.func.now c.args.self.now c.args.func.now c.begin_look_up.new.self c.make_calls.new.func c.make_calls.new.self
    (pools_kept (value_at c.args.func.now c.args.waiting.param).ty c.args.func.now c.args.func.now c.args.self.now c.begin_look_up.new.self (inl refl)
    (constructs_none c.args.func.now) (λ b. ap (λ blocks. sealed_at blocks b) c.begin_look_up.ensures.blocks))
    (subst (λ ty. StepPools (ty ∷ []) c.args.func.now c.begin_look_up.new.self c.make_calls.new.func c.make_calls.new.self) c.value_type-ty.ensures
    c.make_calls.ensures.keeps.pools))

pub returns-clause-pools : goal.returns-clause-pools
returns-clause-pools c =
    (pools_again (value_at c.args.func.now c.args.waiting.param).ty c.args.func.now c.args.self.now c.args.func.now c.begin_look_up.new.self c.make_calls.new.func c.make_calls.new.self
    (pools_kept (value_at c.args.func.now c.args.waiting.param).ty c.args.func.now c.args.func.now c.args.self.now c.begin_look_up.new.self (inl refl)
    (constructs_none c.args.func.now) (λ b. ap (λ blocks. sealed_at blocks b) c.begin_look_up.ensures.blocks))
    (subst (λ ty. StepPools (ty ∷ []) c.args.func.now c.begin_look_up.new.self c.make_calls.new.func c.make_calls.new.self) c.value_type-ty.ensures
    c.make_calls.ensures.keeps.pools))

-- HOW MUCH IT MAKES -----------------------------------------------------------------------------------------------

pub returns-in_err-begin_look_up-clause-counts : goal.returns-in_err-begin_look_up-clause-counts
returns-in_err-begin_look_up-clause-counts c =
    let p = err_from_is_err_and c.from_residual.result c.from_residual.ensures.1 in
    rw (p.1, p.2) (counts_memory c.in_err-begin_look_up.field-0.0 c.in_err-begin_look_up.ensures.only_memory)

pub returns-in_err-_value-clause-counts : goal.returns-in_err-_value-clause-counts
returns-in_err-_value-clause-counts c =
    let p = err_from_is_err_and c.from_residual-in_err-_value.result c.from_residual-in_err-_value.ensures.1 in
    rw (p.1, p.2)
    (counts_as (counts_next (λ variables fits waits. fits) refl
    (completion_begins c.args.waiting.variable c.args.waiting.param c.args.block c.args.func.now c.args.self.now c.begin_look_up.new.self c.args.look_up.now c.begin_look_up.new.look_up
    c.begin_look_up.ensures.records (λ b. ap (λ blocks. sealed_at blocks b) c.begin_look_up.ensures.blocks) c.requires.idle.0 c.in_ok-begin_look_up.ensures.look_up)
    c.in_err-_value.ensures.counts))

pub returns-clause-counts : goal.returns-clause-counts
returns-clause-counts c =
    counts_any (counts_then (λ variables fits waits. fits) refl
    (completion_begins c.args.waiting.variable c.args.waiting.param c.args.block c.args.func.now c.args.self.now c.begin_look_up.new.self c.args.look_up.now c.begin_look_up.new.look_up
    c.begin_look_up.ensures.records (λ b. ap (λ blocks. sealed_at blocks b) c.begin_look_up.ensures.blocks) c.requires.idle.0 c.in_ok-begin_look_up.ensures.look_up)
    (counts_made c.in_ok-_value.ensures.counts))
