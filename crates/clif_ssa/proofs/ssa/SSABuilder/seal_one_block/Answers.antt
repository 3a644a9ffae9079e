use Rattle.std.proofs.Common.{rules, ap, ◌≡◌, ◌≢◌, ◌∙◌, ◌+◌, [], arith, subst}
use Rattle.std.specs.Prelude.{Contains, Err}
use Rattle.std.proofs.lemmas.Grind.{common_steps}
use Rattle.std.proofs.lemmas.Result.{err_from_is_err_and}
use Rattle.clif_records.specs.Tables.{pending_of, record_at}
use Rattle.clif_ssa.specs.Ssa.{NamesExist, sealed_of, predecessors_of}
use Rattle.clif_ssa.specs.Pools.{types_of}
use Rattle.clif_ssa.specs.Running.{stage, CompletesAll, ToComplete}
use Rattle.clif_ssa.specs.Steps.{StepLeaves}
use Rattle.clif_ssa.specs.Structure.{LooksOnce}
use Rattle.clif_ssa.proofs.CountedLooks.{nothing_counts, sealing_counts, zeros_count}
use Rattle.clif_ssa.proofs.CountedSteps.{counts_any, counts_as, counts_made, counts_memory}
use Rattle.clif_ssa.proofs.SealSteps.{failed_makes, local_keeps, local_makes, looked_keeps, looked_makes, nothing_keeps, nothing_makes, refused_keeps, refused_makes}
use Rattle.clif_ssa.proofs.Pooling.{sealing_full}
use Rattle.clif_ssa.proofs.SealPools.{block_full, block_pools, pools_local, pools_nothing, pools_refused, pools_sealed, waiting_exist}
use Rattle.clif_ssa.proofs.Opened.{no_more_known, predecessors_same, records_are, sealed_same, seals_in, state_of, tables_are, tracking_is}
use Rattle.clif_ssa.proofs.Steps.{ends_as, ends_memory, ends_ok, ends_wider, ends_zeros}
use Rattle.clif_ssa.proofs.Waited.{leading-named, sealed-named}
use Rattle.clif_ssa.proofs.ssa.SSABuilder.seal_one_block.Goals as goal

pub complete_all-requires-clause-named : goal.complete_all-requires-clause-named
complete_all-requires-clause-named c =
    let some : predecessors_of (state_of c.self-inside.inside.0.1.0.variables c.seal.new.self c.self-inside.inside.0.1.0.tracking) c.args.block ≢ [] = first_of (search rules, grind (arith, common_steps)) in
    (sealed-named c.args.func.now c.self.inside.tables (state_of c.self-inside.inside.0.1.0.variables c.seal.new.self c.self-inside.inside.0.1.0.tracking) c.args.block (seals_in _ _ _ _ (tables_are c.self-inside.view_is) c.seal.new.self c.args.block c.in_ok-waiting.ensures.ok)
    (λ x b. ap (λ rows. record_at rows x b) (records_are _ _ _ _ (tables_are c.self-inside.view_is))) (predecessors_same _ _ _ _ (tables_are c.self-inside.view_is) c.seal.new.self c.seal.ensures.predecessors)
    (leading-named c.args.func.now c.self.inside.tables c.args.block (rw (c.self.view_is) c.requires.named) (λ none. some ((predecessors_same _ _ _ _ (tables_are c.self-inside.view_is) c.seal.new.self c.seal.ensures.predecessors) c.args.block ∙ none))))

pub complete_all-requires-clause-params_exist : goal.complete_all-requires-clause-params_exist
complete_all-requires-clause-params_exist c = λ p here.
    let some : predecessors_of (state_of c.self-inside.inside.0.1.0.variables c.seal.new.self c.self-inside.inside.0.1.0.tracking) c.args.block ≢ [] = first_of (search rules, grind (arith, common_steps)) in
    let same : c.as_slice-2.result.now ≡ pending_of (sealed_of c.self.inside.tables c.args.block) = first_of (search rules, grind (arith, common_steps)) in
    let named : NamesExist c.args.func.now c.self.inside.tables =
    leading-named c.args.func.now c.self.inside.tables c.args.block (rw (c.self.view_is) c.requires.named) (λ none. some ((predecessors_same _ _ _ _ (tables_are c.self-inside.view_is) c.seal.new.self c.seal.ensures.predecessors) c.args.block ∙ none)) in
    named.waiting c.args.block p (subst (λ ps. Contains ps p) same here)

-- IT ISN'T SEALED -------------------------------------------------------------------------------------------------

pub returns-in_err-waiting-clause-makes : goal.returns-in_err-waiting-clause-makes
returns-in_err-waiting-clause-makes c =
    let p = err_from_is_err_and c.from_residual.result c.from_residual.ensures.1 in
    rw (p.1, p.2, ← c.self.view_is)
    (refused_makes c.args.block c.args.func.now c.self.inside.tables (state_of c.self-inside.inside.0.1.0.variables c.seal.new.self c.self-inside.inside.0.1.0.tracking) c.in_err-waiting.field-0.0 (records_are _ _ _ _ (tables_are c.self-inside.view_is)) (tracking_is _ _ _ _ (tables_are c.self-inside.view_is)) (sealed_same _ _ _ _ (tables_are c.self-inside.view_is) c.seal.new.self c.in_err-waiting.ensures.err))

pub returns-in_err-waiting-clause-keeps : goal.returns-in_err-waiting-clause-keeps
returns-in_err-waiting-clause-keeps c =
    rw (← c.self.view_is) (refused_keeps c.args.block c.args.func.now c.self.inside.tables (state_of c.self-inside.inside.0.1.0.variables c.seal.new.self c.self-inside.inside.0.1.0.tracking) (records_are _ _ _ _ (tables_are c.self-inside.view_is)) (sealed_same _ _ _ _ (tables_are c.self-inside.view_is) c.seal.new.self c.in_err-waiting.ensures.err) (predecessors_same _ _ _ _ (tables_are c.self-inside.view_is) c.seal.new.self c.seal.ensures.predecessors) (no_more_known _ _ _ _ (tables_are c.self-inside.view_is) c.seal.new.self (c.args.block + 1) c.seal.ensures.no_more))

pub returns-in_err-waiting-clause-ends : goal.returns-in_err-waiting-clause-ends
returns-in_err-waiting-clause-ends c =
    let p = err_from_is_err_and c.from_residual.result c.from_residual.ensures.1 in
    rw (p.1, p.2)
    (ends_memory c.args.func.now c.in_err-waiting.field-0.0 c.in_err-waiting.ensures.only_memory)

-- NOTHING WAITS IN IT ---------------------------------------------------------------------------------------------

pub returns-then-is_empty-clause-makes : goal.returns-then-is_empty-clause-makes
returns-then-is_empty-clause-makes c =
    let none : [] ≡ pending_of (sealed_of c.self.inside.tables c.args.block) = first_of (search rules, grind (arith, common_steps)) in
    let told : c.new.result.instructions_added_to_blocks.items ≡ [] = search rules in
    rw (← c.self.view_is)
    (nothing_makes c.args.block c.args.func.now c.self.inside.tables (state_of c.self-inside.inside.0.1.0.variables c.seal.new.self c.self-inside.inside.0.1.0.tracking) c.new.result (records_are _ _ _ _ (tables_are c.self-inside.view_is)) (tracking_is _ _ _ _ (tables_are c.self-inside.view_is)) (seals_in _ _ _ _ (tables_are c.self-inside.view_is) c.seal.new.self c.args.block c.in_ok-waiting.ensures.ok) (predecessors_same _ _ _ _ (tables_are c.self-inside.view_is) c.seal.new.self c.seal.ensures.predecessors) none told)

pub returns-then-is_empty-clause-keeps : goal.returns-then-is_empty-clause-keeps
returns-then-is_empty-clause-keeps c =
    let none : [] ≡ pending_of (sealed_of c.self.inside.tables c.args.block) = first_of (search rules, grind (arith, common_steps)) in
    rw (← c.self.view_is)
    (nothing_keeps c.args.block c.args.func.now c.self.inside.tables (state_of c.self-inside.inside.0.1.0.variables c.seal.new.self c.self-inside.inside.0.1.0.tracking) (records_are _ _ _ _ (tables_are c.self-inside.view_is)) (seals_in _ _ _ _ (tables_are c.self-inside.view_is) c.seal.new.self c.args.block c.in_ok-waiting.ensures.ok) (predecessors_same _ _ _ _ (tables_are c.self-inside.view_is) c.seal.new.self c.seal.ensures.predecessors) (no_more_known _ _ _ _ (tables_are c.self-inside.view_is) c.seal.new.self (c.args.block + 1) c.seal.ensures.no_more) none)

pub returns-then-is_empty-clause-ends : goal.returns-then-is_empty-clause-ends
returns-then-is_empty-clause-ends c = ends_ok c.args.func.now _

pub returns-then-is_empty-clause-pools : goal.returns-then-is_empty-clause-pools
returns-then-is_empty-clause-pools c =
    rw (← c.self.view_is) (λ named. pools_nothing _ c.args.func.now c.self.inside.tables (state_of c.self-inside.inside.0.1.0.variables c.seal.new.self c.self-inside.inside.0.1.0.tracking) c.args.block (seals_in _ _ _ _ (tables_are c.self-inside.view_is) c.seal.new.self c.args.block c.in_ok-waiting.ensures.ok))

-- NOTHING LEADS TO IT ---------------------------------------------------------------------------------------------

pub returns-then-is_empty-2-clause-makes : goal.returns-then-is_empty-2-clause-makes
returns-then-is_empty-2-clause-makes c =
    let same : c.as_slice-then-is_empty-2.result.now ≡ pending_of (sealed_of c.self.inside.tables c.args.block) = first_of (search rules, grind (arith, common_steps)) in
    rw (← c.self.view_is)
    (local_makes c.args.block c.args.func.now c.complete_locally.new.func c.self.inside.tables (state_of c.self-inside.inside.0.1.0.variables c.seal.new.self c.self-inside.inside.0.1.0.tracking) c.complete_locally.new.self c.as_slice-then-is_empty-2.result.now c.complete_locally.result (records_are _ _ _ _ (tables_are c.self-inside.view_is)) (tracking_is _ _ _ _ (tables_are c.self-inside.view_is)) (seals_in _ _ _ _ (tables_are c.self-inside.view_is) c.seal.new.self c.args.block c.in_ok-waiting.ensures.ok) (predecessors_same _ _ _ _ (tables_are c.self-inside.view_is) c.seal.new.self c.seal.ensures.predecessors) same (λ some. absurd (some (first_of (search rules, grind (arith, common_steps)))))
    c.complete_locally.ensures.records c.complete_locally.ensures.tracking c.complete_locally.ensures.blocks c.complete_locally.ensures.counted c.complete_locally.ensures.function c.complete_locally.ensures.told c.complete_locally.ensures.tells)

pub returns-then-is_empty-2-clause-keeps : goal.returns-then-is_empty-2-clause-keeps
returns-then-is_empty-2-clause-keeps c =
    let same : c.as_slice-then-is_empty-2.result.now ≡ pending_of (sealed_of c.self.inside.tables c.args.block) = first_of (search rules, grind (arith, common_steps)) in
    rw (← c.self.view_is)
    (local_keeps c.args.block c.args.func.now c.complete_locally.new.func c.self.inside.tables (state_of c.self-inside.inside.0.1.0.variables c.seal.new.self c.self-inside.inside.0.1.0.tracking) c.complete_locally.new.self c.as_slice-then-is_empty-2.result.now (records_are _ _ _ _ (tables_are c.self-inside.view_is)) (seals_in _ _ _ _ (tables_are c.self-inside.view_is) c.seal.new.self c.args.block c.in_ok-waiting.ensures.ok) (predecessors_same _ _ _ _ (tables_are c.self-inside.view_is) c.seal.new.self c.seal.ensures.predecessors) (no_more_known _ _ _ _ (tables_are c.self-inside.view_is) c.seal.new.self (c.args.block + 1) c.seal.ensures.no_more) same c.complete_locally.ensures.records c.complete_locally.ensures.blocks c.complete_locally.ensures.looks_once c.complete_locally.ensures.more c.complete_locally.ensures.constructs)

pub returns-then-is_empty-2-clause-ends : goal.returns-then-is_empty-2-clause-ends
returns-then-is_empty-2-clause-ends c =
    (ends_zeros c.complete_locally.new.func c.complete_locally.result c.complete_locally.ensures.full c.complete_locally.ensures.never_failed)

-- BRANCHES LEAD TO IT ---------------------------------------------------------------------------------------------

pub returns-in_err-complete_all-clause-makes : goal.returns-in_err-complete_all-clause-makes
returns-in_err-complete_all-clause-makes c =
    let leaves : StepLeaves c.args.func.now (state_of c.self-inside.inside.0.1.0.variables c.seal.new.self c.self-inside.inside.0.1.0.tracking) c.complete_all.new.func c.complete_all.new.self =
    c.complete_all.ensures.leaves in
    let p = err_from_is_err_and c.from_residual-in_err-complete_all.result c.from_residual-in_err-complete_all.ensures.1 in
    rw (p.1, p.2, ← c.self.view_is)
    (failed_makes c.args.block c.args.func.now c.complete_all.new.func c.self.inside.tables (state_of c.self-inside.inside.0.1.0.variables c.seal.new.self c.self-inside.inside.0.1.0.tracking) c.complete_all.new.self c.in_err-complete_all.field-0.0 (seals_in _ _ _ _ (tables_are c.self-inside.view_is) c.seal.new.self c.args.block c.in_ok-waiting.ensures.ok) (predecessors_same _ _ _ _ (tables_are c.self-inside.view_is) c.seal.new.self c.seal.ensures.predecessors) (first_of (search rules, grind (arith, common_steps))) leaves)

pub returns-in_err-complete_all-clause-keeps : goal.returns-in_err-complete_all-clause-keeps
returns-in_err-complete_all-clause-keeps c =
    let leaves : StepLeaves c.args.func.now (state_of c.self-inside.inside.0.1.0.variables c.seal.new.self c.self-inside.inside.0.1.0.tracking) c.complete_all.new.func c.complete_all.new.self =
    c.complete_all.ensures.leaves in
    let once : ToComplete (state_of c.self-inside.inside.0.1.0.variables c.seal.new.self c.self-inside.inside.0.1.0.tracking) c.args.block c.as_slice-2.result.now → LooksOnce c.complete_all.new.self =
    c.complete_all.ensures.looks_once in
    let same : c.as_slice-2.result.now ≡ pending_of (sealed_of c.self.inside.tables c.args.block) = first_of (search rules, grind (arith, common_steps)) in
    rw (← c.self.view_is)
    (looked_keeps c.args.block c.args.func.now c.complete_all.new.func c.self.inside.tables (state_of c.self-inside.inside.0.1.0.variables c.seal.new.self c.self-inside.inside.0.1.0.tracking) c.complete_all.new.self c.as_slice-2.result.now (records_are _ _ _ _ (tables_are c.self-inside.view_is)) (seals_in _ _ _ _ (tables_are c.self-inside.view_is) c.seal.new.self c.args.block c.in_ok-waiting.ensures.ok) (predecessors_same _ _ _ _ (tables_are c.self-inside.view_is) c.seal.new.self c.seal.ensures.predecessors) (no_more_known _ _ _ _ (tables_are c.self-inside.view_is) c.seal.new.self (c.args.block + 1) c.seal.ensures.no_more) same leaves once)

pub returns-in_err-complete_all-clause-ends : goal.returns-in_err-complete_all-clause-ends
returns-in_err-complete_all-clause-ends c =
    let p = err_from_is_err_and c.from_residual-in_err-complete_all.result c.from_residual-in_err-complete_all.ensures.1 in
    rw (p.1, p.2)
    (ends_wider c.complete_all.new.func (Err c.in_err-complete_all.field-0.0) (sealing_full (Contains (types_of c.args.func.now c.as_slice-2.result.now)) c.complete_all.new.func)
    (ends_as c.complete_all.new.func c.in_err-complete_all.field-0.0 c.in_err-complete_all.ensures.ends))

pub returns-clause-makes : goal.returns-clause-makes
returns-clause-makes c =
    let leaves : StepLeaves c.args.func.now (state_of c.self-inside.inside.0.1.0.variables c.seal.new.self c.self-inside.inside.0.1.0.tracking) c.complete_all.new.func c.complete_all.new.self =
    c.complete_all.ensures.leaves in
    let all : CompletesAll c.args.block c.as_slice-2.result.now (stage c.args.func.now (state_of c.self-inside.inside.0.1.0.variables c.seal.new.self c.self-inside.inside.0.1.0.tracking) c.clear.new.self) (stage c.complete_all.new.func c.complete_all.new.self c.complete_all.new.look_up) =
    c.in_ok-complete_all.ensures.completes in
    let same : c.as_slice-2.result.now ≡ pending_of (sealed_of c.self.inside.tables c.args.block) = first_of (search rules, grind (arith, common_steps)) in
    let told : c.take_zeros-instructions_added_to_blocks.result.items ≡ c.complete_all.new.look_up.zeros = first_of (search rules, grind (arith, common_steps)) in
    rw (← c.self.view_is)
    (looked_makes c.args.block c.args.func.now c.complete_all.new.func c.self.inside.tables (state_of c.self-inside.inside.0.1.0.variables c.seal.new.self c.self-inside.inside.0.1.0.tracking) c.complete_all.new.self c.as_slice-2.result.now c.clear.new.self c.complete_all.new.look_up (record { instructions_added_to_blocks = c.take_zeros-instructions_added_to_blocks.result }) (records_are _ _ _ _ (tables_are c.self-inside.view_is)) (tracking_is _ _ _ _ (tables_are c.self-inside.view_is)) (seals_in _ _ _ _ (tables_are c.self-inside.view_is) c.seal.new.self c.args.block c.in_ok-waiting.ensures.ok) (predecessors_same _ _ _ _ (tables_are c.self-inside.view_is) c.seal.new.self c.seal.ensures.predecessors) same (first_of (search rules, grind (arith, common_steps))) leaves
    c.clear.ensures all c.in_ok-complete_all.ensures.tells told)

pub returns-clause-keeps : goal.returns-clause-keeps
returns-clause-keeps c =
    let leaves : StepLeaves c.args.func.now (state_of c.self-inside.inside.0.1.0.variables c.seal.new.self c.self-inside.inside.0.1.0.tracking) c.complete_all.new.func c.complete_all.new.self =
    c.complete_all.ensures.leaves in
    let once : ToComplete (state_of c.self-inside.inside.0.1.0.variables c.seal.new.self c.self-inside.inside.0.1.0.tracking) c.args.block c.as_slice-2.result.now → LooksOnce c.complete_all.new.self =
    c.complete_all.ensures.looks_once in
    let same : c.as_slice-2.result.now ≡ pending_of (sealed_of c.self.inside.tables c.args.block) = first_of (search rules, grind (arith, common_steps)) in
    rw (← c.self.view_is)
    (looked_keeps c.args.block c.args.func.now c.complete_all.new.func c.self.inside.tables (state_of c.self-inside.inside.0.1.0.variables c.seal.new.self c.self-inside.inside.0.1.0.tracking) c.complete_all.new.self c.as_slice-2.result.now (records_are _ _ _ _ (tables_are c.self-inside.view_is)) (seals_in _ _ _ _ (tables_are c.self-inside.view_is) c.seal.new.self c.args.block c.in_ok-waiting.ensures.ok) (predecessors_same _ _ _ _ (tables_are c.self-inside.view_is) c.seal.new.self c.seal.ensures.predecessors) (no_more_known _ _ _ _ (tables_are c.self-inside.view_is) c.seal.new.self (c.args.block + 1) c.seal.ensures.no_more) same leaves once)

pub returns-clause-ends : goal.returns-clause-ends
returns-clause-ends c =
    (ends_ok c.complete_all.new.func _)

-- WHICH CONSTANTS -------------------------------------------------------------------------------------------------

pub returns-in_err-waiting-clause-pools : goal.returns-in_err-waiting-clause-pools
returns-in_err-waiting-clause-pools c =
    rw (← c.self.view_is)
    (λ named. pools_refused _ c.args.func.now c.self.inside.tables (state_of c.self-inside.inside.0.1.0.variables c.seal.new.self c.self-inside.inside.0.1.0.tracking) (sealed_same _ _ _ _ (tables_are c.self-inside.view_is) c.seal.new.self c.in_err-waiting.ensures.err))

pub returns-then-is_empty-2-clause-pools : goal.returns-then-is_empty-2-clause-pools
returns-then-is_empty-2-clause-pools c =
    let same : c.as_slice-then-is_empty-2.result.now ≡ pending_of (sealed_of c.self.inside.tables c.args.block) = first_of (search rules, grind (arith, common_steps)) in
    rw (← c.self.view_is)
    (λ named.
    block_pools c.args.func.now c.complete_locally.new.func c.self.inside.tables c.complete_locally.new.self c.args.block c.as_slice-then-is_empty-2.result.now same
    (pools_local (types_of c.args.func.now c.as_slice-then-is_empty-2.result.now) c.args.func.now c.complete_locally.new.func c.self.inside.tables (state_of c.self-inside.inside.0.1.0.variables c.seal.new.self c.self-inside.inside.0.1.0.tracking) c.complete_locally.new.self c.args.block
    (c.complete_locally.ensures.pools (waiting_exist c.args.func.now c.self.inside.tables c.args.block c.as_slice-then-is_empty-2.result.now same named))
    c.complete_locally.ensures.constructs (seals_in _ _ _ _ (tables_are c.self-inside.view_is) c.seal.new.self c.args.block c.in_ok-waiting.ensures.ok) c.complete_locally.ensures.blocks))

pub returns-in_err-complete_all-clause-pools : goal.returns-in_err-complete_all-clause-pools
returns-in_err-complete_all-clause-pools c =
    let same : c.as_slice-2.result.now ≡ pending_of (sealed_of c.self.inside.tables c.args.block) = first_of (search rules, grind (arith, common_steps)) in
    rw (← c.self.view_is)
    (λ named.
    block_pools c.args.func.now c.complete_all.new.func c.self.inside.tables c.complete_all.new.self c.args.block c.as_slice-2.result.now same
    (pools_sealed (types_of c.args.func.now c.as_slice-2.result.now) c.args.func.now c.complete_all.new.func c.self.inside.tables (state_of c.self-inside.inside.0.1.0.variables c.seal.new.self c.self-inside.inside.0.1.0.tracking) c.complete_all.new.self c.args.block (seals_in _ _ _ _ (tables_are c.self-inside.view_is) c.seal.new.self c.args.block c.in_ok-waiting.ensures.ok)
    (c.complete_all.ensures.pools)))

pub returns-clause-pools : goal.returns-clause-pools
returns-clause-pools c =
    let same : c.as_slice-2.result.now ≡ pending_of (sealed_of c.self.inside.tables c.args.block) = first_of (search rules, grind (arith, common_steps)) in
    rw (← c.self.view_is)
    (λ named.
    block_pools c.args.func.now c.complete_all.new.func c.self.inside.tables c.complete_all.new.self c.args.block c.as_slice-2.result.now same
    (pools_sealed (types_of c.args.func.now c.as_slice-2.result.now) c.args.func.now c.complete_all.new.func c.self.inside.tables (state_of c.self-inside.inside.0.1.0.variables c.seal.new.self c.self-inside.inside.0.1.0.tracking) c.complete_all.new.self c.args.block (seals_in _ _ _ _ (tables_are c.self-inside.view_is) c.seal.new.self c.args.block c.in_ok-waiting.ensures.ok)
    (c.complete_all.ensures.pools)))

pub returns-then-is_empty-2-clause-full_waiting : goal.returns-then-is_empty-2-clause-full_waiting
returns-then-is_empty-2-clause-full_waiting c =
    let same : c.as_slice-then-is_empty-2.result.now ≡ pending_of (sealed_of c.self.inside.tables c.args.block) = first_of (search rules, grind (arith, common_steps)) in
    rw (← c.self.view_is)
    (λ named is.
    block_full c.args.func.now c.complete_locally.new.func c.self.inside.tables c.args.block c.as_slice-then-is_empty-2.result.now same
    (c.complete_locally.ensures.full_waiting (waiting_exist c.args.func.now c.self.inside.tables c.args.block c.as_slice-then-is_empty-2.result.now same named) is))

pub returns-in_err-complete_all-clause-full_waiting : goal.returns-in_err-complete_all-clause-full_waiting
returns-in_err-complete_all-clause-full_waiting c =
    let same : c.as_slice-2.result.now ≡ pending_of (sealed_of c.self.inside.tables c.args.block) = first_of (search rules, grind (arith, common_steps)) in
    let p = err_from_is_err_and c.from_residual-in_err-complete_all.result c.from_residual-in_err-complete_all.ensures.1 in
    rw (p.1, p.2, ← c.self.view_is)
    (λ named is.
    block_full c.args.func.now c.complete_all.new.func c.self.inside.tables c.args.block c.as_slice-2.result.now same
    ((ends_as c.complete_all.new.func c.in_err-complete_all.field-0.0 c.in_err-complete_all.ensures.ends).full is))

-- HOW MUCH IT MAKES -----------------------------------------------------------------------------------------------

pub returns-in_err-waiting-clause-counts : goal.returns-in_err-waiting-clause-counts
returns-in_err-waiting-clause-counts c = λ exists.
    let p = err_from_is_err_and c.from_residual.result c.from_residual.ensures.1 in
    rw (p.1, p.2) (counts_memory c.in_err-waiting.field-0.0 c.in_err-waiting.ensures.only_memory)

pub returns-then-is_empty-clause-counts : goal.returns-then-is_empty-clause-counts
returns-then-is_empty-clause-counts c = λ exists.
    let same : c.as_slice.result.now ≡ pending_of (sealed_of c.self.inside.tables c.args.block) = first_of (search rules, grind (arith, common_steps)) in
    rw (← c.self.view_is)
    (sealing_counts c.args.block c.args.func.now c.args.func.now c.self.inside.tables (state_of c.self-inside.inside.0.1.0.variables c.seal.new.self c.self-inside.inside.0.1.0.tracking) (state_of c.self-inside.inside.0.1.0.variables c.seal.new.self c.self-inside.inside.0.1.0.tracking) c.as_slice.result.now exists
    (seals_in _ _ _ _ (tables_are c.self-inside.view_is) c.seal.new.self c.args.block c.in_ok-waiting.ensures.ok) (records_are _ _ _ _ (tables_are c.self-inside.view_is)) same (nothing_counts c.as_slice.result.now c.args.func.now _))

pub returns-then-is_empty-2-clause-counts : goal.returns-then-is_empty-2-clause-counts
returns-then-is_empty-2-clause-counts c = λ exists.
    let same : c.as_slice-then-is_empty-2.result.now ≡ pending_of (sealed_of c.self.inside.tables c.args.block) = first_of (search rules, grind (arith, common_steps)) in
    rw (← c.self.view_is)
    (sealing_counts c.args.block c.args.func.now c.complete_locally.new.func c.self.inside.tables (state_of c.self-inside.inside.0.1.0.variables c.seal.new.self c.self-inside.inside.0.1.0.tracking) c.complete_locally.new.self c.as_slice-then-is_empty-2.result.now exists
    (seals_in _ _ _ _ (tables_are c.self-inside.view_is) c.seal.new.self c.args.block c.in_ok-waiting.ensures.ok) (records_are _ _ _ _ (tables_are c.self-inside.view_is)) same
    (zeros_count c.as_slice-then-is_empty-2.result.now c.args.func.now c.complete_locally.new.func _ c.complete_locally.new.self c.complete_locally.ensures.at_most c.complete_locally.ensures.records
    c.complete_locally.ensures.blocks))

pub returns-in_err-complete_all-clause-counts : goal.returns-in_err-complete_all-clause-counts
returns-in_err-complete_all-clause-counts c = λ exists.
    let same : c.as_slice-2.result.now ≡ pending_of (sealed_of c.self.inside.tables c.args.block) = first_of (search rules, grind (arith, common_steps)) in
    let p = err_from_is_err_and c.from_residual-in_err-complete_all.result c.from_residual-in_err-complete_all.ensures.1 in
    rw (p.1, p.2, ← c.self.view_is)
    (counts_as (sealing_counts c.args.block c.args.func.now c.complete_all.new.func c.self.inside.tables (state_of c.self-inside.inside.0.1.0.variables c.seal.new.self c.self-inside.inside.0.1.0.tracking) c.complete_all.new.self c.as_slice-2.result.now exists
    (seals_in _ _ _ _ (tables_are c.self-inside.view_is) c.seal.new.self c.args.block c.in_ok-waiting.ensures.ok) (records_are _ _ _ _ (tables_are c.self-inside.view_is)) same c.in_err-complete_all.ensures.counts))

pub returns-clause-counts : goal.returns-clause-counts
returns-clause-counts c = λ exists.
    let same : c.as_slice-2.result.now ≡ pending_of (sealed_of c.self.inside.tables c.args.block) = first_of (search rules, grind (arith, common_steps)) in
    rw (← c.self.view_is)
    (counts_any (counts_made (sealing_counts c.args.block c.args.func.now c.complete_all.new.func c.self.inside.tables (state_of c.self-inside.inside.0.1.0.variables c.seal.new.self c.self-inside.inside.0.1.0.tracking) c.complete_all.new.self c.as_slice-2.result.now exists
    (seals_in _ _ _ _ (tables_are c.self-inside.view_is) c.seal.new.self c.args.block c.in_ok-waiting.ensures.ok) (records_are _ _ _ _ (tables_are c.self-inside.view_is)) same c.in_ok-complete_all.ensures.counts)))
