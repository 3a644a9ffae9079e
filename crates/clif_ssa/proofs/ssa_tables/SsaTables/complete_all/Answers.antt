use Rattle.std.proofs.Common.{rules, ◌<◌, ◌≤◌, ◌+◌, List, ◌∷◌, sym, length, drop, arith}
use Rattle.std.specs.Prelude.{Contains, Err}
use Rattle.clif_records.specs.declared.tables.Pending.{Pending}
use Rattle.clif_ssa.specs.Running.{stage}
use Rattle.clif_ssa.proofs.CountedOnce.{once_same}
use Rattle.clif_ssa.proofs.CountedLooks.{item_counts, item_stops}
use Rattle.clif_ssa.proofs.CountedSteps.{counts_any, counts_made, counts_none, counts_room}
use Rattle.clif_ssa.proofs.Constructing.{tells_more_none, tells_more_then}
use Rattle.clif_ssa.proofs.Waited.{drop-item, all-further}
use Rattle.clif_ssa.proofs.Pooling.{pools_none}
use Rattle.clif_ssa.proofs.SealPools.{full_further, pools_further, same_type}
use Rattle.clif_ssa.proofs.LeavesSteps.{leaves_none, leaves_then}
use Rattle.clif_ssa.proofs.Steps.{ends_as, ends_ok, ends_wider}
use Rattle.std.proofs.lemmas.Result.{err_from_is_err_and}
use Rattle.clif_ssa.proofs.ssa_tables.SsaTables.complete_all.Goals as goal

pub complete_parameter-requires-clause-param_exists : goal.complete_parameter-requires-clause-param_exists
complete_parameter-requires-clause-param_exists c =
    let inside : c.loop-pending.pending-index < length c.args.waiting.now = search rules in
    let here : Contains c.args.waiting.now c.pending-item.result = (c.loop-pending.pending-index, inside, sym c.pending-item.is) in
    let was : c.pending-item.result.param < length c.args.func.now.values = c.requires.params_exist c.pending-item.result here in
    let more : length c.args.func.now.values ≤ length c.loop-pending.func.values = c.loop-pending.invariant.leaves.more.values in
    omega (arith, was, more)

pub loop-pending-init : goal.loop-pending-init
loop-pending-init c = record {
  completes = λ n rest. rest;
  idle = c.requires.idle;
  named = c.requires.named;
  leaves = leaves_none c.args.func.now c.args.self.now;
  tells = tells_more_none c.args.func.now c.args.look_up.now.zeros;
  pools = λ h u rest. rest;
  counts = counts_none (length c.args.waiting.now) c.args.func.now c.args.self.now;
  once = λ before. before;
}

pub loop-pending-preserved : goal.loop-pending-preserved
loop-pending-preserved c =
    let inside : c.loop-pending.pending-index < length c.args.waiting.now = search rules in
    record {
      completes = λ n rest.
          c.loop-pending.invariant.completes n
          (all-further c.args.block c.loop-pending.pending-index c.args.waiting.now c.pending-item.result
          (stage c.loop-pending.func c.loop-pending.self c.loop-pending.look_up) (stage c.complete_parameter.new.func c.complete_parameter.new.self c.complete_parameter.new.look_up) n
          (drop-item c.args.waiting.now c.loop-pending.pending-index c.pending-item.result inside c.pending-item.is) c.in_ok-complete_parameter.ensures.completes rest);
      idle = c.in_ok-complete_parameter.ensures.idle;
      counts =
          item_counts c.args.waiting.now c.pending-item.result c.loop-pending.pending-index (length c.args.waiting.now) c.args.func.now c.loop-pending.func c.complete_parameter.new.func
          c.args.self.now c.loop-pending.self c.complete_parameter.new.self
          (drop-item c.args.waiting.now c.loop-pending.pending-index c.pending-item.result inside c.pending-item.is) (c.loop-pending.pending-index, inside, sym c.pending-item.is)
          c.loop-pending.invariant.leaves.more.blocks c.loop-pending.invariant.counts (counts_made c.in_ok-complete_parameter.ensures.counts);
      named = c.complete_parameter.ensures.leaves.names c.loop-pending.invariant.named;
      leaves = leaves_then c.args.func.now c.args.self.now c.loop-pending.func c.loop-pending.self c.complete_parameter.new.func c.complete_parameter.new.self c.loop-pending.invariant.leaves c.complete_parameter.ensures.leaves;
      pools = λ h u rest.
          c.loop-pending.invariant.pools h u
          (pools_further c.loop-pending.pending-index c.args.waiting.now c.pending-item.result c.args.func.now c.loop-pending.func c.loop-pending.self c.complete_parameter.new.func c.complete_parameter.new.self h u
          (drop-item c.args.waiting.now c.loop-pending.pending-index c.pending-item.result inside c.pending-item.is)
          (same_type c.args.func.now c.loop-pending.func c.args.waiting.now c.pending-item.result c.loop-pending.invariant.leaves.constructs c.requires.params_exist
          (c.loop-pending.pending-index, inside, sym c.pending-item.is))
          c.complete_parameter.ensures.pools rest);
      once = λ before.
          c.complete_parameter.ensures.looks_once (drop (c.loop-pending.pending-index + 1) c.args.waiting.now)
          (once_same c.loop-pending.self c.args.block (drop c.loop-pending.pending-index c.args.waiting.now) (c.pending-item.result ∷ drop (c.loop-pending.pending-index + 1) c.args.waiting.now)
          (drop-item c.args.waiting.now c.loop-pending.pending-index c.pending-item.result inside c.pending-item.is) (c.loop-pending.invariant.once before));
      tells =
          tells_more_then c.args.func.now c.loop-pending.func c.complete_parameter.new.func c.args.look_up.now.zeros c.loop-pending.look_up.zeros c.complete_parameter.new.look_up.zeros
          c.complete_parameter.ensures.leaves.constructs c.loop-pending.invariant.tells c.in_ok-complete_parameter.ensures.tells;
    }

pub returns-in_err-complete_parameter-clause-looks_once :
    goal.returns-in_err-complete_parameter-clause-looks_once
returns-in_err-complete_parameter-clause-looks_once c = λ before.
    let inside : c.loop-pending.pending-index < length c.args.waiting.now = search rules in
    let rest : List Pending = drop (c.loop-pending.pending-index + 1) c.args.waiting.now in
    (c.complete_parameter.ensures.looks_once rest
    (once_same c.loop-pending.self c.args.block (drop c.loop-pending.pending-index c.args.waiting.now) (c.pending-item.result ∷ rest)
    (drop-item c.args.waiting.now c.loop-pending.pending-index c.pending-item.result inside c.pending-item.is) (c.loop-pending.invariant.once before))).once

pub returns-clause-looks_once : goal.returns-clause-looks_once
returns-clause-looks_once c = λ before. (c.loop-pending.invariant.once before).once

pub returns-clause-tells : goal.returns-clause-tells
returns-clause-tells c = c.loop-pending.invariant.tells

-- WHERE RECORDS ARE -----------------------------------------------------------------------------------------------

-- WHAT IS LEFT, AND HOW IT ENDS -----------------------------------------------------------------------------------

pub returns-in_err-complete_parameter-clause-completes : goal.returns-in_err-complete_parameter-clause-completes
returns-in_err-complete_parameter-clause-completes c =
    let p = err_from_is_err_and c.from_residual.result c.from_residual.ensures.1 in
    rw p.1 tt

pub returns-in_err-complete_parameter-clause-tells : goal.returns-in_err-complete_parameter-clause-tells
returns-in_err-complete_parameter-clause-tells c =
    let p = err_from_is_err_and c.from_residual.result c.from_residual.ensures.1 in
    rw p.1 tt

pub returns-in_err-complete_parameter-clause-leaves : goal.returns-in_err-complete_parameter-clause-leaves
returns-in_err-complete_parameter-clause-leaves c =
    leaves_then c.args.func.now c.args.self.now c.loop-pending.func c.loop-pending.self c.complete_parameter.new.func c.complete_parameter.new.self c.loop-pending.invariant.leaves c.complete_parameter.ensures.leaves

pub returns-in_err-complete_parameter-clause-ends : goal.returns-in_err-complete_parameter-clause-ends
returns-in_err-complete_parameter-clause-ends c =
    let inside : c.loop-pending.pending-index < length c.args.waiting.now = search rules in
    let p = err_from_is_err_and c.from_residual.result c.from_residual.ensures.1 in
    rw (p.1, p.2)
    (ends_wider c.complete_parameter.new.func (Err c.in_err-complete_parameter.field-0.0)
    (full_further c.args.waiting.now c.pending-item.result c.args.func.now c.loop-pending.func c.complete_parameter.new.func
    (c.loop-pending.pending-index, inside, sym c.pending-item.is)
    (same_type c.args.func.now c.loop-pending.func c.args.waiting.now c.pending-item.result c.loop-pending.invariant.leaves.constructs c.requires.params_exist
    (c.loop-pending.pending-index, inside, sym c.pending-item.is)))
    (ends_as c.complete_parameter.new.func c.in_err-complete_parameter.field-0.0 c.in_err-complete_parameter.ensures.ends))

pub returns-clause-leaves : goal.returns-clause-leaves
returns-clause-leaves c =
    c.loop-pending.invariant.leaves

pub returns-clause-ends : goal.returns-clause-ends
returns-clause-ends c =
    ends_ok c.loop-pending.func _

pub returns-in_err-complete_parameter-clause-pools : goal.returns-in_err-complete_parameter-clause-pools
returns-in_err-complete_parameter-clause-pools c =
    let inside : c.loop-pending.pending-index < length c.args.waiting.now = search rules in
    c.loop-pending.invariant.pools c.complete_parameter.new.func c.complete_parameter.new.self
    (pools_further c.loop-pending.pending-index c.args.waiting.now c.pending-item.result c.args.func.now c.loop-pending.func c.loop-pending.self c.complete_parameter.new.func c.complete_parameter.new.self c.complete_parameter.new.func c.complete_parameter.new.self
    (drop-item c.args.waiting.now c.loop-pending.pending-index c.pending-item.result inside c.pending-item.is)
    (same_type c.args.func.now c.loop-pending.func c.args.waiting.now c.pending-item.result c.loop-pending.invariant.leaves.constructs c.requires.params_exist
    (c.loop-pending.pending-index, inside, sym c.pending-item.is))
    c.complete_parameter.ensures.pools (pools_none _ c.complete_parameter.new.func c.complete_parameter.new.self))

pub returns-clause-pools : goal.returns-clause-pools
returns-clause-pools c = c.loop-pending.invariant.pools c.loop-pending.func c.loop-pending.self (pools_none _ c.loop-pending.func c.loop-pending.self)

-- HOW MUCH IT MAKES -----------------------------------------------------------------------------------------------

pub returns-in_err-complete_parameter-clause-counts : goal.returns-in_err-complete_parameter-clause-counts
returns-in_err-complete_parameter-clause-counts c =
    let inside : c.loop-pending.pending-index < length c.args.waiting.now = search rules in
    let p = err_from_is_err_and c.from_residual.result c.from_residual.ensures.1 in
    rw (p.1, p.2)
    (item_stops c.args.waiting.now c.pending-item.result c.loop-pending.pending-index (length c.args.waiting.now) c.args.func.now c.loop-pending.func c.complete_parameter.new.func
    c.args.self.now c.loop-pending.self c.complete_parameter.new.self c.in_err-complete_parameter.field-0.0
    (drop-item c.args.waiting.now c.loop-pending.pending-index c.pending-item.result inside c.pending-item.is) (c.loop-pending.pending-index, inside, sym c.pending-item.is)
    c.loop-pending.invariant.leaves.more.blocks c.loop-pending.invariant.counts c.in_err-complete_parameter.ensures.counts)

pub returns-clause-counts : goal.returns-clause-counts
returns-clause-counts c = counts_any (counts_room _ 0 (omega arith) c.loop-pending.invariant.counts)
