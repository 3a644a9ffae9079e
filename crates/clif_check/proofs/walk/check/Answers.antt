use Rattle.std.proofs.Common.{◌<◌, length, rules}
use Rattle.clif_check.specs.WellTyped.{IsFirstError, IsWellTyped, insts_in_order, insts_of}
use Rattle.clif_check.proofs.Errors.{in_layout}
use Rattle.clif_check.proofs.Walks.{all_flat, fewer, finish, of_next, step}
use Rattle.clif_check.proofs.walk.check.Goals as goal

pub returns-in_err-check_block-clause-first : goal.returns-in_err-check_block-clause-first
returns-in_err-check_block-clause-first c =
    let first : IsFirstError c.args.func.now (insts_in_order c.args.func.now) c.in_err-check_block.field-0.0 =
    in_layout c.args.func.now c.in-Some.block c.in_err-check_block.field-0.0 c.loop-next.invariant c.in-Some.is c.in_err-check_block.ensures.first in
    search rules

pub check_block-requires : goal.check_block-requires
check_block-requires c =
    of_next (λ block. block < length c.args.func.now.blocks) c.loop-next.invariant c.in-Some.is c.law_consistent.ensures.layout_exists

pub next_block-next-requires : goal.next_block-next-requires
next_block-next-requires c =
    of_next (λ block. block < length c.args.func.now.blocks) c.loop-next.invariant c.in-Some.is c.law_consistent.ensures.layout_exists

pub loop-next-smaller : goal.loop-next-smaller
loop-next-smaller c = fewer c.loop-next.invariant c.in-Some.is c.law_consistent.ensures.layout_once c.next_block-next.ensures.exact

pub loop-next-preserved : goal.loop-next-preserved
loop-next-preserved c =
    step c.loop-next.invariant c.in-Some.is c.law_consistent.ensures.layout_once c.in_ok-check_block.ensures.ok c.next_block-next.ensures.exact

pub returns-clause-ok : goal.returns-clause-ok
returns-clause-ok c =
    all_flat (IsWellTyped c.args.func.now) (insts_of c.args.func.now) c.args.func.now.layout (finish c.loop-next.invariant c.in_default.is)
