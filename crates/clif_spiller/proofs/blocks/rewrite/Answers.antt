use Rattle.std.proofs.Common.{◌∙◌, ◌<◌, ◌≤◌, ℕ, List, length, get_or, ap, subst}
use Rattle.clif_spiller.proofs.Keeping.{goes_further, goes_on_refl, plan_stays}
use Rattle.clif_spiller.proofs.Progressing.Rewriting.{all_blocks, next_block, no_block_yet}
use Rattle.clif_spiller.proofs.blocks.rewrite.Goals as goal

pub loop-block-init : goal.loop-block-init
loop-block-init c = (
  goes_on_refl (length c.args.func.now.blocks) c.args.func.now c.args.slots.now c.requires.slots,
  no_block_yet c.args.plan.now c.args.func.now c.args.slots.now,
)

pub rewrite_block-requires-clause-plan : goal.rewrite_block-requires-clause-plan
rewrite_block-requires-clause-plan c =
    plan_stays (length c.args.func.now.blocks) c.args.func.now c.loop-block.func c.loop-block.invariant.0.keeps c.args.plan.now c.requires.plan

pub loop-block-preserved : goal.loop-block-preserved
loop-block-preserved c = (
  goes_further c.args.func.now c.args.slots.now c.loop-block.func c.loop-block.slots c.rewrite_block.new.func c.rewrite_block.new.slots
      c.loop-block.invariant.0 c.in_ok-rewrite_block.ensures.ok,
  next_block c.args.plan.now c.args.func.now c.args.slots.now c.loop-block.block-index c.block-item.result c.loop-block.func c.loop-block.slots
      c.rewrite_block.new.func c.rewrite_block.new.slots (subst (λ (xs : List ℕ). c.loop-block.block-index < length xs) c.order-block-items.ensures c.loop-block-test.true)
      (c.block-item.is ∙ ap (λ (xs : List ℕ). get_or xs c.loop-block.block-index c.block-item.result) c.order-block-items.ensures)
      c.loop-block.invariant.1 c.in_ok-rewrite_block.ensures.rewrites,
)

pub returns-clause-ok : goal.returns-clause-ok
returns-clause-ok c = c.loop-block.invariant.0

pub returns-clause-rewrites : goal.returns-clause-rewrites
returns-clause-rewrites c =
    all_blocks c.args.plan.now c.args.func.now c.args.slots.now c.loop-block.block-index c.loop-block.func c.loop-block.slots
    (subst (λ (xs : List ℕ). length xs ≤ c.loop-block.block-index) c.order-block-items.ensures c.loop-block-test.false) c.loop-block.invariant.1
