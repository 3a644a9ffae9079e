use Rattle.std.proofs.Common.{◌≡◌, ◌∙◌, ap, subst, ℕ, true, false, if◌then◌else◌, [], Bool, List, refl, sym}
use Rattle.clif_instructions.specs.Members.{next_in, stands_in}
use Rattle.clif_ir.specs.Body.{block_at, inst_at}
use Rattle.clif_safepoints.proofs.Rows.{walk_end, walk_inside, walk_step}
use Rattle.clif_spiller.proofs.blocks.push_insts.Goals as goal

pub loop-next-preserved : goal.loop-next-preserved
loop-next-preserved c =
    let at = walk_inside c.loop-next.invariant c.in-Some.is in
    let home : (inst_at c.args.func.now c.in-Some.inst).block ≡ c.args.block =
    subst (λ inst. (inst_at c.args.func.now inst).block ≡ c.args.block) at.1 (c.law_consistent.ensures.insts_known c.args.block _ at.0).1 in
    walk_step c.loop-next.invariant c.in-Some.is (c.law_consistent.ensures.insts_once c.args.block) c.in_ok-push.ensures.items
    (c.next_inst-next.ensures.exact ∙ ap (λ (block : ℕ). next_in (block_at c.args.func.now block).insts c.in-Some.inst) home)

-- a block of the layout
inside : (c : Bool) (xs : List ℕ) → c ≡ true → xs ≡ (if c then xs else [])
inside true xs is = refl
inside false xs is = cc

pub returns-clause-ok : goal.returns-clause-ok
returns-clause-ok c =
    walk_end c.loop-next.invariant c.in_default.is
    ∙ inside (stands_in c.args.block c.args.func.now.layout) (block_at c.args.func.now c.args.block).insts (sym c.is_block_inserted.ensures.test ∙ c.if-not-is_block_inserted.false)
