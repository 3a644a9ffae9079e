use Rattle.std.proofs.Common.{◌≡◌, ℕ, ◌<◌, length, ap, ◌∙◌}
use Rattle.clif_instructions.specs.Members.{next_in}
use Rattle.clif_ir.specs.Body.{inst_at}
use Rattle.clif_check.specs.WellTyped.{IsWellTyped, insts_of}
use Rattle.clif_check.proofs.Errors.{in_block}
use Rattle.clif_check.proofs.Walks.{fewer, finish, of_next, start, step}
use Rattle.clif_check.proofs.walk.check_block.Goals as goal
use Rattle.clif_check.proofs.walk.check_block.Goals.{In-Some, After-next_inst-next}

exists : (c : In-Some) → c.in-Some.inst < length c.args.func.now.insts
exists c =
    of_next (λ inst. inst < length c.args.func.now.insts) c.loop-next.invariant c.in-Some.is
    (λ k inside. (c.law_consistent.ensures.insts_known c.args.block k inside).0)

-- the next instruction of its block, which is this one
follows : (c : After-next_inst-next) → c.next_inst-next.result ≡ next_in (insts_of c.args.func.now c.args.block) c.in-Some.inst
follows c =
    let home : (inst_at c.args.func.now c.in-Some.inst).block ≡ c.args.block =
    of_next (λ inst. (inst_at c.args.func.now inst).block ≡ c.args.block) c.loop-next.invariant c.in-Some.is
    (λ k inside. (c.law_consistent.ensures.insts_known c.args.block k inside).1) in
    c.next_inst-next.ensures.exact ∙ ap (λ (block : ℕ). next_in (insts_of c.args.func.now block) c.in-Some.inst) home

pub loop-next-init : goal.loop-next-init
loop-next-init c = start (IsWellTyped c.args.func.now) (insts_of c.args.func.now c.args.block) c.first_inst-next.ensures.exact

pub failing_part-requires : goal.failing_part-requires
failing_part-requires c = exists (goal.at.failing_part-requires c).In-Some

pub returns-in-Some-failing_part-clause-first : goal.returns-in-Some-failing_part-clause-first
returns-in-Some-failing_part-clause-first c =
    in_block c.args.func.now (insts_of c.args.func.now c.args.block) c.in-Some.inst c.in-Some-failing_part.kind c.loop-next.invariant c.in-Some.is
    c.in-Some-failing_part.ensures.some

pub next_inst-next-requires : goal.next_inst-next-requires
next_inst-next-requires c = exists (goal.at.next_inst-next-requires c).In-Some

pub loop-next-smaller : goal.loop-next-smaller
loop-next-smaller c = fewer c.loop-next.invariant c.in-Some.is (c.law_consistent.ensures.insts_once c.args.block) (follows c)

pub loop-next-preserved : goal.loop-next-preserved
loop-next-preserved c =
    step c.loop-next.invariant c.in-Some.is (c.law_consistent.ensures.insts_once c.args.block) (c.failing_part.ensures.none c.in_default-failing_part.is)
    (follows c)

pub returns-clause-ok : goal.returns-clause-ok
returns-clause-ok c = finish c.loop-next.invariant c.in_default.is
