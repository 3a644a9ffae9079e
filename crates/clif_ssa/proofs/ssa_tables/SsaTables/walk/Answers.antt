use Rattle.std.proofs.Common.{rules, ◌≡◌, ◌<◌, ◌∙◌, ◌+◌, ◌++◌, ◌∷◌, [], ap, length, arith}
use Rattle.std.proofs.lemmas.Grind.{common_steps}
use Rattle.clif_instructions.specs.Members.{Stands}
use Rattle.clif_ssa.proofs.Walks.{once-further, below-further, fewer-passed}
use Rattle.clif_ssa.proofs.ssa_tables.SsaTables.walk.Goals as goal

pub loop-at_hand-smaller : goal.loop-at_hand-smaller
loop-at_hand-smaller c =
    let grown : c.push.new.self ≡ c.loop-at_hand.passed ++ c.loop-at_hand.reached ∷ [] = search rules in
    let new : Stands c.loop-at_hand.reached c.loop-at_hand.passed → ⊥ = search rules in
    let there : c.loop-at_hand.reached < length c.args.self.now.blocks = search rules in
    let fewer : length c.loop-at_hand.passed < length c.args.self.now.blocks =
    fewer-passed (length c.args.self.now.blocks) c.loop-at_hand.passed c.loop-at_hand.reached
    (once-further c.loop-at_hand.passed c.loop-at_hand.reached c.loop-at_hand.invariant.1 new)
    (below-further (length c.args.self.now.blocks) c.loop-at_hand.passed c.loop-at_hand.reached c.loop-at_hand.invariant.2 there) in
    let count : length c.push.new.self ≡ length c.loop-at_hand.passed + 1 = ap length grown ∙ grind (arith, common_steps) in
    omega (arith, fewer, count)
