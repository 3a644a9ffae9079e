-- A new block, which is made known.
use Rattle.std.proofs.Common.{length, arith, ap}
use Rattle.clif_ir.specs.Body.{Body}
use Rattle.clif_ssa_tests.proofs.Names.{same-named}
use Rattle.clif_ssa_tests.proofs.support.Fixture.declare.Goals as goal

pub invariant_of-self-2 : goal.invariant_of-self-2
invariant_of-self-2 c =
    let values = ap (λ (g : Body). length g.values) c.in_ok-block.ensures.ok in
    let insts = ap (λ (g : Body). length g.insts) c.in_ok-block.ensures.ok in
    let state = c.declare_block.ensures in
    record {
      named = same-named c.args.self.now.func c.create_block.new.self c.args.self.now.ssa c.declare_block.new.self
          (record { values = omega (arith, values); insts = omega (arith, insts) }) state.records state.predecessors state.blocks c.args.self.now.named;
    }
