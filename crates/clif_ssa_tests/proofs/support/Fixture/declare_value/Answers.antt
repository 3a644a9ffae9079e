-- A value is declared to be needed.
use Rattle.clif_ssa_tests.proofs.Names.{tracked-named}
use Rattle.clif_ssa_tests.proofs.support.Fixture.declare_value.Goals as goal

pub invariant_of-self : goal.invariant_of-self
invariant_of-self g c = record { named = tracked-named c.args.self.now.func c.args.self.now.ssa _ c.args.self.now.named }
