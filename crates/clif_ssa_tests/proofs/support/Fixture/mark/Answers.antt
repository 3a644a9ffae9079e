-- A variable is marked.
use Rattle.clif_ssa_tests.proofs.Names.{marked-named}
use Rattle.clif_ssa_tests.proofs.support.Fixture.mark.Goals as goal

pub invariant_of-self : goal.invariant_of-self
invariant_of-self c = record {
  named = marked-named c.mark_var_needs_stack_map.result c.args.self.now.func c.args.self.now.ssa c.mark_var_needs_stack_map.new.self _
      c.mark_var_needs_stack_map.ensures.ok c.mark_var_needs_stack_map.ensures.err c.args.self.now.named;
}
