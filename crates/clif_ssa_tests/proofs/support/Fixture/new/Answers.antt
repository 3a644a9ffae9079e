use Rattle.std.proofs.Common.{sym, subst}
use Rattle.clif_ssa.specs.Ssa.{SsaState, NamesExist}
use Rattle.clif_ssa_tests.proofs.Names.{nothing-named}
use Rattle.clif_ssa_tests.proofs.support.Fixture.new.Goals as goal

pub invariant_of-result : goal.invariant_of-result
invariant_of-result c = record {
  named = subst (λ (s : SsaState). NamesExist c.new-func.result s) (sym c.new.ensures.nothing) (nothing-named c.new-func.result);
}
