use Rattle.std.proofs.Common.{subst}
use Rattle.std.specs.Prelude.{Bool, IsTrue}
use Rattle.clif_check.proofs.Calls.{normal_matches}
use Rattle.clif_check.proofs.Pairs.{never}
use Rattle.clif_check.proofs.parts.try_call_matches.Goals as goal

pub returns-else-edge_matches : goal.returns-else-edge_matches
returns-else-edge_matches c = (
  λ yes. never (subst (λ (answer : Bool). IsTrue answer) c.if-edge_matches.false yes),
  λ holds. c.edge_matches.ensures.1
      (normal_matches c.args.func.now c.args.exception.now c.signature_returns-returns.result.now c.all_branches.result.now c.in-Some.normal.now
      c.in-Some.items.now (cc) c.all_branches.ensures c.in-Some.ensures.cases.0 holds),
)
