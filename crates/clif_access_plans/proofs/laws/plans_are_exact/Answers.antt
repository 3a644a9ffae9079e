use Rattle.clif_access_plans.proofs.Powers
use Rattle.clif_access_plans.proofs.laws.plans_are_exact.Goals as goal

pub returns : goal.returns
returns c = Powers.plans_are_exact
