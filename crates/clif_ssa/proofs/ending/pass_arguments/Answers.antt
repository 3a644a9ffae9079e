use Rattle.std.proofs.Common.{rules, arith, refl}
use Rattle.std.proofs.lemmas.Grind.{common_steps}
use Rattle.clif_ssa.proofs.Constructing.{constructs_none, constructs_same, constructs_then}
use Rattle.clif_ssa.proofs.Constructed.{argument_made}
use Rattle.clif_ssa.proofs.ending.pass_arguments.Goals as goal

pub loop-place-init : goal.loop-place-init
loop-place-init c = (refl, refl, refl, refl, refl, constructs_none c.args.func.now)

pub loop-place-preserved : goal.loop-place-preserved
loop-place-preserved c = (
  first_of (search rules, grind (arith, common_steps)),
  first_of (search rules, grind (arith, common_steps)),
  first_of (search rules, grind (arith, common_steps)),
  first_of (search rules, grind (arith, common_steps)),
  first_of (search rules, grind (arith, common_steps)),
  constructs_then c.args.func.now c.loop-place.func c.append_branch_argument.new.self c.loop-place.invariant.5
      (argument_made c.loop-place.func c.append_branch_argument.new.self _ _ _ c.in_ok-append_branch_argument.ensures.ok),
)

pub returns-in_err-append_branch_argument-clause-constructs :
    goal.returns-in_err-append_branch_argument-clause-constructs
returns-in_err-append_branch_argument-clause-constructs c =
    constructs_then c.args.func.now c.loop-place.func c.append_branch_argument.new.self c.loop-place.invariant.5
    (constructs_same c.loop-place.func c.append_branch_argument.new.self c.in_err-append_branch_argument.ensures.err)

pub returns-clause-constructs : goal.returns-clause-constructs
returns-clause-constructs c = c.loop-place.invariant.5
