use Rattle.std.proofs.Common.{◌<◌, length, sym, subst, rules, arith}
use Rattle.std.specs.Prelude.{IfSome}
use Rattle.std.proofs.lemmas.Grind.{common_steps}
use Rattle.clif_ir.specs.Consistent.{IsConsistent}
use Rattle.clif_ir.proofs.Orders.{get-below}
use Rattle.clif_ir.proofs.function.Function.entry_block.Goals as goal

pub returns-clause-exact : goal.returns-clause-exact
returns-clause-exact c = first_of (search rules, grind (arith, common_steps))

pub returns-clause-exists : goal.returns-clause-exists
returns-clause-exists c =
    let known : IsConsistent c.args.self.now = subst IsConsistent c.self.view_is c.self.invariant.consistent in
    subst (λ o. IfSome o (λ block. block < length c.args.self.now.blocks)) (sym (returns-clause-exact c)) (get-below _ 0 _ known.layout_exists)
