use Rattle.std.proofs.Common.{◌≡◌, ◌∙◌, ap, subst, rules, arith}
use Rattle.std.proofs.lemmas.Grind.{common_steps}
use Rattle.clif_nodes.specs.declared.nodes.ValueOrigin.TheVariants.{Param}
use Rattle.clif_ir.specs.Body.{Body, value_at, block_at}
use Rattle.clif_ir.specs.Consistent.{IsOrigin}
use Rattle.clif_instructions.specs.Members.{Stands}
use Rattle.clif_ir.specs.Whole.{body_of}
use Rattle.clif_ir.proofs.function.Function.param_block.Goals as goal

pub returns-clause-stands : goal.returns-clause-stands
returns-clause-stands c =
    let origin : (value_at c.args.self.now c.args.param).origin ≡ Param c.in-Param.block = first_of (search rules, grind (arith, common_steps)) in
    let own : (value_at (body_of c.self.inside) c.args.param).origin ≡ Param c.in-Param.block = ap (λ (f : Body). (value_at f c.args.param).origin) c.self.view_is ∙ origin in
    subst (λ (f : Body). Stands c.args.param (block_at f c.in-Param.block).params) c.self.view_is
    (subst (IsOrigin (body_of c.self.inside) c.args.param) own (c.self.invariant.consistent.origins c.args.param (grind (arith, common_steps)))).1
