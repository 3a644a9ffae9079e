use Rattle.std.proofs.Common.{◌<◌, ◌∙◌, ap, length, sym, subst}
use Rattle.std.specs.Prelude.{IfSome}
use Rattle.clif_instructions.specs.Members.{next_in}
use Rattle.clif_nodes.specs.Links.{links_at}
use Rattle.clif_ir.specs.Body.{Body, block_at, inst_at}
use Rattle.clif_ir.specs.Consistent.{IsConsistent}
use Rattle.clif_ir.specs.Whole.{body_of}
use Rattle.clif_ir.proofs.Orders.{next_in-below}
use Rattle.clif_ir.proofs.Rows.{next_read}
use Rattle.clif_ir.proofs.function.Function.next_inst.Goals as goal

pub returns-clause-exact : goal.returns-clause-exact
returns-clause-exact c =
    let exists : c.args.inst < length (body_of c.self.inside).insts = subst (λ (f : Body). c.args.inst < length f.insts) (sym c.self.view_is) c.requires in
    c.next_of.ensures ∙ ap (λ links. (links_at links c.args.inst).next) c.deref.ensures.value
    ∙ next_read (body_of c.self.inside) c.self.inside.blocks.items c.self.inside.inst_links.items c.args.inst c.self.invariant.consistent c.self.invariant.threaded exists
    ∙ ap (λ (f : Body). next_in (block_at f (inst_at f c.args.inst).block).insts c.args.inst) c.self.view_is

pub returns-clause-exists : goal.returns-clause-exists
returns-clause-exists c =
    let known : IsConsistent c.args.self.now = subst IsConsistent c.self.view_is c.self.invariant.consistent in
    subst (λ o. IfSome o (λ next. next < length c.args.self.now.insts)) (sym (returns-clause-exact c)) (next_in-below _ _ _ (λ k inside. (known.insts_known (inst_at c.args.self.now c.args.inst).block k inside).0))
