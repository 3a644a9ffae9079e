use Rattle.std.proofs.Common.{◌≡◌, ◌<◌, ◌∙◌, ap, arith, rules, length, sym, subst}
use Rattle.std.specs.Prelude.{IfSome}
use Rattle.std.proofs.lemmas.Grind.{common_steps}
use Rattle.clif_instructions.specs.Members.{Stands}
use Rattle.clif_nodes.specs.Links.{links_at}
use Rattle.clif_ir.specs.Body.{Body, block_at, inst_at}
use Rattle.clif_ir.specs.Reading.{place_in_block}
use Rattle.clif_ir.specs.Whole.{body_of, place_behind}
use Rattle.clif_ir.proofs.Rows.{IsBefore, before_read}
use Rattle.clif_ir.proofs.function.Function.place_before.Goals as goal

pub returns-clause-place : goal.returns-clause-place
returns-clause-place c =
    let exists : c.args.inst < length (body_of c.self.inside).insts = subst (λ (f : Body). c.args.inst < length f.insts) (sym c.self.view_is) c.requires in
    let before : IsBefore c.args.self.now c.args.inst c.previous_of.result =
    subst (λ f. IsBefore f c.args.inst c.previous_of.result) c.self.view_is
    (before_read (body_of c.self.inside) c.self.inside.blocks.items c.self.inside.inst_links.items c.args.inst c.previous_of.result c.self.invariant.consistent c.self.invariant.threaded exists
    (c.previous_of.ensures ∙ ap (λ links. (links_at links c.args.inst).previous) c.deref.ensures.value)) in
    let same : c.index-2.result.now.block ≡ (inst_at c.args.self.now c.args.inst).block = first_of (search rules, grind (arith, common_steps)) in
    subst (λ b. place_behind c.previous_of.result (block_at c.args.self.now b).insts ≡ place_in_block c.args.self.now c.args.inst) (sym same) before.place

pub returns-clause-stands : goal.returns-clause-stands
returns-clause-stands c =
    let exists : c.args.inst < length (body_of c.self.inside).insts = subst (λ (f : Body). c.args.inst < length f.insts) (sym c.self.view_is) c.requires in
    let before : IsBefore c.args.self.now c.args.inst c.previous_of.result =
    subst (λ f. IsBefore f c.args.inst c.previous_of.result) c.self.view_is
    (before_read (body_of c.self.inside) c.self.inside.blocks.items c.self.inside.inst_links.items c.args.inst c.previous_of.result c.self.invariant.consistent c.self.invariant.threaded exists
    (c.previous_of.ensures ∙ ap (λ links. (links_at links c.args.inst).previous) c.deref.ensures.value)) in
    let same : c.index-2.result.now.block ≡ (inst_at c.args.self.now c.args.inst).block = first_of (search rules, grind (arith, common_steps)) in
    subst (λ b. IfSome c.previous_of.result (λ p. Stands p (block_at c.args.self.now b).insts)) (sym same) before.stands
