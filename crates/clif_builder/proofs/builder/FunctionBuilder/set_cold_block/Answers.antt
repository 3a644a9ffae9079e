use Rattle.clif_builder.specs.Order.{IsInOrder}
use Rattle.clif_builder.specs.Growth.{Grows}
use Rattle.clif_builder.proofs.Growing.{Grows-cold}
use Rattle.clif_builder.proofs.Remembered.{remembers_valued}
use Rattle.clif_builder.proofs.Named.{kept_still}
use Rattle.clif_builder.proofs.Ordered.{order-cold}
use Rattle.std.proofs.Common.{List, [], ◌∷◌, ◌++◌, ap, sym, subst, refl, arith}
use Rattle.clif_ir.specs.Body.{Body, value_at}
use Rattle.clif_ssa.specs.Ssa.{NamesExist}
use Rattle.clif_meaning.specs.Request.{AnsweredCall, SetColdBlock}
use Rattle.clif_builder.specs.Ledger.{LedgerAgrees, ledger_of}
use Rattle.clif_builder.specs.StandsFor.{StandsIn}
use Rattle.clif_builder.proofs.Marking.{cold, cold_stands, names_cold}
use Rattle.clif_builder.proofs.Fitting.{fits_still}
use Rattle.clif_builder.proofs.builder.FunctionBuilder.set_cold_block.Goals as goal

pub invariant_of-self : goal.invariant_of-self
invariant_of-self g c = record {
  named = kept_still c.args.self.now.func.now _ c.args.self.now.ctx.now.parts _ _
      (λ names. subst (λ (f : Body). NamesExist f c.args.self.now.ctx.now.parts.ssa) (sym c.set_cold_block.ensures) (names_cold c.args.self.now.func.now c.args.self.now.ctx.now.parts.ssa c.args.block names))
      (λ order. subst (λ (f : Body). IsInOrder f c.args.self.now.ctx.now.parts) (sym c.set_cold_block.ensures) (order-cold c.args.self.now.func.now c.args.self.now.ctx.now.parts c.args.block order))
      (fits_still c.args.self.now.func.now _ c.args.self.now.ctx.now.parts (λ v there. ap (λ (h : Body). (value_at h v).ty) c.set_cold_block.ensures))
      c.args.self.now.named;
}

pub returns-clause-ledger : goal.returns-clause-ledger
returns-clause-ledger g c = λ calls name agrees names.
    let after : List AnsweredCall = calls ++ record { request = SetColdBlock name; numbers = [] } ∷ [] in
    subst (λ (f : Body). LedgerAgrees after (ledger_of after) f c.args.self.now.ctx.now.parts c.args.self.now.position) (sym c.set_cold_block.ensures)
    (cold calls c.args.self.now.func.now c.args.self.now.ctx.now.parts c.args.self.now.position name c.args.block agrees names)

pub returns-clause-stands : goal.returns-clause-stands
returns-clause-stands g c = λ signature calls name stands names.
    let after : List AnsweredCall = calls ++ record { request = SetColdBlock name; numbers = [] } ∷ [] in
    subst (λ (f : Body). StandsIn signature after f c.args.self.now.ctx.now.parts c.args.self.now.position) (sym c.set_cold_block.ensures)
    (cold_stands signature calls c.args.self.now.func.now c.args.self.now.ctx.now.parts c.args.self.now.position name c.args.block stands
    (cold calls c.args.self.now.func.now c.args.self.now.ctx.now.parts c.args.self.now.position name c.args.block stands.ledger names))

pub returns-clause-goes_on : goal.returns-clause-goes_on
returns-clause-goes_on g c =
    let grows = subst (Grows c.args.self.now.func.now) (sym c.set_cold_block.ensures) (Grows-cold c.args.self.now.func.now c.args.block) in
    record {
      grows = grows;
      remembers = λ x b _. remembers_valued x b c.args.self.now.func.now _ _ _ (ap (λ (f : Body). f.values) c.set_cold_block.ensures) refl;
      current = λ current. (current.0, current.1, omega (arith, current.2, grows.2), current.3);
    }
