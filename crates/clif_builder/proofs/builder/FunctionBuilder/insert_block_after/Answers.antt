use Rattle.std.proofs.Common.{ap}
use Rattle.clif_types.specs.declared.error.BuildError.{BuildError}
use Rattle.clif_ir.specs.Body.{value_at}
use Rattle.clif_builder.specs.Order.{IsInOrder}
use Rattle.clif_builder.specs.Growth.{Grows}
use Rattle.clif_builder.proofs.Growing.{Grows-laid}
use Rattle.clif_builder.proofs.Remembered.{remembers_valued}
use Rattle.clif_builder.proofs.GoingOn.{goes_nowhere, goes_on}
use Rattle.clif_builder.proofs.Framed.{filled-same}
use Rattle.clif_builder.proofs.Named.{kept_still}
use Rattle.clif_builder.proofs.Ordered.{order-laid}
use Rattle.std.proofs.Common.{List, [], ◌∷◌, ◌++◌, refl, sym, subst}
use Rattle.std.specs.Prelude.{Ok}
use Rattle.clif_builder.proofs.Calls.{told, made, by_success}
use Rattle.clif_ir.specs.Body.{Body}
use Rattle.clif_ssa.specs.Ssa.{NamesExist}
use Rattle.clif_meaning.specs.Request.{AnsweredCall, InsertBlockAfter}
use Rattle.clif_builder.specs.Ledger.{LedgerAgrees, ledger_of}
use Rattle.clif_builder.specs.StandsFor.{StandsIn}
use Rattle.clif_builder.proofs.Laid.{laid, laid_stands, names_laid}
use Rattle.clif_builder.proofs.Fitting.{fits_still}
use Rattle.clif_builder.proofs.builder.FunctionBuilder.insert_block_after.Goals as goal

pub invariant_of-self : goal.invariant_of-self
invariant_of-self g c = record {
  named = kept_still c.args.self.now.func.now _ c.args.self.now.ctx.now.parts _ _
      (λ names. subst (λ (f : Body). NamesExist f c.args.self.now.ctx.now.parts.ssa) (sym c.insert_block_after.ensures)
      (names_laid c.args.self.now.func.now c.args.self.now.ctx.now.parts.ssa c.args.block c.args.after names))
      (λ order. subst (λ (f : Body). IsInOrder f c.args.self.now.ctx.now.parts) (sym c.insert_block_after.ensures)
      (order-laid c.args.self.now.func.now c.args.self.now.ctx.now.parts c.args.block c.args.after order))
      (fits_still c.args.self.now.func.now _ c.args.self.now.ctx.now.parts (λ v there. ap (λ (h : Body). (value_at h v).ty) c.insert_block_after.ensures))
      c.args.self.now.named;
}

pub returns-clause-told : goal.returns-clause-told
returns-clause-told g c = λ name behind.
    told c.args.self.now _ (Ok tt) _ _
    (λ calls agrees names.
    let after : List AnsweredCall = calls ++ record { request = InsertBlockAfter name behind; numbers = [] } ∷ [] in
    subst (λ (f : Body). LedgerAgrees after (ledger_of after) f c.args.self.now.ctx.now.parts c.args.self.now.position) (sym c.insert_block_after.ensures)
    (laid calls c.args.self.now.func.now c.args.self.now.ctx.now.parts c.args.self.now.position name behind c.args.block c.args.after agrees names.0 names.1))
    (λ signature calls stands names ledger.
    let after : List AnsweredCall = calls ++ record { request = InsertBlockAfter name behind; numbers = [] } ∷ [] in
    subst (λ (f : Body). StandsIn signature after f c.args.self.now.ctx.now.parts c.args.self.now.position) (sym c.insert_block_after.ensures)
    (laid_stands signature calls c.args.self.now.func.now c.args.self.now.ctx.now.parts c.args.self.now.position name behind c.args.block c.args.after stands
    (laid calls c.args.self.now.func.now c.args.self.now.ctx.now.parts c.args.self.now.position name behind c.args.block c.args.after stands.ledger names.0 names.1)))

pub returns-clause-call : goal.returns-clause-call
returns-clause-call g c =
    made c.args.self.now _ (Ok tt) (record { func = refl; ctx = refl; region = refl }) refl refl c.if-self.false (by_success tt) c.if-self.false
    (λ once. once) (λ v inside. ap (λ (f : Body). (value_at f v).ty) c.insert_block_after.ensures)
    (filled-same {A = Unit {0}} {E = BuildError} (Ok tt) c.args.self.now.ctx.now.parts c.args.self.now.ctx.now.parts refl)

pub returns-clause-goes_on : goal.returns-clause-goes_on
returns-clause-goes_on g c =
    goes_on c.args.self.now _ (Ok tt) (returns-clause-call g c)
    (subst (Grows c.args.self.now.func.now) (sym c.insert_block_after.ensures) (Grows-laid c.args.self.now.func.now c.args.block c.args.after))
    (λ x b. remembers_valued x b c.args.self.now.func.now _ _ _ (ap (λ (f : Body). f.values) c.insert_block_after.ensures) refl)

pub returns-then-self-clause-goes_on : goal.returns-then-self-clause-goes_on
returns-then-self-clause-goes_on g c = goes_nowhere (λ x b. Unit {0}) c.args.self.now _ _
