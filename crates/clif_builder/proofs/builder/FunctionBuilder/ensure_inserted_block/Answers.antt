use Rattle.clif_ir.specs.Body.{Body}
use Rattle.clif_builder.proofs.Remembered.{remembers_valued}
use Rattle.clif_builder.proofs.GoingOn.{goes_nowhere, goes_on}
use Rattle.clif_builder.specs.Growth.{Grows}
use Rattle.clif_builder.proofs.Growing.{Grows-inserted, on_ok_step, same_values-inserted}
use Rattle.clif_builder.proofs.Framed.{filled-begun, inserted-types}
use Rattle.clif_builder.proofs.Named.{kept_by}
use Rattle.clif_builder.proofs.Ordered.{order-ensured}
use Rattle.clif_builder.proofs.Standing.{current_exists}
use Rattle.std.proofs.Common.{ap, refl, subst, sym, ◌∙◌}
use Rattle.clif_ssa.specs.Ssa.{SsaState}
use Rattle.clif_builder.proofs.Calls.{same_looks, told, made, by_memory}
use Rattle.clif_builder.proofs.Marking.{ensured, ensured_stands}
use Rattle.clif_builder.proofs.Fitting.{fits_kept, on_ok_all}
use Rattle.clif_builder.proofs.builder.FunctionBuilder.ensure_inserted_block.Goals as goal

pub invariant_of-self : goal.invariant_of-self
invariant_of-self g c =
    let done = c.begin_block-begun.ensures in
    record {
      named = kept_by c.begin_block-begun.result _ _ _ _ _ _ c.if-self.false c.is_err-self.ensures.value done.names
          (order-ensured c.begin_block-begun.result c.args.self.now.func.now _ c.args.self.now.ctx.now.parts _ c.in-Some.block
          (current_exists c.args.self.now c.requires.current c.in-Some.block c.in-Some.is) done.function done.status done.ssa done.variables)
          (λ order fits. fits_kept c.begin_block-begun.result c.args.self.now.func.now _ c.args.self.now.ctx.now.parts _
          (inserted-types c.begin_block-begun.result c.args.self.now.func.now _ c.in-Some.block done.function) (on_ok_all c.begin_block-begun.result (ap (λ (s : SsaState). s.tracking) done.ssa))
          (on_ok_all c.begin_block-begun.result done.variables.0) fits)
          c.args.self.now.named;
    }

pub returns-clause-told : goal.returns-clause-told
returns-clause-told g c =
    told c.args.self.now _ c.begin_block-begun.result _ _
    (λ calls agrees _.
    let done = c.begin_block-begun.ensures in
    ensured calls _ _ _ _ _ c.in-Some.block _ agrees c.in-Some.is done.function done.status done.ssa done.variables)
    (λ signature calls stands _ ledger.
    let done = c.begin_block-begun.ensures in
    ensured_stands signature calls _ _ _ _ _ c.in-Some.block _ stands c.in-Some.is done.function done.status done.ssa ledger)

pub returns-clause-call : goal.returns-clause-call
returns-clause-call g c =
    made c.args.self.now _ c.begin_block-begun.result (record { func = refl; ctx = refl; region = refl }) refl refl c.if-self.false (by_memory _ c.begin_block-begun.ensures.only_memory) c.is_err-self.ensures.value
    (same_looks _ _ c.begin_block-begun.ensures.ssa) (inserted-types c.begin_block-begun.result c.args.self.now.func.now _ c.in-Some.block c.begin_block-begun.ensures.function)
    (filled-begun c.begin_block-begun.result c.args.self.now.ctx.now.parts c.begin_block-begun.new.ctx c.in-Some.block c.begin_block-begun.ensures.status)

pub returns-clause-goes_on : goal.returns-clause-goes_on
returns-clause-goes_on g c =
    let done = c.begin_block-begun.ensures in
    goes_on c.args.self.now _ c.begin_block-begun.result (returns-clause-call g c)
    (on_ok_step c.begin_block-begun.result _ _ (λ function. subst (Grows c.args.self.now.func.now) (sym function) (Grows-inserted c.args.self.now.func.now c.in-Some.block)) done.function)
    (λ x b. on_ok_step c.begin_block-begun.result _ _ (λ function. remembers_valued x b c.args.self.now.func.now _ _ _ (ap (λ (f : Body). f.values) function ∙ same_values-inserted c.args.self.now.func.now c.in-Some.block) done.ssa) done.function)

pub returns-then-self-clause-goes_on : goal.returns-then-self-clause-goes_on
returns-then-self-clause-goes_on g c = goes_nowhere (λ x b. Unit {0}) c.args.self.now _ _
