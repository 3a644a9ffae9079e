use Rattle.std.proofs.Common.{subst, sym}
use Rattle.clif_ssa.specs.Ssa.{NamesExist}
use Rattle.clif_builder.proofs.GoingOn.{goes_nowhere, goes_on, grows_still}
use Rattle.clif_builder.proofs.Framed.{filled-declared, same-types}
use Rattle.clif_builder.proofs.Named.{kept_by}
use Rattle.clif_builder.proofs.Ordered.{order-declared}
use Rattle.std.proofs.Common.{refl}
use Rattle.clif_builder.proofs.Calls.{same_looks, told_by, made}
use Rattle.clif_builder.proofs.Remembered.{remembers_declared}
use Rattle.clif_builder.proofs.LedgerVariables.{declared}
use Rattle.clif_builder.proofs.StandingResults.{declared_stands}
use Rattle.clif_builder.proofs.Fitting.{fits_declared}
use Rattle.clif_builder.proofs.builder.FunctionBuilder.declare_var.Goals as goal

pub returns-clause-told : goal.returns-clause-told
returns-clause-told g c =
    told_by c.args.self.now _ c.declare_var-declared.result _ _
    (λ calls agrees _. declared calls _ _ _ _ c.args.ty _ agrees c.declare_var-declared.ensures.ok c.declare_var-declared.ensures.number)
    (λ signature calls stands _ ledger.
    declared_stands signature calls _ _ _ _ c.args.ty _ stands c.declare_var-declared.ensures.ok ledger)

pub returns-clause-call : goal.returns-clause-call
returns-clause-call g c =
    made c.args.self.now _ c.declare_var-declared.result (record { func = refl; ctx = refl; region = refl }) refl refl c.if-self.false c.declare_var-declared.ensures.never_failed c.is_err-self.ensures.value
    (same_looks _ _ c.declare_var-declared.ensures.ssa) (same-types c.declare_var-declared.result c.args.self.now.func.now)
    (filled-declared c.declare_var-declared.result c.args.self.now.ctx.now.parts c.declare_var-declared.new.self _ c.declare_var-declared.ensures.ok)

pub invariant_of-self : goal.invariant_of-self
invariant_of-self g c = record {
  named = kept_by c.declare_var-declared.result _ _ _ _ _ _ c.if-self.false c.is_err-self.ensures.value
      (λ names. subst (NamesExist c.args.self.now.func.now) (sym c.declare_var-declared.ensures.ssa) names)
      (order-declared c.declare_var-declared.result c.args.self.now.func.now c.args.self.now.ctx.now.parts c.declare_var-declared.new.self c.args.ty c.declare_var-declared.ensures.ok)
      (λ order fits. fits_declared c.declare_var-declared.result c.args.self.now.func.now c.args.self.now.ctx.now.parts c.declare_var-declared.new.self c.args.ty c.declare_var-declared.ensures.ok fits)
      c.args.self.now.named;
}

pub returns-clause-goes_on : goal.returns-clause-goes_on
returns-clause-goes_on g c =
    goes_on c.args.self.now _ c.declare_var-declared.result (returns-clause-call g c) (grows_still c.declare_var-declared.result c.args.self.now.func.now _ refl)
    (λ x b. remembers_declared c.declare_var-declared.result x b c.args.self.now.func.now _ _ c.args.ty c.declare_var-declared.ensures.ok)

pub returns-then-self-clause-goes_on : goal.returns-then-self-clause-goes_on
returns-then-self-clause-goes_on g c = goes_nowhere (λ x b. Unit {0}) c.args.self.now _ _
