use Rattle.std.proofs.Common.{refl}
use Rattle.clif_builder.proofs.Needing.{needing, never_told, variable_marks, variable_needed}
use Rattle.clif_builder.proofs.Tracking.{kept_tracked, tracks_made, tracks_refused}
use Rattle.clif_builder.proofs.Fitting.{fits_marked}
use Rattle.clif_builder.proofs.builder.FunctionBuilder.declare_var_needs_stack_map.Goals as goal

pub returns-then-self-clause-marks : goal.returns-then-self-clause-marks
returns-then-self-clause-marks g c = tracks_refused c.args.self.now _ c.if-self.true

pub returns-clause-marks : goal.returns-clause-marks
returns-clause-marks g c =
    tracks_made c.args.self.now _ c.mark_var-marked.result _ c.if-self.false (record { func = refl; ctx = refl; region = refl }) refl refl refl c.is_err-self.ensures.value
    c.mark_var-marked.ensures.ok c.mark_var-marked.ensures.err c.mark_var-marked.ensures.only_memory

pub invariant_of-self : goal.invariant_of-self
invariant_of-self g c = record {
  named = kept_tracked c.mark_var-marked.result c.args.self.now.func.now c.args.self.now.ctx.now.parts _ _ _ _ c.if-self.false c.is_err-self.ensures.value
      c.mark_var-marked.ensures.ok c.mark_var-marked.ensures.err (fits_marked c.args.self.now.func.now c.args.self.now.ctx.now.parts c.args.variable c.requires.fits) c.args.self.now.named;
}

pub returns-then-self-clause-told : goal.returns-then-self-clause-told
returns-then-self-clause-told g c = never_told c.args.self.now _ _

pub returns-clause-told : goal.returns-clause-told
returns-clause-told g c =
    needing c.args.self.now _ c.mark_var-marked.result _ _ _ (variable_marks c.args.self.now c.args.variable c.requires.fits)
    (λ calls named. variable_needed c.args.self.now c.args.variable c.requires.unused calls) refl refl c.mark_var-marked.ensures.ok
