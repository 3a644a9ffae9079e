use Rattle.std.proofs.Common.{refl}
use Rattle.clif_builder.proofs.Needing.{needing, never_told, value_marks, value_needed}
use Rattle.clif_builder.proofs.Tracking.{kept_tracked, tracks_made, tracks_refused}
use Rattle.clif_builder.proofs.Fitting.{fits_recorded}
use Rattle.clif_builder.proofs.builder.FunctionBuilder.declare_value_needs_stack_map.Goals as goal

pub returns-then-self-clause-records : goal.returns-then-self-clause-records
returns-then-self-clause-records g c = tracks_refused c.args.self.now _ c.if-self.true

pub returns-clause-records : goal.returns-clause-records
returns-clause-records g c =
    tracks_made c.args.self.now _ c.record_value-recorded.result _ c.if-self.false (record { func = refl; ctx = refl; region = refl }) refl refl refl c.is_err-self.ensures.value
    c.record_value-recorded.ensures.ok c.record_value-recorded.ensures.err c.record_value-recorded.ensures.only_memory

pub invariant_of-self : goal.invariant_of-self
invariant_of-self g c = record {
  named = kept_tracked c.record_value-recorded.result c.args.self.now.func.now c.args.self.now.ctx.now.parts _ _ _ _ c.if-self.false c.is_err-self.ensures.value
      c.record_value-recorded.ensures.ok c.record_value-recorded.ensures.err
      (fits_recorded c.args.self.now.func.now c.args.self.now.ctx.now.parts c.args.value (record { exists = c.requires.exists; fits = c.requires.fits })) c.args.self.now.named;
}

pub returns-then-self-clause-told : goal.returns-then-self-clause-told
returns-then-self-clause-told g c = λ name. never_told c.args.self.now _ _

pub returns-clause-told : goal.returns-clause-told
returns-clause-told g c = λ name.
    needing c.args.self.now _ c.record_value-recorded.result _ _ _ (value_marks c.args.self.now name c.args.value)
    (value_needed c.args.self.now name c.args.value) refl refl c.record_value-recorded.ensures.ok
