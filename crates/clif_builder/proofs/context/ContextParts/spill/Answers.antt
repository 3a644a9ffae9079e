use Rattle.std.proofs.Common.{ℕ, List, ◌∙◌, ap, subst}
use Rattle.std.specs.Prelude.{Contains}
use Rattle.clif_records.specs.Tracking.{recorded_of}
use Rattle.clif_builder.specs.Context.{ContextState}
use Rattle.clif_builder.proofs.context.ContextParts.spill.Goals as goal

pub run-requires : goal.run-requires
run-requires g c = record {
  recorded = λ value here itself.
      c.requires value
      (subst (λ (values : List ℕ). Contains values value) (c.stack_map_values.ensures ∙ ap (λ (d : ContextState). recorded_of d.ssa.tracking) c.self.view_is) here);
}
