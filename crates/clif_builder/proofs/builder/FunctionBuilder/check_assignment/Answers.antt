use Rattle.std.proofs.Common.{ap, sym, ◌∙◌}
use Rattle.std.specs.Prelude.{Some}
use Rattle.clif_builder.proofs.builder.FunctionBuilder.check_assignment.Goals as goal

pub returns-then-is_same_type-clause-same_type : goal.returns-then-is_same_type-clause-same_type
returns-then-is_same_type-clause-same_type g c =
    (sym c.var_type.ensures ∙ c.in-Some.is) ∙ ap Some (c.is_same_type.ensures.0 c.if-is_same_type.true ∙ c.value_type.ensures)
