use Rattle.std.proofs.Common.{◌≡◌, List, ◌∙◌, subst}
use Rattle.std.specs.Prelude.{map, Some}
use Rattle.clif_calls.specs.Tables.{tried_operands}
use Rattle.clif_calls.specs.declared.call.Name.{Name}
use Rattle.clif_resolution.specs.Answers.{value_of}
use Rattle.clif_resolution.proofs.Found.{all-found, found-one}
use Rattle.clif_resolution.proofs.exceptions.values_tried.Goals as goal

pub returns : goal.returns
returns c =
    let f = c.args.func.now in
    let answers = c.args.answers.now in
    let values = c.in_ok-values.values in
    let found = subst (λ (names : List Name). map (value_of f answers) names ≡ map Some values) (c.as_slice.ensures.value ∙ c.in_ok-names.ensures) c.in_ok-values.ensures.values in
    found-one values found (all-found f answers (tried_operands c.args.called.now) values found)
