use Rattle.std.proofs.Common.{List, sym, ◌∙◌, subst}
use Rattle.std.specs.Prelude.{◌≡◌, map, Some}
use Rattle.clif_ir.specs.Body.{Body}
use Rattle.clif_calls.specs.declared.call.Name.{Name}
use Rattle.clif_resolution.specs.Conditions.{IsFound}
use Rattle.clif_resolution.specs.Answers.{argument_of}
use Rattle.clif_resolution.proofs.Found.{found-leads, found-one}
use Rattle.clif_resolution.proofs.names.edge_named.Goals as goal

pub returns : goal.returns
returns g c =
    let b = c.args.builder.now in
    let passed = subst (λ (f : Body). map (argument_of f c.args.answers.now) c.args.edge.now.args.items ≡ map Some c.in_ok-args.args) c.func.ensures
    (subst (λ (names : List Name). map (argument_of c.func.result.now c.args.answers.now) names ≡ map Some c.in_ok-args.args) c.as_slice.ensures.value c.in_ok-args.ensures.passed) in
    let found : IsFound b c.args.answers.now c.args.edge.now (record { block = c.in-Some.block; args = c.in_ok-args.args }) =
    record { target = sym c.block_named.ensures ∙ c.in-Some.is; unsealed = sym c.may_seal.ensures ∙ c.if-not-may_seal.false; passed = passed } in
    found-one _ found (found-leads b c.args.answers.now c.args.edge.now _ found)
