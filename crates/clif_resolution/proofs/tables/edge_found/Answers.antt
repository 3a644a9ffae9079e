use Rattle.std.proofs.Common.{List, sym, ◌∙◌, subst}
use Rattle.std.specs.Prelude.{◌≡◌, map, Some}
use Rattle.clif_ir.specs.Body.{Body}
use Rattle.clif_calls.specs.declared.table.Passed.{Passed}
use Rattle.clif_resolution.specs.Conditions.{IsEdge}
use Rattle.clif_resolution.specs.Answers.{passed_in}
use Rattle.clif_resolution.proofs.Found.{edge-there, found-one}
use Rattle.clif_resolution.proofs.tables.edge_found.Goals as goal

pub returns : goal.returns
returns g c =
    let b = c.args.builder.now in
    let passed = subst (λ (f : Body). map (passed_in f c.args.answers.now) c.args.edge.now.args.items ≡ map Some c.in_ok-args.args) c.func.ensures
    (subst (λ (args : List Passed). map (passed_in c.func.result.now c.args.answers.now) args ≡ map Some c.in_ok-args.args) c.as_slice.ensures.value c.in_ok-args.ensures.passed) in
    let found : IsEdge b c.args.answers.now c.args.edge.now (record { block = c.in-Some.block; args = c.in_ok-args.args }) =
    record { target = sym c.block_named.ensures ∙ c.in-Some.is; passed = passed } in
    found-one _ found (edge-there b c.args.answers.now c.args.edge.now _ found)
