use Rattle.std.proofs.Common.{◌∙◌, ap, subst}
use Rattle.std.specs.Prelude.{Err}
use Rattle.std.proofs.lemmas.Result.{err_from_is_err_and}
use Rattle.clif_ir.specs.Body.{Body}
use Rattle.clif_replay.specs.Replay.{ReplayMakes}
use Rattle.clif_replay.proofs.Replays.{of-none, told-answer, told-as}
use Rattle.clif_replay.proofs.script.replay_noted.Goals as goal

pub returns-in_err-build : goal.returns-in_err-build
returns-in_err-build g c =
    let p = err_from_is_err_and c.from_residual.result c.from_residual.ensures.1 in
    let none = p.1 ∙ ap Err p.2 in
    let told = told-as c.args.config c.args.calls.now c.args.name c.args.signature c.with_name_signature-func.result c.in_err-build.field-0.0 c.from_residual.result c.with_name_signature-func.ensures none c.in_err-build.ensures.told in
    record {
      same_meaning = of-none c.from_residual.result _ _ none;
      built = of-none c.from_residual.result _ _ none;
      edges_match = of-none c.from_residual.result _ _ none;
      name = of-none c.from_residual.result _ _ none;
      context = c.build.ensures.context;
      misuse = told.misuse;
      refused = told.refused;
      table_full = told.table_full;
      verdict = told.verdict;
    }

pub returns : goal.returns
returns g c =
    let done = subst (λ (start : Body). ReplayMakes c.args.calls.now start.name start.signature c.args.config c.args.region _ c.build.new.func) c.with_name_signature-func.ensures c.in_ok-build.ensures.finished in
    let told = told-answer c.args.config c.args.calls.now c.args.name c.args.signature _ done.accepted in
    record {
      same_meaning = done.same_meaning;
      built = done.built;
      edges_match = done.edges_match;
      name = done.named;
      context = c.build.ensures.context;
      misuse = told.misuse;
      refused = told.refused;
      table_full = told.table_full;
      verdict = told.verdict;
    }
