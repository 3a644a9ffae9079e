-- What a replay answers with a function is what the script makes.
use Rattle.std.proofs.Common.{sym}
use Rattle.std.proofs.lemmas.Option.{same_Some}
use Rattle.clif_script.proofs.Answering.{answer_no_error, if_ok_then, made_by_calls, of_value}
use Rattle.clif_script.proofs.program.build_script.Goals as goal

pub returns-clause-makes : goal.returns-clause-makes
returns-clause-makes g c =
    let script = c.args.script in
    if_ok_then c.show.result
    (λ status typed zero. record {
      function = c.in-Ok.func;
      typed = typed zero;
      makes = made_by_calls c.args.region _ _ script.calls.items script.name script.signature script.config c.in-Ok.func c.as_slice.ensures.value
          (record {
            same_meaning = c.in-Ok.ensures.same_meaning;
            built = c.in-Ok.ensures.built;
            edges_match = c.in-Ok.ensures.edges_match;
            named = c.in-Ok.ensures.name;
            accepted = sym (same_Some _ _ (of_value c.in-Ok.func _ (c.in-Ok.ensures.verdict (answer_no_error c.in-Ok.func _) (answer_no_error c.in-Ok.func _))));
          });
    })
    c.show.ensures.typed
