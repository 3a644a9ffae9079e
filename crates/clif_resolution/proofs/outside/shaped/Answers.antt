use Rattle.std.proofs.Common.{◌≡◌, List, ◌∙◌, subst, sym}
use Rattle.std.specs.Prelude.{map, Some}
use Rattle.std.proofs.lemmas.Bool.{and_from}
use Rattle.clif_calls.specs.Outside.{operands_of}
use Rattle.clif_calls.specs.declared.call.Name.{Name}
use Rattle.clif_resolution.specs.Answers.{all_values, value_of}
use Rattle.clif_resolution.specs.Callings.{has_called}
use Rattle.clif_resolution.proofs.Found.{address-found, all-found, call-found, found-one}
use Rattle.clif_resolution.proofs.outside.shaped.Goals as goal

pub returns-in-Call : goal.returns-in-Call
returns-in-Call c =
    let f = c.args.func.now in
    let answers = c.args.answers.now in
    let called = c.args.called.now in
    let values = c.in_ok-args.args in
    let found = subst (λ (names : List Name). map (value_of f answers) names ≡ map Some values) (c.as_slice.ensures.value ∙ c.in_ok-names.ensures) c.in_ok-args.ensures.values in
    let there = call-found f answers called c.in-Call.function c.in-Call.args c.in-Some.func_ref values c.in-Call.is (sym c.in-Some.is ∙ c.function_named.ensures) in
    found-one _ (values, found, there.0)
    (and_from (has_called answers called) (all_values f answers (operands_of called)) there.1 (all-found f answers (operands_of called) values found))

pub returns : goal.returns
returns c =
    let f = c.args.func.now in
    let answers = c.args.answers.now in
    let called = c.args.called.now in
    let values = c.in_ok-args.args in
    let found = subst (λ (names : List Name). map (value_of f answers) names ≡ map Some values) (c.as_slice.ensures.value ∙ c.in_ok-names.ensures) c.in_ok-args.ensures.values in
    let there = address-found f answers called c.in-CallIndirect.signature c.in-CallIndirect.callee c.in-CallIndirect.args c.in-Some-signature_named.sig_ref values c.in-CallIndirect.is (sym c.in-Some-signature_named.is ∙ c.signature_named.ensures) in
    found-one _ (values, found, there.0)
    (and_from (has_called answers called) (all_values f answers (operands_of called)) there.1 (all-found f answers (operands_of called) values found))
