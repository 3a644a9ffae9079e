use Rattle.std.proofs.Common.{ap, sym, ◌∙◌}
use Rattle.clif_check.specs.WellTyped.{type_at}
use Rattle.clif_check.proofs.Pairs.{accepted, below_more, refused_at, refused_long, said_no}
use Rattle.clif_check.proofs.Pieces.{HasTypeOf, pairs_types, types_pairs}
use Rattle.clif_check.proofs.parts.have_types.Goals as goal

pub returns-then-values-params : goal.returns-then-values-params
returns-then-values-params c =
    refused_long (HasTypeOf c.args.func.now) c.args.values.now c.args.params.now (types_pairs c.args.func.now c.args.values.now c.args.params.now)
    c.if-values-params.true

pub returns-then-not-same_type : goal.returns-then-not-same_type
returns-then-not-same_type c =
    let typed = c.value_type.ensures ∙ ap (type_at c.args.func.now) c.index-values-place.is in
    refused_at (HasTypeOf c.args.func.now) c.args.values.now c.args.params.now (types_pairs c.args.func.now c.args.values.now c.args.params.now)
    c.loop-place.place c.index-values-place.result _ c.loop-place-test.true
    (said_no c.if-not-same_type.true (λ same. c.same_type.ensures.1 (typed ∙ same)))

pub loop-place-preserved : goal.loop-place-preserved
loop-place-preserved c =
    let typed = c.value_type.ensures ∙ ap (type_at c.args.func.now) c.index-values-place.is in
    below_more (HasTypeOf c.args.func.now) c.args.values.now c.args.params.now c.loop-place.place c.index-values-place.result _
    c.loop-place.invariant c.loop-place-test.true c.if-values-params.false (sym typed ∙ c.same_type.ensures.0 c.if-not-same_type.false)

pub returns : goal.returns
returns c =
    accepted (HasTypeOf c.args.func.now) c.args.values.now c.args.params.now c.loop-place.place
    (pairs_types c.args.func.now c.args.values.now c.args.params.now) c.if-values-params.false c.loop-place.invariant c.loop-place-test.false
