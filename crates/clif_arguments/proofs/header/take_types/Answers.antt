use Rattle.std.proofs.Common.{◌++◌, ◌∷◌, [], ap, sym, subst, ◌∙◌}
use Rattle.clif_arguments.proofs.Headers.{TakesTypes, takes_one_type}
use Rattle.clif_arguments.proofs.header.take_types.Goals as goal

pub loop-ty-preserved : goal.loop-ty-preserved
loop-ty-preserved c =
    let one = c.in-Some.ensures.some in
    let items = c.in_ok-push.ensures.items ∙ ap (λ param. c.loop-ty.params.items ++ param ∷ []) c.new.ensures in
    subst (λ params. TakesTypes c.args.words.now c.take_type.new.self params) (sym items)
    (takes_one_type c.args.words.now c.loop-ty.words c.take_type.new.self c.loop-ty.params.items one.0 c.in-Some.ty c.loop-ty.invariant one.1 one.2)
