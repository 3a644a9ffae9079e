use Rattle.std.proofs.Common.{[], ◌∷◌, sym, subst}
use Rattle.std.specs.Prelude.{◌≡◌, ◌<◌, map, length, Some}
use Rattle.clif_ir.specs.Body.{Body}
use Rattle.clif_resolution.specs.Answers.{value_of}
use Rattle.clif_resolution.proofs.Planning.{second-exists}
use Rattle.clif_resolution.proofs.plans.ternary.Goals as goal

pub like-requires : goal.like-requires
like-requires g c =
    let it = c.in_ok-test in
    let found = subst (λ (f : Body). map (value_of f c.args.answers.now) c.args.args.now ≡ map Some (it.test ∷ it.x ∷ it.y ∷ [])) c.func-func.ensures it.ensures.found in
    subst (λ (f : Body). it.x < length f.values) (sym c.func-func.ensures)
    (second-exists c.args.builder.now c.args.answers.now c.args.args.now it.test it.x (it.y ∷ []) c.requires.values found)
