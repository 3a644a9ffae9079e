use Rattle.std.proofs.Common.{◌∷◌, [], refl, inr, subst, sym}
use Rattle.std.specs.Int.{w32}
use Rattle.std.proofs.lemmas.Int.{to_z-of_z}
use Rattle.clif_arguments.specs.Arguments.{IsLastOffset}
use Rattle.clif_arguments.proofs.args.Args.last_offset.Goals as goal

pub returns-in-Some-clause-ok : goal.returns-in-Some-clause-ok
returns-in-Some-clause-ok c =
    let word = c.in_ok-word.word.now in
    let is = c.in-Some.ensures in
    (word ∷ [], c.in_ok-word.ensures.ok, subst (IsLastOffset (word ∷ [])) (sym (to_z-of_z w32 c.in-Some.number is.fits)) (inr (word, refl, is)))
