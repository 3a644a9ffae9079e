-- The words are the name with the type behind it, and the value's word.
use Rattle.std.proofs.Common.{List, ℕ, ◌∷◌, [], ap, subst, sym}
use Rattle.clif_calls.specs.declared.plan.Plan.{Plan}
use Rattle.clif_text.specs.Grammar.{IsPlain}
use Rattle.clif_arguments.specs.Scope.{names_of}
use Rattle.clif_text.proofs.instructions.read_convert_call.Goals as goal

pub returns : goal.returns
returns c =
    let one = c.in_ok-x.ensures.ok in
    let names = names_of c.args.args.now.scope.now in
    let words = one.0 ∷ [] in
    (words, one.1, subst (λ (p : Plan). IsPlain names (c.args.head.now ∷ words) p) (sym c.convert.ensures) (c.args.suffix.now, one.0, ap (λ (head : List ℕ). head ∷ words) c.requires, c.in-Some.ensures, one.2))
