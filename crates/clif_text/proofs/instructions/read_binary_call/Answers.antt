-- The words are the name and a word for each value.
use Rattle.std.proofs.Common.{List, ℕ, ◌∷◌, ap, subst, sym}
use Rattle.clif_calls.specs.declared.plan.Plan.{Plan}
use Rattle.clif_text.specs.Grammar.{IsPlain}
use Rattle.clif_arguments.specs.Scope.{names_of}
use Rattle.clif_text.proofs.instructions.read_binary_call.Goals as goal

pub returns : goal.returns
returns c =
    let two = c.in_ok-x.ensures.ok in
    let names = names_of c.args.args.now.scope.now in
    (two.0, two.1, subst (λ (p : Plan). IsPlain names (c.args.head.now ∷ two.0) p) (sym c.binary.ensures) (two.0, ap (λ (head : List ℕ). head ∷ two.0) c.requires, two.2))
