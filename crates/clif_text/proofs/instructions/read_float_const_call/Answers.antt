-- The words are the name and the number's word.
use Rattle.std.proofs.Common.{List, ℕ, ◌∷◌, [], ap, subst, sym}
use Rattle.clif_calls.specs.declared.plan.Plan.{Plan}
use Rattle.clif_text.specs.Grammar.{IsPlain}
use Rattle.clif_arguments.specs.Scope.{names_of}
use Rattle.clif_text.proofs.instructions.read_float_const_call.Goals as goal

pub returns-in-Some : goal.returns-in-Some
returns-in-Some c =
    let bits = c.in_ok-bits.ensures.ok in
    let names = names_of c.args.args.now.scope.now in
    let words = bits.0 ∷ [] in
    (words, bits.1, subst (λ (p : Plan). IsPlain names (c.args.head.now ∷ words) p) (sym c.in-Some.ensures.some) (bits.0, ap (λ (head : List ℕ). head ∷ words) c.requires, bits.2))
