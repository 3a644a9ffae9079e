-- The words are the name, the value's word and the reason's.
use Rattle.std.proofs.Common.{List, ℕ, ◌∷◌, [], ap, subst, sym, ◌∙◌}
use Rattle.clif_calls.specs.declared.plan.Plan.{Plan}
use Rattle.clif_text.specs.Grammar.{IsPlain}
use Rattle.clif_arguments.specs.Scope.{names_of}
use Rattle.clif_text.proofs.instructions.read_cond_trap_call.Goals as goal

pub returns : goal.returns
returns c =
    let one = c.in_ok-c.ensures.ok in
    let reason = c.in_ok-code.ensures.ok in
    let names = names_of c.args.args.now.scope.now in
    let words = one.0 ∷ reason.0 ∷ [] in
    (words, one.1 ∙ ap (λ rest. one.0 ∷ rest) reason.1, subst (λ (p : Plan). IsPlain names (c.args.head.now ∷ words) p) (sym c.cond_trap.ensures) (one.0, reason.0, ap (λ (head : List ℕ). head ∷ words) c.requires, one.2, reason.2))
