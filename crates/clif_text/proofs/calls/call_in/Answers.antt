use Rattle.std.proofs.Common.{◌∷◌, ◌++◌, ap, sym, subst, ◌∙◌}
use Rattle.std.proofs.lemmas.List.{append-nil}
use Rattle.clif_arguments.specs.Scope.{names_of}
use Rattle.clif_arguments.specs.Taking.{names_in}
use Rattle.clif_text.specs.Grammar.{IsCall}
use Rattle.clif_text.proofs.calls.call_in.Goals as goal

pub returns : goal.returns
returns c =
    let read = c.in_ok-call.ensures in
    let head = c.in_ok-head.head.now in
    let rest = read.1 ∙ (ap (λ left. read.0 ++ left) c.in_ok-end.ensures ∙ append-nil read.0) in
    let words = c.in_ok-head.ensures.ok ∙ ap (λ left. head ∷ left) rest in
    let scope = c.in_ok-head.ensures.scope in
    subst (λ words. IsCall (names_in c.args.args.now) words c.in_ok-call.call) (sym words) (subst (λ at. IsCall (names_of at.now) (head ∷ read.0) c.in_ok-call.call) scope read.2)
