use Rattle.std.proofs.Common.{subst}
use Rattle.std.specs.Prelude.{IfOk}
use Rattle.clif_arguments.specs.Scope.{names_of}
use Rattle.clif_text.specs.Grammar.{IsCall}
use Rattle.clif_words.specs.Cursor.{words_left}
use Rattle.clif_text.proofs.calls.call_of.Goals as goal

pub returns : goal.returns
returns c =
    let args = c.new-args in
    let found = c.call_in.result in
    subst (λ words. IfOk found (IsCall (names_of c.args.scope.now) words)) args.ensures.words (subst (λ at. IfOk found (IsCall (names_of at.now) (words_left args.result.words))) args.ensures.scope c.call_in.ensures)
