use Rattle.std.proofs.Common.{ℕ, List, [], subst}
use Rattle.std.proofs.lemmas.List.{append-nil}
use Rattle.clif_words.specs.Words.{AreWords}
use Rattle.clif_words.proofs.words.words_of.Goals as goal

pub returns : goal.returns
returns c =
    subst (λ (words : List (List ℕ)). AreWords words c.args.line.now) (append-nil _) (c.loop-word.invariant.1 [] c.in_default.ensures)
