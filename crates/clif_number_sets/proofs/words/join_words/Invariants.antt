use Rattle.clif_number_sets.proofs.Joining.{Joined}
use Rattle.clif_number_sets.proofs.words.join_words.Given as goal

abbrev pub invariant-loop-number : goal.invariant-loop-number
invariant-loop-number l = Joined l.initial.target l.source l.start l.number l.target l.grown
