-- The names so far were given.
use Rattle.std.proofs.Common.{◌+◌, take}
use Rattle.clif_words.specs.Cursor.{texts}
use Rattle.clif_arguments.specs.Given.{first_answer}
use Rattle.clif_text.proofs.Giving.{GivenSoFar}
use Rattle.clif_text.proofs.reader.give_names.Given as goal

abbrev pub invariant-loop-word : goal.invariant-loop-word
invariant-loop-word l = GivenSoFar l.answers.instruction l.place (l.given + first_answer l.answers.instruction) (texts (take l.word-index l.names)) l.fn.scope l.scope
