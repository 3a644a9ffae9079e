-- The words of a run, with the zeros that it leaves out at the front. Source: own.
use Rattle.std.specs.Prelude.{ℕ, List}
use Rattle.clif_number_sets.specs.declared.word_run.WordRun.{WordRun}
use Rattle.clif_number_sets.specs.Words.{spread}

abbrev pub run_words : WordRun → List ℕ
run_words run = spread run.first run.words.items
