-- A hint of a line of another language fits each fault.
use Rattle.clif_words.specs.declared.error.Fault.{Fault}
use Rattle.clif_text.specs.declared.explanation.Hint.{Hint}
use Rattle.clif_text.specs.declared.explanation.Hint.TheVariants as hint
use Rattle.clif_text.specs.Explanation.{FitsFault, IsOfLine}

pub of_line_fits : (why : Fault) (helps : Hint) → IsOfLine helps → FitsFault why helps
of_line_fits why (hint.Variable name) of_line = absurd of_line
of_line_fits why hint.Comment of_line = tt
of_line_fits why hint.Block of_line = tt
of_line_fits why hint.Brace of_line = tt
of_line_fits why hint.Alias of_line = tt
