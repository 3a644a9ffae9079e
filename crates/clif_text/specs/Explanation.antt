-- What is printed of a line that can't be read, after the reason. Source: own; docs/SCRIPTS.md has the same texts.
use Rattle.std.specs.Prelude.{◌≡◌, ℕ, ◌+◌, ◌⊎◌, ◌++◌, [], List, length, codes, Option, Some, None, IfSome}
use Rattle.std.specs.Borrow.{Bor}
use Rattle.std.specs.Fmt.{decimal}
use Rattle.std.specs.Str.{chars}
use Rattle.clif_words.specs.declared.error.Expected.TheVariants as expected
use Rattle.clif_words.specs.declared.error.Fault.{Fault}
use Rattle.clif_words.specs.declared.error.Fault.TheVariants as fault
use Rattle.clif_words.specs.declared.words.WordPlace.{WordPlace}
use Rattle.clif_words.specs.Errors.{expected_text, wanted_by}
use Rattle.clif_words.specs.Spelling.{IsDecimal}
use Rattle.clif_words.specs.Words.{IsPlace}
use Rattle.clif_text.specs.Script.{line_at, IsUnread}
use Rattle.clif_text.specs.declared.explanation.Explanation.{Explanation}
use Rattle.clif_text.specs.declared.explanation.Hint.{Hint}
use Rattle.clif_text.specs.declared.explanation.Hint.TheVariants as hint

-- what helps
abbrev pub hint_text : Hint → List ℕ
hint_text (hint.Variable name) = name.now ++ (codes " is a variable: use_var " ++ name.now)
hint_text hint.Comment = codes "a script has no `;` comments: `#` begins one"
hint_text hint.Block = codes "this is a line of a .clif file: in a script `switch_to_block b` begins a block"
hint_text hint.Brace = codes "this is a line of a .clif file: a script has no `{` and no `}`"
hint_text hint.Alias = codes "this is a line of a .clif file: a script has no second names of values"

-- the word that was found
abbrev pub found_text : Option (Bor (List ℕ)) → List ℕ
found_text None = codes "the line ends"
found_text (Some word) = codes "found `" ++ (word.now ++ codes "`")

-- a line of its own
abbrev pub hint_line : Option Hint → List ℕ
hint_line None = []
hint_line (Some helps) = hint_text helps ++ codes "\n"

-- `column 14: found `i33`, expected a type`, and the hint
abbrev pub explanation_text : Explanation → List ℕ
explanation_text explanation = codes "column " ++ (decimal explanation.column ++ (codes ": " ++ (found_text explanation.found ++ (codes ", expected " ++ (expected_text explanation.expected ++ (codes "\n" ++ hint_line explanation.hint))))))

-- `varN`
abbrev pub IsVariableWord : List ℕ → ℕ → Type 0
IsVariableWord word number = (digits : List ℕ) × (word ≡ codes "var" ++ digits) × IsDecimal digits number

-- the fault is that this name of a variable is where a value should be
abbrev pub NamesVariable : Fault → Bor (List ℕ) → Type 0
NamesVariable why name = ((number : ℕ) × IsVariableWord name.now number) × ((why ≡ fault.UnknownName name expected.Value) ⊎ (why ≡ fault.UnknownName name expected.ValueOrClose))

-- the hint is of a line of another language
abbrev pub IsOfLine : Hint → Type 0
IsOfLine hint.Block = Unit {0}
IsOfLine hint.Brace = Unit {0}
IsOfLine hint.Alias = Unit {0}
IsOfLine _ = ⊥

-- a variable is named only where one is at fault
abbrev pub FitsFault : Fault → Hint → Type 0
FitsFault why (hint.Variable name) = NamesVariable why name
FitsFault why _ = Unit {0}

-- what is found, and where, is a word of the line or its end
pub record IsPlaceIn (line : List ℕ) (explanation : Explanation) : Type 0 where
  pub index : ℕ
  pub place : WordPlace
  pub is_place : IsPlace index line place
  pub found : explanation.found ≡ place.word
  pub column : explanation.column ≡ length (chars place.before.now) + 1

-- it explains this line, which is refused for this fault
pub record ExplainsLine (line : List ℕ) (why : Fault) (explanation : Explanation) : Type 0 where
  pub place : IsPlaceIn line explanation
  pub wanted : explanation.expected ≡ wanted_by why
  pub hint : IfSome explanation.hint (FitsFault why)

-- it explains a line that wasn't read
abbrev pub ExplainsText : List ℕ → Explanation → Type 0
ExplainsText text explanation = (number : ℕ) × (why : Fault) × IsUnread text number × ExplainsLine (line_at text number) why explanation
