-- What reading one line does. Source: own.
use Rattle.std.specs.Prelude.{◌≡◌, ℕ, Bool, List}
use Rattle.clif_words.specs.declared.error.LineError.{LineError}
use Rattle.clif_words.specs.declared.error.LineError.TheVariants as error
use Rattle.clif_text.specs.declared.reader.Reader.{Reader}
use Rattle.clif_arguments.specs.Header.{header_said}
use Rattle.clif_arguments.specs.Given.{declared_from, variables_from, first_answer, GiveNames}
use Rattle.clif_text.specs.Grammar.{IsCall}
use Rattle.clif_arguments.specs.declared.scope.Scope.{Scope}
use Rattle.clif_arguments.specs.Scope.{given_in, KeepsVariables}
use Rattle.clif_text.specs.declared.reader.Unread.{Unread}
use Rattle.clif_text.specs.Script.{line_at, lines_of, nothing_said, IsUnread, LinesSay, Said, SaysCall, LineSays}
use Rattle.clif_words.specs.Words.{HasWord}

-- what the lines so far said
abbrev pub said_to : Reader → Said
said_to reader = record { header = header_said reader.header; calls = reader.calls.items; numbers = reader.lines.items; given = given_in reader.scope }

-- the scope has the variables that the calls so far declare
pub record IsCounted (reader : Reader) : Type 0 where
  pub declared : reader.scope.declared.items ≡ declared_from 0 reader.calls.items
  pub variables : reader.scope.variables ≡ variables_from 0 reader.calls.items

-- one call more, for which these words stand, and to whose answers these names are given
abbrev pub WordsSay : List (List ℕ) → List (List ℕ) → ℕ → Reader → Reader → Type 0
WordsSay given words number old new = IsCounted old → IsCounted new × SaysCall (λ names others call. (others ≡ given) × IsCall names words call) number (said_to old) (said_to new)

-- what the line says: nothing, a header line's word or one call more
abbrev pub LineAdds : List ℕ → ℕ → Reader → Reader → Type 0
LineAdds line number old new = IsCounted old → IsCounted new × LineSays number line (said_to old) (said_to new)

-- these names were given to the answers of the call at this place
pub record NamesAnswers (instruction : Bool) (place : ℕ) (names : List (List ℕ)) (old new : Scope) : Type 0 where
  pub given : GiveNames instruction place (first_answer instruction) names (given_in old) (given_in new)
  pub keeps : KeepsVariables old new

-- memory was refused, or the line has a word
abbrev pub RefusesWords : List ℕ → LineError → Type 0
RefusesWords line error.Memory = Unit {0}
RefusesWords line (error.Fault why) = HasWord line

-- the lines of the text say this
abbrev pub SaysLines : List ℕ → Said → Type 0
SaysLines text said = LinesSay 1 (lines_of text) nothing_said said

-- for this fault, the line with this number, which can't be read
abbrev pub IsUnreadFor : List ℕ → ℕ → List ℕ → LineError → Type 0
IsUnreadFor text number line error.Memory = Unit {0}
IsUnreadFor text number line (error.Fault why) = IsUnread text number × (line ≡ line_at text number)

-- memory was refused, or the line of the text can't be read
abbrev pub IsUnreadLine : List ℕ → Unread → Type 0
IsUnreadLine text unread = IsUnreadFor text unread.number unread.line.now unread.error
