-- What a text says. Source: own; docs/SCRIPTS.md describes the same format.
use Rattle.std.specs.Prelude.{◌≡◌, ◌≢◌, ℕ, ◌+◌, ◌-◌, ◌≤◌, ◌⊎◌, ◌++◌, List, [], ◌∷◌, length, take, codes, nat_eq, slice_index_or, Option, None}
use Rattle.std.specs.List.{slice_split, All}
use Rattle.clif_calls.specs.declared.call.Call.{Call}
use Rattle.clif_calls.specs.declared.call.Name.{Name}
use Rattle.clif_words.specs.declared.error.ReadError.{ReadError}
use Rattle.clif_words.specs.declared.error.ReadError.TheVariants as read
use Rattle.clif_arguments.specs.Given.{names_behind, is_instruction, first_answer, GiveNames}
use Rattle.clif_arguments.specs.Arguments.{Names}
use Rattle.clif_text.specs.Grammar.{IsCall}
use Rattle.clif_arguments.specs.Header.{HeaderSaid, IsHeader, name_in, signature_in, pointer_width_in, call_conv_in, no_header}
use Rattle.clif_words.specs.Words.{AreWords, HasWord}
use Rattle.clif_text.specs.declared.reader.Script.{Script}

-- the lines of a text, without their ends; behind the last end there is one more, which may be empty
abbrev pub lines_of : List ℕ → List (List ℕ)
lines_of text = slice_split (λ c. nat_eq c 10) text

-- lines are numbered from 1 on
pub record IsLineNumber (text : List ℕ) (number : ℕ) : Type 0 where
  pub first : 1 ≤ number
  pub last : number ≤ length (lines_of text)

-- the line with this number
abbrev pub line_at : List ℕ → ℕ → List ℕ
line_at text number = slice_index_or (lines_of text) (number - 1) []

-- The words of the line stand for the call; where names are given to its answers, they stand in front of the
-- first `=`.
abbrev pub IsCallLine : Names → List (List ℕ) → List ℕ → Call → Type 0
IsCallLine names given line call = (words : List (List ℕ)) × AreWords words line × (((given ≡ []) × IsCall names words call) ⊎ ((rest : List (List ℕ)) × (words ≡ given ++ codes "=" ∷ rest) × All (λ word. word ≢ codes "=") given × IsCall names rest call))

-- what lines said: of the function and its target, the calls, in order, for each the number of its line, and what given
-- names stand for behind them
pub record Said : Type 0 where
  pub header : HeaderSaid
  pub calls : List Call
  pub numbers : List ℕ
  pub given : List ℕ → Option Name

-- no header line, no call, and no name
abbrev pub nothing_said : Said
nothing_said = record {
  header = no_header;
  calls = [];
  numbers = [];
  given = λ word. None;
}

-- a header line, which has no `=`
pub record SaysHeader (line : List ℕ) (old new : Said) : Type 0 where
  pub words : List (List ℕ)
  pub are : AreWords words line
  pub names_nothing : All (λ word. word ≢ codes "=") words
  pub header : IsHeader words old.header new.header
  pub same : new ≡ record old { header = new.header }

-- one call more, on the line with this number; P holds of what names stand for before it, of the names that are given
-- to its answers, and of the call
pub record SaysCall (P : Names → List (List ℕ) → Call → Type 0) (number : ℕ) (old new : Said) : Type 0 where
  pub call : Call
  pub names : List (List ℕ)
  pub stands : P (names_behind old.calls old.given) names call
  pub header : new.header ≡ old.header
  pub calls : new.calls ≡ old.calls ++ call ∷ []
  pub numbers : new.numbers ≡ old.numbers ++ number ∷ []
  pub given : GiveNames (is_instruction call) (length old.calls) (first_answer (is_instruction call)) names old.given new.given

-- the line with this number has no word, is a header line, or says one call more
abbrev pub LineSays : ℕ → List ℕ → Said → Said → Type 0
LineSays number line old new = (AreWords [] line × (new ≡ old)) ⊎ (SaysHeader line old new ⊎ SaysCall (λ names given call. IsCallLine names given line call) number old new)

-- the same of all these lines, one after the other; the first has this number
abbrev pub LinesSay : ℕ → List (List ℕ) → Said → Said → Type 0
LinesSay number [] old new = new ≡ old
LinesSay number (line ∷ lines) old new = (next : Said) × LineSays number line old next × LinesSay (number + 1) lines next new

-- what was found is what the lines said: the function's name and signature, the target, how outside calls end in a run and how a
-- collector moves there, how a callback answers for alias regions, and the calls with the numbers of their lines
pub record IsScriptOf (said : Said) (found : Script) : Type 0 where
  pub name : found.name ≡ name_in said.header.function
  pub signature : found.signature ≡ signature_in said.header.function
  pub pointer_width : found.config.pointer_width ≡ pointer_width_in said.header.pointer_width
  pub call_conv : found.config.default_call_conv ≡ call_conv_in said.header.call_conv
  pub answers : found.answers.items ≡ said.header.answers
  pub moves : found.moves ≡ said.header.moves
  pub region : found.region ≡ said.header.region
  pub calls : found.calls.items ≡ said.calls
  pub numbers : found.lines.items ≡ said.numbers

-- the lines of the text say what was found
abbrev pub SaysScript : List ℕ → Script → Type 0
SaysScript text found = (said : Said) × LinesSay 1 (lines_of text) nothing_said said × IsScriptOf said found

-- a line that wasn't read: it has a word, and each line before it has none, is a header line or says a call
pub record IsUnread (text : List ℕ) (number : ℕ) : Type 0 where
  pub within : IsLineNumber text number
  pub has_word : HasWord (line_at text number)
  pub before : Said
  pub read_before : LinesSay 1 (take (number - 1) (lines_of text)) nothing_said before

-- a refusal tells such a line
abbrev pub TellsLine : List ℕ → ReadError → Type 0
TellsLine text read.Memory = Unit {0}
TellsLine text (read.Line number fault) = IsUnread text number
