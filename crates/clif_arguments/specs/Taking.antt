-- What reading an argument takes of its line. Source: own; docs/SCRIPTS.md describes the format.
use Rattle.std.specs.Prelude.{◌≡◌, ◌++◌, ◌∷◌, ℕ, List}
use Rattle.clif_calls.specs.declared.call.Name.{Name}
use Rattle.clif_words.specs.Cursor.{words_left}
use Rattle.clif_arguments.specs.declared.args.Args.{Args}
use Rattle.clif_arguments.specs.Arguments.{AreAnswers, IsAnswer, Names}
use Rattle.clif_arguments.specs.Scope.{names_of}

-- what names stand for
abbrev pub names_in : Args → Names
names_in args = names_of args.scope.now

-- the next word was taken, and it stands for this
abbrev pub TakesWord : {A : Type 0} → (old new : Args) → (List ℕ → A → Type 0) → A → Type 0
TakesWord old new Is value = (word : List ℕ) × (words_left old.words ≡ word ∷ words_left new.words) × Is word value

-- the next words were taken, and they stand for this
abbrev pub TakesWords : {A : Type 0} → (old new : Args) → (List (List ℕ) → A → Type 0) → A → Type 0
TakesWords old new Are value = (words : List (List ℕ)) × (words_left old.words ≡ words ++ words_left new.words) × Are words value

-- the next word is an answer's
abbrev pub TakesAnswer : (old new : Args) → Name → Type 0
TakesAnswer old new = TakesWord old new (IsAnswer (names_in old))

-- the next words are these answers'
abbrev pub TakesAnswers : (old new : Args) → List Name → Type 0
TakesAnswers old new = TakesWords old new (AreAnswers (names_in old))
