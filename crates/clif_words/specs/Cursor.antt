-- The words that are left of a line. Source: own.
use Rattle.std.specs.Prelude.{◌≡◌, ◌++◌, ℕ, List, map, drop}
use Rattle.clif_words.specs.declared.error.Expected.TheVariants as expected
use Rattle.clif_words.specs.declared.error.Fault.{Fault}
use Rattle.clif_words.specs.declared.error.Fault.TheVariants as fault
use Rattle.clif_types.specs.MemFlags.{MemFlagsShape}
use Rattle.clif_words.specs.declared.cursor.Cursor.{Cursor}
use Rattle.clif_words.specs.Spelling.{AreFlags}
use Rattle.std.specs.Borrow.{Bor}

-- the texts of these words
abbrev pub texts : List (Bor (List ℕ)) → List (List ℕ)
texts words = map (λ (word : Bor (List ℕ)). word.now) words

-- the words that weren't taken, in order
abbrev pub words_left : Cursor → List (List ℕ)
words_left cursor = texts (drop cursor.taken cursor.words.now)

-- the words that were taken are these flags
abbrev pub TakesFlags : (old new : Cursor) → MemFlagsShape → Type 0
TakesFlags old new flags = (words : List (List ℕ)) × (words_left old ≡ words ++ words_left new) × AreFlags words flags

-- the next word was looked at
abbrev pub Looks : (old new : Cursor) → Type 0
Looks old new = new.looked ≡ old.taken

-- the place of the word for which the line was refused: of the next one where nothing more was expected, else of the one
-- that was looked at last
abbrev pub refused_place : Cursor → Fault → ℕ
refused_place cursor (fault.Expected expected.End) = cursor.taken
refused_place cursor _ = cursor.looked
