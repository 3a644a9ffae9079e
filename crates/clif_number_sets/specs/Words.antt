-- Words of 64 bits as marks: the mark of a place is bit place % 64 of word place / 64. Source: own.
use Rattle.std.specs.Prelude.{◌≡◌, ◌<◌, ◌≤◌, ◌+◌, ◌-◌, ◌/◌, ◌%◌, ◌==◌, ◌++◌, ℕ, Bool, true, false, List, Option, Some, None, length, map, replicate, slice_index_or, bit_or}
use Rattle.std.specs.List.{range_with_len}
use Rattle.std.specs.Int.{bit_at}

-- a word that the list lacks is zero
abbrev pub word_of : List ℕ → ℕ → ℕ
word_of words number = slice_index_or words number 0

-- whether a bit of a word is set
abbrev pub has_bit : ℕ → ℕ → Bool
has_bit word bit = bit_at word bit == 1

-- the mark of a place
abbrev pub mark_in : List ℕ → ℕ → Bool
mark_in words place = has_bit (word_of words (place / 64)) (place % 64)

-- the marks of the places below a size
unfoldable pub marks_of : ℕ → List ℕ → List Bool
marks_of size words = map (mark_in words) (range_with_len 0 size)

-- no place from a size on is marked
abbrev pub NoneFrom : ℕ → List ℕ → Type 0
NoneFrom size words = (place : ℕ) → size ≤ place → mark_in words place ≡ false

-- how many words have a bit for each place below a size
abbrev pub words_for : ℕ → ℕ
words_for size = (size + 63) / 64

-- words that begin at a number; those before it are zero
unfoldable pub spread : ℕ → List ℕ → List ℕ
spread first words = replicate first 0 ++ words

-- each new word has the bits of the old one and of the other one
abbrev pub AreUnited : List ℕ → List ℕ → List ℕ → Type 0
AreUnited old others new = (number : ℕ) → word_of new number ≡ bit_or (word_of old number) (word_of others number)

-- a place is marked that was not
abbrev pub HasNew : List ℕ → List ℕ → Type 0
HasNew old new = (place : ℕ) × (mark_in old place ≡ false) × (mark_in new place ≡ true)

-- each word that has a bit is one from a number to before an end
pub record LieWithin (first end : ℕ) (words : List ℕ) : Type 0 where
  pub inside : end ≤ length words
  pub before : (number : ℕ) → number < first → word_of words number ≡ 0
  pub after : (number : ℕ) → end ≤ number → word_of words number ≡ 0

-- the number of the first word that has a bit, of those from a number to before an end, if there is one
abbrev pub IsFirstUsed : List ℕ → ℕ → ℕ → Option ℕ → Type 0
IsFirstUsed words first end None = (number : ℕ) → first ≤ number → number < end → word_of words number ≡ 0
IsFirstUsed words first end (Some found) = (first ≤ found) × (found < end) × (0 < word_of words found)
    × ((number : ℕ) → first ≤ number → number < found → word_of words number ≡ 0)

-- the number after the last word that has a bit
pub record IsUsedEnd (words : List ℕ) (end : ℕ) : Type 0 where
  pub inside : end ≤ length words
  pub last : 0 < end → 0 < word_of words (end - 1)
  pub after : (number : ℕ) → end ≤ number → word_of words number ≡ 0

-- the first and the last word have a bit
pub record IsTrimmed (words : List ℕ) : Type 0 where
  pub first : 0 < length words → 0 < word_of words 0
  pub last : 0 < length words → 0 < word_of words (length words - 1)

-- the least place at or above one that is marked, or none
abbrev pub IsNextMark : List ℕ → ℕ → Option ℕ → Type 0
IsNextMark words place None = (other : ℕ) → place ≤ other → mark_in words other ≡ false
IsNextMark words place (Some found) = (place ≤ found) × (mark_in words found ≡ true)
    × ((other : ℕ) → place ≤ other → other < found → mark_in words other ≡ false)
