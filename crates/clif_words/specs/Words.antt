-- The words of a line. Source: own.
use Rattle.std.specs.Prelude.{◌≡◌, ◌≢◌, ℕ, ◌==◌, ◌⊎◌, ◌<◌, ◌≤◌, ◌||◌, List, [], ◌∷◌, ◌++◌, length, slice_index, if◌then◌else◌, Option, Some, None}
use Rattle.std.specs.List.{All}
use Rattle.std.specs.Borrow.{Bor}
use Rattle.clif_words.specs.declared.words.Kind.{Kind}
use Rattle.clif_words.specs.declared.words.Kind.TheVariants.{Blank, Mark, Comment, Plain}
use Rattle.clif_words.specs.declared.words.WordPlace.{WordPlace}

-- space, comma, tab, carriage return and form feed are blanks; `(`, `)` and `=` are marks; `#` begins a comment
abbrev pub kind_of : ℕ → Kind
kind_of c = if c == 32 || c == 44 || c == 9 || c == 13 || c == 12 then Blank else (if c == 40 || c == 41 || c == 61 then Mark else (if c == 35 then Comment else Plain))

-- each byte is of this kind
abbrev pub AllOf : Kind → List ℕ → Type 0
AllOf kind text = All (λ c. kind_of c ≡ kind) text

-- the text begins with no plain byte
abbrev pub NoPlainFirst : List ℕ → Type 0
NoPlainFirst text = 0 < length text → kind_of (slice_index text 0) ≢ Plain

-- a word, and what follows it: one mark, or plain bytes up to one that isn't plain
abbrev pub IsWord : List ℕ → List ℕ → Type 0
IsWord word rest = (0 < length word) × ((AllOf Mark word × (length word ≡ 1)) ⊎ (AllOf Plain word × NoPlainFirst rest))

-- the text begins with no word: it has no byte, or begins with a blank or a comment
abbrev pub BeginsNoWord : List ℕ → Type 0
BeginsNoWord text = 0 < length text → (kind_of (slice_index text 0) ≡ Blank) ⊎ (kind_of (slice_index text 0) ≡ Comment)

-- nothing but blanks, and then perhaps a comment
abbrev pub EndsLine : List ℕ → Type 0
EndsLine text = (blanks rest : List ℕ) × (text ≡ blanks ++ rest) × AllOf Blank blanks × (0 < length rest → kind_of (slice_index rest 0) ≡ Comment)

-- the words of a line, in order, with blanks between them as one likes
abbrev pub AreWords : List (List ℕ) → List ℕ → Type 0
AreWords [] line = EndsLine line
AreWords (word ∷ words) line = (blanks rest : List ℕ) × (line ≡ blanks ++ (word ++ rest)) × AllOf Blank blanks × IsWord word rest × AreWords words rest

-- the line has a word
pub record HasWord (line : List ℕ) : Type 0 where
  pub word : List ℕ
  pub words : List (List ℕ)
  pub are : AreWords (word ∷ words) line

-- the line begins with these words, in order, and this follows the last of them
abbrev pub BeginsWith : List (List ℕ) → List ℕ → List ℕ → Type 0
BeginsWith [] line rest = line ≡ rest
BeginsWith (word ∷ words) line rest = (blanks after : List ℕ) × (line ≡ blanks ++ (word ++ after)) × AllOf Blank blanks × IsWord word after × BeginsWith words after rest

-- Of a line of these words and this rest: what comes before the first word of the rest, and that word. Where the rest has
-- none, it is what comes before the rest.
abbrev pub IsFirstOf : (line rest before : List ℕ) → Option (Bor (List ℕ)) → Type 0
IsFirstOf line rest before None = EndsLine rest × (line ≡ before ++ rest)
IsFirstOf line rest before (Some word) = (blanks after : List ℕ) × (rest ≡ blanks ++ (word.now ++ after)) × AllOf Blank blanks × IsWord word.now after × (line ≡ before ++ (word.now ++ after))

-- there are as many words before the word as its index says, or fewer where the line hasn't that word
abbrev pub HasBefore : ℕ → List (List ℕ) → Option (Bor (List ℕ)) → Type 0
HasBefore index words None = length words ≤ index
HasBefore index words (Some word) = length words ≡ index

-- where the word with this index is in the line
abbrev pub IsPlace : ℕ → List ℕ → WordPlace → Type 0
IsPlace index line place = (words : List (List ℕ)) × (rest : List ℕ) × BeginsWith words line rest × HasBefore index words place.word × IsFirstOf line rest place.before.now place.word
