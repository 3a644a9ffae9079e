-- Which words stand for names of answers and for what calls take. Source: own; docs/SCRIPTS.md describes the same format.
use Rattle.std.specs.Prelude.{◌≡◌, ℕ, ℤ, pos, ◌⊎◌, ◌++◌, List, [], ◌∷◌, Option, Some, None, codes}
use Rattle.clif_types.specs.Texts.{lib_call_text}
use Rattle.clif_types.specs.declared.extname.ExternalName.{ExternalName}
use Rattle.clif_types.specs.declared.extname.ExternalName.TheVariants as name
use Rattle.clif_types.specs.declared.extname.UserFuncName.TheVariants as func_name
use Rattle.clif_words.specs.Spelling.{IsDecimal, IsMagnitude, IsOffset}
use Rattle.clif_calls.specs.declared.call.Name.{Name}
use Rattle.clif_calls.specs.declared.call.Edge.{Edge}
use Rattle.clif_calls.specs.declared.switch.SwitchEntry.{SwitchEntry}
use Rattle.clif_calls.specs.declared.table.Passed.{Passed}
use Rattle.clif_calls.specs.declared.table.Passed.TheVariants as passed
use Rattle.clif_calls.specs.declared.table.TableEdge.{TableEdge}
use Rattle.clif_calls.specs.declared.table.TableItem.{TableItem}
use Rattle.clif_calls.specs.declared.table.TableItem.TheVariants as item
use Rattle.clif_arguments.specs.Header.{IsFunctionName}

-- what names stand for: the answer that a given name stands for, and the number of the variable that an answer is
pub record Names : Type 0 where
  pub given : List ℕ → Option Name
  pub variable : Name → ℕ

-- `$P.K`, with the place and the answer in decimal digits
abbrev pub IsPlaceName : List ℕ → Name → Type 0
IsPlaceName word name = (place answer : List ℕ) × (word ≡ codes "$" ++ (place ++ (codes "." ++ answer))) × IsDecimal place name.place × IsDecimal answer name.answer

-- a word stands for an answer: by its place, or by a name that was given
abbrev pub IsAnswer : Names → List ℕ → Name → Type 0
IsAnswer names word name = IsPlaceName word name ⊎ (names.given word ≡ Some name)

-- a word stands for an instruction: for its answer, with or without the `@` that gives an instruction its name
abbrev pub IsInst : Names → List ℕ → Name → Type 0
IsInst names word name = IsAnswer names word name ⊎ ((rest : List ℕ) × (word ≡ codes "@" ++ rest) × IsAnswer names rest name)

-- a word stands for the variable of this number: as the answer of a declaration, or as `varN` where no such name was given
abbrev pub IsVariable : Names → List ℕ → ℕ → Type 0
IsVariable names word number =
    ((name : Name) × IsAnswer names word name × (names.variable name ≡ number))
    ⊎ ((digits : List ℕ) × (word ≡ codes "var" ++ digits) × IsDecimal digits number × (names.given word ≡ None))

-- the words stand for the answers, one for one
abbrev pub AreAnswers : Names → List (List ℕ) → List Name → Type 0
AreAnswers names [] [] = Unit {0}
AreAnswers names [] (answer ∷ answers) = ⊥
AreAnswers names (word ∷ words) [] = ⊥
AreAnswers names (word ∷ words) (answer ∷ answers) = IsAnswer names word answer × AreAnswers names words answers

-- the answers in parentheses
abbrev pub AreClosed : Names → List (List ℕ) → List Name → Type 0
AreClosed names words answers = (inner : List (List ℕ)) × (words ≡ codes "(" ∷ (inner ++ codes ")" ∷ [])) × AreAnswers names inner answers

-- the answers that end a line: in parentheses or not
abbrev pub AreLast : Names → List (List ℕ) → List Name → Type 0
AreLast names words answers = AreClosed names words answers ⊎ AreAnswers names words answers

-- a word stands for a part of a call: `ret0` or `exn1`
abbrev pub IsPart : List ℕ → Passed → Type 0
IsPart word (passed.Value name) = ⊥
IsPart word (passed.Returned place) = (digits : List ℕ) × (word ≡ codes "ret" ++ digits) × IsDecimal digits place
IsPart word (passed.Thrown place) = (digits : List ℕ) × (word ≡ codes "exn" ++ digits) × IsDecimal digits place

-- a word stands for what an edge of a table passes: for an answer, or for a part of a call where no such name was given
abbrev pub IsPassed : Names → List ℕ → Passed → Type 0
IsPassed names word (passed.Value name) = IsAnswer names word name
IsPassed names word part = IsPart word part × (names.given word ≡ None)

-- the words stand for it, one for one
abbrev pub ArePassed : Names → List (List ℕ) → List Passed → Type 0
ArePassed names [] [] = Unit {0}
ArePassed names [] (one ∷ args) = ⊥
ArePassed names (word ∷ words) [] = ⊥
ArePassed names (word ∷ words) (one ∷ args) = IsPassed names word one × ArePassed names words args

-- the words that end a line stand for it, in parentheses or not
abbrev pub AreLastPassed : Names → List (List ℕ) → List Passed → Type 0
AreLastPassed names words args = ((inner : List (List ℕ)) × (words ≡ codes "(" ∷ (inner ++ codes ")" ∷ [])) × ArePassed names inner args) ⊎ ArePassed names words args

-- an edge of a table, which ends a line: the block, and what is passed, in parentheses or not
abbrev pub IsTableEdge : Names → List (List ℕ) → TableEdge → Type 0
IsTableEdge names words edge =
    (block : List ℕ) × (rest : List (List ℕ)) × (words ≡ block ∷ rest) × IsAnswer names block edge.block × AreLastPassed names rest edge.args.items

-- two words stand for an item of an exception table: `tag7 c`, `default c` or `context v`
abbrev pub IsItem : Names → (kind what : List ℕ) → TableItem → Type 0
IsItem names kind what (item.Tag tag edge) = (digits : List ℕ) × (kind ≡ codes "tag" ++ digits) × IsDecimal digits tag × IsAnswer names what edge
IsItem names kind what (item.Default edge) = (kind ≡ codes "default") × IsAnswer names what edge
IsItem names kind what (item.Context value) = (kind ≡ codes "context") × IsAnswer names what value

-- the words stand for the items, two for each
abbrev pub AreItems : Names → List (List ℕ) → List TableItem → Type 0
AreItems names [] [] = Unit {0}
AreItems names (kind ∷ what ∷ words) (one ∷ items) = IsItem names kind what one × AreItems names words items
AreItems names _ _ = ⊥

-- a word stands for a case of a switch: the key, a colon, and the block
abbrev pub IsSwitchCase : Names → List ℕ → SwitchEntry → Type 0
IsSwitchCase names word entry =
    (key block : List ℕ) × (word ≡ key ++ (codes ":" ++ block)) × IsMagnitude key entry.key × IsAnswer names block entry.block

-- the words stand for the cases, one for one
abbrev pub AreSwitchCases : Names → List (List ℕ) → List SwitchEntry → Type 0
AreSwitchCases names [] [] = Unit {0}
AreSwitchCases names [] (entry ∷ entries) = ⊥
AreSwitchCases names (word ∷ words) [] = ⊥
AreSwitchCases names (word ∷ words) (entry ∷ entries) = IsSwitchCase names word entry × AreSwitchCases names words entries

-- an edge: the block, and what is passed in parentheses, which may be left out where nothing is passed
abbrev pub IsEdge : Names → List (List ℕ) → Edge → Type 0
IsEdge names words edge = (block : List ℕ) × (passed : List (List ℕ)) × (words ≡ block ∷ passed) × IsAnswer names block edge.block × (AreClosed names passed edge.args.items ⊎ ((passed ≡ []) × (edge.args.items ≡ [])))

-- an edge that ends a line: the parentheses may be left out
abbrev pub IsLastEdge : Names → List (List ℕ) → Edge → Type 0
IsLastEdge names words edge = (block : List ℕ) × (passed : List (List ℕ)) × (words ≡ block ∷ passed) × IsAnswer names block edge.block × AreLast names passed edge.args.items

-- an offset that ends a line: it may be left out where it is 0
abbrev pub IsLastOffset : List (List ℕ) → ℤ → Type 0
IsLastOffset words offset = ((words ≡ []) × (offset ≡ pos 0)) ⊎ ((word : List ℕ) × (words ≡ word ∷ []) × IsOffset word offset)

-- the name of a function or of a symbol: as that of the function that is built, or that of a function of the C library
abbrev pub IsExternalName : List (List ℕ) → ExternalName → Type 0
IsExternalName words (name.TestCase text) = (word : List ℕ) × (words ≡ word ∷ []) × IsFunctionName word (func_name.Testcase text)
IsExternalName words (name.User user) = (word : List ℕ) × (words ≡ word ∷ []) × IsFunctionName word (func_name.User user)
IsExternalName words (name.LibCall call) = words ≡ codes "libcall" ∷ lib_call_text call ∷ []
