-- The types and the numbers of a header line that were taken, one more at the end, and what a header line says.
use Rattle.std.proofs.Common.{◌≡◌, ℕ, List, [], ◌∷◌, ◌++◌, length, ap, ◌∙◌, sym, refl, subst}
use Rattle.std.specs.Prelude.{ℤ, codes}
use Rattle.std.proofs.lemmas.List.{append_assoc, append-nil}
use Rattle.clif_types.specs.declared.extfunc.AbiParam.{AbiParam}
use Rattle.clif_types.specs.declared.types.«Type».{«Type»}
use Rattle.clif_words.specs.declared.cursor.Cursor.{Cursor}
use Rattle.clif_words.specs.Cursor.{words_left}
use Rattle.clif_words.specs.Spelling.{IsNumber, IsTypeWord}
use Rattle.clif_arguments.specs.Header.{AreNumbers, AreTypes, AreReturned}

-- the words between an old and a new state are the types of these parameters
pub record TakesTypes (old new : Cursor) (params : List AbiParam) : Type 0 where
  pub words : List (List ℕ)
  pub taken : words_left old ≡ words ++ words_left new
  pub are : AreTypes words params

types_more : (words : List (List ℕ)) (params : List AbiParam) (word : List ℕ) (ty : «Type») → AreTypes words params → IsTypeWord word ty → AreTypes (words ++ word ∷ []) (params ++ record { value_type = ty } ∷ [])
types_more [] [] word ty all one = (one, tt)
types_more [] (p ∷ params) word ty all one = absurd all
types_more (w ∷ words) [] word ty all one = absurd all
types_more (w ∷ words) (p ∷ params) word ty all one = (all.0, types_more words params word ty all.1 one)

pub takes_no_type : (cursor : Cursor) → TakesTypes cursor cursor []
takes_no_type cursor = record { words = []; taken = refl; are = tt }

pub takes_one_type : (first old new : Cursor) (params : List AbiParam) (word : List ℕ) (ty : «Type») → TakesTypes first old params → words_left old ≡ word ∷ words_left new → IsTypeWord word ty → TakesTypes first new (params ++ record { value_type = ty } ∷ [])
takes_one_type first old new params word ty before one is = record {
  words = before.words ++ word ∷ [];
  taken = before.taken ∙ (ap (λ rest. before.words ++ rest) one ∙ sym (append_assoc before.words (word ∷ []) (words_left new)));
  are = types_more before.words params word ty before.are is;
}

-- types behind an arrow, where there are some
pub returned : (words : List (List ℕ)) (params : List AbiParam) → AreTypes words params → (length params ≡ 0 → ⊥) → AreReturned (codes "->" ∷ words) params
returned words [] are some = absurd (some refl)
returned words (param ∷ params) are some = (words, refl, are)

-- the words between an old and a new state are these numbers
pub record TakesNumbers (old new : Cursor) (numbers : List ℤ) : Type 0 where
  pub words : List (List ℕ)
  pub taken : words_left old ≡ words ++ words_left new
  pub are : AreNumbers words numbers

numbers_more : (words : List (List ℕ)) (numbers : List ℤ) (word : List ℕ) (number : ℤ) → AreNumbers words numbers → IsNumber word number → AreNumbers (words ++ word ∷ []) (numbers ++ number ∷ [])
numbers_more [] [] word number all one = (one, tt)
numbers_more [] (n ∷ numbers) word number all one = absurd all
numbers_more (w ∷ words) [] word number all one = absurd all
numbers_more (w ∷ words) (n ∷ numbers) word number all one = (all.0, numbers_more words numbers word number all.1 one)

pub takes_no_number : (cursor : Cursor) → TakesNumbers cursor cursor []
takes_no_number cursor = record { words = []; taken = refl; are = tt }

pub takes_one_number : (first old new : Cursor) (numbers : List ℤ) (word : List ℕ) (number : ℤ) → TakesNumbers first old numbers → words_left old ≡ word ∷ words_left new → IsNumber word number → TakesNumbers first new (numbers ++ number ∷ [])
takes_one_number first old new numbers word number before one is = record {
  words = before.words ++ word ∷ [];
  taken = before.taken ∙ (ap (λ rest. before.words ++ rest) one ∙ sym (append_assoc before.words (word ∷ []) (words_left new)));
  are = numbers_more before.words numbers word number before.are is;
}

-- all words were taken
pub takes_all_numbers : (first old : Cursor) (numbers : List ℤ) → TakesNumbers first old numbers → words_left old ≡ [] → AreNumbers (words_left first) numbers
takes_all_numbers first old numbers before none = subst (λ words. AreNumbers words numbers) (sym (before.taken ∙ ap (λ rest. before.words ++ rest) none ∙ append-nil before.words)) before.are

-- two numbers, one for each word
pub two_numbers : (one two : List ℕ) (a b : ℤ) (numbers : List ℤ) → numbers ≡ a ∷ b ∷ [] → IsNumber one a → IsNumber two b → AreNumbers (one ∷ two ∷ []) numbers
two_numbers one two a b numbers is first second = subst (AreNumbers (one ∷ two ∷ [])) (sym is) (first, (second, tt))
