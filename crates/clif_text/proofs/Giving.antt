-- Names that were given to the answers of a call, one more at the end.
use Rattle.std.proofs.Common.{◌≡◌, ◌≢◌, ℕ, ◌+◌, ◌<◌, ◌≤◌, List, [], ◌∷◌, ◌++◌, length, take, get_or, refl, ap, sym, subst, ◌∙◌, inl, inr, Bool, true, false, Bor, Option}
use mir.Val.{bool_byte}
use Rattle.std.specs.Prelude.{codes}
use Rattle.std.proofs.lemmas.List.{append_assoc, append-nil, take_all}
use Rattle.clif_calls.specs.declared.call.Name.{Name}
use Rattle.clif_words.specs.Cursor.{texts}
use Rattle.clif_arguments.specs.Given.{GiveNames, GivesName, first_answer}
use Rattle.clif_arguments.specs.declared.scope.Scope.{Scope}
use Rattle.clif_arguments.specs.Scope.{given_in, KeepsVariables, Gives}
use Rattle.clif_text.specs.Reader.{NamesAnswers}
use Rattle.clif_words.proofs.Texts.{texts_more}

-- Whatever names more words give, behind these they give them too. The next name is of this answer.
pub record GivenSoFar (instruction : Bool) (place answer : ℕ) (words : List (List ℕ)) (first now : Scope) : Type 0 where
  pub given : (more : List (List ℕ)) (last : List ℕ → Option Name) → GiveNames instruction place answer more (given_in now) last → GiveNames instruction place (first_answer instruction) (words ++ more) (given_in first) last
  pub keeps : KeepsVariables first now

pub first_byte : (instruction : Bool) → bool_byte instruction ≡ first_answer instruction
first_byte true = refl
first_byte false = refl

pub none_given : (instruction : Bool) (place answer : ℕ) (scope : Scope) → answer ≡ first_answer instruction → GivenSoFar instruction place answer [] scope scope
none_given instruction place answer scope is = record {
  given = λ more last gives. subst (λ a. GiveNames instruction place a more (given_in scope) last) is gives;
  keeps = record { declared = refl; variables = refl };
}

keeps_more : (first old new : Scope) → KeepsVariables first old → KeepsVariables old new → KeepsVariables first new
keeps_more first old new before one = record { declared = one.declared ∙ before.declared; variables = one.variables ∙ before.variables }

-- one word more, which names this answer
one_given : (instruction : Bool) (place answer next : ℕ) (words : List (List ℕ)) (word : List ℕ) (first old new : Scope) → GivenSoFar instruction place answer words first old → KeepsVariables old new → ((more : List (List ℕ)) (last : List ℕ → Option Name) → GiveNames instruction place next more (given_in new) last → GiveNames instruction place answer (word ∷ more) (given_in old) last) → GivenSoFar instruction place next (words ++ word ∷ []) first new
one_given instruction place answer next words word first old new before keeps one = record {
  given = λ more last gives. subst (λ ws. GiveNames instruction place (first_answer instruction) ws (given_in first) last) (sym (append_assoc words (word ∷ []) more)) (before.given (word ∷ more) last (one more last gives));
  keeps = keeps_more first old new before.keeps keeps;
}

pub instruction_more : (instruction : Bool) (place answer next : ℕ) (names : List (Bor (List ℕ))) (index : ℕ) (d : Bor (List ℕ)) (first old new : Scope) (name given : List ℕ) → GivenSoFar instruction place answer (texts (take index names)) first old → index < length names → instruction ≡ true → (get_or names index d).now ≡ codes "@" ++ name → given ≡ name → Gives given (record { place = place; answer = 0 }) old new → next ≡ answer → GivenSoFar instruction place next (texts (take (index + 1) names)) first new
instruction_more instruction place answer next names index d first old new name given before inside makes is same gives stays =
    let word = (get_or names index d).now in
    let named : GivesName name (record { place = place; answer = 0 }) (given_in old) (given_in new) = subst (λ n. GivesName n (record { place = place; answer = 0 }) (given_in old) (given_in new)) same gives.name_given in
    subst (λ ws. GivenSoFar instruction place next ws first new) (sym (texts_more names index d inside))
    (one_given instruction place answer next (texts (take index names)) word first old new before gives.keeps
    (λ more last rest. (given_in new, inl (name, makes, is, named, subst (λ a. GiveNames instruction place a more (given_in new) last) stays rest))))

pub answer_more : (instruction : Bool) (place answer next at : ℕ) (names : List (Bor (List ℕ))) (index : ℕ) (d : Bor (List ℕ)) (first old new : Scope) (given : List ℕ) → GivenSoFar instruction place answer (texts (take index names)) first old → index < length names → ((name : List ℕ) → instruction ≡ true → (get_or names index d).now ≢ codes "@" ++ name) → given ≡ (get_or names index d).now → Gives given (record { place = place; answer = at }) old new → at ≡ answer → next ≡ answer + 1 → GivenSoFar instruction place next (texts (take (index + 1) names)) first new
answer_more instruction place answer next at names index d first old new given before inside other same gives is steps =
    let word = (get_or names index d).now in
    let named : GivesName word (record { place = place; answer = answer }) (given_in old) (given_in new) = subst (λ a. GivesName word (record { place = place; answer = a }) (given_in old) (given_in new)) is (subst (λ n. GivesName n (record { place = place; answer = at }) (given_in old) (given_in new)) same gives.name_given) in
    subst (λ ws. GivenSoFar instruction place next ws first new) (sym (texts_more names index d inside))
    (one_given instruction place answer next (texts (take index names)) word first old new before gives.keeps
    (λ more last rest. (given_in new, inr (other, named, subst (λ a. GiveNames instruction place a more (given_in new) last) steps rest))))

-- all names were given
pub all_given : (instruction : Bool) (place answer : ℕ) (names : List (Bor (List ℕ))) (index : ℕ) (first now : Scope) → GivenSoFar instruction place answer (texts (take index names)) first now → length names ≤ index → NamesAnswers instruction place (texts names) first now
all_given instruction place answer names index first now before past =
    let all : texts (take index names) ++ [] ≡ texts names = append-nil (texts (take index names)) ∙ ap texts (take_all index names past) in record {
      given = subst (λ ws. GiveNames instruction place (first_answer instruction) ws (given_in first) (given_in now)) all (before.given [] (given_in now) (λ word. refl));
      keeps = before.keeps;
    }
