-- Answers that were taken, one more at the end.
use Rattle.std.proofs.Common.{◌≡◌, ℕ, List, [], ◌∷◌, ◌++◌, ap, ◌∙◌, sym, refl, subst}
use Rattle.std.specs.Prelude.{codes}
use Rattle.std.proofs.lemmas.List.{append_assoc, append-nil}
use Rattle.clif_calls.specs.declared.call.Name.{Name}
use Rattle.clif_arguments.specs.declared.args.Args.{Args}
use Rattle.clif_words.specs.Cursor.{words_left}
use Rattle.clif_arguments.specs.Arguments.{Names, AreAnswers, IsAnswer}
use Rattle.clif_arguments.specs.Scope.{names_of}

-- the words between an old and a new state stand for these answers
pub record TakesAnswers (old new : Args) (answers : List Name) : Type 0 where
  pub scope : new.scope ≡ old.scope
  pub words : List (List ℕ)
  pub taken : words_left old.words ≡ words ++ words_left new.words
  pub stand : AreAnswers (names_of old.scope.now) words answers

pub answers_more : (names : Names) (words : List (List ℕ)) (answers : List Name) (word : List ℕ) (answer : Name) → AreAnswers names words answers → IsAnswer names word answer → AreAnswers names (words ++ word ∷ []) (answers ++ answer ∷ [])
answers_more names [] [] word answer all one = (one, tt)
answers_more names [] (b ∷ answers) word answer all one = absurd all
answers_more names (w ∷ words) [] word answer all one = absurd all
answers_more names (w ∷ words) (b ∷ answers) word answer all one = (all.0, answers_more names words answers word answer all.1 one)

pub takes_none : (args : Args) → TakesAnswers args args []
takes_none args = record { scope = refl; words = []; taken = refl; stand = tt }

pub takes_more : (first old new : Args) (answers : List Name) (word : List ℕ) (answer : Name) → TakesAnswers first old answers → new.scope ≡ old.scope → words_left old.words ≡ word ∷ words_left new.words → IsAnswer (names_of old.scope.now) word answer → TakesAnswers first new (answers ++ answer ∷ [])
takes_more first old new answers word answer before scope one stands = record {
  scope = scope ∙ before.scope;
  words = before.words ++ word ∷ [];
  taken = before.taken ∙ (ap (λ rest. before.words ++ rest) one ∙ sym (append_assoc before.words (word ∷ []) (words_left new.words)));
  stand = answers_more (names_of first.scope.now) before.words answers word answer before.stand (subst (λ s. IsAnswer (names_of s.now) word answer) before.scope stands);
}

-- the closing parenthesis comes behind them
pub takes_closed : (first old new : Args) (answers : List Name) → TakesAnswers first old answers → new.scope ≡ old.scope → words_left old.words ≡ codes ")" ∷ words_left new.words → (words : List (List ℕ)) × (words_left first.words ≡ words ++ codes ")" ∷ words_left new.words) × AreAnswers (names_of first.scope.now) words answers
takes_closed first old new answers before scope closed = (before.words, before.taken ∙ ap (λ rest. before.words ++ rest) closed, before.stand)

-- all words were taken
pub takes_all : (first old : Args) (answers : List Name) → TakesAnswers first old answers → words_left old.words ≡ [] → (words_left old.words ≡ []) × AreAnswers (names_of first.scope.now) (words_left first.words) answers
takes_all first old answers before none = (none, subst (λ words. AreAnswers (names_of first.scope.now) words answers) (sym (before.taken ∙ ap (λ rest. before.words ++ rest) none ∙ append-nil before.words)) before.stand)

-- parentheses round what was taken
pub closed_words : (old mid new inner : List (List ℕ)) → old ≡ codes "(" ∷ mid → mid ≡ inner ++ codes ")" ∷ new → old ≡ (codes "(" ∷ (inner ++ codes ")" ∷ [])) ++ new
closed_words old mid new inner opened closed = opened ∙ ap (λ rest. codes "(" ∷ rest) (closed ∙ sym (append_assoc inner (codes ")" ∷ []) new))

pub ruleset taking_rules = (takes_none, takes_more, takes_closed, takes_all)
