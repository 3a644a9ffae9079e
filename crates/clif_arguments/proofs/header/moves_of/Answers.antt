use Rattle.std.proofs.Common.{ap, refl, sym, subst, ◌≡◌, ◌∙◌, ◌∷◌, [], ℕ, List, rules}
use Rattle.std.specs.Prelude.{ℤ, codes}
use Rattle.clif_calls.specs.declared.answer.Moves.{Moves}
use Rattle.clif_words.specs.Cursor.{words_left}
use Rattle.clif_words.specs.Spelling.{IsNumber}
use Rattle.clif_arguments.specs.Header.{IsMovesLine}
use Rattle.clif_arguments.proofs.header.moves_of.Goals as goal
use Rattle.clif_arguments.proofs.header.moves_of.Goals.{in-add+in_ok-take-in-add+in_ok-number_of-in-add, in-one, in-events}

pub returns : goal.returns
returns c = elim c.match-branch.branch [
  | in-add+in_ok-take-in-add+in_ok-number_of-in-add w ↦
      subst (λ (moves : Moves). IsMovesLine (words_left c.args.words.now) moves) (sym w.moves-is) (
        w.in_ok-take-in-add.field-0.now,
        c.in_ok-take.ensures.ok ∙ ap (λ (word : List ℕ). word ∷ words_left c.take.new.self) (search rules)
            ∙ ap (λ (rest : List (List ℕ)). codes "add" ∷ rest) (w.in_ok-take-in-add.ensures.ok ∙ ap (λ rest. w.in_ok-take-in-add.field-0.now ∷ rest) (search rules)),
        subst (λ (number : ℤ). IsNumber w.in_ok-take-in-add.field-0.now number) (search rules) w.in_ok-number_of-in-add.ensures,
      )
  | in-one w ↦
      subst (λ (moves : Moves). IsMovesLine (words_left c.args.words.now) moves) (sym w.moves-is)
      (c.in_ok-take.ensures.ok ∙ ap (λ (word : List ℕ). word ∷ words_left c.take.new.self) (search rules) ∙ ap (λ (rest : List (List ℕ)). codes "one" ∷ rest) (search rules))
  | in-events w ↦
      subst (λ (moves : Moves). IsMovesLine (words_left c.args.words.now) moves) (sym w.moves-is)
      (c.in_ok-take.ensures.ok ∙ ap (λ (word : List ℕ). word ∷ words_left c.take.new.self) (search rules) ∙ ap (λ (rest : List (List ℕ)). codes "events" ∷ rest) (search rules))
]
