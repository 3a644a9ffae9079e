use Rattle.std.proofs.Common.{◌∷◌, ◌++◌, [], refl, inl, inr, ap, sym, subst, ◌∙◌}
use Rattle.std.specs.Prelude.{codes}
use Rattle.clif_words.specs.Cursor.{words_left}
use Rattle.clif_arguments.specs.Scope.{names_of}
use Rattle.clif_arguments.specs.Arguments.{AreAnswers}
use Rattle.clif_arguments.proofs.Taking.{closed_words}
use Rattle.clif_arguments.proofs.args.Args.edge.Goals as goal
use Rattle.clif_arguments.proofs.args.Args.edge.Goals.{then-skips+in_ok-args, else-skips}

pub returns-clause-ok : goal.returns-clause-ok
returns-clause-ok c =
    let block = c.in_ok-block.ensures.ok in
    elim c.if-skips.branch [
      | then-skips+in_ok-args w ↦
          let args = w.in_ok-args.ensures.ok in
          let passed = codes "(" ∷ (args.0 ++ codes ")" ∷ []) in
          let closed = closed_words (words_left c.block.new.self.words) (words_left c.skips.new.self) (words_left w.values_to_close.new.self.words) args.0 w.if-skips.ensures.yes args.1 in
          let stand = subst (λ scope. AreAnswers (names_of scope.now) args.0 w.in_ok-args.args.items) c.in_ok-block.ensures.scope args.2 in
          let lent = subst (λ values. AreAnswers (names_of c.args.self.now.scope.now) args.0 values.items) (sym w.args-is) stand in
          (block.0 ∷ passed, block.1 ∙ (ap (λ rest. block.0 ∷ rest) closed ∙ ap (λ self. block.0 ∷ (passed ++ words_left self.words)) (sym w.self-is)), (block.0, passed, refl, block.2, inl (args.0, refl, lent)))
      | else-skips w ↦
          (block.0 ∷ [], block.1 ∙ (ap (λ rest. block.0 ∷ rest) (sym w.if-skips.ensures.no) ∙ ap (λ self. block.0 ∷ words_left self.words) (sym w.self-is)), (block.0, [], refl, block.2, inr (refl, ap (λ values. values.items) w.args-is ∙ w.new-args.ensures.items)))
    ]
