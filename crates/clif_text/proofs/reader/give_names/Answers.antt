use Rattle.std.proofs.Common.{◌+◌, ap, sym, subst, ◌∙◌, arith, take}
use Rattle.clif_words.specs.Cursor.{texts}
use Rattle.clif_arguments.specs.Given.{first_answer}
use Rattle.clif_text.proofs.Giving.{GivenSoFar, first_byte, none_given, instruction_more, answer_more, all_given}
use Rattle.clif_text.proofs.reader.give_names.Goals as goal
use Rattle.clif_text.proofs.reader.give_names.Goals.{in-Some+in_ok-checked+in_ok-give, in_default+then-given-answers+in_ok-checked-2+in_ok-give-2}

pub loop-word-init : goal.loop-word-init
loop-word-init c = none_given c.args.answers.instruction c.args.place _ c.args.scope.now (omega arith)

pub loop-word-preserved : goal.loop-word-preserved
loop-word-preserved c =
    let instruction = c.args.answers.instruction in
    let place = c.args.place in
    let names = c.args.names.now in
    let at = c.loop-word.word-index in
    let first = c.args.scope.now in
    let answer = c.loop-word.given + first_answer instruction in
    let now = c.match-instruction_name.given + first_answer instruction in elim c.match-instruction_name.branch [
      | in-Some+in_ok-checked+in_ok-give w ↦
          subst (λ s. GivenSoFar instruction place now (texts (take (at + 1) names)) first s) (sym w.scope-is)
          (instruction_more instruction place answer now names at _ first c.loop-word.scope w.give.new.self w.in-Some.name.now w.in_ok-checked.field-0.now c.loop-word.invariant c.loop-word-test.true w.in-Some.ensures.some.0 w.in-Some.ensures.some.1 w.in_ok-checked.ensures w.in_ok-give.ensures (ap (λ n. n + first_answer instruction) w.given-is))
      | in_default+then-given-answers+in_ok-checked-2+in_ok-give-2 w ↦
          subst (λ s. GivenSoFar instruction place now (texts (take (at + 1) names)) first s) (sym w.scope-is)
          (answer_more instruction place answer now (c.loop-word.given + w.from.result) names at _ first c.loop-word.scope w.give-then-given-answers.new.self w.in_ok-checked-2.field-0.now c.loop-word.invariant c.loop-word-test.true w.in_default.ensures.none w.in_ok-checked-2.ensures w.in_ok-give-2.ensures (ap (λ n. c.loop-word.given + n) (w.from.ensures ∙ first_byte instruction)) (ap (λ n. n + first_answer instruction) w.given-is ∙ omega arith))
    ]

pub returns : goal.returns
returns c = all_given c.args.answers.instruction c.args.place _ c.args.names.now c.loop-word.word-index c.args.scope.now c.loop-word.scope c.loop-word.invariant c.loop-word-test.false
