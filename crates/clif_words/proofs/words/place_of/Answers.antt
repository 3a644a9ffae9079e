use Rattle.std.proofs.Common.{◌++◌, ◌∷◌, [], arith, rules}
use Rattle.std.proofs.lemmas.List.{length-append}
use Rattle.clif_words.proofs.Places.{begins_front, begins_more, front_of_word}
use Rattle.clif_words.proofs.words.place_of.Goals as goal

pub before-requires : goal.before-requires
before-requires c =
    let begins = c.loop-word.invariant.1 in
    let found = c.in-Some.ensures in
    front_of_word begins.0 c.args.line.now c.loop-word.rest.now found.0 c.in-Some.word.now c.in-Some.after.now begins.2 found.1

pub loop-word-preserved : goal.loop-word-preserved
loop-word-preserved c =
    let begins = c.loop-word.invariant.1 in
    let found = c.in-Some.ensures in
    let word = c.in-Some.word.now in (
      search rules,
      (
        begins.0 ++ word ∷ [],
        omega (arith, length-append begins.0 (word ∷ []), begins.1, c.if-left-eq0.false),
        begins_more begins.0 c.args.line.now c.loop-word.rest.now found.0 word c.in-Some.after.now begins.2 found.1 found.2 found.3,
      ),
    )

pub before-requires-2 : goal.before-requires-2
before-requires-2 c = let begins = c.loop-word.invariant.1 in begins_front begins.0 c.args.line.now c.loop-word.rest.now begins.2
