use Rattle.std.specs.Prelude.{codes}
use Rattle.std.specs.Cmp.Lexicographic.{same_text}
use Rattle.clif_words.proofs.Texts.{texts_at, others_more}
use Rattle.clif_text.proofs.reader.parts_at_equals.Goals as goal

pub returns-then-eq-clause-some : goal.returns-then-eq-clause-some
returns-then-eq-clause-some c = (texts_at c.args.words.now c.loop-index.index _ (codes "=") c.loop-index-test.true (same_text _ _ c.if-eq.ensures), c.loop-index.invariant)

pub loop-index-preserved : goal.loop-index-preserved
loop-index-preserved c = others_more (codes "=") c.args.words.now c.loop-index.index _ c.loop-index-test.true c.loop-index.invariant c.if-eq.ensures
