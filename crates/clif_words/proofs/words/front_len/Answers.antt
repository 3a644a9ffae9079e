use Rattle.std.proofs.Common.{◌≡◌, arith, sym, ◌∙◌, rules}
use Rattle.std.proofs.lemmas.List.Elements.{All-more}
use denote.Enum.Bare.{same_true}
use Rattle.clif_words.specs.contracts.words.Kind.{the_type}
use Rattle.clif_words.specs.Words.{kind_of}
use Rattle.clif_words.proofs.Lines.{was_true}
use Rattle.clif_words.proofs.words.front_len.Goals as goal

pub loop-index-preserved : goal.loop-index-preserved
loop-index-preserved c =
    All-more (λ byte. kind_of byte ≡ c.args.wanted) c.args.bytes.now c.loop-index.index 0 (omega arith) c.loop-index.invariant
    (sym c.byte_kind.ensures ∙ same_true the_type (search rules) _ _ (was_true _ c.if-ne.ensures))
