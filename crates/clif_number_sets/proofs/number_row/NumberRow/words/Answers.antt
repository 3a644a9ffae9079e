use Rattle.std.proofs.Common.{◌≡◌, ◌<◌, ◌^◌, ℕ, length, subst, arith}
use Rattle.clif_number_sets.specs.Sets.{SpansWords}
use Rattle.clif_number_sets.specs.Words.{word_of}
use Rattle.clif_number_sets.proofs.Spans.{spans}
use Rattle.clif_number_sets.proofs.number_row.NumberRow.words.Goals as goal

pub returns : goal.returns
returns c =
    let run = c.self.inside.run in
    let fits : (k : ℕ) → word_of run.words.items k < 2 ^ 64 = subst (λ ws. (k : ℕ) → word_of ws k < 2 ^ 64) c.as_slice.ensures.value c.law_fits.ensures in
    let count : length run.words.items ≡ c.len.result = omega (arith, c.len.ensures, run.words.ok.0) in
    subst (λ n. SpansWords c.args.self.now n) count
    (subst (λ s. SpansWords s (length run.words.items)) c.self.view_is (spans c.self.inside.size run.first run.words.items run.trimmed c.self.invariant.1 fits))
