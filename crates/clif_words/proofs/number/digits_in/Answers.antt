use Rattle.std.proofs.Common.{◌≡◌, ℕ, ◌+◌, ◌*◌, ◌<◌, sym, subst, take, get_or, Some}
use Rattle.std.specs.Prelude.{unwrap_or}
use Rattle.std.specs.Char.{digit_value}
use Rattle.clif_words.specs.Spelling.{figures}
use Rattle.clif_words.proofs.Figures.{WritesSoFar, figures_more, writes_more}
use Rattle.clif_words.proofs.number.digits_in.Goals as goal

pub loop-byte-preserved : goal.loop-byte-preserved
loop-byte-preserved c =
    let bs = c.as_bytes-byte-items.result.now in
    let i = c.loop-byte.byte-index in
    let digit = c.in_ok-digit.ensures in
    let fits : digit_value (get_or bs i 0) < c.args.radix = subst (λ (d : ℕ). d < c.args.radix) digit.0 digit.1 in
    let is : c.in_ok-checked_add.field-0 ≡ unwrap_or c.loop-byte.value 0 * c.args.radix + digit_value (get_or bs i 0) = cc (c.in_ok-checked_add.ensures.1, c.in_ok-checked_mul.ensures.1, c.unwrap_or.ensures, digit.0) in
    subst (λ digits. WritesSoFar c.args.radix digits (Some c.in_ok-checked_add.field-0)) (sym (figures_more bs i c.loop-byte-test.true c.if-byte-eq95.false))
    (writes_more c.args.radix (figures (take i bs)) c.loop-byte.value (get_or bs i 0) c.in_ok-checked_add.field-0 c.loop-byte.invariant fits is)
