-- The text has these bytes.
use Rattle.std.proofs.Common.{subst}
use Rattle.std.specs.Prelude.{◌≡◌, IfOk}
use Rattle.clif_script.proofs.source.Source.read.Goals as goal

pub returns-in-Ok-clause-text : goal.returns-in-Ok-clause-text
returns-in-Ok-clause-text g c =
    subst (λ text. IfOk c.of_text.result (λ source. source.text.now ≡ text)) c.in-Ok.ensures.cases.0 c.of_text.ensures.text
