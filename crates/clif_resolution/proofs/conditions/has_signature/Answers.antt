use Rattle.std.proofs.Common.{ap, ◌∙◌}
use Rattle.std.specs.Prelude.{is_some}
use Rattle.clif_resolution.proofs.Options.{copied-there, there-below}
use Rattle.clif_resolution.proofs.conditions.has_signature.Goals as goal

pub returns : goal.returns
returns g c =
    c.is_some.ensures
    ∙ copied-there c.signature.result
    ∙ ap is_some c.signature.ensures
    ∙ there-below c.args.builder.now.func.now.tables.signatures c.args.signature
