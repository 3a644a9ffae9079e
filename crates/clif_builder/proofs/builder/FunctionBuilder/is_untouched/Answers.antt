use Rattle.std.proofs.Common.{sym, ◌∙◌}
use Rattle.clif_builder.specs.Ledger.{ledger_of}
use Rattle.clif_builder.proofs.Named.{kept_unused}
use Rattle.clif_builder.proofs.Touching.{agree_new}
use Rattle.clif_builder.proofs.builder.FunctionBuilder.is_untouched.Goals as goal

pub returns-clause-unused : goal.returns-clause-unused
returns-clause-unused g c = λ yes.
    kept_unused _ _ _ c.args.variable c.if-self.false (sym c.is_untouched.ensures ∙ yes) c.args.self.now.named

pub returns-clause-ledger : goal.returns-clause-ledger
returns-clause-ledger g c = λ calls agrees sound.
    c.is_untouched.ensures ∙ agree_new (ledger_of calls).variables c.args.self.now.ctx.now.parts c.args.variable agrees.variables
