use Rattle.std.proofs.Common.{[], ap, ◌∙◌}
use Rattle.clif_records.specs.Tables.{SsaBlock, record_at}
use Rattle.clif_ssa.proofs.Opened.{predecessors_same, records_are, sealed_same, state_of, tables_are}
use Rattle.clif_ssa.proofs.Writing.{same_state}
use Rattle.clif_ssa.proofs.Structuring.{same_structured}
use Rattle.clif_ssa.proofs.ssa.SSABuilder.declare_block.Goals as goal

pub returns-clause-described : goal.returns-clause-described
returns-clause-described c = λ own f tables before.
    same_state own f c.args.self.now (state_of c.self-inside.inside.0.1.0.variables c.declare.new.self c.self-inside.inside.0.1.0.tracking) tables
    (λ v b. ap (λ rows. record_at rows v b) (records_are _ _ _ _ (tables_are c.self-inside.view_is ∙ c.self.view_is)))
    (sealed_same _ _ _ _ (tables_are c.self-inside.view_is ∙ c.self.view_is) c.declare.new.self (λ b. ap (λ (known : SsaBlock). known.sealed) (c.declare.ensures.same b)))
    (predecessors_same _ _ _ _ (tables_are c.self-inside.view_is ∙ c.self.view_is) c.declare.new.self (λ b. ap (λ (known : SsaBlock). known.predecessors) (c.declare.ensures.same b))) before

pub returns-clause-structured : goal.returns-clause-structured
returns-clause-structured c = λ types own f before.
    same_structured types own f c.args.self.now (state_of c.self-inside.inside.0.1.0.variables c.declare.new.self c.self-inside.inside.0.1.0.tracking) []
    (λ v b. ap (λ rows. record_at rows v b) (records_are _ _ _ _ (tables_are c.self-inside.view_is ∙ c.self.view_is)))
    (sealed_same _ _ _ _ (tables_are c.self-inside.view_is ∙ c.self.view_is) c.declare.new.self (λ b. ap (λ (known : SsaBlock). known.sealed) (c.declare.ensures.same b)))
    (predecessors_same _ _ _ _ (tables_are c.self-inside.view_is ∙ c.self.view_is) c.declare.new.self (λ b. ap (λ (known : SsaBlock). known.predecessors) (c.declare.ensures.same b))) before
