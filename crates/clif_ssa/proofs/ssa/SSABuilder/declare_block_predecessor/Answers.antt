use Rattle.std.proofs.Common.{ap, ◌∙◌}
use Rattle.clif_records.specs.Tables.{record_at}
use Rattle.clif_records.proofs.RecordLaws.{on_ok}
use Rattle.clif_ssa.proofs.Counting.{declared_soundly}
use Rattle.clif_ssa.proofs.Opened.{declares_in, records_are, sealed_same, state_of, tables_are}
use Rattle.clif_ssa.proofs.StructuredLaws.{declared_structured}
use Rattle.clif_ssa.proofs.ssa.SSABuilder.declare_block_predecessor.Goals as goal

pub returns-clause-described : goal.returns-clause-described
returns-clause-described c = λ own f tables exists entry apart new both.
    on_ok c.declare_predecessor.result _ _
    (λ declares.
    declared_soundly own f c.args.self.now (state_of c.self-inside.inside.0.1.0.variables c.declare_predecessor.new.self c.self-inside.inside.0.1.0.tracking) tables c.args.block c.args.inst both exists entry c.requires apart new
    (λ v b. ap (λ rows. record_at rows v b) (records_are _ _ _ _ (tables_are c.self-inside.view_is ∙ c.self.view_is))) (sealed_same _ _ _ _ (tables_are c.self-inside.view_is ∙ c.self.view_is) c.declare_predecessor.new.self c.declare_predecessor.ensures.sealed)
    (declares_in _ _ _ _ (tables_are c.self-inside.view_is ∙ c.self.view_is) c.declare_predecessor.new.self c.args.block c.args.inst declares))
    c.declare_predecessor.ensures.ok

pub returns-clause-structured : goal.returns-clause-structured
returns-clause-structured c = λ types own f exists new passes before.
    on_ok c.declare_predecessor.result _ _
    (λ declares.
    declared_structured types own f c.args.self.now (state_of c.self-inside.inside.0.1.0.variables c.declare_predecessor.new.self c.self-inside.inside.0.1.0.tracking) c.args.block c.args.inst c.requires exists new passes
    (λ v b. ap (λ rows. record_at rows v b) (records_are _ _ _ _ (tables_are c.self-inside.view_is ∙ c.self.view_is))) (sealed_same _ _ _ _ (tables_are c.self-inside.view_is ∙ c.self.view_is) c.declare_predecessor.new.self c.declare_predecessor.ensures.sealed)
    (declares_in _ _ _ _ (tables_are c.self-inside.view_is ∙ c.self.view_is) c.declare_predecessor.new.self c.args.block c.args.inst declares) before)
    c.declare_predecessor.ensures.ok
