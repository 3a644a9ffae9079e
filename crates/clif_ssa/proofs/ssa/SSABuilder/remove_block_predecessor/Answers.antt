use Rattle.std.proofs.Common.{ap, ◌∙◌}
use Rattle.clif_records.specs.Tables.{record_at}
use Rattle.clif_ssa.proofs.Counting.{removed_soundly}
use Rattle.clif_ssa.proofs.Opened.{records_are, removes_in, sealed_same, state_of, tables_are}
use Rattle.clif_ssa.proofs.StructuredLaws.{removed_structured}
use Rattle.clif_ssa.proofs.ssa.SSABuilder.remove_block_predecessor.Goals as goal

pub returns-clause-described : goal.returns-clause-described
returns-clause-described c = λ own f tables both.
    removed_soundly own f c.args.self.now (state_of c.self-inside.inside.0.1.0.variables c.remove_predecessor.new.self c.self-inside.inside.0.1.0.tracking) tables c.args.block c.args.inst both c.requires.unsealed
    (λ v b. ap (λ rows. record_at rows v b) (records_are _ _ _ _ (tables_are c.self-inside.view_is ∙ c.self.view_is))) (sealed_same _ _ _ _ (tables_are c.self-inside.view_is ∙ c.self.view_is) c.remove_predecessor.new.self c.remove_predecessor.ensures.sealed)
    (removes_in _ _ _ _ (tables_are c.self-inside.view_is ∙ c.self.view_is) c.remove_predecessor.new.self c.args.block c.args.inst c.remove_predecessor.ensures.ok)

pub returns-clause-structured : goal.returns-clause-structured
returns-clause-structured c = λ types own f before.
    removed_structured types own f c.args.self.now (state_of c.self-inside.inside.0.1.0.variables c.remove_predecessor.new.self c.self-inside.inside.0.1.0.tracking) c.args.block c.args.inst c.requires.unsealed
    (λ v b. ap (λ rows. record_at rows v b) (records_are _ _ _ _ (tables_are c.self-inside.view_is ∙ c.self.view_is))) (sealed_same _ _ _ _ (tables_are c.self-inside.view_is ∙ c.self.view_is) c.remove_predecessor.new.self c.remove_predecessor.ensures.sealed)
    (removes_in _ _ _ _ (tables_are c.self-inside.view_is ∙ c.self.view_is) c.remove_predecessor.new.self c.args.block c.args.inst c.remove_predecessor.ensures.ok) before
