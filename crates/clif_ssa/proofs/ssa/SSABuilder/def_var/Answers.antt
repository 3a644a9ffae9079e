use Rattle.std.proofs.Common.{ap}
use Rattle.clif_records.specs.Tables.{sealed_at, predecessors_at}
use Rattle.clif_records.proofs.RecordLaws.{on_ok}
use Rattle.clif_ssa.proofs.Using.{def_keeps}
use Rattle.clif_ssa.proofs.StructuredLaws.{assigned_structured}
use Rattle.clif_ssa.proofs.ssa.SSABuilder.def_var.Goals as goal

pub returns-clause-keeps : goal.returns-clause-keeps
returns-clause-keeps c =
    rw (← c.self.view_is)
    (λ own f tables n both open_block answers given unassigned.
    on_ok c.record.result _ _
    (λ written.
    def_keeps own f c.self.inside.tables c.record.new.self tables c.args.block c.args.variable n c.args.value both answers open_block given unassigned written
    (λ b. ap (λ blocks. sealed_at blocks b) c.record.ensures.blocks) (λ b. ap (λ blocks. predecessors_at blocks b) c.record.ensures.blocks))
    c.record.ensures.ok)

pub returns-clause-structured : goal.returns-clause-structured
returns-clause-structured c =
    rw (← c.self.view_is)
    (λ types own f typed before.
    on_ok c.record.result _ _
    (λ written.
    assigned_structured types own f c.self.inside.tables c.record.new.self c.args.variable c.args.block c.args.value typed written
    (λ b. ap (λ blocks. sealed_at blocks b) c.record.ensures.blocks) (λ b. ap (λ blocks. predecessors_at blocks b) c.record.ensures.blocks) before)
    c.record.ensures.ok)
