use Rattle.std.proofs.Common.{sym, subst}
use Rattle.clif_types.specs.declared.types.«Type».TheVariants.{Invalid}
use Rattle.clif_inst_builder.specs.Shapes.{TakesThenBuilds, branch_table}
use Rattle.clif_builder.specs.declared.builder.FunctionBuilder.{FunctionBuilder}
use Rattle.clif_builder.specs.Built.{Builds}
use Rattle.clif_builder.specs.Entries.{TakesJumpTable}
use Rattle.clif_replay.proofs.make_tables.branch.Goals as goal

pub returns : goal.returns
returns g c =
    subst (λ (new : FunctionBuilder _). TakesThenBuilds TakesJumpTable Builds c.args.builder.now new (branch_table c.args.index) c.args.table Invalid c.br_table.result)
    (sym (c.builder-1.given.1 (sym c.ins.ensures.same)))
    (subst (λ (old : FunctionBuilder _). TakesThenBuilds TakesJumpTable Builds old c.br_table.new.self (branch_table c.args.index) c.args.table Invalid c.br_table.result)
    c.ins.ensures.builder c.br_table.ensures.built)
