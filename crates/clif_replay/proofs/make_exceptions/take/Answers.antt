use Rattle.std.proofs.Common.{sym, subst}
use Rattle.clif_builder.specs.declared.builder.FunctionBuilder.{FunctionBuilder}
use Rattle.clif_builder.specs.Entries.{TakesExceptionTable}
use Rattle.clif_replay.proofs.make_exceptions.take.Goals as goal

pub returns : goal.returns
returns g c =
    subst (λ (new : FunctionBuilder _). TakesExceptionTable c.args.builder.now new c.args.table c.take_exception_table.result)
    (sym (c.builder-1.given.1 (sym c.ins.ensures.same)))
    (subst (λ (old : FunctionBuilder _). TakesExceptionTable old c.take_exception_table.new.self c.args.table c.take_exception_table.result)
    c.ins.ensures.builder c.take_exception_table.ensures.taken)
