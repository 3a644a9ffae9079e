-- The value that the call gives exists.
use Rattle.std.proofs.Common.{rules, ◌<◌, length, sym, subst}
use Rattle.clif_builder.specs.declared.builder.FunctionBuilder.{FunctionBuilder}
use Rattle.uses.proofs.Lasting.{first_exists, one_exists}
use Rattle.uses.proofs.forward.forward.Goals as goal

pub return_-requires-clause-values_exist : goal.return_-requires-clause-values_exist
return_-requires-clause-values_exist g c =
    one_exists (subst (λ (b : FunctionBuilder _). c.index-inst_results-0.result < length b.func.now.values) (sym c.ins-2.ensures.builder)
    (first_exists c.inst_results.result.now c.index-inst_results-0.is (search rules) c.inst_results.ensures.exist))
