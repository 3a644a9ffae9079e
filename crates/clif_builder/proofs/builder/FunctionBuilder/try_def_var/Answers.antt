use Rattle.std.proofs.lemmas.Result.{err_from_is_err_and}
use Rattle.clif_builder.specs.GoesOn.{IsUnassigned}
use Rattle.clif_builder.proofs.GoingOn.{goes_as, goes_nowhere, goes_still}
use Rattle.clif_builder.proofs.builder.FunctionBuilder.try_def_var.Goals as goal

pub returns-clause-told : goal.returns-clause-told
returns-clause-told g c = λ name.
    let told = c.in_ok-def_var.ensures.told name in
    record { ledger = told.ledger; stands = told.stands }

pub returns-then-self-clause-goes_on : goal.returns-then-self-clause-goes_on
returns-then-self-clause-goes_on g c = goes_nowhere (IsUnassigned c.args.self.now c.args.variable) c.args.self.now _ _

pub returns-in-Err-clause-goes_on : goal.returns-in-Err-clause-goes_on
returns-in-Err-clause-goes_on g c = goes_still (IsUnassigned c.args.self.now c.args.variable) c.args.self.now _

pub returns-in_err-def_var-clause-goes_on : goal.returns-in_err-def_var-clause-goes_on
returns-in_err-def_var-clause-goes_on g c =
    let p = err_from_is_err_and c.from_residual.result c.from_residual.ensures.1 in
    rw p.1 (goes_nowhere (IsUnassigned c.args.self.now c.args.variable) c.args.self.now c.def_var.new.self p.0)

pub returns-clause-goes_on : goal.returns-clause-goes_on
returns-clause-goes_on g c = goes_as (IsUnassigned c.args.self.now c.args.variable) c.args.self.now c.def_var.new.self tt _ c.in_ok-def_var.ensures.goes_on
