use Rattle.std.proofs.Common.{refl}
use Rattle.clif_builder.proofs.Built.{builds_appended}
use Rattle.clif_builder.proofs.Named.{kept_by, opened}
use Rattle.clif_builder.proofs.Ordered.{order-built}
use Rattle.clif_builder.proofs.Standing.{current_exists, current_open}
use Rattle.clif_builder.proofs.Fitting.{fits_built}
use Rattle.clif_builder.proofs.instructions.FunctionBuilderInstBuilderBase.build.Goals as goal

pub append-built-requires-clause-named : goal.append-built-requires-clause-named
append-built-requires-clause-named g c = opened _ _ _ c.args.self.now.named

pub returns : goal.returns
returns g c =
    let done = c.append-built.ensures in
    record {
      built =
          builds_appended c.args.self.now _ c.args.shape c.args.ctrl_type c.in-Some.block c.append-built.result
          c.if-self.false c.requires.current c.in-Some.is c.law_consistent.ensures c.requires.operands_exist c.requires.edges (record { func = refl; ctx = refl; region = refl }) refl refl
          c.is_err-self.ensures.value done.appends done.declares done.ssa done.variables done.full done.full_stays done.never_failed done.looks_once;
    }

pub invariant_of-self : goal.invariant_of-self
invariant_of-self g c =
    let done = c.append-built.ensures in
    record {
      named = kept_by c.append-built.result _ _ _ _ _ _ c.if-self.false c.is_err-self.ensures.value (λ names. done.names)
          (order-built _ c.append-built.result c.args.self.now.func.now _ c.args.self.now.ctx.now.parts _ c.in-Some.block c.args.shape c.args.ctrl_type c.law_consistent.ensures
          (current_exists c.args.self.now c.requires.current c.in-Some.block c.in-Some.is) (current_open c.args.self.now c.requires.current c.in-Some.block c.in-Some.is)
          done.appends done.variables c.requires.edges done.declares done.ssa)
          (λ order fits. fits_built _ c.append-built.result c.args.self.now.func.now _ c.args.self.now.ctx.now.parts _ c.in-Some.block c.args.shape c.args.ctrl_type done.appends done.declares done.variables.0 fits)
          c.args.self.now.named;
    }
