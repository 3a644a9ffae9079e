use Rattle.clif_builder.proofs.Fitting.{on_ok_all}
use Rattle.clif_builder.proofs.GoingOn.{goes_nowhere, goes_on}
use Rattle.clif_builder.proofs.Calls.{told, made}
use Rattle.std.proofs.Common.{inl, refl}
use Rattle.clif_meaning.specs.Request.{AppendBlockParams}
use Rattle.clif_tables.specs.Callees.{types_of}
use Rattle.clif_builder.proofs.Framed.{filled-same, more-types}
use Rattle.clif_builder.proofs.Named.{kept_by, names_grow}
use Rattle.clif_builder.proofs.Ordered.{order-more}
use Rattle.clif_builder.proofs.StandingParameters.{many_agree, many_stand, remembers_params}
use Rattle.clif_builder.proofs.Fitting.{fits_grown}
use Rattle.clif_builder.proofs.builder.FunctionBuilder.append_block_params_for_function_returns.Goals as goal

pub invariant_of-self : goal.invariant_of-self
invariant_of-self g c =
    let done = c.append_function_returns-appended.ensures in
    record {
      named = kept_by c.append_function_returns-appended.result _ _ _ _ _ _ c.if-self.false c.is_err-self.ensures.value (names_grow _ _ _ done.grows)
          (order-more c.append_function_returns-appended.result c.args.self.now.func.now _ c.args.self.now.ctx.now.parts c.args.block (types_of c.args.self.now.func.now.signature.returns) c.law_consistent.ensures c.requires.exists c.requires.pristine done.ok)
          (λ order fits. fits_grown c.append_function_returns-appended.result c.args.self.now.func.now _ c.args.self.now.ctx.now.parts
          (more-types c.append_function_returns-appended.result c.args.self.now.func.now _ c.args.block (types_of c.args.self.now.func.now.signature.returns) done.ok) fits)
          c.args.self.now.named;
    }

pub returns-clause-told : goal.returns-clause-told
returns-clause-told g c = λ name.
    told c.args.self.now _ c.append_function_returns-appended.result _ _
    (λ calls agrees names.
    many_agree calls _ _ _ _ c.args.block name (types_of c.args.self.now.func.now.signature.returns) (AppendBlockParams name (types_of c.args.self.now.func.now.signature.returns)) _ (inl refl)
    agrees c.law_consistent.ensures names c.requires.pristine c.append_function_returns-appended.ensures.ok)
    (λ signature calls stands names ledger.
    many_stand calls _ _ _ _ c.args.block name signature (types_of c.args.self.now.func.now.signature.returns) (AppendBlockParams name (types_of c.args.self.now.func.now.signature.returns)) _ (inl refl)
    stands c.law_consistent.ensures names c.requires.exists c.requires.pristine c.append_function_returns-appended.ensures.ok)

pub returns-clause-call : goal.returns-clause-call
returns-clause-call g c =
    made c.args.self.now _ c.append_function_returns-appended.result (record { func = refl; ctx = refl; region = refl }) refl refl c.if-self.false c.append_function_returns-appended.ensures.never_failed c.is_err-self.ensures.value
    (λ once. once) (more-types c.append_function_returns-appended.result c.args.self.now.func.now _ c.args.block (types_of c.args.self.now.func.now.signature.returns) c.append_function_returns-appended.ensures.ok)
    (filled-same c.append_function_returns-appended.result c.args.self.now.ctx.now.parts c.args.self.now.ctx.now.parts refl)

pub returns-clause-goes_on : goal.returns-clause-goes_on
returns-clause-goes_on g c =
    let done = c.append_function_returns-appended.ensures in
    goes_on c.args.self.now _ c.append_function_returns-appended.result (returns-clause-call g c) (on_ok_all c.append_function_returns-appended.result done.grows)
    (λ x b. remembers_params c.append_function_returns-appended.result x b _ _ _ c.args.block (types_of c.args.self.now.func.now.signature.returns) c.law_consistent.ensures c.requires.exists done.ok)

pub returns-then-self-clause-goes_on : goal.returns-then-self-clause-goes_on
returns-then-self-clause-goes_on g c = goes_nowhere (λ x b. Unit {0}) c.args.self.now _ _
