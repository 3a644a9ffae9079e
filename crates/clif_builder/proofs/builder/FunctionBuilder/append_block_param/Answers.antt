use Rattle.std.proofs.Common.{refl, subst, sym}
use Rattle.clif_builder.proofs.GoingOn.{goes_nowhere, goes_on}
use Rattle.clif_builder.specs.Growth.{Grows}
use Rattle.clif_builder.proofs.Growing.{Grows-with_param, on_ok_step}
use Rattle.clif_builder.proofs.Calls.{told_by, made}
use Rattle.std.proofs.Common.{[], ◌∷◌}
use Rattle.clif_builder.proofs.Framed.{filled-same, more-types, param-typed}
use Rattle.clif_builder.proofs.Named.{kept_by, names_param}
use Rattle.clif_builder.proofs.Ordered.{order-more}
use Rattle.clif_builder.proofs.StandingParameters.{one_agrees, one_stands, remembers_params}
use Rattle.clif_builder.proofs.Fitting.{fits_grown}
use Rattle.clif_builder.proofs.builder.FunctionBuilder.append_block_param.Goals as goal

pub invariant_of-self : goal.invariant_of-self
invariant_of-self g c =
    let done = c.append_block_param-appended.ensures in
    record {
      named = kept_by c.append_block_param-appended.result _ _ _ _ _ _ c.if-self.false c.is_err-self.ensures.value
          (names_param c.append_block_param-appended.result _ _ _ c.args.block c.args.ty done.ok done.err)
          (order-more c.append_block_param-appended.result c.args.self.now.func.now _ c.args.self.now.ctx.now.parts c.args.block (c.args.ty ∷ []) c.law_consistent.ensures c.requires.exists c.requires.pristine done.ok)
          (λ order fits. fits_grown c.append_block_param-appended.result c.args.self.now.func.now _ c.args.self.now.ctx.now.parts
          (more-types c.append_block_param-appended.result c.args.self.now.func.now _ c.args.block (c.args.ty ∷ []) done.ok) fits)
          c.args.self.now.named;
    }

pub returns-clause-typed : goal.returns-clause-typed
returns-clause-typed g c =
    param-typed c.append_block_param-appended.result c.args.self.now.func.now _ c.args.block c.args.ty c.append_block_param-appended.ensures.ok c.append_block_param-appended.ensures.number

pub returns-clause-told : goal.returns-clause-told
returns-clause-told g c = λ name.
    told_by c.args.self.now _ c.append_block_param-appended.result _ _
    (λ calls agrees names.
    let done = c.append_block_param-appended.ensures in
    one_agrees calls _ _ _ _ c.args.block name c.args.ty _ agrees c.law_consistent.ensures names c.requires.pristine done.ok done.number)
    (λ signature calls stands names ledger.
    let done = c.append_block_param-appended.ensures in
    one_stands calls _ _ _ _ c.args.block name signature c.args.ty _ stands c.law_consistent.ensures names c.requires.exists c.requires.pristine done.ok done.number)

pub returns-clause-call : goal.returns-clause-call
returns-clause-call g c =
    made c.args.self.now _ c.append_block_param-appended.result (record { func = refl; ctx = refl; region = refl }) refl refl c.if-self.false c.append_block_param-appended.ensures.never_failed c.is_err-self.ensures.value
    (λ once. once) (more-types c.append_block_param-appended.result c.args.self.now.func.now _ c.args.block (c.args.ty ∷ []) c.append_block_param-appended.ensures.ok)
    (filled-same c.append_block_param-appended.result c.args.self.now.ctx.now.parts c.args.self.now.ctx.now.parts refl)

pub returns-clause-goes_on : goal.returns-clause-goes_on
returns-clause-goes_on g c =
    goes_on c.args.self.now _ c.append_block_param-appended.result (returns-clause-call g c)
    (on_ok_step c.append_block_param-appended.result _ _ (λ function. subst (Grows c.args.self.now.func.now) (sym function) (Grows-with_param c.args.self.now.func.now c.args.block c.args.ty)) c.append_block_param-appended.ensures.ok)
    (λ x b. remembers_params c.append_block_param-appended.result x b _ _ _ c.args.block (c.args.ty ∷ []) c.law_consistent.ensures c.requires.exists c.append_block_param-appended.ensures.ok)

pub returns-then-self-clause-goes_on : goal.returns-then-self-clause-goes_on
returns-then-self-clause-goes_on g c = goes_nowhere (λ x b. Unit {0}) c.args.self.now _ _
