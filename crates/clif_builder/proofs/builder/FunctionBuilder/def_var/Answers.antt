use Rattle.clif_builder.proofs.GoingOn.{goes_nowhere, goes_where, grows_still}
use Rattle.clif_builder.specs.GoesOn.{IsUnassigned}
use Rattle.clif_builder.proofs.Framed.{filled-same, same-types}
use Rattle.clif_builder.proofs.Named.{kept_by}
use Rattle.clif_builder.proofs.Ordered.{order-assigned}
use Rattle.clif_builder.proofs.Calls.{told, made, by_memory}
use Rattle.std.proofs.Common.{refl, ap, sym, ◌∙◌, Some}
use Rattle.clif_builder.proofs.Remembered.{remembers_assigned}
use Rattle.clif_builder.proofs.LedgerVariables.{assigned}
use Rattle.clif_builder.proofs.Standing.{current_open}
use Rattle.clif_builder.proofs.StandingResults.{assigned_stands}
use Rattle.clif_builder.proofs.Tracks.{binds}
use Rattle.clif_builder.proofs.Fitting.{fits_bound}
use Rattle.clif_builder.proofs.builder.FunctionBuilder.def_var.Goals as goal

pub returns-clause-tracks : goal.returns-clause-tracks
returns-clause-tracks g c = binds c.def_var-recorded.result _ _ _ _ c.def_var-recorded.ensures.tracking

pub returns-clause-told : goal.returns-clause-told
returns-clause-told g c = λ name.
    told c.args.self.now _ c.def_var-recorded.result _ _
    (λ calls agrees names.
    let done = c.def_var-recorded.ensures in
    assigned calls _ _ _ _ c.args.variable name c.in-Some.block c.args.value _ agrees names c.requires.value_exists c.requires.same_type done.ok done.tracking done.blocks done.status done.touches)
    (λ signature calls stands names ledger.
    let done = c.def_var-recorded.ensures in
    assigned_stands signature calls _ _ _ _ c.args.variable c.args.value c.in-Some.block name _ stands c.in-Some.is c.law_consistent.ensures
    (current_open c.args.self.now c.requires.current c.in-Some.block c.in-Some.is) c.requires.value_exists c.requires.same_type names done.ok done.tracking
    done.blocks done.status ledger)

pub returns-clause-call : goal.returns-clause-call
returns-clause-call g c =
    made c.args.self.now _ c.def_var-recorded.result (record { func = refl; ctx = refl; region = refl }) refl refl c.if-self.false (by_memory _ c.def_var-recorded.ensures.only_memory) c.is_err-self.ensures.value
    c.def_var-recorded.ensures.looks_once (same-types c.def_var-recorded.result c.args.self.now.func.now)
    (filled-same c.def_var-recorded.result c.args.self.now.ctx.now.parts c.def_var-recorded.new.self c.def_var-recorded.ensures.status)

pub invariant_of-self : goal.invariant_of-self
invariant_of-self g c =
    let done = c.def_var-recorded.ensures in
    record {
      named = kept_by c.def_var-recorded.result _ _ _ _ _ _ c.if-self.false c.is_err-self.ensures.value (done.names _ c.requires.value_exists)
          (order-assigned c.def_var-recorded.result c.args.self.now.func.now c.args.self.now.ctx.now.parts c.def_var-recorded.new.self c.args.variable c.in-Some.block c.args.value _
          c.requires.same_type (c.requires.value_exists, refl) done.ok done.blocks done.status done.touches)
          (λ order fits. fits_bound c.def_var-recorded.result c.args.self.now.func.now c.args.self.now.ctx.now.parts c.def_var-recorded.new.self c.args.variable c.args.value c.requires.value_exists
          c.requires.same_type done.tracking done.variables fits)
          c.args.self.now.named;
    }

pub returns-clause-goes_on : goal.returns-clause-goes_on
returns-clause-goes_on g c =
    goes_where (IsUnassigned c.args.self.now c.args.variable) c.args.self.now _ c.def_var-recorded.result (returns-clause-call g c)
    (grows_still c.def_var-recorded.result c.args.self.now.func.now _ refl)
    (λ x b apart.
    remembers_assigned c.def_var-recorded.result c.args.variable c.in-Some.block x b c.args.value _ _ _ _
    (λ first second. apart first (c.in-Some.is ∙ ap Some (sym second))) refl c.def_var-recorded.ensures.ok)

pub returns-then-self-clause-goes_on : goal.returns-then-self-clause-goes_on
returns-then-self-clause-goes_on g c = goes_nowhere (IsUnassigned c.args.self.now c.args.variable) c.args.self.now _ _
