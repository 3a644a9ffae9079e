use Rattle.clif_builder.proofs.GoingOn.{goes_nowhere, goes_on}
use Rattle.clif_builder.proofs.Framed.{created-untouched, filled-same, made-types}
use Rattle.clif_builder.proofs.Named.{kept_by, kept_fresh}
use Rattle.clif_builder.proofs.Ordered.{order-created}
use Rattle.std.proofs.Common.{refl}
use Rattle.clif_builder.proofs.Calls.{told_by, made}
use Rattle.clif_builder.proofs.Remembered.{remembers_created}
use Rattle.clif_builder.proofs.LedgerBlocks.{created}
use Rattle.clif_builder.proofs.StandingResults.{created_stands}
use Rattle.clif_builder.proofs.Fitting.{fits_kept, on_ok_all}
use Rattle.clif_builder.proofs.builder.FunctionBuilder.create_block.Goals as goal

pub returns-clause-told : goal.returns-clause-told
returns-clause-told g c =
    told_by c.args.self.now _ c.make_block-made.result _ _
    (λ calls agrees _.
    let made = c.make_block-made.ensures in
    created calls _ _ _ _ _ _ agrees made.function made.number made.records made.sealed made.predecessors made.status made.variables made.tracking)
    (λ signature calls stands _ ledger.
    let made = c.make_block-made.ensures in
    created_stands signature calls _ _ _ _ _ _ stands made.function made.records made.sealed made.predecessors made.status made.tracking ledger)

pub returns-clause-call : goal.returns-clause-call
returns-clause-call g c =
    made c.args.self.now _ c.make_block-made.result (record { func = refl; ctx = refl; region = refl }) refl refl c.if-self.false c.make_block-made.ensures.never_failed c.is_err-self.ensures.value
    c.make_block-made.ensures.looks_once (made-types c.make_block-made.result _ _ c.make_block-made.ensures.function)
    (filled-same c.make_block-made.result c.args.self.now.ctx.now.parts c.make_block-made.new.ctx c.make_block-made.ensures.status)

pub returns-clause-untouched : goal.returns-clause-untouched
returns-clause-untouched g c =
    let made = c.make_block-made.ensures in
    created-untouched c.make_block-made.result c.args.self.now.func.now c.args.self.now.ctx.now.parts c.make_block-made.new.ctx
    made.number made.sealed made.predecessors made.status (kept_fresh _ _ _ c.if-self.false c.args.self.now.named)

pub invariant_of-self : goal.invariant_of-self
invariant_of-self g c =
    let made = c.make_block-made.ensures in
    record {
      named = kept_by c.make_block-made.result _ _ _ _ _ _ c.if-self.false c.is_err-self.ensures.value made.names
          (order-created c.make_block-made.result _ _ _ _ made.function made.records made.sealed made.predecessors made.status made.variables)
          (λ order fits. fits_kept c.make_block-made.result _ _ _ _ (made-types c.make_block-made.result _ _ made.function) (on_ok_all c.make_block-made.result made.tracking)
          (on_ok_all c.make_block-made.result made.variables.0) fits)
          c.args.self.now.named;
    }

pub returns-clause-goes_on : goal.returns-clause-goes_on
returns-clause-goes_on g c =
    let made = c.make_block-made.ensures in
    goes_on c.args.self.now _ c.make_block-made.result (returns-clause-call g c) made.grows (λ x b. remembers_created c.make_block-made.result x b _ _ _ _ made.function made.records)

pub returns-then-self-clause-goes_on : goal.returns-then-self-clause-goes_on
returns-then-self-clause-goes_on g c = goes_nowhere (λ x b. Unit {0}) c.args.self.now _ _
