use Rattle.std.proofs.Common.{refl}
use Rattle.clif_builder.proofs.GoingOn.{goes_nowhere, goes_on}
use Rattle.clif_builder.proofs.Calls.{by_memory, made}
use Rattle.clif_builder.proofs.Framed.{filled-same}
use Rattle.clif_builder.proofs.Named.{kept_by}
use Rattle.clif_builder.proofs.Redirected.{names_redirected, order_after, redirected_grows, redirected_remembers, redirected_stands, redirected_types, redirects_from}
use Rattle.clif_builder.proofs.Fitting.{fits_kept, on_ok_all}
use Rattle.clif_builder.proofs.builder.FunctionBuilder.change_jump_destination.Goals as goal

pub returns-clause-redirects : goal.returns-clause-redirects
returns-clause-redirects g c =
    let done = c.move_branch-moved.ensures in
    redirects_from c.move_branch-moved.result c.args.self.now.func.now c.args.self.now.ctx.now.parts c.move_branch-moved.new.func c.move_branch-moved.new.self c.args.inst c.args.old_block c.args.new_block done.moved done.records done.tracking done.status done.variables

pub returns-clause-stands : goal.returns-clause-stands
returns-clause-stands g c = λ signature calls branch from to stands names_branch names_from names_to.
    let done = c.move_branch-moved.ensures in
    redirected_stands signature calls _ _ _ _ _ branch from to c.args.inst c.args.old_block c.args.new_block c.move_branch-moved.result stands names_branch names_from names_to
    c.law_consistent.ensures (redirects_from c.move_branch-moved.result c.args.self.now.func.now c.args.self.now.ctx.now.parts c.move_branch-moved.new.func c.move_branch-moved.new.self c.args.inst c.args.old_block c.args.new_block done.moved done.records done.tracking done.status done.variables)
    c.requires.inst_exists c.requires.old_unsealed c.requires.new_unsealed c.requires.leads

pub returns-clause-call : goal.returns-clause-call
returns-clause-call g c =
    let done = c.move_branch-moved.ensures in
    made c.args.self.now _ c.move_branch-moved.result (record { func = refl; ctx = refl; region = refl }) refl refl c.if-self.false (by_memory _ done.only_memory) c.is_err-self.ensures.value
    done.looks_once
    (redirected_types c.move_branch-moved.result c.args.self.now.func.now c.args.self.now.ctx.now.parts c.move_branch-moved.new.func c.move_branch-moved.new.self c.args.inst c.args.old_block c.args.new_block c.requires.inst_exists
    (redirects_from c.move_branch-moved.result c.args.self.now.func.now c.args.self.now.ctx.now.parts c.move_branch-moved.new.func c.move_branch-moved.new.self c.args.inst c.args.old_block c.args.new_block done.moved done.records done.tracking done.status done.variables))
    (filled-same c.move_branch-moved.result c.args.self.now.ctx.now.parts c.move_branch-moved.new.self done.status)

pub invariant_of-self : goal.invariant_of-self
invariant_of-self g c =
    let done = c.move_branch-moved.ensures in
    record {
      named = kept_by c.move_branch-moved.result _ _ _ _ _ _ c.if-self.false c.is_err-self.ensures.value
          (names_redirected c.move_branch-moved.result c.args.self.now.func.now c.move_branch-moved.new.func c.args.self.now.ctx.now.parts.ssa c.move_branch-moved.new.self.ssa c.args.inst c.args.old_block c.args.new_block c.requires.inst_exists
          done.moved done.err done.records done.blocks)
          (order_after c.move_branch-moved.result c.args.self.now.func.now c.args.self.now.ctx.now.parts c.move_branch-moved.new.func c.move_branch-moved.new.self c.args.inst c.args.old_block c.args.new_block
          (redirects_from c.move_branch-moved.result c.args.self.now.func.now c.args.self.now.ctx.now.parts c.move_branch-moved.new.func c.move_branch-moved.new.self c.args.inst c.args.old_block c.args.new_block done.moved done.records done.tracking done.status done.variables)
          c.requires.inst_exists c.requires.old_unsealed c.requires.new_unsealed c.requires.leads c.law_consistent.ensures c.requires.target_exists)
          (λ order fits. fits_kept c.move_branch-moved.result c.args.self.now.func.now c.move_branch-moved.new.func c.args.self.now.ctx.now.parts c.move_branch-moved.new.self
          (redirected_types c.move_branch-moved.result c.args.self.now.func.now c.args.self.now.ctx.now.parts c.move_branch-moved.new.func c.move_branch-moved.new.self c.args.inst c.args.old_block c.args.new_block c.requires.inst_exists
          (redirects_from c.move_branch-moved.result c.args.self.now.func.now c.args.self.now.ctx.now.parts c.move_branch-moved.new.func c.move_branch-moved.new.self c.args.inst c.args.old_block c.args.new_block done.moved done.records done.tracking done.status done.variables))
          (on_ok_all c.move_branch-moved.result done.tracking) (on_ok_all c.move_branch-moved.result done.variables.0) fits)
          c.args.self.now.named;
    }

pub returns-clause-goes_on : goal.returns-clause-goes_on
returns-clause-goes_on g c =
    let done = c.move_branch-moved.ensures in
    let redirects = redirects_from c.move_branch-moved.result c.args.self.now.func.now c.args.self.now.ctx.now.parts c.move_branch-moved.new.func c.move_branch-moved.new.self c.args.inst c.args.old_block c.args.new_block done.moved done.records done.tracking done.status done.variables in
    goes_on c.args.self.now _ c.move_branch-moved.result (returns-clause-call g c)
    (redirected_grows c.move_branch-moved.result c.args.self.now.func.now c.args.self.now.ctx.now.parts c.move_branch-moved.new.func c.move_branch-moved.new.self c.args.inst c.args.old_block c.args.new_block c.requires.inst_exists redirects)
    (λ x b. redirected_remembers c.move_branch-moved.result c.args.self.now.func.now c.args.self.now.ctx.now.parts c.move_branch-moved.new.func c.move_branch-moved.new.self c.args.inst c.args.old_block c.args.new_block c.requires.inst_exists x b redirects)

pub returns-then-self-clause-goes_on : goal.returns-then-self-clause-goes_on
returns-then-self-clause-goes_on g c = goes_nowhere (λ x b. Unit {0}) c.args.self.now _ _
