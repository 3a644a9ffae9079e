use Rattle.std.proofs.Common.{◌∙◌, ◌+◌, ℕ, List, length, sym, subst}
use Rattle.clif_ir.specs.Body.{Body}
use Rattle.clif_stack_slots.specs.declared.slots.StackSlots.{StackSlots}
use Rattle.clif_spiller.specs.Acting.{ActsGiving}
use Rattle.clif_spiller.proofs.Keeping.{goes_on_refl, keeps_refl}
use Rattle.clif_spiller.proofs.Storing.{GivesFirst, all_given, gives_unassigned, next_given, none_given_yet}
use Rattle.clif_spiller.proofs.definitions.free_params.Goals as goal
use Rattle.clif_spiller.proofs.definitions.free_params.Goals.{in-Some+in_ok-free, in_default}

pub loop-value-init : goal.loop-value-init
loop-value-init c = none_given_yet c.args.block c.args.func.now c.args.slots.now c.block_params-value-items.result.now c.requires.slots

pub loop-value-preserved : goal.loop-value-preserved
loop-value-preserved c =
    let f : Body = c.args.func.now in
    let values : List ℕ = c.block_params-value-items.result.now in
    let value : ℕ = c.value-item.result in
    elim c.match-get.branch [
      | in-Some+in_ok-free w ↦
          subst (λ (b : StackSlots). GivesFirst c.args.block f c.args.slots.now values (c.loop-value.value-index + 1) f b) (sym w.slots-is)
          (next_given c.args.block f c.args.slots.now values c.loop-value.value-index f c.loop-value.slots f w.free.new.slots value c.loop-value-test.true c.value-item.is c.loop-value.invariant
          (record { keeps = keeps_refl (length f.blocks) f; slots = w.in_ok-free.ensures.ok }) (w.in_ok-free.ensures.acts c.args.block))
      | in_default w ↦
          subst (λ (b : StackSlots). GivesFirst c.args.block f c.args.slots.now values (c.loop-value.value-index + 1) f b) (sym w.slots-is)
          (next_given c.args.block f c.args.slots.now values c.loop-value.value-index f c.loop-value.slots f c.loop-value.slots value c.loop-value-test.true c.value-item.is c.loop-value.invariant
          (goes_on_refl (length f.blocks) f c.loop-value.slots c.loop-value.invariant.goes.slots) (gives_unassigned c.args.block f c.loop-value.slots value (sym c.get.ensures ∙ w.in_default.is)))
    ]

pub returns-clause-acts : goal.returns-clause-acts
returns-clause-acts c =
    subst (ActsGiving c.args.block c.args.func.now c.args.slots.now c.args.func.now c.loop-value.slots) c.block_params-value-items.ensures.exact
    (all_given c.args.block c.args.func.now c.args.slots.now c.block_params-value-items.result.now c.loop-value.value-index c.args.func.now c.loop-value.slots
    c.loop-value-test.false c.loop-value.invariant)
