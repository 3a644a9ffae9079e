use Rattle.std.proofs.Common.{◌∙◌, sym, ap}
use Rattle.clif_types.specs.Types.{bytes_of}
use Rattle.clif_stack_slots.specs.Sizes.{size_of_bytes}
use Rattle.clif_spiller.proofs.Storing.{all_homes, frees_or_not}
use Rattle.clif_spiller.proofs.Giving.{freed}
use Rattle.clif_spiller.proofs.Keeping.{on_ok}
use Rattle.clif_spiller.proofs.definitions.free.Goals as goal

pub returns-clause-ok : goal.returns-clause-ok
returns-clause-ok c =
    on_ok c.free_stack_slot.result
    (λ changes. freed c.args.func.now c.args.slots.now c.free_stack_slot.new.self c.unwrap_new-size.result c.args.slot c.requires.slots c.requires.slot
    c.free_stack_slot.ensures.assigned changes) c.free_stack_slot.ensures.ok

pub returns-clause-acts : goal.returns-clause-acts
returns-clause-acts c =
    all_homes c.free_stack_slot.result _ (λ home.
    frees_or_not home c.args.func.now c.args.slots.now c.free_stack_slot.new.self c.args.value c.args.slot c.unwrap_new-size.result c.free_stack_slot.result
    (ap size_of_bytes (ap bytes_of (sym c.value_type.ensures) ∙ sym c.bytes.ensures) ∙ c.unwrap_new-size.ensures) c.requires.has c.free_stack_slot.ensures)
