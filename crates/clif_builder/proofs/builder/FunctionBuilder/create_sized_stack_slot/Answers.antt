use Rattle.std.proofs.Common.{refl}
use Rattle.clif_tables.specs.Entries.{AStackSlot}
use Rattle.clif_builder.proofs.Entries.{entry_kept, entry_made, entry_refused}
use Rattle.clif_builder.proofs.builder.FunctionBuilder.create_sized_stack_slot.Goals as goal

pub returns-then-self : goal.returns-then-self
returns-then-self g c = entry_refused (AStackSlot c.args.slot) c.args.self.now c.if-self.true

pub returns : goal.returns
returns g c =
    entry_made (AStackSlot c.args.slot) c.args.self.now _ c.create_sized_stack_slot-made.result c.if-self.false c.law_consistent.ensures (record { func = refl; ctx = refl; region = refl }) refl refl refl
    c.is_err-self.ensures.value c.create_sized_stack_slot-made.ensures

pub invariant_of-self : goal.invariant_of-self
invariant_of-self g c = record {
  named = entry_kept (AStackSlot c.args.slot) c.create_sized_stack_slot-made.result c.args.self.now.func.now _ c.args.self.now.ctx.now.parts _ _ c.if-self.false c.is_err-self.ensures.value
      c.create_sized_stack_slot-made.ensures c.args.self.now.named;
}
