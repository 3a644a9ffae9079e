use Rattle.std.proofs.Common.{sym, ◌∙◌}
use Rattle.clif_ranges.proofs.CaseMaps.{get-cases_in}
use Rattle.clif_stack_slots.proofs.slots.StackSlots.get.Goals as goal

pub returns : goal.returns
returns c = c.copied.ensures ∙ c.get.ensures.value ∙ sym (get-cases_in c.args.self.now.slots c.args.value)
