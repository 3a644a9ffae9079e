-- The calls are the helper's.
use Rattle.clif_memory_helpers.proofs.Helped.{always, sets_help}
use Rattle.clif_memory_helpers.proofs.helpers.FunctionBuilderMemoryHelpers.call_memset.Goals as goal

pub returns : goal.returns
returns g c =
    sets_help c.args.config c.args.self.now c.fill_by_call.new.bx c.args.buffer c.args.ch c.args.size c.fill_by_call.result c.fill_by_call.ensures (always c.fill_by_call.result _ tt)
