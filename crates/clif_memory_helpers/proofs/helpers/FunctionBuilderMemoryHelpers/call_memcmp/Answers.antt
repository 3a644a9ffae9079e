-- The call is the helper's.
use Rattle.clif_memory_helpers.proofs.Helped.{compares_answer}
use Rattle.clif_memory_helpers.proofs.helpers.FunctionBuilderMemoryHelpers.call_memcmp.Goals as goal

pub returns : goal.returns
returns g c = record {
  typed = c.compare_by_call.ensures.typed;
  made = compares_answer c.args.config c.args.self.now c.compare_by_call.new.bx c.args.left c.args.right c.args.size c.compare_by_call.result c.compare_by_call.ensures.made;
}
