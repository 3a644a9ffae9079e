-- The call is the helper's.
use Rattle.std.proofs.Common.{refl}
use Rattle.clif_types.specs.declared.libcall.LibCall.TheVariants.{Memmove}
use Rattle.clif_memory_helpers.proofs.Helped.{always, copies_help}
use Rattle.clif_memory_helpers.proofs.helpers.FunctionBuilderMemoryHelpers.call_memmove.Goals as goal

pub returns : goal.returns
returns g c =
    copies_help c.args.config c.args.self.now c.copy_by_call.new.bx c.args.dest c.args.src c.args.size c.copy_by_call.result Memmove (λ place x y z. refl) c.copy_by_call.ensures
    (always c.copy_by_call.result _ tt)
