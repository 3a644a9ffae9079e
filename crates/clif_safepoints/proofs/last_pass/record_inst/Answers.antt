use Rattle.std.proofs.Common.{slice_index}
use Rattle.clif_number_sets.specs.Sets.{is_in}
use Rattle.clif_safepoints.specs.Sets.{in_set_of}
use Rattle.clif_safepoints.specs.Transfer.{is_live_behind}
use Rattle.clif_safepoints.proofs.Recording.{put_alike}
use Rattle.clif_safepoints.proofs.last_pass.record_inst.Goals as goal

pub returns-clause-put : goal.returns-clause-put
returns-clause-put c =
    put_alike c.args.func.now c.args.recorded.now (is_in c.step_behind.new.live)
    (λ place. is_live_behind c.args.func.now (in_set_of c.args.live_ins.now place) (slice_index c.args.recorded.now place) c.args.inst (is_in c.args.live.now place))
    c.args.inst c.args.across.now.items c.put_values.new.across.items c.step_behind.ensures.members c.in_ok-put_values.ensures.ok
