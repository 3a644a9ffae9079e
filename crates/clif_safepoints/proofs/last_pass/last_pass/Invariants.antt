use Rattle.std.proofs.Common.{◌≡◌, length, take}
use Rattle.clif_safepoints.specs.FrontTables.{AreFronts, tables_of}
use Rattle.clif_safepoints.specs.LastPass.{IsListedBy}
use Rattle.clif_safepoints.proofs.last_pass.last_pass.Given as goal

abbrev pub invariant-loop-block : goal.invariant-loop-block
invariant-loop-block l =
    IsListedBy l.func l.recorded l.live_ins (take l.block-index l.order) l.across.items
    × AreFronts l.func l.recorded l.live_ins (take l.block-index l.order) (tables_of l.fronts) × (length l.live ≡ length l.recorded)
