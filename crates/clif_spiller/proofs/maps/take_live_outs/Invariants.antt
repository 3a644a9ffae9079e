use Rattle.std.proofs.Common.{take}
use Rattle.std.specs.Prelude.{All, Contains}
use Rattle.clif_spiller.proofs.Waiting.{NeedsFirst, WaitsFor}
use Rattle.clif_spiller.proofs.maps.take_live_outs.Given as goal

abbrev pub invariant-loop-edge : goal.invariant-loop-edge
invariant-loop-edge l = All (Contains l.plan.spilled) l.waiting.items × WaitsFor l.plan l.slots l.edge-items l.edge-index l.waiting.items

abbrev pub invariant-loop-value : goal.invariant-loop-value
invariant-loop-value l = NeedsFirst l.plan l.initial.func l.initial.slots (take l.value-index l.value-items) l.func l.slots
