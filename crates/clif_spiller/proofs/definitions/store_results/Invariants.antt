use Rattle.std.proofs.Common.{◌≡◌, ◌<◌, length, take}
use Rattle.clif_ir.specs.Body.{inst_at}
use Rattle.clif_spiller.specs.Inserting.{inst_beside}
use Rattle.clif_spiller.specs.Text.{Stores}
use Rattle.clif_spiller.specs.declared.accesses.Spot.TheVariants as spot
use Rattle.clif_spiller.proofs.Storing.{GivesFirst}
use Rattle.clif_spiller.proofs.definitions.store_results.Given as goal

abbrev pub invariant-loop-place : goal.invariant-loop-place
invariant-loop-place l =
    GivesFirst (inst_at l.initial.func l.inst).block l.initial.func l.initial.slots (inst_at l.initial.func l.inst).results l.place l.func l.slots
    × (inst_beside l.spot < length l.func.insts) × ((inst_at l.func (inst_beside l.spot)).block ≡ (inst_at l.initial.func l.inst).block)
    × Stores l.plan l.initial.func l.initial.slots (spot.After l.inst) l.func l.slots l.spot (take l.place (inst_at l.initial.func l.inst).results)
