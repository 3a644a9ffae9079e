use Rattle.std.proofs.Common.{take}
use Rattle.clif_ir.specs.Body.{block_at, inst_at}
use Rattle.clif_spiller.specs.Text.{StoresBefore}
use Rattle.clif_spiller.proofs.Storing.{GivesFirst}
use Rattle.clif_spiller.proofs.definitions.store_params.Given as goal

abbrev pub invariant-loop-place : goal.invariant-loop-place
invariant-loop-place l =
    GivesFirst (inst_at l.initial.func l.first).block l.initial.func l.initial.slots (block_at l.initial.func l.block).params l.place l.func l.slots
    × StoresBefore l.plan l.first l.initial.func l.initial.slots l.func l.slots (take l.place (block_at l.initial.func l.block).params)
