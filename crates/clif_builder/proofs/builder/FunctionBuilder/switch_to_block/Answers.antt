use Rattle.std.proofs.Common.{refl}
use Rattle.clif_builder.proofs.Remembered.{remembers_same}
use Rattle.clif_builder.proofs.LedgerBlocks.{switched}
use Rattle.clif_builder.proofs.Standing.{stands_switched}
use Rattle.clif_builder.specs.Builder.{with_position}
use Rattle.clif_builder.proofs.Named.{same_builder}
use Rattle.clif_builder.proofs.builder.FunctionBuilder.switch_to_block.Goals as goal

pub returns-clause-ledger : goal.returns-clause-ledger
returns-clause-ledger g c = λ calls name agrees names. switched calls _ _ _ name c.args.block agrees names

pub returns-clause-stands : goal.returns-clause-stands
returns-clause-stands g c = λ signature calls name stands names.
    stands_switched signature calls _ _ _ stands _ name (returns-clause-ledger g c calls name stands.ledger names)

pub returns-clause-remembers : goal.returns-clause-remembers
returns-clause-remembers g c = λ x b. remembers_same x b _ _ _ _ refl refl

pub returns-clause-builder : goal.returns-clause-builder
returns-clause-builder g c = same_builder (with_position c.args.self.now c.args.block) _
