use Rattle.std.proofs.Common.{refl}
use Rattle.clif_builder.proofs.Growing.{Grows-same}
use Rattle.clif_builder.proofs.Remembered.{remembers_same}
use Rattle.clif_builder.specs.Builder.{with_srcloc}
use Rattle.clif_builder.proofs.Named.{same_builder}
use Rattle.clif_builder.proofs.builder.FunctionBuilder.set_srcloc.Goals as goal

pub returns-clause-builder : goal.returns-clause-builder
returns-clause-builder g c = same_builder (with_srcloc c.args.self.now c.args.srcloc) _

pub returns-clause-ledger : goal.returns-clause-ledger
returns-clause-ledger g c = λ calls agrees. agrees

pub returns-clause-stands : goal.returns-clause-stands
returns-clause-stands g c = λ signature calls stands. stands

pub returns-clause-goes_on : goal.returns-clause-goes_on
returns-clause-goes_on g c = record { grows = Grows-same c.args.self.now.func.now _ refl; remembers = λ x b _. remembers_same x b _ _ _ _ refl refl; current = λ current. current }
