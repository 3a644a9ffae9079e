use Rattle.clif_typed_runs.proofs.HoldingBytes
use Rattle.clif_typed_runs.proofs.memory_holds_bytes.Goals as goal

pub returns : goal.returns
returns c = HoldingBytes.memory_holds_bytes
