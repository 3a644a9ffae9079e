use Rattle.clif_meaning.proofs.Ranges
use Rattle.clif_meaning.proofs.bits.memory_laws.Goals as goal

pub returns : goal.returns
returns c = record {
  written_read = Ranges.written_read;
  copied_read = Ranges.copied_read;
  filled_read = Ranges.filled_read;
  written_leaves = Ranges.written_leaves;
  copied_leaves = Ranges.copied_leaves;
  filled_leaves = Ranges.filled_leaves;
}
