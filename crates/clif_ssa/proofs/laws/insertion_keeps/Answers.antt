use Rattle.clif_ssa.proofs.Entering.{inserted}
use Rattle.clif_ssa.proofs.Completing.{entry_same}
use Rattle.clif_ssa.proofs.Counting.{inserted_counted}
use Rattle.clif_ssa.proofs.laws.insertion_keeps.Goals as goal

pub returns : goal.returns
returns c = λ own f s completing blocks b before sound. (
  (inserted own f s completing blocks b before sound).0,
  (inserted own f s completing blocks b before sound).1,
  (entry_same f.layout s b blocks).program,
  λ counts. inserted_counted own f s blocks _ b (entry_same f.layout s b blocks).definition counts,
)
