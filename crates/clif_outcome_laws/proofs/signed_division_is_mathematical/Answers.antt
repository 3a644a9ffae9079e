use Rattle.clif_outcome_laws.proofs.Division
use Rattle.clif_outcome_laws.proofs.signed_division_is_mathematical.Goals as goal

pub returns : goal.returns
returns c = record {
  signed = λ width x y some x_is y_is none. Division.signed_division width some x y x_is y_is none;
  unsigned = λ width x y none. Division.unsigned_division width x y none;
}
