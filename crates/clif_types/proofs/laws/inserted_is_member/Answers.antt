use Rattle.clif_types.proofs.Marks.{has-with_member}
use Rattle.clif_types.proofs.laws.inserted_is_member.Goals as goal

pub returns : goal.returns
returns c = has-with_member
