use Rattle.clif_unassigned_laws.proofs.Courses
use Rattle.clif_unassigned_laws.proofs.unassigned_examples.Goals as goal

pub returns : goal.returns
returns c = Courses.examples
