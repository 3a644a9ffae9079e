use Rattle.clif_expansion.proofs.ProgramsOfCalls
use Rattle.clif_expansion.proofs.laws.joined_calls_have_joined_programs.Goals as goal

pub returns : goal.returns
returns c = ProgramsOfCalls.joined_programs
