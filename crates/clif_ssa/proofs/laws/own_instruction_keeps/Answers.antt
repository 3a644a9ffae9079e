use Rattle.clif_ssa.proofs.Bodies.{firm_from}
use Rattle.clif_ssa.proofs.Owning.{own_described}
use Rattle.clif_ssa.proofs.laws.own_instruction_keeps.Goals as goal

pub returns : goal.returns
returns c = λ own f s blocks b names shape types loc known both open_block there as_many new.
    own_described own f s blocks b names shape types loc (firm_from f known) both open_block there as_many new
