use Rattle.std.proofs.Common.{arith, inl, refl}
use Rattle.clif_ssa.proofs.Constructing.{constructs_none}
use Rattle.clif_ssa.proofs.Counted.{adds_more, adds_same}
use Rattle.clif_ssa.proofs.ending.end_or_stay.Goals as goal

pub returns-in-None-clause-constructs : goal.returns-in-None-clause-constructs
returns-in-None-clause-constructs c = constructs_none c.args.func.now

pub returns-in-None-clause-pools : goal.returns-in-None-clause-pools
returns-in-None-clause-pools c = inl refl

pub returns-in-None-clause-at_most : goal.returns-in-None-clause-at_most
returns-in-None-clause-at_most c = adds_more 0 2 _ _ (omega arith) (adds_same c.args.func.now c.args.func.now refl)
