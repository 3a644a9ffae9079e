use Rattle.clif_paths.proofs.structure.looked_up_once.Goals as goal

pub returns : goal.returns
returns c = λ types shape structured b x. ((structured.blocks b).once x, (structured.blocks b).not_looked_up x)
