use Rattle.clif_paths.proofs.structure.unrecorded_is_untouched.Goals as goal

pub returns : goal.returns
returns c = λ types shape structured b x. (structured.blocks b).untouched x
