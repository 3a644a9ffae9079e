use Rattle.clif_paths.proofs.labels.labels_are_kept.Goals as goal

pub returns : goal.returns
returns c = λ blocks sound of_variable of_name agree. sound.labelled.kept of_variable of_name agree
