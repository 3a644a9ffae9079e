use Rattle.clif_paths.proofs.LabelsAlong.{labels_go_along}
use Rattle.clif_paths.proofs.labels.labels_go_along.Goals as goal

pub returns : goal.returns
returns c = labels_go_along
