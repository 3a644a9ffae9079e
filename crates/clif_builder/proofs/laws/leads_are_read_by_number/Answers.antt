use Rattle.clif_builder.proofs.Redirected.{leads_by_number}
use Rattle.clif_builder.proofs.laws.leads_are_read_by_number.Goals as goal

pub returns : goal.returns
returns given = λ declared calls f c position branch block inst number stands names_branch names_block.
    leads_by_number calls f c position stands branch block inst number names_branch names_block
