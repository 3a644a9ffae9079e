use Rattle.std.proofs.Common.{refl}
use Rattle.clif_renaming.proofs.RenamingRow
use Rattle.clif_renaming.proofs.renaming_examples.Goals as goal

pub returns : goal.returns
returns c = record {
  sample = refl;
  one_block = refl;
  accepted = refl;
  late_accepted = refl;
  without = refl;
  first_read = refl;
  no_answer = refl;
  other_variable = λ same. cc;
  other_answer = RenamingRow.other_answer;
  other_calls = λ same. cc;
  no_renaming = RenamingRow.no_renaming;
  not_apart = RenamingRow.not_apart;
}
