use Rattle.std.proofs.Common.{refl}
use Rattle.clif_meaning.proofs.examples.sample_examples.Goals as goal

pub returns : goal.returns
returns c = record {
  sample_one = record { by_script = λ world. refl; by_function = λ world. refl };
  sample_two = record { by_script = λ world. refl; by_function = λ world. refl };
  sample_past = record { by_script = λ world. refl; by_function = λ world. refl };
  late_one = record { by_script = λ world. refl; by_function = λ world. refl };
  late_two = record { by_script = λ world. refl; by_function = λ world. refl };
  late_past = record { by_script = λ world. refl; by_function = λ world. refl };
  reading = record { by_script = λ world. refl; by_function = λ world. refl };
  reading_accepted = refl;
  accepted = refl;
  late_accepted = refl;
  swapped = λ world. refl;
}
