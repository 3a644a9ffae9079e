use Rattle.std.proofs.Common.{refl}
use lib.Count.{count_trailing_zeros}
use Rattle.clif_types.specs.Target.{pointer_type_of}
use Rattle.clif_types.specs.declared.target.PointerWidth.TheVariants.{U64}
use Rattle.clif_meaning.specs.SampleExamples.{sample_function, sample_late_script, sample_script, sample_signature}
use Rattle.clif_renaming.proofs.Premises.{premises_stay}
use Rattle.clif_premise_examples.specs.Examples.{on_branches, on_copies}
use Rattle.clif_premise_examples.specs.Scripts.{branches_calls, copies_calls}
use Rattle.clif_sealing_laws.specs.Examples.{branches_early, copies_late}
use Rattle.clif_sealing_laws.proofs.Emitting
use Rattle.clif_sealing_laws.proofs.calls.Premises.{calls_premises_stay}
use Rattle.clif_sealing_laws.proofs.sealing_law_examples.Goals as goal

pub returns : goal.returns
unfolding count_trailing_zeros
returns c = (
  λ config signature. record {
    differ = refl;
    accepted = refl;
    last_accepted = refl;
    other_variable = λ same. cc;
    copies_differ = refl;
    copies_accepted = refl;
    last_copies_accepted = refl;
    other_size = Emitting.other_size;
    rows_differ = refl;
    late_meets = λ world.
        (premises_stay sample_script sample_late_script sample_signature (pointer_type_of U64) sample_function sample_function world refl refl).0
        (c.sample_meets_premises.ensures.premises world);
  },
  λ function world.
      let met = c.premises_are_met.ensures function world in
      let copies = on_copies 64 80 function world in
      let branches = on_branches 1 function world in
      record {
        copies_differ = refl;
        copies_accepted = refl;
        copies_meet =
            (calls_premises_stay copies_calls copies_late copies.signature (pointer_type_of copies.width) copies.function copies.function copies.world refl refl).0
            ((c.the_premises_are_these.ensures copies).0 met.copies.holds).1;
        branches_differ = refl;
        branches_accepted = refl;
        branches_meet =
            (calls_premises_stay branches_calls (branches_early 1) branches.signature (pointer_type_of branches.width) branches.function branches.function branches.world refl refl).0
            ((c.the_premises_are_these.ensures branches).0 met.by_switch.holds).1;
        other_key = Emitting.other_key;
      },
)
