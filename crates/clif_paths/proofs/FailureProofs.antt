-- The wrong changes, each refuted on one path.
use Rattle.std.proofs.Common.{◌≡◌, ◌≢◌, ℕ, refl, Some, [], ◌∷◌}
use Rattle.clif_paths.specs.Places.{Place, Path, Follows, end_of, same_place}
use Rattle.clif_paths.specs.Denotation.{Instance, given, variable, instances, denotation}
use Rattle.clif_paths.specs.Sound.{Sound}
use Rattle.clif_paths.specs.Laws.{AssignsGiven}
use Rattle.clif_paths.specs.Blocks.{Blocks, front, state_of, with_dropped, with_record}
use Rattle.clif_paths.specs.Moves.{Sheet, blank, write_variable, after, after_all, differs, agrees, agree_all}
use Rattle.clif_paths.specs.Examples.{entry, on, jump, first_witness, two_values, from_seven}
use Rattle.clif_paths.specs.Failures.{two_values_waiting, two_witnesses, DropBreaks, CopyBreaks, left_already, left_witnesses, AssignBreaks, value_comes, ZeroBreaks, nothing_leads, eight_at_one, CopyFromNowhereBreaks}
use Rattle.clif_paths.proofs.Concluding.{arms_allowed}
use Rattle.clif_paths.proofs.Moving.{allowed_moves, fits_written}
use Rattle.clif_paths.proofs.Finishing.{given_moves, assigns_given}
use Rattle.clif_paths.proofs.Checked.{differs_place, each_listed}
use Rattle.clif_paths.proofs.LabelExamples.{agreeing_moves, other_label}
use Rattle.clif_paths.proofs.ExampleProofs.{computing}

-- in sound tables a record agrees with its variable on every path along the known arms
record_agrees :
    (blocks : Blocks) → Sound (state_of blocks) → AssignsGiven (state_of blocks).program →
    (place : Place) (x v : ℕ) → (state_of blocks).recorded place x ≡ Some v →
    (path : Path) → Follows (state_of blocks).program.arms path → end_of path ≡ place →
    denotation (state_of blocks).program blocks.function path v ≡ instances (state_of blocks).program path (variable x)
record_agrees blocks sound assigns place x v is_recorded path follows at_end =
    ((sound.under (state_of blocks).program.arms (arms_allowed (state_of blocks) sound assigns)).records place x v is_recorded).agrees
    path follows at_end

-- two instances that were given by different names are different
names_differ : (n m : ℕ) (p q : Path) → n ≢ m → given n p ≢ given m q
names_differ n m p q ne e = let same : n ≡ m = cc in ne same

zero_differs : (x n : ℕ) (p : Path) → Instance.zero x ≢ given n p
zero_differs x n p e = cc

one_zero : ◌≢◌ {A = ℕ} 0 1
one_zero e = cc

through_one : Path
through_one = jump 1 3 0 3 ∷ on 1 2 ∷ on 1 1 ∷ on 1 0 ∷ jump 0 3 0 1 ∷ on 0 2 ∷ on 0 1 ∷ on 0 0 ∷ entry ∷ []

given_one : Path
given_one = on 1 0 ∷ jump 0 3 0 1 ∷ on 0 2 ∷ on 0 1 ∷ on 0 0 ∷ entry ∷ []

given_zero : Path
given_zero = on 0 0 ∷ entry ∷ []

pub drop_breaks : DropBreaks
unfolding computing through_one given_one given_zero
drop_breaks = record {
  sound = (allowed_moves two_values_waiting refl).tables;
  broken = λ sound.
      let blocks : Blocks = with_dropped (after_all blank two_values_waiting).blocks 2 0 in
      let same : given 0 given_zero ≡ given 1 given_one =
      record_agrees blocks sound (given_moves two_values_waiting two_witnesses refl refl) (front 3) 0 2 refl through_one
      (refl, refl, (refl, refl, (refl, refl, (refl, refl, (refl, refl, (refl, refl, (refl, refl, (refl, refl, (refl, refl, tt))))))))) refl in
      names_differ 0 1 given_zero given_one one_zero same;
}

pub copy_breaks : CopyBreaks
unfolding computing through_one given_one given_zero
copy_breaks = record {
  sound = (allowed_moves two_values refl).tables;
  broken = λ sound.
      let blocks : Blocks = with_record (after_all blank two_values).blocks 3 0 0 in
      let same : given 0 given_zero ≡ given 1 given_one =
      record_agrees blocks sound (given_moves two_values two_witnesses refl refl) (front 3) 0 0 refl through_one
      (refl, refl, (refl, refl, (refl, refl, (refl, refl, (refl, refl, (refl, refl, (refl, refl, (refl, refl, (refl, refl, tt))))))))) refl in
      names_differ 0 1 given_zero given_one one_zero same;
}

to_one : Path
to_one = jump 0 4 0 1 ∷ on 0 3 ∷ on 0 2 ∷ on 0 1 ∷ on 0 0 ∷ entry ∷ []

second_given : Path
second_given = on 0 1 ∷ on 0 0 ∷ entry ∷ []

pub assign_breaks : AssignBreaks
unfolding computing to_one given_zero second_given
assign_breaks = record {
  sound = (allowed_moves left_already refl).tables;
  broken = λ sound.
      let sheet : Sheet = after (after_all blank left_already) (write_variable 0 0 1) in
      let assigns : AssignsGiven (state_of sheet.blocks).program =
      assigns_given sheet left_witnesses (fits_written (after_all blank left_already) 0 0 1 (allowed_moves left_already refl).fits) refl in
      let same : given 0 given_zero ≡ given 1 second_given =
      record_agrees sheet.blocks sound assigns (front 1) 0 0 refl to_one
      (refl, refl, (refl, refl, (refl, refl, (refl, refl, (refl, refl, (refl, refl, tt)))))) refl in
      names_differ 0 1 given_zero second_given one_zero same;
}

into_one : Path
into_one = jump 0 3 0 1 ∷ on 0 2 ∷ on 0 1 ∷ on 0 0 ∷ entry ∷ []

pub zero_breaks : ZeroBreaks
unfolding computing into_one given_zero
zero_breaks = record {
  sound = (allowed_moves value_comes refl).tables;
  broken = λ sound.
      let blocks : Blocks = with_dropped (after_all blank value_comes).blocks 1 2 in
      let same : Instance.zero 0 ≡ given 0 given_zero =
      record_agrees blocks sound (given_moves value_comes first_witness refl refl) (front 1) 0 1 refl into_one
      (refl, refl, (refl, refl, (refl, refl, (refl, refl, (refl, refl, tt))))) refl in
      zero_differs 0 0 given_zero same;
}

pub copy_from_nowhere_breaks : CopyFromNowhereBreaks
unfolding computing agrees agree_all
copy_from_nowhere_breaks = record {
  none_comes = λ arm joined.
      differs_place arm.target (front 1)
      (each_listed (λ a. differs (same_place a.target (front 1))) (after_all blank nothing_leads).arms arm refl
      ((allowed_moves nothing_leads refl).fits.arms arm joined));
  kept = agreeing_moves nothing_leads refl from_seven eight_at_one refl;
  lost = λ kept. other_label ((kept.records 1 0 1 refl).by_kind);
}
