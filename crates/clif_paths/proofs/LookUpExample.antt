-- A whole look-up, move by move.
use Rattle.std.proofs.Common.{◌≡◌, ℕ, true, ◌||◌, Some, List, [], ◌∷◌, ◌⊎◌, inl, inr, refl, sym, ◌∙◌}
use Rattle.clif_paths.specs.Places.{inside, same_place, Arm}
use Rattle.clif_paths.specs.Blocks.{Blocks, front, last_place, with_parameter}
use Rattle.clif_paths.specs.LookUp.{Frame, AtRest, Finds, Delivers, NotFor, Paired}
use Rattle.clif_paths.specs.Moves.{Sheet, blank, differs, after_all}
use Rattle.clif_paths.specs.Examples.{two_values, two_predecessors, from_two, looked_up, LookUpFills}
use Rattle.clif_paths.proofs.PathLemmas.{same_place-true, same_place-equal, same_place-other}
use Rattle.clif_paths.proofs.Checked.{of_or, differs_place, each_listed, assigns_not_told}
use Rattle.clif_paths.proofs.Moving.{SheetSound, allowed_moves}
use Rattle.clif_paths.proofs.LookingUp.{result_is_pushed, last_result_answers, found_is_delivered, next_is_expected, record_is_found, parameter_is_added, frame_is_pushed, filling_finishes}
use Rattle.clif_paths.proofs.ExampleProofs.{computing}

sheet : Sheet
sheet = after_all blank two_values

added : Blocks
unfolding sheet
added = with_parameter sheet.blocks 3 0 2

sheet_sound : SheetSound sheet
unfolding sheet computing
sheet_sound = allowed_moves two_values refl

parameter_added : Finds added two_predecessors 0 (Some 3) [] 3 2 × NotFor 2 []
unfolding sheet added computing
parameter_added =
    parameter_is_added sheet.blocks two_predecessors 0 (Some 3) [] 3 2 [] sheet_sound.tables refl
    (record { assigns_not = assigns_not_told sheet.blocks 3 0 refl; new_value = refl; no_alias = refl })
    refl tt tt

first_frame : Frame
first_frame = record { parameter = 2; block = 3; done = []; results = []; todo = 1 ∷ 2 ∷ [] }

begun : AtRest added two_predecessors 0 (Some 3) first_frame []
unfolding sheet added first_frame computing
begun =
    frame_is_pushed added two_predecessors 0 (Some 3) [] 3 2
    (found_is_delivered added two_predecessors 0 (Some 3) [] 3 2 parameter_added.0)
    (record { is_parameter = refl; is_sealed = refl }) refl tt

-- a record that the next predecessor itself has
found_next :
    (f : Frame) (b v : ℕ) (todo : List ℕ) → f.todo ≡ b ∷ todo → AtRest added two_predecessors 0 (Some 3) f [] → added.recorded b 0 ≡ Some v →
    (c : ℕ) × AtRest added two_predecessors 0 (Some 3) (record f { todo = todo; done = c ∷ f.done; results = v ∷ f.results }) []
found_next f b v todo next rest is_recorded =
    let waiting : Frame = record f { todo = todo } in
    result_is_pushed added two_predecessors 0 (Some 3) waiting [] v
    (found_is_delivered added two_predecessors 0 (Some 3) (waiting ∷ []) b v
    (record_is_found added two_predecessors 0 (Some 3) (waiting ∷ []) b v [] parameter_added.0.sound
    (next_is_expected added two_predecessors 0 (Some 3) f [] b todo next rest) is_recorded tt tt))

both_done :
    (c d : ℕ) × AtRest added two_predecessors 0 (Some 3)
    (record { parameter = 2; block = 3; done = d ∷ c ∷ []; results = 0 ∷ 1 ∷ []; todo = [] }) []
unfolding sheet added first_frame computing
both_done =
    let (c, one) = found_next first_frame 1 1 (2 ∷ []) refl begun refl in
    let (d, two) = found_next (record { parameter = 2; block = 3; done = c ∷ []; results = 1 ∷ []; todo = 2 ∷ [] }) 2 0 [] refl one refl in
    (c, d, two)

-- an arm into block 3 is one of the two
into_three : (arm : Arm) → added.joins arm ≡ true → arm.target ≡ front 3 → (arm.source ≡ inside 1 3) ⊎ (arm.source ≡ inside 2 1)
unfolding sheet added computing
into_three arm joined at =
    by_test (of_or (differs (same_place arm.target (front 3))) (same_place arm.source (inside 1 3) || same_place arm.source (inside 2 1))
    (each_listed
    (λ a. differs (same_place a.target (front 3)) || (same_place a.source (inside 1 3) || same_place a.source (inside 2 1)))
    sheet.arms arm refl (sheet_sound.fits.arms arm joined)))
  where
    which : (same_place arm.source (inside 1 3) ≡ true) ⊎ (same_place arm.source (inside 2 1) ≡ true) → (arm.source ≡ inside 1 3) ⊎ (arm.source ≡ inside 2 1)
    which (inl e) = inl (same_place-true arm.source (inside 1 3) e)
    which (inr e) = inr (same_place-true arm.source (inside 2 1) e)

    by_test : (differs (same_place arm.target (front 3)) ≡ true) ⊎ ((same_place arm.source (inside 1 3) || same_place arm.source (inside 2 1)) ≡ true) → (arm.source ≡ inside 1 3) ⊎ (arm.source ≡ inside 2 1)
    by_test (inl other) = absurd (differs_place arm.target (front 3) other at)
    by_test (inr either) = which (of_or (same_place arm.source (inside 1 3)) (same_place arm.source (inside 2 1)) either)

two_one : inside 2 1 ≡ inside 1 3 → ⊥
two_one e = cc

given_by :
    (arm : Arm) → (arm.source ≡ inside 1 3) ⊎ (arm.source ≡ inside 2 1) →
    (b : ℕ) × (Paired (1 ∷ 2 ∷ []) (1 ∷ 0 ∷ []) b (from_two arm)) × (arm.source ≡ last_place added b)
unfolding sheet added computing
given_by arm (inl e) = (1, inl (refl, rw (same_place-equal arm.source (inside 1 3) e) refl), e)
given_by arm (inr e) = (2, inr (inl (refl, rw (same_place-other arm.source (inside 1 3) (λ h. two_one (sym e ∙ h))) refl)), e)

filled : Delivers looked_up two_predecessors 0 (Some 3) [] 2
unfolding sheet added computing
filled =
    let (c, d, rest) = both_done in
    filling_finishes added two_predecessors 0 (Some 3)
    (record { parameter = 2; block = 3; done = d ∷ c ∷ []; results = 0 ∷ 1 ∷ []; todo = [] }) [] from_two
    parameter_added.0.sound rest refl
    (λ arm joined at. given_by arm (into_three arm joined at))

pub look_up_fills : LookUpFills
look_up_fills = record {
  delivered = filled;
  answers = last_result_answers looked_up two_predecessors 0 3 2 filled;
}
