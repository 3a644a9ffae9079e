-- Finished sheets are correct.
use Rattle.std.proofs.Common.{◌≡◌, ◌≢◌, ℕ, zero, suc, Bool, true, false, ◌==◌, ◌&&◌, ◌||◌, nat_lt, List, [], ◌∷◌, ◌⊎◌, inl, inr, refl, sym, ◌∙◌, ap, arith}
use Rattle.std.proofs.lemmas.Bool.Decides.{nat_tests}
use Rattle.clif_paths.specs.Places.{Place, start, inside, same_place, Arm, Edges, Path, end_of, Follows, Visits, VisitsBefore, StrictlyBefore}
use Rattle.clif_paths.specs.State.{Kind, unborn, born, pending, complete, zero_of}
use Rattle.clif_paths.specs.Laws.{NothingPending, AssignsGiven, IsCorrect}
use Rattle.clif_paths.specs.Blocks.{Blocks, arm_into, state_of}
use Rattle.clif_paths.specs.Moves.{Write, Sheet, blank, Move, each_arm, each_write, each_place, differs, in_places, next_within, holds_all_before, Witness, shown_by, is_settled, each_settled, is_finished, allows_all, after_all}
use Rattle.clif_paths.proofs.PathLemmas.{same_place-true}
use Rattle.clif_paths.proofs.Concluding.{correct}
use Rattle.clif_paths.proofs.Checked.{first_of_and, second_of_and, of_or, differs_false, differs_place, each_listed, each_has, HasValue, SheetFits}
use Rattle.clif_paths.proofs.Moving.{SheetSound, allowed_moves}

-- Nothing pending -------------------------------------------------------------------------------------------------

settled_told : (k : Kind) → is_settled k ≡ true → (x : ℕ) → k ≢ pending x
unfolding is_settled
settled_told unborn e x h = cc
settled_told (born n) e x h = cc
settled_told (pending y) e x h = cc
settled_told (complete y) e x h = cc
settled_told (zero_of y) e x h = cc

same_number : (a b : ℕ) → a ≡ b → (a == b) ≡ true
same_number a b e = grind (arith, nat_tests)

settled_at :
    (blocks : Blocks) (values : List ℕ) (v : ℕ) → each_settled blocks values ≡ true → HasValue values v → blocks.function.resolve v ≡ v →
    is_settled (blocks.function.definition v).kind ≡ true
unfolding each_settled
settled_at blocks [] v e has root = absurd has
settled_at blocks (w ∷ values) v e (inl at) root =
    settled_by (of_or (differs (blocks.function.resolve w == w)) (is_settled (blocks.function.definition w).kind)
    (first_of_and (differs (blocks.function.resolve w == w) || is_settled (blocks.function.definition w).kind) (each_settled blocks values) e))
  where
    settled_by : (differs (blocks.function.resolve w == w) ≡ true) ⊎ (is_settled (blocks.function.definition w).kind ≡ true) → is_settled (blocks.function.definition v).kind ≡ true
    settled_by (inl aliased) =
        let other = differs_false (blocks.function.resolve w == w) aliased in
        let same = same_number (blocks.function.resolve w) w (ap blocks.function.resolve (sym at) ∙ root ∙ at) in
        absurd cc
    settled_by (inr settled) = ap (λ u. is_settled (blocks.function.definition u).kind) at ∙ settled
settled_at blocks (w ∷ values) v e (inr has) root =
    settled_at blocks values v
    (second_of_and (differs (blocks.function.resolve w == w) || is_settled (blocks.function.definition w).kind) (each_settled blocks values) e)
    has root

nothing_by :
    (sheet : Sheet) → SheetFits sheet → each_settled sheet.blocks sheet.values ≡ true → (u x : ℕ) →
    HasValue sheet.values (sheet.blocks.function.resolve u) ⊎ ((sheet.blocks.function.definition (sheet.blocks.function.resolve u)).kind ≡ unborn) →
    (sheet.blocks.function.definition (sheet.blocks.function.resolve u)).kind ≢ pending x
nothing_by sheet fits e u x (inl has) =
    settled_told (sheet.blocks.function.definition (sheet.blocks.function.resolve u)).kind
    (settled_at sheet.blocks sheet.values (sheet.blocks.function.resolve u) e has (fits.ends u)) x
nothing_by sheet fits e u x (inr none) = λ h. let clash : unborn ≡ pending x = sym none ∙ h in cc

nothing_pending : (sheet : Sheet) → SheetFits sheet → each_settled sheet.blocks sheet.values ≡ true → NothingPending sheet.blocks.function
nothing_pending sheet fits e = record {
  none = λ u x. nothing_by sheet fits e u x (fits.values (sheet.blocks.function.resolve u));
}

-- Given before ----------------------------------------------------------------------------------------------------

each_in : (test : Place → Bool) (places : List Place) (p : Place) → each_place test places ≡ true → in_places places p ≡ true → test p ≡ true
unfolding each_place in_places
each_in test [] p each here = absurd cc
each_in test (q ∷ places) p each here = in_by (of_or (same_place p q) (in_places places p) here) (each_in test places p (second_of_and (test q) (each_place test places) each))
  where
    in_by : (same_place p q ≡ true) ⊎ (in_places places p ≡ true) → (in_places places p ≡ true → test p ≡ true) → test p ≡ true
    in_by (inl same) rest = ap test (same_place-true p q same) ∙ first_of_and (test q) (each_place test places) each
    in_by (inr later) rest = rest later

-- the places of the list hold the start, and are left only by a visit of the home
record Surrounds (edges : Edges) (home : Place) (places : List Place) : Type 0 where
  pub begins : in_places places start ≡ true
  pub leaves :
      (arm : Arm) → edges arm ≡ true → in_places places arm.source ≡ true → (arm.target ≡ home) ⊎ (in_places places arm.target ≡ true)

outside_by :
    {edges : Edges} {home : Place} (places : List Place) → Surrounds edges home places → (arm : Arm) (path : Path) → Follows edges (arm ∷ path) →
    (in_places places (end_of path) ≡ true) ⊎ Visits home path → (in_places places arm.target ≡ true) ⊎ Visits home (arm ∷ path)
outside_by {edges} {home} places surrounds arm path f (inr visits) = inr (inr visits)
outside_by {edges} {home} places surrounds arm path f (inl in_list) =
    left_by (surrounds.leaves arm f.0 (ap (λ p. in_places places p) f.1 ∙ in_list))
  where
    left_by : (arm.target ≡ home) ⊎ (in_places places arm.target ≡ true) → (in_places places arm.target ≡ true) ⊎ Visits home (arm ∷ path)
    left_by (inl at_home) = inr (inl (sym at_home))
    left_by (inr still) = inl still

outside :
    {edges : Edges} {home : Place} (places : List Place) → Surrounds edges home places → (path : Path) → Follows edges path →
    (in_places places (end_of path) ≡ true) ⊎ Visits home path
outside places surrounds [] f = inl surrounds.begins
outside places surrounds (arm ∷ path) f = outside_by places surrounds arm path f (outside places surrounds path f.2)

before_target : (home : Place) (place : Place) → home ≢ place → (path : Path) → end_of path ≡ place → Visits home path → VisitsBefore home path
before_target home place other [] at_end visits = visits
before_target home place other (arm ∷ path) at_end (inl e) = absurd (other (e ∙ at_end))
before_target home place other (arm ∷ path) at_end (inr visits) = visits

surrounded_before :
    {edges : Edges} {home : Place} (places : List Place) (place : Place) → Surrounds edges home places → in_places places place ≡ false → home ≢ place →
    StrictlyBefore edges home place
surrounded_before {edges} {home} places place surrounds out other = record {
  on_every_path = λ path f at_end. before_target home place other path at_end (visited path at_end (outside places surrounds path f));
}
  where
    visited : (path : Path) → end_of path ≡ place → (in_places places (end_of path) ≡ true) ⊎ Visits home path → Visits home path
    visited path at_end (inl in_list) = let here : in_places places (end_of path) ≡ false = ap (λ p. in_places places p) at_end ∙ out in absurd cc
    visited path at_end (inr visits) = visits

leaves_by :
    (sheet : Sheet) (home : Place) (places : List Place) → SheetFits sheet → holds_all_before sheet home places ≡ true →
    (arm : Arm) (p : Place) → arm.target ≡ p → arm_into sheet.blocks.count sheet.blocks.sealed sheet.blocks.joins arm p ≡ true →
    in_places places arm.source ≡ true → (p ≡ home) ⊎ (in_places places p ≡ true)
unfolding holds_all_before next_within
leaves_by sheet home places fits e arm start at known in_list = absurd cc
leaves_by sheet home places fits e arm (inside b zero) at known in_list =
    joined (of_or (differs (in_places places arm.source)) (same_place arm.target home || in_places places arm.target) passed)
  where
    test : Arm → Bool
    test a = differs (in_places places a.source) || (same_place a.target home || in_places places a.target)

    passed : (differs (in_places places arm.source) || (same_place arm.target home || in_places places arm.target)) ≡ true
    passed =
        each_listed (λ a. differs (in_places places a.source) || (same_place a.target home || in_places places a.target)) sheet.arms arm
        (second_of_and (each_place (next_within sheet.blocks home places) places)
        (each_arm (λ a. differs (in_places places a.source) || (same_place a.target home || in_places places a.target)) sheet.arms)
        (second_of_and (in_places places start)
        (each_place (next_within sheet.blocks home places) places &&
        each_arm (λ a. differs (in_places places a.source) || (same_place a.target home || in_places places a.target)) sheet.arms) e))
        (fits.arms arm (second_of_and (sheet.blocks.sealed b) (sheet.blocks.joins arm) known))

    in_target : (same_place arm.target home ≡ true) ⊎ (in_places places arm.target ≡ true) → (inside b 0 ≡ home) ⊎ (in_places places (inside b 0) ≡ true)
    in_target (inl same) = inl (sym at ∙ same_place-true arm.target home same)
    in_target (inr here) = inr (ap (λ p. in_places places p) (sym at) ∙ here)

    joined : (differs (in_places places arm.source) ≡ true) ⊎ ((same_place arm.target home || in_places places arm.target) ≡ true) → (inside b 0 ≡ home) ⊎ (in_places places (inside b 0) ≡ true)
    joined (inl other) = let out = differs_false (in_places places arm.source) other in absurd cc
    joined (inr either) = in_target (of_or (same_place arm.target home) (in_places places arm.target) either)
leaves_by sheet home places fits e arm (inside b (suc k)) at known in_list =
    next (of_or (differs (nat_lt k (sheet.blocks.count b))) (same_place (inside b (suc k)) home || in_places places (inside b (suc k))) passed)
  where
    written : nat_lt k (sheet.blocks.count b) ≡ true
    written = first_of_and (nat_lt k (sheet.blocks.count b)) (same_place arm.source (inside b k) && (arm.edge == 0)) known

    source : arm.source ≡ inside b k
    source =
        same_place-true arm.source (inside b k)
        (first_of_and (same_place arm.source (inside b k)) (arm.edge == 0)
        (second_of_and (nat_lt k (sheet.blocks.count b)) (same_place arm.source (inside b k) && (arm.edge == 0)) known))

    passed : (differs (nat_lt k (sheet.blocks.count b)) || (same_place (inside b (suc k)) home || in_places places (inside b (suc k)))) ≡ true
    passed =
        each_in (next_within sheet.blocks home places) places (inside b k)
        (first_of_and (each_place (next_within sheet.blocks home places) places)
        (each_arm (λ a. differs (in_places places a.source) || (same_place a.target home || in_places places a.target)) sheet.arms)
        (second_of_and (in_places places start)
        (each_place (next_within sheet.blocks home places) places &&
        each_arm (λ a. differs (in_places places a.source) || (same_place a.target home || in_places places a.target)) sheet.arms) e))
        (ap (λ p. in_places places p) (sym source) ∙ in_list)

    in_next : (same_place (inside b (suc k)) home ≡ true) ⊎ (in_places places (inside b (suc k)) ≡ true) → (inside b (suc k) ≡ home) ⊎ (in_places places (inside b (suc k)) ≡ true)
    in_next (inl same) = inl (same_place-true (inside b (suc k)) home same)
    in_next (inr here) = inr here

    next : (differs (nat_lt k (sheet.blocks.count b)) ≡ true) ⊎ ((same_place (inside b (suc k)) home || in_places places (inside b (suc k))) ≡ true) → (inside b (suc k) ≡ home) ⊎ (in_places places (inside b (suc k)) ≡ true)
    next (inl unwritten) = let out = differs_false (nat_lt k (sheet.blocks.count b)) unwritten in absurd cc
    next (inr either) = in_next (of_or (same_place (inside b (suc k)) home) (in_places places (inside b (suc k))) either)

surrounds_told :
    (sheet : Sheet) (home : Place) (places : List Place) → SheetFits sheet → holds_all_before sheet home places ≡ true →
    Surrounds (state_of sheet.blocks).program.arms home places
unfolding holds_all_before
surrounds_told sheet home places fits e = record {
  begins =
      first_of_and (in_places places start)
      (each_place (next_within sheet.blocks home places) places &&
      each_arm (λ a. differs (in_places places a.source) || (same_place a.target home || in_places places a.target)) sheet.arms) e;
  leaves = λ arm known in_list. leaves_by sheet home places fits e arm arm.target refl known in_list;
}

shown_told :
    (sheet : Sheet) → SheetFits sheet → (witnesses : List Witness) (write : Write) → shown_by sheet witnesses write ≡ true →
    StrictlyBefore (state_of sheet.blocks).program.arms (sheet.blocks.naming write.name).home write.place
unfolding shown_by
shown_told sheet fits [] write e = absurd cc
shown_told sheet fits (w ∷ witnesses) write e =
    let home : Place = (sheet.blocks.naming write.name).home in
    let here : Bool =
    (w.name == write.name) &&
    (holds_all_before sheet home w.before && (differs (in_places w.before write.place) && differs (same_place home write.place))) in
    by_first (of_or here (shown_by sheet witnesses write) e) (shown_told sheet fits witnesses write)
  where
    by_first :
        (((w.name == write.name) &&
        (holds_all_before sheet (sheet.blocks.naming write.name).home w.before &&
        (differs (in_places w.before write.place) && differs (same_place (sheet.blocks.naming write.name).home write.place)))) ≡ true) ⊎
        (shown_by sheet witnesses write ≡ true) →
        (shown_by sheet witnesses write ≡ true → StrictlyBefore (state_of sheet.blocks).program.arms (sheet.blocks.naming write.name).home write.place) →
        StrictlyBefore (state_of sheet.blocks).program.arms (sheet.blocks.naming write.name).home write.place
    by_first (inl shown) rest =
        let home : Place = (sheet.blocks.naming write.name).home in
        let apart : Bool = differs (in_places w.before write.place) && differs (same_place home write.place) in
        let tail : (holds_all_before sheet home w.before && apart) ≡ true = second_of_and (w.name == write.name) (holds_all_before sheet home w.before && apart) shown in
        let both : apart ≡ true = second_of_and (holds_all_before sheet home w.before) apart tail in
        surrounded_before w.before write.place
        (surrounds_told sheet home w.before fits (first_of_and (holds_all_before sheet home w.before) apart tail))
        (differs_false (in_places w.before write.place) (first_of_and (differs (in_places w.before write.place)) (differs (same_place home write.place)) both))
        (differs_place home write.place (second_of_and (differs (in_places w.before write.place)) (differs (same_place home write.place)) both))
    by_first (inr later) rest = rest later

pub assigns_given :
    (sheet : Sheet) (witnesses : List Witness) → SheetFits sheet → each_write (shown_by sheet witnesses) sheet.writes ≡ true →
    AssignsGiven (state_of sheet.blocks).program
assigns_given sheet witnesses fits e = record {
  given_before = λ place x n assigned.
      shown_told sheet fits witnesses (record { place = place; name = n })
      (each_has (shown_by sheet witnesses) sheet.writes (record { place = place; name = n }) e (fits.writes place x n assigned));
}

finished_correct : (sheet : Sheet) (witnesses : List Witness) → SheetSound sheet → is_finished sheet witnesses ≡ true → IsCorrect (state_of sheet.blocks)
unfolding is_finished
finished_correct sheet witnesses sound e =
    correct (state_of sheet.blocks) sound.tables.sound
    (nothing_pending sheet sound.fits
    (first_of_and (each_settled sheet.blocks sheet.values) (each_write (shown_by sheet witnesses) sheet.writes) e))
    (assigns_given sheet witnesses sound.fits
    (second_of_and (each_settled sheet.blocks sheet.values) (each_write (shown_by sheet witnesses) sheet.writes) e))

-- moves whose tests pass, and which are finished, are correct
pub finished_moves :
    (moves : List Move) (witnesses : List Witness) → allows_all blank moves ≡ true → is_finished (after_all blank moves) witnesses ≡ true →
    IsCorrect (state_of (after_all blank moves).blocks)
finished_moves moves witnesses allowed finished = finished_correct (after_all blank moves) witnesses (allowed_moves moves allowed) finished

-- and where only the assignments are given before, the known arms are allowed edges
pub given_moves :
    (moves : List Move) (witnesses : List Witness) → allows_all blank moves ≡ true → each_write (shown_by (after_all blank moves) witnesses) (after_all blank moves).writes ≡ true →
    AssignsGiven (state_of (after_all blank moves).blocks).program
given_moves moves witnesses allowed e = assigns_given (after_all blank moves) witnesses (allowed_moves moves allowed).fits e
