-- Tables in which several names were given at a place, by values that are born there in order.
use Rattle.std.proofs.Common.{◌≡◌, ◌≢◌, ℕ, zero, suc, ◌+◌, ◌<◌, List, [], ◌∷◌, refl, ap, arith, sym, ◌∙◌, subst, ◌⊎◌, inl, inr, Some}
use Rattle.std.specs.Prelude.{slice_get}
use Rattle.std.specs.List.{AllByRecursion}
use Rattle.clif_paths.specs.Places.{Place, start}
use Rattle.clif_paths.specs.State.{Naming, Definition, State, born, fresh}
use Rattle.clif_paths.specs.Steps.{updated}
use Rattle.clif_paths.specs.Blocks.{Blocks, state_of, with_born}
use Rattle.clif_paths.specs.BlockLaws.{BlocksSound}
use Rattle.clif_paths.proofs.BlockSteps.{born_keeps}
use Rattle.clif_paths.proofs.Tables.{updated-same, updated-other, updated_cases}
use Rattle.clif_ssa.specs.SoundLaws.{AreNewNames, all_answered, all_born, all_named, with_all_born}
use Rattle.clif_ssa.proofs.Writing.{name_cases}

-- how a name is given at a place, and where a value is born that answers it
abbrev pub given_at : Place → Naming
given_at place = record { home = place; origin = fresh }

abbrev pub born_at : Place → ℕ → Definition
born_at place n = record { home = place; kind = born n }

some_is : (m n : ℕ) → Some m ≡ Some n → m ≡ n
some_is m n same = cc

-- NAMES ---------------------------------------------------------------------------------------------------------------

-- a name that is none of these is as it was
named_other : (place : Place) (naming : ℕ → Naming) (answer : ℕ → ℕ) (names : List ℕ) (v m : ℕ) → AllByRecursion (λ n. n ≢ m) names
    → (all_named place naming names m ≡ naming m) × (all_answered answer names v m ≡ answer m)
named_other place naming answer [] v m other = (refl, refl)
named_other place naming answer (n ∷ names) v m other =
    let rest = named_other place (updated naming n (given_at place)) (updated answer n v) names (suc v) m other.1 in
    let apart : m ≢ n = λ same. other.0 (sym same) in
    (rest.0 ∙ updated-other naming n (given_at place) m apart, rest.1 ∙ updated-other answer n v m apart)

-- a name is one of these, and was given and answered in its turn, or it is as it was
abbrev pub IsNamed : Place → (ℕ → Naming) → (ℕ → ℕ) → List ℕ → ℕ → ℕ → Type 0
IsNamed place naming answer names v m =
    ((k : ℕ) × (slice_get names k ≡ Some m) × (all_named place naming names m ≡ given_at place) × (all_answered answer names v m ≡ v + k))
    ⊎ ((all_named place naming names m ≡ naming m) × (all_answered answer names v m ≡ answer m))

pub names_cases : (place : Place) (naming : ℕ → Naming) (answer : ℕ → ℕ) (names : List ℕ) (v m : ℕ) → IsNamed place naming answer names v m
names_cases place naming answer [] v m = inr (refl, refl)
names_cases place naming answer (n ∷ names) v m =
    by (names_cases place (updated naming n (given_at place)) (updated answer n v) names (suc v) m) (name_cases naming answer n v (given_at place) m)
  where
    by : IsNamed place (updated naming n (given_at place)) (updated answer n v) names (suc v) m
        → ((m ≡ n) × (updated naming n (given_at place) m ≡ given_at place) × (updated answer n v m ≡ v))
        ⊎ ((m ≢ n) × (updated naming n (given_at place) m ≡ naming m) × (updated answer n v m ≡ answer m))
        → IsNamed place naming answer (n ∷ names) v m
    by (inl here) either = let back : suc v + here.0 ≡ v + suc here.0 = omega arith in inl (suc here.0, here.1, here.2, here.3 ∙ back)
    by (inr old) (inl now) = let back : v ≡ v + 0 = omega arith in inl (0, ap Some (sym now.0), old.0 ∙ now.1, old.1 ∙ now.2 ∙ back)
    by (inr old) (inr other) = inr (old.0 ∙ other.1, old.1 ∙ other.2)

-- where they differ, each is answered by the value at its place
pub named_at : (s : State) (place : Place) (naming : ℕ → Naming) (answer : ℕ → ℕ) (names : List ℕ) (v k n : ℕ) → AreNewNames s names → slice_get names k ≡ Some n
    → (all_named place naming names n ≡ given_at place) × (all_answered answer names v n ≡ v + k)
named_at s place naming answer [] v k n new at = absurd (let none : ⊥ = cc in none)
named_at s place naming answer (m ∷ names) v zero n new at =
    let same : m ≡ n = some_is m n at in
    let back : v ≡ v + 0 = omega arith in
    subst (λ (x : ℕ). (all_named place naming (m ∷ names) x ≡ given_at place) × (all_answered answer (m ∷ names) v x ≡ v + 0)) same
    (let rest = named_other place (updated naming m (given_at place)) (updated answer m v) names (suc v) m new.1 in
    (rest.0 ∙ updated-same naming m (given_at place) m refl, rest.1 ∙ updated-same answer m v m refl ∙ back))
named_at s place naming answer (m ∷ names) v (suc k) n new at =
    let rest = named_at s place (updated naming m (given_at place)) (updated answer m v) names (suc v) k n new.2 at in
    let back : suc v + k ≡ v + suc k = omega arith in
    (rest.0, rest.1 ∙ back)

-- a name that was given before is as it was
pub names_still : (s : State) (place : Place) (answer : ℕ → ℕ) (names : List ℕ) (v m : ℕ) → AreNewNames s names → (s.program.naming m).home ≢ start
    → (all_named place s.program.naming names m ≡ s.program.naming m) × (all_answered answer names v m ≡ answer m)
names_still s place answer names v m new given = named_other place s.program.naming answer names v m (apart names new)
  where
    apart : (names : List ℕ) → AreNewNames s names → AllByRecursion (λ n. n ≢ m) names
    apart [] new = tt
    apart (n ∷ names) new = (λ same. given (ap (λ x. (s.program.naming x).home) (sym same) ∙ new.0.new_name), apart names new.2)

-- VALUES --------------------------------------------------------------------------------------------------------------

-- the values before these are as they were
pub born_other : (place : Place) (definition : ℕ → Definition) (names : List ℕ) (v w : ℕ) → w < v → all_born place definition names v w ≡ definition w
born_other place definition [] v w below = refl
born_other place definition (n ∷ names) v w below =
    born_other place (updated definition v (born_at place n)) names (suc v) w (omega (arith, below))
    ∙ updated-other definition v (born_at place n) w (λ same. absurd (omega (arith, same, below)))

-- each is born for its name
pub born_there_at : (place : Place) (definition : ℕ → Definition) (names : List ℕ) (v k n : ℕ) → slice_get names k ≡ Some n
    → all_born place definition names v (v + k) ≡ born_at place n
born_there_at place definition [] v k n at = absurd (let none : ⊥ = cc in none)
born_there_at place definition (m ∷ names) v zero n at =
    let back : v + 0 ≡ v = omega arith in
    ap (all_born place (updated definition v (born_at place m)) names (suc v)) back
    ∙ born_other place (updated definition v (born_at place m)) names (suc v) v (omega arith)
    ∙ updated-same definition v (born_at place m) v refl ∙ ap (born_at place) (some_is m n at)
born_there_at place definition (m ∷ names) v (suc k) n at =
    let back : v + suc k ≡ suc v + k = omega arith in
    ap (all_born place (updated definition v (born_at place m)) names (suc v)) back
    ∙ born_there_at place (updated definition v (born_at place m)) names (suc v) k n at

-- a value is one of these, or as it was
abbrev pub IsBorn : Place → (ℕ → Definition) → List ℕ → ℕ → ℕ → Type 0
IsBorn place definition names v w =
    ((k : ℕ) × (n : ℕ) × (slice_get names k ≡ Some n) × (w ≡ v + k) × (all_born place definition names v w ≡ born_at place n))
    ⊎ (all_born place definition names v w ≡ definition w)

pub values_cases : (place : Place) (definition : ℕ → Definition) (names : List ℕ) (v w : ℕ) → IsBorn place definition names v w
values_cases place definition [] v w = inr refl
values_cases place definition (n ∷ names) v w = by (values_cases place (updated definition v (born_at place n)) names (suc v) w) (updated_cases definition v (born_at place n) w)
  where
    by : IsBorn place (updated definition v (born_at place n)) names (suc v) w
        → ((w ≡ v) × (updated definition v (born_at place n) w ≡ born_at place n)) ⊎ ((w ≢ v) × (updated definition v (born_at place n) w ≡ definition w))
        → IsBorn place definition (n ∷ names) v w
    by (inl here) either = let back : suc v + here.0 ≡ v + suc here.0 = omega arith in inl (suc here.0, here.1, here.2, here.3 ∙ back, here.4)
    by (inr old) (inl now) = let back : v ≡ v + 0 = omega arith in inl (0, n, refl, now.0 ∙ back, old ∙ now.1)
    by (inr old) (inr other) = inr (old ∙ other.1)

-- SOUND TABLES --------------------------------------------------------------------------------------------------------

-- the others are still new
new_still : (blocks : Blocks) (place : Place) (n v : ℕ) (names : List ℕ) → AllByRecursion (λ m. m ≢ n) names → AreNewNames (state_of blocks) names
    → AreNewNames (state_of (with_born blocks place n v)) names
new_still blocks place n v [] other new = tt
new_still blocks place n v (m ∷ names) other new = (
  record { new_name = ap (λ (x : Naming). x.home) (updated-other blocks.naming n (given_at place) m other.0) ∙ new.0.new_name; unassigned = new.0.unassigned },
  new.1,
  new_still blocks place n v names other.1 new.2,
)

pub all_born_keeps : (blocks : Blocks) (place : Place) (names : List ℕ) (v : ℕ) → place ≢ start → AreNewNames (state_of blocks) names
    → ((k : ℕ) → (blocks.function.definition (v + k)).home ≡ start) → ((k : ℕ) → blocks.function.resolve (v + k) ≡ v + k)
    → BlocksSound blocks → BlocksSound (with_all_born blocks place names v)
all_born_keeps blocks place [] v written new absent ends sound = sound
all_born_keeps blocks place (n ∷ names) v written new absent ends sound =
    let here : v + 0 ≡ v = omega arith in
    all_born_keeps (with_born blocks place n v) place names (suc v) written (new_still blocks place n v names new.1 new.2)
    (λ k.
    let next : v + suc k ≡ suc v + k = omega arith in
    ap (λ (d : Definition). d.home) (updated-other blocks.function.definition v (born_at place n) (suc v + k) (λ same. absurd (omega (arith, same))))
    ∙ subst (λ (w : ℕ). (blocks.function.definition w).home ≡ start) next (absent (suc k)))
    (λ k. let next : v + suc k ≡ suc v + k = omega arith in subst (λ (w : ℕ). blocks.function.resolve w ≡ w) next (ends (suc k)))
    (born_keeps blocks place n v
    (record {
      written = written;
      name = new.0;
      new_value = subst (λ (w : ℕ). (blocks.function.definition w).home ≡ start) here (absent 0);
      no_alias = subst (λ (w : ℕ). blocks.function.resolve w ≡ w) here (ends 0);
    }) sound)
