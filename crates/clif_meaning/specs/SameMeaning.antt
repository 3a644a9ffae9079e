-- Same meaning: whatever the one run shows at some moment the other shows at some moment, and the other way round.
-- The usual simulation in both directions, by plain equality of what is shown.
use Rattle.std.specs.Prelude.{◌≡◌, ℕ, ◌+◌, ◌<◌, ◌≤◌, ◌⊎◌}
use Rattle.clif_meaning.specs.Machine.{Observation}

-- what a run shows after each number of steps
abbrev pub Behaviour : Type 0
Behaviour = ℕ → Observation

-- each observation of the one is one of the other
abbrev pub ShowsAllOf : Behaviour → Behaviour → Type 0
ShowsAllOf left right = (n : ℕ) → (m : ℕ) × (left n ≡ right m)

pub record SameMeaning (left right : Behaviour) : Type 0 where
  pub there : ShowsAllOf left right
  pub back : ShowsAllOf right left

-- Same meaning is an equivalence.
pub record SameMeaningIsAnEquivalence : Type 0 where
  pub reflexive : (a : Behaviour) → SameMeaning a a
  pub symmetric : (a b : Behaviour) → SameMeaning a b → SameMeaning b a
  pub transitive : (a b c : Behaviour) → SameMeaning a b → SameMeaning b c → SameMeaning a c

-- The right run keeps up with the left one: after each step of the left it stands at a position of its own. It may
-- make some steps at first, and for each step of the left any number of steps, which show nothing new on the way;
-- where it makes none, a measure of the left falls.
pub record KeepsUp (left right : Behaviour) (position measure : ℕ → ℕ) : Type 0 where
  pub at_first : (j : ℕ) → j ≤ position 0 → right j ≡ left 0
  pub shows : (n : ℕ) → left n ≡ right (position n)
  pub goes_on : (n : ℕ) → position n ≤ position (n + 1)
  pub between : (n j : ℕ) → position n ≤ j → j ≤ position (n + 1) → (right j ≡ right (position n)) ⊎ (right j ≡ right (position (n + 1)))
  pub gets_on : (n : ℕ) → (position n < position (n + 1)) ⊎ (measure (n + 1) < measure n)

-- Runs of which one keeps up with the other have the same meaning.
abbrev pub KeepingUpMeansTheSame : Type 0
KeepingUpMeansTheSame = (left right : Behaviour) (position measure : ℕ → ℕ) → KeepsUp left right position measure → SameMeaning left right
