-- Which variables are marked, and which values are recorded, for a collector that moves objects.
-- Source: the crate's documentation of `mark_var_needs_stack_map` and of `stack_map_values`.
use Rattle.std.specs.Prelude.{◌≡◌, ℕ, List, [], refl, if◌then◌else◌}
use Rattle.std.specs.Coded.{Coded, code_by, coded×, coded_list, coded_ℕ}
use Rattle.clif_types.specs.EntitySet.{has, with_member}

-- The variables that are marked, and the values that are recorded, each by rising number. It is no record, since a search opens
-- each record in sight, and a builder's state is in sight of each call.
pub data Tracked : Type 0 where
  sets : List ℕ → List ℕ → Tracked

abbrev pub marked_of : Tracked → List ℕ
marked_of (sets marked recorded) = marked

abbrev pub recorded_of : Tracked → List ℕ
recorded_of (sets marked recorded) = recorded

pub sets_of : (t : Tracked) → sets (marked_of t) (recorded_of t) ≡ t
sets_of (sets marked recorded) = refl

abbrev pub tracked_code : Coded Tracked
tracked_code =
    code_by (List ℕ × List ℕ) (coded× (coded_list coded_ℕ) (coded_list coded_ℕ)) (λ t. (marked_of t, recorded_of t)) (λ p. sets p.0 p.1) sets_of

-- nothing is marked, and nothing is recorded
abbrev pub nothing_tracked : Tracked
nothing_tracked = sets [] []

-- with one more variable marked
abbrev pub with_mark : Tracked → ℕ → Tracked
with_mark t variable = sets (with_member (marked_of t) variable) (recorded_of t)

-- with one more value recorded
abbrev pub with_recorded : Tracked → ℕ → Tracked
with_recorded t value = sets (marked_of t) (with_member (recorded_of t) value)

-- a variable gets a value: that is recorded, if the variable is marked
abbrev pub with_binding : Tracked → ℕ → ℕ → Tracked
with_binding t variable value = if has (marked_of t) variable then with_recorded t value else t
