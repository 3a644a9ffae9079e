-- What variables, names and values denote on a path: symbolic execution. An instance stands for one run-time value,
-- told by where on the path it arose, and the two sides are compared by their instances.
-- Source: own; a variable holds what was assigned to it last, and zero before, as upstream's documentation of
-- variables says.
use Rattle.std.specs.Prelude.{ℕ, cond, Option, None, Some, [], ◌∷◌}
use Rattle.clif_paths.specs.Places.{Arm, Path, same_place}
use Rattle.clif_paths.specs.State.{Origin, fresh, reads, Program, Kind, unborn, born, pending, complete, zero_of, Function}

-- A value of a run, by its origin. Nothing is known of an unknown but its variable and where it came in.
pub data Instance : Type 0 where
  -- nothing yet
  absent : Instance
  -- the zero of a variable (zeros are typed, so they differ by variable)
  zero : (variable : ℕ) → Instance
  -- what this name was given at the end of this path
  given : (name : ℕ) (path : Path) → Instance
  -- what this variable holds as this path enters an unsealed place
  unknown : (variable : ℕ) (path : Path) → Instance

-- what holds instances on the program's side
pub data Holder : Type 0 where
  variable : ℕ → Holder
  name : ℕ → Holder

-- a variable as control enters the arm's target: as before, but unknown where the arms into the place are unknown
abbrev pub entering : Program → Arm → Path → (Holder → Instance) → ℕ → Instance
entering program arm path before x =
    cond (program.is_sealed arm.target) (before (variable x)) (unknown x (arm ∷ path))

-- a variable after the place at which it is assigned this name, if any
abbrev pub after_assignment : (Holder → Instance) → Instance → Option ℕ → Instance
after_assignment before entered None = entered
after_assignment before entered (Some n) = before (name n)

-- a name at its own home
abbrev pub at_home : Program → Arm → Path → (Holder → Instance) → ℕ → Origin → Instance
at_home program arm path before n fresh = given n (arm ∷ path)
at_home program arm path before n (reads x) = entering program arm path before x

-- The program's side after a path: a variable begins as its zero, takes a name's instance where it is assigned
-- one, and is unknown on entry to an unsealed place. A name takes an instance at its home and keeps it until it
-- is there again.
unfoldable pub instances : Program → Path → Holder → Instance
instances program [] (variable x) = zero x
instances program [] (name n) = absent
instances program (arm ∷ path) (variable x) =
    after_assignment
    (λ h. instances program path h)
    (entering program arm path (λ h. instances program path h) x)
    (program.assigned arm.target x)
instances program (arm ∷ path) (name n) =
    cond
    (same_place (program.naming n).home arm.target)
    (at_home program arm path (λ h. instances program path h) n (program.naming n).origin)
    (instances program path (name n))

-- a value at its own home: a pending parameter takes what its variable holds on entry, a complete one what the
-- arm's argument denotes at the end of the path before
abbrev pub defined : Program → Function → Arm → Path → (ℕ → Instance) → ℕ → Kind → Instance
defined program function arm path before v unborn = absent
defined program function arm path before v (born n) = given n (arm ∷ path)
defined program function arm path before v (pending x) = entering program arm path (λ h. instances program path h) x
defined program function arm path before v (complete x) = before (function.resolve (function.argument v arm))
defined program function arm path before v (zero_of x) = zero x

-- The function's side after a path: a value that is no alias changes only at its home.
unfoldable pub denotes : Program → Function → Path → ℕ → Instance
denotes program function [] v = absent
denotes program function (arm ∷ path) v =
    cond
    (same_place (function.definition v).home arm.target)
    (defined program function arm path (λ w. denotes program function path w) v (function.definition v).kind)
    (denotes program function path v)

-- what a value denotes after a path, through its aliases
abbrev pub denotation : Program → Function → Path → ℕ → Instance
denotation program function path v = denotes program function path (function.resolve v)
