-- Bits along paths: both sides run on numbers, under a collector that may move what is tracked as any place is
-- reached. Where a value holds a name, both have the same bits.
-- Source: own; a variable, a name and a value keep their bits until they are given others, and a collector moves
-- all that are tracked alike and leaves zero.
use Rattle.std.specs.Prelude.{◌≡◌, ℕ, suc, true, cond, ◌==◌, Option, None, Some, [], ◌∷◌, length, ◌⊎◌}
use Rattle.clif_paths.specs.Places.{Place, Arm, Edges, Path, end_of, Follows, same_place}
use Rattle.clif_paths.specs.State.{Origin, fresh, reads, Program, Kind, unborn, born, pending, complete, zero_of, Function, home_of}
use Rattle.clif_paths.specs.Denotation.{Instance, absent, zero, given, unknown, Holder, variable, name, instances, denotation}
use Rattle.clif_paths.specs.Laws.{age}
use Rattle.clif_paths.specs.Sound.{Holds}

-- What a run brings: the bits that a name is given at the end of a path, those of a variable as a path enters an
-- unsealed place, and what bits under a label become as a path arrives at its end, before anything is given there.
pub record Outside : Type 0 where
  pub given_bits : (name : ℕ) (path : Path) → ℕ
  pub unknown_bits : (variable : ℕ) (path : Path) → ℕ
  pub moved : (path : Path) (label bits : ℕ) → ℕ
  pub leaves_zero : (path : Path) (label : ℕ) → moved path label 0 ≡ 0

-- The labels by which things are moved, such as a type with a mark of being tracked.
pub record Labelling : Type 0 where
  pub of_variable : ℕ → ℕ
  pub of_name : ℕ → ℕ
  pub of_value : ℕ → ℕ

-- a variable's bits as control enters the arm's target
abbrev pub entering_bits : Outside → Labelling → Program → Arm → Path → (Holder → ℕ) → ℕ → ℕ
entering_bits outside labels program arm path before x =
    cond (program.is_sealed arm.target)
    (outside.moved (arm ∷ path) (labels.of_variable x) (before (variable x)))
    (outside.unknown_bits x (arm ∷ path))

abbrev pub bits_after_assignment : Outside → Labelling → Arm → Path → (Holder → ℕ) → ℕ → Option ℕ → ℕ
bits_after_assignment outside labels arm path before entered None = entered
bits_after_assignment outside labels arm path before entered (Some n) =
    outside.moved (arm ∷ path) (labels.of_name n) (before (name n))

abbrev pub bits_at_home : Outside → Labelling → Program → Arm → Path → (Holder → ℕ) → ℕ → Origin → ℕ
bits_at_home outside labels program arm path before n fresh = outside.given_bits n (arm ∷ path)
bits_at_home outside labels program arm path before n (reads x) = entering_bits outside labels program arm path before x

-- The program's run: all bits are zero at first.
unfoldable pub program_bits : Outside → Labelling → Program → Path → Holder → ℕ
program_bits outside labels program [] h = 0
program_bits outside labels program (arm ∷ path) (variable x) =
    bits_after_assignment outside labels arm path
    (λ h. program_bits outside labels program path h)
    (entering_bits outside labels program arm path (λ h. program_bits outside labels program path h) x)
    (program.assigned arm.target x)
program_bits outside labels program (arm ∷ path) (name n) =
    cond (same_place (program.naming n).home arm.target)
    (bits_at_home outside labels program arm path (λ h. program_bits outside labels program path h) n
    (program.naming n).origin)
    (outside.moved (arm ∷ path) (labels.of_name n) (program_bits outside labels program path (name n)))

abbrev pub bits_of_kind :
    Outside → Labelling → Program → Function → Arm → Path → (Holder → ℕ) → (ℕ → ℕ) → ℕ → Kind → ℕ
bits_of_kind outside labels program function arm path names before v unborn = 0
bits_of_kind outside labels program function arm path names before v (born n) = outside.given_bits n (arm ∷ path)
bits_of_kind outside labels program function arm path names before v (pending x) =
    entering_bits outside labels program arm path names x
bits_of_kind outside labels program function arm path names before v (complete x) =
    let a = function.resolve (function.argument v arm) in
    outside.moved (arm ∷ path) (labels.of_value a) (before a)
bits_of_kind outside labels program function arm path names before v (zero_of x) = 0

-- The function's run, of values after aliases: an argument is moved as what it is, and then taken.
unfoldable pub function_bits : Outside → Labelling → Program → Function → Path → ℕ → ℕ
function_bits outside labels program function [] v = 0
function_bits outside labels program function (arm ∷ path) v =
    cond (same_place (function.definition v).home arm.target)
    (bits_of_kind outside labels program function arm path
    (λ h. program_bits outside labels program path h)
    (λ w. function_bits outside labels program function path w) v (function.definition v).kind)
    (outside.moved (arm ∷ path) (labels.of_value v) (function_bits outside labels program function path v))

-- labels are kept by assignments, uses and arguments; an argument may be a zero of another label
pub record KeepsLabels (edges : Edges) (program : Program) (function : Function) (labels : Labelling) : Type 0 where
  pub assigned_same :
      (place : Place) (x n : ℕ) → program.assigned place x ≡ Some n → labels.of_name n ≡ labels.of_variable x
  pub read_same : (n x : ℕ) → (program.naming n).origin ≡ reads x → labels.of_name n ≡ labels.of_variable x
  pub born_same :
      (u n : ℕ) → (function.definition (function.resolve u)).kind ≡ born n →
      labels.of_value (function.resolve u) ≡ labels.of_name n
  pub pending_same :
      (u x : ℕ) → (function.definition (function.resolve u)).kind ≡ pending x →
      labels.of_value (function.resolve u) ≡ labels.of_variable x
  pub argument_same :
      {x : ℕ} (u : ℕ) (arm : Arm) → (function.definition (function.resolve u)).kind ≡ complete x →
      home_of function u ≡ arm.target → edges arm ≡ true →
      (labels.of_value (function.resolve (function.argument (function.resolve u) arm)) ≡
      labels.of_value (function.resolve u)) ⊎
      ((y : ℕ) ×
      ((function.definition (function.resolve (function.argument (function.resolve u) arm))).kind ≡ zero_of y))

-- the label of an instance, and its bits at the end of a path
abbrev pub label_of : Labelling → Instance → ℕ
label_of labels absent = 0
label_of labels (zero x) = labels.of_variable x
label_of labels (given n path) = labels.of_name n
label_of labels (unknown x path) = labels.of_variable x

-- the bits that an instance has as it arises
abbrev pub first_bits : Outside → Instance → ℕ
first_bits outside absent = 0
first_bits outside (zero x) = 0
first_bits outside (given n path) = outside.given_bits n path
first_bits outside (unknown x path) = outside.unknown_bits x path

-- One map from instances to bits serves both sides; it is extended as instances arise, and moved as a whole.
unfoldable pub instance_bits : Outside → Labelling → Path → Instance → ℕ
instance_bits outside labels [] i = 0
instance_bits outside labels (arm ∷ path) i =
    cond (age i == suc (length path))
    (first_bits outside i)
    (outside.moved (arm ∷ path) (label_of labels i) (instance_bits outside labels path i))

abbrev pub OneMapServesBoth : Type 0
OneMapServesBoth =
    (outside : Outside) (labels : Labelling) (edges : Edges) (program : Program) (function : Function) →
    KeepsLabels edges program function labels → (path : Path) → Follows edges path →
    ((h : Holder) →
    program_bits outside labels program path h ≡ instance_bits outside labels path (instances program path h)) ×
    ((v : ℕ) →
    function_bits outside labels program function path (function.resolve v) ≡
    instance_bits outside labels path (denotation program function path v))

-- Where a value holds a variable or a name at a place, their bits are the same on every path that ends there.
abbrev pub HoldersHaveTheSameBits : Type 0
HoldersHaveTheSameBits =
    (outside : Outside) (labels : Labelling) (edges : Edges) (program : Program) (function : Function) →
    KeepsLabels edges program function labels →
    (v : ℕ) (h : Holder) (place : Place) → Holds edges program function v h place →
    (path : Path) → Follows edges path → end_of path ≡ place →
    function_bits outside labels program function path (function.resolve v) ≡
    program_bits outside labels program path h
