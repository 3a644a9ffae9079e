-- Labels that go with instances: types, or whether a collector tracks them. What labels of variables, names and
-- values keep along each assignment, use and argument, the instances keep along each path.
-- Source: own.
use Rattle.std.specs.Prelude.{◌≡◌, ℕ, Bool, true, Some, ◌⊎◌}
use Rattle.clif_paths.specs.Places.{Place, Arm, Edges, Path, Follows}
use Rattle.clif_paths.specs.State.{reads, Program, born, pending, complete, zero_of, Function, home_of}
use Rattle.clif_paths.specs.Denotation.{Instance, absent, zero, given, unknown, variable, name, instances, denotation}

-- `fits label instance` says that the instance may stand under the label. The program's labels: a variable's fits
-- its zero and what is unknown of it, a name's what the name is given; an assignment and a use keep the label.
pub record ProgramLabels (program : Program) (fits : ℕ → Instance → Bool)
    (of_variable of_name : ℕ → ℕ) : Type 0 where
  pub absent_fits : (l : ℕ) → fits l absent ≡ true
  pub zero_fits : (x : ℕ) → fits (of_variable x) (zero x) ≡ true
  pub unknown_fits : (x : ℕ) (path : Path) → fits (of_variable x) (unknown x path) ≡ true
  pub given_fits : (n : ℕ) (path : Path) → fits (of_name n) (given n path) ≡ true
  pub assigned_same : (place : Place) (x n : ℕ) → program.assigned place x ≡ Some n → of_name n ≡ of_variable x
  pub read_same : (n x : ℕ) → (program.naming n).origin ≡ reads x → of_name n ≡ of_variable x

-- The function's labels: a value's fits what it is born as, and is that of its arguments, but that an argument may
-- be a zero of another label, if the zero fits.
pub record FunctionLabels (edges : Edges) (function : Function) (fits : ℕ → Instance → Bool)
    (of_variable of_value : ℕ → ℕ) : Type 0 where
  pub born_fits :
      (u n : ℕ) (path : Path) → (function.definition (function.resolve u)).kind ≡ born n →
      fits (of_value (function.resolve u)) (given n path) ≡ true
  pub zero_fits :
      (u x : ℕ) → (function.definition (function.resolve u)).kind ≡ zero_of x →
      fits (of_value (function.resolve u)) (zero x) ≡ true
  pub pending_same :
      (u x : ℕ) → (function.definition (function.resolve u)).kind ≡ pending x →
      of_value (function.resolve u) ≡ of_variable x
  pub argument_same :
      {x : ℕ} (u : ℕ) (arm : Arm) → (function.definition (function.resolve u)).kind ≡ complete x →
      home_of function u ≡ arm.target → edges arm ≡ true →
      (of_value (function.resolve (function.argument (function.resolve u) arm)) ≡ of_value (function.resolve u)) ⊎
      ((y : ℕ) ×
      ((function.definition (function.resolve (function.argument (function.resolve u) arm))).kind ≡ zero_of y) ×
      (fits (of_value (function.resolve u)) (zero y) ≡ true))

-- variables and names keep their labels
pub record ProgramFits (program : Program) (fits : ℕ → Instance → Bool) (of_variable of_name : ℕ → ℕ)
    (path : Path) : Type 0 where
  pub variables : (x : ℕ) → fits (of_variable x) (instances program path (variable x)) ≡ true
  pub names : (n : ℕ) → fits (of_name n) (instances program path (name n)) ≡ true

abbrev pub ProgramKeepsLabels : Type 0
ProgramKeepsLabels =
    (program : Program) (fits : ℕ → Instance → Bool) (of_variable of_name : ℕ → ℕ) →
    ProgramLabels program fits of_variable of_name →
    (path : Path) → ProgramFits program fits of_variable of_name path

-- and so do values, after aliases
abbrev pub FunctionKeepsLabels : Type 0
FunctionKeepsLabels =
    (edges : Edges) (program : Program) (function : Function) (fits : ℕ → Instance → Bool)
    (of_variable of_name of_value : ℕ → ℕ) →
    ProgramLabels program fits of_variable of_name → FunctionLabels edges function fits of_variable of_value →
    (path : Path) → Follows edges path → (u : ℕ) →
    fits (of_value (function.resolve u)) (denotation program function path u) ≡ true
