-- When the function's side stands for the program's side.
-- Source: own; it is the correctness of the values that Braun et al. 2013 answer, said along paths.
use Rattle.std.specs.Prelude.{◌≡◌, ◌≢◌, ℕ, true, false, Some, ◌∷◌}
use Rattle.clif_paths.specs.Places.{Place, start, Arm, Edges, Path, Follows, end_of, Dominates, StrictlyBefore}
use Rattle.clif_paths.specs.State.{Program, complete, Function, State, home_of}
use Rattle.clif_paths.specs.Denotation.{Holder, variable, name, entering, instances, denotation}

-- Edges that the finished program may turn out to have: the known arms into sealed places, anything into unsealed
-- ones, nothing into the virtual start; and an assigned name is given on every path before its assignment.
pub record Allowed (program : Program) (edges : Edges) : Type 0 where
  pub known : (arm : Arm) → program.is_sealed arm.target ≡ true → edges arm ≡ program.arms arm
  pub rooted : (arm : Arm) → arm.target ≡ start → edges arm ≡ false
  pub given_before :
      (place : Place) (x n : ℕ) → program.assigned place x ≡ Some n →
      StrictlyBefore edges (program.naming n).home place

-- The value is there at the place, and on every path to it denotes what the variable or name does.
pub record Holds (edges : Edges) (program : Program) (function : Function) (value : ℕ) (holder : Holder)
    (place : Place) : Type 0 where
  pub there : Dominates edges (home_of function value) place
  pub agrees :
      (path : Path) → Follows edges path → end_of path ≡ place →
      denotation program function path value ≡ instances program path holder

-- each argument of a complete parameter is there where its arm leaves
pub record ArgumentsThere (edges : Edges) (function : Function) : Type 0 where
  pub at_source :
      {x : ℕ} (u : ℕ) (arm : Arm) →
      (function.definition (function.resolve u)).kind ≡ complete x →
      home_of function u ≡ arm.target →
      edges arm ≡ true →
      Dominates edges (home_of function (function.argument (function.resolve u) arm)) arm.source

-- at each visit of its home a complete parameter denotes what its variable holds as control enters
pub record ParametersTake (edges : Edges) (program : Program) (function : Function) : Type 0 where
  pub at_visit :
      {x : ℕ} (u : ℕ) (arm : Arm) (path : Path) →
      (function.definition (function.resolve u)).kind ≡ complete x →
      home_of function u ≡ arm.target →
      Follows edges (arm ∷ path) →
      denotation program function (arm ∷ path) u ≡ entering program arm path (λ h. instances program path h) x

-- under these edges: arguments are there, complete parameters take their variables, records hold theirs, answers
-- hold their names
pub record SoundUnder (edges : Edges) (s : State) : Type 0 where
  pub arguments : ArgumentsThere edges s.function
  pub parameters : ParametersTake edges s.program s.function
  pub records :
      (place : Place) (x v : ℕ) → s.recorded place x ≡ Some v →
      Holds edges s.program s.function v (variable x) place
  pub answers :
      (n : ℕ) →
      (s.program.naming n).home ≢ start →
      Holds edges s.program s.function (s.answer n) (name n) (s.program.naming n).home

-- The state is sound: whatever allowed edges the program turns out to have. Known arms lead to sealed places only,
-- and never to the virtual start.
pub record Sound (s : State) : Type 0 where
  pub known_sealed : (arm : Arm) → s.program.arms arm ≡ true → s.program.is_sealed arm.target ≡ true
  pub rooted : (arm : Arm) → arm.target ≡ start → s.program.arms arm ≡ false
  pub under : (edges : Edges) → Allowed s.program edges → SoundUnder edges s
