-- A variable program and a function under construction, as tables. Variables, names and values are numbers.
-- Source: own, after the data that Braun et al. 2013 keep (sealed blocks, incomplete parameters, current
-- definitions).
use Rattle.std.specs.Prelude.{ℕ, Bool, Option}
use Rattle.clif_paths.specs.Places.{Place, Arm, Edges}

-- What gives a name its value: it is born at its place (an instruction's result, a caller's parameter), or it
-- reads a variable there.
pub data Origin : Type 0 where
  fresh : Origin
  reads : (variable : ℕ) → Origin

-- Where a name is given, and how. A name that is not given anywhere has its home at the virtual start.
pub record Naming : Type 0 where
  pub home : Place
  pub origin : Origin

-- The program's side. A place is sealed once the arms into it are known; a place not yet written is unsealed.
pub record Program : Type 0 where
  -- whether the arms into the place are known
  pub is_sealed : Place → Bool
  -- the known arms
  pub arms : Edges
  -- the name that is assigned to a variable at a place
  pub assigned : Place → ℕ → Option ℕ
  -- what each name is
  pub naming : ℕ → Naming

-- How a value of the function comes to be.
pub data Kind : Type 0 where
  -- no such value yet
  unborn : Kind
  -- the result of an instruction, or a caller's parameter, that answers this name
  born : (name : ℕ) → Kind
  -- a parameter for this variable that has no arguments yet
  pending : (variable : ℕ) → Kind
  -- a parameter for this variable that each arm into its home gives an argument
  complete : (variable : ℕ) → Kind
  -- the zero of this variable
  zero_of : (variable : ℕ) → Kind

-- Where a value is defined, and how. A value that is not there yet has its home at the virtual start.
pub record Definition : Type 0 where
  pub home : Place
  pub kind : Kind

-- The function's side.
pub record Function : Type 0 where
  -- the definition of each value
  pub definition : ℕ → Definition
  -- the argument that an arm gives a complete parameter
  pub argument : ℕ → Arm → ℕ
  -- the value at the end of a value's aliases, itself where it is no alias
  pub resolve : ℕ → ℕ

-- The program's side and the function's side, with what ties them together.
pub record State : Type 0 where
  pub program : Program
  pub function : Function
  -- the value recorded for a variable at a place, if there is one
  pub recorded : Place → ℕ → Option ℕ
  -- the value that answers a name
  pub answer : ℕ → ℕ

-- the home of a value, after its aliases
abbrev pub home_of : Function → ℕ → Place
home_of function value = (function.definition (function.resolve value)).home
