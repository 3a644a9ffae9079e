-- Labels of variables, names and values: whether a collector moves them, or types. A value has the label of what it
-- was made for. What is said here is of the tables alone and not of paths, so it holds in blocks that nothing
-- reaches, too.
-- Source: own.
use Rattle.std.specs.Prelude.{◌≡◌, ◌≢◌, ℕ, true, Option, Some, None}
use Rattle.clif_paths.specs.Places.{Place, start, Arm}
use Rattle.clif_paths.specs.State.{reads, Kind, unborn, born, pending, complete, zero_of, Function, home_of}
use Rattle.clif_paths.specs.Blocks.{Blocks, front, CompleteAtFronts}

-- The labels agree on the program: a name that is assigned to a variable has that variable's label, and so has a
-- name that reads it.
pub record AgreeOnProgram (blocks : Blocks) (of_variable of_name : ℕ → ℕ) : Type 0 where
  pub assigned_same :
      (place : Place) (x n : ℕ) → blocks.assigned place x ≡ Some n → of_name n ≡ of_variable x
  pub read_same :
      (n x : ℕ) → (blocks.naming n).home ≢ start → (blocks.naming n).origin ≡ reads x → of_name n ≡ of_variable x

-- the label of a value, by how it comes to be
abbrev pub label_by : (of_variable of_name : ℕ → ℕ) → Kind → Option ℕ
label_by of_variable of_name unborn = None
label_by of_variable of_name (born n) = Some (of_name n)
label_by of_variable of_name (pending x) = Some (of_variable x)
label_by of_variable of_name (complete x) = Some (of_variable x)
label_by of_variable of_name (zero_of x) = Some (of_variable x)

-- the value resolves to one that is there and has this label
pub record HasLabel (of_variable of_name : ℕ → ℕ) (function : Function) (value label : ℕ) : Type 0 where
  pub there : home_of function value ≢ start
  pub by_kind : label_by of_variable of_name (function.definition (function.resolve value)).kind ≡ Some label

-- Values have the labels of what they stand for: the records of a variable, the answers of a name, and what the
-- known arms give a complete parameter.
pub record LabelsKept (blocks : Blocks) (of_variable of_name : ℕ → ℕ) : Type 0 where
  pub records :
      (b x v : ℕ) → blocks.recorded b x ≡ Some v →
      HasLabel of_variable of_name blocks.function v (of_variable x)
  pub answers :
      (n : ℕ) → (blocks.naming n).home ≢ start →
      HasLabel of_variable of_name blocks.function (blocks.answer n) (of_name n)
  pub arguments :
      {x : ℕ} (u b : ℕ) (arm : Arm) →
      (blocks.function.definition (blocks.function.resolve u)).kind ≡ complete x →
      home_of blocks.function u ≡ front b → arm.target ≡ front b → blocks.joins arm ≡ true →
      HasLabel of_variable of_name blocks.function (blocks.function.argument (blocks.function.resolve u) arm)
      (of_variable x)

-- complete parameters stand at fronts of sealed blocks, and labels that agree on the program are kept
pub record Labelled (blocks : Blocks) : Type 0 where
  pub fronts : CompleteAtFronts blocks
  pub kept :
      (of_variable of_name : ℕ → ℕ) → AgreeOnProgram blocks of_variable of_name →
      LabelsKept blocks of_variable of_name
