-- What is proved of the steps, each statement named by the contract of a public function.
-- Source: own; the last one is what Braun et al. 2013 prove of their construction, said along paths.
use Rattle.std.specs.Prelude.{◌≡◌, ◌≢◌, ℕ, true, false, Option, None, Some, ◌∷◌, Bool, length, ◌≤◌}
use Rattle.clif_paths.specs.Places.{Place, start, Arm, Edges, Path, Follows, end_of, Dominates, StrictlyBefore}
use Rattle.clif_paths.specs.State.{fresh, reads, Program, born, pending, complete, zero_of, Definition, Function, State, home_of}
use Rattle.clif_paths.specs.Denotation.{Instance, zero, given, unknown, variable, name, entering, instances, denotes, denotation, absent, Holder}
use Rattle.clif_paths.specs.Sound.{Allowed, ArgumentsThere, Holds, Sound}
use Rattle.clif_paths.specs.Steps.{initial, with_sealed, CanSeal, with_records, CanRecord, with_pending, CanWait, with_arguments, CanFill, with_alias, CanDrop, with_zero, CanPutZero, CanUndefine, with_given, CanGive, with_use, CanUse, with_assigned, CanAssign, with_tables, CanRestate, Steps}

-- what is read of a path changes only as the path arrives at the place
pub record ChangesOnlyAt (place : Place) (f : Path → Instance) : Type 0 where
  pub past : (arm : Arm) (path : Path) → place ≢ arm.target → f (arm ∷ path) ≡ f path

-- the two agree at each visit of the place, where one may use that they agreed at the end of the path before, if
-- the place dominates that end
pub record AgreeAtVisits (edges : Edges) (place : Place) (f f' : Path → Instance) : Type 0 where
  pub at_visit :
      (arm : Arm) (path : Path) → Follows edges (arm ∷ path) → place ≡ arm.target →
      (Dominates edges place (end_of path) → f path ≡ f' path) → f (arm ∷ path) ≡ f' (arm ∷ path)

-- The engine. Let f change only at h and f' only at g, and let g dominate h: if they agree at each visit of h,
-- they agree wherever h dominates.
abbrev pub AgreementIsKept : Type 0
AgreementIsKept =
    (edges : Edges) (h g : Place) (f f' : Path → Instance) → ChangesOnlyAt h f → ChangesOnlyAt g f' →
    Dominates edges g h →
    AgreeAtVisits edges h f f' →
    (path : Path) → Follows edges path → Dominates edges h (end_of path) → f path ≡ f' path

-- two different places that dominate one another are reached by no path
abbrev pub DominationIsAntisymmetric : Type 0
DominationIsAntisymmetric =
    (edges : Edges) (g h : Place) → Dominates edges g h → Dominates edges h g → g ≢ h →
    (path : Path) → Follows edges path → end_of path ≢ h

-- Execution, step by step
-- ------------------------------------------------------------------------------------------

-- a variable as a path enters an arm's target
abbrev pub entered : Program → Arm → Path → ℕ → Instance
entered program arm path x = entering program arm path (λ h. instances program path h) x

-- the program's side, after one arm more
pub record ProgramSteps (program : Program) (arm : Arm) (path : Path) : Type 0 where
  pub known_place :
      program.is_sealed arm.target ≡ true → (x : ℕ) →
      entered program arm path x ≡ instances program path (variable x)
  pub unknown_place :
      program.is_sealed arm.target ≡ false → (x : ℕ) → entered program arm path x ≡ unknown x (arm ∷ path)
  pub unassigned :
      (x : ℕ) → program.assigned arm.target x ≡ None →
      instances program (arm ∷ path) (variable x) ≡ entered program arm path x
  pub assigned :
      (x n : ℕ) → program.assigned arm.target x ≡ Some n →
      instances program (arm ∷ path) (variable x) ≡ instances program path (name n)
  pub elsewhere :
      (n : ℕ) → (program.naming n).home ≢ arm.target →
      instances program (arm ∷ path) (name n) ≡ instances program path (name n)
  pub given_here :
      (n : ℕ) → program.naming n ≡ record { home = arm.target; origin = fresh } →
      instances program (arm ∷ path) (name n) ≡ given n (arm ∷ path)
  pub read_here :
      (n x : ℕ) → program.naming n ≡ record { home = arm.target; origin = reads x } →
      instances program (arm ∷ path) (name n) ≡ entered program arm path x

abbrev pub ProgramIsExecuted : Type 0
ProgramIsExecuted = (program : Program) (arm : Arm) (path : Path) → ProgramSteps program arm path

-- the function's side, after one arm more
pub record FunctionSteps (program : Program) (function : Function) (arm : Arm) (path : Path) : Type 0 where
  pub elsewhere :
      (v : ℕ) → (function.definition v).home ≢ arm.target →
      denotes program function (arm ∷ path) v ≡ denotes program function path v
  pub born_here :
      (v n : ℕ) → function.definition v ≡ record { home = arm.target; kind = born n } →
      denotes program function (arm ∷ path) v ≡ given n (arm ∷ path)
  pub zero_here :
      (v x : ℕ) → function.definition v ≡ record { home = arm.target; kind = zero_of x } →
      denotes program function (arm ∷ path) v ≡ zero x
  pub pending_here :
      (v x : ℕ) → function.definition v ≡ record { home = arm.target; kind = pending x } →
      denotes program function (arm ∷ path) v ≡ entered program arm path x
  pub complete_here :
      (v x : ℕ) → function.definition v ≡ record { home = arm.target; kind = complete x } →
      denotes program function (arm ∷ path) v ≡ denotation program function path (function.argument v arm)

abbrev pub FunctionIsExecuted : Type 0
FunctionIsExecuted =
    (program : Program) (function : Function) (arm : Arm) (path : Path) → FunctionSteps program function arm path

-- Steps -----------------------------------------------------------------------------------------------------------

abbrev pub FirstIsSound : Type 0
FirstIsSound = Sound initial

abbrev pub SealKeeps : Type 0
SealKeeps =
    (s : State) (chosen : Place → Bool) (into : Edges) → CanSeal s chosen → Sound s →
    Sound (with_sealed s chosen into)

abbrev pub RecordKeeps : Type 0
RecordKeeps =
    (s : State) (records : Place → ℕ → Option ℕ) → CanRecord s records → Sound s → Sound (with_records s records)

abbrev pub WaitKeeps : Type 0
WaitKeeps = (s : State) (place : Place) (x v : ℕ) → CanWait s place x v → Sound s → Sound (with_pending s place x v)

abbrev pub FillKeeps : Type 0
FillKeeps =
    (s : State) (x v : ℕ) (given : Arm → ℕ) → CanFill s x v given → Sound s → Sound (with_arguments s x v given)

abbrev pub DropKeeps : Type 0
DropKeeps = (s : State) (x v target : ℕ) → CanDrop s x v target → Sound s → Sound (with_alias s v target)

abbrev pub ZeroKeeps : Type 0
ZeroKeeps = (s : State) (place : Place) (x z : ℕ) → CanPutZero s place z → Sound s → Sound (with_zero s place x z)

abbrev pub UndefineKeeps : Type 0
UndefineKeeps = (s : State) (x v z : ℕ) → CanUndefine s x v z → Sound s → Sound (with_alias s v z)

abbrev pub GiveKeeps : Type 0
GiveKeeps = (s : State) (place : Place) (n v : ℕ) → CanGive s place n v → Sound s → Sound (with_given s place n v)

abbrev pub UseKeeps : Type 0
UseKeeps = (s : State) (place : Place) (n x v : ℕ) → CanUse s place n x v → Sound s → Sound (with_use s place n x v)

abbrev pub AssignKeeps : Type 0
AssignKeeps =
    (s : State) (place : Place) (x n : ℕ) → CanAssign s place x n → Sound s → Sound (with_assigned s place x n)

abbrev pub RestateKeeps : Type 0
RestateKeeps =
    (s : State) (definition : ℕ → Definition) (argument : ℕ → Arm → ℕ) → CanRestate s definition argument →
    Sound s →
    Sound (with_tables s definition argument)

abbrev pub StepsKeep : Type 0
StepsKeep = (s s' : State) → Steps s s' → Sound s → Sound s'

-- While construction goes on: whatever edges are still allowed, a name's answer holds the name wherever the name's
-- home dominates.
abbrev pub AnswersHold : Type 0
AnswersHold =
    (s : State) → Steps initial s → (edges : Edges) → Allowed s.program edges →
    (n : ℕ) → (s.program.naming n).home ≢ start →
    (place : Place) → Dominates edges (s.program.naming n).home place →
    Holds edges s.program s.function (s.answer n) (name n) place

-- While construction goes on: a value recorded for a variable holds it there.
abbrev pub RecordsHold : Type 0
RecordsHold =
    (s : State) → Steps initial s → (edges : Edges) → Allowed s.program edges →
    (place : Place) (x v : ℕ) → s.recorded place x ≡ Some v → Holds edges s.program s.function v (variable x) place

-- A complete parameter holds its variable at its home, if that doesn't assign it, and each argument of it holds the
-- variable where its arm leaves.
abbrev pub ParametersHold : Type 0
ParametersHold =
    (s : State) → Sound s → (edges : Edges) → Allowed s.program edges →
    (u x : ℕ) → (s.function.definition (s.function.resolve u)).kind ≡ complete x →
    home_of s.function u ≢ start → s.program.assigned (home_of s.function u) x ≡ None →
    Holds edges s.program s.function u (variable x) (home_of s.function u)

abbrev pub ArgumentsHold : Type 0
ArgumentsHold =
    (s : State) → Sound s → (edges : Edges) → Allowed s.program edges →
    (u x : ℕ) (arm : Arm) → (s.function.definition (s.function.resolve u)).kind ≡ complete x →
    home_of s.function u ≡ arm.target → edges arm ≡ true → s.program.is_sealed arm.target ≡ true →
    Holds edges s.program s.function (s.function.argument (s.function.resolve u) arm) (variable x) arm.source

-- No parameter waits.
pub record NothingPending (function : Function) : Type 0 where
  pub none : (u x : ℕ) → (function.definition (function.resolve u)).kind ≢ pending x

-- A name that is assigned somewhere is given before that place, on every path along the known arms.
pub record AssignsGiven (program : Program) : Type 0 where
  pub given_before :
      (place : Place) (x n : ℕ) → program.assigned place x ≡ Some n →
      StrictlyBefore program.arms (program.naming n).home place

-- the program as if all its places were sealed: a plain program, in which no variable is ever unknown
abbrev pub all_sealed : Program → Program
all_sealed program = record program { is_sealed = λ place. true }

-- Where no parameter waits, what a value denotes is read off the function alone, whatever the program.
abbrev pub FunctionStandsAlone : Type 0
FunctionStandsAlone =
    (function : Function) → NothingPending function → (program program' : Program) (path : Path) (v : ℕ) →
    denotation program function path v ≡ denotation program' function path v

-- The value stands for the name at the place: it is there, and on every path there the function alone gives it what
-- the plain program gives the name.
pub record StandsFor (program : Program) (function : Function) (v n : ℕ) (place : Place) : Type 0 where
  pub there : Dominates program.arms (home_of function v) place
  pub denotes_name :
      (any : Program) (path : Path) → Follows program.arms path → end_of path ≡ place →
      denotation any function path v ≡ instances (all_sealed program) path (name n)

-- The conclusion. After any steps, where every edge is a known arm and no parameter waits, each name's answer
-- stands for the name wherever the name's home dominates, and is there before each place that the name is given
-- before; each parameter's argument is there where its arm leaves.
pub record IsCorrect (s : State) : Type 0 where
  pub answers :
      (n : ℕ) → (s.program.naming n).home ≢ start →
      (place : Place) → Dominates s.program.arms (s.program.naming n).home place →
      StandsFor s.program s.function (s.answer n) n place
  pub well_placed :
      (n : ℕ) → (s.program.naming n).home ≢ start →
      (place : Place) → StrictlyBefore s.program.arms (s.program.naming n).home place →
      StrictlyBefore s.program.arms (home_of s.function (s.answer n)) place
  pub arguments : ArgumentsThere s.program.arms s.function

abbrev pub ConstructionIsCorrect : Type 0
ConstructionIsCorrect =
    (s : State) → Steps initial s → NothingPending s.function → AssignsGiven s.program → IsCorrect s

-- the same for any sound state
abbrev pub SoundIsCorrect : Type 0
SoundIsCorrect = (s : State) → Sound s → NothingPending s.function → AssignsGiven s.program → IsCorrect s

-- the same for any sound state while construction goes on
abbrev pub SoundAnswersHold : Type 0
SoundAnswersHold =
    (s : State) → Sound s → (edges : Edges) → Allowed s.program edges →
    (n : ℕ) → (s.program.naming n).home ≢ start →
    (place : Place) → Dominates edges (s.program.naming n).home place →
    Holds edges s.program s.function (s.answer n) (name n) place

-- When places were sealed makes no difference: two correct states of one plain program give each name answers that
-- denote the same.
abbrev pub SealingOrderIsFree : Type 0
SealingOrderIsFree =
    (s s' : State) → IsCorrect s → IsCorrect s' → all_sealed s.program ≡ all_sealed s'.program →
    (n : ℕ) → (s.program.naming n).home ≢ start →
    (place : Place) → Dominates s.program.arms (s.program.naming n).home place →
    (any : Program) (path : Path) → Follows s.program.arms path → end_of path ≡ place →
    denotation any s.function path (s.answer n) ≡ denotation any s'.function path (s'.answer n)

-- Age ------------------------------------------------------------------------------------------------------------

-- how long the path was when an instance arose
abbrev pub age : Instance → ℕ
age absent = 0
age (zero x) = 0
age (given n path) = length path
age (unknown x path) = length path

-- An instance that is there arose on the path so far: what a name is given at the end of a longer path is new. A
-- map from instances
-- to bits may so be extended as a run goes on.
abbrev pub ProgramKnowsThePast : Type 0
ProgramKnowsThePast = (program : Program) (path : Path) (h : Holder) → age (instances program path h) ≤ length path

abbrev pub FunctionKnowsThePast : Type 0
FunctionKnowsThePast =
    (program : Program) (function : Function) (path : Path) (v : ℕ) →
    age (denotes program function path v) ≤ length path
