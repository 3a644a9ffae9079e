-- What goes on behind a call of a builder, whatever the call makes. Source: own.
use Rattle.std.specs.Prelude.{◌≡◌, ℕ, Some, Result, Ok, OnOk}
use Rattle.clif_types.specs.declared.error.BuildError.{BuildError}
use Rattle.clif_builder.specs.declared.builder.FunctionBuilder.{FunctionBuilder}
use Rattle.clif_builder.specs.Builder.{HasCurrent}
use Rattle.clif_builder.specs.Growth.{Grows, RemembersIn}

-- No table is shorter; what a variable has on record in a block stays, for variables and blocks of which `Stays` holds; and where one
-- could build on in the current block before, one can behind the call.
pub record GoesOnWhere {A E : Type 0} {R : Type 0} (Stays : (variable block : ℕ) → Type 0) (old new : FunctionBuilder R) (answer : Result A E) : Type 0 where
  pub grows : OnOk answer (Grows old.func.now new.func.now)
  pub remembers : (x b : ℕ) → Stays x b → OnOk answer (RemembersIn x b old new)
  pub current : HasCurrent old → OnOk answer (HasCurrent new)

-- of each variable and block
abbrev pub GoesOn : {A E : Type 0} {R : Type 0} → FunctionBuilder R → FunctionBuilder R → Result A E → Type 0
GoesOn old new answer = GoesOnWhere (λ x b. Unit {0}) old new answer

-- a call that can't fail
abbrev pub succeeded : Result (Unit {0}) BuildError
succeeded = Ok tt

-- of each but an assigned variable, in the current block
abbrev pub IsUnassigned : {R : Type 0} → FunctionBuilder R → ℕ → ℕ → ℕ → Type 0
IsUnassigned old variable x b = x ≡ variable → old.position ≡ Some b → ⊥
