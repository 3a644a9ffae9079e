-- What goes on behind a call: from what holds of each call, what it makes of the function, and what it leaves on record.
use Rattle.std.proofs.Common.{◌≡◌, ℕ, arith, refl, ◌∙◌}
use Rattle.std.specs.Prelude.{Result, Ok, Err, OnOk}
use Rattle.clif_types.specs.declared.error.BuildError.{BuildError}
use Rattle.clif_ir.specs.Body.{Body}
use Rattle.clif_builder.specs.declared.builder.FunctionBuilder.{FunctionBuilder}
use Rattle.clif_builder.specs.Builder.{HasCurrent}
use Rattle.clif_builder.specs.Calls.{IsCall}
use Rattle.clif_builder.specs.Context.{FillsNone}
use Rattle.clif_builder.specs.GoesOn.{GoesOn, GoesOnWhere}
use Rattle.clif_builder.specs.Growth.{Grows, RemembersIn}
use Rattle.clif_builder.proofs.Growing.{Grows-same}
use Rattle.clif_builder.proofs.Remembered.{remembers_same}

-- the function has what it had, and no block is filled that wasn't
still : {R : Type 0} (old new : FunctionBuilder R) → new.position ≡ old.position → Grows old.func.now new.func.now → FillsNone old.ctx.now.parts new.ctx.now.parts
    → HasCurrent old → HasCurrent new
still old new position grows fills current =
    (current.0, position ∙ current.1, omega (arith, current.2, grows.2), λ filled. current.3 (fills current.0 filled))

pub goes_where : {A : Type 0} {R : Type 0} (Stays : ℕ → ℕ → Type 0) (old new : FunctionBuilder R) (answer : Result A BuildError) → IsCall old new answer
    → OnOk answer (Grows old.func.now new.func.now) → ((x b : ℕ) → Stays x b → OnOk answer (RemembersIn x b old new)) → GoesOnWhere Stays old new answer
goes_where Stays old new (Ok a) call grows remembers = record {
  grows = grows;
  remembers = remembers;
  current = still old new call.position grows call.fills;
}
goes_where Stays old new (Err e) call grows remembers = record { grows = tt; remembers = λ x b _. tt; current = λ _. tt }

pub goes_on : {A : Type 0} {R : Type 0} (old new : FunctionBuilder R) (answer : Result A BuildError) → IsCall old new answer
    → OnOk answer (Grows old.func.now new.func.now) → ((x b : ℕ) → OnOk answer (RemembersIn x b old new)) → GoesOn old new answer
goes_on old new answer call grows remembers = goes_where (λ x b. Unit {0}) old new answer call grows (λ x b _. remembers x b)

-- the function stays
pub grows_still : {A E : Type 0} (answer : Result A E) (f g : Body) → g ≡ f → OnOk answer (Grows f g)
grows_still (Ok a) f g same = Grows-same f g same
grows_still (Err e) f g same = tt

-- after an error nothing is said
pub goes_nowhere : {A E : Type 0} {R : Type 0} (Stays : ℕ → ℕ → Type 0) (old new : FunctionBuilder R) (e : E) → GoesOnWhere {A = A} Stays old new (Err e)
goes_nowhere Stays old new e = record { grows = tt; remembers = λ x b _. tt; current = λ _. tt }

-- what goes on behind a call does behind one that answers otherwise
pub goes_as : {A B E F : Type 0} {R : Type 0} (Stays : ℕ → ℕ → Type 0) (old new : FunctionBuilder R) (a : A) (b : B) → GoesOnWhere {E = E} Stays old new (Ok a)
    → GoesOnWhere {E = F} Stays old new (Ok b)
goes_as Stays old new a b goes = record { grows = goes.grows; remembers = goes.remembers; current = goes.current }

-- nothing was done
pub goes_still : {A E : Type 0} {R : Type 0} (Stays : ℕ → ℕ → Type 0) (b : FunctionBuilder R) (a : A) → GoesOnWhere {E = E} Stays b b (Ok a)
goes_still Stays b a = record {
  grows = Grows-same b.func.now b.func.now refl;
  remembers = λ x c _. remembers_same x c b.func.now b.func.now b.ctx.now.parts.ssa b.ctx.now.parts.ssa refl refl;
  current = λ current. current;
}
