-- Code in a line: values that are built one behind the other.
use Rattle.std.proofs.Common.{◌≡◌, ◌<◌, ℕ, true, List, ◌++◌, length, refl, sym, ◌∙◌, ap, subst, arith, append-nil, None}
use Rattle.std.specs.Prelude.{replicate, Result, Ok, Err, OnOk}
use Rattle.clif_types.specs.declared.error.BuildError.{BuildError}
use Rattle.clif_types.specs.declared.types.LaneType.TheVariants as lane
use Rattle.clif_types.specs.declared.types.«Type».{«Type»}
use Rattle.clif_types.specs.declared.types.«Type».TheVariants as type
use Rattle.clif_inst_builder.specs.Shapes as shapes
use Rattle.clif_switch_calls.specs.SwitchCalls.{is_widest}
use Rattle.clif_instructions.specs.Instruction.{result_type_of}
use Rattle.clif_instructions.specs.declared.instructions.InstructionData.{InstructionData}
use Rattle.clif_ir.specs.Body.{value_at}
use Rattle.clif_builder.specs.declared.builder.FunctionBuilder.{FunctionBuilder}
use Rattle.clif_builder.specs.Builder.{HasCurrent}
use Rattle.clif_builder.specs.Built.{BuildsValue}
use Rattle.clif_switch.specs.Emission.{GivesValue, IsSwitchedIn, LeavesBlocks, Steps}
use Rattle.clif_switch.specs.declared.emission.SwitchedValue.{SwitchedValue}
use Rattle.clif_switch.proofs.Steps.{leaves_all, leaves_on, may_lead_on, steps_ok, steps_on, value_steps}

-- no error
abbrev pub done : Result (Unit {0}) BuildError
done = Ok tt

-- a line was built so far
pub record Went {R : Type 0} (old mid : FunctionBuilder R) : Type 0 where
  pub steps : Steps old mid done
  pub position : mid.position ≡ old.position
  pub leaves : LeavesBlocks old mid
  pub tables : mid.func.now.tables.jump_tables ≡ old.func.now.tables.jump_tables
  pub current : HasCurrent mid

pub none_more : {X : Type 0} (xs ys : List X) (x : X) → ys ≡ xs → ys ≡ xs ++ replicate 0 x
none_more xs ys x same = same ∙ sym (append-nil xs)

module _ {R : Type 0} (old new : FunctionBuilder R) (shape : InstructionData) (ty : «Type») where
  pub value_went : (v : ℕ) → BuildsValue old new shape ty (Ok v) → Went old new
  value_went v builds = record {
    steps = steps_ok old new v (tt {0}) (value_steps old new shape ty (Ok v) builds);
    position = builds.position;
    leaves = leaves_all old new builds.ssa builds.position builds.fills;
    tables = builds.grows.6;
    current = builds.current;
  }

  -- the first value of a line
  pub gives_first : (answer : Result ℕ BuildError) (held : «Type») → result_type_of shape ty ≡ held → BuildsValue old new shape ty answer → GivesValue held old new answer
  gives_first (Ok v) held is builds = record {
    steps = value_steps old new shape ty (Ok v) builds;
    leaves = leaves_all old new builds.ssa builds.position builds.fills;
    tables = none_more old.func.now.tables.jump_tables new.func.now.tables.jump_tables None builds.grows.6;
    current = builds.current;
    exists = builds.exists;
    typed = builds.typed ∙ is;
  }
  gives_first (Err e) held is builds = record { steps = value_steps old new shape ty (Err e) builds; leaves = tt; tables = tt; current = tt; exists = tt; typed = tt }

-- a line behind a line
pub went_then : {R : Type 0} (old mid new : FunctionBuilder R) → Went old mid → Went mid new → Went old new
went_then old mid new first next = record {
  steps = steps_on old mid new (tt {0}) done first.steps next.steps;
  position = next.position ∙ first.position;
  leaves = leaves_on old mid new first.steps.grows.2 first.leaves next.leaves;
  tables = next.tables ∙ first.tables;
  current = next.current;
}

-- what a line gives behind a line
pub gives_then : {R : Type 0} (old mid new : FunctionBuilder R) (held : «Type») (answer : Result ℕ BuildError) → Went old mid → GivesValue held mid new answer → GivesValue held old new answer
gives_then old mid new held (Ok v) went gives = record {
  steps = steps_on old mid new (tt {0}) (Ok v) went.steps gives.steps;
  leaves = leaves_on old mid new went.steps.grows.2 went.leaves gives.leaves;
  tables = gives.tables ∙ ap (λ tables. tables ++ replicate 0 None) went.tables;
  current = gives.current;
  exists = gives.exists;
  typed = gives.typed;
}
gives_then old mid new held (Err e) went gives = record { steps = steps_on old mid new (tt {0}) (Err e) went.steps gives.steps; leaves = tt; tables = tt; current = tt; exists = tt; typed = tt }

-- so far a line went, where it gave a value and stayed in its block
pub gives_went : {R : Type 0} (old mid : FunctionBuilder R) (held : «Type») (v : ℕ) → GivesValue held old mid (Ok v) → mid.position ≡ old.position → Went old mid
gives_went old mid held v gives here = record {
  steps = steps_ok old mid v (tt {0}) gives.steps;
  position = here;
  leaves = gives.leaves;
  tables = gives.tables ∙ append-nil old.func.now.tables.jump_tables;
  current = gives.current;
}

-- a line failed
pub gives_failed : {R : Type 0} (old new : FunctionBuilder R) (held : «Type») (r : Result ℕ BuildError) (e y : BuildError) → Steps {A = ℕ} old new (Err e) → r ≡ Err y → y ≡ e → GivesValue held old new r
gives_failed old new held r e y steps is same =
    subst (λ (answer : Result ℕ BuildError). GivesValue held old new answer) (sym (is ∙ ap Err same)) (record { steps = steps; leaves = tt; tables = tt; current = tt; exists = tt; typed = tt })

-- what is switched on stays, and so do the blocks to which branches may lead
pub switched_on : {R : Type 0} (old mid : FunctionBuilder R) (switched : SwitchedValue) → Went old mid → IsSwitchedIn old switched → IsSwitchedIn mid switched
switched_on old mid switched went is = record {
  exists = let more = went.steps.grows.0 in let here = is.exists in omega (arith, more, here);
  typed = went.steps.types switched.val is.exists ∙ is.typed;
  integer = is.integer;
  otherwise = may_lead_on old mid switched.otherwise went.steps.grows.2 went.leaves is.otherwise;
}

-- a failure behind a line
pub failed_then : {R : Type 0} (old mid new : FunctionBuilder R) (e : BuildError) → Went old mid → Steps {A = ℕ} mid new (Err e) → Steps {A = ℕ} old new (Err e)
failed_then old mid new e went steps = steps_on old mid new (tt {0}) (Err e) went.steps steps

-- where the builder stays in its block
pub here_then : {A : Type 0} {R : Type 0} (r : Result A BuildError) (old mid new : FunctionBuilder R) → mid.position ≡ old.position → OnOk r (new.position ≡ mid.position) → OnOk r (new.position ≡ old.position)
here_then (Ok a) old mid new first next = next ∙ first
here_then (Err e) old mid new first next = tt

pub always : {A : Type 0} (r : Result A BuildError) (P : Type 0) → P → OnOk r P
always (Ok a) P p = p
always (Err e) P p = tt

-- the one integer type that is widest
pub widest_is : (ty : «Type») → is_widest ty ≡ true → ty ≡ type.Lane lane.I128
widest_is (type.Lane lane.I128) is = refl
widest_is (type.Lane lane.I8) is = cc
widest_is (type.Lane lane.I16) is = cc
widest_is (type.Lane lane.I32) is = cc
widest_is (type.Lane lane.I64) is = cc
widest_is (type.Lane lane.F16) is = cc
widest_is (type.Lane lane.F32) is = cc
widest_is (type.Lane lane.F64) is = cc
widest_is (type.Lane lane.F128) is = cc
widest_is type.Invalid is = cc
widest_is (type.Vector l k) is = cc

-- the concatenation of two halves of 64 bits
pub halves_give : (ty held : «Type») (x y : ℕ) → ty ≡ type.Lane lane.I64 → is_widest held ≡ true → result_type_of (shapes.concat x y) ty ≡ held
halves_give ty held x y narrow wide = ap (λ t. result_type_of (shapes.concat x y) t) narrow ∙ sym (widest_is held wide)

-- a value keeps its type
pub type_later : {R : Type 0} (mid new : FunctionBuilder R) (v : ℕ) (ty : «Type») → Went mid new → v < length mid.func.now.values → (value_at mid.func.now v).ty ≡ ty → (value_at new.func.now v).ty ≡ ty
type_later mid new v ty went here is = went.steps.types v here ∙ is
