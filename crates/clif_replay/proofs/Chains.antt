-- How far a builder comes with the instructions of an emission: what it keeps, how many entries it makes, and where it fails.
use Rattle.std.proofs.Common.{◌≡◌, ◌+◌, ◌<◌, ℕ, ℤ, suc, List, [], ◌∷◌, length, inl, inr, refl, ap, ◌∙◌, subst, arith, length-append, Bool, true, false}
use Rattle.std.specs.Prelude.{Option, Some, IfSome, IfOk, Result, Ok, Err, if◌then◌else◌}
use Rattle.clif_types.specs.declared.error.BuildError.{BuildError}
use Rattle.clif_types.specs.declared.types.«Type».{«Type»}
use Rattle.clif_opcodes.specs.declared.opcodes.ConvertOpcode.TheVariants.{Sextend}
use Rattle.clif_instructions.specs.declared.instructions.InstructionData.{InstructionData}
use Rattle.clif_instructions.specs.Members.{stands_in}
use Rattle.clif_inst_builder.specs.Shapes.{convert, unary_imm}
use Rattle.clif_nodes.specs.declared.nodes.ValueNode.{ValueNode}
use Rattle.clif_nodes.specs.Nodes.{result_nodes}
use Rattle.clif_tables.specs.Lists.{TableLists}
use Rattle.clif_tables.specs.Callees.{types_of_results}
use Rattle.clif_ir.specs.Body.{Body}
use Rattle.clif_ir.specs.Changes.{inserted_in, with_layout}
use Rattle.clif_calls.specs.declared.immediate.ImmediateCall.{ImmediateCall}
use Rattle.clif_calls.specs.declared.immediate.ImmediateCall.TheVariants as immediate
use Rattle.clif_constant_calls.specs.Stands.{type_in}
use Rattle.clif_constant_operands.specs.Chains.{BuildsConstant, i64}
use Rattle.clif_builder.specs.declared.builder.FunctionBuilder.{FunctionBuilder}
use Rattle.clif_builder.specs.Builder.{AppendsValue, SameLoans, with_appended}
use Rattle.clif_builder.specs.Built.{BuildsValue}
use Rattle.clif_replay.specs.Emits.{BuildsEmission, shape_in}
use Rattle.clif_replay.specs.Ready.{KeepsTables}
use Rattle.clif_replay.proofs.Making.{loans-stay}

-- The builder hasn't failed, and made so many instructions with one result each.
pub record Reaches {R : Type 0} (made : ℕ) (old b : FunctionBuilder R) : Type 0 where
  pub loans : SameLoans old b
  pub sound : b.failed ≡ false
  pub variables : b.ctx.now.parts.variables ≡ old.ctx.now.parts.variables
  pub name : b.func.now.name ≡ old.func.now.name
  pub tables : KeepsTables old b
  pub position : b.position ≡ old.position
  pub insts : length b.func.now.insts ≡ length old.func.now.insts + made
  pub values : length b.func.now.values ≡ length old.func.now.values + made

-- It came so far, and then failed at an instruction, behind two ones at most.
pub record FailsBehind {R : Type 0} (old new : FunctionBuilder R) (error : BuildError) : Type 0 where
  pub between : FunctionBuilder R
  pub made : ℕ
  pub few : made < 3
  pub reaches : Reaches made old between
  pub shape : InstructionData
  pub ty : «Type»
  pub built : BuildsValue between new shape ty (Err error)

-- an instruction of this shape has one result
abbrev pub HasOneResult : InstructionData → Type 0
HasOneResult shape = (tables : TableLists) (ty : «Type») → length (types_of_results tables shape ty) ≡ 1

start : {R : Type 0} (b : FunctionBuilder R) → b.failed ≡ false → Reaches 0 b b
start b sound = record {
  loans = loans-stay b;
  sound = sound;
  variables = refl;
  name = refl;
  tables = (refl, refl);
  position = refl;
  insts = omega arith;
  values = omega arith;
}

length-nodes : (inst k : ℕ) (types : List «Type») → length (result_nodes inst k types) ≡ length types
length-nodes inst k [] = refl
length-nodes inst k (ty ∷ types) = ap suc (length-nodes inst (k + 1) types)

-- an instruction is one entry more, and so is its result
appended : (f : Body) (block : ℕ) (shape : InstructionData) (ty : «Type») (place : ℕ) → length (types_of_results f.tables shape ty) ≡ 1
    → (length (with_appended f block shape ty place).insts ≡ length f.insts + 1) × (length (with_appended f block shape ty place).values ≡ length f.values + 1)
appended f block shape ty place one = by (stands_in block f.layout) refl
  where
    entries : (g : Body) → g.insts ≡ f.insts → g.values ≡ f.values → inserted_in f block ≡ g
        → (length (with_appended f block shape ty place).insts ≡ length f.insts + 1) × (length (with_appended f block shape ty place).values ≡ length f.values + 1)
    entries g insts values is =
        let here : Body = inserted_in f block in
        let nodes : List ValueNode = result_nodes (length here.insts) 0 (types_of_results f.tables shape ty) in
        let many : length nodes ≡ 1 = length-nodes (length here.insts) 0 (types_of_results f.tables shape ty) ∙ one in
        let same_insts : length here.insts ≡ length f.insts = ap (λ (h : Body). length h.insts) is ∙ ap (λ (xs : List _). length xs) insts in
        let same_values : length here.values ≡ length f.values = ap (λ (h : Body). length h.values) is ∙ ap (λ (xs : List ValueNode). length xs) values in
        (length-append here.insts _ ∙ omega (arith, same_insts), length-append here.values nodes ∙ omega (arith, many, same_values))

    by : (there : Bool) → stands_in block f.layout ≡ there
        → (length (with_appended f block shape ty place).insts ≡ length f.insts + 1) × (length (with_appended f block shape ty place).values ≡ length f.values + 1)
    by true is = entries f refl refl (ap (λ (t : Bool). if t then f else with_layout f block) is)
    by false is = entries (with_layout f block) refl refl (ap (λ (t : Bool). if t then f else with_layout f block) is)

step : {R : Type 0} (made block : ℕ) (old b new : FunctionBuilder R) (shape : InstructionData) (ty : «Type») (value : ℕ) → old.position ≡ Some block → HasOneResult shape → Reaches made old b
    → BuildsValue b new shape ty (Ok value) → Reaches (suc made) old new
step made block old b new shape ty value at one far built =
    let here : b.position ≡ Some block = far.position ∙ at in
    let appends : AppendsValue b new block shape ty value =
    subst (λ (o : Option ℕ). IfSome o (λ place. IfOk {E = BuildError} (Ok value) (AppendsValue b new place shape ty))) here built.appends in
    let counts = appended b.func.now block shape ty b.srcloc (one b.func.now.tables ty) in
    let more_insts : length new.func.now.insts ≡ length b.func.now.insts + 1 = ap (λ (g : Body). length g.insts) appends.0.function ∙ counts.0 in
    let more_values : length new.func.now.values ≡ length b.func.now.values + 1 = ap (λ (g : Body). length g.values) appends.0.function ∙ counts.1 in
    record {
      loans = record { func = built.loans.func ∙ far.loans.func; ctx = built.loans.ctx ∙ far.loans.ctx; region = built.loans.region ∙ far.loans.region };
      sound = built.fails;
      variables = built.variables ∙ far.variables;
      name = built.grows.3 ∙ far.name;
      tables = (built.grows.6 ∙ far.tables.0, built.grows.8 ∙ far.tables.1);
      position = built.position ∙ far.position;
      insts = omega (arith, more_insts, far.insts);
      values = omega (arith, more_values, far.values);
    }

-- a failure isn't a success, and is told as itself
no-success : {P : Type 0} (value : ℕ) (error : BuildError) → Ok value ≡ Err error → P
no-success value error same = cc

same-error : (one other : BuildError) → ◌≡◌ {A = Result ℕ BuildError} (Err one) (Err other) → other ≡ one
same-error one other same = cc

one-shape : (called : ImmediateCall) (x constant : ℕ) → HasOneResult (shape_in called x constant)
one-shape (immediate.IaddImmS y imm) x constant tables ty = refl
one-shape (immediate.IcmpImmS cond y imm) x constant tables ty = refl

module _ {R : Type 0} (old : FunctionBuilder R) (block : ℕ) (at : old.position ≡ Some block) (sound : old.failed ≡ false) (ty : «Type») (imm : ℤ) where
  -- a constant is one instruction or two
  constant-made : (new : FunctionBuilder R) (value : ℕ) → BuildsConstant BuildsValue ty imm old new (Ok value) → (made : ℕ) × (made < 3) × Reaches made old new
  constant-made new value (inl (wide, inl (first, narrow, builds, widens))) = (
    2,
    omega arith,
    step 1 block old first new (convert Sextend narrow) ty value at (λ tables t. refl)
        (step 0 block old old first (unary_imm imm) i64 narrow at (λ tables t. refl) (start old sound) builds) widens,
  )
  constant-made new value (inl (wide, inr (error, failed, is))) = no-success value error is
  constant-made new value (inr (narrow, builds)) = (1, omega arith, step 0 block old old new (unary_imm imm) ty value at (λ tables t. refl) (start old sound) builds)

  constant-failed : (new : FunctionBuilder R) (error : BuildError) → BuildsConstant BuildsValue ty imm old new (Err error) → FailsBehind old new error
  constant-failed new error (inl (wide, inl (first, narrow, builds, widens))) = record {
    between = first;
    made = 1;
    few = omega arith;
    reaches = step 0 block old old first (unary_imm imm) i64 narrow at (λ tables t. refl) (start old sound) builds;
    shape = convert Sextend narrow;
    ty = ty;
    built = widens;
  }
  constant-failed new error (inl (wide, inr (other, failed, is))) =
      subst (FailsBehind old new) (same-error error other is)
      (record { between = old; made = 0; few = omega arith; reaches = start old sound; shape = unary_imm imm; ty = i64; built = failed })
  constant-failed new error (inr (narrow, builds)) =
      record { between = old; made = 0; few = omega arith; reaches = start old sound; shape = unary_imm imm; ty = ty; built = builds }

module _ {R : Type 0} (called : ImmediateCall) (x : ℕ) (old new : FunctionBuilder R) (block : ℕ) (at : old.position ≡ Some block) (sound : old.failed ≡ false) where
  pub emission-made : (value : ℕ) → BuildsEmission called x old new (Ok value) → (made : ℕ) × Reaches made old new
  emission-made value (inl (between, constant, first, last)) =
      let far = constant-made old block at sound (type_in old x) _ between constant first in
      (suc far.0, step far.0 block old between new (shape_in called x constant) (type_in between x) value at (one-shape called x constant) far.2 last)
  emission-made value (inr (error, failed, is)) = no-success value error is

  pub emission-failed : (error : BuildError) → BuildsEmission called x old new (Err error) → FailsBehind old new error
  emission-failed error (inl (between, constant, first, last)) =
      let far = constant-made old block at sound (type_in old x) _ between constant first in
      record { between = between; made = far.0; few = far.1; reaches = far.2; shape = shape_in called x constant; ty = type_in between x; built = last }
  emission-failed error (inr (other, failed, is)) =
      subst (FailsBehind old new) (same-error error other is) (constant-failed old block at sound (type_in old x) _ new other failed)
