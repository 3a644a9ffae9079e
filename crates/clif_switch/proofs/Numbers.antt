-- What names lead to behind the constants of a switch.
use Rattle.std.proofs.Common.{◌≡◌, ◌<◌, ◌+◌, inl, inr, ℕ, ℤ, suc, true, false, Bool, List, [], ◌∷◌, ◌++◌, length, map, refl, sym, ◌∙◌, ap, subst, arith}
use Rattle.std.specs.Prelude.{if◌then◌else◌, nat_le, ◌&&◌, ◌/◌, ◌^◌, Result, Ok, Err, IfOk}
use Rattle.clif_opcodes.specs.declared.opcodes.ConvertOpcode.TheVariants.{Sextend}
use Rattle.clif_types.specs.Signature.{SignatureShape}
use Rattle.clif_types.specs.declared.error.BuildError.{BuildError}
use Rattle.clif_types.specs.declared.types.LaneType.TheVariants as lane
use Rattle.clif_types.specs.declared.types.«Type».{«Type»}
use Rattle.clif_types.specs.declared.types.«Type».TheVariants as type
use Rattle.clif_inst_builder.specs.Shapes as shapes
use Rattle.clif_ir.specs.Body.{value_at}
use Rattle.clif_meaning.specs.Instruction.{Concat, Convert, Iconst, Instruction}
use Rattle.clif_meaning.specs.Ledger.{or_invalid, type_of}
use Rattle.clif_meaning.specs.Name.{Name, answer_of}
use Rattle.clif_meaning.specs.Request.{AnsweredCall, Request, Script}
use Rattle.clif_builder.specs.declared.builder.FunctionBuilder.{FunctionBuilder}
use Rattle.clif_builder.specs.Built.{BuildsValue}
use Rattle.clif_builder.specs.Ledger.{NamesValue, ledger_of}
use Rattle.clif_builder.specs.LedgerLaws.{AskForTheirShapes, AsksForShape, LedgerIsReadByNumber, RequestsAskForTheirShapes}
use Rattle.clif_constant_operands.specs.Chains.{BuildsConstant, BuildsWithConstant, is_wide}
use Rattle.clif_instructions.specs.Instruction.{result_type_of}
use Rattle.clif_instructions.specs.declared.instructions.InstructionData.{InstructionData}
use Rattle.clif_constant_calls.specs.Stands.{BuildsLike}
use Rattle.clif_constant_calls.proofs.Standing.{type_at}
use Rattle.clif_expansion.specs.ConstantCalls.{constant_instructions, constant_name}
use Rattle.clif_expansion.specs.Constants.{computing, i64}
use Rattle.clif_expansion.specs.Emission.{building}
use Rattle.clif_switch_calls.specs.SwitchCalls.{Switched, is_composed, is_widest, signed_64}
use Rattle.clif_switch.specs.Emission.{GivesValue, NamesAnswer, StandsAt, StandsOn, next_place}
use Rattle.clif_switch.proofs.Lines.{value_built}
use Rattle.clif_switch.proofs.Names.{long, on_then}
use Rattle.clif_switch.proofs.Steps.{value_steps}
use Rattle.clif_switch.proofs.Values.{Went, gives_failed, gives_first, gives_then, value_went, went_then}

-- PLACES ------------------------------------------------------------------------------------------------------------------

pub place_after : (calls : List AnsweredCall) (plain more : Script) → next_place calls (plain ++ more) ≡ next_place calls plain + length more
place_after calls plain more = let one = long plain more in omega (arith, one)

-- a value behind calls, with its name by its place
unfoldable pub value_then : {R : Type 0} {signature : SignatureShape} {calls : List AnsweredCall} {s : Switched} {x otherwise : ℕ} {cases : List ℕ} {plain : Script} {old mid : FunctionBuilder R}
    (at : StandsAt signature calls s x otherwise cases plain old) (first next : Script) (new : FunctionBuilder R) (p index value : ℕ) → next_place calls (plain ++ first) ≡ p → (on : StandsOn at first mid)
    → NamesAnswer on.later next new (answer_of (next_place calls (plain ++ first)) index) value → NamesAnswer at (first ++ next) new (answer_of p index) value
value_then {calls = calls} {plain = plain} at first next new p index value is on behind = record {
  on = on_then at first next new on behind.on;
  named = subst (λ (place : ℕ). NamesValue (calls ++ behind.on.later.added) (answer_of place index) value) is behind.named;
}

pub one_after : (calls : List AnsweredCall) (plain : Script) (first : Request) → next_place calls (plain ++ first ∷ []) ≡ suc (next_place calls plain)
one_after calls plain first = let is = place_after calls plain (first ∷ []) in omega (arith, is)

pub two_after : (calls : List AnsweredCall) (plain : Script) (first second : Request) → next_place calls (plain ++ first ∷ second ∷ []) ≡ suc (suc (next_place calls plain))
two_after calls plain first second = let is = place_after calls plain (first ∷ second ∷ []) in omega (arith, is)

-- the instructions of a constant, by its type
narrow_is : (ty : «Type») (imm : ℤ) (p : ℕ) → is_wide ty ≡ false → (constant_instructions ty imm p ≡ computing (Iconst imm) ty [] ∷ []) × (constant_name ty p ≡ answer_of p 1)
narrow_is (type.Lane lane.I128) imm p is = cc
narrow_is (type.Lane lane.I8) imm p is = (refl, refl)
narrow_is (type.Lane lane.I16) imm p is = (refl, refl)
narrow_is (type.Lane lane.I32) imm p is = (refl, refl)
narrow_is (type.Lane lane.I64) imm p is = (refl, refl)
narrow_is (type.Lane lane.F16) imm p is = (refl, refl)
narrow_is (type.Lane lane.F32) imm p is = (refl, refl)
narrow_is (type.Lane lane.F64) imm p is = (refl, refl)
narrow_is (type.Lane lane.F128) imm p is = (refl, refl)
narrow_is type.Invalid imm p is = (refl, refl)
narrow_is (type.Vector l k) imm p is = (refl, refl)

wide_is : (ty : «Type») (imm : ℤ) (p : ℕ) → is_wide ty ≡ true
    → (constant_instructions ty imm p ≡ computing (Iconst imm) i64 [] ∷ computing (Convert Sextend) ty (answer_of p 1 ∷ []) ∷ []) × (constant_name ty p ≡ answer_of (suc p) 1)
wide_is (type.Lane lane.I128) imm p is = (refl, refl)
wide_is (type.Lane lane.I8) imm p is = cc
wide_is (type.Lane lane.I16) imm p is = cc
wide_is (type.Lane lane.I32) imm p is = cc
wide_is (type.Lane lane.I64) imm p is = cc
wide_is (type.Lane lane.F16) imm p is = cc
wide_is (type.Lane lane.F32) imm p is = cc
wide_is (type.Lane lane.F64) imm p is = cc
wide_is (type.Lane lane.F128) imm p is = cc
wide_is type.Invalid imm p is = cc
wide_is (type.Vector l k) imm p is = cc

module _ (reads : LedgerIsReadByNumber) (asks : RequestsAskForTheirShapes) where
  -- what requests ask for
  pub asks_here : {R : Type 0} {signature : SignatureShape} {calls : List AnsweredCall} {s : Switched} {x otherwise : ℕ} {cases : List ℕ} {plain : Script} {old : FunctionBuilder R}
      (at : StandsAt signature calls s x otherwise cases plain old) → AskForTheirShapes (calls ++ at.added) old.func.now
  asks_here {calls = calls} {old = old} at = asks (calls ++ at.added) old.func.now old.ctx.now.parts old.position at.stands.ledger

  -- the type of a named value
  pub held_is : {R : Type 0} {signature : SignatureShape} {calls : List AnsweredCall} {s : Switched} {x otherwise : ℕ} {cases : List ℕ} {plain : Script} {old : FunctionBuilder R}
      (at : StandsAt signature calls s x otherwise cases plain old) (name : Name) (v : ℕ) → NamesValue (calls ++ at.added) name v
      → or_invalid (type_of (ledger_of (calls ++ at.added)) name) ≡ (value_at old.func.now v).ty
  held_is {signature = signature} {calls = calls} {old = old} at name v names = type_at reads asks signature (calls ++ at.added) old name v at.stands names

  -- the type that is switched on
  pub type_is : {R : Type 0} {signature : SignatureShape} {calls : List AnsweredCall} {s : Switched} {x otherwise : ℕ} {cases : List ℕ} {plain : Script} {old : FunctionBuilder R}
      (at : StandsAt signature calls s x otherwise cases plain old) → s.ty ≡ (value_at old.func.now x).ty
  type_is {s = s} {x = x} at = sym (ap or_invalid at.typed) ∙ held_is at s.value x at.value

  module _ {R : Type 0} {signature : SignatureShape} {calls : List AnsweredCall} {s : Switched} {x otherwise : ℕ} {cases : List ℕ} {plain : Script} {old : FunctionBuilder R}
      (at : StandsAt signature calls s x otherwise cases plain old) where
    abbrev place : ℕ
    place = next_place calls plain

    -- a constant of one instruction
    pub iconst_made : (new : FunctionBuilder R) (imm : ℤ) (ty : «Type») (v : ℕ) → BuildsValue old new (shapes.unary_imm imm) ty (Ok v)
        → NamesAnswer at (building (computing (Iconst imm) ty []) ∷ []) new (answer_of place 1) v
    iconst_made new imm ty v builds = value_built reads at new (shapes.unary_imm imm) ty ty ty v (Iconst imm) [] builds ((asks_here at).iconst ty imm) refl

    -- a constant of two
    sextended : (mid new : FunctionBuilder R) (imm : ℤ) (ty : «Type») (narrow v : ℕ) → BuildsValue old mid (shapes.unary_imm imm) i64 (Ok narrow) → BuildsValue mid new (shapes.convert Sextend narrow) ty (Ok v)
        → NamesAnswer at (building (computing (Iconst imm) i64 []) ∷ building (computing (Convert Sextend) ty (answer_of place 1 ∷ [])) ∷ []) new (answer_of (suc place) 1) v
    sextended mid new imm ty narrow v first next =
        let one = iconst_made mid imm i64 narrow first in
        value_then at (building (computing (Iconst imm) i64 []) ∷ []) (building (computing (Convert Sextend) ty (answer_of place 1 ∷ [])) ∷ []) new (suc place) 1 v
        (one_after calls plain (building (computing (Iconst imm) i64 []))) one.on
        (value_built reads one.on.later new (shapes.convert Sextend narrow) ty ty ty v (Convert Sextend) (answer_of place 1 ∷ []) next
        ((asks_here one.on.later).convert Sextend ty (answer_of place 1) narrow one.named) refl)

    abbrev IsConstant : «Type» → ℤ → FunctionBuilder R → ℕ → Type 0
    IsConstant ty imm new v = NamesAnswer at (map building (constant_instructions ty imm place)) new (constant_name ty place) v

    pub one_instruction : (new : FunctionBuilder R) (imm : ℤ) (ty : «Type») (v : ℕ) → is_wide ty ≡ false → BuildsValue old new (shapes.unary_imm imm) ty (Ok v) → IsConstant ty imm new v
    one_instruction new imm ty v narrow builds =
        let is = narrow_is ty imm place narrow in
        subst (λ (line : List (Instruction Name Name)). NamesAnswer at (map building line) new (constant_name ty place) v) (sym is.0)
        (subst (λ (name : Name). NamesAnswer at (building (computing (Iconst imm) ty []) ∷ []) new name v) (sym is.1) (iconst_made new imm ty v builds))

    two_instructions : (mid new : FunctionBuilder R) (imm : ℤ) (ty : «Type») (narrow v : ℕ) → is_wide ty ≡ true → BuildsValue old mid (shapes.unary_imm imm) i64 (Ok narrow)
        → BuildsValue mid new (shapes.convert Sextend narrow) ty (Ok v) → IsConstant ty imm new v
    two_instructions mid new imm ty narrow v wide first next =
        let is = wide_is ty imm place wide in
        subst (λ (line : List (Instruction Name Name)). NamesAnswer at (map building line) new (constant_name ty place) v) (sym is.0)
        (subst (λ (name : Name). NamesAnswer at (building (computing (Iconst imm) i64 []) ∷ building (computing (Convert Sextend) ty (answer_of place 1 ∷ [])) ∷ []) new name v) (sym is.1)
        (sextended mid new imm ty narrow v first next))

    no_success : {P : Type 0} (value : ℕ) (error : BuildError) → Ok value ≡ Err error → P
    no_success value error same = cc

    pub constant_made : (new : FunctionBuilder R) (imm : ℤ) (ty : «Type») (answer : Result ℕ BuildError) → BuildsConstant BuildsValue ty imm old new answer → IfOk answer (IsConstant ty imm new)
    constant_made new imm ty (Err e) builds = tt
    constant_made new imm ty (Ok v) (inl (wide, inl (mid, narrow, first, next))) = two_instructions mid new imm ty narrow v wide first next
    constant_made new imm ty (Ok v) (inl (wide, inr (e, first, is))) = no_success v e is
    constant_made new imm ty (Ok v) (inr (narrow, builds)) = one_instruction new imm ty v narrow builds

    -- a number of two halves
    pub halves_made : (m1 m2 new : FunctionBuilder R) (low high : ℤ) (l h : ℕ) (answer : Result ℕ BuildError) → BuildsValue old m1 (shapes.unary_imm low) i64 (Ok l)
        → BuildsValue m1 m2 (shapes.unary_imm high) i64 (Ok h) → (value_at m2.func.now l).ty ≡ i64 → BuildsValue m2 new (shapes.concat l h) (value_at m2.func.now l).ty answer
        → IfOk answer (NamesAnswer at (building (computing (Iconst low) i64 []) ∷ building (computing (Iconst high) i64 [])
        ∷ building (computing Concat i64 (answer_of place 1 ∷ answer_of (suc place) 1 ∷ [])) ∷ []) new (answer_of (suc (suc place)) 1))
    unfolding value_then
    halves_made m1 m2 new low high l h (Err e) first next narrow last = tt
    halves_made m1 m2 new low high l h (Ok v) first next narrow last =
        let one = iconst_made m1 low i64 l first in
        let second = value_built reads one.on.later m2 (shapes.unary_imm high) i64 i64 i64 h (Iconst high) [] next ((asks_here one.on.later).iconst i64 high) refl in
        let two : NamesAnswer at (building (computing (Iconst low) i64 []) ∷ building (computing (Iconst high) i64 []) ∷ []) m2 (answer_of (suc place) 1) h =
        value_then at (building (computing (Iconst low) i64 []) ∷ []) (building (computing (Iconst high) i64 []) ∷ []) m2 (suc place) 1 h
        (one_after calls plain (building (computing (Iconst low) i64 []))) one.on second in
        let here : NamesValue (calls ++ two.on.later.added) (answer_of place 1) l = second.on.values_stay (answer_of place 1) l one.named in
        let held : or_invalid (type_of (ledger_of (calls ++ two.on.later.added)) (answer_of place 1)) ≡ i64 = held_is two.on.later (answer_of place 1) l here ∙ narrow in
        let operands : List Name = answer_of place 1 ∷ answer_of (suc place) 1 ∷ [] in
        value_then at (building (computing (Iconst low) i64 []) ∷ building (computing (Iconst high) i64 []) ∷ []) (building (computing Concat i64 operands) ∷ []) new (suc (suc place)) 1 v
        (two_after calls plain (building (computing (Iconst low) i64 [])) (building (computing (Iconst high) i64 []))) two.on
        (value_built reads two.on.later new (shapes.concat l h) (value_at m2.func.now l).ty i64 (type.Lane lane.I128) v Concat operands last
        (subst (λ (t : «Type»). AsksForShape (calls ++ two.on.later.added) m2.func.now (building (computing Concat t operands)) (shapes.concat l h) (value_at m2.func.now l).ty) held
        ((asks_here two.on.later).concat (answer_of place 1) (answer_of (suc place) 1) l h here two.named)) refl)

-- a constant was built
pub constant_went : {R : Type 0} (old new : FunctionBuilder R) (imm : ℤ) (ty : «Type») (v : ℕ) → BuildsConstant BuildsValue ty imm old new (Ok v) → Went old new
constant_went old new imm ty v (inl (wide, inl (mid, narrow, first, next))) =
    went_then old mid new (value_went old mid (shapes.unary_imm imm) i64 narrow first) (value_went mid new (shapes.convert Sextend narrow) ty v next)
constant_went old new imm ty v (inl (wide, inr (e, first, is))) = cc
constant_went old new imm ty v (inr (narrow, builds)) = value_went old new (shapes.unary_imm imm) ty v builds

-- what constants give
pub constant_gives : {R : Type 0} (old new : FunctionBuilder R) (imm : ℤ) (ty : «Type») (answer : Result ℕ BuildError) → BuildsConstant BuildsValue ty imm old new answer → GivesValue ty old new answer
constant_gives old new imm ty answer (inl (wide, inl (mid, narrow, first, next))) =
    gives_then old mid new ty answer (value_went old mid (shapes.unary_imm imm) i64 narrow first) (gives_first mid new (shapes.convert Sextend narrow) ty answer ty refl next)
constant_gives old new imm ty answer (inl (wide, inr (e, first, is))) =
    gives_failed old new ty answer e e (value_steps old new (shapes.unary_imm imm) i64 (Err e) first) is refl
constant_gives old new imm ty answer (inr (narrow, builds)) = gives_first old new (shapes.unary_imm imm) ty answer ty refl builds

-- BY THE NUMBER -----------------------------------------------------------------------------------------------------------

-- the test of a number at a type
pub composed_of : (ty held : «Type») (number : ℕ) → ty ≡ held → is_widest held ≡ true → nat_le (2 ^ 63) number ≡ true → is_composed ty number ≡ true
composed_of ty held number same wide great = ap (λ (b : Bool). b && nat_le (2 ^ 63) number) (ap is_widest same ∙ wide) ∙ great

pub narrow_plain : (ty held : «Type») (number : ℕ) → ty ≡ held → is_widest held ≡ false → is_composed ty number ≡ false
narrow_plain ty held number same narrow = ap (λ (b : Bool). b && nat_le (2 ^ 63) number) (ap is_widest same ∙ narrow)

pub small_plain : (ty : «Type») (number : ℕ) → nat_le (2 ^ 63) number ≡ false → is_composed ty number ≡ false
small_plain ty number small = by (is_widest ty)
  where
    by : (b : Bool) → (b && nat_le (2 ^ 63) number) ≡ false
    by true = small
    by false = refl

module _ {R : Type 0} {signature : SignatureShape} {calls : List AnsweredCall} {s : Switched} {x otherwise : ℕ} {cases : List ℕ} {plain : Script} {old : FunctionBuilder R} (answer : Result ℕ BuildError)
    (at : StandsAt signature calls s x otherwise cases plain old) (number : ℕ) (new : FunctionBuilder R) where
  abbrev here : ℕ
  here = next_place calls plain

  -- the calls that make a number, by the test
  abbrev HasMade : Bool → Type 0
  HasMade composed =
      IfOk answer (NamesAnswer at (map building (if composed
      then computing (Iconst (signed_64 number)) i64 [] ∷ computing (Iconst (signed_64 (number / 2 ^ 64))) i64 [] ∷ computing Concat i64 (answer_of here 1 ∷ answer_of (suc here) 1 ∷ []) ∷ []
      else constant_instructions s.ty (signed_64 number) here)) new (if composed then answer_of (suc (suc here)) 1 else constant_name s.ty here))

  pub composed_is : is_composed s.ty number ≡ true → HasMade true → HasMade (is_composed s.ty number)
  composed_is is made = subst HasMade (sym is) made

  pub plain_is : is_composed s.ty number ≡ false → HasMade false → HasMade (is_composed s.ty number)
  plain_is is made = subst HasMade (sym is) made

-- what arithmetic with a constant gives, at the type of a value
pub with_constant_gives : {R : Type 0} (old new : FunctionBuilder R) (shape : ℕ → InstructionData) (imm : ℤ) (like : ℕ) (ty held : «Type») (answer : Result ℕ BuildError) → like < length old.func.now.values
    → (value_at old.func.now like).ty ≡ ty → ((c : ℕ) → result_type_of (shape c) ty ≡ held) → BuildsWithConstant BuildsValue BuildsLike shape ty imm like old new answer → GivesValue held old new answer
with_constant_gives old new shape imm like ty held answer here is gives (inl (mid, constant, first, next)) =
    let went = constant_went old mid imm ty constant first in
    gives_then old mid new held answer went
    (gives_first mid new (shape constant) (value_at mid.func.now like).ty answer held (ap (result_type_of (shape constant)) (went.steps.types like here ∙ is) ∙ gives constant) next)
with_constant_gives old new shape imm like ty held answer here is gives (inr (e, first, failed)) =
    gives_failed old new held answer e e (constant_gives old new imm ty (Err e) first).steps failed refl
