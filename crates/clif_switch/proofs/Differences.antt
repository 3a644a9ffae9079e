-- The difference of the value and the first key of a range.
use Rattle.std.proofs.Common.{◌≡◌, ◌+◌, ◌-◌, ℕ, ℤ, suc, zero, true, false, Bool, List, [], ◌∷◌, ◌++◌, length, map, refl, sym, ◌∙◌, ap, subst, arith, append-nil}
use Rattle.std.specs.Prelude.{if◌then◌else◌, nat_lt, ◌&&◌, ◌^◌, Result, Ok, Err, IfOk}
use Rattle.std.proofs.lemmas.List.{length-append, map_push}
use Rattle.clif_opcodes.specs.declared.opcodes.BinaryOpcode.TheVariants.{Iadd, Isub}
use Rattle.clif_types.specs.Signature.{SignatureShape}
use Rattle.clif_types.specs.declared.error.BuildError.{BuildError}
use Rattle.clif_types.specs.declared.types.LaneType.TheVariants as lane
use Rattle.clif_types.specs.declared.types.«Type».{«Type»}
use Rattle.clif_types.specs.declared.types.«Type».TheVariants as type
use Rattle.clif_instructions.specs.declared.instructions.InstructionData.{InstructionData}
use Rattle.clif_meaning.specs.Instruction.{Arithmetic, Binary, Instruction}
use Rattle.clif_meaning.specs.Name.{Name, answer_of}
use Rattle.clif_meaning.specs.Request.{AnsweredCall, Script}
use Rattle.clif_builder.specs.declared.builder.FunctionBuilder.{FunctionBuilder}
use Rattle.clif_builder.specs.Ledger.{NamesValue}
use Rattle.clif_builder.specs.Built.{BuildsValue}
use Rattle.clif_builder.specs.LedgerLaws.{LedgerIsReadByNumber, RequestsAskForTheirShapes}
use Rattle.clif_constant_operands.specs.Chains.{BuildsWithConstant}
use Rattle.clif_constant_calls.specs.Stands.{BuildsLike, StandsBehind, StandsWith, type_in}
use Rattle.clif_expansion.specs.ConstantCalls.{constant_calls, constant_instructions, constant_name}
use Rattle.clif_expansion.specs.Constants.{computing, place_behind}
use Rattle.clif_expansion.specs.Emission.{building}
use Rattle.clif_switch_calls.specs.SwitchCalls.{Switched, difference, is_subtracted, is_widest, negated_64, with_number, with_number_name}
use Rattle.clif_switch.specs.Emission.{NamesAnswer, StandsAt, StandsOn, difference_calls, difference_named, next_place}
use Rattle.clif_switch.proofs.Compared.{named_with}
use Rattle.clif_switch.proofs.Names.{place_is}

-- where the constant ends
pub behind_is : (ty : «Type») (imm : ℤ) (place : ℕ) → place_behind ty place ≡ place + length (constant_instructions ty imm place)
behind_is (type.Lane lane.I128) imm place = omega arith
behind_is (type.Lane lane.I8) imm place = omega arith
behind_is (type.Lane lane.I16) imm place = omega arith
behind_is (type.Lane lane.I32) imm place = omega arith
behind_is (type.Lane lane.I64) imm place = omega arith
behind_is (type.Lane lane.F16) imm place = omega arith
behind_is (type.Lane lane.F32) imm place = omega arith
behind_is (type.Lane lane.F64) imm place = omega arith
behind_is (type.Lane lane.F128) imm place = omega arith
behind_is type.Invalid imm place = omega arith
behind_is (type.Vector l k) imm place = omega arith

-- nothing was called
unfoldable pub on_none : {R : Type 0} {signature : SignatureShape} {calls : List AnsweredCall} {s : Switched} {x otherwise : ℕ} {cases : List ℕ} {plain : Script} {old : FunctionBuilder R}
    (at : StandsAt signature calls s x otherwise cases plain old) → StandsOn at [] old
on_none {plain = plain} at = record {
  later = record {
    added = at.added;
    asked = at.asked ∙ sym (append-nil plain);
    stands = at.stands;
    value = at.value;
    typed = at.typed;
    otherwise_named = at.otherwise_named;
    cases_named = at.cases_named;
  };
  blocks_stay = λ name block names. names;
  values_stay = λ name value names. names;
}

module _ {R : Type 0} {signature : SignatureShape} {calls : List AnsweredCall} {s : Switched} {x otherwise : ℕ} {cases : List ℕ} {plain : Script} {old : FunctionBuilder R}
    (at : StandsAt signature calls s x otherwise cases plain old) where
  abbrev place : ℕ
  place = next_place calls plain

  none_at : NamesAnswer at [] old s.value x
  unfolding on_none
  none_at = record { on = on_none at; named = at.value }

  -- a range that starts at zero
  pub none_made : (first : ℕ) → first ≡ 0 → NamesAnswer at (difference_calls first s place) old (difference_named first s place) x
  none_made first is = subst (λ (n : ℕ). NamesAnswer at (difference_calls n s place) old (difference_named n s place) x) (sym is) none_at

  abbrev HasMade : ℕ → FunctionBuilder R → Result ℕ BuildError → Type 0
  HasMade first new answer = IfOk answer (NamesAnswer at (difference_calls first s place) new (difference_named first s place))

  -- by the test of a range that starts above
  by_test : (first : ℕ) (new : FunctionBuilder R) (answer : Result ℕ BuildError) (line : List (Instruction Name Name)) (name : Name) → difference s.ty (suc first) place s.value ≡ line
      → answer_of (place + (length line - 1)) 1 ≡ name → IfOk answer (NamesAnswer at (map building line) new name) → HasMade (suc first) new answer
  by_test first new answer line name is named made =
      subst (λ (l : List (Instruction Name Name)). IfOk answer (NamesAnswer at (map building l) new (answer_of (place + (length l - 1)) 1))) (sym is)
      (subst (λ (n : Name). IfOk answer (NamesAnswer at (map building line) new n)) (sym named) made)

  last_place : {X : Type 0} (xs : List X) (y : X) → place + (length (xs ++ y ∷ []) - 1) ≡ place + length xs
  last_place xs y = let is = length-append xs (y ∷ []) in omega (arith, is)

  pub subtracted_made : (first : ℕ) (new : FunctionBuilder R) (answer : Result ℕ BuildError) → (first ≡ 0 → ⊥) → is_subtracted s.ty first ≡ true
      → IfOk answer (NamesAnswer at (map building (with_number (Binary Isub) s.ty first place s.value)) new (with_number_name s.ty first place)) → HasMade first new answer
  subtracted_made zero new answer some is made = absurd (some refl)
  subtracted_made (suc first) new answer some is made =
      by_test first new answer (with_number (Binary Isub) s.ty (suc first) place s.value) (with_number_name s.ty (suc first) place)
      (ap (λ (b : Bool). if b then with_number (Binary Isub) s.ty (suc first) place s.value
      else constant_instructions s.ty (negated_64 (suc first)) place ++ computing (Binary Iadd) s.ty (s.value ∷ constant_name s.ty place ∷ []) ∷ []) is)
      (ap (λ (p : ℕ). answer_of p 1) (last_place _ _)) made

  pub summed_made : (first : ℕ) (new : FunctionBuilder R) (answer : Result ℕ BuildError) → (first ≡ 0 → ⊥) → is_subtracted s.ty first ≡ false → place_behind s.ty place ≡ place + length (constant_instructions s.ty (negated_64 first) place)
      → IfOk answer (NamesAnswer at (constant_calls (Binary Iadd) s.ty (negated_64 first) place s.value) new (answer_of (place_behind s.ty place) 1)) → HasMade first new answer
  summed_made zero new answer some is behind made = absurd (some refl)
  summed_made (suc first) new answer some is behind made =
      let line = constant_instructions s.ty (negated_64 (suc first)) place in
      let last : Instruction Name Name = computing (Binary Iadd) s.ty (s.value ∷ constant_name s.ty place ∷ []) in
      by_test first new answer (line ++ last ∷ []) (answer_of (place_behind s.ty place) 1)
      (ap (λ (b : Bool). if b then with_number (Binary Isub) s.ty (suc first) place s.value else line ++ last ∷ []) is)
      (ap (λ (p : ℕ). answer_of p 1) (last_place line last ∙ sym behind))
      (subst (λ (script : Script). IfOk answer (NamesAnswer at script new (answer_of (place_behind s.ty place) 1))) (sym (map_push building line last)) made)

-- at which type a first key is subtracted
pub subtracted_is : (ty held : «Type») (first : ℕ) → ty ≡ held → is_widest held ≡ true → nat_lt (2 ^ 63) first ≡ true → is_subtracted ty first ≡ true
subtracted_is ty held first same wide great = ap (λ (b : Bool). b && nat_lt (2 ^ 63) first) (ap is_widest same ∙ wide) ∙ great

pub narrow_summed : (ty held : «Type») (first : ℕ) → ty ≡ held → is_widest held ≡ false → is_subtracted ty first ≡ false
narrow_summed ty held first same narrow = ap (λ (b : Bool). b && nat_lt (2 ^ 63) first) (ap is_widest same ∙ narrow)

pub small_summed : (ty : «Type») (first : ℕ) → nat_lt (2 ^ 63) first ≡ false → is_subtracted ty first ≡ false
small_summed ty first small = by (is_widest ty)
  where
    by : (b : Bool) → (b && nat_lt (2 ^ 63) first) ≡ false
    by true = small
    by false = refl

-- arithmetic with a constant of 64 bits on a named value
pub with_constant_made : {R : Type 0} (reads : LedgerIsReadByNumber) (asks : RequestsAskForTheirShapes) {signature : SignatureShape} {calls : List AnsweredCall} {s : Switched} {x otherwise : ℕ} {cases : List ℕ} {plain : Script} {old : FunctionBuilder R}
    (at : StandsAt signature calls s x otherwise cases plain old) (new : FunctionBuilder R) (arithmetic : Arithmetic) (shape : ℕ → ℕ → InstructionData) → StandsBehind R arithmetic shape → (name : Name) (y : ℕ) (imm : ℤ) (ty : «Type») (answer : Result ℕ BuildError)
    → NamesValue (calls ++ at.added) name y → type_in old y ≡ ty → BuildsWithConstant BuildsValue BuildsLike (shape y) (type_in old y) imm y old new answer
    → IfOk answer (NamesAnswer at (constant_calls arithmetic ty imm (next_place calls plain) name) new (answer_of (place_behind ty (next_place calls plain)) 1))
with_constant_made reads asks at new arithmetic shape law name y imm ty (Err e) names same builds = tt
with_constant_made reads asks {signature = signature} {calls = calls} {plain = plain} {old = old} at new arithmetic shape law name y imm ty (Ok v) names same builds =
    named_with reads asks at (constant_calls arithmetic ty imm (next_place calls plain) name) (answer_of (place_behind ty (next_place calls plain)) 1) new v
    (subst (λ (t : «Type»). StandsWith signature (calls ++ at.added) (constant_calls arithmetic t imm (next_place calls plain) name) (answer_of (place_behind t (next_place calls plain)) 1) new v) same
    (subst (λ (p : ℕ). StandsWith signature (calls ++ at.added) (constant_calls arithmetic (type_in old y) imm p name) (answer_of (place_behind (type_in old y) p) 1) new v) (place_is reads at)
    (law signature (calls ++ at.added) old new name y imm (Ok v) at.stands names builds)))
