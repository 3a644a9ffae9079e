-- A sum with a constant, or a comparison with one, is one call of a script for a builder that stood for its calls.
use Rattle.std.proofs.Common.{◌≡◌, ◌+◌, ℕ, ℤ, suc, List, [], ◌∷◌, ◌++◌, length, ap, arith, subst, sym, ◌∙◌}
use Rattle.std.specs.Prelude.{Err, IfOk, IsTrue, Ok, Result}
use Rattle.clif_types.specs.Signature.{SignatureShape}
use Rattle.clif_types.specs.declared.condcodes.IntCC.{IntCC}
use Rattle.clif_types.specs.declared.error.BuildError.{BuildError}
use Rattle.clif_types.specs.declared.target.PointerWidth.{PointerWidth}
use Rattle.clif_types.specs.declared.types.LaneType.TheVariants as lane
use Rattle.clif_types.specs.declared.types.«Type».{«Type»}
use Rattle.clif_types.specs.declared.types.«Type».TheVariants as type
use Rattle.clif_instructions.specs.declared.instructions.InstructionData.{InstructionData}
use Rattle.clif_meaning.specs.Headline.{pointer_bits}
use Rattle.clif_meaning.specs.Instruction.{Arithmetic, Instruction}
use Rattle.clif_meaning.specs.Ledger.{Ledger}
use Rattle.clif_meaning.specs.Name.{Name, answer_of}
use Rattle.clif_meaning.specs.Request.{Script, script_of}
use Rattle.clif_expansion.specs.ConstantCalls.{IsPerformedByConstant, constant_calls, constant_instructions}
use Rattle.clif_expansion.specs.Constants.{place_behind}
use Rattle.clif_expansion.specs.Emission.{AreGiven, reading_emitted}
use Rattle.clif_expansion.specs.Reading.{Reading}
use Rattle.clif_expansion.specs.ScriptCall.{ScriptCall, call_allowed, ledger_of}
use Rattle.clif_expansion.proofs.EmittedPrograms.{emitted_before, emitted_result}
use Rattle.clif_expansion.proofs.Joins.{KeepsReading}
use Rattle.clif_expansion.proofs.PerformedConstants.{constant_calls_are_performed}
use Rattle.clif_simulation.proofs.LedgerValues.{as_many}
use Rattle.clif_builder.specs.declared.builder.FunctionBuilder.{FunctionBuilder}
use Rattle.clif_builder.specs.StandsForCalls.{LeadsToValue, StandsForCalls, StandsOnFor}
use Rattle.clif_builder.specs.Built.{BuildsValue}
use Rattle.clif_builder.proofs.StandingForCalls.{PlainCalls, goes_on, ledgers_joined, plain_ledger}
use Rattle.clif_constant_operands.specs.Chains.{BuildsWithConstant}
use Rattle.clif_constant_calls.specs.Calls.{ConstantsStandForCalls, StandsAsOne, emitting}
use Rattle.clif_constant_calls.specs.Stands.{BuildsLike, ConstantOperandsStand, StandsBehind, StandsWith, type_in}

one_more : (n : ℕ) → suc n ≡ n + 1
one_more n = omega arith

two_more : (n : ℕ) → suc (suc n) ≡ n + 2
two_more n = omega arith

-- the arithmetic's place, behind the constant
pub place_is : (ty : «Type») (imm : ℤ) (n : ℕ) → place_behind ty n ≡ n + length (constant_instructions ty imm n)
place_is (type.Lane lane.I128) imm n = two_more n
place_is (type.Lane lane.I8) imm n = one_more n
place_is (type.Lane lane.I16) imm n = one_more n
place_is (type.Lane lane.I32) imm n = one_more n
place_is (type.Lane lane.I64) imm n = one_more n
place_is (type.Lane lane.F16) imm n = one_more n
place_is (type.Lane lane.F32) imm n = one_more n
place_is (type.Lane lane.F64) imm n = one_more n
place_is (type.Lane lane.F128) imm n = one_more n
place_is type.Invalid imm n = one_more n
place_is (type.Vector l k) imm n = one_more n

module _ {R : Type 0} (arithmetic : Arithmetic) (whole : ℤ → Arithmetic) (shape : ℕ → ℕ → InstructionData) (stands : StandsBehind R arithmetic shape)
    (performs : (number : ℤ) → IsPerformedByConstant arithmetic (whole number) number) where
  as_one : StandsAsOne R whole shape
  as_one width declared calls old new before name x imm (Err error) leads may built = tt
  as_one width declared calls old new before name x imm (Ok value) leads may built = (
    goes_on before (emitting old (whole imm) name x) with_calls.added later new kept may plain with_calls.stands,
    record {
      plain = answer_of (place_behind ty (length before.made)) 1;
      read = emitted_result before.reading (plain_ledger before) (ledger_of calls) code (place_behind ty (length before.made)) 0
          (place_is ty imm (length before.made) ∙ ap (λ (n : ℕ). n + length (constant_instructions ty imm n)) (sym many));
      named = with_calls.named;
    },
  )
    where
      ty : «Type»
      ty = type_in old x

      many : length (plain_ledger before).answers ≡ length before.made
      many = as_many before.made

      code : List (Instruction Name Name)
      code = constant_instructions ty imm (length (plain_ledger before).answers)

      later : Reading
      later = reading_emitted before.reading (plain_ledger before) (ledger_of calls) code

      with_calls : StandsWith declared before.made (constant_calls arithmetic ty imm (length before.made) leads.plain) (answer_of (place_behind ty (length before.made)) 1) new value
      with_calls = stands declared before.made old new leads.plain x imm (Ok value) before.stands leads.named built

      kept : KeepsReading before.reading later
      kept y n read = emitted_before AreGiven before.reading (plain_ledger before) (ledger_of calls) code y ((ledgers_joined before).made y n read).0 ∙ read

      plain : PlainCalls width later (script_of before.made ++ script_of with_calls.added) (calls ++ emitting old (whole imm) name x ∷ [])
      plain = subst (λ (added : Script). PlainCalls width later (script_of before.made ++ added) (calls ++ emitting old (whole imm) name x ∷ []))
          (ap (λ (n : ℕ). constant_calls arithmetic ty imm n leads.plain) many ∙ sym with_calls.asked) (
            (performs imm).joined before.reading (script_of before.made) calls ty leads.plain name before.joined may,
            (performs imm).performed (pointer_bits width) before.reading (script_of before.made) calls ty leads.plain name before.joined before.performed leads.read may,
          )

pub stand_for_calls : {R : Type 0} → ConstantOperandsStand R → ConstantsStandForCalls R
stand_for_calls stand = record {
  adds = as_one _ _ _ stand.adds constant_calls_are_performed.adds;
  compares = λ condition. as_one _ _ _ (stand.compares condition) (constant_calls_are_performed.compares condition);
}
