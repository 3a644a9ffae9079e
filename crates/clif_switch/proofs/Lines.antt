-- Values that are built one behind the other.
use Rattle.std.proofs.Common.{◌≡◌, ℕ, List, [], ◌∷◌, ◌++◌, length, refl, subst, append_assoc}
use Rattle.std.specs.Prelude.{Ok}
use Rattle.clif_types.specs.Signature.{SignatureShape}
use Rattle.clif_types.specs.declared.types.«Type».{«Type»}
use Rattle.clif_instructions.specs.declared.instructions.InstructionData.{InstructionData}
use Rattle.clif_meaning.specs.Instruction.{Arithmetic}
use Rattle.clif_meaning.specs.Name.{Name, answer_of}
use Rattle.clif_meaning.specs.Request.{AnsweredCall, Script}
use Rattle.clif_builder.specs.declared.builder.FunctionBuilder.{FunctionBuilder}
use Rattle.clif_builder.specs.Built.{BuildsValue, numbers_with}
use Rattle.clif_builder.specs.Calls.{answered}
use Rattle.clif_builder.specs.Ledger.{NamesValue}
use Rattle.clif_builder.specs.LedgerLaws.{AsksForShape, LedgerIsReadByNumber}
use Rattle.clif_expansion.specs.Constants.{computing}
use Rattle.clif_expansion.specs.Emission.{building}
use Rattle.clif_expansion.specs.ScriptCall.{emitted_types}
use Rattle.clif_constant_calls.proofs.Standing.{named_last, stands_on}
use Rattle.clif_switch_calls.specs.SwitchCalls.{Switched}
use Rattle.clif_switch.specs.Emission.{NamesAnswer, StandsAt, StandsOn, next_place}
use Rattle.clif_switch.proofs.Names.{place_is, stands_behind}

module _ {R : Type 0} (reads : LedgerIsReadByNumber) {signature : SignatureShape} {calls : List AnsweredCall} {s : Switched} {x otherwise : ℕ} {cases : List ℕ} {plain : Script} {old : FunctionBuilder R}
    (at : StandsAt signature calls s x otherwise cases plain old) where
  -- one value
  pub value_built : (new : FunctionBuilder R) (shape : InstructionData) (ty held answer : «Type») (value : ℕ) (arithmetic : Arithmetic) (operands : List Name) → BuildsValue old new shape ty (Ok value)
      → AsksForShape (calls ++ at.added) old.func.now (building (computing arithmetic held operands)) shape ty → emitted_types (computing arithmetic held operands) ≡ answer ∷ []
      → NamesAnswer at (building (computing arithmetic held operands) ∷ []) new (answer_of (next_place calls plain) 1) value
  unfolding stands_behind
  value_built new shape ty held answer value arithmetic operands builds asks gives =
      let call : AnsweredCall = answered (building (computing arithmetic held operands)) (numbers_with old value) in
      let on : StandsOn at (building (computing arithmetic held operands) ∷ []) new =
      stands_behind reads at (call ∷ []) (building (computing arithmetic held operands) ∷ []) new refl
      (stands_on signature (calls ++ at.added) old new shape ty value (building (computing arithmetic held operands)) at.stands builds asks) in
      record {
        on = on;
        named = subst (λ (list : List AnsweredCall). NamesValue list (answer_of (next_place calls plain) 1) value) (append_assoc calls at.added (call ∷ []))
            (subst (λ (place : ℕ). NamesValue ((calls ++ at.added) ++ call ∷ []) (answer_of place 1) value) (place_is reads at)
            (named_last (calls ++ at.added) arithmetic held answer operands (length old.func.now.insts) value gives));
      }
