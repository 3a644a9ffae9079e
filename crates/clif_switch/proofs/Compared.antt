-- Arithmetic on a number, and branches.
use Rattle.std.proofs.Common.{◌≡◌, ◌+◌, ℕ, List, [], ◌∷◌, ◌++◌, length, map, sym, ◌∙◌, ap, subst, append_assoc}
use Rattle.std.specs.Prelude.{Result, Ok, Err, IfOk}
use Rattle.std.proofs.lemmas.List.{length-map, map_push}
use Rattle.clif_types.specs.Signature.{SignatureShape}
use Rattle.clif_types.specs.declared.error.BuildError.{BuildError}
use Rattle.clif_types.specs.declared.types.«Type».{«Type»}
use Rattle.clif_types.specs.declared.types.«Type».TheVariants as type
use Rattle.clif_instructions.specs.declared.instructions.InstructionData.{InstructionData}
use Rattle.clif_inst_builder.specs.Shapes as shapes
use Rattle.clif_meaning.specs.Instruction.{Arithmetic, Instruction}
use Rattle.clif_meaning.specs.Ledger.{or_invalid, type_of}
use Rattle.clif_meaning.specs.Name.{Name}
use Rattle.clif_meaning.specs.Request.{AnsweredCall, Build, Request, Script}
use Rattle.clif_builder.specs.declared.builder.FunctionBuilder.{FunctionBuilder}
use Rattle.clif_builder.specs.Built.{Builds, BuildsValue, numbers_of}
use Rattle.clif_builder.specs.Calls.{answered}
use Rattle.clif_builder.specs.Ledger.{NamesBlock, NamesValue, ledger_of}
use Rattle.clif_builder.specs.LedgerLaws.{AsksForShape, LedgerIsReadByNumber, RequestsAskForTheirShapes}
use Rattle.clif_constant_calls.specs.Stands.{StandsWith}
use Rattle.clif_expansion.specs.Constants.{computing}
use Rattle.clif_expansion.specs.Emission.{building}
use Rattle.clif_expansion.specs.ScriptCall.{emitted_types}
use Rattle.clif_switch_calls.specs.SwitchCalls.{Switched, bare_edge, branching, number_instructions, with_number, with_number_name}
use Rattle.clif_switch.specs.Emission.{NamesAnswer, StandsAt, StandsOn, next_place, number_calls, number_named}
use Rattle.clif_switch.proofs.Lines.{value_built}
use Rattle.clif_switch.proofs.Names.{stands_behind}
use Rattle.clif_switch.proofs.Numbers.{asks_here, place_after, value_then}

module _ {R : Type 0} (reads : LedgerIsReadByNumber) (asks : RequestsAskForTheirShapes) {signature : SignatureShape} {calls : List AnsweredCall} {s : Switched} {x otherwise : ℕ} {cases : List ℕ} {plain : Script} {old : FunctionBuilder R}
    (at : StandsAt signature calls s x otherwise cases plain old) where
  abbrev place : ℕ
  place = next_place calls plain

  -- calls that are known otherwise
  pub named_with : (more : Script) (name : Name) (new : FunctionBuilder R) (v : ℕ) → StandsWith signature (calls ++ at.added) more name new v → NamesAnswer at more new name v
  unfolding stands_behind
  named_with more name new v with = record {
    on = stands_behind reads at with.added more new with.asked with.stands;
    named = subst (λ (list : List AnsweredCall). NamesValue list name v) (append_assoc calls at.added with.added) with.named;
  }

  -- arithmetic on the value and a number that was made before
  pub with_number_made : (mid new : FunctionBuilder R) (number k : ℕ) (arithmetic : Arithmetic) (shape : InstructionData) (ty answer_type : «Type») (answer : Result ℕ BuildError)
      → (made : NamesAnswer at (number_calls number s place) mid (number_named number s place) k) → BuildsValue mid new shape ty answer
      → AsksForShape (calls ++ made.on.later.added) mid.func.now (building (computing arithmetic s.ty (s.value ∷ number_named number s place ∷ []))) shape ty
      → emitted_types (computing arithmetic s.ty (s.value ∷ number_named number s place ∷ [])) ≡ answer_type ∷ []
      → IfOk answer (NamesAnswer at (map building (with_number arithmetic s.ty number place s.value)) new (with_number_name s.ty number place))
  with_number_made mid new number k arithmetic shape ty answer_type (Err e) made builds asked gives = tt
  with_number_made mid new number k arithmetic shape ty answer_type (Ok v) made builds asked gives =
      let line : List (Instruction Name Name) = number_instructions s.ty number place in
      let last : Instruction Name Name = computing arithmetic s.ty (s.value ∷ number_named number s place ∷ []) in
      subst (λ (script : Script). NamesAnswer at script new (with_number_name s.ty number place) v) (sym (map_push building line last))
      (value_then at (map building line) (building last ∷ []) new (place + length line) 1 v (place_after calls plain (map building line) ∙ ap (λ (n : ℕ). place + n) (length-map line building)) made.on
      (value_built reads made.on.later new shape ty s.ty answer_type v arithmetic (s.value ∷ number_named number s place ∷ []) builds asked gives))

  -- a branch on a value
  pub branch_made : (new : FunctionBuilder R) (ty : «Type») (name t o : Name) (v taken other inst : ℕ) → NamesValue (calls ++ at.added) name v → or_invalid (type_of (ledger_of (calls ++ at.added)) name) ≡ ty
      → NamesBlock (calls ++ at.added) t taken → NamesBlock (calls ++ at.added) o other → Builds old new (shapes.brif_to v taken [] other []) type.Invalid (Ok inst)
      → StandsOn at (branching ty name t o ∷ []) new
  branch_made new ty name t o v taken other inst names held tn on builds =
      let asked = (asks_here reads asks at).brif name v (bare_edge t) (bare_edge o) (shapes.edge_to taken []) (shapes.edge_to other []) names (record { target = tn; arguments = tt }) (record { target = on; arguments = tt }) in
      stands_behind reads at (answered (Build asked.0 asked.1) (numbers_of new inst) ∷ []) (branching ty name t o ∷ []) new
      (ap (λ (r : Request). r ∷ []) (sym asked.2 ∙ ap (λ (c : «Type»). branching c name t o) held)) (builds.stands signature (calls ++ at.added) asked.0 asked.1 at.stands asked.3)
