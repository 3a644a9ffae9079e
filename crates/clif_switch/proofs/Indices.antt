-- A comparison of a named value with the greatest index.
use Rattle.std.proofs.Common.{◌≡◌, ◌≤◌, ◌+◌, ℕ, ℤ, suc, true, false, Bool, List, [], ◌∷◌, ◌++◌, length, map, refl, sym, ◌∙◌, ap, subst, arith, append_assoc, None}
use Rattle.std.specs.Prelude.{if◌then◌else◌, ◌/◌, ◌-◌, ◌^◌, ◌==◌, nat_lt, replicate, Result, Ok, Err, IfOk}
use Rattle.std.proofs.lemmas.List.{length-append, map_push}
use Rattle.clif_opcodes.specs.declared.opcodes.ConvertOpcode.TheVariants.{Ireduce, Uextend}
use Rattle.clif_types.specs.Signature.{SignatureShape}
use Rattle.clif_types.specs.Types.{bits_of}
use Rattle.clif_types.specs.declared.condcodes.IntCC.TheVariants.{UnsignedGreaterThan}
use Rattle.clif_types.specs.declared.error.BuildError.{BuildError}
use Rattle.clif_types.specs.declared.types.«Type».{«Type»}
use Rattle.clif_inst_builder.specs.Shapes as shapes
use Rattle.clif_instructions.specs.declared.instructions.InstructionData.{InstructionData}
use Rattle.clif_meaning.specs.Instruction.{Arithmetic, Compare, Concat, Convert, Iconst, Instruction}
use Rattle.clif_meaning.specs.Name.{Name, answer_of}
use Rattle.clif_meaning.specs.Request.{AnsweredCall, CreateBlock, Request, SealBlock, SwitchToBlock, Script}
use Rattle.clif_builder.specs.declared.builder.FunctionBuilder.{FunctionBuilder}
use Rattle.clif_builder.specs.Built.{BuildsValue}
use Rattle.clif_builder.specs.Ledger.{NamesValue}
use Rattle.clif_builder.specs.LedgerLaws.{LedgerIsReadByNumber, RequestsAskForTheirShapes}
use Rattle.clif_constant_operands.specs.Chains.{BuildsWithConstant}
use Rattle.clif_constant_calls.specs.Stands.{BuildsLike, StandsBehind, type_in}
use Rattle.clif_expansion.specs.ConstantCalls.{constant_instructions, constant_name}
use Rattle.clif_expansion.specs.Constants.{computing, i64}
use Rattle.clif_expansion.specs.Emission.{building}
use Rattle.clif_switch_calls.specs.SwitchCalls.{Switched, branching, i8, i32, index_calls, index_name, is_composed, signed_64, with_number, with_number_name}
use Rattle.clif_switch.specs.Emission.{GivesValue, IsEntered, LeavesBlocks, NamesAnswer, StandsAt, StandsOn, Steps, check_calls, next_place}
use Rattle.clif_switch.proofs.Blocks.{some_same}
use Rattle.clif_switch.proofs.Differences.{behind_is, on_none, with_constant_made}
use Rattle.clif_switch.proofs.Lines.{value_built}
use Rattle.clif_switch.proofs.Numbers.{asks_here, place_after, value_then}
use Rattle.clif_switch.proofs.Steps.{leaves_on, steps_on}
use Rattle.clif_switch.proofs.Values.{done}

-- arithmetic on a named value and the constant of a number that isn't composed
pub small_made : {R : Type 0} (reads : LedgerIsReadByNumber) (asks : RequestsAskForTheirShapes) {signature : SignatureShape} {calls : List AnsweredCall} {s : Switched} {x otherwise : ℕ} {cases : List ℕ} {plain : Script} {old : FunctionBuilder R}
    (at : StandsAt signature calls s x otherwise cases plain old) (new : FunctionBuilder R) (arithmetic : Arithmetic) (shape : ℕ → ℕ → InstructionData) → StandsBehind R arithmetic shape → (name : Name) (y number place : ℕ) (imm : ℤ) (answer : Result ℕ BuildError)
    → next_place calls plain ≡ place → signed_64 number ≡ imm → is_composed s.ty number ≡ false → NamesValue (calls ++ at.added) name y → type_in old y ≡ s.ty → BuildsWithConstant BuildsValue BuildsLike (shape y) (type_in old y) imm y old new answer
    → IfOk answer (NamesAnswer at (map building (with_number arithmetic s.ty number place name)) new (with_number_name s.ty number place))
small_made reads asks at new arithmetic shape law name y number place imm (Err e) here is simple names same builds = tt
small_made reads asks {calls = calls} {s = s} {plain = plain} at new arithmetic shape law name y number place imm (Ok v) here is simple names same builds =
    subst Made here
    (subst (By (next_place calls plain)) (sym simple)
    (subst (λ (i : ℤ). NamesAnswer at (map building (constant_instructions s.ty i (next_place calls plain) ++ computing arithmetic s.ty (name ∷ constant_name s.ty (next_place calls plain) ∷ []) ∷ [])) new
    (answer_of (next_place calls plain + length (constant_instructions s.ty i (next_place calls plain))) 1) v) (sym is)
    (subst (λ (script : Script). NamesAnswer at script new (answer_of (next_place calls plain + length line) 1) v) (sym (map_push building line last))
    (subst (λ (p : ℕ). NamesAnswer at (map building line ++ building last ∷ []) new (answer_of p 1) v) (behind_is s.ty imm (next_place calls plain))
    (with_constant_made reads asks at new arithmetic shape law name y imm s.ty (Ok v) names same builds)))))
  where
    line : List (Instruction Name Name)
    line = constant_instructions s.ty imm (next_place calls plain)

    last : Instruction Name Name
    last = computing arithmetic s.ty (name ∷ constant_name s.ty (next_place calls plain) ∷ [])

    halves : ℕ → List (Instruction Name Name)
    halves p = computing (Iconst (signed_64 number)) i64 [] ∷ computing (Iconst (signed_64 (number / 2 ^ 64))) i64 [] ∷ computing Concat i64 (answer_of p 1 ∷ answer_of (suc p) 1 ∷ []) ∷ []

    By : (p : ℕ) → Bool → Type 0
    By p composed =
        NamesAnswer at (map building ((if composed then halves p else constant_instructions s.ty (signed_64 number) p) ++ computing arithmetic s.ty (name ∷ (if composed then answer_of (suc (suc p)) 1 else constant_name s.ty p) ∷ []) ∷ [])) new
        (answer_of (p + length (if composed then halves p else constant_instructions s.ty (signed_64 number) p)) 1) v

    Made : (p : ℕ) → Type 0
    Made p = NamesAnswer at (map building (with_number arithmetic s.ty number p name)) new (with_number_name s.ty number p) v

-- INDICES -----------------------------------------------------------------------------------------------------------------

module _ {R : Type 0} {signature : SignatureShape} {calls : List AnsweredCall} {s : Switched} {x otherwise : ℕ} {cases : List ℕ} {plain : Script} {old : FunctionBuilder R}
    (at : StandsAt signature calls s x otherwise cases plain old) where
  abbrev place : ℕ
  place = next_place calls plain

  -- the calls before the value is made narrower
  abbrev pub before : Name → Script
  before y = check_calls s place y ++ SealBlock (answer_of place 0) ∷ SwitchToBlock (answer_of place 0) ∷ []

  abbrev narrowed : Name → Request
  narrowed y = building (computing (Convert Ireduce) i32 (y ∷ []))

  abbrev compare : Name → Script
  compare y = map building (with_number (Compare UnsignedGreaterThan) s.ty (2 ^ 32 - 1) (suc place) y)

  abbrev branch : Request
  branch = branching i8 (with_number_name s.ty (2 ^ 32 - 1) (suc place)) s.otherwise (answer_of place 0)

  abbrev Rest : Script
  Rest = SealBlock (answer_of place 0) ∷ SwitchToBlock (answer_of place 0) ∷ []

  -- how the calls of a wide index stand
  parts : (y : Name) → before y ++ narrowed y ∷ [] ≡ CreateBlock ∷ compare y ++ branch ∷ SealBlock (answer_of place 0) ∷ SwitchToBlock (answer_of place 0) ∷ narrowed y ∷ []
  parts y = append_assoc (check_calls s place y) Rest (narrowed y ∷ []) ∙ ap (λ (script : Script). CreateBlock ∷ script) (append_assoc (compare y) (branch ∷ []) (Rest ++ narrowed y ∷ []))

  wide_calls : (y : Name) → nat_lt 32 (bits_of s.ty) ≡ true → index_calls s place y ≡ before y ++ narrowed y ∷ []
  wide_calls y wide =
      ap (λ (b : Bool). if b then CreateBlock ∷ compare y ++ branch ∷ SealBlock (answer_of place 0) ∷ SwitchToBlock (answer_of place 0) ∷ narrowed y ∷ []
      else (if nat_lt (bits_of s.ty) 32 then building (computing (Convert Uextend) i32 (y ∷ [])) ∷ [] else [])) wide ∙ sym (parts y)

  last_is : {X : Type 0} (xs : List X) (y : X) → place + (length (xs ++ y ∷ []) - 1) ≡ place + length xs
  last_is xs y = let is = length-append xs (y ∷ []) in omega (arith, is)

  wide_name : (y : Name) → nat_lt 32 (bits_of s.ty) ≡ true → (bits_of s.ty == 32) ≡ false → index_name s place y ≡ answer_of (place + length (before y)) 1
  wide_name y wide other =
      ap (λ (b : Bool). if b then y else answer_of (place + (length (index_calls s place y) - 1)) 1) other
      ∙ ap (λ (script : Script). answer_of (place + (length script - 1)) 1) (wide_calls y wide) ∙ ap (λ (p : ℕ). answer_of p 1) (last_is (before y) (narrowed y))

  pub wide_made : (reads : LedgerIsReadByNumber) (asks : RequestsAskForTheirShapes) (mid new : FunctionBuilder R) (y : Name) (operand : ℕ) (answer : Result ℕ BuildError) → nat_lt 32 (bits_of s.ty) ≡ true → (bits_of s.ty == 32) ≡ false
      → (on : StandsOn at (before y) mid) → NamesValue (calls ++ on.later.added) y operand → BuildsValue mid new (shapes.convert Ireduce operand) i32 answer
      → IfOk answer (NamesAnswer at (index_calls s place y) new (index_name s place y))
  wide_made reads asks mid new y operand (Err e) wide other on names builds = tt
  wide_made reads asks mid new y operand (Ok v) wide other on names builds =
      subst (λ (script : Script). NamesAnswer at script new (index_name s place y) v) (sym (wide_calls y wide))
      (subst (λ (name : Name). NamesAnswer at (before y ++ narrowed y ∷ []) new name v) (sym (wide_name y wide other))
      (value_then at (before y) (narrowed y ∷ []) new (place + length (before y)) 1 v (place_after calls plain (before y)) on
      (value_built reads on.later new (shapes.convert Ireduce operand) i32 i32 i32 v (Convert Ireduce) (y ∷ []) builds ((asks_here reads asks on.later).convert Ireduce i32 y operand names) refl)))

  narrow_calls : (y : Name) → nat_lt 32 (bits_of s.ty) ≡ false → nat_lt (bits_of s.ty) 32 ≡ true → index_calls s place y ≡ building (computing (Convert Uextend) i32 (y ∷ [])) ∷ []
  narrow_calls y wide narrow =
      ap (λ (b : Bool). if b then CreateBlock ∷ compare y ++ branch ∷ SealBlock (answer_of place 0) ∷ SwitchToBlock (answer_of place 0) ∷ narrowed y ∷ []
      else (if nat_lt (bits_of s.ty) 32 then building (computing (Convert Uextend) i32 (y ∷ [])) ∷ [] else [])) wide
      ∙ ap (λ (b : Bool). if b then building (computing (Convert Uextend) i32 (y ∷ [])) ∷ [] else []) narrow

  pub narrow_made : (reads : LedgerIsReadByNumber) (asks : RequestsAskForTheirShapes) (new : FunctionBuilder R) (y : Name) (operand : ℕ) (answer : Result ℕ BuildError) → nat_lt 32 (bits_of s.ty) ≡ false → nat_lt (bits_of s.ty) 32 ≡ true
      → (bits_of s.ty == 32) ≡ false → NamesValue (calls ++ at.added) y operand → BuildsValue old new (shapes.convert Uextend operand) i32 answer
      → IfOk answer (NamesAnswer at (index_calls s place y) new (index_name s place y))
  narrow_made reads asks new y operand (Err e) wide narrow other names builds = tt
  narrow_made reads asks new y operand (Ok v) wide narrow other names builds =
      let is = narrow_calls y wide narrow in
      let name : index_name s place y ≡ answer_of place 1 =
      ap (λ (b : Bool). if b then y else answer_of (place + (length (index_calls s place y) - 1)) 1) other
      ∙ ap (λ (script : Script). answer_of (place + (length script - 1)) 1) is ∙ ap (λ (p : ℕ). answer_of p 1) (omega arith) in
      subst (λ (script : Script). NamesAnswer at script new (index_name s place y) v) (sym is)
      (subst (λ (n : Name). NamesAnswer at (building (computing (Convert Uextend) i32 (y ∷ [])) ∷ []) new n v) (sym name)
      (value_built reads at new (shapes.convert Uextend operand) i32 i32 i32 v (Convert Uextend) (y ∷ []) builds ((asks_here reads asks at).convert Uextend i32 y operand names) refl))

  pub index_is : (y : Name) (operand : ℕ) → nat_lt 32 (bits_of s.ty) ≡ false → nat_lt (bits_of s.ty) 32 ≡ false → (bits_of s.ty == 32) ≡ true → NamesValue (calls ++ at.added) y operand
      → NamesAnswer at (index_calls s place y) old (index_name s place y) operand
  unfolding on_none
  index_is y operand wide narrow same names =
      let is : index_calls s place y ≡ [] =
      ap (λ (b : Bool). if b then CreateBlock ∷ compare y ++ branch ∷ SealBlock (answer_of place 0) ∷ SwitchToBlock (answer_of place 0) ∷ narrowed y ∷ []
      else (if nat_lt (bits_of s.ty) 32 then building (computing (Convert Uextend) i32 (y ∷ [])) ∷ [] else [])) wide
      ∙ ap (λ (b : Bool). if b then building (computing (Convert Uextend) i32 (y ∷ [])) ∷ [] else []) narrow in
      let name : index_name s place y ≡ y = ap (λ (b : Bool). if b then y else answer_of (place + (length (index_calls s place y) - 1)) 1) same in
      subst (λ (script : Script). NamesAnswer at script old (index_name s place y) operand) (sym is)
      (subst (λ (n : Name). NamesAnswer at [] old n operand) (sym name) (record { on = on_none at; named = names }))

-- WHERE A BLOCK WAS ENTERED ------------------------------------------------------------------------------------------------

-- behind code that ends in a block, another one is entered that is new
pub leaves_entered : {R : Type 0} (old mid new : FunctionBuilder R) (block : ℕ) → LeavesBlocks old mid → IsEntered block mid new → length old.func.now.blocks ≤ block → LeavesBlocks old new
leaves_entered old mid new block leaves entered later = record {
  seals = λ b inside. entered.seals b (λ is. omega (arith, is, inside, later)) ∙ leaves.seals b inside;
  waits = λ b inside. entered.waits b (λ is. omega (arith, is, inside, later)) ∙ leaves.waits b inside;
  fills = λ b inside other filled. leaves.fills b inside other (entered.fills b filled);
  position = λ b inside at. let same = some_same block b (sym entered.position ∙ at) in absurd (omega (arith, same, inside, later));
}

pub gives_behind : {R : Type 0} (old mid new : FunctionBuilder R) (held : «Type») (answer : Result ℕ BuildError) → Steps old mid done → LeavesBlocks old mid → mid.func.now.tables.jump_tables ≡ old.func.now.tables.jump_tables
    → GivesValue held mid new answer → GivesValue held old new answer
gives_behind old mid new held (Ok v) steps leaves tables gives = record {
  steps = steps_on old mid new (tt {0}) (Ok v) steps gives.steps;
  leaves = leaves_on old mid new steps.grows.2 leaves gives.leaves;
  tables = gives.tables ∙ ap (λ list. list ++ replicate 0 None) tables;
  current = gives.current;
  exists = gives.exists;
  typed = gives.typed;
}
gives_behind old mid new held (Err e) steps leaves tables gives = record { steps = steps_on old mid new (tt {0}) (Err e) steps gives.steps; leaves = tt; tables = tt; current = tt; exists = tt; typed = tt }
