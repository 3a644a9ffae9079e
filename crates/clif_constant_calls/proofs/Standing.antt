-- A builder stands for the plain calls of a constant and of the instruction behind it.
use Rattle.std.proofs.Common.{◌≡◌, ◌+◌, inl, inr, ℕ, ℤ, suc, true, false, List, [], ◌∷◌, ◌++◌, length, map, refl, sym, ◌∙◌, ap, ap₂, subst, arith, Option, Some, None, append_assoc}
use Rattle.std.specs.Prelude.{is_some, option_and_then, option_map, slice_get, Result, Ok, Err, IfOk}
use Rattle.std.proofs.lemmas.Option.{get_or_from_slice_get, same_Some}
use Rattle.clif_types.specs.Signature.{SignatureShape}
use Rattle.clif_types.specs.declared.error.BuildError.{BuildError}
use Rattle.clif_types.specs.declared.types.LaneType.TheVariants as lane
use Rattle.clif_types.specs.declared.types.«Type».{«Type»}
use Rattle.clif_types.specs.declared.types.«Type».TheVariants as type
use Rattle.clif_opcodes.specs.declared.opcodes.BinaryOpcode.TheVariants.{Iadd}
use Rattle.clif_opcodes.specs.declared.opcodes.ConvertOpcode.TheVariants.{Sextend}
use Rattle.clif_instructions.specs.declared.instructions.InstructionData.{InstructionData}
use Rattle.clif_inst_builder.specs.Shapes as shapes
use Rattle.clif_nodes.specs.declared.nodes.ValueNode.{ValueNode}
use Rattle.clif_nodes.specs.Nodes.{no_value}
use Rattle.clif_ir.specs.Body.{Body, value_at}
use Rattle.clif_meaning.specs.Instruction.{Arithmetic, Binary, Compare, Convert, Iconst}
use Rattle.clif_meaning.specs.Ledger.{AValue, or_invalid, type_of, value_answer_type}
use Rattle.clif_meaning.specs.Name.{Name, answer_of}
use Rattle.clif_meaning.specs.Request.{AnsweredCall, Request, Script, script_of}
use Rattle.clif_meaning.proofs.CallLists.{kept}
use Rattle.clif_simulation.proofs.LedgerValues.{type_new, type_stays, value_earlier, value_stays}
use Rattle.clif_builder.specs.declared.builder.FunctionBuilder.{FunctionBuilder}
use Rattle.clif_builder.specs.Built.{BuildsValue, numbers_with}
use Rattle.clif_builder.specs.Calls.{answered}
use Rattle.clif_builder.specs.Ledger.{NamesValue, ledger_of, value_type}
use Rattle.clif_builder.specs.LedgerLaws.{AskForTheirShapes, AsksForShape, LedgerIsReadByNumber, RequestsAskForTheirShapes}
use Rattle.clif_builder.specs.StandsFor.{StandsFor}
use Rattle.clif_constant_operands.specs.Chains.{BuildsConstant, BuildsWithConstant, is_wide}
use Rattle.clif_expansion.specs.ConstantCalls.{constant_calls}
use Rattle.clif_expansion.specs.Constants.{computing, i64, place_behind}
use Rattle.clif_expansion.specs.Emission.{building}
use Rattle.clif_expansion.specs.ScriptCall.{emitted_types}
use Rattle.clif_expansion.proofs.EmittedPrograms.{one_longer}
use Rattle.clif_constant_calls.specs.Stands.{BuildsLike, ConstantOperandsStand, StandsWith, type_in}

-- NAMES -------------------------------------------------------------------------------------------------------------------

-- the type of a value that is there
pub node_type : (f : Body) (x : ℕ) (ty : «Type») → value_type f x ≡ Some ty → ty ≡ (value_at f x).ty
node_type f x ty is = by (slice_get f.values x) refl is
  where
    by : (o : Option ValueNode) → slice_get f.values x ≡ o → option_map (λ (node : ValueNode). node.ty) o ≡ Some ty → ty ≡ (value_at f x).ty
    by None found none = cc
    by (Some node) found some =
        sym (same_Some node.ty ty some) ∙ sym (ap (λ (n : ValueNode). n.ty) (get_or_from_slice_get f.values x node no_value found))

-- a name goes on naming its value
pub named_on : (calls : List AnsweredCall) (call : AnsweredCall) (name : Name) (x : ℕ) → NamesValue calls name x → NamesValue (calls ++ call ∷ []) name x
named_on calls call name x names = record { number = kept calls call name x names.number; is_value = value_stays calls call name names.is_value }

slice_get-last : {X : Type 0} (xs : List X) (x : X) → slice_get (xs ++ x ∷ []) (length xs) ≡ Some x
slice_get-last [] x = refl
slice_get-last (y ∷ xs) x = slice_get-last xs x

plus_one : (n : ℕ) → suc n ≡ 1 + n
plus_one n = omega arith

plus_two : (n : ℕ) → suc (suc n) ≡ 2 + n
plus_two n = omega arith

-- the first result of an instruction that is built
pub named_last : (calls : List AnsweredCall) (arithmetic : Arithmetic) (ty answer : «Type») (operands : List Name) (inst value : ℕ)
    → emitted_types (computing arithmetic ty operands) ≡ answer ∷ []
    → NamesValue (calls ++ answered (building (computing arithmetic ty operands)) (inst ∷ value ∷ []) ∷ []) (answer_of (length calls) 1) value
named_last calls arithmetic ty answer operands inst value gives =
    let call : AnsweredCall = answered (building (computing arithmetic ty operands)) (inst ∷ value ∷ []) in
    record {
      number = ap (option_and_then (λ (one : AnsweredCall). slice_get one.numbers 1)) (slice_get-last calls call);
      is_value = ap is_some (type_new calls call 1 ∙ ap (λ (types : List «Type»). value_answer_type (slice_get (map AValue types) 0)) gives);
    }

-- STEPS -------------------------------------------------------------------------------------------------------------------

-- one call
pub stands_on : {R : Type 0} (signature : SignatureShape) (calls : List AnsweredCall) (old new : FunctionBuilder R) (shape : InstructionData) (ty : «Type») (value : ℕ) (request : Request)
    → StandsFor signature calls old → BuildsValue old new shape ty (Ok value) → AsksForShape calls old.func.now request shape ty
    → StandsFor signature (calls ++ answered request (numbers_with old value) ∷ []) new
stands_on signature calls old new shape ty value request stands builds (entries, instruction, is, has) =
    subst (λ (r : Request). StandsFor signature (calls ++ answered r (numbers_with old value) ∷ []) new) (sym is) (builds.stands signature calls entries instruction stands has)

-- the list has the calls of a constant at its end, which has this name and this number, and a name still names its value
record HasConstant {R : Type 0} (signature : SignatureShape) (calls : List AnsweredCall) (plain : Script) (name : Name) (x : ℕ) (made : Name) (between : FunctionBuilder R) (constant : ℕ) (ty : «Type») : Type 0 where
  added : List AnsweredCall
  asked : script_of added ≡ plain
  stands : StandsFor signature (calls ++ added) between
  operand : NamesValue (calls ++ added) name x
  named : NamesValue (calls ++ added) made constant
  typed : or_invalid (type_of (ledger_of (calls ++ added)) name) ≡ ty

module _ (reads : LedgerIsReadByNumber) (asks : RequestsAskForTheirShapes) where
  pub asks_at : {R : Type 0} (signature : SignatureShape) (calls : List AnsweredCall) (b : FunctionBuilder R) → StandsFor signature calls b → AskForTheirShapes calls b.func.now
  asks_at signature calls b stands = asks calls b.func.now b.ctx.now.parts b.position stands.ledger

  pub type_at : {R : Type 0} (signature : SignatureShape) (calls : List AnsweredCall) (b : FunctionBuilder R) (name : Name) (x : ℕ) → StandsFor signature calls b → NamesValue calls name x
      → or_invalid (type_of (ledger_of calls) name) ≡ type_in b x
  type_at signature calls b name x stands names =
      let read = (reads calls b.func.now b.ctx.now.parts b.position stands.ledger).value name x names in
      ap or_invalid read.1 ∙ node_type b.func.now x read.0 read.2

  type_on : (calls : List AnsweredCall) (call : AnsweredCall) (name : Name) (x : ℕ) → NamesValue calls name x
      → or_invalid (type_of (ledger_of (calls ++ call ∷ [])) name) ≡ or_invalid (type_of (ledger_of calls) name)
  type_on calls call name x names = ap or_invalid (type_stays calls call name (value_earlier calls name names.is_value))

  module _ {R : Type 0} (signature : SignatureShape) (calls : List AnsweredCall) (old : FunctionBuilder R) (name : Name) (x : ℕ) (imm : ℤ) (stands : StandsFor signature calls old) (names : NamesValue calls name x) where
    abbrev n : ℕ
    n = length calls

    -- a constant of one instruction
    once : (between : FunctionBuilder R) (ty : «Type») (constant : ℕ) → ty ≡ type_in old x → BuildsValue old between (shapes.unary_imm imm) ty (Ok constant)
        → HasConstant signature calls (building (computing (Iconst imm) ty []) ∷ []) name x (answer_of n 1) between constant ty
    once between ty constant same builds =
        let call : AnsweredCall = answered (building (computing (Iconst imm) ty [])) (numbers_with old constant) in
        record {
          added = call ∷ [];
          asked = refl;
          stands = stands_on signature calls old between (shapes.unary_imm imm) ty constant (building (computing (Iconst imm) ty [])) stands builds ((asks_at signature calls old stands).iconst ty imm);
          operand = named_on calls call name x names;
          named = named_last calls (Iconst imm) ty ty [] (length old.func.now.insts) constant refl;
          typed = type_on calls call name x names ∙ type_at signature calls old name x stands names ∙ sym same;
        }

    -- a constant of two instructions
    twice : (first between : FunctionBuilder R) (ty : «Type») (narrow constant : ℕ) → ty ≡ type_in old x
        → BuildsValue old first (shapes.unary_imm imm) i64 (Ok narrow) → BuildsValue first between (shapes.convert Sextend narrow) ty (Ok constant)
        → HasConstant signature calls (building (computing (Iconst imm) i64 []) ∷ building (computing (Convert Sextend) ty (answer_of n 1 ∷ [])) ∷ []) name x (answer_of (suc n) 1) between constant ty
    twice first between ty narrow constant same builds widens =
        let call : AnsweredCall = answered (building (computing (Iconst imm) i64 [])) (numbers_with old narrow) in
        let last : AnsweredCall = answered (building (computing (Convert Sextend) ty (answer_of n 1 ∷ []))) (numbers_with first constant) in
        let calls' : List AnsweredCall = calls ++ call ∷ [] in
        let one : StandsFor signature calls' first =
        stands_on signature calls old first (shapes.unary_imm imm) i64 narrow (building (computing (Iconst imm) i64 [])) stands builds ((asks_at signature calls old stands).iconst i64 imm) in
        let named : NamesValue calls' (answer_of n 1) narrow = named_last calls (Iconst imm) i64 i64 [] (length old.func.now.insts) narrow refl in
        let operand : NamesValue calls' name x = named_on calls call name x names in
        let joined : calls' ++ last ∷ [] ≡ calls ++ call ∷ last ∷ [] = append_assoc calls (call ∷ []) (last ∷ []) in
        record {
          added = call ∷ last ∷ [];
          asked = refl;
          stands = subst (λ (list : List AnsweredCall). StandsFor signature list between) joined
              (stands_on signature calls' first between (shapes.convert Sextend narrow) ty constant (building (computing (Convert Sextend) ty (answer_of n 1 ∷ []))) one widens
              ((asks_at signature calls' first one).convert Sextend ty (answer_of n 1) narrow named));
          operand = subst (λ (list : List AnsweredCall). NamesValue list name x) joined (named_on calls' last name x operand);
          named = subst (λ (list : List AnsweredCall). NamesValue list (answer_of (suc n) 1) constant) joined
              (subst (λ (place : ℕ). NamesValue (calls' ++ last ∷ []) (answer_of place 1) constant) (one_longer calls call)
              (named_last calls' (Convert Sextend) ty ty (answer_of n 1 ∷ []) (length first.func.now.insts) constant refl));
          typed = ap (λ (list : List AnsweredCall). or_invalid (type_of (ledger_of list) name)) (sym joined)
              ∙ type_on calls' last name x operand ∙ type_on calls call name x names ∙ type_at signature calls old name x stands names ∙ sym same;
        }

    -- the instruction behind it
    module _ (arithmetic : Arithmetic) (shape : ℕ → ℕ → InstructionData) (answer_type : «Type» → «Type»)
        (gives : (ty : «Type») (operands : List Name) → emitted_types (computing arithmetic ty operands) ≡ answer_type ty ∷ [])
        (asks_last : (list : List AnsweredCall) (b : FunctionBuilder R) (a c : Name) (y z : ℕ) → AskForTheirShapes list b.func.now → NamesValue list a y → NamesValue list c z
        → AsksForShape list b.func.now (building (computing arithmetic (or_invalid (type_of (ledger_of list) a)) (a ∷ c ∷ []))) (shape y z) (type_in b y)) where
      behind : (between new : FunctionBuilder R) (plain : Script) (made : Name) (constant value : ℕ) (ty : «Type») (place : ℕ) → place ≡ length plain + n
          → HasConstant signature calls plain name x made between constant ty → BuildsLike between new (shape x constant) x (Ok value)
          → StandsWith signature calls (plain ++ building (computing arithmetic ty (name ∷ made ∷ [])) ∷ []) (answer_of place 1) new value
      behind between new plain made constant value ty place is has builds =
          let list : List AnsweredCall = calls ++ has.added in
          let held : «Type» = or_invalid (type_of (ledger_of list) name) in
          let last : AnsweredCall = answered (building (computing arithmetic held (name ∷ made ∷ []))) (numbers_with between value) in
          let joined : list ++ last ∷ [] ≡ calls ++ (has.added ++ last ∷ []) = append_assoc calls has.added (last ∷ []) in
          record {
            added = has.added ++ last ∷ [];
            asked = asked_last has.added held ∙ ap₂ (λ (script : Script) (t : «Type»). script ++ building (computing arithmetic t (name ∷ made ∷ [])) ∷ []) has.asked has.typed;
            stands = subst (λ (l : List AnsweredCall). StandsFor signature l new) joined
                (stands_on signature list between new (shape x constant) (type_in between x) value (building (computing arithmetic held (name ∷ made ∷ []))) has.stands builds
                (asks_last list between name made x constant (asks_at signature list between has.stands) has.operand has.named));
            named = subst (λ (l : List AnsweredCall). NamesValue l (answer_of place 1) value) joined
                (subst (λ (p : ℕ). NamesValue (list ++ last ∷ []) (answer_of p 1) value) (places has.added has.asked)
                (named_last list arithmetic held (answer_type held) (name ∷ made ∷ []) (length between.func.now.insts) value (gives held (name ∷ made ∷ []))));
          }
        where
          asked_last : (added : List AnsweredCall) (t : «Type») → script_of (added ++ answered (building (computing arithmetic t (name ∷ made ∷ []))) (numbers_with between value) ∷ [])
              ≡ script_of added ++ building (computing arithmetic t (name ∷ made ∷ [])) ∷ []
          asked_last [] t = refl
          asked_last (call ∷ added) t = ap (λ (rest : Script). call.request ∷ rest) (asked_last added t)

          as_many : (added : List AnsweredCall) → length (script_of added) ≡ length added
          as_many [] = refl
          as_many (call ∷ added) = ap suc (as_many added)

          sum : (all added : List AnsweredCall) → length (all ++ added) ≡ length added + length all
          sum [] added = omega arith
          sum (call ∷ all) added = let rest = sum all added in omega (arith, rest)

          places : (added : List AnsweredCall) → script_of added ≡ plain → length (calls ++ added) ≡ place
          places added same = let one = sum calls added in let two = as_many added in let three = ap length same in omega (arith, one, two, three, is)

      -- by the type
      narrow_calls : (ty : «Type») → is_wide ty ≡ false
          → (constant_calls arithmetic ty imm n name ≡ building (computing (Iconst imm) ty []) ∷ building (computing arithmetic ty (name ∷ answer_of n 1 ∷ [])) ∷ []) × (place_behind ty n ≡ suc n)
      narrow_calls (type.Lane lane.I128) is = cc
      narrow_calls (type.Lane lane.I8) is = (refl, refl)
      narrow_calls (type.Lane lane.I16) is = (refl, refl)
      narrow_calls (type.Lane lane.I32) is = (refl, refl)
      narrow_calls (type.Lane lane.I64) is = (refl, refl)
      narrow_calls (type.Lane lane.F16) is = (refl, refl)
      narrow_calls (type.Lane lane.F32) is = (refl, refl)
      narrow_calls (type.Lane lane.F64) is = (refl, refl)
      narrow_calls (type.Lane lane.F128) is = (refl, refl)
      narrow_calls type.Invalid is = (refl, refl)
      narrow_calls (type.Vector l k) is = (refl, refl)

      wide_calls : (ty : «Type») → is_wide ty ≡ true
          → (constant_calls arithmetic ty imm n name ≡ building (computing (Iconst imm) i64 []) ∷ building (computing (Convert Sextend) ty (answer_of n 1 ∷ []))
          ∷ building (computing arithmetic ty (name ∷ answer_of (suc n) 1 ∷ [])) ∷ []) × (place_behind ty n ≡ suc (suc n))
      wide_calls (type.Lane lane.I128) is = (refl, refl)
      wide_calls (type.Lane lane.I8) is = cc
      wide_calls (type.Lane lane.I16) is = cc
      wide_calls (type.Lane lane.I32) is = cc
      wide_calls (type.Lane lane.I64) is = cc
      wide_calls (type.Lane lane.F16) is = cc
      wide_calls (type.Lane lane.F32) is = cc
      wide_calls (type.Lane lane.F64) is = cc
      wide_calls (type.Lane lane.F128) is = cc
      wide_calls type.Invalid is = cc
      wide_calls (type.Vector l k) is = cc

      abbrev IsDone : «Type» → FunctionBuilder R → ℕ → Type 0
      IsDone ty new value = StandsWith signature calls (constant_calls arithmetic ty imm n name) (answer_of (place_behind ty n) 1) new value

      wide_done : (first between new : FunctionBuilder R) (narrow constant value : ℕ) (ty : «Type») → ty ≡ type_in old x → is_wide ty ≡ true
          → BuildsValue old first (shapes.unary_imm imm) i64 (Ok narrow) → BuildsValue first between (shapes.convert Sextend narrow) ty (Ok constant)
          → BuildsLike between new (shape x constant) x (Ok value) → IsDone ty new value
      wide_done first between new narrow constant value ty same wide builds widens last =
          let is = wide_calls ty wide in
          subst (λ (plain : Script). StandsWith signature calls plain (answer_of (place_behind ty n) 1) new value) (sym is.0)
          (behind between new _ (answer_of (suc n) 1) constant value ty (place_behind ty n) (is.1 ∙ plus_two n) (twice first between ty narrow constant same builds widens) last)

      narrow_done : (between new : FunctionBuilder R) (constant value : ℕ) (ty : «Type») → ty ≡ type_in old x → is_wide ty ≡ false
          → BuildsValue old between (shapes.unary_imm imm) ty (Ok constant) → BuildsLike between new (shape x constant) x (Ok value) → IsDone ty new value
      narrow_done between new constant value ty same narrow builds last =
          let is = narrow_calls ty narrow in
          subst (λ (plain : Script). StandsWith signature calls plain (answer_of (place_behind ty n) 1) new value) (sym is.0)
          (behind between new _ (answer_of n 1) constant value ty (place_behind ty n) (is.1 ∙ plus_one n) (once between ty constant same builds) last)

      -- a failure isn't a success
      no_success : {P : Type 0} (value : ℕ) (error : BuildError) → Ok value ≡ Err error → P
      no_success value error same = cc

      done : (between new : FunctionBuilder R) (constant value : ℕ) (ty : «Type») → ty ≡ type_in old x
          → BuildsConstant BuildsValue ty imm old between (Ok constant) → BuildsLike between new (shape x constant) x (Ok value) → IsDone ty new value
      done between new constant value ty same (inl (wide, inl (first, narrow, builds, widens))) last =
          wide_done first between new narrow constant value ty same wide builds widens last
      done between new constant value ty same (inl (wide, inr (error, failed, is))) last = no_success constant error is
      done between new constant value ty same (inr (narrow, builds)) last = narrow_done between new constant value ty same narrow builds last

      all : (new : FunctionBuilder R) (answer : Result ℕ BuildError) → BuildsWithConstant BuildsValue BuildsLike (shape x) (type_in old x) imm x old new answer
          → IfOk answer (IsDone (type_in old x) new)
      all new (Err error) builds = tt
      all new (Ok value) (inl (between, constant, made, last)) = done between new constant value (type_in old x) refl made last
      all new (Ok value) (inr (error, failed, is)) = no_success value error is

  pub stand : (R : Type 0) → ConstantOperandsStand R
  stand R = record {
    adds = λ signature calls old new name x imm answer stands names builds.
        all signature calls old name x imm stands names (Binary Iadd) (λ y z. shapes.binary Iadd y z) (λ ty. ty) (λ ty operands. refl)
        (λ list b a c y z asked one two. asked.binary Iadd a c y z one two) new answer builds;
    compares = λ condition signature calls old new name x imm answer stands names builds.
        all signature calls old name x imm stands names (Compare condition) (λ y z. shapes.int_compare condition y z) (λ ty. type.Lane lane.I8) (λ ty operands. refl)
        (λ list b a c y z asked one two. asked.compare condition a c y z one two) new answer builds;
  }
