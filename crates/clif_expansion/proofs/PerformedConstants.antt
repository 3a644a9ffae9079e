-- The calls of a sum with a constant, or of a comparison with one, perform it behind joined calls.
use Rattle.std.proofs.Common.{◌≡◌, ◌<◌, ◌+◌, ℕ, ℤ, suc, pos, negsuc, true, List, [], ◌∷◌, ◌++◌, length, refl, sym, ◌∙◌, ap, subst, arith}
use Rattle.std.specs.Prelude.{IsTrue, ◌^◌, ◌&&◌, fold}
use Rattle.std.proofs.lemmas.Bool.{and_parts, ltb-true}
use Rattle.std.specs.List.{AllByRecursion}
use Rattle.clif_opcodes.specs.declared.opcodes.BinaryOpcode.TheVariants.{Iadd}
use Rattle.clif_opcodes.specs.declared.kinds.OperandKind.TheVariants.{Narrower}
use Rattle.clif_opcodes.specs.declared.opcodes.ConvertOpcode.TheVariants.{Sextend}
use Rattle.clif_opcodes.specs.Typing.{AreOfKinds}
use Rattle.clif_types.specs.declared.types.LaneType.TheVariants as lane
use Rattle.clif_types.specs.declared.types.«Type».{«Type»}
use Rattle.clif_types.specs.declared.types.«Type».TheVariants as type
use Rattle.clif_types.specs.Types.{is_int}
use Rattle.clif_meaning.specs.Access.{library_call}
use Rattle.clif_meaning.specs.Acceptance.{can_operate, is_open}
use Rattle.clif_meaning.specs.Instruction.{AddConstant, Arithmetic, Binary, Compare, CompareConstant, Compute, Convert, Iconst, Instruction}
use Rattle.clif_meaning.specs.Ledger.{AValue, AnInstruction, Ledger, has_value, ledger_after, ledger_with, type_of, value_answer_type}
use Rattle.clif_meaning.specs.Library.{pointer_of}
use Rattle.clif_meaning.specs.Name.{Name, answer_of}
use Rattle.clif_meaning.specs.Premises.{IfLibraryCall}
use Rattle.clif_meaning.specs.Program.{Item, Instruct, answers_from, result_names}
use Rattle.clif_meaning.specs.Request.{Script}
use Rattle.clif_expansion.specs.Code.{NameTypes, Performs, PerformsItem}
use Rattle.clif_expansion.specs.ConstantCalls.{ConstantCallsArePerformed, IsPerformedByConstant, constant_calls, constant_instructions, constant_last, constant_name}
use Rattle.clif_expansion.specs.Constants.{Has64Bits, NamesConstant, computing, i64, place_behind, with_constant}
use Rattle.clif_expansion.specs.Emission.{AreGiven, StaysInLine, building, reading_emitted}
use Rattle.clif_expansion.specs.JoinedCalls.{Emitting}
use Rattle.clif_expansion.specs.JoinedPrograms.{built_items}
use Rattle.clif_expansion.specs.Joining.{IsJoined}
use Rattle.clif_expansion.specs.Laying.{IsLaid}
use Rattle.clif_expansion.specs.PerformedCalls.{HaveTypes, IsPerformed, IsTypedInLine}
use Rattle.clif_expansion.specs.Reading.{Generated, IsReadAs, Reading}
use Rattle.clif_expansion.specs.ScriptCall.{can_emit, emitted_item, emitted_types, has_64_bits, ledger_of}
use Rattle.clif_expansion.proofs.ConstantCalls.{all_in_line}
use Rattle.clif_expansion.proofs.Constants.{constants_are_performed}
use Rattle.clif_expansion.proofs.EmittedPrograms.{emitted_before, emitted_inner, emitted_result, one_longer}
use Rattle.clif_expansion.proofs.JoinedCalls.{emission_placed, joined_calls}
use Rattle.clif_expansion.proofs.Joins.{answers_last}
use Rattle.clif_expansion.proofs.LaidCodes
use Rattle.clif_expansion.proofs.LedgerTypes.{types_before}

of_64_bits : (number : ℤ) → has_64_bits number ≡ true → Has64Bits number
of_64_bits (pos n) is = ltb-true n (2 ^ 63) is
of_64_bits (negsuc n) is = ltb-true n (2 ^ 63) is

-- What arithmetic on a name and a constant performs, of names that are read so and generated.
abbrev PerformsWith : Arithmetic → Arithmetic → ℤ → Type 0
PerformsWith arithmetic whole number =
    (pointer_width : ℕ) (reading : Reading) (types : NameTypes) (ty : «Type») (place : ℕ) (narrow constant plain given x result : Name)
    → IsTrue (is_int ty) → Has64Bits number → NamesConstant ty reading types.plain narrow constant → IsReadAs reading plain x → IsReadAs reading given result
    → Performs pointer_width reading types (with_constant arithmetic ty number place narrow constant plain given) (computing whole ty (x ∷ [])) (result ∷ [])

module _ (arithmetic whole : Arithmetic) (number : ℤ) (emits : (ty : «Type») → can_emit (Compute whole) ty ≡ (is_int ty && has_64_bits number))
    (stays : (ty : «Type») (operands : List Name) → StaysInLine (computing arithmetic ty operands)) (whole_stays : (ty : «Type») (operands : List Name) → StaysInLine (computing whole ty operands))
    (answer_type : «Type» → «Type») (gives : (ty : «Type») (operands : List Name) → emitted_types (computing arithmetic ty operands) ≡ answer_type ty ∷ [])
    (whole_gives : (ty : «Type») (operands : List Name) → emitted_types (computing whole ty operands) ≡ answer_type ty ∷ [])
    (performs : PerformsWith arithmetic whole number)
    (arithmetic_typed : (types : Name → «Type») (returns : List «Type») (ty : «Type») (a b : Name) → IsTrue (is_int ty) → types a ≡ ty → types b ≡ ty
    → IsTypedInLine types returns (computing arithmetic ty (a ∷ b ∷ [])))
    (whole_takes : (types : Name → «Type») (returns : List «Type») (ty : «Type») (a : Name) → IsTypedInLine types returns (computing whole ty (a ∷ [])) → types a ≡ ty) where
  -- WHAT IS BUILT ---------------------------------------------------------------------------------------------------------

  last_item : (ty : «Type») (place : ℕ) (operands : List Name)
      → Instruct place (computing arithmetic ty operands) (result_names place (computing arithmetic ty operands)) ≡ Instruct place (computing arithmetic ty operands) (answer_of place 1 ∷ [])
  last_item ty place operands = ap (λ (types : List «Type»). Instruct place (computing arithmetic ty operands) (answers_from place 1 types)) (gives ty operands)

  abbrev code_at : «Type» → ℕ → Name → List Item
  code_at ty n x = built_items n (constant_instructions ty number n ++ constant_last arithmetic ty n x ∷ [])

  abbrev given_at : «Type» → ℕ → Name
  given_at ty n = answer_of (place_behind ty n) 1

  abbrev constant_at : «Type» → ℕ → Name → List Item
  constant_at ty n x = with_constant arithmetic ty number n (answer_of n 1) (constant_name ty n) x (given_at ty n)

  at_once : (ty : «Type») (n : ℕ) (x : Name)
      → Instruct n (computing (Iconst number) ty []) (answer_of n 1 ∷ [])
      ∷ Instruct (suc n) (computing arithmetic ty (x ∷ answer_of n 1 ∷ [])) (result_names (suc n) (computing arithmetic ty (x ∷ answer_of n 1 ∷ []))) ∷ []
      ≡ Instruct n (computing (Iconst number) ty []) (answer_of n 1 ∷ []) ∷ Instruct (suc n) (computing arithmetic ty (x ∷ answer_of n 1 ∷ [])) (answer_of (suc n) 1 ∷ []) ∷ []
  at_once ty n x = ap (λ (last : Item). Instruct n (computing (Iconst number) ty []) (answer_of n 1 ∷ []) ∷ last ∷ []) (last_item ty (suc n) (x ∷ answer_of n 1 ∷ []))

  abbrev wide : «Type»
  wide = type.Lane lane.I128

  same_code : (ty : «Type») (n : ℕ) (x : Name) → code_at ty n x ≡ constant_at ty n x
  same_code (type.Lane lane.I128) n x =
      ap (λ (last : Item). Instruct n (computing (Iconst number) i64 []) (answer_of n 1 ∷ [])
      ∷ Instruct (suc n) (computing (Convert Sextend) wide (answer_of n 1 ∷ [])) (answer_of (suc n) 1 ∷ []) ∷ last ∷ [])
      (last_item wide (suc (suc n)) (x ∷ answer_of (suc n) 1 ∷ []))
  same_code (type.Lane lane.I8) n x = at_once (type.Lane lane.I8) n x
  same_code (type.Lane lane.I16) n x = at_once (type.Lane lane.I16) n x
  same_code (type.Lane lane.I32) n x = at_once (type.Lane lane.I32) n x
  same_code (type.Lane lane.I64) n x = at_once (type.Lane lane.I64) n x
  same_code (type.Lane lane.F16) n x = at_once (type.Lane lane.F16) n x
  same_code (type.Lane lane.F32) n x = at_once (type.Lane lane.F32) n x
  same_code (type.Lane lane.F64) n x = at_once (type.Lane lane.F64) n x
  same_code (type.Lane lane.F128) n x = at_once (type.Lane lane.F128) n x
  same_code type.Invalid n x = at_once type.Invalid n x
  same_code (type.Vector l k) n x = at_once (type.Vector l k) n x

  -- the item that is emitted
  emitted_so : (ty : «Type») (m : ℕ) (name : Name) → Instruct m (computing whole ty (name ∷ [])) (answer_of m 0 ∷ []) ≡ emitted_item m (computing whole ty (name ∷ []))
  emitted_so ty m name = ap (λ (types : List «Type»). Instruct m (computing whole ty (name ∷ [])) (answers_from m 0 types)) (sym (whole_gives ty (name ∷ [])))

  -- the place of the last call is behind the others
  behind : (ty : «Type») (n : ℕ) → place_behind ty n ≡ n + length (constant_instructions ty number n)
  behind (type.Lane lane.I128) n = omega arith
  behind (type.Lane lane.I8) n = omega arith
  behind (type.Lane lane.I16) n = omega arith
  behind (type.Lane lane.I32) n = omega arith
  behind (type.Lane lane.I64) n = omega arith
  behind (type.Lane lane.F16) n = omega arith
  behind (type.Lane lane.F32) n = omega arith
  behind (type.Lane lane.F64) n = omega arith
  behind (type.Lane lane.F128) n = omega arith
  behind type.Invalid n = omega arith
  behind (type.Vector l k) n = omega arith

  -- WHAT IT PERFORMS ------------------------------------------------------------------------------------------------------

  module _ (reading : Reading) (plain ledger : Ledger) where
    abbrev emitted : «Type» → Reading
    emitted ty = reading_emitted reading plain ledger (constant_instructions ty number (length plain.answers))

    abbrev n : ℕ
    n = length plain.answers

    abbrev m : ℕ
    m = length ledger.answers

    inner : (code : List (Instruction Name Name)) (k place : ℕ) → place ≡ n + k → k < length code → reading_emitted reading plain ledger code (answer_of place 1) ≡ Generated
    inner code k place is below = emitted_inner AreGiven reading plain ledger code place k 1 is below

    once : (ty : «Type») → reading_emitted reading plain ledger (computing (Iconst number) ty [] ∷ []) (answer_of n 1) ≡ Generated
    once ty = inner (computing (Iconst number) ty [] ∷ []) 0 n (omega arith) (omega arith)

    abbrev IsNamed : «Type» → Name → (Name → «Type») → Type 0
    IsNamed ty x types = HaveTypes (fold ledger_with plain (constant_calls arithmetic ty number n x)) types → NamesConstant ty (emitted ty) types (answer_of n 1) (constant_name ty n)

    twice : (x : Name) (types : Name → «Type») → IsNamed wide x types
    twice x types have =
        let code : List (Instruction Name Name) = constant_instructions wide number n in
        let rest : Script = building (computing (Convert Sextend) wide (answer_of n 1 ∷ [])) ∷ building (constant_last arithmetic wide n x) ∷ [] in
        let narrow : types (answer_of n 1) ≡ i64 =
        types_before (ledger_with plain (building (computing (Iconst number) i64 []))) rest types have (answer_of n 1) i64
        (ap value_answer_type (answers_last plain.answers (AnInstruction ∷ AValue i64 ∷ []) 1)) in
        record { narrow_named = (inner code 0 n (omega arith) (omega arith), narrow); constant_generated = inner code 1 (suc n) (omega arith) (omega arith) }

    named : (ty : «Type») (x : Name) (types : Name → «Type») → IsNamed ty x types
    named (type.Lane lane.I128) x types have = twice x types have
    named (type.Lane lane.I8) x types have = record { narrow_named = tt; constant_generated = once (type.Lane lane.I8) }
    named (type.Lane lane.I16) x types have = record { narrow_named = tt; constant_generated = once (type.Lane lane.I16) }
    named (type.Lane lane.I32) x types have = record { narrow_named = tt; constant_generated = once (type.Lane lane.I32) }
    named (type.Lane lane.I64) x types have = record { narrow_named = tt; constant_generated = once (type.Lane lane.I64) }
    named (type.Lane lane.F16) x types have = record { narrow_named = tt; constant_generated = once (type.Lane lane.F16) }
    named (type.Lane lane.F32) x types have = record { narrow_named = tt; constant_generated = once (type.Lane lane.F32) }
    named (type.Lane lane.F64) x types have = record { narrow_named = tt; constant_generated = once (type.Lane lane.F64) }
    named (type.Lane lane.F128) x types have = record { narrow_named = tt; constant_generated = once (type.Lane lane.F128) }
    named type.Invalid x types have = record { narrow_named = tt; constant_generated = once type.Invalid }
    named (type.Vector l k) x types have = record { narrow_named = tt; constant_generated = once (type.Vector l k) }

    -- WHAT TYPES IT HAS ---------------------------------------------------------------------------------------------------

    abbrev AreTyped : «Type» → Name → (Name → «Type») → List «Type» → Type 0
    AreTyped ty x types returns =
        HaveTypes (fold ledger_with plain (constant_calls arithmetic ty number n x)) types → IsTrue (is_int ty) → types x ≡ ty
        → AllByRecursion (IsTypedInLine types returns) (constant_instructions ty number n ++ constant_last arithmetic ty n x ∷ [])

    -- the constant has the type of the operand
    single : (ty : «Type») (x : Name) (types : Name → «Type») (returns : List «Type»)
        → HaveTypes (fold ledger_with plain (building (computing (Iconst number) ty []) ∷ building (computing arithmetic ty (x ∷ answer_of n 1 ∷ [])) ∷ [])) types
        → IsTrue (is_int ty) → types x ≡ ty
        → AllByRecursion (IsTypedInLine types returns) (computing (Iconst number) ty [] ∷ computing arithmetic ty (x ∷ answer_of n 1 ∷ []) ∷ [])
    single ty x types returns have int same =
        let constant : types (answer_of n 1) ≡ ty =
        types_before (ledger_with plain (building (computing (Iconst number) ty []))) (building (computing arithmetic ty (x ∷ answer_of n 1 ∷ [])) ∷ []) types have (answer_of n 1) ty
        (ap value_answer_type (answers_last plain.answers (AnInstruction ∷ AValue ty ∷ []) 1)) in
        (record { made_at = int; operands = tt; edges = tt }, (arithmetic_typed types returns ty x (answer_of n 1) int same constant, tt))

    -- or its sign is repeated
    double : (x : Name) (types : Name → «Type») (returns : List «Type») → AreTyped wide x types returns
    double x types returns have int same =
        let first : Ledger = ledger_with plain (building (computing (Iconst number) i64 [])) in
        let repeated : Instruction Name Name = computing (Convert Sextend) wide (answer_of n 1 ∷ []) in
        let narrow : types (answer_of n 1) ≡ i64 =
        types_before first (building repeated ∷ building (constant_last arithmetic wide n x) ∷ []) types have (answer_of n 1) i64
        (ap value_answer_type (answers_last plain.answers (AnInstruction ∷ AValue i64 ∷ []) 1)) in
        let behind_first : suc n ≡ length first.answers = sym (one_longer plain.answers (AnInstruction ∷ AValue i64 ∷ [])) in
        let constant : types (answer_of (suc n) 1) ≡ wide =
        types_before (ledger_with first (building repeated)) (building (constant_last arithmetic wide n x) ∷ []) types have (answer_of (suc n) 1) wide
        (ap (λ (k : ℕ). type_of (ledger_with first (building repeated)) (answer_of k 1)) behind_first
        ∙ ap value_answer_type (answers_last first.answers (AnInstruction ∷ AValue wide ∷ []) 1)) in (
          record { made_at = refl; operands = tt; edges = tt },
          (
            record {
              made_at = refl;
              operands = subst (λ (t : «Type»). AreOfKinds wide (Narrower ∷ []) (t ∷ [])) (sym narrow) ((refl, omega arith), tt);
              edges = tt;
            },
            (arithmetic_typed types returns wide x (answer_of (suc n) 1) int same constant, tt),
          ),
        )

    code_typed : (ty : «Type») (x : Name) (types : Name → «Type») (returns : List «Type») → AreTyped ty x types returns
    code_typed (type.Lane lane.I128) x types returns have int same = double x types returns have int same
    code_typed (type.Lane lane.I8) x types returns have int same = single (type.Lane lane.I8) x types returns have int same
    code_typed (type.Lane lane.I16) x types returns have int same = single (type.Lane lane.I16) x types returns have int same
    code_typed (type.Lane lane.I32) x types returns have int same = single (type.Lane lane.I32) x types returns have int same
    code_typed (type.Lane lane.I64) x types returns have int same = single (type.Lane lane.I64) x types returns have int same
    code_typed (type.Lane lane.F16) x types returns have int same = single (type.Lane lane.F16) x types returns have int same
    code_typed (type.Lane lane.F32) x types returns have int same = single (type.Lane lane.F32) x types returns have int same
    code_typed (type.Lane lane.F64) x types returns have int same = single (type.Lane lane.F64) x types returns have int same
    code_typed (type.Lane lane.F128) x types returns have int same = single (type.Lane lane.F128) x types returns have int same
    code_typed type.Invalid x types returns have int same = single type.Invalid x types returns have int same
    code_typed (type.Vector l k) x types returns have int same = single (type.Vector l k) x types returns have int same

    abbrev CallsNothing : «Type» → ℕ → Name → Type 0
    CallsNothing ty pointer_width x =
        AllByRecursion (λ each. IfLibraryCall (pointer_of pointer_width) (library_call each.operation)) (constant_instructions ty number n ++ constant_last arithmetic ty n x ∷ [])

    calls_nothing : (ty : «Type») (pointer_width : ℕ) (x : Name) → CallsNothing ty pointer_width x
    calls_nothing (type.Lane lane.I128) pointer_width x = (tt, (tt, (tt, tt)))
    calls_nothing (type.Lane lane.I8) pointer_width x = (tt, (tt, tt))
    calls_nothing (type.Lane lane.I16) pointer_width x = (tt, (tt, tt))
    calls_nothing (type.Lane lane.I32) pointer_width x = (tt, (tt, tt))
    calls_nothing (type.Lane lane.I64) pointer_width x = (tt, (tt, tt))
    calls_nothing (type.Lane lane.F16) pointer_width x = (tt, (tt, tt))
    calls_nothing (type.Lane lane.F32) pointer_width x = (tt, (tt, tt))
    calls_nothing (type.Lane lane.F64) pointer_width x = (tt, (tt, tt))
    calls_nothing (type.Lane lane.F128) pointer_width x = (tt, (tt, tt))
    calls_nothing type.Invalid pointer_width x = (tt, (tt, tt))
    calls_nothing (type.Vector l k) pointer_width x = (tt, (tt, tt))

    done : (pointer_width : ℕ) (ty : «Type») (x name : Name) → IsJoined reading plain ledger → IsReadAs reading x name → IsTrue (is_int ty) → Has64Bits number
        → IsPerformed pointer_width AreGiven reading plain ledger (constant_instructions ty number n) (constant_last arithmetic ty n x) (computing whole ty (name ∷ []))
    done pointer_width ty x name joined is int small =
        let operand : IsReadAs (emitted ty) x name = emitted_before AreGiven reading plain ledger (constant_instructions ty number n) x (joined.made x name is).0 ∙ is in
        let given : IsReadAs (emitted ty) (given_at ty n) (answer_of m 0) = emitted_result reading plain ledger (constant_instructions ty number n) (place_behind ty n) 0 (behind ty n) in
        let item : Item = Instruct m (computing whole ty (name ∷ [])) (answer_of m 0 ∷ []) in
        record {
          performs = λ types have' have.
              subst (λ (i : Item). PerformsItem pointer_width (emitted ty) types (code_at ty n x) i) (emitted_so ty m name)
              (subst (λ (code : List Item). PerformsItem pointer_width (emitted ty) types code item) (sym (same_code ty n x))
              (performs pointer_width (emitted ty) types ty n (answer_of n 1) (constant_name ty n) x (given_at ty n) name (answer_of m 0) int small (named ty x types.plain have') operand given));
          laid = λ program.
              subst (λ (i : Item). IsLaid (emitted ty) program (code_at ty n x) i) (emitted_so ty m name)
              (subst (λ (code : List Item). IsLaid (emitted ty) program code item) (sym (same_code ty n x))
              (LaidCodes.codes_are_laid.constants (emitted ty) program arithmetic whole ty number n m (answer_of n 1) (constant_name ty n) x (given_at ty n) name (answer_of m 0) operand given));
          typed = λ types returns have' agree typed. code_typed ty x types.plain returns have' int (agree x name operand ∙ whole_takes types.script returns ty name typed);
          as_named = calls_nothing ty pointer_width x;
        }

  -- JOINED CALLS ----------------------------------------------------------------------------------------------------------

  module _ (can : (ty : «Type») → can_operate (Compute arithmetic) ty ≡ true) where
    stands : IsPerformedByConstant arithmetic whole number
    stands = record {
      joined = λ reading plain calls ty x name are may.
          Emitting AreGiven reading plain calls [] (constant_instructions ty number (length (ledger_after plain).answers)) (constant_last arithmetic ty (length (ledger_after plain).answers) x)
          (computing whole ty (name ∷ [])) are
          (emission_placed reading (ledger_after plain) (ledger_of calls) (joined_calls reading plain calls are) [] (computing whole ty (name ∷ [])) may) (all_in_line arithmetic number can ty (length (ledger_after plain).answers))
          (stays ty (x ∷ constant_name ty (length (ledger_after plain).answers) ∷ [])) (whole_stays ty (name ∷ []))
          (gives ty (x ∷ constant_name ty (length (ledger_after plain).answers) ∷ []) ∙ sym (whole_gives ty (name ∷ [])));
      performed = λ pointer_width reading plain calls ty x name are done_before is may.
          let ledger : Ledger = ledger_of calls in
          let ready = and_parts (is_open ledger ledger.current && (has_value ledger name && true) && true) (can_emit (Compute whole) ty) may in
          let int = and_parts (is_int ty) (has_64_bits number) (sym (emits ty) ∙ ready.1) in (
            done_before,
            done reading (ledger_after plain) (ledger_of calls) pointer_width ty x name (joined_calls reading plain calls are) is int.0 (of_64_bits number int.1),
          );
    }

pub constant_calls_are_performed : ConstantCallsArePerformed
constant_calls_are_performed = record {
  adds = λ number.
      stands (Binary Iadd) (AddConstant number) number (λ ty. refl) (λ ty operands. record { no_edges = refl; goes_on = refl }) (λ ty operands. record { no_edges = refl; goes_on = refl })
      (λ ty. ty) (λ ty operands. refl) (λ ty operands. refl)
      (λ pointer_width reading types ty place narrow constant plain given x result.
      constants_are_performed.adds pointer_width reading types ty number place narrow constant plain given x result)
      (λ types returns ty a b int first second. record { made_at = int; operands = (first, (second, tt)); edges = tt })
      (λ types returns ty a typed. typed.operands.0) (λ ty. refl);
  compares = λ condition number.
      stands (Compare condition) (CompareConstant condition number) number (λ ty. refl) (λ ty operands. record { no_edges = refl; goes_on = refl }) (λ ty operands. record { no_edges = refl; goes_on = refl })
      (λ ty. type.Lane lane.I8) (λ ty operands. refl) (λ ty operands. refl)
      (λ pointer_width reading types ty place narrow constant plain given x result.
      constants_are_performed.compares pointer_width reading types condition ty number place narrow constant plain given x result)
      (λ types returns ty a b int first second. record { made_at = int; operands = (first, (second, tt)); edges = tt })
      (λ types returns ty a typed. typed.operands.0) (λ ty. refl);
}
