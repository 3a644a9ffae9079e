-- Where a script may emit a sum with a constant or a comparison with one, its plain calls may be made.
use Rattle.std.proofs.Common.{◌≡◌, ℕ, ℤ, zero, suc, Bool, true, false, cond, not, ◌&&◌, List, [], ◌∷◌, ◌++◌, length, map, refl, sym, ◌∙◌, ap, subst, Option, Some, None}
use Rattle.std.specs.Prelude.{IsTrue, find, if◌then◌else◌, is_some, option_and_then, slice_get}
use Rattle.std.specs.List.{AllByRecursion}
use Rattle.std.proofs.lemmas.Bool.{and_parts}
use Rattle.clif_opcodes.specs.declared.opcodes.BinaryOpcode.TheVariants.{Iadd}
use Rattle.clif_opcodes.specs.declared.opcodes.ConvertOpcode.TheVariants.{Sextend}
use Rattle.clif_types.specs.declared.types.LaneType.TheVariants as lane
use Rattle.clif_types.specs.declared.types.«Type».{«Type»}
use Rattle.clif_types.specs.declared.types.«Type».TheVariants as type
use Rattle.clif_types.specs.Types.{is_int}
use Rattle.clif_meaning.specs.Acceptance.{allows, can_operate, is_open}
use Rattle.clif_meaning.specs.Instruction.{AddConstant, Arithmetic, Binary, Compare, CompareConstant, Compute, Convert, Iconst, Instruction}
use Rattle.clif_meaning.specs.Ledger.{AValue, AnInstruction, Answered, BlockState, Ledger, has_value, is_inserted, ledger_with, state_has, value_answer_type, with_begun, with_begun_at, with_layout}
use Rattle.clif_meaning.specs.Name.{Name, answer_of, same_name}
use Rattle.clif_expansion.specs.ConstantCalls.{AreAllowed, ConstantsAreEmitted, StandsForEmission, constant_calls, constant_instructions, constant_last, constant_name}
use Rattle.clif_expansion.specs.Constants.{computing, i64}
use Rattle.clif_expansion.specs.Emission.{AreGiven, StaysInLine, building}
use Rattle.clif_expansion.specs.Joining.{IsJoined}
use Rattle.clif_expansion.specs.Reading.{IsReadAs, Reading}
use Rattle.clif_expansion.specs.ScriptCall.{Emit, call_allowed, can_emit, emitted_types, has_64_bits}
use Rattle.clif_expansion.proofs.Emissions.{begun_current, begun_state, built_changes, emitting_keeps_joins}
use Rattle.clif_expansion.proofs.Joins.{answers_last}
use Rattle.clif_expansion.proofs.ReadConditions.{has_value_same, opened}

-- ON AND ON ---------------------------------------------------------------------------------------------------------------

-- a block that is begun is filled where it was filled
filled_on : (begun block : Name) (states : List BlockState)
    → state_has (λ state. state.is_filled) (find (λ state. same_name state.block block) (map (begun_state begun) states))
    ≡ state_has (λ state. state.is_filled) (find (λ state. same_name state.block block) states)
filled_on begun block [] = refl
filled_on begun block (state ∷ states) = by (same_name state.block begun) (filled_on begun block states)
  where
    found : (other : BlockState) → other.is_filled ≡ state.is_filled → (d : Bool) (rest' rest : Option BlockState)
        → state_has (λ state. state.is_filled) rest' ≡ state_has (λ state. state.is_filled) rest
        → state_has (λ state. state.is_filled) (cond d (Some other) rest') ≡ state_has (λ state. state.is_filled) (cond d (Some state) rest)
    found other same true rest' rest later = same
    found other same false rest' rest later = later

    by : (c : Bool) → state_has (λ state. state.is_filled) (find (λ state. same_name state.block block) (map (begun_state begun) states))
        ≡ state_has (λ state. state.is_filled) (find (λ state. same_name state.block block) states)
        → state_has (λ state. state.is_filled) (find (λ state. same_name state.block block) ((if c then record state { is_pristine = false } else state) ∷ map (begun_state begun) states))
        ≡ state_has (λ state. state.is_filled) (find (λ state. same_name state.block block) (state ∷ states))
    by true later = found (record state { is_pristine = false }) refl (same_name state.block block) _ _ later
    by false later = found state refl (same_name state.block block) _ _ later

laid_blocks : (ledger : Ledger) (block : Name) → (with_layout ledger block).blocks ≡ ledger.blocks
laid_blocks ledger block = by (is_inserted ledger block)
  where
    by : (c : Bool) → (if c then ledger else record ledger { layout = ledger.layout ++ block ∷ [] }).blocks ≡ ledger.blocks
    by true = refl
    by false = refl

open_begun : (ledger : Ledger) (current : Option Name) → is_open (with_begun_at ledger current) current ≡ is_open ledger current
open_begun ledger None = refl
open_begun ledger (Some block) =
    ap not (
    ap (λ (states : List BlockState). state_has (λ state. state.is_filled) (find (λ state. same_name state.block block) (map (begun_state block) states))) (laid_blocks ledger block)
    ∙ filled_on block block ledger.blocks
    )

-- a value stays one behind a call more
value_on : (answers : List (List Answered)) (more : List Answered) (place index : ℕ)
    → is_some (value_answer_type (option_and_then (λ (given : List Answered). slice_get given index) (slice_get answers place))) ≡ true
    → is_some (value_answer_type (option_and_then (λ (given : List Answered). slice_get given index) (slice_get (answers ++ more ∷ []) place))) ≡ true
value_on [] more place index is = let none : ⊥ = cc in absurd none
value_on (given ∷ answers) more zero index is = is
value_on (given ∷ answers) more (suc place) index is = value_on answers more place index is

-- the current block is open, and the name is a value
record IsReady (ledger : Ledger) (x : Name) : Type 0 where
  opened : is_open ledger ledger.current ≡ true
  value : has_value ledger x ≡ true

module _ (ledger : Ledger) (instruction : Instruction Name Name) (stays : StaysInLine instruction) where
  abbrev after : Ledger
  after = ledger_with ledger (building instruction)

  ready_on : (x : Name) → IsReady ledger x → IsReady after x
  ready_on x ready = record {
    opened = ap (λ (l : Ledger). is_open l l.current) (built_changes ledger instruction stays)
        ∙ ap (λ (current : Option Name). is_open (with_begun ledger) current) (begun_current ledger ledger.current)
        ∙ open_begun ledger ledger.current ∙ ready.opened;
    value = value_on ledger.answers (AnInstruction ∷ map AValue (emitted_types instruction)) x.place x.index ready.value;
  }

  -- its first result is a value
  result_value : (ty : «Type») (types : List «Type») → emitted_types instruction ≡ ty ∷ types → has_value after (answer_of (length ledger.answers) 1) ≡ true
  result_value ty types are =
      ap (λ (answer : Option Answered). is_some (value_answer_type answer)) (answers_last ledger.answers (AnInstruction ∷ map AValue (emitted_types instruction)) 1)
      ∙ ap (λ (ts : List «Type»). is_some (value_answer_type (slice_get (map AValue ts) 0))) are

-- ALLOWED -----------------------------------------------------------------------------------------------------------------

module _ (arithmetic : Arithmetic) (number : ℤ) (can : (ty : «Type») → can_operate (Compute arithmetic) ty ≡ true) where
  -- the last call, on values that are there
  last_allowed : (ledger : Ledger) (ty : «Type») (x constant : Name) → IsReady ledger x → has_value ledger constant ≡ true
      → allows ledger (building (computing arithmetic ty (x ∷ constant ∷ []))) ≡ true
  last_allowed ledger ty x constant ready made =
      λ i. ready.opened i && (ready.value i && (made i && true)) && true && can ty i && true

  constant_allowed : (ledger : Ledger) (ty : «Type») (x : Name) → IsReady ledger x → is_int ty ≡ true → allows ledger (building (computing (Iconst number) ty [])) ≡ true
  constant_allowed ledger ty x ready int = λ i. ready.opened i && true && true && int i && true

  abbrev constant : «Type» → Instruction Name Name
  constant ty = computing (Iconst number) ty []

  abbrev Allowed : Ledger → «Type» → Name → Type 0
  Allowed ledger ty x = AreAllowed ledger (constant_calls arithmetic ty number (length ledger.answers) x)

  in_line : (ty : «Type») → StaysInLine (constant ty)
  in_line ty = record { no_edges = refl; goes_on = refl }

  at_once : (ledger : Ledger) (ty : «Type») (x : Name) → IsReady ledger x → is_int ty ≡ true
      → AreAllowed ledger (building (constant ty) ∷ building (computing arithmetic ty (x ∷ answer_of (length ledger.answers) 1 ∷ [])) ∷ [])
  at_once ledger ty x ready int = (
    constant_allowed ledger ty x ready int,
    (
      last_allowed (ledger_with ledger (building (constant ty))) ty x (answer_of (length ledger.answers) 1) (ready_on ledger (constant ty) (in_line ty) x ready)
          (result_value ledger (constant ty) (in_line ty) ty [] refl),
      tt,
    ),
  )

  abbrev wide : «Type»
  wide = type.Lane lane.I128

  -- the constant of 64 bits with its sign repeated
  abbrev widened : (place : ℕ) → Instruction Name Name
  widened place = computing (Convert Sextend) wide (answer_of place 1 ∷ [])

  widened_in_line : (place : ℕ) → StaysInLine (widened place)
  widened_in_line place = record { no_edges = refl; goes_on = refl }

  one_longer : (answers : List (List Answered)) (more : List Answered) → length (answers ++ more ∷ []) ≡ suc (length answers)
  one_longer [] more = refl
  one_longer (given ∷ answers) more = ap suc (one_longer answers more)

  at_twice : (ledger : Ledger) (x : Name) → IsReady ledger x → Allowed ledger wide x
  at_twice ledger x ready =
      let n : ℕ = length ledger.answers in
      let second : Ledger = ledger_with ledger (building (constant i64)) in
      let third : Ledger = ledger_with second (building (widened n)) in
      let narrow : has_value second (answer_of n 1) ≡ true = result_value ledger (constant i64) (in_line i64) i64 [] refl in
      let ready_second : IsReady second x = ready_on ledger (constant i64) (in_line i64) x ready in
      let made : has_value third (answer_of (suc n) 1) ≡ true =
      subst (λ (place : ℕ). has_value third (answer_of place 1) ≡ true) (one_longer ledger.answers (AnInstruction ∷ map AValue (emitted_types (constant i64))))
      (result_value second (widened n) (widened_in_line n) wide [] refl) in (
        constant_allowed ledger i64 x ready refl,
        (
          (λ i. ready_second.opened i && (narrow i && true) && true && true && true),
          (last_allowed third wide x (answer_of (suc n) 1) (ready_on second (widened n) (widened_in_line n) x ready_second) made, tt),
        ),
      )

  allowed_at : (ledger : Ledger) (ty : «Type») (x : Name) → IsReady ledger x → is_int ty ≡ true → Allowed ledger ty x
  allowed_at ledger (type.Lane lane.I128) x ready int = at_twice ledger x ready
  allowed_at ledger (type.Lane lane.I8) x ready int = at_once ledger (type.Lane lane.I8) x ready int
  allowed_at ledger (type.Lane lane.I16) x ready int = at_once ledger (type.Lane lane.I16) x ready int
  allowed_at ledger (type.Lane lane.I32) x ready int = at_once ledger (type.Lane lane.I32) x ready int
  allowed_at ledger (type.Lane lane.I64) x ready int = at_once ledger (type.Lane lane.I64) x ready int
  allowed_at ledger (type.Lane lane.F16) x ready int = at_once ledger (type.Lane lane.F16) x ready int
  allowed_at ledger (type.Lane lane.F32) x ready int = at_once ledger (type.Lane lane.F32) x ready int
  allowed_at ledger (type.Lane lane.F64) x ready int = at_once ledger (type.Lane lane.F64) x ready int
  allowed_at ledger (type.Lane lane.F128) x ready int = at_once ledger (type.Lane lane.F128) x ready int
  allowed_at ledger type.Invalid x ready int = at_once ledger type.Invalid x ready int
  allowed_at ledger (type.Vector l n) x ready int = at_once ledger (type.Vector l n) x ready int

  pub all_in_line : (ty : «Type») (place : ℕ) → AllByRecursion StaysInLine (constant_instructions ty number place)
  all_in_line (type.Lane lane.I128) place = (in_line i64, (widened_in_line place, tt))
  all_in_line (type.Lane lane.I8) place = (in_line (type.Lane lane.I8), tt)
  all_in_line (type.Lane lane.I16) place = (in_line (type.Lane lane.I16), tt)
  all_in_line (type.Lane lane.I32) place = (in_line (type.Lane lane.I32), tt)
  all_in_line (type.Lane lane.I64) place = (in_line (type.Lane lane.I64), tt)
  all_in_line (type.Lane lane.F16) place = (in_line (type.Lane lane.F16), tt)
  all_in_line (type.Lane lane.F32) place = (in_line (type.Lane lane.F32), tt)
  all_in_line (type.Lane lane.F64) place = (in_line (type.Lane lane.F64), tt)
  all_in_line (type.Lane lane.F128) place = (in_line (type.Lane lane.F128), tt)
  all_in_line type.Invalid place = (in_line type.Invalid, tt)
  all_in_line (type.Vector l n) place = (in_line (type.Vector l n), tt)

  module _ (whole : Arithmetic) (emits : (ty : «Type») → can_emit (Compute whole) ty ≡ (is_int ty && has_64_bits number))
      (stays : (ty : «Type») (operands : List Name) → StaysInLine (computing arithmetic ty operands)) (whole_stays : (ty : «Type») (operands : List Name) → StaysInLine (computing whole ty operands))
      (types : (ty : «Type») (operands others : List Name) → emitted_types (computing arithmetic ty operands) ≡ emitted_types (computing whole ty others)) where
    allowed : (reading : Reading) (plain ledger : Ledger) (ty : «Type») (x name : Name) → IsJoined reading plain ledger → IsReadAs reading x name
        → IsTrue (call_allowed ledger (Emit [] (computing whole ty (name ∷ [])))) → Allowed plain ty x
    allowed reading plain ledger ty x name joined is may =
        let ready = and_parts (is_open ledger ledger.current && (has_value ledger name && true) && true) (can_emit (Compute whole) ty) may in
        let edges = and_parts (is_open ledger ledger.current && (has_value ledger name && true)) true ready.0 in
        let there = and_parts (is_open ledger ledger.current) (has_value ledger name && true) edges.0 in
        let value = and_parts (has_value ledger name) true there.1 in
        let int = and_parts (is_int ty) (has_64_bits number) (sym (emits ty) ∙ ready.1) in
        allowed_at plain ty x
        (record { opened = opened reading plain ledger joined.ledgers joined.one_to_one ∙ there.0; value = has_value_same reading plain ledger joined.ledgers joined.one_to_one x name is ∙ value.0 }) int.0

    stands : StandsForEmission arithmetic whole number
    stands = record {
      allowed = allowed;
      joined = λ reading plain ledger ty x name joined.
          emitting_keeps_joins AreGiven reading plain ledger [] (constant_instructions ty number (length plain.answers)) (constant_last arithmetic ty (length plain.answers) x) (computing whole ty (name ∷ []))
          joined (all_in_line ty (length plain.answers)) (stays ty (x ∷ constant_name ty (length plain.answers) ∷ [])) (whole_stays ty (name ∷ []))
          (types ty (x ∷ constant_name ty (length plain.answers) ∷ []) (name ∷ []));
    }

pub constants_are_emitted : ConstantsAreEmitted
constants_are_emitted = record {
  adds = λ number. stands (Binary Iadd) number (λ ty. refl) (AddConstant number) (λ ty. refl)
      (λ ty operands. record { no_edges = refl; goes_on = refl }) (λ ty operands. record { no_edges = refl; goes_on = refl }) (λ ty operands others. refl);
  compares = λ condition number. stands (Compare condition) number (λ ty. refl) (CompareConstant condition number) (λ ty. refl)
      (λ ty operands. record { no_edges = refl; goes_on = refl }) (λ ty operands. record { no_edges = refl; goes_on = refl }) (λ ty operands others. refl);
}
