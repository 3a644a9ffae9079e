-- Whether stack maps may be asked for a variable or a value: the ledger and the builder tell the same, and the builder's conditions
-- hold then.
use Rattle.std.proofs.Common.{◌≡◌, ◌<◌, ℕ, List, refl, ap, arith, sym, ◌∙◌}
use Rattle.std.specs.Prelude.{◌&&◌, Bool, true, false, is_ok, is_some, not, nat_lt, option_map, slice_get, Option, Some, None, Result, Ok, Err}
use Rattle.std.proofs.lemmas.Bool.{and_parts, false_from_ne_true, ltb-true, not-true}
use Rattle.std.proofs.lemmas.Option.{slice_get-map}
use Rattle.clif_types.specs.EntitySet.{has}
use Rattle.clif_types.specs.Signature.{SignatureShape}
use Rattle.clif_types.specs.Types.{bytes_of}
use Rattle.clif_types.specs.declared.types.«Type».{«Type»}
use Rattle.clif_ir.specs.Body.{value_at}
use Rattle.clif_stack_slots.specs.Sizes.{FitsStackMap, IsSizeOf}
use Rattle.clif_stack_slots.specs.declared.size.SlotSize.{SlotSize}
use Rattle.clif_stack_slots.specs.declared.size.SlotSize.TheVariants as size
use Rattle.clif_stack_slots.specs.declared.size.UnsupportedType.{UnsupportedType}
use Rattle.clif_meaning.specs.Acceptance.{allows, fits_stack_map, may_mark}
use Rattle.clif_meaning.specs.Ledger.{VariableState, or_invalid, type_of}
use Rattle.clif_meaning.specs.Request.{AnsweredCall, NeedStackMap, OfValue, OfVariable}
use Rattle.clif_builder.specs.declared.builder.FunctionBuilder.{FunctionBuilder}
use Rattle.clif_builder.specs.Context.{ContextState, is_untouched}
use Rattle.clif_builder.specs.Ledger.{VariablesAgree, ledger_of, was_touched}
use Rattle.clif_builder.specs.Marks.{IsUnused, ValueFits, VariableFits}
use Rattle.clif_calls.specs.declared.call.Name.{Name}
use Rattle.clif_resolution.specs.declared.answers.Answer.{Answer}
use Rattle.clif_resolution.specs.Answers.{value_of}
use Rattle.clif_replay.specs.Requests.{Naming}
use Rattle.clif_replay.specs.Ready.{IsReady, can_mark, can_record, fits_declared}
use Rattle.clif_replay.proofs.Conditions.{value-type-same}
use Rattle.clif_replay.proofs.ReadyLaws.{read, value-exists, value-found, value-missing}

-- TYPES -------------------------------------------------------------------------------------------------------------------

pub type-fits : (ty : «Type») → fits_stack_map ty ≡ true → FitsStackMap ty
type-fits ty fits =
    let parts = and_parts (nat_lt 0 (bytes_of ty)) (nat_lt (bytes_of ty) 17) fits in
    let some : 0 < bytes_of ty = ltb-true 0 (bytes_of ty) parts.0 in
    let few : bytes_of ty < 17 = ltb-true (bytes_of ty) 17 parts.1 in
    record { some = omega (arith, some); fits = omega (arith, few) }

-- a type has a size where it fits
pub sized-fits : (ty : «Type») (told : Result SlotSize UnsupportedType) → IsSizeOf ty told → is_ok told ≡ fits_stack_map ty
sized-fits ty (Ok size.Size8) is = sym (ap (λ (n : ℕ). nat_lt 0 n && nat_lt n 17) is)
sized-fits ty (Ok size.Size16) is = sym (ap (λ (n : ℕ). nat_lt 0 n && nat_lt n 17) is)
sized-fits ty (Ok size.Size32) is = sym (ap (λ (n : ℕ). nat_lt 0 n && nat_lt n 17) is)
sized-fits ty (Ok size.Size64) is = sym (ap (λ (n : ℕ). nat_lt 0 n && nat_lt n 17) is)
sized-fits ty (Ok size.Size128) is = sym (ap (λ (n : ℕ). nat_lt 0 n && nat_lt n 17) is)
sized-fits ty (Err unsupported) is = sym (false_from_ne_true (fits_stack_map ty) (λ fits. is (type-fits ty fits)))

-- VARIABLES -----------------------------------------------------------------------------------------------------------------

-- the states of the ledger's variables tell what the context does
same-mark : (states : List VariableState) (c : ContextState) (variable : ℕ) → VariablesAgree states c
    → may_mark (slice_get states variable) ≡ (fits_declared (slice_get c.variables variable) && is_untouched c variable)
same-mark states c variable agree =
    let types : option_map (λ (state : VariableState). state.ty) (slice_get states variable) ≡ slice_get c.variables variable =
    sym (slice_get-map (λ (state : VariableState). state.ty) states variable) ∙ ap (λ (xs : List «Type»). slice_get xs variable) agree.types in
    by (slice_get states variable) (slice_get c.variables variable) (has c.touched variable) types (agree.touched variable)
  where
    by : (state : Option VariableState) (ty : Option «Type») (touched : Bool) → option_map (λ (one : VariableState). one.ty) state ≡ ty → was_touched state ≡ touched
        → may_mark state ≡ (fits_declared ty && (is_some ty && not touched))
    by None ty touched typed told = ap (λ (o : Option «Type»). fits_declared o && (is_some o && not touched)) typed
    by (Some state) ty touched typed told =
        ap (λ (test : Bool). fits_stack_map state.ty && not test) told
        ∙ ap (λ (o : Option «Type»). fits_declared o && (is_some o && not touched)) typed

pub mark-same : {R : Type 0} {naming : Naming} {declared : SignatureShape} (calls : List AnsweredCall) (b : FunctionBuilder R) (answers : List Answer) → IsReady naming declared calls b answers
    → (variable : ℕ) → allows (ledger_of calls) (NeedStackMap (OfVariable variable)) ≡ can_mark b variable
mark-same calls b answers ready variable = same-mark (ledger_of calls).variables b.ctx.now.parts variable ready.stands.ledger.variables

-- what the builder asks of the variable
pub mark-fits : {R : Type 0} (b : FunctionBuilder R) (variable : ℕ) → can_mark b variable ≡ true → VariableFits b.ctx.now.parts variable
mark-fits b variable may =
    by (slice_get b.ctx.now.parts.variables variable) refl (and_parts (fits_declared (slice_get b.ctx.now.parts.variables variable)) (is_untouched b.ctx.now.parts variable) may).0
  where
    by : (o : Option «Type») → slice_get b.ctx.now.parts.variables variable ≡ o → fits_declared o ≡ true → VariableFits b.ctx.now.parts variable
    by None at fits = let no_way : ⊥ = cc in absurd no_way
    by (Some ty) at fits = record { ty = ty; declared = at; fits = type-fits ty fits }

pub mark-unused : {R : Type 0} {naming : Naming} {declared : SignatureShape} (calls : List AnsweredCall) (b : FunctionBuilder R) (answers : List Answer) → IsReady naming declared calls b answers
    → (variable : ℕ) → can_mark b variable ≡ true → IsUnused b.ctx.now.parts variable
mark-unused calls b answers ready variable may =
    let untouched = (and_parts (fits_declared (slice_get b.ctx.now.parts.variables variable)) (is_untouched b.ctx.now.parts variable) may).1 in
    let free = not-true (has b.ctx.now.parts.touched variable) (and_parts (is_some (slice_get b.ctx.now.parts.variables variable)) (not (has b.ctx.now.parts.touched variable)) untouched).1 in
    (read calls b answers ready).unused variable (ready.stands.ledger.variables.touched variable ∙ free)

-- VALUES --------------------------------------------------------------------------------------------------------------------

pub record-none : {R : Type 0} {naming : Naming} {declared : SignatureShape} (calls : List AnsweredCall) (b : FunctionBuilder R) (answers : List Answer) → IsReady naming declared calls b answers
    → (name : Name) → value_of b.func.now answers name ≡ None → allows (ledger_of calls) (NeedStackMap (OfValue (naming name))) ≡ false
record-none {naming} calls b answers ready name missing = let none = value-missing calls b answers ready name missing in rw none refl

pub record-some : {R : Type 0} {naming : Naming} {declared : SignatureShape} (calls : List AnsweredCall) (b : FunctionBuilder R) (answers : List Answer) → IsReady naming declared calls b answers
    → (name : Name) (value : ℕ) → value_of b.func.now answers name ≡ Some value → allows (ledger_of calls) (NeedStackMap (OfValue (naming name))) ≡ can_record b value
record-some {naming} calls b answers ready name value found =
    let there = (value-found calls b answers ready name value found).is_value in
    let typed = value-type-same calls b answers ready name value found in
    ap (λ (test : Bool). test && fits_stack_map (or_invalid (type_of (ledger_of calls) (naming name)))) there ∙ ap (λ (o : Option «Type»). fits_stack_map (or_invalid o)) typed

pub record-fits : {R : Type 0} {naming : Naming} {declared : SignatureShape} (calls : List AnsweredCall) (b : FunctionBuilder R) (answers : List Answer) → IsReady naming declared calls b answers
    → (name : Name) (value : ℕ) → value_of b.func.now answers name ≡ Some value → can_record b value ≡ true → ValueFits b value
record-fits calls b answers ready name value found may =
    record { exists = value-exists calls b answers ready name value found; fits = type-fits (value_at b.func.now value).ty may }
