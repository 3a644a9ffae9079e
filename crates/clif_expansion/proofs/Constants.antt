-- Code that computes with a constant.
use Rattle.std.proofs.Common.{◌≡◌, ◌+◌, ◌-◌, ℕ, suc, Bool, List, [], ◌∷◌, ◌++◌, map, refl, sym, ◌∙◌, ap, ap₂, arith, subst}
use Rattle.std.specs.Prelude.{◌≢◌, ◌^◌, ◌%◌, ℤ, pos, negsuc, if◌then◌else◌, IsTrue}
use Rattle.std.proofs.Math.Nat.{mod-eq_of_lt}
use Rattle.std.proofs.lemmas.Bool.{le-leb, lt-leb}
use Rattle.clif_opcodes.specs.declared.opcodes.BinaryOpcode.TheVariants.{Iadd}
use Rattle.clif_opcodes.specs.declared.opcodes.ConvertOpcode.TheVariants.{Sextend}
use Rattle.clif_types.specs.declared.types.LaneType.TheVariants as lane
use Rattle.clif_types.specs.declared.types.«Type».{«Type»}
use Rattle.clif_types.specs.declared.types.«Type».TheVariants as type
use Rattle.clif_types.specs.Types.{bits_of, is_int}
use Rattle.clif_meaning.specs.Bits.{Bits, wrapped}
use Rattle.clif_meaning.specs.Instruction.{AddConstant, Arithmetic, Binary, Compare, CompareConstant, Convert, Iconst}
use Rattle.clif_meaning.specs.Memory.{Memory}
use Rattle.clif_meaning.specs.Name.{Name, same_name}
use Rattle.clif_meaning.specs.Outcome.{Computed, Gives, Values, compares, computed, low_bits_at, outcome_of_computed, sign_extended}
use Rattle.clif_meaning.specs.Program.{Item, Instruct, Use, Assign}
use Rattle.clif_meaning.specs.Store.{assigned}
use Rattle.clif_meaning.specs.World.{World}
use Rattle.clif_expansion.specs.Constants.{ConstantExamples, ConstantsAreOperands, ConstantsArePerformed, Has64Bits, NamesConstant, NamesNarrow, Yields, computing, constant_code, i64, place_behind, with_constant}
use Rattle.clif_expansion.specs.Code.{NameTypes, Performs}
use Rattle.clif_expansion.specs.Line.{Contents, RunsTo}
use Rattle.clif_expansion.specs.Reading.{Generated, IsReadAs, Reading}
use Rattle.clif_expansion.proofs.Names.{assigned_elsewhere, equal_names, not_generated}

-- THE SIGN ----------------------------------------------------------------------------------------------------------------

-- a number of 64 bits with its sign repeated is the number in 128 bits
sign_repeated : (number : ℤ) → Has64Bits number → sign_extended 64 128 (wrapped 64 number) % 2 ^ 128 ≡ wrapped 128 number
sign_repeated (pos n) small =
    let whole : n % 18446744073709551616 ≡ n = mod-eq_of_lt (omega (arith, small)) in
    ap (λ (x : ℕ). sign_extended 64 128 x % 2 ^ 128) whole
    ∙ ap (λ (c : Bool). (if c then 2 ^ 128 - (2 ^ 64 - n) else n) % 2 ^ 128) (lt-leb (2 ^ 63) n small)
sign_repeated (negsuc n) small =
    let whole : n % 18446744073709551616 ≡ n = mod-eq_of_lt (omega (arith, small)) in
    let wide : n % 340282366920938463463374607431768211456 ≡ n = mod-eq_of_lt (omega (arith, small)) in
    let greatest : ℕ = 18446744073709551615 - n in
    let far : 340282366920938463463374607431768211456 - (18446744073709551616 - (18446744073709551615 - n)) ≡ 340282366920938463463374607431768211455 - n = omega (arith, small) in
    ap (λ (x : ℕ). sign_extended 64 128 (18446744073709551615 - x) % 2 ^ 128) whole
    ∙ ap (λ (c : Bool). (if c then 2 ^ 128 - (2 ^ 64 - (18446744073709551615 - n)) else 18446744073709551615 - n) % 2 ^ 128)
    (le-leb (2 ^ 63) (18446744073709551615 - n) (omega (arith, small)))
    ∙ ap (λ (x : ℕ). x % 2 ^ 128) far
    ∙ mod-eq_of_lt (omega (arith, small))
    ∙ ap (λ (x : ℕ). 340282366920938463463374607431768211455 - x) (sym wide)

-- RUNS --------------------------------------------------------------------------------------------------------------------

-- code behind code
runs_after : (world : World) (types : Name → «Type») (first second : List Item) (before between after : Contents)
    → RunsTo world types [] first before between → RunsTo world types [] second between after → RunsTo world types [] (first ++ second) before after
runs_after world types [] second before between after is runs = subst (λ (contents : Contents). RunsTo world types [] second contents after) is runs
runs_after world types (Instruct place instruction results ∷ first) second before between after (values, memory, gives, more) runs = (
  values,
  memory,
  gives,
  runs_after world types first second (record { names = assigned same_name results values before.names; memory = memory }) between after more runs,
)
runs_after world types (Use variable name ∷ first) second before between after is runs = absurd is
runs_after world types (Assign variable name ∷ first) second before between after is runs = absurd is

-- one instruction that computes
computed_runs : (world : World) (types : Name → «Type») (place : ℕ) (arithmetic : Arithmetic) (ty : «Type») (operands results : List Name) (values : List Bits)
    (names : Name → Bits) (memory : Memory)
    → computed arithmetic ty (map types operands) (map names operands) ≡ Values values
    → RunsTo world types [] (Instruct place (computing arithmetic ty operands) results ∷ []) (record { names = names; memory = memory })
    (record { names = assigned same_name results values names; memory = memory })
computed_runs world types place arithmetic ty operands results values names memory does = (
  values,
  memory,
  record { gives = ap (λ (result : Computed). outcome_of_computed result memory) does; safe = record { claims = tt; within = tt } },
  refl,
)

assigned_here : (name : Name) (bits : Bits) (old : Name → Bits) → assigned same_name (name ∷ []) (bits ∷ []) old name ≡ bits
assigned_here name bits old = ap (λ (c : Bool). if c then bits else old name) (equal_names name name refl)

-- CONSTANTS ---------------------------------------------------------------------------------------------------------------

-- the code of a constant leaves it where it is said
record MakesConstant (world : World) (reading : Reading) (types : Name → «Type») (code : List Item) (constant : Name) (bits : Bits) (names : Name → Bits) (memory : Memory) : Type 0 where
  after : Name → Bits
  runs : RunsTo world types [] code (record { names = names; memory = memory }) (record { names = after; memory = memory })
  holds : after constant ≡ bits
  kept : (x : Name) → reading x ≢ Generated → after x ≡ names x

module _ (world : World) (reading : Reading) (types : Name → «Type») (number : ℤ) (place : ℕ) (narrow constant : Name)
    (small : Has64Bits number) (generated : reading constant ≡ Generated) (names : Name → Bits) (memory : Memory) where
  -- by one instruction
  at_once : (ty : «Type») → MakesConstant world reading types (Instruct place (computing (Iconst number) ty []) (constant ∷ []) ∷ []) constant (wrapped (bits_of ty) number) names memory
  at_once ty = record {
    after = assigned same_name (constant ∷ []) (wrapped (bits_of ty) number ∷ []) names;
    runs = computed_runs world types place (Iconst number) ty [] (constant ∷ []) (wrapped (bits_of ty) number ∷ []) names memory refl;
    holds = assigned_here constant (wrapped (bits_of ty) number) names;
    kept = λ y kept. assigned_elsewhere reading (constant ∷ []) (wrapped (bits_of ty) number ∷ []) names y (generated, tt) kept;
  }

  abbrev with_narrow : Name → Bits
  with_narrow = assigned same_name (narrow ∷ []) (wrapped 64 number ∷ []) names

  abbrev wide : «Type»
  wide = type.Lane lane.I128

  extends : NamesNarrow wide reading types narrow → computed (Convert Sextend) wide (types narrow ∷ []) (with_narrow narrow ∷ []) ≡ Values (wrapped 128 number ∷ [])
  extends narrow_is =
      ap₂ (λ (ty : «Type») (bits : Bits). computed (Convert Sextend) wide (ty ∷ []) (bits ∷ [])) narrow_is.1 (assigned_here narrow (wrapped 64 number) names)
      ∙ ap (λ (bits : Bits). Values (bits ∷ [])) (sign_repeated number small)

  -- by two
  at_twice : NamesNarrow wide reading types narrow → MakesConstant world reading types (constant_code wide number place narrow constant) constant (wrapped 128 number) names memory
  at_twice narrow_is = record {
    after = assigned same_name (constant ∷ []) (wrapped 128 number ∷ []) with_narrow;
    runs = runs_after world types (Instruct place (computing (Iconst number) i64 []) (narrow ∷ []) ∷ []) (Instruct (suc place) (computing (Convert Sextend) wide (narrow ∷ [])) (constant ∷ []) ∷ [])
        (record { names = names; memory = memory }) (record { names = with_narrow; memory = memory }) _
        (computed_runs world types place (Iconst number) i64 [] (narrow ∷ []) (wrapped 64 number ∷ []) names memory refl)
        (computed_runs world types (suc place) (Convert Sextend) wide (narrow ∷ []) (constant ∷ []) (wrapped 128 number ∷ []) with_narrow memory (extends narrow_is));
    holds = assigned_here constant (wrapped 128 number) with_narrow;
    kept = λ y kept.
        assigned_elsewhere reading (constant ∷ []) (wrapped 128 number ∷ []) with_narrow y (generated, tt) kept
        ∙ assigned_elsewhere reading (narrow ∷ []) (wrapped 64 number ∷ []) names y (narrow_is.0, tt) kept;
  }

  made : (ty : «Type») → IsTrue (is_int ty) → NamesNarrow ty reading types narrow → MakesConstant world reading types (constant_code ty number place narrow constant) constant (wrapped (bits_of ty) number) names memory
  made type.Invalid is narrow_is = let none : ⊥ = cc in absurd none
  made (type.Vector l n) is narrow_is = let none : ⊥ = cc in absurd none
  made (type.Lane lane.I8) is narrow_is = at_once (type.Lane lane.I8)
  made (type.Lane lane.I16) is narrow_is = at_once (type.Lane lane.I16)
  made (type.Lane lane.I32) is narrow_is = at_once (type.Lane lane.I32)
  made (type.Lane lane.I64) is narrow_is = at_once (type.Lane lane.I64)
  made (type.Lane lane.I128) is narrow_is = at_twice narrow_is
  made (type.Lane lane.F16) is narrow_is = let none : ⊥ = cc in absurd none
  made (type.Lane lane.F32) is narrow_is = let none : ⊥ = cc in absurd none
  made (type.Lane lane.F64) is narrow_is = let none : ⊥ = cc in absurd none
  made (type.Lane lane.F128) is narrow_is = let none : ⊥ = cc in absurd none

-- ARITHMETIC --------------------------------------------------------------------------------------------------------------

yields : (reading : Reading) (types : Name → «Type») (arithmetic : Arithmetic) (ty : «Type») (number : ℤ) (place : ℕ) (narrow constant x result : Name)
    → (f : Bits → Bits → Bits) → ((ts : List «Type») (a b : Bits) → computed arithmetic ty ts (a ∷ b ∷ []) ≡ Values (f a b ∷ []))
    → IsTrue (is_int ty) → Has64Bits number → NamesConstant ty reading types narrow constant → reading x ≢ Generated
    → Yields reading types (with_constant arithmetic ty number place narrow constant x result) (result ∷ []) (λ names. f (names x) (wrapped (bits_of ty) number) ∷ [])
yields reading types arithmetic ty number place narrow constant x result f does is small named operand world names memory =
    let constant_made = made world reading types number place narrow constant small named.constant_generated names memory ty is named.narrow_named in
    let value : Bits = f (names x) (wrapped (bits_of ty) number) in
    record {
      after = assigned same_name (result ∷ []) (value ∷ []) constant_made.after;
      runs = runs_after world types (constant_code ty number place narrow constant) (Instruct (place_behind ty place) (computing arithmetic ty (x ∷ constant ∷ [])) (result ∷ []) ∷ [])
          (record { names = names; memory = memory }) (record { names = constant_made.after; memory = memory }) _
          constant_made.runs
          (computed_runs world types (place_behind ty place) arithmetic ty (x ∷ constant ∷ []) (result ∷ []) (value ∷ []) constant_made.after memory
          (does (types x ∷ types constant ∷ []) (constant_made.after x) (constant_made.after constant)
          ∙ ap₂ (λ (a b : Bits). Values (f a b ∷ [])) (constant_made.kept x operand) constant_made.holds));
      kept = λ y kept. ap (λ (bits : Bits). if same_name y result then value else bits) (constant_made.kept y kept);
    }

pub constants_are_operands : ConstantsAreOperands
constants_are_operands = record {
  adds = λ reading types ty number place narrow constant x result.
      yields reading types (Binary Iadd) ty number place narrow constant x result (λ a b. low_bits_at ty (a + b)) (λ ts a b. refl);
  compares = λ reading types condition ty number place narrow constant x result.
      yields reading types (Compare condition) ty number place narrow constant x result (λ a b. if compares condition (bits_of ty) a b then 1 else 0) (λ ts a b. refl);
}

-- PERFORMED ---------------------------------------------------------------------------------------------------------------

not_empty : (code : List Item) (item : Item) → code ++ item ∷ [] ≢ []
not_empty [] item none = cc
not_empty (first ∷ code) item none = cc

performs : (pointer_width : ℕ) (reading : Reading) (types : NameTypes) (arithmetic with : Arithmetic) (ty : «Type») (number : ℤ) (place : ℕ) (narrow constant plain given x result : Name)
    → (f : Bits → Bits → Bits) → ((ts : List «Type») (a b : Bits) → computed arithmetic ty ts (a ∷ b ∷ []) ≡ Values (f a b ∷ []))
    → ((ts : List «Type») (a : Bits) → computed with ty ts (a ∷ []) ≡ Values (f a (wrapped (bits_of ty) number) ∷ []))
    → IsTrue (is_int ty) → Has64Bits number → NamesConstant ty reading types.plain narrow constant → IsReadAs reading plain x → IsReadAs reading given result
    → Performs pointer_width reading types (with_constant arithmetic ty number place narrow constant plain given) (computing with ty (x ∷ [])) (result ∷ [])
performs pointer_width reading types arithmetic with ty number place narrow constant plain given x result f does means is small named operand gives = record {
  begins = not_empty (constant_code ty number place narrow constant) (Instruct (place_behind ty place) (computing arithmetic ty (plain ∷ constant ∷ [])) (given ∷ []));
  given = given ∷ [];
  named = (gives, tt);
  performs = λ world names script memory width bytes agree sound.
      let did = yields reading types.plain arithmetic ty number place narrow constant plain given f does is small named (not_generated reading plain x operand) world names memory in
      record {
        values = f (names plain) (wrapped (bits_of ty) number) ∷ [];
        after = record { names = did.after; memory = memory };
        outcome = ap (λ (result : Computed). outcome_of_computed result memory) (means (types.script x ∷ []) (script x))
            ∙ ap (λ (bits : Bits). Gives (f bits (wrapped (bits_of ty) number) ∷ []) memory) (sym (agree plain x operand));
        runs = did.runs;
        kept = did.kept;
      };
}

pub constants_are_performed : ConstantsArePerformed
constants_are_performed = record {
  adds = λ pointer_width reading types ty number place narrow constant plain given x result.
      performs pointer_width reading types (Binary Iadd) (AddConstant number) ty number place narrow constant plain given x result
      (λ a b. low_bits_at ty (a + b)) (λ ts a b. refl) (λ ts a. refl);
  compares = λ pointer_width reading types condition ty number place narrow constant plain given x result.
      performs pointer_width reading types (Compare condition) (CompareConstant condition number) ty number place narrow constant plain given x result
      (λ a b. if compares condition (bits_of ty) a b then 1 else 0) (λ ts a b. refl) (λ ts a. refl);
}

pub examples : ConstantExamples
examples = record { sum = refl; less = refl; equal = refl; too_wide = λ small. absurd (omega (arith, small)) }
