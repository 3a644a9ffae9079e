-- An operand has one type on both machines, where its instruction is well typed: so the outcome is the same.
use Rattle.std.proofs.Common.{◌≡◌, ℕ, List, [], ◌∷◌, map, slice_get, Some, None, Option, refl, sym, ◌∙◌, ap, ap₂, subst}
use Rattle.std.specs.Prelude.{IsTrue, true, false, ◌&&◌, Bool}
use Rattle.std.specs.List.{AllByRecursion}
use Rattle.clif_types.specs.Signature.{SignatureShape}
use Rattle.clif_types.specs.declared.types.«Type».{«Type»}
use Rattle.clif_types.specs.declared.types.LaneType.TheVariants as lane
use Rattle.clif_types.specs.declared.types.«Type».TheVariants as type
use Rattle.clif_types.specs.Types.{IsType, is_int, is_type, is_vector, lane_type_of}
use Rattle.clif_opcodes.specs.declared.kinds.Demand.TheVariants as demand
use Rattle.clif_opcodes.specs.declared.kinds.OperandKind.{OperandKind}
use Rattle.clif_opcodes.specs.declared.kinds.OperandKind.TheVariants as kind
use Rattle.clif_opcodes.specs.declared.opcodes.ConvertOpcode.{ConvertOpcode}
use Rattle.clif_opcodes.specs.declared.opcodes.ConvertOpcode.TheVariants.{Splat, Uextend, Sextend, Ireduce}
use Rattle.clif_opcodes.specs.declared.opcodes.BinaryOpcode.{BinaryOpcode}
use Rattle.clif_opcodes.specs.declared.opcodes.BinaryOpcode.TheVariants as binary
use Rattle.clif_opcodes.specs.declared.opcodes.PooledConstOpcode.TheVariants.{F128const, Vconst}
use Rattle.clif_opcodes.specs.declared.opcodes.FloatConstOpcode.TheVariants.{F16const, F32const, F64const}
use Rattle.clif_opcodes.specs.Kinds.{is_address, is_met}
use Rattle.clif_opcodes.specs.Typing.{AreOfKinds, binary_second, convert_demand, convert_operand}
use Rattle.clif_ir.specs.Body.{Body}
use Rattle.clif_meaning.specs.Access.{touched_ranges}
use Rattle.clif_meaning.specs.Bits.{Bits}
use Rattle.clif_tables.specs.Callees.{types_of}
use Rattle.clif_opcodes.specs.declared.opcodes.StackOpcode.TheVariants.{StackAddr, StackLoad}
use Rattle.clif_meaning.specs.Instruction.{Iconst, FloatConst, PooledConst, Unary, Binary, Compare, Concat, Split, Convert, Select, AddConstant, CompareConstant, Operation, Compute, Load, Store, Stack, StackStore, Trap, CondTrap, Jump, Brif, BrTable, Switch, Bytes, Return, Call, CallIndirect, TryCall, TryCallIndirect, Instruction, operation_typing}
use Rattle.clif_meaning.specs.Ledger.{ledger_after, or_invalid, type_of}
use Rattle.clif_meaning.specs.Memory.{Memory}
use Rattle.clif_meaning.specs.Name.{Name}
use Rattle.clif_meaning.specs.Outcome.{outcome_of}
use Rattle.clif_meaning.specs.Premises.{IsItemWellTyped, WellTyped}
use Rattle.clif_meaning.specs.Program.{Instruct}
use Rattle.clif_meaning.specs.Request.{AnsweredCall, script_of}
use Rattle.clif_meaning.specs.Typing.{TakesOperands}
use Rattle.clif_meaning.specs.View.{view_of}
use Rattle.clif_meaning.specs.World.{World}
use Rattle.clif_simulation.specs.Carries.{ValuesTyped}
use Rattle.clif_simulation.specs.Reading.{IsItemTypedSoFar, WellTypedSoFar}
use Rattle.clif_simulation.specs.Tables.{answered, program_so_far}
use Rattle.clif_simulation.proofs.Listed.{all_at}
use Rattle.clif_simulation.proofs.Finished.Targets.{name_types}

-- TYPES THAT ARE THERE --------------------------------------------------------------------------------------------------

none_is : {X : Type 0} → IsTrue false → X
none_is is = let no_way : ⊥ = cc in absurd no_way

int_valid : (ty : «Type») → IsTrue (is_int ty) → IsType ty
int_valid type.Invalid is = none_is is
int_valid (type.Lane l) is = refl
int_valid (type.Vector l n) is = none_is is

address_valid : (ty : «Type») → IsTrue (is_address ty) → IsType ty
address_valid type.Invalid is = none_is is
address_valid (type.Lane l) is = refl
address_valid (type.Vector l n) is = none_is is

lane_valid : (ty : «Type») → IsType ty → IsType (lane_type_of ty)
lane_valid type.Invalid is = is
lane_valid (type.Lane l) is = refl
lane_valid (type.Vector l n) is = refl

-- kinds of operands whose types are there wherever the controlling type is
abbrev AreTold : List OperandKind → Type 0
AreTold [] = Unit {0}
AreTold (kind.Exactly exact ∷ kinds) = IsType exact × AreTold kinds
AreTold (k ∷ kinds) = AreTold kinds

kinds_valid : (ty : «Type») → IsType ty → (kinds : List OperandKind) → AreTold kinds → (types : List «Type») → AreOfKinds ty kinds types → AllByRecursion IsType types
kinds_valid ty valid [] told [] fits = tt
kinds_valid ty valid [] told (t ∷ types) fits = absurd fits
kinds_valid ty valid (k ∷ kinds) told [] fits = absurd fits
kinds_valid ty valid (kind.Controlling ∷ kinds) told (t ∷ types) fits = (subst IsType (sym fits.0) valid, kinds_valid ty valid kinds told types fits.1)
kinds_valid ty valid (kind.AnInteger ∷ kinds) told (t ∷ types) fits = (int_valid t fits.0, kinds_valid ty valid kinds told types fits.1)
kinds_valid ty valid (kind.Narrower ∷ kinds) told (t ∷ types) fits = (int_valid t fits.0.0, kinds_valid ty valid kinds told types fits.1)
kinds_valid ty valid (kind.Wider ∷ kinds) told (t ∷ types) fits = (int_valid t fits.0.0, kinds_valid ty valid kinds told types fits.1)
kinds_valid ty valid (kind.Lane ∷ kinds) told (t ∷ types) fits = (subst IsType (sym fits.0) (lane_valid ty valid), kinds_valid ty valid kinds told types fits.1)
kinds_valid ty valid (kind.Address ∷ kinds) told (t ∷ types) fits = (address_valid t fits.0, kinds_valid ty valid kinds told types fits.1)
kinds_valid ty valid (kind.Exactly exact ∷ kinds) told (t ∷ types) fits = (subst IsType (sym fits.0) told.0, kinds_valid ty valid kinds told.1 types fits.1)

-- where there are no operands
none_valid : (ty : «Type») (types : List «Type») → AreOfKinds ty [] types → AllByRecursion IsType types
none_valid ty [] fits = tt
none_valid ty (t ∷ types) fits = absurd fits

-- where there is an index of a table alone
index_valid : (ty : «Type») (types : List «Type») → AreOfKinds ty (kind.Exactly (type.Lane lane.I32) ∷ []) types → AllByRecursion IsType types
index_valid ty [] fits = absurd fits
index_valid ty (t ∷ []) fits = (subst IsType (sym fits.0) refl, tt)
index_valid ty (t ∷ u ∷ types) fits = absurd fits.1

-- a demand of anything is met by types alone
doubled_valid : (ty : «Type») → IsTrue (is_met demand.ADoubled ty) → IsType ty
doubled_valid type.Invalid is = none_is is
doubled_valid (type.Lane l) is = refl
doubled_valid (type.Vector l n) is = none_is is

halved_valid : (ty : «Type») → IsTrue (is_met demand.AHalved ty) → IsType ty
halved_valid type.Invalid is = none_is is
halved_valid (type.Lane l) is = refl
halved_valid (type.Vector l n) is = none_is is

second_of : (a b : Bool) → IsTrue (a && b) → IsTrue b
second_of true b is = is
second_of false b is = none_is is

convert_valid : (opcode : ConvertOpcode) (ty : «Type») → IsTrue (is_met (convert_demand opcode) ty) → IsType ty
convert_valid Splat ty is = second_of (is_vector ty) (is_type ty) is
convert_valid Uextend ty is = int_valid ty is
convert_valid Sextend ty is = int_valid ty is
convert_valid Ireduce ty is = int_valid ty is

convert_told : (opcode : ConvertOpcode) → AreTold (convert_operand opcode ∷ [])
convert_told Splat = tt
convert_told Uextend = tt
convert_told Sextend = tt
convert_told Ireduce = tt

binary_told : (opcode : BinaryOpcode) → AreTold (kind.Controlling ∷ binary_second opcode ∷ [])
binary_told binary.Ishl = tt
binary_told binary.Ushr = tt
binary_told binary.Sshr = tt
binary_told _ = tt

-- OUTCOMES --------------------------------------------------------------------------------------------------------------

-- An outcome depends on the operands' types only where these are there.
outcome_by_types : (world : World) (operation : Operation) (ty : «Type») (returns types others : List «Type») (operands : List Bits) (memory : Memory)
    → IsTrue (is_met (operation_typing operation).demand ty) → TakesOperands returns operation ty types → (AllByRecursion IsType types → others ≡ types)
    → outcome_of world operation ty others operands memory ≡ outcome_of world operation ty types operands memory
outcome_by_types world operation ty returns types others operands memory at fits same = by operation at fits
  where
    alike : (o : Operation) → AllByRecursion IsType types → outcome_of world o ty others operands memory ≡ outcome_of world o ty types operands memory
    alike o valid = ap (λ (ts : List «Type»). outcome_of world o ty ts operands memory) (same valid)

    by : (o : Operation) → IsTrue (is_met (operation_typing o).demand ty) → TakesOperands returns o ty types
        → outcome_of world o ty others operands memory ≡ outcome_of world o ty types operands memory
    by (Compute (Iconst number)) at fits = alike (Compute (Iconst number)) (none_valid ty types fits)
    by (Compute (FloatConst opcode bits)) at fits = alike (Compute (FloatConst opcode bits)) (none_valid ty types (no_kinds opcode fits))
      where
        no_kinds : (o : _) → TakesOperands returns (Compute (FloatConst o bits)) ty types → AreOfKinds ty [] types
        no_kinds F16const fits = fits
        no_kinds F32const fits = fits
        no_kinds F64const fits = fits
    by (Compute (PooledConst opcode bytes)) at fits = alike (Compute (PooledConst opcode bytes)) (none_valid ty types (no_kinds opcode fits))
      where
        no_kinds : (o : _) → TakesOperands returns (Compute (PooledConst o bytes)) ty types → AreOfKinds ty [] types
        no_kinds F128const fits = fits
        no_kinds Vconst fits = fits
    by (Compute (Unary opcode)) at fits = alike (Compute (Unary opcode)) (kinds_valid ty (int_valid ty at) (kind.Controlling ∷ []) tt types fits)
    by (Compute (Binary opcode)) at fits = alike (Compute (Binary opcode)) (kinds_valid ty (int_valid ty at) (kind.Controlling ∷ binary_second opcode ∷ []) (binary_told opcode) types fits)
    by (Compute (Compare condition)) at fits = alike (Compute (Compare condition)) (kinds_valid ty (int_valid ty at) (kind.Controlling ∷ kind.Controlling ∷ []) tt types fits)
    by (Compute Concat) at fits = alike (Compute Concat) (kinds_valid ty (doubled_valid ty at) (kind.Controlling ∷ kind.Controlling ∷ []) tt types fits)
    by (Compute Split) at fits = alike (Compute Split) (kinds_valid ty (halved_valid ty at) (kind.Controlling ∷ []) tt types fits)
    by (Compute (Convert opcode)) at fits = alike (Compute (Convert opcode)) (kinds_valid ty (convert_valid opcode ty at) (convert_operand opcode ∷ []) (convert_told opcode) types fits)
    by (Compute Select) at fits = alike (Compute Select) (kinds_valid ty at (kind.AnInteger ∷ kind.Controlling ∷ kind.Controlling ∷ []) tt types fits)
    by (Compute (AddConstant number)) at fits = alike (Compute (AddConstant number)) (kinds_valid ty (int_valid ty at) (kind.Controlling ∷ []) tt types fits)
    by (Compute (CompareConstant condition number)) at fits = alike (Compute (CompareConstant condition number)) (kinds_valid ty (int_valid ty at) (kind.Controlling ∷ []) tt types fits)
    by (Load flags offset) at fits = alike (Load flags offset) (kinds_valid ty at (kind.Address ∷ []) tt types fits)
    by (Store flags offset) at fits = alike (Store flags offset) (kinds_valid ty at (kind.Controlling ∷ kind.Address ∷ []) tt types fits)
    by (Stack StackAddr slot offset) at fits = alike (Stack StackAddr slot offset) (none_valid ty types fits)
    by (Stack StackLoad slot offset) at fits = alike (Stack StackLoad slot offset) (none_valid ty types fits)
    by (StackStore slot offset) at fits = alike (StackStore slot offset) (kinds_valid ty at (kind.Controlling ∷ []) tt types fits)
    by (Trap reason) at fits = alike (Trap reason) (none_valid ty types fits)
    by (CondTrap opcode reason) at fits = alike (CondTrap opcode reason) (kinds_valid ty (int_valid ty at) (kind.Controlling ∷ []) tt types fits)
    by Jump at fits = alike Jump (none_valid ty types fits)
    by Brif at fits = alike Brif (kinds_valid ty (int_valid ty at) (kind.Controlling ∷ []) tt types fits)
    by (BrTable entries) at fits = alike (BrTable entries) (index_valid ty types fits)
    by (Switch keys) at fits = alike (Switch keys) (kinds_valid ty (int_valid ty at) (kind.Controlling ∷ []) tt types fits)
    by (Bytes operation) at fits = refl
    by Return at fits = refl
    by (Call name signature) at fits = refl
    by (CallIndirect signature) at fits = at_address operands
      where
        at_address : (xs : List Bits) → outcome_of world (CallIndirect signature) ty others xs memory ≡ outcome_of world (CallIndirect signature) ty types xs memory
        at_address [] = refl
        at_address (x ∷ xs) = refl
    by (TryCall name call) at fits = refl
    by (TryCallIndirect call) at fits = at_address operands
      where
        at_address : (xs : List Bits) → outcome_of world (TryCallIndirect call) ty others xs memory ≡ outcome_of world (TryCallIndirect call) ty types xs memory
        at_address [] = refl
        at_address (x ∷ xs) = refl

-- What an instruction touches depends on the operands' types only where these are there.
ranges_by_types : (world : World) (operation : Operation) (ty : «Type») (returns types others : List «Type») (operands : List Bits)
    → IsTrue (is_met (operation_typing operation).demand ty) → TakesOperands returns operation ty types → (AllByRecursion IsType types → others ≡ types)
    → touched_ranges world operation ty others operands ≡ touched_ranges world operation ty types operands
ranges_by_types world operation ty returns types others operands at fits same = by operation at fits
  where
    alike : (o : Operation) → AllByRecursion IsType types → touched_ranges world o ty others operands ≡ touched_ranges world o ty types operands
    alike o valid = ap (λ (ts : List «Type»). touched_ranges world o ty ts operands) (same valid)

    by : (o : Operation) → IsTrue (is_met (operation_typing o).demand ty) → TakesOperands returns o ty types
        → touched_ranges world o ty others operands ≡ touched_ranges world o ty types operands
    by (Load flags offset) at fits = alike (Load flags offset) (kinds_valid ty at (kind.Address ∷ []) tt types fits)
    by (Store flags offset) at fits = alike (Store flags offset) (kinds_valid ty at (kind.Controlling ∷ kind.Address ∷ []) tt types fits)
    by (Stack StackLoad slot offset) at fits = alike (Stack StackLoad slot offset) (none_valid ty types fits)
    by (StackStore slot offset) at fits = alike (StackStore slot offset) (kinds_valid ty at (kind.Controlling ∷ []) tt types fits)
    by _ at fits = refl

-- Each instruction of the program has one outcome by the types of the names and by those of the values that answered them.
abbrev pub OutcomesAlike : List AnsweredCall → Body → World → Type 0
OutcomesAlike calls f world =
    (block : Name) (k place : ℕ) (instruction : Instruction Name Name) (results : List Name) → slice_get ((program_so_far calls).items block) k ≡ Some (Instruct place instruction results)
    → (bits : List Bits) (memory : Memory)
    → outcome_of world instruction.operation instruction.controlling (map (view_of f).value_type (map (answered calls) instruction.operands)) bits memory
    ≡ outcome_of world instruction.operation instruction.controlling (map (name_types calls) instruction.operands) bits memory

module _ (calls : List AnsweredCall) (f : Body) (world : World) (typed : ValuesTyped calls f) where
  -- a name whose type is there has the type of its value
  one_type : (name : Name) → IsType (name_types calls name) → (view_of f).value_type (answered calls name) ≡ name_types calls name
  one_type name valid = by (type_of (ledger_after (script_of calls)) name) refl valid
    where
      by : (o : Option «Type») → type_of (ledger_after (script_of calls)) name ≡ o → IsType (or_invalid o) → (view_of f).value_type (answered calls name) ≡ name_types calls name
      by None is valid = none_is valid
      by (Some ty) is valid = (typed name ty is).1 ∙ sym (ap or_invalid is)

  types_alike : (names : List Name) → AllByRecursion IsType (map (name_types calls) names) → map (view_of f).value_type (map (answered calls) names) ≡ map (name_types calls) names
  types_alike [] valid = refl
  types_alike (name ∷ names) valid = ap₂ (λ (t : «Type») (ts : List «Type»). t ∷ ts) (one_type name valid.0) (types_alike names valid.1)

  pub outcomes_alike : (signature : SignatureShape) → WellTyped (ledger_after (script_of calls)) (program_so_far calls) signature → OutcomesAlike calls f world
  outcomes_alike signature well block k place instruction results stands bits memory =
      let item : IsItemWellTyped (ledger_after (script_of calls)) (program_so_far calls) (types_of signature.returns) (Instruct place instruction results) =
      all_at (IsItemWellTyped (ledger_after (script_of calls)) (program_so_far calls) (types_of signature.returns)) ((program_so_far calls).items block) k (Instruct place instruction results) (well.items block) stands in
      outcome_by_types world instruction.operation instruction.controlling (types_of signature.returns) (map (name_types calls) instruction.operands) _ bits memory
      item.made_at item.operands (types_alike instruction.operands)

  -- it touches what it touches by the types of the names
  pub ranges_alike : (signature : SignatureShape) → WellTyped (ledger_after (script_of calls)) (program_so_far calls) signature
      → (block : Name) (k place : ℕ) (instruction : Instruction Name Name) (results : List Name) → slice_get ((program_so_far calls).items block) k ≡ Some (Instruct place instruction results)
      → (bits : List Bits)
      → touched_ranges world instruction.operation instruction.controlling (map (view_of f).value_type (map (answered calls) instruction.operands)) bits
      ≡ touched_ranges world instruction.operation instruction.controlling (map (name_types calls) instruction.operands) bits
  ranges_alike signature well block k place instruction results stands bits =
      let item : IsItemWellTyped (ledger_after (script_of calls)) (program_so_far calls) (types_of signature.returns) (Instruct place instruction results) =
      all_at (IsItemWellTyped (ledger_after (script_of calls)) (program_so_far calls) (types_of signature.returns)) ((program_so_far calls).items block) k (Instruct place instruction results) (well.items block) stands in
      ranges_by_types world instruction.operation instruction.controlling (types_of signature.returns) (map (name_types calls) instruction.operands) _ bits
      item.made_at item.operands (types_alike instruction.operands)

  pub outcomes_alike_so_far : (growing : Name → Bool) (signature : SignatureShape) → WellTypedSoFar growing (ledger_after (script_of calls)) (program_so_far calls) signature
      → OutcomesAlike calls f world
  outcomes_alike_so_far growing signature well block k place instruction results stands bits memory =
      let item : IsItemTypedSoFar growing (ledger_after (script_of calls)) (program_so_far calls) (types_of signature.returns) (Instruct place instruction results) =
      all_at (IsItemTypedSoFar growing (ledger_after (script_of calls)) (program_so_far calls) (types_of signature.returns)) ((program_so_far calls).items block) k (Instruct place instruction results) (well.items block) stands in
      outcome_by_types world instruction.operation instruction.controlling (types_of signature.returns) (map (name_types calls) instruction.operands) _ bits memory
      item.0.made_at item.0.operands (types_alike instruction.operands)
