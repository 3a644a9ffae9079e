-- What the instructions of zeros give fits, whatever types their results have.
use Rattle.std.proofs.Common.{◌≡◌, ◌^◌, ◌<◌, ◌+◌, ◌-◌, ◌*◌, ℕ, zero, suc, List, [], ◌∷◌, map, slice_get, length, replicate, refl, sym, ◌∙◌, ap, subst, Some}
use Rattle.std.specs.Prelude.{pos}
use Rattle.std.specs.List.{AllByRecursion}
use Rattle.std.proofs.Math.Nat.{mod-lt, zero-mod}
use Rattle.std.proofs.lemmas.List.Elements.{recursion_from_All}
use Rattle.std.proofs.lemmas.List.FromFn.{get_or-range_with_len, length-range_with_len}
use Rattle.std.proofs.lemmas.Option.{get_or_from_slice_get}
use Rattle.clif_types.specs.declared.types.«Type».{«Type»}
use Rattle.clif_types.specs.Types.{bits_of, bytes_of}
use Rattle.clif_opcodes.specs.declared.opcodes.FloatConstOpcode.{FloatConstOpcode}
use Rattle.clif_opcodes.specs.declared.opcodes.ConvertOpcode.TheVariants.{Splat, Uextend}
use Rattle.clif_opcodes.specs.declared.opcodes.PooledConstOpcode.{PooledConstOpcode}
use Rattle.clif_opcodes.specs.declared.opcodes.PooledConstOpcode.TheVariants.{F128const}
use Rattle.clif_instructions.specs.declared.instructions.InstructionData.{InstructionData}
use Rattle.clif_instructions.specs.declared.instructions.InstructionData.TheVariants.{UnaryImm, UnaryIeee, UnaryConst, Convert}
use Rattle.clif_instructions.specs.Instruction.{operands}
use Rattle.clif_ir.specs.Body.{Body, inst_at}
use Rattle.clif_ssa.specs.declared.zeros.ZeroKind.{ZeroKind}
use Rattle.clif_ssa.specs.declared.zeros.ZeroKind.TheVariants as made
use Rattle.clif_ssa.specs.Structure.{IsNeededZero}
use Rattle.clif_ssa.specs.Zeros.{HasZero, HasZeros, IsStep, ZeroAt, ZeroStep, insts_of_zero, insts_of_zeros, kind_of_zero, steps_of_kind, zero_row, zero_steps}
use Rattle.clif_ssa.proofs.ZeroTable.{none_some, same_some, step_there}
use Rattle.clif_meaning.specs.Bits.{Bits, IsValue, value_of_bytes}
use Rattle.clif_tables.specs.Callees.{types_of}
use Rattle.clif_meaning.specs.Memory.{Memory}
use Rattle.clif_meaning.specs.Outcome.{float_type, low_bits_at, outcome_of, pooled_type}
use Rattle.clif_meaning.specs.Typing.{call_shape}
use Rattle.clif_meaning.specs.View.{constant_at, controlling_of, operation_of, placed_of, view_of}
use Rattle.clif_meaning.specs.World.{World}
use Rattle.clif_meaning.proofs.SampleWorld.{pow_pos}
use Rattle.clif_simulation.proofs.Carrying.{all_append}
use Rattle.clif_typed_runs.specs.ValuesFit.{HoldValues}
use Rattle.clif_typed_runs.proofs.FunctionSteps.{GivesFitting}
use Rattle.clif_typed_runs.proofs.Outcomes.{GivesValues}

-- what an instruction of this shape, with these results, gives fits, wherever all values fit
abbrev ShapeFits : Body → InstructionData → List ℕ → Type 0
ShapeFits f shape results =
    (world : World) (bits : ℕ → Bits) (memory : Memory) → HoldValues (view_of f).value_type bits
    → GivesValues (map (view_of f).value_type results) (types_of f.signature.returns) (call_shape (operation_of f.tables shape))
    (outcome_of world (operation_of f.tables shape) (controlling_of f shape results) (map (view_of f).value_type (operands shape)) (map bits (operands shape)) memory)

-- so does a step of a zero
abbrev StepFits : Body → ZeroStep → Type 0
StepFits f step = (constant before value : ℕ) → HasZeros f constant step.size → ShapeFits f (step.shape constant before) (value ∷ [])

-- the low bits of zero are zero, which fits every type
low_zero_fits : (ty other : «Type») (number : ℕ) → number ≡ 0 → IsValue ty (low_bits_at other number)
low_zero_fits ty other number none =
    subst (IsValue ty) (sym (ap (low_bits_at other) none ∙ zero-mod (2 ^ bits_of other))) (pow_pos (bits_of ty))

no_bytes : (size : ℕ) → value_of_bytes (replicate size 0) ≡ 0
no_bytes zero = refl
no_bytes (suc size) = ap (λ n. 0 + 256 * n) (no_bytes size)

module _ (f : Body) where
  number_fits : (value : ℕ) → ShapeFits f (UnaryImm (pos 0)) (value ∷ [])
  number_fits value world bits memory holds = (mod-lt 0 (pow_pos (bits_of ((view_of f).value_type value))), tt)

  float_fits : (opcode : FloatConstOpcode) (value : ℕ) → ShapeFits f (UnaryIeee opcode 0) (value ∷ [])
  float_fits opcode value world bits memory holds = (low_zero_fits ((view_of f).value_type value) (float_type opcode) 0 refl, tt)

  extended_fits : (before value : ℕ) → ShapeFits f (Convert Uextend before) (value ∷ [])
  extended_fits before value world bits memory holds = (mod-lt _ (pow_pos (bits_of ((view_of f).value_type value))), tt)

  splat_fits : (before value : ℕ) → ShapeFits f (Convert Splat before) (value ∷ [])
  splat_fits before value world bits memory holds = (mod-lt _ (pow_pos (bits_of ((view_of f).value_type value))), tt)

  pooled_fits : (opcode : PooledConstOpcode) (constant size value : ℕ) → HasZeros f constant (Some size) → ShapeFits f (UnaryConst opcode constant) (value ∷ [])
  pooled_fits opcode constant size value has world bits memory holds =
      let bytes : constant_at f.tables constant ≡ replicate size 0 = get_or_from_slice_get f.tables.constants constant (replicate size 0) [] has in (
        low_zero_fits ((view_of f).value_type value) (pooled_type opcode (controlling_of f (UnaryConst opcode constant) (value ∷ []))) (value_of_bytes (constant_at f.tables constant))
            (ap value_of_bytes bytes ∙ no_bytes size),
        tt,
      )

  kind_fits : (kind : ZeroKind) (ty : «Type») → AllByRecursion (StepFits f) (steps_of_kind kind ty)
  kind_fits made.Number ty = ((λ constant before value has. number_fits value), tt)
  kind_fits made.Extended ty = ((λ constant before value has. number_fits value), ((λ constant before value has. extended_fits before value), tt))
  kind_fits (made.Float opcode) ty = ((λ constant before value has. float_fits opcode value), tt)
  kind_fits (made.Splatted opcode) ty = ((λ constant before value has. float_fits opcode value), ((λ constant before value has. splat_fits before value), tt))
  kind_fits (made.Pooled opcode) ty = ((λ constant before value has. pooled_fits opcode constant (bytes_of ty) value has), tt)
  kind_fits made.SplattedPooled ty =
      ((λ constant before value has. pooled_fits F128const constant 16 value has), ((λ constant before value has. splat_fits before value), tt))

  steps_fit : (ty : «Type») → AllByRecursion (StepFits f) (zero_steps ty)
  unfolding zero_row
  steps_fit ty = kind_fits (kind_of_zero ty) ty

  at_place : (steps : List ZeroStep) (k : ℕ) (step : ZeroStep) → AllByRecursion (StepFits f) steps → slice_get steps k ≡ Some step → StepFits f step
  at_place [] k step all is = absurd (none_some is)
  at_place (first ∷ steps) zero step all is = subst (StepFits f) (same_some is) all.0
  at_place (first ∷ steps) (suc k) step all is = at_place steps k step all.1 is

  zero_fits : (z : ZeroAt) → HasZero f z → (k : ℕ) → k < length (zero_steps z.ty) → GivesFitting (view_of f) (placed_of f (z.inst + k))
  zero_fits z has k inside =
      let step : (s : ZeroStep) × (slice_get (zero_steps z.ty) k ≡ Some s) = step_there z.ty k inside in
      let at : IsStep f (z.inst + k) (z.value + k) step.0 = has k step.0 step.1 in
      let fits = at_place (zero_steps z.ty) k step.0 (steps_fit z.ty) step.1 at.constant ((z.value + k) - 1) (z.value + k) at.zeros in
      subst (λ (shape : InstructionData). ShapeFits f shape (inst_at f (z.inst + k)).results) (sym at.shape)
      (subst (ShapeFits f (step.0.shape at.constant ((z.value + k) - 1))) (sym at.result) fits)

  insts_fit : (z : ZeroAt) → HasZero f z → AllByRecursion (λ inst. GivesFitting (view_of f) (placed_of f inst)) (insts_of_zero z)
  insts_fit z has =
      recursion_from_All (λ inst. GivesFitting (view_of f) (placed_of f inst)) (insts_of_zero z)
      (λ k d below.
      let inside : k < length (zero_steps z.ty) = subst (λ n. k < n) (length-range_with_len z.inst (length (zero_steps z.ty))) below in
      subst (λ inst. GivesFitting (view_of f) (placed_of f inst)) (sym (get_or-range_with_len z.inst (length (zero_steps z.ty)) k d inside)) (zero_fits z has k inside))

  -- what each instruction of needed zeros gives fits
  pub zeros_fit : (zeros : List ZeroAt) → AllByRecursion (IsNeededZero f) zeros
      → AllByRecursion (λ inst. GivesFitting (view_of f) (placed_of f inst)) (insts_of_zeros zeros)
  zeros_fit [] needed = tt
  zeros_fit (z ∷ zeros) needed =
      all_append (λ inst. GivesFitting (view_of f) (placed_of f inst)) (insts_of_zero z) (insts_of_zeros zeros)
      (insts_fit z needed.0.stands) (zeros_fit zeros needed.1)
