use Rattle.std.proofs.Common.{◌≡◌, ℕ, zero, suc, refl, sym, ◌∙◌, subst, ap}
use Rattle.std.specs.Prelude.{pos}
use Rattle.clif_types.specs.declared.types.LaneType.TheVariants as lane
use Rattle.clif_types.specs.declared.types.«Type».{«Type»}
use Rattle.clif_types.specs.declared.types.«Type».TheVariants as type
use Rattle.clif_opcodes.specs.declared.opcodes.ConvertOpcode.TheVariants.{Splat, Uextend}
use Rattle.clif_opcodes.specs.declared.opcodes.FloatConstOpcode.{FloatConstOpcode}
use Rattle.clif_opcodes.specs.declared.opcodes.PooledConstOpcode.{PooledConstOpcode}
use Rattle.clif_opcodes.specs.declared.opcodes.PooledConstOpcode.TheVariants.{F128const}
use Rattle.clif_instructions.specs.declared.instructions.InstructionData.{InstructionData}
use Rattle.clif_instructions.specs.declared.instructions.InstructionData.TheVariants.{UnaryImm, UnaryIeee, UnaryConst, Convert}
use Rattle.clif_ssa.specs.declared.zeros.ZeroKind.TheVariants as made
use Rattle.clif_ssa.specs.Zeros.{IsStepAt, first_or_last_step, float_type, kind_of_zero, only_step, zero_row}
use Rattle.clif_ssa.proofs.zeros.zero_step.Goals as goal

number : (ty : «Type») (place constant before : ℕ) → kind_of_zero ty ≡ made.Number → IsStepAt ty place constant before (only_step place (UnaryImm (pos 0)) ty)
unfolding zero_row
number ty zero constant before is = rw (is) refl
number ty (suc place) constant before is = rw (is) refl

float : (ty : «Type») (opcode : FloatConstOpcode) (place constant before : ℕ) → kind_of_zero ty ≡ made.Float opcode
    → IsStepAt ty place constant before (only_step place (UnaryIeee opcode 0) ty)
unfolding zero_row
float ty opcode zero constant before is = rw (is) refl
float ty opcode (suc place) constant before is = rw (is) refl

pooled : (ty : «Type») (opcode : PooledConstOpcode) (place constant before : ℕ) → kind_of_zero ty ≡ made.Pooled opcode
    → IsStepAt ty place constant before (only_step place (UnaryConst opcode constant) ty)
unfolding zero_row
pooled ty opcode zero constant before is = rw (is) refl
pooled ty opcode (suc place) constant before is = rw (is) refl

extended : (ty : «Type») (place constant before : ℕ) → kind_of_zero ty ≡ made.Extended
    → IsStepAt ty place constant before (first_or_last_step place (UnaryImm (pos 0)) (type.Lane lane.I64) (Convert Uextend before) ty)
unfolding zero_row
extended ty zero constant before is = rw (is) refl
extended ty (suc zero) constant before is = rw (is) refl
extended ty (suc (suc place)) constant before is = rw (is) refl

splatted : (ty : «Type») (opcode : FloatConstOpcode) (place constant before : ℕ) → kind_of_zero ty ≡ made.Splatted opcode
    → IsStepAt ty place constant before (first_or_last_step place (UnaryIeee opcode 0) (float_type opcode) (Convert Splat before) ty)
unfolding zero_row
splatted ty opcode zero constant before is = rw (is) refl
splatted ty opcode (suc zero) constant before is = rw (is) refl
splatted ty opcode (suc (suc place)) constant before is = rw (is) refl

splatted_pooled : (ty : «Type») (place constant before : ℕ) → kind_of_zero ty ≡ made.SplattedPooled
    → IsStepAt ty place constant before (first_or_last_step place (UnaryConst F128const constant) (type.Lane lane.F128) (Convert Splat before) ty)
unfolding zero_row
splatted_pooled ty zero constant before is = rw (is) refl
splatted_pooled ty (suc zero) constant before is = rw (is) refl
splatted_pooled ty (suc (suc place)) constant before is = rw (is) refl

pub returns-in-Number : goal.returns-in-Number
returns-in-Number c =
    subst (IsStepAt c.args.ty c.args.place c.args.constant c.args.before) (sym c.only.ensures)
    (number c.args.ty c.args.place c.args.constant c.args.before (sym c.kind_of_zero.ensures ∙ c.in-Number.is))

pub returns-in-Extended : goal.returns-in-Extended
returns-in-Extended c =
    subst (IsStepAt c.args.ty c.args.place c.args.constant c.args.before) (sym c.first_or_last.ensures)
    (extended c.args.ty c.args.place c.args.constant c.args.before (sym c.kind_of_zero.ensures ∙ c.in-Extended.is))

pub returns-in-Float : goal.returns-in-Float
returns-in-Float c =
    subst (IsStepAt c.args.ty c.args.place c.args.constant c.args.before) (sym c.only-in-Float.ensures)
    (float c.args.ty c.in-Float.opcode c.args.place c.args.constant c.args.before (sym c.kind_of_zero.ensures ∙ c.in-Float.is))

pub returns-in-Pooled : goal.returns-in-Pooled
returns-in-Pooled c =
    subst (IsStepAt c.args.ty c.args.place c.args.constant c.args.before) (sym c.only-in-Pooled.ensures)
    (pooled c.args.ty c.in-Pooled.opcode c.args.place c.args.constant c.args.before (sym c.kind_of_zero.ensures ∙ c.in-Pooled.is))

pub returns-in-Splatted : goal.returns-in-Splatted
returns-in-Splatted c =
    let step =
    ap (λ (t : «Type»). first_or_last_step c.args.place (UnaryIeee c.in-Splatted.opcode 0) t c.splat.result c.args.ty) c.float_type.ensures
    ∙ ap (λ (last : InstructionData). first_or_last_step c.args.place (UnaryIeee c.in-Splatted.opcode 0) (float_type c.in-Splatted.opcode) last c.args.ty) c.splat.ensures in
    subst (IsStepAt c.args.ty c.args.place c.args.constant c.args.before) (sym (c.first_or_last-in-Splatted.ensures ∙ step))
    (splatted c.args.ty c.in-Splatted.opcode c.args.place c.args.constant c.args.before (sym c.kind_of_zero.ensures ∙ c.in-Splatted.is))

pub returns-in-SplattedPooled : goal.returns-in-SplattedPooled
returns-in-SplattedPooled c =
    let step =
    ap (λ (last : InstructionData). first_or_last_step c.args.place (UnaryConst F128const c.args.constant) (type.Lane lane.F128) last c.args.ty) c.splat-in-SplattedPooled.ensures in
    subst (IsStepAt c.args.ty c.args.place c.args.constant c.args.before) (sym (c.first_or_last-in-SplattedPooled.ensures ∙ step))
    (splatted_pooled c.args.ty c.args.place c.args.constant c.args.before (sym c.kind_of_zero.ensures ∙ c.in-SplattedPooled.is))
