-- What an instruction of a script is: its format, opcode and operands. After Cranelift's `InstructionData`, with names in
-- place of values.
use Rattle.std.specs.Prelude.{ℕ, List, [], ◌∷◌}
use Rattle.clif_opcodes.specs.declared.opcodes.BinaryOpcode.TheVariants as binary
use Rattle.clif_opcodes.specs.declared.opcodes.CondTrapOpcode.TheVariants as cond_trap
use Rattle.clif_opcodes.specs.declared.opcodes.ConvertOpcode.TheVariants as convert
use Rattle.clif_opcodes.specs.declared.opcodes.FloatConstOpcode.{FloatConstOpcode}
use Rattle.clif_opcodes.specs.declared.opcodes.FloatConstOpcode.TheVariants as float_const
use Rattle.clif_opcodes.specs.declared.opcodes.StackOpcode.TheVariants as stack
use Rattle.clif_opcodes.specs.declared.opcodes.UnaryOpcode.TheVariants as unary
use Rattle.clif_calls.specs.declared.call.Edge.{Edge}
use Rattle.clif_calls.specs.declared.call.Name.{Name}
use Rattle.clif_calls.specs.declared.call.PlainInstruction.{PlainInstruction}
use Rattle.clif_calls.specs.declared.call.PlainInstruction.TheVariants as plain
use Rattle.clif_calls.specs.declared.plan.Plan.{Plan}
use Rattle.clif_calls.specs.declared.plan.Plan.TheVariants as plan

-- the format of each instruction that neither branches nor ends its block
abbrev pub plan_of : PlainInstruction → Plan
plan_of (plain.Iconst ty imm) = plan.UnaryImm ty imm
plan_of (plain.F16const bits) = plan.UnaryIeee float_const.F16const bits
plan_of (plain.F32const bits) = plan.UnaryIeee float_const.F32const bits
plan_of (plain.F64const bits) = plan.UnaryIeee float_const.F64const bits
plan_of (plain.Iadd x y) = plan.Binary binary.Iadd (x ∷ y ∷ [])
plan_of (plain.Isub x y) = plan.Binary binary.Isub (x ∷ y ∷ [])
plan_of (plain.Imul x y) = plan.Binary binary.Imul (x ∷ y ∷ [])
plan_of (plain.Band x y) = plan.Binary binary.Band (x ∷ y ∷ [])
plan_of (plain.Bor x y) = plan.Binary binary.Bor (x ∷ y ∷ [])
plan_of (plain.Bxor x y) = plan.Binary binary.Bxor (x ∷ y ∷ [])
plan_of (plain.Ishl x y) = plan.Binary binary.Ishl (x ∷ y ∷ [])
plan_of (plain.Ushr x y) = plan.Binary binary.Ushr (x ∷ y ∷ [])
plan_of (plain.Sshr x y) = plan.Binary binary.Sshr (x ∷ y ∷ [])
plan_of (plain.Udiv x y) = plan.Binary binary.Udiv (x ∷ y ∷ [])
plan_of (plain.Sdiv x y) = plan.Binary binary.Sdiv (x ∷ y ∷ [])
plan_of (plain.Urem x y) = plan.Binary binary.Urem (x ∷ y ∷ [])
plan_of (plain.Srem x y) = plan.Binary binary.Srem (x ∷ y ∷ [])
plan_of (plain.Splat ty x) = plan.Convert convert.Splat ty x
plan_of (plain.Uextend ty x) = plan.Convert convert.Uextend ty x
plan_of (plain.Sextend ty x) = plan.Convert convert.Sextend ty x
plan_of (plain.Ireduce ty x) = plan.Convert convert.Ireduce ty x
plan_of (plain.Iconcat x y) = plan.Concat (x ∷ y ∷ [])
plan_of (plain.Isplit x) = plan.Split x
plan_of (plain.Icmp cond x y) = plan.IntCompare cond (x ∷ y ∷ [])
plan_of (plain.Select c x y) = plan.Ternary (c ∷ x ∷ y ∷ [])
plan_of (plain.Ineg x) = plan.Unary unary.Ineg x
plan_of (plain.Bnot x) = plan.Unary unary.Bnot x
plan_of (plain.Load ty flags p offset) = plan.Load flags ty p offset
plan_of (plain.Store flags x p offset) = plan.Store flags (x ∷ p ∷ []) offset
plan_of (plain.StackAddr ty slot offset) = plan.StackLoad stack.StackAddr ty slot offset
plan_of (plain.StackLoad ty slot offset) = plan.StackLoad stack.StackLoad ty slot offset
plan_of (plain.StackStore x slot offset) = plan.StackStore x slot offset
plan_of (plain.Trapz c code) = plan.CondTrap cond_trap.Trapz c code
plan_of (plain.Trapnz c code) = plan.CondTrap cond_trap.Trapnz c code

-- the width of a float constant's type
abbrev pub float_width : FloatConstOpcode → ℕ
float_width float_const.F16const = 16
float_width float_const.F32const = 32
float_width float_const.F64const = 64

-- the names of the operands, in order
abbrev pub operands_in : Plan → List Name
operands_in (plan.Unary opcode arg) = arg ∷ []
operands_in (plan.Binary opcode args) = args
operands_in (plan.Convert opcode ty arg) = arg ∷ []
operands_in (plan.Concat args) = args
operands_in (plan.Split arg) = arg ∷ []
operands_in (plan.IntCompare cond args) = args
operands_in (plan.Ternary args) = args
operands_in (plan.Load flags ty arg offset) = arg ∷ []
operands_in (plan.Store flags args offset) = args
operands_in (plan.StackStore arg slot offset) = arg ∷ []
operands_in (plan.CondTrap opcode arg code) = arg ∷ []
operands_in (plan.Brif condition block_then block_else) = condition ∷ []
operands_in (plan.MultiAry args) = args.now
operands_in _ = []

-- the edges, in order
abbrev pub edges_in : Plan → List Edge
edges_in (plan.Jump destination) = destination.now ∷ []
edges_in (plan.Brif condition block_then block_else) = block_then.now ∷ block_else.now ∷ []
edges_in _ = []
