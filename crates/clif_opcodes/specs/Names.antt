-- The names of the instructions, as Cranelift's text format writes them.
use Rattle.std.specs.Prelude.{List, ℕ, codes}
use Rattle.clif_opcodes.specs.declared.opcodes.FloatConstOpcode.{FloatConstOpcode}
use Rattle.clif_opcodes.specs.declared.opcodes.FloatConstOpcode.TheVariants as float
use Rattle.clif_opcodes.specs.declared.opcodes.PooledConstOpcode.{PooledConstOpcode}
use Rattle.clif_opcodes.specs.declared.opcodes.PooledConstOpcode.TheVariants as pooled
use Rattle.clif_opcodes.specs.declared.opcodes.UnaryOpcode.{UnaryOpcode}
use Rattle.clif_opcodes.specs.declared.opcodes.UnaryOpcode.TheVariants as unary
use Rattle.clif_opcodes.specs.declared.opcodes.ConvertOpcode.{ConvertOpcode}
use Rattle.clif_opcodes.specs.declared.opcodes.ConvertOpcode.TheVariants as convert
use Rattle.clif_opcodes.specs.declared.opcodes.BinaryOpcode.{BinaryOpcode}
use Rattle.clif_opcodes.specs.declared.opcodes.BinaryOpcode.TheVariants as binary
use Rattle.clif_opcodes.specs.declared.opcodes.StackOpcode.{StackOpcode}
use Rattle.clif_opcodes.specs.declared.opcodes.StackOpcode.TheVariants as stack
use Rattle.clif_opcodes.specs.declared.opcodes.CondTrapOpcode.{CondTrapOpcode}
use Rattle.clif_opcodes.specs.declared.opcodes.CondTrapOpcode.TheVariants as cond_trap
use Rattle.clif_opcodes.specs.declared.opcodes.Opcode.{Opcode}
use Rattle.clif_opcodes.specs.declared.opcodes.Opcode.TheVariants as opcode

abbrev pub float_const_name : FloatConstOpcode → List ℕ
float_const_name float.F16const = codes "f16const"
float_const_name float.F32const = codes "f32const"
float_const_name float.F64const = codes "f64const"

abbrev pub pooled_const_name : PooledConstOpcode → List ℕ
pooled_const_name pooled.F128const = codes "f128const"
pooled_const_name pooled.Vconst = codes "vconst"

abbrev pub unary_name : UnaryOpcode → List ℕ
unary_name unary.Ineg = codes "ineg"
unary_name unary.Bnot = codes "bnot"

abbrev pub convert_name : ConvertOpcode → List ℕ
convert_name convert.Splat = codes "splat"
convert_name convert.Uextend = codes "uextend"
convert_name convert.Sextend = codes "sextend"
convert_name convert.Ireduce = codes "ireduce"

abbrev pub binary_name : BinaryOpcode → List ℕ
binary_name binary.Iadd = codes "iadd"
binary_name binary.Isub = codes "isub"
binary_name binary.Imul = codes "imul"
binary_name binary.Band = codes "band"
binary_name binary.Bor = codes "bor"
binary_name binary.Bxor = codes "bxor"
binary_name binary.Ishl = codes "ishl"
binary_name binary.Ushr = codes "ushr"
binary_name binary.Sshr = codes "sshr"
binary_name binary.Udiv = codes "udiv"
binary_name binary.Sdiv = codes "sdiv"
binary_name binary.Urem = codes "urem"
binary_name binary.Srem = codes "srem"

abbrev pub stack_name : StackOpcode → List ℕ
stack_name stack.StackAddr = codes "stack_addr"
stack_name stack.StackLoad = codes "stack_load"

abbrev pub cond_trap_name : CondTrapOpcode → List ℕ
cond_trap_name cond_trap.Trapz = codes "trapz"
cond_trap_name cond_trap.Trapnz = codes "trapnz"

abbrev pub opcode_name : Opcode → List ℕ
opcode_name opcode.Iconst = codes "iconst"
opcode_name (opcode.FloatConst o) = float_const_name o
opcode_name (opcode.PooledConst o) = pooled_const_name o
opcode_name (opcode.Unary o) = unary_name o
opcode_name (opcode.Binary o) = binary_name o
opcode_name (opcode.Convert o) = convert_name o
opcode_name opcode.Iconcat = codes "iconcat"
opcode_name opcode.Isplit = codes "isplit"
opcode_name opcode.Icmp = codes "icmp"
opcode_name opcode.Select = codes "select"
opcode_name opcode.Load = codes "load"
opcode_name opcode.Store = codes "store"
opcode_name (opcode.Stack o) = stack_name o
opcode_name opcode.StackStore = codes "stack_store"
opcode_name opcode.Jump = codes "jump"
opcode_name opcode.Brif = codes "brif"
opcode_name opcode.BrTable = codes "br_table"
opcode_name opcode.Return = codes "return"
opcode_name opcode.Trap = codes "trap"
opcode_name (opcode.CondTrap o) = cond_trap_name o
opcode_name opcode.Call = codes "call"
opcode_name opcode.CallIndirect = codes "call_indirect"
opcode_name opcode.TryCall = codes "try_call"
opcode_name opcode.TryCallIndirect = codes "try_call_indirect"
