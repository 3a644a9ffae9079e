-- The texts of types and of plain data, as the printer writes them.
use Rattle.std.specs.Prelude.{◌++◌, ◌==◌, ◌/◌, ◌%◌, List, [], ◌∷◌, ℕ, Option, Some, None, codes, flat_map, reverse, if◌then◌else◌}
use Rattle.std.specs.Char.{digit_char}
use Rattle.std.specs.Fmt.{decimal}
use Rattle.std.specs.List.{join_by}
use Rattle.clif_types.specs.Signature.{SignatureShape}
use Rattle.clif_types.specs.declared.types.LaneType.{LaneType}
use Rattle.clif_types.specs.declared.types.LaneType.TheVariants as lane
use Rattle.clif_types.specs.declared.types.«Type».{«Type»}
use Rattle.clif_types.specs.declared.types.«Type».TheVariants as type
use Rattle.clif_types.specs.declared.call_conv.CallConv.{CallConv}
use Rattle.clif_types.specs.declared.call_conv.CallConv.TheVariants as conv
use Rattle.clif_types.specs.declared.condcodes.IntCC.{IntCC}
use Rattle.clif_types.specs.declared.condcodes.IntCC.TheVariants as cc
use Rattle.clif_types.specs.declared.trapcode.TrapCode.{TrapCode}
use Rattle.clif_types.specs.declared.trapcode.TrapCode.TheVariants as trap
use Rattle.clif_types.specs.declared.libcall.LibCall.{LibCall}
use Rattle.clif_types.specs.declared.libcall.LibCall.TheVariants as libcall
use Rattle.clif_types.specs.declared.extname.UserFuncName.{UserFuncName}
use Rattle.clif_types.specs.declared.extname.UserFuncName.TheVariants as func_name
use Rattle.clif_types.specs.declared.extname.ExternalName.{ExternalName}
use Rattle.clif_types.specs.declared.extname.ExternalName.TheVariants as name
use Rattle.clif_types.specs.declared.extname.UserExternalName.{UserExternalName}
use Rattle.clif_types.specs.declared.error.BuildError.{BuildError}
use Rattle.clif_types.specs.declared.error.BuildError.TheVariants as build_error
use Rattle.clif_types.specs.declared.globalvalue.GlobalValueData.{GlobalValueData}
use Rattle.clif_types.specs.declared.globalvalue.GlobalValueData.TheVariants as global
use Rattle.clif_types.specs.declared.extfunc.AbiParam.{AbiParam}
use Rattle.clif_types.specs.declared.extfunc.ExtFuncData.{ExtFuncData}
use Rattle.clif_types.specs.declared.stackmap.UserStackMapEntry.{UserStackMapEntry}
use Rattle.clif_types.specs.StackSlot.{StackSlotShape, align_of}
use Rattle.clif_types.specs.MemFlags.{MemFlagsShape}
use Rattle.clif_types.specs.Types.{lanes_of}

-- `i8`, `f32`
abbrev pub lane_text : LaneType → List ℕ
lane_text lane.I8 = codes "i8"
lane_text lane.I16 = codes "i16"
lane_text lane.I32 = codes "i32"
lane_text lane.I64 = codes "i64"
lane_text lane.I128 = codes "i128"
lane_text lane.F16 = codes "f16"
lane_text lane.F32 = codes "f32"
lane_text lane.F64 = codes "f64"
lane_text lane.F128 = codes "f128"

-- `i8`, `f32x4`; the invalid type has the text that Cranelift's `Debug` gives it
abbrev pub type_text : «Type» → List ℕ
type_text type.Invalid = codes "types::INVALID"
type_text (type.Lane l) = lane_text l
type_text (type.Vector l n) = lane_text l ++ codes "x" ++ decimal (lanes_of n)

-- `fast`
abbrev pub call_conv_text : CallConv → List ℕ
call_conv_text conv.Fast = codes "fast"
call_conv_text conv.SystemV = codes "system_v"
call_conv_text conv.Tail = codes "tail"

-- `eq`
abbrev pub int_cc_text : IntCC → List ℕ
int_cc_text cc.Equal = codes "eq"
int_cc_text cc.NotEqual = codes "ne"
int_cc_text cc.SignedLessThan = codes "slt"
int_cc_text cc.SignedGreaterThanOrEqual = codes "sge"
int_cc_text cc.SignedGreaterThan = codes "sgt"
int_cc_text cc.SignedLessThanOrEqual = codes "sle"
int_cc_text cc.UnsignedLessThan = codes "ult"
int_cc_text cc.UnsignedGreaterThanOrEqual = codes "uge"
int_cc_text cc.UnsignedGreaterThan = codes "ugt"
int_cc_text cc.UnsignedLessThanOrEqual = codes "ule"

-- `user7`, `int_ovf`
abbrev pub trap_code_text : TrapCode → List ℕ
trap_code_text (trap.User code) = codes "user" ++ decimal code
trap_code_text trap.IntegerOverflow = codes "int_ovf"
trap_code_text trap.DivisionByZero = codes "int_divz"
trap_code_text trap.HeapOutOfBounds = codes "heap_oob"

-- `Memcpy`
abbrev pub lib_call_text : LibCall → List ℕ
lib_call_text libcall.Memcpy = codes "Memcpy"
lib_call_text libcall.Memmove = codes "Memmove"
lib_call_text libcall.Memset = codes "Memset"
lib_call_text libcall.Memcmp = codes "Memcmp"

-- `u0:0`
abbrev pub user_external_name_text : UserExternalName → List ℕ
user_external_name_text n = codes "u" ++ decimal n.namespace ++ codes ":" ++ decimal n.index

-- `%sample`
abbrev pub testcase_text : List ℕ → List ℕ
testcase_text text = codes "%" ++ text

-- the name of a function that is being built
abbrev pub user_func_name_text : UserFuncName → List ℕ
user_func_name_text (func_name.User n) = user_external_name_text n
user_func_name_text (func_name.Testcase text) = testcase_text text

-- the name of an imported function or symbol, `%Memcpy` for one of the C library
abbrev pub external_name_text : ExternalName → List ℕ
external_name_text (name.User n) = user_external_name_text n
external_name_text (name.TestCase text) = testcase_text text
external_name_text (name.LibCall c) = codes "%" ++ lib_call_text c

-- a parameter is shown by its type
abbrev pub abi_param_text : AbiParam → List ℕ
abi_param_text p = type_text p.value_type

-- `i32, i64`
abbrev pub types_text : List AbiParam → List ℕ
types_text params = join_by abi_param_text (codes ", ") params

-- ` -> i32`, and nothing where nothing is returned
abbrev pub returns_text : List AbiParam → List ℕ
returns_text [] = []
returns_text (first ∷ others) = codes " -> " ++ types_text (first ∷ others)

-- `(i32, i64) -> i32 system_v`
abbrev pub signature_text : SignatureShape → List ℕ
signature_text s = codes "(" ++ types_text s.params ++ codes ")" ++ returns_text s.returns ++ codes " " ++ call_conv_text s.call_conv

-- what an imported function's line says after `=`
abbrev pub ext_func_text : ExtFuncData → List ℕ
ext_func_text x = (if x.colocated then codes "colocated " else []) ++ (if x.patchable then codes "patchable " else []) ++ external_name_text x.name ++ codes " sig" ++ decimal x.signature

-- the alignment is left out where it is 1
abbrev pub stack_slot_text : StackSlotShape → List ℕ
stack_slot_text s = codes "explicit_slot " ++ decimal s.size ++ (if s.align_shift == 0 then [] else codes ", align = " ++ decimal (align_of s))

-- what a global value's line says after `=`
abbrev pub global_value_text : GlobalValueData → List ℕ
global_value_text global.VMContext = codes "vmctx"
global_value_text (global.Symbol n) = codes "symbol " ++ external_name_text n

-- each flag after a space, in this order
abbrev pub mem_flags_text : MemFlagsShape → List ℕ
mem_flags_text m = (if m.notrap then codes " notrap" else []) ++ (if m.aligned then codes " aligned" else []) ++ region_text m.alias_region
  where
    region_text : Option ℕ → List ℕ
    region_text None = []
    region_text (Some r) = codes " region" ++ decimal r

-- `i32 @ ss0+0`
abbrev pub stack_map_entry_text : UserStackMapEntry → List ℕ
stack_map_entry_text e = type_text e.ty ++ codes " @ ss" ++ decimal e.slot ++ codes "+" ++ decimal e.offset

-- the texts of refusals
abbrev pub build_error_text : BuildError → List ℕ
build_error_text build_error.Memory = codes "no memory"
build_error_text build_error.Full = codes "table full"
build_error_text build_error.Failed = codes "failed before"

-- a byte in two hexadecimal digits, the letters in lower case
abbrev pub byte_text : ℕ → List ℕ
byte_text byte = digit_char (byte / 16) ∷ digit_char (byte % 16) ∷ []

-- `0x` and the bytes from last to first, as a constant is printed
abbrev pub bytes_text : List ℕ → List ℕ
bytes_text bytes = codes "0x" ++ flat_map byte_text (reverse bytes)
