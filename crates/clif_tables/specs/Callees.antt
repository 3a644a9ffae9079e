-- What a call names in the tables of a function: a signature, by itself, by the function that is called, or by the exception
-- table of a try call. Source: own, after the documentation of Cranelift's calls. Own: of the two signatures that a try call
-- of a function names, its table's counts.
use Rattle.std.specs.Prelude.{ℕ, List, [], ◌+◌, ◌++◌, length, map, false, slice_index_or}
use Rattle.clif_types.specs.declared.types.«Type».{«Type»}
use Rattle.clif_types.specs.declared.call_conv.CallConv.TheVariants.{Fast}
use Rattle.clif_types.specs.declared.extfunc.AbiParam.{AbiParam}
use Rattle.clif_types.specs.declared.extfunc.ExtFuncData.{ExtFuncData}
use Rattle.clif_types.specs.declared.extname.ExternalName.TheVariants.{LibCall}
use Rattle.clif_types.specs.declared.libcall.LibCall.TheVariants.{Memcpy}
use Rattle.clif_types.specs.Signature.{SignatureShape}
use Rattle.clif_instructions.specs.declared.instructions.InstructionData.{InstructionData}
use Rattle.clif_instructions.specs.declared.instructions.InstructionData.TheVariants.{Call, CallIndirect, TryCall, TryCallIndirect}
use Rattle.clif_instructions.specs.Instruction.{result_count, result_types}
use Rattle.clif_tables.specs.Lists.{TableLists}

-- the types of parameters or of what is returned
abbrev pub types_of : List AbiParam → List «Type»
types_of params = map (λ (param : AbiParam). param.value_type) params

-- what stands for a signature or a function that isn't there
abbrev pub no_signature : SignatureShape
no_signature = record { params = []; returns = []; call_conv = Fast }

abbrev pub no_function : ExtFuncData
no_function = record { name = LibCall Memcpy; signature = 0; colocated = false; patchable = false }

abbrev pub signature_at : TableLists → ℕ → SignatureShape
signature_at t sig = slice_index_or t.signatures sig no_signature

abbrev pub function_at : TableLists → ℕ → ExtFuncData
function_at t function = slice_index_or t.functions function no_function

-- the parameters of what an instruction calls; none where it calls nothing
abbrev pub callee_params : TableLists → InstructionData → List AbiParam
callee_params t (Call function args) = (signature_at t (function_at t function).signature).params
callee_params t (CallIndirect sig args) = (signature_at t sig).params
callee_params t (TryCall function args table) = (signature_at t table.sig).params
callee_params t (TryCallIndirect args table) = (signature_at t table.sig).params
callee_params t shape = []

-- what a plain call gives. A try call gives nothing itself: what it gets is passed along its normal edge.
abbrev pub given_by_call : TableLists → InstructionData → List AbiParam
given_by_call t (Call function args) = (signature_at t (function_at t function).signature).returns
given_by_call t (CallIndirect sig args) = (signature_at t sig).returns
given_by_call t shape = []

-- the types of an instruction's results, in order: by its row of the typing table, and those of what a plain call gives
abbrev pub types_of_results : TableLists → InstructionData → «Type» → List «Type»
types_of_results t shape ty = result_types shape ty ++ types_of (given_by_call t shape)

-- how many there are
abbrev pub count_of_results : TableLists → InstructionData → ℕ
count_of_results t shape = result_count shape + length (given_by_call t shape)
