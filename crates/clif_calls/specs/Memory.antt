-- What calls of memory helpers answer, and which functions of the C library their code calls. After Cranelift's `call_memcpy`,
-- `call_memmove`, `call_memset`, `call_memcmp`, `emit_small_memory_copy`, `emit_small_memset` and `emit_small_memory_compare`.
use Rattle.std.specs.Prelude.{Bool, false, if◌then◌else◌, Option, Some, None, ◌==◌}
use Rattle.clif_types.specs.declared.libcall.LibCall.{LibCall}
use Rattle.clif_types.specs.declared.libcall.LibCall.TheVariants.{Memcpy, Memmove, Memset, Memcmp}
use Rattle.clif_types.specs.declared.types.LaneType.TheVariants as lane
use Rattle.clif_types.specs.declared.types.«Type».{«Type»}
use Rattle.clif_types.specs.declared.types.«Type».TheVariants as type
use Rattle.clif_meaning.specs.ByteOperation.{is_unsigned}
use Rattle.clif_access_plans.specs.Plans.{compare_plan, move_plan}
use Rattle.clif_access_plans.specs.declared.comparing.ComparePlan.{ComparePlan}
use Rattle.clif_access_plans.specs.declared.comparing.ComparePlan.TheVariants as compare
use Rattle.clif_access_plans.specs.declared.moving.MovePlan.{MovePlan}
use Rattle.clif_access_plans.specs.declared.moving.MovePlan.TheVariants as move
use Rattle.clif_calls.specs.declared.memory.MemoryCall.{MemoryCall}
use Rattle.clif_calls.specs.declared.memory.MemoryCall.TheVariants as memory

-- the type of what it answers, if it compares
abbrev pub result_of : MemoryCall → Option «Type»
result_of (memory.CallLibrary Memcmp left right size) = Some (type.Lane lane.I32)
result_of (memory.Compare condition left right size left_alignment right_alignment flags) = Some (type.Lane lane.I8)
result_of _ = None

-- no bytes are copied or filled, so that nothing is made
abbrev pub is_nothing : MemoryCall → Bool
is_nothing (memory.Copy target source size target_alignment source_alignment apart flags) = size == 0
is_nothing (memory.Fill target byte size alignment flags) = size == 0
is_nothing _ = false

-- the function that copies bytes which don't overlap, or which may
abbrev pub copying_function : (apart : Bool) → LibCall
copying_function apart = if apart then Memcpy else Memmove

-- the function that is called where bytes are moved so: this one, if any
abbrev pub called_by_move : MovePlan → LibCall → Option LibCall
called_by_move move.LibraryCall callee = Some callee
called_by_move _ callee = None

-- the function that is called where bytes are compared so
abbrev pub called_by_compare : ComparePlan → Option LibCall
called_by_compare (compare.LibraryCall condition) = Some Memcmp
called_by_compare _ = None

-- The function of the C library that the code of a helper calls, if it calls one: it is imported anew, and its signature. Bytes
-- aren't compared as signed numbers.
abbrev pub called_function : MemoryCall → Option LibCall
called_function (memory.CallLibrary callee first second size) = Some callee
called_function (memory.Copy target source size target_alignment source_alignment apart flags) = called_by_move (move_plan size) (copying_function apart)
called_function (memory.Fill target byte size alignment flags) = called_by_move (move_plan size) Memset
called_function (memory.Compare condition left right size left_alignment right_alignment flags) =
    if is_unsigned condition then called_by_compare (compare_plan condition size) else None
