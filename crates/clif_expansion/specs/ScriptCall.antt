-- The calls of a script that may also emit instructions that only scripts have. Such a call is one step of the script's machine; its
-- answers are the instruction's results alone, and its change of the ledger and of the program is that of an instruction that is
-- built. Without one, all is as it is for the builder's own calls. What may be emitted is from the documentation of Cranelift's
-- `InstBuilder`; the rest is own.
use Rattle.std.specs.Prelude.{◌≡◌, ℕ, suc, ◌&&◌, ◌^◌, if◌then◌else◌, Bool, false, List, [], ◌∷◌, ◌++◌, map, fold, replicate, Option, None, true, option_map, Some, min, nat_le, nat_lt, ℤ, pos, negsuc}
use Rattle.std.specs.List.{list_all}
use Rattle.clif_types.specs.declared.types.LaneType.TheVariants as lane
use Rattle.clif_types.specs.declared.types.«Type».{«Type»}
use Rattle.clif_types.specs.declared.types.«Type».TheVariants as type
use Rattle.clif_types.specs.Types.{bits_of, is_int}
use Rattle.clif_types.specs.declared.libcall.LibCall.TheVariants.{Memset}
use Rattle.clif_tables.specs.Entries.{TableEntry, with_entry}
use Rattle.clif_meaning.specs.Acceptance.{Refusal, allows, can_lead, is_open, refusal_of}
use Rattle.clif_meaning.specs.ByteOperation.{ByteOperation, Copy, Fill, CompareBytes, CallLibrary, greatest_power, is_unsigned}
use Rattle.clif_meaning.specs.Instruction.{AddConstant, CompareConstant, Compute, Instruction, Operation, Bytes, Switch}
use Rattle.clif_meaning.specs.Ledger.{AValue, Answered, Ledger, answers_to, changed_by, empty_ledger, has_value, ledger_after, type_of, with_instruction}
use Rattle.clif_meaning.specs.Name.{Name}
use Rattle.clif_meaning.specs.Program.{Item, Instruct, Program, answers_from, empty_program, program_of, result_types, with_call, with_inserted, with_item}
use Rattle.clif_meaning.specs.Request.{Request, Script}
use Rattle.clif_meaning.specs.SameType.{same_type}
use Rattle.clif_expansion.specs.Keys.{SwitchRefusal, keys_refusal, table_count}

pub data ScriptCall : Type 0 where
  -- what the builder is asked
  Ask : Request → ScriptCall
  -- an instruction that only scripts have, at the end of the current block. Its code imports these entries of the function's tables.
  Emit : (imports : List TableEntry) → Instruction Name Name → ScriptCall

-- the types of an instruction's results
abbrev pub emitted_types : Instruction Name Name → List «Type»
emitted_types instruction = result_types instruction.operation instruction.controlling

-- THE LEDGER --------------------------------------------------------------------------------------------------------------

abbrev pub call_answers : Ledger → ScriptCall → List Answered
call_answers ledger (Ask request) = answers_to ledger request
call_answers ledger (Emit imports instruction) = map AValue (emitted_types instruction)

-- Behind a switch there is no current block: the builder's own is one that the script can't name. The switch has made jump tables,
-- which serve it.
abbrev pub ledger_behind : Operation → Ledger → Ledger
ledger_behind (Switch keys) ledger = record ledger { current = None; jump_tables = ledger.jump_tables ++ replicate (table_count keys keys) None }
ledger_behind _ ledger = ledger

-- with these entries at the ends of their tables
abbrev pub with_imports : List TableEntry → Ledger → Ledger
with_imports imports ledger = record ledger { tables = fold with_entry ledger.tables imports }

-- what a call changes, its answers aside
abbrev pub call_changes : Ledger → ScriptCall → Ledger
call_changes ledger (Ask request) = changed_by ledger request
call_changes ledger (Emit imports instruction) = ledger_behind instruction.operation (with_instruction (with_imports imports ledger) instruction)

abbrev pub ledger_with_call : Ledger → ScriptCall → Ledger
ledger_with_call ledger call = record (call_changes ledger call) { answers = ledger.answers ++ call_answers ledger call ∷ [] }

-- the ledger of these calls
abbrev pub ledger_of : List ScriptCall → Ledger
ledger_of calls = fold ledger_with_call empty_ledger calls

-- THE PROGRAM -------------------------------------------------------------------------------------------------------------

-- the item that is emitted at this place
abbrev pub emitted_item : ℕ → Instruction Name Name → Item
emitted_item place instruction = Instruct place instruction (answers_from place 0 (emitted_types instruction))

abbrev pub program_behind : Operation → Program → Program
program_behind (Switch keys) program = record program { current = None }
program_behind _ program = program

abbrev pub program_with_call : Program → ScriptCall → Program
program_with_call program (Ask request) = with_call program request
program_with_call program (Emit imports instruction) =
    record (program_behind instruction.operation (with_item (with_inserted program) (emitted_item program.place instruction))) { place = suc program.place }

-- the variable program of these calls
abbrev pub program_of_calls : List ScriptCall → Program
program_of_calls calls = fold program_with_call empty_program calls

-- WHAT MAY BE CALLED ------------------------------------------------------------------------------------------------------

-- the number has 64 bits, one of them its sign
abbrev pub has_64_bits : ℤ → Bool
has_64_bits (pos n) = nat_lt n (2 ^ 63)
has_64_bits (negsuc n) = nat_lt n (2 ^ 63)

-- the type is that of pointers on some target
abbrev pub is_pointer : «Type» → Bool
is_pointer (type.Lane lane.I16) = true
is_pointer (type.Lane lane.I32) = true
is_pointer (type.Lane lane.I64) = true
is_pointer ty = false

-- there are no more bytes than a pointer of this type can count
abbrev pub fits : «Type» → (size : ℕ) → Bool
fits ty size = nat_lt size (2 ^ bits_of ty)

-- and some
abbrev pub has_size : «Type» → (size : ℕ) → Bool
has_size ty size = nat_lt 0 size && fits ty size

-- Alignments of copies and fills are at most the greatest power of two that divides the size, for a copy the smaller one;
-- comparisons aren't of signed numbers. Of no bytes nothing is copied or filled.
abbrev pub can_emit_bytes : ByteOperation → «Type» → Bool
can_emit_bytes (Copy copy) ty = has_size ty copy.size && nat_le (min copy.target_alignment copy.source_alignment) (greatest_power copy.size)
can_emit_bytes (Fill fill) ty = nat_lt fill.byte 256 && has_size ty fill.size && nat_le fill.alignment (greatest_power fill.size)
can_emit_bytes (CompareBytes compare) ty = is_unsigned compare.condition && fits ty compare.size
can_emit_bytes (CallLibrary callee) ty = true

-- What may be emitted, at which type, beside operands that are there: the table of what only scripts have.
abbrev pub can_emit : Operation → «Type» → Bool
can_emit (Compute (AddConstant number)) ty = is_int ty && has_64_bits number
can_emit (Compute (CompareConstant condition number)) ty = is_int ty && has_64_bits number
can_emit (Switch keys) ty = is_int ty
can_emit (Bytes operation) ty = is_pointer ty && can_emit_bytes operation ty
can_emit _ ty = false

-- the value is a byte
abbrev pub is_byte : Option «Type» → Bool
is_byte None = false
is_byte (Some ty) = same_type ty (type.Lane lane.I8)

-- `Memset` sets bytes to its second operand.
abbrev pub sets_bytes : Operation → Bool
sets_bytes (Bytes (CallLibrary Memset)) = true
sets_bytes _ = false

abbrev pub is_second_byte : Ledger → List Name → Bool
is_second_byte ledger (target ∷ byte ∷ operands) = is_byte (type_of ledger byte)
is_second_byte ledger _ = false

abbrev pub takes_byte : Ledger → Operation → List Name → Bool
takes_byte ledger operation operands = if sets_bytes operation then is_second_byte ledger operands else true

-- the condition of each kind of call
abbrev pub call_allowed : Ledger → ScriptCall → Bool
call_allowed ledger (Ask request) = allows ledger request
call_allowed ledger (Emit imports instruction) =
    list_all (has_value ledger) instruction.contexts
    && takes_byte ledger instruction.operation instruction.operands
    && is_open ledger ledger.current && list_all (has_value ledger) instruction.operands && list_all (can_lead ledger) instruction.edges
    && can_emit instruction.operation instruction.controlling

-- why a call is refused that may be made: the builder's reason, or that of a switch
pub data CallRefusal : Type 0 where
  OfCall : Refusal → CallRefusal
  OfSwitch : SwitchRefusal → CallRefusal

abbrev pub emission_refusal : Operation → «Type» → Option SwitchRefusal
emission_refusal (Switch keys) ty = keys_refusal ty keys
emission_refusal _ ty = None

-- what it is refused for
abbrev pub call_refusal : Ledger → ScriptCall → Option CallRefusal
call_refusal ledger (Ask request) = option_map OfCall (refusal_of ledger request)
call_refusal ledger (Emit imports instruction) = option_map OfSwitch (emission_refusal instruction.operation instruction.controlling)

-- Without an emission the ledger and the program are those of the builder's calls.
pub record AskingStays : Type 0 where
  pub ledger : (script : Script) → ledger_of (map Ask script) ≡ ledger_after script
  pub program : (script : Script) → program_of_calls (map Ask script) ≡ program_of script
