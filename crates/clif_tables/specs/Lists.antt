-- The tables of a function beside values, instructions and blocks, as contracts see them. Source: own.
use Rattle.std.specs.Prelude.{ℕ, List, [], ◌∷◌, ◌++◌, Option, Some, None, slice_set}
use Rattle.std.specs.Prelude.{option_map, unwrap_or}
use Rattle.clif_types.specs.AliasRegions.{AliasRegionTable}
use Rattle.clif_types.specs.Signature.{SignatureShape}
use Rattle.clif_types.specs.StackSlot.{StackSlotShape}
use Rattle.clif_types.specs.declared.extfunc.ExtFuncData.{ExtFuncData}
use Rattle.clif_types.specs.declared.globalvalue.GlobalValueData.{GlobalValueData}
use Rattle.clif_types.specs.declared.stackmap.UserStackMapEntry.{UserStackMapEntry}
use Rattle.clif_types.specs.declared.stackslot.DynamicStackSlotData.{DynamicStackSlotData}
use Rattle.clif_instructions.specs.declared.block_call.BlockCall.{BlockCall}
use Rattle.clif_instructions.specs.ExceptionTables.{ExceptionShape}
use Rattle.clif_tables.specs.Constants as pool
use Rattle.clif_tables.specs.Sparse.{list_at, with_list, with_one_more}
use Rattle.clif_tables.specs.declared.labels.ValueLabelStart.{ValueLabelStart}

-- the entries of each table, by number
pub record TableLists : Type 0 where
  pub stack_slots : List StackSlotShape
  pub dynamic_stack_slots : List DynamicStackSlotData
  pub global_values : List GlobalValueData
  pub alias_regions : AliasRegionTable
  pub signatures : List SignatureShape
  pub functions : List ExtFuncData
  -- the bytes of each constant, the lowest first
  pub constants : List (List ℕ)
  -- the edges of each jump table, the default first, until an instruction takes them
  pub jump_tables : List (Option (List BlockCall))
  -- each exception table, until an instruction takes it
  pub exception_tables : List (Option ExceptionShape)
  -- the stack maps, each with the number of its instruction
  pub stack_maps : List (ℕ × List UserStackMapEntry)
  -- the labels of values, each list with the number of its value; `None` until labels are collected
  pub value_labels : Option (List (ℕ × List ValueLabelStart))

-- no entries
abbrev pub no_entries : TableLists
no_entries = record {
  stack_slots = [];
  dynamic_stack_slots = [];
  global_values = [];
  alias_regions = record { regions = []; refusal = None };
  signatures = [];
  functions = [];
  constants = [];
  jump_tables = [];
  exception_tables = [];
  stack_maps = [];
  value_labels = None;
}

-- with one entry more, at the end of its table
abbrev pub with_stack_slot : TableLists → StackSlotShape → TableLists
with_stack_slot t slot = record t { stack_slots = t.stack_slots ++ slot ∷ [] }

abbrev pub with_dynamic_stack_slot : TableLists → DynamicStackSlotData → TableLists
with_dynamic_stack_slot t slot = record t { dynamic_stack_slots = t.dynamic_stack_slots ++ slot ∷ [] }

abbrev pub with_global_value : TableLists → GlobalValueData → TableLists
with_global_value t value = record t { global_values = t.global_values ++ value ∷ [] }

abbrev pub with_signature : TableLists → SignatureShape → TableLists
with_signature t signature = record t { signatures = t.signatures ++ signature ∷ [] }

abbrev pub with_function : TableLists → ExtFuncData → TableLists
with_function t function = record t { functions = t.functions ++ function ∷ [] }

abbrev pub with_jump_table : TableLists → List BlockCall → TableLists
with_jump_table t edges = record t { jump_tables = t.jump_tables ++ Some edges ∷ [] }

abbrev pub with_exception_table : TableLists → ExceptionShape → TableLists
with_exception_table t table = record t { exception_tables = t.exception_tables ++ Some table ∷ [] }

-- with these bytes among the constants, at the end unless they are there
abbrev pub with_constant : TableLists → List ℕ → TableLists
with_constant t bytes = record t { constants = pool.with_constant t.constants bytes }

-- what is there of a table, if there is one
abbrev pub unserved : {A : Type 0} → Option (Option A) → Option A
unserved None = None
unserved (Some table) = table

-- with the edges of a jump table taken
abbrev pub with_table_served : TableLists → ℕ → TableLists
with_table_served t table = record t { jump_tables = slice_set t.jump_tables table None }

-- with an exception table taken
abbrev pub with_exception_table_served : TableLists → ℕ → TableLists
with_exception_table_served t table = record t { exception_tables = slice_set t.exception_tables table None }

-- the stack map of an instruction; empty where it has none
abbrev pub stack_map_at : TableLists → ℕ → List UserStackMapEntry
stack_map_at t inst = list_at t.stack_maps inst

-- with this stack map of an instruction, in place of the one that it had
abbrev pub with_stack_map : TableLists → ℕ → List UserStackMapEntry → TableLists
with_stack_map t inst map = record t { stack_maps = with_list t.stack_maps inst map }

-- the labels of a value, in the order of the calls that set them; none where none was kept
abbrev pub labels_at : TableLists → ℕ → List ValueLabelStart
labels_at t value = list_at (unwrap_or t.value_labels []) value

-- with labels collected from now on; those that were are kept
abbrev pub with_labels_collected : TableLists → TableLists
with_labels_collected t = record t { value_labels = Some (unwrap_or t.value_labels []) }

-- with one label more of a value, unless labels aren't collected
abbrev pub with_label : TableLists → ℕ → ValueLabelStart → TableLists
with_label t value start = record t {
  value_labels = option_map (λ labels. with_one_more labels value start) t.value_labels;
}
