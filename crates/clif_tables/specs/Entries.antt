-- What one call puts into a table of a function. Source: own, after the crate's documentation of its tables.
use Rattle.std.specs.Prelude.{ℕ, List, ◌<◌, length, All}
use Rattle.std.specs.Map.{values_of}
use Rattle.clif_types.specs.Signature.{SignatureShape}
use Rattle.clif_types.specs.StackSlot.{StackSlotShape}
use Rattle.clif_types.specs.declared.extfunc.ExtFuncData.{ExtFuncData}
use Rattle.clif_types.specs.declared.globalvalue.GlobalValueData.{GlobalValueData}
use Rattle.clif_types.specs.declared.stackmap.UserStackMapEntry.{UserStackMapEntry}
use Rattle.clif_types.specs.declared.stackslot.DynamicStackSlotData.{DynamicStackSlotData}
use Rattle.clif_tables.specs.Lists.{TableLists, with_stack_slot, with_dynamic_stack_slot, with_global_value, with_signature, with_function}

pub data TableEntry : Type 0 where
  AStackSlot : StackSlotShape → TableEntry
  ADynamicStackSlot : DynamicStackSlotData → TableEntry
  AGlobalValue : GlobalValueData → TableEntry
  ASignature : SignatureShape → TableEntry
  AFunction : ExtFuncData → TableEntry

-- with this entry at the end of its table
abbrev pub with_entry : TableLists → TableEntry → TableLists
with_entry t (AStackSlot slot) = with_stack_slot t slot
with_entry t (ADynamicStackSlot slot) = with_dynamic_stack_slot t slot
with_entry t (AGlobalValue value) = with_global_value t value
with_entry t (ASignature signature) = with_signature t signature
with_entry t (AFunction function) = with_function t function

-- how many entries its table has: the number that it gets
abbrev pub count_for : TableLists → TableEntry → ℕ
count_for t (AStackSlot slot) = length t.stack_slots
count_for t (ADynamicStackSlot slot) = length t.dynamic_stack_slots
count_for t (AGlobalValue value) = length t.global_values
count_for t (ASignature signature) = length t.signatures
count_for t (AFunction function) = length t.functions

-- the entry that it names exists
abbrev pub NamesEntries : TableLists → TableEntry → Type 0
NamesEntries t (AFunction function) = function.signature < length t.signatures
NamesEntries t _ = Unit {0}

-- each function that is imported has a signature
abbrev pub SignaturesExist : TableLists → Type 0
SignaturesExist t = All (λ (function : ExtFuncData). function.signature < length t.signatures) t.functions

-- each entry of a stack map names a stack slot that exists
abbrev pub NamesSlots : TableLists → List UserStackMapEntry → Type 0
NamesSlots t map = All (λ (entry : UserStackMapEntry). entry.slot < length t.stack_slots) map

-- so does each entry of each stack map that is kept
abbrev pub SlotsExist : TableLists → Type 0
SlotsExist t = All (NamesSlots t) (values_of t.stack_maps)

-- what the tables' own entries name exists
pub record NamedExist (t : TableLists) : Type 0 where
  pub signatures : SignaturesExist t
  pub slots : SlotsExist t
