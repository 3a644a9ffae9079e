-- What the entries of tables name goes on existing.
use Rattle.std.proofs.Common.{◌≤◌, ◌<◌, ℕ, List, length, arith}
use Rattle.std.specs.Prelude.{All}
use Rattle.std.specs.Map.{values_of}
use Rattle.std.specs.Ordering.{nat_cmp}
use Rattle.std.proofs.lemmas.List.{length_push}
use Rattle.std.proofs.lemmas.List.Elements.{All-nil, All-push, All-weaker}
use Rattle.std.proofs.lemmas.Map.Views.{All-values-insert_entry}
use Rattle.clif_types.specs.declared.extfunc.ExtFuncData.{ExtFuncData}
use Rattle.clif_types.specs.declared.stackmap.UserStackMapEntry.{UserStackMapEntry}
use Rattle.clif_instructions.specs.declared.block_call.BlockCall.{BlockCall}
use Rattle.clif_instructions.specs.ExceptionTables.{ExceptionShape}
use Rattle.clif_tables.specs.declared.labels.ValueLabelStart.{ValueLabelStart}
use Rattle.clif_tables.specs.Entries.{TableEntry, AStackSlot, ADynamicStackSlot, AGlobalValue, ASignature, AFunction, with_entry, NamesEntries, NamesSlots, SignaturesExist, NamedExist}
use Rattle.clif_tables.specs.Lists.{TableLists, no_entries, with_constant, with_jump_table, with_exception_table, with_table_served, with_exception_table_served, with_stack_map, with_labels_collected, with_label}

-- a function that has a signature still has it where there are more
pub signatures_stay : (t u : TableLists) → length t.signatures ≤ length u.signatures
    → SignaturesExist t → All (λ (function : ExtFuncData). function.signature < length u.signatures) t.functions
signatures_stay t u more known =
    All-weaker (λ (function : ExtFuncData). function.signature < length t.signatures) (λ (function : ExtFuncData). function.signature < length u.signatures)
    (λ function here. omega (arith, here, more)) t.functions known

-- a stack map that names slots still does where there are more
pub slots_stay : (t u : TableLists) → length t.stack_slots ≤ length u.stack_slots
    → (map : List UserStackMapEntry) → NamesSlots t map → NamesSlots u map
slots_stay t u more map known =
    All-weaker (λ (entry : UserStackMapEntry). entry.slot < length t.stack_slots) (λ (entry : UserStackMapEntry). entry.slot < length u.stack_slots)
    (λ entry here. omega (arith, here, more)) map known

pub named_none : NamedExist no_entries
named_none = record {
  signatures = All-nil (λ (function : ExtFuncData). function.signature < 0);
  slots = All-nil (NamesSlots no_entries);
}

pub named_with_entry : (t : TableLists) (entry : TableEntry) → NamesEntries t entry → NamedExist t → NamedExist (with_entry t entry)
named_with_entry t (AStackSlot slot) names known = record {
  signatures = known.signatures;
  slots =
      let count = length_push t.stack_slots slot in
      let u : TableLists = with_entry t (AStackSlot slot) in
      All-weaker (NamesSlots t) (NamesSlots u) (slots_stay t u (omega (arith, count))) (values_of t.stack_maps) known.slots;
}
named_with_entry t (ADynamicStackSlot slot) names known = record { signatures = known.signatures; slots = known.slots }
named_with_entry t (AGlobalValue value) names known = record { signatures = known.signatures; slots = known.slots }
named_with_entry t (ASignature signature) names known = record {
  signatures = let count = length_push t.signatures signature in signatures_stay t (with_entry t (ASignature signature)) (omega (arith, count)) known.signatures;
  slots = known.slots;
}
named_with_entry t (AFunction function) names known = record {
  signatures = All-push (λ (function : ExtFuncData). function.signature < length t.signatures) t.functions function known.signatures names;
  slots = known.slots;
}

pub named_with_constant : (t : TableLists) (bytes : List ℕ) → NamedExist t → NamedExist (with_constant t bytes)
named_with_constant t bytes known = record { signatures = known.signatures; slots = known.slots }

pub named_with_jump_table : (t : TableLists) (edges : List BlockCall) → NamedExist t → NamedExist (with_jump_table t edges)
named_with_jump_table t edges known = record { signatures = known.signatures; slots = known.slots }

pub named_with_exception_table : (t : TableLists) (table : ExceptionShape) → NamedExist t → NamedExist (with_exception_table t table)
named_with_exception_table t table known = record { signatures = known.signatures; slots = known.slots }

pub named_with_table_served : (t : TableLists) (table : ℕ) → NamedExist t → NamedExist (with_table_served t table)
named_with_table_served t table known = record { signatures = known.signatures; slots = known.slots }

pub named_with_exception_table_served : (t : TableLists) (table : ℕ) → NamedExist t → NamedExist (with_exception_table_served t table)
named_with_exception_table_served t table known = record { signatures = known.signatures; slots = known.slots }

pub named_with_labels_collected : (t : TableLists) → NamedExist t → NamedExist (with_labels_collected t)
named_with_labels_collected t known = record { signatures = known.signatures; slots = known.slots }

pub named_with_label : (t : TableLists) (value : ℕ) (start : ValueLabelStart) → NamedExist t → NamedExist (with_label t value start)
named_with_label t value start known = record { signatures = known.signatures; slots = known.slots }

-- a stack map whose entries name slots that exist
pub named_with_stack_map : (t : TableLists) (inst : ℕ) (map : List UserStackMapEntry) → NamesSlots t map → NamedExist t → NamedExist (with_stack_map t inst map)
named_with_stack_map t inst map names known = record {
  signatures = known.signatures;
  slots = All-values-insert_entry nat_cmp inst map (NamesSlots t) t.stack_maps known.slots names;
}
