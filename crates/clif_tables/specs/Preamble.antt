-- The lines of a function that tell of its tables. Source: own, after the crate's documentation of its text.
use Rattle.std.specs.Prelude.{ℕ, ◌+◌, List, [], ◌∷◌, ◌++◌, length, nat_lt, if◌then◌else◌, codes, flat_map}
use Rattle.std.specs.Fmt.{decimal}
use Rattle.std.specs.List.{enumerate_from}
use Rattle.clif_types.specs.Texts.{bytes_text, stack_slot_text, global_value_text, signature_text, ext_func_text}
use Rattle.clif_types.specs.declared.alias_region.AliasRegionData.{AliasRegionData}
use Rattle.clif_types.specs.declared.stackslot.DynamicStackSlotData.{DynamicStackSlotData}
use Rattle.clif_tables.specs.Lists.{TableLists}

-- `    ss0 = explicit_slot 4`, with a line end
abbrev pub line : List ℕ → List ℕ → List ℕ
line name text = codes "    " ++ name ++ codes " = " ++ text ++ 10 ∷ []

-- the lines of a table, whose entries have names by their kind and their numbers
abbrev pub lines : {A : Type 0} → List ℕ → (A → List ℕ) → List A → List ℕ
lines kind text entries = flat_map (λ entry. line (kind ++ decimal entry.0) (text entry.1)) (enumerate_from 0 entries)

-- `explicit_dynamic_slot dt0`
abbrev pub dynamic_slot_text : DynamicStackSlotData → List ℕ
dynamic_slot_text slot = codes "explicit_dynamic_slot dt" ++ decimal slot.dyn_ty

-- `user 7`
abbrev pub region_text : AliasRegionData → List ℕ
region_text region = codes "user " ++ decimal region.user_id

-- the tables of what a function owns
abbrev pub own_lines : TableLists → List ℕ
own_lines t =
    lines (codes "ss") stack_slot_text t.stack_slots
    ++ lines (codes "dss") dynamic_slot_text t.dynamic_stack_slots
    ++ lines (codes "gv") global_value_text t.global_values
    ++ lines (codes "region") region_text t.alias_regions.regions

-- the tables of what it names
abbrev pub other_lines : TableLists → List ℕ
other_lines t =
    lines (codes "sig") signature_text t.signatures
    ++ lines (codes "fn") ext_func_text t.functions
    ++ lines (codes "const") bytes_text t.constants

-- how many lines there are
abbrev pub line_count : TableLists → ℕ
line_count t =
    length t.stack_slots + length t.dynamic_stack_slots + length t.global_values + length t.alias_regions.regions
    + length t.signatures + length t.functions + length t.constants

-- the lines, and an empty line if there is any
abbrev pub preamble_text : TableLists → List ℕ
preamble_text t = own_lines t ++ other_lines t ++ (if nat_lt 0 (line_count t) then 10 ∷ [] else [])
