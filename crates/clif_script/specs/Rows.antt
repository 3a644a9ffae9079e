-- The names of the rows. Source: own.
use Rattle.std.specs.Prelude.{◌≡◌, ◌⊎◌, ℕ, List, codes}

-- a row with a switch has this name
abbrev pub IsSwitchRow : List ℕ → Type 0
IsSwitchRow name = (name ≡ codes "switch_many") ⊎ (name ≡ codes "switch_128bit_max_u64") ⊎ (name ≡ codes "switch_high") ⊎ (name ≡ codes "switch_border")

-- a row with a memory helper has it
abbrev pub IsHelperRow : List ℕ → Type 0
IsHelperRow name = (name ≡ codes "memcpy") ⊎ (name ≡ codes "copy12") ⊎ (name ≡ codes "copy40") ⊎ (name ≡ codes "memcmp_odd")

-- a row that asks for stack maps has this name
abbrev pub IsStackMapRow : List ℕ → Type 0
IsStackMapRow name = (name ≡ codes "slot_reuse") ⊎ (name ≡ codes "loop") ⊎ (name ≡ codes "irreducible") ⊎ (name ≡ codes "try_call") ⊎ (name ≡ codes "zero_marked") ⊎ (name ≡ codes "regions")

-- another row has it
abbrev pub IsOtherRow : List ℕ → Type 0
IsOtherRow name = (name ≡ codes "first") ⊎ (name ≡ codes "reordering") ⊎ (name ≡ codes "sample") ⊎ (name ≡ codes "sample_late") ⊎ (name ≡ codes "both_arms") ⊎ (name ≡ codes "undef_vectors") ⊎ (name ≡ codes "change_both") ⊎ (name ≡ codes "change_one") ⊎ (name ≡ codes "empty")

-- a row of this name is built so far
abbrev pub IsRowName : List ℕ → Type 0
IsRowName name = IsSwitchRow name ⊎ IsHelperRow name ⊎ IsStackMapRow name ⊎ IsOtherRow name
