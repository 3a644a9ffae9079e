-- The tables of the construction. Source: Braun et al. 2013 (records, sealed blocks, incomplete
-- parameters), and the crate's documentation of its SSA builder.
use Rattle.std.specs.Prelude.{ℕ, ◌+◌, ◌-◌, ◌^◌, ◌==◌, Bool, true, false, List, [], Option, Some, None, slice_index_or, if◌then◌else◌, ◌≡◌, refl}
use Rattle.std.proofs.Common.{ap}
use Rattle.std.specs.Ordering.{nat_cmp, on, then_cmp}
use Rattle.std.specs.declared.cmp.Ordering.{Ordering}
use Rattle.std.specs.Option.{unwrap_or}
use Rattle.std.specs.FinMap as map
use Rattle.std.specs.Coded.{Coded, code_by, coded×, coded_list, coded_option, coded_ℕ}
use Rattle.clif_records.specs.declared.tables.Pending.{Pending}
-- what is known of a variable in a block: the value that it is recorded to have at the block's end, if one is recorded,
-- and how many look-ups of it in the block's predecessors began
pub use Rattle.clif_records.specs.declared.tables.Recorded.{Recorded}

abbrev pub nothing_recorded : Recorded
nothing_recorded = record { value = None; lookups = 0 }

-- variables in blocks, by the variable and then by the block
abbrev pub variable_then_block : ℕ × ℕ → ℕ × ℕ → Ordering
variable_then_block = then_cmp (on (λ place. place.0) nat_cmp) (on (λ place. place.1) nat_cmp)

-- what is known of each variable in each block, by (variable, block); where nothing is known there is no entry
abbrev pub RecordMap : Type 0
RecordMap = map.FinMap variable_then_block Recorded

abbrev pub recorded_code : Coded Recorded
recorded_code = code_by (Option ℕ × ℕ) (coded× (coded_option coded_ℕ) coded_ℕ) (λ r. (r.value, r.lookups)) (λ p. record { value = p.0; lookups = p.1 }) (λ r i. r)

abbrev pub record_map_code : Coded RecordMap
record_map_code = map.code (coded× coded_ℕ coded_ℕ) recorded_code

abbrev pub recorded_at : RecordMap → ℕ → ℕ → Recorded
recorded_at records variable block = unwrap_or (map.get records (variable, block)) nothing_recorded

-- the value that a variable is recorded to have in a block
abbrev pub record_at : RecordMap → ℕ → ℕ → Option ℕ
record_at records variable block = (recorded_at records variable block).value

-- how many look-ups of a variable in a block's predecessors began
abbrev pub lookups_at : RecordMap → ℕ → ℕ → ℕ
lookups_at records variable block = (recorded_at records variable block).lookups

-- one more, as far as 32 bits count
abbrev pub one_more : ℕ → ℕ
one_more n = if n == 2 ^ 32 - 1 then n else n + 1

-- whether all branches that lead to a block are known; which parameters wait until they are, in the order in which they were made
pub data Sealed : Type 0 where
  No : List Pending → Sealed
  Yes : Sealed

-- what is known of a block: the branches that lead to it, in the order in which they were declared, and whether it is sealed
pub record SsaBlock : Type 0 where
  pub predecessors : List ℕ
  pub sealed : Sealed

-- how the logic stores what is known of a block: as lists of numbers
abbrev pub pending_code : Coded Pending
pending_code = code_by (ℕ × ℕ) (coded× coded_ℕ coded_ℕ) (λ p. (p.variable, p.param)) (λ p. record { variable = p.0; param = p.1 }) (λ p i. p)

abbrev pub waiting_in : Sealed → Option (List Pending)
waiting_in (No pending) = Some pending
waiting_in Yes = None

abbrev pub sealed_from : Option (List Pending) → Sealed
sealed_from (Some pending) = No pending
sealed_from None = Yes

pub sealed_back : (s : Sealed) → sealed_from (waiting_in s) ≡ s
sealed_back (No pending) = refl
sealed_back Yes = refl

abbrev pub ssa_block_code : Coded SsaBlock
ssa_block_code =
    code_by (List ℕ × Option (List Pending)) (coded× (coded_list coded_ℕ) (coded_option (coded_list pending_code))) (λ b. (b.predecessors, waiting_in b.sealed))
    (λ p. record { predecessors = p.0; sealed = sealed_from p.1 }) (λ b. ap (λ (s : Sealed). let known : SsaBlock = record { predecessors = b.predecessors; sealed = s } in known) (sealed_back b.sealed))

-- what is known of a block at first: it is unsealed, and nothing leads to it
abbrev pub no_ssa_block : SsaBlock
no_ssa_block = record { predecessors = []; sealed = No [] }

abbrev pub known_at : List SsaBlock → ℕ → SsaBlock
known_at blocks block = slice_index_or blocks block no_ssa_block

-- whether a block is sealed, and which parameters wait where it isn't
abbrev pub sealed_at : List SsaBlock → ℕ → Sealed
sealed_at blocks block = (known_at blocks block).sealed

-- the branches that lead to a block, in the order in which they were declared
abbrev pub predecessors_at : List SsaBlock → ℕ → List ℕ
predecessors_at blocks block = (known_at blocks block).predecessors

abbrev pub is_yes : Sealed → Bool
is_yes (No pending) = false
is_yes Yes = true

abbrev pub pending_of : Sealed → List Pending
pending_of (No pending) = pending
pending_of Yes = []

-- the branches that lead to a block, if it is sealed
abbrev pub sealed_predecessors_at : List SsaBlock → ℕ → List ℕ
sealed_predecessors_at blocks block = if is_yes (sealed_at blocks block) then predecessors_at blocks block else []
