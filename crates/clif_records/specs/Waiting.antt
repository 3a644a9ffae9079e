-- How the parameters that wait in unsealed blocks are kept: in one table for all blocks, as nodes, each of which has the place of
-- the one before it in its block. Source: own.
use Rattle.std.specs.Prelude.{ℕ, zero, suc, ◌+◌, ◌^◌, ◌≡◌, ◌<◌, ◌≤◌, List, [], ◌∷◌, ◌++◌, length, slice_index_or}
use Rattle.clif_records.specs.declared.tables.BlockRow.{BlockRow}
use Rattle.clif_records.specs.declared.tables.Pending.{Pending}
use Rattle.clif_records.specs.declared.tables.RowState.{RowState}
use Rattle.clif_records.specs.declared.tables.RowState.TheVariants as state
use Rattle.clif_records.specs.declared.waiting.PendingNode.{PendingNode}
use Rattle.clif_records.specs.Tables.{SsaBlock, Sealed, No, Yes}

-- stands for a node where there is none
abbrev pub no_node : PendingNode
no_node = record { pending = record { variable = 0; param = 0 }; previous = 0 }

-- the node at place `k + 1`
abbrev pub node_at : List PendingNode → ℕ → PendingNode
node_at nodes k = slice_index_or nodes k no_node

-- each parameter refers to one before it in the table, or to none: its own place is `k + 1`
abbrev pub AreLinked : List PendingNode → Type 0
AreLinked nodes = (k : ℕ) → k < length nodes → (node_at nodes k).previous ≤ k

-- the parameter at a place and those to which it leads back, so many at most, in the order in which they were made
abbrev pub listed_within : ℕ → List PendingNode → ℕ → List Pending
listed_within zero nodes place = []
listed_within (suc most) nodes zero = []
listed_within (suc most) nodes (suc k) = listed_within most nodes (node_at nodes k).previous ++ (node_at nodes k).pending ∷ []

-- all of them: as places fall, there are no more than the place says
abbrev pub listed_to : List PendingNode → ℕ → List Pending
listed_to nodes last = listed_within last nodes last

-- whether a block is sealed, and which parameters wait in it, by its row's state
abbrev pub sealed_by : List PendingNode → RowState → Sealed
sealed_by nodes (state.Unsealed last) = No (listed_to nodes last)
sealed_by nodes state.Sealed = Yes

-- what is known of a block whose row this is
abbrev pub known_of : List PendingNode → BlockRow → SsaBlock
known_of nodes row = record { predecessors = row.predecessors; sealed = sealed_by nodes row.state }

-- the place of the parameter that waits last; 0 where none does
abbrev pub last_of : RowState → ℕ
last_of (state.Unsealed last) = last
last_of state.Sealed = 0

-- the row of a block of which nothing is known
abbrev pub new_row : BlockRow
new_row = record { predecessors = []; state = state.Unsealed 0 }

-- the row of a block; past the end nothing is known
abbrev pub row_at : List BlockRow → ℕ → BlockRow
row_at rows block = slice_index_or rows block new_row

-- one for a block in which a parameter waits, by the place of the last; in how many blocks parameters wait
abbrev pub one_if_waiting : ℕ → ℕ
one_if_waiting zero = 0
one_if_waiting (suc last) = 1

abbrev pub waiting_rows : List BlockRow → ℕ
waiting_rows [] = 0
waiting_rows (row ∷ rows) = one_if_waiting (last_of row.state) + waiting_rows rows

-- which rows and nodes are a table of blocks: there are fewer than 2^32 rows, nodes are linked, the place that a row has is one
-- of theirs or none, and blocks in which parameters wait are counted
pub record IsBlockTable (rows : List BlockRow) (nodes : List PendingNode) (waiting : ℕ) : Type 0 where
  pub few : length rows < 2 ^ 32
  pub linked : AreLinked nodes
  pub inside : (b : ℕ) → last_of (row_at rows b).state ≤ length nodes
  pub counted : waiting ≡ waiting_rows rows
