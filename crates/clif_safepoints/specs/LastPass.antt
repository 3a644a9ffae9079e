-- What the last pass puts down. Source: own.
use Rattle.std.specs.Prelude.{◌≡◌, ◌≢◌, ◌<◌, ◌↔◌, ℕ, suc, Bool, true, false, List, [], length, drop, Some, Contains, slice_get, slice_index, slice_index_or}
use Rattle.std.specs.List.Sorted.{IsStrictlyIncreasing}
use Rattle.clif_instructions.specs.Instruction.{is_call}
use Rattle.clif_ir.specs.Body.{Body, inst_at}
use Rattle.clif_safepoints.specs.Sets.{in_set_of}
use Rattle.clif_safepoints.specs.Transfer.{insts_of, is_live_before, is_live_behind}

abbrev pub row_at : List (List ℕ) → ℕ → List ℕ
row_at table number = slice_index_or table number []

-- the values of a list for whose places the test holds, by rising number
pub record IsRow (values : List ℕ) (test : ℕ → Bool) (row : List ℕ) : Type 0 where
  pub rising : IsStrictlyIncreasing row
  pub members : (value : ℕ) → Contains row value
      ↔ ((place : ℕ) × (place < length values) × (slice_index values place ≡ value) × (test place ≡ true))

-- one instruction got its row, if it is a call
pub record IsPut (f : Body) (values : List ℕ) (test : ℕ → Bool) (inst : ℕ) (old new : List (List ℕ)) : Type 0 where
  pub size : length new ≡ length old
  pub others : (i : ℕ) → i ≢ inst → row_at new i ≡ row_at old i
  pub call : is_call (inst_at f inst).shape ≡ true → IsRow values test (row_at new inst)
  pub other : is_call (inst_at f inst).shape ≡ false → row_at new inst ≡ row_at old inst

-- live across the instruction at a place of these, by the equations
abbrev pub is_live_across : Body → List ℕ → List (List Bool) → List ℕ → ℕ → ℕ → ℕ → Bool
is_live_across f values sets insts k inst place =
    is_live_behind f (in_set_of sets place) (slice_index values place) inst
    (is_live_before f (in_set_of sets place) (slice_index values place) (drop (suc k) insts))

-- each call of these instructions got its row
pub record IsRecorded (f : Body) (values : List ℕ) (sets : List (List Bool)) (insts : List ℕ)
    (old new : List (List ℕ)) : Type 0 where
  pub size : length new ≡ length old
  pub others : (i : ℕ) → (Contains insts i → ⊥) → row_at new i ≡ row_at old i
  pub calls : (k i : ℕ) → slice_get insts k ≡ Some i → is_call (inst_at f i).shape ≡ true
      → IsRow values (is_live_across f values sets insts k i) (row_at new i)
  pub other : (k i : ℕ) → slice_get insts k ≡ Some i → is_call (inst_at f i).shape ≡ false → row_at new i ≡ row_at old i

-- each call of these blocks has its row, and nothing else has one
pub record IsListedBy (f : Body) (values : List ℕ) (sets : List (List Bool)) (blocks : List ℕ)
    (rows : List (List ℕ)) : Type 0 where
  pub size : length rows ≡ length f.insts
  pub calls : (b k i : ℕ) → Contains blocks b → slice_get (insts_of f b) k ≡ Some i → is_call (inst_at f i).shape ≡ true
      → IsRow values (is_live_across f values sets (insts_of f b) k i) (row_at rows i)
  pub none : (i : ℕ)
      → ((b k : ℕ) → Contains blocks b → slice_get (insts_of f b) k ≡ Some i → is_call (inst_at f i).shape ≡ true → ⊥)
      → row_at rows i ≡ []
