-- Liveness at the fronts of blocks, by paths, and what a solution of the equations has to be. Source: the usual ones.
use Rattle.std.specs.Prelude.{◌≡◌, ◌<◌, ◌≤◌, ◌+◌, ◌*◌, ◌⊎◌, ℕ, Bool, true, List, [], length, flat_map, replicate, false, Contains, slice_index, slice_index_or}
use Rattle.clif_ir.specs.Body.{Body, block_at, resolved}
use Rattle.clif_meaning.specs.Path.{Place}
use Rattle.clif_meaning.specs.View.{view_of}
use Rattle.clif_meaning.specs.WellPlaced.{placed_at, placed_gives}
use Rattle.clif_safepoints.specs.Liveness.{IsUsedAhead, every_argument, used_operands}
use Rattle.clif_number_sets.specs.Sets.{is_in}
use Rattle.clif_safepoints.specs.Sets.{AreSets, in_set_of}
use Rattle.clif_safepoints.specs.Transfer.{insts_of, is_live_in, successors_of}

abbrev pub at : ℕ → ℕ → Place ℕ
at b k = record { block = b; index = k }

-- used here, or not defined here and used ahead
abbrev pub IsLiveAt : Body → ℕ → Place ℕ → List (Place ℕ) → Type 0
IsLiveAt f v q path =
    Contains (used_operands (resolved f) (placed_at (view_of f) q)) v
    ⊎ ((¬ Contains (placed_gives (placed_at (view_of f) q)) v) × IsUsedAhead every_argument (view_of f) v q path)

-- live at the front of a block
pub record IsLiveFront (f : Body) (v block : ℕ) : Type 0 where
  pub no_parameter : Contains (block_at f block).params v → ⊥
  pub some : 0 < length (insts_of f block)
  pub path : List (Place ℕ)
  pub live : IsLiveAt f v (at block 0) path

-- the sets hold live values alone, and all that the equations of these blocks tell; and how many blocks were handled
pub record IsFinished (f : Body) (values order : List ℕ) (sets : List (List Bool)) (handled : ℕ) : Type 0 where
  pub sized : AreSets (length f.blocks) (length values) sets
  pub sound : (k b : ℕ) → k < length values → in_set_of sets k b ≡ true → IsLiveFront f (slice_index values k) b
  pub settled : (b : ℕ) → Contains order b → (k : ℕ) → k < length values
      → is_live_in f (in_set_of sets k) b (slice_index values k) ≡ true → in_set_of sets k b ≡ true
  pub most : handled ≤ length order + length (flat_map (successors_of f) order) * length values
  pub least : length order ≤ handled

-- so many sets without a member
abbrev pub AreEmpty : ℕ → ℕ → List (List Bool) → Type 0
AreEmpty blocks places sets =
    (length sets ≡ blocks) × ((b : ℕ) → b < blocks → slice_index_or sets b [] ≡ replicate places false)

-- nothing is live yet, and these blocks wait
pub record IsStart (blocks places : ℕ) (order : List ℕ) (sets : List (List Bool)) (stack : List ℕ)
    (waits : List Bool) : Type 0 where
  pub sized : AreSets blocks places sets
  pub empty : (k b : ℕ) → in_set_of sets k b ≡ true → ⊥
  pub marks : length waits ≡ blocks
  pub long : length stack ≡ length order
  pub there : (b : ℕ) → Contains stack b → b < blocks
  pub waiting : (b : ℕ) → is_in waits b ≡ true → Contains stack b
  pub all : (b : ℕ) → Contains order b → is_in waits b ≡ true
