-- Tables of what is live at the fronts of blocks, as the last pass fills them. Source: own.
use Rattle.std.specs.Prelude.{◌≡◌, ◌≢◌, ◌&&◌, ℕ, Bool, not, List, [], length, Contains, slice_index}
use Rattle.clif_instructions.specs.Members.{stands_in}
use Rattle.clif_ir.specs.Body.{Body, block_at}
use Rattle.clif_safepoints.specs.declared.fronts.Fronts.{Fronts}
use Rattle.clif_safepoints.specs.LastPass.{IsRow, row_at}
use Rattle.clif_safepoints.specs.Sets.{in_set_of}
use Rattle.clif_safepoints.specs.Tables.{AreRows}
use Rattle.clif_safepoints.specs.Transfer.{insts_of, is_live_before, is_live_in}

-- by the number of a block: the values that are live before its parameters are given, and after
pub record FrontTables : Type 0 where
  pub live_in : List (List ℕ)
  pub after_params : List (List ℕ)

abbrev pub tables_of : Fronts → FrontTables
tables_of fronts = record { live_in = fronts.live_in.items; after_params = fronts.after_params.items }

pub record HaveSize (blocks : ℕ) (tables : FrontTables) : Type 0 where
  pub live_in : length tables.live_in ≡ blocks
  pub after_params : length tables.after_params ≡ blocks

-- no values for so many blocks
pub record AreNoFronts (blocks : ℕ) (tables : FrontTables) : Type 0 where
  pub live_in : AreRows blocks (λ block. []) tables.live_in
  pub after_params : AreRows blocks (λ block. []) tables.after_params

-- one block got the row of the values for whose places the test holds
pub record IsRowPut (values : List ℕ) (test : ℕ → Bool) (block : ℕ) (old new : List (List ℕ)) : Type 0 where
  pub size : length new ≡ length old
  pub others : (b : ℕ) → b ≢ block → row_at new b ≡ row_at old b
  pub row : IsRow values test (row_at new block)

-- where the test holds of what is live after a block's parameters, what is live before them
abbrev pub before_params : Body → List ℕ → (ℕ → Bool) → ℕ → ℕ → Bool
before_params f values test block place =
    not (stands_in (slice_index values place) (block_at f block).params) && test place

-- one block got both of its rows
pub record IsFrontPut (f : Body) (values : List ℕ) (test : ℕ → Bool) (block : ℕ) (old new : FrontTables) : Type 0 where
  pub live_in : IsRowPut values (before_params f values test block) block old.live_in new.live_in
  pub after_params : IsRowPut values test block old.after_params new.after_params

-- of so many blocks each of these has its row, and no other one has one
pub record AreRowsOf (values : List ℕ) (test : (block place : ℕ) → Bool) (count : ℕ) (blocks : List ℕ)
    (rows : List (List ℕ)) : Type 0 where
  pub size : length rows ≡ count
  pub each : (b : ℕ) → Contains blocks b → IsRow values (test b) (row_at rows b)
  pub none : (b : ℕ) → (Contains blocks b → ⊥) → row_at rows b ≡ []

-- each of these blocks has its rows, by the equations
pub record AreFronts (f : Body) (values : List ℕ) (sets : List (List Bool)) (blocks : List ℕ) (tables : FrontTables) : Type 0 where
  pub live_in : AreRowsOf values (λ b place. is_live_in f (in_set_of sets place) b (slice_index values place))
      (length f.blocks) blocks tables.live_in
  pub after_params : AreRowsOf values
      (λ b place. is_live_before f (in_set_of sets place) (slice_index values place) (insts_of f b))
      (length f.blocks) blocks tables.after_params
