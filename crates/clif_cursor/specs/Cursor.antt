-- What a cursor makes of a function. Source: own, after the crate's documentation of `FuncCursor`.
use Rattle.std.specs.Prelude.{◌≡◌, ◌≢◌, ◌<◌, ◌≤◌, ◌+◌, ◌-◌, ℕ, Bool, false, length, map, slice_get, List, [], ◌∷◌, Option, None, Some, Result, Err, IfOk, OnOk, OnErr, IsOk}
use Rattle.clif_types.specs.declared.error.BuildError.{BuildError}
use Rattle.clif_types.specs.declared.error.BuildError.TheVariants.{Full, Failed}
use Rattle.clif_types.specs.declared.types.«Type».{«Type»}
use Rattle.clif_instructions.specs.declared.insert_at.InsertAt.TheVariants.{Back}
use Rattle.clif_instructions.specs.declared.instructions.InstructionData.{InstructionData}
use Rattle.clif_instructions.specs.Instruction.{EntryRef, is_terminator, result_type_of, result_types}
use Rattle.clif_tables.specs.Callees.{count_of_results, types_of_results}
use Rattle.clif_tables.specs.Lists.{with_constant}
use Rattle.clif_tables.specs.Makes.{Pools}
use Rattle.clif_ir.specs.Body.{Body, block_at, inst_at, value_at}
use Rattle.clif_ir.specs.Changes.{HasNoRoom, with_inst, with_tables}
use Rattle.clif_ir.specs.Consistent.{EdgeExists, EntryExists, ValueExists}
use Rattle.clif_inst_builder.specs.Served.{CanServe, TableKind, unserved_in}
use Rattle.clif_cursor.specs.declared.cursor.FuncCursor.{FuncCursor}

-- whether an instruction, if there is one, ends its block
abbrev pub ends_block : Body → Option ℕ → Bool
ends_block f None = false
ends_block f (Some i) = is_terminator (inst_at f i).shape

-- whether the last instruction of a block is its terminator
abbrev pub is_filled : Body → ℕ → Bool
is_filled f b = ends_block f (slice_get (block_at f b).insts (length (block_at f b).insts - 1))

-- a block exists and has no terminator so far
pub record IsOpen (f : Body) (b : ℕ) : Type 0 where
  pub exists : b < length f.blocks
  pub unfilled : is_filled f b ≡ false

-- an instruction may be appended where the cursor is
abbrev pub CanAppend : FuncCursor → Type 0
CanAppend c = IsOpen c.func.now c.block

-- the function with an instruction at the end of the cursor's block, at its source place
abbrev pub with_appended : FuncCursor → InstructionData → «Type» → Body
with_appended c shape ty = with_inst c.func.now c.block Back shape (types_of_results c.func.now.tables shape ty) c.srcloc

-- both cursors are at the same place of the same function
pub record IsThere (old new : FuncCursor) : Type 0 where
  pub func : new.func.ghost_name ≡ old.func.ghost_name
  pub block : new.block ≡ old.block
  pub srcloc : new.srcloc ≡ old.srcloc

-- each value keeps its type
abbrev pub TypesStay : Body → Body → Type 0
TypesStay f g = (v : ℕ) → v < length f.values → (value_at g v).ty ≡ (value_at f v).ty

-- An instruction was to be appended: it is, and nothing else is changed; or the function is as it was.
pub record Appends {A : Type 0} (old new : FuncCursor) (shape : InstructionData) (ty : «Type») (answer : Result A BuildError) : Type 0 where
  pub there : IsThere old new
  pub ok : OnOk answer (new.func.now ≡ with_appended old shape ty)
  pub err : OnErr answer (new.func.now ≡ old.func.now)
  pub full : answer ≡ Err Full → HasNoRoom old.func.now (count_of_results old.func.now.tables shape)
  pub never_failed : answer ≢ Err Failed

-- the answer is the number of the instruction
pub record Builds (old new : FuncCursor) (shape : InstructionData) (ty : «Type») (answer : Result ℕ BuildError) : Type 0 where
  pub appends : Appends old new shape ty answer
  pub number : IfOk answer (λ inst. inst ≡ length old.func.now.insts)
  pub exists : IfOk answer (λ inst. inst < length new.func.now.insts)
  pub current : is_terminator shape ≡ false → OnOk answer (CanAppend new)
  pub grows : OnOk answer (length old.func.now.values ≤ length new.func.now.values)
  pub types : OnOk answer (TypesStay old.func.now new.func.now)
  pub tables : OnOk answer (new.func.now.tables ≡ old.func.now.tables)

-- the same of an instruction that has one result and ends no block; the answer is that result
pub record BuildsValue (old new : FuncCursor) (shape : InstructionData) (ty : «Type») (answer : Result ℕ BuildError) : Type 0 where
  pub appends : Appends old new shape ty answer
  pub number : IfOk answer (λ value. value ≡ length old.func.now.values)
  pub exists : IfOk answer (λ value. value < length new.func.now.values)
  pub current : OnOk answer (CanAppend new)
  pub grows : OnOk answer (length old.func.now.values ≤ length new.func.now.values)
  pub types : OnOk answer (TypesStay old.func.now new.func.now)
  pub tables : OnOk answer (new.func.now.tables ≡ old.func.now.tables)
  pub typed : IfOk answer (λ value. (value_at new.func.now value).ty ≡ result_type_of shape ty)

-- the same of an instruction that has two results and ends no block; the answer is these
pub record BuildsPair (old new : FuncCursor) (shape : InstructionData) (ty : «Type») (answer : Result (ℕ × ℕ) BuildError) : Type 0 where
  pub appends : Appends old new shape ty answer
  pub numbers : IfOk answer (λ pair. (pair.0 ≡ length old.func.now.values) × (pair.1 ≡ length old.func.now.values + 1))
  pub exist : IfOk answer (λ pair. (pair.0 < length new.func.now.values) × (pair.1 < length new.func.now.values))
  pub current : OnOk answer (CanAppend new)
  pub types : OnOk answer (TypesStay old.func.now new.func.now)
  pub typed : IfOk answer (λ pair. map (λ value. (value_at new.func.now value).ty) (pair.0 ∷ pair.1 ∷ []) ≡ result_types shape ty)

-- Bytes are pooled: the answer is the number of the constant with them, and nothing but the constants changes.
pub record PoolsConstant (old new : FuncCursor) (bytes : List ℕ) (answer : Result ℕ BuildError) : Type 0 where
  pub there : IsThere old new
  pub pools : Pools bytes old.func.now.tables.constants old.func.now new.func.now (with_tables old.func.now (with_constant old.func.now.tables bytes)) answer
  pub exists : IfOk answer (λ constant. constant < length new.func.now.tables.constants)
  pub current : CanAppend old → OnOk answer (CanAppend new)

-- there is a table of this kind and number that serves no instruction so far, and an instruction may name what it holds
abbrev pub MayServe : {T : Type 0} → TableKind T → FuncCursor → ℕ → Type 0
MayServe {T} kind c table =
    CanServe kind c.func.now.tables (EdgeExists c.func.now) (ValueExists c.func.now) (EntryExists c.func.now.tables) table

-- The answer is what a table holds, which serves an instruction from now on. Nothing else changes, and it can't fail.
pub record Takes {T : Type 0} (kind : TableKind T) (old new : FuncCursor) (table : ℕ) (answer : Result T BuildError) : Type 0 where
  pub there : IsThere old new
  pub function : new.func.now ≡ with_tables old.func.now (kind.with_served old.func.now.tables table)
  pub held : IfOk answer (λ held. unserved_in kind old.func.now.tables table ≡ Some held)
  pub can_be_named : MayServe kind old table
      → IfOk answer (kind.CanBeNamed (EdgeExists new.func.now) (ValueExists new.func.now) (EntryExists new.func.now.tables))
  pub current : CanAppend old → OnOk answer (CanAppend new)
  pub same_values : length new.func.now.values ≡ length old.func.now.values
  pub entries : (entry : EntryRef) → EntryExists old.func.now.tables entry → EntryExists new.func.now.tables entry
  pub never_err : IsOk answer
