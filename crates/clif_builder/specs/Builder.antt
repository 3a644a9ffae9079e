-- What clauses see of a builder. Source: the crate's documentation of `FunctionBuilder`.
use Rattle.std.specs.Prelude.{◌≡◌, ◌≢◌, ◌<◌, ◌+◌, length, slice_get, ℕ, List, [], ◌∷◌, Bool, true, false, not, ◌&&◌, ◌||◌, ◌==◌, Option, Some, None, IfSome, if◌then◌else◌, zero, suc, Result, Ok, Err}
use Rattle.clif_builder.specs.declared.error.FinalizeError.{FinalizeError}
use Rattle.clif_builder.specs.declared.error.FinalizeError.TheVariants.{Unsealed, Unfilled, Failed}
use Rattle.clif_types.specs.declared.types.«Type».{«Type»}
use Rattle.clif_ir.specs.Body.{Body}
use Rattle.clif_ir.specs.Consistent.{EdgeExists}
use Rattle.clif_instructions.specs.declared.block_call.BlockCall.{BlockCall}
use Rattle.clif_instructions.specs.declared.insert_at.InsertAt.TheVariants.{Back}
use Rattle.clif_instructions.specs.declared.instructions.InstructionData.{InstructionData}
use Rattle.clif_instructions.specs.Instruction.{is_terminator}
use Rattle.clif_tables.specs.Callees.{types_of_results}
use Rattle.clif_ir.specs.Changes.{inserted_in, with_inst}
use Rattle.clif_ssa.specs.Zeros.{steps_before}
use Rattle.clif_records.specs.Tables.{is_yes}
use Rattle.clif_ssa.specs.Ssa.{record_of, sealed_of, predecessors_of, Waits, Zeroes}
use Rattle.clif_builder.specs.declared.context.BlockStatus.{BlockStatus}
use Rattle.clif_builder.specs.declared.context.BlockStatus.TheVariants.{Empty, Partial, Filled}
use Rattle.clif_builder.specs.declared.builder.FunctionBuilder.{FunctionBuilder}
use Rattle.clif_builder.specs.Context.{ContextState, status_of, begun, SetsStatus}

-- both builders hold the same function and the same context, and this the same callback for alias regions
pub record SameLoans {R : Type 0} (old new : FunctionBuilder R) : Type 0 where
  pub func : new.func.ghost_name ≡ old.func.ghost_name
  pub ctx : new.ctx.ghost_name ≡ old.ctx.ghost_name
  pub region : new.ctx.now.region ≡ old.ctx.now.region

-- Both builders hold the same function and the same context, and these and the builders are alike but for the callback that is asked
-- for alias regions.
pub record KeepsAllButRegion {R : Type 0} (old new : FunctionBuilder R) : Type 0 where
  pub func_place : new.func.ghost_name ≡ old.func.ghost_name
  pub ctx_place : new.ctx.ghost_name ≡ old.ctx.ghost_name
  pub func : new.func.now ≡ old.func.now
  pub parts : new.ctx.now.parts ≡ old.ctx.now.parts
  pub position : new.position ≡ old.position
  pub srcloc : new.srcloc ≡ old.srcloc
  pub failed : new.failed ≡ old.failed

-- with another current block
abbrev pub with_position : {R : Type 0} → FunctionBuilder R → ℕ → FunctionBuilder R
with_position b block = record b { position = Some block }

-- with another source place for the instructions to come
abbrev pub with_srcloc : {R : Type 0} → FunctionBuilder R → ℕ → FunctionBuilder R
with_srcloc b place = record b { srcloc = place }

abbrev pub is_nothing : List ℕ → Bool
is_nothing [] = true
is_nothing (branch ∷ branches) = false

-- nothing leads to a block: the layout isn't empty, and the block isn't its first one, is sealed and has no predecessor
abbrev pub is_elsewhere : List ℕ → ℕ → Bool
is_elsewhere [] block = false
is_elsewhere (entry ∷ layout) block = not (entry == block)

abbrev pub is_unreachable : Body → ContextState → ℕ → Bool
is_unreachable f c block = is_elsewhere f.layout block && is_yes (sealed_of c.ssa block) && is_nothing (predecessors_of c.ssa block)

-- a block of this status may be left, if something leads to it
abbrev pub may_be_left : BlockStatus → Bool
may_be_left Empty = true
may_be_left Partial = false
may_be_left Filled = true

-- the current block is absent, pristine, filled or unreachable
abbrev pub is_free_at : Option ℕ → Body → ContextState → Bool
is_free_at None f c = true
is_free_at (Some block) f c = may_be_left (status_of c block) || is_unreachable f c block

abbrev pub is_free : {R : Type 0} → FunctionBuilder R → Bool
is_free b = is_free_at b.position b.func.now b.ctx.now.parts

abbrev pub is_empty_status : BlockStatus → Bool
is_empty_status Empty = true
is_empty_status Partial = false
is_empty_status Filled = false

abbrev pub is_filled_status : BlockStatus → Bool
is_filled_status Empty = false
is_filled_status Partial = false
is_filled_status Filled = true

-- there is a current block, and no terminator was appended to it
abbrev pub HasCurrent : {R : Type 0} → FunctionBuilder R → Type 0
HasCurrent b = (block : ℕ) × (b.position ≡ Some block) × (block < length b.func.now.blocks) × (status_of b.ctx.now.parts block ≢ Filled)

-- the current block, if there is one, has its terminator
pub record IsLeft {R : Type 0} (b : FunctionBuilder R) : Type 0 where
  pub filled : IfSome b.position (λ block. status_of b.ctx.now.parts block ≡ Filled)

-- no block but the current one is filled that wasn't
abbrev pub FillsCurrent : {R : Type 0} → FunctionBuilder R → FunctionBuilder R → Type 0
FillsCurrent old new = (b : ℕ) → old.position ≢ Some b → status_of new.ctx.now.parts b ≡ Filled → status_of old.ctx.now.parts b ≡ Filled

-- A use of a variable of type `ty` in a block answers `value`: the recorded value, or else a new parameter of the block;
-- where the block is sealed and nothing leads to it, a zero. (Where something does, `is_use` says what is kept.)
pub record UsesIn (f : Body) (c : ContextState) (g : Body) (d : ContextState) (variable : ℕ) (ty : «Type») (block value : ℕ) : Type 0 where
  pub known : (v : ℕ) → record_of c.ssa variable block ≡ Some v
      → (g ≡ inserted_in f block) × (d.ssa ≡ c.ssa) × (value ≡ v)
  pub waits : record_of c.ssa variable block ≡ None → is_yes (sealed_of c.ssa block) ≡ false
      → Waits c.ssa d.ssa (inserted_in f block) g variable ty block × (value ≡ length f.values)
  pub zero : record_of c.ssa variable block ≡ None → is_yes (sealed_of c.ssa block) ≡ true → predecessors_of c.ssa block ≡ []
      → Zeroes c.ssa d.ssa (inserted_in f block) g variable ty block × (value ≡ length f.values + 1 + steps_before ty)

-- the same in a builder, for the type of the variable
abbrev pub Uses : {R : Type 0} → FunctionBuilder R → FunctionBuilder R → ℕ → ℕ → ℕ → Type 0
Uses old new variable block value =
    (ty : «Type») → slice_get old.ctx.now.parts.variables variable ≡ Some ty
    → UsesIn old.func.now old.ctx.now.parts new.func.now new.ctx.now.parts variable ty block value

-- an edge may be made: its target exists and isn't sealed, and what it passes exists
abbrev pub CanLeadIn : Body → ContextState → BlockCall → Type 0
CanLeadIn f c edge = EdgeExists f edge × (is_yes (sealed_of c.ssa edge.block) ≡ false)

abbrev pub CanLead : {R : Type 0} → FunctionBuilder R → BlockCall → Type 0
CanLead b edge = CanLeadIn b.func.now b.ctx.now.parts edge

-- a function with an instruction at the end of a block, which is in the layout then
abbrev pub with_appended : Body → ℕ → InstructionData → «Type» → ℕ → Body
with_appended f block shape ty place = with_inst (inserted_in f block) block Back shape (types_of_results f.tables shape ty) place

-- the status of a block to which an instruction was appended
abbrev pub status_after : InstructionData → BlockStatus → BlockStatus
status_after shape status = if is_terminator shape then Filled else begun status

-- an instruction was appended to a block, with this source place: `inst` is its number
pub record AppendsIn (place : ℕ) (f : Body) (c : ContextState) (g : Body) (d : ContextState) (block : ℕ) (shape : InstructionData) (ty : «Type») (inst : ℕ) : Type 0 where
  pub function : g ≡ with_appended f block shape ty place
  pub number : inst ≡ length f.insts
  pub status : SetsStatus c d block (status_after shape (status_of c block))

abbrev pub Appends : {R : Type 0} → FunctionBuilder R → FunctionBuilder R → ℕ → InstructionData → «Type» → ℕ → Type 0
Appends old new block shape ty inst =
    AppendsIn old.srcloc old.func.now old.ctx.now.parts new.func.now new.ctx.now.parts block shape ty inst

-- the same for an instruction with a result, which is the value `v`
abbrev pub AppendsValue : {R : Type 0} → FunctionBuilder R → FunctionBuilder R → ℕ → InstructionData → «Type» → ℕ → Type 0
AppendsValue old new block shape ty v =
    Appends old new block shape ty (length old.func.now.insts) × (v ≡ length old.func.now.values)

-- and for one with two, which are these values
abbrev pub AppendsPair : {R : Type 0} → FunctionBuilder R → FunctionBuilder R → ℕ → InstructionData → «Type» → ℕ × ℕ → Type 0
AppendsPair old new block shape ty pair =
    Appends old new block shape ty (length old.func.now.insts)
    × (pair.0 ≡ length old.func.now.values) × (pair.1 ≡ length old.func.now.values + 1)

-- the first block from `block` on, among `count` ones, that isn't finished, and what it lacks
abbrev pub block_fault : ContextState → ℕ → Option FinalizeError
block_fault c block =
    if is_empty_status (status_of c block) then None
    else if is_yes (sealed_of c.ssa block) then (if is_filled_status (status_of c block) then None else Some (Unfilled block))
    else Some (Unsealed block)

abbrev pub or_else : Option FinalizeError → Option FinalizeError → Option FinalizeError
or_else None next = next
or_else (Some fault) next = Some fault

unfoldable pub first_fault : ContextState → ℕ → ℕ → Option FinalizeError
first_fault c block zero = None
first_fault c block (suc count) = or_else (block_fault c block) (first_fault c (block + 1) count)

-- what `finalize` answers
abbrev pub answer_of : Option FinalizeError → Result (Unit {0}) FinalizeError
answer_of None = Ok tt
answer_of (Some fault) = Err fault

abbrev pub verdict_of : Bool → ContextState → ℕ → Result (Unit {0}) FinalizeError
verdict_of failed c count = if failed then Err Failed else answer_of (first_fault c 0 count)
