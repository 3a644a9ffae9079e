-- What the spiller writes around an instruction, by numbers of instructions and values: reloads before it, stores after what gives a
-- value, and landing blocks on the edges of calls. Source: own, after Cranelift's spiller of safepoints.
use Rattle.std.specs.Prelude.{◌≡◌, ◌⊎◌, ◌<◌, ◌≤◌, ◌+◌, ◌++◌, ℕ, suc, pos, Bool, true, false, List, [], ◌∷◌, Option, None, Some, is_some, filter, flat_map, length, map as each, Contains, slice_index_or}
use Rattle.std.specs.FinMap as map
use Rattle.std.specs.List.{AllZip}
use Rattle.clif_types.specs.EntitySet.{has}
use Rattle.clif_types.specs.declared.types.LaneType.TheVariants as lane
use Rattle.clif_types.specs.declared.types.«Type».{«Type»}
use Rattle.clif_types.specs.declared.types.«Type».TheVariants as type
use Rattle.clif_opcodes.specs.declared.opcodes.StackOpcode.TheVariants.{StackAddr}
use Rattle.clif_tables.specs.Callees.{signature_at, types_of}
use Rattle.clif_tables.specs.Lists.{TableLists, stack_map_at}
use Rattle.clif_instructions.specs.Edges.{edge_at}
use Rattle.clif_instructions.specs.ExceptionTables.{ExceptionShape}
use Rattle.clif_instructions.specs.Instruction.{contexts, destinations, opcode_of, operands}
use Rattle.clif_instructions.specs.Members.{Stands}
use Rattle.clif_instructions.specs.declared.block_call.BlockArg.{BlockArg}
use Rattle.clif_instructions.specs.declared.block_call.BlockArg.TheVariants as arg
use Rattle.clif_instructions.specs.declared.block_call.BlockCall.{BlockCall}
use Rattle.clif_instructions.specs.declared.instructions.InstructionData.{InstructionData}
use Rattle.clif_instructions.specs.declared.instructions.InstructionData.TheVariants.{Jump, Load, StackLoad, Store}
use Rattle.clif_ir.specs.Body.{Body, block_at, inst_at, resolved, value_at}
use Rattle.clif_ir.specs.Reading.{place_in_block}
use Rattle.clif_meaning.specs.Event.{CallShape}
use Rattle.clif_meaning.specs.Typing.{call_shape}
use Rattle.clif_meaning.specs.View.{operation_of}
use Rattle.clif_stack_slots.specs.Slots.{assigned_in}
use Rattle.clif_stack_slots.specs.declared.slots.StackSlots.{StackSlots}
use Rattle.clif_spiller.specs.Inserting.{inst_beside, trusted}
use Rattle.clif_spiller.specs.declared.accesses.Spot.{Spot}
use Rattle.clif_spiller.specs.declared.accesses.Spot.TheVariants as spot
use Rattle.clif_spiller.specs.declared.plan.Plan.{Plan}

-- ACCESSES --------------------------------------------------------------------------------------------------------------

pub data Way : Type 0 where
  Stored : Way
  Reloaded : Way

-- An access to a value's slot is two instructions with numbers one after the other: the first gives the slot's address, a new value. What
-- a reload gives, its copy, is the value after that.
pub record Access : Type 0 where
  pub value : ℕ
  pub slot : ℕ
  pub inst : ℕ
  pub address : ℕ

-- the second instruction, and what it gives
abbrev pub access_shape : Way → Access → InstructionData
access_shape Stored x = Store trusted (x.value ∷ x.address ∷ []) (pos 0)
access_shape Reloaded x = Load trusted x.address (pos 0)

abbrev pub access_results : Way → Access → List ℕ
access_results Stored x = []
access_results Reloaded x = suc x.address ∷ []

-- the number after those of the values that it gives
abbrev pub past_access : Way → Access → ℕ
past_access Stored x = suc x.address
past_access Reloaded x = suc (suc x.address)

-- a copy has the type of the value
abbrev pub IsCopy : Way → Body → Access → Type 0
IsCopy Stored f x = Unit {0}
IsCopy Reloaded f x = (value_at f (suc x.address)).ty ≡ (value_at f x.value).ty

abbrev pub insts_of : List Access → List ℕ
insts_of [] = []
insts_of (x ∷ accesses) = x.inst ∷ suc x.inst ∷ insts_of accesses

-- an instruction of this shape and with these results, without a stack map
pub record IsNode (f : Body) (inst : ℕ) (shape : InstructionData) (results : List ℕ) : Type 0 where
  pub shape_is : (inst_at f inst).shape ≡ shape
  pub results_are : (inst_at f inst).results ≡ results
  pub no_map : stack_map_at f.tables inst ≡ []

-- an access is in a function
pub record IsAccess (way : Way) (pointer : «Type») (f : Body) (x : Access) : Type 0 where
  pub address : IsNode f x.inst (StackLoad StackAddr x.slot (pos 0)) (x.address ∷ [])
  pub access : IsNode f (suc x.inst) (access_shape way x) (access_results way x)
  pub exists : x.value < length f.values
  pub typed : (value_at f x.address).ty ≡ pointer
  pub copied : IsCopy way f x

-- accesses one after the other, whose instructions and values have numbers in these ranges, each later one beyond the earlier
abbrev pub AreAccesses : Way → «Type» → Body → (insts values : ℕ) → List Access → (insts_end values_end : ℕ) → Type 0
AreAccesses way pointer f insts values [] insts_end values_end = (insts ≤ insts_end) × (values ≤ values_end)
AreAccesses way pointer f insts values (x ∷ accesses) insts_end values_end =
    (insts ≤ x.inst) × (values ≤ x.address) × IsAccess way pointer f x
    × AreAccesses way pointer f (suc (suc x.inst)) (past_access way x) accesses insts_end values_end

-- each value has its slot
abbrev pub HaveSlots : StackSlots → List Access → Type 0
HaveSlots slots accesses = (x : Access) → Contains accesses x → map.get (assigned_in slots) x.value ≡ Some x.slot

-- a value that has a slot keeps it
abbrev pub KeepsSlots : StackSlots → StackSlots → Type 0
KeepsSlots a b = (v slot : ℕ) → map.get (assigned_in a) v ≡ Some slot → map.get (assigned_in b) v ≡ Some slot

-- PLACES ----------------------------------------------------------------------------------------------------------------

-- how many instructions of its block come before a spot
abbrev pub spot_place : Body → Spot → ℕ
spot_place f (spot.Before next) = place_in_block f next
spot_place f (spot.After previous) = place_in_block f previous + 1

-- a block is cut at a spot: these instructions come before it, and those after it
pub record IsCut (f : Body) (block : ℕ) (at : Spot) (front back : List ℕ) : Type 0 where
  pub list : (block_at f block).insts ≡ front ++ back
  pub home : (inst_at f (inst_beside at)).block ≡ block
  pub place : spot_place f at ≡ length front
  pub exists : inst_beside at < length f.insts
  pub block_exists : block < length f.blocks
  pub below : (i : ℕ) → Contains (front ++ back) i → i < length f.insts

-- Accesses come to a function at a spot, and the next ones come to the other spot.
pub record Adds (way : Way) (pointer : «Type») (f : Body) (a : StackSlots) (at : Spot) (g : Body) (b : StackSlots) (next : Spot) (accesses : List Access) : Type 0 where
  pub cut : (block : ℕ) (front back : List ℕ) → IsCut f block at front back → IsCut g block next (front ++ insts_of accesses) back
  pub are : AreAccesses way pointer g (length f.insts) (length f.values) accesses (length g.insts) (length g.values)
  pub slots : HaveSlots b accesses
  pub still : KeepsSlots a b
  pub blocks : length g.blocks ≡ length f.blocks

-- STORES ----------------------------------------------------------------------------------------------------------------

-- a value has a slot
abbrev pub is_assigned : StackSlots → ℕ → Bool
is_assigned slots v = is_some (map.get (assigned_in slots) v)

-- of values that are given those that have slots are stored at a spot, in order
pub record Stores (plan : Plan) (f : Body) (a : StackSlots) (at : Spot) (g : Body) (b : StackSlots) (next : Spot) (values : List ℕ) : Type 0 where
  pub accesses : List Access
  pub adds : Adds Stored plan.pointer f a at g b next accesses
  pub before : (i : ℕ) → at ≡ spot.Before i → next ≡ spot.Before i
  pub those : each (λ (x : Access). x.value) accesses ≡ filter (is_assigned a) values
  pub same : assigned_in b ≡ assigned_in a

abbrev pub StoresAfter : Plan → (inst : ℕ) → Body → StackSlots → Body → StackSlots → List ℕ → Type 0
StoresAfter plan inst f a g b values = (next : Spot) × Stores plan f a (spot.After inst) g b next values

abbrev pub StoresBefore : Plan → (inst : ℕ) → Body → StackSlots → Body → StackSlots → List ℕ → Type 0
StoresBefore plan inst f a g b values = Stores plan f a (spot.Before inst) g b (spot.Before inst) values

-- READS -----------------------------------------------------------------------------------------------------------------

-- a value is named as before, or by what it stands for
abbrev pub IsNamedBy : Body → (old new : ℕ) → Type 0
IsNamedBy f old new = (new ≡ old) ⊎ (new ≡ resolved f old)

-- a spilled value is read by one of these copies, and another one is named
abbrev pub IsReadWhere : Bool → Body → List Access → (old new : ℕ) → Type 0
IsReadWhere true f accesses old new = (x : Access) × Contains accesses x × (x.value ≡ resolved f old) × (new ≡ suc x.address)
IsReadWhere false f accesses old new = IsNamedBy f old new

abbrev pub IsReadBy : Plan → Body → List Access → (old new : ℕ) → Type 0
IsReadBy plan f accesses old new = IsReadWhere (has plan.spilled (resolved f old)) f accesses old new

abbrev pub IsArgumentBy : Plan → Body → List Access → BlockArg → BlockArg → Type 0
IsArgumentBy plan f accesses (arg.Value old) (arg.Value new) = IsReadBy plan f accesses old new
IsArgumentBy plan f accesses (arg.TryCallRet index) (arg.TryCallRet other) = index ≡ other
IsArgumentBy plan f accesses (arg.TryCallExn part) (arg.TryCallExn other) = part ≡ other
IsArgumentBy plan f accesses _ _ = ⊥

-- an edge that leads where it led
pub record IsEdgeBy (plan : Plan) (f : Body) (accesses : List Access) (old new : BlockCall) : Type 0 where
  pub block : new.block ≡ old.block
  pub args : AllZip (IsArgumentBy plan f accesses) old.args new.args

-- An instruction whose operands alone were replaced: opcode and operation stay.
pub record IsAlike (old new : InstructionData) : Type 0 where
  pub opcode : opcode_of new ≡ opcode_of old
  pub operation : (tables : TableLists) → operation_of tables new ≡ operation_of tables old

-- Reloads come right before an instruction, which does the same and names the same contexts.
pub record Rereads (plan : Plan) (inst : ℕ) (f : Body) (a : StackSlots) (g : Body) (b : StackSlots) (accesses : List Access) : Type 0 where
  pub adds : Adds Reloaded plan.pointer f a (spot.Before inst) g b (spot.Before inst) accesses
  pub alike : IsAlike (inst_at f inst).shape (inst_at g inst).shape
  pub named : contexts (inst_at g inst).shape ≡ contexts (inst_at f inst).shape

-- its operands are read anew,
pub record RereadsOperands (plan : Plan) (inst : ℕ) (f : Body) (a : StackSlots) (g : Body) (b : StackSlots) : Type 0 where
  pub accesses : List Access
  pub so : Rereads plan inst f a g b accesses
  pub reads : AllZip (IsReadBy plan f accesses) (operands (inst_at f inst).shape) (operands (inst_at g inst).shape)

-- or what one of its edges passes,
pub record RereadsEdge (plan : Plan) (inst edge : ℕ) (f : Body) (a : StackSlots) (g : Body) (b : StackSlots) : Type 0 where
  pub accesses : List Access
  pub so : Rereads plan inst f a g b accesses
  pub operands : operands (inst_at g inst).shape ≡ operands (inst_at f inst).shape
  pub reads : IsEdgeBy plan f accesses (edge_at (destinations (inst_at f inst).shape) edge) (edge_at (destinations (inst_at g inst).shape) edge)

-- or its contexts are named by what they stand for,
pub record ResolvesNames (inst : ℕ) (f g : Body) : Type 0 where
  pub alike : IsAlike (inst_at f inst).shape (inst_at g inst).shape
  pub operands : operands (inst_at g inst).shape ≡ operands (inst_at f inst).shape
  pub edges : destinations (inst_at g inst).shape ≡ destinations (inst_at f inst).shape
  pub named : AllZip (IsNamedBy f) (contexts (inst_at f inst).shape) (contexts (inst_at g inst).shape)

-- or all of these.
pub record ReadsUses (plan : Plan) (inst : ℕ) (f : Body) (a : StackSlots) (g : Body) (b : StackSlots) : Type 0 where
  pub accesses : List Access
  pub adds : Adds Reloaded plan.pointer f a (spot.Before inst) g b (spot.Before inst) accesses
  pub alike : IsAlike (inst_at f inst).shape (inst_at g inst).shape
  pub named : AllZip (IsNamedBy f) (contexts (inst_at f inst).shape) (contexts (inst_at g inst).shape)
  pub reads : AllZip (IsReadBy plan f accesses) (operands (inst_at f inst).shape) (operands (inst_at g inst).shape)
  pub edges : AllZip (IsEdgeBy plan f accesses) (destinations (inst_at f inst).shape) (destinations (inst_at g inst).shape)

-- LANDING BLOCKS --------------------------------------------------------------------------------------------------------

-- what a call gives itself, of an argument of an edge
abbrev pub own_arg : BlockArg → List BlockArg
own_arg (arg.Value value) = []
own_arg (arg.TryCallRet index) = arg.TryCallRet index ∷ []
own_arg (arg.TryCallExn part) = arg.TryCallExn part ∷ []

-- the type that a call gives it; where its signature lacks it, a 64-bit integer
abbrev pub returned_type : Option CallShape → (index : ℕ) → «Type»
returned_type None index = type.Lane lane.I64
returned_type (Some call) index = slice_index_or (types_of call.signature.returns) index (type.Lane lane.I64)

abbrev pub own_type_in : TableLists → InstructionData → BlockArg → «Type»
own_type_in tables shape (arg.Value value) = type.Lane lane.I64
own_type_in tables shape (arg.TryCallRet index) = returned_type (call_shape (operation_of tables shape)) index
own_type_in tables shape (arg.TryCallExn part) = type.Lane lane.I64

-- that type, by an exception table
abbrev pub table_type : TableLists → Option ExceptionShape → (index : ℕ) → «Type»
table_type tables None index = type.Lane lane.I64
table_type tables (Some table) index = slice_index_or (types_of (signature_at tables table.sig).returns) index (type.Lane lane.I64)

-- an argument of an edge, the parameter of the landing block that it asks for, if it does, and what the landing block passes on for it
pub record LandedRow : Type 0 where
  pub argument : BlockArg
  pub params : List ℕ
  pub new : ℕ

abbrev pub params_of : List LandedRow → List ℕ
params_of rows = flat_map (λ (row : LandedRow). row.params) rows

abbrev pub arguments_of : List LandedRow → List BlockArg
arguments_of rows = each (λ (row : LandedRow). row.argument) rows

abbrev pub passed_of : List LandedRow → List BlockArg
passed_of rows = each (λ (row : LandedRow). arg.Value row.new) rows

-- what the call gives itself is a parameter, and a value is read
abbrev pub IsLandedAs : Plan → Body → List Access → BlockArg → (params : List ℕ) → (new : ℕ) → Type 0
IsLandedAs plan f accesses (arg.Value old) params new = (params ≡ []) × IsReadBy plan f accesses old new
IsLandedAs plan f accesses (arg.TryCallRet index) params new = params ≡ new ∷ []
IsLandedAs plan f accesses (arg.TryCallExn part) params new = params ≡ new ∷ []

-- numbers in this range, each later one beyond the earlier
abbrev pub AreRising : (low : ℕ) → List ℕ → (high : ℕ) → Type 0
AreRising low [] high = low ≤ high
AreRising low (x ∷ xs) high = (low ≤ x) × AreRising (suc x) xs high

-- what accesses give is apart from these values
abbrev pub AreApartFrom : List Access → List ℕ → Type 0
AreApartFrom accesses values =
    (x : Access) (v : ℕ) → Contains accesses x → Contains values v → (v ≡ suc x.address → ⊥) × (v ≡ x.address → ⊥)

-- Arguments are landed in a block: by reloads before its jump, and by parameters, which come to those that it has. What a call gives itself
-- has its type.
pub record LandsRows (plan : Plan) (block jump : ℕ) (shape : InstructionData) (f : Body) (a : StackSlots) (g : Body) (b : StackSlots) (rows : List LandedRow) : Type 0 where
  pub accesses : List Access
  pub adds : Adds Reloaded plan.pointer f a (spot.Before jump) g b (spot.Before jump) accesses
  pub so : (row : LandedRow) → Contains rows row → IsLandedAs plan f accesses row.argument row.params row.new
  pub params : (block_at g block).params ≡ (block_at f block).params ++ params_of rows
  pub rising : AreRising (length f.values) (params_of rows) (length g.values)
  pub apart : AreApartFrom accesses (params_of rows)
  pub types : each (λ v. (value_at g v).ty) (params_of rows) ≡ each (own_type_in f.tables shape) (flat_map own_arg (arguments_of rows))

-- One argument is, for which this value is passed on; what the call gives itself is put at the end of `own`.
pub record LandsArgument (plan : Plan) (block jump : ℕ) (shape : InstructionData) (f : Body) (a : StackSlots) (g : Body) (b : StackSlots) (argument : BlockArg) (own own_then : List BlockArg) (value : ℕ) : Type 0 where
  pub params : List ℕ
  pub lands : LandsRows plan block jump shape f a g b (record { argument = argument; params = params; new = value } ∷ [])
  pub own_are : own_then ≡ own ++ own_arg argument

-- a jump to this block that passes nothing
pub record IsJumpTo (target : ℕ) (f : Body) (jump : ℕ) : Type 0 where
  pub shape_is : (inst_at f jump).shape ≡ Jump (record { block = target; args = [] })
  pub gives : (inst_at f jump).results ≡ []

-- The arguments of an edge are landed so; `own` is what the call gives itself among them, and the block's jump, which leads to the target,
-- passes on the others, too.
pub record LandsArguments (plan : Plan) (block jump target : ℕ) (shape : InstructionData) (f : Body) (a : StackSlots) (g : Body) (b : StackSlots) (args own : List BlockArg) : Type 0 where
  pub rows : List LandedRow
  pub lands : LandsRows plan block jump shape f a g b rows
  pub args_are : arguments_of rows ≡ args
  pub own_are : own ≡ flat_map own_arg args
  pub jumps : (before : List BlockArg) → (inst_at f jump).shape ≡ Jump (record { block = target; args = before })
      → (inst_at g jump).shape ≡ Jump (record { block = target; args = before ++ passed_of rows })

-- An edge of a call leads to a landing block, which takes what the call gives itself, reloads what is spilled and jumps on.
pub record LandsBy (plan : Plan) (shape : InstructionData) (f : Body) (g : Body) (b : StackSlots) (old new : BlockCall) : Type 0 where
  pub rows : List LandedRow
  pub accesses : List Access
  pub are : AreAccesses Reloaded plan.pointer g (length f.insts) (length f.values) accesses (length g.insts) (length g.values)
  pub slots : HaveSlots b accesses
  pub so : (row : LandedRow) → Contains rows row → IsLandedAs plan f accesses row.argument row.params row.new
  pub args_are : arguments_of rows ≡ old.args
  pub own_are : new.args ≡ flat_map own_arg old.args
  pub params : (block_at g new.block).params ≡ params_of rows
  pub rising : AreRising (length f.values) (params_of rows) (length g.values)
  pub apart : AreApartFrom accesses (params_of rows)
  pub types : each (λ v. (value_at g v).ty) (params_of rows) ≡ each (own_type_in f.tables shape) new.args
  pub jump : ℕ
  pub from_jump : length f.insts ≤ jump
  pub to_jump : jump < length g.insts
  pub from_block : length f.blocks ≤ new.block
  pub to_block : new.block < length g.blocks
  pub stands : Stands new.block g.layout
  pub list : (block_at g new.block).insts ≡ insts_of accesses ++ jump ∷ []
  pub jumps : IsNode g jump (Jump (record { block = old.block; args = passed_of rows })) []

-- an edge of a call stays, and passes no spilled value, or leads to a landing block
abbrev pub IsLedBy : Plan → InstructionData → Body → Body → StackSlots → (old new : BlockCall) → Type 0
IsLedBy plan shape f g b old new = ((new ≡ old) × IsEdgeBy plan f [] old old) ⊎ LandsBy plan shape f g b old new

-- of the edges of an instruction this one
abbrev pub IsLedAt : Plan → (inst : ℕ) → Body → Body → StackSlots → (edge : ℕ) → Type 0
IsLedAt plan inst f g b edge =
    IsLedBy plan (inst_at f inst).shape f g b (edge_at (destinations (inst_at f inst).shape) edge) (edge_at (destinations (inst_at g inst).shape) edge)

-- a new block is one to which this edge leads
abbrev pub IsLandingOf : Plan → (inst : ℕ) → Body → Body → StackSlots → (edge block : ℕ) → Type 0
IsLandingOf plan inst f g b edge block =
    ((edge_at (destinations (inst_at g inst).shape) edge).block ≡ block)
    × LandsBy plan (inst_at f inst).shape f g b (edge_at (destinations (inst_at f inst).shape) edge) (edge_at (destinations (inst_at g inst).shape) edge)

-- Places of instructions stay, and the instruction does the same and names the same contexts.
pub record Relands (inst : ℕ) (f : Body) (a : StackSlots) (g : Body) (b : StackSlots) : Type 0 where
  pub still : KeepsSlots a b
  pub cut : (block : ℕ) (at : Spot) (front back : List ℕ) → IsCut f block at front back → IsCut g block at front back
  pub alike : IsAlike (inst_at f inst).shape (inst_at g inst).shape
  pub named : contexts (inst_at g inst).shape ≡ contexts (inst_at f inst).shape

-- An edge of a call is led on, and a new block is one to which it leads.
pub record LeadsOne (plan : Plan) (inst edge : ℕ) (f : Body) (a : StackSlots) (g : Body) (b : StackSlots) : Type 0 where
  pub so : Relands inst f a g b
  pub led : IsLedAt plan inst f g b edge
  pub blocks : (block : ℕ) → length f.blocks ≤ block → block < length g.blocks → IsLandingOf plan inst f g b edge block

-- All edges of a call are.
pub record LeadsOn (plan : Plan) (inst : ℕ) (f : Body) (a : StackSlots) (g : Body) (b : StackSlots) : Type 0 where
  pub so : Relands inst f a g b
  pub count : length (destinations (inst_at g inst).shape) ≡ length (destinations (inst_at f inst).shape)
  pub led : (edge : ℕ) → edge < length (destinations (inst_at f inst).shape) → IsLedAt plan inst f g b edge
  pub blocks : (block : ℕ) → length f.blocks ≤ block → block < length g.blocks
      → (edge : ℕ) × (edge < length (destinations (inst_at f inst).shape)) × IsLandingOf plan inst f g b edge block
