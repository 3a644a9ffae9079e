-- How a step of the rewriting acts on slots, and what of a function it may change. Source: own.
use Rattle.std.specs.FinMap as fin
use Rattle.std.specs.List.{AllZip}
use Rattle.std.specs.Prelude.{◌≡◌, ◌≢◌, ◌⊎◌, ◌&&◌, ◌<◌, ◌++◌, ℕ, Bool, true, false, is_none, Some, List, [], ◌∷◌, drop, filter, flat_map, length, take, map as each, Contains}
use Rattle.clif_types.specs.EntitySet.{has}
use Rattle.clif_types.specs.declared.stackmap.UserStackMapEntry.{UserStackMapEntry}
use Rattle.clif_types.specs.declared.types.«Type».{«Type»}
use Rattle.clif_tables.specs.Lists.{stack_map_at}
use Rattle.clif_instructions.specs.Edges.{edge_at}
use Rattle.clif_instructions.specs.Instruction.{destinations, is_call, operands}
use Rattle.clif_instructions.specs.declared.block_call.BlockArg.{BlockArg}
use Rattle.clif_instructions.specs.declared.block_call.BlockArg.TheVariants as arg
use Rattle.clif_instructions.specs.declared.block_call.BlockCall.{BlockCall}
use Rattle.clif_instructions.specs.Members.{Stands}
use Rattle.clif_ir.specs.Body.{Body, block_at, inst_at, resolved, value_at}
use Rattle.clif_ir.specs.Consistent.{IsConsistent}
use Rattle.clif_safepoints.specs.Analysis.{found_across, found_in}
use Rattle.clif_stack_slots.specs.Slots.{assigned_in}
use Rattle.clif_stack_slots.specs.declared.slots.StackSlots.{StackSlots}
use Rattle.clif_spiller.specs.Allocating.{Gives, IsSlotState, Needs, SlotAct, SlotState, after_acts}
use Rattle.clif_spiller.specs.Keeping.{Keeps}
use Rattle.clif_spiller.specs.Plans.{GoesOn, IsPlan}
use Rattle.clif_spiller.specs.Text.{LeadsOn, ReadsUses, StoresAfter}
use Rattle.clif_spiller.specs.declared.plan.Plan.{Plan}

-- a function on the way from the one that was found, by a plan for that one
pub record IsOnTheWay (first : Body) (plan : Plan) (f : Body) : Type 0 where
  pub known : IsConsistent first
  pub planned : IsPlan first plan
  pub keeps : Keeps 0 first f

abbrev pub types_in : Body → ℕ → «Type»
types_in first v = (value_at first v).ty

-- slots go by these acts
abbrev pub GoesBy : Plan → Body → StackSlots → Body → StackSlots → List SlotAct → Type 0
GoesBy plan f a g b acts =
    (first : Body) → IsOnTheWay first plan f → (st : SlotState) → IsSlotState f a st
    → IsSlotState g b (after_acts (types_in first) acts st)

-- Of the instructions that were there at most one changes, and no stack map; new ones come to its block alone, and of the blocks that
-- were there none comes to the layout. Slots go by these acts.
pub record Acts (plan : Plan) (inst : ℕ) (f : Body) (a : StackSlots) (g : Body) (b : StackSlots) (acts : List SlotAct) : Type 0 where
  pub others : (i : ℕ) → i < length f.insts → i ≢ inst → inst_at g i ≡ inst_at f i
  pub maps : (i : ℕ) → stack_map_at g.tables i ≡ stack_map_at f.tables i
  pub lists : (c : ℕ) → c < length f.blocks → c ≢ (inst_at f inst).block → (block_at g c).insts ≡ (block_at f c).insts
  pub layout : (c : ℕ) → c < length f.blocks → Stands c g.layout → Stands c f.layout
  pub goes_by : GoesBy plan f a g b acts

-- No instruction that was there changes, and no stack map, and new ones come to one block alone. These values of the function that was
-- found are given, so that their slots are free.
pub record ActsGiving (home : ℕ) (f : Body) (a : StackSlots) (g : Body) (b : StackSlots) (values : List ℕ) : Type 0 where
  pub lists : (c : ℕ) → c ≢ home → (block_at g c).insts ≡ (block_at f c).insts
  pub layout : g.layout ≡ f.layout
  pub nodes : (i : ℕ) → i < length f.insts → inst_at g i ≡ inst_at f i
  pub maps : (i : ℕ) → stack_map_at g.tables i ≡ stack_map_at f.tables i
  pub goes_by : (first : Body) → Keeps 0 first f
      → ((v : ℕ) → Contains values v → v < length first.values)
      → (st : SlotState) → IsSlotState f a st
      → IsSlotState g b (after_acts (types_in first) (each Gives values) st)

-- the entry of a stack map for a value of the function that was found, in a state of slots
pub record IsEntryOf (first : Body) (st : SlotState) (value : ℕ) (entry : UserStackMapEntry) : Type 0 where
  pub ty : entry.ty ≡ types_in first value
  pub slot : fin.get st.assigned value ≡ Some entry.slot
  pub offset : entry.offset ≡ 0

-- An instruction gets a stack map of these values, each of which needs a slot. No instruction changes.
pub record ActsMapping (plan : Plan) (inst : ℕ) (f : Body) (a : StackSlots) (g : Body) (b : StackSlots) (values : List ℕ) : Type 0 where
  pub insts : g.insts ≡ f.insts
  pub blocks : g.blocks ≡ f.blocks
  pub layout : g.layout ≡ f.layout
  pub maps : (i : ℕ) → i ≢ inst → stack_map_at g.tables i ≡ stack_map_at f.tables i
  pub goes_by : GoesBy plan f a g b (each Needs values)
  pub entries : (first : Body) → IsOnTheWay first plan f → (st : SlotState) → IsSlotState f a st
      → AllZip (IsEntryOf first (after_acts (types_in first) (each Needs values) st)) values (stack_map_at g.tables inst)

-- a value has a slot
abbrev pub HasSlot : StackSlots → ℕ → Type 0
HasSlot slots value = (slot : ℕ) × (fin.get (assigned_in slots) value ≡ Some slot)

-- one of these edges leads to a block at whose front the value is live
abbrev pub IsLiveAhead : Plan → List BlockCall → ℕ → Type 0
IsLiveAhead plan edges value =
    (edge : BlockCall) × Contains edges edge × Contains (found_in plan.liveness.now edge.block) value

-- Spilled values that are live ahead need slots. No instruction changes, and no stack map.
pub record ActsAhead (plan : Plan) (inst : ℕ) (f : Body) (a : StackSlots) (g : Body) (b : StackSlots) : Type 0 where
  pub insts : g.insts ≡ f.insts
  pub blocks : g.blocks ≡ f.blocks
  pub layout : g.layout ≡ f.layout
  pub maps : (i : ℕ) → stack_map_at g.tables i ≡ stack_map_at f.tables i
  pub outs : List ℕ
  pub goes_by : GoesBy plan f a g b (each Needs outs)
  pub live : (v : ℕ) → Contains outs v → Contains plan.spilled v × IsLiveAhead plan (destinations (inst_at f inst).shape) v
  pub all : (v : ℕ) → Contains plan.spilled v → IsLiveAhead plan (destinations (inst_at f inst).shape) v → Contains outs v ⊎ HasSlot a v

-- whether a value is spilled and has no slot
abbrev pub is_waiting : Plan → StackSlots → ℕ → Bool
is_waiting plan slots value = has plan.spilled value && is_none (fin.get (assigned_in slots) value)

-- the spilled ones of these values need slots
abbrev pub needs : Plan → List ℕ → List SlotAct
needs plan values = each Needs (filter (has plan.spilled) values)

-- what an instruction's operands stand for
abbrev pub operand_values : Body → ℕ → List ℕ
operand_values f inst = each (resolved f) (operands (inst_at f inst).shape)

-- what the values among arguments of an edge stand for
abbrev pub passed_value : Body → BlockArg → List ℕ
passed_value f (arg.Value value) = resolved f value ∷ []
passed_value f (arg.TryCallRet index) = []
passed_value f (arg.TryCallExn part) = []

abbrev pub passed_values : Body → List BlockArg → List ℕ
passed_values f args = flat_map (passed_value f) args

abbrev pub edge_values : Body → List BlockCall → List ℕ
edge_values f edges = flat_map (λ (edge : BlockCall). passed_values f edge.args) edges

-- what an instruction uses: its operands, and what its edges pass
abbrev pub used_values : Body → ℕ → List ℕ
used_values f inst = operand_values f inst ++ edge_values f (destinations (inst_at f inst).shape)

-- the arguments of an edge of an instruction
abbrev pub args_of : Body → (inst edge : ℕ) → List BlockArg
args_of f inst edge = (edge_at (destinations (inst_at f inst).shape) edge).args

-- what stands for an argument that isn't there
abbrev pub no_argument : BlockArg
no_argument = arg.Value 0

-- An edge passes no spilled value any more, since those that it passed are read behind it. Operands and other edges stay.
pub record LandsEdge (plan : Plan) (inst edge : ℕ) (f : Body) (a : StackSlots) (g : Body) (b : StackSlots) : Type 0 where
  pub acts : Acts plan inst f a g b (needs plan (passed_values f (args_of f inst edge)))
  pub operands : operands (inst_at g inst).shape ≡ operands (inst_at f inst).shape
  pub others : (k : ℕ) → k ≢ edge
      → edge_at (destinations (inst_at g inst).shape) k ≡ edge_at (destinations (inst_at f inst).shape) k
  pub passes_none : needs plan (passed_values g (args_of g inst edge)) ≡ []

-- Edges pass no spilled value any more: those of the items first, and then the normal one. Operands stay.
pub record LandsEdges (plan : Plan) (inst : ℕ) (f : Body) (a : StackSlots) (g : Body) (b : StackSlots) : Type 0 where
  pub acts : Acts plan inst f a g b
      (needs plan (edge_values f (drop 1 (destinations (inst_at f inst).shape)) ++ edge_values f (take 1 (destinations (inst_at f inst).shape))))
  pub operands : operands (inst_at g inst).shape ≡ operands (inst_at f inst).shape
  pub pass_none : needs plan (edge_values g (destinations (inst_at g inst).shape)) ≡ []

-- A call gets its stack map, and then landing blocks.
pub record ActsAtCall (plan : Plan) (inst : ℕ) (f : Body) (a : StackSlots) (g : Body) (b : StackSlots) : Type 0 where
  pub mapped : Body
  pub mapped_slots : StackSlots
  pub goes : GoesOn (length f.blocks) f a mapped mapped_slots
  pub maps : ActsMapping plan inst f a mapped mapped_slots (found_across plan.liveness.now inst)
  pub goes_on : GoesOn (length mapped.blocks) mapped mapped_slots g b
  pub lands : LandsEdges plan inst mapped mapped_slots g b
  pub leads : LeadsOn plan inst mapped mapped_slots g b

-- Where a collector may run: a call, or another instruction, at which nothing happens.
abbrev pub ActsAtSafepoint : Bool → Plan → (inst : ℕ) → Body → StackSlots → Body → StackSlots → Type 0
ActsAtSafepoint true plan inst f a g b = ActsAtCall plan inst f a g b
ActsAtSafepoint false plan inst f a g b = (g ≡ f) × (b ≡ a)

-- What is rewritten at an instruction, step by step: what is live ahead, what it gives, its stack map and its landing blocks, and what
-- it uses.
pub record ActsAtInst (plan : Plan) (inst : ℕ) (f : Body) (a : StackSlots) (g : Body) (b : StackSlots) : Type 0 where
  pub ahead : Body
  pub ahead_slots : StackSlots
  pub goes_ahead : GoesOn (length f.blocks) f a ahead ahead_slots
  pub acts_ahead : ActsAhead plan inst f a ahead ahead_slots
  pub given : Body
  pub given_slots : StackSlots
  pub goes_given : GoesOn (length ahead.blocks) ahead ahead_slots given given_slots
  pub acts_given : ActsGiving (inst_at ahead inst).block ahead ahead_slots given given_slots (inst_at ahead inst).results
  pub stored : StoresAfter plan inst ahead ahead_slots given given_slots (inst_at ahead inst).results
  pub called : Body
  pub called_slots : StackSlots
  pub goes_called : GoesOn (length given.blocks) given given_slots called called_slots
  pub acts_called : ActsAtSafepoint (is_call (inst_at given inst).shape) plan inst given given_slots called called_slots
  pub goes_used : GoesOn (length called.blocks) called called_slots g b
  pub acts_used : Acts plan inst called called_slots g b (needs plan (used_values called inst))
  pub read : ReadsUses plan inst called called_slots g b
