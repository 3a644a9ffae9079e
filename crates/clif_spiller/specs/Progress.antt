-- How far a function is rewritten: which of its instructions are handled, and what is so of them and of the others. Source: own.
use Rattle.std.specs.FinMap as fin
use Rattle.std.specs.List.{AllZip}
use Rattle.std.specs.Prelude.{◌≡◌, ◌⊎◌, ◌<◌, ◌≤◌, ◌++◌, ℕ, true, List, [], ◌∷◌, drop, length, map as each, take, Contains, Some}
use Rattle.clif_types.specs.EntitySet.{has}
use Rattle.clif_tables.specs.Lists.{stack_map_at}
use Rattle.clif_instructions.specs.Instruction.{is_call}
use Rattle.clif_instructions.specs.Members.{Stands}
use Rattle.clif_ir.specs.Body.{Body, block_at, inst_at}
use Rattle.clif_ir.specs.Consistent.{IsConsistent}
use Rattle.clif_meaning.specs.Typing.{call_shape}
use Rattle.clif_meaning.specs.View.{operation_of, placed_of, view_of}
use Rattle.clif_safepoints.specs.Analysis.{IsAnalysis, found_across, place_of_inst}
use Rattle.clif_spilling_laws.specs.Rewriting.{AreRewritten as WrittenAs, HasMap, IsLandingBlock, IsRewrittenBlock}
use Rattle.clif_spilling_laws.specs.Spilling.{Spilling}
use Rattle.clif_stack_slots.specs.Slots.{assigned_in}
use Rattle.clif_stack_slots.specs.declared.slots.StackSlots.{StackSlots}
use Rattle.clif_spiller.specs.Acting.{IsEntryOf}
use Rattle.clif_spiller.specs.Allocating.{IsAllocated, IsAllocatedUpTo, IsSlotState, SlotState, every}
use Rattle.clif_spiller.specs.Keeping.{Keeps}
use Rattle.clif_spiller.specs.Plans.{IsPlan, KnowsSlots, insts_inside}
use Rattle.clif_spiller.specs.Spills.{beside}
use Rattle.clif_spiller.specs.Text.{KeepsSlots}
use Rattle.clif_spiller.specs.declared.plan.Plan.{Plan}

-- a plan for the function as it was found, by the analysis of it
pub record IsPlannedFor (first : Body) (recorded : List ℕ) (plan : Plan) : Type 0 where
  pub known : IsConsistent first
  pub planned : IsPlan first plan
  pub analysis : IsAnalysis first recorded plan.liveness.now

-- the instructions of these blocks
abbrev pub IsInDone : Body → List ℕ → ℕ → Type 0
IsInDone first done inst = (block : ℕ) × Contains done block × Contains (insts_inside first block) inst

-- and those of the block at hand from this place on
abbrev pub IsHandledInst : Body → List ℕ → (block from : ℕ) → ℕ → Type 0
IsHandledInst first done block from inst = IsInDone first done inst ⊎ Contains (drop from (insts_inside first block)) inst

-- another block than these
abbrev pub IsApart : List ℕ → ℕ → ℕ → Type 0
IsApart done block other = (Contains done other → ⊥) × (other ≡ block → ⊥)

-- Instructions that weren't handled are as they were, and so are the lists of blocks that weren't come to. A call that was handled has
-- the entries of what is live across it, and another instruction the stack map that it had.
pub record IsRewrittenTo (first : Body) (plan : Plan) (Handled : ℕ → Type 0) (Apart : ℕ → Type 0) (f : Body) (a : StackSlots) (st : SlotState) : Type 0 where
  pub keeps : Keeps (length first.blocks) first f
  pub slots : KnowsSlots f a
  pub state : IsSlotState f a st
  pub waiting : (i : ℕ) → i < length first.insts → (Handled i → ⊥) → inst_at f i ≡ inst_at first i
  pub lists : (c : ℕ) → c < length first.blocks → Apart c → (block_at f c).insts ≡ (block_at first c).insts
  pub layout : (c : ℕ) → c < length first.blocks → Stands c f.layout → Stands c first.layout
  pub mapped : (i : ℕ) → i < length first.insts → Handled i → is_call (inst_at first i).shape ≡ true
      → AllZip (IsEntryOf first st) (found_across plan.liveness.now i) (stack_map_at f.tables i)
  pub unmapped : (i : ℕ) → i < length first.insts → (Handled i → is_call (inst_at first i).shape ≡ true → ⊥)
      → stack_map_at f.tables i ≡ stack_map_at first.tables i

-- how many slots the function had
abbrev pub slots_before : Body → ℕ
slots_before first = length first.tables.stack_slots

-- THE END ---------------------------------------------------------------------------------------------------------------

-- A function leads to a last one, in which instructions that were handled, blocks that are done, and what was inserted are as they are here.
pub record LeadsTo (first : Body) (Handled Settled : ℕ → Type 0) (f : Body) (a : StackSlots) (last : Body) (final : StackSlots) : Type 0 where
  pub keeps : Keeps (length f.blocks) f last
  pub nodes : (i : ℕ) → i < length f.insts → (length first.insts ≤ i) ⊎ Handled i → inst_at last i ≡ inst_at f i
  pub maps : (i : ℕ) → i < length f.insts → (length first.insts ≤ i) ⊎ Handled i → stack_map_at last.tables i ≡ stack_map_at f.tables i
  pub lists : (c : ℕ) → c < length f.blocks → (length first.blocks ≤ c) ⊎ Settled c → (block_at last c).insts ≡ (block_at f c).insts
  pub layout : (c : ℕ) → c < length f.blocks → Stands c last.layout → Stands c f.layout
  pub still : KeepsSlots a final

-- In the last function each value has its slot, and is spilled; and each call has its exact map.
pub record IsEnd (first : Body) (recorded : List ℕ) (plan : Plan) (last : Body) (final : StackSlots) (slot_of : ℕ → ℕ) : Type 0 where
  pub slots : (v slot : ℕ) → fin.get (assigned_in final) v ≡ Some slot → slot_of v ≡ slot
  pub spilled : (v slot : ℕ) → fin.get (assigned_in final) v ≡ Some slot → has plan.spilled v ≡ true
  pub mapped : (inst : ℕ) → IsInDone first plan.liveness.now.order inst
      → HasMap every (beside first plan.pointer last (has plan.spilled) slot_of) (has recorded) (place_of_inst first inst)
      (call_shape (operation_of first.tables (inst_at first inst).shape)) (stack_map_at first.tables inst) (stack_map_at last.tables inst)

-- of whatever last function, beside the first
abbrev pub AtTheEnd : (first : Body) → (recorded : List ℕ) → Plan → (Handled Settled : ℕ → Type 0) → Body → StackSlots → (Spilling → Body → Type 0) → Type 0
AtTheEnd first recorded plan Handled Settled f a Holds =
    (last : Body) (final : StackSlots) (slot_of : ℕ → ℕ) → LeadsTo first Handled Settled f a last final → IsEnd first recorded plan last final slot_of
    → Holds (beside first plan.pointer last (has plan.spilled) slot_of) last

-- blocks that are done are written as they should be, and new blocks are landing blocks
pub record AreWritten (first : Body) (recorded : List ℕ) (plan : Plan) (done : List ℕ) (Handled : ℕ → Type 0) (f : Body) (a : StackSlots) : Type 0 where
  pub blocks : AtTheEnd first recorded plan Handled (Contains done) f a
      (λ s last. (c : ℕ) → Contains done c → IsRewrittenBlock every s (has recorded) c)
  pub landings : AtTheEnd first recorded plan Handled (Contains done) f a
      (λ s last. (c : ℕ) → length first.blocks ≤ c → c < length f.blocks → IsLandingBlock every s c)

-- and the instructions of the block at hand from this place on
pub record IsWrittenFrom (first : Body) (recorded : List ℕ) (plan : Plan) (done : List ℕ) (block from : ℕ) (f : Body) (a : StackSlots) : Type 0 where
  pub written : AreWritten first recorded plan done (IsHandledInst first done block from) f a
  pub code : List ℕ
  pub list : insts_inside f block ≡ take from (insts_inside first block) ++ code
  pub below : (i : ℕ) → Contains (insts_inside f block) i → i < length f.insts
  pub text : AtTheEnd first recorded plan (IsHandledInst first done block from) (Contains done) f a
      (λ s last. WrittenAs every s (has recorded) block from (each (placed_of first) (drop from (insts_inside first block))) (each (placed_of last) code))

-- PROGRESS --------------------------------------------------------------------------------------------------------------

-- a block is rewritten from this place on, after these blocks
pub record IsRewrittenIn (first : Body) (recorded : List ℕ) (plan : Plan) (done : List ℕ) (block from : ℕ) (f : Body) (a : StackSlots) : Type 0 where
  pub written : IsWrittenFrom first recorded plan done block from f a
  pub st : SlotState
  pub text : IsRewrittenTo first plan (IsHandledInst first done block from) (IsApart done block) f a st
  pub allocated : IsAllocated (view_of first) (has plan.spilled) plan.liveness.now.order (slots_before first) done block from st

-- these blocks are rewritten
pub record AreRewritten (first : Body) (recorded : List ℕ) (plan : Plan) (done : List ℕ) (f : Body) (a : StackSlots) : Type 0 where
  pub written : AreWritten first recorded plan done (IsInDone first done) f a
  pub st : SlotState
  pub text : IsRewrittenTo first plan (IsInDone first done) (λ c. Contains done c → ⊥) f a st
  pub allocated : IsAllocatedUpTo (view_of first) (has plan.spilled) plan.liveness.now.order (slots_before first) done st

-- one block more is rewritten, the next one of the order
abbrev pub RewritesBlock : Plan → (block : ℕ) → Body → StackSlots → Body → StackSlots → Type 0
RewritesBlock plan block f a g b =
    (first : Body) (recorded : List ℕ) → IsPlannedFor first recorded plan → (done rest : List ℕ) → plan.liveness.now.order ≡ done ++ block ∷ rest
    → AreRewritten first recorded plan done f a → AreRewritten first recorded plan (done ++ block ∷ []) g b

-- all blocks of the order
abbrev pub RewritesAll : Plan → Body → StackSlots → Body → StackSlots → Type 0
RewritesAll plan f a g b =
    (first : Body) (recorded : List ℕ) → IsPlannedFor first recorded plan → AreRewritten first recorded plan [] f a
    → AreRewritten first recorded plan plan.liveness.now.order g b
