-- What the spiller makes of slots and stack maps: what is spilled and where, and which slots each call's stack map names. Source: own,
-- after Cranelift's spiller of safepoints; the words are those of `clif_spilling_laws`.
use Rattle.std.specs.Prelude.{◌≡◌, ◌<◌, ℕ, Bool, List, ◌∷◌, Some, length, IsTrue}
use Rattle.clif_types.specs.EntitySet.{has}
use Rattle.clif_types.specs.declared.types.«Type».{«Type»}
use Rattle.clif_tables.specs.Lists.{stack_map_at}
use Rattle.clif_instructions.specs.Instruction.{is_call}
use Rattle.clif_ir.specs.Body.{Body, inst_at}
use Rattle.clif_meaning.specs.Event.{CallShape}
use Rattle.clif_meaning.specs.FunctionMachine.{function_machine}
use Rattle.clif_meaning.specs.FunctionView.{Placed}
use Rattle.clif_meaning.specs.Machine.{At, observed, state_after}
use Rattle.clif_meaning.specs.Path.{IsReachable}
use Rattle.clif_meaning.specs.SameMeaning.{SameMeaning}
use Rattle.clif_meaning.specs.Typing.{EdgesMatch, call_shape}
use Rattle.clif_meaning.specs.View.{view_of}
use Rattle.clif_meaning.specs.WellPlaced.{WellPlaced, function_flow}
use Rattle.clif_meaning.specs.World.{World}
use Rattle.clif_safepoints.specs.Analysis.{IsBlockOrder, place_of_inst}
use Rattle.clif_spilling_laws.specs.Live.{SharesNoSlot}
use Rattle.clif_spilling_laws.specs.Rewriting.{IsExactMap, IsSpilling}
use Rattle.clif_spilling_laws.specs.Runs.{IsMetBy, after_run, before_run}
use Rattle.clif_spilling_laws.specs.SlotContents.{HoldsAtCall}
use Rattle.clif_spilling_laws.specs.Spilling.{Spilling}
use Rattle.clif_typed_runs.specs.ValuesFit.{AliasesTyped}
use Rattle.clif_spiller.specs.Allocating.{HasFewSlots, every}

-- a function beside the one that it was, with what is spilled and where
abbrev pub beside : Body → «Type» → Body → (is_spilled : ℕ → Bool) → (slot_of : ℕ → ℕ) → Spilling
beside f pointer g is_spilled slot_of = record {
  before = view_of f;
  after = view_of g;
  count = length f.values;
  is_spilled = is_spilled;
  slot_of = slot_of;
  pointer = pointer;
}

-- a call that a path from the entry comes to
pub record IsReachedCall (f : Body) (inst : ℕ) : Type 0 where
  pub exists : inst < length f.insts
  pub call : IsTrue (is_call (inst_at f inst).shape)
  pub reachable : IsReachable (function_flow (view_of f)) (place_of_inst f inst)

-- The function before, under a collector over the members, means what the one after means under the collector by maps.
abbrev pub MeansTheSame : (members : ℕ → Bool) → Spilling → World → Type 0
MeansTheSame members s world = SameMeaning (observed (function_machine (before_run s members world))) (observed (function_machine (after_run s world)))

-- At each call that the function after comes to, the slots that its map names hold what the function before has there.
abbrev pub HoldsContents : (members : ℕ → Bool) → Spilling → World → Type 0
HoldsContents members s world =
    (n : ℕ) (new : Placed) (rest : List Placed) (call : CallShape)
    → (state_after (function_machine (after_run s world)) n).control ≡ At (new ∷ rest) → call_shape new.instruction.operation ≡ Some call
    → (m : ℕ) × HoldsAtCall every members s world new (state_after (function_machine (before_run s members world)) m) (state_after (function_machine (after_run s world)) n)

-- what is asked of a function so that the spilled one means the same: aliases are typed, edges match, and it is well placed
pub record MayBeRun (f : Body) : Type 0 where
  pub aliases_typed : AliasesTyped (view_of f)
  pub edges_match : EdgesMatch (view_of f)
  pub well_placed : WellPlaced (view_of f)

-- in a world that places the new slots and that the old function's run leaves alone there, by which members fit their types
abbrev pub InWorlds : Body → (recorded : List ℕ) → Spilling → (World → Type 0) → Type 0
InWorlds f recorded s Holds = MayBeRun f → (world : World) → IsMetBy (has recorded) s world → Holds world

-- It is a spilling: the recorded values that are live across a call that is reached are spilled, each to a new slot of its type's size and
-- alignment, stored after it is given and reloaded before it is used. Where the function is well placed, no two values that are live at
-- once share a slot; and there are few slots. Each such call's stack map names exactly the values that are live across it, and other
-- instructions keep the maps that they had. Then the spilled function means the same, and slots hold what maps name.
pub record Spills (f : Body) (recorded : List ℕ) (pointer : «Type») (g : Body) : Type 0 where
  pub is_spilled : ℕ → Bool
  pub slot_of : ℕ → ℕ
  pub spilling : IsSpilling every (beside f pointer g is_spilled slot_of) (has recorded)
  pub shares_no_slot : WellPlaced (view_of f) → SharesNoSlot every (beside f pointer g is_spilled slot_of)
  pub order : List ℕ
  pub ordered : IsBlockOrder (view_of f) order
  pub few_slots : HasFewSlots order (beside f pointer g is_spilled slot_of)
  pub mapped : (inst : ℕ) → IsReachedCall f inst
      → IsExactMap every (has recorded) (beside f pointer g is_spilled slot_of) (place_of_inst f inst) (stack_map_at g.tables inst)
  pub unmapped : (inst : ℕ) → inst < length f.insts → (¬ IsReachedCall f inst) → stack_map_at g.tables inst ≡ stack_map_at f.tables inst
  pub edges_match : AliasesTyped (view_of f) → EdgesMatch (view_of f) → EdgesMatch (view_of g)
  pub same_meaning : InWorlds f recorded (beside f pointer g is_spilled slot_of) (λ world. MeansTheSame (has recorded) (beside f pointer g is_spilled slot_of) world)
  pub slot_contents : InWorlds f recorded (beside f pointer g is_spilled slot_of) (λ world. HoldsContents (has recorded) (beside f pointer g is_spilled slot_of) world)
