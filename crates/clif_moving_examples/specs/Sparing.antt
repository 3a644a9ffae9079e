-- Why a function has to spare the places of its later spill slots: one that stores there without need shows what the script shows before
-- it is spilled, and something else after. Own.
use Rattle.std.specs.Prelude.{◌≡◌, ◌==◌, ℕ, zero, suc, true, List, [], ◌∷◌, ◌++◌, Some, pos}
use Rattle.clif_types.specs.declared.stackmap.UserStackMapEntry.{UserStackMapEntry}
use Rattle.clif_tables.specs.Entries.{ASignature}
use Rattle.clif_meaning.specs.Acceptance.{Accepted, return_, verdict_on}
use Rattle.clif_meaning.specs.BranchExamples.{block, no_block}
use Rattle.clif_meaning.specs.CallExamples.{i64}
use Rattle.clif_meaning.specs.Examples.{placed}
use Rattle.clif_meaning.specs.FunctionMachine.{FunctionRun, OverSet, function_machine}
use Rattle.clif_meaning.specs.FunctionView.{BlockView, FunctionView, Placed}
use Rattle.clif_meaning.specs.Headline.{function_run, in_spill_slot, script_behaviour}
use Rattle.clif_meaning.specs.Instruction.{Compute, Iconst, Store}
use Rattle.clif_meaning.specs.Machine.{observed}
use Rattle.clif_meaning.specs.Name.{answer_of}
use Rattle.clif_meaning.specs.Request.{AppendFunctionParams, CreateBlock, MakeEntry, NeedStackMap, OfValue, Script, SealBlock, SwitchToBlock}
use Rattle.clif_meaning.specs.SameMeaning.{Behaviour, SameMeaning}
use Rattle.clif_meaning.specs.World.{World}
use Rattle.clif_premise_examples.specs.Scripts.{untrusted}
use Rattle.clif_moving_examples.specs.Examples.{Course, IsMet, IsRefused, IsUnderPremises, returned_after}
use Rattle.clif_moving_examples.specs.Scripts.{Example, address_of_slot, calls, calling, entry_of, finished, imported, load_from, passes_one, returns, store_in, takes_nothing}

-- stack maps are asked to name the parameter, a call is made, and the parameter is returned
abbrev pub held_script : Script
held_script =
    CreateBlock ∷ AppendFunctionParams (block 0) (i64 ∷ []) ∷ NeedStackMap (OfValue (answer_of 1 0))
    ∷ MakeEntry (ASignature takes_nothing) ∷ MakeEntry (imported 0) ∷ SwitchToBlock (block 0) ∷ SealBlock (block 0)
    ∷ calling 0 takes_nothing [] ∷ return_ (answer_of 1 0 ∷ []) ∷ []

-- a store that no load needs:
--         v1 = iconst.i64 1000
--         v2 = iconst.i64 0
--         store v2, v1
abbrev pub dead_store : List Placed
dead_store =
    placed (Compute (Iconst (pos 1000))) i64 [] (1 ∷ []) ∷ placed (Compute (Iconst (pos 0))) i64 [] (2 ∷ [])
    ∷ placed (Store untrusted (pos 0)) i64 (2 ∷ 1 ∷ []) [] ∷ []

--     block0(v0: i64):
--         call fn0()
--         ..
--         return v0
abbrev pub held_before : List Placed → ℕ → BlockView
held_before between zero = record { parameters = 0 ∷ []; items = calls [] 0 takes_nothing [] ∷ between ++ returns 0 ∷ [] }
held_before between (suc number) = no_block

--     block0(v0: i64):
--         v3 = stack_addr.i64 ss0
--         store notrap aligned v0, v3
--         call fn0(), stack_map=[i64 @ ss0+0]
--         ..
--         v4 = stack_addr.i64 ss0
--         v5 = load.i64 notrap aligned v4
--         return v5
abbrev pub held_after : List Placed → List UserStackMapEntry → ℕ → BlockView
held_after between entries zero = record {
  parameters = 0 ∷ [];
  items = address_of_slot 3 ∷ store_in 0 3 ∷ calls entries 0 takes_nothing []
      ∷ between ++ address_of_slot 4 ∷ load_from 4 5 ∷ returns 5 ∷ [];
}
held_after between entries (suc number) = no_block

abbrev pub held : List Placed → Example
held between = record { script = held_script; signature = passes_one; blocks = held_after between }

-- what it was before it was spilled
abbrev pub unspilled : List Placed → FunctionView
unspilled between = record {
  signature = passes_one;
  entry = Some 0;
  blocks = held_before between;
  resolved = λ v. v;
  value_type = λ v. i64;
  slots = [];
}

-- what that shows under a collector over the parameter, where the spill slots of the later function are hidden
abbrev pub shown_before : List Placed → World → Behaviour
shown_before between world =
    let run : FunctionRun = function_run held_script (finished (held between)) world (OverSet (λ v. v == 0)) in
    observed (function_machine (record run { function = unspilled between }))

-- the parameter moves at the call
abbrev pub held_course : (function_steps : ℕ) → Course
held_course steps = record { passed = 64; returned = 80; unmoved = 64; calls = 1; script_steps = 2; function_steps = steps }

-- In a world that places the slot where the store is, the function before means what the script means.
pub record MeansItBefore (other world : World) : Type 0 where
  pub under : IsUnderPremises (held dead_store) 64 (finished (held dead_store)) other world
  pub stores_in_slot : in_spill_slot held_script (finished (held dead_store)) world 1000 ≡ true
  pub by_before : returned_after 5 (shown_before dead_store world) ≡ 80 ∷ []
  pub same : SameMeaning (script_behaviour held_script (finished (held dead_store)) world) (shown_before dead_store world)

pub record SparingIsNeeded : Type 0 where
  pub accepted : verdict_on held_script ≡ Accepted
  pub before : (other : World) → (world : World) × MeansItBefore other world
  -- the function after returns what was stored, and so doesn't mean what the script means
  pub after : IsRefused (held dead_store) (held_course 9) 1 (entry_of 0 ∷ []) 0
  -- without the store it does
  pub without : IsMet (held []) (held_course 6)
