-- Worked examples of what is recorded exactly: a variable is used in a block that isn't sealed, so a parameter is made for it and
-- waits. Where the variable is marked the parameter is recorded, and else it isn't. Own.
use Rattle.std.specs.Prelude.{List, [], ◌∷◌}
use Rattle.std.specs.FinMap as map
use Rattle.clif_nodes.specs.declared.nodes.ValueNode.{ValueNode}
use Rattle.clif_nodes.specs.declared.nodes.ValueOrigin.TheVariants.{Param}
use Rattle.clif_records.specs.Tables.{No}
use Rattle.clif_records.specs.Tracking.{Tracked, sets}
use Rattle.clif_ssa.specs.Ssa.{SsaState}
use Rattle.clif_meaning.specs.BranchExamples.{block}
use Rattle.clif_meaning.specs.CallExamples.{i64}
use Rattle.clif_meaning.specs.Request.{AnsweredCall, CreateBlock, DeclareVar, NeedStackMap, OfVariable, SwitchToBlock, UseVar}
use Rattle.clif_simulation.specs.CarryingExamples.{recorded_in}
use Rattle.clif_builder.specs.Recorded.{RecordsExactly}

-- the variable is declared, and used in the block, and is marked before or not
abbrev pub unmarked_calls : List AnsweredCall
unmarked_calls =
    record { request = CreateBlock; numbers = 0 ∷ [] }
    ∷ record { request = DeclareVar i64; numbers = 0 ∷ [] }
    ∷ record { request = SwitchToBlock (block 0); numbers = [] }
    ∷ record { request = UseVar 0; numbers = 0 ∷ [] } ∷ []

abbrev pub marked_calls : List AnsweredCall
marked_calls =
    record { request = CreateBlock; numbers = 0 ∷ [] }
    ∷ record { request = DeclareVar i64; numbers = 0 ∷ [] }
    ∷ record { request = NeedStackMap (OfVariable 0); numbers = [] }
    ∷ record { request = SwitchToBlock (block 0); numbers = [] }
    ∷ record { request = UseVar 0; numbers = 0 ∷ [] } ∷ []

-- the parameter
abbrev pub used_values : List ValueNode
used_values = record { ty = i64; origin = Param 0 } ∷ []

-- the state of the construction then, in which this is tracked: the parameter is on record for the variable, and waits
abbrev pub used_state : Tracked → SsaState
used_state tracked = record {
  records = map.from_entries (recorded_in 0 0 0 ∷ []);
  blocks = record { predecessors = []; sealed = No (record { variable = 0; param = 0 } ∷ []) } ∷ [];
  tracking = tracked;
}

pub record RecordedExamples : Type 0 where
  pub marked : RecordsExactly marked_calls used_values (used_state (sets (0 ∷ []) (0 ∷ [])))
  pub unmarked : RecordsExactly unmarked_calls used_values (used_state (sets [] []))
  -- no set is right without the parameter of a marked variable, and none with that of another
  pub no_less : RecordsExactly marked_calls used_values (used_state (sets (0 ∷ []) [])) → ⊥
  pub no_more : RecordsExactly unmarked_calls used_values (used_state (sets [] (0 ∷ []))) → ⊥
