-- What the construction makes of the parameters and edges of a function that carries a list of calls, in every program.
use Rattle.std.proofs.Common.{◌≡◌, ℕ, ◌≤◌, false, List, [], length}
use Rattle.clif_ir.specs.Body.{Body}
use Rattle.clif_ssa.specs.Ssa.{SsaState, sealed_of, predecessors_of}
use Rattle.clif_records.specs.Tables.{is_yes, pending_of}
use Rattle.clif_meaning.specs.Program.{Item, Instruct, Use, Assign}
use Rattle.clif_meaning.specs.Request.{AnsweredCall}
use Rattle.clif_simulation.specs.Carries.{Carries, Holds, NamesEarlier}
use Rattle.clif_simulation.specs.Structure.{CarryingLeavesNoParameters, CarryingMatchesEdges, EdgesEarlier, HasCallersAlone, KeepsNoParameter, LeavesFewParameters}
use Rattle.clif_simulation.specs.Tables.{program_so_far}
use Rattle.clif_simulation.proofs.Calls.{structured_so_far}
use Rattle.clif_simulation.proofs.Carrying.{all_mapped}
use Rattle.clif_simulation.proofs.Shape.CallersAlone.{alone_few, alone_unsealed, leaves_few}
use Rattle.clif_simulation.proofs.Shape.EdgesMatching.{edges_match}
use Rattle.clif_simulation.proofs.Whole.{declared_types}

few_parameters : (calls : List AnsweredCall) (f : Body) (s : SsaState) → Carries calls f s → LeavesFewParameters calls f s
few_parameters calls f s carries = leaves_few calls f s carries.own (declared_types calls) (structured_so_far calls f s carries) carries.holds.parameters

pub no_parameters : CarryingLeavesNoParameters
no_parameters calls f s carries = (few_parameters calls f s carries).leaves

pub sealed_parameters : (calls : List AnsweredCall) (f : Body) (s : SsaState) → Carries calls f s → KeepsNoParameter calls f s
sealed_parameters calls f s carries = (few_parameters calls f s carries).keeps

edges_earlier : (calls : List AnsweredCall) (item : Item) → NamesEarlier calls item → EdgesEarlier calls item
edges_earlier calls (Instruct place instruction results) earlier = earlier.2
edges_earlier calls (Use variable name) earlier = tt
edges_earlier calls (Assign variable name) earlier = tt

pub matching_edges : CarryingMatchesEdges
matching_edges calls f s carries none_waits typed =
    let holds : Holds calls carries.own f s = carries.holds in
    edges_match calls f s carries.own (declared_types calls) (structured_so_far calls f s carries) holds.parameters
    holds.parameters_values holds.values_typed
    (λ name. all_mapped (NamesEarlier calls) (EdgesEarlier calls) (edges_earlier calls) ((program_so_far calls).items name) (holds.earlier name))
    holds.items holds.own_named holds.declared none_waits typed

-- A block in which no parameter waits has the caller's alone, where at most one branch leads to it, or where it isn't sealed:
-- then the caller may put more behind them.
pub carried_alone_few : (calls : List AnsweredCall) (f : Body) (s : SsaState) → Carries calls f s → (b : ℕ) → length (predecessors_of s b) ≤ 1
    → pending_of (sealed_of s b) ≡ [] → HasCallersAlone calls f b
carried_alone_few calls f s carries = alone_few calls f s carries.own (declared_types calls) (structured_so_far calls f s carries) carries.holds.parameters

pub carried_alone_unsealed : (calls : List AnsweredCall) (f : Body) (s : SsaState) → Carries calls f s → (b : ℕ) → is_yes (sealed_of s b) ≡ false
    → pending_of (sealed_of s b) ≡ [] → HasCallersAlone calls f b
carried_alone_unsealed calls f s carries = alone_unsealed calls f s carries.own (declared_types calls) (structured_so_far calls f s carries) carries.holds.parameters
