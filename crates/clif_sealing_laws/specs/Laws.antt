-- Laws on two finished functions whose scripts differ only in when blocks are sealed: they have the same meaning, which is
-- that they make the same outside calls and end alike. Only one of the scripts has to meet the premises. Source: own.
use Rattle.std.specs.Prelude.{◌≡◌, ℕ, List, [], Option}
use Rattle.clif_types.specs.Signature.{SignatureShape}
use Rattle.clif_types.specs.declared.target.PointerWidth.{PointerWidth}
use Rattle.clif_types.specs.declared.target.TargetFrontendConfig.{TargetFrontendConfig}
use Rattle.clif_types.specs.Target.{pointer_type_of}
use Rattle.clif_ir.specs.Body.{Body}
use Rattle.clif_meaning.specs.Headline.{IsWorldOf, MeansTheSame, function_behaviour, script_run}
use Rattle.clif_meaning.specs.Premises.{Premises}
use Rattle.clif_meaning.specs.Request.{AnsweredCall, script_of}
use Rattle.clif_meaning.specs.SameMeaning.{SameMeaning}
use Rattle.clif_meaning.specs.View.{view_of}
use Rattle.clif_meaning.specs.World.{World}
use Rattle.clif_calls.specs.declared.call.Call.{Call}
use Rattle.clif_renaming.specs.CallsSealing.{CallsDifferInSealing}
use Rattle.clif_renaming.specs.Sealing.{DifferInSealing}
use Rattle.clif_expansion.specs.CallsHeadline.{CallsMeanTheSame, CallsPremises, behaviour_beside_calls, run_of_calls}
use Rattle.clif_replay.specs.Requests.{calls_of}
use Rattle.clif_replay.specs.Replayed.{IsBuiltBy, recorded_in}
use Rattle.clif_builder.specs.Context.{ContextState}
use Rattle.clif_builder.specs.StandsFor.{StandsIn}

-- A finished function of a builder: the builder stood for the calls, with this context and current block, as `stands` of each
-- call says; and the function means what they mean, as `same_meaning` of `finalize` says where it succeeds.
pub record IsFinishedFrom (calls : List AnsweredCall) (declared : SignatureShape) (width : PointerWidth) (f : Body) : Type 0 where
  pub context : ContextState
  pub position : Option ℕ
  pub stands : StandsIn declared calls f context position
  pub same_meaning : MeansTheSame (script_of calls) declared width (view_of f)

-- Two builders that stand for scripts that differ only in when blocks are sealed, finished: their functions have the same
-- meaning, in each world in which the first script meets the premises. Source: own.
abbrev pub BuiltFunctionsAgree : Type 0
BuiltFunctionsAgree =
    (calls others : List AnsweredCall) (declared : SignatureShape) (width : PointerWidth) (f g : Body) (world : World)
    → DifferInSealing (script_of calls) (script_of others)
    → IsFinishedFrom calls declared width f → IsFinishedFrom others declared width g
    → IsWorldOf declared (view_of f) width world
    → Premises (script_of calls) declared (pointer_type_of width) (script_run (script_of calls) (view_of f) world)
    → SameMeaning (function_behaviour (script_of calls) (view_of f) world) (function_behaviour (script_of others) (view_of g) world)

-- What `replay` says of the function that it returns, in its clauses of these names.
pub record IsReplayOf (calls : List Call) (declared : SignatureShape) (config : TargetFrontendConfig) (f : Body) : Type 0 where
  pub same_meaning : CallsMeanTheSame (calls_of config declared calls) declared config.pointer_width (view_of f)
  pub built : IsBuiltBy config calls declared f

-- Two lists of calls that `replay` accepts and that differ only in when blocks are sealed; they may emit, and ask for stack maps. In
-- each world of the one function in which its list meets the premises, where both functions have the same list of slots, these have
-- the same meaning. Source: own.
abbrev pub ReplayedFunctionsAgree : Type 0
ReplayedFunctionsAgree =
    (calls others : List Call) (declared : SignatureShape) (config : TargetFrontendConfig) (f g : Body) (world : World)
    → CallsDifferInSealing (calls_of config declared calls) (calls_of config declared others)
    → IsReplayOf calls declared config f → IsReplayOf others declared config g
    → (view_of f).slots ≡ (view_of g).slots
    → IsWorldOf declared (view_of f) config.pointer_width world
    → CallsPremises (calls_of config declared calls) declared (pointer_type_of config.pointer_width) (run_of_calls (calls_of config declared calls) (view_of f) world)
    → SameMeaning (behaviour_beside_calls (calls_of config declared calls) (view_of f) world) (behaviour_beside_calls (calls_of config declared others) (view_of g) world)

-- They have the same list of slots where neither records a value for stack maps: the slots that the calls create.
abbrev pub ReplayedSlotsAgree : Type 0
ReplayedSlotsAgree =
    (calls others : List Call) (declared : SignatureShape) (config : TargetFrontendConfig) (f g : Body)
    → CallsDifferInSealing (calls_of config declared calls) (calls_of config declared others)
    → (first : IsReplayOf calls declared config f) → (second : IsReplayOf others declared config g)
    → recorded_in first.built.found ≡ [] → recorded_in second.built.found ≡ []
    → (view_of f).slots ≡ (view_of g).slots
