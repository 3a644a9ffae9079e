-- The laws of renaming, as the contracts of this crate's functions state them.
use Rattle.std.specs.Prelude.{◌≡◌, ◌↔◌, ℕ}
use Rattle.clif_types.specs.declared.target.PointerWidth.{PointerWidth}
use Rattle.clif_types.specs.Signature.{SignatureShape}
use Rattle.clif_types.specs.declared.types.«Type».{«Type»}
use Rattle.clif_types.specs.Target.{pointer_type_of}
use Rattle.clif_meaning.specs.FunctionView.{FunctionView}
use Rattle.clif_meaning.specs.Headline.{IsWorldOf, MeansTheSame, function_behaviour, script_behaviour, script_run}
use Rattle.clif_meaning.specs.Machine.{observed}
use Rattle.clif_meaning.specs.Name.{Name}
use Rattle.clif_meaning.specs.Premises.{Premises}
use Rattle.clif_meaning.specs.Request.{Script}
use Rattle.clif_meaning.specs.SameMeaning.{Behaviour, SameMeaning}
use Rattle.clif_meaning.specs.ScriptMachine.{ScriptRun, script_machine}
use Rattle.clif_meaning.specs.World.{World}
use Rattle.clif_renaming.specs.Renaming.{IsRenamedRun, KeepsApart}
use Rattle.clif_renaming.specs.Sealing.{DifferInSealing, name_left, unsealed}

-- Two runs show the same after each number of steps, and so have the same meaning.
pub record ShowTheSame (left right : Behaviour) : Type 0 where
  pub each_step : (n : ℕ) → left n ≡ right n
  pub same_meaning : SameMeaning left right

-- A script's meaning doesn't depend on names.
abbrev pub NamesAreFree : Type 0
NamesAreFree =
    (rename : Name → Name) (run renamed : ScriptRun) → KeepsApart rename → IsRenamedRun rename run renamed
    → ShowTheSame (observed (script_machine run)) (observed (script_machine renamed))

-- A script's meaning doesn't depend on when blocks are sealed: the run of the script without its calls that seal is its run
-- renamed, and so scripts that differ only in when blocks are sealed show the same.
pub record SealingIsFree : Type 0 where
  pub apart : (script : Script) → KeepsApart (name_left script)
  pub renamed : (script : Script) (function : FunctionView) (world : World)
      → IsRenamedRun (name_left script) (script_run script function world) (script_run (unsealed script) function world)
  pub same : (left right : Script) (function : FunctionView) (world : World) → DifferInSealing left right
      → ShowTheSame (script_behaviour left function world) (script_behaviour right function world)

-- Scripts that differ only in when blocks are sealed meet the premises in the same worlds, beside functions with the same
-- slots. Source: own.
abbrev pub PremisesStay : Type 0
PremisesStay =
    (left right : Script) (signature : SignatureShape) (pointer : «Type») (f g : FunctionView) (world : World)
    → DifferInSealing left right → f.slots ≡ g.slots
    → Premises left signature pointer (script_run left f world) ↔ Premises right signature pointer (script_run right g world)

-- Two functions that mean what such scripts mean have the same meaning, in each world in which the first script meets the
-- premises, where the functions have the same slots. Source: own.
abbrev pub FunctionsMeanTheSame : Type 0
FunctionsMeanTheSame =
    (left right : Script) (signature : SignatureShape) (width : PointerWidth) (f g : FunctionView) (world : World)
    → DifferInSealing left right → f.slots ≡ g.slots
    → MeansTheSame left signature width f → MeansTheSame right signature width g
    → IsWorldOf signature f width world
    → Premises left signature (pointer_type_of width) (script_run left f world)
    → SameMeaning (function_behaviour left f world) (function_behaviour right g world)
