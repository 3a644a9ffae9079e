-- When a text becomes a function. Source: own.
use Rattle.std.specs.Prelude.{◌≡◌, ℕ, List, All, Option}
use Rattle.clif_check.specs.WellTyped.{IsWellTyped, insts_in_order}
use Rattle.clif_ir.specs.Body.{Body}
use Rattle.clif_regions.specs.Asking.{Asks}
use Rattle.clif_replay.specs.Replay.{ReplayMakes}
use Rattle.clif_script.specs.declared.program.TypeCheck.{TypeCheck}
use Rattle.clif_script.specs.declared.program.TypeCheck.TheVariants.{Checked}
use Rattle.clif_text.specs.Script.{SaysScript}
use Rattle.clif_text.specs.declared.reader.Script.{Script}

-- if types are checked, each instruction of the layout's blocks is well typed
abbrev pub HasTypesAs : TypeCheck → Body → Type 0
HasTypesAs types function = types ≡ Checked → All (IsWellTyped function) (insts_in_order function)

-- the script's calls make a function of its name and its signature, on its target, with this callback, whose types are checked or not
pub record MakesFunction {C : Type 0} (types : TypeCheck) (script : Script) (callback : Option C) (asks_of : C → Asks) : Type 0 where
  pub function : Body
  pub makes : ReplayMakes script.calls.items script.name script.signature script.config callback asks_of function
  pub typed : HasTypesAs types function

-- the lines of the text say such a script
pub record IsAccepted {C : Type 0} (types : TypeCheck) (text : List ℕ) (callback : Option C) (asks_of : C → Asks) : Type 0 where
  pub script : Script
  pub says : ∥ SaysScript text script ∥₁
  pub accepted : MakesFunction types script callback asks_of
