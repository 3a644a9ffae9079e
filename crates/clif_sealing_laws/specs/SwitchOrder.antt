-- The order in which the entries of a switch are set is free: `replay` takes both lists of calls for one script. That the entries
-- are a finite map is from the documentation of cranelift-frontend's `Switch`.
use Rattle.std.specs.Prelude.{◌≡◌, ◌↔◌, List, ◌∷◌, ◌++◌, false, Contains}
use Rattle.std.specs.Global.{Vec}
use Rattle.clif_types.specs.Signature.{SignatureShape}
use Rattle.clif_types.specs.declared.target.TargetFrontendConfig.{TargetFrontendConfig}
use Rattle.clif_calls.specs.declared.call.Call.{Call}
use Rattle.clif_calls.specs.declared.call.Call.TheVariants as call
use Rattle.clif_calls.specs.declared.call.Name.{Name}
use Rattle.clif_calls.specs.declared.switch.SwitchEntry.{SwitchEntry}
use Rattle.clif_replay.specs.Cases.{are_twice}
use Rattle.clif_replay.specs.Requests.{attempts_of, calls_of}

-- both lists have the same entries, in any order, and no key comes twice
pub record HaveSameEntries (first second : List SwitchEntry) : Type 0 where
  pub once : are_twice first ≡ false
  pub other_once : are_twice second ≡ false
  pub same : (entry : SwitchEntry) → Contains first entry ↔ Contains second entry

-- two lists of calls that differ in the order of one switch's entries are the same script, and are tried alike
pub record AreOneScript (config : TargetFrontendConfig) (declared : SignatureShape) (calls others : List Call) : Type 0 where
  pub calls_same : calls_of config declared calls ≡ calls_of config declared others
  pub attempts_same : attempts_of config declared calls ≡ attempts_of config declared others

abbrev pub SwitchOrderIsFree : Type 0
SwitchOrderIsFree =
    (config : TargetFrontendConfig) (declared : SignatureShape) (before after : List Call) (first second : Vec SwitchEntry) (value otherwise : Name)
    → HaveSameEntries first.items second.items
    → AreOneScript config declared (before ++ call.Switch first value otherwise ∷ after) (before ++ call.Switch second value otherwise ∷ after)
