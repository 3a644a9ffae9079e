-- The cases of a switch that is built beside a builder. Source: own.
use Rattle.std.specs.Prelude.{◌≡◌, ℕ, Some}
use Rattle.std.specs.FinMap as map
use Rattle.clif_ranges.specs.Cases.{CaseMap}
use Rattle.clif_builder.specs.declared.builder.FunctionBuilder.{FunctionBuilder}
use Rattle.clif_switch.specs.Emission.{MayLead}

-- a branch may lead to the block of each case
abbrev pub AllLead : {R : Type 0} → CaseMap → FunctionBuilder R → Type 0
AllLead cases b = (key block : ℕ) → map.get cases key ≡ Some block → MayLead b block
