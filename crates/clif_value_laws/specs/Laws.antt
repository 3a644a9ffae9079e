-- Laws of values and their types in the runs of accepted scripts, as the contracts of this crate's functions state them.
use Rattle.std.specs.Prelude.{◌≡◌, ℕ}
use Rattle.clif_types.specs.Signature.{SignatureShape}
use Rattle.clif_meaning.specs.Acceptance.{Accepted, verdict_on}
use Rattle.clif_meaning.specs.Bits.{AreValues}
use Rattle.clif_tables.specs.Callees.{types_of}
use Rattle.clif_meaning.specs.Headline.{script_run}
use Rattle.clif_meaning.specs.Ledger.{ledger_after}
use Rattle.clif_meaning.specs.Machine.{state_after}
use Rattle.clif_meaning.specs.Premises.{WellTyped}
use Rattle.clif_meaning.specs.Program.{program_of}
use Rattle.clif_meaning.specs.Request.{Script}
use Rattle.clif_meaning.specs.FunctionView.{FunctionView}
use Rattle.clif_meaning.specs.World.{World}
use Rattle.clif_meaning.specs.ScriptMachine.{script_machine}
use Rattle.clif_typed_runs.specs.ValuesFit.{ScriptFits}

-- The run of an accepted, well-typed script is typed in a world whose arguments are the signature's, and so in each of its states
-- the values fit. The function beside it only says where spill slots are.
abbrev pub AcceptedScriptsFit : Type 0
AcceptedScriptsFit =
    (script : Script) (signature : SignatureShape) (function : FunctionView) (world : World)
    → verdict_on script ≡ Accepted → WellTyped (ledger_after script) (program_of script) signature
    → AreValues (types_of signature.params) world.arguments
    → (n : ℕ) → ScriptFits (script_run script function world) (types_of signature.returns)
    (state_after (script_machine (script_run script function world)) n)
