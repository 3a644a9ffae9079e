-- Steps of the plain program's machine that show nothing new, and are safe.
use Rattle.std.proofs.Common.{◌≡◌, ◌≤◌, ℕ, zero, suc, List, refl, sym, ◌∙◌, ap, arith}
use Rattle.clif_meaning.specs.Memory.{Range}
use Rattle.clif_meaning.specs.Premises.{OfNextItem}
use Rattle.clif_meaning.specs.Program.{Item, Instruct, Use, Assign}
use Rattle.clif_meaning.specs.ScriptMachine.{ScriptRun, ScriptState, script_machine, script_shown, script_step}
use Rattle.clif_meaning.proofs.Stuttering.{steps_from}
use Rattle.clif_expansion.specs.Line.{IsSafe}

-- an instruction of a run is safe, within these ranges, in this state
abbrev pub IsSafeItem : ScriptRun → List Range → ScriptState → Item → Type 0
IsSafeItem run ranges state (Instruct place instruction results) = IsSafe run.world run.name_type ranges instruction state.names
IsSafeItem run ranges state (Use variable name) = Unit {0}
IsSafeItem run ranges state (Assign variable name) = Unit {0}

-- So many steps lead from the one state to the other: each shows what was shown before it, and its item is safe.
abbrev pub Passes : ScriptRun → List Range → ℕ → (before after : ScriptState) → Type 0
Passes run ranges zero before after = after ≡ before
Passes run ranges (suc n) before after =
    OfNextItem (IsSafeItem run ranges before) before.control
    × (script_shown run (script_step run before) ≡ script_shown run before)
    × Passes run ranges n (script_step run before) after

-- a first step, and then the others
pub steps_front : (run : ScriptRun) (n : ℕ) (state : ScriptState)
    → steps_from (script_machine run) (suc n) state ≡ steps_from (script_machine run) n (script_step run state)
steps_front run zero state = refl
steps_front run (suc n) state = ap (script_step run) (steps_front run n state)

pub arrives : (run : ScriptRun) (ranges : List Range) (n : ℕ) (before after : ScriptState) → Passes run ranges n before after
    → steps_from (script_machine run) n before ≡ after
arrives run ranges zero before after passes = sym passes
arrives run ranges (suc n) before after passes =
    steps_front run n before ∙ arrives run ranges n (script_step run before) after passes.2

-- on the way nothing new is shown
pub quiet : (run : ScriptRun) (ranges : List Range) (n : ℕ) (before after : ScriptState) → Passes run ranges n before after
    → (j : ℕ) → j ≤ n → script_shown run (steps_from (script_machine run) j before) ≡ script_shown run before
quiet run ranges n before after passes zero below = refl
quiet run ranges zero before after passes (suc j) below = absurd (omega (arith, below))
quiet run ranges (suc n) before after passes (suc j) below =
    ap (script_shown run) (steps_front run j before)
    ∙ quiet run ranges n (script_step run before) after passes.2 j (omega (arith, below)) ∙ passes.1
