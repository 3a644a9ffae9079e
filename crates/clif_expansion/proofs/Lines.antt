-- The plain program's machine runs code in a line.
use Rattle.std.proofs.Common.{◌≡◌, ℕ, List, [], ◌∷◌, ◌++◌, length, map, sym, ap, subst}
use Rattle.clif_meaning.specs.Bits.{Bits}
use Rattle.clif_meaning.specs.Instruction.{Instruction}
use Rattle.clif_meaning.specs.Machine.{At}
use Rattle.clif_meaning.specs.Memory.{Memory, Range}
use Rattle.clif_meaning.specs.Name.{Name, same_name}
use Rattle.clif_meaning.specs.Outcome.{Gives, outcome_of}
use Rattle.clif_meaning.specs.Program.{Item, Instruct, Use, Assign}
use Rattle.clif_meaning.specs.ScriptMachine.{ScriptRun, ScriptState, carry_out, script_shown, script_step}
use Rattle.clif_meaning.specs.Store.{assigned}
use Rattle.clif_expansion.specs.Line.{Contents, RunsTo}
use Rattle.clif_expansion.proofs.Steps.{Passes}

-- the state with these contents, before these items
abbrev pub standing : ScriptState → Contents → List Item → ScriptState
standing state contents items = record state { names = contents.names; memory = contents.memory; control = At items }

-- the instruction gives its results
pub one_given : (run : ScriptRun) (state : ScriptState) (before : Contents) (place : ℕ) (instruction : Instruction Name Name) (results : List Name) (rest : List Item)
    (values : List Bits) (memory : Memory)
    → outcome_of run.world instruction.operation instruction.controlling (map run.name_type instruction.operands) (map before.names instruction.operands) before.memory ≡ Gives values memory
    → script_step run (standing state before (Instruct place instruction results ∷ rest))
    ≡ standing state (record { names = assigned same_name results values before.names; memory = memory }) rest
one_given run state before place instruction results rest values memory gives =
    ap (carry_out run (standing state before (Instruct place instruction results ∷ rest)) instruction.edges results rest) gives

pub line_passes : (run : ScriptRun) (ranges : List Range) (state : ScriptState) (rest code : List Item) (before after : Contents)
    → RunsTo run.world run.name_type ranges code before after
    → Passes run ranges (length code) (standing state before (code ++ rest)) (standing state after rest)
line_passes run ranges state rest [] before after runs = ap (λ (contents : Contents). standing state contents rest) runs
line_passes run ranges state rest (Instruct place instruction results ∷ code) before after (values, memory, gives, runs) =
    let next : Contents = record { names = assigned same_name results values before.names; memory = memory } in
    let step = one_given run state before place instruction results (code ++ rest) values memory gives.gives in (
      gives.safe,
      ap (script_shown run) step,
      subst (λ (s : ScriptState). Passes run ranges (length code) s (standing state after rest)) (sym step)
          (line_passes run ranges state rest code next after runs),
    )
line_passes run ranges state rest (Use variable name ∷ code) before after runs = absurd runs
line_passes run ranges state rest (Assign variable name ∷ code) before after runs = absurd runs
