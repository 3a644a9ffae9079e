-- Operands are values where each name holds one.
use Rattle.std.proofs.Common.{List, [], ◌∷◌, map}
use Rattle.clif_types.specs.declared.types.«Type».{«Type»}
use Rattle.clif_meaning.specs.Bits.{AreValues, Bits, IsValue}
use Rattle.clif_meaning.specs.Machine.{Control, At, HasReturned, HasTrapped, IsStuck, state_after}
use Rattle.clif_meaning.specs.Name.{Name}
use Rattle.clif_meaning.specs.Premises.{OfNextItem}
use Rattle.clif_meaning.specs.Program.{Item, Instruct, Use, Assign}
use Rattle.clif_meaning.specs.ScriptMachine.{ScriptRun, ScriptState, script_machine}
use Rattle.clif_expansion.specs.Laws.{TakesValues, ValuesAreTaken}

each_value : (types : Name → «Type») (names : Name → Bits) → ((x : Name) → IsValue (types x) (names x)) → (operands : List Name)
    → AreValues (map types operands) (map names operands)
each_value types names hold [] = tt
each_value types names hold (x ∷ operands) = (hold x, each_value types names hold operands)

next_takes : (run : ScriptRun) (state : ScriptState) → ((x : Name) → IsValue (run.name_type x) (state.names x)) → (control : Control Item)
    → OfNextItem (TakesValues run state) control
next_takes run state hold (At []) = tt
next_takes run state hold (At (Instruct place instruction results ∷ rest)) = each_value run.name_type state.names hold instruction.operands
next_takes run state hold (At (Use variable name ∷ rest)) = tt
next_takes run state hold (At (Assign variable name ∷ rest)) = tt
next_takes run state hold (HasReturned values) = tt
next_takes run state hold (HasTrapped reason) = tt
next_takes run state hold IsStuck = tt

pub values_are_taken : ValuesAreTaken
values_are_taken run hold n =
    next_takes run (state_after (script_machine run) n) (hold n) (state_after (script_machine run) n).control
