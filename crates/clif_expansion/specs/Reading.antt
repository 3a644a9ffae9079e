-- Readings: what each name of a plain program stands for in a script's program. Blocks and values are named alike. Own.
use Rattle.std.specs.Prelude.{◌≡◌}
use Rattle.std.specs.List.{AllZip}
use Rattle.clif_meaning.specs.Instruction.{Argument, Known, CallResult, CallPayload, Edge, Instruction}
use Rattle.clif_meaning.specs.Name.{Name}
use Rattle.clif_meaning.specs.Program.{Item, Instruct, Use, Assign}

-- what a name of the plain program stands for
pub data StandsFor : Type 0 where
  -- nothing so far: it isn't made yet
  NotMade : StandsFor
  -- nothing in the script: it was generated
  Generated : StandsFor
  -- this name of the script
  ScriptName : Name → StandsFor

abbrev pub Reading : Type 0
Reading = Name → StandsFor

-- the name of the plain program stands for this name of the script
abbrev pub IsReadAs : Reading → (plain name : Name) → Type 0
IsReadAs reading plain name = reading plain ≡ ScriptName name

-- no two names of the plain program stand for one name of the script
abbrev pub IsOneToOne : Reading → Type 0
IsOneToOne reading = (x y name : Name) → IsReadAs reading x name → IsReadAs reading y name → x ≡ y

-- A name of the plain program has what the name has for which it stands, as its bits or its type.
abbrev pub Agree : {X : Type 0} → Reading → (plain script : Name → X) → Type 0
Agree reading plain script = (x name : Name) → IsReadAs reading x name → plain x ≡ script name

abbrev pub IsReadArgument : Reading → (plain argument : Argument Name) → Type 0
IsReadArgument reading (Known plain) (Known name) = IsReadAs reading plain name
IsReadArgument reading (CallResult plain) (CallResult index) = plain ≡ index
IsReadArgument reading (CallPayload plain) (CallPayload index) = plain ≡ index
IsReadArgument reading _ _ = ⊥

-- an edge, an instruction and an item with their names read
pub record IsReadEdge (reading : Reading) (plain edge : Edge Name Name) : Type 0 where
  pub target : IsReadAs reading plain.target edge.target
  pub arguments : AllZip (IsReadArgument reading) plain.arguments edge.arguments

pub record IsReadInstruction (reading : Reading) (plain instruction : Instruction Name Name) : Type 0 where
  pub operation : plain.operation ≡ instruction.operation
  pub controlling : plain.controlling ≡ instruction.controlling
  pub operands : AllZip (IsReadAs reading) plain.operands instruction.operands
  pub contexts : AllZip (IsReadAs reading) plain.contexts instruction.contexts
  pub edges : AllZip (IsReadEdge reading) plain.edges instruction.edges

-- Where in its list of calls an instruction was built is free.
abbrev pub IsReadItem : Reading → (plain item : Item) → Type 0
IsReadItem reading (Instruct place plain given) (Instruct other instruction results) =
    IsReadInstruction reading plain instruction × AllZip (IsReadAs reading) given results
IsReadItem reading (Use plain given) (Use variable name) = (plain ≡ variable) × IsReadAs reading given name
IsReadItem reading (Assign plain given) (Assign variable name) = (plain ≡ variable) × IsReadAs reading given name
IsReadItem reading _ _ = ⊥
