-- The plain program of a script whose items stand for code: each block's items are cut into codes, each of which does what an
-- item of the script does, in order. Own.
use Rattle.std.specs.Prelude.{◌≡◌, ℕ, List, [], ◌∷◌, ◌++◌, Option, Some, None}
use Rattle.std.specs.List.{AllZip}
use Rattle.clif_meaning.specs.Name.{Name}
use Rattle.clif_meaning.specs.Program.{Program, Item}
use Rattle.clif_meaning.specs.ScriptMachine.{ScriptRun}
use Rattle.clif_expansion.specs.Code.{Does, NameTypes}
use Rattle.clif_expansion.specs.Reading.{Agree, IsOneToOne, IsReadAs, Reading}

-- the first list is cut into lists, one for each element of the second one
abbrev pub AreCut : {X Y : Type 0} → (List X → Y → Type 0) → List X → List Y → Type 0
AreCut Stands plain [] = plain ≡ []
AreCut {X} Stands plain (item ∷ items) = (code rest : List X) × (plain ≡ code ++ rest) × Stands code item × AreCut Stands rest items

-- these items of the plain program are cut into codes that do what the items do
abbrev pub AreExpanded : ℕ → Reading → NameTypes → Program → (plain items : List Item) → Type 0
AreExpanded pointer_width reading types program plain items = AreCut (Does pointer_width reading types program) plain items

-- there is a block, the one that is read as the script's, or there is none in either
abbrev pub IsReadBlock : Reading → (plain block : Option Name) → Type 0
IsReadBlock reading None None = Unit {0}
IsReadBlock reading (Some plain) (Some block) = IsReadAs reading plain block
IsReadBlock reading _ _ = ⊥

-- The plain program is read as the script's, and each block's items are cut into codes that stand so to the items.
pub record IsCutProgram (reading : Reading) (Stands : List Item → Item → Type 0) (plain program : Program) : Type 0 where
  pub entry : IsReadBlock reading plain.entry program.entry
  pub parameters : (x block : Name) → IsReadAs reading x block → AllZip (IsReadAs reading) (plain.parameters x) (program.parameters block)
  pub items : (x block : Name) → IsReadAs reading x block → AreCut Stands (plain.items x) (program.items block)

abbrev pub IsExpandedProgram : ℕ → Reading → NameTypes → (plain program : Program) → Type 0
IsExpandedProgram pointer_width reading types plain program = IsCutProgram reading (Does pointer_width reading types plain) plain program

abbrev pub types_in : (plain script : ScriptRun) → NameTypes
types_in plain script = record { plain = plain.name_type; script = script.name_type }

-- The run of the plain program beside the script's: types and tracked names go along, and variables, spill slots and the world
-- are the same.
pub record IsExpandedRun (reading : Reading) (plain script : ScriptRun) : Type 0 where
  pub one_to_one : IsOneToOne reading
  pub program : IsExpandedProgram script.world.pointer_width reading (types_in plain script) plain.program script.program
  pub variable_type : (variable : ℕ) → plain.variable_type variable ≡ script.variable_type variable
  pub name_type : Agree reading plain.name_type script.name_type
  pub is_marked : (variable : ℕ) → plain.is_marked variable ≡ script.is_marked variable
  pub is_tracked : Agree reading plain.is_tracked script.is_tracked
  pub hidden : (address : ℕ) → plain.hidden address ≡ script.hidden address
  pub world : plain.world ≡ script.world
