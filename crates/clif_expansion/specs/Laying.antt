-- What code of a plain program names: all of it was given by the code so far, or is what the item names. Beside generated blocks,
-- which go on so, the code's edges lead where the item's do. The usual dominance of uses by definitions, within one item. Own.
use Rattle.std.specs.Prelude.{◌≢◌, ◌⊎◌, ℕ, ℤ, List, [], ◌∷◌, ◌++◌, Some, Contains}
use Rattle.std.specs.List.{AllByRecursion}
use Rattle.clif_types.specs.declared.types.«Type».{«Type»}
use Rattle.clif_meaning.specs.Instruction.{Arithmetic}
use Rattle.clif_meaning.specs.Name.{Name}
use Rattle.clif_meaning.specs.Program.{Program, Item, Instruct}
use Rattle.clif_meaning.specs.WellPlaced.{IsWellPlaced, item_gives, item_names, item_passes, item_targets, program_code}
use Rattle.clif_expansion.specs.Code.{IsItself}
use Rattle.clif_expansion.specs.Constants.{computing, with_constant}
use Rattle.clif_expansion.specs.Expansion.{IsCutProgram}
use Rattle.clif_expansion.specs.Reading.{IsOneToOne, IsReadAs, Reading}
use Rattle.clif_expansion.specs.Walk.{IsGenerated}

-- what stands for the name is among these
abbrev pub IsAmong : Reading → List Name → Name → Type 0
IsAmong reading given name = (x : Name) × IsReadAs reading x name × Contains given x

-- what the item gives is given
abbrev pub HasGiven : Reading → Item → List Name → Type 0
HasGiven reading item given = AllByRecursion (IsAmong reading given) (item_gives (Some item))

-- the name is given, or stands for one that the item names
abbrev pub IsToHand : Reading → Item → (given : List Name) → Name → Type 0
IsToHand reading item given x = Contains given x ⊎ ((name : Name) × IsReadAs reading x name × Contains (item_names (Some item)) name)

-- So it is, or it stands for one that the item's edges pass, behind what the item gives.
abbrev pub IsToPass : Reading → Item → (given : List Name) → Name → Type 0
IsToPass reading item given x =
    IsToHand reading item given x ⊎ (HasGiven reading item given × (name : Name) × IsReadAs reading x name × Contains (item_passes (Some item)) name)

-- Where these names are given, control goes to one of these blocks or goes on through the code.
pub data Lays (reading : Reading) (program : Program) (item : Item) : (given blocks : List Name) → (code : List Item) → Type 0 where
  -- all that the item gives is given
  Ending : (given : List Name) → HasGiven reading item given → Lays reading program item given [] []
  -- an instruction that names what is to hand
  Laying : (given : List Name) (first : Item) (rest : List Item)
      → AllByRecursion (IsToHand reading item given) (item_names (Some first))
      → AllByRecursion (IsToPass reading item (item_gives (Some first) ++ given)) (item_passes (Some first))
      → Lays reading program item (item_gives (Some first) ++ given) (item_targets (Some first)) rest
      → Lays reading program item given [] (first ∷ rest)
  -- a generated block, which goes on so
  Entering : (given : List Name) (block : Name) (blocks : List Name) (code : List Item)
      → IsGenerated reading block
      → Lays reading program item (program.parameters block ++ given) [] (program.items block)
      → Lays reading program item given blocks code
      → Lays reading program item given (block ∷ blocks) code
  -- a block that the item leads to
  Leaving : (given : List Name) (block target : Name) (blocks : List Name) (code : List Item)
      → IsReadAs reading block target
      → Contains (item_targets (Some item)) target
      → HasGiven reading item given
      → Lays reading program item given blocks code
      → Lays reading program item given (block ∷ blocks) code

-- the code, which isn't empty, goes so from where it has given nothing
pub record IsLaid (reading : Reading) (program : Program) (code : List Item) (item : Item) : Type 0 where
  pub begins : code ≢ []
  pub lays : Lays reading program item [] [] code

-- The plain program's codes are laid.
abbrev pub IsLaidProgram : Reading → (plain program : Program) → Type 0
IsLaidProgram reading plain program = IsCutProgram reading (IsLaid reading plain) plain program

-- Laying keeps places: where what the script's program names was given before, it is so in the plain program.
abbrev pub LayingKeepsPlaces : Type 0
LayingKeepsPlaces =
    (reading : Reading) (plain program : Program) → IsOneToOne reading → IsLaidProgram reading plain program
    → IsWellPlaced (program_code program) → IsWellPlaced (program_code plain)

pub record CodesAreLaid : Type 0 where
  -- code that is the item is laid
  pub itself : (reading : Reading) (program : Program) (code : List Item) (item : Item) → IsItself reading code item → IsLaid reading program code item
  -- and so is arithmetic on a constant, for an instruction with the same operand and result
  pub constants : (reading : Reading) (program : Program) (arithmetic whole : Arithmetic) (ty : «Type») (number : ℤ) (place other : ℕ) (narrow constant plain given x result : Name)
      → IsReadAs reading plain x → IsReadAs reading given result
      → IsLaid reading program (with_constant arithmetic ty number place narrow constant plain given) (Instruct other (computing whole ty (x ∷ [])) (result ∷ []))
