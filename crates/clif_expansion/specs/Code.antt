-- What code of a plain program does for an item of a script's program: it is the item with its names read, it performs the item,
-- or it decides where the item goes. Own.
use Rattle.std.specs.Prelude.{◌≡◌, ◌≢◌, ◌⊎◌, ◌≤◌, ℕ, List, [], ◌∷◌, map, Some, slice_get}
use Rattle.std.specs.List.{AllByRecursion, AllZip}
use Rattle.clif_types.specs.declared.types.«Type».{«Type»}
use Rattle.clif_meaning.specs.Access.{Holds, claims_of, touched_ranges}
use Rattle.clif_meaning.specs.Bits.{Bits, AreValues}
use Rattle.clif_meaning.specs.Instruction.{Edge, Instruction}
use Rattle.clif_meaning.specs.Memory.{Memory}
use Rattle.clif_meaning.specs.Name.{Name, same_name}
use Rattle.clif_meaning.specs.Outcome.{Gives, Goes, outcome_of}
use Rattle.clif_meaning.specs.Program.{Program, Item, Instruct, Use, Assign}
use Rattle.clif_meaning.specs.Store.{assigned}
use Rattle.clif_meaning.specs.Typing.{TakesOperands}
use Rattle.clif_meaning.specs.World.{World}
use Rattle.clif_byte_laws.specs.Pieces.{HoldsBytes}
use Rattle.clif_expansion.specs.Line.{Contents, RunsTo}
use Rattle.clif_expansion.specs.Reading.{Agree, Generated, IsReadAs, IsReadItem, Reading}
use Rattle.clif_expansion.specs.Walk.{Surroundings, Walk}

-- the types of names, in the plain program and in the script's
pub record NameTypes : Type 0 where
  pub plain : Name → «Type»
  pub script : Name → «Type»

-- ITSELF ------------------------------------------------------------------------------------------------------------------

-- the code is the item, with its names read
abbrev pub IsItself : Reading → List Item → Item → Type 0
IsItself reading (plain ∷ []) item = IsReadItem reading plain item
IsItself reading _ item = ⊥

-- PERFORMS ----------------------------------------------------------------------------------------------------------------

-- the operands are of types that the instruction takes, in some function
abbrev pub TakesTypes : (Name → «Type») → Instruction Name Name → Type 0
TakesTypes types instruction = (returns : List «Type») × TakesOperands returns instruction.operation instruction.controlling (map types instruction.operands)

-- The operands are of types that the instruction takes and are values of these, and what the instruction claims is true.
pub record IsSound (world : World) (types : Name → «Type») (instruction : Instruction Name Name) (names : Name → Bits) : Type 0 where
  pub typed : TakesTypes types instruction
  pub operands : AreValues (map types instruction.operands) (map names instruction.operands)
  pub claims : AllByRecursion (Holds world)
      (claims_of world instruction.operation instruction.controlling (map types instruction.operands) (map names instruction.operands))

-- From these bits and this memory the instruction gives results, and the code runs to the same memory. Beside the names of
-- the results, `given`, it changes generated names alone. What it touches lies in what the instruction touches.
pub record PerformsIn (world : World) (reading : Reading) (types : NameTypes) (instruction : Instruction Name Name) (given : List Name) (code : List Item) (plain names : Name → Bits) (memory : Memory) : Type 0 where
  pub values : List Bits
  pub after : Contents
  pub outcome : outcome_of world instruction.operation instruction.controlling
      (map types.script instruction.operands) (map names instruction.operands) memory ≡ Gives values after.memory
  pub runs : RunsTo world types.plain
      (touched_ranges world instruction.operation instruction.controlling (map types.script instruction.operands) (map names instruction.operands))
      code (record { names = plain; memory = memory }) after
  pub kept : (x : Name) → reading x ≢ Generated → after.names x ≡ assigned same_name given values plain x

-- The code, which isn't empty, performs an instruction with these results: it does so in every world with pointers of this
-- width, from all names that agree, where the instruction is sound, and all memory of bytes.
pub record Performs (pointer_width : ℕ) (reading : Reading) (types : NameTypes) (code : List Item) (instruction : Instruction Name Name) (results : List Name) : Type 0 where
  pub begins : code ≢ []
  pub given : List Name
  pub named : AllZip (IsReadAs reading) given results
  pub performs : (world : World) (plain names : Name → Bits) (memory : Memory)
      → world.pointer_width ≡ pointer_width → HoldsBytes memory → Agree reading plain names → IsSound world types.script instruction names
      → PerformsIn world reading types instruction given code plain names memory

abbrev pub PerformsItem : ℕ → Reading → NameTypes → List Item → Item → Type 0
PerformsItem pointer_width reading types code (Instruct place instruction results) = Performs pointer_width reading types code instruction results
PerformsItem pointer_width reading types code (Use variable name) = ⊥
PerformsItem pointer_width reading types code (Assign variable name) = ⊥

-- DECIDES -----------------------------------------------------------------------------------------------------------------

-- From these bits and this memory the instruction goes along an edge that passes nothing, and control walks from the code to the
-- block that stands for the edge's target, by no more than so many conditional branches and tables.
pub record DecidesIn (around : Surroundings) (script_types : Name → «Type») (code : List Item) (instruction : Instruction Name Name) (plain names : Name → Bits) (memory : Memory) (branches tables : ℕ) : Type 0 where
  pub index : ℕ
  pub edge : Edge Name Name
  pub outcome : outcome_of around.world instruction.operation instruction.controlling
      (map script_types instruction.operands) (map names instruction.operands) memory ≡ Goes index [] memory
  pub there : slice_get instruction.edges index ≡ Some edge
  pub nothing : edge.arguments ≡ []
  pub block : Name
  pub target : IsReadAs around.reading block edge.target
  pub after : Name → Bits
  pub walked_branches : ℕ
  pub walked_tables : ℕ
  pub walk : Walk around block code plain after walked_branches walked_tables
  pub few_branches : walked_branches ≤ branches
  pub few_tables : walked_tables ≤ tables

-- The code of the plain program decides where the instruction goes: it does so in every world with pointers of this width, from
-- all names that agree, where the instruction is sound, and all memory.
pub record Decides (pointer_width : ℕ) (reading : Reading) (types : NameTypes) (program : Program) (code : List Item) (instruction : Instruction Name Name) (branches tables : ℕ) : Type 0 where
  pub decides : (world : World) (plain names : Name → Bits) (memory : Memory)
      → world.pointer_width ≡ pointer_width → Agree reading plain names → IsSound world types.script instruction names
      → DecidesIn (record { world = world; reading = reading; types = types.plain; program = program }) types.script code instruction plain names memory branches tables

abbrev pub DecidesItem : ℕ → Reading → NameTypes → Program → List Item → Item → Type 0
DecidesItem pointer_width reading types program code (Instruct place instruction results) =
    (branches tables : ℕ) × Decides pointer_width reading types program code instruction branches tables
DecidesItem pointer_width reading types program code (Use variable name) = ⊥
DecidesItem pointer_width reading types program code (Assign variable name) = ⊥

-- ALL ---------------------------------------------------------------------------------------------------------------------

-- what code of a plain program does for an item
abbrev pub Does : ℕ → Reading → NameTypes → Program → List Item → Item → Type 0
Does pointer_width reading types program code item =
    IsItself reading code item ⊎ PerformsItem pointer_width reading types code item ⊎ DecidesItem pointer_width reading types program code item
