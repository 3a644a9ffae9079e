-- Joined calls have joined programs: the plain program's items are cut into items with their names read, and into code for each
-- emission, in a line or, for a switch, up to its first branch. Own.
use Rattle.std.specs.Prelude.{◌≡◌, ◌≢◌, ◌⊎◌, ◌+◌, ℕ, suc, List, [], ◌∷◌, ◌++◌, length, Some, Contains}
use Rattle.std.specs.List.{AllByRecursion, AllZip}
use Rattle.clif_meaning.specs.Instruction.{Edge, Instruction, Switch}
use Rattle.clif_meaning.specs.Name.{Name, answer_of}
use Rattle.clif_meaning.specs.Program.{Item, Instruct, Use, Assign, answers_from, program_of, result_names}
use Rattle.clif_meaning.specs.Request.{Script}
use Rattle.clif_meaning.specs.WellPlaced.{item_targets}
use Rattle.clif_expansion.specs.Emission.{AreGenerated, AreGiven, LastResults, StaysInLine}
use Rattle.clif_expansion.specs.Expansion.{IsCutProgram}
use Rattle.clif_expansion.specs.JoinedCalls.{AreJoinedCalls}
use Rattle.clif_expansion.specs.Reading.{IsReadAs, IsReadItem, Reading, ScriptName}
use Rattle.clif_expansion.specs.ScriptCall.{ScriptCall, emitted_item, emitted_types, program_of_calls}
use Rattle.clif_expansion.specs.Switching.{IsDeciding}
use Rattle.clif_expansion.specs.Walk.{IsGenerated}

-- the calls that built the instructions stand so, too: the one's number is read as the other's
abbrev pub IsReadPlace : Reading → (plain item : Item) → Type 0
IsReadPlace reading (Instruct place plain given) (Instruct other instruction results) = IsReadAs reading (answer_of place 0) (answer_of other 0)
IsReadPlace reading _ _ = Unit {0}

-- the code is the item, with its names and its place read
abbrev pub IsAsked : Reading → List Item → Item → Type 0
IsAsked reading (plain ∷ []) item = IsReadItem reading plain item × IsReadPlace reading plain item
IsAsked reading _ item = ⊥

-- the items that calls build from this place on
abbrev pub built_items : ℕ → List (Instruction Name Name) → List Item
built_items place [] = []
built_items place (instruction ∷ code) = Instruct place instruction (result_names place instruction) ∷ built_items (suc place) code

-- What the last instruction gives is read as what the item gives, or was generated where that gives nothing.
abbrev pub AreLastRead : LastResults → Reading → (plain results : List Name) → Type 0
AreLastRead AreGiven reading plain results = AllZip (IsReadAs reading) plain results
AreLastRead AreGenerated reading plain results = AllByRecursion (IsGenerated reading) plain × (results ≡ [])

-- The code is in a line, and the item was emitted.
pub record IsEmission (reading : Reading) (code : List Item) (item : Item) : Type 0 where
  pub place : ℕ
  pub instructions : List (Instruction Name Name)
  pub last : Instruction Name Name
  pub built : code ≡ built_items place (instructions ++ last ∷ [])
  pub line : AllByRecursion StaysInLine (instructions ++ last ∷ [])
  pub other : ℕ
  pub whole : Instruction Name Name
  pub emitted : item ≡ emitted_item other whole
  pub stays : StaysInLine whole
  pub how : LastResults
  pub results : AreLastRead how reading (result_names (place + length instructions) last) (answers_from other 0 (emitted_types whole))

-- the edge passes nothing, and leads to a generated block or where the item leads
pub record DecidesAlong (reading : Reading) (item : Item) (edge : Edge Name Name) : Type 0 where
  pub nothing : edge.arguments ≡ []
  pub leads : IsGenerated reading edge.target ⊎ ((name : Name) × IsReadAs reading edge.target name × Contains (item_targets (Some item)) name)

-- it was generated, and computes or goes along such edges
pub record IsDecider (reading : Reading) (item : Item) (place : ℕ) (instruction : Instruction Name Name) : Type 0 where
  pub own : IsGenerated reading (answer_of place 0)
  pub deciding : IsDeciding instruction.operation
  pub contexts : instruction.contexts ≡ []
  pub edges : AllByRecursion (DecidesAlong reading item) instruction.edges

abbrev pub IsDecidingItem : Reading → (item plain : Item) → Type 0
IsDecidingItem reading item (Instruct place instruction results) = IsDecider reading item place instruction
IsDecidingItem reading item (Use variable name) = ⊥
IsDecidingItem reading item (Assign variable name) = ⊥

-- The code decides, and the item is a switch that was emitted: no call is read as the one that emitted it.
pub record IsSwitched (reading : Reading) (code : List Item) (item : Item) : Type 0 where
  pub other : ℕ
  pub keys : List ℕ
  pub switch : Instruction Name Name
  pub is_switch : switch.operation ≡ Switch keys
  pub nothing : AllByRecursion (λ edge. edge.arguments ≡ []) switch.edges
  pub emitted : item ≡ emitted_item other switch
  pub unread : (x : Name) → reading x ≢ ScriptName (answer_of other 0)
  pub decides : AllByRecursion (IsDecidingItem reading item) code

abbrev pub IsCalled : Reading → List Item → Item → Type 0
IsCalled reading code item = IsAsked reading code item ⊎ IsEmission reading code item ⊎ IsSwitched reading code item

abbrev pub JoinedCallsHaveJoinedPrograms : Type 0
JoinedCallsHaveJoinedPrograms =
    (reading : Reading) (plain : Script) (calls : List ScriptCall) → AreJoinedCalls reading plain calls
    → IsCutProgram reading (IsCalled reading) (program_of plain) (program_of_calls calls)
