-- The plain calls of a script's calls: each call that asks the builder stands for that call with its names read, and one that
-- emits stands for the calls that build its code, in a line or in blocks that were generated. Which name is read as which follows
-- from where calls stand. Own.
use Rattle.std.specs.Prelude.{◌≡◌, ◌≢◌, ◌<◌, ◌==◌, ℕ, zero, suc, if◌then◌else◌, IsTrue, true, false, List, [], ◌∷◌, length, find, Option, Some, None}
use Rattle.std.specs.List.{AllByRecursion, AllZip, list_any}
use Rattle.clif_meaning.specs.Acceptance.{Refusal, Unfilled, Unsealed, allows, blames_variable, refusal_of}
use Rattle.clif_meaning.specs.Instruction.{Edge}
use Rattle.clif_meaning.specs.Ledger.{ABlock, AVariable, AValue, AnInstruction, AnEntry, AnEdge, AJumpTable, AnExceptionTable, Answered, BlockState, ExceptionTable, Ledger, answer_at, empty_ledger, ledger_with, state_has}
use Rattle.clif_meaning.specs.Name.{Name, answer_of, same_name}
use Rattle.clif_meaning.specs.Request.{Request, CreateBlock, SwitchToBlock, SealBlock, SealAllBlocks, InsertBlockAfter, SetColdBlock, EnsureInsertedBlock, AppendBlockParams, AppendFunctionParams, DeclareVar, DefVar, UseVar, MakeEntry, MakeEdge, MakeJumpTable, MakeExceptionTable, Annotate, TableItem, TagTo, DefaultTo, InContext, Build, ChangeJumpDestination, Finalize, StackMapNeed, OfVariable, OfValue, NeedStackMap}
use Rattle.clif_expansion.specs.Reading.{Generated, IsOneToOne, IsReadAs, IsReadEdge, IsReadInstruction, NotMade, Reading, ScriptName, StandsFor}
use Rattle.clif_expansion.specs.Walk.{IsGenerated}

-- REQUESTS ----------------------------------------------------------------------------------------------------------------

-- an item of an exception table, with the name of its edge or of its context read
abbrev pub IsReadTableItem : Reading → (plain item : TableItem) → Type 0
IsReadTableItem reading (TagTo plain x) (TagTo tag edge) = (plain ≡ tag) × IsReadAs reading x edge
IsReadTableItem reading (DefaultTo x) (DefaultTo edge) = IsReadAs reading x edge
IsReadTableItem reading (InContext x) (InContext value) = IsReadAs reading x value
IsReadTableItem reading _ _ = ⊥

-- what stack maps are asked to name, with its name read
abbrev pub IsReadNeed : Reading → (plain need : StackMapNeed) → Type 0
IsReadNeed reading (OfVariable number) (OfVariable variable) = number ≡ variable
IsReadNeed reading (OfValue x) (OfValue value) = IsReadAs reading x value
IsReadNeed reading _ _ = ⊥

-- the request with its names read
abbrev pub IsReadRequest : Reading → (plain request : Request) → Type 0
IsReadRequest reading CreateBlock CreateBlock = Unit {0}
IsReadRequest reading (SwitchToBlock plain) (SwitchToBlock block) = IsReadAs reading plain block
IsReadRequest reading (SealBlock plain) (SealBlock block) = IsReadAs reading plain block
IsReadRequest reading SealAllBlocks SealAllBlocks = Unit {0}
IsReadRequest reading (InsertBlockAfter plain behind) (InsertBlockAfter block after) = IsReadAs reading plain block × IsReadAs reading behind after
IsReadRequest reading (SetColdBlock plain) (SetColdBlock block) = IsReadAs reading plain block
IsReadRequest reading EnsureInsertedBlock EnsureInsertedBlock = Unit {0}
IsReadRequest reading (AppendBlockParams plain given) (AppendBlockParams block types) = IsReadAs reading plain block × (given ≡ types)
IsReadRequest reading (AppendFunctionParams plain given) (AppendFunctionParams block types) = IsReadAs reading plain block × (given ≡ types)
IsReadRequest reading (DeclareVar given) (DeclareVar ty) = given ≡ ty
IsReadRequest reading (DefVar number x) (DefVar variable value) = (number ≡ variable) × IsReadAs reading x value
IsReadRequest reading (UseVar number) (UseVar variable) = number ≡ variable
IsReadRequest reading (MakeEntry given) (MakeEntry entry) = given ≡ entry
IsReadRequest reading (MakeEdge plain) (MakeEdge edge) = IsReadEdge reading plain edge
IsReadRequest reading (MakeJumpTable first names) (MakeJumpTable default entries) = IsReadAs reading first default × AllZip (IsReadAs reading) names entries
IsReadRequest reading (MakeExceptionTable number first listed) (MakeExceptionTable signature normal items) =
    (number ≡ signature) × IsReadAs reading first normal × AllZip (IsReadTableItem reading) listed items
IsReadRequest reading (Annotate inside names) (Annotate within values) = (inside ≡ within) × AllZip (IsReadAs reading) names values
IsReadRequest reading (NeedStackMap plain) (NeedStackMap need) = IsReadNeed reading plain need
IsReadRequest reading (Build given plain) (Build entries instruction) = (given ≡ entries) × IsReadInstruction reading plain instruction
IsReadRequest reading (ChangeJumpDestination jump here there) (ChangeJumpDestination branch from to) =
    IsReadAs reading jump branch × IsReadAs reading here from × IsReadAs reading there to
IsReadRequest reading Finalize Finalize = Unit {0}
IsReadRequest reading _ _ = ⊥

-- READINGS ----------------------------------------------------------------------------------------------------------------

-- the reading, in which the answers to the plain call at this place stand for these
abbrev pub reading_with : Reading → (place : ℕ) → (ℕ → StandsFor) → Reading
reading_with reading place answers x = if x.place == place then answers x.index else reading x

-- the answers of the script's call at this place, by their numbers
abbrev pub answers_at : (place : ℕ) → ℕ → StandsFor
answers_at place index = ScriptName (answer_of place index)

-- The last call of an emission's code: its results, behind its number, are those of the script's call at this place.
abbrev pub results_at : (place : ℕ) → ℕ → StandsFor
results_at place zero = Generated
results_at place (suc index) = ScriptName (answer_of place index)

-- LEDGERS -----------------------------------------------------------------------------------------------------------------

-- the answer is the same, with the names of an edge read
abbrev pub IsReadAnswer : Reading → (plain answer : Option Answered) → Type 0
IsReadAnswer reading None None = Unit {0}
IsReadAnswer reading (Some ABlock) (Some ABlock) = Unit {0}
IsReadAnswer reading (Some (AVariable plain)) (Some (AVariable variable)) = plain ≡ variable
IsReadAnswer reading (Some (AValue plain)) (Some (AValue ty)) = plain ≡ ty
IsReadAnswer reading (Some AnInstruction) (Some AnInstruction) = Unit {0}
IsReadAnswer reading (Some (AnEntry plain number)) (Some (AnEntry entry index)) = (plain ≡ entry) × (number ≡ index)
IsReadAnswer reading (Some (AnEdge plain)) (Some (AnEdge edge)) = IsReadEdge reading plain edge
IsReadAnswer reading (Some (AJumpTable plain)) (Some (AJumpTable number)) = plain ≡ number
IsReadAnswer reading (Some (AnExceptionTable plain)) (Some (AnExceptionTable number)) = plain ≡ number
IsReadAnswer reading _ _ = ⊥

-- The elements of the second list stand among those of the first one, in order, and the others are its own.
pub data StandAmong {X Y : Type 0} (Stands : X → Y → Type 0) (IsOwn : X → Type 0) : List X → List Y → Type 0 where
  NoMore : StandAmong Stands IsOwn [] []
  Both : (x : X) (y : Y) (xs : List X) (ys : List Y) → Stands x y → StandAmong Stands IsOwn xs ys → StandAmong Stands IsOwn (x ∷ xs) (y ∷ ys)
  Own : (x : X) (xs : List X) (ys : List Y) → IsOwn x → StandAmong Stands IsOwn xs ys → StandAmong Stands IsOwn (x ∷ xs) ys

-- no name is read as this one, which comes before this place
pub record IsUnread (reading : Reading) (made : ℕ) (name : Name) : Type 0 where
  pub unread : (x : Name) → reading x ≢ ScriptName name
  pub before : name.place < made

-- The branches that lead to a block, where so many calls of the script were made: a branch is read, and for one that was emitted one
-- or more were generated.
pub data AreLeading (reading : Reading) (made : ℕ) : (plain branches : List Name) → Type 0 where
  NoneLeads : AreLeading reading made [] []
  IsRead : (x branch : Name) (xs branches : List Name) → IsReadAs reading x branch → AreLeading reading made xs branches
      → AreLeading reading made (x ∷ xs) (branch ∷ branches)
  IsEmitted : (x branch : Name) (xs branches : List Name) → IsGenerated reading x → IsUnread reading made branch → AreLeading reading made xs branches
      → AreLeading reading made (x ∷ xs) (branch ∷ branches)
  -- another one in front of one that was generated
  IsAnother : (x next : Name) (xs branches : List Name) → IsGenerated reading x → IsGenerated reading next → AreLeading reading made (next ∷ xs) branches
      → AreLeading reading made (x ∷ next ∷ xs) branches

-- The state of a block, with its name and its predecessors read.
pub record IsReadState (reading : Reading) (made : ℕ) (plain state : BlockState) : Type 0 where
  pub block : IsReadAs reading plain.block state.block
  pub parameters : plain.parameters ≡ state.parameters
  pub is_pristine : plain.is_pristine ≡ state.is_pristine
  pub is_filled : plain.is_filled ≡ state.is_filled
  pub is_sealed : plain.is_sealed ≡ state.is_sealed
  pub is_cold : plain.is_cold ≡ state.is_cold
  pub predecessors : AreLeading reading made plain.predecessors state.predecessors

-- a block that was generated, to which nothing more comes
pub record IsOwnState (reading : Reading) (state : BlockState) : Type 0 where
  pub block : IsGenerated reading state.block
  pub is_filled : state.is_filled ≡ true
  pub is_sealed : state.is_sealed ≡ true

-- The block is there, was begun and has its terminator, and is in the layout.
pub record IsEnded (blocks : List BlockState) (layout : List Name) (block : Name) : Type 0 where
  pub filled : IsTrue (state_has (λ state. state.is_filled) (find (λ state. same_name state.block block) blocks))
  pub inserted : IsTrue (list_any (same_name block) layout)
  pub each : AllByRecursion (λ state. state.block ≡ block → (state.is_filled ≡ true) × (state.is_pristine ≡ false)) blocks

-- The current blocks are read, or there is none; behind code in generated blocks the script has none, and the plain calls have one that
-- has ended.
abbrev pub IsReadCurrent : Reading → (plain : Ledger) (current block : Option Name) → Type 0
IsReadCurrent reading plain None None = Unit {0}
IsReadCurrent reading plain (Some x) (Some block) = IsReadAs reading x block
IsReadCurrent reading plain (Some x) None = (reading x ≢ NotMade) × IsEnded plain.blocks plain.layout x
IsReadCurrent reading plain None (Some block) = ⊥

-- the layout with its names read, beside blocks that were generated, none of which is the entry
abbrev pub IsReadLayout : Reading → (plain layout : List Name) → Type 0
IsReadLayout reading [] [] = Unit {0}
IsReadLayout reading (x ∷ plain) (block ∷ layout) = IsReadAs reading x block × StandAmong (IsReadAs reading) (IsGenerated reading) plain layout
IsReadLayout reading _ _ = ⊥

-- the edges of a jump table that serves no instruction so far
abbrev pub IsReadTable : Reading → (plain table : Option (List (Edge Name Name))) → Type 0
IsReadTable reading None None = Unit {0}
IsReadTable reading (Some plain) (Some edges) = AllZip (IsReadEdge reading) plain edges
IsReadTable reading _ _ = ⊥

-- what an exception table holds, with its edges and the names of its contexts read
pub record IsReadExceptionTable (reading : Reading) (plain table : ExceptionTable) : Type 0 where
  pub signature : plain.signature ≡ table.signature
  pub edges : AllZip (IsReadEdge reading) plain.edges table.edges
  pub items : plain.items ≡ table.items
  pub contexts : AllZip (IsReadAs reading) plain.contexts table.contexts

-- an exception table that serves no instruction so far
abbrev pub IsReadException : Reading → (plain table : Option ExceptionTable) → Type 0
IsReadException reading None None = Unit {0}
IsReadException reading (Some plain) (Some table) = IsReadExceptionTable reading plain table
IsReadException reading _ _ = ⊥

-- Beside the answers, the ledgers are joined, where so many calls of the script were made: the script's blocks are in the same order and
-- states, and so are layout, variables and tables.
pub record AreJoinedStates (reading : Reading) (made : ℕ) (plain ledger : Ledger) : Type 0 where
  pub blocks : StandAmong (IsReadState reading made) (IsOwnState reading) plain.blocks ledger.blocks
  pub current : IsReadCurrent reading plain plain.current ledger.current
  pub layout : IsReadLayout reading plain.layout ledger.layout
  pub variables : plain.variables ≡ ledger.variables
  pub jump_tables : AllZip (IsReadTable reading) plain.jump_tables ledger.jump_tables
  pub exception_tables : AllZip (IsReadException reading) plain.exception_tables ledger.exception_tables
  pub tables : plain.tables ≡ ledger.tables

pub record AreJoinedLedgers (reading : Reading) (plain ledger : Ledger) : Type 0 where
  pub states : AreJoinedStates reading (length ledger.answers) plain ledger
  pub answers : (x name : Name) → IsReadAs reading x name → IsReadAnswer reading (answer_at plain x) (answer_at ledger name)

-- So they are, no two plain names are read as one, and what is read or was generated was made.
pub record IsJoined (reading : Reading) (plain ledger : Ledger) : Type 0 where
  pub ledgers : AreJoinedLedgers reading plain ledger
  pub one_to_one : IsOneToOne reading
  pub made : (x name : Name) → IsReadAs reading x name → (x.place < length plain.answers) × (name.place < length ledger.answers)
  pub generated : (x : Name) → IsGenerated reading x → x.place < length plain.answers

-- the reading behind one call more on both sides
abbrev pub reading_after : Reading → (plain ledger : Ledger) → Reading
reading_after reading plain ledger = reading_with reading (length plain.answers) (answers_at (length ledger.answers))

-- why a call is refused, with its block read
abbrev pub IsReadRefusal : Reading → (plain refusal : Option Refusal) → Type 0
IsReadRefusal reading None None = Unit {0}
IsReadRefusal reading (Some (Unsealed plain)) (Some (Unsealed block)) = IsReadAs reading plain block
IsReadRefusal reading (Some (Unfilled plain)) (Some (Unfilled block)) = IsReadAs reading plain block
IsReadRefusal reading _ _ = ⊥

-- LAWS --------------------------------------------------------------------------------------------------------------------

pub record AskingKeepsJoins : Type 0 where
  -- before the first call
  pub starts : IsJoined (λ x. NotMade) empty_ledger empty_ledger
  -- One call more on both sides keeps the join.
  pub keeps : (reading : Reading) (plain ledger : Ledger) (asked request : Request) → IsJoined reading plain ledger → IsReadRequest reading asked request
      → IsJoined (reading_after reading plain ledger) (ledger_with plain asked) (ledger_with ledger request)

-- What the script may call the builder is called with names read, and what it is refused for it is refused for.
pub record ConditionsAreRead : Type 0 where
  pub allowed : (reading : Reading) (plain ledger : Ledger) (asked request : Request) → AreJoinedLedgers reading plain ledger → IsOneToOne reading → IsReadRequest reading asked request
      → allows plain asked ≡ allows ledger request
  pub blamed : (reading : Reading) (plain ledger : Ledger) (asked request : Request) → AreJoinedLedgers reading plain ledger → IsOneToOne reading → IsReadRequest reading asked request
      → blames_variable plain asked ≡ blames_variable ledger request
  pub refused : (reading : Reading) (plain ledger : Ledger) (asked request : Request) → AreJoinedLedgers reading plain ledger → IsOneToOne reading → IsReadRequest reading asked request
      → IsReadRefusal reading (refusal_of plain asked) (refusal_of ledger request)
