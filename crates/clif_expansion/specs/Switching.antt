-- The plain calls of a switch: they make blocks that are generated, and decide in them where control goes. What the calls do is said
-- by what control does, not by the calls. Names are those of the plain script, and all answers to these calls are generated. Own.
use Rattle.std.specs.Prelude.{◌≡◌, ◌⊎◌, ◌≤◌, ◌&&◌, ℕ, nat_lt, if◌then◌else◌, false, IsTrue, List, [], ◌∷◌, ◌++◌, length, map, replicate, slice_get, Some, None, Contains, IfSome}
use Rattle.std.specs.List.{AllByRecursion}
use Rattle.clif_types.specs.declared.types.«Type».{«Type»}
use Rattle.clif_meaning.specs.Bits.{Bits, IsValue}
use Rattle.clif_meaning.specs.Instruction.{Compute, Jump, Brif, BrTable, Switch, Operation, Edge, Instruction}
use Rattle.clif_meaning.specs.Ledger.{BlockState, Ledger, is_filled, has_block, is_inserted, is_pristine, leads_to, ledger_after, type_of}
use Rattle.clif_meaning.specs.Name.{Name}
use Rattle.clif_meaning.specs.Program.{Item, Instruct, program_of}
use Rattle.clif_meaning.specs.Request.{Request, CreateBlock, SwitchToBlock, SealBlock, MakeEdge, MakeJumpTable, Build, GivenEntry, ServedBy, Script}
use Rattle.clif_meaning.specs.Switch.{edge_of_key, switch_target}
use Rattle.clif_meaning.specs.World.{World}
use Rattle.clif_expansion.specs.Keys.{table_count}
use Rattle.clif_expansion.specs.Laying.{IsLaid}
use Rattle.clif_expansion.specs.LedgerTypes.{HaveTypes, IsTypedInLine}
use Rattle.clif_expansion.specs.Reading.{Generated, Reading, ScriptName}
use Rattle.clif_expansion.specs.Walk.{Surroundings, Walk}

-- CALLS -------------------------------------------------------------------------------------------------------------------

-- where edges lead
abbrev pub targets_of : List (Edge Name Name) → List Name
targets_of edges = map (λ edge. edge.target) edges

-- the switch of a value by these keys
abbrev pub switching : List ℕ → «Type» → (value : Name) → List (Edge Name Name) → Instruction Name Name
switching keys ty value edges = record { operation = Switch keys; controlling = ty; operands = value ∷ []; contexts = []; edges = edges }

-- names that were made before this place stand for themselves, and later ones were generated
abbrev pub generated_from : (base : ℕ) → Reading
generated_from base x = if nat_lt x.place base then ScriptName x else Generated

-- the edge passes nothing, and leads to a generated block or to one of these
pub record LeadsInside (base : ℕ) (targets : List Name) (edge : Edge Name Name) : Type 0 where
  pub nothing : edge.arguments ≡ []
  pub inside : (base ≤ edge.target.place) ⊎ Contains targets edge.target

-- it computes, or goes along one of its edges
abbrev pub IsDeciding : Operation → Type 0
IsDeciding (Compute arithmetic) = Unit {0}
IsDeciding Jump = Unit {0}
IsDeciding Brif = Unit {0}
IsDeciding (BrTable entries) = Unit {0}
IsDeciding _ = ⊥

pub record IsDecidingInstruction (base : ℕ) (targets : List Name) (instruction : Instruction Name Name) : Type 0 where
  pub deciding : IsDeciding instruction.operation
  pub contexts : instruction.contexts ≡ []
  pub edges : AllByRecursion (LeadsInside base targets) instruction.edges

-- a jump table from this number on
abbrev pub IsTableFrom : (first : ℕ) → GivenEntry → Type 0
IsTableFrom first (ServedBy table) = first ≤ table
IsTableFrom first _ = ⊥

-- what code that decides may ask, where answers from the place `base` on and jump tables from the number `tables` on are generated
abbrev pub IsDecidingCall : (base tables : ℕ) (targets : List Name) → Request → Type 0
IsDecidingCall base tables targets CreateBlock = Unit {0}
IsDecidingCall base tables targets (SwitchToBlock block) = base ≤ block.place
IsDecidingCall base tables targets (SealBlock block) = base ≤ block.place
IsDecidingCall base tables targets (MakeEdge edge) = LeadsInside base targets edge
IsDecidingCall base tables targets (MakeJumpTable default entries) = (base ≤ default.place) × AllByRecursion (λ entry. base ≤ entry.place) entries
IsDecidingCall base tables targets (Build entries instruction) =
    IsDecidingInstruction base targets instruction × AllByRecursion (IsTableFrom tables) entries
IsDecidingCall base tables targets _ = ⊥

-- if it builds an instruction, that is well typed
abbrev pub BuildsTyped : (Name → «Type») → Request → Type 0
BuildsTyped types (Build entries instruction) = IsTypedInLine types [] instruction
BuildsTyped types _ = Unit {0}

-- it makes a block, an edge or a table
abbrev pub IsMaking : Request → Type 0
IsMaking CreateBlock = Unit {0}
IsMaking (MakeEdge edge) = Unit {0}
IsMaking (MakeJumpTable default entries) = Unit {0}
IsMaking _ = ⊥

-- an instruction is built before another block becomes the current one
abbrev pub BeginsHere : Script → Type 0
BeginsHere [] = ⊥
BeginsHere (Build entries instruction ∷ more) = Unit {0}
BeginsHere (request ∷ more) = IsMaking request × BeginsHere more

-- a block that becomes the current one is there, and so are generated blocks to which a branch leads that is built
abbrev pub LeadsToBlocks : (base : ℕ) → Ledger → Request → Type 0
LeadsToBlocks base ledger (SwitchToBlock block) = IsTrue (has_block ledger block)
LeadsToBlocks base ledger (Build entries instruction) =
    AllByRecursion (λ edge. base ≤ edge.target.place → IsTrue (has_block ledger edge.target)) instruction.edges
LeadsToBlocks base ledger _ = Unit {0}

-- THE LEDGER BEHIND THEM ---------------------------------------------------------------------------------------------------

-- a block that was generated has its terminator and is sealed
abbrev pub IsFinishedFrom : (base : ℕ) → BlockState → Type 0
IsFinishedFrom base state = base ≤ state.block.place → IsTrue (state.is_filled && state.is_sealed)

-- the current block has its terminator, was begun and is in the layout
pub record IsSpent (ledger : Ledger) (block : Name) : Type 0 where
  pub filled : IsTrue (is_filled ledger block)
  pub begun : is_pristine ledger block ≡ false
  pub inserted : IsTrue (is_inserted ledger block)

-- a branch that was generated leads to the block
pub record IsLedFrom (base : ℕ) (ledger : Ledger) (block : Name) : Type 0 where
  pub branch : Name
  pub generated : base ≤ branch.place
  pub leads : IsTrue (leads_to ledger branch block)

-- WHERE CONTROL GOES -------------------------------------------------------------------------------------------------------

-- From before the code, where the switch's operand holds a key, control walks to the target of the key's edge, by no more than so many
-- conditional branches and tables.
pub record GoesByKey (around : Surroundings) (code : List Item) (edges : List (Edge Name Name)) (keys : List ℕ) (names : Name → Bits) (key : Bits) (branches tables : ℕ) : Type 0 where
  pub edge : Edge Name Name
  pub there : slice_get edges (edge_of_key keys key) ≡ Some edge
  pub after : Name → Bits
  pub walked_branches : ℕ
  pub walked_tables : ℕ
  pub walk : Walk around edge.target code names after walked_branches walked_tables
  pub few_branches : walked_branches ≤ branches
  pub few_tables : walked_tables ≤ tables

-- The calls `more`, behind a script's plain calls with this block as the current one, are code of the switch of a value by these keys,
-- whose edges pass nothing.
pub record IsSwitchCode (plain more : Script) (block value : Name) (ty : «Type») (keys : List ℕ) (edges : List (Edge Name Name)) (branches tables : ℕ) : Type 0 where
  pub nothing : AllByRecursion (λ edge. edge.arguments ≡ []) edges
  pub value_type : type_of (ledger_after plain) value ≡ Some ty
  pub calls : AllByRecursion (IsDecidingCall (length plain) (length (ledger_after plain).jump_tables) (targets_of edges)) more
  pub typed : (types : Name → «Type») → HaveTypes (ledger_after (plain ++ more)) types → AllByRecursion (BuildsTyped types) more
  -- the first instruction stands in that block: before it blocks, edges and tables are made alone
  pub begins : BeginsHere more
  pub blocks : AllByRecursion (LeadsToBlocks (length plain) (ledger_after (plain ++ more))) more
  pub finished : AllByRecursion (IsFinishedFrom (length plain)) (ledger_after (plain ++ more)).blocks
  -- the block in which the switch stands has its terminator, and so has the one that is current at the end
  pub filled : IsTrue (is_filled (ledger_after (plain ++ more)) block)
  pub left : IfSome (ledger_after (plain ++ more)).current (IsSpent (ledger_after (plain ++ more)))
  pub led : (target : Name) → Contains (targets_of edges) target → IsLedFrom (length plain) (ledger_after (plain ++ more)) target
  pub jump_tables : (ledger_after (plain ++ more)).jump_tables ≡ (ledger_after plain).jump_tables ++ replicate (table_count keys keys) None
  -- what stands behind the block's items
  pub code : List Item
  pub stands : (program_of (plain ++ more)).items block ≡ (program_of plain).items block ++ code
  pub laid : (place : ℕ) (instruction : Instruction Name Name) → instruction.operands ≡ value ∷ [] → instruction.edges ≡ edges
      → IsLaid (generated_from (length plain)) (program_of (plain ++ more)) code (Instruct place instruction [])
  pub goes : (world : World) (types : Name → «Type») (names : Name → Bits) → HaveTypes (ledger_after (plain ++ more)) types → IsValue ty (names value)
      → GoesByKey (record { world = world; reading = generated_from (length plain); types = types; program = program_of (plain ++ more) })
      code edges keys names (names value) branches tables

-- LAWS --------------------------------------------------------------------------------------------------------------------

-- The edge of a key leads where the finite map has the key, where edges lead to the blocks of the entries, in order, and then to the
-- default.
abbrev pub KeysFindTheirBlocks : Type 0
KeysFindTheirBlocks =
    (entries : List (ℕ × Name)) (otherwise : Name) (edge_to : Name → Edge Name Name) (key : ℕ)
    → slice_get (map (λ entry. edge_to entry.1) entries ++ edge_to otherwise ∷ []) (edge_of_key (map (λ entry. entry.0) entries) key)
    ≡ Some (edge_to (switch_target entries otherwise key))
