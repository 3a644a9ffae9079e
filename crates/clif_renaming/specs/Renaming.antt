-- A script's run with its names renamed: blocks and values get other names, and all else stays. The usual renaming of bound
-- names, which keeps names apart.
use Rattle.std.specs.Prelude.{◌≡◌, ℕ, List, map, option_map}
use Rattle.std.specs.List.{AllZip}
use Rattle.clif_meaning.specs.Instruction.{Argument, Known, CallResult, CallPayload, Edge, Instruction}
use Rattle.clif_meaning.specs.Name.{Name}
use Rattle.clif_meaning.specs.Program.{Program, Item, Instruct, Use, Assign}
use Rattle.clif_meaning.specs.ScriptMachine.{ScriptRun}

-- names that are two stay two
abbrev pub KeepsApart : (Name → Name) → Type 0
KeepsApart rename = (a b : Name) → rename a ≡ rename b → a ≡ b

abbrev pub renamed_argument : (Name → Name) → Argument Name → Argument Name
renamed_argument rename (Known name) = Known (rename name)
renamed_argument rename (CallResult index) = CallResult index
renamed_argument rename (CallPayload index) = CallPayload index

abbrev pub renamed_edge : (Name → Name) → Edge Name Name → Edge Name Name
renamed_edge rename edge = record { target = rename edge.target; arguments = map (renamed_argument rename) edge.arguments }

abbrev pub renamed_instruction : (Name → Name) → Instruction Name Name → Instruction Name Name
renamed_instruction rename instruction =
    record instruction {
      operands = map rename instruction.operands;
      contexts = map rename instruction.contexts;
      edges = map (renamed_edge rename) instruction.edges;
    }

-- The second item is the first one renamed. Where in the script an instruction was built is free.
abbrev pub IsRenamedItem : (Name → Name) → Item → Item → Type 0
IsRenamedItem rename (Instruct place instruction results) (Instruct other renamed names) =
    (renamed ≡ renamed_instruction rename instruction) × (names ≡ map rename results)
IsRenamedItem rename (Use variable name) (Use other renamed) = (other ≡ variable) × (renamed ≡ rename name)
IsRenamedItem rename (Assign variable name) (Assign other renamed) = (other ≡ variable) × (renamed ≡ rename name)
IsRenamedItem rename _ _ = ⊥

abbrev pub AreRenamedItems : (Name → Name) → List Item → List Item → Type 0
AreRenamedItems rename items renamed = AllZip (IsRenamedItem rename) items renamed

-- The second program is the first one renamed: its entry, and the parameters and items of each block.
pub record IsRenamedProgram (rename : Name → Name) (program renamed : Program) : Type 0 where
  pub entry : renamed.entry ≡ option_map rename program.entry
  pub parameters : (block : Name) → renamed.parameters (rename block) ≡ map rename (program.parameters block)
  pub items : (block : Name) → AreRenamedItems rename (program.items block) (renamed.items (rename block))

-- The second run is the first one renamed: its program is, types and tracked names go along, and variables, spill slots and
-- the world are the same.
pub record IsRenamedRun (rename : Name → Name) (run renamed : ScriptRun) : Type 0 where
  pub program : IsRenamedProgram rename run.program renamed.program
  pub variable_type : (variable : ℕ) → renamed.variable_type variable ≡ run.variable_type variable
  pub name_type : (name : Name) → renamed.name_type (rename name) ≡ run.name_type name
  pub is_marked : (variable : ℕ) → renamed.is_marked variable ≡ run.is_marked variable
  pub is_tracked : (name : Name) → renamed.is_tracked (rename name) ≡ run.is_tracked name
  pub hidden : (address : ℕ) → renamed.hidden address ≡ run.hidden address
  pub world : renamed.world ≡ run.world
