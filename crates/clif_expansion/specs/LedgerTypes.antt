-- Types of names: those that a ledger gives, and instructions that are well typed by them. Own.
use Rattle.std.specs.Prelude.{◌≡◌, List, [], Some}
use Rattle.clif_types.specs.declared.types.«Type».{«Type»}
use Rattle.clif_meaning.specs.Instruction.{Instruction}
use Rattle.clif_meaning.specs.Ledger.{Ledger, type_of}
use Rattle.clif_meaning.specs.Name.{Name}
use Rattle.clif_meaning.specs.Typing.{IsWellTyped}

-- a value has the type that the ledger gives it, and what isn't one so far may have any type
abbrev pub HaveTypes : Ledger → (Name → «Type») → Type 0
HaveTypes ledger types = (x : Name) (ty : «Type») → type_of ledger x ≡ Some ty → types x ≡ ty

-- an instruction without edges is well typed: no block has parameters that would matter
abbrev pub IsTypedInLine : (Name → «Type») → List «Type» → Instruction Name Name → Type 0
IsTypedInLine types returns instruction = IsWellTyped types (λ block. []) returns instruction
