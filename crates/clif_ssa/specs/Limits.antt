-- When a function's tables are full. Source: own.
use Rattle.std.specs.Prelude.{◌≡◌, ◌⊎◌, ◌-◌, ◌^◌, length}
use Rattle.clif_ir.specs.Body.{Body}

-- the table of values or that of instructions holds as many entries as it can
abbrev pub IsFull : Body → Type 0
IsFull f = (length f.values ≡ 2 ^ 32 - 1) ⊎ (length f.insts ≡ 2 ^ 32 - 1)

-- so does one of the tables to which the construction adds: beside these two that of constants
abbrev pub ConstructionIsFull : Body → Type 0
ConstructionIsFull f = IsFull f ⊎ (length f.tables.constants ≡ 2 ^ 32 - 1)
