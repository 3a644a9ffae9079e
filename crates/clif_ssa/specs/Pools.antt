-- Which constants the construction pools: those of the zeros of the types that are used, and no other.
-- Source: own, after the zeros that cranelift's SSA builder makes.
use Rattle.std.specs.Prelude.{◌≡◌, ◌<◌, ◌⊎◌, ◌-◌, ◌^◌, ℕ, List, [], ◌∷◌, length, map, replicate, Some, false, Contains}
use Rattle.std.specs.List.{AllByRecursion}
use Rattle.clif_types.specs.declared.types.«Type».{«Type»}
use Rattle.clif_tables.specs.Constants.{has_constant}
use Rattle.clif_tables.specs.Lists.{TableLists}
use Rattle.clif_ir.specs.Body.{Body, value_at}
use Rattle.clif_records.specs.declared.tables.Pending.{Pending}
use Rattle.clif_records.specs.Tables.{pending_of}
use Rattle.clif_ssa.specs.Limits.{IsFull}
use Rattle.clif_ssa.specs.Ssa.{SsaState, sealed_of}
use Rattle.clif_ssa.specs.Zeros.{with_zeros, zero_size}

-- the tables are as they were, or have the constant of this type's zero as well; where it has none both say the same
abbrev pub MayPool : «Type» → TableLists → TableLists → Type 0
MayPool ty t u = (u ≡ t) ⊎ (u ≡ with_zeros t (zero_size ty))

-- the same for each of these types in turn
abbrev pub MayPoolAll : List «Type» → TableLists → TableLists → Type 0
MayPoolAll [] t u = u ≡ t
MayPoolAll (ty ∷ types) t u = (between : TableLists) × MayPool ty t between × MayPoolAll types between u

-- the types of parameters that wait, in order
abbrev pub types_of : Body → List Pending → List «Type»
types_of f waiting = map (λ (p : Pending). (value_at f p.param).ty) waiting

-- a parameter of this type waits in a block of the function
abbrev pub WaitsWithType : Body → SsaState → «Type» → Type 0
WaitsWithType f s ty = (b : ℕ) × (b < length f.blocks) × Contains (types_of f (pending_of (sealed_of s b))) ty

-- The same for types in some order, each that of a parameter that waits: a look-up may let parameters of such types wait in
-- blocks that are sealed later.
abbrev pub MayPoolWaiting : Body → SsaState → TableLists → Type 0
MayPoolWaiting f s u = (types : List «Type») × AllByRecursion (WaitsWithType f s) types × MayPoolAll types f.tables u

-- WHAT IS FULL ----------------------------------------------------------------------------------------------------

-- this type's zero has a constant that isn't among those of the function, which has as many as it can
abbrev pub LacksZero : «Type» → Body → Type 0
LacksZero ty f =
    (size : ℕ) × (zero_size ty ≡ Some size) × (has_constant f.tables.constants (replicate size 0) ≡ false)
    × (length f.tables.constants ≡ 2 ^ 32 - 1)

-- a table is full that a use of a variable of this type needs
abbrev pub UseIsFull : «Type» → Body → Type 0
UseIsFull ty f = IsFull f ⊎ LacksZero ty f

-- a table is full that a sealing needs, where the parameters that wait have these types
abbrev pub SealingIsFull : («Type» → Type 0) → Body → Type 0
SealingIsFull IsWaiting f = IsFull f ⊎ ((ty : «Type») × IsWaiting ty × LacksZero ty f)
