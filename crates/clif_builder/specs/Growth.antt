-- What goes on existing, and goes on standing for one value, as calls are made. Source: own.
use Rattle.std.specs.Prelude.{◌≡◌, ◌<◌, ◌≤◌, ◌+◌, ◌-◌, ◌^◌, ℕ, List, [], ◌∷◌, length}
use Rattle.clif_instructions.specs.Instruction.{EntryRef}
use Rattle.clif_tables.specs.Lists.{TableLists}
use Rattle.clif_ir.specs.Body.{Body, resolved, value_at}
use Rattle.clif_ir.specs.Consistent.{EntryExists}
use Rattle.clif_ssa.specs.Structure.{HasRecordOf, Remembers}
use Rattle.clif_builder.specs.declared.builder.FunctionBuilder.{FunctionBuilder}

-- each entry of a table that an instruction may name is still there
abbrev pub EntriesStay : TableLists → TableLists → Type 0
EntriesStay t u = (entry : EntryRef) → EntryExists t entry → EntryExists u entry

-- no table of the function is shorter, and its name, its signature and the entries that instructions name stay; jump tables and
-- exception tables may change
abbrev pub GrowsBesideTables : Body → Body → Type 0
GrowsBesideTables f g =
    (length f.values ≤ length g.values) × (length f.insts ≤ length g.insts) × (length f.blocks ≤ length g.blocks)
    × (g.name ≡ f.name) × (g.signature ≡ f.signature) × (length f.tables.stack_slots ≤ length g.tables.stack_slots)
    × EntriesStay f.tables g.tables

-- no table of the function is shorter, and its name, its signature, its jump tables, the entries that instructions name and its
-- exception tables stay
abbrev pub Grows : Body → Body → Type 0
Grows f g =
    (length f.values ≤ length g.values) × (length f.insts ≤ length g.insts) × (length f.blocks ≤ length g.blocks)
    × (g.name ≡ f.name) × (g.signature ≡ f.signature) × (length f.tables.stack_slots ≤ length g.tables.stack_slots)
    × (g.tables.jump_tables ≡ f.tables.jump_tables) × EntriesStay f.tables g.tables
    × (g.tables.exception_tables ≡ f.tables.exception_tables)

-- each value keeps its type
abbrev pub TypesStay : Body → Body → Type 0
TypesStay f g = (v : ℕ) → v < length f.values → (value_at g v).ty ≡ (value_at f v).ty

-- with some of so many parameters, and not with all, the function's table of values holds 2^32 - 1 entries
abbrev pub NoRoomFor : Body → ℕ → Type 0
NoRoomFor f count = (made : ℕ) × (made < count) × (length f.values + made ≡ 2 ^ 32 - 1)

-- the block's record of the variable stays, if there is one, and values that stand for one value go on doing so
abbrev pub RemembersIn : {R : Type 0} → ℕ → ℕ → FunctionBuilder R → FunctionBuilder R → Type 0
RemembersIn variable block old new = Remembers variable block old.func.now old.ctx.now.parts.ssa new.func.now new.ctx.now.parts.ssa

-- the block's record of the variable stands for the same value as this one
abbrev pub HasRecordIn : {R : Type 0} → FunctionBuilder R → ℕ → ℕ → ℕ → Type 0
HasRecordIn b variable block value = HasRecordOf b.func.now b.ctx.now.parts.ssa variable block value

-- each builder remembers what the one before it had on record for the variable in the block
abbrev pub AreCalls : {R : Type 0} → ℕ → ℕ → FunctionBuilder R → List (FunctionBuilder R) → Type 0
AreCalls variable block b [] = Unit {0}
AreCalls variable block b (next ∷ builders) = RemembersIn variable block b next × AreCalls variable block next builders

abbrev pub last_builder : {R : Type 0} → FunctionBuilder R → List (FunctionBuilder R) → FunctionBuilder R
last_builder b [] = b
last_builder b (next ∷ builders) = last_builder next builders

-- Two uses of a variable in a block: where no call between them assigns it there, their answers stand for one value.
abbrev pub BuilderUsesAgree : (R : Type 0) → Type 0
BuilderUsesAgree R =
    (variable block first second : ℕ) (b : FunctionBuilder R) (builders : List (FunctionBuilder R))
    → HasRecordIn b variable block first
    → AreCalls variable block b builders
    → HasRecordIn (last_builder b builders) variable block second
    → resolved (last_builder b builders).func.now first ≡ resolved (last_builder b builders).func.now second
