-- What the steps of a switch make of a builder. Source: own.
use Rattle.std.specs.Prelude.{◌≡◌, ◌≢◌, ◌↔◌, ◌<◌, ◌≤◌, ◌+◌, ◌-◌, ◌^◌, ◌==◌, ◌⊎◌, if◌then◌else◌, ℕ, suc, false, IsTrue, List, [], ◌∷◌, ◌++◌, length, map, replicate, Contains, All, AllPairs, Some, None, Result, Err, OnOk, IfOk, is_err}
use Rattle.std.specs.List.{AllByRecursion, AllZip}
use Rattle.clif_types.specs.Signature.{SignatureShape}
use Rattle.clif_types.specs.declared.condcodes.IntCC.TheVariants.{Equal, UnsignedGreaterThan}
use Rattle.clif_types.specs.declared.error.BuildError.{BuildError}
use Rattle.clif_types.specs.declared.error.BuildError.TheVariants.{Failed, Full}
use Rattle.clif_types.specs.declared.types.«Type».{«Type»}
use Rattle.clif_types.specs.Types.{is_int}
use Rattle.clif_instructions.specs.declared.block_call.BlockCall.{BlockCall}
use Rattle.clif_ir.specs.Body.{Body, value_at}
use Rattle.clif_ir.specs.Changes.{with_tables}
use Rattle.clif_tables.specs.Lists.{TableLists, with_jump_table}
use Rattle.clif_ranges.specs.declared.search.Next.{Next}
use Rattle.clif_ranges.specs.declared.search.Node.{Node}
use Rattle.clif_ranges.specs.declared.search.Test.{Test}
use Rattle.clif_ranges.specs.declared.search.Test.TheVariants as test
use Rattle.clif_meaning.specs.Instruction.{Compare}
use Rattle.clif_meaning.specs.Ledger.{type_of}
use Rattle.clif_meaning.specs.Name.{Name, answer_of}
use Rattle.clif_meaning.specs.Request.{AnsweredCall, CreateBlock, SealBlock, SwitchToBlock, Script, script_of}
use Rattle.clif_records.specs.Tables.{is_yes, pending_of}
use Rattle.clif_ssa.specs.Limits.{IsFull}
use Rattle.clif_ssa.specs.Ssa.{sealed_of}
use Rattle.clif_ssa.specs.Structure.{LooksOnce}
use Rattle.clif_builder.specs.declared.builder.FunctionBuilder.{FunctionBuilder}
use Rattle.clif_builder.specs.declared.context.BlockStatus.TheVariants.{Filled}
use Rattle.clif_builder.specs.Builder.{HasCurrent, IsLeft, SameLoans, is_free}
use Rattle.clif_builder.specs.Context.{FillsNone, status_of}
use Rattle.clif_builder.specs.Growth.{GrowsBesideTables, RemembersIn, TypesStay}
use Rattle.clif_builder.specs.Keeping.{KeepsState}
use Rattle.clif_builder.specs.Ledger.{NamesBlock, NamesValue, ledger_of}
use Rattle.clif_builder.specs.StandsFor.{StandsFor}
use Rattle.clif_expansion.specs.Emission.{building}
use Rattle.clif_switch_calls.specs.SwitchCalls.{Switched, block_for, blocks_of, branching, compared, difference, difference_name, i8, name_for, nodes_calls, number_instructions, number_name, other_of, tables_of, test_calls, with_number, with_number_name}
use Rattle.clif_switch.specs.declared.emission.SwitchedValue.{SwitchedValue}

-- STEPS -------------------------------------------------------------------------------------------------------------------

-- all tables stay but that of jump tables: value labels, constants and what was imported too
abbrev pub MayAddJumpTables : TableLists → TableLists → Type 0
MayAddJumpTables t u = u ≡ record t { jump_tables = u.jump_tables }

-- a table is full that a switch needs: that of values, of instructions, of blocks or of jump tables holds as many entries as it can
abbrev pub SwitchIsFull : Body → Type 0
SwitchIsFull f = IsFull f ⊎ ((length f.blocks ≡ 2 ^ 32 - 1) ⊎ (length f.tables.jump_tables ≡ 2 ^ 32 - 1))

-- Calls were made one behind the other, whatever the last one answers: as of one call that may fail, but that another block may be the
-- current one.
pub record Steps {A : Type 0} {R : Type 0} (old new : FunctionBuilder R) (answer : Result A BuildError) : Type 0 where
  pub loans : SameLoans old new
  pub srcloc : new.srcloc ≡ old.srcloc
  pub failed : (answer ≡ Err Failed) ↔ IsTrue old.failed
  pub unchanged : IsTrue old.failed → new ≡ old
  pub fails : new.failed ≡ is_err answer
  pub looks_once : LooksOnce old.ctx.now.parts.ssa → LooksOnce new.ctx.now.parts.ssa
  pub variables : new.ctx.now.parts.variables ≡ old.ctx.now.parts.variables
  pub grows : OnOk answer (GrowsBesideTables old.func.now new.func.now)
  pub remembers : (x b : ℕ) → OnOk answer (RemembersIn x b old new)
  pub types : OnOk answer (TypesStay old.func.now new.func.now)
  pub exceptions : OnOk answer (new.func.now.tables.exception_tables ≡ old.func.now.tables.exception_tables)
  pub keeps : OnOk answer (KeepsState old new)
  pub adds : OnOk answer (MayAddJumpTables old.func.now.tables new.func.now.tables)
  pub full : answer ≡ Err Full → SwitchIsFull new.func.now

-- a block exists and isn't sealed, so that a branch may lead to it
pub record MayLead {R : Type 0} (b : FunctionBuilder R) (block : ℕ) : Type 0 where
  pub exists : block < length b.func.now.blocks
  pub unsealed : is_yes (sealed_of b.ctx.now.parts.ssa block) ≡ false

-- the value is an integer of the builder's, and a branch may lead to `otherwise`
pub record IsSwitchedIn {R : Type 0} (b : FunctionBuilder R) (switched : SwitchedValue) : Type 0 where
  pub exists : switched.val < length b.func.now.values
  pub typed : (value_at b.func.now switched.val).ty ≡ switched.ty
  pub integer : IsTrue (is_int switched.ty)
  pub otherwise : MayLead b switched.otherwise

-- No block that there was is sealed that wasn't, and none but the current one is filled that wasn't. The parameters that wait in a block
-- that there was go on waiting, and there are no others. The current block is as before, or is new.
pub record LeavesBlocks {R : Type 0} (old new : FunctionBuilder R) : Type 0 where
  pub seals : (block : ℕ) → block < length old.func.now.blocks → is_yes (sealed_of new.ctx.now.parts.ssa block) ≡ is_yes (sealed_of old.ctx.now.parts.ssa block)
  pub waits : (block : ℕ) → block < length old.func.now.blocks → pending_of (sealed_of new.ctx.now.parts.ssa block) ≡ pending_of (sealed_of old.ctx.now.parts.ssa block)
  pub fills : (block : ℕ) → block < length old.func.now.blocks → old.position ≢ Some block → status_of new.ctx.now.parts block ≡ Filled → status_of old.ctx.now.parts block ≡ Filled
  pub position : (block : ℕ) → block < length old.func.now.blocks → new.position ≡ Some block → old.position ≡ Some block

-- there are so many jump tables more, which serve an instruction
abbrev pub ServesMore : {R : Type 0} → ℕ → FunctionBuilder R → FunctionBuilder R → Type 0
ServesMore count old new = new.func.now.tables.jump_tables ≡ old.func.now.tables.jump_tables ++ replicate count None

-- code was built, in the current block or into a new one, which is the current one then; the answer is a value of this type
pub record GivesValue {R : Type 0} (ty : «Type») (old new : FunctionBuilder R) (answer : Result ℕ BuildError) : Type 0 where
  pub steps : Steps old new answer
  pub leaves : OnOk answer (LeavesBlocks old new)
  pub tables : OnOk answer (ServesMore 0 old new)
  pub current : OnOk answer (HasCurrent new)
  pub exists : IfOk answer (λ value. value < length new.func.now.values)
  pub typed : IfOk answer (λ value. (value_at new.func.now value).ty ≡ ty)

-- something was made, and the current block is as before
pub record StaysHere {A : Type 0} {R : Type 0} (old new : FunctionBuilder R) (answer : Result A BuildError) : Type 0 where
  pub steps : Steps old new answer
  pub leaves : OnOk answer (LeavesBlocks old new)
  pub tables : OnOk answer (ServesMore 0 old new)
  pub position : OnOk answer (new.position ≡ old.position)
  pub current : OnOk answer (HasCurrent new)

-- the block was sealed and became the current one, and nothing else changed
pub record IsEntered {R : Type 0} (block : ℕ) (old new : FunctionBuilder R) : Type 0 where
  pub seals : (other : ℕ) → other ≢ block → is_yes (sealed_of new.ctx.now.parts.ssa other) ≡ is_yes (sealed_of old.ctx.now.parts.ssa other)
  pub waits : (other : ℕ) → other ≢ block → pending_of (sealed_of new.ctx.now.parts.ssa other) ≡ pending_of (sealed_of old.ctx.now.parts.ssa other)
  pub fills : FillsNone old.ctx.now.parts new.ctx.now.parts
  pub position : new.position ≡ Some block
  pub tables : new.func.now.tables.jump_tables ≡ old.func.now.tables.jump_tables
  pub current : HasCurrent new

-- code was built up to a terminator, in the current block or into new ones, and served so many jump tables
pub record EndsBlock {A : Type 0} {R : Type 0} (count : ℕ) (old new : FunctionBuilder R) (answer : Result A BuildError) : Type 0 where
  pub steps : Steps old new answer
  pub leaves : OnOk answer (LeavesBlocks old new)
  pub tables : OnOk answer (ServesMore count old new)
  pub left : OnOk answer (IsLeft new)
  pub free : OnOk answer (IsTrue (is_free new))

-- a jump table of these edges is created, with the answer as its number; nothing else changes
pub record MakesTable {R : Type 0} (edges : List BlockCall) (old new : FunctionBuilder R) (answer : Result ℕ BuildError) : Type 0 where
  pub steps : Steps old new answer
  pub context : OnOk answer (new.ctx.now.parts ≡ old.ctx.now.parts)
  pub position : OnOk answer (new.position ≡ old.position)
  pub function : OnOk answer (new.func.now ≡ with_tables old.func.now (with_jump_table old.func.now.tables edges))
  pub number : IfOk answer (λ table. table ≡ length old.func.now.tables.jump_tables)
  pub stands : (signature : SignatureShape) (calls : List AnsweredCall) → StandsFor signature calls old → OnOk answer (StandsFor signature calls new)

-- a block that was made for a node: a branch may lead to it, it hasn't its terminator, and no parameter waits in it until it is sealed
pub record IsOpenFor {R : Type 0} (b : FunctionBuilder R) (block : ℕ) : Type 0 where
  pub leads : MayLead b block
  pub unfilled : status_of b.ctx.now.parts block ≢ Filled
  pub none_waits : pending_of (sealed_of b.ctx.now.parts.ssa block) ≡ []

-- blocks were put behind others: they are open, and have rising numbers from that of the next block on
pub record AddsBlocks {R : Type 0} (count : ℕ) (old new : FunctionBuilder R) (before after : List ℕ) : Type 0 where
  pub made : List ℕ
  pub is : after ≡ before ++ made
  pub many : length made ≡ count
  pub are_open : All (IsOpenFor new) made
  pub behind : All (λ block. length old.func.now.blocks ≤ block) made
  pub rising : AllPairs (λ a b. a < b) made

-- an edge that passes nothing
abbrev pub bare_to : ℕ → BlockCall
bare_to block = record { block = block; args = [] }

-- the blocks of a test's cases
abbrev pub cases_in : Test → List ℕ
cases_in test.Nothing = []
cases_in (test.OneKey range other) = range.now.blocks.items
cases_in (test.NotBelow first above other) = []
cases_in (test.Table range) = range.now.blocks.items

-- how many tables nodes make
abbrev pub tables_in : List Node → ℕ
tables_in [] = 0
tables_in (node ∷ nodes) = tables_of node.test + tables_in nodes

-- if one key is tested, it has a block
abbrev pub HasItsBlock : Test → Type 0
HasItsBlock (test.OneKey range other) = 0 < length range.now.blocks.items
HasItsBlock _ = Unit {0}

-- THE CALLS OF THE STEPS ---------------------------------------------------------------------------------------------------

abbrev pub number_calls : (number : ℕ) → Switched → (place : ℕ) → Script
number_calls number s place = map building (number_instructions s.ty number place)

abbrev pub number_named : (number : ℕ) → Switched → (place : ℕ) → Name
number_named number s place = number_name s.ty number place

abbrev pub difference_calls : (first : ℕ) → Switched → (place : ℕ) → Script
difference_calls first s place = map building (difference s.ty first place s.value)

abbrev pub difference_named : (first : ℕ) → Switched → (place : ℕ) → Name
difference_named first s place = difference_name s.ty first place s.value

-- a branch to the block of a key, or else to another one
abbrev pub key_calls : Switched → (key place : ℕ) (taken other : Name) → Script
key_calls s key place taken other =
    if key == 0 then branching s.ty s.value other taken ∷ [] else compared s Equal key place taken other

-- control goes to `otherwise` where a number is greater than each index, and else to a new block
abbrev pub check_calls : Switched → (place : ℕ) (x : Name) → Script
check_calls s place x =
    CreateBlock ∷ map building (with_number (Compare UnsignedGreaterThan) s.ty (2 ^ 32 - 1) (suc place) x)
    ++ branching i8 (with_number_name s.ty (2 ^ 32 - 1) (suc place)) s.otherwise (answer_of place 0) ∷ []

-- WHAT A BUILDER STANDS FOR ------------------------------------------------------------------------------------------------

-- A builder stands for these calls with some plain calls at their end, and the names of a switch lead to its value, which has its type, to
-- the block `otherwise` and to the blocks of its cases.
pub record StandsAt {R : Type 0} (signature : SignatureShape) (calls : List AnsweredCall) (s : Switched) (x otherwise : ℕ) (cases : List ℕ) (plain : Script) (b : FunctionBuilder R) : Type 0 where
  pub added : List AnsweredCall
  pub asked : script_of added ≡ plain
  pub stands : StandsFor signature (calls ++ added) b
  pub value : NamesValue (calls ++ added) s.value x
  pub typed : type_of (ledger_of (calls ++ added)) s.value ≡ Some s.ty
  pub otherwise_named : NamesBlock (calls ++ added) s.otherwise otherwise
  pub cases_named : (block : ℕ) → Contains cases block → NamesBlock (calls ++ added) (s.named block) block

-- More plain calls were made, and what was named before is named as it was.
pub record StandsOn {R : Type 0} {signature : SignatureShape} {calls : List AnsweredCall} {s : Switched} {x otherwise : ℕ} {cases : List ℕ} {plain : Script} {old : FunctionBuilder R}
    (at : StandsAt signature calls s x otherwise cases plain old) (more : Script) (new : FunctionBuilder R) : Type 0 where
  pub later : StandsAt signature calls s x otherwise cases (plain ++ more) new
  pub blocks_stay : (name : Name) (block : ℕ) → NamesBlock (calls ++ at.added) name block → NamesBlock (calls ++ later.added) name block
  pub values_stay : (name : Name) (value : ℕ) → NamesValue (calls ++ at.added) name value → NamesValue (calls ++ later.added) name value

-- how many jump tables the calls made
abbrev pub tables_at : {R : Type 0} {signature : SignatureShape} {calls : List AnsweredCall} {s : Switched} {x otherwise : ℕ} {cases : List ℕ} {plain : Script} {b : FunctionBuilder R}
    → StandsAt signature calls s x otherwise cases plain b → ℕ
tables_at {calls = calls} at = length (ledger_of (calls ++ at.added)).jump_tables

-- where the next call stands
abbrev pub next_place : List AnsweredCall → Script → ℕ
next_place calls plain = length calls + length plain

-- Where a builder stood for calls, and names led to what is switched on and to the blocks of cases, of which these are some, it stands for the
-- calls with others at their end, if the answer is no error.
abbrev pub Makes : {A : Type 0} → {R : Type 0} → SwitchedValue → (needs : List ℕ) → (Switched → (tables place : ℕ) → Script) → (old new : FunctionBuilder R) → Result A BuildError → Type 0
Makes {A} switched needs made old new answer =
    (signature : SignatureShape) (calls : List AnsweredCall) (s : Switched) (cases : List ℕ) (plain : Script)
    (at : StandsAt signature calls s switched.val switched.otherwise cases plain old) → All (Contains cases) needs
    → OnOk answer (StandsOn at (made s (tables_at at) (next_place calls plain)) new)

-- the same, and this names the value that is answered
pub record NamesAnswer {R : Type 0} {signature : SignatureShape} {calls : List AnsweredCall} {s : Switched} {x otherwise : ℕ} {cases : List ℕ} {plain : Script} {old : FunctionBuilder R}
    (at : StandsAt signature calls s x otherwise cases plain old) (more : Script) (new : FunctionBuilder R) (name : Name) (value : ℕ) : Type 0 where
  pub on : StandsOn at more new
  pub named : NamesValue (calls ++ on.later.added) name value

abbrev pub MakesValue : {R : Type 0} → SwitchedValue → (Switched → (place : ℕ) → Script) → (Switched → (place : ℕ) → Name) → (old new : FunctionBuilder R) → Result ℕ BuildError → Type 0
MakesValue switched made name old new answer =
    (signature : SignatureShape) (calls : List AnsweredCall) (s : Switched) (cases : List ℕ) (plain : Script)
    (at : StandsAt signature calls s switched.val switched.otherwise cases plain old)
    → IfOk answer (NamesAnswer at (made s (next_place calls plain)) new (name s (next_place calls plain)))

-- the same, and this names the block that is answered
pub record NamesTarget {R : Type 0} {signature : SignatureShape} {calls : List AnsweredCall} {s : Switched} {x otherwise : ℕ} {cases : List ℕ} {plain : Script} {old : FunctionBuilder R}
    (at : StandsAt signature calls s x otherwise cases plain old) (more : Script) (new : FunctionBuilder R) (name : Name) (block : ℕ) : Type 0 where
  pub on : StandsOn at more new
  pub named : NamesBlock (calls ++ on.later.added) name block

-- the same of a new block
abbrev pub MakesBlock : {R : Type 0} (old new : FunctionBuilder R) → Result ℕ BuildError → Type 0
MakesBlock old new answer =
    (signature : SignatureShape) (calls : List AnsweredCall) (s : Switched) (x otherwise : ℕ) (cases : List ℕ) (plain : Script)
    (at : StandsAt signature calls s x otherwise cases plain old)
    → IfOk answer (NamesTarget at (CreateBlock ∷ []) new (answer_of (next_place calls plain) 0))

-- the same of the block to which control goes next, and names lead to the blocks of nodes
abbrev pub MakesNext : {R : Type 0} → SwitchedValue → Next → (old new : FunctionBuilder R) → (before after : List ℕ) → Result ℕ BuildError → Type 0
MakesNext switched next old new before after answer =
    (signature : SignatureShape) (calls : List AnsweredCall) (s : Switched) (cases : List ℕ) (plain : Script)
    (at : StandsAt signature calls s switched.val switched.otherwise cases plain old) (names : List Name) → AllZip (NamesBlock (calls ++ at.added)) names before
    → IfOk answer (λ block. (target : NamesTarget at (block_for next) new (name_for s next (next_place calls plain)) block)
    × AllZip (NamesBlock (calls ++ target.on.later.added)) (names ++ other_of next (next_place calls plain)) after)

-- the same of the calls that make a block the current one
abbrev pub MakesEntry : {R : Type 0} (block : ℕ) → (old new : FunctionBuilder R) → Result (Unit {0}) BuildError → Type 0
MakesEntry block old new answer =
    (signature : SignatureShape) (calls : List AnsweredCall) (s : Switched) (x otherwise : ℕ) (cases : List ℕ) (plain : Script)
    (at : StandsAt signature calls s x otherwise cases plain old) (name : Name) → NamesBlock (calls ++ at.added) name block
    → OnOk answer (StandsOn at (SealBlock name ∷ SwitchToBlock name ∷ []) new)

-- the same of the test of an index, behind which another block is answered
abbrev pub MakesCheck : {R : Type 0} → SwitchedValue → (operand : ℕ) → (old new : FunctionBuilder R) → Result ℕ BuildError → Type 0
MakesCheck switched operand old new answer =
    (signature : SignatureShape) (calls : List AnsweredCall) (s : Switched) (cases : List ℕ) (plain : Script)
    (at : StandsAt signature calls s switched.val switched.otherwise cases plain old) (x : Name) → NamesValue (calls ++ at.added) x operand
    → IfOk answer (NamesTarget at (check_calls s (next_place calls plain) x) new (answer_of (next_place calls plain) 0))

-- the same of code on a value
abbrev pub MakesOf : {R : Type 0} → SwitchedValue → (operand : ℕ) → (Switched → (place : ℕ) (x : Name) → Script) → (Switched → (place : ℕ) (x : Name) → Name) → (old new : FunctionBuilder R) → Result ℕ BuildError → Type 0
MakesOf switched operand made name old new answer =
    (signature : SignatureShape) (calls : List AnsweredCall) (s : Switched) (cases : List ℕ) (plain : Script)
    (at : StandsAt signature calls s switched.val switched.otherwise cases plain old) (x : Name) → NamesValue (calls ++ at.added) x operand
    → IfOk answer (NamesAnswer at (made s (next_place calls plain) x) new (name s (next_place calls plain) x))

-- the same of a branch to two blocks
abbrev pub MakesBranch : {R : Type 0} → SwitchedValue → (taken other : ℕ) → (Switched → (place : ℕ) (taken other : Name) → Script) → (old new : FunctionBuilder R) → Result (Unit {0}) BuildError → Type 0
MakesBranch switched taken other made old new answer =
    (signature : SignatureShape) (calls : List AnsweredCall) (s : Switched) (cases : List ℕ) (plain : Script)
    (at : StandsAt signature calls s switched.val switched.otherwise cases plain old) (t o : Name) → NamesBlock (calls ++ at.added) t taken → NamesBlock (calls ++ at.added) o other
    → OnOk answer (StandsOn at (made s (next_place calls plain) t o) new)

-- the same of a test, and names lead to the blocks that it makes for nodes
abbrev pub MakesTest : {R : Type 0} → SwitchedValue → Test → (old new : FunctionBuilder R) → (before after : List ℕ) → Result (Unit {0}) BuildError → Type 0
MakesTest switched tested old new before after answer =
    (signature : SignatureShape) (calls : List AnsweredCall) (s : Switched) (cases : List ℕ) (plain : Script)
    (at : StandsAt signature calls s switched.val switched.otherwise cases plain old) (names : List Name) → All (Contains cases) (cases_in tested) → AllZip (NamesBlock (calls ++ at.added)) names before
    → OnOk answer ((on : StandsOn at (test_calls s (tables_at at) tested (next_place calls plain)) new)
    × AllZip (NamesBlock (calls ++ on.later.added)) (names ++ blocks_of tested (next_place calls plain)) after)

-- the same of all nodes, of which the first stands in the current block
abbrev pub MakesNodes : {R : Type 0} → SwitchedValue → List Node → (old new : FunctionBuilder R) → Result (Unit {0}) BuildError → Type 0
MakesNodes switched nodes old new answer =
    (signature : SignatureShape) (calls : List AnsweredCall) (s : Switched) (cases : List ℕ) (plain : Script)
    (at : StandsAt signature calls s switched.val switched.otherwise cases plain old) → AllByRecursion (λ node. All (Contains cases) (cases_in node.test)) nodes
    → OnOk answer (StandsOn at (nodes_calls s [] (tables_at at) nodes (next_place calls plain)) new)
