-- The plain calls that emit a switch, node by node of its search tree. Source: the module `switch` of cranelift-frontend. No promise
-- cites them but to say what the builder stands for: what they do is `IsSwitchCode`.
use Rattle.std.specs.Prelude.{ℕ, zero, suc, ◌+◌, ◌-◌, ◌/◌, ◌%◌, ◌^◌, ◌==◌, ◌&&◌, nat_le, nat_lt, if◌then◌else◌, Bool, true, false, ℤ, pos, negsuc, List, [], ◌∷◌, ◌++◌, length, map, slice_index_or}
use Rattle.clif_opcodes.specs.declared.opcodes.BinaryOpcode.TheVariants.{Iadd, Isub}
use Rattle.clif_opcodes.specs.declared.opcodes.ConvertOpcode.TheVariants.{Ireduce, Uextend}
use Rattle.clif_types.specs.declared.condcodes.IntCC.{IntCC}
use Rattle.clif_types.specs.declared.condcodes.IntCC.TheVariants as cc
use Rattle.clif_types.specs.declared.types.LaneType.TheVariants as lane
use Rattle.clif_types.specs.declared.types.«Type».{«Type»}
use Rattle.clif_types.specs.declared.types.«Type».TheVariants as type
use Rattle.clif_types.specs.Types.{bits_of}
use Rattle.clif_ranges.specs.declared.ranges.CaseRange.{CaseRange}
use Rattle.clif_ranges.specs.declared.search.Next.{Next}
use Rattle.clif_ranges.specs.declared.search.Next.TheVariants as next
use Rattle.clif_ranges.specs.declared.search.Node.{Node}
use Rattle.clif_ranges.specs.declared.search.Test.{Test}
use Rattle.clif_ranges.specs.declared.search.Test.TheVariants as test
use Rattle.clif_meaning.specs.Acceptance.{jump, table_branch}
use Rattle.clif_meaning.specs.Instruction.{Arithmetic, Binary, Compare, Concat, Convert, Iconst, Brif, Edge, Instruction}
use Rattle.clif_meaning.specs.Name.{Name, answer_of}
use Rattle.clif_meaning.specs.Request.{Request, CreateBlock, SwitchToBlock, SealBlock, MakeEdge, MakeJumpTable, Build, ServedBy, Script}
use Rattle.clif_expansion.specs.ConstantCalls.{constant_instructions, constant_name}
use Rattle.clif_expansion.specs.Constants.{computing, i64}
use Rattle.clif_expansion.specs.Emission.{building}

-- What is switched on, and where control goes: a value of an integer type, the block of all keys without a case, and the names of the
-- blocks of cases, by their numbers.
pub record Switched : Type 0 where
  pub ty : «Type»
  pub value : Name
  pub otherwise : Name
  pub named : ℕ → Name

abbrev pub i8 : «Type»
i8 = type.Lane lane.I8

abbrev pub i32 : «Type»
i32 = type.Lane lane.I32

-- an edge that passes nothing
abbrev pub bare_edge : Name → Edge Name Name
bare_edge target = record { target = target; arguments = [] }

-- a conditional branch on a value of this type
abbrev pub branching : «Type» → (condition taken other : Name) → Request
branching ty condition taken other =
    Build [] (record { operation = Brif; controlling = ty; operands = condition ∷ []; contexts = []; edges = bare_edge taken ∷ bare_edge other ∷ [] })

-- NUMBERS -----------------------------------------------------------------------------------------------------------------

-- the low 64 bits of a number, the highest of which is a sign
abbrev pub signed_64 : ℕ → ℤ
signed_64 number = if nat_lt (number % 2 ^ 64) (2 ^ 63) then pos (number % 2 ^ 64) else negsuc (2 ^ 64 - 1 - number % 2 ^ 64)

-- the same of what makes zero with the number
abbrev pub negated_64 : ℕ → ℤ
negated_64 number = signed_64 (2 ^ 64 - number % 2 ^ 64)

abbrev pub is_widest : «Type» → Bool
is_widest (type.Lane lane.I128) = true
is_widest ty = false

-- a number of 128 bits that isn't one of 64 with its sign repeated
abbrev pub is_composed : «Type» → ℕ → Bool
is_composed ty number = is_widest ty && nat_le (2 ^ 63) number

-- the instructions that make a number of a type, from this place on: of its two halves, where it is composed
abbrev pub number_instructions : «Type» → (number place : ℕ) → List (Instruction Name Name)
number_instructions ty number place =
    if is_composed ty number
    then computing (Iconst (signed_64 number)) i64 [] ∷ computing (Iconst (signed_64 (number / 2 ^ 64))) i64 []
    ∷ computing Concat i64 (answer_of place 1 ∷ answer_of (suc place) 1 ∷ []) ∷ []
    else constant_instructions ty (signed_64 number) place

abbrev pub number_name : «Type» → (number place : ℕ) → Name
number_name ty number place = if is_composed ty number then answer_of (suc (suc place)) 1 else constant_name ty place

-- arithmetic on a name and a number, from this place on, and the name of its result
abbrev pub with_number : Arithmetic → «Type» → (number place : ℕ) (x : Name) → List (Instruction Name Name)
with_number arithmetic ty number place x =
    number_instructions ty number place ++ computing arithmetic ty (x ∷ number_name ty number place ∷ []) ∷ []

abbrev pub with_number_name : «Type» → (number place : ℕ) → Name
with_number_name ty number place = answer_of (place + length (number_instructions ty number place)) 1

-- TABLES ------------------------------------------------------------------------------------------------------------------

-- a name less the first key of a range: at 128 bits by a difference, from 2^63 + 1 on, and else by the sum with a negated constant
abbrev pub is_subtracted : «Type» → (first : ℕ) → Bool
is_subtracted ty first = is_widest ty && nat_lt (2 ^ 63) first

abbrev pub difference : «Type» → (first place : ℕ) (x : Name) → List (Instruction Name Name)
difference ty zero place x = []
difference ty first place x =
    if is_subtracted ty first then with_number (Binary Isub) ty first place x
    else constant_instructions ty (negated_64 first) place ++ computing (Binary Iadd) ty (x ∷ constant_name ty place ∷ []) ∷ []

abbrev pub difference_name : «Type» → (first place : ℕ) (x : Name) → Name
difference_name ty zero place x = x
difference_name ty first place x = answer_of (place + (length (difference ty first place x) - 1)) 1

-- An index of 32 bits, from this place on. A wider number is compared with the greatest index first, and control goes to `otherwise`
-- where it is greater, and else to a new block.
abbrev pub index_calls : Switched → (place : ℕ) (x : Name) → Script
index_calls s place x =
    if nat_lt 32 (bits_of s.ty)
    then (CreateBlock ∷ map building (with_number (Compare cc.UnsignedGreaterThan) s.ty (2 ^ 32 - 1) (suc place) x)
    ++ branching i8 (with_number_name s.ty (2 ^ 32 - 1) (suc place)) s.otherwise (answer_of place 0)
    ∷ SealBlock (answer_of place 0) ∷ SwitchToBlock (answer_of place 0) ∷ building (computing (Convert Ireduce) i32 (x ∷ [])) ∷ [])
    else (if nat_lt (bits_of s.ty) 32 then building (computing (Convert Uextend) i32 (x ∷ [])) ∷ [] else [])

abbrev pub index_name : Switched → (place : ℕ) (x : Name) → Name
index_name s place x = if bits_of s.ty == 32 then x else answer_of (place + (length (index_calls s place x) - 1)) 1

-- the answers from a place on, one of each call
abbrev pub answers_of : (place count : ℕ) → List Name
answers_of place zero = []
answers_of place (suc count) = answer_of place 0 ∷ answers_of (suc place) count

-- the targets of a table, of which `otherwise` is the first
abbrev pub table_targets : Switched → CaseRange → List Name
table_targets s range = s.otherwise ∷ map s.named range.blocks.items

-- a table for the keys of a range, where there are so many tables before, and the branch along it
abbrev pub table_calls : Switched → (tables : ℕ) → CaseRange → (place : ℕ) → Script
table_calls s tables range place =
    let behind : ℕ = place + suc (length (table_targets s range)) in
    let line : List (Instruction Name Name) = difference s.ty range.first behind s.value in
    let x : Name = difference_name s.ty range.first behind s.value in
    map (λ target. MakeEdge (bare_edge target)) (table_targets s range)
    ++ MakeJumpTable (answer_of place 0) (answers_of (suc place) (length range.blocks.items))
    ∷ map building line ++ index_calls s (behind + length line) x
    ++ Build (ServedBy tables ∷ []) (table_branch (index_name s (behind + length line) x) (map bare_edge (table_targets s range))) ∷ []

-- TESTS -------------------------------------------------------------------------------------------------------------------

-- the blocks that are made for the nodes that a test names first, in their order
abbrev pub block_for : Next → Script
block_for next.Otherwise = []
block_for (next.Node number) = CreateBlock ∷ []

abbrev pub name_for : Switched → Next → (place : ℕ) → Name
name_for s next.Otherwise place = s.otherwise
name_for s (next.Node number) place = answer_of place 0

-- the branch on a comparison with a number
abbrev pub compared : Switched → IntCC → (number place : ℕ) (taken other : Name) → Script
compared s condition number place taken other =
    map building (with_number (Compare condition) s.ty number place s.value)
    ++ branching i8 (with_number_name s.ty number place) taken other ∷ []

-- the block of a range's first key
abbrev pub first_block : Switched → CaseRange → Name
first_block s range = s.named (slice_index_or range.blocks.items 0 0)

abbrev pub test_calls : Switched → (tables : ℕ) → Test → (place : ℕ) → Script
test_calls s tables test.Nothing place = jump (bare_edge s.otherwise) ∷ []
test_calls s tables (test.OneKey range other) place =
    block_for other
    ++ (if range.now.first == 0 then branching s.ty s.value (name_for s other place) (first_block s range.now) ∷ []
    else compared s cc.Equal range.now.first (place + length (block_for other)) (first_block s range.now) (name_for s other place))
test_calls s tables (test.NotBelow first above other) place =
    block_for other ++ CreateBlock
    ∷ compared s cc.UnsignedGreaterThanOrEqual first (place + suc (length (block_for other))) (answer_of (place + length (block_for other)) 0) (name_for s other place)
test_calls s tables (test.Table range) place = table_calls s tables range.now place

-- how many tables it makes, and the blocks that it makes for nodes
abbrev pub tables_of : Test → ℕ
tables_of (test.Table range) = 1
tables_of _ = 0

abbrev pub other_of : Next → (place : ℕ) → List Name
other_of next.Otherwise place = []
other_of (next.Node number) place = answer_of place 0 ∷ []

abbrev pub blocks_of : Test → (place : ℕ) → List Name
blocks_of (test.OneKey range other) place = other_of other place
blocks_of (test.NotBelow first above other) place = other_of other place ++ answer_of (place + length (block_for other)) 0 ∷ []
blocks_of _ place = []

-- NODES -------------------------------------------------------------------------------------------------------------------

-- the node with the number 0 stands in the block in which the switch is made, the others in the blocks that were made for them
abbrev pub entering : (blocks : List Name) (number : ℕ) → Script
entering blocks zero = []
entering blocks (suc number) =
    let block : Name = slice_index_or blocks number (answer_of 0 0) in
    SealBlock block ∷ SwitchToBlock block ∷ []

abbrev pub node_calls : Switched → (blocks : List Name) (tables : ℕ) → Node → (place : ℕ) → Script
node_calls s blocks tables node place =
    entering blocks node.number ++ test_calls s tables node.test (place + length (entering blocks node.number))

-- the blocks so far, with those that the node makes
abbrev pub blocks_with : (blocks : List Name) → Node → (place : ℕ) → List Name
blocks_with blocks node place = blocks ++ blocks_of node.test (place + length (entering blocks node.number))

-- all nodes, from this place on, where these blocks and so many tables were made before
abbrev pub nodes_calls : Switched → (blocks : List Name) (tables : ℕ) → List Node → (place : ℕ) → Script
nodes_calls s blocks tables [] place = []
nodes_calls s blocks tables (node ∷ nodes) place =
    node_calls s blocks tables node place
    ++ nodes_calls s (blocks_with blocks node place) (tables + tables_of node.test) nodes (place + length (node_calls s blocks tables node place))
