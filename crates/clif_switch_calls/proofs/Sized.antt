-- How many entries of tables the plain calls of a switch make at most.
use Rattle.std.proofs.Common.{◌≡◌, ◌≤◌, ◌<◌, ◌+◌, ◌*◌, ℕ, zero, suc, Bool, true, false, List, [], ◌∷◌, ◌++◌, length, map, reverse, refl, sym, ◌∙◌, ap, ap₂, subst, arith, cond, length-append}
use Rattle.std.specs.Prelude.{◌^◌, ◌-◌, ◌/◌, ◌==◌, ◌&&◌, if◌then◌else◌, nat_le, nat_lt, ℤ, max, slice_index_or}
use Rattle.std.specs.List.{AllByRecursion, count_by, enumerate_from, flat_map}
use Rattle.std.proofs.lemmas.Bool.Decides.{nat_tests}
use Rattle.std.proofs.lemmas.List.{length-map, length-reverse}
use Rattle.std.proofs.lemmas.List.Elements.{recursion_from_All}
use Rattle.std.proofs.lemmas.List.Recursion.{is_sum_by}
use Rattle.std.specs.FinMap as finite
use Rattle.clif_opcodes.specs.declared.opcodes.BinaryOpcode.TheVariants.{Iadd, Isub}
use Rattle.clif_opcodes.specs.declared.opcodes.ConvertOpcode.TheVariants.{Ireduce, Uextend}
use Rattle.clif_types.specs.declared.condcodes.IntCC.{IntCC}
use Rattle.clif_types.specs.declared.condcodes.IntCC.TheVariants as cc
use Rattle.clif_types.specs.declared.types.LaneType.TheVariants as lane
use Rattle.clif_types.specs.declared.types.«Type».{«Type»}
use Rattle.clif_types.specs.declared.types.«Type».TheVariants as type
use Rattle.clif_types.specs.Types.{bits_of}
use Rattle.clif_ranges.specs.declared.ranges.CaseRange.{CaseRange}
use Rattle.clif_ranges.specs.declared.search.Next.{Next}
use Rattle.clif_ranges.specs.declared.search.Next.TheVariants as next
use Rattle.clif_ranges.specs.declared.search.Node.{Node}
use Rattle.clif_ranges.specs.declared.search.Test.{Test}
use Rattle.clif_ranges.specs.declared.search.Test.TheVariants as test
use Rattle.clif_ranges.specs.Ranges.{AreRangesOf, cases_of}
use Rattle.clif_ranges.specs.Search.{AreFew, AreInOrder, AreTestsOf, IsTestOf, is_long, named_by, number_of}
use Rattle.clif_meaning.specs.Acceptance.{jump, table_branch}
use Rattle.clif_meaning.specs.Instruction.{Arithmetic, Binary, Compare, Concat, Convert, Iconst, Instruction}
use Rattle.clif_meaning.specs.Name.{Name, answer_of}
use Rattle.clif_meaning.specs.Program.{result_types}
use Rattle.clif_meaning.specs.Request.{CreateBlock, SwitchToBlock, SealBlock, MakeEdge, MakeJumpTable, Build, ServedBy, Script}
use Rattle.clif_meaning.specs.Sizes.{Table, Blocks, Constants, Instructions, JumpTables, Values, constants_for, made_by_script}
use Rattle.clif_expansion.specs.ConstantCalls.{constant_instructions, constant_name}
use Rattle.clif_expansion.specs.Constants.{computing, i64}
use Rattle.clif_expansion.specs.Emission.{building}
use Rattle.clif_switch_calls.proofs.Served.{table_total, total_counts}
use Rattle.clif_switch_calls.specs.SwitchCalls.{Switched, answers_of, bare_edge, block_for, blocks_with, branching, compared, difference, difference_name, entering, first_block, i8, i32, index_calls, index_name, is_composed, is_subtracted, is_widest, name_for, negated_64, node_calls, nodes_calls, number_instructions, number_name, signed_64, table_calls, table_targets, tables_of, test_calls, with_number, with_number_name}
use Rattle.clif_switch_calls.specs.SwitchLaw.{case_keys}
use Rattle.clif_switch_calls.specs.SwitchSizes.{SwitchCallsAreFew, nodes_make, so_many, switch_makes, test_makes}

-- SUMS --------------------------------------------------------------------------------------------------------------------

pub none_many : (table : Table) → so_many 0 0 0 0 table ≡ 0
none_many Values = refl
none_many Instructions = refl
none_many Blocks = refl
none_many JumpTables = refl
none_many _ = refl

pub both_many : (v i b t v' i' b' t' : ℕ) (table : Table) → so_many v i b t table + so_many v' i' b' t' table ≡ so_many (v + v') (i + i') (b + b') (t + t') table
both_many v i b t v' i' b' t' Values = refl
both_many v i b t v' i' b' t' Instructions = refl
both_many v i b t v' i' b' t' Blocks = refl
both_many v i b t v' i' b' t' JumpTables = refl
both_many v i b t v' i' b' t' _ = refl

pub more_many : (v i b t v' i' b' t' : ℕ) → v ≤ v' → i ≤ i' → b ≤ b' → t ≤ t' → (table : Table) → so_many v i b t table ≤ so_many v' i' b' t' table
more_many v i b t v' i' b' t' values instructions blocks tables Values = values
more_many v i b t v' i' b' t' values instructions blocks tables Instructions = instructions
more_many v i b t v' i' b' t' values instructions blocks tables Blocks = blocks
more_many v i b t v' i' b' t' values instructions blocks tables JumpTables = tables
more_many v i b t v' i' b' t' values instructions blocks tables _ = omega arith

made_both : (first next : Script) (table : Table) → made_by_script (first ++ next) table ≡ made_by_script first table + made_by_script next table
made_both [] next table = omega arith
made_both (request ∷ first) next table = let rest = made_both first next table in omega (arith, rest)

-- SCRIPTS -----------------------------------------------------------------------------------------------------------------

-- a script makes exactly so many entries
abbrev Makes : Script → (v i b t : ℕ) → Type 0
Makes script v i b t = (table : Table) → made_by_script script table ≡ so_many v i b t table

nothing_made : Makes [] 0 0 0 0
nothing_made table = sym (none_many table)

made_then : {v i b t v' i' b' t' : ℕ} (first next : Script) → Makes first v i b t → Makes next v' i' b' t' → Makes (first ++ next) (v + v') (i + i') (b + b') (t + t')
made_then {v} {i} {b} {t} {v'} {i'} {b'} {t'} first next one two table = made_both first next table ∙ ap₂ (λ (m n : ℕ). m + n) (one table) (two table) ∙ both_many v i b t v' i' b' t' table

-- at most so many
abbrev Few : Script → (v i b t : ℕ) → Type 0
Few script v i b t = (table : Table) → made_by_script script table ≤ so_many v i b t table

few : {v i b t : ℕ} (script : Script) (v' i' b' t' : ℕ) → v ≤ v' → i ≤ i' → b ≤ b' → t ≤ t' → Makes script v i b t → Few script v' i' b' t'
few {v} {i} {b} {t} script v' i' b' t' values instructions blocks tables makes table =
    let is = makes table in let less = more_many v i b t v' i' b' t' values instructions blocks tables table in omega (arith, is, less)

few_then : (v i b t v' i' b' t' : ℕ) (first next : Script) → Few first v i b t → Few next v' i' b' t' → Few (first ++ next) (v + v') (i + i') (b + b') (t + t')
few_then v i b t v' i' b' t' first next one two table =
    let whole = made_both first next table in let a = one table in let c = two table in let sum = both_many v i b t v' i' b' t' table in omega (arith, whole, a, c, sum)

block_made : Makes (CreateBlock ∷ []) 0 0 1 0
block_made Values = refl
block_made Instructions = refl
block_made Blocks = refl
block_made JumpTables = refl
block_made _ = refl

table_made : (default : Name) (entries : List Name) → Makes (MakeJumpTable default entries ∷ []) 0 0 0 1
table_made default entries Values = refl
table_made default entries Instructions = refl
table_made default entries Blocks = refl
table_made default entries JumpTables = refl
table_made default entries _ = refl

edge_made : (target : Name) → Makes (MakeEdge (bare_edge target) ∷ []) 0 0 0 0
edge_made target Values = refl
edge_made target Instructions = refl
edge_made target Blocks = refl
edge_made target JumpTables = refl
edge_made target _ = refl

entry_made : (block : Name) → Makes (SealBlock block ∷ SwitchToBlock block ∷ []) 0 0 0 0
entry_made block Values = refl
entry_made block Instructions = refl
entry_made block Blocks = refl
entry_made block JumpTables = refl
entry_made block _ = refl

jump_made : (target : Name) → Makes (jump (bare_edge target) ∷ []) 0 1 0 0
jump_made target Values = refl
jump_made target Instructions = refl
jump_made target Blocks = refl
jump_made target JumpTables = refl
jump_made target _ = refl

branch_made : (ty : «Type») (x taken other : Name) → Makes (branching ty x taken other ∷ []) 0 1 0 0
branch_made ty x taken other Values = refl
branch_made ty x taken other Instructions = refl
branch_made ty x taken other Blocks = refl
branch_made ty x taken other JumpTables = refl
branch_made ty x taken other _ = refl

table_branch_made : (tables : ℕ) (x : Name) (targets : List Name) → Makes (Build (ServedBy tables ∷ []) (table_branch x (map bare_edge targets)) ∷ []) 0 1 0 0
table_branch_made tables x targets Values = refl
table_branch_made tables x targets Instructions = refl
table_branch_made tables x targets Blocks = refl
table_branch_made tables x targets JumpTables = refl
table_branch_made tables x targets _ = refl

edges_made : (targets : List Name) → Makes (map (λ target. MakeEdge (bare_edge target)) targets) 0 0 0 0
edges_made [] = nothing_made
edges_made (target ∷ targets) = made_then (MakeEdge (bare_edge target) ∷ []) (map (λ target. MakeEdge (bare_edge target)) targets) (edge_made target) (edges_made targets)

-- LINES -------------------------------------------------------------------------------------------------------------------

-- it has one result, and needs no constant of the function
abbrev IsSingle : Instruction Name Name → Type 0
IsSingle instruction = (length (result_types instruction.operation instruction.controlling) ≡ 1) × (constants_for instruction.operation ≡ 0)

single_made : (instruction : Instruction Name Name) → IsSingle instruction → Makes (building instruction ∷ []) 1 1 0 0
single_made instruction is Values = let one = is.0 in omega (arith, one)
single_made instruction is Instructions = refl
single_made instruction is Blocks = refl
single_made instruction is Constants = let none = is.1 in omega (arith, none)
single_made instruction is JumpTables = refl
single_made instruction is _ = refl

line_made : (line : List (Instruction Name Name)) → AllByRecursion IsSingle line → Makes (map building line) (length line) (length line) 0 0
line_made [] all table = nothing_made table
line_made (instruction ∷ line) all table =
    made_then (building instruction ∷ []) (map building line) (single_made instruction all.0) (line_made line all.1) table ∙ ap (λ (n : ℕ). so_many n n 0 0 table) (longer (length line))
  where
    longer : (n : ℕ) → 1 + n ≡ suc n
    longer n = omega arith

-- at most so many instructions of one result each
record Short (most : ℕ) (line : List (Instruction Name Name)) : Type 0 where
  singles : AllByRecursion IsSingle line
  short : length line ≤ most

short_few : (most : ℕ) (line : List (Instruction Name Name)) → Short most line → Few (map building line) most most 0 0
short_few most line is = few (map building line) most most 0 0 is.short is.short (omega arith) (omega arith) (line_made line is.singles)

one_more : (most : ℕ) (line : List (Instruction Name Name)) (last : Instruction Name Name) → Short most line → IsSingle last → Short (suc most) (line ++ last ∷ [])
one_more most line last is single = record {
  singles = all_push line is.singles;
  short = let long = length-append line (last ∷ []) in let short = is.short in omega (arith, long, short);
}
  where
    all_push : (xs : List (Instruction Name Name)) → AllByRecursion IsSingle xs → AllByRecursion IsSingle (xs ++ last ∷ [])
    all_push [] all = (single, tt)
    all_push (x ∷ xs) all = (all.0, all_push xs all.1)

constant_short : (ty : «Type») (imm : ℤ) (place : ℕ) → Short 2 (constant_instructions ty imm place)
constant_short (type.Lane lane.I128) imm place = record { singles = ((refl, refl), ((refl, refl), tt)); short = omega arith }
constant_short (type.Lane lane.I8) imm place = record { singles = ((refl, refl), tt); short = omega arith }
constant_short (type.Lane lane.I16) imm place = record { singles = ((refl, refl), tt); short = omega arith }
constant_short (type.Lane lane.I32) imm place = record { singles = ((refl, refl), tt); short = omega arith }
constant_short (type.Lane lane.I64) imm place = record { singles = ((refl, refl), tt); short = omega arith }
constant_short (type.Lane lane.F16) imm place = record { singles = ((refl, refl), tt); short = omega arith }
constant_short (type.Lane lane.F32) imm place = record { singles = ((refl, refl), tt); short = omega arith }
constant_short (type.Lane lane.F64) imm place = record { singles = ((refl, refl), tt); short = omega arith }
constant_short (type.Lane lane.F128) imm place = record { singles = ((refl, refl), tt); short = omega arith }
constant_short type.Invalid imm place = record { singles = ((refl, refl), tt); short = omega arith }
constant_short (type.Vector l k) imm place = record { singles = ((refl, refl), tt); short = omega arith }

number_short : (ty : «Type») (number place : ℕ) → Short 3 (number_instructions ty number place)
number_short ty number place = by (is_composed ty number)
  where
    by : (composed : Bool) → Short 3 (if composed
        then computing (Iconst (signed_64 number)) i64 [] ∷ computing (Iconst (signed_64 (number / 2 ^ 64))) i64 []
        ∷ computing Concat i64 (answer_of place 1 ∷ answer_of (suc place) 1 ∷ []) ∷ []
        else constant_instructions ty (signed_64 number) place)
    by true = record { singles = ((refl, refl), ((refl, refl), ((refl, refl), tt))); short = omega arith }
    by false = let is = constant_short ty (signed_64 number) place in let few = is.short in record { singles = is.singles; short = omega (arith, few) }

-- one that isn't composed
small_short : (ty : «Type») (place : ℕ) → Short 2 (number_instructions ty (2 ^ 32 - 1) place)
small_short ty place = by (is_widest ty)
  where
    by : (widest : Bool) → Short 2 (if widest && nat_le (2 ^ 63) (2 ^ 32 - 1)
        then computing (Iconst (signed_64 (2 ^ 32 - 1))) i64 [] ∷ computing (Iconst (signed_64 ((2 ^ 32 - 1) / 2 ^ 64))) i64 []
        ∷ computing Concat i64 (answer_of place 1 ∷ answer_of (suc place) 1 ∷ []) ∷ []
        else constant_instructions ty (signed_64 (2 ^ 32 - 1)) place)
    by true = constant_short ty (signed_64 (2 ^ 32 - 1)) place
    by false = constant_short ty (signed_64 (2 ^ 32 - 1)) place

-- arithmetic of one result on a number
with_number_short : (arithmetic : Arithmetic) (ty : «Type») (number place : ℕ) (x : Name) → ((operands : List Name) → IsSingle (computing arithmetic ty operands))
    → Short 4 (with_number arithmetic ty number place x)
with_number_short arithmetic ty number place x single =
    one_more 3 (number_instructions ty number place) (computing arithmetic ty (x ∷ number_name ty number place ∷ [])) (number_short ty number place) (single (x ∷ number_name ty number place ∷ []))

difference_short : (ty : «Type») (first place : ℕ) (x : Name) → Short 4 (difference ty first place x)
difference_short ty zero place x = record { singles = tt; short = omega arith }
difference_short ty (suc n) place x = by (is_subtracted ty (suc n))
  where
    by : (subtracted : Bool) → Short 4 (if subtracted then with_number (Binary Isub) ty (suc n) place x
        else constant_instructions ty (negated_64 (suc n)) place ++ computing (Binary Iadd) ty (x ∷ constant_name ty place ∷ []) ∷ [])
    by true = with_number_short (Binary Isub) ty (suc n) place x (λ operands. (refl, refl))
    by false =
        let is = one_more 2 (constant_instructions ty (negated_64 (suc n)) place) (computing (Binary Iadd) ty (x ∷ constant_name ty place ∷ []))
        (constant_short ty (negated_64 (suc n)) place) (refl, refl) in
        let short = is.short in record { singles = is.singles; short = omega (arith, short) }

-- TESTS -------------------------------------------------------------------------------------------------------------------

compared_few : (s : Switched) (condition : IntCC) (number place : ℕ) (taken other : Name) → Few (compared s condition number place taken other) 4 5 0 0
compared_few s condition number place taken other =
    few_then 4 4 0 0 0 1 0 0 (map building (with_number (Compare condition) s.ty number place s.value)) (branching i8 (with_number_name s.ty number place) taken other ∷ [])
    (short_few 4 (with_number (Compare condition) s.ty number place s.value) (with_number_short (Compare condition) s.ty number place s.value (λ operands. (refl, refl))))
    (few (branching i8 (with_number_name s.ty number place) taken other ∷ []) 0 1 0 0 (omega arith) (omega arith) (omega arith) (omega arith)
    (branch_made i8 (with_number_name s.ty number place) taken other))

-- the index of a table's branch
index_few : (s : Switched) (place : ℕ) (x : Name) → Few (index_calls s place x) 4 5 1 0
index_few s place x = by (nat_lt 32 (bits_of s.ty)) (nat_lt (bits_of s.ty) 32)
  where
    line : List (Instruction Name Name)
    line = with_number (Compare cc.UnsignedGreaterThan) s.ty (2 ^ 32 - 1) (suc place) x

    line_short : Short 3 line
    line_short =
        one_more 2 (number_instructions s.ty (2 ^ 32 - 1) (suc place)) (computing (Compare cc.UnsignedGreaterThan) s.ty (x ∷ number_name s.ty (2 ^ 32 - 1) (suc place) ∷ []))
        (small_short s.ty (suc place)) (refl, refl)

    branch : Script
    branch = branching i8 (with_number_name s.ty (2 ^ 32 - 1) (suc place)) s.otherwise (answer_of place 0) ∷ []

    entry : Script
    entry = SealBlock (answer_of place 0) ∷ SwitchToBlock (answer_of place 0) ∷ []

    reduced : Script
    reduced = building (computing (Convert Ireduce) i32 (x ∷ [])) ∷ []

    behind : Few (branch ++ (entry ++ reduced)) 1 2 0 0
    behind = few (branch ++ (entry ++ reduced)) 1 2 0 0 (omega arith) (omega arith) (omega arith) (omega arith)
        (made_then branch (entry ++ reduced) (branch_made i8 (with_number_name s.ty (2 ^ 32 - 1) (suc place)) s.otherwise (answer_of place 0))
        (made_then entry reduced (entry_made (answer_of place 0)) (single_made (computing (Convert Ireduce) i32 (x ∷ [])) (refl, refl))))

    wide : Few (CreateBlock ∷ (map building line ++ (branch ++ (entry ++ reduced)))) 4 5 1 0
    wide = few_then 0 0 1 0 4 5 0 0 (CreateBlock ∷ []) (map building line ++ (branch ++ (entry ++ reduced)))
        (few (CreateBlock ∷ []) 0 0 1 0 (omega arith) (omega arith) (omega arith) (omega arith) block_made)
        (few_then 3 3 0 0 1 2 0 0 (map building line) (branch ++ (entry ++ reduced)) (short_few 3 line line_short) behind)

    by : (is_wide narrow : Bool) → Few (if is_wide then CreateBlock ∷ (map building line ++ (branch ++ (entry ++ reduced)))
        else (if narrow then building (computing (Convert Uextend) i32 (x ∷ [])) ∷ [] else [])) 4 5 1 0
    by true narrow = wide
    by false true = few (building (computing (Convert Uextend) i32 (x ∷ [])) ∷ []) 4 5 1 0 (omega arith) (omega arith) (omega arith) (omega arith) (single_made (computing (Convert Uextend) i32 (x ∷ [])) (refl, refl))
    by false false = few [] 4 5 1 0 (omega arith) (omega arith) (omega arith) (omega arith) nothing_made

block_few : (n : Next) → Few (block_for n) 0 0 (length (number_of n)) 0
block_few next.Otherwise = few [] 0 0 0 0 (omega arith) (omega arith) (omega arith) (omega arith) nothing_made
block_few (next.Node number) = few (CreateBlock ∷ []) 0 0 1 0 (omega arith) (omega arith) (omega arith) (omega arith) block_made

table_few : (s : Switched) (tables : ℕ) (range : CaseRange) (place : ℕ) → Few (table_calls s tables range place) 8 10 1 1
table_few s tables range place =
    few_then 8 9 1 1 0 1 0 0 ((edges ++ (table ++ map building line)) ++ index) branch
    (few_then 4 4 0 1 4 5 1 0 (edges ++ (table ++ map building line)) index
    (few_then 0 0 0 0 4 4 0 1 edges (table ++ map building line)
    (few edges 0 0 0 0 (omega arith) (omega arith) (omega arith) (omega arith) (edges_made (table_targets s range)))
    (few_then 0 0 0 1 4 4 0 0 table (map building line)
    (few table 0 0 0 1 (omega arith) (omega arith) (omega arith) (omega arith) (table_made (answer_of place 0) (answers_of (suc place) (length range.blocks.items))))
    (short_few 4 line (difference_short s.ty range.first behind s.value))))
    (index_few s (behind + length line) x))
    (few branch 0 1 0 0 (omega arith) (omega arith) (omega arith) (omega arith) (table_branch_made tables (index_name s (behind + length line) x) (table_targets s range)))
  where
    behind : ℕ
    behind = place + suc (length (table_targets s range))

    line : List (Instruction Name Name)
    line = difference s.ty range.first behind s.value

    x : Name
    x = difference_name s.ty range.first behind s.value

    edges : Script
    edges = map (λ target. MakeEdge (bare_edge target)) (table_targets s range)

    table : Script
    table = MakeJumpTable (answer_of place 0) (answers_of (suc place) (length range.blocks.items)) ∷ []

    index : Script
    index = index_calls s (behind + length line) x

    branch : Script
    branch = Build (ServedBy tables ∷ []) (table_branch (index_name s (behind + length line) x) (map bare_edge (table_targets s range))) ∷ []

test_few : (s : Switched) (tables : ℕ) (t : Test) (place : ℕ) (table : Table) → made_by_script (test_calls s tables t place) table ≤ test_makes t table
test_few s tables test.Nothing place table = few (test_calls s tables test.Nothing place) 0 1 0 0 (omega arith) (omega arith) (omega arith) (omega arith) (jump_made s.otherwise) table
test_few s tables (test.OneKey range other) place table = by (range.now.first == 0)
  where
    code : Bool → Script
    code zero_is = if zero_is then branching s.ty s.value (name_for s other place) (first_block s range.now) ∷ []
        else compared s cc.Equal range.now.first (place + length (block_for other)) (first_block s range.now) (name_for s other place)

    code_few : (zero_is : Bool) → Few (code zero_is) 4 5 0 0
    code_few true = few (code true) 4 5 0 0 (omega arith) (omega arith) (omega arith) (omega arith) (branch_made s.ty s.value (name_for s other place) (first_block s range.now))
    code_few false = compared_few s cc.Equal range.now.first (place + length (block_for other)) (first_block s range.now) (name_for s other place)

    by : (zero_is : Bool) → made_by_script (block_for other ++ code zero_is) table ≤ test_makes (test.OneKey range other) table
    by zero_is =
        let is = few_then 0 0 (length (number_of other)) 0 4 5 0 0 (block_for other) (code zero_is) (block_few other) (code_few zero_is) table in
        let same = more_many (0 + 4) (0 + 5) (length (number_of other) + 0) (0 + 0) 4 5 (length (number_of other)) 0 (omega arith) (omega arith) (omega arith) (omega arith) table in
        omega (arith, is, same)
test_few s tables (test.NotBelow first above other) place table =
    let code : Script = compared s cc.UnsignedGreaterThanOrEqual first (place + suc (length (block_for other))) (answer_of (place + length (block_for other)) 0) (name_for s other place) in
    let is = few_then 0 0 (length (number_of other)) 0 4 5 1 0 (block_for other) (CreateBlock ∷ code) (block_few other)
    (few_then 0 0 1 0 4 5 0 0 (CreateBlock ∷ []) code (few (CreateBlock ∷ []) 0 0 1 0 (omega arith) (omega arith) (omega arith) (omega arith) block_made)
    (compared_few s cc.UnsignedGreaterThanOrEqual first (place + suc (length (block_for other))) (answer_of (place + length (block_for other)) 0) (name_for s other place))) table in
    let same = more_many (0 + 4) (0 + 5) (length (number_of other) + 1) (0 + 0) 4 5 (suc (length (number_of other))) 0 (omega arith) (omega arith) (omega arith) (omega arith) table in
    omega (arith, is, same)
test_few s tables (test.Table range) place table = table_few s tables range.now place table

-- NODES -------------------------------------------------------------------------------------------------------------------

entering_few : (blocks : List Name) (number : ℕ) (table : Table) → made_by_script (entering blocks number) table ≡ 0
entering_few blocks zero table = refl
entering_few blocks (suc number) table = entry_made (slice_index_or blocks number (answer_of 0 0)) table ∙ none_many table

calls_few : (s : Switched) (blocks : List Name) (tables : ℕ) (nodes : List Node) (place : ℕ) (table : Table) → made_by_script (nodes_calls s blocks tables nodes place) table ≤ nodes_make nodes table
calls_few s blocks tables [] place table = omega arith
calls_few s blocks tables (node ∷ nodes) place table =
    let entry : Script = entering blocks node.number in
    let code : Script = test_calls s tables node.test (place + length entry) in
    let rest : Script = nodes_calls s (blocks_with blocks node place) (tables + tables_of node.test) nodes (place + length (node_calls s blocks tables node place)) in
    let whole = made_both (entry ++ code) rest table in
    let both = made_both entry code table in
    let none = entering_few blocks node.number table in
    let one = test_few s tables node.test (place + length entry) table in
    let later = calls_few s (blocks_with blocks node place) (tables + tables_of node.test) nodes (place + length (node_calls s blocks tables node place)) table in
    omega (arith, whole, both, none, one, later)

-- how many nodes are named first by these
abbrev named_in : List Node → ℕ
named_in [] = 0
named_in (node ∷ nodes) = length (named_by node.test) + named_in nodes

one_makes : (t : Test) (table : Table) → test_makes t table ≤ so_many (4 + 4 * tables_of t) (5 + 5 * tables_of t) (length (named_by t) + tables_of t) (tables_of t) table
one_makes test.Nothing table = more_many 0 1 0 0 4 5 0 0 (omega arith) (omega arith) (omega arith) (omega arith) table
one_makes (test.OneKey range other) table =
    more_many 4 5 (length (number_of other)) 0 4 5 (length (number_of other) + 0) 0 (omega arith) (omega arith) (omega arith) (omega arith) table
one_makes (test.NotBelow first above other) table =
    more_many 4 5 (suc (length (number_of other))) 0 4 5 (length (number_of other ++ above ∷ []) + 0) 0 (omega arith) (omega arith)
    (let long = length-append (number_of other) (above ∷ []) in omega (arith, long)) (omega arith) table
one_makes (test.Table range) table = more_many 8 10 1 1 8 10 1 1 (omega arith) (omega arith) (omega arith) (omega arith) table

all_make : (nodes : List Node) (table : Table)
    → nodes_make nodes table ≤ so_many (4 * length nodes + 4 * table_total nodes) (5 * length nodes + 5 * table_total nodes) (named_in nodes + table_total nodes) (table_total nodes) table
all_make [] table = omega arith
all_make (node ∷ nodes) table =
    let one = one_makes node.test table in
    let rest = all_make nodes table in
    let n : ℕ = length nodes in let k : ℕ = tables_of node.test in let t : ℕ = table_total nodes in let m : ℕ = length (named_by node.test) in let a : ℕ = named_in nodes in
    let sum = both_many (4 + 4 * k) (5 + 5 * k) (m + k) k (4 * n + 4 * t) (5 * n + 5 * t) (a + t) t table in
    let same = more_many (4 + 4 * k + (4 * n + 4 * t)) (5 + 5 * k + (5 * n + 5 * t)) (m + k + (a + t)) (k + t)
    (4 * suc n + 4 * (k + t)) (5 * suc n + 5 * (k + t)) (m + a + (k + t)) (k + t) (omega arith) (omega arith) (omega arith) (omega arith) table in
    omega (arith, one, rest, sum, same)

-- each node but the first is named by an earlier one
named_once : (waiting : List ℕ) (following : ℕ) (nodes : List Node) → AreInOrder waiting following nodes → length waiting + named_in nodes ≡ length nodes
named_once waiting following [] order = let none = ap length order in omega (arith, none)
named_once waiting following (node ∷ nodes) (rest, is, numbers, order) =
    let first = ap length is in
    let later = named_once (reverse (named_by node.test) ++ rest) (following + length (named_by node.test)) nodes order in
    let both = length-append (reverse (named_by node.test)) rest in
    let same = length-reverse (named_by node.test) in
    omega (arith, first, later, both, same)

-- without ranges nothing is tested
abbrev IsIdle : Test → Type 0
IsIdle t = (table : Table) → test_makes t table ≡ so_many 0 1 0 0 table

idle_test : (t : Test) → IsTestOf [] t → IsIdle t
idle_test test.Nothing is table = refl
idle_test (test.OneKey range other) is table = absurd (omega (arith, is.0.1))
idle_test (test.NotBelow first above other) is table = absurd (omega (arith, is.1.1))
idle_test (test.Table range) is table = absurd (omega (arith, is.0.1))

idle_make : (nodes : List Node) → AllByRecursion (λ node. IsTestOf [] node.test) nodes → (table : Table) → nodes_make nodes table ≡ so_many 0 (length nodes) 0 0 table
idle_make [] all table = sym (none_many table)
idle_make (node ∷ nodes) all table =
    ap₂ (λ (m n : ℕ). m + n) (idle_test node.test all.0 table) (idle_make nodes all.1 table) ∙ both_many 0 1 0 0 0 (length nodes) 0 0 table ∙ ap (λ (n : ℕ). so_many 0 n 0 0 table) (longer (length nodes))
  where
    longer : (n : ℕ) → 1 + n ≡ suc n
    longer n = omega arith

-- KEYS --------------------------------------------------------------------------------------------------------------------

abbrev if_long : Bool → ℕ
if_long long = cond long 1 0

abbrev long_in : List CaseRange → ℕ
long_in [] = 0
long_in (range ∷ ranges) = if_long (is_long range) + long_in ranges

long_counted : (ranges : List CaseRange) → long_in ranges ≡ count_by is_long ranges
long_counted ranges = is_sum_by long_in (λ r. if_long (is_long r)) refl (λ range more. refl) ranges

enumerated : {X : Type 0} (first : ℕ) (xs : List X) → length (enumerate_from first xs) ≡ length xs
enumerated first [] = refl
enumerated first (x ∷ xs) = ap suc (enumerated (first + 1) xs)

-- a key for each range, and two for a longer one
keys_enough : (ranges : List CaseRange) → AllByRecursion (λ range. 0 < length range.blocks.items) ranges → length ranges + long_in ranges ≤ length (flat_map cases_of ranges)
keys_enough [] filled = omega arith
keys_enough (range ∷ ranges) filled =
    let rest = keys_enough ranges filled.1 in
    let both = length-append (cases_of range) (flat_map cases_of ranges) in
    let many = enumerated range.first range.blocks.items in
    let one = by (is_long range) refl in
    omega (arith, rest, both, many, one)
  where
    by : (c : Bool) → is_long range ≡ c → 1 + if_long (is_long range) ≤ length range.blocks.items
    by true is = let long : 1 < length range.blocks.items = grind (arith, nat_tests) in let one = ap if_long is in omega (arith, long, one)
    by false is = let some = filled.0 in let none = ap if_long is in omega (arith, some, none)

enough : (n t k size named : ℕ) → 0 < n → size ≤ max 1 (2 * n + t) → 1 + named ≡ size → n + t ≤ k → (table : Table)
    → so_many (4 * size + 4 * t) (5 * size + 5 * t) (named + t) t table ≤ switch_makes k table
enough n t k size named some small order many table =
    more_many (4 * size + 4 * t) (5 * size + 5 * t) (named + t) t (8 * k) (10 * k + 1) (2 * k) k (omega (arith, small, many, some)) (omega (arith, small, many, some)) (omega (arith, small, many, some, order))
    (omega (arith, many)) table

nodes_few : (entries : List (ℕ × ℕ)) (ranges : List CaseRange) (nodes : List Node) → AreRangesOf entries ranges → AreTestsOf ranges nodes → AreInOrder (0 ∷ []) 1 nodes → AreFew ranges nodes
    → (table : Table) → nodes_make nodes table ≤ switch_makes (length entries) table
nodes_few entries [] nodes are tests order small table =
    let is = idle_make nodes tests.tests table in
    let less = more_many 0 (length nodes) 0 0 (8 * length entries) (10 * length entries + 1) (2 * length entries) (length entries) (omega arith) (omega (arith, small)) (omega arith) (omega arith) table in
    omega (arith, is, less)
nodes_few entries (range ∷ ranges) nodes are tests order small table =
    let filled = recursion_from_All (λ r. 0 < length r.blocks.items) (range ∷ ranges) are.filled in
    let many = keys_enough (range ∷ ranges) filled in
    let all = ap length are.cases in
    let same = long_counted (range ∷ ranges) in
    let told = total_counts nodes in
    let counted = tests.tables in
    let is = all_make nodes table in
    let less = enough (length (range ∷ ranges)) (table_total nodes) (length entries) (length nodes) (named_in nodes) (omega arith) (omega (arith, small, same, told, counted))
    (named_once (0 ∷ []) 1 nodes order) (omega (arith, many, all, same, told, counted)) table in
    omega (arith, is, less)

pub switch_calls_are_few : SwitchCallsAreFew
switch_calls_are_few s cases ranges nodes searches small =
    let keys : length (case_keys cases) ≡ length (finite.entries cases) = length-map (finite.entries cases) (λ case. case.0) in
    let nodes_are : (table : Table) → nodes_make nodes table ≤ switch_makes (length (case_keys cases)) table =
    (λ table. subst (λ (k : ℕ). nodes_make nodes table ≤ switch_makes k table) (sym keys)
    (nodes_few (finite.entries cases) ranges nodes searches.ranges_for.ranges_of searches.tests searches.order small table)) in
    record {
      nodes_few = nodes_are;
      calls_few = λ blocks tables place table.
          let calls = calls_few s blocks tables nodes place table in let less = nodes_are table in omega (arith, calls, less);
    }
