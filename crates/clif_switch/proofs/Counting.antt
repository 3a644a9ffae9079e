-- How many jump tables calls make.
use Rattle.std.proofs.Common.{◌≡◌, ◌+◌, ℕ, zero, suc, Bool, true, false, List, [], ◌∷◌, ◌++◌, length, map, refl, sym, ◌∙◌, ap, subst, arith, Option, None}
use Rattle.std.specs.Prelude.{◌==◌, ◌-◌, ◌^◌, fold, if◌then◌else◌, nat_lt, slice_set}
use Rattle.std.proofs.lemmas.List.{length-set}
use Rattle.clif_ranges.specs.declared.search.Next.{Next}
use Rattle.clif_ranges.specs.declared.search.Next.TheVariants as next
use Rattle.clif_ranges.specs.declared.search.Test.{Test}
use Rattle.clif_ranges.specs.declared.search.Test.TheVariants as test
use Rattle.clif_opcodes.specs.declared.opcodes.ConvertOpcode.TheVariants.{Ireduce}
use Rattle.clif_types.specs.Signature.{SignatureShape}
use Rattle.clif_types.specs.declared.condcodes.IntCC.{IntCC}
use Rattle.clif_types.specs.declared.condcodes.IntCC.TheVariants.{Equal, UnsignedGreaterThan, UnsignedGreaterThanOrEqual}
use Rattle.clif_types.specs.Types.{bits_of}
use Rattle.clif_meaning.specs.Acceptance.{table_branch}
use Rattle.clif_meaning.specs.Instruction.{Compare, Convert, Edge, Instruction}
use Rattle.clif_meaning.specs.Ledger.{Ledger, ledger_with, with_served}
use Rattle.clif_meaning.specs.Name.{Name, answer_of}
use Rattle.clif_meaning.specs.Request.{AnsweredCall, Request, CreateBlock, SwitchToBlock, SealBlock, MakeEdge, MakeJumpTable, Build, GivenEntry, ServedBy, TriedBy, Imported, Script, script_of}
use Rattle.clif_meaning.proofs.LedgerParts.{MakesNoJumpTable, TablesEffect, TablesStay, EntryMade, JumpTableMade, ExceptionTableMade, TablesServe, tables_effect}
use Rattle.clif_builder.specs.declared.builder.FunctionBuilder.{FunctionBuilder}
use Rattle.clif_builder.specs.Ledger.{ledger_of}
use Rattle.clif_builder.proofs.Lasting.{ledger-behind}
use Rattle.clif_expansion.specs.Constants.{computing}
use Rattle.clif_expansion.specs.Emission.{building}
use Rattle.clif_switch_calls.specs.SwitchCalls.{Switched, answers_of, bare_edge, block_for, branching, compared, difference, difference_name, entering, first_block, i8, i32, index_calls, index_name, name_for, table_targets, tables_of, test_calls, with_number, with_number_name}
use Rattle.clif_switch.specs.Emission.{StandsAt, StandsOn, tables_at}

-- how many the calls of a switch make
abbrev pub made_by : Request → ℕ
made_by (MakeJumpTable default entries) = 1
made_by _ = 0

abbrev pub made_in : Script → ℕ
made_in [] = 0
made_in (request ∷ script) = made_by request + made_in script

pub made_append : (first next : Script) → made_in (first ++ next) ≡ made_in first + made_in next
made_append [] next = omega arith
made_append (request ∷ first) next = let rest = made_append first next in omega (arith, rest)

pub made_building : (line : List (Instruction Name Name)) → made_in (map building line) ≡ 0
made_building [] = refl
made_building (instruction ∷ line) = let rest = made_building line in omega (arith, rest)

made_edges : (targets : List Name) → made_in (map (λ target. MakeEdge (record { target = target; arguments = [] })) targets) ≡ 0
made_edges [] = refl
made_edges (target ∷ targets) = let rest = made_edges targets in omega (arith, rest)

set_kept : (tables : List (Option (List (Edge Name Name)))) (entries : List GivenEntry) → length (with_served tables entries) ≡ length tables
set_kept tables [] = refl
set_kept tables (ServedBy table ∷ entries) = set_kept (slice_set tables table None) entries ∙ length-set tables table None
set_kept tables (TriedBy table ∷ entries) = set_kept tables entries
set_kept tables (Imported entry ∷ entries) = set_kept tables entries

one_longer : {X : Type 0} (xs : List X) (x : X) → length (xs ++ x ∷ []) ≡ suc (length xs)
one_longer [] x = refl
one_longer (y ∷ xs) x = ap suc (one_longer xs x)

none_more : (n : ℕ) → n ≡ 0 + n
none_more n = omega arith

one_more : (n : ℕ) → suc n ≡ 1 + n
one_more n = omega arith

made_none : (request : Request) → MakesNoJumpTable request → made_by request ≡ 0
made_none (MakeJumpTable default entries) none = absurd none
made_none _ none = refl

counted : (ledger : Ledger) (request : Request) → length (ledger_with ledger request).jump_tables ≡ made_by request + length ledger.jump_tables
counted ledger request = by (tables_effect request)
  where
    of_request : (other : Request) → request ≡ other → length (ledger_with ledger other).jump_tables ≡ made_by other + length ledger.jump_tables
        → length (ledger_with ledger request).jump_tables ≡ made_by request + length ledger.jump_tables
    of_request other is holds = subst (λ (r : Request). length (ledger_with ledger r).jump_tables ≡ made_by r + length ledger.jump_tables) (sym is) holds

    by : TablesEffect request → length (ledger_with ledger request).jump_tables ≡ made_by request + length ledger.jump_tables
    by (TablesStay none same) =
        ap length (same ledger).jump_tables ∙ none_more (length ledger.jump_tables) ∙ ap (λ (n : ℕ). n + length ledger.jump_tables) (sym (made_none request none))
    by (EntryMade entry is) = of_request _ is (none_more (length ledger.jump_tables))
    by (JumpTableMade default entries is) = of_request _ is (one_longer ledger.jump_tables _ ∙ one_more (length ledger.jump_tables))
    by (ExceptionTableMade signature normal items is) = of_request _ is (none_more (length ledger.jump_tables))
    by (TablesServe entries instruction is) = of_request _ is (set_kept ledger.jump_tables entries ∙ none_more (length ledger.jump_tables))

counted_all : (ledger : Ledger) (script : Script) → length (fold ledger_with ledger script).jump_tables ≡ made_in script + length ledger.jump_tables
counted_all ledger [] = none_more (length ledger.jump_tables)
counted_all ledger (request ∷ script) =
    let first = counted ledger request in
    let rest = counted_all (ledger_with ledger request) script in
    omega (arith, first, rest)

-- behind some calls there are as many tables more as they make
pub tables_behind : (calls added : List AnsweredCall) (script : Script) → script_of added ≡ script → length (ledger_of (calls ++ added)).jump_tables ≡ made_in script + length (ledger_of calls).jump_tables
tables_behind calls added script is =
    ap (λ (ledger : Ledger). length ledger.jump_tables) (ledger-behind calls added) ∙ counted_all (ledger_of calls) (script_of added)
    ∙ ap (λ (asked : Script). made_in asked + length (ledger_of calls).jump_tables) is

-- THE CALLS OF TESTS ------------------------------------------------------------------------------------------------------

none_wide : (s : Switched) (place : ℕ) (x : Name) → made_in (CreateBlock ∷ map building (with_number (Compare UnsignedGreaterThan) s.ty (2 ^ 32 - 1) (suc place) x)
    ++ branching i8 (with_number_name s.ty (2 ^ 32 - 1) (suc place)) s.otherwise (answer_of place 0)
    ∷ SealBlock (answer_of place 0) ∷ SwitchToBlock (answer_of place 0) ∷ building (computing (Convert Ireduce) i32 (x ∷ [])) ∷ []) ≡ 0
none_wide s place x =
    let line = made_building (with_number (Compare UnsignedGreaterThan) s.ty (2 ^ 32 - 1) (suc place) x) in
    let both = made_append (CreateBlock ∷ map building (with_number (Compare UnsignedGreaterThan) s.ty (2 ^ 32 - 1) (suc place) x))
    (branching i8 (with_number_name s.ty (2 ^ 32 - 1) (suc place)) s.otherwise (answer_of place 0)
    ∷ SealBlock (answer_of place 0) ∷ SwitchToBlock (answer_of place 0) ∷ building (computing (Convert Ireduce) i32 (x ∷ [])) ∷ []) in
    omega (arith, line, both)

by_width : (wide narrow : Bool) (first next : Script) → made_in first ≡ 0 → made_in next ≡ 0 → made_in (if wide then first else (if narrow then next else [])) ≡ 0
by_width true narrow first next one two = one
by_width false true first next one two = two
by_width false false first next one two = refl

none_indexed : (s : Switched) (place : ℕ) (x : Name) → made_in (index_calls s place x) ≡ 0
none_indexed s place x = by_width (nat_lt 32 (bits_of s.ty)) (nat_lt (bits_of s.ty) 32) _ _ (none_wide s place x) refl

made_blocks : (n : Next) → made_in (block_for n) ≡ 0
made_blocks next.Otherwise = refl
made_blocks (next.Node number) = refl

made_compared : (s : Switched) (condition : IntCC) (number place : ℕ) (taken other : Name) → made_in (compared s condition number place taken other) ≡ 0
made_compared s condition number place taken other =
    let code : List (Instruction Name Name) = with_number (Compare condition) s.ty number place s.value in
    let both = made_append (map building code) (branching i8 (with_number_name s.ty number place) taken other ∷ []) in
    let line = made_building code in
    omega (arith, both, line)

made_parts : (edges line index : Script) (table branch : Request) → made_in (edges ++ table ∷ line ++ index ++ branch ∷ []) ≡ made_in edges + made_by table + made_in line + made_in index + made_by branch
made_parts edges line index table branch =
    let one = made_append (edges ++ table ∷ line ++ index) (branch ∷ []) in
    let two = made_append (edges ++ table ∷ line) index in
    let three = made_append edges (table ∷ line) in
    omega (arith, one, two, three)

-- how many tables a test makes
pub made_tested : (s : Switched) (tables : ℕ) (t : Test) (place : ℕ) → made_in (test_calls s tables t place) ≡ tables_of t
made_tested s tables test.Nothing place = refl
made_tested s tables (test.OneKey range other) place =
    let none = made_blocks other in
    let both = made_append (block_for other) (if range.now.first == 0 then branching s.ty s.value (name_for s other place) (first_block s range.now) ∷ []
    else compared s Equal range.now.first (place + length (block_for other)) (first_block s range.now) (name_for s other place)) in
    let rest = by (range.now.first == 0) in
    omega (arith, none, both, rest)
  where
    by : (zero_is : Bool) → made_in (if zero_is then branching s.ty s.value (name_for s other place) (first_block s range.now) ∷ []
        else compared s Equal range.now.first (place + length (block_for other)) (first_block s range.now) (name_for s other place)) ≡ 0
    by true = refl
    by false = made_compared s Equal range.now.first (place + length (block_for other)) (first_block s range.now) (name_for s other place)
made_tested s tables (test.NotBelow first above other) place =
    let none = made_blocks other in
    let code : Script = compared s UnsignedGreaterThanOrEqual first (place + suc (length (block_for other))) (answer_of (place + length (block_for other)) 0) (name_for s other place) in
    let both = made_append (block_for other) (CreateBlock ∷ code) in
    let rest = made_compared s UnsignedGreaterThanOrEqual first (place + suc (length (block_for other))) (answer_of (place + length (block_for other)) 0) (name_for s other place) in
    omega (arith, none, both, rest)
made_tested s tables (test.Table range) place =
    let behind : ℕ = place + suc (length (table_targets s range.now)) in
    let line : List (Instruction Name Name) = difference s.ty range.now.first behind s.value in
    let x : Name = difference_name s.ty range.now.first behind s.value in
    made_parts (map (λ target. MakeEdge (bare_edge target)) (table_targets s range.now)) (map building line) (index_calls s (behind + length line) x)
    (MakeJumpTable (answer_of place 0) (answers_of (suc place) (length range.now.blocks.items)))
    (Build (ServedBy tables ∷ []) (table_branch (index_name s (behind + length line) x) (map bare_edge (table_targets s range.now))))
    ∙ (let edges = made_edges (table_targets s range.now) in let built = made_building line in let none = none_indexed s (behind + length line) x in omega (arith, edges, built, none))

made_entering : (blocks : List Name) (number : ℕ) → made_in (entering blocks number) ≡ 0
made_entering blocks zero = refl
made_entering blocks (suc number) = refl

-- behind calls there are as many tables more as they make
pub tables_grow : {R : Type 0} {signature : SignatureShape} {calls : List AnsweredCall} {s : Switched} {x otherwise : ℕ} {cases : List ℕ} {plain : Script} {old : FunctionBuilder R}
    (at : StandsAt signature calls s x otherwise cases plain old) (more : Script) (new : FunctionBuilder R) (on : StandsOn at more new) → tables_at on.later ≡ tables_at at + made_in more
tables_grow {calls = calls} {plain = plain} at more new on =
    let before = tables_behind calls at.added plain at.asked in
    let after = tables_behind calls on.later.added (plain ++ more) on.later.asked in
    let parts = made_append plain more in
    omega (arith, before, after, parts)
