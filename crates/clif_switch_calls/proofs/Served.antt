-- The jump tables of a switch.
use Rattle.std.proofs.Common.{◌≡◌, ◌+◌, ℕ, zero, suc, Bool, true, false, List, [], ◌∷◌, ◌++◌, length, map, refl, sym, ◌∙◌, ap, arith, append_assoc, append-nil, length-append, None, Some, Option, cond}
use Rattle.std.specs.Prelude.{◌^◌, ◌-◌, fold, if◌then◌else◌, nat_lt, replicate, slice_set, ◌==◌}
use Rattle.std.specs.List.{AllByRecursion, count_by}
use Rattle.std.proofs.lemmas.List.{replicate-append-replicate}
use Rattle.std.proofs.lemmas.List.Recursion.{is_count_by}
use Rattle.clif_types.specs.declared.condcodes.IntCC.{IntCC}
use Rattle.clif_types.specs.declared.condcodes.IntCC.TheVariants as cc
use Rattle.clif_types.specs.Types.{bits_of}
use Rattle.clif_ranges.specs.declared.ranges.CaseRange.{CaseRange}
use Rattle.clif_ranges.specs.declared.search.Next.{Next}
use Rattle.clif_ranges.specs.declared.search.Next.TheVariants as next
use Rattle.clif_ranges.specs.declared.search.Node.{Node}
use Rattle.clif_ranges.specs.declared.search.Test.{Test}
use Rattle.clif_ranges.specs.declared.search.Test.TheVariants as test
use Rattle.clif_ranges.specs.Search.{is_table}
use Rattle.clif_meaning.specs.Acceptance.{table_branch}
use Rattle.clif_meaning.specs.Instruction.{Compare, Convert, Edge, Instruction}
use Rattle.clif_meaning.specs.Ledger.{Ledger, edges_named, ledger_with}
use Rattle.clif_meaning.specs.Name.{Name, answer_of}
use Rattle.clif_meaning.specs.Request.{Request, CreateBlock, SwitchToBlock, SealBlock, MakeEdge, MakeJumpTable, Build, ServedBy, Script}
use Rattle.clif_opcodes.specs.declared.opcodes.ConvertOpcode.TheVariants.{Ireduce}
use Rattle.clif_expansion.specs.Constants.{computing}
use Rattle.clif_expansion.specs.Emission.{building}
use Rattle.clif_switch_calls.proofs.Basics.{all_both, fold_both}
use Rattle.clif_switch_calls.proofs.Tables.{IndexCalls}
use Rattle.clif_switch_calls.specs.SwitchCalls.{Switched, i8, i32, answers_of, bare_edge, block_for, blocks_with, compared, difference, difference_name, entering, first_block, branching, name_for, index_calls, index_name, node_calls, nodes_calls, table_calls, table_targets, tables_of, test_calls, with_number, with_number_name}

-- it leaves jump tables as they are
abbrev IsIdle : Request → Type 0
IsIdle CreateBlock = Unit {0}
IsIdle (SwitchToBlock block) = Unit {0}
IsIdle (SealBlock block) = Unit {0}
IsIdle (MakeEdge edge) = Unit {0}
IsIdle (Build [] instruction) = Unit {0}
IsIdle _ = ⊥

abbrev Idle : Script → Type 0
Idle script = AllByRecursion IsIdle script

idle_once : (request : Request) (ledger : Ledger) → IsIdle request → (ledger_with ledger request).jump_tables ≡ ledger.jump_tables
idle_once CreateBlock ledger is = refl
idle_once (SwitchToBlock block) ledger is = refl
idle_once (SealBlock block) ledger is = refl
idle_once (MakeEdge edge) ledger is = refl
idle_once (Build [] instruction) ledger is = refl
idle_once _ ledger is = absurd is

idle_kept : (script : Script) (ledger : Ledger) → Idle script → (fold ledger_with ledger script).jump_tables ≡ ledger.jump_tables
idle_kept [] ledger idle = refl
idle_kept (request ∷ script) ledger idle = idle_kept script (ledger_with ledger request) idle.1 ∙ idle_once request ledger idle.0

idle_line : (code : List (Instruction Name Name)) → Idle (map building code)
idle_line [] = tt
idle_line (first ∷ code) = (tt, idle_line code)

idle_edges : (targets : List Name) → Idle (map (λ target. MakeEdge (bare_edge target)) targets)
idle_edges [] = tt
idle_edges (target ∷ targets) = (tt, idle_edges targets)

idle_block : (other : Next) → Idle (block_for other)
idle_block next.Otherwise = tt
idle_block (next.Node n) = (tt, tt)

abbrev Held : Type 0
Held = Option (List (Edge Name Name))

set_last : (tables : List Held) (held : Held) → slice_set (tables ++ held ∷ []) (length tables) None ≡ tables ++ None ∷ []
set_last [] held = refl
set_last (first ∷ tables) held = ap (λ (rest : List Held). first ∷ rest) (set_last tables held)

abbrev nones : ℕ → List Held
nones n = replicate n None

none_both : (n m : ℕ) → nones n ++ nones m ≡ nones (n + m)
none_both n m = replicate-append-replicate n m None

-- how many tables nodes have
abbrev pub table_total : List Node → ℕ
table_total [] = 0
table_total (node ∷ nodes) = tables_of node.test + table_total nodes

pub total_counts : (nodes : List Node) → table_total nodes ≡ count_by is_table nodes
total_counts nodes = is_count_by table_total is_table refl (λ node more. one node.test (table_total more)) nodes
  where
    one : (t : Test) (n : ℕ) → tables_of t + n ≡ cond (is_table (record { number = 0; test = t })) (1 + n) n
    one test.Nothing n = omega arith
    one (test.OneKey range other) n = omega arith
    one (test.NotBelow first above other) n = omega arith
    one (test.Table range) n = refl

module _ (s : Switched) where
  idle_compared : (condition : IntCC) (number place : ℕ) (taken other : Name) → Idle (compared s condition number place taken other)
  idle_compared condition number place taken other =
      all_both IsIdle (map building (with_number (Compare condition) s.ty number place s.value)) (branching i8 (with_number_name s.ty number place) taken other ∷ [])
      (idle_line (with_number (Compare condition) s.ty number place s.value)) (tt, tt)

  idle_index : (place : ℕ) (x : Name) → Idle (index_calls s place x)
  idle_index place x = by (nat_lt 32 (bits_of s.ty)) (nat_lt (bits_of s.ty) 32)
    where
      by : (c d : Bool) → Idle (IndexCalls s c d place x)
      by true d = all_both IsIdle (CreateBlock ∷ map building (with_number (Compare cc.UnsignedGreaterThan) s.ty (2 ^ 32 - 1) (suc place) x)) (branching i8 (with_number_name s.ty (2 ^ 32 - 1) (suc place)) s.otherwise (answer_of place 0)
          ∷ SealBlock (answer_of place 0) ∷ SwitchToBlock (answer_of place 0) ∷ building (computing (Convert Ireduce) i32 (x ∷ [])) ∷ [])
          (tt, idle_line (with_number (Compare cc.UnsignedGreaterThan) s.ty (2 ^ 32 - 1) (suc place) x)) (tt, (tt, (tt, (tt, tt))))
      by false true = (tt, tt)
      by false false = tt

  table_served : (tables place : ℕ) (range : CaseRange) (ledger : Ledger) → length ledger.jump_tables ≡ tables
      → (fold ledger_with ledger (table_calls s tables range place)).jump_tables ≡ ledger.jump_tables ++ None ∷ []
  table_served tables place range ledger count =
      let behind : ℕ = place + suc (length (table_targets s range)) in
      let line : List (Instruction Name Name) = difference s.ty range.first behind s.value in
      let x : Name = difference_name s.ty range.first behind s.value in
      let edges : Script = map (λ target. MakeEdge (bare_edge target)) (table_targets s range) in
      let default : Name = answer_of place 0 in
      let entries : List Name = answers_of (suc place) (length range.blocks.items) in
      let making : Request = MakeJumpTable default entries in
      let index : Script = index_calls s (behind + length line) x in
      let last : Request = Build (ServedBy tables ∷ []) (table_branch (index_name s (behind + length line) x) (map bare_edge (table_targets s range))) in
      let linked : Ledger = fold ledger_with ledger edges in
      let made : Ledger = ledger_with linked making in
      let before : Ledger = fold ledger_with ledger (edges ++ making ∷ map building line ++ index) in
      let there : before.jump_tables ≡ ledger.jump_tables ++ Some (edges_named linked (default ∷ entries)) ∷ [] =
      ap (λ (l : Ledger). l.jump_tables) (fold_both ledger_with (edges ++ making ∷ map building line) index ledger)
      ∙ idle_kept index (fold ledger_with ledger (edges ++ making ∷ map building line)) (idle_index (behind + length line) x)
      ∙ ap (λ (l : Ledger). l.jump_tables) (fold_both ledger_with edges (making ∷ map building line) ledger)
      ∙ idle_kept (map building line) made (idle_line line)
      ∙ ap (λ (tables : List Held). tables ++ Some (edges_named linked (default ∷ entries)) ∷ []) (idle_kept edges ledger (idle_edges (table_targets s range))) in
      ap (λ (l : Ledger). l.jump_tables) (fold_both ledger_with (edges ++ making ∷ map building line ++ index) (last ∷ []) ledger)
      ∙ ap (λ (held : List Held). slice_set held tables None) there
      ∙ ap (λ (n : ℕ). slice_set (ledger.jump_tables ++ Some (edges_named linked (default ∷ entries)) ∷ []) n None) (sym count)
      ∙ set_last ledger.jump_tables (Some (edges_named linked (default ∷ entries)))

  test_served : (tables : ℕ) (t : Test) (place : ℕ) (ledger : Ledger) → length ledger.jump_tables ≡ tables
      → (fold ledger_with ledger (test_calls s tables t place)).jump_tables ≡ ledger.jump_tables ++ replicate (tables_of t) None
  test_served tables test.Nothing place ledger count = sym (append-nil ledger.jump_tables)
  test_served tables (test.OneKey range other) place ledger count =
      idle_kept (test_calls s tables (test.OneKey range other) place) ledger (all_both IsIdle (block_for other) _ (idle_block other) (by (range.now.first == 0))) ∙ sym (append-nil ledger.jump_tables)
    where
      by : (c : Bool) → Idle (if c then branching s.ty s.value (name_for s other place) (first_block s range.now) ∷ []
          else compared s cc.Equal range.now.first (place + length (block_for other)) (first_block s range.now) (name_for s other place))
      by true = (tt, tt)
      by false = idle_compared cc.Equal range.now.first (place + length (block_for other)) (first_block s range.now) (name_for s other place)
  test_served tables (test.NotBelow first above other) place ledger count =
      idle_kept (test_calls s tables (test.NotBelow first above other) place) ledger
      (all_both IsIdle (block_for other) _ (idle_block other)
      (tt, idle_compared cc.UnsignedGreaterThanOrEqual first (place + suc (length (block_for other))) (answer_of (place + length (block_for other)) 0) (name_for s other place)))
      ∙ sym (append-nil ledger.jump_tables)
  test_served tables (test.Table range) place ledger count = table_served tables place range.now ledger count

  idle_entering : (blocks : List Name) (number : ℕ) → Idle (entering blocks number)
  idle_entering blocks zero = tt
  idle_entering blocks (suc n) = (tt, (tt, tt))

  node_served : (blocks : List Name) (tables : ℕ) (node : Node) (place : ℕ) (ledger : Ledger) → length ledger.jump_tables ≡ tables
      → (fold ledger_with ledger (node_calls s blocks tables node place)).jump_tables ≡ ledger.jump_tables ++ replicate (tables_of node.test) None
  node_served blocks tables node place ledger count =
      let enter : Script = entering blocks node.number in
      let entered : Ledger = fold ledger_with ledger enter in
      let same : entered.jump_tables ≡ ledger.jump_tables = idle_kept enter ledger (idle_entering blocks node.number) in
      ap (λ (l : Ledger). l.jump_tables) (fold_both ledger_with enter (test_calls s tables node.test (place + length enter)) ledger)
      ∙ test_served tables node.test (place + length enter) entered (ap length same ∙ count)
      ∙ ap (λ (held : List Held). held ++ replicate (tables_of node.test) None) same

  nodes_served : (nodes : List Node) (blocks : List Name) (tables place : ℕ) (ledger : Ledger) → length ledger.jump_tables ≡ tables
      → (fold ledger_with ledger (nodes_calls s blocks tables nodes place)).jump_tables ≡ ledger.jump_tables ++ replicate (table_total nodes) None
  nodes_served [] blocks tables place ledger count = sym (append-nil ledger.jump_tables)
  nodes_served (node ∷ nodes) blocks tables place ledger count =
      let calls : Script = node_calls s blocks tables node place in
      let later : Script = nodes_calls s (blocks_with blocks node place) (tables + tables_of node.test) nodes (place + length calls) in
      let between : Ledger = fold ledger_with ledger calls in
      let here : between.jump_tables ≡ ledger.jump_tables ++ replicate (tables_of node.test) None = node_served blocks tables node place ledger count in
      let longer = length-append ledger.jump_tables (replicate (tables_of node.test) None) in
      let many = as_many_copies (tables_of node.test) in
      ap (λ (l : Ledger). l.jump_tables) (fold_both ledger_with calls later ledger)
      ∙ nodes_served nodes (blocks_with blocks node place) (tables + tables_of node.test) (place + length calls) between (ap length here ∙ omega (arith, longer, many, count))
      ∙ ap (λ (held : List Held). held ++ replicate (table_total nodes) None) here
      ∙ append_assoc ledger.jump_tables (replicate (tables_of node.test) None) (replicate (table_total nodes) None)
      ∙ ap (λ (held : List Held). ledger.jump_tables ++ held) (none_both (tables_of node.test) (table_total nodes))
    where
      as_many_copies : (n : ℕ) → length (nones n) ≡ n
      as_many_copies zero = refl
      as_many_copies (suc n) = ap suc (as_many_copies n)

  -- as many tables are made and served as there are nodes with one
  pub tables_served : (nodes : List Node) (place : ℕ) (ledger : Ledger)
      → (fold ledger_with ledger (nodes_calls s [] (length ledger.jump_tables) nodes place)).jump_tables ≡ ledger.jump_tables ++ replicate (count_by is_table nodes) None
  tables_served nodes place ledger =
      nodes_served nodes [] (length ledger.jump_tables) place ledger refl ∙ ap (λ (n : ℕ). ledger.jump_tables ++ replicate n None) (total_counts nodes)
