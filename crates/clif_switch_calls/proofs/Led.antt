-- Each target of a switch is led to.
use Rattle.std.proofs.Common.{◌≡◌, ◌<◌, ◌≤◌, ◌+◌, ◌-◌, ℕ, zero, suc, Bool, true, false, List, [], ◌∷◌, ◌++◌, length, map, refl, sym, ap, subst, arith, append_assoc, inl, inr, None}
use Rattle.std.specs.Prelude.{Contains, ◌==◌, if◌then◌else◌, nat_lt, slice_get, reverse}
use Rattle.std.specs.List.{AllByRecursion}
use Rattle.std.proofs.lemmas.Bool.{ne_eqb}
use Rattle.std.proofs.lemmas.Bool.Decides.{nat_tests}
use Rattle.clif_types.specs.declared.condcodes.IntCC.{IntCC}
use Rattle.clif_types.specs.declared.condcodes.IntCC.TheVariants as cc
use Rattle.clif_ranges.specs.declared.ranges.CaseRange.{CaseRange}
use Rattle.clif_ranges.specs.declared.search.Next.{Next}
use Rattle.clif_ranges.specs.declared.search.Next.TheVariants as next
use Rattle.clif_ranges.specs.declared.search.Node.{Node}
use Rattle.clif_ranges.specs.declared.search.Test.{Test}
use Rattle.clif_ranges.specs.declared.search.Test.TheVariants as test
use Rattle.clif_ranges.specs.Search.{AreInOrder, Found, IsTestOf, block_in, goes_on, named_by, search, tested}
use Rattle.clif_ranges.proofs.Searching.{begins}
use Rattle.clif_meaning.specs.Acceptance.{table_branch}
use Rattle.clif_meaning.specs.Instruction.{Compare, Instruction}
use Rattle.clif_meaning.specs.Name.{Name, answer_of}
use Rattle.clif_meaning.specs.Request.{Request, CreateBlock, MakeEdge, MakeJumpTable, Build, ServedBy, Script}
use Rattle.clif_expansion.specs.Emission.{building}
use Rattle.clif_expansion.specs.Switching.{targets_of}
use Rattle.clif_expansion.proofs.Placing.{contained_first, contained_later}
use Rattle.clif_switch_calls.specs.SwitchCalls.{Switched, answers_of, bare_edge, block_for, blocks_with, branching, compared, difference, difference_name, entering, first_block, i8, index_calls, index_name, name_for, node_calls, nodes_calls, table_calls, table_targets, tables_of, test_calls, with_number, with_number_name}
use Rattle.clif_switch_calls.proofs.Branches.{target_of}
use Rattle.clif_switch_calls.proofs.Left.{BranchesTo}
use Rattle.clif_switch_calls.proofs.Nodes.{Fall, fall_on}
use Rattle.clif_switch_calls.proofs.Searched.{first_there}

module _ (base tables : ℕ) (targets : List Name) where
  abbrev pub To : Name → Script → Type 0
  To target script = BranchesTo base tables targets target script

  to_behind : (target : Name) (request : Request) (more : Script) → To target more → To target (request ∷ more)
  to_behind target (Build entries instruction) more to = inr to
  to_behind target _ more to = to

  to_within : (target : Name) (request : Request) (calls more : Script) → (To target calls → To target (calls ++ more)) → To target (request ∷ calls) → To target (request ∷ (calls ++ more))
  to_within target (Build entries instruction) calls more later (inl here) = inl here
  to_within target (Build entries instruction) calls more later (inr to) = inr (later to)
  to_within target _ calls more later to = later to

  pub to_right : (target : Name) (calls more : Script) → To target more → To target (calls ++ more)
  to_right target [] more to = to
  to_right target (request ∷ calls) more to = to_behind target request (calls ++ more) (to_right target calls more to)

  pub to_left : (target : Name) (calls more : Script) → To target calls → To target (calls ++ more)
  to_left target [] more to = absurd to
  to_left target (request ∷ calls) more to = to_within target request calls more (to_left target calls more) to

  -- TESTS -----------------------------------------------------------------------------------------------------------------

  module _ (s : Switched) (key : ℕ) where
    compared_to : (condition : IntCC) (number place : ℕ) (taken other target : Name) → Contains (taken ∷ other ∷ []) target → To target (compared s condition number place taken other)
    compared_to condition number place taken other target here =
        to_right target (map building (with_number (Compare condition) s.ty number place s.value)) (branching i8 (with_number_name s.ty number place) taken other ∷ []) (inl here)

    named_in : (blocks : List ℕ) (i : ℕ) → Contains (s.otherwise ∷ targets_of (map bare_edge (map s.named blocks))) (target_of s (slice_get blocks i))
    named_in [] i = contained_first s.otherwise []
    named_in (block ∷ blocks) zero =
        contained_later s.otherwise (s.named block ∷ targets_of (map bare_edge (map s.named blocks))) (s.named block) (contained_first (s.named block) (targets_of (map bare_edge (map s.named blocks))))
    named_in (block ∷ blocks) (suc i) = skip (target_of s (slice_get blocks i)) (named_in blocks i)
      where
        skip : (x : Name) → Contains (s.otherwise ∷ targets_of (map bare_edge (map s.named blocks))) x
            → Contains (s.otherwise ∷ (s.named block ∷ targets_of (map bare_edge (map s.named blocks)))) x
        skip x (zero, below, at) = (0, omega arith, at)
        skip x (suc k, below, at) = (suc (suc k), omega (arith, below), at)

    table_named : (range : CaseRange) → Contains (targets_of (map bare_edge (table_targets s range))) (target_of s (block_in range key))
    table_named range = by (nat_lt key range.first)
      where
        by : (c : Bool) → Contains (targets_of (map bare_edge (table_targets s range))) (target_of s (if c then None else slice_get range.blocks.items (key - range.first)))
        by true = contained_first s.otherwise _
        by false = named_in range.blocks.items (key - range.first)

    -- each block to which a test goes on is led to, or was reached elsewhere
    abbrev GoOn : (ℕ → Found) → Next → Script → Type 0
    GoOn from next.Otherwise more = Unit {0}
    GoOn from (next.Node n) more = To (target_of s (from n).block) more

    abbrev GoOnAll : (ℕ → Found) → Test → Script → Type 0
    GoOnAll from test.Nothing more = Unit {0}
    GoOnAll from (test.OneKey range other) more = GoOn from other more
    GoOnAll from (test.NotBelow first above other) more = GoOn from other more × To (target_of s (from above).block) more
    GoOnAll from (test.Table range) more = Unit {0}

    one_key_to : (tables' place : ℕ) (range : CaseRange) (other : Next) (target : Name) → Contains (first_block s range ∷ name_for s other place ∷ []) target → (c : Bool)
        → To target (if c then branching s.ty s.value (name_for s other place) (first_block s range) ∷ []
        else compared s cc.Equal range.first (place + length (block_for other)) (first_block s range) (name_for s other place))
    one_key_to tables' place range other target here true = inl (turned here)
      where
        turned : Contains (first_block s range ∷ name_for s other place ∷ []) target → Contains (name_for s other place ∷ first_block s range ∷ []) target
        turned (zero, below, at) = (1, omega arith, at)
        turned (suc zero, below, at) = (0, omega arith, at)
        turned (suc (suc k), below, at) = absurd (omega (arith, below))
    one_key_to tables' place range other target here false = compared_to cc.Equal range.first (place + length (block_for other)) (first_block s range) (name_for s other place) target here

    test_to : (from : ℕ → Found) (tables' : ℕ) (t : Test) (place : ℕ) (more : Script) (ranges : List CaseRange) → IsTestOf ranges t → GoOnAll from t more
        → To (target_of s (tested from t key).block) (test_calls s tables' t place ++ more)
    test_to from tables' test.Nothing place more ranges is goes = inl (contained_first s.otherwise [])
    test_to from tables' (test.OneKey range other) place more ranges is goes = by (key == range.now.first) refl other goes
      where
        calls : Next → Script
        calls o = test_calls s tables' (test.OneKey range o) place

        by : (c : Bool) → (key == range.now.first) ≡ c → (o : Next) → GoOn from o more
            → To (target_of s (if c then record { block = block_in range.now key; branches = 0 } else goes_on from o).block) (test_calls s tables' (test.OneKey range o) place ++ more)
        by true same o go =
            let equal : key ≡ range.now.first = grind (arith, nat_tests) in
            to_left _ (test_calls s tables' (test.OneKey range o) place) more
            (to_right _ (block_for o) _ (one_key_to tables' place range.now o _
            (subst (λ (x : Name). Contains (first_block s range.now ∷ name_for s o place ∷ []) x) (first_there s range.now key (omega (arith, is.1)) equal)
            (contained_first (first_block s range.now) (name_for s o place ∷ []))) (range.now.first == 0)))
        by false other_key next.Otherwise go =
            to_left s.otherwise (test_calls s tables' (test.OneKey range next.Otherwise) place) more
            (one_key_to tables' place range.now next.Otherwise s.otherwise (contained_later (first_block s range.now) (s.otherwise ∷ []) s.otherwise (contained_first s.otherwise [])) (range.now.first == 0))
        by false other_key (next.Node n) go = to_right _ (test_calls s tables' (test.OneKey range (next.Node n)) place) more go
    test_to from tables' (test.NotBelow first above other) place more ranges is goes = by (nat_lt key first) other goes.0
      where
        by : (c : Bool) (o : Next) → GoOn from o more
            → To (target_of s (if c then goes_on from o else from above).block) (test_calls s tables' (test.NotBelow first above o) place ++ more)
        by true next.Otherwise go =
            to_left s.otherwise (test_calls s tables' (test.NotBelow first above next.Otherwise) place) more
            (to_right s.otherwise (CreateBlock ∷ []) (compared s cc.UnsignedGreaterThanOrEqual first (place + 1) (answer_of (place + 0) 0) s.otherwise) (compared_to cc.UnsignedGreaterThanOrEqual first (place + 1) (answer_of (place + 0) 0) s.otherwise s.otherwise
            (contained_later (answer_of (place + 0) 0) (s.otherwise ∷ []) s.otherwise (contained_first s.otherwise []))))
        by true (next.Node n) go = to_right _ (test_calls s tables' (test.NotBelow first above (next.Node n)) place) more go
        by false o go = to_right _ (test_calls s tables' (test.NotBelow first above o) place) more goes.1
    test_to from tables' (test.Table range) place more ranges is goes =
        let target : Name = target_of s (block_in range.now key) in
        let behind : ℕ = place + suc (length (table_targets s range.now)) in
        let line : List (Instruction Name Name) = difference s.ty range.now.first behind s.value in
        let x : Name = difference_name s.ty range.now.first behind s.value in
        to_left target (table_calls s tables' range.now place) more
        (to_right target
        (map (λ target. MakeEdge (bare_edge target)) (table_targets s range.now)
        ++ MakeJumpTable (answer_of place 0) (answers_of (suc place) (length range.now.blocks.items)) ∷ map building line ++ index_calls s (behind + length line) x)
        (Build (ServedBy tables' ∷ []) (table_branch (index_name s (behind + length line) x) (map bare_edge (table_targets s range.now))) ∷ [])
        (inl (table_named range.now)))

    -- NODES ---------------------------------------------------------------------------------------------------------------

    abbrev pub AllTo : List Node → Script → List ℕ → Type 0
    AllTo nodes script numbers = AllByRecursion (λ n. To (target_of s (search nodes n key).block) script) numbers

    pub goes_on_so : (t : Test) (nodes : List Node) (script : Script) (rest : List ℕ) → AllTo nodes script (reverse (named_by t) ++ rest)
        → GoOnAll (λ later. search nodes later key) t script × AllTo nodes script rest
    goes_on_so test.Nothing nodes script rest all = (tt, all)
    goes_on_so (test.OneKey range next.Otherwise) nodes script rest all = (tt, all)
    goes_on_so (test.OneKey range (next.Node n)) nodes script rest all = (all.0, all.1)
    goes_on_so (test.NotBelow first above next.Otherwise) nodes script rest all = ((tt, all.0), all.1)
    goes_on_so (test.NotBelow first above (next.Node n)) nodes script rest all = ((all.1.0, all.0), all.1.1)
    goes_on_so (test.Table range) nodes script rest all = (tt, all)

    others_to : (node : Node) (nodes : List Node) (calls more : Script) (rest : List ℕ) (bound : ℕ) → bound ≤ node.number → Fall bound rest → AllTo nodes more rest → AllTo (node ∷ nodes) (calls ++ more) rest
    others_to node nodes calls more [] bound below fall all = tt
    others_to node nodes calls more (n ∷ rest) bound below fall all = (
      subst (λ (found : Found). To (target_of s found.block) (calls ++ more))
          (ap (λ (c : Bool). if c then tested (λ later. search nodes later key) node.test key else search nodes n key) (sym (ne_eqb node.number n (λ same. omega (arith, same, fall.0, below)))))
          (to_right (target_of s (search nodes n key).block) calls more all.0),
      others_to node nodes calls more rest n (omega (arith, fall.0, below)) fall.2 all.1,
    )

    pub node_to : (node : Node) (nodes : List Node) (blocks : List Name) (tables' place : ℕ) (more : Script) (ranges : List CaseRange) → IsTestOf ranges node.test
        → GoOnAll (λ later. search nodes later key) node.test more
        → To (target_of s (search (node ∷ nodes) node.number key).block) (node_calls s blocks tables' node place ++ more)
    node_to node nodes blocks tables' place more ranges is goes =
        let at : ℕ = place + length (entering blocks node.number) in
        subst (λ (found : Found). To (target_of s found.block) (node_calls s blocks tables' node place ++ more)) (sym (begins node nodes key))
        (subst (To (target_of s (tested (λ later. search nodes later key) node.test key).block)) (sym (append_assoc (entering blocks node.number) (test_calls s tables' node.test at) more))
        (to_right _ (entering blocks node.number) (test_calls s tables' node.test at ++ more) (test_to (λ later. search nodes later key) tables' node.test at more ranges is goes)))

    pub nodes_to : (nodes : List Node) (blocks : List Name) (tables' from place : ℕ) (waiting : List ℕ) (ranges : List CaseRange) → AreInOrder waiting from nodes → 0 < from → Fall from waiting
        → AllByRecursion (λ node. IsTestOf ranges node.test) nodes → AllTo nodes (nodes_calls s blocks tables' nodes place) waiting
    nodes_to [] blocks tables' from place waiting ranges order some fall tests = subst (AllTo [] []) (sym order) tt
    nodes_to (node ∷ nodes) blocks tables' from place waiting ranges (rest, begin, numbers, order) some fall tests =
        let falls : Fall from (node.number ∷ rest) = subst (Fall from) begin fall in
        let calls : Script = node_calls s blocks tables' node place in
        let later : Script = nodes_calls s (blocks_with blocks node place) (tables' + tables_of node.test) nodes (place + length calls) in
        let they = nodes_to nodes (blocks_with blocks node place) (tables' + tables_of node.test) (from + length (named_by node.test)) (place + length calls)
        (reverse (named_by node.test) ++ rest) ranges order (omega (arith, some)) (fall_on node.test from node.number rest numbers (omega (arith, falls.0)) some falls.2) tests.1 in
        let goes = goes_on_so node.test nodes later rest they in
        subst (AllTo (node ∷ nodes) (calls ++ later)) (sym begin)
        (node_to node nodes blocks tables' place later ranges tests.0 goes.0, others_to node nodes calls later rest node.number (omega arith) falls.2 goes.1)
