-- The plain calls of a switch are code of the switch.
use Rattle.std.proofs.Common.{◌≡◌, ◌≢◌, ◌<◌, ◌≤◌, ◌+◌, ℕ, zero, suc, Bool, true, false, List, [], ◌∷◌, ◌++◌, length, map, refl, sym, ◌∙◌, ap, subst, arith, append-nil, inl, inr, Some, None, Option}
use Rattle.std.specs.Prelude.{◌^◌, if◌then◌else◌, nat_lt, Contains, IsTrue, IfSome, fold, is_some, slice_index_or, replicate, reverse}
use Rattle.std.specs.List.{AllByRecursion}
use Rattle.std.specs.FinMap as finite
use Rattle.std.proofs.lemmas.Bool.Decides.{nat_tests}
use Rattle.std.proofs.lemmas.List.Elements.{All-contains}
use Rattle.clif_types.specs.declared.types.«Type».{«Type»}
use Rattle.clif_types.specs.Types.{bits_of}
use Rattle.clif_ranges.specs.declared.ranges.CaseRange.{CaseRange}
use Rattle.clif_ranges.specs.declared.search.Node.{Node}
use Rattle.clif_ranges.specs.declared.search.Test.{Test}
use Rattle.clif_ranges.specs.declared.search.Test.TheVariants as test
use Rattle.clif_ranges.specs.Cases.{CaseMap}
use Rattle.clif_ranges.specs.Ranges.{end_of}
use Rattle.clif_ranges.specs.Search.{Found, IsTestOf, block_of_key, first_of, named_by, search}
use Rattle.clif_ranges.proofs.Keys.{of_key, of_ranges}
use Rattle.clif_ranges.proofs.Searching.{begins, none_over}
use Rattle.clif_meaning.specs.Bits.{Bits, IsValue}
use Rattle.clif_meaning.specs.Instruction.{Edge, Instruction}
use Rattle.clif_meaning.specs.Ledger.{BlockState, Ledger, empty_ledger, has_block, is_filled, ledger_after, ledger_with, block_state}
use Rattle.clif_meaning.specs.Name.{Name, answer_of}
use Rattle.clif_meaning.specs.Program.{Item, Instruct, Program, empty_program, program_of, with_call}
use Rattle.clif_meaning.specs.Request.{Script}
use Rattle.clif_meaning.specs.World.{World}
use Rattle.clif_expansion.specs.Laying.{IsLaid, Leaving, Lays}
use Rattle.clif_expansion.specs.PerformedCalls.{HaveTypes}
use Rattle.clif_expansion.specs.Reading.{Generated, IsReadAs, ScriptName}
use Rattle.clif_expansion.specs.Switching.{GoesByKey, IsFinishedFrom, IsLedFrom, IsSpent, IsSwitchCode, LeadsToBlocks, generated_from, targets_of}
use Rattle.clif_expansion.specs.Keys.{table_count}
use Rattle.clif_expansion.specs.Walk.{IsGenerated, Surroundings}
use Rattle.clif_expansion.proofs.LedgerTypes.{types_before}
use Rattle.clif_expansion.proofs.Placing.{contained_first}
use Rattle.clif_switch_calls.specs.SwitchCalls.{Switched, bare_edge, blocks_of, first_block, nodes_calls, tables_of, test_calls}
use Rattle.clif_switch_calls.specs.SwitchLaw.{MaySwitch, SearchesCases, SwitchCallsAreCode, case_edges, case_keys, switch_calls}
use Rattle.clif_switch_calls.proofs.Basics.{fold_both}
use Rattle.clif_switch_calls.proofs.Allowed.{same_currents}
use Rattle.clif_switch_calls.proofs.Branches.{Walked, target_of}
use Rattle.clif_switch_calls.proofs.Codes.{AreTyped, Entered, code_of, entered_behind, typed_behind}
use Rattle.clif_switch_calls.proofs.Counted.{edge_found, edges_from, tables_counted}
use Rattle.clif_switch_calls.proofs.Emits.{Computes, Creates, Emits, Ends, Enters, IsFilled, Links, Ready, Stops, Tables, emits_filled}
use Rattle.clif_switch_calls.proofs.Emitted.{Aims, new_names, nodes_emit, test_finishes}
use Rattle.clif_switch_calls.proofs.LaidNodes as laid
use Rattle.clif_switch_calls.proofs.Laid.{LaysTo, ToHand}
use Rattle.clif_switch_calls.proofs.Led as led
use Rattle.clif_switch_calls.proofs.Ledgers.{HasState, emits_begin, emits_calls}
use Rattle.clif_switch_calls.proofs.Left.{BranchesTo, Ended, IsUnderWay, Standing, emits_blocks, emits_end, emits_lead}
use Rattle.clif_switch_calls.proofs.Nodes.{Fall, as_many, fall_on, goes_on_so, head_same, made_from, name_in, nodes_walk, tail_same}
use Rattle.clif_switch_calls.proofs.Plain.{AreBefore, all_typed, answered, block_before, names_of, placed, plain_blocks, value_before}
use Rattle.clif_switch_calls.proofs.Searched.{Fits, test_walks}
use Rattle.clif_switch_calls.proofs.Served.{tables_served}
use Rattle.clif_switch_calls.proofs.Targets.{case_found, fits_of, names_from, otherwise_named, range_named, target_case, targets_so}
use Rattle.clif_switch_calls.proofs.Typed.{nodes_fine}

has_state : (ledger : Ledger) (block : Name) → IsTrue (has_block ledger block) → HasState ledger block
has_state ledger block is = by (block_state ledger block) refl is
  where
    by : (o : Option BlockState) → block_state ledger block ≡ o → IsTrue (is_some o) → HasState ledger block
    by None same some = let none : ⊥ = cc in absurd none
    by (Some state) same some = (state, same)

-- READINGS ----------------------------------------------------------------------------------------------------------------

read_later : (base : ℕ) (x : Name) → base ≤ x.place → IsGenerated (generated_from base) x
read_later base x behind =
    let is : nat_lt x.place base ≡ false = grind (arith, nat_tests) in
    ap (λ (c : Bool). if c then ScriptName x else Generated) is

read_earlier : (base : ℕ) (x : Name) → x.place < base → IsReadAs (generated_from base) x x
read_earlier base x before =
    let is : nat_lt x.place base ≡ true = grind (arith, nat_tests) in
    ap (λ (c : Bool). if c then ScriptName x else Generated) is

-- calls in an open block build something there
code_begins : (base tables : ℕ) (targets waiting : List Name) (runs : Bool) (current : Name) (place : ℕ) (script : Script) → Emits base tables targets waiting runs current place script
    → runs ≡ true → code_of place script ≢ []
code_begins base tables targets _ _ _ _ _ (Stops current place) runs = let none : ⊥ = cc in absurd none
code_begins base tables targets _ _ _ _ _ (Enters block waiting current place more emits) runs = let none : ⊥ = cc in absurd none
code_begins base tables targets _ _ _ _ _ (Creates waiting current place more emits) runs = code_begins base tables targets (answer_of place 0 ∷ waiting) true current (suc place) more emits refl
code_begins base tables targets _ _ _ _ _ (Links waiting current place edge more leads emits) runs = code_begins base tables targets waiting true current (suc place) more emits refl
code_begins base tables targets _ _ _ _ _ (Tables waiting current place default entries more first are emits) runs = code_begins base tables targets waiting true current (suc place) more emits refl
code_begins base tables targets _ _ _ _ _ (Computes waiting current place instruction more stays emits) runs = λ empty. cc
code_begins base tables targets _ _ _ _ _ (Ends waiting current place entries instruction more branches given emits) runs = λ empty. cc

-- ranges whose ends are below a key
ends_below : (ty : «Type») (ranges : List CaseRange) → ((range : CaseRange) → Contains ranges range → Fits ty range) → AllByRecursion (λ range. end_of range ≤ 2 ^ bits_of ty) ranges
ends_below ty [] fit = tt
ends_below ty (range ∷ ranges) fit =
    ((fit range (contained_first range ranges)).keys, ends_below ty ranges (λ other here. fit other (suc here.0, omega (arith, here.1), here.2)))

none_for : (ranges : List CaseRange) (key : ℕ) → AllByRecursion (λ range. end_of range ≤ key) ranges → block_of_key ranges key ≡ None
none_for [] key all = refl
none_for (range ∷ ranges) key all = ap (λ (o : Option ℕ). first_of o (block_of_key ranges key)) (none_over range key all.0) ∙ none_for ranges key all.1

-- what is made of a test's ranges leads to targets
aims_of : (base first_table : ℕ) (targets : List Name) (s : Switched) (there : Contains targets s.otherwise) (ranges : List CaseRange)
    → ((range : CaseRange) → Contains ranges range → AllByRecursion (λ x. Contains targets x) (map s.named range.blocks.items))
    → (t : Test) → IsTestOf ranges t → Aims base first_table targets s there t
aims_of base first_table targets s there ranges named test.Nothing is = tt
aims_of base first_table targets s there ranges named (test.OneKey range other) is = by range.now.blocks.items is.1 (named range.now is.0)
  where
    by : (blocks : List ℕ) → length blocks ≡ 1 → AllByRecursion (λ x. Contains targets x) (map s.named blocks) → Contains targets (s.named (slice_index_or blocks 0 0))
    by [] one all = absurd (omega (arith, one))
    by (block ∷ blocks) one all = all.0
aims_of base first_table targets s there ranges named (test.NotBelow first above other) is = tt
aims_of base first_table targets s there ranges named (test.Table range) is = named range.now is.0

all_aim : (base first_table : ℕ) (targets : List Name) (s : Switched) (there : Contains targets s.otherwise) (ranges : List CaseRange)
    → ((range : CaseRange) → Contains ranges range → AllByRecursion (λ x. Contains targets x) (map s.named range.blocks.items))
    → (nodes : List Node) → AllByRecursion (λ node. IsTestOf ranges node.test) nodes → AllByRecursion (λ node. Aims base first_table targets s there node.test) nodes
all_aim base first_table targets s there ranges named [] tests = tt
all_aim base first_table targets s there ranges named (node ∷ nodes) tests =
    (aims_of base first_table targets s there ranges named node.test tests.0, all_aim base first_table targets s there ranges named nodes tests.1)

-- THE CALLS ---------------------------------------------------------------------------------------------------------------

module _ (plain : Script) (block : Name) (s : Switched) (cases : CaseMap) (ranges : List CaseRange) (t : Test) (rest : List Node) (k : ℕ)
    (may : MaySwitch plain block s cases) (searches : SearchesCases s cases ranges (record { number = 0; test = t } ∷ rest)) (short : length ranges ≤ 2 ^ k) where
  abbrev first : Node
  first = record { number = 0; test = t }

  abbrev nodes : List Node
  nodes = first ∷ rest

  abbrev entries : List (ℕ × ℕ)
  entries = finite.entries cases

  abbrev targets : List Name
  targets = targets_of (case_edges s cases)

  abbrev before : Ledger
  before = ledger_after plain

  abbrev written : Program
  written = program_of plain

  abbrev base : ℕ
  base = length plain

  abbrev tables : ℕ
  tables = length before.jump_tables

  abbrev more : Script
  more = switch_calls plain s nodes

  abbrev behind : Ledger
  behind = fold ledger_with before more

  abbrev final : Program
  final = fold with_call written more

  behind_is : ledger_after (plain ++ more) ≡ behind
  behind_is = fold_both ledger_with plain more empty_ledger

  final_is : program_of (plain ++ more) ≡ final
  final_is = fold_both with_call plain more empty_program

  -- the first test stands here
  abbrev here : ℕ
  here = base + 0

  here_is : here ≡ base
  here_is = omega arith

  abbrev calls : Script
  calls = test_calls s tables t here

  abbrev blocks : List Name
  blocks = blocks_of t here

  abbrev later : Script
  later = nodes_calls s blocks (tables + tables_of t) rest (base + length calls)

  -- WHAT IS THERE ---------------------------------------------------------------------------------------------------------

  answers_so : length before.answers ≡ base
  answers_so = answered plain empty_ledger ∙ omega arith

  has_current : HasState before block
  has_current = has_state before block may.there

  block_earlier : block.place < base
  block_earlier = block_before plain block has_current

  value_earlier : s.value.place < base
  value_earlier = subst (λ (n : ℕ). s.value.place < n) answers_so (value_before before.answers s.value.place s.value.index s.ty may.value)

  named_targets : (x : Name) → Contains targets x → Contains (names_from s entries) x
  named_targets x is = subst (λ (names : List Name). Contains names x) (targets_so s entries) is

  targets_named : (x : Name) → Contains (names_from s entries) x → Contains targets x
  targets_named x is = subst (λ (names : List Name). Contains names x) (sym (targets_so s entries)) is

  target_there : (x : Name) → Contains targets x → HasState before x
  target_there x is =
      elim (target_case s entries x (named_targets x is)) [
        | inl found ↦ subst (HasState before) found.2 (has_state before (s.named found.0.1) (All-contains (λ (case : ℕ × ℕ). IsTrue (has_block (ledger_after plain) (s.named case.1))) entries found.0 may.targets found.1))
        | inr other ↦ subst (HasState before) other (has_state before s.otherwise may.otherwise)
      ]

  target_earlier : (x : Name) → Contains targets x → x.place < base
  target_earlier x is = block_before plain x (target_there x is)

  otherwise_there : Contains targets s.otherwise
  otherwise_there = targets_named s.otherwise (otherwise_named s entries)

  fit : (range : CaseRange) → Contains ranges range → Fits s.ty range
  fit = fits_of s.ty entries ranges may.int searches.ranges_for.fit searches.ranges_for.ranges_of searches.ranges_for.tables

  ranges_named : (range : CaseRange) → Contains ranges range → AllByRecursion (λ x. Contains targets x) (map s.named range.blocks.items)
  ranges_named range is =
      subst (λ (names : List Name). AllByRecursion (λ x. Contains names x) (map s.named range.blocks.items))
      (ap (names_from s) searches.ranges_for.ranges_of.cases ∙ sym (targets_so s entries)) (range_named s ranges range is)

  -- THE ORDER -------------------------------------------------------------------------------------------------------------

  abbrev waits : List ℕ
  waits = searches.order.0

  none_waits : waits ≡ []
  none_waits = sym (tail_same 0 0 [] waits searches.order.1)

  abbrev waiting : List ℕ
  waiting = reverse (named_by t) ++ waits

  fall_none : Fall 0 waits
  fall_none = subst (Fall 0) (sym none_waits) tt

  fall : Fall (1 + length (named_by t)) waiting
  fall = fall_on t 1 0 waits searches.order.2 (omega arith) (omega arith) fall_none

  from_so : 1 + length (named_by t) ≡ suc (length blocks)
  from_so = let many = as_many t here in omega (arith, many)

  aims : AllByRecursion (λ node. Aims base tables targets s otherwise_there node.test) nodes
  aims = all_aim base tables targets s otherwise_there ranges ranges_named nodes searches.tests.tests

  emits : Emits base tables targets [] true block base more
  emits =
      subst (λ (p : ℕ). Emits base tables targets [] true block p more) here_is
      (test_finishes base tables targets s otherwise_there t tables [] block here (omega arith) (omega arith) aims.0 later
      (λ any.
      subst (λ (names : List Name). Emits base tables targets names false any (here + length calls) later)
      (new_names base tables targets s otherwise_there t [] 1 here 0 waits refl searches.order.2 (omega arith) fall_none ∙ ap (λ (w : List ℕ). reverse blocks ++ map (name_in []) w) none_waits)
      (subst (λ (p : ℕ). Emits base tables targets (map (name_in blocks) waiting) false any p later) (omega arith)
      (nodes_emit base tables targets s otherwise_there rest blocks (tables + tables_of t) (1 + length (named_by t)) (base + length calls) waiting searches.order.3 from_so fall
      (omega arith) (omega arith) aims.1 any))))

  -- THE PROGRAM -----------------------------------------------------------------------------------------------------------

  ready : Ready written [] block base
  ready = record {
    is = same_currents plain ∙ may.current;
    at = placed plain empty_program ∙ omega arith;
    earlier = block_earlier;
    fall = tt;
    apart = tt;
    empty = tt;
    fresh = may.unwritten;
  }

  filled : IsFilled final block base written more
  filled = emits_filled base tables targets [] true block base more emits written ready

  abbrev code : List Item
  code = code_of base more

  stands : (program_of (plain ++ more)).items block ≡ written.items block ++ code
  stands = ap (λ (p : Program). p.items block) final_is ∙ filled.1

  entered : Entered (program_of (plain ++ more)) base more
  entered = subst (λ (p : Program). Entered p base more) (sym final_is) filled.0

  code_here : code ≡ code_of here (calls ++ later)
  code_here = ap (λ (p : ℕ). code_of p more) (sym here_is)

  -- THE LEDGER ------------------------------------------------------------------------------------------------------------

  under_way : (states : List BlockState) → AreBefore base (names_of states) → AllByRecursion (IsUnderWay base tables targets [] true block) states
  under_way [] all = tt
  under_way (state ∷ states) all = ((λ late. absurd (omega (arith, late, all.0))), under_way states all.1)

  standing : Standing base tables targets before [] true block base
  standing = record {
    is = may.current;
    at = answers_so;
    has = has_current;
    wait = tt;
    states = under_way before.blocks (plain_blocks plain);
    spent = λ wrong. let none : ⊥ = cc in absurd none;
  }

  ended : Ended base tables targets behind block
  ended = emits_end base tables targets [] true block base more emits before standing

  left : IfSome (ledger_after (plain ++ more)).current (IsSpent (ledger_after (plain ++ more)))
  left =
      subst (λ (l : Ledger). IfSome l.current (IsSpent l)) (sym behind_is)
      (subst (λ (o : Option Name). IfSome o (IsSpent behind)) (sym ended.is_last) ended.spent)

  jump_tables : (ledger_after (plain ++ more)).jump_tables ≡ before.jump_tables ++ replicate (table_count (case_keys cases) (case_keys cases)) None
  jump_tables =
      ap (λ (l : Ledger). l.jump_tables) behind_is ∙ tables_served s nodes base before
      ∙ ap (λ (n : ℕ). before.jump_tables ++ replicate n None) (searches.tests.tables ∙ sym (tables_counted entries ranges searches.ranges_for.ranges_of))

  -- TYPES -----------------------------------------------------------------------------------------------------------------

  module _ (types : Name → «Type») (have : HaveTypes (ledger_after (plain ++ more)) types) where
    typed : AreTyped types base more
    typed =
        subst (λ (p : ℕ). AreTyped types p more) (omega arith)
        (typed_behind types 0 plain more (all_typed types (plain ++ more) empty_ledger 0 refl have))

    value_is : types s.value ≡ s.ty
    value_is = types_before before more types (subst (λ (l : Ledger). HaveTypes l types) behind_is have) s.value s.ty may.value

  -- WHERE CONTROL GOES ----------------------------------------------------------------------------------------------------

  found : (key : ℕ) → (search nodes 0 key).block ≡ of_key key entries
  found key =
      searches.finds.finds key ∙ sym (of_ranges key ranges) ∙ ap (of_key key) searches.ranges_for.ranges_of.cases

  goes : (world : World) (types : Name → «Type») (names : Name → Bits) → HaveTypes (ledger_after (plain ++ more)) types → IsValue s.ty (names s.value)
      → GoesByKey (record { world = world; reading = generated_from base; types = types; program = program_of (plain ++ more) }) code (case_edges s cases) (case_keys cases) names (names s.value) (k + 2) 1
  goes world types names have small = record {
    edge = bare_edge (target_of s (of_key key entries));
    there = edge_found s entries key;
    after = walked.after;
    walked_branches = walked.walked_branches;
    walked_tables = walked.walked_tables;
    walk = walked.walk;
    few_branches = let few = walked.few_branches in let fast = searches.finds.short k key short in omega (arith, few, fast);
    few_tables = walked.few_tables;
  }
    where
      key : ℕ
      key = names s.value

      around : Surroundings
      around = record { world = world; reading = generated_from base; types = types; program = program_of (plain ++ more) }

      walked : Walked (record { world = world; reading = generated_from base; types = types; program = program_of (plain ++ more) }) (target_of s (of_key (names s.value) entries)) code names
          ((search nodes 0 (names s.value)).branches + 1)
      walked =
          let through : Surroundings = record { world = world; reading = generated_from base; types = types; program = program_of (plain ++ more) } in
          let at_value : ℕ = names s.value in
          let all : AreTyped types base more = typed types have in
          let they = nodes_walk base through (read_later base) s may.int value_earlier at_value small ranges fit rest blocks (tables + tables_of t) (1 + length (named_by t)) (base + length calls) waiting
          searches.order.3 from_so fall (made_from t base here (omega arith)) (omega arith) searches.tests.tests.1
          (entered_behind (program_of (plain ++ more)) base calls later entered) (typed_behind types base calls later all) in
          let on = goes_on_so base through (read_later base) s may.int value_earlier at_value small ranges fit t [] 1 here rest waits refl searches.order.2 they in
          subst (λ (items : List Item). Walked through (target_of s (of_key at_value entries)) items names ((search nodes 0 at_value).branches + 1)) (sym code_here)
          (subst (λ (o : Option ℕ). Walked through (target_of s o) (code_of here (calls ++ later)) names ((search nodes 0 at_value).branches + 1)) (found at_value)
          (subst (λ (f : Found). Walked through (target_of s f.block) (code_of here (calls ++ later)) names (f.branches + 1)) (sym (begins first rest at_value))
          (test_walks base through (read_later base) s may.int value_earlier at_value small ranges fit (λ n. search rest n at_value) tables t here later (omega arith) searches.tests.tests.0 on.0
          (subst (λ (p : ℕ). Entered (program_of (plain ++ more)) p more) (sym here_is) entered) (subst (λ (p : ℕ). AreTyped types p more) (sym here_is) all) names refl)))

  -- LED -------------------------------------------------------------------------------------------------------------------

  leads_for : (key : ℕ) → BranchesTo base tables targets (target_of s (search nodes 0 key).block) more
  leads_for key =
      let they = led.nodes_to base tables targets s key rest blocks (tables + tables_of t) (1 + length (named_by t)) (base + length calls) waiting ranges searches.order.3 (omega arith) fall searches.tests.tests.1 in
      let on = led.goes_on_so base tables targets s key t rest later waits they in
      led.node_to base tables targets s key first rest [] tables base later ranges searches.tests.tests.0 on.0

  leads : (target : Name) → Contains targets target → BranchesTo base tables targets target more
  leads target is =
      elim (target_case s entries target (named_targets target is)) [
        | inl one ↦
            subst (λ (x : Name). BranchesTo base tables targets x more)
            (ap (target_of s) (found one.0.0 ∙ case_found entries ranges searches.ranges_for.ranges_of one.0 one.1) ∙ one.2) (leads_for one.0.0)
        | inr other ↦
            subst (λ (x : Name). BranchesTo base tables targets x more)
            (ap (target_of s) (searches.finds.finds (2 ^ bits_of s.ty) ∙ none_for ranges (2 ^ bits_of s.ty) (ends_below s.ty ranges fit)) ∙ other) (leads_for (2 ^ bits_of s.ty))
      ]

  -- LAID ------------------------------------------------------------------------------------------------------------------

  laid_code : (place : ℕ) (instruction : Instruction Name Name) → instruction.operands ≡ s.value ∷ [] → instruction.edges ≡ case_edges s cases
      → IsLaid (generated_from base) (program_of (plain ++ more)) code (Instruct place instruction [])
  laid_code place instruction operands edges = record {
    begins = code_begins base tables targets [] true block base more emits refl;
    lays = subst (λ (items : List Item). Lays (generated_from base) (program_of (plain ++ more)) item [] [] items) (sym code_here)
        (laid.test_lays base (generated_from base) (program_of (plain ++ more)) item (read_later base) (λ given. tt) s may.int hand to_otherwise tables t here later (omega arith)
        (laid.nodes_closed base (generated_from base) (program_of (plain ++ more)) item (read_later base) (λ given. tt) s may.int hand to_otherwise rest blocks (tables + tables_of t) (1 + length (named_by t))
        (base + length calls) waiting searches.order.3 fall)
        leave.0 on.0 (subst (λ (p : ℕ). Entered (program_of (plain ++ more)) p more) (sym here_is) entered) []);
  }
    where
      item : Item
      item = Instruct place instruction []

      hand : (given : List Name) → ToHand (generated_from base) (program_of (plain ++ more)) (Instruct place instruction []) given s.value
      hand given = inr (
        s.value,
        read_earlier base s.value value_earlier,
        subst (λ (ops : List Name). Contains (ops ++ instruction.contexts) s.value) (sym operands) (contained_first s.value instruction.contexts),
      )

      to_target : (x : Name) → Contains targets x → LaysTo (generated_from base) (program_of (plain ++ more)) (Instruct place instruction []) x
      to_target x is given others items lays =
          Leaving given x x others items (read_earlier base x (target_earlier x is))
          (subst (λ (list : List (Edge Name Name)). Contains (targets_of list) x) (sym edges) is) tt lays

      to_otherwise : LaysTo (generated_from base) (program_of (plain ++ more)) (Instruct place instruction []) s.otherwise
      to_otherwise = to_target s.otherwise otherwise_there

      leave_names : (names : List Name) → AllByRecursion (λ x. Contains targets x) names → AllByRecursion (LaysTo (generated_from base) (program_of (plain ++ more)) (Instruct place instruction [])) names
      leave_names [] all = tt
      leave_names (x ∷ names) all = (to_target x all.0, leave_names names all.1)

      leave_one : (test : Test) → Aims base tables targets s otherwise_there test
          → laid.Leaves base (generated_from base) (program_of (plain ++ more)) (Instruct place instruction []) (read_later base) (λ given. tt) s may.int hand to_otherwise test
      leave_one test.Nothing aim = tt
      leave_one (test.OneKey range other) aim = to_target (first_block s range.now) aim
      leave_one (test.NotBelow from above other) aim = tt
      leave_one (test.Table range) aim = leave_names (map s.named range.now.blocks.items) aim

      leave_all : (list : List Node) → AllByRecursion (λ node. Aims base tables targets s otherwise_there node.test) list
          → AllByRecursion (λ node. laid.Leaves base (generated_from base) (program_of (plain ++ more)) (Instruct place instruction []) (read_later base) (λ given. tt) s may.int hand to_otherwise node.test) list
      leave_all [] all = tt
      leave_all (node ∷ list) all = (leave_one node.test all.0, leave_all list all.1)

      leave : AllByRecursion (λ node. laid.Leaves base (generated_from base) (program_of (plain ++ more)) (Instruct place instruction []) (read_later base) (λ given. tt) s may.int hand to_otherwise node.test) nodes
      leave = leave_all nodes aims

      they : laid.AllTo base (generated_from base) (program_of (plain ++ more)) (Instruct place instruction []) (read_later base) (λ given. tt) s may.int hand to_otherwise blocks waiting
      they =
          laid.nodes_lay base (generated_from base) (program_of (plain ++ more)) (Instruct place instruction []) (read_later base) (λ given. tt) s may.int hand to_otherwise rest blocks (tables + tables_of t)
          (1 + length (named_by t)) (base + length calls) waiting searches.order.3 from_so fall (made_from t base here (omega arith)) (omega arith) leave.1
          (entered_behind (program_of (plain ++ more)) base calls later entered)

      on : laid.GoOn base (generated_from base) (program_of (plain ++ more)) (Instruct place instruction []) (read_later base) (λ given. tt) s may.int hand to_otherwise t here
          × laid.AllTo base (generated_from base) (program_of (plain ++ more)) (Instruct place instruction []) (read_later base) (λ given. tt) s may.int hand to_otherwise blocks waits
      on =
          laid.goes_on_so base (generated_from base) (program_of (plain ++ more)) (Instruct place instruction []) (read_later base) (λ given. tt) s may.int hand to_otherwise t [] 1 here waits refl
          searches.order.2 they

  bare_edges : (list : List (ℕ × ℕ)) → AllByRecursion (λ edge. edge.arguments ≡ []) (edges_from s list)
  bare_edges [] = (refl, tt)
  bare_edges (case ∷ list) = (refl, bare_edges list)

  -- THE WHOLE -------------------------------------------------------------------------------------------------------------

  is_code : IsSwitchCode plain more block s.value s.ty (case_keys cases) (case_edges s cases) (k + 2) 1
  is_code = record {
    nothing = bare_edges entries;
    value_type = may.value;
    calls = emits_calls base tables targets [] true block base more emits (omega arith) tt;
    typed = λ types have.
        nodes_fine types s may.int (value_is types have) nodes [] tables base []
        (subst (AreTyped types base) (sym (append-nil more)) (typed types have));
    begins = emits_begin base tables targets [] true block base more emits refl;
    blocks = subst (λ (l : Ledger). AllByRecursion (LeadsToBlocks base l) more) (sym behind_is)
        (emits_blocks base tables targets [] true block base more emits before may.current answers_so tt target_earlier);
    finished = subst (λ (l : Ledger). AllByRecursion (IsFinishedFrom base) l.blocks) (sym behind_is) ended.finished;
    filled = subst (λ (l : Ledger). IsTrue (is_filled l block)) (sym behind_is) ended.filled;
    left = left;
    led = λ target is. subst (λ (l : Ledger). IsLedFrom base l target) (sym behind_is)
        (emits_lead base tables targets [] true block base more emits before may.current answers_so (omega arith) target (target_there target is) (leads target is));
    jump_tables = jump_tables;
    code = code;
    stands = stands;
    laid = laid_code;
    goes = goes;
  }

-- the first node has the number 0
pub switch_calls_are_code : SwitchCallsAreCode
switch_calls_are_code plain block s cases ranges [] k may searches short =
    let wrong = ap length searches.order in absurd (omega (arith, wrong))
switch_calls_are_code plain block s cases ranges (node ∷ rest) k may searches short = by node.number node.test (head_same 0 node.number [] searches.order.0 searches.order.1) searches
  where
    by : (number : ℕ) (t : Test) → 0 ≡ number → SearchesCases s cases ranges (record { number = number; test = t } ∷ rest)
        → IsSwitchCode plain (switch_calls plain s (record { number = number; test = t } ∷ rest)) block s.value s.ty (case_keys cases) (case_edges s cases) (k + 2) 1
    by zero t same they = is_code plain block s cases ranges t rest k may they short
    by (suc n) t same they = absurd (omega (arith, same))
