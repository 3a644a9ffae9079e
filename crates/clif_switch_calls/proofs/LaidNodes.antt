-- The code of each node is laid.
use Rattle.std.proofs.Common.{◌≡◌, ◌<◌, ◌≤◌, ◌+◌, ◌-◌, ℕ, zero, suc, Bool, true, false, List, [], ◌∷◌, ◌++◌, length, map, refl, sym, ◌∙◌, ap, subst, arith, append_assoc, length-append, inl}
use Rattle.std.specs.Prelude.{Contains, ◌^◌, ◌==◌, if◌then◌else◌, nat_lt, IsTrue, slice_index_or, reverse}
use Rattle.std.specs.List.{AllByRecursion, flat_map}
use Rattle.std.proofs.lemmas.List.{length-map}
use Rattle.std.proofs.lemmas.List.Elements.{Contains-append_right}
use Rattle.clif_opcodes.specs.declared.opcodes.ConvertOpcode.TheVariants.{Ireduce, Uextend}
use Rattle.clif_types.specs.declared.condcodes.IntCC.{IntCC}
use Rattle.clif_types.specs.declared.condcodes.IntCC.TheVariants as cc
use Rattle.clif_types.specs.declared.types.«Type».{«Type»}
use Rattle.clif_types.specs.declared.types.«Type».TheVariants as type
use Rattle.clif_types.specs.Types.{bits_of, is_int}
use Rattle.clif_ranges.specs.declared.ranges.CaseRange.{CaseRange}
use Rattle.clif_ranges.specs.declared.search.Next.TheVariants as next
use Rattle.clif_ranges.specs.declared.search.Node.{Node}
use Rattle.clif_ranges.specs.declared.search.Test.{Test}
use Rattle.clif_ranges.specs.declared.search.Test.TheVariants as test
use Rattle.clif_ranges.specs.Search.{AreInOrder, AreNumbersFrom, named_by}
use Rattle.clif_meaning.specs.Acceptance.{table_branch}
use Rattle.clif_meaning.specs.Instruction.{Compare, Convert, Instruction, Jump}
use Rattle.clif_meaning.specs.Name.{Name, answer_of}
use Rattle.clif_meaning.specs.Program.{Item, Instruct, Program}
use Rattle.clif_meaning.specs.Request.{Request, CreateBlock, SwitchToBlock, SealBlock, MakeEdge, MakeJumpTable, Build, ServedBy, Script}
use Rattle.clif_meaning.specs.WellPlaced.{known_argument}
use Rattle.clif_expansion.specs.Constants.{computing}
use Rattle.clif_expansion.specs.Emission.{building}
use Rattle.clif_expansion.specs.Laying.{Ending, Entering, HasGiven, IsToPass, Laying, Lays}
use Rattle.clif_expansion.specs.Reading.{Reading}
use Rattle.clif_expansion.specs.Walk.{IsGenerated}
use Rattle.clif_switch_calls.specs.SwitchCalls.{Switched, answers_of, bare_edge, block_for, blocks_of, blocks_with, branching, compared, difference, difference_name, entering, first_block, i32, i8, index_calls, index_name, name_for, node_calls, nodes_calls, table_calls, table_targets, tables_of, test_calls, with_number, with_number_name}
use Rattle.clif_switch_calls.proofs.Basics.{all_both, regrouped}
use Rattle.clif_switch_calls.proofs.Branches.{conditional}
use Rattle.clif_switch_calls.proofs.Codes.{Entered, IsClosed, code_building, code_edges, code_of, entered_behind, entered_building, entered_edges}
use Rattle.clif_switch_calls.proofs.Laid.{LaysTo, ToHand, conditional_lays, difference_fed, enters, fed_single, still, with_fed}
use Rattle.clif_switch_calls.proofs.Nodes.{Fall, From, as_many, fall_on, from_at, made_from, name_in, named_before, named_first, named_second}
use Rattle.clif_switch_calls.proofs.Searched.{code_behind}
use Rattle.clif_switch_calls.proofs.Tables.{IndexCalls, IndexName, Narrower, Same, Wider, Width, width_of}

abbrev jumping : Name → Instruction Name Name
jumping target = record { operation = Jump; controlling = type.Invalid; operands = []; contexts = []; edges = bare_edge target ∷ [] }

-- bare edges pass nothing
none_passed : (names : List Name) → flat_map (λ edge. flat_map known_argument edge.arguments) (map bare_edge names) ≡ []
none_passed [] = refl
none_passed (x ∷ names) = none_passed names

module _ (base : ℕ) (reading : Reading) (program : Program) (item : Item) (generated : (x : Name) → base ≤ x.place → IsGenerated reading x)
    (ended : (given : List Name) → HasGiven reading item given) (s : Switched) (int : IsTrue (is_int s.ty)) (value_hand : (given : List Name) → ToHand reading program item given s.value)
    (otherwise_lays : LaysTo reading program item s.otherwise) where
  abbrev LaysFrom : List Name → List Item → Type 0
  LaysFrom given code = Lays reading program item given [] code

  abbrev To : Name → Type 0
  To block = LaysTo reading program item block

  abbrev Hand : List Name → Name → Type 0
  Hand given x = ToHand reading program item given x

  -- TABLES ----------------------------------------------------------------------------------------------------------------

  all_lay : (names given : List Name) → AllByRecursion To names → Lays reading program item given (map (λ edge. edge.target) (map bare_edge names)) []
  all_lay [] given all = Ending given (ended given)
  all_lay (x ∷ names) given all = all.0 given (map (λ edge. edge.target) (map bare_edge names)) [] (all_lay names given all.1)

  branch_lays : (given : List Name) (place : ℕ) (index : Name) (names : List Name) (more : List Item) → more ≡ [] → Hand given index → AllByRecursion To names
      → LaysFrom given (Instruct place (table_branch index (map bare_edge names)) [] ∷ more)
  branch_lays given place index names more none hand all =
      subst (λ (rest : List Item). LaysFrom given (Instruct place (table_branch index (map bare_edge names)) [] ∷ rest)) (sym none)
      (Laying given (Instruct place (table_branch index (map bare_edge names)) []) [] (hand, tt)
      (subst (AllByRecursion (IsToPass reading item given)) (sym (none_passed names)) tt) (all_lay names given all))

  module _ (tables q : ℕ) (x : Name) (names : List Name) (more : Script) (closed : IsClosed more) (given : List Name) (hand : Hand given x) (all : AllByRecursion To names)
      (behind : base ≤ q) where
    abbrev Whole : Script → Name → Script
    Whole calls index = calls ++ Build (ServedBy tables ∷ []) (table_branch index (map bare_edge names)) ∷ more

    abbrev IndexLays : (wider narrower same : Bool) → Type 0
    IndexLays wider narrower same =
        let calls : Script = IndexCalls s wider narrower q x in
        let script : Script = Whole calls (IndexName same calls q x) in
        Entered program q script → LaysFrom given (code_of q script)

    same_lays : IndexLays false false true
    same_lays entered = branch_lays given q x names (code_of (suc q) more) (closed (suc q)) hand all

    narrower_lays : IndexLays false true false
    narrower_lays entered =
        let fed = fed_single reading program item given q (Convert Uextend) i32 x hand in
        let here : q ≡ q + 0 = omega arith in
        fed.lays _ (branch_lays fed.after (suc q) (answer_of (q + 0) 1) names (code_of (suc (suc q)) more) (closed (suc (suc q)))
        (inl (subst (λ (p : ℕ). Contains fed.after (answer_of p 1)) here fed.has)) all)

    abbrev trying : List (Instruction Name Name)
    trying = with_number (Compare cc.UnsignedGreaterThan) s.ty (2 ^ 32 - 1) (suc q) x

    abbrev follow : Name
    follow = answer_of q 0

    abbrev branch : Request
    branch = branching i8 (with_number_name s.ty (2 ^ 32 - 1) (suc q)) s.otherwise follow

    abbrev reducing : ℕ
    reducing = suc (suc (suc (suc q + length trying)))

    abbrev behind_branch : Name → Script
    behind_branch index = SealBlock follow ∷ SwitchToBlock follow ∷ building (computing (Convert Ireduce) i32 (x ∷ [])) ∷ Build (ServedBy tables ∷ []) (table_branch index (map bare_edge names)) ∷ more

    rejoined : (index : Name) → Whole (IndexCalls s true true q x) index ≡ CreateBlock ∷ (map building trying ++ branch ∷ behind_branch index)
    rejoined index = ap (λ (calls : Script). CreateBlock ∷ calls) (append_assoc (map building trying) _ _)

    index_there : IndexName false (IndexCalls s true true q x) q x ≡ answer_of reducing 1
    index_there =
        let longer = length-append (map building trying) (branch ∷ SealBlock follow ∷ SwitchToBlock follow ∷ building (computing (Convert Ireduce) i32 (x ∷ [])) ∷ []) in
        let count = length-map trying building in
        ap (λ (n : ℕ). answer_of n 1) (omega (arith, longer, count))

    module _ (index : Name) (named : index ≡ answer_of reducing 1) (entered : Entered program q (CreateBlock ∷ (map building trying ++ branch ∷ behind_branch index))) where
      in_follow : program.items follow ≡ code_of (suc (suc (suc (suc q + length trying)))) (building (computing (Convert Ireduce) i32 (x ∷ [])) ∷ Build (ServedBy tables ∷ []) (table_branch index (map bare_edge names)) ∷ more)
      in_follow = (entered_building program (suc q) trying (branch ∷ behind_branch index) entered).0

      -- in the new block, where the name is still to hand
      follow_lays : (held : List Name) → Hand held x → LaysFrom held (program.items follow)
      follow_lays held still_there =
          let fed = fed_single reading program item held reducing (Convert Ireduce) i32 x still_there in
          subst (LaysFrom held) (sym in_follow)
          (fed.lays _ (branch_lays fed.after (suc reducing) index names (code_of (suc (suc reducing)) more) (closed (suc (suc reducing))) (inl (subst (Contains fed.after) (sym named) fed.has)) all))

      wider_lays : LaysFrom given (code_of q (CreateBlock ∷ (map building trying ++ branch ∷ behind_branch index)))
      wider_lays =
          let fed = with_fed reading program item (Compare cc.UnsignedGreaterThan) s.ty (2 ^ 32 - 1) (suc q) x given (λ p operands. refl) hand in
          let condition : Name = with_number_name s.ty (2 ^ 32 - 1) (suc q) in
          subst (LaysFrom given) (sym (code_building (suc q) trying (branch ∷ behind_branch index)))
          (fed.lays (Instruct (suc q + length trying) (conditional i8 condition s.otherwise follow) [] ∷ [])
          (Laying fed.after (Instruct (suc q + length trying) (conditional i8 condition s.otherwise follow) []) [] (inl fed.has, tt) tt
          (otherwise_lays fed.after (follow ∷ []) []
          (Entering fed.after follow [] [] (generated follow behind)
          (follow_lays (program.parameters follow ++ fed.after)
          (still reading program item fed.after (program.parameters follow ++ fed.after) (Contains-append_right (program.parameters follow) fed.after) x
          (still reading program item given fed.after fed.kept x hand)))
          (Ending fed.after (ended fed.after))))))

    wider_index : IndexLays true true false
    wider_index entered =
        let index : Name = IndexName false (IndexCalls s true true q x) q x in
        subst (λ (script : Script). LaysFrom given (code_of q script)) (sym (rejoined index))
        (wider_lays index index_there (subst (Entered program q) (rejoined index) entered))

    index_lays : Entered program q (Whole (index_calls s q x) (index_name s q x)) → LaysFrom given (code_of q (Whole (index_calls s q x) (index_name s q x)))
    index_lays = by (width_of s.ty int)
      where
        by : Width s.ty → IndexLays (nat_lt 32 (bits_of s.ty)) (nat_lt (bits_of s.ty) 32) (bits_of s.ty == 32)
        by (Wider a c fits) =
            subst (λ (u : Bool). IndexLays u (nat_lt (bits_of s.ty) 32) (bits_of s.ty == 32)) (sym a)
            (subst (λ (w : Bool). IndexLays true (nat_lt (bits_of s.ty) 32) w) (sym c) wider_index)
        by (Narrower a b c fits) =
            subst (λ (u : Bool). IndexLays u (nat_lt (bits_of s.ty) 32) (bits_of s.ty == 32)) (sym a)
            (subst (λ (v : Bool). IndexLays false v (bits_of s.ty == 32)) (sym b)
            (subst (λ (w : Bool). IndexLays false true w) (sym c) narrower_lays))
        by (Same a b c) =
            subst (λ (u : Bool). IndexLays u (nat_lt (bits_of s.ty) 32) (bits_of s.ty == 32)) (sym a)
            (subst (λ (v : Bool). IndexLays false v (bits_of s.ty == 32)) (sym b)
            (subst (λ (w : Bool). IndexLays false false w) (sym c) same_lays))

  table_lays : (tables place : ℕ) (range : CaseRange) (more : Script) → base ≤ place → IsClosed more → AllByRecursion To (map s.named range.blocks.items)
      → Entered program place (table_calls s tables range place ++ more) → (given : List Name) → LaysFrom given (code_of place (table_calls s tables range place ++ more))
  table_lays tables place range more behind closed all entered given =
      let line_at : ℕ = place + suc (length (table_targets s range)) in
      let line : List (Instruction Name Name) = difference s.ty range.first line_at s.value in
      let x : Name = difference_name s.ty range.first line_at s.value in
      let index_at : ℕ = line_at + length line in
      let edges : Script = map (λ target. MakeEdge (bare_edge target)) (table_targets s range) in
      let making : Request = MakeJumpTable (answer_of place 0) (answers_of (suc place) (length range.blocks.items)) in
      let last : Request = Build (ServedBy tables ∷ []) (table_branch (index_name s index_at x) (map bare_edge (table_targets s range))) in
      let rest : Script = index_calls s index_at x ++ last ∷ more in
      let grouped : table_calls s tables range place ++ more ≡ edges ++ (making ∷ (map building line ++ rest)) = regrouped edges (map building line) (index_calls s index_at x) making last more in
      let at_line : suc (place + length (table_targets s range)) ≡ line_at = omega arith in
      let fed = difference_fed reading program item s.ty range.first line_at s.value given (value_hand given) in
      let entered_line : Entered program line_at (map building line ++ rest) =
      subst (λ (p : ℕ). Entered program p (map building line ++ rest)) at_line
      (entered_edges program place (table_targets s range) (making ∷ (map building line ++ rest)) (subst (Entered program place) grouped entered)) in
      subst (LaysFrom given)
      (sym (ap (code_of place) grouped ∙ code_edges place (table_targets s range) (making ∷ (map building line ++ rest))
      ∙ ap (λ (p : ℕ). code_of p (map building line ++ rest)) at_line ∙ code_building line_at line rest))
      (fed.lays (code_of index_at rest)
      (index_lays tables index_at x (table_targets s range) more closed fed.after fed.hand (otherwise_lays, all) (omega (arith, behind)) (entered_building program line_at line rest entered_line)))

  -- TESTS -----------------------------------------------------------------------------------------------------------------

  ends_closed : (given : List Name) (place : ℕ) (ty : «Type») (condition taken other : Name) (more : List Item) → more ≡ [] → Hand given condition → To taken → To other
      → LaysFrom given (Instruct place (conditional ty condition taken other) [] ∷ more)
  ends_closed given place ty condition taken other more none hand first second =
      subst (λ (rest : List Item). LaysFrom given (Instruct place (conditional ty condition taken other) [] ∷ rest)) (sym none)
      (conditional_lays reading program item ended given place ty condition taken other hand first second)

  compared_lays : (condition : IntCC) (number place : ℕ) (taken other : Name) (more : Script) → IsClosed more → To taken → To other
      → (given : List Name) → LaysFrom given (code_of place (compared s condition number place taken other ++ more))
  compared_lays condition number place taken other more closed first second given =
      let line : List (Instruction Name Name) = with_number (Compare condition) s.ty number place s.value in
      let branch : Request = branching i8 (with_number_name s.ty number place) taken other in
      let fed = with_fed reading program item (Compare condition) s.ty number place s.value given (λ p operands. refl) (value_hand given) in
      subst (LaysFrom given) (sym (ap (code_of place) (append_assoc (map building line) (branch ∷ []) more) ∙ code_building place line (branch ∷ more)))
      (fed.lays _ (ends_closed fed.after (place + length line) i8 (with_number_name s.ty number place) taken other (code_of (suc (place + length line)) more) (closed _) (inl fed.has) first second))

  -- so control may go to each block that a test goes on to
  abbrev pub GoOn : Test → (place : ℕ) → Type 0
  GoOn test.Nothing place = Unit {0}
  GoOn (test.OneKey range other) place = To (name_for s other place)
  GoOn (test.NotBelow first above other) place = To (name_for s other place) × To (answer_of (place + length (block_for other)) 0)
  GoOn (test.Table range) place = Unit {0}

  -- and to the blocks of its cases
  abbrev pub Leaves : Test → Type 0
  Leaves test.Nothing = Unit {0}
  Leaves (test.OneKey range other) = To (first_block s range.now)
  Leaves (test.NotBelow first above other) = Unit {0}
  Leaves (test.Table range) = AllByRecursion To (map s.named range.now.blocks.items)

  pub test_lays : (tables : ℕ) (t : Test) (place : ℕ) (more : Script) → base ≤ place → IsClosed more → Leaves t → GoOn t place
      → Entered program place (test_calls s tables t place ++ more) → (given : List Name) → LaysFrom given (code_of place (test_calls s tables t place ++ more))
  test_lays tables test.Nothing place more behind closed leaves goes entered given =
      subst (λ (rest : List Item). LaysFrom given (Instruct place (jumping s.otherwise) [] ∷ rest)) (sym (closed (suc place)))
      (Laying given (Instruct place (jumping s.otherwise) []) [] tt tt (otherwise_lays given [] [] (Ending given (ended given))))
  test_lays tables (test.OneKey range other) place more behind closed leaves goes entered given =
      subst (LaysFrom given) (sym (ap (code_of place) (append_assoc (block_for other) _ more) ∙ code_behind other place _)) (by (range.now.first == 0))
    where
      by : (c : Bool) → LaysFrom given (code_of (place + length (block_for other))
          ((if c then branching s.ty s.value (name_for s other place) (first_block s range.now) ∷ []
          else compared s cc.Equal range.now.first (place + length (block_for other)) (first_block s range.now) (name_for s other place)) ++ more))
      by true =
          ends_closed given (place + length (block_for other)) s.ty s.value (name_for s other place) (first_block s range.now) (code_of (suc (place + length (block_for other))) more) (closed _)
          (value_hand given) goes leaves
      by false =
          compared_lays cc.Equal range.now.first (place + length (block_for other)) (first_block s range.now) (name_for s other place) more closed leaves goes given
  test_lays tables (test.NotBelow first above other) place more behind closed leaves goes entered given =
      let compare_at : ℕ = place + suc (length (block_for other)) in
      let upper : Name = answer_of (place + length (block_for other)) 0 in
      let comparing : Script = compared s cc.UnsignedGreaterThanOrEqual first compare_at upper (name_for s other place) in
      let at_compare : suc (place + length (block_for other)) ≡ compare_at = omega arith in
      subst (LaysFrom given)
      (sym (ap (code_of place) (append_assoc (block_for other) (CreateBlock ∷ comparing) more) ∙ code_behind other place (CreateBlock ∷ (comparing ++ more))
      ∙ ap (λ (p : ℕ). code_of p (comparing ++ more)) at_compare))
      (compared_lays cc.UnsignedGreaterThanOrEqual first compare_at upper (name_for s other place) more closed goes.1 goes.0 given)
  test_lays tables (test.Table range) place more behind closed leaves goes entered given = table_lays tables place range.now more behind closed leaves entered given

  -- NODES -----------------------------------------------------------------------------------------------------------------

  pub nodes_closed : (nodes : List Node) (blocks : List Name) (tables from place : ℕ) (waiting : List ℕ) → AreInOrder waiting from nodes → Fall from waiting → IsClosed (nodes_calls s blocks tables nodes place)
  nodes_closed [] blocks tables from place waiting order fall = λ p. refl
  nodes_closed (node ∷ nodes) blocks tables from place waiting (rest, begin, numbers, order) fall =
      let falls : Fall from (node.number ∷ rest) = subst (Fall from) begin fall in
      by node.number falls.1
    where
      by : (number : ℕ) → 0 < number
          → IsClosed ((entering blocks number ++ test_calls s tables node.test (place + length (entering blocks number)))
          ++ nodes_calls s (blocks_with blocks node place) (tables + tables_of node.test) nodes (place + length (node_calls s blocks tables node place)))
      by zero some = absurd (omega (arith, some))
      by (suc m) some = λ p. refl

  abbrev pub AllTo : List Name → List ℕ → Type 0
  AllTo blocks numbers = AllByRecursion (λ n. To (name_in blocks n)) numbers

  renamed : (a b : Name) → a ≡ b → To a → To b
  renamed a b same to = subst (λ (x : Name). To x) same to

  pub goes_on_so : (t : Test) (blocks : List Name) (from place : ℕ) (rest : List ℕ) → from ≡ suc (length blocks) → AreNumbersFrom from (named_by t)
      → AllTo (blocks ++ blocks_of t place) (reverse (named_by t) ++ rest) → GoOn t place × AllTo (blocks ++ blocks_of t place) rest
  goes_on_so test.Nothing blocks from place rest is are at = (tt, at)
  goes_on_so (test.OneKey range next.Otherwise) blocks from place rest is are at = (otherwise_lays, at)
  goes_on_so (test.OneKey range (next.Node n)) blocks from place rest is are at =
      (renamed _ _ (named_first blocks (answer_of place 0 ∷ []) n (are.0 ∙ is)) at.0, at.1)
  goes_on_so (test.NotBelow first above next.Otherwise) blocks from place rest is are at =
      ((otherwise_lays, renamed _ _ (named_first blocks (answer_of (place + 0) 0 ∷ []) above (are.0 ∙ is)) at.0), at.1)
  goes_on_so (test.NotBelow first above (next.Node n)) blocks from place rest is are at = (
    (
      renamed _ _ (named_first blocks (answer_of place 0 ∷ answer_of (place + 1) 0 ∷ []) n (are.0 ∙ is)) at.1.0,
      renamed _ _ (named_second blocks (answer_of place 0 ∷ answer_of (place + 1) 0 ∷ []) above (are.1.0 ∙ ap suc is)) at.0,
    ),
    at.1.1,
  )
  goes_on_so (test.Table range) blocks from place rest is are at = (tt, at)

  others_stay : (blocks more : List Name) (rest : List ℕ) (bound : ℕ) → bound < suc (length blocks) → Fall bound rest → AllTo (blocks ++ more) rest → AllTo blocks rest
  others_stay blocks more [] bound inside fall at = tt
  others_stay blocks more (n ∷ rest) bound inside fall at =
      (renamed _ _ (named_before blocks more n (omega (arith, fall.0, inside))) at.0, others_stay blocks more rest n (omega (arith, fall.0, inside)) fall.2 at.1)

  stands : (number : ℕ) (t : Test) (blocks : List Name) (tables place : ℕ) (more : Script) → 0 < number → number < suc (length blocks) → From base blocks → base ≤ place
      → IsClosed more → Leaves t → GoOn t (place + length (entering blocks number))
      → Entered program place (node_calls s blocks tables (record { number = number; test = t }) place ++ more) → To (name_in blocks number)
  stands zero t blocks tables place more some inside all behind closed leaves goes entered = absurd (omega (arith, some))
  stands (suc m) t blocks tables place more some inside all behind closed leaves goes entered =
      let block : Name = slice_index_or blocks m (answer_of 0 0) in
      let at : suc (suc place) ≡ place + 2 = omega arith in
      let calls : Script = test_calls s tables t (place + 2) ++ more in
      enters reading program item block (generated block (from_at base blocks m all (omega (arith, inside))))
      (λ given. subst (LaysFrom given) (sym (entered.0 ∙ ap (λ (p : ℕ). code_of p calls) at))
      (test_lays tables t (place + 2) more (omega (arith, behind)) closed leaves goes (subst (λ (p : ℕ). Entered program p calls) at entered.1) given))

  pub nodes_lay : (nodes : List Node) (blocks : List Name) (tables from place : ℕ) (waiting : List ℕ) → AreInOrder waiting from nodes → from ≡ suc (length blocks) → Fall from waiting
      → From base blocks → base ≤ place → AllByRecursion (λ node. Leaves node.test) nodes → Entered program place (nodes_calls s blocks tables nodes place) → AllTo blocks waiting
  nodes_lay [] blocks tables from place waiting order is fall all behind leaves entered = subst (AllTo blocks) (sym order) tt
  nodes_lay (node ∷ nodes) blocks tables from place waiting (rest, begin, numbers, order) is fall all behind leaves entered =
      let falls : Fall from (node.number ∷ rest) = subst (Fall from) begin fall in
      let at : ℕ = place + length (entering blocks node.number) in
      let calls : Script = node_calls s blocks tables node place in
      let later : Script = nodes_calls s (blocks_with blocks node place) (tables + tables_of node.test) nodes (place + length calls) in
      let longer = length-append blocks (blocks_of node.test at) in
      let many = as_many node.test at in
      let fall_later = fall_on node.test from node.number rest numbers (omega (arith, falls.0)) (omega (arith, is)) falls.2 in
      let they = nodes_lay nodes (blocks_with blocks node place) (tables + tables_of node.test) (from + length (named_by node.test)) (place + length calls)
      (reverse (named_by node.test) ++ rest) order (omega (arith, is, longer, many)) fall_later
      (all_both (λ x. base ≤ x.place) blocks (blocks_of node.test at) all (made_from node.test base at (omega (arith, behind)))) (omega (arith, behind)) leaves.1
      (entered_behind program place calls later entered) in
      let goes = goes_on_so node.test blocks from at rest is numbers they in
      subst (AllTo blocks) (sym begin) (
        stands node.number node.test blocks tables place later falls.1 (omega (arith, falls.0, is)) all behind
            (nodes_closed nodes (blocks_with blocks node place) (tables + tables_of node.test) (from + length (named_by node.test)) (place + length calls) (reverse (named_by node.test) ++ rest) order fall_later)
            leaves.0 goes.0 entered,
        others_stay blocks (blocks_of node.test at) rest node.number (omega (arith, falls.0, is)) falls.2 goes.1,
      )
