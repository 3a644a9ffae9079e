-- The calls of a switch fill blocks one by one.
use Rattle.std.proofs.Common.{◌≡◌, ◌<◌, ◌≤◌, ◌+◌, ◌-◌, ℕ, zero, suc, ℤ, Bool, true, false, List, [], ◌∷◌, ◌++◌, length, map, refl, sym, ◌∙◌, ap, ap₂, subst, arith, inl, inr, append_assoc, length-append}
use Rattle.std.specs.Prelude.{Contains, ◌⊎◌, ◌^◌, ◌==◌, if◌then◌else◌, nat_lt, slice_index_or, reverse}
use Rattle.std.specs.List.{AllByRecursion}
use Rattle.std.proofs.lemmas.List.{length-map}
use Rattle.clif_opcodes.specs.declared.opcodes.ConvertOpcode.TheVariants.{Ireduce, Uextend}
use Rattle.clif_types.specs.declared.condcodes.IntCC.{IntCC}
use Rattle.clif_types.specs.declared.condcodes.IntCC.TheVariants as cc
use Rattle.clif_types.specs.declared.types.LaneType.TheVariants as lane
use Rattle.clif_types.specs.declared.types.«Type».{«Type»}
use Rattle.clif_types.specs.declared.types.«Type».TheVariants as type
use Rattle.clif_types.specs.Types.{bits_of}
use Rattle.clif_ranges.specs.declared.ranges.CaseRange.{CaseRange}
use Rattle.clif_ranges.specs.declared.search.Next.{Next}
use Rattle.clif_ranges.specs.declared.search.Next.TheVariants as next
use Rattle.clif_ranges.specs.declared.search.Node.{Node}
use Rattle.clif_ranges.specs.declared.search.Test.{Test}
use Rattle.clif_ranges.specs.declared.search.Test.TheVariants as test
use Rattle.clif_ranges.specs.Search.{AreInOrder, AreNumbersFrom, named_by}
use Rattle.clif_meaning.specs.Acceptance.{table_branch}
use Rattle.clif_meaning.specs.Instruction.{Arithmetic, Compare, Compute, Convert, Instruction}
use Rattle.clif_meaning.specs.Ledger.{is_terminator}
use Rattle.clif_meaning.specs.Name.{Name, answer_of}
use Rattle.clif_meaning.specs.Request.{Request, CreateBlock, SwitchToBlock, SealBlock, MakeEdge, MakeJumpTable, Build, GivenEntry, ServedBy, Script}
use Rattle.clif_expansion.specs.ConstantCalls.{constant_instructions}
use Rattle.clif_expansion.specs.Constants.{computing}
use Rattle.clif_expansion.specs.Emission.{building}
use Rattle.clif_expansion.specs.Switching.{IsTableFrom}
use Rattle.clif_expansion.proofs.Placing.{contained_first, contained_later}
use Rattle.clif_switch_calls.specs.SwitchCalls.{Switched, answers_of, bare_edge, block_for, blocks_of, blocks_with, branching, compared, difference, difference_name, entering, first_block, i32, i8, index_calls, index_name, is_composed, is_subtracted, name_for, negated_64, node_calls, nodes_calls, number_instructions, other_of, signed_64, table_calls, table_targets, tables_of, test_calls, with_number, with_number_name}
use Rattle.clif_switch_calls.proofs.Basics.{all_both}
use Rattle.clif_switch_calls.proofs.Branches.{conditional}
use Rattle.clif_switch_calls.proofs.Emits.{Branches, Computes, Creates, Emits, Ends, Enters, LeadsOn, Links, StaysHere, Stops, Tables}
use Rattle.clif_switch_calls.proofs.Nodes.{Fall, as_many, fall_on, name_in, named_before, named_first, named_second}

-- LINES -------------------------------------------------------------------------------------------------------------------

abbrev pub AreInLine : List (Instruction Name Name) → Type 0
AreInLine code = AllByRecursion StaysHere code

either_line : (c : Bool) (first second : List (Instruction Name Name)) → AreInLine first → AreInLine second → AreInLine (if c then first else second)
either_line true first second line others = line
either_line false first second line others = others

here : (arithmetic : Arithmetic) (ty : «Type») (operands : List Name) → is_terminator (Compute arithmetic) ≡ false → StaysHere (computing arithmetic ty operands)
here arithmetic ty operands goes = record { arithmetic = arithmetic; computes = refl; no_contexts = refl; no_edges = refl; goes_on = goes }

in_line : {arithmetic : Arithmetic} {ty : «Type»} {operands : List Name} → is_terminator (Compute arithmetic) ≡ false → AreInLine (computing arithmetic ty operands ∷ [])
in_line {arithmetic} {ty} {operands} goes = (here arithmetic ty operands goes, tt)

constant_in_line : (ty : «Type») (number : ℤ) (place : ℕ) → AreInLine (constant_instructions ty number place)
constant_in_line (type.Lane lane.I128) number place = (here _ _ _ refl, (here _ _ _ refl, tt))
constant_in_line (type.Lane lane.I8) number place = in_line refl
constant_in_line (type.Lane lane.I16) number place = in_line refl
constant_in_line (type.Lane lane.I32) number place = in_line refl
constant_in_line (type.Lane lane.I64) number place = in_line refl
constant_in_line (type.Lane lane.F16) number place = in_line refl
constant_in_line (type.Lane lane.F32) number place = in_line refl
constant_in_line (type.Lane lane.F64) number place = in_line refl
constant_in_line (type.Lane lane.F128) number place = in_line refl
constant_in_line type.Invalid number place = in_line refl
constant_in_line (type.Vector l n) number place = in_line refl

number_in_line : (ty : «Type») (number place : ℕ) → AreInLine (number_instructions ty number place)
number_in_line ty number place =
    either_line (is_composed ty number) _ _
    (here _ _ _ refl, (here _ _ _ refl, (here _ _ _ refl, tt)))
    (constant_in_line ty (signed_64 number) place)

pub compare_in_line : (condition : IntCC) (ty : «Type») (number place : ℕ) (x : Name) → AreInLine (with_number (Compare condition) ty number place x)
compare_in_line condition ty number place x = all_both StaysHere (number_instructions ty number place) _ (number_in_line ty number place) (in_line refl)

pub difference_in_line : (ty : «Type») (first place : ℕ) (x : Name) → AreInLine (difference ty first place x)
difference_in_line ty zero place x = tt
difference_in_line ty (suc n) place x =
    either_line (is_subtracted ty (suc n)) _ _
    (all_both StaysHere (number_instructions ty (suc n) place) _ (number_in_line ty (suc n) place) (in_line refl))
    (all_both StaysHere (constant_instructions ty (negated_64 (suc n)) place) _ (constant_in_line ty (negated_64 (suc n)) place) (in_line refl))

module _ (base first_table : ℕ) (targets : List Name) where
  -- PARTS -----------------------------------------------------------------------------------------------------------------

  -- Behind these calls others may follow, in an open block.
  abbrev pub Passes : (waiting : List Name) (current : Name) (place : ℕ) (calls : Script) (later : List Name) (next : Name) → Type 0
  Passes waiting current place calls later next = (more : Script) → Emits base first_table targets later true next (place + length calls) more → Emits base first_table targets waiting true current place (calls ++ more)

  -- These calls end the current block.
  abbrev pub Finishes : (waiting : List Name) (current : Name) (place : ℕ) (calls : Script) (later : List Name) → Type 0
  Finishes waiting current place calls later = (more : Script) → ((any : Name) → Emits base first_table targets later false any (place + length calls) more) → Emits base first_table targets waiting true current place (calls ++ more)

  moved : (waiting : List Name) (runs : Bool) (current : Name) (place place' : ℕ) (script : Script) → place ≡ place' → Emits base first_table targets waiting runs current place script → Emits base first_table targets waiting runs current place' script
  moved waiting runs current place place' script same emits = subst (λ (p : ℕ). Emits base first_table targets waiting runs current p script) same emits

  both_lengths : (place : ℕ) (first second : Script) → place + length (first ++ second) ≡ place + length first + length second
  both_lengths place first second = let is = length-append first second in omega (arith, is)

  passes_both : (w : List Name) (c : Name) (place : ℕ) (first second : Script) (w' w'' : List Name) (c' c'' : Name)
      → Passes w c place first w' c' → Passes w' c' (place + length first) second w'' c'' → Passes w c place (first ++ second) w'' c''
  passes_both w c place first second w' w'' c' c'' one two more emits =
      subst (Emits base first_table targets w true c place) (sym (append_assoc first second more))
      (one (second ++ more) (two more (moved w'' true c'' _ _ more (both_lengths place first second) emits)))

  finishes_both : (w : List Name) (c : Name) (place : ℕ) (first second : Script) (w' w'' : List Name) (c' : Name)
      → Passes w c place first w' c' → Finishes w' c' (place + length first) second w'' → Finishes w c place (first ++ second) w''
  finishes_both w c place first second w' w'' c' one two more emits =
      subst (Emits base first_table targets w true c place) (sym (append_assoc first second more))
      (one (second ++ more) (two more (λ any. moved w'' false any _ _ more (both_lengths place first second) (emits any))))

  passes_none : (w : List Name) (c : Name) (place : ℕ) → Passes w c place [] w c
  passes_none w c place more emits = moved w true c _ _ more (omega arith) emits

  passes_create : (w : List Name) (c : Name) (place : ℕ) → Passes w c place (CreateBlock ∷ []) (answer_of place 0 ∷ w) c
  passes_create w c place more emits = Creates w c place more (moved (answer_of place 0 ∷ w) true c _ _ more (omega arith) emits)

  passes_table : (w : List Name) (c : Name) (place : ℕ) (default : Name) (entries : List Name) → base ≤ default.place → AllByRecursion (λ entry. base ≤ entry.place) entries → Passes w c place (MakeJumpTable default entries ∷ []) w c
  passes_table w c place default entries behind are more emits = Tables w c place default entries more behind are (moved w true c _ _ more (omega arith) emits)

  finishes_one : (w : List Name) (c : Name) (place : ℕ) (entries : List GivenEntry) (instruction : Instruction Name Name) → Branches targets w instruction → AllByRecursion (IsTableFrom first_table) entries
      → Finishes w c place (Build entries instruction ∷ []) w
  finishes_one w c place entries instruction ends given more emits = Ends w c place entries instruction more ends given (moved w false c _ _ more (omega arith) (emits c))

  -- a branch, and on in the block that was made for it
  passes_turn : (w : List Name) (c block : Name) (place : ℕ) (instruction : Instruction Name Name) → Branches targets (block ∷ w) instruction
      → Passes (block ∷ w) c place (Build [] instruction ∷ SealBlock block ∷ SwitchToBlock block ∷ []) w block
  passes_turn w c block place instruction ends more emits =
      Ends (block ∷ w) c place [] instruction (SealBlock block ∷ SwitchToBlock block ∷ more) ends tt
      (Enters block w c (suc place) more (moved w true block _ _ more (omega arith) emits))

  passes_line : (w : List Name) (c : Name) (place : ℕ) (code : List (Instruction Name Name)) → AreInLine code → Passes w c place (map building code) w c
  passes_line w c place [] line more emits = moved w true c _ _ more (omega arith) emits
  passes_line w c place (first ∷ code) line more emits =
      Computes w c place first (map building code ++ more) line.0
      (passes_line w c (suc place) code line.1 more (moved w true c _ _ more (omega arith) emits))

  passes_edges : (w : List Name) (c : Name) (place : ℕ) (names : List Name) → AllByRecursion (λ x. Contains targets x) names → Passes w c place (map (λ target. MakeEdge (bare_edge target)) names) w c
  passes_edges w c place [] all more emits = moved w true c _ _ more (omega arith) emits
  passes_edges w c place (target ∷ names) all more emits =
      Links w c place (bare_edge target) (map (λ target. MakeEdge (bare_edge target)) names ++ more) (record { nothing = refl; there = inr all.0 })
      (passes_edges w c (suc place) names all.1 more (moved w true c _ _ more (omega arith) emits))

  passes_block : (w : List Name) (c : Name) (place : ℕ) (other : Next) → Passes w c place (block_for other) (other_of other place ++ w) c
  passes_block w c place next.Otherwise = passes_none w c place
  passes_block w c place (next.Node n) = passes_create w c place

  -- TESTS -------------------------------------------------------------------------------------------------------------------

  aims_at : (w : List Name) (x : Name) → Contains w x ⊎ Contains targets x → LeadsOn targets w (bare_edge x)
  aims_at w x there = record { nothing = refl; there = there }

  branch_aims : (w : List Name) (ty : «Type») (condition taken other : Name) → Contains w taken ⊎ Contains targets taken → Contains w other ⊎ Contains targets other
      → Branches targets w (conditional ty condition taken other)
  branch_aims w ty condition taken other one two = record { deciding = tt; no_contexts = refl; ends = refl; edges = (aims_at w taken one, (aims_at w other two, tt)) }

  edges_aim : (w names : List Name) → AllByRecursion (λ x. Contains targets x) names → AllByRecursion (LeadsOn targets w) (map bare_edge names)
  edges_aim w [] all = tt
  edges_aim w (x ∷ names) all = (aims_at w x (inr all.0), edges_aim w names all.1)

  answers_from_base : (place count : ℕ) → base ≤ place → AllByRecursion (λ entry. base ≤ entry.place) (answers_of place count)
  answers_from_base place zero behind = tt
  answers_from_base place (suc count) behind = (behind, answers_from_base (suc place) count (omega (arith, behind)))

  module _ (s : Switched) (otherwise_there : Contains targets s.otherwise) where
    compared_finishes : (w : List Name) (c : Name) (place : ℕ) (condition : IntCC) (number : ℕ) (taken other : Name) → Contains w taken ⊎ Contains targets taken → Contains w other ⊎ Contains targets other
        → Finishes w c place (compared s condition number place taken other) w
    compared_finishes w c place condition number taken other one two =
        finishes_both w c place (map building (with_number (Compare condition) s.ty number place s.value)) (branching i8 (with_number_name s.ty number place) taken other ∷ []) w w c
        (passes_line w c place (with_number (Compare condition) s.ty number place s.value) (compare_in_line condition s.ty number place s.value))
        (finishes_one w c _ [] _ (branch_aims w i8 (with_number_name s.ty number place) taken other one two) tt)

    -- an index, in the current block or in one that is made
    index_passes : (w : List Name) (c : Name) (place : ℕ) (x : Name) → (next : Name) × Passes w c place (index_calls s place x) w next
    index_passes w c place x = wide (nat_lt 32 (bits_of s.ty))
      where
        first : Passes w c place (CreateBlock ∷ map building (with_number (Compare cc.UnsignedGreaterThan) s.ty (2 ^ 32 - 1) (suc place) x)) (answer_of place 0 ∷ w) c
        first = λ more emits.
            Creates w c place (map building (with_number (Compare cc.UnsignedGreaterThan) s.ty (2 ^ 32 - 1) (suc place) x) ++ more) (passes_line (answer_of place 0 ∷ w) c (suc place) (with_number (Compare cc.UnsignedGreaterThan) s.ty (2 ^ 32 - 1) (suc place) x)
            (compare_in_line cc.UnsignedGreaterThan s.ty (2 ^ 32 - 1) (suc place) x) more (moved (answer_of place 0 ∷ w) true c _ _ more (omega arith) emits))

        turn : (p : ℕ) → Passes (answer_of place 0 ∷ w) c p
            (branching i8 (with_number_name s.ty (2 ^ 32 - 1) (suc place)) s.otherwise (answer_of place 0)
            ∷ SealBlock (answer_of place 0) ∷ SwitchToBlock (answer_of place 0) ∷ building (computing (Convert Ireduce) i32 (x ∷ [])) ∷ []) w (answer_of place 0)
        turn p more emits =
            passes_both (answer_of place 0 ∷ w) c p
            (branching i8 (with_number_name s.ty (2 ^ 32 - 1) (suc place)) s.otherwise (answer_of place 0) ∷ SealBlock (answer_of place 0) ∷ SwitchToBlock (answer_of place 0) ∷ []) (building (computing (Convert Ireduce) i32 (x ∷ [])) ∷ []) w w (answer_of place 0) (answer_of place 0)
            (passes_turn w c (answer_of place 0) p (conditional i8 (with_number_name s.ty (2 ^ 32 - 1) (suc place)) s.otherwise (answer_of place 0))
            (branch_aims (answer_of place 0 ∷ w) i8 (with_number_name s.ty (2 ^ 32 - 1) (suc place)) s.otherwise (answer_of place 0) (inr otherwise_there) (inl (contained_first (answer_of place 0) w))))
            (passes_line w (answer_of place 0) (p + 3) (computing (Convert Ireduce) i32 (x ∷ []) ∷ []) (in_line refl)) more emits

        narrow : (d : Bool) → Passes w c place (if d then building (computing (Convert Uextend) i32 (x ∷ [])) ∷ [] else []) w c
        narrow true = passes_line w c place (computing (Convert Uextend) i32 (x ∷ []) ∷ []) (in_line refl)
        narrow false = passes_none w c place

        wide : (d : Bool) → (next : Name) × Passes w c place
            (if d
            then (CreateBlock ∷ map building (with_number (Compare cc.UnsignedGreaterThan) s.ty (2 ^ 32 - 1) (suc place) x)
            ++ branching i8 (with_number_name s.ty (2 ^ 32 - 1) (suc place)) s.otherwise (answer_of place 0)
            ∷ SealBlock (answer_of place 0) ∷ SwitchToBlock (answer_of place 0) ∷ building (computing (Convert Ireduce) i32 (x ∷ [])) ∷ [])
            else (if nat_lt (bits_of s.ty) 32 then building (computing (Convert Uextend) i32 (x ∷ [])) ∷ [] else [])) w next
        wide true = (
          answer_of place 0,
          passes_both w c place (CreateBlock ∷ map building (with_number (Compare cc.UnsignedGreaterThan) s.ty (2 ^ 32 - 1) (suc place) x))
              (branching i8 (with_number_name s.ty (2 ^ 32 - 1) (suc place)) s.otherwise (answer_of place 0)
              ∷ SealBlock (answer_of place 0) ∷ SwitchToBlock (answer_of place 0) ∷ building (computing (Convert Ireduce) i32 (x ∷ [])) ∷ [])
              (answer_of place 0 ∷ w) w c (answer_of place 0) first (turn (place + length (CreateBlock ∷ map building (with_number (Compare cc.UnsignedGreaterThan) s.ty (2 ^ 32 - 1) (suc place) x)))),
        )
        wide false = (c, narrow (nat_lt (bits_of s.ty) 32))

    table_finishes : (w : List Name) (c : Name) (place tables : ℕ) (range : CaseRange) → base ≤ place → first_table ≤ tables → AllByRecursion (λ x. Contains targets x) (map s.named range.blocks.items) → Finishes w c place (table_calls s tables range place) w
    table_finishes w c place tables range behind_base from_table all =
        let behind : ℕ = place + suc (length (table_targets s range)) in
        let line : List (Instruction Name Name) = difference s.ty range.first behind s.value in
        let x : Name = difference_name s.ty range.first behind s.value in
        let edges : Script = map (λ target. MakeEdge (bare_edge target)) (table_targets s range) in
        let making : Request = MakeJumpTable (answer_of place 0) (answers_of (suc place) (length range.blocks.items)) in
        let index = index_passes w c (behind + length line) x in
        let here : place + length (edges ++ making ∷ map building line) ≡ behind + length line =
        (let all = length-append edges (making ∷ map building line) in
        let count = length-map (table_targets s range) (λ target. MakeEdge (bare_edge target)) in
        let lines = length-map line building in omega (arith, all, count, lines)) in
        finishes_both w c place (edges ++ making ∷ map building line ++ index_calls s (behind + length line) x) (Build (ServedBy tables ∷ []) (table_branch (index_name s (behind + length line) x) (map bare_edge (table_targets s range))) ∷ []) w w index.0
        (passes_both w c place (edges ++ making ∷ map building line) (index_calls s (behind + length line) x) w w c index.0
        (passes_both w c place edges (making ∷ map building line) w w c c
        (passes_edges w c place (table_targets s range) (otherwise_there, all))
        (passes_both w c _ (making ∷ []) (map building line) w w c c (passes_table w c _ _ _ behind_base (answers_from_base (suc place) (length range.blocks.items) (omega (arith, behind_base)))) (passes_line w c _ line (difference_in_line s.ty range.first behind s.value))))
        (subst (λ (p : ℕ). Passes w c p (index_calls s (behind + length line) x) w index.0) (sym here) index.1))
        (finishes_one w index.0 _ _ _ (record { deciding = tt; no_contexts = refl; ends = refl; edges = edges_aim w (table_targets s range) (otherwise_there, all) }) (from_table, tt))

    one_key_finishes : (w : List Name) (c : Name) (place : ℕ) (range : CaseRange) (other : Next) (d : Bool)
        → Contains w (name_for s other place) ⊎ Contains targets (name_for s other place) → Contains targets (first_block s range)
        → Finishes w c (place + length (block_for other))
        (if d then branching s.ty s.value (name_for s other place) (first_block s range) ∷ []
        else compared s cc.Equal range.first (place + length (block_for other)) (first_block s range) (name_for s other place)) w
    one_key_finishes w c place range other true goes first =
        finishes_one w c _ [] _ (branch_aims w s.ty s.value (name_for s other place) (first_block s range) goes (inr first)) tt
    one_key_finishes w c place range other false goes first =
        compared_finishes w c (place + length (block_for other)) cc.Equal range.first (first_block s range) (name_for s other place) (inr first) goes

    not_below_finishes : (w : List Name) (c : Name) (place first above tables : ℕ) (other : Next)
        → Contains (other_of other place ++ w) (name_for s other place) ⊎ Contains targets (name_for s other place)
        → Finishes w c place (test_calls s tables (test.NotBelow first above other) place) (answer_of (place + length (block_for other)) 0 ∷ (other_of other place ++ w))
    not_below_finishes w c place first above tables other goes =
        let begin : ℕ = place + length (block_for other) in
        let mine : List Name = other_of other place ++ w in
        let all : List Name = answer_of begin 0 ∷ mine in
        let calls : Script = compared s cc.UnsignedGreaterThanOrEqual first (place + suc (length (block_for other))) (answer_of begin 0) (name_for s other place) in
        let later : Contains all (name_for s other place) ⊎ Contains targets (name_for s other place) =
        elim goes [
          | inl waits ↦ inl (contained_later (answer_of begin 0) mine (name_for s other place) waits)
          | inr target ↦ inr target
        ] in
        finishes_both w c place (block_for other) (CreateBlock ∷ calls) mine all c (passes_block w c place other)
        (finishes_both mine c begin (CreateBlock ∷ []) calls all all c (passes_create mine c begin)
        (subst (λ (p : ℕ). Finishes all c p calls all) (omega arith)
        (compared_finishes all c (place + suc (length (block_for other))) cc.UnsignedGreaterThanOrEqual first (answer_of begin 0) (name_for s other place)
        (inl (contained_first (answer_of begin 0) mine)) later)))

    -- what is tested leads to these targets alone
    abbrev pub Aims : Test → Type 0
    Aims test.Nothing = Unit {0}
    Aims (test.OneKey range other) = Contains targets (first_block s range.now)
    Aims (test.NotBelow first above other) = Unit {0}
    Aims (test.Table range) = AllByRecursion (λ x. Contains targets x) (map s.named range.now.blocks.items)

    pub test_finishes : (t : Test) (tables : ℕ) (w : List Name) (c : Name) (place : ℕ) → base ≤ place → first_table ≤ tables → Aims t
        → Finishes w c place (test_calls s tables t place) (reverse (blocks_of t place) ++ w)
    test_finishes test.Nothing tables w c place behind from_table aims =
        finishes_one w c place [] _ (record { deciding = tt; no_contexts = refl; ends = refl; edges = (aims_at w s.otherwise (inr otherwise_there), tt) }) tt
    test_finishes (test.OneKey range next.Otherwise) tables w c place behind from_table aims =
        finishes_both w c place [] _ w w c (passes_block w c place next.Otherwise) (one_key_finishes w c place range.now next.Otherwise (range.now.first == 0) (inr otherwise_there) aims)
    test_finishes (test.OneKey range (next.Node n)) tables w c place behind from_table aims =
        finishes_both w c place (CreateBlock ∷ []) _ (answer_of place 0 ∷ w) (answer_of place 0 ∷ w) c (passes_block w c place (next.Node n))
        (one_key_finishes (answer_of place 0 ∷ w) c place range.now (next.Node n) (range.now.first == 0) (inl (contained_first (answer_of place 0) w)) aims)
    test_finishes (test.NotBelow first above next.Otherwise) tables w c place behind from_table aims =
        not_below_finishes w c place first above tables next.Otherwise (inr otherwise_there)
    test_finishes (test.NotBelow first above (next.Node n)) tables w c place behind from_table aims =
        not_below_finishes w c place first above tables (next.Node n) (inl (contained_first (answer_of place 0) w))
    test_finishes (test.Table range) tables w c place behind from_table aims = table_finishes w c place tables range.now behind from_table aims

    -- NODES -----------------------------------------------------------------------------------------------------------------

    -- the names of the nodes that a test names, behind those that waited
    pub new_names : (t : Test) (blocks : List Name) (from place bound : ℕ) (rest : List ℕ) → from ≡ suc (length blocks) → AreNumbersFrom from (named_by t) → bound ≤ from → Fall bound rest
        → map (name_in (blocks ++ blocks_of t place)) (reverse (named_by t) ++ rest) ≡ reverse (blocks_of t place) ++ map (name_in blocks) rest
    new_names t blocks from place bound rest is are below fall = by t are
      where
        olds : (more : List Name) (numbers : List ℕ) (limit : ℕ) → limit ≤ from → Fall limit numbers → map (name_in (blocks ++ more)) numbers ≡ map (name_in blocks) numbers
        olds more [] limit under falls = refl
        olds more (n ∷ numbers) limit under falls =
            ap₂ (λ (name : Name) (names : List Name). name ∷ names) (named_before blocks more n (omega (arith, falls.0, under, is))) (olds more numbers n (omega (arith, falls.0, under)) falls.2)

        by : (u : Test) → AreNumbersFrom from (named_by u) → map (name_in (blocks ++ blocks_of u place)) (reverse (named_by u) ++ rest) ≡ reverse (blocks_of u place) ++ map (name_in blocks) rest
        by test.Nothing numbers = olds [] rest bound below fall
        by (test.OneKey range next.Otherwise) numbers = olds [] rest bound below fall
        by (test.OneKey range (next.Node n)) numbers =
            ap₂ (λ (name : Name) (names : List Name). name ∷ names) (named_first blocks (answer_of place 0 ∷ []) n (numbers.0 ∙ is)) (olds (answer_of place 0 ∷ []) rest bound below fall)
        by (test.NotBelow first above next.Otherwise) numbers =
            ap₂ (λ (name : Name) (names : List Name). name ∷ names) (named_first blocks (answer_of (place + 0) 0 ∷ []) above (numbers.0 ∙ is)) (olds (answer_of (place + 0) 0 ∷ []) rest bound below fall)
        by (test.NotBelow first above (next.Node n)) numbers =
            let more : List Name = answer_of place 0 ∷ answer_of (place + 1) 0 ∷ [] in
            ap₂ (λ (name : Name) (names : List Name). name ∷ names) (named_second blocks more above (numbers.1.0 ∙ ap suc is))
            (ap₂ (λ (name : Name) (names : List Name). name ∷ names) (named_first blocks more n (numbers.0 ∙ is)) (olds more rest bound below fall))
        by (test.Table range) numbers = olds [] rest bound below fall

    node_emits : (number : ℕ) (t : Test) (blocks : List Name) (tables place : ℕ) (w : List Name) (more : Script) → 0 < number → base ≤ place → first_table ≤ tables → Aims t → (c : Name)
        → ((any : Name) → Emits base first_table targets (reverse (blocks_of t (place + length (entering blocks number))) ++ w) false any (place + length (node_calls s blocks tables (record { number = number; test = t }) place)) more)
        → Emits base first_table targets (name_in blocks number ∷ w) false c place (node_calls s blocks tables (record { number = number; test = t }) place ++ more)
    node_emits zero t blocks tables place w more some behind from_table aims c emits = absurd (omega (arith, some))
    node_emits (suc m) t blocks tables place w more some behind from_table aims c emits =
        let block : Name = slice_index_or blocks m (answer_of 0 0) in
        let calls : Script = test_calls s tables t (place + 2) in
        let at : place + 2 ≡ suc (suc place) = omega arith in
        Enters block w c place (calls ++ more)
        (moved w true block (place + 2) (suc (suc place)) (calls ++ more) at
        (test_finishes t tables w block (place + 2) (omega (arith, behind)) from_table aims more
        (λ any. moved (reverse (blocks_of t (place + 2)) ++ w) false any _ _ more (omega arith) (emits any))))

    pub nodes_emit : (nodes : List Node) (blocks : List Name) (tables from place : ℕ) (waiting : List ℕ) → AreInOrder waiting from nodes → from ≡ suc (length blocks) → Fall from waiting → base ≤ place → first_table ≤ tables
        → AllByRecursion (λ node. Aims node.test) nodes → (c : Name)
        → Emits base first_table targets (map (name_in blocks) waiting) false c place (nodes_calls s blocks tables nodes place)
    nodes_emit [] blocks tables from place waiting order is fall behind from_table aims c = subst (λ (w : List ℕ). Emits base first_table targets (map (name_in blocks) w) false c place []) (sym order) (Stops c place)
    nodes_emit (node ∷ nodes) blocks tables from place waiting (rest, begin, numbers, order) is fall behind from_table aims c =
        let falls : Fall from (node.number ∷ rest) = subst (Fall from) begin fall in
        let at : ℕ = place + length (entering blocks node.number) in
        let calls : Script = node_calls s blocks tables node place in
        let longer = length-append blocks (blocks_of node.test at) in
        let many = as_many node.test at in
        let later : Script = nodes_calls s (blocks_with blocks node place) (tables + tables_of node.test) nodes (place + length calls) in
        let they : (any : Name) → Emits base first_table targets (map (name_in (blocks_with blocks node place)) (reverse (named_by node.test) ++ rest)) false any (place + length calls)
        (nodes_calls s (blocks_with blocks node place) (tables + tables_of node.test) nodes (place + length calls)) =
        nodes_emit nodes (blocks_with blocks node place) (tables + tables_of node.test) (from + length (named_by node.test)) (place + length calls)
        (reverse (named_by node.test) ++ rest) order (omega (arith, is, longer, many)) (fall_on node.test from node.number rest numbers (omega (arith, falls.0)) (omega (arith, is)) falls.2)
        (omega (arith, behind)) (omega (arith, from_table)) aims.1 in
        subst (λ (w : List ℕ). Emits base first_table targets (map (name_in blocks) w) false c place (nodes_calls s blocks tables (node ∷ nodes) place)) (sym begin)
        (node_emits node.number node.test blocks tables place (map (name_in blocks) rest) _ falls.1 behind from_table aims.0 c
        (λ any. subst (λ (w : List Name). Emits base first_table targets w false any (place + length calls) later) (new_names node.test blocks from at node.number rest is numbers (omega (arith, falls.0)) falls.2) (they any)))
