-- Walks through the code of a table.
use Rattle.std.proofs.Common.{◌≡◌, ◌<◌, ◌≤◌, ◌+◌, ◌-◌, ℕ, zero, suc, Bool, true, false, List, [], ◌∷◌, ◌++◌, length, map, refl, sym, ◌∙◌, ap, subst, arith, append_assoc, length-append, Some, mod-lt}
use Rattle.std.specs.Prelude.{◌^◌, ◌%◌, ◌==◌, ℤ, if◌then◌else◌, nat_lt, slice_get, IsTrue}
use Rattle.std.proofs.Math.Nat.{mod-eq_of_lt}
use Rattle.std.proofs.lemmas.List.{length-map}
use Rattle.std.proofs.lemmas.Bool.Decides.{nat_tests}
use Rattle.clif_opcodes.specs.declared.opcodes.ConvertOpcode.TheVariants.{Ireduce, Uextend}
use Rattle.clif_opcodes.specs.declared.opcodes.BinaryOpcode.TheVariants.{Iadd, Isub}
use Rattle.clif_types.specs.declared.condcodes.IntCC.TheVariants as cc
use Rattle.clif_types.specs.declared.types.LaneType.TheVariants as lane
use Rattle.clif_types.specs.declared.types.«Type».{«Type»}
use Rattle.clif_types.specs.declared.types.«Type».TheVariants as type
use Rattle.clif_types.specs.Types.{bits_of, is_int}
use Rattle.clif_ranges.specs.declared.ranges.CaseRange.{CaseRange}
use Rattle.clif_ranges.specs.Search.{block_in}
use Rattle.clif_meaning.specs.Acceptance.{table_branch}
use Rattle.clif_meaning.specs.Bits.{Bits}
use Rattle.clif_meaning.specs.Instruction.{Arithmetic, Binary, Compare, Convert, Edge, Iconst, Instruction}
use Rattle.clif_meaning.specs.Name.{Name, answer_of}
use Rattle.clif_meaning.specs.Outcome.{Values, edge_in_table}
use Rattle.clif_meaning.specs.Program.{Item, Instruct}
use Rattle.clif_meaning.specs.Request.{Request, CreateBlock, SwitchToBlock, SealBlock, MakeEdge, MakeJumpTable, Build, ServedBy, Script}
use Rattle.clif_expansion.specs.ConstantCalls.{constant_instructions, constant_name}
use Rattle.clif_expansion.specs.Constants.{computing, i64}
use Rattle.clif_expansion.specs.Emission.{building}
use Rattle.clif_expansion.specs.JoinedPrograms.{built_items}
use Rattle.clif_expansion.specs.Walk.{IsGenerated, Surroundings}
use Rattle.clif_switch_calls.specs.SwitchCalls.{Switched, answers_of, bare_edge, branching, difference, difference_name, i32, i8, index_calls, index_name, is_composed, is_subtracted, negated_64, number_instructions, signed_64, table_calls, table_targets, with_number, with_number_name}
use Rattle.clif_switch_calls.proofs.Basics.{regrouped}
use Rattle.clif_switch_calls.proofs.Branches.{At, Through, Walked, no_entry, table_edge, table_edges, target_of, walked_on, walks_conditional, walks_table}
use Rattle.clif_switch_calls.proofs.Codes.{AreTyped, Entered, code_building, code_edges, code_of, entered_building, entered_edges, typed_building, typed_edges}
use Rattle.clif_switch_calls.proofs.Lines.{Makes, compared_with, difference_made, made_one}

abbrev wide : «Type»
wide = type.Lane lane.I128

-- NARROW CONSTANTS --------------------------------------------------------------------------------------------------------

-- the instructions begin with a constant of 64 bits
abbrev pub BeginsNarrow : List (Instruction Name Name) → Type 0
BeginsNarrow code = (number : ℤ) × (rest : List (Instruction Name Name)) × (code ≡ computing (Iconst number) i64 [] ∷ rest)

begins_behind : (code more : List (Instruction Name Name)) → BeginsNarrow code → BeginsNarrow (code ++ more)
begins_behind code more begins = (begins.0, begins.1 ++ more, ap (λ (c : List (Instruction Name Name)). c ++ more) begins.2)

-- whichever of two lines it is
either_begins : (c : Bool) (first second : List (Instruction Name Name)) → BeginsNarrow first → BeginsNarrow second → BeginsNarrow (if c then first else second)
either_begins true first second begins others = begins
either_begins false first second begins others = others

number_begins : (number place : ℕ) → BeginsNarrow (number_instructions wide number place)
number_begins number place = either_begins (is_composed wide number) _ _ (signed_64 number, _, refl) (signed_64 number, _, refl)

pub with_begins : (arithmetic : Arithmetic) (number place : ℕ) (x : Name) → BeginsNarrow (with_number arithmetic wide number place x)
with_begins arithmetic number place x = begins_behind (number_instructions wide number place) _ (number_begins number place)

pub difference_begins : (first place : ℕ) (x : Name) → 0 < first → BeginsNarrow (difference wide first place x)
difference_begins zero place x some = absurd (omega (arith, some))
difference_begins (suc n) place x some =
    either_begins (is_subtracted wide (suc n)) _ _ (with_begins (Binary Isub) (suc n) place x) (negated_64 (suc n), _, refl)

module _ (types : Name → «Type») where
  narrow_of : (place : ℕ) (code : List (Instruction Name Name)) (more : Script) → BeginsNarrow code → AreTyped types place (map building code ++ more) → types (answer_of place 1) ≡ i64
  narrow_of place code more begins typed =
      (subst (λ (c : List (Instruction Name Name)). AreTyped types place (map building c ++ more)) begins.2 typed).0 i64 refl

  -- where instructions of a type begin with a narrow constant at 128 bits
  pub has_narrow : (ty : «Type») (place : ℕ) (code : «Type» → List (Instruction Name Name)) (more : Script) → BeginsNarrow (code wide)
      → AreTyped types place (map building (code ty) ++ more) → ty ≡ wide → types (answer_of place 1) ≡ i64
  has_narrow ty place code more begins typed same =
      narrow_of place (code wide) more begins (subst (λ (t : «Type»). AreTyped types place (map building (code t) ++ more)) same typed)

-- INDICES -----------------------------------------------------------------------------------------------------------------

-- the calls of an index, and its name, by how wide the number is: wider than 32 bits, or narrower, or neither
abbrev pub IndexCalls : Switched → (wider narrower : Bool) → (place : ℕ) (x : Name) → Script
IndexCalls s wider narrower place x =
    if wider
    then (CreateBlock ∷ map building (with_number (Compare cc.UnsignedGreaterThan) s.ty (2 ^ 32 - 1) (suc place) x)
    ++ branching i8 (with_number_name s.ty (2 ^ 32 - 1) (suc place)) s.otherwise (answer_of place 0)
    ∷ SealBlock (answer_of place 0) ∷ SwitchToBlock (answer_of place 0) ∷ building (computing (Convert Ireduce) i32 (x ∷ [])) ∷ [])
    else (if narrower then building (computing (Convert Uextend) i32 (x ∷ [])) ∷ [] else [])

abbrev pub IndexName : (same : Bool) → Script → (place : ℕ) (x : Name) → Name
IndexName same calls place x = if same then x else answer_of (place + (length calls - 1)) 1

-- how wide a type is
pub data Width (ty : «Type») : Type 0 where
  Wider : nat_lt 32 (bits_of ty) ≡ true → (bits_of ty == 32) ≡ false → 2 ^ 32 ≤ 2 ^ bits_of ty → Width ty
  Narrower : nat_lt 32 (bits_of ty) ≡ false → nat_lt (bits_of ty) 32 ≡ true → (bits_of ty == 32) ≡ false → 2 ^ bits_of ty ≤ 2 ^ 32 → Width ty
  Same : nat_lt 32 (bits_of ty) ≡ false → nat_lt (bits_of ty) 32 ≡ false → (bits_of ty == 32) ≡ true → Width ty

pub width_of : (ty : «Type») → IsTrue (is_int ty) → Width ty
width_of (type.Lane lane.I8) int = Narrower refl refl refl (omega arith)
width_of (type.Lane lane.I16) int = Narrower refl refl refl (omega arith)
width_of (type.Lane lane.I32) int = Same refl refl refl
width_of (type.Lane lane.I64) int = Wider refl refl (omega arith)
width_of (type.Lane lane.I128) int = Wider refl refl (omega arith)
width_of type.Invalid int = let none : ⊥ = cc in absurd none
width_of (type.Vector l n) int = let none : ⊥ = cc in absurd none
width_of (type.Lane lane.F16) int = let none : ⊥ = cc in absurd none
width_of (type.Lane lane.F32) int = let none : ⊥ = cc in absurd none
width_of (type.Lane lane.F64) int = let none : ⊥ = cc in absurd none
width_of (type.Lane lane.F128) int = let none : ⊥ = cc in absurd none

module _ (base : ℕ) (around : Surroundings) (generated : (x : Name) → base ≤ x.place → IsGenerated around.reading x) (s : Switched) (int : IsTrue (is_int s.ty)) where
  -- the index is in a name: a table comes
  ends_in_table : (tables place : ℕ) (index : Name) (edges : List (Edge Name Name)) (target : Name) (more : Script) (names : Name → Bits) (d branches : ℕ)
      → names index ≡ d → slice_get edges (edge_in_table (length edges - 1) d) ≡ Some (bare_edge target)
      → Walked around target (code_of place (Build (ServedBy tables ∷ []) (table_branch index edges) ∷ more)) names branches
  ends_in_table tables place index edges target more names d branches is there =
      walks_table around place index edges target (code_of (suc place) more) names branches
      (ap (λ (n : ℕ). slice_get edges (edge_in_table (length edges - 1) n)) is ∙ there)

  module _ (tables q : ℕ) (x : Name) (edges : List (Edge Name Name)) (target : Name) (more : Script) (names : Name → Bits) (d : ℕ)
      (behind : base ≤ q) (earlier : x.place < q) (is : names x ≡ d) (small : d < 2 ^ bits_of s.ty)
      (there : slice_get edges (edge_in_table (length edges - 1) d) ≡ Some (bare_edge target)) (far : 2 ^ 32 ≤ d → s.otherwise ≡ target) where
    abbrev Whole : Script → Name → Script
    Whole calls index = calls ++ Build (ServedBy tables ∷ []) (table_branch index edges) ∷ more

    abbrev IndexWalks : (wider narrower same : Bool) → Type 0
    IndexWalks wider narrower same =
        let calls : Script = IndexCalls s wider narrower q x in
        let all : Script = Whole calls (IndexName same calls q x) in
        Entered around.program q all → AreTyped around.types q all → Walked around target (code_of q all) names 1

    same_walks : IndexWalks false false true
    same_walks entered typed = ends_in_table tables q x edges target more names d 1 is there

    narrower_walks : d < 2 ^ 32 → IndexWalks false true false
    narrower_walks below entered typed =
        let made = made_one base around generated q (Convert Uextend) i32 (x ∷ []) d names behind
        (ap (λ (n : ℕ). Values (n % 2 ^ 32 ∷ [])) is ∙ ap (λ (n : ℕ). Values (n ∷ [])) (mod-eq_of_lt (omega (arith, below)))) in
        let here : q ≡ q + 0 = omega arith in
        walked_on around target (Instruct q (computing (Convert Uextend) i32 (x ∷ [])) (answer_of q 1 ∷ []) ∷ []) _ names made.after 1 made.leads
        (ends_in_table tables (suc q) (answer_of (q + 0) 1) edges target more made.after d 1
        (ap (λ (p : ℕ). made.after (answer_of p 1)) (sym here) ∙ made.holds) there)

    -- WIDER ---------------------------------------------------------------------------------------------------------------

    abbrev pub test : List (Instruction Name Name)
    test = with_number (Compare cc.UnsignedGreaterThan) s.ty (2 ^ 32 - 1) (suc q) x

    abbrev pub follow : Name
    follow = answer_of q 0

    abbrev pub branch : Request
    branch = branching i8 (with_number_name s.ty (2 ^ 32 - 1) (suc q)) s.otherwise follow

    -- where the number is reduced
    abbrev pub reducing : ℕ
    reducing = suc (suc (suc (suc q + length test)))

    abbrev pub behind_branch : Name → Script
    behind_branch index = SealBlock follow ∷ SwitchToBlock follow ∷ building (computing (Convert Ireduce) i32 (x ∷ [])) ∷ Build (ServedBy tables ∷ []) (table_branch index edges) ∷ more

    rejoined : (index : Name) → Whole (IndexCalls s true true q x) index ≡ CreateBlock ∷ (map building test ++ branch ∷ behind_branch index)
    rejoined index = ap (λ (calls : Script). CreateBlock ∷ calls) (append_assoc (map building test) _ _)

    pub index_there : IndexName false (IndexCalls s true true q x) q x ≡ answer_of reducing 1
    index_there =
        let longer = length-append (map building test) (branch ∷ SealBlock follow ∷ SwitchToBlock follow ∷ building (computing (Convert Ireduce) i32 (x ∷ [])) ∷ []) in
        let count = length-map test building in
        ap (λ (n : ℕ). answer_of n 1) (omega (arith, longer, count))

    module _ (index : Name) (named : index ≡ answer_of reducing 1) (fits : 2 ^ 32 ≤ 2 ^ bits_of s.ty)
        (entered : Entered around.program q (CreateBlock ∷ (map building test ++ branch ∷ behind_branch index)))
        (typed : AreTyped around.types q (CreateBlock ∷ (map building test ++ branch ∷ behind_branch index))) where
      in_follow : around.program.items follow ≡ code_of (suc (suc (suc (suc q + length test)))) (building (computing (Convert Ireduce) i32 (x ∷ [])) ∷ Build (ServedBy tables ∷ []) (table_branch index edges) ∷ more)
      in_follow = (entered_building around.program (suc q) test (branch ∷ behind_branch index) entered).0

      -- in the new block
      follow_walks : (held : Name → Bits) → held x ≡ d → d < 2 ^ 32 → Walked around target (around.program.items follow) held 0
      follow_walks held holds below =
          let made = made_one base around generated reducing (Convert Ireduce) i32 (x ∷ []) d held (omega (arith, behind))
          (ap (λ (n : ℕ). Values (n % 2 ^ 32 ∷ [])) holds ∙ ap (λ (n : ℕ). Values (n ∷ [])) (mod-eq_of_lt (omega (arith, below)))) in
          subst (λ (items : List Item). Walked around target items held 0) (sym in_follow)
          (walked_on around target (Instruct reducing (computing (Convert Ireduce) i32 (x ∷ [])) (answer_of reducing 1 ∷ []) ∷ []) _ held made.after 0 made.leads
          (ends_in_table tables (suc reducing) index edges target more made.after d 0 (ap made.after named ∙ made.holds) there))

      tested : Makes around (suc q) (built_items (suc q) test) (with_number_name s.ty (2 ^ 32 - 1) (suc q)) (if nat_lt (2 ^ 32 - 1) (names x) then 1 else 0) names
      tested = compared_with base around generated cc.UnsignedGreaterThan s.ty (2 ^ 32 - 1) (suc q) x names int (omega (arith, behind)) (omega (arith, fits))
          (has_narrow around.types s.ty (suc q) (λ t. with_number (Compare cc.UnsignedGreaterThan) t (2 ^ 32 - 1) (suc q) x) (branch ∷ behind_branch index)
          (with_begins (Compare cc.UnsignedGreaterThan) (2 ^ 32 - 1) (suc q) x) typed)
          (omega (arith, earlier))

      wider_walks : Walked around target (code_of q (CreateBlock ∷ (map building test ++ branch ∷ behind_branch index))) names 1
      wider_walks =
          subst (λ (items : List Item). Walked around target items names 1) (sym (code_building (suc q) test (branch ∷ behind_branch index)))
          (walked_on around target (built_items (suc q) test) _ names tested.after 1 tested.leads (by (nat_lt 4294967295 d) refl))
        where
          holds : tested.after x ≡ d
          holds = tested.kept x (omega (arith, earlier)) ∙ is

          condition : (c : Bool) → nat_lt 4294967295 d ≡ c → tested.after (with_number_name s.ty (2 ^ 32 - 1) (suc q)) ≡ (if c then 1 else 0)
          condition c over = tested.holds ∙ ap (λ (n : ℕ). if nat_lt 4294967295 n then 1 else 0) is ∙ ap (λ (e : Bool). if e then 1 else 0) over

          by : (c : Bool) → nat_lt 4294967295 d ≡ c
              → Walked around target (code_of (suc q + length test) (branch ∷ behind_branch index)) tested.after 1
          by true over =
              walks_conditional around (λ held. held x ≡ d) tested.after holds (suc q + length test) i8 (with_number_name s.ty (2 ^ 32 - 1) (suc q)) s.otherwise follow _ false target 0
              (ap (λ (n : ℕ). n == 0) (condition true over)) (At (far (grind (arith, nat_tests))))
          by false over =
              walks_conditional around (λ held. held x ≡ d) tested.after holds (suc q + length test) i8 (with_number_name s.ty (2 ^ 32 - 1) (suc q)) s.otherwise follow _ true target 0
              (ap (λ (n : ℕ). n == 0) (condition false over))
              (Through (generated follow behind) (λ held fine. follow_walks held fine (grind (arith, nat_tests))))

    wider_index : 2 ^ 32 ≤ 2 ^ bits_of s.ty → IndexWalks true true false
    wider_index fits entered typed =
        let index : Name = IndexName false (IndexCalls s true true q x) q x in
        subst (λ (all : Script). Walked around target (code_of q all) names 1) (sym (rejoined index))
        (wider_walks index index_there fits (subst (Entered around.program q) (rejoined index) entered) (subst (AreTyped around.types q) (rejoined index) typed))

    pub index_walks : Entered around.program q (Whole (index_calls s q x) (index_name s q x)) → AreTyped around.types q (Whole (index_calls s q x) (index_name s q x))
        → Walked around target (code_of q (Whole (index_calls s q x) (index_name s q x))) names 1
    index_walks = by (width_of s.ty int)
      where
        by : Width s.ty → IndexWalks (nat_lt 32 (bits_of s.ty)) (nat_lt (bits_of s.ty) 32) (bits_of s.ty == 32)
        by (Wider a c fits) =
            subst (λ (u : Bool). IndexWalks u (nat_lt (bits_of s.ty) 32) (bits_of s.ty == 32)) (sym a)
            (subst (λ (w : Bool). IndexWalks true (nat_lt (bits_of s.ty) 32) w) (sym c) (wider_index fits))
        by (Narrower a b c fits) =
            subst (λ (u : Bool). IndexWalks u (nat_lt (bits_of s.ty) 32) (bits_of s.ty == 32)) (sym a)
            (subst (λ (v : Bool). IndexWalks false v (bits_of s.ty == 32)) (sym b)
            (subst (λ (w : Bool). IndexWalks false true w) (sym c) (narrower_walks (omega (arith, small, fits)))))
        by (Same a b c) =
            subst (λ (u : Bool). IndexWalks u (nat_lt (bits_of s.ty) 32) (bits_of s.ty == 32)) (sym a)
            (subst (λ (v : Bool). IndexWalks false v (bits_of s.ty == 32)) (sym b)
            (subst (λ (w : Bool). IndexWalks false false w) (sym c) same_walks))

  -- TABLES ----------------------------------------------------------------------------------------------------------------

  -- a difference is named before what follows
  differs_before : (ty : «Type») (first place : ℕ) (x : Name) → x.place < place → (difference_name ty first place x).place < place + length (difference ty first place x)
  differs_before ty zero place x earlier = omega (arith, earlier)
  differs_before ty (suc n) place x earlier = by (is_subtracted ty (suc n)) refl
    where
      longer : (code : List (Instruction Name Name)) (last : Instruction Name Name) → place + (length (code ++ last ∷ []) - 1) < place + length (code ++ last ∷ [])
      longer code last = let is = length-append code (last ∷ []) in omega (arith, is)

      by : (c : Bool) → is_subtracted ty (suc n) ≡ c → (difference_name ty (suc n) place x).place < place + length (difference ty (suc n) place x)
      by true is =
          subst (λ (c : Bool). place + (length (if c then with_number (Binary Isub) ty (suc n) place x
          else constant_instructions ty (negated_64 (suc n)) place ++ computing (Binary Iadd) ty (x ∷ constant_name ty place ∷ []) ∷ []) - 1)
          < place + length (if c then with_number (Binary Isub) ty (suc n) place x
          else constant_instructions ty (negated_64 (suc n)) place ++ computing (Binary Iadd) ty (x ∷ constant_name ty place ∷ []) ∷ [])) (sym is)
          (longer (number_instructions ty (suc n) place) _)
      by false is =
          subst (λ (c : Bool). place + (length (if c then with_number (Binary Isub) ty (suc n) place x
          else constant_instructions ty (negated_64 (suc n)) place ++ computing (Binary Iadd) ty (x ∷ constant_name ty place ∷ []) ∷ []) - 1)
          < place + length (if c then with_number (Binary Isub) ty (suc n) place x
          else constant_instructions ty (negated_64 (suc n)) place ++ computing (Binary Iadd) ty (x ∷ constant_name ty place ∷ []) ∷ [])) (sym is)
          (longer (constant_instructions ty (negated_64 (suc n)) place) _)

  module _ (tables place : ℕ) (range : CaseRange) (more : Script) (behind : base ≤ place) (before : s.value.place < base) where
    abbrev pub line_at : ℕ
    line_at = place + suc (length (table_targets s range))

    abbrev pub line : List (Instruction Name Name)
    line = difference s.ty range.first line_at s.value

    abbrev pub differed : Name
    differed = difference_name s.ty range.first line_at s.value

    abbrev pub index_at : ℕ
    index_at = line_at + length line

    abbrev pub rest : Script
    rest = index_calls s index_at differed ++ Build (ServedBy tables ∷ []) (table_branch (index_name s index_at differed) (table_edges s range)) ∷ more

    abbrev pub making : Request
    making = MakeJumpTable (answer_of place 0) (answers_of (suc place) (length range.blocks.items))

    pub grouped : table_calls s tables range place ++ more ≡ map (λ target. MakeEdge (bare_edge target)) (table_targets s range) ++ (making ∷ (map building line ++ rest))
    grouped = regrouped (map (λ target. MakeEdge (bare_edge target)) (table_targets s range)) (map building line) (index_calls s index_at differed) making
        (Build (ServedBy tables ∷ []) (table_branch (index_name s index_at differed) (table_edges s range))) more

    at_line : suc (place + length (table_targets s range)) ≡ line_at
    at_line = omega arith

    pub table_code : code_of place (table_calls s tables range place ++ more) ≡ built_items line_at line ++ code_of index_at rest
    table_code =
        ap (code_of place) grouped ∙ code_edges place (table_targets s range) (making ∷ (map building line ++ rest))
        ∙ ap (λ (p : ℕ). code_of p (map building line ++ rest)) at_line ∙ code_building line_at line rest

    pub table_typed : AreTyped around.types place (table_calls s tables range place ++ more) → AreTyped around.types line_at (map building line ++ rest)
    table_typed typed =
        subst (λ (p : ℕ). AreTyped around.types p (map building line ++ rest)) at_line
        (typed_edges around.types place (table_targets s range) (making ∷ (map building line ++ rest)) (subst (AreTyped around.types place) grouped typed))

    pub table_entered : Entered around.program place (table_calls s tables range place ++ more) → Entered around.program line_at (map building line ++ rest)
    table_entered entered =
        subst (λ (p : ℕ). Entered around.program p (map building line ++ rest)) at_line
        (entered_edges around.program place (table_targets s range) (making ∷ (map building line ++ rest)) (subst (Entered around.program place) grouped entered))

    -- the table's code leads to the block of a key
    pub table_walks : Entered around.program place (table_calls s tables range place ++ more) → AreTyped around.types place (table_calls s tables range place ++ more)
        → 0 < length range.blocks.items → range.first + length range.blocks.items ≤ 2 ^ bits_of s.ty → length range.blocks.items < 2 ^ 32
        → (key : ℕ) → key < 2 ^ bits_of s.ty → (names : Name → Bits) → names s.value ≡ key
        → Walked around (target_of s (block_in range key)) (code_of place (table_calls s tables range place ++ more)) names 1
    table_walks entered typed some fits short key small names holds =
        let d : ℕ = (key + 2 ^ bits_of s.ty - range.first) % 2 ^ bits_of s.ty in
        let typed_line = table_typed typed in
        let made = difference_made base around generated s.ty range.first line_at s.value names int (omega (arith, behind)) (omega (arith, some, fits))
        (subst (λ (n : ℕ). n < 2 ^ bits_of s.ty) (sym holds) small)
        (λ above. has_narrow around.types s.ty line_at (λ t. difference t range.first line_at s.value) rest (difference_begins range.first line_at s.value above) typed_line)
        (omega (arith, before, behind)) in
        subst (λ (items : List Item). Walked around (target_of s (block_in range key)) items names 1) (sym table_code)
        (walked_on around (target_of s (block_in range key)) (built_items line_at line) (code_of index_at rest) names made.after 1 made.leads
        (index_walks tables index_at differed (table_edges s range) (target_of s (block_in range key)) more made.after d (omega (arith, behind))
        (differs_before s.ty range.first line_at s.value (omega (arith, before, behind)))
        (made.holds ∙ ap (λ (n : ℕ). (n + 2 ^ bits_of s.ty - range.first) % 2 ^ bits_of s.ty) holds)
        (mod-lt (key + 2 ^ bits_of s.ty - range.first) (omega (arith, small)))
        (table_edge s range (2 ^ bits_of s.ty) key small some fits)
        (λ over. ap (target_of s) (sym (no_entry range (2 ^ bits_of s.ty) key small some fits (omega (arith, over, short)))))
        (entered_building around.program line_at line rest (table_entered entered))
        (typed_building around.types line_at line rest typed_line)))
