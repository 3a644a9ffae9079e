-- The instructions of a switch are well typed.
use Rattle.std.proofs.Common.{◌≡◌, ◌<◌, ◌+◌, ◌-◌, ℕ, ℤ, zero, suc, Bool, true, false, List, [], ◌∷◌, ◌++◌, length, map, refl, sym, ◌∙◌, ap, subst, arith, append_assoc, length-append}
use Rattle.std.specs.Prelude.{◌^◌, ◌==◌, ◌/◌, if◌then◌else◌, nat_lt, IsTrue}
use Rattle.std.specs.List.{AllByRecursion}
use Rattle.std.proofs.lemmas.List.{length-map}
use Rattle.std.proofs.lemmas.Bool.Decides.{nat_tests}
use Rattle.clif_opcodes.specs.declared.kinds.OperandKind.TheVariants.{Narrower as NarrowerKind, Wider as WiderKind}
use Rattle.clif_opcodes.specs.declared.opcodes.BinaryOpcode.TheVariants.{Iadd, Isub}
use Rattle.clif_opcodes.specs.declared.opcodes.ConvertOpcode.TheVariants.{Ireduce}
use Rattle.clif_opcodes.specs.Typing.{AreOfKinds}
use Rattle.clif_types.specs.declared.condcodes.IntCC.{IntCC}
use Rattle.clif_types.specs.declared.condcodes.IntCC.TheVariants as cc
use Rattle.clif_types.specs.declared.types.LaneType.TheVariants as lane
use Rattle.clif_types.specs.declared.types.«Type».{«Type»}
use Rattle.clif_types.specs.declared.types.«Type».TheVariants as type
use Rattle.clif_types.specs.Types.{bits_of, is_int}
use Rattle.clif_ranges.specs.declared.ranges.CaseRange.{CaseRange}
use Rattle.clif_ranges.specs.declared.search.Next.{Next}
use Rattle.clif_ranges.specs.declared.search.Next.TheVariants as next
use Rattle.clif_ranges.specs.declared.search.Node.{Node}
use Rattle.clif_ranges.specs.declared.search.Test.{Test}
use Rattle.clif_ranges.specs.declared.search.Test.TheVariants as test
use Rattle.clif_meaning.specs.Acceptance.{table_branch}
use Rattle.clif_meaning.specs.Instruction.{Arithmetic, Binary, Compare, Compute, Concat, Convert, Iconst, Instruction}
use Rattle.clif_meaning.specs.Name.{Name, answer_of}
use Rattle.clif_meaning.specs.Program.{result_types}
use Rattle.clif_meaning.specs.Request.{Request, CreateBlock, SwitchToBlock, SealBlock, MakeEdge, MakeJumpTable, Build, ServedBy, Script}
use Rattle.clif_meaning.specs.Typing.{EdgeMatches}
use Rattle.clif_expansion.specs.ConstantCalls.{constant_instructions, constant_name}
use Rattle.clif_expansion.specs.Constants.{computing, i64}
use Rattle.clif_expansion.specs.Emission.{building}
use Rattle.clif_expansion.specs.PerformedCalls.{IsTypedInLine}
use Rattle.clif_expansion.specs.Switching.{BuildsTyped}
use Rattle.clif_switch_calls.specs.SwitchCalls.{Switched, answers_of, bare_edge, block_for, blocks_with, branching, compared, difference, difference_name, entering, first_block, i32, i8, index_calls, index_name, is_composed, is_subtracted, name_for, negated_64, node_calls, nodes_calls, number_instructions, number_name, signed_64, table_calls, table_targets, tables_of, test_calls, with_number, with_number_name}
use Rattle.clif_switch_calls.proofs.Basics.{all_both, last_name, regrouped}
use Rattle.clif_switch_calls.proofs.Branches.{conditional}
use Rattle.clif_switch_calls.proofs.Codes.{AreTyped, typed_behind, typed_building, typed_edges}
use Rattle.clif_switch_calls.proofs.Tables.{IndexCalls, IndexName, Narrower, Same, Wider, Width, width_of}

last_building : (code : List (Instruction Name Name)) (last : Instruction Name Name) (more : Script) → map building (code ++ last ∷ []) ++ more ≡ map building code ++ (building last ∷ more)
last_building [] last more = refl
last_building (first ∷ code) last more = ap (λ (rest : Script). building first ∷ rest) (last_building code last more)

module _ (types : Name → «Type») where
  abbrev Well : Instruction Name Name → Type 0
  Well instruction = IsTypedInLine types [] instruction

  -- the code is well typed, and the name has the type
  abbrev Typing : (place : ℕ) → List (Instruction Name Name) → Name → «Type» → Type 0
  Typing place code name ty = (more : Script) → AreTyped types place (map building code ++ more) → AllByRecursion Well code × (types name ≡ ty)

  -- LINES -----------------------------------------------------------------------------------------------------------------

  constant_once : (ty : «Type») (number : ℤ) (place : ℕ) → IsTrue (is_int ty) → Typing place (computing (Iconst number) ty [] ∷ []) (answer_of place 1) ty
  constant_once ty number place int more typed = ((record { made_at = int; operands = tt; edges = tt }, tt), typed.0 ty refl)

  constant_typed : (ty : «Type») (number : ℤ) (place : ℕ) → IsTrue (is_int ty) → Typing place (constant_instructions ty number place) (constant_name ty place) ty
  constant_typed (type.Lane lane.I8) number place int = constant_once (type.Lane lane.I8) number place refl
  constant_typed (type.Lane lane.I16) number place int = constant_once (type.Lane lane.I16) number place refl
  constant_typed (type.Lane lane.I32) number place int = constant_once (type.Lane lane.I32) number place refl
  constant_typed (type.Lane lane.I64) number place int = constant_once (type.Lane lane.I64) number place refl
  constant_typed (type.Lane lane.I128) number place int = λ more typed.
      let narrow : types (answer_of place 1) ≡ i64 = typed.0 i64 refl in (
        (
          record { made_at = refl; operands = tt; edges = tt },
          (
            record {
              made_at = refl;
              operands = subst (λ (t : «Type»). AreOfKinds (type.Lane lane.I128) (NarrowerKind ∷ []) (t ∷ [])) (sym narrow) ((refl, omega arith), tt);
              edges = tt;
            },
            tt,
          ),
        ),
        typed.1.0 (type.Lane lane.I128) refl,
      )
  constant_typed type.Invalid number place int = let none : ⊥ = cc in absurd none
  constant_typed (type.Vector l n) number place int = let none : ⊥ = cc in absurd none
  constant_typed (type.Lane lane.F16) number place int = let none : ⊥ = cc in absurd none
  constant_typed (type.Lane lane.F32) number place int = let none : ⊥ = cc in absurd none
  constant_typed (type.Lane lane.F64) number place int = let none : ⊥ = cc in absurd none
  constant_typed (type.Lane lane.F128) number place int = let none : ⊥ = cc in absurd none

  abbrev Composed : (number place : ℕ) → List (Instruction Name Name)
  Composed number place =
      computing (Iconst (signed_64 number)) i64 [] ∷ computing (Iconst (signed_64 (number / 2 ^ 64))) i64 []
      ∷ computing Concat i64 (answer_of place 1 ∷ answer_of (suc place) 1 ∷ []) ∷ []

  composed_typed : (number place : ℕ) → Typing place (Composed number place) (answer_of (suc (suc place)) 1) (type.Lane lane.I128)
  composed_typed number place more typed = (
    (
      record { made_at = refl; operands = tt; edges = tt },
      (
        record { made_at = refl; operands = tt; edges = tt },
        (record { made_at = refl; operands = (typed.0 i64 refl, (typed.1.0 i64 refl, tt)); edges = tt }, tt),
      ),
    ),
    typed.1.1.0 (type.Lane lane.I128) refl,
  )

  -- only a number of 128 bits is composed
  composed_wide : (ty : «Type») (number : ℕ) → is_composed ty number ≡ true → ty ≡ type.Lane lane.I128
  composed_wide (type.Lane lane.I128) number is = refl
  composed_wide (type.Lane lane.I8) number is = let none : ⊥ = cc in absurd none
  composed_wide (type.Lane lane.I16) number is = let none : ⊥ = cc in absurd none
  composed_wide (type.Lane lane.I32) number is = let none : ⊥ = cc in absurd none
  composed_wide (type.Lane lane.I64) number is = let none : ⊥ = cc in absurd none
  composed_wide (type.Lane lane.F16) number is = let none : ⊥ = cc in absurd none
  composed_wide (type.Lane lane.F32) number is = let none : ⊥ = cc in absurd none
  composed_wide (type.Lane lane.F64) number is = let none : ⊥ = cc in absurd none
  composed_wide (type.Lane lane.F128) number is = let none : ⊥ = cc in absurd none
  composed_wide type.Invalid number is = let none : ⊥ = cc in absurd none
  composed_wide (type.Vector l n) number is = let none : ⊥ = cc in absurd none

  number_typed : (ty : «Type») (number place : ℕ) → IsTrue (is_int ty) → Typing place (number_instructions ty number place) (number_name ty number place) ty
  number_typed ty number place int = by (is_composed ty number) refl
    where
      by : (c : Bool) → is_composed ty number ≡ c
          → Typing place (number_instructions ty number place) (number_name ty number place) ty
      by true is =
          subst (λ (c : Bool). Typing place (if c then Composed number place else constant_instructions ty (signed_64 number) place) (if c then answer_of (suc (suc place)) 1 else constant_name ty place) ty) (sym is)
          (subst (λ (t : «Type»). Typing place (Composed number place) (answer_of (suc (suc place)) 1) t) (sym (composed_wide ty number is)) (composed_typed number place))
      by false is =
          subst (λ (c : Bool). Typing place (if c then Composed number place else constant_instructions ty (signed_64 number) place) (if c then answer_of (suc (suc place)) 1 else constant_name ty place) ty) (sym is)
          (constant_typed ty (signed_64 number) place int)

  last_typed : (place : ℕ) (code : List (Instruction Name Name)) (name : Name) (ty result : «Type») (arithmetic : Arithmetic) (x : Name) → Typing place code name ty → types x ≡ ty
      → result_types (Compute arithmetic) ty ≡ result ∷ [] → (types x ≡ ty → types name ≡ ty → Well (computing arithmetic ty (x ∷ name ∷ [])))
      → Typing place (code ++ computing arithmetic ty (x ∷ name ∷ []) ∷ []) (answer_of (place + length code) 1) result
  last_typed place code name ty result arithmetic x before is gives well more typed =
      let last : Instruction Name Name = computing arithmetic ty (x ∷ name ∷ []) in
      let all : AreTyped types place (map building code ++ (building last ∷ more)) = subst (AreTyped types place) (last_building code last more) typed in
      let first = before (building last ∷ more) all in
      (all_both Well code (last ∷ []) first.0 (well is first.1, tt), (typed_building types place code (building last ∷ more) all).0 result gives)

  pub compare_typed : (condition : IntCC) (ty : «Type») (number place : ℕ) (x : Name) → IsTrue (is_int ty) → types x ≡ ty
      → Typing place (with_number (Compare condition) ty number place x) (with_number_name ty number place) i8
  compare_typed condition ty number place x int is =
      last_typed place (number_instructions ty number place) (number_name ty number place) ty i8 (Compare condition) x (number_typed ty number place int) is refl
      (λ first second. record { made_at = int; operands = (first, (second, tt)); edges = tt })

  pub difference_typed : (ty : «Type») (first place : ℕ) (x : Name) → IsTrue (is_int ty) → types x ≡ ty → Typing place (difference ty first place x) (difference_name ty first place x) ty
  difference_typed ty zero place x int is = λ more typed. (tt, is)
  difference_typed ty (suc n) place x int is = by (is_subtracted ty (suc n))
    where
      by : (c : Bool) → Typing place
          (if c then with_number (Binary Isub) ty (suc n) place x
          else constant_instructions ty (negated_64 (suc n)) place ++ computing (Binary Iadd) ty (x ∷ constant_name ty place ∷ []) ∷ [])
          (answer_of (place + (length (if c then with_number (Binary Isub) ty (suc n) place x
          else constant_instructions ty (negated_64 (suc n)) place ++ computing (Binary Iadd) ty (x ∷ constant_name ty place ∷ []) ∷ []) - 1)) 1) ty
      by true =
          subst (λ (name : Name). Typing place (with_number (Binary Isub) ty (suc n) place x) name ty)
          (last_name place (number_instructions ty (suc n) place) (computing (Binary Isub) ty (x ∷ number_name ty (suc n) place ∷ [])))
          (last_typed place (number_instructions ty (suc n) place) (number_name ty (suc n) place) ty ty (Binary Isub) x (number_typed ty (suc n) place int) is refl
          (λ first second. record { made_at = int; operands = (first, (second, tt)); edges = tt }))
      by false =
          subst (λ (name : Name). Typing place (constant_instructions ty (negated_64 (suc n)) place ++ computing (Binary Iadd) ty (x ∷ constant_name ty place ∷ []) ∷ []) name ty)
          (last_name place (constant_instructions ty (negated_64 (suc n)) place) (computing (Binary Iadd) ty (x ∷ constant_name ty place ∷ [])))
          (last_typed place (constant_instructions ty (negated_64 (suc n)) place) (constant_name ty place) ty ty (Binary Iadd) x (constant_typed ty (negated_64 (suc n)) place int) is refl
          (λ first second. record { made_at = int; operands = (first, (second, tt)); edges = tt }))

  -- SCRIPTS ---------------------------------------------------------------------------------------------------------------

  abbrev Fine : Script → Type 0
  Fine script = AllByRecursion (BuildsTyped types) script

  -- these calls are well typed, whatever follows
  abbrev IsFine : (place : ℕ) → Script → Type 0
  IsFine place calls = (more : Script) → AreTyped types place (calls ++ more) → Fine calls

  fine_both : (place : ℕ) (calls more : Script) → IsFine place calls → IsFine (place + length calls) more → IsFine place (calls ++ more)
  fine_both place calls more first second rest typed =
      let all : AreTyped types place (calls ++ (more ++ rest)) = subst (AreTyped types place) (append_assoc calls more rest) typed in
      all_both (BuildsTyped types) calls more (first (more ++ rest) all) (second rest (typed_behind types place calls (more ++ rest) all))

  fine_line : (code : List (Instruction Name Name)) → AllByRecursion Well code → Fine (map building code)
  fine_line [] all = tt
  fine_line (first ∷ code) all = (all.0, fine_line code all.1)

  fine_edges : (targets : List Name) → Fine (map (λ target. MakeEdge (bare_edge target)) targets)
  fine_edges [] = tt
  fine_edges (target ∷ targets) = (tt, fine_edges targets)

  fine_block : (other : Next) → Fine (block_for other)
  fine_block next.Otherwise = tt
  fine_block (next.Node n) = (tt, tt)

  conditional_well : (ty : «Type») (condition taken other : Name) → IsTrue (is_int ty) → types condition ≡ ty → Well (conditional ty condition taken other)
  conditional_well ty condition taken other int is = record { made_at = int; operands = (is, tt); edges = (refl, (refl, tt)) }

  matching_edges : (names : List Name) → AllByRecursion (EdgeMatches types (λ block. []) [] []) (map bare_edge names)
  matching_edges [] = tt
  matching_edges (x ∷ names) = (refl, matching_edges names)

  table_well : (index : Name) (names : List Name) → types index ≡ i32 → Well (table_branch index (map bare_edge names))
  table_well index names is = record { made_at = refl; operands = (is, tt); edges = matching_edges names }

  module _ (s : Switched) (int : IsTrue (is_int s.ty)) (value_is : types s.value ≡ s.ty) where
    compared_fine : (condition : IntCC) (number place : ℕ) (taken other : Name) → IsFine place (compared s condition number place taken other)
    compared_fine condition number place taken other more typed =
        let line : List (Instruction Name Name) = with_number (Compare condition) s.ty number place s.value in
        let branch : Request = branching i8 (with_number_name s.ty number place) taken other in
        let well = compare_typed condition s.ty number place s.value int value_is (branch ∷ more) (subst (AreTyped types place) (append_assoc (map building line) (branch ∷ []) more) typed) in
        all_both (BuildsTyped types) (map building line) (branch ∷ []) (fine_line line well.0) (conditional_well i8 (with_number_name s.ty number place) taken other refl well.1, tt)

    -- an index has 32 bits
    module _ (q : ℕ) (x : Name) (is : types x ≡ s.ty) where
      abbrev IndexFine : (wider narrower same : Bool) → Type 0
      IndexFine wider narrower same =
          (more : Script) → AreTyped types q (IndexCalls s wider narrower q x ++ more)
          → Fine (IndexCalls s wider narrower q x) × (types (IndexName same (IndexCalls s wider narrower q x) q x) ≡ i32)

      exact_type : (ty : «Type») → IsTrue (is_int ty) → (bits_of ty == 32) ≡ true → ty ≡ i32
      exact_type (type.Lane lane.I32) whole same = refl
      exact_type (type.Lane lane.I8) whole same = let none : ⊥ = cc in absurd none
      exact_type (type.Lane lane.I16) whole same = let none : ⊥ = cc in absurd none
      exact_type (type.Lane lane.I64) whole same = let none : ⊥ = cc in absurd none
      exact_type (type.Lane lane.I128) whole same = let none : ⊥ = cc in absurd none
      exact_type type.Invalid whole same = let none : ⊥ = cc in absurd none
      exact_type (type.Vector l n) whole same = let none : ⊥ = cc in absurd none
      exact_type (type.Lane lane.F16) whole same = let none : ⊥ = cc in absurd none
      exact_type (type.Lane lane.F32) whole same = let none : ⊥ = cc in absurd none
      exact_type (type.Lane lane.F64) whole same = let none : ⊥ = cc in absurd none
      exact_type (type.Lane lane.F128) whole same = let none : ⊥ = cc in absurd none

      same_fine : (bits_of s.ty == 32) ≡ true → IndexFine false false true
      same_fine same more typed = (tt, is ∙ exact_type s.ty int same)

      narrower_fine : bits_of s.ty < 32 → IndexFine false true false
      narrower_fine below more typed =
          let here : q ≡ q + 0 = omega arith in (
            (
              record {
                made_at = refl;
                operands = subst (λ (t : «Type»). AreOfKinds i32 (NarrowerKind ∷ []) (t ∷ [])) (sym is) ((int, below), tt);
                edges = tt;
              },
              tt,
            ),
            subst (λ (p : ℕ). types (answer_of p 1) ≡ i32) here (typed.0 i32 refl),
          )

      wider_fine : 32 < bits_of s.ty → IndexFine true true false
      wider_fine above more typed =
          let line : List (Instruction Name Name) = with_number (Compare cc.UnsignedGreaterThan) s.ty (2 ^ 32 - 1) (suc q) x in
          let follow : Name = answer_of q 0 in
          let branch : Request = branching i8 (with_number_name s.ty (2 ^ 32 - 1) (suc q)) s.otherwise follow in
          let reduce : Request = building (computing (Convert Ireduce) i32 (x ∷ [])) in
          let rest : Script = branch ∷ SealBlock follow ∷ SwitchToBlock follow ∷ reduce ∷ [] in
          let all : AreTyped types (suc q) (map building line ++ (rest ++ more)) =
          subst (AreTyped types q) (ap (λ (calls : Script). CreateBlock ∷ calls) (append_assoc (map building line) rest more)) typed in
          let well = compare_typed cc.UnsignedGreaterThan s.ty (2 ^ 32 - 1) (suc q) x int is (rest ++ more) all in
          let behind = typed_building types (suc q) line (rest ++ more) all in
          let longer = length-append (map building line) rest in
          let count = length-map line building in
          let at : suc (suc (suc (suc q + length line))) ≡ q + (length (CreateBlock ∷ map building line ++ rest) - 1) = omega (arith, longer, count) in (
            (
              tt,
              all_both (BuildsTyped types) (map building line) rest (fine_line line well.0) (
                conditional_well i8 (with_number_name s.ty (2 ^ 32 - 1) (suc q)) s.otherwise follow refl well.1,
                (
                  tt,
                  (
                    tt,
                    (
                      record {
                        made_at = refl;
                        operands = subst (λ (t : «Type»). AreOfKinds i32 (WiderKind ∷ []) (t ∷ [])) (sym is) ((int, above), tt);
                        edges = tt;
                      },
                      tt,
                    ),
                  ),
                ),
              ),
            ),
            subst (λ (p : ℕ). types (answer_of p 1) ≡ i32) at (behind.1.0 i32 refl),
          )

      index_fine : (more : Script) → AreTyped types q (index_calls s q x ++ more) → Fine (index_calls s q x) × (types (index_name s q x) ≡ i32)
      index_fine = by (width_of s.ty int)
        where
          by : Width s.ty → IndexFine (nat_lt 32 (bits_of s.ty)) (nat_lt (bits_of s.ty) 32) (bits_of s.ty == 32)
          by (Wider a c fits) =
              subst (λ (u : Bool). IndexFine u (nat_lt (bits_of s.ty) 32) (bits_of s.ty == 32)) (sym a)
              (subst (λ (w : Bool). IndexFine true (nat_lt (bits_of s.ty) 32) w) (sym c) (wider_fine (grind (arith, nat_tests))))
          by (Narrower a b c fits) =
              subst (λ (u : Bool). IndexFine u (nat_lt (bits_of s.ty) 32) (bits_of s.ty == 32)) (sym a)
              (subst (λ (v : Bool). IndexFine false v (bits_of s.ty == 32)) (sym b)
              (subst (λ (w : Bool). IndexFine false true w) (sym c) (narrower_fine (grind (arith, nat_tests)))))
          by (Same a b c) =
              subst (λ (u : Bool). IndexFine u (nat_lt (bits_of s.ty) 32) (bits_of s.ty == 32)) (sym a)
              (subst (λ (v : Bool). IndexFine false v (bits_of s.ty == 32)) (sym b)
              (subst (λ (w : Bool). IndexFine false false w) (sym c) (same_fine c)))

    table_fine : (tables place : ℕ) (range : CaseRange) → IsFine place (table_calls s tables range place)
    table_fine tables place range more typed =
        let line_at : ℕ = place + suc (length (table_targets s range)) in
        let line : List (Instruction Name Name) = difference s.ty range.first line_at s.value in
        let x : Name = difference_name s.ty range.first line_at s.value in
        let index_at : ℕ = line_at + length line in
        let edges : Script = map (λ target. MakeEdge (bare_edge target)) (table_targets s range) in
        let making : Request = MakeJumpTable (answer_of place 0) (answers_of (suc place) (length range.blocks.items)) in
        let last : Request = Build (ServedBy tables ∷ []) (table_branch (index_name s index_at x) (map bare_edge (table_targets s range))) in
        let index : Script = index_calls s index_at x in
        let grouped : (edges ++ making ∷ map building line ++ index ++ last ∷ []) ++ more ≡ edges ++ (making ∷ (map building line ++ (index ++ (last ∷ more)))) =
        regrouped edges (map building line) index making last more in
        let at_line : suc (place + length (table_targets s range)) ≡ line_at = omega arith in
        let all : AreTyped types line_at (map building line ++ (index ++ (last ∷ more))) =
        subst (λ (p : ℕ). AreTyped types p (map building line ++ (index ++ (last ∷ more)))) at_line
        (typed_edges types place (table_targets s range) (making ∷ (map building line ++ (index ++ (last ∷ more)))) (subst (AreTyped types place) grouped typed)) in
        let well = difference_typed s.ty range.first line_at s.value int value_is (index ++ (last ∷ more)) all in
        let fine = index_fine index_at x well.1 (last ∷ more) (typed_building types line_at line (index ++ (last ∷ more)) all) in
        all_both (BuildsTyped types) (edges ++ making ∷ map building line ++ index) (last ∷ [])
        (all_both (BuildsTyped types) (edges ++ making ∷ map building line) index
        (all_both (BuildsTyped types) edges (making ∷ map building line) (fine_edges (table_targets s range)) (tt, fine_line line well.0)) fine.0)
        (table_well (index_name s index_at x) (table_targets s range) fine.1, tt)

    one_key_fine : (place : ℕ) (range : CaseRange) (other : Next) (c : Bool)
        → IsFine (place + length (block_for other)) (if c then branching s.ty s.value (name_for s other place) (first_block s range) ∷ []
        else compared s cc.Equal range.first (place + length (block_for other)) (first_block s range) (name_for s other place))
    one_key_fine place range other true = λ more typed. (conditional_well s.ty s.value (name_for s other place) (first_block s range) int value_is, tt)
    one_key_fine place range other false = compared_fine cc.Equal range.first (place + length (block_for other)) (first_block s range) (name_for s other place)

    not_below_fine : (place first : ℕ) (upper lower : Name) (other : Next)
        → IsFine (place + length (block_for other)) (CreateBlock ∷ compared s cc.UnsignedGreaterThanOrEqual first (place + suc (length (block_for other))) upper lower)
    not_below_fine place first upper lower other more typed =
        let at : suc (place + length (block_for other)) ≡ place + suc (length (block_for other)) = omega arith in
        let calls : Script = compared s cc.UnsignedGreaterThanOrEqual first (place + suc (length (block_for other))) upper lower in (
          tt,
          compared_fine cc.UnsignedGreaterThanOrEqual first (place + suc (length (block_for other))) upper lower more (subst (λ (p : ℕ). AreTyped types p (calls ++ more)) at typed),
        )

    test_fine : (tables : ℕ) (t : Test) (place : ℕ) → IsFine place (test_calls s tables t place)
    test_fine tables test.Nothing place = λ more typed. (record { made_at = refl; operands = tt; edges = (refl, tt) }, tt)
    test_fine tables (test.OneKey range other) place =
        fine_both place (block_for other) _ (λ more typed. fine_block other) (one_key_fine place range.now other (range.now.first == 0))
    test_fine tables (test.NotBelow first above other) place =
        fine_both place (block_for other) _ (λ more typed. fine_block other) (not_below_fine place first _ _ other)
    test_fine tables (test.Table range) place = table_fine tables place range.now

    entering_fine : (blocks : List Name) (number : ℕ) → Fine (entering blocks number)
    entering_fine blocks zero = tt
    entering_fine blocks (suc n) = (tt, (tt, tt))

    pub nodes_fine : (nodes : List Node) (blocks : List Name) (tables place : ℕ) → IsFine place (nodes_calls s blocks tables nodes place)
    nodes_fine [] blocks tables place = λ more typed. tt
    nodes_fine (node ∷ nodes) blocks tables place =
        fine_both place (node_calls s blocks tables node place) _
        (fine_both place (entering blocks node.number) (test_calls s tables node.test (place + length (entering blocks node.number))) (λ more typed. entering_fine blocks node.number)
        (test_fine tables node.test (place + length (entering blocks node.number))))
        (nodes_fine nodes (blocks_with blocks node place) (tables + tables_of node.test) (place + length (node_calls s blocks tables node place)))
