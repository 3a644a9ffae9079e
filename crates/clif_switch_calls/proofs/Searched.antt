-- Walks from node to node of the search.
use Rattle.std.proofs.Common.{◌≡◌, ◌<◌, ◌≤◌, ◌+◌, ◌-◌, ℕ, suc, Bool, true, false, List, [], ◌∷◌, ◌++◌, length, map, refl, sym, ◌∙◌, ap, subst, arith, append_assoc, None}
use Rattle.std.specs.Prelude.{◌^◌, ◌==◌, if◌then◌else◌, nat_lt, slice_get, slice_index_or, IsTrue, Contains}
use Rattle.std.proofs.lemmas.Bool.Decides.{nat_tests}
use Rattle.clif_types.specs.declared.condcodes.IntCC.{IntCC}
use Rattle.clif_types.specs.declared.condcodes.IntCC.TheVariants as cc
use Rattle.clif_types.specs.declared.types.«Type».{«Type»}
use Rattle.clif_types.specs.Types.{bits_of, is_int}
use Rattle.clif_ranges.specs.declared.ranges.CaseRange.{CaseRange}
use Rattle.clif_ranges.specs.declared.search.Next.{Next}
use Rattle.clif_ranges.specs.declared.search.Next.TheVariants as next
use Rattle.clif_ranges.specs.declared.search.Test.{Test}
use Rattle.clif_ranges.specs.declared.search.Test.TheVariants as test
use Rattle.clif_ranges.specs.Search.{Found, IsTestOf, behind_a_branch, block_in, goes_on, tested}
use Rattle.clif_meaning.specs.Bits.{Bits}
use Rattle.clif_meaning.specs.Instruction.{Compare, Instruction}
use Rattle.clif_meaning.specs.Name.{Name, answer_of}
use Rattle.clif_meaning.specs.Outcome.{compares}
use Rattle.clif_meaning.specs.Program.{Item}
use Rattle.clif_meaning.specs.Request.{Request, CreateBlock, Script}
use Rattle.clif_expansion.specs.Emission.{building}
use Rattle.clif_expansion.specs.JoinedPrograms.{built_items}
use Rattle.clif_expansion.specs.Walk.{IsGenerated, Surroundings}
use Rattle.clif_switch_calls.specs.SwitchCalls.{Switched, block_for, branching, compared, first_block, i8, name_for, test_calls, with_number, with_number_name}
use Rattle.clif_switch_calls.proofs.Branches.{At, Reaches, Walked, more_allowed, target_of, walked_on, walks_conditional, walks_jump}
use Rattle.clif_switch_calls.proofs.Codes.{AreTyped, Entered, code_building, code_of, typed_behind}
use Rattle.clif_switch_calls.proofs.Lines.{Makes, compared_with}
use Rattle.clif_switch_calls.proofs.Tables.{has_narrow, table_walks, with_begins}

-- the range's keys are numbers of the type, and it isn't too long
pub record Fits (ty : «Type») (range : CaseRange) : Type 0 where
  pub some : 0 < length range.blocks.items
  pub keys : range.first + length range.blocks.items ≤ 2 ^ bits_of ty
  pub short : length range.blocks.items < 2 ^ 32

-- CALLS THAT MAKE A BLOCK -------------------------------------------------------------------------------------------------

pub code_behind : (other : Next) (place : ℕ) (more : Script) → code_of place (block_for other ++ more) ≡ code_of (place + length (block_for other)) more
code_behind next.Otherwise place more = ap (λ (p : ℕ). code_of p more) (omega arith)
code_behind (next.Node n) place more = ap (λ (p : ℕ). code_of p more) (omega arith)

-- the first key's block
pub first_there : (s : Switched) (range : CaseRange) (key : ℕ) → 0 < length range.blocks.items → key ≡ range.first → first_block s range ≡ target_of s (block_in range key)
first_there s range key some same =
    let above : nat_lt key range.first ≡ false = grind (arith, nat_tests) in
    let none : key - range.first ≡ 0 = omega (arith, same) in
    by range.blocks.items some
    ∙ ap (λ (i : ℕ). target_of s (slice_get range.blocks.items i)) (sym none)
    ∙ ap (λ (c : Bool). target_of s (if c then None else slice_get range.blocks.items (key - range.first))) (sym above)
  where
    by : (blocks : List ℕ) → 0 < length blocks → s.named (slice_index_or blocks 0 0) ≡ target_of s (slice_get blocks 0)
    by [] none = absurd (omega (arith, none))
    by (block ∷ blocks) some = refl

module _ (base : ℕ) (around : Surroundings) (generated : (x : Name) → base ≤ x.place → IsGenerated around.reading x) (s : Switched) (int : IsTrue (is_int s.ty))
    (before : s.value.place < base) (key : ℕ) (small : key < 2 ^ bits_of s.ty) where
  abbrev pub Holds : (Name → Bits) → Type 0
  Holds names = names s.value ≡ key

  -- COMPARISONS -----------------------------------------------------------------------------------------------------------

  module _ (condition : IntCC) (number place : ℕ) (taken other : Name) (more : Script) (behind : base ≤ place) (fits : number < 2 ^ bits_of s.ty)
      (typed : AreTyped around.types place (compared s condition number place taken other ++ more)) where
    abbrev line : List (Instruction Name Name)
    line = with_number (Compare condition) s.ty number place s.value

    abbrev branch : Request
    branch = branching i8 (with_number_name s.ty number place) taken other

    grouped : compared s condition number place taken other ++ more ≡ map building line ++ (branch ∷ more)
    grouped = append_assoc (map building line) (branch ∷ []) more

    compared_walks : (c : Bool) (target : Name) (branches : ℕ) → compares condition (bits_of s.ty) key number ≡ c
        → Reaches around Holds (if c then taken else other) target branches → (names : Name → Bits) → Holds names
        → Walked around target (code_of place (compared s condition number place taken other ++ more)) names (suc branches)
    compared_walks c target branches is reaches names holds =
        subst (λ (items : List Item). Walked around target items names (suc branches)) (sym (ap (code_of place) grouped ∙ code_building place line (branch ∷ more)))
        (walked_on around target (built_items place line) _ names made.after (suc branches) made.leads (by c is reaches))
      where
        made : Makes around place (built_items place line) (with_number_name s.ty number place) (if compares condition (bits_of s.ty) (names s.value) number then 1 else 0) names
        made = compared_with base around generated condition s.ty number place s.value names int behind fits
            (has_narrow around.types s.ty place (λ t. with_number (Compare condition) t number place s.value) (branch ∷ more) (with_begins (Compare condition) number place s.value)
            (subst (AreTyped around.types place) grouped typed))
            (omega (arith, before, behind))

        still : made.after s.value ≡ key
        still = made.kept s.value (omega (arith, before, behind)) ∙ holds

        came : (d : Bool) → compares condition (bits_of s.ty) key number ≡ d → made.after (with_number_name s.ty number place) ≡ (if d then 1 else 0)
        came d so = made.holds ∙ ap (λ (n : ℕ). if compares condition (bits_of s.ty) n number then 1 else 0) holds ∙ ap (λ (e : Bool). if e then 1 else 0) so

        by : (d : Bool) → compares condition (bits_of s.ty) key number ≡ d → Reaches around Holds (if d then taken else other) target branches
            → Walked around target (code_of (place + length line) (branch ∷ more)) made.after (suc branches)
        by true so goes =
            walks_conditional around Holds made.after still (place + length line) i8 (with_number_name s.ty number place) taken other _ false target branches
            (ap (λ (n : ℕ). n == 0) (came true so)) goes
        by false so goes =
            walks_conditional around Holds made.after still (place + length line) i8 (with_number_name s.ty number place) taken other _ true target branches
            (ap (λ (n : ℕ). n == 0) (came false so)) goes

  -- TESTS -----------------------------------------------------------------------------------------------------------------

  -- the block is where the search goes on so, or generated
  abbrev pub IsAt : Name → Found → Type 0
  IsAt block found = Reaches around Holds block (target_of s found.block) (found.branches + 1)

  -- so is each block that a test goes on to
  abbrev pub GoOn : (ℕ → Found) → Test → (place : ℕ) → Type 0
  GoOn from test.Nothing place = Unit {0}
  GoOn from (test.OneKey range other) place = IsAt (name_for s other place) (goes_on from other)
  GoOn from (test.NotBelow first above other) place = IsAt (name_for s other place) (goes_on from other) × IsAt (answer_of (place + length (block_for other)) 0) (from above)
  GoOn from (test.Table range) place = Unit {0}

  module _ (ranges : List CaseRange) (fit : (range : CaseRange) → Contains ranges range → Fits s.ty range) where
    abbrev pub TestWalks : (ℕ → Found) → (tables : ℕ) → Test → (place : ℕ) → Script → Type 0
    TestWalks from tables test place more =
        (names : Name → Bits) → Holds names
        → Walked around (target_of s (tested from test key).block) (code_of place (test_calls s tables test place ++ more)) names ((tested from test key).branches + 1)

    -- the branch on the key itself, where 0 is the case
    zero_walks : (from : ℕ → Found) (tables place : ℕ) (range : CaseRange) (other : Next) (more : Script) → range.first ≡ 0 → 0 < length range.blocks.items
        → IsAt (name_for s other place) (goes_on from other) → (names : Name → Bits) → Holds names
        → (c : Bool) → (key == 0) ≡ c
        → Walked around (target_of s (if c then record { block = block_in range key; branches = 0 } else goes_on from other).block)
        (code_of (place + length (block_for other)) (branching s.ty s.value (name_for s other place) (first_block s range) ∷ more)) names
        (suc ((if c then record { block = block_in range key; branches = 0 } else goes_on from other).branches + 1))
    zero_walks from tables place range other more zero_first some goes names holds true is =
        walks_conditional around Holds names holds (place + length (block_for other)) s.ty s.value (name_for s other place) (first_block s range) _ true _ (0 + 1)
        (ap (λ (n : ℕ). n == 0) holds ∙ is) (At (first_there s range key some (zero_key ∙ sym zero_first)))
      where
        zero_key : key ≡ 0
        zero_key = grind (arith, nat_tests)
    zero_walks from tables place range other more zero_first some goes names holds false is =
        walks_conditional around Holds names holds (place + length (block_for other)) s.ty s.value (name_for s other place) (first_block s range) _ false _ ((goes_on from other).branches + 1)
        (ap (λ (n : ℕ). n == 0) holds ∙ is) goes

    -- ONE KEY -------------------------------------------------------------------------------------------------------------

    module _ (from : ℕ → Found) (tables place : ℕ) (range : CaseRange) (other : Next) (more : Script) (behind : base ≤ place) (fits : Fits s.ty range)
        (goes : IsAt (name_for s other place) (goes_on from other)) where
      abbrev begin : ℕ
      begin = place + length (block_for other)

      abbrev OneKeyCalls : Bool → Script
      OneKeyCalls c =
          block_for other
          ++ (if c then branching s.ty s.value (name_for s other place) (first_block s range) ∷ []
          else compared s cc.Equal range.first begin (first_block s range) (name_for s other place))

      abbrev found : Bool → Found
      found c = if c then record { block = block_in range key; branches = 0 } else goes_on from other

      abbrev OneKeyWalks : (names : Name → Bits) → (c same : Bool) → Type 0
      OneKeyWalks names c same =
          Walked around (target_of s (behind_a_branch (found same)).block) (code_of place (OneKeyCalls c ++ more)) names ((behind_a_branch (found same)).branches + 1)

      found_there : (c : Bool) → (key == range.first) ≡ c → Reaches around Holds (if c then first_block s range else name_for s other place) (target_of s (found c).block) ((found c).branches + 1)
      found_there true is = At (first_there s range key fits.some (grind (arith, nat_tests)))
      found_there false is = goes

      on_zero : (names : Name → Bits) → Holds names → (range.first == 0) ≡ true → OneKeyWalks names true (key == range.first)
      on_zero names holds zero_is =
          let zero_first : range.first ≡ 0 = grind (arith, nat_tests) in
          subst (λ (n : ℕ). OneKeyWalks names true (key == n)) (sym zero_first)
          (subst (λ (items : List Item). Walked around (target_of s (behind_a_branch (found (key == 0))).block) items names ((behind_a_branch (found (key == 0))).branches + 1))
          (sym (ap (code_of place) (append_assoc (block_for other) _ more) ∙ code_behind other place _))
          (more_allowed around _ _ names _ _ (omega arith) (zero_walks from tables place range other more zero_first fits.some goes names holds (key == 0) refl)))

      on_other : (names : Name → Bits) → Holds names → AreTyped around.types place (OneKeyCalls false ++ more) → OneKeyWalks names false (key == range.first)
      on_other names holds typed =
          let calls : Script = compared s cc.Equal range.first begin (first_block s range) (name_for s other place) in
          let typed_on : AreTyped around.types begin (calls ++ more) =
          typed_behind around.types place (block_for other) (calls ++ more) (subst (AreTyped around.types place) (append_assoc (block_for other) calls more) typed) in
          subst (λ (items : List Item). Walked around (target_of s (behind_a_branch (found (key == range.first))).block) items names ((behind_a_branch (found (key == range.first))).branches + 1))
          (sym (ap (code_of place) (append_assoc (block_for other) calls more) ∙ code_behind other place (calls ++ more)))
          (more_allowed around _ _ names _ _ (omega arith)
          (compared_walks cc.Equal range.first begin (first_block s range) (name_for s other place) more (omega (arith, behind)) (let some = fits.some in let keys = fits.keys in omega (arith, some, keys)) typed_on
          (key == range.first) (target_of s (found (key == range.first)).block) ((found (key == range.first)).branches + 1) refl (found_there (key == range.first) refl) names holds))

      one_key_walks : AreTyped around.types place (OneKeyCalls (range.first == 0) ++ more) → (names : Name → Bits) → Holds names → OneKeyWalks names (range.first == 0) (key == range.first)
      one_key_walks typed names holds = by (range.first == 0) refl
        where
          by : (c : Bool) → (range.first == 0) ≡ c → OneKeyWalks names (range.first == 0) (key == range.first)
          by true is = subst (λ (c : Bool). OneKeyWalks names c (key == range.first)) (sym is) (on_zero names holds is)
          by false is = subst (λ (c : Bool). OneKeyWalks names c (key == range.first)) (sym is)
              (on_other names holds (subst (λ (c : Bool). AreTyped around.types place (OneKeyCalls c ++ more)) is typed))

    -- NOT BELOW -----------------------------------------------------------------------------------------------------------

    module _ (from : ℕ → Found) (tables place first above : ℕ) (other : Next) (more : Script) (behind : base ≤ place) (fits : first < 2 ^ bits_of s.ty)
        (goes : IsAt (name_for s other place) (goes_on from other)) (rises : IsAt (answer_of (place + length (block_for other)) 0) (from above))
        (typed : AreTyped around.types place (test_calls s tables (test.NotBelow first above other) place ++ more)) where
      abbrev upper : Name
      upper = answer_of (place + length (block_for other)) 0

      abbrev compare_at : ℕ
      compare_at = place + suc (length (block_for other))

      abbrev comparing : Script
      comparing = compared s cc.UnsignedGreaterThanOrEqual first compare_at upper (name_for s other place)

      at_compare : suc (place + length (block_for other)) ≡ compare_at
      at_compare = omega arith

      split_calls : test_calls s tables (test.NotBelow first above other) place ++ more ≡ block_for other ++ (CreateBlock ∷ (comparing ++ more))
      split_calls = append_assoc (block_for other) (CreateBlock ∷ comparing) more

      split_code : code_of place (test_calls s tables (test.NotBelow first above other) place ++ more) ≡ code_of compare_at (comparing ++ more)
      split_code =
          ap (code_of place) split_calls ∙ code_behind other place (CreateBlock ∷ (comparing ++ more)) ∙ ap (λ (p : ℕ). code_of p (comparing ++ more)) at_compare

      split_typed : AreTyped around.types compare_at (comparing ++ more)
      split_typed =
          subst (λ (p : ℕ). AreTyped around.types p (comparing ++ more)) at_compare
          (typed_behind around.types place (block_for other) (CreateBlock ∷ (comparing ++ more)) (subst (AreTyped around.types place) split_calls typed))

      abbrev side : Bool → Found
      side c = if c then goes_on from other else from above

      not_below_walks : (names : Name → Bits) → Holds names
          → Walked around (target_of s (behind_a_branch (side (nat_lt key first))).block) (code_of place (test_calls s tables (test.NotBelow first above other) place ++ more)) names
          ((behind_a_branch (side (nat_lt key first))).branches + 1)
      not_below_walks names holds =
          subst (λ (items : List Item). Walked around (target_of s (behind_a_branch (side (nat_lt key first))).block) items names ((behind_a_branch (side (nat_lt key first))).branches + 1)) (sym split_code)
          (more_allowed around _ _ names _ _ (omega arith) (by (nat_lt key first) refl))
        where
          by : (c : Bool) → nat_lt key first ≡ c
              → Walked around (target_of s (side c).block) (code_of compare_at (comparing ++ more)) names (suc ((side c).branches + 1))
          by true is =
              compared_walks cc.UnsignedGreaterThanOrEqual first compare_at upper (name_for s other place) more (omega (arith, behind)) fits split_typed
              false _ _ (grind (arith, nat_tests)) goes names holds
          by false is =
              compared_walks cc.UnsignedGreaterThanOrEqual first compare_at upper (name_for s other place) more (omega (arith, behind)) fits split_typed
              true _ _ (grind (arith, nat_tests)) rises names holds

    -- ANY TEST ------------------------------------------------------------------------------------------------------------

    pub test_walks : (from : ℕ → Found) (tables : ℕ) (t : Test) (place : ℕ) (more : Script) → base ≤ place → IsTestOf ranges t → GoOn from t place
        → Entered around.program place (test_calls s tables t place ++ more) → AreTyped around.types place (test_calls s tables t place ++ more) → TestWalks from tables t place more
    test_walks from tables test.Nothing place more behind is goes entered typed names holds =
        walks_jump around place _ s.otherwise s.otherwise (code_of (suc place) more) names 1 refl refl
    test_walks from tables (test.OneKey range other) place more behind is goes entered typed names holds =
        one_key_walks from tables place range.now other more behind (fit range.now is.0) goes typed names holds
    test_walks from tables (test.NotBelow first above other) place more behind is goes entered typed names holds =
        let fits = fit is.0 is.1 in
        let some = fits.some in
        let keys = fits.keys in
        not_below_walks from tables place first above other more behind (omega (arith, some, keys, is.2)) goes.0 goes.1 typed names holds
    test_walks from tables (test.Table range) place more behind is goes entered typed names holds =
        let fits = fit range.now is.0 in
        table_walks base around generated s int tables place range.now more behind before entered typed fits.some fits.keys fits.short key small names holds
