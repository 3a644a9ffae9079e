-- Walks through instructions that compute, and along branches.
use Rattle.std.proofs.Common.{◌≡◌, ◌<◌, ◌≤◌, ◌+◌, ◌-◌, ℕ, zero, suc, Bool, true, false, List, [], ◌∷◌, ◌++◌, length, map, refl, sym, ◌∙◌, ap, ap₂, subst, arith, append_assoc}
use Rattle.std.specs.Prelude.{◌^◌, ◌%◌, ◌/◌, ℤ, if◌then◌else◌, nat_lt, nat_le, IsTrue}
use Rattle.std.proofs.Math.Nat.{mod-eq_of_lt}
use Rattle.std.proofs.lemmas.Bool.Decides.{nat_tests}
use Rattle.clif_opcodes.specs.declared.opcodes.BinaryOpcode.TheVariants.{Iadd, Isub}
use Rattle.clif_opcodes.specs.declared.opcodes.ConvertOpcode.TheVariants.{Sextend}
use Rattle.clif_types.specs.declared.condcodes.IntCC.{IntCC}
use Rattle.clif_types.specs.declared.types.LaneType.TheVariants as lane
use Rattle.clif_types.specs.declared.types.«Type».{«Type»}
use Rattle.clif_types.specs.declared.types.«Type».TheVariants as type
use Rattle.clif_types.specs.Types.{bits_of, is_int}
use Rattle.clif_meaning.specs.Bits.{Bits, wrapped}
use Rattle.clif_meaning.specs.Instruction.{Arithmetic, Binary, Compare, Concat, Convert, Iconst, Instruction}
use Rattle.clif_meaning.specs.Name.{Name, answer_of, same_name}
use Rattle.clif_meaning.specs.Outcome.{Values, compares, computed}
use Rattle.clif_meaning.specs.Program.{Item, Instruct, result_names}
use Rattle.clif_meaning.specs.Store.{assigned}
use Rattle.clif_expansion.specs.ConstantCalls.{constant_instructions, constant_name}
use Rattle.clif_expansion.specs.Constants.{computing, i64}
use Rattle.clif_expansion.specs.JoinedPrograms.{built_items}
use Rattle.clif_expansion.specs.Walk.{Computing, IsGenerated, Surroundings, Walk}
use Rattle.clif_expansion.proofs.Names.{equal_names}
use Rattle.clif_switch_calls.specs.SwitchCalls.{negated_64, number_instructions, number_name, signed_64, with_number, with_number_name, difference, difference_name, is_subtracted}
use Rattle.clif_switch_calls.proofs.Basics.{last_name, other_name}
use Rattle.clif_switch_calls.proofs.Numbers.{difference_above, difference_by_sum, extended, of_halves, small_signed, wrapped_64, wrapped_negated, wrapped_negated_64, wrapped_small}

-- Control goes through these items, whatever stands behind them.
pub record Leads (around : Surroundings) (items : List Item) (before after : Name → Bits) : Type 0 where
  pub leads : (block : Name) (rest : List Item) (final : Name → Bits) (branches tables : ℕ)
      → Walk around block rest after final branches tables → Walk around block (items ++ rest) before final branches tables

-- So these items, from this place on, leave bits in a name, and earlier names as they were.
pub record Makes (around : Surroundings) (place : ℕ) (items : List Item) (name : Name) (bits : Bits) (before : Name → Bits) : Type 0 where
  pub after : Name → Bits
  pub leads : Leads around items before after
  pub holds : after name ≡ bits
  pub kept : (x : Name) → x.place < place → after x ≡ before x

pub built_append : (place : ℕ) (code more : List (Instruction Name Name)) → built_items place (code ++ more) ≡ built_items place code ++ built_items (place + length code) more
built_append place [] more = ap (λ (p : ℕ). built_items p more) (omega arith)
built_append place (first ∷ code) more =
    ap (λ (items : List Item). built_items place (first ∷ []) ++ items)
    (built_append (suc place) code more ∙ ap (λ (p : ℕ). built_items (suc place) code ++ built_items p more) (omega arith))

module _ (base : ℕ) (around : Surroundings) (generated : (x : Name) → base ≤ x.place → IsGenerated around.reading x) where
  -- nothing is computed
  pub made_before : (place : ℕ) (name : Name) (before : Name → Bits) → Makes around place [] name (before name) before
  made_before place name before = record {
    after = before;
    leads = record { leads = λ block rest final branches tables walk. walk };
    holds = refl;
    kept = λ x earlier. refl;
  }

  -- one result is computed
  pub made_one : (place : ℕ) (arithmetic : Arithmetic) (ty : «Type») (operands : List Name) (value : Bits) (before : Name → Bits)
      → base ≤ place → computed arithmetic ty (map around.types operands) (map before operands) ≡ Values (value ∷ [])
      → Makes around place (Instruct place (computing arithmetic ty operands) (answer_of place 1 ∷ []) ∷ []) (answer_of place 1) value before
  made_one place arithmetic ty operands value before behind does = record {
    after = assigned same_name (answer_of place 1 ∷ []) (value ∷ []) before;
    leads = record {
      leads = λ block rest final branches tables walk.
          Computing place (computing arithmetic ty operands) (answer_of place 1 ∷ []) rest (value ∷ []) before final branches tables
          (record { arithmetic = arithmetic; is_arithmetic = refl; computes = does; generated = (generated (answer_of place 1) behind, tt) }) walk;
    };
    holds = ap (λ (c : Bool). if c then value else before (answer_of place 1)) (equal_names (answer_of place 1) (answer_of place 1) refl);
    kept = λ x earlier. ap (λ (c : Bool). if c then value else before x) (other_name x (answer_of place 1) (λ same. omega (arith, same, earlier)));
  }

  -- one thing behind another
  pub made_both : (place : ℕ) (items : List Item) (name : Name) (bits : Bits) (before : Name → Bits) → (first : Makes around place items name bits before)
      → (place' : ℕ) (items' : List Item) (name' : Name) (bits' : Bits) → place ≤ place' → Makes around place' items' name' bits' first.after
      → Makes around place (items ++ items') name' bits' before
  made_both place items name bits before first place' items' name' bits' later second = record {
    after = second.after;
    leads = record {
      leads = λ block rest final branches tables walk.
          subst (λ (all : List Item). Walk around block all before final branches tables) (sym (append_assoc items items' rest))
          (first.leads.leads block (items' ++ rest) final branches tables (second.leads.leads block rest final branches tables walk));
    };
    holds = second.holds;
    kept = λ x earlier. second.kept x (omega (arith, earlier, later)) ∙ first.kept x earlier;
  }

  -- NUMBERS ---------------------------------------------------------------------------------------------------------------

  -- the narrow constant has 64 bits, where there is one
  abbrev pub HasNarrow : «Type» → ℕ → Type 0
  HasNarrow ty place = ty ≡ type.Lane lane.I128 → around.types (answer_of place 1) ≡ i64

  abbrev wide : «Type»
  wide = type.Lane lane.I128

  -- at once, by a constant with a number of 64 bits
  pub at_once : (ty : «Type») (number : ℤ) (value place : ℕ) (before : Name → Bits) → base ≤ place → wrapped (bits_of ty) number ≡ value
      → Makes around place (Instruct place (computing (Iconst number) ty []) (answer_of place 1 ∷ []) ∷ []) (answer_of place 1) value before
  at_once ty number value place before behind is =
      made_one place (Iconst number) ty [] value before behind (ap (λ (bits : Bits). Values (bits ∷ [])) is)

  -- with its sign repeated
  pub at_twice : (number : ℤ) (value place : ℕ) (before : Name → Bits) → base ≤ place → around.types (answer_of place 1) ≡ i64
      → computed (Convert Sextend) wide (i64 ∷ []) (wrapped 64 number ∷ []) ≡ Values (value ∷ [])
      → Makes around place (built_items place (constant_instructions wide number place)) (answer_of (suc place) 1) value before
  at_twice number value place before behind narrow extends =
      let first = at_once i64 number (wrapped 64 number) place before behind refl in
      made_both place _ (answer_of place 1) (wrapped 64 number) before first (suc place) _ (answer_of (suc place) 1) value (omega arith)
      (made_one (suc place) (Convert Sextend) wide (answer_of place 1 ∷ []) value first.after (omega (arith, behind))
      (ap₂ (λ (ty : «Type») (bits : Bits). computed (Convert Sextend) wide (ty ∷ []) (bits ∷ [])) narrow first.holds ∙ extends))

  -- of two halves
  composed : (number place : ℕ) (before : Name → Bits) → base ≤ place → number < 2 ^ 128
      → Makes around place
      (built_items place (computing (Iconst (signed_64 number)) i64 [] ∷ computing (Iconst (signed_64 (number / 2 ^ 64))) i64 []
      ∷ computing Concat i64 (answer_of place 1 ∷ answer_of (suc place) 1 ∷ []) ∷ []))
      (answer_of (suc (suc place)) 1) number before
  composed number place before behind small =
      let low = at_once i64 (signed_64 number) (wrapped 64 (signed_64 number)) place before behind refl in
      let high = at_once i64 (signed_64 (number / 2 ^ 64)) (wrapped 64 (signed_64 (number / 2 ^ 64))) (suc place) low.after (omega (arith, behind)) refl in
      made_both place _ (answer_of place 1) (wrapped 64 (signed_64 number)) before low (suc place) _ (answer_of (suc (suc place)) 1) number (omega arith)
      (made_both (suc place) _ (answer_of (suc place) 1) (wrapped 64 (signed_64 (number / 2 ^ 64))) low.after high (suc (suc place)) _ (answer_of (suc (suc place)) 1) number (omega arith)
      (made_one (suc (suc place)) Concat i64 (answer_of place 1 ∷ answer_of (suc place) 1 ∷ []) number high.after (omega (arith, behind))
      (ap₂ (λ (a b : Bits). computed Concat i64 (around.types (answer_of place 1) ∷ around.types (answer_of (suc place) 1) ∷ []) (a ∷ b ∷ []))
      (high.kept (answer_of place 1) (omega arith) ∙ low.holds) high.holds
      ∙ ap (λ (bits : Bits). Values (bits ∷ [])) (of_halves number small))))

  abbrev pub MakesNumber : «Type» → (number place : ℕ) → (Name → Bits) → Type 0
  MakesNumber ty number place before = Makes around place (built_items place (number_instructions ty number place)) (number_name ty number place) number before

  abbrev MakesWide : (number place : ℕ) (before : Name → Bits) → Bool → Type 0
  MakesWide number place before c = Makes around place
      (built_items place (if c then computing (Iconst (signed_64 number)) i64 [] ∷ computing (Iconst (signed_64 (number / 2 ^ 64))) i64 []
      ∷ computing Concat i64 (answer_of place 1 ∷ answer_of (suc place) 1 ∷ []) ∷ [] else constant_instructions wide (signed_64 number) place))
      (if c then answer_of (suc (suc place)) 1 else constant_name wide place) number before

  wide_made : (number place : ℕ) (before : Name → Bits) → base ≤ place → number < 2 ^ 128 → around.types (answer_of place 1) ≡ i64 → MakesNumber wide number place before
  wide_made number place before behind small narrow = by (nat_le (2 ^ 63) number) refl
    where
      by : (c : Bool) → nat_le (2 ^ 63) number ≡ c → MakesNumber wide number place before
      by true is = subst (MakesWide number place before) (sym is) (composed number place before behind small)
      by false is =
          let under : number < 9223372036854775808 = grind (arith, nat_tests) in
          subst (MakesWide number place before) (sym is)
          (at_twice (signed_64 number) number place before behind narrow
          (ap (λ (z : ℤ). computed (Convert Sextend) wide (i64 ∷ []) (wrapped 64 z ∷ [])) (small_signed number under)
          ∙ ap (λ (bits : Bits). Values (bits ∷ [])) (extended number under)))

  pub number_made : (ty : «Type») (number place : ℕ) (before : Name → Bits) → IsTrue (is_int ty) → base ≤ place → number < 2 ^ bits_of ty → HasNarrow ty place → MakesNumber ty number place before
  number_made (type.Lane lane.I8) number place before int behind small narrow = at_once (type.Lane lane.I8) (signed_64 number) number place before behind (wrapped_small 8 number (omega (arith, small)) small)
  number_made (type.Lane lane.I16) number place before int behind small narrow = at_once (type.Lane lane.I16) (signed_64 number) number place before behind (wrapped_small 16 number (omega (arith, small)) small)
  number_made (type.Lane lane.I32) number place before int behind small narrow = at_once (type.Lane lane.I32) (signed_64 number) number place before behind (wrapped_small 32 number (omega (arith, small)) small)
  number_made (type.Lane lane.I64) number place before int behind small narrow = at_once (type.Lane lane.I64) (signed_64 number) number place before behind (wrapped_64 number small)
  number_made (type.Lane lane.I128) number place before int behind small narrow = wide_made number place before behind small (narrow refl)
  number_made type.Invalid number place before int behind small narrow = let none : ⊥ = cc in absurd none
  number_made (type.Vector l n) number place before int behind small narrow = let none : ⊥ = cc in absurd none
  number_made (type.Lane lane.F16) number place before int behind small narrow = let none : ⊥ = cc in absurd none
  number_made (type.Lane lane.F32) number place before int behind small narrow = let none : ⊥ = cc in absurd none
  number_made (type.Lane lane.F64) number place before int behind small narrow = let none : ⊥ = cc in absurd none
  number_made (type.Lane lane.F128) number place before int behind small narrow = let none : ⊥ = cc in absurd none

  -- ARITHMETIC ------------------------------------------------------------------------------------------------------------

  -- arithmetic on a name and on what was made before it
  pub made_last : (place : ℕ) (code : List (Instruction Name Name)) (name : Name) (number : Bits) (before : Name → Bits) → base ≤ place
      → Makes around place (built_items place code) name number before
      → (arithmetic : Arithmetic) (ty : «Type») (x : Name) (f : Bits → Bits → Bits) → ((ts : List «Type») (a b : Bits) → computed arithmetic ty ts (a ∷ b ∷ []) ≡ Values (f a b ∷ []))
      → ((q : ℕ) (operands : List Name) → result_names q (computing arithmetic ty operands) ≡ answer_of q 1 ∷ []) → x.place < place
      → Makes around place (built_items place (code ++ computing arithmetic ty (x ∷ name ∷ []) ∷ [])) (answer_of (place + length code) 1) (f (before x) number) before
  made_last place code name number before behind made arithmetic ty x f does gives earlier =
      let q : ℕ = place + length code in
      let last : Instruction Name Name = computing arithmetic ty (x ∷ name ∷ []) in
      subst (λ (items : List Item). Makes around place items (answer_of q 1) (f (before x) number) before)
      (ap (λ (results : List Name). built_items place code ++ Instruct q last results ∷ []) (sym (gives q (x ∷ name ∷ []))) ∙ sym (built_append place code (last ∷ [])))
      (made_both place (built_items place code) name number before made q (Instruct q last (answer_of q 1 ∷ []) ∷ []) (answer_of q 1) (f (before x) number) (omega arith)
      (made_one q arithmetic ty (x ∷ name ∷ []) (f (before x) number) made.after (omega (arith, behind))
      (does (map around.types (x ∷ name ∷ [])) (made.after x) (made.after name)
      ∙ ap₂ (λ (a b : Bits). Values (f a b ∷ [])) (made.kept x earlier) made.holds)))

  -- arithmetic on a name and a number
  pub made_with : (arithmetic : Arithmetic) (ty : «Type») (number place : ℕ) (x : Name) (before : Name → Bits)
      → (f : Bits → Bits → Bits) → ((ts : List «Type») (a b : Bits) → computed arithmetic ty ts (a ∷ b ∷ []) ≡ Values (f a b ∷ []))
      → ((q : ℕ) (operands : List Name) → result_names q (computing arithmetic ty operands) ≡ answer_of q 1 ∷ [])
      → IsTrue (is_int ty) → base ≤ place → number < 2 ^ bits_of ty → HasNarrow ty place → x.place < place
      → Makes around place (built_items place (with_number arithmetic ty number place x)) (with_number_name ty number place) (f (before x) number) before
  made_with arithmetic ty number place x before f does gives int behind small narrow earlier =
      made_last place (number_instructions ty number place) (number_name ty number place) number before behind (number_made ty number place before int behind small narrow)
      arithmetic ty x f does gives earlier

  -- a comparison with a number
  pub compared_with : (condition : IntCC) (ty : «Type») (number place : ℕ) (x : Name) (before : Name → Bits)
      → IsTrue (is_int ty) → base ≤ place → number < 2 ^ bits_of ty → HasNarrow ty place → x.place < place
      → Makes around place (built_items place (with_number (Compare condition) ty number place x)) (with_number_name ty number place)
      (if compares condition (bits_of ty) (before x) number then 1 else 0) before
  compared_with condition ty number place x before int behind small narrow earlier =
      made_with (Compare condition) ty number place x before (λ a b. if compares condition (bits_of ty) a b then 1 else 0) (λ ts a b. refl) (λ q operands. refl) int behind small narrow earlier

  -- DIFFERENCES -----------------------------------------------------------------------------------------------------------

  abbrev pub MakesConstant : «Type» → ℤ → (value place : ℕ) → (Name → Bits) → Type 0
  MakesConstant ty number value place before = Makes around place (built_items place (constant_instructions ty number place)) (constant_name ty place) value before

  wide_negated : (n : ℕ) → 0 < n → n ≤ 2 ^ 63 → computed (Convert Sextend) wide (i64 ∷ []) (wrapped 64 (negated_64 n) ∷ []) ≡ Values ((2 ^ 128 - n) ∷ [])
  wide_negated n some small =
      let negative : nat_le 9223372036854775808 (18446744073709551616 - n) ≡ true = grind (arith, nat_tests) in
      let far : 340282366920938463463374607431768211456 - (18446744073709551616 - (18446744073709551616 - n)) ≡ 340282366920938463463374607431768211456 - n = omega (arith, small) in
      ap (λ (x : ℕ). computed (Convert Sextend) wide (i64 ∷ []) (x ∷ [])) (wrapped_negated 64 n some small (omega (arith, small)))
      ∙ ap (λ (c : Bool). Values (((if c then 2 ^ 128 - (2 ^ 64 - (18446744073709551616 - n)) else 18446744073709551616 - n) % 2 ^ 128) ∷ [])) negative
      ∙ ap (λ (x : ℕ). Values ((x % 2 ^ 128) ∷ [])) far
      ∙ ap (λ (x : ℕ). Values (x ∷ [])) (mod-eq_of_lt (omega (arith, some)))

  negated_made : (ty : «Type») (n place : ℕ) (before : Name → Bits) → IsTrue (is_int ty) → base ≤ place → 0 < n → n < 2 ^ bits_of ty → (ty ≡ wide → n ≤ 2 ^ 63) → HasNarrow ty place
      → MakesConstant ty (negated_64 n) (2 ^ bits_of ty - n) place before
  negated_made (type.Lane lane.I8) n place before int behind some small fits narrow = at_once (type.Lane lane.I8) (negated_64 n) (2 ^ 8 - n) place before behind (wrapped_negated 8 n some (omega (arith, small)) small)
  negated_made (type.Lane lane.I16) n place before int behind some small fits narrow = at_once (type.Lane lane.I16) (negated_64 n) (2 ^ 16 - n) place before behind (wrapped_negated 16 n some (omega (arith, small)) small)
  negated_made (type.Lane lane.I32) n place before int behind some small fits narrow = at_once (type.Lane lane.I32) (negated_64 n) (2 ^ 32 - n) place before behind (wrapped_negated 32 n some (omega (arith, small)) small)
  negated_made (type.Lane lane.I64) n place before int behind some small fits narrow = at_once (type.Lane lane.I64) (negated_64 n) (2 ^ 64 - n) place before behind (wrapped_negated_64 n some small)
  negated_made (type.Lane lane.I128) n place before int behind some small fits narrow = at_twice (negated_64 n) (2 ^ 128 - n) place before behind (narrow refl) (wide_negated n some (fits refl))
  negated_made type.Invalid n place before int behind some small fits narrow = let none : ⊥ = cc in absurd none
  negated_made (type.Vector l k) n place before int behind some small fits narrow = let none : ⊥ = cc in absurd none
  negated_made (type.Lane lane.F16) n place before int behind some small fits narrow = let none : ⊥ = cc in absurd none
  negated_made (type.Lane lane.F32) n place before int behind some small fits narrow = let none : ⊥ = cc in absurd none
  negated_made (type.Lane lane.F64) n place before int behind some small fits narrow = let none : ⊥ = cc in absurd none
  negated_made (type.Lane lane.F128) n place before int behind some small fits narrow = let none : ⊥ = cc in absurd none

  abbrev pub MakesDifference : «Type» → (first place : ℕ) → Name → (Name → Bits) → Type 0
  MakesDifference ty first place x before =
      Makes around place (built_items place (difference ty first place x)) (difference_name ty first place x) ((before x + 2 ^ bits_of ty - first) % 2 ^ bits_of ty) before

  abbrev DifferenceCode : «Type» → (first place : ℕ) → Name → Bool → List (Instruction Name Name)
  DifferenceCode ty first place x c =
      if c then with_number (Binary Isub) ty first place x
      else constant_instructions ty (negated_64 first) place ++ computing (Binary Iadd) ty (x ∷ constant_name ty place ∷ []) ∷ []

  abbrev MakesBy : «Type» → (first place : ℕ) → Name → (Name → Bits) → Bool → Type 0
  MakesBy ty first place x before c =
      Makes around place (built_items place (DifferenceCode ty first place x c)) (answer_of (place + (length (DifferenceCode ty first place x c) - 1)) 1)
      ((before x + 2 ^ bits_of ty - first) % 2 ^ bits_of ty) before

  by_difference : (ty : «Type») (first place : ℕ) (x : Name) (before : Name → Bits) → IsTrue (is_int ty) → base ≤ place → first < 2 ^ bits_of ty → HasNarrow ty place → x.place < place
      → MakesBy ty first place x before true
  by_difference ty first place x before int behind small narrow earlier =
      subst (λ (name : Name). Makes around place (built_items place (with_number (Binary Isub) ty first place x)) name ((before x + 2 ^ bits_of ty - first) % 2 ^ bits_of ty) before)
      (last_name place (number_instructions ty first place) (computing (Binary Isub) ty (x ∷ number_name ty first place ∷ [])))
      (made_with (Binary Isub) ty first place x before (λ a b. (a + 2 ^ bits_of ty - b) % 2 ^ bits_of ty) (λ ts a b. refl) (λ q operands. refl) int behind small narrow earlier)

  by_sum : (ty : «Type») (first place : ℕ) (x : Name) (before : Name → Bits) → IsTrue (is_int ty) → base ≤ place → 0 < first → first < 2 ^ bits_of ty → (ty ≡ wide → first ≤ 2 ^ 63) → HasNarrow ty place
      → x.place < place → MakesBy ty first place x before false
  by_sum ty first place x before int behind some small fits narrow earlier =
      subst (λ (name : Name). Makes around place (built_items place (constant_instructions ty (negated_64 first) place ++ computing (Binary Iadd) ty (x ∷ constant_name ty place ∷ []) ∷ [])) name
      ((before x + 2 ^ bits_of ty - first) % 2 ^ bits_of ty) before)
      (last_name place (constant_instructions ty (negated_64 first) place) (computing (Binary Iadd) ty (x ∷ constant_name ty place ∷ [])))
      (subst (λ (bits : Bits). Makes around place (built_items place (constant_instructions ty (negated_64 first) place ++ computing (Binary Iadd) ty (x ∷ constant_name ty place ∷ []) ∷ []))
      (answer_of (place + length (constant_instructions ty (negated_64 first) place)) 1) bits before)
      (ap (λ (m : ℕ). m % 2 ^ bits_of ty) (difference_by_sum (2 ^ bits_of ty) (before x) first (omega (arith, small))))
      (made_last place (constant_instructions ty (negated_64 first) place) (constant_name ty place) (2 ^ bits_of ty - first) before behind
      (negated_made ty first place before int behind some small fits narrow)
      (Binary Iadd) ty x (λ a b. (a + b) % 2 ^ bits_of ty) (λ ts a b. refl) (λ q operands. refl) earlier))

  subtracted_so : (ty : «Type») (first : ℕ) → is_subtracted ty first ≡ false → ty ≡ wide → first ≤ 2 ^ 63
  subtracted_so ty first is same =
      let narrow : nat_lt 9223372036854775808 first ≡ false = sym (ap (λ (t : «Type»). is_subtracted t first) same) ∙ is in
      grind (arith, nat_tests)

  pub difference_made : (ty : «Type») (first place : ℕ) (x : Name) (before : Name → Bits) → IsTrue (is_int ty) → base ≤ place → first < 2 ^ bits_of ty → before x < 2 ^ bits_of ty
      → (0 < first → HasNarrow ty place) → x.place < place → MakesDifference ty first place x before
  difference_made ty zero place x before int behind small value narrow earlier =
      subst (λ (bits : Bits). Makes around place [] x bits before) (sym (difference_above (2 ^ bits_of ty) (before x) 0 value (omega arith) ∙ omega arith)) (made_before place x before)
  difference_made ty (suc n) place x before int behind small value narrow earlier = by (is_subtracted ty (suc n)) refl
    where
      by : (c : Bool) → is_subtracted ty (suc n) ≡ c → MakesDifference ty (suc n) place x before
      by true is = subst (MakesBy ty (suc n) place x before) (sym is) (by_difference ty (suc n) place x before int behind small (narrow (omega arith)) earlier)
      by false is = subst (MakesBy ty (suc n) place x before) (sym is)
          (by_sum ty (suc n) place x before int behind (omega arith) small (subtracted_so ty (suc n) is) (narrow (omega arith)) earlier)
