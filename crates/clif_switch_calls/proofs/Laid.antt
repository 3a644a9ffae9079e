-- The code of a switch is laid.
use Rattle.std.proofs.Common.{◌≡◌, ◌+◌, ◌-◌, ℕ, ℤ, zero, suc, Bool, true, false, List, [], ◌∷◌, ◌++◌, length, refl, sym, ◌∙◌, ap, subst, append_assoc, inl, inr}
use Rattle.std.specs.Prelude.{Contains, ◌^◌, ◌/◌, if◌then◌else◌}
use Rattle.clif_opcodes.specs.declared.opcodes.BinaryOpcode.TheVariants.{Iadd, Isub}
use Rattle.clif_opcodes.specs.declared.opcodes.ConvertOpcode.TheVariants.{Sextend}
use Rattle.clif_types.specs.declared.types.LaneType.TheVariants as lane
use Rattle.clif_types.specs.declared.types.«Type».{«Type»}
use Rattle.clif_types.specs.declared.types.«Type».TheVariants as type
use Rattle.clif_meaning.specs.Instruction.{Arithmetic, Binary, Concat, Convert, Iconst, Instruction}
use Rattle.clif_meaning.specs.Name.{Name, answer_of}
use Rattle.clif_meaning.specs.Program.{Item, Instruct, Program, result_names}
use Rattle.clif_expansion.specs.ConstantCalls.{constant_instructions, constant_name}
use Rattle.clif_expansion.specs.Constants.{computing, i64}
use Rattle.clif_expansion.specs.JoinedPrograms.{built_items}
use Rattle.clif_expansion.specs.Laying.{Ending, Entering, HasGiven, IsToHand, Laying, Lays}
use Rattle.clif_expansion.specs.Reading.{Reading}
use Rattle.clif_expansion.specs.Walk.{IsGenerated}
use Rattle.clif_expansion.proofs.Placing.{contained_first, contained_later}
use Rattle.clif_switch_calls.specs.SwitchCalls.{difference, difference_name, is_composed, is_subtracted, negated_64, number_instructions, number_name, signed_64, with_number, with_number_name}
use Rattle.clif_switch_calls.proofs.Basics.{last_name}
use Rattle.clif_switch_calls.proofs.Branches.{conditional}
use Rattle.clif_switch_calls.proofs.Lines.{built_append}

module _ (reading : Reading) (program : Program) (item : Item) where
  abbrev LaysFrom : List Name → List Item → Type 0
  LaysFrom given code = Lays reading program item given [] code

  -- These items give a name, beside what was given before.
  pub record Feeds (given : List Name) (items : List Item) (name : Name) : Type 0 where
    pub after : List Name
    pub lays : (rest : List Item) → LaysFrom after rest → LaysFrom given (items ++ rest)
    pub has : Contains after name
    pub kept : (x : Name) → Contains given x → Contains after x

  abbrev pub ToHand : List Name → Name → Type 0
  ToHand given x = IsToHand reading item given x

  abbrev computed : (place : ℕ) (arithmetic : Arithmetic) (ty : «Type») (operands : List Name) → Item
  computed place arithmetic ty operands = Instruct place (computing arithmetic ty operands) (answer_of place 1 ∷ [])

  abbrev FeedsOne : List Name → ℕ → Arithmetic → «Type» → List Name → Type 0
  FeedsOne given place arithmetic ty operands = Feeds given (computed place arithmetic ty operands ∷ []) (answer_of place 1)

  fed_none : (given : List Name) (place : ℕ) (arithmetic : Arithmetic) (ty : «Type») → FeedsOne given place arithmetic ty []
  fed_none given place arithmetic ty = record {
    after = answer_of place 1 ∷ given;
    lays = λ rest lays. Laying given (computed place arithmetic ty []) rest tt tt lays;
    has = contained_first (answer_of place 1) given;
    kept = λ x here. contained_later (answer_of place 1) given x here;
  }

  pub fed_single : (given : List Name) (place : ℕ) (arithmetic : Arithmetic) (ty : «Type») (x : Name) → ToHand given x → FeedsOne given place arithmetic ty (x ∷ [])
  fed_single given place arithmetic ty x hand = record {
    after = answer_of place 1 ∷ given;
    lays = λ rest lays. Laying given (computed place arithmetic ty (x ∷ [])) rest (hand, tt) tt lays;
    has = contained_first (answer_of place 1) given;
    kept = λ y here. contained_later (answer_of place 1) given y here;
  }

  fed_pair : (given : List Name) (place : ℕ) (arithmetic : Arithmetic) (ty : «Type») (x y : Name) → ToHand given x → ToHand given y → FeedsOne given place arithmetic ty (x ∷ y ∷ [])
  fed_pair given place arithmetic ty x y first second = record {
    after = answer_of place 1 ∷ given;
    lays = λ rest lays. Laying given (computed place arithmetic ty (x ∷ y ∷ [])) rest (first, (second, tt)) tt lays;
    has = contained_first (answer_of place 1) given;
    kept = λ z here. contained_later (answer_of place 1) given z here;
  }

  fed_both : (given : List Name) (items : List Item) (name : Name) (first : Feeds given items name) (items' : List Item) (name' : Name) → Feeds first.after items' name' → Feeds given (items ++ items') name'
  fed_both given items name first items' name' second = record {
    after = second.after;
    lays = λ rest lays. subst (LaysFrom given) (sym (append_assoc items items' rest)) (first.lays (items' ++ rest) (second.lays rest lays));
    has = second.has;
    kept = λ x here. second.kept x (first.kept x here);
  }

  -- what is to hand stays so
  pub still : (given later : List Name) → ((x : Name) → Contains given x → Contains later x) → (x : Name) → ToHand given x → ToHand later x
  still given later keeps x (inl here) = inl (keeps x here)
  still given later keeps x (inr named) = inr named

  -- LINES -----------------------------------------------------------------------------------------------------------------

  constant_fed : (ty : «Type») (number : ℤ) (place : ℕ) (given : List Name) → Feeds given (built_items place (constant_instructions ty number place)) (constant_name ty place)
  constant_fed (type.Lane lane.I128) number place given =
      let first = fed_none given place (Iconst number) i64 in
      fed_both given (computed place (Iconst number) i64 [] ∷ []) (answer_of place 1) first (computed (suc place) (Convert Sextend) (type.Lane lane.I128) (answer_of place 1 ∷ []) ∷ []) (answer_of (suc place) 1)
      (fed_single first.after (suc place) (Convert Sextend) (type.Lane lane.I128) (answer_of place 1) (inl first.has))
  constant_fed (type.Lane lane.I8) number place given = fed_none given place (Iconst number) (type.Lane lane.I8)
  constant_fed (type.Lane lane.I16) number place given = fed_none given place (Iconst number) (type.Lane lane.I16)
  constant_fed (type.Lane lane.I32) number place given = fed_none given place (Iconst number) (type.Lane lane.I32)
  constant_fed (type.Lane lane.I64) number place given = fed_none given place (Iconst number) (type.Lane lane.I64)
  constant_fed (type.Lane lane.F16) number place given = fed_none given place (Iconst number) (type.Lane lane.F16)
  constant_fed (type.Lane lane.F32) number place given = fed_none given place (Iconst number) (type.Lane lane.F32)
  constant_fed (type.Lane lane.F64) number place given = fed_none given place (Iconst number) (type.Lane lane.F64)
  constant_fed (type.Lane lane.F128) number place given = fed_none given place (Iconst number) (type.Lane lane.F128)
  constant_fed type.Invalid number place given = fed_none given place (Iconst number) type.Invalid
  constant_fed (type.Vector l n) number place given = fed_none given place (Iconst number) (type.Vector l n)

  composed_fed : (number place : ℕ) (given : List Name)
      → Feeds given
      (built_items place (computing (Iconst (signed_64 number)) i64 [] ∷ computing (Iconst (signed_64 (number / 2 ^ 64))) i64 []
      ∷ computing Concat i64 (answer_of place 1 ∷ answer_of (suc place) 1 ∷ []) ∷ [])) (answer_of (suc (suc place)) 1)
  composed_fed number place given =
      let low = fed_none given place (Iconst (signed_64 number)) i64 in
      let high = fed_none low.after (suc place) (Iconst (signed_64 (number / 2 ^ 64))) i64 in
      fed_both given (computed place (Iconst (signed_64 number)) i64 [] ∷ []) (answer_of place 1) low
      (computed (suc place) (Iconst (signed_64 (number / 2 ^ 64))) i64 [] ∷ computed (suc (suc place)) Concat i64 (answer_of place 1 ∷ answer_of (suc place) 1 ∷ []) ∷ []) (answer_of (suc (suc place)) 1)
      (fed_both low.after (computed (suc place) (Iconst (signed_64 (number / 2 ^ 64))) i64 [] ∷ []) (answer_of (suc place) 1) high
      (computed (suc (suc place)) Concat i64 (answer_of place 1 ∷ answer_of (suc place) 1 ∷ []) ∷ []) (answer_of (suc (suc place)) 1)
      (fed_pair high.after (suc (suc place)) Concat i64 (answer_of place 1) (answer_of (suc place) 1) (inl (high.kept (answer_of place 1) low.has)) (inl high.has)))

  number_fed : (ty : «Type») (number place : ℕ) (given : List Name) → Feeds given (built_items place (number_instructions ty number place)) (number_name ty number place)
  number_fed ty number place given = by (is_composed ty number)
    where
      by : (c : Bool) → Feeds given
          (built_items place (if c then computing (Iconst (signed_64 number)) i64 [] ∷ computing (Iconst (signed_64 (number / 2 ^ 64))) i64 []
          ∷ computing Concat i64 (answer_of place 1 ∷ answer_of (suc place) 1 ∷ []) ∷ [] else constant_instructions ty (signed_64 number) place))
          (if c then answer_of (suc (suc place)) 1 else constant_name ty place)
      by true = composed_fed number place given
      by false = constant_fed ty (signed_64 number) place given

  last_fed : (place : ℕ) (code : List (Instruction Name Name)) (name : Name) (given : List Name) → Feeds given (built_items place code) name
      → (arithmetic : Arithmetic) (ty : «Type») (x : Name) → ((q : ℕ) (operands : List Name) → result_names q (computing arithmetic ty operands) ≡ answer_of q 1 ∷ []) → ToHand given x
      → Feeds given (built_items place (code ++ computing arithmetic ty (x ∷ name ∷ []) ∷ [])) (answer_of (place + length code) 1)
  last_fed place code name given fed arithmetic ty x gives hand =
      let q : ℕ = place + length code in
      subst (λ (items : List Item). Feeds given items (answer_of q 1))
      (ap (λ (results : List Name). built_items place code ++ Instruct q (computing arithmetic ty (x ∷ name ∷ [])) results ∷ []) (sym (gives q (x ∷ name ∷ [])))
      ∙ sym (built_append place code (computing arithmetic ty (x ∷ name ∷ []) ∷ [])))
      (fed_both given (built_items place code) name fed (computed q arithmetic ty (x ∷ name ∷ []) ∷ []) (answer_of q 1)
      (fed_pair fed.after q arithmetic ty x name (still given fed.after fed.kept x hand) (inl fed.has)))

  pub with_fed : (arithmetic : Arithmetic) (ty : «Type») (number place : ℕ) (x : Name) (given : List Name)
      → ((q : ℕ) (operands : List Name) → result_names q (computing arithmetic ty operands) ≡ answer_of q 1 ∷ []) → ToHand given x
      → Feeds given (built_items place (with_number arithmetic ty number place x)) (with_number_name ty number place)
  with_fed arithmetic ty number place x given gives hand =
      last_fed place (number_instructions ty number place) (number_name ty number place) given (number_fed ty number place given) arithmetic ty x gives hand

  -- what a difference leaves: where there is none, the name is the one that was to hand
  pub record Differs (given : List Name) (items : List Item) (name : Name) : Type 0 where
    pub after : List Name
    pub lays : (rest : List Item) → LaysFrom after rest → LaysFrom given (items ++ rest)
    pub hand : ToHand after name
    pub kept : (x : Name) → Contains given x → Contains after x

  differs_by : (given : List Name) (items : List Item) (name : Name) → Feeds given items name → Differs given items name
  differs_by given items name fed = record { after = fed.after; lays = fed.lays; hand = inl fed.has; kept = fed.kept }

  pub difference_fed : (ty : «Type») (first place : ℕ) (x : Name) (given : List Name) → ToHand given x → Differs given (built_items place (difference ty first place x)) (difference_name ty first place x)
  difference_fed ty zero place x given hand = record { after = given; lays = λ rest lays. lays; hand = hand; kept = λ y here. here }
  difference_fed ty (suc n) place x given hand = differs_by given _ _ (by (is_subtracted ty (suc n)))
    where
      by : (c : Bool) → Feeds given
          (built_items place (if c then with_number (Binary Isub) ty (suc n) place x
          else constant_instructions ty (negated_64 (suc n)) place ++ computing (Binary Iadd) ty (x ∷ constant_name ty place ∷ []) ∷ []))
          (answer_of (place + (length (if c then with_number (Binary Isub) ty (suc n) place x
          else constant_instructions ty (negated_64 (suc n)) place ++ computing (Binary Iadd) ty (x ∷ constant_name ty place ∷ []) ∷ []) - 1)) 1)
      by true =
          subst (λ (name : Name). Feeds given (built_items place (with_number (Binary Isub) ty (suc n) place x)) name)
          (last_name place (number_instructions ty (suc n) place) (computing (Binary Isub) ty (x ∷ number_name ty (suc n) place ∷ [])))
          (with_fed (Binary Isub) ty (suc n) place x given (λ q operands. refl) hand)
      by false =
          subst (λ (name : Name). Feeds given (built_items place (constant_instructions ty (negated_64 (suc n)) place ++ computing (Binary Iadd) ty (x ∷ constant_name ty place ∷ []) ∷ [])) name)
          (last_name place (constant_instructions ty (negated_64 (suc n)) place) (computing (Binary Iadd) ty (x ∷ constant_name ty place ∷ [])))
          (last_fed place (constant_instructions ty (negated_64 (suc n)) place) (constant_name ty place) given (constant_fed ty (negated_64 (suc n)) place given) (Binary Iadd) ty x (λ q operands. refl) hand)

  -- BRANCHES --------------------------------------------------------------------------------------------------------------

  -- control may go to the block from wherever these names are given
  abbrev pub LaysTo : Name → Type 0
  LaysTo block = (given blocks : List Name) (code : List Item) → Lays reading program item given blocks code → Lays reading program item given (block ∷ blocks) code

  pub enters : (block : Name) → IsGenerated reading block → ((given : List Name) → LaysFrom given (program.items block)) → LaysTo block
  enters block generated lays given blocks code more = Entering given block blocks code generated (lays (program.parameters block ++ given)) more

  module _ (ended : (given : List Name) → HasGiven reading item given) where
    pub conditional_lays : (given : List Name) (place : ℕ) (ty : «Type») (condition taken other : Name) → ToHand given condition → LaysTo taken → LaysTo other
        → LaysFrom given (Instruct place (conditional ty condition taken other) [] ∷ [])
    conditional_lays given place ty condition taken other hand first second =
        Laying given (Instruct place (conditional ty condition taken other) []) [] (hand, tt) tt (first given (other ∷ []) [] (second given [] [] (Ending given (ended given))))
