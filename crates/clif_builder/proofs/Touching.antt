-- Which variables were used or assigned: what agrees with that, and what it says of records.
use Rattle.std.proofs.Common.{◌≡◌, ◌<◌, ◌≤◌, ℕ, zero, suc, Bool, true, false, List, [], ◌∷◌, ◌++◌, length, refl, sym, ◌∙◌, ap, arith, inl, inr}
use Rattle.std.specs.Prelude.{◌==◌, ◌||◌, ◌&&◌, is_some, not, map, slice_get, Option, Some, None, if◌then◌else◌}
use Rattle.std.proofs.lemmas.Bool.{cases_eq, eq-eqb, false≢true, ne_eqb, or_left, or_right}
use Rattle.std.proofs.lemmas.Option.{slice_get_within}
use Rattle.clif_types.specs.EntitySet.{has}
use Rattle.clif_types.specs.declared.types.LaneType.TheVariants as lane
use Rattle.clif_types.specs.declared.types.«Type».{«Type»}
use Rattle.clif_types.specs.declared.types.«Type».TheVariants as type
use Rattle.clif_types.proofs.Marks.{has-with_member}
use Rattle.clif_ir.specs.Body.{Body}
use Rattle.clif_meaning.specs.Ledger.{VariableState, marked_at, new_variable, touched_at}
use Rattle.clif_ssa.specs.Own.{Own}
use Rattle.clif_ssa.specs.Ssa.{record_of}
use Rattle.clif_ssa.specs.Structured.{VariableTypes}
use Rattle.clif_builder.specs.Context.{ContextState, SameVariables, TouchesVariable, is_untouched}
use Rattle.clif_builder.specs.Ledger.{VariablesAgree, is_new, was_touched}
use Rattle.clif_builder.specs.Order.{AreTypesOf, IsInOrder, IsStructured}
use Rattle.clif_builder.proofs.Placed.{are_listed, listed_types}

-- TYPES -----------------------------------------------------------------------------------------------------------------

-- types of the variables after a call are types of those before it, where it touches none
pub are_types : (c d : ContextState) (types : VariableTypes) → SameVariables c d → AreTypesOf d types → AreTypesOf c types
are_types c d types same are x ty declared touched =
    are x ty (ap (λ (xs : List «Type»). slice_get xs x) same.0 ∙ declared) (ap (λ (xs : List ℕ). has xs x) same.1 ∙ touched)

-- and where it touches one
pub types_before : (c d : ContextState) (variable : ℕ) (types : VariableTypes) → TouchesVariable c d variable → AreTypesOf d types → AreTypesOf c types
types_before c d variable types touches are x ty declared touched =
    are x ty (ap (λ (xs : List «Type»). slice_get xs x) touches.0 ∙ declared)
    (ap (λ (xs : List ℕ). has xs x) touches.1 ∙ has-with_member c.touched variable x ∙ or_right (variable == x) (has c.touched x) touched)

-- which has its type then
pub type_touched : (c d : ContextState) (variable : ℕ) (ty : «Type») (types : VariableTypes) → TouchesVariable c d variable → slice_get c.variables variable ≡ Some ty
    → AreTypesOf d types → types variable ≡ ty
type_touched c d variable ty types touches declared are =
    are variable ty (ap (λ (xs : List «Type»). slice_get xs variable) touches.0 ∙ declared)
    (ap (λ (xs : List ℕ). has xs variable) touches.1 ∙ has-with_member c.touched variable variable
    ∙ or_left (variable == variable) (has c.touched variable) (eq-eqb variable variable refl))

-- AGREEMENT -------------------------------------------------------------------------------------------------------------

pub agree_same : (states : List VariableState) (c d : ContextState) → SameVariables c d → VariablesAgree states c → VariablesAgree states d
agree_same states c d same agree =
    record { types = agree.types ∙ sym same.0; touched = λ x. agree.touched x ∙ sym (ap (λ (xs : List ℕ). has xs x) same.1) }

-- a mark on a variable leaves the types
types-touched : (variable : ℕ) (states : List VariableState) → map (λ (v : VariableState). v.ty) (touched_at variable states) ≡ map (λ (v : VariableState). v.ty) states
types-touched variable [] = refl
types-touched zero (s ∷ states) = refl
types-touched (suc variable) (s ∷ states) = ap (λ (types : List «Type»). s.ty ∷ types) (types-touched variable states)

next_equal : (a b : ℕ) → (suc a == suc b) ≡ (a == b)
next_equal a b =
    elim (cases_eq a b) [
      | inl same ↦ eq-eqb (suc a) (suc b) (ap suc same) ∙ sym (eq-eqb a b same)
      | inr differ ↦ ne_eqb (suc a) (suc b) (λ same. differ (omega (arith, same))) ∙ sym (ne_eqb a b differ)
    ]

-- one that is there is touched, and no other
touched_here : (states : List VariableState) (variable x : ℕ) → variable < length states
    → was_touched (slice_get (touched_at variable states) x) ≡ ((variable == x) || was_touched (slice_get states x))
touched_here [] variable x inside = absurd (omega (arith, inside))
touched_here (state ∷ states) zero zero inside = refl
touched_here (state ∷ states) zero (suc x) inside = ap (λ (t : Bool). t || was_touched (slice_get states x)) (sym (ne_eqb 0 (suc x) (λ same. omega (arith, same))))
touched_here (state ∷ states) (suc variable) zero inside = ap (λ (t : Bool). t || state.is_touched) (sym (ne_eqb (suc variable) 0 (λ same. omega (arith, same))))
touched_here (state ∷ states) (suc variable) (suc x) inside =
    touched_here states variable x (omega (arith, inside)) ∙ ap (λ (t : Bool). t || was_touched (slice_get states x)) (sym (next_equal variable x))

pub agree_touched : (states : List VariableState) (c d : ContextState) (variable : ℕ) → variable < length states → TouchesVariable c d variable
    → VariablesAgree states c → VariablesAgree (touched_at variable states) d
agree_touched states c d variable inside touches agree =
    record {
      types = types-touched variable states ∙ agree.types ∙ sym touches.0;
      touched = λ x.
          touched_here states variable x inside ∙ ap (λ (t : Bool). (variable == x) || t) (agree.touched x)
          ∙ sym (ap (λ (xs : List ℕ). has xs x) touches.1 ∙ has-with_member c.touched variable x);
    }

-- a new variable isn't
new_untouched : (states : List VariableState) (ty : «Type») (x : ℕ) → was_touched (slice_get (states ++ new_variable ty ∷ []) x) ≡ was_touched (slice_get states x)
new_untouched [] ty zero = refl
new_untouched [] ty (suc x) = refl
new_untouched (state ∷ states) ty zero = refl
new_untouched (state ∷ states) ty (suc x) = new_untouched states ty x

types_declared : (states : List VariableState) (ty : «Type») → map (λ (v : VariableState). v.ty) (states ++ new_variable ty ∷ []) ≡ map (λ (v : VariableState). v.ty) states ++ ty ∷ []
types_declared [] ty = refl
types_declared (state ∷ states) ty = ap (λ (types : List «Type»). state.ty ∷ types) (types_declared states ty)

pub agree_declared : (states : List VariableState) (c : ContextState) (ty : «Type») → VariablesAgree states c
    → VariablesAgree (states ++ new_variable ty ∷ []) (record c { variables = c.variables ++ ty ∷ [] })
agree_declared states c ty agree =
    record {
      types = types_declared states ty ∙ ap (λ (types : List «Type»). types ++ ty ∷ []) agree.types;
      touched = λ x. new_untouched states ty x ∙ agree.touched x;
    }

-- nor is one touched that is marked
types_marked : (variable : ℕ) (states : List VariableState) → map (λ (v : VariableState). v.ty) (marked_at variable states) ≡ map (λ (v : VariableState). v.ty) states
types_marked variable [] = refl
types_marked zero (state ∷ states) = refl
types_marked (suc variable) (state ∷ states) = ap (λ (types : List «Type»). state.ty ∷ types) (types_marked variable states)

touched_marked : (variable : ℕ) (states : List VariableState) (x : ℕ) → was_touched (slice_get (marked_at variable states) x) ≡ was_touched (slice_get states x)
touched_marked variable [] x = refl
touched_marked zero (state ∷ states) zero = refl
touched_marked zero (state ∷ states) (suc x) = refl
touched_marked (suc variable) (state ∷ states) zero = refl
touched_marked (suc variable) (state ∷ states) (suc x) = touched_marked variable states x

pub agree_marked : (states : List VariableState) (c : ContextState) (variable : ℕ) → VariablesAgree states c → VariablesAgree (marked_at variable states) c
agree_marked states c variable agree =
    record {
      types = types_marked variable states ∙ agree.types;
      touched = λ x. touched_marked variable states x ∙ agree.touched x;
    }

-- a variable is new by its state where it is untouched by its number
pub agree_new : (states : List VariableState) (c : ContextState) (x : ℕ) → VariablesAgree states c → is_untouched c x ≡ is_new (slice_get states x)
agree_new states c x agree =
    ap (λ (types : List «Type»). is_some (slice_get types x) && not (has c.touched x)) (sym agree.types)
    ∙ ap (λ (t : Bool). is_some (slice_get (map (λ (v : VariableState). v.ty) states) x) && not t) (sym (agree.touched x)) ∙ by states x
  where
    by : (states : List VariableState) (x : ℕ)
        → (is_some (slice_get (map (λ (v : VariableState). v.ty) states) x) && not (was_touched (slice_get states x))) ≡ is_new (slice_get states x)
    by [] zero = refl
    by [] (suc x) = refl
    by (state ∷ states) zero = refl
    by (state ∷ states) (suc x) = by states x

-- RECORDS ---------------------------------------------------------------------------------------------------------------

-- types of variables but for one, which has this type
abbrev with_type : ContextState → ℕ → «Type» → VariableTypes
with_type c x ty y = if y == x then ty else listed_types c.variables y

if_other : (y x : ℕ) (ty other : «Type») (test : Bool) → test ≡ false → (if test then ty else other) ≡ other
if_other y x ty other true is = absurd (let no_way : ⊥ = cc in no_way)
if_other y x ty other false is = refl

if_here : (ty other : «Type») (test : Bool) → test ≡ true → (if test then ty else other) ≡ ty
if_here ty other true is = refl
if_here ty other false is = absurd (let no_way : ⊥ = cc in no_way)

-- a variable that wasn't declared and touched has any type
abbrev HasAnyType : ContextState → ℕ → Type 0
HasAnyType c x = (kind : «Type») → slice_get c.variables x ≡ Some kind → has c.touched x ≡ true → ⊥

are_with_type : (c : ContextState) (x : ℕ) (ty : «Type») → HasAnyType c x → AreTypesOf c (with_type c x ty)
are_with_type c x ty any y kind declared touched =
    elim (cases_eq y x) [
      | inl same ↦ absurd (any kind (ap (slice_get c.variables) (sym same) ∙ declared) (ap (has c.touched) (sym same) ∙ touched))
      | inr other ↦ if_other y x ty (listed_types c.variables y) (y == x) (ne_eqb y x other) ∙ are_listed c y kind declared touched
    ]

-- What is recorded for a variable has each type that it may have: so nothing is recorded for one that has any.
any_unused : (own : Own) (f : Body) (c : ContextState) (x : ℕ) → IsStructured own f c → HasAnyType c x → (b : ℕ) → record_of c.ssa x b ≡ None
any_unused own f c x structured any b = by (record_of c.ssa x b) refl
  where
    typed : (ty : «Type») (v : ℕ) → record_of c.ssa x b ≡ Some v → with_type c x ty x ≡ ty
    typed ty v is = if_here ty (listed_types c.variables x) (x == x) (eq-eqb x x refl)

    by : (found : Option ℕ) → record_of c.ssa x b ≡ found → record_of c.ssa x b ≡ None
    by None is = is
    by (Some v) is =
        let one = (structured (with_type c x type.Invalid) (are_with_type c x type.Invalid any)).recorded x b v is in
        let two = (structured (with_type c x (type.Lane lane.I8)) (are_with_type c x (type.Lane lane.I8) any)).recorded x b v is in
        let first : with_type c x type.Invalid x ≡ type.Invalid = typed type.Invalid v is in
        let second : with_type c x (type.Lane lane.I8) x ≡ type.Lane lane.I8 = typed (type.Lane lane.I8) v is in
        let same : type.Invalid ≡ type.Lane lane.I8 = sym first ∙ sym one.1 ∙ two.1 ∙ second in
        let no_way : ⊥ = cc in
        absurd no_way

-- for one that wasn't touched
pub untouched_unused : (own : Own) (f : Body) (c : ContextState) (x : ℕ) → IsStructured own f c → has c.touched x ≡ false → (b : ℕ) → record_of c.ssa x b ≡ None
untouched_unused own f c x structured untouched b = any_unused own f c x structured (λ kind declared touched. false≢true (sym untouched ∙ touched)) b

-- or that wasn't declared
pub undeclared_unused : (own : Own) (f : Body) (c : ContextState) (x : ℕ) → IsStructured own f c → length c.variables ≤ x → (b : ℕ) → record_of c.ssa x b ≡ None
undeclared_unused own f c x structured past b =
    any_unused own f c x structured (λ kind declared touched. omega (arith, past, slice_get_within c.variables x kind declared)) b

pub new_unused : (f : Body) (c : ContextState) (x : ℕ) → IsInOrder f c → is_untouched c x ≡ true → (b : ℕ) → record_of c.ssa x b ≡ None
new_unused f c x order new = untouched_unused order.own f c x order.structured (by (is_some (slice_get c.variables x)) (has c.touched x) new)
  where
    by : (a t : Bool) → (a && not t) ≡ true → t ≡ false
    by true true is = let no_way : ⊥ = cc in absurd no_way
    by true false is = refl
    by false t is = let no_way : ⊥ = cc in absurd no_way
