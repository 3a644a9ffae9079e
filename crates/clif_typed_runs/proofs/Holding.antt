-- Places that hold values of their types, which both machines share: what is assigned to them, what operands and edges read
-- from them, and that zero fits.
use Rattle.std.proofs.Common.{◌≡◌, ℕ, zero, suc, List, [], ◌∷◌, ◌++◌, map, refl, sym, subst, true, false, Bool, Some, if◌then◌else◌}
use Rattle.std.proofs.lemmas.List.{append-nil}
use Rattle.std.specs.Prelude.{slice_get, slice_index}
use Rattle.clif_types.specs.declared.types.«Type».{«Type»}
use Rattle.clif_types.specs.Types.{bits_of}
use Rattle.clif_meaning.specs.Bits.{Bits, IsValue, AreValues}
use Rattle.clif_meaning.specs.Instruction.{Argument, Known, CallResult, CallPayload, Edge}
use Rattle.clif_meaning.specs.Store.{assigned, argument_bits}
use Rattle.clif_meaning.specs.Typing.{argument_type, EdgeMatches}
use Rattle.clif_meaning.proofs.SampleWorld.{pow_pos}
use Rattle.clif_typed_runs.specs.ValuesFit.{HoldValues}

-- zero is a value of every type
pub zeros_hold : {Place : Type 0} (type_of : Place → «Type») → HoldValues type_of (λ place. 0)
zeros_hold type_of place = pow_pos (bits_of (type_of place))

-- at each place of these types stands a value of the type there
abbrev pub FitAt : List «Type» → List Bits → Type 0
FitAt types values = (k : ℕ) (ty : «Type») → slice_get types k ≡ Some ty → IsValue ty (slice_index values k)

pub none_fit : (values : List Bits) → FitAt [] values
none_fit values zero ty is = let none : ⊥ = cc in absurd none
none_fit values (suc k) ty is = let none : ⊥ = cc in absurd none

pub all_fit : (types : List «Type») (values : List Bits) → AreValues types values → FitAt types values
all_fit [] values fit k ty is = none_fit values k ty is
all_fit (first ∷ types) [] fit k ty is = absurd fit
all_fit (first ∷ types) (bits ∷ values) fit zero ty is = subst (λ (t : «Type»). IsValue t bits) (same first ty is) fit.0
  where
    same : (a b : «Type») → Some a ≡ Some b → a ≡ b
    same a b e = cc
all_fit (first ∷ types) (bits ∷ values) fit (suc k) ty is = all_fit types values fit.1 k ty is

-- ASSIGNMENTS -----------------------------------------------------------------------------------------------------------

module _ {Place : Type 0} (same : Place → Place → Bool) (decides : (a b : Place) → same a b ≡ true → a ≡ b) (type_of : Place → «Type») where
  one_assigned : (place : Place) (bits : Bits) (rest : Place → Bits) → IsValue (type_of place) bits → HoldValues type_of rest
      → HoldValues type_of (λ other. if same other place then bits else rest other)
  one_assigned place bits rest fits holds other = by (same other place) refl
    where
      by : (c : Bool) → same other place ≡ c → IsValue (type_of other) (if c then bits else rest other)
      by true is = subst (λ (p : Place). IsValue (type_of p) bits) (sym (decides other place is)) fits
      by false is = holds other

  -- places of which the first ones are given values of their types, all at once, hold values
  pub assigned_front : (places : List Place) (values : List Bits) (old : Place → Bits) (types more : List «Type») → map type_of places ≡ types ++ more
      → AreValues types values → HoldValues type_of old → HoldValues type_of (assigned same places values old)
  assigned_front [] values old types more begins fits holds = holds
  assigned_front (place ∷ places) [] old types more begins fits holds = holds
  assigned_front (place ∷ places) (bits ∷ values) old [] more begins fits holds = absurd fits
  assigned_front (place ∷ places) (bits ∷ values) old (ty ∷ types) more begins fits holds =
      let here : type_of place ≡ ty = cc in
      let others : map type_of places ≡ types ++ more = cc in
      one_assigned place bits (assigned same places values old) (subst (λ (t : «Type»). IsValue t bits) (sym here) fits.0)
      (assigned_front places values old types more others fits.1 holds)

  pub assigned_hold : (places : List Place) (values : List Bits) (old : Place → Bits) → AreValues (map type_of places) values → HoldValues type_of old
      → HoldValues type_of (assigned same places values old)
  assigned_hold places values old fits holds = assigned_front places values old (map type_of places) [] (sym (append-nil (map type_of places))) fits holds

-- OPERANDS AND EDGES ----------------------------------------------------------------------------------------------------

module _ {Operand : Type 0} (type_of : Operand → «Type») (bits : Operand → Bits) (holds : HoldValues type_of bits) where
  pub operands_fit : (operands : List Operand) → AreValues (map type_of operands) (map bits operands)
  operands_fit [] = tt
  operands_fit (operand ∷ operands) = (holds operand, operands_fit operands)

  -- what an edge passes, beside operands what the call at its start gave
  module _ (results payload : List «Type») (given : List Bits) (results_fit : FitAt results given) (payload_fits : FitAt payload given) where
    argument_fits : (argument : Argument Operand) (ty : «Type») → argument_type type_of results payload argument ≡ Some ty
        → IsValue ty (argument_bits bits given argument)
    argument_fits (Known operand) ty is = subst (λ (t : «Type»). IsValue t (bits operand)) (same (type_of operand) ty is) (holds operand)
      where
        same : (a b : «Type») → Some a ≡ Some b → a ≡ b
        same a b e = cc
    argument_fits (CallResult index) ty is = results_fit index ty is
    argument_fits (CallPayload index) ty is = payload_fits index ty is

    arguments_fit : (arguments : List (Argument Operand)) (types : List «Type»)
        → map (argument_type type_of results payload) arguments ≡ map (λ ty. Some ty) types → AreValues types (map (argument_bits bits given) arguments)
    arguments_fit [] [] match = tt
    arguments_fit [] (ty ∷ types) match = let none : ⊥ = cc in absurd none
    arguments_fit (argument ∷ arguments) [] match = let none : ⊥ = cc in absurd none
    arguments_fit (argument ∷ arguments) (ty ∷ types) match =
        let first : argument_type type_of results payload argument ≡ Some ty = cc in
        let others : map (argument_type type_of results payload) arguments ≡ map (λ t. Some t) types = cc in
        (argument_fits argument ty first, arguments_fit arguments types others)

    -- these are values of the types of its target's parameters
    pub edge_fits : {Block : Type 0} (parameter_types : Block → List «Type») (edge : Edge Block Operand)
        → EdgeMatches type_of parameter_types results payload edge → AreValues (parameter_types edge.target) (map (argument_bits bits given) edge.arguments)
    edge_fits parameter_types edge match = arguments_fit edge.arguments (parameter_types edge.target) match
