-- The test for equal names, and places with names, under a renaming that keeps names apart.
use Rattle.std.proofs.Common.{◌≡◌, Bool, true, false, List, [], ◌∷◌, map, refl, sym, ◌∙◌, ap, ap₂}
use Rattle.std.specs.Prelude.{◌==◌, if◌then◌else◌}
use Rattle.std.proofs.lemmas.Bool.{and_parts, eq-eqb, eqb-true}
use Rattle.clif_meaning.specs.Bits.{Bits}
use Rattle.clif_meaning.specs.Instruction.{Argument, Known, CallResult, CallPayload}
use Rattle.clif_meaning.specs.Name.{Name, answer_of, same_name}
use Rattle.clif_meaning.specs.Store.{argument_bits, assigned}
use Rattle.clif_renaming.specs.Renaming.{KeepsApart, renamed_argument}

pub names_equal : (a b : Name) → same_name a b ≡ true → a ≡ b
names_equal a b same =
    let both = and_parts (a.place == b.place) (a.index == b.index) same in
    ap₂ answer_of (eqb-true a.place b.place both.0) (eqb-true a.index b.index both.1)

equal_names : (a b : Name) → a ≡ b → same_name a b ≡ true
equal_names a b same =
    let places : (a.place == b.place) ≡ true = eq-eqb a.place b.place (ap (λ (n : Name). n.place) same) in
    let indices : (a.index == b.index) ≡ true = eq-eqb a.index b.index (ap (λ (n : Name). n.index) same) in
    rw places (rw indices refl)

module _ (rename : Name → Name) (apart : KeepsApart rename) where
  -- the test answers the same of renamed names
  pub same_renamed : (a b : Name) → same_name (rename a) (rename b) ≡ same_name a b
  same_renamed a b = by (same_name a b) refl (same_name (rename a) (rename b)) refl
    where
      by : (c : Bool) → same_name a b ≡ c → (d : Bool) → same_name (rename a) (rename b) ≡ d → same_name (rename a) (rename b) ≡ same_name a b
      by true is d other = equal_names (rename a) (rename b) (ap rename (names_equal a b is)) ∙ sym is
      by false is true other = other ∙ sym (equal_names a b (apart a b (names_equal (rename a) (rename b) other)))
      by false is false other = other ∙ sym is

  -- what renamed names are given they hold, where renamed names held what the names held
  pub assigned_renamed : (places : List Name) (values : List Bits) (old new : Name → Bits) → ((x : Name) → new (rename x) ≡ old x)
      → (x : Name) → assigned same_name (map rename places) values new (rename x) ≡ assigned same_name places values old x
  assigned_renamed [] values old new same x = same x
  assigned_renamed (place ∷ places) [] old new same x = same x
  assigned_renamed (place ∷ places) (bits ∷ values) old new same x =
      ap₂ (λ (test : Bool) (other : Bits). if test then bits else other) (same_renamed x place) (assigned_renamed places values old new same x)

module _ (rename : Name → Name) (old new : Name → Bits) (same : (x : Name) → new (rename x) ≡ old x) where
  -- what renamed arguments of edges hold
  argument_renamed : (given : List Bits) (argument : Argument Name) → argument_bits new given (renamed_argument rename argument) ≡ argument_bits old given argument
  argument_renamed given (Known name) = same name
  argument_renamed given (CallResult index) = refl
  argument_renamed given (CallPayload index) = refl

  pub arguments_renamed : (given : List Bits) (arguments : List (Argument Name))
      → map (argument_bits new given) (map (renamed_argument rename) arguments) ≡ map (argument_bits old given) arguments
  arguments_renamed given [] = refl
  arguments_renamed given (argument ∷ arguments) =
      ap₂ (λ (bits : Bits) (rest : List Bits). bits ∷ rest) (argument_renamed given argument) (arguments_renamed given arguments)

-- what renamed names have, as their bits or types
pub each_renamed : {X : Type 0} (rename : Name → Name) (old new : Name → X) → ((x : Name) → new (rename x) ≡ old x)
    → (names : List Name) → map new (map rename names) ≡ map old names
each_renamed rename old new same [] = refl
each_renamed {X} rename old new same (name ∷ names) =
    ap₂ (λ (x : X) (rest : List X). x ∷ rest) (same name) (each_renamed rename old new same names)
