-- Names that stand for names of a script, and what they have.
use Rattle.std.proofs.Common.{◌≡◌, Bool, true, false, List, [], ◌∷◌, map, refl, sym, ◌∙◌, ap, ap₂}
use Rattle.std.specs.Prelude.{◌==◌, ◌≢◌, if◌then◌else◌}
use Rattle.std.specs.List.{AllByRecursion, AllZip}
use Rattle.std.proofs.lemmas.Bool.{and_parts, eq-eqb, eqb-true}
use Rattle.clif_meaning.specs.Bits.{Bits}
use Rattle.clif_meaning.specs.Instruction.{Argument, Known, CallResult, CallPayload}
use Rattle.clif_meaning.specs.Name.{Name, answer_of, same_name}
use Rattle.clif_meaning.specs.Store.{argument_bits, assigned}
use Rattle.clif_expansion.specs.Reading.{Agree, Generated, IsOneToOne, IsReadArgument, IsReadAs, NotMade, Reading, ScriptName, StandsFor}

pub names_equal : (a b : Name) → same_name a b ≡ true → a ≡ b
names_equal a b same =
    let both = and_parts (a.place == b.place) (a.index == b.index) same in
    ap₂ answer_of (eqb-true a.place b.place both.0) (eqb-true a.index b.index both.1)

pub equal_names : (a b : Name) → a ≡ b → same_name a b ≡ true
equal_names a b same =
    let places : (a.place == b.place) ≡ true = eq-eqb a.place b.place (ap (λ (n : Name). n.place) same) in
    let indices : (a.index == b.index) ≡ true = eq-eqb a.index b.index (ap (λ (n : Name). n.index) same) in
    rw places (rw indices refl)

-- the name, or another one
name_or : Name → StandsFor → Name
name_or other NotMade = other
name_or other Generated = other
name_or other (ScriptName name) = name

pub same_script : (a b : Name) → ScriptName a ≡ ScriptName b → a ≡ b
unfolding name_or
same_script a b same = ap (name_or a) same

-- a name stands for one name
one_name : (reading : Reading) (x a b : Name) → IsReadAs reading x a → IsReadAs reading x b → a ≡ b
one_name reading x a b first second = same_script a b (sym first ∙ second)

-- what stands for a name of the script wasn't generated
pub not_generated : (reading : Reading) (x name : Name) → IsReadAs reading x name → reading x ≢ Generated
not_generated reading x name is generated = apart (sym is ∙ generated)
  where
    apart : ScriptName name ≡ Generated → ⊥
    apart same = cc

module _ (reading : Reading) (one_to_one : IsOneToOne reading) where
  -- the test answers the same of names that stand for names
  pub same_read : (x y a b : Name) → IsReadAs reading x a → IsReadAs reading y b → same_name x y ≡ same_name a b
  same_read x y a b first second = by (same_name a b) refl (same_name x y) refl
    where
      by : (c : Bool) → same_name a b ≡ c → (d : Bool) → same_name x y ≡ d → same_name x y ≡ same_name a b
      by true is d other = equal_names x y (one_to_one x y b (first ∙ ap ScriptName (names_equal a b is)) second) ∙ sym is
      by false is true other = other ∙ sym (equal_names a b (one_name reading y a b (ap reading (sym (names_equal x y other)) ∙ first) second))
      by false is false other = other ∙ sym is

  -- what is assigned agrees where the names agreed
  pub assigned_read : (given results : List Name) (values : List Bits) (plain script : Name → Bits)
      → AllZip (IsReadAs reading) given results → Agree reading plain script
      → Agree reading (assigned same_name given values plain) (assigned same_name results values script)
  assigned_read [] [] values plain script read agree = agree
  assigned_read [] (name ∷ results) values plain script read agree = absurd read
  assigned_read (x ∷ given) [] values plain script read agree = absurd read
  assigned_read (x ∷ given) (name ∷ results) [] plain script read agree = agree
  assigned_read (x ∷ given) (name ∷ results) (bits ∷ values) plain script read agree =
      λ y other is. ap₂ (λ (test : Bool) (rest : Bits). if test then bits else rest)
      (same_read y x other name is read.0) (assigned_read given results values plain script read.1 agree y other is)

module _ (reading : Reading) {X : Type 0} (plain script : Name → X) (agree : Agree reading plain script) where
  -- what names have that stand for names
  pub each_read : (names read : List Name) → AllZip (IsReadAs reading) names read → map plain names ≡ map script read
  each_read [] [] is = refl
  each_read [] (name ∷ read) is = absurd is
  each_read (x ∷ names) [] is = absurd is
  each_read (x ∷ names) (name ∷ read) is = ap₂ (λ (first : X) (rest : List X). first ∷ rest) (agree x name is.0) (each_read names read is.1)

module _ (reading : Reading) (plain script : Name → Bits) (agree : Agree reading plain script) (given : List Bits) where
  argument_read : (argument other : Argument Name) → IsReadArgument reading argument other → argument_bits plain given argument ≡ argument_bits script given other
  argument_read (Known x) (Known name) is = agree x name is
  argument_read (CallResult index) (CallResult other) is = ap (λ k. argument_bits plain given (CallResult k)) is
  argument_read (CallPayload index) (CallPayload other) is = ap (λ k. argument_bits plain given (CallPayload k)) is
  argument_read (Known x) (CallResult index) is = absurd is
  argument_read (Known x) (CallPayload index) is = absurd is
  argument_read (CallResult index) (Known name) is = absurd is
  argument_read (CallResult index) (CallPayload other) is = absurd is
  argument_read (CallPayload index) (Known name) is = absurd is
  argument_read (CallPayload index) (CallResult other) is = absurd is

  pub arguments_read : (arguments others : List (Argument Name)) → AllZip (IsReadArgument reading) arguments others
      → map (argument_bits plain given) arguments ≡ map (argument_bits script given) others
  arguments_read [] [] is = refl
  arguments_read [] (other ∷ others) is = absurd is
  arguments_read (argument ∷ arguments) [] is = absurd is
  arguments_read (argument ∷ arguments) (other ∷ others) is =
      ap₂ (λ (bits : Bits) (rest : List Bits). bits ∷ rest) (argument_read argument other is.0) (arguments_read arguments others is.1)

-- what isn't generated keeps what it has where generated names are assigned
pub assigned_elsewhere : (reading : Reading) (results : List Name) (values : List Bits) (old : Name → Bits) (x : Name)
    → AllByRecursion (λ name. reading name ≡ Generated) results → reading x ≢ Generated → assigned same_name results values old x ≡ old x
assigned_elsewhere reading [] values old x generated kept = refl
assigned_elsewhere reading (name ∷ results) [] old x generated kept = refl
assigned_elsewhere reading (name ∷ results) (bits ∷ values) old x generated kept =
    by (same_name x name) refl (assigned_elsewhere reading results values old x generated.1 kept)
  where
    by : (c : Bool) → same_name x name ≡ c → assigned same_name results values old x ≡ old x → (if c then bits else assigned same_name results values old x) ≡ old x
    by true is rest = absurd (kept (ap reading (names_equal x name is) ∙ generated.0))
    by false is rest = rest
