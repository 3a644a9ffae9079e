-- Labels: which names and values move at an outside call. Variables don't, and so no copy of a labelled name's bits may be in one:
-- what a variable holds, or a name without a label, is never what a labelled name was given.
use Rattle.std.proofs.Common.{◌≡◌, ◌≢◌, ℕ, Bool, true, false, [], ◌∷◌, Option, Some, None, ◌⊎◌, inl, inr, refl, sym, ◌∙◌, ap, subst}
use Rattle.clif_paths.specs.Places.{Path, Place, start}
use Rattle.clif_paths.specs.State.{fresh, reads, Naming, Origin, Program, born, Definition, Function}
use Rattle.clif_paths.specs.Denotation.{Instance, absent, zero, given, unknown, variable, name, instances, denotes}
use Rattle.clif_paths.specs.Laws.{entered}
use Rattle.clif_paths.proofs.PathLemmas.{dec_place}
use Rattle.clif_paths.proofs.Executing.{program_steps, function_steps, entered-sealed, entered-unsealed, variable-entered, variable-assigned, name-past, denotes-past}
use Rattle.clif_meaning.specs.Name.{Name}
use Rattle.clif_simulation.specs.Tables.{code}
use Rattle.clif_simulation.proofs.Codes

-- Nothing was given yet: a name is absent, and a variable has its zero.
abbrev pub IsNothing : Instance → Type 0
IsNothing absent = Unit {0}
IsNothing (zero x) = Unit {0}
IsNothing (given n path) = ⊥
IsNothing (unknown x path) = ⊥

-- a value is born with a labelled name
pub record IsBornLabelled (of_name : Name → Bool) (program : Program) (function : Function) (w : ℕ) : Type 0 where
  pub source : Name
  pub labelled : of_name source ≡ true
  pub place : Place
  pub named : program.naming (code source) ≡ record { home = place; origin = fresh }
  pub defined : function.definition w ≡ record { home = place; kind = born (code source) }

-- The labels of names and values. A labelled name is neither assigned nor read from a variable, and it and the value that is born
-- with it are labelled alike.
pub record Labels (program : Program) (function : Function) : Type 0 where
  pub of_name : Name → Bool
  pub of_value : ℕ → Bool
  pub assigned : (place : Place) (x : ℕ) (n : Name) → program.assigned place x ≡ Some (code n) → of_name n ≡ false
  pub used : (n : Name) (x : ℕ) → (program.naming (code n)).home ≢ start → (program.naming (code n)).origin ≡ reads x → of_name n ≡ false
  pub are_born : (w : ℕ) → of_value w ≡ true → IsBornLabelled of_name program function w
  pub answers : (n : Name) (w : ℕ) (place : Place) → program.naming (code n) ≡ record { home = place; origin = fresh }
      → function.definition w ≡ record { home = place; kind = born (code n) } → of_name n ≡ of_value w

pub false_no_true : false ≡ true → ⊥
false_no_true h = cc

-- nothing has a label
abbrev pub no_labels : (program : Program) (function : Function) → Labels program function
no_labels program function = record {
  of_name = λ n. false;
  of_value = λ w. false;
  assigned = λ place x n is. refl;
  used = λ n x begun is. refl;
  are_born = λ w is. absurd (false_no_true is);
  answers = λ n w place named defined. refl;
}

pub given_is_something : (n : ℕ) (path : Path) (i : Instance) → given n path ≡ i → IsNothing i → ⊥
given_is_something n path i is nothing = subst IsNothing (sym is) nothing

pub unknown_is_something : (x : ℕ) (path : Path) (i : Instance) → unknown x path ≡ i → IsNothing i → ⊥
unknown_is_something x path i is nothing = subst IsNothing (sym is) nothing

same_code : (m n : ℕ) (p q : Path) → ◌≡◌ {A = Instance} (given m p) (given n q) → m ≡ n
same_code m n p q h = cc

-- a name and the value that is born with it denote the same on each path
pub same_instance : (program : Program) (function : Function) (n v : ℕ) (place : Place) → program.naming n ≡ record { home = place; origin = fresh }
    → function.definition v ≡ record { home = place; kind = born n } → (path : Path) → instances program path (name n) ≡ denotes program function path v
unfolding instances denotes
same_instance program function n v place named defined [] = refl
same_instance program function n v place named defined (arm ∷ path) =
    by (dec_place place arm.target) (same_instance program function n v place named defined path)
  where
    by : Dec (place ≡ arm.target) → instances program path (name n) ≡ denotes program function path v
        → instances program (arm ∷ path) (name n) ≡ denotes program function (arm ∷ path) v
    by (yes at) earlier =
        (program_steps program arm path).given_here n (named ∙ ap (λ (p : Place). record { home = p; origin = fresh }) at)
        ∙ sym ((function_steps program function arm path).born_here v n (defined ∙ ap (λ (p : Place). record { home = p; kind = born n }) at))
    by (no other) earlier =
        name-past program arm path n (λ at. other (sym (ap (λ (k : Naming). k.home) named) ∙ at))
        ∙ earlier
        ∙ sym (denotes-past program function arm path v (λ at. other (sym (ap (λ (d : Definition). d.home) defined) ∙ at)))

-- at first a name has nothing, and a variable its zero
absent_first : (program : Program) (n : ℕ) → instances program [] (name n) ≡ absent
unfolding instances
absent_first program n = refl

zero_first : (program : Program) (x : ℕ) → instances program [] (variable x) ≡ zero x
unfolding instances
zero_first program x = refl

-- A name that is given by itself has nothing, or what it was given.
abbrev pub IsItsOwn : Program → Path → ℕ → Type 0
IsItsOwn program path n = IsNothing (instances program path (name n)) ⊎ ((q : Path) × (instances program path (name n) ≡ given n q))

pub its_own : (program : Program) (n : ℕ) → (program.naming n).origin ≡ fresh → (path : Path) → IsItsOwn program path n
its_own program n is_fresh [] = inl (subst IsNothing (sym (absent_first program n)) tt)
its_own program n is_fresh (arm ∷ path) = by (dec_place (program.naming n).home arm.target) (its_own program n is_fresh path)
  where
    by : Dec ((program.naming n).home ≡ arm.target) → IsItsOwn program path n → IsItsOwn program (arm ∷ path) n
    by (yes here) before = inr (
      arm ∷ path,
      (program_steps program arm path).given_here n
          (ap (λ (p : Place). record { home = p; origin = (program.naming n).origin }) here ∙ ap (λ (o : Origin). record { home = arm.target; origin = o }) is_fresh),
    )
    by (no other) (inl nothing) = inl (subst IsNothing (sym (name-past program arm path n other)) nothing)
    by (no other) (inr one) = inr (one.0, name-past program arm path n other ∙ one.1)

module _ (program : Program) (function : Function) (labels : Labels program function) where
  not_both : (test : Bool) → test ≡ true → test ≡ false → ⊥
  not_both test one other = cc

  -- On no path does a variable have what a labelled name was given, nor does another name.
  pub record HoldsNoLabelled (path : Path) : Type 0 where
    pub of_variable : (x : ℕ) (m : Name) (q : Path) → labels.of_name m ≡ true → instances program path (variable x) ≡ given (code m) q → ⊥
    pub of_code : (c : ℕ) (m : Name) (q : Path) → labels.of_name m ≡ true → instances program path (name c) ≡ given (code m) q → c ≡ code m

  pub holds_none : (path : Path) → HoldsNoLabelled path
  holds_none [] = record {
    of_variable = λ x m q is same. zero_no_given x (code m) q (sym (zero_first program x) ∙ same);
    of_code = λ c m q is same. absurd (absent_no_given (code m) q (sym (absent_first program c) ∙ same));
  }
    where
      zero_no_given : (x n : ℕ) (q : Path) → zero x ≡ given n q → ⊥
      zero_no_given x n q h = cc

      absent_no_given : (n : ℕ) (q : Path) → absent ≡ given n q → ⊥
      absent_no_given n q h = cc
  holds_none (arm ∷ path) = step (holds_none path)
    where
      step : HoldsNoLabelled path → HoldsNoLabelled (arm ∷ path)
      step before = record {
        of_variable = λ x m q is same. by_assigned x m q is (program.assigned arm.target x) refl same;
        of_code = λ c m q is same. by_home c m q is (dec_place (program.naming c).home arm.target) same;
      }
        where
          -- as control enters the place
          by_seal : (x : ℕ) (m : Name) (q : Path) → labels.of_name m ≡ true → (sealed : Bool) → program.is_sealed arm.target ≡ sealed
              → entered program arm path x ≡ given (code m) q → ⊥
          by_seal x m q is true sealed same = before.of_variable x m q is (sym (entered-sealed program arm path x sealed) ∙ same)
          by_seal x m q is false sealed same = no_unknown (sym (entered-unsealed program arm path x sealed) ∙ same)
            where
              no_unknown : unknown x (arm ∷ path) ≡ given (code m) q → ⊥
              no_unknown h = cc

          by_assigned : (x : ℕ) (m : Name) (q : Path) → labels.of_name m ≡ true → (o : Option ℕ) → program.assigned arm.target x ≡ o
              → instances program (arm ∷ path) (variable x) ≡ given (code m) q → ⊥
          by_assigned x m q is None none same =
              by_seal x m q is (program.is_sealed arm.target) refl (sym (variable-entered program arm path x none) ∙ same)
          by_assigned x m q is (Some c) written same =
              let one : c ≡ code m = before.of_code c m q is (sym (variable-assigned program arm path x c written) ∙ same) in
              not_both (labels.of_name m) is (labels.assigned arm.target x m (written ∙ ap (λ (k : ℕ). Some k) one))

          by_origin : (c : ℕ) (m : Name) (q : Path) → labels.of_name m ≡ true → (o : Origin)
              → program.naming c ≡ record { home = arm.target; origin = o } → instances program (arm ∷ path) (name c) ≡ given (code m) q → c ≡ code m
          by_origin c m q is fresh naming same = same_code c (code m) (arm ∷ path) q (sym ((program_steps program arm path).given_here c naming) ∙ same)
          by_origin c m q is (reads x) naming same =
              absurd (by_seal x m q is (program.is_sealed arm.target) refl (sym ((program_steps program arm path).read_here c x naming) ∙ same))

          by_home : (c : ℕ) (m : Name) (q : Path) → labels.of_name m ≡ true → Dec ((program.naming c).home ≡ arm.target)
              → instances program (arm ∷ path) (name c) ≡ given (code m) q → c ≡ code m
          by_home c m q is (yes here) same =
              by_origin c m q is (program.naming c).origin (ap (λ (p : Place). record { home = p; origin = (program.naming c).origin }) here) same
          by_home c m q is (no other) same = before.of_code c m q is (sym (name-past program arm path c other) ∙ same)

  -- so a name that has it is that one
  pub labelled_same : (path : Path) (n m : Name) (q : Path) → labels.of_name m ≡ true → instances program path (name (code n)) ≡ given (code m) q → n ≡ m
  labelled_same path n m q is same = Codes.differ n m ((holds_none path).of_code (code n) m q is same)

  -- a labelled value denotes what its name has
  pub born_denotes : (w : ℕ) (b : IsBornLabelled labels.of_name program function w) (path : Path)
      → instances program path (name (code b.source)) ≡ denotes program function path w
  born_denotes w b path = same_instance program function (code b.source) w b.place b.named b.defined path

  -- a labelled value denotes nothing, or what its name was given
  pub born_has : (w : ℕ) (b : IsBornLabelled labels.of_name program function w) (path : Path)
      → IsNothing (denotes program function path w) ⊎ ((q : Path) × (denotes program function path w ≡ given (code b.source) q))
  born_has w b path = by (its_own program (code b.source) (ap (λ (k : Naming). k.origin) b.named) path)
    where
      by : IsItsOwn program path (code b.source) → IsNothing (denotes program function path w) ⊎ ((q : Path) × (denotes program function path w ≡ given (code b.source) q))
      by (inl nothing) = inl (subst IsNothing (born_denotes w b path) nothing)
      by (inr one) = inr (one.0, sym (born_denotes w b path) ∙ one.1)
