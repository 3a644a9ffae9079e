-- A function of paths in which aliases are defined nowhere: its other values denote what they did. And what stays as the
-- path through a block goes on.
use Rattle.std.proofs.Common.{◌≡◌, ◌≢◌, ℕ, zero, suc, ◌≤◌, ◌==◌, ◌⊎◌, if◌then◌else◌, Bool, true, false, [], ◌∷◌, inl, inr, refl, sym, ◌∙◌, ap, arith}
use Rattle.std.proofs.lemmas.Bool.{eqb-true}
use Rattle.std.proofs.lemmas.Bool.Decides.{nat_tests}
use Rattle.clif_paths.specs.Places.{Place, start, inside, Arm, Path, Visits}
use Rattle.clif_paths.specs.State.{Program, Kind, unborn, born, pending, complete, zero_of, Definition, Function}
use Rattle.clif_paths.specs.Denotation.{name, instances, defined, denotes}
use Rattle.clif_paths.proofs.PathLemmas.{dec_place}
use Rattle.clif_paths.proofs.Executing.{name-past, denotes-past, denotes-here}
use Rattle.clif_simulation.proofs.Finished.Straight.{straight, next_arm, same_step}

abbrev pub nowhere : Definition
nowhere = record { home = start; kind = unborn }

abbrev pub end_definition : Function → ℕ → Definition
end_definition function w = if function.resolve w == w then function.definition w else nowhere

-- aliases are defined nowhere
abbrev pub with_ends_only : Function → Function
with_ends_only function = record function { definition = λ w. end_definition function w }

module _ (function : Function) where
  -- a value that is no alias is defined as before
  pub defined-end : (w : ℕ) → function.resolve w ≡ w → end_definition function w ≡ function.definition w
  defined-end w is = let same : (function.resolve w == w) ≡ true = grind (arith, nat_tests) in rw same refl

  pub alias_nowhere : (w : ℕ) → (function.resolve w == w) ≡ false → end_definition function w ≡ nowhere
  alias_nowhere w other = rw other refl

  -- what is defined in a block is no alias
  pub is-end : (w b k : ℕ) → (end_definition function w).home ≡ inside b k → function.resolve w ≡ w
  is-end w b k at = by (function.resolve w == w) refl at
    where
      nowhere_else : start ≡ inside b k → ⊥
      nowhere_else e = cc

      by : (t : Bool) → (function.resolve w == w) ≡ t → (if t then function.definition w else nowhere).home ≡ inside b k → function.resolve w ≡ w
      by true is at = eqb-true (function.resolve w) w is
      by false is at = absurd (nowhere_else at)

  module _ (program : Program) (ends : (u : ℕ) → function.resolve (function.resolve u) ≡ function.resolve u) where
    same_kind : (arm : Arm) (path : Path) → ((w : ℕ) → function.resolve w ≡ w → denotes program (with_ends_only function) path w ≡ denotes program function path w)
        → (w : ℕ) (kind : Kind)
        → defined program (with_ends_only function) arm path (λ u. denotes program (with_ends_only function) path u) w kind
        ≡ defined program function arm path (λ u. denotes program function path u) w kind
    same_kind arm path before w unborn = refl
    same_kind arm path before w (born n) = refl
    same_kind arm path before w (pending x) = refl
    same_kind arm path before w (complete x) = before (function.resolve (function.argument w arm)) (ends (function.argument w arm))
    same_kind arm path before w (zero_of x) = refl

    pub denotes-end : (path : Path) (w : ℕ) → function.resolve w ≡ w → denotes program (with_ends_only function) path w ≡ denotes program function path w
    unfolding denotes
    denotes-end [] w is = refl
    denotes-end (arm ∷ path) w is = by (dec_place (function.definition w).home arm.target) (λ u end. denotes-end path u end)
      where
        same : end_definition function w ≡ function.definition w
        same = defined-end w is

        by : Dec ((function.definition w).home ≡ arm.target) → ((u : ℕ) → function.resolve u ≡ u → denotes program (with_ends_only function) path u ≡ denotes program function path u)
            → denotes program (with_ends_only function) (arm ∷ path) w ≡ denotes program function (arm ∷ path) w
        by (yes here) before =
            denotes-here program (with_ends_only function) arm path w (ap (λ (d : Definition). d.home) same ∙ here)
            ∙ ap (λ (d : Definition). defined program (with_ends_only function) arm path (λ u. denotes program (with_ends_only function) path u) w d.kind) same
            ∙ same_kind arm path before w (function.definition w).kind
            ∙ sym (denotes-here program function arm path w here)
        by (no elsewhere) before =
            denotes-past program (with_ends_only function) arm path w (λ at. elsewhere (sym (ap (λ (d : Definition). d.home) same) ∙ at))
            ∙ before w is ∙ sym (denotes-past program function arm path w elsewhere)

-- Along the path through a block ------------------------------------------------------------------------------------------

not_here : (e i j k : ℕ) → i ≤ j → j ≤ k → inside e i ≢ inside e (suc k)
not_here e i j k before on same = absurd (omega (arith, before, on, same_step same))

zero_below : (j : ℕ) → j ≤ 0 → 0 ≡ j
zero_below j within = omega arith

below_or_at : (j k : ℕ) → j ≤ suc k → (j ≤ k) ⊎ (suc k ≡ j)
below_or_at j k within = grind arith

-- what is given at a place of the path stays
pub name_stays : (program : Program) (e i n k : ℕ) → (program.naming n).home ≡ inside e i → i ≤ k
    → instances program (straight e k) (name n) ≡ instances program (straight e i) (name n)
name_stays program e i n zero home within = ap (λ (j : ℕ). instances program (straight e j) (name n)) (zero_below i within)
name_stays program e i n (suc k) home within = by (below_or_at i k within) (name_stays program e i n k home)
  where
    by : (i ≤ k) ⊎ (suc k ≡ i) → (i ≤ k → instances program (straight e k) (name n) ≡ instances program (straight e i) (name n))
        → instances program (straight e (suc k)) (name n) ≡ instances program (straight e i) (name n)
    by (inl before) earlier =
        name-past program (next_arm e k) (straight e k) n (λ at. not_here e i i k (omega arith) before (sym home ∙ at)) ∙ earlier before
    by (inr here) earlier = ap (λ (j : ℕ). instances program (straight e j) (name n)) here

-- and what is defined at one before
pub value_stays : (program : Program) (function : Function) (e i j w k : ℕ) → (function.definition w).home ≡ inside e i → i ≤ j → j ≤ k
    → denotes program function (straight e k) w ≡ denotes program function (straight e j) w
value_stays program function e i j w zero home before within = ap (λ (l : ℕ). denotes program function (straight e l) w) (zero_below j within)
value_stays program function e i j w (suc k) home before within = by (below_or_at j k within) (value_stays program function e i j w k home before)
  where
    by : (j ≤ k) ⊎ (suc k ≡ j) → (j ≤ k → denotes program function (straight e k) w ≡ denotes program function (straight e j) w)
        → denotes program function (straight e (suc k)) w ≡ denotes program function (straight e j) w
    by (inl after) earlier =
        denotes-past program function (next_arm e k) (straight e k) w (λ at. not_here e i j k before after (sym home ∙ at)) ∙ earlier after
    by (inr here) earlier = ap (λ (l : ℕ). denotes program function (straight e l) w) here

-- a place that the path visited is one of the block's so far
pub visited_place : (e k : ℕ) (place : Place) → Visits place (straight e k) → (i : ℕ) × (i ≤ k) × (place ≡ inside e i)
visited_place e zero place (inl here) = (0, omega arith, here)
visited_place e zero place (inr there) = absurd there
visited_place e (suc k) place (inl here) = (suc k, omega arith, here)
visited_place e (suc k) place (inr there) = let found = visited_place e k place there in (found.0, omega (arith, found.1), found.2)
