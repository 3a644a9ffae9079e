-- Paths in a function without branches: the one path through the entry, and what every path has visited.
use Rattle.std.proofs.Common.{◌≡◌, ◌≢◌, ◌⊎◌, ℕ, zero, suc, ◌<◌, ◌≤◌, ◌==◌, nat_lt, ◌&&◌, Bool, true, false, [], ◌∷◌, inl, inr, refl, sym, ◌∙◌, ap, subst, arith}
use Rattle.std.proofs.lemmas.Bool.Decides.{nat_tests}
use Rattle.clif_paths.specs.Places.{Place, start, inside, same_place, Arm, Path, Follows, Visits, VisitsBefore, end_of, StrictlyBefore}
use Rattle.clif_paths.specs.State.{Program, Function}
use Rattle.clif_paths.specs.Denotation.{absent, name, instances, denotes}
use Rattle.clif_paths.specs.Blocks.{Blocks, front, arm_into, state_of}
use Rattle.clif_paths.proofs.PathLemmas.{same_place-true, same_place-refl}
use Rattle.clif_paths.proofs.Executing.{name-past, denotes-past}

-- the arm into a block's front from the start, and those inside a block
abbrev pub first_arm : ℕ → Arm
first_arm e = record { source = start; target = front e; edge = 0 }

abbrev pub next_arm : ℕ → ℕ → Arm
next_arm e k = record { source = inside e k; target = inside e (suc k); edge = 0 }

-- the path from the start to this step of a block
abbrev pub straight : ℕ → ℕ → Path
straight e zero = first_arm e ∷ []
straight e (suc k) = next_arm e k ∷ straight e k

pub straight_end : (e k : ℕ) → end_of (straight e k) ≡ inside e k
straight_end e zero = refl
straight_end e (suc k) = refl

step_of : Place → ℕ
step_of start = 0
step_of (inside b k) = k

block_of : Place → ℕ
block_of start = 0
block_of (inside b k) = b

pub same_step : {b c j k : ℕ} → inside b j ≡ inside c k → j ≡ k
unfolding step_of
same_step e = ap step_of e

pub same_block : {b c j k : ℕ} → inside b j ≡ inside c k → b ≡ c
unfolding block_of
same_block e = ap block_of e

-- it visits steps so far alone
pub visits_so_far : (e k b j : ℕ) → Visits (inside b j) (straight e k) → j ≤ k
visits_so_far e zero b j (inl here) = omega (arith, same_step here)
visits_so_far e zero b j (inr there) = absurd there
visits_so_far e (suc k) b j (inl here) = omega (arith, same_step here)
visits_so_far e (suc k) b j (inr there) = omega (arith, visits_so_far e k b j there)

-- what isn't given on a path is absent after it
pub absent_name : (program : Program) (n : ℕ) (path : Path) → (Visits (program.naming n).home path → ⊥) → instances program path (name n) ≡ absent
unfolding instances
absent_name program n [] never = refl
absent_name program n (arm ∷ path) never =
    name-past program arm path n (λ here. never (inl here)) ∙ absent_name program n path (λ there. never (inr there))

pub absent_value : (program : Program) (function : Function) (w : ℕ) (path : Path) → (Visits (function.definition w).home path → ⊥)
    → denotes program function path w ≡ absent
unfolding denotes
absent_value program function w [] never = refl
absent_value program function w (arm ∷ path) never =
    denotes-past program function arm path w (λ here. never (inl here)) ∙ absent_value program function w path (λ there. never (inr there))

pub both_left : (a b : Bool) → (a && b) ≡ true → a ≡ true
both_left true b both = refl
both_left false b both = both

pub both_right : (a b : Bool) → (a && b) ≡ true → b ≡ true
both_right true b both = both
both_right false b both = cc

zero_below : (j : ℕ) → j ≤ 0 → j ≡ 0
zero_below j within = omega arith

below_or_at : (j k : ℕ) → j ≤ suc k → (j ≤ k) ⊎ (j ≡ suc k)
below_or_at j k within = grind arith

-- Tables in which the entry's front alone is come to.
pub record OnlyEntry (blocks : Blocks) (e : ℕ) : Type 0 where
  pub joined : (arm : Arm) → blocks.joins arm ≡ true → arm.target ≡ front e
  pub sealed : blocks.sealed e ≡ true
  pub entered : blocks.joins (first_arm e) ≡ true

-- the known arms of the tables
abbrev pub arms : Blocks → Arm → Bool
arms blocks = (state_of blocks).program.arms

module _ (blocks : Blocks) (e : ℕ) (only : OnlyEntry blocks e) where
  pub straight_follows : (k : ℕ) → k ≤ blocks.count e → Follows (arms blocks) (straight e k)
  straight_follows zero within = (rw (only.sealed, only.entered) refl, refl, tt)
  straight_follows (suc k) within =
      let there : nat_lt k (blocks.count e) ≡ true = grind (arith, nat_tests) in
      (rw (there, same_place-refl (inside e k)) refl, sym (straight_end e k), straight_follows k (omega arith))

  -- what is known of a path that ends inside a block
  pub record Through (path : Path) (b k : ℕ) : Type 0 where
    pub in_entry : b ≡ e
    pub visited : (j : ℕ) → j ≤ k → Visits (inside b j) path

  pub through : (path : Path) (b k : ℕ) → Follows (arms blocks) path → end_of path ≡ inside b k → Through path b k
  through [] b k follows ends = cc
  through (arm ∷ path) b zero follows ends =
      let known : (blocks.sealed b && blocks.joins arm) ≡ true = subst (λ (p : Place). arm_into blocks.count blocks.sealed blocks.joins arm p ≡ true) ends follows.0 in
      record {
        in_entry = same_block (sym ends ∙ only.joined arm (both_right (blocks.sealed b) (blocks.joins arm) known));
        visited = λ j within. inl (ap (inside b) (zero_below j within) ∙ sym ends);
      }
  through (arm ∷ path) b (suc k) follows ends =
      let known : (nat_lt k (blocks.count b) && (same_place arm.source (inside b k) && (arm.edge == 0))) ≡ true =
      subst (λ (p : Place). arm_into blocks.count blocks.sealed blocks.joins arm p ≡ true) ends follows.0 in
      let source : arm.source ≡ inside b k = same_place-true arm.source (inside b k) (both_left (same_place arm.source (inside b k)) (arm.edge == 0)
      (both_right (nat_lt k (blocks.count b)) (same_place arm.source (inside b k) && (arm.edge == 0)) known)) in
      let before : Through path b k = through path b k follows.2 (sym follows.1 ∙ source) in
      record { in_entry = before.in_entry; visited = λ j within. at_or_before arm path b k j ends before.visited (below_or_at j k within) }
    where
      at_or_before : (arm : Arm) (path : Path) (b k j : ℕ) → arm.target ≡ inside b (suc k) → ((i : ℕ) → i ≤ k → Visits (inside b i) path)
          → (j ≤ k) ⊎ (j ≡ suc k) → Visits (inside b j) (arm ∷ path)
      at_or_before arm path b k j ends before (inl earlier) = inr (before j earlier)
      at_or_before arm path b k j ends before (inr here) = inl (ap (inside b) here ∙ sym ends)

  -- what stands at an earlier step is visited before a later one
  pub strictly_before : (b j k : ℕ) → j < k → StrictlyBefore (arms blocks) (inside b j) (inside b k)
  strictly_before b j k below = record { on_every_path = λ path follows ends. by path follows ends }
    where
      by : (path : Path) → Follows (arms blocks) path → end_of path ≡ inside b k → VisitsBefore (inside b j) path
      by [] follows ends = cc
      by (arm ∷ path) follows ends = others arm path ends ((through (arm ∷ path) b k follows ends).visited j (omega arith))
        where
          others : (arm : Arm) (path : Path) → arm.target ≡ inside b k → Visits (inside b j) (arm ∷ path) → Visits (inside b j) path
          others arm path ends (inl here) = absurd (omega (arith, same_step (here ∙ ends)))
          others arm path ends (inr there) = there

  -- no path comes to another block
  pub none_elsewhere : (b k : ℕ) → b ≢ e → (place : Place) → StrictlyBefore (arms blocks) place (inside b k)
  none_elsewhere b k other place = record { on_every_path = λ path follows ends. absurd (other (through path b k follows ends).in_entry) }
