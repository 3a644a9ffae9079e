-- The edges of an unfinished function: the known arms, and into unsealed blocks those of the branches that were declared so
-- far, and the one from the start.
use Rattle.std.proofs.Common.{◌≡◌, ℕ, zero, suc, ◌==◌, ◌&&◌, cond, Bool, true, false, List, [], ◌∷◌, Option, Some, None, ◌⊎◌, inl, inr, refl, sym, ◌∙◌, ap, subst, arith}
use Rattle.std.proofs.lemmas.Bool.Decides.{nat_tests}
use Rattle.std.proofs.lemmas.Bool.{eqb-true}
use Rattle.clif_ir.specs.Body.{Body}
use Rattle.clif_paths.specs.Places.{Place, start, inside, same_place, Arm, Edges}
use Rattle.clif_paths.specs.Blocks.{Blocks, front, last_place, sealed_at, arm_into, state_of}
use Rattle.clif_paths.proofs.PathLemmas.{same_place-true, same_place-refl, same_place-equal}
use Rattle.clif_ssa.specs.Own.{Own}
use Rattle.clif_ssa.specs.LookUp.{branch_block}
use Rattle.clif_ssa.specs.Ssa.{SsaState, predecessors_of, sealed_of}
use Rattle.clif_records.specs.Tables.{is_yes}
use Rattle.clif_ssa.specs.Sound.{Describes, IsEdgeInto, edge_target, entry_of, has_entry, is_some_block}
use Rattle.clif_simulation.proofs.Finished.Giving.{In, contained_in, in_contained}
use Rattle.clif_simulation.proofs.Finished.Straight.{arms, first_arm, both_left, both_right, same_block}

-- The arm is an edge of this branch to the block, or of one of these.
abbrev pub is_of_branch : Body → Blocks → ℕ → Arm → ℕ → Bool
is_of_branch f tables b arm branch = same_place arm.source (last_place tables (branch_block f branch)) && is_some_block b (edge_target f branch arm.edge)

abbrev pub is_of_one : Body → Blocks → ℕ → Arm → List ℕ → Bool
is_of_one f tables b arm [] = false
is_of_one f tables b arm (branch ∷ branches) = cond (is_of_branch f tables b arm branch) true (is_of_one f tables b arm branches)

-- it comes from the start to the entry
abbrev pub is_first : Body → ℕ → Arm → Bool
is_first f b arm = same_place arm.source start && is_some_block b (entry_of f)

-- into an unsealed block these arms may come, too
abbrev pub More : Type 0
More = ℕ → Arm → Bool

abbrev pub no_more : More
no_more b arm = false

abbrev pub open_into : More → Body → SsaState → Blocks → Arm → Place → Bool
open_into more f s tables arm start = false
open_into more f s tables arm (inside b zero) =
    cond (tables.sealed b) (tables.joins arm) (cond (is_first f b arm) true (cond (is_of_one f tables b arm (predecessors_of s b)) true (more b arm)))
open_into more f s tables arm (inside b (suc k)) = arm_into tables.count tables.sealed tables.joins arm (inside b (suc k))

abbrev pub open_arms : More → Body → SsaState → Blocks → Edges
open_arms more f s tables arm = open_into more f s tables arm arm.target

is_block : (b : ℕ) (o : Option ℕ) → is_some_block b o ≡ true → o ≡ Some b
is_block b None is = cc
is_block b (Some c) is = ap (λ (d : ℕ). Some d) (eqb-true c b is)

block_is : (b : ℕ) (o : Option ℕ) → o ≡ Some b → is_some_block b o ≡ true
block_is b None is = cc
block_is b (Some c) is =
    let same : c ≡ b = cc in
    let test : (c == b) ≡ true = grind (arith, nat_tests) in
    test

either_is : (a b : Bool) → cond a true b ≡ true → (a ≡ true) ⊎ (b ≡ true)
either_is true b is = inl refl
either_is false b is = inr is

second_is : (a b : Bool) → b ≡ true → cond a true b ≡ true
second_is true b is = refl
second_is false b is = is

first_is : (a b : Bool) → a ≡ true → cond a true b ≡ true
first_is a b is = rw is refl

one_of : (f : Body) (tables : Blocks) (b : ℕ) (arm : Arm) (branches : List ℕ) → is_of_one f tables b arm branches ≡ true
    → (branch : ℕ) × In branch branches × (is_of_branch f tables b arm branch ≡ true)
one_of f tables b arm [] is = cc
one_of f tables b arm (branch ∷ branches) is =
    by (either_is (is_of_branch f tables b arm branch) (is_of_one f tables b arm branches) is) (λ later. one_of f tables b arm branches later)
  where
    by : (is_of_branch f tables b arm branch ≡ true) ⊎ (is_of_one f tables b arm branches ≡ true)
        → (is_of_one f tables b arm branches ≡ true → (i : ℕ) × In i branches × (is_of_branch f tables b arm i ≡ true))
        → (i : ℕ) × In i (branch ∷ branches) × (is_of_branch f tables b arm i ≡ true)
    by (inl first) others = (branch, inl refl, first)
    by (inr later) others = let found = others later in (found.0, inr found.1, found.2)

is_one : (f : Body) (tables : Blocks) (b : ℕ) (arm : Arm) (branches : List ℕ) (branch : ℕ) → In branch branches → is_of_branch f tables b arm branch ≡ true
    → is_of_one f tables b arm branches ≡ true
is_one f tables b arm [] branch there is = absurd there
is_one f tables b arm (other ∷ branches) branch (inl here) is =
    let first : is_of_branch f tables b arm other ≡ true = ap (is_of_branch f tables b arm) (sym here) ∙ is in
    rw first refl
is_one f tables b arm (other ∷ branches) branch (inr later) is =
    second_is (is_of_branch f tables b arm other) (is_of_one f tables b arm branches) (is_one f tables b arm branches branch later is)

module _ (more : More) (own : Own) (f : Body) (s : SsaState) (tables : Blocks) (describes : Describes own f s [] tables) where
  -- where control comes from to a block's front
  abbrev pub ComesFrom : ℕ → Arm → Type 0
  ComesFrom b arm = ((arm.source ≡ start) × (entry_of f ≡ Some b)) ⊎ (IsEdgeInto f s tables b arm ⊎ (more b arm ≡ true))

  unsealed_from : (b : ℕ) (arm : Arm) → cond (is_first f b arm) true (cond (is_of_one f tables b arm (predecessors_of s b)) true (more b arm)) ≡ true → ComesFrom b arm
  unsealed_from b arm is = by (either_is (is_first f b arm) (cond (is_of_one f tables b arm (predecessors_of s b)) true (more b arm)) is)
    where
      by : (is_first f b arm ≡ true) ⊎ (cond (is_of_one f tables b arm (predecessors_of s b)) true (more b arm) ≡ true) → ComesFrom b arm
      by (inl first) =
          inl (
            same_place-true arm.source start (both_left (same_place arm.source start) (is_some_block b (entry_of f)) first),
            is_block b (entry_of f) (both_right (same_place arm.source start) (is_some_block b (entry_of f)) first),
          )
      by (inr rest) = later (either_is (is_of_one f tables b arm (predecessors_of s b)) (more b arm) rest)
        where
          later : (is_of_one f tables b arm (predecessors_of s b) ≡ true) ⊎ (more b arm ≡ true) → ComesFrom b arm
          later (inr one_more) = inr (inr one_more)
          later (inl one) =
              let found = one_of f tables b arm (predecessors_of s b) one in
              inr (inl (record {
                branch = found.0;
                leads = in_contained (predecessors_of s b) found.0 found.1;
                from = same_place-true arm.source (last_place tables (branch_block f found.0))
                    (both_left (same_place arm.source (last_place tables (branch_block f found.0))) (is_some_block b (edge_target f found.0 arm.edge)) found.2);
                to = is_block b (edge_target f found.0 arm.edge)
                    (both_right (same_place arm.source (last_place tables (branch_block f found.0))) (is_some_block b (edge_target f found.0 arm.edge)) found.2);
              }))

  front_from : (b : ℕ) (arm : Arm) → arm.target ≡ front b → (sealed : Bool) → tables.sealed b ≡ sealed
      → cond sealed (tables.joins arm) (cond (is_first f b arm) true (cond (is_of_one f tables b arm (predecessors_of s b)) true (more b arm))) ≡ true → ComesFrom b arm
  front_from b arm at false is from = unsealed_from b arm from
  front_from b arm at true is joins =
      let way = describes.joined arm joins in
      let same : way.0 ≡ b = same_block (sym way.1 ∙ at) in
      subst (λ (c : ℕ). ComesFrom c arm) same (known_arm way.0 way.3)
    where
      known_arm : (c : ℕ) → ((arm.source ≡ start) × (entry_of f ≡ Some c)) ⊎ IsEdgeInto f s tables c arm → ComesFrom c arm
      known_arm c (inl first) = inl first
      known_arm c (inr edge) = inr (inl edge)

  pub comes_from : (b : ℕ) (arm : Arm) → arm.target ≡ front b → open_arms more f s tables arm ≡ true → ComesFrom b arm
  comes_from b arm at is = front_from b arm at (tables.sealed b) refl (subst (λ (p : Place). open_into more f s tables arm p ≡ true) at is)

  -- each edge of a branch that was declared is one of these
  pub edge_open : (b : ℕ) (arm : Arm) → arm.target ≡ front b → IsEdgeInto f s tables b arm → open_arms more f s tables arm ≡ true
  edge_open b arm at edge = ap (open_into more f s tables arm) at ∙ by (tables.sealed b) refl
    where
      known_seal : tables.sealed b ≡ true → is_yes (sealed_of s b) ≡ true
      known_seal is = both_left (is_yes (sealed_of s b)) (has_entry f.layout) (sym (describes.sealed b) ∙ is)

      leads : same_place arm.source (last_place tables (branch_block f edge.branch)) ≡ true
      leads = same_place-equal arm.source (last_place tables (branch_block f edge.branch)) edge.from

      goes : is_some_block b (edge_target f edge.branch arm.edge) ≡ true
      goes = block_is b (edge_target f edge.branch arm.edge) edge.to

      of_branch : is_of_branch f tables b arm edge.branch ≡ true
      of_branch = rw (leads, goes) refl

      by : (sealed : Bool) → tables.sealed b ≡ sealed
          → cond (tables.sealed b) (tables.joins arm) (cond (is_first f b arm) true (cond (is_of_one f tables b arm (predecessors_of s b)) true (more b arm))) ≡ true
      by true is = rw is (describes.led b arm (known_seal is) at edge)
      by false is =
          rw is (second_is (is_first f b arm) (cond (is_of_one f tables b arm (predecessors_of s b)) true (more b arm))
          (first_is (is_of_one f tables b arm (predecessors_of s b)) (more b arm)
          (is_one f tables b arm (predecessors_of s b) edge.branch (contained_in (predecessors_of s b) edge.branch edge.leads) of_branch)))

  -- and each that may come into an unsealed block
  pub more_open : (b : ℕ) (arm : Arm) → arm.target ≡ front b → tables.sealed b ≡ false → more b arm ≡ true → open_arms more f s tables arm ≡ true
  more_open b arm at unsealed one_more =
      ap (open_into more f s tables arm) at
      ∙ rw unsealed (second_is (is_first f b arm) (cond (is_of_one f tables b arm (predecessors_of s b)) true (more b arm))
      (second_is (is_of_one f tables b arm (predecessors_of s b)) (more b arm) one_more))

  -- and the one from the start
  pub start_open : (e : ℕ) → entry_of f ≡ Some e → open_arms more f s tables (first_arm e) ≡ true
  start_open e found = by (tables.sealed e) refl
    where
      by : (sealed : Bool) → tables.sealed e ≡ sealed
          → cond (tables.sealed e) (tables.joins (first_arm e)) (cond (is_first f e (first_arm e)) true (cond (is_of_one f tables e (first_arm e) (predecessors_of s e)) true (more e (first_arm e)))) ≡ true
      by true is = rw is (describes.entered e found is)
      by false is =
          let here : is_some_block e (entry_of f) ≡ true = block_is e (entry_of f) found in
          rw (is, same_place-refl start, here) refl

  -- what is known of arms stays so
  pub known_open : (arm : Arm) → (state_of tables).program.is_sealed arm.target ≡ true → open_arms more f s tables arm ≡ arms tables arm
  known_open arm is = by arm.target is
    where
      by : (p : Place) → sealed_at tables.count tables.sealed p ≡ true → open_into more f s tables arm p ≡ arm_into tables.count tables.sealed tables.joins arm p
      by start sealed = refl
      by (inside b zero) sealed = rw sealed refl
      by (inside b (suc k)) sealed = refl
