-- The row `both_arms` with another argument isn't carried: the value isn't there yet.
use Rattle.std.proofs.Common.{◌≡◌, ℕ, zero, suc, ◌+◌, ◌==◌, ◌&&◌, nat_lt, Bool, true, false, Option, Some, None, List, [], ◌∷◌, ◌⊎◌, inl, inr, pos, refl, sym, ◌∙◌, ap, subst, arith, length, Contains}
use Rattle.clif_instructions.specs.declared.block_call.BlockArg.TheVariants.{Value}
use Rattle.clif_ir.specs.Body.{Body, follow}
use Rattle.clif_paths.specs.Places.{Place, start, inside, same_place, Arm, Path, end_of, Follows, Visits, VisitsBefore, Dominates, StrictlyBefore}
use Rattle.clif_paths.specs.State.{Kind, Definition, unborn, born, pending, complete, zero_of}
use Rattle.clif_paths.specs.Sound.{Allowed}
use Rattle.clif_paths.specs.Blocks.{Blocks, front, arm_into, state_of}
use Rattle.clif_paths.specs.Examples.{entry, on, jump}
use Rattle.clif_paths.proofs.PathLemmas.{same_place-true}
use Rattle.clif_paths.proofs.Checked.{first_of_and, second_of_and}
use Rattle.clif_records.specs.declared.tables.Pending.{Pending}
use Rattle.clif_ssa.specs.Ssa.{sealed_of}
use Rattle.clif_records.specs.Tables.{pending_of}
use Rattle.clif_ssa.specs.Sound.{IsBehind, HomeFits, IsEdgeInto}
use Rattle.clif_meaning.specs.Name.{Name, answer_of}
use Rattle.clif_meaning.specs.Instruction.{Operation, Jump}
use Rattle.clif_meaning.specs.FunctionView.{Placed}
use Rattle.clif_meaning.specs.BranchExamples.{block}
use Rattle.clif_meaning.proofs.FirstRow.{first_of_one}
use Rattle.clif_meaning.proofs.StraightLine.{nothing_contained, none_of}
use Rattle.clif_simulation.specs.Tables.{IsProgramOf, block_name, item_at, assigned_by}
use Rattle.clif_simulation.specs.Carries.{Carries, SoundOnPaths, own_placed}
use Rattle.clif_simulation.proofs.FreeEntry.{free_first}
use Rattle.clif_simulation.specs.CarryingExamples.{loop_calls, loop_body_with, loop_state, to_two_or_three, back_with_sum}
use Rattle.clif_simulation.proofs.Loops.LoopProgram.{each_block_of_row, none_for}
use Rattle.clif_simulation.proofs.Loops.LoopDescribed.{first_of_two, none_waits}
use Rattle.clif_simulation.proofs.Loops.LoopWrong.{head_of, from_second, none_mapped, lengths_of}

-- Paths ---------------------------------------------------------------------------------------------------------------------

no_start : {A : Type 0} (b k : ℕ) → start ≡ inside b k → A
no_start b k e = absurd cc

none_some : {A : Type 0} (n : ℕ) → None ≡ Some n → A
none_some n e = absurd cc

visits_end : (b k : ℕ) (path : Path) → end_of path ≡ inside b k → Visits (inside b k) path
visits_end b k [] e = no_start b k e
visits_end b k (arm ∷ path) e = inl (sym e)

module _ (T : Blocks) where
  abbrev arms : Arm → Bool
  arms arm = arm_into T.count T.sealed T.joins arm arm.target

  source_of : (arm : Arm) (b k : ℕ) → arm_into T.count T.sealed T.joins arm (inside b (suc k)) ≡ true → arm.source ≡ inside b k
  source_of arm b k e =
      same_place-true arm.source (inside b k)
      (first_of_and (same_place arm.source (inside b k)) (arm.edge == 0)
      (second_of_and (nat_lt k (T.count b)) (same_place arm.source (inside b k) && (arm.edge == 0)) e))

  step_before : (b k : ℕ) → StrictlyBefore arms (inside b k) (inside b (suc k))
  step_before b k = record { on_every_path = by }
    where
      by : (path : Path) → Follows arms path → end_of path ≡ inside b (suc k) → VisitsBefore (inside b k) path
      by [] follows e = no_start b (suc k) e
      by (arm ∷ path) follows e =
          visits_end b k path
          (sym follows.1 ∙ source_of arm b k (subst (λ (p : Place). arm_into T.count T.sealed T.joins arm p ≡ true) e follows.0))

  module _ (program : IsProgramOf loop_calls T) where
    abbrev Before : ℕ → ℕ → ℕ → Type 0
    Before b index n = StrictlyBefore arms (T.naming n).home (inside b (suc index))

    written : (b index : ℕ) (m n : ℕ) → (T.naming m).home ≡ inside b index → Some m ≡ Some n → Before b index n
    written b index m n home e =
        subst (λ (k : ℕ). Before b index k) (is e)
        (subst (λ (p : Place). StrictlyBefore arms p (inside b (suc index))) (sym home) (step_before b index))
      where
        is : Some m ≡ Some n → m ≡ n
        is e = cc

    five_home : (T.naming 71).home ≡ inside 0 1
    five_home = ap (λ naming. naming.home) (program.given 0 0 (block 0) _ refl refl (answer_of 7 1) (first_of_one (answer_of 7 1) (answer_of 7 1) refl)).0

    sum_home : (T.naming 341).home ≡ inside 2 3
    sum_home = ap (λ naming. naming.home) (program.given 2 2 (block 2) _ refl refl (answer_of 17 1) (first_of_one (answer_of 17 1) (answer_of 17 1) refl)).0

    in_first : (index x n : ℕ) → assigned_by (item_at loop_calls (block 0) index) x ≡ Some n → Before 0 index n
    in_first zero x n e = none_some n e
    in_first (suc zero) zero n e = written 0 1 71 n five_home e
    in_first (suc zero) (suc x) n e = none_some n (sym (none_for x 71) ∙ e)
    in_first (suc (suc zero)) x n e = none_some n e
    in_first (suc (suc (suc index))) x n e = none_some n e

    in_second : (index x n : ℕ) → assigned_by (item_at loop_calls (block 1) index) x ≡ Some n → Before 1 index n
    in_second zero x n e = none_some n e
    in_second (suc zero) x n e = none_some n e
    in_second (suc (suc index)) x n e = none_some n e

    in_third : (index x n : ℕ) → assigned_by (item_at loop_calls (block 2) index) x ≡ Some n → Before 2 index n
    in_third zero x n e = none_some n e
    in_third (suc zero) x n e = none_some n e
    in_third (suc (suc zero)) x n e = none_some n e
    in_third (suc (suc (suc zero))) zero n e = written 2 3 341 n sum_home e
    in_third (suc (suc (suc zero))) (suc x) n e = none_some n (sym (none_for x 341) ∙ e)
    in_third (suc (suc (suc (suc zero)))) x n e = none_some n e
    in_third (suc (suc (suc (suc (suc index))))) x n e = none_some n e

    in_last : (index x n : ℕ) → assigned_by (item_at loop_calls (block 3) index) x ≡ Some n → Before 3 index n
    in_last zero x n e = none_some n e
    in_last (suc zero) x n e = none_some n e
    in_last (suc (suc index)) x n e = none_some n e

    given_before : (place : Place) (x n : ℕ) → T.assigned place x ≡ Some n → StrictlyBefore arms (T.naming n).home place
    given_before start x n e = none_some n (sym (program.start_assigns_nothing x) ∙ e)
    given_before (inside b zero) x n e = none_some n (sym (program.front_assigns_nothing b x) ∙ e)
    given_before (inside b (suc index)) x n e = by (block_name loop_calls b) refl
      where
        by : (o : Option Name) → block_name loop_calls b ≡ o → Before b index n
        by None is = none_some n (sym (program.elsewhere_nothing b (suc index) x is) ∙ e)
        by (Some name) is =
            each_block_of_row (λ c m. assigned_by (item_at loop_calls m index) x ≡ Some n → Before c index n)
            (in_first index x n) (in_second index x n) (in_third index x n) (in_last index x n) b name is
            (sym (program.assigned b index name is x) ∙ e)

    pub allowed : ((arm : Arm) → arm.target ≡ start → arms arm ≡ false) → Allowed (state_of T).program arms
    allowed rooted = record { known = λ arm sealed. refl; rooted = rooted; given_before = given_before }

-- The function ----------------------------------------------------------------------------------------------------------------

-- the jump of block0 passes the parameter of block1
abbrev early_body : Body
early_body = loop_body_with (pos 5) 1 to_two_or_three back_with_sum

abbrev jump_of : Operation → ℕ
jump_of Jump = 1
jump_of _ = 0

abbrev is_jump : Placed → ℕ
is_jump placed = jump_of placed.instruction.operation

module _ (carries : Carries loop_calls early_body loop_state) where
  abbrev paths : SoundOnPaths loop_calls carries.own early_body loop_state
  paths = carries.on_paths (free_first early_body loop_state refl refl)

  abbrev T : Blocks
  T = paths.tables

  -- the jump passes nothing of the caller's
  passes_none : length (carries.own.passed 1 0) ≡ 0
  passes_none =
      let found = from_second (own_placed carries.own early_body) (carries.own.insts 0) _ _ _ (carries.holds.items 0 (block 0) refl) in
      let one : found.0 ≡ 1 = by found.0 (ap is_jump found.1) in
      let same : lengths_of (own_placed carries.own early_body 1) ≡ 0 ∷ [] =
      ap (λ (inst : ℕ). lengths_of (own_placed carries.own early_body inst)) (sym one) ∙ ap lengths_of found.1 in
      none_mapped (carries.own.passed 1 0) (head_of _ _ _ _ same)
    where
      by : (inst : ℕ) → is_jump (own_placed carries.own early_body inst) ≡ 1 → inst ≡ 1
      by zero e = let h : 0 ≡ 1 = e in omega (arith, h)
      by (suc zero) e = refl
      by (suc (suc zero)) e = let h : 0 ≡ 1 = e in omega (arith, h)
      by (suc (suc (suc zero))) e = let h : 0 ≡ 1 = e in omega (arith, h)
      by (suc (suc (suc (suc zero)))) e = let h : 0 ≡ 1 = e in omega (arith, h)
      by (suc (suc (suc (suc (suc zero))))) e = let h : 0 ≡ 1 = e in omega (arith, h)
      by (suc (suc (suc (suc (suc (suc zero)))))) e = let h : 0 ≡ 1 = e in omega (arith, h)
      by (suc (suc (suc (suc (suc (suc (suc inst))))))) e = let h : 0 ≡ 1 = e in omega (arith, h)

  -- the parameter is complete, at the front of block1
  waits_not : (x : ℕ) → (T.function.definition 1).kind ≡ pending x → ⊥
  unfolding follow
  waits_not x e = by (paths.describes.pends 1 x refl e)
    where
      by : ((b : ℕ) × Contains (pending_of (sealed_of loop_state b)) (record { variable = x; param = 1 })) ⊎ Contains {X = Pending} [] (record { variable = x; param = 1 }) → ⊥
      by (inl found) = none_of (pending_of (sealed_of loop_state found.0)) (record { variable = x; param = 1 }) (none_waits found.0) found.1
      by (inr there) = nothing_contained (record { variable = x; param = 1 }) there

  is_complete : (x : ℕ) × ((T.function.definition 1).kind ≡ complete x)
  is_complete = by (T.function.definition 1).kind refl (paths.counts.behind 1 1 refl)
    where
      by : (kind : Kind) → (T.function.definition 1).kind ≡ kind → IsBehind kind 0 (length (carries.own.params 1)) → (x : ℕ) × (kind ≡ complete x)
      by unborn e behind = absurd behind
      by (born n) e behind =
          let none : length (carries.own.params 1) ≡ 0 = ap (λ (params : List ℕ). length params) (carries.holds.parameters 1) in
          absurd (omega (arith, none, behind))
      by (pending x) e behind = absurd (waits_not x e)
      by (complete x) e behind = (x, refl)
      by (zero_of x) e behind = absurd behind

  defined : T.function.definition 1 ≡ record { home = front 1; kind = complete is_complete.0 }
  defined = by (subst (HomeFits T 1) is_complete.1 (paths.describes.homes 1))
    where
      one_is : (b : ℕ) → Some 1 ≡ Some b → b ≡ 1
      one_is b e = cc

      by : HomeFits T 1 (complete is_complete.0) → T.function.definition 1 ≡ record { home = front 1; kind = complete is_complete.0 }
      by fits =
          let there : T.function.definition 1 ≡ record { home = front fits.0; kind = complete is_complete.0 } = λ i. record { home = fits.1 i; kind = is_complete.1 i } in
          subst (λ (b : ℕ). T.function.definition 1 ≡ record { home = front b; kind = complete is_complete.0 }) (one_is fits.0 (paths.describes.complete_there fits.0 1 there)) there

  three : T.count 0 ≡ 3
  three = paths.program.counts 0 (block 0) refl

  the_edge : IsEdgeInto early_body loop_state T 1 (jump 0 3 0 1)
  the_edge = record { branch = 1; leads = first_of_two; from = ap (λ (k : ℕ). inside 0 k) (sym three); to = refl }

  joined : T.joins (jump 0 3 0 1) ≡ true
  joined = paths.describes.led 1 (jump 0 3 0 1) refl refl the_edge

  gets_itself : T.function.argument 1 (jump 0 3 0 1) ≡ 1
  unfolding the_edge
  gets_itself = is (T.function.argument 1 (jump 0 3 0 1)) (paths.describes.passes 1 1 (jump 0 3 0 1) the_edge defined refl 0 belongs)
    where
      is : (v : ℕ) → Some (Value 1) ≡ Some (Value v) → v ≡ 1
      is v e = cc

      belongs : 0 + length (carries.own.params 1) ≡ 0 + length (carries.own.passed 1 0)
      belongs =
          let none : length (carries.own.params 1) ≡ 0 = ap (λ (params : List ℕ). length params) (carries.holds.parameters 1) in
          let nothing = passes_none in
          omega (arith, none, nothing)

  resolves : T.function.resolve 1 ≡ 1
  unfolding follow
  resolves = paths.describes.resolves 1

  at_front : (T.function.definition (T.function.resolve 1)).home ≡ front 1
  at_front = ap (λ (v : ℕ). (T.function.definition v).home) resolves ∙ ap (λ (d : Definition). d.home) defined

  known : arms T (jump 0 3 0 1) ≡ true
  known = rw (paths.describes.sealed 1, joined) refl

  on_every_path : Dominates (arms T) (front 1) (inside 0 3)
  on_every_path =
      let sound = paths.sound.sound in
      let under = sound.under (arms T) (allowed T paths.program sound.rooted) in
      subst (λ (p : Place). Dominates (arms T) p (inside 0 3))
      (ap (λ (v : ℕ). (T.function.definition (T.function.resolve (T.function.argument v (jump 0 3 0 1)))).home) resolves
      ∙ (ap (λ (v : ℕ). (T.function.definition (T.function.resolve v)).home) gets_itself ∙ at_front))
      (under.arguments.at_source 1 (jump 0 3 0 1)
      (ap (λ (v : ℕ). (T.function.definition v).kind) resolves ∙ is_complete.1) at_front known)

  -- the way through block0 doesn't come to block1
  walk : Follows (arms T) (on 0 2 ∷ on 0 1 ∷ on 0 0 ∷ entry ∷ [])
  unfolding same_place
  walk = (
    rw three refl,
    refl,
    (
      rw three refl,
      refl,
      (
        rw three refl,
        refl,
        (rw (paths.describes.sealed 0, paths.describes.entered 0 refl (paths.describes.sealed 0)) refl, refl, tt),
      ),
    ),
  )

  pub refuted : ⊥
  refuted = by (on_every_path.on_every_path (on 0 2 ∷ on 0 1 ∷ on 0 0 ∷ entry ∷ []) walk refl)
    where
      other : {A : Type 0} (k : ℕ) → inside 1 0 ≡ inside 0 k → A
      other k e = absurd cc

      by : Visits (front 1) (on 0 2 ∷ on 0 1 ∷ on 0 0 ∷ entry ∷ []) → ⊥
      by (inl e) = other 3 e
      by (inr (inl e)) = other 2 e
      by (inr (inr (inl e))) = other 1 e
      by (inr (inr (inr (inl e)))) = other 0 e
      by (inr (inr (inr (inr none)))) = none
