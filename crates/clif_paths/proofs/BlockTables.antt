-- The state that the blocks' tables stand for, entry by entry.
use Rattle.std.proofs.Common.{◌≡◌, ◌≢◌, ℕ, zero, suc, Bool, true, false, cond, ◌==◌, ◌&&◌, nat_lt, Option, None, Some, ◌⊎◌, inl, inr, refl, sym, ◌∙◌, ap, subst, arith}
use Rattle.std.proofs.Math.Decide.{ℕ_discrete}
use Rattle.std.proofs.Math.Path.{fun_ext}
use Rattle.std.proofs.lemmas.Bool.Decides.{nat_tests}
use Rattle.clif_paths.specs.Places.{Place, start, inside, same_place, Arm, Edges}
use Rattle.clif_paths.specs.State.{Program}
use Rattle.clif_paths.specs.Steps.{updated, updated_at, only, with_sealed, with_records}
use Rattle.clif_paths.specs.Blocks.{Blocks, front, last_place, sealed_at, arm_into, recorded_at, state_of, with_block_sealed, with_item}
use Rattle.clif_paths.proofs.Tables.{updated-same, updated-other, updated_cases, updated_at-same, updated_at-other, number_equal}
use Rattle.clif_paths.proofs.PathLemmas.{same_place-equal, same_place-other}

pub inside-block : {b c i j : ℕ} → inside b i ≡ inside c j → b ≡ c
inside-block e = cc

pub inside-step : {b c i j : ℕ} → inside b i ≡ inside c j → i ≡ j
inside-step e = cc

updated_at_is : {A : Type 0} → (table : Place → A) (k : Place) (new : A) (i : Place) → updated_at table k new i ≡ cond (same_place i k) new (table i)
unfolding updated_at
updated_at_is table k new i = refl

-- programs with the same entries are one program
pub same_program :
    (program program' : Program) →
    ((place : Place) → program.is_sealed place ≡ program'.is_sealed place) →
    ((arm : Arm) → program.arms arm ≡ program'.arms arm) →
    program.assigned ≡ program'.assigned → program.naming ≡ program'.naming → program ≡ program'
same_program program program' sealed arms assigned naming = λ i. record {
  is_sealed = fun_ext sealed i;
  arms = fun_ext arms i;
  assigned = assigned i;
  naming = naming i;
}

-- what is recorded at a block's last place
pub recorded_at-last : (count : ℕ → ℕ) (recorded : ℕ → ℕ → Option ℕ) (block x : ℕ) → recorded_at count recorded (inside block (count block)) x ≡ recorded block x
recorded_at-last count recorded block x = rw (number_equal (count block) (count block) refl) refl

recorded_by :
    (count : ℕ → ℕ) (recorded : ℕ → ℕ → Option ℕ) (block k x v : ℕ) (last : Bool) → (k == count block) ≡ last →
    cond last (recorded block x) None ≡ Some v → (inside block k ≡ inside block (count block)) × (recorded block x ≡ Some v)
recorded_by count recorded block k x v true e here = let at : k ≡ count block = grind (arith, nat_tests) in (ap (λ i. inside block i) at, here)
recorded_by count recorded block k x v false e here = absurd cc

-- what is recorded is recorded at a block's last place
pub recorded_at-some :
    (count : ℕ → ℕ) (recorded : ℕ → ℕ → Option ℕ) (place : Place) (x v : ℕ) → recorded_at count recorded place x ≡ Some v →
    (block : ℕ) × (place ≡ inside block (count block)) × (recorded block x ≡ Some v)
recorded_at-some count recorded start x v here = absurd cc
recorded_at-some count recorded (inside block k) x v here =
    let (at, is_recorded) = recorded_by count recorded block k x v (k == count block) refl here in
    (block, at, is_recorded)

pub record_in_block :
    (recorded : ℕ → ℕ → Option ℕ) (b x v c y w : ℕ) → updated recorded b (updated (recorded b) x (Some v)) c y ≡ Some w →
    ((c ≡ b) × (updated recorded b (updated (recorded b) x (Some v)) c ≡ updated (recorded b) x (Some v))) ⊎
    ((c ≢ b) × (updated recorded b (updated (recorded b) x (Some v)) c ≡ recorded c)) →
    ((y ≡ x) × (updated (recorded b) x (Some v) y ≡ Some v)) ⊎ ((y ≢ x) × (updated (recorded b) x (Some v) y ≡ recorded b y)) →
    ((c ≡ b) × (y ≡ x) × (v ≡ w)) ⊎ ((c ≡ b → y ≢ x) × (recorded c y ≡ Some w))
record_in_block recorded b x v c y w here (inl in_block) (inl of_x) =
    let changed : Some v ≡ Some w = sym of_x.1 ∙ sym (ap (λ t. t y) in_block.1) ∙ here in
    let same : v ≡ w = cc in
    inl (in_block.0, of_x.0, same)
record_in_block recorded b x v c y w here (inl in_block) (inr other) =
    inr (λ e. other.0, ap (λ k. recorded k y) in_block.0 ∙ sym other.1 ∙ sym (ap (λ t. t y) in_block.1) ∙ here)
record_in_block recorded b x v c y w here (inr elsewhere) of_x = inr (λ e. absurd (elsewhere.0 e), sym (ap (λ t. t y) elsewhere.1) ∙ here)

place_record :
    (count : ℕ → ℕ) (recorded : ℕ → ℕ → Option ℕ) (b x v : ℕ) (place : Place) (y w c : ℕ) → place ≡ inside c (count c) →
    ((c ≡ b) × (y ≡ x) × (v ≡ w)) ⊎ ((c ≡ b → y ≢ x) × (recorded c y ≡ Some w)) →
    ((place ≡ inside b (count b)) × (y ≡ x) × (v ≡ w)) ⊎ ((place ≡ inside b (count b) → y ≢ x) × (recorded_at count recorded place y ≡ Some w))
place_record count recorded b x v place y w c at (inl new) = inl (at ∙ ap (λ k. inside k (count k)) new.0, new.1, new.2)
place_record count recorded b x v place y w c at (inr old) =
    inr (
      λ at_b. old.0 (inside-block (sym at ∙ at_b)),
      ap (λ p. recorded_at count recorded p y) at ∙ recorded_at-last count recorded c y ∙ old.1,
    )

-- what is recorded after one record is changed: the new one, or what was recorded elsewhere
pub block_record_cases :
    (count : ℕ → ℕ) (recorded : ℕ → ℕ → Option ℕ) (b x v : ℕ) (place : Place) (y w : ℕ) →
    recorded_at count (updated recorded b (updated (recorded b) x (Some v))) place y ≡ Some w →
    ((place ≡ inside b (count b)) × (y ≡ x) × (v ≡ w)) ⊎ ((place ≡ inside b (count b) → y ≢ x) × (recorded_at count recorded place y ≡ Some w))
block_record_cases count recorded b x v place y w here =
    let (c, at, is_recorded) = recorded_at-some count (updated recorded b (updated (recorded b) x (Some v))) place y w here in
    place_record count recorded b x v place y w c at
    (record_in_block recorded b x v c y w is_recorded
    (updated_cases recorded b (updated (recorded b) x (Some v)) c)
    (updated_cases (recorded b) x (Some v) y))

-- SEAL: the same as sealing the front -----------------------------------------------------------------------------

front_other : (b c k : ℕ) → inside c (suc k) ≢ front b
front_other b c k e = let h = inside-step e in cc

start_other : (b k : ℕ) → start ≢ inside b k
start_other b k e = cc

seal_front :
    (count : ℕ → ℕ) (sealed : ℕ → Bool) (b c : ℕ) → Dec (c ≡ b) →
    updated sealed b true c ≡ updated_at (λ p. sealed_at count sealed p) (front b) true (front c)
seal_front count sealed b c (yes e) =
    updated-same sealed b true c e ∙ sym (updated_at-same (λ p. sealed_at count sealed p) (front b) true (front c) (ap front e))
seal_front count sealed b c (no ne) =
    updated-other sealed b true c ne ∙
    sym (updated_at-other (λ p. sealed_at count sealed p) (front b) true (front c) (λ e. ne (inside-block e)))

seal_sealed :
    (count : ℕ → ℕ) (sealed : ℕ → Bool) (b : ℕ) (place : Place) →
    sealed_at count (updated sealed b true) place ≡ updated_at (λ p. sealed_at count sealed p) (front b) true place
seal_sealed count sealed b start = sym (updated_at-other (λ p. sealed_at count sealed p) (front b) true start (start_other b 0))
seal_sealed count sealed b (inside c zero) = seal_front count sealed b c (ℕ_discrete c b)
seal_sealed count sealed b (inside c (suc k)) =
    sym (updated_at-other (λ p. sealed_at count sealed p) (front b) true (inside c (suc k)) (front_other b c k))

seal_join :
    (sealed : ℕ → Bool) (joins into : Edges) (b : ℕ) (arm : Arm) (c : ℕ) → arm.target ≡ front c → Dec (c ≡ b) →
    (updated sealed b true c && cond (same_place arm.target (front b)) (into arm) (joins arm)) ≡
    cond (same_place arm.target (front b)) (into arm) (sealed c && joins arm)
seal_join sealed joins into b arm c at (yes e) =
    rw (updated-same sealed b true c e, same_place-equal arm.target (front b) (at ∙ ap front e)) refl
seal_join sealed joins into b arm c at (no ne) =
    rw (updated-other sealed b true c ne, same_place-other arm.target (front b) (λ e. ne (inside-block (sym at ∙ e)))) refl

seal_arm :
    (count : ℕ → ℕ) (sealed : ℕ → Bool) (joins into : Edges) (b : ℕ) (arm : Arm) (p : Place) → arm.target ≡ p →
    arm_into count (updated sealed b true) (λ arm. cond (same_place arm.target (front b)) (into arm) (joins arm)) arm p ≡
    cond (same_place arm.target (front b)) (into arm) (arm_into count sealed joins arm p)
seal_arm count sealed joins into b arm start at =
    rw (same_place-other arm.target (front b) (λ e. start_other b 0 (sym at ∙ e))) refl
seal_arm count sealed joins into b arm (inside c zero) at = seal_join sealed joins into b arm c at (ℕ_discrete c b)
seal_arm count sealed joins into b arm (inside c (suc k)) at =
    rw (same_place-other arm.target (front b) (λ e. front_other b c k (sym at ∙ e))) refl

-- sealing a block is sealing its front
pub block_sealed : (blocks : Blocks) (b : ℕ) (into : Edges) → state_of (with_block_sealed blocks b into) ≡ with_sealed (state_of blocks) (only (front b)) into
block_sealed blocks b into =
    ap (λ (program : Program). record {
      program = program;
      function = blocks.function;
      recorded = λ place x. recorded_at blocks.count blocks.recorded place x;
      answer = blocks.answer;
    })
    (same_program (state_of (with_block_sealed blocks b into)).program (with_sealed (state_of blocks) (only (front b)) into).program
    (λ place. seal_sealed blocks.count blocks.sealed b place ∙ updated_at_is (λ p. sealed_at blocks.count blocks.sealed p) (front b) true place)
    (λ arm. seal_arm blocks.count blocks.sealed blocks.joins into b arm arm.target refl)
    refl refl)

-- GO ON: the same as sealing the next place by its one arm --------------------------------------------------------

-- the one arm to the next place of a block
abbrev pub arm_on : Blocks → ℕ → Edges
arm_on blocks b arm = same_place arm.source (last_place blocks b) && (arm.edge == 0)

lt_next : (n : ℕ) → nat_lt n (suc n) ≡ true
lt_next n = grind (arith, nat_tests)

lt_other : (k n : ℕ) → k ≢ n → nat_lt k (suc n) ≡ nat_lt k n
lt_other k n ne = grind (arith, nat_tests)

next_other : (b n c k : ℕ) → c ≢ b → inside c k ≢ inside b n
next_other b n c k ne e = ne (inside-block e)

item_here :
    (count : ℕ → ℕ) (sealed : ℕ → Bool) (b k : ℕ) → Dec (k ≡ count b) →
    nat_lt k (suc (count b)) ≡ updated_at (λ p. sealed_at count sealed p) (inside b (suc (count b))) true (inside b (suc k))
item_here count sealed b k (yes e) =
    ap (λ i. nat_lt i (suc (count b))) e ∙ lt_next (count b) ∙
    sym (updated_at-same (λ p. sealed_at count sealed p) (inside b (suc (count b))) true (inside b (suc k)) (ap (λ i. inside b (suc i)) e))
item_here count sealed b k (no ne) =
    lt_other k (count b) ne ∙
    sym (updated_at-other (λ p. sealed_at count sealed p) (inside b (suc (count b))) true (inside b (suc k))
    (λ e. ne (let h = inside-step e in cc)))

item_sealed_by :
    (count : ℕ → ℕ) (sealed : ℕ → Bool) (b c k : ℕ) → Dec (c ≡ b) →
    nat_lt k (updated count b (suc (count b)) c) ≡
    updated_at (λ p. sealed_at count sealed p) (inside b (suc (count b))) true (inside c (suc k))
item_sealed_by count sealed b c k (yes e) =
    ap (λ n. nat_lt k n) (updated-same count b (suc (count b)) c e) ∙
    item_here count sealed b k (ℕ_discrete k (count b)) ∙
    ap (λ d. updated_at (λ p. sealed_at count sealed p) (inside b (suc (count b))) true (inside d (suc k))) (sym e)
item_sealed_by count sealed b c k (no ne) =
    ap (λ n. nat_lt k n) (updated-other count b (suc (count b)) c ne) ∙
    sym (updated_at-other (λ p. sealed_at count sealed p) (inside b (suc (count b))) true (inside c (suc k)) (next_other b (suc (count b)) c (suc k) ne))

item_sealed :
    (count : ℕ → ℕ) (sealed : ℕ → Bool) (b : ℕ) (place : Place) →
    sealed_at (updated count b (suc (count b))) sealed place ≡ updated_at (λ p. sealed_at count sealed p) (inside b (suc (count b))) true place
item_sealed count sealed b start =
    sym (updated_at-other (λ p. sealed_at count sealed p) (inside b (suc (count b))) true start (start_other b (suc (count b))))
item_sealed count sealed b (inside c zero) =
    sym (updated_at-other (λ p. sealed_at count sealed p) (inside b (suc (count b))) true (inside c zero) (λ e. front_other c b (count b) (sym e)))
item_sealed count sealed b (inside c (suc k)) = item_sealed_by count sealed b c k (ℕ_discrete c b)

item_arm_here :
    (count : ℕ → ℕ) (b : ℕ) (arm : Arm) (k : ℕ) → arm.target ≡ inside b (suc k) → Dec (k ≡ count b) →
    (nat_lt k (suc (count b)) && (same_place arm.source (inside b k) && (arm.edge == 0))) ≡
    cond (same_place arm.target (inside b (suc (count b)))) (same_place arm.source (inside b (count b)) && (arm.edge == 0))
    (nat_lt k (count b) && (same_place arm.source (inside b k) && (arm.edge == 0)))
item_arm_here count b arm k at (yes e) =
    let lt : nat_lt k (suc (count b)) ≡ true = ap (λ i. nat_lt i (suc (count b))) e ∙ lt_next (count b) in
    rw (lt, same_place-equal arm.target (inside b (suc (count b))) (at ∙ ap (λ i. inside b (suc i)) e))
    (ap (λ i. same_place arm.source (inside b i) && (arm.edge == 0)) e)
item_arm_here count b arm k at (no ne) =
    rw (
      lt_other k (count b) ne,
      same_place-other arm.target (inside b (suc (count b))) (λ e. ne (let h = inside-step (sym at ∙ e) in cc)),
    )
    refl

item_arm_by :
    (count : ℕ → ℕ) (b : ℕ) (arm : Arm) (c k : ℕ) → arm.target ≡ inside c (suc k) → Dec (c ≡ b) →
    (nat_lt k (updated count b (suc (count b)) c) && (same_place arm.source (inside c k) && (arm.edge == 0))) ≡
    cond (same_place arm.target (inside b (suc (count b)))) (same_place arm.source (inside b (count b)) && (arm.edge == 0))
    (nat_lt k (count c) && (same_place arm.source (inside c k) && (arm.edge == 0)))
item_arm_by count b arm c k at (yes e) =
    rw (updated-same count b (suc (count b)) c e)
    (subst
    (λ d. (nat_lt k (suc (count b)) && (same_place arm.source (inside d k) && (arm.edge == 0))) ≡
    cond (same_place arm.target (inside b (suc (count b)))) (same_place arm.source (inside b (count b)) && (arm.edge == 0))
    (nat_lt k (count d) && (same_place arm.source (inside d k) && (arm.edge == 0))))
    (sym e)
    (item_arm_here count b arm k (at ∙ ap (λ d. inside d (suc k)) e) (ℕ_discrete k (count b))))
item_arm_by count b arm c k at (no ne) =
    rw (
      updated-other count b (suc (count b)) c ne,
      same_place-other arm.target (inside b (suc (count b))) (λ e. ne (inside-block (sym at ∙ e))),
    )
    refl

item_arm :
    (count : ℕ → ℕ) (sealed : ℕ → Bool) (joins : Edges) (b : ℕ) (arm : Arm) (p : Place) → arm.target ≡ p →
    arm_into (updated count b (suc (count b))) sealed joins arm p ≡
    cond (same_place arm.target (inside b (suc (count b)))) (same_place arm.source (inside b (count b)) && (arm.edge == 0))
    (arm_into count sealed joins arm p)
item_arm count sealed joins b arm start at =
    rw (same_place-other arm.target (inside b (suc (count b))) (λ e. start_other b (suc (count b)) (sym at ∙ e))) refl
item_arm count sealed joins b arm (inside c zero) at =
    rw (same_place-other arm.target (inside b (suc (count b))) (λ e. front_other c b (count b) (sym (sym at ∙ e)))) refl
item_arm count sealed joins b arm (inside c (suc k)) at = item_arm_by count b arm c k at (ℕ_discrete c b)

-- going on to the next place is sealing it by its one arm, and moving the block's records there
pub item_written :
    (blocks : Blocks) (b : ℕ) →
    state_of (with_item blocks b) ≡
    with_records
    (with_sealed (state_of blocks) (only (inside b (suc (blocks.count b)))) (arm_on blocks b))
    (λ place x. recorded_at (updated blocks.count b (suc (blocks.count b))) blocks.recorded place x)
item_written blocks b =
    ap (λ (program : Program). record {
      program = program;
      function = blocks.function;
      recorded = λ place x. recorded_at (updated blocks.count b (suc (blocks.count b))) blocks.recorded place x;
      answer = blocks.answer;
    })
    (same_program (state_of (with_item blocks b)).program (with_sealed (state_of blocks) (only (inside b (suc (blocks.count b)))) (arm_on blocks b)).program
    (λ place. item_sealed blocks.count blocks.sealed b place ∙ updated_at_is (λ p. sealed_at blocks.count blocks.sealed p) (inside b (suc (blocks.count b))) true place)
    (λ arm. item_arm blocks.count blocks.sealed blocks.joins b arm arm.target refl)
    refl refl)
