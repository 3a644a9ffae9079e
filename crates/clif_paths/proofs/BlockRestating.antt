-- Tables of blocks that say the same.
use Rattle.std.proofs.Common.{◌≡◌, ◌≢◌, ℕ, zero, suc, Bool, true, false, cond, ◌==◌, ◌&&◌, nat_lt, Option, None, Some, inl, refl, sym, ◌∙◌, ap, subst}
use Rattle.std.proofs.Math.Path.{fun_ext}
use Rattle.clif_paths.specs.Places.{Place, start, inside, same_place, Arm}
use Rattle.clif_paths.specs.Sound.{Sound}
use Rattle.clif_paths.specs.Steps.{updated, with_tables, CanRestate}
use Rattle.clif_paths.specs.Blocks.{Blocks, front, sealed_at, arm_into, recorded_at, state_of, SaysTheSame, CompleteAtFronts, Role, Birth, nowhere, result_of, parameter_of, place_of, home_by}
use Rattle.clif_paths.specs.BlockLaws.{BlocksSound}
use Rattle.clif_paths.proofs.Tables.{updated-same, updated-other}
use Rattle.clif_paths.proofs.BlockTables.{recorded_at-last, recorded_at-some}
use Rattle.clif_paths.proofs.Checked.{second_of_and}
use Rattle.clif_paths.proofs.Labelled.{forgotten_labelled, restated_labelled}
use Rattle.clif_paths.proofs.Recording.{record_keeps}
use Rattle.clif_paths.proofs.Restating.{restate_keeps}

same_sealed :
    (count count' : ℕ → ℕ) (sealed sealed' : ℕ → Bool) → ((b : ℕ) → count' b ≡ count b) → ((b : ℕ) → sealed' b ≡ sealed b) → (place : Place) →
    sealed_at count sealed place ≡ sealed_at count' sealed' place
same_sealed count count' sealed sealed' c s start = refl
same_sealed count count' sealed sealed' c s (inside b zero) = sym (s b)
same_sealed count count' sealed sealed' c s (inside b (suc k)) = ap (λ n. nat_lt k n) (sym (c b))

same_front : (sealed sealed' joined joined' : Bool) → sealed' ≡ sealed → (sealed ≡ true → joined' ≡ joined) → (sealed && joined) ≡ (sealed' && joined')
same_front true sealed' joined joined' e j = rw e (sym (j refl))
same_front false sealed' joined joined' e j = rw e refl

same_arm_into :
    (blocks blocks' : Blocks) → SaysTheSame blocks blocks' → (arm : Arm) (place : Place) → arm.target ≡ place →
    arm_into blocks.count blocks.sealed blocks.joins arm place ≡ arm_into blocks'.count blocks'.sealed blocks'.joins arm place
same_arm_into blocks blocks' same arm start at = refl
same_arm_into blocks blocks' same arm (inside b zero) at =
    same_front (blocks.sealed b) (blocks'.sealed b) (blocks.joins arm) (blocks'.joins arm) (same.sealed b) (λ e. same.joins b arm e at)
same_arm_into blocks blocks' same arm (inside b (suc k)) at =
    ap (λ n. nat_lt k n && (same_place arm.source (inside b k) && (arm.edge == 0))) (sym (same.count b))

same_recorded :
    (blocks blocks' : Blocks) → SaysTheSame blocks blocks' → (place : Place) (x : ℕ) →
    recorded_at blocks.count blocks.recorded place x ≡ recorded_at blocks'.count blocks'.recorded place x
same_recorded blocks blocks' same start x = refl
same_recorded blocks blocks' same (inside b k) x =
    ap (λ n. cond (k == n) (blocks.recorded b x) None) (sym (same.count b)) ∙
    ap (λ (r : Option ℕ). cond (k == blocks'.count b) r None) (sym (same.recorded b x))

same_state :
    (blocks blocks' : Blocks) → SaysTheSame blocks blocks' →
    with_tables (state_of blocks) blocks'.function.definition blocks'.function.argument ≡ state_of blocks'
same_state blocks blocks' same = λ i. record {
  program = record {
    is_sealed = fun_ext (λ place. same_sealed blocks.count blocks'.count blocks.sealed blocks'.sealed same.count same.sealed place) i;
    arms = fun_ext (λ (arm : Arm). same_arm_into blocks blocks' same arm arm.target refl) i;
    assigned = fun_ext (λ place. fun_ext (λ x. sym (same.assigned place x))) i;
    naming = fun_ext (λ n. sym (same.naming n)) i;
  };
  function = record {
    definition = blocks'.function.definition;
    argument = blocks'.function.argument;
    resolve = fun_ext (λ v. sym (same.resolve v)) i;
  };
  recorded = fun_ext (λ place. fun_ext (λ x. same_recorded blocks blocks' same place x)) i;
  answer = fun_ext (λ n. sym (same.answer n)) i;
}

front_known :
    (blocks : Blocks) (arm : Arm) (b : ℕ) → arm.target ≡ front b → blocks.sealed b ≡ true →
    ((state_of blocks).program.is_sealed arm.target ≡ true → (state_of blocks).program.arms arm ≡ true) → blocks.joins arm ≡ true
front_known blocks arm b at sealed known =
    second_of_and (blocks.sealed b) (blocks.joins arm)
    (ap (λ p. arm_into blocks.count blocks.sealed blocks.joins arm p) (sym at) ∙
    known (ap (λ p. sealed_at blocks.count blocks.sealed p) at ∙ sealed))

can_restate :
    (blocks blocks' : Blocks) → CompleteAtFronts blocks → SaysTheSame blocks blocks' →
    CanRestate (state_of blocks) blocks'.function.definition blocks'.function.argument
can_restate blocks blocks' fronts same = record {
  seen = same.definition;
  arguments = λ u arm k at known.
      let (b, home, sealed) = fronts.at_front u k in
      let at_front : arm.target ≡ front b = sym at ∙ home in
      same.argument u b arm k home at_front sealed (front_known blocks arm b at_front sealed known);
}

-- tables that say the same are as sound
pub restated_keeps : (blocks blocks' : Blocks) → CompleteAtFronts blocks → SaysTheSame blocks blocks' → BlocksSound blocks → BlocksSound blocks'
restated_keeps blocks blocks' fronts same before = record {
  labelled = restated_labelled blocks blocks' same before.labelled;
  sound = subst (λ s. Sound s) (same_state blocks blocks' same)
      (restate_keeps (state_of blocks) blocks'.function.definition blocks'.function.argument (can_restate blocks blocks' fronts same) before.sound);
}

-- records may be forgotten
pub forget_keeps :
    (blocks : Blocks) (recorded : ℕ → ℕ → Option ℕ) → ((b x v : ℕ) → recorded b x ≡ Some v → blocks.recorded b x ≡ Some v) → BlocksSound blocks →
    BlocksSound (record blocks { recorded = recorded })
forget_keeps blocks recorded fewer before = record {
  labelled = forgotten_labelled blocks recorded fewer before.labelled;
  sound = record_keeps (state_of blocks) (λ place x. recorded_at blocks.count recorded place x)
      (record {
        each = λ place x v e.
            let (b, at, is_recorded) = recorded_at-some blocks.count recorded place x v e in
            inl (ap (λ p. recorded_at blocks.count blocks.recorded p x) at ∙ recorded_at-last blocks.count blocks.recorded b x ∙ fewer b x v is_recorded);
      })
      before.sound;
}

other_role : (roles : ℕ → Role) (instruction : ℕ) (role : Role) (birth : Birth) → birth ≢ result_of instruction → home_by (updated roles instruction role) birth ≡ home_by roles birth
other_role roles instruction role nowhere ne = refl
other_role roles instruction role (result_of i) ne =
    ap place_of (updated-other roles instruction role i (λ e. ne (ap (λ k. result_of k) e)))
other_role roles instruction role (parameter_of b) ne = refl

-- a map of instructions with one more
pub roles_extend :
    (roles : ℕ → Role) (instruction : ℕ) (role : Role) →
    (home_by (updated roles instruction role) (result_of instruction) ≡ place_of role) ×
    ((birth : Birth) → birth ≢ result_of instruction → home_by (updated roles instruction role) birth ≡ home_by roles birth)
roles_extend roles instruction role =
    (ap place_of (updated-same roles instruction role instruction refl), λ birth ne. other_role roles instruction role birth ne)
