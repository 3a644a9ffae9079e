-- Changes of the blocks' tables, as steps of the state.
use Rattle.std.proofs.Common.{◌≡◌, ◌≢◌, ℕ, zero, suc, ◌<◌, ◌≤◌, Bool, true, false, cond, ◌==◌, ◌&&◌, nat_lt, Option, None, Some, List, [], ◌∷◌, ◌⊎◌, inl, inr, refl, sym, ◌∙◌, ap, subst, arith}
use Rattle.std.proofs.Math.Decide.{ℕ_discrete}
use Rattle.std.proofs.lemmas.Bool.Decides.{nat_tests}
use Rattle.clif_paths.specs.Places.{Place, start, inside, same_place, Arm, Edges}
use Rattle.clif_paths.specs.State.{pending, Definition, Program, Function, State}
use Rattle.clif_paths.specs.Denotation.{variable}
use Rattle.clif_paths.specs.Sound.{Allowed, Holds, Sound}
use Rattle.clif_paths.specs.Steps.{updated, updated_at, only, with_sealed, CanSeal, Comes, CanRecord, with_pending, with_assigned, CanGive, Incoming, Waits}
use Rattle.clif_paths.specs.Blocks.{Blocks, front, last_place, chosen_front, with_blocks_sealed, sealed_at, arm_into, recorded_at, state_of, no_blocks, with_block_sealed, with_item, CanAppend, with_born, with_read, CanRead, with_record, with_write, CanWrite, AssignsNot, Carries, CanCopy, IsChain, with_chain, with_parameter, CanAddParameter, WaitsIn, with_filled, CanFillIn, with_dropped, CanDropIn, with_zero_in, CanUndefineIn}
use Rattle.clif_paths.specs.BlockLaws.{BlocksSound}
use Rattle.clif_paths.proofs.Tables.{updated-same, updated-other, record_new, record_other}
use Rattle.clif_paths.proofs.PathLemmas.{same_place-true, same_place-equal, same_place-other, same_place-refl}
use Rattle.clif_paths.proofs.BlockTables.{same_program, inside-block, inside-step, recorded_at-last, recorded_at-some, block_record_cases, block_sealed, arm_on, item_written}
use Rattle.clif_paths.proofs.Labelled.{first_labelled, block_sealed_labelled, blocks_sealed_labelled, item_labelled, born_labelled, read_labelled, write_labelled, record_labelled, parameter_labelled, filled_labelled, known_dropped, zero_labelled, zero_dropped}
use Rattle.clif_paths.proofs.Refine.{rooted_allowed, holds_refined}
use Rattle.clif_paths.proofs.Born.{refines_new, wait_keeps, zero_keeps, pending_holds}
use Rattle.clif_paths.proofs.Fill.{fill_keeps}
use Rattle.clif_paths.proofs.Alias.{drop_keeps, undefine_keeps}
use Rattle.clif_paths.proofs.Recording.{brought_holds, records_stand, record_keeps}
use Rattle.clif_paths.proofs.Naming.{give_keeps, use_keeps}
use Rattle.clif_paths.proofs.Assigning.{assign_keeps}
use Rattle.clif_paths.proofs.Sealing.{seal_keeps}

inside_written : (b k : ℕ) → inside b k ≢ start
inside_written b k e = cc

-- FIRST -----------------------------------------------------------------------------------------------------------

no_arm : (arm : Arm) (p : Place) → arm_into (λ block. 0) (λ block. false) (λ a. false) arm p ≡ false
no_arm arm start = refl
no_arm arm (inside b zero) = refl
no_arm arm (inside b (suc k)) = let none : nat_lt k 0 ≡ false = grind (arith, nat_tests) in rw none refl

no_record : (place : Place) (x : ℕ) → recorded_at (λ block. 0) (λ block y. None) place x ≡ None
no_record start x = refl
no_record (inside b k) x = none_either (k == 0)
  where
    none_either : (c : Bool) → ◌≡◌ {A = Option ℕ} (cond c None None) None
    none_either true = refl
    none_either false = refl

pub first_sound : BlocksSound no_blocks
first_sound = record {
  labelled = first_labelled;
  sound = record {
    known_sealed = λ arm e. let none = no_arm arm arm.target in absurd cc;
    rooted = λ arm at. no_arm arm arm.target;
    under = λ edges allowed. record {
      arguments = record { at_source = λ u arm k at e. absurd cc };
      parameters = record { at_visit = λ u arm path k at f. absurd cc };
      records = λ place x v e. let none = no_record place x in absurd cc;
      answers = λ n there. absurd (there refl);
    };
  };
}

-- SEAL, GO ON -----------------------------------------------------------------------------------------------------

-- one place that is not sealed may be
can_seal_one : (s : State) (place : Place) → s.program.is_sealed place ≡ false → place ≢ start → CanSeal s (only place)
can_seal_one s place unsealed written = record {
  unsealed = λ p same. ap s.program.is_sealed (same_place-true p place same) ∙ unsealed;
  written = same_place-other start place (λ e. written (sym e));
}

pub seal_block_keeps :
    (blocks : Blocks) (b : ℕ) (into : Edges) → blocks.sealed b ≡ false → BlocksSound blocks → BlocksSound (with_block_sealed blocks b into)
seal_block_keeps blocks b into unsealed before = record {
  labelled = block_sealed_labelled blocks b into unsealed before.labelled;
  sound = subst (λ s. Sound s) (sym (block_sealed blocks b into))
      (seal_keeps (state_of blocks) (only (front b)) into (can_seal_one (state_of blocks) (front b) unsealed (inside_written b 0)) before.sound);
}

-- several blocks at once
chosen_sealed :
    (count : ℕ → ℕ) (sealed chosen : ℕ → Bool) (place : Place) →
    sealed_at count (λ b. cond (chosen b) true (sealed b)) place ≡ cond (chosen_front chosen place) true (sealed_at count sealed place)
chosen_sealed count sealed chosen start = refl
chosen_sealed count sealed chosen (inside b zero) = refl
chosen_sealed count sealed chosen (inside b (suc k)) = refl

chosen_join :
    (chosen sealed into joined : Bool) →
    (cond chosen true sealed && cond chosen into joined) ≡ cond chosen into (sealed && joined)
chosen_join true sealed into joined = refl
chosen_join false sealed into joined = refl

chosen_arm :
    (count : ℕ → ℕ) (sealed : ℕ → Bool) (joins into : Edges) (chosen : ℕ → Bool) (arm : Arm) (p : Place) → arm.target ≡ p →
    arm_into count (λ b. cond (chosen b) true (sealed b)) (λ a. cond (chosen_front chosen a.target) (into a) (joins a)) arm p ≡
    cond (chosen_front chosen p) (into arm) (arm_into count sealed joins arm p)
chosen_arm count sealed joins into chosen arm start at = refl
chosen_arm count sealed joins into chosen arm (inside b zero) at =
    ap (λ q. cond (chosen b) true (sealed b) && cond (chosen_front chosen q) (into arm) (joins arm)) at ∙
    chosen_join (chosen b) (sealed b) (into arm) (joins arm)
chosen_arm count sealed joins into chosen arm (inside b (suc k)) at = refl

blocks_sealed :
    (blocks : Blocks) (chosen : ℕ → Bool) (into : Edges) →
    state_of (with_blocks_sealed blocks chosen into) ≡ with_sealed (state_of blocks) (chosen_front chosen) into
blocks_sealed blocks chosen into =
    ap (λ (program : Program). record {
      program = program;
      function = blocks.function;
      recorded = λ place x. recorded_at blocks.count blocks.recorded place x;
      answer = blocks.answer;
    })
    (same_program (state_of (with_blocks_sealed blocks chosen into)).program (with_sealed (state_of blocks) (chosen_front chosen) into).program
    (λ place. chosen_sealed blocks.count blocks.sealed chosen place)
    (λ arm. chosen_arm blocks.count blocks.sealed blocks.joins into chosen arm arm.target refl)
    refl refl)

unsealed_front :
    (blocks : Blocks) (chosen : ℕ → Bool) → ((b : ℕ) → chosen b ≡ true → blocks.sealed b ≡ false) → (p : Place) → chosen_front chosen p ≡ true →
    sealed_at blocks.count blocks.sealed p ≡ false
unsealed_front blocks chosen unsealed start e = refl
unsealed_front blocks chosen unsealed (inside b zero) e = unsealed b e
unsealed_front blocks chosen unsealed (inside b (suc k)) e = absurd cc

pub seal_blocks_keeps :
    (blocks : Blocks) (chosen : ℕ → Bool) (into : Edges) → ((b : ℕ) → chosen b ≡ true → blocks.sealed b ≡ false) → BlocksSound blocks →
    BlocksSound (with_blocks_sealed blocks chosen into)
seal_blocks_keeps blocks chosen into unsealed before = record {
  labelled = blocks_sealed_labelled blocks chosen into unsealed before.labelled;
  sound = subst (λ s. Sound s) (sym (blocks_sealed blocks chosen into))
      (seal_keeps (state_of blocks) (chosen_front chosen) into
      (record { unsealed = unsealed_front blocks chosen unsealed; written = refl }) before.sound);
}

true_of_and : (b c : Bool) → (b && c) ≡ true → b ≡ true
true_of_and true c e = refl
true_of_and false c e = absurd cc

second_of_and : (b c : Bool) → (b && c) ≡ true → c ≡ true
second_of_and true c e = e
second_of_and false c e = absurd cc

next_source :
    (blocks : Blocks) (b : ℕ) (arm : Arm) →
    (with_sealed (state_of blocks) (only (inside b (suc (blocks.count b)))) (arm_on blocks b)).program.arms arm ≡ true →
    arm.target ≡ inside b (suc (blocks.count b)) → arm.source ≡ last_place blocks b
next_source blocks b arm e at =
    let into : arm_on blocks b arm ≡ true =
    rw (same_place-equal arm.target (inside b (suc (blocks.count b))) at) at e in
    same_place-true arm.source (last_place blocks b)
    (true_of_and (same_place arm.source (last_place blocks b)) (arm.edge == 0) into)

item_comes :
    (blocks : Blocks) (b : ℕ) → CanAppend blocks b → (x v : ℕ) → blocks.recorded b x ≡ Some v →
    Comes (with_sealed (state_of blocks) (only (inside b (suc (blocks.count b)))) (arm_on blocks b)) (inside b (suc (blocks.count b))) x v
item_comes blocks b can x v is_recorded = record {
  written = inside_written b (suc (blocks.count b));
  is_sealed = rw (same_place-refl (inside b (suc (blocks.count b)))) refl;
  unassigned = can.unassigned x;
  along = λ arm e at. (
    v,
    ap (λ p. recorded_at blocks.count blocks.recorded p x) (next_source blocks b arm e at) ∙
        recorded_at-last blocks.count blocks.recorded b x ∙ is_recorded,
    refl,
  );
}

item_record_by :
    (blocks : Blocks) (b : ℕ) → CanAppend blocks b → (place : Place) (x v c : ℕ) →
    place ≡ inside c (updated blocks.count b (suc (blocks.count b)) c) → blocks.recorded c x ≡ Some v → Dec (c ≡ b) →
    (recorded_at blocks.count blocks.recorded place x ≡ Some v) ⊎
    Comes (with_sealed (state_of blocks) (only (inside b (suc (blocks.count b)))) (arm_on blocks b)) place x v
item_record_by blocks b can place x v c at is_recorded (yes e) =
    let here : place ≡ inside b (suc (blocks.count b)) =
    at ∙ ap (λ k. inside c k) (updated-same blocks.count b (suc (blocks.count b)) c e) ∙ ap (λ d. inside d (suc (blocks.count b))) e in
    inr (subst
    (λ p. Comes (with_sealed (state_of blocks) (only (inside b (suc (blocks.count b)))) (arm_on blocks b)) p x v)
    (sym here)
    (item_comes blocks b can x v (ap (λ d. blocks.recorded d x) (sym e) ∙ is_recorded)))
item_record_by blocks b can place x v c at is_recorded (no ne) =
    let here : place ≡ last_place blocks c = at ∙ ap (λ k. inside c k) (updated-other blocks.count b (suc (blocks.count b)) c ne) in
    inl (ap (λ p. recorded_at blocks.count blocks.recorded p x) here ∙ recorded_at-last blocks.count blocks.recorded c x ∙ is_recorded)

item_records :
    (blocks : Blocks) (b : ℕ) → CanAppend blocks b →
    CanRecord (with_sealed (state_of blocks) (only (inside b (suc (blocks.count b)))) (arm_on blocks b))
    (λ place x. recorded_at (updated blocks.count b (suc (blocks.count b))) blocks.recorded place x)
item_records blocks b can = record {
  each = λ place x v here.
      let (c, at, is_recorded) = recorded_at-some (updated blocks.count b (suc (blocks.count b))) blocks.recorded place x v here in
      item_record_by blocks b can place x v c at is_recorded (ℕ_discrete c b);
}

not_yet : (n : ℕ) → nat_lt n n ≡ false
not_yet n = grind (arith, nat_tests)

pub item_keeps : (blocks : Blocks) (b : ℕ) → CanAppend blocks b → BlocksSound blocks → BlocksSound (with_item blocks b)
item_keeps blocks b can before =
    let next : Place = inside b (suc (blocks.count b)) in
    let sealed : Sound (with_sealed (state_of blocks) (only next) (arm_on blocks b)) =
    seal_keeps (state_of blocks) (only next) (arm_on blocks b)
    (can_seal_one (state_of blocks) next (not_yet (blocks.count b)) (inside_written b (suc (blocks.count b)))) before.sound in
    record {
      sound = subst (λ s. Sound s) (sym (item_written blocks b))
          (record_keeps (with_sealed (state_of blocks) (only next) (arm_on blocks b))
          (λ place x. recorded_at (updated blocks.count b (suc (blocks.count b))) blocks.recorded place x)
          (item_records blocks b can) sealed);
      labelled = item_labelled blocks b before.labelled;
    }

-- GIVE, USE, ASSIGN -----------------------------------------------------------------------------------------------

pub born_keeps :
    (blocks : Blocks) (place : Place) (n v : ℕ) → CanGive (state_of blocks) place n v → BlocksSound blocks → BlocksSound (with_born blocks place n v)
born_keeps blocks place n v can before = record {
  sound = give_keeps (state_of blocks) place n v can before.sound;
  labelled = born_labelled blocks place n v can before.labelled;
}

pub read_keeps : (blocks : Blocks) (b n x v : ℕ) → CanRead blocks b n x v → BlocksSound blocks → BlocksSound (with_read blocks b n x v)
read_keeps blocks b n x v can before = record {
  labelled = read_labelled blocks b n x v can before.labelled;
  sound = use_keeps (state_of blocks) (last_place blocks b) n x v
      (record {
        written = inside_written b (blocks.count b);
        name = can.name;
        unassigned = can.unassigned;
        known = record {
          value = can.known.value;
          is_recorded = recorded_at-last blocks.count blocks.recorded b x ∙ can.known.is_recorded;
          resolves = can.known.resolves;
        };
      }) before.sound;
}

-- an arm that is known in the state leaves a block's last place only as a join does
open_place :
    (blocks : Blocks) (b : ℕ) → ((arm : Arm) → blocks.joins arm ≡ true → arm.source ≢ last_place blocks b) →
    (arm : Arm) (p : Place) → arm_into blocks.count blocks.sealed blocks.joins arm p ≡ true → arm.source ≢ last_place blocks b
open_place blocks b open_block arm start e = absurd cc
open_place blocks b open_block arm (inside c zero) e = open_block arm (second_of_and (blocks.sealed c) (blocks.joins arm) e)
open_place blocks b open_block arm (inside c (suc k)) e = λ at.
    let written : nat_lt k (blocks.count c) ≡ true =
    true_of_and (nat_lt k (blocks.count c)) (same_place arm.source (inside c k) && (arm.edge == 0)) e in
    let both : (same_place arm.source (inside c k) && (arm.edge == 0)) ≡ true =
    second_of_and (nat_lt k (blocks.count c)) (same_place arm.source (inside c k) && (arm.edge == 0)) e in
    let source : arm.source ≡ inside c k =
    same_place-true arm.source (inside c k) (true_of_and (same_place arm.source (inside c k)) (arm.edge == 0) both) in
    let block : c ≡ b = inside-block (sym source ∙ at) in
    let step : k ≡ blocks.count b = inside-step (sym source ∙ at) in
    let same : k ≡ blocks.count c = step ∙ ap blocks.count (sym block) in
    let unwritten : nat_lt k (blocks.count c) ≡ false = ap (λ n. nat_lt k n) (sym same) ∙ not_yet k in
    absurd cc

write_record :
    (blocks : Blocks) (b x n : ℕ) (place : Place) (y w : ℕ) →
    ((place ≡ last_place blocks b) × (y ≡ x) × (blocks.answer n ≡ w)) ⊎
    ((place ≡ last_place blocks b → y ≢ x) × (recorded_at blocks.count blocks.recorded place y ≡ Some w)) →
    (with_assigned (state_of blocks) (last_place blocks b) x n).recorded place y ≡ Some w
write_record blocks b x n place y w (inl new) =
    let table : Place → ℕ → Option ℕ = λ p z. recorded_at blocks.count blocks.recorded p z in
    ap (λ p. updated_at table (last_place blocks b) (updated (table (last_place blocks b)) x (Some (blocks.answer n))) p y) new.0 ∙
    ap (λ z. updated_at table (last_place blocks b) (updated (table (last_place blocks b)) x (Some (blocks.answer n))) (last_place blocks b) z) new.1 ∙
    record_new table (last_place blocks b) x (blocks.answer n) ∙
    ap (λ v. Some v) new.2
write_record blocks b x n place y w (inr old) =
    record_other (λ p z. recorded_at blocks.count blocks.recorded p z) (last_place blocks b) x (blocks.answer n) place y old.0 ∙ old.1

pub write_keeps : (blocks : Blocks) (b x n : ℕ) → CanWrite blocks b x n → BlocksSound blocks → BlocksSound (with_write blocks b x n)
write_keeps blocks b x n can before =
    let assigned : Sound (with_assigned (state_of blocks) (last_place blocks b) x n) =
    assign_keeps (state_of blocks) (last_place blocks b) x n
    (record {
      unassigned = can.unassigned;
      is_given = can.is_given;
      none_leaves = λ arm e. open_place blocks b can.open_block arm arm.target e;
    }) before.sound in
    record {
      sound = record_keeps (with_assigned (state_of blocks) (last_place blocks b) x n)
          (λ place y. recorded_at blocks.count (with_record blocks b x (blocks.answer n)).recorded place y)
          (record {
            each = λ place y w here.
                inl (write_record blocks b x n place y w (block_record_cases blocks.count blocks.recorded b x (blocks.answer n) place y w here));
          })
          assigned;
      labelled = write_labelled blocks b x n can before.labelled;
    }

-- COPY ------------------------------------------------------------------------------------------------------------

-- inside a block, what holds a variable at one place holds it at the next, if that doesn't assign it
along_block :
    {edges : Edges} (blocks : Blocks) (function : Function) (b x v k : ℕ) → Allowed (state_of blocks).program edges →
    k < blocks.count b → blocks.assigned (inside b (suc k)) x ≡ None →
    Holds edges (state_of blocks).program function v (variable x) (inside b k) →
    Holds edges (state_of blocks).program function v (variable x) (inside b (suc k))
along_block {edges} blocks function b x v k allowed lt unassigned held =
    let written : nat_lt k (blocks.count b) ≡ true = grind (arith, nat_tests) in
    brought_holds (record {
      written = inside_written b (suc k);
      is_sealed = written;
      unassigned = unassigned;
      along = λ arm e at.
          let sealed : (state_of blocks).program.is_sealed arm.target ≡ true =
          ap (λ p. sealed_at blocks.count blocks.sealed p) at ∙ written in
          let known : arm_into blocks.count blocks.sealed blocks.joins arm (inside b (suc k)) ≡ true =
          ap (λ p. arm_into blocks.count blocks.sealed blocks.joins arm p) (sym at) ∙ sym (allowed.known arm sealed) ∙ e in
          let both : (same_place arm.source (inside b k) && (arm.edge == 0)) ≡ true =
          second_of_and (nat_lt k (blocks.count b)) (same_place arm.source (inside b k) && (arm.edge == 0)) known in
          let source : arm.source ≡ inside b k =
          same_place-true arm.source (inside b k) (true_of_and (same_place arm.source (inside b k)) (arm.edge == 0) both) in
          (v, subst (λ p. Holds edges (state_of blocks).program function v (variable x) p) (sym source) held, refl);
    })

-- so what holds it at the front holds it at each place of a block that doesn't assign it
through_block :
    {edges : Edges} (blocks : Blocks) (function : Function) (b x v : ℕ) → Allowed (state_of blocks).program edges → AssignsNot blocks b x →
    Holds edges (state_of blocks).program function v (variable x) (front b) →
    (k : ℕ) → k ≤ blocks.count b → Holds edges (state_of blocks).program function v (variable x) (inside b k)
through_block blocks function b x v allowed assigns_not held zero le = held
through_block blocks function b x v allowed assigns_not held (suc k) le =
    let lt : k < blocks.count b = omega arith in
    let earlier : k ≤ blocks.count b = omega arith in
    let in_block : suc k < suc (blocks.count b) = omega arith in
    along_block blocks function b x v k allowed lt (assigns_not.none (suc k) in_block)
    (through_block blocks function b x v allowed assigns_not held k earlier)

self_le : (n : ℕ) → n ≤ n
self_le n = omega arith

at_last :
    {edges : Edges} (blocks : Blocks) (function : Function) (b x v : ℕ) → Allowed (state_of blocks).program edges → AssignsNot blocks b x →
    Holds edges (state_of blocks).program function v (variable x) (front b) →
    Holds edges (state_of blocks).program function v (variable x) (last_place blocks b)
at_last blocks function b x v allowed assigns_not held =
    through_block blocks function b x v allowed assigns_not held (blocks.count b) (self_le (blocks.count b))

carried :
    (blocks : Blocks) (arm : Arm) (x v : ℕ) → (carries : Carries blocks arm x v) → recorded_at blocks.count blocks.recorded arm.source x ≡ Some carries.value
carried blocks arm x v carries =
    ap (λ p. recorded_at blocks.count blocks.recorded p x) carries.leaves ∙
    recorded_at-last blocks.count blocks.recorded carries.from x ∙ carries.is_recorded

-- what comes along all arms holds the variable at the front
copied_front :
    {edges : Edges} (blocks : Blocks) (b x v : ℕ) → CanCopy blocks b x v → BlocksSound blocks → Allowed (state_of blocks).program edges →
    Holds edges (state_of blocks).program blocks.function v (variable x) (front b)
copied_front {edges} blocks b x v can before allowed =
    brought_holds (record {
      written = inside_written b 0;
      is_sealed = can.is_sealed;
      unassigned = can.assigns_not.none 0 (omega arith);
      along = λ arm e at.
          let known : arm_into blocks.count blocks.sealed blocks.joins arm (front b) ≡ true =
          ap (λ p. arm_into blocks.count blocks.sealed blocks.joins arm p) (sym at) ∙
          sym (allowed.known arm (ap (λ p. sealed_at blocks.count blocks.sealed p) at ∙ can.is_sealed)) ∙ e in
          let carries : Carries blocks arm x (blocks.function.resolve v) =
          can.along arm (second_of_and (blocks.sealed b) (blocks.joins arm) known) at in (
            carries.value,
            (before.sound.under edges allowed).records arm.source x carries.value (carried blocks arm x (blocks.function.resolve v) carries),
            carries.resolves,
          );
    })

-- a changed record may stand if what it says holds
record_stands :
    {edges : Edges} (program : Program) (function : Function) (blocks : Blocks) (b x v : ℕ) →
    Holds edges program function v (variable x) (last_place blocks b) →
    ((place : Place) (y w : ℕ) → recorded_at blocks.count blocks.recorded place y ≡ Some w → Holds edges program function w (variable y) place) →
    (place : Place) (y w : ℕ) →
    ((place ≡ last_place blocks b) × (y ≡ x) × (v ≡ w)) ⊎
    ((place ≡ last_place blocks b → y ≢ x) × (recorded_at blocks.count blocks.recorded place y ≡ Some w)) →
    Holds edges program function w (variable y) place
record_stands {edges} program function blocks b x v held others place y w (inl new) =
    subst (λ p. Holds edges program function w (variable y) p) (sym new.0)
    (subst (λ z. Holds edges program function w (variable z) (last_place blocks b)) (sym new.1)
    (subst (λ u. Holds edges program function u (variable x) (last_place blocks b)) new.2 held))
record_stands program function blocks b x v held others place y w (inr old) = others place y w old.1

pub copy_keeps : (blocks : Blocks) (b x v : ℕ) → CanCopy blocks b x v → BlocksSound blocks → BlocksSound (with_record blocks b x v)
copy_keeps blocks b x v can before = record {
  labelled = record_labelled blocks b x v can.somewhere before.labelled;
  sound = records_stand (state_of blocks)
      (λ place y. recorded_at blocks.count (with_record blocks b x v).recorded place y)
      before.sound
      (λ edges allowed place y w here.
      record_stands (state_of blocks).program blocks.function blocks b x v
      (at_last blocks blocks.function b x v allowed can.assigns_not (copied_front blocks b x v can before allowed))
      (before.sound.under edges allowed).records place y w
      (block_record_cases blocks.count blocks.recorded b x v place y w here));
}

pub block_record_new : (blocks : Blocks) (b x v : ℕ) → (with_record blocks b x v).recorded b x ≡ Some v
block_record_new blocks b x v =
    ap (λ t. t x) (updated-same blocks.recorded b (updated (blocks.recorded b) x (Some v)) b refl) ∙ updated-same (blocks.recorded b) x (Some v) x refl

chain_same : (blocks : Blocks) (b x v y from : ℕ) (chain : List ℕ) → IsChain blocks y from chain → IsChain (with_record blocks b x v) y from chain
chain_same blocks b x v y from [] is_chain = tt
chain_same blocks b x v y from (block ∷ chain) is_chain = (
  record { is_sealed = is_chain.0.is_sealed; assigns_not = record { none = is_chain.0.assigns_not.none }; single = is_chain.0.single },
  chain_same blocks b x v y block chain is_chain.1,
)

-- a look-up along a chain of single predecessors
pub chain_keeps :
    (blocks : Blocks) (x v from : ℕ) (chain : List ℕ) → blocks.recorded from x ≡ Some v → IsChain blocks x from chain →
    BlocksSound blocks → BlocksSound (with_chain blocks x v chain)
chain_keeps blocks x v from [] is_recorded is_chain before = before
chain_keeps blocks x v from (block ∷ chain) is_recorded is_chain before =
    chain_keeps (with_record blocks block x v) x v block chain (block_record_new blocks block x v)
    (chain_same blocks block x v x block chain is_chain.1)
    (copy_keeps blocks block x v
    (record {
      is_sealed = is_chain.0.is_sealed;
      assigns_not = is_chain.0.assigns_not;
      along = λ arm e at. record {
        from = from;
        leaves = is_chain.0.single arm e at;
        value = v;
        is_recorded = is_recorded;
        resolves = refl;
      };
      somewhere = record { block = from; known = record { value = v; is_recorded = is_recorded; resolves = refl } };
    })
    before)

-- PARAMETERS ------------------------------------------------------------------------------------------------------

pub parameter_keeps :
    (blocks : Blocks) (b x v : ℕ) → CanAddParameter blocks b x v → BlocksSound blocks → BlocksSound (with_parameter blocks b x v)
parameter_keeps blocks b x v can before =
    let waiting : State = with_pending (state_of blocks) (front b) x v in
    let new : Definition = record { home = front b; kind = pending x } in
    let unassigned : blocks.assigned (front b) x ≡ None = can.assigns_not.none 0 (omega arith) in
    let added : Sound waiting =
    wait_keeps (state_of blocks) (front b) x v
    (record {
      written = inside_written b 0;
      unassigned = unassigned;
      new_value = can.new_value;
      no_alias = can.no_alias;
    }) before.sound in
    record {
      sound = records_stand waiting
          (λ place y. recorded_at blocks.count (with_record blocks b x v).recorded place y)
          added
          (λ edges allowed place y w here.
          record_stands waiting.program waiting.function blocks b x v
          (at_last blocks waiting.function b x v allowed can.assigns_not
          (pending_holds waiting.program waiting.function (front b) x v (inside_written b 0) unassigned can.no_alias
          (updated-same blocks.function.definition v new v refl)))
          (λ q z u e.
          holds_refined
          (refines_new (state_of blocks).program blocks.function v new (rooted_allowed allowed) (before.sound.under edges allowed).arguments can.new_value)
          ((before.sound.under edges allowed).records q z u e)) place y w
          (block_record_cases blocks.count blocks.recorded b x v place y w here));
      labelled = parameter_labelled blocks b x v can before.labelled;
    }

-- an arm that the state knows into a block's front is a join
pub front_join :
    (blocks : Blocks) (b : ℕ) (arm : Arm) → (state_of blocks).program.arms arm ≡ true → arm.target ≡ front b → blocks.joins arm ≡ true
front_join blocks b arm e at =
    second_of_and (blocks.sealed b) (blocks.joins arm) (ap (λ p. arm_into blocks.count blocks.sealed blocks.joins arm p) (sym at) ∙ e)

incoming_of : (blocks : Blocks) (arm : Arm) (x v : ℕ) → Carries blocks arm x v → Incoming (state_of blocks) arm.source x v
incoming_of blocks arm x v carries = record {
  value = carries.value;
  is_recorded = carried blocks arm x v carries;
  resolves = carries.resolves;
}

parameter_home : (blocks : Blocks) (b x v : ℕ) → WaitsIn blocks b x v → (blocks.function.definition v).home ≡ front b
parameter_home blocks b x v waits = ap (λ (d : Definition). d.home) waits.is_parameter

waits_at : (blocks : Blocks) (b x v : ℕ) → WaitsIn blocks b x v → Waits (state_of blocks) x v
waits_at blocks b x v waits = record {
  is_pending = ap (λ (d : Definition). d.kind) waits.is_parameter;
  is_sealed = ap (λ p. sealed_at blocks.count blocks.sealed p) (parameter_home blocks b x v waits) ∙ waits.is_sealed;
}

pub filled_keeps :
    (blocks : Blocks) (b x v : ℕ) (given : Arm → ℕ) → CanFillIn blocks b x v given → BlocksSound blocks → BlocksSound (with_filled blocks x v given)
filled_keeps blocks b x v given can before = record {
  labelled = filled_labelled blocks b x v given can before.labelled;
  sound = fill_keeps (state_of blocks) x v given
      (record {
        waits = waits_at blocks b x v can.waits;
        along = λ arm e at.
            let at_front : arm.target ≡ front b = at ∙ parameter_home blocks b x v can.waits in
            incoming_of blocks arm x (blocks.function.resolve (given arm)) (can.along arm (front_join blocks b arm e at_front) at_front);
      }) before.sound;
}

either_incoming :
    (blocks : Blocks) (arm : Arm) (x v target : ℕ) → Carries blocks arm x target ⊎ Carries blocks arm x v →
    Incoming (state_of blocks) arm.source x target ⊎ Incoming (state_of blocks) arm.source x v
either_incoming blocks arm x v target (inl carries) = inl (incoming_of blocks arm x target carries)
either_incoming blocks arm x v target (inr carries) = inr (incoming_of blocks arm x v carries)

pub dropped_keeps :
    (blocks : Blocks) (b x v target : ℕ) → CanDropIn blocks b x v target → BlocksSound blocks → BlocksSound (with_dropped blocks v target)
dropped_keeps blocks b x v target can before = record {
  labelled = known_dropped blocks b x v target can.waits can.no_alias can.somewhere before.labelled;
  sound = drop_keeps (state_of blocks) x v target
      (record {
        waits = waits_at blocks b x v can.waits;
        no_alias = can.no_alias;
        along = λ arm e at.
            let at_front : arm.target ≡ front b = at ∙ parameter_home blocks b x v can.waits in
            either_incoming blocks arm x v target (can.along arm (front_join blocks b arm e at_front) at_front);
      }) before.sound;
}

pub zero_in_keeps :
    (blocks : Blocks) (b x z : ℕ) → (blocks.function.definition z).home ≡ start → BlocksSound blocks → BlocksSound (with_zero_in blocks b x z)
zero_in_keeps blocks b x z new_value before = record {
  labelled = zero_labelled blocks b x z new_value before.labelled;
  sound = zero_keeps (state_of blocks) (front b) x z (record { written = inside_written b 0; new_value = new_value }) before.sound;
}

start_or_incoming :
    (blocks : Blocks) (arm : Arm) (x v : ℕ) → (arm.source ≡ start) ⊎ Carries blocks arm x v → (arm.source ≡ start) ⊎ Incoming (state_of blocks) arm.source x v
start_or_incoming blocks arm x v (inl at_start) = inl at_start
start_or_incoming blocks arm x v (inr carries) = inr (incoming_of blocks arm x v carries)

pub undefined_keeps :
    (blocks : Blocks) (b x v z : ℕ) → CanUndefineIn blocks b x v z → BlocksSound blocks → BlocksSound (with_dropped blocks v z)
undefined_keeps blocks b x v z can before = record {
  labelled = zero_dropped blocks b x v z can.waits can.no_alias can.is_zero before.labelled;
  sound = undefine_keeps (state_of blocks) x v z
      (record {
        waits = waits_at blocks b x v can.waits;
        no_alias = can.no_alias;
        is_zero = ap (λ (d : Definition). d.kind) can.is_zero;
        same_home = ap (λ (d : Definition). d.home) can.is_zero ∙ sym (parameter_home blocks b x v can.waits);
        along = λ arm e at.
            let at_front : arm.target ≡ front b = at ∙ parameter_home blocks b x v can.waits in
            start_or_incoming blocks arm x v (can.along arm (front_join blocks b arm e at_front) at_front);
      }) before.sound;
}
