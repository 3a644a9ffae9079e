-- Each change of the blocks' tables keeps that values have the labels of what they stand for.
use Rattle.std.proofs.Common.{◌≡◌, ◌≢◌, ℕ, Bool, true, false, cond, Option, Some, ◌⊎◌, inl, inr, refl, sym, ◌∙◌, ap, subst}
use Rattle.std.proofs.Math.Decide.{ℕ_discrete}
use Rattle.clif_paths.specs.Places.{Place, start, same_place, Arm, Edges}
use Rattle.clif_paths.specs.State.{fresh, reads, Naming, born, pending, complete, zero_of, Definition, Function, home_of}
use Rattle.clif_paths.specs.Steps.{updated, aliased, CanGive}
use Rattle.clif_paths.specs.Blocks.{Blocks, front, last_place, chosen_front, state_of, no_blocks, with_block_sealed, with_blocks_sealed, with_item, with_born, Knows, with_read, CanRead, with_record, with_write, CanWrite, Carries, KnownSomewhere, with_parameter, CanAddParameter, WaitsIn, with_filled, CanFillIn, with_dropped, with_zero_in, SaysTheSame, CompleteAtFronts}
use Rattle.clif_paths.specs.ValueLabels.{AgreeOnProgram, label_by, HasLabel, LabelsKept, Labelled}
use Rattle.clif_paths.proofs.Tables.{updated-same, updated-other, updated_cases, record_kept, record_new, aliased_cases}
use Rattle.clif_paths.proofs.PathLemmas.{same_place-other}
use Rattle.clif_paths.proofs.BlockTables.{inside-block, record_in_block}
use Rattle.clif_paths.proofs.Born.{with_definition, other_value}
use Rattle.clif_paths.proofs.Fill.{same_variable}
use Rattle.clif_paths.proofs.Alias.{with_resolve, alias_root}

same_label : {k l : ℕ} → Some k ≡ Some l → k ≡ l
same_label e = cc

pub front_written : (b : ℕ) → front b ≢ start
front_written b e = cc

-- WHERE VALUES KEEP THEIR LABELS ----------------------------------------------------------------------------------

-- each value has the labels that it had
record Preserves (of_variable of_name : ℕ → ℕ) (function function' : Function) : Type 0 where
  pub label : (w l : ℕ) → HasLabel of_variable of_name function w l → HasLabel of_variable of_name function' w l

-- a value whose end is defined as another's has that one's label
moved :
    (of_variable of_name : ℕ → ℕ) (function function' : Function) (w w' l : ℕ) →
    function'.definition (function'.resolve w') ≡ function.definition (function.resolve w) →
    HasLabel of_variable of_name function w l → HasLabel of_variable of_name function' w' l
moved of_variable of_name function function' w w' l same has = record {
  there = λ e. has.there (sym (ap (λ (d : Definition). d.home) same) ∙ e);
  by_kind = ap (λ (d : Definition). label_by of_variable of_name d.kind) same ∙ has.by_kind;
}

-- what resolves as a value that has a label does has it too
same_end :
    (of_variable of_name : ℕ → ℕ) (function : Function) (w v l : ℕ) → function.resolve w ≡ function.resolve v →
    HasLabel of_variable of_name function w l → HasLabel of_variable of_name function v l
same_end of_variable of_name function w v l same has =
    moved of_variable of_name function function w v l (ap function.definition (sym same)) has

relabelled :
    (of_variable of_name : ℕ → ℕ) (function : Function) (v k l : ℕ) → k ≡ l → HasLabel of_variable of_name function v k →
    HasLabel of_variable of_name function v l
relabelled of_variable of_name function v k l same has = subst (λ m. HasLabel of_variable of_name function v m) same has

-- a value that was not there
new_preserves :
    (of_variable of_name : ℕ → ℕ) (function : Function) (v : ℕ) (new : Definition) → (function.definition v).home ≡ start →
    Preserves of_variable of_name function (with_definition function v new)
new_preserves of_variable of_name function v new new_value = record {
  label = λ w l has.
      moved of_variable of_name function (with_definition function v new) w w l
      (updated-other function.definition v new (function.resolve w) (other_value function v w new_value has.there)) has;
}

new_label :
    (of_variable of_name : ℕ → ℕ) (function : Function) (v l : ℕ) (new : Definition) → function.resolve v ≡ v → new.home ≢ start →
    label_by of_variable of_name new.kind ≡ Some l → HasLabel of_variable of_name (with_definition function v new) v l
new_label of_variable of_name function v l new no_alias written is =
    let here : updated function.definition v new (function.resolve v) ≡ new = updated-same function.definition v new (function.resolve v) no_alias in
    record {
      there = λ e. written (sym (ap (λ (d : Definition). d.home) here) ∙ e);
      by_kind = ap (λ (d : Definition). label_by of_variable of_name d.kind) here ∙ is;
    }

-- a parameter that waited has its arguments
filled : Function → ℕ → ℕ → (Arm → ℕ) → Function
filled function x v given = record function {
  definition = updated function.definition v (record { home = (function.definition v).home; kind = complete x });
  argument = updated function.argument v given;
}

filled_by :
    (of_variable of_name : ℕ → ℕ) (function : Function) (x v : ℕ) (given : Arm → ℕ) → (function.definition v).kind ≡ pending x →
    (w l : ℕ) → HasLabel of_variable of_name function w l →
    ((function.resolve w ≡ v) ×
    (updated function.definition v (record { home = (function.definition v).home; kind = complete x }) (function.resolve w) ≡
    record { home = (function.definition v).home; kind = complete x })) ⊎
    ((function.resolve w ≢ v) ×
    (updated function.definition v (record { home = (function.definition v).home; kind = complete x }) (function.resolve w) ≡
    function.definition (function.resolve w))) →
    HasLabel of_variable of_name (filled function x v given) w l
unfolding filled
filled_by of_variable of_name function x v given waits w l has (inl c) = record {
  there = λ e. has.there (ap (λ u. (function.definition u).home) c.0 ∙ sym (ap (λ (d : Definition). d.home) c.1) ∙ e);
  by_kind =
      ap (λ (d : Definition). label_by of_variable of_name d.kind) c.1 ∙
      sym (ap (λ k. label_by of_variable of_name k) waits) ∙
      ap (λ u. label_by of_variable of_name (function.definition u).kind) (sym c.0) ∙ has.by_kind;
}
filled_by of_variable of_name function x v given waits w l has (inr c) =
    moved of_variable of_name function (filled function x v given) w w l c.1 has

filled_preserves :
    (of_variable of_name : ℕ → ℕ) (function : Function) (x v : ℕ) (given : Arm → ℕ) → (function.definition v).kind ≡ pending x →
    Preserves of_variable of_name function (filled function x v given)
filled_preserves of_variable of_name function x v given waits = record {
  label = λ w l has.
      filled_by of_variable of_name function x v given waits w l has
      (updated_cases function.definition v (record { home = (function.definition v).home; kind = complete x }) (function.resolve w));
}

-- a parameter that waited is an alias of a value that has its variable's label
aliased_by :
    (of_variable of_name : ℕ → ℕ) (function : Function) (x v target : ℕ) → (function.definition v).kind ≡ pending x →
    function.resolve target ≡ target → HasLabel of_variable of_name function target (of_variable x) →
    (w l : ℕ) → HasLabel of_variable of_name function w l →
    ((function.resolve w ≡ v) × (aliased function.resolve v target w ≡ target)) ⊎
    ((function.resolve w ≢ v) × (aliased function.resolve v target w ≡ function.resolve w)) →
    HasLabel of_variable of_name (with_resolve function v target) w l
aliased_by of_variable of_name function x v target waits root is_one w l has (inl c) =
    let same : of_variable x ≡ l =
    same_label (sym (ap (λ k. label_by of_variable of_name k) waits) ∙
    ap (λ u. label_by of_variable of_name (function.definition u).kind) (sym c.0) ∙ has.by_kind) in
    moved of_variable of_name function (with_resolve function v target) target w l (ap function.definition (c.1 ∙ sym root))
    (relabelled of_variable of_name function target (of_variable x) l same is_one)
aliased_by of_variable of_name function x v target waits root is_one w l has (inr c) =
    moved of_variable of_name function (with_resolve function v target) w w l (ap function.definition c.1) has

aliased_preserves :
    (of_variable of_name : ℕ → ℕ) (function : Function) (x v target : ℕ) → (function.definition v).kind ≡ pending x →
    function.resolve target ≡ target → HasLabel of_variable of_name function target (of_variable x) →
    Preserves of_variable of_name function (with_resolve function v target)
aliased_preserves of_variable of_name function x v target waits root is_one = record {
  label = λ w l has.
      aliased_by of_variable of_name function x v target waits root is_one w l has (aliased_cases function.resolve v target w);
}

-- FIRST, SEAL, GO ON ----------------------------------------------------------------------------------------------

pub first_labelled : Labelled no_blocks
first_labelled = record {
  fronts = record { at_front = λ u k. absurd cc };
  kept = λ of_variable of_name agree. record {
    records = λ b x v e. absurd cc;
    answers = λ n there. absurd (there refl);
    arguments = λ u b arm k home at e. absurd cc;
  };
}

-- new arms lead to blocks that weren't sealed, so to no complete parameter
sealed_labelled :
    (blocks : Blocks) (sealed : ℕ → Bool) (joins : Edges) → Labelled blocks →
    ((b : ℕ) → blocks.sealed b ≡ true → sealed b ≡ true) →
    ((b : ℕ) (arm : Arm) → blocks.sealed b ≡ true → arm.target ≡ front b → joins arm ≡ blocks.joins arm) →
    Labelled (record blocks { sealed = sealed; joins = joins })
sealed_labelled blocks sealed joins before more same = record {
  fronts = record {
    at_front = λ u k. let (b, home, is_sealed) = before.fronts.at_front u k in (b, home, more b is_sealed);
  };
  kept = λ of_variable of_name agree.
      let old : LabelsKept blocks of_variable of_name =
      before.kept of_variable of_name (record { assigned_same = agree.assigned_same; read_same = agree.read_same }) in
      record {
        records = old.records;
        answers = old.answers;
        arguments = λ u b arm k home at e.
            let (c, home_c, is_sealed) = before.fronts.at_front u k in
            let block : c ≡ b = inside-block (sym home_c ∙ home) in
            old.arguments u b arm k home at (sym (same b arm (ap blocks.sealed (sym block) ∙ is_sealed) at) ∙ e);
      };
}

sealed_more : (sealed : ℕ → Bool) (block b : ℕ) → sealed b ≡ true → Dec (b ≡ block) → updated sealed block true b ≡ true
sealed_more sealed block b is (yes e) = updated-same sealed block true b e
sealed_more sealed block b is (no ne) = updated-other sealed block true b ne ∙ is

pub block_sealed_labelled :
    (blocks : Blocks) (block : ℕ) (into : Edges) → blocks.sealed block ≡ false → Labelled blocks → Labelled (with_block_sealed blocks block into)
block_sealed_labelled blocks block into unsealed before =
    sealed_labelled blocks (updated blocks.sealed block true)
    (λ arm. cond (same_place arm.target (front block)) (into arm) (blocks.joins arm)) before
    (λ b is. sealed_more blocks.sealed block b is (ℕ_discrete b block))
    (λ b arm is at.
    let other : b ≢ block = λ e. let clash : blocks.sealed b ≡ false = ap blocks.sealed e ∙ unsealed in absurd cc in
    rw (same_place-other arm.target (front block) (λ e. other (inside-block (sym at ∙ e)))) refl)

sealed_either : (chosen sealed : Bool) → sealed ≡ true → cond chosen true sealed ≡ true
sealed_either true sealed is = refl
sealed_either false sealed is = is

not_chosen :
    (blocks : Blocks) (chosen : ℕ → Bool) → ((b : ℕ) → chosen b ≡ true → blocks.sealed b ≡ false) → (b : ℕ) → blocks.sealed b ≡ true →
    (c : Bool) → chosen b ≡ c → chosen b ≡ false
not_chosen blocks chosen unsealed b is true e = let clash : blocks.sealed b ≡ false = unsealed b e in absurd cc
not_chosen blocks chosen unsealed b is false e = e

pub blocks_sealed_labelled :
    (blocks : Blocks) (chosen : ℕ → Bool) (into : Edges) → ((b : ℕ) → chosen b ≡ true → blocks.sealed b ≡ false) → Labelled blocks →
    Labelled (with_blocks_sealed blocks chosen into)
blocks_sealed_labelled blocks chosen into unsealed before =
    sealed_labelled blocks (λ b. cond (chosen b) true (blocks.sealed b))
    (λ arm. cond (chosen_front chosen arm.target) (into arm) (blocks.joins arm)) before
    (λ b is. sealed_either (chosen b) (blocks.sealed b) is)
    (λ b arm is at. rw (ap (λ p. chosen_front chosen p) at ∙ not_chosen blocks chosen unsealed b is (chosen b) refl) refl)

pub item_labelled : (blocks : Blocks) (block : ℕ) → Labelled blocks → Labelled (with_item blocks block)
item_labelled blocks block before = record {
  fronts = record { at_front = before.fronts.at_front };
  kept = λ of_variable of_name agree.
      let old : LabelsKept blocks of_variable of_name =
      before.kept of_variable of_name (record { assigned_same = agree.assigned_same; read_same = agree.read_same }) in
      record { records = old.records; answers = old.answers; arguments = old.arguments };
}

-- RECORDS ---------------------------------------------------------------------------------------------------------

changed_by :
    (of_variable of_name : ℕ → ℕ) (function : Function) (recorded : ℕ → ℕ → Option ℕ) (b x v : ℕ) →
    HasLabel of_variable of_name function v (of_variable x) →
    ((c y w : ℕ) → recorded c y ≡ Some w → HasLabel of_variable of_name function w (of_variable y)) →
    (c y w : ℕ) → ((c ≡ b) × (y ≡ x) × (v ≡ w)) ⊎ ((c ≡ b → y ≢ x) × (recorded c y ≡ Some w)) →
    HasLabel of_variable of_name function w (of_variable y)
changed_by of_variable of_name function recorded b x v new old c y w (inl here) =
    subst (λ u. HasLabel of_variable of_name function u (of_variable y)) here.2
    (relabelled of_variable of_name function v (of_variable x) (of_variable y) (ap of_variable (sym here.1)) new)
changed_by of_variable of_name function recorded b x v new old c y w (inr other) = old c y w other.1

-- a record that is changed to a value of its variable's label
changed_records :
    (of_variable of_name : ℕ → ℕ) (function : Function) (recorded : ℕ → ℕ → Option ℕ) (b x v : ℕ) →
    HasLabel of_variable of_name function v (of_variable x) →
    ((c y w : ℕ) → recorded c y ≡ Some w → HasLabel of_variable of_name function w (of_variable y)) →
    (c y w : ℕ) → updated recorded b (updated (recorded b) x (Some v)) c y ≡ Some w → HasLabel of_variable of_name function w (of_variable y)
changed_records of_variable of_name function recorded b x v new old c y w is =
    changed_by of_variable of_name function recorded b x v new old c y w
    (record_in_block recorded b x v c y w is (updated_cases recorded b (updated (recorded b) x (Some v)) c) (updated_cases (recorded b) x (Some v) y))

-- what a block knows has the variable's label
known_label :
    (of_variable of_name : ℕ → ℕ) (blocks : Blocks) (b x v : ℕ) → LabelsKept blocks of_variable of_name → Knows blocks b x v →
    HasLabel of_variable of_name blocks.function v (of_variable x)
known_label of_variable of_name blocks b x v old knows =
    same_end of_variable of_name blocks.function knows.value v (of_variable x) knows.resolves (old.records b x knows.value knows.is_recorded)

pub record_labelled : (blocks : Blocks) (block x v : ℕ) → KnownSomewhere blocks x v → Labelled blocks → Labelled (with_record blocks block x v)
record_labelled blocks block x v somewhere before = record {
  fronts = record { at_front = before.fronts.at_front };
  kept = λ of_variable of_name agree.
      let old : LabelsKept blocks of_variable of_name =
      before.kept of_variable of_name (record { assigned_same = agree.assigned_same; read_same = agree.read_same }) in
      record {
        records = changed_records of_variable of_name blocks.function blocks.recorded block x v
            (known_label of_variable of_name blocks somewhere.block x v old somewhere.known) old.records;
        answers = old.answers;
        arguments = old.arguments;
      };
}

pub forgotten_labelled :
    (blocks : Blocks) (recorded : ℕ → ℕ → Option ℕ) → ((b x v : ℕ) → recorded b x ≡ Some v → blocks.recorded b x ≡ Some v) → Labelled blocks →
    Labelled (record blocks { recorded = recorded })
forgotten_labelled blocks recorded fewer before = record {
  fronts = record { at_front = before.fronts.at_front };
  kept = λ of_variable of_name agree.
      let old : LabelsKept blocks of_variable of_name =
      before.kept of_variable of_name (record { assigned_same = agree.assigned_same; read_same = agree.read_same }) in
      record { records = λ b x v e. old.records b x v (fewer b x v e); answers = old.answers; arguments = old.arguments };
}

-- NAMES -----------------------------------------------------------------------------------------------------------

-- labels that agree once a new name is there agreed before
agreed_before :
    (blocks : Blocks) (naming : ℕ → Naming) (of_variable of_name : ℕ → ℕ) (n : ℕ) (new : Naming) → (blocks.naming n).home ≡ start →
    naming ≡ updated blocks.naming n new →
    ((place : Place) (x m : ℕ) → blocks.assigned place x ≡ Some m → of_name m ≡ of_variable x) →
    ((m x : ℕ) → (naming m).home ≢ start → (naming m).origin ≡ reads x → of_name m ≡ of_variable x) →
    AgreeOnProgram blocks of_variable of_name
agreed_before blocks naming of_variable of_name n new new_name is assigned read = record {
  assigned_same = assigned;
  read_same = λ m x there origin.
      let other : m ≢ n = λ e. there (ap (λ k. (blocks.naming k).home) e ∙ new_name) in
      let same : naming m ≡ blocks.naming m = ap (λ t. t m) is ∙ updated-other blocks.naming n new m other in
      read m x (λ e. there (sym (ap (λ (k : Naming). k.home) same) ∙ e)) (ap (λ (k : Naming). k.origin) same ∙ origin);
}

answers_by :
    (of_variable of_name : ℕ → ℕ) (blocks : Blocks) (function : Function) (n v : ℕ) (new : Naming) →
    HasLabel of_variable of_name function v (of_name n) →
    ((m : ℕ) → (blocks.naming m).home ≢ start → HasLabel of_variable of_name function (blocks.answer m) (of_name m)) →
    (m : ℕ) → (updated blocks.naming n new m).home ≢ start →
    ((m ≡ n) × (updated blocks.naming n new m ≡ new)) ⊎ ((m ≢ n) × (updated blocks.naming n new m ≡ blocks.naming m)) →
    HasLabel of_variable of_name function (updated blocks.answer n v m) (of_name m)
answers_by of_variable of_name blocks function n v new here old m there (inl c) =
    subst (λ w. HasLabel of_variable of_name function w (of_name m)) (sym (updated-same blocks.answer n v m c.0))
    (relabelled of_variable of_name function v (of_name n) (of_name m) (ap of_name (sym c.0)) here)
answers_by of_variable of_name blocks function n v new here old m there (inr c) =
    subst (λ w. HasLabel of_variable of_name function w (of_name m)) (sym (updated-other blocks.answer n v m c.0))
    (old m (λ e. there (ap (λ (k : Naming). k.home) c.1 ∙ e)))

-- NEW VALUES ------------------------------------------------------------------------------------------------------

new_fronts_by :
    (blocks : Blocks) (v : ℕ) (new : Definition) → CompleteAtFronts blocks → ((x : ℕ) → new.kind ≢ complete x) →
    (u x : ℕ) → (updated blocks.function.definition v new (blocks.function.resolve u)).kind ≡ complete x →
    ((blocks.function.resolve u ≡ v) × (updated blocks.function.definition v new (blocks.function.resolve u) ≡ new)) ⊎
    ((blocks.function.resolve u ≢ v) ×
    (updated blocks.function.definition v new (blocks.function.resolve u) ≡ blocks.function.definition (blocks.function.resolve u))) →
    (b : ℕ) × ((updated blocks.function.definition v new (blocks.function.resolve u)).home ≡ front b) × (blocks.sealed b ≡ true)
new_fronts_by blocks v new fronts ne u x k (inl c) = absurd (ne x (sym (ap (λ (d : Definition). d.kind) c.1) ∙ k))
new_fronts_by blocks v new fronts ne u x k (inr c) =
    let (b, home, sealed) = fronts.at_front u (sym (ap (λ (d : Definition). d.kind) c.1) ∙ k) in
    (b, ap (λ (d : Definition). d.home) c.1 ∙ home, sealed)

new_fronts :
    (blocks : Blocks) (v : ℕ) (new : Definition) → CompleteAtFronts blocks → ((x : ℕ) → new.kind ≢ complete x) →
    (u x : ℕ) → (updated blocks.function.definition v new (blocks.function.resolve u)).kind ≡ complete x →
    (b : ℕ) × ((updated blocks.function.definition v new (blocks.function.resolve u)).home ≡ front b) × (blocks.sealed b ≡ true)
new_fronts blocks v new fronts ne u x k =
    new_fronts_by blocks v new fronts ne u x k (updated_cases blocks.function.definition v new (blocks.function.resolve u))

new_arguments_by :
    (of_variable of_name : ℕ → ℕ) (blocks : Blocks) (v : ℕ) (new : Definition) → LabelsKept blocks of_variable of_name →
    Preserves of_variable of_name blocks.function (with_definition blocks.function v new) → ((x : ℕ) → new.kind ≢ complete x) →
    (u x b : ℕ) (arm : Arm) → (updated blocks.function.definition v new (blocks.function.resolve u)).kind ≡ complete x →
    (updated blocks.function.definition v new (blocks.function.resolve u)).home ≡ front b → arm.target ≡ front b → blocks.joins arm ≡ true →
    ((blocks.function.resolve u ≡ v) × (updated blocks.function.definition v new (blocks.function.resolve u) ≡ new)) ⊎
    ((blocks.function.resolve u ≢ v) ×
    (updated blocks.function.definition v new (blocks.function.resolve u) ≡ blocks.function.definition (blocks.function.resolve u))) →
    HasLabel of_variable of_name (with_definition blocks.function v new) (blocks.function.argument (blocks.function.resolve u) arm) (of_variable x)
new_arguments_by of_variable of_name blocks v new old preserves ne u x b arm k home at e (inl c) =
    absurd (ne x (sym (ap (λ (d : Definition). d.kind) c.1) ∙ k))
new_arguments_by of_variable of_name blocks v new old preserves ne u x b arm k home at e (inr c) =
    preserves.label (blocks.function.argument (blocks.function.resolve u) arm) (of_variable x)
    (old.arguments u b arm (sym (ap (λ (d : Definition). d.kind) c.1) ∙ k) (sym (ap (λ (d : Definition). d.home) c.1) ∙ home) at e)

new_arguments :
    (of_variable of_name : ℕ → ℕ) (blocks : Blocks) (v : ℕ) (new : Definition) → LabelsKept blocks of_variable of_name →
    Preserves of_variable of_name blocks.function (with_definition blocks.function v new) → ((x : ℕ) → new.kind ≢ complete x) →
    (u x b : ℕ) (arm : Arm) → (updated blocks.function.definition v new (blocks.function.resolve u)).kind ≡ complete x →
    (updated blocks.function.definition v new (blocks.function.resolve u)).home ≡ front b → arm.target ≡ front b → blocks.joins arm ≡ true →
    HasLabel of_variable of_name (with_definition blocks.function v new) (blocks.function.argument (blocks.function.resolve u) arm) (of_variable x)
new_arguments of_variable of_name blocks v new old preserves ne u x b arm k home at e =
    new_arguments_by of_variable of_name blocks v new old preserves ne u x b arm k home at e
    (updated_cases blocks.function.definition v new (blocks.function.resolve u))

pub born_labelled :
    (blocks : Blocks) (place : Place) (n v : ℕ) → CanGive (state_of blocks) place n v → Labelled blocks → Labelled (with_born blocks place n v)
born_labelled blocks place n v can before =
    let named : Naming = record { home = place; origin = fresh } in
    let new : Definition = record { home = place; kind = born n } in
    let never : (x : ℕ) → new.kind ≢ complete x = λ x e. cc in
    record {
      fronts = record { at_front = λ {x} u k. new_fronts blocks v new before.fronts never u x k };
      kept = λ of_variable of_name agree.
          let old : LabelsKept blocks of_variable of_name =
          before.kept of_variable of_name
          (agreed_before blocks (updated blocks.naming n named) of_variable of_name n named can.name.new_name refl agree.assigned_same agree.read_same) in
          let preserves : Preserves of_variable of_name blocks.function (with_definition blocks.function v new) =
          new_preserves of_variable of_name blocks.function v new can.new_value in
          record {
            records = λ b x w e. preserves.label w (of_variable x) (old.records b x w e);
            answers = λ m there.
                answers_by of_variable of_name blocks (with_definition blocks.function v new) n v named
                (new_label of_variable of_name blocks.function v (of_name n) new can.no_alias can.written refl)
                (λ k given. preserves.label (blocks.answer k) (of_name k) (old.answers k given))
                m there (updated_cases blocks.naming n named m);
            arguments = λ {x} u b arm k home at e. new_arguments of_variable of_name blocks v new old preserves never u x b arm k home at e;
          };
    }

pub read_labelled : (blocks : Blocks) (b n x v : ℕ) → CanRead blocks b n x v → Labelled blocks → Labelled (with_read blocks b n x v)
read_labelled blocks b n x v can before =
    let named : Naming = record { home = last_place blocks b; origin = reads x } in
    let here : updated blocks.naming n named n ≡ named = updated-same blocks.naming n named n refl in
    record {
      fronts = record { at_front = before.fronts.at_front };
      kept = λ of_variable of_name agree.
          let old : LabelsKept blocks of_variable of_name =
          before.kept of_variable of_name
          (agreed_before blocks (updated blocks.naming n named) of_variable of_name n named can.name.new_name refl agree.assigned_same agree.read_same) in
          let reads_same : of_name n ≡ of_variable x =
          agree.read_same n x (λ e. let at : last_place blocks b ≡ start = sym (ap (λ (k : Naming). k.home) here) ∙ e in absurd cc)
          (ap (λ (k : Naming). k.origin) here) in
          record {
            records = old.records;
            answers = λ m there.
                answers_by of_variable of_name blocks blocks.function n v named
                (relabelled of_variable of_name blocks.function v (of_variable x) (of_name n) (sym reads_same)
                (known_label of_variable of_name blocks b x v old can.known))
                old.answers m there (updated_cases blocks.naming n named m);
            arguments = old.arguments;
          };
    }

pub write_labelled : (blocks : Blocks) (b x n : ℕ) → CanWrite blocks b x n → Labelled blocks → Labelled (with_write blocks b x n)
write_labelled blocks b x n can before =
    let place : Place = last_place blocks b in
    record {
      fronts = record { at_front = before.fronts.at_front };
      kept = λ of_variable of_name agree.
          let old : LabelsKept blocks of_variable of_name =
          before.kept of_variable of_name
          (record {
            assigned_same = λ q y m e. agree.assigned_same q y m (record_kept blocks.assigned place x n q y m can.unassigned e);
            read_same = agree.read_same;
          }) in
          let same : of_name n ≡ of_variable x = agree.assigned_same place x n (record_new blocks.assigned place x n) in
          record {
            records = changed_records of_variable of_name blocks.function blocks.recorded b x (blocks.answer n)
                (relabelled of_variable of_name blocks.function (blocks.answer n) (of_name n) (of_variable x) same (old.answers n can.is_given))
                old.records;
            answers = old.answers;
            arguments = old.arguments;
          };
    }

pub parameter_labelled :
    (blocks : Blocks) (b x v : ℕ) → CanAddParameter blocks b x v → Labelled blocks → Labelled (with_parameter blocks b x v)
parameter_labelled blocks b x v can before =
    let new : Definition = record { home = front b; kind = pending x } in
    let never : (y : ℕ) → new.kind ≢ complete y = λ y e. cc in
    record {
      fronts = record { at_front = λ {x = y} u k. new_fronts blocks v new before.fronts never u y k };
      kept = λ of_variable of_name agree.
          let old : LabelsKept blocks of_variable of_name =
          before.kept of_variable of_name (record { assigned_same = agree.assigned_same; read_same = agree.read_same }) in
          let preserves : Preserves of_variable of_name blocks.function (with_definition blocks.function v new) =
          new_preserves of_variable of_name blocks.function v new can.new_value in
          record {
            records = changed_records of_variable of_name (with_definition blocks.function v new) blocks.recorded b x v
                (new_label of_variable of_name blocks.function v (of_variable x) new can.no_alias (front_written b) refl)
                (λ c y w e. preserves.label w (of_variable y) (old.records c y w e));
            answers = λ m given. preserves.label (blocks.answer m) (of_name m) (old.answers m given);
            arguments = λ {x = y} u c arm k home at e. new_arguments of_variable of_name blocks v new old preserves never u y c arm k home at e;
          };
    }

pub zero_labelled : (blocks : Blocks) (b x z : ℕ) → (blocks.function.definition z).home ≡ start → Labelled blocks → Labelled (with_zero_in blocks b x z)
zero_labelled blocks b x z new_value before =
    let new : Definition = record { home = front b; kind = zero_of x } in
    let never : (y : ℕ) → new.kind ≢ complete y = λ y e. cc in
    record {
      fronts = record { at_front = λ {x = y} u k. new_fronts blocks z new before.fronts never u y k };
      kept = λ of_variable of_name agree.
          let old : LabelsKept blocks of_variable of_name =
          before.kept of_variable of_name (record { assigned_same = agree.assigned_same; read_same = agree.read_same }) in
          let preserves : Preserves of_variable of_name blocks.function (with_definition blocks.function z new) =
          new_preserves of_variable of_name blocks.function z new new_value in
          record {
            records = λ c y w e. preserves.label w (of_variable y) (old.records c y w e);
            answers = λ m given. preserves.label (blocks.answer m) (of_name m) (old.answers m given);
            arguments = λ {x = y} u c arm k home at e. new_arguments of_variable of_name blocks z new old preserves never u y c arm k home at e;
          };
    }

-- FILL, ALIASES ---------------------------------------------------------------------------------------------------

pub filled_labelled :
    (blocks : Blocks) (b x v : ℕ) (given : Arm → ℕ) → CanFillIn blocks b x v given → Labelled blocks → Labelled (with_filled blocks x v given)
unfolding filled
filled_labelled blocks b x v given can before =
    let waits : (blocks.function.definition v).kind ≡ pending x = ap (λ (d : Definition). d.kind) can.waits.is_parameter in
    let at_front : (blocks.function.definition v).home ≡ front b = ap (λ (d : Definition). d.home) can.waits.is_parameter in
    record {
      fronts = record {
        at_front = λ {x = y} u k. filled_front u y k (ℕ_discrete (blocks.function.resolve u) v) at_front;
      };
      kept = λ of_variable of_name agree.
          let old : LabelsKept blocks of_variable of_name =
          before.kept of_variable of_name (record { assigned_same = agree.assigned_same; read_same = agree.read_same }) in
          let preserves : Preserves of_variable of_name blocks.function (filled blocks.function x v given) =
          filled_preserves of_variable of_name blocks.function x v given waits in
          record {
            records = λ c y w e. preserves.label w (of_variable y) (old.records c y w e);
            answers = λ m is. preserves.label (blocks.answer m) (of_name m) (old.answers m is);
            arguments = λ {x = y} u c arm k home at e.
                filled_argument of_variable of_name old preserves u y c arm k home at e (ℕ_discrete (blocks.function.resolve u) v) at_front;
          };
    }
  where
    new : Definition
    new = record { home = (blocks.function.definition v).home; kind = complete x }

    filled_front :
        (u y : ℕ) → (updated blocks.function.definition v new (blocks.function.resolve u)).kind ≡ complete y →
        Dec (blocks.function.resolve u ≡ v) → (blocks.function.definition v).home ≡ front b →
        (c : ℕ) × ((updated blocks.function.definition v new (blocks.function.resolve u)).home ≡ front c) × (blocks.sealed c ≡ true)
    filled_front u y k (yes e) at_front =
        (b, ap (λ (d : Definition). d.home) (updated-same blocks.function.definition v new (blocks.function.resolve u) e) ∙ at_front, can.waits.is_sealed)
    filled_front u y k (no ne) at_front =
        let same : updated blocks.function.definition v new (blocks.function.resolve u) ≡ blocks.function.definition (blocks.function.resolve u) =
        updated-other blocks.function.definition v new (blocks.function.resolve u) ne in
        let (c, home, sealed) = before.fronts.at_front u (sym (ap (λ (d : Definition). d.kind) same) ∙ k) in
        (c, ap (λ (d : Definition). d.home) same ∙ home, sealed)

    filled_argument :
        (of_variable of_name : ℕ → ℕ) → LabelsKept blocks of_variable of_name →
        Preserves of_variable of_name blocks.function (filled blocks.function x v given) →
        (u y c : ℕ) (arm : Arm) → (updated blocks.function.definition v new (blocks.function.resolve u)).kind ≡ complete y →
        (updated blocks.function.definition v new (blocks.function.resolve u)).home ≡ front c → arm.target ≡ front c → blocks.joins arm ≡ true →
        Dec (blocks.function.resolve u ≡ v) → (blocks.function.definition v).home ≡ front b →
        HasLabel of_variable of_name (filled blocks.function x v given) (updated blocks.function.argument v given (blocks.function.resolve u) arm) (of_variable y)
    filled_argument of_variable of_name old preserves u y c arm k home at e (yes is) at_front =
        let here : updated blocks.function.definition v new (blocks.function.resolve u) ≡ new =
        updated-same blocks.function.definition v new (blocks.function.resolve u) is in
        let variable_is : x ≡ y = same_variable (sym (ap (λ (d : Definition). d.kind) here) ∙ k) in
        let at_block : arm.target ≡ front b = at ∙ sym home ∙ ap (λ (d : Definition). d.home) here ∙ at_front in
        let carries : Carries blocks arm x (blocks.function.resolve (given arm)) = can.along arm e at_block in
        subst (λ w. HasLabel of_variable of_name (filled blocks.function x v given) w (of_variable y))
        (sym (ap (λ (t : Arm → ℕ). t arm) (updated-same blocks.function.argument v given (blocks.function.resolve u) is)))
        (preserves.label (given arm) (of_variable y)
        (relabelled of_variable of_name blocks.function (given arm) (of_variable x) (of_variable y) (ap of_variable variable_is)
        (same_end of_variable of_name blocks.function carries.value (given arm) (of_variable x) carries.resolves
        (old.records carries.from x carries.value carries.is_recorded))))
    filled_argument of_variable of_name old preserves u y c arm k home at e (no ne) at_front =
        let same : updated blocks.function.definition v new (blocks.function.resolve u) ≡ blocks.function.definition (blocks.function.resolve u) =
        updated-other blocks.function.definition v new (blocks.function.resolve u) ne in
        subst (λ w. HasLabel of_variable of_name (filled blocks.function x v given) w (of_variable y))
        (sym (ap (λ (t : Arm → ℕ). t arm) (updated-other blocks.function.argument v given (blocks.function.resolve u) ne)))
        (preserves.label (blocks.function.argument (blocks.function.resolve u) arm) (of_variable y)
        (old.arguments u c arm (sym (ap (λ (d : Definition). d.kind) same) ∙ k) (sym (ap (λ (d : Definition). d.home) same) ∙ home) at e))

-- at the end of the new aliases stands what stood at the end of old ones
front_at_root :
    (blocks : Blocks) → CompleteAtFronts blocks → (x z : ℕ) → (blocks.function.definition z).kind ≡ complete x →
    (w : ℕ) × (blocks.function.resolve w ≡ z) → (b : ℕ) × ((blocks.function.definition z).home ≡ front b) × (blocks.sealed b ≡ true)
front_at_root blocks fronts x z k (w, root) =
    let (b, home, sealed) = fronts.at_front w (ap (λ q. (blocks.function.definition q).kind) root ∙ k) in
    (b, ap (λ q. (blocks.function.definition q).home) (sym root) ∙ home, sealed)

argument_at_root :
    (of_variable of_name : ℕ → ℕ) (blocks : Blocks) → LabelsKept blocks of_variable of_name →
    (x z b : ℕ) (arm : Arm) → (blocks.function.definition z).kind ≡ complete x → (blocks.function.definition z).home ≡ front b →
    arm.target ≡ front b → blocks.joins arm ≡ true → (w : ℕ) × (blocks.function.resolve w ≡ z) →
    HasLabel of_variable of_name blocks.function (blocks.function.argument z arm) (of_variable x)
argument_at_root of_variable of_name blocks old x z b arm k home at e (w, root) =
    subst (λ r. HasLabel of_variable of_name blocks.function (blocks.function.argument r arm) (of_variable x)) root
    (old.arguments w b arm (ap (λ q. (blocks.function.definition q).kind) root ∙ k) (ap (λ q. (blocks.function.definition q).home) root ∙ home) at e)

dropped_labelled :
    (blocks : Blocks) (x v target : ℕ) → (blocks.function.definition v).kind ≡ pending x → blocks.function.resolve target ≡ target →
    ((of_variable of_name : ℕ → ℕ) → LabelsKept blocks of_variable of_name → HasLabel of_variable of_name blocks.function target (of_variable x)) →
    Labelled blocks → Labelled (with_dropped blocks v target)
dropped_labelled blocks x v target waits root is_one before = record {
  fronts = record {
    at_front = λ {x = y} u k.
        front_at_root blocks before.fronts y (aliased blocks.function.resolve v target u) k
        (alias_root blocks.function v target u root (aliased_cases blocks.function.resolve v target u));
  };
  kept = λ of_variable of_name agree.
      let old : LabelsKept blocks of_variable of_name =
      before.kept of_variable of_name (record { assigned_same = agree.assigned_same; read_same = agree.read_same }) in
      let preserves : Preserves of_variable of_name blocks.function (with_resolve blocks.function v target) =
      aliased_preserves of_variable of_name blocks.function x v target waits root (is_one of_variable of_name old) in
      record {
        records = λ c y w e. preserves.label w (of_variable y) (old.records c y w e);
        answers = λ m is. preserves.label (blocks.answer m) (of_name m) (old.answers m is);
        arguments = λ {x = y} u c arm k home at e.
            let z : ℕ = aliased blocks.function.resolve v target u in
            preserves.label (blocks.function.argument z arm) (of_variable y)
            (argument_at_root of_variable of_name blocks old y z c arm k home at e
            (alias_root blocks.function v target u root (aliased_cases blocks.function.resolve v target u)));
      };
}

-- DROP: the other value is known somewhere
pub known_dropped :
    (blocks : Blocks) (b x v target : ℕ) → WaitsIn blocks b x v → blocks.function.resolve target ≡ target → KnownSomewhere blocks x target →
    Labelled blocks → Labelled (with_dropped blocks v target)
known_dropped blocks b x v target waits root somewhere before =
    dropped_labelled blocks x v target (ap (λ (d : Definition). d.kind) waits.is_parameter) root
    (λ of_variable of_name old. known_label of_variable of_name blocks somewhere.block x target old somewhere.known)
    before

-- UNDEFINED: the zero is one of the variable
pub zero_dropped :
    (blocks : Blocks) (b x v z : ℕ) → WaitsIn blocks b x v → blocks.function.resolve z ≡ z →
    blocks.function.definition z ≡ record { home = front b; kind = zero_of x } → Labelled blocks → Labelled (with_dropped blocks v z)
zero_dropped blocks b x v z waits root is_zero before =
    let defined : blocks.function.definition (blocks.function.resolve z) ≡ record { home = front b; kind = zero_of x } =
    ap blocks.function.definition root ∙ is_zero in
    dropped_labelled blocks x v z (ap (λ (d : Definition). d.kind) waits.is_parameter) root
    (λ of_variable of_name old. record {
      there = λ e. front_written b (sym (ap (λ (d : Definition). d.home) defined) ∙ e);
      by_kind = ap (λ (d : Definition). label_by of_variable of_name d.kind) defined;
    })
    before

-- RESTATE ---------------------------------------------------------------------------------------------------------

pub restated_labelled : (blocks blocks' : Blocks) → SaysTheSame blocks blocks' → Labelled blocks → Labelled blocks'
restated_labelled blocks blocks' same before = record {
  fronts = record {
    at_front = λ u k.
        let (b, home, sealed) = before.fronts.at_front u (sym (ap (λ (d : Definition). d.kind) (defined u)) ∙ k) in
        (b, ap (λ (d : Definition). d.home) (defined u) ∙ home, same.sealed b ∙ sealed);
  };
  kept = λ of_variable of_name agree.
      let old : LabelsKept blocks of_variable of_name =
      before.kept of_variable of_name
      (record {
        assigned_same = λ place x n e. agree.assigned_same place x n (same.assigned place x ∙ e);
        read_same = λ n x there origin.
            agree.read_same n x (λ e. there (sym (ap (λ (k : Naming). k.home) (same.naming n)) ∙ e))
            (ap (λ (k : Naming). k.origin) (same.naming n) ∙ origin);
      }) in
      record {
        records = λ b x v e. moved of_variable of_name blocks.function blocks'.function v v (of_variable x) (defined v) (old.records b x v (sym (same.recorded b x) ∙ e));
        answers = λ n there.
            subst (λ v. HasLabel of_variable of_name blocks'.function v (of_name n)) (sym (same.answer n))
            (moved of_variable of_name blocks.function blocks'.function (blocks.answer n) (blocks.answer n) (of_name n) (defined (blocks.answer n))
            (old.answers n (λ e. there (ap (λ (k : Naming). k.home) (same.naming n) ∙ e))));
        arguments = λ {x} u b arm k home at e. argument_kept of_variable of_name old u x b arm k home at e;
      };
}
  where
    defined : (u : ℕ) → blocks'.function.definition (blocks'.function.resolve u) ≡ blocks.function.definition (blocks.function.resolve u)
    defined u = ap blocks'.function.definition (same.resolve u) ∙ same.definition u

    argument_kept :
        (of_variable of_name : ℕ → ℕ) → LabelsKept blocks of_variable of_name →
        (u x b : ℕ) (arm : Arm) → (blocks'.function.definition (blocks'.function.resolve u)).kind ≡ complete x →
        home_of blocks'.function u ≡ front b → arm.target ≡ front b → blocks'.joins arm ≡ true →
        HasLabel of_variable of_name blocks'.function (blocks'.function.argument (blocks'.function.resolve u) arm) (of_variable x)
    argument_kept of_variable of_name old u x b arm k home at e =
        let k_old : (blocks.function.definition (blocks.function.resolve u)).kind ≡ complete x = sym (ap (λ (d : Definition). d.kind) (defined u)) ∙ k in
        let home_old : home_of blocks.function u ≡ front b = sym (ap (λ (d : Definition). d.home) (defined u)) ∙ home in
        let (c, home_c, sealed_c) = before.fronts.at_front u k_old in
        let sealed : blocks.sealed b ≡ true = ap blocks.sealed (inside-block (sym home_old ∙ home_c)) ∙ sealed_c in
        let joined : blocks.joins arm ≡ true = sym (same.joins b arm sealed at) ∙ e in
        let a : ℕ = blocks.function.argument (blocks.function.resolve u) arm in
        let a' : ℕ = blocks'.function.argument (blocks.function.resolve u) arm in
        let ends : blocks.function.resolve a ≡ blocks.function.resolve a' = sym (same.argument u b arm k_old home_old at sealed joined) in
        subst (λ r. HasLabel of_variable of_name blocks'.function (blocks'.function.argument r arm) (of_variable x)) (sym (same.resolve u))
        (moved of_variable of_name blocks.function blocks'.function a' a' (of_variable x) (defined a')
        (same_end of_variable of_name blocks.function a a' (of_variable x) ends (old.arguments u b arm k_old home_old at joined)))
