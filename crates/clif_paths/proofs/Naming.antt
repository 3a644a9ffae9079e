-- The program's side when a new name is given or used: nothing else changes.
use Rattle.std.proofs.Common.{◌≡◌, ◌≢◌, ℕ, cond, Option, None, Some, [], ◌∷◌, ◌⊎◌, inl, inr, refl, sym, ◌∙◌, ap, subst}
use Rattle.clif_paths.specs.Places.{Place, start, Arm, Edges, Path, end_of, Follows, StrictlyBefore, Dominates}
use Rattle.clif_paths.specs.State.{Origin, fresh, reads, Naming, Program, Kind, unborn, born, pending, complete, zero_of, Definition, Function, State, home_of}
use Rattle.clif_paths.specs.Denotation.{unknown, given, Holder, variable, name, after_assignment, at_home, instances, defined, denotes, denotation}
use Rattle.clif_paths.specs.Sound.{Allowed, ParametersTake, Holds, SoundUnder, Sound}
use Rattle.clif_paths.specs.Steps.{updated, with_given, CanGive, with_use, CanUse}
use Rattle.clif_paths.proofs.Tables.{updated-same, updated-other, updated_cases}
use Rattle.clif_paths.proofs.PathLemmas.{dec_place}
use Rattle.clif_paths.specs.Laws.{entered}
use Rattle.clif_paths.proofs.Executing.{name-past, name-here, variable-entered, denotes-past, denotes-here}
use Rattle.clif_paths.proofs.Refine.{Rooted, rooted_allowed, Refines, holds_refined}
use Rattle.clif_paths.proofs.Born.{with_definition, refines_new, arguments_new, take_new, dominates_itself}

-- where entering a place is the same on both programs, values denote the same
pub record EntersAlike (edges : Edges) (program program' : Program) : Type 0 where
  pub same : (arm : Arm) (path : Path) → Follows edges (arm ∷ path) → (x : ℕ) → entered program' arm path x ≡ entered program arm path x

denotes_by_kind :
    {edges : Edges} (program program' : Program) (function : Function) → EntersAlike edges program program' →
    (arm : Arm) (path : Path) → Follows edges (arm ∷ path) →
    ((w : ℕ) → denotes program' function path w ≡ denotes program function path w) → (v : ℕ) (kind : Kind) →
    defined program' function arm path (λ w. denotes program' function path w) v kind ≡
    defined program function arm path (λ w. denotes program function path w) v kind
denotes_by_kind program program' function enters arm path f before v unborn = refl
denotes_by_kind program program' function enters arm path f before v (born n) = refl
denotes_by_kind program program' function enters arm path f before v (pending x) = enters.same arm path f x
denotes_by_kind program program' function enters arm path f before v (complete x) = before (function.resolve (function.argument v arm))
denotes_by_kind program program' function enters arm path f before v (zero_of x) = refl

denotes_alike_by :
    {edges : Edges} (program program' : Program) (function : Function) → EntersAlike edges program program' →
    (arm : Arm) (path : Path) → Follows edges (arm ∷ path) →
    ((w : ℕ) → denotes program' function path w ≡ denotes program function path w) →
    (v : ℕ) → Dec ((function.definition v).home ≡ arm.target) →
    denotes program' function (arm ∷ path) v ≡ denotes program function (arm ∷ path) v
denotes_alike_by program program' function enters arm path f before v (yes at) =
    denotes-here program' function arm path v at ∙
    denotes_by_kind program program' function enters arm path f before v (function.definition v).kind ∙
    sym (denotes-here program function arm path v at)
denotes_alike_by program program' function enters arm path f before v (no ne) =
    denotes-past program' function arm path v ne ∙ before v ∙ sym (denotes-past program function arm path v ne)

pub denotes_alike :
    {edges : Edges} (program program' : Program) (function : Function) → EntersAlike edges program program' →
    (path : Path) → Follows edges path → (v : ℕ) → denotes program' function path v ≡ denotes program function path v
unfolding denotes
denotes_alike program program' function enters [] f v = refl
denotes_alike program program' function enters (arm ∷ path) f v =
    let before : (w : ℕ) → denotes program' function path w ≡ denotes program function path w =
    denotes_alike program program' function enters path f.2 in
    denotes_alike_by program program' function enters arm path f before v (dec_place (function.definition v).home arm.target)

-- what was held is held, where the holder has the same instances
pub holds_alike :
    {edges : Edges} (program program' : Program) (function : Function) (u : ℕ) (h : Holder) (place : Place) → EntersAlike edges program program' →
    ((path : Path) → Follows edges path → end_of path ≡ place → instances program' path h ≡ instances program path h) →
    Holds edges program function u h place → Holds edges program' function u h place
holds_alike program program' function u h place enters same held = record {
  there = held.there;
  agrees = λ path f at_end.
      denotes_alike program program' function enters path f (function.resolve u) ∙ held.agrees path f at_end ∙ sym (same path f at_end);
}

-- a complete parameter takes what it took, where entering is the same
pub take_alike :
    {edges : Edges} (program program' : Program) (function : Function) → EntersAlike edges program program' →
    ParametersTake edges program function → ParametersTake edges program' function
take_alike program program' function enters take = record {
  at_visit = λ {x} u arm path k at f.
      denotes_alike program program' function enters (arm ∷ path) f (function.resolve u) ∙ take.at_visit u arm path k at f ∙
      sym (enters.same arm path f x);
}

-- A new name ------------------------------------------------------------------------------------------------------

abbrev pub with_name : Program → ℕ → Naming → Program
with_name program n new = record program { naming = updated program.naming n new }

-- all but the new name have the instances that they had
pub record SameBut (n : ℕ) (program program' : Program) (path : Path) : Type 0 where
  pub variables : (x : ℕ) → instances program' path (variable x) ≡ instances program path (variable x)
  pub names : (m : ℕ) → m ≢ n → instances program' path (name m) ≡ instances program path (name m)

entered_same :
    (program : Program) (n : ℕ) (new : Naming) (arm : Arm) (path : Path) → SameBut n program (with_name program n new) path →
    (x : ℕ) → entered (with_name program n new) arm path x ≡ entered program arm path x
entered_same program n new arm path before x =
    ap (λ i. cond (program.is_sealed arm.target) i (unknown x (arm ∷ path))) (before.variables x)

assigned_same :
    (program : Program) (n : ℕ) (new : Naming) → ((place : Place) (x : ℕ) → program.assigned place x ≢ Some n) →
    (arm : Arm) (path : Path) → SameBut n program (with_name program n new) path → (x : ℕ) →
    (o : Option ℕ) → program.assigned arm.target x ≡ o →
    after_assignment (λ h. instances (with_name program n new) path h) (entered (with_name program n new) arm path x) o ≡
    after_assignment (λ h. instances program path h) (entered program arm path x) o
assigned_same program n new unassigned arm path before x None e = entered_same program n new arm path before x
assigned_same program n new unassigned arm path before x (Some m) e =
    before.names m (λ same. unassigned arm.target x (e ∙ ap (λ k. Some k) same))

name_by_origin :
    (program : Program) (n : ℕ) (new : Naming) (arm : Arm) (path : Path) → SameBut n program (with_name program n new) path →
    (m : ℕ) (origin : Origin) →
    at_home (with_name program n new) arm path (λ h. instances (with_name program n new) path h) m origin ≡
    at_home program arm path (λ h. instances program path h) m origin
name_by_origin program n new arm path before m fresh = refl
name_by_origin program n new arm path before m (reads x) = entered_same program n new arm path before x

name_same_by :
    (program : Program) (n : ℕ) (new : Naming) (arm : Arm) (path : Path) → SameBut n program (with_name program n new) path →
    (m : ℕ) → m ≢ n → Dec ((program.naming m).home ≡ arm.target) →
    instances (with_name program n new) (arm ∷ path) (name m) ≡ instances program (arm ∷ path) (name m)
name_same_by program n new arm path before m ne (yes at) =
    let same : updated program.naming n new m ≡ program.naming m = updated-other program.naming n new m ne in
    name-here (with_name program n new) arm path m (ap (λ (k : Naming). k.home) same ∙ at) ∙
    ap (λ (k : Naming). at_home (with_name program n new) arm path (λ h. instances (with_name program n new) path h) m k.origin) same ∙
    name_by_origin program n new arm path before m (program.naming m).origin ∙
    sym (name-here program arm path m at)
name_same_by program n new arm path before m ne (no past) =
    let same : updated program.naming n new m ≡ program.naming m = updated-other program.naming n new m ne in
    name-past (with_name program n new) arm path m (λ at. past (sym (ap (λ (k : Naming). k.home) same) ∙ at)) ∙
    before.names m ne ∙
    sym (name-past program arm path m past)

pub same_but :
    (program : Program) (n : ℕ) (new : Naming) → ((place : Place) (x : ℕ) → program.assigned place x ≢ Some n) →
    (path : Path) → SameBut n program (with_name program n new) path
unfolding instances
same_but program n new unassigned [] = record { variables = λ x. refl; names = λ m ne. refl }
same_but program n new unassigned (arm ∷ path) =
    let before : SameBut n program (with_name program n new) path = same_but program n new unassigned path in
    record {
      variables = λ x. assigned_same program n new unassigned arm path before x (program.assigned arm.target x) refl;
      names = λ m ne. name_same_by program n new arm path before m ne (dec_place (program.naming m).home arm.target);
    }

pub enters_but :
    {edges : Edges} (program : Program) (n : ℕ) (new : Naming) → ((place : Place) (x : ℕ) → program.assigned place x ≢ Some n) →
    EntersAlike edges program (with_name program n new)
enters_but program n new unassigned = record {
  same = λ arm path f x. entered_same program n new arm path (same_but program n new unassigned path) x;
}

-- edges that are allowed after the name are allowed before it
allowed_before :
    {edges : Edges} (program : Program) (n : ℕ) (new : Naming) → ((place : Place) (x : ℕ) → program.assigned place x ≢ Some n) →
    Allowed (with_name program n new) edges → Allowed program edges
allowed_before {edges} program n new unassigned allowed = record {
  known = allowed.known;
  rooted = allowed.rooted;
  given_before = λ place x m e.
      subst (λ (k : Naming). StrictlyBefore edges k.home place)
      (updated-other program.naming n new m (λ same. unassigned place x (e ∙ ap (λ k. Some k) same)))
      (allowed.given_before place x m e);
}

-- GIVE ------------------------------------------------------------------------------------------------------------

given_agrees :
    (program : Program) (function : Function) (place : Place) (n v : ℕ) → place ≢ start →
    program.naming n ≡ record { home = place; origin = fresh } →
    function.resolve v ≡ v → function.definition v ≡ record { home = place; kind = born n } →
    (path : Path) → end_of path ≡ place → denotation program function path v ≡ instances program path (name n)
given_agrees program function place n v written named no_alias defined_so [] at_end = absurd (written (sym at_end))
given_agrees program function place n v written named no_alias defined_so (arm ∷ path) at_end =
    let value_home : (function.definition v).home ≡ arm.target = ap (λ (d : Definition). d.home) defined_so ∙ sym at_end in
    let name_home : (program.naming n).home ≡ arm.target = ap (λ (k : Naming). k.home) named ∙ sym at_end in
    let value : defined program function arm path (λ w. denotes program function path w) v (function.definition v).kind ≡ given n (arm ∷ path) =
    ap (λ (d : Definition). defined program function arm path (λ w. denotes program function path w) v d.kind) defined_so in
    let named_so : at_home program arm path (λ h. instances program path h) n (program.naming n).origin ≡ given n (arm ∷ path) =
    ap (λ (k : Naming). at_home program arm path (λ h. instances program path h) n k.origin) named in
    ap (λ w. denotes program function (arm ∷ path) w) no_alias ∙
    denotes-here program function arm path v value_home ∙ value ∙ sym named_so ∙ sym (name-here program arm path n name_home)

given_holds :
    {edges : Edges} (program : Program) (function : Function) (place : Place) (n v : ℕ) → place ≢ start →
    program.naming n ≡ record { home = place; origin = fresh } →
    function.resolve v ≡ v → function.definition v ≡ record { home = place; kind = born n } →
    Holds edges program function v (name n) place
given_holds program function place n v written named no_alias defined_so = record {
  there = dominates_itself place (home_of function v) written (ap (λ w. (function.definition w).home) no_alias ∙ ap (λ (d : Definition). d.home) defined_so);
  agrees = λ path f at_end. given_agrees program function place n v written named no_alias defined_so path at_end;
}

-- answers after one name: the new one, or what stood
answers_but :
    {edges : Edges} (s : State) (program : Program) (function : Function) (n v : ℕ) (new : Naming) →
    Holds edges program function v (name n) new.home →
    ((m : ℕ) → m ≢ n → (s.program.naming m).home ≢ start → Holds edges program function (s.answer m) (name m) (s.program.naming m).home) →
    (m : ℕ) → (updated s.program.naming n new m).home ≢ start →
    ((m ≡ n) × (updated s.program.naming n new m ≡ new)) ⊎ ((m ≢ n) × (updated s.program.naming n new m ≡ s.program.naming m)) →
    Holds edges program function (updated s.answer n v m) (name m) (updated s.program.naming n new m).home
answers_but {edges} s program function n v new held others m there (inl c) =
    subst (λ (k : Naming). Holds edges program function (updated s.answer n v m) (name m) k.home) (sym c.1)
    (subst (λ w. Holds edges program function w (name m) new.home) (sym (updated-same s.answer n v m c.0))
    (subst (λ k. Holds edges program function v (name k) new.home) (sym c.0) held))
answers_but {edges} s program function n v new held others m there (inr c) =
    subst (λ (k : Naming). Holds edges program function (updated s.answer n v m) (name m) k.home) (sym c.1)
    (subst (λ w. Holds edges program function w (name m) (s.program.naming m).home) (sym (updated-other s.answer n v m c.0))
    (others m c.0 (λ e. there (ap (λ (k : Naming). k.home) c.1 ∙ e))))

give_under :
    {edges : Edges} (s : State) (place : Place) (n v : ℕ) → CanGive s place n v →
    Allowed (with_given s place n v).program edges → SoundUnder edges s → SoundUnder edges (with_given s place n v)
give_under {edges} s place n v can allowed sound =
    let new : Naming = record { home = place; origin = fresh } in
    let program : Program = with_name s.program n new in
    let definition : Definition = record { home = place; kind = born n } in
    let function : Function = with_definition s.function v definition in
    let r : Rooted edges = rooted_allowed allowed in
    let refines : Refines edges program s.function function = refines_new program s.function v definition r sound.arguments can.new_value in
    let enters : EntersAlike edges s.program program = enters_but s.program n new can.name.unassigned in
    record {
      arguments = arguments_new program s.function v definition r sound.arguments refines (λ y e. cc);
      parameters = take_new program s.function v definition r refines (take_alike s.program program s.function enters sound.parameters) (λ y e. cc);
      records = λ q y w e.
          holds_refined refines
          (holds_alike s.program program s.function w (variable y) q enters
          (λ path f at_end. (same_but s.program n new can.name.unassigned path).variables y)
          (sound.records q y w e));
      answers = λ m there.
          answers_but s program function n v new
          (given_holds program function place n v can.written (updated-same s.program.naming n new n refl) can.no_alias
          (updated-same s.function.definition v definition v refl))
          (λ k ne named.
          holds_refined refines
          (holds_alike s.program program s.function (s.answer k) (name k) (s.program.naming k).home enters
          (λ path f at_end. (same_but s.program n new can.name.unassigned path).names k ne)
          (sound.answers k named)))
          m there (updated_cases s.program.naming n new m);
    }

-- giving a name keeps soundness
pub give_keeps : (s : State) (place : Place) (n v : ℕ) → CanGive s place n v → Sound s → Sound (with_given s place n v)
give_keeps s place n v can sound = record {
  known_sealed = sound.known_sealed;
  rooted = sound.rooted;
  under = λ edges allowed.
      give_under s place n v can allowed
      (sound.under edges (allowed_before s.program n (record { home = place; origin = fresh }) can.name.unassigned allowed));
}

-- USE -------------------------------------------------------------------------------------------------------------

use_agrees :
    {edges : Edges} (program : Program) (function : Function) (place : Place) (n x v : ℕ) → place ≢ start →
    program.naming n ≡ record { home = place; origin = reads x } → program.assigned place x ≡ None →
    Holds edges program function v (variable x) place →
    (path : Path) → Follows edges path → end_of path ≡ place → denotation program function path v ≡ instances program path (name n)
use_agrees program function place n x v written named unassigned held [] f at_end = absurd (written (sym at_end))
use_agrees program function place n x v written named unassigned held (arm ∷ path) f at_end =
    let name_home : (program.naming n).home ≡ arm.target = ap (λ (k : Naming). k.home) named ∙ sym at_end in
    let reading : at_home program arm path (λ h. instances program path h) n (program.naming n).origin ≡ entered program arm path x =
    ap (λ (k : Naming). at_home program arm path (λ h. instances program path h) n k.origin) named in
    held.agrees (arm ∷ path) f at_end ∙
    variable-entered program arm path x (ap (λ p. program.assigned p x) at_end ∙ unassigned) ∙
    sym reading ∙ sym (name-here program arm path n name_home)

-- what resolves as a value that holds does holds too
same_end_holds :
    {edges : Edges} (program : Program) (function : Function) (w v : ℕ) (h : Holder) (place : Place) →
    function.resolve w ≡ function.resolve v → Holds edges program function w h place → Holds edges program function v h place
same_end_holds {edges} program function w v h place same held = record {
  there = subst (λ r. Dominates edges (function.definition r).home place) same held.there;
  agrees = λ path f at_end. ap (λ r. denotes program function path r) (sym same) ∙ held.agrees path f at_end;
}

use_under :
    {edges : Edges} (s : State) (place : Place) (n x v : ℕ) → CanUse s place n x v →
    SoundUnder edges s → SoundUnder edges (with_use s place n x v)
use_under {edges} s place n x v can sound =
    let new : Naming = record { home = place; origin = reads x } in
    let program : Program = with_name s.program n new in
    let enters : EntersAlike edges s.program program = enters_but s.program n new can.name.unassigned in
    let records : (q : Place) (y w : ℕ) → s.recorded q y ≡ Some w → Holds edges program s.function w (variable y) q =
    λ q y w e. holds_alike s.program program s.function w (variable y) q enters
    (λ path f at_end. (same_but s.program n new can.name.unassigned path).variables y)
    (sound.records q y w e) in
    let held : Holds edges program s.function v (variable x) place =
    same_end_holds program s.function can.known.value v (variable x) place can.known.resolves
    (records place x can.known.value can.known.is_recorded) in
    record {
      arguments = sound.arguments;
      parameters = take_alike s.program program s.function enters sound.parameters;
      records = records;
      answers = λ m there.
          answers_but s program s.function n v new
          (record {
            there = held.there;
            agrees = λ path f at_end.
                use_agrees program s.function place n x v can.written (updated-same s.program.naming n new n refl) can.unassigned held path f at_end;
          })
          (λ k ne named.
          holds_alike s.program program s.function (s.answer k) (name k) (s.program.naming k).home enters
          (λ path f at_end. (same_but s.program n new can.name.unassigned path).names k ne)
          (sound.answers k named))
          m there (updated_cases s.program.naming n new m);
    }

-- using a variable keeps soundness
pub use_keeps : (s : State) (place : Place) (n x v : ℕ) → CanUse s place n x v → Sound s → Sound (with_use s place n x v)
use_keeps s place n x v can sound = record {
  known_sealed = sound.known_sealed;
  rooted = sound.rooted;
  under = λ edges allowed.
      use_under s place n x v can
      (sound.under edges (allowed_before s.program n (record { home = place; origin = reads x }) can.name.unassigned allowed));
}
