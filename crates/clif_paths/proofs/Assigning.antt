-- An assignment, and what a name's answer holds wherever the name's home dominates.
use Rattle.std.proofs.Common.{◌≡◌, ◌≢◌, ℕ, Bool, true, false, Option, None, Some, [], ◌∷◌, ◌⊎◌, inl, inr, refl, sym, ◌∙◌, ap, subst}
use Rattle.clif_paths.specs.Places.{Place, Arm, Edges, Path, end_of, Follows, Dominates, StrictlyBefore}
use Rattle.clif_paths.specs.State.{Origin, fresh, reads, Program, Function, State, home_of}
use Rattle.clif_paths.specs.Denotation.{variable, name, after_assignment, at_home, instances, denotes, denotation}
use Rattle.clif_paths.specs.Sound.{Allowed, Holds, SoundUnder, Sound}
use Rattle.clif_paths.specs.Steps.{updated, updated_at, with_assigned, CanAssign}
use Rattle.clif_paths.proofs.Tables.{record_cases, record_kept, record_new, record_other}
use Rattle.clif_paths.proofs.PathLemmas.{dec_place, dominates_trans, dominates_from_before, unvisited}
use Rattle.clif_paths.specs.Laws.{entered}
use Rattle.clif_paths.proofs.Executing.{entered-sealed, entered-unsealed, instances-variable, variable-assigned, name-past, name-here}
use Rattle.clif_paths.specs.Laws.{ChangesOnlyAt}
use Rattle.clif_paths.proofs.Keep.{keep}
use Rattle.clif_paths.proofs.Alias.{denotes_changes}
use Rattle.clif_paths.proofs.Naming.{EntersAlike, denotes_alike, holds_alike, take_alike}

-- a name's instance changes only at its home
name_changes : (program : Program) (n : ℕ) → ChangesOnlyAt (program.naming n).home (λ path. instances program path (name n))
name_changes program n = record { past = λ arm path ne. name-past program arm path n ne }

-- What holds a name at its home holds it wherever that home dominates.
pub name_held :
    {edges : Edges} (program : Program) (function : Function) (v n : ℕ) → Holds edges program function v (name n) (program.naming n).home →
    (place : Place) → Dominates edges (program.naming n).home place → Holds edges program function v (name n) place
name_held {edges} program function v n held place d = record {
  there = dominates_trans held.there d;
  agrees = λ path f at_end.
      sym (keep edges (program.naming n).home (home_of function v)
      (λ path. instances program path (name n)) (λ path. denotes program function path (function.resolve v))
      (name_changes program n) (denotes_changes program function (function.resolve v)) held.there
      (record { at_visit = λ arm path f at before. sym (held.agrees (arm ∷ path) f (sym at)) })
      path f (subst (λ p. Dominates edges (program.naming n).home p) (sym at_end) d));
}

abbrev pub with_assignment : Program → Place → ℕ → ℕ → Program
with_assignment program place x n = record program {
  assigned = updated_at program.assigned place (updated (program.assigned place) x (Some n));
}

-- at the end of this path names have the instances that they had, and variables too, but for the assigned one at the place
record SameBefore (place : Place) (x : ℕ) (program program' : Program) (path : Path) : Type 0 where
  pub variables : (y : ℕ) → (end_of path ≡ place → y ≢ x) → instances program' path (variable y) ≡ instances program path (variable y)
  pub names : (m : ℕ) → instances program' path (name m) ≡ instances program path (name m)

-- no known arm leaves the place
record NoneLeaves (program : Program) (place : Place) : Type 0 where
  pub none : (arm : Arm) → program.arms arm ≡ true → arm.source ≢ place

entered_by :
    {edges : Edges} (program : Program) (place : Place) (x n : ℕ) → NoneLeaves program place → Allowed (with_assignment program place x n) edges →
    (arm : Arm) (path : Path) → Follows edges (arm ∷ path) → SameBefore place x program (with_assignment program place x n) path →
    (y : ℕ) → (sealed : Bool) → program.is_sealed arm.target ≡ sealed →
    entered (with_assignment program place x n) arm path y ≡ entered program arm path y
entered_by program place x n leaves allowed arm path f before y true e =
    let known : program.arms arm ≡ true = sym (allowed.known arm e) ∙ f.0 in
    entered-sealed (with_assignment program place x n) arm path y e ∙
    before.variables y (λ at. absurd (leaves.none arm known (f.1 ∙ at))) ∙
    sym (entered-sealed program arm path y e)
entered_by program place x n leaves allowed arm path f before y false e =
    entered-unsealed (with_assignment program place x n) arm path y e ∙ sym (entered-unsealed program arm path y e)

entered_alike :
    {edges : Edges} (program : Program) (place : Place) (x n : ℕ) → NoneLeaves program place → Allowed (with_assignment program place x n) edges →
    (arm : Arm) (path : Path) → Follows edges (arm ∷ path) → SameBefore place x program (with_assignment program place x n) path →
    (y : ℕ) → entered (with_assignment program place x n) arm path y ≡ entered program arm path y
entered_alike program place x n leaves allowed arm path f before y =
    entered_by program place x n leaves allowed arm path f before y (program.is_sealed arm.target) refl

assignment_alike :
    {edges : Edges} (program : Program) (place : Place) (x n : ℕ) → NoneLeaves program place → Allowed (with_assignment program place x n) edges →
    (arm : Arm) (path : Path) → Follows edges (arm ∷ path) → SameBefore place x program (with_assignment program place x n) path →
    (y : ℕ) (o : Option ℕ) →
    after_assignment (λ h. instances (with_assignment program place x n) path h) (entered (with_assignment program place x n) arm path y) o ≡
    after_assignment (λ h. instances program path h) (entered program arm path y) o
assignment_alike program place x n leaves allowed arm path f before y None = entered_alike program place x n leaves allowed arm path f before y
assignment_alike program place x n leaves allowed arm path f before y (Some m) = before.names m

variable_alike :
    {edges : Edges} (program : Program) (place : Place) (x n : ℕ) → NoneLeaves program place → Allowed (with_assignment program place x n) edges →
    (arm : Arm) (path : Path) → Follows edges (arm ∷ path) → SameBefore place x program (with_assignment program place x n) path →
    (y : ℕ) → (arm.target ≡ place → y ≢ x) →
    instances (with_assignment program place x n) (arm ∷ path) (variable y) ≡ instances program (arm ∷ path) (variable y)
variable_alike program place x n leaves allowed arm path f before y other =
    instances-variable (with_assignment program place x n) arm path y ∙
    ap
    (λ o. after_assignment (λ h. instances (with_assignment program place x n) path h) (entered (with_assignment program place x n) arm path y) o)
    (record_other program.assigned place x n arm.target y other) ∙
    assignment_alike program place x n leaves allowed arm path f before y (program.assigned arm.target y) ∙
    sym (instances-variable program arm path y)

name_by_origin :
    {edges : Edges} (program : Program) (place : Place) (x n : ℕ) → NoneLeaves program place → Allowed (with_assignment program place x n) edges →
    (arm : Arm) (path : Path) → Follows edges (arm ∷ path) → SameBefore place x program (with_assignment program place x n) path →
    (m : ℕ) (origin : Origin) →
    at_home (with_assignment program place x n) arm path (λ h. instances (with_assignment program place x n) path h) m origin ≡
    at_home program arm path (λ h. instances program path h) m origin
name_by_origin program place x n leaves allowed arm path f before m fresh = refl
name_by_origin program place x n leaves allowed arm path f before m (reads y) = entered_alike program place x n leaves allowed arm path f before y

name_alike :
    {edges : Edges} (program : Program) (place : Place) (x n : ℕ) → NoneLeaves program place → Allowed (with_assignment program place x n) edges →
    (arm : Arm) (path : Path) → Follows edges (arm ∷ path) → SameBefore place x program (with_assignment program place x n) path →
    (m : ℕ) → Dec ((program.naming m).home ≡ arm.target) →
    instances (with_assignment program place x n) (arm ∷ path) (name m) ≡ instances program (arm ∷ path) (name m)
name_alike program place x n leaves allowed arm path f before m (yes at) =
    name-here (with_assignment program place x n) arm path m at ∙
    name_by_origin program place x n leaves allowed arm path f before m (program.naming m).origin ∙
    sym (name-here program arm path m at)
name_alike program place x n leaves allowed arm path f before m (no ne) =
    name-past (with_assignment program place x n) arm path m ne ∙ before.names m ∙ sym (name-past program arm path m ne)

same_before :
    {edges : Edges} (program : Program) (place : Place) (x n : ℕ) → NoneLeaves program place → Allowed (with_assignment program place x n) edges →
    (path : Path) → Follows edges path → SameBefore place x program (with_assignment program place x n) path
unfolding instances
same_before program place x n leaves allowed [] f = record { variables = λ y other. refl; names = λ m. refl }
same_before program place x n leaves allowed (arm ∷ path) f =
    let before : SameBefore place x program (with_assignment program place x n) path = same_before program place x n leaves allowed path f.2 in
    record {
      variables = λ y other. variable_alike program place x n leaves allowed arm path f before y other;
      names = λ m. name_alike program place x n leaves allowed arm path f before m (dec_place (program.naming m).home arm.target);
    }

enters_assigned :
    {edges : Edges} (program : Program) (place : Place) (x n : ℕ) → NoneLeaves program place → Allowed (with_assignment program place x n) edges →
    EntersAlike edges program (with_assignment program place x n)
enters_assigned program place x n leaves allowed = record {
  same = λ arm path f y. entered_alike program place x n leaves allowed arm path f (same_before program place x n leaves allowed path f.2) y;
}

allowed_unassigned :
    {edges : Edges} (program : Program) (place : Place) (x n : ℕ) → program.assigned place x ≡ None →
    Allowed (with_assignment program place x n) edges → Allowed program edges
allowed_unassigned program place x n none allowed = record {
  known = allowed.known;
  rooted = allowed.rooted;
  given_before = λ q y m e. allowed.given_before q y m (record_kept program.assigned place x n q y m none e);
}

-- the assigned variable takes the name's instance
assigned_agrees :
    {edges : Edges} (program : Program) (function : Function) (place : Place) (x n v : ℕ) → NoneLeaves program place →
    Allowed (with_assignment program place x n) edges →
    StrictlyBefore edges (program.naming n).home place → Holds edges program function v (name n) place →
    (path : Path) → Follows edges path → end_of path ≡ place →
    denotation (with_assignment program place x n) function path v ≡ instances (with_assignment program place x n) path (variable x)
assigned_agrees program function place x n v leaves allowed strictly held [] f at_end = absurd (strictly.on_every_path [] f at_end)
assigned_agrees {edges} program function place x n v leaves allowed strictly held (arm ∷ path) f at_end =
    let elsewhere : (program.naming n).home ≢ arm.target =
    λ same. unvisited (subst (λ p. StrictlyBefore edges p place) (same ∙ at_end) strictly) (arm ∷ path) f (inl (sym at_end)) in
    let assigned : (with_assignment program place x n).assigned arm.target x ≡ Some n =
    subst (λ p. (with_assignment program place x n).assigned p x ≡ Some n) (sym at_end) (record_new program.assigned place x n) in
    denotes_alike program (with_assignment program place x n) function (enters_assigned program place x n leaves allowed) (arm ∷ path) f (function.resolve v) ∙
    held.agrees (arm ∷ path) f at_end ∙
    name-past program arm path n elsewhere ∙
    sym ((same_before program place x n leaves allowed path f.2).names n) ∙
    sym (variable-assigned (with_assignment program place x n) arm path x n assigned)

assign_records :
    {edges : Edges} (s : State) (place : Place) (x n : ℕ) → CanAssign s place x n → NoneLeaves s.program place →
    Allowed (with_assignment s.program place x n) edges → SoundUnder edges s →
    (q : Place) (y w : ℕ) →
    ((q ≡ place) × (y ≡ x) × (s.answer n ≡ w)) ⊎ ((q ≡ place → y ≢ x) × (s.recorded q y ≡ Some w)) →
    Holds edges (with_assignment s.program place x n) s.function w (variable y) q
assign_records {edges} s place x n can leaves allowed sound q y w (inl c) =
    let program : Program = with_assignment s.program place x n in
    let strictly : StrictlyBefore edges (s.program.naming n).home place =
    allowed.given_before place x n (record_new s.program.assigned place x n) in
    let held : Holds edges s.program s.function (s.answer n) (name n) place =
    name_held s.program s.function (s.answer n) n (sound.answers n can.is_given) place (dominates_from_before strictly) in
    let here : Holds edges program s.function (s.answer n) (variable x) place = record {
      there = held.there;
      agrees = λ path f at_end. assigned_agrees s.program s.function place x n (s.answer n) leaves allowed strictly held path f at_end;
    } in
    subst (λ p. Holds edges program s.function w (variable y) p) (sym c.0)
    (subst (λ z. Holds edges program s.function w (variable z) place) (sym c.1)
    (subst (λ u. Holds edges program s.function u (variable x) place) c.2 here))
assign_records s place x n can leaves allowed sound q y w (inr c) =
    holds_alike s.program (with_assignment s.program place x n) s.function w (variable y) q
    (enters_assigned s.program place x n leaves allowed)
    (λ path f at_end. (same_before s.program place x n leaves allowed path f).variables y (λ e. c.0 (sym at_end ∙ e)))
    (sound.records q y w c.1)

assign_under :
    {edges : Edges} (s : State) (place : Place) (x n : ℕ) → CanAssign s place x n →
    Allowed (with_assignment s.program place x n) edges → SoundUnder edges s → SoundUnder edges (with_assigned s place x n)
assign_under s place x n can allowed sound =
    let leaves : NoneLeaves s.program place = record { none = can.none_leaves } in
    record {
      arguments = sound.arguments;
      parameters = take_alike s.program (with_assignment s.program place x n) s.function (enters_assigned s.program place x n leaves allowed) sound.parameters;
      records = λ q y w e. assign_records s place x n can leaves allowed sound q y w (record_cases s.recorded place x (s.answer n) q y w e);
      answers = λ m there.
          holds_alike s.program (with_assignment s.program place x n) s.function (s.answer m) (name m) (s.program.naming m).home
          (enters_assigned s.program place x n leaves allowed)
          (λ path f at_end. (same_before s.program place x n leaves allowed path f).names m)
          (sound.answers m there);
    }

-- assigning a name keeps soundness
pub assign_keeps : (s : State) (place : Place) (x n : ℕ) → CanAssign s place x n → Sound s → Sound (with_assigned s place x n)
assign_keeps s place x n can sound = record {
  known_sealed = sound.known_sealed;
  rooted = sound.rooted;
  under = λ edges allowed.
      assign_under s place x n can allowed (sound.under edges (allowed_unassigned s.program place x n can.unassigned allowed));
}
