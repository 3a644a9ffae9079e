-- New values: a waiting parameter, a zero. A value that nothing named before refines whatever it is.
use Rattle.std.proofs.Common.{◌≡◌, ◌≢◌, ℕ, true, None, Some, [], ◌∷◌, ◌⊎◌, inl, inr, refl, sym, ◌∙◌, ap, subst}
use Rattle.clif_paths.specs.Places.{Place, start, Arm, Edges, Path, end_of, Follows, Visits, Dominates}
use Rattle.clif_paths.specs.State.{Program, pending, complete, zero_of, Definition, Function, State, home_of}
use Rattle.clif_paths.specs.Denotation.{variable, instances, defined, denotes, denotation}
use Rattle.clif_paths.specs.Sound.{Allowed, ArgumentsThere, ParametersTake, Holds, SoundUnder, Sound}
use Rattle.clif_paths.specs.Steps.{updated, with_pending, CanWait, with_zero, CanPutZero}
use Rattle.clif_paths.proofs.Tables.{updated-same, updated-other, updated_cases, record_cases}
use Rattle.clif_paths.specs.Laws.{entered}
use Rattle.clif_paths.proofs.Executing.{denotes-here, variable-entered}
use Rattle.clif_paths.proofs.Refine.{Rooted, rooted_allowed, never_at_start, alike_visit, Refines, refines_alike, holds_refined}

-- the function with one value defined anew
abbrev pub with_definition : Function → ℕ → Definition → Function
with_definition function v new = record function { definition = updated function.definition v new }

pub other_value : (function : Function) (v u : ℕ) → (function.definition v).home ≡ start → home_of function u ≢ start → function.resolve u ≢ v
other_value function v u new there e = there (ap (λ w. (function.definition w).home) e ∙ new)

-- a value that was not there
pub refines_new :
    {edges : Edges} (program : Program) (function : Function) (v : ℕ) (new : Definition) → Rooted edges → ArgumentsThere edges function →
    (function.definition v).home ≡ start → Refines edges program function (with_definition function v new)
refines_new {edges} program function v new r arguments unborn_before =
    refines_alike r (λ w. refl) (record {
      same_home = λ u there.
          ap (λ (d : Definition). d.home) (updated-other function.definition v new (function.resolve u) (other_value function v u unborn_before there));
      same_visit = λ u arm path f e before.
          alike_visit edges program function (with_definition function v new) arguments u arm path f e before
          (updated-other function.definition v new (function.resolve u)
          (other_value function v u unborn_before (λ h. never_at_start r arm f.0 (sym e ∙ h))))
          (λ x k. refl);
    })

arguments_new_by :
    {edges : Edges} (program : Program) (function : Function) (v : ℕ) (new : Definition) → Rooted edges → ArgumentsThere edges function →
    Refines edges program function (with_definition function v new) →
    ((x : ℕ) → new.kind ≢ complete x) →
    (u x : ℕ) (arm : Arm) →
    (updated function.definition v new (function.resolve u)).kind ≡ complete x →
    (updated function.definition v new (function.resolve u)).home ≡ arm.target →
    edges arm ≡ true →
    ((function.resolve u ≡ v) × (updated function.definition v new (function.resolve u) ≡ new)) ⊎
    ((function.resolve u ≢ v) × (updated function.definition v new (function.resolve u) ≡ function.definition (function.resolve u))) →
    Dominates edges (home_of (with_definition function v new) (function.argument (function.resolve u) arm)) arm.source
arguments_new_by program function v new r arguments refines ne u x arm k h e (inl c) =
    absurd (ne x (sym (ap (λ (d : Definition). d.kind) c.1) ∙ k))
arguments_new_by program function v new r arguments refines ne u x arm k h e (inr c) =
    refines.there (function.argument (function.resolve u) arm) arm.source
    (arguments.at_source u arm (sym (ap (λ (d : Definition). d.kind) c.1) ∙ k) (sym (ap (λ (d : Definition). d.home) c.1) ∙ h) e)

pub arguments_new :
    {edges : Edges} (program : Program) (function : Function) (v : ℕ) (new : Definition) → Rooted edges → ArgumentsThere edges function →
    Refines edges program function (with_definition function v new) →
    ((x : ℕ) → new.kind ≢ complete x) → ArgumentsThere edges (with_definition function v new)
arguments_new program function v new r arguments refines ne = record {
  at_source = λ {x} u arm k h e.
      arguments_new_by program function v new r arguments refines ne u x arm k h e (updated_cases function.definition v new (function.resolve u));
}

-- a value is there at its own home
ends_at_home : (p q : Place) → p ≢ start → q ≡ p → (path : Path) → end_of path ≡ p → Visits q path
ends_at_home p q written e [] at_end = absurd (written (sym at_end))
ends_at_home p q written e (arm ∷ path) at_end = inl (e ∙ sym at_end)

pub dominates_itself : {edges : Edges} (p q : Place) → p ≢ start → q ≡ p → Dominates edges q p
dominates_itself p q written e = record { on_every_path = λ path f at_end. ends_at_home p q written e path at_end }

-- a complete parameter takes what it took, where what was denoted still is
pub take_refined :
    {edges : Edges} (program : Program) (function function' : Function) → Rooted edges → Refines edges program function function' →
    ParametersTake edges program function →
    (u x : ℕ) (arm : Arm) (path : Path) → (function.definition (function.resolve u)).kind ≡ complete x → home_of function u ≡ arm.target →
    Follows edges (arm ∷ path) → denotation program function' (arm ∷ path) u ≡ entered program arm path x
take_refined program function function' r refines take u x arm path k at f =
    refines.same u (arm ∷ path) f (dominates_itself arm.target (home_of function u) (never_at_start r arm f.0) at) ∙
    take.at_visit u arm path k at f

take_new_by :
    {edges : Edges} (program : Program) (function : Function) (v : ℕ) (new : Definition) → Rooted edges →
    Refines edges program function (with_definition function v new) → ParametersTake edges program function →
    ((x : ℕ) → new.kind ≢ complete x) →
    (u x : ℕ) (arm : Arm) (path : Path) →
    (updated function.definition v new (function.resolve u)).kind ≡ complete x →
    (updated function.definition v new (function.resolve u)).home ≡ arm.target →
    Follows edges (arm ∷ path) →
    ((function.resolve u ≡ v) × (updated function.definition v new (function.resolve u) ≡ new)) ⊎
    ((function.resolve u ≢ v) × (updated function.definition v new (function.resolve u) ≡ function.definition (function.resolve u))) →
    denotation program (with_definition function v new) (arm ∷ path) u ≡ entered program arm path x
take_new_by program function v new r refines take ne u x arm path k h f (inl c) =
    absurd (ne x (sym (ap (λ (d : Definition). d.kind) c.1) ∙ k))
take_new_by program function v new r refines take ne u x arm path k h f (inr c) =
    take_refined program function (with_definition function v new) r refines take u x arm path
    (sym (ap (λ (d : Definition). d.kind) c.1) ∙ k) (sym (ap (λ (d : Definition). d.home) c.1) ∙ h) f

pub take_new :
    {edges : Edges} (program : Program) (function : Function) (v : ℕ) (new : Definition) → Rooted edges →
    Refines edges program function (with_definition function v new) → ParametersTake edges program function →
    ((x : ℕ) → new.kind ≢ complete x) → ParametersTake edges program (with_definition function v new)
take_new program function v new r refines take ne = record {
  at_visit = λ {x} u arm path k h f.
      take_new_by program function v new r refines take ne u x arm path k h f (updated_cases function.definition v new (function.resolve u));
}

pending_agrees :
    (program : Program) (function : Function) (place : Place) (x v : ℕ) → place ≢ start → program.assigned place x ≡ None →
    function.resolve v ≡ v → function.definition v ≡ record { home = place; kind = pending x } →
    (path : Path) → end_of path ≡ place → denotation program function path v ≡ instances program path (variable x)
pending_agrees program function place x v written unassigned no_alias defined_so [] at_end = absurd (written (sym at_end))
pending_agrees program function place x v written unassigned no_alias defined_so (arm ∷ path) at_end =
    let root : denotes program function (arm ∷ path) (function.resolve v) ≡ denotes program function (arm ∷ path) v =
    ap (λ w. denotes program function (arm ∷ path) w) no_alias in
    let at_home : (function.definition v).home ≡ arm.target = ap (λ (d : Definition). d.home) defined_so ∙ sym at_end in
    let takes : defined program function arm path (λ w. denotes program function path w) v (function.definition v).kind ≡ entered program arm path x =
    ap (λ (d : Definition). defined program function arm path (λ w. denotes program function path w) v d.kind) defined_so in
    let here : program.assigned arm.target x ≡ None = ap (λ p. program.assigned p x) at_end ∙ unassigned in
    root ∙ denotes-here program function arm path v at_home ∙ takes ∙ sym (variable-entered program arm path x here)

-- a waiting parameter holds its variable at its place
pub pending_holds :
    {edges : Edges} (program : Program) (function : Function) (place : Place) (x v : ℕ) → place ≢ start → program.assigned place x ≡ None →
    function.resolve v ≡ v → function.definition v ≡ record { home = place; kind = pending x } →
    Holds edges program function v (variable x) place
pending_holds program function place x v written unassigned no_alias defined_so = record {
  there = dominates_itself place (home_of function v) written (ap (λ w. (function.definition w).home) no_alias ∙ ap (λ (d : Definition). d.home) defined_so);
  agrees = λ path f at_end. pending_agrees program function place x v written unassigned no_alias defined_so path at_end;
}

wait_records :
    {edges : Edges} (s : State) (place : Place) (x v : ℕ) → CanWait s place x v → SoundUnder edges s →
    Refines edges s.program s.function (with_pending s place x v).function →
    (q : Place) (y w : ℕ) →
    ((q ≡ place) × (y ≡ x) × (v ≡ w)) ⊎ ((q ≡ place → y ≢ x) × (s.recorded q y ≡ Some w)) →
    Holds edges s.program (with_pending s place x v).function w (variable y) q
wait_records {edges} s place x v can sound refines q y w (inl c) =
    let function : Function = (with_pending s place x v).function in
    let held : Holds edges s.program function v (variable x) place =
    pending_holds s.program function place x v can.written can.unassigned can.no_alias
    (updated-same s.function.definition v (record { home = place; kind = pending x }) v refl) in
    subst (λ p. Holds edges s.program function w (variable y) p) (sym c.0)
    (subst (λ z. Holds edges s.program function w (variable z) place) (sym c.1)
    (subst (λ u. Holds edges s.program function u (variable x) place) c.2 held))
wait_records s place x v can sound refines q y w (inr c) = holds_refined refines (sound.records q y w c.1)

wait_under :
    {edges : Edges} (s : State) (place : Place) (x v : ℕ) → CanWait s place x v → Allowed s.program edges → SoundUnder edges s →
    SoundUnder edges (with_pending s place x v)
wait_under {edges} s place x v can allowed sound =
    let r : Rooted edges = rooted_allowed allowed in
    let new : Definition = record { home = place; kind = pending x } in
    let refines : Refines edges s.program s.function (with_definition s.function v new) =
    refines_new s.program s.function v new r sound.arguments can.new_value in
    record {
      arguments = arguments_new s.program s.function v new r sound.arguments refines (λ y e. cc);
      parameters = take_new s.program s.function v new r refines sound.parameters (λ y e. cc);
      records = λ q y w e. wait_records s place x v can sound refines q y w (record_cases s.recorded place x v q y w e);
      answers = λ n there. holds_refined refines (sound.answers n there);
    }

-- adding a waiting parameter keeps soundness
pub wait_keeps : (s : State) (place : Place) (x v : ℕ) → CanWait s place x v → Sound s → Sound (with_pending s place x v)
wait_keeps s place x v can sound = record {
  known_sealed = sound.known_sealed;
  rooted = sound.rooted;
  under = λ edges allowed. wait_under s place x v can allowed (sound.under edges allowed);
}

zero_under :
    {edges : Edges} (s : State) (place : Place) (x z : ℕ) → CanPutZero s place z → Allowed s.program edges → SoundUnder edges s →
    SoundUnder edges (with_zero s place x z)
zero_under {edges} s place x z can allowed sound =
    let r : Rooted edges = rooted_allowed allowed in
    let new : Definition = record { home = place; kind = zero_of x } in
    let refines : Refines edges s.program s.function (with_definition s.function z new) =
    refines_new s.program s.function z new r sound.arguments can.new_value in
    record {
      arguments = arguments_new s.program s.function z new r sound.arguments refines (λ y e. cc);
      parameters = take_new s.program s.function z new r refines sound.parameters (λ y e. cc);
      records = λ q y w e. holds_refined refines (sound.records q y w e);
      answers = λ n there. holds_refined refines (sound.answers n there);
    }

-- putting a zero keeps soundness
pub zero_keeps : (s : State) (place : Place) (x z : ℕ) → CanPutZero s place z → Sound s → Sound (with_zero s place x z)
zero_keeps s place x z can sound = record {
  known_sealed = sound.known_sealed;
  rooted = sound.rooted;
  under = λ edges allowed. zero_under s place x z can allowed (sound.under edges allowed);
}
