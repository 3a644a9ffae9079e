-- A waiting parameter becomes an alias: of the one other value that comes to it, or of a zero.
use Rattle.std.proofs.Common.{◌≡◌, ◌≢◌, ℕ, true, [], ◌∷◌, ◌⊎◌, inl, inr, refl, sym, ◌∙◌, ap, subst}
use Rattle.clif_paths.specs.Places.{Place, start, Arm, Edges, Path, end_of, Follows, Visits, VisitsBefore, Dominates, StrictlyBefore}
use Rattle.clif_paths.specs.State.{Program, Kind, unborn, born, pending, complete, zero_of, Function, State, home_of}
use Rattle.clif_paths.specs.Denotation.{zero, variable, instances, defined, denotes}
use Rattle.clif_paths.specs.Sound.{Allowed, ArgumentsThere, ParametersTake, SoundUnder, Sound}
use Rattle.clif_paths.specs.Steps.{aliased, Incoming, with_alias, CanDrop, CanUndefine}
use Rattle.clif_paths.proofs.Tables.{aliased_cases}
use Rattle.clif_paths.proofs.PathLemmas.{dec_place, unvisited}
use Rattle.clif_paths.proofs.Executing.{denotes-here, denotes-past}
use Rattle.clif_paths.specs.Laws.{ChangesOnlyAt, AgreeAtVisits, entered}
use Rattle.clif_paths.proofs.Keep.{keep}
use Rattle.clif_paths.proofs.Refine.{Rooted, rooted_allowed, never_at_start, dominator_written, SameAt, same_at, Refines, holds_refined}
use Rattle.clif_paths.proofs.Born.{dominates_itself}
use Rattle.clif_paths.proofs.Fill.{known_arm, incoming_there, incoming_agrees, waiting_takes}

-- the function with one value made an alias
abbrev pub with_resolve : Function → ℕ → ℕ → Function
with_resolve function v target = record function { resolve = aliased function.resolve v target }

-- wherever a value is there, the target is too, and denotes the same
pub record StandsIn (edges : Edges) (program : Program) (function : Function) (v target : ℕ) : Type 0 where
  pub no_alias : function.resolve target ≡ target
  pub there : (place : Place) → Dominates edges (function.definition v).home place → Dominates edges (function.definition target).home place
  pub same :
      (path : Path) → Follows edges path → Dominates edges (function.definition v).home (end_of path) →
      denotes program function path v ≡ denotes program function path target

-- the target itself keeps its denotation
target_same :
    {edges : Edges} (program : Program) (function function' : Function) (v target : ℕ) → StandsIn edges program function v target →
    (path : Path) → SameAt edges program function function' path → Dominates edges (function.definition target).home (end_of path) →
    denotes program function' path target ≡ denotes program function path target
target_same {edges} program function function' v target stands path before d =
    subst (λ w. denotes program function' path w ≡ denotes program function path w) stands.no_alias
    (before.same target (subst (λ w. Dominates edges (function.definition w).home (end_of path)) (sym stands.no_alias) d))

-- what a value denotes through the new aliases, where values keep their denotations
alias_same :
    {edges : Edges} (program : Program) (function : Function) (v target : ℕ) → StandsIn edges program function v target →
    (path : Path) → Follows edges path → SameAt edges program function (with_resolve function v target) path →
    (u : ℕ) → Dominates edges (home_of function u) (end_of path) →
    ((function.resolve u ≡ v) × (aliased function.resolve v target u ≡ target)) ⊎
    ((function.resolve u ≢ v) × (aliased function.resolve v target u ≡ function.resolve u)) →
    denotes program (with_resolve function v target) path (aliased function.resolve v target u) ≡ denotes program function path (function.resolve u)
alias_same {edges} program function v target stands path f before u d (inl c) =
    let at_v : Dominates edges (function.definition v).home (end_of path) =
    subst (λ w. Dominates edges (function.definition w).home (end_of path)) c.0 d in
    ap (λ w. denotes program (with_resolve function v target) path w) c.1 ∙
    target_same program function (with_resolve function v target) v target stands path before (stands.there (end_of path) at_v) ∙
    sym (stands.same path f at_v) ∙
    ap (λ w. denotes program function path w) (sym c.0)
alias_same program function v target stands path f before u d (inr c) =
    ap (λ w. denotes program (with_resolve function v target) path w) c.1 ∙ before.same u d

alias_by_kind :
    {edges : Edges} (program : Program) (function : Function) (v target : ℕ) → StandsIn edges program function v target →
    ArgumentsThere edges function →
    (u : ℕ) (arm : Arm) (path : Path) → Follows edges (arm ∷ path) → home_of function u ≡ arm.target →
    SameAt edges program function (with_resolve function v target) path →
    (kind : Kind) → (function.definition (function.resolve u)).kind ≡ kind →
    defined program (with_resolve function v target) arm path (λ w. denotes program (with_resolve function v target) path w) (function.resolve u) kind ≡
    defined program function arm path (λ w. denotes program function path w) (function.resolve u) kind
alias_by_kind program function v target stands there u arm path f at before unborn k = refl
alias_by_kind program function v target stands there u arm path f at before (born n) k = refl
alias_by_kind program function v target stands there u arm path f at before (pending x) k = refl
alias_by_kind {edges} program function v target stands there u arm path f at before (complete x) k =
    let a : ℕ = function.argument (function.resolve u) arm in
    let d : Dominates edges (home_of function a) (end_of path) =
    subst (λ p. Dominates edges (home_of function a) p) f.1 (there.at_source u arm k at f.0) in
    alias_same program function v target stands path f.2 before a d (aliased_cases function.resolve v target a)
alias_by_kind program function v target stands there u arm path f at before (zero_of x) k = refl

alias_same_at :
    {edges : Edges} (program : Program) (function : Function) (v target : ℕ) → Rooted edges → ArgumentsThere edges function →
    StandsIn edges program function v target →
    (path : Path) → Follows edges path → SameAt edges program function (with_resolve function v target) path
alias_same_at program function v target r there stands =
    same_at r (record {
      same_home = λ u written. refl;
      same_visit = λ u arm path f at before.
          alias_by_kind program function v target stands there u arm path f at before (function.definition (function.resolve u)).kind refl;
    })

alias_there :
    {edges : Edges} (program : Program) (function : Function) (v target : ℕ) → StandsIn edges program function v target →
    (u : ℕ) (place : Place) → Dominates edges (home_of function u) place →
    ((function.resolve u ≡ v) × (aliased function.resolve v target u ≡ target)) ⊎
    ((function.resolve u ≢ v) × (aliased function.resolve v target u ≡ function.resolve u)) →
    Dominates edges (home_of (with_resolve function v target) u) place
alias_there {edges} program function v target stands u place d (inl c) =
    subst (λ w. Dominates edges (function.definition w).home place) (sym c.1)
    (stands.there place (subst (λ w. Dominates edges (function.definition w).home place) c.0 d))
alias_there {edges} program function v target stands u place d (inr c) =
    subst (λ w. Dominates edges (function.definition w).home place) (sym c.1) d

alias_refines :
    {edges : Edges} (program : Program) (function : Function) (v target : ℕ) → Rooted edges → ArgumentsThere edges function →
    StandsIn edges program function v target → Refines edges program function (with_resolve function v target)
alias_refines program function v target r there stands = record {
  there = λ u place d. alias_there program function v target stands u place d (aliased_cases function.resolve v target u);
  same = λ u path f d.
      alias_same program function v target stands path f (alias_same_at program function v target r there stands path f) u d
      (aliased_cases function.resolve v target u);
}

-- each value at the end of the new aliases was one at the end of the old ones
pub alias_root :
    (function : Function) (v target u : ℕ) → function.resolve target ≡ target →
    ((function.resolve u ≡ v) × (aliased function.resolve v target u ≡ target)) ⊎
    ((function.resolve u ≢ v) × (aliased function.resolve v target u ≡ function.resolve u)) →
    (w : ℕ) × (function.resolve w ≡ aliased function.resolve v target u)
alias_root function v target u no_alias (inl c) = (target, no_alias ∙ sym c.1)
alias_root function v target u no_alias (inr c) = (u, sym c.1)

argument_at_root :
    {edges : Edges} (function : Function) → ArgumentsThere edges function →
    (x z : ℕ) (arm : Arm) → (function.definition z).kind ≡ complete x → (function.definition z).home ≡ arm.target → edges arm ≡ true →
    (w : ℕ) × (function.resolve w ≡ z) → Dominates edges (home_of function (function.argument z arm)) arm.source
argument_at_root {edges} function there x z arm k at e (w, root) =
    subst (λ r. Dominates edges (home_of function (function.argument r arm)) arm.source) root
    (there.at_source w arm (ap (λ r. (function.definition r).kind) root ∙ k) (ap (λ r. (function.definition r).home) root ∙ at) e)

take_at_root :
    {edges : Edges} (program : Program) (function function' : Function) → Rooted edges → ParametersTake edges program function →
    (x z : ℕ) (arm : Arm) (path : Path) → (function.definition z).kind ≡ complete x → (function.definition z).home ≡ arm.target →
    Follows edges (arm ∷ path) → SameAt edges program function function' (arm ∷ path) →
    (w : ℕ) × (function.resolve w ≡ z) → denotes program function' (arm ∷ path) z ≡ entered program arm path x
take_at_root {edges} program function function' r take x z arm path k at f same (w, root) =
    let at_root : home_of function w ≡ arm.target = ap (λ q. (function.definition q).home) root ∙ at in
    ap (λ q. denotes program function' (arm ∷ path) q) (sym root) ∙
    same.same w (dominates_itself arm.target (home_of function w) (never_at_start r arm f.0) at_root) ∙
    take.at_visit w arm path (ap (λ q. (function.definition q).kind) root ∙ k) at_root f

alias_under :
    {edges : Edges} (s : State) (v target : ℕ) → Rooted edges → SoundUnder edges s →
    StandsIn edges s.program s.function v target → SoundUnder edges (with_alias s v target)
alias_under {edges} s v target r sound stands =
    let refines : Refines edges s.program s.function (with_resolve s.function v target) =
    alias_refines s.program s.function v target r sound.arguments stands in
    record {
      arguments = record {
        at_source = λ {x} u arm k at e.
            let z : ℕ = aliased s.function.resolve v target u in
            refines.there (s.function.argument z arm) arm.source
            (argument_at_root s.function sound.arguments x z arm k at e
            (alias_root s.function v target u stands.no_alias (aliased_cases s.function.resolve v target u)));
      };
      parameters = record {
        at_visit = λ {x} u arm path k at f.
            take_at_root s.program s.function (with_resolve s.function v target) r sound.parameters x (aliased s.function.resolve v target u) arm path k at f
            (alias_same_at s.program s.function v target r sound.arguments stands (arm ∷ path) f)
            (alias_root s.function v target u stands.no_alias (aliased_cases s.function.resolve v target u));
      };
      records = λ q y w e. holds_refined refines (sound.records q y w e);
      answers = λ n there. holds_refined refines (sound.answers n there);
    }

-- DROP ------------------------------------------------------------------------------------------------------------

drop_before_by :
    {edges : Edges} (s : State) (x v target : ℕ) → SoundUnder edges s →
    (arm : Arm) (path : Path) → Follows edges (arm ∷ path) →
    (Visits (s.function.definition v).home path → Visits (s.function.definition target).home path) →
    Incoming s arm.source x target ⊎ Incoming s arm.source x v → Visits (s.function.definition target).home path
drop_before_by s x v target sound arm path f earlier (inl incoming) =
    (incoming_there s arm x target sound incoming).on_every_path path f.2 (sym f.1)
drop_before_by s x v target sound arm path f earlier (inr incoming) =
    earlier ((incoming_there s arm x v sound incoming).on_every_path path f.2 (sym f.1))

-- what has visited the parameter's place has visited the target's home, even before it arrived
drop_through :
    {edges : Edges} (s : State) (x v target : ℕ) → CanDrop s x v target → Allowed s.program edges → SoundUnder edges s →
    (path : Path) → Follows edges path → Visits (s.function.definition v).home path → Visits (s.function.definition target).home path
drop_through s x v target can allowed sound [] f visits = visits
drop_through s x v target can allowed sound (arm ∷ path) f (inl e) =
    let earlier : Visits (s.function.definition v).home path → Visits (s.function.definition target).home path =
    drop_through s x v target can allowed sound path f.2 in
    inr (drop_before_by s x v target sound arm path f earlier
    (can.along arm (known_arm s x v arm can.waits allowed (sym e) f.0) (sym e)))
drop_through s x v target can allowed sound (arm ∷ path) f (inr visits) = inr (drop_through s x v target can allowed sound path f.2 visits)

drop_strictly_by :
    {edges : Edges} (s : State) (x v target : ℕ) → CanDrop s x v target → Allowed s.program edges → SoundUnder edges s →
    (s.function.definition v).home ≢ start →
    (path : Path) → Follows edges path → end_of path ≡ (s.function.definition v).home → VisitsBefore (s.function.definition target).home path
drop_strictly_by s x v target can allowed sound written [] f at_end = absurd (written (sym at_end))
drop_strictly_by s x v target can allowed sound written (arm ∷ path) f at_end =
    drop_before_by s x v target sound arm path f (drop_through s x v target can allowed sound path f.2)
    (can.along arm (known_arm s x v arm can.waits allowed at_end f.0) at_end)

drop_strictly :
    {edges : Edges} (s : State) (x v target : ℕ) → CanDrop s x v target → Allowed s.program edges → SoundUnder edges s →
    (s.function.definition v).home ≢ start → StrictlyBefore edges (s.function.definition target).home (s.function.definition v).home
drop_strictly s x v target can allowed sound written = record {
  on_every_path = λ path f at_end. drop_strictly_by s x v target can allowed sound written path f at_end;
}

-- a value's denotation changes only at its home
pub denotes_changes : (program : Program) (function : Function) (v : ℕ) → ChangesOnlyAt (function.definition v).home (λ path. denotes program function path v)
denotes_changes program function v = record { past = λ arm path ne. denotes-past program function arm path v ne }

drop_visit_by :
    {edges : Edges} (s : State) (x v target : ℕ) → SoundUnder edges s →
    (arm : Arm) (path : Path) → Follows edges (arm ∷ path) →
    (Dominates edges (s.function.definition v).home (end_of path) → denotes s.program s.function path v ≡ denotes s.program s.function path target) →
    Incoming s arm.source x target ⊎ Incoming s arm.source x v →
    instances s.program path (variable x) ≡ denotes s.program s.function path target
drop_visit_by s x v target sound arm path f before (inl incoming) = sym (incoming_agrees s arm x target sound incoming path f)
drop_visit_by {edges} s x v target sound arm path f before (inr incoming) =
    sym (incoming_agrees s arm x v sound incoming path f) ∙
    before (subst (λ p. Dominates edges (s.function.definition v).home p) f.1 (incoming_there s arm x v sound incoming))

drop_other_home :
    {edges : Edges} (s : State) (x v target : ℕ) → CanDrop s x v target → Allowed s.program edges → SoundUnder edges s →
    (s.function.definition v).home ≢ start →
    (arm : Arm) (path : Path) → Follows edges (arm ∷ path) → (s.function.definition v).home ≡ arm.target →
    (s.function.definition target).home ≢ arm.target
drop_other_home {edges} s x v target can allowed sound written arm path f at same =
    let strictly : StrictlyBefore edges (s.function.definition target).home (s.function.definition v).home =
    drop_strictly s x v target can allowed sound written in
    let itself : StrictlyBefore edges (s.function.definition v).home (s.function.definition v).home =
    subst (λ p. StrictlyBefore edges p (s.function.definition v).home) (same ∙ sym at) strictly in
    unvisited itself (arm ∷ path) f (inl at)

drop_agrees :
    {edges : Edges} (s : State) (x v target : ℕ) → CanDrop s x v target → Allowed s.program edges → SoundUnder edges s →
    (s.function.definition v).home ≢ start →
    AgreeAtVisits edges (s.function.definition v).home (λ path. denotes s.program s.function path v) (λ path. denotes s.program s.function path target)
drop_agrees s x v target can allowed sound written = record {
  at_visit = λ arm path f at before.
      denotes-here s.program s.function arm path v at ∙
      waiting_takes s x v arm path can.waits at ∙
      drop_visit_by s x v target sound arm path f before
      (can.along arm (known_arm s x v arm can.waits allowed (sym at) f.0) (sym at)) ∙
      sym (denotes-past s.program s.function arm path target (drop_other_home s x v target can allowed sound written arm path f at));
}

strictly_dominates :
    {edges : Edges} (s : State) (x v target : ℕ) → CanDrop s x v target → Allowed s.program edges → SoundUnder edges s →
    (place : Place) → Dominates edges (s.function.definition v).home place → Dominates edges (s.function.definition target).home place
strictly_dominates s x v target can allowed sound place d = record {
  on_every_path = λ path f at_end. drop_through s x v target can allowed sound path f (d.on_every_path path f at_end);
}

drop_stands :
    {edges : Edges} (s : State) (x v target : ℕ) → CanDrop s x v target → Allowed s.program edges → SoundUnder edges s →
    StandsIn edges s.program s.function v target
drop_stands {edges} s x v target can allowed sound = record {
  no_alias = can.no_alias;
  there = λ place d. strictly_dominates s x v target can allowed sound place d;
  same = λ path f d.
      let home : Place = (s.function.definition v).home in
      let written : home ≢ start = dominator_written (rooted_allowed allowed) path f d in
      keep edges home (s.function.definition target).home
      (λ path. denotes s.program s.function path v) (λ path. denotes s.program s.function path target)
      (denotes_changes s.program s.function v) (denotes_changes s.program s.function target)
      (strictly_dominates s x v target can allowed sound home (dominates_itself home home written refl))
      (drop_agrees s x v target can allowed sound written) path f d;
}

-- dropping a parameter keeps soundness
pub drop_keeps : (s : State) (x v target : ℕ) → CanDrop s x v target → Sound s → Sound (with_alias s v target)
drop_keeps s x v target can sound = record {
  known_sealed = sound.known_sealed;
  rooted = sound.rooted;
  under = λ edges allowed.
      alias_under s v target (rooted_allowed allowed) (sound.under edges allowed)
      (drop_stands s x v target can allowed (sound.under edges allowed));
}

-- UNDEFINED -------------------------------------------------------------------------------------------------------

-- once its home was visited, a zero is the zero
zero_denotes_by :
    (program : Program) (function : Function) (x z : ℕ) → (function.definition z).kind ≡ zero_of x →
    (arm : Arm) (path : Path) → Visits (function.definition z).home (arm ∷ path) →
    (Visits (function.definition z).home path → denotes program function path z ≡ zero x) →
    Dec ((function.definition z).home ≡ arm.target) → denotes program function (arm ∷ path) z ≡ zero x
zero_denotes_by program function x z k arm path visits earlier (yes at) =
    denotes-here program function arm path z at ∙
    ap (λ kind. defined program function arm path (λ w. denotes program function path w) z kind) k
zero_denotes_by program function x z k arm path (inl at) earlier (no ne) = absurd (ne at)
zero_denotes_by program function x z k arm path (inr visits) earlier (no ne) =
    denotes-past program function arm path z ne ∙ earlier visits

pub zero_denotes :
    (program : Program) (function : Function) (x z : ℕ) → (function.definition z).kind ≡ zero_of x →
    (path : Path) → Visits (function.definition z).home path → denotes program function path z ≡ zero x
zero_denotes program function x z k [] visits = absurd visits
zero_denotes program function x z k (arm ∷ path) visits =
    let earlier : Visits (function.definition z).home path → denotes program function path z ≡ zero x = zero_denotes program function x z k path in
    zero_denotes_by program function x z k arm path visits earlier (dec_place (function.definition z).home arm.target)

-- at the virtual start each variable is its zero
starts_zero : {edges : Edges} (program : Program) (x : ℕ) → Rooted edges → (path : Path) → Follows edges path → end_of path ≡ start → instances program path (variable x) ≡ zero x
unfolding instances
starts_zero program x r [] f at_end = refl
starts_zero program x r (arm ∷ path) f at_end = absurd (never_at_start r arm f.0 at_end)

undefine_visit_by :
    {edges : Edges} (s : State) (x v z : ℕ) → CanUndefine s x v z → Allowed s.program edges → SoundUnder edges s →
    (arm : Arm) (path : Path) → Follows edges (arm ∷ path) →
    (Dominates edges (s.function.definition v).home (end_of path) → denotes s.program s.function path v ≡ denotes s.program s.function path z) →
    (arm.source ≡ start) ⊎ Incoming s arm.source x v →
    instances s.program path (variable x) ≡ zero x
undefine_visit_by s x v z can allowed sound arm path f before (inl at_start) =
    starts_zero s.program x (rooted_allowed allowed) path f.2 (sym f.1 ∙ at_start)
undefine_visit_by {edges} s x v z can allowed sound arm path f before (inr incoming) =
    let d : Dominates edges (s.function.definition v).home (end_of path) =
    subst (λ p. Dominates edges (s.function.definition v).home p) f.1 (incoming_there s arm x v sound incoming) in
    let visits : Visits (s.function.definition z).home path =
    subst (λ p. Visits p path) (sym can.same_home) (d.on_every_path path f.2 refl) in
    sym (incoming_agrees s arm x v sound incoming path f) ∙ before d ∙
    zero_denotes s.program s.function x z can.is_zero path visits

undefine_agrees :
    {edges : Edges} (s : State) (x v z : ℕ) → CanUndefine s x v z → Allowed s.program edges → SoundUnder edges s →
    AgreeAtVisits edges (s.function.definition v).home (λ path. denotes s.program s.function path v) (λ path. denotes s.program s.function path z)
undefine_agrees s x v z can allowed sound = record {
  at_visit = λ arm path f at before.
      denotes-here s.program s.function arm path v at ∙
      waiting_takes s x v arm path can.waits at ∙
      undefine_visit_by s x v z can allowed sound arm path f before
      (can.along arm (known_arm s x v arm can.waits allowed (sym at) f.0) (sym at)) ∙
      sym (zero_denotes s.program s.function x z can.is_zero (arm ∷ path) (inl (can.same_home ∙ at)));
}

undefine_stands :
    {edges : Edges} (s : State) (x v z : ℕ) → CanUndefine s x v z → Allowed s.program edges → SoundUnder edges s →
    StandsIn edges s.program s.function v z
undefine_stands {edges} s x v z can allowed sound = record {
  no_alias = can.no_alias;
  there = λ place d. subst (λ p. Dominates edges p place) (sym can.same_home) d;
  same = λ path f d.
      let home : Place = (s.function.definition v).home in
      let written : home ≢ start = dominator_written (rooted_allowed allowed) path f d in
      keep edges home (s.function.definition z).home
      (λ path. denotes s.program s.function path v) (λ path. denotes s.program s.function path z)
      (denotes_changes s.program s.function v) (denotes_changes s.program s.function z)
      (dominates_itself home (s.function.definition z).home written can.same_home)
      (undefine_agrees s x v z can allowed sound) path f d;
}

-- making an undefined parameter an alias of the zero keeps soundness
pub undefine_keeps : (s : State) (x v z : ℕ) → CanUndefine s x v z → Sound s → Sound (with_alias s v z)
undefine_keeps s x v z can sound = record {
  known_sealed = sound.known_sealed;
  rooted = sound.rooted;
  under = λ edges allowed.
      alias_under s v z (rooted_allowed allowed) (sound.under edges allowed)
      (undefine_stands s x v z can allowed (sound.under edges allowed));
}
