-- A waiting parameter gets its arguments.
use Rattle.std.proofs.Common.{◌≡◌, ℕ, true, ◌∷◌, refl, sym, ◌∙◌, ap, subst}
use Rattle.std.proofs.Math.Decide.{ℕ_discrete}
use Rattle.clif_paths.specs.Places.{Arm, Edges, Path, end_of, Follows, Dominates}
use Rattle.clif_paths.specs.State.{complete, Definition, Function, State, home_of}
use Rattle.clif_paths.specs.Denotation.{variable, instances, defined, denotes, denotation}
use Rattle.clif_paths.specs.Sound.{Allowed, Holds, SoundUnder, Sound}
use Rattle.clif_paths.specs.Steps.{updated, Incoming, Waits, with_arguments, CanFill}
use Rattle.clif_paths.proofs.Tables.{updated-same, updated-other}
use Rattle.clif_paths.specs.Laws.{entered}
use Rattle.clif_paths.proofs.Executing.{entered-sealed, denotes-here}
use Rattle.clif_paths.proofs.Refine.{rooted_allowed, never_at_start, SameAt, alike_visit, Refines, refines_alike, holds_refined}
use Rattle.clif_paths.proofs.Born.{dominates_itself, take_refined}

-- an edge into a waiting parameter's place is a known arm
pub known_arm :
    {edges : Edges} (s : State) (x v : ℕ) (arm : Arm) → Waits s x v → Allowed s.program edges → arm.target ≡ (s.function.definition v).home →
    edges arm ≡ true → s.program.arms arm ≡ true
known_arm s x v arm waits allowed at e = sym (allowed.known arm (ap (λ p. s.program.is_sealed p) at ∙ waits.is_sealed)) ∙ e

-- what comes along an arm is there at its source, and holds the variable
pub incoming_holds :
    {edges : Edges} (s : State) (arm : Arm) (x v : ℕ) → SoundUnder edges s → (incoming : Incoming s arm.source x v) →
    Holds edges s.program s.function incoming.value (variable x) arm.source
incoming_holds s arm x v sound incoming = sound.records arm.source x incoming.value incoming.is_recorded

pub incoming_there :
    {edges : Edges} (s : State) (arm : Arm) (x v : ℕ) → SoundUnder edges s → Incoming s arm.source x v →
    Dominates edges (s.function.definition v).home arm.source
incoming_there {edges} s arm x v sound incoming =
    subst (λ w. Dominates edges (s.function.definition w).home arm.source) incoming.resolves (incoming_holds s arm x v sound incoming).there

pub incoming_agrees :
    {edges : Edges} (s : State) (arm : Arm) (x v : ℕ) → SoundUnder edges s → Incoming s arm.source x v →
    (path : Path) → Follows edges (arm ∷ path) → denotes s.program s.function path v ≡ instances s.program path (variable x)
incoming_agrees s arm x v sound incoming path f =
    ap (λ w. denotes s.program s.function path w) (sym incoming.resolves) ∙
    (incoming_holds s arm x v sound incoming).agrees path f.2 (sym f.1)

-- what a waiting parameter takes at a visit of its place
pub waiting_takes :
    (s : State) (x v : ℕ) (arm : Arm) (path : Path) → Waits s x v → (s.function.definition v).home ≡ arm.target →
    defined s.program s.function arm path (λ w. denotes s.program s.function path w) v (s.function.definition v).kind ≡ instances s.program path (variable x)
waiting_takes s x v arm path waits at =
    ap (λ k. defined s.program s.function arm path (λ w. denotes s.program s.function path w) v k) waits.is_pending ∙
    entered-sealed s.program arm path x (ap (λ p. s.program.is_sealed p) (sym at) ∙ waits.is_sealed)

fill_visit :
    {edges : Edges} (s : State) (x v : ℕ) (given : Arm → ℕ) → CanFill s x v given → Allowed s.program edges → SoundUnder edges s →
    (arm : Arm) (path : Path) → Follows edges (arm ∷ path) → (s.function.definition v).home ≡ arm.target →
    SameAt edges s.program s.function (with_arguments s x v given).function path →
    defined s.program (with_arguments s x v given).function arm path (λ w. denotes s.program (with_arguments s x v given).function path w) v ((with_arguments s x v given).function.definition v).kind ≡
    defined s.program s.function arm path (λ w. denotes s.program s.function path w) v (s.function.definition v).kind
fill_visit {edges} s x v given can allowed sound arm path f at before =
    let new : Function = (with_arguments s x v given).function in
    let a : ℕ = s.function.resolve (given arm) in
    let incoming : Incoming s arm.source x a = can.along arm (known_arm s x v arm can.waits allowed (sym at) f.0) (sym at) in
    let kind : defined s.program new arm path (λ w. denotes s.program new path w) v (new.definition v).kind ≡ denotes s.program new path (s.function.resolve (updated s.function.argument v given v arm)) =
    ap (λ (d : Definition). defined s.program new arm path (λ w. denotes s.program new path w) v d.kind)
    (updated-same s.function.definition v (record { home = (s.function.definition v).home; kind = complete x }) v refl) in
    let takes : denotes s.program new path (s.function.resolve (updated s.function.argument v given v arm)) ≡ denotes s.program new path a =
    ap (λ (t : Arm → ℕ). denotes s.program new path (s.function.resolve (t arm))) (updated-same s.function.argument v given v refl) in
    let there : Dominates edges (home_of s.function (given arm)) (end_of path) =
    subst (λ p. Dominates edges (home_of s.function (given arm)) p) f.1 (incoming_there s arm x a sound incoming) in
    kind ∙ takes ∙ before.same (given arm) there ∙ incoming_agrees s arm x a sound incoming path f ∙
    sym (waiting_takes s x v arm path can.waits at)

fill_same_visit :
    {edges : Edges} (s : State) (x v : ℕ) (given : Arm → ℕ) → CanFill s x v given → Allowed s.program edges → SoundUnder edges s →
    (u : ℕ) (arm : Arm) (path : Path) → Follows edges (arm ∷ path) → home_of s.function u ≡ arm.target →
    SameAt edges s.program s.function (with_arguments s x v given).function path →
    Dec (s.function.resolve u ≡ v) →
    defined s.program (with_arguments s x v given).function arm path (λ w. denotes s.program (with_arguments s x v given).function path w) (s.function.resolve u) ((with_arguments s x v given).function.definition (s.function.resolve u)).kind ≡
    defined s.program s.function arm path (λ w. denotes s.program s.function path w) (s.function.resolve u) (s.function.definition (s.function.resolve u)).kind
fill_same_visit s x v given can allowed sound u arm path f at before (yes e) =
    let new : Function = (with_arguments s x v given).function in
    subst
    (λ z. defined s.program new arm path (λ w. denotes s.program new path w) z (new.definition z).kind ≡
    defined s.program s.function arm path (λ w. denotes s.program s.function path w) z (s.function.definition z).kind)
    (sym e)
    (fill_visit s x v given can allowed sound arm path f (ap (λ w. (s.function.definition w).home) (sym e) ∙ at) before)
fill_same_visit {edges} s x v given can allowed sound u arm path f at before (no ne) =
    alike_visit edges s.program s.function (with_arguments s x v given).function sound.arguments u arm path f at before
    (updated-other s.function.definition v (record { home = (s.function.definition v).home; kind = complete x }) (s.function.resolve u) ne)
    (λ y k. ap (λ (t : Arm → ℕ). s.function.resolve (t arm)) (updated-other s.function.argument v given (s.function.resolve u) ne))

fill_home :
    (s : State) (x v : ℕ) (given : Arm → ℕ) (u : ℕ) → Dec (s.function.resolve u ≡ v) →
    ((with_arguments s x v given).function.definition (s.function.resolve u)).home ≡ home_of s.function u
fill_home s x v given u (yes e) =
    ap (λ (d : Definition). d.home)
    (updated-same s.function.definition v (record { home = (s.function.definition v).home; kind = complete x }) (s.function.resolve u) e) ∙
    ap (λ w. (s.function.definition w).home) (sym e)
fill_home s x v given u (no ne) =
    ap (λ (d : Definition). d.home)
    (updated-other s.function.definition v (record { home = (s.function.definition v).home; kind = complete x }) (s.function.resolve u) ne)

fill_refines :
    {edges : Edges} (s : State) (x v : ℕ) (given : Arm → ℕ) → CanFill s x v given → Allowed s.program edges → SoundUnder edges s →
    Refines edges s.program s.function (with_arguments s x v given).function
fill_refines s x v given can allowed sound =
    refines_alike (rooted_allowed allowed) (λ w. refl) (record {
      same_home = λ u there. fill_home s x v given u (ℕ_discrete (s.function.resolve u) v);
      same_visit = λ u arm path f at before.
          fill_same_visit s x v given can allowed sound u arm path f at before (ℕ_discrete (s.function.resolve u) v);
    })

fill_arguments :
    {edges : Edges} (s : State) (x v : ℕ) (given : Arm → ℕ) → CanFill s x v given → Allowed s.program edges → SoundUnder edges s →
    Refines edges s.program s.function (with_arguments s x v given).function →
    (u y : ℕ) (arm : Arm) →
    (updated s.function.definition v (record { home = (s.function.definition v).home; kind = complete x }) (s.function.resolve u)).kind ≡ complete y →
    home_of (with_arguments s x v given).function u ≡ arm.target →
    edges arm ≡ true →
    Dec (s.function.resolve u ≡ v) →
    Dominates edges (home_of (with_arguments s x v given).function (updated s.function.argument v given (s.function.resolve u) arm)) arm.source
fill_arguments {edges} s x v given can allowed sound refines u y arm k at e (yes same) =
    let a : ℕ = s.function.resolve (given arm) in
    let at_v : arm.target ≡ (s.function.definition v).home =
    sym at ∙ fill_home s x v given u (yes same) ∙ ap (λ w. (s.function.definition w).home) same in
    let incoming : Incoming s arm.source x a = can.along arm (known_arm s x v arm can.waits allowed at_v e) at_v in
    subst
    (λ w. Dominates edges (home_of (with_arguments s x v given).function w) arm.source)
    (sym (ap (λ (t : Arm → ℕ). t arm) (updated-same s.function.argument v given (s.function.resolve u) same)))
    (refines.there (given arm) arm.source (incoming_there s arm x a sound incoming))
fill_arguments {edges} s x v given can allowed sound refines u y arm k at e (no ne) =
    let new : Definition = record { home = (s.function.definition v).home; kind = complete x } in
    let kind : (s.function.definition (s.function.resolve u)).kind ≡ complete y =
    sym (ap (λ (d : Definition). d.kind) (updated-other s.function.definition v new (s.function.resolve u) ne)) ∙ k in
    subst
    (λ w. Dominates edges (home_of (with_arguments s x v given).function w) arm.source)
    (sym (ap (λ (t : Arm → ℕ). t arm) (updated-other s.function.argument v given (s.function.resolve u) ne)))
    (refines.there (s.function.argument (s.function.resolve u) arm) arm.source
    (sound.arguments.at_source u arm kind (sym (fill_home s x v given u (no ne)) ∙ at) e))

pub same_variable : {x y : ℕ} → complete x ≡ complete y → x ≡ y
same_variable e = cc

-- a parameter that waited took its variable, and takes it still; all others as before
fill_takes :
    {edges : Edges} (s : State) (x v : ℕ) (given : Arm → ℕ) → CanFill s x v given → Allowed s.program edges → SoundUnder edges s →
    Refines edges s.program s.function (with_arguments s x v given).function →
    (u y : ℕ) (arm : Arm) (path : Path) →
    (updated s.function.definition v (record { home = (s.function.definition v).home; kind = complete x }) (s.function.resolve u)).kind ≡ complete y →
    home_of (with_arguments s x v given).function u ≡ arm.target →
    Follows edges (arm ∷ path) →
    Dec (s.function.resolve u ≡ v) →
    denotation s.program (with_arguments s x v given).function (arm ∷ path) u ≡ entered s.program arm path y
fill_takes {edges} s x v given can allowed sound refines u y arm path k at f (yes same) =
    let new : Definition = record { home = (s.function.definition v).home; kind = complete x } in
    let variable_is : x ≡ y =
    same_variable (sym (ap (λ (d : Definition). d.kind) (updated-same s.function.definition v new (s.function.resolve u) same)) ∙ k) in
    let at_old : home_of s.function u ≡ arm.target = sym (fill_home s x v given u (yes same)) ∙ at in
    let at_v : (s.function.definition v).home ≡ arm.target = ap (λ w. (s.function.definition w).home) (sym same) ∙ at_old in
    refines.same u (arm ∷ path) f
    (dominates_itself arm.target (home_of s.function u) (never_at_start (rooted_allowed allowed) arm f.0) at_old) ∙
    ap (λ w. denotes s.program s.function (arm ∷ path) w) same ∙
    denotes-here s.program s.function arm path v at_v ∙
    ap (λ d. defined s.program s.function arm path (λ w. denotes s.program s.function path w) v d) can.waits.is_pending ∙
    ap (λ z. entered s.program arm path z) variable_is
fill_takes {edges} s x v given can allowed sound refines u y arm path k at f (no ne) =
    let new : Definition = record { home = (s.function.definition v).home; kind = complete x } in
    take_refined s.program s.function (with_arguments s x v given).function (rooted_allowed allowed) refines sound.parameters u y arm path
    (sym (ap (λ (d : Definition). d.kind) (updated-other s.function.definition v new (s.function.resolve u) ne)) ∙ k)
    (sym (fill_home s x v given u (no ne)) ∙ at) f

fill_under :
    {edges : Edges} (s : State) (x v : ℕ) (given : Arm → ℕ) → CanFill s x v given → Allowed s.program edges → SoundUnder edges s →
    SoundUnder edges (with_arguments s x v given)
fill_under {edges} s x v given can allowed sound =
    let refines : Refines edges s.program s.function (with_arguments s x v given).function = fill_refines s x v given can allowed sound in
    record {
      arguments = record {
        at_source = λ {x = y} u arm k at e.
            fill_arguments s x v given can allowed sound refines u y arm k at e (ℕ_discrete (s.function.resolve u) v);
      };
      parameters = record {
        at_visit = λ {x = y} u arm path k at f.
            fill_takes s x v given can allowed sound refines u y arm path k at f (ℕ_discrete (s.function.resolve u) v);
      };
      records = λ q y w e. holds_refined refines (sound.records q y w e);
      answers = λ n there. holds_refined refines (sound.answers n there);
    }

-- giving a waiting parameter its arguments keeps soundness
pub fill_keeps : (s : State) (x v : ℕ) (given : Arm → ℕ) → CanFill s x v given → Sound s → Sound (with_arguments s x v given)
fill_keeps s x v given can sound = record {
  known_sealed = sound.known_sealed;
  rooted = sound.rooted;
  under = λ edges allowed. fill_under s x v given can allowed (sound.under edges allowed);
}
