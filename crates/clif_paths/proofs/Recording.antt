-- Records that are copied, or forgotten.
use Rattle.std.proofs.Common.{◌≡◌, ◌≢◌, ℕ, true, Option, None, Some, [], ◌∷◌, ◌⊎◌, inl, inr, sym, ◌∙◌, ap, subst}
use Rattle.clif_paths.specs.Places.{Place, start, Arm, Edges, Path, end_of, Follows, Visits, VisitsBefore, StrictlyBefore}
use Rattle.clif_paths.specs.State.{Program, Function, State, home_of}
use Rattle.clif_paths.specs.Denotation.{variable, instances, denotes, denotation}
use Rattle.clif_paths.specs.Sound.{Allowed, Holds, SoundUnder, Sound}
use Rattle.clif_paths.specs.Steps.{with_records, Comes, CanRecord}
use Rattle.clif_paths.proofs.PathLemmas.{dominates_from_before, unvisited}
use Rattle.clif_paths.proofs.Executing.{denotes-past, variable-kept}

-- along each edge into a sealed place that does not assign the variable, something holds it that resolves as the value does
pub record Brought (edges : Edges) (program : Program) (function : Function) (place : Place) (x v : ℕ) : Type 0 where
  pub written : place ≢ start
  pub is_sealed : program.is_sealed place ≡ true
  pub unassigned : program.assigned place x ≡ None
  pub along :
      (arm : Arm) → edges arm ≡ true → arm.target ≡ place →
      (w : ℕ) × (Holds edges program function w (variable x) arm.source) × (function.resolve w ≡ function.resolve v)

brought_before :
    {edges : Edges} {program : Program} {function : Function} {place : Place} {x v : ℕ} → Brought edges program function place x v →
    (path : Path) → Follows edges path → end_of path ≡ place → VisitsBefore (home_of function v) path
brought_before brought [] f at_end = absurd (brought.written (sym at_end))
brought_before {function = function} brought (arm ∷ path) f at_end =
    let (w, held, resolves) = brought.along arm f.0 at_end in
    subst (λ r. Visits (function.definition r).home path) resolves (held.there.on_every_path path f.2 (sym f.1))

brought_agrees :
    {edges : Edges} {program : Program} {function : Function} {place : Place} {x v : ℕ} → Brought edges program function place x v →
    StrictlyBefore edges (home_of function v) place →
    (path : Path) → Follows edges path → end_of path ≡ place → denotation program function path v ≡ instances program path (variable x)
brought_agrees brought strictly [] f at_end = absurd (brought.written (sym at_end))
brought_agrees {edges} {program} {function} {place} {x} {v} brought strictly (arm ∷ path) f at_end =
    let (w, held, resolves) = brought.along arm f.0 at_end in
    let elsewhere : home_of function v ≢ arm.target =
    λ same. unvisited (subst (λ p. StrictlyBefore edges p place) (same ∙ at_end) strictly) (arm ∷ path) f (inl (sym at_end)) in
    denotes-past program function arm path (function.resolve v) elsewhere ∙
    ap (λ r. denotes program function path r) (sym resolves) ∙
    held.agrees path f.2 (sym f.1) ∙
    sym (variable-kept program arm path x
    (ap (λ p. program.is_sealed p) at_end ∙ brought.is_sealed)
    (ap (λ p. program.assigned p x) at_end ∙ brought.unassigned))

-- what is brought along all edges holds the variable
pub brought_holds :
    {edges : Edges} {program : Program} {function : Function} {place : Place} {x v : ℕ} → Brought edges program function place x v →
    Holds edges program function v (variable x) place
brought_holds {edges} {program} {function} {place} {x} {v} brought =
    let strictly : StrictlyBefore edges (home_of function v) place =
    record { on_every_path = λ path f at_end. brought_before brought path f at_end } in
    record {
      there = dominates_from_before strictly;
      agrees = λ path f at_end. brought_agrees brought strictly path f at_end;
    }

comes_arm :
    {edges : Edges} (s : State) (place : Place) (x v : ℕ) (arm : Arm) → Comes s place x v → Allowed s.program edges → edges arm ≡ true → arm.target ≡ place →
    s.program.arms arm ≡ true
comes_arm s place x v arm comes allowed e at = sym (allowed.known arm (ap (λ p. s.program.is_sealed p) at ∙ comes.is_sealed)) ∙ e

comes_along :
    {edges : Edges} (s : State) (place : Place) (x v : ℕ) → Comes s place x v → Allowed s.program edges → SoundUnder edges s →
    (arm : Arm) → edges arm ≡ true → arm.target ≡ place →
    (w : ℕ) × (Holds edges s.program s.function w (variable x) arm.source) × (s.function.resolve w ≡ s.function.resolve v)
comes_along s place x v comes allowed sound arm e at =
    let (w, is_recorded, resolves) = comes.along arm (comes_arm s place x v arm comes allowed e at) at in
    (w, sound.records arm.source x w is_recorded, resolves)

record_holds :
    {edges : Edges} (s : State) (place : Place) (x v : ℕ) → Allowed s.program edges → SoundUnder edges s →
    (s.recorded place x ≡ Some v) ⊎ Comes s place x v → Holds edges s.program s.function v (variable x) place
record_holds s place x v allowed sound (inl e) = sound.records place x v e
record_holds s place x v allowed sound (inr comes) =
    brought_holds (record {
      written = comes.written;
      is_sealed = comes.is_sealed;
      unassigned = comes.unassigned;
      along = comes_along s place x v comes allowed sound;
    })

-- records that hold, whatever is still allowed, may stand
pub records_stand :
    (s : State) (records : Place → ℕ → Option ℕ) → Sound s →
    ((edges : Edges) → Allowed s.program edges → (place : Place) (x v : ℕ) → records place x ≡ Some v →
    Holds edges s.program s.function v (variable x) place) →
    Sound (with_records s records)
records_stand s records sound held = record {
  known_sealed = sound.known_sealed;
  rooted = sound.rooted;
  under = λ edges allowed. record {
    arguments = (sound.under edges allowed).arguments;
    parameters = (sound.under edges allowed).parameters;
    records = held edges allowed;
    answers = (sound.under edges allowed).answers;
  };
}

-- copying and forgetting records keeps soundness
pub record_keeps : (s : State) (records : Place → ℕ → Option ℕ) → CanRecord s records → Sound s → Sound (with_records s records)
record_keeps s records can sound =
    records_stand s records sound
    (λ edges allowed place x v e. record_holds s place x v allowed (sound.under edges allowed) (can.each place x v e))
