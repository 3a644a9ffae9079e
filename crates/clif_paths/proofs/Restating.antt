-- The first state, and what no path can see.
use Rattle.std.proofs.Common.{◌≡◌, ℕ, true, refl, sym, ◌∙◌, ap, subst}
use Rattle.clif_paths.specs.Places.{Arm, Edges, Dominates}
use Rattle.clif_paths.specs.State.{complete, Definition, State, home_of}
use Rattle.clif_paths.specs.Sound.{Allowed, SoundUnder, Sound}
use Rattle.clif_paths.specs.Steps.{initial, with_tables, CanRestate}
use Rattle.clif_paths.proofs.Refine.{rooted_allowed, alike_visit, Refines, refines_alike, holds_refined}
use Rattle.clif_paths.proofs.Born.{take_refined}

-- the first state is sound
pub initial_sound : Sound initial
initial_sound = record {
  known_sealed = λ arm e. cc;
  rooted = λ arm at. refl;
  under = λ edges allowed. record {
    arguments = record { at_source = λ u arm k at e. absurd cc };
    parameters = record { at_visit = λ u arm path k at f. absurd cc };
    records = λ place x v e. absurd cc;
    answers = λ n there. absurd (there refl);
  };
}

unseen_arguments :
    {edges : Edges} (s : State) (definition : ℕ → Definition) (argument : ℕ → Arm → ℕ) → CanRestate s definition argument →
    Allowed s.program edges → (u x : ℕ) (arm : Arm) → (s.function.definition (s.function.resolve u)).kind ≡ complete x →
    home_of s.function u ≡ arm.target → edges arm ≡ true →
    s.function.resolve (argument (s.function.resolve u) arm) ≡ s.function.resolve (s.function.argument (s.function.resolve u) arm)
unseen_arguments s definition argument can allowed u x arm k at e =
    can.arguments u arm k at (λ sealed. sym (allowed.known arm sealed) ∙ e)

restate_refines :
    {edges : Edges} (s : State) (definition : ℕ → Definition) (argument : ℕ → Arm → ℕ) → CanRestate s definition argument →
    Allowed s.program edges → SoundUnder edges s → Refines edges s.program s.function (with_tables s definition argument).function
restate_refines {edges} s definition argument can allowed sound =
    refines_alike (rooted_allowed allowed) (λ w. refl) (record {
      same_home = λ u there. ap (λ (d : Definition). d.home) (can.seen u);
      same_visit = λ u arm path f at before.
          alike_visit edges s.program s.function (with_tables s definition argument).function sound.arguments u arm path f at before
          (can.seen u) (λ x k. unseen_arguments s definition argument can allowed u x arm k at f.0);
    })

restate_under :
    {edges : Edges} (s : State) (definition : ℕ → Definition) (argument : ℕ → Arm → ℕ) → CanRestate s definition argument →
    Allowed s.program edges → SoundUnder edges s → SoundUnder edges (with_tables s definition argument)
restate_under {edges} s definition argument can allowed sound =
    let refines : Refines edges s.program s.function (with_tables s definition argument).function =
    restate_refines s definition argument can allowed sound in
    record {
      arguments = record {
        at_source = λ {x} u arm k at e.
            let at_old : home_of s.function u ≡ arm.target = sym (ap (λ (d : Definition). d.home) (can.seen u)) ∙ at in
            let k_old : (s.function.definition (s.function.resolve u)).kind ≡ complete x = sym (ap (λ (d : Definition). d.kind) (can.seen u)) ∙ k in
            let there = sound.arguments.at_source u arm k_old at_old e in
            refines.there (argument (s.function.resolve u) arm) arm.source
            (subst (λ r. Dominates edges (s.function.definition r).home arm.source)
            (sym (unseen_arguments s definition argument can allowed u x arm k_old at_old e))
            there);
      };
      parameters = record {
        at_visit = λ {x} u arm path k at f.
            take_refined s.program s.function (with_tables s definition argument).function (rooted_allowed allowed) refines sound.parameters u x arm path
            (sym (ap (λ (d : Definition). d.kind) (can.seen u)) ∙ k) (sym (ap (λ (d : Definition). d.home) (can.seen u)) ∙ at) f;
      };
      records = λ place x v e. holds_refined refines (sound.records place x v e);
      answers = λ n there. holds_refined refines (sound.answers n there);
    }

-- restating what no path can see keeps soundness
pub restate_keeps :
    (s : State) (definition : ℕ → Definition) (argument : ℕ → Arm → ℕ) → CanRestate s definition argument → Sound s →
    Sound (with_tables s definition argument)
restate_keeps s definition argument can sound = record {
  known_sealed = sound.known_sealed;
  rooted = sound.rooted;
  under = λ edges allowed. restate_under s definition argument can allowed (sound.under edges allowed);
}
