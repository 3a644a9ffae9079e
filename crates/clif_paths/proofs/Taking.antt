-- Complete parameters hold their variables, and so do their arguments.
use Rattle.std.proofs.Common.{◌≡◌, ◌≢◌, ℕ, true, None, [], ◌∷◌, refl, sym, ◌∙◌, ap}
use Rattle.clif_paths.specs.Places.{start, Arm, Edges, Path, Follows, end_of}
use Rattle.clif_paths.specs.State.{complete, Program, Function, State, home_of}
use Rattle.clif_paths.specs.Denotation.{variable, instances, defined, denotes, denotation}
use Rattle.clif_paths.specs.Sound.{Allowed, ParametersTake, Holds, SoundUnder, Sound}
use Rattle.clif_paths.proofs.Executing.{variable-entered, entered-sealed, denotes-here}
use Rattle.clif_paths.proofs.Born.{dominates_itself}

takes_agrees :
    {edges : Edges} (program : Program) (function : Function) → ParametersTake edges program function →
    (u x : ℕ) → (function.definition (function.resolve u)).kind ≡ complete x → home_of function u ≢ start →
    program.assigned (home_of function u) x ≡ None →
    (path : Path) → Follows edges path → end_of path ≡ home_of function u → denotation program function path u ≡ instances program path (variable x)
takes_agrees program function take u x k written unassigned [] f at_end = absurd (written (sym at_end))
takes_agrees program function take u x k written unassigned (arm ∷ path) f at_end =
    take.at_visit u arm path k (sym at_end) f ∙
    sym (variable-entered program arm path x (ap (λ p. program.assigned p x) at_end ∙ unassigned))

pub parameters_hold :
    (s : State) → Sound s → (edges : Edges) → Allowed s.program edges →
    (u x : ℕ) → (s.function.definition (s.function.resolve u)).kind ≡ complete x →
    home_of s.function u ≢ start → s.program.assigned (home_of s.function u) x ≡ None →
    Holds edges s.program s.function u (variable x) (home_of s.function u)
parameters_hold s sound edges allowed u x k written unassigned = record {
  there = dominates_itself (home_of s.function u) (home_of s.function u) written refl;
  agrees = λ path f at_end.
      takes_agrees s.program s.function (sound.under edges allowed).parameters u x k written unassigned path f at_end;
}

-- an argument denotes before its arm what the parameter denotes behind it
pub arguments_hold :
    (s : State) → Sound s → (edges : Edges) → Allowed s.program edges →
    (u x : ℕ) (arm : Arm) → (s.function.definition (s.function.resolve u)).kind ≡ complete x →
    home_of s.function u ≡ arm.target → edges arm ≡ true → s.program.is_sealed arm.target ≡ true →
    Holds edges s.program s.function (s.function.argument (s.function.resolve u) arm) (variable x) arm.source
arguments_hold s sound edges allowed u x arm k at e sealed =
    let under : SoundUnder edges s = sound.under edges allowed in
    record {
      there = under.arguments.at_source u arm k at e;
      agrees = λ path f at_end.
          ap (λ kind. defined s.program s.function arm path (λ w. denotes s.program s.function path w) (s.function.resolve u) kind) (sym k) ∙
          sym (denotes-here s.program s.function arm path (s.function.resolve u) at) ∙
          under.parameters.at_visit u arm path k at (e, sym at_end, f) ∙
          entered-sealed s.program arm path x sealed;
    }
