-- One step of each side: at a home, and past it.
use Rattle.std.proofs.Common.{◌≡◌, ◌≢◌, ℕ, true, false, None, Some, ◌∷◌, refl, ◌∙◌, ap}
use Rattle.clif_paths.specs.Places.{Arm, Path}
use Rattle.clif_paths.specs.State.{Naming, Program, born, pending, complete, zero_of, Definition, Function}
use Rattle.clif_paths.specs.Denotation.{unknown, variable, name, after_assignment, at_home, instances, defined, denotes}
use Rattle.clif_paths.specs.Laws.{entered, ProgramSteps, FunctionSteps}
use Rattle.clif_paths.proofs.PathLemmas.{same_place-equal, same_place-other}

pub entered-sealed : (program : Program) (arm : Arm) (path : Path) (x : ℕ) → program.is_sealed arm.target ≡ true → entered program arm path x ≡ instances program path (variable x)
entered-sealed program arm path x e = rw e refl

pub entered-unsealed : (program : Program) (arm : Arm) (path : Path) (x : ℕ) → program.is_sealed arm.target ≡ false → entered program arm path x ≡ unknown x (arm ∷ path)
entered-unsealed program arm path x e = rw e refl

pub instances-variable :
    (program : Program) (arm : Arm) (path : Path) (x : ℕ) →
    instances program (arm ∷ path) (variable x) ≡ after_assignment (λ h. instances program path h) (entered program arm path x) (program.assigned arm.target x)
unfolding instances
instances-variable program arm path x = refl

-- a variable that the place does not assign
pub variable-entered :
    (program : Program) (arm : Arm) (path : Path) (x : ℕ) → program.assigned arm.target x ≡ None → instances program (arm ∷ path) (variable x) ≡ entered program arm path x
variable-entered program arm path x e = instances-variable program arm path x ∙ (rw e refl)

pub variable-assigned :
    (program : Program) (arm : Arm) (path : Path) (x n : ℕ) →
    program.assigned arm.target x ≡ Some n → instances program (arm ∷ path) (variable x) ≡ instances program path (name n)
variable-assigned program arm path x n e = instances-variable program arm path x ∙ (rw e refl)

-- a sealed place that does not assign a variable keeps it
pub variable-kept :
    (program : Program) (arm : Arm) (path : Path) (x : ℕ) →
    program.is_sealed arm.target ≡ true → program.assigned arm.target x ≡ None → instances program (arm ∷ path) (variable x) ≡ instances program path (variable x)
variable-kept program arm path x sealed unassigned =
    variable-entered program arm path x unassigned ∙ entered-sealed program arm path x sealed

pub name-past :
    (program : Program) (arm : Arm) (path : Path) (n : ℕ) → (program.naming n).home ≢ arm.target → instances program (arm ∷ path) (name n) ≡ instances program path (name n)
unfolding instances
name-past program arm path n ne = rw (same_place-other (program.naming n).home arm.target ne) refl

pub name-here :
    (program : Program) (arm : Arm) (path : Path) (n : ℕ) →
    (program.naming n).home ≡ arm.target →
    instances program (arm ∷ path) (name n) ≡ at_home program arm path (λ h. instances program path h) n (program.naming n).origin
unfolding instances
name-here program arm path n e = rw (same_place-equal (program.naming n).home arm.target e) refl

pub denotes-past :
    (program : Program) (function : Function) (arm : Arm) (path : Path) (v : ℕ) →
    (function.definition v).home ≢ arm.target → denotes program function (arm ∷ path) v ≡ denotes program function path v
unfolding denotes
denotes-past program function arm path v ne = rw (same_place-other (function.definition v).home arm.target ne) refl

pub denotes-here :
    (program : Program) (function : Function) (arm : Arm) (path : Path) (v : ℕ) →
    (function.definition v).home ≡ arm.target →
    denotes program function (arm ∷ path) v ≡ defined program function arm path (λ w. denotes program function path w) v (function.definition v).kind
unfolding denotes
denotes-here program function arm path v e = rw (same_place-equal (function.definition v).home arm.target e) refl

-- the program's side, after one arm more
pub program_steps : (program : Program) (arm : Arm) (path : Path) → ProgramSteps program arm path
program_steps program arm path = record {
  known_place = λ e x. entered-sealed program arm path x e;
  unknown_place = λ e x. entered-unsealed program arm path x e;
  unassigned = λ x e. variable-entered program arm path x e;
  assigned = λ x n e. variable-assigned program arm path x n e;
  elsewhere = λ n ne. name-past program arm path n ne;
  given_here = λ n e.
      name-here program arm path n (ap (λ (k : Naming). k.home) e) ∙
      ap (λ (k : Naming). at_home program arm path (λ h. instances program path h) n k.origin) e;
  read_here = λ n x e.
      name-here program arm path n (ap (λ (k : Naming). k.home) e) ∙
      ap (λ (k : Naming). at_home program arm path (λ h. instances program path h) n k.origin) e;
}

at_home_defined :
    (program : Program) (function : Function) (arm : Arm) (path : Path) (v : ℕ) (d : Definition) → function.definition v ≡ d → d.home ≡ arm.target →
    denotes program function (arm ∷ path) v ≡ defined program function arm path (λ w. denotes program function path w) v d.kind
at_home_defined program function arm path v d e home =
    denotes-here program function arm path v (ap (λ (k : Definition). k.home) e ∙ home) ∙
    ap (λ (k : Definition). defined program function arm path (λ w. denotes program function path w) v k.kind) e

-- the function's side, after one arm more
pub function_steps : (program : Program) (function : Function) (arm : Arm) (path : Path) → FunctionSteps program function arm path
function_steps program function arm path = record {
  elsewhere = λ v ne. denotes-past program function arm path v ne;
  born_here = λ v n e. at_home_defined program function arm path v (record { home = arm.target; kind = born n }) e refl;
  zero_here = λ v x e. at_home_defined program function arm path v (record { home = arm.target; kind = zero_of x }) e refl;
  pending_here = λ v x e. at_home_defined program function arm path v (record { home = arm.target; kind = pending x }) e refl;
  complete_here = λ v x e. at_home_defined program function arm path v (record { home = arm.target; kind = complete x }) e refl;
}
