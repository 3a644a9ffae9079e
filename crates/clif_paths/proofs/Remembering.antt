-- Instances arise on the path so far.
use Rattle.std.proofs.Common.{◌≡◌, ℕ, suc, ◌≤◌, Bool, true, false, Option, None, Some, [], ◌∷◌, length, refl, ap, arith}
use Rattle.clif_paths.specs.Places.{Arm, Path}
use Rattle.clif_paths.specs.State.{Origin, fresh, reads, Program, Kind, unborn, born, pending, complete, zero_of, Function}
use Rattle.clif_paths.specs.Denotation.{Instance, Holder, variable, name, after_assignment, at_home, instances, defined, denotes}
use Rattle.clif_paths.specs.Laws.{entered, age}
use Rattle.clif_paths.proofs.PathLemmas.{dec_place}
use Rattle.clif_paths.proofs.Executing.{entered-sealed, entered-unsealed, instances-variable, name-past, name-here, denotes-past, denotes-here}

older : (i j : Instance) (n : ℕ) → i ≡ j → age j ≤ n → age i ≤ suc n
older i j n e le = let same : age i ≡ age j = ap age e in omega arith

same_age : (i j : Instance) (n : ℕ) → i ≡ j → age j ≤ n → age i ≤ n
same_age i j n e le = let same : age i ≡ age j = ap age e in omega arith

self_le : (n : ℕ) → n ≤ n
self_le n = omega arith

entered_age :
    (program : Program) (arm : Arm) (path : Path) → ((h : Holder) → age (instances program path h) ≤ length path) → (x : ℕ) → (sealed : Bool) →
    program.is_sealed arm.target ≡ sealed → age (entered program arm path x) ≤ suc (length path)
entered_age program arm path before x true e =
    older (entered program arm path x) (instances program path (variable x)) (length path) (entered-sealed program arm path x e) (before (variable x))
entered_age program arm path before x false e =
    same_age (entered program arm path x) (Instance.unknown x (arm ∷ path)) (suc (length path)) (entered-unsealed program arm path x e) (self_le (suc (length path)))

wider : (n m : ℕ) → n ≤ m → n ≤ suc m
wider n m le = omega arith

variable_age :
    (program : Program) (arm : Arm) (path : Path) → ((h : Holder) → age (instances program path h) ≤ length path) → (x : ℕ) → (o : Option ℕ) →
    age (after_assignment (λ h. instances program path h) (entered program arm path x) o) ≤ suc (length path)
variable_age program arm path before x None = entered_age program arm path before x (program.is_sealed arm.target) refl
variable_age program arm path before x (Some n) = wider (age (instances program path (name n))) (length path) (before (name n))

origin_age :
    (program : Program) (arm : Arm) (path : Path) → ((h : Holder) → age (instances program path h) ≤ length path) → (n : ℕ) → (origin : Origin) →
    age (at_home program arm path (λ h. instances program path h) n origin) ≤ suc (length path)
origin_age program arm path before n fresh = self_le (suc (length path))
origin_age program arm path before n (reads x) = entered_age program arm path before x (program.is_sealed arm.target) refl

name_age :
    (program : Program) (arm : Arm) (path : Path) → ((h : Holder) → age (instances program path h) ≤ length path) → (n : ℕ) →
    Dec ((program.naming n).home ≡ arm.target) → age (instances program (arm ∷ path) (name n)) ≤ suc (length path)
name_age program arm path before n (yes at) =
    same_age (instances program (arm ∷ path) (name n)) (at_home program arm path (λ h. instances program path h) n (program.naming n).origin) (suc (length path))
    (name-here program arm path n at) (origin_age program arm path before n (program.naming n).origin)
name_age program arm path before n (no ne) =
    older (instances program (arm ∷ path) (name n)) (instances program path (name n)) (length path) (name-past program arm path n ne) (before (name n))

age_step :
    (program : Program) (arm : Arm) (path : Path) → ((h : Holder) → age (instances program path h) ≤ length path) → (h : Holder) →
    age (instances program (arm ∷ path) h) ≤ suc (length path)
age_step program arm path before (variable x) =
    same_age (instances program (arm ∷ path) (variable x))
    (after_assignment (λ h. instances program path h) (entered program arm path x) (program.assigned arm.target x)) (suc (length path))
    (instances-variable program arm path x) (variable_age program arm path before x (program.assigned arm.target x))
age_step program arm path before (name n) = name_age program arm path before n (dec_place (program.naming n).home arm.target)

first_age : (program : Program) (h : Holder) → age (instances program [] h) ≤ 0
unfolding instances
first_age program (variable x) = self_le 0
first_age program (name n) = self_le 0

pub program_knows : (program : Program) (path : Path) (h : Holder) → age (instances program path h) ≤ length path
program_knows program [] h = first_age program h
program_knows program (arm ∷ path) h =
    let before : (k : Holder) → age (instances program path k) ≤ length path = program_knows program path in
    age_step program arm path before h

zero_le : (n : ℕ) → 0 ≤ n
zero_le n = omega arith

kind_age :
    (program : Program) (function : Function) (arm : Arm) (path : Path) → ((v : ℕ) → age (denotes program function path v) ≤ length path) → (v : ℕ) →
    (kind : Kind) → age (defined program function arm path (λ w. denotes program function path w) v kind) ≤ suc (length path)
kind_age program function arm path before v unborn = zero_le (suc (length path))
kind_age program function arm path before v (born n) = self_le (suc (length path))
kind_age program function arm path before v (pending x) =
    entered_age program arm path (program_knows program path) x (program.is_sealed arm.target) refl
kind_age program function arm path before v (complete x) =
    wider (age (denotes program function path (function.resolve (function.argument v arm)))) (length path) (before (function.resolve (function.argument v arm)))
kind_age program function arm path before v (zero_of x) = zero_le (suc (length path))

value_age :
    (program : Program) (function : Function) (arm : Arm) (path : Path) → ((v : ℕ) → age (denotes program function path v) ≤ length path) → (v : ℕ) →
    Dec ((function.definition v).home ≡ arm.target) → age (denotes program function (arm ∷ path) v) ≤ suc (length path)
value_age program function arm path before v (yes at) =
    same_age (denotes program function (arm ∷ path) v)
    (defined program function arm path (λ w. denotes program function path w) v (function.definition v).kind) (suc (length path))
    (denotes-here program function arm path v at) (kind_age program function arm path before v (function.definition v).kind)
value_age program function arm path before v (no ne) =
    older (denotes program function (arm ∷ path) v) (denotes program function path v) (length path) (denotes-past program function arm path v ne) (before v)

first_value : (program : Program) (function : Function) (v : ℕ) → age (denotes program function [] v) ≤ 0
unfolding denotes
first_value program function v = self_le 0

pub function_knows : (program : Program) (function : Function) (path : Path) (v : ℕ) → age (denotes program function path v) ≤ length path
function_knows program function [] v = first_value program function v
function_knows program function (arm ∷ path) v =
    let before : (w : ℕ) → age (denotes program function path w) ≤ length path = function_knows program function path in
    value_age program function arm path before v (dec_place (function.definition v).home arm.target)
