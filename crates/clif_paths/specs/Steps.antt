-- The steps by which a state grows: each with what it needs and what it makes.
-- Source: the operations of Braun et al. 2013 (sealing a block, reading and writing variables, adding operands,
-- removing trivial parameters), cut into single changes of the tables; the cut is our own.
use Rattle.std.specs.Prelude.{◌≡◌, ◌≢◌, ℕ, true, false, cond, ◌==◌, Option, None, Some, ◌⊎◌, Bool}
use Rattle.clif_paths.specs.Places.{Place, start, Arm, Edges, same_place}
use Rattle.clif_paths.specs.State.{fresh, reads, unborn, born, pending, complete, zero_of, Definition, State, home_of}

-- a table of numbers with one entry changed
unfoldable pub updated : {A : Type 0} → (ℕ → A) → ℕ → A → ℕ → A
updated table k new i = cond (i == k) new (table i)

-- a table of places with one entry changed
unfoldable pub updated_at : {A : Type 0} → (Place → A) → Place → A → Place → A
updated_at table place new p = cond (same_place p place) new (table p)

-- the aliases with `value` made an alias of `target`
unfoldable pub aliased : (ℕ → ℕ) → ℕ → ℕ → ℕ → ℕ
aliased resolve value target v = cond (resolve v == value) target (resolve v)

-- The first state: nothing is sealed, nothing is given, no value exists.
abbrev pub initial : State
initial = record {
  program = record {
    is_sealed = λ place. false;
    arms = λ arm. false;
    assigned = λ place x. None;
    naming = λ n. record { home = start; origin = fresh };
  };
  function = record {
    definition = λ v. record { home = start; kind = unborn };
    argument = λ v arm. 0;
    resolve = λ v. v;
  };
  recorded = λ place x. None;
  answer = λ n. 0;
}

-- SEAL. The arms into a place become known, these and no others; or into several places at once.
abbrev pub with_sealed : State → (Place → Bool) → Edges → State
with_sealed s chosen into = record s {
  program = record s.program {
    is_sealed = λ place. cond (chosen place) true (s.program.is_sealed place);
    arms = λ arm. cond (chosen arm.target) (into arm) (s.program.arms arm);
  };
}

-- one place alone
abbrev pub only : Place → Place → Bool
only place p = same_place p place

pub record CanSeal (s : State) (chosen : Place → Bool) : Type 0 where
  pub unsealed : (place : Place) → chosen place ≡ true → s.program.is_sealed place ≡ false
  pub written : chosen start ≡ false

-- RECORD. Records are copied from where all arms come from, or forgotten.
abbrev pub with_records : State → (Place → ℕ → Option ℕ) → State
with_records s records = record s { recorded = records }

-- along each arm into a sealed place that does not assign the variable, the record resolves as this value does
pub record Comes (s : State) (place : Place) (x v : ℕ) : Type 0 where
  pub written : place ≢ start
  pub is_sealed : s.program.is_sealed place ≡ true
  pub unassigned : s.program.assigned place x ≡ None
  pub along :
      (arm : Arm) → s.program.arms arm ≡ true → arm.target ≡ place →
      (w : ℕ) × (s.recorded arm.source x ≡ Some w) × (s.function.resolve w ≡ s.function.resolve v)

pub record CanRecord (s : State) (records : Place → ℕ → Option ℕ) : Type 0 where
  pub each :
      (place : Place) (x v : ℕ) → records place x ≡ Some v → (s.recorded place x ≡ Some v) ⊎ Comes s place x v

-- WAIT. A parameter for a variable is added to a place; it has no arguments yet.
abbrev pub with_pending : State → Place → ℕ → ℕ → State
with_pending s place x v = record s {
  function = record s.function {
    definition = updated s.function.definition v (record { home = place; kind = pending x });
  };
  recorded = updated_at s.recorded place (updated (s.recorded place) x (Some v));
}

pub record CanWait (s : State) (place : Place) (x v : ℕ) : Type 0 where
  pub written : place ≢ start
  pub unassigned : s.program.assigned place x ≡ None
  pub new_value : (s.function.definition v).home ≡ start
  pub no_alias : s.function.resolve v ≡ v

-- what is recorded for the variable at a place, as at an arm's source, resolves to this value
pub record Incoming (s : State) (place : Place) (x v : ℕ) : Type 0 where
  pub value : ℕ
  pub is_recorded : s.recorded place x ≡ Some value
  pub resolves : s.function.resolve value ≡ v

-- the parameter waits at a sealed place for arguments of this variable
pub record Waits (s : State) (x v : ℕ) : Type 0 where
  pub is_pending : (s.function.definition v).kind ≡ pending x
  pub is_sealed : s.program.is_sealed (s.function.definition v).home ≡ true

-- FILL. A waiting parameter gets an argument from each arm, as the records at the arms' sources are.
abbrev pub with_arguments : State → ℕ → ℕ → (Arm → ℕ) → State
with_arguments s x v given = record s {
  function = record s.function {
    definition =
        updated s.function.definition v (record { home = (s.function.definition v).home; kind = complete x });
    argument = updated s.function.argument v given;
  };
}

pub record CanFill (s : State) (x v : ℕ) (given : Arm → ℕ) : Type 0 where
  pub waits : Waits s x v
  pub along :
      (arm : Arm) → s.program.arms arm ≡ true → arm.target ≡ (s.function.definition v).home →
      Incoming s arm.source x (s.function.resolve (given arm))

-- DROP. A waiting parameter to which nothing comes but one other value, or itself, becomes an alias of that value.
abbrev pub with_alias : State → ℕ → ℕ → State
with_alias s v target = record s {
  function = record s.function { resolve = aliased s.function.resolve v target };
}

pub record CanDrop (s : State) (x v target : ℕ) : Type 0 where
  pub waits : Waits s x v
  pub no_alias : s.function.resolve target ≡ target
  pub along :
      (arm : Arm) → s.program.arms arm ≡ true → arm.target ≡ (s.function.definition v).home →
      Incoming s arm.source x target ⊎ Incoming s arm.source x v

-- ZERO. The zero of a variable is put into a place.
abbrev pub with_zero : State → Place → ℕ → ℕ → State
with_zero s place x z = record s {
  function = record s.function {
    definition = updated s.function.definition z (record { home = place; kind = zero_of x });
  };
}

pub record CanPutZero (s : State) (place : Place) (z : ℕ) : Type 0 where
  pub written : place ≢ start
  pub new_value : (s.function.definition z).home ≡ start

-- UNDEFINED. A waiting parameter to which nothing comes but itself, from the virtual start aside, becomes an alias
-- of a zero at its place.
pub record CanUndefine (s : State) (x v z : ℕ) : Type 0 where
  pub waits : Waits s x v
  pub no_alias : s.function.resolve z ≡ z
  pub is_zero : (s.function.definition z).kind ≡ zero_of x
  pub same_home : (s.function.definition z).home ≡ (s.function.definition v).home
  pub along :
      (arm : Arm) → s.program.arms arm ≡ true → arm.target ≡ (s.function.definition v).home →
      (arm.source ≡ start) ⊎ Incoming s arm.source x v

-- a name that is given nowhere and assigned nowhere yet
pub record IsNewName (s : State) (n : ℕ) : Type 0 where
  pub new_name : (s.program.naming n).home ≡ start
  pub unassigned : (place : Place) (x : ℕ) → s.program.assigned place x ≢ Some n

-- GIVE. A name is given at a place, and answered by a value born there.
abbrev pub with_given : State → Place → ℕ → ℕ → State
with_given s place n v = record {
  program = record s.program { naming = updated s.program.naming n (record { home = place; origin = fresh }) };
  function = record s.function {
    definition = updated s.function.definition v (record { home = place; kind = born n });
  };
  recorded = s.recorded;
  answer = updated s.answer n v;
}

pub record CanGive (s : State) (place : Place) (n v : ℕ) : Type 0 where
  pub written : place ≢ start
  pub name : IsNewName s n
  pub new_value : (s.function.definition v).home ≡ start
  pub no_alias : s.function.resolve v ≡ v

-- USE. A name reads a variable at a place, and is answered by the record there, or by what resolves as it does.
abbrev pub with_use : State → Place → ℕ → ℕ → ℕ → State
with_use s place n x v = record s {
  program = record s.program { naming = updated s.program.naming n (record { home = place; origin = reads x }) };
  answer = updated s.answer n v;
}

pub record CanUse (s : State) (place : Place) (n x v : ℕ) : Type 0 where
  pub written : place ≢ start
  pub name : IsNewName s n
  pub unassigned : s.program.assigned place x ≡ None
  pub known : Incoming s place x (s.function.resolve v)

-- ASSIGN. A variable is assigned a name at a place that no known arm leaves, and the record there is the name's
-- answer.
abbrev pub with_assigned : State → Place → ℕ → ℕ → State
with_assigned s place x n = record s {
  program = record s.program {
    assigned = updated_at s.program.assigned place (updated (s.program.assigned place) x (Some n));
  };
  recorded = updated_at s.recorded place (updated (s.recorded place) x (Some (s.answer n)));
}

pub record CanAssign (s : State) (place : Place) (x n : ℕ) : Type 0 where
  pub unassigned : s.program.assigned place x ≡ None
  pub is_given : (s.program.naming n).home ≢ start
  pub none_leaves : (arm : Arm) → s.program.arms arm ≡ true → arm.source ≢ place

-- RESTATE. What no path can see: definitions of values to which nothing resolves, and arguments that are not a
-- complete parameter's on an arm into its home that may exist.
abbrev pub with_tables : State → (ℕ → Definition) → (ℕ → Arm → ℕ) → State
with_tables s definition argument = record s {
  function = record { definition = definition; argument = argument; resolve = s.function.resolve };
}

pub record CanRestate (s : State) (definition : ℕ → Definition) (argument : ℕ → Arm → ℕ) : Type 0 where
  pub seen : (u : ℕ) → definition (s.function.resolve u) ≡ s.function.definition (s.function.resolve u)
  pub arguments :
      {x : ℕ} (u : ℕ) (arm : Arm) → (s.function.definition (s.function.resolve u)).kind ≡ complete x →
      home_of s.function u ≡ arm.target →
      (s.program.is_sealed arm.target ≡ true → s.program.arms arm ≡ true) →
      s.function.resolve (argument (s.function.resolve u) arm) ≡
      s.function.resolve (s.function.argument (s.function.resolve u) arm)

-- One step of construction, with what it needs.
pub data Step : State → State → Type 0 where
  seal : {s : State} (chosen : Place → Bool) (into : Edges) → CanSeal s chosen → Step s (with_sealed s chosen into)
  record_values :
      {s : State} (records : Place → ℕ → Option ℕ) → CanRecord s records → Step s (with_records s records)
  wait : {s : State} (place : Place) (x v : ℕ) → CanWait s place x v → Step s (with_pending s place x v)
  fill : {s : State} (x v : ℕ) (given : Arm → ℕ) → CanFill s x v given → Step s (with_arguments s x v given)
  drop : {s : State} (x v target : ℕ) → CanDrop s x v target → Step s (with_alias s v target)
  put_zero : {s : State} (place : Place) (x z : ℕ) → CanPutZero s place z → Step s (with_zero s place x z)
  undefine : {s : State} (x v z : ℕ) → CanUndefine s x v z → Step s (with_alias s v z)
  give : {s : State} (place : Place) (n v : ℕ) → CanGive s place n v → Step s (with_given s place n v)
  use_variable : {s : State} (place : Place) (n x v : ℕ) → CanUse s place n x v → Step s (with_use s place n x v)
  assign : {s : State} (place : Place) (x n : ℕ) → CanAssign s place x n → Step s (with_assigned s place x n)
  restate :
      {s : State} (definition : ℕ → Definition) (argument : ℕ → Arm → ℕ) → CanRestate s definition argument →
      Step s (with_tables s definition argument)

-- Any number of steps, the first at the left.
pub data Steps : State → State → Type 0 where
  done : {s : State} → Steps s s
  then : {s s' s'' : State} → Steps s s' → Step s' s'' → Steps s s''
