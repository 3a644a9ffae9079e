-- The tables of blocks as a builder keeps them, and the state of places that they stand for.
-- Source: own; the tables are those of Braun et al. 2013 (a current definition for each variable and block, sealed
-- blocks, pending parameters).
use Rattle.std.specs.Prelude.{◌≡◌, ◌≢◌, ℕ, zero, suc, ◌<◌, Bool, true, false, cond, ◌==◌, ◌&&◌, nat_lt, Option, None, Some, List, [], ◌∷◌, ◌⊎◌}
use Rattle.clif_paths.specs.Places.{Place, start, inside, Arm, Edges, same_place}
use Rattle.clif_paths.specs.State.{fresh, reads, Naming, born, pending, complete, zero_of, Kind, Function, State, home_of}
use Rattle.clif_paths.specs.Steps.{updated, updated_at, aliased, IsNewName}

-- Tables by block. Arms between blocks leave the last place of the one and lead to the front of the other; inside a
-- block each place is reached by its one arm, number 0, from the place before. Records are kept once a block: they
-- say what holds at its last place so far.
pub record Blocks : Type 0 where
  -- how many items the block has so far
  pub count : ℕ → ℕ
  -- whether the arms into the block are known
  pub sealed : ℕ → Bool
  -- the known arms into the fronts of sealed blocks
  pub joins : Edges
  -- the name that an item assigns to a variable
  pub assigned : Place → ℕ → Option ℕ
  -- where each name is given, and how
  pub naming : ℕ → Naming
  -- definitions, arguments and aliases of the values
  pub function : Function
  -- the value recorded for a variable in a block
  pub recorded : ℕ → ℕ → Option ℕ
  -- the value that answers each name
  pub answer : ℕ → ℕ

-- a block's front, and its last place so far
abbrev pub front : ℕ → Place
front block = inside block 0

abbrev pub last_place : Blocks → ℕ → Place
last_place blocks block = inside block (blocks.count block)

-- a front is sealed as its block is; an item's place is, once the item is written
abbrev pub sealed_at : (ℕ → ℕ) → (ℕ → Bool) → Place → Bool
sealed_at count sealed start = false
sealed_at count sealed (inside block zero) = sealed block
sealed_at count sealed (inside block (suc k)) = nat_lt k (count block)

-- whether the arm is known, by its target
abbrev pub arm_into : (ℕ → ℕ) → (ℕ → Bool) → Edges → Arm → Place → Bool
arm_into count sealed joins arm start = false
arm_into count sealed joins arm (inside block zero) = sealed block && joins arm
arm_into count sealed joins arm (inside block (suc k)) =
    nat_lt k (count block) && (same_place arm.source (inside block k) && (arm.edge == 0))

-- a block's records, at its last place
abbrev pub recorded_at : (ℕ → ℕ) → (ℕ → ℕ → Option ℕ) → Place → ℕ → Option ℕ
recorded_at count recorded start x = None
recorded_at count recorded (inside block k) x = cond (k == count block) (recorded block x) None

-- the state that the tables stand for
abbrev pub state_of : Blocks → State
state_of blocks = record {
  program = record {
    is_sealed = λ place. sealed_at blocks.count blocks.sealed place;
    arms = λ arm. arm_into blocks.count blocks.sealed blocks.joins arm arm.target;
    assigned = blocks.assigned;
    naming = blocks.naming;
  };
  function = blocks.function;
  recorded = λ place x. recorded_at blocks.count blocks.recorded place x;
  answer = blocks.answer;
}

-- the first tables
abbrev pub no_blocks : Blocks
no_blocks = record {
  count = λ block. 0;
  sealed = λ block. false;
  joins = λ arm. false;
  assigned = λ place x. None;
  naming = λ n. record { home = start; origin = fresh };
  function = record {
    definition = λ v. record { home = start; kind = Kind.unborn };
    argument = λ v arm. 0;
    resolve = λ v. v;
  };
  recorded = λ block x. None;
  answer = λ n. 0;
}

-- SEAL a block: these are the arms into its front.
abbrev pub with_block_sealed : Blocks → ℕ → Edges → Blocks
with_block_sealed blocks block into = record blocks {
  sealed = updated blocks.sealed block true;
  joins = λ arm. cond (same_place arm.target (front block)) (into arm) (blocks.joins arm);
}

-- the fronts of chosen blocks
abbrev pub chosen_front : (ℕ → Bool) → Place → Bool
chosen_front chosen start = false
chosen_front chosen (inside block zero) = chosen block
chosen_front chosen (inside block (suc k)) = false

-- SEAL several blocks at once: these are the arms into their fronts. It serves the blocks that were sealed before
-- the entry was known.
abbrev pub with_blocks_sealed : Blocks → (ℕ → Bool) → Edges → Blocks
with_blocks_sealed blocks chosen into = record blocks {
  sealed = λ block. cond (chosen block) true (blocks.sealed block);
  joins = λ arm. cond (chosen_front chosen arm.target) (into arm) (blocks.joins arm);
}

-- GO ON to the next place of a block: an item is written, and the block's records hold there.
abbrev pub with_item : Blocks → ℕ → Blocks
with_item blocks block = record blocks { count = updated blocks.count block (suc (blocks.count block)) }

-- the next item assigns nothing so far
pub record CanAppend (blocks : Blocks) (block : ℕ) : Type 0 where
  pub unassigned : (x : ℕ) → blocks.assigned (inside block (suc (blocks.count block))) x ≡ None

-- GIVE a name at a place, by a value born there.
abbrev pub with_born : Blocks → Place → ℕ → ℕ → Blocks
with_born blocks place n v = record blocks {
  naming = updated blocks.naming n (record { home = place; origin = fresh });
  function = record blocks.function {
    definition = updated blocks.function.definition v (record { home = place; kind = born n });
  };
  answer = updated blocks.answer n v;
}

-- a block's record of the variable resolves as this value does
pub record Knows (blocks : Blocks) (block x v : ℕ) : Type 0 where
  pub value : ℕ
  pub is_recorded : blocks.recorded block x ≡ Some value
  pub resolves : blocks.function.resolve value ≡ blocks.function.resolve v

-- USE a variable at a block's last place: the record answers, or what resolves as it does.
abbrev pub with_read : Blocks → ℕ → ℕ → ℕ → ℕ → Blocks
with_read blocks block n x v = record blocks {
  naming = updated blocks.naming n (record { home = last_place blocks block; origin = reads x });
  answer = updated blocks.answer n v;
}

pub record CanRead (blocks : Blocks) (block n x v : ℕ) : Type 0 where
  pub name : IsNewName (state_of blocks) n
  pub unassigned : blocks.assigned (last_place blocks block) x ≡ None
  pub known : Knows blocks block x v

-- records with one changed
abbrev pub with_record : Blocks → ℕ → ℕ → ℕ → Blocks
with_record blocks block x v = record blocks {
  recorded = updated blocks.recorded block (updated (blocks.recorded block) x (Some v));
}

-- ASSIGN a name to a variable at a block's last place: the name's answer is recorded.
abbrev pub with_write : Blocks → ℕ → ℕ → ℕ → Blocks
with_write blocks block x n =
    record (with_record blocks block x (blocks.answer n)) {
      assigned =
          updated_at blocks.assigned (last_place blocks block)
          (updated (blocks.assigned (last_place blocks block)) x (Some n));
    }

pub record CanWrite (blocks : Blocks) (block x n : ℕ) : Type 0 where
  pub unassigned : blocks.assigned (last_place blocks block) x ≡ None
  pub is_given : (blocks.naming n).home ≢ start
  pub open_block : (arm : Arm) → blocks.joins arm ≡ true → arm.source ≢ last_place blocks block

-- no item of the block assigns the variable
pub record AssignsNot (blocks : Blocks) (block x : ℕ) : Type 0 where
  pub none : (k : ℕ) → (k < suc (blocks.count block)) → blocks.assigned (inside block k) x ≡ None

-- an arm leaves the last place of a block whose record of the variable resolves to this value
pub record Carries (blocks : Blocks) (arm : Arm) (x v : ℕ) : Type 0 where
  pub from : ℕ
  pub leaves : arm.source ≡ last_place blocks from
  pub value : ℕ
  pub is_recorded : blocks.recorded from x ≡ Some value
  pub resolves : blocks.function.resolve value ≡ v

-- somewhere a record of the variable resolves as this value does
pub record KnownSomewhere (blocks : Blocks) (x v : ℕ) : Type 0 where
  pub block : ℕ
  pub known : Knows blocks block x v

-- COPY a record into a block that doesn't assign the variable, from where all arms come from. Where no arm comes in
-- the record is still one of the variable.
pub record CanCopy (blocks : Blocks) (block x v : ℕ) : Type 0 where
  pub is_sealed : blocks.sealed block ≡ true
  pub assigns_not : AssignsNot blocks block x
  pub along :
      (arm : Arm) → blocks.joins arm ≡ true → arm.target ≡ front block →
      Carries blocks arm x (blocks.function.resolve v)
  pub somewhere : KnownSomewhere blocks x v

-- COPY along a chain of blocks, each of which is sealed, doesn't assign the variable, and is joined from the block
-- before alone.
pub record ComesFrom (blocks : Blocks) (x from block : ℕ) : Type 0 where
  pub is_sealed : blocks.sealed block ≡ true
  pub assigns_not : AssignsNot blocks block x
  pub single :
      (arm : Arm) → blocks.joins arm ≡ true → arm.target ≡ front block → arm.source ≡ last_place blocks from

abbrev pub IsChain : Blocks → ℕ → ℕ → List ℕ → Type 0
IsChain blocks x from [] = Unit {0}
IsChain blocks x from (block ∷ chain) = ComesFrom blocks x from block × IsChain blocks x block chain

abbrev pub with_chain : Blocks → ℕ → ℕ → List ℕ → Blocks
with_chain blocks x v [] = blocks
with_chain blocks x v (block ∷ chain) = with_chain (with_record blocks block x v) x v chain

-- WAIT: a parameter is added to a block that doesn't assign the variable, and recorded there.
abbrev pub with_parameter : Blocks → ℕ → ℕ → ℕ → Blocks
with_parameter blocks block x v =
    record (with_record blocks block x v) {
      function = record blocks.function {
        definition = updated blocks.function.definition v (record { home = front block; kind = pending x });
      };
    }

pub record CanAddParameter (blocks : Blocks) (block x v : ℕ) : Type 0 where
  pub assigns_not : AssignsNot blocks block x
  pub new_value : (blocks.function.definition v).home ≡ start
  pub no_alias : blocks.function.resolve v ≡ v

-- a parameter of a sealed block waits for arguments of this variable
pub record WaitsIn (blocks : Blocks) (block x v : ℕ) : Type 0 where
  pub is_parameter : blocks.function.definition v ≡ record { home = front block; kind = pending x }
  pub is_sealed : blocks.sealed block ≡ true

-- FILL: the parameter, which waits for this variable, gets an argument on each arm.
abbrev pub with_filled : Blocks → ℕ → ℕ → (Arm → ℕ) → Blocks
with_filled blocks x v given = record blocks {
  function = record blocks.function {
    definition =
        updated blocks.function.definition v
        (record { home = (blocks.function.definition v).home; kind = complete x });
    argument = updated blocks.function.argument v given;
  };
}

pub record CanFillIn (blocks : Blocks) (block x v : ℕ) (given : Arm → ℕ) : Type 0 where
  pub waits : WaitsIn blocks block x v
  pub along :
      (arm : Arm) → blocks.joins arm ≡ true → arm.target ≡ front block →
      Carries blocks arm x (blocks.function.resolve (given arm))

-- DROP: the parameter becomes an alias of the one other value that comes to it.
abbrev pub with_dropped : Blocks → ℕ → ℕ → Blocks
with_dropped blocks v target = record blocks {
  function = record blocks.function { resolve = aliased blocks.function.resolve v target };
}

pub record CanDropIn (blocks : Blocks) (block x v target : ℕ) : Type 0 where
  pub waits : WaitsIn blocks block x v
  pub no_alias : blocks.function.resolve target ≡ target
  pub along :
      (arm : Arm) → blocks.joins arm ≡ true → arm.target ≡ front block →
      Carries blocks arm x target ⊎ Carries blocks arm x v
  pub somewhere : KnownSomewhere blocks x target

-- ZERO: a variable's zero is put at a block's front.
abbrev pub with_zero_in : Blocks → ℕ → ℕ → ℕ → Blocks
with_zero_in blocks block x z = record blocks {
  function = record blocks.function {
    definition = updated blocks.function.definition z (record { home = front block; kind = zero_of x });
  };
}

-- UNDEFINED: nothing comes to the parameter but itself, and it becomes an alias of a zero at its front.
pub record CanUndefineIn (blocks : Blocks) (block x v z : ℕ) : Type 0 where
  pub waits : WaitsIn blocks block x v
  pub no_alias : blocks.function.resolve z ≡ z
  pub is_zero : blocks.function.definition z ≡ record { home = front block; kind = zero_of x }
  pub along :
      (arm : Arm) → blocks.joins arm ≡ true → arm.target ≡ front block →
      (arm.source ≡ start) ⊎ Carries blocks arm x v

-- RESTATE: tables that say the same of all that a path can see. Values that are aliases may be defined in any way,
-- and
-- arguments on arms that aren't known may be anything; so may arms into blocks that aren't sealed.
pub record SaysTheSame (blocks blocks' : Blocks) : Type 0 where
  pub count : (b : ℕ) → blocks'.count b ≡ blocks.count b
  pub sealed : (b : ℕ) → blocks'.sealed b ≡ blocks.sealed b
  pub joins :
      (b : ℕ) (arm : Arm) → blocks.sealed b ≡ true → arm.target ≡ front b → blocks'.joins arm ≡ blocks.joins arm
  pub assigned : (place : Place) (x : ℕ) → blocks'.assigned place x ≡ blocks.assigned place x
  pub naming : (n : ℕ) → blocks'.naming n ≡ blocks.naming n
  pub resolve : (v : ℕ) → blocks'.function.resolve v ≡ blocks.function.resolve v
  pub definition :
      (u : ℕ) →
      blocks'.function.definition (blocks.function.resolve u) ≡
      blocks.function.definition (blocks.function.resolve u)
  pub argument :
      {x : ℕ} (u b : ℕ) (arm : Arm) → (blocks.function.definition (blocks.function.resolve u)).kind ≡ complete x →
      home_of blocks.function u ≡ front b → arm.target ≡ front b → blocks.sealed b ≡ true →
      blocks.joins arm ≡ true →
      blocks.function.resolve (blocks'.function.argument (blocks.function.resolve u) arm) ≡
      blocks.function.resolve (blocks.function.argument (blocks.function.resolve u) arm)
  pub recorded : (b x : ℕ) → blocks'.recorded b x ≡ blocks.recorded b x
  pub answer : (n : ℕ) → blocks'.answer n ≡ blocks.answer n

-- complete parameters stand at fronts of sealed blocks
pub record CompleteAtFronts (blocks : Blocks) : Type 0 where
  pub at_front :
      {x : ℕ} (u : ℕ) → (blocks.function.definition (blocks.function.resolve u)).kind ≡ complete x →
      (b : ℕ) × (home_of blocks.function u ≡ front b) × (blocks.sealed b ≡ true)

-- ALIASES as links. A table of links resolves as `resolve` does where an unlinked value is its own end, a linked
-- one
-- has the end of what it links to, and an end is unlinked.
pub record Resolves (link : ℕ → Option ℕ) (resolve : ℕ → ℕ) : Type 0 where
  pub at_end : (v : ℕ) → link v ≡ None → resolve v ≡ v
  pub along_link : (v w : ℕ) → link v ≡ Some w → resolve v ≡ resolve w
  pub ends_unlinked : (v : ℕ) → link (resolve v) ≡ None

-- no chain of links runs in a circle: a rank falls along each
pub record FallsAlong (link : ℕ → Option ℕ) (rank : ℕ → ℕ) : Type 0 where
  pub falls : (v w : ℕ) → link v ≡ Some w → rank w < rank v

-- INSTRUCTIONS AND ITEMS. What an instruction of the function is to the program, a map that comes with the list of
-- calls: an item of a block, or part of a zero put at a block's front.
pub data Role : Type 0 where
  item_of : (block index : ℕ) → Role
  zero_in : (block variable : ℕ) → Role

-- how the function's own tables say that a value is defined
pub data Birth : Type 0 where
  nowhere : Birth
  result_of : (instruction : ℕ) → Birth
  parameter_of : (block : ℕ) → Birth

-- the home of an instruction
abbrev pub place_of : Role → Place
place_of (item_of block index) = inside block (suc index)
place_of (zero_in block x) = front block

-- the home of a value, by its birth and the map of instructions
abbrev pub home_by : (ℕ → Role) → Birth → Place
home_by roles nowhere = start
home_by roles (result_of instruction) = place_of (roles instruction)
home_by roles (parameter_of block) = front block
