-- Construction as a list of moves on finite sheets, each with a test that computes. A list whose tests all pass is
-- a
-- worked example: what its tables denote is then known by the laws.
-- Source: own; the moves are the operations of Braun et al. 2013 on blocks.
use Rattle.std.specs.Prelude.{ℕ, suc, Bool, true, false, ◌==◌, ◌&&◌, ◌||◌, nat_lt, Option, None, Some, List, [], ◌∷◌, ◌++◌}
use Rattle.clif_paths.specs.Places.{Place, start, inside, same_place, Arm, Edges}
use Rattle.clif_paths.specs.State.{Kind, pending, zero_of}
use Rattle.clif_paths.specs.Blocks.{Blocks, no_blocks, front, last_place, with_block_sealed, with_item, with_born, with_read, with_record, with_write, with_parameter, with_filled, with_dropped, with_zero_in}

-- an assignment that was made
pub record Write : Type 0 where
  pub place : Place
  pub name : ℕ

-- tables, with lists of what their entries are
pub record Sheet : Type 0 where
  pub blocks : Blocks
  pub arms : List Arm
  pub writes : List Write
  pub values : List ℕ

abbrev pub blank : Sheet
blank = record { blocks = no_blocks; arms = []; writes = []; values = [] }

-- a move in a block
pub data Move : Type 0 where
  -- the block is sealed, with these arms
  seal_with : (block : ℕ) (arms : List Arm) → Move
  -- an item is written
  go_on : (block : ℕ) → Move
  -- a name is given at the last place, by a new value
  give_name : (block n v : ℕ) → Move
  -- a name reads a variable at the last place
  read_variable : (block n x v : ℕ) → Move
  -- a variable is assigned a name at the last place
  write_variable : (block x n : ℕ) → Move
  -- a record is copied from all predecessors
  copy_record : (block x v : ℕ) → Move
  -- a parameter that waits
  add_parameter : (block x v : ℕ) → Move
  -- its arguments
  fill_parameter : (block x v : ℕ) (given : Arm → ℕ) → Move
  -- it becomes an alias of what comes to it
  drop_parameter : (block x v target : ℕ) → Move
  -- a zero
  add_zero : (block x z : ℕ) → Move
  -- it becomes an alias of the zero
  undefine_parameter : (block x v z : ℕ) → Move

-- TESTS -----------------------------------------------------------------------------------------------------------

unfoldable pub same_arm : Arm → Arm → Bool
same_arm a b = same_place a.source b.source && (same_place a.target b.target && (a.edge == b.edge))

-- the arms of a list, as a set
unfoldable pub listed : List Arm → Edges
listed [] arm = false
listed (a ∷ arms) arm = same_arm arm a || listed arms arm

-- each arm of a list passes
unfoldable pub each_arm : (Arm → Bool) → List Arm → Bool
each_arm test [] = true
each_arm test (arm ∷ arms) = test arm && each_arm test arms

-- some arm of a list passes
unfoldable pub some_arm : (Arm → Bool) → List Arm → Bool
some_arm test [] = false
some_arm test (arm ∷ arms) = test arm || some_arm test arms

-- each write of a list passes
unfoldable pub each_write : (Write → Bool) → List Write → Bool
each_write test [] = true
each_write test (write ∷ writes) = test write && each_write test writes

unfoldable pub differs : Bool → Bool
differs true = false
differs false = true

unfoldable pub is_none_at : Option ℕ → Bool
is_none_at None = true
is_none_at (Some n) = false

unfoldable pub says : Option ℕ → ℕ → Bool
says None v = false
says (Some w) v = w == v

unfoldable pub is_pending : Kind → ℕ → Bool
is_pending (pending y) x = y == x
is_pending _ x = false

unfoldable pub is_zero : Kind → ℕ → Bool
is_zero (zero_of y) x = y == x
is_zero _ x = false

-- the variable is assigned at none of the block's first places
unfoldable pub none_below : Blocks → ℕ → ℕ → ℕ → Bool
none_below blocks block x ℕ.zero = true
none_below blocks block x (suc k) = is_none_at (blocks.assigned (inside block k) x) && none_below blocks block x k

unfoldable pub assigns_not : Blocks → ℕ → ℕ → Bool
assigns_not blocks block x = none_below blocks block x (suc (blocks.count block))

-- a record that is there, and resolves to this value
unfoldable pub resolves_to : Blocks → Option ℕ → ℕ → Bool
resolves_to blocks None v = false
resolves_to blocks (Some w) v = blocks.function.resolve w == v

-- the place is the last of its block, and the block's record of the variable resolves to this value
unfoldable pub carries_from : Blocks → Place → ℕ → ℕ → Bool
carries_from blocks start x v = false
carries_from blocks (inside block k) x v = (k == blocks.count block) &&
    resolves_to blocks (blocks.recorded block x) v

-- each known arm into the block passes
unfoldable pub each_into : Sheet → ℕ → (Arm → Bool) → Bool
each_into sheet block test = each_arm (λ arm. differs (same_place arm.target (front block)) || test arm) sheet.arms

unfoldable pub is_new_name : Sheet → ℕ → Bool
is_new_name sheet n = same_place (sheet.blocks.naming n).home start &&
    each_write (λ w. differs (w.name == n)) sheet.writes

unfoldable pub is_new_value : Sheet → ℕ → Bool
is_new_value sheet v = same_place (sheet.blocks.function.definition v).home start &&
    (sheet.blocks.function.resolve v == v)

unfoldable pub waits_in : Sheet → ℕ → ℕ → ℕ → Bool
waits_in sheet block x v =
    same_place (sheet.blocks.function.definition v).home (front block) &&
    (is_pending (sheet.blocks.function.definition v).kind x && sheet.blocks.sealed block)

-- whether the move may be made
unfoldable pub allows : Sheet → Move → Bool
allows sheet (seal_with block arms) = differs (sheet.blocks.sealed block)
allows sheet (go_on block) =
    each_write (λ w. differs (same_place w.place (inside block (suc (sheet.blocks.count block))))) sheet.writes
allows sheet (give_name block n v) = is_new_name sheet n && is_new_value sheet v
allows sheet (read_variable block n x v) =
    is_new_name sheet n &&
    (is_none_at (sheet.blocks.assigned (last_place sheet.blocks block) x) && says (sheet.blocks.recorded block x) v)
allows sheet (write_variable block x n) =
    is_none_at (sheet.blocks.assigned (last_place sheet.blocks block) x) &&
    (differs (same_place (sheet.blocks.naming n).home start) &&
    each_arm (λ arm. differs (same_place arm.source (last_place sheet.blocks block))) sheet.arms)
allows sheet (copy_record block x v) =
    sheet.blocks.sealed block &&
    (assigns_not sheet.blocks block x &&
    (each_into sheet block (λ arm. carries_from sheet.blocks arm.source x (sheet.blocks.function.resolve v)) &&
    some_arm (λ arm. carries_from sheet.blocks arm.source x (sheet.blocks.function.resolve v)) sheet.arms))
allows sheet (add_parameter block x v) = assigns_not sheet.blocks block x && is_new_value sheet v
allows sheet (fill_parameter block x v given) =
    waits_in sheet block x v &&
    each_into sheet block (λ arm. carries_from sheet.blocks arm.source x (sheet.blocks.function.resolve (given arm)))
allows sheet (drop_parameter block x v target) =
    waits_in sheet block x v &&
    ((sheet.blocks.function.resolve target == target) &&
    (each_into sheet block
    (λ arm. carries_from sheet.blocks arm.source x target || carries_from sheet.blocks arm.source x v) &&
    some_arm (λ arm. carries_from sheet.blocks arm.source x target) sheet.arms))
allows sheet (add_zero block x z) = is_new_value sheet z
allows sheet (undefine_parameter block x v z) =
    waits_in sheet block x v &&
    ((sheet.blocks.function.resolve z == z) &&
    (same_place (sheet.blocks.function.definition z).home (front block) &&
    (is_zero (sheet.blocks.function.definition z).kind x &&
    each_into sheet block (λ arm. same_place arm.source start || carries_from sheet.blocks arm.source x v))))

-- the sheet after a move
unfoldable pub after : Sheet → Move → Sheet
after sheet (seal_with block arms) =
    record sheet { blocks = with_block_sealed sheet.blocks block (listed arms); arms = arms ++ sheet.arms }
after sheet (go_on block) = record sheet { blocks = with_item sheet.blocks block }
after sheet (give_name block n v) =
    record sheet { blocks = with_born sheet.blocks (last_place sheet.blocks block) n v; values = v ∷ sheet.values }
after sheet (read_variable block n x v) = record sheet { blocks = with_read sheet.blocks block n x v }
after sheet (write_variable block x n) =
    record sheet {
      blocks = with_write sheet.blocks block x n;
      writes = record { place = last_place sheet.blocks block; name = n } ∷ sheet.writes;
    }
after sheet (copy_record block x v) = record sheet { blocks = with_record sheet.blocks block x v }
after sheet (add_parameter block x v) =
    record sheet { blocks = with_parameter sheet.blocks block x v; values = v ∷ sheet.values }
after sheet (fill_parameter block x v given) = record sheet { blocks = with_filled sheet.blocks x v given }
after sheet (drop_parameter block x v target) = record sheet { blocks = with_dropped sheet.blocks v target }
after sheet (add_zero block x z) =
    record sheet { blocks = with_zero_in sheet.blocks block x z; values = z ∷ sheet.values }
after sheet (undefine_parameter block x v z) = record sheet { blocks = with_dropped sheet.blocks v z }

-- the sheet after the moves, and whether each may be made in its turn
unfoldable pub after_all : Sheet → List Move → Sheet
after_all sheet [] = sheet
after_all sheet (move ∷ moves) = after_all (after sheet move) moves

unfoldable pub allows_all : Sheet → List Move → Bool
allows_all sheet [] = true
allows_all sheet (move ∷ moves) = allows sheet move && allows_all (after sheet move) moves

-- whether the labels agree on what a move assigns or reads, and on what each does
unfoldable pub agrees : (of_variable of_name : ℕ → ℕ) → Move → Bool
agrees of_variable of_name (read_variable block n x v) = of_name n == of_variable x
agrees of_variable of_name (write_variable block x n) = of_name n == of_variable x
agrees of_variable of_name _ = true

unfoldable pub agree_all : (of_variable of_name : ℕ → ℕ) → List Move → Bool
agree_all of_variable of_name [] = true
agree_all of_variable of_name (move ∷ moves) = agrees of_variable of_name move && agree_all of_variable of_name moves

-- ASSIGNED NAMES ARE GIVEN BEFORE ---------------------------------------------------------------------------------

-- the place is in the list
unfoldable pub in_places : List Place → Place → Bool
in_places [] place = false
in_places (p ∷ places) place = same_place place p || in_places places place

-- each place of a list passes
unfoldable pub each_place : (Place → Bool) → List Place → Bool
each_place test [] = true
each_place test (p ∷ places) = test p && each_place test places

-- from the place the next one of its block is the home, or in the list
unfoldable pub next_within : Blocks → Place → List Place → Place → Bool
next_within blocks home places start = true
next_within blocks home places (inside block k) =
    differs (nat_lt k (blocks.count block)) ||
    (same_place (inside block (suc k)) home || in_places places (inside block (suc k)))

-- The places that are reached from the start without a visit of the home are all in the list.
unfoldable pub holds_all_before : Sheet → Place → List Place → Bool
holds_all_before sheet home places =
    in_places places start &&
    (each_place (next_within sheet.blocks home places) places &&
    each_arm
    (λ arm. differs (in_places places arm.source) || (same_place arm.target home || in_places places arm.target))
    sheet.arms)

-- a write, with the places that are reached without a visit of the written name's home
pub record Witness : Type 0 where
  pub name : ℕ
  pub before : List Place

-- some witness shows that the written name is given before the write, and the write's place is another one
unfoldable pub shown_by : Sheet → List Witness → Write → Bool
shown_by sheet [] write = false
shown_by sheet (witness ∷ witnesses) write =
    ((witness.name == write.name) &&
    (holds_all_before sheet (sheet.blocks.naming write.name).home witness.before &&
    (differs (in_places witness.before write.place) &&
    differs (same_place (sheet.blocks.naming write.name).home write.place)))) ||
    shown_by sheet witnesses write

-- FINISHED --------------------------------------------------------------------------------------------------------

unfoldable pub is_settled : Kind → Bool
is_settled (pending x) = false
is_settled _ = true

-- each value of a list is an alias, or does not wait
unfoldable pub each_settled : Blocks → List ℕ → Bool
each_settled blocks [] = true
each_settled blocks (v ∷ values) =
    (differs (blocks.function.resolve v == v) || is_settled (blocks.function.definition v).kind) &&
    each_settled blocks values

-- no parameter waits, and each assigned name is given before
unfoldable pub is_finished : Sheet → List Witness → Bool
is_finished sheet witnesses = each_settled sheet.blocks sheet.values &&
    each_write (shown_by sheet witnesses) sheet.writes
