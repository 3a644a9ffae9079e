-- What a list of calls says of the tables of paths: the program's side. Blocks and values are known by the numbers
-- that the builder answered, names by a number of their own. Source: own.
use Rattle.std.specs.Prelude.{◌≡◌, ◌≢◌, ℕ, suc, ◌+◌, ◌*◌, ◌<◌, ◌==◌, ◌⊎◌, if◌then◌else◌, List, [], length, map, Option, Some, None, slice_get, Contains}
use Rattle.clif_paths.specs.Places.{Place, inside, start}
use Rattle.clif_paths.specs.State.{Origin, fresh, reads}
use Rattle.clif_paths.specs.Blocks.{Blocks, front}
use Rattle.clif_meaning.specs.Name.{Name}
use Rattle.clif_meaning.specs.Request.{AnsweredCall, script_of, number_of}
use Rattle.clif_meaning.specs.Program.{Program, Item, Instruct, Use, Assign, program_of}
use Rattle.clif_meaning.specs.Ledger.{ledger_after}
use Rattle.clif_meaning.specs.WellPlaced.{item_gives}

-- the number of a name among names: no two names have one number
abbrev pub code : Name → ℕ
code name = (name.place + name.index) * (name.place + name.index) + name.place

abbrev pub number_or_none : Option ℕ → ℕ
number_or_none None = 0
number_or_none (Some number) = number

-- the number that answered a name
abbrev pub answered : List AnsweredCall → Name → ℕ
answered calls name = number_or_none (number_of calls name)

abbrev pub program_so_far : List AnsweredCall → Program
program_so_far calls = program_of (script_of calls)

-- the name of the block with this number: blocks are numbered in the order of their creation
abbrev pub block_name : List AnsweredCall → ℕ → Option Name
block_name calls block = slice_get (map (λ state. state.block) (ledger_after (script_of calls)).blocks) block

-- the item of a block, by the block's name
abbrev pub item_at : List AnsweredCall → Name → ℕ → Option Item
item_at calls block index = slice_get ((program_so_far calls).items block) index

-- the name that an item assigns to a variable, by its number
abbrev pub assigned_by : Option Item → ℕ → Option ℕ
assigned_by None x = None
assigned_by (Some (Instruct place instruction results)) x = None
assigned_by (Some (Use variable name)) x = None
assigned_by (Some (Assign variable name)) x = if x == variable then Some (code name) else None

-- the parameters of a block that the caller made, by the block's name
abbrev pub callers_parameters : List AnsweredCall → Option Name → List Name
callers_parameters calls None = []
callers_parameters calls (Some block) = (program_so_far calls).parameters block

-- how an item gives a name
abbrev pub origin_of : Item → Origin
origin_of (Instruct place instruction results) = fresh
origin_of (Use variable name) = reads variable
origin_of (Assign variable name) = fresh

-- the number is that of a name that an item of a block gives
pub record IsGiven (calls : List AnsweredCall) (blocks : Blocks) (n : ℕ) : Type 0 where
  pub name : Name
  pub block : ℕ
  pub block_is : Name
  pub index : ℕ
  pub item : Item
  pub coded : code name ≡ n
  pub earlier : name.place < length calls
  pub named : block_name calls block ≡ Some block_is
  pub stands : item_at calls block_is index ≡ Some item
  pub gives : Contains (item_gives (Some item)) name
  pub naming : blocks.naming n ≡ record { home = inside block (suc index); origin = origin_of item }

-- the number is that of a parameter of the caller's, which is given as its block is entered
pub record IsParameter (calls : List AnsweredCall) (blocks : Blocks) (n : ℕ) : Type 0 where
  pub name : Name
  pub block : ℕ
  pub block_is : Name
  pub coded : code name ≡ n
  pub earlier : name.place < length calls
  pub named : block_name calls block ≡ Some block_is
  pub stands : Contains ((program_so_far calls).parameters block_is) name
  pub naming : blocks.naming n ≡ record { home = front block; origin = fresh }

-- The program's side of the tables is what the calls say.
pub record IsProgramOf (calls : List AnsweredCall) (blocks : Blocks) : Type 0 where
  -- a block has as many items as the program's; a block that isn't there has none
  pub counts : (block : ℕ) (name : Name) → block_name calls block ≡ Some name → blocks.count block ≡ length ((program_so_far calls).items name)
  pub no_count : (block : ℕ) → block_name calls block ≡ None → blocks.count block ≡ 0
  -- an item that assigns does so at its place, and nothing else is assigned
  pub assigned : (block index : ℕ) (name : Name) → block_name calls block ≡ Some name
      → (x : ℕ) → blocks.assigned (inside block (suc index)) x ≡ assigned_by (item_at calls name index) x
  pub front_assigns_nothing : (block x : ℕ) → blocks.assigned (front block) x ≡ None
  pub start_assigns_nothing : (x : ℕ) → blocks.assigned start x ≡ None
  pub elsewhere_nothing : (block index x : ℕ) → block_name calls block ≡ None → blocks.assigned (inside block index) x ≡ None
  -- a name is given at the place of its item, and its answer is the number that the builder answered
  pub given : (block index : ℕ) (name : Name) (item : Item) → block_name calls block ≡ Some name → item_at calls name index ≡ Some item
      → (x : Name) → Contains (item_gives (Some item)) x
      → (blocks.naming (code x) ≡ record { home = inside block (suc index); origin = origin_of item }) × (blocks.answer (code x) ≡ answered calls x)
  -- a parameter of the caller's is given at the front of its block, and answered by the number that the builder answered
  pub parameter : (block : ℕ) (name : Name) → block_name calls block ≡ Some name → (x : Name) → Contains ((program_so_far calls).parameters name) x
      → (blocks.naming (code x) ≡ record { home = front block; origin = fresh }) × (blocks.answer (code x) ≡ answered calls x)
  pub given_only : (n : ℕ) → (blocks.naming n).home ≢ start → IsGiven calls blocks n ⊎ IsParameter calls blocks n
  -- what is assigned was answered before; blocks have different names, which were answered before, and only blocks have
  -- items and parameters
  pub assigned_earlier : (place : Place) (x n : ℕ) → blocks.assigned place x ≡ Some n → (name : Name) × (code name ≡ n) × (name.place < length calls)
  pub distinct : (b c : ℕ) (name : Name) → block_name calls b ≡ Some name → block_name calls c ≡ Some name → b ≡ c
  pub blocks_earlier : (block : ℕ) (name : Name) → block_name calls block ≡ Some name → name.place < length calls
  pub only_blocks : (name : Name) → ((program_so_far calls).items name ≡ []) ⊎ ((block : ℕ) × (block_name calls block ≡ Some name))
  pub only_parameters : (name : Name) → ((program_so_far calls).parameters name ≡ []) ⊎ ((block : ℕ) × (block_name calls block ≡ Some name))
