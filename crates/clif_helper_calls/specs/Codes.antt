-- The code of copies, fills and comparisons that are made by loads and stores: pieces of equal size, one behind another. All is loaded
-- before anything is stored. From the documentation of Cranelift's `emit_small_memory_copy`, `emit_small_memset` and
-- `emit_small_memory_compare`.
use Rattle.std.specs.Prelude.{◌≢◌, ◌&&◌, ◌+◌, ◌*◌, ℕ, suc, ℤ, pos, nat_le, if◌then◌else◌, Bool, true, List, [], ◌∷◌, ◌++◌, length, replicate}
use Rattle.std.specs.List.{AllByRecursion}
use Rattle.clif_types.specs.MemFlags.{MemFlagsShape}
use Rattle.clif_types.specs.declared.types.«Type».{«Type»}
use Rattle.clif_access_plans.specs.Plans.{is_aligned_load}
use Rattle.clif_meaning.specs.ByteOperation.{CompareShape, CopyShape, FillShape, access_size}
use Rattle.clif_meaning.specs.Instruction.{Compare, Iconst, Instruction, Load, Operation, Store}
use Rattle.clif_meaning.specs.Name.{Name}
use Rattle.clif_meaning.specs.Program.{Item, Instruct}
use Rattle.clif_expansion.specs.Constants.{computing}

-- an instruction without edges
abbrev pub doing : Operation → «Type» → List Name → Instruction Name Name
doing operation ty operands = record { operation = operation; controlling = ty; operands = operands; contexts = []; edges = [] }

-- flags of accesses, which say that each is aligned where the alignments reach its size
abbrev pub flags_where : MemFlagsShape → (reaches : Bool) → MemFlagsShape
flags_where flags reaches = if reaches then record flags { aligned = true } else flags

abbrev pub copy_flags : CopyShape → MemFlagsShape
copy_flags copy = flags_where copy.flags (nat_le (access_size copy.size) copy.target_alignment && nat_le (access_size copy.size) copy.source_alignment)

abbrev pub fill_flags : FillShape → MemFlagsShape
fill_flags fill = flags_where fill.flags (nat_le (access_size fill.size) fill.alignment)

-- loads into these names, from the piece with this number on
abbrev pub load_pieces : MemFlagsShape → «Type» → (bytes : ℕ) (source : Name) (place number : ℕ) → List Name → List Item
load_pieces flags ty bytes source place number [] = []
load_pieces flags ty bytes source place number (name ∷ names) =
    Instruct place (doing (Load flags (pos (number * bytes))) ty (source ∷ [])) (name ∷ []) ∷ load_pieces flags ty bytes source (suc place) (suc number) names

-- stores of these names
abbrev pub store_pieces : MemFlagsShape → «Type» → (bytes : ℕ) (target : Name) (place number : ℕ) → List Name → List Item
store_pieces flags ty bytes target place number [] = []
store_pieces flags ty bytes target place number (name ∷ names) =
    Instruct place (doing (Store flags (pos (number * bytes))) ty (name ∷ target ∷ [])) [] ∷ store_pieces flags ty bytes target (suc place) (suc number) names

-- a copy through these names
abbrev pub copy_code : MemFlagsShape → «Type» → (bytes : ℕ) (target source : Name) (place : ℕ) → List Name → List Item
copy_code flags ty bytes target source place names =
    load_pieces flags ty bytes source place 0 names ++ store_pieces flags ty bytes target (place + length names) 0 names

-- a fill with a constant, so many times
abbrev pub fill_code : MemFlagsShape → «Type» → (bytes : ℕ) (target : Name) (place : ℕ) (number : ℤ) (constant : Name) (count : ℕ) → List Item
fill_code flags ty bytes target place number constant count =
    Instruct place (computing (Iconst number) ty []) (constant ∷ []) ∷ store_pieces flags ty bytes target (suc place) 0 (replicate count constant)

-- a comparison of two loads; a load is said to be aligned as its flags say
abbrev pub load_at_start : MemFlagsShape → «Type» → (address : Name) (place : ℕ) (name : Name) → List Item
load_at_start flags ty address place name = Instruct place (doing (Load flags (pos 0)) ty (address ∷ [])) (name ∷ []) ∷ []

abbrev pub compare_code : CompareShape → «Type» → (left right : Name) (place : ℕ) (one two result : Name) → List Item
compare_code compare ty left right place one two result =
    load_at_start (flags_where compare.flags (is_aligned_load compare.condition compare.size compare.left_alignment)) ty left place one
    ++ (load_at_start (flags_where compare.flags (is_aligned_load compare.condition compare.size compare.right_alignment)) ty right (suc place) two
    ++ Instruct (suc (suc place)) (computing (Compare compare.condition) ty (one ∷ two ∷ [])) (result ∷ []) ∷ [])

-- no name occurs twice
abbrev pub AreDistinct : List Name → Type 0
AreDistinct [] = Unit {0}
AreDistinct (name ∷ names) = AllByRecursion (λ other. name ≢ other) names × AreDistinct names
