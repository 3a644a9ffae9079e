-- Comparisons of two loads are performed.
use Rattle.std.proofs.Common.{◌≡◌, ◌+◌, ◌*◌, ◌/◌, ◌%◌, ◌^◌, ◌≤◌, ◌&&◌, ◌==◌, ℕ, zero, suc, Bool, true, false, if◌then◌else◌, List, [], ◌∷◌, ◌++◌, length, refl, sym, ◌∙◌, ap, ap₂, subst, arith}
use Rattle.std.specs.Prelude.{pos, IsTrue}
use Rattle.std.specs.List.{AllByRecursion}
use Rattle.std.proofs.Math.Nat.{zero-mul}
use Rattle.std.proofs.lemmas.Bool.{and_parts, eqb-true}
use Rattle.std.proofs.lemmas.Nat.{pow_pos}
use Rattle.clif_types.specs.MemFlags.{MemFlagsShape}
use Rattle.clif_types.specs.Types.{bits_of, bytes_of}
use Rattle.clif_types.specs.declared.condcodes.IntCC.{IntCC}
use Rattle.clif_types.specs.declared.condcodes.IntCC.TheVariants as cc
use Rattle.clif_types.specs.declared.types.«Type».{«Type»}
use Rattle.clif_meaning.specs.Access.{Accessible, Aligned, Claim, Holds, claims_if, promised_claims}
use Rattle.clif_meaning.specs.Bits.{AreBytes, Bits, value_of_bytes}
use Rattle.clif_meaning.specs.ByteOperation.{CompareBytes, CompareShape, is_by_loads, is_unsigned, order_meets, tells_equality}
use Rattle.clif_meaning.specs.Instruction.{Bytes, Compare, Load}
use Rattle.clif_meaning.specs.Library.{bytes_at}
use Rattle.clif_meaning.specs.Memory.{Memory, Range, byte_order, bytes_from, bytes_in, lies_in}
use Rattle.clif_meaning.specs.Name.{Name, same_name}
use Rattle.clif_meaning.specs.Outcome.{Gives, compares}
use Rattle.clif_meaning.specs.Program.{Item, Instruct}
use Rattle.clif_meaning.specs.Store.{assigned}
use Rattle.clif_meaning.specs.World.{World}
use Rattle.clif_meaning.proofs.LibraryCalls.{claimed_accessible}
use Rattle.clif_byte_laws.specs.Pieces.{HoldsBytes}
use Rattle.clif_byte_laws.proofs.Compared.{comparisons_agree}
use Rattle.clif_access_plans.specs.Plans.{is_aligned_load}
use Rattle.clif_expansion.specs.Code.{IsSound, NameTypes, PerformsIn}
use Rattle.clif_expansion.specs.Constants.{computing}
use Rattle.clif_expansion.specs.Line.{Contents, RunsTo}
use Rattle.clif_expansion.specs.Reading.{Agree, Reading}
use Rattle.clif_expansion.specs.ScriptCall.{can_emit, can_emit_bytes, fits, is_pointer}
use Rattle.clif_expansion.proofs.Names.{not_generated}
use Rattle.clif_helper_calls.specs.Codes.{compare_code, doing, flags_where, load_at_start, load_pieces}
use Rattle.clif_helper_calls.specs.Performing.{HasLoads, LoadsArePerformed, NamesCompare}
use Rattle.clif_helper_calls.proofs.Performed.{at_start, both, in_first, in_second, pointer_bits}
use Rattle.clif_helper_calls.proofs.Pieces.{IsLined}
use Rattle.clif_helper_calls.proofs.Runs
use Rattle.clif_helper_calls.proofs.Runs.{runs_behind}

-- BYTES -------------------------------------------------------------------------------------------------------------------

as_many : (memory : Memory) (width start size : ℕ) → length (bytes_from memory width start size) ≡ size
as_many memory width start zero = refl
as_many memory width start (suc size) = ap suc (as_many memory width (start + 1) size)

are_bytes : (memory : Memory) (width start size : ℕ) → HoldsBytes memory → AreBytes (bytes_from memory width start size)
are_bytes memory width start zero bytes = tt
are_bytes memory width start (suc size) bytes = (bytes (start % 2 ^ width), are_bytes memory width (start + 1) size bytes)

-- of single bytes
ordered : (condition : IntCC) (bits width x y size : ℕ) (memory : Memory) → IsTrue (is_unsigned condition) → size ≡ 1
    → compares condition bits (value_of_bytes (bytes_in memory (bytes_at width x size))) (value_of_bytes (bytes_in memory (bytes_at width y size)))
    ≡ order_meets condition (byte_order (bytes_in memory (bytes_at width x size)) (bytes_in memory (bytes_at width y size)))
ordered condition bits width x y size memory unsigned single =
    subst (λ (n : ℕ). compares condition bits (value_of_bytes (bytes_in memory (bytes_at width x n))) (value_of_bytes (bytes_in memory (bytes_at width y n)))
    ≡ order_meets condition (byte_order (bytes_in memory (bytes_at width x n)) (bytes_in memory (bytes_at width y n)))) (sym single)
    (comparisons_agree.one_byte condition bits (memory (x % 2 ^ width % 2 ^ width)) (memory (y % 2 ^ width % 2 ^ width)) unsigned)

-- what integers tell that are loaded, of as many bytes
loads_tell : (condition : IntCC) (bits width x y size : ℕ) (memory : Memory) → HoldsBytes memory → IsTrue (is_unsigned condition) → is_by_loads condition size ≡ true
    → compares condition bits (value_of_bytes (bytes_in memory (bytes_at width x size))) (value_of_bytes (bytes_in memory (bytes_at width y size)))
    ≡ order_meets condition (byte_order (bytes_in memory (bytes_at width x size)) (bytes_in memory (bytes_at width y size)))
loads_tell cc.Equal bits width x y size memory bytes unsigned is =
    comparisons_agree.equal bits _ _ (are_bytes memory width (x % 2 ^ width) size bytes) (are_bytes memory width (y % 2 ^ width) size bytes)
    (as_many memory width (x % 2 ^ width) size ∙ sym (as_many memory width (y % 2 ^ width) size))
loads_tell cc.NotEqual bits width x y size memory bytes unsigned is =
    comparisons_agree.unequal bits _ _ (are_bytes memory width (x % 2 ^ width) size bytes) (are_bytes memory width (y % 2 ^ width) size bytes)
    (as_many memory width (x % 2 ^ width) size ∙ sym (as_many memory width (y % 2 ^ width) size))
loads_tell cc.SignedLessThan bits width x y size memory bytes unsigned is = cc
loads_tell cc.SignedGreaterThanOrEqual bits width x y size memory bytes unsigned is = cc
loads_tell cc.SignedGreaterThan bits width x y size memory bytes unsigned is = cc
loads_tell cc.SignedLessThanOrEqual bits width x y size memory bytes unsigned is = cc
loads_tell cc.UnsignedLessThan bits width x y size memory bytes unsigned is = ordered cc.UnsignedLessThan bits width x y size memory unsigned (eqb-true size 1 is)
loads_tell cc.UnsignedGreaterThanOrEqual bits width x y size memory bytes unsigned is = ordered cc.UnsignedGreaterThanOrEqual bits width x y size memory unsigned (eqb-true size 1 is)
loads_tell cc.UnsignedGreaterThan bits width x y size memory bytes unsigned is = ordered cc.UnsignedGreaterThan bits width x y size memory unsigned (eqb-true size 1 is)
loads_tell cc.UnsignedLessThanOrEqual bits width x y size memory bytes unsigned is = ordered cc.UnsignedLessThanOrEqual bits width x y size memory unsigned (eqb-true size 1 is)

-- ALIGNMENT ---------------------------------------------------------------------------------------------------------------

-- where the flags of a load say that it is aligned, its address is
lined_by : (world : World) (compare : CompareShape) (x alignment : ℕ) → is_by_loads compare.condition compare.size ≡ true → Holds world (Aligned x alignment)
    → (compare.flags.aligned ≡ true → Holds world (Aligned x compare.size))
    → (flags_where compare.flags (is_aligned_load compare.condition compare.size alignment)).aligned ≡ true → IsLined world x compare.size
lined_by world compare x alignment loads has said = by (is_aligned_load compare.condition compare.size alignment) refl
  where
    some : 1 ≤ alignment
    some = let positive = pow_pos has.0 in let is = has.1 in omega (arith, positive, is)

    reaches : (equality : Bool) → tells_equality compare.condition ≡ equality → (if equality then alignment == compare.size else true) ≡ true
        → compare.size ≤ alignment
    reaches true tells aligned = let is = eqb-true alignment compare.size aligned in omega (arith, is)
    reaches false tells aligned =
        let one : compare.size ≡ 1 = single tells in omega (arith, one, some)
      where
        single : tells_equality compare.condition ≡ false → compare.size ≡ 1
        single none = eqb-true compare.size 1 (rw none at loads)

    by : (c : Bool) → is_aligned_load compare.condition compare.size alignment ≡ c → (if c then record compare.flags { aligned = true } else compare.flags).aligned ≡ true
        → IsLined world x compare.size
    by true is aligned = (alignment, reaches (tells_equality compare.condition) refl is, has)
    by false is aligned = (compare.size, omega arith, said aligned)

flagged : (world : World) (flags : Bool) (one two : Claim) → flags ≡ true → AllByRecursion (Holds world) (claims_if flags one ++ claims_if flags two) → Holds world one × Holds world two
flagged world true one two is claims = (claims.0, claims.1.0)
flagged world false one two is claims = let no_way : ⊥ = cc in absurd no_way

-- one load of pieces is a load without an offset
load_is : (flags : MemFlagsShape) (ty : «Type») (bytes : ℕ) (address : Name) (place : ℕ) (name : Name)
    → load_pieces flags ty bytes address place 0 (name ∷ []) ≡ load_at_start flags ty address place name
load_is flags ty bytes address place name =
    ap (λ (n : ℕ). Instruct place (doing (Load flags (pos n)) ty (address ∷ [])) (name ∷ []) ∷ []) (zero-mul bytes)

abbrev head : List ℕ → ℕ
head [] = 0
head (x ∷ xs) = x

one_more : (n : ℕ) → 1 * n ≡ n
one_more n = omega arith

-- COMPARISONS -------------------------------------------------------------------------------------------------------------

module _ (reading : Reading) (types : NameTypes) (pointer ty : «Type») (compare : CompareShape) (place : ℕ) (left right given_left given_right one two result given_result : Name)
    (may : IsTrue (can_emit (Bytes (CompareBytes compare)) pointer)) (has : HasLoads ty compare)
    (named : NamesCompare reading types left right given_left given_right one two result given_result)
    (world : World) (plain script : Name → Bits) (memory : Memory) (holds_bytes : HoldsBytes memory) (agree : Agree reading plain script)
    (sound : IsSound world types.script (doing (Bytes (CompareBytes compare)) pointer (given_left ∷ given_right ∷ [])) script) where
  abbrev l : ℕ
  l = script given_left

  abbrev r : ℕ
  r = script given_right

  abbrev size : ℕ
  size = compare.size

  abbrev width : ℕ
  width = bits_of pointer

  abbrev ranges : List Range
  ranges = bytes_at width l size ∷ bytes_at width r size ∷ []

  abbrev left_flags : MemFlagsShape
  left_flags = flags_where compare.flags (is_aligned_load compare.condition size compare.left_alignment)

  abbrev right_flags : MemFlagsShape
  right_flags = flags_where compare.flags (is_aligned_load compare.condition size compare.right_alignment)

  emitted : (is_pointer pointer ≡ true) × IsTrue (is_unsigned compare.condition)
  emitted =
      let parts = and_parts (is_pointer pointer) (can_emit_bytes (CompareBytes compare) pointer) may in
      (parts.0, (and_parts (is_unsigned compare.condition) (fits pointer size) parts.1).0)

  narrow : has.exponent ≤ width
  narrow = let wide = pointer_bits pointer emitted.0 in let few = has.few in omega (arith, few, wide.0)

  bytes : bytes_of ty ≡ size
  bytes = ap (λ (n : ℕ). n / 8) has.bits ∙ omega arith

  said : compare.flags.aligned ≡ true → Holds world (Aligned l size) × Holds world (Aligned r size)
  said aligned =
      flagged world (compare.flags.aligned && is_by_loads compare.condition size) (Aligned l size) (Aligned r size)
      (both compare.flags.aligned (is_by_loads compare.condition size) aligned has.by_loads) sound.claims.1.1.1.1

  abbrev LoadedLeft : Type 0
  LoadedLeft = Runs.Loaded world types.plain reading ranges left_flags ty width has.exponent size l 1
      has.is_power narrow has.bits bytes
      (subst (λ (n : ℕ). Holds world (Accessible (bytes_at width l n))) (sym (one_more size)) sound.claims.0)
      (lined_by world compare l compare.left_alignment has.by_loads sound.claims.1.1.0 (λ aligned. (said aligned).0))
      (λ address there. in_first (bytes_at width l size) (bytes_at width r size) address (subst (λ (n : ℕ). lies_in (bytes_at width l n) address ≡ true) (one_more size) there))
      left (ap bits_of (named.left_typed ∙ sound.typed.1.0)) memory place 0 (one ∷ []) plain

  loaded_left : LoadedLeft
  loaded_left = Runs.loads world types.plain reading ranges left_flags ty width has.exponent size l 1
      has.is_power narrow has.bits bytes
      (subst (λ (n : ℕ). Holds world (Accessible (bytes_at width l n))) (sym (one_more size)) sound.claims.0)
      (lined_by world compare l compare.left_alignment has.by_loads sound.claims.1.1.0 (λ aligned. (said aligned).0))
      (λ address there. in_first (bytes_at width l size) (bytes_at width r size) address (subst (λ (n : ℕ). lies_in (bytes_at width l n) address ≡ true) (one_more size) there))
      left (ap bits_of (named.left_typed ∙ sound.typed.1.0)) memory place 0 (one ∷ []) plain holds_bytes (not_generated reading left given_left named.left_read)
      (omega arith) (agree left given_left named.left_read) (named.one_generated, tt) (tt, tt)

  abbrev LoadedRight : Type 0
  LoadedRight = Runs.Loaded world types.plain reading ranges right_flags ty width has.exponent size r 1
      has.is_power narrow has.bits bytes
      (subst (λ (n : ℕ). Holds world (Accessible (bytes_at width r n))) (sym (one_more size)) sound.claims.1.0)
      (lined_by world compare r compare.right_alignment has.by_loads sound.claims.1.1.1.0 (λ aligned. (said aligned).1))
      (λ address there. in_second (bytes_at width l size) (bytes_at width r size) address (subst (λ (n : ℕ). lies_in (bytes_at width r n) address ≡ true) (one_more size) there))
      right (ap bits_of (named.right_typed ∙ sound.typed.1.1.0)) memory (suc place) 0 (two ∷ []) loaded_left.after

  loaded_right : LoadedRight
  loaded_right = Runs.loads world types.plain reading ranges right_flags ty width has.exponent size r 1
      has.is_power narrow has.bits bytes
      (subst (λ (n : ℕ). Holds world (Accessible (bytes_at width r n))) (sym (one_more size)) sound.claims.1.0)
      (lined_by world compare r compare.right_alignment has.by_loads sound.claims.1.1.1.0 (λ aligned. (said aligned).1))
      (λ address there. in_second (bytes_at width l size) (bytes_at width r size) address (subst (λ (n : ℕ). lies_in (bytes_at width r n) address ≡ true) (one_more size) there))
      right (ap bits_of (named.right_typed ∙ sound.typed.1.1.0)) memory (suc place) 0 (two ∷ []) loaded_left.after holds_bytes (not_generated reading right given_right named.right_read)
      (omega arith) (loaded_left.kept right (not_generated reading right given_right named.right_read) ∙ agree right given_right named.right_read) (named.two_generated, tt) (tt, tt)

  abbrev left_bytes : List ℕ
  left_bytes = bytes_in memory (bytes_at width l size)

  abbrev right_bytes : List ℕ
  right_bytes = bytes_in memory (bytes_at width r size)

  one_is : loaded_right.after one ≡ value_of_bytes left_bytes
  one_is =
      loaded_right.others one (named.apart, tt) ∙ ap head loaded_left.holds
      ∙ ap (λ (start : ℕ). value_of_bytes (bytes_in memory (bytes_at width start size))) (at_start l size)

  two_is : loaded_right.after two ≡ value_of_bytes right_bytes
  two_is = ap head loaded_right.holds ∙ ap (λ (start : ℕ). value_of_bytes (bytes_in memory (bytes_at width start size))) (at_start r size)

  abbrev bit : Bits
  bit = if order_meets compare.condition (byte_order left_bytes right_bytes) then 1 else 0

  decides : Gives ((if compares compare.condition (bits_of ty) (loaded_right.after one) (loaded_right.after two) then 1 else 0) ∷ []) memory ≡ Gives (bit ∷ []) memory
  decides =
      ap₂ (λ (a b : ℕ). Gives ((if compares compare.condition (bits_of ty) a b then 1 else 0) ∷ []) memory) one_is two_is
      ∙ ap (λ (c : Bool). Gives ((if c then 1 else 0) ∷ []) memory) (loads_tell compare.condition (bits_of ty) width l r size memory holds_bytes emitted.1 has.by_loads)

  abbrev last : List Item
  last = Instruct (suc (suc place)) (computing (Compare compare.condition) ty (one ∷ two ∷ [])) (result ∷ []) ∷ []

  abbrev behind : Contents
  behind = record { names = assigned same_name (result ∷ []) (bit ∷ []) loaded_right.after; memory = memory }

  compared : RunsTo world types.plain ranges last (record { names = loaded_right.after; memory = memory }) behind
  compared = (bit ∷ [], memory, record { gives = decides; safe = record { claims = tt; within = tt } }, refl)

  compare_performed : PerformsIn world reading types (doing (Bytes (CompareBytes compare)) pointer (given_left ∷ given_right ∷ [])) (result ∷ [])
      (compare_code compare ty left right place one two result) plain script memory
  compare_performed = record {
    values = bit ∷ [];
    after = behind;
    outcome = let accessible = claimed_accessible world ranges (promised_claims (CompareBytes compare) width (l ∷ r ∷ [])) sound.claims in rw accessible refl;
    runs = runs_behind world types.plain ranges (load_at_start left_flags ty left place one) (load_at_start right_flags ty right (suc place) two ++ last)
        (record { names = plain; memory = memory }) (record { names = loaded_left.after; memory = memory }) behind
        (subst (λ (code : List Item). RunsTo world types.plain ranges code (record { names = plain; memory = memory }) (record { names = loaded_left.after; memory = memory }))
        (load_is left_flags ty size left place one) loaded_left.runs)
        (runs_behind world types.plain ranges (load_at_start right_flags ty right (suc place) two) last
        (record { names = loaded_left.after; memory = memory }) (record { names = loaded_right.after; memory = memory }) behind
        (subst (λ (code : List Item). RunsTo world types.plain ranges code (record { names = loaded_left.after; memory = memory }) (record { names = loaded_right.after; memory = memory }))
        (load_is right_flags ty size right (suc place) two) loaded_right.runs) compared);
    kept = λ y other. ap (λ (old : Bits). if same_name y result then bit else old) (loaded_right.kept y other ∙ loaded_left.kept y other);
  }

pub loads_are_performed : LoadsArePerformed
loads_are_performed pointer_width reading types pointer ty compare place left right given_left given_right one two result given_result may has named = record {
  begins = λ none. cc;
  given = result ∷ [];
  named = (named.result_read, tt);
  performs = λ world plain script memory wide bytes agree sound.
      compare_performed reading types pointer ty compare place left right given_left given_right one two result given_result may has named world plain script memory bytes agree sound;
}
