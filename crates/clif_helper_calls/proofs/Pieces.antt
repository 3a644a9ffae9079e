-- One access of many: it is to a piece of a range that is accessible, and aligned where its flags say so.
use Rattle.std.proofs.Common.{◌≡◌, ◌+◌, ◌*◌, ◌%◌, ◌^◌, ◌<◌, ◌≤◌, ◌&&◌, ◌==◌, ℕ, Bool, true, false, if◌then◌else◌, List, ◌++◌, refl, sym, ◌∙◌, ap, ap₂, subst}
use Rattle.std.specs.Prelude.{not, pos, IsTrue}
use Rattle.std.specs.List.{AllByRecursion, list_any}
use Rattle.std.proofs.lemmas.Bool.{eq-eqb}
use Rattle.clif_types.specs.MemFlags.{MemFlagsShape}
use Rattle.clif_types.specs.Types.{bits_of, bytes_of}
use Rattle.clif_types.specs.declared.trapcode.TrapCode.TheVariants.{HeapOutOfBounds}
use Rattle.clif_types.specs.declared.types.«Type».{«Type»}
use Rattle.clif_meaning.specs.Access.{Accessible, Aligned, Holds, access_claims, claims_if}
use Rattle.clif_meaning.specs.Bits.{wrapped}
use Rattle.clif_meaning.specs.Library.{bytes_at}
use Rattle.clif_meaning.specs.Memory.{Range, lies_in}
use Rattle.clif_meaning.specs.Outcome.{NoStep, Outcome, Traps, access_outcome, accessed}
use Rattle.clif_meaning.specs.World.{World}
use Rattle.clif_meaning.proofs.LibraryCalls.{each_accessible}
use Rattle.clif_byte_laws.proofs.Within.{accessible, aligned, within}
use Rattle.clif_byte_laws.proofs.Within as Within
use Rattle.clif_expansion.specs.Line.{LiesWithin}

-- the range of an access at a piece's offset
pub is_piece : (ty address_type : «Type») (width bytes x address number : ℕ) → bits_of address_type ≡ width → bytes_of ty ≡ bytes → address ≡ x
    → accessed ty address_type address (pos (number * bytes)) ≡ bytes_at width (x + number * bytes) bytes
is_piece ty address_type width bytes x address number wide size same =
    ap₂ (λ (w n : ℕ). record { width = w; start = (address + wrapped w (pos (number * bytes))) % 2 ^ w; size = n }) wide size
    ∙ ap (λ (a : ℕ). record { width = width; start = (a + wrapped width (pos (number * bytes))) % 2 ^ width; size = bytes }) same
    ∙ ap (λ (start : ℕ). record { width = width; start = start; size = bytes }) (Within.pieces_lie_within.begins width bytes x number)

-- an address with an alignment that reaches the size of the accesses
abbrev pub IsLined : World → (x bytes : ℕ) → Type 0
IsLined world x bytes = (alignment : ℕ) × (bytes ≤ alignment) × Holds world (Aligned x alignment)

module _ (world : World) (flags : MemFlagsShape) (width shift bytes x count : ℕ) (power : bytes ≡ 2 ^ shift) (narrow : shift ≤ width)
    (may_touch : Holds world (Accessible (bytes_at width x (count * bytes)))) (lined : flags.aligned ≡ true → IsLined world x bytes) where
  abbrev piece : ℕ → Range
  piece number = bytes_at width (x + number * bytes) bytes

  touchable : (number : ℕ) → number < count → Holds world (Accessible (piece number))
  touchable number below = accessible world width bytes x number count below may_touch

  placed : (number : ℕ) → flags.aligned ≡ true → Holds world (Aligned (piece number).start bytes)
  placed number is =
      let line = lined is in
      subst (λ (n : ℕ). Holds world (Aligned ((x + number * n) % 2 ^ width) n)) (sym power)
      (aligned world width shift x number line.0 (subst (λ (n : ℕ). n ≤ line.0) power line.1) narrow line.2)

  -- it goes on
  pub goes : (number : ℕ) → number < count → (outcome : Outcome) → access_outcome world flags (piece number) outcome ≡ outcome
  goes number below outcome =
      ap (λ (c : Bool). if flags.aligned && not ((piece number).start % bytes == 0) then NoStep else (if c then outcome else (if flags.notrap then NoStep else Traps HeapOutOfBounds)))
      (each_accessible world (piece number) bytes (touchable number below))
      ∙ by flags.aligned (placed number)
    where
      by : (says : Bool) → (says ≡ true → Holds world (Aligned (piece number).start bytes)) → (if says && not ((piece number).start % bytes == 0) then NoStep else outcome) ≡ outcome
      by false place = refl
      by true place =
          let is = place refl in
          let none : (piece number).start % bytes ≡ 0 = subst (λ (n : ℕ). (piece number).start % n ≡ 0) (sym is.1) is.2 in
          ap (λ (c : Bool). if not c then NoStep else outcome) (eq-eqb ((piece number).start % bytes) 0 none)

  -- what it claims is true
  pub claimed : (number : ℕ) → number < count → AllByRecursion (Holds world) (access_claims flags (piece number))
  claimed number below = by flags.notrap flags.aligned (placed number)
    where
      by : (no_trap says : Bool) → (says ≡ true → Holds world (Aligned (piece number).start bytes))
          → AllByRecursion (Holds world) (claims_if no_trap (Accessible (piece number)) ++ claims_if says (Aligned (piece number).start bytes))
      by true true place = (touchable number below, (place refl, tt))
      by true false place = (touchable number below, tt)
      by false true place = (place refl, tt)
      by false false place = tt

  -- and it lies where the whole does
  pub inside : (ranges : List Range)
      → ((address : ℕ) → lies_in (bytes_at width x (count * bytes)) address ≡ true → IsTrue (list_any (λ other. lies_in other address) ranges))
      → (number : ℕ) → number < count → LiesWithin ranges (piece number)
  inside ranges has number below address there = has address (within width bytes x number count address below there)
