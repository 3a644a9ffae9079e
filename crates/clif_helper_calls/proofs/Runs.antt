-- Runs of loads and of stores of pieces.
use Rattle.std.proofs.Common.{◌≡◌, ◌+◌, ◌*◌, ◌%◌, ◌^◌, ◌<◌, ◌≤◌, ℕ, suc, Bool, true, false, if◌then◌else◌, List, [], ◌∷◌, ◌++◌, length, map, refl, sym, ◌∙◌, ap, ap₂, subst, arith}
use Rattle.std.specs.Prelude.{◌≢◌, pos, IsTrue}
use Rattle.std.specs.List.{AllByRecursion, list_any}
use Rattle.std.proofs.Math.Nat.{suc-mul}
use Rattle.clif_types.specs.MemFlags.{MemFlagsShape}
use Rattle.clif_types.specs.Types.{bits_of, bytes_of}
use Rattle.clif_types.specs.declared.types.«Type».{«Type»}
use Rattle.clif_meaning.specs.Access.{Accessible, Holds, access_claims}
use Rattle.clif_meaning.specs.Bits.{Bits, value_bytes, value_of_bytes}
use Rattle.clif_meaning.specs.Library.{bytes_at}
use Rattle.clif_meaning.specs.Memory.{Memory, Range, bytes_in, lies_in, written}
use Rattle.clif_meaning.specs.Name.{Name, same_name}
use Rattle.clif_meaning.specs.Outcome.{Gives, access_outcome, accessed, low_bits_at}
use Rattle.clif_meaning.specs.Program.{Item, Instruct, Use, Assign}
use Rattle.clif_meaning.specs.Store.{assigned}
use Rattle.clif_meaning.specs.World.{World}
use Rattle.clif_byte_laws.specs.Pieces.{HoldsBytes, pieces_loaded, pieces_stored}
use Rattle.clif_byte_laws.proofs.Whole.{whole_load}
use Rattle.clif_expansion.specs.Line.{Contents, LiesWithin, RunsTo}
use Rattle.clif_expansion.specs.Reading.{Generated, Reading}
use Rattle.clif_expansion.proofs.Names.{assigned_elsewhere, equal_names, names_equal}
use Rattle.clif_helper_calls.specs.Codes.{AreDistinct, load_pieces, store_pieces}
use Rattle.clif_helper_calls.proofs.Pieces.{IsLined, claimed, goes, inside, is_piece}

-- code behind code
pub runs_behind : (world : World) (types : Name → «Type») (ranges : List Range) (first second : List Item) (before between after : Contents)
    → RunsTo world types ranges first before between → RunsTo world types ranges second between after → RunsTo world types ranges (first ++ second) before after
runs_behind world types ranges [] second before between after is runs = subst (λ (contents : Contents). RunsTo world types ranges second contents after) is runs
runs_behind world types ranges (Instruct place instruction results ∷ first) second before between after (values, memory, gives, more) runs = (
  values,
  memory,
  gives,
  runs_behind world types ranges first second (record { names = assigned same_name results values before.names; memory = memory }) between after more runs,
)
runs_behind world types ranges (Use variable name ∷ first) second before between after is runs = absurd is
runs_behind world types ranges (Assign variable name ∷ first) second before between after is runs = absurd is

pub given_here : (name : Name) (bits : Bits) (old : Name → Bits) → assigned same_name (name ∷ []) (bits ∷ []) old name ≡ bits
given_here name bits old = ap (λ (c : Bool). if c then bits else old name) (equal_names name name refl)

-- another name keeps what it has
pub kept_by_other : (y name : Name) (bits : Bits) (old : Name → Bits) → y ≢ name → assigned same_name (name ∷ []) (bits ∷ []) old y ≡ old y
kept_by_other y name bits old other = by (same_name y name) refl
  where
    by : (c : Bool) → same_name y name ≡ c → (if c then bits else old y) ≡ old y
    by true is = absurd (other (names_equal y name is))
    by false is = refl

module _ (world : World) (types : Name → «Type») (reading : Reading) (ranges : List Range) (flags : MemFlagsShape) (ty : «Type») (width shift bytes x count : ℕ)
    (power : bytes ≡ 2 ^ shift) (narrow : shift ≤ width) (bits : bits_of ty ≡ 8 * bytes) (size : bytes_of ty ≡ bytes)
    (may_touch : Holds world (Accessible (bytes_at width x (count * bytes)))) (lined : flags.aligned ≡ true → IsLined world x bytes)
    (has : (address : ℕ) → lies_in (bytes_at width x (count * bytes)) address ≡ true → IsTrue (list_any (λ other. lies_in other address) ranges))
    (address : Name) (wide : bits_of (types address) ≡ width) where
  abbrev piece : ℕ → Range
  piece number = bytes_at width (x + number * bytes) bytes

  -- the next piece begins behind this one
  further : (number : ℕ) → x + suc number * bytes ≡ x + number * bytes + bytes
  further number = by (suc-mul number bytes)
    where
      by : suc number * bytes ≡ number * bytes + bytes → x + suc number * bytes ≡ x + number * bytes + bytes
      by is = omega arith

  -- LOADS -----------------------------------------------------------------------------------------------------------------

  -- loads leave in their names what the pieces hold, and change no other name
  pub record Loaded (memory : Memory) (place number : ℕ) (names : List Name) (before : Name → Bits) : Type 0 where
    pub after : Name → Bits
    pub runs : RunsTo world types ranges (load_pieces flags ty bytes address place number names) (record { names = before; memory = memory }) (record { names = after; memory = memory })
    pub holds : map after names ≡ pieces_loaded memory width bytes (x + number * bytes) (length names)
    pub kept : (y : Name) → reading y ≢ Generated → after y ≡ before y
    pub others : (y : Name) → AllByRecursion (λ name. y ≢ name) names → after y ≡ before y

  pub loads : (memory : Memory) (place number : ℕ) (names : List Name) (before : Name → Bits) → HoldsBytes memory → reading address ≢ Generated
      → number + length names ≤ count → before address ≡ x → AllByRecursion (λ name. reading name ≡ Generated) names → AreDistinct names
      → Loaded memory place number names before
  loads memory place number [] before holds_bytes read few is generated distinct =
      record { after = before; runs = refl; holds = refl; kept = λ y other. refl; others = λ y other. refl }
  loads memory place number (name ∷ names) before holds_bytes read few is generated distinct =
      let rest : Loaded memory (suc place) (suc number) names between =
      loads memory (suc place) (suc number) names between holds_bytes read (omega (arith, few))
      (assigned_elsewhere reading (name ∷ []) (value ∷ []) before address (generated.0, tt) read ∙ is) generated.1 distinct.1 in
      record {
        after = rest.after;
        runs = (
          value ∷ [],
          memory,
          record { gives = gives; safe = record { claims = claims; within = (lies, tt) } },
          rest.runs,
        );
        holds = ap₂ (λ (first : Bits) (more : List Bits). first ∷ more) (rest.others name distinct.0 ∙ given_here name value before)
            (rest.holds ∙ ap (λ (start : ℕ). pieces_loaded memory width bytes start (length names)) (further number));
        kept = λ y other. rest.kept y other ∙ assigned_elsewhere reading (name ∷ []) (value ∷ []) before y (generated.0, tt) other;
        others = λ y other. rest.others y other.1 ∙ kept_by_other y name value before other.0;
      }
    where
      below : number < count
      below = omega (arith, few)

      value : Bits
      value = value_of_bytes (bytes_in memory (piece number))

      between : Name → Bits
      between = assigned same_name (name ∷ []) (value ∷ []) before

      range : accessed ty (types address) (before address) (pos (number * bytes)) ≡ piece number
      range = is_piece ty (types address) width bytes x (before address) number wide size is

      whole : low_bits_at ty value ≡ value
      whole = ap (λ (n : ℕ). value % 2 ^ n) bits ∙ whole_load memory (piece number) holds_bytes

      gives : access_outcome world flags (accessed ty (types address) (before address) (pos (number * bytes)))
          (Gives (low_bits_at ty (value_of_bytes (bytes_in memory (accessed ty (types address) (before address) (pos (number * bytes))))) ∷ []) memory)
          ≡ Gives (value ∷ []) memory
      gives =
          ap (λ (r : Range). access_outcome world flags r (Gives (low_bits_at ty (value_of_bytes (bytes_in memory r)) ∷ []) memory)) range
          ∙ goes world flags width shift bytes x count power narrow may_touch lined number below (Gives (low_bits_at ty value ∷ []) memory)
          ∙ ap (λ (v : Bits). Gives (v ∷ []) memory) whole

      claims : AllByRecursion (Holds world) (access_claims flags (accessed ty (types address) (before address) (pos (number * bytes))))
      claims = subst (λ (r : Range). AllByRecursion (Holds world) (access_claims flags r)) (sym range) (claimed world flags width shift bytes x count power narrow may_touch lined number below)

      lies : LiesWithin ranges (accessed ty (types address) (before address) (pos (number * bytes)))
      lies = subst (λ (r : Range). LiesWithin ranges r) (sym range) (inside world flags width shift bytes x count power narrow may_touch lined ranges has number below)

  -- STORES ----------------------------------------------------------------------------------------------------------------

  pub stores : (memory : Memory) (place number : ℕ) (names : List Name) (before : Name → Bits) → number + length names ≤ count → before address ≡ x
      → RunsTo world types ranges (store_pieces flags ty bytes address place number names) (record { names = before; memory = memory })
      (record { names = before; memory = pieces_stored memory width bytes (x + number * bytes) (map before names) })
  stores memory place number [] before few is = refl
  stores memory place number (name ∷ names) before few is =
      let rest : RunsTo world types ranges (store_pieces flags ty bytes address (suc place) (suc number) names) (record { names = before; memory = next })
      (record { names = before; memory = pieces_stored next width bytes (x + number * bytes + bytes) (map before names) }) =
      subst (λ (start : ℕ). RunsTo world types ranges (store_pieces flags ty bytes address (suc place) (suc number) names) (record { names = before; memory = next })
      (record { names = before; memory = pieces_stored next width bytes start (map before names) })) (further number)
      (stores next (suc place) (suc number) names before (omega (arith, few)) is) in
      ([], next, record { gives = gives; safe = record { claims = claims; within = (lies, tt) } }, rest)
    where
      below : number < count
      below = omega (arith, few)

      next : Memory
      next = written memory (piece number) (value_bytes bytes (before name))

      range : accessed ty (types address) (before address) (pos (number * bytes)) ≡ piece number
      range = is_piece ty (types address) width bytes x (before address) number wide size is

      gives : access_outcome world flags (accessed ty (types address) (before address) (pos (number * bytes)))
          (Gives [] (written memory (accessed ty (types address) (before address) (pos (number * bytes)))
          (value_bytes (accessed ty (types address) (before address) (pos (number * bytes))).size (before name))))
          ≡ Gives [] next
      gives =
          ap (λ (r : Range). access_outcome world flags r (Gives [] (written memory r (value_bytes r.size (before name))))) range
          ∙ goes world flags width shift bytes x count power narrow may_touch lined number below (Gives [] next)

      claims : AllByRecursion (Holds world) (access_claims flags (accessed ty (types address) (before address) (pos (number * bytes))))
      claims = subst (λ (r : Range). AllByRecursion (Holds world) (access_claims flags r)) (sym range) (claimed world flags width shift bytes x count power narrow may_touch lined number below)

      lies : LiesWithin ranges (accessed ty (types address) (before address) (pos (number * bytes)))
      lies = subst (λ (r : Range). LiesWithin ranges r) (sym range) (inside world flags width shift bytes x count power narrow may_touch lined ranges has number below)
