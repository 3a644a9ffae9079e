-- The table of the regions of memory (own).
use Rattle.std.specs.Prelude.{ℕ, ◌≡◌, ◌-◌, ◌^◌, ◌==◌, ◌++◌, ◌∷◌, [], List, Bool, length, Option, None, Some, unwrap_or, is_some, if◌then◌else◌}
use Rattle.std.specs.List.{position}
use Rattle.clif_types.specs.declared.alias_region.AliasRegionData.{AliasRegionData}
use Rattle.clif_types.specs.declared.error.BuildError.{BuildError}
use Rattle.clif_types.specs.declared.error.BuildError.TheVariants as error

-- the regions by their numbers, and the first refusal of an `insert`
pub record AliasRegionTable : Type 0 where
  pub regions : List AliasRegionData
  pub refusal : Option BuildError

-- a refusal that these regions may have met: memory, or, where there are 2^32 - 1 of them, that they are full
abbrev pub MayRefuse : List AliasRegionData → Option BuildError → Type 0
MayRefuse regions None = Unit {0}
MayRefuse regions (Some error.Memory) = Unit {0}
MayRefuse regions (Some error.Full) = length regions ≡ 2 ^ 32 - 1
MayRefuse regions (Some error.Failed) = ⊥

-- equal data
abbrev pub same_region : AliasRegionData → AliasRegionData → Bool
same_region a b = a.user_id == b.user_id

-- the place of equal data
abbrev pub place_of : List AliasRegionData → AliasRegionData → Option ℕ
place_of regions region = position (same_region region) regions

-- the table has the data
abbrev pub has_region : AliasRegionTable → AliasRegionData → Bool
has_region t region = is_some (place_of t.regions region)

-- the number of the region: the place of equal data, or else the next free one
abbrev pub region_of : AliasRegionTable → AliasRegionData → ℕ
region_of t region = unwrap_or (place_of t.regions region) (length t.regions)

-- the table with the region, at its end unless it is there
abbrev pub with_region : AliasRegionTable → AliasRegionData → AliasRegionTable
with_region t region = if has_region t region then t else record t { regions = t.regions ++ region ∷ [] }

-- the table after a refusal: the first one stays
abbrev pub with_refusal : AliasRegionTable → BuildError → AliasRegionTable
with_refusal t e = record t { refusal = Some (unwrap_or t.refusal e) }
