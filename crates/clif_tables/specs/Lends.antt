-- What ends as what, where a `&mut` into a table is returned. Source: own.
use Rattle.std.specs.Prelude.{ℕ, List, slice_set}
use Rattle.std.specs.Borrow.{Lends, Fml, RattleType, MutBor}
use Rattle.clif_types.specs.AliasRegions.{AliasRegionTable}
use Rattle.clif_types.specs.contracts.alias_region.AliasRegionSet as regions
use Rattle.clif_tables.specs.Lists.{TableLists}
use Rattle.clif_tables.specs.contracts.primary_map.PrimaryMap as primary_map
use Rattle.clif_tables.specs.contracts.tables.Tables as tables

-- a table, in which an entry is what was last written through the reference
abbrev pub lends_entry : (K V : RattleType) → MutBor (List V.Denot) → ℕ → MutBor V.Denot → Fml
lends_entry K V table number entry = Lends (primary_map.the_row K V) V table entry (slice_set table.now number)

-- tables, whose set of regions is what was last written through the reference
abbrev pub lends_regions : MutBor TableLists → MutBor AliasRegionTable → Fml
lends_regions lists set = Lends tables.the_row regions.the_row lists set (λ regions. record lists.now { alias_regions = regions })
