-- What ends as what, where a `&mut` into a function is returned. Source: own.
use Rattle.std.specs.Borrow.{Lends, Fml, MutBor}
use Rattle.clif_types.specs.AliasRegions.{AliasRegionTable}
use Rattle.clif_types.specs.contracts.alias_region.AliasRegionSet as regions
use Rattle.clif_ir.specs.Body.{Body}
use Rattle.clif_ir.specs.Changes.{with_tables}
use Rattle.clif_ir.specs.contracts.function.Function as function

-- a function, whose set of regions is what was last written through the reference
abbrev pub lends_regions : MutBor Body → MutBor AliasRegionTable → Fml
lends_regions f set = Lends function.the_row regions.the_row f set (λ regions. with_tables f.now (record f.now.tables { alias_regions = regions }))
