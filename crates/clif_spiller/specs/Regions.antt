-- What the spiller makes of a function where a callback is asked for the alias regions of the accesses that it inserts. Source: the
-- crate's documentation of `make_stack_map_alias_region`; the statement is own.
use Rattle.std.specs.Prelude.{◌≡◌, ◌-◌, ◌^◌, ℕ, List, length, Option}
use Rattle.clif_types.specs.declared.types.«Type».{«Type»}
use Rattle.clif_ir.specs.Body.{Body}
use Rattle.clif_regions.specs.Asking.{Asks, CarriesAnswersOf}
use Rattle.clif_spiller.specs.Keeping.{Keeps}
use Rattle.clif_spiller.specs.Spills.{Spills}

-- Values are spilled first; then a callback, if there is one, is asked for the region of each access that came to the function: an
-- instruction that comes to a function has a number from the count of those before on, by the order of insertion.
pub record SpillsAndAsks {C : Type 0} (f : Body) (recorded : List ℕ) (pointer : «Type») (callback : Option C) (asks_of : C → Asks) (g : Body) : Type 0 where
  pub between : Body
  pub keeps : Keeps (length f.blocks) f between
  pub spills : Spills f recorded pointer between
  pub regions : CarriesAnswersOf callback asks_of (length f.insts) between g

-- the set of regions has as many as it can have
abbrev pub HasAllRegions : Body → Type 0
HasAllRegions f = length f.tables.alias_regions.regions ≡ 2 ^ 32 - 1
