-- How the branches that lead to a block are kept. Source: own.
use Rattle.std.specs.Prelude.{ℕ, List, [], ◌∷◌}
use Rattle.clif_records.specs.declared.tables.Branches.{Branches}
use Rattle.clif_records.specs.declared.tables.Branches.TheVariants as branches

-- the branches, in order
abbrev pub branches_of : Branches → List ℕ
branches_of branches.None = []
branches_of (branches.One branch) = branch ∷ []
branches_of (branches.Two pair) = pair
branches_of (branches.More more) = more.value.items
