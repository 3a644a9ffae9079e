-- Where blocks stand in the layout, as a function keeps it. Source: own. Contracts of a function don't speak of it.
use Rattle.std.specs.Prelude.{ℕ, List, slice_index_or, slice_set, Option, Some, None, true, false}
use Rattle.clif_nodes.specs.declared.nodes.BlockPlace.{BlockPlace}

-- the place of a block as it is made
abbrev pub no_place : BlockPlace
no_place = record { next = None; is_inserted = false }

-- the places as block `b` is put behind block `after`
abbrev pub linked_after : List BlockPlace → ℕ → ℕ → List BlockPlace
linked_after places b after =
    slice_set (slice_set places b (record { next = (slice_index_or places after no_place).next; is_inserted = true })) after
    (record (slice_index_or places after no_place) { next = Some b })

-- the last one as `b` is put behind one that `next` followed
abbrev pub last_after : Option ℕ → Option ℕ → ℕ → Option ℕ
last_after last None b = Some b
last_after last (Some next) b = last
