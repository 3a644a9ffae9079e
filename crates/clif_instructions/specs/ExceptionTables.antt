-- The edges and items of exception tables. Source: own, after the crate's documentation of them.
use Rattle.std.specs.Prelude.{ℕ, List, [], ◌∷◌, map, flat_map, slice_set}
use Rattle.clif_instructions.specs.declared.block_call.BlockCall.{BlockCall}
use Rattle.clif_instructions.specs.declared.exception_table.ExceptionItem.{ExceptionItem}
use Rattle.clif_instructions.specs.declared.exception_table.ExceptionItem.TheVariants as kept
use Rattle.clif_instructions.specs.declared.exception_table.ExceptionTableItem.{ExceptionTableItem}
use Rattle.clif_instructions.specs.declared.exception_table.ExceptionTableItem.TheVariants as given
use Rattle.clif_instructions.specs.declared.exception_table.ExceptionTableData.{ExceptionTableData}

-- an exception table as it is kept: the signature of its calls, its edges, the normal one first, and its items, of which each
-- tag and each default has the next edge
pub record ExceptionShape : Type 0 where
  pub sig : ℕ
  pub edges : List BlockCall
  pub items : List ExceptionItem

-- the edge of an item, if it has one
abbrev pub item_edges : ExceptionTableItem → List BlockCall
item_edges (given.Tag tag edge) = edge ∷ []
item_edges (given.Default edge) = edge ∷ []
item_edges (given.Context value) = []

-- an item without its edge
abbrev pub kept_item : ExceptionTableItem → ExceptionItem
kept_item (given.Tag tag edge) = kept.Tag tag
kept_item (given.Default edge) = kept.Default
kept_item (given.Context value) = kept.Context value

-- the edges of a table as they are printed: the normal one, and those of the items
abbrev pub exception_edges : ExceptionTableData → List BlockCall
exception_edges table = table.normal ∷ flat_map item_edges table.items.items

-- how a table is kept
abbrev pub exception_shape : ExceptionTableData → ExceptionShape
exception_shape table = record { sig = table.sig; edges = exception_edges table; items = map kept_item table.items.items }

-- the value that an item names beside its edge, if it names one: a context
abbrev pub item_context : ExceptionItem → List ℕ
item_context (kept.Tag tag) = []
item_context kept.Default = []
item_context (kept.Context value) = value ∷ []

-- the contexts of a table, in order
abbrev pub contexts_of : ExceptionShape → List ℕ
contexts_of table = flat_map item_context table.items

-- a table, of whose items this one is this context
abbrev pub with_context_at : ℕ → ℕ → ExceptionShape → ExceptionShape
with_context_at item value table = record table { items = slice_set table.items item (kept.Context value) }
