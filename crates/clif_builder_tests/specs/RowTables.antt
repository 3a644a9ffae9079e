-- The tables of the rows whose instructions take one.
use Rattle.std.specs.Prelude.{ℕ, List, [], ◌∷◌}
use Rattle.clif_instructions.specs.ExceptionTables.{ExceptionShape}
use Rattle.clif_instructions.specs.declared.block_call.BlockArg.TheVariants as arg
use Rattle.clif_instructions.specs.declared.block_call.BlockCall.{BlockCall}
use Rattle.clif_instructions.specs.declared.exception_table.ExceptionItem.TheVariants as item
use Rattle.clif_inst_builder.specs.Shapes.{edge_to}

-- a jump table: the default goes to block2, and the entries to block1 with this value and to block2
abbrev pub entries_passing : ℕ → List BlockCall
entries_passing value = edge_to 2 [] ∷ edge_to 1 (arg.Value value ∷ []) ∷ edge_to 2 [] ∷ []

-- an exception table: the call goes on in block1 with what it returns, and each exception to block3 with its second part
abbrev pub catching_table : ℕ → ExceptionShape
catching_table sig = record {
  sig = sig;
  edges = edge_to 1 (arg.TryCallRet 0 ∷ []) ∷ edge_to 3 (arg.TryCallExn 1 ∷ []) ∷ [];
  items = item.Default ∷ [];
}

-- one that catches nothing
abbrev pub bare_table : ℕ → ExceptionShape
bare_table sig = record { sig = sig; edges = edge_to 1 (arg.TryCallRet 0 ∷ []) ∷ []; items = [] }
