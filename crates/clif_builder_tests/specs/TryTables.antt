-- The exception tables of the tests' try calls.
use Rattle.std.specs.Prelude.{ℕ, List, [], ◌∷◌}
use Rattle.clif_instructions.specs.ExceptionTables.{ExceptionShape}
use Rattle.clif_instructions.specs.declared.block_call.BlockArg.{BlockArg}
use Rattle.clif_instructions.specs.declared.block_call.BlockArg.TheVariants as arg
use Rattle.clif_instructions.specs.declared.exception_table.ExceptionItem.TheVariants as item
use Rattle.clif_inst_builder.specs.Shapes.{edge_to}

-- The call goes on in block2 with what it returns. An exception with the tag 1 goes to block3 with its first part, and any other one
-- to block4. The context is beside them.
abbrev pub tagged_table : ℕ → ℕ → ExceptionShape
tagged_table sig context = record {
  sig = sig;
  edges = edge_to 2 (arg.TryCallRet 0 ∷ []) ∷ edge_to 3 (arg.TryCallExn 0 ∷ []) ∷ edge_to 4 [] ∷ [];
  items = item.Tag 1 ∷ item.Default ∷ item.Context context ∷ [];
}

-- The call goes on in block1 with a value and with what it returns. Any exception goes to block2 with what is passed.
abbrev pub passing_table : ℕ → ℕ → List BlockArg → ExceptionShape
passing_table sig value thrown = record {
  sig = sig;
  edges = edge_to 1 (arg.Value value ∷ arg.TryCallRet 0 ∷ []) ∷ edge_to 2 thrown ∷ [];
  items = item.Default ∷ [];
}
