-- Tables that the tests make. Source: own.
use Rattle.std.specs.Prelude.{ℕ, List, [], ◌∷◌}
use Rattle.clif_instructions.specs.declared.block_call.BlockCall.{BlockCall}
use Rattle.clif_instructions.specs.declared.block_call.BlockArg.TheVariants.{TryCallRet}
use Rattle.clif_instructions.specs.ExceptionTables.{ExceptionShape}

-- an exception table of this signature that goes to a block with the first value that the call gives, and catches nothing
abbrev pub to_block : ℕ → ℕ → ExceptionShape
to_block sig block = record { sig = sig; edges = record { block = block; args = TryCallRet 0 ∷ [] } ∷ []; items = [] }

-- the edges of a jump table to these blocks, the default first, that pass nothing
abbrev pub two_edges : ℕ → ℕ → List BlockCall
two_edges default other = record { block = default; args = [] } ∷ record { block = other; args = [] } ∷ []
