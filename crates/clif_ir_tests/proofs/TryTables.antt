-- An exception table that goes to a block which is there may serve a try call of a signature that is there.
use Rattle.std.proofs.Common.{◌≡◌, ◌<◌, ℕ, [], ◌∷◌, length}
use Rattle.std.specs.Prelude.{Some}
use Rattle.std.proofs.lemmas.List.Elements.{All-cons, All-nil}
use Rattle.clif_instructions.specs.declared.block_call.BlockArg.TheVariants.{TryCallRet}
use Rattle.clif_inst_builder.specs.Served.{exception_tables, unserved_in}
use Rattle.clif_ir.specs.Consistent.{EdgeExists, PassedExists, ValueExists}
use Rattle.clif_cursor.specs.declared.cursor.FuncCursor.{FuncCursor}
use Rattle.clif_cursor.specs.Cursor.{MayServe}
use Rattle.clif_ir_tests.specs.Tables.{to_block}

pub serves : (c : FuncCursor) (table sig after : ℕ) → unserved_in exception_tables c.func.now.tables table ≡ Some (to_block sig after)
    → after < length c.func.now.blocks → sig < length c.func.now.tables.signatures → MayServe exception_tables c table
serves c table sig after held block signature =
    let passed = All-cons (PassedExists c.func.now) (TryCallRet 0) [] tt (All-nil (PassedExists c.func.now)) in
    let edges = All-cons (EdgeExists c.func.now) (record { block = after; args = TryCallRet 0 ∷ [] }) [] (block, passed) (All-nil (EdgeExists c.func.now)) in
    (to_block sig after, held, (edges, All-nil (ValueExists c.func.now), signature))
