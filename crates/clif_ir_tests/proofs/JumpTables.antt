-- A jump table whose blocks are there may serve a branch.
use Rattle.std.proofs.Common.{◌≡◌, ◌<◌, ℕ, [], ◌∷◌, length}
use Rattle.std.specs.Prelude.{Some}
use Rattle.std.proofs.lemmas.List.Elements.{All-cons, All-nil}
use Rattle.clif_inst_builder.specs.Served.{jump_tables, unserved_in}
use Rattle.clif_ir.specs.Consistent.{EdgeExists, PassedExists}
use Rattle.clif_cursor.specs.declared.cursor.FuncCursor.{FuncCursor}
use Rattle.clif_cursor.specs.Cursor.{MayServe}
use Rattle.clif_ir_tests.specs.Tables.{two_edges}

pub serves : (c : FuncCursor) (table default other : ℕ) → unserved_in jump_tables c.func.now.tables table ≡ Some (two_edges default other)
    → default < length c.func.now.blocks → other < length c.func.now.blocks → MayServe jump_tables c table
serves c table default other held first second =
    let passed = All-nil (PassedExists c.func.now) in
    let last = All-cons (EdgeExists c.func.now) (record { block = other; args = [] }) [] (second, passed) (All-nil (EdgeExists c.func.now)) in
    (two_edges default other, held, All-cons (EdgeExists c.func.now) (record { block = default; args = [] }) (record { block = other; args = [] } ∷ []) (first, passed) last)
