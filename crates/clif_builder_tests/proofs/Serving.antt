-- The tables that were made may serve an instruction, where what they name is there.
use Rattle.std.proofs.Common.{◌≡◌, ◌<◌, ℕ, List, [], ◌∷◌, length}
use Rattle.std.specs.Prelude.{All, Some}
use Rattle.std.proofs.lemmas.List.Elements.{All-cons, All-nil}
use Rattle.clif_instructions.specs.declared.block_call.BlockArg.TheVariants as arg
use Rattle.clif_instructions.specs.declared.block_call.BlockCall.{BlockCall}
use Rattle.clif_inst_builder.specs.Served.{exception_tables, jump_tables}
use Rattle.clif_inst_builder.specs.Shapes.{edge_to}
use Rattle.clif_ir.specs.Consistent.{ValueExists}
use Rattle.clif_builder.specs.declared.builder.FunctionBuilder.{FunctionBuilder}
use Rattle.clif_builder.specs.Builder.{CanLead}
use Rattle.clif_builder.specs.Entries.{MayServe, MayServeTry, table_held}
use Rattle.clif_builder_tests.specs.RowTables.{bare_table, catching_table, entries_passing}

pub branch_serves : {R : Type 0} (b : FunctionBuilder R) (table value : ℕ)
    → table_held jump_tables b table ≡ Some (entries_passing value)
    → CanLead b (edge_to 1 (arg.Value value ∷ [])) → CanLead b (edge_to 2 [])
    → MayServe b table
branch_serves b table value held passing plain =
    let last : List BlockCall = edge_to 2 [] ∷ [] in
    let entries : List BlockCall = edge_to 1 (arg.Value value ∷ []) ∷ last in
    let rest : All (CanLead b) last = All-cons (CanLead b) (edge_to 2 []) [] plain (All-nil (CanLead b)) in
    let both : All (CanLead b) entries = All-cons (CanLead b) (edge_to 1 (arg.Value value ∷ [])) last passing rest in
    let edges : All (CanLead b) (entries_passing value) = All-cons (CanLead b) (edge_to 2 []) entries plain both in
    (entries_passing value, held, edges)

pub catching_serves : {R : Type 0} (b : FunctionBuilder R) (table sig : ℕ)
    → table_held exception_tables b table ≡ Some (catching_table sig)
    → sig < length b.func.now.tables.signatures
    → CanLead b (edge_to 1 (arg.TryCallRet 0 ∷ [])) → CanLead b (edge_to 3 (arg.TryCallExn 1 ∷ []))
    → MayServeTry b table
catching_serves b table sig held signature returned thrown =
    let caught : List BlockCall = edge_to 3 (arg.TryCallExn 1 ∷ []) ∷ [] in
    let rest : All (CanLead b) caught = All-cons (CanLead b) (edge_to 3 (arg.TryCallExn 1 ∷ [])) [] thrown (All-nil (CanLead b)) in
    let edges : All (CanLead b) (catching_table sig).edges =
    All-cons (CanLead b) (edge_to 1 (arg.TryCallRet 0 ∷ [])) caught returned rest in
    (catching_table sig, held, (edges, All-nil (ValueExists b.func.now), signature))

pub bare_serves : {R : Type 0} (b : FunctionBuilder R) (table sig : ℕ)
    → table_held exception_tables b table ≡ Some (bare_table sig)
    → sig < length b.func.now.tables.signatures → CanLead b (edge_to 1 (arg.TryCallRet 0 ∷ []))
    → MayServeTry b table
bare_serves b table sig held signature returned =
    let edges : All (CanLead b) (bare_table sig).edges =
    All-cons (CanLead b) (edge_to 1 (arg.TryCallRet 0 ∷ [])) [] returned (All-nil (CanLead b)) in
    (bare_table sig, held, (edges, All-nil (ValueExists b.func.now), signature))
