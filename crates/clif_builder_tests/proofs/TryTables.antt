-- The exception tables that were made may serve a try call, where what they name is there.
use Rattle.std.proofs.Common.{◌≡◌, ◌<◌, ℕ, List, [], ◌∷◌, length}
use Rattle.std.specs.Prelude.{All, Some}
use Rattle.std.proofs.lemmas.List.Elements.{All-cons, All-nil}
use Rattle.clif_instructions.specs.declared.block_call.BlockArg.{BlockArg}
use Rattle.clif_instructions.specs.declared.block_call.BlockArg.TheVariants as arg
use Rattle.clif_instructions.specs.declared.block_call.BlockCall.{BlockCall}
use Rattle.clif_instructions.specs.ExceptionTables.{contexts_of}
use Rattle.clif_inst_builder.specs.Served.{exception_tables}
use Rattle.clif_inst_builder.specs.Shapes.{edge_to}
use Rattle.clif_ir.specs.Consistent.{ValueExists}
use Rattle.clif_builder.specs.declared.builder.FunctionBuilder.{FunctionBuilder}
use Rattle.clif_builder.specs.Builder.{CanLead}
use Rattle.clif_builder.specs.Entries.{MayServeTry, table_held}
use Rattle.clif_builder_tests.specs.TryTables.{passing_table, tagged_table}

pub serves : {R : Type 0} (b : FunctionBuilder R) (table sig context : ℕ)
    → table_held exception_tables b table ≡ Some (tagged_table sig context)
    → sig < length b.func.now.tables.signatures → context < length b.func.now.values
    → CanLead b (edge_to 2 (arg.TryCallRet 0 ∷ [])) → CanLead b (edge_to 3 (arg.TryCallExn 0 ∷ [])) → CanLead b (edge_to 4 [])
    → MayServeTry b table
serves b table sig context held signature named returned tagged other =
    let others : List BlockCall = edge_to 4 [] ∷ [] in
    let thrown : List BlockCall = edge_to 3 (arg.TryCallExn 0 ∷ []) ∷ others in
    let rest : All (CanLead b) others = All-cons (CanLead b) (edge_to 4 []) [] other (All-nil (CanLead b)) in
    let caught : All (CanLead b) thrown = All-cons (CanLead b) (edge_to 3 (arg.TryCallExn 0 ∷ [])) others tagged rest in
    let edges : All (CanLead b) (tagged_table sig context).edges =
    All-cons (CanLead b) (edge_to 2 (arg.TryCallRet 0 ∷ [])) thrown returned caught in
    let contexts : All (ValueExists b.func.now) (contexts_of (tagged_table sig context)) =
    All-cons (ValueExists b.func.now) context [] named (All-nil (ValueExists b.func.now)) in
    (tagged_table sig context, held, (edges, contexts, signature))

pub passing_serves : {R : Type 0} (b : FunctionBuilder R) (table sig value : ℕ) (thrown : List BlockArg)
    → table_held exception_tables b table ≡ Some (passing_table sig value thrown)
    → sig < length b.func.now.tables.signatures
    → CanLead b (edge_to 1 (arg.Value value ∷ arg.TryCallRet 0 ∷ [])) → CanLead b (edge_to 2 thrown)
    → MayServeTry b table
passing_serves b table sig value thrown held signature returned other =
    let others : List BlockCall = edge_to 2 thrown ∷ [] in
    let rest : All (CanLead b) others = All-cons (CanLead b) (edge_to 2 thrown) [] other (All-nil (CanLead b)) in
    let edges : All (CanLead b) (passing_table sig value thrown).edges =
    All-cons (CanLead b) (edge_to 1 (arg.Value value ∷ arg.TryCallRet 0 ∷ [])) others returned rest in
    (passing_table sig value thrown, held, (edges, All-nil (ValueExists b.func.now), signature))
