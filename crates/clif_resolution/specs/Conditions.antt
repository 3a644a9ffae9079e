-- What a call asks of the builder and of what its names lead to. Own.
use Rattle.std.specs.Prelude.{◌≡◌, ℕ, List, length, map, is_some, not, ◌&&◌, nat_lt, Bool, true, false, Option, Some, None}
use Rattle.std.specs.List.{list_all}
use Rattle.clif_instructions.specs.declared.block_call.BlockCall.{BlockCall}
use Rattle.clif_instructions.specs.ExceptionTables.{ExceptionShape}
use Rattle.clif_inst_builder.specs.Served.{exception_tables}
use Rattle.clif_records.specs.Tables.{is_yes}
use Rattle.clif_ssa.specs.Ssa.{sealed_of}
use Rattle.clif_builder.specs.declared.builder.FunctionBuilder.{FunctionBuilder}
use Rattle.clif_builder.specs.Context.{ContextState, status_of}
use Rattle.clif_builder.specs.Builder.{is_filled_status}
use Rattle.clif_builder.specs.Entries.{table_edges, table_held}
use Rattle.clif_calls.specs.declared.call.Edge.{Edge}
use Rattle.clif_calls.specs.declared.table.TableEdge.{TableEdge}
use Rattle.clif_resolution.specs.declared.answers.Answer.{Answer}
use Rattle.clif_resolution.specs.Answers.{block_of, all_values, argument_of, passed_in, all_passed}

-- there is a current block, and no terminator was appended to it
abbrev pub is_open_at : Option ℕ → ContextState → Bool
is_open_at None c = false
is_open_at (Some block) c = not (is_filled_status (status_of c block))

abbrev pub is_open : {R : Type 0} → FunctionBuilder R → Bool
is_open b = is_open_at b.position b.ctx.now.parts

-- a block may be sealed
abbrev pub can_seal : {R : Type 0} → FunctionBuilder R → ℕ → Bool
can_seal b block = not (is_yes (sealed_of b.ctx.now.parts.ssa block))

-- a name leads to a block that isn't sealed
abbrev pub is_target : {R : Type 0} → FunctionBuilder R → Option ℕ → Bool
is_target b None = false
is_target b (Some block) = can_seal b block

-- an edge may be made: its target isn't sealed, and each other name leads to a value
abbrev pub may_lead : {R : Type 0} → FunctionBuilder R → List Answer → Edge → Bool
may_lead b answers edge = is_target b (block_of answers edge.block) && all_values b.func.now answers edge.args.items

-- the edge to which the names of such an edge lead
pub record IsFound {R : Type 0} (b : FunctionBuilder R) (answers : List Answer) (edge : Edge) (call : BlockCall) : Type 0 where
  pub target : block_of answers edge.block ≡ Some call.block
  pub unsealed : can_seal b call.block ≡ true
  pub passed : map (argument_of b.func.now answers) edge.args.items ≡ map Some call.args

-- an edge of a table is there: its target, and what it passes
abbrev pub has_edge : {R : Type 0} → FunctionBuilder R → List Answer → TableEdge → Bool
has_edge b answers edge = is_some (block_of answers edge.block) && all_passed b.func.now answers edge.args.items

-- the edge to which the names of such an edge lead, whether its target is sealed or not
pub record IsEdge {R : Type 0} (b : FunctionBuilder R) (answers : List Answer) (edge : TableEdge) (call : BlockCall) : Type 0 where
  pub target : block_of answers edge.block ≡ Some call.block
  pub passed : map (passed_in b.func.now answers) edge.args.items ≡ map Some call.args

-- there is such a jump table, it serves no instruction so far, and no target of its edges is sealed
abbrev pub serves_at : {R : Type 0} → FunctionBuilder R → Option (List BlockCall) → Bool
serves_at b None = false
serves_at b (Some edges) = list_all (λ edge. can_seal b edge.block) edges

abbrev pub serves : {R : Type 0} → FunctionBuilder R → ℕ → Bool
serves b table = serves_at b (table_edges b table)

-- there is such an exception table, it serves no instruction so far, no target of its edges is sealed, and its signature was
-- imported
abbrev pub tries_at : {R : Type 0} → FunctionBuilder R → Option ExceptionShape → Bool
tries_at b None = false
tries_at b (Some held) = list_all (λ edge. can_seal b edge.block) held.edges && nat_lt held.sig (length b.func.now.tables.signatures)

abbrev pub tries : {R : Type 0} → FunctionBuilder R → ℕ → Bool
tries b table = tries_at b (table_held exception_tables b table)
