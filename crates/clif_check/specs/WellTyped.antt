-- When an instruction of a function is well typed: by the typing table, by the signature of what it calls, by what the
-- function's own signature returns, and by the parameters of the blocks to which its edges lead. Source: own, after
-- Cranelift's documentation of its instructions; with the words of the premises on scripts.
use Rattle.std.specs.Prelude.{◌≡◌, ◌<◌, ℕ, List, [], ◌∷◌, ◌++◌, map, length, take, drop, IsTrue, ◌↔◌, Some, All, EachIndex, slice_index}
use Rattle.std.specs.List.{AllByRecursion, flat_map}
use Rattle.clif_types.specs.declared.types.«Type».{«Type»}
use Rattle.clif_opcodes.specs.declared.kinds.OtherOperands.{OtherOperands}
use Rattle.clif_opcodes.specs.declared.kinds.OtherOperands.TheVariants as others
use Rattle.clif_opcodes.specs.Kinds.{is_met}
use Rattle.clif_opcodes.specs.Typing.{AreOfKinds}
use Rattle.clif_instructions.specs.declared.block_call.BlockArg.{BlockArg}
use Rattle.clif_instructions.specs.declared.block_call.BlockCall.{BlockCall}
use Rattle.clif_instructions.specs.declared.instructions.InstructionData.{InstructionData}
use Rattle.clif_instructions.specs.ExceptionTables.{ExceptionShape}
use Rattle.clif_instructions.specs.Instruction.{operands, typing_of}
use Rattle.clif_tables.specs.Lists.{TableLists}
use Rattle.clif_nodes.specs.declared.nodes.InstNode.{InstNode}
use Rattle.clif_ir.specs.Body.{Body, value_at, inst_at, block_at}
use Rattle.clif_tables.specs.Callees.{types_of}
use Rattle.clif_meaning.specs.Typing.{argument_type, argument_types, call_shape, EdgeMatches, EachEdgeMatches}
use Rattle.clif_meaning.specs.Typing as premise
use Rattle.clif_meaning.specs.View.{argument_of, controlling_of, edge_of, edges_of, instruction_of, operation_of, try_call_of}
use Rattle.clif_check.specs.declared.error.CheckError.{CheckError}
use Rattle.clif_check.specs.declared.error.CheckErrorKind.{CheckErrorKind}
use Rattle.clif_check.specs.declared.error.CheckErrorKind.TheVariants as kind

-- OPERANDS --------------------------------------------------------------------------------------------------------------

abbrev pub type_at : Body → ℕ → «Type»
type_at f value = (value_at f value).ty

abbrev pub types_at : Body → List ℕ → List «Type»
types_at f values = map (type_at f) values

-- the operands whose number the typing table gives: all of them, except where others may follow
abbrev pub fixed_operands : OtherOperands → ℕ → List ℕ → List ℕ
fixed_operands others.Nothing count found = found
fixed_operands _ count found = take count found

-- the type that an instruction is made at
abbrev pub controlling_type : Body → InstNode → «Type»
controlling_type f node = controlling_of f node.shape node.results

-- The instruction is defined at its controlling type, and its operands are of the kinds that the typing table has for them.
pub record HasOperands (f : Body) (node : InstNode) : Type 0 where
  pub made_at : IsTrue (is_met (typing_of node.shape).demand (controlling_type f node))
  pub kinds : AreOfKinds (controlling_type f node) (typing_of node.shape).operands
      (types_at f (fixed_operands (typing_of node.shape).others (length (typing_of node.shape).operands) (operands node.shape)))

-- The operands after those have the types of the parameters of what is called.
abbrev pub FitCallee : OtherOperands → (found expected : List «Type») → Type 0
FitCallee others.Arguments found expected = found ≡ expected
FitCallee _ found expected = Unit {0}

-- the types of the parameters of what an instruction calls; none where it calls nothing
abbrev pub callee_types : TableLists → InstructionData → List «Type»
callee_types tables shape = argument_types (call_shape (operation_of tables shape))

abbrev pub HasArguments : Body → InstNode → Type 0
HasArguments f node =
    FitCallee (typing_of node.shape).others (types_at f (drop (length (typing_of node.shape).operands) (operands node.shape)))
    (callee_types f.tables node.shape)

-- The operands have the types that the function returns.
abbrev pub FitReturns : OtherOperands → (found expected : List «Type») → Type 0
FitReturns others.Returned found expected = found ≡ expected
FitReturns _ found expected = Unit {0}

abbrev pub HasReturned : Body → InstNode → Type 0
HasReturned f node = FitReturns (typing_of node.shape).others (types_at f (operands node.shape)) (types_of f.signature.returns)

-- The arguments of each edge and the parameters of its target agree in number, order and type. The normal edge of a try call
-- may pass what its signature returns, and the edge of an item the parts of an exception.
abbrev pub HasEdges : Body → InstNode → Type 0
HasEdges f node =
    EachEdgeMatches (type_at f) (λ block. types_at f (block_at f block).params) (call_shape (operation_of f.tables node.shape)) (edges_of node.shape)

-- the same of one edge, at whose start a call gives results and a payload of these types, and of one argument of it
abbrev pub Matches : Body → (results payload : List «Type») → BlockCall → Type 0
Matches f results payload edge = EdgeMatches (type_at f) (λ block. types_at f (block_at f block).params) results payload (edge_of edge)

abbrev pub HasType : Body → (results payload : List «Type») → BlockArg → «Type» → Type 0
HasType f results payload argument ty = argument_type (type_at f) results payload (argument_of argument) ≡ Some ty

-- and of several edges
abbrev pub AllMatch : Body → (results payload : List «Type») → List BlockCall → Type 0
AllMatch f results payload edges =
    AllByRecursion (EdgeMatches (type_at f) (λ block. types_at f (block_at f block).params) results payload) (map edge_of edges)

-- the same of the edges of a call with this exception table
abbrev pub TryCallMatches : Body → ExceptionShape → Type 0
TryCallMatches f table =
    EachEdgeMatches (type_at f) (λ block. types_at f (block_at f block).params) (Some (try_call_of f.tables table)) (map edge_of table.edges)

-- INSTRUCTIONS ----------------------------------------------------------------------------------------------------------

-- what is asked of an instruction, by the kind of the error that is told where it isn't so
abbrev pub IsRight : Body → InstNode → CheckErrorKind → Type 0
IsRight f node kind.Operand = HasOperands f node
IsRight f node kind.Arguments = HasArguments f node
IsRight f node kind.Return = HasReturned f node
IsRight f node kind.Edge = HasEdges f node

-- the kinds that are told rather than this one
abbrev pub kinds_before : CheckErrorKind → List CheckErrorKind
kinds_before kind.Operand = []
kinds_before kind.Arguments = kind.Operand ∷ []
kinds_before kind.Return = kind.Operand ∷ kind.Arguments ∷ []
kinds_before kind.Edge = kind.Operand ∷ kind.Arguments ∷ kind.Return ∷ []

-- all of it is so
abbrev pub IsWellTyped : Body → ℕ → Type 0
IsWellTyped f inst = (kind : CheckErrorKind) → IsRight f (inst_at f inst) kind

-- this is the first of it that isn't so
pub record Fails (f : Body) (inst : ℕ) (kind : CheckErrorKind) : Type 0 where
  pub before : AllByRecursion (IsRight f (inst_at f inst)) (kinds_before kind)
  pub fails : IsRight f (inst_at f inst) kind → ⊥

-- FUNCTIONS -------------------------------------------------------------------------------------------------------------

abbrev pub insts_of : Body → ℕ → List ℕ
insts_of f block = (block_at f block).insts

-- the instructions of the layout's blocks, in order
abbrev pub insts_in_order : Body → List ℕ
insts_in_order f = flat_map (insts_of f) f.layout

-- the error of the first of these instructions that isn't well typed
pub record IsFirstError (f : Body) (insts : List ℕ) (error : CheckError) : Type 0 where
  pub before : List ℕ
  pub after : List ℕ
  pub order : insts ≡ before ++ error.inst ∷ after
  pub passed : All (IsWellTyped f) before
  pub fails : Fails f error.inst error.kind

-- values of the function
abbrev pub ValuesExist : Body → List ℕ → Type 0
ValuesExist f values = EachIndex values (λ k. slice_index values k < length f.values)

-- LAWS ------------------------------------------------------------------------------------------------------------------

-- An instruction is well typed exactly where the premises on scripts call an instruction well typed.
abbrev pub AgreesWithPremise : Type 0
AgreesWithPremise =
    (f : Body) (inst : ℕ) → IsWellTyped f inst
    ↔ premise.IsWellTyped (type_at f) (λ block. types_at f (block_at f block).params) (types_of f.signature.returns)
    (instruction_of f (inst_at f inst))
