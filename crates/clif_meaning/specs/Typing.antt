-- Types of operands, by the typing table, and of what edges pass. After the documentation of Cranelift's instructions.
use Rattle.std.specs.Prelude.{◌≡◌, ℕ, List, [], ◌∷◌, map, Option, Some, None, slice_get, IsTrue}
use Rattle.std.specs.List.{AllByRecursion}
use Rattle.clif_types.specs.declared.types.«Type».{«Type»}
use Rattle.clif_opcodes.specs.Kinds.{is_met}
use Rattle.clif_opcodes.specs.Typing.{FitOperands, Row}
use Rattle.clif_meaning.specs.Instruction.{Operation, Call, CallIndirect, TryCall, TryCallIndirect, operation_typing, Argument, Known, CallResult, CallPayload, Edge, Instruction}
use Rattle.clif_meaning.specs.Event.{CallShape, payload_types, plain_call}
use Rattle.clif_tables.specs.Callees.{types_of}
use Rattle.clif_meaning.specs.FunctionView.{FunctionView}

-- The table of operations: the shape of the call that it makes, if it makes one.
abbrev pub call_shape : Operation → Option CallShape
call_shape (Call name signature) = Some (plain_call signature)
call_shape (CallIndirect signature) = Some (plain_call signature)
call_shape (TryCall name call) = Some call
call_shape (TryCallIndirect call) = Some call
call_shape _ = None

-- the type of what an edge passes, where the call at its start gives results and a payload of these types there. What
-- the call doesn't give there has none.
abbrev pub argument_type : {Operand : Type 0} → (Operand → «Type») → List «Type» → List «Type» → Argument Operand → Option «Type»
argument_type type_of results payload (Known operand) = Some (type_of operand)
argument_type type_of results payload (CallResult index) = slice_get results index
argument_type type_of results payload (CallPayload index) = slice_get payload index

-- the arguments of an edge and the parameters of its target agree in number, order and type
abbrev pub EdgeMatches : {Block Operand : Type 0} → (Operand → «Type») → (Block → List «Type») → List «Type» → List «Type» → Edge Block Operand → Type 0
EdgeMatches type_of parameter_types results payload edge =
    map (argument_type type_of results payload) edge.arguments ≡ map (λ ty. Some ty) (parameter_types edge.target)

-- Each edge of an instruction does. The normal edge of a try call, the first one, may pass the call's results, and the
-- edge of an item the parts of an exception's payload; every other edge passes operands alone.
abbrev pub EachEdgeMatches : {Block Operand : Type 0} → (Operand → «Type») → (Block → List «Type») → Option CallShape → List (Edge Block Operand) → Type 0
EachEdgeMatches type_of parameter_types None edges = AllByRecursion (EdgeMatches type_of parameter_types [] []) edges
EachEdgeMatches type_of parameter_types (Some call) [] = Unit {0}
EachEdgeMatches type_of parameter_types (Some call) (normal ∷ items) =
    EdgeMatches type_of parameter_types (types_of call.signature.returns) [] normal
    × AllByRecursion (EdgeMatches type_of parameter_types [] payload_types) items

-- the types of what a call takes; none where there is no call
abbrev pub argument_types : Option CallShape → List «Type»
argument_types None = []
argument_types (Some call) = types_of call.signature.params

-- operands of these types are those that the operation takes, at a controlling type, in a function that returns these types
abbrev pub TakesOperands : List «Type» → Operation → «Type» → List «Type» → Type 0
TakesOperands returns operation ty types =
    let row : Row = operation_typing operation in
    FitOperands returns (argument_types (call_shape operation)) ty row.others row.operands types

-- the operands have their types, and so has what each edge passes
pub record IsWellTyped {Block Operand : Type 0} (type_of : Operand → «Type») (parameter_types : Block → List «Type») (returns : List «Type») (instruction : Instruction Block Operand) : Type 0 where
  pub made_at : IsTrue (is_met (operation_typing instruction.operation).demand instruction.controlling)
  pub operands : TakesOperands returns instruction.operation instruction.controlling (map type_of instruction.operands)
  pub edges : EachEdgeMatches type_of parameter_types (call_shape instruction.operation) instruction.edges

-- the types of a block's parameters in a function
abbrev pub value_types_at : FunctionView → ℕ → List «Type»
value_types_at function block = map function.value_type (function.blocks block).parameters

-- In a function, the arguments of every edge and the parameters of its target agree in number, order and type.
abbrev pub EdgesMatch : FunctionView → Type 0
EdgesMatch function =
    (block : ℕ) → AllByRecursion (λ placed. EachEdgeMatches function.value_type (value_types_at function)
    (call_shape placed.instruction.operation) placed.instruction.edges) (function.blocks block).items
