-- What the check asks of an instruction is what the premises on scripts ask of one.
use Rattle.std.proofs.Common.{◌≡◌, ℕ, List, [], length, take, drop, refl, sym, subst, ◌∙◌}
use Rattle.std.specs.Prelude.{IsTrue}
use Rattle.std.proofs.lemmas.List.{take-map, drop-map}
use Rattle.clif_types.specs.declared.types.«Type».{«Type»}
use Rattle.clif_opcodes.specs.declared.kinds.OperandKind.{OperandKind}
use Rattle.clif_opcodes.specs.declared.kinds.OtherOperands.{OtherOperands}
use Rattle.clif_opcodes.specs.declared.kinds.OtherOperands.TheVariants as others
use Rattle.clif_opcodes.specs.declared.opcodes.FloatConstOpcode.TheVariants as float
use Rattle.clif_opcodes.specs.declared.opcodes.PooledConstOpcode.TheVariants as pooled
use Rattle.clif_opcodes.specs.declared.opcodes.StackOpcode.TheVariants as stack
use Rattle.clif_opcodes.specs.Kinds.{is_met}
use Rattle.clif_opcodes.specs.Typing.{AreOfKinds, FitOperands, Row}
use Rattle.clif_instructions.specs.declared.instructions.InstructionData.{InstructionData}
use Rattle.clif_instructions.specs.declared.instructions.InstructionData.TheVariants.{UnaryImm, UnaryIeee, UnaryConst, Unary, Binary, IntCompare, Concat, Split, Convert, Ternary, Load, Store, StackLoad, StackStore, Jump, Brif, BranchTable, MultiAry, Trap, CondTrap, Call, CallIndirect, TryCall, TryCallIndirect}
use Rattle.clif_instructions.specs.Instruction.{operands, typing_of}
use Rattle.clif_nodes.specs.declared.nodes.InstNode.{InstNode}
use Rattle.clif_ir.specs.Body.{Body, inst_at, block_at}
use Rattle.clif_tables.specs.Callees.{types_of}
use Rattle.clif_meaning.specs.Typing as premise
use Rattle.clif_meaning.specs.View.{instruction_of}
use Rattle.clif_meaning.proofs.OperationTypes.{operation_typed}
use Rattle.clif_check.specs.declared.error.CheckErrorKind.{CheckErrorKind}
use Rattle.clif_check.specs.declared.error.CheckErrorKind.TheVariants as kind
use Rattle.clif_check.specs.WellTyped.{AgreesWithPremise, FitCallee, FitReturns, HasOperands, IsRight, callee_types, controlling_type, fixed_operands, type_at, types_at}

-- what returns has no operands but those that it returns
no_others : {X : Type 0} → others.Nothing ≡ others.Returned → X
no_others {X} same = absurd (never same)
  where
    never : others.Nothing ≡ others.Returned → ⊥
    never is = cc

no_call : {X : Type 0} → others.Arguments ≡ others.Returned → X
no_call {X} same = absurd (never same)
  where
    never : others.Arguments ≡ others.Returned → ⊥
    never is = cc

returns_alone : (shape : InstructionData) → (typing_of shape).others ≡ others.Returned → (typing_of shape).operands ≡ []
returns_alone (UnaryImm imm) is = no_others is
returns_alone (UnaryIeee float.F16const bits) is = no_others is
returns_alone (UnaryIeee float.F32const bits) is = no_others is
returns_alone (UnaryIeee float.F64const bits) is = no_others is
returns_alone (UnaryConst pooled.F128const constant) is = no_others is
returns_alone (UnaryConst pooled.Vconst constant) is = no_others is
returns_alone (Unary opcode arg) is = no_others is
returns_alone (Binary opcode args) is = no_others is
returns_alone (IntCompare cond args) is = no_others is
returns_alone (Concat args) is = no_others is
returns_alone (Split arg) is = no_others is
returns_alone (Convert opcode arg) is = no_others is
returns_alone (Ternary args) is = no_others is
returns_alone (Load flags arg offset) is = no_others is
returns_alone (Store flags args offset) is = no_others is
returns_alone (StackLoad stack.StackAddr slot offset) is = no_others is
returns_alone (StackLoad stack.StackLoad slot offset) is = no_others is
returns_alone (StackStore arg slot offset) is = no_others is
returns_alone (Jump destination) is = no_others is
returns_alone (Brif arg blocks) is = no_others is
returns_alone (BranchTable arg table) is = no_others is
returns_alone (MultiAry args) is = refl
returns_alone (Trap code) is = no_others is
returns_alone (CondTrap opcode arg code) is = no_others is
returns_alone (Call function args) is = no_call is
returns_alone (CallIndirect sig args) is = no_call is
returns_alone (TryCall function args table) is = no_call is
returns_alone (TryCallIndirect args table) is = no_call is

-- the operands, in one piece and in three
fits : (f : Body) (returns arguments : List «Type») (ty : «Type») (which : OtherOperands) (kinds : List OperandKind) (found : List ℕ)
    → AreOfKinds ty kinds (types_at f (fixed_operands which (length kinds) found)) → FitCallee which (types_at f (drop (length kinds) found)) arguments
    → FitReturns which (types_at f found) returns → FitOperands returns arguments ty which kinds (types_at f found)
fits f returns arguments ty others.Nothing kinds found fixed callee returned = fixed
fits f returns arguments ty others.Returned kinds found fixed callee returned = returned
fits f returns arguments ty others.Arguments kinds found fixed callee returned =
    (subst (λ types. AreOfKinds ty kinds types) (sym (take-map (type_at f) (length kinds) found)) fixed, drop-map (type_at f) (length kinds) found ∙ callee)

fit_fixed : (f : Body) (returns arguments : List «Type») (ty : «Type») (which : OtherOperands) (kinds : List OperandKind) (found : List ℕ)
    → (which ≡ others.Returned → kinds ≡ []) → FitOperands returns arguments ty which kinds (types_at f found)
    → AreOfKinds ty kinds (types_at f (fixed_operands which (length kinds) found))
fit_fixed f returns arguments ty others.Nothing kinds found alone fit = fit
fit_fixed f returns arguments ty others.Returned kinds found alone fit =
    subst (λ (all : List OperandKind). AreOfKinds ty all (types_at f (take (length all) found))) (sym (alone refl)) tt
fit_fixed f returns arguments ty others.Arguments kinds found alone fit =
    subst (λ types. AreOfKinds ty kinds types) (take-map (type_at f) (length kinds) found) fit.0

fit_callee : (f : Body) (returns arguments : List «Type») (ty : «Type») (which : OtherOperands) (kinds : List OperandKind) (found : List ℕ)
    → FitOperands returns arguments ty which kinds (types_at f found) → FitCallee which (types_at f (drop (length kinds) found)) arguments
fit_callee f returns arguments ty others.Nothing kinds found fit = tt
fit_callee f returns arguments ty others.Returned kinds found fit = tt
fit_callee f returns arguments ty others.Arguments kinds found fit = sym (drop-map (type_at f) (length kinds) found) ∙ fit.1

fit_returns : (f : Body) (returns arguments : List «Type») (ty : «Type») (which : OtherOperands) (kinds : List OperandKind) (found : List ℕ)
    → FitOperands returns arguments ty which kinds (types_at f found) → FitReturns which (types_at f found) returns
fit_returns f returns arguments ty others.Nothing kinds found fit = tt
fit_returns f returns arguments ty others.Returned kinds found fit = fit
fit_returns f returns arguments ty others.Arguments kinds found fit = tt

abbrev Takes : Body → InstNode → Row → Type 0
Takes f node row =
    FitOperands (types_of f.signature.returns) (callee_types f.tables node.shape) (controlling_type f node) row.others row.operands (types_at f (operands node.shape))

abbrev IsMade : Body → InstNode → Row → Type 0
IsMade f node row = IsTrue (is_met row.demand (controlling_type f node))

abbrev Premise : Body → InstNode → Type 0
Premise f node =
    premise.IsWellTyped (type_at f) (λ block. types_at f (block_at f block).params) (types_of f.signature.returns) (instruction_of f node)

premised : (f : Body) (node : InstNode) → ((kind : CheckErrorKind) → IsRight f node kind) → Premise f node
premised f node right =
    let has : HasOperands f node = right kind.Operand in
    let takes : Takes f node (typing_of node.shape) =
    fits f (types_of f.signature.returns) (callee_types f.tables node.shape) (controlling_type f node) (typing_of node.shape).others (typing_of node.shape).operands
    (operands node.shape) has.kinds (right kind.Arguments) (right kind.Return) in
    record {
      made_at = subst (λ (row : Row). IsMade f node row) (sym (operation_typed f.tables node.shape)) has.made_at;
      operands = subst (λ (row : Row). Takes f node row) (sym (operation_typed f.tables node.shape)) takes;
      edges = right kind.Edge;
    }

checked : (f : Body) (node : InstNode) → Premise f node → (kind : CheckErrorKind) → IsRight f node kind
checked f node holds = by
  where
    takes : Takes f node (typing_of node.shape)
    takes = subst (λ (row : Row). Takes f node row) (operation_typed f.tables node.shape) holds.operands

    by : (kind : CheckErrorKind) → IsRight f node kind
    by kind.Operand = record {
      made_at = subst (λ (row : Row). IsMade f node row) (operation_typed f.tables node.shape) holds.made_at;
      kinds = fit_fixed f (types_of f.signature.returns) (callee_types f.tables node.shape) (controlling_type f node) (typing_of node.shape).others
          (typing_of node.shape).operands (operands node.shape) (returns_alone node.shape) takes;
    }
    by kind.Arguments =
        fit_callee f (types_of f.signature.returns) (callee_types f.tables node.shape) (controlling_type f node) (typing_of node.shape).others
        (typing_of node.shape).operands (operands node.shape) takes
    by kind.Return =
        fit_returns f (types_of f.signature.returns) (callee_types f.tables node.shape) (controlling_type f node) (typing_of node.shape).others
        (typing_of node.shape).operands (operands node.shape) takes
    by kind.Edge = holds.edges

pub agrees : AgreesWithPremise
agrees f inst = (premised f (inst_at f inst), checked f (inst_at f inst))
