-- The instruction that a plan asks for, with what its names lead to. Own.
use Rattle.std.specs.Prelude.{◌≡◌, ℕ, List, [], ◌∷◌, length, map, drop, Option, Some, None, Bool, true, is_some, Result, ◌<◌, ◌&&◌}
use Rattle.clif_ir.specs.Body.{Body, value_at}
use Rattle.clif_meaning.specs.Instruction.{Binary, Brif, Compare, Compute, Concat, CondTrap, Convert, FloatConst, Iconst, Jump, Load, Operation, Return, Select, Split, Stack, StackStore, Store, Trap, Unary, operation_entries}
use Rattle.clif_meaning.specs.Acceptance.{can_operate, has_entry}
use Rattle.clif_types.specs.declared.types.«Type».{«Type»}
use Rattle.clif_types.specs.declared.types.«Type».TheVariants.{Invalid}
use Rattle.clif_calls.specs.Plan.{edges_in, operands_in}
use Rattle.clif_calls.specs.declared.plan.Plan.{Plan}
use Rattle.clif_calls.specs.declared.plan.Plan.TheVariants as plan
use Rattle.std.specs.List.{list_all}
use Rattle.clif_instructions.specs.Instruction.{destinations, operands, result_types}
use Rattle.clif_instructions.specs.declared.block_call.BlockCall.{BlockCall}
use Rattle.clif_instructions.specs.declared.instructions.InstructionData.{InstructionData}
use Rattle.clif_meaning.specs.View.{made_at, operation_of}
use Rattle.clif_builder.specs.declared.builder.FunctionBuilder.{FunctionBuilder}
use Rattle.clif_calls.specs.declared.call.Edge.{Edge}
use Rattle.clif_calls.specs.declared.call.Name.{Name}
use Rattle.clif_resolution.specs.declared.plans.Planned.{Planned}
use Rattle.clif_resolution.specs.declared.answers.Answer.{Answer}
use Rattle.clif_resolution.specs.declared.answers.CallError.{CallError}
use Rattle.clif_resolution.specs.Conditions.{IsFound, is_open, may_lead}
use Rattle.clif_resolution.specs.Entries.{Numbers, StackSlots, entry_of, numbers_at}
use Rattle.clif_resolution.specs.Answers.{all_values, value_of, Finds}

-- what an instruction of a plan does
abbrev pub operation_in : Numbers → Plan → Operation
operation_in numbers (plan.UnaryImm ty imm) = Compute (Iconst imm)
operation_in numbers (plan.UnaryIeee opcode bits) = Compute (FloatConst opcode bits)
operation_in numbers (plan.Unary opcode arg) = Compute (Unary opcode)
operation_in numbers (plan.Binary opcode args) = Compute (Binary opcode)
operation_in numbers (plan.Convert opcode ty arg) = Compute (Convert opcode)
operation_in numbers (plan.Concat args) = Compute Concat
operation_in numbers (plan.Split arg) = Compute Split
operation_in numbers (plan.IntCompare cond args) = Compute (Compare cond)
operation_in numbers (plan.Ternary args) = Compute Select
operation_in numbers (plan.Load flags ty arg offset) = Load flags offset
operation_in numbers (plan.Store flags args offset) = Store flags offset
operation_in numbers (plan.StackLoad opcode ty slot offset) = Stack opcode (numbers StackSlots slot) offset
operation_in numbers (plan.StackStore arg slot offset) = StackStore (numbers StackSlots slot) offset
operation_in numbers (plan.Trap code) = Trap code
operation_in numbers (plan.CondTrap opcode arg code) = CondTrap opcode code
operation_in numbers (plan.Jump destination) = Jump
operation_in numbers (plan.Brif condition block_then block_else) = Brif
operation_in numbers (plan.MultiAry args) = Return

-- the type of the first operand, by the types of names
abbrev pub first_type : (Name → «Type») → List Name → «Type»
first_type typed [] = Invalid
first_type typed (name ∷ names) = typed name

-- the type at which it is made: its own, that of its first operand, or that of the second operand of `select`
abbrev pub controlling_in : (Name → «Type») → Plan → «Type»
controlling_in typed (plan.UnaryImm ty imm) = ty
controlling_in typed (plan.Unary opcode arg) = typed arg
controlling_in typed (plan.Binary opcode args) = first_type typed args
controlling_in typed (plan.Convert opcode ty arg) = ty
controlling_in typed (plan.Concat args) = first_type typed args
controlling_in typed (plan.Split arg) = typed arg
controlling_in typed (plan.IntCompare cond args) = first_type typed args
controlling_in typed (plan.Ternary args) = first_type typed (drop 1 args)
controlling_in typed (plan.Load flags ty arg offset) = ty
controlling_in typed (plan.Store flags args offset) = first_type typed args
controlling_in typed (plan.StackLoad opcode ty slot offset) = ty
controlling_in typed (plan.StackStore arg slot offset) = typed arg
controlling_in typed (plan.CondTrap opcode arg code) = typed arg
controlling_in typed (plan.Brif condition block_then block_else) = typed condition
controlling_in typed _ = Invalid

-- each value to which a name leads exists
abbrev pub ValuesExist : {R : Type 0} → FunctionBuilder R → List Answer → Type 0
ValuesExist b answers = (name : Name) (value : ℕ) → value_of b.func.now answers name ≡ Some value → value < length b.func.now.values

-- the type of the value, if there is one
abbrev pub type_in : Body → Option ℕ → «Type»
type_in f None = Invalid
type_in f (Some value) = (value_at f value).ty

-- the edges to which names lead
abbrev pub AreFound : {R : Type 0} → FunctionBuilder R → List Answer → List Edge → List BlockCall → Type 0
AreFound b answers [] [] = Unit {0}
AreFound b answers (edge ∷ edges) (call ∷ calls) = IsFound b answers edge call × AreFound b answers edges calls
AreFound b answers _ _ = ⊥

-- an instruction of the plan has this shape and is made at this type
pub record IsPlanned {R : Type 0} (b : FunctionBuilder R) (answers : List Answer) (plan : Plan) (shape : InstructionData) (ty : «Type») : Type 0 where
  pub operation : operation_in (numbers_at b.func.now answers) plan ≡ operation_of b.func.now.tables shape
  pub controlling : controlling_in (λ name. type_in b.func.now (value_of b.func.now answers name)) plan ≡ made_at b.func.now shape ty
  pub typed : result_types shape ty ≡ result_types shape (made_at b.func.now shape ty)
  pub operands : map (value_of b.func.now answers) (operands_in plan) ≡ map Some (operands shape)
  pub edges : AreFound b answers (edges_in plan) (destinations shape)

-- its names lead to values, and its edges may be made
abbrev pub has_names : {R : Type 0} → FunctionBuilder R → List Answer → Plan → Bool
has_names b answers plan = all_values b.func.now answers (operands_in plan) && list_all (may_lead b answers) (edges_in plan)

-- the name of a stack slot leads to one
abbrev pub has_slot : List Answer → Plan → Bool
has_slot answers (plan.StackLoad opcode ty slot offset) = is_some (entry_of StackSlots answers slot)
has_slot answers (plan.StackStore arg slot offset) = is_some (entry_of StackSlots answers slot)
has_slot answers _ = true

-- the instruction of a plan is found, where what it names is there
abbrev pub FindsPlan : {R : Type 0} → FunctionBuilder R → List Answer → Plan → Result Planned CallError → Type 0
FindsPlan b answers plan result = Finds (λ (p : Planned). IsPlanned b answers plan p.shape p.ty) (has_slot answers plan && has_names b answers plan) result

-- the entries of tables that it names were made
abbrev pub has_entries : Body → List Answer → Plan → Bool
has_entries f answers plan = list_all (has_entry f.tables) (operation_entries (operation_in (numbers_at f answers) plan))

-- it may be made
abbrev pub can_make : {R : Type 0} → FunctionBuilder R → List Answer → Plan → Bool
can_make b answers plan =
    (is_open b && has_names b answers plan)
    && can_operate (operation_in (numbers_at b.func.now answers) plan) (controlling_in (λ name. type_in b.func.now (value_of b.func.now answers name)) plan)
    && has_entries b.func.now answers plan
