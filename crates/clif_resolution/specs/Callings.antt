-- The instructions that call functions, with what their names lead to. Own.
use Rattle.std.specs.Prelude.{◌≡◌, ℕ, ◌&&◌, length, nat_lt, List, [], map, Bool, true, Option, Some, None, is_some}
use Rattle.std.specs.List.{list_all}
use Rattle.clif_ir.specs.Body.{Body}
use Rattle.clif_instructions.specs.Instruction.{entries_of}
use Rattle.clif_instructions.specs.ExceptionTables.{ExceptionShape}
use Rattle.clif_instructions.specs.declared.instructions.InstructionData.{InstructionData}
use Rattle.clif_instructions.specs.declared.instructions.InstructionData.TheVariants as shape
use Rattle.clif_meaning.specs.Acceptance.{has_entry}
use Rattle.clif_builder.specs.declared.builder.FunctionBuilder.{FunctionBuilder}
use Rattle.clif_calls.specs.Outside.{operands_of}
use Rattle.clif_calls.specs.Tables.{table_of, tried_operands}
use Rattle.clif_calls.specs.declared.table.ThrowingCall.{ThrowingCall}
use Rattle.clif_calls.specs.declared.table.ThrowingCall.TheVariants as throwing
use Rattle.clif_calls.specs.declared.outside.OutsideCall.{OutsideCall}
use Rattle.clif_calls.specs.declared.outside.OutsideCall.TheVariants as outside
use Rattle.clif_resolution.specs.declared.answers.Answer.{Answer}
use Rattle.clif_resolution.specs.declared.exceptions.Tried.{Tried}
use Rattle.clif_resolution.specs.Entries.{ExceptionTables, Functions, Numbers, Signatures, entry_of, numbers_at}
use Rattle.clif_resolution.specs.Conditions.{is_open, tries}
use Rattle.clif_resolution.specs.Answers.{all_values, value_of}

-- the instruction of an outside call, with these values
abbrev pub outside_shape : Numbers → OutsideCall → List ℕ → InstructionData
outside_shape numbers (outside.Call function args) values = shape.Call (numbers Functions function) values
outside_shape numbers (outside.CallIndirect signature callee args) values = shape.CallIndirect (numbers Signatures signature) values

-- it is of this shape, with the values to which its names lead
abbrev pub IsOutsideShape : Body → List Answer → OutsideCall → InstructionData → Type 0
IsOutsideShape f answers called instruction =
    (values : List ℕ) × (map (value_of f answers) (operands_of called) ≡ map Some values) × (instruction ≡ outside_shape (numbers_at f answers) called values)

-- what it calls was imported
abbrev pub is_imported : Body → List Answer → OutsideCall → Bool
is_imported f answers called = list_all (has_entry f.tables) (entries_of (outside_shape (numbers_at f answers) called []))

-- the name of what it calls leads to such an entry
abbrev pub has_called : List Answer → OutsideCall → Bool
has_called answers (outside.Call function args) = is_some (entry_of Functions answers function)
has_called answers (outside.CallIndirect signature callee args) = is_some (entry_of Signatures answers signature)

-- it may be made: in an open block, where its names lead to values
abbrev pub can_call : {R : Type 0} → FunctionBuilder R → List Answer → OutsideCall → Bool
can_call b answers called = (is_open b && all_values b.func.now answers (operands_of called)) && is_imported b.func.now answers called

-- the number of the function that is called along the edges of an exception table, where it isn't an address
abbrev pub callee_in : Numbers → ThrowingCall → Option ℕ
callee_in numbers (throwing.TryCall function args table) = Some (numbers Functions function)
callee_in numbers (throwing.TryCallIndirect callee args table) = None

-- the instruction of such a call, with these values and what the table held
abbrev pub shape_with : Option ℕ → List ℕ → ExceptionShape → InstructionData
shape_with None values held = shape.TryCallIndirect values held
shape_with (Some function) values held = shape.TryCall function values held

abbrev pub throwing_shape : Numbers → ThrowingCall → List ℕ → ExceptionShape → InstructionData
throwing_shape numbers called values held = shape_with (callee_in numbers called) values held

-- what it calls was imported, where it isn't an address
abbrev pub is_function : Body → Option ℕ → Bool
is_function f None = true
is_function f (Some function) = nat_lt function (length f.tables.functions)

abbrev pub has_callee : Body → List Answer → ThrowingCall → Bool
has_callee f answers called = is_function f (callee_in (numbers_at f answers) called)

-- the table that serves it
abbrev pub table_in : Body → List Answer → ThrowingCall → ℕ
table_in f answers called = numbers_at f answers ExceptionTables (table_of called)

-- a call along the edges of an exception table may be made: in an open block, where its names lead to values and the table serves
abbrev pub can_try : {R : Type 0} → FunctionBuilder R → List Answer → ThrowingCall → Bool
can_try b answers called =
    (is_open b && all_values b.func.now answers (tried_operands called))
    && (has_callee b.func.now answers called && tries b (table_in b.func.now answers called))

-- what such a call names: the values, the function, if it is one, and the table
pub record IsTried {R : Type 0} (b : FunctionBuilder R) (answers : List Answer) (called : ThrowingCall) (tried : Tried) : Type 0 where
  pub values : map (value_of b.func.now answers) (tried_operands called) ≡ map Some tried.args
  pub function : tried.function ≡ callee_in (numbers_at b.func.now answers) called
  pub table : tried.table ≡ table_in b.func.now answers called
