-- What the functions that make calls do. Own.
use Rattle.std.specs.Prelude.{◌≡◌, ◌-◌, ◌^◌, ℕ, ◌&&◌, length, List, map, Bool, true, false, Some, OnOk, IfOk, Result, Err}
use Rattle.clif_types.specs.Signature.{SignatureShape}
use Rattle.clif_types.specs.declared.types.«Type».{«Type»}
use Rattle.clif_ir.specs.Changes.{HasNoRoom, with_tables}
use Rattle.clif_opcodes.specs.declared.opcodes.PooledConstOpcode.{PooledConstOpcode}
use Rattle.clif_meaning.specs.Acceptance.{allows, blames_variable, pooled_const}
use Rattle.clif_meaning.specs.Ledger.{Ledger}
use Rattle.clif_meaning.specs.Request.{AnsweredCall, MakeExceptionTable, MakeJumpTable, Request}
use Rattle.clif_builder.specs.declared.builder.FunctionBuilder.{FunctionBuilder}
use Rattle.clif_builder.specs.Builder.{SameLoans}
use Rattle.clif_builder.specs.Labels.{labelled}
use Rattle.clif_builder.specs.Ledger.{ledger_of}
use Rattle.clif_calls.specs.declared.table.TableItem.{TableItem}
use Rattle.clif_calls.specs.declared.call.Call.{Call}
use Rattle.clif_calls.specs.declared.call.Name.{Name}
use Rattle.clif_calls.specs.declared.outside.OutsideCall.{OutsideCall}
use Rattle.clif_calls.specs.declared.plan.Plan.{Plan}
use Rattle.clif_calls.specs.declared.straight.StraightInstruction.{StraightInstruction}
use Rattle.clif_resolution.specs.declared.answers.Answer.{Answer}
use Rattle.clif_resolution.specs.declared.answers.Entry.{Entry}
use Rattle.clif_types.specs.declared.error.BuildError.{BuildError}
use Rattle.clif_tables.specs.Entries.{TableEntry}
use Rattle.clif_builder.specs.Entries.{MakesEntry}
use Rattle.clif_resolution.specs.declared.condition.Condition.{Condition}
use Rattle.clif_resolution.specs.declared.answers.CallError.{CallError}
use Rattle.clif_resolution.specs.declared.answers.CallError.TheVariants as error
use Rattle.clif_replay.specs.Limits.{ConstantMeetsFullTable, MeetsFullTable, PlanMeetsFullTable, StraightMeetsFullTable, returns_in}
use Rattle.clif_replay.specs.Ready.{IsJudged, IsReady, IsReadyAfter, types_after}
use Rattle.clif_resolution.specs.Answers.{value_of}
use Rattle.clif_resolution.specs.Entries.{Signatures, numbers_at}
use Rattle.clif_replay.specs.Entries.{entry_made, numbers_in}
use Rattle.clif_replay.specs.Requests.{Naming, is_tried, item_of, outside_request, request_in, request_under, straight_request}

-- A call was made, which asked this under each naming, or wasn't. It is refused only if it is only tried. `Full` is told only
-- where `Meets` holds, and variables have these types afterwards.
pub record Makes {R : Type 0} (asks : Naming → SignatureShape → Ledger → Request) (tried : Bool) (Meets : Type 0) (types : List «Type») (old new : FunctionBuilder R) (answers : List Answer) (result : Result Answer CallError) : Type 0 where
  pub loans : SameLoans old new
  pub name : OnOk result (new.func.now.name ≡ old.func.now.name)
  pub ready : (naming : Naming) (declared : SignatureShape) (calls : List AnsweredCall) → IsReady naming declared calls old answers
      → IfOk result (IsReadyAfter naming declared calls (asks naming declared (ledger_of calls)) new answers)
  pub judged : (naming : Naming) (declared : SignatureShape) (calls : List AnsweredCall) → IsReady naming declared calls old answers
      → IsJudged (allows (ledger_of calls) (asks naming declared (ledger_of calls))) (tried && blames_variable (ledger_of calls) (asks naming declared (ledger_of calls))) result
  pub sound : OnOk result (new.failed ≡ false)
  pub refused : (why : Condition) → result ≡ Err (error.Refused why) → tried ≡ true
  pub full : result ≡ Err error.Full → Meets
  pub variables : OnOk result (new.ctx.now.parts.variables ≡ types)

-- for this call
abbrev pub MakesCall : {R : Type 0} → Call → FunctionBuilder R → FunctionBuilder R → List Answer → Result Answer CallError → Type 0
MakesCall call old new answers result =
    Makes (λ naming declared ledger. request_under naming declared ledger call) (is_tried call) (MeetsFullTable (numbers_at old.func.now answers) call old.func.now old.ctx.now.parts old.position) (types_after call old.ctx.now.parts.variables) old new answers result

-- for an instruction of this plan
abbrev pub MakesPlan : {R : Type 0} → Plan → FunctionBuilder R → FunctionBuilder R → List Answer → Result Answer CallError → Type 0
MakesPlan plan old new answers result =
    Makes (λ naming declared ledger. request_in (numbers_in naming ledger) naming ledger plan) false (PlanMeetsFullTable plan old.func.now) old.ctx.now.parts.variables old new answers result

-- for an instruction of a pooled constant
abbrev pub MakesConstant : {R : Type 0} → PooledConstOpcode → «Type» → List ℕ → FunctionBuilder R → FunctionBuilder R → List Answer → Result Answer CallError → Type 0
MakesConstant opcode ty bytes old new answers result =
    Makes (λ naming declared ledger. pooled_const opcode ty bytes) false (ConstantMeetsFullTable bytes old.func.now) old.ctx.now.parts.variables old new answers result

-- for an outside call
abbrev pub MakesOutside : {R : Type 0} → OutsideCall → FunctionBuilder R → FunctionBuilder R → List Answer → Result Answer CallError → Type 0
MakesOutside called old new answers result =
    Makes (λ naming declared ledger. outside_request (numbers_in naming ledger) naming ledger called) false (HasNoRoom old.func.now (length (returns_in (numbers_at old.func.now answers) old.func.now.tables called)))
    old.ctx.now.parts.variables old new answers result

-- for an instruction that ends no block
abbrev pub MakesStraight : {R : Type 0} → StraightInstruction → FunctionBuilder R → FunctionBuilder R → List Answer → Result Answer CallError → Type 0
MakesStraight instruction old new answers result =
    Makes (λ naming declared ledger. straight_request (numbers_in naming ledger) naming ledger instruction) false (StraightMeetsFullTable (numbers_at old.func.now answers) instruction old.func.now)
    old.ctx.now.parts.variables old new answers result

-- for an exception table of this signature, normal edge and items
abbrev pub MakesExceptions : {R : Type 0} → Name → Name → List TableItem → FunctionBuilder R → FunctionBuilder R → List Answer → Result Answer CallError → Type 0
MakesExceptions signature normal items old new answers result =
    Makes (λ naming declared ledger. MakeExceptionTable (numbers_in naming ledger Signatures signature) (naming normal) (map (item_of naming) items)) false (length old.func.now.tables.exception_tables ≡ 2 ^ 32 - 1)
    old.ctx.now.parts.variables old new answers result

-- for a jump table of the edges with these names
abbrev pub MakesTable : {R : Type 0} → Name → List Name → FunctionBuilder R → FunctionBuilder R → List Answer → Result Answer CallError → Type 0
MakesTable default entries old new answers result =
    Makes (λ naming declared ledger. MakeJumpTable (naming default) (map naming entries)) false (length old.func.now.tables.jump_tables ≡ 2 ^ 32 - 1)
    old.ctx.now.parts.variables old new answers result

-- an entry was put at the end of its table, or wasn't
abbrev pub AppendsEntry : {R : Type 0} → TableEntry → FunctionBuilder R → FunctionBuilder R → Result Entry BuildError → Type 0
AppendsEntry entry old new result = (made : Result ℕ BuildError) × (result ≡ entry_made entry made) × MakesEntry entry old new made

-- the value that a name leads to has one label more in the function
abbrev pub LabelsValue : {R : Type 0} → FunctionBuilder R → FunctionBuilder R → List Answer → Name → ℕ → Type 0
LabelsValue old new answers name label =
    (value : ℕ) × (value_of old.func.now answers name ≡ Some value) × (new.func.now ≡ with_tables old.func.now (labelled old value label))
