-- What holds between the calls of a list: the builder stands for the calls that were made, and by a naming their answers are
-- those of the list. Own.
use Rattle.std.specs.Prelude.{◌≡◌, ℕ, suc, ◌⊎◌, List, [], ◌∷◌, ◌++◌, length, map, slice_get, is_some, not, ◌&&◌, ◌+◌, ◌-◌, Bool, true, false, Option, Some, None, Result, Ok, Err}
use Rattle.clif_types.specs.declared.types.«Type».{«Type»}
use Rattle.clif_ir.specs.Body.{value_at}
use Rattle.clif_instructions.specs.Members.{stands_in}
use Rattle.clif_instructions.specs.declared.block_call.BlockCall.{BlockCall}
use Rattle.clif_meaning.specs.Acceptance.{fits_stack_map}
use Rattle.clif_meaning.specs.SameType.{same_type}
use Rattle.clif_meaning.specs.Request.{AnsweredCall, Request}
use Rattle.clif_meaning.specs.Ledger.{Answered, ABlock, AVariable, AValue, AnInstruction, AnEdge, edge_named}
use Rattle.clif_meaning.specs.Instruction as meaning
use Rattle.clif_meaning.specs.Name as named
use Rattle.clif_simulation.specs.Carries.{numbers_from}
use Rattle.clif_ssa.specs.Ssa.{predecessors_of}
use Rattle.clif_builder.specs.declared.builder.FunctionBuilder.{FunctionBuilder}
use Rattle.clif_builder.specs.Context.{is_untouched, status_of}
use Rattle.clif_builder.specs.Builder.{is_empty_status, is_filled_status, is_free, is_nothing}
use Rattle.clif_types.specs.Signature.{SignatureShape}
use Rattle.clif_builder.specs.Ledger.{NamesEdge, NamesEdges, NamesExceptions, ledger_of}
use Rattle.clif_builder.specs.StandsFor.{StandsFor}
use Rattle.clif_builder.specs.LedgerLaws.{LedgerIsReadByNumber}
use Rattle.clif_calls.specs.declared.call.Name.{Name}
use Rattle.clif_calls.specs.declared.call.Call.{Call}
use Rattle.clif_calls.specs.declared.call.Call.TheVariants as call
use Rattle.clif_replay.specs.Entries.{entry_as, is_entry}
use Rattle.clif_replay.specs.Requests.{Naming}
use Rattle.clif_resolution.specs.declared.answers.Answer.{Answer}
use Rattle.clif_resolution.specs.declared.answers.Answer.TheVariants as answer
use Rattle.clif_resolution.specs.declared.answers.CallError.{CallError}
use Rattle.clif_resolution.specs.declared.answers.CallError.TheVariants as error
use Rattle.clif_resolution.specs.Conditions.{is_open, can_seal}

-- what a call answered: the ledger's answers to it, and their numbers
abbrev pub AnswerIs : Answer → List Answered → List ℕ → Type 0
AnswerIs answer.Nothing answered numbers = (answered ≡ []) × (numbers ≡ [])
AnswerIs (answer.Block b) answered numbers = (answered ≡ ABlock ∷ []) × (numbers ≡ b ∷ [])
AnswerIs (answer.Variable v) answered numbers = (answered ≡ AVariable v ∷ []) × (numbers ≡ v ∷ [])
AnswerIs (answer.Values first count) answered numbers =
    (types : List «Type») × (answered ≡ map AValue types) × (numbers ≡ numbers_from first types) × (count ≡ length types)
AnswerIs (answer.Inst i) answered numbers =
    (types : List «Type») × (results : List ℕ) × (answered ≡ AnInstruction ∷ map AValue types) × (numbers ≡ i ∷ results)
AnswerIs (answer.Edge made) answered numbers = (edge : meaning.Edge named.Name named.Name) × (answered ≡ AnEdge edge ∷ []) × (numbers ≡ 0 ∷ [])
AnswerIs (answer.Entry entry) answered numbers =
    (one : Answered) × (number : ℕ) × (answered ≡ one ∷ []) × (numbers ≡ number ∷ []) × (entry ≡ entry_as one) × (is_entry one ≡ true)

-- a call that answers nothing
abbrev pub no_answer : Answer
no_answer = answer.Nothing

-- two tables hold what agrees, or both serve an instruction
abbrev pub TableAgrees : {A B : Type 0} → (A → B → Type 0) → Option A → Option B → Type 0
TableAgrees {A} {B} Agree None None = Unit {0}
TableAgrees {A} {B} Agree (Some held) (Some made) = Agree held made
TableAgrees {A} {B} Agree _ _ = ⊥

-- as many tables do, each with its number
abbrev pub TablesAgree : {A B : Type 0} → (A → B → Type 0) → List (Option A) → List (Option B) → Type 0
TablesAgree {A} {B} Agree [] [] = Unit {0}
TablesAgree {A} {B} Agree (table ∷ tables) (made ∷ others) = TableAgrees Agree table made × TablesAgree Agree tables others
TablesAgree {A} {B} Agree _ _ = ⊥

-- the results of an instruction, behind its number
abbrev pub AreResults : Answer → List Answered → List ℕ → Type 0
AreResults (answer.Values first count) answered numbers =
    (types : List «Type») × (inst : ℕ) × (answered ≡ AnInstruction ∷ map AValue types) × (numbers ≡ inst ∷ numbers_from first types) × (count ≡ length types)
AreResults _ answered numbers = ⊥

-- The answer at this place is that of the builder's call at the other one, name by name; or it is the results alone of an
-- instruction that the builder's call made, the last one of several calls that were made for one of the list; or it is none, and
-- its names lead behind all answers of the last one of several calls.
abbrev pub LeadsTo : Naming → (place other : ℕ) → Answer → List Answered → List ℕ → Type 0
LeadsTo naming place other answer answered numbers =
    (((name : Name) → name.place ≡ place → naming name ≡ named.answer_of other name.answer) × AnswerIs answer answered numbers)
    ⊎ (((name : Name) → name.place ≡ place → naming name ≡ named.answer_of other (suc name.answer)) × AreResults answer answered numbers)
    ⊎ (((name : Name) → name.place ≡ place → naming name ≡ named.answer_of other (length answered + name.answer)) × (answer ≡ no_answer))

-- the builder's call to whose answers the names of this answer lead
pub record IsAnswered (naming : Naming) (calls : List AnsweredCall) (place : ℕ) (answer : Answer) : Type 0 where
  pub other : ℕ
  pub call : AnsweredCall
  pub answered : List Answered
  pub at_call : slice_get calls other ≡ Some call
  pub at_answered : slice_get (ledger_of calls).answers other ≡ Some answered
  pub leads : LeadsTo naming place other answer answered call.numbers

-- The builder stands for these calls, on a function of this signature, and by this naming these are answers of theirs; and it
-- is known how a ledger is read.
pub record IsReady {R : Type 0} (naming : Naming) (declared : SignatureShape) (calls : List AnsweredCall) (b : FunctionBuilder R) (answers : List Answer) : Type 0 where
  pub reads : LedgerIsReadByNumber
  pub stands : StandsFor declared calls b
  pub answered : (place : ℕ) (answer : Answer) → slice_get answers place ≡ Some answer → IsAnswered naming calls place answer
  -- a name that leads to no answer so far leads to none of the builder's calls so far, either
  pub later : (name : Name) (k : ℕ) → name.place ≡ length answers + k → naming name ≡ named.answer_of (length calls + k) name.answer
  -- an edge that was answered is that of the ledger, and so is what jump tables and exception tables hold
  pub edges : (name : Name) (made : BlockCall) → slice_get answers name.place ≡ Some (answer.Edge made) → name.answer ≡ 0
      → (edge : meaning.Edge named.Name named.Name) × (edge_named (ledger_of calls) (naming name) ≡ Some edge) × NamesEdge calls edge made
  pub tables : TablesAgree (NamesEdges calls) (ledger_of calls).jump_tables b.func.now.tables.jump_tables
  pub exceptions : TablesAgree (NamesExceptions calls) (ledger_of calls).exception_tables b.func.now.tables.exception_tables

-- the function's jump tables and exception tables are as before
abbrev pub KeepsTables : {R : Type 0} → FunctionBuilder R → FunctionBuilder R → Type 0
KeepsTables old new =
    (new.func.now.tables.jump_tables ≡ old.func.now.tables.jump_tables) × (new.func.now.tables.exception_tables ≡ old.func.now.tables.exception_tables)

-- it stands for some calls, and hasn't failed
pub record IsSound {R : Type 0} (b : FunctionBuilder R) (answers : List Answer) : Type 0 where
  pub naming : Naming
  pub declared : SignatureShape
  pub calls : List AnsweredCall
  pub ready : IsReady naming declared calls b answers
  pub sound : b.failed ≡ false

-- it stands for one more call, which was this request and gave this answer
abbrev pub IsReadyAfter : {R : Type 0} → Naming → SignatureShape → List AnsweredCall → Request → FunctionBuilder R → List Answer → Answer → Type 0
IsReadyAfter naming declared calls request b answers answer =
    (numbers : List ℕ) × IsReady naming declared (calls ++ record { request = request; numbers = numbers } ∷ []) b (answers ++ answer ∷ [])

-- A call succeeds only where it is allowed, and where it isn't, it is either refused or a misuse.
abbrev pub IsJudged : Bool → Bool → Result Answer CallError → Type 0
IsJudged allowed refused (Ok answer) = allowed ≡ true
IsJudged allowed refused (Err (error.Misuse why)) = (allowed ≡ false) × (refused ≡ false)
IsJudged allowed refused (Err (error.Refused why)) = (allowed ≡ false) × (refused ≡ true)
IsJudged allowed refused (Err error.Memory) = Unit {0}
IsJudged allowed refused (Err error.Full) = allowed ≡ true

-- The same of a call that may be refused though it may be made: it succeeds only where it isn't.
abbrev pub IsCallJudged : (allowed blamed refused : Bool) → Result Answer CallError → Type 0
IsCallJudged allowed blamed refused (Ok answer) = (allowed ≡ true) × (refused ≡ false)
IsCallJudged allowed blamed refused (Err (error.Misuse why)) = (allowed ≡ false) × (blamed ≡ false)
IsCallJudged allowed blamed refused (Err (error.Refused why)) = ((allowed ≡ false) × (blamed ≡ true)) ⊎ ((allowed ≡ true) × (refused ≡ true))
IsCallJudged allowed blamed refused (Err error.Memory) = Unit {0}
IsCallJudged allowed blamed refused (Err error.Full) = allowed ≡ true

-- a block may be made current
abbrev pub can_switch : {R : Type 0} → FunctionBuilder R → ℕ → Bool
can_switch b block = not (is_filled_status (status_of b.ctx.now.parts block)) && is_free b

-- a branch may lead to one block in place of another one: it leads to that one, and both are unsealed
abbrev pub can_change : {R : Type 0} → FunctionBuilder R → (inst from to : ℕ) → Bool
can_change b inst from to = stands_in inst (predecessors_of b.ctx.now.parts.ssa from) && can_seal b from && can_seal b to

-- a block may get a parameter of the caller's: nothing was made in it
abbrev pub can_append : {R : Type 0} → FunctionBuilder R → ℕ → Bool
can_append b block = is_empty_status (status_of b.ctx.now.parts block)

-- it may get the function's parameters: no branch leads to it, either
abbrev pub can_append_function_params : {R : Type 0} → FunctionBuilder R → ℕ → Bool
can_append_function_params b block = can_append b block && is_nothing (predecessors_of b.ctx.now.parts.ssa block)

-- so many values whose numbers follow one another, if there is a first one
abbrev pub values_from : Option ℕ → ℕ → Answer
values_from None count = answer.Nothing
values_from (Some first) count = answer.Values first count

-- the last values of a block's parameters, as many as `count` says
abbrev pub last_params : List ℕ → ℕ → Answer
last_params params count = values_from (slice_get params (length params - count)) count

-- a block may be put behind another one: it isn't in the layout, and the other one is
abbrev pub can_insert : {R : Type 0} → FunctionBuilder R → ℕ → ℕ → Bool
can_insert b block after = not (stands_in block b.func.now.layout) && stands_in after b.func.now.layout

-- a value may be assigned to a variable of this type
abbrev pub can_define : {R : Type 0} → FunctionBuilder R → «Type» → ℕ → Bool
can_define b ty value = is_open b && same_type ty (value_at b.func.now value).ty

-- a variable of these may be used
abbrev pub can_use : {R : Type 0} → FunctionBuilder R → List «Type» → ℕ → Bool
can_use b types variable = is_open b && is_some (slice_get types variable)

-- stack maps may be asked for a variable: its type fits, and it was neither used nor assigned so far
abbrev pub fits_declared : Option «Type» → Bool
fits_declared None = false
fits_declared (Some ty) = fits_stack_map ty

abbrev pub can_mark : {R : Type 0} → FunctionBuilder R → ℕ → Bool
can_mark b variable = fits_declared (slice_get b.ctx.now.parts.variables variable) && is_untouched b.ctx.now.parts variable

-- and for a value: its type fits
abbrev pub can_record : {R : Type 0} → FunctionBuilder R → ℕ → Bool
can_record b value = fits_stack_map (value_at b.func.now value).ty

-- the types of the variables after a call that succeeded
abbrev pub types_after : Call → List «Type» → List «Type»
types_after (call.DeclareVar ty) types = types ++ ty ∷ []
types_after _ types = types
