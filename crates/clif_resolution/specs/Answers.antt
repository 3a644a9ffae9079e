-- What the names of a call lead to, among what the calls before it answered. Own.
use Rattle.std.specs.Prelude.{◌≡◌, ℕ, ◌<◌, List, length, option_map, slice_get, slice_index_or, EachIndex, is_some, ◌+◌, ◌-◌, ◌==◌, nat_lt, Bool, true, false, Option, Some, None, if◌then◌else◌, Result, Err, ◌≢◌, OnOk, IfOk}
use Rattle.std.specs.List.{list_all}
use Rattle.clif_ir.specs.Body.{Body, inst_at}
use Rattle.clif_instructions.specs.declared.block_call.BlockArg.{BlockArg}
use Rattle.clif_instructions.specs.declared.block_call.BlockArg.TheVariants.{TryCallExn, TryCallRet, Value}
use Rattle.clif_instructions.specs.declared.block_call.BlockCall.{BlockCall}
use Rattle.clif_instructions.specs.declared.exception_table.ExceptionTableItem.{ExceptionTableItem}
use Rattle.clif_instructions.specs.declared.exception_table.ExceptionTableItem.TheVariants as kept
use Rattle.clif_calls.specs.declared.call.Name.{Name}
use Rattle.clif_calls.specs.declared.table.Passed.{Passed}
use Rattle.clif_calls.specs.declared.table.Passed.TheVariants as passed
use Rattle.clif_calls.specs.declared.table.TableItem.{TableItem}
use Rattle.clif_calls.specs.declared.table.TableItem.TheVariants as item
use Rattle.clif_resolution.specs.declared.answers.Answer.{Answer}
use Rattle.clif_resolution.specs.declared.answers.Answer.TheVariants as answer
use Rattle.clif_resolution.specs.declared.condition.Condition.{Condition}
use Rattle.clif_resolution.specs.declared.answers.CallError.{CallError}
use Rattle.clif_resolution.specs.declared.answers.CallError.TheVariants as error

-- the block that a name leads to
abbrev pub block_in : ℕ → Option Answer → Option ℕ
block_in index (Some (answer.Block b)) = if index == 0 then Some b else None
block_in index (Some answer.Nothing) = None
block_in index (Some (answer.Variable v)) = None
block_in index (Some (answer.Values first count)) = None
block_in index (Some (answer.Inst i)) = None
block_in index (Some (answer.Entry entry)) = None
block_in index (Some (answer.Edge edge)) = None
block_in index None = None

abbrev pub block_of : List Answer → Name → Option ℕ
block_of answers name = block_in name.answer (slice_get answers name.place)

-- the instruction that a name leads to
abbrev pub inst_in : ℕ → Option Answer → Option ℕ
inst_in index (Some (answer.Inst i)) = if index == 0 then Some i else None
inst_in index _ = None

abbrev pub inst_of : List Answer → Name → Option ℕ
inst_of answers name = inst_in name.answer (slice_get answers name.place)

-- the value that a name leads to: the numbers of values follow one another, and results follow the number of an instruction
abbrev pub value_in : Body → ℕ → Option Answer → Option ℕ
value_in f index (Some (answer.Values first count)) = if nat_lt index count then Some (first + index) else None
value_in f index (Some (answer.Inst i)) = if index == 0 then None else slice_get (inst_at f i).results (index - 1)
value_in f index (Some answer.Nothing) = None
value_in f index (Some (answer.Block b)) = None
value_in f index (Some (answer.Variable v)) = None
value_in f index (Some (answer.Entry entry)) = None
value_in f index (Some (answer.Edge edge)) = None
value_in f index None = None

abbrev pub value_of : Body → List Answer → Name → Option ℕ
value_of f answers name = value_in f name.answer (slice_get answers name.place)

-- an answer that is an instruction is one of the function, and so are values
abbrev pub AnswerExists : Body → Answer → Type 0
AnswerExists f (answer.Inst i) = i < length f.insts
AnswerExists f answer.Nothing = Unit {0}
AnswerExists f (answer.Block b) = Unit {0}
AnswerExists f (answer.Variable v) = Unit {0}
AnswerExists f (answer.Entry entry) = Unit {0}
AnswerExists f (answer.Edge edge) = Unit {0}
AnswerExists f (answer.Values first count) = (k : ℕ) → k < count → first + k < length f.values

-- what each answer names exists
abbrev pub AnswersExist : Body → List Answer → Type 0
AnswersExist f answers = EachIndex answers (λ k. AnswerExists f (slice_index_or answers k answer.Nothing))

-- each name leads to a value
abbrev pub all_values : Body → List Answer → List Name → Bool
all_values f answers names = list_all (λ name. is_some (value_of f answers name)) names

-- what a name passes along an edge: the value that it leads to
abbrev pub argument_of : Body → List Answer → Name → Option BlockArg
argument_of f answers name = option_map Value (value_of f answers name)

-- the edge that a name leads to
abbrev pub edge_in : ℕ → Option Answer → Option BlockCall
edge_in index (Some (answer.Edge made)) = if index == 0 then Some made else None
edge_in index _ = None

abbrev pub edge_at : List Answer → Name → Option BlockCall
edge_at answers name = edge_in name.answer (slice_get answers name.place)

-- what an edge of a table passes, if its name leads to a value
abbrev pub passed_in : Body → List Answer → Passed → Option BlockArg
passed_in f answers (passed.Value name) = argument_of f answers name
passed_in f answers (passed.Returned place) = Some (TryCallRet place)
passed_in f answers (passed.Thrown place) = Some (TryCallExn place)

-- each of these is there
abbrev pub all_passed : Body → List Answer → List Passed → Bool
all_passed f answers args = list_all (λ one. is_some (passed_in f answers one)) args

-- an item of an exception table, with what its name leads to
abbrev pub item_in : Body → List Answer → TableItem → Option ExceptionTableItem
item_in f answers (item.Tag tag edge) = option_map (kept.Tag tag) (edge_at answers edge)
item_in f answers (item.Default edge) = option_map kept.Default (edge_at answers edge)
item_in f answers (item.Context value) = option_map kept.Context (value_of f answers value)

-- each item of these names what is there
abbrev pub all_items : Body → List Answer → List TableItem → Bool
all_items f answers items = list_all (λ one. is_some (item_in f answers one)) items

-- What is asked is found, where it is there; or memory is refused.
pub record Finds {X : Type 0} (Found : X → Type 0) (there : Bool) (result : Result X CallError) : Type 0 where
  pub found : IfOk result Found
  pub may : OnOk result (there ≡ true)
  pub misuse : (why : Condition) → result ≡ Err (error.Misuse why) → there ≡ false
  pub never_refused : (why : Condition) → result ≢ Err (error.Refused why)
  pub never_full : result ≢ Err error.Full
