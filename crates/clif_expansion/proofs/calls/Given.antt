-- What calls give has the types that their ledger tells; so the run of well-typed calls that may be made is typed, and sound where its
-- claims are true.
use Rattle.std.proofs.Common.{◌≡◌, ◌+◌, ℕ, zero, suc, Bool, true, false, List, [], ◌∷◌, ◌++◌, length, map, refl, sym, ◌∙◌, ap, ap₂, subst, arith, Option, Some, None}
use Rattle.std.proofs.lemmas.Bool.{and_parts}
use Rattle.std.proofs.lemmas.List.{append-nil}
use Rattle.std.specs.Prelude.{IsTrue, fold, if◌then◌else◌, is_some, option_map, slice_get}
use Rattle.std.specs.List.{AllByRecursion}
use Rattle.clif_types.specs.declared.types.«Type».{«Type»}
use Rattle.clif_types.specs.Signature.{SignatureShape}
use Rattle.clif_tables.specs.Callees.{types_of}
use Rattle.clif_tables.specs.Entries.{TableEntry}
use Rattle.clif_meaning.specs.Acceptance.{allows, is_open}
use Rattle.clif_meaning.specs.Bits.{AreValues}
use Rattle.clif_meaning.specs.Instruction.{Edge, Instruction, Operation, Switch}
use Rattle.clif_meaning.specs.Ledger.{AValue, Ledger, VariableState, answers_to, changed_by, empty_ledger, is_inserted, is_terminator, new_variable, or_invalid, touched_at, type_of, value_answer_type, variable_type, with_begun, with_begun_at, with_filled_at, with_instruction, with_predecessor, with_terminator, marked_at, with_need}
use Rattle.clif_meaning.specs.Name.{Name, answer_of, same_name}
use Rattle.clif_meaning.specs.Premises.{EachItem, EntryTakes, IsItemWellTyped, WellTyped}
use Rattle.clif_meaning.specs.Program.{Program, Item, Instruct, Use, Assign, answers_from, empty_program, extended, redirected_instruction, redirected_item, result_names, result_types, with_inserted, with_item_at}
use Rattle.clif_meaning.specs.Request.{Request, DefVar, UseVar, Build, ChangeJumpDestination, StackMapNeed, OfVariable, OfValue}
use Rattle.clif_meaning.specs.World.{World}
use Rattle.clif_meaning.specs.ScriptMachine.{ScriptRun, ScriptState}
use Rattle.clif_meaning.proofs.EachStep.{each_step}
use Rattle.clif_meaning.proofs.Effects.{LedgerEffect, ledger_effect, Keeps, Lays, Changes, Begins, Creates, Enters, ChangesEach, Declares, Touches, Reads, Marks, Appends}
use Rattle.clif_typed_runs.specs.ValuesFit.{EntryHas, IsItemTyped, IsScriptTyped, name_types_at}
use Rattle.clif_typed_runs.proofs.ScriptSteps.{runs_fit}
use Rattle.clif_expansion.specs.Laws.{TakesTyped}
use Rattle.clif_expansion.specs.CallsVerdict.{AreCallsAllowed}
use Rattle.clif_expansion.specs.HeadlineLaws.{CallsNameValues}
use Rattle.clif_expansion.specs.CallsRun.{calls_run}
use Rattle.clif_expansion.specs.PerformedCalls.{HaveTypes}
use Rattle.clif_expansion.specs.ScriptCall.{Ask, Emit, ScriptCall, call_allowed, call_answers, emitted_item, emitted_types, ledger_behind, ledger_of, ledger_with_call, program_behind, program_of_calls, program_with_call, with_imports}
use Rattle.clif_expansion.proofs.EmittedPrograms.{one_longer}
use Rattle.clif_expansion.proofs.Joins.{answers_last}
use Rattle.clif_expansion.proofs.LedgerTypes.{call_types_before}
use Rattle.clif_expansion.proofs.Values.{values_are_taken}
use Rattle.clif_expansion.proofs.calls.Blocks.{all_append}

-- VARIABLES ---------------------------------------------------------------------------------------------------------------

-- a use or an assignment leaves types, and so does a declaration more
touched_on : (states : List VariableState) (touched v : ℕ) (ty : «Type») → option_map (λ state. state.ty) (slice_get states v) ≡ Some ty
    → option_map (λ state. state.ty) (slice_get (touched_at touched states) v) ≡ Some ty
touched_on [] touched v ty is = is
touched_on (state ∷ states) zero zero ty is = is
touched_on (state ∷ states) zero (suc v) ty is = is
touched_on (state ∷ states) (suc touched) zero ty is = is
touched_on (state ∷ states) (suc touched) (suc v) ty is = touched_on states touched v ty is

-- so does a mark
marked_on : (states : List VariableState) (marked v : ℕ) (ty : «Type») → option_map (λ state. state.ty) (slice_get states v) ≡ Some ty
    → option_map (λ state. state.ty) (slice_get (marked_at marked states) v) ≡ Some ty
marked_on [] marked v ty is = is
marked_on (state ∷ states) zero zero ty is = is
marked_on (state ∷ states) zero (suc v) ty is = is
marked_on (state ∷ states) (suc marked) zero ty is = is
marked_on (state ∷ states) (suc marked) (suc v) ty is = marked_on states marked v ty is

declared_on : (states more : List VariableState) (v : ℕ) (ty : «Type») → option_map (λ state. state.ty) (slice_get states v) ≡ Some ty
    → option_map (λ state. state.ty) (slice_get (states ++ more) v) ≡ Some ty
declared_on [] more zero ty is = let no_way : ⊥ = cc in absurd no_way
declared_on [] more (suc v) ty is = let no_way : ⊥ = cc in absurd no_way
declared_on (state ∷ states) more zero ty is = is
declared_on (state ∷ states) more (suc v) ty is = declared_on states more v ty is

-- what begins a block, ends it or leads on leaves variables
begun_variables : (ledger : Ledger) (current : Option Name) → (with_begun_at ledger current).variables ≡ ledger.variables
begun_variables ledger None = refl
begun_variables ledger (Some block) = by (is_inserted ledger block)
  where
    by : (c : Bool) → (if c then ledger else record ledger { layout = ledger.layout ++ block ∷ [] }).variables ≡ ledger.variables
    by true = refl
    by false = refl

ended_variables : (ledger : Ledger) (operation : Operation) → (with_terminator ledger operation).variables ≡ ledger.variables
ended_variables ledger operation = by (is_terminator operation) ledger.current
  where
    by : (c : Bool) (current : Option Name) → (if c then with_filled_at ledger current else ledger).variables ≡ ledger.variables
    by true None = refl
    by true (Some block) = refl
    by false current = refl

led_variables : (branch : Name) (ledger : Ledger) (edges : List (Edge Name Name)) → (fold (with_predecessor branch) ledger edges).variables ≡ ledger.variables
led_variables branch ledger [] = refl
led_variables branch ledger (edge ∷ edges) = led_variables branch (with_predecessor branch ledger edge) edges

-- and so does a switch
behind_variables : (operation : Operation) (ledger : Ledger) → (ledger_behind operation ledger).variables ≡ ledger.variables
behind_variables (Switch keys) ledger = refl
behind_variables _ ledger = refl

-- and an instruction
instruction_variables : (ledger : Ledger) (instruction : Instruction Name Name) → (with_instruction ledger instruction).variables ≡ ledger.variables
instruction_variables ledger instruction =
    led_variables (answer_of (length ledger.answers) 0) (with_terminator (with_begun ledger) instruction.operation) instruction.edges
    ∙ ended_variables (with_begun ledger) instruction.operation ∙ begun_variables ledger ledger.current

-- a variable keeps its type behind a call more
module _ (ledger : Ledger) (v : ℕ) (ty : «Type») (is : variable_type ledger v ≡ Some ty) where
  same_variables : (states : List VariableState) → states ≡ ledger.variables → option_map (λ state. state.ty) (slice_get states v) ≡ Some ty
  same_variables states same = ap (λ (found : List VariableState). option_map (λ state. state.ty) (slice_get found v)) same ∙ is

  begun_on : variable_type (with_begun ledger) v ≡ Some ty
  begun_on = same_variables (with_begun ledger).variables (begun_variables ledger ledger.current)

  instruction_on : (instruction : Instruction Name Name) → variable_type (with_instruction ledger instruction) v ≡ Some ty
  instruction_on instruction = same_variables (with_instruction ledger instruction).variables (instruction_variables ledger instruction)

  needed_on : (need : StackMapNeed) → option_map (λ state. state.ty) (slice_get (with_need need ledger.variables) v) ≡ Some ty
  needed_on (OfVariable variable) = marked_on ledger.variables variable v ty is
  needed_on (OfValue value) = is

  asked_on : (request : Request) → variable_type (changed_by ledger request) v ≡ Some ty
  asked_on request = by (ledger_effect request)
    where
      of_ledger : (other : Ledger) → changed_by ledger request ≡ other → variable_type other v ≡ Some ty → variable_type (changed_by ledger request) v ≡ Some ty
      of_ledger other same typed = ap (λ (l : Ledger). variable_type l v) same ∙ typed

      of_request : (other : Request) → request ≡ other → variable_type (changed_by ledger other) v ≡ Some ty → variable_type (changed_by ledger request) v ≡ Some ty
      of_request other same typed = ap (λ (r : Request). variable_type (changed_by ledger r) v) same ∙ typed

      by : LedgerEffect request → variable_type (changed_by ledger request) v ≡ Some ty
      by (Keeps stays same) = of_ledger _ (same ledger) is
      by (Lays layout tables jump_tables exception_tables stays same) = of_ledger _ (same ledger) is
      by (Changes block change keeps stays same) = of_ledger _ (same ledger) is
      by (Begins stays same) = of_ledger _ (same ledger) begun_on
      by (Creates same) = of_request _ same is
      by (Enters block same) = of_request _ same is
      by (ChangesEach change keeps stays same) = of_ledger _ (same ledger) is
      by (Declares declared same) = of_request _ same (declared_on ledger.variables (new_variable declared ∷ []) v ty is)
      by (Touches variable value same) = of_request _ same (touched_on ledger.variables variable v ty is)
      by (Reads variable same) = of_request _ same (touched_on (with_begun ledger).variables variable v ty begun_on)
      by (Marks need same) = of_request _ same (needed_on need)
      by (Appends entries instruction same) = of_request _ same (instruction_on instruction)

  call_on : (call : ScriptCall) → variable_type (ledger_with_call ledger call) v ≡ Some ty
  call_on (Ask request) = asked_on request
  call_on (Emit imports instruction) =
      same_variables (ledger_with_call ledger (Emit imports instruction)).variables
      (behind_variables instruction.operation (with_instruction (with_imports imports ledger) instruction) ∙ instruction_variables (with_imports imports ledger) instruction)

-- a declared variable has the type that the ledger gives it
abbrev HaveVariables : Ledger → (ℕ → «Type») → Type 0
HaveVariables ledger variables = (v : ℕ) (ty : «Type») → variable_type ledger v ≡ Some ty → variables v ≡ ty

variables_before : (calls : List ScriptCall) (ledger : Ledger) (variables : ℕ → «Type») → HaveVariables (fold ledger_with_call ledger calls) variables → HaveVariables ledger variables
variables_before [] ledger variables have = have
variables_before (call ∷ calls) ledger variables have = λ v ty is. variables_before calls (ledger_with_call ledger call) variables have v ty (call_on ledger v ty is call)

all_types_before : (calls : List ScriptCall) (ledger : Ledger) (types : Name → «Type») → HaveTypes (fold ledger_with_call ledger calls) types → HaveTypes ledger types
all_types_before [] ledger types have = have
all_types_before (call ∷ calls) ledger types have = call_types_before ledger call types (all_types_before calls (ledger_with_call ledger call) types have)

-- WHAT IS GIVEN -----------------------------------------------------------------------------------------------------------

value_there : (tys : List «Type») (k : ℕ) (ty : «Type») → slice_get tys k ≡ Some ty → value_answer_type (slice_get (map AValue tys) k) ≡ Some ty
value_there [] k ty is = let no_way : ⊥ = cc in absurd no_way
value_there (first ∷ tys) zero ty is = is
value_there (first ∷ tys) (suc k) ty is = value_there tys k ty is

module _ (types : Name → «Type») (variables : ℕ → «Type») where
  -- results have the types of the typing table, and a use has its variable's type
  abbrev HasGiven : Item → Type 0
  HasGiven (Instruct place instruction results) = map types results ≡ result_types instruction.operation instruction.controlling
  HasGiven (Use variable name) = types name ≡ variables variable
  HasGiven (Assign variable name) = Unit {0}

  with_one : (program : Program) (current : Option Name) (item : Item) → EachItem HasGiven program → HasGiven item → EachItem HasGiven (with_item_at program current item)
  with_one program None item all one block = all block
  with_one program (Some current) item all one block = by (same_name block current)
    where
      by : (here : Bool) → AllByRecursion HasGiven (if here then program.items block ++ item ∷ [] else program.items block)
      by true = all_append HasGiven (program.items block) (item ∷ []) (all block) (one, tt)
      by false = all block

  behind_given : (operation : Operation) (program : Program) → EachItem HasGiven program → EachItem HasGiven (program_behind operation program)
  behind_given (Switch keys) program all = all
  behind_given _ program all = all

  redirected_given : (branch from to : Name) (item : Item) → HasGiven item → HasGiven (redirected_item branch from to item)
  redirected_given branch from to (Instruct place instruction results) given = by (same_name (answer_of place 0) branch)
    where
      by : (c : Bool) → HasGiven (Instruct place (if c then redirected_instruction from to instruction else instruction) results)
      by true = given
      by false = given
  redirected_given branch from to (Use variable name) given = given
  redirected_given branch from to (Assign variable name) given = tt

  all_redirected : (branch from to : Name) (items : List Item) → AllByRecursion HasGiven items → AllByRecursion HasGiven (map (redirected_item branch from to) items)
  all_redirected branch from to [] all = tt
  all_redirected branch from to (item ∷ items) all = (redirected_given branch from to item all.0, all_redirected branch from to items all.1)

  -- the answers from one number on have these types
  answers_given : (ledger : Ledger) → HaveTypes ledger types → (place index : ℕ) (tys : List «Type»)
      → ((k : ℕ) (ty : «Type») → slice_get tys k ≡ Some ty → type_of ledger (answer_of place (index + k)) ≡ Some ty)
      → map types (answers_from place index tys) ≡ tys
  answers_given ledger have place index [] each = refl
  answers_given ledger have place index (ty ∷ tys) each =
      let here : index ≡ index + 0 = omega arith in
      ap₂ (λ (first : «Type») (rest : List «Type»). first ∷ rest)
      (have (answer_of place index) ty (ap (λ (i : ℕ). type_of ledger (answer_of place i)) here ∙ each 0 ty refl))
      (answers_given ledger have place (suc index) tys (λ k other there.
      let next : suc index + k ≡ index + suc k = omega arith in
      ap (λ (i : ℕ). type_of ledger (answer_of place i)) next ∙ each (suc k) other there))

  module _ (ledger : Ledger) (program : Program) (here : program.place ≡ length ledger.answers) (all : EachItem HasGiven program) where
    built_given : (entries : List _) (instruction : Instruction Name Name) → HaveTypes (ledger_with_call ledger (Ask (Build entries instruction))) types
        → HasGiven (Instruct program.place instruction (result_names program.place instruction))
    built_given entries instruction have =
        subst (λ (n : ℕ). map types (answers_from n 1 (result_types instruction.operation instruction.controlling)) ≡ result_types instruction.operation instruction.controlling) (sym here)
        (answers_given (ledger_with_call ledger (Ask (Build entries instruction))) have (length ledger.answers) 1 (result_types instruction.operation instruction.controlling)
        (λ k ty there.
        let next : 1 + k ≡ suc k = omega arith in
        ap (λ (i : ℕ). type_of (ledger_with_call ledger (Ask (Build entries instruction))) (answer_of (length ledger.answers) i)) next
        ∙ ap value_answer_type (answers_last ledger.answers (answers_to ledger (Build entries instruction)) (suc k))
        ∙ value_there (result_types instruction.operation instruction.controlling) k ty there))

    emitted_given : (imports : List TableEntry) (instruction : Instruction Name Name) → HaveTypes (ledger_with_call ledger (Emit imports instruction)) types → HasGiven (emitted_item program.place instruction)
    emitted_given imports instruction have =
        subst (λ (n : ℕ). map types (answers_from n 0 (emitted_types instruction)) ≡ emitted_types instruction) (sym here)
        (answers_given (ledger_with_call ledger (Emit imports instruction)) have (length ledger.answers) 0 (emitted_types instruction)
        (λ k ty there.
        let next : 0 + k ≡ k = omega arith in
        ap (λ (i : ℕ). type_of (ledger_with_call ledger (Emit imports instruction)) (answer_of (length ledger.answers) i)) next
        ∙ ap value_answer_type (answers_last ledger.answers (map AValue (emitted_types instruction)) k)
        ∙ value_there (emitted_types instruction) k ty there))

    use_given : (variable : ℕ) → HaveTypes (ledger_with_call ledger (Ask (UseVar variable))) types → HaveVariables ledger variables → IsTrue (is_some (variable_type ledger variable))
        → HasGiven (Use variable (answer_of program.place 0))
    use_given variable have declared some = ap (λ (n : ℕ). types (answer_of n 0)) here ∙ by (variable_type ledger variable) refl some
      where
        by : (o : Option «Type») → variable_type ledger variable ≡ o → IsTrue (is_some o) → types (answer_of (length ledger.answers) 0) ≡ variables variable
        by None found is = let no_way : ⊥ = cc in absurd no_way
        by (Some ty) found is =
            have (answer_of (length ledger.answers) 0) ty
            (ap value_answer_type (answers_last ledger.answers (answers_to ledger (UseVar variable)) 0) ∙ ap (λ (o : Option «Type»). Some (or_invalid o)) found)
            ∙ sym (declared variable ty found)

    asked_given : (request : Request) → IsTrue (allows ledger request) → HaveTypes (ledger_with_call ledger (Ask request)) types → HaveVariables ledger variables
        → EachItem HasGiven (extended program request)
    asked_given (DefVar variable value) allowed have declared = with_one program program.current (Assign variable value) all tt
    asked_given (UseVar variable) allowed have declared =
        with_one (with_inserted program) program.current (Use variable (answer_of program.place 0)) all
        (use_given variable have declared (and_parts (is_open ledger ledger.current) (is_some (variable_type ledger variable)) allowed).1)
    asked_given (Build entries instruction) allowed have declared =
        with_one (with_inserted program) program.current (Instruct program.place instruction (result_names program.place instruction)) all (built_given entries instruction have)
    asked_given (ChangeJumpDestination branch from to) allowed have declared = λ block. all_redirected branch from to (program.items block) (all block)
    asked_given _ allowed have declared = all

    call_given : (call : ScriptCall) → IsTrue (call_allowed ledger call) → HaveTypes (ledger_with_call ledger call) types → HaveVariables ledger variables
        → EachItem HasGiven (program_with_call program call)
    call_given (Ask request) allowed have declared = asked_given request allowed have declared
    call_given (Emit imports instruction) allowed have declared =
        behind_given instruction.operation (with_item_at (with_inserted program) program.current (emitted_item program.place instruction))
        (with_one (with_inserted program) program.current (emitted_item program.place instruction) all (emitted_given imports instruction have))

  place_on : (program : Program) (call : ScriptCall) → (program_with_call program call).place ≡ suc program.place
  place_on program (Ask request) = refl
  place_on program (Emit imports instruction) = refl

  all_given : (ledger : Ledger) (program : Program) (calls : List ScriptCall) → program.place ≡ length ledger.answers → AreCallsAllowed ledger calls
      → HaveTypes (fold ledger_with_call ledger calls) types → HaveVariables (fold ledger_with_call ledger calls) variables
      → EachItem HasGiven program → EachItem HasGiven (fold program_with_call program calls)
  all_given ledger program [] here allowed have declared all = all
  all_given ledger program (call ∷ calls) here allowed have declared all =
      all_given (ledger_with_call ledger call) (program_with_call program call) calls
      (place_on program call ∙ ap suc here ∙ sym (one_longer ledger.answers (call_answers ledger call))) allowed.1 have declared
      (call_given ledger program here all call allowed.0 (all_types_before calls (ledger_with_call ledger call) types have)
      (variables_before (call ∷ calls) ledger variables declared))

-- RUNS --------------------------------------------------------------------------------------------------------------------

module _ (calls : List ScriptCall) (hidden : ℕ → Bool) (world : World) where
  abbrev types : Name → «Type»
  types x = or_invalid (type_of (ledger_of calls) x)

  abbrev variables : ℕ → «Type»
  variables v = or_invalid (variable_type (ledger_of calls) v)

  item_typed : (returns : List «Type») (item : Item) → IsItemWellTyped (ledger_of calls) (program_of_calls calls) returns item → HasGiven types variables item
      → IsItemTyped (calls_run calls hidden world) returns item
  item_typed returns (Instruct place instruction results) typed given = record { takes = typed; gives = given }
  item_typed returns (Use variable name) typed given = given
  item_typed returns (Assign variable name) typed given = ap or_invalid typed

  items_typed : (returns : List «Type») (items : List Item) → AllByRecursion (IsItemWellTyped (ledger_of calls) (program_of_calls calls) returns) items
      → AllByRecursion (HasGiven types variables) items → AllByRecursion (IsItemTyped (calls_run calls hidden world) returns) items
  items_typed returns [] typed given = tt
  items_typed returns (item ∷ items) typed given = (item_typed returns item typed.0 given.0, items_typed returns items typed.1 given.1)

  entry_typed : (tys : List «Type») (entry : Option Name) → EntryTakes (ledger_of calls) (program_of_calls calls) tys entry
      → EntryHas (name_types_at (calls_run calls hidden world)) tys entry
  entry_typed tys None takes = tt
  entry_typed tys (Some entry) takes = ([], takes ∙ sym (append-nil tys))

  typed : (signature : SignatureShape) → AreCallsAllowed empty_ledger calls → WellTyped (ledger_of calls) (program_of_calls calls) signature
      → AreValues (types_of signature.params) world.arguments → IsScriptTyped (calls_run calls hidden world) signature
  typed signature allowed well arguments =
      let given : EachItem (HasGiven types variables) (program_of_calls calls) =
      all_given types variables empty_ledger empty_program calls refl allowed (λ x ty is. ap or_invalid is) (λ v ty is. ap or_invalid is) (λ block. tt) in
      record {
        items = λ block. items_typed (types_of signature.returns) ((program_of_calls calls).items block) (well.items block) (given block);
        entry = entry_typed (types_of signature.params) (program_of_calls calls).entry well.entry;
        arguments = arguments;
      }

-- a typed item takes operands of its types
takes_typed : (run : ScriptRun) (state : ScriptState) (returns : List «Type») (item : Item) → IsItemTyped run returns item → TakesTyped run state item
takes_typed run state returns (Instruct place instruction results) is = (returns, is.takes.operands)
takes_typed run state returns (Use variable name) is = tt
takes_typed run state returns (Assign variable name) is = tt

pub calls_name_values : CallsNameValues
calls_name_values = record {
  fits = λ calls signature hidden world allowed well arguments.
      runs_fit (calls_run calls hidden world) signature (typed calls hidden world signature allowed well arguments);
  sound = λ calls signature hidden world allowed well arguments claims. record {
    takes_types =
        let run : ScriptRun = calls_run calls hidden world in
        each_step (IsItemTyped run (types_of signature.returns)) run (typed calls hidden world signature allowed well arguments).items (TakesTyped run)
        (λ state item is. takes_typed run state (types_of signature.returns) item is);
    takes_values = values_are_taken (calls_run calls hidden world)
        (λ n. (runs_fit (calls_run calls hidden world) signature (typed calls hidden world signature allowed well arguments) n).names);
    claims_true = claims;
  };
}
