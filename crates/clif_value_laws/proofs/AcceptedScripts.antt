-- What calls give has the types that their ledger tells; so the run of an accepted, well-typed script is typed.
use Rattle.std.proofs.Common.{◌≡◌, ℕ, zero, suc, ◌+◌, List, [], ◌∷◌, ◌++◌, length, map, slice_get, Some, None, Option, Bool, true, false, refl, sym, ◌∙◌, ap, ap₂, subst, arith}
use Rattle.std.specs.Prelude.{IsTrue, is_some, not, ◌&&◌, if◌then◌else◌}
use Rattle.std.specs.List.{AllByRecursion, list_all}
use Rattle.std.proofs.lemmas.Bool.{and_parts}
use Rattle.std.proofs.lemmas.List.{append-nil, append_assoc}
use Rattle.clif_types.specs.declared.types.«Type».{«Type»}
use Rattle.clif_types.specs.Signature.{SignatureShape}
use Rattle.clif_ssa.specs.Structured.{VariableTypes}
use Rattle.clif_meaning.specs.Acceptance.{Accepted, Misuse, Refused, Verdict, allows, can_lead, can_operate, has_entry, is_open, is_refused, may_give_all, refusal_of, verdict_from, verdict_on}
use Rattle.clif_meaning.specs.Bits.{AreValues}
use Rattle.clif_tables.specs.Callees.{types_of}
use Rattle.clif_meaning.specs.FunctionView.{FunctionView}
use Rattle.clif_meaning.specs.Headline.{script_run}
use Rattle.clif_meaning.specs.Instruction.{Instruction, named_operands, operation_entries}
use Rattle.clif_meaning.specs.Ledger.{AValue, Ledger, answers_to, empty_ledger, has_value, ledger_after, ledger_with, or_invalid, type_of, value_answer_type, variable_type}
use Rattle.clif_meaning.specs.Name.{Name, answer_of}
use Rattle.clif_meaning.specs.Premises.{EachItem, EntryTakes, IsItemWellTyped, WellTyped, parameter_types}
use Rattle.clif_meaning.specs.Program.{Item, Instruct, Use, Assign, Program, answers_from, extended, program_of, result_names, result_types, with_inserted, with_item_at}
use Rattle.clif_meaning.specs.Name.{same_name}
use Rattle.clif_meaning.specs.Request.{AnsweredCall, Build, GivenEntry, ChangeJumpDestination, DefVar, Finalize, Request, Script, UseVar, outright, script_of}
use Rattle.clif_meaning.specs.World.{World}
use Rattle.clif_simulation.specs.Carries.{AreTypes, IsValue}
use Rattle.clif_simulation.specs.Tables.{program_so_far}
use Rattle.clif_simulation.proofs.Carrying.{all_append, all_mapped}
use Rattle.clif_simulation.proofs.LedgerValues.{type_new, type_stays, typed_earlier, value_stays}
use Rattle.clif_simulation.proofs.Ledgers.{types_before}
use Rattle.clif_simulation.proofs.Redirections.EachRedirected.{all_redirected}
use Rattle.clif_simulation.proofs.Numbers.{ledger_longer, place_so_far, program_longer}
use Rattle.clif_simulation.proofs.Values.{false_is}
use Rattle.clif_simulation.proofs.Whole.{are_declared, declared_types}
use Rattle.clif_value_laws.specs.Functions.{AcceptedScriptsNameValues, NamesValues}
use Rattle.clif_typed_runs.specs.ValuesFit.{EntryHas, IsItemTyped, IsScriptTyped}

-- CALLS THAT ARE ALLOWED --------------------------------------------------------------------------------------------------

-- each of these calls may be made, one after the other
abbrev AreAllowed : Ledger → Script → Type 0
AreAllowed ledger [] = Unit {0}
AreAllowed ledger (request ∷ script) = IsTrue (allows ledger request) × AreAllowed (ledger_with ledger request) script

accepted_allowed : (place : ℕ) (ledger : Ledger) (script : Script) → verdict_from place ledger (map outright script ++ outright Finalize ∷ []) ≡ Accepted → AreAllowed ledger script
accepted_allowed place ledger [] accepted = tt
accepted_allowed place ledger (request ∷ script) accepted =
    by (allows ledger request) refl (is_refused ledger (outright request)) (is_some (refusal_of ledger request))
    (accepted_allowed (suc place) (ledger_with ledger request) script) accepted
  where
    rest : Verdict
    rest = verdict_from (suc place) (ledger_with ledger request) (map outright script ++ outright Finalize ∷ [])

    by : (allowed : Bool) → allows ledger request ≡ allowed → (tried refused : Bool) → (rest ≡ Accepted → AreAllowed (ledger_with ledger request) script)
        → (if not allowed then (if tried then Refused place else Misuse place) else (if refused then Refused place else rest)) ≡ Accepted
        → AreAllowed ledger (request ∷ script)
    by true is tried false others done = (is, others done)
    by true is tried true others done = let none : ⊥ = cc in absurd none
    by false is true refused others done = let none : ⊥ = cc in absurd none
    by false is false refused others done = let none : ⊥ = cc in absurd none

-- WHAT CALLS GIVE ---------------------------------------------------------------------------------------------------------

abbrev pub ledger_of : List AnsweredCall → Ledger
ledger_of calls = ledger_after (script_of calls)

-- the names have these types in the ledger
abbrev pub AreTyped : List AnsweredCall → List Name → List «Type» → Type 0
AreTyped calls [] [] = Unit {0}
AreTyped calls (name ∷ names) (ty ∷ types) = (type_of (ledger_of calls) name ≡ Some ty) × AreTyped calls names types
AreTyped calls [] (ty ∷ types) = ⊥
AreTyped calls (name ∷ names) [] = ⊥

-- The results of an instruction have their types in the ledger. Where the calls may be made, its operands and contexts are values
-- there, and a use has its variable's type, where variables have these types.
abbrev pub HasGiven : (may_be_made : Type 0) → VariableTypes → List AnsweredCall → Item → Type 0
HasGiven may types calls (Instruct place instruction results) =
    AreTyped calls results (result_types instruction.operation instruction.controlling) × (may → NamesValues calls (Instruct place instruction results))
HasGiven may types calls (Use variable name) = may → type_of (ledger_of calls) name ≡ Some (types variable)
HasGiven may types calls (Assign variable name) = Unit {0}

with_one : (P : Item → Type 0) (program : Program) (current : Option Name) (item : Item) → EachItem P program → P item → EachItem P (with_item_at program current item)
with_one P program None item all one block = all block
with_one P program (Some current) item all one block = by (same_name block current)
  where
    by : (here : Bool) → AllByRecursion P (if here then program.items block ++ item ∷ [] else program.items block)
    by true = all_append P (program.items block) (item ∷ []) (all block) (one, tt)
    by false = all block

value_there : (types : List «Type») (k : ℕ) (ty : «Type») → slice_get types k ≡ Some ty → value_answer_type (slice_get (map AValue types) k) ≡ Some ty
value_there [] zero ty is = is
value_there [] (suc k) ty is = is
value_there (first ∷ types) zero ty is = is
value_there (first ∷ types) (suc k) ty is = value_there types k ty is

second_of : (a b : Bool) → IsTrue (a && b) → IsTrue b
second_of true b is = is
second_of false b is = absurd (false_is is)

-- the first and the fourth of seven tests
first_and_fourth : (a b c d e f g : Bool) → IsTrue (a && b && c && d && e && f && g) → IsTrue a × IsTrue d
first_and_fourth true true true true e f g is = (refl, refl)
first_and_fourth true true true false e f g is = absurd (false_is is)
first_and_fourth true true false d e f g is = absurd (false_is is)
first_and_fourth true false c d e f g is = absurd (false_is is)
first_and_fourth false b c d e f g is = absurd (false_is is)

all_values : (ledger : Ledger) (names : List Name) → IsTrue (list_all (has_value ledger) names) → AllByRecursion (λ name. IsTrue (has_value ledger name)) names
all_values ledger [] is = tt
all_values ledger (name ∷ names) is =
    let both = and_parts (has_value ledger name) (list_all (has_value ledger) names) is in
    (both.0, all_values ledger names both.1)

module _ (calls : List AnsweredCall) (call : AnsweredCall) where
  abbrev after : List AnsweredCall
  after = calls ++ call ∷ []

  kept : (name : Name) (ty : «Type») → type_of (ledger_of calls) name ≡ Some ty → type_of (ledger_of after) name ≡ Some ty
  kept name ty is = type_stays calls call name (typed_earlier calls name ty is) ∙ is

  typed_kept : (names : List Name) (types : List «Type») → AreTyped calls names types → AreTyped after names types
  typed_kept [] [] typed = tt
  typed_kept [] (ty ∷ types) typed = absurd typed
  typed_kept (name ∷ names) [] typed = absurd typed
  typed_kept (name ∷ names) (ty ∷ types) typed = (kept name ty typed.0, typed_kept names types typed.1)

  -- the answers from one number on have these types
  answers_typed : (index : ℕ) (types : List «Type»)
      → ((k : ℕ) (ty : «Type») → slice_get types k ≡ Some ty → type_of (ledger_of after) (answer_of (length calls) (index + k)) ≡ Some ty)
      → AreTyped after (answers_from (length calls) index types) types
  answers_typed index [] each = tt
  answers_typed index (ty ∷ types) each =
      let here : index ≡ index + 0 = omega arith in (
        ap (λ (i : ℕ). type_of (ledger_of after) (answer_of (length calls) i)) here ∙ each 0 ty refl,
        answers_typed (suc index) types (λ k other there.
            let next : suc index + k ≡ index + suc k = omega arith in
            ap (λ (i : ℕ). type_of (ledger_of after) (answer_of (length calls) i)) next ∙ each (suc k) other there),
      )

  results_typed : (entries : List GivenEntry) (instruction : Instruction Name Name) → call.request ≡ Build entries instruction
      → AreTyped after (answers_from (length calls) 1 (result_types instruction.operation instruction.controlling)) (result_types instruction.operation instruction.controlling)
  results_typed entries instruction is = answers_typed 1 (result_types instruction.operation instruction.controlling) each
    where
      each : (k : ℕ) (ty : «Type») → slice_get (result_types instruction.operation instruction.controlling) k ≡ Some ty
          → type_of (ledger_of after) (answer_of (length calls) (1 + k)) ≡ Some ty
      each k ty there =
          let next : 1 + k ≡ suc k = omega arith in
          ap (λ (i : ℕ). type_of (ledger_of after) (answer_of (length calls) i)) next
          ∙ type_new calls call (suc k)
          ∙ ap (λ (request : Request). value_answer_type (slice_get (answers_to (ledger_of calls) request) (suc k))) is
          ∙ value_there (result_types instruction.operation instruction.controlling) k ty there

  use_typed : (types : VariableTypes) (variable : ℕ) → AreTypes after types → call.request ≡ UseVar variable → IsTrue (is_some (variable_type (ledger_of calls) variable))
      → type_of (ledger_of after) (answer_of (length calls) 0) ≡ Some (types variable)
  use_typed types variable are is declared =
      type_new calls call 0
      ∙ ap (λ (request : Request). value_answer_type (slice_get (answers_to (ledger_of calls) request) 0)) is
      ∙ by (variable_type (ledger_of calls) variable) refl declared
    where
      by : (o : Option «Type») → variable_type (ledger_of calls) variable ≡ o → IsTrue (is_some o) → Some (or_invalid (variable_type (ledger_of calls) variable)) ≡ Some (types variable)
      by None found some = absurd (false_is some)
      by (Some ty) found some = ap (λ (o : Option «Type»). Some (or_invalid o)) found ∙ ap (λ (t : «Type»). Some t) (sym (types_before calls call types are variable ty found))

  item_kept : (may : Type 0) (types : VariableTypes) (item : Item) → HasGiven may types calls item → HasGiven may types after item
  item_kept may types (Instruct place instruction results) given = (
    typed_kept results (result_types instruction.operation instruction.controlling) given.0,
    λ made. all_mapped (IsValue calls) (IsValue after) (value_stays calls call) (named_operands instruction) (given.1 made),
  )
  item_kept may types (Use variable name) given = λ made. kept name (types variable) (given made)
  item_kept may types (Assign variable name) given = tt

  -- one more call
  one_more : (may : Type 0) (types : VariableTypes) → AreTypes after types → (may → IsTrue (allows (ledger_of calls) call.request))
      → EachItem (HasGiven may types calls) (program_so_far calls) → EachItem (HasGiven may types after) (program_so_far after)
  one_more may types are allowed given block =
      subst (λ (program : Program). AllByRecursion P (program.items block)) (sym (program_longer calls call)) (by call.request refl block)
    where
      P : Item → Type 0
      P = HasGiven may types after

      before : Program
      before = program_so_far calls

      all : EachItem P before
      all other = all_mapped (HasGiven may types calls) P (item_kept may types) (before.items other) (given other)

      here : before.place ≡ length calls
      here = place_so_far calls

      declared : (variable : ℕ) → call.request ≡ UseVar variable → may → IsTrue (is_some (variable_type (ledger_of calls) variable))
      declared variable is made =
          second_of (is_open (ledger_of calls) (ledger_of calls).current) (is_some (variable_type (ledger_of calls) variable))
          (subst (λ (request : Request). IsTrue (allows (ledger_of calls) request)) is (allowed made))

      operands_there : (entries : List GivenEntry) (instruction : Instruction Name Name) → call.request ≡ Build entries instruction → may
          → AllByRecursion (IsValue after) (named_operands instruction)
      operands_there entries instruction is made =
          let ledger : Ledger = ledger_of calls in
          let are = first_and_fourth (list_all (has_value ledger) instruction.contexts) (may_give_all ledger entries) (is_open ledger ledger.current)
          (list_all (has_value ledger) instruction.operands) (list_all (can_lead ledger) instruction.edges) (can_operate instruction.operation instruction.controlling)
          (list_all (has_entry ledger.tables) (operation_entries instruction.operation))
          (subst (λ (request : Request). IsTrue (allows ledger request)) is (allowed made)) in
          all_mapped (IsValue calls) (IsValue after) (value_stays calls call) (named_operands instruction)
          (all_append (IsValue calls) instruction.operands instruction.contexts
          (all_values ledger instruction.operands are.1) (all_values ledger instruction.contexts are.0))

      by : (request : Request) → call.request ≡ request → EachItem P (extended before request)
      by (DefVar variable value) is = with_one P before before.current (Assign variable value) all tt
      by (UseVar variable) is =
          with_one P (with_inserted before) before.current (Use variable (answer_of before.place 0)) all
          (λ made. subst (λ (p : ℕ). type_of (ledger_of after) (answer_of p 0) ≡ Some (types variable)) (sym here) (use_typed types variable are is (declared variable is made)))
      by (Build entries instruction) is =
          with_one P (with_inserted before) before.current (Instruct before.place instruction (result_names before.place instruction)) all (
            subst (λ (p : ℕ). AreTyped after (answers_from p 1 (result_types instruction.operation instruction.controlling)) (result_types instruction.operation instruction.controlling))
                (sym here) (results_typed entries instruction is),
            operands_there entries instruction is,
          )
      by (ChangeJumpDestination branch from to) is = λ other. all_redirected P P branch from to (λ item given. given) (λ p instruction results given. given) (before.items other) (all other)
      by _ is = all

-- ALL CALLS ---------------------------------------------------------------------------------------------------------------

-- types that the longer list declares are those of its front
types_front : (types : VariableTypes) (calls rest : List AnsweredCall) → AreTypes (calls ++ rest) types → AreTypes calls types
types_front types calls [] are = subst (λ (cs : List AnsweredCall). AreTypes cs types) (append-nil calls) are
types_front types calls (call ∷ rest) are =
    types_before calls call types
    (types_front types (calls ++ call ∷ []) rest (subst (λ (cs : List AnsweredCall). AreTypes cs types) (sym (append_assoc calls (call ∷ []) rest)) are))

all_given : (may : Type 0) (types : VariableTypes) (calls rest : List AnsweredCall) → AreTypes (calls ++ rest) types → (may → AreAllowed (ledger_of calls) (script_of rest))
    → EachItem (HasGiven may types calls) (program_so_far calls) → EachItem (HasGiven may types (calls ++ rest)) (program_so_far (calls ++ rest))
all_given may types calls [] are allowed given =
    subst (λ (cs : List AnsweredCall). EachItem (HasGiven may types cs) (program_so_far cs)) (sym (append-nil calls)) given
all_given may types calls (call ∷ rest) are allowed given =
    let whole : (calls ++ call ∷ []) ++ rest ≡ calls ++ call ∷ rest = append_assoc calls (call ∷ []) rest in
    let types_whole = subst (λ (cs : List AnsweredCall). AreTypes cs types) (sym whole) are in
    subst (λ (cs : List AnsweredCall). EachItem (HasGiven may types cs) (program_so_far cs)) whole
    (all_given may types (calls ++ call ∷ []) rest types_whole
    (λ made. let rest_allowed = allowed made in subst (λ (ledger : Ledger). AreAllowed ledger (script_of rest)) (sym (ledger_longer calls call)) rest_allowed.1)
    (one_more calls call may types (types_front types (calls ++ call ∷ []) rest types_whole) (λ made. let both = allowed made in both.0) given))

-- of any calls, and of those of an accepted script
pub calls_given : (calls : List AnsweredCall) → EachItem (HasGiven ⊥ (declared_types calls) calls) (program_so_far calls)
calls_given calls = all_given ⊥ (declared_types calls) [] calls (are_declared calls) (λ no_way. absurd no_way) (λ block. tt)

accepted_given : (calls : List AnsweredCall) → verdict_on (script_of calls) ≡ Accepted → EachItem (HasGiven (Unit {0}) (declared_types calls) calls) (program_so_far calls)
accepted_given calls accepted =
    all_given (Unit {0}) (declared_types calls) [] calls (are_declared calls) (λ made. accepted_allowed 0 empty_ledger (script_of calls) accepted) (λ block. tt)

item_names_values : (calls : List AnsweredCall) (item : Item) → HasGiven (Unit {0}) (declared_types calls) calls item → NamesValues calls item
item_names_values calls (Instruct place instruction results) given = given.1 tt
item_names_values calls (Use variable name) given = tt
item_names_values calls (Assign variable name) given = tt

pub names_values : AcceptedScriptsNameValues
names_values calls accepted block =
    all_mapped (HasGiven (Unit {0}) (declared_types calls) calls) (NamesValues calls) (item_names_values calls) ((program_so_far calls).items block)
    (accepted_given calls accepted block)

-- RUNS --------------------------------------------------------------------------------------------------------------------

abbrev pub name_type : List AnsweredCall → Name → «Type»
name_type calls name = or_invalid (type_of (ledger_of calls) name)

types_agree : (calls : List AnsweredCall) (names : List Name) (types : List «Type») → AreTyped calls names types → map (name_type calls) names ≡ types
types_agree calls [] [] typed = refl
types_agree calls [] (ty ∷ types) typed = absurd typed
types_agree calls (name ∷ names) [] typed = absurd typed
types_agree calls (name ∷ names) (ty ∷ types) typed = ap₂ (λ (t : «Type») (ts : List «Type»). t ∷ ts) (ap or_invalid typed.0) (types_agree calls names types typed.1)

module _ (calls : List AnsweredCall) (function : FunctionView) (world : World) where
  item_typed : (returns : List «Type») (item : Item) → IsItemWellTyped (ledger_of calls) (program_so_far calls) returns item → HasGiven (Unit {0}) (declared_types calls) calls item
      → IsItemTyped (script_run (script_of calls) function world) returns item
  item_typed returns (Instruct place instruction results) typed given =
      record { takes = typed; gives = types_agree calls results (result_types instruction.operation instruction.controlling) given.0 }
  item_typed returns (Use variable name) typed given = ap or_invalid (given tt)
  item_typed returns (Assign variable name) typed given = ap or_invalid typed

  items_typed : (returns : List «Type») (items : List Item) → AllByRecursion (IsItemWellTyped (ledger_of calls) (program_so_far calls) returns) items
      → AllByRecursion (HasGiven (Unit {0}) (declared_types calls) calls) items → AllByRecursion (IsItemTyped (script_run (script_of calls) function world) returns) items
  items_typed returns [] typed given = tt
  items_typed returns (item ∷ items) typed given = (item_typed returns item typed.0 given.0, items_typed returns items typed.1 given.1)

  entry_typed : (types : List «Type») (entry : Option Name) → EntryTakes (ledger_of calls) (program_so_far calls) types entry
      → EntryHas (parameter_types (ledger_of calls) (program_so_far calls)) types entry
  entry_typed types None takes = tt
  entry_typed types (Some entry) takes = ([], takes ∙ sym (append-nil types))

-- the run of an accepted script that is well typed is typed
abbrev pub AreRunsTyped : Script → Type 0
AreRunsTyped script =
    (signature : SignatureShape) (function : FunctionView) (world : World) → verdict_on script ≡ Accepted
    → WellTyped (ledger_after script) (program_of script) signature → AreValues (types_of signature.params) world.arguments
    → IsScriptTyped (script_run script function world) signature

calls_typed : (calls : List AnsweredCall) → AreRunsTyped (script_of calls)
calls_typed calls signature function world accepted typed arguments =
    let given = accepted_given calls accepted in
    record {
      items = λ block. items_typed calls function world (types_of signature.returns) ((program_so_far calls).items block) (typed.items block) (given block);
      entry = entry_typed calls function world (types_of signature.params) (program_so_far calls).entry typed.entry;
      arguments = arguments;
    }

-- the calls of a script, with any numbers
abbrev unanswered : Script → List AnsweredCall
unanswered script = map (λ request. record { request = request; numbers = [] }) script

same_script : (script : Script) → script_of (unanswered script) ≡ script
same_script [] = refl
same_script (request ∷ script) = ap (λ (rest : Script). request ∷ rest) (same_script script)

pub runs_typed : (script : Script) → AreRunsTyped script
runs_typed script = subst AreRunsTyped (same_script script) (calls_typed (unanswered script))
