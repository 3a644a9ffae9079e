-- What one more call leaves in the ledger: blocks that have their terminator, and the types of variables; and a terminator
-- fills the current block.
use Rattle.std.proofs.Common.{◌≡◌, ℕ, zero, suc, Bool, true, false, List, [], ◌∷◌, ◌++◌, length, map, refl, sym, ◌∙◌, ap, subst, Option, Some, None, IsTrue}
use Rattle.std.specs.Prelude.{slice_get, fold, find, option_map, if◌then◌else◌}
use Rattle.std.specs.List.{list_any}
use Rattle.clif_types.specs.declared.types.«Type».{«Type»}
use Rattle.clif_meaning.specs.Name.{Name, answer_of, same_name}
use Rattle.clif_meaning.specs.Tracked.{AsksForNoMaps}
use Rattle.clif_meaning.specs.Instruction.{Operation, Edge, Instruction}
use Rattle.clif_meaning.specs.Request.{Request, Build, GivenEntry, AnsweredCall, script_of, StackMapNeed, OfVariable, OfValue}
use Rattle.clif_meaning.specs.Ledger.{BlockState, Ledger, VariableState, changed_by, ledger_after, ledger_with, with_state, with_layout, with_begun_at, with_begun, with_filled_at, with_terminator, with_predecessor, touched_at, new_variable, is_inserted, is_filled, is_terminator, state_has, variable_type, marked_at, with_need, is_marked, marked}
use Rattle.clif_simulation.specs.Carries.{AreTypes}
use Rattle.clif_simulation.specs.Carries as carries
use Rattle.clif_ssa.specs.Structured.{VariableTypes}
use Rattle.clif_simulation.proofs.Beginning.{current-begun, one_current}
use Rattle.clif_meaning.proofs.Effects.{KeepsFilled, LedgerEffect, ledger_effect, Keeps, Lays, Changes, Begins, Creates, Enters, ChangesEach, Declares, Touches, Reads, Appends, Marks}
use Rattle.clif_simulation.proofs.NameLists.{same_name-equal, names-with_begun_at}
use Rattle.clif_simulation.proofs.Numbers.{ledger_longer}
use Rattle.clif_simulation.proofs.Values.{false_is}

-- FILLED BLOCKS ---------------------------------------------------------------------------------------------------------

abbrev is_filled_in : List BlockState → Name → Bool
is_filled_in states name = state_has (λ (state : BlockState). state.is_filled) (find (λ (state : BlockState). same_name state.block name) states)

-- the same of the first of them, where the test says that it has the name, and of the others
abbrev first_or : Name → Bool → BlockState → List BlockState → Bool
first_or name test first rest =
    state_has (λ (state : BlockState). state.is_filled) (if test then Some first else find (λ (state : BlockState). same_name state.block name) rest)

filled_changed : (change : BlockState → BlockState) → KeepsFilled change → (states : List BlockState) (name : Name)
    → IsTrue (is_filled_in states name) → IsTrue (is_filled_in (map change states) name)
filled_changed change keeps [] name filled = filled
filled_changed change keeps (state ∷ states) name filled =
    by (same_name state.block name) refl (ap (λ (n : Name). same_name n name) (keeps.name state)) filled (filled_changed change keeps states name)
  where
    by : (test : Bool) → same_name state.block name ≡ test → same_name (change state).block name ≡ same_name state.block name
        → IsTrue (first_or name (same_name state.block name) state states)
        → (IsTrue (is_filled_in states name) → IsTrue (is_filled_in (map change states) name))
        → IsTrue (first_or name (same_name (change state).block name) (change state) (map change states))
    by true is same first rest =
        subst (λ (test : Bool). IsTrue (first_or name test (change state) (map change states))) (sym (same ∙ is))
        (keeps.filled state (subst (λ (test : Bool). IsTrue (first_or name test state states)) is first))
    by false is same first rest =
        subst (λ (test : Bool). IsTrue (first_or name test (change state) (map change states))) (sym (same ∙ is))
        (rest (subst (λ (test : Bool). IsTrue (first_or name test state states)) is first))

filled_longer : (states more : List BlockState) (name : Name) → IsTrue (is_filled_in states name) → IsTrue (is_filled_in (states ++ more) name)
filled_longer [] more name filled = absurd (false_is filled)
filled_longer (state ∷ states) more name filled = by (same_name state.block name) filled (filled_longer states more name)
  where
    by : (test : Bool) → IsTrue (first_or name test state states) → (IsTrue (is_filled_in states name) → IsTrue (is_filled_in (states ++ more) name)) → IsTrue (first_or name test state (states ++ more))
    by true first rest = first
    by false first rest = rest first

-- the state of one block changes
keeps_at : (block : Name) (change : BlockState → BlockState) → KeepsFilled change → KeepsFilled (λ state. if same_name state.block block then change state else state)
keeps_at block change keeps = record { name = λ state. name state (same_name state.block block); filled = λ state is. filled state (same_name state.block block) is }
  where
    name : (state : BlockState) (test : Bool) → (if test then change state else state).block ≡ state.block
    name state true = keeps.name state
    name state false = refl

    filled : (state : BlockState) (test : Bool) → IsTrue state.is_filled → IsTrue (if test then change state else state).is_filled
    filled state true is = keeps.filled state is
    filled state false is = is

module _ (name : Name) where
  filled-with_state : (ledger : Ledger) (block : Name) (change : BlockState → BlockState) → KeepsFilled change → IsTrue (is_filled ledger name) → IsTrue (is_filled (with_state ledger block change) name)
  filled-with_state ledger block change keeps filled = filled_changed (λ state. if same_name state.block block then change state else state) (keeps_at block change keeps) ledger.blocks name filled

  filled-with_layout : (ledger : Ledger) (block : Name) → IsTrue (is_filled ledger name) → IsTrue (is_filled (with_layout ledger block) name)
  filled-with_layout ledger block filled = by (is_inserted ledger block)
    where
      by : (c : Bool) → IsTrue (is_filled (if c then ledger else record ledger { layout = ledger.layout ++ block ∷ [] }) name)
      by true = filled
      by false = filled

  filled-with_begun_at : (ledger : Ledger) (o : Option Name) → IsTrue (is_filled ledger name) → IsTrue (is_filled (with_begun_at ledger o) name)
  filled-with_begun_at ledger None filled = filled
  filled-with_begun_at ledger (Some block) filled =
      filled-with_state (with_layout ledger block) block (λ state. record state { is_pristine = false }) (record { name = λ state. refl; filled = λ state is. is }) (filled-with_layout ledger block filled)

  filled-with_filled_at : (ledger : Ledger) (o : Option Name) → IsTrue (is_filled ledger name) → IsTrue (is_filled (with_filled_at ledger o) name)
  filled-with_filled_at ledger None filled = filled
  filled-with_filled_at ledger (Some block) filled =
      filled-with_state ledger block (λ state. record state { is_filled = true }) (record { name = λ state. refl; filled = λ state is. refl }) filled

  filled-with_terminator : (ledger : Ledger) (operation : Operation) → IsTrue (is_filled ledger name) → IsTrue (is_filled (with_terminator ledger operation) name)
  filled-with_terminator ledger operation filled = by (is_terminator operation)
    where
      by : (c : Bool) → IsTrue (is_filled (if c then with_filled_at ledger ledger.current else ledger) name)
      by true = filled-with_filled_at ledger ledger.current filled
      by false = filled

  filled-with_edges : (branch : Name) (ledger : Ledger) (edges : List (Edge Name Name)) → IsTrue (is_filled ledger name) → IsTrue (is_filled (fold (with_predecessor branch) ledger edges) name)
  filled-with_edges branch ledger [] filled = filled
  filled-with_edges branch ledger (edge ∷ edges) filled =
      filled-with_edges branch (with_predecessor branch ledger edge) edges
      (filled-with_state ledger edge.target (λ state. if list_any (same_name branch) state.predecessors then state else record state { predecessors = state.predecessors ++ branch ∷ [] })
      (record { name = λ state. name_of state (list_any (same_name branch) state.predecessors); filled = λ state is. filled_of state (list_any (same_name branch) state.predecessors) is }) filled)
    where
      name_of : (state : BlockState) (test : Bool) → (if test then state else record state { predecessors = state.predecessors ++ branch ∷ [] }).block ≡ state.block
      name_of state true = refl
      name_of state false = refl

      filled_of : (state : BlockState) (test : Bool) → IsTrue state.is_filled → IsTrue (if test then state else record state { predecessors = state.predecessors ++ branch ∷ [] }).is_filled
      filled_of state true is = is
      filled_of state false is = is

  filled_with : (ledger : Ledger) (request : Request) → IsTrue (is_filled ledger name) → IsTrue (is_filled (ledger_with ledger request) name)
  filled_with ledger request filled = by (ledger_effect request)
    where
      of_ledger : (other : Ledger) → changed_by ledger request ≡ other → IsTrue (is_filled other name) → IsTrue (is_filled (ledger_with ledger request) name)
      of_ledger other is holds = subst (λ (l : Ledger). IsTrue (is_filled l name)) (sym is) holds

      of_request : (other : Request) → request ≡ other → IsTrue (is_filled (ledger_with ledger other) name) → IsTrue (is_filled (ledger_with ledger request) name)
      of_request other is holds = subst (λ (r : Request). IsTrue (is_filled (ledger_with ledger r) name)) (sym is) holds

      by : LedgerEffect request → IsTrue (is_filled (ledger_with ledger request) name)
      by (Keeps stays is) = of_ledger _ (is ledger) filled
      by (Lays layout tables jump_tables exception_tables stays is) = of_ledger _ (is ledger) filled
      by (Changes block change keeps stays is) = of_ledger _ (is ledger) (filled-with_state ledger block change keeps filled)
      by (Begins stays is) = of_ledger _ (is ledger) (filled-with_begun_at ledger ledger.current filled)
      by (Creates is) = of_request _ is (filled_longer ledger.blocks _ name filled)
      by (Enters block is) = of_request _ is filled
      by (ChangesEach change keeps stays is) = of_ledger _ (is ledger) (filled_changed change keeps ledger.blocks name filled)
      by (Declares ty is) = of_request _ is filled
      by (Touches variable value is) = of_request _ is filled
      by (Marks need is) = of_request _ is filled
      by (Reads variable is) = of_request _ is (filled-with_begun_at ledger ledger.current filled)
      by (Appends entries instruction is) =
          of_request _ is
          (filled-with_edges (answer_of (length ledger.answers) 0) (with_terminator (with_begun ledger) instruction.operation) instruction.edges
          (filled-with_terminator (with_begun ledger) instruction.operation (filled-with_begun_at ledger ledger.current filled)))

-- a block that has its terminator has it after one more call
pub filled_stays : (calls : List AnsweredCall) (call : AnsweredCall) (name : Name) → IsTrue (is_filled (ledger_after (script_of calls)) name)
    → IsTrue (is_filled (ledger_after (script_of (calls ++ call ∷ []))) name)
filled_stays calls call name filled =
    subst (λ (ledger : Ledger). IsTrue (is_filled ledger name)) (sym (ledger_longer calls call)) (filled_with name (ledger_after (script_of calls)) call.request filled)

-- the block that is filled
abbrev with_name_filled : Name → BlockState → BlockState
with_name_filled name state = if same_name state.block name then record state { is_filled = true } else state

filled_here : (states : List BlockState) (block : ℕ) (name : Name) → slice_get (map (λ (state : BlockState). state.block) states) block ≡ Some name
    → IsTrue (is_filled_in (map (with_name_filled name) states) name)
filled_here [] zero name found = cc
filled_here [] (suc block) name found = cc
filled_here (state ∷ states) block name found = by (same_name state.block name) refl (λ k here. filled_here states k name here)
  where
    other_block : (block : ℕ) → same_name state.block name ≡ false → slice_get (map (λ (other : BlockState). other.block) (state ∷ states)) block ≡ Some name
        → ((k : ℕ) → slice_get (map (λ (other : BlockState). other.block) states) k ≡ Some name → IsTrue (is_filled_in (map (with_name_filled name) states) name))
        → IsTrue (is_filled_in (map (with_name_filled name) states) name)
    other_block zero is here rest =
        let same : state.block ≡ name = some_is state.block name here in
        absurd (apart (sym (same_name-equal state.block name same) ∙ is))
      where
        some_is : (a b : Name) → Some a ≡ Some b → a ≡ b
        some_is a b h = cc

        apart : true ≡ false → ⊥
        apart h = cc
    other_block (suc block) is here rest = rest block here

    by : (test : Bool) → same_name state.block name ≡ test
        → ((k : ℕ) → slice_get (map (λ (other : BlockState). other.block) states) k ≡ Some name → IsTrue (is_filled_in (map (with_name_filled name) states) name))
        → IsTrue (first_or name (same_name (with_name_filled name state).block name) (with_name_filled name state) (map (with_name_filled name) states))
    by true is rest =
        subst (λ (test : Bool). IsTrue (first_or name (same_name (if test then record state { is_filled = true } else state).block name) (if test then record state { is_filled = true } else state) (map (with_name_filled name) states))) (sym is)
        (subst (λ (test : Bool). IsTrue (first_or name test (record state { is_filled = true }) (map (with_name_filled name) states))) (sym is) refl)
    by false is rest =
        subst (λ (test : Bool). IsTrue (first_or name (same_name (if test then record state { is_filled = true } else state).block name) (if test then record state { is_filled = true } else state) (map (with_name_filled name) states))) (sym is)
        (subst (λ (test : Bool). IsTrue (first_or name test state (map (with_name_filled name) states))) (sym is) (other_block block is found rest))

-- a terminator fills the current block
fills_with : (ledger : Ledger) (entries : List GivenEntry) (instruction : Instruction Name Name) (block : ℕ) (name : Name) → ledger.current ≡ Some name → is_terminator instruction.operation ≡ true
    → slice_get (map (λ (state : BlockState). state.block) ledger.blocks) block ≡ Some name
    → IsTrue (is_filled (ledger_with ledger (Build entries instruction)) name)
fills_with ledger entries instruction block name current ends named =
    filled-with_edges name (answer_of (length ledger.answers) 0) (with_terminator (with_begun ledger) instruction.operation) instruction.edges
    (subst (λ (test : Bool). IsTrue (is_filled (if test then with_filled_at (with_begun ledger) (with_begun ledger).current else with_begun ledger) name)) (sym ends)
    (subst (λ (o : Option Name). IsTrue (is_filled (with_filled_at (with_begun ledger) o) name)) (sym (current-begun ledger ledger.current ∙ current))
    (filled_here (with_begun ledger).blocks block name (ap (λ (names : List Name). slice_get names block) (names-with_begun_at ledger ledger.current) ∙ named))))

pub fills : (calls : List AnsweredCall) (call : AnsweredCall) (entries : List GivenEntry) (instruction : Instruction Name Name) (block : ℕ) (name : Name) → call.request ≡ Build entries instruction → is_terminator instruction.operation ≡ true
    → carries.IsCurrent calls block name → IsTrue (is_filled (ledger_after (script_of (calls ++ call ∷ []))) name)
fills calls call entries instruction block name request ends current =
    subst (λ (ledger : Ledger). IsTrue (is_filled ledger name)) (sym (ledger_longer calls call ∙ ap (ledger_with (ledger_after (script_of calls))) request))
    (fills_with (ledger_after (script_of calls)) entries instruction block name (sym (one_current calls) ∙ current.current) ends current.named)

-- TYPES -----------------------------------------------------------------------------------------------------------------

abbrev type_in : List VariableState → ℕ → Option «Type»
type_in states x = option_map (λ (state : VariableState). state.ty) (slice_get states x)

type_touched : (states : List VariableState) (touched x : ℕ) → type_in (touched_at touched states) x ≡ type_in states x
type_touched [] touched x = refl
type_touched (state ∷ states) zero zero = refl
type_touched (state ∷ states) zero (suc x) = refl
type_touched (state ∷ states) (suc touched) zero = refl
type_touched (state ∷ states) (suc touched) (suc x) = type_touched states touched x

type_marked : (states : List VariableState) (marked x : ℕ) → type_in (marked_at marked states) x ≡ type_in states x
type_marked [] marked x = refl
type_marked (state ∷ states) zero zero = refl
type_marked (state ∷ states) zero (suc x) = refl
type_marked (state ∷ states) (suc marked) zero = refl
type_marked (state ∷ states) (suc marked) (suc x) = type_marked states marked x

type_needed : (need : StackMapNeed) (states : List VariableState) (x : ℕ) → type_in (with_need need states) x ≡ type_in states x
type_needed (OfVariable variable) states x = type_marked states variable x
type_needed (OfValue value) states x = refl

type_longer : (states more : List VariableState) (x : ℕ) (ty : «Type») → type_in states x ≡ Some ty → type_in (states ++ more) x ≡ Some ty
type_longer [] more zero ty is = cc
type_longer [] more (suc x) ty is = cc
type_longer (state ∷ states) more zero ty is = is
type_longer (state ∷ states) more (suc x) ty is = type_longer states more x ty is

pub variables-begun : (ledger : Ledger) (o : Option Name) → (with_begun_at ledger o).variables ≡ ledger.variables
variables-begun ledger None = refl
variables-begun ledger (Some block) = by (is_inserted ledger block)
  where
    by : (c : Bool) → (if c then ledger else record ledger { layout = ledger.layout ++ block ∷ [] }).variables ≡ ledger.variables
    by true = refl
    by false = refl

pub variables-terminator : (ledger : Ledger) (operation : Operation) → (with_terminator ledger operation).variables ≡ ledger.variables
variables-terminator ledger operation = by (is_terminator operation) ledger.current
  where
    by : (c : Bool) (o : Option Name) → (if c then with_filled_at ledger o else ledger).variables ≡ ledger.variables
    by true None = refl
    by true (Some block) = refl
    by false o = refl

pub variables-edges : (branch : Name) (ledger : Ledger) (edges : List (Edge Name Name)) → (fold (with_predecessor branch) ledger edges).variables ≡ ledger.variables
variables-edges branch ledger [] = refl
variables-edges branch ledger (edge ∷ edges) = variables-edges branch (with_predecessor branch ledger edge) edges

type_with : (ledger : Ledger) (request : Request) (x : ℕ) (ty : «Type») → variable_type ledger x ≡ Some ty → variable_type (ledger_with ledger request) x ≡ Some ty
type_with ledger request x ty typed = by (ledger_effect request)
  where
    of_ledger : (other : Ledger) → changed_by ledger request ≡ other → variable_type other x ≡ Some ty → variable_type (ledger_with ledger request) x ≡ Some ty
    of_ledger other is holds = ap (λ (l : Ledger). variable_type l x) is ∙ holds

    of_request : (other : Request) → request ≡ other → variable_type (ledger_with ledger other) x ≡ Some ty → variable_type (ledger_with ledger request) x ≡ Some ty
    of_request other is holds = ap (λ (r : Request). variable_type (ledger_with ledger r) x) is ∙ holds

    begun : variable_type (with_begun ledger) x ≡ Some ty
    begun = ap (λ (states : List VariableState). type_in states x) (variables-begun ledger ledger.current) ∙ typed

    by : LedgerEffect request → variable_type (ledger_with ledger request) x ≡ Some ty
    by (Keeps stays is) = of_ledger _ (is ledger) typed
    by (Lays layout tables jump_tables exception_tables stays is) = of_ledger _ (is ledger) typed
    by (Changes block change keeps stays is) = of_ledger _ (is ledger) typed
    by (Begins stays is) = of_ledger _ (is ledger) begun
    by (Creates is) = of_request _ is typed
    by (Enters block is) = of_request _ is typed
    by (ChangesEach change keeps stays is) = of_ledger _ (is ledger) typed
    by (Declares declared is) = of_request _ is (type_longer ledger.variables (new_variable declared ∷ []) x ty typed)
    by (Touches variable value is) = of_request _ is (type_touched ledger.variables variable x ∙ typed)
    by (Marks need is) = of_request _ is (type_needed need ledger.variables x ∙ typed)
    by (Reads variable is) = of_request _ is (type_touched (with_begun ledger).variables variable x ∙ begun)
    by (Appends entries instruction is) =
        of_request _ is
        (ap (λ (states : List VariableState). type_in states x)
        (variables-edges (answer_of (length ledger.answers) 0) (with_terminator (with_begun ledger) instruction.operation) instruction.edges
        ∙ variables-terminator (with_begun ledger) instruction.operation)
        ∙ begun)

-- MARKS -----------------------------------------------------------------------------------------------------------------

abbrev mark_in : List VariableState → ℕ → Bool
mark_in states x = marked (slice_get states x)

mark_touched : (states : List VariableState) (touched x : ℕ) → mark_in (touched_at touched states) x ≡ mark_in states x
mark_touched [] touched x = refl
mark_touched (state ∷ states) zero zero = refl
mark_touched (state ∷ states) zero (suc x) = refl
mark_touched (state ∷ states) (suc touched) zero = refl
mark_touched (state ∷ states) (suc touched) (suc x) = mark_touched states touched x

mark_longer : (states : List VariableState) (ty : «Type») (x : ℕ) → mark_in (states ++ new_variable ty ∷ []) x ≡ mark_in states x
mark_longer [] ty zero = refl
mark_longer [] ty (suc zero) = refl
mark_longer [] ty (suc (suc x)) = refl
mark_longer (state ∷ states) ty zero = refl
mark_longer (state ∷ states) ty (suc x) = mark_longer states ty x

-- a call that asks for no stack maps marks no variable
pub marks_stay : (ledger : Ledger) (request : Request) → AsksForNoMaps request → (x : ℕ) → is_marked (ledger_with ledger request) x ≡ is_marked ledger x
marks_stay ledger request asks x = by (ledger_effect request)
  where
    of_ledger : (other : Ledger) → changed_by ledger request ≡ other → is_marked other x ≡ is_marked ledger x → is_marked (ledger_with ledger request) x ≡ is_marked ledger x
    of_ledger other is holds = ap (λ (l : Ledger). is_marked l x) is ∙ holds

    of_request : (other : Request) → request ≡ other → is_marked (ledger_with ledger other) x ≡ is_marked ledger x → is_marked (ledger_with ledger request) x ≡ is_marked ledger x
    of_request other is holds = ap (λ (r : Request). is_marked (ledger_with ledger r) x) is ∙ holds

    begun : is_marked (with_begun ledger) x ≡ is_marked ledger x
    begun = ap (λ (states : List VariableState). mark_in states x) (variables-begun ledger ledger.current)

    by : LedgerEffect request → is_marked (ledger_with ledger request) x ≡ is_marked ledger x
    by (Keeps stays is) = of_ledger _ (is ledger) refl
    by (Lays layout tables jump_tables exception_tables stays is) = of_ledger _ (is ledger) refl
    by (Changes block change keeps stays is) = of_ledger _ (is ledger) refl
    by (Begins stays is) = of_ledger _ (is ledger) begun
    by (Creates is) = of_request _ is refl
    by (Enters block is) = of_request _ is refl
    by (ChangesEach change keeps stays is) = of_ledger _ (is ledger) refl
    by (Declares ty is) = of_request _ is (mark_longer ledger.variables ty x)
    by (Touches variable value is) = of_request _ is (mark_touched ledger.variables variable x)
    by (Marks need is) = absurd (subst AsksForNoMaps is asks)
    by (Reads variable is) = of_request _ is (mark_touched (with_begun ledger).variables variable x ∙ begun)
    by (Appends entries instruction is) =
        of_request _ is
        (ap (λ (states : List VariableState). mark_in states x)
        (variables-edges (answer_of (length ledger.answers) 0) (with_terminator (with_begun ledger) instruction.operation) instruction.edges
        ∙ variables-terminator (with_begun ledger) instruction.operation)
        ∙ begun)

-- types that agree with what the longer list declares agree with what the shorter one does
pub types_before : (calls : List AnsweredCall) (call : AnsweredCall) (types : VariableTypes) → AreTypes (calls ++ call ∷ []) types → AreTypes calls types
types_before calls call types are x ty is =
    are x ty (ap (λ (ledger : Ledger). variable_type ledger x) (ledger_longer calls call) ∙ type_with (ledger_after (script_of calls)) call.request x ty is)
