-- The conditions on calls that don't seal are the same in the ledger without sealing, if the order of sealing is allowed.
use Rattle.std.proofs.Common.{◌≡◌, ℕ, zero, suc, Bool, true, false, cond, not, List, [], ◌∷◌, map, refl, sym, ◌∙◌, ap, ap₂, Option, Some, None}
use Rattle.std.specs.Prelude.{◌&&◌, ◌||◌, find, if◌then◌else◌, is_some, option_and_then, option_map, slice_get}
use Rattle.std.specs.List.{list_all, list_any}
use Rattle.std.proofs.lemmas.Bool.{and_parts}
use Rattle.clif_types.specs.declared.types.«Type».{«Type»}
use Rattle.clif_meaning.specs.Acceptance.{allows, blames_variable, can_assign, can_lead, can_leave, has_argument, has_item, is_open, is_unfinished, may_give, refusal_of, unfinished}
use Rattle.clif_meaning.specs.Instruction.{Argument, Known, CallResult, CallPayload, Edge, Operation}
use Rattle.clif_meaning.specs.Ledger.{Answered, BlockState, Ledger, block_state, edge_named, has_block, has_instruction, has_predecessors, has_value, is_empty, is_filled, is_inserted, is_instruction_answer, is_pristine, is_sealed, leads_to, state_has, type_of, value_answer_type, variable_type, begins_with}
use Rattle.clif_meaning.specs.Name.{Name, same_name}
use Rattle.clif_meaning.specs.Request.{Request, SwitchToBlock, SealBlock, DefVar, UseVar, NeedStackMap, Build, ChangeJumpDestination, Finalize, GivenEntry, ServedBy, TriedBy, Imported, TableItem, TagTo, DefaultTo, InContext, OfVariable}
use Rattle.clif_expansion.specs.CallsVerdict.{call_blames_variable}
use Rattle.clif_expansion.specs.ScriptCall.{Ask, Emit, OfCall, ScriptCall, call_allowed, call_refusal, can_emit, is_byte, is_second_byte, sets_bytes, takes_byte}
use Rattle.clif_renaming.specs.CallsSealing.{counted_as, renamed_call}
use Rattle.clif_renaming.specs.Renaming.{KeepsApart, renamed_argument, renamed_edge}
use Rattle.clif_renaming.specs.Sealing.{is_sealing, renamed_item, renamed_request}
use Rattle.clif_renaming.proofs.RenamedEffects.{And, CanLead, CanLeave, Condition, HasArguments, HasBlock, HasEdge, HasEdges, HasInstruction, HasItems, HasValues, IsInserted, IsOpen, IsUnsealed, LeadsTo, MayGive, Not, OfBlock, OfLists, OfType, Where, allowed_where_met, condition_of, meets, renamed_asks, renamed_condition}
use Rattle.clif_renaming.proofs.RenamedNames.{same_renamed}
use Rattle.clif_renaming.proofs.TrackedNames.{list_any_renamed}
use Rattle.clif_sealing_order_laws.specs.CallOrder.{spares_call_order}
use Rattle.clif_sealing_order_laws.specs.Order.{is_left_anyhow, is_sealed_if_begun, is_unsealed_target, spares_order}
use Rattle.clif_sealing_order_laws.proofs.Lists.{all_mapped, some_mapped}
use Rattle.clif_sealing_order_laws.proofs.RenamedAnswers.{AnswersGoAlong, answer_in, edge_named_along, instruction_along, type_along}
use Rattle.clif_sealing_order_laws.proofs.RenamedLedgers.{has_mapped, state_found, unsealed_ledger, unsealed_state}

-- there is no current block, or it can be left, as if it were sealed
abbrev could_leave : Ledger → Option Name → Bool
could_leave ledger None = true
could_leave ledger (Some block) =
    (not (is_empty ledger.layout) && not (begins_with ledger.layout block) && has_block ledger block && not (has_predecessors ledger block))
    || is_pristine ledger block || is_filled ledger block

-- the condition of each kind of call, where nothing is sealed: as if the current block were
abbrev allows_unsealed : Ledger → Request → Bool
allows_unsealed ledger (SwitchToBlock block) = has_block ledger block && not (is_filled ledger block) && could_leave ledger ledger.current
allows_unsealed ledger request = allows ledger request

-- what calls ask, where nothing is sealed: as if the current block were
abbrev meets_unsealed : Ledger → Condition → Bool
meets_unsealed ledger (And one other) = meets_unsealed ledger one && meets_unsealed ledger other
meets_unsealed ledger (Not condition) = not (meets_unsealed ledger condition)
meets_unsealed ledger (Where test condition) = if test then meets_unsealed ledger condition else true
meets_unsealed ledger CanLeave = could_leave ledger ledger.current
meets_unsealed ledger condition = meets ledger condition

allowed_where_met_unsealed : (ledger : Ledger) (request : Request) → allows_unsealed ledger request ≡ meets_unsealed ledger (condition_of request)
allowed_where_met_unsealed ledger (NeedStackMap (OfVariable variable)) = refl
allowed_where_met_unsealed ledger _ = refl

-- sealing isn't to blame where this isn't met: what it has a part in is as it would be with nothing sealed
abbrev spares : Ledger → Condition → Bool
spares ledger (And one other) = spares ledger one && spares ledger other
spares ledger (Not condition) = spares ledger condition
spares ledger (Where test condition) = spares ledger condition
spares ledger CanLeave = can_leave ledger ledger.current || is_left_anyhow ledger ledger.current
spares ledger (IsUnsealed block) = not (is_sealed ledger block)
spares ledger (CanLead edges) = list_all (is_unsealed_target ledger) edges
spares ledger condition = true

-- so it is with what a call asks that spares the order
order_spared : (ledger : Ledger) (request : Request) → spares_order ledger request ≡ true → spares ledger (condition_of request) ≡ true
order_spared ledger (SwitchToBlock block) ordered = ordered
order_spared ledger (SealBlock block) ordered = (and_parts (has_block ledger block) (not (is_sealed ledger block)) ordered).1
order_spared ledger (NeedStackMap (OfVariable variable)) ordered = refl
order_spared ledger (Build entries instruction) ordered = ap (λ (c : Bool). c && true && true) ordered
order_spared ledger (ChangeJumpDestination branch from to) ordered =
    let both = and_parts (not (is_sealed ledger from)) (not (is_sealed ledger to)) ordered in ap₂ (λ (a b : Bool). a && true && b) both.0 both.1
order_spared ledger _ ordered = refl

-- something was made in the block, and it isn't filled
abbrev pub is_unended : BlockState → Bool
is_unended state = not state.is_pristine && not state.is_filled

-- and what `finalize` is refused for there
abbrev refuses_unsealed : Ledger → Request → Bool
refuses_unsealed ledger Finalize = list_any is_unended ledger.blocks
refuses_unsealed ledger _ = false

-- the same of a call of a script
abbrev pub call_allows_unsealed : Ledger → ScriptCall → Bool
call_allows_unsealed ledger (Ask request) = allows_unsealed ledger request
call_allows_unsealed ledger call = call_allowed ledger call

abbrev pub call_refuses_unsealed : Ledger → ScriptCall → Bool
call_refuses_unsealed ledger (Ask request) = refuses_unsealed ledger request
call_refuses_unsealed ledger call = is_some (call_refusal ledger call)

-- a block can be left if it is sealed, and could be if it were: the same, unless sealing decides
leave_same : (bare entry sealed led there pristine filled : Bool) → (sealed ≡ true → there ≡ true)
    → (((not bare && not entry && sealed && not led) || pristine || filled) || (entry || led || not there)) ≡ true
    → ((not bare && not entry && there && not led) || pristine || filled) ≡ ((not bare && not entry && sealed && not led) || pristine || filled)
leave_same true entry sealed led there pristine filled is spared = refl
leave_same false true sealed led there pristine filled is spared = refl
leave_same false false true led true pristine filled is spared = refl
leave_same false false true led false pristine filled is spared = let none : false ≡ true = is refl in let no_way : ⊥ = cc in absurd no_way
leave_same false false false true true pristine filled is spared = refl
leave_same false false false true false pristine filled is spared = refl
leave_same false false false false true true filled is spared = refl
leave_same false false false false true false true is spared = refl
leave_same false false false false true false false is spared = let no_way : ⊥ = cc in absurd no_way
leave_same false false false false false pristine filled is spared = refl

empty_mapped : {X Y : Type 0} (f : X → Y) (xs : List X) → is_empty (map f xs) ≡ is_empty xs
empty_mapped f [] = refl
empty_mapped f (x ∷ xs) = refl

given_mapped : {X : Type 0} (f : X → X) (tables : List (Option X)) (k : ℕ)
    → is_some (option_and_then (λ x. x) (slice_get (map (option_map f) tables) k)) ≡ is_some (option_and_then (λ x. x) (slice_get tables k))
given_mapped f [] k = refl
given_mapped f (None ∷ tables) zero = refl
given_mapped f (Some x ∷ tables) zero = refl
given_mapped f (table ∷ tables) (suc k) = given_mapped f tables k

module _ (rename : Name → Name) (apart : KeepsApart rename) (ledger : Ledger) (answers : List (List Answered)) (along : AnswersGoAlong rename ledger.answers answers) where
  abbrev other : Ledger
  other = unsealed_ledger rename ledger answers

  -- STATES ----------------------------------------------------------------------------------------------------------------

  -- a test of the state of a block
  test_along : (f g : BlockState → Bool) → ((state : BlockState) → g (unsealed_state rename state) ≡ f state) → (block : Name)
      → state_has g (block_state other (rename block)) ≡ state_has f (block_state ledger block)
  test_along f g each block = ap (state_has g) (state_found rename apart block ledger.blocks) ∙ has_mapped (unsealed_state rename) f g each (block_state ledger block)

  has_along : (block : Name) → has_block other (rename block) ≡ has_block ledger block
  has_along block = ap (λ (o : Option BlockState). is_some o) (state_found rename apart block ledger.blocks) ∙ some_mapped (unsealed_state rename) (block_state ledger block)

  filled_along : (block : Name) → is_filled other (rename block) ≡ is_filled ledger block
  filled_along block = test_along (λ (state : BlockState). state.is_filled) (λ (state : BlockState). state.is_filled) (λ state. refl) block

  pristine_along : (block : Name) → is_pristine other (rename block) ≡ is_pristine ledger block
  pristine_along block = test_along (λ (state : BlockState). state.is_pristine) (λ (state : BlockState). state.is_pristine) (λ state. refl) block

  predecessors_along : (block : Name) → has_predecessors other (rename block) ≡ has_predecessors ledger block
  predecessors_along block =
      test_along (λ (state : BlockState). not (is_empty state.predecessors)) (λ (state : BlockState). not (is_empty state.predecessors))
      (λ state. ap not (empty_mapped rename state.predecessors)) block

  leads_along : (branch block : Name) → leads_to other (rename branch) (rename block) ≡ leads_to ledger branch block
  leads_along branch block =
      test_along (λ (state : BlockState). list_any (same_name branch) state.predecessors) (λ (state : BlockState). list_any (same_name (rename branch)) state.predecessors)
      (λ state. list_any_renamed rename apart branch state.predecessors) block

  -- no block is sealed
  none_sealed : (block : Name) → is_sealed other (rename block) ≡ false
  none_sealed block = test_along (λ (state : BlockState). false) (λ (state : BlockState). state.is_sealed) (λ state. refl) block ∙ by (block_state ledger block)
    where
      by : (o : Option BlockState) → state_has (λ state. false) o ≡ false
      by None = refl
      by (Some state) = refl

  inserted_along : (block : Name) → is_inserted other (rename block) ≡ is_inserted ledger block
  inserted_along block = list_any_renamed rename apart block ledger.layout

  open_along : is_open other other.current ≡ is_open ledger ledger.current
  open_along = by ledger.current
    where
      by : (o : Option Name) → is_open other (option_map rename o) ≡ is_open ledger o
      by None = refl
      by (Some block) = ap not (filled_along block)

  -- VALUES AND TABLES -----------------------------------------------------------------------------------------------------

  typed_along : (x : Name) → type_of other (rename x) ≡ type_of ledger x
  typed_along x = ap value_answer_type (along x) ∙ type_along rename (answer_in ledger.answers x)

  value_along : (x : Name) → has_value other (rename x) ≡ has_value ledger x
  value_along x = ap (λ (o : Option «Type»). is_some o) (typed_along x)

  edge_along : (x : Name) → is_some (edge_named other (rename x)) ≡ is_some (edge_named ledger x)
  edge_along x = ap (λ (o : Option (Edge Name Name)). is_some o) (edge_named_along rename ledger answers along x) ∙ some_mapped (renamed_edge rename) (edge_named ledger x)

  built_along : (x : Name) → has_instruction other (rename x) ≡ has_instruction ledger x
  built_along x = ap is_instruction_answer (along x) ∙ instruction_along rename (answer_in ledger.answers x)

  argument_along : (argument : Argument Name) → has_argument other (renamed_argument rename argument) ≡ has_argument ledger argument
  argument_along (Known name) = value_along name
  argument_along (CallResult index) = refl
  argument_along (CallPayload index) = refl

  item_along : (item : TableItem) → has_item other (renamed_item rename item) ≡ has_item ledger item
  item_along (TagTo tag edge) = edge_along edge
  item_along (DefaultTo edge) = edge_along edge
  item_along (InContext value) = value_along value

  values_along : (names : List Name) → list_all (has_value other) (map rename names) ≡ list_all (has_value ledger) names
  values_along names = all_mapped rename (has_value ledger) (has_value other) value_along names

  arguments_along : (arguments : List (Argument Name)) → list_all (has_argument other) (map (renamed_argument rename) arguments) ≡ list_all (has_argument ledger) arguments
  arguments_along arguments = all_mapped (renamed_argument rename) (has_argument ledger) (has_argument other) argument_along arguments

  give_along : (entry : GivenEntry) → may_give other entry ≡ may_give ledger entry
  give_along (ServedBy table) = given_mapped (map (renamed_edge rename)) ledger.jump_tables table
  give_along (TriedBy table) = given_mapped _ ledger.exception_tables table
  give_along (Imported entry) = refl

  all_give_along : (entries : List GivenEntry) → list_all (may_give other) entries ≡ list_all (may_give ledger) entries
  all_give_along [] = refl
  all_give_along (entry ∷ entries) = ap₂ (λ (a b : Bool). a && b) (give_along entry) (all_give_along entries)

  -- where what they lead to isn't sealed, edges can lead
  lead_along : (edge : Edge Name Name) → is_unsealed_target ledger edge ≡ true → can_lead other (renamed_edge rename edge) ≡ can_lead ledger edge
  lead_along edge unsealed =
      ap₂ (λ (a b : Bool). a && b) (ap₂ (λ (a b : Bool). a && b) (has_along edge.target) (ap not (none_sealed edge.target) ∙ sym unsealed)) (arguments_along edge.arguments)

  leads_all_along : (edges : List (Edge Name Name)) → list_all (is_unsealed_target ledger) edges ≡ true
      → list_all (can_lead other) (map (renamed_edge rename) edges) ≡ list_all (can_lead ledger) edges
  leads_all_along [] unsealed = refl
  leads_all_along (edge ∷ edges) unsealed =
      let both = and_parts (is_unsealed_target ledger edge) (list_all (is_unsealed_target ledger) edges) unsealed in
      ap₂ (λ (a b : Bool). a && b) (lead_along edge both.0) (leads_all_along edges both.1)

  -- the current block could be left where it can be
  leave_along : (o : Option Name) → (can_leave ledger o || is_left_anyhow ledger o) ≡ true → could_leave other (option_map rename o) ≡ can_leave ledger o
  leave_along None spared = refl
  leave_along (Some block) spared =
      ap₂ (λ (a b : Bool). a || b)
      (ap₂ (λ (a b : Bool). a || b)
      (ap₂ (λ (a b : Bool). a && b)
      (ap₂ (λ (a b : Bool). a && b) (ap₂ (λ (a b : Bool). not a && not b) (empty_mapped rename ledger.layout) (begins_along ledger.layout)) (has_along block))
      (ap not (predecessors_along block)))
      (pristine_along block))
      (filled_along block)
      ∙ leave_same (is_empty ledger.layout) (begins_with ledger.layout block) (is_sealed ledger block) (has_predecessors ledger block) (has_block ledger block)
      (is_pristine ledger block) (is_filled ledger block) (there (block_state ledger block)) spared
    where
      begins_along : (layout : List Name) → begins_with (map rename layout) (rename block) ≡ begins_with layout block
      begins_along [] = refl
      begins_along (entry ∷ layout) = same_renamed rename apart entry block

      there : (o : Option BlockState) → state_has (λ state. state.is_sealed) o ≡ true → is_some o ≡ true
      there None is = is
      there (Some state) is = refl

  -- CONDITIONS ------------------------------------------------------------------------------------------------------------

  met_along : (condition : Condition) → spares ledger condition ≡ true → meets_unsealed other (renamed_condition rename condition) ≡ meets ledger condition
  met_along (OfLists test) spared = refl
  met_along (And one second) spared =
      let both = and_parts (spares ledger one) (spares ledger second) spared in ap₂ (λ (a b : Bool). a && b) (met_along one both.0) (met_along second both.1)
  met_along (Not condition) spared = ap not (met_along condition spared)
  met_along (Where test condition) spared = ap (λ (is : Bool). if test then is else true) (met_along condition spared)
  met_along (HasBlock block) spared = has_along block
  met_along (OfBlock block test) spared =
      test_along (λ (state : BlockState). test state.is_pristine state.is_filled (not (is_empty state.predecessors)))
      (λ (state : BlockState). test state.is_pristine state.is_filled (not (is_empty state.predecessors)))
      (λ state. ap (λ (is : Bool). test state.is_pristine state.is_filled (not is)) (empty_mapped rename state.predecessors)) block
  met_along (IsUnsealed block) spared = ap not (none_sealed block) ∙ sym spared
  met_along (IsInserted block) spared = inserted_along block
  met_along IsOpen spared = open_along
  met_along CanLeave spared = leave_along ledger.current spared
  met_along (OfType value test) spared = ap (test ledger.variables) (typed_along value)
  met_along (HasValues values) spared = values_along values
  met_along (HasArguments arguments) spared = arguments_along arguments
  met_along (HasEdge edge) spared = edge_along edge
  met_along (HasEdges edges) spared =
      all_mapped rename (λ (name : Name). is_some (edge_named ledger name)) (λ (name : Name). is_some (edge_named other name)) edge_along edges
  met_along (HasItems items) spared = all_mapped (renamed_item rename) (has_item ledger) (has_item other) item_along items
  met_along (MayGive entries) spared = all_give_along entries
  met_along (CanLead edges) spared = leads_all_along edges spared
  met_along (HasInstruction branch) spared = built_along branch
  met_along (LeadsTo branch block) spared = leads_along branch block

  allowed_along : (request : Request) → spares_order ledger request ≡ true → allows_unsealed other (renamed_request rename request) ≡ allows ledger request
  allowed_along request ordered =
      allowed_where_met_unsealed other (renamed_request rename request)
      ∙ ap (meets_unsealed other) (renamed_asks rename request)
      ∙ met_along (condition_of request) (order_spared ledger request ordered)
      ∙ sym (allowed_where_met ledger request)

  blamed_along : (request : Request) → blames_variable other (renamed_request rename request) ≡ blames_variable ledger request
  blamed_along (DefVar variable value) =
      ap₂ (λ (a : Bool) (ty : Option «Type»). a && not (can_assign (variable_type ledger variable) ty)) (ap₂ (λ (a b : Bool). a && b) open_along (value_along value)) (typed_along value)
  blamed_along (UseVar variable) = ap (λ (is : Bool). is && not (is_some (variable_type ledger variable))) open_along
  blamed_along _ = refl

  -- REFUSALS --------------------------------------------------------------------------------------------------------------

  ended_along : (states : List BlockState) → list_all is_sealed_if_begun states ≡ true
      → list_any is_unended (map (unsealed_state rename) states) ≡ is_some (unfinished (find is_unfinished states))
  ended_along [] ordered = refl
  ended_along (state ∷ states) ordered =
      let both = and_parts (is_sealed_if_begun state) (list_all is_sealed_if_begun states) ordered in
      ap (λ (rest : Bool). is_unended state || rest) (ended_along states both.1) ∙ by state.is_pristine state.is_sealed state.is_filled both.0
    where
      by : (pristine sealed filled : Bool) → not (not pristine && not sealed) ≡ true
          → ((not pristine && not filled) || is_some (unfinished (find is_unfinished states)))
          ≡ is_some (unfinished (cond (not pristine && not (sealed && filled)) (Some state) (find is_unfinished states)))
      by true sealed filled is = refl
      by false true true is = refl
      by false true false is = refl
      by false false filled is = let none : ⊥ = cc in absurd none

  refused_along : (request : Request) → spares_order ledger request ≡ true → refuses_unsealed other (renamed_request rename request) ≡ is_some (refusal_of ledger request)
  refused_along Finalize ordered = ended_along ledger.blocks ordered
  refused_along _ ordered = refl

  -- CALLS OF SCRIPTS ------------------------------------------------------------------------------------------------------

  takes_along : (operation : Operation) (names : List Name) → takes_byte other operation (map rename names) ≡ takes_byte ledger operation names
  takes_along operation names = ap (λ (is : Bool). if sets_bytes operation then is else true) (second_along names)
    where
      second_along : (names : List Name) → is_second_byte other (map rename names) ≡ is_second_byte ledger names
      second_along [] = refl
      second_along (target ∷ []) = refl
      second_along (target ∷ byte ∷ names) = ap is_byte (typed_along byte)

  pub call_allowed_along : (call : ScriptCall) → is_sealing (counted_as call) ≡ false → spares_call_order ledger call ≡ true
      → call_allows_unsealed other (renamed_call rename call) ≡ call_allowed ledger call
  call_allowed_along (Ask request) stays ordered = allowed_along request ordered
  call_allowed_along (Emit imports instruction) stays ordered =
      ap₂ (λ (a b : Bool). a && b && can_emit instruction.operation instruction.controlling)
      (ap₂ (λ (a b : Bool). a && b) (ap₂ (λ (a b : Bool). a && b)
      (ap₂ (λ (a b : Bool). a && b) (values_along instruction.contexts) (takes_along instruction.operation instruction.operands))
      open_along) (values_along instruction.operands))
      (leads_all_along instruction.edges ordered)

  pub call_blamed_along : (call : ScriptCall) → call_blames_variable other (renamed_call rename call) ≡ call_blames_variable ledger call
  call_blamed_along (Ask request) = blamed_along request
  call_blamed_along (Emit imports instruction) = refl

  pub call_refused_along : (call : ScriptCall) → spares_call_order ledger call ≡ true
      → call_refuses_unsealed other (renamed_call rename call) ≡ is_some (call_refusal ledger call)
  call_refused_along (Ask request) ordered = refused_along request ordered ∙ sym (some_mapped OfCall (refusal_of ledger request))
  call_refused_along (Emit imports instruction) ordered = refl
