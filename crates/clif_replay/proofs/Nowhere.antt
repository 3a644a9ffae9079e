-- Names that lead nowhere: no answer has them, neither the list's nor the builder's. A call that names one may not be made, and the
-- builder's call for it may not be, either.
use Rattle.std.proofs.Common.{◌≡◌, ◌⊎◌, inl, inr, ℕ, List, [], ◌∷◌, length, refl, ap, sym, ◌∙◌, subst}
use Rattle.std.specs.Prelude.{◌&&◌, ◌||◌, Bool, true, false, Option, Some, None, find, if◌then◌else◌, is_some, not}
use Rattle.std.specs.List.{AllZip, list_all, list_any}
use Rattle.std.proofs.lemmas.Bool.{false_from_ne_true, false≢true}
use Rattle.clif_types.specs.declared.types.«Type».{«Type»}
use Rattle.clif_meaning.specs.Acceptance.{allows, blames_variable, can_assign, can_lead, has_argument, has_item}
use Rattle.clif_meaning.specs.Instruction.{Argument, Known, CallResult, CallPayload, Edge, Instruction}
use Rattle.clif_meaning.specs.Ledger.{ABlock, Answered, BlockState, Ledger, answer_at, answered_edge, block_state, edge_named, has_block, has_instruction, has_value, is_inserted, is_instruction_answer, is_sealed, state_has, type_of, value_answer_type, variable_type}
use Rattle.clif_meaning.specs.Name.{Name, same_name}
use Rattle.clif_meaning.specs.Request.{Request, DefVar, TableItem, TagTo, DefaultTo, InContext}
use Rattle.clif_expansion.specs.Joining.{Both, IsJoined, IsOwnState, IsReadAnswer, IsReadLayout, IsReadRequest, IsReadState, IsReadTableItem, Own, StandAmong}
use Rattle.clif_expansion.specs.Reading.{IsReadArgument, IsReadAs, IsReadEdge, IsReadInstruction, Reading}
use Rattle.clif_expansion.specs.ScriptCall.{Emit, call_allowed}
use Rattle.clif_expansion.specs.Walk.{IsGenerated}
use Rattle.clif_expansion.proofs.Names.{equal_names, names_equal}
use Rattle.clif_expansion.proofs.ReadDemands.{Demand, NameTest, IsABlock, IsUnfilled, IsUnsealed, IsOutside, IsInserted, IsPristine, IsUntouched, IsAnEdge, IsForStackMaps, IsOfVariable, AsksBoth, AsksName, AsksLeading, AsksValues, AsksEdges, AsksArguments, AsksItems, AsksTargets, AsksEntries, AsksOpen, AsksLeaving, AsksTables, AsksVariables, IsReadDemand, NeitherBlames, BothAssigned, BothUsed, ReadBlame, ReadDemands, holds, passes}
use Rattle.clif_expansion.proofs.ReadEffects.{read_demands}

-- no answer has the name, and no block
pub record IsNowhere (ledger : Ledger) (x : Name) : Type 0 where
  pub unanswered : answer_at ledger x ≡ None
  pub no_block : block_state ledger x ≡ None
  pub outside : is_inserted ledger x ≡ false

-- TRUTH -------------------------------------------------------------------------------------------------------------------

left-denied : (a b : Bool) → a ≡ false → (a && b) ≡ false
left-denied true b is = absurd (false≢true (sym is))
left-denied false b is = refl

right-denied : (a b : Bool) → b ≡ false → (a && b) ≡ false
right-denied true b is = is
right-denied false b is = refl

-- one of two parts is denied, on both sides
abbrev BothDenied : (a b : Bool) → Type 0
BothDenied a b = (a ≡ false) × (b ≡ false)

-- lists of what is read, or one of which is denied
either-all : {X Y : Type 0} (Wide Read : X → Y → Type 0) (f : X → Bool) (g : Y → Bool) → ((x : X) (y : Y) → Wide x y → Read x y ⊎ BothDenied (f x) (g y))
    → (xs : List X) (ys : List Y) → AllZip Wide xs ys → AllZip Read xs ys ⊎ BothDenied (list_all f xs) (list_all g ys)
either-all Wide Read f g each [] [] are = inl tt
either-all Wide Read f g each [] (y ∷ ys) are = absurd are
either-all Wide Read f g each (x ∷ xs) [] are = absurd are
either-all {X} {Y} Wide Read f g each (x ∷ xs) (y ∷ ys) are = by (each x y are.0) (either-all Wide Read f g each xs ys are.1)
  where
    by : Read x y ⊎ BothDenied (f x) (g y) → AllZip Read xs ys ⊎ BothDenied (list_all f xs) (list_all g ys)
        → AllZip Read (x ∷ xs) (y ∷ ys) ⊎ BothDenied (list_all f (x ∷ xs)) (list_all g (y ∷ ys))
    by (inl one) (inl rest) = inl (one, rest)
    by (inl one) (inr denied) = inr (right-denied (f x) (list_all f xs) denied.0, right-denied (g y) (list_all g ys) denied.1)
    by (inr denied) rest = inr (left-denied (f x) (list_all f xs) denied.0, left-denied (g y) (list_all g ys) denied.1)

-- WHAT IS NOWHERE ---------------------------------------------------------------------------------------------------------

module _ (ledger : Ledger) (x : Name) (gone : IsNowhere ledger x) where
  no-block : has_block ledger x ≡ false
  no-block = ap is_some gone.no_block

  no-state : (test : BlockState → Bool) → state_has test (block_state ledger x) ≡ false
  no-state test = ap (state_has test) gone.no_block

  no-value : has_value ledger x ≡ false
  no-value = ap (λ (o : Option Answered). is_some (value_answer_type o)) gone.unanswered

  no-type : type_of ledger x ≡ None
  no-type = ap value_answer_type gone.unanswered

  no-edge-named : is_some (edge_named ledger x) ≡ false
  no-edge-named = ap (λ (o : Option Answered). is_some (answered_edge o)) gone.unanswered

  no-instruction : has_instruction ledger x ≡ false
  no-instruction = ap is_instruction_answer gone.unanswered

none-assigned : (first : Option «Type») → can_assign first None ≡ false
none-assigned None = refl
none-assigned (Some ty) = refl

-- WHAT IS DENIED ----------------------------------------------------------------------------------------------------------

module _ (side : Ledger) where
  -- what is asked of a name
  name-denied : (test : NameTest) (x : Name) → IsNowhere side x → passes side test x ≡ false
  name-denied IsABlock x gone = no-block side x gone
  name-denied IsUnfilled x gone = left-denied _ _ (no-block side x gone)
  name-denied IsUnsealed x gone = left-denied _ _ (no-block side x gone)
  name-denied IsOutside x gone = left-denied _ _ (no-block side x gone)
  name-denied IsInserted x gone = gone.outside
  name-denied IsPristine x gone = no-state side x gone (λ state. state.is_pristine)
  name-denied IsUntouched x gone = left-denied _ _ (no-state side x gone (λ state. state.is_pristine))
  name-denied IsAnEdge x gone = no-edge-named side x gone
  name-denied IsForStackMaps x gone = left-denied _ _ (no-value side x gone)
  name-denied (IsOfVariable variable) x gone = ap (can_assign (variable_type side variable)) (no-type side x gone) ∙ none-assigned (variable_type side variable)

  leading-denied : (branch from : Name) → IsNowhere side branch ⊎ IsNowhere side from → holds side (AsksLeading branch from) ≡ false
  leading-denied branch from (inl gone) = left-denied _ _ (left-denied _ _ (no-instruction side branch gone))
  leading-denied branch from (inr gone) = left-denied _ _ (right-denied _ _ (no-state side from gone (λ state. list_any (same_name branch) state.predecessors)))

  -- an assignment, which isn't to blame for its variable
  deny-assigned : (k : ℕ) (x : Name) → IsNowhere side x → allows side (DefVar k x) ≡ false
  deny-assigned k x gone = right-denied _ _ (name-denied (IsOfVariable k) x gone)

  unblamed : (k : ℕ) (x : Name) → IsNowhere side x → blames_variable side (DefVar k x) ≡ false
  unblamed k x gone = left-denied _ _ (right-denied _ _ (no-value side x gone))

  -- names of an instruction that lead nowhere: a context, an operand, or an edge's
  abbrev NamesNothing : Instruction Name Name → Type 0
  NamesNothing a = (list_all (has_value side) a.contexts ≡ false) ⊎ (list_all (has_value side) a.operands ≡ false) ⊎ (list_all (can_lead side) a.edges ≡ false)

  deny-emission : (a : Instruction Name Name) → NamesNothing a → call_allowed side (Emit [] a) ≡ false
  deny-emission a (inl contexts) = left-denied _ _ (left-denied _ _ (left-denied _ _ (left-denied _ _ (left-denied _ _ contexts))))
  deny-emission a (inr (inl operands)) = left-denied _ _ (left-denied _ _ (right-denied _ _ operands))
  deny-emission a (inr (inr edges)) = left-denied _ _ (right-denied _ _ edges)

-- the call may not be made on either side, and to blame its variable is it on both or on neither
pub record AreDenied (plain ledger : Ledger) (asked request : Request) : Type 0 where
  pub plain_denied : allows plain asked ≡ false
  pub denied : allows ledger request ≡ false
  pub blamed : blames_variable plain asked ≡ blames_variable ledger request

module _ (wide reading : Reading) (plain ledger : Ledger)
    (each : (x name : Name) → IsReadAs wide x name → IsReadAs reading x name ⊎ (IsNowhere plain x × IsNowhere ledger name)) where
  -- a name of a kind, by what denies it
  one : (f g : Name → Bool) → ((x : Name) → IsNowhere plain x → f x ≡ false) → ((x : Name) → IsNowhere ledger x → g x ≡ false)
      → (x name : Name) → IsReadAs wide x name → IsReadAs reading x name ⊎ BothDenied (f x) (g name)
  one f g denied_plain denies x name is = by (each x name is)
    where
      by : IsReadAs reading x name ⊎ (IsNowhere plain x × IsNowhere ledger name) → IsReadAs reading x name ⊎ BothDenied (f x) (g name)
      by (inl read) = inl read
      by (inr gone) = inr (denied_plain x gone.0, denies name gone.1)

  values : (xs names : List Name) → AllZip (IsReadAs wide) xs names → AllZip (IsReadAs reading) xs names ⊎ BothDenied (list_all (has_value plain) xs) (list_all (has_value ledger) names)
  values xs names are = either-all (IsReadAs wide) (IsReadAs reading) (has_value plain) (has_value ledger) (one (has_value plain) (has_value ledger) (no-value plain) (no-value ledger)) xs names are

  named-edge : (x name : Name) → IsReadAs wide x name → IsReadAs reading x name ⊎ BothDenied (is_some (edge_named plain x)) (is_some (edge_named ledger name))
  named-edge = one (λ x. is_some (edge_named plain x)) (λ x. is_some (edge_named ledger x)) (no-edge-named plain) (no-edge-named ledger)

  argument : (a b : Argument Name) → IsReadArgument wide a b → IsReadArgument reading a b ⊎ BothDenied (has_argument plain a) (has_argument ledger b)
  argument (Known x) (Known name) is = one (has_value plain) (has_value ledger) (no-value plain) (no-value ledger) x name is
  argument (CallResult k) (CallResult index) is = inl is
  argument (CallPayload k) (CallPayload index) is = inl is
  argument (Known x) (CallResult index) is = absurd is
  argument (Known x) (CallPayload index) is = absurd is
  argument (CallResult k) (Known name) is = absurd is
  argument (CallResult k) (CallPayload index) is = absurd is
  argument (CallPayload k) (Known name) is = absurd is
  argument (CallPayload k) (CallResult index) is = absurd is

  -- an edge, of which the target is nowhere, or an argument
  edge-parts : (a b : Edge Name Name) → IsReadEdge wide a b
      → IsReadEdge reading a b ⊎ BothDenied (has_block plain a.target) (has_block ledger b.target)
      ⊎ BothDenied (list_all (has_argument plain) a.arguments) (list_all (has_argument ledger) b.arguments)
  edge-parts a b is =
      by (one (has_block plain) (has_block ledger) (no-block plain) (no-block ledger) a.target b.target is.target)
      (either-all (IsReadArgument wide) (IsReadArgument reading) (has_argument plain) (has_argument ledger) argument a.arguments b.arguments is.arguments)
    where
      by : IsReadAs reading a.target b.target ⊎ BothDenied (has_block plain a.target) (has_block ledger b.target)
          → AllZip (IsReadArgument reading) a.arguments b.arguments ⊎ BothDenied (list_all (has_argument plain) a.arguments) (list_all (has_argument ledger) b.arguments)
          → IsReadEdge reading a b ⊎ BothDenied (has_block plain a.target) (has_block ledger b.target) ⊎ BothDenied (list_all (has_argument plain) a.arguments) (list_all (has_argument ledger) b.arguments)
      by (inl target) (inl arguments) = inl (record { target = target; arguments = arguments })
      by (inl target) (inr denied) = inr (inr denied)
      by (inr denied) arguments = inr (inl denied)

  pub led : (a b : Edge Name Name) → IsReadEdge wide a b → IsReadEdge reading a b ⊎ BothDenied (can_lead plain a) (can_lead ledger b)
  led a b is = by (edge-parts a b is)
    where
      parts : (block sealed arguments : Bool) → block ≡ false → (block && sealed && arguments) ≡ false
      parts block sealed arguments absent = left-denied (block && sealed) arguments (left-denied block sealed absent)

      by : IsReadEdge reading a b ⊎ BothDenied (has_block plain a.target) (has_block ledger b.target) ⊎ BothDenied (list_all (has_argument plain) a.arguments) (list_all (has_argument ledger) b.arguments)
          → IsReadEdge reading a b ⊎ BothDenied (can_lead plain a) (can_lead ledger b)
      by (inl read) = inl read
      by (inr (inl denied)) =
          inr (
            parts (has_block plain a.target) (not (is_sealed plain a.target)) (list_all (has_argument plain) a.arguments) denied.0,
            parts (has_block ledger b.target) (not (is_sealed ledger b.target)) (list_all (has_argument ledger) b.arguments) denied.1,
          )
      by (inr (inr denied)) =
          inr (
            right-denied (has_block plain a.target && not (is_sealed plain a.target)) (list_all (has_argument plain) a.arguments) denied.0,
            right-denied (has_block ledger b.target && not (is_sealed ledger b.target)) (list_all (has_argument ledger) b.arguments) denied.1,
          )

  item : (a b : TableItem) → IsReadTableItem wide a b → IsReadTableItem reading a b ⊎ BothDenied (has_item plain a) (has_item ledger b)
  item (TagTo k x) (TagTo tag edge) is = by (named-edge x edge is.1)
    where
      by : IsReadAs reading x edge ⊎ BothDenied (is_some (edge_named plain x)) (is_some (edge_named ledger edge))
          → IsReadTableItem reading (TagTo k x) (TagTo tag edge) ⊎ BothDenied (is_some (edge_named plain x)) (is_some (edge_named ledger edge))
      by (inl read) = inl (is.0, read)
      by (inr denied) = inr denied
  item (DefaultTo x) (DefaultTo edge) is = named-edge x edge is
  item (InContext x) (InContext value) is = one (has_value plain) (has_value ledger) (no-value plain) (no-value ledger) x value is
  item (TagTo k x) (DefaultTo edge) is = absurd is
  item (TagTo k x) (InContext value) is = absurd is
  item (DefaultTo x) (TagTo tag edge) is = absurd is
  item (DefaultTo x) (InContext value) is = absurd is
  item (InContext x) (TagTo tag edge) is = absurd is
  item (InContext x) (DefaultTo edge) is = absurd is

  -- an instruction: it is read, or a name of it leads nowhere
  named-parts : (a b : Instruction Name Name) → IsReadInstruction wide a b → IsReadInstruction reading a b ⊎ (NamesNothing plain a × NamesNothing ledger b)
  named-parts a b is =
      by (values a.contexts b.contexts is.contexts) (values a.operands b.operands is.operands)
      (either-all (IsReadEdge wide) (IsReadEdge reading) (can_lead plain) (can_lead ledger) led a.edges b.edges is.edges)
    where
      by : AllZip (IsReadAs reading) a.contexts b.contexts ⊎ BothDenied (list_all (has_value plain) a.contexts) (list_all (has_value ledger) b.contexts)
          → AllZip (IsReadAs reading) a.operands b.operands ⊎ BothDenied (list_all (has_value plain) a.operands) (list_all (has_value ledger) b.operands)
          → AllZip (IsReadEdge reading) a.edges b.edges ⊎ BothDenied (list_all (can_lead plain) a.edges) (list_all (can_lead ledger) b.edges)
          → IsReadInstruction reading a b ⊎ (NamesNothing plain a × NamesNothing ledger b)
      by (inl contexts) (inl operands) (inl edges) =
          inl (record { operation = is.operation; controlling = is.controlling; operands = operands; contexts = contexts; edges = edges })
      by (inr denied) operands edges = inr (inl denied.0, inl denied.1)
      by (inl contexts) (inr denied) edges = inr (inr (inl denied.0), inr (inl denied.1))
      by (inl contexts) (inl operands) (inr denied) = inr (inr (inr denied.0), inr (inr denied.1))

  -- one that is emitted
  pub emitted : (a b : Instruction Name Name) → IsReadInstruction wide a b → IsReadInstruction reading a b ⊎ BothDenied (call_allowed plain (Emit [] a)) (call_allowed ledger (Emit [] b))
  emitted a b is = elim (named-parts a b is) [ inl read ↦ inl read | inr nothing ↦ inr (deny-emission plain a nothing.0, deny-emission ledger b nothing.1) ]

  -- CALLS -----------------------------------------------------------------------------------------------------------------

  abbrev pub Told : (asked request : Request) → Type 0
  Told asked request = IsReadRequest reading asked request ⊎ AreDenied plain ledger asked request

  denied-so : (asked request : Request) → allows plain asked ≡ false → allows ledger request ≡ false → blames_variable plain asked ≡ blames_variable ledger request → Told asked request
  denied-so asked request first second blamed = inr (record { plain_denied = first; denied = second; blamed = blamed })

  abbrev ToldDemand : (a b : Demand) → Type 0
  ToldDemand a b = IsReadDemand reading a b ⊎ BothDenied (holds plain a) (holds ledger b)

  -- a demand is read, or is denied on both sides
  demand-told : (a b : Demand) → IsReadDemand wide a b → ToldDemand a b
  demand-told (AsksBoth a c) (AsksBoth b d) is = by (demand-told a b is.0) (demand-told c d is.1)
    where
      by : ToldDemand a b → ToldDemand c d → ToldDemand (AsksBoth a c) (AsksBoth b d)
      by (inl first) (inl second) = inl (first, second)
      by (inl first) (inr denied) = inr (right-denied (holds plain a) (holds plain c) denied.0, right-denied (holds ledger b) (holds ledger d) denied.1)
      by (inr denied) second = inr (left-denied (holds plain a) (holds plain c) denied.0, left-denied (holds ledger b) (holds ledger d) denied.1)
  demand-told (AsksName test' x) (AsksName test name) is = by (one (passes plain test') (passes ledger test) (name-denied plain test') (name-denied ledger test) x name is.1)
    where
      by : IsReadAs reading x name ⊎ BothDenied (passes plain test' x) (passes ledger test name) → ToldDemand (AsksName test' x) (AsksName test name)
      by (inl read) = inl (is.0, read)
      by (inr denied) = inr denied
  demand-told (AsksLeading jump here) (AsksLeading branch from) is = by (each jump branch is.0) (each here from is.1)
    where
      by : IsReadAs reading jump branch ⊎ (IsNowhere plain jump × IsNowhere ledger branch) → IsReadAs reading here from ⊎ (IsNowhere plain here × IsNowhere ledger from)
          → ToldDemand (AsksLeading jump here) (AsksLeading branch from)
      by (inl read) (inl source) = inl (read, source)
      by (inl read) (inr gone) = inr (leading-denied plain jump here (inr gone.0), leading-denied ledger branch from (inr gone.1))
      by (inr gone) source = inr (leading-denied plain jump here (inl gone.0), leading-denied ledger branch from (inl gone.1))
  demand-told (AsksValues xs) (AsksValues names) is = values xs names is
  demand-told (AsksEdges xs) (AsksEdges names) is =
      either-all (IsReadAs wide) (IsReadAs reading) (λ x. is_some (edge_named plain x)) (λ x. is_some (edge_named ledger x)) named-edge xs names is
  demand-told (AsksArguments xs) (AsksArguments arguments) is =
      either-all (IsReadArgument wide) (IsReadArgument reading) (has_argument plain) (has_argument ledger) argument xs arguments is
  demand-told (AsksItems xs) (AsksItems items) is = either-all (IsReadTableItem wide) (IsReadTableItem reading) (has_item plain) (has_item ledger) item xs items is
  demand-told (AsksTargets xs) (AsksTargets edges) is = either-all (IsReadEdge wide) (IsReadEdge reading) (can_lead plain) (can_lead ledger) led xs edges is
  demand-told (AsksEntries given) (AsksEntries entries) is = inl is
  demand-told (AsksOpen inside) (AsksOpen within) is = inl is
  demand-told AsksLeaving AsksLeaving is = inl tt
  demand-told (AsksTables test') (AsksTables test) is = inl is
  demand-told (AsksVariables test') (AsksVariables test) is = inl is
  demand-told _ _ is = absurd is

  told-so : (asked request : Request) → ReadDemands wide asked request → ReadBlame wide asked request → Told asked request
  told-so asked request demands (NeitherBlames a r none' none) = by (demand-told demands.plain demands.script demands.reads)
    where
      by : ToldDemand demands.plain demands.script → Told asked request
      by (inl read) = inl (demands.again reading read)
      by (inr denied) = denied-so asked request (demands.asks' plain ∙ denied.0) (demands.asks ledger ∙ denied.1) (none' plain ∙ sym (none ledger))
  told-so asked request demands (BothAssigned number variable x value same is) = by (each x value is)
    where
      by : IsReadAs reading x value ⊎ (IsNowhere plain x × IsNowhere ledger value) → Told (DefVar number x) (DefVar variable value)
      by (inl read) = inl (same, read)
      by (inr gone) =
          denied-so (DefVar number x) (DefVar variable value) (deny-assigned plain number x gone.0) (deny-assigned ledger variable value gone.1)
          (unblamed plain number x gone.0 ∙ sym (unblamed ledger variable value gone.1))
  told-so asked request demands (BothUsed number variable same) = inl same

  pub told : (asked request : Request) → IsReadRequest wide asked request → Told asked request
  told asked request is = let demands = read_demands wide asked request is in told-so asked request demands demands.blame

-- THE LIST'S OWN LEDGER ---------------------------------------------------------------------------------------------------

found-later : (state : BlockState) (states : List BlockState) (x : Name) → is_some (find (λ (s : BlockState). same_name s.block x) states) ≡ true
    → is_some (find (λ (s : BlockState). same_name s.block x) (state ∷ states)) ≡ true
found-later state states x found = by (same_name state.block x)
  where
    by : (here : Bool) → is_some (if here then Some state else find (λ (s : BlockState). same_name s.block x) states) ≡ true
    by true = refl
    by false = found

any-later : (c d : Bool) → d ≡ true → (c || d) ≡ true
any-later true d is = refl
any-later false d is = is

module _ (reading : Reading) (made : ℕ) where
  -- a block of the list's ledger is read from one of the builder's
  read-block : (states' states : List BlockState) (name : Name) → StandAmong (IsReadState reading made) (IsOwnState reading) states' states
      → is_some (find (λ (s : BlockState). same_name s.block name) states) ≡ true
      → (x : Name) × IsReadAs reading x name × (is_some (find (λ (s : BlockState). same_name s.block x) states') ≡ true)
  read-block [] [] name are found = absurd (false≢true found)
  read-block [] (state ∷ states) name are found = elim are [ ]
  read-block (state' ∷ states') (state ∷ states) name (Both a b zs ws is are) found = by (same_name state.block name) refl found (λ later. read-block states' states name are later)
    where
      by : (here : Bool) → same_name state.block name ≡ here → is_some (if here then Some state else find (λ (s : BlockState). same_name s.block name) states) ≡ true
          → (is_some (find (λ (s : BlockState). same_name s.block name) states) ≡ true → (x : Name) × IsReadAs reading x name × (is_some (find (λ (s : BlockState). same_name s.block x) states') ≡ true))
          → (x : Name) × IsReadAs reading x name × (is_some (find (λ (s : BlockState). same_name s.block x) (state' ∷ states')) ≡ true)
      by true same found later = (
        state'.block,
        subst (IsReadAs reading state'.block) (names_equal state.block name same) is.block,
        ap (λ (c : Bool). is_some (if c then Some state' else find (λ (s : BlockState). same_name s.block state'.block) states')) (equal_names state'.block state'.block refl),
      )
      by false same found later = let rest = later found in (rest.0, rest.1, found-later state' states' rest.0 rest.2)
  read-block (state' ∷ states') states name (Own a zs ws is are) found = let rest = read-block states' states name are found in (rest.0, rest.1, found-later state' states' rest.0 rest.2)

  read-laid : (xs names : List Name) (name : Name) → StandAmong (IsReadAs reading) (IsGenerated reading) xs names → list_any (same_name name) names ≡ true
      → (x : Name) × IsReadAs reading x name × (list_any (same_name x) xs ≡ true)
  read-laid [] [] name are found = absurd (false≢true found)
  read-laid [] (other ∷ names) name are found = elim are [ ]
  read-laid (y ∷ xs) (other ∷ names) name (Both a b zs ws is are) found = by (same_name name other) refl found (λ later. read-laid xs names name are later)
    where
      by : (here : Bool) → same_name name other ≡ here → (here || list_any (same_name name) names) ≡ true
          → (list_any (same_name name) names ≡ true → (x : Name) × IsReadAs reading x name × (list_any (same_name x) xs ≡ true))
          → (x : Name) × IsReadAs reading x name × (list_any (same_name x) (y ∷ xs) ≡ true)
      by true same found later =
          (y, subst (IsReadAs reading y) (sym (names_equal name other same)) is, ap (λ (c : Bool). c || list_any (same_name y) xs) (equal_names y y refl))
      by false same found later = let rest = later found in (rest.0, rest.1, any-later (same_name rest.0 y) (list_any (same_name rest.0) xs) rest.2)
  read-laid (y ∷ xs) names name (Own a zs ws is are) found = let rest = read-laid xs names name are found in (rest.0, rest.1, any-later (same_name rest.0 y) (list_any (same_name rest.0) xs) rest.2)

  read-inserted : (xs names : List Name) (name : Name) → IsReadLayout reading xs names → list_any (same_name name) names ≡ true
      → (x : Name) × IsReadAs reading x name × (list_any (same_name x) xs ≡ true)
  read-inserted [] [] name are found = absurd (false≢true found)
  read-inserted [] (other ∷ names) name are found = absurd are
  read-inserted (y ∷ xs) [] name are found = absurd are
  read-inserted (y ∷ xs) (other ∷ names) name are found = read-laid (y ∷ xs) (other ∷ names) name (Both y other xs names are.0 are.1) found

no-state-found : (o : Option BlockState) → (is_some o ≡ true → ⊥) → o ≡ None
no-state-found None none = refl
no-state-found (Some state) none = absurd (none refl)

-- a block's name was answered by the block, and so was one of the layout
pub record AreAnswered (ledger : Ledger) : Type 0 where
  pub blocks : (x : Name) → has_block ledger x ≡ true → answer_at ledger x ≡ Some ABlock
  pub laid : (x : Name) → is_inserted ledger x ≡ true → answer_at ledger x ≡ Some ABlock

no-block-answer : (o : Option Answered) → o ≡ None → o ≡ Some ABlock → ⊥
no-block-answer o none some = let wrong : None ≡ Some ABlock = sym none ∙ some in cc

-- a name without an answer leads nowhere
pub nowhere : (ledger : Ledger) → AreAnswered ledger → (x : Name) → answer_at ledger x ≡ None → IsNowhere ledger x
nowhere ledger answered x none = record {
  unanswered = none;
  no_block = no-state-found (block_state ledger x) (λ found. no-block-answer (answer_at ledger x) none (answered.blocks x found));
  outside = false_from_ne_true (is_inserted ledger x) (λ inserted. no-block-answer (answer_at ledger x) none (answered.laid x inserted));
}

-- The names of blocks of the list's ledger were answered, where those of the builder's were.
pub read-answered : (reading : Reading) (plain ledger : Ledger) → IsJoined reading plain ledger → AreAnswered plain → (name : Name) → answer_at ledger name ≡ None → IsNowhere ledger name
read-answered reading plain ledger joined answered name none = record {
  unanswered = none;
  no_block = no-state-found (block_state ledger name) (λ found.
      let read = read-block reading (length ledger.answers) plain.blocks ledger.blocks name joined.ledgers.states.blocks found in
      no-way read.0 read.1 (answered.blocks read.0 read.2));
  outside = false_from_ne_true (is_inserted ledger name) (λ inserted.
      let read = read-inserted reading (length ledger.answers) plain.layout ledger.layout name joined.ledgers.states.layout inserted in
      no-way read.0 read.1 (answered.laid read.0 read.2));
}
  where
    no-way : (x : Name) → IsReadAs reading x name → answer_at plain x ≡ Some ABlock → ⊥
    no-way x read block =
        subst (λ (o : Option Answered). IsReadAnswer reading (Some ABlock) o) none (subst (λ (o : Option Answered). IsReadAnswer reading o (answer_at ledger name)) block (joined.ledgers.answers x name read))
