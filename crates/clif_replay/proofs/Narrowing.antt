-- A call that may be made names what was made: so it is read as it is under any reading that agrees on names that were made.
use Rattle.std.proofs.Common.{◌≡◌, ◌<◌, ◌⊎◌, inl, inr, ℕ, List, [], ◌∷◌, length, refl, ap, sym, ◌∙◌}
use Rattle.std.specs.Prelude.{◌&&◌, ◌||◌, Bool, true, false, Option, Some, None, find, if◌then◌else◌, is_some, not, slice_get}
use Rattle.std.specs.List.{AllZip, list_all, list_any}
use Rattle.std.proofs.lemmas.Bool.{and_parts, false≢true}
use Rattle.std.proofs.lemmas.Option.{slice_get_within}
use Rattle.clif_types.specs.declared.types.«Type».{«Type»}
use Rattle.clif_meaning.specs.Acceptance.{allows, can_assign, can_lead, has_argument, has_item, is_open, fits_stack_map}
use Rattle.clif_meaning.specs.Instruction.{Argument, Known, CallResult, CallPayload, Edge, Instruction}
use Rattle.clif_meaning.specs.Ledger.{Answered, BlockState, Ledger, answer_at, answered_edge, block_state, edge_named, has_block, has_instruction, has_value, is_inserted, is_instruction_answer, is_sealed, leads_to, state_has, type_of, value_answer_type, variable_type, or_invalid}
use Rattle.clif_meaning.specs.Name.{Name, same_name}
use Rattle.clif_meaning.specs.Request.{Request, TableItem, TagTo, DefaultTo, InContext}
use Rattle.clif_expansion.specs.Joining.{Both, IsJoined, IsOwnState, IsReadLayout, IsReadRequest, IsReadState, IsReadTableItem, Own, StandAmong}
use Rattle.clif_expansion.specs.Reading.{IsReadArgument, IsReadAs, IsReadEdge, IsReadInstruction, Reading}
use Rattle.clif_expansion.specs.ScriptCall.{Emit, call_allowed, can_emit, takes_byte}
use Rattle.clif_expansion.specs.Walk.{IsGenerated}
use Rattle.clif_expansion.proofs.Names.{names_equal}
use Rattle.clif_expansion.proofs.ReadDemands.{Demand, NameTest, IsABlock, IsUnfilled, IsUnsealed, IsOutside, IsInserted, IsPristine, IsUntouched, IsAnEdge, IsForStackMaps, IsOfVariable, AsksBoth, AsksName, AsksLeading, AsksValues, AsksEdges, AsksArguments, AsksItems, AsksTargets, AsksEntries, AsksOpen, AsksLeaving, AsksTables, AsksVariables, IsReadDemand, holds, passes}
use Rattle.clif_expansion.proofs.ReadEffects.{read_demands}
use Rattle.clif_builder.proofs.LedgerLists.{and-then-some}

-- an answer is there where a test finds it
some-of : (f : Option Answered → Bool) → f None ≡ false → (o : Option Answered) → f o ≡ true → (a : Answered) × (o ≡ Some a)
some-of f none None is = absurd (false≢true (sym none ∙ is))
some-of f none (Some a) is = (a, refl)

has-state : (test : BlockState → Bool) (o : Option BlockState) → state_has test o ≡ true → is_some o ≡ true
has-state test None is = absurd (false≢true is)
has-state test (Some state) is = refl

assigned-some : (first second : Option «Type») → can_assign first second ≡ true → is_some second ≡ true
assigned-some None None is = absurd (false≢true is)
assigned-some None (Some other) is = absurd (false≢true is)
assigned-some (Some ty) None is = absurd (false≢true is)
assigned-some (Some ty) (Some other) is = refl

module _ (reading : Reading) (made : ℕ) where
  -- a name is read, or was generated
  abbrev IsThere : Name → Type 0
  IsThere x = ((name : Name) × IsReadAs reading x name) ⊎ IsGenerated reading x

  -- so is a block that is found
  found-there : (states' states : List BlockState) (x : Name) → StandAmong (IsReadState reading made) (IsOwnState reading) states' states
      → is_some (find (λ (state : BlockState). same_name state.block x) states') ≡ true → IsThere x
  found-there [] states x are found = absurd (false≢true found)
  found-there (state' ∷ states') (state ∷ states) x (Both a b zs ws is are) found = by (same_name state'.block x) refl found (found-there states' states x are)
    where
      by : (here : Bool) → same_name state'.block x ≡ here → is_some (if here then Some state' else find (λ (s : BlockState). same_name s.block x) states') ≡ true
          → (is_some (find (λ (s : BlockState). same_name s.block x) states') ≡ true → IsThere x) → IsThere x
      by true same found later = inl (state.block, ap reading (sym (names_equal state'.block x same)) ∙ is.block)
      by false same found later = later found
  found-there (state' ∷ states') states x (Own a zs ws is are) found = by (same_name state'.block x) refl found (found-there states' states x are)
    where
      by : (here : Bool) → same_name state'.block x ≡ here → is_some (if here then Some state' else find (λ (s : BlockState). same_name s.block x) states') ≡ true
          → (is_some (find (λ (s : BlockState). same_name s.block x) states') ≡ true → IsThere x) → IsThere x
      by true same found later = inr (ap reading (sym (names_equal state'.block x same)) ∙ is.block)
      by false same found later = later found

  -- and one of the layout
  among-there : (xs names : List Name) (x : Name) → StandAmong (IsReadAs reading) (IsGenerated reading) xs names → list_any (same_name x) xs ≡ true → IsThere x
  among-there [] names x are found = absurd (false≢true found)
  among-there (y ∷ xs) (name ∷ names) x (Both a b zs ws is are) found = by (same_name x y) refl found (among-there xs names x are)
    where
      by : (here : Bool) → same_name x y ≡ here → (here || list_any (same_name x) xs) ≡ true → (list_any (same_name x) xs ≡ true → IsThere x) → IsThere x
      by true same found later = inl (name, ap reading (names_equal x y same) ∙ is)
      by false same found later = later found
  among-there (y ∷ xs) names x (Own a zs ws is are) found = by (same_name x y) refl found (among-there xs names x are)
    where
      by : (here : Bool) → same_name x y ≡ here → (here || list_any (same_name x) xs) ≡ true → (list_any (same_name x) xs ≡ true → IsThere x) → IsThere x
      by true same found later = inr (ap reading (names_equal x y same) ∙ is)
      by false same found later = later found

  inserted-there : (xs names : List Name) (x : Name) → IsReadLayout reading xs names → list_any (same_name x) xs ≡ true → IsThere x
  inserted-there [] names x are found = absurd (false≢true found)
  inserted-there (y ∷ xs) [] x are found = absurd are
  inserted-there (y ∷ xs) (name ∷ names) x are found = among-there (y ∷ xs) (name ∷ names) x (Both y name xs names are.0 are.1) found

module _ (whole reading : Reading) (plain ledger : Ledger) (joined : IsJoined reading plain ledger)
    (narrow : (x name : Name) → IsReadAs whole x name → x.place < length plain.answers → IsReadAs reading x name) where
  answered : (f : Option Answered → Bool) → f None ≡ false → (x : Name) → f (answer_at plain x) ≡ true → x.place < length plain.answers
  answered f none x is =
      let there = some-of f none (answer_at plain x) is in
      let given = and-then-some (λ (xs : List Answered). slice_get xs x.index) (slice_get plain.answers x.place) there.0 there.1 in
      slice_get_within plain.answers x.place given.0 given.1

  pub value : (x name : Name) → IsReadAs whole x name → has_value plain x ≡ true → IsReadAs reading x name
  value x name is may = narrow x name is (answered (λ o. is_some (value_answer_type o)) refl x may)

  edge_name : (x name : Name) → IsReadAs whole x name → is_some (edge_named plain x) ≡ true → IsReadAs reading x name
  edge_name x name is may = narrow x name is (answered (λ o. is_some (answered_edge o)) refl x may)

  -- what is read or was generated was made
  was-made : (x : Name) → ((name : Name) × IsReadAs reading x name) ⊎ IsGenerated reading x → x.place < length plain.answers
  was-made x (inl (name, read)) = (joined.made x name read).0
  was-made x (inr own) = joined.generated x own

  block : (x name : Name) → IsReadAs whole x name → has_block plain x ≡ true → IsReadAs reading x name
  block x name is may = narrow x name is (was-made x (found-there reading (length ledger.answers) plain.blocks ledger.blocks x joined.ledgers.states.blocks may))

  state : (test : BlockState → Bool) (x name : Name) → IsReadAs whole x name → state_has test (block_state plain x) ≡ true → IsReadAs reading x name
  state test x name is may = block x name is (has-state test (block_state plain x) may)

  placed : (x name : Name) → IsReadAs whole x name → is_inserted plain x ≡ true → IsReadAs reading x name
  placed x name is may = narrow x name is (was-made x (inserted-there reading (length ledger.answers) plain.layout ledger.layout x joined.ledgers.states.layout may))

  -- lists
  each : {X Y : Type 0} (R S : X → Y → Type 0) (f : X → Bool) → ((x : X) (y : Y) → R x y → f x ≡ true → S x y) → (xs : List X) (ys : List Y) → AllZip R xs ys
      → list_all f xs ≡ true → AllZip S xs ys
  each R S f one [] [] are may = tt
  each R S f one [] (y ∷ ys) are may = absurd are
  each R S f one (x ∷ xs) [] are may = absurd are
  each R S f one (x ∷ xs) (y ∷ ys) are may =
      let both = and_parts (f x) (list_all f xs) may in
      (one x y are.0 both.0, each R S f one xs ys are.1 both.1)

  values : (xs names : List Name) → AllZip (IsReadAs whole) xs names → list_all (has_value plain) xs ≡ true → AllZip (IsReadAs reading) xs names
  values = each (IsReadAs whole) (IsReadAs reading) (has_value plain) value

  edge_names : (xs names : List Name) → AllZip (IsReadAs whole) xs names → list_all (λ name. is_some (edge_named plain name)) xs ≡ true → AllZip (IsReadAs reading) xs names
  edge_names = each (IsReadAs whole) (IsReadAs reading) (λ name. is_some (edge_named plain name)) edge_name

  argument : (argument' argument : Argument Name) → IsReadArgument whole argument' argument → has_argument plain argument' ≡ true → IsReadArgument reading argument' argument
  argument (Known x) (Known name) is may = value x name is may
  argument (CallResult k) (CallResult index) is may = is
  argument (CallPayload k) (CallPayload index) is may = is
  argument _ _ is may = absurd is

  edge : (before after : Edge Name Name) → IsReadEdge whole before after → has_block plain before.target ≡ true → list_all (has_argument plain) before.arguments ≡ true → IsReadEdge reading before after
  edge before after is target arguments = record {
    target = block before.target after.target is.target target;
    arguments = each (IsReadArgument whole) (IsReadArgument reading) (has_argument plain) argument before.arguments after.arguments is.arguments arguments;
  }

  lead : (edge' edge : Edge Name Name) → IsReadEdge whole edge' edge → can_lead plain edge' ≡ true → IsReadEdge reading edge' edge
  lead edge' after is may =
      let parts = and_parts (has_block plain edge'.target && not (is_sealed plain edge'.target)) (list_all (has_argument plain) edge'.arguments) may in
      edge edge' after is (and_parts (has_block plain edge'.target) (not (is_sealed plain edge'.target)) parts.0).0 parts.1

  item : (item' item : TableItem) → IsReadTableItem whole item' item → has_item plain item' ≡ true → IsReadTableItem reading item' item
  item (TagTo tag' x) (TagTo tag name) is may = (is.0, edge_name x name is.1 may)
  item (DefaultTo x) (DefaultTo name) is may = edge_name x name is may
  item (InContext x) (InContext name) is may = value x name is may
  item _ _ is may = absurd is

  instruction : (before after : Instruction Name Name) → IsReadInstruction whole before after
      → list_all (has_value plain) before.contexts ≡ true → list_all (has_value plain) before.operands ≡ true → list_all (can_lead plain) before.edges ≡ true
      → IsReadInstruction reading before after
  instruction before after is contexts operands edges = record {
    operation = is.operation;
    controlling = is.controlling;
    operands = values before.operands after.operands is.operands operands;
    contexts = values before.contexts after.contexts is.contexts contexts;
    edges = each (IsReadEdge whole) (IsReadEdge reading) (can_lead plain) lead before.edges after.edges is.edges edges;
  }

  -- an instruction that may be emitted
  emitted-parts : (contexts byte opens operands edges can : Bool) → (((((contexts && byte) && opens) && operands) && edges) && can) ≡ true → (contexts ≡ true) × (operands ≡ true) × (edges ≡ true)
  emitted-parts true true true true true true is = (refl, refl, refl)
  emitted-parts _ _ _ _ _ _ is = absurd (false≢true is)

  pub narrowed-emission : (before after : Instruction Name Name) → IsReadInstruction whole before after → call_allowed plain (Emit [] before) ≡ true → IsReadInstruction reading before after
  narrowed-emission before after is may =
      let parts = emitted-parts (list_all (has_value plain) before.contexts) (takes_byte plain before.operation before.operands) (is_open plain plain.current)
      (list_all (has_value plain) before.operands) (list_all (can_lead plain) before.edges)
      (can_emit before.operation before.controlling) may in
      instruction before after is parts.0 parts.1 parts.2

  -- what is asked of a name, and is so
  tested : (test : NameTest) (x name : Name) → IsReadAs whole x name → passes plain test x ≡ true → IsReadAs reading x name
  tested IsABlock x name is may = block x name is may
  tested IsUnfilled x name is may = block x name is (and_parts (has_block plain x) _ may).0
  tested IsUnsealed x name is may = block x name is (and_parts (has_block plain x) _ may).0
  tested IsOutside x name is may = block x name is (and_parts (has_block plain x) _ may).0
  tested IsInserted x name is may = placed x name is may
  tested IsPristine x name is may = state (λ state. state.is_pristine) x name is may
  tested IsUntouched x name is may = state (λ state. state.is_pristine) x name is (and_parts _ _ may).0
  tested IsAnEdge x name is may = edge_name x name is may
  tested IsForStackMaps x name is may = value x name is (and_parts (has_value plain x) (fits_stack_map (or_invalid (type_of plain x))) may).0
  tested (IsOfVariable variable) x name is may = value x name is (assigned-some (variable_type plain variable) (type_of plain x) may)

  leading : (jump branch at from : Name) → IsReadAs whole jump branch → IsReadAs whole at from → holds plain (AsksLeading jump at) ≡ true → IsReadAs reading jump branch × IsReadAs reading at from
  leading jump branch at from is leaves may =
      let parts = and_parts (has_instruction plain jump) (leads_to plain jump at) (and_parts (has_instruction plain jump && leads_to plain jump at) (not (is_sealed plain at)) may).0 in (
        narrow jump branch is (answered is_instruction_answer refl jump parts.0),
        state (λ state. list_any (same_name jump) state.predecessors) at from leaves parts.1,
      )

  -- a demand that holds
  demanded : (before after : Demand) → IsReadDemand whole before after → holds plain before ≡ true → IsReadDemand reading before after
  demanded (AsksBoth first' second') (AsksBoth first second) is may =
      let parts = and_parts (holds plain first') (holds plain second') may in
      (demanded first' first is.0 parts.0, demanded second' second is.1 parts.1)
  demanded (AsksName test' x) (AsksName test name) is may = (is.0, tested test' x name is.1 may)
  demanded (AsksLeading jump at) (AsksLeading branch from) is may = leading jump branch at from is.0 is.1 may
  demanded (AsksValues xs) (AsksValues names) is may = values xs names is may
  demanded (AsksEdges xs) (AsksEdges names) is may = edge_names xs names is may
  demanded (AsksArguments xs) (AsksArguments arguments) is may = each (IsReadArgument whole) (IsReadArgument reading) (has_argument plain) argument xs arguments is may
  demanded (AsksItems xs) (AsksItems items) is may = each (IsReadTableItem whole) (IsReadTableItem reading) (has_item plain) item xs items is may
  demanded (AsksTargets xs) (AsksTargets edges) is may = each (IsReadEdge whole) (IsReadEdge reading) (can_lead plain) lead xs edges is may
  demanded (AsksEntries given) (AsksEntries entries) is may = is
  demanded (AsksOpen inside) (AsksOpen within) is may = is
  demanded AsksLeaving AsksLeaving is may = tt
  demanded (AsksTables test') (AsksTables test) is may = is
  demanded (AsksVariables test') (AsksVariables test) is may = is
  demanded _ _ is may = absurd is

  pub narrowed : (asked request : Request) → IsReadRequest whole asked request → allows plain asked ≡ true → IsReadRequest reading asked request
  narrowed asked request is may =
      let demands = read_demands whole asked request is in
      demands.again reading (demanded demands.plain demands.script demands.reads (sym (demands.asks' plain) ∙ may))
