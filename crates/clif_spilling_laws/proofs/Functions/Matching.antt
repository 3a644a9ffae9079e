-- Matching edges stay matching through a spilling.
use Rattle.std.proofs.Common.{◌≡◌, ◌⊎◌, ◌<◌, inl, inr, ℕ, zero, suc, Bool, true, false, List, [], ◌∷◌, length, map, drop, refl, sym, ap, subst, ◌∙◌, Option, Some, None}
use Rattle.std.specs.Prelude.{Contains, slice_get}
use Rattle.std.specs.List.{AllByRecursion, AllZip}
use Rattle.std.proofs.lemmas.Option.{get_or_from_slice_get}
use Rattle.clif_types.specs.declared.types.LaneType.TheVariants as lane
use Rattle.clif_types.specs.declared.types.«Type».{«Type»}
use Rattle.clif_types.specs.declared.types.«Type».TheVariants as type
use Rattle.clif_tables.specs.Callees.{types_of}
use Rattle.clif_meaning.specs.Event.{CallShape, payload_types}
use Rattle.clif_meaning.specs.FunctionView.{BlockView, Placed}
use Rattle.clif_meaning.specs.Instruction.{Argument, Known, CallResult, CallPayload, Edge, Operation}
use Rattle.clif_meaning.specs.Path.{IsReachable, Place}
use Rattle.clif_meaning.specs.SameType.{same_type}
use Rattle.clif_meaning.specs.Typing.{EachEdgeMatches, EdgeMatches, EdgesMatch, argument_type, call_shape, value_types_at}
use Rattle.clif_meaning.specs.WellPlaced.{function_flow, placed_at, placed_targets}
use Rattle.clif_meaning.proofs.SameTypes.{same_type_refl, type_is}
use Rattle.clif_safepoints.specs.Analysis.{IsReached}
use Rattle.clif_safepoints.proofs.Paths.{contains_at, contains_map}
use Rattle.clif_typed_runs.specs.ValuesFit.{AliasesTyped}
use Rattle.clif_spilling_laws.specs.EdgeLaws.{EdgesStayMatched, LeadsInside}
use Rattle.clif_spilling_laws.specs.GivesOnce.{GivesOnce}
use Rattle.clif_spilling_laws.specs.Live.{place_at}
use Rattle.clif_spilling_laws.specs.Rewriting.{AreArguments, AreItemsOf, AreLanded, AreRewritten, IsLandingBlock, IsLedOn, IsPassedOn, IsRewrittenBlock, IsSpilling, Lands, LeadsStraight, jump_item, own_arguments, own_type}
use Rattle.clif_spilling_laws.specs.Spilling.{Reload, SlotAccess, Spilling, reload_items, store_items}
use Rattle.clif_spilling_laws.proofs.Forward.Edges.{member_holds}
use Rattle.clif_spilling_laws.proofs.Basics.Lists.{contains_cases, contains_first, contains_more, contains_none, drop_none, dropped, first_is, none_some, not_empty, rest_is, some_same, true_false}
use Rattle.clif_spilling_laws.proofs.Liveness.Reached.{in_reached}

-- LISTS -----------------------------------------------------------------------------------------------------------------

map_alike : {X Y : Type 0} (f g : X → Y) (xs : List X) → ((x : X) → Contains xs x → f x ≡ g x) → map f xs ≡ map g xs
map_alike f g [] same = refl
map_alike f g (x ∷ xs) same = λ i. same x (contains_first x xs) i ∷ map_alike f g xs (λ y h. same y (contains_more x y xs h)) i

-- WHAT ISN'T FALSE IS TRUE ----------------------------------------------------------------------------------------------

-- of types, and of what edges pass: a test decides it
abbrev Stable : Type 0 → Type 0
Stable P = ((P → ⊥) → ⊥) → P

stable_type : (a b : «Type») → Stable (a ≡ b)
stable_type a b not_false = by (same_type a b) refl
  where
    by : (c : Bool) → same_type a b ≡ c → a ≡ b
    by true is = type_is a b is
    by false is = absurd (not_false (λ same. true_false (same_type a b) (subst (λ (ty : «Type»). same_type a ty ≡ true) same (same_type_refl a)) is))

stable_option : (a b : Option «Type») → Stable (a ≡ b)
stable_option None None not_false = refl
stable_option None (Some b) not_false = absurd (not_false (λ e. none_some b e))
stable_option (Some a) None not_false = absurd (not_false (λ e. none_some a (sym e)))
stable_option (Some a) (Some b) not_false = ap (λ (ty : «Type»). Some ty) (stable_type a b (λ no. not_false (λ e. no (some_same a b e))))

stable_list : (xs ys : List (Option «Type»)) → Stable (xs ≡ ys)
stable_list [] [] not_false = refl
stable_list [] (b ∷ ys) not_false = absurd (not_false (λ e. not_empty b ys (sym e)))
stable_list (a ∷ xs) [] not_false = absurd (not_false (λ e. not_empty a xs e))
stable_list (a ∷ xs) (b ∷ ys) not_false =
    λ i. stable_option a b (λ no. not_false (λ e. no (first_is a b xs ys e))) i ∷ stable_list xs ys (λ no. not_false (λ e. no (rest_is a b xs ys e))) i

stable_all : {X : Type 0} (P : X → Type 0) → ((x : X) → Stable (P x)) → (xs : List X) → Stable (AllByRecursion P xs)
stable_all P each [] not_false = tt
stable_all P each (x ∷ xs) not_false =
    (each x (λ no. not_false (λ all. no all.0)), stable_all P each xs (λ no. not_false (λ all. no all.1)))

module _ (type_of : ℕ → «Type») (types_at : ℕ → List «Type») where
  stable_edge : (results payload : List «Type») (edge : Edge ℕ ℕ) → Stable (EdgeMatches type_of types_at results payload edge)
  stable_edge results payload edge = stable_list (map (argument_type type_of results payload) edge.arguments) (map (λ ty. Some ty) (types_at edge.target))

  stable_edges : (made : Option CallShape) (edges : List (Edge ℕ ℕ)) → Stable (EachEdgeMatches type_of types_at made edges)
  stable_edges None edges not_false = stable_all (EdgeMatches type_of types_at [] []) (stable_edge [] []) edges not_false
  stable_edges (Some call) [] not_false = tt
  stable_edges (Some call) (normal ∷ items) not_false = (
    stable_edge (types_of call.signature.returns) [] normal (λ no. not_false (λ all. no all.0)),
    stable_all (EdgeMatches type_of types_at [] payload_types) (stable_edge [] payload_types) items (λ no. not_false (λ all. no all.1)),
  )

-- what holds of each edge holds of all
each_edge_of : (type_of other : ℕ → «Type») (types_at others_at : ℕ → List «Type») (made : Option CallShape) (edges : List (Edge ℕ ℕ))
    → ((results payload : List «Type») (edge : Edge ℕ ℕ) → Contains edges edge → EdgeMatches type_of types_at results payload edge
    → EdgeMatches other others_at results payload edge)
    → EachEdgeMatches type_of types_at made edges → EachEdgeMatches other others_at made edges
each_edge_of type_of other types_at others_at made edges each match = by made edges each match
  where
    all : (results payload : List «Type») (edges : List (Edge ℕ ℕ))
        → ((edge : Edge ℕ ℕ) → Contains edges edge → EdgeMatches type_of types_at results payload edge → EdgeMatches other others_at results payload edge)
        → AllByRecursion (EdgeMatches type_of types_at results payload) edges → AllByRecursion (EdgeMatches other others_at results payload) edges
    all results payload [] each match = tt
    all results payload (edge ∷ edges) each match =
        (each edge (contains_first edge edges) match.0, all results payload edges (λ x h. each x (contains_more edge x edges h)) match.1)

    by : (made : Option CallShape) (edges : List (Edge ℕ ℕ))
        → ((results payload : List «Type») (edge : Edge ℕ ℕ) → Contains edges edge → EdgeMatches type_of types_at results payload edge
        → EdgeMatches other others_at results payload edge)
        → EachEdgeMatches type_of types_at made edges → EachEdgeMatches other others_at made edges
    by None edges each match = all [] [] edges (each [] []) match
    by (Some call) [] each match = tt
    by (Some call) (normal ∷ items) each match = (
      each (types_of call.signature.returns) [] normal (contains_first normal items) match.0,
      all [] payload_types items (λ x h. each [] payload_types x (contains_more normal x items h)) match.1,
    )

-- WHAT A CALL GIVES ITSELF ----------------------------------------------------------------------------------------------

-- where an edge passes what the call gives, that has the type that a landing block's parameter has
abbrev GivesOwn : CallShape → (results payload : List «Type») → Type 0
GivesOwn call results payload =
    ((i : ℕ) (ty : «Type») → slice_get results i ≡ Some ty → own_type call (CallResult i) ≡ ty)
    × ((i : ℕ) (ty : «Type») → slice_get payload i ≡ Some ty → own_type call (CallPayload i) ≡ ty)

nothing_there : (i : ℕ) (ty : «Type») → slice_get [] i ≡ Some ty → ⊥
nothing_there zero ty e = none_some ty e
nothing_there (suc i) ty e = none_some ty e

normal_own : (call : CallShape) → GivesOwn call (types_of call.signature.returns) []
normal_own call = (
  λ i ty is. get_or_from_slice_get (types_of call.signature.returns) i ty (type.Lane lane.I64) is,
  λ i ty is. absurd (nothing_there i ty is),
)

item_own : (call : CallShape) → GivesOwn call [] payload_types
item_own call = (λ i ty is. absurd (nothing_there i ty is), λ i ty is. get_or_from_slice_get payload_types i ty (type.Lane lane.I64) is)

-- an edge of a call matches, as the normal one or as one of an item
record MatchesAs (call : CallShape) (type_of : ℕ → «Type») (types_at : ℕ → List «Type») (edge : Edge ℕ ℕ) : Type 0 where
  results : List «Type»
  payload : List «Type»
  own : GivesOwn call results payload
  match : EdgeMatches type_of types_at results payload edge

which_edge : (call : CallShape) (type_of : ℕ → «Type») (types_at : ℕ → List «Type») (edges : List (Edge ℕ ℕ)) (edge : Edge ℕ ℕ)
    → EachEdgeMatches type_of types_at (Some call) edges → Contains edges edge → MatchesAs call type_of types_at edge
which_edge call type_of types_at [] edge match h = absurd (contains_none edge h)
which_edge call type_of types_at (normal ∷ items) edge match h = by (contains_cases normal edge items h)
  where
    by : (normal ≡ edge) ⊎ Contains items edge → MatchesAs call type_of types_at edge
    by (inl same) =
        subst (λ (e : Edge ℕ ℕ). MatchesAs call type_of types_at e) same
        (record { results = types_of call.signature.returns; payload = []; own = normal_own call; match = match.0 })
    by (inr more) =
        record { results = []; payload = payload_types; own = item_own call; match = member_holds (EdgeMatches type_of types_at [] payload_types) items edge match.1 more }

module _ (counts : ℕ → ℕ → Bool) (members : ℕ → Bool) (s : Spilling) (spills : IsSpilling counts s members) (once : GivesOnce s.before s.count)
    (aliases : AliasesTyped s.before) where
  abbrev old_type : ℕ → «Type»
  old_type = s.before.value_type

  abbrev new_type : ℕ → «Type»
  new_type = s.after.value_type

  abbrev OldMatches : (results payload : List «Type») → Edge ℕ ℕ → Type 0
  OldMatches results payload edge = EdgeMatches old_type (value_types_at s.before) results payload edge

  abbrev NewMatches : (results payload : List «Type») → Edge ℕ ℕ → Type 0
  NewMatches results payload edge = EdgeMatches new_type (value_types_at s.after) results payload edge

  abbrev Match : Placed → Type 0
  Match placed = EachEdgeMatches new_type (value_types_at s.after) (call_shape placed.instruction.operation) placed.instruction.edges

  abbrev AllMatch : List Placed → Type 0
  AllMatch items = AllByRecursion Match items

  -- PARAMETERS ----------------------------------------------------------------------------------------------------------

  parameter_types : (b : ℕ) → map new_type (s.before.blocks b).parameters ≡ map old_type (s.before.blocks b).parameters
  parameter_types b = map_alike new_type old_type (s.before.blocks b).parameters (λ v h. spills.types v (once.parameters_below b v h))

  reached_types : (b : ℕ) → IsReached s.before b → value_types_at s.after b ≡ value_types_at s.before b
  reached_types b is =
      let block : IsRewrittenBlock counts s members b = spills.text.reached b is in
      ap (λ (vs : List ℕ). map new_type vs) block.parameters ∙ parameter_types b

  same_block_types : (b : ℕ) → s.after.blocks b ≡ s.before.blocks b → value_types_at s.after b ≡ value_types_at s.before b
  same_block_types b same = ap (λ (block : BlockView). map new_type block.parameters) same ∙ parameter_types b

  -- ARGUMENTS -----------------------------------------------------------------------------------------------------------

  passed_type : (reloads : List Reload) (target place old new : ℕ) → IsPassedOn counts s reloads target place old new → new_type new ≡ old_type old
  passed_type reloads target place old new (inl read) = read.typed aliases
  passed_type reloads target place old new (inr left) = left.1.typed aliases

  straight_types : (results payload : List «Type») (reloads : List Reload) (target place : ℕ) (olds news : List (Argument ℕ))
      → AreArguments counts s reloads target place olds news
      → map (argument_type new_type results payload) news ≡ map (argument_type old_type results payload) olds
  straight_types results payload reloads target place [] [] are = refl
  straight_types results payload reloads target place [] (new ∷ news) are = absurd are
  straight_types results payload reloads target place (old ∷ olds) [] are = absurd are
  straight_types results payload reloads target place (Known old ∷ olds) (Known new ∷ news) are =
      λ i. Some (passed_type reloads target place old new are.0 i) ∷ straight_types results payload reloads target (suc place) olds news are.1 i
  straight_types results payload reloads target place (CallResult k ∷ olds) (CallResult l ∷ news) are =
      λ i. slice_get results (sym are.0 i) ∷ straight_types results payload reloads target (suc place) olds news are.1 i
  straight_types results payload reloads target place (CallPayload k ∷ olds) (CallPayload l ∷ news) are =
      λ i. slice_get payload (sym are.0 i) ∷ straight_types results payload reloads target (suc place) olds news are.1 i
  straight_types results payload reloads target place (Known old ∷ olds) (CallResult l ∷ news) are = absurd are.0
  straight_types results payload reloads target place (Known old ∷ olds) (CallPayload l ∷ news) are = absurd are.0
  straight_types results payload reloads target place (CallResult k ∷ olds) (Known new ∷ news) are = absurd are.0
  straight_types results payload reloads target place (CallResult k ∷ olds) (CallPayload l ∷ news) are = absurd are.0
  straight_types results payload reloads target place (CallPayload k ∷ olds) (Known new ∷ news) are = absurd are.0
  straight_types results payload reloads target place (CallPayload k ∷ olds) (CallResult l ∷ news) are = absurd are.0

  -- LANDING BLOCKS ------------------------------------------------------------------------------------------------------

  module _ (call : CallShape) (results payload : List «Type») (own : GivesOwn call results payload) where
    abbrev old_argument : Argument ℕ → Option «Type»
    old_argument = argument_type old_type results payload

    -- what the edge passes of the call's own has the types that it has by the call
    own_matches : (olds : List (Argument ℕ)) (tys : List «Type») → map old_argument olds ≡ map (λ ty. Some ty) tys
        → map (argument_type new_type results payload) (own_arguments olds) ≡ map (λ ty. Some ty) (map (own_type call) (own_arguments olds))
    own_matches [] tys match = refl
    own_matches (old ∷ olds) [] match = absurd (not_empty (old_argument old) (map old_argument olds) match)
    own_matches (Known old ∷ olds) (ty ∷ tys) match =
        own_matches olds tys (rest_is (old_argument (Known old)) (Some ty) (map old_argument olds) (map (λ ty. Some ty) tys) match)
    own_matches (CallResult k ∷ olds) (ty ∷ tys) match =
        let here = first_is (old_argument (CallResult k)) (Some ty) (map old_argument olds) (map (λ ty. Some ty) tys) match in
        let more = own_matches olds tys (rest_is (old_argument (CallResult k)) (Some ty) (map old_argument olds) (map (λ ty. Some ty) tys) match) in
        λ i. (here ∙ ap (λ (x : «Type»). Some x) (sym (own.0 k ty here))) i ∷ more i
    own_matches (CallPayload k ∷ olds) (ty ∷ tys) match =
        let here = first_is (old_argument (CallPayload k)) (Some ty) (map old_argument olds) (map (λ ty. Some ty) tys) match in
        let more = own_matches olds tys (rest_is (old_argument (CallPayload k)) (Some ty) (map old_argument olds) (map (λ ty. Some ty) tys) match) in
        λ i. (here ∙ ap (λ (x : «Type»). Some x) (sym (own.1 k ty here))) i ∷ more i

    -- what the jump of the landing block passes has the types that the edge passed
    landed_types : (reloads : List Reload) (target place : ℕ) (olds : List (Argument ℕ)) (params : List ℕ) (news : List (Argument ℕ)) (tys : List «Type»)
        → AreLanded counts s reloads target place olds params news → map old_argument olds ≡ map (λ ty. Some ty) tys
        → map new_type params ≡ map (own_type call) (own_arguments olds)
        → map (argument_type new_type [] []) news ≡ map old_argument olds
    landed_types reloads target place [] params news tys are match types = ap (λ (xs : List (Argument ℕ)). map (argument_type new_type [] []) xs) are
    landed_types reloads target place (old ∷ olds) params news [] are match types = absurd (not_empty (old_argument old) (map old_argument olds) match)
    landed_types reloads target place (Known old ∷ olds) params [] (ty ∷ tys) are match types = absurd are
    landed_types reloads target place (Known old ∷ olds) params (CallResult l ∷ news) (ty ∷ tys) are match types = absurd are
    landed_types reloads target place (Known old ∷ olds) params (CallPayload l ∷ news) (ty ∷ tys) are match types = absurd are
    landed_types reloads target place (Known old ∷ olds) params (Known new ∷ news) (ty ∷ tys) are match types =
        let more = landed_types reloads target (suc place) olds params news tys are.1
        (rest_is (old_argument (Known old)) (Some ty) (map old_argument olds) (map (λ ty. Some ty) tys) match) types in
        λ i. Some (passed_type reloads target place old new are.0 i) ∷ more i
    landed_types reloads target place (CallResult k ∷ olds) [] news (ty ∷ tys) are match types = absurd are
    landed_types reloads target place (CallResult k ∷ olds) (param ∷ params) [] (ty ∷ tys) are match types = absurd are
    landed_types reloads target place (CallResult k ∷ olds) (param ∷ params) (CallResult l ∷ news) (ty ∷ tys) are match types = absurd are
    landed_types reloads target place (CallResult k ∷ olds) (param ∷ params) (CallPayload l ∷ news) (ty ∷ tys) are match types = absurd are
    landed_types reloads target place (CallResult k ∷ olds) (param ∷ params) (Known new ∷ news) (ty ∷ tys) are match types =
        let here = first_is (old_argument (CallResult k)) (Some ty) (map old_argument olds) (map (λ ty. Some ty) tys) match in
        let has : new_type param ≡ own_type call (CallResult k) =
        first_is (new_type param) (own_type call (CallResult k)) (map new_type params) (map (own_type call) (own_arguments olds)) types in
        let more = landed_types reloads target (suc place) olds params news tys are.1
        (rest_is (old_argument (CallResult k)) (Some ty) (map old_argument olds) (map (λ ty. Some ty) tys) match)
        (rest_is (new_type param) (own_type call (CallResult k)) (map new_type params) (map (own_type call) (own_arguments olds)) types) in
        λ i. (ap (λ (x : «Type»). Some x) (ap new_type are.0 ∙ has ∙ own.0 k ty here) ∙ sym here) i ∷ more i
    landed_types reloads target place (CallPayload k ∷ olds) [] news (ty ∷ tys) are match types = absurd are
    landed_types reloads target place (CallPayload k ∷ olds) (param ∷ params) [] (ty ∷ tys) are match types = absurd are
    landed_types reloads target place (CallPayload k ∷ olds) (param ∷ params) (CallResult l ∷ news) (ty ∷ tys) are match types = absurd are
    landed_types reloads target place (CallPayload k ∷ olds) (param ∷ params) (CallPayload l ∷ news) (ty ∷ tys) are match types = absurd are
    landed_types reloads target place (CallPayload k ∷ olds) (param ∷ params) (Known new ∷ news) (ty ∷ tys) are match types =
        let here = first_is (old_argument (CallPayload k)) (Some ty) (map old_argument olds) (map (λ ty. Some ty) tys) match in
        let has : new_type param ≡ own_type call (CallPayload k) =
        first_is (new_type param) (own_type call (CallPayload k)) (map new_type params) (map (own_type call) (own_arguments olds)) types in
        let more = landed_types reloads target (suc place) olds params news tys are.1
        (rest_is (old_argument (CallPayload k)) (Some ty) (map old_argument olds) (map (λ ty. Some ty) tys) match)
        (rest_is (new_type param) (own_type call (CallPayload k)) (map new_type params) (map (own_type call) (own_arguments olds)) types) in
        λ i. (ap (λ (x : «Type»). Some x) (ap new_type are.0 ∙ has ∙ own.1 k ty here) ∙ sym here) i ∷ more i

    edge_lands : (old new : Edge ℕ ℕ) → Lands counts s call old new → OldMatches results payload old → NewMatches results payload new
    edge_lands old new lands match =
        ap (λ (xs : List (Argument ℕ)). map (argument_type new_type results payload) xs) lands.arguments
        ∙ own_matches old.arguments (value_types_at s.before old.target) match
        ∙ ap (λ (tys : List «Type»). map (λ (ty : «Type»). Some ty) tys) (sym lands.types)

    -- the jump of the landing block
    jump_matches : (old new : Edge ℕ ℕ) (lands : Lands counts s call old new) → IsReached s.before old.target → OldMatches results payload old
        → NewMatches [] [] (record { target = old.target; arguments = lands.passed })
    jump_matches old new lands reached match =
        landed_types lands.reloads old.target 0 old.arguments (s.after.blocks new.target).parameters lands.passed (value_types_at s.before old.target)
        lands.landed match lands.types
        ∙ match
        ∙ ap (λ (tys : List «Type»). map (λ (ty : «Type»). Some ty) tys) (sym (reached_types old.target reached))

  -- EDGES ---------------------------------------------------------------------------------------------------------------

  edge_straight : (results payload : List «Type») (reloads : List Reload) (old new : Edge ℕ ℕ) → IsReached s.before old.target
      → LeadsStraight counts s reloads old new → OldMatches results payload old → NewMatches results payload new
  edge_straight results payload reloads old new reached led match =
      straight_types results payload reloads old.target 0 old.arguments new.arguments led.arguments
      ∙ match
      ∙ ap (λ (tys : List «Type»). map (λ (ty : «Type»). Some ty) tys) (sym (reached_types old.target reached))
      ∙ ap (λ (t : ℕ). map (λ (ty : «Type»). Some ty) (value_types_at s.after t)) (sym led.target)

  edge_of_call : (call : CallShape) (results payload : List «Type») → GivesOwn call results payload → (reloads : List Reload) (old new : Edge ℕ ℕ)
      → IsReached s.before old.target → IsLedOn counts s (Some call) reloads old new → OldMatches results payload old → NewMatches results payload new
  edge_of_call call results payload own reloads old new reached (inl led) match = edge_straight results payload [] old new reached led match
  edge_of_call call results payload own reloads old new reached (inr lands) match = edge_lands call results payload own old new lands match

  -- the edges of an instruction: those before lead to blocks that are reached
  all_edges : (results payload : List «Type») (Led : Edge ℕ ℕ → Edge ℕ ℕ → Type 0)
      → ((old new : Edge ℕ ℕ) → IsReached s.before old.target → Led old new → OldMatches results payload old → NewMatches results payload new)
      → (olds news : List (Edge ℕ ℕ)) → ((edge : Edge ℕ ℕ) → Contains olds edge → IsReached s.before edge.target) → AllZip Led olds news
      → AllByRecursion (OldMatches results payload) olds → AllByRecursion (NewMatches results payload) news
  all_edges results payload Led each [] [] reached led match = tt
  all_edges results payload Led each [] (new ∷ news) reached led match = absurd led
  all_edges results payload Led each (old ∷ olds) [] reached led match = absurd led
  all_edges results payload Led each (old ∷ olds) (new ∷ news) reached led match = (
    each old new (reached old (contains_first old olds)) led.0 match.0,
    all_edges results payload Led each olds news (λ edge h. reached edge (contains_more old edge olds h)) led.1 match.1,
  )

  edges_match : (made : Option CallShape) (reloads : List Reload) (olds news : List (Edge ℕ ℕ))
      → ((edge : Edge ℕ ℕ) → Contains olds edge → IsReached s.before edge.target) → AllZip (IsLedOn counts s made reloads) olds news
      → EachEdgeMatches old_type (value_types_at s.before) made olds → EachEdgeMatches new_type (value_types_at s.after) made news
  edges_match None reloads olds news reached led match =
      all_edges [] [] (IsLedOn counts s None reloads) (edge_straight [] [] reloads) olds news reached led match
  edges_match (Some call) reloads [] [] reached led match = tt
  edges_match (Some call) reloads [] (new ∷ news) reached led match = absurd led
  edges_match (Some call) reloads (old ∷ olds) [] reached led match = absurd led
  edges_match (Some call) reloads (old ∷ olds) (new ∷ news) reached led match = (
    edge_of_call call (types_of call.signature.returns) [] (normal_own call) reloads old new (reached old (contains_first old olds)) led.0 match.0,
    all_edges [] payload_types (IsLedOn counts s (Some call) reloads) (edge_of_call call [] payload_types (item_own call) reloads) olds news
        (λ edge h. reached edge (contains_more old edge olds h)) led.1 match.1,
  )

  -- BLOCKS THAT ARE REACHED ---------------------------------------------------------------------------------------------

  reloads_match : (reloads : List Reload) (rest : List Placed) → AllMatch rest → AllMatch (reload_items s reloads rest)
  reloads_match [] rest match = match
  reloads_match (x ∷ reloads) rest match = (tt, (tt, reloads_match reloads rest match))

  stores_match : (stores : List SlotAccess) (rest : List Placed) → AllMatch rest → AllMatch (store_items s stores rest)
  stores_match [] rest match = match
  stores_match (a ∷ stores) rest match = (tt, (tt, stores_match stores rest match))

  abbrev items_at : ℕ → List Placed
  items_at block = (s.before.blocks block).items

  leads_to : (p : Place ℕ) (placed : Placed) (edge : Edge ℕ ℕ) → IsReachable (function_flow s.before) p → placed_at s.before p ≡ Some placed
      → Contains placed.instruction.edges edge → IsReached s.before edge.target
  leads_to p placed edge reachable there h =
      inr (
        p,
        reachable,
        subst (λ o. Contains (placed_targets o) edge.target) (sym there)
            (contains_map (λ (e : Edge ℕ ℕ). e.target) placed.instruction.edges edge h),
      )

  rewritten_match : (block : ℕ) → IsReached s.before block → (index : ℕ) (olds code : List Placed) → drop index (items_at block) ≡ olds
      → AreRewritten counts s members block index olds code
      → AllByRecursion (λ placed. EachEdgeMatches old_type (value_types_at s.before) (call_shape placed.instruction.operation) placed.instruction.edges) olds
      → AllMatch code
  rewritten_match block reached index [] code rest is match = subst AllMatch (sym is) tt
  rewritten_match block reached index (old ∷ olds) code rest item match =
      subst AllMatch (sym item.code_is)
      (reloads_match item.reloads (item.new ∷ store_items s item.stores item.rest) (
        subst (λ (operation : Operation). EachEdgeMatches new_type (value_types_at s.after) (call_shape operation) item.new.instruction.edges)
            (sym item.is_kept.operation)
            (edges_match (call_shape old.instruction.operation) item.reloads old.instruction.edges item.new.instruction.edges
            (λ edge h. leads_to (place_at block index) old edge (in_reached s.before block reached index here.0) here.1 h) item.is_kept.edges match.0),
        stores_match item.stores item.rest (rewritten_match block reached (suc index) olds item.rest here.2 item.goes_on match.1),
      ))
    where
      here : (index < length (items_at block)) × (slice_get (items_at block) index ≡ Some old) × (drop (suc index) (items_at block) ≡ olds)
      here = dropped (items_at block) index old olds rest

  reached_match : EdgesMatch s.before → (block : ℕ) → IsReached s.before block → AllMatch (s.after.blocks block).items
  reached_match match block reached = by (items_at block) refl (match block) (is.items)
    where
      is : IsRewrittenBlock counts s members block
      is = spills.text.reached block reached

      by : (items : List Placed) → items_at block ≡ items
          → AllByRecursion (λ placed. EachEdgeMatches old_type (value_types_at s.before) (call_shape placed.instruction.operation) placed.instruction.edges) items
          → AreItemsOf counts s members block items (s.after.blocks block).items → AllMatch (s.after.blocks block).items
      by [] same matched none = subst AllMatch (sym none) tt
      by (first ∷ more) same matched written =
          subst AllMatch (sym written.code_is)
          (stores_match written.stores written.rest
          (rewritten_match block reached 0 (first ∷ more) written.rest (drop_none (items_at block) ∙ same) written.rewritten matched))

  -- OTHER BLOCKS --------------------------------------------------------------------------------------------------------

  landing_match : EdgesMatch s.before → (block : ℕ) → IsLandingBlock counts s block → AllMatch (s.after.blocks block).items
  landing_match match block is =
      subst (λ (b : ℕ). AllMatch (s.after.blocks b).items) is.target
      (subst AllMatch (sym is.lands.items)
      (reloads_match is.lands.reloads (jump_item is.old.target is.lands.passed ∷ [])
      ((jump_matches is.call found.results found.payload found.own is.old is.new is.lands (leads_to is.place is.placed is.old is.reachable is.there is.is_edge) found.match, tt), tt)))
    where
      of_call : EachEdgeMatches old_type (value_types_at s.before) (Some is.call) is.placed.instruction.edges
      of_call =
          subst (λ (made : Option CallShape). EachEdgeMatches old_type (value_types_at s.before) made is.placed.instruction.edges) is.is_call
          (member_holds (λ (placed : Placed). EachEdgeMatches old_type (value_types_at s.before) (call_shape placed.instruction.operation) placed.instruction.edges)
          (items_at is.place.block) is.placed (match is.place.block) (contains_at (items_at is.place.block) is.place.index is.placed is.there))

      found : MatchesAs is.call old_type (value_types_at s.before) is.old
      found = which_edge is.call old_type (value_types_at s.before) is.placed.instruction.edges is.old of_call is.is_edge

  module _ (inside : LeadsInside counts s) where
    -- an argument keeps its type where it is a value of the function before
    kept_types : (results payload : List «Type») (arguments : List (Argument ℕ)) → ((v : ℕ) → Contains arguments (Known v) → v < s.count)
        → map (argument_type new_type results payload) arguments ≡ map (argument_type old_type results payload) arguments
    kept_types results payload arguments below =
        map_alike (argument_type new_type results payload) (argument_type old_type results payload) arguments (λ a h. by a h)
      where
        by : (a : Argument ℕ) → Contains arguments a → argument_type new_type results payload a ≡ argument_type old_type results payload a
        by (Known v) h = ap (λ (ty : «Type»). Some ty) (spills.types v (below v h))
        by (CallResult k) h = refl
        by (CallPayload k) h = refl

    -- of a block that isn't reached
    kept_edge : (block : ℕ) (placed : Placed) → (IsReached s.before block → ⊥) → Contains (items_at block) placed
        → (results payload : List «Type») (edge : Edge ℕ ℕ) → Contains placed.instruction.edges edge → OldMatches results payload edge → NewMatches results payload edge
    kept_edge block placed unreached h results payload edge is_edge match =
        stable_edge new_type (value_types_at s.after) results payload edge (λ no.
        no (matches (other (spills.text.others edge.target (λ reached. no (matches (reached_types edge.target reached)))))))
      where
        matches : value_types_at s.after edge.target ≡ value_types_at s.before edge.target → NewMatches results payload edge
        matches same =
            kept_types results payload edge.arguments (λ v g. inside.passes block placed edge v unreached h is_edge g)
            ∙ match
            ∙ ap (λ (tys : List «Type»). map (λ (ty : «Type»). Some ty) tys) (sym same)

        other : (s.after.blocks edge.target ≡ s.before.blocks edge.target) ⊎ IsLandingBlock counts s edge.target
            → value_types_at s.after edge.target ≡ value_types_at s.before edge.target
        other (inl same) = same_block_types edge.target same
        other (inr landing) = absurd (inside.leads block placed edge unreached h is_edge landing)

    kept_items : (block : ℕ) → (IsReached s.before block → ⊥) → (items : List Placed) → ((placed : Placed) → Contains items placed → Contains (items_at block) placed)
        → AllByRecursion (λ placed. EachEdgeMatches old_type (value_types_at s.before) (call_shape placed.instruction.operation) placed.instruction.edges) items
        → AllMatch items
    kept_items block unreached [] among match = tt
    kept_items block unreached (placed ∷ items) among match = (
      each_edge_of old_type new_type (value_types_at s.before) (value_types_at s.after) (call_shape placed.instruction.operation) placed.instruction.edges
          (kept_edge block placed unreached (among placed (contains_first placed items))) match.0,
      kept_items block unreached items (λ x h. among x (contains_more placed x items h)) match.1,
    )

    unreached_match : EdgesMatch s.before → (block : ℕ) → (IsReached s.before block → ⊥) → AllMatch (s.after.blocks block).items
    unreached_match match block unreached = by (spills.text.others block unreached)
      where
        by : (s.after.blocks block ≡ s.before.blocks block) ⊎ IsLandingBlock counts s block → AllMatch (s.after.blocks block).items
        by (inl same) =
            subst (λ (b : BlockView). AllMatch b.items) (sym same) (kept_items block unreached (items_at block) (λ placed h. h) (match block))
        by (inr landing) = landing_match match block landing

    all_match : EdgesMatch s.before → (block : ℕ) → AllMatch (s.after.blocks block).items
    all_match match block =
        stable_all Match (λ placed. stable_edges new_type (value_types_at s.after) (call_shape placed.instruction.operation) placed.instruction.edges)
        (s.after.blocks block).items (λ no.
        no (unreached_match match block (λ reached. no (reached_match match block reached))))

pub edges_stay_matched : EdgesStayMatched
edges_stay_matched counts members s spills once aliases inside match = all_match counts members s spills once aliases inside match
