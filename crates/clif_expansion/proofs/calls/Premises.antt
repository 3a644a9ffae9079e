-- What the premises ask of branches, tracked names and edges goes from a script's calls to their plain calls.
use Rattle.std.proofs.Common.{◌≡◌, ◌⊎◌, inl, inr, ℕ, suc, true, List, [], ◌∷◌, length, map, refl, sym, ◌∙◌, ap, subst, Option, Some, None}
use Rattle.std.specs.Prelude.{Contains, IsTrue, slice_get}
use Rattle.std.specs.List.{AllByRecursion, AllZip}
use Rattle.clif_types.specs.declared.types.«Type».{«Type»}
use Rattle.clif_meaning.specs.Event.{CallShape, payload_types}
use Rattle.clif_meaning.specs.Instruction.{Argument, Known, CallResult, CallPayload, Edge, Instruction, Operation, Switch}
use Rattle.clif_meaning.specs.Ledger.{Ledger, VariableState, has_block, is_filled, is_marked, ledger_after, marked, or_invalid, type_of}
use Rattle.clif_meaning.specs.Name.{Name}
use Rattle.clif_meaning.specs.Premises.{EachItem, HasGoodTargets, IsGoodTarget, ItemEdgesMatch, KeepsTrackedApart, parameter_types}
use Rattle.clif_meaning.specs.Program.{Program, Item, Instruct, Use, Assign, program_of, result_names}
use Rattle.clif_meaning.specs.Request.{Script}
use Rattle.clif_meaning.specs.Tracked.{is_tracked, tracked_from}
use Rattle.clif_meaning.specs.Typing.{EachEdgeMatches, EdgeMatches, argument_type, call_shape}
use Rattle.clif_meaning.specs.WellPlaced.{item_targets}
use Rattle.clif_tables.specs.Callees.{types_of}
use Rattle.clif_expansion.specs.Emission.{StaysInLine}
use Rattle.clif_expansion.specs.Expansion.{IsReadBlock}
use Rattle.clif_expansion.specs.JoinedCalls.{AreJoinedCalls}
use Rattle.clif_expansion.specs.JoinedPrograms.{DecidesAlong, IsDecider, IsDecidingItem, built_items}
use Rattle.clif_expansion.specs.CallsRun.{calls_track, tracked_by_calls}
use Rattle.clif_expansion.specs.Joining.{IsJoined}
use Rattle.clif_expansion.specs.Reading.{Agree, IsReadArgument, IsReadAs, IsReadEdge, IsReadItem, Reading}
use Rattle.clif_expansion.specs.ScriptCall.{ScriptCall, emitted_item, ledger_of, program_of_calls}
use Rattle.clif_expansion.specs.Switching.{targets_of}
use Rattle.clif_expansion.specs.Walk.{IsGenerated}
use Rattle.clif_expansion.proofs.CalledPrograms.{OwnItems}
use Rattle.clif_expansion.proofs.JoinedCalls.{joined_calls}
use Rattle.clif_expansion.proofs.JoinedPrograms.{IsCalledSo}
use Rattle.clif_expansion.proofs.JoinedRuns
use Rattle.clif_expansion.proofs.JoinedStates.{any_read, maps_same}
use Rattle.clif_expansion.proofs.Names.{each_read, not_generated, same_script}
use Rattle.clif_expansion.proofs.Placing.{contained_in, none_contained, of_contained}
use Rattle.clif_expansion.proofs.ProgramsOfCalls.{GoesSo, go, joined_programs, none_known, nothing}
use Rattle.clif_expansion.proofs.ReadConditions
use Rattle.clif_expansion.proofs.calls.Blocks.{all_read, each_item}
use Rattle.clif_expansion.proofs.calls.Deciders.{IsKnownCode, IsKnownItem, each_decided, known_lasts, no_call, own_filled}

-- LINES -------------------------------------------------------------------------------------------------------------------

-- of code in a line
pub all_in_line : (Q : Item → Type 0) → ((place : ℕ) (instruction : Instruction Name Name) → StaysInLine instruction → Q (Instruct place instruction (result_names place instruction)))
    → (place : ℕ) (code : List (Instruction Name Name)) → AllByRecursion StaysInLine code → AllByRecursion Q (built_items place code)
all_in_line Q each place [] line = tt
all_in_line Q each place (instruction ∷ code) line = (each place instruction line.0, all_in_line Q each (suc place) code line.1)

pub none_match : (types : Name → «Type») (parameters : Name → List «Type») (shape : Option CallShape) → EachEdgeMatches types parameters shape []
none_match types parameters None = tt
none_match types parameters (Some call) = tt

-- EDGES -------------------------------------------------------------------------------------------------------------------

module _ (reading : Reading) (types' types : Name → «Type») (agree : Agree reading types' types) (parameters' parameters : Name → List «Type»)
    (same : (x block : Name) → IsReadAs reading x block → parameters' x ≡ parameters block) where
  argument_same : (results payload : List «Type») (argument' argument : Argument Name) → IsReadArgument reading argument' argument
      → argument_type types' results payload argument' ≡ argument_type types results payload argument
  argument_same results payload (Known x) (Known name) is = ap (λ (ty : «Type»). Some ty) (agree x name is)
  argument_same results payload (CallResult k) (CallResult index) is = ap (slice_get results) is
  argument_same results payload (CallPayload k) (CallPayload index) is = ap (slice_get payload) is
  argument_same results payload _ _ is = absurd is

  edge_matches : (results payload : List «Type») (edge' edge : Edge Name Name) → IsReadEdge reading edge' edge
      → EdgeMatches types parameters results payload edge → EdgeMatches types' parameters' results payload edge'
  edge_matches results payload edge' edge is match =
      maps_same (IsReadArgument reading) (argument_type types' results payload) (argument_type types results payload) (argument_same results payload) edge'.arguments edge.arguments is.arguments
      ∙ match ∙ ap (λ (tys : List «Type»). map (λ ty. Some ty) tys) (sym (same edge'.target edge.target is.target))

  all_match : (results payload : List «Type») (edges' edges : List (Edge Name Name)) → AllZip (IsReadEdge reading) edges' edges
      → AllByRecursion (EdgeMatches types parameters results payload) edges → AllByRecursion (EdgeMatches types' parameters' results payload) edges'
  all_match results payload [] [] are match = tt
  all_match results payload [] (edge ∷ edges) are match = absurd are
  all_match results payload (edge' ∷ edges') [] are match = absurd are
  all_match results payload (edge' ∷ edges') (edge ∷ edges) are match = (edge_matches results payload edge' edge are.0 match.0, all_match results payload edges' edges are.1 match.1)

  pub each_matches : (shape : Option CallShape) (edges' edges : List (Edge Name Name)) → AllZip (IsReadEdge reading) edges' edges
      → EachEdgeMatches types parameters shape edges → EachEdgeMatches types' parameters' shape edges'
  each_matches None edges' edges are match = all_match [] [] edges' edges are match
  each_matches (Some call) [] [] are match = tt
  each_matches (Some call) [] (edge ∷ edges) are match = absurd are
  each_matches (Some call) (edge' ∷ edges') [] are match = absurd are
  each_matches (Some call) (edge' ∷ edges') (edge ∷ edges) are match =
      (edge_matches (types_of call.signature.returns) [] edge' edge are.0 match.0, all_match [] payload_types edges' edges are.1 match.1)

-- JOINED CALLS ------------------------------------------------------------------------------------------------------------

module _ (reading : Reading) (plain : Script) (calls : List ScriptCall) (are : AreJoinedCalls reading plain calls) where
  abbrev ledger' : Ledger
  ledger' = ledger_after plain

  abbrev ledger : Ledger
  ledger = ledger_of calls

  abbrev program' : Program
  program' = program_of plain

  abbrev program : Program
  program = program_of_calls calls

  pub joined : IsJoined reading ledger' ledger
  joined = joined_calls reading plain calls are

  abbrev pub types' : Name → «Type»
  types' x = or_invalid (type_of ledger' x)

  abbrev pub types : Name → «Type»
  types x = or_invalid (type_of ledger x)

  pub agree : Agree reading types' types
  agree x name is = ap or_invalid (ReadConditions.type_same reading ledger' ledger joined.ledgers joined.one_to_one x name is)

  pub parameters_same : (x block : Name) → IsReadAs reading x block → parameter_types ledger' program' x ≡ parameter_types ledger program block
  parameters_same x block is = each_read reading types' types agree (program'.parameters x) (program.parameters block) ((joined_programs reading plain calls are).parameters x block is)

  pub marks : (v : ℕ) → is_marked ledger' v ≡ is_marked ledger v
  marks v = ap (λ (variables : List VariableState). marked (slice_get variables v)) joined.ledgers.states.variables

  -- the programs, with what is known of code that decides
  abbrev Goes : Type 0
  Goes = GoesSo nothing (λ a b c d e f g. tt) (IsKnownCode ledger' types') (known_lasts ledger' types') (IsKnownItem ledger' types') reading plain calls

  goes : Goes
  goes =
      go nothing (λ a b c d e f g. tt) (IsKnownCode ledger' types') (known_lasts ledger' types') (IsKnownItem ledger' types') reading plain calls are
      (each_decided ledger' types' nothing (λ a b c d e f g. tt) reading plain calls are (λ x ty is. ap or_invalid is) (λ x there. there) (none_known reading plain calls are))

  abbrev Stands : List Item → Item → Type 0
  Stands = IsCalledSo nothing (IsKnownCode ledger' types') reading (length ledger.answers) program'

  -- what is asked of an item, and is asked of no code in a line, goes along, if it does so to what decides for a switch
  carried : (P Q : Item → Type 0) → ((plain item : Item) → IsReadItem reading plain item → P item → Q plain)
      → ((place : ℕ) (instruction : Instruction Name Name) → StaysInLine instruction → Q (Instruct place instruction (result_names place instruction)))
      → ((item : Item) (other : ℕ) (keys : List ℕ) (switch : Instruction Name Name) → switch.operation ≡ Switch keys → AllByRecursion (λ edge. edge.arguments ≡ []) switch.edges
      → item ≡ emitted_item other switch → P item → (place : ℕ) (instruction : Instruction Name Name) (results : List Name) → IsDecider reading item place instruction
      → IsKnownItem ledger' types' (Instruct place instruction results) → Q (Instruct place instruction results))
      → EachItem P program → EachItem Q program'
  carried P Q asked in_line deciding all =
      each_item Stands P Q each reading program' program goes.cut (all_read reading plain calls are) own all
    where
      decided : (code : List Item) (item : Item) (other : ℕ) (keys : List ℕ) (switch : Instruction Name Name) → switch.operation ≡ Switch keys → AllByRecursion (λ edge. edge.arguments ≡ []) switch.edges
          → item ≡ emitted_item other switch → P item → AllByRecursion (IsDecidingItem reading item) code → AllByRecursion (IsKnownItem ledger' types') code → AllByRecursion Q code
      decided [] item other keys switch is_switch bare emitted holds decides known = tt
      decided (Instruct place instruction results ∷ code) item other keys switch is_switch bare emitted holds decides known =
          (deciding item other keys switch is_switch bare emitted holds place instruction results decides.0 known.0, decided code item other keys switch is_switch bare emitted holds decides.1 known.1)
      decided (Use variable name ∷ code) item other keys switch is_switch bare emitted holds decides known = absurd decides.0
      decided (Assign variable name ∷ code) item other keys switch is_switch bare emitted holds decides known = absurd decides.0

      each : (code : List Item) (item : Item) → Stands code item → P item → AllByRecursion Q code
      each (plain ∷ []) item (inl is) holds = (asked plain item is.0 holds, tt)
      each [] item (inl is) holds = absurd is
      each (plain ∷ second ∷ code) item (inl is) holds = absurd is
      each code item (inr (inl (is, known))) holds = subst (AllByRecursion Q) (sym is.built) (all_in_line Q in_line is.place _ is.line)
      each code item (inr (inr is)) holds =
          decided code item is.switched.other is.switched.keys is.switched.switch is.switched.is_switch is.switched.nothing is.switched.emitted holds is.switched.decides is.decided

      own : (x : Name) → IsGenerated reading x → AllByRecursion Q (program'.items x)
      own x generated = by (goes.own x generated).1
        where
          by : (program'.items x ≡ []) ⊎ OwnItems nothing (λ a b c d e f g. tt) (IsKnownCode ledger' types') (known_lasts ledger' types') (IsKnownItem ledger' types') reading (length ledger.answers) program' program x
              → AllByRecursion Q (program'.items x)
          by (inl none) = subst (AllByRecursion Q) (sym none) tt
          by (inr items) =
              decided (program'.items x) items.item items.other items.keys items.switch items.is_switch items.nothing items.emitted (of_contained P (program.items items.block) items.item (all items.block) items.there)
              items.decides items.known

  -- among the edges of the switch there is one to the block
  edge_there : (P : Edge Name Name → Type 0) (edges : List (Edge Name Name)) (name : Name) → AllByRecursion P edges → Contains (targets_of edges) name
      → (edge : Edge Name Name) × (edge.target ≡ name) × P edge
  edge_there P [] name all there = absurd (none_contained name there)
  edge_there P (edge ∷ edges) name all there = by (contained_in edge.target (targets_of edges) name there) (edge_there P edges name all.1)
    where
      by : (edge.target ≡ name) ⊎ Contains (targets_of edges) name → (Contains (targets_of edges) name → (e : Edge Name Name) × (e.target ≡ name) × P e) → (e : Edge Name Name) × (e.target ≡ name) × P e
      by (inl same) rest = (edge, same, all.0)
      by (inr further) rest = rest further

  item_edge : (P : Edge Name Name → Type 0) (item : Item) (other : ℕ) (switch : Instruction Name Name) → item ≡ emitted_item other switch → (name : Name)
      → AllByRecursion P switch.edges → Contains (item_targets (Some item)) name → (edge : Edge Name Name) × (edge.target ≡ name) × P edge
  item_edge P item other switch emitted name all there =
      edge_there P switch.edges name all (subst (λ (i : Item). Contains (item_targets (Some i)) name) emitted there)

  -- targets
  leads_there : (entry' entry : Option Name) (x block : Name) → IsReadBlock reading entry' entry → IsReadAs reading x block → entry' ≡ Some x → entry ≡ Some block
  leads_there None None x block is read same = let no_way : ⊥ = cc in absurd no_way
  leads_there None (Some b) x block is read same = absurd is
  leads_there (Some y) None x block is read same = absurd is
  leads_there (Some y) (Some b) x block is read same =
      ap (λ (n : Name). Some n) (same_script b block (sym is ∙ ap (λ (o : Option Name). reading (name_in o)) same ∙ read))
    where
      name_in : Option Name → Name
      name_in None = y
      name_in (Some n) = n

  good_target : (edge' edge : Edge Name Name) → IsReadEdge reading edge' edge → IsGoodTarget ledger program edge → IsGoodTarget ledger' program' edge'
  good_target edge' edge is good = record {
    filled = ReadConditions.filled_same reading ledger' ledger joined.ledgers joined.one_to_one edge'.target edge.target is.target ∙ good.filled;
    no_entry = λ same. good.no_entry (leads_there program'.entry program.entry edge'.target edge.target (joined_programs reading plain calls are).entry is.target same);
  }

  good_targets : (edges' edges : List (Edge Name Name)) → AllZip (IsReadEdge reading) edges' edges → AllByRecursion (IsGoodTarget ledger program) edges → AllByRecursion (IsGoodTarget ledger' program') edges'
  good_targets [] [] read all = tt
  good_targets [] (edge ∷ edges) read all = absurd read
  good_targets (edge' ∷ edges') [] read all = absurd read
  good_targets (edge' ∷ edges') (edge ∷ edges) read all = (good_target edge' edge read.0 all.0, good_targets edges' edges read.1 all.1)

  targets_read : (plain item : Item) → IsReadItem reading plain item → HasGoodTargets ledger program item → HasGoodTargets ledger' program' plain
  targets_read (Instruct place instruction' given) (Instruct other instruction results) is good = good_targets instruction'.edges instruction.edges is.0.edges good
  targets_read (Use number x) (Use variable name) is good = tt
  targets_read (Assign number x) (Assign variable name) is good = tt
  targets_read _ _ is good = absurd is

  -- the entry isn't generated
  own_no_entry : (entry' entry : Option Name) (x : Name) → IsReadBlock reading entry' entry → IsGenerated reading x → entry' ≡ Some x → ⊥
  own_no_entry None None x read own same = let no_way : ⊥ = cc in no_way
  own_no_entry None (Some b) x read own same = read
  own_no_entry (Some y) None x read own same = read
  own_no_entry (Some y) (Some b) x read own same = not_generated reading y b read (ap (λ (o : Option Name). reading (name_in o)) same ∙ own)
    where
      name_in : Option Name → Name
      name_in None = y
      name_in (Some n) = n

  edges_good : (item : Item) (other : ℕ) (switch : Instruction Name Name) → item ≡ emitted_item other switch → HasGoodTargets ledger program item → (edges : List (Edge Name Name))
      → AllByRecursion (DecidesAlong reading item) edges → AllByRecursion (λ edge. IsTrue (has_block ledger' edge.target)) edges → AllByRecursion (IsGoodTarget ledger' program') edges
  edges_good item other switch emitted good [] decides there = tt
  edges_good item other switch emitted good (edge ∷ edges) decides there = (by decides.0.leads, edges_good item other switch emitted good edges decides.1 there.1)
    where
      by : IsGenerated reading edge.target ⊎ ((name : Name) × IsReadAs reading edge.target name × Contains (item_targets (Some item)) name) → IsGoodTarget ledger' program' edge
      by (inl own) = record {
        filled = own_filled reading ledger' ledger joined.ledgers edge.target own there.0;
        no_entry = λ same. own_no_entry program'.entry program.entry edge.target (joined_programs reading plain calls are).entry own same;
      }
      by (inr (name, read, among)) =
          let found = item_edge (IsGoodTarget ledger program) item other switch emitted name (subst (HasGoodTargets ledger program) emitted good) among in
          record {
            filled = ReadConditions.filled_same reading ledger' ledger joined.ledgers joined.one_to_one edge.target name read ∙ subst (λ (x : Name). is_filled ledger x ≡ true) found.1 found.2.filled;
            no_entry = λ same. found.2.no_entry (leads_there program'.entry program.entry edge.target name (joined_programs reading plain calls are).entry read same ∙ ap (λ (n : Name). Some n) (sym found.1));
          }

  pub targets_filled : EachItem (HasGoodTargets ledger program) program → EachItem (HasGoodTargets ledger' program') program'
  targets_filled all =
      carried (HasGoodTargets ledger program) (HasGoodTargets ledger' program') targets_read
      (λ place instruction stays. subst (AllByRecursion (IsGoodTarget ledger' program')) (sym stays.no_edges) tt)
      (λ item other keys switch is_switch bare emitted good place instruction results decides known. edges_good item other switch emitted good instruction.edges decides.edges known.1) all

  -- tracked names
  tracked_same : (x name : Name) → IsReadAs reading x name → is_tracked plain x ≡ calls_track calls name
  tracked_same x name is =
      any_read reading joined.one_to_one x name (tracked_from ledger' 0 plain) (tracked_by_calls ledger 0 calls) is
      (JoinedRuns.tracked ledger' ledger marks reading plain calls are)

  apart_read : (plain_item item : Item) → IsReadItem reading plain_item item → KeepsTrackedApart ledger (calls_track calls) item → KeepsTrackedApart ledger' (is_tracked plain) plain_item
  apart_read (Instruct place instruction' given) (Instruct other instruction results) is keeps = tt
  apart_read (Use number x) (Use variable name) is keeps = λ tracked. marks number ∙ ap (is_marked ledger) is.0 ∙ keeps (sym (tracked_same x name is.1) ∙ tracked)
  apart_read (Assign number x) (Assign variable name) is keeps = λ tracked. marks number ∙ ap (is_marked ledger) is.0 ∙ keeps (sym (tracked_same x name is.1) ∙ tracked)
  apart_read _ _ is keeps = absurd is

  pub tracked_apart : EachItem (KeepsTrackedApart ledger (calls_track calls)) program → EachItem (KeepsTrackedApart ledger' (is_tracked plain)) program'
  tracked_apart all = carried (KeepsTrackedApart ledger (calls_track calls)) (KeepsTrackedApart ledger' (is_tracked plain)) apart_read (λ place instruction stays. tt)
      (λ item other keys switch is_switch bare emitted good place instruction results decides known. tt) all

  -- edges
  edges_read : (plain item : Item) → IsReadItem reading plain item → ItemEdgesMatch ledger program item → ItemEdgesMatch ledger' program' plain
  edges_read (Instruct place instruction' given) (Instruct other instruction results) is match =
      subst (λ (shape : Option CallShape). EachEdgeMatches types' (parameter_types ledger' program') shape instruction'.edges) (sym (ap call_shape is.0.operation))
      (each_matches reading types' types agree (parameter_types ledger' program') (parameter_types ledger program) parameters_same (call_shape instruction.operation) instruction'.edges instruction.edges is.0.edges match)
  edges_read (Use number x) (Use variable name) is match = tt
  edges_read (Assign number x) (Assign variable name) is match = tt
  edges_read _ _ is match = absurd is

  -- a block to which nothing is passed has no parameters
  none_taken : (tys : List «Type») → [] ≡ map (λ (ty : «Type»). Some ty) tys → tys ≡ []
  none_taken [] same = refl
  none_taken (ty ∷ tys) same = let no_way : ⊥ = cc in absurd no_way

  switch_edges : (item : Item) (other : ℕ) (keys : List ℕ) (switch : Instruction Name Name) → switch.operation ≡ Switch keys → item ≡ emitted_item other switch
      → ItemEdgesMatch ledger program item → AllByRecursion (EdgeMatches types (parameter_types ledger program) [] []) switch.edges
  switch_edges item other keys switch is_switch emitted match =
      subst (λ (operation : Operation). EachEdgeMatches types (parameter_types ledger program) (call_shape operation) switch.edges) is_switch (subst (ItemEdgesMatch ledger program) emitted match)

  target_bare : (item : Item) (other : ℕ) (keys : List ℕ) (switch : Instruction Name Name) → switch.operation ≡ Switch keys → AllByRecursion (λ edge. edge.arguments ≡ []) switch.edges
      → item ≡ emitted_item other switch → ItemEdgesMatch ledger program item → (edge : Edge Name Name) → DecidesAlong reading item edge → parameter_types ledger' program' edge.target ≡ []
  target_bare item other keys switch is_switch bare emitted match edge along = by along.leads
    where
      both : (edges : List (Edge Name Name)) → AllByRecursion (λ edge. edge.arguments ≡ []) edges → AllByRecursion (EdgeMatches types (parameter_types ledger program) [] []) edges
          → AllByRecursion (λ edge. parameter_types ledger program edge.target ≡ []) edges
      both [] none all = tt
      both (e ∷ edges) none all =
          (none_taken (parameter_types ledger program e.target) (ap (λ arguments. map (argument_type types [] []) arguments) (sym none.0) ∙ all.0), both edges none.1 all.1)

      by : IsGenerated reading edge.target ⊎ ((name : Name) × IsReadAs reading edge.target name × Contains (item_targets (Some item)) name) → parameter_types ledger' program' edge.target ≡ []
      by (inl own) = ap (λ (names : List Name). map types' names) (goes.own edge.target own).0
      by (inr (name, read, among)) =
          let found = item_edge (λ e. parameter_types ledger program e.target ≡ []) item other switch emitted name
          (both switch.edges bare (switch_edges item other keys switch is_switch emitted match)) among in
          parameters_same edge.target name read ∙ subst (λ (x : Name). parameter_types ledger program x ≡ []) found.1 found.2

  decided_edges : (item : Item) (other : ℕ) (keys : List ℕ) (switch : Instruction Name Name) → switch.operation ≡ Switch keys → AllByRecursion (λ edge. edge.arguments ≡ []) switch.edges
      → item ≡ emitted_item other switch → ItemEdgesMatch ledger program item → (edges : List (Edge Name Name)) → AllByRecursion (DecidesAlong reading item) edges
      → AllByRecursion (EdgeMatches types' (parameter_types ledger' program') [] []) edges
  decided_edges item other keys switch is_switch bare emitted match [] decides = tt
  decided_edges item other keys switch is_switch bare emitted match (edge ∷ edges) decides = (
    ap (λ arguments. map (argument_type types' [] []) arguments) decides.0.nothing
        ∙ ap (λ (tys : List «Type»). map (λ (ty : «Type»). Some ty) tys) (sym (target_bare item other keys switch is_switch bare emitted match edge decides.0)),
    decided_edges item other keys switch is_switch bare emitted match edges decides.1,
  )

  pub decider_matches : (item : Item) (other : ℕ) (keys : List ℕ) (switch : Instruction Name Name) → switch.operation ≡ Switch keys → AllByRecursion (λ edge. edge.arguments ≡ []) switch.edges
      → item ≡ emitted_item other switch → ItemEdgesMatch ledger program item → (place : ℕ) (instruction : Instruction Name Name) → IsDecider reading item place instruction
      → EachEdgeMatches types' (parameter_types ledger' program') (call_shape instruction.operation) instruction.edges
  decider_matches item other keys switch is_switch bare emitted match place instruction decides =
      subst (λ (shape : Option CallShape). EachEdgeMatches types' (parameter_types ledger' program') shape instruction.edges) (sym (no_call instruction.operation decides.deciding))
      (decided_edges item other keys switch is_switch bare emitted match instruction.edges decides.edges)

  pub edges_match : EachItem (ItemEdgesMatch ledger program) program → EachItem (ItemEdgesMatch ledger' program') program'
  edges_match all =
      carried (ItemEdgesMatch ledger program) (ItemEdgesMatch ledger' program') edges_read
      (λ place instruction stays. subst (EachEdgeMatches types' (parameter_types ledger' program') (call_shape instruction.operation)) (sym stays.no_edges)
      (none_match types' (parameter_types ledger' program') (call_shape instruction.operation)))
      (λ item other keys switch is_switch bare emitted match place instruction results decides known. decider_matches item other keys switch is_switch bare emitted match place instruction decides) all
