-- The ledger of a script beside that of the script without its calls that seal: names are renamed and no block is sealed, and all
-- else but the answers is the same.
use Rattle.std.proofs.Common.{◌≡◌, Bool, true, false, not, List, [], ◌∷◌, ◌++◌, map, refl, sym, ◌∙◌, ap, ap₂, Option, Some, None}
use Rattle.std.specs.Prelude.{find, fold, if◌then◌else◌, option_map, slice_set}
use Rattle.std.specs.List.{list_any}
use Rattle.std.proofs.lemmas.List.{map-append, map-set}
use Rattle.clif_meaning.specs.Instruction.{Edge, Instruction, Operation}
use Rattle.clif_meaning.specs.Ledger.{Answered, ABlock, AVariable, AValue, AnInstruction, AnEntry, AnEdge, AJumpTable, AnExceptionTable, BlockState, ExceptionTable, Ledger, is_inserted, is_terminator, led_by, left_by, next_answer, put_after, redirected_state, sealed, state_has, with_begun, with_begun_at, with_filled_at, with_instruction, with_layout, with_predecessor, with_served, with_state, with_terminator, with_tried}
use Rattle.clif_meaning.specs.Name.{Name, same_name}
use Rattle.clif_meaning.specs.Request.{GivenEntry, ServedBy, TriedBy, Imported}
use Rattle.clif_renaming.specs.Renaming.{KeepsApart, renamed_edge, renamed_instruction}
use Rattle.clif_renaming.proofs.RenamedNames.{same_renamed}
use Rattle.clif_renaming.proofs.TrackedNames.{list_any_renamed}
use Rattle.clif_sealing_order_laws.proofs.Lists.{filter_mapped, find_mapped, map_mapped}

-- the answer, with the names of an edge renamed
abbrev pub renamed_answer : (Name → Name) → Answered → Answered
renamed_answer rename ABlock = ABlock
renamed_answer rename (AVariable variable) = AVariable variable
renamed_answer rename (AValue ty) = AValue ty
renamed_answer rename AnInstruction = AnInstruction
renamed_answer rename (AnEntry entry number) = AnEntry entry number
renamed_answer rename (AnEdge edge) = AnEdge (renamed_edge rename edge)
renamed_answer rename (AJumpTable number) = AJumpTable number
renamed_answer rename (AnExceptionTable number) = AnExceptionTable number

-- the state of the renamed block, unsealed
abbrev pub unsealed_state : (Name → Name) → BlockState → BlockState
unsealed_state rename state = record {
  block = rename state.block;
  parameters = state.parameters;
  is_pristine = state.is_pristine;
  is_filled = state.is_filled;
  is_sealed = false;
  is_cold = state.is_cold;
  predecessors = map rename state.predecessors;
}

abbrev pub renamed_exceptions : (Name → Name) → ExceptionTable → ExceptionTable
renamed_exceptions rename table = record {
  signature = table.signature;
  edges = map (renamed_edge rename) table.edges;
  items = table.items;
  contexts = map rename table.contexts;
}

abbrev pub renamed_table : (Name → Name) → Option (List (Edge Name Name)) → Option (List (Edge Name Name))
renamed_table rename table = option_map (λ edges. map (renamed_edge rename) edges) table

abbrev pub renamed_exception : (Name → Name) → Option ExceptionTable → Option ExceptionTable
renamed_exception rename table = option_map (renamed_exceptions rename) table

-- the ledger renamed, with no block sealed, and with these answers
abbrev pub unsealed_ledger : (Name → Name) → Ledger → List (List Answered) → Ledger
unsealed_ledger rename ledger answers = record {
  answers = answers;
  blocks = map (unsealed_state rename) ledger.blocks;
  current = option_map rename ledger.current;
  layout = map rename ledger.layout;
  variables = ledger.variables;
  jump_tables = map (renamed_table rename) ledger.jump_tables;
  exception_tables = map (renamed_exception rename) ledger.exception_tables;
  tables = ledger.tables;
}

-- a test that goes along
pub has_mapped : (h : BlockState → BlockState) (f g : BlockState → Bool) → ((state : BlockState) → g (h state) ≡ f state) → (o : Option BlockState)
    → state_has g (option_map h o) ≡ state_has f o
has_mapped h f g each None = refl
has_mapped h f g each (Some state) = each state

-- SEALING -----------------------------------------------------------------------------------------------------------------

module _ (rename : Name → Name) where
  pub sealed_unseen : (states : List BlockState) → map (unsealed_state rename) (map sealed states) ≡ map (unsealed_state rename) states
  sealed_unseen [] = refl
  sealed_unseen (state ∷ states) = ap (λ (rest : List BlockState). unsealed_state rename state ∷ rest) (sealed_unseen states)

  pub sealed_one_unseen : (block : Name) (states : List BlockState)
      → map (unsealed_state rename) (map (λ (state : BlockState). if same_name state.block block then sealed state else state) states) ≡ map (unsealed_state rename) states
  sealed_one_unseen block [] = refl
  sealed_one_unseen block (state ∷ states) = ap₂ (λ (first : BlockState) (rest : List BlockState). first ∷ rest) (by (same_name state.block block)) (sealed_one_unseen block states)
    where
      by : (c : Bool) → unsealed_state rename (if c then sealed state else state) ≡ unsealed_state rename state
      by true = refl
      by false = refl

-- STATES AND LAYOUT -------------------------------------------------------------------------------------------------------

module _ (rename : Name → Name) (apart : KeepsApart rename) where
  pub state_found : (block : Name) (states : List BlockState)
      → find (λ (state : BlockState). same_name state.block (rename block)) (map (unsealed_state rename) states)
      ≡ option_map (unsealed_state rename) (find (λ (state : BlockState). same_name state.block block) states)
  state_found block states =
      find_mapped (unsealed_state rename) (λ (state : BlockState). same_name state.block block) (λ (state : BlockState). same_name state.block (rename block))
      (λ state. same_renamed rename apart state.block block) states

  pub states_changed : (block : Name) (change change' : BlockState → BlockState) → ((state : BlockState) → change' (unsealed_state rename state) ≡ unsealed_state rename (change state))
      → (states : List BlockState)
      → map (λ (state : BlockState). if same_name state.block (rename block) then change' state else state) (map (unsealed_state rename) states)
      ≡ map (unsealed_state rename) (map (λ (state : BlockState). if same_name state.block block then change state else state) states)
  states_changed block change change' each states =
      map_mapped (unsealed_state rename) (unsealed_state rename) (λ (state : BlockState). if same_name state.block block then change state else state)
      (λ (state : BlockState). if same_name state.block (rename block) then change' state else state)
      (λ state. ap₂ (λ (test : Bool) (changed : BlockState). if test then changed else unsealed_state rename state) (same_renamed rename apart state.block block) (each state)
      ∙ by state (same_name state.block block))
      states
    where
      by : (state : BlockState) (c : Bool) → (if c then unsealed_state rename (change state) else unsealed_state rename state) ≡ unsealed_state rename (if c then change state else state)
      by state true = refl
      by state false = refl

  put_renamed : (block after : Name) (layout : List Name) → put_after (rename block) (rename after) (map rename layout) ≡ map rename (put_after block after layout)
  put_renamed block after [] = refl
  put_renamed block after (other ∷ layout) =
      ap₂ (λ (c : Bool) (rest : List Name). if c then rename other ∷ rename block ∷ map rename layout else rename other ∷ rest)
      (same_renamed rename apart other after) (put_renamed block after layout)
      ∙ by (same_name other after)
    where
      by : (c : Bool) → (if c then rename other ∷ rename block ∷ map rename layout else rename other ∷ map rename (put_after block after layout))
          ≡ map rename (if c then other ∷ block ∷ layout else other ∷ put_after block after layout)
      by true = refl
      by false = refl

  -- BRANCHES --------------------------------------------------------------------------------------------------------------

  pub led_renamed : (branch : Name) (state : BlockState) → led_by (rename branch) (unsealed_state rename state) ≡ unsealed_state rename (led_by branch state)
  led_renamed branch state =
      ap₂ (λ (c : Bool) (names : List Name). if c then unsealed_state rename state else record (unsealed_state rename state) { predecessors = names })
      (list_any_renamed rename apart branch state.predecessors) (sym (map-append rename state.predecessors (branch ∷ [])))
      ∙ by (list_any (same_name branch) state.predecessors)
    where
      by : (c : Bool) → (if c then unsealed_state rename state else record (unsealed_state rename state) { predecessors = map rename (state.predecessors ++ branch ∷ []) })
          ≡ unsealed_state rename (if c then state else record state { predecessors = state.predecessors ++ branch ∷ [] })
      by true = refl
      by false = refl

  left_renamed : (branch : Name) (state : BlockState) → left_by (rename branch) (unsealed_state rename state) ≡ unsealed_state rename (left_by branch state)
  left_renamed branch state =
      ap (λ (names : List Name). record (unsealed_state rename state) { predecessors = names })
      (filter_mapped rename (λ (other : Name). not (same_name branch other)) (λ (other : Name). not (same_name (rename branch) other))
      (λ other. ap not (same_renamed rename apart branch other)) state.predecessors)

  redirected_renamed : (branch from to : Name) (state : BlockState)
      → redirected_state (rename branch) (rename from) (rename to) (unsealed_state rename state) ≡ unsealed_state rename (redirected_state branch from to state)
  redirected_renamed branch from to state =
      ap₂ (λ (same : Bool) (other : BlockState). if same then unsealed_state rename state else other) (same_renamed rename apart from to)
      (ap₂ (λ (here : Bool) (other : BlockState). if here then left_by (rename branch) (unsealed_state rename state) else other) (same_renamed rename apart state.block from)
      (ap (λ (there : Bool). if there then led_by (rename branch) (unsealed_state rename state) else unsealed_state rename state) (same_renamed rename apart state.block to)))
      ∙ by (same_name from to) (same_name state.block from) (same_name state.block to)
    where
      by : (same here there : Bool)
          → (if same then unsealed_state rename state else (if here then left_by (rename branch) (unsealed_state rename state)
          else (if there then led_by (rename branch) (unsealed_state rename state) else unsealed_state rename state)))
          ≡ unsealed_state rename (if same then state else (if here then left_by branch state else (if there then led_by branch state else state)))
      by true here there = refl
      by false true there = left_renamed branch state
      by false false true = led_renamed branch state
      by false false false = refl

  -- LEDGERS ---------------------------------------------------------------------------------------------------------------

  module _ (answers : List (List Answered)) where
    abbrev U : Ledger → Ledger
    U ledger = unsealed_ledger rename ledger answers

    pub state_both : (ledger : Ledger) (block : Name) (change change' : BlockState → BlockState) → ((state : BlockState) → change' (unsealed_state rename state) ≡ unsealed_state rename (change state))
        → with_state (U ledger) (rename block) change' ≡ U (with_state ledger block change)
    state_both ledger block change change' each = ap (λ (blocks : List BlockState). record (U ledger) { blocks = blocks }) (states_changed block change change' each ledger.blocks)

    layout_both : (ledger : Ledger) (block : Name) → with_layout (U ledger) (rename block) ≡ U (with_layout ledger block)
    layout_both ledger block =
        ap₂ (λ (c : Bool) (layout : List Name). if c then U ledger else record (U ledger) { layout = layout })
        (list_any_renamed rename apart block ledger.layout) (sym (map-append rename ledger.layout (block ∷ [])))
        ∙ by (is_inserted ledger block)
      where
        by : (c : Bool) → (if c then U ledger else record (U ledger) { layout = map rename (ledger.layout ++ block ∷ []) })
            ≡ U (if c then ledger else record ledger { layout = ledger.layout ++ block ∷ [] })
        by true = refl
        by false = refl

    begun_at_both : (ledger : Ledger) (o : Option Name) → with_begun_at (U ledger) (option_map rename o) ≡ U (with_begun_at ledger o)
    begun_at_both ledger None = refl
    begun_at_both ledger (Some block) =
        ap (λ (laid : Ledger). with_state laid (rename block) (λ (state : BlockState). record state { is_pristine = false })) (layout_both ledger block)
        ∙ state_both (with_layout ledger block) block (λ (state : BlockState). record state { is_pristine = false }) (λ (state : BlockState). record state { is_pristine = false }) (λ state. refl)

    pub begun_both : (ledger : Ledger) → with_begun (U ledger) ≡ U (with_begun ledger)
    begun_both ledger = begun_at_both ledger ledger.current

    filled_both : (ledger : Ledger) (o : Option Name) → with_filled_at (U ledger) (option_map rename o) ≡ U (with_filled_at ledger o)
    filled_both ledger None = refl
    filled_both ledger (Some block) = state_both ledger block (λ (state : BlockState). record state { is_filled = true }) (λ (state : BlockState). record state { is_filled = true }) (λ state. refl)

    ended_both : (ledger : Ledger) (operation : Operation) → with_terminator (U ledger) operation ≡ U (with_terminator ledger operation)
    ended_both ledger operation = by (is_terminator operation)
      where
        by : (c : Bool) → (if c then with_filled_at (U ledger) (option_map rename ledger.current) else U ledger) ≡ U (if c then with_filled_at ledger ledger.current else ledger)
        by true = filled_both ledger ledger.current
        by false = refl

    led_both : (branch : Name) (ledger : Ledger) (edges : List (Edge Name Name))
        → fold (with_predecessor (rename branch)) (U ledger) (map (renamed_edge rename) edges) ≡ U (fold (with_predecessor branch) ledger edges)
    led_both branch ledger [] = refl
    led_both branch ledger (edge ∷ edges) =
        ap (λ (before : Ledger). fold (with_predecessor (rename branch)) before (map (renamed_edge rename) edges))
        (state_both ledger edge.target (led_by branch) (led_by (rename branch)) (led_renamed branch))
        ∙ led_both branch (with_predecessor branch ledger edge) edges

    pub instruction_both : (ledger : Ledger) (instruction : Instruction Name Name) → rename (next_answer ledger) ≡ next_answer (U ledger)
        → with_instruction (U ledger) (renamed_instruction rename instruction) ≡ U (with_instruction ledger instruction)
    instruction_both ledger instruction at =
        ap₂ (λ (branch : Name) (before : Ledger). fold (with_predecessor branch) before (map (renamed_edge rename) instruction.edges)) (sym at)
        (ap (λ (begun : Ledger). with_terminator begun instruction.operation) (begun_both ledger) ∙ ended_both (with_begun ledger) instruction.operation)
        ∙ led_both (next_answer ledger) (with_terminator (with_begun ledger) instruction.operation) instruction.edges

    pub put_both : (ledger : Ledger) (block after : Name) → record (U ledger) { layout = put_after (rename block) (rename after) (map rename ledger.layout) } ≡ U (record ledger { layout = put_after block after ledger.layout })
    put_both ledger block after = ap (λ (layout : List Name). record (U ledger) { layout = layout }) (put_renamed block after ledger.layout)

    pub redirected_both : (ledger : Ledger) (branch from to : Name)
        → record (U ledger) { blocks = map (redirected_state (rename branch) (rename from) (rename to)) (map (unsealed_state rename) ledger.blocks) }
        ≡ U (record ledger { blocks = map (redirected_state branch from to) ledger.blocks })
    redirected_both ledger branch from to =
        ap (λ (blocks : List BlockState). record (U ledger) { blocks = blocks })
        (map_mapped (unsealed_state rename) (unsealed_state rename) (redirected_state branch from to) (redirected_state (rename branch) (rename from) (rename to))
        (redirected_renamed branch from to) ledger.blocks)

-- TABLES ------------------------------------------------------------------------------------------------------------------

pub served_renamed : (rename : Name → Name) (tables : List (Option (List (Edge Name Name)))) (entries : List GivenEntry)
    → with_served (map (renamed_table rename) tables) entries ≡ map (renamed_table rename) (with_served tables entries)
served_renamed rename tables [] = refl
served_renamed rename tables (ServedBy table ∷ entries) =
    ap (λ (list : List (Option (List (Edge Name Name)))). with_served list entries) (sym (map-set (renamed_table rename) tables table None)) ∙ served_renamed rename (slice_set tables table None) entries
served_renamed rename tables (TriedBy table ∷ entries) = served_renamed rename tables entries
served_renamed rename tables (Imported entry ∷ entries) = served_renamed rename tables entries

pub tried_renamed : (rename : Name → Name) (tables : List (Option ExceptionTable)) (entries : List GivenEntry)
    → with_tried (map (renamed_exception rename) tables) entries ≡ map (renamed_exception rename) (with_tried tables entries)
tried_renamed rename tables [] = refl
tried_renamed rename tables (ServedBy table ∷ entries) = tried_renamed rename tables entries
tried_renamed rename tables (TriedBy table ∷ entries) =
    ap (λ (list : List (Option ExceptionTable)). with_tried list entries) (sym (map-set (renamed_exception rename) tables table None)) ∙ tried_renamed rename (slice_set tables table None) entries
tried_renamed rename tables (Imported entry ∷ entries) = tried_renamed rename tables entries
