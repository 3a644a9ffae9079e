-- The answers to the calls of a script beside those to its calls that don't seal: each has its renamed name.
use Rattle.std.proofs.Common.{◌≡◌, ◌≢◌, ℕ, Bool, true, false, List, [], ◌∷◌, ◌++◌, length, map, refl, sym, ◌∙◌, ap, Option, Some, None}
use Rattle.std.specs.Prelude.{option_and_then, option_map, slice_get, flat_map, ◌==◌}
use Rattle.std.proofs.lemmas.Bool.{eqb-true, eqb-false}
use Rattle.std.proofs.lemmas.List.{length-map}
use Rattle.std.proofs.lemmas.Option.{slice_get-map}
use Rattle.clif_types.specs.declared.types.«Type».{«Type»}
use Rattle.clif_meaning.specs.Event.{CallItem}
use Rattle.clif_meaning.specs.Ledger.{Answered, ABlock, AVariable, AValue, AnInstruction, AnEntry, AnEdge, AJumpTable, AnExceptionTable, Ledger, answered_edge, answers_to, edge_named, edges_named, edges_of_items, exception_table, is_instruction_answer, item_context, item_edge, item_kind, value_answer_type}
use Rattle.clif_meaning.specs.Name.{Name, answer_of}
use Rattle.clif_meaning.specs.Program.{result_types}
use Rattle.clif_meaning.specs.Request.{Request, AppendBlockParams, AppendFunctionParams, MakeJumpTable, MakeExceptionTable, Build, TableItem, TagTo, DefaultTo, InContext}
use Rattle.clif_renaming.specs.Renaming.{KeepsApart, renamed_edge}
use Rattle.clif_renaming.specs.Sealing.{renamed_item, renamed_request}
use Rattle.clif_sealing_order_laws.proofs.Lists.{filter_map_mapped, flat_map_mapped, get_pushed, get_pushed_other}
use Rattle.clif_sealing_order_laws.proofs.RenamedLedgers.{renamed_answer, renamed_exception, renamed_exceptions, renamed_table, unsealed_ledger}

-- the answer with this name
abbrev pub answer_in : List (List Answered) → Name → Option Answered
answer_in answers name = option_and_then (λ given. slice_get given name.index) (slice_get answers name.place)

-- the renamed name names the renamed answer, or none where the name names none
abbrev pub AnswersGoAlong : (Name → Name) → (answers renamed : List (List Answered)) → Type 0
AnswersGoAlong rename answers renamed = (x : Name) → answer_in renamed (rename x) ≡ option_map (renamed_answer rename) (answer_in answers x)

-- WHAT ANSWERS ARE --------------------------------------------------------------------------------------------------------

module _ (rename : Name → Name) where
  pub type_along : (answer : Option Answered) → value_answer_type (option_map (renamed_answer rename) answer) ≡ value_answer_type answer
  type_along None = refl
  type_along (Some ABlock) = refl
  type_along (Some (AVariable variable)) = refl
  type_along (Some (AValue ty)) = refl
  type_along (Some AnInstruction) = refl
  type_along (Some (AnEntry entry number)) = refl
  type_along (Some (AnEdge edge)) = refl
  type_along (Some (AJumpTable number)) = refl
  type_along (Some (AnExceptionTable number)) = refl

  pub edge_along : (answer : Option Answered) → answered_edge (option_map (renamed_answer rename) answer) ≡ option_map (renamed_edge rename) (answered_edge answer)
  edge_along None = refl
  edge_along (Some ABlock) = refl
  edge_along (Some (AVariable variable)) = refl
  edge_along (Some (AValue ty)) = refl
  edge_along (Some AnInstruction) = refl
  edge_along (Some (AnEntry entry number)) = refl
  edge_along (Some (AnEdge edge)) = refl
  edge_along (Some (AJumpTable number)) = refl
  edge_along (Some (AnExceptionTable number)) = refl

  pub instruction_along : (answer : Option Answered) → is_instruction_answer (option_map (renamed_answer rename) answer) ≡ is_instruction_answer answer
  instruction_along None = refl
  instruction_along (Some ABlock) = refl
  instruction_along (Some (AVariable variable)) = refl
  instruction_along (Some (AValue ty)) = refl
  instruction_along (Some AnInstruction) = refl
  instruction_along (Some (AnEntry entry number)) = refl
  instruction_along (Some (AnEdge edge)) = refl
  instruction_along (Some (AJumpTable number)) = refl
  instruction_along (Some (AnExceptionTable number)) = refl

  items_edges : (items : List TableItem) → flat_map item_edge (map (renamed_item rename) items) ≡ map rename (flat_map item_edge items)
  items_edges items = flat_map_mapped (renamed_item rename) rename item_edge item_edge each items
    where
      each : (item : TableItem) → item_edge (renamed_item rename item) ≡ map rename (item_edge item)
      each (TagTo tag edge) = refl
      each (DefaultTo edge) = refl
      each (InContext value) = refl

  items_contexts : (items : List TableItem) → flat_map item_context (map (renamed_item rename) items) ≡ map rename (flat_map item_context items)
  items_contexts items = flat_map_mapped (renamed_item rename) rename item_context item_context each items
    where
      each : (item : TableItem) → item_context (renamed_item rename item) ≡ map rename (item_context item)
      each (TagTo tag edge) = refl
      each (DefaultTo edge) = refl
      each (InContext value) = refl

  items_kinds : (items : List TableItem) → map item_kind (map (renamed_item rename) items) ≡ map item_kind items
  items_kinds [] = refl
  items_kinds (TagTo tag edge ∷ items) = ap (λ (rest : List CallItem). item_kind (TagTo tag edge) ∷ rest) (items_kinds items)
  items_kinds (DefaultTo edge ∷ items) = ap (λ (rest : List CallItem). item_kind (DefaultTo edge) ∷ rest) (items_kinds items)
  items_kinds (InContext value ∷ items) = ap (λ (rest : List CallItem). item_kind (InContext value) ∷ rest) (items_kinds items)

  pub values_along : (types : List «Type») → map AValue types ≡ map (renamed_answer rename) (map AValue types)
  values_along [] = refl
  values_along (ty ∷ types) = ap (λ (rest : List Answered). AValue ty ∷ rest) (values_along types)

  -- a renamed call answers the renamed answers
  pub answered_along : (ledger : Ledger) (answers : List (List Answered)) (request : Request)
      → answers_to (unsealed_ledger rename ledger answers) (renamed_request rename request) ≡ map (renamed_answer rename) (answers_to ledger request)
  answered_along ledger answers (AppendBlockParams block types) = values_along types
  answered_along ledger answers (AppendFunctionParams block types) = values_along types
  answered_along ledger answers (MakeJumpTable default entries) = ap (λ (n : ℕ). AJumpTable n ∷ []) (length-map ledger.jump_tables (renamed_table rename))
  answered_along ledger answers (MakeExceptionTable signature normal items) = ap (λ (n : ℕ). AnExceptionTable n ∷ []) (length-map ledger.exception_tables (renamed_exception rename))
  answered_along ledger answers (Build entries instruction) =
      ap (λ (rest : List Answered). AnInstruction ∷ rest) (values_along (result_types instruction.operation instruction.controlling))
  answered_along ledger answers _ = refl

  -- NAMED EDGES -----------------------------------------------------------------------------------------------------------

  module _ (ledger : Ledger) (answers : List (List Answered)) (along : AnswersGoAlong rename ledger.answers answers) where
    pub edge_named_along : (x : Name) → edge_named (unsealed_ledger rename ledger answers) (rename x) ≡ option_map (renamed_edge rename) (edge_named ledger x)
    edge_named_along x = ap answered_edge (along x) ∙ edge_along (answer_in ledger.answers x)

    pub edges_named_along : (names : List Name) → edges_named (unsealed_ledger rename ledger answers) (map rename names) ≡ map (renamed_edge rename) (edges_named ledger names)
    edges_named_along names = filter_map_mapped rename (renamed_edge rename) (edge_named ledger) (edge_named (unsealed_ledger rename ledger answers)) edge_named_along names

    pub exceptions_along : (signature : ℕ) (normal : Name) (items : List TableItem)
        → exception_table (unsealed_ledger rename ledger answers) signature (rename normal) (map (renamed_item rename) items)
        ≡ renamed_exceptions rename (exception_table ledger signature normal items)
    exceptions_along signature normal items = λ i. record {
      signature = signature;
      edges = edges i;
      items = items_kinds items i;
      contexts = items_contexts items i;
    }
      where
        edges : edges_named (unsealed_ledger rename ledger answers) (edges_of_items (rename normal) (map (renamed_item rename) items))
            ≡ map (renamed_edge rename) (edges_named ledger (edges_of_items normal items))
        edges = ap (λ (rest : List Name). edges_named (unsealed_ledger rename ledger answers) (rename normal ∷ rest)) (items_edges items)
            ∙ edges_named_along (edges_of_items normal items)

-- ONE CALL MORE -----------------------------------------------------------------------------------------------------------

module _ (rename : Name → Name) (apart : KeepsApart rename) (answers renamed : List (List Answered)) (along : AnswersGoAlong rename answers renamed) where
  -- behind the answers there are none
  behind : {X : Type 0} (xs : List X) → slice_get xs (length xs) ≡ None
  behind [] = refl
  behind (x ∷ xs) = behind xs

  -- no answer to a call that seals
  pub along_seal : AnswersGoAlong rename (answers ++ [] ∷ []) renamed
  along_seal x = along x ∙ ap (option_map (renamed_answer rename)) (sym (by (x.place == length answers) refl))
    where
      by : (c : Bool) → (x.place == length answers) ≡ c → answer_in (answers ++ [] ∷ []) x ≡ answer_in answers x
      by true is =
          let at = eqb-true x.place (length answers) is in
          ap (λ (n : ℕ). option_and_then (λ (given : List Answered). slice_get given x.index) (slice_get (answers ++ [] ∷ []) n)) at
          ∙ ap (option_and_then (λ (given : List Answered). slice_get given x.index)) (get_pushed answers [])
          ∙ ap (option_and_then (λ (given : List Answered). slice_get given x.index)) (sym (behind answers))
          ∙ ap (λ (n : ℕ). option_and_then (λ (given : List Answered). slice_get given x.index) (slice_get answers n)) (sym at)
      by false is = ap (option_and_then (λ (given : List Answered). slice_get given x.index)) (get_pushed_other answers [] x.place (eqb-false x.place (length answers) is))

  -- the answers to a call and to the renamed one
  pub along_call : (given : List Answered) → ((index : ℕ) → rename (answer_of (length answers) index) ≡ answer_of (length renamed) index)
      → AnswersGoAlong rename (answers ++ given ∷ []) (renamed ++ map (renamed_answer rename) given ∷ [])
  along_call given at x = by (x.place == length answers) refl
    where
      picked : Option (List Answered) → Option Answered
      picked o = option_and_then (λ (given : List Answered). slice_get given x.index) o

      by : (c : Bool) → (x.place == length answers) ≡ c
          → answer_in (renamed ++ map (renamed_answer rename) given ∷ []) (rename x) ≡ option_map (renamed_answer rename) (answer_in (answers ++ given ∷ []) x)
      by true is =
          let place = eqb-true x.place (length answers) is in
          let here : x ≡ answer_of (length answers) x.index = ap (λ (n : ℕ). answer_of n x.index) place in
          ap (answer_in (renamed ++ map (renamed_answer rename) given ∷ [])) (ap rename here ∙ at x.index)
          ∙ ap picked (get_pushed renamed (map (renamed_answer rename) given))
          ∙ slice_get-map (renamed_answer rename) given x.index
          ∙ ap (λ (o : Option (List Answered)). option_map (renamed_answer rename) (picked o)) (sym (get_pushed answers given))
          ∙ ap (λ (n : ℕ). option_map (renamed_answer rename) (picked (slice_get (answers ++ given ∷ []) n))) (sym place)
      by false is =
          let other = eqb-false x.place (length answers) is in
          let elsewhere : (rename x).place ≢ length renamed =
          λ same. other (ap (λ (n : Name). n.place) (apart x (answer_of (length answers) (rename x).index) (ap (λ (n : ℕ). answer_of n (rename x).index) same ∙ sym (at (rename x).index)))) in
          ap (λ (o : Option (List Answered)). option_and_then (λ (list : List Answered). slice_get list (rename x).index) o) (get_pushed_other renamed (map (renamed_answer rename) given) (rename x).place elsewhere)
          ∙ along x
          ∙ ap (λ (o : Option (List Answered)). option_map (renamed_answer rename) (picked o)) (sym (get_pushed_other answers given x.place other))
