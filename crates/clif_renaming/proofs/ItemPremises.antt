-- What the premises ask of the items of a program they ask alike of those of the renamed program.
use Rattle.std.proofs.Common.{◌≡◌, ◌↔◌, ℕ, Bool, List, [], ◌∷◌, map, refl, sym, ◌∙◌, ap, ap₂, subst, inl, inr, Option, Some, None}
use Rattle.std.specs.Prelude.{IsTrue, option_map}
use Rattle.std.specs.List.{AllByRecursion}
use Rattle.clif_types.specs.declared.types.«Type».{«Type»}
use Rattle.clif_types.specs.Signature.{SignatureShape}
use Rattle.clif_meaning.specs.Event.{CallShape, payload_types}
use Rattle.clif_tables.specs.Callees.{types_of}
use Rattle.clif_meaning.specs.Instruction.{Argument, Known, CallResult, CallPayload, Edge, Instruction}
use Rattle.clif_meaning.specs.Ledger.{Ledger, is_filled, is_marked, or_invalid, type_of, variable_type}
use Rattle.clif_meaning.specs.Name.{Name}
use Rattle.clif_meaning.specs.Premises.{CallsLibraryAsNamed, EachItem, EntryTakes, HasGoodTargets, IsGoodTarget, IsItemWellTyped, KeepsTrackedApart, WellTyped, parameter_types}
use Rattle.clif_meaning.specs.Program.{Program, Item, Instruct, Use, Assign}
use Rattle.clif_meaning.specs.Typing.{EachEdgeMatches, EdgeMatches, IsWellTyped, TakesOperands, argument_type, call_shape}
use Rattle.clif_renaming.specs.Renaming.{AreRenamedItems, IsRenamedItem, IsRenamedProgram, KeepsApart, renamed_argument, renamed_edge, renamed_instruction}
use Rattle.clif_renaming.proofs.Images.{IsBareElsewhere}
use Rattle.clif_renaming.proofs.PlacedNames.{entry_named}
use Rattle.clif_renaming.proofs.RenamedNames.{each_renamed}

pub exactly_then : {A B C : Type 0} → (A ↔ B) → (B ↔ C) → A ↔ C
exactly_then first second = (λ a. second.0 (first.0 a), λ c. first.1 (second.1 c))

pub turned : {A B : Type 0} → (A ↔ B) → B ↔ A
turned both = (both.1, both.0)

-- what is said of equals
pub said_of_equals : {X : Type 0} (P : X → Type 0) (x y : X) → x ≡ y → P x ↔ P y
said_of_equals P x y same = (λ p. subst P same p, λ p. subst P (sym same) p)

module _ (rename : Name → Name) where
  -- the two say alike of an item and of the item renamed
  abbrev pub SayAlike : (Item → Type 0) → (Item → Type 0) → Type 0
  SayAlike P P' = (item item' : Item) → IsRenamedItem rename item item' → P item ↔ P' item'

  pub say_alike : (P P' : Item → Type 0)
      → ((place other : ℕ) (instruction : Instruction Name Name) (results : List Name) → P (Instruct place instruction results) ↔ P' (Instruct other (renamed_instruction rename instruction) (map rename results)))
      → ((variable : ℕ) (name : Name) → P (Use variable name) ↔ P' (Use variable (rename name)))
      → ((variable : ℕ) (name : Name) → P (Assign variable name) ↔ P' (Assign variable (rename name)))
      → SayAlike P P'
  say_alike P P' instruct used assigned (Instruct place instruction results) (Instruct other changed names) is =
      subst (λ (n : List Name). P (Instruct place instruction results) ↔ P' (Instruct other changed n)) (sym is.1)
      (subst (λ (n : Instruction Name Name). P (Instruct place instruction results) ↔ P' (Instruct other n (map rename results))) (sym is.0)
      (instruct place other instruction results))
  say_alike P P' instruct used assigned (Use variable name) (Use other name') is =
      subst (λ (n : Name). P (Use variable name) ↔ P' (Use other n)) (sym is.1)
      (subst (λ (v : ℕ). P (Use variable name) ↔ P' (Use v (rename name))) (sym is.0) (used variable name))
  say_alike P P' instruct used assigned (Assign variable name) (Assign other name') is =
      subst (λ (n : Name). P (Assign variable name) ↔ P' (Assign other n)) (sym is.1)
      (subst (λ (v : ℕ). P (Assign variable name) ↔ P' (Assign v (rename name))) (sym is.0) (assigned variable name))
  say_alike P P' instruct used assigned _ _ is = absurd is

  all_forth : (P P' : Item → Type 0) → SayAlike P P' → (items items' : List Item) → AreRenamedItems rename items items' → AllByRecursion P items → AllByRecursion P' items'
  all_forth P P' alike [] [] are all = tt
  all_forth P P' alike [] (item' ∷ items') are all = absurd are
  all_forth P P' alike (item ∷ items) [] are all = absurd are
  all_forth P P' alike (item ∷ items) (item' ∷ items') are all = ((alike item item' are.0).0 all.0, all_forth P P' alike items items' are.1 all.1)

  all_back : (P P' : Item → Type 0) → SayAlike P P' → (items items' : List Item) → AreRenamedItems rename items items' → AllByRecursion P' items' → AllByRecursion P items
  all_back P P' alike [] [] are all = tt
  all_back P P' alike [] (item' ∷ items') are all = absurd are
  all_back P P' alike (item ∷ items) [] are all = absurd are
  all_back P P' alike (item ∷ items) (item' ∷ items') are all = ((alike item item' are.0).1 all.0, all_back P P' alike items items' are.1 all.1)

  pub each_alike : (P P' : Item → Type 0) → SayAlike P P' → (program program' : Program) → IsRenamedProgram rename program program' → IsBareElsewhere rename program'
      → EachItem P program ↔ EachItem P' program'
  each_alike P P' alike program program' renamed elsewhere = (forth, back)
    where
      forth : EachItem P program → EachItem P' program'
      forth each block' =
          elim (elsewhere block') [
            | inl bare ↦ subst (λ (items : List Item). AllByRecursion P' items) (sym bare.0) tt
            | inr found ↦
                subst (λ (block : Name). AllByRecursion P' (program'.items block)) found.1
                (all_forth P P' alike (program.items found.0) (program'.items (rename found.0)) (renamed.items found.0) (each found.0))
          ]

      back : EachItem P' program' → EachItem P program
      back each block = all_back P P' alike (program.items block) (program'.items (rename block)) (renamed.items block) (each (rename block))

  -- of edges and of renamed edges
  pub edges_alike : (P P' : Edge Name Name → Type 0) → ((edge : Edge Name Name) → P edge ↔ P' (renamed_edge rename edge))
      → (edges : List (Edge Name Name)) → AllByRecursion P edges ↔ AllByRecursion P' (map (renamed_edge rename) edges)
  edges_alike P P' alike [] = (λ all. tt, λ all. tt)
  edges_alike P P' alike (edge ∷ edges) =
      let rest = edges_alike P P' alike edges in
      (λ all. ((alike edge).0 all.0, rest.0 all.1), λ all. ((alike edge).1 all.0, rest.1 all.1))

-- Two ledgers that tell the same of a program's names and of the renamed program's.
module _ (rename : Name → Name) (apart : KeepsApart rename) (ledger ledger' : Ledger) (program program' : Program)
    (renamed : IsRenamedProgram rename program program') (elsewhere : IsBareElsewhere rename program')
    (types : (x : Name) → or_invalid (type_of ledger' (rename x)) ≡ or_invalid (type_of ledger x)) (told : (x : Name) → type_of ledger' (rename x) ≡ type_of ledger x)
    (filled : (x : Name) → is_filled ledger' (rename x) ≡ is_filled ledger x)
    (declared : (v : ℕ) → variable_type ledger' v ≡ variable_type ledger v) (marks : (v : ℕ) → is_marked ledger' v ≡ is_marked ledger v) where
  good_target : (edge : Edge Name Name) → IsGoodTarget ledger program edge ↔ IsGoodTarget ledger' program' (renamed_edge rename edge)
  good_target edge = (
    λ good. record {
      filled = subst IsTrue (sym (filled edge.target)) good.filled;
      no_entry = λ is. good.no_entry (entry_named rename apart program.entry edge.target (sym renamed.entry ∙ is));
    },
    λ good. record {
      filled = subst IsTrue (filled edge.target) good.filled;
      no_entry = λ is. good.no_entry (renamed.entry ∙ ap (λ (entry : Option Name). option_map rename entry) is);
    },
  )

  pub targets_alike : EachItem (HasGoodTargets ledger program) program ↔ EachItem (HasGoodTargets ledger' program') program'
  targets_alike =
      each_alike rename (HasGoodTargets ledger program) (HasGoodTargets ledger' program')
      (say_alike rename (HasGoodTargets ledger program) (HasGoodTargets ledger' program')
      (λ place other instruction results. edges_alike rename (IsGoodTarget ledger program) (IsGoodTarget ledger' program') good_target instruction.edges)
      (λ variable name. (λ holds. tt, λ holds. tt)) (λ variable name. (λ holds. tt, λ holds. tt)))
      program program' renamed elsewhere

  abbrev typed : Name → «Type»
  typed x = or_invalid (type_of ledger x)

  abbrev typed' : Name → «Type»
  typed' x = or_invalid (type_of ledger' x)

  parameters_typed : (block : Name) → parameter_types ledger' program' (rename block) ≡ parameter_types ledger program block
  parameters_typed block = ap (λ (names : List Name). map typed' names) (renamed.parameters block) ∙ each_renamed rename typed typed' types (program.parameters block)

  arguments_typed : (results payload : List «Type») (arguments : List (Argument Name))
      → map (argument_type typed' results payload) (map (renamed_argument rename) arguments) ≡ map (argument_type typed results payload) arguments
  arguments_typed results payload [] = refl
  arguments_typed results payload (Known name ∷ arguments) =
      ap₂ (λ (ty : «Type») (rest : List (Option «Type»)). Some ty ∷ rest) (types name) (arguments_typed results payload arguments)
  arguments_typed results payload (CallResult index ∷ arguments) = ap (λ (rest : List (Option «Type»)). argument_type typed results payload (CallResult index) ∷ rest) (arguments_typed results payload arguments)
  arguments_typed results payload (CallPayload index ∷ arguments) = ap (λ (rest : List (Option «Type»)). argument_type typed results payload (CallPayload index) ∷ rest) (arguments_typed results payload arguments)

  edge_matches : (results payload : List «Type») (edge : Edge Name Name)
      → EdgeMatches typed (parameter_types ledger program) results payload edge ↔ EdgeMatches typed' (parameter_types ledger' program') results payload (renamed_edge rename edge)
  edge_matches results payload edge =
      let given = arguments_typed results payload edge.arguments in
      let taken = ap (λ (list : List «Type»). map (λ (ty : «Type»). Some ty) list) (parameters_typed edge.target) in
      (λ matches. given ∙ matches ∙ sym taken, λ matches. sym given ∙ matches ∙ taken)

  edges_match : (call : Option CallShape) (edges : List (Edge Name Name))
      → EachEdgeMatches typed (parameter_types ledger program) call edges ↔ EachEdgeMatches typed' (parameter_types ledger' program') call (map (renamed_edge rename) edges)
  edges_match None edges = edges_alike rename (EdgeMatches typed (parameter_types ledger program) [] []) (EdgeMatches typed' (parameter_types ledger' program') [] []) (edge_matches [] []) edges
  edges_match (Some call) [] = (λ holds. tt, λ holds. tt)
  edges_match (Some call) (normal ∷ items) =
      let first = edge_matches (types_of call.signature.returns) [] normal in
      let rest = edges_alike rename (EdgeMatches typed (parameter_types ledger program) [] payload_types) (EdgeMatches typed' (parameter_types ledger' program') [] payload_types) (edge_matches [] payload_types) items in
      (λ all. (first.0 all.0, rest.0 all.1), λ all. (first.1 all.0, rest.1 all.1))

  instruction_typed : (returns : List «Type») (instruction : Instruction Name Name)
      → IsWellTyped typed (parameter_types ledger program) returns instruction ↔ IsWellTyped typed' (parameter_types ledger' program') returns (renamed_instruction rename instruction)
  instruction_typed returns instruction =
      let same = each_renamed rename typed typed' types instruction.operands in
      let edges = edges_match (call_shape instruction.operation) instruction.edges in
      let P : List «Type» → Type 0 = λ list. TakesOperands returns instruction.operation instruction.controlling list in (
        λ well. record { made_at = well.made_at; operands = subst P (sym same) well.operands; edges = edges.0 well.edges },
        λ well. record { made_at = well.made_at; operands = subst P same well.operands; edges = edges.1 well.edges },
      )

  items_typed : (returns : List «Type») → EachItem (IsItemWellTyped ledger program returns) program ↔ EachItem (IsItemWellTyped ledger' program' returns) program'
  items_typed returns =
      each_alike rename (IsItemWellTyped ledger program returns) (IsItemWellTyped ledger' program' returns)
      (say_alike rename (IsItemWellTyped ledger program returns) (IsItemWellTyped ledger' program' returns)
      (λ place other instruction results. instruction_typed returns instruction)
      (λ variable name. (λ holds. tt, λ holds. tt))
      (λ variable name. (λ is. told name ∙ is ∙ sym (declared variable), λ is. sym (told name) ∙ is ∙ declared variable)))
      program program' renamed elsewhere

  entry_takes : (list : List «Type») → EntryTakes ledger program list program.entry ↔ EntryTakes ledger' program' list program'.entry
  entry_takes list =
      subst (λ (entry : Option Name). EntryTakes ledger program list program.entry ↔ EntryTakes ledger' program' list entry) (sym renamed.entry) (by program.entry)
    where
      by : (entry : Option Name) → EntryTakes ledger program list entry ↔ EntryTakes ledger' program' list (option_map rename entry)
      by None = (λ holds. tt, λ holds. tt)
      by (Some entry) = (λ is. parameters_typed entry ∙ is, λ is. sym (parameters_typed entry) ∙ is)

  pub typed_alike : (signature : SignatureShape) → WellTyped ledger program signature ↔ WellTyped ledger' program' signature
  typed_alike signature =
      let items = items_typed (types_of signature.returns) in
      let entry = entry_takes (types_of signature.params) in
      (λ well. record { items = items.0 well.items; entry = entry.0 well.entry }, λ well. record { items = items.1 well.items; entry = entry.1 well.entry })

  pub tracked_alike : (tracked tracked' : Name → Bool) → ((x : Name) → tracked' (rename x) ≡ tracked x)
      → EachItem (KeepsTrackedApart ledger tracked) program ↔ EachItem (KeepsTrackedApart ledger' tracked') program'
  tracked_alike tracked tracked' same =
      each_alike rename (KeepsTrackedApart ledger tracked) (KeepsTrackedApart ledger' tracked')
      (say_alike rename (KeepsTrackedApart ledger tracked) (KeepsTrackedApart ledger' tracked')
      (λ place other instruction results. (λ holds. tt, λ holds. tt)) both both)
      program program' renamed elsewhere
    where
      both : (variable : ℕ) (name : Name) → (IsTrue (tracked name) → IsTrue (is_marked ledger variable)) ↔ (IsTrue (tracked' (rename name)) → IsTrue (is_marked ledger' variable))
      both variable name = (
        λ apart tracks. subst IsTrue (sym (marks variable)) (apart (subst IsTrue (same name) tracks)),
        λ apart tracks. subst IsTrue (marks variable) (apart (subst IsTrue (sym (same name)) tracks)),
      )

  pub libraries_alike : (pointer : «Type») → EachItem (CallsLibraryAsNamed pointer) program ↔ EachItem (CallsLibraryAsNamed pointer) program'
  libraries_alike pointer =
      each_alike rename (CallsLibraryAsNamed pointer) (CallsLibraryAsNamed pointer)
      (say_alike rename (CallsLibraryAsNamed pointer) (CallsLibraryAsNamed pointer)
      (λ place other instruction results. (λ holds. holds, λ holds. holds))
      (λ variable name. (λ holds. tt, λ holds. tt)) (λ variable name. (λ holds. tt, λ holds. tt)))
      program program' renamed elsewhere
