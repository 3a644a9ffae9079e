-- The values of a function fit that carries a list of calls.
use Rattle.std.proofs.Common.{◌≡◌, ℕ, List, [], ◌∷◌, ◌++◌, map, Bool, true, false, Some, None, Option, refl, sym, ◌∙◌, ap, ap₂, subst, ◌==◌}
use Rattle.std.specs.Prelude.{if◌then◌else◌}
use Rattle.std.specs.List.{AllByRecursion, flat_map, list_any}
use Rattle.std.proofs.lemmas.List.{map-append}
use Rattle.clif_types.specs.declared.types.«Type».{«Type»}
use Rattle.clif_ir.specs.Body.{Body, block_at}
use Rattle.clif_ssa.specs.Own.{Own}
use Rattle.clif_ssa.specs.Ssa.{SsaState, sealed_of}
use Rattle.clif_ssa.specs.Sound.{entry_of}
use Rattle.clif_ssa.specs.Structured.{Structured}
use Rattle.clif_ssa.specs.Zeros.{insts_of_zeros}
use Rattle.clif_tables.specs.Callees.{types_of}
use Rattle.clif_meaning.specs.FunctionView.{Placed}
use Rattle.clif_meaning.specs.Ledger.{or_invalid}
use Rattle.clif_meaning.specs.Name.{Name}
use Rattle.clif_meaning.specs.Outcome.{outcome_of}
use Rattle.clif_meaning.specs.Premises.{CallersEdgesMatch, IsItemWellTyped, ItemEdgesMatch, EntryTakes, WellTyped}
use Rattle.clif_meaning.specs.Program.{Item, Instruct, Use, Assign, result_types}
use Rattle.clif_meaning.specs.Request.{AnsweredCall, script_of}
use Rattle.clif_meaning.specs.Typing.{EachEdgeMatches, EdgesMatch, TakesOperands, call_shape, value_types_at}
use Rattle.clif_meaning.specs.View.{items_of, placed_of, view_of}
use Rattle.clif_simulation.specs.Carries.{Carries, Holds, IsValue, NamesEarlier, ValuesTyped, carried, own_placed}
use Rattle.clif_simulation.specs.Structure.{NoneWaits}
use Rattle.clif_simulation.specs.Tables.{answered, block_name, callers_parameters, program_so_far}
use Rattle.clif_simulation.proofs.Shape.CallersAlone
use Rattle.clif_simulation.proofs.Shape.CarriedStructure.{matching_edges}
use Rattle.clif_simulation.proofs.Carrying.{all_append, all_mapped}
use Rattle.clif_simulation.proofs.LedgerValues.{value_type}
use Rattle.clif_simulation.proofs.Whole.{are_declared, declared_types}
use Rattle.clif_value_laws.specs.Functions.{CarriedFunctionsFit, run_of}
use Rattle.clif_typed_runs.specs.ValuesFit.{AliasesTyped, EntryHas}
use Rattle.clif_value_laws.proofs.AcceptedScripts.{AreTyped, HasGiven, calls_given, ledger_of, name_type}
use Rattle.clif_typed_runs.proofs.FunctionSteps.{GivesFitting, WorksFitting, working_runs_fit}
use Rattle.clif_typed_runs.proofs.Holding.{operands_fit}
use Rattle.clif_typed_runs.proofs.Outcomes.{GivesValues, outcome_values}
use Rattle.clif_value_laws.proofs.ZeroValues.{zeros_fit}

-- NAMES AND VALUES --------------------------------------------------------------------------------------------------------

module _ (calls : List AnsweredCall) (f : Body) (typed : ValuesTyped calls f) where
  value_is : (name : Name) → IsValue calls name → (view_of f).value_type (answered calls name) ≡ name_type calls name
  value_is name is =
      let known = value_type calls name is in
      (typed name known.0 known.1).1 ∙ sym (ap or_invalid known.1)

  values_are : (names : List Name) → AllByRecursion (IsValue calls) names → map (view_of f).value_type (map (answered calls) names) ≡ map (name_type calls) names
  values_are [] all = refl
  values_are (name ∷ names) all = ap₂ (λ (ty : «Type») (types : List «Type»). ty ∷ types) (value_is name all.0) (values_are names all.1)

  results_are : (names : List Name) (types : List «Type») → AreTyped calls names types → map (view_of f).value_type (map (answered calls) names) ≡ types
  results_are [] [] all = refl
  results_are [] (ty ∷ types) all = absurd all
  results_are (name ∷ names) [] all = absurd all
  results_are (name ∷ names) (ty ∷ types) all =
      ap₂ (λ (t : «Type») (ts : List «Type»). t ∷ ts) (typed name ty all.0).1 (results_are names types all.1)

  -- THE CALLER'S INSTRUCTIONS -----------------------------------------------------------------------------------------------

  abbrev returns : List «Type»
  returns = types_of f.signature.returns

  item_fits : (item : Item) → IsItemWellTyped (ledger_of calls) (program_so_far calls) returns item → HasGiven ⊥ (declared_types calls) calls item → NamesEarlier calls item
      → AllByRecursion (GivesFitting (view_of f)) (carried calls item)
  item_fits (Instruct place instruction results) well given named = (
    λ world bits memory holds.
        subst (λ (types : List «Type»). GivesValues types returns (call_shape instruction.operation)
        (outcome_of world instruction.operation instruction.controlling (map (view_of f).value_type (map (answered calls) instruction.operands))
        (map bits (map (answered calls) instruction.operands)) memory))
        (sym (results_are results (result_types instruction.operation instruction.controlling) given.0))
        (outcome_values world instruction.operation instruction.controlling returns (map (view_of f).value_type (map (answered calls) instruction.operands))
        (map bits (map (answered calls) instruction.operands)) memory well.made_at
        (subst (λ (types : List «Type»). TakesOperands returns instruction.operation instruction.controlling types) (sym (values_are instruction.operands named.0)) well.operands)
        (operands_fit (view_of f).value_type bits holds (map (answered calls) instruction.operands))),
    tt,
  )
  item_fits (Use variable name) well given named = tt
  item_fits (Assign variable name) well given named = tt

  items_fit : (items : List Item) → AllByRecursion (IsItemWellTyped (ledger_of calls) (program_so_far calls) returns) items
      → AllByRecursion (HasGiven ⊥ (declared_types calls) calls) items → AllByRecursion (NamesEarlier calls) items
      → AllByRecursion (GivesFitting (view_of f)) (flat_map (carried calls) items)
  items_fit [] well given named = tt
  items_fit (item ∷ items) well given named =
      all_append (GivesFitting (view_of f)) (carried calls item) (flat_map (carried calls) items) (item_fits item well.0 given.0 named.0) (items_fit items well.1 given.1 named.1)

-- BLOCKS ------------------------------------------------------------------------------------------------------------------

-- with what its edges pass aside, an instruction of the caller's is that of the function
of_own : (own : Own) (f : Body) (insts : List ℕ) → AllByRecursion (GivesFitting (view_of f)) (map (own_placed own f) insts)
    → AllByRecursion (λ inst. GivesFitting (view_of f) (placed_of f inst)) insts
of_own own f [] all = tt
of_own own f (inst ∷ insts) all = (all.0, of_own own f insts all.1)

of_insts : (f : Body) (insts : List ℕ) → AllByRecursion (λ inst. GivesFitting (view_of f) (placed_of f inst)) insts
    → AllByRecursion (GivesFitting (view_of f)) (map (placed_of f) insts)
of_insts f [] all = tt
of_insts f (inst ∷ insts) all = (all.0, of_insts f insts all.1)

module _ (calls : List AnsweredCall) (f : Body) (s : SsaState) (carries : Carries calls f s) (none_waits : NoneWaits s)
    (well : WellTyped (ledger_of calls) (program_so_far calls) f.signature) where
  abbrev own : Own
  own = carries.own

  holds : Holds calls own f s
  holds = carries.holds

  structured : Structured (declared_types calls) own f s []
  structured = holds.structured (declared_types calls) (are_declared calls)

  own_fit : (block : ℕ) (o : Option Name) → block_name calls block ≡ o
      → AllByRecursion (λ inst. GivesFitting (view_of f) (placed_of f inst)) (own.insts block)
  own_fit block None none = subst (AllByRecursion (λ inst. GivesFitting (view_of f) (placed_of f inst))) (sym (holds.own_named block none)) tt
  own_fit block (Some name) named =
      of_own own f (own.insts block)
      (subst (AllByRecursion (GivesFitting (view_of f))) (sym (holds.items block name named))
      (items_fit calls f holds.values_typed ((program_so_far calls).items name) (well.items name) (calls_given calls name) (holds.earlier name)))

  insts_fit : (block : ℕ) → AllByRecursion (λ inst. GivesFitting (view_of f) (placed_of f inst)) (block_at f block).insts
  insts_fit block =
      let here = structured.zeros block in
      subst (AllByRecursion (λ inst. GivesFitting (view_of f) (placed_of f inst))) (sym here.in_order)
      (all_append (λ inst. GivesFitting (view_of f) (placed_of f inst)) (insts_of_zeros here.zeros) (own.insts block)
      (zeros_fit f here.zeros here.needed) (own_fit block (block_name calls block) refl))

  gives_fit : (block : ℕ) → AllByRecursion (GivesFitting (view_of f)) (items_of f block)
  gives_fit block = by (list_any (λ other. other == block) f.layout)
    where
      by : (placed : Bool) → AllByRecursion (GivesFitting (view_of f)) (if placed then map (placed_of f) (block_at f block).insts else [])
      by true = of_insts f (block_at f block).insts (insts_fit block)
      by false = tt

  -- EDGES -------------------------------------------------------------------------------------------------------------------

  item_matches : (item : Item) → IsItemWellTyped (ledger_of calls) (program_so_far calls) (types_of f.signature.returns) item
      → ItemEdgesMatch (ledger_of calls) (program_so_far calls) item
  item_matches (Instruct place instruction results) typed = typed.edges
  item_matches (Use variable name) typed = tt
  item_matches (Assign variable name) typed = tt

  callers_match : CallersEdgesMatch (script_of calls)
  callers_match block =
      all_mapped (IsItemWellTyped (ledger_of calls) (program_so_far calls) (types_of f.signature.returns)) (ItemEdgesMatch (ledger_of calls) (program_so_far calls))
      item_matches ((program_so_far calls).items block) (well.items block)

  edges_match : EdgesMatch (view_of f)
  edges_match = matching_edges calls f s carries none_waits callers_match

  both : (items : List Placed) → AllByRecursion (GivesFitting (view_of f)) items
      → AllByRecursion (λ placed. EachEdgeMatches (view_of f).value_type (value_types_at (view_of f)) (call_shape placed.instruction.operation) placed.instruction.edges) items
      → AllByRecursion (WorksFitting (view_of f)) items
  both [] gives edges = tt
  both (placed ∷ items) gives edges = (record { gives = gives.0; edges = edges.0 }, both items gives.1 edges.1)

  -- each instruction gives what fits, and so does what its edges pass
  pub works : (block : ℕ) → AllByRecursion (WorksFitting (view_of f)) (items_of f block)
  works block = both (items_of f block) (gives_fit block) (edges_match block)

  pub aliases_typed : AliasesTyped (view_of f)
  aliases_typed = structured.alias_types

  -- THE ENTRY ---------------------------------------------------------------------------------------------------------------

  entry_params : (block : ℕ) (name : Name) → block_name calls block ≡ Some name → EntryTakes (ledger_of calls) (program_so_far calls) (types_of f.signature.params) (Some name)
      → EntryHas (value_types_at (view_of f)) (types_of f.signature.params) (Some block)
  entry_params block name named takes =
      let complete : List ℕ = (structured.parameters block).complete in
      let callers : own.params block ≡ map (answered calls) ((program_so_far calls).parameters name) =
      holds.parameters block ∙ ap (λ (o : Option Name). map (answered calls) (callers_parameters calls o)) named in
      let params : (block_at f block).params ≡ own.params block ++ complete =
      CallersAlone.callers_first calls f s own (declared_types calls) structured holds.parameters block
      (CallersAlone.none_waiting calls f s own (declared_types calls) structured holds.parameters block (sealed_of s block) (none_waits block)) in (
        map (view_of f).value_type complete,
        ap (map (view_of f).value_type) (params ∙ ap (λ (first : List ℕ). first ++ complete) callers)
            ∙ map-append (view_of f).value_type (map (answered calls) ((program_so_far calls).parameters name)) complete
            ∙ ap (λ (types : List «Type»). types ++ map (view_of f).value_type complete)
            (values_are calls f holds.values_typed ((program_so_far calls).parameters name) (holds.parameters_values name) ∙ takes),
      )

  entry_has : (o : Option Name) → (program_so_far calls).entry ≡ o → EntryTakes (ledger_of calls) (program_so_far calls) (types_of f.signature.params) o
      → EntryHas (value_types_at (view_of f)) (types_of f.signature.params) (entry_of f)
  entry_has None is takes = subst (EntryHas (value_types_at (view_of f)) (types_of f.signature.params)) (sym (holds.entry.none is)) tt
  entry_has (Some name) is takes =
      let there = holds.entry.some name is in
      subst (EntryHas (value_types_at (view_of f)) (types_of f.signature.params)) (sym there.1) (entry_params there.0 name there.2 takes)

pub carried_fit : CarriedFunctionsFit
carried_fit calls f s carries none_waits well collector hidden world arguments =
    working_runs_fit (run_of f collector hidden world) (aliases_typed calls f s carries none_waits well) (works calls f s carries none_waits well)
    (types_of f.signature.params)
    (entry_has calls f s carries none_waits well (program_so_far calls).entry refl well.entry) arguments
