-- What a function means, what its edges pass, and what is given before it is named: without regions as with them.
use Rattle.std.proofs.Common.{◌≡◌, ℕ, List, [], ◌∷◌, refl, sym, ◌∙◌, ap, subst, Option, Some, None}
use Rattle.std.specs.Prelude.{option_map, slice_get}
use Rattle.std.specs.List.{AllByRecursion}
use Rattle.std.proofs.lemmas.List.{length-map}
use Rattle.std.proofs.lemmas.Option.{slice_get-map}
use Rattle.std.proofs.Math.Path.{fun_ext}
use Rattle.clif_types.specs.Signature.{SignatureShape}
use Rattle.clif_types.specs.declared.target.PointerWidth.{PointerWidth}
use Rattle.clif_meaning.specs.Event.{CallShape}
use Rattle.clif_meaning.specs.FunctionMachine.{ByMaps}
use Rattle.clif_meaning.specs.FunctionView.{FunctionView, Placed}
use Rattle.clif_meaning.specs.Headline.{MeansTheSame, function_behaviour, function_run, script_behaviour}
use Rattle.clif_meaning.specs.Instruction.{Load, Operation, Store}
use Rattle.clif_meaning.specs.Request.{Script}
use Rattle.clif_meaning.specs.SameMeaning.{Behaviour, SameMeaning}
use Rattle.clif_meaning.specs.Typing.{EachEdgeMatches, call_shape, value_types_at}
use Rattle.clif_meaning.specs.WellPlaced.{IsWellPlaced, function_code, placed_gives, placed_names, placed_passes, placed_targets}
use Rattle.clif_meaning.specs.World.{World}
use Rattle.clif_region_laws.specs.Laws.{RegionsMeanNothing}
use Rattle.clif_region_laws.specs.Regions.{plain_items, plain_operation, plain_placed, without_regions}
use Rattle.clif_region_laws.proofs.Running.{shows}

-- MEANING -----------------------------------------------------------------------------------------------------------------

module _ (script : Script) (signature : SignatureShape) (width : PointerWidth) (function : FunctionView) where
  same_shown : (world : World) → function_behaviour script function world ≡ function_behaviour script (without_regions function) world
  same_shown world = fun_ext (shows (function_run script function world ByMaps))

  means_without : MeansTheSame script signature width function → MeansTheSame script signature width (without_regions function)
  means_without means world is meets =
      subst (λ (shown : Behaviour). SameMeaning (script_behaviour script function world) shown) (same_shown world)
      (means world (record { arguments = is.arguments; pointers = is.pointers; slots = is.slots }) meets)

  means_with : MeansTheSame script signature width (without_regions function) → MeansTheSame script signature width function
  means_with means world is meets =
      subst (λ (shown : Behaviour). SameMeaning (script_behaviour script function world) shown) (sym (same_shown world))
      (means world (record { arguments = is.arguments; pointers = is.pointers; slots = is.slots }) meets)

-- EDGES -------------------------------------------------------------------------------------------------------------------

-- an access isn't a call
shape_stays : (operation : Operation) → call_shape (plain_operation operation) ≡ call_shape operation
shape_stays (Load flags offset) = refl
shape_stays (Store flags offset) = refl
shape_stays _ = refl

module _ (function : FunctionView) where
  abbrev Match : Placed → Type 0
  Match placed = EachEdgeMatches function.value_type (value_types_at function) (call_shape placed.instruction.operation) placed.instruction.edges

  edges_without : (items : List Placed) → AllByRecursion Match items → AllByRecursion Match (plain_items items)
  edges_without [] match = tt
  edges_without (placed ∷ items) match = (
    subst (λ (call : Option CallShape). EachEdgeMatches function.value_type (value_types_at function) call placed.instruction.edges)
        (sym (shape_stays placed.instruction.operation)) match.0,
    edges_without items match.1,
  )

  edges_with : (items : List Placed) → AllByRecursion Match (plain_items items) → AllByRecursion Match items
  edges_with [] match = tt
  edges_with (placed ∷ items) match = (
    subst (λ (call : Option CallShape). EachEdgeMatches function.value_type (value_types_at function) call placed.instruction.edges)
        (shape_stays placed.instruction.operation) match.0,
    edges_with items match.1,
  )

-- PLACES ------------------------------------------------------------------------------------------------------------------

-- what is read of the item at a place, if it doesn't depend on its region
read_stays : {X : Type 0} (reads : Option Placed → X) → ((item : Option Placed) → reads (option_map plain_placed item) ≡ reads item) → (items : List Placed) (index : ℕ)
    → reads (slice_get (plain_items items) index) ≡ reads (slice_get items index)
read_stays reads same items index = ap reads (slice_get-map plain_placed items index) ∙ same (slice_get items index)

same_code : (function : FunctionView) → function_code (without_regions function) ≡ function_code function
same_code function = λ i. record {
  flow = record {
    entry = function.entry;
    size = λ block. length-map (function.blocks block).items plain_placed i;
    targets = λ p. read_stays placed_targets targets (function.blocks p.block).items p.index i;
  };
  parameters = λ block. (function.blocks block).parameters;
  gives = λ p. read_stays placed_gives gives (function.blocks p.block).items p.index i;
  names = λ p. read_stays (placed_names function.resolved) names (function.blocks p.block).items p.index i;
  passes = λ p. read_stays (placed_passes function.resolved) passes (function.blocks p.block).items p.index i;
}
  where
    targets : (item : Option Placed) → placed_targets (option_map plain_placed item) ≡ placed_targets item
    targets None = refl
    targets (Some placed) = refl

    gives : (item : Option Placed) → placed_gives (option_map plain_placed item) ≡ placed_gives item
    gives None = refl
    gives (Some placed) = refl

    names : (item : Option Placed) → placed_names function.resolved (option_map plain_placed item) ≡ placed_names function.resolved item
    names None = refl
    names (Some placed) = refl

    passes : (item : Option Placed) → placed_passes function.resolved (option_map plain_placed item) ≡ placed_passes function.resolved item
    passes None = refl
    passes (Some placed) = refl

pub regions_mean_nothing : RegionsMeanNothing
regions_mean_nothing = record {
  shows = shows;
  means = λ script signature width function. (means_without script signature width function, means_with script signature width function);
  edges = λ function. (
    λ match block. edges_without function (function.blocks block).items (match block),
    λ match block. edges_with function (function.blocks block).items (match block),
  );
  placed = λ function. (subst IsWellPlaced (sym (same_code function)), subst IsWellPlaced (same_code function));
}
