-- A finished function means what the calls mean, and so does what it becomes as recorded values are spilled.
use Rattle.std.proofs.Common.{◌≡◌, ◌≢◌, ◌<◌, ◌≤◌, ◌-◌, ◌⊎◌, ℕ, List, [], ◌∷◌, inl, inr, length, refl, sym, ◌∙◌, ap, subst}
use Rattle.std.specs.Prelude.{Option, None, Result, Ok, Err, OnErr, OnOk}
use Rattle.clif_instructions.proofs.Lists.{below_or_not}
use Rattle.std.proofs.lemmas.List.{get_or-append_right, get_or_past}
use Rattle.clif_types.specs.EntitySet.{has}
use Rattle.clif_types.specs.Signature.{SignatureShape}
use Rattle.clif_types.specs.Target.{pointer_type_of}
use Rattle.clif_types.specs.declared.target.PointerWidth.{PointerWidth}
use Rattle.clif_types.specs.declared.types.«Type».{«Type»}
use Rattle.clif_tables.specs.Callees.{types_of}
use Rattle.clif_tables.specs.Lists.{TableLists}
use Rattle.clif_nodes.specs.Nodes.{no_value}
use Rattle.clif_nodes.specs.declared.nodes.ValueNode.{ValueNode}
use Rattle.clif_ir.specs.Body.{Body, alias_of, alias_of_origin, empty_function, resolved, value_at}
use Rattle.clif_ir.proofs.Aliases.{follow_end}
use Rattle.clif_ir.specs.Consistent.{IsConsistent}
use Rattle.clif_meaning.specs.Headline.{MeansTheSame}
use Rattle.clif_meaning.specs.Ledger.{ledger_after}
use Rattle.clif_meaning.specs.Premises.{CallersEdgesMatch, IsItemWellTyped, ItemEdgesMatch, PlacementPremises}
use Rattle.clif_meaning.specs.Program.{Item, Instruct, Use, Assign, program_of}
use Rattle.clif_meaning.specs.Request.{AnsweredCall, script_of}
use Rattle.clif_meaning.specs.Typing.{EdgesMatch}
use Rattle.clif_meaning.specs.View.{view_of}
use Rattle.clif_simulation.specs.Laws.{IsFinished}
use Rattle.clif_simulation.specs.Marked.{MeansTheSameMoving}
use Rattle.clif_simulation.proofs.Carrying.{all_mapped}
use Rattle.clif_simulation.proofs.Shape.Defined.{well_placed}
use Rattle.clif_simulation.proofs.Tracking.Agreeing.{means_tracked}
use Rattle.clif_simulation.proofs.Tracking.Unrecorded.{means_unrecorded}
use Rattle.clif_simulation.proofs.Whole.{freed, whole}
use Rattle.clif_spiller.specs.Keeping.{Keeps}
use Rattle.clif_spiller.specs.Regions.{SpillsAndAsks}
use Rattle.clif_spiller.proofs.Advancing.{name_inside, names_stay}
use Rattle.clif_spiller.proofs.Keeping.{same_value}
use Rattle.clif_spiller.specs.Spills.{MayBeRun, Spills, beside}
use Rattle.clif_finished_laws.specs.Laws.{CarryingKeepsInOrder, IsOfScript, KeepsInOrder, SpilledMeansTheScript}
use Rattle.clif_builder.specs.declared.builder.FunctionBuilder.{FunctionBuilder}
use Rattle.clif_builder.specs.Context.{ContextState, empty_context}
use Rattle.clif_region_laws.specs.Laws.{AlikeFunctionsMeanTheSame}
use Rattle.clif_regions.specs.Asking.{Asks}
use Rattle.clif_builder.specs.Ending.{BecomesFinished, BecomesSpilled, recorded_in}
use Rattle.clif_builder.specs.Order.{IsInOrder, IsKept}
use Rattle.clif_builder.proofs.Declaring.{names_none}
use Rattle.clif_builder.proofs.Fitting.{fits_cleared}
use Rattle.clif_builder.proofs.Named.{kept_still}
use Rattle.clif_ssa.specs.Ssa.{NamesExist}
use Rattle.clif_builder.specs.StandsFor.{StandsFor}
use Rattle.clif_builder.proofs.Regions.{alike_of, none_asked}
use Rattle.clif_builder.proofs.Ordered.{order-bare, order-begins, order-cleared}
use Rattle.clif_builder.proofs.Placed.{in_order, listed_structured}
use Rattle.clif_builder.proofs.Standing.{standing_edges}

-- WHAT THE BUILDER KEEPS ------------------------------------------------------------------------------------------------

-- a value behind those that were there is no alias
new_unaliased : {n : ℕ} (f g : Body) → Keeps n f g → (v : ℕ) → length f.values ≤ v → alias_of g.values v ≡ None
new_unaliased f g keeps v past =
    ap (λ (values : List ValueNode). alias_of values v) keeps.values_are
    ∙ ap (λ (node : ValueNode). alias_of_origin node.origin) (get_or-append_right f.values keeps.values (length f.values) v no_value refl past)
    ∙ by (below_or_not (v - length f.values) (length keeps.values))
  where
    by : ((v - length f.values) < length keeps.values) ⊎ (length keeps.values ≤ v - length f.values) → alias_of keeps.values (v - length f.values) ≡ None
    by (inl there) = keeps.no_aliases (v - length f.values) there
    by (inr outside) = ap (λ (node : ValueNode). alias_of_origin node.origin) (get_or_past keeps.values (v - length f.values) no_value outside)

-- aliases have the types of what they stand for, as they had
aliases_kept : {n : ℕ} (f g : Body) → Keeps n f g → IsConsistent f → ((v : ℕ) → (value_at f (resolved f v)).ty ≡ (value_at f v).ty)
    → (v : ℕ) → (value_at g (resolved g v)).ty ≡ (value_at g v).ty
aliases_kept {n} f g keeps known types v = by (below_or_not v (length f.values))
  where
    by : (v < length f.values) ⊎ (length f.values ≤ v) → (value_at g (resolved g v)).ty ≡ (value_at g v).ty
    by (inl there) =
        ap (λ (w : ℕ). (value_at g w).ty) (names_stay n f g keeps known v there)
        ∙ ap (λ (node : ValueNode). node.ty) (same_value n f g keeps (resolved f v) (name_inside f known v there)) ∙ types v
        ∙ sym (ap (λ (node : ValueNode). node.ty) (same_value n f g keeps v there))
    by (inr past) = ap (λ (w : ℕ). (value_at g w).ty) (follow_end g.values (length g.values) v (new_unaliased f g keeps v past))

-- so they do in a finished function
aliases_finished : {C : Type 0} (f g : Body) (c : ContextState) (recorded : List ℕ) (pointer : «Type») (callback : Option C) (asks_of : C → Asks) → IsConsistent f → IsInOrder f c
    → BecomesFinished f recorded pointer callback asks_of g → (v : ℕ) → (value_at g (resolved g v)).ty ≡ (value_at g v).ty
aliases_finished f g c recorded pointer callback asks_of known order become =
    subst (λ (h : Body). (v : ℕ) → (value_at h (resolved h v)).ty ≡ (value_at h v).ty) (alike_of callback asks_of (length f.insts) become.between g become.regions)
    (by recorded become.between become.spilled)
  where
    by : (recorded : List ℕ) (h : Body) → BecomesSpilled f recorded pointer h → (v : ℕ) → (value_at h (resolved h v)).ty ≡ (value_at h v).ty
    by [] h same = subst (λ (k : Body). (v : ℕ) → (value_at k (resolved k v)).ty ≡ (value_at k v).ty) (sym same) (listed_structured f c order).alias_types
    by (x ∷ recorded) h (keeps, spills) = aliases_kept f h keeps known (listed_structured f c order).alias_types

-- the parts are in order once the context is cleared, whatever the answer is
pub order_ended : {E C : Type 0} (r : Result (Unit {0}) E) (f g : Body) (c : ContextState) (recorded : List ℕ) (pointer : «Type») (callback : Option C) (asks_of : C → Asks) → IsConsistent f
    → OnOk r (BecomesFinished f recorded pointer callback asks_of g)
    → OnErr r ((g ≡ f) ⊎ (g ≡ empty_function)) → IsInOrder f c → IsInOrder g empty_context
order_ended (Ok u) f g c recorded pointer callback asks_of known become emptied order = order-bare g (aliases_finished f g c recorded pointer callback asks_of known order become)
order_ended (Err e) f g c recorded pointer callback asks_of known become (inl same) order = subst (λ (h : Body). IsInOrder h empty_context) (sym same) (order-cleared f c empty_context refl order)
order_ended (Err e) f g c recorded pointer callback asks_of known become (inr empty) order =
    subst (λ (h : Body). IsInOrder h empty_context) (sym empty) (order-begins empty_function empty_context refl refl)

pub kept_cleared : {R : Type 0} (b : FunctionBuilder R) (d : ContextState) → d ≡ empty_context → ∥ IsKept b.func.now d b.failed ∥₁
kept_cleared b d cleared =
    kept_still b.func.now b.func.now b.ctx.now.parts d b.failed (λ names. subst (λ (e : ContextState). NamesExist b.func.now e.ssa) (sym cleared) (names_none b.func.now))
    (order-cleared b.func.now b.ctx.now.parts d cleared) (λ fits. fits_cleared b.func.now d cleared) b.named

pub kept_ended : {E C : Type 0} {R : Type 0} (b : FunctionBuilder R) (r : Result (Unit {0}) E) (g : Body) (d : ContextState) (pointer : «Type») (callback : Option C) (asks_of : C → Asks)
    → IsConsistent b.func.now → OnOk r (BecomesFinished b.func.now (recorded_in b) pointer callback asks_of g) → OnErr r ((g ≡ b.func.now) ⊎ (g ≡ empty_function)) → d ≡ empty_context → ∥ IsKept g d b.failed ∥₁
kept_ended b r g d pointer callback asks_of known become emptied cleared =
    kept_still b.func.now g b.ctx.now.parts d b.failed (λ names. subst (λ (e : ContextState). NamesExist g e.ssa) (sym cleared) (names_none g))
    (λ order. subst (IsInOrder g) (sym cleared) (order_ended r b.func.now g b.ctx.now.parts (recorded_in b) pointer callback asks_of known become emptied order))
    (λ fits. fits_cleared g d cleared) b.named

-- where nothing is recorded the function stays
pub nothing_finished : {C : Type 0} (f : Body) (recorded : List ℕ) (pointer : «Type») (callback : Option C) (asks_of : C → Asks) → recorded ≡ [] → BecomesFinished f recorded pointer callback asks_of f
nothing_finished f recorded pointer callback asks_of none =
    subst (λ (values : List ℕ). BecomesFinished f values pointer callback asks_of f) (sym none)
    (record { between = f; spilled = refl; regions = none_asked callback asks_of f })

pub spilled_finished : {E C : Type 0} (r : Result (Unit {0}) E) (f g : Body) (recorded : List ℕ) (pointer : «Type») (callback : Option C) (asks_of : C → Asks) → recorded ≢ []
    → OnOk r (SpillsAndAsks f recorded pointer callback asks_of g) → OnOk r (BecomesFinished f recorded pointer callback asks_of g)
spilled_finished (Err e) f g recorded pointer callback asks_of some spills = tt
spilled_finished (Ok u) f g [] pointer callback asks_of some spills = absurd (some refl)
spilled_finished (Ok u) f g (v ∷ recorded) pointer callback asks_of some spills =
    record { between = spills.between; spilled = (spills.keeps, spills.spills); regions = spills.regions }

-- the type of addresses is this one
pub finished_at : {E C : Type 0} (r : Result (Unit {0}) E) (f g : Body) (recorded : List ℕ) (ty pointer : «Type») (callback : Option C) (asks_of : C → Asks) → ty ≡ pointer
    → OnOk r (BecomesFinished f recorded ty callback asks_of g) → OnOk r (BecomesFinished f recorded pointer callback asks_of g)
finished_at r f g recorded ty pointer callback asks_of is become = subst (λ (t : «Type»). OnOk r (BecomesFinished f recorded t callback asks_of g)) is become

-- WHAT THE FUNCTION MEANS -----------------------------------------------------------------------------------------------

module _ {R : Type 0} (declared : SignatureShape) (calls : List AnsweredCall) (b : FunctionBuilder R) (width : PointerWidth) (stands : StandsFor declared calls b)
    (consistent : IsConsistent b.func.now) (finished : IsFinished calls b.func.now b.ctx.now.parts.ssa)
  where
    -- what is well typed passes arguments that match
    item_matches : (item : Item) → IsItemWellTyped (ledger_after (script_of calls)) (program_of (script_of calls)) (types_of declared.returns) item
        → ItemEdgesMatch (ledger_after (script_of calls)) (program_of (script_of calls)) item
    item_matches (Instruct place instruction results) typed = typed.edges
    item_matches (Use variable name) typed = tt
    item_matches (Assign variable name) typed = tt

    callers_match : PlacementPremises (script_of calls) declared → CallersEdgesMatch (script_of calls)
    callers_match premises block =
        all_mapped (IsItemWellTyped (ledger_after (script_of calls)) (program_of (script_of calls)) (types_of declared.returns)) (ItemEdgesMatch (ledger_after (script_of calls)) (program_of (script_of calls)))
        item_matches ((program_of (script_of calls)).items block) (premises.well_typed.items block)

    -- the function may be run as it was found
    may_be_run : PlacementPremises (script_of calls) declared → MayBeRun b.func.now
    may_be_run premises = record {
      aliases_typed = (listed_structured b.func.now b.ctx.now.parts (in_order stands.ledger)).alias_types;
      edges_match = standing_edges declared calls b.func.now b.ctx.now.parts b.position stands finished.none_waits (callers_match premises);
      well_placed =
          well_placed calls b.func.now b.ctx.now.parts.ssa consistent
          (whole calls b.func.now b.ctx.now.parts.ssa consistent stands.carries (freed calls b.func.now b.ctx.now.parts.ssa stands.carries premises.targets_filled)) premises.given_before;
    }

    pub moving : MeansTheSameMoving (script_of calls) declared width (view_of b.func.now) (has (recorded_in b))
    moving =
        subst (λ (s : SignatureShape). MeansTheSameMoving (script_of calls) s width (view_of b.func.now) (has (recorded_in b))) stands.signature
        (means_tracked calls b.func.now b.ctx.now.parts.ssa width consistent stands.carries finished stands.ledger.tracks.marks)

    -- where nothing is recorded
    unrecorded : recorded_in b ≡ [] → MeansTheSame (script_of calls) declared width (view_of b.func.now)
    unrecorded none =
        subst (λ (s : SignatureShape). MeansTheSame (script_of calls) s width (view_of b.func.now)) stands.signature
        (means_unrecorded calls b.func.now b.ctx.now.parts.ssa width consistent stands.carries finished stands.ledger.tracks.marks none)

    module _ (in_order_law : CarryingKeepsInOrder) (composes : SpilledMeansTheScript) where
      keeps : KeepsInOrder (script_of calls) declared width (view_of b.func.now) (has (recorded_in b))
      keeps =
          subst (λ (s : SignatureShape). KeepsInOrder (script_of calls) s width (view_of b.func.now) (has (recorded_in b))) stands.signature
          (in_order_law calls b.func.now b.ctx.now.parts.ssa width consistent stands.carries finished stands.ledger.tracks.marks)

      of_script : (g : Body) → (k : Keeps (length b.func.now.blocks) b.func.now g) → (s : Spills b.func.now (recorded_in b) (pointer_type_of width) g)
          → IsOfScript (script_of calls) width (beside b.func.now (pointer_type_of width) g s.is_spilled s.slot_of)
      of_script g k s = record {
        slots = ap (λ (tables : TableLists). length tables.stack_slots) stands.ledger.tables;
        old_slots = (k.slots, k.slots_are);
        pointers = refl;
      }

      spilled : (g : Body) → Keeps (length b.func.now.blocks) b.func.now g → Spills b.func.now (recorded_in b) (pointer_type_of width) g
          → MeansTheSame (script_of calls) declared width (view_of g)
      spilled g k s =
          composes (script_of calls) declared width (beside b.func.now (pointer_type_of width) g s.is_spilled s.slot_of) (has (recorded_in b)) (of_script g k s) moving keeps
          (λ premises world met. s.same_meaning (may_be_run premises) world met)

      -- whatever is recorded
      pub becomes : (recorded : List ℕ) → recorded_in b ≡ recorded → (g : Body) → BecomesSpilled b.func.now recorded (pointer_type_of width) g
          → MeansTheSame (script_of calls) declared width (view_of g)
      becomes [] is g same = subst (λ (h : Body). MeansTheSame (script_of calls) declared width (view_of h)) (sym same) (unrecorded is)
      becomes (v ∷ recorded) is g (k, s) = spilled g k (subst (λ (values : List ℕ). Spills b.func.now values (pointer_type_of width) g) (sym is) s)

    -- and its edges match, where the caller's do
    pub becomes_matching : CallersEdgesMatch (script_of calls) → (recorded : List ℕ) → (g : Body) → BecomesSpilled b.func.now recorded (pointer_type_of width) g
        → EdgesMatch (view_of g)
    becomes_matching typed recorded g become = by recorded become
      where
        found : EdgesMatch (view_of b.func.now)
        found = standing_edges declared calls b.func.now b.ctx.now.parts b.position stands finished.none_waits typed

        by : (recorded : List ℕ) → BecomesSpilled b.func.now recorded (pointer_type_of width) g → EdgesMatch (view_of g)
        by [] same = subst (λ (h : Body). EdgesMatch (view_of h)) (sym same) found
        by (v ∷ recorded) (k, s) = s.edges_match (listed_structured b.func.now b.ctx.now.parts (in_order stands.ledger)).alias_types found

    -- so of the function at its end, in which accesses name regions
    module _ (alike : AlikeFunctionsMeanTheSame) {C : Type 0} (callback : Option C) (asks_of : C → Asks) (g : Body)
        (become : BecomesFinished b.func.now (recorded_in b) (pointer_type_of width) callback asks_of g)
      where
        pub finished_means : CarryingKeepsInOrder → SpilledMeansTheScript → MeansTheSame (script_of calls) declared width (view_of g)
        finished_means in_order_law composes =
            alike.means become.between g (script_of calls) declared width (alike_of callback asks_of (length b.func.now.insts) become.between g become.regions)
            (becomes in_order_law composes (recorded_in b) refl become.between become.spilled)

        pub finished_matches : CallersEdgesMatch (script_of calls) → EdgesMatch (view_of g)
        finished_matches typed =
            alike.edges become.between g (alike_of callback asks_of (length b.func.now.insts) become.between g become.regions)
            (becomes_matching typed (recorded_in b) become.between become.spilled)
