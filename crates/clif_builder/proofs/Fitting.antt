-- What stack maps are asked for fits them, whatever the calls are.
use Rattle.std.proofs.Common.{◌≡◌, ◌≢◌, ◌<◌, ◌≤◌, ◌==◌, ◌||◌, ◌⊎◌, ℕ, Bool, true, false, if◌then◌else◌, List, [], ◌∷◌, ◌++◌, length, refl, sym, ◌∙◌, ap, subst, arith, inl, inr}
use Rattle.std.specs.Prelude.{Contains, IfOk, IsTrue, OnOk, Option, Result, Ok, Err, Some, slice_get}
use Rattle.std.proofs.lemmas.Bool.{cases_eq, eq-eqb, ne_eqb, or_left, or_right}
use Rattle.std.proofs.lemmas.List.{get_or_past}
use Rattle.clif_types.specs.EntitySet.{has, with_member}
use Rattle.clif_types.specs.declared.types.«Type».{«Type»}
use Rattle.clif_types.specs.declared.types.«Type».TheVariants.{Invalid}
use Rattle.clif_types.proofs.Marks.{has-with_member}
use Rattle.clif_types.specs.Types.{bytes_of}
use Rattle.clif_nodes.specs.Nodes.{no_value}
use Rattle.clif_nodes.specs.declared.nodes.ValueNode.{ValueNode}
use Rattle.clif_instructions.specs.Edges.{targets}
use Rattle.clif_instructions.specs.Instruction.{destinations}
use Rattle.clif_instructions.specs.declared.instructions.InstructionData.{InstructionData}
use Rattle.clif_ir.specs.Body.{Body, value_at}
use Rattle.clif_ir.specs.Changes.{inserted_in}
use Rattle.clif_meaning.specs.Ledger.{or_invalid}
use Rattle.clif_stack_slots.specs.Sizes.{FitsStackMap}
use Rattle.clif_spiller.specs.Plans.{MayBeSpilled}
use Rattle.clif_records.specs.Tracking.{Tracked, marked_of, recorded_of, with_binding, with_mark, with_recorded}
use Rattle.clif_ssa.proofs.Ordering.{contains_cons, none_contained}
use Rattle.clif_simulation.proofs.Values.{false_is}
use Rattle.clif_ssa.specs.Tracked.{IsMadeForMarked, TracksMade}
use Rattle.clif_builder.specs.Builder.{AppendsIn}
use Rattle.clif_builder.specs.Construction.{IsDeclared, IsSealingOf, IsUse}
use Rattle.clif_builder.specs.Context.{Begins, ContextState, empty_context}
use Rattle.clif_builder.specs.Growth.{TypesStay}
use Rattle.clif_builder.specs.Order.{IsInOrder}
use Rattle.clif_builder.specs.Tracking.{AskedFits, FitsMaps, VariableFits, with_tracking}
use Rattle.clif_builder.proofs.Tracks.{tracks_made}
use Rattle.clif_builder.proofs.Framed.{appended-types, sealed-types, used-types}
use Rattle.clif_builder.proofs.LedgerLists.{get-front}
use Rattle.clif_builder.proofs.Placed.{listed_structured, listed_type}

-- a value that doesn't exist has a type that doesn't fit
exists_if_fits : (f : Body) (v : ℕ) → FitsStackMap (value_at f v).ty → v < length f.values
exists_if_fits f v fits = by (order v (length f.values))
  where
    order : (n k : ℕ) → (n < k) ⊎ (k ≤ n)
    order n k = grind arith

    by : (v < length f.values) ⊎ (length f.values ≤ v) → v < length f.values
    by (inl there) = there
    by (inr past) =
        let some : 1 ≤ bytes_of Invalid = (subst (λ (node : ValueNode). FitsStackMap node.ty) (get_or_past f.values v no_value past) fits).some in
        absurd (omega (arith, some))

-- a member of a longer list is the new one or was there
member_or : (xs : List ℕ) (n v : ℕ) → IsTrue (has (with_member xs n) v) → (n ≡ v) ⊎ IsTrue (has xs v)
member_or xs n v is = by (cases_eq n v)
  where
    by : (n ≡ v) ⊎ (n ≢ v) → (n ≡ v) ⊎ IsTrue (has xs v)
    by (inl same) = inl same
    by (inr other) = inr (sym (has-with_member xs n v ∙ ap (λ (b : Bool). b || has xs v) (ne_eqb n v other)) ∙ is)

same_type : (s t : «Type») → Some s ≡ Some t → s ≡ t
same_type s t same = ap (λ (o : Option «Type»). or_invalid o) same

pub contained_has : (xs : List ℕ) (v : ℕ) → Contains xs v → IsTrue (has xs v)
contained_has [] v here = absurd (none_contained v here)
contained_has (x ∷ xs) v here = by (contains_cons x xs v here) (contained_has xs v)
  where
    by : (x ≡ v) ⊎ Contains xs v → (Contains xs v → IsTrue (has xs v)) → IsTrue (has (x ∷ xs) v)
    by (inl same) rest = or_left (x == v) (has xs v) (eq-eqb x v same)
    by (inr later) rest = or_right (x == v) (has xs v) (rest later)

module _ (f : Body) (c : ContextState) (fits : FitsMaps f c) where
  -- values keep their types
  still_fits : (g : Body) → TypesStay f g → (v : ℕ) → MayBeSpilled f v → MayBeSpilled g v
  still_fits g types v may =
      let fits_there : FitsStackMap (value_at g v).ty = subst FitsStackMap (sym (types v may.exists)) may.fits in
      record { exists = exists_if_fits g v fits_there; fits = fits_there }

  still_declared : (d : ContextState) → d.variables ≡ c.variables → (x : ℕ) → VariableFits c x → VariableFits d x
  still_declared d variables x was = record {
    ty = was.ty;
    declared = ap (λ (xs : List «Type»). slice_get xs x) variables ∙ was.declared;
    fits = was.fits;
  }

  -- what is tracked stays
  kept : (g : Body) (d : ContextState) → TypesStay f g → d.ssa.tracking ≡ c.ssa.tracking → d.variables ≡ c.variables → FitsMaps g d
  kept g d types same variables = record {
    marked = λ x is. still_declared d variables x (fits.marked x (subst (λ (t : Tracked). IsTrue (has (marked_of t) x)) same is));
    recorded = λ v is. still_fits g types v (fits.recorded v (subst (λ (t : Tracked). IsTrue (has (recorded_of t) v)) same is));
  }

  -- parameters were made for marked variables
  made : (g : Body) (d : ContextState) (count : ℕ) → TypesStay f g → TracksMade count c.ssa d.ssa → d.variables ≡ c.variables → IsInOrder g d → FitsMaps g d
  made g d count types tracks variables order = record {
    marked = λ x is. still_declared d variables x (fits.marked x (subst (λ (xs : List ℕ). IsTrue (has xs x)) tracks.marks is));
    recorded = λ v is. by v ((tracks.recorded v).0 is);
  }
    where
      by : (v : ℕ) → IsTrue (has (recorded_of c.ssa.tracking) v) ⊎ IsMadeForMarked count c.ssa d.ssa v → MayBeSpilled g v
      by v (inl was) = still_fits g types v (fits.recorded v was)
      by v (inr new) =
          let variable = still_declared d variables new.variable (fits.marked new.variable new.marked) in
          let typed = (listed_structured g d order).recorded new.variable new.block v new.on_record in
          record {
            exists = typed.0;
            fits = subst FitsStackMap (sym (typed.1 ∙ listed_type d.variables new.variable variable.ty variable.declared)) variable.fits;
          }

  -- a value is recorded
  with_value : (value : ℕ) → MayBeSpilled f value → FitsMaps f (with_tracking c (with_recorded c.ssa.tracking value))
  with_value value may = record {
    marked = λ x is. still_declared (with_tracking c (with_recorded c.ssa.tracking value)) refl x (fits.marked x is);
    recorded = λ v is. by v (member_or (recorded_of c.ssa.tracking) value v is);
  }
    where
      by : (v : ℕ) → (value ≡ v) ⊎ IsTrue (has (recorded_of c.ssa.tracking) v) → MayBeSpilled f v
      by v (inl same) = subst (MayBeSpilled f) same may
      by v (inr was) = fits.recorded v was

  from_recorded : (d : ContextState) (value : ℕ) → MayBeSpilled f value → d.ssa.tracking ≡ with_recorded c.ssa.tracking value → d.variables ≡ c.variables → FitsMaps f d
  from_recorded d value may tracking variables = record {
    marked = λ x is. still_declared d variables x (fits.marked x (subst (λ (t : Tracked). IsTrue (has (marked_of t) x)) tracking is));
    recorded = λ v is. (with_value value may).recorded v (subst (λ (t : Tracked). IsTrue (has (recorded_of t) v)) tracking is);
  }

  -- a variable is marked
  with_variable : (variable : ℕ) → VariableFits c variable → FitsMaps f (with_tracking c (with_mark c.ssa.tracking variable))
  with_variable variable may = record {
    marked = λ x is. still_declared (with_tracking c (with_mark c.ssa.tracking variable)) refl x (by x (member_or (marked_of c.ssa.tracking) variable x is));
    recorded = λ v is. fits.recorded v is;
  }
    where
      by : (x : ℕ) → (variable ≡ x) ⊎ IsTrue (has (marked_of c.ssa.tracking) x) → VariableFits c x
      by x (inl same) = subst (VariableFits c) same may
      by x (inr was) = fits.marked x was

  -- a variable is assigned a value of its type
  bound : (d : ContextState) (variable value : ℕ) → value < length f.values → slice_get c.variables variable ≡ Some (value_at f value).ty
      → d.ssa.tracking ≡ with_binding c.ssa.tracking variable value → d.variables ≡ c.variables → FitsMaps f d
  bound d variable value exists typed tracking variables = by (has (marked_of c.ssa.tracking) variable) refl tracking
    where
      of_marked : VariableFits c variable → MayBeSpilled f value
      of_marked fit = record { exists = exists; fits = subst FitsStackMap (same_type fit.ty (value_at f value).ty (sym fit.declared ∙ typed)) fit.fits }

      by : (test : Bool) → has (marked_of c.ssa.tracking) variable ≡ test
          → d.ssa.tracking ≡ (if has (marked_of c.ssa.tracking) variable then with_recorded c.ssa.tracking value else c.ssa.tracking) → FitsMaps f d
      by true is now = from_recorded d value (of_marked (fits.marked variable is)) (now ∙ ap (λ (b : Bool). if b then with_recorded c.ssa.tracking value else c.ssa.tracking) is) variables
      by false is now = kept f d (λ v there. refl) (now ∙ ap (λ (b : Bool). if b then with_recorded c.ssa.tracking value else c.ssa.tracking) is) variables

pub on_ok_all : {A E P : Type 0} (r : Result A E) → P → OnOk r P
on_ok_all (Ok a) holds = holds
on_ok_all (Err e) holds = tt

-- the word for it
pub asked_fits : {f : Body} {c : ContextState} → FitsMaps f c → AskedFits f c
unfolding AskedFits
asked_fits fits = fits

pub fits_asked : {f : Body} {c : ContextState} → AskedFits f c → FitsMaps f c
unfolding AskedFits
fits_asked asked = asked

-- CALLS -----------------------------------------------------------------------------------------------------------------

-- nothing is asked for
pub fits_none : (f : Body) → FitsMaps f empty_context
fits_none f = record { marked = λ x is. absurd (false_is is); recorded = λ v is. absurd (false_is is) }

pub fits_cleared : (f : Body) (c : ContextState) → c ≡ empty_context → FitsMaps f c
fits_cleared f c empty = subst (FitsMaps f) (sym empty) (fits_none f)

-- what is tracked stays
pub fits_kept : {A E : Type 0} (r : Result A E) (f g : Body) (c d : ContextState) → OnOk r (TypesStay f g) → OnOk r (d.ssa.tracking ≡ c.ssa.tracking) → OnOk r (d.variables ≡ c.variables)
    → FitsMaps f c → OnOk r (FitsMaps g d)
fits_kept (Err e) f g c d types same variables fits = tt
fits_kept (Ok a) f g c d types same variables fits = kept f c fits g d types same variables

pub fits_still : (f g : Body) (c : ContextState) → TypesStay f g → FitsMaps f c → FitsMaps g c
fits_still f g c types fits = kept f c fits g c types refl refl

-- so it does where only the function changes
pub fits_grown : {A E : Type 0} (r : Result A E) (f g : Body) (c : ContextState) → OnOk r (TypesStay f g) → FitsMaps f c → OnOk r (FitsMaps g c)
fits_grown (Err e) f g c types fits = tt
fits_grown (Ok a) f g c types fits = fits_still f g c types fits

-- parameters were made
fits_made : {A E : Type 0} (r : Result A E) (f g : Body) (c d : ContextState) (count : ℕ) → OnOk r (TypesStay f g) → OnOk r (TracksMade count c.ssa d.ssa) → d.variables ≡ c.variables
    → OnOk r (IsInOrder g d) → FitsMaps f c → OnOk r (FitsMaps g d)
fits_made (Err e) f g c d count types tracks variables order fits = tt
fits_made (Ok a) f g c d count types tracks variables order fits = made f c fits g d count types tracks variables order

used_tracks : {E : Type 0} (r : Result ℕ E) (f g : Body) (c d : ContextState) (variable : ℕ) (ty : «Type») (block : ℕ)
    → IfOk r (λ value. (told : List ℕ) × IsUse (inserted_in f block) c.ssa g d.ssa variable ty block value told × Begins c d (block ∷ told))
    → OnOk r (TracksMade (length (inserted_in f block).values) c.ssa d.ssa)
used_tracks (Err e) f g c d variable ty block uses = tt
used_tracks (Ok value) f g c d variable ty block uses = tracks_made uses.1.tracks

sealed_tracks : {E : Type 0} (r : Result (Unit {0}) E) (f g : Body) (c d : ContextState) (seals : ℕ → Bool)
    → OnOk r ((told : List ℕ) × IsSealingOf f c.ssa g d.ssa seals told × Begins c d told) → OnOk r (TracksMade (length f.values) c.ssa d.ssa)
sealed_tracks (Err e) f g c d seals sealed = tt
sealed_tracks (Ok u) f g c d seals sealed = tracks_made sealed.1.tracks

pub fits_used : {E : Type 0} (r : Result ℕ E) (f g : Body) (c d : ContextState) (variable : ℕ) (ty : «Type») (block : ℕ)
    → IfOk r (λ value. (told : List ℕ) × IsUse (inserted_in f block) c.ssa g d.ssa variable ty block value told × Begins c d (block ∷ told))
    → d.variables ≡ c.variables → OnOk r (IsInOrder g d) → FitsMaps f c → OnOk r (FitsMaps g d)
fits_used r f g c d variable ty block uses variables order fits =
    fits_made r f g c d _ (used-types r f c g d variable ty block uses) (used_tracks r f g c d variable ty block uses) variables order fits

pub fits_sealed : {E : Type 0} (r : Result (Unit {0}) E) (f g : Body) (c d : ContextState) (seals : ℕ → Bool)
    → OnOk r ((told : List ℕ) × IsSealingOf f c.ssa g d.ssa seals told × Begins c d told) → d.variables ≡ c.variables → OnOk r (IsInOrder g d) → FitsMaps f c → OnOk r (FitsMaps g d)
fits_sealed r f g c d seals sealed variables order fits =
    fits_made r f g c d _ (sealed-types r f g c d seals sealed) (sealed_tracks r f g c d seals sealed) variables order fits

-- an instruction is appended
declared_tracking : {E : Type 0} (r : Result ℕ E) (c d : ContextState) (shape : InstructionData)
    → IfOk r (λ inst. IsDeclared c.ssa inst (targets (destinations shape)) d.ssa) → OnOk r (d.ssa.tracking ≡ c.ssa.tracking)
declared_tracking (Err e) c d shape declared = tt
declared_tracking (Ok inst) c d shape declared = declared.tracking

pub fits_built : (place : ℕ) {E : Type 0} (r : Result ℕ E) (f g : Body) (c d : ContextState) (block : ℕ) (shape : InstructionData) (ty : «Type») → IfOk r (AppendsIn place f c g d block shape ty)
    → IfOk r (λ inst. IsDeclared c.ssa inst (targets (destinations shape)) d.ssa) → d.variables ≡ c.variables → FitsMaps f c → OnOk r (FitsMaps g d)
fits_built place r f g c d block shape ty appends declared variables fits =
    fits_kept r f g c d (appended-types place r f c g d block shape ty appends) (declared_tracking r c d shape declared) (on_ok_all r variables) fits

-- a variable is assigned
pub fits_bound : {A E : Type 0} (r : Result A E) (f : Body) (c d : ContextState) (variable value : ℕ) → value < length f.values → slice_get c.variables variable ≡ Some (value_at f value).ty
    → OnOk r (d.ssa.tracking ≡ with_binding c.ssa.tracking variable value) → d.variables ≡ c.variables → FitsMaps f c → OnOk r (FitsMaps f d)
fits_bound (Err e) f c d variable value exists typed tracking variables fits = tt
fits_bound (Ok a) f c d variable value exists typed tracking variables fits = bound f c fits d variable value exists typed tracking variables

-- a variable is declared
pub fits_declared : {A E : Type 0} (r : Result A E) (f : Body) (c d : ContextState) (ty : «Type») → OnOk r (d ≡ record c { variables = c.variables ++ ty ∷ [] }) → FitsMaps f c → OnOk r (FitsMaps f d)
fits_declared (Err e) f c d ty is fits = tt
fits_declared (Ok a) f c d ty is fits =
    subst (FitsMaps f) (sym is)
    (record {
      marked = λ x marked.
          let was = fits.marked x marked in
          record { ty = was.ty; declared = get-front c.variables (ty ∷ []) x was.ty was.declared; fits = was.fits };
      recorded = fits.recorded;
    })

-- stack maps are asked for
pub fits_marked : (f : Body) (c : ContextState) (variable : ℕ) → VariableFits c variable → FitsMaps f c → FitsMaps f (with_tracking c (with_mark c.ssa.tracking variable))
fits_marked f c variable may fits = with_variable f c fits variable may

pub fits_recorded : (f : Body) (c : ContextState) (value : ℕ) → MayBeSpilled f value → FitsMaps f c → FitsMaps f (with_tracking c (with_recorded c.ssa.tracking value))
fits_recorded f c value may fits = with_value f c fits value may
