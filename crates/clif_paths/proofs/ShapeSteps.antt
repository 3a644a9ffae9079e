-- Each step keeps the structure.
use Rattle.std.proofs.Common.{◌≡◌, ◌≢◌, ℕ, suc, ◌+◌, ◌≤◌, true, false, Option, None, Some, List, [], ◌∷◌, ◌++◌, length, ◌⊎◌, inl, inr, refl, sym, ◌∙◌, ap, subst, arith, append_assoc}
use Rattle.clif_paths.specs.Steps.{updated}
use Rattle.clif_paths.specs.Shape.{Types, Parameter, BlockShape, EdgeShape, Shape, values_of, HasParameter, Apart, GivesEach, SameTypes, IsBlockShape, IsEdgeShape, Structured, no_shape, with_block, caller_added, waiting_added, lookup_begun, first_completed, first_dropped, value_recorded, variable_used, variable_assigned, leads_to, appended_if, arguments_appended, ShapeStep, new_edge, retarget, declare, seal_shape, add_caller, add_waiting, begin_lookup, complete_first, drop_first, record_value, use_recorded, assign_value, ShapeSteps, no_step, and_then, enter}
use Rattle.clif_paths.proofs.Tables.{updated-same, updated-other, updated_cases, number_equal, number_other}
use Rattle.clif_paths.proofs.ShapeLemmas.{values-append, length-values, append_nil, has_first, apart_more, gives_more, gives_none, gives_types, types_append, remove_behind}

pub first_structured : (types : Types) → Structured types no_shape
first_structured types = record {
  blocks = λ b. record {
    pristine = λ e. (refl, refl);
    in_order = refl;
    unsealed = λ e. refl;
    joined = inl refl;
    completed_typed = λ p has. absurd has;
    waiting_typed = λ p has. absurd has;
    recorded_typed = λ x v e. absurd cc;
    waiting_recorded = λ p has. absurd has;
    apart = tt;
    untouched = λ x e. refl;
    not_looked_up = λ x e. refl;
    not_begun = λ p has e. refl;
    once = λ x. omega arith;
  };
  edges = λ e b at. absurd cc;
  sources = λ e b at. absurd cc;
}

-- One block changed -----------------------------------------------------------------------------------------------

block_by :
    (types : Types) (shape : Shape) (b : ℕ) (new : BlockShape) → Structured types shape → IsBlockShape types new →
    (c : ℕ) → ((c ≡ b) × (updated shape.block b new c ≡ new)) ⊎ ((c ≢ b) × (updated shape.block b new c ≡ shape.block c)) →
    IsBlockShape types (updated shape.block b new c)
block_by types shape b new before is_new c (inl e) = subst (λ s. IsBlockShape types s) (sym e.1) is_new
block_by types shape b new before is_new c (inr e) = subst (λ s. IsBlockShape types s) (sym e.1) (before.blocks c)

edge_by :
    (types : Types) (shape : Shape) (b : ℕ) (new : BlockShape) → Structured types shape → new.completed ≡ (shape.block b).completed →
    (e c : ℕ) → (shape.edge e).target ≡ Some c →
    ((c ≡ b) × (updated shape.block b new c ≡ new)) ⊎ ((c ≢ b) × (updated shape.block b new c ≡ shape.block c)) →
    IsEdgeShape types (updated shape.block b new c).completed (shape.edge e)
edge_by types shape b new before same e c at (inl here) =
    subst (λ ps. IsEdgeShape types ps (shape.edge e))
    (ap (λ d. (shape.block d).completed) here.0 ∙ sym same ∙ sym (ap (λ (s : BlockShape). s.completed) here.1))
    (before.edges e c at)
edge_by types shape b new before same e c at (inr other) =
    subst (λ ps. IsEdgeShape types ps (shape.edge e)) (sym (ap (λ (s : BlockShape). s.completed) other.1)) (before.edges e c at)

source_by :
    (types : Types) (shape : Shape) (b : ℕ) (new : BlockShape) → Structured types shape →
    ((shape.block b).entered ≡ true → new.entered ≡ true) → (e c : ℕ) → (shape.edge e).target ≡ Some c →
    ((shape.edge e).source ≡ b × (updated shape.block b new (shape.edge e).source ≡ new)) ⊎
    ((shape.edge e).source ≢ b × (updated shape.block b new (shape.edge e).source ≡ shape.block (shape.edge e).source)) →
    (updated shape.block b new (shape.edge e).source).entered ≡ true
source_by types shape b new before keeps e c at (inl here) =
    ap (λ (k : BlockShape). k.entered) here.1 ∙ keeps (ap (λ d. (shape.block d).entered) (sym here.0) ∙ before.sources e c at)
source_by types shape b new before keeps e c at (inr other) = ap (λ (k : BlockShape). k.entered) other.1 ∙ before.sources e c at

-- a block that is changed, but not its complete parameters
block_changed :
    (types : Types) (shape : Shape) (b : ℕ) (new : BlockShape) → Structured types shape → IsBlockShape types new →
    new.completed ≡ (shape.block b).completed → ((shape.block b).entered ≡ true → new.entered ≡ true) → Structured types (with_block shape b new)
block_changed types shape b new before is_new same keeps = record {
  blocks = λ c. block_by types shape b new before is_new c (updated_cases shape.block b new c);
  edges = λ e c at. edge_by types shape b new before same e c at (updated_cases shape.block b new c);
  sources = λ e c at. source_by types shape b new before keeps e c at (updated_cases shape.block b new (shape.edge e).source);
}

-- Edges -----------------------------------------------------------------------------------------------------------

-- while a block isn't sealed, an edge into it carries the caller's arguments alone
plain_edge :
    (types : Types) (b : BlockShape) (e : EdgeShape) → IsBlockShape types b → b.sealed ≡ false → IsEdgeShape types b.completed e → e.arguments ≡ e.caller_arguments
plain_edge types b e is_block open_block is_edge =
    let none : is_edge.given ≡ [] = gives_none types is_edge.given (subst (λ ps. GivesEach types ps is_edge.given) (is_block.unsealed open_block) is_edge.gives_each) in
    is_edge.carries ∙ ap (λ t. e.caller_arguments ++ t) none ∙ append_nil e.caller_arguments

-- and such an edge is right for any block that isn't sealed
edge_plain :
    (types : Types) (b : BlockShape) (e : EdgeShape) → IsBlockShape types b → b.sealed ≡ false → e.arguments ≡ e.caller_arguments → IsEdgeShape types b.completed e
edge_plain types b e is_block open_block same = record {
  given = [];
  carries = same ∙ sym (append_nil e.caller_arguments);
  gives_each = subst (λ ps. GivesEach types ps []) (sym (is_block.unsealed open_block)) tt;
}

one_edge :
    (types : Types) (shape : Shape) (e : ℕ) (new : EdgeShape) (b : ℕ) → Structured types shape → new.target ≡ Some b →
    IsEdgeShape types (shape.block b).completed new → (e' c : ℕ) → (updated shape.edge e new e').target ≡ Some c →
    ((e' ≡ e) × (updated shape.edge e new e' ≡ new)) ⊎ ((e' ≢ e) × (updated shape.edge e new e' ≡ shape.edge e')) →
    IsEdgeShape types (shape.block c).completed (updated shape.edge e new e')
one_edge types shape e new b before leads is_edge e' c at (inl here) =
    let both : Some b ≡ Some c = sym leads ∙ ap (λ (k : EdgeShape). k.target) (sym here.1) ∙ at in
    let same : b ≡ c = cc in
    subst (λ k. IsEdgeShape types (shape.block c).completed k) (sym here.1)
    (subst (λ d. IsEdgeShape types (shape.block d).completed new) same is_edge)
one_edge types shape e new b before leads is_edge e' c at (inr other) =
    subst (λ k. IsEdgeShape types (shape.block c).completed k) (sym other.1)
    (before.edges e' c (ap (λ (k : EdgeShape). k.target) (sym other.1) ∙ at))

one_source :
    (types : Types) (shape : Shape) (e : ℕ) (new : EdgeShape) → Structured types shape → (shape.block new.source).entered ≡ true →
    (e' c : ℕ) → (updated shape.edge e new e').target ≡ Some c →
    ((e' ≡ e) × (updated shape.edge e new e' ≡ new)) ⊎ ((e' ≢ e) × (updated shape.edge e new e' ≡ shape.edge e')) →
    (shape.block (updated shape.edge e new e').source).entered ≡ true
one_source types shape e new before entered e' c at (inl here) = ap (λ (k : EdgeShape). (shape.block k.source).entered) here.1 ∙ entered
one_source types shape e new before entered e' c at (inr other) =
    ap (λ (k : EdgeShape). (shape.block k.source).entered) other.1 ∙
    before.sources e' c (ap (λ (k : EdgeShape). k.target) (sym other.1) ∙ at)

edge_changed :
    (types : Types) (shape : Shape) (e : ℕ) (new : EdgeShape) (b : ℕ) → Structured types shape → new.target ≡ Some b →
    IsEdgeShape types (shape.block b).completed new → (shape.block new.source).entered ≡ true →
    Structured types (record shape { edge = updated shape.edge e new })
edge_changed types shape e new b before leads is_edge entered = record {
  blocks = before.blocks;
  edges = λ e' c at. one_edge types shape e new b before leads is_edge e' c at (updated_cases shape.edge e new e');
  sources = λ e' c at. one_source types shape e new before entered e' c at (updated_cases shape.edge e new e');
}

-- Records ---------------------------------------------------------------------------------------------------------

recorded_some : (recorded : ℕ → Option ℕ) (x v y : ℕ) → recorded y ≢ None → ((y ≡ x) × (updated recorded x (Some v) y ≡ Some v)) ⊎ ((y ≢ x) × (updated recorded x (Some v) y ≡ recorded y)) → updated recorded x (Some v) y ≢ None
recorded_some recorded x v y there (inl here) e = let some : Some v ≡ None = sym here.1 ∙ e in cc
recorded_some recorded x v y there (inr other) e = there (sym other.1 ∙ e)

still_none : (recorded : ℕ → Option ℕ) (x v y : ℕ) → updated recorded x (Some v) y ≡ None → ((y ≡ x) × (updated recorded x (Some v) y ≡ Some v)) ⊎ ((y ≢ x) × (updated recorded x (Some v) y ≡ recorded y)) → (y ≢ x) × (recorded y ≡ None)
still_none recorded x v y none (inl here) = let some : Some v ≡ None = sym here.1 ∙ none in absurd cc
still_none recorded x v y none (inr other) = (other.0, sym other.1 ∙ none)

typed_record :
    (types : Types) (recorded : ℕ → Option ℕ) (x v : ℕ) → types.of_value v ≡ types.of_variable x →
    ((y w : ℕ) → recorded y ≡ Some w → types.of_value w ≡ types.of_variable y) → (y w : ℕ) → updated recorded x (Some v) y ≡ Some w →
    ((y ≡ x) × (updated recorded x (Some v) y ≡ Some v)) ⊎ ((y ≢ x) × (updated recorded x (Some v) y ≡ recorded y)) →
    types.of_value w ≡ types.of_variable y
typed_record types recorded x v typed others y w e (inl here) =
    let both : Some v ≡ Some w = sym here.1 ∙ e in
    let same : v ≡ w = cc in
    ap types.of_value (sym same) ∙ typed ∙ ap types.of_variable (sym here.0)
typed_record types recorded x v typed others y w e (inr other) = others y w (sym other.1 ∙ e)

recorded_shape : (types : Types) (b : BlockShape) (x v : ℕ) → types.of_value v ≡ types.of_variable x → IsBlockShape types b → IsBlockShape types (value_recorded b x v)
recorded_shape types b x v typed is_block = record {
  pristine = is_block.pristine;
  in_order = is_block.in_order;
  unsealed = is_block.unsealed;
  joined = is_block.joined;
  completed_typed = is_block.completed_typed;
  waiting_typed = is_block.waiting_typed;
  recorded_typed = λ y w e. typed_record types b.recorded x v typed is_block.recorded_typed y w e (updated_cases b.recorded x (Some v) y);
  waiting_recorded = λ p has. recorded_some b.recorded x v p.variable (is_block.waiting_recorded p has) (updated_cases b.recorded x (Some v) p.variable);
  apart = is_block.apart;
  untouched = λ y none. is_block.untouched y (still_none b.recorded x v y none (updated_cases b.recorded x (Some v) y)).1;
  not_looked_up = λ y none. is_block.not_looked_up y (still_none b.recorded x v y none (updated_cases b.recorded x (Some v) y)).1;
  not_begun = is_block.not_begun;
  once = is_block.once;
}

-- a variable that is recorded may be touched
touched_by :
    (b : BlockShape) (x y : ℕ) → ((z : ℕ) → b.recorded z ≡ None → b.touched z ≡ false) → b.recorded x ≢ None → b.recorded y ≡ None →
    ((y ≡ x) × (updated b.touched x true y ≡ true)) ⊎ ((y ≢ x) × (updated b.touched x true y ≡ b.touched y)) → updated b.touched x true y ≡ false
touched_by b x y before there none (inl here) = absurd (there (ap b.recorded (sym here.0) ∙ none))
touched_by b x y before there none (inr other) = other.1 ∙ before y none

used_shape : (types : Types) (b : BlockShape) (x : ℕ) → b.recorded x ≢ None → IsBlockShape types b → IsBlockShape types (variable_used b x)
used_shape types b x there is_block = record {
  pristine = is_block.pristine;
  in_order = is_block.in_order;
  unsealed = is_block.unsealed;
  joined = is_block.joined;
  completed_typed = is_block.completed_typed;
  waiting_typed = is_block.waiting_typed;
  recorded_typed = is_block.recorded_typed;
  waiting_recorded = is_block.waiting_recorded;
  apart = is_block.apart;
  untouched = λ y none. touched_by b x y is_block.untouched there none (updated_cases b.touched x true y);
  not_looked_up = is_block.not_looked_up;
  not_begun = is_block.not_begun;
  once = is_block.once;
}

just_recorded : (recorded : ℕ → Option ℕ) (x v : ℕ) → updated recorded x (Some v) x ≢ None
just_recorded recorded x v e = let some : Some v ≡ None = sym (updated-same recorded x (Some v) x refl) ∙ e in cc

-- Parameters ------------------------------------------------------------------------------------------------------

caller_order :
    (b : BlockShape) (v : ℕ) → b.completed ≡ [] → b.waiting ≡ [] → b.parameters ≡ b.callers ++ (values_of b.completed ++ values_of b.waiting) →
    b.parameters ++ (v ∷ []) ≡ (b.callers ++ (v ∷ [])) ++ (values_of b.completed ++ values_of b.waiting)
caller_order b v none_completed none_waiting in_order =
    let none : values_of b.completed ++ values_of b.waiting ≡ [] =
    ap (λ ps. values_of ps ++ values_of b.waiting) none_completed ∙ ap values_of none_waiting in
    ap (λ vs. vs ++ (v ∷ [])) (in_order ∙ ap (λ t. b.callers ++ t) none ∙ append_nil b.callers) ∙
    sym (ap (λ t. (b.callers ++ (v ∷ [])) ++ t) none ∙ append_nil (b.callers ++ (v ∷ [])))

caller_shape : (types : Types) (b : BlockShape) (v : ℕ) → b.entered ≡ false → IsBlockShape types b → IsBlockShape types (caller_added b v)
caller_shape types b v bare is_block = record {
  pristine = is_block.pristine;
  in_order = caller_order b v (is_block.pristine bare).0 (is_block.pristine bare).1 is_block.in_order;
  unsealed = is_block.unsealed;
  joined = is_block.joined;
  completed_typed = is_block.completed_typed;
  waiting_typed = is_block.waiting_typed;
  recorded_typed = is_block.recorded_typed;
  waiting_recorded = is_block.waiting_recorded;
  apart = is_block.apart;
  untouched = is_block.untouched;
  not_looked_up = is_block.not_looked_up;
  not_begun = is_block.not_begun;
  once = is_block.once;
}

waiting_typed_more :
    (types : Types) (ps : List Parameter) (p : Parameter) → ((q : Parameter) → HasParameter ps q → types.of_value q.value ≡ types.of_variable q.variable) →
    types.of_value p.value ≡ types.of_variable p.variable → (q : Parameter) → HasParameter ps q ⊎ HasParameter (p ∷ []) q →
    types.of_value q.value ≡ types.of_variable q.variable
waiting_typed_more types ps p others typed q (inl has) = others q has
waiting_typed_more types ps p others typed q (inr (inl e)) = subst (λ (k : Parameter). types.of_value k.value ≡ types.of_variable k.variable) (sym e) typed
waiting_typed_more types ps p others typed q (inr (inr none)) = absurd none

waiting_recorded_more :
    (recorded : ℕ → Option ℕ) (ps : List Parameter) (x v : ℕ) → ((q : Parameter) → HasParameter ps q → recorded q.variable ≢ None) →
    (q : Parameter) → HasParameter ps q ⊎ HasParameter (record { variable = x; value = v; begun = false } ∷ []) q →
    updated recorded x (Some v) q.variable ≢ None
waiting_recorded_more recorded ps x v others q (inl has) = recorded_some recorded x v q.variable (others q has) (updated_cases recorded x (Some v) q.variable)
waiting_recorded_more recorded ps x v others q (inr (inl e)) =
    subst (λ (k : Parameter). updated recorded x (Some v) k.variable ≢ None) (sym e) (just_recorded recorded x v)
waiting_recorded_more recorded ps x v others q (inr (inr none)) = absurd none

not_begun_more :
    (lookups : ℕ → ℕ) (ps : List Parameter) (x v : ℕ) → lookups x ≡ 0 →
    ((q : Parameter) → HasParameter ps q → q.begun ≡ false → lookups q.variable ≡ 0) →
    (q : Parameter) → HasParameter ps q ⊎ HasParameter (record { variable = x; value = v; begun = false } ∷ []) q → q.begun ≡ false →
    lookups q.variable ≡ 0
not_begun_more lookups ps x v none others q (inl has) e = others q has e
not_begun_more lookups ps x v none others q (inr (inl same)) e = ap (λ (k : Parameter). lookups k.variable) same ∙ none
not_begun_more lookups ps x v none others q (inr (inr absent)) e = absurd absent

waiting_order :
    (b : BlockShape) (x v : ℕ) → b.parameters ≡ b.callers ++ (values_of b.completed ++ values_of b.waiting) →
    b.parameters ++ (v ∷ []) ≡
    b.callers ++ (values_of b.completed ++ values_of (b.waiting ++ (record { variable = x; value = v; begun = false } ∷ [])))
waiting_order b x v in_order =
    ap (λ vs. vs ++ (v ∷ [])) in_order ∙
    append_assoc b.callers (values_of b.completed ++ values_of b.waiting) (v ∷ []) ∙
    ap (λ t. b.callers ++ t)
    (append_assoc (values_of b.completed) (values_of b.waiting) (v ∷ []) ∙
    ap (λ t. values_of b.completed ++ t) (sym (values-append b.waiting (record { variable = x; value = v; begun = false } ∷ []))))

waiting_shape :
    (types : Types) (b : BlockShape) (x v : ℕ) → b.entered ≡ true → b.recorded x ≡ None → types.of_value v ≡ types.of_variable x → IsBlockShape types b →
    IsBlockShape types (waiting_added b x v)
waiting_shape types b x v entered none typed is_block =
    let p : Parameter = record { variable = x; value = v; begun = false } in
    record {
      pristine = λ e. let clash : true ≡ false = sym entered ∙ e in absurd cc;
      in_order = waiting_order b x v is_block.in_order;
      unsealed = is_block.unsealed;
      joined = is_block.joined;
      completed_typed = is_block.completed_typed;
      waiting_typed = λ q has. waiting_typed_more types b.waiting p is_block.waiting_typed typed q (has_first b.waiting (p ∷ []) q has);
      recorded_typed = λ y w e. typed_record types b.recorded x v typed is_block.recorded_typed y w e (updated_cases b.recorded x (Some v) y);
      waiting_recorded = λ q has. waiting_recorded_more b.recorded b.waiting x v is_block.waiting_recorded q (has_first b.waiting (p ∷ []) q has);
      apart = apart_more b.waiting p is_block.apart (λ q has same. is_block.waiting_recorded q has (ap b.recorded same ∙ none));
      untouched = λ y e. is_block.untouched y (still_none b.recorded x v y e (updated_cases b.recorded x (Some v) y)).1;
      not_looked_up = λ y e. is_block.not_looked_up y (still_none b.recorded x v y e (updated_cases b.recorded x (Some v) y)).1;
      not_begun = λ q has e.
          not_begun_more b.lookups b.waiting x v (is_block.not_looked_up x none) is_block.not_begun q (has_first b.waiting (p ∷ []) q has) e;
      once = is_block.once;
    }

nothing_waits : (p : Parameter) (rest : List Parameter) → p ∷ rest ≢ []
nothing_waits p rest e = cc

-- The first parameter that waits ----------------------------------------------------------------------------------

begun_has :
    (p : Parameter) (rest : List Parameter) (q : Parameter) → HasParameter (record p { begun = true } ∷ rest) q →
    (q ≡ record p { begun = true }) ⊎ HasParameter rest q
begun_has p rest q has = has

once_by :
    (lookups : ℕ → ℕ) (x y : ℕ) → lookups x ≡ 0 → ((z : ℕ) → lookups z ≤ 1) →
    ((y ≡ x) × (updated lookups x (suc (lookups x)) y ≡ suc (lookups x))) ⊎ ((y ≢ x) × (updated lookups x (suc (lookups x)) y ≡ lookups y)) →
    updated lookups x (suc (lookups x)) y ≤ 1
once_by lookups x y none before (inl here) = let h : updated lookups x (suc (lookups x)) y ≡ suc (lookups x) = here.1 in omega arith
once_by lookups x y none before (inr other) = let h : updated lookups x (suc (lookups x)) y ≡ lookups y = other.1 in let le : lookups y ≤ 1 = before y in omega arith

begun_shape :
    (types : Types) (b : BlockShape) (p : Parameter) (rest : List Parameter) → b.waiting ≡ p ∷ rest → p.begun ≡ false → IsBlockShape types b →
    IsBlockShape types (lookup_begun b p rest)
begun_shape types b p rest waiting begun is_block =
    let typed : (q : Parameter) → HasParameter (p ∷ rest) q → types.of_value q.value ≡ types.of_variable q.variable =
    subst (λ ps. (q : Parameter) → HasParameter ps q → types.of_value q.value ≡ types.of_variable q.variable) waiting is_block.waiting_typed in
    let is_recorded : (q : Parameter) → HasParameter (p ∷ rest) q → b.recorded q.variable ≢ None =
    subst (λ ps. (q : Parameter) → HasParameter ps q → b.recorded q.variable ≢ None) waiting is_block.waiting_recorded in
    let not_begun : (q : Parameter) → HasParameter (p ∷ rest) q → q.begun ≡ false → b.lookups q.variable ≡ 0 =
    subst (λ ps. (q : Parameter) → HasParameter ps q → q.begun ≡ false → b.lookups q.variable ≡ 0) waiting is_block.not_begun in
    let apart : Apart (p ∷ rest) = subst (λ ps. Apart ps) waiting is_block.apart in
    let none : b.lookups p.variable ≡ 0 = not_begun p (inl refl) begun in
    record {
      pristine = λ e. absurd (nothing_waits p rest (sym waiting ∙ (is_block.pristine e).1));
      in_order = is_block.in_order ∙ ap (λ ps. b.callers ++ (values_of b.completed ++ values_of ps)) waiting;
      unsealed = is_block.unsealed;
      joined = is_block.joined;
      completed_typed = is_block.completed_typed;
      waiting_typed = λ q has. typed_by typed q has;
      recorded_typed = is_block.recorded_typed;
      waiting_recorded = λ q has. recorded_by is_recorded q has;
      apart = apart;
      untouched = is_block.untouched;
      not_looked_up = λ y e.
          updated-other b.lookups p.variable (suc (b.lookups p.variable)) y (λ same. is_recorded p (inl refl) (ap b.recorded (sym same) ∙ e)) ∙
          is_block.not_looked_up y e;
      not_begun = λ q has e. begun_by not_begun apart q has e;
      once = λ y. once_by b.lookups p.variable y none is_block.once (updated_cases b.lookups p.variable (suc (b.lookups p.variable)) y);
    }
  where
    typed_by : ((q : Parameter) → HasParameter (p ∷ rest) q → types.of_value q.value ≡ types.of_variable q.variable) → (q : Parameter) → HasParameter (record p { begun = true } ∷ rest) q → types.of_value q.value ≡ types.of_variable q.variable
    typed_by typed q (inl e) = ap (λ (k : Parameter). types.of_value k.value) e ∙ typed p (inl refl) ∙ ap (λ (k : Parameter). types.of_variable k.variable) (sym e)
    typed_by typed q (inr has) = typed q (inr has)

    recorded_by : ((q : Parameter) → HasParameter (p ∷ rest) q → b.recorded q.variable ≢ None) → (q : Parameter) → HasParameter (record p { begun = true } ∷ rest) q → b.recorded q.variable ≢ None
    recorded_by is_recorded q (inl e) = λ none. is_recorded p (inl refl) (ap (λ (k : Parameter). b.recorded k.variable) (sym e) ∙ none)
    recorded_by is_recorded q (inr has) = is_recorded q (inr has)

    begun_by : ((q : Parameter) → HasParameter (p ∷ rest) q → q.begun ≡ false → b.lookups q.variable ≡ 0) → Apart (p ∷ rest) → (q : Parameter) → HasParameter (record p { begun = true } ∷ rest) q → q.begun ≡ false → updated b.lookups p.variable (suc (b.lookups p.variable)) q.variable ≡ 0
    begun_by not_begun apart q (inl e) at = let clash : true ≡ false = ap (λ (k : Parameter). k.begun) (sym e) ∙ at in absurd cc
    begun_by not_begun apart q (inr has) at =
        updated-other b.lookups p.variable (suc (b.lookups p.variable)) q.variable (apart.0 q has) ∙ not_begun q (inr has) at

completed_order :
    (b : BlockShape) (p : Parameter) (rest : List Parameter) → b.waiting ≡ p ∷ rest →
    b.parameters ≡ b.callers ++ (values_of b.completed ++ values_of b.waiting) →
    b.parameters ≡ b.callers ++ (values_of (b.completed ++ (p ∷ [])) ++ values_of rest)
completed_order b p rest waiting in_order =
    in_order ∙
    ap (λ t. b.callers ++ t)
    (ap (λ ps. values_of b.completed ++ values_of ps) waiting ∙
    sym (append_assoc (values_of b.completed) (p.value ∷ []) (values_of rest)) ∙
    ap (λ vs. vs ++ values_of rest) (sym (values-append b.completed (p ∷ []))))

-- what holds of the parameters that wait holds without the first
completed_shape :
    (types : Types) (b : BlockShape) (p : Parameter) (rest : List Parameter) → b.waiting ≡ p ∷ rest → b.sealed ≡ true → 2 ≤ length b.predecessors →
    IsBlockShape types b → IsBlockShape types (first_completed b p rest)
completed_shape types b p rest waiting sealed two is_block =
    let typed : (q : Parameter) → HasParameter (p ∷ rest) q → types.of_value q.value ≡ types.of_variable q.variable =
    subst (λ ps. (q : Parameter) → HasParameter ps q → types.of_value q.value ≡ types.of_variable q.variable) waiting is_block.waiting_typed in
    let is_recorded : (q : Parameter) → HasParameter (p ∷ rest) q → b.recorded q.variable ≢ None =
    subst (λ ps. (q : Parameter) → HasParameter ps q → b.recorded q.variable ≢ None) waiting is_block.waiting_recorded in
    let not_begun : (q : Parameter) → HasParameter (p ∷ rest) q → q.begun ≡ false → b.lookups q.variable ≡ 0 =
    subst (λ ps. (q : Parameter) → HasParameter ps q → q.begun ≡ false → b.lookups q.variable ≡ 0) waiting is_block.not_begun in
    let apart : Apart (p ∷ rest) = subst (λ ps. Apart ps) waiting is_block.apart in
    record {
      pristine = λ e. absurd (nothing_waits p rest (sym waiting ∙ (is_block.pristine e).1));
      in_order = completed_order b p rest waiting is_block.in_order;
      unsealed = λ e. let clash : true ≡ false = sym sealed ∙ e in absurd cc;
      joined = inr two;
      completed_typed = λ q has.
          waiting_typed_more types b.completed p is_block.completed_typed (typed p (inl refl)) q (has_first b.completed (p ∷ []) q has);
      waiting_typed = λ q has. typed q (inr has);
      recorded_typed = is_block.recorded_typed;
      waiting_recorded = λ q has. is_recorded q (inr has);
      apart = apart.1;
      untouched = is_block.untouched;
      not_looked_up = is_block.not_looked_up;
      not_begun = λ q has e. not_begun q (inr has) e;
      once = is_block.once;
    }

dropped_order :
    (b : BlockShape) (p : Parameter) (rest : List Parameter) → b.waiting ≡ p ∷ rest →
    b.parameters ≡ b.callers ++ (values_of b.completed ++ values_of b.waiting) →
    (first_dropped b rest).parameters ≡ b.callers ++ (values_of b.completed ++ values_of rest)
dropped_order b p rest waiting in_order =
    let all : b.parameters ≡ b.callers ++ (values_of b.completed ++ (p.value ∷ values_of rest)) =
    in_order ∙ ap (λ ps. b.callers ++ (values_of b.completed ++ values_of ps)) waiting in
    let place : length b.callers + length (values_of b.completed) ≡ length b.callers + length b.completed =
    ap (λ n. length b.callers + n) (length-values b.completed) in
    rw all (remove_behind b.callers (values_of b.completed) (values_of rest) p.value (length b.callers + length b.completed) place)

dropped_shape :
    (types : Types) (b : BlockShape) (p : Parameter) (rest : List Parameter) → b.waiting ≡ p ∷ rest → IsBlockShape types b →
    IsBlockShape types (first_dropped b rest)
dropped_shape types b p rest waiting is_block =
    let typed : (q : Parameter) → HasParameter (p ∷ rest) q → types.of_value q.value ≡ types.of_variable q.variable =
    subst (λ ps. (q : Parameter) → HasParameter ps q → types.of_value q.value ≡ types.of_variable q.variable) waiting is_block.waiting_typed in
    let is_recorded : (q : Parameter) → HasParameter (p ∷ rest) q → b.recorded q.variable ≢ None =
    subst (λ ps. (q : Parameter) → HasParameter ps q → b.recorded q.variable ≢ None) waiting is_block.waiting_recorded in
    let not_begun : (q : Parameter) → HasParameter (p ∷ rest) q → q.begun ≡ false → b.lookups q.variable ≡ 0 =
    subst (λ ps. (q : Parameter) → HasParameter ps q → q.begun ≡ false → b.lookups q.variable ≡ 0) waiting is_block.not_begun in
    let apart : Apart (p ∷ rest) = subst (λ ps. Apart ps) waiting is_block.apart in
    record {
      pristine = λ e. absurd (nothing_waits p rest (sym waiting ∙ (is_block.pristine e).1));
      in_order = dropped_order b p rest waiting is_block.in_order;
      unsealed = is_block.unsealed;
      joined = is_block.joined;
      completed_typed = is_block.completed_typed;
      waiting_typed = λ q has. typed q (inr has);
      recorded_typed = is_block.recorded_typed;
      waiting_recorded = λ q has. is_recorded q (inr has);
      apart = apart.1;
      untouched = is_block.untouched;
      not_looked_up = is_block.not_looked_up;
      not_begun = λ q has e. not_begun q (inr has) e;
      once = is_block.once;
    }

-- Completing ------------------------------------------------------------------------------------------------------

appended_here :
    (types : Types) (shape : Shape) (b : ℕ) (p : Parameter) (given : ℕ → ℕ) (e : ℕ) → (shape.edge e).target ≡ Some b →
    types.of_value (given e) ≡ types.of_variable p.variable → IsEdgeShape types (shape.block b).completed (shape.edge e) →
    IsEdgeShape types ((shape.block b).completed ++ (p ∷ [])) (arguments_appended shape.edge b given e)
appended_here types shape b p given e at typed is_edge =
    let leads : leads_to (shape.edge e).target b ≡ true = ap (λ t. leads_to t b) at ∙ number_equal b b refl in
    record {
      given = is_edge.given ++ (given e ∷ []);
      carries =
          ap (λ c. appended_if c (shape.edge e).arguments (given e)) leads ∙
          ap (λ vs. vs ++ (given e ∷ [])) is_edge.carries ∙
          append_assoc (shape.edge e).caller_arguments is_edge.given (given e ∷ []);
      gives_each = gives_more types (shape.block b).completed is_edge.given p (given e) is_edge.gives_each typed;
    }

appended_elsewhere :
    (types : Types) (shape : Shape) (b c : ℕ) (given : ℕ → ℕ) (e : ℕ) → (shape.edge e).target ≡ Some c → c ≢ b →
    IsEdgeShape types (shape.block c).completed (shape.edge e) → IsEdgeShape types (shape.block c).completed (arguments_appended shape.edge b given e)
appended_elsewhere types shape b c given e at ne is_edge =
    let leads : leads_to (shape.edge e).target b ≡ false = ap (λ t. leads_to t b) at ∙ number_other c b ne in
    record {
      given = is_edge.given;
      carries = ap (λ l. appended_if l (shape.edge e).arguments (given e)) leads ∙ is_edge.carries;
      gives_each = is_edge.gives_each;
    }

completed_edge :
    (types : Types) (shape : Shape) (b : ℕ) (p : Parameter) (rest : List Parameter) (given : ℕ → ℕ) →
    ((e : ℕ) → (shape.edge e).target ≡ Some b → types.of_value (given e) ≡ types.of_variable p.variable) → Structured types shape →
    (e c : ℕ) → (shape.edge e).target ≡ Some c →
    ((c ≡ b) × (updated shape.block b (first_completed (shape.block b) p rest) c ≡ first_completed (shape.block b) p rest)) ⊎
    ((c ≢ b) × (updated shape.block b (first_completed (shape.block b) p rest) c ≡ shape.block c)) →
    IsEdgeShape types (updated shape.block b (first_completed (shape.block b) p rest) c).completed (arguments_appended shape.edge b given e)
completed_edge types shape b p rest given typed before e c at (inl here) =
    let at_b : (shape.edge e).target ≡ Some b = at ∙ ap (λ d. Some d) here.0 in
    subst (λ (s : BlockShape). IsEdgeShape types s.completed (arguments_appended shape.edge b given e)) (sym here.1)
    (appended_here types shape b p given e at_b (typed e at_b) (before.edges e b at_b))
completed_edge types shape b p rest given typed before e c at (inr other) =
    subst (λ (s : BlockShape). IsEdgeShape types s.completed (arguments_appended shape.edge b given e)) (sym other.1)
    (appended_elsewhere types shape b c given e at other.0 (before.edges e c at))

-- Every step ------------------------------------------------------------------------------------------------------

declared_shape : (types : Types) (b : BlockShape) (predecessors : List ℕ) → b.sealed ≡ false → IsBlockShape types b → IsBlockShape types (record b { predecessors = predecessors })
declared_shape types b predecessors open_block is_block = record {
  pristine = is_block.pristine;
  in_order = is_block.in_order;
  unsealed = is_block.unsealed;
  joined = inl (is_block.unsealed open_block);
  completed_typed = is_block.completed_typed;
  waiting_typed = is_block.waiting_typed;
  recorded_typed = is_block.recorded_typed;
  waiting_recorded = is_block.waiting_recorded;
  apart = is_block.apart;
  untouched = is_block.untouched;
  not_looked_up = is_block.not_looked_up;
  not_begun = is_block.not_begun;
  once = is_block.once;
}

sealed_shape : (types : Types) (b : BlockShape) → IsBlockShape types b → IsBlockShape types (record b { sealed = true })
sealed_shape types b is_block = record {
  pristine = is_block.pristine;
  in_order = is_block.in_order;
  unsealed = λ e. absurd cc;
  joined = is_block.joined;
  completed_typed = is_block.completed_typed;
  waiting_typed = is_block.waiting_typed;
  recorded_typed = is_block.recorded_typed;
  waiting_recorded = is_block.waiting_recorded;
  apart = is_block.apart;
  untouched = is_block.untouched;
  not_looked_up = is_block.not_looked_up;
  not_begun = is_block.not_begun;
  once = is_block.once;
}

retargeted :
    (types : Types) (shape : Shape) (e b c : ℕ) → (shape.edge e).target ≡ Some b → (shape.block b).sealed ≡ false → (shape.block c).sealed ≡ false →
    Structured types shape → IsEdgeShape types (shape.block c).completed (record (shape.edge e) { target = Some c })
retargeted types shape e b c at open_b open_c before =
    edge_plain types (shape.block c) (record (shape.edge e) { target = Some c }) (before.blocks c) open_c
    (plain_edge types (shape.block b) (shape.edge e) (before.blocks b) open_b (before.edges e b at))

entered_shape : (types : Types) (b : BlockShape) → IsBlockShape types b → IsBlockShape types (record b { entered = true })
entered_shape types b is_block = record {
  pristine = λ e. absurd cc;
  in_order = is_block.in_order;
  unsealed = is_block.unsealed;
  joined = is_block.joined;
  completed_typed = is_block.completed_typed;
  waiting_typed = is_block.waiting_typed;
  recorded_typed = is_block.recorded_typed;
  waiting_recorded = is_block.waiting_recorded;
  apart = is_block.apart;
  untouched = is_block.untouched;
  not_looked_up = is_block.not_looked_up;
  not_begun = is_block.not_begun;
  once = is_block.once;
}

pub structure_kept : (types : Types) (shape shape' : Shape) → ShapeStep types shape shape' → Structured types shape → Structured types shape'
structure_kept types shape shape' (enter b) before =
    block_changed types shape b (record (shape.block b) { entered = true }) before (entered_shape types (shape.block b) (before.blocks b)) refl (λ e. refl)
structure_kept types shape shape' (new_edge e from b arguments entered open_block) before =
    let new : EdgeShape = record { source = from; target = Some b; caller_arguments = arguments; arguments = arguments } in
    edge_changed types shape e new b before refl (edge_plain types (shape.block b) new (before.blocks b) open_block refl) entered
structure_kept types shape shape' (retarget e b c at open_b open_c) before =
    edge_changed types shape e (record (shape.edge e) { target = Some c }) c before refl
    (retargeted types shape e b c at open_b open_c before) (before.sources e b at)
structure_kept types shape shape' (declare b predecessors open_block) before =
    block_changed types shape b (record (shape.block b) { predecessors = predecessors }) before
    (declared_shape types (shape.block b) predecessors open_block (before.blocks b)) refl (λ e. e)
structure_kept types shape shape' (seal_shape b) before =
    block_changed types shape b (record (shape.block b) { sealed = true }) before (sealed_shape types (shape.block b) (before.blocks b)) refl (λ e. e)
structure_kept types shape shape' (add_caller b v bare) before =
    block_changed types shape b (caller_added (shape.block b) v) before
    (caller_shape types (shape.block b) v bare (before.blocks b)) refl (λ e. e)
structure_kept types shape shape' (add_waiting b x v entered none typed) before =
    block_changed types shape b (waiting_added (shape.block b) x v) before
    (waiting_shape types (shape.block b) x v entered none typed (before.blocks b)) refl (λ e. e)
structure_kept types shape shape' (begin_lookup b p rest waiting begun) before =
    block_changed types shape b (lookup_begun (shape.block b) p rest) before
    (begun_shape types (shape.block b) p rest waiting begun (before.blocks b)) refl (λ e. e)
structure_kept types shape shape' (complete_first b p rest given waiting sealed two typed) before = record {
  blocks = λ c.
      block_by types shape b (first_completed (shape.block b) p rest) before
      (completed_shape types (shape.block b) p rest waiting sealed two (before.blocks b)) c
      (updated_cases shape.block b (first_completed (shape.block b) p rest) c);
  edges = λ e c at.
      completed_edge types shape b p rest given typed before e c at (updated_cases shape.block b (first_completed (shape.block b) p rest) c);
  sources = λ e c at.
      source_by types shape b (first_completed (shape.block b) p rest) before (λ e. e) e c at
      (updated_cases shape.block b (first_completed (shape.block b) p rest) (shape.edge e).source);
}
structure_kept types shape shape' (drop_first b p rest waiting) before =
    block_changed types shape b (first_dropped (shape.block b) rest) before
    (dropped_shape types (shape.block b) p rest waiting (before.blocks b)) refl (λ e. e)
structure_kept types shape shape' (record_value b x v typed) before =
    block_changed types shape b (value_recorded (shape.block b) x v) before
    (recorded_shape types (shape.block b) x v typed (before.blocks b)) refl (λ e. e)
structure_kept types shape shape' (use_recorded b x there) before =
    block_changed types shape b (variable_used (shape.block b) x) before
    (used_shape types (shape.block b) x there (before.blocks b)) refl (λ e. e)
structure_kept types shape shape' (assign_value b x v typed) before =
    block_changed types shape b (variable_assigned (shape.block b) x v) before
    (used_shape types (value_recorded (shape.block b) x v) x (just_recorded (shape.block b).recorded x v)
    (recorded_shape types (shape.block b) x v typed (before.blocks b))) refl (λ e. e)

pub shapes_structured : (types : Types) (shape shape' : Shape) → ShapeSteps types shape shape' → Structured types shape → Structured types shape'
shapes_structured types shape shape' no_step before = before
shapes_structured types shape shape' (and_then {shape' = middle} steps step) before =
    structure_kept types middle shape' step (shapes_structured types shape middle steps before)

-- What follows ----------------------------------------------------------------------------------------------------

-- where nothing waits, the parameters are the caller's and the complete ones
parameters_at_rest :
    (types : Types) (b : BlockShape) → IsBlockShape types b → b.waiting ≡ [] → b.parameters ≡ b.callers ++ values_of b.completed
parameters_at_rest types b is_block none =
    is_block.in_order ∙ ap (λ ps. b.callers ++ (values_of b.completed ++ values_of ps)) none ∙
    ap (λ t. b.callers ++ t) (append_nil (values_of b.completed))

pub edges_match :
    (types : Types) (shape : Shape) → Structured types shape → (e b : ℕ) → (shape.edge e).target ≡ Some b → (shape.block b).waiting ≡ [] →
    SameTypes types (shape.edge e).caller_arguments (shape.block b).callers → SameTypes types (shape.edge e).arguments (shape.block b).parameters
edges_match types shape structured e b at none same =
    let block : BlockShape = shape.block b in
    let edge : EdgeShape = shape.edge e in
    let is_edge : IsEdgeShape types block.completed edge = structured.edges e b at in
    let all : SameTypes types (edge.caller_arguments ++ is_edge.given) (block.callers ++ values_of block.completed) =
    types_append types edge.caller_arguments block.callers is_edge.given (values_of block.completed) same
    (gives_types types block.completed is_edge.given is_edge.gives_each (structured.blocks b).completed_typed) in
    subst (λ vs. SameTypes types vs block.parameters) (sym is_edge.carries)
    (subst (λ ws. SameTypes types (edge.caller_arguments ++ is_edge.given) ws) (sym (parameters_at_rest types block (structured.blocks b) none)) all)

pub single_predecessor :
    (types : Types) (shape : Shape) → Structured types shape → (b : ℕ) → length (shape.block b).predecessors ≤ 1 → (shape.block b).waiting ≡ [] →
    (shape.block b).parameters ≡ (shape.block b).callers
single_predecessor types shape structured b few none =
    parameters_at_rest types (shape.block b) (structured.blocks b) none ∙
    ap (λ ps. (shape.block b).callers ++ values_of ps) (none_complete (structured.blocks b).joined) ∙
    append_nil (shape.block b).callers
  where
    none_complete : ((shape.block b).completed ≡ []) ⊎ (2 ≤ length (shape.block b).predecessors) → (shape.block b).completed ≡ []
    none_complete (inl none) = none
    none_complete (inr two) = absurd (omega arith)
