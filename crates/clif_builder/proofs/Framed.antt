-- What calls leave of the types of values and of which blocks are filled.
use Rattle.std.proofs.Common.{◌≡◌, ◌+◌, ◌<◌, ℕ, zero, suc, List, [], ◌∷◌, ◌++◌, length, map, refl, sym, ◌∙◌, ap, ap₂, subst, arith, inl, inr, ◌⊎◌, append_assoc, length-append}
use Rattle.std.specs.Prelude.{◌==◌, ◌||◌, ◌↔◌, IsTrue, slice_index_or, true, false, Bool, if◌then◌else◌, Option, Some, None, IfSome, Result, Ok, Err, IfOk, OnOk}
use Rattle.std.specs.List.{range_with_len}
use Rattle.std.proofs.lemmas.Bool.{cases_eq, eq-eqb, ne_eqb}
use Rattle.clif_types.specs.declared.types.«Type».{«Type»}
use Rattle.clif_nodes.specs.declared.nodes.ValueNode.{ValueNode}
use Rattle.clif_nodes.specs.declared.nodes.ValueOrigin.TheVariants as source
use Rattle.clif_instructions.specs.declared.instructions.InstructionData.{InstructionData}
use Rattle.clif_ir.specs.Body.{Body, inst_at, value_at}
use Rattle.clif_nodes.specs.Nodes.{no_value, result_nodes}
use Rattle.clif_ir.specs.Changes.{inserted_in, with_block, with_layout, with_param}
use Rattle.clif_tables.specs.Callees.{types_of_results}
use Rattle.clif_instructions.specs.Members.{stands_in}
use Rattle.clif_simulation.specs.Carries.{with_params}
use Rattle.clif_ssa.specs.Constructs.{OnlyConstructs}
use Rattle.clif_ssa.specs.Ssa.{SameBlocks, SamePredecessors, SealedStays}
use Rattle.clif_records.specs.Tables.{is_yes, pending_of}
use Rattle.clif_builder.specs.Order.{IsUntouched}
use Rattle.clif_builder.specs.declared.context.BlockStatus.{BlockStatus}
use Rattle.clif_builder.specs.declared.context.BlockStatus.TheVariants.{Empty, Partial, Filled}
use Rattle.clif_builder.specs.Builder.{AppendsIn, is_free_at, is_unreachable, may_be_left}
use Rattle.clif_builder.specs.Construction.{IsSealingOf, IsUse, SealsAtMost}
use Rattle.clif_builder.specs.Context.{Begins, ContextState, SetsStatus, begun, status_of}
use Rattle.clif_builder.specs.Growth.{TypesStay}
use Rattle.clif_builder.proofs.Growing.{appended_range}
use Rattle.clif_builder.proofs.LedgerLists.{if-no}

-- THE TYPES OF VALUES -----------------------------------------------------------------------------------------------------

pub types-same : (f g : Body) → g ≡ f → TypesStay f g
types-same f g same v inside = ap (λ (h : Body). (value_at h v).ty) same

front_value : (xs ys : List ValueNode) (v : ℕ) → v < length xs → slice_index_or (xs ++ ys) v no_value ≡ slice_index_or xs v no_value
front_value [] ys v inside = absurd (omega (arith, inside))
front_value (x ∷ xs) ys zero inside = refl
front_value (x ∷ xs) ys (suc v) inside = front_value xs ys v (omega (arith, inside))

last_value : (xs : List ValueNode) (node : ValueNode) → slice_index_or (xs ++ node ∷ []) (length xs) no_value ≡ node
last_value [] node = refl
last_value (x ∷ xs) node = last_value xs node

-- values come behind those that there are
types-more : (f g : Body) (more : List ValueNode) → g.values ≡ f.values ++ more → TypesStay f g
types-more f g more is v inside =
    ap (λ (xs : List ValueNode). (slice_index_or xs v no_value).ty) is ∙ ap (λ (node : ValueNode). node.ty) (front_value f.values more v inside)

same-inserted : (f : Body) (b : ℕ) → (inserted_in f b).values ≡ f.values
same-inserted f b = by (stands_in b f.layout)
  where
    by : (test : Bool) → (if test then f else with_layout f b).values ≡ f.values
    by true = refl
    by false = refl

pub constructed : (f g : Body) → OnlyConstructs f g → TypesStay f g
constructed f g only v inside = elim (only.same_values v inside) [
  | inl same ↦ ap (λ (node : ValueNode). node.ty) same
  | inr names ↦ ap (λ (node : ValueNode). node.ty) names.3
]

pub types-constructs : (f : Body) (b : ℕ) (g : Body) → OnlyConstructs (inserted_in f b) g → TypesStay f g
types-constructs f b g only v inside =
    constructed (inserted_in f b) g only v (subst (λ (xs : List ValueNode). v < length xs) (sym (same-inserted f b)) inside)
    ∙ ap (λ (xs : List ValueNode). (slice_index_or xs v no_value).ty) (same-inserted f b)

pub types-params : (f : Body) (b : ℕ) (types : List «Type») → TypesStay f (with_params f b types)
types-params f b [] v inside = refl
types-params f b (ty ∷ types) v inside =
    types-params (with_param f b ty) b types v (longer f.values _ v inside) ∙ types-more f (with_param f b ty) _ refl v inside
  where
    longer : (xs ys : List ValueNode) (v : ℕ) → v < length xs → v < length (xs ++ ys)
    longer [] ys v inside = absurd (omega (arith, inside))
    longer (x ∷ xs) ys zero inside = omega arith
    longer (x ∷ xs) ys (suc v) inside = let rest = longer xs ys v (omega (arith, inside)) in omega (arith, rest)

-- the calls that answer
pub made-types : {A E : Type 0} (r : Result A E) (f g : Body) → OnOk r (g ≡ with_block f) → OnOk r (TypesStay f g)
made-types (Err e) f g is = tt
made-types (Ok a) f g is = types-more f g [] (ap (λ (h : Body). h.values) is ∙ none f.values)
  where
    none : (xs : List ValueNode) → xs ≡ xs ++ []
    none [] = refl
    none (x ∷ xs) = ap (λ (ys : List ValueNode). x ∷ ys) (none xs)

pub same-types : {A E : Type 0} (r : Result A E) (f : Body) → OnOk r (TypesStay f f)
same-types (Err e) f = tt
same-types (Ok a) f = λ v inside. refl

pub inserted-types : {A E : Type 0} (r : Result A E) (f g : Body) (b : ℕ) → OnOk r (g ≡ inserted_in f b) → OnOk r (TypesStay f g)
inserted-types (Err e) f g b is = tt
inserted-types (Ok a) f g b is = λ v inside. ap (λ (xs : List ValueNode). (slice_index_or xs v no_value).ty) (ap (λ (h : Body). h.values) is ∙ same-inserted f b)

pub more-types : {A E : Type 0} (r : Result A E) (f g : Body) (b : ℕ) (types : List «Type») → OnOk r (g ≡ with_params f b types) → OnOk r (TypesStay f g)
more-types (Err e) f g b types is = tt
more-types (Ok a) f g b types is = subst (TypesStay f) (sym is) (types-params f b types)

-- a new parameter has its type
pub param-typed : {E : Type 0} (r : Result ℕ E) (f g : Body) (b : ℕ) (ty : «Type») → OnOk r (g ≡ with_param f b ty) → IfOk r (λ value. value ≡ length f.values)
    → IfOk r (λ value. (value_at g value).ty ≡ ty)
param-typed (Err e) f g b ty is number = tt
param-typed (Ok value) f g b ty is number =
    ap (λ (h : Body). (value_at h value).ty) is ∙ ap (λ (v : ℕ). (value_at (with_param f b ty) v).ty) number ∙ ap (λ (node : ValueNode). node.ty) (last_value f.values _)

-- an instruction is appended
pub appended-types : (place : ℕ) {E : Type 0} (r : Result ℕ E) (f : Body) (c : ContextState) (g : Body) (d : ContextState) (block : ℕ) (shape : InstructionData) (ty : «Type»)
    → IfOk r (AppendsIn place f c g d block shape ty) → OnOk r (TypesStay f g)
appended-types place (Err e) f c g d block shape ty appends = tt
appended-types place (Ok inst) f c g d block shape ty appends =
    types-more f g (result_nodes (length (inserted_in f block).insts) 0 (types_of_results f.tables shape ty))
    (ap (λ (h : Body). h.values) appends.function ∙ ap (λ (xs : List ValueNode). xs ++ result_nodes (length (inserted_in f block).insts) 0 (types_of_results f.tables shape ty)) (same-inserted f block))

-- its one result has its type
pub appended-typed : (place : ℕ) (f : Body) (c : ContextState) (g : Body) (d : ContextState) (block : ℕ) (shape : InstructionData) (ty result : «Type») (inst value : ℕ)
    → AppendsIn place f c g d block shape ty inst → types_of_results f.tables shape ty ≡ result ∷ [] → value ≡ length f.values → (value_at g value).ty ≡ result
appended-typed place f c g d block shape ty result inst value appends one number =
    ap (λ (xs : List ValueNode). (slice_index_or xs value no_value).ty)
    (ap (λ (h : Body). h.values) appends.function
    ∙ ap (λ (ts : List «Type»). (inserted_in f block).values ++ result_nodes (length (inserted_in f block).insts) 0 ts) one
    ∙ ap (λ (xs : List ValueNode). xs ++ result_nodes (length (inserted_in f block).insts) 0 (result ∷ [])) (same-inserted f block))
    ∙ ap (λ (v : ℕ). (slice_index_or (f.values ++ result_nodes (length (inserted_in f block).insts) 0 (result ∷ [])) v no_value).ty) number
    ∙ ap (λ (node : ValueNode). node.ty) (last_value f.values _)

-- the types of its results
pub appended-types-of : (place : ℕ) (f : Body) (c : ContextState) (g : Body) (d : ContextState) (block : ℕ) (shape : InstructionData) (ty : «Type») (inst : ℕ)
    → AppendsIn place f c g d block shape ty inst → map (λ (value : ℕ). (value_at g value).ty) (inst_at g inst).results ≡ types_of_results f.tables shape ty
appended-types-of place f c g d block shape ty inst appends =
    ap (map (λ (value : ℕ). (value_at g value).ty)) (appended_range _ f c g d block shape ty inst appends)
    ∙ ap (λ (h : Body). map (λ (value : ℕ). (value_at h value).ty) (range_with_len (length (inserted_in f block).values) (length (types_of_results f.tables shape ty)))) appends.function
    ∙ types-from (inserted_in f block).values (length (inserted_in f block).insts) 0 (types_of_results f.tables shape ty)
  where
    here : (values : List ValueNode) (node : ValueNode) (nodes : List ValueNode) → slice_index_or (values ++ node ∷ nodes) (length values) no_value ≡ node
    here [] node nodes = refl
    here (v ∷ values) node nodes = here values node nodes

    types-from : (values : List ValueNode) (i k : ℕ) (types : List «Type»)
        → map (λ (value : ℕ). (slice_index_or (values ++ result_nodes i k types) value no_value).ty) (range_with_len (length values) (length types)) ≡ types
    types-from values i k [] = refl
    types-from values i k (t ∷ types) =
        let node : ValueNode = record { ty = t; origin = source.Result i k } in
        let longer : length (values ++ node ∷ []) ≡ length values + 1 = length-append values (node ∷ []) in
        let moved : values ++ result_nodes i k (t ∷ types) ≡ (values ++ node ∷ []) ++ result_nodes i (k + 1) types = sym (append_assoc values (node ∷ []) (result_nodes i (k + 1) types)) in
        ap₂ (λ (s : «Type») (ss : List «Type»). s ∷ ss)
        (ap (λ (n : ValueNode). n.ty) (here values node (result_nodes i (k + 1) types)))
        (ap₂ (λ (vs : List ValueNode) (n : ℕ). map (λ (value : ℕ). (slice_index_or vs value no_value).ty) (range_with_len n (length types))) moved (sym longer)
        ∙ types-from (values ++ node ∷ []) i (k + 1) types)

-- WHICH BLOCKS ARE FILLED -------------------------------------------------------------------------------------------------

-- a block is filled where it was
abbrev pub SameFilled : ContextState → ContextState → Type 0
SameFilled c d = (b : ℕ) → (status_of d b ≡ Filled) ↔ (status_of c b ≡ Filled)

begun_unfilled : (s : BlockStatus) → begun s ≡ Filled → s ≡ Filled
begun_unfilled Empty same = let no_way : ⊥ = cc in absurd no_way
begun_unfilled Partial same = same
begun_unfilled Filled same = same

-- no status changes but by a beginning
filled_by : (c d : ContextState) → ((b : ℕ) → (status_of d b ≡ status_of c b) ⊎ (status_of d b ≡ begun (status_of c b))) → SameFilled c d
filled_by c d by b = elim (by b) [
  | inl same ↦ (λ filled. sym same ∙ filled, λ filled. same ∙ filled)
  | inr begins ↦ (λ filled. begun_unfilled (status_of c b) (sym begins ∙ filled), λ filled. begins ∙ ap begun filled)
]

pub filled-same : {A E : Type 0} (r : Result A E) (c d : ContextState) → d.status ≡ c.status → OnOk r (SameFilled c d)
filled-same (Err e) c d same = tt
filled-same (Ok a) c d same = filled_by c d (λ b. inl (ap (λ (xs : List BlockStatus). slice_index_or xs b Empty) same))

pub filled-declared : {A E : Type 0} (r : Result A E) (c d : ContextState) (variables : List «Type») → OnOk r (d ≡ record c { variables = variables }) → OnOk r (SameFilled c d)
filled-declared (Err e) c d variables is = tt
filled-declared (Ok a) c d variables is = filled_by c d (λ b. inl (ap (λ (e : ContextState). status_of e b) is))

pub begins-filled : (c d : ContextState) (blocks : List ℕ) → Begins c d blocks → SameFilled c d
begins-filled c d blocks begins = filled_by c d (λ b. by b (stands_in b blocks) (begins b))
  where
    by : (b : ℕ) (test : Bool) → status_of d b ≡ (if test then begun (status_of c b) else status_of c b) → (status_of d b ≡ status_of c b) ⊎ (status_of d b ≡ begun (status_of c b))
    by b true is = inr is
    by b false is = inl is

sets-filled : (c d : ContextState) (block : ℕ) → SetsStatus c d block (begun (status_of c block)) → SameFilled c d
sets-filled c d block sets = filled_by c d (λ b. elim (cases_eq b block) [
  | inl same ↦ inr (ap (status_of d) same ∙ here ∙ ap (λ (n : ℕ). begun (status_of c n)) (sym same))
  | inr other ↦ inl (sets b ∙ if-no (b == block) (begun (status_of c block)) (status_of c b) (ne_eqb b block other))
])
  where
    here : status_of d block ≡ begun (status_of c block)
    here = sets block ∙ ap (λ (t : Bool). if t then begun (status_of c block) else status_of c block) (eq-eqb block block refl)

pub filled-begun : {A E : Type 0} (r : Result A E) (c d : ContextState) (block : ℕ) → OnOk r (SetsStatus c d block (begun (status_of c block))) → OnOk r (SameFilled c d)
filled-begun (Err e) c d block sets = tt
filled-begun (Ok a) c d block sets = sets-filled c d block sets

-- the current block stays left, and may be left
pub still-left : (o p : Option ℕ) (c d : ContextState) → p ≡ o → SameFilled c d → IfSome o (λ block. status_of c block ≡ Filled) → IfSome p (λ block. status_of d block ≡ Filled)
still-left None p c d same filled left = subst (λ (q : Option ℕ). IfSome q (λ block. status_of d block ≡ Filled)) (sym same) tt
still-left (Some block) p c d same filled left = subst (λ (q : Option ℕ). IfSome q (λ block. status_of d block ≡ Filled)) (sym same) ((filled block).1 left)

pub left-free : (o : Option ℕ) (f : Body) (c : ContextState) → IfSome o (λ block. status_of c block ≡ Filled) → IsTrue (is_free_at o f c)
left-free None f c left = refl
left-free (Some block) f c left = by (status_of c block) left
  where
    by : (s : BlockStatus) → s ≡ Filled → IsTrue (may_be_left s || is_unreachable f c block)
    by Empty filled = refl
    by Partial filled = let no_way : ⊥ = cc in absurd no_way
    by Filled filled = refl

-- USES AND SEALINGS -------------------------------------------------------------------------------------------------------

pub used-types : {E : Type 0} (r : Result ℕ E) (f : Body) (c : ContextState) (g : Body) (d : ContextState) (variable : ℕ) (ty : «Type») (block : ℕ)
    → IfOk r (λ value. (told : List ℕ) × IsUse (inserted_in f block) c.ssa g d.ssa variable ty block value told × Begins c d (block ∷ told)) → OnOk r (TypesStay f g)
used-types (Err e) f c g d variable ty block uses = tt
used-types (Ok value) f c g d variable ty block uses = types-constructs f block g uses.1.constructs

pub used-filled : {E : Type 0} (r : Result ℕ E) (f : Body) (c : ContextState) (g : Body) (d : ContextState) (variable : ℕ) (ty : «Type») (block : ℕ)
    → IfOk r (λ value. (told : List ℕ) × IsUse (inserted_in f block) c.ssa g d.ssa variable ty block value told × Begins c d (block ∷ told)) → OnOk r (SameFilled c d)
used-filled (Err e) f c g d variable ty block uses = tt
used-filled (Ok value) f c g d variable ty block uses = begins-filled c d (block ∷ uses.0) uses.2

pub used-seals : {E : Type 0} (r : Result ℕ E) (f : Body) (c : ContextState) (g : Body) (d : ContextState) (variable : ℕ) (ty : «Type») (block : ℕ)
    → IfOk r (λ value. (told : List ℕ) × IsUse (inserted_in f block) c.ssa g d.ssa variable ty block value told × Begins c d (block ∷ told)) → OnOk r (SealedStays c.ssa d.ssa)
used-seals (Err e) f c g d variable ty block uses = tt
used-seals (Ok value) f c g d variable ty block uses = uses.1.flags

pub sealed-types : {E : Type 0} (r : Result (Unit {0}) E) (f g : Body) (c d : ContextState) (seals : ℕ → Bool)
    → OnOk r ((told : List ℕ) × IsSealingOf f c.ssa g d.ssa seals told × Begins c d told) → OnOk r (TypesStay f g)
sealed-types (Err e) f g c d seals sealed = tt
sealed-types (Ok u) f g c d seals sealed = constructed f g sealed.1.constructs

pub sealed-filled : {E : Type 0} (r : Result (Unit {0}) E) (f g : Body) (c d : ContextState) (seals : ℕ → Bool)
    → OnOk r ((told : List ℕ) × IsSealingOf f c.ssa g d.ssa seals told × Begins c d told) → OnOk r (SameFilled c d)
sealed-filled (Err e) f g c d seals sealed = tt
sealed-filled (Ok u) f g c d seals sealed = begins-filled c d sealed.0 sealed.2

pub sealed-others : {E : Type 0} (r : Result (Unit {0}) E) (f g : Body) (c d : ContextState) (block : ℕ)
    → OnOk r ((told : List ℕ) × IsSealingOf f c.ssa g d.ssa (λ b. b == block) told × Begins c d told) → OnOk r (SealsAtMost c.ssa d.ssa block)
sealed-others (Err e) f g c d block sealed = tt
sealed-others (Ok u) f g c d block sealed = λ b other. sealed.1.sealed b ∙ if-no (b == block) true _ (ne_eqb b block other)

-- A NEW BLOCK -------------------------------------------------------------------------------------------------------------

pub created-untouched : {E : Type 0} (r : Result ℕ E) (f : Body) (c d : ContextState) → IfOk r (λ block. block ≡ length f.blocks) → SameBlocks c.ssa d.ssa → SamePredecessors c.ssa d.ssa
    → d.status ≡ c.status → IsUntouched c (length f.blocks) → IfOk r (IsUntouched d)
created-untouched (Err e) f c d number sealed leads status fresh = tt
created-untouched (Ok block) f c d number sealed leads status fresh = subst (IsUntouched d) (sym number) (record {
  unsealed = ap is_yes (sealed (length f.blocks)) ∙ fresh.unsealed;
  pristine = ap (λ (xs : List BlockStatus). slice_index_or xs (length f.blocks) Empty) status ∙ fresh.pristine;
  alone = leads (length f.blocks) ∙ fresh.alone;
  none_waits = ap pending_of (sealed (length f.blocks)) ∙ fresh.none_waits;
})
