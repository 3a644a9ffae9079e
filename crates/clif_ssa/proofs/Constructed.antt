-- Each change that the construction makes of a function changes nothing else.
use Rattle.std.proofs.lemmas.List.FromFn.{length-range_with_len}
use Rattle.std.proofs.Common.{◌≡◌, ◌≢◌, ℕ, zero, suc, ◌+◌, ◌<◌, ◌==◌, Bool, true, false, List, [], ◌∷◌, ◌++◌, length, take, get_or, set, refl, ap, arith, sym, ◌∙◌, subst, inl, inr, ◌-◌, ◌≤◌}
use Rattle.std.specs.Prelude.{Some, slice_index, cond, not, slice_get}
use Rattle.std.specs.List.{filter, range_with_len}
use Rattle.std.proofs.Math.ListN.{get_or-append}
use Rattle.std.proofs.lemmas.Grind.{common_steps}
use Rattle.std.proofs.lemmas.Bool.{cases_eq}
use Rattle.std.proofs.lemmas.List.{append-nil}
use Rattle.clif_types.specs.declared.types.«Type».{«Type»}
use Rattle.clif_ir.specs.Body.{Body, value_at, inst_at, block_at, resolved}
use Rattle.clif_nodes.specs.Nodes.{BlockNode, no_value, no_inst, empty_block}
use Rattle.clif_ir.specs.Changes.{with_param, with_alias, with_branch_argument, with_layout, inserted_in, home_of}
use Rattle.clif_ir.specs.Consistent.{IsConsistent}
use Rattle.clif_instructions.specs.Members.{Once, without, stands_in}
use Rattle.clif_instructions.specs.Instruction.{with_argument}
use Rattle.clif_ir.specs.Reading.{param_home}
use Rattle.clif_nodes.specs.declared.nodes.InstNode.{InstNode}
use Rattle.clif_nodes.specs.declared.nodes.ValueNode.{ValueNode}
use Rattle.clif_nodes.specs.declared.nodes.ValueOrigin.TheVariants.{Param, Alias}
use Rattle.clif_instructions.proofs.Members.{if_true, if_false, Once-tail}
use Rattle.clif_ssa.specs.Constructs.{Rises, StaysOrNames, MayPassMore, IsNewStep, ConstructsBlock, OnlyConstructs, TellsZeros}
use Rattle.clif_ssa.specs.Ssa.{with_steps, with_zero, HasMore, HasSomeSteps}
use Rattle.clif_ssa.proofs.Constructing.{block_kept, more_none, constructs_none, constructs_then, filter-all, tells_none, tells_then}
use Rattle.clif_ssa.proofs.Bodies.{param_origin}
use Rattle.clif_ssa.proofs.Completing.{inserted_param_home, inserted_same}
use Rattle.clif_ssa.proofs.PuttingSteps.{get-take, take_all, take_count}
use Rattle.clif_ssa.proofs.Pooled.{pooled_has, pools_none, zeros_pooled, zeros_stay}
use Rattle.clif_ssa.proofs.ZeroSteps.{steps_old, put_insts_more, put_param_home, put_zero, steps_insts_more, steps_values_more, steps_old_value, steps_new, zero_at, put_stands, step_node}
use Rattle.clif_ssa.specs.Zeros.{zero_size, zero_steps, zeros_number, with_pooled, ZeroStep}
use Rattle.clif_ssa.proofs.ZeroTable.{step_names, step_there}

-- an entry of a list in which one was replaced
at_set : {X : Type 0} (P : X → Type 0) (xs : List X) (i : ℕ) (y : X) (k : ℕ) (d : X) → (k ≡ i → P y) → P (get_or xs k d) → P (get_or (set xs i y) k d)
at_set P [] i y k d new old = old
at_set P (x ∷ xs) zero y zero d new old = new refl
at_set P (x ∷ xs) zero y (suc k) d new old = old
at_set P (x ∷ xs) (suc i) y zero d new old = old
at_set P (x ∷ xs) (suc i) y (suc k) d new old = at_set P xs i y k d (λ same. new (ap suc same)) old

-- A PARAMETER -----------------------------------------------------------------------------------------------------

pub param_constructs : (f : Body) (b : ℕ) (ty : «Type») → OnlyConstructs f (with_param f b ty)
param_constructs f b ty =
    let g : Body = with_param f b ty in
    let node : ValueNode = record { ty = ty; origin = Param b } in
    let long : length g.values ≡ length f.values + 1 = grind (arith, common_steps) in
    let old : (v : ℕ) → v < length f.values → value_at g v ≡ value_at f v = λ v inside. get_or-append f.values (node ∷ []) no_value v inside in
    record {
      same = refl;
      tables = pools_none f.tables;
      values = omega (arith, long);
      same_values = λ v inside. inl (old v inside);
      insts = omega arith;
      same_insts = λ i inside. more_none (inst_at f i);
      zeros = λ i from inside. absurd (omega (arith, from, inside));
      block_count = grind (arith, common_steps);
      blocks = λ c.
          at_set (λ n. ConstructsBlock f g (block_at f c) n) f.blocks b (record (block_at f b) { params = (block_at f b).params ++ length f.values ∷ [] }) c empty_block
          (λ same. subst (λ d. ConstructsBlock f g (block_at f d) (record (block_at f b) { params = (block_at f b).params ++ length f.values ∷ [] })) (sym same) (here long))
          (block_kept f g (block_at f c) (omega (arith, long)) (omega arith));
      layout = ([], sym (append-nil f.layout));
    }
  where
    here : length (with_param f b ty).values ≡ length f.values + 1
        → ConstructsBlock f (with_param f b ty) (block_at f b) (record (block_at f b) { params = (block_at f b).params ++ length f.values ∷ [] })
    here long = record {
      zeros = [];
      zeros_fit = tt;
      stays = λ v. true;
      added = length f.values ∷ [];
      node = ap (λ params. record (block_at f b) { params = params ++ length f.values ∷ [] }) (sym (filter-all (block_at f b).params));
      zeros_new = omega arith;
      added_new = (omega arith, omega (arith, long));
    }

-- A BLOCK IN THE LAYOUT -------------------------------------------------------------------------------------------

pub inserted_constructs : (f : Body) (b : ℕ) → OnlyConstructs f (inserted_in f b)
inserted_constructs f b = by (stands_in b f.layout)
  where
    laid : OnlyConstructs f (with_layout f b)
    laid = record {
      same = refl;
      tables = pools_none f.tables;
      values = omega arith;
      same_values = λ v inside. inl refl;
      insts = omega arith;
      same_insts = λ i inside. more_none (inst_at f i);
      zeros = λ i from inside. absurd (omega (arith, from, inside));
      block_count = refl;
      blocks = λ c. block_kept f (with_layout f b) (block_at f c) (omega arith) (omega arith);
      layout = (b ∷ [], refl);
    }

    by : (test : Bool) → OnlyConstructs f (cond test f (with_layout f b))
    by true = constructs_none f
    by false = laid

-- A ZERO ----------------------------------------------------------------------------------------------------------

rises-range : (a n : ℕ) → Rises a (a + n) (range_with_len a n)
rises-range a zero = omega arith
rises-range a (suc n) =
    let from : a + 1 ≡ suc a = omega arith in
    let to : (a + 1) + n ≡ a + suc n = omega arith in
    (omega arith, subst (λ least. Rises least (a + suc n) (range_with_len (a + 1) n)) from (subst (λ bound. Rises (a + 1) bound (range_with_len (a + 1) n)) to (rises-range (a + 1) n)))

-- the first steps of a zero
abbrev some_steps : «Type» → ℕ → List ZeroStep
some_steps ty count = take count (zero_steps ty)

-- each new instruction is a step of the zero
step_new : (f : Body) (b : ℕ) (ty : «Type») (count : ℕ) → count ≤ length (zero_steps ty)
    → (i : ℕ) → length f.insts ≤ i → i < length (with_steps (with_pooled f ty) b (some_steps ty count)).insts → IsNewStep f (with_steps (with_pooled f ty) b (some_steps ty count)) (inst_at (with_steps (with_pooled f ty) b (some_steps ty count)) i)
step_new f b ty count fits i from inside =
    let k : ℕ = i - length f.insts in
    let pooled : Body = with_pooled f ty in
    let g : Body = with_steps pooled b (some_steps ty count) in
    let at : length f.insts + k ≡ i = omega (arith, from) in
    let few : k < count = omega (arith, from, inside, steps_insts_more pooled b (some_steps ty count), take_count (zero_steps ty) count fits) in
    let step : (s : ZeroStep) × (slice_get (zero_steps ty) k ≡ Some s) = step_there ty k (omega (arith, few, fits)) in
    let new : inst_at g i ≡ step_node pooled.tables.constants b (length f.values + k) step.0 =
    ap (inst_at g) (sym at) ∙ steps_new pooled b (some_steps ty count) k step.0 (get-take (zero_steps ty) count k few ∙ step.1) in
    record {
      ty = ty;
      place = k;
      step = step.0;
      is_step = step.1;
      value = length f.values + k;
      is_new = omega arith;
      constant = zeros_number pooled.tables.constants step.0.size;
      zeros = (step_names ty k step.0 step.1).numbered g (zeros_stay pooled g _ (zero_size ty) (λ constant bytes here. here) (pooled_has f ty));
      shape = ap (λ (n : InstNode). n.shape) new;
      results = ap (λ (n : InstNode). n.results) new;
      srcloc = ap (λ (n : InstNode). n.srcloc) new;
    }

steps_construct : (f : Body) (b : ℕ) (ty : «Type») (count : ℕ) → count ≤ length (zero_steps ty) → OnlyConstructs f (with_steps (with_pooled f ty) b (some_steps ty count))
steps_construct f b ty count fits =
    let g : Body = with_steps (with_pooled f ty) b (some_steps ty count) in
    let steps : List ZeroStep = some_steps ty count in
    let values : length f.values ≤ length g.values = steps_values_more (with_pooled f ty) b steps in
    let insts : length g.insts ≡ length f.insts + length steps = steps_insts_more (with_pooled f ty) b steps in
    let node : BlockNode = record (block_at f b) { insts = range_with_len (length f.insts) (length steps) ++ (block_at f b).insts } in
    record {
      same = refl;
      tables = zeros_pooled f.tables (zero_size ty);
      values = values;
      same_values = λ v inside. inl (steps_old_value (with_pooled f ty) b steps v inside);
      insts = omega (arith, insts);
      same_insts = λ i inside. subst (λ n. MayPassMore (inst_at f i) n) (sym (steps_old (with_pooled f ty) b steps i inside)) (more_none (inst_at f i));
      zeros = step_new f b ty count fits;
      block_count = grind (arith, common_steps);
      blocks = λ c.
          at_set (λ n. ConstructsBlock f g (block_at f c) n) f.blocks b node c empty_block
          (λ same. subst (λ d. ConstructsBlock f g (block_at f d) node) (sym same) (here values insts))
          (block_kept f g (block_at f c) values (omega (arith, insts)));
      layout = ([], sym (append-nil f.layout));
    }
  where
    here : length f.values ≤ length (with_steps (with_pooled f ty) b (some_steps ty count)).values → length (with_steps (with_pooled f ty) b (some_steps ty count)).insts ≡ length f.insts + length (some_steps ty count)
        → ConstructsBlock f (with_steps (with_pooled f ty) b (some_steps ty count)) (block_at f b) (record (block_at f b) { insts = range_with_len (length f.insts) (length (some_steps ty count)) ++ (block_at f b).insts })
    here values insts =
        let made : List ℕ = range_with_len (length f.insts) (length (some_steps ty count)) in
        let made_count : length made ≡ length (some_steps ty count) = length-range_with_len (length f.insts) (length (some_steps ty count)) in
        record {
          zeros = made ∷ [];
          zeros_fit = ((ty, omega (arith, made_count, take_count (zero_steps ty) count fits, fits)), tt);
          stays = λ v. true;
          added = [];
          node =
              ap (λ params. record (block_at f b) { params = params; insts = made ++ (block_at f b).insts })
              (sym (filter-all (block_at f b).params) ∙ sym (append-nil (filter (λ v. true) (block_at f b).params)))
              ∙ ap (λ xs. record (block_at f b) { params = filter (λ v. true) (block_at f b).params ++ []; insts = xs ++ (block_at f b).insts }) (sym (append-nil made));
          zeros_new =
              subst (Rises (length f.insts) (length (with_steps (with_pooled f ty) b (some_steps ty count)).insts)) (sym (append-nil made))
              (subst (λ bound. Rises (length f.insts) bound made) (sym insts) (rises-range (length f.insts) (length (some_steps ty count))));
          added_new = values;
        }

pub zero_constructs : (f : Body) (b : ℕ) (ty : «Type») → OnlyConstructs f (put_zero f b ty)
zero_constructs f b ty =
    subst (λ steps. OnlyConstructs f (with_steps (with_pooled f ty) b steps)) (take_all (zero_steps ty) (length (zero_steps ty)) (omega arith)) (steps_construct f b ty (length (zero_steps ty)) (omega arith))

-- its block is told
zero_told : (f : Body) (b : ℕ) (ty : «Type») → TellsZeros f (put_zero f b ty) (b ∷ [])
zero_told f b ty = record {
  zeros = (
    zero_at f ty,
    refl,
    record {
      stands = put_stands f b ty;
      blocks = λ k inside.
          let step : (s : ZeroStep) × (slice_get (zero_steps ty) k ≡ Some s) = step_there ty k inside in
          ap (λ (n : InstNode). n.block) (steps_new (with_pooled f ty) b (zero_steps ty) k step.0 step.1);
    },
    put_insts_more f b ty,
  );
}

-- AN ALIAS --------------------------------------------------------------------------------------------------------

filter-apart : (v : ℕ) (xs : List ℕ) → ((k : ℕ) → k < length xs → slice_index xs k ≢ v) → filter (λ u. not (u == v)) xs ≡ xs
filter-apart v [] apart = refl
filter-apart v (x ∷ xs) apart =
    let other : (x == v) ≡ false = grind (arith, common_steps, apart 0 (omega arith)) in
    ap (λ test. cond (not test) (x ∷ filter (λ u. not (u == v)) xs) (filter (λ u. not (u == v)) xs)) other
    ∙ ap (λ ys. x ∷ ys) (filter-apart v xs (λ k inside. apart (suc k) (omega (arith, inside))))

-- all but `v` stay, if it stands there once
filter-without : (v : ℕ) (xs : List ℕ) → Once xs → without v xs ≡ filter (λ u. not (u == v)) xs
filter-without v [] once = refl
filter-without v (x ∷ xs) once =
    elim (cases_eq x v) [
      | inl same ↦
          let is : (x == v) ≡ true = grind (arith, common_steps, same) in
          if_true x v xs (x ∷ without v xs) same
          ∙ sym (filter-apart v xs (λ k inside equal. once 0 (suc k) (omega arith) (omega (arith, inside)) (same ∙ sym equal)))
          ∙ ap (λ test. cond (not test) (x ∷ filter (λ u. not (u == v)) xs) (filter (λ u. not (u == v)) xs)) (sym is)
      | inr apart ↦
          let isnt : (x == v) ≡ false = grind (arith, common_steps, apart) in
          if_false x v xs (x ∷ without v xs) apart
          ∙ ap (λ ys. x ∷ ys) (filter-without v xs (Once-tail x xs once))
          ∙ ap (λ test. cond (not test) (x ∷ filter (λ u. not (u == v)) xs) (filter (λ u. not (u == v)) xs)) (sym isnt)
    ]

pub alias_constructs : (f : Body) (v original : ℕ) → (value_at f v).origin ≡ Param (home_of (value_at f v).origin) → ((b : ℕ) → Once (block_at f b).params)
    → OnlyConstructs f (with_alias f v original)
alias_constructs f v original is once =
    let g : Body = with_alias f v original in
    let node : ValueNode = record (value_at f v) { origin = Alias (resolved f original) } in
    let b : ℕ = home_of (value_at f v).origin in
    let values : length g.values ≡ length f.values = grind (arith, common_steps) in
    record {
      same = refl;
      tables = pools_none f.tables;
      values = omega (arith, values);
      same_values = λ u inside.
          at_set (λ (n : ValueNode). StaysOrNames (value_at f u) n) f.values v node u no_value
          (λ same. inr (b, resolved f original, ap (λ w. (value_at f w).origin) same ∙ is, ap (λ w. record (value_at f w) { origin = Alias (resolved f original) }) (sym same)))
          (inl refl);
      insts = omega arith;
      same_insts = λ i inside. more_none (inst_at f i);
      zeros = λ i from inside. absurd (omega (arith, from, inside));
      block_count = grind (arith, common_steps);
      blocks = λ c.
          at_set (λ n. ConstructsBlock f g (block_at f c) n) f.blocks b (record (block_at f b) { params = without v (block_at f b).params }) c empty_block
          (λ same. subst (λ d. ConstructsBlock f g (block_at f d) (record (block_at f b) { params = without v (block_at f b).params })) (sym same) (here b values))
          (block_kept f g (block_at f c) (omega (arith, values)) (omega arith));
      layout = ([], sym (append-nil f.layout));
    }
  where
    here : (b : ℕ) → length (with_alias f v original).values ≡ length f.values
        → ConstructsBlock f (with_alias f v original) (block_at f b) (record (block_at f b) { params = without v (block_at f b).params })
    here b values = record {
      zeros = [];
      zeros_fit = tt;
      stays = λ u. not (u == v);
      added = [];
      node =
          ap (λ params. record (block_at f b) { params = params })
          (filter-without v (block_at f b).params (once b) ∙ sym (append-nil (filter (λ u. not (u == v)) (block_at f b).params)));
      zeros_new = omega arith;
      added_new = omega (arith, values);
    }

-- AN ARGUMENT -----------------------------------------------------------------------------------------------------

pub argument_constructs : (f : Body) (i b v : ℕ) → OnlyConstructs f (with_branch_argument f i b v)
argument_constructs f i b v =
    let g : Body = with_branch_argument f i b v in
    let node : InstNode = record (inst_at f i) { shape = with_argument b v (inst_at f i).shape } in
    let insts : length g.insts ≡ length f.insts = grind (arith, common_steps) in
    record {
      same = refl;
      tables = pools_none f.tables;
      values = omega arith;
      same_values = λ u inside. inl refl;
      insts = omega (arith, insts);
      same_insts = λ j inside.
          at_set (λ n. MayPassMore (inst_at f j) n) f.insts i node j no_inst
          (λ same. subst (λ k. MayPassMore (inst_at f k) node) (sym same) ((b, v) ∷ [], refl)) (more_none (inst_at f j));
      zeros = λ j from inside. absurd (omega (arith, from, inside, insts));
      block_count = refl;
      blocks = λ c. block_kept f g (block_at f c) (omega arith) (omega (arith, insts));
      layout = ([], sym (append-nil f.layout));
    }

-- MADE BY A CALL --------------------------------------------------------------------------------------------------

pub param_made : (f g : Body) (b : ℕ) (ty : «Type») → g ≡ with_param f b ty → OnlyConstructs f g
param_made f g b ty is = subst (λ h. OnlyConstructs f h) (sym is) (param_constructs f b ty)

pub inserted_made : (f g : Body) (b : ℕ) → g ≡ inserted_in f b → OnlyConstructs f g
inserted_made f g b is = subst (λ h. OnlyConstructs f h) (sym is) (inserted_constructs f b)

pub with_zero_made : (f g h : Body) (b : ℕ) (ty : «Type») → g ≡ inserted_in f b → h ≡ put_zero g b ty → OnlyConstructs f h
with_zero_made f g h b ty inserted put =
    constructs_then f g h (inserted_made f g b inserted) (subst (λ k. OnlyConstructs g k) (sym put) (zero_constructs g b ty))

-- where it failed, and in any case: some of the steps are there
pub some_steps_made : (f g p h : Body) (b : ℕ) (ty : «Type») → g ≡ inserted_in f b → p ≡ with_pooled g ty → HasSomeSteps p h b ty → OnlyConstructs f h
some_steps_made f g p h b ty inserted pooled some =
    constructs_then f g h (inserted_made f g b inserted)
    (subst (λ k. OnlyConstructs g k) (sym (some.2 ∙ ap (λ (k : Body). with_steps k b (take some.0 (zero_steps ty))) pooled)) (steps_construct g b ty some.0 some.1))

pub constructs_more : (f g : Body) → OnlyConstructs f g → HasMore f g
constructs_more f g made = record { values = made.values; insts = made.insts; blocks = made.block_count }

pub with_zero_told : (f g h : Body) (b : ℕ) (ty : «Type») → g ≡ inserted_in f b → h ≡ put_zero g b ty → TellsZeros f h (b ∷ [])
with_zero_told f g h b ty inserted put =
    tells_then f g h [] (b ∷ []) (subst (λ k. OnlyConstructs g k) (sym put) (zero_constructs g b ty))
    (tells_none f g (ap (λ (k : Body). length k.insts) inserted ∙ ap length (inserted_same f b).insts))
    (subst (λ k. TellsZeros g k (b ∷ [])) (sym put) (zero_told g b ty))

pub alias_made : (f g : Body) (v original : ℕ) → IsConsistent f → (value_at f v).origin ≡ Param (home_of (value_at f v).origin) → g ≡ with_alias f v original → OnlyConstructs f g
alias_made f g v original sound is made = subst (λ h. OnlyConstructs f h) (sym made) (alias_constructs f v original is sound.params_once)

pub alias_told : (f g : Body) (v original : ℕ) → g ≡ with_alias f v original → TellsZeros f g []
alias_told f g v original is = tells_none f g (ap (λ (h : Body). length h.insts) is)

pub argument_made : (f g : Body) (i b v : ℕ) → g ≡ with_branch_argument f i b v → OnlyConstructs f g
argument_made f g i b v is = subst (λ h. OnlyConstructs f h) (sym is) (argument_constructs f i b v)

-- a parameter of a block comes from there
pub param_is : (f : Body) (v b : ℕ) → param_home f v ≡ Some b → (value_at f v).origin ≡ Param (home_of (value_at f v).origin)
param_is f v b is = let at : (value_at f v).origin ≡ Param b = param_origin f v b is in at ∙ sym (ap (λ origin. Param (home_of origin)) at)

-- a parameter is still one once a zero is put
pub zero_param : (f g : Body) (v b : ℕ) (ty : «Type») → param_home f v ≡ Some b → g ≡ with_zero f b ty → param_home g v ≡ Some b
zero_param f g v b ty is made =
    ap (λ h. param_home h v) made ∙ put_param_home (inserted_in f b) b ty v ∙ inserted_param_home f b v ∙ is
