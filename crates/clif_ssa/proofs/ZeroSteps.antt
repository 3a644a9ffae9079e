-- A function with the steps of a zero more.
use Rattle.std.proofs.Common.{◌≡◌, ◌≢◌, ℕ, zero, suc, ◌+◌, ◌-◌, ◌<◌, ◌≤◌, List, [], ◌∷◌, ◌++◌, length, get_or, set, refl, ap, arith, sym, ◌∙◌, subst}
use Rattle.std.specs.Prelude.{Some, None, slice_index, slice_get}
use Rattle.std.specs.List.{insert, range_with_len}
use Rattle.std.proofs.Math.ListN.{get_or-append}
use Rattle.std.proofs.Math.Seq.{get_or-append_right}
use Rattle.std.proofs.lemmas.Grind.{common_steps}
use Rattle.std.proofs.lemmas.List.{append-nil, append_assoc}
use Rattle.std.proofs.lemmas.List.Edits.{insert-append_right}
use Rattle.std.proofs.lemmas.List.FromFn.{length-range_with_len}
use Rattle.std.proofs.lemmas.List.Sums.{sum_by-cons}
use Rattle.clif_types.specs.declared.types.«Type».{«Type»}
use Rattle.clif_ir.specs.Body.{Body, block_at, inst_at, value_at, alias_of, resolved}
use Rattle.clif_nodes.specs.Nodes.{BlockNode, empty_block, no_inst, no_value}
use Rattle.clif_ir.specs.Reading.{param_home, home_of_node}
use Rattle.clif_instructions.specs.Members.{place_of}
use Rattle.clif_ir.specs.Consistent.{alias_count}
use Rattle.clif_ir.specs.Changes.{with_inst, with_param}
use Rattle.clif_instructions.specs.declared.insert_at.InsertAt.TheVariants.{Behind}
use Rattle.clif_nodes.specs.declared.nodes.InstNode.{InstNode}
use Rattle.clif_nodes.specs.declared.nodes.ValueNode.{ValueNode}
use Rattle.clif_nodes.specs.declared.nodes.ValueOrigin.TheVariants.{Result, Param}
use Rattle.clif_nodes.proofs.Results.{range_with_len_more}
use Rattle.clif_instructions.proofs.Lists.{at_set}
use Rattle.clif_ir.proofs.Aliases.{ways_end-append, follow_end}
use Rattle.clif_paths.specs.Blocks.{Blocks}
use Rattle.clif_ssa.specs.Ssa.{no_srcloc, step_insts, step_values, with_steps, zero_value}
use Rattle.clif_ssa.specs.Zeros.{ZeroAt, ZeroStep, HasZero, steps_before, with_pooled, zero_size, zero_steps, zeros_number}
use Rattle.clif_ssa.proofs.Bodies.{Firm, no_alias_behind, past_alias, resolved-append, leads_inside-append, home-append_none}
use Rattle.clif_ssa.proofs.Describing.{Extends}
use Rattle.clif_ssa.proofs.Parameters.{param_count}
use Rattle.clif_ssa.proofs.Pooled.{KeepsConstants, pooled_firm, pooled_has, pooled_keeps, zeros_stay}
use Rattle.clif_ssa.proofs.ZeroTable.{get_inside, last_of, last_step, none_some, same_some, step_count, step_names}

-- THE NODES OF STEPS ----------------------------------------------------------------------------------------------

steps_no_alias : (i : ℕ) (steps : List ZeroStep) (j : ℕ) → alias_of (step_values i steps) j ≡ None
steps_no_alias i [] j = past_alias [] j (omega arith)
steps_no_alias i (step ∷ steps) zero = refl
steps_no_alias i (step ∷ steps) (suc j) = steps_no_alias (suc i) steps j

steps_no_home : (i : ℕ) (steps : List ZeroStep) (j : ℕ) → home_of_node (slice_get (step_values i steps) j) ≡ None
steps_no_home i [] j = refl
steps_no_home i (step ∷ steps) zero = refl
steps_no_home i (step ∷ steps) (suc j) = steps_no_home (suc i) steps j

steps_count : (i : ℕ) (steps : List ZeroStep) → alias_count (step_values i steps) ≡ 0
steps_count i [] = refl
steps_count i (step ∷ steps) =
    let node : ValueNode = record { ty = step.ty; origin = Result i 0 } in
    let rest : alias_count (step_values (suc i) steps) ≡ 0 = steps_count (suc i) steps in
    let here : alias_count (node ∷ step_values (suc i) steps) ≡ 0 + alias_count (step_values (suc i) steps) = sum_by-cons _ node (step_values (suc i) steps) in
    omega (arith, rest, here)

length-step_values : (i : ℕ) (steps : List ZeroStep) → length (step_values i steps) ≡ length steps
length-step_values i [] = refl
length-step_values i (step ∷ steps) = ap suc (length-step_values (suc i) steps)

length-step_insts : (cs : List (List ℕ)) (b v : ℕ) (steps : List ZeroStep) → length (step_insts cs b v steps) ≡ length steps
length-step_insts cs b v [] = refl
length-step_insts cs b v (step ∷ steps) = ap suc (length-step_insts cs b (suc v) steps)

pub step_type : (i : ℕ) (steps : List ZeroStep) (k : ℕ) (step : ZeroStep) → slice_get steps k ≡ Some step → (get_or (step_values i steps) k no_value).ty ≡ step.ty
step_type i [] k step is = absurd (none_some is)
step_type i (s ∷ steps) zero step is = ap (λ (t : ZeroStep). t.ty) (same_some is)
step_type i (s ∷ steps) (suc k) step is = step_type (suc i) steps k step is

-- the instruction that a step is, among these constants, whose result is this value
abbrev pub step_node : List (List ℕ) → ℕ → ℕ → ZeroStep → InstNode
step_node cs b value step =
    record { shape = step.shape (zeros_number cs step.size) (value - 1); results = value ∷ []; block = b; srcloc = no_srcloc }

step_inst : (cs : List (List ℕ)) (b v : ℕ) (steps : List ZeroStep) (k : ℕ) (step : ZeroStep) → slice_get steps k ≡ Some step
    → get_or (step_insts cs b v steps) k no_inst ≡ step_node cs b (v + k) step
step_inst cs b v [] k step is = absurd (none_some is)
step_inst cs b v (s ∷ steps) zero step is =
    let same : v ≡ v + 0 = omega arith in ap (step_node cs b v) (same_some is) ∙ ap (λ w. step_node cs b w step) same
step_inst cs b v (s ∷ steps) (suc k) step is =
    let same : suc v + k ≡ v + suc k = omega arith in step_inst cs b (suc v) steps k step is ∙ ap (λ w. step_node cs b w step) same

-- an entry of a list in which one was replaced by one with the same parameters
params_set : (xs : List BlockNode) (i : ℕ) (y : BlockNode) (k : ℕ) → y.params ≡ (get_or xs i empty_block).params → (get_or (set xs i y) k empty_block).params ≡ (get_or xs k empty_block).params
params_set [] i y k same = refl
params_set (x ∷ xs) zero y zero same = same
params_set (x ∷ xs) zero y (suc k) same = refl
params_set (x ∷ xs) (suc i) y zero same = refl
params_set (x ∷ xs) (suc i) y (suc k) same = params_set xs i y k same

-- what is behind the values of a function stands for itself
pub past_unaliased : (f : Body) (v : ℕ) → length f.values ≤ v → resolved f v ≡ v
past_unaliased f v past = follow_end f.values (length f.values) v (past_alias f.values v past)

-- A FUNCTION WITH STEPS -------------------------------------------------------------------------------------------

module _ (f : Body) (b : ℕ) (steps : List ZeroStep) where
  pub steps_resolved : Firm f → (v : ℕ) → resolved (with_steps f b steps) v ≡ resolved f v
  steps_resolved firm v = resolved-append f.values (step_values (length f.insts) steps) firm.leads firm.ends (steps_no_alias (length f.insts) steps) v

  pub steps_param_home : (v : ℕ) → param_home (with_steps f b steps) v ≡ param_home f v
  steps_param_home v = home-append_none f.values (step_values (length f.insts) steps) (steps_no_home (length f.insts) steps) v

  pub steps_blocks : length (with_steps f b steps).blocks ≡ length f.blocks
  steps_blocks = grind (arith, common_steps)

  pub steps_insts_more : length (with_steps f b steps).insts ≡ length f.insts + length steps
  steps_insts_more = grind (arith, common_steps, length-step_insts f.tables.constants b (length f.values) steps)

  pub steps_values_count : length (with_steps f b steps).values ≡ length f.values + length steps
  steps_values_count = grind (arith, common_steps, length-step_values (length f.insts) steps)

  pub steps_values_more : length f.values ≤ length (with_steps f b steps).values
  steps_values_more = omega (arith, steps_values_count)

  pub steps_params : (c : ℕ) → (block_at (with_steps f b steps) c).params ≡ (block_at f c).params
  steps_params c = params_set f.blocks b (record (block_at f b) { insts = range_with_len (length f.insts) (length steps) ++ (block_at f b).insts }) c refl

  pub steps_firm : Firm f → Firm (with_steps f b steps)
  steps_firm firm = record {
    leads = leads_inside-append f.values (step_values (length f.insts) steps) firm.leads (steps_no_alias (length f.insts) steps);
    ends = ways_end-append f.values (step_values (length f.insts) steps) firm.leads (steps_count (length f.insts) steps)
        (no_alias_behind f.values (step_values (length f.insts) steps) (steps_no_alias (length f.insts) steps)) firm.ends;
    homes_exist = λ v c is. omega (arith, firm.homes_exist v c (sym (steps_param_home v) ∙ is), steps_blocks);
    stands = λ v c is. subst (λ ps. place_of v ps < length ps) (sym (steps_params c)) (firm.stands v c (sym (steps_param_home v) ∙ is));
    params_exist = λ c k here.
        subst (λ ps. k < length ps → slice_index ps k < length (with_steps f b steps).values) (sym (steps_params c))
        (λ below. omega (arith, firm.params_exist c k below, steps_values_more)) here;
  }

  pub steps_old : (i : ℕ) → i < length f.insts → inst_at (with_steps f b steps) i ≡ inst_at f i
  steps_old i inside = get_or-append f.insts (step_insts f.tables.constants b (length f.values) steps) no_inst i inside

  pub steps_old_value : (v : ℕ) → v < length f.values → value_at (with_steps f b steps) v ≡ value_at f v
  steps_old_value v inside = get_or-append f.values (step_values (length f.insts) steps) no_value v inside

  pub steps_new : (k : ℕ) (step : ZeroStep) → slice_get steps k ≡ Some step → inst_at (with_steps f b steps) (length f.insts + k) ≡ step_node f.tables.constants b (length f.values + k) step
  steps_new k step is =
      let there : (length f.insts + k) - length f.insts ≡ k = omega arith in
      get_or-append_right f.insts (step_insts f.tables.constants b (length f.values) steps) (length f.insts + k) no_inst (omega arith)
      ∙ ap (λ j. get_or (step_insts f.tables.constants b (length f.values) steps) j no_inst) there ∙ step_inst f.tables.constants b (length f.values) steps k step is

  pub steps_new_type : (k : ℕ) (step : ZeroStep) → slice_get steps k ≡ Some step → (value_at (with_steps f b steps) (length f.values + k)).ty ≡ step.ty
  steps_new_type k step is =
      let there : (length f.values + k) - length f.values ≡ k = omega arith in
      ap (λ (n : ValueNode). n.ty) (get_or-append_right f.values (step_values (length f.insts) steps) (length f.values + k) no_value (omega arith)
      ∙ ap (λ j. get_or (step_values (length f.insts) steps) j no_value) there) ∙ step_type (length f.insts) steps k step is

  pub steps_insts_here : b < length f.blocks → (block_at (with_steps f b steps) b).insts ≡ range_with_len (length f.insts) (length steps) ++ (block_at f b).insts
  steps_insts_here there =
      at_set (λ (m : BlockNode). m.insts ≡ range_with_len (length f.insts) (length steps) ++ (block_at f b).insts) f.blocks b
      (record (block_at f b) { insts = range_with_len (length f.insts) (length steps) ++ (block_at f b).insts }) b empty_block there
      (λ _. refl) (λ other. absurd (other refl))

  pub steps_insts_other : (c : ℕ) → b < length f.blocks → c ≢ b → (block_at (with_steps f b steps) c).insts ≡ (block_at f c).insts
  steps_insts_other c there apart =
      at_set (λ (m : BlockNode). m.insts ≡ (block_at f c).insts) f.blocks b
      (record (block_at f b) { insts = range_with_len (length f.insts) (length steps) ++ (block_at f b).insts }) c empty_block there
      (λ same. absurd (apart same)) (λ _. refl)

  pub steps_extends : (blocks blocks' : Blocks) → ((v : ℕ) → v < length f.values → blocks'.function.definition v ≡ blocks.function.definition v)
      → Extends f (with_steps f b steps) blocks blocks'
  steps_extends blocks blocks' same = record {
    values_more = steps_values_more;
    insts_more = omega (arith, steps_insts_more);
    inst_same = steps_old;
    constants_kept = λ constant bytes is. is;
    definition_same = same;
  }

-- A ZERO ----------------------------------------------------------------------------------------------------------

abbrev pub put_zero : Body → ℕ → «Type» → Body
put_zero f b ty = with_steps (with_pooled f ty) b (zero_steps ty)

-- where it stands
abbrev pub zero_at : Body → «Type» → ZeroAt
zero_at f ty = record { inst = length f.insts; value = length f.values; ty = ty }

module _ (f : Body) (b : ℕ) (ty : «Type») where
  pub put_resolved : Firm f → (v : ℕ) → resolved (put_zero f b ty) v ≡ resolved f v
  put_resolved firm v = steps_resolved (with_pooled f ty) b (zero_steps ty) (pooled_firm f ty firm) v

  pub put_param_home : (v : ℕ) → param_home (put_zero f b ty) v ≡ param_home f v
  put_param_home v = steps_param_home (with_pooled f ty) b (zero_steps ty) v

  pub put_insts_more : length (put_zero f b ty).insts ≡ length f.insts + length (zero_steps ty)
  put_insts_more = steps_insts_more (with_pooled f ty) b (zero_steps ty)

  pub put_values_count : length (put_zero f b ty).values ≡ length f.values + length (zero_steps ty)
  put_values_count = steps_values_count (with_pooled f ty) b (zero_steps ty)

  pub put_values_more : length f.values ≤ length (put_zero f b ty).values
  put_values_more = steps_values_more (with_pooled f ty) b (zero_steps ty)

  pub put_params : (c : ℕ) → (block_at (put_zero f b ty) c).params ≡ (block_at f c).params
  put_params c = steps_params (with_pooled f ty) b (zero_steps ty) c

  pub put_firm : Firm f → Firm (put_zero f b ty)
  put_firm firm = steps_firm (with_pooled f ty) b (zero_steps ty) (pooled_firm f ty firm)

  pub put_old : (i : ℕ) → i < length f.insts → inst_at (put_zero f b ty) i ≡ inst_at f i
  put_old i inside = steps_old (with_pooled f ty) b (zero_steps ty) i inside

  pub put_old_value : (v : ℕ) → v < length f.values → value_at (put_zero f b ty) v ≡ value_at f v
  put_old_value v inside = steps_old_value (with_pooled f ty) b (zero_steps ty) v inside

  pub put_insts_here : b < length f.blocks → (block_at (put_zero f b ty) b).insts ≡ range_with_len (length f.insts) (length (zero_steps ty)) ++ (block_at f b).insts
  put_insts_here there = steps_insts_here (with_pooled f ty) b (zero_steps ty) there

  pub put_insts_other : (c : ℕ) → b < length f.blocks → c ≢ b → (block_at (put_zero f b ty) c).insts ≡ (block_at f c).insts
  put_insts_other c there apart = steps_insts_other (with_pooled f ty) b (zero_steps ty) c there apart

  pub put_constants : KeepsConstants f (put_zero f b ty)
  put_constants = pooled_keeps f ty

  pub put_extends : (blocks blocks' : Blocks) → ((v : ℕ) → v < length f.values → blocks'.function.definition v ≡ blocks.function.definition v)
      → Extends f (put_zero f b ty) blocks blocks'
  put_extends blocks blocks' same = record {
    values_more = put_values_more;
    insts_more = omega (arith, put_insts_more);
    inst_same = put_old;
    constants_kept = put_constants;
    definition_same = same;
  }

pub zero_count : (f : Body) (b : ℕ) (ty : «Type») → length (put_zero f b ty).values ≡ zero_value f ty + 1
zero_count f b ty = omega (arith, put_values_count f b ty, step_count ty)

pub put_stands : (f : Body) (b : ℕ) (ty : «Type») → HasZero (put_zero f b ty) (zero_at f ty)
put_stands f b ty k step is =
    let pooled : Body = with_pooled f ty in
    let new : inst_at (put_zero f b ty) (length f.insts + k) ≡ step_node pooled.tables.constants b (length f.values + k) step = steps_new pooled b (zero_steps ty) k step is in
    let inside : k < length (zero_steps ty) = get_inside (zero_steps ty) k step is in
    record {
      exists = omega (arith, inside, put_insts_more f b ty);
      value_exists = omega (arith, inside, put_values_count f b ty);
      constant = zeros_number pooled.tables.constants step.size;
      zeros = (step_names ty k step is).numbered (put_zero f b ty) (zeros_stay pooled (put_zero f b ty) _ (zero_size ty) (λ constant bytes here. here) (pooled_has f ty));
      shape = ap (λ (n : InstNode). n.shape) new;
      result = ap (λ (n : InstNode). n.results) new;
    }

pub zero_type : (f : Body) (b : ℕ) (ty : «Type») → (value_at (put_zero f b ty) (zero_value f ty)).ty ≡ ty
zero_type f b ty = steps_new_type (with_pooled f ty) b (zero_steps ty) (steps_before ty) (last_of ty) (last_step ty)

-- a new parameter has its type, and the next zero of that is so many values behind it
pub param_type : (f : Body) (b : ℕ) (ty : «Type») → (value_at (with_param f b ty) (length f.values)).ty ≡ ty
param_type f b ty = last_type f.values (record { ty = ty; origin = Param b })
  where
    last_type : (values : List ValueNode) (n : ValueNode) → (get_or (values ++ n ∷ []) (length values) no_value).ty ≡ n.ty
    last_type [] n = refl
    last_type (m ∷ values) n = last_type values n

pub param_zero_value : (f : Body) (b : ℕ) (ty : «Type»)
    → zero_value (with_param f b ty) (value_at (with_param f b ty) (length f.values)).ty ≡ length f.values + 1 + steps_before ty
param_zero_value f b ty =
    ap (λ t. zero_value (with_param f b ty) t) (param_type f b ty) ∙ ap (λ n. n + steps_before ty) (param_count f b ty)

-- STEP BY STEP ----------------------------------------------------------------------------------------------------

step_values-push : (i : ℕ) (steps : List ZeroStep) (step : ZeroStep)
    → step_values i (steps ++ step ∷ []) ≡ step_values i steps ++ record { ty = step.ty; origin = Result (i + length steps) 0 } ∷ []
step_values-push i [] step = let same : i ≡ i + 0 = omega arith in ap (λ j. record { ty = step.ty; origin = Result j 0 } ∷ []) same
step_values-push i (s ∷ steps) step =
    let same : suc i + length steps ≡ i + suc (length steps) = omega arith in
    ap (λ nodes. record { ty = s.ty; origin = Result i 0 } ∷ nodes)
    (step_values-push (suc i) steps step ∙ ap (λ j. step_values (suc i) steps ++ record { ty = step.ty; origin = Result j 0 } ∷ []) same)

step_insts-push : (cs : List (List ℕ)) (b v : ℕ) (steps : List ZeroStep) (step : ZeroStep)
    → step_insts cs b v (steps ++ step ∷ []) ≡ step_insts cs b v steps ++ step_node cs b (v + length steps) step ∷ []
step_insts-push cs b v [] step = let same : v ≡ v + 0 = omega arith in ap (λ w. step_node cs b w step ∷ []) same
step_insts-push cs b v (s ∷ steps) step =
    let same : suc v + length steps ≡ v + suc (length steps) = omega arith in
    ap (λ nodes. step_node cs b v s ∷ nodes) (step_insts-push cs b (suc v) steps step ∙ ap (λ w. step_insts cs b (suc v) steps ++ step_node cs b w step ∷ []) same)

-- no step yet, and one step more, behind the others
pub steps_none : (f : Body) (b : ℕ) → b < length f.blocks → with_steps f b [] ≡ f
steps_none f b there =
    let values : f.values ++ [] ≡ f.values = append-nil f.values in
    let insts : f.insts ++ [] ≡ f.insts = append-nil f.insts in
    let blocks : set f.blocks b (block_at f b) ≡ f.blocks = grind (arith, common_steps, there) in
    ap (λ vs. record f { values = vs; insts = f.insts ++ []; blocks = set f.blocks b (block_at f b) }) values
    ∙ ap (λ is. record f { insts = is; blocks = set f.blocks b (block_at f b) }) insts
    ∙ ap (λ bs. record f { blocks = bs }) blocks

set_twice : (xs : List BlockNode) (k : ℕ) (x y : BlockNode) → set (set xs k x) k y ≡ set xs k y
set_twice [] k x y = refl
set_twice (z ∷ xs) zero x y = refl
set_twice (z ∷ xs) (suc k) x y = ap (λ ys. z ∷ ys) (set_twice xs k x y)

pub steps_push : (f : Body) (b : ℕ) (steps : List ZeroStep) (step : ZeroStep) → b < length f.blocks
    → with_inst (with_steps f b steps) b (Behind (length steps)) (step.shape (zeros_number f.tables.constants step.size) (length (with_steps f b steps).values - 1)) (step.ty ∷ []) no_srcloc
    ≡ with_steps f b (steps ++ step ∷ [])
steps_push f b steps step there =
    let g : Body = with_steps f b steps in
    let inst : ℕ = length g.insts in
    let value : ℕ = length g.values in
    let made : List ℕ = range_with_len (length f.insts) (length steps) in
    let old : List ℕ = (block_at f b).insts in
    let inst_is : inst ≡ length f.insts + length steps = steps_insts_more f b steps in
    let value_is : value ≡ length f.values + length steps = steps_values_count f b steps in
    let here : block_at g b ≡ record (block_at f b) { insts = made ++ old } = grind (arith, common_steps, there) in
    let count : length (steps ++ step ∷ []) ≡ length steps + 1 = grind (arith, common_steps) in
    let at_end : insert (made ++ old) (length steps) inst ≡ range_with_len (length f.insts) (length (steps ++ step ∷ [])) ++ old =
    let none : length steps - length steps ≡ 0 = omega arith in
    insert-append_right made old (length steps) (length steps) inst (length-range_with_len (length f.insts) (length steps)) (omega arith)
    ∙ ap (λ k. made ++ insert old k inst) none
    ∙ sym (append_assoc made (inst ∷ []) old)
    ∙ ap (λ i. (made ++ i ∷ []) ++ old) inst_is
    ∙ ap (λ xs. xs ++ old) (sym (range_with_len_more (length f.insts) (length steps)))
    ∙ ap (λ n. range_with_len (length f.insts) n ++ old) (sym count) in
    let values : g.values ++ record { ty = step.ty; origin = Result inst 0 } ∷ [] ≡ f.values ++ step_values (length f.insts) (steps ++ step ∷ []) =
    append_assoc f.values (step_values (length f.insts) steps) _
    ∙ ap (λ i. f.values ++ (step_values (length f.insts) steps ++ record { ty = step.ty; origin = Result i 0 } ∷ [])) inst_is
    ∙ ap (λ vs. f.values ++ vs) (sym (step_values-push (length f.insts) steps step)) in
    let insts : g.insts ++ step_node f.tables.constants b value step ∷ [] ≡ f.insts ++ step_insts f.tables.constants b (length f.values) (steps ++ step ∷ []) =
    append_assoc f.insts (step_insts f.tables.constants b (length f.values) steps) _
    ∙ ap (λ v. f.insts ++ (step_insts f.tables.constants b (length f.values) steps ++ step_node f.tables.constants b v step ∷ [])) value_is
    ∙ ap (λ is. f.insts ++ is) (sym (step_insts-push f.tables.constants b (length f.values) steps step)) in
    let node : BlockNode = record (block_at f b) { insts = range_with_len (length f.insts) (length (steps ++ step ∷ [])) ++ old } in
    let block : record (block_at g b) { insts = insert (block_at g b).insts (length steps) inst } ≡ node =
    ap (λ (n : BlockNode). record n { insts = insert n.insts (length steps) inst }) here
    ∙ ap (λ is. record (block_at f b) { insts = is }) at_end in
    let blocks : set g.blocks b (record (block_at g b) { insts = insert (block_at g b).insts (length steps) inst }) ≡ set f.blocks b node =
    ap (λ n. set g.blocks b n) block ∙ set_twice f.blocks b _ node in
    ap (λ vs. record f { values = vs; insts = g.insts ++ step_node f.tables.constants b value step ∷ []; blocks = set g.blocks b (record (block_at g b) { insts = insert (block_at g b).insts (length steps) inst }) }) values
    ∙ ap (λ is. record f { values = f.values ++ step_values (length f.insts) (steps ++ step ∷ []); insts = is; blocks = set g.blocks b (record (block_at g b) { insts = insert (block_at g b).insts (length steps) inst }) }) insts
    ∙ ap (λ bs. record f { values = f.values ++ step_values (length f.insts) (steps ++ step ∷ []); insts = f.insts ++ step_insts f.tables.constants b (length f.values) (steps ++ step ∷ []); blocks = bs }) blocks

-- THE LAST VALUE --------------------------------------------------------------------------------------------------

step_unaliased : (f : Body) (b : ℕ) (steps : List ZeroStep) (v : ℕ) → length f.values ≤ v → resolved (with_steps f b steps) v ≡ v
step_unaliased f b steps v past =
    follow_end (f.values ++ step_values (length f.insts) steps) (length (f.values ++ step_values (length f.insts) steps)) v
    (no_alias_behind f.values (step_values (length f.insts) steps) (steps_no_alias (length f.insts) steps) v past)

-- it is the zero, and stands for itself
pub record IsLatestZero (f h : Body) (ty : «Type») (v : ℕ) : Type 0 where
  pub number : v ≡ zero_value f ty
  pub exists : v < length h.values
  pub unaliased : resolved h v ≡ v

pub latest_zero : (f g h : Body) (b v : ℕ) (ty : «Type») → length g.values ≡ length f.values → h ≡ put_zero g b ty → v ≡ length h.values - 1 → IsLatestZero f h ty v
latest_zero f g h b v ty same is latest =
    let count : length h.values ≡ zero_value g ty + 1 = ap (λ (k : Body). length k.values) is ∙ zero_count g b ty in
    record {
      number = omega (arith, count, latest, same);
      exists = omega (arith, count, latest);
      unaliased = subst (λ k. resolved k v ≡ v) (sym is) (step_unaliased (with_pooled g ty) b (zero_steps ty) v (omega (arith, count, latest)));
    }
