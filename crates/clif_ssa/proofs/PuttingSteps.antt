-- The steps of a zero are put one after the other.
use Rattle.std.proofs.Common.{◌≡◌, ℕ, zero, suc, ◌+◌, ◌-◌, ◌^◌, ◌<◌, ◌≤◌, ◌⊎◌, inl, inr, List, [], ◌∷◌, ◌++◌, length, take, refl, ap, arith, sym, ◌∙◌, subst}
use Rattle.std.specs.Prelude.{All, MatchOption, Option, Some, None, Result, Err, slice_get, slice_index}
use Rattle.std.specs.List.{range_with_len}
use Rattle.std.proofs.lemmas.Grind.{common_steps}
use Rattle.std.proofs.lemmas.List.FromFn.{length-range_with_len}
use Rattle.clif_types.specs.declared.error.BuildError.{BuildError}
use Rattle.clif_types.specs.declared.error.BuildError.TheVariants.{Full}
use Rattle.clif_types.specs.declared.types.«Type».{«Type»}
use Rattle.clif_instructions.specs.declared.insert_at.InsertAt.TheVariants.{Behind}
use Rattle.clif_instructions.specs.declared.instructions.InstructionData.{InstructionData}
use Rattle.clif_ir.specs.Body.{Body, block_at}
use Rattle.clif_ir.specs.Changes.{HasNoRoom, with_inst}
use Rattle.clif_ir.specs.Consistent.{EdgeExists, EntryExists, ValueExists}
use Rattle.clif_instructions.specs.Instruction.{contexts, entries_of, destinations, operands}
use Rattle.clif_tables.specs.Callees.{count_of_results, types_of_results}
use Rattle.clif_ir.proofs.Changes.{no_room_few}
use Rattle.clif_ir.proofs.KeepsInst.{length-types_of_results}
use Rattle.clif_ssa.specs.Limits.{IsFull}
use Rattle.clif_ssa.specs.Ssa.{no_srcloc, with_steps}
use Rattle.clif_ssa.specs.Zeros.{IsStepAt, IsZeroConstant, ZeroStep, zero_steps, zeros_number}
use Rattle.clif_ssa.proofs.ZeroSteps.{steps_insts_here, steps_insts_more, steps_push, steps_values_count}
use Rattle.clif_ssa.proofs.Pooled.{zeros_stay}
use Rattle.clif_ssa.proofs.ZeroTable.{IsPlainStep, first_alone, none_some, plain_step, same_some, step_inside, step_names}

-- an instruction with a result of this type is the step of a type's zero at a place, with this constant, in a function of so many
-- values
pub record IsNextStep (ty : «Type») (place constant values : ℕ) (shape : InstructionData) (result : «Type») : Type 0 where
  pub step : ZeroStep
  pub is_step : slice_get (zero_steps ty) place ≡ Some step
  pub shape_is : shape ≡ step.shape constant (values - 1)
  pub result_is : result ≡ step.ty

-- what the table answers is a step of the type's zero, or there are no more
pub row_some : (ty : «Type») (place constant values before : ℕ) (r : Option (InstructionData × «Type»)) (shape : InstructionData) (result : «Type»)
    → IsStepAt ty place constant before r → r ≡ Some (shape, result)
    → before ≡ values - 1 → IsNextStep ty place constant values shape result
row_some ty place constant values before r shape result row is latest = by (slice_get (zero_steps ty) place) refl row
  where
    by : (o : Option ZeroStep) → slice_get (zero_steps ty) place ≡ o
        → MatchOption o (r ≡ None) (λ (step : ZeroStep). r ≡ Some (step.shape constant before, step.ty)) → IsNextStep ty place constant values shape result
    by None at row = absurd (none_some (sym row ∙ is))
    by (Some step) at row =
        let same : ◌≡◌ {A = InstructionData × «Type»} (shape, result) (step.shape constant before, step.ty) = same_some (sym is ∙ row) in
        record {
          step = step;
          is_step = at;
          shape_is = ap (λ (p : InstructionData × «Type»). p.0) same ∙ ap (step.shape constant) latest;
          result_is = ap (λ (p : InstructionData × «Type»). p.1) same;
        }

get_past : {X : Type 0} (xs : List X) (k : ℕ) → slice_get xs k ≡ None → length xs ≤ k
get_past [] k none = omega arith
get_past (x ∷ xs) zero none = absurd (none_some (sym none))
get_past (x ∷ xs) (suc k) none = let rest : length xs ≤ k = get_past xs k none in omega (arith, rest)

pub row_none : (ty : «Type») (place constant before : ℕ) (r : Option (InstructionData × «Type»))
    → IsStepAt ty place constant before r
    → ((shape : InstructionData) (t : «Type») → r ≡ Some (shape, t) → ⊥) → length (zero_steps ty) ≤ place
row_none ty place constant before r row none = get_past (zero_steps ty) place (by (slice_get (zero_steps ty) place) row)
  where
    by : (o : Option ZeroStep) → MatchOption o (r ≡ None) (λ (step : ZeroStep). r ≡ Some (step.shape constant before, step.ty)) → o ≡ None
    by None row = refl
    by (Some step) row = absurd (none (step.shape constant before) step.ty row)

pub take_all : {X : Type 0} (xs : List X) (k : ℕ) → length xs ≤ k → take k xs ≡ xs
take_all xs k past = grind (arith, common_steps, past)

pub take_count : {X : Type 0} (xs : List X) (k : ℕ) → k ≤ length xs → length (take k xs) ≡ k
take_count xs k fits = grind (arith, common_steps, fits)

pub get-take : {X : Type 0} (xs : List X) (n k : ℕ) → k < n → slice_get (take n xs) k ≡ slice_get xs k
get-take [] n k below = grind (arith, common_steps)
get-take (x ∷ xs) zero k below = absurd (omega (arith, below))
get-take (x ∷ xs) (suc n) zero below = refl
get-take (x ∷ xs) (suc n) (suc k) below = get-take xs n k (omega (arith, below))

take_get : {X : Type 0} (xs : List X) (k : ℕ) (x : X) → slice_get xs k ≡ Some x → take (k + 1) xs ≡ take k xs ++ x ∷ []
take_get [] k x is = absurd (none_some is)
take_get (y ∷ ys) zero x is = ap (λ z. z ∷ []) (same_some is)
take_get (y ∷ ys) (suc k) x is = let more : suc k + 1 ≡ suc (k + 1) = omega arith in ap (λ n. take n (y ∷ ys)) more ∙ ap (λ zs. y ∷ zs) (take_get ys k x is)

past_front : (xs ys : List ℕ) (n : ℕ) → length xs ≡ n → n ≤ length (xs ++ ys)
past_front xs ys n is = grind (arith, common_steps, is)

-- an error that is passed on was `Full` before
pub full_before : {T U : Type 0} (r : Result T BuildError) (e y : BuildError) → r ≡ Err Full → r ≡ Err y → y ≡ e → ◌≡◌ {A = Result U BuildError} (Err e) (Err Full)
full_before {T} {U} r e y is was same = ap (λ (x : BuildError). Err x) (sym same ∙ error_is y Full (sym was ∙ is))
  where
    error_is : (a b : BuildError) → ◌≡◌ {A = Result T BuildError} (Err a) (Err b) → a ≡ b
    error_is a b both = cc

module _ (f g : Body) (b : ℕ) (ty : «Type») (place : ℕ) (g_is : g ≡ with_steps f b (take place (zero_steps ty))) where
  -- all of them
  pub all_put : place ≤ length (zero_steps ty) → length (zero_steps ty) ≤ place → g ≡ with_steps f b (zero_steps ty)
  all_put fits past = g_is ∙ ap (with_steps f b) (take_all (zero_steps ty) place past)

  -- so many instructions stand there, at least
  pub place_stands : b < length f.blocks → place ≤ length (zero_steps ty) → place ≤ length (block_at g b).insts
  place_stands there fits =
      let count : length (take place (zero_steps ty)) ≡ place = take_count (zero_steps ty) place fits in
      let here : (block_at g b).insts ≡ range_with_len (length f.insts) (length (take place (zero_steps ty))) ++ (block_at f b).insts =
      ap (λ (h : Body). (block_at h b).insts) g_is ∙ steps_insts_here f b (take place (zero_steps ty)) there in
      subst (λ xs. place ≤ length xs) (sym here) (past_front _ (block_at f b).insts place (length-range_with_len (length f.insts) (length (take place (zero_steps ty))) ∙ count))

  -- their number fits
  pub place_small : place ≤ length (zero_steps ty) → length g.insts < 2 ^ 32 → place < 2 ^ 32
  place_small fits small =
      let count : length (take place (zero_steps ty)) ≡ place = take_count (zero_steps ty) place fits in
      let insts : length g.insts ≡ length f.insts + length (take place (zero_steps ty)) = ap (λ (h : Body). length h.insts) g_is ∙ steps_insts_more f b (take place (zero_steps ty)) in
      omega (arith, count, insts, small)

  module _ (constant : ℕ) (pooled : IsZeroConstant f ty constant) (shape : InstructionData) (result : «Type») (next : IsNextStep ty place constant (length g.values) shape result) where
    plain : IsPlainStep next.step
    plain = plain_step ty place next.step next.is_step

    fits : place < length (zero_steps ty)
    fits = step_inside ty place next.step next.is_step

    count : length (take place (zero_steps ty)) ≡ place
    count = take_count (zero_steps ty) place (omega (arith, fits))

    -- its operand, if it has one, is the value before, and it has no edges
    pub step_operands : (k : ℕ) → k < length (operands shape) → slice_index (operands shape) k < length g.values
    step_operands k inside = by place next.is_step refl
      where
        by : (n : ℕ) → slice_get (zero_steps ty) n ≡ Some next.step → place ≡ n → slice_index (operands shape) k < length g.values
        by zero first same =
            let none : operands shape ≡ [] = ap operands next.shape_is ∙ first_alone ty next.step constant (length g.values - 1) first in
            absurd (omega (arith, subst (λ xs. k < length xs) none inside))
        by (suc n) first same =
            let values : length g.values ≡ length f.values + place = ap (λ (h : Body). length h.values) g_is ∙ steps_values_count f b (take place (zero_steps ty)) ∙ ap (λ m. length f.values + m) count in
            let operand : slice_index (operands shape) k ≡ length g.values - 1 =
            subst (λ (s : InstructionData). k < length (operands s) → slice_index (operands s) k ≡ length g.values - 1) (sym next.shape_is)
            (λ below. plain.operands_before constant (length g.values - 1) k 0 below) inside in
            omega (arith, operand, values, same)

    pub step_edges : All (EdgeExists g) (destinations shape)
    step_edges = subst (λ edges. All (EdgeExists g) edges) (sym (ap destinations next.shape_is ∙ plain.no_edges constant (length g.values - 1))) (λ k d inside. absurd (omega (arith, inside)))

    pub step_contexts : All (ValueExists g) (contexts shape)
    step_contexts = subst (λ (values : List ℕ). All (ValueExists g) values) (sym (ap contexts next.shape_is ∙ plain.no_contexts constant (length g.values - 1))) (λ k d inside. absurd (omega (arith, inside)))

    pub step_entries : All (EntryExists g.tables) (entries_of shape)
    step_entries =
        subst (λ (s : InstructionData). All (EntryExists g.tables) (entries_of s)) (sym next.shape_is)
        (plain.entries g constant (length g.values - 1)
        (zeros_stay f g constant next.step.size (λ c bytes is. ap (λ (h : Body). slice_get h.tables.constants c) g_is ∙ is)
        ((step_names ty place next.step next.is_step).has f constant pooled.1)))

    pub step_fits : place + 1 ≤ length (zero_steps ty)
    step_fits = omega (arith, fits)

    step_types : types_of_results g.tables shape result ≡ next.step.ty ∷ []
    step_types =
        ap (types_of_results g.tables shape) next.result_is ∙ ap (λ s. types_of_results g.tables s next.step.ty) next.shape_is
        ∙ plain.one_result g.tables constant (length g.values - 1)

    -- it has one result, so that there is room for it unless a table is full
    pub step_full : length g.values < 2 ^ 32 → HasNoRoom g (count_of_results g.tables shape) → IsFull g
    step_full small full = by (no_room_few g (count_of_results g.tables shape) small few full)
      where
        few : count_of_results g.tables shape ≤ 1
        few = let one : length (types_of_results g.tables shape result) ≡ 1 = ap (λ (ts : List «Type»). length ts) step_types in omega (arith, one, length-types_of_results g.tables shape result)

        by : (length g.insts ≡ 2 ^ 32 - 1) ⊎ (length g.values ≡ 2 ^ 32 - 1) → IsFull g
        by (inl insts) = inr insts
        by (inr values) = inl values

    -- there is one step more
    pub step_more : (loc : ℕ) (h : Body) → b < length f.blocks → loc ≡ no_srcloc → h ≡ with_inst g b (Behind place) shape (types_of_results g.tables shape result) loc
        → (place + 1 ≤ length (zero_steps ty)) × (h ≡ with_steps f b (take (place + 1) (zero_steps ty)))
    step_more loc h there loc_is made = (step_fits, by)
      where
        before : ℕ
        before = length (with_steps f b (take place (zero_steps ty))).values - 1

        shape_same : next.step.shape constant before ≡ next.step.shape (zeros_number f.tables.constants next.step.size) before
        shape_same =
            ap (λ (c : ℕ). next.step.shape c before) pooled.0
            ∙ (step_names ty place next.step next.is_step).same f.tables.constants before

        by : h ≡ with_steps f b (take (place + 1) (zero_steps ty))
        by =
            made
            ∙ ap (λ ts. with_inst g b (Behind place) shape ts loc) step_types
            ∙ ap (λ n. with_inst g b (Behind place) shape (next.step.ty ∷ []) n) loc_is
            ∙ ap (λ s. with_inst g b (Behind place) s (next.step.ty ∷ []) no_srcloc) next.shape_is
            ∙ ap (λ n. with_inst g b (Behind n) (next.step.shape constant (length g.values - 1)) (next.step.ty ∷ []) no_srcloc) (sym count)
            ∙ ap (λ (k : Body). with_inst k b (Behind (length (take place (zero_steps ty)))) (next.step.shape constant (length k.values - 1)) (next.step.ty ∷ []) no_srcloc) g_is
            ∙ ap (λ s. with_inst (with_steps f b (take place (zero_steps ty))) b (Behind (length (take place (zero_steps ty)))) s (next.step.ty ∷ []) no_srcloc) shape_same
            ∙ steps_push f b (take place (zero_steps ty)) next.step there
            ∙ ap (with_steps f b) (sym (take_get (zero_steps ty) place next.step next.is_step))
