-- How much each change of the construction makes.
use Rattle.std.proofs.Common.{◌≡◌, ◌≢◌, ℕ, zero, suc, ◌+◌, ◌<◌, ◌≤◌, ◌==◌, List, [], ◌∷◌, ◌++◌, length, take, set, refl, ap, arith, sym, ◌∙◌, subst, inl, inr}
use Rattle.std.specs.Prelude.{Option, Some, None, Contains, if◌then◌else◌}
use Rattle.std.proofs.lemmas.Bool.{cases_eq}
use Rattle.std.proofs.lemmas.Grind.{common_steps}
use Rattle.std.proofs.lemmas.List.Elements.{Contains-push_cases}
use Rattle.clif_types.specs.declared.types.«Type».{«Type»}
use Rattle.clif_nodes.specs.declared.nodes.ValueOrigin.TheVariants.{Alias}
use Rattle.clif_instructions.proofs.Members.{if_true, if_false}
use Rattle.clif_ir.specs.Body.{Body, value_at, resolved}
use Rattle.clif_ir.specs.Changes.{with_alias, with_branch_argument, inserted_in}
use Rattle.clif_records.specs.declared.tables.Pending.{Pending}
use Rattle.clif_records.specs.Tables.{No, Yes, pending_of}
use Rattle.clif_ssa.specs.declared.zeros.ZeroKind.{ZeroKind}
use Rattle.clif_ssa.specs.declared.zeros.ZeroKind.TheVariants as made
use Rattle.clif_ssa.specs.Counted.{sum_below, one_if_some, recorded_pairs, waiting_below, WaitsBelow, AddsAtMost}
use Rattle.clif_ssa.specs.LookUp.{with_arguments}
use Rattle.clif_ssa.specs.Ssa.{SsaState, record_of, sealed_of, with_steps, with_zero, zero_value, zeroed, MayHaveSomeSteps, SameBlocks, Seals}
use Rattle.clif_ssa.specs.Zeros.{zero_row, zero_steps, row_of_kind, kind_of_zero, with_pooled}
use Rattle.clif_ssa.proofs.Completing.{inserted_same}
use Rattle.clif_ssa.proofs.CountedOnce.{NoneLost}
use Rattle.clif_ssa.proofs.Ordering.{none_contained}
use Rattle.clif_ssa.proofs.PuttingSteps.{take_all, take_count}
use Rattle.clif_ssa.proofs.ZeroSteps.{steps_insts_more, steps_values_count}
use Rattle.clif_ssa.proofs.ZeroTable.{step_count}

-- SUMS ------------------------------------------------------------------------------------------------------------

-- a sum grows with what is added
pub sum_more : (n : ℕ) (f g : ℕ → ℕ) → ((k : ℕ) → f k ≤ g k) → sum_below n f ≤ sum_below n g
unfolding sum_below
sum_more zero f g more = omega arith
sum_more (suc n) f g more = omega (arith, more n, sum_more n f g more)

-- by so much as one number gains
pub sum_gains : (n k gained : ℕ) (f g : ℕ → ℕ) → k < n → f k + gained ≤ g k → ((j : ℕ) → f j ≤ g j) → sum_below n f + gained ≤ sum_below n g
unfolding sum_below
sum_gains zero k gained f g inside here more = absurd (omega (arith, inside))
sum_gains (suc n) k gained f g inside here more =
    elim (cases_eq k n) [
      | inl same ↦
          let last : f n + gained ≤ g n = subst (λ j. f j + gained ≤ g j) same here in
          omega (arith, last, sum_more n f g more)
      | inr apart ↦ omega (arith, more n, sum_gains n k gained f g (omega (arith, inside, apart)) here more)
    ]

-- and by no more, where one number alone does
pub sum_at_most : (n k gained : ℕ) (f g : ℕ → ℕ) → g k ≤ f k + gained → ((j : ℕ) → j ≢ k → g j ≤ f j) → sum_below n g ≤ sum_below n f + gained
unfolding sum_below
sum_at_most zero k gained f g here others = omega arith
sum_at_most (suc n) k gained f g here others =
    elim (cases_eq n k) [
      | inl same ↦
          let last : g n ≤ f n + gained = subst (λ j. g j ≤ f j + gained) (sym same) here in
          omega (arith, last, sum_others n (omega (arith, same)))
      | inr apart ↦ omega (arith, others n apart, sum_at_most n k gained f g here others)
    ]
  where
    sum_others : (m : ℕ) → m ≤ k → sum_below m g ≤ sum_below m f
    sum_others zero below = omega arith
    sum_others (suc m) below = omega (arith, others m (λ same. absurd (omega (arith, same, below))), sum_others m (omega (arith, below)))

-- WHAT IS RECORDED ------------------------------------------------------------------------------------------------

one_stays : (o p : Option ℕ) → (p ≡ None → o ≡ None) → one_if_some o ≤ one_if_some p
one_stays o None lost = subst (λ q. one_if_some q ≤ 0) (sym (lost refl)) (omega arith)
one_stays None (Some v) lost = omega arith
one_stays (Some w) (Some v) lost = omega arith

one_new : (o p : Option ℕ) → o ≡ None → p ≢ None → one_if_some o + 1 ≤ one_if_some p
one_new o None none some = absurd (some refl)
one_new o (Some v) none some = subst (λ q. one_if_some q + 1 ≤ 1) (sym none) (omega arith)

module _ (variables blocks : ℕ) (s t : SsaState) (lost : NoneLost s t) where
  row_stays : (x : ℕ) → sum_below blocks (λ b. one_if_some (record_of s x b)) ≤ sum_below blocks (λ b. one_if_some (record_of t x b))
  row_stays x = sum_more blocks _ _ (λ b. one_stays (record_of s x b) (record_of t x b) (lost x b))

  pub pairs_stay : recorded_pairs variables blocks s ≤ recorded_pairs variables blocks t
  pairs_stay = sum_more variables _ _ row_stays

  -- a pair becomes recorded
  pub pairs_gain : (x b : ℕ) → x < variables → b < blocks → record_of s x b ≡ None → record_of t x b ≢ None
      → recorded_pairs variables blocks s + 1 ≤ recorded_pairs variables blocks t
  pairs_gain x b variable block none some =
      sum_gains variables x 1 _ _ variable
      (sum_gains blocks b 1 _ _ block (one_new (record_of s x b) (record_of t x b) none some) (λ c. one_stays (record_of s x c) (record_of t x c) (lost x c)))
      row_stays

-- WHAT WAITS ------------------------------------------------------------------------------------------------------

pub waiting_same : (blocks : ℕ) (s t : SsaState) → SameBlocks s t → waiting_below blocks t ≡ waiting_below blocks s
waiting_same blocks s t same = λ i. sum_below blocks (λ b. length (pending_of (same b i)))

pub waits_same : (variables : ℕ) (s t : SsaState) → SameBlocks s t → WaitsBelow variables s → WaitsBelow variables t
waits_same variables s t same waits b p here = waits b p (subst (λ entry. Contains (pending_of entry) p) (same b) here)

-- one more parameter waits in a block
module _ (s t : SsaState) (b : ℕ) (p : Pending) (waiting : (c : ℕ) → sealed_of t c ≡ (if c == b then No (pending_of (sealed_of s c) ++ p ∷ []) else sealed_of s c)) where
  here_more : sealed_of t b ≡ No (pending_of (sealed_of s b) ++ p ∷ [])
  here_more = waiting b ∙ if_true b b _ _ refl

  others_same : (c : ℕ) → c ≢ b → sealed_of t c ≡ sealed_of s c
  others_same c apart = waiting c ∙ if_false c b _ _ apart

  pub waiting_one : (blocks : ℕ) → waiting_below blocks t ≤ waiting_below blocks s + 1
  waiting_one blocks =
      sum_at_most blocks b 1 (λ c. length (pending_of (sealed_of s c))) (λ c. length (pending_of (sealed_of t c)))
      (subst (λ entry. length (pending_of entry) ≤ length (pending_of (sealed_of s b)) + 1) (sym here_more) (grind (arith, common_steps)))
      (λ c apart. subst (λ entry. length (pending_of entry) ≤ length (pending_of (sealed_of s c))) (sym (others_same c apart)) (omega arith))

  pub waits_one : (variables : ℕ) → p.variable < variables → WaitsBelow variables s → WaitsBelow variables t
  waits_one variables fits waits c q here =
      elim (cases_eq c b) [
        | inl same ↦
            elim (Contains-push_cases (pending_of (sealed_of s b)) p q (subst (λ entry. Contains (pending_of entry) q) (ap (sealed_of t) same ∙ here_more) here)) [
              | inl old ↦ waits b q old
              | inr last ↦ subst (λ (r : Pending). r.variable < variables) last fits
            ]
        | inr apart ↦ waits c q (subst (λ entry. Contains (pending_of entry) q) (others_same c apart) here)
      ]

-- those that wait in a block do no more, once it is sealed
module _ (s t : SsaState) (b : ℕ) (seals : Seals s t b) where
  here_none : sealed_of t b ≡ Yes
  here_none = seals b ∙ if_true b b _ _ refl

  there_same : (c : ℕ) → c ≢ b → sealed_of t c ≡ sealed_of s c
  there_same c apart = seals c ∙ if_false c b _ _ apart

  pub waiting_sealed : (blocks : ℕ) → b < blocks → waiting_below blocks t + length (pending_of (sealed_of s b)) ≤ waiting_below blocks s
  waiting_sealed blocks inside =
      sum_gains blocks b (length (pending_of (sealed_of s b))) (λ c. length (pending_of (sealed_of t c))) (λ c. length (pending_of (sealed_of s c))) inside
      (subst (λ entry. length (pending_of entry) + length (pending_of (sealed_of s b)) ≤ length (pending_of (sealed_of s b))) (sym here_none) (omega arith))
      (λ c.
      elim (cases_eq c b) [
        | inl same ↦ subst (λ entry. length (pending_of entry) ≤ length (pending_of (sealed_of s c))) (sym (ap (sealed_of t) same ∙ here_none)) (omega arith)
        | inr apart ↦ subst (λ entry. length (pending_of entry) ≤ length (pending_of (sealed_of s c))) (sym (there_same c apart)) (omega arith)
      ])

  pub waits_sealed : (variables : ℕ) → WaitsBelow variables s → WaitsBelow variables t
  waits_sealed variables waits c p here =
      elim (cases_eq c b) [
        | inl same ↦ absurd (none_contained p (subst (λ entry. Contains (pending_of entry) p) (ap (sealed_of t) same ∙ here_none) here))
        | inr apart ↦ waits c p (subst (λ entry. Contains (pending_of entry) p) (there_same c apart) here)
      ]

-- VALUES AND INSTRUCTIONS -----------------------------------------------------------------------------------------

pub adds_same : (f g : Body) → g ≡ f → AddsAtMost 0 f g
adds_same f g same = subst (λ (h : Body). AddsAtMost 0 f h) (sym same) (record { values = omega arith; insts = omega arith })

pub adds_more : (few many : ℕ) (f g : Body) → few ≤ many → AddsAtMost few f g → AddsAtMost many f g
adds_more few many f g more adds = record { values = omega (arith, more, adds.values); insts = omega (arith, more, adds.insts) }

pub adds_then : (first next : ℕ) (f g h : Body) → AddsAtMost first f g → AddsAtMost next g h → AddsAtMost (first + next) f h
adds_then first next f g h adds more = record { values = omega (arith, adds.values, more.values); insts = omega (arith, adds.insts, more.insts) }

one_before : (kind : ZeroKind) → length (row_of_kind kind).before ≤ 1
one_before made.Number = omega arith
one_before made.Extended = omega arith
one_before (made.Float opcode) = omega arith
one_before (made.Splatted opcode) = omega arith
one_before (made.Pooled opcode) = omega arith
one_before made.SplattedPooled = omega arith

first_steps : (ty : «Type») → length (zero_row ty).before ≤ 1
unfolding zero_row
first_steps ty = one_before (kind_of_zero ty)

two_steps : (ty : «Type») → length (zero_steps ty) ≤ 2
two_steps ty = omega (arith, step_count ty, first_steps ty)

-- some steps of a zero, with its block in the layout and its constant
adds_steps : (f : Body) (b : ℕ) (ty : «Type») (count : ℕ) → count ≤ length (zero_steps ty)
    → AddsAtMost 2 f (with_steps (with_pooled (inserted_in f b) ty) b (take count (zero_steps ty)))
adds_steps f b ty count fits =
    let g : Body = with_pooled (inserted_in f b) ty in
    let values : length g.values ≡ length f.values = ap length (inserted_same f b).values in
    let insts : length g.insts ≡ length f.insts = ap length (inserted_same f b).insts in
    let taken : length (take count (zero_steps ty)) ≡ count = take_count (zero_steps ty) count fits in
    record {
      values = omega (arith, steps_values_count g b (take count (zero_steps ty)), values, taken, fits, two_steps ty);
      insts = omega (arith, steps_insts_more g b (take count (zero_steps ty)), insts, taken, fits, two_steps ty);
    }

-- what is left of a zero that failed
pub adds_some : (f g : Body) (b : ℕ) (ty : «Type») → MayHaveSomeSteps f g b ty → AddsAtMost 2 f g
adds_some f g b ty (inl same) = adds_more 0 2 f g (omega arith) (adds_same f g same)
adds_some f g b ty (inr (inl inserted)) =
    subst (AddsAtMost 2 f) (sym inserted)
    (record { values = omega (arith, ap length (inserted_same f b).values); insts = omega (arith, ap length (inserted_same f b).insts) })
adds_some f g b ty (inr (inr (count, fits, is))) = subst (AddsAtMost 2 f) (sym is) (adds_steps f b ty count fits)

pub adds_zero : (f g : Body) (b : ℕ) (ty : «Type») → g ≡ with_zero f b ty → AddsAtMost 2 f g
adds_zero f g b ty put =
    subst (AddsAtMost 2 f) (sym put)
    (subst (λ steps. AddsAtMost 2 f (with_steps (with_pooled (inserted_in f b) ty) b steps)) (take_all (zero_steps ty) (length (zero_steps ty)) (omega arith))
    (adds_steps f b ty (length (zero_steps ty)) (omega arith)))

pub adds_alias : (f g : Body) (v original : ℕ) → g ≡ with_alias f v original → AddsAtMost 0 f g
adds_alias f g v original is =
    let count : length (set f.values v (record (value_at f v) { origin = Alias (resolved f original) })) ≡ length f.values = grind (arith, common_steps) in
    subst (AddsAtMost 0 f) (sym is) (record { values = omega (arith, count); insts = omega arith })

pub adds_zeroed : (f : Body) (b v : ℕ) → AddsAtMost 2 f (zeroed f b v)
adds_zeroed f b v =
    let ty : «Type» = (value_at f v).ty in
    adds_then 2 0 f (with_zero f b ty) (zeroed f b v) (adds_zero f (with_zero f b ty) b ty refl)
    (adds_alias (with_zero f b ty) (zeroed f b v) v (zero_value f ty) refl)

adds_argument : (f : Body) (i b v : ℕ) → AddsAtMost 0 f (with_branch_argument f i b v)
adds_argument f i b v = record { values = omega arith; insts = grind (arith, common_steps) }

pub adds_arguments : (branches values : List ℕ) (f : Body) (b : ℕ) → AddsAtMost 0 f (with_arguments f b branches values)
adds_arguments [] values f b = adds_same f f refl
adds_arguments (i ∷ branches) [] f b = adds_same f f refl
adds_arguments (i ∷ branches) (v ∷ values) f b =
    let g : Body = with_branch_argument f i b v in
    adds_then 0 0 f g (with_arguments g b branches values) (adds_argument f i b v) (adds_arguments branches values g b)
