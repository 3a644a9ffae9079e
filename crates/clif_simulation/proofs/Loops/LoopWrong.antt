-- What the row `both_arms` doesn't carry.
use Rattle.std.proofs.Common.{◌≡◌, ℕ, zero, suc, true, List, [], ◌∷◌, pos, refl, sym, ◌∙◌, ap, arith, map, length, Contains}
use Rattle.clif_instructions.specs.declared.block_call.BlockArg.{BlockArg}
use Rattle.clif_instructions.specs.declared.block_call.BlockArg.TheVariants.{Value}
use Rattle.clif_ir.specs.Body.{Body}
use Rattle.clif_paths.specs.State.{Kind, unborn, born, pending, complete, zero_of}
use Rattle.clif_ssa.specs.Sound.{IsBehind, IsCounted}
use Rattle.clif_records.specs.Tables.{No, is_yes}
use Rattle.clif_meaning.specs.Instruction.{Operation, Compute, Iconst, Brif, Edge}
use Rattle.clif_meaning.specs.FunctionView.{Placed}
use Rattle.clif_meaning.specs.View.{argument_of}
use Rattle.clif_meaning.specs.BranchExamples.{block}
use Rattle.clif_simulation.specs.Carries.{Carries, own_placed}
use Rattle.clif_simulation.specs.Laws.{IsFinished}
use Rattle.clif_simulation.specs.CarryingExamples.{loop_calls, loop_body, loop_body_with, loop_state, loop_state_with, edge_to, to_two_or_three, back_with_sum}
use Rattle.clif_simulation.proofs.FreeEntry.{free_first}

pub head_of : {X : Type 0} (x y : X) (xs ys : List X) → x ∷ xs ≡ y ∷ ys → x ≡ y
head_of x y xs ys e = cc

tail_of : {X : Type 0} (x y : X) (xs ys : List X) → x ∷ xs ≡ y ∷ ys → xs ≡ ys
tail_of x y xs ys e = cc

-- the list has an element of which the function is the first one
from_first : {X Y : Type 0} (g : X → Y) (xs : List X) (y : Y) (ys : List Y) → map g xs ≡ y ∷ ys → (x : X) × (g x ≡ y)
from_first g [] y ys e = absurd cc
from_first g (x ∷ xs) y ys e = (x, head_of (g x) y (map g xs) ys e)

pub from_second : {X Y : Type 0} (g : X → Y) (xs : List X) (a y : Y) (ys : List Y) → map g xs ≡ a ∷ y ∷ ys → (x : X) × (g x ≡ y)
from_second g [] a y ys e = absurd cc
from_second g (x ∷ xs) a y ys e = from_first g xs y ys (tail_of (g x) a (map g xs) (y ∷ ys) e)

from_third : {X Y : Type 0} (g : X → Y) (xs : List X) (a b y : Y) (ys : List Y) → map g xs ≡ a ∷ b ∷ y ∷ ys → (x : X) × (g x ≡ y)
from_third g [] a b y ys e = absurd cc
from_third g (x ∷ []) a b y ys e = absurd cc
from_third g (x ∷ w ∷ xs) a b y ys e = from_first g xs y ys (tail_of (g w) b (map g xs) (y ∷ ys) (tail_of (g x) a (map g (w ∷ xs)) (b ∷ y ∷ ys) e))

-- The constant --------------------------------------------------------------------------------------------------------------

abbrev number_in : Operation → ℕ
number_in (Compute (Iconst (pos number))) = number
number_in _ = 0

abbrev number_of_placed : Placed → ℕ
number_of_placed placed = number_in placed.instruction.operation

abbrev six_body : Body
six_body = loop_body_with (pos 6) 0 to_two_or_three back_with_sum

pub other_constant : Carries loop_calls six_body loop_state → ⊥
other_constant carries =
    let found = from_first (own_placed carries.own six_body) (carries.own.insts 0) _ _ (carries.holds.items 0 (block 0) refl) in
    by found.0 (ap number_of_placed found.1)
  where
    by : (inst : ℕ) → number_of_placed (own_placed carries.own six_body inst) ≡ 5 → ⊥
    by zero e = let h : 6 ≡ 5 = e in omega (arith, h)
    by (suc zero) e = let h : 0 ≡ 5 = e in omega (arith, h)
    by (suc (suc zero)) e = let h : 0 ≡ 5 = e in omega (arith, h)
    by (suc (suc (suc zero))) e = let h : 0 ≡ 5 = e in omega (arith, h)
    by (suc (suc (suc (suc zero)))) e = let h : 0 ≡ 5 = e in omega (arith, h)
    by (suc (suc (suc (suc (suc zero))))) e = let h : 0 ≡ 5 = e in omega (arith, h)
    by (suc (suc (suc (suc (suc (suc zero)))))) e = let h : 0 ≡ 5 = e in omega (arith, h)
    by (suc (suc (suc (suc (suc (suc (suc inst))))))) e = let h : 0 ≡ 5 = e in omega (arith, h)

-- The arms ------------------------------------------------------------------------------------------------------------------

-- the target of the first edge, but for that of a jump
abbrev first_target : List (Edge ℕ ℕ) → ℕ
first_target (edge ∷ other ∷ edges) = edge.target
first_target _ = 0

abbrev target_of_placed : Placed → ℕ
target_of_placed placed = first_target placed.instruction.edges

abbrev swapped_body : Body
swapped_body = loop_body_with (pos 5) 0 (edge_to 3 [] ∷ edge_to 2 [] ∷ []) back_with_sum

pub swapped_arms : Carries loop_calls swapped_body loop_state → ⊥
swapped_arms carries =
    let found = from_first (own_placed carries.own swapped_body) (carries.own.insts 1) _ _ (carries.holds.items 1 (block 1) refl) in
    by found.0 (ap target_of_placed found.1)
  where
    by : (inst : ℕ) → target_of_placed (own_placed carries.own swapped_body inst) ≡ 2 → ⊥
    by zero e = let h : 0 ≡ 2 = e in omega (arith, h)
    by (suc zero) e = let h : 0 ≡ 2 = e in omega (arith, h)
    by (suc (suc zero)) e = let h : 3 ≡ 2 = e in omega (arith, h)
    by (suc (suc (suc zero))) e = let h : 0 ≡ 2 = e in omega (arith, h)
    by (suc (suc (suc (suc zero)))) e = let h : 0 ≡ 2 = e in omega (arith, h)
    by (suc (suc (suc (suc (suc zero))))) e = let h : 1 ≡ 2 = e in omega (arith, h)
    by (suc (suc (suc (suc (suc (suc zero)))))) e = let h : 0 ≡ 2 = e in omega (arith, h)
    by (suc (suc (suc (suc (suc (suc (suc inst))))))) e = let h : 0 ≡ 2 = e in omega (arith, h)

-- The argument --------------------------------------------------------------------------------------------------------------

abbrev one_body : Body
one_body = loop_body_with (pos 5) 0 to_two_or_three (edge_to 1 (Value 3 ∷ []) ∷ edge_to 1 [] ∷ [])

-- a branch by the sum, and how many arguments its edges pass
abbrev first_operand : Operation → List ℕ → ℕ
first_operand Brif (value ∷ values) = value
first_operand _ _ = 0

abbrev condition_of : Placed → ℕ
condition_of placed = first_operand placed.instruction.operation placed.instruction.operands

abbrev pub lengths_of : Placed → List ℕ
lengths_of placed = map (λ edge. length edge.arguments) placed.instruction.edges

pub none_mapped : (args : List BlockArg) → length (map argument_of args) ≡ 0 → length args ≡ 0
none_mapped [] e = refl
none_mapped (a ∷ args) e = absurd cc

-- no kind of parameter gets an argument on one of two edges alone
no_kind : (kind : Kind) (callers given other : ℕ) → callers ≡ 0 → given ≡ 0 → other ≡ 0
    → IsBehind kind 0 callers → IsCounted kind 0 callers 1 given → IsCounted kind 0 callers 0 other → ⊥
no_kind unborn callers given other c g o behind first second = absurd behind
no_kind (born n) callers given other c g o behind first second = omega (arith, c, behind)
no_kind (pending x) callers given other c g o behind first second = omega (arith, c, g, first)
no_kind (complete x) callers given other c g o behind first second = omega (arith, c, o, second)
no_kind (zero_of x) callers given other c g o behind first second = absurd behind

pub one_argument : Carries loop_calls one_body loop_state → ⊥
one_argument carries =
    let found = from_third (own_placed carries.own one_body) (carries.own.insts 2) _ _ _ _ (carries.holds.items 2 (block 2) refl) in
    let five : found.0 ≡ 5 = by found.0 (ap condition_of found.1) in
    let same : lengths_of (own_placed carries.own one_body 5) ≡ 0 ∷ 0 ∷ [] =
    ap (λ (inst : ℕ). lengths_of (own_placed carries.own one_body inst)) (sym five) ∙ ap lengths_of found.1 in
    no_kind ((carries.on_paths (free_first one_body loop_state refl refl)).tables.function.definition 1).kind (length (carries.own.params 1)) (length (carries.own.passed 5 0)) (length (carries.own.passed 5 1))
    (ap (λ (params : List ℕ). length params) (carries.holds.parameters 1))
    (none_mapped (carries.own.passed 5 0) (head_of _ _ _ _ same))
    (none_mapped (carries.own.passed 5 1) (head_of _ _ _ _ (tail_of _ _ _ _ same)))
    ((carries.on_paths (free_first one_body loop_state refl refl)).counts.behind 1 1 refl)
    ((carries.on_paths (free_first one_body loop_state refl refl)).counts.counted 1 5 0 1 leads refl refl)
    ((carries.on_paths (free_first one_body loop_state refl refl)).counts.counted 1 5 1 1 leads refl refl)
  where
    leads : Contains {X = ℕ} (1 ∷ 5 ∷ []) 5
    leads = (1, omega arith, refl)

    by : (inst : ℕ) → condition_of (own_placed carries.own one_body inst) ≡ 3 → inst ≡ 5
    by zero e = let h : 0 ≡ 3 = e in omega (arith, h)
    by (suc zero) e = let h : 0 ≡ 3 = e in omega (arith, h)
    by (suc (suc zero)) e = let h : 1 ≡ 3 = e in omega (arith, h)
    by (suc (suc (suc zero))) e = let h : 0 ≡ 3 = e in omega (arith, h)
    by (suc (suc (suc (suc zero)))) e = let h : 0 ≡ 3 = e in omega (arith, h)
    by (suc (suc (suc (suc (suc zero))))) e = refl
    by (suc (suc (suc (suc (suc (suc zero)))))) e = let h : 0 ≡ 3 = e in omega (arith, h)
    by (suc (suc (suc (suc (suc (suc (suc inst))))))) e = let h : 0 ≡ 3 = e in omega (arith, h)

-- Sealing -------------------------------------------------------------------------------------------------------------------

pub unsealed : IsFinished loop_calls loop_body (loop_state_with (No [])) → ⊥
unsealed finished = no_yes (finished.filled_sealed 1 (block 1) refl refl)
  where
    no_yes : is_yes (No []) ≡ true → ⊥
    no_yes e = cc
