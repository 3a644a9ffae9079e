-- The row `both_arms` is consistent.
use Rattle.std.proofs.Common.{◌≡◌, ◌≢◌, ℕ, zero, suc, ◌+◌, ◌<◌, List, [], ◌∷◌, None, refl, sym, ◌∙◌, arith, length}
use Rattle.std.specs.List.{AllByRecursion}
use Rattle.std.specs.Prelude.{All, slice_index}
use Rattle.std.proofs.lemmas.List.Elements.{All-from_recursion}
use Rattle.clif_instructions.specs.declared.block_call.BlockArg.{BlockArg}
use Rattle.clif_nodes.specs.declared.nodes.ValueOrigin.TheVariants.{Result, Param}
use Rattle.clif_ir.specs.Body.{inst_at, value_at, block_at, alias_of, follow}
use Rattle.clif_ir.specs.Consistent.{IsConsistent, IsOrigin, EdgeExists, EntryExists, ValueExists, PassedExists, alias_count}
use Rattle.clif_instructions.specs.Members.{Once, Stands}
use Rattle.clif_instructions.specs.Instruction.{contexts, entries_of, operands, destinations}
use Rattle.clif_simulation.specs.CarryingExamples.{loop_body}

-- numbers that follow each other
consecutive : (xs : List ℕ) (first : ℕ) → ((k : ℕ) → k < length xs → slice_index xs k ≡ first + k) → Once xs
consecutive xs first each j k below within e =
    let left : slice_index xs j ≡ first + j = each j (omega (arith, below, within)) in
    let right : slice_index xs k ≡ first + k = each k within in
    let same : first + j ≡ first + k = sym left ∙ (e ∙ right) in
    omega (arith, below, same)

none_once : Once []
none_once j k below within e = omega (arith, within)

origins : (v : ℕ) → v < 4 → IsOrigin loop_body v (value_at loop_body v).origin
origins zero below = (omega arith, omega arith, refl)
origins (suc zero) below = (omega arith, (0, omega arith, refl))
origins (suc (suc zero)) below = (omega arith, omega arith, refl)
origins (suc (suc (suc zero))) below = (omega arith, omega arith, refl)
origins (suc (suc (suc (suc v)))) below = absurd (omega (arith, below))

abbrev OperandExists : ℕ → ℕ → Type 0
OperandExists i k = slice_index (operands (inst_at loop_body i).shape) k < 4

operands_exist : (i k : ℕ) → k < length (operands (inst_at loop_body i).shape) → OperandExists i k
operands_exist zero k below = absurd (omega (arith, below))
operands_exist (suc zero) k below = absurd (omega (arith, below))
operands_exist (suc (suc zero)) zero below = omega arith
operands_exist (suc (suc zero)) (suc k) below = absurd (omega (arith, below))
operands_exist (suc (suc (suc zero))) k below = absurd (omega (arith, below))
operands_exist (suc (suc (suc (suc zero)))) zero below = omega arith
operands_exist (suc (suc (suc (suc zero)))) (suc zero) below = omega arith
operands_exist (suc (suc (suc (suc zero)))) (suc (suc k)) below = absurd (omega (arith, below))
operands_exist (suc (suc (suc (suc (suc zero))))) zero below = omega arith
operands_exist (suc (suc (suc (suc (suc zero))))) (suc k) below = absurd (omega (arith, below))
operands_exist (suc (suc (suc (suc (suc (suc zero)))))) zero below = omega arith
operands_exist (suc (suc (suc (suc (suc (suc zero)))))) (suc k) below = absurd (omega (arith, below))
operands_exist (suc (suc (suc (suc (suc (suc (suc i))))))) k below = absurd (omega (arith, below))

no_args : All (PassedExists loop_body) []
no_args = All-from_recursion (PassedExists loop_body) [] tt

edges_exist : (i : ℕ) → All (EdgeExists loop_body) (destinations (inst_at loop_body i).shape)
edges_exist i = All-from_recursion (EdgeExists loop_body) (destinations (inst_at loop_body i).shape) (by i)
  where
    one_arg : (a : BlockArg) → PassedExists loop_body a → All (PassedExists loop_body) (a ∷ [])
    one_arg a exists = All-from_recursion (PassedExists loop_body) (a ∷ []) (exists, tt)

    by : (i : ℕ) → AllByRecursion (EdgeExists loop_body) (destinations (inst_at loop_body i).shape)
    by zero = tt
    by (suc zero) = ((omega arith, one_arg _ (omega arith)), tt)
    by (suc (suc zero)) = ((omega arith, no_args), ((omega arith, no_args), tt))
    by (suc (suc (suc zero))) = tt
    by (suc (suc (suc (suc zero)))) = tt
    by (suc (suc (suc (suc (suc zero))))) = ((omega arith, one_arg _ (omega arith)), ((omega arith, one_arg _ (omega arith)), tt))
    by (suc (suc (suc (suc (suc (suc zero)))))) = tt
    by (suc (suc (suc (suc (suc (suc (suc i))))))) = tt

abbrev ResultKnown : ℕ → ℕ → Type 0
ResultKnown i k =
    (slice_index (inst_at loop_body i).results k < 4) × ((value_at loop_body (slice_index (inst_at loop_body i).results k)).origin ≡ Result i k)

results_known : (i k : ℕ) → k < length (inst_at loop_body i).results → ResultKnown i k
results_known zero zero below = (omega arith, refl)
results_known zero (suc k) below = absurd (omega (arith, below))
results_known (suc zero) k below = absurd (omega (arith, below))
results_known (suc (suc zero)) k below = absurd (omega (arith, below))
results_known (suc (suc (suc zero))) zero below = (omega arith, refl)
results_known (suc (suc (suc zero))) (suc k) below = absurd (omega (arith, below))
results_known (suc (suc (suc (suc zero)))) zero below = (omega arith, refl)
results_known (suc (suc (suc (suc zero)))) (suc k) below = absurd (omega (arith, below))
results_known (suc (suc (suc (suc (suc zero))))) k below = absurd (omega (arith, below))
results_known (suc (suc (suc (suc (suc (suc zero)))))) k below = absurd (omega (arith, below))
results_known (suc (suc (suc (suc (suc (suc (suc i))))))) k below = absurd (omega (arith, below))

params_known : (b k : ℕ) → k < length (block_at loop_body b).params
    → (slice_index (block_at loop_body b).params k < 4) × ((value_at loop_body (slice_index (block_at loop_body b).params k)).origin ≡ Param b)
params_known zero k below = absurd (omega (arith, below))
params_known (suc zero) zero below = (omega arith, refl)
params_known (suc zero) (suc k) below = absurd (omega (arith, below))
params_known (suc (suc zero)) k below = absurd (omega (arith, below))
params_known (suc (suc (suc zero))) k below = absurd (omega (arith, below))
params_known (suc (suc (suc (suc b)))) k below = absurd (omega (arith, below))

one_of_list : (x k : ℕ) → k < 1 → slice_index (x ∷ []) k ≡ x + k
one_of_list x zero below = omega arith
one_of_list x (suc k) below = absurd (omega (arith, below))

params_once : (b : ℕ) → Once (block_at loop_body b).params
params_once zero = none_once
params_once (suc zero) = consecutive (1 ∷ []) 1 (one_of_list 1)
params_once (suc (suc zero)) = none_once
params_once (suc (suc (suc zero))) = none_once
params_once (suc (suc (suc (suc b)))) = none_once

insts_once : (b : ℕ) → Once (block_at loop_body b).insts
insts_once zero = consecutive (0 ∷ 1 ∷ []) 0 by
  where
    by : (k : ℕ) → k < 2 → slice_index (0 ∷ 1 ∷ []) k ≡ 0 + k
    by zero below = refl
    by (suc zero) below = refl
    by (suc (suc k)) below = absurd (omega (arith, below))
insts_once (suc zero) = consecutive (2 ∷ []) 2 (one_of_list 2)
insts_once (suc (suc zero)) = consecutive (3 ∷ 4 ∷ 5 ∷ []) 3 by
  where
    by : (k : ℕ) → k < 3 → slice_index (3 ∷ 4 ∷ 5 ∷ []) k ≡ 3 + k
    by zero below = refl
    by (suc zero) below = refl
    by (suc (suc zero)) below = refl
    by (suc (suc (suc k))) below = absurd (omega (arith, below))
insts_once (suc (suc (suc zero))) = consecutive (6 ∷ []) 6 (one_of_list 6)
insts_once (suc (suc (suc (suc b)))) = none_once

insts_stand : (i : ℕ) → i < 7 → ((inst_at loop_body i).block < 4) × Stands i (block_at loop_body (inst_at loop_body i).block).insts
insts_stand zero below = (omega arith, (0, omega arith, refl))
insts_stand (suc zero) below = (omega arith, (1, omega arith, refl))
insts_stand (suc (suc zero)) below = (omega arith, (0, omega arith, refl))
insts_stand (suc (suc (suc zero))) below = (omega arith, (0, omega arith, refl))
insts_stand (suc (suc (suc (suc zero)))) below = (omega arith, (1, omega arith, refl))
insts_stand (suc (suc (suc (suc (suc zero))))) below = (omega arith, (2, omega arith, refl))
insts_stand (suc (suc (suc (suc (suc (suc zero)))))) below = (omega arith, (0, omega arith, refl))
insts_stand (suc (suc (suc (suc (suc (suc (suc i))))))) below = absurd (omega (arith, below))

insts_known : (b k : ℕ) → k < length (block_at loop_body b).insts
    → (slice_index (block_at loop_body b).insts k < 7) × ((inst_at loop_body (slice_index (block_at loop_body b).insts k)).block ≡ b)
insts_known zero zero below = (omega arith, refl)
insts_known zero (suc zero) below = (omega arith, refl)
insts_known zero (suc (suc k)) below = absurd (omega (arith, below))
insts_known (suc zero) zero below = (omega arith, refl)
insts_known (suc zero) (suc k) below = absurd (omega (arith, below))
insts_known (suc (suc zero)) zero below = (omega arith, refl)
insts_known (suc (suc zero)) (suc zero) below = (omega arith, refl)
insts_known (suc (suc zero)) (suc (suc zero)) below = (omega arith, refl)
insts_known (suc (suc zero)) (suc (suc (suc k))) below = absurd (omega (arith, below))
insts_known (suc (suc (suc zero))) zero below = (omega arith, refl)
insts_known (suc (suc (suc zero))) (suc k) below = absurd (omega (arith, below))
insts_known (suc (suc (suc (suc b)))) k below = absurd (omega (arith, below))

in_layout : (k : ℕ) → k < 4 → slice_index loop_body.layout k ≡ 0 + k
in_layout zero below = refl
in_layout (suc zero) below = refl
in_layout (suc (suc zero)) below = refl
in_layout (suc (suc (suc zero))) below = refl
in_layout (suc (suc (suc (suc k)))) below = absurd (omega (arith, below))

layout_exists : (k : ℕ) → k < 4 → slice_index loop_body.layout k < 4
layout_exists k below = let e : slice_index loop_body.layout k ≡ 0 + k = in_layout k below in omega (arith, below, e)

aliases_end : (v : ℕ) → v < 4 → alias_of loop_body.values (follow (alias_count loop_body.values) loop_body.values v) ≡ None
unfolding follow
aliases_end zero below = refl
aliases_end (suc zero) below = refl
aliases_end (suc (suc zero)) below = refl
aliases_end (suc (suc (suc zero))) below = refl
aliases_end (suc (suc (suc (suc v)))) below = absurd (omega (arith, below))

entries_exist : (i : ℕ) → All (EntryExists loop_body.tables) (entries_of (inst_at loop_body i).shape)
entries_exist zero k d inside = absurd (omega (arith, inside))
entries_exist (suc zero) k d inside = absurd (omega (arith, inside))
entries_exist (suc (suc zero)) k d inside = absurd (omega (arith, inside))
entries_exist (suc (suc (suc zero))) k d inside = absurd (omega (arith, inside))
entries_exist (suc (suc (suc (suc zero)))) k d inside = absurd (omega (arith, inside))
entries_exist (suc (suc (suc (suc (suc zero))))) k d inside = absurd (omega (arith, inside))
entries_exist (suc (suc (suc (suc (suc (suc zero)))))) k d inside = absurd (omega (arith, inside))
entries_exist (suc (suc (suc (suc (suc (suc (suc i))))))) k d inside = absurd (omega (arith, inside))

contexts_exist : (i : ℕ) → All (ValueExists loop_body) (contexts (inst_at loop_body i).shape)
contexts_exist zero k d inside = absurd (omega (arith, inside))
contexts_exist (suc zero) k d inside = absurd (omega (arith, inside))
contexts_exist (suc (suc zero)) k d inside = absurd (omega (arith, inside))
contexts_exist (suc (suc (suc zero))) k d inside = absurd (omega (arith, inside))
contexts_exist (suc (suc (suc (suc zero)))) k d inside = absurd (omega (arith, inside))
contexts_exist (suc (suc (suc (suc (suc zero))))) k d inside = absurd (omega (arith, inside))
contexts_exist (suc (suc (suc (suc (suc (suc zero)))))) k d inside = absurd (omega (arith, inside))
contexts_exist (suc (suc (suc (suc (suc (suc (suc i))))))) k d inside = absurd (omega (arith, inside))

edges_without_results : (i : ℕ) → destinations (inst_at loop_body i).shape ≢ [] → (inst_at loop_body i).results ≡ []
edges_without_results zero some = absurd (some refl)
edges_without_results (suc zero) some = refl
edges_without_results (suc (suc zero)) some = refl
edges_without_results (suc (suc (suc zero))) some = absurd (some refl)
edges_without_results (suc (suc (suc (suc zero)))) some = absurd (some refl)
edges_without_results (suc (suc (suc (suc (suc zero))))) some = refl
edges_without_results (suc (suc (suc (suc (suc (suc zero)))))) some = refl
edges_without_results (suc (suc (suc (suc (suc (suc (suc i))))))) some = refl

pub row_consistent : IsConsistent loop_body
row_consistent = record {
  values_fit = omega arith;
  insts_fit = omega arith;
  blocks_fit = omega arith;
  origins = origins;
  operands_exist = operands_exist;
  contexts_exist = contexts_exist;
  edges_exist = edges_exist;
  results_known = results_known;
  params_known = params_known;
  params_once = params_once;
  insts_stand = insts_stand;
  insts_known = insts_known;
  insts_once = insts_once;
  layout_exists = layout_exists;
  layout_once = consecutive loop_body.layout 0 in_layout;
  aliases_end = aliases_end;
  edges_without_results = edges_without_results;
  entries_exist = entries_exist;
  named_exist = record { signatures = λ k function inside. absurd (omega (arith, inside)); slots = λ k map inside. absurd (omega (arith, inside)) };
  maps_known = λ i past. refl;
}
