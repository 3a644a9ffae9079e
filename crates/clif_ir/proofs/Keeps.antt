-- What the changes of a function have in common in keeping it consistent.
use Rattle.std.proofs.Common.{◌≡◌, ℕ, zero, suc, ◌+◌, ◌<◌, ◌≤◌, List, [], ◌∷◌, ◌++◌, length, refl, ap, arith, sym, ◌∙◌, subst, inl, inr}
use Rattle.std.specs.Prelude.{slice_index, Option, Some, None, unwrap_or, All}
use Rattle.std.proofs.lemmas.List.Elements.{All-weaker}
use Rattle.clif_instructions.specs.declared.block_call.BlockArg.{BlockArg}
use Rattle.clif_instructions.specs.declared.block_call.BlockArg.TheVariants as arg
use Rattle.clif_instructions.specs.declared.block_call.BlockCall.{BlockCall}
use Rattle.std.proofs.Math.ListN.{get_or-append}
use Rattle.std.proofs.lemmas.Grind.{common_steps}
use Rattle.clif_nodes.specs.declared.nodes.ValueOrigin.{ValueOrigin}
use Rattle.clif_nodes.specs.declared.nodes.ValueOrigin.TheVariants.{Result, Param, Alias}
use Rattle.clif_ir.specs.Body.{Body, value_at, inst_at, block_at, alias_of_origin}
use Rattle.clif_ir.specs.Consistent.{IsConsistent, IsOrigin, PassedExists, EdgeExists, ValueExists}
use Rattle.clif_instructions.specs.Members.{Stands, Once}
use Rattle.clif_ir.proofs.Aliases.{LeadsInside}
use Rattle.clif_instructions.proofs.Lists.{below_or_not}

not_some : {x : ℕ} → ◌≡◌ {A = Option ℕ} None (Some x) → ⊥
not_some same = cc

pub consistent_at : (g f : Body) → g ≡ f → IsConsistent g → IsConsistent f
consistent_at g f same known = subst IsConsistent same known

-- an origin stays one where the function grows round it
pub larger_origin : (f g : Body) (v : ℕ) (o : ValueOrigin)
    → ((i : ℕ) → i < length f.insts → (i < length g.insts) × ((inst_at g i).results ≡ (inst_at f i).results))
    → ((b : ℕ) → b < length f.blocks → (b < length g.blocks) × (Stands v (block_at f b).params → Stands v (block_at g b).params))
    → length f.values ≤ length g.values → IsOrigin f v o → IsOrigin g v o
larger_origin f g v (Result i k) insts blocks values here =
    let there : (i < length g.insts) × ((inst_at g i).results ≡ (inst_at f i).results) = insts i here.0 in
    (there.0, subst (λ xs. k < length xs) (sym there.1) here.1, subst (λ xs. slice_index xs k ≡ v) (sym there.1) here.2)
larger_origin f g v (Param b) insts blocks values here = ((blocks b here.0).0, (blocks b here.0).1 here.1)
larger_origin f g v (Alias original) insts blocks values here = omega (arith, here, values)

-- what an edge names goes on existing where the function grows round it
larger_passed : (f g : Body) → length f.values ≤ length g.values → (a : BlockArg) → PassedExists f a → PassedExists g a
larger_passed f g values (arg.Value v) here = omega (arith, values, here)
larger_passed f g values (arg.TryCallRet k) here = tt
larger_passed f g values (arg.TryCallExn k) here = tt

pub larger_edge : (f g : Body) → length f.blocks ≤ length g.blocks → length f.values ≤ length g.values
    → (edge : BlockCall) → EdgeExists f edge → EdgeExists g edge
larger_edge f g blocks values edge here =
    (omega (arith, blocks, here.0), All-weaker (PassedExists f) (PassedExists g) (larger_passed f g values) edge.args here.1)

pub larger_edges : (f g : Body) → length f.blocks ≤ length g.blocks → length f.values ≤ length g.values
    → (edges : List BlockCall) → All (EdgeExists f) edges → All (EdgeExists g) edges
larger_edges f g blocks values edges here = All-weaker (EdgeExists f) (EdgeExists g) (larger_edge f g blocks values) edges here

pub larger_values : (f g : Body) → length f.values ≤ length g.values → (values : List ℕ) → All (ValueExists f) values → All (ValueExists g) values
larger_values f g more values here = All-weaker (ValueExists f) (ValueExists g) (λ v inside. omega (arith, inside, more)) values here

-- what stands in a list stands in one with more at its end
pub Stands-append : (x : ℕ) (xs ys : List ℕ) → Stands x xs → Stands x (xs ++ ys)
Stands-append x xs ys here =
    let inside : here.0 < length (xs ++ ys) = grind (arith, common_steps, here.1) in
    (here.0, inside, get_or-append xs ys 0 here.0 here.1 ∙ here.2)

-- what was put at the end stands there
pub Stands-push : (x : ℕ) (xs : List ℕ) → Stands x (xs ++ x ∷ [])
Stands-push x xs = (length xs, grind (arith, common_steps), grind (arith, common_steps))

-- what stands in a list stands in one with more at its front
pub Stands-cons : (x y : ℕ) (ys : List ℕ) → Stands x ys → Stands x (y ∷ ys)
Stands-cons x y ys here = (suc here.0, omega (arith, here.1), here.2)

-- no number stands twice in a list that got a number at its end which didn't stand there
pub Once-outside : (xs : List ℕ) (x : ℕ) → Once xs → (Stands x xs → ⊥) → Once (xs ++ x ∷ [])
Once-outside xs x once outside j k before inside =
    let bound : k < length xs + 1 = grind (arith, common_steps, inside) in
    let first : j < length xs = omega (arith, before, bound) in
    let at_j : slice_index (xs ++ x ∷ []) j ≡ slice_index xs j = get_or-append xs (x ∷ []) 0 j first in
    λ same.
    elim (below_or_not k (length xs)) [
      | inl here ↦ once j k before here (sym at_j ∙ same ∙ get_or-append xs (x ∷ []) 0 k here)
      | inr last ↦
          let at_k : slice_index (xs ++ x ∷ []) k ≡ x = let there : k ≡ length xs = omega (arith, last, bound) in grind (arith, common_steps) in
          outside (j, first, sym at_j ∙ same ∙ at_k)
    ]

-- no number stands twice in a list that got a number at its end which is above all others
pub Once-push : (xs : List ℕ) (x : ℕ) → Once xs → ((k : ℕ) → k < length xs → slice_index xs k < x) → Once (xs ++ x ∷ [])
Once-push xs x once below =
    Once-outside xs x once (λ stands. let less : slice_index xs stands.0 < x = below stands.0 stands.1 in absurd (omega (arith, less, stands.2)))

-- no number stands twice in a list that got a number at its front which is above all others
pub Once-cons : (xs : List ℕ) (x : ℕ) → Once xs → ((k : ℕ) → k < length xs → slice_index xs k < x) → Once (x ∷ xs)
Once-cons xs x once below zero zero before inside = absurd (omega (arith, before))
Once-cons xs x once below zero (suc k) before inside = λ same. let less : slice_index xs k < x = below k (omega (arith, inside)) in absurd (omega (arith, less, same))
Once-cons xs x once below (suc j) zero before inside = absurd (omega (arith, before))
Once-cons xs x once below (suc j) (suc k) before inside = once j k (omega (arith, before)) (omega (arith, inside))

-- the aliases of a consistent function lead to values that exist
pub leads_inside : (f : Body) → IsConsistent f → LeadsInside f.values
leads_inside f known v original inside is = by_cases (value_at f v).origin refl
  where
    by_cases : (o : ValueOrigin) → (value_at f v).origin ≡ o → original < length f.values
    by_cases (Result i k) at = absurd (not_some (sym (ap alias_of_origin at) ∙ is))
    by_cases (Param b) at = absurd (not_some (sym (ap alias_of_origin at) ∙ is))
    by_cases (Alias o) at =
        let here : o < length f.values = subst (IsOrigin f v) at (known.origins v inside) in
        let same : o ≡ original = ap (λ (x : Option ℕ). unwrap_or x 0) (sym (ap alias_of_origin at) ∙ is) in
        omega (arith, here, same)
