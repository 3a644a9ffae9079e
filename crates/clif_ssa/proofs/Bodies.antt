-- What changes of a function's body leave as it was.
use Rattle.std.proofs.Common.{◌≡◌, ◌≢◌, ℕ, zero, suc, ◌+◌, ◌<◌, ◌≤◌, List, [], ◌∷◌, ◌++◌, length, set, refl, ap, arith, sym, ◌∙◌, subst, inl, inr}
use Rattle.std.specs.Prelude.{Option, Some, None, slice_get, slice_index, slice_index_or}
use Rattle.std.proofs.Math.ListN.{get_or-append}
use Rattle.std.proofs.lemmas.List.Sums.{count_by-le-length}
use Rattle.std.proofs.lemmas.Grind.{common_steps}
use Rattle.std.proofs.lemmas.Bool.{cases_eq}
use Rattle.std.proofs.lemmas.Option.{slice_get-get_or, slice_get_past}
use Rattle.clif_types.specs.declared.types.«Type».{«Type»}
use Rattle.clif_nodes.specs.declared.nodes.ValueNode.{ValueNode}
use Rattle.clif_nodes.specs.declared.nodes.ValueOrigin.{ValueOrigin}
use Rattle.clif_nodes.specs.declared.nodes.ValueOrigin.TheVariants.{Result, Param, Alias}
use Rattle.clif_ir.specs.Body.{Body, block_at, resolved, value_at, follow, alias_of, alias_of_origin}
use Rattle.clif_nodes.specs.Nodes.{no_value, result_nodes}
use Rattle.clif_ir.specs.Reading.{home_of_node, home_of_param, param_home}
use Rattle.clif_instructions.specs.Members.{place_of}
use Rattle.clif_ir.specs.Consistent.{IsConsistent, IsOrigin, alias_count}
use Rattle.clif_instructions.proofs.Lists.{below_or_not, at_past}
use Rattle.clif_ir.proofs.Keeps.{leads_inside}
use Rattle.clif_ir.proofs.Aliases.{LeadsInside, EachWayEnds, MovesOn, follow_end, follow-append, follow-ended, follow-set, alias_of-set_same, alias_of-set_other, resolved-no_alias, ways_end-set}
use Rattle.clif_paths.specs.Steps.{aliased}
use Rattle.clif_paths.proofs.Tables.{aliased_cases}
use Rattle.clif_ssa.proofs.Ordering.{stands_place}

-- ALIASES ---------------------------------------------------------------------------------------------------------

pub enough_steps : (values : List ValueNode) → alias_count values ≤ length values
enough_steps values = grind (arith, common_steps, count_by-le-length)

pub past_alias : (values : List ValueNode) (v : ℕ) → length values ≤ v → alias_of values v ≡ None
past_alias values v past = ap (λ (n : ValueNode). alias_of_origin n.origin) (at_past values v no_value past)

-- values that are no aliases, behind others
pub no_alias_behind : (values more : List ValueNode) → ((j : ℕ) → alias_of more j ≡ None) → (v : ℕ) → length values ≤ v → alias_of (values ++ more) v ≡ None
no_alias_behind [] more none v past = none v
no_alias_behind (n ∷ values) more none zero past = absurd (omega (arith, past))
no_alias_behind (n ∷ values) more none (suc v) past = no_alias_behind values more none v (omega (arith, past))

-- no value's end changes
pub resolved-append : (values more : List ValueNode) → LeadsInside values → EachWayEnds values → ((j : ℕ) → alias_of more j ≡ None) → (v : ℕ)
    → follow (length (values ++ more)) (values ++ more) v ≡ follow (length values) values v
resolved-append values more leads ends none v =
    elim (below_or_not v (length values)) [
      | inl here ↦
          let fewer : alias_count values ≤ length values = enough_steps values in
          let longer : alias_count values ≤ length (values ++ more) = grind (arith, common_steps, fewer) in
          follow-append values more (length (values ++ more)) v leads here
          ∙ follow-ended values (alias_count values) (length (values ++ more)) v (ends v here) longer
          ∙ sym (follow-ended values (alias_count values) (length values) v (ends v here) fewer)
      | inr past ↦
          follow_end (values ++ more) (length (values ++ more)) v (no_alias_behind values more none v past)
          ∙ sym (follow_end values (length values) v (past_alias values v past))
    ]

-- a value that is none becomes an alias: what ended in it ends in its target
pub resolved-set : (values : List ValueNode) (v target : ℕ) (node : ValueNode) → LeadsInside values → EachWayEnds values → v < length values
    → alias_of values v ≡ None → alias_of values target ≡ None → target ≢ v → alias_of_origin node.origin ≡ Some target → (u : ℕ)
    → follow (length (set values v node)) (set values v node) u ≡ aliased (λ w. follow (length values) values w) v target u
resolved-set values v target node leads ends inside v_none target_none apart is_target u =
    let count : length (set values v node) ≡ length values = grind (arith, common_steps) in
    elim (below_or_not u (length values)) [
      | inl here ↦
          let l : ℕ = length values in
          let after : List ValueNode = set values v node in
          let fewer : alias_count after ≤ l = omega (arith, enough_steps after, count) in
          let one_more : alias_count after ≤ suc l = omega (arith, fewer) in
          let ended : alias_of after (follow (alias_count after) after u) ≡ None =
          ways_end-set values v target node leads inside v_none target_none apart is_target ends u (omega (arith, here, count)) in
          let goes : MovesOn values v target node l u = follow-set values v target node l u leads here inside v_none target_none apart is_target (resolved-no_alias values u ends here) in
          let steps : follow (length after) after u ≡ follow (suc l) after u =
          ap (λ n. follow n after u) count ∙ follow-ended after (alias_count after) l u ended fewer ∙ sym (follow-ended after (alias_count after) (suc l) u ended one_more) in
          elim (aliased_cases (λ w. follow (length values) values w) v target u) [
            | inl moved ↦ steps ∙ goes.moved moved.0 ∙ sym moved.1
            | inr stayed ↦ steps ∙ goes.stayed stayed.0 ∙ sym stayed.1
          ]
      | inr past ↦
          let other : u ≢ v = λ same. absurd (omega (arith, past, inside, same)) in
          let own_end : follow (length values) values u ≡ u = follow_end values (length values) u (past_alias values u past) in
          follow_end (set values v node) (length (set values v node)) u (alias_of-set_other values v node u other ∙ past_alias values u past)
          ∙ elim (aliased_cases (λ w. follow (length values) values w) v target u) [
            | inl moved ↦ absurd (other (sym own_end ∙ moved.0))
            | inr stayed ↦ sym own_end ∙ sym stayed.1
          ]
    ]

not_both : {x : ℕ} → ◌≡◌ {A = Option ℕ} None (Some x) → ⊥
not_both same = cc

same_some : {x y : ℕ} → ◌≡◌ {A = Option ℕ} (Some x) (Some y) → x ≡ y
same_some same = cc

pub leads_inside-append : (values more : List ValueNode) → LeadsInside values → ((j : ℕ) → alias_of more j ≡ None) → LeadsInside (values ++ more)
leads_inside-append values more leads none v original inside is =
    let long : length values ≤ length (values ++ more) = grind (arith, common_steps) in
    elim (below_or_not v (length values)) [
      | inl here ↦
          let there : original < length values = leads v original here (sym (ap (λ (n : ValueNode). alias_of_origin n.origin) (get_or-append values more no_value v here)) ∙ is) in
          omega (arith, there, long)
      | inr past ↦ absurd (not_both (sym (no_alias_behind values more none v past) ∙ is))
    ]

pub leads_inside-set : (values : List ValueNode) (v target : ℕ) (node : ValueNode) → LeadsInside values → v < length values → target < length values
    → alias_of_origin node.origin ≡ Some target → LeadsInside (set values v node)
leads_inside-set values v target node leads inside there is_target u original u_inside is =
    let count : length (set values v node) ≡ length values = grind (arith, common_steps) in
    elim (cases_eq u v) [
      | inl same ↦
          let e : target ≡ original = same_some (sym is_target ∙ sym (alias_of-set_same values v node inside) ∙ ap (alias_of (set values v node)) (sym same) ∙ is) in
          omega (arith, there, e, count)
      | inr other ↦
          let old : original < length values = leads u original (omega (arith, u_inside, count)) (sym (alias_of-set_other values v node u other) ∙ is) in
          omega (arith, old, count)
    ]

-- results are no aliases
pub results_no_alias : (i k : ℕ) (types : List «Type») (j : ℕ) → alias_of (result_nodes i k types) j ≡ None
results_no_alias i k [] j = past_alias [] j (omega arith)
results_no_alias i k (ty ∷ types) zero = refl
results_no_alias i k (ty ∷ types) (suc j) = results_no_alias i (k + 1) types j

-- PARAMETERS ------------------------------------------------------------------------------------------------------

pub home_param : (o : ValueOrigin) (b : ℕ) → home_of_param o ≡ Some b → o ≡ Param b
home_param (Result i k) b is = absurd (not_both is)
home_param (Param c) b is = ap Param (same_some is)
home_param (Alias original) b is = absurd (not_both is)

pub home_inside : (values : List ValueNode) (v : ℕ) → v < length values → home_of_node (slice_get values v) ≡ home_of_param (slice_index_or values v no_value).origin
home_inside values v inside = ap home_of_node (slice_get-get_or values v no_value inside)

pub home_past : (values : List ValueNode) (v : ℕ) → length values ≤ v → home_of_node (slice_get values v) ≡ None
home_past values v past = ap home_of_node (slice_get_past values v past)

pub param_exists : (f : Body) (v b : ℕ) → param_home f v ≡ Some b → v < length f.values
param_exists f v b is =
    elim (below_or_not v (length f.values)) [
      | inl here ↦ here
      | inr past ↦ absurd (not_both (sym (home_past f.values v past) ∙ is))
    ]

pub param_origin : (f : Body) (v b : ℕ) → param_home f v ≡ Some b → (value_at f v).origin ≡ Param b
param_origin f v b is = home_param (value_at f v).origin b (sym (home_inside f.values v (param_exists f v b is)) ∙ is)

pub home-append : (values more : List ValueNode) (v : ℕ) → v < length values → home_of_node (slice_get (values ++ more) v) ≡ home_of_node (slice_get values v)
home-append [] more v inside = absurd (omega (arith, inside))
home-append (n ∷ values) more zero inside = refl
home-append (n ∷ values) more (suc v) inside = home-append values more v (omega (arith, inside))

pub home-append_none : (values more : List ValueNode) → ((j : ℕ) → home_of_node (slice_get more j) ≡ None) → (v : ℕ)
    → home_of_node (slice_get (values ++ more) v) ≡ home_of_node (slice_get values v)
home-append_none [] more none v = none v
home-append_none (n ∷ values) more none zero = refl
home-append_none (n ∷ values) more none (suc v) = home-append_none values more none v

pub results_no_home : (i k : ℕ) (types : List «Type») (j : ℕ) → home_of_node (slice_get (result_nodes i k types) j) ≡ None
results_no_home i k [] j = refl
results_no_home i k (ty ∷ types) zero = refl
results_no_home i k (ty ∷ types) (suc j) = results_no_home i (k + 1) types j

pub home-set_other : (values : List ValueNode) (v : ℕ) (node : ValueNode) (u : ℕ) → u ≢ v → home_of_node (slice_get (set values v node) u) ≡ home_of_node (slice_get values u)
home-set_other [] v node u other = refl
home-set_other (n ∷ values) zero node zero other = absurd (other refl)
home-set_other (n ∷ values) zero node (suc u) other = refl
home-set_other (n ∷ values) (suc v) node zero other = refl
home-set_other (n ∷ values) (suc v) node (suc u) other = home-set_other values v node u (λ same. other (ap suc same))

pub home-set_same : (values : List ValueNode) (v : ℕ) (node : ValueNode) → v < length values → home_of_node (slice_get (set values v node) v) ≡ home_of_param node.origin
home-set_same [] v node inside = absurd (omega (arith, inside))
home-set_same (n ∷ values) zero node inside = refl
home-set_same (n ∷ values) (suc v) node inside = home-set_same values v node (omega (arith, inside))

-- FIRM ------------------------------------------------------------------------------------------------------------

-- what each consistent function keeps of the ways along aliases and of the parameters of blocks
pub record Firm (f : Body) : Type 0 where
  pub leads : LeadsInside f.values
  pub ends : EachWayEnds f.values
  pub homes_exist : (v b : ℕ) → param_home f v ≡ Some b → b < length f.blocks
  pub stands : (v b : ℕ) → param_home f v ≡ Some b → place_of v (block_at f b).params < length (block_at f b).params
  pub params_exist : (b k : ℕ) → k < length (block_at f b).params → slice_index (block_at f b).params k < length f.values

pub firm_from : (f : Body) → IsConsistent f → Firm f
firm_from f known = record {
  leads = leads_inside f known;
  ends = known.aliases_end;
  homes_exist = λ v b is.
      (subst (IsOrigin f v) (param_origin f v b is) (known.origins v (param_exists f v b is))).0;
  stands = λ v b is.
      stands_place v (block_at f b).params (subst (IsOrigin f v) (param_origin f v b is) (known.origins v (param_exists f v b is))).1;
  params_exist = λ b k here. (known.params_known b k here).0;
}

-- a value's end is its own end
pub resolved_twice : (f : Body) → Firm f → (v : ℕ) → resolved f (resolved f v) ≡ resolved f v
resolved_twice f firm v =
    elim (below_or_not v (length f.values)) [
      | inl here ↦ follow_end f.values (length f.values) (resolved f v) (resolved-no_alias f.values v firm.ends here)
      | inr past ↦ ap (λ w. resolved f w) (follow_end f.values (length f.values) v (past_alias f.values v past))
    ]
