-- The list of aliases stays in step with the values.
use Rattle.std.proofs.Common.{◌≡◌, ℕ, zero, suc, ◌+◌, ◌-◌, ◌<◌, ◌≤◌, List, [], ◌∷◌, ◌++◌, length, set, refl, ap, arith, sym, ◌∙◌, subst, inl, inr}
use Rattle.std.specs.Prelude.{Some, None, IsSome, is_some, cond, Contains}
use Rattle.std.proofs.lemmas.Bool.{cases_eq}
use Rattle.std.proofs.lemmas.Grind.{common_steps}
use Rattle.std.proofs.lemmas.List.Elements.{All-weaker, All-push, Contains-append_left, Contains-push}
use Rattle.std.proofs.lemmas.List.Sums.{count_by-le-length, sum_by-cons}
use Rattle.clif_nodes.specs.declared.nodes.ValueNode.{ValueNode}
use Rattle.clif_nodes.specs.declared.nodes.ValueOrigin.TheVariants.{Alias}
use Rattle.clif_ir.specs.Body.{alias_of, alias_of_origin}
use Rattle.clif_ir.specs.Consistent.{alias_count}
use Rattle.clif_nodes.specs.Nodes.{no_value, result_nodes}
use Rattle.clif_ir.specs.Whole.{IsListed}
use Rattle.clif_types.specs.declared.types.«Type».{«Type»}
use Rattle.clif_ir.proofs.Aliases.{alias_count-set, alias_of-set_other, alias_of-set_same}
use Rattle.clif_ir.proofs.KeepsInst.{alias_of-result_nodes}
use Rattle.clif_instructions.proofs.Lists.{at_append, at_past}

-- the same values and aliases under other names
pub listed_with : (values' values : List ValueNode) (aliases' aliases : List ℕ) → values' ≡ values → aliases' ≡ aliases
    → IsListed values' aliases' → IsListed values aliases
listed_with values' values aliases' aliases same_values same_aliases listed =
    subst (λ p. IsListed values p) same_aliases (subst (λ v. IsListed v aliases') same_values listed)

-- values of which none is an alias
none_counted : (values : List ValueNode) → ((k : ℕ) → alias_of values k ≡ None) → alias_count values ≡ 0
none_counted [] none = refl
none_counted (n ∷ ns) none =
    let first : ◌≡◌ {A = ℕ} (cond (is_some (alias_of_origin n.origin)) 1 0) 0 = ap (λ o. cond (is_some o) 1 0) (none zero) in
    let rest : alias_count ns ≡ 0 = none_counted ns (λ k. none (suc k)) in
    let whole : alias_count (n ∷ ns) ≡ cond (is_some (alias_of_origin n.origin)) 1 0 + alias_count ns = sum_by-cons _ n ns in
    omega (arith, first, rest, whole)

-- more values, none of which is an alias
pub listed_more : (values more : List ValueNode) (aliases : List ℕ) → ((k : ℕ) → alias_of more k ≡ None)
    → IsListed values aliases → IsListed (values ++ more) aliases
listed_more values more aliases none listed =
    let same : (v : ℕ) → alias_of (values ++ more) v ≡ alias_of values v = λ v.
    at_append (λ (n : ValueNode). alias_of_origin n.origin ≡ alias_of values v) values more v no_value (λ _. refl)
    (λ past. none (v - length values) ∙ sym (ap (λ (n : ValueNode). alias_of_origin n.origin) (at_past values v no_value past))) in
    let new : alias_count more ≡ 0 = none_counted more none in
    let count : alias_count (values ++ more) ≡ alias_count values = grind (arith, common_steps, new) in
    record {
      sound = All-weaker (λ v. IsSome (alias_of values v)) (λ v. IsSome (alias_of (values ++ more) v)) (λ v was. ap is_some (same v) ∙ was) aliases listed.sound;
      complete = λ v is. listed.complete v (ap is_some (sym (same v)) ∙ is);
      count_is = listed.count_is ∙ sym count;
    }

one_none : (node : ValueNode) → alias_of_origin node.origin ≡ None → (k : ℕ) → alias_of (node ∷ []) k ≡ None
one_none node none zero = none
one_none node none (suc k) = refl

-- one more value, which is no alias
pub listed_push : (values values' : List ValueNode) (node : ValueNode) (aliases : List ℕ) → values' ≡ values ++ node ∷ [] → alias_of_origin node.origin ≡ None
    → IsListed values aliases → IsListed values' aliases
listed_push values values' node aliases more none listed =
    subst (λ v. IsListed v aliases) (sym more) (listed_more values (node ∷ []) aliases (one_none node none) listed)

-- the results of a new instruction
pub listed_results : (values values' : List ValueNode) (i : ℕ) (types : List «Type») (aliases : List ℕ) → values' ≡ values ++ result_nodes i 0 types
    → IsListed values aliases → IsListed values' aliases
listed_results values values' i types aliases more listed =
    subst (λ v. IsListed v aliases) (sym more) (listed_more values (result_nodes i 0 types) aliases (alias_of-result_nodes i 0 types) listed)

-- a value that becomes an alias
listed_alias : (values : List ValueNode) (v target : ℕ) (node : ValueNode) (aliases : List ℕ)
    → v < length values → alias_of values v ≡ None → alias_of_origin node.origin ≡ Some target
    → IsListed values aliases → IsListed (set values v node) (aliases ++ v ∷ [])
listed_alias values v target node aliases inside none is_target listed =
    let at_v : IsSome (alias_of (set values v node) v) = ap is_some (alias_of-set_same values v node inside ∙ is_target) in
    let stays : (u : ℕ) → IsSome (alias_of values u) → IsSome (alias_of (set values v node) u) = λ u was. elim (cases_eq u v) [
      | inl same ↦ ap (λ w. is_some (alias_of (set values v node) w)) same ∙ at_v
      | inr other ↦ ap is_some (alias_of-set_other values v node u other) ∙ was
    ] in
    let count : alias_count (set values v node) ≡ alias_count values + 1 = alias_count-set values v node inside none (ap is_some is_target) in
    record {
      sound = All-push (λ u. IsSome (alias_of (set values v node) u)) aliases v
          (All-weaker (λ u. IsSome (alias_of values u)) (λ u. IsSome (alias_of (set values v node) u)) stays aliases listed.sound) at_v;
      complete = λ u is. elim (cases_eq u v) [
        | inl same ↦ subst (λ w. Contains (aliases ++ v ∷ []) w) (sym same) (Contains-push aliases v)
        | inr other ↦ Contains-append_left aliases (v ∷ []) u (listed.complete u (ap is_some (sym (alias_of-set_other values v node u other)) ∙ is))
      ];
      count_is = grind (arith, common_steps, listed.count_is, count);
    }

-- the same, with what a function's call ensures
pub listed_alias_with : (values values' : List ValueNode) (v target : ℕ) (node : ValueNode) (aliases aliases' : List ℕ)
    → aliases' ≡ aliases ++ v ∷ [] → values' ≡ set values v node
    → v < length values → alias_of values v ≡ None → alias_of_origin node.origin ≡ Some target
    → IsListed values aliases → IsListed values' aliases'
listed_alias_with values values' v target node aliases aliases' same_aliases same_values inside none is_target listed =
    listed_with (set values v node) values' (aliases ++ v ∷ []) aliases' (sym same_values) (sym same_aliases)
    (listed_alias values v target node aliases inside none is_target listed)

-- there are fewer aliases than values, where one value is none
pub listed_fewer : (values : List ValueNode) (v : ℕ) (aliases : List ℕ) → v < length values → alias_of values v ≡ None
    → IsListed values aliases → length aliases + 1 ≤ length values
listed_fewer values v aliases inside none listed =
    let node : ValueNode = record no_value { origin = Alias 0 } in
    let count : alias_count (set values v node) ≡ alias_count values + 1 = alias_count-set values v node inside none refl in
    let most : alias_count (set values v node) ≤ length (set values v node) = grind (arith, common_steps, count_by-le-length) in
    let same : length (set values v node) ≡ length values = grind (arith, common_steps) in
    omega (arith, count, most, same, listed.count_is)
