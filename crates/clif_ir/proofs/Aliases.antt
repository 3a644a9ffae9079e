-- Laws of the way along aliases.
use Rattle.std.proofs.Common.{◌≡◌, ℕ, zero, suc, ◌+◌, ◌<◌, ◌≤◌, List, length, ◌++◌, refl, ap, arith, sym, ◌∙◌, inl, inr, set, ◌≢◌, get_or-set_same, get_or-set_other, [], ◌∷◌}
use Rattle.std.specs.Prelude.{Option, Some, None, is_some, true, cond}
use Rattle.clif_nodes.specs.declared.nodes.ValueNode.{ValueNode}
use Rattle.std.proofs.Math.ListN.{get_or-append}
use Rattle.std.proofs.lemmas.List.Sums.{count_by-le-length, sum_by-cons}
use Rattle.std.proofs.lemmas.Grind.{common_steps}
use Rattle.clif_ir.specs.Body.{follow, follow_link, alias_of, alias_of_origin}
use Rattle.clif_nodes.specs.Nodes.{no_value}
use Rattle.clif_ir.specs.Consistent.{alias_count}
use Rattle.std.proofs.lemmas.Bool.{cases_eq}
use Rattle.clif_instructions.proofs.Lists.{below_or_not}

-- without a step one stays
pub follow_nothing : (values : List ValueNode) (steps v : ℕ) → steps ≡ 0 → follow steps values v ≡ v
unfolding follow
follow_nothing values zero v none = refl
follow_nothing values (suc steps) v none = absurd (omega (arith, none))

-- a value that is no alias is the end of its way
pub follow_end : (values : List ValueNode) (steps v : ℕ) → alias_of values v ≡ None → follow steps values v ≡ v
unfolding follow
follow_end values zero v none = refl
follow_end values (suc steps) v none = ap (λ o. follow_link o (follow steps values) v) none

-- an alias leads on
pub follow_on : (values : List ValueNode) (steps fewer v original : ℕ) → steps ≡ fewer + 1 → alias_of values v ≡ Some original → follow steps values v ≡ follow fewer values original
unfolding follow
follow_on values zero fewer v original positive some = absurd (omega (arith, positive))
follow_on values (suc steps) fewer v original more some =
    let same : steps ≡ fewer = omega (arith, more) in
    ap (λ o. follow_link o (follow steps values) v) some ∙ ap (λ k. follow k values original) same

-- every alias leads to a value that exists
abbrev pub LeadsInside : List ValueNode → Type 0
LeadsInside values = (v original : ℕ) → v < length values → alias_of values v ≡ Some original → original < length values

-- along aliases one stays among the values
pub follow-inside : (values : List ValueNode) (steps v : ℕ) → LeadsInside values → v < length values → follow steps values v < length values
unfolding follow
follow-inside values zero v leads inside = inside
follow-inside values (suc steps) v leads inside =
    by_cases (λ w here. follow-inside values steps w leads here) (alias_of values v) refl
  where
    by_cases : ((w : ℕ) → w < length values → follow steps values w < length values)
        → (o : Option ℕ) → alias_of values v ≡ o → follow_link o (follow steps values) v < length values
    by_cases induction None is = inside
    by_cases induction (Some original) is = induction original (leads v original inside is)

-- values behind the others change nothing of the ways of those
pub follow-append : (values more : List ValueNode) (steps v : ℕ) → LeadsInside values → v < length values
    → follow steps (values ++ more) v ≡ follow steps values v
unfolding follow
follow-append values more zero v leads inside = refl
follow-append values more (suc steps) v leads inside =
    ap (λ (n : ValueNode). follow_link (alias_of_origin n.origin) (follow steps (values ++ more)) v) (get_or-append values more no_value v inside)
    ∙ by_cases (λ w here. follow-append values more steps w leads here) (alias_of values v) refl
  where
    by_cases : ((w : ℕ) → w < length values → follow steps (values ++ more) w ≡ follow steps values w)
        → (o : Option ℕ) → alias_of values v ≡ o → follow_link o (follow steps (values ++ more)) v ≡ follow_link o (follow steps values) v
    by_cases induction None is = refl
    by_cases induction (Some original) is = induction original (leads v original inside is)

-- each way ends, in no more steps than there are aliases
abbrev pub EachWayEnds : List ValueNode → Type 0
EachWayEnds values = (v : ℕ) → v < length values → alias_of values (follow (alias_count values) values v) ≡ None

-- values that are no aliases may be put behind the others
pub ways_end-append : (values more : List ValueNode) → LeadsInside values → alias_count more ≡ 0
    → ((v : ℕ) → length values ≤ v → alias_of (values ++ more) v ≡ None)
    → EachWayEnds values → EachWayEnds (values ++ more)
ways_end-append values more leads none new ends v inside =
    let count : alias_count (values ++ more) ≡ alias_count values = grind (arith, common_steps, none) in
    elim (below_or_not v (length values)) [
      | inl old ↦
          let there : follow (alias_count (values ++ more)) (values ++ more) v ≡ follow (alias_count values) values v =
          ap (λ n. follow n (values ++ more) v) count ∙ follow-append values more (alias_count values) v leads old in
          ap (alias_of (values ++ more)) there
          ∙ ap (λ (n : ValueNode). alias_of_origin n.origin) (get_or-append values more no_value _ (follow-inside values (alias_count values) v leads old))
          ∙ ends v old
      | inr behind ↦
          ap (alias_of (values ++ more)) (follow_end (values ++ more) (alias_count (values ++ more)) v (new v behind)) ∙ new v behind
    ]

-- where a way ended, further steps stay
pub follow-ended : (values : List ValueNode) (steps more v : ℕ) → alias_of values (follow steps values v) ≡ None → steps ≤ more → follow more values v ≡ follow steps values v
unfolding follow
follow-ended values zero more v ended fewer = follow_end values more v ended
follow-ended values (suc steps) zero v ended fewer = absurd (omega (arith, fewer))
follow-ended values (suc steps) (suc more) v ended fewer =
    by_cases (λ w there. follow-ended values steps more w there (omega (arith, fewer))) (alias_of values v) refl ended
  where
    by_cases : ((w : ℕ) → alias_of values (follow steps values w) ≡ None → follow more values w ≡ follow steps values w)
        → (o : Option ℕ) → alias_of values v ≡ o → alias_of values (follow_link o (follow steps values) v) ≡ None
        → follow_link o (follow more values) v ≡ follow_link o (follow steps values) v
    by_cases induction None is there = refl
    by_cases induction (Some original) is there = induction original there

-- what a value stands for is no alias
pub resolved-no_alias : (values : List ValueNode) (v : ℕ) → EachWayEnds values → v < length values → alias_of values (follow (length values) values v) ≡ None
resolved-no_alias values v ends inside =
    let enough : alias_count values ≤ length values = grind (arith, common_steps, count_by-le-length) in
    ap (alias_of values) (follow-ended values (alias_count values) (length values) v (ends v inside) enough) ∙ ends v inside

-- one value more is an alias
pub alias_count-set : (values : List ValueNode) (v : ℕ) (node : ValueNode) → v < length values → alias_of values v ≡ None
    → is_some (alias_of_origin node.origin) ≡ true → alias_count (set values v node) ≡ alias_count values + 1
alias_count-set [] v node inside none some = absurd (omega (arith, inside))
alias_count-set (n ∷ ns) zero node inside none some =
    let new : ◌≡◌ {A = ℕ} (cond (is_some (alias_of_origin node.origin)) 1 0) 1 = ap (λ b. cond b 1 0) some in
    let old : ◌≡◌ {A = ℕ} (cond (is_some (alias_of_origin n.origin)) 1 0) 0 = ap (λ o. cond (is_some o) 1 0) none in
    let after : alias_count (node ∷ ns) ≡ cond (is_some (alias_of_origin node.origin)) 1 0 + alias_count ns = sum_by-cons _ node ns in
    let before : alias_count (n ∷ ns) ≡ cond (is_some (alias_of_origin n.origin)) 1 0 + alias_count ns = sum_by-cons _ n ns in
    omega (arith, new, old, after, before)
alias_count-set (n ∷ ns) (suc v) node inside none some =
    let rest : alias_count (set ns v node) ≡ alias_count ns + 1 = alias_count-set ns v node (omega (arith, inside)) none some in
    let after : alias_count (n ∷ set ns v node) ≡ cond (is_some (alias_of_origin n.origin)) 1 0 + alias_count (set ns v node) = sum_by-cons _ n (set ns v node) in
    let before : alias_count (n ∷ ns) ≡ cond (is_some (alias_of_origin n.origin)) 1 0 + alias_count ns = sum_by-cons _ n ns in
    omega (arith, rest, after, before)

-- where value `v`, which is no alias, is made one of `target`, the other values stay as they are
pub alias_of-set_other : (values : List ValueNode) (v : ℕ) (node : ValueNode) (u : ℕ) → u ≢ v → alias_of (set values v node) u ≡ alias_of values u
alias_of-set_other values v node u other = ap (λ (n : ValueNode). alias_of_origin n.origin) (get_or-set_other values v u node no_value other)

pub alias_of-set_same : (values : List ValueNode) (v : ℕ) (node : ValueNode) → v < length values → alias_of (set values v node) v ≡ alias_of_origin node.origin
alias_of-set_same values v node inside = ap (λ (n : ValueNode). alias_of_origin n.origin) (get_or-set_same values v node no_value inside)

not_both : {x : ℕ} → ◌≡◌ {A = Option ℕ} (Some x) None → ⊥
not_both same = cc

-- a step from `v` leads to `target`; all other ways go on as before, and stop there or go to `target`
pub record MovesOn (values : List ValueNode) (v target : ℕ) (node : ValueNode) (steps u : ℕ) : Type 0 where
  pub moved : follow steps values u ≡ v → follow (suc steps) (set values v node) u ≡ target
  pub stayed : follow steps values u ≢ v → follow (suc steps) (set values v node) u ≡ follow steps values u

pub follow-set : (values : List ValueNode) (v target : ℕ) (node : ValueNode) (steps u : ℕ) → LeadsInside values → u < length values → v < length values
    → alias_of values v ≡ None → alias_of values target ≡ None → target ≢ v → alias_of_origin node.origin ≡ Some target
    → alias_of values (follow steps values u) ≡ None → MovesOn values v target node steps u
follow-set values v target node steps u leads inside v_inside v_none target_none apart is_target ended = by_steps steps u inside ended
  where
    at_v : alias_of (set values v node) v ≡ Some target
    at_v = alias_of-set_same values v node v_inside ∙ is_target

    at_target : alias_of (set values v node) target ≡ None
    at_target = alias_of-set_other values v node target apart ∙ target_none

    from_end : (n w : ℕ) → alias_of values w ≡ None → MovesOn values v target node n w
    from_end n w none = record {
      moved = λ same.
          ap (λ x. follow (suc n) (set values v node) x) (sym (follow_end values n w none) ∙ same)
          ∙ follow_on (set values v node) (suc n) n v target (omega arith) at_v ∙ follow_end (set values v node) n target at_target;
      stayed = λ other.
          follow_end (set values v node) (suc n) w (alias_of-set_other values v node w (λ same. other (follow_end values n w none ∙ same)) ∙ none)
          ∙ sym (follow_end values n w none);
    }

    along : (n w o : ℕ) → alias_of values w ≡ Some o → MovesOn values v target node n o → MovesOn values v target node (suc n) w
    along n w o some next =
        let apart_w : w ≢ v = λ same. not_both (sym some ∙ ap (alias_of values) same ∙ v_none) in
        let old : follow (suc n) values w ≡ follow n values o = follow_on values (suc n) n w o (omega arith) some in
        let new : follow (suc (suc n)) (set values v node) w ≡ follow (suc n) (set values v node) o =
        follow_on (set values v node) (suc (suc n)) (suc n) w o (omega arith) (alias_of-set_other values v node w apart_w ∙ some) in
        record {
          moved = λ same. new ∙ next.moved (sym old ∙ same);
          stayed = λ other. new ∙ next.stayed (λ same. other (old ∙ same)) ∙ sym old;
        }

    by_link : (n w : ℕ) → ((o : ℕ) → o < length values → alias_of values (follow n values o) ≡ None → MovesOn values v target node n o)
        → w < length values → alias_of values (follow (suc n) values w) ≡ None → (link : Option ℕ) → alias_of values w ≡ link → MovesOn values v target node (suc n) w
    by_link n w induction here there None is = from_end (suc n) w is
    by_link n w induction here there (Some o) is =
        along n w o is (induction o (leads w o here is) (ap (alias_of values) (sym (follow_on values (suc n) n w o (omega arith) is)) ∙ there))

    by_steps : (n w : ℕ) → w < length values → alias_of values (follow n values w) ≡ None → MovesOn values v target node n w
    by_steps zero w here there = from_end zero w (ap (alias_of values) (sym (follow_nothing values zero w refl)) ∙ there)
    by_steps (suc n) w here there = by_link n w (λ o o_here o_there. by_steps n o o_here o_there) here there (alias_of values w) refl

-- a value that is no alias may be made one of another that is none
pub ways_end-set : (values : List ValueNode) (v target : ℕ) (node : ValueNode) → LeadsInside values → v < length values
    → alias_of values v ≡ None → alias_of values target ≡ None → target ≢ v → alias_of_origin node.origin ≡ Some target
    → EachWayEnds values → EachWayEnds (set values v node)
ways_end-set values v target node leads v_inside v_none target_none apart is_target ends u inside =
    let count : alias_count (set values v node) ≡ suc (alias_count values) =
    alias_count-set values v node v_inside v_none (ap is_some is_target) ∙ (let one : alias_count values + 1 ≡ suc (alias_count values) = omega arith in one) in
    let here : u < length values = grind (arith, common_steps, inside) in
    let last : ℕ = follow (alias_count values) values u in
    let goes : MovesOn values v target node (alias_count values) u = follow-set values v target node (alias_count values) u leads here v_inside v_none target_none apart is_target (ends u here) in
    ap (λ n. alias_of (set values v node) (follow n (set values v node) u)) count
    ∙ elim (cases_eq last v) [
      | inl same ↦ ap (alias_of (set values v node)) (goes.moved same) ∙ alias_of-set_other values v node target apart ∙ target_none
      | inr other ↦ ap (alias_of (set values v node)) (goes.stayed other) ∙ alias_of-set_other values v node last other ∙ ends u here
    ]
