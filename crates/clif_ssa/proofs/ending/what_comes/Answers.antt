use Rattle.std.proofs.Common.{rules, ◌≡◌, ◌≢◌, ◌+◌, ◌∙◌, ◌++◌, ◌∷◌, [], ap, sym, subst, length, take}
use Rattle.std.specs.Prelude.{Some, None}
use Rattle.clif_ir.specs.Body.{resolved}
use Rattle.clif_ssa.specs.LookUp.{OneComes}
use Rattle.clif_ssa.specs.Incoming.{ComesSoFar, ExistsSoFar}
use Rattle.clif_ir.proofs.Aliases.{follow_end}
use Rattle.clif_ssa.proofs.Coming.{taken-more, comes-same, comes-first, comes-again}
use Rattle.clif_ssa.proofs.ending.what_comes.Goals as goal
use Rattle.clif_ssa.proofs.ending.what_comes.Goals.{in-None, in-Some+else-ne}

pub loop-result-preserved-then-eq : goal.loop-result-preserved-then-eq
loop-result-preserved-then-eq c =
    let more : take (c.loop-result.result-index + 1) c.args.results.now ≡ take c.loop-result.result-index c.args.results.now ++ c.result-item.result ∷ [] =
    taken-more c.args.results.now c.loop-result.result-index c.result-item.result c.loop-result-test.true ∙ ap (λ r. take c.loop-result.result-index c.args.results.now ++ r ∷ []) (sym c.result-item.is) in
    let is : resolved c.args.func.now c.result-item.result ≡ c.args.param = search rules in (
      subst (λ xs. ComesSoFar c.args.func.now c.args.param xs c.loop-result.one) (sym more)
          (comes-same c.args.func.now c.args.param (take c.loop-result.result-index c.args.results.now) c.result-item.result c.loop-result.one c.loop-result.invariant.0 is),
      c.loop-result.invariant.1,
    )

pub loop-result-preserved : goal.loop-result-preserved
loop-result-preserved c =
    let more : take (c.loop-result.result-index + 1) c.args.results.now ≡ take c.loop-result.result-index c.args.results.now ++ c.result-item.result ∷ [] =
    taken-more c.args.results.now c.loop-result.result-index c.result-item.result c.loop-result-test.true ∙ ap (λ r. take c.loop-result.result-index c.args.results.now ++ r ∷ []) (sym c.result-item.is) in
    let f = c.args.func.now in
    let p = c.args.param in
    let r = c.result-item.result in
    let xs = take c.loop-result.result-index c.args.results.now in
    let is : c.resolve_aliases-value.result ≡ resolved f r = c.resolve_aliases-value.ensures.exact in
    let other : c.resolve_aliases-value.result ≢ p = search rules in
    let own_end : resolved f c.resolve_aliases-value.result ≡ c.resolve_aliases-value.result =
    follow_end f.values (length f.values) c.resolve_aliases-value.result c.resolve_aliases-value.ensures.no_alias in
    elim c.match-one.branch [
      | in-None w ↦
          let so : ComesSoFar f p xs None = subst (λ o. ComesSoFar f p xs o) w.in-None.is c.loop-result.invariant.0 in
          let one : OneComes f p c.resolve_aliases-value.result (xs ++ r ∷ []) =
          subst (λ v. OneComes f p v (xs ++ r ∷ [])) (sym is) (comes-first f p xs r so (λ same. other (is ∙ same))) in (
            subst (λ ys. ComesSoFar f p ys c.match-one.one) (sym more) (subst (λ o. ComesSoFar f p (xs ++ r ∷ []) o) (sym w.one-is) one),
            subst (λ o. ExistsSoFar f o) (sym w.one-is) (c.resolve_aliases-value.ensures.exists, own_end),
          )
      | in-Some+else-ne w ↦
          let so : ComesSoFar f p xs (Some w.in-Some.other) = subst (λ o. ComesSoFar f p xs o) w.in-Some.is c.loop-result.invariant.0 in
          let same : w.in-Some.other ≡ c.resolve_aliases-value.result = search rules in
          let one : OneComes f p w.in-Some.other (xs ++ r ∷ []) = comes-again f p w.in-Some.other xs r so (sym is ∙ sym same) in (
            subst (λ ys. ComesSoFar f p ys c.match-one.one) (sym more) (subst (λ o. ComesSoFar f p (xs ++ r ∷ []) o) (sym w.one-is) one),
            subst (λ o. ExistsSoFar f o) (w.in-Some.is ∙ sym w.one-is) c.loop-result.invariant.1,
          )
    ]
