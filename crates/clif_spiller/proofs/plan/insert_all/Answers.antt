use Rattle.std.proofs.Common.{◌∙◌, ◌++◌, ℕ, List, [], ◌∷◌, take, sym, ap, subst, subst₂, arith}
use Rattle.std.proofs.lemmas.List.{take_all}
use Rattle.clif_spiller.specs.Plans.{HasMembers}
use Rattle.clif_spiller.proofs.Members.{put_more, taken_more}
use Rattle.clif_spiller.proofs.plan.insert_all.Goals as goal

pub loop-value-preserved : goal.loop-value-preserved
loop-value-preserved c =
    let old : List ℕ = c.args.set.now in
    let front : List ℕ = take c.loop-value.value-index c.args.values.now in
    let more = put_more old front c.loop-value.set c.value-item.result c.loop-value.invariant in
    let taken = taken_more c.args.values.now c.loop-value.value-index c.value-item.result c.loop-value-test.true
    ∙ ap (λ (x : ℕ). front ++ x ∷ []) (sym c.value-item.is) in
    subst₂ (HasMembers old) (sym taken) (sym c.in_ok-insert.ensures.members) more

pub returns-clause-ok : goal.returns-clause-ok
returns-clause-ok c =
    subst (λ xs. HasMembers c.args.set.now xs c.loop-value.set) (take_all c.loop-value.value-index c.args.values.now (omega (arith, c.loop-value-test.false)))
    c.loop-value.invariant
