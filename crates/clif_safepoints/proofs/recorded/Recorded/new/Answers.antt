use Rattle.std.proofs.Common.{rules, ◌≡◌, ◌==◌, ℕ, List, subst, sym}
use Rattle.std.specs.Prelude.{All, Contains}
use Rattle.std.specs.List.Sorted.{IsStrictlyIncreasing}
use Rattle.clif_ir.specs.Body.{resolved}
use Rattle.clif_safepoints.specs.Numbered.{numbered}
use Rattle.clif_safepoints.proofs.Numbered.{filter_rising, filter_within}
use Rattle.clif_safepoints.proofs.recorded.Recorded.new.Goals as goal

pub invariant_of-result : goal.invariant_of-result
invariant_of-result c =
    let all : c.loop-value.values.items ≡ numbered c.args.func.now c.args.set.now = search rules in
    let IsKept : List ℕ → Type 0 = λ xs. All (Contains c.args.set.now) xs × IsStrictlyIncreasing xs in
    subst IsKept (sym all) (
      filter_within (λ v. resolved c.args.func.now v == v) c.args.set.now,
      filter_rising (λ v. resolved c.args.func.now v == v) c.args.set.now c.iter-members.ensures.rising,
    )
