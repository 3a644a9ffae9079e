use Rattle.std.proofs.Common.{◌≡◌, ◌≤◌, ◌∙◌, ◌/◌, ℕ, false, length, take, None, length-take, ap, subst, arith}
use Rattle.clif_number_sets.specs.Sets.{IsNext}
use Rattle.clif_number_sets.specs.Words.{mark_in, words_for, IsNextMark}
use Rattle.clif_number_sets.proofs.Next.{mark_zero, next_member}
use Rattle.clif_number_sets.proofs.Within.{next_within, none_inside}
use Rattle.clif_number_sets.proofs.number_set.NumberSet.next_from.Goals as goal
use Rattle.clif_number_sets.proofs.number_set.NumberSet.next_from.Goals.{then-place-self-via-then-place-self, then-place-self-via-else-place-self+then-self}

pub returns-then-place-self : goal.returns-then-place-self
returns-then-place-self c =
    let words = c.self.inside.words.items in
    let first = c.self.inside.first in
    let end = c.self.inside.end in
    let none : (other : ℕ) → c.args.place ≤ other → mark_in words other ≡ false = elim c.then-place-self.branch [
      | then-place-self-via-then-place-self w ↦ λ other above. c.self.invariant.1 other (omega (arith, w.if-place-self.true, above))
      | then-place-self-via-else-place-self+then-self w ↦ λ other above. mark_zero words other (none_inside first end words c.self.invariant.2 w.if-self.true (other / 64))
    ] in
    subst (λ s. IsNext s c.args.place None) c.self.view_is (next_member c.self.inside.size words c.args.place None c.self.invariant.1 none)

pub overflow_mul-self-inside : goal.overflow_mul-self-inside
overflow_mul-self-inside c = record { fits = omega (arith, c.if-self.false, c.self.invariant.0, c.self.invariant.2.inside) }

pub next_mark-requires : goal.next_mark-requires
next_mark-requires c =
    let count : length c.deref.result.now ≡ words_for c.self.inside.size = ap length c.deref.ensures.value ∙ c.self.invariant.0 in
    omega (arith, count, length-take c.self.inside.end c.deref.result.now)

pub returns : goal.returns
returns c =
    let words = c.self.inside.words.items in
    let first = c.self.inside.first in
    let end = c.self.inside.end in
    let found = subst (λ ws. IsNextMark (take end ws) c.max.result c.next_mark.result) c.deref.ensures.value c.next_mark.ensures in
    subst (λ s. IsNext s c.args.place c.next_mark.result) c.self.view_is
    (next_member c.self.inside.size words c.args.place c.next_mark.result c.self.invariant.1
    (next_within first end words c.self.invariant.2 c.args.place c.next_mark.result
    (subst (λ p. IsNextMark (take end words) p c.next_mark.result) c.max.ensures found)))
