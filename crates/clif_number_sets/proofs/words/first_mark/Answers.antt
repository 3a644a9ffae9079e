use Rattle.std.proofs.Common.{◌*◌, ◌<◌, ℕ, length, sym, refl, subst, arith, get_or}
use Rattle.clif_number_sets.specs.Words.{IsNextMark}
use Rattle.clif_number_sets.proofs.Next.{first_none, first_some}
use Rattle.clif_number_sets.proofs.words.first_mark.Goals as goal

pub returns-in_err-next : goal.returns-in_err-next
returns-in_err-next c =
    subst (λ r. IsNextMark c.args.words.now (64 * c.args.start) r) (sym c.from_residual.ensures) (first_none c.args.words.now c.args.start c.in_err-next.ensures)

pub overflow_add-result : goal.overflow_add-result
overflow_add-result c =
    let next : ℕ = c.in_ok-next.next in
    let word : ℕ = get_or c.args.words.now next 0 in
    let fits = c.type_inv.words next in
    let all = first_some c.args.words.now c.args.start next word c.in_ok-next.ensures refl (omega (arith, fits)) in
    let inside : next < length c.args.words.now = c.in_ok-next.ensures.1 in
    record { fits = omega (arith, inside, all.0, c.requires) }

pub returns : goal.returns
returns c =
    let next : ℕ = c.in_ok-next.next in
    let word : ℕ = get_or c.args.words.now next 0 in
    let fits = c.type_inv.words next in
    (first_some c.args.words.now c.args.start next word c.in_ok-next.ensures refl (omega (arith, fits))).1
