use Rattle.std.proofs.Common.{◌/◌, ◌%◌, ◌<◌, ◌^◌, ℕ, refl, arith, get_or}
use Rattle.std.proofs.lemmas.Nat.{shr_le}
use Rattle.clif_number_sets.proofs.Next.{lowest_inside, next_after, next_here}
use Rattle.clif_number_sets.proofs.words.next_mark.Goals as goal

pub overflow_add-result : goal.overflow_add-result
overflow_add-result c =
    let place : ℕ = c.args.place in
    let word : ℕ = get_or c.args.words.now (place / 64) 0 in
    let fits = c.type_inv.words (place / 64) in
    let rest : ℕ = word / 2 ^ (place % 64) in
    let some : 0 < rest = omega (arith, c.if-rest-ne0.true) in
    let small : rest < 2 ^ 64 = omega (arith, fits, shr_le word (place % 64)) in
    let inside = lowest_inside c.args.words.now place rest refl some small (omega (arith, fits)) in
    record { fits = omega (arith, inside, c.if-number-words.false, c.requires) }

pub returns-then-rest-ne0 : goal.returns-then-rest-ne0
returns-then-rest-ne0 c =
    let place : ℕ = c.args.place in
    let word : ℕ = get_or c.args.words.now (place / 64) 0 in
    let fits = c.type_inv.words (place / 64) in
    let rest : ℕ = word / 2 ^ (place % 64) in
    let some : 0 < rest = omega (arith, c.if-rest-ne0.true) in
    let small : rest < 2 ^ 64 = omega (arith, fits, shr_le word (place % 64)) in
    next_here c.args.words.now place rest refl some small (omega (arith, fits))

pub returns : goal.returns
returns c = next_after c.args.words.now c.args.place c.if-rest-ne0.false c.first_mark.result c.first_mark.ensures
