use Rattle.std.proofs.Common.{◌≡◌, ◌<◌, ◌^◌, ◌∙◌, ◌∷◌, ◌++◌, [], ap, length, arith, subst}
use Rattle.clif_number_sets.specs.Sets.{is_in}
use Rattle.clif_safepoints.proofs.Marks.{member_below}
use Rattle.clif_safepoints.proofs.Recording.{row_last, row_next}
use Rattle.clif_safepoints.proofs.last_pass.members.Goals as goal

pub overflow_add-from : goal.overflow_add-from
overflow_add-from c =
    let below : c.in-Some.place < length c.args.live.now = member_below c.args.live.now c.in-Some.place c.in-Some.ensures.1 in
    let size : length c.args.live.now ≡ length c.args.recorded.now = c.requires in
    let fits : length c.args.recorded.now < 2 ^ 64 = c.law_fits.ensures in omega (arith, below, size, fits)

pub loop-place-preserved : goal.loop-place-preserved
loop-place-preserved c =
    let below : c.in-Some.place < length c.args.recorded.now =
    subst (λ n. c.in-Some.place < n) c.requires (member_below c.args.live.now c.in-Some.place c.in-Some.ensures.1) in
    row_next c.args.recorded.now (is_in c.args.live.now) c.loop-place.from c.in-Some.place c.loop-place.values c.push.new.self c.law_rising.ensures below
    c.in-Some.ensures.0 c.in-Some.ensures.1 c.in-Some.ensures.2
    (c.in_ok-push.ensures.ok ∙ ap (λ x. c.loop-place.values ++ x ∷ []) c.at.ensures) c.loop-place.invariant

pub returns-clause-ok : goal.returns-clause-ok
returns-clause-ok c = row_last c.args.recorded.now (is_in c.args.live.now) c.loop-place.from c.loop-place.values c.in_default.ensures c.loop-place.invariant
