use Rattle.std.proofs.Common.{◌≢◌, ◌-◌, ◌<◌, length, refl, ap, ◌∙◌, arith, rules}
use Rattle.std.specs.Prelude.{vec_len}
use Rattle.clif_ranges.specs.declared.ranges.CaseRange.{CaseRange}
use Rattle.clif_ranges.specs.Ranges.{end_of}
use Rattle.clif_ranges.proofs.Gathering.{longer, begun, not_last, put_back}
use Rattle.clif_ranges.proofs.ranges.add_case.Goals as goal
use Rattle.clif_ranges.proofs.ranges.add_case.Goals.{in_default-via-in-Some+else-ends_before, in_default-via-in-None-1}

pub returns-in_ok-push-in-Some-clause-ok : goal.returns-in_ok-push-in-Some-clause-ok
returns-in_ok-push-in-Some-clause-ok c =
    let some : 0 < length c.args.ranges.now.items = c.in-Some.ensures.item.3.0 in
    longer c.args.ranges.now.items _ c.args.key c.args.block c.in-Some.range.now _ (omega arith) c.in-Some.ensures.value refl c.in_ok-push-in-Some.ensures.items (search rules) c.requires.behind

pub returns-in_ok-push-in_default-clause-ok : goal.returns-in_ok-push-in_default-clause-ok
returns-in_ok-push-in_default-clause-ok c =
    let old = c.args.ranges.now.items in
    let new = c.push-in_default.new.self.items in
    let range : CaseRange = record { first = c.args.key; blocks = c.in_ok-vec-in_default.field-0 } in
    let pushed = c.in_ok-push-in_default.ensures.items in
    let one = c.in_ok-vec-in_default.ensures.items in
    elim c.in_default.branch [
      | in_default-via-in-Some+else-ends_before w ↦
          let n = vec_len c.args.ranges.now - 1 in
          let some : 0 < length old = w.in-Some.ensures.item.3.0 in
          let last = w.in-Some.range.now in
          let is = w.in-Some.ensures.value in
          let other : end_of last ≢ c.args.key = λ same. absurd (let yes = w.ends_before.ensures.1 same in cc) in
          begun old c.in_default.ranges.items new c.args.key c.args.block range (ap (λ v. v.items) w.ranges-is ∙ put_back old n last is) pushed refl one (not_last old n c.args.key last (omega arith) is other) c.requires.behind
      | in_default-via-in-None-1 w ↦
          begun old c.in_default.ranges.items new c.args.key c.args.block range (ap (λ v. v.items) w.ranges-is) pushed refl one (λ i d last. absurd (search rules)) c.requires.behind
    ]
