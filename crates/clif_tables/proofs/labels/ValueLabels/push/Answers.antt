use Rattle.std.proofs.Common.{rules, sym, ap, ◌≡◌, ◌∙◌, ℕ, List}
use Rattle.clif_tables.specs.Sparse.{with_one_more}
use Rattle.clif_tables.specs.declared.labels.ValueLabelStart.{ValueLabelStart}
use Rattle.clif_tables.proofs.InPlace.{pushed, unchanged}
use Rattle.clif_tables.proofs.labels.ValueLabels.push.Goals as goal

pub returns-in_err-push-in-Some-clause-err : goal.returns-in_err-push-in-Some-clause-err
returns-in_err-push-in-Some-clause-err c =
    let after = c.push.new.self.items in
    let same = unchanged c.args.value c.self.inside.labels.entries c.in-Some.labels.now after (sym c.in-Some.ensures.value) (search rules) in
    let stays : (c.get_mut.follows.lender after).entries ≡ c.self.inside.labels.entries = (c.get_mut.follows.holds after).0 ∙ same in
    search rules

pub returns-in_ok-push-in-Some-clause-ok : goal.returns-in_ok-push-in-Some-clause-ok
returns-in_ok-push-in-Some-clause-ok c =
    let after = c.push.new.self.items in
    let lists = c.self.inside.labels.entries in
    let more = pushed c.args.value lists c.in-Some.labels.now after c.args.start c.in-Some.ensures.ordered (sym c.in-Some.ensures.value) (search rules) in
    let seen : lists ≡ c.args.self.now = search rules in
    (c.get_mut.follows.holds after).0 ∙ more
    ∙ ap (λ (held : List (ℕ × List ValueLabelStart)). with_one_more held c.args.value c.args.start) seen
