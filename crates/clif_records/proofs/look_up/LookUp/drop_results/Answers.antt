use Rattle.std.proofs.Common.{rules, ◌≡◌, ◌≤◌, ◌-◌, ◌∙◌, ap, sym, subst, reverse, take, length}
use Rattle.clif_records.specs.Stacks.{LookUpState}
use Rattle.clif_records.proofs.Stacks.{drop-turned, length-reverse}
use Rattle.clif_records.proofs.look_up.LookUp.drop_results.Goals as goal

pub returns : goal.returns
returns c =
    let items = c.self.inside.results.items in
    let count : c.len.result ≡ length items = search rules in
    let same : length c.args.self.now.results ≡ length items = ap (λ (l : LookUpState). length l.results) (sym c.self.view_is) ∙ length-reverse items in
    let fits : c.args.count ≤ length items = subst (λ n. c.args.count ≤ n) same c.requires in
    rw (← c.self.view_is)
    (ap (λ rs. let l : LookUpState = record { calls = reverse c.self.inside.calls.items; results = rs; zeros = c.self.inside.zeros.items } in l)
    (ap reverse (c.truncate.ensures.items ∙ ap (λ n. take (n - c.args.count) items) count) ∙ sym (drop-turned items c.args.count fits)))
