use Rattle.std.proofs.Common.{rules, ◌≡◌, ◌≤◌, ◌-◌, ◌∙◌, ap, sym, subst, drop, take, length}
use Rattle.clif_records.specs.Stacks.{LookUpState}
use Rattle.clif_records.proofs.Stacks.{take-turned, take-all, length-reverse}
use Rattle.clif_records.proofs.look_up.LookUp.last_results.Goals as goal

pub returns : goal.returns
returns c =
    let items = c.self.inside.results.items in
    let count : c.len.result ≡ length items = search rules in
    let same : length c.args.self.now.results ≡ length items = ap (λ (l : LookUpState). length l.results) (sym c.self.view_is) ∙ length-reverse items in
    let fits : c.args.count ≤ length items = subst (λ n. c.args.count ≤ n) same c.requires in
    rw (← c.self.view_is)
    (ap (λ xs. take (length xs - (c.len.result - c.args.count)) (drop (c.len.result - c.args.count) xs)) c.deref.ensures.value
    ∙ ap (λ n. take (length items - (n - c.args.count)) (drop (n - c.args.count) items)) count
    ∙ take-all items c.args.count fits
    ∙ sym (take-turned items c.args.count fits))
