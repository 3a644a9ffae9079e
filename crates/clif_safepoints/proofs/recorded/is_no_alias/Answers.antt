use Rattle.std.proofs.Common.{◌≡◌, ◌≤◌, length, sym, arith}
use Rattle.std.proofs.lemmas.Bool.{eq-eqb}
use Rattle.clif_ir.specs.Body.{resolved}
use Rattle.clif_safepoints.proofs.Numbered.{resolved_past}
use Rattle.clif_safepoints.proofs.recorded.is_no_alias.Goals as goal

pub returns-then-index-value_count : goal.returns-then-index-value_count
returns-then-index-value_count c =
    let test : c.value_count.result ≤ c.index.result = c.if-index-value_count.true in
    let count : c.value_count.result ≡ length c.args.func.now.values = c.value_count.ensures.exact in
    let place : c.index.result ≡ c.args.value = c.index.ensures.place in
    let past : length c.args.func.now.values ≤ c.args.value = omega (arith, test, count, place) in
    sym (eq-eqb (resolved c.args.func.now c.args.value) c.args.value (resolved_past c.args.func.now c.args.value past))
