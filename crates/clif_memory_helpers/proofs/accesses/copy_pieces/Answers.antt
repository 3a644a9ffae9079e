-- What was loaded is stored.
use Rattle.std.proofs.Common.{◌≡◌, ◌≤◌, ℕ, length, take, arith, ◌∙◌, ap}
use Rattle.std.proofs.lemmas.Grind.{common_steps}
use Rattle.std.proofs.lemmas.List.{length-take-le}
use Rattle.clif_memory_helpers.proofs.Loads.{copy_made}
use Rattle.clif_memory_helpers.proofs.Stopped.{copy_stopped}
use Rattle.clif_memory_helpers.proofs.accesses.copy_pieces.Goals as goal

pub returns : goal.returns
returns g c =
    let here : c.from.result ≡ c.args.accesses.count = grind (arith, common_steps, c.from.ensures) in
    let few : c.from.result ≤ length c.in_ok-loaded.loaded = let many = c.in_ok-loaded.ensures.many in let four = c.requires.planned.few in omega (arith, here, many, four) in
    copy_made c.ledger_is_read_by_number.ensures c.args.accesses c.args.flags c.args.target c.args.source c.in_ok-loaded.loaded _ c.args.bx.now c.load_pieces.new.bx c.store_pieces.new.bx c.store_pieces.result
    (ap (λ (k : ℕ). take k c.in_ok-loaded.loaded) here) (length-take-le c.from.result c.in_ok-loaded.loaded few ∙ here) c.in_ok-loaded.ensures c.store_pieces.ensures

pub returns-in_err-loaded : goal.returns-in_err-loaded
returns-in_err-loaded g c =
    copy_stopped c.args.accesses c.args.flags c.args.target c.args.source _ c.args.bx.now c.load_pieces.new.bx c.from_residual.result c.in_err-loaded.field-0.0 c.in_err-loaded.ensures.made c.from_residual.ensures.1
