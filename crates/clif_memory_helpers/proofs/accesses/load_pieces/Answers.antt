-- One more piece is loaded.
use Rattle.std.proofs.Common.{◌≡◌, ◌<◌, ◌+◌, ℤ, ℕ, w32, slice_set, arith, rules, ◌∙◌, ap, subst, add-one}
use Rattle.std.proofs.lemmas.Grind.{common_steps}
use Rattle.std.proofs.lemmas.Int.{to_z-of_z}
use Rattle.std.specs.Prelude.{Ok}
use mir.Val.{SFits}
use Rattle.clif_inst_builder.specs.Shapes as shapes
use Rattle.clif_builder.specs.Built.{BuildsValue}
use Rattle.clif_memory_helpers.specs.Steps.{LoadsPieces}
use Rattle.clif_memory_helpers.proofs.Pieces.{loads_step, loads_stopped}
use Rattle.clif_memory_helpers.proofs.accesses.load_pieces.Goals as goal

pub loop-number-preserved : goal.loop-number-preserved
loop-number-preserved g c =
    let number : ℕ = c.loop-number.number in
    let fits : SFits w32 c.offset_of-offset.result = search rules in
    let here : c.from.result ≡ number = grind (arith, common_steps, c.from.ensures) in
    let few : number < 4 = grind (arith, common_steps, c.loop-number-test.true, c.requires.planned.few) in
    loads_step c.ledger_is_read_by_number.ensures c.requests_ask_for_their_shapes.ensures c.args.accesses c.args.flags c.args.source number (number + 1) c.in_ok-loaded.field-0
    c.loop-number.loaded _ c.args.bx.now c.loop-number.bx c.load.new.self (add-one number) few (ap (λ (k : ℕ). slice_set c.loop-number.loaded k c.in_ok-loaded.field-0) here) c.loop-number.invariant
    (subst (λ (z : ℤ). BuildsValue c.loop-number.bx c.load.new.self (shapes.load c.args.flags c.args.source z) c.args.accesses.ty (Ok c.in_ok-loaded.field-0))
    (to_z-of_z w32 c.offset_of-offset.result fits ∙ c.offset_of-offset.ensures) c.in_ok-loaded.ensures.built)

pub returns-in_err-loaded : goal.returns-in_err-loaded
returns-in_err-loaded g c =
    loads_stopped c.ledger_is_read_by_number.ensures c.requests_ask_for_their_shapes.ensures c.args.accesses c.args.flags c.args.source c.loop-number.number c.args.accesses.count _ c.loop-number.loaded
    c.args.bx.now c.loop-number.bx c.load.new.self c.from_residual.result c.in_err-loaded.field-0.0 c.loop-number-test.true c.loop-number.invariant c.in_err-loaded.ensures.built c.from_residual.ensures.1

pub returns : goal.returns
returns g c =
    let all : c.loop-number.number ≡ c.args.accesses.count = omega (arith, c.loop-number-test.false, c.loop-number.auto.number-end) in
    subst (λ (n : ℕ). LoadsPieces c.args.accesses c.args.flags c.args.source n c.args.bx.now c.loop-number.bx (Ok c.loop-number.loaded)) all c.loop-number.invariant
