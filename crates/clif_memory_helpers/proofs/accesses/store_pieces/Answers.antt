-- One more value is stored.
use Rattle.std.proofs.Common.{◌≡◌, ◌<◌, ◌+◌, ◌*◌, ℤ, pos, ℕ, w32, ◌∷◌, length, slice_index_or, arith, rules, sym, ◌∙◌, subst, add-one}
use Rattle.std.proofs.lemmas.Grind.{common_steps}
use Rattle.std.proofs.lemmas.Int.{to_z-of_z}
use Rattle.std.specs.Prelude.{Ok}
use mir.Val.{SFits}
use Rattle.clif_types.specs.declared.types.«Type».TheVariants.{Invalid}
use Rattle.clif_inst_builder.specs.Shapes as shapes
use Rattle.clif_builder.specs.Built.{Builds}
use Rattle.clif_memory_helpers.specs.Lines.{Makes, no_results, no_values}
use Rattle.clif_memory_helpers.specs.Steps.{stores}
use Rattle.clif_memory_helpers.proofs.Pieces.{stores_step, stores_stopped}
use Rattle.clif_memory_helpers.proofs.accesses.store_pieces.Goals as goal

pub loop-number-preserved : goal.loop-number-preserved
loop-number-preserved g c =
    let number : ℕ = c.loop-number.number in
    let fits : SFits w32 c.offset_of-offset.result = search rules in
    let here : c.from.result ≡ number = grind (arith, common_steps, c.from.ensures) in
    let inside : number < length c.args.values.now = grind (arith, common_steps, c.loop-number-test.true, c.requires.many) in
    let value : c.index-values-from.result ≡ slice_index_or c.args.values.now number 0 = grind (arith, common_steps, c.index-values-from.is, here, inside) in
    stores_step c.ledger_is_read_by_number.ensures c.requests_ask_for_their_shapes.ensures c.args.accesses c.args.flags c.args.target c.args.values.now number (number + 1) c.in_ok-store.field-0
    c.args.bx.now c.loop-number.bx c.store.new.self (add-one number) inside c.requires.typed c.loop-number.invariant
    (subst (λ (v : ℕ). Builds c.loop-number.bx c.store.new.self (shapes.store c.args.flags v c.args.target (pos (number * c.args.accesses.bytes))) Invalid (Ok c.in_ok-store.field-0)) value
    (subst (λ (z : ℤ). Builds c.loop-number.bx c.store.new.self (shapes.store c.args.flags c.index-values-from.result c.args.target z) Invalid (Ok c.in_ok-store.field-0))
    (to_z-of_z w32 c.offset_of-offset.result fits ∙ c.offset_of-offset.ensures) c.in_ok-store.ensures.built))

pub returns-in_err-store : goal.returns-in_err-store
returns-in_err-store g c =
    stores_stopped c.ledger_is_read_by_number.ensures c.requests_ask_for_their_shapes.ensures c.args.accesses c.args.flags c.args.target c.args.values.now c.loop-number.number c.args.accesses.count _ _
    c.args.bx.now c.loop-number.bx c.store.new.self c.from_residual.result c.in_err-store.field-0.0 c.loop-number-test.true (sym c.requires.many) c.loop-number.invariant c.in_err-store.ensures.built c.from_residual.ensures.1

pub returns : goal.returns
returns g c =
    let all : c.loop-number.number ≡ c.args.accesses.count = omega (arith, c.loop-number-test.false, c.loop-number.auto.number-end) in
    subst (λ (n : ℕ). Makes (c.args.target ∷ c.args.values.now) (stores c.args.accesses c.args.flags n) no_results no_values c.args.bx.now c.loop-number.bx (Ok tt)) all c.loop-number.invariant
