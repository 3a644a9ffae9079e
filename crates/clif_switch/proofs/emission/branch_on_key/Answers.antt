-- The key zero needs no comparison.
use Rattle.std.proofs.Common.{ℕ, [], refl, sym, ◌∙◌, subst, arith}
use Rattle.clif_switch.specs.Emission.{StandsOn, key_calls, next_place}
use Rattle.clif_switch.proofs.Blocks.{ends_by}
use Rattle.clif_switch.proofs.Compared.{branch_made}
use Rattle.clif_switch.proofs.Numbers.{held_is, type_is}
use Rattle.std.specs.Prelude.{Err, Ok}
use Rattle.clif_inst_builder.specs.Shapes as shapes
use Rattle.clif_builder.proofs.Adding.{adds_err, adds_ok}
use Rattle.clif_switch_calls.specs.SwitchSizes.{so_many}
use Rattle.clif_switch.proofs.Sized.{built_many, fewer_many}
use Rattle.clif_switch.proofs.emission.branch_on_key.Goals as goal

pub returns-in_ok-brif-clause-ends : goal.returns-in_ok-brif-clause-ends
returns-in_ok-brif-clause-ends g c = ends_by c.args.bx.now c.brif.new.self _ _ c.in_ok-brif.field-0 refl c.requires.current c.in_ok-brif.ensures.built

pub returns-in_ok-brif-clause-made : goal.returns-in_ok-brif-clause-made
returns-in_ok-brif-clause-made g c = λ signature calls s cases plain at t o tn on.
    let reads = c.ledger_is_read_by_number.ensures in
    let asks = c.requests_ask_for_their_shapes.ensures in
    subst (λ (k : ℕ). StandsOn at (key_calls s k (next_place calls plain) t o) c.brif.new.self) (sym c.if-key-eq0.true)
    (branch_made reads asks at c.brif.new.self s.ty s.value o t c.args.switched.val c.args.other c.args.block c.in_ok-brif.field-0 at.value
    (held_is reads asks at s.value c.args.switched.val at.value ∙ sym (type_is reads asks at)) on tn c.in_ok-brif.ensures.built)

pub returns-in_err-brif-clause-most : goal.returns-in_err-brif-clause-most
returns-in_err-brif-clause-most g c =
    adds_err {A = ℕ} (so_many 4 5 0 0) c.args.bx.now c.brif.new.self c.in_err-brif.field-0.0 c.from_residual.result c.from_residual.ensures.1
    (fewer_many 0 1 0 0 4 5 0 0 c.args.bx.now c.brif.new.self (Err c.in_err-brif.field-0.0) (omega arith) (omega arith) (omega arith) (omega arith)
    (built_many c.args.bx.now c.brif.new.self (shapes.brif_to c.args.switched.val c.args.other [] c.args.block []) _ (Err c.in_err-brif.field-0.0) refl c.requires.current c.in_err-brif.ensures.built))

pub returns-in_ok-brif-clause-most : goal.returns-in_ok-brif-clause-most
returns-in_ok-brif-clause-most g c =
    adds_ok (so_many 4 5 0 0) c.args.bx.now c.brif.new.self c.in_ok-brif.field-0 (tt {0})
    (fewer_many 0 1 0 0 4 5 0 0 c.args.bx.now c.brif.new.self (Ok c.in_ok-brif.field-0) (omega arith) (omega arith) (omega arith) (omega arith)
    (built_many c.args.bx.now c.brif.new.self (shapes.brif_to c.args.switched.val c.args.other [] c.args.block []) _ (Ok c.in_ok-brif.field-0) refl c.requires.current c.in_ok-brif.ensures.built))
