-- The number, the comparison and the branch stand one behind the other.
use Rattle.std.proofs.Common.{ℕ, [], ◌∷◌, ◌++◌, map, refl, ◌∙◌, ap, subst, arith}
use Rattle.std.specs.Prelude.{Err, Ok}
use Rattle.clif_types.specs.declared.types.«Type».{«Type»}
use Rattle.clif_ir.specs.Body.{value_at}
use Rattle.clif_meaning.specs.Instruction.{Compare}
use Rattle.clif_meaning.specs.Ledger.{or_invalid}
use Rattle.clif_expansion.specs.Constants.{computing}
use Rattle.clif_expansion.specs.Emission.{building}
use Rattle.clif_inst_builder.specs.Shapes as shapes
use Rattle.clif_builder.specs.LedgerLaws.{AsksForShape}
use Rattle.clif_switch_calls.specs.SwitchCalls.{i8, branching, with_number, with_number_name}
use Rattle.clif_switch.specs.Emission.{next_place, number_named}
use Rattle.clif_switch.proofs.Compared.{branch_made, with_number_made}
use Rattle.clif_switch.proofs.Names.{on_then}
use Rattle.clif_switch.proofs.Numbers.{asks_here, held_is}
use Rattle.clif_switch.proofs.Blocks.{ends_by, ends_then}
use Rattle.clif_switch.proofs.Values.{gives_went, value_went, went_then}
use Rattle.clif_builder.proofs.Adding.{adds_err, adds_ok}
use Rattle.clif_switch_calls.specs.SwitchSizes.{so_many}
use Rattle.clif_switch.proofs.Sized.{built_many, fewer_many, then_many, value_many}
use Rattle.clif_switch.proofs.emission.branch_on.Goals as goal

pub returns-clause-ends : goal.returns-clause-ends
returns-clause-ends g c =
    let number = c.in_ok-constant.ensures in
    let went = went_then c.args.bx.now c.emit_number.new.bx c.icmp.new.self
    (gives_went c.args.bx.now c.emit_number.new.bx c.args.switched.ty c.in_ok-constant.constant number.gives number.position)
    (value_went c.emit_number.new.bx c.icmp.new.self _ _ c.in_ok-holds.holds c.in_ok-holds.ensures.built) in
    ends_then 0 c.args.bx.now c.icmp.new.self c.brif.new.self (tt {0}) went (ends_by c.icmp.new.self c.brif.new.self _ _ c.in_ok-brif.field-0 refl went.current c.in_ok-brif.ensures.built)

pub returns-clause-made : goal.returns-clause-made
returns-clause-made g c = λ signature calls s cases plain at t o tn on.
    let reads = c.ledger_is_read_by_number.ensures in
    let asks = c.requests_ask_for_their_shapes.ensures in
    let made = c.in_ok-constant.ensures.made signature calls s cases plain at in
    let place : ℕ = next_place calls plain in
    let name = number_named c.args.number s place in
    let asked : AsksForShape (calls ++ made.on.later.added) c.emit_number.new.bx.func.now (building (computing (Compare c.args.cond) s.ty (s.value ∷ name ∷ []))) (shapes.int_compare c.args.cond c.args.switched.val c.in_ok-constant.constant) (value_at c.emit_number.new.bx.func.now c.args.switched.val).ty =
    subst (λ (ty : «Type»). AsksForShape (calls ++ made.on.later.added) c.emit_number.new.bx.func.now (building (computing (Compare c.args.cond) ty (s.value ∷ name ∷ []))) (shapes.int_compare c.args.cond c.args.switched.val c.in_ok-constant.constant) (value_at c.emit_number.new.bx.func.now c.args.switched.val).ty)
    (ap or_invalid made.on.later.typed) ((asks_here reads asks made.on.later).compare c.args.cond s.value name c.args.switched.val c.in_ok-constant.constant made.on.later.value made.named) in
    let two = with_number_made reads asks at c.emit_number.new.bx c.icmp.new.self c.args.number c.in_ok-constant.constant (Compare c.args.cond) (shapes.int_compare c.args.cond c.args.switched.val c.in_ok-constant.constant) (value_at c.emit_number.new.bx.func.now c.args.switched.val).ty i8 _ made c.in_ok-holds.ensures.built asked refl in
    on_then at (map building (with_number (Compare c.args.cond) s.ty c.args.number place s.value)) (branching i8 (with_number_name s.ty c.args.number place) t o ∷ []) c.brif.new.self two.on
    (branch_made reads asks two.on.later c.brif.new.self i8 (with_number_name s.ty c.args.number place) t o c.in_ok-holds.holds c.args.taken c.args.other c.in_ok-brif.field-0 two.named
    (held_is reads asks two.on.later (with_number_name s.ty c.args.number place) c.in_ok-holds.holds two.named ∙ c.in_ok-holds.ensures.built.typed)
    (two.on.blocks_stay t c.args.taken tn) (two.on.blocks_stay o c.args.other on) c.in_ok-brif.ensures.built)

pub returns-in_err-constant-clause-most : goal.returns-in_err-constant-clause-most
returns-in_err-constant-clause-most g c =
    adds_err {A = ℕ} (so_many 4 5 0 0) c.args.bx.now c.emit_number.new.bx c.in_err-constant.field-0.0 c.from_residual.result c.from_residual.ensures.1
    (fewer_many 3 3 0 0 4 5 0 0 c.args.bx.now c.emit_number.new.bx (Err c.in_err-constant.field-0.0) (omega arith) (omega arith) (omega arith) (omega arith) c.in_err-constant.ensures.most)

pub returns-in_err-holds-clause-most : goal.returns-in_err-holds-clause-most
returns-in_err-holds-clause-most g c =
    adds_err {A = ℕ} (so_many 4 5 0 0) c.args.bx.now c.icmp.new.self c.in_err-holds.field-0.0 c.from_residual-in_err-holds.result c.from_residual-in_err-holds.ensures.1
    (fewer_many 4 4 0 0 4 5 0 0 c.args.bx.now c.icmp.new.self (Err c.in_err-holds.field-0.0) (omega arith) (omega arith) (omega arith) (omega arith)
    (then_many 3 3 0 0 1 1 0 0 c.args.bx.now c.emit_number.new.bx c.icmp.new.self c.in_ok-constant.constant (Err c.in_err-holds.field-0.0) c.in_ok-constant.ensures.most
    (value_many c.emit_number.new.bx c.icmp.new.self _ _ (Err c.in_err-holds.field-0.0) c.in_err-holds.ensures.built)))

pub returns-in_err-brif-clause-most : goal.returns-in_err-brif-clause-most
returns-in_err-brif-clause-most g c =
    adds_err {A = ℕ} (so_many 4 5 0 0) c.args.bx.now c.brif.new.self c.in_err-brif.field-0.0 c.from_residual-in_err-brif.result c.from_residual-in_err-brif.ensures.1
    (then_many 4 4 0 0 0 1 0 0 c.args.bx.now c.icmp.new.self c.brif.new.self c.in_ok-holds.holds (Err c.in_err-brif.field-0.0)
    (then_many 3 3 0 0 1 1 0 0 c.args.bx.now c.emit_number.new.bx c.icmp.new.self c.in_ok-constant.constant (Ok c.in_ok-holds.holds) c.in_ok-constant.ensures.most
    (value_many c.emit_number.new.bx c.icmp.new.self _ _ (Ok c.in_ok-holds.holds) c.in_ok-holds.ensures.built))
    (built_many c.icmp.new.self c.brif.new.self (shapes.brif_to c.in_ok-holds.holds c.args.taken [] c.args.other []) _ (Err c.in_err-brif.field-0.0) refl c.in_ok-holds.ensures.built.current c.in_err-brif.ensures.built))

pub returns-clause-most : goal.returns-clause-most
returns-clause-most g c =
    adds_ok (so_many 4 5 0 0) c.args.bx.now c.brif.new.self c.in_ok-brif.field-0 (tt {0})
    (then_many 4 4 0 0 0 1 0 0 c.args.bx.now c.icmp.new.self c.brif.new.self c.in_ok-holds.holds (Ok c.in_ok-brif.field-0)
    (then_many 3 3 0 0 1 1 0 0 c.args.bx.now c.emit_number.new.bx c.icmp.new.self c.in_ok-constant.constant (Ok c.in_ok-holds.holds) c.in_ok-constant.ensures.most
    (value_many c.emit_number.new.bx c.icmp.new.self _ _ (Ok c.in_ok-holds.holds) c.in_ok-holds.ensures.built))
    (built_many c.icmp.new.self c.brif.new.self (shapes.brif_to c.in_ok-holds.holds c.args.taken [] c.args.other []) _ (Ok c.in_ok-brif.field-0) refl c.in_ok-holds.ensures.built.current c.in_ok-brif.ensures.built))
