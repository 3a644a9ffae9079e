-- A block is created, a comparison built, and the branch.
use Rattle.std.proofs.Common.{◌≡◌, ◌<◌, ◌≤◌, ℕ, pos, suc, [], ◌∷◌, ◌++◌, length, map, refl, sym, ◌∙◌, arith}
use Rattle.std.specs.Prelude.{◌^◌, ◌-◌, Err, Ok}
use Rattle.clif_types.specs.declared.condcodes.IntCC.TheVariants.{UnsignedGreaterThan}
use Rattle.clif_inst_builder.specs.Shapes as shapes
use Rattle.clif_meaning.specs.Instruction.{Compare}
use Rattle.clif_meaning.specs.Name.{answer_of}
use Rattle.clif_meaning.specs.Request.{CreateBlock, Script}
use Rattle.clif_expansion.specs.Emission.{building}
use Rattle.clif_constant_calls.specs.Stands.{type_in}
use Rattle.clif_switch_calls.specs.SwitchCalls.{branching, i8, with_number, with_number_name}
use Rattle.clif_switch.specs.Emission.{next_place}
use Rattle.clif_switch.proofs.Blocks.{block_made, created_open, created_went, elsewhere, ends_by, ends_error, ends_then, open_on, with_constant_went}
use Rattle.clif_switch.proofs.Compared.{branch_made}
use Rattle.clif_switch.proofs.Emitted.{fails_then}
use Rattle.clif_switch.proofs.Indices.{small_made}
use Rattle.clif_switch.proofs.Names.{on_then}
use Rattle.clif_switch.proofs.Numbers.{held_is, one_after, small_plain, type_is, with_constant_gives}
use Rattle.clif_switch.proofs.Values.{went_then}
use Rattle.clif_builder.proofs.Adding.{adds_err, adds_ok}
use Rattle.clif_switch_calls.specs.SwitchSizes.{so_many}
use Rattle.clif_switch.proofs.Sized.{block_many, built_many, fewer_many, then_many, with_constant_many}
use Rattle.clif_switch.proofs.emission.check_index.Goals as goal

pub returns-in_err-is_greater-clause-ends : goal.returns-in_err-is_greater-clause-ends
returns-in_err-is_greater-clause-ends g c =
    let made = c.in_ok-block.ensures in
    let went = created_went c.args.bx.now c.create_block.new.self c.in_ok-block.block made.call made.variables made.function made.tracking made.goes_on.grows (λ x b. made.goes_on.remembers x b tt) made.sealed (made.goes_on.current c.requires.current) in
    let here : c.args.place < length c.create_block.new.self.func.now.values = let more = made.goes_on.grows.0 in let inside = c.requires.exists in omega (arith, more, inside) in
    let gives = with_constant_gives c.create_block.new.self c.icmp_imm_s.new.self (λ constant. shapes.int_compare UnsignedGreaterThan c.args.place constant) _ c.args.place _ i8 (Err c.in_err-is_greater.field-0.0)
    here refl (λ constant. refl) c.in_err-is_greater.ensures.built in
    fails_then 0 c.args.bx.now c.create_block.new.self c.icmp_imm_s.new.self c.from_residual-in_err-is_greater.result c.in_err-is_greater.field-0.0 went.steps gives.steps c.from_residual-in_err-is_greater.ensures.1

pub returns-in_err-brif-clause-ends : goal.returns-in_err-brif-clause-ends
returns-in_err-brif-clause-ends g c =
    let made = c.in_ok-block.ensures in
    let went = went_then c.args.bx.now c.create_block.new.self c.icmp_imm_s.new.self
    (created_went c.args.bx.now c.create_block.new.self c.in_ok-block.block made.call made.variables made.function made.tracking made.goes_on.grows (λ x b. made.goes_on.remembers x b tt) made.sealed (made.goes_on.current c.requires.current))
    (with_constant_went c.create_block.new.self c.icmp_imm_s.new.self _ _ c.args.place _ c.in_ok-is_greater.is_greater c.in_ok-is_greater.ensures.built) in
    ends_error 0 c.args.bx.now c.icmp_imm_s.new.self c.brif.new.self c.from_residual-in_err-brif.result c.in_err-brif.field-0.0 (shapes.brif_to c.in_ok-is_greater.is_greater c.args.switched.otherwise [] c.in_ok-block.block []) _ (omega arith) went c.in_err-brif.ensures.built c.from_residual-in_err-brif.ensures.1

pub returns-clause-ends : goal.returns-clause-ends
returns-clause-ends g c =
    let made = c.in_ok-block.ensures in
    let went = went_then c.args.bx.now c.create_block.new.self c.icmp_imm_s.new.self
    (created_went c.args.bx.now c.create_block.new.self c.in_ok-block.block made.call made.variables made.function made.tracking made.goes_on.grows (λ x b. made.goes_on.remembers x b tt) made.sealed (made.goes_on.current c.requires.current))
    (with_constant_went c.create_block.new.self c.icmp_imm_s.new.self _ _ c.args.place _ c.in_ok-is_greater.is_greater c.in_ok-is_greater.ensures.built) in
    ends_then 0 c.args.bx.now c.icmp_imm_s.new.self c.brif.new.self c.in_ok-block.block went
    (ends_by c.icmp_imm_s.new.self c.brif.new.self _ _ c.in_ok-brif.field-0 refl went.current c.in_ok-brif.ensures.built)

pub returns-clause-open : goal.returns-clause-open
returns-clause-open g c =
    let made = c.in_ok-block.ensures in
    let compared = with_constant_went c.create_block.new.self c.icmp_imm_s.new.self _ _ c.args.place _ c.in_ok-is_greater.is_greater c.in_ok-is_greater.ensures.built in
    let ends = ends_then 0 c.create_block.new.self c.icmp_imm_s.new.self c.brif.new.self c.in_ok-block.block compared
    (ends_by c.icmp_imm_s.new.self c.brif.new.self _ _ c.in_ok-brif.field-0 refl compared.current c.in_ok-brif.ensures.built) in
    let later : length c.args.bx.now.func.now.blocks ≤ c.in_ok-block.block = let same = made.number in omega (arith, same) in
    open_on c.create_block.new.self c.brif.new.self c.in_ok-block.block ends.steps.grows.2 ends.leaves (λ is. elsewhere c.args.bx.now c.in_ok-block.block c.requires.current later (sym made.call.position ∙ is))
    (created_open c.create_block.new.self c.in_ok-block.block made.exists made.untouched)

pub returns-clause-made : goal.returns-clause-made
returns-clause-made g c = λ signature calls s cases plain at x names.
    let reads = c.ledger_is_read_by_number.ensures in
    let asks = c.requests_ask_for_their_shapes.ensures in
    let made = c.in_ok-block.ensures in
    let place : ℕ = next_place calls plain in
    let one = block_made reads at c.create_block.new.self c.in_ok-block.block (made.told.stands signature (calls ++ at.added) at.stands tt) in
    let named = one.on.values_stay x c.args.place names in
    let compare : Script = map building (with_number (Compare UnsignedGreaterThan) s.ty (2 ^ 32 - 1) (suc place) x) in
    let branch : Script = branching i8 (with_number_name s.ty (2 ^ 32 - 1) (suc place)) s.otherwise (answer_of place 0) ∷ [] in
    let like : type_in c.create_block.new.self c.args.place ≡ s.ty = made.call.types c.args.place c.requires.exists ∙ c.requires.typed ∙ sym (type_is reads asks at ∙ c.requires.switched.typed) in
    let two = small_made reads asks one.on.later c.icmp_imm_s.new.self (Compare UnsignedGreaterThan) (λ y constant. shapes.int_compare UnsignedGreaterThan y constant) (c.constant_operands_stand.ensures.compares UnsignedGreaterThan)
    x c.args.place (2 ^ 32 - 1) (suc place) (pos 4294967295) (Ok c.in_ok-is_greater.is_greater) (one_after calls plain CreateBlock) refl (small_plain s.ty (2 ^ 32 - 1) refl) named like c.in_ok-is_greater.ensures.built in
    let here : c.args.place < length c.create_block.new.self.func.now.values = let more = made.goes_on.grows.0 in let inside = c.requires.exists in omega (arith, more, inside) in
    let gives = with_constant_gives c.create_block.new.self c.icmp_imm_s.new.self (λ constant. shapes.int_compare UnsignedGreaterThan c.args.place constant) _ c.args.place _ i8 (Ok c.in_ok-is_greater.is_greater)
    here refl (λ constant. refl) c.in_ok-is_greater.ensures.built in
    let three = branch_made reads asks two.on.later c.brif.new.self i8 (with_number_name s.ty (2 ^ 32 - 1) (suc place)) s.otherwise (answer_of place 0) c.in_ok-is_greater.is_greater c.args.switched.otherwise c.in_ok-block.block c.in_ok-brif.field-0
    two.named (held_is reads asks two.on.later (with_number_name s.ty (2 ^ 32 - 1) (suc place)) c.in_ok-is_greater.is_greater two.named ∙ gives.typed)
    two.on.later.otherwise_named (two.on.blocks_stay (answer_of place 0) c.in_ok-block.block one.named) c.in_ok-brif.ensures.built in
    record {
      on = on_then at (CreateBlock ∷ []) (compare ++ branch) c.brif.new.self one.on (on_then one.on.later compare branch c.brif.new.self two.on three);
      named = three.blocks_stay (answer_of place 0) c.in_ok-block.block (two.on.blocks_stay (answer_of place 0) c.in_ok-block.block one.named);
    }

-- SIZES -------------------------------------------------------------------------------------------------------------------

pub returns-in_err-block-clause-most : goal.returns-in_err-block-clause-most
returns-in_err-block-clause-most g c =
    let failed = c.in_err-block.ensures in
    adds_err {A = ℕ} (so_many 3 4 1 0) c.args.bx.now c.create_block.new.self c.in_err-block.field-0.0 c.from_residual.result c.from_residual.ensures.1
    (fewer_many 0 0 1 0 3 4 1 0 c.args.bx.now c.create_block.new.self (Err c.in_err-block.field-0.0) (omega arith) (omega arith) (omega arith) (omega arith) (block_many c.args.bx.now c.create_block.new.self (Err c.in_err-block.field-0.0) failed.call tt failed.full_stays))

pub returns-in_err-is_greater-clause-most : goal.returns-in_err-is_greater-clause-most
returns-in_err-is_greater-clause-most g c =
    let made = c.in_ok-block.ensures in
    adds_err {A = ℕ} (so_many 3 4 1 0) c.args.bx.now c.icmp_imm_s.new.self c.in_err-is_greater.field-0.0 c.from_residual-in_err-is_greater.result c.from_residual-in_err-is_greater.ensures.1
    (fewer_many 3 3 1 0 3 4 1 0 c.args.bx.now c.icmp_imm_s.new.self (Err c.in_err-is_greater.field-0.0) (omega arith) (omega arith) (omega arith) (omega arith)
    (then_many 0 0 1 0 3 3 0 0 c.args.bx.now c.create_block.new.self c.icmp_imm_s.new.self c.in_ok-block.block (Err c.in_err-is_greater.field-0.0) (block_many c.args.bx.now c.create_block.new.self (Ok c.in_ok-block.block) made.call made.function made.full_stays)
    (with_constant_many c.create_block.new.self c.icmp_imm_s.new.self (λ constant. shapes.int_compare UnsignedGreaterThan c.args.place constant) _ c.args.place _ (Err c.in_err-is_greater.field-0.0) c.in_err-is_greater.ensures.built)))

pub returns-in_err-brif-clause-most : goal.returns-in_err-brif-clause-most
returns-in_err-brif-clause-most g c =
    let made = c.in_ok-block.ensures in
    let compared = c.in_ok-is_greater.ensures.built in
    let went = with_constant_went c.create_block.new.self c.icmp_imm_s.new.self _ _ c.args.place _ c.in_ok-is_greater.is_greater compared in
    adds_err {A = ℕ} (so_many 3 4 1 0) c.args.bx.now c.brif.new.self c.in_err-brif.field-0.0 c.from_residual-in_err-brif.result c.from_residual-in_err-brif.ensures.1
    (then_many 3 3 1 0 0 1 0 0 c.args.bx.now c.icmp_imm_s.new.self c.brif.new.self c.in_ok-is_greater.is_greater (Err c.in_err-brif.field-0.0)
    (then_many 0 0 1 0 3 3 0 0 c.args.bx.now c.create_block.new.self c.icmp_imm_s.new.self c.in_ok-block.block (Ok c.in_ok-is_greater.is_greater) (block_many c.args.bx.now c.create_block.new.self (Ok c.in_ok-block.block) made.call made.function made.full_stays)
    (with_constant_many c.create_block.new.self c.icmp_imm_s.new.self (λ constant. shapes.int_compare UnsignedGreaterThan c.args.place constant) _ c.args.place _ (Ok c.in_ok-is_greater.is_greater) compared))
    (built_many c.icmp_imm_s.new.self c.brif.new.self (shapes.brif_to c.in_ok-is_greater.is_greater c.args.switched.otherwise [] c.in_ok-block.block []) _ (Err c.in_err-brif.field-0.0) refl went.current c.in_err-brif.ensures.built))

pub returns-clause-most : goal.returns-clause-most
returns-clause-most g c =
    let made = c.in_ok-block.ensures in
    let compared = c.in_ok-is_greater.ensures.built in
    let went = with_constant_went c.create_block.new.self c.icmp_imm_s.new.self _ _ c.args.place _ c.in_ok-is_greater.is_greater compared in
    adds_ok (so_many 3 4 1 0) c.args.bx.now c.brif.new.self c.in_ok-brif.field-0 c.in_ok-block.block
    (then_many 3 3 1 0 0 1 0 0 c.args.bx.now c.icmp_imm_s.new.self c.brif.new.self c.in_ok-is_greater.is_greater (Ok c.in_ok-brif.field-0)
    (then_many 0 0 1 0 3 3 0 0 c.args.bx.now c.create_block.new.self c.icmp_imm_s.new.self c.in_ok-block.block (Ok c.in_ok-is_greater.is_greater) (block_many c.args.bx.now c.create_block.new.self (Ok c.in_ok-block.block) made.call made.function made.full_stays)
    (with_constant_many c.create_block.new.self c.icmp_imm_s.new.self (λ constant. shapes.int_compare UnsignedGreaterThan c.args.place constant) _ c.args.place _ (Ok c.in_ok-is_greater.is_greater) compared))
    (built_many c.icmp_imm_s.new.self c.brif.new.self (shapes.brif_to c.in_ok-is_greater.is_greater c.args.switched.otherwise [] c.in_ok-block.block []) _ (Ok c.in_ok-brif.field-0) refl went.current c.in_ok-brif.ensures.built))
