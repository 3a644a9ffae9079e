use Rattle.std.proofs.Common.{◌≡◌, ◌∙◌, ◌<◌, ℕ, List, length, get_or, sym, ap, subst, arith}
use Rattle.clif_instructions.specs.Instruction.{operands}
use Rattle.clif_nodes.specs.declared.nodes.InstNode.{InstNode}
use Rattle.clif_ir.specs.Body.{inst_at}
use Rattle.clif_instructions.specs.declared.instructions.InstructionData.{InstructionData}
use Rattle.clif_spiller.proofs.Keeping.{plan_stays}
use Rattle.clif_spiller.proofs.Operands.{all_operands, all_reread, next_operand, no_operand_yet}
use Rattle.clif_spiller.proofs.Reading.{Inserts, read_inserts}
use Rattle.clif_spiller.proofs.uses.reload_operands.Goals as goal
use Rattle.clif_spiller.proofs.uses.reload_operands.Goals.{After-loop-place, In_ok-value}

pub loop-place-init : goal.loop-place-init
loop-place-init c = no_operand_yet c.args.plan.now c.args.func.now c.args.slots.now c.args.inst c.requires.slots

pub read-requires-clause-plan : goal.read-requires-clause-plan
read-requires-clause-plan c =
    plan_stays (length c.args.func.now.blocks) c.args.func.now c.loop-place.func c.loop-place.invariant.goes.keeps c.args.plan.now c.requires.plan

inserts : (c : In_ok-value) → Inserts c.loop-place.func c.loop-place.slots c.read.new.func c.read.new.slots
inserts c =
    read_inserts c.args.plan.now c.args.inst _ c.loop-place.func c.loop-place.slots c.read.new.func c.read.new.slots c.in_ok-value.value
    (plan_stays (length c.args.func.now.blocks) c.args.func.now c.loop-place.func c.loop-place.invariant.goes.keeps c.args.plan.now c.requires.plan)
    c.loop-place.invariant.goes.slots c.in_ok-value.ensures.ok

-- the instruction is there, and as it was before the read
there : (c : In_ok-value) → c.args.inst < length c.loop-place.func.insts
there c = omega (arith, c.requires.inst_exists, c.loop-place.invariant.goes.keeps.insts)

same : (c : In_ok-value) → inst_at c.read.new.func c.args.inst ≡ inst_at c.loop-place.func c.args.inst
same c = (inserts c).nodes c.args.inst (there c)

exists : (c : In_ok-value) → c.args.inst < length c.read.new.func.insts
exists c = omega (arith, there c, ((inserts c).goes 0).keeps.insts)

pub replace_operand-requires-clause-inst_exists : goal.replace_operand-requires-clause-inst_exists
replace_operand-requires-clause-inst_exists c = exists (goal.at.replace_operand-requires-clause-inst_exists c).In_ok-value

pub replace_operand-requires-clause-place_exists : goal.replace_operand-requires-clause-place_exists
replace_operand-requires-clause-place_exists c =
    let now_c = (goal.at.replace_operand-requires-clause-place_exists c).In_ok-value in
    subst (λ (m : InstNode). c.loop-place.place < length (operands m.shape)) (sym (same now_c))
    (omega (arith, c.loop-place-test.true, c.loop-place.auto.place-end, c.loop-place.invariant.count, ap (λ (xs : List ℕ). length xs) c.arguments-place-end.ensures, ap (λ (s : InstructionData). length (operands s)) c.inst_data.ensures.exact))

pub replace_operand-requires-clause-value_exists : goal.replace_operand-requires-clause-value_exists
replace_operand-requires-clause-value_exists c = c.in_ok-value.ensures.exists

-- how many operands there are
counted : (c : After-loop-place) → length c.arguments-place-end.result.now ≡ length (operands (inst_at c.args.func.now c.args.inst).shape)
counted c = ap (λ (xs : List ℕ). length xs) c.arguments-place-end.ensures ∙ ap (λ (s : InstructionData). length (operands s)) c.inst_data.ensures.exact

pub loop-place-preserved : goal.loop-place-preserved
loop-place-preserved c =
    let inside : c.loop-place.place < length (operands (inst_at c.args.func.now c.args.inst).shape) =
    omega (arith, c.loop-place-test.true, ap (λ (xs : List ℕ). length xs) c.arguments-place-end.ensures, ap (λ (s : InstructionData). length (operands s)) c.inst_data.ensures.exact) in
    let operand : ℕ = c.index-arguments-place.result in
    let operand_is : operand ≡ get_or (operands (inst_at c.loop-place.func c.args.inst).shape) c.loop-place.place operand =
    c.index-arguments-place.is
    ∙ ap (λ (xs : List ℕ). get_or xs c.loop-place.place operand) (c.arguments.ensures ∙ ap operands c.inst_data-in-loop-place.ensures.exact) in
    next_operand c.args.plan.now c.args.func.now c.args.slots.now c.args.inst c.loop-place.place c.law_consistent.ensures c.requires.inst_exists c.requires.plan inside
    c.loop-place.func c.loop-place.slots c.loop-place.invariant operand operand_is c.read.new.func c.read.new.slots c.in_ok-value.value c.in_ok-value.ensures.ok
    c.replace_operand.new.self c.replace_operand.ensures

pub returns-clause-acts : goal.returns-clause-acts
returns-clause-acts c =
    all_operands c.args.plan.now c.args.func.now c.args.slots.now c.args.inst c.loop-place.place c.loop-place.func c.loop-place.slots
    (omega (arith, c.loop-place-test.false, counted (goal.at.returns-clause-acts c).After-loop-place)) c.loop-place.invariant

pub returns-clause-reads : goal.returns-clause-reads
returns-clause-reads c =
    all_reread c.args.plan.now c.args.func.now c.args.slots.now c.args.inst c.loop-place.place c.loop-place.func c.loop-place.slots
    (omega (arith, c.loop-place-test.false, counted (goal.at.returns-clause-reads c).After-loop-place)) c.loop-place.invariant
