use Rattle.std.proofs.Common.{◌≡◌, ◌∙◌, ◌<◌, ◌+◌, List, length, get_or, sym, ap, subst, arith}
use Rattle.clif_instructions.specs.Edges.{edge_at, no_edge}
use Rattle.clif_instructions.specs.Instruction.{destinations}
use Rattle.clif_instructions.specs.declared.block_call.BlockArg.{BlockArg}
use Rattle.clif_instructions.specs.declared.block_call.BlockCall.{BlockCall}
use Rattle.clif_nodes.specs.declared.nodes.InstNode.{InstNode}
use Rattle.clif_ir.specs.Body.{Body, inst_at}
use Rattle.clif_stack_slots.specs.declared.slots.StackSlots.{StackSlots}
use Rattle.clif_spiller.proofs.Keeping.{plan_stays}
use Rattle.clif_spiller.specs.Acting.{args_of}
use Rattle.clif_spiller.proofs.Passing.{PassesOn, all_passed, all_passed_by, edge_read, is_own, none_passed_yet, passes_next, passes_own}
use Rattle.clif_spiller.proofs.Reading.{Inserts, read_inserts}
use Rattle.clif_spiller.proofs.Shapes.{get_or_inside}
use Rattle.clif_spiller.proofs.uses.reload_arguments.Goals as goal
use Rattle.clif_spiller.proofs.uses.reload_arguments.Goals.{In_ok-value, in-Value+in_ok-value, in_default}

pub loop-place-init : goal.loop-place-init
loop-place-init c = none_passed_yet c.args.plan.now c.args.func.now c.args.slots.now c.args.inst c.args.edge c.requires.slots

pub read-requires-clause-plan : goal.read-requires-clause-plan
read-requires-clause-plan c =
    plan_stays (length c.args.func.now.blocks) c.args.func.now c.loop-place.func c.loop-place.invariant.goes.keeps c.args.plan.now c.requires.plan

inserts : (c : In_ok-value) → Inserts c.loop-place.func c.loop-place.slots c.read.new.func c.read.new.slots
inserts c =
    read_inserts c.args.plan.now c.args.inst _ c.loop-place.func c.loop-place.slots c.read.new.func c.read.new.slots c.in_ok-value.value
    (plan_stays (length c.args.func.now.blocks) c.args.func.now c.loop-place.func c.loop-place.invariant.goes.keeps c.args.plan.now c.requires.plan)
    c.loop-place.invariant.goes.slots c.in_ok-value.ensures.ok

-- how many arguments the edge has
counted : (c : In_ok-value) → length c.as_slice-count.result.now ≡ length (edge_at (destinations (inst_at c.args.func.now c.args.inst).shape) c.args.edge).args
counted c =
    let edges : List BlockCall = destinations (inst_at c.args.func.now c.args.inst).shape in
    let call : BlockCall = c.index-branch_destination-edge.result in
    ap (λ (xs : List BlockArg). length xs) c.as_slice-count.ensures
    ∙ ap (λ (x : BlockCall). length x.args)
    (ap (λ (xs : List BlockCall). get_or xs c.args.edge call) (c.branch_destination.ensures ∙ ap destinations c.inst_data.ensures.exact)
    ∙ get_or_inside edges c.args.edge call no_edge c.requires.edge_exists)

-- the instruction after the read
was : (c : In_ok-value) → inst_at c.read.new.func c.args.inst ≡ inst_at c.loop-place.func c.args.inst
was c = (inserts c).nodes c.args.inst (omega (arith, c.requires.inst_exists, c.loop-place.invariant.goes.keeps.insts))

pub replace_branch_argument-requires-clause-inst_exists : goal.replace_branch_argument-requires-clause-inst_exists
replace_branch_argument-requires-clause-inst_exists c =
    let step = inserts (goal.at.replace_branch_argument-requires-clause-inst_exists c).In_ok-value in
    omega (arith, c.requires.inst_exists, c.loop-place.invariant.goes.keeps.insts, (step.goes 0).keeps.insts)

pub replace_branch_argument-requires-clause-edge_exists : goal.replace_branch_argument-requires-clause-edge_exists
replace_branch_argument-requires-clause-edge_exists c =
    subst (λ (m : InstNode). c.args.edge < length (destinations m.shape)) (sym (was (goal.at.replace_branch_argument-requires-clause-edge_exists c).In_ok-value))
    (omega (arith, c.requires.edge_exists, c.loop-place.invariant.edges))

pub replace_branch_argument-requires-clause-place_exists : goal.replace_branch_argument-requires-clause-place_exists
replace_branch_argument-requires-clause-place_exists c =
    let now = (goal.at.replace_branch_argument-requires-clause-place_exists c).In_ok-value in
    subst (λ (m : InstNode). c.loop-place.place < length (edge_at (destinations m.shape) c.args.edge).args) (sym (was now))
    (omega (arith, c.loop-place-test.true, c.loop-place.auto.place-end, c.loop-place.invariant.args, counted now))

pub replace_branch_argument-requires-clause-value_exists : goal.replace_branch_argument-requires-clause-value_exists
replace_branch_argument-requires-clause-value_exists c = c.in_ok-value.ensures.exists

pub loop-place-preserved : goal.loop-place-preserved
loop-place-preserved c =
    let f : Body = c.args.func.now in
    let a : StackSlots = c.args.slots.now in
    let passed : BlockArg = c.index-as_slice-place.result in
    let count : length c.as_slice-count.result.now ≡ length (args_of f c.args.inst c.args.edge) =
    ap (λ (xs : List BlockArg). length xs) (edge_read c.branch_destination.result.now (destinations (inst_at f c.args.inst).shape) c.args.edge c.index-branch_destination-edge.result
    c.as_slice-count.result.now (c.branch_destination.ensures ∙ ap destinations c.inst_data.ensures.exact) c.requires.edge_exists c.as_slice-count.ensures) in
    let inside : c.loop-place.place < length (args_of f c.args.inst c.args.edge) = omega (arith, c.loop-place-test.true, count) in
    let passed_is : passed ≡ get_or (args_of c.loop-place.func c.args.inst c.args.edge) c.loop-place.place passed =
    c.index-as_slice-place.is
    ∙ ap (λ (xs : List BlockArg). get_or xs c.loop-place.place passed)
    (edge_read c.branch_destination-in-loop-place.result.now (destinations (inst_at c.loop-place.func c.args.inst).shape) c.args.edge c.index-branch_destination-edge-in-loop-place.result
    c.as_slice.result.now (c.branch_destination-in-loop-place.ensures ∙ ap destinations c.inst_data-in-loop-place.ensures.exact)
    (omega (arith, c.requires.edge_exists, c.loop-place.invariant.edges)) c.as_slice.ensures) in
    elim c.match-arg.branch [
      | in-Value+in_ok-value w ↦
          subst (λ (g : Body). PassesOn c.args.plan.now f a c.args.inst c.args.edge (c.loop-place.place + 1) g c.match-arg.slots) (sym w.func-is)
          (subst (λ (b : StackSlots). PassesOn c.args.plan.now f a c.args.inst c.args.edge (c.loop-place.place + 1) w.replace_branch_argument.new.self b) (sym w.slots-is)
          (passes_next c.args.plan.now f a c.args.inst c.args.edge c.loop-place.place c.law_consistent.ensures c.requires.inst_exists c.requires.plan c.requires.edge_exists inside
          c.loop-place.func c.loop-place.slots c.loop-place.invariant passed passed_is w.in-Value.operand w.in-Value.is w.read.new.func w.read.new.slots w.in_ok-value.value
          w.in_ok-value.ensures.ok w.replace_branch_argument.new.self w.replace_branch_argument.ensures))
      | in_default w ↦
          subst (λ (g : Body). PassesOn c.args.plan.now f a c.args.inst c.args.edge (c.loop-place.place + 1) g c.match-arg.slots) (sym w.func-is)
          (subst (λ (b : StackSlots). PassesOn c.args.plan.now f a c.args.inst c.args.edge (c.loop-place.place + 1) c.loop-place.func b) (sym w.slots-is)
          (passes_own c.args.plan.now f a c.args.inst c.args.edge c.loop-place.place c.law_consistent.ensures c.requires.inst_exists c.requires.plan c.requires.edge_exists inside
          c.loop-place.func c.loop-place.slots c.loop-place.invariant passed passed_is (is_own passed w.in_default.not-Value)))
    ]

pub returns-clause-others : goal.returns-clause-others
returns-clause-others c = c.loop-place.invariant.others

pub returns-clause-acts : goal.returns-clause-acts
returns-clause-acts c =
    let f : Body = c.args.func.now in
    let count : length c.as_slice-count.result.now ≡ length (args_of f c.args.inst c.args.edge) =
    ap (λ (xs : List BlockArg). length xs) (edge_read c.branch_destination.result.now (destinations (inst_at f c.args.inst).shape) c.args.edge c.index-branch_destination-edge.result
    c.as_slice-count.result.now (c.branch_destination.ensures ∙ ap destinations c.inst_data.ensures.exact) c.requires.edge_exists c.as_slice-count.ensures) in
    all_passed c.args.plan.now f c.args.slots.now c.args.inst c.args.edge c.loop-place.place c.loop-place.func c.loop-place.slots
    (omega (arith, c.loop-place-test.false, count)) c.loop-place.invariant

pub returns-clause-reads : goal.returns-clause-reads
returns-clause-reads c =
    let f : Body = c.args.func.now in
    let count : length c.as_slice-count.result.now ≡ length (args_of f c.args.inst c.args.edge) =
    ap (λ (xs : List BlockArg). length xs) (edge_read c.branch_destination.result.now (destinations (inst_at f c.args.inst).shape) c.args.edge c.index-branch_destination-edge.result
    c.as_slice-count.result.now (c.branch_destination.ensures ∙ ap destinations c.inst_data.ensures.exact) c.requires.edge_exists c.as_slice-count.ensures) in
    all_passed_by c.args.plan.now f c.args.slots.now c.args.inst c.args.edge c.loop-place.place c.loop-place.func c.loop-place.slots
    (omega (arith, c.loop-place-test.false, count)) c.loop-place.invariant
