use Rattle.std.proofs.Common.{◌≡◌, ◌∙◌, ◌<◌, ◌+◌, ℕ, List, length, get_or, take, refl, sym, ap, subst, arith}
use Rattle.std.specs.Prelude.{All}
use Rattle.std.proofs.lemmas.List.Elements.{All-nil}
use Rattle.clif_nodes.specs.declared.nodes.InstNode.{InstNode}
use Rattle.clif_nodes.specs.Nodes.{no_inst}
use Rattle.clif_instructions.specs.Instruction.{with_argument}
use Rattle.clif_ir.specs.Body.{Body, inst_at}
use Rattle.clif_spiller.specs.Keeping.{Keeps}
use Rattle.clif_spiller.specs.Plans.{OwnArgument}
use Rattle.clif_spiller.proofs.Keeping.{at_set_or_not, goes_beside, goes_on_refl, goes_on_trans, plan_stays, with_shape_keeps}
use Rattle.std.proofs.lemmas.List.{take_all}
use Rattle.clif_instructions.specs.Edges.{edge_at, no_edge}
use Rattle.clif_instructions.specs.Instruction.{destinations}
use Rattle.clif_instructions.specs.declared.block_call.BlockArg.{BlockArg}
use Rattle.clif_instructions.specs.declared.instructions.InstructionData.{InstructionData}
use Rattle.clif_spiller.specs.Acting.{Acts, args_of, needs, no_argument, passed_value, passed_values}
use Rattle.clif_spiller.proofs.Passing.{edge_read}
use Rattle.clif_spiller.proofs.Acting.{acts_nothing}
use Rattle.clif_spiller.proofs.Landed.{landed_next}
use Rattle.clif_spiller.specs.Text.{LandsArgument, LandsArguments}
use Rattle.clif_spiller.proofs.Text.Rows.{next_row, no_row_yet}
use Rattle.clif_spiller.proofs.landing.land_arguments.Goals as goal

pub loop-place-init : goal.loop-place-init
loop-place-init c = (
  goes_on_refl c.args.landing.now.block c.args.func.now c.args.slots.now c.requires.slots,
  refl,
  refl,
  subst (All OwnArgument) (sym c.new-own.ensures) (All-nil OwnArgument),
  acts_nothing c.args.plan.now c.args.landing.now.jump c.args.func.now c.args.slots.now,
  no_row_yet c.args.plan.now c.args.landing.now.block c.args.landing.now.jump c.args.landing.now.target (inst_at c.args.func.now c.args.inst).shape c.args.func.now c.args.slots.now _ c.new-own.ensures,
)

pub land_argument-requires-clause-plan : goal.land_argument-requires-clause-plan
land_argument-requires-clause-plan c =
    plan_stays c.args.landing.now.block c.args.func.now c.loop-place.func c.loop-place.invariant.0.keeps c.args.plan.now c.requires.plan

pub loop-place-preserved : goal.loop-place-preserved
loop-place-preserved c =
    let n : ℕ = c.args.landing.now.block in
    let g : Body = c.land_argument.new.func in
    let h : Body = c.append_branch_argument.new.self in
    let made = c.in_ok-append_branch_argument.ensures.ok in
    let there : c.args.inst < length c.loop-place.func.insts = omega (arith, c.requires.inst_exists, c.loop-place.invariant.0.keeps.insts) in
    let same : (inst_at g c.args.inst).shape ≡ (inst_at c.loop-place.func c.args.inst).shape = ap (λ (m : InstNode). m.shape) (c.in_ok-value.ensures.nodes c.args.inst there) in
    let inside : c.loop-place.place < length (args_of c.args.func.now c.args.inst c.args.edge) =
    omega (
      arith,
      c.loop-place-test.true,
      ap (λ (xs : List BlockArg). length xs) (edge_read c.branch_destination.result.now
          (destinations (inst_at c.args.func.now c.args.inst).shape) c.args.edge c.index-branch_destination-edge.result c.as_slice-count.result.now
          (c.branch_destination.ensures ∙ ap destinations c.inst_data.ensures.exact) c.requires.edge_exists c.as_slice-count.ensures),
    ) in
    let now_acts = subst (λ (shape : InstructionData). Acts c.args.plan.now c.args.landing.now.jump c.loop-place.func c.loop-place.slots g c.land_argument.new.slots
    (needs c.args.plan.now (passed_value c.loop-place.func (get_or (edge_at (destinations shape) c.args.edge).args c.loop-place.place no_argument))))
    c.loop-place.invariant.1 c.in_ok-value.ensures.acts in (
      goes_on_trans n c.args.func.now c.args.slots.now g c.land_argument.new.slots h c.land_argument.new.slots
          (goes_on_trans n c.args.func.now c.args.slots.now c.loop-place.func c.loop-place.slots g c.land_argument.new.slots c.loop-place.invariant.0 c.in_ok-value.ensures.ok)
          (goes_beside n g c.land_argument.new.slots h c.in_ok-value.ensures.ok.slots
          (subst (Keeps n g) (sym made) (with_shape_keeps n g c.args.landing.now.jump (with_argument c.args.landing.now.target c.in_ok-value.value (inst_at g c.args.landing.now.jump).shape)))),
      ap (λ (x : Body). (inst_at x c.args.inst).shape) made
          ∙ at_set_or_not (λ (m : InstNode). m.shape ≡ (inst_at g c.args.inst).shape) g.insts c.args.landing.now.jump _ c.args.inst no_inst (λ is. absurd (c.requires.apart is)) refl
          ∙ same ∙ c.loop-place.invariant.1,
      ap (λ (x : Body). x.layout) made ∙ c.in_ok-value.ensures.layout ∙ c.loop-place.invariant.2,
      c.in_ok-value.ensures.own,
      subst (λ (x : Body). Acts c.args.plan.now c.args.landing.now.jump c.args.func.now c.args.slots.now x c.land_argument.new.slots
          (needs c.args.plan.now (passed_values c.args.func.now (take (c.loop-place.place + 1) (args_of c.args.func.now c.args.inst c.args.edge))))) (sym made)
          (landed_next c.args.plan.now c.args.landing.now.jump n c.args.func.now c.args.slots.now (args_of c.args.func.now c.args.inst c.args.edge) c.loop-place.place
          c.loop-place.func c.loop-place.slots g c.land_argument.new.slots _ c.law_consistent.ensures c.requires.jump_exists c.loop-place.invariant.0.keeps c.in_ok-value.ensures.ok.keeps inside
          (c.law_consistent.ensures.edges_exist c.args.inst c.args.edge no_edge c.requires.edge_exists).1 c.loop-place.invariant.4 now_acts),
      subst (λ (x : Body). LandsArguments c.args.plan.now c.args.landing.now.block c.args.landing.now.jump c.args.landing.now.target (inst_at c.args.func.now c.args.inst).shape
          c.args.func.now c.args.slots.now x c.land_argument.new.slots (take (c.loop-place.place + 1) (args_of c.args.func.now c.args.inst c.args.edge)) c.land_argument.new.own) (sym made)
          (next_row c.args.plan.now c.args.landing.now.block c.args.landing.now.jump c.args.landing.now.target n (inst_at c.args.func.now c.args.inst).shape c.args.func.now c.args.slots.now
          c.loop-place.func c.loop-place.slots g c.land_argument.new.slots (args_of c.args.func.now c.args.inst c.args.edge) c.loop-place.place c.loop-place.own c.land_argument.new.own
          c.in_ok-value.value c.law_consistent.ensures c.requires.jump_exists c.requires.block_exists inside
          (c.law_consistent.ensures.edges_exist c.args.inst c.args.edge no_edge c.requires.edge_exists).1
          c.loop-place.invariant.0.keeps c.in_ok-value.ensures.ok.keeps c.in_ok-value.ensures.nodes
          (λ i. c.in_ok-value.ensures.acts.maps i) c.loop-place.invariant.5
          (subst (λ (shape : InstructionData). LandsArgument c.args.plan.now c.args.landing.now.block c.args.landing.now.jump shape c.loop-place.func c.loop-place.slots g c.land_argument.new.slots
          (get_or (edge_at (destinations shape) c.args.edge).args c.loop-place.place no_argument) c.loop-place.own c.land_argument.new.own c.in_ok-value.value)
          c.loop-place.invariant.1 c.in_ok-value.ensures.row)),
    )

pub returns-clause-acts : goal.returns-clause-acts
returns-clause-acts c =
    let args : List BlockArg = args_of c.args.func.now c.args.inst c.args.edge in
    let count : length c.as_slice-count.result.now ≡ length args =
    ap (λ (xs : List BlockArg). length xs) (edge_read c.branch_destination.result.now
    (destinations (inst_at c.args.func.now c.args.inst).shape) c.args.edge c.index-branch_destination-edge.result c.as_slice-count.result.now
    (c.branch_destination.ensures ∙ ap destinations c.inst_data.ensures.exact) c.requires.edge_exists c.as_slice-count.ensures) in
    subst (λ (xs : List BlockArg). Acts c.args.plan.now c.args.landing.now.jump c.args.func.now c.args.slots.now c.loop-place.func c.loop-place.slots
    (needs c.args.plan.now (passed_values c.args.func.now xs))) (take_all c.loop-place.place args (omega (arith, c.loop-place-test.false, count))) c.loop-place.invariant.4

pub returns-clause-rows : goal.returns-clause-rows
returns-clause-rows c =
    let args : List BlockArg = args_of c.args.func.now c.args.inst c.args.edge in
    let count : length c.as_slice-count.result.now ≡ length args =
    ap (λ (xs : List BlockArg). length xs) (edge_read c.branch_destination.result.now
    (destinations (inst_at c.args.func.now c.args.inst).shape) c.args.edge c.index-branch_destination-edge.result c.as_slice-count.result.now
    (c.branch_destination.ensures ∙ ap destinations c.inst_data.ensures.exact) c.requires.edge_exists c.as_slice-count.ensures) in
    subst (λ (xs : List BlockArg). LandsArguments c.args.plan.now c.args.landing.now.block c.args.landing.now.jump c.args.landing.now.target (inst_at c.args.func.now c.args.inst).shape
    c.args.func.now c.args.slots.now c.loop-place.func c.loop-place.slots xs c.loop-place.own) (take_all c.loop-place.place args (omega (arith, c.loop-place-test.false, count))) c.loop-place.invariant.5
