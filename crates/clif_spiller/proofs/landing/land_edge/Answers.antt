use Rattle.std.proofs.Common.{◌≡◌, ◌∙◌, ◌<◌, ◌++◌, ℕ, List, [], ◌∷◌, length, get_or, sym, ap, subst, arith}
use Rattle.std.specs.Prelude.{slice_index_or}
use Rattle.clif_instructions.specs.declared.block_call.BlockArg.{BlockArg}
use Rattle.clif_instructions.specs.declared.block_call.BlockCall.{BlockCall}
use Rattle.clif_nodes.specs.declared.nodes.InstNode.{InstNode}
use Rattle.clif_nodes.specs.Nodes.{no_inst}
use Rattle.clif_instructions.specs.Instruction.{destinations, with_edge}
use Rattle.clif_ir.specs.Body.{Body, inst_at}
use Rattle.clif_instructions.specs.Members.{Stands}
use Rattle.clif_spiller.specs.Acting.{args_of, needs, passed_values}
use Rattle.clif_spiller.specs.Keeping.{Keeps}
use Rattle.clif_spiller.proofs.Passing.{edge_read}
use Rattle.clif_spiller.specs.Plans.{GoesOn}
use Rattle.clif_spiller.proofs.Keeping.{goes_beside, goes_on_refl, goes_on_trans, keeps_fewer, keeps_trans, plan_stays, slots_stay, with_shape_keeps}
use Rattle.clif_spiller.proofs.Landed.{lands, stays_straight}
use Rattle.clif_spiller.proofs.Shapes.{get_or_inside}
use Rattle.clif_instructions.specs.Edges.{edge_at, no_edge}
use Rattle.clif_spiller.specs.Text.{LandsArguments, LeadsOne}
use Rattle.clif_spiller.proofs.Text.Leading.{leads_landed, leads_straight}
use Rattle.clif_spiller.proofs.landing.land_edge.Goals as goal
use Rattle.clif_spiller.proofs.landing.land_edge.Goals.{After-as_slice, In_ok-jump}

pub returns-then-not-passes_spilled-clause-ok : goal.returns-then-not-passes_spilled-clause-ok
returns-then-not-passes_spilled-clause-ok c = goes_on_refl (length c.args.func.now.blocks) c.args.func.now c.args.slots.now c.requires.slots

-- a block is made, and its jump
made : (c : In_ok-jump) → Keeps (length c.args.func.now.blocks) c.args.func.now c.insert_jump.new.func
made c =
    let n : ℕ = length c.args.func.now.blocks in
    keeps_trans n c.args.func.now c.make_landing.new.func c.insert_jump.new.func c.in_ok-block.ensures.ok
    (keeps_fewer n (length c.make_landing.new.func.blocks) c.make_landing.new.func c.insert_jump.new.func c.in_ok-block.ensures.ok.blocks c.in_ok-jump.ensures.ok)

pub land_arguments-requires-clause-plan : goal.land_arguments-requires-clause-plan
land_arguments-requires-clause-plan c =
    plan_stays (length c.args.func.now.blocks) c.args.func.now c.insert_jump.new.func (made (goal.at.land_arguments-requires-clause-plan c).In_ok-jump) c.args.plan.now c.requires.plan

pub land_arguments-requires-clause-slots : goal.land_arguments-requires-clause-slots
land_arguments-requires-clause-slots c =
    slots_stay (length c.args.func.now.blocks) c.args.func.now c.insert_jump.new.func (made (goal.at.land_arguments-requires-clause-slots c).In_ok-jump) c.args.slots.now c.requires.slots

pub returns-clause-ok : goal.returns-clause-ok
returns-clause-ok c =
    let n : ℕ = length c.args.func.now.blocks in
    let f : Body = c.args.func.now in
    let j : Body = c.insert_jump.new.func in
    let l : Body = c.land_arguments.new.func in
    let landed : GoesOn n j c.args.slots.now l c.land_arguments.new.slots =
    subst (λ count. GoesOn count j c.args.slots.now l c.land_arguments.new.slots) c.in_ok-block.ensures.number c.in_ok-args.ensures.ok in
    goes_on_trans n f c.args.slots.now l c.land_arguments.new.slots c.replace_edge.new.self c.land_arguments.new.slots
    (goes_on_trans n f c.args.slots.now j c.args.slots.now l c.land_arguments.new.slots
    (goes_beside n f c.args.slots.now j c.requires.slots (made (goal.at.returns-clause-ok c).In_ok-jump)) landed)
    (goes_beside n l c.land_arguments.new.slots c.replace_edge.new.self landed.slots
    (subst (Keeps n l) (sym c.replace_edge.ensures) (with_shape_keeps n l c.args.inst (with_edge c.args.edge _ (inst_at l c.args.inst).shape))))

-- what the arguments are
args_are : (c : After-as_slice) → c.as_slice.result.now ≡ args_of c.args.func.now c.args.inst c.args.edge
args_are c =
    edge_read c.branch_destination.result.now (destinations (inst_at c.args.func.now c.args.inst).shape) c.args.edge c.index-branch_destination-edge.result
    c.as_slice.result.now (c.branch_destination.ensures ∙ ap destinations c.inst_data.ensures.exact) c.requires.edge_exists
    (c.as_slice.ensures ∙ ap (λ (x : BlockCall). x.args) c.index-branch_destination-edge.is)

pub returns-then-not-passes_spilled-clause-lands : goal.returns-then-not-passes_spilled-clause-lands
returns-then-not-passes_spilled-clause-lands c = stays_straight c.args.plan.now c.args.inst c.args.edge c.args.func.now c.args.slots.now
    (ap (λ (xs : List BlockArg). needs c.args.plan.now (passed_values c.args.func.now xs)) (sym (args_are (goal.at.returns-then-not-passes_spilled-clause-lands c).After-as_slice))
    ∙ c.passes_spilled.ensures.none c.if-not-passes_spilled.true)

pub returns-clause-lands : goal.returns-clause-lands
returns-clause-lands c =
    let f : Body = c.args.func.now in
    let j : Body = c.insert_jump.new.func in
    let number : c.in_ok-jump.jump ≡ length f.insts = c.in_ok-jump.ensures.number ∙ ap (λ (xs : List InstNode). length xs) c.in_ok-block.ensures.insts in
    lands c.args.plan.now c.args.inst c.args.edge c.in_ok-jump.jump f c.args.slots.now j c.land_arguments.new.func c.land_arguments.new.slots c.replace_edge.new.self
    (length f.blocks) c.in_ok-block.block (record { block = c.in_ok-block.block; args = c.in_ok-args.args }) c.law_consistent.ensures c.requires.inst_exists c.requires.edge_exists
    (λ same. absurd (omega (arith, same, number, c.requires.inst_exists))) (omega (arith, number)) (made (goal.at.returns-clause-lands c).In_ok-jump)
    (c.in_ok-jump.ensures.tables ∙ c.in_ok-block.ensures.tables)
    (λ i below.
    c.in_ok-jump.ensures.nodes i (subst (λ (xs : List InstNode). i < length xs) (sym c.in_ok-block.ensures.insts) below)
    ∙ ap (λ (xs : List InstNode). slice_index_or xs i no_inst) c.in_ok-block.ensures.insts)
    (λ d below.
    c.in_ok-jump.ensures.lists d (λ same. absurd (omega (arith, same, below, c.in_ok-block.ensures.number))) ∙ c.in_ok-block.ensures.lists d below)
    (λ d below stands. c.in_ok-block.ensures.layout d below (subst (Stands d) c.in_ok-jump.ensures.layout stands))
    (omega (arith, c.in_ok-jump.ensures.home, c.in_ok-block.ensures.number))
    c.in_ok-args.ensures.ok.keeps c.in_ok-args.ensures.acts c.in_ok-args.ensures.given c.replace_edge.ensures

pub returns-then-not-passes_spilled-clause-leads : goal.returns-then-not-passes_spilled-clause-leads
returns-then-not-passes_spilled-clause-leads c = leads_straight c.args.plan.now c.args.inst c.args.edge c.args.func.now c.args.slots.now
    (ap (λ (xs : List BlockArg). needs c.args.plan.now (passed_values c.args.func.now xs)) (sym (args_are (goal.at.returns-then-not-passes_spilled-clause-leads c).After-as_slice))
    ∙ c.passes_spilled.ensures.none c.if-not-passes_spilled.true)

pub returns-clause-leads : goal.returns-clause-leads
returns-clause-leads c =
    let f : Body = c.args.func.now in
    let j : Body = c.insert_jump.new.func in
    let l : Body = c.land_arguments.new.func in
    let made = made (goal.at.returns-clause-leads c).In_ok-jump in
    let number : c.in_ok-jump.jump ≡ length f.insts = c.in_ok-jump.ensures.number ∙ ap (λ (xs : List InstNode). length xs) c.in_ok-block.ensures.insts in
    let nodes : (i : ℕ) → i < length f.insts → inst_at j i ≡ inst_at f i =
    λ i below.
    c.in_ok-jump.ensures.nodes i (subst (λ (xs : List InstNode). i < length xs) (sym c.in_ok-block.ensures.insts) below)
    ∙ ap (λ (xs : List InstNode). slice_index_or xs i no_inst) c.in_ok-block.ensures.insts in
    let same : inst_at j c.args.inst ≡ inst_at f c.args.inst = nodes c.args.inst c.requires.inst_exists in
    let call : BlockCall = c.index-branch_destination-edge.result in
    let target : ℕ = call.block in
    let target_is : target ≡ (edge_at (destinations (inst_at f c.args.inst).shape) c.args.edge).block =
    ap (λ (x : BlockCall). x.block)
    (c.index-branch_destination-edge.is
    ∙ ap (λ (xs : List BlockCall). get_or xs c.args.edge call) (c.branch_destination.ensures ∙ ap destinations c.inst_data.ensures.exact)
    ∙ get_or_inside (destinations (inst_at f c.args.inst).shape) c.args.edge call no_edge c.requires.edge_exists) in
    subst (λ (g : Body). LeadsOne c.args.plan.now c.args.inst c.args.edge f c.args.slots.now g c.land_arguments.new.slots) (sym c.replace_edge.ensures)
    (leads_landed c.args.plan.now c.args.inst c.args.edge c.in_ok-block.block c.in_ok-jump.jump target f c.args.slots.now j l c.land_arguments.new.slots c.in_ok-args.args
    c.law_consistent.ensures c.requires.inst_exists c.requires.edge_exists target_is c.in_ok-block.ensures.number number made
    (omega (arith, ap (λ (n : ℕ). n) c.in_ok-jump.ensures.blocks, c.in_ok-block.ensures.count)) c.in_ok-jump.ensures.exists (c.in_ok-jump.ensures.tables ∙ c.in_ok-block.ensures.tables)
    nodes
    (λ d below.
    c.in_ok-jump.ensures.lists d (λ is. absurd (omega (arith, is, below, c.in_ok-block.ensures.number))) ∙ c.in_ok-block.ensures.lists d below)
    c.in_ok-jump.ensures.home (subst (Stands c.in_ok-block.block) (sym c.in_ok-jump.ensures.layout) c.in_ok-block.ensures.inside)
    (c.in_ok-jump.ensures.ok.params c.in_ok-block.block c.in_ok-block.ensures.exists ∙ c.in_ok-block.ensures.empty.0)
    (c.in_ok-jump.ensures.last ∙ ap (λ (xs : List ℕ). xs ++ c.in_ok-jump.jump ∷ []) c.in_ok-block.ensures.empty.1)
    c.in_ok-jump.ensures.jumps.shape_is c.in_ok-jump.ensures.jumps.gives c.in_ok-block.block c.in_ok-args.ensures.ok.keeps c.in_ok-args.ensures.layout _ c.in_ok-args.ensures.acts
    (subst (λ (node : InstNode). LandsArguments c.args.plan.now c.in_ok-block.block c.in_ok-jump.jump target node.shape j c.args.slots.now l c.land_arguments.new.slots
    (edge_at (destinations node.shape) c.args.edge).args c.in_ok-args.args) same c.in_ok-args.ensures.rows))
