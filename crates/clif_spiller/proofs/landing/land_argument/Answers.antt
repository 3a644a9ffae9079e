use Rattle.std.proofs.Common.{◌≡◌, ◌∙◌, ◌<◌, ℕ, [], length, get_or, refl, sym, ap, subst, arith}
use Rattle.std.specs.Prelude.{All}
use Rattle.std.proofs.lemmas.List.Elements.{All-push}
use Rattle.clif_types.specs.declared.types.«Type».{«Type»}
use Rattle.clif_instructions.specs.Instruction.{destinations}
use Rattle.clif_instructions.specs.declared.block_call.BlockArg.{BlockArg}
use Rattle.clif_instructions.specs.declared.block_call.BlockArg.TheVariants as arg
use Rattle.clif_ir.specs.Body.{Body, block_at, inst_at}
use Rattle.clif_nodes.specs.Nodes.{BlockNode, empty_block}
use Rattle.clif_ir.specs.Changes.{with_param}
use Rattle.clif_stack_slots.specs.declared.slots.StackSlots.{StackSlots}
use Rattle.clif_spiller.specs.Acting.{Acts, args_of, needs, no_argument, passed_value}
use Rattle.clif_spiller.specs.declared.plan.Plan.{Plan}
use Rattle.clif_spiller.proofs.Acting.{acts_beside}
use Rattle.clif_spiller.proofs.Passing.{argument_read, edge_read}
use Rattle.clif_spiller.specs.Keeping.{Keeps}
use Rattle.clif_spiller.specs.Plans.{GoesOn, IsRead, OwnArgument}
use Rattle.clif_spiller.proofs.Keeping.{at_set_or_not, goes_beside, if_ok, if_ok_always, if_ok_further, with_param_keeps}
use Rattle.clif_spiller.proofs.Reading.{Inserts, read_acts, read_inserts}
use Rattle.clif_spiller.specs.Text.{LandsArgument}
use Rattle.clif_spiller.proofs.Text.Rows.{lands_parameter, lands_read}
use Rattle.clif_spiller.proofs.Text.Alike.{table_gives}
use Rattle.clif_spiller.proofs.landing.land_argument.Goals as goal
use Rattle.clif_spiller.proofs.landing.land_argument.Goals.{After-as_slice, After-read}

inserts : (c : After-read) (value : ℕ) → IsRead c.args.plan.now c.args.landing.now.jump c.in-Value.operand c.args.func.now c.args.slots.now c.read.new.func c.read.new.slots value
    → Inserts c.args.func.now c.args.slots.now c.read.new.func c.read.new.slots
inserts c value read =
    read_inserts c.args.plan.now c.args.landing.now.jump c.in-Value.operand c.args.func.now c.args.slots.now c.read.new.func c.read.new.slots value
    c.requires.plan c.requires.slots read

pub returns-in-Value-clause-ok : goal.returns-in-Value-clause-ok
returns-in-Value-clause-ok c =
    let now = (goal.at.returns-in-Value-clause-ok c).After-read in
    if_ok_further (IsRead c.args.plan.now c.args.landing.now.jump c.in-Value.operand c.args.func.now c.args.slots.now c.read.new.func c.read.new.slots)
    (λ value. GoesOn c.args.landing.now.block c.args.func.now c.args.slots.now c.read.new.func c.read.new.slots) c.read.result
    (λ value read. (inserts now value read).goes c.args.landing.now.block) c.read.ensures.ok

pub returns-in-Value-clause-nodes : goal.returns-in-Value-clause-nodes
returns-in-Value-clause-nodes c =
    let now = (goal.at.returns-in-Value-clause-nodes c).After-read in
    if_ok_further (IsRead c.args.plan.now c.args.landing.now.jump c.in-Value.operand c.args.func.now c.args.slots.now c.read.new.func c.read.new.slots)
    (λ value. (i : ℕ) → i < length c.args.func.now.insts → inst_at c.read.new.func i ≡ inst_at c.args.func.now i) c.read.result
    (λ value read. (inserts now value read).nodes) c.read.ensures.ok

pub returns-in-Value-clause-layout : goal.returns-in-Value-clause-layout
returns-in-Value-clause-layout c =
    let now = (goal.at.returns-in-Value-clause-layout c).After-read in
    if_ok_further (IsRead c.args.plan.now c.args.landing.now.jump c.in-Value.operand c.args.func.now c.args.slots.now c.read.new.func c.read.new.slots)
    (λ value. c.read.new.func.layout ≡ c.args.func.now.layout) c.read.result
    (λ value read. (inserts now value read).layout) c.read.ensures.ok

pub returns-in_ok-push-in-TryCallRet-clause-ok : goal.returns-in_ok-push-in-TryCallRet-clause-ok
returns-in_ok-push-in-TryCallRet-clause-ok c =
    let n : ℕ = c.args.landing.now.block in
    if_ok c.append_block_param.result
    (λ made. goes_beside n c.args.func.now c.args.slots.now _ c.requires.slots
    (subst (Keeps n c.args.func.now) (sym made) (with_param_keeps n c.args.func.now n _ (omega arith)))) c.append_block_param.ensures.ok

pub returns-in_ok-push-in-TryCallRet-clause-own : goal.returns-in_ok-push-in-TryCallRet-clause-own
returns-in_ok-push-in-TryCallRet-clause-own c =
    if_ok_always c.append_block_param.result
    (subst (All OwnArgument) (sym c.in_ok-push-in-TryCallRet.ensures.ok) (All-push OwnArgument c.args.own.now _ c.requires.own tt))

pub returns-in_ok-push-in-TryCallExn-clause-ok : goal.returns-in_ok-push-in-TryCallExn-clause-ok
returns-in_ok-push-in-TryCallExn-clause-ok c =
    let n : ℕ = c.args.landing.now.block in
    if_ok c.append_block_param-in-TryCallExn.result
    (λ made. goes_beside n c.args.func.now c.args.slots.now _ c.requires.slots
    (subst (Keeps n c.args.func.now) (sym made) (with_param_keeps n c.args.func.now n _ (omega arith)))) c.append_block_param-in-TryCallExn.ensures.ok

pub returns-in_ok-push-in-TryCallExn-clause-own : goal.returns-in_ok-push-in-TryCallExn-clause-own
returns-in_ok-push-in-TryCallExn-clause-own c =
    if_ok_always c.append_block_param-in-TryCallExn.result
    (subst (All OwnArgument) (sym c.in_ok-push-in-TryCallExn.ensures.ok) (All-push OwnArgument c.args.own.now _ c.requires.own tt))

-- what the arguments are
args_are : (c : After-as_slice) → c.as_slice.result.now ≡ args_of c.args.func.now c.args.inst c.args.edge
args_are c =
    edge_read c.branch_destination.result.now (destinations (inst_at c.args.func.now c.args.inst).shape) c.args.edge c.index-branch_destination-edge.result
    c.as_slice.result.now (c.branch_destination.ensures ∙ ap destinations c.inst_data.ensures.exact) c.requires.edge_exists c.as_slice.ensures

pub returns-in-Value-clause-acts : goal.returns-in-Value-clause-acts
returns-in-Value-clause-acts c =
    let f : Body = c.args.func.now in
    let passed : BlockArg = get_or (args_of f c.args.inst c.args.edge) c.args.place no_argument in
    let is : passed ≡ arg.Value c.in-Value.operand =
    argument_read c.as_slice.result.now (args_of f c.args.inst c.args.edge) c.args.place _ (arg.Value c.in-Value.operand) (args_are (goal.at.returns-in-Value-clause-acts c).After-as_slice)
    c.requires.place_exists c.in-Value.is in
    if_ok_further (IsRead c.args.plan.now c.args.landing.now.jump c.in-Value.operand f c.args.slots.now c.read.new.func c.read.new.slots)
    (λ value. Acts c.args.plan.now c.args.landing.now.jump f c.args.slots.now c.read.new.func c.read.new.slots (needs c.args.plan.now (passed_value f passed))) c.read.result
    (λ value read.
    subst (Acts c.args.plan.now c.args.landing.now.jump f c.args.slots.now c.read.new.func c.read.new.slots) (ap (λ (x : BlockArg). needs c.args.plan.now (passed_value f x)) (sym is))
    (read_acts c.args.plan.now c.args.landing.now.jump c.in-Value.operand f c.args.slots.now c.read.new.func c.read.new.slots value c.requires.jump_exists
    c.requires.plan c.requires.slots read)) c.read.ensures.ok

param_lists : (f : Body) (block : ℕ) (ty : «Type») (c : ℕ) → (block_at (with_param f block ty) c).insts ≡ (block_at f c).insts
param_lists f block ty c =
    at_set_or_not (λ (m : BlockNode). m.insts ≡ (block_at f c).insts) f.blocks block _ c empty_block (λ same. ap (λ (d : ℕ). (block_at f d).insts) (sym same)) refl

-- a parameter more needs no slot
param_acts : (plan : Plan) (jump : ℕ) (f g : Body) (a : StackSlots) (block : ℕ) (ty : «Type») (passed other : BlockArg) → g ≡ with_param f block ty → passed ≡ other → OwnArgument other
    → Acts plan jump f a g a (needs plan (passed_value f passed))
param_acts plan jump f g a block ty passed (arg.Value v) made is own = absurd own
param_acts plan jump f g a block ty passed (arg.TryCallRet index) made is own =
    subst (λ (x : BlockArg). Acts plan jump f a g a (needs plan (passed_value f x))) (sym is)
    (subst (λ (h : Body). Acts plan jump f a h a []) (sym made) (acts_beside plan jump f (with_param f block ty) a refl refl (param_lists f block ty) (λ i below apart. refl)))
param_acts plan jump f g a block ty passed (arg.TryCallExn part) made is own =
    subst (λ (x : BlockArg). Acts plan jump f a g a (needs plan (passed_value f x))) (sym is)
    (subst (λ (h : Body). Acts plan jump f a h a []) (sym made) (acts_beside plan jump f (with_param f block ty) a refl refl (param_lists f block ty) (λ i below apart. refl)))

pub returns-in_ok-push-in-TryCallRet-clause-acts : goal.returns-in_ok-push-in-TryCallRet-clause-acts
returns-in_ok-push-in-TryCallRet-clause-acts c =
    let f : Body = c.args.func.now in
    let is = argument_read c.as_slice.result.now (args_of f c.args.inst c.args.edge) c.args.place _ (arg.TryCallRet c.in-TryCallRet.index)
    (args_are (goal.at.returns-in_ok-push-in-TryCallRet-clause-acts c).After-as_slice) c.requires.place_exists c.in-TryCallRet.is in
    if_ok c.append_block_param.result
    (λ made. param_acts c.args.plan.now c.args.landing.now.jump f _ c.args.slots.now c.args.landing.now.block _ _ (arg.TryCallRet c.in-TryCallRet.index) made is tt)
    c.append_block_param.ensures.ok

pub returns-in_ok-push-in-TryCallExn-clause-acts : goal.returns-in_ok-push-in-TryCallExn-clause-acts
returns-in_ok-push-in-TryCallExn-clause-acts c =
    let f : Body = c.args.func.now in
    let is = argument_read c.as_slice.result.now (args_of f c.args.inst c.args.edge) c.args.place _ (arg.TryCallExn c.in-TryCallExn.part)
    (args_are (goal.at.returns-in_ok-push-in-TryCallExn-clause-acts c).After-as_slice) c.requires.place_exists c.in-TryCallExn.is in
    if_ok c.append_block_param-in-TryCallExn.result
    (λ made. param_acts c.args.plan.now c.args.landing.now.jump f _ c.args.slots.now c.args.landing.now.block _ _ (arg.TryCallExn c.in-TryCallExn.part) made is tt)
    c.append_block_param-in-TryCallExn.ensures.ok

pub returns-in-Value-clause-row : goal.returns-in-Value-clause-row
returns-in-Value-clause-row c =
    let f : Body = c.args.func.now in
    let passed : BlockArg = get_or (args_of f c.args.inst c.args.edge) c.args.place no_argument in
    let is : passed ≡ arg.Value c.in-Value.operand =
    argument_read c.as_slice.result.now (args_of f c.args.inst c.args.edge) c.args.place _ (arg.Value c.in-Value.operand) (args_are (goal.at.returns-in-Value-clause-row c).After-as_slice)
    c.requires.place_exists c.in-Value.is in
    if_ok_further (IsRead c.args.plan.now c.args.landing.now.jump c.in-Value.operand f c.args.slots.now c.read.new.func c.read.new.slots)
    (λ value. LandsArgument c.args.plan.now c.args.landing.now.block c.args.landing.now.jump (inst_at f c.args.inst).shape f c.args.slots.now c.read.new.func c.read.new.slots
    passed c.args.own.now c.args.own.now value) c.read.result
    (λ value read.
    subst (λ (x : BlockArg). LandsArgument c.args.plan.now c.args.landing.now.block c.args.landing.now.jump (inst_at f c.args.inst).shape f c.args.slots.now c.read.new.func c.read.new.slots
    x c.args.own.now c.args.own.now value) (sym is)
    (lands_read c.args.plan.now c.args.landing.now.block c.args.landing.now.jump (inst_at f c.args.inst).shape c.in-Value.operand f c.args.slots.now c.read.new.func c.read.new.slots
    value c.args.own.now c.law_consistent.ensures.maps_known c.requires.plan c.requires.slots read)) c.read.ensures.ok

pub returns-in_ok-push-in-TryCallRet-clause-row : goal.returns-in_ok-push-in-TryCallRet-clause-row
returns-in_ok-push-in-TryCallRet-clause-row c =
    let f : Body = c.args.func.now in
    let is = argument_read c.as_slice.result.now (args_of f c.args.inst c.args.edge) c.args.place _ (arg.TryCallRet c.in-TryCallRet.index)
    (args_are (goal.at.returns-in_ok-push-in-TryCallRet-clause-row c).After-as_slice) c.requires.place_exists c.in-TryCallRet.is in
    lands_parameter c.args.plan.now c.args.landing.now.block c.args.landing.now.jump (inst_at f c.args.inst).shape _ f c.append_block_param.new.self c.args.slots.now c.return_type-ty.result
    c.args.own.now c.push.new.self c.append_block_param.result c.requires.block_exists is tt
    (c.return_type-ty.ensures ∙ table_gives f.tables (inst_at f c.args.inst).shape c.in-TryCallRet.index (omega (arith, c.requires.edge_exists)))
    c.in_ok-push-in-TryCallRet.ensures.ok c.append_block_param.ensures.ok c.append_block_param.ensures.number

pub returns-in_ok-push-in-TryCallExn-clause-row : goal.returns-in_ok-push-in-TryCallExn-clause-row
returns-in_ok-push-in-TryCallExn-clause-row c =
    let f : Body = c.args.func.now in
    let is = argument_read c.as_slice.result.now (args_of f c.args.inst c.args.edge) c.args.place _ (arg.TryCallExn c.in-TryCallExn.part)
    (args_are (goal.at.returns-in_ok-push-in-TryCallExn-clause-row c).After-as_slice) c.requires.place_exists c.in-TryCallExn.is in
    lands_parameter c.args.plan.now c.args.landing.now.block c.args.landing.now.jump (inst_at f c.args.inst).shape _ f c.append_block_param-in-TryCallExn.new.self c.args.slots.now _
    c.args.own.now c.push-in-TryCallExn.new.self c.append_block_param-in-TryCallExn.result c.requires.block_exists is tt
    refl c.in_ok-push-in-TryCallExn.ensures.ok c.append_block_param-in-TryCallExn.ensures.ok c.append_block_param-in-TryCallExn.ensures.number
