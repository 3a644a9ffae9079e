-- What rewriting at an instruction leaves as it is.
use Rattle.std.proofs.Common.{◌≡◌, ◌≢◌, ◌∙◌, ◌<◌, ℕ, Bool, true, false, List, length, refl, sym, ap, subst, arith}
use Rattle.std.specs.Prelude.{slice_index_or}
use Rattle.clif_tables.specs.Lists.{stack_map_at}
use Rattle.clif_instructions.specs.Members.{Stands}
use Rattle.clif_nodes.specs.declared.nodes.InstNode.{InstNode}
use Rattle.clif_nodes.specs.Nodes.{BlockNode, empty_block, no_inst}
use Rattle.clif_ir.specs.Body.{Body, block_at, inst_at}
use Rattle.clif_stack_slots.specs.declared.slots.StackSlots.{StackSlots}
use Rattle.clif_spiller.specs.Acting.{ActsAtInst, ActsAtSafepoint}
use Rattle.clif_spiller.specs.Keeping.{Keeps}
use Rattle.clif_spiller.specs.declared.plan.Plan.{Plan}
use Rattle.clif_spiller.proofs.Keeping.{keeps_fewer, keeps_refl, keeps_trans}

-- another instruction and its stack map, the lists of other blocks, and the layout
pub record LeavesOthers (inst : ℕ) (f g : Body) : Type 0 where
  pub keeps : Keeps (length f.blocks) f g
  pub nodes : (i : ℕ) → i < length f.insts → i ≢ inst → inst_at g i ≡ inst_at f i
  pub maps : (i : ℕ) → i ≢ inst → stack_map_at g.tables i ≡ stack_map_at f.tables i
  pub lists : (c : ℕ) → c < length f.blocks → c ≢ (inst_at f inst).block → (block_at g c).insts ≡ (block_at f c).insts
  pub layout : (c : ℕ) → c < length f.blocks → Stands c g.layout → Stands c f.layout

others_refl : (inst : ℕ) (f : Body) → LeavesOthers inst f f
others_refl inst f = record {
  keeps = keeps_refl (length f.blocks) f;
  nodes = λ i inside apart. refl;
  maps = λ i apart. refl;
  lists = λ c inside apart. refl;
  layout = λ c inside stands. stands;
}

others_trans : (inst : ℕ) (f g h : Body) → inst < length f.insts → LeavesOthers inst f g → LeavesOthers inst g h → LeavesOthers inst f h
others_trans inst f g h exists p q = record {
  keeps = keeps_trans (length f.blocks) f g h p.keeps (keeps_fewer (length f.blocks) (length g.blocks) g h p.keeps.blocks q.keeps);
  nodes = λ i inside apart. q.nodes i (omega (arith, inside, p.keeps.insts)) apart ∙ p.nodes i inside apart;
  maps = λ i apart. q.maps i apart ∙ p.maps i apart;
  lists = λ c inside apart. q.lists c (omega (arith, inside, p.keeps.blocks)) (λ same. apart (same ∙ p.keeps.homes inst exists)) ∙ p.lists c inside apart;
  layout = λ c inside stands. p.layout c inside (q.layout c (omega (arith, inside, p.keeps.blocks)) stands);
}

-- where neither instructions nor blocks change
tables_alone : (inst : ℕ) (f g : Body) → Keeps (length f.blocks) f g → g.insts ≡ f.insts → g.blocks ≡ f.blocks → g.layout ≡ f.layout
    → ((i : ℕ) → i ≢ inst → stack_map_at g.tables i ≡ stack_map_at f.tables i) → LeavesOthers inst f g
tables_alone inst f g keeps insts blocks layout maps = record {
  keeps = keeps;
  nodes = λ i inside apart. ap (λ (xs : List InstNode). slice_index_or xs i no_inst) insts;
  maps = maps;
  lists = λ c inside apart. ap (λ (xs : List BlockNode). (slice_index_or xs c empty_block).insts) blocks;
  layout = λ c inside stands. subst (Stands c) layout stands;
}

at_safepoint : (test : Bool) (plan : Plan) (inst : ℕ) (f : Body) (a : StackSlots) (g : Body) (b : StackSlots) → inst < length f.insts
    → ActsAtSafepoint test plan inst f a g b → LeavesOthers inst f g
at_safepoint true plan inst f a g b exists at =
    others_trans inst f at.mapped g exists
    (tables_alone inst f at.mapped at.goes.keeps at.maps.insts at.maps.blocks at.maps.layout at.maps.maps)
    (record {
      keeps = at.goes_on.keeps;
      nodes = at.lands.acts.others;
      maps = λ i apart. at.lands.acts.maps i;
      lists = at.lands.acts.lists;
      layout = at.lands.acts.layout;
    })
at_safepoint false plan inst f a g b exists at = subst (λ (x : Body). LeavesOthers inst f x) (sym at.0) (others_refl inst f)

-- what it uses is read,
pub after_safepoint : (plan : Plan) (inst : ℕ) (f : Body) (a : StackSlots) (g : Body) (b : StackSlots) → (act : ActsAtInst plan inst f a g b) → LeavesOthers inst act.called g
after_safepoint plan inst f a g b act = record {
  keeps = act.goes_used.keeps;
  nodes = act.acts_used.others;
  maps = λ i apart. act.acts_used.maps i;
  lists = act.acts_used.lists;
  layout = act.acts_used.layout;
}

-- before that comes a call,
pub after_given : (plan : Plan) (inst : ℕ) (f : Body) (a : StackSlots) (g : Body) (b : StackSlots) → (act : ActsAtInst plan inst f a g b) → inst < length act.given.insts
    → LeavesOthers inst act.given g
after_given plan inst f a g b act exists =
    others_trans inst act.given act.called g exists
    (at_safepoint _ plan inst act.given act.given_slots act.called act.called_slots exists act.acts_called)
    (after_safepoint plan inst f a g b act)

-- and before that what it gives
pub at_inst : (plan : Plan) (inst : ℕ) (f : Body) (a : StackSlots) (g : Body) (b : StackSlots) → inst < length f.insts → ActsAtInst plan inst f a g b → LeavesOthers inst f g
at_inst plan inst f a g b exists act =
    let in_ahead : inst < length act.ahead.insts = omega (arith, exists, act.goes_ahead.keeps.insts) in
    let in_given : inst < length act.given.insts = omega (arith, in_ahead, act.goes_given.keeps.insts) in
    others_trans inst f act.given g exists
    (others_trans inst f act.ahead act.given exists
    (tables_alone inst f act.ahead act.goes_ahead.keeps act.acts_ahead.insts act.acts_ahead.blocks act.acts_ahead.layout (λ i apart. act.acts_ahead.maps i))
    (record {
      keeps = act.goes_given.keeps;
      nodes = λ i inside apart. act.acts_given.nodes i inside;
      maps = λ i apart. act.acts_given.maps i;
      lists = λ c inside apart. act.acts_given.lists c apart;
      layout = λ c inside stands. subst (Stands c) act.acts_given.layout stands;
    }))
    (after_given plan inst f a g b act in_given)
