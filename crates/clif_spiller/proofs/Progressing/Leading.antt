-- Functions that lead to the last one, step by step back.
use Rattle.std.proofs.Common.{◌≡◌, ◌∙◌, ◌<◌, ◌≤◌, ◌⊎◌, ℕ, List, length, sym, ap, arith, inl, inr}
use Rattle.std.specs.FinMap as fin
use Rattle.clif_types.specs.declared.types.«Type».{«Type»}
use Rattle.clif_tables.specs.Lists.{stack_map_at}
use Rattle.clif_instructions.specs.Members.{Stands}
use Rattle.clif_ir.specs.Body.{Body, block_at, inst_at}
use Rattle.clif_stack_slots.specs.Slots.{SlotMap}
use Rattle.clif_stack_slots.specs.declared.slots.StackSlots.{StackSlots}
use Rattle.clif_spiller.specs.Allocating.{IsSlotState, SlotAct, SlotState, after_acts}
use Rattle.clif_spiller.specs.Keeping.{Keeps}
use Rattle.clif_spiller.specs.Progress.{LeadsTo}
use Rattle.clif_spiller.specs.Text.{KeepsSlots}
use Rattle.clif_spiller.proofs.Allocating.States.{acts_keep}
use Rattle.clif_spiller.proofs.Keeping.{keeps_fewer, keeps_trans}
use Rattle.clif_spiller.proofs.Text.Adding.{StayFrom}

-- what a step leaves of what is settled
pub record LeavesSettled (first : Body) (Handled Settled : ℕ → Type 0) (f : Body) (a : StackSlots) (g : Body) (b : StackSlots) : Type 0 where
  pub keeps : Keeps (length f.blocks) f g
  pub nodes : (i : ℕ) → i < length f.insts → (length first.insts ≤ i) ⊎ Handled i → inst_at g i ≡ inst_at f i
  pub maps : (i : ℕ) → i < length f.insts → (length first.insts ≤ i) ⊎ Handled i → stack_map_at g.tables i ≡ stack_map_at f.tables i
  pub lists : (c : ℕ) → c < length f.blocks → (length first.blocks ≤ c) ⊎ Settled c → (block_at g c).insts ≡ (block_at f c).insts
  pub layout : (c : ℕ) → c < length f.blocks → Stands c g.layout → Stands c f.layout
  pub still : KeepsSlots a b

pub leads_back : (first : Body) (Handled Settled Handled₁ Settled₁ : ℕ → Type 0) (f : Body) (a : StackSlots) (g : Body) (b : StackSlots) (last : Body) (final : StackSlots)
    → ((i : ℕ) → Handled i → Handled₁ i) → ((c : ℕ) → Settled c → Settled₁ c) → LeavesSettled first Handled Settled f a g b
    → LeadsTo first Handled₁ Settled₁ g b last final → LeadsTo first Handled Settled f a last final
leads_back first Handled Settled Handled₁ Settled₁ f a g b last final more further step leads = record {
  keeps = keeps_trans (length f.blocks) f g last step.keeps (keeps_fewer (length f.blocks) (length g.blocks) g last step.keeps.blocks leads.keeps);
  nodes = λ i inside how. leads.nodes i (omega (arith, inside, step.keeps.insts)) (turn i how) ∙ step.nodes i inside how;
  maps = λ i inside how. leads.maps i (omega (arith, inside, step.keeps.insts)) (turn i how) ∙ step.maps i inside how;
  lists = λ c inside how. leads.lists c (omega (arith, inside, step.keeps.blocks)) (turn_block c how) ∙ step.lists c inside how;
  layout = λ c inside stands. step.layout c inside (leads.layout c (omega (arith, inside, step.keeps.blocks)) stands);
  still = λ v slot has. leads.still v slot (step.still v slot has);
}
  where
    turn : (i : ℕ) → (length first.insts ≤ i) ⊎ Handled i → (length first.insts ≤ i) ⊎ Handled₁ i
    turn i (inl new) = inl new
    turn i (inr handled) = inr (more i handled)

    turn_block : (c : ℕ) → (length first.blocks ≤ c) ⊎ Settled c → (length first.blocks ≤ c) ⊎ Settled₁ c
    turn_block c (inl new) = inl new
    turn_block c (inr settled) = inr (further c settled)

-- with fewer settled
pub leads_fewer : (first : Body) (Handled Settled Handled₁ Settled₁ : ℕ → Type 0) (f : Body) (a : StackSlots) (last : Body) (final : StackSlots)
    → ((i : ℕ) → Handled i → Handled₁ i) → ((c : ℕ) → Settled c → Settled₁ c) → LeadsTo first Handled₁ Settled₁ f a last final → LeadsTo first Handled Settled f a last final
leads_fewer first Handled Settled Handled₁ Settled₁ f a last final more further leads = record {
  keeps = leads.keeps;
  nodes = λ i inside how. leads.nodes i inside (turn i how);
  maps = λ i inside how. leads.maps i inside (turn i how);
  lists = λ c inside how. leads.lists c inside (turn_block c how);
  layout = leads.layout;
  still = leads.still;
}
  where
    turn : (i : ℕ) → (length first.insts ≤ i) ⊎ Handled i → (length first.insts ≤ i) ⊎ Handled₁ i
    turn i (inl new) = inl new
    turn i (inr handled) = inr (more i handled)

    turn_block : (c : ℕ) → (length first.blocks ≤ c) ⊎ Settled c → (length first.blocks ≤ c) ⊎ Settled₁ c
    turn_block c (inl new) = inl new
    turn_block c (inr settled) = inr (further c settled)

-- slots by their states: acts leave what has a slot
pub slots_by_states : (ty : ℕ → «Type») (acts : List SlotAct) (f : Body) (a : StackSlots) (st : SlotState) (g : Body) (b : StackSlots)
    → IsSlotState f a st → IsSlotState g b (after_acts ty acts st) → KeepsSlots a b
slots_by_states ty acts f a st g b was now v slot has =
    ap (λ (m : SlotMap). fin.get m v) now.assigned
    ∙ acts_keep ty acts st v slot (ap (λ (m : SlotMap). fin.get m v) (sym was.assigned) ∙ has)

-- new instructions stay
pub new_stay : (first : Body) (Handled Settled : ℕ → Type 0) (f : Body) (a : StackSlots) (last : Body) (final : StackSlots) → LeadsTo first Handled Settled f a last final
    → StayFrom (length first.insts) (length f.insts) f last
new_stay first Handled Settled f a last final leads i from to = (leads.nodes i to (inl from), leads.maps i to (inl from))
