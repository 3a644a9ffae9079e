-- An instruction more is rewritten.
use Rattle.std.proofs.Common.{◌≡◌, ◌<◌, ℕ, suc, List, ◌∷◌, ◌++◌, length, get_or}
use Rattle.clif_types.specs.EntitySet.{has}
use Rattle.clif_ir.specs.Body.{Body}
use Rattle.clif_meaning.specs.View.{view_of}
use Rattle.clif_stack_slots.specs.declared.slots.StackSlots.{StackSlots}
use Rattle.clif_spiller.specs.Acting.{ActsAtInst, types_in}
use Rattle.clif_spiller.specs.Allocating.{after_acts}
use Rattle.clif_spiller.specs.Plans.{insts_inside}
use Rattle.clif_spiller.specs.Progress.{IsPlannedFor, IsRewrittenIn, slots_before}
use Rattle.clif_spiller.specs.declared.plan.Plan.{Plan}
use Rattle.clif_spiller.proofs.Allocating.Walking.{handles}
use Rattle.clif_spiller.proofs.Progressing.Steps.{acts_at, items_inside, list, text_then, walk}
use Rattle.clif_spiller.proofs.Progressing.Writing.{next_written}

module _ (first : Body) (recorded : List ℕ) (plan : Plan) (planned : IsPlannedFor first recorded plan) (done : List ℕ) (block : ℕ) (rest : List ℕ)
    (split : plan.liveness.now.order ≡ done ++ block ∷ rest) where
  -- an instruction more
  pub next_inst : (k inst : ℕ) → k < length (insts_inside first block) → get_or (insts_inside first block) k inst ≡ inst
      → (f : Body) (a : StackSlots) → IsRewrittenIn first recorded plan done block (suc k) f a → (g : Body) (b : StackSlots) → ActsAtInst plan inst f a g b
      → IsRewrittenIn first recorded plan done block k g b
  next_inst k inst inside is f a so_far g b act = record {
    written = next_written first recorded plan planned done block rest split k inst inside is f a so_far.st so_far.text g b act so_far.written so_far.allocated;
    st = after_acts (types_in first) (list first recorded plan planned done block rest split k inst inside is f a so_far.st so_far.text g b act) so_far.st;
    text = text_then first recorded plan planned done block rest split k inst inside is f a so_far.st so_far.text g b act;
    allocated =
        handles (view_of first) (length first.values) (has plan.spilled) plan.liveness.now.order done block rest (walk first recorded plan planned done block rest split) split k (items_inside first recorded plan planned done block rest split k inst inside is f a so_far.st so_far.text g b act)
        (slots_before first) so_far.st so_far.allocated (list first recorded plan planned done block rest split k inst inside is f a so_far.st so_far.text g b act) (acts_at first recorded plan planned done block rest split k inst inside is f a so_far.st so_far.text g b act);
  }
