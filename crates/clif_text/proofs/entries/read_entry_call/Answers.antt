-- The words are the name and what was taken behind it.
use Rattle.std.proofs.Common.{List, ℕ, ◌∷◌, [], ap, ◌∙◌}
use Rattle.clif_text.proofs.entries.read_entry_call.Goals as goal

pub returns-in_ok-align_shift-in-create_sized_stack_slot : goal.returns-in_ok-align_shift-in-create_sized_stack_slot
returns-in_ok-align_shift-in-create_sized_stack_slot c =
    let size = c.in_ok-slot_size-in-create_sized_stack_slot.ensures.ok in
    let shift = c.in_ok-align_shift-in-create_sized_stack_slot.ensures.ok in
    let words = size.0 ∷ shift.0 ∷ [] in
    (words, size.1 ∙ ap (λ rest. size.0 ∷ rest) shift.1, (size.0, shift.0, ap (λ (head : List ℕ). head ∷ words) c.in-create_sized_stack_slot.is, size.2, shift.2))

pub returns-in_ok-dyn_ty-in-create_dynamic_stack_slot : goal.returns-in_ok-dyn_ty-in-create_dynamic_stack_slot
returns-in_ok-dyn_ty-in-create_dynamic_stack_slot c =
    let one = c.in_ok-dyn_ty-in-create_dynamic_stack_slot.ensures.ok in
    (one.0 ∷ [], one.1, (one.0, ap (λ (head : List ℕ). head ∷ one.0 ∷ []) c.in-create_dynamic_stack_slot.is, one.2))
