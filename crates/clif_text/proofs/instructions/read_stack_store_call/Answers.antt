-- The words are the name, the value's word, the slot's and the offset's.
use Rattle.std.proofs.Common.{List, ℕ, ◌∷◌, ap, subst, sym, ◌∙◌}
use Rattle.std.specs.Int.{w32}
use Rattle.std.proofs.lemmas.Int.{to_z-of_z}
use Rattle.clif_arguments.specs.Arguments.{IsAnswer, IsLastOffset}
use Rattle.clif_arguments.specs.Scope.{names_of}
use Rattle.clif_arguments.proofs.Offsets.{offset_fits}
use Rattle.clif_text.proofs.instructions.read_stack_store_call.Goals as goal

pub returns : goal.returns
returns c =
    let x = c.in_ok-x.ensures.ok in
    let slot = c.in_ok-slot.ensures.ok in
    let offset = c.in_ok-offset.ensures.ok in
    let words = x.0 ∷ slot.0 ∷ offset.0 in
    let taken = x.1 ∙ ap (λ rest. x.0 ∷ rest) (slot.1 ∙ ap (λ rest. slot.0 ∷ rest) offset.1) in
    let stands = subst (λ scope. IsAnswer (names_of scope.now) slot.0 c.in_ok-slot.slot) c.in_ok-x.ensures.scope slot.2 in
    let number = subst (IsLastOffset offset.0) (sym (to_z-of_z w32 c.in_ok-offset.offset (offset_fits offset.0 c.in_ok-offset.offset offset.2))) offset.2 in
    (words, taken, (x.0, slot.0, offset.0, ap (λ (head : List ℕ). head ∷ words) c.requires, x.2, stands, number))
