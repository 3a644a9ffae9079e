-- The words are the name with the type behind it, the slot's word and the offset's.
use Rattle.std.proofs.Common.{List, ℕ, ◌∷◌, ap, subst, sym, ◌∙◌}
use Rattle.std.specs.Int.{w32}
use Rattle.std.proofs.lemmas.Int.{to_z-of_z}
use Rattle.clif_calls.specs.declared.plan.Plan.{Plan}
use Rattle.clif_arguments.specs.Arguments.{IsLastOffset}
use Rattle.clif_text.specs.Grammar.{IsPlain}
use Rattle.clif_arguments.specs.Scope.{names_of}
use Rattle.clif_arguments.proofs.Offsets.{offset_fits}
use Rattle.clif_text.proofs.instructions.read_stack_call.Goals as goal

pub returns : goal.returns
returns c =
    let slot = c.in_ok-slot.ensures.ok in
    let offset = c.in_ok-offset.ensures.ok in
    let names = names_of c.args.args.now.scope.now in
    let words = slot.0 ∷ offset.0 in
    let number = subst (IsLastOffset offset.0) (sym (to_z-of_z w32 c.in_ok-offset.offset (offset_fits offset.0 c.in_ok-offset.offset offset.2))) offset.2 in
    (words, slot.1 ∙ ap (λ rest. slot.0 ∷ rest) offset.1, subst (λ (p : Plan). IsPlain names (c.args.head.now ∷ words) p) (sym c.stack.ensures) (c.args.suffix.now, slot.0, offset.0, ap (λ (head : List ℕ). head ∷ words) c.requires, c.in-Some.ensures, slot.2, number))
