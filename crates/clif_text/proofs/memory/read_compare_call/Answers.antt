-- The words are the name, those of the condition, of the addresses, of the size and of the alignments, and the flags'.
use Rattle.std.proofs.Common.{List, ℕ, ◌∷◌, ◌++◌, [], ap, subst, sym, ◌∙◌}
use Rattle.std.proofs.lemmas.List.{append_assoc}
use Rattle.clif_types.specs.Texts.{int_cc_text}
use Rattle.clif_arguments.specs.Arguments.{AreAnswers}
use Rattle.clif_arguments.specs.Scope.{names_of}
use Rattle.clif_text.proofs.memory.read_compare_call.Goals as goal

pub returns : goal.returns
returns c =
    let cond = c.in_ok-int_cc.ensures.ok in
    let two = c.in_ok-left.ensures.ok in
    let size = c.in_ok-size.ensures.ok in
    let first = c.in_ok-left_align.ensures.ok in
    let second = c.in_ok-right_align.ensures.ok in
    let flags = c.flags-flags.ensures.flags in
    let behind = size.0 ∷ first.0 ∷ second.0 ∷ flags.0 in
    let operands = two.0 ++ behind in
    let stand = subst (λ scope. AreAnswers (names_of scope.now) two.0 (c.in_ok-left.left ∷ c.in_ok-left.right ∷ [])) c.in_ok-int_cc.ensures.scope two.2 in
    let named = ap (λ (word : List ℕ). c.args.head.now ∷ word ∷ operands) cond.2 ∙ ap (λ (head : List ℕ). head ∷ int_cc_text c.in_ok-int_cc.int_cc ∷ operands) c.requires in
    let left = size.1 ∙ ap (λ rest. size.0 ∷ rest) (first.1 ∙ ap (λ rest. first.0 ∷ rest) (second.1 ∙ ap (λ rest. second.0 ∷ rest) flags.1)) in (
      cond.0 ∷ operands,
      cond.1 ∙ ap (λ rest. cond.0 ∷ rest) (two.1 ∙ (ap (λ rest. two.0 ++ rest) left ∙ sym (append_assoc two.0 behind _))),
      (
        two.0,
        flags.0,
        size.0,
        first.0,
        second.0,
        named,
        stand,
        size.2,
        first.2,
        second.2,
        flags.2,
      ),
    )
