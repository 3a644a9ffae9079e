-- The words are the name, the condition's word if there is one, a value's and a number's.
use Rattle.std.proofs.Common.{List, ℕ, ◌∷◌, [], ap, subst, ◌∙◌}
use Rattle.clif_types.specs.Texts.{int_cc_text}
use Rattle.clif_arguments.specs.Arguments.{IsAnswer}
use Rattle.clif_arguments.specs.Scope.{names_of}
use Rattle.clif_text.proofs.Numbers.{number_kept}
use Rattle.clif_text.proofs.immediate.read_immediate_call.Goals as goal

pub returns-in_ok-imm-in-iadd_imm_s : goal.returns-in_ok-imm-in-iadd_imm_s
returns-in_ok-imm-in-iadd_imm_s c =
    let x = c.in_ok-x-in-iadd_imm_s.ensures.ok in
    let imm = c.in_ok-imm-in-iadd_imm_s.ensures.ok in
    let number = number_kept imm.0 c.in_ok-imm-in-iadd_imm_s.imm imm.2 in (
      x.0 ∷ imm.0 ∷ [],
      x.1 ∙ ap (λ rest. x.0 ∷ rest) imm.1,
      (x.0, imm.0, ap (λ (head : List ℕ). head ∷ x.0 ∷ imm.0 ∷ []) c.in-iadd_imm_s.is, x.2, number),
    )

pub returns-in_ok-imm-in-icmp_imm_s : goal.returns-in_ok-imm-in-icmp_imm_s
returns-in_ok-imm-in-icmp_imm_s c =
    let cond = c.in_ok-cond-in-icmp_imm_s.ensures.ok in
    let x = c.in_ok-x-in-icmp_imm_s.ensures.ok in
    let imm = c.in_ok-imm-in-icmp_imm_s.ensures.ok in
    let number = number_kept imm.0 c.in_ok-imm-in-icmp_imm_s.imm imm.2 in
    let stands = subst (λ scope. IsAnswer (names_of scope.now) x.0 c.in_ok-x-in-icmp_imm_s.x) c.in_ok-cond-in-icmp_imm_s.ensures.scope x.2 in
    let named = ap (λ (word : List ℕ). c.args.head.now ∷ word ∷ x.0 ∷ imm.0 ∷ []) cond.2 ∙ ap (λ (head : List ℕ). head ∷ int_cc_text c.in_ok-cond-in-icmp_imm_s.cond ∷ x.0 ∷ imm.0 ∷ []) c.in-icmp_imm_s.is in (
      cond.0 ∷ x.0 ∷ imm.0 ∷ [],
      cond.1 ∙ ap (λ rest. cond.0 ∷ rest) (x.1 ∙ ap (λ rest. x.0 ∷ rest) imm.1),
      (x.0, imm.0, named, stands, number),
    )
