use Rattle.std.proofs.Common.{rules, arith, ◌∙◌, sym}
use Rattle.std.proofs.lemmas.Grind.{common_steps}
use Rattle.clif_instructions.proofs.Members.{Stands-from_test, test-from_Stands}
use Rattle.clif_ir.proofs.function.Function.is_block_inserted.Goals as goal

pub returns-clause-test : goal.returns-clause-test
returns-clause-test c = first_of (search rules, grind (arith, common_steps))

pub returns-clause-meaning : goal.returns-clause-meaning
returns-clause-meaning c = (λ yes. Stands-from_test _ _ (sym (returns-clause-test c) ∙ yes), λ stands. returns-clause-test c ∙ test-from_Stands _ _ stands)
