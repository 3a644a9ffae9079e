use Rattle.std.proofs.Common.{◌≡◌, arith, rules, sym, subst}
use Rattle.std.proofs.lemmas.Grind.{common_steps}
use Rattle.clif_instructions.specs.Members.{Stands}
use Rattle.clif_ir.specs.Body.{block_at, inst_at}
use Rattle.clif_ir.proofs.function.Function.insert_inst_after.Goals as goal

pub insert_inst_behind-requires-clause-previous_stands : goal.insert_inst_behind-requires-clause-previous_stands
insert_inst_behind-requires-clause-previous_stands c =
    let same : c.index-2.result.now.block ≡ (inst_at c.args.self.now c.args.previous).block = first_of (search rules, grind (arith, common_steps)) in
    subst (λ b. Stands c.args.previous (block_at c.args.self.now b).insts) (sym same) (c.law_consistent.ensures.insts_stand c.args.previous c.requires.inst_exists).1
