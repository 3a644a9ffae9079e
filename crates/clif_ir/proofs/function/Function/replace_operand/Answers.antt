-- replace_operand
use Rattle.std.proofs.Common.{◌<◌, length, sym, subst, arith}
use Rattle.std.proofs.lemmas.Grind.{common_steps}
use Rattle.clif_instructions.specs.Instruction.{operands}
use Rattle.clif_ir.specs.Body.{Body, inst_at}
use Rattle.clif_ir.specs.Changes.{with_operand_at}
use Rattle.clif_ir.specs.Whole.{body_of}
use Rattle.clif_ir.proofs.Keeps.{consistent_at}
use Rattle.clif_ir.proofs.KeepsOperand.{with_operand_at_consistent}
use Rattle.clif_ir.proofs.function.Function.replace_operand.Goals as goal

pub invariant_of-self : goal.invariant_of-self
invariant_of-self c =
    let place : c.args.place < length (operands (inst_at (body_of c.self.inside) c.args.inst).shape) =
    subst (λ (f : Body). c.args.place < length (operands (inst_at f c.args.inst).shape)) (sym c.self.view_is) c.requires.place_exists in
    record {
      linked = c.self.invariant.linked;
      listed = c.self.invariant.listed;
      consistent = consistent_at (with_operand_at (body_of c.self.inside) c.args.inst c.args.place c.args.value) _ (grind (arith, common_steps))
          (with_operand_at_consistent _ _ _ _ c.self.invariant.consistent (grind (arith, common_steps)) place (grind (arith, common_steps)));
      threaded = c.self.invariant.threaded;
      link_count = grind (arith, common_steps, c.self.invariant.link_count);
      place_count = c.self.invariant.place_count;
    }
