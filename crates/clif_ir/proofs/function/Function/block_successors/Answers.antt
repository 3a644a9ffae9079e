use Rattle.std.proofs.Common.{◌<◌, List, length, sym, subst}
use Rattle.std.specs.Prelude.{slice_index, EachIndex}
use Rattle.clif_instructions.specs.declared.block_call.BlockCall.{BlockCall}
use Rattle.clif_instructions.specs.Edges.{targets}
use Rattle.clif_ir.proofs.Leading.{edges_of-targets_exist}
use Rattle.clif_ir.proofs.function.Function.block_successors.Goals as goal

pub returns-clause-exist : goal.returns-clause-exist
returns-clause-exist c =
    subst (λ (edges : List BlockCall). EachIndex (targets edges) (λ k. slice_index (targets edges) k < length c.args.self.now.blocks)) (sym c.last_edges.ensures)
    (edges_of-targets_exist _ c.law_consistent.ensures _)
