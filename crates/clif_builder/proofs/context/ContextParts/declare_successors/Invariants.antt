use Rattle.std.proofs.Common.{◌≡◌, take, ◌<◌, [], length}
use Rattle.clif_ir.specs.Body.{Body}
use Rattle.clif_instructions.specs.Edges.{targets}
use Rattle.clif_ssa.specs.Ssa.{NamesExist}
use Rattle.clif_ssa.specs.Structure.{LooksOnce}
use Rattle.clif_builder.specs.Construction.{IsDeclared}
use Rattle.clif_builder.proofs.context.ContextParts.declare_successors.Given as goal

abbrev pub invariant-loop-edge : goal.invariant-loop-edge
invariant-loop-edge l =
    IsDeclared l.initial.self-inside.ssa l.inst (targets (take l.edge-index l.edges)) l.self-inside.ssa
    × ((f : Body) → l.inst < length f.insts → NamesExist f l.initial.self-inside.ssa → NamesExist f l.self-inside.ssa)
    × (l.self-inside.status ≡ l.initial.self-inside.status)
    × (l.self-inside.variables ≡ l.initial.self-inside.variables) × (l.self-inside.touched ≡ l.initial.self-inside.touched)
    × (l.edges ≡ [] → l.self-inside.ssa ≡ l.initial.self-inside.ssa)
    × (LooksOnce l.initial.self-inside.ssa → LooksOnce l.self-inside.ssa)
