use Rattle.std.proofs.Common.{◌≡◌, length, ◌-◌, ◌<◌}
use Rattle.clif_ir.specs.Body.{follow}
use Rattle.clif_ir.proofs.function.Function.resolve_aliases.Given as goal

abbrev pub invariant-loop : goal.invariant-loop
invariant-loop l =
    (l.resolved < length l.self.values)
    × (follow (l.end - l.counter) l.self.values l.resolved
    ≡ follow l.end l.self.values l.initial.resolved)
    × (l.end ≡ length l.self.values)
