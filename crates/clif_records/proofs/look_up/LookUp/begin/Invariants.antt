use Rattle.std.proofs.Common.{◌≡◌, ◌++◌}
use Rattle.std.specs.Prelude.{map}
use Rattle.clif_records.specs.declared.look_up.Call.TheVariants.{UseVar}
use Rattle.clif_records.proofs.look_up.LookUp.begin.Given as goal

abbrev pub invariant-loop-branch : goal.invariant-loop-branch
invariant-loop-branch l =
    (l.self-inside.calls.items ≡ l.initial.self-inside.calls.items ++ map UseVar l.yielded)
    × (l.self-inside.results.items ≡ l.initial.self-inside.results.items)
    × (l.self-inside.zeros.items ≡ l.initial.self-inside.zeros.items)
