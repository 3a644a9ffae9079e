-- The parameters so far.
use Rattle.std.proofs.Common.{◌≡◌, replicate}
use Rattle.toy_compiler.specs.Meaning.{toy_value}
use Rattle.toy_compiler.proofs.program.signature_of.Given as goal

abbrev pub invariant-loop : goal.invariant-loop
invariant-loop l = l.params.items ≡ replicate l.counter toy_value
