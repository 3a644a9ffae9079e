use Rattle.std.proofs.Common.{◌≡◌, take, map}
use Rattle.std.specs.Prelude.{Some}
use Rattle.clif_resolution.specs.Answers.{value_of}
use Rattle.clif_resolution.proofs.names.values_named.Given as goal

abbrev pub invariant-loop-name : goal.invariant-loop-name
invariant-loop-name l = map (value_of l.func l.answers) (take l.name-index l.names) ≡ map Some l.values
