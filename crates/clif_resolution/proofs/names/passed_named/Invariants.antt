use Rattle.std.proofs.Common.{◌≡◌, take, map}
use Rattle.std.specs.Prelude.{Some}
use Rattle.clif_resolution.specs.Answers.{passed_in}
use Rattle.clif_resolution.proofs.names.passed_named.Given as goal

abbrev pub invariant-loop-one : goal.invariant-loop-one
invariant-loop-one l = map (passed_in l.func l.answers) (take l.one-index l.args) ≡ map Some l.made
