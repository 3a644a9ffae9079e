use Rattle.std.proofs.Common.{◌≡◌, take, map}
use Rattle.std.specs.Prelude.{Some}
use Rattle.clif_resolution.specs.Answers.{argument_of}
use Rattle.clif_resolution.proofs.names.arguments_named.Given as goal

abbrev pub invariant-loop-name : goal.invariant-loop-name
invariant-loop-name l = map (argument_of l.func l.answers) (take l.name-index l.names) ≡ map Some l.args
