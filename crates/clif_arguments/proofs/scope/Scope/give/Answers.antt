use Rattle.std.proofs.Common.{refl}
use Rattle.clif_arguments.proofs.Scopes.{gives_name}
use Rattle.clif_arguments.proofs.scope.Scope.give.Goals as goal

pub returns : goal.returns
returns c = record {
  name_given = gives_name c.args.word c.args.name c.args.self.now.names c.insert.new.self c.in_ok-insert.ensures.updates;
  keeps = record { declared = refl; variables = refl };
}
