-- Both entries are made, and nothing else is.
use Rattle.uses.proofs.Lasting.{imports_both}
use Rattle.uses.proofs.last_node.import_visit.Goals as goal

pub returns-clause-imports : goal.returns-clause-imports
returns-clause-imports g c = imports_both c.import_function.result c.in_ok-signature.ensures c.import_function.ensures c.requires
