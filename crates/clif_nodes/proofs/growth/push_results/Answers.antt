use Rattle.std.proofs.Common.{length, map, sym}
use Rattle.std.proofs.lemmas.List.{length-map}
use Rattle.clif_opcodes.specs.Kinds.{result_type}
use Rattle.clif_tables.specs.Callees.{types_of}
use Rattle.clif_nodes.proofs.Results.{both_pushed}
use Rattle.clif_nodes.proofs.growth.push_results.Goals as goal

pub returns : goal.returns
returns c =
    both_pushed c.args.values.now.items c.push_result_nodes.new.values.items c.push_given_nodes.new.values.items c.args.inst (length c.args.kinds.now)
    (map (result_type c.args.controlling) c.args.kinds.now) (types_of c.args.given.now) (sym (length-map c.args.kinds.now (result_type c.args.controlling)))
    c.push_result_nodes.ensures.exact c.push_given_nodes.ensures
