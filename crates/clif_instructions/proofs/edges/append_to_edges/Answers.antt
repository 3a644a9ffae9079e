use Rattle.std.proofs.Common.{◌≡◌, arith, rules, get_or}
use Rattle.clif_instructions.specs.Edges.{appended_to}
use Rattle.clif_instructions.proofs.EdgeLoops.{partly-next, all-taken}
use Rattle.clif_instructions.proofs.edges.append_to_edges.Goals as goal

pub loop-place-preserved : goal.loop-place-preserved
loop-place-preserved c =
    let changed : c.append_to_edge.new.edge ≡ appended_to c.args.block c.args.value (get_or c.loop-place.edges c.loop-place.place c.index-edges-place.result) = search rules in
    partly-next (appended_to c.args.block c.args.value) c.args.edges.now c.loop-place.edges c.loop-place.place c.index-edges-place.result c.append_to_edge.new.edge
    (omega (arith, c.loop-place-test.true)) c.loop-place.invariant changed

pub returns-in-Err-clause-err : goal.returns-in-Err-clause-err
returns-in-Err-clause-err c =
    let same : c.append_to_edge.new.edge ≡ get_or c.loop-place.edges c.loop-place.place c.index-edges-place.result = search rules in
    all-taken c.args.block c.args.value c.loop-place.place c.loop-place.edges c.args.edges.now c.take_back.new.edges c.index-edges-place.result c.append_to_edge.new.edge
    c.loop-place.invariant same c.take_back.ensures
