use Rattle.std.proofs.Common.{List, refl, sym, subst}
use Rattle.std.specs.Prelude.{All}
use Rattle.std.proofs.lemmas.List.{take_all}
use Rattle.clif_instructions.specs.declared.block_call.BlockCall.{BlockCall}
use Rattle.clif_tables.specs.Callees.{types_of}
use Rattle.clif_check.specs.WellTyped.{Matches}
use Rattle.clif_check.proofs.Pairs.{never, said_no}
use Rattle.clif_check.proofs.Pieces.{edge_at, edges_match}
use Rattle.clif_check.proofs.Walks.{all_more}
use Rattle.clif_check.proofs.parts.edges_match.Goals as goal

pub returns-then-not-edge_matches : goal.returns-then-not-edge_matches
returns-then-not-edge_matches c = (
  λ no. never no,
  λ all. absurd (said_no c.if-not-edge_matches.true (λ matches. c.edge_matches.ensures.1 matches)
      (subst (λ (edge : BlockCall). Matches c.args.func.now (types_of c.args.results.now) c.args.payload.now edge) (sym c.index-edges-place.is)
      (edge_at c.args.func.now (types_of c.args.results.now) c.args.payload.now c.args.edges.now all c.loop-place.place c.index-edges-place.result
      c.loop-place-test.true))),
)

pub loop-place-preserved : goal.loop-place-preserved
loop-place-preserved c =
    all_more (Matches c.args.func.now (types_of c.args.results.now) c.args.payload.now) c.args.edges.now c.loop-place.place c.index-edges-place.result
    c.loop-place-test.true
    (subst (λ (edge : BlockCall). Matches c.args.func.now (types_of c.args.results.now) c.args.payload.now edge) c.index-edges-place.is
    (c.edge_matches.ensures.0 c.if-not-edge_matches.false)) c.loop-place.invariant

pub returns : goal.returns
returns c =
    let all : All (Matches c.args.func.now (types_of c.args.results.now) c.args.payload.now) c.args.edges.now =
    subst (λ (passed : List BlockCall). All (Matches c.args.func.now (types_of c.args.results.now) c.args.payload.now) passed)
    (take_all c.loop-place.place c.args.edges.now c.loop-place-test.false) c.loop-place.invariant in
    (λ yes. edges_match c.args.func.now (types_of c.args.results.now) c.args.payload.now c.args.edges.now all, λ _. refl)
