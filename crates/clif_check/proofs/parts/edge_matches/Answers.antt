use Rattle.std.proofs.Common.{ℕ, List, get_or, ap, sym, subst, ◌∙◌}
use Rattle.clif_types.specs.declared.types.«Type».{«Type»}
use Rattle.clif_instructions.specs.declared.block_call.BlockArg.{BlockArg}
use Rattle.clif_ir.specs.Body.{block_at}
use Rattle.clif_tables.specs.Callees.{types_of}
use Rattle.clif_check.specs.WellTyped.{HasType, Matches, type_at}
use Rattle.clif_check.proofs.Pairs.{Pairwise, accepted, below_more, refused_at, refused_long, said_no}
use Rattle.clif_check.proofs.Pieces.{Passes, edge_pairs, pairs_edge}
use Rattle.clif_check.proofs.parts.edge_matches.Goals as goal
use Rattle.clif_check.proofs.parts.edge_matches.Goals.{After-block_params-params}

abbrev argument_at : After-block_params-params → ℕ → BlockArg → BlockArg
argument_at c place argument = get_or c.as_slice-arguments.result.now place argument

pairs : (c : After-block_params-params) → Matches c.args.func.now (types_of c.args.results.now) c.args.payload.now c.args.edge.now → Pairwise (Passes c.args.func.now (types_of c.args.results.now) c.args.payload.now) c.as_slice-arguments.result.now c.block_params-params.result.now
pairs c matches =
    subst (λ (params : List ℕ). Pairwise (Passes c.args.func.now (types_of c.args.results.now) c.args.payload.now) c.as_slice-arguments.result.now params) (sym c.block_params-params.ensures.exact)
    (subst (λ (args : List BlockArg). Pairwise (Passes c.args.func.now (types_of c.args.results.now) c.args.payload.now) args (block_at c.args.func.now c.args.edge.now.block).params) (sym c.as_slice-arguments.ensures) (edge_pairs c.args.func.now (types_of c.args.results.now) c.args.payload.now c.args.edge.now matches))

matches : (c : After-block_params-params) → Pairwise (Passes c.args.func.now (types_of c.args.results.now) c.args.payload.now) c.as_slice-arguments.result.now c.block_params-params.result.now → Matches c.args.func.now (types_of c.args.results.now) c.args.payload.now c.args.edge.now
matches c paired =
    pairs_edge c.args.func.now (types_of c.args.results.now) c.args.payload.now c.args.edge.now
    (subst (λ (params : List ℕ). Pairwise (Passes c.args.func.now (types_of c.args.results.now) c.args.payload.now) c.args.edge.now.args params) c.block_params-params.ensures.exact
    (subst (λ (args : List BlockArg). Pairwise (Passes c.args.func.now (types_of c.args.results.now) c.args.payload.now) args c.block_params-params.result.now) c.as_slice-arguments.ensures paired))

pub returns-then-arguments-params : goal.returns-then-arguments-params
returns-then-arguments-params c =
    refused_long (Passes c.args.func.now (types_of c.args.results.now) c.args.payload.now) c.as_slice-arguments.result.now c.block_params-params.result.now
    (pairs (goal.at.returns-then-arguments-params c).After-block_params-params) c.if-arguments-params.true

pub returns-then-not-has_type : goal.returns-then-not-has_type
returns-then-not-has_type c =
    let typed = c.value_type-ty.ensures ∙ ap (type_at c.args.func.now) c.index-params-place.is in
    refused_at (Passes c.args.func.now (types_of c.args.results.now) c.args.payload.now) c.as_slice-arguments.result.now c.block_params-params.result.now
    (pairs (goal.at.returns-then-not-has_type c).After-block_params-params) c.loop-place.place c.index-arguments-place.result c.index-params-place.result
    c.loop-place-test.true
    (said_no c.if-not-has_type.true (λ passes. c.has_type.ensures.1
    (subst (λ (argument : BlockArg). HasType c.args.func.now (types_of c.args.results.now) c.args.payload.now argument c.value_type-ty.result) (sym c.index-arguments-place.is)
    (subst (λ (ty : «Type»). HasType c.args.func.now (types_of c.args.results.now) c.args.payload.now (argument_at (goal.at.returns-then-not-has_type c).After-block_params-params c.loop-place.place c.index-arguments-place.result) ty)
    (sym typed) passes))))

pub loop-place-preserved : goal.loop-place-preserved
loop-place-preserved c =
    let typed = c.value_type-ty.ensures ∙ ap (type_at c.args.func.now) c.index-params-place.is in
    below_more (Passes c.args.func.now (types_of c.args.results.now) c.args.payload.now) c.as_slice-arguments.result.now c.block_params-params.result.now c.loop-place.place c.index-arguments-place.result
    c.index-params-place.result c.loop-place.invariant c.loop-place-test.true c.if-arguments-params.false
    (subst (λ (ty : «Type»). HasType c.args.func.now (types_of c.args.results.now) c.args.payload.now (argument_at (goal.at.loop-place-preserved c).After-block_params-params c.loop-place.place c.index-arguments-place.result) ty)
    typed (subst (λ (argument : BlockArg). HasType c.args.func.now (types_of c.args.results.now) c.args.payload.now argument c.value_type-ty.result) c.index-arguments-place.is
    (c.has_type.ensures.0 c.if-not-has_type.false)))

pub returns : goal.returns
returns c =
    accepted (Passes c.args.func.now (types_of c.args.results.now) c.args.payload.now) c.as_slice-arguments.result.now c.block_params-params.result.now c.loop-place.place
    (matches (goal.at.returns c).After-block_params-params) c.if-arguments-params.false c.loop-place.invariant c.loop-place-test.false
