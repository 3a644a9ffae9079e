use Rattle.std.proofs.Common.{rules, ◌<◌, ◌≤◌, ◌*◌, ◌+◌, ◌∙◌, ◌∷◌, length, drop, arith, refl, sym, inl, inr}
use Rattle.std.proofs.lemmas.Grind.{common_steps}
use Rattle.clif_ssa.proofs.Counted.{adds_more, adds_same, adds_then}
use Rattle.clif_ssa.proofs.CountedOnce.{once_same, once_completes}
use Rattle.clif_ssa.proofs.Constructing.{constructs_none, constructs_then, tells_all, tells_more_none, tells_more_then}
use Rattle.std.proofs.lemmas.Result.{err_from_is_err_and}
use Rattle.clif_ir.specs.Body.{value_at}
use Rattle.clif_ssa.specs.contracts.ssa_tables.SsaTables.{the_view}
use Rattle.clif_ssa.proofs.Naming.{has_more}
use Rattle.clif_ssa.proofs.Pooling.{pool_none, use_full}
use Rattle.clif_ssa.proofs.PuttingSteps.{full_before}
use Rattle.clif_ssa.proofs.SealPools.{full_further, pool_further, same_type}
use Rattle.clif_ssa.proofs.Waited.{counted-next, counted-all, drop-item}
use Rattle.clif_ssa.proofs.ssa_tables.SsaTables.complete_locally.Goals as goal

pub loop-pending-init : goal.loop-pending-init
loop-pending-init c = record {
  function = refl;
  told = refl;
  records = λ v b. refl;
  counted = λ v b. refl;
  tracking = refl;
  blocks = refl;
  more = has_more c.args.func.now;
  at_most = adds_same c.args.func.now c.args.func.now refl;
  constructs = constructs_none c.args.func.now;
  tells = tells_more_none c.args.func.now c.new-side_effects.result.instructions_added_to_blocks.items;
  pools = λ exist t rest. rest;
  once = λ before. before;
}

pub loop-pending-preserved : goal.loop-pending-preserved
loop-pending-preserved c =
    let inside : c.loop-pending.pending-index < length c.args.waiting.now = search rules in
    record {
      function = first_of (search rules, grind (arith, common_steps));
      told = first_of (search rules, grind (arith, common_steps));
      records = first_of (search rules, grind (arith, common_steps));
      counted = λ v b.
          counted-next (the_view c.loop-pending.self-inside) (the_view (record c.loop-pending.self-inside { variables = c.count_lookup.new.self })) c.args.block c.pending-item.result (drop (c.loop-pending.pending-index + 1) c.args.waiting.now)
          (drop c.loop-pending.pending-index c.args.waiting.now)
          (drop-item c.args.waiting.now c.loop-pending.pending-index c.pending-item.result inside c.pending-item.is) c.in_ok-count_lookup.ensures.ok v b
          ∙ c.loop-pending.invariant.counted v b;
      tracking = first_of (search rules, grind (arith, common_steps));
      blocks = first_of (search rules, grind (arith, common_steps));
      more = first_of (search rules, grind (arith, common_steps));
      at_most = adds_more (2 * c.loop-pending.pending-index + 2) _ _ _ (omega arith) (adds_then _ 2 _ _ _ c.loop-pending.invariant.at_most c.replace_by_zero.ensures.at_most);
      constructs = constructs_then c.args.func.now c.loop-pending.func c.replace_by_zero.new.func c.loop-pending.invariant.constructs c.replace_by_zero.ensures.constructs;
      pools = λ exist t rest.
          c.loop-pending.invariant.pools exist t
          (pool_further c.loop-pending.pending-index c.args.waiting.now c.pending-item.result c.args.func.now c.loop-pending.func c.loop-pending.func.tables c.replace_by_zero.new.func.tables t
          (drop-item c.args.waiting.now c.loop-pending.pending-index c.pending-item.result inside c.pending-item.is)
          (same_type c.args.func.now c.loop-pending.func c.args.waiting.now c.pending-item.result c.loop-pending.invariant.constructs exist
          (c.loop-pending.pending-index, inside, sym c.pending-item.is))
          c.replace_by_zero.ensures.pools rest);
      tells =
          tells_more_then c.args.func.now c.loop-pending.func c.replace_by_zero.new.func _ _ _ c.replace_by_zero.ensures.constructs c.loop-pending.invariant.tells
          (_, c.in_ok-replace_by_zero.ensures.told, c.in_ok-replace_by_zero.ensures.tells);
      once = λ before.
          once_completes (the_view c.loop-pending.self-inside) (the_view (record c.loop-pending.self-inside { variables = c.count_lookup.new.self })) c.args.block c.pending-item.result (drop (c.loop-pending.pending-index + 1) c.args.waiting.now)
          c.count_lookup.ensures.records (λ b. refl) (inr c.in_ok-count_lookup.ensures.ok)
          (once_same (the_view c.loop-pending.self-inside) c.args.block (drop c.loop-pending.pending-index c.args.waiting.now)
          (c.pending-item.result ∷ drop (c.loop-pending.pending-index + 1) c.args.waiting.now)
          (drop-item c.args.waiting.now c.loop-pending.pending-index c.pending-item.result inside c.pending-item.is) (c.loop-pending.invariant.once before));
    }

pub returns-in_err-count_lookup-clause-looks_once :
    goal.returns-in_err-count_lookup-clause-looks_once
returns-in_err-count_lookup-clause-looks_once c =
    let inside : c.loop-pending.pending-index < length c.args.waiting.now = search rules in
    rw (← c.self.view_is)
    (λ before.
    (once_completes (the_view c.loop-pending.self-inside) (the_view (record c.loop-pending.self-inside { variables = c.count_lookup.new.self })) c.args.block c.pending-item.result (drop (c.loop-pending.pending-index + 1) c.args.waiting.now)
    c.count_lookup.ensures.records (λ b. refl) (inl c.in_err-count_lookup.ensures.err)
    (once_same (the_view c.loop-pending.self-inside) c.args.block (drop c.loop-pending.pending-index c.args.waiting.now)
    (c.pending-item.result ∷ drop (c.loop-pending.pending-index + 1) c.args.waiting.now)
    (drop-item c.args.waiting.now c.loop-pending.pending-index c.pending-item.result inside c.pending-item.is) (c.loop-pending.invariant.once before))).once)

pub returns-in_err-replace_by_zero-clause-looks_once :
    goal.returns-in_err-replace_by_zero-clause-looks_once
returns-in_err-replace_by_zero-clause-looks_once c =
    let inside : c.loop-pending.pending-index < length c.args.waiting.now = search rules in
    rw (← c.self.view_is)
    (λ before.
    (once_completes (the_view c.loop-pending.self-inside) (the_view (record c.loop-pending.self-inside { variables = c.count_lookup.new.self })) c.args.block c.pending-item.result (drop (c.loop-pending.pending-index + 1) c.args.waiting.now)
    c.count_lookup.ensures.records (λ b. refl) (inr c.in_ok-count_lookup.ensures.ok)
    (once_same (the_view c.loop-pending.self-inside) c.args.block (drop c.loop-pending.pending-index c.args.waiting.now)
    (c.pending-item.result ∷ drop (c.loop-pending.pending-index + 1) c.args.waiting.now)
    (drop-item c.args.waiting.now c.loop-pending.pending-index c.pending-item.result inside c.pending-item.is) (c.loop-pending.invariant.once before))).once)

pub returns-clause-counted : goal.returns-clause-counted
returns-clause-counted c =
    rw (← c.self.view_is)
    (counted-all (the_view c.self.inside) (the_view c.loop-pending.self-inside) c.args.block c.args.waiting.now c.loop-pending.pending-index
    (first_of (search rules, grind (arith, common_steps))) c.loop-pending.invariant.counted)

pub returns-clause-looks_once : goal.returns-clause-looks_once
returns-clause-looks_once c = rw (← c.self.view_is) (λ before. (c.loop-pending.invariant.once before).once)

pub returns-in_err-count_lookup-clause-constructs : goal.returns-in_err-count_lookup-clause-constructs
returns-in_err-count_lookup-clause-constructs c = c.loop-pending.invariant.constructs

pub returns-in_err-replace_by_zero-clause-constructs :
    goal.returns-in_err-replace_by_zero-clause-constructs
returns-in_err-replace_by_zero-clause-constructs c =
    constructs_then c.args.func.now c.loop-pending.func c.replace_by_zero.new.func c.loop-pending.invariant.constructs c.replace_by_zero.ensures.constructs

pub returns-clause-constructs : goal.returns-clause-constructs
returns-clause-constructs c = c.loop-pending.invariant.constructs

pub returns-clause-tells : goal.returns-clause-tells
returns-clause-tells c = tells_all c.args.func.now c.loop-pending.func _ _ c.new-side_effects.ensures c.loop-pending.invariant.tells

-- WHICH CONSTANTS -------------------------------------------------------------------------------------------------

pub returns-in_err-count_lookup-clause-pools : goal.returns-in_err-count_lookup-clause-pools
returns-in_err-count_lookup-clause-pools c = λ exist. c.loop-pending.invariant.pools exist c.loop-pending.func.tables (pool_none _ c.loop-pending.func.tables)

pub returns-in_err-replace_by_zero-clause-pools : goal.returns-in_err-replace_by_zero-clause-pools
returns-in_err-replace_by_zero-clause-pools c = λ exist.
    let inside : c.loop-pending.pending-index < length c.args.waiting.now = search rules in
    c.loop-pending.invariant.pools exist c.replace_by_zero.new.func.tables
    (pool_further c.loop-pending.pending-index c.args.waiting.now c.pending-item.result c.args.func.now c.loop-pending.func c.loop-pending.func.tables c.replace_by_zero.new.func.tables c.replace_by_zero.new.func.tables
    (drop-item c.args.waiting.now c.loop-pending.pending-index c.pending-item.result inside c.pending-item.is)
    (same_type c.args.func.now c.loop-pending.func c.args.waiting.now c.pending-item.result c.loop-pending.invariant.constructs exist
    (c.loop-pending.pending-index, inside, sym c.pending-item.is))
    c.replace_by_zero.ensures.pools (pool_none _ c.replace_by_zero.new.func.tables))

pub returns-clause-pools : goal.returns-clause-pools
returns-clause-pools c = λ exist. c.loop-pending.invariant.pools exist c.loop-pending.func.tables (pool_none _ c.loop-pending.func.tables)

pub returns-in_err-replace_by_zero-clause-full : goal.returns-in_err-replace_by_zero-clause-full
returns-in_err-replace_by_zero-clause-full c = λ is.
    let p = err_from_is_err_and c.from_residual-in_err-replace_by_zero.result c.from_residual-in_err-replace_by_zero.ensures.1 in
    use_full (value_at c.loop-pending.func c.pending-item.result.param).ty c.replace_by_zero.new.func
    (c.in_err-replace_by_zero.ensures.full (full_before c.from_residual-in_err-replace_by_zero.result c.in_err-replace_by_zero.field-0.0 p.0 is p.1 p.2))

pub returns-in_err-replace_by_zero-clause-full_waiting : goal.returns-in_err-replace_by_zero-clause-full_waiting
returns-in_err-replace_by_zero-clause-full_waiting c = λ exist is.
    let inside : c.loop-pending.pending-index < length c.args.waiting.now = search rules in
    let p = err_from_is_err_and c.from_residual-in_err-replace_by_zero.result c.from_residual-in_err-replace_by_zero.ensures.1 in
    full_further c.args.waiting.now c.pending-item.result c.args.func.now c.loop-pending.func c.replace_by_zero.new.func
    (c.loop-pending.pending-index, inside, sym c.pending-item.is)
    (same_type c.args.func.now c.loop-pending.func c.args.waiting.now c.pending-item.result c.loop-pending.invariant.constructs exist
    (c.loop-pending.pending-index, inside, sym c.pending-item.is))
    (c.in_err-replace_by_zero.ensures.full (full_before c.from_residual-in_err-replace_by_zero.result c.in_err-replace_by_zero.field-0.0 p.0 is p.1 p.2))

-- HOW MUCH IT MAKES -----------------------------------------------------------------------------------------------

pub returns-in_err-count_lookup-clause-at_most : goal.returns-in_err-count_lookup-clause-at_most
returns-in_err-count_lookup-clause-at_most c =
    let inside : c.loop-pending.pending-index < length c.args.waiting.now = search rules in
    adds_more (2 * c.loop-pending.pending-index) _ _ _ (omega (arith, inside)) c.loop-pending.invariant.at_most

pub returns-in_err-replace_by_zero-clause-at_most : goal.returns-in_err-replace_by_zero-clause-at_most
returns-in_err-replace_by_zero-clause-at_most c =
    let inside : c.loop-pending.pending-index < length c.args.waiting.now = search rules in
    adds_more (2 * c.loop-pending.pending-index + 2) _ _ _ (omega (arith, inside))
    (adds_then _ 2 _ _ _ c.loop-pending.invariant.at_most c.replace_by_zero.ensures.at_most)

pub returns-clause-at_most : goal.returns-clause-at_most
returns-clause-at_most c =
    let most : c.loop-pending.pending-index ≤ length c.args.waiting.now = first_of (search rules, grind (arith, common_steps)) in
    adds_more (2 * c.loop-pending.pending-index) _ _ _ (omega (arith, most)) c.loop-pending.invariant.at_most
