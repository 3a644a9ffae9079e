use Rattle.std.proofs.Common.{rules, ◌≡◌, ◌<◌, ◌+◌, ◌∙◌, length, arith, subst, refl, sym, inr}
use Rattle.std.specs.Prelude.{Ok}
use Rattle.std.proofs.lemmas.Grind.{common_steps}
use Rattle.clif_ssa.specs.Sealing.{SealsOne, SealsWith, SealsBelow, none_sealed, next_sealed}
use Rattle.clif_ssa.proofs.Constructing.{tells_all, tells_more_none, tells_more_then}
use Rattle.clif_ssa.proofs.Alongside.{seal_remembers, remembers_then}
use Rattle.clif_ssa.proofs.CountedSteps.{counts_any, counts_as, counts_made, counts_memory, counts_next, counts_none, counts_then}
use Rattle.clif_ssa.proofs.Losing.{same_remembers}
use Rattle.clif_ssa.proofs.Public.{seal_keeps, spares_later, keeps_then, keeps_itself}
use Rattle.clif_ssa.proofs.Seals.{all_keep_next, all_keep_none, all_makes_stopped, gives_none}
use Rattle.clif_ssa.proofs.Steps.{ends_as, ends_memory, ends_ok}
use Rattle.clif_ssa.proofs.Waited.{named-kept, other-same, sealed-below, still-sealed}
use Rattle.clif_ssa.proofs.PuttingSteps.{full_before}
use Rattle.clif_ssa.proofs.SealPools.{first_pools, first_waits, next_full, next_pools, next_waits}
use Rattle.clif_ssa.proofs.StructuredPublic.{seal_structured}
use Rattle.clif_ssa.proofs.Tracks.{seals_track}
use Rattle.clif_ssa.proofs.WithinUses.{leads_of, seals_within}
use Rattle.std.proofs.lemmas.Result.{err_from_is_err_and}
use Rattle.clif_ssa.proofs.ssa.SSABuilder.seal_all_blocks.Goals as goal

pub loop-number-init : goal.loop-number-init
loop-number-init c = record {
  sealed = λ b inside. absurd (omega (arith, inside));
  named = c.requires.named;
  leaves = all_keep_none c.args.func.now c.args.self.now;
  counts = counts_none 0 c.args.func.now c.args.self.now;
  sealed_stays = λ b is. is;
  others = λ b above. refl;
  in_turn = subst (λ told. SealsBelow c.args.func.now c.args.self.now 0 c.args.func.now c.args.self.now told) (sym c.new-side_effects.ensures) none_sealed;
  pools = λ named. first_pools c.args.func.now c.args.self.now;
  waits = λ named. first_waits c.args.func.now c.args.self.now;
  tells = tells_more_none c.args.func.now c.new-side_effects.result.instructions_added_to_blocks.items;
  keeps = λ own tables spares both. keeps_itself own tables c.args.func.now c.args.self.now both;
  remembers = λ x b. same_remembers x b c.args.func.now c.args.self.now c.args.self.now refl;
  structured = λ types own before. before;
}

pub loop-number-preserved : goal.loop-number-preserved
loop-number-preserved c =
    let number : c.new-block.result ≡ c.loop-number.number = first_of (search rules, grind (arith, common_steps)) in
    let seals : SealsOne c.loop-number.self c.seal_one_block.new.self c.loop-number.number =
    subst (λ k. SealsOne c.loop-number.self c.seal_one_block.new.self k) number c.in_ok-told.ensures.makes.sealed in
    let inside : c.loop-number.number < length c.args.func.now.blocks = first_of (search rules, grind (arith, common_steps)) in
    record {
      sealed = sealed-below c.loop-number.self c.seal_one_block.new.self c.loop-number.number c.loop-number.invariant.sealed seals;
      named = named-kept c.loop-number.func c.seal_one_block.new.func c.loop-number.self c.seal_one_block.new.self c.seal_one_block.ensures.keeps.predecessors c.seal_one_block.ensures.keeps.names
          c.loop-number.invariant.named;
      sealed_stays = λ b is.
          still-sealed c.loop-number.self c.seal_one_block.new.self c.new-block.result (inr c.in_ok-told.ensures.makes.sealed) b (c.loop-number.invariant.sealed_stays b is);
      others = λ b above.
          other-same c.loop-number.self c.seal_one_block.new.self c.loop-number.number (inr seals) b (omega (arith, inside, above)) ∙ c.loop-number.invariant.others b above;
      in_turn =
          subst (λ told. SealsBelow c.args.func.now c.args.self.now (c.loop-number.number + 1) c.seal_one_block.new.func c.seal_one_block.new.self told) (sym c.in_ok-append.ensures.ok)
          (next_sealed c.loop-number.invariant.in_turn
          (subst (λ k. SealsWith c.loop-number.func c.loop-number.self c.seal_one_block.new.func c.seal_one_block.new.self k c.in_ok-told.told) number (record {
            predecessors = c.seal_one_block.ensures.keeps.predecessors;
            local = c.in_ok-told.ensures.makes.local;
            completes = c.in_ok-told.ensures.makes.completes;
          })));
      counts =
          counts_then (λ variables below waits. waits below) c.loop-number.invariant.leaves.more.blocks c.loop-number.invariant.counts
          (counts_made (c.in_ok-told.ensures.counts (omega (arith, number, inside, c.loop-number.invariant.leaves.more.blocks))));
      leaves = all_keep_next c.args.func.now c.args.self.now c.loop-number.func c.loop-number.self c.seal_one_block.new.func c.seal_one_block.new.self c.new-block.result (omega (arith, number, inside)) c.loop-number.invariant.leaves c.seal_one_block.ensures.keeps;
      pools = λ named.
          next_pools c.args.func.now c.args.self.now c.loop-number.func c.loop-number.self c.seal_one_block.new.func c.seal_one_block.new.self c.new-block.result
          (omega (arith, number, inside)) (c.loop-number.invariant.waits named) (c.loop-number.invariant.pools named)
          (c.seal_one_block.ensures.pools (c.loop-number.invariant.leaves.names named));
      waits = λ named.
          next_waits c.args.func.now c.args.self.now c.loop-number.func c.loop-number.self c.seal_one_block.new.func c.seal_one_block.new.self c.new-block.result
          (omega (arith, number, inside)) (c.loop-number.invariant.leaves.names named) (c.loop-number.invariant.waits named)
          (c.seal_one_block.ensures.pools (c.loop-number.invariant.leaves.names named));
      tells =
          tells_more_then c.args.func.now c.loop-number.func c.seal_one_block.new.func _ _ _ c.seal_one_block.ensures.keeps.constructs c.loop-number.invariant.tells
          (_, c.in_ok-append.ensures.ok, c.in_ok-told.ensures.makes.tells);
      keeps = λ own tables spares both.
          keeps_then own tables c.loop-number.func c.seal_one_block.new.func c.loop-number.self c.seal_one_block.new.self (c.loop-number.invariant.keeps own tables spares both) c.seal_one_block.ensures.keeps.stay
          (λ blocks described.
          seal_keeps own c.loop-number.func c.seal_one_block.new.func c.loop-number.self c.seal_one_block.new.self blocks c.new-block.result (Ok c.in_ok-told.told)
          c.law_consistent.ensures
          (spares_later c.args.func.now c.loop-number.func c.args.self.now c.loop-number.self c.loop-number.invariant.leaves.constructs c.loop-number.invariant.leaves.predecessors
          (λ b i here. (both.0.leading b i here).1) c.new-block.result (spares c.new-block.result (omega (arith, number, inside))))
          described c.seal_one_block.ensures.keeps.predecessors c.in_ok-told.ensures.makes.local c.in_ok-told.ensures.makes.completes);
      remembers = λ x b.
          remembers_then x b c.args.func.now c.loop-number.func c.seal_one_block.new.func c.args.self.now c.loop-number.self c.seal_one_block.new.self (c.loop-number.invariant.remembers x b)
          (seal_remembers x b c.loop-number.func c.seal_one_block.new.func c.loop-number.self c.seal_one_block.new.self c.new-block.result (Ok c.in_ok-told.told)
          c.law_consistent.ensures c.loop-number.invariant.named c.seal_one_block.ensures.keeps.stay c.in_ok-told.ensures.makes.local c.in_ok-told.ensures.makes.completes);
      structured = λ types own before.
          seal_structured types own c.loop-number.func c.seal_one_block.new.func c.loop-number.self c.seal_one_block.new.self c.new-block.result (Ok c.in_ok-told.told)
          c.law_consistent.ensures (c.loop-number.invariant.structured types own before) c.seal_one_block.ensures.keeps.predecessors c.in_ok-told.ensures.makes.local c.in_ok-told.ensures.makes.completes;
    }

-- WHERE AN ERROR ENDS IT ------------------------------------------------------------------------------------------

pub returns-in_err-told-clause-makes : goal.returns-in_err-told-clause-makes
returns-in_err-told-clause-makes c =
    let p = err_from_is_err_and c.from_residual.result c.from_residual.ensures.1 in
    let number : c.new-block.result ≡ c.loop-number.number = first_of (search rules, grind (arith, common_steps)) in
    let inside : c.loop-number.number < length c.args.func.now.blocks = first_of (search rules, grind (arith, common_steps)) in
    rw p.1
    (all_makes_stopped c.args.func.now c.args.self.now c.loop-number.func c.loop-number.self c.seal_one_block.new.func c.seal_one_block.new.self c.new-block.result p.0
    (omega (arith, number, inside)) c.loop-number.invariant.sealed_stays c.loop-number.invariant.others c.in_err-told.ensures.makes.err)

pub returns-in_err-append-clause-makes : goal.returns-in_err-append-clause-makes
returns-in_err-append-clause-makes c =
    let p = err_from_is_err_and c.from_residual-in_err-append.result c.from_residual-in_err-append.ensures.1 in
    let number : c.new-block.result ≡ c.loop-number.number = first_of (search rules, grind (arith, common_steps)) in
    let inside : c.loop-number.number < length c.args.func.now.blocks = first_of (search rules, grind (arith, common_steps)) in
    rw p.1
    (all_makes_stopped c.args.func.now c.args.self.now c.loop-number.func c.loop-number.self c.seal_one_block.new.func c.seal_one_block.new.self c.new-block.result p.0
    (omega (arith, number, inside)) c.loop-number.invariant.sealed_stays c.loop-number.invariant.others (inr c.in_ok-told.ensures.makes.sealed))

pub returns-in_err-told-clause-gives : goal.returns-in_err-told-clause-gives
returns-in_err-told-clause-gives c =
    let p = err_from_is_err_and c.from_residual.result c.from_residual.ensures.1 in
    rw p.1 (gives_none _ _ c.args.func.now c.args.self.now c.seal_one_block.new.func c.seal_one_block.new.self p.0)

pub returns-in_err-append-clause-gives : goal.returns-in_err-append-clause-gives
returns-in_err-append-clause-gives c =
    let p = err_from_is_err_and c.from_residual-in_err-append.result c.from_residual-in_err-append.ensures.1 in
    rw p.1 (gives_none _ _ c.args.func.now c.args.self.now c.seal_one_block.new.func c.seal_one_block.new.self p.0)

pub returns-in_err-told-clause-keeps : goal.returns-in_err-told-clause-keeps
returns-in_err-told-clause-keeps c =
    let number : c.new-block.result ≡ c.loop-number.number = first_of (search rules, grind (arith, common_steps)) in
    let inside : c.loop-number.number < length c.args.func.now.blocks = first_of (search rules, grind (arith, common_steps)) in
    all_keep_next c.args.func.now c.args.self.now c.loop-number.func c.loop-number.self c.seal_one_block.new.func c.seal_one_block.new.self c.new-block.result
    (omega (arith, number, inside)) c.loop-number.invariant.leaves c.seal_one_block.ensures.keeps

pub returns-in_err-append-clause-keeps : goal.returns-in_err-append-clause-keeps
returns-in_err-append-clause-keeps c =
    let number : c.new-block.result ≡ c.loop-number.number = first_of (search rules, grind (arith, common_steps)) in
    let inside : c.loop-number.number < length c.args.func.now.blocks = first_of (search rules, grind (arith, common_steps)) in
    all_keep_next c.args.func.now c.args.self.now c.loop-number.func c.loop-number.self c.seal_one_block.new.func c.seal_one_block.new.self c.new-block.result
    (omega (arith, number, inside)) c.loop-number.invariant.leaves c.seal_one_block.ensures.keeps

pub returns-in_err-told-clause-ends : goal.returns-in_err-told-clause-ends
returns-in_err-told-clause-ends c =
    let p = err_from_is_err_and c.from_residual.result c.from_residual.ensures.1 in
    rw (p.1, p.2) (ends_as c.seal_one_block.new.func c.in_err-told.field-0.0 c.in_err-told.ensures.ends)

pub returns-in_err-append-clause-ends : goal.returns-in_err-append-clause-ends
returns-in_err-append-clause-ends c =
    let p = err_from_is_err_and c.from_residual-in_err-append.result c.from_residual-in_err-append.ensures.1 in
    rw (p.1, p.2) (ends_memory c.seal_one_block.new.func c.in_err-append.field-0.0 c.in_err-append.ensures.only_memory)

pub returns-in_err-told-clause-pools : goal.returns-in_err-told-clause-pools
returns-in_err-told-clause-pools c = λ named.
    let number : c.new-block.result ≡ c.loop-number.number = first_of (search rules, grind (arith, common_steps)) in
    let inside : c.loop-number.number < length c.args.func.now.blocks = first_of (search rules, grind (arith, common_steps)) in
    next_pools c.args.func.now c.args.self.now c.loop-number.func c.loop-number.self c.seal_one_block.new.func c.seal_one_block.new.self c.new-block.result
    (omega (arith, number, inside)) (c.loop-number.invariant.waits named) (c.loop-number.invariant.pools named)
    (c.seal_one_block.ensures.pools (c.loop-number.invariant.leaves.names named))

pub returns-in_err-append-clause-pools : goal.returns-in_err-append-clause-pools
returns-in_err-append-clause-pools c = λ named.
    let number : c.new-block.result ≡ c.loop-number.number = first_of (search rules, grind (arith, common_steps)) in
    let inside : c.loop-number.number < length c.args.func.now.blocks = first_of (search rules, grind (arith, common_steps)) in
    next_pools c.args.func.now c.args.self.now c.loop-number.func c.loop-number.self c.seal_one_block.new.func c.seal_one_block.new.self c.new-block.result
    (omega (arith, number, inside)) (c.loop-number.invariant.waits named) (c.loop-number.invariant.pools named)
    (c.seal_one_block.ensures.pools (c.loop-number.invariant.leaves.names named))

pub returns-in_err-told-clause-full : goal.returns-in_err-told-clause-full
returns-in_err-told-clause-full c = λ named is.
    let number : c.new-block.result ≡ c.loop-number.number = first_of (search rules, grind (arith, common_steps)) in
    let inside : c.loop-number.number < length c.args.func.now.blocks = first_of (search rules, grind (arith, common_steps)) in
    let p = err_from_is_err_and c.from_residual.result c.from_residual.ensures.1 in
    next_full c.args.func.now c.args.self.now c.loop-number.func c.loop-number.self c.seal_one_block.new.func c.new-block.result
    (omega (arith, number, inside)) (c.loop-number.invariant.waits named)
    (c.in_err-told.ensures.full_waiting (c.loop-number.invariant.leaves.names named) (full_before c.from_residual.result c.in_err-told.field-0.0 p.0 is p.1 p.2))

-- WHERE ALL ARE SEALED --------------------------------------------------------------------------------------------

pub returns-clause-makes : goal.returns-clause-makes
returns-clause-makes c =
    let at : c.loop-number.number ≡ length c.args.func.now.blocks = first_of (search rules, grind (arith, common_steps)) in
    record {
      sealed = λ b inside. c.loop-number.invariant.sealed b (omega (arith, inside, at));
      sealed_stays = c.loop-number.invariant.sealed_stays;
      others = c.loop-number.invariant.others;
      in_turn = subst (λ count. SealsBelow c.args.func.now c.args.self.now count c.loop-number.func c.loop-number.self c.loop-number.side_effects.instructions_added_to_blocks.items) at c.loop-number.invariant.in_turn;
    }

pub returns-clause-gives : goal.returns-clause-gives
returns-clause-gives c =
    let at : c.loop-number.number ≡ length c.args.func.now.blocks = first_of (search rules, grind (arith, common_steps)) in
    record {
      keeps = c.loop-number.invariant.keeps;
      remembers = c.loop-number.invariant.remembers;
      structured = c.loop-number.invariant.structured;
      tells = tells_all c.args.func.now c.loop-number.func _ _ c.new-side_effects.ensures c.loop-number.invariant.tells;
      tracks = λ named. seals_track c.args.func.now c.loop-number.func c.args.self.now c.loop-number.self c.loop-number.number _ named c.loop-number.invariant.in_turn;
      within = λ holds branches waiting.
          seals_within holds c.args.func.now c.loop-number.func c.args.self.now c.loop-number.self c.loop-number.number _
          (leads_of holds c.args.func.now c.args.self.now c.requires.named branches) (λ b below. waiting b (omega (arith, below, at))) c.loop-number.invariant.in_turn;
    }

pub returns-clause-keeps : goal.returns-clause-keeps
returns-clause-keeps c = c.loop-number.invariant.leaves

pub returns-clause-pools : goal.returns-clause-pools
returns-clause-pools c = c.loop-number.invariant.pools

pub returns-clause-ends : goal.returns-clause-ends
returns-clause-ends c = ends_ok c.loop-number.func _

-- HOW MUCH IT MAKES -----------------------------------------------------------------------------------------------

pub returns-in_err-told-clause-counts : goal.returns-in_err-told-clause-counts
returns-in_err-told-clause-counts c =
    let number : c.new-block.result ≡ c.loop-number.number = first_of (search rules, grind (arith, common_steps)) in
    let inside : c.loop-number.number < length c.args.func.now.blocks = first_of (search rules, grind (arith, common_steps)) in
    let p = err_from_is_err_and c.from_residual.result c.from_residual.ensures.1 in
    rw (p.1, p.2)
    (counts_as (counts_next (λ variables below waits. waits below) c.loop-number.invariant.leaves.more.blocks c.loop-number.invariant.counts
    (c.in_err-told.ensures.counts (omega (arith, number, inside, c.loop-number.invariant.leaves.more.blocks)))))

pub returns-in_err-append-clause-counts : goal.returns-in_err-append-clause-counts
returns-in_err-append-clause-counts c =
    let p = err_from_is_err_and c.from_residual-in_err-append.result c.from_residual-in_err-append.ensures.1 in
    rw (p.1, p.2) (counts_memory c.in_err-append.field-0.0 c.in_err-append.ensures.only_memory)

pub returns-clause-counts : goal.returns-clause-counts
returns-clause-counts c = counts_any c.loop-number.invariant.counts
