use Rattle.std.proofs.Common.{◌<◌, ◌≤◌, true, List, ℕ, length, sym, ap, subst, ◌∙◌, arith, ◌⊎◌, inl, inr}
use Rattle.std.specs.Prelude.{ltb}
use Rattle.std.proofs.lemmas.Bool.{le-ltb, lt-ltb}
use Rattle.clif_ssa.specs.Ssa.{SsaState, NamesExist, RecordsStay, sealed_of}
use Rattle.clif_records.specs.Tables.{is_yes}
use Rattle.std.proofs.lemmas.Result.{err_from_is_err_and}
use Rattle.clif_ssa.specs.Pools.{SealingIsFull, WaitsWithType}
use Rattle.clif_ssa.proofs.CountedSteps.{counts_any, counts_as, counts_made}
use Rattle.clif_ssa.proofs.PuttingSteps.{full_before}
use Rattle.clif_builder.specs.Context.{ContextState}
use Rattle.clif_builder.specs.Construction.{IsSealingAll}
use Rattle.clif_builder.proofs.Growing.{on_ok_step}
use Rattle.clif_builder.proofs.Made.{seal_all_makes}
use Rattle.clif_builder.proofs.Statuses.{begins_from}
use Rattle.clif_builder.proofs.LedgerLists.{if-no, if-yes}
use Rattle.clif_builder.proofs.Tracks.{tracks}
use Rattle.clif_builder.proofs.context.ContextParts.seal_all_blocks.Goals as goal

order : (n k : ℕ) → (n ≤ k) ⊎ (k < n)
order n k = grind arith

pub returns-clause-is_sealing : goal.returns-clause-is_sealing
returns-clause-is_sealing c =
    let done = c.in_ok-side_effects.ensures in
    let named : NamesExist c.args.func.now c.self.inside.ssa = subst (λ (v : ContextState). NamesExist c.args.func.now v.ssa) (sym c.self.view_is) c.requires.named in
    let told : List ℕ = c.in_ok-side_effects.side_effects.instructions_added_to_blocks.items in
    let sealing : IsSealingAll c.args.func.now c.self.inside.ssa c.seal_all_blocks.new.func c.seal_all_blocks.new.self told = record {
      constructs = done.keeps.constructs;
      tells = done.gives.tells;
      within = λ holds branches waiting. done.gives.within holds branches (λ b below. waiting b (lt-ltb b (length c.args.func.now.blocks) below));
      predecessors = done.keeps.predecessors;
      sealed = λ b.
          elim (order (length c.args.func.now.blocks) b) [
            | inl past ↦ done.makes.others b past ∙ sym (if-no (ltb b (length c.args.func.now.blocks)) true (is_yes (sealed_of c.self.inside.ssa b)) (le-ltb b (length c.args.func.now.blocks) past))
            | inr below ↦ done.makes.sealed b below ∙ sym (if-yes (ltb b (length c.args.func.now.blocks)) true (is_yes (sealed_of c.self.inside.ssa b)) (lt-ltb b (length c.args.func.now.blocks) below))
          ];
      stay = done.keeps.stay;
      tracks = tracks (done.gives.tracks named);
      makes = seal_all_makes c.args.func.now c.seal_all_blocks.new.func c.self.inside.ssa c.seal_all_blocks.new.self (length c.args.func.now.blocks) told done.makes.in_turn;
      counted = λ exist. counts_made done.counts;
      remembers = done.gives.remembers;
      structured = done.gives.structured;
      keeps = λ own tables spares. done.gives.keeps own tables (λ b below. spares b (lt-ltb b (length c.args.func.now.blocks) below));
    } in
    on_ok_step c.begin_all.result _ _ (λ begins. (
      told,
      subst (λ (v : ContextState). IsSealingAll c.args.func.now v.ssa c.seal_all_blocks.new.func c.begin_all.new.self.ssa told) c.self.view_is
          (subst (λ (t : SsaState). IsSealingAll c.args.func.now c.self.inside.ssa c.seal_all_blocks.new.func t told) (sym c.begin_all.ensures.ssa) sealing),
      begins_from c.args.self.now (record { ssa = c.seal_all_blocks.new.self; status = c.self.inside.status; variables = c.self.inside.variables.items; touched = c.self.inside.touched }) c.begin_all.new.self c.as_slice.result.now told
          (ap (λ (v : ContextState). v.status) c.self.view_is) c.as_slice.ensures.value begins,
    )) c.begin_all.ensures.status

pub returns-clause-stay : goal.returns-clause-stay
returns-clause-stay c =
    subst (λ (v : ContextState). RecordsStay v.ssa c.begin_all.new.self.ssa) c.self.view_is
    (subst (RecordsStay c.self.inside.ssa) (sym c.begin_all.ensures.ssa) c.seal_all_blocks.ensures.keeps.stay)

pub returns-in_err-side_effects-clause-stay : goal.returns-in_err-side_effects-clause-stay
returns-in_err-side_effects-clause-stay c =
    subst (λ (v : ContextState). RecordsStay v.ssa c.seal_all_blocks.new.self) c.self.view_is c.seal_all_blocks.ensures.keeps.stay

pub returns-in_err-side_effects-clause-full : goal.returns-in_err-side_effects-clause-full
returns-in_err-side_effects-clause-full c = λ is.
    let p = err_from_is_err_and c.from_residual.result c.from_residual.ensures.1 in
    subst (λ (v : ContextState). SealingIsFull (WaitsWithType c.args.func.now v.ssa) c.seal_all_blocks.new.func) c.self.view_is
    (c.in_err-side_effects.ensures.full
    (subst (λ (v : ContextState). NamesExist c.args.func.now v.ssa) (sym c.self.view_is) c.requires.named)
    (full_before c.from_residual.result c.in_err-side_effects.field-0.0 p.0 is p.1 p.2))

pub returns-in_err-side_effects-clause-counts : goal.returns-in_err-side_effects-clause-counts
returns-in_err-side_effects-clause-counts c =
    let p = err_from_is_err_and c.from_residual.result c.from_residual.ensures.1 in
    rw (p.1, p.2, ← c.self.view_is) (counts_as c.in_err-side_effects.ensures.counts)

pub returns-clause-counts : goal.returns-clause-counts
returns-clause-counts c = rw (← c.self.view_is, c.begin_all.ensures.ssa) (counts_any (counts_made c.in_ok-side_effects.ensures.counts))
