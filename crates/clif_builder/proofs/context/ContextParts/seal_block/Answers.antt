use Rattle.std.proofs.Common.{◌≡◌, List, [], ℕ, refl, sym, ap, subst, ◌∙◌}
use Rattle.std.proofs.lemmas.Bool.{eq-eqb}
use Rattle.std.specs.Prelude.{Contains}
use Rattle.clif_records.specs.Tables.{pending_of}
use Rattle.clif_ssa.specs.Ssa.{SsaState, NamesExist, RecordsStay, sealed_of}
use Rattle.std.proofs.lemmas.Result.{err_from_is_err_and}
use Rattle.clif_ssa.specs.Pools.{types_of, SealingIsFull}
use Rattle.clif_ssa.proofs.CountedSteps.{counts_any, counts_as, counts_made}
use Rattle.clif_ssa.proofs.PuttingSteps.{full_before}
use Rattle.clif_builder.specs.Context.{ContextState}
use Rattle.clif_builder.specs.Construction.{IsSealing, SealsAlone}
use Rattle.clif_builder.proofs.Growing.{on_ok_step}
use Rattle.clif_builder.proofs.Made.{seal_makes}
use Rattle.clif_builder.proofs.SealingAlone.{seals_alone}
use Rattle.clif_builder.proofs.Statuses.{begins_from}
use Rattle.clif_builder.proofs.Tracks.{tracks}
use Rattle.clif_builder.proofs.context.ContextParts.seal_block.Goals as goal

pub returns-clause-is_sealing : goal.returns-clause-is_sealing
returns-clause-is_sealing c =
    let done = c.in_ok-side_effects.ensures in
    let named : NamesExist c.args.func.now c.self.inside.ssa = subst (λ (v : ContextState). NamesExist c.args.func.now v.ssa) (sym c.self.view_is) c.requires.named in
    let told : List ℕ = c.in_ok-side_effects.side_effects.instructions_added_to_blocks.items in
    let sealing : IsSealing c.args.func.now c.self.inside.ssa c.seal_block.new.func c.seal_block.new.self c.args.block told = record {
      constructs = done.keeps.constructs;
      tells = done.gives.tells;
      within = λ holds branches waiting. done.gives.within holds branches (waiting c.args.block (eq-eqb c.args.block c.args.block refl));
      predecessors = done.keeps.predecessors;
      sealed = done.makes.sealed;
      stay = done.keeps.stay;
      tracks = tracks (done.gives.tracks named);
      makes = seal_makes c.args.func.now c.seal_block.new.func c.self.inside.ssa c.seal_block.new.self c.args.block c.in_ok-side_effects.side_effects done.makes.local done.makes.completes;
      counted = λ exist. counts_made (done.counts (exist c.args.block (eq-eqb c.args.block c.args.block refl)));
      remembers = done.gives.remembers;
      structured = done.gives.structured;
      keeps = λ own tables spares. done.gives.keeps own tables (spares c.args.block (eq-eqb c.args.block c.args.block refl));
    } in
    on_ok_step c.begin_all.result _ _ (λ begins. (
      told,
      subst (λ (v : ContextState). IsSealing c.args.func.now v.ssa c.seal_block.new.func c.begin_all.new.self.ssa c.args.block told) c.self.view_is
          (subst (λ (t : SsaState). IsSealing c.args.func.now c.self.inside.ssa c.seal_block.new.func t c.args.block told) (sym c.begin_all.ensures.ssa) sealing),
      begins_from c.args.self.now (record { ssa = c.seal_block.new.self; status = c.self.inside.status; variables = c.self.inside.variables.items; touched = c.self.inside.touched }) c.begin_all.new.self c.as_slice.result.now told
          (ap (λ (v : ContextState). v.status) c.self.view_is) c.as_slice.ensures.value begins,
    )) c.begin_all.ensures.status

pub returns-clause-alone : goal.returns-clause-alone
returns-clause-alone c = λ none.
    let done = c.in_ok-side_effects.ensures in
    let here : pending_of (sealed_of c.self.inside.ssa c.args.block) ≡ [] = ap (λ (v : ContextState). pending_of (sealed_of v.ssa c.args.block)) c.self.view_is ∙ none in
    let sealed : SealsAlone c.args.func.now c.self.inside.ssa c.seal_block.new.func c.seal_block.new.self c.args.block =
    seals_alone c.args.func.now c.seal_block.new.func c.self.inside.ssa c.seal_block.new.self c.args.block c.in_ok-side_effects.side_effects here done.makes.local done.makes.completes in
    on_ok_step c.begin_all.result _ _ (λ begins.
    subst (λ (v : ContextState). SealsAlone c.args.func.now v.ssa c.seal_block.new.func c.begin_all.new.self.ssa c.args.block) c.self.view_is
    (subst (λ (t : SsaState). SealsAlone c.args.func.now c.self.inside.ssa c.seal_block.new.func t c.args.block) (sym c.begin_all.ensures.ssa) sealed)) c.begin_all.ensures.status

pub returns-clause-stay : goal.returns-clause-stay
returns-clause-stay c =
    subst (λ (v : ContextState). RecordsStay v.ssa c.begin_all.new.self.ssa) c.self.view_is
    (subst (RecordsStay c.self.inside.ssa) (sym c.begin_all.ensures.ssa) c.seal_block.ensures.keeps.stay)

pub returns-in_err-side_effects-clause-stay : goal.returns-in_err-side_effects-clause-stay
returns-in_err-side_effects-clause-stay c =
    subst (λ (v : ContextState). RecordsStay v.ssa c.seal_block.new.self) c.self.view_is c.seal_block.ensures.keeps.stay

pub returns-in_err-side_effects-clause-full : goal.returns-in_err-side_effects-clause-full
returns-in_err-side_effects-clause-full c = λ is.
    let p = err_from_is_err_and c.from_residual.result c.from_residual.ensures.1 in
    subst (λ (v : ContextState). SealingIsFull (Contains (types_of c.args.func.now (pending_of (sealed_of v.ssa c.args.block)))) c.seal_block.new.func) c.self.view_is
    (c.in_err-side_effects.ensures.full
    (subst (λ (v : ContextState). NamesExist c.args.func.now v.ssa) (sym c.self.view_is) c.requires.named)
    (full_before c.from_residual.result c.in_err-side_effects.field-0.0 p.0 is p.1 p.2))

pub returns-in_err-side_effects-clause-counts : goal.returns-in_err-side_effects-clause-counts
returns-in_err-side_effects-clause-counts c = λ exists.
    let p = err_from_is_err_and c.from_residual.result c.from_residual.ensures.1 in
    rw (p.1, p.2, ← c.self.view_is) (counts_as (c.in_err-side_effects.ensures.counts exists))

pub returns-clause-counts : goal.returns-clause-counts
returns-clause-counts c = λ exists. rw (← c.self.view_is, c.begin_all.ensures.ssa) (counts_any (counts_made (c.in_ok-side_effects.ensures.counts exists)))
