use Rattle.std.proofs.Common.{List, ℕ, sym, ap, subst}
use Rattle.std.specs.Prelude.{Ok}
use Rattle.clif_ssa.specs.Ssa.{SsaState, NamesExist}
use Rattle.clif_ssa.proofs.Constructing.{constructs_none}
use Rattle.clif_ssa.proofs.CountedSteps.{counts_any, counts_as, counts_made, counts_none}
use Rattle.std.proofs.lemmas.Result.{err_from_is_err_and}
use Rattle.clif_builder.specs.Context.{ContextState}
use Rattle.clif_builder.specs.Construction.{IsUse}
use Rattle.clif_builder.proofs.Made.{use_makes}
use Rattle.clif_builder.proofs.Statuses.{begins_from}
use Rattle.clif_builder.proofs.Tracks.{tracks}
use Rattle.clif_builder.proofs.context.ContextParts.use_var.Goals as goal

pub returns-in_err-insert-clause-constructs : goal.returns-in_err-insert-clause-constructs
returns-in_err-insert-clause-constructs c = constructs_none c.args.func.now

pub returns-clause-is_use : goal.returns-clause-is_use
returns-clause-is_use c =
    let done = c.in_ok-value.ensures in
    let named : NamesExist c.args.func.now c.self.inside.ssa = subst (λ (v : ContextState). NamesExist c.args.func.now v.ssa) (sym c.self.view_is) c.requires.named in
    let told : List ℕ = c.in_ok-value.side_effects.instructions_added_to_blocks.items in
    let is_use : IsUse c.args.func.now c.self.inside.ssa c.use_var.new.func c.use_var.new.self c.args.variable c.args.ty c.args.block c.in_ok-value.value told = record {
      constructs = done.leaves.constructs;
      tells = done.gives.tells;
      within = done.gives.within;
      predecessors = done.leaves.predecessors;
      flags = done.leaves.flags;
      stay = done.leaves.stay;
      remembers = done.gives.remembers;
      recorded = done.gives.recorded;
      tracks = tracks (done.gives.tracks named);
      makes =
          use_makes c.args.func.now c.use_var.new.func c.self.inside.ssa c.use_var.new.self c.args.variable c.args.ty c.args.block
          (Ok (c.in_ok-value.value, c.in_ok-value.side_effects)) done.makes.known done.makes.waits done.makes.zero done.makes.looks;
      counted = counts_made done.counts;
      structured = done.gives.structured;
      keeps = done.gives.keeps;
    } in (
      told,
      subst (λ (v : ContextState). IsUse c.args.func.now v.ssa c.use_var.new.func c.begin_all.new.self.ssa c.args.variable c.args.ty c.args.block c.in_ok-value.value told) c.self.view_is
          (subst (λ (t : SsaState). IsUse c.args.func.now c.self.inside.ssa c.use_var.new.func t c.args.variable c.args.ty c.args.block c.in_ok-value.value told) (sym c.begin_all.ensures.ssa) is_use),
      begins_from c.args.self.now (record { ssa = c.use_var.new.self; status = c.self.inside.status; variables = c.self.inside.variables.items; touched = c.insert.new.self }) c.begin_all.new.self c.as_slice.result.now told
          (ap (λ (v : ContextState). v.status) c.self.view_is) c.as_slice.ensures.value c.in_ok-begin_all.ensures.status,
    )

pub returns-in_err-insert-clause-counts : goal.returns-in_err-insert-clause-counts
returns-in_err-insert-clause-counts c = rw (← c.self.view_is) (counts_any (counts_none 0 c.args.func.now c.self.inside.ssa))

pub returns-in_err-value-clause-counts : goal.returns-in_err-value-clause-counts
returns-in_err-value-clause-counts c =
    let p = err_from_is_err_and c.from_residual-in_err-value.result c.from_residual-in_err-value.ensures.1 in
    rw (p.1, p.2, ← c.self.view_is) (counts_as c.in_err-value.ensures.counts)

pub returns-in_err-begin_all-clause-counts : goal.returns-in_err-begin_all-clause-counts
returns-in_err-begin_all-clause-counts c = rw (← c.self.view_is, c.begin_all.ensures.ssa) (counts_any (counts_made c.in_ok-value.ensures.counts))

pub returns-clause-counts : goal.returns-clause-counts
returns-clause-counts c = rw (← c.self.view_is, c.begin_all.ensures.ssa) (counts_any (counts_made c.in_ok-value.ensures.counts))
