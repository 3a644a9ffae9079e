use Rattle.std.proofs.Common.{◌&&◌, ◌<◌, ap, length, not, subst, sym, slice_index, slice_set}
use Rattle.clif_instructions.specs.Members.{stands_in}
use Rattle.clif_number_sets.specs.Sets.{IsSet, is_in}
use Rattle.clif_safepoints.specs.FrontTables.{before_params}
use Rattle.clif_safepoints.specs.LastPass.{IsRow}
use Rattle.clif_safepoints.proofs.FrontTables.{row_before, row_put}
use Rattle.clif_safepoints.proofs.fronts.Fronts.put.Goals as goal

pub returns-clause-ok : goal.returns-clause-ok
returns-clause-ok c = record {
  live_in = row_put c.args.recorded.now (before_params c.args.func.now c.args.recorded.now (is_in c.args.live.now) c.args.block) c.args.block
      c.args.self.now.live_in.items (slice_set c.args.self.now.live_in.items c.index-2.result c.in_ok-before.before) c.in_ok-before.before
      (subst (λ n. c.args.block < n) (sym c.requires.tables.live_in) c.requires.exists)
      (ap (λ n. slice_set c.args.self.now.live_in.items n c.in_ok-before.before) c.index-2.ensures.place) before;
  after_params = row_put c.args.recorded.now (is_in c.args.live.now) c.args.block
      c.args.self.now.after_params.items (slice_set c.args.self.now.after_params.items c.index.result c.in_ok-after.after) c.in_ok-after.after
      (subst (λ n. c.args.block < n) (sym c.requires.tables.after_params) c.requires.exists)
      (ap (λ n. slice_set c.args.self.now.after_params.items n c.in_ok-after.after) c.index.ensures.place) c.in_ok-after.ensures.ok;
}
  where
    before : IsRow c.args.recorded.now (before_params c.args.func.now c.args.recorded.now (is_in c.args.live.now) c.args.block) c.in_ok-before.before
    before =
        row_before c.args.func.now c.args.recorded.now c.args.block c.args.live.now c.remove_defs.new.live c.in_ok-before.before
        (subst (λ params. IsSet (length c.args.recorded.now) (λ k. not (stands_in (slice_index c.args.recorded.now k) params) && is_in c.args.live.now k) c.remove_defs.new.live)
        c.block_params.ensures.exact c.remove_defs.ensures) c.in_ok-before.ensures.ok
