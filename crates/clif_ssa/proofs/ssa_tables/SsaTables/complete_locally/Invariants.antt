use Rattle.std.proofs.Common.{◌≡◌, ◌++◌, ◌*◌, ◌<◌, ℕ, drop, length}
use Rattle.std.specs.Prelude.{Contains}
use Rattle.clif_records.specs.declared.tables.Pending.{Pending}
use Rattle.clif_tables.specs.Lists.{TableLists}
use Rattle.clif_ssa.specs.contracts.ssa_tables.SsaTables.{the_view}
use Rattle.clif_ssa.specs.Pools.{types_of, MayPoolAll}
use Rattle.clif_ssa.specs.Counted.{AddsAtMost}
use Rattle.clif_ssa.specs.Constructs.{OnlyConstructs, TellsMore}
use Rattle.clif_ssa.specs.Ssa.{completed, completing_blocks, counted_for, lookups_of, HasMore, SameRecords}
use Rattle.clif_ssa.specs.Running.{ToComplete}
use Rattle.clif_ssa.proofs.ssa_tables.SsaTables.complete_locally.Given as goal

abbrev pub invariant-loop-pending : goal.invariant-loop-pending
invariant-loop-pending l = record {
  function : completed l.func (drop l.pending-index l.waiting) ≡ completed l.initial.func l.waiting;
  told : l.side_effects.instructions_added_to_blocks.items ++ completing_blocks l.func (drop l.pending-index l.waiting)
      ≡ l.initial.side_effects.instructions_added_to_blocks.items ++ completing_blocks l.initial.func l.waiting;
  records : SameRecords (the_view l.initial.self-inside) (the_view l.self-inside);
  counted : (v b : ℕ) → counted_for l.block (drop l.pending-index l.waiting) v b (lookups_of (the_view l.self-inside) v b)
      ≡ counted_for l.block l.waiting v b (lookups_of (the_view l.initial.self-inside) v b);
  tracking : l.self-inside.tracking ≡ l.initial.self-inside.tracking;
  blocks : l.self-inside.blocks ≡ l.initial.self-inside.blocks;
  more : HasMore l.initial.func l.func;
  at_most : AddsAtMost (2 * l.pending-index) l.initial.func l.func;
  once : ToComplete (the_view l.initial.self-inside) l.block l.waiting → ToComplete (the_view l.self-inside) l.block (drop l.pending-index l.waiting);
  pools : ((p : Pending) → Contains l.waiting p → p.param < length l.initial.func.values) → (t : TableLists)
      → MayPoolAll (types_of l.initial.func (drop l.pending-index l.waiting)) l.func.tables t → MayPoolAll (types_of l.initial.func l.waiting) l.initial.func.tables t;
  constructs : OnlyConstructs l.initial.func l.func;
  tells : TellsMore l.initial.func l.func l.initial.side_effects.instructions_added_to_blocks.items l.side_effects.instructions_added_to_blocks.items;
}
