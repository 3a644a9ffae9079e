use Rattle.std.proofs.Common.{◌≡◌, ◌^◌, ◌-◌, ◌<◌, ◌≤◌, ◌∙◌, [], ℕ, List, length, ap, arith, subst, sym, Some, false, slice_index_or}
use Rattle.std.specs.Prelude.{All, Contains}
use Rattle.std.proofs.lemmas.List.{length-replicate}
use Rattle.std.proofs.lemmas.List.Elements.{All-contains, Contains-get_or}
use Rattle.clif_safepoints.specs.Fronts.{IsFinished, IsStart}
use Rattle.clif_safepoints.specs.Graph.{sources_of}
use Rattle.clif_safepoints.specs.Progress.{IsTaken, Progress, progress_of}
use Rattle.clif_safepoints.proofs.Rows.{row_at}
use Rattle.clif_safepoints.proofs.Settling.{IsProgress, progress_end, progress_start, progress_step, round_block, round_marks, round_sets, source_of, stack_marked, to_do}
use Rattle.clif_safepoints.proofs.work_list.live_ins.Goals as goal
use Rattle.clif_safepoints.proofs.work_list.live_ins.Goals.{After-as_slice-own_sources, In-Some, In_ok-handle}

pub loop-block-init : goal.loop-block-init
loop-block-init c =
    let begun : IsStart (length c.args.func.now.blocks) (length c.args.recorded.now) c.args.order.now c.in_ok-work.work.sets.items c.in_ok-work.work.stack.items c.in_ok-work.work.waits =
    subst (λ n. IsStart n (length c.args.recorded.now) c.args.order.now c.in_ok-work.work.sets.items c.in_ok-work.work.stack.items c.in_ok-work.work.waits) c.block_count.ensures.exact
    (subst (λ n. IsStart c.block_count.result n c.args.order.now c.in_ok-work.work.sets.items c.in_ok-work.work.stack.items c.in_ok-work.work.waits) c.len.ensures c.in_ok-work.ensures.ok.0) in
    let with_handled : ℕ → Progress = λ n.
    record { sets = c.in_ok-work.work.sets.items; stack = c.in_ok-work.work.stack.items; waits = c.in_ok-work.work.waits; handled = n } in (
      subst (λ n. IsProgress c.args.func.now c.args.recorded.now c.args.order.now c.args.successors.now (with_handled n)) (sym c.in_ok-work.ensures.ok.1)
          (progress_start c.args.func.now c.args.recorded.now c.args.order.now c.args.successors.now c.in_ok-work.work.sets.items c.in_ok-work.work.stack.items c.in_ok-work.work.waits begun),
      ap length c.in_ok-live.ensures.ok ∙ length-replicate c.len-2.result false ∙ c.len-2.ensures,
    )

pub pop-requires : goal.pop-requires
pop-requires c = stack_marked c.args.func.now c.args.recorded.now c.args.order.now c.args.successors.now (progress_of c.loop-block.work) c.loop-block.invariant.0

order_there : (order : List ℕ) (count : ℕ) → All (λ b. b < count) order → (b : ℕ) → Contains order b → b < count
order_there order count all b h = All-contains (λ x. x < count) order b all h

took : (c : In-Some) → IsTaken (progress_of c.loop-block.work) (Some c.in-Some.block) (progress_of c.pop.new.self)
took c = c.in-Some.ensures

block_there : (c : In-Some) → c.in-Some.block < length c.args.func.now.blocks
block_there c =
    round_block c.args.func.now c.args.recorded.now c.args.order.now c.args.successors.now (progress_of c.loop-block.work) c.in-Some.block (progress_of c.pop.new.self)
    c.loop-block.invariant.0 (took c)

-- a number that an index has, in tables of this size
numbered : (number block count size : ℕ) → number ≡ block → block < count → size ≡ count → number < size
numbered number block count size same inside is = omega arith

pub bounds-insts-number : goal.bounds-insts-number
bounds-insts-number c =
    numbered c.index-number.result c.in-Some.block (length c.args.func.now.blocks) (length c.args.insts.now) c.index-number.ensures.place
    (block_there (goal.at.bounds-insts-number c).In-Some) c.requires.insts.size

pub bounds-sources-number : goal.bounds-sources-number
bounds-sources-number c =
    numbered c.index-number.result c.in-Some.block (length c.args.func.now.blocks) (length c.as_slice-sources.result.now) c.index-number.ensures.place
    (block_there (goal.at.bounds-sources-number c).In-Some)
    (ap length c.as_slice-sources.ensures.value ∙ c.in_ok-source_lists.ensures.ok.size ∙ c.requires.successors.size)

there_before : (c : After-as_slice-own_sources) → c.in-Some.block < length c.args.func.now.blocks
there_before c =
    round_block c.args.func.now c.args.recorded.now c.args.order.now c.args.successors.now (progress_of c.loop-block.work) c.in-Some.block (progress_of c.pop.new.self)
    c.loop-block.invariant.0 c.in-Some.ensures

-- the sources that were read are those of the block
sources_are : (c : After-as_slice-own_sources) → c.as_slice-own_sources.result.now ≡ sources_of c.args.successors.now c.args.order.now c.in-Some.block
sources_are c =
    let there : c.in-Some.block < length c.args.successors.now = subst (λ n. c.in-Some.block < n) (sym c.requires.successors.size) (there_before c) in
    c.as_slice-own_sources.ensures
    ∙ row_at c.as_slice-sources.result.now c.index-number.result c.in-Some.block c.index-sources-number.result [] c.index-sources-number.is c.index-number.ensures.place
    (subst (λ n. c.in-Some.block < n) (sym (ap length c.as_slice-sources.ensures.value ∙ c.in_ok-source_lists.ensures.ok.size)) there)
    ∙ ap (λ (table : List (List ℕ)). slice_index_or table c.in-Some.block []) c.as_slice-sources.ensures.value
    ∙ c.in_ok-source_lists.ensures.ok.rows c.in-Some.block there

pub handle-requires-clause-exists : goal.handle-requires-clause-exists
handle-requires-clause-exists c = block_there (goal.at.handle-requires-clause-exists c).In-Some

pub handle-requires-clause-insts : goal.handle-requires-clause-insts
handle-requires-clause-insts c =
    let there = block_there (goal.at.handle-requires-clause-insts c).In-Some in
    c.as_slice-own_insts.ensures
    ∙ row_at c.args.insts.now c.index-number.result c.in-Some.block c.index-insts-number.result [] c.index-insts-number.is c.index-number.ensures.place
    (subst (λ n. c.in-Some.block < n) (sym c.requires.insts.size) there)
    ∙ c.requires.insts.rows c.in-Some.block there

pub handle-requires-clause-sets : goal.handle-requires-clause-sets
handle-requires-clause-sets c =
    round_sets c.args.func.now c.args.recorded.now c.args.order.now c.args.successors.now (progress_of c.loop-block.work) c.in-Some.block (progress_of c.pop.new.self)
    c.loop-block.invariant.0 (took (goal.at.handle-requires-clause-sets c).In-Some)

pub handle-requires-clause-waits : goal.handle-requires-clause-waits
handle-requires-clause-waits c =
    round_marks c.args.func.now c.args.recorded.now c.args.order.now c.args.successors.now (progress_of c.loop-block.work) c.in-Some.block (progress_of c.pop.new.self)
    c.loop-block.invariant.0 (took (goal.at.handle-requires-clause-waits c).In-Some)

pub handle-requires-clause-sources : goal.handle-requires-clause-sources
handle-requires-clause-sources c =
    subst (λ xs. All (λ b. b < length c.args.func.now.blocks) xs) (sym (sources_are (goal.at.handle-requires-clause-sources c).After-as_slice-own_sources))
    (λ k d inside. order_there c.args.order.now (length c.args.func.now.blocks) c.requires.order
    (slice_index_or (sources_of c.args.successors.now c.args.order.now c.in-Some.block) k d)
    (source_of c.args.successors.now c.args.order.now c.in-Some.block (slice_index_or (sources_of c.args.successors.now c.args.order.now c.in-Some.block) k d)
    (Contains-get_or (sources_of c.args.successors.now c.args.order.now c.in-Some.block) k d inside)))

pub handle-requires-clause-live : goal.handle-requires-clause-live
handle-requires-clause-live c = c.loop-block.invariant.1

-- one round
round : (c : In_ok-handle) → c.as_slice-own_sources.result.now ≡ sources_of c.args.successors.now c.args.order.now c.in-Some.block
    → IsProgress c.args.func.now c.args.recorded.now c.args.order.now c.args.successors.now (progress_of c.handle.new.self)
    × (to_do c.args.recorded.now c.args.order.now c.args.successors.now (progress_of c.handle.new.self) < to_do c.args.recorded.now c.args.order.now c.args.successors.now (progress_of c.loop-block.work))
round c sources =
    let small : length c.args.order.now ≤ 2 ^ 128 - 1 = omega arith in
    progress_step c.args.func.now c.args.recorded.now c.args.order.now c.args.successors.now (progress_of c.loop-block.work) (progress_of c.pop.new.self) (progress_of c.handle.new.self)
    c.in-Some.block c.as_slice-own_sources.result.now small (order_there c.args.order.now (length c.args.func.now.blocks) c.requires.order)
    (λ b inside. c.requires.successors.rows b inside)
    (λ b h. order_there c.args.order.now (length c.args.func.now.blocks) c.requires.order b
    (source_of c.args.successors.now c.args.order.now c.in-Some.block b (subst (λ xs. Contains xs b) sources h)))
    sources c.loop-block.invariant.0 c.in-Some.ensures c.in_ok-handle.ensures.ok

pub loop-block-preserved : goal.loop-block-preserved
loop-block-preserved c = ((round c (sources_are (goal.at.loop-block-preserved c).After-as_slice-own_sources)).0, c.in_ok-handle.ensures.live)

pub loop-block-smaller : goal.loop-block-smaller
loop-block-smaller c = (round c (sources_are (goal.at.loop-block-smaller c).After-as_slice-own_sources)).1

pub returns-clause-ok : goal.returns-clause-ok
returns-clause-ok c =
    let end : IsFinished c.args.func.now c.args.recorded.now c.args.order.now c.loop-block.work.sets.items c.loop-block.work.handled =
    progress_end c.args.func.now c.args.recorded.now c.args.order.now c.args.successors.now (progress_of c.loop-block.work)
    (order_there c.args.order.now (length c.args.func.now.blocks) c.requires.order) (λ b inside. c.requires.successors.rows b inside) c.loop-block.invariant.0 c.in_default.ensures.0 in
    subst (λ (p : Progress). IsFinished c.args.func.now c.args.recorded.now c.args.order.now p.sets p.handled) (sym c.in_default.ensures.1) end
