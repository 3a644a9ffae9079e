use Rattle.std.proofs.Common.{◌≡◌, ◌+◌, ◌<◌, ◌∙◌, ◌∷◌, ◌++◌, [], length, take, ap, subst, sym, false}
use Rattle.std.specs.Prelude.{EachIndex, slice_index}
use Rattle.std.proofs.lemmas.List.{length-replicate, take_all, take_more}
use Rattle.clif_instructions.specs.Members.{Once}
use Rattle.clif_number_sets.specs.Sets.{IsSet}
use Rattle.clif_safepoints.specs.FrontTables.{AreFronts, tables_of}
use Rattle.clif_safepoints.specs.LastPass.{IsListedBy, IsRecorded}
use Rattle.clif_safepoints.specs.Sets.{in_set_of}
use Rattle.clif_safepoints.specs.Tables.{AreRows}
use Rattle.clif_safepoints.specs.Transfer.{insts_of, is_live_before}
use Rattle.clif_safepoints.proofs.FrontTables.{fronts_more, fronts_none}
use Rattle.clif_safepoints.proofs.Recording.{insts_exist, insts_once, listed_more, listed_none}
use Rattle.clif_safepoints.proofs.Rows.{row_at}
use Rattle.clif_safepoints.proofs.last_pass.last_pass.Goals as goal
use Rattle.clif_safepoints.proofs.last_pass.last_pass.Goals.{After-as_slice-own_insts}

pub loop-block-init : goal.loop-block-init
loop-block-init c = (
  listed_none c.args.func.now c.args.recorded.now c.args.live_ins.now c.in_ok-across.across.items
      (subst (λ n. AreRows n (λ number. []) c.in_ok-across.across.items) c.inst_count.ensures.exact c.in_ok-across.ensures.ok),
  fronts_none c.args.func.now c.args.recorded.now c.args.live_ins.now c.block_count.result (tables_of c.in_ok-fronts.fronts) c.block_count.ensures.exact c.in_ok-fronts.ensures.ok,
  ap length c.in_ok-live.ensures.ok ∙ length-replicate c.len.result false ∙ c.len.ensures,
)

-- the instructions that were read are those of the block
insts_are : (c : After-as_slice-own_insts) → c.as_slice-own_insts.result.now ≡ insts_of c.args.func.now c.block-item.result
insts_are c =
    let there : c.block-item.result < length c.args.func.now.blocks =
    subst (λ b. b < length c.args.func.now.blocks) (sym c.block-item.is) (c.requires.order c.loop-block.block-index c.block-item.result c.loop-block-test.true) in
    c.as_slice-own_insts.ensures
    ∙ row_at c.args.insts.now c.index.result c.block-item.result c.index-insts-index.result [] c.index-insts-index.is c.index.ensures.place
    (subst (λ n. c.block-item.result < n) (sym c.requires.insts.size) there)
    ∙ c.requires.insts.rows c.block-item.result there

pub record_block-requires-clause-exist : goal.record_block-requires-clause-exist
record_block-requires-clause-exist c =
    subst (λ xs. EachIndex xs (λ k. slice_index xs k < length c.args.func.now.insts)) (sym (insts_are (goal.at.record_block-requires-clause-exist c).After-as_slice-own_insts))
    (insts_exist c.args.func.now c.law_consistent.ensures c.block-item.result)

pub record_block-requires-clause-once : goal.record_block-requires-clause-once
record_block-requires-clause-once c =
    subst (λ xs. Once xs) (sym (insts_are (goal.at.record_block-requires-clause-once c).After-as_slice-own_insts)) (insts_once c.args.func.now c.law_consistent.ensures c.block-item.result)

pub loop-block-preserved : goal.loop-block-preserved
loop-block-preserved c =
    let recorded : IsRecorded c.args.func.now c.args.recorded.now c.args.live_ins.now (insts_of c.args.func.now c.block-item.result) c.loop-block.across.items c.record_block.new.across.items =
    subst (λ xs. IsRecorded c.args.func.now c.args.recorded.now c.args.live_ins.now xs c.loop-block.across.items c.record_block.new.across.items)
    (insts_are (goal.at.loop-block-preserved c).After-as_slice-own_insts) c.in_ok-record_block.ensures.ok in
    let live : IsSet (length c.args.recorded.now)
    (λ k. is_live_before c.args.func.now (in_set_of c.args.live_ins.now k) (slice_index c.args.recorded.now k) (insts_of c.args.func.now c.block-item.result)) c.record_block.new.live =
    subst (λ xs. IsSet (length c.args.recorded.now) (λ k. is_live_before c.args.func.now (in_set_of c.args.live_ins.now k) (slice_index c.args.recorded.now k) xs) c.record_block.new.live)
    (insts_are (goal.at.loop-block-preserved c).After-as_slice-own_insts) c.in_ok-record_block.ensures.before in
    let more = listed_more c.args.func.now c.args.recorded.now c.args.live_ins.now (take c.loop-block.block-index c.args.order.now) c.block-item.result c.loop-block.across.items
    c.record_block.new.across.items c.law_consistent.ensures c.loop-block.invariant.0 recorded in
    let fronts = fronts_more c.args.func.now c.args.recorded.now c.args.live_ins.now (take c.loop-block.block-index c.args.order.now) c.block-item.result c.record_block.new.live
    (tables_of c.loop-block.fronts) (tables_of c.put.new.self) live c.loop-block.invariant.1 c.in_ok-put.ensures.ok in
    let order : take c.loop-block.block-index c.args.order.now ++ c.block-item.result ∷ [] ≡ take (c.loop-block.block-index + 1) c.args.order.now =
    ap (λ b. take c.loop-block.block-index c.args.order.now ++ b ∷ []) c.block-item.is ∙ sym (take_more c.args.order.now c.loop-block.block-index c.block-item.result c.loop-block-test.true) in (
      subst (λ blocks. IsListedBy c.args.func.now c.args.recorded.now c.args.live_ins.now blocks c.record_block.new.across.items) order more,
      subst (λ blocks. AreFronts c.args.func.now c.args.recorded.now c.args.live_ins.now blocks (tables_of c.put.new.self)) order fronts,
      c.in_ok-put.ensures.live,
    )

pub returns-clause-across : goal.returns-clause-across
returns-clause-across c =
    subst (λ blocks. IsListedBy c.args.func.now c.args.recorded.now c.args.live_ins.now blocks c.loop-block.across.items)
    (take_all c.loop-block.block-index c.args.order.now c.loop-block-test.false) c.loop-block.invariant.0

pub returns-clause-fronts : goal.returns-clause-fronts
returns-clause-fronts c =
    subst (λ blocks. AreFronts c.args.func.now c.args.recorded.now c.args.live_ins.now blocks (tables_of c.loop-block.fronts))
    (take_all c.loop-block.block-index c.args.order.now c.loop-block-test.false) c.loop-block.invariant.1
