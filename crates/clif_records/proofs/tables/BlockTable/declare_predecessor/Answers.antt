use Rattle.std.proofs.Common.{◌≡◌, ◌<◌, ◌∙◌, List, [], ◌∷◌, ◌++◌, length, ap}
use Rattle.std.proofs.lemmas.List.{get_or_read}
use Rattle.clif_records.specs.declared.tables.BlockRow.{BlockRow}
use Rattle.clif_records.specs.Tables.{SsaBlock, predecessors_at, sealed_at}
use Rattle.clif_records.specs.Waiting.{new_row, row_at}
use Rattle.clif_records.proofs.Linked.{has_row, predecessors_led, sealed_led, table_led}
use Rattle.clif_records.proofs.RecordLaws.{on_ok}
use Rattle.clif_records.proofs.tables.BlockTable.declare_predecessor.Goals as goal

there : (c : goal.After-self-1) → c.index.result < length c.self.inside.rows.items
there c = has_row _ _ _ c.args.block _ c.self.view_is c.in_ok-declare.ensures.ok c.index.ensures.place

row_is : (c : goal.After-self-1) → c.index_mut.result.now ≡ row_at c.self.inside.rows.items c.index.result
row_is c = get_or_read _ c.index.result _ (there c) c.index_mut.ensures.value new_row

pub invariant_of-self : goal.invariant_of-self
invariant_of-self c = table_led _ _ _ _ _ c.self.invariant (there c) (ap (λ (r : BlockRow). r.state) (row_is c))

pub returns-clause-sealed : goal.returns-clause-sealed
returns-clause-sealed c = λ b.
    sealed_led _ _ _ _ (there c) (ap (λ (r : BlockRow). r.state) (row_is c)) b ∙ ap (λ (view : List SsaBlock). sealed_at view b) c.self.view_is
    ∙ ap (λ (known : SsaBlock). known.sealed) (c.in_ok-declare.ensures.same b)

pub returns-clause-ok : goal.returns-clause-ok
returns-clause-ok c =
    on_ok c.push.result (c.push.new.self ≡ c.index_mut.result.now.predecessors ++ c.args.branch ∷ []) _ (λ pushed.
    predecessors_led _ _ _ _ _ (λ leading. leading ++ c.args.branch ∷ []) (λ b. predecessors_at c.args.self.now b) (there c) c.index.ensures.place
    (pushed ∙ ap (λ (r : BlockRow). r.predecessors ++ c.args.branch ∷ []) (row_is c))
    (λ b. ap (λ (view : List SsaBlock). predecessors_at view b) c.self.view_is ∙ ap (λ (known : SsaBlock). known.predecessors) (c.in_ok-declare.ensures.same b)))
    c.push.ensures.ok
