use Rattle.std.proofs.Common.{◌≡◌, ◌+◌, ◌∙◌, ℕ, List, [], ◌∷◌, ◌++◌, length, ap, arith, refl}
use Rattle.std.proofs.lemmas.List.{length_push}
use Rattle.clif_records.specs.declared.tables.BlockRow.{BlockRow}
use Rattle.clif_records.specs.declared.tables.RowState.TheVariants as state
use Rattle.clif_records.specs.Waiting.{last_of, new_row, one_if_waiting, row_at, waiting_rows}
use Rattle.clif_records.proofs.Linked.{known_grown, same_rows, waiting_more}
use Rattle.clif_records.proofs.tables.BlockTable.declare.Goals as goal

pub returns-in_err-push-clause-same : goal.returns-in_err-push-clause-same
returns-in_err-push-clause-same c =
    known_grown _ _ _ _ _ c.self.view_is c.loop.invariant.3 (λ b. ap (λ (rows : List BlockRow). row_at rows b) c.in_err-push.ensures.items ∙ c.loop.invariant.1 b)

pub loop-preserved : goal.loop-preserved
loop-preserved c =
    let so = c.loop.invariant in
    let rows = c.loop.self-inside.rows.items in
    let pushed : c.push.new.self.items ≡ rows ++ new_row ∷ [] =
    c.in_ok-push.ensures.items ∙ ap (λ (p : List ℕ). let row : BlockRow = record { predecessors = p; state = state.Unsealed 0 } in rows ++ row ∷ []) c.new.ensures in
    let count : length c.push.new.self.items ≡ length rows + 1 = ap length pushed ∙ length_push rows new_row in
    let none : one_if_waiting (last_of new_row.state) ≡ 0 = refl in
    let waiting : waiting_rows c.push.new.self.items ≡ waiting_rows rows = ap waiting_rows pushed ∙ waiting_more rows new_row ∙ (let e : waiting_rows rows + one_if_waiting (last_of new_row.state) ≡ waiting_rows rows = omega (arith, none) in e) in
    (omega (arith, count, so.0), λ b. ap (λ (more : List BlockRow). row_at more b) pushed ∙ same_rows rows b ∙ so.1 b, waiting ∙ so.2, so.3, so.4)

pub returns-clause-same : goal.returns-clause-same
returns-clause-same c = known_grown _ _ _ _ _ c.self.view_is c.loop.invariant.3 c.loop.invariant.1
