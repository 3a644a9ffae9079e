use Rattle.std.proofs.Common.{rules, ◌≡◌, ◌≤◌, ◌+◌, ◌∙◌, List, [], ◌∷◌, ◌++◌, length, map, set, ap, arith}
use Rattle.std.specs.Prelude.{◌==◌, if◌then◌else◌}
use Rattle.std.proofs.lemmas.Grind.{common_steps}
use Rattle.std.proofs.lemmas.List.{length_push}
use Rattle.clif_records.specs.declared.tables.BlockRow.{BlockRow}
use Rattle.clif_records.specs.declared.tables.RowState.TheVariants as state
use Rattle.clif_records.specs.declared.waiting.PendingNode.{PendingNode}
use Rattle.clif_records.specs.Tables.{No, Sealed, SsaBlock, pending_of, predecessors_at, sealed_at}
use Rattle.clif_records.specs.Waiting.{known_of, one_if_waiting}
use Rattle.clif_records.proofs.Linked.{counts_one, has_row, predecessors_kept, row_there, state_there, table_waits, waiting_few, waits_there}
use Rattle.clif_records.proofs.tables.BlockTable.wait.Goals as goal

pub overflow_add-self : goal.overflow_add-self
overflow_add-self c =
    let counts : c.from.result + one_if_waiting c.in-Unsealed.last ≡ 1 =
    counts_one c.in-Unsealed.last c.from.result (λ none. first_of (search rules, grind (arith, common_steps))) (λ some. first_of (search rules, grind (arith, common_steps))) in
    let one : c.from.result ≤ 1 = omega (arith, counts) in
    let few : c.self.inside.waiting ≤ length c.self.inside.rows.items = omega (arith, c.self.invariant.counted, waiting_few c.self.inside.rows.items) in
    omega (arith, one, few, c.self.invariant.few)

pub invariant_of-self-2 : goal.invariant_of-self-2
invariant_of-self-2 c =
    let rows = c.self.inside.rows.items in
    let nodes = c.self.inside.pending in
    let counts : c.from.result + one_if_waiting c.in-Unsealed.last ≡ 1 =
    counts_one c.in-Unsealed.last c.from.result (λ none. first_of (search rules, grind (arith, common_steps))) (λ some. first_of (search rules, grind (arith, common_steps))) in
    let n : PendingNode = record { pending = record { variable = c.args.variable; param = c.args.param }; previous = c.in-Unsealed.last } in
    let place : c.in_ok-place.place ≡ length nodes + 1 = c.in_ok-place.ensures.place ∙ ap (λ (ns : List PendingNode). length ns) c.in_ok-place.ensures.ok ∙ length_push nodes n in
    rw c.in_ok-place.ensures.ok
    (table_waits rows c.index-3.result _ nodes n c.self.inside.waiting c.from.result c.self.invariant
    (has_row nodes rows _ c.args.block _ c.self.view_is c.in_ok-declare.ensures.ok c.index-3.ensures.place)
    (state_there nodes rows _ c.args.block c.index.result c.index-3.result _ _ c.self.view_is c.in_ok-declare.ensures.ok c.index.ensures.place c.index-3.ensures.place c.index-2.ensures c.in-Unsealed.is)
    (ap state.Unsealed place) counts)

pub returns-clause-ok : goal.returns-clause-ok
returns-clause-ok c = λ b.
    let rows = c.self.inside.rows.items in
    let nodes = c.self.inside.pending in
    let n : PendingNode = record { pending = record { variable = c.args.variable; param = c.args.param }; previous = c.in-Unsealed.last } in
    let place : c.in_ok-place.place ≡ length nodes + 1 = c.in_ok-place.ensures.place ∙ ap (λ (ns : List PendingNode). length ns) c.in_ok-place.ensures.ok ∙ length_push nodes n in
    let row : BlockRow = record { predecessors = c.index_mut.result.now.predecessors; state = state.Unsealed c.in_ok-place.place } in
    let was : sealed_at (map (known_of nodes) rows) b ≡ sealed_at c.args.self.now b =
    ap (λ (view : List SsaBlock). sealed_at view b) c.self.view_is ∙ ap (λ (known : SsaBlock). known.sealed) (c.in_ok-declare.ensures.same b) in
    ap (λ (ns : List PendingNode). sealed_at (map (known_of ns) (set rows c.index-3.result row)) b) c.in_ok-place.ensures.ok
    ∙ waits_there rows c.index-3.result row nodes n c.self.inside.waiting c.self.invariant
    (has_row nodes rows _ c.args.block _ c.self.view_is c.in_ok-declare.ensures.ok c.index-3.ensures.place)
    (state_there nodes rows _ c.args.block c.index.result c.index-3.result _ _ c.self.view_is c.in_ok-declare.ensures.ok c.index.ensures.place c.index-3.ensures.place c.index-2.ensures c.in-Unsealed.is)
    (ap state.Unsealed place) b
    ∙ ap (λ k. if b == k then No (pending_of (sealed_at (map (known_of nodes) rows) b) ++ n.pending ∷ []) else sealed_at (map (known_of nodes) rows) b) c.index-3.ensures.place
    ∙ ap (λ (s : Sealed). if b == c.args.block then No (pending_of s ++ n.pending ∷ []) else s) was

pub returns-clause-predecessors : goal.returns-clause-predecessors
returns-clause-predecessors c = λ b.
    let rows = c.self.inside.rows.items in
    let nodes = c.self.inside.pending in
    let row : BlockRow = record { predecessors = c.index_mut.result.now.predecessors; state = state.Unsealed c.in_ok-place.place } in
    predecessors_kept rows c.index-3.result row nodes c.push.new.self (has_row nodes rows _ c.args.block _ c.self.view_is c.in_ok-declare.ensures.ok c.index-3.ensures.place)
    (ap (λ (r : BlockRow). r.predecessors) (row_there nodes rows _ c.args.block _ _ c.self.view_is c.in_ok-declare.ensures.ok c.index-3.ensures.place c.index_mut.ensures.value)) b
    ∙ ap (λ (view : List SsaBlock). predecessors_at view b) c.self.view_is ∙ ap (λ (known : SsaBlock). known.predecessors) (c.in_ok-declare.ensures.same b)
