use Rattle.std.proofs.Common.{rules, refl, ◌≡◌, ◌-◌, ◌∙◌, ℕ, List, map, set, ap, arith, sym}
use Rattle.std.specs.Prelude.{◌==◌, if◌then◌else◌}
use Rattle.std.proofs.lemmas.Grind.{common_steps}
use Rattle.clif_records.specs.declared.tables.BlockRow.{BlockRow}
use Rattle.clif_records.specs.declared.tables.RowState.TheVariants as state
use Rattle.clif_records.specs.declared.waiting.PendingNode.{PendingNode}
use Rattle.clif_records.specs.Tables.{Sealed, SsaBlock, Yes, predecessors_at, sealed_at}
use Rattle.clif_records.specs.Waiting.{IsBlockTable, known_of, last_of, one_if_waiting, row_at}
use Rattle.clif_records.proofs.Linked.{counted_there, counts_some, has_row, predecessors_kept, row_there, same_emptied, seals_there, state_there, table_emptied, table_seals}
use Rattle.clif_records.proofs.tables.BlockTable.seal.Goals as goal
use Rattle.clif_records.proofs.tables.BlockTable.seal.Goals.{then-self-eq0, else-self-eq0}

-- what is counted for the block before it is sealed
one_is : (last one : ℕ) (rows : List BlockRow) (k : ℕ) → one ≡ one_if_waiting last → (row_at rows k).state ≡ state.Unsealed last → one ≡ one_if_waiting (last_of (row_at rows k).state)
one_is last one rows k counts is = counts ∙ ap (λ (s : state.the_data). one_if_waiting (last_of s)) (sym is)

pub overflow_sub-self : goal.overflow_sub-self
overflow_sub-self c =
    let rows = c.self.inside.rows.items in
    let there = has_row c.self.inside.pending rows _ c.args.block _ c.self.view_is c.in_ok-declare.ensures.ok c.index-3.ensures.place in
    let is = state_there c.self.inside.pending rows _ c.args.block c.index.result c.index-3.result _ _ c.self.view_is c.in_ok-declare.ensures.ok c.index.ensures.place c.index-3.ensures.place c.index-2.ensures c.in-Unsealed.is in
    let counts : c.from.result ≡ one_if_waiting c.in-Unsealed.last =
    counts_some c.in-Unsealed.last c.from.result (λ none. first_of (search rules, grind (arith, common_steps))) (λ some. first_of (search rules, grind (arith, common_steps))) in
    omega (arith, one_is c.in-Unsealed.last c.from.result rows c.index-3.result counts is, counted_there rows c.index-3.result there, c.self.invariant.counted)

pub invariant_of-self-else-self-eq0 : goal.invariant_of-self-else-self-eq0
invariant_of-self-else-self-eq0 c =
    let rows = c.self.inside.rows.items in
    let row : BlockRow = record { predecessors = c.index_mut.result.now.predecessors; state = state.Sealed } in
    let there = has_row c.self.inside.pending rows _ c.args.block _ c.self.view_is c.in_ok-declare.ensures.ok c.index-3.ensures.place in
    let is = state_there c.self.inside.pending rows _ c.args.block c.index.result c.index-3.result _ _ c.self.view_is c.in_ok-declare.ensures.ok c.index.ensures.place c.index-3.ensures.place c.index-2.ensures c.in-Unsealed.is in
    let counts : c.from.result ≡ one_if_waiting c.in-Unsealed.last =
    counts_some c.in-Unsealed.last c.from.result (λ none. first_of (search rules, grind (arith, common_steps))) (λ some. first_of (search rules, grind (arith, common_steps))) in
    table_seals rows c.index-3.result row c.self.inside.pending c.self.inside.waiting c.from.result c.self.invariant there refl (one_is c.in-Unsealed.last c.from.result rows c.index-3.result counts is)

pub invariant_of-self : goal.invariant_of-self
invariant_of-self c =
    let rows = c.self.inside.rows.items in
    let row : BlockRow = record { predecessors = c.index_mut.result.now.predecessors; state = state.Sealed } in
    let there = has_row c.self.inside.pending rows _ c.args.block _ c.self.view_is c.in_ok-declare.ensures.ok c.index-3.ensures.place in
    let is = state_there c.self.inside.pending rows _ c.args.block c.index.result c.index-3.result _ _ c.self.view_is c.in_ok-declare.ensures.ok c.index.ensures.place c.index-3.ensures.place c.index-2.ensures c.in-Unsealed.is in
    let counts : c.from.result ≡ one_if_waiting c.in-Unsealed.last =
    counts_some c.in-Unsealed.last c.from.result (λ none. first_of (search rules, grind (arith, common_steps))) (λ some. first_of (search rules, grind (arith, common_steps))) in
    rw c.clear.ensures
    (table_emptied _ _ _
    (table_seals rows c.index-3.result row c.self.inside.pending c.self.inside.waiting c.from.result c.self.invariant there refl (one_is c.in-Unsealed.last c.from.result rows c.index-3.result counts is))
    c.if-self-eq0.true)

pub returns-clause-ok : goal.returns-clause-ok
returns-clause-ok c = λ b.
    let rows = c.self.inside.rows.items in
    let nodes = c.self.inside.pending in
    let row : BlockRow = record { predecessors = c.index_mut.result.now.predecessors; state = state.Sealed } in
    let there = has_row nodes rows _ c.args.block _ c.self.view_is c.in_ok-declare.ensures.ok c.index-3.ensures.place in
    let is = state_there nodes rows _ c.args.block c.index.result c.index-3.result _ _ c.self.view_is c.in_ok-declare.ensures.ok c.index.ensures.place c.index-3.ensures.place c.index-2.ensures c.in-Unsealed.is in
    let counts : c.from.result ≡ one_if_waiting c.in-Unsealed.last =
    counts_some c.in-Unsealed.last c.from.result (λ none. first_of (search rules, grind (arith, common_steps))) (λ some. first_of (search rules, grind (arith, common_steps))) in
    let table : IsBlockTable (set rows c.index-3.result row) nodes (c.self.inside.waiting - c.from.result) =
    table_seals rows c.index-3.result row nodes c.self.inside.waiting c.from.result c.self.invariant there refl (one_is c.in-Unsealed.last c.from.result rows c.index-3.result counts is) in
    let was : sealed_at (map (known_of nodes) rows) b ≡ sealed_at c.args.self.now b =
    ap (λ (view : List SsaBlock). sealed_at view b) c.self.view_is ∙ ap (λ (known : SsaBlock). known.sealed) (c.in_ok-declare.ensures.same b) in
    let seals : sealed_at (map (known_of nodes) (set rows c.index-3.result row)) b ≡ (if b == c.args.block then Yes else sealed_at c.args.self.now b) =
    seals_there rows c.index-3.result row nodes there refl b
    ∙ ap (λ k. if b == k then Yes else sealed_at (map (known_of nodes) rows) b) c.index-3.ensures.place
    ∙ ap (λ (s : Sealed). if b == c.args.block then Yes else s) was in
    elim c.if-self-eq0.branch [
      | then-self-eq0 w ↦
          ap (λ (view : List SsaBlock). sealed_at view b) w.self-is
          ∙ ap (λ (view : List SsaBlock). sealed_at view b) (same_emptied (set rows c.index-3.result row) nodes w.clear.new.self (c.self.inside.waiting - c.from.result) table w.if-self-eq0.true w.clear.ensures)
          ∙ seals
      | else-self-eq0 w ↦ ap (λ (view : List SsaBlock). sealed_at view b) w.self-is ∙ seals
    ]

pub returns-clause-predecessors : goal.returns-clause-predecessors
returns-clause-predecessors c = λ b.
    let rows = c.self.inside.rows.items in
    let nodes = c.self.inside.pending in
    let row : BlockRow = record { predecessors = c.index_mut.result.now.predecessors; state = state.Sealed } in
    let there = has_row nodes rows _ c.args.block _ c.self.view_is c.in_ok-declare.ensures.ok c.index-3.ensures.place in
    let kept : (after : List PendingNode) → predecessors_at (map (known_of after) (set rows c.index-3.result row)) b ≡ predecessors_at c.args.self.now b = λ after.
    predecessors_kept rows c.index-3.result row nodes after there
    (ap (λ (r : BlockRow). r.predecessors) (row_there nodes rows _ c.args.block _ _ c.self.view_is c.in_ok-declare.ensures.ok c.index-3.ensures.place c.index_mut.ensures.value)) b
    ∙ ap (λ (view : List SsaBlock). predecessors_at view b) c.self.view_is ∙ ap (λ (known : SsaBlock). known.predecessors) (c.in_ok-declare.ensures.same b) in
    elim c.if-self-eq0.branch [
      | then-self-eq0 w ↦ ap (λ (view : List SsaBlock). predecessors_at view b) w.self-is ∙ kept w.clear.new.self
      | else-self-eq0 w ↦ ap (λ (view : List SsaBlock). predecessors_at view b) w.self-is ∙ kept nodes
    ]
