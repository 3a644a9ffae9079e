use Rattle.std.proofs.Common.{rules, ◌≡◌, ◌<◌, ℕ, Bool, true, false, List, [], sym, subst, length, arith}
use Rattle.std.specs.Prelude.{Contains, if◌then◌else◌}
use Rattle.clif_records.specs.Tables.{is_yes}
use Rattle.clif_ssa.specs.Ssa.{sealed_of, predecessors_of}
use Rattle.clif_ssa.proofs.Ordering.{none_contained}
use Rattle.clif_ssa.proofs.ssa_tables.SsaTables.single_predecessor.Goals as goal

in_one : (test : Bool) (branches : List ℕ) (branch : ℕ) → Contains (if test then branches else []) branch → Contains branches branch
in_one true branches branch here = here
in_one false branches branch here = absurd (none_contained branch here)

pub inst_block-requires : goal.inst_block-requires
inst_block-requires c =
    let same : c.sealed_predecessors.result.now ≡ (if is_yes (sealed_of c.args.self.now c.args.block) then predecessors_of c.args.self.now c.args.block else []) = search rules in
    let here : Contains (predecessors_of c.args.self.now c.args.block) c.branch-item.result =
    in_one (is_yes (sealed_of c.args.self.now c.args.block)) (predecessors_of c.args.self.now c.args.block) c.branch-item.result
    (subst (λ xs. Contains xs c.branch-item.result) same (0, omega (arith, c.in-len1.len_at_least), sym c.branch-item.is)) in
    (c.requires (c.args.block, c.branch-item.result, here)).leading c.args.block c.branch-item.result here

pub returns-in-len1-clause-exists : goal.returns-in-len1-clause-exists
returns-in-len1-clause-exists c =
    let same : c.sealed_predecessors.result.now ≡ (if is_yes (sealed_of c.args.self.now c.args.block) then predecessors_of c.args.self.now c.args.block else []) = search rules in
    let here : Contains (predecessors_of c.args.self.now c.args.block) c.branch-item.result =
    in_one (is_yes (sealed_of c.args.self.now c.args.block)) (predecessors_of c.args.self.now c.args.block) c.branch-item.result
    (subst (λ xs. Contains xs c.branch-item.result) same (0, omega (arith, c.in-len1.len_at_least), sym c.branch-item.is)) in
    let exists : c.branch-item.result < length c.args.func.now.insts = (c.requires (c.args.block, c.branch-item.result, here)).leading c.args.block c.branch-item.result here in
    rw c.inst_block.ensures ((c.law_consistent.ensures.insts_stand c.branch-item.result exists).0)
