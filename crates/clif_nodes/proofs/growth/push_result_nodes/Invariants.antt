use Rattle.std.proofs.Common.{◌≡◌, ◌+◌, ◌++◌, map, take, vec_len, vec_capacity}
use Rattle.clif_opcodes.specs.Kinds.{result_type}
use Rattle.clif_nodes.specs.Nodes.{result_nodes}
use Rattle.clif_nodes.proofs.growth.push_result_nodes.Given as goal

abbrev pub invariant-loop-place : goal.invariant-loop-place
invariant-loop-place l =
    (l.values.items ≡ l.initial.values.items ++ result_nodes l.inst 0 (map (result_type l.controlling) (take l.place l.kinds)))
    × (vec_len l.values ≡ vec_len l.initial.values + l.place)
    × (vec_capacity l.values ≡ vec_capacity l.initial.values)
