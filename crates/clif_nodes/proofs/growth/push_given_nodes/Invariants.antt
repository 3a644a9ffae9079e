use Rattle.std.proofs.Common.{◌≡◌, ◌+◌, ◌++◌, take, vec_len, vec_capacity}
use Rattle.clif_nodes.specs.Nodes.{result_nodes}
use Rattle.clif_tables.specs.Callees.{types_of}
use Rattle.clif_nodes.proofs.growth.push_given_nodes.Given as goal

abbrev pub invariant-loop-place : goal.invariant-loop-place
invariant-loop-place l =
    (l.values.items ≡ l.initial.values.items ++ result_nodes l.inst l.first (types_of (take l.place l.given)))
    × (vec_len l.values ≡ vec_len l.initial.values + l.place)
    × (vec_capacity l.values ≡ vec_capacity l.initial.values)
