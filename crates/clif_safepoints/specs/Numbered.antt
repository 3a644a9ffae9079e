-- The recorded values that get places. Source: own.
use Rattle.std.specs.Prelude.{◌==◌, ℕ, List}
use Rattle.std.specs.List.{filter}
use Rattle.clif_ir.specs.Body.{Body, resolved}

-- Those that are no aliases: no use is of an alias.
abbrev pub numbered : Body → List ℕ → List ℕ
numbered f recorded = filter (λ value. resolved f value == value) recorded
