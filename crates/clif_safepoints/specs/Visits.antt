-- What is still to be done on a way through a graph. Source: own.
use Rattle.std.specs.Prelude.{ℕ, List, map}
use Rattle.clif_safepoints.specs.declared.graph.Visit.{Visit}
use Rattle.clif_safepoints.specs.declared.graph.Visit.TheVariants.{Enter}

-- these blocks are to be entered
abbrev pub entered : List ℕ → List Visit
entered blocks = map Enter blocks
