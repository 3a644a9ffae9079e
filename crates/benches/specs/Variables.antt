-- The variables of the functions that are measured: eight, of type I32. Own.
use Rattle.std.specs.Prelude.{List, [], ◌∷◌}
use Rattle.clif_types.specs.declared.error.BuildError.{BuildError}
use Rattle.clif_types.specs.declared.types.«Type».{«Type»}
use Rattle.clif_types.specs.declared.types.«Type».TheVariants.{Lane}
use Rattle.clif_types.specs.declared.types.LaneType.TheVariants.{I32}
use Rattle.benches.specs.declared.calls.Fault.{Fault}
use Rattle.benches.specs.declared.calls.Fault.TheVariants.{Refused}

abbrev pub word : «Type»
word = Lane I32

-- their types, by number
abbrev pub eight : List «Type»
eight = word ∷ word ∷ word ∷ word ∷ word ∷ word ∷ word ∷ word ∷ []

-- a call was refused for this reason
abbrev pub refused : BuildError → Fault
refused error = Refused error
