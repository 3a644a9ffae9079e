-- What a call that puts an entry into a table makes of a function. Source: own, after the crate's documentation of its
-- tables.
use Rattle.std.specs.Prelude.{ℕ, Result}
use Rattle.clif_types.specs.declared.error.BuildError.{BuildError}
use Rattle.clif_tables.specs.Entries.{TableEntry, count_for, with_entry}
use Rattle.clif_tables.specs.Makes.{MakesEntry}
use Rattle.clif_ir.specs.Body.{Body}
use Rattle.clif_ir.specs.Changes.{with_tables}

-- it gets the next number of its table, and stands at its end
abbrev pub MakesIn : TableEntry → Body → Body → Result ℕ BuildError → Type 0
MakesIn entry f g answer =
    MakesEntry (λ number. number) (count_for f.tables entry) f g (with_tables f (with_entry f.tables entry)) answer
