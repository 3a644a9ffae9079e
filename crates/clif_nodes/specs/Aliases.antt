-- The aliases, as their rows keep them. Source: own.
use Rattle.std.specs.Prelude.{ℕ}
use Rattle.clif_nodes.specs.declared.aliases.AliasRow.{AliasRow}

abbrev pub alias_of_row : AliasRow → ℕ
alias_of_row row = row.alias
