-- What a recorder answers. Source: own.
use Rattle.std.specs.Prelude.{ℕ, Result, Ok, Err}
use Rattle.clif_types.specs.declared.error.BuildError.{BuildError}

-- the number that was made, or 0 where none was
abbrev pub or_zero : Result ℕ BuildError → ℕ
or_zero (Ok number) = number
or_zero (Err error) = 0
