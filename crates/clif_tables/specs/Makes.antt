-- What a call that makes an entry of a table keeps. Source: own, after the crate's documentation of its tables.
use Rattle.std.specs.Prelude.{◌≡◌, ◌↔◌, ℕ, ◌-◌, ◌^◌, List, false, length, IsTrue, Result, IfOk, OnOk, OnErr, IsOk, IsErrOf}
use Rattle.clif_types.specs.declared.error.BuildError.{BuildError}
use Rattle.clif_types.specs.declared.error.BuildError.TheVariants.{Full, Failed}
use Rattle.clif_tables.specs.Constants.{constant_of, has_constant}
use Rattle.clif_tables.specs.Lists.{TableLists}

-- A table holds so many entries. The new entry gets the next number, and then all is as `made`; after an error all is as it
-- was. `Full` comes exactly where the table holds 2^32 - 1 entries.
pub record MakesEntry {E S : Type 0} (index_of : E → ℕ) (count : ℕ) (before after made : S) (answer : Result E BuildError) : Type 0 where
  pub number : IfOk answer (λ entity. index_of entity ≡ count)
  pub ok : OnOk answer (after ≡ made)
  pub err : OnErr answer (after ≡ before)
  pub full : IsErrOf answer Full ↔ (count ≡ 2 ^ 32 - 1)
  pub never_failed : ¬ IsErrOf answer Failed

-- Bytes are pooled among these constants: they get the number of the constant with them, or else the next one, and then all
-- is as `made`; after an error all is as it was. `Full` comes exactly where there are 2^32 - 1 other constants.
pub record Pools {S : Type 0} (bytes : List ℕ) (constants : List (List ℕ)) (before after made : S) (answer : Result ℕ BuildError) : Type 0 where
  pub number : IfOk answer (λ constant. constant ≡ constant_of constants bytes)
  pub ok : OnOk answer (after ≡ made)
  pub err : OnErr answer (after ≡ before)
  pub known : IsTrue (has_constant constants bytes) → IsOk answer
  pub full : IsErrOf answer Full ↔ ((has_constant constants bytes ≡ false) × (length constants ≡ 2 ^ 32 - 1))
  pub never_failed : ¬ IsErrOf answer Failed

-- the same where the entity is seen by its number, and the tables together change
abbrev pub Makes : ℕ → TableLists → TableLists → TableLists → Result ℕ BuildError → Type 0
Makes = MakesEntry (λ number. number)
