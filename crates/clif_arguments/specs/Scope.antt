-- What a scope says that names stand for. Source: own.
use Rattle.std.specs.Prelude.{◌≡◌, ℕ, Bool, ◌++◌, List, [], ◌∷◌, Option}
use Rattle.std.specs.BTreeMap.{get_by}
use Rattle.std.specs.Cmp.Lexicographic.{slice_cmp}
use Rattle.std.specs.Ordering.{nat_cmp}
use Rattle.clif_calls.specs.declared.call.Name.{Name}
use Rattle.clif_arguments.specs.declared.scope.Scope.{Scope}
use Rattle.clif_arguments.specs.Given.{GivesName, declared_by, names_with, variable_in, variables_after}
use Rattle.clif_arguments.specs.Arguments.{Names}

-- the number of the variable that is this answer, or else the number that comes next
abbrev pub variable_of : Scope → Name → ℕ
variable_of scope = variable_in scope.declared.items scope.variables

-- what a word stands for
abbrev pub given_in : Scope → List ℕ → Option Name
given_in scope word = get_by (λ key. slice_cmp nat_cmp word key.now) scope.names

abbrev pub names_of : Scope → Names
names_of scope = names_with scope.declared.items scope.variables (given_in scope)

-- the same variables
pub record KeepsVariables (old new : Scope) : Type 0 where
  pub declared : new.declared.items ≡ old.declared.items
  pub variables : new.variables ≡ old.variables

-- one call more, which declares a variable or doesn't
pub record Counts (declares : Bool) (old new : Scope) : Type 0 where
  pub names : new.names ≡ old.names
  pub declared : new.declared.items ≡ old.declared.items ++ declared_by declares old.variables ∷ []
  pub variables : new.variables ≡ variables_after declares old.variables

-- one name more
pub record Gives (word : List ℕ) (name : Name) (old new : Scope) : Type 0 where
  pub name_given : GivesName word name (given_in old) (given_in new)
  pub keeps : KeepsVariables old new
