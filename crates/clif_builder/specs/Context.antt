-- What clauses see of a context, all but its callback, and what its calls make of it.
-- Source: the crate's documentation of `FunctionBuilderContext`; the changes are own.
use Rattle.std.specs.Prelude.{◌≡◌, ℕ, ◌==◌, ◌&&◌, Bool, List, [], is_some, not, slice_get, slice_index_or, if◌then◌else◌}
use Rattle.clif_types.specs.declared.types.«Type».{«Type»}
use Rattle.clif_types.specs.contracts.types.«Type» as value_type
use Rattle.clif_types.specs.EntitySet.{has, with_member}
use Rattle.std.specs.Coded.{Coded, code_by, coded×, coded_list, coded_ℕ}
use Rattle.clif_ir.specs.Body.{Body, empty_body}
use Rattle.clif_ssa.specs.Ssa.{SsaState, ssa_state_code, no_state}
use Rattle.clif_instructions.specs.Members.{stands_in}
use Rattle.clif_builder.specs.contracts.context.BlockStatus as block_status
use Rattle.clif_builder.specs.declared.context.BlockStatus.{BlockStatus}
use Rattle.clif_builder.specs.declared.context.BlockStatus.TheVariants.{Empty, Partial, Filled}

-- records and sealed blocks; the status of each block; the type of each variable; the variables that were used or assigned, by
-- rising number
pub record ContextState : Type 0 where
  pub ssa : SsaState
  pub status : List BlockStatus
  pub variables : List «Type»
  pub touched : List ℕ

abbrev pub variables_code : Coded (List «Type» × List ℕ)
variables_code = coded× (coded_list (value_type.the_row).coded) (coded_list coded_ℕ)

abbrev pub context_code : Coded ContextState
context_code =
    code_by (SsaState × (List BlockStatus × (List «Type» × List ℕ))) (coded× ssa_state_code (coded× (coded_list (block_status.the_row).coded) variables_code))
    (λ c. (c.ssa, (c.status, (c.variables, c.touched))))
    (λ p. record { ssa = p.0; status = p.1.0; variables = p.1.1.0; touched = p.1.1.1 }) (λ c i. c)

abbrev pub empty_context : ContextState
empty_context = record { ssa = no_state; status = []; variables = []; touched = [] }

-- the same variables are declared, and the same ones were used or assigned
abbrev pub SameVariables : ContextState → ContextState → Type 0
SameVariables c d = (d.variables ≡ c.variables) × (d.touched ≡ c.touched)

-- the same variables are declared, and this one was used or assigned, too
abbrev pub TouchesVariable : ContextState → ContextState → ℕ → Type 0
TouchesVariable c d variable = (d.variables ≡ c.variables) × (d.touched ≡ with_member c.touched variable)

-- the variable is declared, and no call used or assigned it
abbrev pub is_untouched : ContextState → ℕ → Bool
is_untouched c variable = is_some (slice_get c.variables variable) && not (has c.touched variable)

-- the function is as its constructors leave it
abbrev pub IsFresh : Body → Type 0
IsFresh f = f ≡ empty_body f.name f.signature

-- the status of a block; one that was never set is empty
abbrev pub status_of : ContextState → ℕ → BlockStatus
status_of c block = slice_index_or c.status block Empty

-- one block has this status, and each other one the one that it had
abbrev pub SetsStatus : ContextState → ContextState → ℕ → BlockStatus → Type 0
SetsStatus old new block status = (b : ℕ) → status_of new b ≡ (if b == block then status else status_of old b)

-- each block has the status that it had
abbrev pub SameStatus : ContextState → ContextState → Type 0
SameStatus old new = (b : ℕ) → status_of new b ≡ status_of old b

-- a block in which something is made is no longer empty
abbrev pub begun : BlockStatus → BlockStatus
begun Empty = Partial
begun Partial = Partial
begun Filled = Filled

-- no block is filled that wasn't
abbrev pub FillsNone : ContextState → ContextState → Type 0
FillsNone old new = (b : ℕ) → status_of new b ≡ Filled → status_of old b ≡ Filled

-- something was made in these blocks, and nothing in the others
abbrev pub Begins : ContextState → ContextState → List ℕ → Type 0
Begins old new blocks = (b : ℕ) → status_of new b ≡ (if stands_in b blocks then begun (status_of old b) else status_of old b)
