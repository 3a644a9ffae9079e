-- What names stand for, behind the calls so far. Source: own; docs/SCRIPTS.md describes the same.
use Rattle.std.specs.Prelude.{◌≡◌, ◌≢◌, ℕ, ◌+◌, ◌==◌, ◌⊎◌, ◌++◌, Bool, true, false, List, [], ◌∷◌, Option, Some, None, slice_get, codes, if◌then◌else◌}
use Rattle.clif_calls.specs.declared.call.Name.{Name}
use Rattle.clif_calls.specs.declared.call.Call.{Call}
use Rattle.clif_calls.specs.declared.call.Call.TheVariants as call
use Rattle.clif_arguments.specs.Arguments.{Names}

-- whether the call makes an instruction
abbrev pub is_instruction : Call → Bool
is_instruction (call.Straight lender instruction) = true
is_instruction (call.Jump edge) = true
is_instruction (call.Brif condition first second) = true
is_instruction (call.BrTable index table) = true
is_instruction (call.Throwing called) = true
is_instruction (call.Return values) = true
is_instruction (call.Trap code) = true
is_instruction _ = false

-- whether the call declares a variable
abbrev pub is_declaration : Call → Bool
is_declaration (call.DeclareVar ty) = true
is_declaration _ = false

-- how many variables there are behind a call
abbrev pub variables_after : (declares : Bool) → ℕ → ℕ
variables_after declares variables = if declares then variables + 1 else variables

-- the number of the variable that a call declares, if it declares one
abbrev pub declared_by : (declares : Bool) → ℕ → Option ℕ
declared_by declares variables = if declares then Some variables else None

-- how many variables there are behind these calls, where there were so many before them
abbrev pub variables_from : ℕ → List Call → ℕ
variables_from variables [] = variables
variables_from variables (call ∷ calls) = variables_from (variables_after (is_declaration call) variables) calls

-- for each call, the number of the variable that it declares, if it declares one
abbrev pub declared_from : ℕ → List Call → List (Option ℕ)
declared_from variables [] = []
declared_from variables (call ∷ calls) =
    declared_by (is_declaration call) variables ∷ declared_from (variables_after (is_declaration call) variables) calls

-- the number of the variable that a call declares, or else this number
abbrev pub declared_or : ℕ → Option (Option ℕ) → ℕ
declared_or other (Some (Some number)) = number
declared_or other _ = other

-- the number of the variable that an answer is, or else the number that the next one gets
abbrev pub variable_in : List (Option ℕ) → ℕ → Name → ℕ
variable_in declared next name = if name.answer == 0 then declared_or next (slice_get declared name.place) else next

-- what names stand for, where calls declared these variables, and names were given so
abbrev pub names_with : List (Option ℕ) → ℕ → (List ℕ → Option Name) → Names
names_with declared variables given = record { given = given; variable = variable_in declared variables }

-- what names stand for behind these calls, where names were given so
abbrev pub names_behind : List Call → (List ℕ → Option Name) → Names
names_behind calls given = names_with (declared_from 0 calls) (variables_from 0 calls) given

-- the word stands for this answer from now on, and each other word for what it stood for
pub record GivesName (word : List ℕ) (name : Name) (old new : List ℕ → Option Name) : Type 0 where
  pub here : new word ≡ Some name
  pub elsewhere : (other : List ℕ) → other ≢ word → new other ≡ old other

-- The words in front of `=` name the answers of the call at a place, in order, from this answer on. Where the call
-- makes an instruction, `@x` names that, as x; it is answer 0.
abbrev pub GiveNames : Bool → ℕ → ℕ → List (List ℕ) → (List ℕ → Option Name) → (List ℕ → Option Name) → Type 0
GiveNames instruction place answer [] old new = (word : List ℕ) → new word ≡ old word
GiveNames instruction place answer (word ∷ words) old new = (next : List ℕ → Option Name) × (((name : List ℕ) × (instruction ≡ true) × (word ≡ codes "@" ++ name) × GivesName name (record { place = place; answer = 0 }) old next × GiveNames instruction place answer words next new)
    ⊎ (((name : List ℕ) → instruction ≡ true → word ≢ codes "@" ++ name) × GivesName word (record { place = place; answer = answer }) old next × GiveNames instruction place (answer + 1) words next new))

-- the first answer that a word without `@` names
abbrev pub first_answer : Bool → ℕ
first_answer instruction = if instruction then 1 else 0
