-- Uses of variables that weren't assigned on the path taken, in a run of a variable program. Own.
use Rattle.std.specs.Prelude.{◌≡◌, ◌≢◌, ◌<◌, ℕ, List, [], ◌∷◌, Some, slice_get}
use Rattle.clif_types.specs.declared.extname.ExternalName.TheVariants.{LibCall}
use Rattle.clif_meaning.specs.Bits.{Bits}
use Rattle.clif_meaning.specs.Instruction.{Call, CallIndirect, Instruction, Operation, Return, TryCall, TryCallIndirect}
use Rattle.clif_meaning.specs.Machine.{At, Machine, Observation, state_after}
use Rattle.clif_meaning.specs.Name.{Name}
use Rattle.clif_meaning.specs.Premises.{OfNextItem}
use Rattle.clif_meaning.specs.Program.{Assign, Instruct, Item, Use}
use Rattle.clif_meaning.specs.ScriptMachine.{ScriptState}

-- a machine whose states are those of the script machine
abbrev pub ScriptMachine : Type 0
ScriptMachine = Machine ScriptState Observation

-- what the name holds after n steps
abbrev pub held_after : ScriptMachine → (n : ℕ) → Name → Bits
held_after machine n name = (state_after machine n).names name

-- after n steps this item is the next one
abbrev pub ComesTo : ScriptMachine → (n : ℕ) → Item → Type 0
ComesTo machine n item = (rest : List Item) × ((state_after machine n).control ≡ At (item ∷ rest))

-- the item doesn't assign the variable
abbrev pub AssignsNot : ℕ → Item → Type 0
AssignsNot variable (Instruct place instruction results) = Unit {0}
AssignsNot variable (Use other name) = Unit {0}
AssignsNot variable (Assign other name) = variable ≢ other

-- the item isn't a use that gives the name
abbrev pub AnswersNot : Name → Item → Type 0
AnswersNot name (Instruct place instruction results) = Unit {0}
AnswersNot name (Use variable other) = name ≢ other
AnswersNot name (Assign variable other) = Unit {0}

-- none of the first n steps assigns the variable
abbrev pub IsUnassigned : ScriptMachine → (n variable : ℕ) → Type 0
IsUnassigned machine n variable =
    (k : ℕ) → k < n → OfNextItem (AssignsNot variable) (state_after machine k).control

-- after n steps, none of which assigns the variable, the next item gives the name what it holds
pub record UsesUnassigned (machine : ScriptMachine) (n variable : ℕ) (name : Name) : Type 0 where
  pub comes : ComesTo machine n (Use variable name)
  pub unassigned : IsUnassigned machine n variable

-- of the first n steps the last use that gives the name is such a use
pub record HoldsUnassigned (machine : ScriptMachine) (n variable : ℕ) (name : Name) : Type 0 where
  pub moment : ℕ
  pub earlier : moment < n
  pub uses : UsesUnassigned machine moment variable name
  pub last : (k : ℕ) → moment < k → k < n
      → OfNextItem (AnswersNot name) (state_after machine k).control

-- what an instruction with these operands returns
abbrev pub returned_names : Operation → (operands : List Name) → List Name
returned_names Return operands = operands
returned_names _ operands = []

-- what it passes to an outside call; a call of the C library's functions by name is none
abbrev pub passed_names : Operation → (operands : List Name) → List Name
passed_names (Call (LibCall callee) signature) operands = []
passed_names (Call callee signature) operands = operands
passed_names (CallIndirect signature) (address ∷ arguments) = arguments
passed_names (TryCall (LibCall callee) call) operands = []
passed_names (TryCall callee call) operands = operands
passed_names (TryCallIndirect call) (address ∷ arguments) = arguments
passed_names _ operands = []

-- after n steps the next item is an instruction, and the name has this index among these of its operands
pub record NamesNext (names : Operation → List Name → List Name) (machine : ScriptMachine) (n index : ℕ)
    (name : Name) : Type 0 where
  pub place : ℕ
  pub instruction : Instruction Name Name
  pub results : List Name
  pub comes : ComesTo machine n (Instruct place instruction results)
  pub named : slice_get (names instruction.operation instruction.operands) index ≡ Some name

abbrev pub ReturnsName : ScriptMachine → (n index : ℕ) → Name → Type 0
ReturnsName = NamesNext returned_names

abbrev pub PassesName : ScriptMachine → (n index : ℕ) → Name → Type 0
PassesName = NamesNext passed_names
