-- What the construction makes of blocks, of their parameters and of the edges into them, in every program: blocks that control
-- never reaches, dead loops and branches to the entry are no exception.
-- Source: own, after Braun et al. 2013 (a parameter has an operand for each predecessor; one to which a single value comes is
-- removed).
use Rattle.std.specs.Prelude.{◌≡◌, ◌≢◌, ℕ, ◌<◌, ◌≤◌, List, [], ◌∷◌, ◌++◌, length, map, Some, None, true, Contains, slice_get}
use Rattle.clif_types.specs.declared.types.«Type».{«Type»}
use Rattle.clif_types.specs.declared.extname.UserFuncName.{UserFuncName}
use Rattle.clif_types.specs.Signature.{SignatureShape}
use Rattle.clif_ir.specs.Body.{Body, empty_body, value_at, block_at, resolved}
use Rattle.clif_ir.specs.Changes.{inserted_in, with_block, with_inst, with_param}
use Rattle.clif_ir.specs.Consistent.{IsConsistent}
use Rattle.clif_instructions.specs.Members.{Once}
use Rattle.clif_instructions.specs.declared.block_call.BlockArg.{BlockArg}
use Rattle.clif_instructions.specs.declared.block_call.BlockArg.TheVariants.{Value}
use Rattle.clif_instructions.specs.declared.insert_at.InsertAt.TheVariants.{Back}
use Rattle.clif_instructions.specs.declared.instructions.InstructionData.{InstructionData}
use Rattle.clif_records.specs.declared.tables.Pending.{Pending}
use Rattle.clif_records.specs.Tables.{No, Sealed, Yes, is_yes}
use Rattle.clif_ssa.specs.Ssa.{SsaState, no_state, record_of, sealed_of, predecessors_of}
use Rattle.clif_ssa.specs.Sound.{parameters_of, edges_at, edge_target, args_of}
use Rattle.clif_ssa.specs.Own.{Own, no_own, with_own_param}
use Rattle.clif_ssa.specs.SoundLaws.{with_own}
use Rattle.clif_ssa.specs.Structure.{HasNeededZeros}

-- the type of each variable
abbrev pub VariableTypes : Type 0
VariableTypes = ℕ → «Type»

-- the value exists, and has the type
abbrev pub HasType : Body → ℕ → «Type» → Type 0
HasType f v ty = (v < length f.values) × ((value_at f v).ty ≡ ty)

-- the values are as many as the parameters, and each has the type of its parameter
abbrev pub AreFor : Body → List ℕ → List ℕ → Type 0
AreFor f [] [] = Unit {0}
AreFor f [] (param ∷ params) = ⊥
AreFor f (value ∷ values) [] = ⊥
AreFor f (value ∷ values) (param ∷ params) = HasType f value (value_at f param).ty × AreFor f values params

-- An edge passes what it passed when it was made, and then one value for each of these parameters, in order.
pub record EdgePasses (f : Body) (made : List BlockArg) (params : List ℕ) (args : List BlockArg) : Type 0 where
  pub values : List ℕ
  pub in_order : args ≡ made ++ map Value values
  pub are_for : AreFor f values params

-- The parameters that wait in a block: until it is sealed, or, in a sealed one, until they are completed.
abbrev pub waiting_of : Body → Sealed → List Pending → ℕ → List Pending
waiting_of f (No pending) completing b = pending
waiting_of f Yes completing b = parameters_of f b completing

abbrev pub waiting_in : Body → SsaState → List Pending → ℕ → List Pending
waiting_in f s completing b = waiting_of f (sealed_of s b) completing b

-- The parameters of a block are the caller's, then complete ones, then those that wait. Only a sealed block to which two
-- branches lead at least has complete ones, and each edge to it, of a branch that leads there, passes one value to each.
pub record HasParameters (own : Own) (f : Body) (s : SsaState) (completing : List Pending) (b : ℕ) : Type 0 where
  pub complete : List ℕ
  pub in_order : (block_at f b).params ≡ own.params b ++ (complete ++ map (λ (p : Pending). p.param) (waiting_in f s completing b))
  pub several : complete ≢ [] → (is_yes (sealed_of s b) ≡ true) × (2 ≤ length (predecessors_of s b))
  pub edges : (i k : ℕ) → Contains (predecessors_of s b) i → edge_target f i k ≡ Some b
      → EdgePasses f (own.passed i k) complete (args_of (slice_get (edges_at f i) k))

-- What is so of the function and of the state of its construction, while these parameters of sealed blocks are being
-- completed.
pub record Structured (types : VariableTypes) (own : Own) (f : Body) (s : SsaState) (completing : List Pending) : Type 0 where
  pub parameters : (b : ℕ) → HasParameters own f s completing b
  -- a value has the type of the one that it stands for
  pub alias_types : (v : ℕ) → (value_at f (resolved f v)).ty ≡ (value_at f v).ty
  -- the instructions of a block are zeros that something needs, and then the caller's
  pub zeros : (b : ℕ) → HasNeededZeros f b (own.insts b)
  -- what is recorded for a variable has its type, and so has a parameter that waits for one, which is recorded
  pub recorded : (x b v : ℕ) → record_of s x b ≡ Some v → HasType f v (types x)
  pub waiting : (b : ℕ) (p : Pending) → Contains (waiting_in f s completing b) p
      → HasType f p.param (types p.variable) × (record_of s p.variable b ≢ None)
  -- the branches that lead to a block exist, and each is declared once for it
  pub leading : (b i : ℕ) → Contains (predecessors_of s b) i → i < length f.insts
  pub leading_once : (b : ℕ) → Once (predecessors_of s b)

-- LAWS ------------------------------------------------------------------------------------------------------------

-- a function without blocks, of which nothing is known
abbrev pub FirstStructured : Type 0
FirstStructured =
    (types : VariableTypes) (name : UserFuncName) (signature : SignatureShape) →
    Structured types no_own (empty_body name signature) no_state []

-- a new block
abbrev pub NewBlockStructured : Type 0
NewBlockStructured =
    (types : VariableTypes) (own : Own) (f : Body) (s : SsaState) → Structured types own f s [] →
    Structured types own (with_block f) s []

-- a block enters the layout, unless it is there
abbrev pub InsertionStructured : Type 0
InsertionStructured =
    (types : VariableTypes) (own : Own) (f : Body) (s : SsaState) (b : ℕ) → Structured types own f s [] →
    Structured types own (inserted_in f b) s []

-- an instruction of the caller's at the end of a block, with results of these types
abbrev pub InstructionStructured : Type 0
InstructionStructured =
    (types : VariableTypes) (own : Own) (f : Body) (s : SsaState) (b : ℕ) (shape : InstructionData)
    (results : List «Type») (loc : ℕ) →
    IsConsistent f → b < length f.blocks → Structured types own f s [] →
    Structured types (with_own own b (length f.insts) shape) (with_inst f b Back shape results loc) s []

-- a parameter of the caller's, of a block that has no parameter of a variable so far
abbrev pub ParameterStructured : Type 0
ParameterStructured =
    (types : VariableTypes) (own : Own) (f : Body) (s : SsaState) (b : ℕ) (ty : «Type») →
    IsConsistent f → b < length f.blocks → (block_at f b).params ≡ own.params b → Structured types own f s [] →
    Structured types (with_own_param own b (length f.values)) (with_param f b ty) s []
