-- A function beside the one with stores and reloads: what each block becomes, instruction by instruction. Own, after Cranelift's
-- spiller of safepoints.
use Rattle.std.specs.Prelude.{◌≡◌, ◌⊎◌, ◌↔◌, ◌<◌, ◌≤◌, ◌++◌, ℕ, suc, Bool, true, false, List, [], ◌∷◌, map, Option, None, Some, Contains, slice_index_or}
use Rattle.std.specs.List.{AllZip}
use Rattle.std.specs.List.Sorted.{IsStrictlyIncreasing}
use Rattle.clif_types.specs.StackSlot.{StackSlotShape}
use Rattle.clif_types.specs.declared.stackmap.UserStackMapEntry.{UserStackMapEntry}
use Rattle.clif_types.specs.declared.types.LaneType.TheVariants as lane
use Rattle.clif_types.specs.declared.types.«Type».{«Type»}
use Rattle.clif_types.specs.declared.types.«Type».TheVariants as type
use Rattle.clif_tables.specs.Callees.{types_of}
use Rattle.clif_meaning.specs.Event.{CallShape, payload_types}
use Rattle.clif_meaning.specs.FunctionView.{Placed}
use Rattle.clif_meaning.specs.Instruction.{Argument, Known, CallResult, CallPayload, Edge, Jump}
use Rattle.clif_meaning.specs.Path.{Place, IsReachable}
use Rattle.clif_meaning.specs.Typing.{call_shape}
use Rattle.clif_meaning.specs.WellPlaced.{function_flow, placed_at}
use Rattle.clif_safepoints.specs.Analysis.{IsReached}
use Rattle.clif_safepoints.specs.Liveness.{IsLiveAcross}
use Rattle.clif_typed_runs.specs.ValuesFit.{AliasesTyped}
use Rattle.clif_spilling_laws.specs.Live.{IsLiveAfter, IsLiveBefore, IsSlotOf, SpillsLive, counted, place_at}
use Rattle.clif_spilling_laws.specs.Spilling.{AreReloads, AreStores, Reload, SlotAccess, Spilling, reload_items, store_items}

-- READING ---------------------------------------------------------------------------------------------------------------

-- a spilled value is read by one of these copies
abbrev pub IsCopied : Spilling → List Reload → (old new : ℕ) → Type 0
IsCopied s reloads old new =
    (s.is_spilled (s.before.resolved old) ≡ true)
    × (x : Reload) × Contains reloads x × (x.access.value ≡ s.before.resolved old) × (x.copy ≡ new)

-- another one by its own name or that of what it stands for
abbrev pub IsNamed : Spilling → (old new : ℕ) → Type 0
IsNamed s old new = (s.is_spilled (s.before.resolved old) ≡ false) × (s.after.resolved new ≡ s.before.resolved old)

-- the type stays
pub record IsRead (s : Spilling) (reloads : List Reload) (old new : ℕ) : Type 0 where
  pub typed : AliasesTyped s.before → s.after.value_type new ≡ s.before.value_type old
  pub how : IsCopied s reloads old new ⊎ IsNamed s old new

-- an argument that doesn't count as a use is left as it is
pub record IsLeft (s : Spilling) (old new : ℕ) : Type 0 where
  pub typed : AliasesTyped s.before → s.after.value_type new ≡ s.before.value_type old
  pub same : s.after.resolved new ≡ s.before.resolved old

-- STACK MAPS ------------------------------------------------------------------------------------------------------------

-- the entry of a stack map for a value
abbrev pub entry_of : Spilling → ℕ → UserStackMapEntry
entry_of s v = record { ty = s.before.value_type v; slot = s.slot_of v; offset = 0 }

-- the stack map names the members, but aliases, that are live across the instruction at a place, by rising number
pub record IsExactMap (counts : ℕ → ℕ → Bool) (members : ℕ → Bool) (s : Spilling) (p : Place ℕ) (entries : List UserStackMapEntry) : Type 0 where
  pub values : List ℕ
  pub rising : IsStrictlyIncreasing values
  pub all : (v : ℕ)
      → Contains values v ↔ ((members v ≡ true) × (s.before.resolved v ≡ v) × IsLiveAcross (counted counts) s.before p v)
  pub entries_are : entries ≡ map (entry_of s) values

-- LANDING BLOCKS --------------------------------------------------------------------------------------------------------

-- what the call gives itself, among the arguments of an edge
abbrev pub own_arguments : List (Argument ℕ) → List (Argument ℕ)
own_arguments [] = []
own_arguments (Known old ∷ arguments) = own_arguments arguments
own_arguments (CallResult index ∷ arguments) = CallResult index ∷ own_arguments arguments
own_arguments (CallPayload index ∷ arguments) = CallPayload index ∷ own_arguments arguments

-- the type that the call gives it; where its signature lacks it, a 64-bit integer
abbrev pub own_type : CallShape → Argument ℕ → «Type»
own_type call (CallResult index) = slice_index_or (types_of call.signature.returns) index (type.Lane lane.I64)
own_type call (CallPayload index) = slice_index_or payload_types index (type.Lane lane.I64)
own_type call (Known old) = type.Lane lane.I64

-- new values, once each, and apart from the copies and addresses of reloads
abbrev pub AreFresh : Spilling → List Reload → List ℕ → Type 0
AreFresh s reloads [] = Unit {0}
AreFresh s reloads (param ∷ params) =
    ((s.count ≤ param) × (s.after.resolved param ≡ param) × (Contains params param → ⊥)
    × ((x : Reload) → Contains reloads x → (param ≡ x.copy → ⊥) × (param ≡ x.access.address → ⊥)))
    × AreFresh s reloads params

-- the jump at the end of a landing block
abbrev pub jump_item : (target : ℕ) → List (Argument ℕ) → Placed
jump_item target passed = record {
  instruction = record {
    operation = Jump;
    controlling = type.Invalid;
    operands = [];
    contexts = [];
    edges = record { target = target; arguments = passed } ∷ [];
  };
  results = [];
  stack_map = [];
}

module _ (counts : ℕ → ℕ → Bool) (s : Spilling) where
  -- an operand that an edge passes: read, or left where it doesn't count
  abbrev pub IsPassedOn : List Reload → (target place old new : ℕ) → Type 0
  IsPassedOn reloads target place old new = IsRead s reloads old new ⊎ ((counts target place ≡ false) × IsLeft s old new)

  -- the arguments of an edge that leads where it led
  abbrev pub IsArgument : List Reload → (target place : ℕ) → Argument ℕ → Argument ℕ → Type 0
  IsArgument reloads target place (Known old) (Known new) = IsPassedOn reloads target place old new
  IsArgument reloads target place (CallResult index) (CallResult other) = index ≡ other
  IsArgument reloads target place (CallPayload index) (CallPayload other) = index ≡ other
  IsArgument reloads target place _ _ = ⊥

  abbrev pub AreArguments : List Reload → (target place : ℕ) → List (Argument ℕ) → List (Argument ℕ) → Type 0
  AreArguments reloads target place [] [] = Unit {0}
  AreArguments reloads target place (old ∷ olds) (new ∷ news) =
      IsArgument reloads target place old new × AreArguments reloads target (suc place) olds news
  AreArguments reloads target place _ _ = ⊥

  -- The arguments of a landing block's jump, beside those of the edge: operands are passed on, and what the call gives itself is a
  -- parameter of the landing block, in order.
  abbrev pub AreLanded : List Reload → (target place : ℕ) → List (Argument ℕ) → List ℕ → List (Argument ℕ) → Type 0
  AreLanded reloads target place [] params news = news ≡ []
  AreLanded reloads target place (Known old ∷ olds) params (Known new ∷ news) =
      IsPassedOn reloads target place old new × AreLanded reloads target (suc place) olds params news
  AreLanded reloads target place (CallResult index ∷ olds) (param ∷ params) (Known new ∷ news) =
      (new ≡ param) × AreLanded reloads target (suc place) olds params news
  AreLanded reloads target place (CallPayload index ∷ olds) (param ∷ params) (Known new ∷ news) =
      (new ≡ param) × AreLanded reloads target (suc place) olds params news
  AreLanded reloads target place _ _ _ = ⊥

  pub record LeadsStraight (reloads : List Reload) (old new : Edge ℕ ℕ) : Type 0 where
    pub target : new.target ≡ old.target
    pub arguments : AreArguments reloads old.target 0 old.arguments new.arguments

  -- An edge of a call that leads to a landing block: that takes what the call gives itself, reloads what is spilled, and jumps on.
  pub record Lands (call : CallShape) (old new : Edge ℕ ℕ) : Type 0 where
    pub reloads : List Reload
    pub are_reloads : AreReloads s reloads
    pub passed : List (Argument ℕ)
    pub arguments : new.arguments ≡ own_arguments old.arguments
    pub fresh : AreFresh s reloads (s.after.blocks new.target).parameters
    pub types : map s.after.value_type (s.after.blocks new.target).parameters ≡ map (own_type call) (own_arguments old.arguments)
    pub landed : AreLanded reloads old.target 0 old.arguments (s.after.blocks new.target).parameters passed
    pub items : (s.after.blocks new.target).items ≡ reload_items s reloads (jump_item old.target passed ∷ [])

  -- the edges of a call are read after it, so that no reload before it serves them
  abbrev pub IsLedOn : Option CallShape → List Reload → Edge ℕ ℕ → Edge ℕ ℕ → Type 0
  IsLedOn None reloads old new = LeadsStraight reloads old new
  IsLedOn (Some call) reloads old new = LeadsStraight [] old new ⊎ Lands call old new

  -- INSTRUCTIONS --------------------------------------------------------------------------------------------------------

  -- a call has its exact map, and another instruction the one that it had
  abbrev pub HasMap : (ℕ → Bool) → Place ℕ → Option CallShape → (old new : List UserStackMapEntry) → Type 0
  HasMap members p None old new = new ≡ old
  HasMap members p (Some call) old new = IsExactMap counts members s p new

  -- an instruction after its reloads: the same operation, whose operands and edges are read as said
  pub record IsKept (members : ℕ → Bool) (p : Place ℕ) (reloads : List Reload) (old new : Placed) : Type 0 where
    pub operation : new.instruction.operation ≡ old.instruction.operation
    pub controlling : AliasesTyped s.before → new.instruction.controlling ≡ old.instruction.controlling
    pub operands : AllZip (IsRead s reloads) old.instruction.operands new.instruction.operands
    pub contexts : map s.after.resolved new.instruction.contexts ≡ map s.before.resolved old.instruction.contexts
    pub edges : AllZip (IsLedOn (call_shape old.instruction.operation) reloads) old.instruction.edges new.instruction.edges
    pub results : new.results ≡ old.results
    pub stack_map : HasMap members p (call_shape old.instruction.operation) old.stack_map new.stack_map

  -- what an instruction becomes, with the rest of its block: reloads, the instruction, and stores of its results
  pub record IsRewrittenItem (members : ℕ → Bool) (p : Place ℕ) (Rest : List Placed → Type 0) (old : Placed) (code : List Placed) : Type 0 where
    pub reloads : List Reload
    pub are_reloads : AreReloads s reloads
    pub new : Placed
    pub is_kept : IsKept members p reloads old new
    pub stores : List SlotAccess
    pub are_stores : AreStores s (IsLiveAfter counts s.before p) old.results stores
    pub rest : List Placed
    pub code_is : code ≡ reload_items s reloads (new ∷ store_items s stores rest)
    pub goes_on : Rest rest

  -- what the instructions of a block from this index on become
  abbrev pub AreRewritten : (ℕ → Bool) → (block index : ℕ) → List Placed → List Placed → Type 0
  AreRewritten members block index [] code = code ≡ []
  AreRewritten members block index (old ∷ olds) code =
      IsRewrittenItem members (place_at block index) (AreRewritten members block (suc index) olds) old code

  -- BLOCKS --------------------------------------------------------------------------------------------------------------

  -- stores of the parameters, and then what the instructions become
  pub record IsRewrittenCode (members : ℕ → Bool) (block : ℕ) (items code : List Placed) : Type 0 where
    pub stores : List SlotAccess
    pub are_stores : AreStores s (IsLiveBefore counts s.before (place_at block 0)) (s.before.blocks block).parameters stores
    pub rest : List Placed
    pub code_is : code ≡ store_items s stores rest
    pub rewritten : AreRewritten members block 0 items rest

  -- a block without instructions stays without
  abbrev pub AreItemsOf : (ℕ → Bool) → (block : ℕ) → (items code : List Placed) → Type 0
  AreItemsOf members block [] code = code ≡ []
  AreItemsOf members block (placed ∷ items) code = IsRewrittenCode members block (placed ∷ items) code

  pub record IsRewrittenBlock (members : ℕ → Bool) (block : ℕ) : Type 0 where
    pub parameters : (s.after.blocks block).parameters ≡ (s.before.blocks block).parameters
    pub items : AreItemsOf members block (s.before.blocks block).items (s.after.blocks block).items

  -- a block that the function before lacks, to which an edge of a reached call lands
  pub record IsLandingBlock (block : ℕ) : Type 0 where
    pub no_parameters : (s.before.blocks block).parameters ≡ []
    pub no_items : (s.before.blocks block).items ≡ []
    pub place : Place ℕ
    pub reachable : IsReachable (function_flow s.before) place
    pub placed : Placed
    pub there : placed_at s.before place ≡ Some placed
    pub call : CallShape
    pub is_call : call_shape placed.instruction.operation ≡ Some call
    pub old : Edge ℕ ℕ
    pub is_edge : Contains placed.instruction.edges old
    pub new : Edge ℕ ℕ
    pub target : new.target ≡ block
    pub lands : Lands call old new

  -- The function: each block that is reached becomes what is said; another one stays, or is a landing block.
  pub record IsRewritten (members : ℕ → Bool) : Type 0 where
    pub entry : s.after.entry ≡ s.before.entry
    pub signature : s.after.signature ≡ s.before.signature
    pub reached : (block : ℕ) → IsReached s.before block → IsRewrittenBlock members block
    pub others : (block : ℕ) → (IsReached s.before block → ⊥)
        → (s.after.blocks block ≡ s.before.blocks block) ⊎ IsLandingBlock block

  -- What a spiller makes of a function, of every one: the blocks, what is spilled and where, and that old values and old slots
  -- stay as they are.
  pub record IsSpilling (members : ℕ → Bool) : Type 0 where
    pub text : IsRewritten members
    pub spilled : SpillsLive counts members s
    pub slots : (v : ℕ) → s.is_spilled v ≡ true → IsSlotOf s v
    pub old_slots : (more : List StackSlotShape) × (s.after.slots ≡ s.before.slots ++ more)
    pub types : (v : ℕ) → v < s.count → s.after.value_type v ≡ s.before.value_type v
    pub aliases : (v : ℕ) → v < s.count → s.after.resolved v ≡ s.before.resolved v
