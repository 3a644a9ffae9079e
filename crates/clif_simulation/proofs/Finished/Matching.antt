-- How one step of the script's machine is matched, and what both machines show at an end.
use Rattle.std.proofs.Common.{sym, ◌∙◌, ◌≡◌, ℕ, zero, suc, ◌<◌, ◌≤◌, List, [], ◌∷◌, length, map, drop, slice_get, Some, None, inl, inr, refl, ap₂, arith}
use Rattle.clif_meaning.specs.Bits.{Bits}
use Rattle.clif_meaning.specs.Memory.{Memory, Range}
use Rattle.std.specs.Prelude.{Bool, true, false, ◌==◌, ◌&&◌, ◌%◌, not, if◌then◌else◌}
use Rattle.clif_meaning.specs.Machine.{Machine, state_after, Control, At, HasReturned, HasTrapped, IsStuck, Observation, Ending, ending_of}
use Rattle.clif_meaning.specs.Event.{Event}
use Rattle.clif_meaning.specs.Name.{Name}
use Rattle.clif_meaning.specs.Program.{Item, Instruct}
use Rattle.clif_meaning.specs.Request.{AnsweredCall}
use Rattle.clif_meaning.specs.Typing.{call_shape}
use Rattle.clif_meaning.specs.FunctionView.{Placed}
use Rattle.clif_meaning.specs.ScriptMachine as script
use Rattle.clif_meaning.specs.ScriptMachine.{ScriptRun, ScriptState}
use Rattle.clif_meaning.specs.FunctionMachine as function_machine_of
use Rattle.clif_meaning.specs.FunctionMachine.{FunctionRun, FunctionState}
use Rattle.clif_opcodes.specs.declared.opcodes.StackOpcode.TheVariants.{StackAddr, StackLoad}
use Rattle.clif_meaning.specs.Instruction.{Instruction, Operation, Compute, Load, Store, Stack, StackStore, Trap, CondTrap, Jump, Brif, BrTable, Switch, Bytes, Return, Call, CallIndirect, TryCall, TryCallIndirect}
use Rattle.clif_types.specs.declared.trapcode.TrapCode.{TrapCode}
use Rattle.clif_types.specs.declared.trapcode.TrapCode.TheVariants.{HeapOutOfBounds}
use Rattle.clif_types.specs.MemFlags.{MemFlagsShape}
use Rattle.clif_types.specs.Types.{bits_of}
use Rattle.clif_types.specs.declared.types.«Type».{«Type»}
use Rattle.clif_meaning.specs.World.{World}
use Rattle.clif_meaning.specs.ByteOperation.{ByteOperation}
use Rattle.clif_meaning.proofs.ByteOperations.{byte_cases}
use Rattle.clif_meaning.specs.Outcome.{Outcome, Gives, Goes, Returns, Traps, Calls, NoStep, Computed, Values, Fault, Undefined, access_outcome, no_claim, are_accessible, byte_outcome, computed, outcome_of_computed, outcome_of, traps_on}
use Rattle.clif_meaning.proofs.Stuttering.{Matched, ShowsOnlyEnds, Simulates, steps_from}
use Rattle.std.specs.List.{AllByRecursion}
use Rattle.clif_simulation.specs.Carries.{CallsNothing}
use Rattle.clif_simulation.specs.Tables.{program_so_far}
use Rattle.clif_simulation.proofs.Finished.Giving.{In}
use Rattle.clif_simulation.proofs.Listed.{all_at}

-- Lists -----------------------------------------------------------------------------------------------------------------

-- the item at a place, and what is behind it
pub item_here : {X : Type 0} (xs : List X) (k : ℕ) (x : X) (rest : List X) → drop k xs ≡ x ∷ rest → slice_get xs k ≡ Some x
item_here [] zero x rest e = cc
item_here [] (suc k) x rest e = cc
item_here (y ∷ xs) zero x rest e = cc
item_here (y ∷ xs) (suc k) x rest e = item_here xs k x rest e

pub rest_behind : {X : Type 0} (xs : List X) (k : ℕ) (x : X) (rest : List X) → drop k xs ≡ x ∷ rest → drop (suc k) xs ≡ rest
rest_behind [] zero x rest e = cc
rest_behind [] (suc k) x rest e = cc
rest_behind (y ∷ xs) zero x rest e = cc
rest_behind (y ∷ xs) (suc k) x rest e = rest_behind xs k x rest e

-- where nothing is left, so many items there are
pub nothing_behind : {X : Type 0} (xs : List X) (k : ℕ) → drop k xs ≡ [] → length xs ≤ k
nothing_behind [] k none = omega arith
nothing_behind (x ∷ xs) zero none = cc
nothing_behind (x ∷ xs) (suc k) none = let below = nothing_behind xs k none in omega (arith, below)

-- the parts of one list that is two
pub first_is : {X : Type 0} (x y : X) (xs ys : List X) → (x ∷ xs) ≡ (y ∷ ys) → x ≡ y
first_is x y xs ys same = cc

pub rest_is : {X : Type 0} (x y : X) (xs ys : List X) → (x ∷ xs) ≡ (y ∷ ys) → xs ≡ ys
rest_is x y xs ys same = cc

-- the bits of things and of what stands for them
pub same_bits : {X Y : Type 0} (xs : List X) (g : X → ℕ) (h : Y → ℕ) (other : X → Y) → ((x : X) → In x xs → g x ≡ h (other x)) → map g xs ≡ map h (map other xs)
same_bits [] g h other same = refl
same_bits (x ∷ xs) g h other same =
    ap₂ (λ (n : ℕ) (ns : List ℕ). n ∷ ns) (same x (inl refl)) (same_bits xs g h other (λ y there. same y (inr there)))

-- Steps -----------------------------------------------------------------------------------------------------------------

-- A step is matched, and on the way between the states that are related the right machine is in states of a kind.
pub record Followed {S T : Type 0} (left : Machine S Observation) (right : Machine T Observation) (Related : S → T → Type 0) (measure : S → ℕ) (Passed : T → Type 0) (s : S) (t : T) : Type 0 where
  pub matched : Matched left right Related measure s t
  pub passed : (j : ℕ) → 0 < j → j < matched.steps → Passed (steps_from right j t)

-- A simulation each step of which is followed, and the first steps too.
pub record FollowsThroughout {S T : Type 0} (left : Machine S Observation) (right : Machine T Observation) (Related : S → T → Type 0) (measure : S → ℕ) (Passed : T → Type 0) : Type 0 where
  pub simulates : Simulates left right Related measure
  pub first : (j : ℕ) → j < simulates.ahead → Passed (state_after right j)
  pub step : (s : S) (t : T) → Related s t → Followed left right Related measure Passed s t

module _ {S T : Type 0} (left : Machine S Observation) (right : Machine T Observation) (Related : S → T → Type 0) (measure : S → ℕ) (Passed : T → Type 0) (s : S) (t : T) where
  -- by one step
  pub followed_by_one : Related (left.next s) (right.next t) → Followed left right Related measure Passed s t
  followed_by_one related = record {
    matched = record { steps = 1; related = related; quiet = quiet; gets_on = inl (omega arith) };
    passed = λ j above below. absurd (omega (arith, above, below));
  }
    where
      quiet : ShowsOnlyEnds right 1 t
      quiet zero h = inl refl
      quiet (suc zero) h = inr refl
      quiet (suc (suc j)) h = absurd (omega arith)

  -- by none
  pub followed_by_none : Related (left.next s) t → measure (left.next s) < measure s → Followed left right Related measure Passed s t
  followed_by_none related falls = record {
    matched = record { steps = 0; related = related; quiet = quiet; gets_on = inr falls };
    passed = λ j above below. absurd (omega (arith, above, below));
  }
    where
      quiet : ShowsOnlyEnds right 0 t
      quiet zero h = inl refl
      quiet (suc j) h = absurd (omega arith)

  -- by some steps, of which the first alone may show something new
  pub followed_by_more : (n : ℕ) → Related (left.next s) (steps_from right (suc n) t)
      → ((j : ℕ) → j ≤ n → right.shown (steps_from right (suc j) t) ≡ right.shown (steps_from right (suc n) t))
      → ((j : ℕ) → j < n → Passed (steps_from right (suc j) t))
      → Followed left right Related measure Passed s t
  followed_by_more n related quiet passes = record {
    matched = record { steps = suc n; related = related; quiet = by; gets_on = inl (omega arith) };
    passed = pass;
  }
    where
      by : ShowsOnlyEnds right (suc n) t
      by zero within = inl refl
      by (suc j) within = inr (quiet j (omega (arith, within)))

      pass : (j : ℕ) → 0 < j → j < suc n → Passed (steps_from right j t)
      pass zero above below = absurd (omega (arith, above))
      pass (suc j) above below = passes j (omega (arith, below))

-- Ends ------------------------------------------------------------------------------------------------------------------

-- both ended, and in one way
abbrev pub SameEnd : {X Y : Type 0} → Control X → Control Y → Type 0
SameEnd (At rest) d = ⊥
SameEnd (HasReturned a) (At rest) = ⊥
SameEnd (HasReturned a) (HasReturned b) = a ≡ b
SameEnd (HasReturned a) (HasTrapped reason) = ⊥
SameEnd (HasReturned a) IsStuck = ⊥
SameEnd (HasTrapped reason) (At rest) = ⊥
SameEnd (HasTrapped reason) (HasReturned b) = ⊥
SameEnd (HasTrapped reason) (HasTrapped other) = reason ≡ other
SameEnd (HasTrapped reason) IsStuck = ⊥
SameEnd IsStuck (At rest) = ⊥
SameEnd IsStuck (HasReturned b) = ⊥
SameEnd IsStuck (HasTrapped reason) = ⊥
SameEnd IsStuck IsStuck = Unit {0}

pub same_ending : {X Y : Type 0} (c : Control X) (d : Control Y) (memory : Memory) → SameEnd c d → ending_of c memory ≡ ending_of d memory
same_ending (At rest) d memory same = absurd same
same_ending (HasReturned a) (At rest) memory same = absurd same
same_ending (HasReturned a) (HasReturned b) memory same = cc
same_ending (HasReturned a) (HasTrapped reason) memory same = absurd same
same_ending (HasReturned a) IsStuck memory same = absurd same
same_ending (HasTrapped reason) (At rest) memory same = absurd same
same_ending (HasTrapped reason) (HasReturned b) memory same = absurd same
same_ending (HasTrapped reason) (HasTrapped other) memory same = cc
same_ending (HasTrapped reason) IsStuck memory same = absurd same
same_ending IsStuck (At rest) memory same = absurd same
same_ending IsStuck (HasReturned b) memory same = absurd same
same_ending IsStuck (HasTrapped reason) memory same = absurd same
same_ending IsStuck IsStuck memory same = refl

-- Outcomes --------------------------------------------------------------------------------------------------------------

-- it goes on in its block, along an edge, or ends
abbrev pub IsPlain : Outcome → Type 0
IsPlain (Gives results memory) = Unit {0}
IsPlain (Goes edge given memory) = Unit {0}
IsPlain (Returns results) = Unit {0}
IsPlain (Traps reason) = Unit {0}
IsPlain (Calls callee call arguments) = ⊥
IsPlain NoStep = Unit {0}

computed_plain : (c : Computed) (memory : Memory) → IsPlain (outcome_of_computed c memory)
computed_plain (Values results) memory = tt
computed_plain (Fault reason) memory = tt
computed_plain Undefined memory = tt

access_plain : (world : World) (flags : MemFlagsShape) (range : Range) (outcome : Outcome) → IsPlain outcome → IsPlain (access_outcome world flags range outcome)
access_plain world flags range outcome plain =
    by (flags.aligned && not (range.start % range.size == 0)) (are_accessible world range range.size) flags.notrap
  where
    by : (misaligned accessible notrap : Bool) → IsPlain (if misaligned then NoStep else (if accessible then outcome else (if notrap then NoStep else Traps HeapOutOfBounds)))
    by true accessible notrap = tt
    by false true notrap = plain
    by false false true = tt
    by false false false = tt

trap_plain : (traps : Bool) (reason : TrapCode) (memory : Memory) → IsPlain (if traps then Traps reason else Gives [] memory)
trap_plain true reason memory = tt
trap_plain false reason memory = tt

-- an operation on bytes
bytes_plain : (world : World) (operation : ByteOperation) (width : ℕ) (operands : List Bits) (memory : Memory) → IsPlain (byte_outcome world operation width operands memory)
bytes_plain world operation width operands memory = byte_cases IsPlain world operation width operands memory tt (λ in_order. tt)

-- what calls nothing
pub outcome_plain : (world : World) (operation : Operation) → call_shape operation ≡ None → (ty : «Type») (types : List «Type») (operands : List Bits) (memory : Memory)
    → IsPlain (outcome_of world operation ty types operands memory)
outcome_plain world (Compute arithmetic) no_call ty types operands memory = computed_plain (computed arithmetic ty types operands) memory
outcome_plain world (Load flags offset) no_call ty types [] memory = tt
outcome_plain world (Load flags offset) no_call ty types (address ∷ []) memory = access_plain world flags _ (Gives _ memory) tt
outcome_plain world (Load flags offset) no_call ty types (address ∷ x ∷ operands) memory = tt
outcome_plain world (Store flags offset) no_call ty types [] memory = tt
outcome_plain world (Store flags offset) no_call ty types (stored ∷ []) memory = tt
outcome_plain world (Store flags offset) no_call ty types (stored ∷ address ∷ []) memory = access_plain world flags _ (Gives [] _) tt
outcome_plain world (Store flags offset) no_call ty types (stored ∷ address ∷ x ∷ operands) memory = tt
outcome_plain world (Stack StackAddr slot offset) no_call ty types [] memory = tt
outcome_plain world (Stack StackAddr slot offset) no_call ty types (x ∷ operands) memory = tt
outcome_plain world (Stack StackLoad slot offset) no_call ty types [] memory = access_plain world no_claim _ (Gives _ memory) tt
outcome_plain world (Stack StackLoad slot offset) no_call ty types (x ∷ operands) memory = tt
outcome_plain world (StackStore slot offset) no_call ty types [] memory = tt
outcome_plain world (StackStore slot offset) no_call ty types (stored ∷ []) memory = access_plain world no_claim _ (Gives [] _) tt
outcome_plain world (StackStore slot offset) no_call ty types (stored ∷ x ∷ operands) memory = tt
outcome_plain world (Trap reason) no_call ty types [] memory = tt
outcome_plain world (Trap reason) no_call ty types (x ∷ operands) memory = tt
outcome_plain world (CondTrap opcode reason) no_call ty types [] memory = tt
outcome_plain world (CondTrap opcode reason) no_call ty types (condition ∷ []) memory = trap_plain (traps_on opcode condition) reason memory
outcome_plain world (CondTrap opcode reason) no_call ty types (condition ∷ x ∷ operands) memory = tt
outcome_plain world Jump no_call ty types [] memory = tt
outcome_plain world Jump no_call ty types (x ∷ operands) memory = tt
outcome_plain world Brif no_call ty types [] memory = tt
outcome_plain world Brif no_call ty types (x ∷ []) memory = tt
outcome_plain world Brif no_call ty types (x ∷ y ∷ operands) memory = tt
outcome_plain world (BrTable entries) no_call ty types [] memory = tt
outcome_plain world (BrTable entries) no_call ty types (x ∷ []) memory = tt
outcome_plain world (BrTable entries) no_call ty types (x ∷ y ∷ operands) memory = tt
outcome_plain world (Switch keys) no_call ty types [] memory = tt
outcome_plain world (Switch keys) no_call ty types (x ∷ []) memory = tt
outcome_plain world (Switch keys) no_call ty types (x ∷ y ∷ operands) memory = tt
outcome_plain world (Bytes operation) no_call ty types operands memory = bytes_plain world operation (bits_of ty) operands memory
outcome_plain world Return no_call ty types operands memory = tt
outcome_plain world (Call name signature) no_call ty types operands memory = cc
outcome_plain world (CallIndirect signature) no_call ty types operands memory = cc
outcome_plain world (TryCall name call) no_call ty types operands memory = cc
outcome_plain world (TryCallIndirect call) no_call ty types operands memory = cc

-- No instruction of the program calls anything.
pub item_plain : (calls : List AnsweredCall) (block : Name) → AllByRecursion CallsNothing ((program_so_far calls).items block)
    → (k place : ℕ) (instruction : Instruction Name Name) (results : List Name) → slice_get ((program_so_far calls).items block) k ≡ Some (Instruct place instruction results)
    → call_shape instruction.operation ≡ None
item_plain calls block nothing k place instruction results stands =
    all_at CallsNothing ((program_so_far calls).items block) k (Instruct place instruction results) nothing stands

-- the same operation on the same bits, in the same memory, where the operands' types make no difference
pub same_outcomes : (world : World) (operation : Operation) (ty : «Type») (types others : List «Type») (operands bits : List Bits) (memory other : Memory)
    → ((xs : List Bits) (m : Memory) → outcome_of world operation ty others xs m ≡ outcome_of world operation ty types xs m)
    → operands ≡ bits → memory ≡ other → outcome_of world operation ty others bits other ≡ outcome_of world operation ty types operands memory
same_outcomes world operation ty types others operands bits memory other alike same_bits same_memory =
    alike bits other
    ∙ ap₂ (λ (xs : List Bits) (m : Memory). outcome_of world operation ty types xs m) (sym same_bits) (sym same_memory)

-- Steps and measures -------------------------------------------------------------------------------------------------------

-- what ended in one way stays
pub script_still : (run : ScriptRun) (state : ScriptState) (c : Control Item) (d : Control Placed) → SameEnd c d → script.step_at run state c ≡ state
script_still run state (At rest) d same = absurd same
script_still run state (HasReturned results) d same = refl
script_still run state (HasTrapped reason) d same = refl
script_still run state IsStuck d same = refl

pub function_still : (run : FunctionRun) (state : FunctionState) (c : Control Item) (d : Control Placed) → SameEnd c d → function_machine_of.step_at run state d ≡ state
function_still run state (At items) (At rest) same = absurd same
function_still run state (HasReturned a) (At rest) same = absurd same
function_still run state (HasTrapped a) (At rest) same = absurd same
function_still run state IsStuck (At rest) same = absurd same
function_still run state c (HasReturned results) same = refl
function_still run state c (HasTrapped reason) same = refl
function_still run state c IsStuck same = refl

-- what a machine shows, by its parts
abbrev pub observation : List Event → Ending → Observation
observation events ending = record { events = events; ending = ending }

-- how many items are left
abbrev pub remaining : Control Item → ℕ
remaining (At rest) = length rest
remaining (HasReturned results) = 0
remaining (HasTrapped reason) = 0
remaining IsStuck = 0
