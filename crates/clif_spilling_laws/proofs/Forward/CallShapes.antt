-- An outside call is the one that the operation makes.
use Rattle.std.proofs.Common.{◌≡◌, ◌==◌, ◌&&◌, ◌%◌, ℕ, Bool, true, false, not, List, [], ◌∷◌, refl, Option, Some, None}
use Rattle.std.specs.Prelude.{if◌then◌else◌}
use Rattle.clif_opcodes.specs.declared.opcodes.StackOpcode.TheVariants.{StackAddr, StackLoad}
use Rattle.clif_types.specs.MemFlags.{MemFlagsShape}
use Rattle.clif_types.specs.Types.{bits_of}
use Rattle.clif_types.specs.Signature.{SignatureShape}
use Rattle.clif_types.specs.declared.extname.ExternalName.{ExternalName}
use Rattle.clif_types.specs.declared.extname.ExternalName.TheVariants.{LibCall, TestCase, User}
use Rattle.clif_types.specs.declared.libcall.LibCall.{LibCall as LibraryFunction}
use Rattle.clif_types.specs.declared.types.«Type».{«Type»}
use Rattle.clif_meaning.specs.Bits.{Bits}
use Rattle.clif_meaning.specs.ByteOperation.{ByteOperation}
use Rattle.clif_meaning.specs.Event.{CallShape, plain_call}
use Rattle.clif_meaning.specs.Instruction.{Operation, Compute, Load, Store, Stack, StackStore, Trap, CondTrap, Jump, Brif, BrTable, Switch, Bytes, Return, Call, CallIndirect, TryCall, TryCallIndirect}
use Rattle.clif_meaning.specs.Memory.{Memory, Range}
use Rattle.clif_meaning.specs.Outcome.{Outcome, Gives, Goes, Returns, Traps, Calls, NoStep, Computed, Values, Fault, Undefined, access_outcome, are_accessible, byte_outcome, byte_ranges, bytes_in_order, call_outcome, computed, library_outcome, library_runs, no_claim, outcome_of, outcome_of_computed, ranges_accessible, traps_on}
use Rattle.clif_meaning.specs.Typing.{call_shape}
use Rattle.clif_meaning.specs.World.{World}

-- an outside call is this one
abbrev pub Makes : Option CallShape → Outcome → Type 0
Makes made (Calls callee call arguments) = made ≡ Some call
Makes made (Gives values memory) = Unit {0}
Makes made (Goes edge given memory) = Unit {0}
Makes made (Returns values) = Unit {0}
Makes made (Traps reason) = Unit {0}
Makes made NoStep = Unit {0}

computed_makes : (made : Option CallShape) (computed : Computed) (memory : Memory) → Makes made (outcome_of_computed computed memory)
computed_makes made (Values results) memory = tt
computed_makes made (Fault reason) memory = tt
computed_makes made Undefined memory = tt

if_makes : (made : Option CallShape) (b : Bool) (left right : Outcome) → Makes made left → Makes made right → Makes made (if b then left else right)
if_makes made true left right first second = first
if_makes made false left right first second = second

access_makes : (made : Option CallShape) (world : World) (flags : MemFlagsShape) (range : Range) (outcome : Outcome) → Makes made outcome
    → Makes made (access_outcome world flags range outcome)
access_makes made world flags range outcome makes =
    if_makes made (flags.aligned && not (range.start % range.size == 0)) NoStep _ tt
    (if_makes made (are_accessible world range range.size) outcome _ makes (if_makes made flags.notrap NoStep _ tt tt))

library_makes : (made : Option CallShape) (world : World) (goes_on : List Bits → Memory → Outcome) (callee : LibraryFunction) (signature : SignatureShape)
    (arguments : List Bits) (memory : Memory) → ((values : List Bits) (after : Memory) → Makes made (goes_on values after))
    → Makes made (library_outcome world goes_on callee signature arguments memory)
library_makes made world goes_on callee signature [] memory makes = tt
library_makes made world goes_on callee signature (a ∷ []) memory makes = tt
library_makes made world goes_on callee signature (a ∷ b ∷ []) memory makes = tt
library_makes made world goes_on callee signature (first ∷ second ∷ size ∷ []) memory makes =
    if_makes made (library_runs world callee signature first second size) _ NoStep (makes _ _) tt
library_makes made world goes_on callee signature (a ∷ b ∷ d ∷ e ∷ more) memory makes = tt

call_makes : (world : World) (goes_on : List Bits → Memory → Outcome) (name : ExternalName) (call : CallShape) (arguments : List Bits) (memory : Memory)
    → ((values : List Bits) (after : Memory) → Makes (Some call) (goes_on values after)) → Makes (Some call) (call_outcome world goes_on name call arguments memory)
call_makes world goes_on (LibCall callee) call arguments memory makes = library_makes (Some call) world goes_on callee call.signature arguments memory makes
call_makes world goes_on (TestCase bytes) call arguments memory makes = refl
call_makes world goes_on (User named) call arguments memory makes = refl

bytes_make : (world : World) (operation : ByteOperation) (width : ℕ) (operands : List Bits) (memory : Memory) → Makes None (byte_outcome world operation width operands memory)
bytes_make world operation width operands memory =
    if_makes None (bytes_in_order operation width operands && ranges_accessible world (byte_ranges operation width operands)) _ NoStep tt tt

pub outcome_makes : (world : World) (operation : Operation) (ty : «Type») (types : List «Type») (operands : List Bits) (memory : Memory)
    → Makes (call_shape operation) (outcome_of world operation ty types operands memory)
outcome_makes world (Compute arithmetic) ty types operands memory = computed_makes None (computed arithmetic ty types operands) memory
outcome_makes world (Load flags offset) ty types [] memory = tt
outcome_makes world (Load flags offset) ty types (address ∷ []) memory = access_makes None world flags _ (Gives _ memory) tt
outcome_makes world (Load flags offset) ty types (address ∷ x ∷ operands) memory = tt
outcome_makes world (Store flags offset) ty types [] memory = tt
outcome_makes world (Store flags offset) ty types (stored ∷ []) memory = tt
outcome_makes world (Store flags offset) ty types (stored ∷ address ∷ []) memory = access_makes None world flags _ (Gives [] _) tt
outcome_makes world (Store flags offset) ty types (stored ∷ address ∷ x ∷ operands) memory = tt
outcome_makes world (Stack StackAddr slot offset) ty types [] memory = tt
outcome_makes world (Stack StackAddr slot offset) ty types (x ∷ operands) memory = tt
outcome_makes world (Stack StackLoad slot offset) ty types [] memory = access_makes None world no_claim _ (Gives _ memory) tt
outcome_makes world (Stack StackLoad slot offset) ty types (x ∷ operands) memory = tt
outcome_makes world (StackStore slot offset) ty types [] memory = tt
outcome_makes world (StackStore slot offset) ty types (stored ∷ []) memory = access_makes None world no_claim _ (Gives [] _) tt
outcome_makes world (StackStore slot offset) ty types (stored ∷ x ∷ operands) memory = tt
outcome_makes world (Trap reason) ty types [] memory = tt
outcome_makes world (Trap reason) ty types (x ∷ operands) memory = tt
outcome_makes world (CondTrap opcode reason) ty types [] memory = tt
outcome_makes world (CondTrap opcode reason) ty types (condition ∷ []) memory = if_makes None (traps_on opcode condition) (Traps reason) (Gives [] memory) tt tt
outcome_makes world (CondTrap opcode reason) ty types (condition ∷ x ∷ operands) memory = tt
outcome_makes world Jump ty types [] memory = tt
outcome_makes world Jump ty types (x ∷ operands) memory = tt
outcome_makes world Brif ty types [] memory = tt
outcome_makes world Brif ty types (condition ∷ []) memory = tt
outcome_makes world Brif ty types (condition ∷ x ∷ operands) memory = tt
outcome_makes world (BrTable entries) ty types [] memory = tt
outcome_makes world (BrTable entries) ty types (index ∷ []) memory = tt
outcome_makes world (BrTable entries) ty types (index ∷ x ∷ operands) memory = tt
outcome_makes world (Switch keys) ty types [] memory = tt
outcome_makes world (Switch keys) ty types (key ∷ []) memory = tt
outcome_makes world (Switch keys) ty types (key ∷ x ∷ operands) memory = tt
outcome_makes world (Bytes operation) ty types operands memory = bytes_make world operation (bits_of ty) operands memory
outcome_makes world Return ty types operands memory = tt
outcome_makes world (Call name signature) ty types operands memory = call_makes world Gives name (plain_call signature) operands memory (λ values after. tt)
outcome_makes world (CallIndirect signature) ty types [] memory = tt
outcome_makes world (CallIndirect signature) ty types (address ∷ operands) memory = refl
outcome_makes world (TryCall name call) ty types operands memory = call_makes world (Goes 0) name call operands memory (λ values after. tt)
outcome_makes world (TryCallIndirect call) ty types [] memory = tt
outcome_makes world (TryCallIndirect call) ty types (address ∷ operands) memory = refl
