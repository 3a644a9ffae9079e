-- Worked examples: calls that meet all premises, and calls that fail one of them alone. No list that `replay` takes has spill slots or
-- marks yet, so these are over the definitions: a function has a slot more than its calls made, and calls ask for stack maps. Own.
use Rattle.std.specs.Prelude.{◌≡◌, ◌+◌, ◌^◌, ◌==◌, ℕ, if◌then◌else◌, Bool, true, false, List, [], ◌∷◌, nat_lt}
use Rattle.clif_types.specs.Signature.{SignatureShape}
use Rattle.clif_types.specs.StackSlot.{StackSlotShape}
use Rattle.clif_types.specs.declared.target.PointerWidth.TheVariants.{U64}
use Rattle.clif_meaning.specs.Bits.{Bits}
use Rattle.clif_meaning.specs.CallExamples.{i64}
use Rattle.clif_meaning.specs.Event.{Answer, CallShape, Event, Exception, Results}
use Rattle.clif_meaning.specs.Examples.{i32}
use Rattle.clif_meaning.specs.FunctionView.{FunctionView}
use Rattle.clif_meaning.specs.Machine.{Control, HasReturned, HasTrapped, state_after}
use Rattle.clif_meaning.specs.Program.{Item}
use Rattle.clif_meaning.specs.ScriptMachine.{script_machine}
use Rattle.clif_meaning.specs.World.{World}
use Rattle.clif_expansion.specs.ScriptCall.{ScriptCall}
use Rattle.clif_premise_examples.specs.Premise.{Arguments, ClaimsTrue, FailsAlone, GivenBefore, IsTyped, LibcAsNamed, MeetsAll, Pointers, Situation, Slots, SparesSpills, TargetsFilled, TrackedApart, run_in}
use Rattle.clif_premise_examples.specs.Scripts.{asking, bare_script, branches_calls, copies_calls, memory_script, misnamed_script, passing_script, stray_script, taking, to_entry_script, tracked_script, try_calls, unfilled_script}

-- A world with these arguments, pointers of this width, and these places for two slots, in which the first 1,024 bytes are accessible.
-- What memory holds, and what outside calls do, is that of any world.
abbrev pub placed : List Bits → (width first second : ℕ) → World → World
placed arguments width first second world = record world {
  arguments = arguments;
  is_accessible = λ address. nat_lt address 1024;
  pointer_width = width;
  slot_place = λ slot. if slot == 0 then first else second;
}

-- calls beside a function with these slots, with pointers of 64 bits
abbrev pub beside : List ScriptCall → SignatureShape → List StackSlotShape → FunctionView → World → Situation
beside calls signature slots function world =
    record { calls = calls; signature = signature; width = U64; function = record function { slots = slots }; world = world }

-- the slot of the calls on memory, and one slot more, of a byte
abbrev pub memory_slots : List StackSlotShape
memory_slots = record { size = 8; align_shift = 3 } ∷ record { size = 1; align_shift = 0 } ∷ []

-- These calls beside a function with both. Where the byte lies right behind the calls' slot, at 264,
abbrev pub on_memory : List Bits → (width first second : ℕ) → FunctionView → World → Situation
on_memory arguments width first second function world =
    beside (asking memory_script) (taking (i64 ∷ []) (i64 ∷ [])) memory_slots function
    (placed arguments width first second world)

-- and where the calls are given this address; they touch 16 bytes from there on.
abbrev pub at_address : ℕ → FunctionView → World → Situation
at_address address = on_memory (address ∷ []) 64 256 264

-- copies to the one address from the other one
abbrev pub on_copies : (target source : ℕ) → FunctionView → World → Situation
on_copies target source function world = beside copies_calls (taking (i64 ∷ i64 ∷ []) []) [] function (placed (target ∷ source ∷ []) 64 0 0 world)

-- branches by this argument
abbrev pub on_branches : ℕ → FunctionView → World → Situation
on_branches argument function world = beside branches_calls (taking (i32 ∷ []) (i32 ∷ [])) [] function (placed (argument ∷ []) 64 0 0 world)

-- the try call on this argument
abbrev pub on_try : ℕ → FunctionView → World → Situation
on_try argument function world = beside try_calls (taking (i64 ∷ []) (i64 ∷ [])) [] function (placed (argument ∷ []) 64 0 0 world)

-- calls of a function that takes nothing
abbrev pub alone : List ScriptCall → SignatureShape → FunctionView → World → Situation
alone calls signature function world = beside calls signature [] function (placed [] 64 0 0 world)

-- where the script's run stands after so many steps
abbrev pub stands_after : ℕ → Situation → Control Item
stands_after steps s = (state_after (script_machine (run_in s)) steps).control

abbrev pub has_returned : Control Item → Bool
has_returned (HasReturned results) = true
has_returned _ = false

abbrev pub has_trapped : Control Item → Bool
has_trapped (HasTrapped reason) = true
has_trapped _ = false

-- the answer to each outside call is this one
abbrev pub Answers : World → Answer → Type 0
Answers world answer = (events : List Event) (call : CallShape) → world.answer events call ≡ answer

-- In every world, beside every function:
pub record PremisesAreMet (function : FunctionView) (world : World) : Type 0 where
  -- memory, and each of its five instructions is come to
  pub memory : MeetsAll (at_address 64 function world)
  pub memory_returns : has_returned (stands_after 5 (at_address 64 function world)) ≡ true
  -- copies, of which each is made
  pub copies : MeetsAll (on_copies 64 80 function world)
  pub copies_return : has_returned (stands_after 5 (on_copies 64 80 function world)) ≡ true
  -- branches: to the trap, by the switch to the return, and by default
  pub to_trap : MeetsAll (on_branches 0 function world)
  pub traps : has_trapped (stands_after 2 (on_branches 0 function world)) ≡ true
  pub by_switch : MeetsAll (on_branches 1 function world)
  pub switch_returns : stands_after 4 (on_branches 1 function world) ≡ HasReturned (7 ∷ [])
  pub by_default : MeetsAll (on_branches 5 function world)
  pub default_returns : stands_after 3 (on_branches 5 function world) ≡ HasReturned (7 ∷ [])
  -- the try call, whatever is answered: where it returns, the argument is returned, and where it throws, the first part of the exception
  pub tries : MeetsAll (on_try 64 function world)
  pub try_returns : (bits : Bits) → Answers world (Results (bits ∷ [])) → stands_after 2 (on_try 64 function world) ≡ HasReturned (64 ∷ [])
  pub try_throws : (first second : Bits) → Answers world (Exception 0 (first ∷ second ∷ [])) → stands_after 2 (on_try 64 function world) ≡ HasReturned (first ∷ [])

pub record EachPremiseFailsAlone (function : FunctionView) (world : World) : Type 0 where
  -- an argument that isn't one of 64 bits, pointers of 32 bits, and a slot that isn't aligned
  pub arguments : FailsAlone Arguments (at_address (2 ^ 64 + 64) function world)
  pub pointers : FailsAlone Pointers (on_memory (64 ∷ []) 32 256 264 function world)
  pub slots : FailsAlone Slots (on_memory (64 ∷ []) 64 257 265 function world)
  -- a jump to a block that isn't filled, and one to the entry
  pub targets : FailsAlone TargetsFilled (alone (asking unfilled_script) (taking [] []) function world)
  pub entry : FailsAlone TargetsFilled (alone (asking to_entry_script) (taking [] []) function world)
  -- nothing is returned where a value should be; and a parameter that the entry hasn't
  pub types : FailsAlone IsTyped (alone (asking bare_script) (taking [] (i32 ∷ [])) function world)
  pub parameters : FailsAlone IsTyped (beside (asking bare_script) (taking (i32 ∷ []) []) [] function (placed (7 ∷ []) 64 0 0 world))
  -- a name that isn't given is returned, or passed; and what is tracked is assigned to a variable that isn't
  pub given : FailsAlone GivenBefore (alone (asking stray_script) (taking [] (i32 ∷ [])) function world)
  pub passed : FailsAlone GivenBefore (alone (asking passing_script) (taking [] (i32 ∷ [])) function world)
  pub tracked : FailsAlone TrackedApart (alone (asking tracked_script) (taking [] []) function world)
  -- the hidden byte is loaded
  pub spills : FailsAlone SparesSpills (at_address 264 function world)
  -- a load that doesn't trap of bytes that aren't accessible, one that isn't aligned, and a copy of bytes that overlap
  pub accessible : FailsAlone ClaimsTrue (at_address 1024 function world)
  pub aligned : FailsAlone ClaimsTrue (at_address 68 function world)
  pub apart : FailsAlone ClaimsTrue (on_copies 64 72 function world)
  -- `Memcpy` by another signature
  pub libc : FailsAlone LibcAsNamed (alone (asking misnamed_script) (taking [] []) function world)
