-- Worked examples of the whole theorem with a collector that moves: all premises hold at once, both runs return what was moved, and with
-- wrong stack maps the theorem isn't true. The collector adds 16 to each number but zero. Own.
use Rattle.std.specs.Prelude.{◌≡◌, ◌≢◌, refl, ℕ, List, [], ◌∷◌, length}
use Rattle.clif_types.specs.Target.{pointer_type_of}
use Rattle.clif_types.specs.declared.stackmap.UserStackMapEntry.{UserStackMapEntry}
use Rattle.clif_types.specs.declared.target.PointerWidth.TheVariants.{U64}
use Rattle.clif_meaning.specs.Acceptance.{Accepted, verdict_on}
use Rattle.clif_meaning.specs.Bits.{Bits}
use Rattle.clif_meaning.specs.Event.{CallShape, Event}
use Rattle.clif_meaning.specs.Examples.{moved_by_16}
use Rattle.clif_meaning.specs.FunctionView.{FunctionView}
use Rattle.clif_meaning.specs.Headline.{IsWorldOf, MeansTheSame, function_behaviour, script_behaviour, script_run}
use Rattle.clif_meaning.specs.Machine.{Ending, Returned}
use Rattle.clif_meaning.specs.Premises.{Premises}
use Rattle.clif_meaning.specs.SameMeaning.{Behaviour, SameMeaning}
use Rattle.clif_meaning.specs.World.{World}
use Rattle.clif_moving_examples.specs.Scripts.{Example, across, entry_of, finished, join, spilled}

-- how an example goes: what it is passed, what is returned behind the calls and what would be if nothing moved, how many calls are made,
-- and how many steps the runs of the script and of the function take
pub record Course : Type 0 where
  pub passed : Bits
  pub returned : Bits
  pub unmoved : Bits
  pub calls : ℕ
  pub script_steps : ℕ
  pub function_steps : ℕ

-- the bits that a run has returned after so many steps; none if it hasn't
abbrev pub returned_bits : Ending → List Bits
returned_bits (Returned results memory) = results
returned_bits _ = []

abbrev pub returned_after : ℕ → Behaviour → List Bits
returned_after steps run = returned_bits (run steps).ending

-- a world under all premises, beside this function, in which this is passed and the collector adds 16, and memory is that of the other
-- world, at first and behind each call
pub record IsUnderPremises (e : Example) (passed : Bits) (function : FunctionView) (other world : World) : Type 0 where
  pub arguments : world.arguments ≡ passed ∷ []
  pub memory : world.memory ≡ other.memory
  pub memory_after : world.memory_after ≡ other.memory_after
  pub moves : (events : List Event) (call : CallShape) → world.moved events call ≡ moved_by_16
  pub of_function : IsWorldOf e.signature function U64 world
  pub premises : Premises e.script e.signature (pointer_type_of U64) (script_run e.script function world)

-- the world with a collector that leaves each value as it is
abbrev pub at_rest : World → World
at_rest world = record world {
  moved = λ events call ty bits. bits;
  moved_fits = λ events call ty bits fits. fits;
  moved_zero = λ events call ty. refl;
}

-- In such a world the finished function means what the script means; and what both return isn't what they would if nothing moved.
pub record GoesSo (e : Example) (course : Course) (other world : World) : Type 0 where
  pub under : IsUnderPremises e course.passed (finished e) other world
  pub by_script : returned_after course.script_steps (script_behaviour e.script (finished e) world) ≡ course.returned ∷ []
  pub by_function : returned_after course.function_steps (function_behaviour e.script (finished e) world) ≡ course.returned ∷ []
  pub calls_shown : length (script_behaviour e.script (finished e) world course.script_steps).events ≡ course.calls
  -- events, what is returned and memory are the same in the end
  pub same_end : script_behaviour e.script (finished e) world course.script_steps
      ≡ function_behaviour e.script (finished e) world course.function_steps
  pub same : SameMeaning (script_behaviour e.script (finished e) world) (function_behaviour e.script (finished e) world)
  -- what both return where the collector leaves each value
  pub by_script_at_rest : returned_after course.script_steps (script_behaviour e.script (finished e) (at_rest world)) ≡ course.unmoved ∷ []
  pub by_function_at_rest : returned_after course.function_steps (function_behaviour e.script (finished e) (at_rest world))
      ≡ course.unmoved ∷ []
  pub is_moved : course.returned ≢ course.unmoved

-- there is such a world, whatever memory holds
abbrev pub IsMet : Example → Course → Type 0
IsMet e course = (other : World) → (world : World) × GoesSo e course other world

-- the parameter moves at each of two calls
abbrev pub across_course : Course
across_course = record { passed = 64; returned = 96; unmoved = 64; calls = 2; script_steps = 5; function_steps = 9 }

-- what the variable gets on either way to the join moves at one call
abbrev pub first_course : Course
first_course = record { passed = 1; returned = 116; unmoved = 100; calls = 1; script_steps = 7; function_steps = 9 }

abbrev pub other_course : Course
other_course = record { passed = 0; returned = 216; unmoved = 200; calls = 1; script_steps = 7; function_steps = 9 }

pub record TheTheoremIsMet : Type 0 where
  pub across_accepted : verdict_on across.script ≡ Accepted
  pub across_calls : IsMet across across_course
  pub join_accepted : verdict_on join.script ≡ Accepted
  pub by_first : IsMet join first_course
  pub by_other : IsMet join other_course

-- in such a world a function with so many slots and this stack map returns this, and the script what it should
pub record ReturnsOther (e : Example) (course : Course) (slots : ℕ) (entries : List UserStackMapEntry) (bits : Bits) (other world : World)
    : Type 0 where
  pub under : IsUnderPremises e course.passed (spilled e slots entries) other world
  pub by_script : returned_after course.script_steps (script_behaviour e.script (spilled e slots entries) world) ≡ course.returned ∷ []
  pub by_function : returned_after course.function_steps (function_behaviour e.script (spilled e slots entries) world) ≡ bits ∷ []

-- so the theorem isn't true of it
pub record IsRefused (e : Example) (course : Course) (slots : ℕ) (entries : List UserStackMapEntry) (bits : Bits) : Type 0 where
  pub goes_so : (other : World) → (world : World) × ReturnsOther e course slots entries bits other world
  pub differs : course.returned ≢ bits
  pub refused : MeansTheSame e.script e.signature U64 (spilled e slots entries) → ⊥

pub record WrongMapsAreRefused : Type 0 where
  -- the map lacks the entry, and the number stays
  pub no_entry : IsRefused across across_course 1 [] 64
  -- it names another slot, and the number stays
  pub other_slot : IsRefused across across_course 2 (entry_of 1 ∷ []) 64
  -- it names the slot twice, and the number moves twice at each call
  pub twice : IsRefused across across_course 1 (entry_of 0 ∷ entry_of 0 ∷ []) 128
  pub join_no_entry : IsRefused join first_course 1 [] 100
  pub join_other_slot : IsRefused join first_course 2 (entry_of 1 ∷ []) 100
  pub join_twice : IsRefused join other_course 1 (entry_of 0 ∷ entry_of 0 ∷ []) 232
