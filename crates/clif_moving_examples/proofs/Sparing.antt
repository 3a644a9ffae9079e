-- The example of a store in the place of a spill slot.
use Rattle.std.proofs.Common.{◌≡◌, ◌==◌, ℕ, List, [], ◌∷◌, refl, sym, ap, ◌∙◌, arith}
use Rattle.clif_meaning.specs.Bits.{value_bytes}
use Rattle.clif_meaning.specs.Event.{Event, Named, plain_call}
use Rattle.clif_meaning.specs.Examples.{moved_by_16}
use Rattle.clif_meaning.specs.FunctionMachine as function
use Rattle.clif_meaning.specs.FunctionView.{Placed}
use Rattle.clif_meaning.specs.Headline.{function_behaviour, function_run, script_behaviour, script_run}
use Rattle.clif_meaning.specs.Machine.{NotYet, Observation, Returned}
use Rattle.clif_meaning.specs.Memory.{Memory, written}
use Rattle.clif_meaning.specs.SameMeaning.{Behaviour}
use Rattle.clif_meaning.specs.Store.{memory_beside, shown_memory}
use Rattle.clif_meaning.specs.World.{World}
use Rattle.clif_meaning.proofs.Endings.{function_stays, script_stays}
use Rattle.clif_moving_examples.specs.Examples.{GoesSo, IsMet, IsRefused, IsUnderPremises}
use Rattle.clif_moving_examples.specs.Scripts.{callee, entry_of, finished, takes_nothing}
use Rattle.clif_moving_examples.specs.Sparing.{MeansItBefore, dead_store, held, held_course, held_script, shown_before, unspilled}
use Rattle.clif_moving_examples.proofs.Memory.{called_alike, or_false, slot, stored_alike}
use Rattle.clif_moving_examples.proofs.Premises.{held_premises}
use Rattle.clif_moving_examples.proofs.Refusals.{is_refused}
use Rattle.clif_moving_examples.proofs.Showing.{means_the_same}
use Rattle.clif_moving_examples.proofs.Worlds.{passing, slots_placed}

-- what is seen behind the call, and in the end
abbrev call_with : Memory → List Event
call_with memory = record { callee = Named (callee 0); arguments = []; memory = memory } ∷ []

abbrev at_end : (first last : Memory) → Observation
at_end first last = record { events = call_with first; ending = Returned (80 ∷ []) last }

module _ (between : List Placed) (other : World) where
  abbrev world : World
  world = passing 64 other

  under : IsUnderPremises (held between) 64 (finished (held between)) other world
  under = record {
    arguments = refl;
    memory = refl;
    memory_after = refl;
    moves = λ events call. refl;
    of_function = record { arguments = (omega arith, tt); pointers = refl; slots = slots_placed 64 other 1 (omega arith) };
    premises = held_premises (finished (held between)) world;
  }

  abbrev run : function.FunctionRun
  run = function_run held_script (finished (held between)) world function.ByMaps

  abbrev left : Behaviour
  left = script_behaviour held_script (finished (held between)) world

  -- memory as it is shown at first, and as a call leaves it beside this in hidden bytes
  abbrev shown : Memory
  shown = shown_memory run.hidden other.memory

  abbrev left_by : Memory → List Event → Memory
  left_by kept events = memory_beside run.hidden kept (other.memory_after events (plain_call takes_nothing))

  -- a store in the slot isn't seen
  unseen : (memory : Memory) (bits : ℕ) → shown_memory run.hidden memory ≡ shown_memory run.hidden (written memory slot (value_bytes 8 bits))
  unseen memory bits = stored_alike run.hidden memory slot (value_bytes 8 bits) (omega arith) (omega arith) (λ address is. or_false _ is)

-- BEFORE ------------------------------------------------------------------------------------------------------------------

module _ (other : World) where
  abbrev before : function.FunctionRun
  before = record (function_run held_script (finished (held dead_store)) (passing 64 other) (function.OverSet (λ v. v == 0))) { function = unspilled dead_store }

  end_before : left dead_store other 2 ≡ shown_before dead_store (passing 64 other) 5
  end_before = ap (at_end (shown dead_store other)) (unseen dead_store other (left_by dead_store other other.memory (call_with (shown dead_store other))) 0)

  means_before : MeansItBefore other (passing 64 other)
  means_before = record {
    under = under dead_store other;
    stores_in_slot = refl;
    by_before = refl;
    same =
        means_the_same _ _ 2 5 (script_stays (script_run held_script (finished (held dead_store)) (passing 64 other))) (function_stays before) tt tt
        ((0, refl), ((1, refl), tt)) ((0, refl), ((1, refl), ((1, refl), ((1, refl), ((1, refl), tt))))) end_before;
  }

-- AFTER -------------------------------------------------------------------------------------------------------------------

pub after : IsRefused (held dead_store) (held_course 9) 1 (entry_of 0 ∷ []) 0
after = is_refused (held dead_store) (held_course 9) 1 (entry_of 0 ∷ []) 0 (λ same. absurd (omega (arith, same))) (passing 64)
    (λ other. record { under = under dead_store other; by_script = refl; by_function = refl })

module _ (other : World) where
  abbrev right : Behaviour
  right = function_behaviour held_script (finished (held [])) (passing 64 other)

  abbrev with_slot : Memory
  with_slot = written other.memory slot (value_bytes 8 64)

  abbrev moved : Memory
  moved = function.entries_moved (run [] other) moved_by_16 (entry_of 0 ∷ []) with_slot

  abbrev shown_by : Memory → List Event → Memory
  shown_by kept events = shown_memory (run [] other).hidden (left_by [] other kept events)

  stored : shown [] other ≡ shown_memory (run [] other).hidden with_slot
  stored = unseen [] other other.memory 64

  called : shown_by other.memory (call_with (shown [] other)) ≡ shown_by moved (call_with (shown_memory (run [] other).hidden with_slot))
  called =
      called_alike (run [] other).hidden other.memory moved (other.memory_after (call_with (shown [] other)) (plain_call takes_nothing))
      ∙ ap (λ (first : Memory). shown_by moved (call_with first)) stored

  call_alike : left [] other 1 ≡ right 3
  call_alike = ap (λ (first : Memory). record { events = call_with first; ending = NotYet }) stored

  end_alike : left [] other 2 ≡ right 6
  end_alike = λ i. at_end (stored i) (called i)

  goes_so : GoesSo (held []) (held_course 6) other (passing 64 other)
  goes_so = record {
    under = under [] other;
    by_script = refl;
    by_function = refl;
    calls_shown = refl;
    by_script_at_rest = refl;
    by_function_at_rest = refl;
    same_end = end_alike;
    same =
        means_the_same _ _ 2 6 (script_stays (script_run held_script (finished (held [])) (passing 64 other))) (function_stays (run [] other)) tt tt
        ((0, refl), ((3, call_alike), tt))
        ((0, refl), ((0, refl), ((0, refl), ((1, sym call_alike), ((1, sym call_alike), ((1, sym call_alike), tt))))))
        end_alike;
    is_moved = λ same. absurd (omega (arith, same));
  }

pub without : IsMet (held []) (held_course 6)
without other = (passing 64 other, goes_so other)

pub means_it_before : (other : World) → (world : World) × MeansItBefore other world
means_it_before other = (passing 64 other, means_before other)
