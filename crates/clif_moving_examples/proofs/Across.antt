-- The example of a parameter that lives across two calls.
use Rattle.std.proofs.Common.{◌≡◌, ◌≤◌, ℕ, List, [], ◌∷◌, refl, sym, ap, ◌∙◌, arith}
use Rattle.clif_types.specs.declared.stackmap.UserStackMapEntry.{UserStackMapEntry}
use Rattle.clif_meaning.specs.Bits.{value_bytes}
use Rattle.clif_meaning.specs.Event.{CallShape, Event, Named, plain_call}
use Rattle.clif_meaning.specs.Examples.{moved_by_16}
use Rattle.clif_meaning.specs.FunctionMachine as function
use Rattle.clif_meaning.specs.Headline.{function_behaviour, function_run, script_behaviour, script_run}
use Rattle.clif_meaning.specs.Machine.{NotYet, Observation, Returned, state_after}
use Rattle.clif_meaning.specs.Memory.{Memory}
use Rattle.clif_meaning.specs.SameMeaning.{Behaviour, SameMeaning}
use Rattle.clif_meaning.specs.ScriptMachine as script
use Rattle.clif_meaning.specs.Store.{memory_beside, shown_memory}
use Rattle.clif_meaning.specs.World.{World}
use Rattle.clif_meaning.proofs.Endings.{function_stays, script_stays}
use Rattle.clif_moving_examples.specs.Examples.{GoesSo, IsMet, IsRefused, IsUnderPremises, across_course}
use Rattle.clif_moving_examples.specs.Scripts.{across, callee, entry_of, finished, spilled, takes_nothing, takes_one}
use Rattle.clif_moving_examples.proofs.Memory.{called_alike, or_false, slot, stored_alike}
use Rattle.clif_moving_examples.proofs.Premises.{across_premises}
use Rattle.clif_moving_examples.proofs.Refusals.{is_refused}
use Rattle.clif_moving_examples.proofs.Showing.{means_the_same}
use Rattle.clif_moving_examples.proofs.Worlds.{passing, slots_placed}

under : (slots : ℕ) (entries : List UserStackMapEntry) → slots ≤ 2 → (other : World)
    → IsUnderPremises across 64 (spilled across slots entries) other (passing 64 other)
under slots entries few other = record {
  arguments = refl;
  memory = refl;
  memory_after = refl;
  moves = λ events call. refl;
  of_function = record { arguments = (omega arith, tt); pointers = refl; slots = slots_placed 64 other slots few };
  premises = across_premises (spilled across slots entries) (passing 64 other);
}

-- WRONG MAPS --------------------------------------------------------------------------------------------------------------

pub no_entry : IsRefused across across_course 1 [] 64
no_entry = is_refused across across_course 1 [] 64 (λ same. absurd (omega (arith, same))) (passing 64)
    (λ other. record { under = under 1 [] (omega arith) other; by_script = refl; by_function = refl })

pub other_slot : IsRefused across across_course 2 (entry_of 1 ∷ []) 64
other_slot = is_refused across across_course 2 (entry_of 1 ∷ []) 64 (λ same. absurd (omega (arith, same))) (passing 64)
    (λ other. record { under = under 2 (entry_of 1 ∷ []) (omega arith) other; by_script = refl; by_function = refl })

pub twice : IsRefused across across_course 1 (entry_of 0 ∷ entry_of 0 ∷ []) 128
twice = is_refused across across_course 1 (entry_of 0 ∷ entry_of 0 ∷ []) 128 (λ same. absurd (omega (arith, same))) (passing 64)
    (λ other. record { under = under 1 (entry_of 0 ∷ entry_of 0 ∷ []) (omega arith) other; by_script = refl; by_function = refl })

-- THE MEANING -------------------------------------------------------------------------------------------------------------

-- what is seen behind the first call, behind the second one, and in the end
abbrev first_call : Memory → List Event
first_call memory = record { callee = Named (callee 0); arguments = []; memory = memory } ∷ []

abbrev second_call : (first second : Memory) → List Event
second_call first second = record { callee = Named (callee 1); arguments = 80 ∷ []; memory = second } ∷ first_call first

abbrev after_first : Memory → Observation
after_first first = record { events = first_call first; ending = NotYet }

abbrev after_second : (first second : Memory) → Observation
after_second first second = record { events = second_call first second; ending = NotYet }

abbrev at_end : (first second last : Memory) → Observation
at_end first second last = record { events = second_call first second; ending = Returned (96 ∷ []) last }

module _ (other : World) where
  abbrev world : World
  world = passing 64 other

  abbrev run : function.FunctionRun
  run = function_run across.script (finished across) world function.ByMaps

  abbrev left : Behaviour
  left = script_behaviour across.script (finished across) world

  abbrev right : Behaviour
  right = function_behaviour across.script (finished across) world

  -- memory as it is shown where a call leaves this in hidden bytes, behind these events
  abbrev shown_after : CallShape → Memory → List Event → Memory
  shown_after call kept events = shown_memory run.hidden (memory_beside run.hidden kept (other.memory_after events call))

  -- memory with the number in its slot, and where the calls left it
  abbrev script_memory : ℕ → Memory
  script_memory n = (state_after (script.script_machine (script_run across.script (finished across) world)) n).memory

  abbrev function_memory : ℕ → Memory
  function_memory n = (state_after (function.function_machine run) n).memory

  abbrev moved : Memory → Memory
  moved = function.entries_moved run moved_by_16 (entry_of 0 ∷ [])

  stored : shown_memory run.hidden (script_memory 1) ≡ shown_memory run.hidden (function_memory 2)
  stored = stored_alike run.hidden world.memory slot (value_bytes 8 64) (omega arith) (omega arith) (λ address is. or_false _ is)

  first_called : shown_memory run.hidden (script_memory 2) ≡ shown_memory run.hidden (function_memory 3)
  first_called =
      called_alike run.hidden (script_memory 1) (moved (function_memory 2)) (other.memory_after (first_call (shown_memory run.hidden (script_memory 1))) (plain_call takes_nothing))
      ∙ ap (λ (first : Memory). shown_after (plain_call takes_nothing) (moved (function_memory 2)) (first_call first)) stored

  second_called : shown_memory run.hidden (script_memory 4) ≡ shown_memory run.hidden (function_memory 6)
  second_called =
      called_alike run.hidden (script_memory 3) (moved (function_memory 5))
      (other.memory_after (second_call (shown_memory run.hidden (script_memory 1)) (shown_memory run.hidden (script_memory 3))) (plain_call takes_one))
      ∙ (λ i. shown_after (plain_call takes_one) (moved (function_memory 5)) (second_call (stored i) (first_called i)))

  first_alike : left 2 ≡ right 3
  first_alike = ap after_first stored

  second_alike : left 4 ≡ right 6
  second_alike = λ i. after_second (stored i) (first_called i)

  end_alike : left 5 ≡ right 9
  end_alike = λ i. at_end (stored i) (first_called i) (second_called i)

  same : SameMeaning left right
  same =
      means_the_same left right 5 9 (script_stays (script_run across.script (finished across) world)) (function_stays run) tt tt
      ((0, refl), ((0, refl), ((3, first_alike), ((3, first_alike), ((6, second_alike), tt))))) (
        (0, refl),
        (
          (0, refl),
          (
            (0, refl),
            (
              (2, sym first_alike),
              ((2, sym first_alike), ((2, sym first_alike), ((4, sym second_alike), ((4, sym second_alike), ((4, sym second_alike), tt))))),
            ),
          ),
        ),
      )
      end_alike

  goes_so : GoesSo across across_course other world
  goes_so = record {
    under = under 1 (entry_of 0 ∷ []) (omega arith) other;
    by_script = refl;
    by_function = refl;
    calls_shown = refl;
    by_script_at_rest = refl;
    by_function_at_rest = refl;
    same_end = end_alike;
    same = same;
    is_moved = λ same. absurd (omega (arith, same));
  }

pub is_met : IsMet across across_course
is_met other = (passing 64 other, goes_so other)
