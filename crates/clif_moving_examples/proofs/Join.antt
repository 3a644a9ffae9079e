-- The example of a variable behind a join that lives across a call.
use Rattle.std.proofs.Common.{◌≡◌, ◌≤◌, ◌<◌, ◌^◌, ℕ, List, [], ◌∷◌, refl, sym, ap, ◌∙◌, arith}
use Rattle.clif_types.specs.declared.stackmap.UserStackMapEntry.{UserStackMapEntry}
use Rattle.clif_meaning.specs.Bits.{Bits, value_bytes}
use Rattle.clif_meaning.specs.Event.{Event, Named, plain_call}
use Rattle.clif_meaning.specs.Examples.{moved_by_16}
use Rattle.clif_meaning.specs.FunctionMachine as function
use Rattle.clif_meaning.specs.Headline.{function_behaviour, function_run, script_behaviour, script_run}
use Rattle.clif_meaning.specs.Machine.{NotYet, Observation, Returned}
use Rattle.clif_meaning.specs.Memory.{Memory, written}
use Rattle.clif_meaning.specs.SameMeaning.{Behaviour, SameMeaning}
use Rattle.clif_meaning.specs.Store.{memory_beside, shown_memory}
use Rattle.clif_meaning.specs.World.{World}
use Rattle.clif_meaning.proofs.Endings.{function_stays, script_stays}
use Rattle.clif_moving_examples.specs.Examples.{GoesSo, IsMet, IsRefused, IsUnderPremises, first_course, other_course}
use Rattle.clif_moving_examples.specs.Scripts.{callee, entry_of, finished, join, spilled, takes_nothing}
use Rattle.clif_moving_examples.proofs.Memory.{called_alike, or_false, slot, stored_alike}
use Rattle.clif_moving_examples.proofs.Premises.{join_premises}
use Rattle.clif_moving_examples.proofs.Refusals.{is_refused}
use Rattle.clif_moving_examples.proofs.Showing.{means_the_same}
use Rattle.clif_moving_examples.proofs.Worlds.{passing, slots_placed}

under : (bits : Bits) → bits < 2 ^ 64 → (slots : ℕ) (entries : List UserStackMapEntry) → slots ≤ 2 → (other : World)
    → IsUnderPremises join bits (spilled join slots entries) other (passing bits other)
under bits fits slots entries few other = record {
  arguments = refl;
  memory = refl;
  memory_after = refl;
  moves = λ events call. refl;
  of_function = record { arguments = (fits, tt); pointers = refl; slots = slots_placed bits other slots few };
  premises = join_premises (spilled join slots entries) (passing bits other);
}

-- WRONG MAPS --------------------------------------------------------------------------------------------------------------

pub no_entry : IsRefused join first_course 1 [] 100
no_entry = is_refused join first_course 1 [] 100 (λ same. absurd (omega (arith, same))) (passing 1)
    (λ other. record { under = under 1 (omega arith) 1 [] (omega arith) other; by_script = refl; by_function = refl })

pub other_slot : IsRefused join first_course 2 (entry_of 1 ∷ []) 100
other_slot = is_refused join first_course 2 (entry_of 1 ∷ []) 100 (λ same. absurd (omega (arith, same))) (passing 1)
    (λ other. record { under = under 1 (omega arith) 2 (entry_of 1 ∷ []) (omega arith) other; by_script = refl; by_function = refl })

pub twice : IsRefused join other_course 1 (entry_of 0 ∷ entry_of 0 ∷ []) 232
twice = is_refused join other_course 1 (entry_of 0 ∷ entry_of 0 ∷ []) 232 (λ same. absurd (omega (arith, same))) (passing 0)
    (λ other. record { under = under 0 (omega arith) 1 (entry_of 0 ∷ entry_of 0 ∷ []) (omega arith) other; by_script = refl; by_function = refl })

-- THE MEANING -------------------------------------------------------------------------------------------------------------

-- what is seen behind the call
abbrev call_with : Memory → List Event
call_with memory = record { callee = Named (callee 0); arguments = []; memory = memory } ∷ []

abbrev after_call : Memory → Observation
after_call first = record { events = call_with first; ending = NotYet }

-- where this is passed, and this is assigned on the way
module _ (passed assigned returned : Bits) (other : World) where
  abbrev world : World
  world = passing passed other

  abbrev run : function.FunctionRun
  run = function_run join.script (finished join) world function.ByMaps

  abbrev left : Behaviour
  left = script_behaviour join.script (finished join) world

  abbrev right : Behaviour
  right = function_behaviour join.script (finished join) world

  -- memory behind the store, and what moves in it
  abbrev with_slot : Memory
  with_slot = written other.memory slot (value_bytes 8 assigned)

  abbrev moved : Memory
  moved = function.entries_moved run moved_by_16 (entry_of 0 ∷ []) with_slot

  abbrev shown_after : Memory → List Event → Memory
  shown_after kept events = shown_memory run.hidden (memory_beside run.hidden kept (other.memory_after events (plain_call takes_nothing)))

  stored : shown_memory run.hidden other.memory ≡ shown_memory run.hidden with_slot
  stored = stored_alike run.hidden other.memory slot (value_bytes 8 assigned) (omega arith) (omega arith) (λ address is. or_false _ is)

  called : shown_after other.memory (call_with (shown_memory run.hidden other.memory)) ≡ shown_after moved (call_with (shown_memory run.hidden with_slot))
  called =
      called_alike run.hidden other.memory moved (other.memory_after (call_with (shown_memory run.hidden other.memory)) (plain_call takes_nothing))
      ∙ ap (λ (first : Memory). shown_after moved (call_with first)) stored

  abbrev at_end : (first last : Memory) → Observation
  at_end first last = record { events = call_with first; ending = Returned (returned ∷ []) last }

  call_alike : after_call (shown_memory run.hidden other.memory) ≡ after_call (shown_memory run.hidden with_slot)
  call_alike = ap after_call stored

  end_alike : at_end (shown_memory run.hidden other.memory) (shown_after other.memory (call_with (shown_memory run.hidden other.memory)))
      ≡ at_end (shown_memory run.hidden with_slot) (shown_after moved (call_with (shown_memory run.hidden with_slot)))
  end_alike = λ i. at_end (stored i) (called i)

first : (other : World) → GoesSo join first_course other (passing 1 other)
first other = record {
  under = under 1 (omega arith) 1 (entry_of 0 ∷ []) (omega arith) other;
  by_script = refl;
  by_function = refl;
  calls_shown = refl;
  by_script_at_rest = refl;
  by_function_at_rest = refl;
  same_end = end_alike 1 100 116 other;
  same = same;
  is_moved = λ same. absurd (omega (arith, same));
}
  where
    alike : left 1 100 116 other 5 ≡ right 1 100 116 other 6
    alike = call_alike 1 100 116 other

    same : SameMeaning (left 1 100 116 other) (right 1 100 116 other)
    same =
        means_the_same _ _ 7 9 (script_stays (script_run join.script (finished join) (passing 1 other))) (function_stays (run 1 100 116 other)) tt tt
        ((0, refl), ((0, refl), ((0, refl), ((0, refl), ((0, refl), ((6, alike), ((6, alike), tt)))))))
        ((0, refl), ((0, refl), ((0, refl), ((0, refl), ((0, refl), ((0, refl), ((5, sym alike), ((5, sym alike), ((5, sym alike), tt)))))))))
        (end_alike 1 100 116 other)

pub by_first : IsMet join first_course
by_first other = (passing 1 other, first other)

second : (other : World) → GoesSo join other_course other (passing 0 other)
second other = record {
  under = under 0 (omega arith) 1 (entry_of 0 ∷ []) (omega arith) other;
  by_script = refl;
  by_function = refl;
  calls_shown = refl;
  by_script_at_rest = refl;
  by_function_at_rest = refl;
  same_end = end_alike 0 200 216 other;
  same = same;
  is_moved = λ same. absurd (omega (arith, same));
}
  where
    alike : left 0 200 216 other 5 ≡ right 0 200 216 other 6
    alike = call_alike 0 200 216 other

    same : SameMeaning (left 0 200 216 other) (right 0 200 216 other)
    same =
        means_the_same _ _ 7 9 (script_stays (script_run join.script (finished join) (passing 0 other))) (function_stays (run 0 200 216 other)) tt tt
        ((0, refl), ((0, refl), ((0, refl), ((0, refl), ((0, refl), ((6, alike), ((6, alike), tt)))))))
        ((0, refl), ((0, refl), ((0, refl), ((0, refl), ((0, refl), ((0, refl), ((5, sym alike), ((5, sym alike), ((5, sym alike), tt)))))))))
        (end_alike 0 200 216 other)

pub by_other : IsMet join other_course
by_other other = (passing 0 other, second other)
