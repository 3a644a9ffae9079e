-- The courses of the examples: which steps assign, and what is read.
use Rattle.std.proofs.Common.{◌≡◌, ◌≢◌, ◌⊎◌, inl, inr, ◌<◌, ℕ, zero, suc, refl, ap, arith}
use Rattle.clif_types.specs.declared.target.PointerWidth.TheVariants.{U64}
use Rattle.clif_meaning.specs.Examples.{first_signature}
use Rattle.clif_meaning.specs.Headline.{IsWorldOf, function_behaviour, script_run}
use Rattle.clif_meaning.specs.Machine.{state_after}
use Rattle.clif_meaning.specs.Name.{Name, answer_of}
use Rattle.clif_meaning.specs.Premises.{OfNextItem}
use Rattle.clif_meaning.specs.World.{World}
use Rattle.clif_meaning.proofs.SampleWorld.{sample_world}
use Rattle.clif_unassigned_laws.specs.Examples.{AcrossCall, BeforeAssigned, InLoop, NeverAssigned, OnOnePath, UnassignedExamples, call_machine, first_machine, loop_machine, never_function, never_machine, never_script, path_machine, starting_with}
use Rattle.clif_unassigned_laws.specs.Laws.{ReadsZero, ReturnsZero}
use Rattle.clif_unassigned_laws.specs.Unassigned.{AnswersNot, HoldsUnassigned, IsUnassigned, ReturnsName, UsesUnassigned}
use Rattle.clif_unassigned_laws.proofs.Row
use Rattle.clif_unassigned_laws.proofs.Shown.{shows_zero}

other_place : {a b : Name} → a.place ≢ b.place → a ≢ b
other_place differ same = differ (ap (λ (name : Name). name.place) same)

other_start : (world : World) → ReadsZero (starting_with 7 (never_machine world)) → ⊥
other_start world reads =
    let seven_is_zero : 7 ≡ 0 = reads.held 0 0 (λ k below. absurd (omega (arith, below))) in
    absurd (omega (arith, seven_is_zero))

never_unassigned : (world : World) → HoldsUnassigned (never_machine world) 1 0 (answer_of 4 0)
never_unassigned world = record {
  moment = 0;
  earlier = omega arith;
  uses = record { comes = (_, refl); unassigned = λ k below. absurd (omega (arith, below)) };
  last = λ k after below. absurd (omega (arith, after, below));
}

never_returns : (world : World) → ReturnsName (never_machine world) 1 0 (answer_of 4 0)
never_returns world = record { place = _; instruction = _; results = _; comes = (_, refl); named = refl }

by_law : (world : World) → IsWorldOf first_signature never_function U64 world → ReturnsZero (function_behaviour never_script never_function world) 0
by_law world fits =
    let shows = shows_zero (script_run never_script never_function world) (function_behaviour never_script never_function world)
    (Row.means world fits (Row.premises world)) never_script refl in
    shows.returned 1 0 0 (answer_of 4 0) (never_unassigned world) (never_returns world)

never : NeverAssigned
never = record {
  accepted = refl;
  a_world = Row.a_world;
  premises = Row.premises;
  means = Row.means;
  unassigned = never_unassigned;
  returns = never_returns;
  return_zero = λ world. record { by_script = refl; by_function = refl };
  by_law = by_law;
  seven = Row.seven;
  reads_seven = λ world. refl;
  other_start = other_start;
}

-- ON ONE PATH -------------------------------------------------------------------------------------------------------------

path_unassigned : (world : World) → IsUnassigned (path_machine 0 world) 2 0
path_unassigned world zero below = tt
path_unassigned world (suc zero) below = tt
path_unassigned world (suc (suc k)) below = absurd (omega (arith, below))

on_one_path : OnOnePath
on_one_path = record {
  accepted = refl;
  unassigned = λ world. record { comes = (_, refl); unassigned = path_unassigned world };
  return_zero = λ world. record { by_script = refl; by_function = refl };
  comes = λ world. (_, refl);
  assigned = λ world unassigned. unassigned 2 (omega arith) refl;
  reads_five = λ world. refl;
  return_five = λ world. record { by_script = refl; by_function = refl };
}

first_last : (world : World) (k : ℕ) → 0 < k → k < 5
    → OfNextItem (AnswersNot (answer_of 3 0)) (state_after (first_machine world) k).control
first_last world zero after below = absurd (omega (arith, after))
first_last world (suc zero) after below = tt
first_last world (suc (suc zero)) after below = tt
first_last world (suc (suc (suc zero))) after below = tt
first_last world (suc (suc (suc (suc zero)))) after below = other_place (λ same. absurd (omega (arith, same)))
first_last world (suc (suc (suc (suc (suc k))))) after below = absurd (omega (arith, below))

before : BeforeAssigned
before = record {
  unassigned = λ world. record {
    moment = 0;
    earlier = omega arith;
    uses = record { comes = (_, refl); unassigned = λ k below. absurd (omega (arith, below)) };
    last = first_last world;
  };
  assigned = λ world uses. uses.unassigned 3 (omega arith) refl;
  reads_seven = λ world. refl;
}

-- IN A LOOP ---------------------------------------------------------------------------------------------------------------

loop_unassigned : (world : World) → IsUnassigned (loop_machine world) 1 0
loop_unassigned world zero below = tt
loop_unassigned world (suc k) below = absurd (omega (arith, below))

loop_last : (world : World) (k : ℕ) → 1 < k → k < 5 → OfNextItem (AnswersNot (answer_of 7 0)) (state_after (loop_machine world) k).control
loop_last world zero after below = absurd (omega (arith, after))
loop_last world (suc zero) after below = absurd (omega (arith, after))
loop_last world (suc (suc zero)) after below = tt
loop_last world (suc (suc (suc zero))) after below = tt
loop_last world (suc (suc (suc (suc zero)))) after below = tt
loop_last world (suc (suc (suc (suc (suc k))))) after below = absurd (omega (arith, below))

-- either the use was run again, or it was run behind the assignment
anew : (world : World) → HoldsUnassigned (loop_machine world) 9 0 (answer_of 7 0) → ⊥
anew world holds = by holds.moment holds.earlier holds.uses holds.last
  where
    run_again : (n : ℕ) → n < 5 → ((k : ℕ) → n < k → k < 9 → OfNextItem (AnswersNot (answer_of 7 0)) (state_after (loop_machine world) k).control) → ⊥
    run_again n before last = last 5 before (omega arith) refl

    behind : (n : ℕ) → 3 < n → UsesUnassigned (loop_machine world) n 0 (answer_of 7 0) → ⊥
    behind n after uses = uses.unassigned 3 after refl

    split : (n : ℕ) → (n < 5) ⊎ (3 < n)
    split n = grind arith

    by : (n : ℕ) → n < 9 → UsesUnassigned (loop_machine world) n 0 (answer_of 7 0)
        → ((k : ℕ) → n < k → k < 9 → OfNextItem (AnswersNot (answer_of 7 0)) (state_after (loop_machine world) k).control) → ⊥
    by n earlier uses last = elim (split n) [
      | inl before ↦ run_again n before last
      | inr after ↦ behind n after uses
    ]

in_loop : InLoop
in_loop = record {
  accepted = refl;
  at_first = λ world. record {
    moment = 1;
    earlier = omega arith;
    uses = record { comes = (_, refl); unassigned = loop_unassigned world };
    last = loop_last world;
  };
  comes = λ world. (_, refl);
  returns = λ world. record { place = _; instruction = _; results = _; comes = (_, refl); named = refl };
  anew = anew;
  reads_five = λ world. refl;
}

-- ACROSS A CALL -----------------------------------------------------------------------------------------------------------

call_unassigned : IsUnassigned (call_machine sample_world) 2 0
call_unassigned zero below = tt
call_unassigned (suc zero) below = λ same. absurd (omega (arith, same))
call_unassigned (suc (suc k)) below = absurd (omega (arith, below))

call_last : (k : ℕ) → 2 < k → k < 5 → OfNextItem (AnswersNot (answer_of 11 0)) (state_after (call_machine sample_world) k).control
call_last zero after below = absurd (omega (arith, after))
call_last (suc zero) after below = absurd (omega (arith, after))
call_last (suc (suc zero)) after below = absurd (omega (arith, after))
call_last (suc (suc (suc zero))) after below = tt
call_last (suc (suc (suc (suc zero)))) after below = other_place (λ same. absurd (omega (arith, same)))
call_last (suc (suc (suc (suc (suc k))))) after below = absurd (omega (arith, below))

call_uses : UsesUnassigned (call_machine sample_world) 2 0 (answer_of 11 0)
call_uses = record { comes = (_, refl); unassigned = call_unassigned }

across_call : AcrossCall sample_world
across_call = record {
  moves = λ events call. refl;
  passed = record { moment = 2; earlier = omega arith; uses = call_uses; last = λ k after below. absurd (omega (arith, after, below)) };
  passes = record { place = _; instruction = _; results = _; comes = (_, refl); named = refl };
  unassigned = record { moment = 2; earlier = omega arith; uses = call_uses; last = call_last };
  returns = record { place = _; instruction = _; results = _; comes = (_, refl); named = refl };
  is_passed = refl;
  is_returned = refl;
  assigned = λ uses. uses.unassigned 1 (omega arith) refl;
}

pub examples : UnassignedExamples
examples = record { never = never; on_one_path = on_one_path; before = before; in_loop = in_loop; call_accepted = refl; across_call = (sample_world, across_call) }
