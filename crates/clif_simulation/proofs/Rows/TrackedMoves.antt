-- What both runs move at the outside calls of the worked examples.
use Rattle.std.proofs.Common.{◌≡◌, ◌≢◌, ℕ, ◌==◌, Bool, true, false, [], ◌∷◌, ◌⊎◌, inl, inr, refl, sym, ◌∙◌, ap, subst, arith}
use Rattle.std.proofs.lemmas.Bool.{eqb-true}
use Rattle.std.proofs.lemmas.Bool.Decides.{nat_tests}
use Rattle.std.specs.Prelude.{IsTrue}
use Rattle.std.specs.List.{AllByRecursion}
use Rattle.clif_meaning.specs.BranchExamples.{block}
use Rattle.clif_meaning.specs.FunctionMachine.{Collector, OverSet}
use Rattle.clif_meaning.specs.Ledger.{ledger_after}
use Rattle.clif_meaning.specs.Name.{Name, answer_of, same_name}
use Rattle.clif_meaning.specs.Premises.{KeepsTrackedApart}
use Rattle.clif_meaning.specs.Request.{script_of}
use Rattle.clif_simulation.specs.Reading.{AnswersTracked, IsGivenFresh, MovesAlike, MovesTracked}
use Rattle.clif_simulation.specs.Tables.{answered, program_so_far}
use Rattle.clif_simulation.specs.CallCarryingExamples.{call_instruction}
use Rattle.clif_simulation.specs.TrackedExamples.{assigned_calls, call_result, first_parameter, only, over_only, tracked_calls, used_calls}
use Rattle.clif_simulation.proofs.Finished.Giving.{same_or_other}
use Rattle.clif_simulation.proofs.Labelling.Unmarked.{none_marked}

none_is : {X : Type 0} → IsTrue false → X
none_is is = let no_way : ⊥ = cc in absurd no_way

-- Where one name is tracked, which is given afresh, a collector over its value alone moves alike.
module _ (n : Name) (v : ℕ) (is_given : IsGivenFresh (program_so_far tracked_calls) n) (is : answered tracked_calls n ≡ v) where
  the_name : (name : Name) → IsTrue (only n name) → name ≡ n
  the_name name tracked = by (same_or_other name n)
    where
      by : ((same_name name n ≡ true) × (name ≡ n)) ⊎ ((same_name name n ≡ false) × (name ≢ n)) → name ≡ n
      by (inl one) = one.1
      by (inr other) = none_is (subst IsTrue other.0 tracked)

  itself : only n n ≡ true
  itself = by (same_or_other n n)
    where
      by : ((same_name n n ≡ true) × (n ≡ n)) ⊎ ((same_name n n ≡ false) × (n ≢ n)) → same_name n n ≡ true
      by (inl one) = one.0
      by (inr other) = absurd (other.1 refl)

  -- its value answers it, and no other
  pub it_answers : (value : ℕ) → value ≡ v → AnswersTracked tracked_calls (only n) value
  it_answers value same = record { name = n; is_tracked = itself; is_given = is_given; answers = is ∙ sym same }

  pub answers_it : (value : ℕ) → AnswersTracked tracked_calls (only n) value → value ≡ v
  answers_it value a = sym a.answers ∙ ap (answered tracked_calls) (the_name a.name a.is_tracked) ∙ is

  pub moves_only : MovesTracked tracked_calls (only n) (over_only v)
  moves_only = record {
    unmarked = none_marked (script_of tracked_calls) (tt, (tt, (tt, (tt, (tt, tt)))));
    apart = λ other. by other (same_name other (block 0)) refl;
    over = λ value. (
      λ member. it_answers value (eqb-true value v member),
      λ answers. let same : value ≡ v = answers_it value answers in let there : (value == v) ≡ true = grind (arith, nat_tests) in there,
    );
  }
    where
      by : (other : Name) (t : Bool) → same_name other (block 0) ≡ t
          → AllByRecursion (KeepsTrackedApart (ledger_after (script_of tracked_calls)) (only n)) ((program_so_far tracked_calls).items other)
      by other true here = rw here (tt, (tt, tt))
      by other false elsewhere = rw elsewhere tt

-- the parameter, and the call's result
parameter_given : IsGivenFresh (program_so_far tracked_calls) first_parameter
parameter_given = inr (block 0, (0, omega arith, refl))

result_given : IsGivenFresh (program_so_far tracked_calls) call_result
result_given = inl (record {
  block = block 0;
  place = 3;
  instruction = call_instruction;
  results = call_result ∷ [];
  stands = (0, omega arith, refl);
  among = (0, omega arith, refl);
})

pub moves : MovesTracked tracked_calls (only first_parameter) (over_only 0)
moves = moves_only first_parameter 0 parameter_given refl

pub result_moves : MovesTracked tracked_calls (only call_result) (over_only 1)
result_moves = moves_only call_result 1 result_given refl

-- the calls make an outside call, and a name is tracked
tracked_is : true ≡ false → ⊥
tracked_is h = cc

pub forgets : MovesAlike tracked_calls (only first_parameter) (OverSet (λ value. false)) → ⊥
forgets (inl none) = let call = (none (block 0)).0 in cc
forgets (inr (inl nothing)) = tracked_is (nothing.untracked first_parameter)
forgets (inr (inr tracked)) = none_is ((tracked.over 0).1 (it_answers first_parameter 0 parameter_given refl 0 refl))

pub moves_more : MovesAlike tracked_calls (only first_parameter) (OverSet (λ value. true)) → ⊥
moves_more (inl none) = let call = (none (block 0)).0 in cc
moves_more (inr (inl nothing)) = tracked_is (nothing.untracked first_parameter)
moves_more (inr (inr tracked)) = apart (answers_it first_parameter 0 parameter_given refl 5 ((tracked.over 5).0 refl))
  where
    apart : ◌≡◌ {A = ℕ} 5 0 → ⊥
    apart h = omega (arith, h)

pub copies : (collector : Collector) → MovesAlike used_calls (only (answer_of 3 0)) collector → ⊥
copies collector (inl none) = let call = (none (block 0)).1.0 in cc
copies collector (inr (inl nothing)) = tracked_is (nothing.untracked (answer_of 3 0))
copies collector (inr (inr tracked)) = none_is ((tracked.apart (block 0)).0 refl)

pub assigns : (collector : Collector) → MovesAlike assigned_calls (only first_parameter) collector → ⊥
assigns collector (inl none) = let call = (none (block 0)).1.0 in cc
assigns collector (inr (inl nothing)) = tracked_is (nothing.untracked first_parameter)
assigns collector (inr (inr tracked)) = none_is ((tracked.apart (block 0)).0 refl)
