-- The row `both_arms` with its variable marked, and with a collector over its values.
use Rattle.std.proofs.Common.{◌≡◌, ◌⊎◌, ℕ, zero, suc, ◌+◌, Bool, true, false, [], ◌∷◌, slice_get, Some, inl, inr, refl, sym, ◌∙◌, ap, subst, arith}
use Rattle.std.specs.List.{AllByRecursion}
use Rattle.clif_instructions.specs.declared.block_call.BlockArg.TheVariants.{Value}
use Rattle.clif_ir.specs.Body.{block_at, follow, resolved}
use Rattle.clif_ssa.specs.Own.{Own}
use Rattle.clif_ssa.specs.Sound.{edge_target, passed_at}
use Rattle.clif_meaning.specs.BranchExamples.{block, both_arms_signature}
use Rattle.clif_meaning.specs.Name.{Name, answer_of}
use Rattle.clif_meaning.specs.Premises.{PlacementPremises}
use Rattle.clif_meaning.specs.Program.{Item, Instruct, Use, Assign}
use Rattle.clif_meaning.specs.Request.{script_of}
use Rattle.clif_meaning.specs.World.{World}
use Rattle.clif_meaning.proofs.SampleWorld
use Rattle.clif_meaning.proofs.StraightLine.{nothing_contained}
use Rattle.clif_simulation.specs.CarryingExamples.{loop_body, loop_calls, loop_state}
use Rattle.clif_simulation.specs.Marked.{IsPut, IsTrackedAsMarked, NamesAgree, ValuesAgree}
use Rattle.clif_simulation.specs.MarkedExamples.{LoopValuesAgree, MarkedMove, has_members, loop_tracked, marks_first, other_tracked, tracks}
use Rattle.clif_simulation.specs.Reading.{IsGivenFresh}
use Rattle.clif_simulation.specs.Tables.{answered, program_so_far}
use Rattle.clif_simulation.proofs.Finished.Giving.{contained_in}
use Rattle.clif_simulation.proofs.Labelling.FreshValues.{listed}
use Rattle.clif_simulation.proofs.Loops.LoopDescribed.{each_edge_of_row, row_own}
use Rattle.clif_simulation.proofs.Loops.LoopPremises
use Rattle.clif_simulation.proofs.Loops.LoopProgram.{each_items_of_row}
use Rattle.clif_simulation.proofs.Loops.LoopRow.{row_carried, row_carried_own}

clash : true ≡ false → ⊥
clash h = cc

clash_back : false ≡ true → ⊥
clash_back h = cc

pub premises : PlacementPremises (script_of loop_calls) both_arms_signature
premises =
    let meets = LoopPremises.loop_meets_premises.premises SampleWorld.sample_world in
    record { targets_filled = meets.targets_filled; well_typed = meets.well_typed; given_before = meets.given_before }

-- Names -----------------------------------------------------------------------------------------------------------------------

pub names : NamesAgree loop_calls marks_first loop_tracked
names =
    each_items_of_row (AllByRecursion (IsTrackedAsMarked marks_first loop_tracked)) tt
    (tt, (refl, (tt, tt))) (refl, (tt, tt)) (refl, (tt, (tt, (refl, (tt, tt))))) (refl, (tt, tt))

pub untracked : NamesAgree loop_calls marks_first (tracks other_tracked) → ⊥
untracked agree = clash_back (agree (block 1)).0

pub unmarked : NamesAgree loop_calls (λ variable. false) loop_tracked → ⊥
unmarked agree = clash (agree (block 1)).0

-- Values ----------------------------------------------------------------------------------------------------------------------

abbrev members : ℕ → Bool
members = has_members (0 ∷ 1 ∷ 3 ∷ [])

-- what an instruction gives is a member exactly if it is tracked
abbrev Agrees : Name → Type 0
Agrees name = members (resolved loop_body (answered loop_calls name)) ≡ loop_tracked name

abbrev ResultsAgree : Item → Type 0
ResultsAgree (Instruct place instruction results) = AllByRecursion Agrees results
ResultsAgree (Use variable name) = Unit {0}
ResultsAgree (Assign variable name) = Unit {0}

results : (name : Name) → AllByRecursion ResultsAgree ((program_so_far loop_calls).items name)
unfolding follow
results =
    each_items_of_row (AllByRecursion ResultsAgree) tt
    ((refl, tt), (tt, (tt, tt))) (tt, (tt, tt)) (tt, ((refl, tt), ((refl, tt), (tt, (tt, tt))))) (tt, (tt, tt))

given_agrees : (name : Name) → IsGivenFresh (program_so_far loop_calls) name → Agrees name
given_agrees name (inr parameter) = absurd (nothing_contained name parameter.1)
given_agrees name (inl given) =
    listed Agrees given.results name
    (listed ResultsAgree ((program_so_far loop_calls).items given.block) (Instruct given.place given.instruction given.results) (results given.block)
    (contained_in ((program_so_far loop_calls).items given.block) (Instruct given.place given.instruction given.results) given.stands))
    (contained_in given.results name given.among)

-- What an edge passes to a parameter is a member as this is.
abbrev Passes : ℕ → ℕ → ℕ → Type 0
Passes branch edge target =
    (place argument parameter : ℕ) → passed_at loop_body branch edge place ≡ Some (Value argument)
    → slice_get (block_at loop_body target).params place ≡ Some parameter
    → members (resolved loop_body argument) ≡ members (resolved loop_body parameter)

-- one member to the parameter
one : (passed : ℕ) → members (resolved loop_body passed) ≡ true → members (resolved loop_body 1) ≡ true → (place argument parameter : ℕ)
    → slice_get (Value passed ∷ []) place ≡ Some (Value argument) → slice_get (1 ∷ []) place ≡ Some parameter
    → members (resolved loop_body argument) ≡ members (resolved loop_body parameter)
one passed is other zero argument parameter value param =
    let same : passed ≡ argument = cc in
    let here : 1 ≡ parameter = cc in
    sym (ap (λ (v : ℕ). members (resolved loop_body v)) same) ∙ is ∙ sym other ∙ ap (λ (v : ℕ). members (resolved loop_body v)) here
one passed is other (suc place) argument parameter value param = absurd cc

-- nothing to none
none : (place argument parameter : ℕ) → slice_get {X = ℕ} [] place ≡ Some parameter
    → members (resolved loop_body argument) ≡ members (resolved loop_body parameter)
none zero argument parameter param = absurd cc
none (suc place) argument parameter param = absurd cc

passes : (branch edge target : ℕ) → edge_target loop_body branch edge ≡ Some target → Passes branch edge target
unfolding follow
passes =
    each_edge_of_row Passes
    (λ place argument parameter value param. one 0 refl refl place argument parameter value param)
    (λ place argument parameter value param. none place argument parameter param)
    (λ place argument parameter value param. none place argument parameter param)
    (λ place argument parameter value param. one 3 refl refl place argument parameter value param)
    (λ place argument parameter value param. one 3 refl refl place argument parameter value param)

own_values : ValuesAgree loop_calls row_own loop_body loop_state loop_tracked members
own_values = record {
  answers = given_agrees;
  arguments = λ target branch edge place argument parameter leads to value param.
      let same : 0 + place ≡ place = omega arith in
      inl (passes branch edge target to place argument parameter
      (subst (λ (j : ℕ). passed_at loop_body branch edge j ≡ Some (Value argument)) same value)
      (subst (λ (j : ℕ). slice_get (block_at loop_body target).params j ≡ Some parameter) same param));
}

pub values : LoopValuesAgree row_carried (0 ∷ 1 ∷ 3 ∷ [])
values = subst (λ (own : Own). ValuesAgree loop_calls own loop_body loop_state loop_tracked members) (sym row_carried_own) own_values

-- Wrong ones --------------------------------------------------------------------------------------------------------------------

-- the constant 5 is no zero that the construction put
constant_given : IsGivenFresh (program_so_far loop_calls) (answer_of 7 1)
constant_given = inl (record {
  block = block 0;
  place = 7;
  instruction = _;
  results = answer_of 7 1 ∷ [];
  stands = (0, omega arith, refl);
  among = (0, omega arith, refl);
})

added_given : IsGivenFresh (program_so_far loop_calls) (answer_of 16 1)
added_given = inl (record {
  block = block 2;
  place = 16;
  instruction = _;
  results = answer_of 16 1 ∷ [];
  stands = (1, omega arith, refl);
  among = (0, omega arith, refl);
})

own_forgets : ValuesAgree loop_calls row_own loop_body loop_state loop_tracked (has_members (0 ∷ 3 ∷ [])) → ⊥
unfolding follow
own_forgets agree = by (agree.arguments 1 1 0 0 0 1 (0, omega arith, refl) refl refl refl)
  where
    by : (true ≡ false) ⊎ IsPut loop_calls loop_body 0 → ⊥
    by (inl same) = clash same
    by (inr put) = put.no_answer (answer_of 7 1) constant_given refl

pub forgets : LoopValuesAgree row_carried (0 ∷ 3 ∷ []) → ⊥
forgets agree =
    own_forgets (subst (λ (own : Own). ValuesAgree loop_calls own loop_body loop_state loop_tracked (has_members (0 ∷ 3 ∷ []))) row_carried_own agree)

pub moves_more : LoopValuesAgree row_carried (0 ∷ 1 ∷ 2 ∷ 3 ∷ []) → ⊥
unfolding follow
moves_more agree = clash (agree.answers (answer_of 16 1) added_given)

-- A run -------------------------------------------------------------------------------------------------------------------------

abbrev passing : World
passing = record SampleWorld.sample_world { arguments = 64 ∷ [] }

pub both_move : (world : World) × MarkedMove world
unfolding follow
both_move = (passing, record { by_script = refl; by_function = refl; unmarked = refl; forgotten = refl })
