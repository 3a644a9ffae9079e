-- The edges of the row `both_arms`, and of the same with the argument on one arm alone; and that the same with swapped arms
-- doesn't mean what the row means.
use Rattle.std.proofs.Common.{◌≡◌, zero, suc, List, [], ◌∷◌, refl, ap}
use Rattle.clif_meaning.specs.World.{World}
use Rattle.clif_meaning.specs.Machine.{Observation, Returned}
use Rattle.clif_meaning.specs.SameMeaning.{SameMeaning}
use Rattle.clif_meaning.specs.Headline.{script_run, script_behaviour, function_behaviour}
use Rattle.clif_meaning.specs.Examples.{ended_with}
use Rattle.clif_meaning.specs.Typing.{EdgesMatch}
use Rattle.clif_meaning.specs.BranchExamples.{both_arms_script, both_arms_function, one_arm_function, swapped_function}
use Rattle.clif_meaning.proofs.Endings
use Rattle.clif_meaning.proofs.WorkedExamples.{other_ends}

pub edges_match : EdgesMatch both_arms_function
edges_match zero = (tt, ((refl, tt), tt))
edges_match (suc zero) = ((refl, (refl, tt)), tt)
edges_match (suc (suc zero)) = (tt, (tt, ((refl, (refl, tt)), tt)))
edges_match (suc (suc (suc zero))) = (tt, tt)
edges_match (suc (suc (suc (suc number)))) = tt

-- no argument, where there is one parameter
none_is_not_one : {X : Type 0} {x : X} → ◌≡◌ {A = List X} [] (x ∷ []) → ⊥
none_is_not_one same = cc

pub one_arm : EdgesMatch one_arm_function → ⊥
one_arm match = none_is_not_one (match 2).1.1.0.1.0

pub swapped_differs : (world : World)
    → SameMeaning (script_behaviour both_arms_script swapped_function world) (function_behaviour both_arms_script swapped_function world) → ⊥
swapped_differs world same =
    let zero_is_five : ended_with (0 ∷ []) world ≡ ended_with (5 ∷ []) world =
    other_ends (script_behaviour both_arms_script swapped_function world) (function_behaviour both_arms_script swapped_function world)
    (Endings.script_stays (script_run both_arms_script swapped_function world)) 42 4 tt tt same in
    let ends : Returned (0 ∷ []) world.memory ≡ Returned (5 ∷ []) world.memory = ap (λ (seen : Observation). seen.ending) zero_is_five in
    cc
