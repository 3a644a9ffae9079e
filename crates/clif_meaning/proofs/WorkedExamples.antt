-- The row `first`, and functions that don't mean what it means.
use Rattle.std.proofs.Common.{◌≡◌, ◌≤◌, ℕ, [], ◌∷◌, sym, ◌∙◌, ap, arith, ◌⊎◌, inl, inr}
use Rattle.clif_meaning.specs.World.{World}
use Rattle.clif_meaning.specs.Machine.{Observation, Returned, Stuck, IsEnd, EndStays}
use Rattle.clif_meaning.specs.SameMeaning.{Behaviour, SameMeaning}
use Rattle.clif_meaning.specs.FunctionMachine.{ByMaps}
use Rattle.clif_meaning.specs.Headline.{script_run, function_run, script_behaviour, function_behaviour}
use Rattle.clif_meaning.specs.Examples.{first_script, first_function_with, empty_function, ended_with, stuck}
use Rattle.clif_meaning.proofs.Endings

-- two ends of one run are one
one_end : (run : Behaviour) → EndStays run → (n m : ℕ) → IsEnd (run n).ending → IsEnd (run m).ending → run n ≡ run m
one_end run stays n m end_n end_m = by (order n m)
  where
    order : (n m : ℕ) → (n ≤ m) ⊎ (m ≤ n)
    order n m = grind arith

    by : (n ≤ m) ⊎ (m ≤ n) → run n ≡ run m
    by (inl before) = sym (stays n m before end_n)
    by (inr behind) = stays m n behind end_m

-- runs that end differently haven't the same meaning
pub other_ends : (left right : Behaviour) → EndStays left → (n m : ℕ) → IsEnd (left n).ending → IsEnd (right m).ending
    → SameMeaning left right → left n ≡ right m
other_ends left right stays n m end_left end_right same =
    let found = same.back m in
    let ended : IsEnd (left found.0).ending = rw (sym found.1) end_right in
    one_end left stays n found.0 end_left ended ∙ sym found.1

pub eight_is_not_seven : (world : World)
    → SameMeaning (script_behaviour first_script (first_function_with 8) world) (function_behaviour first_script (first_function_with 8) world) → ⊥
eight_is_not_seven world same =
    let seven_is_eight : ended_with (7 ∷ []) world ≡ ended_with (8 ∷ []) world =
    other_ends (script_behaviour first_script (first_function_with 8) world) (function_behaviour first_script (first_function_with 8) world)
    (Endings.script_stays (script_run first_script (first_function_with 8) world)) 6 4 tt tt same in
    let ends : Returned (7 ∷ []) world.memory ≡ Returned (8 ∷ []) world.memory = ap (λ (seen : Observation). seen.ending) seven_is_eight in
    cc

pub stuck_is_not_seven : (world : World)
    → SameMeaning (script_behaviour first_script empty_function world) (function_behaviour first_script empty_function world) → ⊥
stuck_is_not_seven world same =
    let seven_is_stuck : ended_with (7 ∷ []) world ≡ stuck =
    other_ends (script_behaviour first_script empty_function world) (function_behaviour first_script empty_function world)
    (Endings.script_stays (script_run first_script empty_function world)) 6 0 tt tt same in
    let ends : Returned (7 ∷ []) world.memory ≡ Stuck = ap (λ (seen : Observation). seen.ending) seven_is_stuck in
    cc

pub empty_script_is_stuck : (world : World) (n : ℕ) → script_behaviour [] empty_function world n ≡ stuck
empty_script_is_stuck world n = Endings.script_stays (script_run [] empty_function world) 0 n (omega arith) tt

pub empty_function_is_stuck : (world : World) (n : ℕ) → function_behaviour [] empty_function world n ≡ stuck
empty_function_is_stuck world n = Endings.function_stays (function_run [] empty_function world ByMaps) 0 n (omega arith) tt
