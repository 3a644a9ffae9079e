-- Lists of moves whose tests pass are sound, and where they are finished, correct; labels that agree on them are kept.
-- Source: own.
use Rattle.std.specs.Prelude.{◌≡◌, ℕ, true, List}
use Rattle.clif_paths.specs.Blocks.{state_of}
use Rattle.clif_paths.specs.BlockLaws.{BlocksSound}
use Rattle.clif_paths.specs.Laws.{IsCorrect}
use Rattle.clif_paths.specs.ValueLabels.{LabelsKept}
use Rattle.clif_paths.specs.Moves.{blank, Move, after_all, allows_all, agree_all, Witness, is_finished}

abbrev pub AllowedMovesAreSound : Type 0
AllowedMovesAreSound =
    (moves : List Move) → allows_all blank moves ≡ true → BlocksSound (after_all blank moves).blocks

abbrev pub FinishedMovesAreCorrect : Type 0
FinishedMovesAreCorrect =
    (moves : List Move) (witnesses : List Witness) → allows_all blank moves ≡ true →
    is_finished (after_all blank moves) witnesses ≡ true → IsCorrect (state_of (after_all blank moves).blocks)

abbrev pub AgreeingMovesKeepLabels : Type 0
AgreeingMovesKeepLabels =
    (moves : List Move) → allows_all blank moves ≡ true →
    (of_variable of_name : ℕ → ℕ) → agree_all of_variable of_name moves ≡ true →
    LabelsKept (after_all blank moves).blocks of_variable of_name
