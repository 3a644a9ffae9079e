-- What sound tables say of labels.
-- Source: own.
use Rattle.std.specs.Prelude.{◌≡◌, ℕ, Option, Some, None}
use Rattle.clif_paths.specs.Places.{Place, Edges}
use Rattle.clif_paths.specs.State.{reads}
use Rattle.clif_paths.specs.Sound.{Allowed}
use Rattle.clif_paths.specs.Blocks.{Blocks, state_of}
use Rattle.clif_paths.specs.BlockLaws.{BlocksSound}
use Rattle.clif_paths.specs.ValueLabels.{AgreeOnProgram, label_by, LabelsKept}
use Rattle.clif_paths.specs.Runs.{Labelling, KeepsLabels}

-- Values have the labels of what they stand for, for any labels that agree on the program, in blocks that nothing
-- reaches, too.
abbrev pub LabelsAreKept : Type 0
LabelsAreKept =
    (blocks : Blocks) → BlocksSound blocks →
    (of_variable of_name : ℕ → ℕ) → AgreeOnProgram blocks of_variable of_name →
    LabelsKept blocks of_variable of_name

-- the label, and 0 where there is none
abbrev pub label_or_none : Option ℕ → ℕ
label_or_none None = 0
label_or_none (Some label) = label

-- each value with its label by its kind
abbrev pub labelling_by : Blocks → (of_variable of_name : ℕ → ℕ) → Labelling
labelling_by blocks of_variable of_name = record {
  of_variable = of_variable;
  of_name = of_name;
  of_value = λ v. label_or_none (label_by of_variable of_name (blocks.function.definition v).kind);
}

-- So these labels are kept by every assignment, use and argument, along any edges that the program may turn out to
-- have: a collector that moves by label moves both sides alike.
abbrev pub LabelsGoAlong : Type 0
LabelsGoAlong =
    (blocks : Blocks) → BlocksSound blocks → (of_variable of_name : ℕ → ℕ) →
    ((place : Place) (x n : ℕ) → blocks.assigned place x ≡ Some n → of_name n ≡ of_variable x) →
    ((n x : ℕ) → (blocks.naming n).origin ≡ reads x → of_name n ≡ of_variable x) →
    (edges : Edges) → Allowed (state_of blocks).program edges →
    KeepsLabels edges (state_of blocks).program blocks.function (labelling_by blocks of_variable of_name)
