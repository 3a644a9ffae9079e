-- Worked examples: scripts that differ only in when blocks are sealed, scripts that differ in more, and what isn't a renaming.
-- The rows `sample` and `sample_late` are after the documentation of cranelift-frontend, the others own.
use Rattle.std.specs.Prelude.{◌≡◌, ℕ, [], ◌∷◌}
use Rattle.clif_meaning.specs.Acceptance.{Accepted, return_, verdict_on}
use Rattle.clif_meaning.specs.BranchExamples.{block, both_arms_script}
use Rattle.clif_meaning.specs.Examples.{i32}
use Rattle.clif_meaning.specs.Name.{Name, answer_of}
use Rattle.clif_meaning.specs.Program.{program_of}
use Rattle.clif_meaning.specs.Request.{CreateBlock, SwitchToBlock, SealBlock, SealAllBlocks, DeclareVar, UseVar, Script}
use Rattle.clif_meaning.specs.SampleExamples.{sample_script, sample_late_script}
use Rattle.clif_renaming.specs.Renaming.{IsRenamedProgram, KeepsApart}
use Rattle.clif_renaming.specs.Sealing.{DifferInSealing, name_left, unsealed}

-- a block that reads two variables and returns the first one, sealed at once
abbrev pub sealed_early : Script
sealed_early =
    CreateBlock ∷ SwitchToBlock (block 0) ∷ SealBlock (block 0) ∷ DeclareVar i32 ∷ DeclareVar i32 ∷ UseVar 0 ∷ UseVar 1
    ∷ return_ (answer_of 5 0 ∷ []) ∷ []

-- the same without sealing, where it reads this variable first, and returns what the call at this place read
abbrev pub never_sealed : (variable place : ℕ) → Script
never_sealed variable place =
    CreateBlock ∷ SwitchToBlock (block 0) ∷ DeclareVar i32 ∷ DeclareVar i32 ∷ UseVar variable ∷ UseVar 1
    ∷ return_ (answer_of place 0 ∷ []) ∷ []

-- sealed at the end
abbrev pub sealed_late : (variable place : ℕ) → Script
sealed_late variable place =
    CreateBlock ∷ SwitchToBlock (block 0) ∷ DeclareVar i32 ∷ DeclareVar i32 ∷ UseVar variable ∷ UseVar 1
    ∷ return_ (answer_of place 0 ∷ []) ∷ SealAllBlocks ∷ []

pub record RenamingExamples : Type 0 where
  -- a loop whose blocks are sealed as soon as may be, or all at the end
  pub sample : DifferInSealing sample_script sample_late_script
  -- a block that is sealed at once, or at the end
  pub one_block : DifferInSealing sealed_early (sealed_late 0 4)
  pub accepted : verdict_on sealed_early ≡ Accepted
  pub late_accepted : verdict_on (sealed_late 0 4) ≡ Accepted
  -- the calls behind the sealing move up, and so do their answers
  pub without : unsealed sealed_early ≡ never_sealed 0 4
  pub first_read : name_left sealed_early (answer_of 5 0) ≡ answer_of 4 0
  -- what answers nothing comes behind the others
  pub no_answer : name_left sealed_early (answer_of 2 0) ≡ answer_of 10 0
  -- wrong ones: another variable is read, another answer is returned, or there are other calls
  pub other_variable : DifferInSealing sealed_early (sealed_late 1 4) → ⊥
  pub other_answer : DifferInSealing sealed_early (sealed_late 0 5) → ⊥
  pub other_calls : DifferInSealing sample_script both_arms_script → ⊥
  -- a program that reads another variable is no renamed one, and names that become one don't stay apart
  pub no_renaming : (rename : Name → Name) → IsRenamedProgram rename (program_of sealed_early) (program_of (sealed_late 1 4)) → ⊥
  pub not_apart : KeepsApart (λ name. block 0) → ⊥
