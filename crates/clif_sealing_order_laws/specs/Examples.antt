-- Worked examples: orders of sealing that are allowed and orders that aren't, and scripts that are stopped whatever their order.
-- The rows `sample_script` and `sample_late_script` are after the documentation of cranelift-frontend, the others own.
use Rattle.std.specs.Prelude.{◌≡◌, false, List, [], ◌∷◌, pos, map}
use Rattle.clif_opcodes.specs.declared.opcodes.BinaryOpcode.TheVariants.{Iadd, Isub}
use Rattle.clif_meaning.specs.Acceptance.{Accepted, Misuse, Refused, iconst, jump, return_, verdict_on, verdict_on_attempts}
use Rattle.clif_meaning.specs.BranchExamples.{block, branch, plain}
use Rattle.clif_meaning.specs.Examples.{i32}
use Rattle.clif_meaning.specs.Instruction.{Binary}
use Rattle.clif_meaning.specs.Name.{answer_of}
use Rattle.clif_meaning.specs.Request.{Attempt, CreateBlock, SwitchToBlock, SealBlock, SealAllBlocks, EnsureInsertedBlock, ChangeJumpDestination, AppendFunctionParams, DeclareVar, DefVar, UseVar, Script, outright, tried}
use Rattle.clif_meaning.specs.SampleExamples.{of_two, sample_script, sample_late_script}
use Rattle.clif_renaming.specs.Sealing.{DifferInSealing}
use Rattle.clif_sealing_order_laws.specs.Attempts.{AttemptsDifferInSealing, script_verdict_left, verdict_left}
use Rattle.clif_sealing_order_laws.specs.Order.{IsAllowedOrder, IsBlamelessOrder, is_allowed_order}

-- the calls of `sample_script`, but for the head of the loop, block1, that is sealed before the jump back to it
abbrev pub head_sealed_early : Script
head_sealed_early =
    CreateBlock ∷ CreateBlock ∷ CreateBlock ∷ CreateBlock ∷ DeclareVar i32 ∷ DeclareVar i32 ∷ DeclareVar i32 ∷ AppendFunctionParams (block 0) (i32 ∷ [])
    ∷ SwitchToBlock (block 0) ∷ SealBlock (block 0) ∷ DefVar 0 (answer_of 7 0) ∷ iconst i32 (pos 2) ∷ DefVar 1 (answer_of 11 1)
    ∷ UseVar 0 ∷ UseVar 1 ∷ of_two (Binary Iadd) (answer_of 13 0) (answer_of 14 0) ∷ DefVar 2 (answer_of 15 1) ∷ jump (plain (block 1))
    ∷ SwitchToBlock (block 1) ∷ UseVar 1 ∷ UseVar 2 ∷ of_two (Binary Iadd) (answer_of 19 0) (answer_of 20 0) ∷ DefVar 2 (answer_of 21 1)
    ∷ UseVar 1 ∷ branch (answer_of 23 0) (block 3) (block 2)
    ∷ SwitchToBlock (block 2) ∷ SealBlock (block 2) ∷ UseVar 2 ∷ UseVar 0 ∷ of_two (Binary Isub) (answer_of 27 0) (answer_of 28 0) ∷ DefVar 2 (answer_of 29 1)
    ∷ UseVar 1 ∷ return_ (answer_of 31 0 ∷ [])
    ∷ SwitchToBlock (block 3) ∷ SealBlock (block 3) ∷ UseVar 1 ∷ UseVar 0 ∷ of_two (Binary Isub) (answer_of 35 0) (answer_of 36 0) ∷ DefVar 1 (answer_of 37 1)
    ∷ SealBlock (block 1) ∷ jump (plain (block 1)) ∷ []

-- a block that reads a variable that isn't there, sealed at once or at the end
abbrev pub missing_early : Script
missing_early = CreateBlock ∷ SwitchToBlock (block 0) ∷ SealBlock (block 0) ∷ DeclareVar i32 ∷ UseVar 1 ∷ return_ [] ∷ []

abbrev pub missing_late : Script
missing_late = CreateBlock ∷ SwitchToBlock (block 0) ∷ DeclareVar i32 ∷ UseVar 1 ∷ return_ [] ∷ SealAllBlocks ∷ []

-- the same where the calls are only tried
abbrev pub tried_early : List Attempt
tried_early = map tried missing_early

abbrev pub tried_late : List Attempt
tried_late = map tried missing_late

-- a block with no terminator, sealed at once or at the end
abbrev pub unended_early : Script
unended_early = CreateBlock ∷ SwitchToBlock (block 0) ∷ SealBlock (block 0) ∷ EnsureInsertedBlock ∷ []

abbrev pub unended_late : Script
unended_late = CreateBlock ∷ SwitchToBlock (block 0) ∷ EnsureInsertedBlock ∷ SealAllBlocks ∷ []

-- the entry is begun and left before it has its terminator, and is sealed before or behind that
abbrev pub entry_left_sealed : Script
entry_left_sealed = CreateBlock ∷ CreateBlock ∷ SwitchToBlock (block 0) ∷ SealBlock (block 0) ∷ EnsureInsertedBlock ∷ SwitchToBlock (block 1) ∷ []

abbrev pub entry_left_unsealed : Script
entry_left_unsealed = CreateBlock ∷ CreateBlock ∷ SwitchToBlock (block 0) ∷ EnsureInsertedBlock ∷ SwitchToBlock (block 1) ∷ SealBlock (block 0) ∷ []

-- Block1, to which nothing leads, is begun and left, and gets its terminator behind block2: sealed before it is left, or at the end.
abbrev pub left_sealed : Script
left_sealed =
    CreateBlock ∷ CreateBlock ∷ CreateBlock ∷ SwitchToBlock (block 0) ∷ return_ [] ∷ SwitchToBlock (block 1) ∷ EnsureInsertedBlock ∷ SealBlock (block 1)
    ∷ SwitchToBlock (block 2) ∷ return_ [] ∷ SwitchToBlock (block 1) ∷ return_ [] ∷ SealBlock (block 0) ∷ SealBlock (block 2) ∷ []

abbrev pub left_unsealed : Script
left_unsealed =
    CreateBlock ∷ CreateBlock ∷ CreateBlock ∷ SwitchToBlock (block 0) ∷ return_ [] ∷ SwitchToBlock (block 1) ∷ EnsureInsertedBlock
    ∷ SwitchToBlock (block 2) ∷ return_ [] ∷ SwitchToBlock (block 1) ∷ return_ [] ∷ SealAllBlocks ∷ []

-- A jump from block0 is changed, to lead to block2 in place of block1; block2 is sealed before that, or at the end.
abbrev pub target_sealed_early : Script
target_sealed_early =
    CreateBlock ∷ CreateBlock ∷ CreateBlock ∷ SwitchToBlock (block 0) ∷ jump (plain (block 1)) ∷ SealBlock (block 2)
    ∷ ChangeJumpDestination (answer_of 4 0) (block 1) (block 2) ∷ SwitchToBlock (block 2) ∷ return_ [] ∷ SealAllBlocks ∷ []

abbrev pub target_sealed_late : Script
target_sealed_late =
    CreateBlock ∷ CreateBlock ∷ CreateBlock ∷ SwitchToBlock (block 0) ∷ jump (plain (block 1))
    ∷ ChangeJumpDestination (answer_of 4 0) (block 1) (block 2) ∷ SwitchToBlock (block 2) ∷ return_ [] ∷ SealAllBlocks ∷ []

-- the calls of `missing_late` without the last one
abbrev pub missing_unsealed : Script
missing_unsealed = CreateBlock ∷ SwitchToBlock (block 0) ∷ DeclareVar i32 ∷ UseVar 1 ∷ return_ [] ∷ []

pub record OrderExamples : Type 0 where
  -- a loop whose blocks are sealed as soon as may be, or all at the end
  pub sample : DifferInSealing sample_script sample_late_script
  pub early : IsAllowedOrder sample_script
  pub late : IsAllowedOrder sample_late_script
  pub early_accepted : verdict_on sample_script ≡ Accepted
  pub late_accepted : verdict_on sample_late_script ≡ Accepted
  -- wrong ones: the head of the loop is sealed before the last branch to it,
  pub too_early : DifferInSealing head_sealed_early sample_script
  pub not_so_early : is_allowed_order head_sealed_early ≡ false
  pub branch_stopped : verdict_on head_sealed_early ≡ Misuse 40
  -- or a block before a jump is changed to lead to it,
  pub change_differs : DifferInSealing target_sealed_early target_sealed_late
  pub change_late : IsAllowedOrder target_sealed_late
  pub change_accepted : verdict_on target_sealed_late ≡ Accepted
  pub change_early : is_allowed_order target_sealed_early ≡ false
  pub change_stopped : verdict_on target_sealed_early ≡ Misuse 6
  -- a block is sealed twice, or isn't there,
  pub twice : is_allowed_order (CreateBlock ∷ SealBlock (block 0) ∷ SealBlock (block 0) ∷ []) ≡ false
  pub not_there : is_allowed_order (SealBlock (block 0) ∷ []) ≡ false
  -- or was begun and isn't sealed at the end; one that wasn't begun needn't be
  pub never : is_allowed_order (CreateBlock ∷ SwitchToBlock (block 0) ∷ return_ [] ∷ []) ≡ false
  pub not_begun : IsAllowedOrder (CreateBlock ∷ SwitchToBlock (block 0) ∷ [])
  -- a block that is left before it has its terminator is sealed before, too
  pub left_behind : DifferInSealing left_sealed left_unsealed
  pub left_allowed : IsAllowedOrder left_sealed
  pub left_accepted : verdict_on left_sealed ≡ Accepted
  pub left_late : is_allowed_order left_unsealed ≡ false
  pub left_stopped : verdict_on left_unsealed ≡ Misuse 7
  -- a misuse that has nothing to do with sealing: both are stopped at the read, the fourth call but for those that seal
  pub missing : DifferInSealing missing_early missing_late
  pub missing_allowed : IsAllowedOrder missing_early
  pub missing_allowed_late : IsAllowedOrder missing_late
  pub missing_misuse : verdict_on missing_early ≡ Misuse 4
  pub missing_misuse_late : verdict_on missing_late ≡ Misuse 3
  pub counted : script_verdict_left missing_early ≡ Misuse 3
  pub counted_late : script_verdict_left missing_late ≡ Misuse 3
  -- what would be sealed behind the read doesn't matter
  pub missing_never : DifferInSealing missing_early missing_unsealed
  pub never_allowed : is_allowed_order missing_unsealed ≡ false
  pub never_blamed : IsBlamelessOrder missing_unsealed
  pub never_counted : script_verdict_left missing_unsealed ≡ Misuse 3
  -- the entry can't be left so in any order
  pub entry_left : DifferInSealing entry_left_sealed entry_left_unsealed
  pub entry_not_allowed : is_allowed_order entry_left_sealed ≡ false
  pub entry_blameless : IsBlamelessOrder entry_left_sealed
  pub entry_blameless_late : IsBlamelessOrder entry_left_unsealed
  pub entry_counted : script_verdict_left entry_left_sealed ≡ Misuse 4
  pub entry_counted_late : script_verdict_left entry_left_unsealed ≡ Misuse 4
  -- where it is to blame verdicts differ
  pub blamed : IsBlamelessOrder head_sealed_early → ⊥
  pub left_blamed : IsBlamelessOrder left_unsealed → ⊥
  -- and where they are only tried both are refused there
  pub tried_differ : AttemptsDifferInSealing tried_early tried_late
  pub tried_refused : verdict_on_attempts tried_early ≡ Refused 4
  pub tried_counted : verdict_left tried_early ≡ Refused 3
  pub tried_counted_late : verdict_left tried_late ≡ Refused 3
  -- lists of which one alone is only tried differ in more
  pub not_tried : AttemptsDifferInSealing tried_early (map outright missing_late) → ⊥
  -- a block with no terminator is refused at the end, whenever it is sealed
  pub unended : DifferInSealing unended_early unended_late
  pub unended_allowed : IsAllowedOrder unended_early
  pub unended_allowed_late : IsAllowedOrder unended_late
  pub unended_counted : script_verdict_left unended_early ≡ Refused 3
  pub unended_counted_late : script_verdict_left unended_late ≡ Refused 3
