-- Branches that are changed, by computation: the rows `change_both` and `change_one`, one that leads to the unsealed entry
-- at first, and what may not be changed.
-- Own; the rows are from the project's worked examples.
use Rattle.std.specs.Prelude.{◌≡◌, ◌==◌, ◌++◌, ℕ, zero, suc, List, [], ◌∷◌, Option, Some, option_map, if◌then◌else◌, pos}
use Rattle.clif_types.specs.declared.types.«Type».TheVariants as type
use Rattle.clif_meaning.specs.Acceptance.{iconst, jump, return_, Accepted, Misuse, verdict_on}
use Rattle.clif_meaning.specs.BranchExamples.{block, both_arms_signature, branch, going, no_block, plain}
use Rattle.clif_meaning.specs.Examples.{ended_with, i32, placed}
use Rattle.clif_meaning.specs.FunctionView.{BlockView, FunctionView}
use Rattle.clif_meaning.specs.Headline.{script_behaviour, function_behaviour}
use Rattle.clif_meaning.specs.Instruction.{Compute, Iconst, Return}
use Rattle.clif_meaning.specs.Ledger.{block_state, ledger_after}
use Rattle.clif_meaning.specs.Name.{Name, answer_of}
use Rattle.clif_meaning.specs.Program.{program_of}
use Rattle.clif_meaning.specs.Request.{CreateBlock, SwitchToBlock, SealBlock, SealAllBlocks, DeclareVar, DefVar, UseVar, ChangeJumpDestination, Script}
use Rattle.clif_meaning.specs.World.{World}

-- block0 branches by 1 to block1 or another block
abbrev pub branching : ℕ → Script → Script
branching other rest =
    CreateBlock ∷ CreateBlock ∷ CreateBlock ∷ SwitchToBlock (block 0) ∷ iconst i32 (pos 1)
    ∷ branch (answer_of 4 1) (block 1) (block other) ∷ rest

-- it is changed from block1 to block2, which returns 1
abbrev pub change_script : ℕ → Script
change_script other =
    branching other (ChangeJumpDestination (answer_of 5 0) (block 1) (block 2) ∷ SealAllBlocks ∷ SwitchToBlock (block 2)
    ∷ return_ (answer_of 4 1 ∷ []) ∷ [])

abbrev pub change_blocks : ℕ → BlockView
change_blocks zero = record {
  parameters = [];
  items = placed (Compute (Iconst (pos 1))) i32 [] (0 ∷ []) ∷ going (0 ∷ []) (plain 2 ∷ plain 2 ∷ []) ∷ [];
}
change_blocks (suc zero) = no_block
change_blocks (suc (suc zero)) = record { parameters = []; items = placed Return type.Invalid (0 ∷ []) [] ∷ [] }
change_blocks (suc (suc (suc number))) = no_block

-- the function of both rows
abbrev pub change_function : FunctionView
change_function = record {
  signature = both_arms_signature;
  entry = Some 0;
  blocks = change_blocks;
  resolved = λ v. v;
  value_type = λ v. i32;
  slots = [];
}

-- The entry assigns 7 to the variable and branches by a number to itself or to block1, which reads the variable and returns
-- it.
abbrev pub entry_named : ℕ → Script
entry_named number =
    CreateBlock ∷ CreateBlock ∷ CreateBlock ∷ DeclareVar i32 ∷ SwitchToBlock (block 0) ∷ iconst i32 (pos 7) ∷ DefVar 0 (answer_of 5 1)
    ∷ iconst i32 (pos number) ∷ branch (answer_of 7 1) (block 0) (block 1)
    ∷ SwitchToBlock (block 1) ∷ UseVar 0 ∷ SealBlock (block 1) ∷ return_ (answer_of 10 0 ∷ []) ∷ []

-- Then it branches to block2 in place of itself, which returns the number; and only then it is sealed.
abbrev pub entry_left : ℕ → Script
entry_left number =
    entry_named number
    ++ ChangeJumpDestination (answer_of 8 0) (block 0) (block 2) ∷ SwitchToBlock (block 2) ∷ return_ (answer_of 7 1 ∷ []) ∷ SealAllBlocks ∷ []

abbrev pub entry_blocks : ℕ → ℕ → BlockView
entry_blocks number zero = record {
  parameters = [];
  items = placed (Compute (Iconst (pos 7))) i32 [] (0 ∷ []) ∷ placed (Compute (Iconst (pos number))) i32 [] (1 ∷ []) ∷ going (1 ∷ []) (plain 2 ∷ plain 1 ∷ []) ∷ [];
}
entry_blocks number (suc zero) = record { parameters = []; items = placed Return type.Invalid (2 ∷ []) [] ∷ [] }
entry_blocks number (suc (suc zero)) = record { parameters = []; items = placed Return type.Invalid (1 ∷ []) [] ∷ [] }
entry_blocks number (suc (suc (suc other))) = no_block

-- its function, in which the read value is another name of 7
abbrev pub entry_function : ℕ → FunctionView
entry_function number = record {
  signature = both_arms_signature;
  entry = Some 0;
  blocks = entry_blocks number;
  resolved = λ v. if v == 2 then 0 else v;
  value_type = λ v. i32;
  slots = [];
}

-- the predecessors of a block after the calls
abbrev pub leading_to : Script → Name → Option (List Name)
leading_to script name = option_map (λ state. state.predecessors) (block_state (ledger_after script) name)

pub record ChangeExamples : Type 0 where
  pub both_accepted : verdict_on (change_script 1) ≡ Accepted
  pub one_accepted : verdict_on (change_script 2) ≡ Accepted
  -- the branch leads to block2 once, and to block1 no longer
  pub both_lead : leading_to (change_script 1) (block 2) ≡ Some (answer_of 5 0 ∷ [])
  pub one_leads : leading_to (change_script 2) (block 2) ≡ Some (answer_of 5 0 ∷ [])
  pub none_leads : leading_to (change_script 1) (block 1) ≡ Some []
  -- both rows answer 1, and so does their function
  pub both : (world : World) → script_behaviour (change_script 1) change_function world 6 ≡ ended_with (1 ∷ []) world
  pub one : (world : World) → script_behaviour (change_script 2) change_function world 6 ≡ ended_with (1 ∷ []) world
  pub function : (world : World) → function_behaviour (change_script 1) change_function world 6 ≡ ended_with (1 ∷ []) world
  -- an unsealed entry that a branch names, which is changed before the entry is sealed: 1 takes the changed arm, and 0 the
  -- other one
  pub entry_accepted : verdict_on (entry_left 1) ≡ Accepted
  pub entry_led : leading_to (entry_named 1) (block 0) ≡ Some (answer_of 8 0 ∷ [])
  pub none_leads_there : leading_to (entry_left 1) (block 0) ≡ Some []
  pub changed_arm : (world : World) → script_behaviour (entry_left 1) (entry_function 1) world 16 ≡ ended_with (1 ∷ []) world
  pub other_arm : (world : World) → script_behaviour (entry_left 0) (entry_function 0) world 16 ≡ ended_with (7 ∷ []) world
  pub function_changed : (world : World) → function_behaviour (entry_left 1) (entry_function 1) world 16 ≡ ended_with (1 ∷ []) world
  pub function_other : (world : World) → function_behaviour (entry_left 0) (entry_function 0) world 16 ≡ ended_with (7 ∷ []) world
  -- a change to the same block changes nothing
  pub same_items : (program_of (branching 2 (ChangeJumpDestination (answer_of 5 0) (block 1) (block 1) ∷ []))).items (block 0)
      ≡ (program_of (branching 2 [])).items (block 0)
  pub same_leads : leading_to (branching 2 (ChangeJumpDestination (answer_of 5 0) (block 1) (block 1) ∷ [])) (block 1) ≡ Some (answer_of 5 0 ∷ [])
  -- misuses: to a sealed block, from a block to which the branch doesn't lead, and of what is no instruction
  pub sealed : verdict_on (CreateBlock ∷ CreateBlock ∷ CreateBlock ∷ SealBlock (block 2) ∷ SwitchToBlock (block 0) ∷ jump (plain (block 1))
      ∷ ChangeJumpDestination (answer_of 5 0) (block 1) (block 2) ∷ [])
      ≡ Misuse 6
  pub not_named : verdict_on (CreateBlock ∷ CreateBlock ∷ CreateBlock ∷ SwitchToBlock (block 0) ∷ jump (plain (block 1))
      ∷ ChangeJumpDestination (answer_of 4 0) (block 2) (block 1) ∷ [])
      ≡ Misuse 5
  pub no_instruction : verdict_on (branching 2 (ChangeJumpDestination (block 0) (block 1) (block 2) ∷ [])) ≡ Misuse 6
