-- Worked examples of ledgers, names and paths.
use Rattle.std.specs.Prelude.{◌≡◌, ℕ, zero, suc, true, false, List, [], ◌∷◌, Some, None, pos}
use Rattle.clif_meaning.specs.Name.{answer_of}
use Rattle.clif_meaning.specs.Request.{Annotate, CreateBlock, SwitchToBlock, DeclareVar, UseVar, AnsweredCall, number_of, NeedStackMap, OfVariable, OfValue, Script}
use Rattle.clif_meaning.specs.Program.{program_of}
use Rattle.clif_meaning.specs.Ledger.{ledger_after, type_of, is_filled, is_sealed, is_pristine, is_inserted, variable_type}
use Rattle.clif_meaning.specs.Acceptance.{allows, iconst}
use Rattle.clif_meaning.specs.Tracked.{tracked_names}
use Rattle.clif_meaning.specs.Path.{Place, Flow, IsReachable, StrictlyBefore}
use Rattle.clif_meaning.specs.WellPlaced.{WellPlaced}
use Rattle.clif_meaning.specs.FunctionView.{FunctionView}
use Rattle.clif_meaning.specs.Instruction.{Return}
use Rattle.clif_meaning.specs.Examples.{i32, block0, first_calls, first_script, first_function, one_block, placed}
use Rattle.clif_types.specs.declared.types.«Type».TheVariants as type

-- the calls of the row `first` up to its constant, with the numbers that the builder answers
abbrev pub answered_calls : List AnsweredCall
answered_calls =
    record { request = CreateBlock; numbers = 0 ∷ [] }
    ∷ record { request = SwitchToBlock block0; numbers = [] }
    ∷ record { request = DeclareVar i32; numbers = 0 ∷ [] }
    ∷ record { request = UseVar 0; numbers = 0 ∷ [] }
    ∷ record { request = iconst i32 (pos 7); numbers = 0 ∷ 1 ∷ [] } ∷ []

-- a variable, and then stack maps that are asked for it; a use of it, and a constant that stack maps are asked for
abbrev pub declared_calls : Script
declared_calls = CreateBlock ∷ SwitchToBlock block0 ∷ DeclareVar i32 ∷ []

abbrev pub marked_calls : Script
marked_calls =
    CreateBlock ∷ SwitchToBlock block0 ∷ DeclareVar i32 ∷ NeedStackMap (OfVariable 0) ∷ UseVar 0 ∷ iconst i32 (pos 7)
    ∷ NeedStackMap (OfValue (answer_of 5 1)) ∷ []

-- What the ledger of the row `first` tells, on the way and at its end.
pub record LedgerExamples : Type 0 where
  pub used : type_of (ledger_after first_script) (answer_of 3 0) ≡ Some i32
  pub sum : type_of (ledger_after first_script) (answer_of 5 1) ≡ Some i32
  pub no_value : type_of (ledger_after first_script) (answer_of 5 0) ≡ None
  pub declared : variable_type (ledger_after first_script) 0 ≡ Some i32
  pub undeclared : variable_type (ledger_after first_script) 1 ≡ None
  pub layout : (ledger_after first_script).layout ≡ block0 ∷ []
  pub filled : is_filled (ledger_after first_script) block0 ≡ true
  pub sealed : is_sealed (ledger_after first_script) block0 ≡ true
  pub unfilled : is_filled (ledger_after first_calls) block0 ≡ false
  pub begun : is_pristine (ledger_after first_calls) block0 ≡ false
  -- a block that was only switched to is pristine, and isn't in the layout
  pub pristine : is_pristine (ledger_after (CreateBlock ∷ SwitchToBlock block0 ∷ [])) block0 ≡ true
  pub left_out : is_inserted (ledger_after (CreateBlock ∷ SwitchToBlock block0 ∷ [])) block0 ≡ false
  pub entry : (program_of first_script).entry ≡ Some block0
  pub no_entry : (program_of (CreateBlock ∷ SwitchToBlock block0 ∷ [])).entry ≡ None
  pub untracked : tracked_names first_script ≡ []
  -- a note on a value may be made, and one on a block may not; one inside a block asks for a current one
  pub noted : allows (ledger_after first_calls) (Annotate false (answer_of 3 0 ∷ [])) ≡ true
  pub unnoted : allows (ledger_after first_calls) (Annotate false (block0 ∷ [])) ≡ false
  pub inside : allows (ledger_after first_calls) (Annotate true []) ≡ true
  pub outside : allows (ledger_after []) (Annotate true []) ≡ false
  pub anywhere : allows (ledger_after []) (Annotate false []) ≡ true
  -- A variable is marked before it is used, where it was declared. What a use of it answers is tracked, and so is a value that was
  -- declared; a block is no value.
  pub marked : allows (ledger_after declared_calls) (NeedStackMap (OfVariable 0)) ≡ true
  pub marked_late : allows (ledger_after first_calls) (NeedStackMap (OfVariable 0)) ≡ false
  pub marked_nothing : allows (ledger_after declared_calls) (NeedStackMap (OfVariable 1)) ≡ false
  pub asked : allows (ledger_after first_calls) (NeedStackMap (OfValue (answer_of 4 1))) ≡ true
  pub asked_block : allows (ledger_after first_calls) (NeedStackMap (OfValue block0)) ≡ false
  pub tracked : tracked_names marked_calls ≡ answer_of 4 0 ∷ answer_of 5 1 ∷ []
  -- the constant is value 1, and instruction 0
  pub constant : number_of answered_calls (answer_of 4 1) ≡ Some 1
  pub instruction : number_of answered_calls (answer_of 4 0) ≡ Some 0
  pub nothing : number_of answered_calls (answer_of 4 2) ≡ None

-- an irreducible loop: block 0 leads to 1 and 2, block 1 to 2 and 3, and block 2 to 1 and 3, one item in each
abbrev pub loop_targets : ℕ → List ℕ
loop_targets zero = 1 ∷ 2 ∷ []
loop_targets (suc zero) = 2 ∷ 3 ∷ []
loop_targets (suc (suc zero)) = 1 ∷ 3 ∷ []
loop_targets (suc (suc (suc block))) = []

abbrev pub loop_flow : Flow ℕ
loop_flow = record { entry = Some 0; size = λ block. 1; targets = λ p. loop_targets p.block }

abbrev pub at_block : ℕ → Place ℕ
at_block block = record { block = block; index = 0 }

-- a function that returns value 2, which nothing gives
abbrev pub unplaced_function : FunctionView
unplaced_function = record first_function { blocks = one_block (placed Return type.Invalid (2 ∷ []) [] ∷ []) }

-- Every way to block 3 goes through block 0, and not every way through block 1.
pub record PathExamples : Type 0 where
  pub unplaced : WellPlaced unplaced_function → ⊥
  pub reached : IsReachable loop_flow (at_block 3)
  pub entry_before : StrictlyBefore loop_flow (at_block 0) (at_block 3)
  pub way_round : StrictlyBefore loop_flow (at_block 1) (at_block 3) → ⊥
