-- What a call does to the variable program and to the ledger: a few effects serve all calls. Laws of one more call are by
-- these effects, so that a new call needs its two rows here, and none there.
use Rattle.std.proofs.Common.{◌≡◌, ℕ, List, [], ◌∷◌, ◌++◌, refl, Some, None, IsTrue}
use Rattle.std.specs.Prelude.{Option, Bool, true, false, map, if◌then◌else◌}
use Rattle.std.specs.List.{list_any}
use Rattle.clif_types.specs.declared.types.«Type».{«Type»}
use Rattle.clif_tables.specs.Entries.{with_entry}
use Rattle.clif_tables.specs.Lists.{TableLists}
use Rattle.clif_meaning.specs.Name.{Name, same_name}
use Rattle.clif_meaning.specs.Instruction.{Edge, Instruction}
use Rattle.clif_meaning.specs.Request.{Request, CreateBlock, SwitchToBlock, SealBlock, SealAllBlocks, InsertBlockAfter, SetColdBlock, EnsureInsertedBlock, AppendBlockParams, AppendFunctionParams, DeclareVar, DefVar, UseVar, MakeEntry, MakeEdge, MakeJumpTable, MakeExceptionTable, Annotate, NeedStackMap, Build, GivenEntry, ChangeJumpDestination, Finalize, StackMapNeed}
use Rattle.clif_meaning.specs.Program.{Program, answers_from, extended, with_inserted, with_parameters, with_redirected}
use Rattle.clif_meaning.specs.Ledger.{BlockState, Ledger, changed_by, edges_named, left_by, put_after, redirected_state, sealed, with_begun, with_cold_mark, with_parameter_types, with_state, ExceptionTable, exception_table}

-- the call makes no block
abbrev pub MakesNoBlock : Request → Type 0
MakesNoBlock CreateBlock = ⊥
MakesNoBlock _ = Unit {0}

-- the call makes no parameter of the caller's
abbrev pub MakesNoParameter : Request → Type 0
MakesNoParameter (AppendBlockParams block types) = ⊥
MakesNoParameter (AppendFunctionParams block types) = ⊥
MakesNoParameter _ = Unit {0}

-- the block that the call switches to, if it switches to one
abbrev pub switch_of : Request → Option Name
switch_of (SwitchToBlock block) = Some block
switch_of _ = None

-- THE PROGRAM -------------------------------------------------------------------------------------------------------------

pub data ProgramEffect (request : Request) : Type 0 where
  -- it adds nothing
  Leaves : switch_of request ≡ None → ((program : Program) → extended program request ≡ program) → ProgramEffect request
  -- the current block comes into the layout
  Inserts : switch_of request ≡ None → ((program : Program) → extended program request ≡ with_inserted program) → ProgramEffect request
  -- parameters of the caller's
  Takes : (block : Name) (types : List «Type») → switch_of request ≡ None → (MakesNoParameter request → ⊥)
      → ((program : Program) → extended program request ≡ with_parameters program block (answers_from program.place 0 types)) → ProgramEffect request
  Switches : (block : Name) → request ≡ SwitchToBlock block → ProgramEffect request
  -- an item of the current block
  Assigns : (variable : ℕ) (value : Name) → request ≡ DefVar variable value → ProgramEffect request
  Uses : (variable : ℕ) → request ≡ UseVar variable → ProgramEffect request
  Builds : (entries : List GivenEntry) (instruction : Instruction Name Name) → request ≡ Build entries instruction → ProgramEffect request
  -- edges of items lead elsewhere
  Redirects : (branch from to : Name) → switch_of request ≡ None
      → ((program : Program) → extended program request ≡ with_redirected program branch from to) → ProgramEffect request

pub program_effect : (request : Request) → ProgramEffect request
program_effect CreateBlock = Leaves refl (λ program. refl)
program_effect (SwitchToBlock block) = Switches block refl
program_effect (SealBlock block) = Leaves refl (λ program. refl)
program_effect SealAllBlocks = Leaves refl (λ program. refl)
program_effect (InsertBlockAfter block after) = Leaves refl (λ program. refl)
program_effect (SetColdBlock block) = Leaves refl (λ program. refl)
program_effect EnsureInsertedBlock = Inserts refl (λ program. refl)
program_effect (AppendBlockParams block types) = Takes block types refl (λ none. none) (λ program. refl)
program_effect (AppendFunctionParams block types) = Takes block types refl (λ none. none) (λ program. refl)
program_effect (DeclareVar ty) = Leaves refl (λ program. refl)
program_effect (DefVar variable value) = Assigns variable value refl
program_effect (UseVar variable) = Uses variable refl
program_effect (MakeEntry entry) = Leaves refl (λ program. refl)
program_effect (MakeEdge edge) = Leaves refl (λ program. refl)
program_effect (MakeJumpTable default entries) = Leaves refl (λ program. refl)
program_effect (MakeExceptionTable signature normal items) = Leaves refl (λ program. refl)
program_effect (Annotate inside values) = Leaves refl (λ program. refl)
program_effect (NeedStackMap need) = Leaves refl (λ program. refl)
program_effect (Build entries instruction) = Builds entries instruction refl
program_effect (ChangeJumpDestination branch from to) = Redirects branch from to refl (λ program. refl)
program_effect Finalize = Leaves refl (λ program. refl)

-- THE LEDGER --------------------------------------------------------------------------------------------------------------

-- a change of states that keeps names and filled blocks
pub record KeepsFilled (change : BlockState → BlockState) : Type 0 where
  pub name : (state : BlockState) → (change state).block ≡ state.block
  pub filled : (state : BlockState) → IsTrue state.is_filled → IsTrue (change state).is_filled

pub data LedgerEffect (request : Request) : Type 0 where
  -- its answers aside, it changes nothing
  Keeps : switch_of request ≡ None → ((ledger : Ledger) → changed_by ledger request ≡ ledger) → LedgerEffect request
  -- the order of the layout, or the tables
  Lays : (layout : Ledger → List Name) (tables : Ledger → TableLists) (jump_tables : Ledger → List (Option (List (Edge Name Name))))
      (exception_tables : Ledger → List (Option ExceptionTable)) → switch_of request ≡ None
      → ((ledger : Ledger) → changed_by ledger request ≡ record ledger { layout = layout ledger; tables = tables ledger; jump_tables = jump_tables ledger; exception_tables = exception_tables ledger })
      → LedgerEffect request
  -- the state of one block
  Changes : (block : Name) (change : BlockState → BlockState) → KeepsFilled change → switch_of request ≡ None
      → ((ledger : Ledger) → changed_by ledger request ≡ with_state ledger block change) → LedgerEffect request
  -- something is made in the current block
  Begins : switch_of request ≡ None → ((ledger : Ledger) → changed_by ledger request ≡ with_begun ledger) → LedgerEffect request
  Creates : request ≡ CreateBlock → LedgerEffect request
  Enters : (block : Name) → request ≡ SwitchToBlock block → LedgerEffect request
  -- the state of each block
  ChangesEach : (change : BlockState → BlockState) → KeepsFilled change → switch_of request ≡ None
      → ((ledger : Ledger) → changed_by ledger request ≡ record ledger { blocks = map change ledger.blocks }) → LedgerEffect request
  Declares : (ty : «Type») → request ≡ DeclareVar ty → LedgerEffect request
  Touches : (variable : ℕ) (value : Name) → request ≡ DefVar variable value → LedgerEffect request
  Reads : (variable : ℕ) → request ≡ UseVar variable → LedgerEffect request
  Marks : (need : StackMapNeed) → request ≡ NeedStackMap need → LedgerEffect request
  Appends : (entries : List GivenEntry) (instruction : Instruction Name Name) → request ≡ Build entries instruction → LedgerEffect request

seals : KeepsFilled sealed
seals = record { name = λ state. refl; filled = λ state is. is }

marks : KeepsFilled with_cold_mark
marks = record { name = λ state. refl; filled = λ state is. is }

takes : (types : List «Type») → KeepsFilled (with_parameter_types types)
takes types = record { name = λ state. refl; filled = λ state is. is }

pub redirects : (branch from to : Name) → KeepsFilled (redirected_state branch from to)
redirects branch from to = record {
  name = λ state. of_name state (same_name from to) (same_name state.block from) (same_name state.block to) (list_any (same_name branch) state.predecessors);
  filled = λ state is. of_filled state (same_name from to) (same_name state.block from) (same_name state.block to) (list_any (same_name branch) state.predecessors) is;
}
  where
    by : BlockState → (same at_from at_to there : Bool) → BlockState
    by state same at_from at_to there =
        if same then state
        else (if at_from then left_by branch state
        else (if at_to then (if there then state else record state { predecessors = state.predecessors ++ branch ∷ [] }) else state))

    of_name : (state : BlockState) (same at_from at_to there : Bool) → (by state same at_from at_to there).block ≡ state.block
    of_name state true at_from at_to there = refl
    of_name state false true at_to there = refl
    of_name state false false true true = refl
    of_name state false false true false = refl
    of_name state false false false there = refl

    of_filled : (state : BlockState) (same at_from at_to there : Bool) → IsTrue state.is_filled → IsTrue (by state same at_from at_to there).is_filled
    of_filled state true at_from at_to there is = is
    of_filled state false true at_to there is = is
    of_filled state false false true true is = is
    of_filled state false false true false is = is
    of_filled state false false false there is = is

pub ledger_effect : (request : Request) → LedgerEffect request
ledger_effect CreateBlock = Creates refl
ledger_effect (SwitchToBlock block) = Enters block refl
ledger_effect (SealBlock block) = Changes block sealed seals refl (λ ledger. refl)
ledger_effect SealAllBlocks = ChangesEach sealed seals refl (λ ledger. refl)
ledger_effect (InsertBlockAfter block after) = Lays (λ ledger. put_after block after ledger.layout) (λ ledger. ledger.tables) (λ ledger. ledger.jump_tables) (λ ledger. ledger.exception_tables) refl (λ ledger. refl)
ledger_effect (SetColdBlock block) = Changes block with_cold_mark marks refl (λ ledger. refl)
ledger_effect EnsureInsertedBlock = Begins refl (λ ledger. refl)
ledger_effect (AppendBlockParams block types) = Changes block (with_parameter_types types) (takes types) refl (λ ledger. refl)
ledger_effect (AppendFunctionParams block types) = Changes block (with_parameter_types types) (takes types) refl (λ ledger. refl)
ledger_effect (DeclareVar ty) = Declares ty refl
ledger_effect (DefVar variable value) = Touches variable value refl
ledger_effect (UseVar variable) = Reads variable refl
ledger_effect (MakeEntry entry) = Lays (λ ledger. ledger.layout) (λ ledger. with_entry ledger.tables entry) (λ ledger. ledger.jump_tables) (λ ledger. ledger.exception_tables) refl (λ ledger. refl)
ledger_effect (MakeEdge edge) = Keeps refl (λ ledger. refl)
ledger_effect (MakeJumpTable default entries) =
    Lays (λ ledger. ledger.layout) (λ ledger. ledger.tables) (λ ledger. ledger.jump_tables ++ Some (edges_named ledger (default ∷ entries)) ∷ [])
    (λ ledger. ledger.exception_tables) refl (λ ledger. refl)
ledger_effect (MakeExceptionTable signature normal items) =
    Lays (λ ledger. ledger.layout) (λ ledger. ledger.tables) (λ ledger. ledger.jump_tables)
    (λ ledger. ledger.exception_tables ++ Some (exception_table ledger signature normal items) ∷ []) refl (λ ledger. refl)
ledger_effect (Annotate inside values) = Keeps refl (λ ledger. refl)
ledger_effect (NeedStackMap need) = Marks need refl
ledger_effect (Build entries instruction) = Appends entries instruction refl
ledger_effect (ChangeJumpDestination branch from to) = ChangesEach (redirected_state branch from to) (redirects branch from to) refl (λ ledger. refl)
ledger_effect Finalize = Keeps refl (λ ledger. refl)
