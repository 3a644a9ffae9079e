-- Worked examples: lists of calls that `replay` accepts and that differ only in when blocks are sealed, and lists that differ in
-- more; and rows that meet the premises of the theorem however their blocks are sealed. The rows `sample` and `sample_late` are
-- after the documentation of cranelift-frontend, the copies from the project's worked functions, the others own.
use Rattle.std.specs.Prelude.{◌≡◌, ℕ, false, true, pos, List, [], ◌∷◌, ◌++◌}
use Rattle.clif_types.specs.Signature.{SignatureShape}
use Rattle.clif_types.specs.Target.{pointer_type_of}
use Rattle.clif_types.specs.declared.call_conv.CallConv.TheVariants.{SystemV}
use Rattle.clif_types.specs.declared.libcall.LibCall.TheVariants.{Memcpy}
use Rattle.clif_types.specs.declared.target.PointerWidth.TheVariants.{U64}
use Rattle.clif_types.specs.declared.target.TargetFrontendConfig.{TargetFrontendConfig}
use Rattle.clif_types.specs.declared.trapcode.TrapCode.TheVariants.{IntegerOverflow}
use Rattle.clif_meaning.specs.Acceptance.{Accepted, iconst, return_, table_branch, trap}
use Rattle.clif_meaning.specs.BranchExamples.{block, plain}
use Rattle.clif_meaning.specs.ByteOperation.{CallLibrary}
use Rattle.clif_meaning.specs.CallExamples.{i64}
use Rattle.clif_meaning.specs.Examples.{i32}
use Rattle.clif_meaning.specs.FunctionView.{FunctionView}
use Rattle.clif_meaning.specs.Headline.{script_run}
use Rattle.clif_meaning.specs.Name.{answer_of}
use Rattle.clif_meaning.specs.Premises.{Premises}
use Rattle.clif_meaning.specs.Request.{AppendBlockParams, AppendFunctionParams, Build, CreateBlock, MakeEdge, MakeJumpTable, SealAllBlocks, SealBlock, ServedBy, SwitchToBlock}
use Rattle.clif_meaning.specs.SampleExamples.{sample_function, sample_late_script, sample_script, sample_signature}
use Rattle.clif_meaning.specs.World.{World}
use Rattle.clif_calls.specs.declared.call.Call.{Call}
use Rattle.clif_calls.specs.declared.call.Call.TheVariants as call
use Rattle.clif_calls.specs.declared.call.Name.{Name}
use Rattle.clif_calls.specs.declared.immediate.ImmediateCall.TheVariants.{IaddImmS}
use Rattle.clif_calls.specs.declared.memory.MemoryCall.TheVariants.{Copy}
use Rattle.clif_renaming.specs.CallsSealing.{CallsDifferInSealing}
use Rattle.clif_renaming.specs.Sealing.{DifferInSealing}
use Rattle.clif_expansion.specs.CallsHeadline.{CallsPremises, run_of_calls}
use Rattle.clif_expansion.specs.CallsVerdict.{verdict_on_call_attempts, verdict_on_calls}
use Rattle.clif_expansion.specs.ScriptCall.{Emit, ScriptCall}
use Rattle.clif_expansion.specs.Switching.{switching}
use Rattle.clif_replay.specs.Requests.{attempts_of, calls_of}
use Rattle.clif_premise_examples.specs.Examples.{on_branches, on_copies}
use Rattle.clif_premise_examples.specs.Premise.{Situation}
use Rattle.clif_premise_examples.specs.Scripts.{asking, branches_calls, copies_calls, copying, helping, memcpy_by, passing, table_edges, taking, trusted, untrusted}

-- the first answer of the call at this place, and the second answer
abbrev pub answer_to : ℕ → Name
answer_to place = record { place = place; answer = 0 }

abbrev pub second_answer : ℕ → Name
second_answer place = record { place = place; answer = 1 }

-- a block that assigns one variable to another one and traps, sealed at once
abbrev pub sealed_first : List Call
sealed_first =
    call.CreateBlock ∷ call.SwitchToBlock (answer_to 0) ∷ call.SealBlock (answer_to 0) ∷ call.DeclareVar i32 ∷ call.DeclareVar i32
    ∷ call.UseVar 0 ∷ call.DefVar 1 (answer_to 5) ∷ call.Trap IntegerOverflow ∷ []

-- the same sealed at the end, where it uses this variable: the use is one call earlier
abbrev pub sealed_last : (variable : ℕ) → List Call
sealed_last variable =
    call.CreateBlock ∷ call.SwitchToBlock (answer_to 0) ∷ call.DeclareVar i32 ∷ call.DeclareVar i32
    ∷ call.UseVar variable ∷ call.DefVar 1 (answer_to 4) ∷ call.Trap IntegerOverflow ∷ call.SealAllBlocks ∷ []

-- a target, and a function of two addresses there
abbrev pub target : TargetFrontendConfig
target = record { default_call_conv = SystemV; pointer_width = U64; page_size_align_log2 = 12 }

abbrev pub of_addresses : SignatureShape
of_addresses = taking (i64 ∷ i64 ∷ []) []

-- a block that copies 12 bytes to 8 bytes behind the one address from the other one, and traps: a sum with a constant and a memory
-- helper are emitted; sealed at once
abbrev pub copying_first : List Call
copying_first =
    call.CreateBlock ∷ call.AppendBlockParamsForFunctionParams (answer_to 0) ∷ call.SwitchToBlock (answer_to 0) ∷ call.SealBlock (answer_to 0)
    ∷ call.Immediate (IaddImmS (answer_to 1) (pos 8)) ∷ call.Memory (Copy (answer_to 4) (second_answer 1) 12 1 1 false untrusted)
    ∷ call.Trap IntegerOverflow ∷ []

-- the same sealed at the end, where it copies so many bytes
abbrev pub copying_last : (size : ℕ) → List Call
copying_last size =
    call.CreateBlock ∷ call.AppendBlockParamsForFunctionParams (answer_to 0) ∷ call.SwitchToBlock (answer_to 0)
    ∷ call.Immediate (IaddImmS (answer_to 1) (pos 8)) ∷ call.Memory (Copy (answer_to 3) (second_answer 1) size 1 1 false untrusted)
    ∷ call.Trap IntegerOverflow ∷ call.SealAllBlocks ∷ []

pub record SealedListExamples (config : TargetFrontendConfig) (signature : SignatureShape) : Type 0 where
  pub differ : CallsDifferInSealing (calls_of config signature sealed_first) (calls_of config signature (sealed_last 0))
  pub accepted : verdict_on_call_attempts (attempts_of config signature sealed_first) ≡ Accepted
  pub last_accepted : verdict_on_call_attempts (attempts_of config signature (sealed_last 0)) ≡ Accepted
  -- wrong: another variable is used
  pub other_variable : CallsDifferInSealing (calls_of config signature sealed_first) (calls_of config signature (sealed_last 1)) → ⊥
  -- with emissions
  pub copies_differ : CallsDifferInSealing (calls_of target of_addresses copying_first) (calls_of target of_addresses (copying_last 12))
  pub copies_accepted : verdict_on_call_attempts (attempts_of target of_addresses copying_first) ≡ Accepted
  pub last_copies_accepted : verdict_on_call_attempts (attempts_of target of_addresses (copying_last 12)) ≡ Accepted
  -- wrong: fewer bytes are copied
  pub other_size : CallsDifferInSealing (calls_of target of_addresses copying_first) (calls_of target of_addresses (copying_last 8)) → ⊥
  -- the row `sample` seals its blocks as soon as may be, and meets the premises in every world; so does `sample_late`, which seals
  -- them all at the end
  pub rows_differ : DifferInSealing sample_script sample_late_script
  pub late_meets : (world : World) → Premises sample_late_script sample_signature (pointer_type_of U64) (script_run sample_late_script sample_function world)

-- ROWS THAT EMIT ----------------------------------------------------------------------------------------------------------

-- the copies, whose block is sealed at the end: two memory helpers, and a call of `Memcpy`
abbrev pub copies_late : List ScriptCall
copies_late =
    asking (CreateBlock ∷ AppendFunctionParams (block 0) (i64 ∷ i64 ∷ []) ∷ SwitchToBlock (block 0) ∷ iconst i64 (pos 12) ∷ [])
    ++ copying 1 false untrusted ∷ copying 4 true trusted
    ∷ helping (memcpy_by (taking (i64 ∷ i64 ∷ i64 ∷ []) (i64 ∷ []))) (CallLibrary Memcpy) (answer_of 1 0 ∷ answer_of 1 1 ∷ answer_of 3 1 ∷ [])
    ∷ asking (return_ [] ∷ SealAllBlocks ∷ [])

-- the branches, whose blocks are sealed as soon as may be: a branch table, and a switch that goes by this key
abbrev pub branches_early : (key : ℕ) → List ScriptCall
branches_early key =
    asking (
    CreateBlock ∷ CreateBlock ∷ CreateBlock ∷ CreateBlock ∷ AppendFunctionParams (block 0) (i32 ∷ []) ∷ AppendBlockParams (block 2) (i32 ∷ [])
    ∷ MakeEdge (plain (block 3)) ∷ MakeEdge (plain (block 1)) ∷ MakeEdge (passing 2 (answer_of 4 0))
    ∷ MakeJumpTable (answer_of 6 0) (answer_of 7 0 ∷ answer_of 8 0 ∷ []) ∷ SwitchToBlock (block 0) ∷ SealBlock (block 0)
    ∷ Build (ServedBy 0 ∷ []) (table_branch (answer_of 4 0) table_edges) ∷ SealBlock (block 2) ∷ SwitchToBlock (block 1) ∷ trap IntegerOverflow ∷ SwitchToBlock (block 2) ∷ [])
    ++ Emit [] (switching (key ∷ []) i32 (answer_of 5 0) (plain (block 3) ∷ plain (block 1) ∷ []))
    ∷ asking (SealBlock (block 1) ∷ SealBlock (block 3) ∷ SwitchToBlock (block 3) ∷ iconst i32 (pos 7) ∷ return_ (answer_of 21 1 ∷ []) ∷ [])

-- these calls meet the premises where others stand
abbrev pub MeetPremises : List ScriptCall → Situation → Type 0
MeetPremises calls s = CallsPremises calls s.signature (pointer_type_of s.width) (run_of_calls calls s.function s.world)

-- The copies and the branches meet the premises beside every function with these slots and in every world with these arguments, and so do
-- these lists, which differ from them only in when blocks are sealed.
pub record EmittingRowExamples (function : FunctionView) (world : World) : Type 0 where
  pub copies_differ : CallsDifferInSealing copies_calls copies_late
  pub copies_accepted : verdict_on_calls copies_late ≡ Accepted
  pub copies_meet : MeetPremises copies_late (on_copies 64 80 function world)
  pub branches_differ : CallsDifferInSealing branches_calls (branches_early 1)
  pub branches_accepted : verdict_on_calls (branches_early 1) ≡ Accepted
  pub branches_meet : MeetPremises (branches_early 1) (on_branches 1 function world)
  -- wrong: the switch goes by another key
  pub other_key : CallsDifferInSealing branches_calls (branches_early 2) → ⊥

-- on every target and for every signature, and beside every function in every world
abbrev pub SealingLawExamples : Type 0
SealingLawExamples =
    ((config : TargetFrontendConfig) (signature : SignatureShape) → SealedListExamples config signature)
    × ((function : FunctionView) (world : World) → EmittingRowExamples function world)
