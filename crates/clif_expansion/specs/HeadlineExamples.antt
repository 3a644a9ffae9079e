-- Worked examples: the calls that return the sum of five and seven meet the premises, and a function that returns twelve means what they
-- mean; and calls that add seven at another type than the name's, or to no value. Own.
use Rattle.std.specs.Prelude.{◌≡◌, ℕ, Bool, true, pos, List, [], ◌∷◌, ◌++◌}
use Rattle.clif_types.specs.declared.call_conv.CallConv.TheVariants.{SystemV}
use Rattle.clif_types.specs.declared.condcodes.IntCC.TheVariants as cc
use Rattle.clif_types.specs.declared.extname.ExternalName.TheVariants as name
use Rattle.clif_types.specs.declared.libcall.LibCall.TheVariants.{Memcpy}
use Rattle.clif_types.specs.declared.types.«Type».TheVariants as type
use Rattle.clif_types.specs.declared.target.PointerWidth.{PointerWidth}
use Rattle.clif_types.specs.declared.target.PointerWidth.TheVariants.{U64}
use Rattle.clif_types.specs.Target.{pointer_type_of}
use Rattle.clif_meaning.specs.BranchExamples.{block}
use Rattle.clif_meaning.specs.Acceptance.{Accepted, Misuse, Refused, return_}
use Rattle.clif_meaning.specs.Examples.{first_function_with, first_signature, i32}
use Rattle.clif_meaning.specs.FunctionView.{FunctionView}
use Rattle.clif_meaning.specs.Headline.{MeansTheSame}
use Rattle.clif_meaning.specs.Instruction.{AddConstant, Call, Compare, CompareConstant, Iconst, Instruction}
use Rattle.clif_meaning.specs.Ledger.{empty_ledger, ledger_after}
use Rattle.clif_meaning.specs.Name.{Name, answer_of}
use Rattle.clif_meaning.specs.Premises.{WellTyped}
use Rattle.clif_meaning.specs.Request.{Script, SealBlock}
use Rattle.clif_meaning.specs.World.{World}
use Rattle.clif_expansion.specs.Emission.{AreGiven}
use Rattle.clif_expansion.specs.CallsHeadline.{CallsMeanTheSame, CallsPremises}
use Rattle.clif_expansion.specs.CallsVerdict.{AreCallsAllowed, made, verdict_on_call_attempts, verdict_on_calls}
use Rattle.clif_expansion.specs.Constants.{computing, i64}
use Rattle.clif_expansion.specs.JoinedCalls.{AreJoinedCalls}
use Rattle.clif_expansion.specs.CallsRun.{calls_run}
use Rattle.clif_expansion.specs.PerformedCalls.{IsPerformed}
use Rattle.clif_expansion.specs.Reading.{Reading}
use Rattle.clif_expansion.specs.ScriptCall.{Ask, Emit, ScriptCall, ledger_of, program_of_calls}
use Rattle.clif_expansion.specs.ScriptCallExamples.{begun_calls, begun_script, seven_more, summing_calls, summing_script}

-- The sum is returned, and the block sealed; and the plain calls.
abbrev pub returning_calls : List ScriptCall
returning_calls = summing_calls ++ Ask (return_ (answer_of 3 0 ∷ [])) ∷ Ask (SealBlock (block 0)) ∷ []

abbrev pub returning_script : Script
returning_script = summing_script ++ return_ (answer_of 4 1 ∷ []) ∷ SealBlock (block 0) ∷ []

-- the sum at 64 bits, of a name of 32 bits
abbrev pub mistyped_calls : List ScriptCall
mistyped_calls = begun_calls ++ Emit [] (computing (AddConstant (pos 7)) i64 (answer_of 2 1 ∷ [])) ∷ []

-- a comparison with seven, as only scripts have it; at 64 bits; and a copy that is called with no operands
abbrev pub is_seven : Instruction Name Name
is_seven = computing (CompareConstant cc.Equal (pos 7)) i32 (answer_of 2 1 ∷ [])

abbrev pub is_wide_seven : Instruction Name Name
is_wide_seven = computing (Compare cc.Equal) i64 (answer_of 2 1 ∷ answer_of 3 1 ∷ [])

abbrev pub copying_nothing : Instruction Name Name
copying_nothing = record {
  operation = Call (name.LibCall Memcpy) (record { params = []; returns = []; call_conv = SystemV });
  controlling = type.Invalid;
  operands = [];
  contexts = [];
  edges = [];
}

-- the sum of no value
abbrev pub misused : ScriptCall
misused = Emit [] (seven_more (answer_of 2 2))

pub record HeadlineExamples : Type 0 where
  -- the calls meet the premises in every world, wherever spill slots lie; each of them may be made, and they are accepted
  pub premises : (width : PointerWidth) (hidden : ℕ → Bool) (world : World)
      → CallsPremises returning_calls first_signature (pointer_type_of width) (calls_run returning_calls hidden world)
  pub allowed : AreCallsAllowed empty_ledger returning_calls
  pub accepted : verdict_on_calls returning_calls ≡ Accepted
  -- so a function that means what the plain calls mean means what they mean
  pub means : (width : PointerWidth) (function : FunctionView) → MeansTheSame returning_script first_signature width function
      → CallsMeanTheSame returning_calls first_signature width function
  -- a function that returns 0 + 12 does, and one that returns 0 + 7 doesn't
  pub twelve : CallsMeanTheSame returning_calls first_signature U64 (first_function_with 12)
  pub seven : CallsMeanTheSame returning_calls first_signature U64 (first_function_with 7) → ⊥
  -- at another type the sum may be emitted, and isn't well typed
  pub may_mistype : AreCallsAllowed empty_ledger mistyped_calls
  pub mistyped : WellTyped (ledger_of mistyped_calls) (program_of_calls mistyped_calls) first_signature → ⊥
  -- code that compares at another type doesn't perform the comparison, nor does code that calls `Memcpy` by another signature
  pub untyped : (pointer_width : ℕ) (reading : Reading) → AreJoinedCalls reading begun_script begun_calls
      → IsPerformed pointer_width AreGiven reading (ledger_after begun_script) (ledger_of begun_calls) (computing (Iconst (pos 7)) i64 [] ∷ []) is_wide_seven is_seven → ⊥
  pub misnamed : (pointer_width : ℕ) (reading : Reading)
      → IsPerformed pointer_width AreGiven reading (ledger_after begun_script) (ledger_of begun_calls) [] copying_nothing is_seven → ⊥
  -- `finalize` is refused where the block isn't sealed
  pub unsealed : verdict_on_calls summing_calls ≡ Refused 4
  -- the sum of no value is a misuse at its place, even if it were only tried
  pub misuse : verdict_on_calls (begun_calls ++ misused ∷ []) ≡ Misuse 3
  pub tried : verdict_on_call_attempts (made misused ∷ []) ≡ Misuse 0
  pub only_tried : verdict_on_call_attempts (record { call = misused; is_tried = true } ∷ []) ≡ Misuse 0
