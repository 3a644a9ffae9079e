-- Worked examples: calls of a script with an emission, and its plain calls. Own.
use Rattle.std.specs.Prelude.{◌≡◌, ℕ, zero, suc, true, false, pos, List, [], ◌∷◌, ◌++◌, Some}
use Rattle.clif_opcodes.specs.declared.opcodes.BinaryOpcode.TheVariants.{Iadd}
use Rattle.clif_meaning.specs.Acceptance.{iconst}
use Rattle.clif_meaning.specs.BranchExamples.{block}
use Rattle.clif_meaning.specs.Examples.{i32}
use Rattle.clif_meaning.specs.Instruction.{AddConstant, Binary, CallPayload, Iconst, Instruction, Known}
use Rattle.clif_meaning.specs.Ledger.{ledger_after, type_of}
use Rattle.clif_meaning.specs.Name.{Name, answer_of}
use Rattle.clif_meaning.specs.Program.{Instruct}
use Rattle.clif_meaning.specs.Request.{Request, CreateBlock, SwitchToBlock, SealBlock, MakeEdge, MakeExceptionTable, TagTo, DefaultTo, InContext, Build, Script}
use Rattle.clif_expansion.specs.ConstantCalls.{constant_calls}
use Rattle.clif_expansion.specs.Constants.{computing}
use Rattle.clif_expansion.specs.JoinedCalls.{AreJoinedCalls}
use Rattle.clif_expansion.specs.Joining.{AreJoinedStates, results_at}
use Rattle.clif_expansion.specs.Reading.{Generated, NotMade, Reading, ScriptName, StandsFor}
use Rattle.clif_expansion.specs.ScriptCall.{Ask, Emit, ScriptCall, call_allowed, ledger_of, program_of_calls}

-- a block with a constant
abbrev pub begun_script : Script
begun_script = CreateBlock ∷ SwitchToBlock (block 0) ∷ iconst i32 (pos 5) ∷ []

abbrev pub begun_calls : List ScriptCall
begun_calls = Ask CreateBlock ∷ Ask (SwitchToBlock (block 0)) ∷ Ask (iconst i32 (pos 5)) ∷ []

-- the sum of a name and seven
abbrev pub seven_more : Name → Instruction Name Name
seven_more x = computing (AddConstant (pos 7)) i32 (x ∷ [])

-- the same, with a context
abbrev pub in_context : (context x : Name) → Instruction Name Name
in_context context x = record (seven_more x) { contexts = context ∷ [] }

abbrev pub summing_calls : List ScriptCall
summing_calls = begun_calls ++ Emit [] (seven_more (answer_of 2 1)) ∷ []

-- the plain calls: seven, and the sum
abbrev pub sum : Instruction Name Name
sum = computing (Binary Iadd) i32 (answer_of 2 1 ∷ answer_of 3 1 ∷ [])

abbrev pub summing_script : Script
summing_script = begun_script ++ iconst i32 (pos 7) ∷ Build [] sum ∷ []

-- an edge to the block, with a name and the first part of an exception, and an exception table of such an edge, with a name as its
-- context
abbrev pub leading : Name → Request
leading x = MakeEdge (record { target = block 0; arguments = Known x ∷ CallPayload 0 ∷ [] })

abbrev pub throwing : (tag : ℕ) (edge x : Name) → Request
throwing tag edge x = MakeExceptionTable 0 edge (InContext x ∷ TagTo tag edge ∷ DefaultTo edge ∷ [])

-- with the emission's result, behind the emission
abbrev pub throwing_calls : List ScriptCall
throwing_calls = summing_calls ++ Ask (leading (answer_of 3 0)) ∷ Ask (throwing 7 (answer_of 4 0) (answer_of 3 0)) ∷ []

-- and the plain calls
abbrev pub throwing_script : (tag : ℕ) (x : Name) → Script
throwing_script tag x = summing_script ++ leading (answer_of 4 1) ∷ throwing tag (answer_of 5 0) x ∷ []

-- The first three calls answer what the script's do, the next one was generated, and the last one answers the emission's result.
abbrev pub summing : (place index : ℕ) → StandsFor
summing zero index = ScriptName (answer_of 0 index)
summing (suc zero) index = ScriptName (answer_of 1 index)
summing (suc (suc zero)) index = ScriptName (answer_of 2 index)
summing (suc (suc (suc zero))) index = Generated
summing (suc (suc (suc (suc zero)))) index = results_at 3 index
summing (suc (suc (suc (suc (suc place))))) index = NotMade

abbrev pub summing_reading : Reading
summing_reading name = summing name.place name.index

pub record ScriptCallExamples : Type 0 where
  pub allowed : call_allowed (ledger_of begun_calls) (Emit [] (seven_more (answer_of 2 1))) ≡ true
  pub with_context : call_allowed (ledger_of begun_calls) (Emit [] (in_context (answer_of 2 1) (answer_of 2 1))) ≡ true
  -- there is no such value, neither as an operand nor as a context; the operation isn't of scripts alone; and the constant has no sign
  -- of 64 bits
  pub no_value : call_allowed (ledger_of begun_calls) (Emit [] (seven_more (answer_of 2 2))) ≡ false
  pub no_context : call_allowed (ledger_of begun_calls) (Emit [] (in_context (answer_of 2 2) (answer_of 2 1))) ≡ false
  pub built : call_allowed (ledger_of begun_calls) (Emit [] (computing (Iconst (pos 7)) i32 [])) ≡ false
  pub too_wide : call_allowed (ledger_of begun_calls) (Emit [] (computing (AddConstant (pos 9223372036854775808)) i32 (answer_of 2 1 ∷ []))) ≡ false
  -- the result is the first answer
  pub result : type_of (ledger_of summing_calls) (answer_of 3 0) ≡ Some i32
  pub items : (program_of_calls summing_calls).items (block 0)
      ≡ Instruct 2 (computing (Iconst (pos 5)) i32 []) (answer_of 2 1 ∷ []) ∷ Instruct 3 (seven_more (answer_of 2 1)) (answer_of 3 0 ∷ []) ∷ []
  -- the ledgers are joined
  pub joined : AreJoinedStates summing_reading 4 (ledger_after summing_script) (ledger_of summing_calls)
  -- the plain calls are those of a sum with a constant, and stand for the script's
  pub plain : constant_calls (Binary Iadd) i32 (pos 7) 3 (answer_of 2 1) ≡ iconst i32 (pos 7) ∷ Build [] sum ∷ []
  pub stands : (reading : Reading) × AreJoinedCalls reading summing_script summing_calls
  -- so do those that make an exception table
  pub throws : (reading : Reading) × AreJoinedCalls reading (throwing_script 7 (answer_of 4 1)) throwing_calls
  -- with another tag they don't, and with another context
  pub other_tag : (reading : Reading) → AreJoinedCalls reading (throwing_script 8 (answer_of 4 1)) throwing_calls → ⊥
  pub other_context : (reading : Reading) → AreJoinedCalls reading (throwing_script 7 (answer_of 2 1)) throwing_calls → ⊥
  -- with one call more on one side alone they don't
  pub one_more : (reading : Reading) → AreJoinedCalls reading (summing_script ++ SealBlock (block 0) ∷ []) summing_calls → ⊥
  -- and the ledgers aren't joined then
  pub apart : (reading : Reading) → AreJoinedStates reading 4 (ledger_after (summing_script ++ SealBlock (block 0) ∷ [])) (ledger_of summing_calls) → ⊥
