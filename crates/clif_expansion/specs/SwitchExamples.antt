-- Worked examples: a switch of one key, which is made into a comparison and a branch. Own.
use Rattle.std.specs.Prelude.{◌≡◌, ℕ, true, false, pos, List, [], ◌∷◌, ◌++◌, Some, None}
use Rattle.clif_types.specs.declared.condcodes.IntCC.TheVariants as cc
use Rattle.clif_types.specs.declared.types.LaneType.TheVariants as lane
use Rattle.clif_types.specs.declared.types.«Type».{«Type»}
use Rattle.clif_types.specs.declared.types.«Type».TheVariants as type
use Rattle.clif_meaning.specs.Acceptance.{Misuse, Refused, iconst}
use Rattle.clif_meaning.specs.BranchExamples.{block, plain}
use Rattle.clif_meaning.specs.Examples.{i32}
use Rattle.clif_meaning.specs.Instruction.{Brif, Compare, Edge, Instruction}
use Rattle.clif_meaning.specs.Ledger.{is_filled, leads_to}
use Rattle.clif_meaning.specs.Name.{Name, answer_of}
use Rattle.clif_meaning.specs.Request.{CreateBlock, SwitchToBlock, Build, Script}
use Rattle.clif_expansion.specs.CallsVerdict.{verdict_on_calls}
use Rattle.clif_expansion.specs.Constants.{computing}
use Rattle.clif_expansion.specs.JoinedCalls.{AreJoinedCalls}
use Rattle.clif_expansion.specs.Keys.{SetTwice, TooGreat}
use Rattle.clif_expansion.specs.Reading.{Reading}
use Rattle.clif_expansion.specs.ScriptCall.{Ask, Emit, OfSwitch, ScriptCall, call_allowed, call_refusal, ledger_of}
use Rattle.clif_expansion.specs.Switching.{IsSwitchCode, switching}

-- three blocks, and five in the first one
abbrev pub opened_script : Script
opened_script = CreateBlock ∷ CreateBlock ∷ CreateBlock ∷ SwitchToBlock (block 0) ∷ iconst i32 (pos 5) ∷ []

abbrev pub opened_calls : List ScriptCall
opened_calls = Ask CreateBlock ∷ Ask CreateBlock ∷ Ask CreateBlock ∷ Ask (SwitchToBlock (block 0)) ∷ Ask (iconst i32 (pos 5)) ∷ []

-- the second block, and then the third one
abbrev pub both_edges : List (Edge Name Name)
both_edges = plain (block 1) ∷ plain (block 2) ∷ []

-- a switch of five at this type by these keys
abbrev pub switch_at : «Type» → List ℕ → List (Edge Name Name) → ScriptCall
switch_at ty keys edges = Emit [] (switching keys ty (answer_of 4 1) edges)

-- to the second block for seven, and else to the third one
abbrev pub switched_calls : List ScriptCall
switched_calls = opened_calls ++ switch_at i32 (7 ∷ []) both_edges ∷ []

-- the plain calls: seven, whether five is seven, and a branch along these edges
abbrev pub is_seven : Instruction Name Name
is_seven = computing (Compare cc.Equal) i32 (answer_of 4 1 ∷ answer_of 5 1 ∷ [])

abbrev pub branching : List (Edge Name Name) → Instruction Name Name
branching edges = record { operation = Brif; controlling = type.Lane lane.I8; operands = answer_of 6 1 ∷ []; contexts = []; edges = edges }

abbrev pub deciding : List (Edge Name Name) → Script
deciding edges = iconst i32 (pos 7) ∷ Build [] is_seven ∷ Build [] (branching edges) ∷ []

pub record SwitchExamples : Type 0 where
  pub allowed : call_allowed (ledger_of opened_calls) (switch_at i32 (7 ∷ []) both_edges) ≡ true
  -- it isn't made at a type of floats
  pub no_integer : call_allowed (ledger_of opened_calls) (switch_at (type.Lane lane.F32) (7 ∷ []) both_edges) ≡ false
  -- behind it the block has its terminator, the switch leads to both blocks, and there is no current one
  pub filled : is_filled (ledger_of switched_calls) (block 0) ≡ true
  pub to_second : leads_to (ledger_of switched_calls) (answer_of 5 0) (block 1) ≡ true
  pub to_third : leads_to (ledger_of switched_calls) (answer_of 5 0) (block 2) ≡ true
  pub no_current : (ledger_of switched_calls).current ≡ None
  -- so nothing is built there
  pub nothing_built : verdict_on_calls (switched_calls ++ Ask (iconst i32 (pos 5)) ∷ []) ≡ Misuse 6
  -- consecutive keys have a table, which serves the switch
  pub no_table : (ledger_of switched_calls).jump_tables ≡ []
  pub a_table : (ledger_of (opened_calls ++ switch_at i32 (7 ∷ 8 ∷ []) (plain (block 1) ∷ both_edges) ∷ [])).jump_tables ≡ None ∷ []
  -- refused are a key that is set twice, and one that is no number of the type
  pub twice : call_refusal (ledger_of opened_calls) (switch_at i32 (7 ∷ 7 ∷ []) (plain (block 1) ∷ both_edges)) ≡ Some (OfSwitch SetTwice)
  pub too_great : call_refusal (ledger_of opened_calls) (switch_at (type.Lane lane.I8) (256 ∷ []) both_edges) ≡ Some (OfSwitch TooGreat)
  pub greatest : call_refusal (ledger_of opened_calls) (switch_at (type.Lane lane.I8) (255 ∷ []) both_edges) ≡ None
  pub refused : verdict_on_calls (opened_calls ++ switch_at i32 (7 ∷ 7 ∷ []) (plain (block 1) ∷ both_edges) ∷ []) ≡ Refused 5
  -- the plain calls are code of the switch, with one branch, and are joined with it
  pub code : IsSwitchCode opened_script (deciding both_edges) (block 0) (answer_of 4 1) i32 (7 ∷ []) both_edges 1 0
  pub joined : (reading : Reading) × AreJoinedCalls reading (opened_script ++ deciding both_edges) switched_calls
  -- with the edges turned round they go to the default for seven, and aren't
  pub turned : (branches tables : ℕ) → IsSwitchCode opened_script (deciding (plain (block 2) ∷ plain (block 1) ∷ [])) (block 0) (answer_of 4 1) i32 (7 ∷ []) both_edges branches tables → ⊥
