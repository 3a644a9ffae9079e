-- The law: the plain calls of a switch are code of the switch. Own.
use Rattle.std.specs.Prelude.{◌≡◌, ◌≤◌, ◌+◌, ◌^◌, ℕ, true, List, [], ◌∷◌, ◌++◌, length, map, All, IsTrue, is_some, Option, Some, None}
use Rattle.std.specs.FinMap as finite
use Rattle.clif_types.specs.Types.{is_int}
use Rattle.clif_types.specs.declared.types.«Type».{«Type»}
use Rattle.clif_ranges.specs.declared.ranges.CaseRange.{CaseRange}
use Rattle.clif_ranges.specs.declared.search.Node.{Node}
use Rattle.clif_ranges.specs.declared.error.SwitchError.{SwitchError}
use Rattle.clif_ranges.specs.declared.error.SwitchError.TheVariants as switch_error
use Rattle.clif_ranges.specs.Cases.{AreRangesFor, CaseMap, IsRefusal}
use Rattle.clif_ranges.specs.Search.{AreInOrder, AreTestsOf, FindsCases}
use Rattle.clif_meaning.specs.Instruction.{Edge}
use Rattle.clif_meaning.specs.Ledger.{empty_ledger, has_block, ledger_after, type_of}
use Rattle.clif_meaning.specs.Name.{Name}
use Rattle.clif_meaning.specs.Program.{program_of}
use Rattle.clif_meaning.specs.Request.{Script}
use Rattle.clif_expansion.specs.ConstantCalls.{AreAllowed}
use Rattle.clif_expansion.specs.Keys.{SetTwice, SwitchRefusal, TooGreat, TooLong, keys_refusal}
use Rattle.clif_expansion.specs.Switching.{IsSwitchCode}
use Rattle.clif_switch_calls.specs.SwitchCalls.{Switched, bare_edge, nodes_calls}

-- the keys of the cases, in order
abbrev pub case_keys : CaseMap → List ℕ
case_keys cases = map (λ case. case.0) (finite.entries cases)

-- the edges to their blocks, and then to the block of all other keys
abbrev pub case_edges : Switched → CaseMap → List (Edge Name Name)
case_edges s cases = map (λ case. bare_edge (s.named case.1)) (finite.entries cases) ++ bare_edge s.otherwise ∷ []

-- The switch may be made behind these calls: the block is the current one, the value is an integer, and the targets are blocks. Nothing
-- was built in blocks that aren't there yet.
pub record MaySwitch (plain : Script) (block : Name) (s : Switched) (cases : CaseMap) : Type 0 where
  pub current : (ledger_after plain).current ≡ Some block
  pub there : IsTrue (has_block (ledger_after plain) block)
  pub int : IsTrue (is_int s.ty)
  pub value : type_of (ledger_after plain) s.value ≡ Some s.ty
  pub otherwise : IsTrue (has_block (ledger_after plain) s.otherwise)
  pub targets : All (λ case. IsTrue (has_block (ledger_after plain) (s.named case.1))) (finite.entries cases)
  pub unwritten : (later : Name) → length plain ≤ later.place → (program_of plain).items later ≡ []

-- Behind calls that may be made nothing was built in such blocks.
abbrev pub LaterBlocksAreUnwritten : Type 0
LaterBlocksAreUnwritten =
    (plain : Script) → AreAllowed empty_ledger plain → (later : Name) → length plain ≤ later.place → (program_of plain).items later ≡ []

-- these nodes search the cases
pub record SearchesCases (s : Switched) (cases : CaseMap) (ranges : List CaseRange) (nodes : List Node) : Type 0 where
  pub ranges_for : AreRangesFor cases s.ty ranges
  pub finds : FindsCases ranges nodes 0
  pub order : AreInOrder (0 ∷ []) 1 nodes
  pub tests : AreTestsOf ranges nodes

-- the plain calls of the switch
abbrev pub switch_calls : Script → Switched → List Node → Script
switch_calls plain s nodes = nodes_calls s [] (length (ledger_after plain).jump_tables) nodes (length plain)

-- They are code of the switch, with one table at most on each way, and at most two conditional branches more than the logarithm of the
-- number of ranges, rounded up: one of them is the range check of a table.
abbrev pub SwitchCallsAreCode : Type 0
SwitchCallsAreCode =
    (plain : Script) (block : Name) (s : Switched) (cases : CaseMap) (ranges : List CaseRange) (nodes : List Node) (k : ℕ)
    → MaySwitch plain block s cases → SearchesCases s cases ranges nodes → length ranges ≤ 2 ^ k
    → IsSwitchCode plain (switch_calls plain s nodes) block s.value s.ty (case_keys cases) (case_edges s cases) (k + 2) 1

-- why the definitions refuse the keys of a switch, where the builder tells this; nothing is wrong with the keys where memory or a
-- table ran out
abbrev pub refusal_in : SwitchError → Option SwitchRefusal
refusal_in (switch_error.SetTwice key) = Some SetTwice
refusal_in (switch_error.KeyTooWide ty max) = Some TooGreat
refusal_in switch_error.TableTooLong = Some TooLong
refusal_in (switch_error.Build error) = None

-- Keys are refused as the builder refuses their cases, and where it finds ranges of the cases, they aren't.
pub record RefusalsAreOfKeys : Type 0 where
  pub refused : (cases : CaseMap) (ty : «Type») (error : SwitchError) → IsRefusal cases ty error → is_some (refusal_in error) ≡ true
      → keys_refusal ty (case_keys cases) ≡ refusal_in error
  pub taken : (cases : CaseMap) (ty : «Type») (ranges : List CaseRange) → AreRangesFor cases ty ranges → keys_refusal ty (case_keys cases) ≡ None
