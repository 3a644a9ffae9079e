-- What emitting a switch makes of a builder. Source: the module `switch` of cranelift-frontend; that a refusal leaves the builder as it
-- was is own.
use Rattle.std.specs.Prelude.{◌≡◌, ◌≢◌, ◌↔◌, ◌<◌, ◌≤◌, ◌+◌, ◌^◌, ℕ, List, ◌++◌, length, replicate, IsTrue, false, None, Some, Result, Err, OnOk, IfErr}
use Rattle.std.specs.FinMap as map
use Rattle.clif_types.specs.Signature.{SignatureShape}
use Rattle.clif_types.specs.Types.{is_int}
use Rattle.clif_types.specs.declared.error.BuildError.TheVariants.{Failed, Full, Memory}
use Rattle.clif_types.specs.declared.types.«Type».{«Type»}
use Rattle.clif_ir.specs.Body.{value_at}
use Rattle.clif_ranges.specs.declared.ranges.CaseRange.{CaseRange}
use Rattle.clif_ranges.specs.declared.error.SwitchError.{SwitchError}
use Rattle.clif_ranges.specs.declared.error.SwitchError.TheVariants as switch_error
use Rattle.clif_ranges.specs.Cases.{AreRangesFor, CaseMap, IsKeyTooWide, IsRefusal}
use Rattle.clif_ranges.specs.Ranges.{AreFewest}
use Rattle.clif_meaning.specs.Ledger.{type_of}
use Rattle.clif_meaning.specs.Name.{Name}
use Rattle.clif_meaning.specs.Request.{AnsweredCall, script_of}
use Rattle.clif_meaning.specs.Sizes.{MakesAtMost, Table, made_by_script}
use Rattle.clif_builder.specs.declared.builder.FunctionBuilder.{FunctionBuilder}
use Rattle.clif_builder.specs.Builder.{HasCurrent, IsLeft, SameLoans, is_free}
use Rattle.clif_builder.specs.Growth.{GrowsBesideTables, RemembersIn, TypesStay}
use Rattle.clif_builder.specs.Keeping.{KeepsState}
use Rattle.clif_builder.specs.Ledger.{NamesBlock, NamesValue, ledger_of}
use Rattle.clif_ssa.specs.Structure.{LooksOnce}
use Rattle.clif_builder.specs.StandsFor.{StandsFor}
use Rattle.clif_expansion.specs.Keys.{table_count}
use Rattle.clif_expansion.specs.Switching.{IsSwitchCode}
use Rattle.clif_switch_calls.specs.SwitchCalls.{Switched}
use Rattle.clif_switch_calls.specs.SwitchLaw.{case_edges, case_keys}
use Rattle.clif_switch_calls.specs.SwitchSizes.{switch_makes}
use Rattle.clif_switch.specs.Emission.{MayAddJumpTables, LeavesBlocks, MayLead, SwitchIsFull}

-- A switch on the value may be built, of cases with these blocks: it is an integer, and branches may lead to all blocks.
pub record MayEmit {R : Type 0} (cases : CaseMap) (value otherwise : ℕ) (b : FunctionBuilder R) : Type 0 where
  pub current : HasCurrent b
  pub exists : value < length b.func.now.values
  pub integer : IsTrue (is_int (value_at b.func.now value).ty)
  pub otherwise_leads : MayLead b otherwise
  pub cases_lead : (key block : ℕ) → map.get cases key ≡ Some block → MayLead b block

-- What is emitted is code of the switch: it walks from the current block to the block of each key's case, behind at most two conditional
-- branches more than the logarithm of the number of ranges, rounded up, and one table at most; and it makes as many entries of each table
-- of the function as a switch of so many keys at most.
pub record IsCodeOf (calls added : List AnsweredCall) (s : Switched) (cases : CaseMap) (block : Name) : Type 0 where
  pub ranges : List CaseRange
  pub ranges_for : AreRangesFor cases s.ty ranges
  pub fewest : AreFewest ranges
  pub code : (k : ℕ) → length ranges ≤ 2 ^ k
      → IsSwitchCode (script_of calls) (script_of added) block s.value s.ty (case_keys cases) (case_edges s cases) (k + 2) 1
  pub most : (table : Table) → made_by_script (script_of added) table ≤ switch_makes (length (case_keys cases)) table

-- names of the value, and of the blocks to which control goes by its cases
pub record NamesSwitch (calls : List AnsweredCall) (s : Switched) (cases : CaseMap) (value otherwise : ℕ) : Type 0 where
  pub value_named : NamesValue calls s.value value
  pub typed : type_of (ledger_of calls) s.value ≡ Some s.ty
  pub otherwise_named : NamesBlock calls s.otherwise otherwise
  pub cases_named : (key block : ℕ) → map.get cases key ≡ Some block → NamesBlock calls (s.named block) block

-- why nothing was emitted: it is refused for its cases, and the builder is as it was; or it failed
abbrev pub IsUnemitted : {R : Type 0} → CaseMap → «Type» → (old new : FunctionBuilder R) → SwitchError → Type 0
IsUnemitted cases ty old new (switch_error.Build error) = IsTrue new.failed
IsUnemitted cases ty old new error = IsRefusal cases ty error × (new ≡ old)

-- A switch of these cases was to be emitted at the end of the current block.
pub record Emits {R : Type 0} (cases : CaseMap) (value otherwise : ℕ) (old new : FunctionBuilder R) (answer : Result (Unit {0}) SwitchError) : Type 0 where
  pub loans : SameLoans old new
  pub srcloc : new.srcloc ≡ old.srcloc
  -- a builder that failed answers that, and stays as it is
  pub failed : (answer ≡ Err (switch_error.Build Failed)) ↔ IsTrue old.failed
  pub unchanged : IsTrue old.failed → new ≡ old
  pub errors : IfErr answer (IsUnemitted cases (value_at old.func.now value).ty old new)
  -- where an error says so, a table that the switch needs is full
  pub full : answer ≡ Err (switch_error.Build Full) → SwitchIsFull new.func.now
  -- whatever it answers, but for want of memory, each table has at most so many entries more, by the number of keys
  pub most : answer ≢ Err (switch_error.Build Memory) → MakesAtMost (switch_makes (length (case_keys cases))) old.func.now new.func.now
  -- the greatest key is looked at before anything else
  pub too_wide : (max : ℕ) → (answer ≡ Err (switch_error.KeyTooWide (value_at old.func.now value).ty max))
      ↔ ((old.failed ≡ false) × IsKeyTooWide cases (value_at old.func.now value).ty max)
  pub sound : OnOk answer (new.failed ≡ false)
  pub looks_once : LooksOnce old.ctx.now.parts.ssa → LooksOnce new.ctx.now.parts.ssa
  pub variables : new.ctx.now.parts.variables ≡ old.ctx.now.parts.variables
  pub grows : OnOk answer (GrowsBesideTables old.func.now new.func.now)
  -- two uses of a variable in a block agree, with a switch between them
  pub remembers : (x b : ℕ) → OnOk answer (RemembersIn x b old new)
  pub types : OnOk answer (TypesStay old.func.now new.func.now)
  pub exceptions : OnOk answer (new.func.now.tables.exception_tables ≡ old.func.now.tables.exception_tables)
  -- each instruction that was made has the builder's source place, and what was recorded for stack maps stays
  pub keeps : OnOk answer (KeepsState old new)
  -- all tables stay but that of jump tables
  pub adds : OnOk answer (MayAddJumpTables old.func.now.tables new.func.now.tables)
  -- as many jump tables were made, each of which serves, as there are ranges of more than one key
  pub tables : OnOk answer (new.func.now.tables.jump_tables ≡ old.func.now.tables.jump_tables ++ replicate (table_count (case_keys cases) (case_keys cases)) None)
  pub leaves : OnOk answer (LeavesBlocks old new)
  pub left : OnOk answer (IsLeft new)
  pub free : OnOk answer (IsTrue (is_free new))
  -- where it stood for calls, it stands for them with code of the switch
  pub stands : (signature : SignatureShape) (calls : List AnsweredCall) (s : Switched) (block : Name)
      → StandsFor signature calls old → (ledger_of calls).current ≡ Some block → NamesSwitch calls s cases value otherwise
      → OnOk answer ((added : List AnsweredCall) × StandsFor signature (calls ++ added) new × IsCodeOf calls added s cases block)
