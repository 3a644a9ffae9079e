-- An unfinished function that carries a list of calls reads right on runs and bits.
use Rattle.std.proofs.Common.{◌≡◌, ℕ, Bool, true, false, List, length, Some, refl, sym, ap, subst, subst₂}
use Rattle.clif_types.specs.Signature.{SignatureShape}
use Rattle.clif_types.specs.declared.target.PointerWidth.{PointerWidth}
use Rattle.clif_ir.specs.Body.{Body}
use Rattle.clif_ir.specs.Consistent.{IsConsistent}
use Rattle.clif_ssa.specs.Ssa.{SsaState, sealed_of}
use Rattle.clif_records.specs.Tables.{is_yes}
use Rattle.clif_tables.specs.Callees.{types_of}
use Rattle.clif_meaning.specs.Name.{Name}
use Rattle.clif_meaning.specs.Request.{AnsweredCall}
use Rattle.clif_meaning.specs.World.{World}
use Rattle.clif_meaning.specs.ScriptMachine as script
use Rattle.clif_meaning.specs.ScriptMachine.{ScriptRun, ScriptState, script_machine}
use Rattle.clif_meaning.specs.FunctionMachine as function_machine_of
use Rattle.clif_meaning.specs.FunctionMachine.{Collector, FunctionRun, FunctionState, function_machine}
use Rattle.clif_meaning.specs.View.{view_of}
use Rattle.clif_meaning.specs.Headline.{IsWorldOf}
use Rattle.clif_simulation.specs.Tables.{program_so_far, block_name}
use Rattle.clif_simulation.specs.Reading.{MovesAlike, PremisesSoFar, may_grow, script_run_so_far, function_run_so_far, starting_at, SideBySide, StartAlike, RunSideBySide}
use Rattle.clif_simulation.proofs.Unbranched.{CarriesUnbranched}
use Rattle.clif_simulation.proofs.Finished.Starting.{arguments_count}
use Rattle.clif_simulation.proofs.Unfinished.Reaching.{reached_entry}
use Rattle.clif_simulation.proofs.Finished.Entry
use Rattle.clif_simulation.proofs.Unfinished.AlongCalls.{MovesHere, moves_here}
use Rattle.clif_simulation.proofs.Unfinished.Opened
use Rattle.clif_simulation.proofs.Finished.OperandTypes.{OutcomesAlike, outcomes_alike_so_far}
use Rattle.clif_simulation.proofs.Unfinished.Setting

module _ (calls : List AnsweredCall) (signature : SignatureShape) (f : Body) (ssa : SsaState) (consistent : IsConsistent f) (carries : CarriesUnbranched calls f ssa)
    (width : PointerWidth) (world : World) (tracked : Name → Bool) (collector : Collector)
    (fits : IsWorldOf signature (view_of f) width world) (premises : PremisesSoFar (may_grow calls) calls signature)
    (moves : MovesHere calls f ssa consistent carries.whole world tracked collector)
  where
    abbrev left_run : ScriptRun
    left_run = script_run_so_far calls f world tracked

    abbrev right_run : FunctionRun
    right_run = function_run_so_far calls f world collector

    alike : OutcomesAlike calls f world
    alike = outcomes_alike_so_far calls f world carries.whole.values_typed (may_grow calls) signature premises.well_typed

    abbrev FromStart : ℕ → Name → Type 0
    FromStart block name = SideBySide calls f ssa block name (script_machine left_run) (function_machine right_run)

    abbrev FromAny : ℕ → Name → Type 0
    FromAny block name =
        is_yes (sealed_of ssa block) ≡ false → (p : ScriptState) (q : FunctionState) → StartAlike calls f ssa block name p q
        → SideBySide calls f ssa block name (starting_at (script_machine left_run) p) (starting_at (function_machine right_run) q)

    module _ (entry : Name) (is_entry : (program_so_far calls).entry ≡ Some entry) where
      abbrev e : ℕ
      e = Entry.e calls f ssa carries entry is_entry

      -- a block of the entry's name is the entry
      the_entry : (block : ℕ) → block_name calls block ≡ Some entry → e ≡ block
      the_entry block named = carries.whole.program.distinct e block entry (Entry.named calls f ssa carries entry is_entry) named

      left_is : (script_machine left_run).start ≡ script.enter_block left_run (script.blank_state left_run) entry world.arguments
      left_is = ap (script.start_at left_run) is_entry

      right_is : (function_machine right_run).start ≡ function_machine_of.enter_block right_run (function_machine_of.blank_state right_run) e world.arguments
      right_is = ap (function_machine_of.start_at right_run) (Entry.found calls f ssa carries entry is_entry)

      as_many : length world.arguments ≡ length ((program_so_far calls).parameters entry)
      as_many = arguments_count calls entry (types_of signature.params) world is_entry premises.well_typed.entry fits.arguments

      abbrev p0 : ScriptState
      p0 = script.enter_block left_run (script.blank_state left_run) entry world.arguments

      abbrev q0 : FunctionState
      q0 = function_machine_of.enter_block right_run (function_machine_of.blank_state right_run) e world.arguments

      -- from the states of the entry, which both machines start in
      started : SideBySide calls f ssa e entry (starting_at (script_machine left_run) p0) (starting_at (function_machine right_run) q0) → FromStart e entry
      started =
          subst₂ (λ (p : ScriptState) (q : FunctionState). SideBySide calls f ssa e entry (starting_at (script_machine left_run) p) (starting_at (function_machine right_run) q))
          (sym left_is) (sym right_is)

      begun : FromAny e entry
      begun unsealed p q start_alike =
          let opens = Opened.opens-unsealed calls f ssa carries entry is_entry unsealed in
          let starts = Setting.from_any calls f ssa consistent carries entry is_entry premises.given_before
          (Opened.sealed_now calls f ssa carries entry is_entry) (Opened.joins_now calls f ssa carries entry is_entry) opens width world tracked collector alike moves unsealed p q start_alike in
          Setting.side_by_side calls f ssa consistent carries entry is_entry premises.given_before
          (Opened.sealed_now calls f ssa carries entry is_entry) (Opened.joins_now calls f ssa carries entry is_entry) opens width world tracked collector alike moves p q starts.0 starts.1

      entered : (sealed : Bool) → is_yes (sealed_of ssa e) ≡ sealed → FromStart e entry
      entered true is =
          let opens = Opened.opens-sealed calls f ssa carries entry is_entry is in
          let starts = Setting.from_start calls f ssa consistent carries entry is_entry premises.given_before
          carries.whole.tables.sealed carries.whole.tables.joins opens width world tracked collector alike moves as_many is in
          started (Setting.side_by_side calls f ssa consistent carries entry is_entry premises.given_before
          carries.whole.tables.sealed carries.whole.tables.joins opens width world tracked collector alike moves p0 q0 starts.0 starts.1)
      entered false is =
          started (begun is p0 q0 (Setting.starts_alike calls f ssa consistent carries entry is_entry premises.given_before
          (Opened.sealed_now calls f ssa carries entry is_entry) (Opened.joins_now calls f ssa carries entry is_entry)
          (Opened.opens-unsealed calls f ssa carries entry is_entry is) width world tracked collector alike moves as_many))

    pub runs_moving : RunSideBySide calls f ssa left_run right_run
    runs_moving = record {
      from_entry = λ block name named is_entry.
          subst (λ (b : ℕ). FromStart b name) (the_entry name is_entry block named) (entered name is_entry (is_yes (sealed_of ssa (e name is_entry))) refl);
      from_unsealed = λ block name named reached.
          let is_entry = reached_entry calls carries.earlier name reached in
          subst (λ (b : ℕ). FromAny b name) (the_entry name is_entry block named) (begun name is_entry);
    }

-- where both runs move alike
pub runs : (calls : List AnsweredCall) (signature : SignatureShape) (f : Body) (ssa : SsaState) → IsConsistent f → CarriesUnbranched calls f ssa
    → (width : PointerWidth) (world : World) (tracked : Name → Bool) (collector : Collector) → IsWorldOf signature (view_of f) width world
    → PremisesSoFar (may_grow calls) calls signature → MovesAlike calls tracked collector
    → RunSideBySide calls f ssa (script_run_so_far calls f world tracked) (function_run_so_far calls f world collector)
runs calls signature f ssa consistent carries width world tracked collector fits premises moves =
    runs_moving calls signature f ssa consistent carries width world tracked collector fits premises
    (moves_here calls f ssa consistent carries.whole world tracked collector moves)
