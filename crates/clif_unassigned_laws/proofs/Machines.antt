-- A variable holds zero until a step assigns it.
use Rattle.std.proofs.Common.{◌≡◌, ℕ, zero, suc, Bool, true, false, List, [], ◌∷◌, Option, Some, None, refl, ◌∙◌, ap, arith, map, slice_get}
use Rattle.std.specs.Prelude.{if◌then◌else◌, ◌==◌}
use Rattle.std.proofs.lemmas.Bool.{eqb-true}
use Rattle.clif_types.specs.declared.types.«Type».{«Type»}
use Rattle.clif_meaning.specs.Bits.{Bits}
use Rattle.clif_meaning.specs.Event.{Answer, CallShape, Callee, Exception, Results}
use Rattle.clif_meaning.specs.Instruction.{Edge}
use Rattle.clif_meaning.specs.Machine.{At, Control, HasReturned, HasTrapped, IsStuck, state_after}
use Rattle.clif_meaning.specs.Name.{Name}
use Rattle.clif_meaning.specs.Outcome.{Calls, Gives, Goes, NoStep, Outcome, Returns, Traps, outcome_of}
use Rattle.clif_meaning.specs.Premises.{OfNextItem}
use Rattle.clif_meaning.specs.Program.{Assign, Instruct, Item, Use}
use Rattle.clif_meaning.specs.ScriptMachine.{ScriptRun, ScriptState, call_outside, carry_out, follow_edge, script_machine, start_at, step_at, take_answer}
use Rattle.clif_unassigned_laws.specs.Laws.{ReadsZero}
use Rattle.clif_unassigned_laws.specs.Unassigned.{AssignsNot, IsUnassigned}
use Rattle.clif_unassigned_laws.proofs.Names.{same_itself}

module _ (run : ScriptRun) where
  -- a moved zero is zero
  pub moved_zero : (moves : Bool) (state : ScriptState) (callee : Callee) (call : CallShape) (values : List Bits) (ty : «Type») (bits : Bits) → bits ≡ 0
      → (if moves then run.world.moved (call_outside run state callee call values).events call ty bits else bits) ≡ 0
  moved_zero true state callee call values ty bits is =
      ap (run.world.moved (call_outside run state callee call values).events call ty) is ∙ run.world.moved_zero (call_outside run state callee call values).events call ty
  moved_zero false state callee call values ty bits is = is

  module _ (v : ℕ) where
    along : (state : ScriptState) (given : List Bits) (edge : Option (Edge Name Name)) → state.variables v ≡ 0 → (follow_edge run state given edge).variables v ≡ 0
    along state given None is = is
    along state given (Some edge) is = is

    answered : (state : ScriptState) (edges : List (Edge Name Name)) (results : List Name) (rest : List Item) (answer : Answer) → state.variables v ≡ 0
        → (take_answer run state edges results rest answer).variables v ≡ 0
    answered state [] results rest (Results values) is = is
    answered state [] results rest (Exception edge payload) is = is
    answered state (normal ∷ edges) results rest (Results values) is = is
    answered state (normal ∷ edges) results rest (Exception edge payload) is = along state payload (slice_get edges edge) is

    carried : (state : ScriptState) (edges : List (Edge Name Name)) (results : List Name) (rest : List Item) (outcome : Outcome) → state.variables v ≡ 0
        → (carry_out run state edges results rest outcome).variables v ≡ 0
    carried state edges results rest (Gives values memory) is = is
    carried state edges results rest (Goes edge given memory) is = along (record state { memory = memory }) given (slice_get edges edge) is
    carried state edges results rest (Returns values) is = is
    carried state edges results rest (Traps reason) is = is
    carried state edges results rest (Calls callee call values) is =
        answered (call_outside run state callee call values) edges results rest (run.world.answer (call_outside run state callee call values).events call)
        (moved_zero (run.is_marked v) state callee call values (run.variable_type v) (state.variables v) is)
    carried state edges results rest NoStep is = is

    stepped : (state : ScriptState) (control : Control Item) → OfNextItem (AssignsNot v) control → state.variables v ≡ 0 → (step_at run state control).variables v ≡ 0
    stepped state (At []) next is = is
    stepped state (At (Instruct place instruction results ∷ rest)) next is = carried state instruction.edges results rest
        (outcome_of run.world instruction.operation instruction.controlling (map run.name_type instruction.operands) (map state.names instruction.operands) state.memory) is
    stepped state (At (Use variable name ∷ rest)) next is = is
    stepped state (At (Assign variable name ∷ rest)) next is = by (v == variable) refl
      where
        by : (c : Bool) → (v == variable) ≡ c → (if c then state.names name else state.variables v) ≡ 0
        by true same = absurd (next (eqb-true v variable same))
        by false differ = is
    stepped state (HasReturned results) next is = is
    stepped state (HasTrapped reason) next is = is
    stepped state IsStuck next is = is

    started : (entry : Option Name) → (start_at run entry).variables v ≡ 0
    started None = refl
    started (Some entry) = refl

    pub held : (n : ℕ) → IsUnassigned (script_machine run) n v → (state_after (script_machine run) n).variables v ≡ 0
    held zero unassigned = started run.program.entry
    held (suc n) unassigned =
        stepped (state_after (script_machine run) n) (state_after (script_machine run) n).control (unassigned n (omega arith))
        (held n (λ k below. unassigned k (omega (arith, below))))

  read : (state : ScriptState) (v : ℕ) (name : Name) (rest : List Item) (control : Control Item) → control ≡ At (Use v name ∷ rest) → state.variables v ≡ 0
      → (step_at run state control).names name ≡ 0
  read state v name rest control is holds =
      ap (λ (next : Control Item). (step_at run state next).names name) is
      ∙ ap (λ (test : Bool). if test then state.variables v else state.names name) (same_itself name) ∙ holds

  pub reads_zero : ReadsZero (script_machine run)
  reads_zero = record {
    held = λ n variable unassigned. held variable n unassigned;
    read = λ n variable name uses.
        read (state_after (script_machine run) n) variable name uses.comes.0 (state_after (script_machine run) n).control uses.comes.1
        (held variable n uses.unassigned);
  }
