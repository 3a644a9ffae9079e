-- A name that a use answers holds the zero that it got until a use gives it anew.
use Rattle.std.proofs.Common.{◌≡◌, ◌≢◌, ◌⊎◌, inl, inr, ◌<◌, ℕ, zero, suc, Bool, true, false, List, [], ◌∷◌, Option, Some, None, refl, sym, ◌∙◌, subst, arith, map, slice_get}
use Rattle.std.specs.Prelude.{if◌then◌else◌}
use Rattle.std.specs.List.{AllByRecursion}
use Rattle.clif_meaning.specs.Bits.{Bits}
use Rattle.clif_meaning.specs.Event.{Answer, Exception, Results}
use Rattle.clif_meaning.specs.Instruction.{Edge}
use Rattle.clif_meaning.specs.Machine.{At, Control, HasReturned, HasTrapped, IsStuck, state_after}
use Rattle.clif_meaning.specs.Name.{Name, same_name}
use Rattle.clif_meaning.specs.Outcome.{Calls, Gives, Goes, NoStep, Outcome, Returns, Traps, outcome_of}
use Rattle.clif_meaning.specs.Premises.{EachItem, OfNextItem}
use Rattle.clif_meaning.specs.Program.{Assign, Instruct, Item, Program, Use, program_of}
use Rattle.clif_meaning.specs.Request.{Script, UseVar}
use Rattle.clif_meaning.specs.ScriptMachine.{ScriptRun, ScriptState, call_outside, carry_out, follow_edge, script_machine, step_at, take_answer}
use Rattle.clif_meaning.specs.Store.{argument_bits, assigned}
use Rattle.clif_meaning.proofs.EachStep.{each_step}
use Rattle.clif_unassigned_laws.specs.Unassigned.{AnswersNot, HoldsUnassigned}
use Rattle.clif_unassigned_laws.proofs.Answers.{AllAnswerRight, AnswersRight, IsNoAnswer, IsNoUse, all_answer_right}
use Rattle.clif_unassigned_laws.proofs.Machines.{moved_zero, reads_zero}
use Rattle.clif_unassigned_laws.proofs.Names.{names_equal}

module _ (script : Script) (run : ScriptRun) (is_program : run.program ≡ program_of script) (v : ℕ) (name : Name) (there : slice_get script name.place ≡ Some (UseVar v)) where
  right : AllAnswerRight script run.program
  right = subst (AllAnswerRight script) (sym is_program) (all_answer_right script)

  -- a name that answers no use is another one
  other : (x : Name) → IsNoAnswer script x → name ≢ x
  other x is same =
      let none : IsNoUse (slice_get script name.place) = subst (λ (y : Name). IsNoAnswer script y) (sym same) is in
      subst IsNoUse there none

  -- such names get bits, and this one keeps its
  others : (names : List Name) (values : List Bits) (old : Name → Bits) → AllByRecursion (IsNoAnswer script) names → assigned same_name names values old name ≡ old name
  others [] values old are = refl
  others (x ∷ names) [] old are = refl
  others (x ∷ names) (bits ∷ values) old are = by (same_name name x) refl (others names values old are.1)
    where
      by : (c : Bool) → same_name name x ≡ c → assigned same_name names values old name ≡ old name
          → (if c then bits else assigned same_name names values old name) ≡ old name
      by true same rest = absurd (other x are.0 (names_equal name x same))
      by false differ rest = rest

  along : (state : ScriptState) (given : List Bits) (edge : Option (Edge Name Name)) → state.names name ≡ 0 → (follow_edge run state given edge).names name ≡ 0
  along state given None is = is
  along state given (Some edge) is =
      others (run.program.parameters edge.target) (map (argument_bits state.names given) edge.arguments) state.names (right.parameters edge.target) ∙ is

  answered : (state : ScriptState) (edges : List (Edge Name Name)) (results : List Name) (rest : List Item) (answer : Answer) → AllByRecursion (IsNoAnswer script) results
      → state.names name ≡ 0 → (take_answer run state edges results rest answer).names name ≡ 0
  answered state [] results rest (Results values) are is = others results values state.names are ∙ is
  answered state [] results rest (Exception edge payload) are is = is
  answered state (normal ∷ edges) results rest (Results values) are is = along state values (Some normal) is
  answered state (normal ∷ edges) results rest (Exception edge payload) are is = along state payload (slice_get edges edge) is

  carried : (state : ScriptState) (edges : List (Edge Name Name)) (results : List Name) (rest : List Item) (outcome : Outcome) → AllByRecursion (IsNoAnswer script) results
      → state.names name ≡ 0 → (carry_out run state edges results rest outcome).names name ≡ 0
  carried state edges results rest (Gives values memory) are is = others results values state.names are ∙ is
  carried state edges results rest (Goes edge given memory) are is = along (record state { memory = memory }) given (slice_get edges edge) is
  carried state edges results rest (Returns values) are is = is
  carried state edges results rest (Traps reason) are is = is
  carried state edges results rest (Calls callee call values) are is =
      answered (call_outside run state callee call values) edges results rest (run.world.answer (call_outside run state callee call values).events call) are
      (moved_zero run (run.is_tracked name) state callee call values (run.name_type name) (state.names name) is)
  carried state edges results rest NoStep are is = is

  stepped : (state : ScriptState) (control : Control Item) → OfNextItem (AnswersRight script) control → OfNextItem (AnswersNot name) control → state.names name ≡ 0
      → (step_at run state control).names name ≡ 0
  stepped state (At []) answers next is = is
  stepped state (At (Instruct place instruction results ∷ rest)) answers next is = carried state instruction.edges results rest
      (outcome_of run.world instruction.operation instruction.controlling (map run.name_type instruction.operands) (map state.names instruction.operands) state.memory) answers is
  stepped state (At (Use variable x ∷ rest)) answers next is = by (same_name name x) refl
    where
      by : (c : Bool) → same_name name x ≡ c → (if c then state.variables variable else state.names name) ≡ 0
      by true same = absurd (next (names_equal name x same))
      by false differ = is
  stepped state (At (Assign variable x ∷ rest)) answers next is = is
  stepped state (HasReturned results) answers next is = is
  stepped state (HasTrapped reason) answers next is = is
  stepped state IsStuck answers next is = is

  answers_at : (n : ℕ) → OfNextItem (AnswersRight script) (state_after (script_machine run) n).control
  answers_at = each_step (AnswersRight script) run right.items (λ state. AnswersRight script) (λ state item is. is)

  -- from the use on
  pub stays : (at : ℕ) → (state_after (script_machine run) (suc at)).names name ≡ 0 → (n : ℕ) → at < n
      → ((k : ℕ) → at < k → k < n → OfNextItem (AnswersNot name) (state_after (script_machine run) k).control)
      → (state_after (script_machine run) n).names name ≡ 0
  stays at first zero earlier last = absurd (omega (arith, earlier))
  stays at first (suc n) earlier last =
      by (split at n earlier) (λ before. stays at first n before (λ k after below. last k after (omega (arith, below))))
    where
      split : (a n : ℕ) → a < suc n → (a ≡ n) ⊎ (a < n)
      split a n h = grind arith

      by : (at ≡ n) ⊎ (at < n) → (at < n → (state_after (script_machine run) n).names name ≡ 0) → (state_after (script_machine run) (suc n)).names name ≡ 0
      by (inl same) so_far = subst (λ (k : ℕ). (state_after (script_machine run) (suc k)).names name ≡ 0) same first
      by (inr before) so_far =
          stepped (state_after (script_machine run) n) (state_after (script_machine run) n).control (answers_at n) (last n before (omega arith)) (so_far before)

-- the name of a use that the run comes to answers that use
used : (script : Script) (run : ScriptRun) → run.program ≡ program_of script → (n v : ℕ) (name : Name) (rest : List Item)
    → (state_after (script_machine run) n).control ≡ At (Use v name ∷ rest) → slice_get script name.place ≡ Some (UseVar v)
used script run is_program n v name rest comes =
    subst (OfNextItem (AnswersRight script)) comes
    (each_step (AnswersRight script) run (λ block. subst (λ (program : Program). EachItem (AnswersRight script) program) (sym is_program) (all_answer_right script).items block)
    (λ state. AnswersRight script) (λ state item is. is) n)

pub stays_zero : (script : Script) (run : ScriptRun) → run.program ≡ program_of script → (n v : ℕ) (name : Name) → HoldsUnassigned (script_machine run) n v name
    → (state_after (script_machine run) n).names name ≡ 0
stays_zero script run is_program n v name was =
    stays script run is_program v name (used script run is_program was.moment v name was.uses.comes.0 was.uses.comes.1) was.moment
    ((reads_zero run).read was.moment v name was.uses) n was.earlier was.last
