-- What holds of each instruction of a function holds of those that a run comes to.
use Rattle.std.proofs.Common.{◌≡◌, ℕ, zero, suc, List, [], ◌∷◌, refl, sym, subst, Option, Some, None}
use Rattle.std.specs.Prelude.{slice_get}
use Rattle.std.specs.List.{AllByRecursion}
use Rattle.clif_meaning.specs.Bits.{Bits}
use Rattle.clif_meaning.specs.Event.{Answer, Exception, Results}
use Rattle.clif_meaning.specs.FunctionMachine.{FunctionRun, FunctionState, call_outside, carry_out, follow_edge, function_machine, start_at, step_at, take_answer}
use Rattle.clif_meaning.specs.FunctionView.{Placed}
use Rattle.clif_meaning.specs.Instruction.{Edge}
use Rattle.clif_meaning.specs.Machine.{Control, At, HasReturned, HasTrapped, IsStuck, state_after}
use Rattle.clif_meaning.specs.Outcome.{Outcome, Gives, Goes, Returns, Traps, Calls, NoStep}
use Rattle.clif_typed_runs.specs.Laws.{OfNextPlaced}

module _ (run : FunctionRun) (P : Placed → Type 0) (each : (block : ℕ) → AllByRecursion P (run.function.blocks block).items) where
  -- it holds of each instruction that is left in the block
  abbrev pub AreLeft : Control Placed → Type 0
  AreLeft (At rest) = AllByRecursion P rest
  AreLeft (HasReturned results) = Unit {0}
  AreLeft (HasTrapped reason) = Unit {0}
  AreLeft IsStuck = Unit {0}

  along : (state : FunctionState) (given : List Bits) (edge : Option (Edge ℕ ℕ)) → AreLeft (follow_edge run state given edge).control
  along state given None = tt
  along state given (Some edge) = each edge.target

  answered : (state : FunctionState) (edges : List (Edge ℕ ℕ)) (results : List ℕ) (rest : List Placed) (answer : Answer) → AllByRecursion P rest
      → AreLeft (take_answer run state edges results rest answer).control
  answered state [] results rest (Results values) left = left
  answered state [] results rest (Exception edge payload) left = tt
  answered state (normal ∷ edges) results rest (Results values) left = each normal.target
  answered state (normal ∷ edges) results rest (Exception edge payload) left = along state payload (slice_get edges edge)

  carried : (state : FunctionState) (placed : Placed) (rest : List Placed) (outcome : Outcome) → AllByRecursion P rest
      → AreLeft (carry_out run state placed rest outcome).control
  carried state placed rest (Gives values memory) left = left
  carried state placed rest (Goes edge given memory) left = along (record state { memory = memory }) given (slice_get placed.instruction.edges edge)
  carried state placed rest (Returns values) left = tt
  carried state placed rest (Traps reason) left = tt
  carried state placed rest (Calls callee call arguments) left =
      let after : FunctionState = call_outside run state placed.stack_map callee call arguments in
      answered after placed.instruction.edges placed.results rest (run.world.answer after.events call) left
  carried state placed rest NoStep left = tt

  stepped : (state : FunctionState) (control : Control Placed) → state.control ≡ control → AreLeft control → AreLeft (step_at run state control).control
  stepped state (At []) is left = tt
  stepped state (At (placed ∷ rest)) is left = carried state placed rest _ left.1
  stepped state (HasReturned results) is left = subst AreLeft (sym is) tt
  stepped state (HasTrapped reason) is left = subst AreLeft (sym is) tt
  stepped state IsStuck is left = subst AreLeft (sym is) tt

  started : (entry : Option ℕ) → AreLeft (start_at run entry).control
  started None = tt
  started (Some entry) = each entry

  pub all_left : (n : ℕ) → AreLeft (state_after (function_machine run) n).control
  all_left zero = started run.function.entry
  all_left (suc n) =
      let state : FunctionState = state_after (function_machine run) n in
      stepped state state.control refl (all_left n)

  left_next : (control : Control Placed) → AreLeft control → OfNextPlaced P control
  left_next (At []) left = tt
  left_next (At (placed ∷ rest)) left = left.0
  left_next (HasReturned results) left = tt
  left_next (HasTrapped reason) left = tt
  left_next IsStuck left = tt

  -- the next instruction, after each number of steps
  pub next_is : (n : ℕ) → OfNextPlaced P (state_after (function_machine run) n).control
  next_is n = left_next (state_after (function_machine run) n).control (all_left n)

-- what follows from what is said of the next instruction
pub next_follows : (P Q : Placed → Type 0) (control : Control Placed) → ((placed : Placed) → P placed → Q placed) → OfNextPlaced P control → OfNextPlaced Q control
next_follows P Q (At []) follows is = tt
next_follows P Q (At (placed ∷ rest)) follows is = follows placed is
next_follows P Q (HasReturned results) follows is = tt
next_follows P Q (HasTrapped reason) follows is = tt
next_follows P Q IsStuck follows is = tt

pub next_both : (P Q : Placed → Type 0) (control : Control Placed) → OfNextPlaced P control → OfNextPlaced Q control
    → OfNextPlaced (λ placed. P placed × Q placed) control
next_both P Q (At []) first second = tt
next_both P Q (At (placed ∷ rest)) first second = (first, second)
next_both P Q (HasReturned results) first second = tt
next_both P Q (HasTrapped reason) first second = tt
next_both P Q IsStuck first second = tt
