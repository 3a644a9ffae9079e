-- What each item of a program is, each item is that a run of it comes to.
use Rattle.std.proofs.Common.{ℕ, zero, suc, List, [], ◌∷◌, refl, sym, map, slice_get, subst, ◌≡◌}
use Rattle.std.specs.Prelude.{Option, Some, None}
use Rattle.std.specs.List.{AllByRecursion}
use Rattle.clif_types.specs.declared.types.«Type».{«Type»}
use Rattle.clif_meaning.specs.Access.{touched_ranges, claims_of}
use Rattle.clif_meaning.specs.Bits.{Bits}
use Rattle.clif_meaning.specs.Event.{Answer, Results, Exception}
use Rattle.clif_meaning.specs.Instruction.{Edge, Operation, Load, Store, Bytes, Stack, StackStore, Call, TryCall}
use Rattle.clif_meaning.specs.Machine.{Control, At, HasReturned, HasTrapped, IsStuck, state_after}
use Rattle.clif_meaning.specs.Name.{Name}
use Rattle.clif_meaning.specs.Outcome.{Outcome, Gives, Goes, Returns, Traps, Calls, NoStep, outcome_of}
use Rattle.clif_meaning.specs.Premises.{EachItem, InEachStep, OfNextItem, SparesSpillSlots, ClaimsAreTrue}
use Rattle.clif_meaning.specs.Program.{Item, Instruct, Use, Assign}
use Rattle.clif_meaning.specs.ScriptMachine.{ScriptRun, ScriptState, call_outside, carry_out, follow_edge, script_machine, start_at, step_at, take_answer}
use Rattle.clif_meaning.specs.World.{World}

-- it holds of each item that is left
abbrev pub OfItemsLeft : (Item → Type 0) → Control Item → Type 0
OfItemsLeft Q (At items) = AllByRecursion Q items
OfItemsLeft Q _ = Unit {0}

module _ (Q : Item → Type 0) (run : ScriptRun) (each : EachItem Q run.program) where
  along : (state : ScriptState) (given : List Bits) (edge : Option (Edge Name Name)) → OfItemsLeft Q (follow_edge run state given edge).control
  along state given None = tt
  along state given (Some edge) = each edge.target

  answered : (state : ScriptState) (edges : List (Edge Name Name)) (results : List Name) (rest : List Item) (answer : Answer) → AllByRecursion Q rest
      → OfItemsLeft Q (take_answer run state edges results rest answer).control
  answered state [] results rest (Results values) left = left
  answered state [] results rest (Exception edge payload) left = tt
  answered state (normal ∷ edges) results rest (Results values) left = each normal.target
  answered state (normal ∷ edges) results rest (Exception edge payload) left = along state payload (slice_get edges edge)

  carried : (state : ScriptState) (edges : List (Edge Name Name)) (results : List Name) (rest : List Item) (outcome : Outcome) → AllByRecursion Q rest
      → OfItemsLeft Q (carry_out run state edges results rest outcome).control
  carried state edges results rest (Gives values memory) left = left
  carried state edges results rest (Goes edge given memory) left = along (record state { memory = memory }) given (slice_get edges edge)
  carried state edges results rest (Returns values) left = tt
  carried state edges results rest (Traps reason) left = tt
  carried state edges results rest (Calls callee call arguments) left =
      answered (call_outside run state callee call arguments) edges results rest (run.world.answer (call_outside run state callee call arguments).events call) left
  carried state edges results rest NoStep left = tt

  stepped : (state : ScriptState) (control : Control Item) → OfItemsLeft Q control → state.control ≡ control → OfItemsLeft Q (step_at run state control).control
  stepped state (At []) left is = tt
  stepped state (At (Instruct place instruction results ∷ rest)) left is = carried state instruction.edges results rest
      (outcome_of run.world instruction.operation instruction.controlling (map run.name_type instruction.operands) (map state.names instruction.operands) state.memory) left.1
  stepped state (At (Use variable name ∷ rest)) left is = left.1
  stepped state (At (Assign variable name ∷ rest)) left is = left.1
  stepped state (HasReturned results) left is = subst (OfItemsLeft Q) (sym is) tt
  stepped state (HasTrapped reason) left is = subst (OfItemsLeft Q) (sym is) tt
  stepped state IsStuck left is = subst (OfItemsLeft Q) (sym is) tt

  started : (entry : Option Name) → OfItemsLeft Q (start_at run entry).control
  started None = tt
  started (Some entry) = each entry

  left_after : (n : ℕ) → OfItemsLeft Q (state_after (script_machine run) n).control
  left_after zero = started run.program.entry
  left_after (suc n) = stepped (state_after (script_machine run) n) (state_after (script_machine run) n).control (left_after n) refl

  next_of : (P : Item → Type 0) → ((item : Item) → Q item → P item) → (control : Control Item) → OfItemsLeft Q control → OfNextItem P control
  next_of P holds (At []) left = tt
  next_of P holds (At (item ∷ rest)) left = holds item left.0
  next_of P holds (HasReturned results) left = tt
  next_of P holds (HasTrapped reason) left = tt
  next_of P holds IsStuck left = tt

  pub each_step : (P : ScriptState → Item → Type 0) → ((state : ScriptState) (item : Item) → Q item → P state item) → InEachStep P run
  each_step P holds n = next_of _ (holds (state_after (script_machine run) n)) (state_after (script_machine run) n).control (left_after n)

-- MEMORY ------------------------------------------------------------------------------------------------------------------

-- an operation, and an item, that leaves memory alone: it accesses none, and calls nothing by its name, which may be a
-- function of the C library
abbrev pub IsQuiet : Operation → Type 0
IsQuiet (Load flags offset) = ⊥
IsQuiet (Store flags offset) = ⊥
IsQuiet (Stack opcode slot offset) = ⊥
IsQuiet (StackStore slot offset) = ⊥
IsQuiet (Bytes operation) = ⊥
IsQuiet (Call name signature) = ⊥
IsQuiet (TryCall name call) = ⊥
IsQuiet _ = Unit {0}

abbrev pub IsQuietItem : Item → Type 0
IsQuietItem (Instruct place instruction results) = IsQuiet instruction.operation
IsQuietItem (Use variable name) = Unit {0}
IsQuietItem (Assign variable name) = Unit {0}

none_touched : (world : World) (operation : Operation) (ty : «Type») (types : List «Type») (bits : List ℕ) → IsQuiet operation → touched_ranges world operation ty types bits ≡ []
none_touched world (Load flags offset) ty types bits quiet = absurd quiet
none_touched world (Store flags offset) ty types bits quiet = absurd quiet
none_touched world (Stack opcode slot offset) ty types bits quiet = absurd quiet
none_touched world (StackStore slot offset) ty types bits quiet = absurd quiet
none_touched world (Bytes operation) ty types bits quiet = absurd quiet
none_touched world (Call name signature) ty types bits quiet = absurd quiet
none_touched world (TryCall name call) ty types bits quiet = absurd quiet
none_touched world _ ty types bits quiet = refl

none_claimed : (world : World) (operation : Operation) (ty : «Type») (types : List «Type») (bits : List ℕ) → IsQuiet operation → claims_of world operation ty types bits ≡ []
none_claimed world (Load flags offset) ty types bits quiet = absurd quiet
none_claimed world (Store flags offset) ty types bits quiet = absurd quiet
none_claimed world (Bytes operation) ty types bits quiet = absurd quiet
none_claimed world (Call name signature) ty types bits quiet = absurd quiet
none_claimed world (TryCall name call) ty types bits quiet = absurd quiet
none_claimed world _ ty types bits quiet = refl

-- it holds of each element of no list
of_none : {X : Type 0} (P : X → Type 0) (xs : List X) → xs ≡ [] → AllByRecursion P xs
of_none {X} P xs none = subst (λ (ys : List X). AllByRecursion P ys) (sym none) tt

module _ (run : ScriptRun) (quiet : EachItem IsQuietItem run.program) where
  pub spares : InEachStep (SparesSpillSlots run) run
  spares = each_step IsQuietItem run quiet _ by
    where
      by : (state : ScriptState) (item : Item) → IsQuietItem item → SparesSpillSlots run state item
      by state (Instruct place instruction results) still = of_none _ _ (none_touched run.world instruction.operation _ _ _ still)
      by state (Use variable name) still = tt
      by state (Assign variable name) still = tt

  pub claims : InEachStep (ClaimsAreTrue run) run
  claims = each_step IsQuietItem run quiet _ by
    where
      by : (state : ScriptState) (item : Item) → IsQuietItem item → ClaimsAreTrue run state item
      by state (Instruct place instruction results) still = of_none _ _ (none_claimed run.world instruction.operation _ _ _ still)
      by state (Use variable name) still = tt
      by state (Assign variable name) still = tt
