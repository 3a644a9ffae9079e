-- What a script's run returns or passes of such a use the function shows as zero.
use Rattle.std.proofs.Common.{◌≡◌, ℕ, suc, List, [], ◌∷◌, Option, Some, None, refl, sym, ◌∙◌, ap, subst, map, slice_get}
use Rattle.std.proofs.lemmas.Option.{none-some, slice_get-map}
use Rattle.std.specs.Prelude.{option_map}
use Rattle.clif_types.specs.declared.extname.ExternalName.TheVariants.{User, TestCase, LibCall}
use Rattle.clif_types.specs.declared.types.«Type».{«Type»}
use Rattle.clif_meaning.specs.Bits.{Bits}
use Rattle.clif_meaning.specs.Event.{Answer, AtAddress, CallShape, Callee, Event, Exception, Named, Results, plain_call}
use Rattle.clif_meaning.specs.Instruction.{Call, CallIndirect, Edge, Operation, Return, TryCall, TryCallIndirect}
use Rattle.clif_meaning.specs.Machine.{Control, Ending, IsEnd, NotYet, Observation, Returned, Stuck, Trapped, observed, state_after}
use Rattle.clif_meaning.specs.Name.{Name}
use Rattle.clif_meaning.specs.Outcome.{Calls, outcome_of}
use Rattle.clif_meaning.specs.Program.{Item, program_of}
use Rattle.clif_meaning.specs.Request.{Script}
use Rattle.clif_meaning.specs.SameMeaning.{Behaviour, SameMeaning}
use Rattle.clif_meaning.specs.ScriptMachine.{ScriptRun, ScriptState, call_outside, carry_out, follow_edge, script_machine, script_shown, step_at, take_answer}
use Rattle.clif_meaning.proofs.Endings.{script_stays}
use Rattle.clif_meaning.proofs.WorkedExamples.{other_ends}
use Rattle.clif_unassigned_laws.specs.Laws.{HasReturnedZero, PassesZero, ReturnsZero, ShowsZero}
use Rattle.clif_unassigned_laws.specs.Unassigned.{PassesName, ReturnsName, passed_names, returned_names}
use Rattle.clif_unassigned_laws.proofs.Staying.{stays_zero}

zero_ends : (index : ℕ) (ending : Ending) → HasReturnedZero index ending → IsEnd ending
zero_ends index NotYet is = absurd is
zero_ends index (Returned results memory) is = tt
zero_ends index (Trapped reason memory) is = absurd is
zero_ends index Stuck is = absurd is

-- a name that holds zero is zero among the bits of operands
zero_operand : (names : Name → Bits) (operands : List Name) (index : ℕ) (name : Name) → slice_get operands index ≡ Some name → names name ≡ 0
    → slice_get (map names operands) index ≡ Some 0
zero_operand names operands index name there zero =
    slice_get-map names operands index ∙ ap (option_map names) there ∙ ap (λ (bits : Bits). Some bits) zero

module _ (run : ScriptRun) (n index : ℕ) (name : Name) where
  abbrev state : ScriptState
  state = state_after (script_machine run) n

  -- what an instruction does, with these operands
  abbrev done : (operation : Operation) (ty : «Type») (operands : List Name) (edges : List (Edge Name Name)) (results : List Name) (rest : List Item) → ScriptState
  done operation ty operands edges results rest =
      carry_out run state edges results rest (outcome_of run.world operation ty (map run.name_type operands) (map state.names operands) state.memory)

  -- RETURNS -----------------------------------------------------------------------------------------------------------------

  returning : state.names name ≡ 0 → (operation : Operation) (ty : «Type») (operands : List Name) (edges : List (Edge Name Name)) (results : List Name) (rest : List Item)
      → slice_get (returned_names operation operands) index ≡ Some name → HasReturnedZero index (script_shown run (done operation ty operands edges results rest)).ending
  returning zero Return ty operands edges results rest named = zero_operand state.names operands index name named zero
  returning zero _ ty operands edges results rest named = absurd (none-some name named)

  returned : state.names name ≡ 0 → ReturnsName (script_machine run) n index name → HasReturnedZero index (observed (script_machine run) (suc n)).ending
  returned zero returns =
      subst (λ (control : Control Item). HasReturnedZero index (script_shown run (step_at run state control)).ending) (sym returns.comes.1)
      (returning zero returns.instruction.operation returns.instruction.controlling returns.instruction.operands returns.instruction.edges returns.results
      returns.comes.0 returns.named)

  -- OUTSIDE CALLS -----------------------------------------------------------------------------------------------------------

  along : (left : ScriptState) (given : List Bits) (edge : Option (Edge Name Name)) → (follow_edge run left given edge).events ≡ left.events
  along left given None = refl
  along left given (Some edge) = refl

  answered : (left : ScriptState) (edges : List (Edge Name Name)) (results : List Name) (rest : List Item) (answer : Answer)
      → (take_answer run left edges results rest answer).events ≡ left.events
  answered left [] results rest (Results values) = refl
  answered left [] results rest (Exception edge payload) = refl
  answered left (normal ∷ edges) results rest (Results values) = refl
  answered left (normal ∷ edges) results rest (Exception edge payload) = along left payload (slice_get edges edge)

  abbrev HasPassed : List Event → Type 0
  HasPassed events = (event : Event) × (events ≡ event ∷ state.events) × (slice_get event.arguments index ≡ Some 0)

  called : (edges : List (Edge Name Name)) (results : List Name) (rest : List Item) (callee : Callee) (call : CallShape) (values : List Bits)
      → slice_get values index ≡ Some 0 → HasPassed (carry_out run state edges results rest (Calls callee call values)).events
  called edges results rest callee call values zero =
      let left : ScriptState = call_outside run state callee call values in
      (_, answered left edges results rest (run.world.answer left.events call), zero)

  passing : state.names name ≡ 0 → (operation : Operation) (ty : «Type») (operands : List Name) (edges : List (Edge Name Name)) (results : List Name) (rest : List Item)
      → slice_get (passed_names operation operands) index ≡ Some name → HasPassed (done operation ty operands edges results rest).events
  passing zero (Call (User user) signature) ty operands edges results rest named =
      called edges results rest (Named (User user)) (plain_call signature) (map state.names operands) (zero_operand state.names operands index name named zero)
  passing zero (Call (TestCase test) signature) ty operands edges results rest named =
      called edges results rest (Named (TestCase test)) (plain_call signature) (map state.names operands) (zero_operand state.names operands index name named zero)
  passing zero (Call (LibCall callee) signature) ty operands edges results rest named = absurd (none-some name named)
  passing zero (CallIndirect signature) ty [] edges results rest named = absurd (none-some name named)
  passing zero (CallIndirect signature) ty (address ∷ operands) edges results rest named =
      called edges results rest (AtAddress (state.names address) signature) (plain_call signature) (map state.names operands)
      (zero_operand state.names operands index name named zero)
  passing zero (TryCall (User user) call) ty operands edges results rest named =
      called edges results rest (Named (User user)) call (map state.names operands) (zero_operand state.names operands index name named zero)
  passing zero (TryCall (TestCase test) call) ty operands edges results rest named =
      called edges results rest (Named (TestCase test)) call (map state.names operands) (zero_operand state.names operands index name named zero)
  passing zero (TryCall (LibCall callee) call) ty operands edges results rest named = absurd (none-some name named)
  passing zero (TryCallIndirect call) ty [] edges results rest named = absurd (none-some name named)
  passing zero (TryCallIndirect call) ty (address ∷ operands) edges results rest named =
      called edges results rest (AtAddress (state.names address) call.signature) call (map state.names operands)
      (zero_operand state.names operands index name named zero)
  passing zero _ ty operands edges results rest named = absurd (none-some name named)

  passed : state.names name ≡ 0 → PassesName (script_machine run) n index name → HasPassed (state_after (script_machine run) (suc n)).events
  passed zero passes =
      subst (λ (control : Control Item). HasPassed (step_at run state control).events) (sym passes.comes.1)
      (passing zero passes.instruction.operation passes.instruction.controlling passes.instruction.operands passes.instruction.edges passes.results
      passes.comes.0 passes.named)

-- THE FUNCTION ------------------------------------------------------------------------------------------------------------

module _ (run : ScriptRun) (right : Behaviour) (same : SameMeaning (observed (script_machine run)) right) where
  returns_zero : (n index : ℕ) → HasReturnedZero index (observed (script_machine run) n).ending → ReturnsZero right index
  returns_zero n index is = record {
    returns = (there.0, subst (λ (seen : Observation). HasReturnedZero index seen.ending) there.1 is);
    no_other_end = λ m ends.
        subst (λ (seen : Observation). HasReturnedZero index seen.ending)
        (other_ends (observed (script_machine run)) right (script_stays run) n m (zero_ends index _ is) ends same) is;
  }
    where
      there : (m : ℕ) × (observed (script_machine run) n ≡ right m)
      there = same.there n

  passes_zero : (n index : ℕ) (event : Event) → (state_after (script_machine run) (suc n)).events ≡ event ∷ (state_after (script_machine run) n).events
      → slice_get event.arguments index ≡ Some 0 → PassesZero (script_machine run) right n index
  passes_zero n index event is zero =
      let there = same.there (suc n) in
      record { event = event; called = is; zero = zero; moment = there.0; shown = ap (λ (seen : Observation). seen.events) (sym there.1) }

  pub shows_zero : (script : Script) → run.program ≡ program_of script → ShowsZero (script_machine run) right
  shows_zero script is_program = record {
    returned = λ n index variable name was returns.
        returns_zero (suc n) index (returned run n index name (stays_zero script run is_program n variable name was) returns);
    passed = λ n index variable name was passes.
        let shown = passed run n index name (stays_zero script run is_program n variable name was) passes in
        passes_zero n index shown.0 shown.1 shown.2;
  }
