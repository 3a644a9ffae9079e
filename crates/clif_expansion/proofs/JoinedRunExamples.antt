-- The worked examples of performed emissions and of sound runs.
use Rattle.std.proofs.Common.{◌≡◌, ℕ, zero, suc, Bool, true, false, List, [], ◌∷◌, refl, sym, ◌∙◌, ap, subst, arith}
use Rattle.std.specs.Prelude.{pos, negsuc, fold, if◌then◌else◌}
use Rattle.std.specs.List.{AllZip}
use Rattle.clif_opcodes.specs.declared.opcodes.BinaryOpcode.TheVariants.{Iadd}
use Rattle.clif_types.specs.declared.types.«Type».{«Type»}
use Rattle.clif_meaning.specs.Bits.{Bits}
use Rattle.clif_meaning.specs.Examples.{i32}
use Rattle.clif_meaning.specs.Instruction.{Binary, Compute, Iconst}
use Rattle.clif_meaning.specs.Ledger.{ledger_after, ledger_with, or_invalid, type_of}
use Rattle.clif_meaning.specs.Machine.{Control, HasReturned, IsStuck, state_after}
use Rattle.clif_meaning.specs.Name.{Name, answer_of, same_name}
use Rattle.clif_meaning.specs.Outcome.{outcome_of}
use Rattle.clif_meaning.specs.Premises.{ClaimsAreTrue, InEachStep, OfNextItem}
use Rattle.clif_meaning.specs.Program.{Item}
use Rattle.clif_meaning.specs.Request.{Script}
use Rattle.clif_meaning.specs.ScriptMachine.{ScriptRun, ScriptState, script_machine, step_at}
use Rattle.clif_meaning.specs.Store.{assigned}
use Rattle.clif_meaning.specs.World.{World}
use Rattle.clif_expansion.specs.Code.{NameTypes, PerformsIn}
use Rattle.clif_expansion.specs.Constants.{computing}
use Rattle.clif_expansion.specs.Emission.{AreGiven, building, reading_emitted}
use Rattle.clif_expansion.specs.Examples.{negating, run_of}
use Rattle.clif_expansion.specs.JoinedPrograms.{built_items}
use Rattle.clif_expansion.specs.JoinedRunExamples.{JoinedRunExamples, narrow_run}
use Rattle.clif_expansion.specs.CallsRun.{calls_run}
use Rattle.clif_expansion.specs.Laws.{IsSoundRun, TakesTyped, TakesValues}
use Rattle.clif_expansion.specs.Line.{Contents, RunsTo}
use Rattle.clif_expansion.specs.PerformedCalls.{IsPerformed}
use Rattle.clif_expansion.specs.Reading.{IsReadAs, Reading}
use Rattle.clif_expansion.specs.ScriptCall.{Emit, ledger_of, ledger_with_call}
use Rattle.clif_expansion.specs.ScriptCallExamples.{begun_calls, begun_script, seven_more, sum, summing_calls}
use Rattle.clif_expansion.proofs.Names.{not_generated}
use Rattle.clif_expansion.proofs.Negation.{same_values}
use Rattle.clif_expansion.proofs.PerformedConstants.{constant_calls_are_performed}
use Rattle.clif_expansion.proofs.ScriptCalls

-- A NEGATED CONSTANT ------------------------------------------------------------------------------------------------------

-- the names of the constant and of the sum
abbrev constant : Name
constant = answer_of 3 1

abbrev result : Name
result = answer_of 4 1

abbrev negated_code : List Item
negated_code = built_items 3 (computing (Iconst (negsuc 6)) i32 [] ∷ sum ∷ [])

-- what the sum is of zero
there : (world : World) (types : Name → «Type») (after : Contents) → RunsTo world types [] negated_code (record { names = λ x. 0; memory = world.memory }) after
    → after.names result ≡ 4294967289
there world types after (first, memory, gives, (second, later, more, is)) =
    ap (λ (contents : Contents). contents.names result) is
    ∙ ap (λ (values : List Bits). assigned same_name (result ∷ []) values (assigned same_name (constant ∷ []) first (λ x. 0)) result) (sym seconds)
  where
    firsts : 4294967289 ∷ [] ≡ first
    firsts = same_values (4294967289 ∷ []) first world.memory memory gives.gives

    seconds : 4294967289 ∷ [] ≡ second
    seconds = same_values (4294967289 ∷ []) second memory later
        (ap (λ (values : List Bits). outcome_of world (Compute (Binary Iadd)) i32 (types (answer_of 2 1) ∷ types constant ∷ [])
        (assigned same_name (constant ∷ []) values (λ x. 0) (answer_of 2 1) ∷ assigned same_name (constant ∷ []) values (λ x. 0) constant ∷ []) memory) firsts
        ∙ more.gives)

-- the calls that build the negated constant and the sum
abbrev negated_calls : Script
negated_calls = building (computing (Iconst (negsuc 6)) i32 []) ∷ building sum ∷ []

-- types by the ledgers
abbrev types : NameTypes
types = record {
  plain = λ x. or_invalid (type_of (fold ledger_with (ledger_after begun_script) negated_calls) x);
  script = λ x. or_invalid (type_of (ledger_with_call (ledger_of begun_calls) (Emit [] (seven_more (answer_of 2 1)))) x);
}

-- what the sum with minus seven is of zero; and seven or nothing, which isn't that
abbrev wrong_sum : Bits
wrong_sum = 4294967289

abbrev seven_or_nothing : Bool → Bits
seven_or_nothing c = if c then 7 else 0

other : (c : Bool) → seven_or_nothing c ≡ wrong_sum → ⊥
other true is = cc
other false is = cc

module _ (world : World) (reading : Reading) where
  abbrev emitted : Reading
  emitted = reading_emitted reading (ledger_after begun_script) (ledger_of begun_calls) (computing (Iconst (negsuc 6)) i32 [] ∷ [])

  refused : (given : List Name) → AllZip (IsReadAs emitted) given (answer_of 3 0 ∷ [])
      → PerformsIn world emitted types (seven_more (answer_of 2 1)) given negated_code (λ x. 0) (λ x. 0) world.memory → ⊥
  refused [] named did = absurd named
  refused (x ∷ y ∷ given) named did = absurd named.1
  refused (x ∷ []) named did = other (same_name result x) (sym held)
    where
      values : 7 ∷ [] ≡ did.values
      values = same_values (7 ∷ []) did.values world.memory did.after.memory did.outcome

      held : wrong_sum ≡ seven_or_nothing (same_name result x)
      held =
          sym (there world types.plain did.after did.runs)
          ∙ did.kept result (not_generated emitted result (answer_of 3 0) refl)
          ∙ ap (λ (vs : List Bits). assigned same_name (x ∷ []) vs (λ x. 0) result) (sym values)

  negated : IsPerformed world.pointer_width AreGiven reading (ledger_after begun_script) (ledger_of begun_calls) (computing (Iconst (negsuc 6)) i32 [] ∷ []) sum (seven_more (answer_of 2 1)) → ⊥
  negated is =
      let performs = is.performs types (λ x ty there. ap or_invalid there) (λ x ty there. ap or_invalid there) in
      refused performs.given performs.named
      (performs.performs world (λ x. 0) (λ x. 0) world.memory refl world.holds_bytes (λ x name read. refl) (record { typed = ([], (refl, tt)); operands = (omega arith, tt); claims = tt }))

-- SOUND RUNS --------------------------------------------------------------------------------------------------------------

-- a run that has ended behind three steps
module _ (run : ScriptRun) (ended : Control Item) (stays : (state : ScriptState) → step_at run state ended ≡ state)
    (nothing_next : (P : Item → Type 0) → OfNextItem P ended) (third : (state_after (script_machine run) 3).control ≡ ended) where
  abbrev state : ℕ → ScriptState
  state n = state_after (script_machine run) n

  stays_ended : (n : ℕ) → (state (suc (suc (suc n)))).control ≡ ended
  stays_ended zero = third
  stays_ended (suc n) =
      let before = stays_ended n in
      ap (λ (control : Control Item). (step_at run (state (suc (suc (suc n)))) control).control) before
      ∙ ap (λ (s : ScriptState). s.control) (stays (state (suc (suc (suc n))))) ∙ before

  -- what holds in the first three states holds in each step
  in_each_step : (P : ScriptState → Item → Type 0) → OfNextItem (P (state 0)) (state 0).control
      → OfNextItem (P (state 1)) (state 1).control → OfNextItem (P (state 2)) (state 2).control → InEachStep P run
  in_each_step P first second later zero = first
  in_each_step P first second later (suc zero) = second
  in_each_step P first second later (suc (suc zero)) = later
  in_each_step P first second later (suc (suc (suc n))) =
      subst (λ (control : Control Item). OfNextItem (P (state (suc (suc (suc n))))) control) (sym (stays_ended n)) (nothing_next _)

module _ (world : World) where
  -- it has returned behind three steps
  sound : IsSoundRun (run_of negating world)
  sound = record {
    takes_types = in_each_step (run_of negating world) (HasReturned (4294967291 ∷ [])) (λ state. refl) (λ Q. tt) refl
        (TakesTyped (run_of negating world)) ([], tt) ([], (refl, tt)) (_, refl);
    takes_values = in_each_step (run_of negating world) (HasReturned (4294967291 ∷ [])) (λ state. refl) (λ Q. tt) refl
        (TakesValues (run_of negating world)) tt (omega arith, tt) (omega arith, tt);
    claims_true = in_each_step (run_of negating world) (HasReturned (4294967291 ∷ [])) (λ state. refl) (λ Q. tt) refl
        (ClaimsAreTrue (run_of negating world)) tt tt tt;
  }

  -- the block ends there without a terminator
  sound_calls : (hidden : ℕ → Bool) → IsSoundRun (calls_run summing_calls hidden world)
  sound_calls hidden = record {
    takes_types = in_each_step (calls_run summing_calls hidden world) IsStuck (λ state. refl) (λ Q. tt) refl
        (TakesTyped (calls_run summing_calls hidden world)) ([], tt) ([], (refl, tt)) tt;
    takes_values = in_each_step (calls_run summing_calls hidden world) IsStuck (λ state. refl) (λ Q. tt) refl
        (TakesValues (calls_run summing_calls hidden world)) tt (omega arith, tt) tt;
    claims_true = in_each_step (calls_run summing_calls hidden world) IsStuck (λ state. refl) (λ Q. tt) refl
        (ClaimsAreTrue (calls_run summing_calls hidden world)) tt tt tt;
  }

  narrow : IsSoundRun (narrow_run world) → ⊥
  narrow sound = let value = (sound.takes_values 1).0 in absurd (omega (arith, value))

pub examples : (world : World) → JoinedRunExamples world
examples world = record {
  performed = (
    _,
    (constant_calls_are_performed.adds (pos 7)).joined ScriptCalls.begun.0 begun_script begun_calls i32 (answer_of 2 1) (answer_of 2 1) ScriptCalls.begun.1 refl,
    (constant_calls_are_performed.adds (pos 7)).performed world.pointer_width ScriptCalls.begun.0 begun_script begun_calls i32 (answer_of 2 1) (answer_of 2 1) ScriptCalls.begun.1 tt refl refl,
  );
  sound_calls = sound_calls world;
  negated = negated world;
  sound = sound world;
  narrow = narrow world;
}
