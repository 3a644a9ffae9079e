-- What `finalize` answers, and what it makes of the function. Source: the crate's documentation of `finalize`; the statement is own.
use Rattle.std.specs.Prelude.{◌≡◌, ◌≢◌, ℕ, List, [], ◌∷◌, length, Option, Some, None, Result, Ok, Err}
use Rattle.clif_types.specs.EntitySet.{has}
use Rattle.clif_types.specs.Signature.{SignatureShape}
use Rattle.clif_types.specs.declared.target.PointerWidth.{PointerWidth}
use Rattle.clif_types.specs.declared.types.«Type».{«Type»}
use Rattle.clif_ir.specs.Body.{Body}
use Rattle.clif_meaning.specs.Acceptance.{Refusal}
use Rattle.clif_meaning.specs.Premises.{CallersEdgesMatch, PlacementPremises}
use Rattle.clif_meaning.specs.Request.{AnsweredCall, script_of}
use Rattle.clif_meaning.specs.Typing.{EdgesMatch}
use Rattle.clif_meaning.specs.View.{view_of}
use Rattle.clif_meaning.specs.WellPlaced.{Records, RecordsWellPlaced, WellPlaced}
use Rattle.clif_safepoints.specs.Contexts.{IsFirstTracked}
use Rattle.clif_regions.specs.Asking.{Asks, CarriesAnswersOf}
use Rattle.clif_spiller.specs.Keeping.{Keeps}
use Rattle.clif_spiller.specs.Spills.{Spills}
use Rattle.clif_records.specs.Tracking.{recorded_of}
use Rattle.clif_simulation.specs.Marked.{MeansTheSameMoving}
use Rattle.clif_simulation.specs.Structure.{AreRecords, LeavesNoParameter}
use Rattle.clif_builder.specs.declared.builder.FunctionBuilder.{FunctionBuilder}
use Rattle.clif_builder.specs.declared.error.FinalizeError.{FinalizeError}
use Rattle.clif_builder.specs.declared.error.FinalizeError.TheVariants.{Full, Memory, TrackedContext}
use Rattle.clif_builder.specs.Builder.{verdict_of}
use Rattle.clif_builder.specs.Ledger.{RefusalAgrees}
use Rattle.clif_builder.specs.Recorded.{RecordsExactly}

-- the values that stack maps need
abbrev pub recorded_in : {R : Type 0} → FunctionBuilder R → List ℕ
recorded_in b = recorded_of b.ctx.now.parts.ssa.tracking

-- The answer about contexts and spills: the first try call that is reached and has a recorded context, if there is one. Memory may be
-- refused, and a table may be full, but not where no value is recorded.
abbrev pub TellsContext : Body → List ℕ → Result (Unit {0}) FinalizeError → Type 0
TellsContext f recorded (Ok u) = IsFirstTracked f recorded None
TellsContext f recorded (Err (TrackedContext inst)) = IsFirstTracked f recorded (Some inst)
TellsContext f recorded (Err Memory) = recorded ≢ []
TellsContext f recorded (Err Full) = recorded ≢ []
TellsContext f recorded (Err other) = ⊥

-- what the builder or its blocks lack comes first
abbrev pub EndsWith : Result (Unit {0}) FinalizeError → Body → List ℕ → Result (Unit {0}) FinalizeError → Type 0
EndsWith (Err lack) f recorded answer = answer ≡ Err lack
EndsWith (Ok u) f recorded answer = TellsContext f recorded answer

-- what a builder answers
abbrev pub Ends : {R : Type 0} → FunctionBuilder R → Result (Unit {0}) FinalizeError → Type 0
Ends b answer = EndsWith (verdict_of b.failed b.ctx.now.parts (length b.func.now.blocks)) b.func.now (recorded_in b) answer

-- What is answered by the ledger of the calls: what that refuses, or else what is told of contexts and spills.
abbrev pub EndsByLedger : List AnsweredCall → Option Refusal → Body → (recorded : List ℕ) → Result (Unit {0}) FinalizeError → Type 0
EndsByLedger calls None f recorded answer = TellsContext f recorded answer
EndsByLedger calls (Some refusal) f recorded answer = RefusalAgrees calls (Some refusal) answer

-- what the spiller answers
abbrev pub TellsSpill : Result (Unit {0}) FinalizeError → Type 0
TellsSpill (Ok u) = Unit {0}
TellsSpill (Err Memory) = Unit {0}
TellsSpill (Err Full) = Unit {0}
TellsSpill (Err other) = ⊥

-- it isn't run where no value is recorded
abbrev pub TellsSpilling : List ℕ → Result (Unit {0}) FinalizeError → Type 0
TellsSpilling [] answer = answer ≡ Ok tt
TellsSpilling (value ∷ recorded) answer = TellsSpill answer

-- what is answered after a verdict on the builder's parts
abbrev pub AnswersAfter : (verdict : Result (Unit {0}) FinalizeError) → List ℕ → Result (Unit {0}) FinalizeError → Type 0
AnswersAfter (Err lack) recorded answer = answer ≡ Err lack
AnswersAfter (Ok u) recorded answer = TellsSpilling recorded answer

-- What becomes of a function: where no value is recorded it stays, and else the recorded values that live across calls are spilled.
abbrev pub BecomesSpilled : Body → (recorded : List ℕ) → (pointer : «Type») → Body → Type 0
BecomesSpilled f [] pointer g = g ≡ f
BecomesSpilled f (value ∷ recorded) pointer g = Keeps (length f.blocks) f g × Spills f (value ∷ recorded) pointer g

-- What becomes of a function at its end: values are spilled, and then a callback, if there is one, is asked for the alias region of each
-- access that came to the function. Instructions that come to a function have numbers from the count of those before on, by the order in
-- which they were inserted.
pub record BecomesFinished {C : Type 0} (f : Body) (recorded : List ℕ) (pointer : «Type») (callback : Option C) (asks_of : C → Asks) (g : Body) : Type 0 where
  pub between : Body
  pub spilled : BecomesSpilled f recorded pointer between
  pub regions : CarriesAnswersOf callback asks_of (length f.insts) between g

-- an answer from before the spiller began
abbrev pub IsBeforeSpilling : Result (Unit {0}) FinalizeError → Type 0
IsBeforeSpilling (Ok u) = ⊥
IsBeforeSpilling (Err Memory) = ⊥
IsBeforeSpilling (Err Full) = ⊥
IsBeforeSpilling (Err other) = Unit {0}

-- What is so of the function as `finalize` finds it, before values are spilled.
pub record AsFound {R : Type 0} (signature : SignatureShape) (width : PointerWidth) (calls : List AnsweredCall) (b : FunctionBuilder R) : Type 0 where
  -- it means what the calls mean, with a collector over the recorded values
  pub moving : MeansTheSameMoving (script_of calls) signature width (view_of b.func.now) (has (recorded_in b))
  -- and these are exactly what the calls ask for
  pub recorded : RecordsExactly calls b.func.now.values b.ctx.now.parts.ssa
  pub parameters : LeavesNoParameter calls b.func.now b.ctx.now.parts.ssa
  pub edges_match : CallersEdgesMatch (script_of calls) → EdgesMatch (view_of b.func.now)
  pub well_placed : PlacementPremises (script_of calls) signature → WellPlaced (view_of b.func.now)
  pub records_well_placed : (records : Records) → AreRecords calls b.func.now b.ctx.now.parts.ssa records
      → PlacementPremises (script_of calls) signature → RecordsWellPlaced (view_of b.func.now) records
