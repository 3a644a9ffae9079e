-- What a replay answers, from what the calls and `finalize` answered.
use Rattle.std.proofs.Common.{arith, ◌≡◌, ◌<◌, ◌≤◌, ℕ, List, [], ◌∷◌, length, refl, ap, sym, ◌∙◌, subst, inl, inr}
use Rattle.std.specs.Prelude.{◌≢◌, ◌⊎◌, Bool, false, true, Err, IfOk, None, Ok, OnOk, Option, Result, Some, option_map, slice_get}
use Rattle.clif_types.specs.Signature.{SignatureShape}
use Rattle.clif_types.specs.Target.{pointer_type_of}
use Rattle.clif_types.specs.declared.extname.UserFuncName.{UserFuncName}
use Rattle.clif_types.specs.declared.target.TargetFrontendConfig.{TargetFrontendConfig}
use Rattle.clif_types.specs.declared.types.«Type».{«Type»}
use Rattle.clif_ir.specs.Body.{Body, empty_body}
use Rattle.clif_meaning.specs.View.{view_of}
use Rattle.clif_meaning.specs.Headline.{MeansTheSame, pointer_bits}
use Rattle.clif_meaning.specs.Premises.{CallersEdgesMatch}
use Rattle.clif_meaning.specs.Ledger.{empty_ledger}
use Rattle.clif_meaning.specs.Typing.{EdgesMatch}
use Rattle.clif_meaning.specs.WellPlaced.{WellPlaced}
use Rattle.clif_meaning.specs.Request.{AnsweredCall, Finalize, script_of}
use Rattle.clif_meaning.specs.Acceptance.{Accepted, Misuse, Refused, refusal_of}
use Rattle.clif_records.specs.Tracking.{recorded_of}
use Rattle.clif_safepoints.specs.Contexts.{IsFirstTracked}
use Rattle.clif_builder.specs.declared.builder.FunctionBuilder.{FunctionBuilder}
use Rattle.clif_builder.specs.declared.error.FinalizeError.{FinalizeError}
use Rattle.clif_builder.specs.declared.error.FinalizeError.TheVariants as ending
use Rattle.clif_builder.specs.Builder.{SameLoans}
use Rattle.clif_regions.specs.Asking.{Asks, CarriesAnswersOf}
use Rattle.clif_builder.proofs.Regions.{alike_of}
use Rattle.clif_builder.specs.Ending.{AsFound, BecomesFinished, BecomesSpilled, EndsByLedger}
use Rattle.clif_builder.specs.Ledger.{ledger_of as plain_ledger_of}
use Rattle.clif_builder.specs.StandsFor.{LeavesNoParameter, StandsFor, StandsIn}
use Rattle.clif_builder.specs.StandsForCalls.{FinishesCalls}
use Rattle.clif_calls.specs.declared.call.Call.{Call}
use Rattle.clif_resolution.specs.declared.answers.CallError.{CallError}
use Rattle.clif_resolution.specs.declared.answers.CallError.TheVariants as error
use Rattle.clif_replay.specs.Errors.{end_error_at, replay_error_at}
use Rattle.clif_replay.specs.declared.script.ReplayError.{ReplayError}
use Rattle.clif_replay.specs.declared.script.ReplayError.TheVariants as replay
use Rattle.clif_replay.specs.Replay.{ReplayMakes, ReplayTells}
use Rattle.clif_replay.specs.Requests.{attempts_of, calls_of, is_refusable}
use Rattle.clif_replay.specs.Replayed.{Found, IsReplayed, IsStoppedByTable, IsStoppedInSpilling, MayBeRefused, TellsVerdict, recorded_in}
use Rattle.clif_expansion.specs.CallsVerdict.{verdict_on_call_attempts}
use Rattle.clif_replay.proofs.Asking.{recorded_as_asked}
use Rattle.clif_replay.proofs.FirstRegions.{none_built, none_spilled}
use Rattle.clif_replay.proofs.Verdicts.{all-replayed, full-spilling, verdict-accepted, verdict-refused}

-- it keeps its name
pub spilled-name : (f g : Body) (recorded : List ℕ) (pointer : «Type») → BecomesSpilled f recorded pointer g → g.name ≡ f.name
spilled-name f g [] pointer same = ap (λ (x : Body). x.name) same
spilled-name f g (value ∷ recorded) pointer spilled = spilled.0.name

pub finished-name : {C : Type 0} (f g : Body) (recorded : List ℕ) (pointer : «Type») (callback : Option C) (asks_of : C → Asks) → BecomesFinished f recorded pointer callback asks_of g → g.name ≡ f.name
finished-name f g recorded pointer callback asks_of become =
    sym (ap (λ (x : Body). x.name) (alike_of callback asks_of (length f.insts) become.between g become.regions)) ∙ spilled-name f become.between recorded pointer become.spilled

-- the callback, by what it is asked
carries-mapped : {C D : Type 0} (callback : Option C) (ask : C → D) (asks_of : D → Asks) (first : ℕ) (old new : Body) → CarriesAnswersOf callback (λ c. asks_of (ask c)) first old new
    → CarriesAnswersOf (option_map ask callback) asks_of first old new
carries-mapped None ask asks_of first old new carries = carries
carries-mapped (Some one) ask asks_of first old new carries = carries

pub finished-mapped : {C D : Type 0} (f g : Body) (recorded : List ℕ) (pointer : «Type») (callback : Option C) (ask : C → D) (asks_of : D → Asks) (region : Option D) → option_map ask callback ≡ region
    → BecomesFinished f recorded pointer callback (λ c. asks_of (ask c)) g → BecomesFinished f recorded pointer region asks_of g
finished-mapped {D = D} f g recorded pointer callback ask asks_of region is become = record {
  between = become.between;
  spilled = become.spilled;
  regions = subst (λ (r : Option D). CarriesAnswersOf r asks_of (length f.insts) become.between g) is (carries-mapped callback ask asks_of (length f.insts) become.between g become.regions);
}

-- what `finalize` finds, once all calls were made
abbrev pub found-by : {R : Type 0} (calls : List Call) (declared : SignatureShape) (config : TargetFrontendConfig) (made : List AnsweredCall) (b : FunctionBuilder R) → StandsFor declared made b
    → IsReplayed config declared calls (length calls) made → Found config calls declared
found-by calls declared config made b stands replayed = record {
  function = b.func.now;
  made = made;
  plain = all-replayed config declared calls made replayed;
  context = b.ctx.now.parts;
  position = b.position;
  stands = stands;
  recorded =
      let plain = all-replayed config declared calls made replayed in
      recorded_as_asked (calls_of config declared calls) plain.reading made b.func.now.values b.ctx.now.parts plain.joined stands.ledger.tracks;
}

-- all calls were made, and `finalize` succeeded: `f` is the function that it left
pub finished-replay : {C : Type 0} {R : Type 0} (callback : Option C) (asks_of : C → Asks) (calls : List Call) (declared : SignatureShape) (config : TargetFrontendConfig) (made : List AnsweredCall) (b : FunctionBuilder R) (f : Body) (r : Result (Unit {0}) FinalizeError)
    → (named : UserFuncName) → f.name ≡ named → BecomesFinished b.func.now (recorded_of b.ctx.now.parts.ssa.tracking) (pointer_type_of config.pointer_width) callback asks_of f
    → StandsFor declared made b → IsReplayed config declared calls (length calls) made
    → FinishesCalls (calls_of config declared calls) declared config.pointer_width b.func.now f
    → AsFound declared config.pointer_width made b
    → EndsByLedger made (refusal_of (plain_ledger_of made) Finalize) b.func.now (recorded_of b.ctx.now.parts.ssa.tracking) r → r ≡ Ok tt
    → ReplayMakes calls named declared config callback asks_of f
finished-replay callback asks_of calls declared config made b f r named name become stands replayed finishes found ends is =
    let accepted = verdict-accepted config declared calls made b.func.now (recorded_of b.ctx.now.parts.ssa.tracking) r replayed ends is in
    record {
      same_meaning = finishes.same_meaning;
      built = record {
        between = become.between;
        built = record {
          found = found-by calls declared config made b stands replayed;
          parameters = found.parameters;
          well_placed = finishes.well_placed;
          contexts = accepted.1;
          spilled = become.spilled;
        };
        begins =
            none_spilled b.func.now become.between (recorded_of b.ctx.now.parts.ssa.tracking) (pointer_type_of config.pointer_width) become.spilled
            ∙ none_built declared made b.func.now b.ctx.now.parts b.position stands;
        regions = become.regions;
      };
      edges_match = finishes.edges_match;
      named = name;
      accepted = accepted.0;
    }

-- the function is this one
pub finished-as : {C : Type 0} (callback : Option C) (asks_of : C → Asks) (calls : List Call) (old : Body) (config : TargetFrontendConfig) (start f g : Body) → start ≡ old → g ≡ f
    → ReplayMakes calls start.name start.signature config callback asks_of f → ReplayMakes calls old.name old.signature config callback asks_of g
finished-as callback asks_of calls old config start f g begins ends done =
    subst (λ (x : Body). ReplayMakes calls x.name x.signature config callback asks_of g) begins
    (subst (λ (x : Body). ReplayMakes calls start.name start.signature config callback asks_of x) (sym ends) done)

-- `finalize` refused, which tells the verdict
pub told-refused : (config : TargetFrontendConfig) (calls : List Call) (start old : Body) → start ≡ old
    → TellsVerdict config calls start.signature (Err (replay.Refused (length calls)))
    → ReplayTells calls old.name old.signature config (Err (replay.Refused (length calls)))
told-refused config calls start old begins tells =
    subst (λ (x : Body). ReplayTells calls x.name x.signature config (Err (replay.Refused (length calls)))) begins (record {
      misuse = λ i told. absurd (no-misuse i told);
      refused = λ i told. inl (sym (same i told));
      table_full = λ told. absurd (no-full told);
      verdict = λ not_memory not_full. tells;
    })
  where
    no-misuse : (i : ℕ) → ◌≡◌ {A = Result Body ReplayError} (Err (replay.Refused (length calls))) (Err (replay.Misuse i)) → ⊥
    no-misuse i h = cc

    no-full : ◌≡◌ {A = Result Body ReplayError} (Err (replay.Refused (length calls))) (Err replay.Full) → ⊥
    no-full h = cc

    same : (i : ℕ) → ◌≡◌ {A = Result Body ReplayError} (Err (replay.Refused (length calls))) (Err (replay.Refused i)) → length calls ≡ i
    same i h = cc

-- by the verdict, or for a context
pub refused-for : (config : TargetFrontendConfig) (calls : List Call) (declared : SignatureShape) (found : Found config calls declared)
    → (verdict_on_call_attempts (attempts_of config declared calls) ≡ Refused (length calls))
    ⊎ ((verdict_on_call_attempts (attempts_of config declared calls) ≡ Accepted) × ((inst : ℕ) × IsFirstTracked found.function (recorded_in found) (Some inst)))
    → TellsVerdict config calls declared (Err (replay.Refused (length calls)))
refused-for config calls declared found (inl verdict) = inl (ap Some (sym verdict))
refused-for config calls declared found (inr (verdict, (inst, tracked))) = inr (refl, record { accepted = verdict; found = found; inst = inst; tracked = tracked })

-- a table was full while values were spilled
pub told-full : (config : TargetFrontendConfig) (calls : List Call) (start old : Body) → start ≡ old → IsStoppedInSpilling config calls start.signature
    → ReplayTells calls old.name old.signature config (Err replay.Full)
told-full config calls start old begins stopped =
    subst (λ (x : Body). ReplayTells calls x.name x.signature config (Err replay.Full)) begins (record {
      misuse = λ i told. absurd (no-misuse i told);
      refused = λ i told. absurd (no-refusal i told);
      table_full = λ told. inr stopped;
      verdict = λ not_memory not_full. absurd (not_full refl);
    })
  where
    no-misuse : (i : ℕ) → ◌≡◌ {A = Result Body ReplayError} (Err replay.Full) (Err (replay.Misuse i)) → ⊥
    no-misuse i h = cc

    no-refusal : (i : ℕ) → ◌≡◌ {A = Result Body ReplayError} (Err replay.Full) (Err (replay.Refused i)) → ⊥
    no-refusal i h = cc

-- memory was refused
pub told-memory : (config : TargetFrontendConfig) (calls : List Call) (old : Body) → ReplayTells calls old.name old.signature config (Err replay.Memory)
told-memory config calls old = record {
  misuse = λ i told. absurd (no-misuse i told);
  refused = λ i told. absurd (no-refusal i told);
  table_full = λ told. absurd (no-full told);
  verdict = λ not_memory not_full. absurd (not_memory refl);
}
  where
    no-misuse : (i : ℕ) → ◌≡◌ {A = Result Body ReplayError} (Err replay.Memory) (Err (replay.Misuse i)) → ⊥
    no-misuse i h = cc

    no-refusal : (i : ℕ) → ◌≡◌ {A = Result Body ReplayError} (Err replay.Memory) (Err (replay.Refused i)) → ⊥
    no-refusal i h = cc

    no-full : ◌≡◌ {A = Result Body ReplayError} (Err replay.Memory) (Err replay.Full) → ⊥
    no-full h = cc

-- `finalize` refused neither for memory nor for a full table
abbrev is_other : FinalizeError → Bool
is_other ending.Memory = false
is_other ending.Full = false
is_other _ = true

other-than : (e other : FinalizeError) → is_other e ≡ true → is_other other ≡ false → e ≢ other
other-than e other is isnt same = let no_way : true ≡ false = sym is ∙ ap is_other same ∙ isnt in let never : ⊥ = cc in never

-- all calls were made, and `finalize` refused
pub told-end : {R : Type 0} (config : TargetFrontendConfig) (calls : List Call) (start old : Body) → start ≡ old → (made : List AnsweredCall) (b : FunctionBuilder R) (r : Result (Unit {0}) FinalizeError) (e : FinalizeError)
    → StandsFor start.signature made b → IsReplayed config start.signature calls (length calls) made
    → EndsByLedger made (refusal_of (plain_ledger_of made) Finalize) b.func.now (recorded_of b.ctx.now.parts.ssa.tracking) r → r ≡ Err e
    → ReplayTells calls old.name old.signature config (Err (end_error_at e (length calls)))
told-end config calls start old begins made b r e stands replayed ends is = by e is
  where
    refused : (error : FinalizeError) → r ≡ Err error → is_other error ≡ true → ReplayTells calls old.name old.signature config (Err (replay.Refused (length calls)))
    refused error at other =
        told-refused config calls start old begins
        (refused-for config calls start.signature (found-by calls start.signature config made b stands replayed)
        (verdict-refused config start.signature calls made b.func.now (recorded_of b.ctx.now.parts.ssa.tracking) r error replayed ends at
        (other-than error ending.Memory other refl) (other-than error ending.Full other refl)))

    by : (error : FinalizeError) → r ≡ Err error → ReplayTells calls old.name old.signature config (Err (end_error_at error (length calls)))
    by ending.Memory at = told-memory config calls old
    by ending.Full at =
        told-full config calls start old begins (record {
          found = found-by calls start.signature config made b stands replayed;
          some = full-spilling made b.func.now (recorded_of b.ctx.now.parts.ssa.tracking) r ends at;
        })
    by ending.Failed at = refused ending.Failed at refl
    by (ending.Unsealed block) at = refused (ending.Unsealed block) at refl
    by (ending.Unfilled block) at = refused (ending.Unfilled block) at refl
    by (ending.TrackedContext inst) at = refused (ending.TrackedContext inst) at refl

-- a function was made
pub told-answer : (config : TargetFrontendConfig) (calls : List Call) (name : UserFuncName) (declared : SignatureShape) (f : Body) → verdict_on_call_attempts (attempts_of config declared calls) ≡ Accepted → ReplayTells calls name declared config (Ok f)
told-answer config calls name declared f accepted = record {
  misuse = λ i told. absurd (no-error (replay.Misuse i) told);
  refused = λ i told. absurd (no-error (replay.Refused i) told);
  table_full = λ told. absurd (no-error replay.Full told);
  verdict = λ not_memory not_full. inl (ap Some (sym accepted));
}
  where
    no-error : (e : ReplayError) → ◌≡◌ {A = Result Body ReplayError} (Ok f) (Err e) → ⊥
    no-error e h = cc

-- the error is this one, of a replay with this name and this signature
pub told-as : (config : TargetFrontendConfig) (calls : List Call) (name : UserFuncName) (declared : SignatureShape) (start : Body) (e : ReplayError) (back : Result Body ReplayError) → start ≡ empty_body name declared → back ≡ Err e
    → ReplayTells calls start.name start.signature config (Err e) → ReplayTells calls name declared config back
told-as config calls name declared start e back begins came told =
    subst (λ (r : Result Body ReplayError). ReplayTells calls name declared config r) (sym came)
    (subst (λ (x : Body). ReplayTells calls x.name x.signature config (Err e)) begins told)

-- nothing is said of a function where there is none
pub of-none : (back : Result Body ReplayError) (e : ReplayError) (P : Body → Type 0) → back ≡ Err e → IfOk back P
of-none back e P came = subst (λ (r : Result Body ReplayError). IfOk r P) (sym came) tt

-- Calls of a list were made on a builder: all of them, or those before the one that ended them.
pub record AreMade {R : Type 0} (config : TargetFrontendConfig) (calls : List Call) (old new : FunctionBuilder R) (result : Result (Unit {0}) ReplayError) : Type 0 where
  pub loans : SameLoans old new
  pub name : OnOk result (new.func.now.name ≡ old.func.now.name)
  pub ready : OnOk result ((made : List AnsweredCall) × StandsFor old.func.now.signature made new × IsReplayed config old.func.now.signature calls (length calls) made)
  pub sound : OnOk result (new.failed ≡ false)
  pub misuse : (i : ℕ) → result ≡ Err (replay.Misuse i) → i < length calls
  pub judged : (i : ℕ) → result ≡ Err (replay.Misuse i) → verdict_on_call_attempts (attempts_of config old.func.now.signature calls) ≡ Misuse i
  pub tried : (i : ℕ) → result ≡ Err (replay.Refused i) → MayBeRefused calls i
  pub refused : (i : ℕ) → result ≡ Err (replay.Refused i) → verdict_on_call_attempts (attempts_of config old.func.now.signature calls) ≡ Refused i
  pub table_full : result ≡ Err replay.Full → IsStoppedByTable config calls old.func.now.name old.func.now.signature

-- loans are kept over two steps
pub loans-then : {R : Type 0} (old middle new : FunctionBuilder R) → SameLoans old middle → SameLoans middle new → SameLoans old new
loans-then old middle new first second = record { func = second.func ∙ first.func; ctx = second.ctx ∙ first.ctx; region = second.region ∙ first.region }

-- memory was refused on the way
pub made-memory : {R : Type 0} (config : TargetFrontendConfig) (calls : List Call) (old new : FunctionBuilder R) (result : Result (Unit {0}) ReplayError) → result ≡ Err replay.Memory → SameLoans old new → AreMade config calls old new result
made-memory config calls old new result is loans = subst (λ (r : Result (Unit {0}) ReplayError). AreMade config calls old new r) (sym is) (record {
  loans = loans;
  name = tt;
  ready = tt;
  sound = tt;
  misuse = λ i told. absurd (no-misuse i told);
  judged = λ i told. absurd (no-misuse i told);
  tried = λ i told. absurd (no-refusal i told);
  refused = λ i told. absurd (no-refusal i told);
  table_full = λ told. absurd (no-full told);
})
  where
    no-misuse : (i : ℕ) → ◌≡◌ {A = Result (Unit {0}) ReplayError} (Err replay.Memory) (Err (replay.Misuse i)) → ⊥
    no-misuse i h = cc

    no-refusal : (i : ℕ) → ◌≡◌ {A = Result (Unit {0}) ReplayError} (Err replay.Memory) (Err (replay.Refused i)) → ⊥
    no-refusal i h = cc

    no-full : ◌≡◌ {A = Result (Unit {0}) ReplayError} (Err replay.Memory) (Err replay.Full) → ⊥
    no-full h = cc

-- all calls were made
pub made-all : {R : Type 0} (config : TargetFrontendConfig) (calls : List Call) (old new : FunctionBuilder R) (made : List AnsweredCall) → SameLoans old new → new.func.now.name ≡ old.func.now.name
    → StandsFor old.func.now.signature made new → IsReplayed config old.func.now.signature calls (length calls) made → new.failed ≡ false → AreMade config calls old new (Ok tt)
made-all config calls old new made loans name stands replayed sound = record {
  loans = loans;
  name = name;
  ready = (made, stands, replayed);
  sound = sound;
  misuse = λ i told. absurd (no-error (replay.Misuse i) told);
  judged = λ i told. absurd (no-error (replay.Misuse i) told);
  tried = λ i told. absurd (no-error (replay.Refused i) told);
  refused = λ i told. absurd (no-error (replay.Refused i) told);
  table_full = λ told. absurd (no-error replay.Full told);
}
  where
    no-error : (e : ReplayError) → ◌≡◌ {A = Result (Unit {0}) ReplayError} (Ok tt) (Err e) → ⊥
    no-error e h = cc

-- the error of a call is told at its place
pub misuse-place : (refusal : CallError) (place i : ℕ) (told : ReplayError) → told ≡ replay_error_at refusal place → ◌≡◌ {A = Result (Unit {0}) ReplayError} (Err told) (Err (replay.Misuse i)) → i ≡ place
misuse-place (error.Misuse why) place i told at is = cc
misuse-place (error.Refused why) place i told at is = let no_way : ⊥ = cc in absurd no_way
misuse-place error.Memory place i told at is = let no_way : ⊥ = cc in absurd no_way
misuse-place error.Full place i told at is = let no_way : ⊥ = cc in absurd no_way

-- the call at a place was only tried
pub refused-there : (calls : List Call) (place i : ℕ) (c : Call) → slice_get calls place ≡ Some c → is_refusable c ≡ true → place ≡ i → MayBeRefused calls i
refused-there calls place i c here tried is = inr (c, ap (slice_get calls) (sym is) ∙ here, tried)

-- a loop ends at the length
pub last-place : (place end : ℕ) → place ≤ end → end ≤ place → place ≡ end
last-place place end inside over = omega arith
